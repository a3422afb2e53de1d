-- Counts grow by at most one with each record.
use Rattle.std.proofs.Common.{ℕ, ◌+◌, ◌<◌, ◌≤◌, Bool, true, false, cond, eqb, arith}
use Rattle.records.specs.Stream.{Rec, a_stop, a_walk, a_connection, a_point, an_arc}
use Rattle.files.specs.declared.rows.Counts.{Counts}
use Rattle.files.specs.Counting.{counted, AtMost, Few, none}

either : (b : Bool) (k m : ℕ) → k < m → cond b (k + 1) k ≤ m
either true k m h = omega arith
either false k m h = omega arith

pub one_more : (n : Counts) (r : Rec) (a b : ℕ) → AtMost a n → a < b → AtMost b (counted n r)
one_more n (a_stop name) a b h l = record { stops = omega (arith, h.stops); walks = omega (arith, h.walks); timetables = omega (arith, h.timetables); connections = omega (arith, h.connections); roads = omega (arith, h.roads); points = omega (arith, h.points); arcs = omega (arith, h.arcs) }
one_more n (a_walk w) a b h l = record { stops = omega (arith, h.stops); walks = omega (arith, h.walks); timetables = omega (arith, h.timetables); connections = omega (arith, h.connections); roads = omega (arith, h.roads); points = omega (arith, h.points); arcs = omega (arith, h.arcs) }
one_more n (a_connection k c) a b h l = record {
  stops = omega (arith, h.stops);
  walks = omega (arith, h.walks);
  timetables = either (eqb k (n.walks + n.timetables)) n.timetables b (omega (arith, h.timetables));
  connections = omega (arith, h.connections);
  roads = omega (arith, h.roads);
  points = omega (arith, h.points);
  arcs = omega (arith, h.arcs);
}
one_more n (a_point k p) a b h l = record {
  stops = omega (arith, h.stops);
  walks = omega (arith, h.walks);
  timetables = omega (arith, h.timetables);
  connections = omega (arith, h.connections);
  roads = either (eqb k (n.walks + n.timetables + n.roads)) n.roads b (omega (arith, h.roads));
  points = omega (arith, h.points);
  arcs = omega (arith, h.arcs);
}
one_more n (an_arc x) a b h l = record { stops = omega (arith, h.stops); walks = omega (arith, h.walks); timetables = omega (arith, h.timetables); connections = omega (arith, h.connections); roads = omega (arith, h.roads); points = omega (arith, h.points); arcs = omega (arith, h.arcs) }

pub few : (n : Counts) (a : ℕ) → AtMost a n → a ≤ 4294967295 → Few n
few n a h l = record { stops = omega (arith, h.stops); walks = omega (arith, h.walks); timetables = omega (arith, h.timetables); connections = omega (arith, h.connections); roads = omega (arith, h.roads); points = omega (arith, h.points); arcs = omega (arith, h.arcs) }

pub none_yet : (a : ℕ) → AtMost a none
none_yet a = record { stops = omega arith; walks = omega arith; timetables = omega arith; connections = omega arith; roads = omega arith; points = omega arith; arcs = omega arith }
