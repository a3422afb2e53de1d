-- The counts of a file's records.
use Rattle.std.specs.Prelude.{ℕ, ◌+◌, ◌≤◌, cond, List, [], ◌∷◌, ◌==◌}
use Rattle.records.specs.Stream.{Rec, a_stop, a_walk, a_connection, a_point, an_arc}
use Rattle.files.specs.declared.rows.Counts.{Counts}

abbrev pub none : Counts
none = record { stops = 0; walks = 0; timetables = 0; connections = 0; roads = 0; points = 0; arcs = 0 }

-- the counts with one record more; a timetable or road is counted with its first row
abbrev pub counted : Counts → Rec → Counts
counted n (a_stop name) = record { stops = n.stops + 1; walks = n.walks; timetables = n.timetables; connections = n.connections; roads = n.roads; points = n.points; arcs = n.arcs }
counted n (a_walk w) = record { stops = n.stops; walks = n.walks + 1; timetables = n.timetables; connections = n.connections; roads = n.roads; points = n.points; arcs = n.arcs }
counted n (a_connection k c) = record {
  stops = n.stops;
  walks = n.walks;
  timetables = cond (k == n.walks + n.timetables) (n.timetables + 1) n.timetables;
  connections = n.connections + 1;
  roads = n.roads;
  points = n.points;
  arcs = n.arcs;
}
counted n (a_point k p) = record {
  stops = n.stops;
  walks = n.walks;
  timetables = n.timetables;
  connections = n.connections;
  roads = cond (k == n.walks + n.timetables + n.roads) (n.roads + 1) n.roads;
  points = n.points + 1;
  arcs = n.arcs;
}
counted n (an_arc a) = record { stops = n.stops; walks = n.walks; timetables = n.timetables; connections = n.connections; roads = n.roads; points = n.points; arcs = n.arcs + 1 }

-- the counts with the records of a list
unfoldable pub counted_all : Counts → List Rec → Counts
counted_all n [] = n
counted_all n (r ∷ rs) = counted_all (counted n r) rs

-- no count is above a limit
pub record AtMost (limit : ℕ) (n : Counts) : Type 0 where
  pub stops : n.stops ≤ limit
  pub walks : n.walks ≤ limit
  pub timetables : n.timetables ≤ limit
  pub connections : n.connections ≤ limit
  pub roads : n.roads ≤ limit
  pub points : n.points ≤ limit
  pub arcs : n.arcs ≤ limit

-- few enough to be added up
abbrev pub Few : Counts → Type 0
Few n = AtMost 4294967295 n
