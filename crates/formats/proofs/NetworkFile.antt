-- The laws of the network file, part by part.
use Rattle.std.proofs.Common.{◌≡◌, ℕ, ◌+◌, ◌-◌, ◌^◌, ◌≤◌, leb, length, Some, None, Option, refl, ap, arith, lit<}
use Rattle.model.specs.declared.tables.Point.{Point}
use Rattle.model.specs.declared.refusal.Refusal.TheVariants.{OtherForm, StopCount, NameLength, ServiceField, ArcCount, ArcField, NoSuchService, TailFalls}
use Rattle.model.specs.Clock.{horizon}
use Rattle.wire.specs.Grammar.{LawfulFormat, ranged, below, since, both}
use Rattle.wire.proofs.Laws.{ranged_lawful, below_lawful, since_lawful, exactly_lawful, text_lawful, checked_lawful, both_lawful, mapped_lawful, counted_lawful, plain_lawful}
use Rattle.formats.specs.NetworkFile.{form, stop, stop_count, stops, run_count, walk, walks, times, connection_of, times_of, Departs, connection, departed, connection_count, timetable, timetables, second_before, least_second, least_reached, seconds, reached, point_of, seconds_of, Rises, point, passed, point_count, road, roads, fields, arc_of, fields_of, Joins, any_arc, arc, left, arc_count, arcs, runs, contents_of, runs_of, FineNetwork, network}

pub stop_lawful : LawfulFormat stop
stop_lawful = text_lawful (ranged 1 40 NameLength) (ranged_lawful 1 40 NameLength (lit< tt))

pub stops_lawful : LawfulFormat stops
stops_lawful = plain_lawful stop_count stop (ranged_lawful 1 1024 StopCount (lit< tt)) stop_lawful

pub run_count_lawful : LawfulFormat run_count
run_count_lawful = ranged_lawful 0 4096 ServiceField (lit< tt)

pub walk_lawful : LawfulFormat walk
walk_lawful = ranged_lawful 0 86400 ServiceField (lit< tt)

pub walks_lawful : LawfulFormat walks
walks_lawful = plain_lawful run_count walk run_count_lawful walk_lawful

pub connection_lawful : (last : ℕ) → LawfulFormat (connection last)
connection_lawful last =
    mapped_lawful connection_of times_of (Departs last) (times last)
    (λ x fine. ((fine.0.0, fine.1.0, fine.1.2), refl))
    (λ c fine. (((fine.0, omega arith, omega (arith, fine.1, fine.2)), (fine.1, omega arith, fine.2)), refl))
    (both_lawful (since last 0 horizon ServiceField) (λ departure. since departure 0 horizon ServiceField) (since_lawful last 0 horizon ServiceField (lit< tt)) (λ departure _. since_lawful departure 0 horizon ServiceField (lit< tt)))

pub timetable_lawful : LawfulFormat timetable
timetable_lawful = counted_lawful connection departed connection_lawful connection_count 0 (ranged_lawful 1 512 ServiceField (lit< tt))

pub timetables_lawful : LawfulFormat timetables
timetables_lawful = plain_lawful run_count timetable run_count_lawful timetable_lawful

-- the gap counts from a second that is before the least one
before_least : (before : Option Point) → second_before before ≤ least_second before
before_least None = omega arith
before_least (Some p) = omega arith

pub point_lawful : (before : Option Point) → LawfulFormat (point before)
point_lawful before =
    mapped_lawful point_of seconds_of (Rises before) (seconds before)
    (λ x fine. let back : x.0 + (x.1 - x.0) ≡ x.1 = omega (arith, fine.1.0) in
    ((fine.0.1, omega (arith, fine.1.1), omega (arith, fine.1.2)), ap (λ r. (x.0, r)) back))
    (λ p fine. let travel : reached p - p.second ≡ p.travel = omega arith in
    (((omega (arith, before_least before, fine.0), fine.0, omega (arith, fine.2)), (omega arith, fine.1, fine.2)), ap (λ t. record { second = p.second; travel = t }) travel))
    (both_lawful (since (second_before before) (least_second before) horizon ServiceField) (λ second. since second (least_reached before) horizon ServiceField)
    (since_lawful (second_before before) (least_second before) horizon ServiceField (lit< tt)) (λ second _. since_lawful second (least_reached before) horizon ServiceField (lit< tt)))

pub road_lawful : LawfulFormat road
road_lawful = counted_lawful point passed point_lawful point_count None (ranged_lawful 1 96 ServiceField (lit< tt))

pub roads_lawful : LawfulFormat roads
roads_lawful = plain_lawful run_count road run_count_lawful road_lawful

module _ (stops services : ℕ) (few : stops ≤ 2 ^ 32) (some : services ≤ 2 ^ 32) where
  pub arc_lawful : (last : ℕ) → LawfulFormat (arc stops services last)
  arc_lawful last =
      checked_lawful (λ a. leb last a.tail) TailFalls (any_arc stops services)
      (mapped_lawful arc_of fields_of (Joins stops services) (fields stops services)
      (λ x fine. ((fine.0, fine.1.0, fine.1.1.0.1, fine.1.1.1), refl))
      (λ a fine. ((fine.0, (fine.1, ((omega arith, fine.2), fine.3))), refl))
      (both_lawful (below stops ArcField) (λ _. both (below stops ArcField) (λ _. both (ranged 0 5 ArcField) (λ _. below services NoSuchService))) (below_lawful stops ArcField few)
      (λ _ _. both_lawful (below stops ArcField) (λ _. both (ranged 0 5 ArcField) (λ _. below services NoSuchService)) (below_lawful stops ArcField few)
      (λ _ _. both_lawful (ranged 0 5 ArcField) (λ _. below services NoSuchService) (ranged_lawful 0 5 ArcField (lit< tt)) (λ _ _. below_lawful services NoSuchService some)))))

  pub arcs_lawful : LawfulFormat (arcs stops services)
  arcs_lawful = counted_lawful (arc stops services) left arc_lawful arc_count 0 (ranged_lawful 0 8192 ArcCount (lit< tt))

runs_lawful : LawfulFormat runs
runs_lawful =
    both_lawful form (λ _. both stops (λ names. both walks (λ ws. both timetables (λ ts. both roads (λ rs. arcs (length names) (length ws + length ts + length rs)))))) (exactly_lawful 1 OtherForm (lit< tt))
    (λ _ _. both_lawful stops (λ names. both walks (λ ws. both timetables (λ ts. both roads (λ rs. arcs (length names) (length ws + length ts + length rs))))) stops_lawful
    (λ names fine. both_lawful walks (λ ws. both timetables (λ ts. both roads (λ rs. arcs (length names) (length ws + length ts + length rs)))) walks_lawful
    (λ ws fine₁. both_lawful timetables (λ ts. both roads (λ rs. arcs (length names) (length ws + length ts + length rs))) timetables_lawful
    (λ ts fine₂. both_lawful roads (λ rs. arcs (length names) (length ws + length ts + length rs)) roads_lawful
    (λ rs fine₃. arcs_lawful (length names) (length ws + length ts + length rs) (omega (arith, fine.0.1)) (omega (arith, fine₁.0.1, fine₂.0.1, fine₃.0.1)))))))

pub network_lawful : LawfulFormat network
network_lawful =
    mapped_lawful contents_of runs_of FineNetwork runs
    (λ x fine. (record { names = fine.1.0; walks = fine.1.1.0; timetables = fine.1.1.1.0; roads = fine.1.1.1.1.0; arcs = fine.1.1.1.1.1 }, refl))
    (λ n fine. ((tt, (fine.names, (fine.walks, (fine.timetables, (fine.roads, fine.arcs))))), refl))
    runs_lawful
