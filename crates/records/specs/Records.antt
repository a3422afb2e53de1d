-- What a reader of records has yet to hand out.
use Rattle.std.specs.Prelude.{◌≡◌, ℕ, ◌+◌, ◌*◌, ◌<◌, true, is_some, List, [], Some, None, Ok, Err, Option, Result}
use Rattle.wire.specs.declared.fault.Fault.{Fault}
use Rattle.wire.specs.Readers.{file}
use Rattle.formats.specs.NetworkFile.{stop, walk, connection_count, connection, departed, point_count, point, passed, arc, left}
use Rattle.records.specs.declared.record.Record.{Record}
use Rattle.records.specs.declared.record.Record.TheVariants.{Stop, Walk, Connection, Point, Arc}
use Rattle.records.specs.declared.records.Records.{Records}
use Rattle.records.specs.declared.records.Section.{Section}
use Rattle.records.specs.declared.records.Section.TheVariants.{Front, Stops, Walks, Timetables, Connections, Roads, Points, Arcs, End}
use Rattle.records.specs.Stream.{Rec, a_stop, a_walk, a_connection, a_point, an_arc, Told, before, streamed, listed, ended, arc_run, road_run, timetable_run, walk_run, whole}

-- a record that is handed out, as what it says
abbrev pub meant : Record → Rec
meant (Stop name) = a_stop name.now
meant (Walk seconds) = a_walk seconds
meant (Connection service c) = a_connection service c
meant (Point service p) = a_point service p
meant (Arc a) = an_arc a

-- the records left from a place on, by the section and by the counts of stops, walks, timetables and roads
abbrev pub rest_of : Section → ℕ → ℕ → ℕ → ℕ → List ℕ → ℕ → Told
rest_of Front stops walks timetables roads = whole
rest_of (Stops n) stops walks timetables roads = streamed {S = Unit {0}} (λ _. stop) (λ _ _. tt) a_stop (walk_run stops) tt n
rest_of (Walks n) stops walks timetables roads = streamed {S = Unit {0}} (λ _. walk) (λ _ _. tt) a_walk (timetable_run stops walks) tt n
rest_of (Timetables n) stops walks timetables roads = listed connection_count connection departed 0 a_connection (road_run stops walks timetables) (walks + timetables) n
rest_of (Connections service lists n last) stops walks timetables roads =
    streamed connection departed (a_connection service) (listed connection_count connection departed 0 a_connection (road_run stops walks timetables) (walks + timetables) lists) last n
rest_of (Roads n) stops walks timetables roads = listed point_count point passed None a_point (arc_run stops (walks + timetables + roads)) (walks + timetables + roads) n
rest_of (Points service lists n before) stops walks timetables roads =
    streamed point passed (a_point service) (listed point_count point passed None a_point (arc_run stops (walks + timetables + roads)) (walks + timetables + roads) lists) before n
rest_of (Arcs n last) stops walks timetables roads = streamed (arc stops (walks + timetables + roads)) left an_arc ended last n
rest_of End stops walks timetables roads = ended

abbrev pub rest : Records → Told
rest r = rest_of r.section r.stops r.walks r.timetables r.roads (file r.reader) r.reader.at

-- what was handed out, before what is left
abbrev pub handed : Result Record Fault → Told → Told
handed (Ok x) t = before (meant x) t
handed (Err f) t = ([], Err f)

-- the same of what may be none; after the last record the reader stands at p
abbrev pub follows : Option (Result Record Fault) → Told → ℕ → Told
follows (Some r) t p = handed r t
follows None t p = ([], Ok p)

-- a call that hands out nothing, but may meet a fault
abbrev pub goes : Result (Unit {0}) Fault → Told → Told
goes (Ok _) t = t
goes (Err f) t = ([], Err f)

-- at a fault the records are over
abbrev pub OverAt : {A : Type 0} → Result A Fault → Section → Type 0
OverAt (Ok _) s = Unit {0}
OverAt (Err f) s = s ≡ End

-- they are over after the last record and after a fault: from then on there is none
abbrev pub Over : Option (Result Record Fault) → Section → Type 0
Over (Some r) s = OverAt r s
Over None s = s ≡ End

-- how many more calls can hand out something, at most: a list of services and the step to it count too
abbrev pub size : Section → ℕ
size Front = 2520072
size (Stops n) = n + 2519047
size (Walks n) = n + 2514950
size (Timetables n) = 514 * n + 409605
size (Connections service lists n last) = n + 1 + 514 * lists + 409605
size (Roads n) = 98 * n + 8194
size (Points service lists n before) = n + 1 + 98 * lists + 8194
size (Arcs n last) = n + 1
size End = 0

-- a call that hands out the next record, or the first fault of the file; none after the last record and after a fault
pub record HandsOut (old : Records) (r : Option (Result Record Fault)) (new : Records) : Type 0 where
  pub says : rest old ≡ follows r (rest new) new.reader.at
  pub falls : is_some r ≡ true → size new.section < size old.section
  pub over : Over r new.section
