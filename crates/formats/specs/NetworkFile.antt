-- The network file: what it holds, and how it is written.
use Rattle.std.specs.Prelude.{ℕ, ◌+◌, ◌-◌, ◌<◌, ◌≤◌, List, length, Some, None, Option, nat_le}
use Rattle.model.specs.declared.network.Arc.{Arc}
use Rattle.model.specs.declared.tables.Connection.{Connection}
use Rattle.model.specs.declared.tables.Point.{Point}
use Rattle.model.specs.declared.refusal.Refusal.TheVariants.{OtherForm, StopCount, NameLength, ServiceField, ArcCount, ArcField, NoSuchService, TailFalls}
use Rattle.model.specs.Clock.{horizon}
use Rattle.formats.specs.Contents.{NetworkContents, services}
use Rattle.wire.specs.Grammar.{Format, ranged, below, since, exactly, text, both, mapped, checked, counted, plain}

-- the form of the file
abbrev pub form : Format (Unit {0})
form = exactly 1 OtherForm

-- a stop's name
abbrev pub stop : Format (List ℕ)
stop = text (ranged 1 40 NameLength)

abbrev pub stop_count : Format ℕ
stop_count = ranged 1 1024 StopCount

abbrev pub stops : Format (List (List ℕ))
stops = plain stop_count stop

-- how many services one run has
abbrev pub run_count : Format ℕ
run_count = ranged 0 4096 ServiceField

-- the seconds that a walk takes
abbrev pub walk : Format ℕ
walk = ranged 0 86400 ServiceField

abbrev pub walks : Format (List ℕ)
walks = plain run_count walk

-- a connection, after one that departs at the second `last`: its departure and its arrival
abbrev pub times : ℕ → Format (ℕ × ℕ)
times last = both (since last 0 horizon ServiceField) (λ departure. since departure 0 horizon ServiceField)

abbrev pub connection_of : ℕ × ℕ → Connection
connection_of x = record { departure = x.0; arrival = x.1 }

abbrev pub times_of : Connection → ℕ × ℕ
times_of c = (c.departure, c.arrival)

-- departures never fall, and no arrival is before its departure or after the horizon
abbrev pub Departs : ℕ → Connection → Type 0
Departs last c = (last ≤ c.departure) × (c.departure ≤ c.arrival) × (c.arrival ≤ horizon)

abbrev pub connection : ℕ → Format Connection
connection last = mapped connection_of times_of (Departs last) (times last)

-- the departure that the next gap counts from
abbrev pub departed : ℕ → Connection → ℕ
departed last c = c.departure

abbrev pub connection_count : Format ℕ
connection_count = ranged 1 512 ServiceField

abbrev pub timetable : Format (List Connection)
timetable = counted connection_count connection departed 0

abbrev pub timetables : Format (List (List Connection))
timetables = plain run_count timetable

-- a road's point: the arrival of one who sets out at its second
abbrev pub reached : Point → ℕ
reached p = p.second + p.travel

-- what the point before, if there is one, asks of the next: the second that the gap counts from, the least second, the least arrival
abbrev pub second_before : Option Point → ℕ
second_before None = 0
second_before (Some p) = p.second

abbrev pub least_second : Option Point → ℕ
least_second None = 0
least_second (Some p) = p.second + 1

abbrev pub least_reached : Option Point → ℕ
least_reached None = 0
least_reached (Some p) = reached p

abbrev pub seconds : Option Point → Format (ℕ × ℕ)
seconds before = both (since (second_before before) (least_second before) horizon ServiceField) (λ second. since second (least_reached before) horizon ServiceField)

abbrev pub point_of : ℕ × ℕ → Point
point_of x = record { second = x.0; travel = x.1 - x.0 }

abbrev pub seconds_of : Point → ℕ × ℕ
seconds_of p = (p.second, reached p)

-- seconds rise strictly, arrivals never fall, and none is after the horizon
abbrev pub Rises : Option Point → Point → Type 0
Rises before p = (least_second before ≤ p.second) × (least_reached before ≤ reached p) × (reached p ≤ horizon)

abbrev pub point : Option Point → Format Point
point before = mapped point_of seconds_of (Rises before) (seconds before)

abbrev pub passed : Option Point → Point → Option Point
passed before p = Some p

abbrev pub point_count : Format ℕ
point_count = ranged 1 96 ServiceField

abbrev pub road : Format (List Point)
road = counted point_count point passed None

abbrev pub roads : Format (List (List Point))
roads = plain run_count road

-- an arc's numbers, in a network of so many stops and services
abbrev pub fields : ℕ → ℕ → Format (ℕ × (ℕ × (ℕ × ℕ)))
fields stops services = both (below stops ArcField) (λ _. both (below stops ArcField) (λ _. both (ranged 0 5 ArcField) (λ _. below services NoSuchService)))

abbrev pub arc_of : ℕ × (ℕ × (ℕ × ℕ)) → Arc
arc_of x = record { tail = x.0; head = x.1.0; label = x.1.1.0; service = x.1.1.1 }

abbrev pub fields_of : Arc → ℕ × (ℕ × (ℕ × ℕ))
fields_of a = (a.tail, (a.head, (a.label, a.service)))

-- the stops, the label and the service of an arc are there
abbrev pub Joins : ℕ → ℕ → Arc → Type 0
Joins stops services a = (a.tail < stops) × (a.head < stops) × (a.label ≤ 5) × (a.service < services)

-- an arc, whatever came before it
abbrev pub any_arc : ℕ → ℕ → Format Arc
any_arc stops services = mapped arc_of fields_of (Joins stops services) (fields stops services)

-- an arc, after one whose tail is `last`: tails never fall
abbrev pub arc : ℕ → ℕ → ℕ → Format Arc
arc stops services last = checked (λ a. nat_le last a.tail) TailFalls (any_arc stops services)

abbrev pub left : ℕ → Arc → ℕ
left last a = a.tail

abbrev pub arc_count : Format ℕ
arc_count = ranged 0 8192 ArcCount

abbrev pub arcs : ℕ → ℕ → Format (List Arc)
arcs stops services = counted arc_count (arc stops services) left 0

-- the parts of the file, in their order
abbrev pub Runs : Type 0
Runs = Unit {0} × (List (List ℕ) × (List ℕ × (List (List Connection) × (List (List Point) × List Arc))))

abbrev pub runs : Format Runs
runs = both form (λ _. both stops (λ names. both walks (λ ws. both timetables (λ ts. both roads (λ rs. arcs (length names) (length ws + length ts + length rs))))))

abbrev pub contents_of : Runs → NetworkContents
contents_of x = record { names = x.1.0; walks = x.1.1.0; timetables = x.1.1.1.0; roads = x.1.1.1.1.0; arcs = x.1.1.1.1.1 }

abbrev pub runs_of : NetworkContents → Runs
runs_of n = (tt, (n.names, (n.walks, (n.timetables, (n.roads, n.arcs)))))

-- which networks a file can hold: each part is in order, and each arc's stops and service are there
pub record FineNetwork (n : NetworkContents) : Type 0 where
  pub names : stops.Fine n.names
  pub walks : walks.Fine n.walks
  pub timetables : timetables.Fine n.timetables
  pub roads : roads.Fine n.roads
  pub arcs : (arcs (length n.names) (services n)).Fine n.arcs

-- the network file
abbrev pub network : Format NetworkContents
network = mapped contents_of runs_of FineNetwork runs
