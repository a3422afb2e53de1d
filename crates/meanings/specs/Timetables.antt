-- A timetable book: each service has a list of connections.
use Rattle.std.specs.Prelude.{ℕ, ◌+◌, ◌<◌, ◌≤◌, min, List, [], ◌∷◌, map, length, Some, None, filter, Option, nat_le, slice_index_or}
use Rattle.model.specs.Clock.{horizon}
use Rattle.model.specs.declared.tables.Connection.{Connection}
use Rattle.model.specs.declared.tables.Span.{Span}
use Rattle.meanings.specs.Answers.{listed}
use Rattle.meanings.specs.Spans.{service_rows, most_services, AllFit, Each}

-- the lesser of a second and another that there may be
abbrev pub sooner : ℕ → Option ℕ → Option ℕ
sooner a None = Some a
sooner a (Some b) = Some (min a b)

-- the least of some seconds; none where there are none
abbrev pub least : List ℕ → Option ℕ
least [] = None
least (a ∷ more) = sooner a (least more)

-- the connections that depart at or after a second
abbrev pub caught : ℕ → List Connection → List Connection
caught t cs = filter (λ c. nat_le t c.departure) cs

abbrev pub arrivals : List Connection → List ℕ
arrivals cs = map (λ c. c.arrival) cs

-- the least arrival of the connections that depart at or after the coming
abbrev pub earliest : List Connection → ℕ → Option ℕ
earliest cs t = least (arrivals (caught t cs))

-- what a timetable book answers
abbrev pub timetabled : List Connection → List Span → ℕ → ℕ → Option ℕ
timetabled cs spans s t = listed (length spans) s (earliest (service_rows cs spans s) t)

abbrev pub no_connection : Connection
no_connection = record { departure = 0; arrival = 0 }

-- the departures of a list never fall
abbrev pub Rising : List Connection → Type 0
Rising cs = (j : ℕ) → j + 1 < length cs → (slice_index_or cs j no_connection).departure ≤ (slice_index_or cs (j + 1) no_connection).departure

-- no connection of a list arrives before it departs
abbrev pub Forward : List Connection → Type 0
Forward cs = (j : ℕ) → j < length cs → (slice_index_or cs j no_connection).departure ≤ (slice_index_or cs j no_connection).arrival

-- every connection of a list arrives by the horizon
abbrev pub Timely : List Connection → Type 0
Timely cs = (j : ℕ) → j < length cs → (slice_index_or cs j no_connection).arrival ≤ horizon

-- the most connections of one service
abbrev pub most_connections : ℕ
most_connections = 512

-- the tables that a timetable book stands on
pub record SoundTimetables (cs : List Connection) (spans : List Span) : Type 0 where
  pub few : length spans ≤ most_services
  pub fit : AllFit most_connections cs spans
  pub rising : Each Rising cs spans
  pub forward : Each Forward cs spans
  pub timely : Each Timely cs spans
