-- The merge of the lists of the arcs that leave a stop: what the queue holds while it runs.
use Rattle.std.specs.Prelude.{◌≡◌, ℕ, ◌+◌, ◌-◌, ◌<◌, ◌≤◌, true, cond, ◌⊎◌, List, [], ◌∷◌, ◌++◌, map, length, drop, Some, None, sum_by, Option, ◌==◌, nat_le, slice_index_or}
use Rattle.std.specs.List.{ContainsAt as Has, AllByRecursion}
use Rattle.std.specs.List.Sorted.{IsPermutation}
use Rattle.model.specs.declared.tables.Connection.{Connection}
use Rattle.model.specs.declared.tables.Span.{Span}
use Rattle.meanings.specs.Spans.{service_rows}
use Rattle.meanings.specs.Timetables.{no_connection}
use Rattle.poster.specs.declared.departure.Departure.{Departure}
use Rattle.poster.specs.declared.departure.PosterRow.{PosterRow}
use Rattle.poster.specs.Before.{departure_before, Ascending}
use Rattle.poster.specs.Boards.{Listing, arc_of, service_of, row_of}

-- the connections of a service of the book whose first service has that number; none of any other service
abbrev pub of_service : List Connection → List Span → ℕ → ℕ → List Connection
of_service connections spans first s = cond (nat_le first s) (service_rows connections spans (s - first)) []

-- the departure at a place of an arc's connections
abbrev pub departure_at : List Connection → ℕ → ℕ → Departure
departure_at cs a p = record { departure = (slice_index_or cs p no_connection).departure; arc = a; place = p }

-- there is a departure at the place, or the list ends before it
abbrev pub At : List Connection → ℕ → ℕ → Option Departure → Type 0
At cs a p None = length cs ≤ p
At cs a p (Some d) = (p < length cs) × (d ≡ departure_at cs a p)

-- a departure that there may be, put into what a queue holds
abbrev pub Added : List Departure → Option Departure → List Departure → Type 0
Added old None new = new ≡ old
Added old (Some d) new = IsPermutation (d ∷ old) new × (length new ≡ length old + 1)

-- one if the departure is on that arc
abbrev pub on : ℕ → Departure → ℕ
on a d = cond (d.arc == a) 1 0

-- a list has a departure of the same arc, at the same place or before it
abbrev pub Ahead : List Departure → Departure → Type 0
Ahead queued d = (e : Departure) × Has queued e × (e.arc ≡ d.arc) × (e.place ≤ d.place)

module _ (l : Listing) where
  -- the book's connections on an arc
  abbrev pub line : ℕ → List Connection
  line a = of_service l.connections l.spans l.first_service (arc_of l a).service

  -- an arc's service as the book numbers it, or none where it is below the book's first service
  abbrev pub Service : ℕ → Option ℕ → Type 0
  Service a None = (arc_of l a).service < l.first_service
  Service a (Some s) = (l.first_service ≤ (arc_of l a).service) × (s ≡ service_of l a)

  -- how many connections of its arc are left from a departure on
  abbrev pub left : Departure → ℕ
  left d = length (line d.arc) - d.place

  -- the arc of that number leaves the stop
  abbrev pub Leaves : ℕ → Type 0
  Leaves a = (a < length l.arcs) × ((arc_of l a).tail ≡ l.stop)

  -- a departure of one of some arcs, at or after the second
  pub record DueOn (Arcs : ℕ → Type 0) (d : Departure) : Type 0 where
    pub among : Arcs d.arc
    pub inside : d.place < length (line d.arc)
    pub departs : d.departure ≡ (slice_index_or (line d.arc) d.place no_connection).departure
    pub in_time : l.second ≤ d.departure

  -- the queue at its start: the first departure due on each of some arcs that has one
  pub record Begun (Arcs : ℕ → Type 0) (queued : List Departure) (count : ℕ) : Type 0 where
    pub due : AllByRecursion (DueOn Arcs) queued
    pub one_each : (a : ℕ) → sum_by (on a) queued ≤ 1
    pub ahead : (d : Departure) → DueOn Arcs d → Ahead queued d
    pub counted : count ≡ sum_by left queued

  -- some departures are listed, and the queue holds the next one on each arc that has one
  pub record Listed (Arcs : ℕ → Type 0) (done queued : List Departure) (count : ℕ) : Type 0 where
    pub listed : AllByRecursion (DueOn Arcs) done
    pub ascending : Ascending done
    pub behind : AllByRecursion (λ z. AllByRecursion (λ y. departure_before z y ≡ true) queued) done
    pub due : AllByRecursion (DueOn Arcs) queued
    pub one_each : (a : ℕ) → sum_by (on a) queued ≤ 1
    pub ahead : (d : Departure) → DueOn Arcs d → Has done d ⊎ Ahead queued d
    pub counted : length done + sum_by left queued ≡ count

  -- all are listed
  pub record AllListed (Arcs : ℕ → Type 0) (done : List Departure) (count : ℕ) : Type 0 where
    pub listed : AllByRecursion (DueOn Arcs) done
    pub ascending : Ascending done
    pub all : (d : Departure) → DueOn Arcs d → Has done d
    pub counted : length done ≡ count

  -- the rows hold what is listed, and then what they held
  abbrev pub Holds : List PosterRow → List Departure → List PosterRow → Type 0
  Holds rows done rows' = rows' ≡ map (row_of l) done ++ drop (length done) rows

  -- the rows while the merge runs
  pub record Writing (count : ℕ) (rows rows' : List PosterRow) (queued : List Departure) (written : ℕ) : Type 0 where
    pub done : List Departure
    pub listed : Listed Leaves done queued count
    pub holds : Holds rows done rows'
    pub counted : written ≡ length done

  -- the rows of the whole merge, so many
  pub record Merged (rows rows' : List PosterRow) (count : ℕ) : Type 0 where
    pub done : List Departure
    pub all_listed : AllListed Leaves done count
    pub holds : Holds rows done rows'
