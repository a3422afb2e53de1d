-- What is at fault in the tables of service books. Tables are tested in the order of a file, and the first fault counts: the count
-- of services; then for each service in turn its walk, or its list's length, the list's place in the table, and the rows of the
-- list in turn.
use Rattle.std.specs.Prelude.{ℕ, ◌+◌, Bool, true, cond, ◌&&◌, List, [], ◌∷◌, length, Some, None, Ok, Err, Option, Result, nat_le, nat_lt}
use Rattle.model.specs.Clock.{horizon}
use Rattle.model.specs.declared.refusal.Refusal.{Refusal}
use Rattle.model.specs.declared.refusal.Refusal.TheVariants.{ServiceField}
use Rattle.model.specs.declared.tables.Connection.{Connection}
use Rattle.model.specs.declared.tables.Point.{Point}
use Rattle.model.specs.declared.tables.Span.{Span}
use Rattle.meanings.specs.Spans.{rows, most_services}
use Rattle.meanings.specs.Walks.{longest_walk}
use Rattle.meanings.specs.Timetables.{most_connections}
use Rattle.meanings.specs.Roads.{reached, most_points}
use Rattle.meanings.specs.declared.fault.Field.{Field}
use Rattle.meanings.specs.declared.fault.Field.TheVariants.{Departure, Arrival}
use Rattle.meanings.specs.declared.fault.BookFault.{BookFault}
use Rattle.meanings.specs.declared.fault.BookFault.TheVariants.{TooManyServices, WalkTooLong, ListLength, ListOutside, Row}

-- every fault of a book's tables is a service field out of range
abbrev pub refusal_of : BookFault → Refusal
refusal_of TooManyServices = ServiceField
refusal_of (WalkTooLong s) = ServiceField
refusal_of (ListLength s) = ServiceField
refusal_of (ListOutside s) = ServiceField
refusal_of (Row s j f) = ServiceField

-- no fault where a test holds
abbrev pub unless : {F : Type 0} → Bool → F → Option F
unless holds f = cond holds None (Some f)

-- the first of two faults
abbrev pub or_else : {F : Type 0} → Option F → Option F → Option F
or_else (Some f) more = Some f
or_else None more = more

-- the first fault of the items of a list in turn, each tested with its number
abbrev pub first_fault : {X : Type 0} → (ℕ → X → Option BookFault) → ℕ → List X → Option BookFault
first_fault test i [] = None
first_fault test i (x ∷ xs) = or_else (test i x) (first_fault test (i + 1) xs)

abbrev pub count_fault : ℕ → Option BookFault
count_fault n = unless (nat_le n most_services) TooManyServices

abbrev pub walk_fault : ℕ → ℕ → Option BookFault
walk_fault s time = unless (nat_le time longest_walk) (WalkTooLong s)

-- the first fault of a table of walks
abbrev pub walks_fault : List ℕ → Option BookFault
walks_fault times = or_else (count_fault (length times)) (first_fault walk_fault 0 times)

-- the last departure of a service, before its first connection 0
abbrev pub departed : Option Connection → ℕ
departed None = 0
departed (Some c) = c.departure

-- a connection after another: it departs no earlier than that and by the horizon, and arrives no earlier than it departs and by the
-- horizon
abbrev pub connection_fault : Option Connection → Connection → Option Field
connection_fault before c =
    or_else (unless (nat_le (departed before) c.departure && nat_le c.departure horizon) Departure)
    (unless (nat_le c.departure c.arrival && nat_le c.arrival horizon) Arrival)

-- the second of a point is above that of the one before it
abbrev pub above : Option Point → Point → Bool
above None x = true
above (Some b) x = nat_lt b.second x.second

-- the arrival of a point, before the first point 0
abbrev pub arrived : Option Point → ℕ
arrived None = 0
arrived (Some b) = reached b

-- a point after another: its second is above that one's and within the horizon, and its arrival is no earlier than that one's and
-- within the horizon
abbrev pub point_fault : Option Point → Point → Option Field
point_fault before x =
    or_else (unless (above before x && nat_le x.second horizon) Departure)
    (unless (nat_le (arrived before) (reached x) && nat_le (reached x) horizon) Arrival)

-- a fault of a row, with its service and its place in the service's list
abbrev pub in_row : ℕ → ℕ → Option Field → Option BookFault
in_row s j None = None
in_row s j (Some f) = Some (Row s j f)

-- the first fault of the rows of a service in turn, from place j on, each tested against the one before it
abbrev pub rows_fault : {X : Type 0} → (Option X → X → Option Field) → ℕ → ℕ → Option X → List X → Option BookFault
rows_fault test s j before [] = None
rows_fault test s j before (x ∷ xs) = or_else (in_row s j (test before x)) (rows_fault test s (j + 1) (Some x) xs)

-- the first fault of a service's list, of at most `most` rows
abbrev pub list_fault : {X : Type 0} → (Option X → X → Option Field) → ℕ → List X → ℕ → Span → Option BookFault
list_fault test most table s span =
    or_else (unless (nat_le 1 span.len && nat_le span.len most) (ListLength s))
    (or_else (unless (nat_le (span.start + span.len) (length table)) (ListOutside s)) (rows_fault test s 0 None (rows table span)))

-- the first fault of a table of lists
abbrev pub lists_fault : {X : Type 0} → (Option X → X → Option Field) → ℕ → List X → List Span → Option BookFault
lists_fault test most table spans = or_else (count_fault (length spans)) (first_fault (list_fault test most table) 0 spans)

-- the first fault of the tables of timetables
abbrev pub timetables_fault : List Connection → List Span → Option BookFault
timetables_fault cs spans = lists_fault connection_fault most_connections cs spans

-- the first fault of the tables of roads
abbrev pub roads_fault : List Point → List Span → Option BookFault
roads_fault ps spans = lists_fault point_fault most_points ps spans

-- what a maker or a test answers: it refuses by the first fault
abbrev pub verdict : {F : Type 0} → Option F → Result Unit F
verdict None = Ok tt
verdict (Some f) = Err f
