-- What the writer refuses, part by part in the order of the file, and the bytes that it writes.
use Rattle.std.specs.Prelude.{ℕ, ◌-◌, Bool, cond, ◌&&◌, List, ◌++◌, length, Some, None, Option, nat_le, nat_lt}
use Rattle.model.specs.declared.network.Arc.{Arc}
use Rattle.model.specs.declared.tables.Connection.{Connection}
use Rattle.model.specs.declared.tables.Point.{Point}
use Rattle.model.specs.declared.tables.Span.{Span}
use Rattle.model.specs.declared.refusal.Refusal.{Refusal}
use Rattle.model.specs.declared.refusal.Refusal.TheVariants.{NameLength, ServiceField, ArcField, NoSuchService, TailFalls}
use Rattle.model.specs.Clock.{horizon}
use Rattle.meanings.specs.Spans.{rows}
use Rattle.formats.specs.NetworkFile.{stop, walk, connection, departed, point, reached, least_second, least_reached, passed}
use Rattle.wire.specs.Numbers.{encode}
use Rattle.writer.specs.Emission.{or_else, outside, list_refusal, list_bytes}

-- whether a row lies within a table
abbrev pub lies : {A : Type 0} → List A → Span → Bool
lies table row = nat_le row.start (length table) && nat_le row.len (length table - row.start)

-- a stop's row
abbrev pub name_refusal : List ℕ → Unit {0} → Span → Option Refusal
name_refusal names _ row = or_else (cond (lies names row) None (Some NameLength)) (outside 1 40 NameLength (length (rows names row)))

abbrev pub name_bytes : List ℕ → Unit {0} → Span → List ℕ
name_bytes names _ row = stop.write (rows names row)

abbrev pub walk_refusal : Unit {0} → ℕ → Option Refusal
walk_refusal _ w = outside 0 86400 ServiceField w

abbrev pub walk_bytes : Unit {0} → ℕ → List ℕ
walk_bytes _ w = walk.write w

-- a connection after one that departs at the second `last`
abbrev pub connection_refusal : ℕ → Connection → Option Refusal
connection_refusal last c = cond (nat_le last c.departure && (nat_le c.departure c.arrival && nat_le c.arrival horizon)) None (Some ServiceField)

abbrev pub connection_bytes : ℕ → Connection → List ℕ
connection_bytes last c = (connection last).write c

-- a road's point after another
abbrev pub point_refusal : Option Point → Point → Option Refusal
point_refusal before p = cond (nat_le (least_second before) p.second && (nat_le (least_reached before) (reached p) && nat_le (reached p) horizon)) None (Some ServiceField)

abbrev pub point_bytes : Option Point → Point → List ℕ
point_bytes before p = (point before).write p

-- an arc after one whose tail is `last`
abbrev pub arc_refusal : ℕ → ℕ → ℕ → Arc → Option Refusal
arc_refusal stops services last a =
    or_else (cond (nat_lt a.tail stops && (nat_lt a.head stops && nat_le a.label 5)) None (Some ArcField))
    (or_else (cond (nat_lt a.service services) None (Some NoSuchService)) (cond (nat_le last a.tail) None (Some TailFalls)))

abbrev pub arc_bytes : ℕ → Arc → List ℕ
arc_bytes _ a = encode a.tail ++ (encode a.head ++ (encode a.label ++ encode a.service))

abbrev pub onward : {A : Type 0} → Unit {0} → A → Unit {0}
onward _ _ = tt

-- the list of one service: the part of a table that a row names, with its count before it
abbrev pub part_refusal : {S A : Type 0} → ℕ → ℕ → Refusal → (S → A → Option Refusal) → (S → A → S) → S → List A → Span → Option Refusal
part_refusal lo hi k f next s table row = or_else (cond (lies table row) None (Some k)) (list_refusal lo hi k f next s (rows table row))

abbrev pub part_bytes : {S A : Type 0} → (S → A → List ℕ) → (S → A → S) → S → List A → Span → List ℕ
part_bytes w next s table row = list_bytes w next s (rows table row)

abbrev pub timetable_refusal : List Connection → Unit {0} → Span → Option Refusal
timetable_refusal table _ row = part_refusal 1 512 ServiceField connection_refusal departed 0 table row

abbrev pub timetable_bytes : List Connection → Unit {0} → Span → List ℕ
timetable_bytes table _ row = part_bytes connection_bytes departed 0 table row

abbrev pub road_refusal : List Point → Unit {0} → Span → Option Refusal
road_refusal table _ row = part_refusal 1 96 ServiceField point_refusal passed None table row

abbrev pub road_bytes : List Point → Unit {0} → Span → List ℕ
road_bytes table _ row = part_bytes point_bytes passed None table row
