-- A network in tables, and what the writer does with it.
use Rattle.std.specs.Prelude.{◌≡◌, ℕ, ◌+◌, ◌≤◌, true, cond, List, [], ◌∷◌, ◌++◌, map, length, take, drop, Some, None, Ok, Err, Option, Result, ◌==◌, nat_le}
use Rattle.model.specs.declared.network.Arc.{Arc}
use Rattle.model.specs.declared.tables.Connection.{Connection}
use Rattle.model.specs.declared.tables.Point.{Point}
use Rattle.model.specs.declared.tables.Span.{Span}
use Rattle.model.specs.declared.refusal.Refusal.{Refusal}
use Rattle.model.specs.declared.refusal.Refusal.TheVariants.{StopCount, ServiceField, ArcCount, OutputShort}
use Rattle.formats.specs.Contents.{NetworkContents}
use Rattle.formats.specs.NetworkFile.{network, left}
use Rattle.wire.specs.Numbers.{encode}
use Rattle.writer.specs.Emission.{answered, or_else, list_refusal, list_bytes}
use Rattle.meanings.specs.Spans.{rows}
use Rattle.writer.specs.Parts.{lies, name_refusal, name_bytes, walk_refusal, walk_bytes, arc_refusal, arc_bytes, onward, timetable_refusal, timetable_bytes, road_refusal, road_bytes}

-- names, connections and points stand in tables of their own; a row of `stops`, `timetables` and `roads` is a part of one
pub record NetworkTables : Type 0 where
  pub names : List ℕ
  pub stops : List Span
  pub walks : List ℕ
  pub connections : List Connection
  pub timetables : List Span
  pub points : List Point
  pub roads : List Span
  pub arcs : List Arc

abbrev pub tables_of : List ℕ → List Span → List ℕ → List Connection → List Span → List Point → List Span → List Arc → NetworkTables
tables_of names stops walks connections timetables points roads arcs = record { names = names; stops = stops; walks = walks; connections = connections; timetables = timetables; points = points; roads = roads; arcs = arcs }

-- the network that the tables hold
abbrev pub held : NetworkTables → NetworkContents
held t = record { names = map (rows t.names) t.stops; walks = t.walks; timetables = map (rows t.connections) t.timetables; roads = map (rows t.points) t.roads; arcs = t.arcs }

abbrev pub service_count : NetworkTables → ℕ
service_count t = length t.walks + length t.timetables + length t.roads

-- the first rule that the tables of a network of so many stops break, in the order of the file
abbrev pub network_refusal : ℕ → NetworkTables → Option Refusal
network_refusal stops t =
    or_else (cond (length t.stops == stops) None (Some StopCount))
    (or_else (list_refusal 1 1024 StopCount (name_refusal t.names) onward tt t.stops)
    (or_else (list_refusal 0 4096 ServiceField walk_refusal onward tt t.walks)
    (or_else (list_refusal 0 4096 ServiceField (timetable_refusal t.connections) onward tt t.timetables)
    (or_else (list_refusal 0 4096 ServiceField (road_refusal t.points) onward tt t.roads)
    (list_refusal 0 8192 ArcCount (arc_refusal stops (service_count t)) left 0 t.arcs)))))

-- the bytes of the file, part by part
abbrev pub network_bytes : NetworkTables → List ℕ
network_bytes t =
    encode 1 ++ (list_bytes (name_bytes t.names) onward tt t.stops ++ (list_bytes walk_bytes onward tt t.walks
    ++ (list_bytes (timetable_bytes t.connections) onward tt t.timetables ++ (list_bytes (road_bytes t.points) onward tt t.roads ++ list_bytes arc_bytes left 0 t.arcs))))

-- the output after a write
abbrev pub written : Result ℕ Refusal → List ℕ → List ℕ → List ℕ
written (Ok n) bytes before = bytes ++ drop (length bytes) before
written (Err k) bytes before = before

-- rows that lie within a table
abbrev pub AllLie : {A : Type 0} → List A → List Span → Type 0
AllLie table [] = Unit {0}
AllLie table (row ∷ rows) = (lies table row ≡ true) × AllLie table rows

-- each stop has one row, and every row lies within its table
pub record Rowed (stops : ℕ) (t : NetworkTables) : Type 0 where
  pub count : length t.stops ≡ stops
  pub names : AllLie t.names t.stops
  pub timetables : AllLie t.connections t.timetables
  pub roads : AllLie t.points t.roads

-- a call that writes a network: refused by the first rule that is broken, then for want of room; else the file stands at the front
-- of the output, and its length is the answer. What is written reads back the same, and what an accepted file holds writes back to
-- the same bytes.
pub record Writes (stops : ℕ) (t : NetworkTables) (before after : List ℕ) (r : Result ℕ Refusal) : Type 0 where
  pub answer : r ≡ answered (or_else (network_refusal stops t) (cond (nat_le (length (network.write (held t))) (length before)) None (Some OutputShort))) (length (network.write (held t)))
  pub output : after ≡ written r (network.write (held t)) before
  pub reads_back : (n : ℕ) → r ≡ Ok n → network.read after 0 ≡ Ok (held t, n)
  pub writes_back : Rowed stops t → (file : List ℕ) (end : ℕ) → network.read file 0 ≡ Ok (held t, end) → end ≤ length before → (r ≡ Ok end) × (after ≡ take end file ++ drop end before)
