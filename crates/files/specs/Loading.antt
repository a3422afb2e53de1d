-- What loading a network file answers, and what it leaves in the tables.
use Rattle.std.specs.Prelude.{◌≡◌, ℕ, ◌+◌, Bool, cond, ◌&&◌, List, [], ◌∷◌, ◌++◌, length, drop, Ok, Err, Result, nat_le}
use Rattle.model.specs.declared.network.Arc.{Arc}
use Rattle.model.specs.declared.refusal.Refusal.TheVariants.{FileTablesShort}
use Rattle.model.specs.declared.tables.Connection.{Connection}
use Rattle.model.specs.declared.tables.Point.{Point}
use Rattle.model.specs.declared.tables.Span.{Span}
use Rattle.wire.specs.declared.fault.Fault.{Fault}
use Rattle.wire.specs.Numbers.{encode}
use Rattle.wire.specs.Places.{Step, wrong}
use Rattle.formats.specs.Contents.{NetworkContents}
use Rattle.formats.specs.NetworkFile.{network}
use Rattle.files.specs.declared.rows.Counts.{Counts}
use Rattle.files.specs.declared.loading.Loaded.{Loaded}

-- lists, one after the other
unfoldable pub joined : {A : Type 0} → List (List A) → List A
joined [] = []
joined (xs ∷ lists) = xs ++ joined lists

-- the parts of a table that lists take, one after the other from the row k on
unfoldable pub list_rows : {A : Type 0} → ℕ → List (List A) → List Span
list_rows k [] = []
list_rows k (xs ∷ lists) = record { start = k; len = length xs } ∷ list_rows (k + length xs) lists

-- the parts of a file that names take, one after the other from the place p on, each behind its length
unfoldable pub name_rows : ℕ → List (List ℕ) → List Span
name_rows p [] = []
name_rows p (name ∷ names) =
    record { start = p + length (encode (length name)); len = length name } ∷ name_rows (p + length (encode (length name)) + length name) names

-- the place of the first stop in a file of so many stops: behind the form and the count of stops
abbrev pub first_stop : ℕ → ℕ
first_stop stops = length (encode 1) + length (encode stops)

-- the tables that a file is loaded into
pub record Tables : Type 0 where
  pub names : List Span
  pub walks : List ℕ
  pub timetables : List Span
  pub connections : List Connection
  pub roads : List Span
  pub points : List Point
  pub arcs : List Arc

-- a table with its front filled: what lies behind stays
abbrev pub over : {A : Type 0} → List A → List A → List A
over rows table = rows ++ drop (length rows) table

abbrev pub filled : NetworkContents → Tables → Tables
filled c t = record {
  names = over (name_rows (first_stop (length c.names)) c.names) t.names;
  walks = over c.walks t.walks;
  timetables = over (list_rows 0 c.timetables) t.timetables;
  connections = over (joined c.timetables) t.connections;
  roads = over (list_rows 0 c.roads) t.roads;
  points = over (joined c.roads) t.points;
  arcs = over c.arcs t.arcs;
}

-- how many rows of each table the contents of a file take
abbrev pub counts_of : NetworkContents → Counts
counts_of c = record {
  stops = length c.names;
  walks = length c.walks;
  timetables = length c.timetables;
  connections = length (joined c.timetables);
  roads = length c.roads;
  points = length (joined c.roads);
  arcs = length c.arcs;
}

-- whether tables have so many rows
abbrev pub room : Counts → Tables → Bool
room n t =
    nat_le n.stops (length t.names) && nat_le n.walks (length t.walks) && nat_le n.timetables (length t.timetables) && nat_le n.connections (length t.connections)
    && nat_le n.roads (length t.roads) && nat_le n.points (length t.points) && nat_le n.arcs (length t.arcs)

-- what a file holds: its counts and the place after its last record, or its first fault
abbrev pub measured : Step NetworkContents → Result Loaded Fault
measured (Ok x) = Ok (record { counts = counts_of x.0; end = x.1 })
measured (Err f) = Err f

-- the answer and the tables after it, by what is read from the front of the file: a fault leaves the tables as they were, and so
-- does a table that is short, which is refused at the file's end
abbrev pub loads : Step NetworkContents → Tables → Result Loaded Fault × Tables
loads (Err f) t = (Err f, t)
loads (Ok x) t = cond (room (counts_of x.0) t) (Ok (record { counts = counts_of x.0; end = x.1 }), filled x.0 t) (Err (wrong FileTablesShort x.1), t)

-- a file that is accepted, with its count of stops
pub record Accepted (bs : List ℕ) (stops : ℕ) : Type 0 where
  pub contents : NetworkContents
  pub end : ℕ
  pub read : network.read bs 0 ≡ Ok (contents, end)
  pub count : stops ≡ length contents.names
