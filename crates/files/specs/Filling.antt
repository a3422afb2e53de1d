-- The rows of a file as they are stored, one record at a time.
use Rattle.std.specs.Prelude.{ℕ, ◌+◌, ◌≤◌, Bool, cond, List, [], ◌∷◌, length, ◌==◌, slice_set}
use Rattle.model.specs.declared.network.Arc.{Arc}
use Rattle.model.specs.declared.tables.Connection.{Connection}
use Rattle.model.specs.declared.tables.Point.{Point}
use Rattle.model.specs.declared.tables.Span.{Span}
use Rattle.wire.specs.Numbers.{encode}
use Rattle.records.specs.Stream.{Rec, a_stop, a_walk, a_connection, a_point, an_arc}
use Rattle.files.specs.declared.rows.Counts.{Counts}
use Rattle.files.specs.Counting.{AtMost}
use Rattle.files.specs.declared.rows.Listing.{Listing}

-- lists in two tables: so many lists, each a part of the rows, with the list that rows are added to
pub record Lists (A : Type 0) : Type 0 where
  pub count : ℕ
  pub spans : List Span
  pub rows : ℕ
  pub table : List A
  pub current : Listing

abbrev pub grown : Listing → Listing
grown c = record { row = c.row; span = record { start = c.span.start; len = c.span.len + 1 } }

-- the list that the next row belongs to: a new one or the current one, with the row counted
abbrev pub extended : {A : Type 0} → Bool → Lists A → Listing
extended new l = grown (cond new (record { row = l.count; span = record { start = l.rows; len = 0 } }) l.current)

abbrev pub added : {A : Type 0} → Bool → A → Lists A → Lists A
added new x l = record {
  count = cond new (l.count + 1) l.count;
  spans = slice_set l.spans (extended new l).row (extended new l).span;
  rows = l.rows + 1;
  table = slice_set l.table l.rows x;
  current = extended new l;
}

-- the tables on the way, with their counts, and the place after the last name
pub record Filling : Type 0 where
  pub stops : ℕ
  pub end : ℕ
  pub names : List Span
  pub walk_count : ℕ
  pub walks : List ℕ
  pub timetables : Lists Connection
  pub roads : Lists Point
  pub arc_count : ℕ
  pub arcs : List Arc

abbrev pub name_start : ℕ → List ℕ → ℕ
name_start end name = end + length (encode (length name))

abbrev pub with_names : Filling → ℕ → ℕ → List Span → Filling
with_names f k e t = record { stops = k; end = e; names = t; walk_count = f.walk_count; walks = f.walks; timetables = f.timetables; roads = f.roads; arc_count = f.arc_count; arcs = f.arcs }

abbrev pub with_walks : Filling → ℕ → List ℕ → Filling
with_walks f k t = record { stops = f.stops; end = f.end; names = f.names; walk_count = k; walks = t; timetables = f.timetables; roads = f.roads; arc_count = f.arc_count; arcs = f.arcs }

abbrev pub with_timetables : Filling → Lists Connection → Filling
with_timetables f l = record { stops = f.stops; end = f.end; names = f.names; walk_count = f.walk_count; walks = f.walks; timetables = l; roads = f.roads; arc_count = f.arc_count; arcs = f.arcs }

abbrev pub with_roads : Filling → Lists Point → Filling
with_roads f l = record { stops = f.stops; end = f.end; names = f.names; walk_count = f.walk_count; walks = f.walks; timetables = f.timetables; roads = l; arc_count = f.arc_count; arcs = f.arcs }

abbrev pub with_arcs : Filling → ℕ → List Arc → Filling
with_arcs f k t = record { stops = f.stops; end = f.end; names = f.names; walk_count = f.walk_count; walks = f.walks; timetables = f.timetables; roads = f.roads; arc_count = k; arcs = t }

-- one record stored
abbrev pub stored : Filling → Rec → Filling
stored f (a_stop name) = with_names f (f.stops + 1) (name_start f.end name + length name) (slice_set f.names f.stops (record { start = name_start f.end name; len = length name }))
stored f (a_walk w) = with_walks f (f.walk_count + 1) (slice_set f.walks f.walk_count w)
stored f (a_connection k c) = with_timetables f (added (k == f.walk_count + f.timetables.count) c f.timetables)
stored f (a_point k p) = with_roads f (added (k == f.walk_count + f.timetables.count + f.roads.count) p f.roads)
stored f (an_arc a) = with_arcs f (f.arc_count + 1) (slice_set f.arcs f.arc_count a)

unfoldable pub stored_all : Filling → List Rec → Filling
stored_all f [] = f
stored_all f (r ∷ rs) = stored_all (stored f r) rs

-- the counts of the tables on the way
abbrev pub counts_in : Filling → Counts
counts_in f = record { stops = f.stops; walks = f.walk_count; timetables = f.timetables.count; connections = f.timetables.rows; roads = f.roads.count; points = f.roads.rows; arcs = f.arc_count }

-- a stop's name is short
abbrev pub Short : Rec → Type 0
Short (a_stop name) = length name ≤ 40
Short (a_walk w) = Unit {0}
Short (a_connection k c) = Unit {0}
Short (a_point k p) = Unit {0}
Short (an_arc a) = Unit {0}

unfoldable pub AllShort : List Rec → Type 0
AllShort [] = Unit {0}
AllShort (r ∷ rs) = Short r × AllShort rs

-- no count and no list is above a limit, and the last name ends no later than at a place
pub record Bounded (limit place : ℕ) (f : Filling) : Type 0 where
  pub counts : AtMost limit (counts_in f)
  pub timetable : f.timetables.current.span.len ≤ limit
  pub road : f.roads.current.span.len ≤ limit
  pub end : f.end ≤ place
