-- What the code holds while it fills tables.
use Rattle.std.specs.Prelude.{◌≡◌, ℕ, true, List}
use Rattle.files.specs.declared.rows.Progress.{Progress}
use Rattle.files.specs.Counting.{none}
use Rattle.files.specs.Filling.{Filling}
use Rattle.files.specs.Loading.{Tables, Accepted, filled, room, counts_of}

abbrev pub unstored : ℕ → Progress
unstored end = record { counts = none; timetable = record { row = 0; span = record { start = 0; len = 0 } }; road = record { row = 0; span = record { start = 0; len = 0 } }; end = end }

abbrev pub filling : Progress → Tables → Filling
filling at t = record {
  stops = at.counts.stops;
  end = at.end;
  names = t.names;
  walk_count = at.counts.walks;
  walks = t.walks;
  timetables = record { count = at.counts.timetables; spans = t.timetables; rows = at.counts.connections; table = t.connections; current = at.timetable };
  roads = record { count = at.counts.roads; spans = t.roads; rows = at.counts.points; table = t.points; current = at.road };
  arc_count = at.counts.arcs;
  arcs = t.arcs;
}

-- tables that have room for what the file holds are filled
abbrev pub Fills : List ℕ → ℕ → Tables → Tables → Type 0
Fills bs stops before after = (a : Accepted bs stops) → room (counts_of a.contents) before ≡ true → after ≡ filled a.contents before
