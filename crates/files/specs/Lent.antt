-- What the tables that a file is loaded into hold.
use Rattle.std.specs.Prelude.{◌≡◌}
use Rattle.files.specs.declared.tables.FileTables.{FileTables}
use Rattle.files.specs.Loading.{Tables}

abbrev pub lists : FileTables → Tables
lists t = record { names = t.names.now; walks = t.walks.now; timetables = t.timetables.now; connections = t.connections.now; roads = t.roads.now; points = t.points.now; arcs = t.arcs.now }

-- the same tables are lent
pub record SameReferences (t u : FileTables) : Type 0 where
  pub names : u.names.ghost_name ≡ t.names.ghost_name
  pub walks : u.walks.ghost_name ≡ t.walks.ghost_name
  pub timetables : u.timetables.ghost_name ≡ t.timetables.ghost_name
  pub connections : u.connections.ghost_name ≡ t.connections.ghost_name
  pub roads : u.roads.ghost_name ≡ t.roads.ghost_name
  pub points : u.points.ghost_name ≡ t.points.ghost_name
  pub arcs : u.arcs.ghost_name ≡ t.arcs.ghost_name
