-- What the tables that the writer is lent hold.
use Rattle.writer.specs.declared.tables.LentTables.{LentTables}
use Rattle.writer.specs.Networks.{NetworkTables, tables_of}

abbrev pub lists : LentTables → NetworkTables
lists t = tables_of t.names.now t.stops.now t.walks.now t.connections.now t.timetables.now t.points.now t.roads.now t.arcs.now
