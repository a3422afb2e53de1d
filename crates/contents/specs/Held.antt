-- What the tables of a network file hold.
use Rattle.std.specs.Prelude.{◌≡◌, take, replicate, vec_items, Option}
use Rattle.files.specs.declared.rows.Counts.{Counts}
use Rattle.files.specs.Loading.{Tables}
use Rattle.book.specs.declared.bank.Bank.{Bank}
use Rattle.meanings.specs.declared.fault.BookFault.{BookFault}
use Rattle.books.specs.declared.walks.Walks.{Walks}
use Rattle.books.specs.Kinds.{Timetables, Roads}
use Rattle.meanings.specs.Faults.{or_else, walks_fault, timetables_fault, roads_fault}
use Rattle.contents.specs.declared.tables.FileContents.{FileContents}

abbrev pub lists : FileContents → Tables
lists c = record {
  names = vec_items c.names;
  walks = vec_items c.walks;
  timetables = vec_items c.timetables;
  connections = vec_items c.connections;
  roads = vec_items c.roads;
  points = vec_items c.points;
  arcs = vec_items c.arcs;
}

-- tables of so many rows, all of them zeros
abbrev pub blank : Counts → Tables
blank n = record {
  names = replicate n.stops (record { start = 0; len = 0 });
  walks = replicate n.walks 0;
  timetables = replicate n.timetables (record { start = 0; len = 0 });
  connections = replicate n.connections (record { departure = 0; arrival = 0 });
  roads = replicate n.roads (record { start = 0; len = 0 });
  points = replicate n.points (record { second = 0; travel = 0 });
  arcs = replicate n.arcs (record { tail = 0; head = 0; label = 0; service = 0 });
}

-- the first rows of tables
abbrev pub fronts : Counts → Tables → Tables
fronts n t = record {
  names = take n.stops t.names;
  walks = take n.walks t.walks;
  timetables = take n.timetables t.timetables;
  connections = take n.connections t.connections;
  roads = take n.roads t.roads;
  points = take n.points t.points;
  arcs = take n.arcs t.arcs;
}

-- the first fault of the tables of services, in the order of a file
abbrev pub book_fault : Tables → Option BookFault
book_fault t = or_else (walks_fault t.walks) (or_else (timetables_fault t.connections t.timetables) (roads_fault t.points t.roads))

-- the book over the tables
pub record Laid (t : Tables) (book : Bank (Bank Walks Timetables) Roads) : Type 0 where
  pub walks : book.first.first.times.now ≡ t.walks
  pub connections : book.first.second.rows.now ≡ t.connections
  pub timetables : book.first.second.spans.now ≡ t.timetables
  pub points : book.second.rows.now ≡ t.points
  pub roads : book.second.spans.now ≡ t.roads
