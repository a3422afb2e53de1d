-- The books of lists, by their rows.
use Rattle.model.specs.declared.tables.Connection.{Connection}
use Rattle.model.specs.declared.tables.Point.{Point}
use Rattle.books.specs.declared.lists.Lists.{Lists}
use Rattle.books.specs.contracts.rows.ConnectionRow.TheImpl.{ghosts as connection_row}
use Rattle.books.specs.contracts.rows.PointRow.TheImpl.{ghosts as point_row}

abbrev pub Timetables : Type 0
Timetables = Lists Connection connection_row

abbrev pub Roads : Type 0
Roads = Lists Point point_row
