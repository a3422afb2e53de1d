-- Worked examples of what the books answer.
use Rattle.std.specs.Prelude.{◌≡◌, List, [], ◌∷◌, Some, None}
use Rattle.model.specs.declared.tables.Connection.{Connection}
use Rattle.model.specs.declared.tables.Point.{Point}
use Rattle.model.specs.declared.tables.Span.{Span}
use Rattle.meanings.specs.Walks.{walked}
use Rattle.meanings.specs.Timetables.{timetabled}
use Rattle.meanings.specs.Roads.{driven}

-- one service, which has a table's first two rows
abbrev pub one_service : List Span
one_service = record { start = 0; len = 2 } ∷ []

-- the later departure arrives first
abbrev pub example_connections : List Connection
example_connections = record { departure = 600; arrival = 2400 } ∷ record { departure = 900; arrival = 1800 } ∷ []

-- a travel time that falls
abbrev pub example_points : List Point
example_points = record { second = 0; travel = 600 } ∷ record { second = 1000; travel = 200 } ∷ []

abbrev pub BookExamples : Type 0
BookExamples =
    (timetabled example_connections one_service 0 0 ≡ Some 1800)
    × (timetabled example_connections one_service 0 600 ≡ Some 1800)
    × (timetabled example_connections one_service 0 900 ≡ Some 1800)
    × (timetabled example_connections one_service 0 901 ≡ None)
    × (driven example_points one_service 0 0 ≡ Some 600)
    × (driven example_points one_service 0 333 ≡ Some 799)
    × (driven example_points one_service 0 999 ≡ Some 1199)
    × (driven example_points one_service 0 1000 ≡ Some 1200)
    × (walked (300 ∷ []) 0 172500 ≡ Some 172800)
    × (walked (300 ∷ []) 0 172501 ≡ None)
