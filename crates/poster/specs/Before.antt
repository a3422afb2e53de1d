-- The order of the departures of a board.
use Rattle.std.specs.Prelude.{◌≡◌, Bool, true, List, [], ◌∷◌}
use Rattle.std.specs.List.{AllByRecursion}
use Rattle.queue.specs.Lex.{lex}
use Rattle.poster.specs.declared.departure.Departure.{Departure}

-- by the second of departure, then the arc, then the place in the service
abbrev pub departure_before : Departure → Departure → Bool
departure_before x y = lex x.departure x.arc x.place y.departure y.arc y.place

-- every departure of a list is before all that follow it
abbrev pub Ascending : List Departure → Type 0
Ascending [] = Unit {0}
Ascending (x ∷ xs) = AllByRecursion (λ y. departure_before x y ≡ true) xs × Ascending xs
