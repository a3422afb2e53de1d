-- Two small worlds and the journeys that the tie rule picks in them, whatever book gives the arrivals named.
use Rattle.std.specs.Prelude.{◌≡◌, ℕ, cond, ◌&&◌, List, [], ◌∷◌, Some, None, Option, nat_lt}
use Rattle.model.specs.Books.{LawfulBook}
use Rattle.model.specs.Rules.{Automaton, label_count}
use Rattle.model.specs.Trips.{Arc, world, place, Answer}

-- one state, an end, from which every label leads back to it
abbrev pub any_word : Automaton
any_word = record { next = λ s x. cond (nat_lt s 1 && nat_lt x label_count) (Some 0) None; ends = λ s. nat_lt s 1; states = 1 }

-- stop 0 to stop 2 by way of stop 1, or straight
abbrev pub straight_or_round : List Arc
straight_or_round =
    record { tail = 0; head = 1; label = 0; service = 0 }
    ∷ record { tail = 0; head = 2; label = 0; service = 1 }
    ∷ record { tail = 1; head = 2; label = 0; service = 2 }
    ∷ []

-- one walk of 300 beats 100 + 200: both arrive at 300, and one leg is fewer
abbrev pub OneWalkBeatsTwo : Type 0
OneWalkBeatsTwo =
    (count : ℕ) (answer : ℕ → ℕ → Option ℕ) → LawfulBook count answer → answer 0 0 ≡ Some 100 → answer 1 0 ≡ Some 300 → answer 2 100 ≡ Some 300
    → Answer (world straight_or_round answer any_word) (place 0 0) 0 2 (Some (record { arc = 1; entered = 0; arrived = 300 } ∷ []))

-- stop 0 to the pier at stop 2 by way of stop 1, or straight; from the pier a ship to stop 3
abbrev pub to_the_pier : List Arc
to_the_pier =
    record { tail = 0; head = 1; label = 0; service = 0 }
    ∷ record { tail = 0; head = 2; label = 0; service = 1 }
    ∷ record { tail = 1; head = 2; label = 0; service = 2 }
    ∷ record { tail = 2; head = 3; label = 2; service = 3 }
    ∷ []

-- to one boat, walks of 100 + 100 beat one of 500: both are in time for it, and only they are at the pier at its first second
abbrev pub TwoWalksToABoat : Type 0
TwoWalksToABoat =
    (count : ℕ) (answer : ℕ → ℕ → Option ℕ) (landing : ℕ) → LawfulBook count answer → answer 0 0 ≡ Some 100 → answer 1 0 ≡ Some 500 → answer 2 100 ≡ Some 200
    → answer 3 200 ≡ Some landing
    → Answer (world to_the_pier answer any_word) (place 0 0) 0 3
    (Some (record { arc = 0; entered = 0; arrived = 100 } ∷ record { arc = 2; entered = 100; arrived = 200 } ∷ record { arc = 3; entered = 200; arrived = landing } ∷ []))
