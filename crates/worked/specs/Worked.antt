-- The worked examples, from the definitions that the contracts use: answers of a timetable, a road and a walk, of a walk under a
-- notice, states of pairs, numbers in a file, and two journeys that the tie rule picks.
use Rattle.std.specs.Prelude.{◌≡◌, ℕ, [], ◌∷◌, Some, Option}
use Rattle.model.specs.Trips.{world, place, Answer}
use Rattle.model.specs.Journeys.{any_word, straight_or_round, to_the_pier}
use Rattle.meanings.specs.Answers.{joined}
use Rattle.meanings.specs.Timetables.{timetabled}
use Rattle.meanings.specs.Walks.{walked}
use Rattle.automata.specs.Pairs.{PairStateExamples}
use Rattle.books.specs.Examples.{BookExamples}
use Rattle.notices.specs.Example.{late_and_shut}
use Rattle.notices.specs.Notices.{noticed}
use Rattle.formats.specs.Examples.{NumberExamples}

-- a walk of 300 with lateness 60, shut from 100 until 200
abbrev pub NoticeExample : Type 0
NoticeExample =
    (noticed (late_and_shut ∷ []) (walked (300 ∷ [])) 0 99 ≡ Some 459)
    × (noticed (late_and_shut ∷ []) (walked (300 ∷ [])) 0 100 ≡ Some 560)
    × (noticed (late_and_shut ∷ []) (walked (300 ∷ [])) 0 199 ≡ Some 560)
    × (noticed (late_and_shut ∷ []) (walked (300 ∷ [])) 0 200 ≡ Some 560)

-- one walk of 300 beats walks of 100 and 200
abbrev pub OneWalkExample : Type 0
OneWalkExample =
    Answer (world straight_or_round (walked (100 ∷ 300 ∷ 200 ∷ [])) any_word) (place 0 0) 0 2
    (Some (record { arc = 1; entered = 0; arrived = 300 } ∷ []))

-- walks of 100, 500 and 100, and a boat that leaves at 900 and arrives at 1,500
abbrev pub walks_and_a_boat : ℕ → ℕ → Option ℕ
walks_and_a_boat =
    joined 3 (walked (100 ∷ 500 ∷ 100 ∷ [])) 1
    (timetabled (record { departure = 900; arrival = 1500 } ∷ []) (record { start = 0; len = 1 } ∷ []))

-- to the boat, walks of 100 and 100 beat one of 500
abbrev pub BoatExample : Type 0
BoatExample =
    Answer (world to_the_pier walks_and_a_boat any_word) (place 0 0) 0 3
    (Some (record { arc = 0; entered = 0; arrived = 100 } ∷ record { arc = 2; entered = 100; arrived = 200 } ∷ record { arc = 3; entered = 200; arrived = 1500 } ∷ []))

-- all of them
abbrev pub WorkedExamples : Type 0
WorkedExamples = BookExamples × NoticeExample × PairStateExamples × NumberExamples × OneWalkExample × BoatExample
