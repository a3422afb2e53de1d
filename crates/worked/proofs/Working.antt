-- The worked examples hold.
use Rattle.std.proofs.Common.{zero, suc, List, [], ◌∷◌, refl, arith}
use Rattle.model.specs.declared.tables.Connection.{Connection}
use Rattle.model.specs.declared.tables.Span.{Span}
use Rattle.meanings.specs.Answers.{joined_count}
use Rattle.meanings.specs.Walks.{walked}
use Rattle.meanings.specs.Spans.{Each}
use Rattle.meanings.specs.Timetables.{Forward, Timely}
use Rattle.meanings.proofs.Laws.{joined_lawful}
use Rattle.meanings.proofs.Walks.{walked_lawful}
use Rattle.meanings.proofs.Timetables.{timetabled_lawful}
use Rattle.automata.proofs.PairLaws.{pair_state_examples}
use Rattle.formats.proofs.Examples.{number_examples}
use Rattle.labels.proofs.Journeys.{one_walk_beats_two, two_walks_to_a_boat}
use Rattle.books.specs.Examples.{BookExamples}
use Rattle.worked.specs.Worked.{NoticeExample, OneWalkExample, BoatExample, WorkedExamples, walks_and_a_boat}

books_hold : BookExamples
books_hold = (refl, refl, refl, refl, refl, refl, refl, refl, refl, refl)

notice_holds : NoticeExample
notice_holds = (refl, refl, refl, refl)

one_walk_holds : OneWalkExample
one_walk_holds = one_walk_beats_two 3 (walked (100 ∷ 300 ∷ 200 ∷ [])) (walked_lawful (100 ∷ 300 ∷ 200 ∷ []) (omega arith)) refl refl refl

abbrev boat : List Connection
boat = record { departure = 900; arrival = 1500 } ∷ []

abbrev one_span : List Span
one_span = record { start = 0; len = 1 } ∷ []

boat_forward : Each Forward boat one_span
boat_forward zero h zero k = omega arith
boat_forward zero h (suc j) k = absurd (omega arith)
boat_forward (suc s) h j k = absurd (omega arith)

boat_timely : Each Timely boat one_span
boat_timely zero h zero k = omega arith
boat_timely zero h (suc j) k = absurd (omega arith)
boat_timely (suc s) h j k = absurd (omega arith)

boat_holds : BoatExample
boat_holds =
    two_walks_to_a_boat (joined_count 3 1) walks_and_a_boat 1500
    (joined_lawful (walked_lawful (100 ∷ 500 ∷ 100 ∷ []) (omega arith)) (timetabled_lawful boat one_span (omega arith) boat_forward boat_timely))
    refl refl refl refl

pub worked : WorkedExamples
worked = (books_hold, notice_holds, pair_state_examples, number_examples, one_walk_holds, boat_holds)
