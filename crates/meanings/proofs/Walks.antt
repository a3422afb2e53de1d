-- A walk book is a book.
use Rattle.std.proofs.Common.{ℕ, ◌+◌, ◌≤◌, List, length, get_or, arith}
use Rattle.model.specs.Books.{LawfulBook}
use Rattle.meanings.specs.Answers.{timely}
use Rattle.meanings.specs.Spans.{most_services}
use Rattle.meanings.specs.Walks.{walked}
use Rattle.meanings.proofs.Laws.{listed_lawful, timely_fair}

pub walked_lawful : (times : List ℕ) → length times ≤ most_services → LawfulBook (length times) (walked times)
walked_lawful times few =
    listed_lawful (length times) (λ s t. timely (t + get_or times s 0)) (omega arith)
    (λ s _. timely_fair (λ t. t + get_or times s 0) (λ t. omega arith) (λ t u h. omega arith))
