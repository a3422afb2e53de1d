-- What a poster gives: the tests in their order, and past them the board's rows.
use Rattle.std.specs.Prelude.{◌≡◌, ℕ, ◌<◌, ◌≤◌, cond, ◌↔◌, List, ◌++◌, map, length, drop, Some, None, Ok, Err, filter, Option, Result, nat_eq, nat_le, nat_lt}
use Rattle.model.specs.Clock.{horizon}
use Rattle.model.specs.declared.network.Arc.{Arc}
use Rattle.model.specs.declared.refusal.Refusal.{Refusal}
use Rattle.model.specs.declared.refusal.Refusal.TheVariants.{NoSuchStart, SecondAboveHorizon, QueueShort, RowsShort}
use Rattle.poster.specs.declared.departure.Departure.{Departure}
use Rattle.poster.specs.declared.departure.PosterRow.{PosterRow}
use Rattle.poster.specs.Boards.{Listing, Board, row_of}

-- how many arcs leave a stop, whatever their services
abbrev pub leaving_count : List Arc → ℕ → ℕ
leaving_count arcs stop = length (filter (λ a. nat_eq a.tail stop) arcs)

-- the refusal of the first test that fails, in a network of so many stops and with so many queue slots
abbrev pub refusal_of : ℕ → List Arc → ℕ → ℕ → ℕ → Option Refusal
refusal_of stops arcs stop second slots =
    cond (nat_le stops stop) (Some NoSuchStart)
    (cond (nat_lt horizon second) (Some SecondAboveHorizon)
    (cond (nat_lt slots (leaving_count arcs stop)) (Some QueueShort)
    None))

-- a poster filled: the answer is the number of the board's rows, these lie in the first rows, and the later rows are as they were
pub record Filled (l : Listing) (board : List Departure) (rows rows' : List PosterRow) (answer : ℕ) : Type 0 where
  pub counted : answer ≡ length board
  pub fits : length board ≤ length rows
  pub filled : rows' ≡ map (row_of l) board ++ drop (length board) rows

-- past the tests there is a board; the poster is refused for want of rows if and only if the board has more, and by no other refusal; a
-- refusal leaves the rows as they were; and a poster filled
pub record Outcome (l : Listing) (rows rows' : List PosterRow) (result : Result ℕ Refusal) : Type 0 where
  pub board : List Departure
  pub is_the_board : Board l board
  pub rows_short : (result ≡ Err RowsShort) ↔ (length rows < length board)
  pub no_other : (f : Refusal) → result ≡ Err f → f ≡ RowsShort
  pub untouched : (f : Refusal) → result ≡ Err f → rows' ≡ rows
  pub answered : (n : ℕ) → result ≡ Ok n → Filled l board rows rows' n

-- a poster asked of a network of so many stops; with the queue's slots and the rows before and after, and the result
pub record Posted (stops : ℕ) (l : Listing) (slots slots' : List Departure) (rows rows' : List PosterRow) (result : Result ℕ Refusal) : Type 0 where
  pub refused_by_tests : (f : Refusal) → refusal_of stops l.arcs l.stop l.second (length slots) ≡ Some f
      → (result ≡ Err f) × (slots' ≡ slots) × (rows' ≡ rows)
  pub past_tests : refusal_of stops l.arcs l.stop l.second (length slots) ≡ None → Outcome l rows rows' result
  pub sizes : (length slots' ≡ length slots) × (length rows' ≡ length rows)
