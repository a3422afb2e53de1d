-- The automaton of a table: for each state a next state or none by label, six in a row, and an end mark.
use Rattle.std.specs.Prelude.{◌≡◌, ℕ, ◌+◌, ◌*◌, ◌<◌, Bool, false, cond, ◌&&◌, List, Some, None, Option, nat_lt, slice_index_or}
use Rattle.model.specs.Rules.{Automaton, label_count}

-- k states with these steps and end marks; what stands past the rows of the states does not count
abbrev pub tabled : ℕ → List (Option ℕ) → List Bool → Automaton
tabled k steps marks = record {
  states = k;
  next = λ s x. cond (nat_lt s k && nat_lt x label_count) (slice_index_or steps (s * label_count + x) None) None;
  ends = λ s. nat_lt s k && slice_index_or marks s false;
}

-- every step leads to one of k states
abbrev pub Closed : ℕ → List (Option ℕ) → Type 0
Closed k steps = (i n : ℕ) → slice_index_or steps i None ≡ Some n → n < k
