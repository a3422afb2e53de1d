-- Boardings, and the automaton that counts them up to a limit.
use Rattle.std.specs.Prelude.{ℕ, ◌+◌, ◌≤◌, Bool, cond, ◌&&◌, ◌||◌, List, [], ◌∷◌, Some, None, ◌==◌, nat_le, nat_lt}
use Rattle.model.specs.Rules.{Automaton, label_count}
use Rattle.automata.specs.Words.{Labels}

-- whether a label is a boarding: 1 b bus, 2 s ship or 3 r rail
abbrev pub boards : ℕ → Bool
boards x = x == 1 || (x == 2 || x == 3)

-- the number of boardings in a word
abbrev pub boardings : List ℕ → ℕ
boardings [] = 0
boardings (x ∷ xs) = cond (boards x) 1 0 + boardings xs

-- n + 1 states, all ends; a boarding steps one up, from the last to none, and any other label stays
abbrev pub boarded : ℕ → Automaton
boarded n = record {
  states = n + 1;
  next = λ s x. cond (nat_le s n && nat_lt x label_count) (cond (boards x) (cond (nat_lt s n) (Some (s + 1)) None) (Some s)) None;
  ends = λ s. nat_le s n;
}

-- a word over the six labels with at most n boardings
abbrev pub AtMost : ℕ → List ℕ → Type 0
AtMost n word = Labels word × (boardings word ≤ n)
