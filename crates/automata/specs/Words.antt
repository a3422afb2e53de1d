-- Words of labels, and what it is to say just which of them an automaton accepts.
use Rattle.std.specs.Prelude.{ℕ, ◌<◌, List}
use Rattle.std.specs.List.{AllByRecursion}
use Rattle.model.specs.Rules.{Automaton, Accepts, label_count}

-- a word over the six labels
abbrev pub Labels : List ℕ → Type 0
Labels word = AllByRecursion (λ x. x < label_count) word

-- the words that the automaton accepts are just those of which P holds
pub record AcceptsJust (a : Automaton) (P : List ℕ → Type 0) : Type 0 where
  pub only : (word : List ℕ) → Accepts a word → P word
  pub all : (word : List ℕ) → P word → Accepts a word
