-- Two automata that read the same word side by side.
use Rattle.std.specs.Prelude.{◌≡◌, ℕ, ◌+◌, ◌*◌, ◌/◌, ◌%◌, Bool, false, cond, ◌&&◌, List, Some, None, Option, nat_le}
use Rattle.model.specs.Rules.{Automaton, Accepts}

-- the state of a pair for states i and j, where the second has k states
abbrev pub both : ℕ → Option ℕ → Option ℕ → Option ℕ
both k None o = None
both k (Some i) None = None
both k (Some i) (Some j) = Some (i * k + j)

-- the most states that a pair has of its own
abbrev pub most_pair_states : ℕ
most_pair_states = 64

-- whether a pair of m and n states has at most that many
abbrev pub pair_fits : ℕ → ℕ → Bool
pair_fits m n = nat_le (m * n) most_pair_states

-- the product, state i × k + j for i and j: both step, and it ends where both end;
-- a pair of too many states has one more than the most, no steps and no ends
abbrev pub paired : Automaton → Automaton → Automaton
paired a b = record {
  states = cond (pair_fits a.states b.states) (a.states * b.states) (most_pair_states + 1);
  next = λ s x. cond (pair_fits a.states b.states) (both b.states (a.next (s / b.states) x) (b.next (s % b.states) x)) None;
  ends = λ s. cond (pair_fits a.states b.states) (a.ends (s / b.states) && b.ends (s % b.states)) false;
}

-- a word that both accept
abbrev pub AcceptedByBoth : Automaton → Automaton → List ℕ → Type 0
AcceptedByBoth a b word = Accepts a word × Accepts b word

-- worked examples: pairs of automata with 8 and 8 states have 64, and those with 5 and 13 have 65
abbrev pub PairStateExamples : Type 0
PairStateExamples =
    ((a b : Automaton) → a.states ≡ 8 → b.states ≡ 8 → (paired a b).states ≡ 64)
    × ((a b : Automaton) → a.states ≡ 5 → b.states ≡ 13 → (paired a b).states ≡ 65)
