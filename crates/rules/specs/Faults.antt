-- What the makers of rules refuse, and at which fault: the first in the order of the tests.
use Rattle.std.specs.Prelude.{◌≡◌, ℕ, ◌*◌, ◌<◌, ◌≤◌, Bool, true, false, List, length, Some, None, Option, ◌≢◌, nat_lt, slice_index_or}
use Rattle.model.specs.Rules.{label_count}
use Rattle.model.specs.declared.refusal.Refusal.{Refusal}
use Rattle.model.specs.declared.refusal.Refusal.TheVariants.{RuleField}
use Rattle.automata.specs.Tables.{Closed}
use Rattle.rules.specs.declared.fault.RuleFault.{RuleFault}
use Rattle.rules.specs.declared.fault.RuleFault.TheVariants.{StateCount, StepCount, EndCount, NextState, BoardingLimit}

-- the refusal that reports a fault: a field of the rule is out of range
abbrev pub refusal_of : RuleFault → Refusal
refusal_of StateCount = RuleField
refusal_of StepCount = RuleField
refusal_of EndCount = RuleField
refusal_of (NextState _) = RuleField
refusal_of BoardingLimit = RuleField

-- 1 to 16 states
abbrev pub StatesFit : ℕ → Type 0
StatesFit k = (1 ≤ k) × (k ≤ 16)

-- a table that is taken: six steps and one mark for each state, and every step leads to a state
pub record SoundTable (k : ℕ) (steps : List (Option ℕ)) (marks : List Bool) : Type 0 where
  pub states : StatesFit k
  pub rows : length steps ≡ k * label_count
  pub ends : length marks ≡ k
  pub closed : Closed k steps

-- a step leads to one of k states or is none
abbrev pub step_within : ℕ → Option ℕ → Bool
step_within k None = true
step_within k (Some n) = nat_lt n k

-- the step of number i leads to no state, and it is the first that does
pub record FirstOutside (k : ℕ) (steps : List (Option ℕ)) (i : ℕ) : Type 0 where
  pub inside : i < length steps
  pub outside : step_within k (slice_index_or steps i None) ≡ false
  pub first : (j : ℕ) → j < i → step_within k (slice_index_or steps j None) ≡ true

-- the first fault of a table that is refused
abbrev pub TableAtFault : RuleFault → ℕ → List (Option ℕ) → List Bool → Type 0
TableAtFault StateCount k steps marks = StatesFit k → ⊥
TableAtFault StepCount k steps marks = StatesFit k × (length steps ≢ k * label_count)
TableAtFault EndCount k steps marks = StatesFit k × (length steps ≡ k * label_count) × (length marks ≢ k)
TableAtFault (NextState i) k steps marks = StatesFit k × (length steps ≡ k * label_count) × (length marks ≡ k) × FirstOutside k steps i
TableAtFault BoardingLimit k steps marks = ⊥

-- a boarding rule is refused for more than 15 boardings
abbrev pub BoardingAtFault : RuleFault → ℕ → Type 0
BoardingAtFault StateCount n = ⊥
BoardingAtFault StepCount n = ⊥
BoardingAtFault EndCount n = ⊥
BoardingAtFault (NextState i) n = ⊥
BoardingAtFault BoardingLimit n = 15 < n
