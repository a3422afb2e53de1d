-- A sound table has no fault.
use Rattle.std.proofs.Common.{◌≡◌, ℕ, ◌≤◌, Bool, false, List, get_or, Some, None, Option, refl, arith}
use Rattle.std.proofs.lemmas.Bool.Decides.{nat_tests}
use Rattle.rules.specs.declared.fault.RuleFault.{RuleFault}
use Rattle.rules.specs.declared.fault.RuleFault.TheVariants.{StateCount, StepCount, EndCount, NextState, BoardingLimit}
use Rattle.rules.specs.Faults.{step_within, SoundTable, TableAtFault}

outside_not : (k : ℕ) (o : Option ℕ) → step_within k o ≡ false → (n : ℕ) × (o ≡ Some n) × (k ≤ n)
outside_not k None h = let z : ◌≡◌ {A = ℕ} 0 1 = cc in absurd (omega arith)
outside_not k (Some n) h = let le : k ≤ n = grind (arith, nat_tests) in (n, refl, le)

-- a sound table is not refused
pub sound_not_at_fault : (fault : RuleFault) (k : ℕ) (steps : List (Option ℕ)) (marks : List Bool) → SoundTable k steps marks → TableAtFault fault k steps marks → ⊥
sound_not_at_fault StateCount k steps marks s h = h s.states
sound_not_at_fault StepCount k steps marks s h = h.1 s.rows
sound_not_at_fault EndCount k steps marks s h = h.2 s.ends
sound_not_at_fault (NextState i) k steps marks s h =
    let o = outside_not k (get_or steps i None) h.3.outside in omega (arith, s.closed i o.0 o.1)
sound_not_at_fault BoardingLimit k steps marks s h = h
