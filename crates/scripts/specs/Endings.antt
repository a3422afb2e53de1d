-- A script's end, where the bulletins that are out are torn up.
use Rattle.std.specs.Prelude.{◌≡◌, ℕ, List, [], ◌∷◌, Some, None, Ok, Err, Option, Result, slice_index_or}
use Rattle.model.specs.Rules.{Automaton}
use Rattle.planner.specs.declared.planner.Bulletin.{Bulletin}
use Rattle.planner.specs.declared.planner.Planner.{Planner}
use Rattle.scripts.specs.declared.step.Step.{Step}
use Rattle.scripts.specs.declared.tearing.Unspent.{Unspent}
use Rattle.scripts.specs.Scripts.{Ground, Ran}
use Rattle.scripts.specs.Balances.{ToreUp}

-- the bulletins that are left, if there are any
abbrev pub left_over : Option Bulletin → Option Bulletin → Result (Unit {0}) Unspent
left_over None None = Ok tt
left_over None (Some b) = Err (None, Some b)
left_over (Some a) second = Err (Some a, second)

-- what a script does over several planners with two empty slots, where the bulletins that are out at its end are torn up, those of the first
-- slot first; those that are left come back
pub record RanOut {B R : Type 0} (L Q : Type 0) (size : B → ℕ) (answers : B → ℕ → ℕ → Option ℕ) (automata : R → Automaton) (on : Ground)
    (ps : List (Planner B R)) (ss : List Step) (ps' : List (Planner B R)) (ss' : List Step) (result : Result (Unit {0}) Unspent) : Type 0 where
  pub at_end : List (Planner B R)
  pub slots : List (Option Bulletin)
  pub between : List (Planner B R)
  pub first : Option Bulletin
  pub second : Option Bulletin
  pub ran : Ran L Q size answers automata on ps (None ∷ None ∷ []) ss at_end slots ss'
  pub torn_first : ToreUp at_end between (slice_index_or slots 0 None) first
  pub torn_second : ToreUp between ps' (slice_index_or slots 1 None) second
  pub left : result ≡ left_over first second
