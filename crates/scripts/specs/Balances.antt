-- Bulletins that are out, and drafts that are open.
use Rattle.std.specs.Prelude.{◌≡◌, ℕ, ◌+◌, Bool, false, cond, List, Some, None, Option, ◌==◌, count_by}
use Rattle.ledger.specs.Ledgers.{good}
use Rattle.planner.specs.declared.planner.Bulletin.{Bulletin}
use Rattle.planner.specs.declared.planner.Planner.{Planner}
use Rattle.planner.specs.Planners.{state}

abbrev pub bit : Bool → ℕ
bit b = cond b 1 0

-- a bulletin of the mark m is good at a planner
abbrev pub knows : {B R : Type 0} → ℕ → Planner B R → Bool
knows m p = good p.mark m (state p)

-- a slot holds a bulletin of the mark m
abbrev pub holds : ℕ → Option Bulletin → Bool
holds m None = false
holds m (Some b) = m == b.mark

-- for each mark as many bulletins lie in the slots as drafts are open at planners of that mark
abbrev pub Balanced : {B R : Type 0} → List (Planner B R) → List (Option Bulletin) → Type 0
Balanced ps os = (m : ℕ) → count_by (holds m) os ≡ count_by (knows m) ps

-- for each mark a planner's drafts and the bulletins of one slot, or of all, grow and shrink by the same number
abbrev pub SlotBalance : {B R : Type 0} → Planner B R → Planner B R → Option Bulletin → Option Bulletin → Type 0
SlotBalance p q o o' = (m : ℕ) → bit (knows m q) + bit (holds m o) ≡ bit (knows m p) + bit (holds m o')

abbrev pub SlotsBalance : {B R : Type 0} → Planner B R → Planner B R → List (Option Bulletin) → List (Option Bulletin) → Type 0
SlotsBalance p q os os' = (m : ℕ) → bit (knows m q) + count_by (holds m) os ≡ bit (knows m p) + count_by (holds m) os'

-- one bulletin, or none, torn up at planners: for each mark drafts and bulletins shrink by the same number, and where one is left, it is
-- good at no planner
pub record ToreUp {B R : Type 0} (ps ps' : List (Planner B R)) (o o' : Option Bulletin) : Type 0 where
  pub balance : (m : ℕ) → count_by (knows m) ps' + bit (holds m o) ≡ count_by (knows m) ps + bit (holds m o')
  pub left : (b : Bulletin) → o' ≡ Some b → count_by (knows b.mark) ps' ≡ 0

-- the same at one planner
pub record ToreUpAt {B R : Type 0} (p q : Planner B R) (o o' : Option Bulletin) : Type 0 where
  pub balance : SlotBalance p q o o'
  pub left : (b : Bulletin) → o' ≡ Some b → (o ≡ Some b) × (knows b.mark q ≡ false)
