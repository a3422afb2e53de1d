-- Optional values.
use Rattle.std.proofs.Common.{◌≡◌, ℕ, Some, None, Ok, Err, Option, Result, refl, arith}
use Rattle.std.proofs.lemmas.Option.{none-some}
use Rattle.model.specs.Rules.{onward}

pub one_some : {A : Type 0} (o : Option A) (x y : A) → o ≡ Some x → o ≡ Some y → x ≡ y
one_some o x y e f = cc

pub not_ok : {A B : Type 0} (x : A) (y : B) → ◌≡◌ {A = Result A B} (Ok x) (Err y) → ⊥
not_ok x y e = let z : ◌≡◌ {A = ℕ} 0 1 = cc in omega arith

-- a value is there or not
pub onward_parts : (x : Option ℕ) (f : ℕ → Option ℕ) (r : ℕ) → onward x f ≡ Some r → (m : ℕ) × (x ≡ Some m) × (f m ≡ Some r)
onward_parts None f r e = absurd (none-some r e)
onward_parts (Some m) f r e = (m, refl, e)
