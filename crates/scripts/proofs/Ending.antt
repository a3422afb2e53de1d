-- At a script's end every bulletin that is out is taken in.
use Rattle.std.proofs.Common.{◌≡◌, ℕ, ◌+◌, Bool, true, false, cond, List, [], ◌∷◌, length, get_or, take, Some, None, Option, Result, sym, refl, ap, ◌∙◌, subst, arith, eq-eqb}
use Rattle.std.specs.List.{count_by}
use Rattle.model.specs.declared.refusal.Refusal.{Refusal}
use Rattle.model.specs.declared.refusal.Refusal.TheVariants.{NoSuchBulletin}
use Rattle.notices.specs.Notices.{unless, handing}
use Rattle.ledger.specs.Ledgers.{Ledger, good, doing, TearUp as TearUpCall}
use Rattle.planner.specs.declared.planner.Bulletin.{Bulletin}
use Rattle.planner.specs.declared.planner.Returned.{Returned}
use Rattle.planner.specs.declared.planner.Planner.{Planner}
use Rattle.planner.specs.Planners.{state, refusing, returning, Made}
use Rattle.scripts.specs.declared.step.Change.TheVariants.{TearUp}
use Rattle.scripts.specs.declared.step.Reply.TheVariants.{Shown}
use Rattle.scripts.specs.Scripts.{back, returned}
use Rattle.scripts.specs.Balances.{bit, knows, holds, Balanced, ToreUp, ToreUpAt}
use Rattle.scripts.proofs.Balancing.{slot_balance}

back_is : (b : Bulletin) (r : Option Refusal) → back (returning b r) ≡ returned (handing tt r) (Some b)
back_is b None = refl
back_is b (Some e) = refl

-- what a refused tearing up leaves
kept_back : (k : ℕ) (g x : Ledger) (b b' : Bulletin) (t : Bool) → good k b.mark g ≡ t → back (returning b (cond t None (Some NoSuchBulletin))) ≡ Some b'
    → (Some b ≡ Some b') × (good k b'.mark (unless (cond t None (Some NoSuchBulletin)) x g) ≡ false)
kept_back k g x b b' true e f = let z : ◌≡◌ {A = ℕ} 0 1 = cc in absurd (omega arith)
kept_back k g x b b' false e f = let same : b ≡ b' = cc in (f, subst (λ (y : Bulletin). good k y.mark g ≡ false) same e)

pub torn : {B R : Type 0} (size : B → ℕ) (p q : Planner B R) (b : Bulletin) (answer : Result (Unit {0}) Returned)
    → answer ≡ returning b (refusing size p (TearUpCall b.mark)) → Made size (TearUpCall b.mark) p q → ToreUpAt p q (Some b) (back answer)
torn size p q b answer is made =
    let g = state p in
    let r = refusing size p (TearUpCall b.mark) in
    record {
      balance =
          slot_balance size TearUp (Some b) (back answer) (Shown b.mark (handing tt r)) p q
          (record { replied = refl; slot = ap back is ∙ back_is b r; kept = record { book = made.book; rule = made.rule; mark = made.mark }; then = made.then });
      left = λ b' f.
          let kept = kept_back p.mark g (doing g (TearUpCall b.mark)) b b' (good p.mark b.mark g) refl (sym (ap back is) ∙ f) in
          (kept.0, (λ i. good (made.mark i) b'.mark (made.then i)) ∙ kept.1);
    }

-- the first n planners have been asked
pub record Tearing {B R : Type 0} (ps ps' : List (Planner B R)) (o o' : Option Bulletin) (n : ℕ) : Type 0 where
  pub balance : (m : ℕ) → count_by (knows m) ps' + bit (holds m o) ≡ count_by (knows m) ps + bit (holds m o')
  pub left : (b : Bulletin) → o' ≡ Some b → count_by (knows b.mark) (take n ps') ≡ 0

same_mark : (b : Bulletin) → bit (holds b.mark (Some b)) ≡ 1
same_mark b = ap bit (eq-eqb b.mark b.mark refl)

-- a bulletin that is left would be one too many
none_of : (o : Option Bulletin) → ((b : Bulletin) → o ≡ Some b → ⊥) → o ≡ None
none_of None never = refl
none_of (Some b) never = absurd (never b refl)

none_is_left : {B R : Type 0} (ps ps' ps'' : List (Planner B R)) (o p o' p' : Option Bulletin)
    → Balanced ps (o ∷ p ∷ []) → ToreUp ps ps' o o' → ToreUp ps' ps'' p p' → (o' ≡ None) × (p' ≡ None)
none_is_left ps ps' ps'' o p o' p' even one two =
    let first : o' ≡ None = none_of o' (λ b f.
    let m = b.mark in
    let is : bit (holds m o') ≡ 1 = ap (λ (x : Option Bulletin). bit (holds m x)) f ∙ same_mark b in
    omega (arith, even m, one.balance m, one.left b f, is)) in (
      first,
      none_of p' (λ b f.
          let m = b.mark in
          let none : bit (holds m o') ≡ 0 = ap (λ (x : Option Bulletin). bit (holds m x)) first in
          let is : bit (holds m p') ≡ 1 = ap (λ (x : Option Bulletin). bit (holds m x)) f ∙ same_mark b in
          omega (arith, even m, one.balance m, none, two.balance m, two.left b f, is)),
    )

two_slots : (os : List (Option Bulletin)) → length os ≡ 2 → os ≡ get_or os 0 None ∷ get_or os 1 None ∷ []
two_slots [] e = absurd (omega arith)
two_slots (o ∷ []) e = absurd (omega arith)
two_slots (o ∷ p ∷ []) e = refl
two_slots (o ∷ p ∷ x ∷ xs) e = absurd (omega arith)

-- nor is one left of two slots
pub none_is_left_of_two : {B R : Type 0} (ps ps' ps'' : List (Planner B R)) (os : List (Option Bulletin)) (o' p' : Option Bulletin)
    → length os ≡ 2 → Balanced ps os → ToreUp ps ps' (get_or os 0 None) o' → ToreUp ps' ps'' (get_or os 1 None) p' → (o' ≡ None) × (p' ≡ None)
none_is_left_of_two ps ps' ps'' os o' p' two even = none_is_left ps ps' ps'' (get_or os 0 None) (get_or os 1 None) o' p' (subst (Balanced ps) (two_slots os two) even)
