-- What a chain that ends in `reduce` gives, where its closure computes a function of two numbers.
use Rattle.std.proofs.Common.{◌≡◌, ℕ, List, [], ◌∷◌, None, Some, Option, ap, subst}
use Rattle.std.specs.Fn.{Called}
use Rattle.std.specs.List.{FoldsTo, reduce}
use Rattle.std.specs.Iterator.{ReducesItems}
use Rattle.std.proofs.lemmas.Iterator.{YieldsList}
use Rattle.std.proofs.lemmas.Iterator.Consumers.{reduce_from_yields_List}
use denote.Param.Members.{Mut}

module _ {F : Type 0} (g : Mut F (ℕ × (ℕ × Unit {0})) ℕ) (h : ℕ → ℕ → ℕ) (f : F) (same : (a x b : ℕ) (q : F) → Called g f (a, (x, tt)) b q → (q ≡ f) × (b ≡ h a x)) where
  folded : (x : ℕ) (xs : List ℕ) (q : F) (y : ℕ) → FoldsTo {P = F × ℕ} (λ p z r. Called g p.0 (p.1, (z, tt)) r.1 r.0) (f, x) xs (q, y) → FoldsTo (λ p z r. r ≡ h p z) x xs y
  folded x [] q y e = ap (λ (p : F × ℕ). p.1) e
  folded x (z ∷ xs) q y e =
      let s = same x z e.0.1 e.0.0 e.1 in
      (e.0.1, s.1, folded e.0.1 xs q y (subst (λ (w : F). FoldsTo {P = F × ℕ} (λ p z r. Called g p.0 (p.1, (z, tt)) r.1 r.0) (w, e.0.1) xs (q, y)) s.0 e.2))

  pub reduced : {S : Type 0} {steps : S → Option ℕ → S → Type 0} {all : List ℕ} (s : S) (r : Option ℕ) → ReducesItems steps g s f r → YieldsList steps (λ x. x) s all → r ≡ reduce h all
  reduced s None e yields = reduce_from_yields_List h s None e yields
  reduced s (Some y) e yields = reduce_from_yields_List h s (Some y) (e.0, e.1, e.3, folded e.0 e.1 e.2 y e.4) yields
