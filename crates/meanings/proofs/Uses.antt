-- The laws of a book, as its users want them: by what an answer is.
use Rattle.std.proofs.Common.{◌≡◌, ℕ, ◌<◌, ◌≤◌, Some, None, Option, sym, refl, ◌∙◌, subst, ⊎_elim}
use Rattle.std.proofs.lemmas.Bool.{cases_lt}
use Rattle.std.proofs.lemmas.Option.{none-some}
use Rattle.model.specs.Books.{LawfulBook, Within, NoLater}
use Rattle.model.specs.Clock.{horizon}

module _ {n : ℕ} {f : ℕ → ℕ → Option ℕ} (book : LawfulBook n f) where
  -- an arrival is no earlier than the coming, and no later than the horizon
  pub arrives : {s t a : ℕ} → f s t ≡ Some a → (t ≤ a) × (a ≤ horizon)
  arrives {s} {t} e = subst (Within t horizon) e ((book.fair s).forward t)

  -- whoever arrives took a service of the book
  pub served : {s t a : ℕ} → f s t ≡ Some a → s < n
  served {s} {t} e = ⊎_elim (λ h. h) (λ h. absurd (none-some _ (sym (book.beyond s t h) ∙ e))) (cases_lt s n)

  -- coming earlier, one arrives no later
  pub overtaken : {s t u b : ℕ} → t ≤ u → f s u ≡ Some b → (a : ℕ) × (f s t ≡ Some a) × (a ≤ b)
  overtaken {s} {t} {u} {b} h e = go (f s t) refl (subst (NoLater (f s t)) e ((book.fair s).fifo t u h))
    where
      go : (o : Option ℕ) → f s t ≡ o → NoLater (f s t) (Some b) → (a : ℕ) × (f s t ≡ Some a) × (a ≤ b)
      go None p q = absurd (subst (λ x. NoLater x (Some b)) p q)
      go (Some a) p q = (a, p, subst (λ x. NoLater x (Some b)) p q)

  -- where coming earlier gives nothing, neither does coming later
  pub none_later : {s t u : ℕ} → t ≤ u → f s t ≡ None → f s u ≡ None
  none_later {s} {t} {u} h e = go (f s u) refl
    where
      go : (o : Option ℕ) → f s u ≡ o → f s u ≡ None
      go None p = p
      go (Some b) p = let q = overtaken h p in absurd (none-some _ (sym e ∙ q.1))
