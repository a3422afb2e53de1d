-- A row written is a place's label put.
use Rattle.std.proofs.Common.{◌≡◌, ℕ, ◌/◌, ◌%◌, ◌<◌, ◌≤◌, true, false, ltb, length, get_or, set, Some, None, Option, sym, refl, ap, ◌∙◌, subst, inl, inr}
use mathlib.Core.Path.{fun_ext}
use Rattle.std.proofs.lemmas.List.{get_or-set_same, get_or-set_other, set-get_or}
use Rattle.std.proofs.lemmas.Nat.{div-mul-add, mod-mul-add}
use Rattle.std.proofs.lemmas.Bool.{cases_lt, lt-ltb, le-ltb, cond-true, cond-false, true≢false}
use Rattle.model.specs.declared.network.Place.{Place}
use Rattle.labels.specs.declared.label.Label.{Label}
use Rattle.labels.specs.declared.label.Offer.{Offer}
use Rattle.labels.specs.Table.{better, keep, put, accept}
use Rattle.model.proofs.Unique.{place_is}
use Rattle.labels.proofs.Tables.{cases_place, put_here, put_apart}
use Rattle.labels.specs.Rows.{Rows, row_of, view, improves, accepted}

pub view_below : (k : ℕ) (rows : Rows) (p : Place) → p.state < k → view k rows p ≡ get_or rows (row_of k p) None
view_below k rows p h = cond-true (ltb p.state k) (get_or rows (row_of k p) None) None (lt-ltb p.state k h)

pub view_past : (k : ℕ) (rows : Rows) (p : Place) → k ≤ p.state → view k rows p ≡ None
view_past k rows p h = cond-false (ltb p.state k) (get_or rows (row_of k p) None) None (le-ltb p.state k h)

pub same_row : (k : ℕ) (p q : Place) → p.state < k → q.state < k → row_of k p ≡ row_of k q → p ≡ q
same_row k p q a b e =
    place_is p q
    (sym (div-mul-add p.stop k p.state a) ∙ ap (λ (n : ℕ). n / k) e ∙ div-mul-add q.stop k q.state b)
    (sym (mod-mul-add p.stop k p.state a) ∙ ap (λ (n : ℕ). n % k) e ∙ mod-mul-add q.stop k q.state b)

module _ (k : ℕ) (rows : Rows) (p : Place) (l : Label) (low : p.state < k) (within : row_of k p < length rows) where
  wrote : Rows
  wrote = set rows (row_of k p) (Some l)

  view_put_here : view k wrote p ≡ Some l
  unfolding wrote
  view_put_here = view_below k wrote p low ∙ get_or-set_same rows (row_of k p) (Some l) None within

  view_put_apart : (q : Place) → (q ≡ p → ⊥) → view k wrote q ≡ view k rows q
  unfolding wrote
  view_put_apart q h =
      elim (cases_lt q.state k) [
        | inl g ↦ view_below k wrote q g ∙ get_or-set_other rows (row_of k p) (row_of k q) (Some l) None (λ e. h (same_row k q p g low e)) ∙ sym (view_below k rows q g)
        | inr g ↦ view_past k wrote q g ∙ sym (view_past k rows q g)
      ]

  view_put_at : (q : Place) → view k wrote q ≡ put (view k rows) p l q
  unfolding wrote
  view_put_at q =
      elim (cases_place q p) [
        | inl h ↦ subst (λ (z : Place). view k wrote z ≡ put (view k rows) p l z) (sym h) (view_put_here ∙ sym (put_here (view k rows) p l))
        | inr h ↦ view_put_apart q h ∙ sym (put_apart (view k rows) p l q h)
      ]

  pub view_put : view k (set rows (row_of k p) (Some l)) ≡ put (view k rows) p l
  unfolding wrote
  view_put = fun_ext view_put_at

pub view_accepted : (k : ℕ) (rows : Rows) (f : Offer) → f.at.state < k → row_of k f.at < length rows
    → view k (accepted k f rows) ≡ accept (view k rows) (Some f)
view_accepted k rows f low within =
    view_put k rows f.at (keep (get_or rows (row_of k f.at) None) f.label) low within
    ∙ ap (λ (x : Option Label). put (view k rows) f.at (keep x f.label)) (sym (view_below k rows f.at low))

keep_yes : (x : Option Label) (c : Label) → improves x c ≡ true → keep x c ≡ c
keep_yes None c e = refl
keep_yes (Some l) c e = cond-true (better c l) c l e

keep_no : (x : Option Label) (c : Label) → improves x c ≡ false → x ≡ Some (keep x c)
keep_no None c e = absurd (true≢false e)
keep_no (Some l) c e = ap {B = Option Label} Some (sym (cond-false (better c l) c l e))

pub accepted_better : (k : ℕ) (f : Offer) (rows : Rows) → improves (get_or rows (row_of k f.at) None) f.label ≡ true
    → set rows (row_of k f.at) (Some f.label) ≡ accepted k f rows
accepted_better k f rows e =
    ap (λ (l : Label). set rows (row_of k f.at) (Some l)) (sym (keep_yes (get_or rows (row_of k f.at) None) f.label e))

pub accepted_keeps : (k : ℕ) (f : Offer) (rows : Rows) → improves (get_or rows (row_of k f.at) None) f.label ≡ false → rows ≡ accepted k f rows
accepted_keeps k f rows e =
    sym (set-get_or rows (row_of k f.at) None) ∙ ap (λ (x : Option Label). set rows (row_of k f.at) x) (keep_no (get_or rows (row_of k f.at) None) f.label e)
