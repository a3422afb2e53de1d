-- Arcs relaxed one after the other, over rows.
use Rattle.std.proofs.Common.{◌≡◌, ℕ, zero, suc, ◌+◌, ◌*◌, ◌<◌, ◌≤◌, length, Some, None, Option, sym, refl, ap, ◌∙◌, subst, inl, inr, add-one, arith}
use Rattle.std.specs.List.{slice_get}
use Rattle.std.proofs.lemmas.Bool.{cases_lt}
use Rattle.model.specs.Trips.{World}
use Rattle.model.specs.declared.network.Arc.{Arc}
use Rattle.model.specs.declared.network.Place.{Place}
use Rattle.labels.specs.declared.label.Label.{Label}
use Rattle.labels.specs.declared.label.Offer.{Offer}
use Rattle.labels.specs.Table.{Table, offer, accept, relax_below}
use Rattle.labels.proofs.Tables.{offer_rides}
use Rattle.labels.specs.Rows.{Rows, row_of, view, accepted, Room, Among}
use Rattle.labels.proofs.View.{view_accepted}

pub relax_one_more : (w : World) (p : Place) (l : Label) (i : ℕ) (T : Table) → relax_below w p l (i + 1) T ≡ accept (relax_below w p l i T) (offer w p l i)
relax_one_more w p l i T = ap (λ (n : ℕ). relax_below w p l n T) (add-one i)

-- an arc that does not leave p offers nothing
pub offers_none : (w : World) (p : Place) (l : Label) (i : ℕ) → ((x : Arc) → slice_get w.arcs i ≡ Some x → x.tail ≡ p.stop → ⊥) → offer w p l i ≡ None
offers_none w p l i h = go (offer w p l i) refl
  where
    go : (x : Option Offer) → offer w p l i ≡ x → x ≡ None
    go None e = refl
    go (Some f) e = let r = (offer_rides w p l i f e).rides in absurd (h r.along r.numbered r.leaves)

-- where the arcs from n up to m offer nothing
pub relax_idle : (w : World) (p : Place) (l : Label) (T : Table) (n m : ℕ) → n ≤ m → ((i : ℕ) → n ≤ i → i < m → offer w p l i ≡ None)
    → relax_below w p l m T ≡ relax_below w p l n T
relax_idle w p l T n zero h f = let e : zero ≡ n = omega arith in ap (λ (k : ℕ). relax_below w p l k T) e
relax_idle w p l T n (suc m) h f =
    elim (cases_lt m n) [
      | inl g ↦ let e : suc m ≡ n = omega arith in ap (λ (k : ℕ). relax_below w p l k T) e
      | inr g ↦
          let x : offer w p l m ≡ None = f m g (omega arith) in
          let y : relax_below w p l m T ≡ relax_below w p l n T = relax_idle w p l T n m g (λ i a b. f i a (omega arith)) in
          ap (λ (o : Option Offer). accept (relax_below w p l m T) o) x ∙ y
    ]

module _ (w : World) (p : Place) (l : Label) (low high : ℕ) (among : Among w.arcs p.stop low high) where
  pub relax_before : (T : Table) → T ≡ relax_below w p l low T
  relax_before T =
      sym (relax_idle w p l T 0 low (omega arith)
      (λ i a b. offers_none w p l i (λ x n e. let y : (low ≤ i) × (i < high) = among i x n e in omega arith)))

  pub relax_behind : (T : Table) → high ≤ length w.arcs → relax_below w p l high T ≡ relax_below w p l (length w.arcs) T
  relax_behind T h =
      sym (relax_idle w p l T high (length w.arcs) h
      (λ i a b. offers_none w p l i (λ x n e. let y : (low ≤ i) × (i < high) = among i x n e in omega arith)))

-- where an offer goes, there is a row
pub offer_room : (w : World) (p : Place) (l : Label) (i n : ℕ) (f : Offer) → ((s x r : ℕ) → w.next s x ≡ Some r → r < w.states)
    → Room w.arcs w.states n → offer w p l i ≡ Some f → (f.at.state < w.states) × (row_of w.states f.at < n)
offer_room w p l i n f hold room e =
    let r = (offer_rides w p l i f e).rides in
    let s : f.at.state < w.states = hold p.state r.along.label f.at.state r.spells in
    (s, subst (λ (v : ℕ). v * w.states + f.at.state < n) r.reaches (room i r.along f.at.state r.numbered s))

-- one turn of the loop
pub relaxed_none : (w : World) (p : Place) (l : Label) (i : ℕ) (T U : Table) → U ≡ relax_below w p l i T → None ≡ offer w p l i → U ≡ relax_below w p l (i + 1) T
relaxed_none w p l i T U e o = e ∙ ap (λ (x : Option Offer). accept (relax_below w p l i T) x) o ∙ sym (relax_one_more w p l i T)

pub relaxed_some : (w : World) (p : Place) (l : Label) (i : ℕ) (T : Table) (rows : Rows) (f : Offer)
    → ((s x r : ℕ) → w.next s x ≡ Some r → r < w.states) → Room w.arcs w.states (length rows)
    → view w.states rows ≡ relax_below w p l i T → Some f ≡ offer w p l i → view w.states (accepted w.states f rows) ≡ relax_below w p l (i + 1) T
relaxed_some w p l i T rows f hold room e o =
    let y = offer_room w p l i (length rows) f hold room (sym o) in
    view_accepted w.states rows f y.0 y.1
    ∙ ap (λ (V : Table). accept V (Some f)) e
    ∙ ap (λ (x : Option Offer). accept (relax_below w p l i T) x) o
    ∙ sym (relax_one_more w p l i T)
