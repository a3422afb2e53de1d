-- What an arc offers, case by case.
use Rattle.std.proofs.Common.{◌≡◌, ℕ, true, eqb, Some, None, sym}
use Rattle.std.specs.List.{slice_get}
use Rattle.std.proofs.lemmas.Bool.{eq-eqb}
use Rattle.model.specs.Trips.{World}
use Rattle.model.specs.declared.network.Arc.{Arc}
use Rattle.model.specs.declared.network.Place.{Place}
use Rattle.labels.specs.declared.label.Label.{Label}
use Rattle.labels.specs.Table.{offer, offered}

module _ (w : World) (p : Place) (l : Label) (i : ℕ) (x : Arc) (n : slice_get w.arcs i ≡ Some x) where
  pub offer_unspelled : x.tail ≡ p.stop → None ≡ w.next p.state x.label → None ≡ offer w p l i
  offer_unspelled h k = let e : eqb x.tail p.stop ≡ true = eq-eqb x.tail p.stop h in rw (n, e, sym k)

  pub offer_unserved : (s : ℕ) → x.tail ≡ p.stop → Some s ≡ w.next p.state x.label → None ≡ w.answer x.service l.second → None ≡ offer w p l i
  offer_unserved s h k m = let e : eqb x.tail p.stop ≡ true = eq-eqb x.tail p.stop h in rw (n, e, sym k, sym m)

  pub offer_made : (s a : ℕ) → x.tail ≡ p.stop → Some s ≡ w.next p.state x.label → Some a ≡ w.answer x.service l.second
      → Some (record { at = record { stop = x.head; state = s }; label = offered p l i a }) ≡ offer w p l i
  offer_made s a h k m = let e : eqb x.tail p.stop ≡ true = eq-eqb x.tail p.stop h in rw (n, e, sym k, sym m)
