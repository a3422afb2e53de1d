-- The search over a table of labels: what a turn does, and what a finished search knows.
use Rattle.std.specs.Prelude.{◌≡◌, ℕ, zero, suc, ◌+◌, ◌≤◌, Bool, true, false, cond, ◌&&◌, List, [], ◌∷◌, ◌++◌, length, Some, None, Option, ◌==◌, nat_lt}
use Rattle.std.specs.List.{slice_get}
use Rattle.std.specs.Map.{update}
pub use Rattle.labels.specs.declared.label.Label.{Label}
pub use Rattle.labels.specs.declared.label.Offer.{Offer}
use Rattle.model.specs.declared.network.Arc.{Arc}
use Rattle.model.specs.declared.network.Place.{Place}
use Rattle.model.specs.declared.network.Leg.{Leg}
use Rattle.model.specs.Trips.{World, Ends, Upto2}

abbrev pub Table : Type 0
Table = Place → Option Label

abbrev pub same_place : Place → Place → Bool
same_place p q = p.stop == q.stop && p.state == q.state

abbrev pub put : Table → Place → Label → Table
put T p l = update same_place T p (Some l)

-- strictly before, by the second, then the legs, the arc and the state
abbrev pub better : Label → Label → Bool
better c l =
    cond (nat_lt c.second l.second) true
    (cond (nat_lt l.second c.second) false
    (cond (nat_lt c.legs l.legs) true
    (cond (nat_lt l.legs c.legs) false
    (cond (nat_lt c.arc l.arc) true
    (cond (nat_lt l.arc c.arc) false
    (nat_lt c.state l.state))))))

abbrev pub keep : Option Label → Label → Label
keep None c = c
keep (Some l) c = cond (better c l) c l

-- the label that one at p, with the label l, offers by riding the arc i and arriving at a
abbrev pub offered : Place → Label → ℕ → ℕ → Label
offered p l i a = record { second = a; legs = l.legs + 1; arc = i; state = p.state; settled = false }

abbrev pub offer_arrived : Place → Label → ℕ → Place → Option ℕ → Option Offer
offer_arrived p l i q None = None
offer_arrived p l i q (Some a) = Some (record { at = q; label = offered p l i a })

abbrev pub offer_spelled : World → Place → Label → ℕ → Arc → Option ℕ → Option Offer
offer_spelled w p l i x None = None
offer_spelled w p l i x (Some s) =
    offer_arrived p l i (record { stop = x.head; state = s }) (w.answer x.service l.second)

abbrev pub offer_arc : World → Place → Label → ℕ → Option Arc → Option Offer
offer_arc w p l i None = None
offer_arc w p l i (Some x) = cond (x.tail == p.stop) (offer_spelled w p l i x (w.next p.state x.label)) None

-- what the arc i offers from p, if it can be ridden from there
abbrev pub offer : World → Place → Label → ℕ → Option Offer
offer w p l i = offer_arc w p l i (slice_get w.arcs i)

abbrev pub accept : Table → Option Offer → Table
accept T None = T
accept T (Some f) = put T f.at (keep (T f.at) f.label)

-- one arc relaxed, out of the place p with the label l
abbrev pub relax : World → Place → Label → ℕ → Table → Table
relax w p l i T = accept T (offer w p l i)

-- the arcs below n relaxed, in their order
abbrev pub relax_below : World → Place → Label → ℕ → Table → Table
relax_below w p l zero T = T
relax_below w p l (suc n) T = relax w p l n (relax_below w p l n T)

abbrev pub settle : Label → Label
settle l = record { second = l.second; legs = l.legs; arc = l.arc; state = l.state; settled = true }

-- the place p, with the label l, is settled and its arcs are relaxed
abbrev pub turn : World → Place → Label → Table → Table
turn w p l T = relax_below w p (settle l) (length w.arcs) (put T p (settle l))

-- no unsettled label has a smaller second, or as small a second and fewer legs
pub record Least (T : Table) (p : Place) (l : Label) : Type 0 where
  pub here : T p ≡ Some l
  pub unsettled : l.settled ≡ false
  pub least : (q : Place) (m : Label) → T q ≡ Some m → m.settled ≡ false → Upto2 l.second l.legs m.second m.legs

abbrev pub begun : Place → ℕ → Table
begun o t = put (λ _. None) o (record { second = t; legs = 0; arc = 0; state = 0; settled = false })

-- the tables that a search from o at t comes to
pub data Search (w : World) (o : Place) (t : ℕ) : Table → Type 0 where
  begin : Search w o t (begun o t)
  next : {T : Table} (p : Place) (l : Label) → Search w o t T → Least T p l → Search w o t (turn w p l T)

abbrev pub Finished : Table → Type 0
Finished T = (p : Place) (l : Label) → T p ≡ Some l → l.settled ≡ true

-- no unsettled label is before this one, by the second, then the legs
abbrev pub Final : Table → Label → Type 0
Final T l = (x : Place) (m : Label) → T x ≡ Some m → m.settled ≡ false → Upto2 l.second l.legs m.second m.legs

-- no place of the target in an end state is settled
abbrev pub Unmet : World → ℕ → Table → Type 0
Unmet w target T = (q : Place) (l : Label) → T q ≡ Some l → l.settled ≡ true → Ends w target q → ⊥

-- of the unsettled labels at the stop of p with the second and the legs of its label, p's has the lowest state
abbrev pub Tied : Table → Place → Label → Type 0
Tied T p l = (q : Place) (m : Label) → T q ≡ Some m → m.settled ≡ false → p.stop ≡ q.stop → l.second ≡ m.second → l.legs ≡ m.legs → p.state ≤ q.state

-- the legs that the labels lead back along from q
pub data Traced (arcs : List Arc) (T : Table) : List Leg → Place → Type 0 where
  source : {q : Place} {l : Label} → T q ≡ Some l → l.legs ≡ 0 → Traced arcs T [] q
  after : {p q : Place} {l m : Label} {x : Arc} {ls js : List Leg}
      → T q ≡ Some l → l.legs ≡ suc m.legs
      → slice_get arcs l.arc ≡ Some x → p ≡ record { stop = x.tail; state = l.state }
      → T p ≡ Some m → Traced arcs T ls p
      → js ≡ ls ++ (record { arc = l.arc; entered = m.second; arrived = l.second } ∷ [])
      → Traced arcs T js q
