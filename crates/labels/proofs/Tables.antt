-- One place of a table written, an offer made, and an offer accepted.
use Rattle.std.proofs.Common.{◌≡◌, ℕ, suc, ◌<◌, Bool, true, false, cond, eqb, ◌⊎◌, List, length, Some, None, Option, sym, refl, ap, ◌∙◌, subst, inl, inr, add-one, arith}
use Rattle.std.proofs.lemmas.Option.{none-some, same_Some}
use Rattle.std.specs.List.{slice_get}
use Rattle.std.proofs.lemmas.Option.{slice_get_past}
use Rattle.std.proofs.lemmas.Map.{update_same, update_other}
use Rattle.std.proofs.lemmas.Bool.{and_parts, and_from, cases_Bool, eqb-true, eq-eqb, cases_lt, both_ways}
use Rattle.std.proofs.lemmas.Bool.Decides.{nat_tests}
use Rattle.model.specs.declared.network.Arc.{Arc}
use Rattle.model.specs.declared.network.Place.{Place}
use Rattle.model.specs.Trips.{World, Rides, Upto4}
use Rattle.labels.specs.Table.{Label, Table, same_place, put, better, keep, offered, Offer, offer_arrived, offer_spelled, offer_arc, offer, accept}
use Rattle.model.proofs.Unique.{place_is}
use Rattle.model.proofs.Options.{one_some}

pub nth_below : {A : Type 0} (xs : List A) (i : ℕ) (x : A) → slice_get xs i ≡ Some x → i < length xs
nth_below xs i x e = elim (cases_lt i (length xs)) [ inl h ↦ h | inr h ↦ absurd (none-some x (sym (slice_get_past xs i h) ∙ e)) ]

pub same_place_is : (p q : Place) → same_place p q ≡ true → p ≡ q
same_place_is p q e =
    let h = and_parts (eqb p.stop q.stop) (eqb p.state q.state) e in
    place_is p q (eqb-true p.stop q.stop h.0) (eqb-true p.state q.state h.1)

pub same_place_here : (p : Place) → same_place p p ≡ true
same_place_here p =
    and_from (eqb p.stop p.stop) (eqb p.state p.state) (eq-eqb p.stop p.stop refl) (eq-eqb p.state p.state refl)

pub cases_place : (p q : Place) → (p ≡ q) ⊎ (p ≡ q → ⊥)
cases_place p q =
    elim (cases_Bool (same_place p q)) [
      | inl h ↦ inl (same_place_is p q h)
      | inr h ↦ inr (λ e. both_ways (same_place p q) h (subst (λ (x : Place). same_place p x ≡ true) e (same_place_here p)))
    ]

pub put_here : (T : Table) (p : Place) (l : Label) → put T p l p ≡ Some l
put_here T p l = update_same same_place T p (Some l) p (same_place_here p)

pub put_apart : (T : Table) (p : Place) (l : Label) (q : Place) → (q ≡ p → ⊥) → put T p l q ≡ T q
put_apart T p l q h =
    elim (cases_Bool (same_place p q)) [
      | inl e ↦ absurd (h (sym (same_place_is p q e)))
      | inr e ↦ update_other same_place T p (Some l) q e
    ]

-- what a place holds after a write: the label written, or what it held
pub put_cases : (T : Table) (p : Place) (l : Label) (q : Place) (m : Label) → put T p l q ≡ Some m
    → ((q ≡ p) × (m ≡ l)) ⊎ ((q ≡ p → ⊥) × (T q ≡ Some m))
put_cases T p l q m e =
    elim (cases_place q p) [
      | inl h ↦ inl (h, one_some (put T p l q) m l e (subst (λ (x : Place). put T p l x ≡ Some l) (sym h) (put_here T p l)))
      | inr h ↦ inr (h, sym (put_apart T p l q h) ∙ e)
    ]

-- a label is at or before another, by its second, then its legs, its arc and its state
abbrev pub Upto : Label → Label → Type 0
Upto c l = Upto4 c.second c.legs c.arc c.state l.second l.legs l.arc l.state

pub upto_itself : (l : Label) → Upto l l
upto_itself l = omega arith

pub upto_on : (a b c : Label) → Upto a b → Upto b c → Upto a c
upto_on a b c h k = omega arith

pub better_true : (c l : Label) → better c l ≡ true → Upto c l
better_true c l e = grind (arith, nat_tests)

pub better_false : (c l : Label) → better c l ≡ false → Upto l c
better_false c l e = grind (arith, nat_tests)

-- what an offer is: a ride from p at once
pub record Offered (w : World) (p : Place) (l : Label) (i : ℕ) (f : Offer) : Type 0 where
  pub rides : Rides w p (record { arc = i; entered = l.second; arrived = f.label.second }) f.at
  pub legs : f.label.legs ≡ suc l.legs
  pub arc : f.label.arc ≡ i
  pub state : f.label.state ≡ p.state
  pub settled : f.label.settled ≡ false

module _ (w : World) (p : Place) (l : Label) (i : ℕ) (f : Offer) where
  arrived_is : (x : Arc) (s : ℕ) (a : Option ℕ) → slice_get w.arcs i ≡ Some x → x.tail ≡ p.stop → w.next p.state x.label ≡ Some s
      → w.answer x.service l.second ≡ a → offer_arrived p l i (record { stop = x.head; state = s }) a ≡ Some f → Offered w p l i f
  arrived_is x s None n h k g e = absurd (none-some f e)
  arrived_is x s (Some a) n h k g e =
      subst (λ (z : Offer). Offered w p l i z) (same_Some (record { at = record { stop = x.head; state = s }; label = offered p l i a }) f e)
      (record { rides = record { along = x; numbered = n; leaves = h; reaches = refl; spells = k; served = g }; legs = add-one l.legs; arc = refl; state = refl; settled = refl })

  spelled_is : (x : Arc) (s : Option ℕ) → slice_get w.arcs i ≡ Some x → x.tail ≡ p.stop → w.next p.state x.label ≡ s
      → offer_spelled w p l i x s ≡ Some f → Offered w p l i f
  spelled_is x None n h k e = absurd (none-some f e)
  spelled_is x (Some s) n h k e = arrived_is x s (w.answer x.service l.second) n h k refl e

  tail_is : (x : Arc) (b : Bool) → slice_get w.arcs i ≡ Some x → eqb x.tail p.stop ≡ b
      → cond b (offer_spelled w p l i x (w.next p.state x.label)) None ≡ Some f → Offered w p l i f
  tail_is x true n h e = spelled_is x (w.next p.state x.label) n (eqb-true x.tail p.stop h) refl e
  tail_is x false n h e = absurd (none-some f e)

  arc_is : (x : Option Arc) → slice_get w.arcs i ≡ x → offer_arc w p l i x ≡ Some f → Offered w p l i f
  arc_is None n e = absurd (none-some f e)
  arc_is (Some x) n e = tail_is x (eqb x.tail p.stop) n refl e

pub offer_rides : (w : World) (p : Place) (l : Label) (i : ℕ) (f : Offer) → offer w p l i ≡ Some f → Offered w p l i f
offer_rides w p l i f e = arc_is w p l i f (slice_get w.arcs i) refl e

-- each ride from p at once is offered
pub rides_offer : (w : World) (p q : Place) (l : Label) (i a : ℕ) → Rides w p (record { arc = i; entered = l.second; arrived = a }) q
    → offer w p l i ≡ Some (record { at = q; label = offered p l i a })
rides_offer w p q l i a r =
    let e₁ : slice_get w.arcs i ≡ Some r.along = r.numbered in
    let e₂ : eqb r.along.tail p.stop ≡ true = eq-eqb r.along.tail p.stop r.leaves in
    let e₃ : w.next p.state r.along.label ≡ Some q.state = r.spells in
    let e₄ : w.answer r.along.service l.second ≡ Some a = r.served in
    let e₅ : r.along.head ≡ q.stop = r.reaches in
    rw (e₁, e₂, e₃, e₄, e₅)

-- what an offer does to a table
pub record Accepted (T : Table) (x : Option Offer) (U : Table) : Type 0 where
  pub from : (q : Place) (m : Label) → U q ≡ Some m
      → (T q ≡ Some m) ⊎ ((x ≡ Some (record { at = q; label = m })) × ((l : Label) → T q ≡ Some l → Upto m l))
  pub kept : (q : Place) (l : Label) → T q ≡ Some l → (m : Label) × (U q ≡ Some m) × Upto m l
  pub taken : (q : Place) (l : Label) → x ≡ Some (record { at = q; label = l }) → (m : Label) × (U q ≡ Some m) × Upto m l

keep_cases : (x : Option Label) (c : Label)
    → ((keep x c ≡ c) × ((l : Label) → x ≡ Some l → Upto c l)) ⊎ ((x ≡ Some (keep x c)) × Upto (keep x c) c)
keep_cases None c = inl (refl, λ l e. absurd (none-some l e))
keep_cases (Some l) c = go (better c l) refl
  where
    go : (b : Bool) → better c l ≡ b
        → ((cond b c l ≡ c) × ((m : Label) → Some l ≡ Some m → Upto c m)) ⊎ ((Some l ≡ Some (cond b c l)) × Upto (cond b c l) c)
    go true e = inl (refl, λ m h. subst (λ (z : Label). Upto c z) (same_Some l m h) (better_true c l e))
    go false e = inr (refl, better_false c l e)

keep_new : (x : Option Label) (c : Label) → Upto (keep x c) c
keep_new x c =
    elim (keep_cases x c) [
      | inl h ↦ subst (λ (z : Label). Upto z c) (sym h.0) (upto_itself c)
      | inr h ↦ h.1
    ]

keep_old : (x : Option Label) (c l : Label) → x ≡ Some l → Upto (keep x c) l
keep_old x c l e =
    elim (keep_cases x c) [
      | inl h ↦ subst (λ (z : Label). Upto z l) (sym h.0) (h.1 l e)
      | inr h ↦ subst (λ (z : Label). Upto (keep x c) z) (one_some x (keep x c) l h.0 e) (upto_itself (keep x c))
    ]

module _ (T : Table) (f : Offer) where
  best : Label
  best = keep (T f.at) f.label

  best_at : (q : Place) → q ≡ f.at → put T f.at best q ≡ Some best
  best_at q h = subst (λ (z : Place). put T f.at best z ≡ Some best) (sym h) (put_here T f.at best)

  best_from : (q : Place) (m : Label) → q ≡ f.at → m ≡ best
      → (T q ≡ Some m) ⊎ ((◌≡◌ {A = Option Offer} (Some f) (Some (record { at = q; label = m }))) × ((l : Label) → T q ≡ Some l → Upto m l))
  unfolding best
  best_from q m h k =
      elim (keep_cases (T f.at) f.label) [
        | inl g ↦
            let c : m ≡ f.label = k ∙ g.0 in
            inr (
              λ i. Some (record { at = sym h i; label = sym c i }),
              λ l e. subst (λ (z : Label). Upto z l) (sym c) (g.1 l (ap T (sym h) ∙ e)),
            )
        | inr g ↦ inl (ap T h ∙ g.0 ∙ ap {B = Option Label} Some (sym k))
      ]

  accept_some : Accepted T (Some f) (put T f.at best)
  unfolding best
  accept_some = record {
    from = λ q m e. elim (put_cases T f.at best q m e) [ inl h ↦ best_from q m h.0 h.1 | inr h ↦ inl h.1 ];
    kept = λ q l e. elim (cases_place q f.at) [
      | inl h ↦ (best, best_at q h, keep_old (T f.at) f.label l (ap T (sym h) ∙ e))
      | inr h ↦ (l, put_apart T f.at best q h ∙ e, upto_itself l)
    ];
    taken = λ q l e.
        let g : f ≡ record { at = q; label = l } = same_Some f (record { at = q; label = l }) e in
        (best, best_at q (λ i. (sym g i).at), subst (λ (z : Label). Upto best z) (λ i. (g i).label) (keep_new (T f.at) f.label));
  }

pub accept_is : (T : Table) (x : Option Offer) → Accepted T x (accept T x)
unfolding best
accept_is T None =
    record {
      from = λ q m e. inl e;
      kept = λ q l e. (l, e, upto_itself l);
      taken = λ q l e. absurd (none-some (record { at = q; label = l }) e);
    }
accept_is T (Some f) = accept_some T f
