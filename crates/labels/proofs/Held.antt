-- What a search's table always holds, and that a turn keeps it.
use Rattle.std.proofs.Common.{◌≡◌, ℕ, zero, suc, ◌<◌, ◌≤◌, true, false, ◌⊎◌, length, Some, None, sym, refl, ap, ◌∙◌, subst, inl, inr, arith}
use Rattle.std.proofs.lemmas.Option.{none-some}
use Rattle.std.proofs.lemmas.Bool.{both_ways, cases_eq}
use Rattle.model.specs.declared.network.Place.{Place}
use Rattle.model.specs.Trips.{World, LawfulWorld, Rides, Upto2, Upto4}
use Rattle.labels.specs.Table.{Label, Table, put, offered, offer, relax, relax_below, settle, turn, Least, begun, Search, begin, next}
use Rattle.model.proofs.Options.{one_some}
use Rattle.labels.proofs.Tables.{nth_below, cases_place, put_here, put_apart, put_cases, Upto, upto_on, offer_rides, rides_offer, Accepted, accept_is}

-- the label of q comes from a settled place, by one leg with no waiting
pub record Made (w : World) (T : Table) (q : Place) (l : Label) : Type 0 where
  pub from : Place
  pub label : Label
  pub known : T from ≡ Some label
  pub settled : label.settled ≡ true
  pub state : l.state ≡ from.state
  pub legs : l.legs ≡ suc label.legs
  pub rides : Rides w from (record { arc = l.arc; entered = label.second; arrived = l.second }) q

-- Done p i: the arc i has been relaxed out of p, if p is settled
pub record Held (w : World) (o : Place) (t : ℕ) (Done : Place → ℕ → Type 0) (T : Table) : Type 0 where
  pub origin : (l : Label) × (T o ≡ Some l) × (l.second ≡ t) × (l.legs ≡ 0)
  pub late : (q : Place) (l : Label) → T q ≡ Some l → t ≤ l.second
  pub made : (q : Place) (l : Label) → T q ≡ Some l → ((q ≡ o) × (l.second ≡ t) × (l.legs ≡ 0)) ⊎ Made w T q l
  pub closed : (p q : Place) (k : Label) (i a : ℕ) → T p ≡ Some k → k.settled ≡ true → Done p i
      → Rides w p (record { arc = i; entered = k.second; arrived = a }) q
      → (l : Label) × (T q ≡ Some l) × Upto4 l.second l.legs l.arc l.state a (suc k.legs) i p.state
  pub ordered : (p q : Place) (k l : Label) → T p ≡ Some k → k.settled ≡ true → T q ≡ Some l → l.settled ≡ false
      → Upto2 k.second k.legs l.second l.legs

-- between two turns
abbrev pub Rests : World → Place → ℕ → Table → Type 0
Rests w o t T = Held w o t (λ _ _. Unit {0}) T

-- in the turn of p, with the arcs below n relaxed
pub record Midway (w : World) (o : Place) (t : ℕ) (p : Place) (k : Label) (n : ℕ) (T : Table) : Type 0 where
  pub held : Held w o t (λ r i. r ≡ p → i < n) T
  pub here : T p ≡ Some k
  pub settled : k.settled ≡ true
  pub top : (r : Place) (l : Label) → T r ≡ Some l → l.settled ≡ true → Upto2 l.second l.legs k.second k.legs

-- relaxing the arc n
module _ (w : World) (law : LawfulWorld w) (o : Place) (t : ℕ) (p : Place) (k : Label) (n : ℕ) (T U : Table)
    (x : Accepted T (offer w p k n) U) (mid : Midway w o t p k n T) where
  -- a label that is offered comes after the settled ones
  record New (q : Place) (m : Label) : Type 0 where
    after : k.second ≤ m.second
    legs : m.legs ≡ suc k.legs
    arc : m.arc ≡ n
    state : m.state ≡ p.state
    open_still : m.settled ≡ false
    rides : Rides w p (record { arc = n; entered = k.second; arrived = m.second }) q

  new : (q : Place) (m : Label) → offer w p k n ≡ Some (record { at = q; label = m }) → New q m
  new q m e =
      let f = offer_rides w p k n (record { at = q; label = m }) e in
      record {
        after = law.not_before f.rides.along.service k.second m.second f.rides.served;
        legs = f.legs;
        arc = f.arc;
        state = f.state;
        open_still = f.settled;
        rides = f.rides;
      }

  not_settled : (r : Place) (l m : Label) → T r ≡ Some l → l.settled ≡ true → New r m → Upto m l → ⊥
  not_settled r l m e s g u =
      let h : Upto2 l.second l.legs k.second k.legs = mid.top r l e s in
      let a : k.second ≤ m.second = g.after in
      let b : m.legs ≡ suc k.legs = g.legs in
      omega arith

  pub stays : (r : Place) (l : Label) → T r ≡ Some l → l.settled ≡ true → U r ≡ Some l
  stays r l e s =
      let y = x.kept r l e in
      elim (x.from r y.0 y.1) [
        | inl h ↦ subst (λ (z : Label). U r ≡ Some z) (one_some (T r) y.0 l h e) y.1
        | inr h ↦ absurd (not_settled r l y.0 e s (new r y.0 h.0) y.2)
      ]

  was : (r : Place) (l : Label) → U r ≡ Some l → l.settled ≡ true → T r ≡ Some l
  was r l e s =
      elim (x.from r l e) [
        | inl h ↦ h
        | inr h ↦ absurd (both_ways l.settled (new r l h.0).open_still s)
      ]

  k_is : (l : Label) → T p ≡ Some l → k ≡ l
  k_is l e = one_some (T p) k l mid.here e

  late_still : (q : Place) (l : Label) → U q ≡ Some l → t ≤ l.second
  late_still q l e =
      elim (x.from q l e) [
        | inl h ↦ mid.held.late q l h
        | inr h ↦
            let a : k.second ≤ l.second = (new q l h.0).after in
            let b : t ≤ k.second = mid.held.late p k mid.here in
            omega arith
      ]

  origin_still : (l : Label) × (U o ≡ Some l) × (l.second ≡ t) × (l.legs ≡ 0)
  origin_still =
      let z = mid.held.origin in
      let y = x.kept o z.0 z.1 in
      elim (x.from o y.0 y.1) [
        | inl h ↦ (z.0, subst (λ (m : Label). U o ≡ Some m) (one_some (T o) y.0 z.0 h z.1) y.1, z.2, z.3)
        | inr h ↦
            let g = new o y.0 h.0 in
            let a : k.second ≤ y.0.second = g.after in
            let b : y.0.legs ≡ suc k.legs = g.legs in
            let c : t ≤ k.second = mid.held.late p k mid.here in
            let d : z.0.second ≡ t = z.2 in
            let e : z.0.legs ≡ 0 = z.3 in
            let u : Upto y.0 z.0 = y.2 in
            absurd (omega arith)
      ]

  made_still : (q : Place) (l : Label) → U q ≡ Some l → ((q ≡ o) × (l.second ≡ t) × (l.legs ≡ 0)) ⊎ Made w U q l
  made_still q l e =
      elim (x.from q l e) [
        | inl h ↦ elim (mid.held.made q l h) [
          | inl g ↦ inl g
          | inr g ↦ inr (record {
            from = g.from;
            label = g.label;
            known = stays g.from g.label g.known g.settled;
            settled = g.settled;
            state = g.state;
            legs = g.legs;
            rides = g.rides;
          })
        ]
        | inr h ↦
            let g = new q l h.0 in
            inr (record {
              from = p;
              label = k;
              known = stays p k mid.here mid.settled;
              settled = mid.settled;
              state = g.state;
              legs = g.legs;
              rides = subst (λ (i : ℕ). Rides w p (record { arc = i; entered = k.second; arrived = l.second }) q) (sym g.arc) g.rides;
            })
      ]

  Closes : Place → Place → Label → ℕ → ℕ → Type 0
  Closes r q m i a = (l : Label) × (U q ≡ Some l) × Upto4 l.second l.legs l.arc l.state a (suc m.legs) i r.state

  closed_before : (r q : Place) (m : Label) (i a : ℕ) → T r ≡ Some m → m.settled ≡ true → (r ≡ p → i < n)
      → Rides w r (record { arc = i; entered = m.second; arrived = a }) q → Closes r q m i a
  unfolding Closes
  closed_before r q m i a e s d g =
      let y = mid.held.closed r q m i a e s d g in
      let z = x.kept q y.0 y.1 in
      (z.0, z.1, upto_on z.0 y.0 (record { second = a; legs = suc m.legs; arc = i; state = r.state; settled = false }) z.2 y.2)

  closed_now : (q : Place) (a : ℕ) → Rides w p (record { arc = n; entered = k.second; arrived = a }) q → Closes p q k n a
  unfolding Closes
  closed_now q a g = let y = x.taken q (offered p k n a) (rides_offer w p q k n a g) in let u : Upto y.0 (offered p k n a) = y.2 in (y.0, y.1, omega arith)

  closed_at : (r q : Place) (m : Label) (i a : ℕ) → p ≡ r → k ≡ m → n ≡ i
      → Rides w r (record { arc = i; entered = m.second; arrived = a }) q → Closes r q m i a
  closed_at r q m i a rp mk «in» =
      let F : Place → Label → ℕ → Type 0
      = λ (r : Place) (m : Label) (i : ℕ). Rides w r (record { arc = i; entered = m.second; arrived = a }) q → Closes r q m i a in
      subst (λ (z : Place). F z m i) rp (subst (λ (z : Label). F p z i) mk (subst (λ (z : ℕ). F p k z) «in» (closed_now q a)))

  closed_still : (r q : Place) (m : Label) (i a : ℕ) → U r ≡ Some m → m.settled ≡ true → (r ≡ p → i < suc n)
      → Rides w r (record { arc = i; entered = m.second; arrived = a }) q → Closes r q m i a
  closed_still r q m i a e s d g =
      elim (cases_place r p) [
        | inl h ↦ elim (cases_eq i n) [
          | inl j ↦ closed_at r q m i a (sym h) (k_is m (subst (λ (z : Place). T z ≡ Some m) h (was r m e s))) (sym j) g
          | inr j ↦ closed_before r q m i a (was r m e s) s (λ _. let b : i < suc n = d h in omega arith) g
        ]
        | inr h ↦ closed_before r q m i a (was r m e s) s (λ f. absurd (h f)) g
      ]

  ordered_still : (r q : Place) (m l : Label) → U r ≡ Some m → m.settled ≡ true → U q ≡ Some l → l.settled ≡ false
      → Upto2 m.second m.legs l.second l.legs
  ordered_still r q m l e s f u =
      let b : T r ≡ Some m = was r m e s in
      elim (x.from q l f) [
        | inl h ↦ mid.held.ordered r q m l b s h u
        | inr h ↦
            let g = new q l h.0 in
            let c : Upto2 m.second m.legs k.second k.legs = mid.top r m b s in
            let a : k.second ≤ l.second = g.after in
            let d : l.legs ≡ suc k.legs = g.legs in
            omega arith
      ]

  pub relaxed : Midway w o t p k (suc n) U
  unfolding Closes
  relaxed = record {
    held = record { origin = origin_still; late = late_still; made = made_still; closed = closed_still; ordered = ordered_still };
    here = stays p k mid.here mid.settled;
    settled = mid.settled;
    top = λ r l e s. mid.top r l (was r l e s) s;
  }

-- settling p
module _ (w : World) (o : Place) (t : ℕ) (p : Place) (k : Label) (T : Table) (rest : Rests w o t T) (least : Least T p k) where
  V : Table
  V = put T p (settle k)

  -- a settled place is not p
  other : (r : Place) (l : Label) → T r ≡ Some l → l.settled ≡ true → r ≡ p → ⊥
  other r l e s h =
      let j : k ≡ l = one_some (T p) k l least.here (subst (λ (z : Place). T z ≡ Some l) h e) in
      both_ways l.settled (subst (λ (z : Label). z.settled ≡ false) j least.unsettled) s

  settled_stays : (r : Place) (l : Label) → T r ≡ Some l → l.settled ≡ true → V r ≡ Some l
  unfolding V
  settled_stays r l e s = put_apart T p (settle k) r (other r l e s) ∙ e

  pub still : (r : Place) (l : Label) → T r ≡ Some l → l.settled ≡ true → put T p (settle k) r ≡ Some l
  unfolding V
  still r l e s = settled_stays r l e s

  -- each label stays, but that p's is settled now
  Came : Place → Label → Type 0
  Came q l = ((q ≡ p) × (l ≡ settle k)) ⊎ ((q ≡ p → ⊥) × (T q ≡ Some l))

  came : (q : Place) (l : Label) → V q ≡ Some l → Came q l
  unfolding V Came
  came q l e = put_cases T p (settle k) q l e

  -- what holds of a label in T and does not speak of `settled` holds of the place's label in V
  carried : (P : Place → Label → Type 0) → (P p k → P p (settle k)) → (q : Place) (l : Label) → T q ≡ Some l → P q l
      → (m : Label) × (V q ≡ Some m) × P q m
  unfolding V
  carried P f q l e h =
      elim (cases_place q p) [
        | inl g ↦
            let j : l ≡ k = one_some (T p) l k (subst (λ (z : Place). T z ≡ Some l) g e) least.here in (
              settle k,
              subst (λ (z : Place). put T p (settle k) z ≡ Some (settle k)) (sym g) (put_here T p (settle k)),
              subst (λ (z : Place). P z (settle k)) (sym g) (f (subst (λ (z : Place). P z k) g (subst (λ (z : Label). P q z) j h))),
            )
        | inr g ↦ (l, put_apart T p (settle k) q g ∙ e, h)
      ]

  -- and back
  taken_back : (P : Place → Label → Type 0) → ((q : Place) (l : Label) → T q ≡ Some l → P q l) → (P p k → P p (settle k))
      → (q : Place) (l : Label) → V q ≡ Some l → P q l
  unfolding Came
  taken_back P h f q l e =
      elim (came q l e) [
        | inl g ↦ subst (λ (z : Label). P q z) (sym g.1) (subst (λ (z : Place). P z (settle k)) (sym g.0) (f (h p k least.here)))
        | inr g ↦ h q l g.1
      ]

  made_again : (q : Place) (l : Label) → Made w T q l → Made w V q l
  made_again q l g =
      record {
        from = g.from;
        label = g.label;
        known = settled_stays g.from g.label g.known g.settled;
        settled = g.settled;
        state = g.state;
        legs = g.legs;
        rides = g.rides;
      }

  made_v : (q : Place) (l : Label) → T q ≡ Some l → ((q ≡ o) × (l.second ≡ t) × (l.legs ≡ 0)) ⊎ Made w V q l
  made_v q l e = elim (rest.made q l e) [ inl g ↦ inl g | inr g ↦ inr (made_again q l g) ]

  made_settled : ((p ≡ o) × (k.second ≡ t) × (k.legs ≡ 0)) ⊎ Made w V p k → ((p ≡ o) × (k.second ≡ t) × (k.legs ≡ 0)) ⊎ Made w V p (settle k)
  made_settled (inl g) = inl g
  made_settled (inr g) = inr (record { from = g.from; label = g.label; known = g.known; settled = g.settled; state = g.state; legs = g.legs; rides = g.rides })

  closed_v : (r q : Place) (m : Label) (i a : ℕ) → V r ≡ Some m → m.settled ≡ true → (r ≡ p → i < 0)
      → Rides w r (record { arc = i; entered = m.second; arrived = a }) q
      → (l : Label) × (V q ≡ Some l) × Upto4 l.second l.legs l.arc l.state a (suc m.legs) i r.state
  unfolding Came
  closed_v r q m i a e s d g =
      elim (came r m e) [
        | inl h ↦ let b : i < 0 = d h.0 in absurd (omega arith)
        | inr h ↦
            let y = rest.closed r q m i a h.1 s tt g in
            carried (λ (_ : Place) (l : Label). Upto4 l.second l.legs l.arc l.state a (suc m.legs) i r.state) (λ u. u) q y.0 y.1 y.2
      ]

  top_v : (r : Place) (l : Label) → V r ≡ Some l → l.settled ≡ true → Upto2 l.second l.legs k.second k.legs
  unfolding Came
  top_v r l e s =
      elim (came r l e) [
        | inl h ↦ let j : l ≡ settle k = h.1 in let a : l.second ≡ k.second = ap Label.second j in let b : l.legs ≡ k.legs = ap Label.legs j in omega arith
        | inr h ↦ rest.ordered r p l k h.1 s least.here least.unsettled
      ]

  ordered_v : (r q : Place) (m l : Label) → V r ≡ Some m → m.settled ≡ true → V q ≡ Some l → l.settled ≡ false
      → Upto2 m.second m.legs l.second l.legs
  unfolding Came
  ordered_v r q m l e s f u =
      elim (came q l f) [
        | inl h ↦ absurd (both_ways l.settled u (ap Label.settled h.1))
        | inr h ↦
            let a : Upto2 m.second m.legs k.second k.legs = top_v r m e s in
            let b : Upto2 k.second k.legs l.second l.legs = least.least q l h.1 u in
            omega arith
      ]

  pub settled_now : Midway w o t p (settle k) 0 (put T p (settle k))
  unfolding V Came
  settled_now = record {
    held = record {
      origin =
          let y = rest.origin in
          let z = carried (λ (_ : Place) (l : Label). (l.second ≡ t) × (l.legs ≡ 0)) (λ u. u) o y.0 y.1 (y.2, y.3) in
          (z.0, z.1, z.2.0, z.2.1);
      late = taken_back (λ (_ : Place) (l : Label). t ≤ l.second) rest.late (λ u. u);
      made = taken_back (λ (q : Place) (l : Label). ((q ≡ o) × (l.second ≡ t) × (l.legs ≡ 0)) ⊎ Made w V q l) made_v made_settled;
      closed = closed_v;
      ordered = ordered_v;
    };
    here = put_here T p (settle k);
    settled = refl;
    top = top_v;
  }

-- when all arcs are relaxed
pub rests_again : (w : World) (o : Place) (t : ℕ) (p : Place) (k : Label) (T : Table) → Midway w o t p k (length w.arcs) T → Rests w o t T
rests_again w o t p k T mid =
    let h = mid.held in
    record {
      origin = h.origin;
      late = h.late;
      made = h.made;
      ordered = h.ordered;
      closed = λ r q m i a e s _ g. h.closed r q m i a e s (λ _. nth_below w.arcs i g.along g.numbered) g;
    }

pub relaxed_below : (w : World) → LawfulWorld w → (o : Place) (t : ℕ) (p : Place) (k : Label) (n : ℕ) (T : Table) → Midway w o t p k 0 T → Midway w o t p k n (relax_below w p k n T)
relaxed_below w law o t p k zero T mid = mid
relaxed_below w law o t p k (suc n) T mid =
    relaxed w law o t p k n (relax_below w p k n T) (relax w p k n (relax_below w p k n T)) (accept_is (relax_below w p k n T) (offer w p k n))
    (relaxed_below w law o t p k n T mid)

-- settled labels stay as they are, in a turn too
pub stays_below : (w : World) → (law : LawfulWorld w) → (o : Place) (t : ℕ) (p : Place) (k : Label) (n : ℕ) (T : Table) → Midway w o t p k 0 T
    → (r : Place) (l : Label) → T r ≡ Some l → l.settled ≡ true → relax_below w p k n T r ≡ Some l
stays_below w law o t p k zero T mid r l e s = e
stays_below w law o t p k (suc n) T mid r l e s =
    stays w law o t p k n (relax_below w p k n T) (relax w p k n (relax_below w p k n T)) (accept_is (relax_below w p k n T) (offer w p k n))
    (relaxed_below w law o t p k n T mid) r l (stays_below w law o t p k n T mid r l e s) s

pub turn_stays : (w : World) → LawfulWorld w → (o : Place) (t : ℕ) (p : Place) (k : Label) (T : Table) → Rests w o t T → Least T p k
    → (r : Place) (l : Label) → T r ≡ Some l → l.settled ≡ true → turn w p k T r ≡ Some l
turn_stays w law o t p k T rest least r l e s =
    stays_below w law o t p (settle k) (length w.arcs) (put T p (settle k)) (settled_now w o t p k T rest least) r l (still w o t p k T rest least r l e s) s

pub turn_here : (w : World) → LawfulWorld w → (o : Place) (t : ℕ) (p : Place) (k : Label) (T : Table) → Rests w o t T → Least T p k
    → turn w p k T p ≡ Some (settle k)
turn_here w law o t p k T rest least =
    stays_below w law o t p (settle k) (length w.arcs) (put T p (settle k)) (settled_now w o t p k T rest least) p (settle k) (put_here T p (settle k)) refl

-- what is settled after a turn was settled before it, or is the turn's own place
was_below : (w : World) (p : Place) (k : Label) (n : ℕ) (T : Table) (r : Place) (l : Label) → relax_below w p k n T r ≡ Some l → l.settled ≡ true → T r ≡ Some l
was_below w p k zero T r l e s = e
was_below w p k (suc n) T r l e s =
    elim ((accept_is (relax_below w p k n T) (offer w p k n)).from r l e) [
      | inl g ↦ was_below w p k n T r l g s
      | inr g ↦ absurd (both_ways l.settled (offer_rides w p k n (record { at = r; label = l }) g.0).settled s)
    ]

pub turn_was : (w : World) (p : Place) (k : Label) (T : Table) (r : Place) (l : Label) → turn w p k T r ≡ Some l → l.settled ≡ true → (r ≡ p) ⊎ (T r ≡ Some l)
turn_was w p k T r l e s =
    elim (put_cases T p (settle k) r l (was_below w p (settle k) (length w.arcs) (put T p (settle k)) r l e s)) [
      | inl g ↦ inl g.0
      | inr g ↦ inr g.1
    ]

-- a bound on the legs
pub legs_below : (w : World) (p : Place) (k : Label) (n b : ℕ) (T : Table) → suc k.legs ≤ b → ((q : Place) (l : Label) → T q ≡ Some l → l.legs ≤ b)
    → (q : Place) (l : Label) → relax_below w p k n T q ≡ Some l → l.legs ≤ b
legs_below w p k zero b T h f q l e = f q l e
legs_below w p k (suc n) b T h f q l e =
    elim ((accept_is (relax_below w p k n T) (offer w p k n)).from q l e) [
      | inl g ↦ legs_below w p k n b T h f q l g
      | inr g ↦ let y : l.legs ≡ suc k.legs = (offer_rides w p k n (record { at = q; label = l }) g.0).legs in omega arith
    ]

pub turn_legs : (w : World) (p : Place) (k : Label) (b : ℕ) (T : Table) → suc k.legs ≤ b → ((q : Place) (l : Label) → T q ≡ Some l → l.legs ≤ b)
    → (q : Place) (l : Label) → turn w p k T q ≡ Some l → l.legs ≤ b
turn_legs w p k b T h f q l e =
    legs_below w p (settle k) (length w.arcs) b (put T p (settle k)) h
    (λ r m g. elim (put_cases T p (settle k) r m g) [
      | inl x ↦ let y : m.legs ≡ k.legs = ap Label.legs x.1 in omega arith
      | inr x ↦ f r m x.1
    ]) q l e

pub turned : (w : World) → LawfulWorld w → (o : Place) (t : ℕ) (p : Place) (k : Label) (T : Table) → Rests w o t T → Least T p k → Rests w o t (turn w p k T)
turned w law o t p k T rest least =
    rests_again w o t p (settle k) (turn w p k T)
    (relaxed_below w law o t p (settle k) (length w.arcs) (put T p (settle k)) (settled_now w o t p k T rest least))

pub rests_first : (w : World) (o : Place) (t : ℕ) → Rests w o t (begun o t)
rests_first w o t = record {
  origin = (l, put_here empty o l, refl, refl);
  late = λ q m e. let a : m.second ≡ t = ap Label.second (is q m e).1 in omega arith;
  made = λ q m e. let g = is q m e in inl (g.0, ap Label.second g.1, ap Label.legs g.1);
  closed = λ p q m i a e s _ g. absurd (both_ways m.settled (ap Label.settled (is p m e).1) s);
  ordered = λ p q m n e s _ _. absurd (both_ways m.settled (ap Label.settled (is p m e).1) s);
}
  where
    empty : Table
    empty = λ _. None

    l : Label
    l = record { second = t; legs = 0; arc = 0; state = 0; settled = false }

    is : (q : Place) (m : Label) → begun o t q ≡ Some m → (q ≡ o) × (m ≡ l)
    is q m e = elim (put_cases empty o l q m e) [ inl h ↦ h | inr h ↦ absurd (none-some m h.1) ]

pub search_rests : (w : World) → LawfulWorld w → (o : Place) (t : ℕ) {T : Table} → Search w o t T → Rests w o t T
search_rests w law o t begin = rests_first w o t
search_rests w law o t (next {T} p k s least) = turned w law o t p k T (search_rests w law o t s) least
