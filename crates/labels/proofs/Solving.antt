-- What a table of labels tells at any time of the search: a settled label, and one that no unsettled label is before, has the first
-- second, the rank and the last leg of its place's journey; and every trip to a place that is not settled passes an unsettled label.
use Rattle.std.proofs.Common.{◌≡◌, ℕ, zero, suc, ◌+◌, ◌≤◌, true, false, ◌⊎◌, List, [], ◌∷◌, ◌++◌, length, Some, None, sym, refl, ap, ◌∙◌, subst, inl, inr, le_refl, arith, length-append}
use Rattle.std.specs.List.{slice_get}
use Rattle.std.proofs.lemmas.Bool.{both_ways, cases_Bool}
use Rattle.model.specs.declared.network.Arc.{Arc}
use Rattle.model.specs.declared.network.Place.{Place}
use Rattle.model.specs.declared.network.Leg.{Leg}
use Rattle.model.specs.Trips.{World, LawfulWorld, Rides, Trip, stay, ride, First, Eager, there, go, Rank, EagerLeg, Journey, none, on, Ends, Chosen, Answer, Upto2, Upto4}
use Rattle.model.proofs.Options.{one_some}
use Rattle.model.proofs.Unique.{place_is, first_is_one, rank_is_one}
use Rattle.model.proofs.Waiting.{sooner, not_back, eager_is_trip}
use Rattle.model.proofs.Extending.{trip_on, eager_on, eager_first}
use Rattle.labels.specs.Table.{Label, Table, Least, Finished, Traced, source, after, Final, Unmet, Tied}
use Rattle.labels.proofs.Held.{Made, Rests}

module _ (w : World) (law : LawfulWorld w) (o : Place) (t : ℕ) (T : Table) (rest : Rests w o t T) where
  pub final_settled : (q : Place) (l : Label) → T q ≡ Some l → l.settled ≡ true → Final T l
  final_settled q l e s x m f u = rest.ordered q x l m e s f u

  closes : (p q : Place) (k : Label) (i a : ℕ) → T p ≡ Some k → k.settled ≡ true → Rides w p (record { arc = i; entered = k.second; arrived = a }) q
      → (l : Label) × (T q ≡ Some l) × Upto4 l.second l.legs l.arc l.state a (suc k.legs) i p.state
  closes p q k i a e s r = rest.closed p q k i a e s tt r

  -- an unsettled label, at a second no later than a
  pub record Unsettled (a : ℕ) : Type 0 where
    pub at : Place
    pub label : Label
    pub known : T at ≡ Some label
    pub unsettled : label.settled ≡ false
    pub no_later : label.second ≤ a

  -- a trip that starts at a labelled place, not before its second, ends at a settled place, not before its second, or passes an unsettled label
  reached : {p q : Place} {b a : ℕ} {ls : List Leg} → Trip w p b ls q a → (k : Label) → T p ≡ Some k → k.second ≤ b
      → ((l : Label) × (T q ≡ Some l) × (l.settled ≡ true) × (l.second ≤ a)) ⊎ Unsettled a
  reached {p = p} stay k e h =
      elim (cases_Bool k.settled) [
        | inl s ↦ inl (k, e, s, h)
        | inr s ↦ inr (record { at = p; label = k; known = e; unsettled = s; no_later = h })
      ]
  reached (ride {p = p} {m = m} {t = b} {a = a} {l = l} g r more) k e h =
      elim (cases_Bool k.settled) [
        | inl s ↦
            let x = sooner w law p m l.arc k.second l.entered l.arrived (omega arith) r in
            let y = closes p m k l.arc x.0 e s x.1 in
            let u : x.0 ≤ l.arrived = x.2 in
            let v : y.0.second ≤ x.0 = y.2.0 in
            reached more y.0 y.1 (omega arith)
        | inr s ↦
            let u : l.entered ≤ l.arrived = law.not_before r.along.service l.entered l.arrived r.served in
            let v : l.arrived ≤ a = not_back w law more in
            inr (record { at = p; label = k; known = e; unsettled = s; no_later = omega arith })
      ]

  pub reached_from_o : (q : Place) (ls : List Leg) (a : ℕ) → Trip w o t ls q a
      → ((l : Label) × (T q ≡ Some l) × (l.settled ≡ true) × (l.second ≤ a)) ⊎ Unsettled a
  reached_from_o q ls a trip =
      let z = rest.origin in
      let h : z.0.second ≡ t = z.2 in
      reached trip z.0 z.1 (omega arith)

  -- the label of a place other than the origin's, and the label it comes from
  made_by : (q : Place) (l : Label) (n : ℕ) → T q ≡ Some l → l.legs ≡ suc n → Made w T q l
  made_by q l n e h =
      elim (rest.made q l e) [
        | inl g ↦ let z : l.legs ≡ 0 = g.2 in absurd (omega arith)
        | inr g ↦ g
      ]

  at_origin : (q : Place) (l : Label) → T q ≡ Some l → l.legs ≡ 0 → (o ≡ q) × (t ≡ l.second)
  at_origin q l e h =
      elim (rest.made q l e) [
        | inl g ↦ (sym g.0, sym g.1)
        | inr g ↦ let z : l.legs ≡ suc g.label.legs = g.legs in absurd (omega arith)
      ]

  trip_to : (n : ℕ) (q : Place) (l : Label) → T q ≡ Some l → l.legs ≡ n → (ls : List Leg) × Trip w o t ls q l.second
  trip_to zero q l e h =
      let z = at_origin q l e h in
      ([], subst (λ (x : Place). Trip w o t [] x l.second) z.0 (subst (λ (x : ℕ). Trip w o t [] o x) z.1 stay))
  trip_to (suc n) q l e h =
      let g = made_by q l n e h in
      let a : l.legs ≡ suc g.label.legs = g.legs in
      let y = trip_to n g.from g.label g.known (omega arith) in
      let j : Leg = record { arc = l.arc; entered = g.label.second; arrived = l.second } in
      (y.0 ++ (j ∷ []), trip_on j y.1 (le_refl g.label.second) g.rides)

  pub first_of : (q : Place) (l : Label) → T q ≡ Some l → Final T l → First w o t q l.second
  first_of q l e final =
      let y = trip_to l.legs q l e refl in
      record {
        legs = y.0;
        trip = y.1;
        soonest = λ ls b trip. elim (reached_from_o q ls b trip) [
          | inl z ↦
              let h : z.0.second ≤ b = z.3 in
              let s : z.0.second ≡ l.second = ap Label.second (one_some (T q) z.0 l z.1 e) in
              omega arith
          | inr z ↦
              let u : Upto2 l.second l.legs z.label.second z.label.legs = final z.at z.label z.known z.unsettled in
              let h : z.label.second ≤ b = z.no_later in
              omega arith
        ];
      }

  second_is : (q : Place) (l : Label) (a : ℕ) → T q ≡ Some l → Final T l → First w o t q a → a ≡ l.second
  second_is q l a e final f = first_is_one w o t q a l.second f (first_of q l e final)

  -- no label is before the first second of its place
  not_sooner : (q : Place) (l : Label) (a : ℕ) → T q ≡ Some l → First w o t q a → a ≤ l.second
  not_sooner q l a e f = let y = trip_to l.legs q l e refl in f.soonest y.0 l.second y.1

  eager_to : (n : ℕ) (q : Place) (l : Label) → T q ≡ Some l → Final T l → l.legs ≡ n
      → (ls : List Leg) × Eager w o t o t ls q l.second × (length ls ≡ n)
  eager_to zero q l e final h =
      let z = at_origin q l e h in
      let f : First w o t o t = subst (λ (x : Place). First w o t x t) (sym z.0) (subst (λ (x : ℕ). First w o t q x) (sym z.1) (first_of q l e final)) in
      ([], subst (λ (x : Place). Eager w o t o t [] x l.second) z.0 (subst (λ (x : ℕ). Eager w o t o t [] o x) z.1 (there f)), refl)
  eager_to (suc n) q l e final h =
      let g = made_by q l n e h in
      let a : l.legs ≡ suc g.label.legs = g.legs in
      let y = eager_to n g.from g.label g.known (final_settled g.from g.label g.known g.settled) (omega arith) in
      let j : Leg = record { arc = l.arc; entered = g.label.second; arrived = l.second } in
      let c : length y.0 ≡ n = y.2 in
      (y.0 ++ (j ∷ []), eager_on j y.1 refl g.rides (first_of q l e final), simp length-append (omega arith))

  -- an unsettled label on an eager trip to q that arrives at b and has n legs: at a second and with legs no more than these, and with as
  -- many only at q itself
  record Passed (q : Place) (b n : ℕ) : Type 0 where
    at : Place
    label : Label
    known : T at ≡ Some label
    unsettled : label.settled ≡ false
    no_later : label.second ≤ b
    no_more : label.legs ≤ n
    only : label.legs ≡ n → at ≡ q

  Met : Place → ℕ → ℕ → Type 0
  Met q b n = ((l : Label) × (T q ≡ Some l) × (l.settled ≡ true) × (l.legs ≤ n)) ⊎ Passed q b n

  met_more : (q : Place) (b n m : ℕ) → n ≤ m → Met q b n → Met q b m
  unfolding Met
  met_more q b n m h (inl x) = let u : x.0.legs ≤ n = x.3 in inl (x.0, x.1, x.2, omega arith)
  met_more q b n m h (inr x) =
      let u : x.label.legs ≤ n = x.no_more in
      inr (record { at = x.at; label = x.label; known = x.known; unsettled = x.unsettled; no_later = x.no_later; no_more = omega arith; only = λ e. x.only (omega arith) })

  -- an eager trip from a labelled place ends at a settled place, with no fewer legs than its label has, or passes an unsettled label
  met : {p q : Place} {a b : ℕ} {ls : List Leg} → Eager w o t p a ls q b → (k : Label) → T p ≡ Some k → k.second ≤ a → Met q b (k.legs + length ls)
  unfolding Met
  met {p = p} (there f) k e h =
      elim (cases_Bool k.settled) [
        | inl s ↦ inl (k, e, s, omega arith)
        | inr s ↦ inr (record { at = p; label = k; known = e; unsettled = s; no_later = h; no_more = omega arith; only = λ _. refl })
      ]
  met {p = p} {q = q} {a = a} {b = b} {ls = all} (go {m = m} {l = j} {ls = ls} f s r more) k e h =
      elim (cases_Bool k.settled) [
        | inl d ↦
            let u : j.entered ≡ k.second = s ∙ second_is p k a e (final_settled p k e d) f in
            let y = closes p m k j.arc j.arrived e d
            (subst (λ (x : ℕ). Rides w p (record { arc = j.arc; entered = x; arrived = j.arrived }) m) u r) in
            let v : j.arrived ≤ y.0.second = not_sooner m y.0 j.arrived y.1 (eager_first more) in
            let x : Upto4 y.0.second y.0.legs y.0.arc y.0.state j.arrived (suc k.legs) j.arc p.state = y.2 in
            let z : Met q b (y.0.legs + length ls) = met more y.0 y.1 x.0 in
            met_more q b (y.0.legs + length ls) (k.legs + length (j ∷ ls)) (omega arith) z
        | inr d ↦
            let u : a ≤ b = not_back w law (eager_is_trip w o p q t a b (j ∷ ls) (go f s r more)).0 in
            inr (record { at = p; label = k; known = e; unsettled = d; no_later = omega arith; no_more = omega arith; only = λ n. absurd (omega arith) })
      ]

  met_from_o : (q : Place) (ls : List Leg) (b : ℕ) → Eager w o t o t ls q b → Met q b (length ls)
  met_from_o q ls b g =
      let z = rest.origin in
      let h : z.0.second ≡ t = z.2 in
      let n : z.0.legs ≡ 0 = z.3 in
      met_more q b (z.0.legs + length ls) (length ls) (omega arith) (met g z.0 z.1 (omega arith))

  eager_last : (q : Place) (ls : List Leg) (b : ℕ) → Eager w o t o t ls q b → First w o t q b
  eager_last q ls b g = (eager_is_trip w o o q t t b ls g).3

  pub rank_of : (q : Place) (l : Label) → T q ≡ Some l → Final T l → Rank w o t q l.legs
  unfolding Met
  rank_of q l e final =
      let y = eager_to l.legs q l e final refl in
      record {
        legs = y.0;
        second = l.second;
        eager = y.1;
        count = y.2;
        fewest = λ ls b g. elim (met_from_o q ls b g) [
          | inl z ↦
              let u : z.0.legs ≤ length ls = z.3 in
              let v : z.0.legs ≡ l.legs = ap Label.legs (one_some (T q) z.0 l z.1 e) in
              omega arith
          | inr z ↦
              let u : Upto2 l.second l.legs z.label.second z.label.legs = final z.at z.label z.known z.unsettled in
              let h : z.label.second ≤ b = z.no_later in
              let n : z.label.legs ≤ length ls = z.no_more in
              let s : b ≡ l.second = second_is q l b e final (eager_last q ls b g) in
              omega arith
        ];
      }

  traced_to : (n : ℕ) (q : Place) (l : Label) → T q ≡ Some l → l.legs ≡ n → (js : List Leg) × Traced w.arcs T js q
  traced_to zero q l e h = ([], source e h)
  traced_to (suc n) q l e h =
      let g = made_by q l n e h in
      let a : l.legs ≡ suc g.label.legs = g.legs in
      let y = traced_to n g.from g.label g.known (omega arith) in
      let j : Leg = record { arc = l.arc; entered = g.label.second; arrived = l.second } in (
        y.0 ++ (j ∷ []),
        after e g.legs g.rides.numbered
            (place_is g.from (record { stop = g.rides.along.tail; state = l.state }) (sym g.rides.leaves) (sym g.state))
            g.known y.1 refl,
      )

  -- every label's legs can be traced back
  pub traced_of : (q : Place) (l : Label) → T q ≡ Some l → (js : List Leg) × Traced w.arcs T js q
  traced_of q l e = traced_to l.legs q l e refl

  -- of the eager legs to q from places one rank lower its label has the one of the lowest arc, then the lowest state
  tie : (q : Place) (l : Label) (n : ℕ) → T q ≡ Some l → Final T l → l.legs ≡ suc n → (r : Place) (j : Leg) → Rank w o t r n → EagerLeg w o t r j q
      → Upto2 l.arc l.state j.arc r.state
  unfolding Met
  tie q l n e final h r j rank leg =
      let b : rank.second ≡ j.entered = first_is_one w o t r rank.second j.entered (eager_last r rank.legs rank.second rank.eager) leg.leaving in
      let c : length rank.legs ≡ n = rank.count in
      let s : j.arrived ≡ l.second = second_is q l j.arrived e final leg.coming in
      elim (met_from_o r rank.legs rank.second rank.eager) [
        | inl y ↦
            let k : Label = y.0 in
            let f : T r ≡ Some k = y.1 in
            let last : Final T k = final_settled r k f y.2 in
            let u : j.entered ≡ k.second = second_is r k j.entered f last leg.leaving in
            let z = closes r q k j.arc j.arrived f y.2
            (subst (λ (x : ℕ). Rides w r (record { arc = j.arc; entered = x; arrived = j.arrived }) q) u leg.rides) in
            let v : n ≡ k.legs = rank_is_one w o t r n k.legs rank (rank_of r k f last) in
            let x : Upto4 l.second l.legs l.arc l.state j.arrived (suc k.legs) j.arc r.state
            = subst (λ (c : Label). Upto4 c.second c.legs c.arc c.state j.arrived (suc k.legs) j.arc r.state)
            (one_some (T q) z.0 l z.1 e) z.2 in
            omega arith
        | inr z ↦
            let u : Upto2 l.second l.legs z.label.second z.label.legs = final z.at z.label z.known z.unsettled in
            let a : z.label.second ≤ rank.second = z.no_later in
            let m : z.label.legs ≤ length rank.legs = z.no_more in
            let v : j.entered ≤ j.arrived = law.not_before leg.rides.along.service j.entered j.arrived leg.rides.served in
            absurd (omega arith)
      ]

  journey_from : {q : Place} {js : List Leg} → Traced w.arcs T js q → ((l : Label) → T q ≡ Some l → Final T l) → Journey w o t js q
  journey_from {q} (source {l = l} e h) final = none (subst (λ (n : ℕ). Rank w o t q n) h (rank_of q l e (final l e)))
  journey_from {q} (after {p = p} {l = l} {m = m} {x = x} e h a b f more is) final =
      let n : ℕ = m.legs in
      let g = made_by q l n e h in
      let c : g.rides.along ≡ x = one_some (slice_get w.arcs l.arc) g.rides.along x g.rides.numbered a in
      let fp : g.from ≡ p
      = place_is g.from (record { stop = x.tail; state = l.state }) (sym g.rides.leaves ∙ ap Arc.tail c) (sym g.state) ∙ sym b in
      let gm : g.label ≡ m = one_some (T p) g.label m (subst (λ (z : Place). T z ≡ Some g.label) fp g.known) f in
      let j : Leg = record { arc = l.arc; entered = m.second; arrived = l.second } in
      let r : Rides w p j q
      = subst (λ (z : Place). Rides w z j q) fp
      (subst (λ (z : Label). Rides w g.from (record { arc = l.arc; entered = z.second; arrived = l.second }) q) gm g.rides) in
      let ps : l.state ≡ p.state = g.state ∙ ap Place.state fp in
      let sm : m.settled ≡ true = sym (ap Label.settled gm) ∙ g.settled in
      let fm : Final T m = final_settled p m f sm in
      on (subst (λ (z : ℕ). Rank w o t q z) h (rank_of q l e (final l e)))
      (rank_of p m f fm)
      (record { rides = r; leaving = first_of p m f fm; coming = first_of q l e (final l e) })
      (λ r' k rank leg. subst (λ (z : ℕ). Upto2 l.arc z k.arc r'.state) ps (tie q l n e (final l e) h r' k rank leg))
      (journey_from more (λ z d. subst (λ (y : Label). Final T y) (one_some (T p) m z f d) fm))
      is

  -- the legs traced back from a label that no unsettled label is before are the tie rule's journey
  pub journey_of : (q : Place) (l : Label) (js : List Leg) → T q ≡ Some l → Final T l → Traced w.arcs T js q → Journey w o t js q
  journey_of q l js e final x = journey_from x (λ z d. subst (λ (y : Label). Final T y) (one_some (T q) l z e d) final)

  -- the search ends at the target's first end place: it is the one that the enquiry is answered by
  module _ (target : ℕ) (unmet : Unmet w target T) where
    pub chosen : (p : Place) (l : Label) → Least T p l → Tied T p l → Ends w target p → Chosen w o t target p
    unfolding Met
    chosen p l least tied ends = record {
      «end» = ends;
      second = l.second;
      legs = l.legs;
      first = first_of p l least.here least.least;
      rank = rank_of p l least.here least.least;
      best = λ r b m end f rank.
          let c : length rank.legs ≡ m = rank.count in
          let s : rank.second ≡ b = first_is_one w o t r rank.second b (eager_last r rank.legs rank.second rank.eager) f in
          elim (met_from_o r rank.legs rank.second rank.eager) [
            | inl y ↦ absurd (unmet r y.0 y.1 y.2 end)
            | inr z ↦
                let u : Upto2 l.second l.legs z.label.second z.label.legs = least.least z.at z.label z.known z.unsettled in
                let a : z.label.second ≤ rank.second = z.no_later in
                let n : z.label.legs ≤ length rank.legs = z.no_more in (
                  omega arith,
                  λ h. omega arith,
                  λ h k.
                      let at : z.at ≡ r = z.only (omega arith) in
                      tied r z.label (subst (λ (x : Place). T x ≡ Some z.label) at z.known) z.unsettled (ends.0 ∙ sym end.0) (omega arith) (omega arith),
                )
          ];
    }

    pub arrives : (p : Place) (l : Label) → Least T p l → (q : Place) (ls : List Leg) (a : ℕ) → Ends w target q → Trip w o t ls q a → l.second ≤ a
    arrives p l least q ls a ends trip =
        elim (reached_from_o q ls a trip) [
          | inl y ↦ absurd (unmet q y.0 y.1 y.2 ends)
          | inr z ↦
              let u : Upto2 l.second l.legs z.label.second z.label.legs = least.least z.at z.label z.known z.unsettled in
              let h : z.label.second ≤ a = z.no_later in
              omega arith
        ]

    -- a search that has nothing left to settle, and has not come to an end place of the target, shows that there is no trip to one
    pub no_trip : Finished T → Answer w o t target None
    no_trip done q ls a ends trip =
        elim (reached_from_o q ls a trip) [
          | inl y ↦ unmet q y.0 y.1 y.2 ends
          | inr z ↦ both_ways z.label.settled z.unsettled (done z.at z.label z.known)
        ]
