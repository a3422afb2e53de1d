-- The journeys of two small worlds, from tables of their labels.
use Rattle.std.proofs.Common.{◌≡◌, ℕ, zero, suc, ◌≤◌, Bool, true, false, cond, ◌&&◌, ltb, ◌⊎◌, List, [], ◌∷◌, Some, None, Option, sym, refl, ap, ◌∙◌, subst, inl, inr, arith}
use Rattle.std.proofs.lemmas.Option.{none-some, same_Some}
use Rattle.std.specs.List.{slice_get}
use Rattle.std.proofs.lemmas.Bool.{both_ways, cases_Bool, ltb-true, le-ltb}
use Rattle.model.specs.declared.network.Arc.{Arc}
use Rattle.model.specs.declared.network.Place.{Place}
use Rattle.model.specs.declared.network.Leg.{Leg}
use Rattle.model.specs.Books.{LawfulBook}
use Rattle.model.specs.Rules.{LawfulRule, label_count}
use Rattle.model.specs.Trips.{World, LawfulWorld, world, place, Rides, Ends, Answer, Upto2, Upto4}
use Rattle.model.specs.Journeys.{any_word, straight_or_round, to_the_pier, OneWalkBeatsTwo, TwoWalksToABoat}
use Rattle.model.proofs.Unique.{place_is}
use Rattle.model.proofs.Worlds.{world_is_lawful}
use Rattle.labels.specs.Table.{Label, Table, Offer, same_place, Least, source, after}
use Rattle.labels.proofs.Tables.{same_place_is}
use Rattle.labels.proofs.Held.{Made, Rests}
use Rattle.labels.proofs.Solving.{chosen, journey_of}

-- a table of some labels
abbrev table : List Offer → Table
table [] q = None
table (f ∷ fs) q = cond (same_place q f.at) (Some f.label) (table fs q)

-- what holds of each label
abbrev Each : (Place → Label → Type 0) → List Offer → Type 0
Each P [] = Unit {0}
Each P (f ∷ fs) = P f.at f.label × Each P fs

each : (P : Place → Label → Type 0) (fs : List Offer) → Each P fs → (q : Place) (l : Label) → table fs q ≡ Some l → P q l
each P [] h q l e = absurd (none-some l e)
each P (f ∷ fs) h q l e =
    elim (cases_Bool (same_place q f.at)) [
      | inl b ↦
          let at : f.at ≡ q = sym (same_place_is q f.at b) in
          let is : f.label ≡ l = same_Some f.label l (sym (ap (λ (z : Bool). cond z (Some f.label) (table fs q)) b) ∙ e) in
          subst (λ (z : Label). P q z) is (subst (λ (z : Place). P z f.label) at h.0)
      | inr b ↦ each P fs h.1 q l (sym (ap (λ (z : Bool). cond z (Some f.label) (table fs q)) b) ∙ e)
    ]

-- what holds of each arc, by its number
abbrev EachArc : (ℕ → Arc → Type 0) → ℕ → List Arc → Type 0
EachArc P i [] = Unit {0}
EachArc P i (x ∷ xs) = P i x × EachArc P (suc i) xs

each_arc : (P : ℕ → Arc → Type 0) (xs : List Arc) → EachArc P 0 xs → (i : ℕ) (x : Arc) → slice_get xs i ≡ Some x → P i x
each_arc P [] h i x e = absurd (none-some x e)
each_arc P (y ∷ ys) h zero x e = subst (λ (z : Arc). P 0 z) (same_Some y x e) h.0
each_arc P (y ∷ ys) h (suc i) x e = each_arc (λ j z. P (suc j) z) ys (shift 0 ys h.1) i x e
  where
    shift : (k : ℕ) (zs : List Arc) → EachArc P (suc k) zs → EachArc (λ j z. P (suc j) z) k zs
    shift k [] g = tt
    shift k (z ∷ zs) g = (g.0, shift (suc k) zs g.1)

abbrev label : ℕ → ℕ → ℕ → ℕ → Bool → Label
label second legs arc state settled = record { second = second; legs = legs; arc = arc; state = state; settled = settled }

only_zero : (b : Bool) (n : ℕ) → cond b (Some 0) None ≡ Some n → n ≡ 0
only_zero true n e = sym (same_Some 0 n e)
only_zero false n e = absurd (none-some n e)

and_false : (b : Bool) → (b && false) ≡ false
and_false true = refl
and_false false = refl

free : LawfulRule any_word
free = record {
  some = omega arith;
  few = omega arith;
  closed = λ s x n e. let z : n ≡ 0 = only_zero (ltb s 1 && ltb x label_count) n e in omega arith;
  beyond = λ s x h. ap (λ (b : Bool). cond (b && ltb x label_count) (Some 0) None) (le-ltb s 1 h);
  unlabelled = λ s x h.
      ap (λ (b : Bool). cond (ltb s 1 && b) (Some 0) None) (le-ltb x label_count h)
      ∙ ap (λ (b : Bool). cond b (Some 0) None) (and_false (ltb s 1));
  ended = λ s e. ltb-true s 1 e;
}

-- where a ride along the arc x ends, and when
landing : (arcs : List Arc) (answer : ℕ → ℕ → Option ℕ) (p q : Place) (i t a b : ℕ) (x : Arc) (r : Rides (world arcs answer any_word) p (record { arc = i; entered = t; arrived = a }) q)
    → x ≡ r.along → p.state ≡ 0 → any_word.next 0 x.label ≡ Some 0 → answer x.service t ≡ Some b → (place x.head 0 ≡ q) × (b ≡ a)
landing arcs answer p q i t a b x r along at spells served = (
  place_is (place x.head 0) q (ap Arc.head along ∙ r.reaches)
      (same_Some 0 q.state (sym spells ∙ (λ j. any_word.next (sym at j) (along j).label) ∙ r.spells)),
  same_Some b a (sym served ∙ ap (λ (z : Arc). answer z.service t) along ∙ r.served),
)

-- an arc that leaves another stop is not ridden
elsewhere : (arcs : List Arc) (answer : ℕ → ℕ → Option ℕ) (p q : Place) (l : Leg) (x : Arc) (r : Rides (world arcs answer any_word) p l q) → x ≡ r.along → (x.tail ≡ p.stop → ⊥) → ⊥
elsewhere arcs answer p q l x r along other = other (ap Arc.tail along ∙ r.leaves)

module _ (count : ℕ) (answer : ℕ → ℕ → Option ℕ) (law : LawfulBook count answer) (e₀ : answer 0 0 ≡ Some 100) (e₁ : answer 1 0 ≡ Some 300) (e₂ : answer 2 100 ≡ Some 300) where
  abbrev w₇ : World
  w₇ = world straight_or_round answer any_word

  abbrev labels₇ : List Offer
  labels₇ =
      record { at = place 0 0; label = label 0 0 0 0 true }
      ∷ record { at = place 1 0; label = label 100 1 0 0 true }
      ∷ record { at = place 2 0; label = label 300 1 1 0 false }
      ∷ []

  lawful₇ : LawfulWorld w₇
  lawful₇ = world_is_lawful straight_or_round count answer any_word law free

  abbrev Closes₇ : Place → Place → Label → ℕ → ℕ → Type 0
  Closes₇ p q k i a = (l : Label) × (table labels₇ q ≡ Some l) × Upto4 l.second l.legs l.arc l.state a (suc k.legs) i p.state

  closes₇ : (q : Place) (i a : ℕ) → Each (λ p k. k.settled ≡ true → Rides w₇ p (record { arc = i; entered = k.second; arrived = a }) q → Closes₇ p q k i a) labels₇
  closes₇ q i a = (
    λ _ r. each_arc (λ j x. j ≡ i → x ≡ r.along → Closes₇ (place 0 0) q (label 0 0 0 0 true) i a) straight_or_round (
      λ n x. let y = landing straight_or_round answer (place 0 0) q i 0 a 100 _ r x refl refl e₀ in let u : 100 ≡ a = y.1 in (label 100 1 0 0 true, subst (λ (z : Place). table labels₇ z ≡ Some (label 100 1 0 0 true)) y.0 refl, omega arith),
      (
        λ n x. let y = landing straight_or_round answer (place 0 0) q i 0 a 300 _ r x refl refl e₁ in let u : 300 ≡ a = y.1 in (label 300 1 1 0 false, subst (λ (z : Place). table labels₇ z ≡ Some (label 300 1 1 0 false)) y.0 refl, omega arith),
        (
          λ n x. absurd (elsewhere straight_or_round answer (place 0 0) q (record { arc = i; entered = 0; arrived = a }) _ r x (λ h. omega arith)),
          tt,
        ),
      ),
    ) i r.along r.numbered refl refl,
    (
      λ _ r. each_arc (λ j x. j ≡ i → x ≡ r.along → Closes₇ (place 1 0) q (label 100 1 0 0 true) i a) straight_or_round (
        λ n x. absurd (elsewhere straight_or_round answer (place 1 0) q (record { arc = i; entered = 100; arrived = a }) _ r x (λ h. omega arith)),
        (
          λ n x. absurd (elsewhere straight_or_round answer (place 1 0) q (record { arc = i; entered = 100; arrived = a }) _ r x (λ h. omega arith)),
          (
            λ n x. let y = landing straight_or_round answer (place 1 0) q i 100 a 300 _ r x refl refl e₂ in let u : 300 ≡ a = y.1 in (label 300 1 1 0 false, subst (λ (z : Place). table labels₇ z ≡ Some (label 300 1 1 0 false)) y.0 refl, omega arith),
            tt,
          ),
        ),
      ) i r.along r.numbered refl refl,
      (
        λ s _. absurd (both_ways false refl s),
        tt,
      ),
    ),
  )

  rests₇ : Rests w₇ (place 0 0) 0 (table labels₇)
  rests₇ = record {
    origin = (label 0 0 0 0 true, refl, refl, refl);
    late = each (λ q l. 0 ≤ l.second) labels₇ (omega arith, (omega arith, (omega arith, tt)));
    made = each (λ q l. ((q ≡ place 0 0) × (l.second ≡ 0) × (l.legs ≡ 0)) ⊎ Made w₇ (table labels₇) q l) labels₇ (
      inl (refl, refl, refl),
      (
        inr (record { from = place 0 0; label = label 0 0 0 0 true; known = refl; settled = refl; state = refl; legs = refl; rides = record { along = record { tail = 0; head = 1; label = 0; service = 0 }; numbered = refl; leaves = refl; reaches = refl; spells = refl; served = e₀ } }),
        (
          inr (record { from = place 0 0; label = label 0 0 0 0 true; known = refl; settled = refl; state = refl; legs = refl; rides = record { along = record { tail = 0; head = 2; label = 0; service = 1 }; numbered = refl; leaves = refl; reaches = refl; spells = refl; served = e₁ } }),
          tt,
        ),
      ),
    );
    closed = λ p q k i a e s _ r. each (λ p k. k.settled ≡ true → Rides w₇ p (record { arc = i; entered = k.second; arrived = a }) q → Closes₇ p q k i a) labels₇ (closes₇ q i a) p k e s r;
    ordered = λ p q k l e s f u. each (λ p k. k.settled ≡ true → Upto2 k.second k.legs l.second l.legs) labels₇ (
      λ _. last₇ 0 0 q l f u (omega arith),
      (λ _. last₇ 100 1 q l f u (omega arith), (λ z. absurd (both_ways false refl z), tt)),
    ) p k e s;
  }
    where
      last₇ : (second legs : ℕ) (q : Place) (l : Label) → table labels₇ q ≡ Some l → l.settled ≡ false → Upto2 second legs 300 1 → Upto2 second legs l.second l.legs
      last₇ second legs q l f u h = each (λ q l. l.settled ≡ false → Upto2 second legs l.second l.legs) labels₇ (
        λ z. absurd (both_ways true z refl),
        (λ z. absurd (both_ways true z refl), (λ _. h, tt)),
      ) q l f u

  one_walk : Answer w₇ (place 0 0) 0 2 (Some (record { arc = 1; entered = 0; arrived = 300 } ∷ []))
  one_walk = (
    place 2 0,
    chosen w₇ lawful₇ (place 0 0) 0 (table labels₇) rests₇ 2
        (each (λ q l. l.settled ≡ true → Ends w₇ 2 q → ⊥) labels₇ (λ _ z. let n : ◌≡◌ {A = ℕ} 0 2 = z.0 in omega arith, (λ _ z. let n : ◌≡◌ {A = ℕ} 1 2 = z.0 in omega arith, (λ z _. both_ways false refl z, tt))))
        (place 2 0) (label 300 1 1 0 false) least₇ (λ q m e u a b d. omega arith) (refl, refl),
    journey_of w₇ lawful₇ (place 0 0) 0 (table labels₇) rests₇ (place 2 0) (label 300 1 1 0 false) (record { arc = 1; entered = 0; arrived = 300 } ∷ []) refl least₇.least
        (after {p = place 0 0} {q = place 2 0} {l = label 300 1 1 0 false} {m = label 0 0 0 0 true} {x = record { tail = 0; head = 2; label = 0; service = 1 }} {ls = []} refl refl refl refl refl (source {l = label 0 0 0 0 true} refl refl) refl),
  )
    where
      least₇ : Least (table labels₇) (place 2 0) (label 300 1 1 0 false)
      least₇ = record {
        here = refl;
        unsettled = refl;
        least = λ q m e u. each (λ q m. m.settled ≡ false → Upto2 300 1 m.second m.legs) labels₇ (
          λ z. absurd (both_ways true z refl),
          (λ z. absurd (both_ways true z refl), (λ _. omega arith, tt)),
        ) q m e u;
      }

pub one_walk_beats_two : OneWalkBeatsTwo
one_walk_beats_two count answer law e₀ e₁ e₂ = one_walk count answer law e₀ e₁ e₂

module _ (count : ℕ) (answer : ℕ → ℕ → Option ℕ) (landed : ℕ) (law : LawfulBook count answer) (e₀ : answer 0 0 ≡ Some 100) (e₁ : answer 1 0 ≡ Some 500) (e₂ : answer 2 100 ≡ Some 200)
    (e₃ : answer 3 200 ≡ Some landed) where
  abbrev w₈ : World
  w₈ = world to_the_pier answer any_word

  abbrev labels₈ : List Offer
  labels₈ =
      record { at = place 0 0; label = label 0 0 0 0 true }
      ∷ record { at = place 1 0; label = label 100 1 0 0 true }
      ∷ record { at = place 2 0; label = label 200 2 2 0 true }
      ∷ record { at = place 3 0; label = label landed 3 3 0 false }
      ∷ []

  lawful₈ : LawfulWorld w₈
  lawful₈ = world_is_lawful to_the_pier count answer any_word law free

  aboard : 200 ≤ landed
  aboard = lawful₈.not_before 3 200 landed e₃

  abbrev Closes₈ : Place → Place → Label → ℕ → ℕ → Type 0
  Closes₈ p q k i a = (l : Label) × (table labels₈ q ≡ Some l) × Upto4 l.second l.legs l.arc l.state a (suc k.legs) i p.state

  closes₈ : (q : Place) (i a : ℕ) → Each (λ p k. k.settled ≡ true → Rides w₈ p (record { arc = i; entered = k.second; arrived = a }) q → Closes₈ p q k i a) labels₈
  closes₈ q i a = (
    λ _ r. each_arc (λ j x. j ≡ i → x ≡ r.along → Closes₈ (place 0 0) q (label 0 0 0 0 true) i a) to_the_pier (
      λ n x. let y = landing to_the_pier answer (place 0 0) q i 0 a 100 _ r x refl refl e₀ in let u : 100 ≡ a = y.1 in (label 100 1 0 0 true, subst (λ (z : Place). table labels₈ z ≡ Some (label 100 1 0 0 true)) y.0 refl, omega arith),
      (
        λ n x. let y = landing to_the_pier answer (place 0 0) q i 0 a 500 _ r x refl refl e₁ in let u : 500 ≡ a = y.1 in (label 200 2 2 0 true, subst (λ (z : Place). table labels₈ z ≡ Some (label 200 2 2 0 true)) y.0 refl, omega arith),
        (
          λ n x. absurd (elsewhere to_the_pier answer (place 0 0) q (record { arc = i; entered = 0; arrived = a }) _ r x (λ h. omega arith)),
          (
            λ n x. absurd (elsewhere to_the_pier answer (place 0 0) q (record { arc = i; entered = 0; arrived = a }) _ r x (λ h. omega arith)),
            tt,
          ),
        ),
      ),
    ) i r.along r.numbered refl refl,
    (
      λ _ r. each_arc (λ j x. j ≡ i → x ≡ r.along → Closes₈ (place 1 0) q (label 100 1 0 0 true) i a) to_the_pier (
        λ n x. absurd (elsewhere to_the_pier answer (place 1 0) q (record { arc = i; entered = 100; arrived = a }) _ r x (λ h. omega arith)),
        (
          λ n x. absurd (elsewhere to_the_pier answer (place 1 0) q (record { arc = i; entered = 100; arrived = a }) _ r x (λ h. omega arith)),
          (
            λ n x. let y = landing to_the_pier answer (place 1 0) q i 100 a 200 _ r x refl refl e₂ in let u : 200 ≡ a = y.1 in (label 200 2 2 0 true, subst (λ (z : Place). table labels₈ z ≡ Some (label 200 2 2 0 true)) y.0 refl, omega arith),
            (
              λ n x. absurd (elsewhere to_the_pier answer (place 1 0) q (record { arc = i; entered = 100; arrived = a }) _ r x (λ h. omega arith)),
              tt,
            ),
          ),
        ),
      ) i r.along r.numbered refl refl,
      (
        λ _ r. each_arc (λ j x. j ≡ i → x ≡ r.along → Closes₈ (place 2 0) q (label 200 2 2 0 true) i a) to_the_pier (
          λ n x. absurd (elsewhere to_the_pier answer (place 2 0) q (record { arc = i; entered = 200; arrived = a }) _ r x (λ h. omega arith)),
          (
            λ n x. absurd (elsewhere to_the_pier answer (place 2 0) q (record { arc = i; entered = 200; arrived = a }) _ r x (λ h. omega arith)),
            (
              λ n x. absurd (elsewhere to_the_pier answer (place 2 0) q (record { arc = i; entered = 200; arrived = a }) _ r x (λ h. omega arith)),
              (
                λ n x. let y = landing to_the_pier answer (place 2 0) q i 200 a landed _ r x refl refl e₃ in let u : landed ≡ a = y.1 in (label landed 3 3 0 false, subst (λ (z : Place). table labels₈ z ≡ Some (label landed 3 3 0 false)) y.0 refl, omega arith),
                tt,
              ),
            ),
          ),
        ) i r.along r.numbered refl refl,
        (
          λ s _. absurd (both_ways false refl s),
          tt,
        ),
      ),
    ),
  )

  rests₈ : Rests w₈ (place 0 0) 0 (table labels₈)
  rests₈ = record {
    origin = (label 0 0 0 0 true, refl, refl, refl);
    late = each (λ q l. 0 ≤ l.second) labels₈ (omega arith, (omega arith, (omega arith, (omega arith, tt))));
    made = each (λ q l. ((q ≡ place 0 0) × (l.second ≡ 0) × (l.legs ≡ 0)) ⊎ Made w₈ (table labels₈) q l) labels₈ (
      inl (refl, refl, refl),
      (
        inr (record { from = place 0 0; label = label 0 0 0 0 true; known = refl; settled = refl; state = refl; legs = refl; rides = record { along = record { tail = 0; head = 1; label = 0; service = 0 }; numbered = refl; leaves = refl; reaches = refl; spells = refl; served = e₀ } }),
        (
          inr (record { from = place 1 0; label = label 100 1 0 0 true; known = refl; settled = refl; state = refl; legs = refl; rides = record { along = record { tail = 1; head = 2; label = 0; service = 2 }; numbered = refl; leaves = refl; reaches = refl; spells = refl; served = e₂ } }),
          (
            inr (record { from = place 2 0; label = label 200 2 2 0 true; known = refl; settled = refl; state = refl; legs = refl; rides = record { along = record { tail = 2; head = 3; label = 2; service = 3 }; numbered = refl; leaves = refl; reaches = refl; spells = refl; served = e₃ } }),
            tt,
          ),
        ),
      ),
    );
    closed = λ p q k i a e s _ r. each (λ p k. k.settled ≡ true → Rides w₈ p (record { arc = i; entered = k.second; arrived = a }) q → Closes₈ p q k i a) labels₈ (closes₈ q i a) p k e s r;
    ordered = λ p q k l e s f u. let h : 200 ≤ landed = aboard in each (λ p k. k.settled ≡ true → Upto2 k.second k.legs l.second l.legs) labels₈ (
      λ _. last₈ 0 0 q l f u (omega arith),
      (λ _. last₈ 100 1 q l f u (omega arith), (λ _. last₈ 200 2 q l f u (omega arith), (λ z. absurd (both_ways false refl z), tt))),
    ) p k e s;
  }
    where
      last₈ : (second legs : ℕ) (q : Place) (l : Label) → table labels₈ q ≡ Some l → l.settled ≡ false → Upto2 second legs landed 3 → Upto2 second legs l.second l.legs
      last₈ second legs q l f u h = each (λ q l. l.settled ≡ false → Upto2 second legs l.second l.legs) labels₈ (
        λ z. absurd (both_ways true z refl),
        (λ z. absurd (both_ways true z refl), (λ z. absurd (both_ways true z refl), (λ _. h, tt))),
      ) q l f u

  two_walks : Answer w₈ (place 0 0) 0 3
      (Some (record { arc = 0; entered = 0; arrived = 100 } ∷ record { arc = 2; entered = 100; arrived = 200 } ∷ record { arc = 3; entered = 200; arrived = landed } ∷ []))
  two_walks = (
    place 3 0,
    chosen w₈ lawful₈ (place 0 0) 0 (table labels₈) rests₈ 3
        (each (λ q l. l.settled ≡ true → Ends w₈ 3 q → ⊥) labels₈ (λ _ z. let n : ◌≡◌ {A = ℕ} 0 3 = z.0 in omega arith, (λ _ z. let n : ◌≡◌ {A = ℕ} 1 3 = z.0 in omega arith, (λ _ z. let n : ◌≡◌ {A = ℕ} 2 3 = z.0 in omega arith, (λ z _. both_ways false refl z, tt)))))
        (place 3 0) (label landed 3 3 0 false) least₈ (λ q m e u a b d. omega arith) (refl, refl),
    journey_of w₈ lawful₈ (place 0 0) 0 (table labels₈) rests₈ (place 3 0) (label landed 3 3 0 false)
        (record { arc = 0; entered = 0; arrived = 100 } ∷ record { arc = 2; entered = 100; arrived = 200 } ∷ record { arc = 3; entered = 200; arrived = landed } ∷ []) refl least₈.least
        (after {p = place 2 0} {q = place 3 0} {l = label landed 3 3 0 false} {m = label 200 2 2 0 true} {x = record { tail = 2; head = 3; label = 2; service = 3 }}
        {ls = record { arc = 0; entered = 0; arrived = 100 } ∷ record { arc = 2; entered = 100; arrived = 200 } ∷ []} refl refl refl refl refl
        (after {p = place 1 0} {q = place 2 0} {l = label 200 2 2 0 true} {m = label 100 1 0 0 true} {x = record { tail = 1; head = 2; label = 0; service = 2 }}
        {ls = record { arc = 0; entered = 0; arrived = 100 } ∷ []} refl refl refl refl refl
        (after {p = place 0 0} {q = place 1 0} {l = label 100 1 0 0 true} {m = label 0 0 0 0 true} {x = record { tail = 0; head = 1; label = 0; service = 0 }} {ls = []} refl refl refl refl refl
        (source {l = label 0 0 0 0 true} refl refl) refl) refl) refl),
  )
    where
      least₈ : Least (table labels₈) (place 3 0) (label landed 3 3 0 false)
      least₈ = record {
        here = refl;
        unsettled = refl;
        least = λ q m e u. each (λ q m. m.settled ≡ false → Upto2 landed 3 m.second m.legs) labels₈ (
          λ z. absurd (both_ways true z refl),
          (λ z. absurd (both_ways true z refl), (λ z. absurd (both_ways true z refl), (λ _. omega arith, tt))),
        ) q m e u;
      }

pub two_walks_to_a_boat : TwoWalksToABoat
two_walks_to_a_boat count answer landed law e₀ e₁ e₂ e₃ = two_walks count answer landed law e₀ e₁ e₂ e₃
