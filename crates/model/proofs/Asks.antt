-- Asking has one result.
use Rattle.std.proofs.Common.{◌≡◌, ℕ, ◌<◌, ◌≤◌, List, ◌++◌, length, take, drop, Some, None, Ok, Err, Option, Result, sym, refl, ap, ◌∙◌, inl, inr, arith}
use Rattle.std.proofs.lemmas.Option.{same_Some}
use lib.Seq.{take-append_seam}
use Rattle.model.specs.declared.enquiry.Enquiry.{Enquiry}
use Rattle.model.specs.declared.enquiry.Found.{Found}
use Rattle.model.specs.declared.refusal.Refusal.{Refusal}
use Rattle.model.specs.Trips.{World, Leg, place}
use Rattle.model.specs.Asking.{refusal_of, TieRule, Answered, Outcome, Asked}
use Rattle.model.specs.Claims.{AnsweredAlike, AskedIsOne}
use Rattle.model.proofs.Options.{not_ok}
use Rattle.model.proofs.Unique.{answer_is_one}

pub legs_are_one : (w : World) (e : Enquiry) (js ks : List Leg) → TieRule w e js → TieRule w e ks → js ≡ ks
legs_are_one w e js ks a b =
    same_Some js ks (answer_is_one w (place e.start 0) e.second e.target (Some js) (Some ks) a b)

module _ (w : World) (e : Enquiry) where
  found_is_one : {slip slip' slip₂ slip₂' : List Leg} {f g : Found} → Answered w e slip slip' f → Answered w e slip₂ slip₂' g → f ≡ g
  found_is_one {f = f} {g = g} a b =
      let js : a.legs ≡ b.legs = legs_are_one w e a.legs b.legs a.tie_rule b.tie_rule in
      let u : f.arrival ≤ g.arrival = a.no_trip_arrives_earlier b.legs g.arrival b.suits in
      let v : g.arrival ≤ f.arrival = b.no_trip_arrives_earlier a.legs f.arrival a.suits in
      let x : f.arrival ≡ g.arrival = omega arith in
      let y : f.legs ≡ g.legs = a.counted ∙ ap length js ∙ sym b.counted in
      λ i. record { arrival = x i; legs = y i }

  slip_is_one : {slip slip' slip₂ slip₂' : List Leg} {f g : Found} → Answered w e slip slip' f → Answered w e slip₂ slip₂' g → slip ≡ slip₂ → slip' ≡ slip₂'
  slip_is_one a b h =
      let js : a.legs ≡ b.legs = legs_are_one w e a.legs b.legs a.tie_rule b.tie_rule in
      a.rows ∙ (λ i. js i ++ drop (length (js i)) (h i)) ∙ sym b.rows

  taken : {slip slip' : List Leg} {f : Found} → (a : Answered w e slip slip' f) → take f.legs slip' ≡ a.legs
  taken {slip = slip} a = (λ i. take (a.counted i) (a.rows i)) ∙ take-append_seam a.legs (drop (length a.legs) slip)

  answered_refused : {slip slip' slip₂ slip₂' : List Leg} {f : Found} {g : Refusal} → length slip ≡ length slip₂
      → Answered w e slip slip' f → Outcome w e slip₂ slip₂' (Err g) → ⊥
  answered_refused {slip = slip} {slip₂ = slip₂} {f = f} {g = g} n a o =
      elim (o.no_other g refl) [
        | inl h ↦ o.no_journey.0 (ap {B = Result Found Refusal} Err h) a.legs f.arrival a.suits
        | inr h ↦
            let m = o.rows_short.0 (ap {B = Result Found Refusal} Err h) in
            let js : length m.legs ≡ length a.legs = ap length (legs_are_one w e m.legs a.legs m.tie_rule a.tie_rule) in
            let u : length slip₂ < length m.legs = m.more in
            let v : length a.legs ≤ length slip = a.fits in
            omega arith
      ]

  refused_is_one : {slip slip' slip₂ slip₂' : List Leg} (f g : Refusal) → Outcome w e slip slip' (Err f) → Outcome w e slip₂ slip₂' (Err g) → f ≡ g
  refused_is_one f g o p =
      elim (o.no_other f refl) [
        | inl h ↦ elim (p.no_other g refl) [
          | inl k ↦ h ∙ sym k
          | inr k ↦
              let m = p.rows_short.0 (ap {B = Result Found Refusal} Err k) in
              absurd (o.no_journey.0 (ap {B = Result Found Refusal} Err h) m.legs m.arrival m.suits)
        ]
        | inr h ↦ elim (p.no_other g refl) [
          | inl k ↦
              let m = o.rows_short.0 (ap {B = Result Found Refusal} Err h) in
              absurd (p.no_journey.0 (ap {B = Result Found Refusal} Err k) m.legs m.arrival m.suits)
          | inr k ↦ h ∙ sym k
        ]
      ]

  outcome_is_one : (slip slip' slip₂ slip₂' : List Leg) (r s : Result Found Refusal) → length slip ≡ length slip₂ → Outcome w e slip slip' r → Outcome w e slip₂ slip₂' s
      → (r ≡ s) × (slip ≡ slip₂ → slip' ≡ slip₂')
  outcome_is_one slip slip' slip₂ slip₂' (Ok f) (Ok g) n o p =
      (ap {B = Result Found Refusal} Ok (found_is_one (o.answered f refl) (p.answered g refl)), slip_is_one (o.answered f refl) (p.answered g refl))
  outcome_is_one slip slip' slip₂ slip₂' (Ok f) (Err g) n o p = absurd (answered_refused n (o.answered f refl) p)
  outcome_is_one slip slip' slip₂ slip₂' (Err f) (Ok g) n o p = absurd (answered_refused (sym n) (p.answered g refl) o)
  outcome_is_one slip slip' slip₂ slip₂' (Err f) (Err g) n o p =
      (ap {B = Result Found Refusal} Err (refused_is_one f g o p), λ h. o.untouched f refl ∙ h ∙ sym (p.untouched g refl))

-- a result that is answered is past the tests
pub answered_of : {L Q : Type 0} {stops count : ℕ} {w : World} {e : Enquiry} {labels labels' : List L} {slots slots' : List Q} {slip slip' : List Leg} {found : Found}
    → Asked stops count w e labels labels' slots slots' slip slip' (Ok found) → Answered w e slip slip' found
answered_of {stops = stops} {count = count} {w = w} {e = e} {labels = labels} {slots = slots} {slip = slip} {slip' = slip'} {found = found} a =
    go (refusal_of stops count w e (length labels) (length slots)) refl
  where
    go : (x : Option Refusal) → refusal_of stops count w e (length labels) (length slots) ≡ x → Answered w e slip slip' found
    go None h = (a.past_tests h).answered found refl
    go (Some f) h = absurd (not_ok found f (a.refused_by_tests f h).0)

pub answered_alike : AnsweredAlike
answered_alike w e L Q M P stops count stops₂ count₂ labels labels' slots slots' slip slip' labels₂ labels₂' slots₂ slots₂' slip₂ slip₂' found found₂ a b =
    let x : Answered w e slip slip' found = answered_of a in
    let y : Answered w e slip₂ slip₂' found₂ = answered_of b in
    let f : found ≡ found₂ = found_is_one w e x y in
    let js : x.legs ≡ y.legs = legs_are_one w e x.legs y.legs x.tie_rule y.tie_rule in
    (f, taken w e x ∙ js ∙ sym (taken w e y) ∙ ap (λ (z : Found). take z.legs slip₂') (sym f))

pub asked_is_one : AskedIsOne
asked_is_one w e L Q M P stops count labels labels' slots slots' slip slip' labels₂ labels₂' slots₂ slots₂' slip₂ slip₂' result result₂ nl nq ns a b =
    go (refusal_of stops count w e (length labels) (length slots)) refl
  where
    over : (λ (m n : ℕ). refusal_of stops count w e m n) (length labels₂) (length slots₂) ≡ refusal_of stops count w e (length labels) (length slots)
    over = λ i. refusal_of stops count w e (sym nl i) (sym nq i)

    go : (x : Option Refusal) → refusal_of stops count w e (length labels) (length slots) ≡ x → (result ≡ result₂) × (slip ≡ slip₂ → slip' ≡ slip₂')
    go None h = outcome_is_one w e slip slip' slip₂ slip₂' result result₂ ns (a.past_tests h) (b.past_tests (over ∙ h))
    go (Some f) h =
        let x = a.refused_by_tests f h in
        let y = b.refused_by_tests f (over ∙ h) in
        (x.0 ∙ sym y.0, λ k. x.3 ∙ k ∙ sym y.3)
