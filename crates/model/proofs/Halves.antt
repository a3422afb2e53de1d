-- A trip between places is a trip between stops whose word leads the rule; and which trips suit an enquiry.
use Rattle.std.proofs.Common.{◌≡◌, ℕ, List, [], ◌∷◌, Some, Option, sym, refl, ap, ◌∙◌, subst}
use Rattle.std.proofs.lemmas.Option.{same_Some}
use Rattle.std.specs.List.{slice_get}
use Rattle.model.specs.declared.enquiry.Enquiry.{Enquiry}
use Rattle.model.specs.Rules.{onward, leads}
use Rattle.model.specs.Trips.{World, Arc, Place, place, Leg, Trip, Ends}
use Rattle.model.specs.Suits.{StopTrip, Suits, label_of, word}
use Rattle.model.specs.Claims.{TripIsTwo, SuitsIsTrip}
use Rattle.model.proofs.Options.{onward_parts}

stops_of : (w : World) {p q : Place} {t a : ℕ} {ls : List Leg} → Trip w p t ls q a → StopTrip w p.stop t ls q.stop a
stops_of w Trip.stay = StopTrip.stay
stops_of w (Trip.ride {q = q} {t = t} {a = a} {l = l} {ls = ls} h r rest) =
    subst (λ (s : ℕ). StopTrip w s t (l ∷ ls) q.stop a) r.leaves
    (StopTrip.ride r.along r.numbered h r.served (subst (λ (s : ℕ). StopTrip w s l.arrived ls q.stop a) (sym r.reaches) (stops_of w rest)))

leads_of : (w : World) {p q : Place} {t a : ℕ} {ls : List Leg} → Trip w p t ls q a → leads w.next p.state (word w.arcs ls) ≡ Some q.state
leads_of w Trip.stay = refl
leads_of w (Trip.ride {p = p} {m = m} {l = l} {ls = ls} h r rest) =
    let e : w.next p.state (label_of (slice_get w.arcs l.arc)) ≡ Some m.state
    = ap (λ (x : Option Arc). w.next p.state (label_of x)) r.numbered ∙ r.spells in
    ap (λ (x : Option ℕ). onward x (λ n. leads w.next n (word w.arcs ls))) e ∙ leads_of w rest

both : (w : World) {u v t a : ℕ} {ls : List Leg} → StopTrip w u t ls v a → (s r : ℕ) → leads w.next s (word w.arcs ls) ≡ Some r
    → Trip w (place u s) t ls (place v r) a
both w (StopTrip.stay {s = u} {t = t}) s r e = subst (λ (z : ℕ). Trip w (place u s) t [] (place u z) t) (same_Some s r e) Trip.stay
both w (StopTrip.ride {l = l} {ls = ls} x n h served rest) s r e =
    let f : ℕ → Option ℕ = λ (k : ℕ). leads w.next k (word w.arcs ls) in
    let y = onward_parts (w.next s x.label) f r (sym (ap (λ (z : Option Arc). onward (w.next s (label_of z)) f) n) ∙ e) in
    Trip.ride {m = place x.head y.0} h
    (record { along = x; numbered = n; leaves = refl; reaches = refl; spells = y.1; served = served })
    (both w rest y.0 r y.2)

pub trip_is_two : TripIsTwo
trip_is_two w p q t a ls = (λ x. (stops_of w x, leads_of w x), λ x. both w x.0 p.state q.state x.1)

pub trip_suits : (w : World) (e : Enquiry) (ls : List Leg) (a : ℕ) (q : Place) → Ends w e.target q → Trip w (place e.start 0) e.second ls q a → Suits w e ls a
trip_suits w e ls a q ends trip = record {
  trip = subst (λ (v : ℕ). StopTrip w e.start e.second ls v a) ends.0 (stops_of w trip);
  accepted = record { last = q.state; led = leads_of w trip; ending = ends.1 };
}

pub suits_trip : (w : World) (e : Enquiry) (ls : List Leg) (a : ℕ) → Suits w e ls a → (q : Place) × Ends w e.target q × Trip w (place e.start 0) e.second ls q a
suits_trip w e ls a s =
    (place e.target s.accepted.last, (refl, s.accepted.ending), both w s.trip 0 s.accepted.last s.accepted.led)

pub suits_is_trip : SuitsIsTrip
suits_is_trip w e ls a = (suits_trip w e ls a, λ x. trip_suits w e ls a x.0 x.1 x.2)
