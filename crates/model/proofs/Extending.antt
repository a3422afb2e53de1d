-- One more leg at the end of a trip; and the tie rule's journey to a place is a trip that arrives at its first second.
use Rattle.std.proofs.Common.{◌≡◌, ℕ, ◌≤◌, List, [], ◌∷◌, ◌++◌, length, sym, refl, subst, le_refl, arith}
use Rattle.model.specs.Trips.{World, Place, Leg, Rides, Trip, stay, ride, First, Eager, there, go, Journey, none, on}
use Rattle.model.specs.Claims.{JourneyIsTrip}
use Rattle.model.proofs.Unique.{first_is_one}
use Rattle.model.proofs.Waiting.{eager_is_trip}

pub trip_on : {w : World} {p m q : Place} {t a : ℕ} {ls : List Leg} (l : Leg) → Trip w p t ls m a → a ≤ l.entered → Rides w m l q
    → Trip w p t (ls ++ (l ∷ [])) q l.arrived
trip_on l stay h r = ride h r stay
trip_on l (ride g s rest) h r = ride g s (trip_on l rest h r)

pub eager_on : {w : World} {o : Place} {t : ℕ} {p m q : Place} {a b : ℕ} {ls : List Leg} (l : Leg) → Eager w o t p a ls m b → l.entered ≡ b
    → Rides w m l q → First w o t q l.arrived → Eager w o t p a (ls ++ (l ∷ [])) q l.arrived
eager_on l (there f) e r g = go f e r (there g)
eager_on l (go f h s rest) e r g = go f h s (eager_on l rest e r g)

pub eager_first : {w : World} {o : Place} {t : ℕ} {p q : Place} {a b : ℕ} {ls : List Leg} → Eager w o t p a ls q b → First w o t p a
eager_first (there f) = f
eager_first (go f h s rest) = f

empty_is : (ls : List Leg) → length ls ≡ 0 → ls ≡ []
empty_is [] e = refl
empty_is (l ∷ ls) e = absurd (omega (arith, e))

journey_trip : {w : World} {o : Place} {t : ℕ} {q : Place} {js : List Leg} → Journey w o t js q → (a : ℕ) → First w o t q a → Trip w o t js q a
journey_trip {w} {o} {t} {q} (none r) a f =
    let x = eager_is_trip w o o q t t r.second r.legs r.eager in
    let s : r.second ≡ a = first_is_one w o t q r.second a x.3 f in
    subst (λ (b : ℕ). Trip w o t [] q b) s (subst (λ (ls : List Leg). Trip w o t ls q r.second) (empty_is r.legs r.count) x.0)
journey_trip {w} {o} {t} {q} {js} (on {l = l} {ls = ls} r k leg _ more is) a f =
    let s : l.arrived ≡ a = first_is_one w o t q l.arrived a leg.coming f in
    let x : Trip w o t (ls ++ (l ∷ [])) q l.arrived = trip_on l (journey_trip more l.entered leg.leaving) (le_refl l.entered) leg.rides in
    subst (λ (b : ℕ). Trip w o t js q b) s (subst (λ (z : List Leg). Trip w o t z q l.arrived) (sym is) x)

pub journey_is_trip : JourneyIsTrip
journey_is_trip w o t q js a j f = journey_trip j a f
