-- Waiting never helps.
use Rattle.std.proofs.Common.{◌≡◌, ℕ, ◌≤◌, List, [], ◌∷◌, map, refl, ap, le_refl, arith}
use Rattle.model.specs.Trips.{World, LawfulWorld, Place, Leg, Rides, Trip, stay, ride, NeverWaits, First, Eager, there, go}
use Rattle.model.specs.Claims.{WaitingNeverHelps, EagerIsTrip}

-- the arc that can be ridden from the second e on can be ridden from d on, and arrives no later
pub sooner : (w : World) → LawfulWorld w → (p q : Place) (i d e b : ℕ) → d ≤ e → Rides w p (record { arc = i; entered = e; arrived = b }) q
    → (a : ℕ) × Rides w p (record { arc = i; entered = d; arrived = a }) q × (a ≤ b)
sooner w law p q i d e b h r =
    let s = law.fifo r.along.service d e b h r.served in
    (s.0, record { along = r.along; numbered = r.numbered; leaves = r.leaves; reaches = r.reaches; spells = r.spells; served = s.1 }, s.2)

-- no trip arrives before it sets out
pub not_back : (w : World) → LawfulWorld w → {p q : Place} {t a : ℕ} {ls : List Leg} → Trip w p t ls q a → t ≤ a
not_back w law (stay {t = t}) = le_refl t
not_back w law (ride {t = t} {a = a} {l = l} h r rest) =
    let k : l.entered ≤ l.arrived = law.not_before r.along.service l.entered l.arrived r.served in
    let m : l.arrived ≤ a = not_back w law rest in
    omega arith

Hurried : World → Place → ℕ → List Leg → Place → ℕ → Type 0
Hurried w p t ls q a = (ks : List Leg) × (b : ℕ) × Trip w p t ks q b × NeverWaits t ks × (map Leg.arc ks ≡ map Leg.arc ls) × (b ≤ a)

hurry : (w : World) → LawfulWorld w → {p q : Place} {s a : ℕ} {ls : List Leg} → Trip w p s ls q a → (t : ℕ) → t ≤ s → Hurried w p t ls q a
unfolding Hurried
hurry w law stay t h = ([], t, stay, tt, refl, h)
hurry w law (ride {p = p} {m = m} {l = l} {ls = ls} g r rest) t h =
    let x = sooner w law p m l.arc t l.entered l.arrived (omega arith) r in
    let y = hurry w law rest x.0 x.2 in
    let k : Leg = record { arc = l.arc; entered = t; arrived = x.0 } in
    (k ∷ y.0, y.1, ride (le_refl t) x.1 y.2, (refl, y.3), ap (λ (z : List ℕ). l.arc ∷ z) y.4, y.5)

pub waiting_never_helps : WaitingNeverHelps
unfolding Hurried
waiting_never_helps w law p q t a ls trip = hurry w law trip t (le_refl t)

eager_parts : {w : World} {o : Place} {t : ℕ} {p q : Place} {a b : ℕ} {ls : List Leg} → Eager w o t p a ls q b
    → Trip w p a ls q b × NeverWaits a ls × First w o t p a × First w o t q b
eager_parts (there f) = (stay, tt, f, f)
eager_parts (go {a = a} f e r rest) =
    let y = eager_parts rest in
    (ride (omega arith) r y.0, (e, y.1), f, y.3)

pub eager_is_trip : EagerIsTrip
eager_is_trip w o p q t a b ls x = eager_parts x
