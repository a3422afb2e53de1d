-- What the tests leave to rely on.
use Rattle.std.proofs.Common.{◌≡◌, ℕ, ◌≤◌, Bool, true, false, cond, ltb, leb, Some, None, Option, sym, refl}
use Rattle.std.proofs.lemmas.Option.{none-some}
use Rattle.std.proofs.lemmas.Bool.{ltb-false}
use Rattle.model.specs.declared.enquiry.Enquiry.{Enquiry}
use Rattle.model.specs.declared.refusal.Refusal.{Refusal}
use Rattle.model.specs.Clock.{horizon}
use Rattle.model.specs.Trips.{World}
use Rattle.model.specs.Asking.{most_states, any_unserved, rows_needed, refusal_of}

-- a test that is passed, and what follows it
passed : (b : Bool) (f : Refusal) (x : Option Refusal) → cond b (Some f) x ≡ None → (b ≡ false) × (x ≡ None)
passed true f x e = absurd (none-some f (sym e))
passed false f x e = (refl, e)

pub rows_enough : (stops count : ℕ) (w : World) (e : Enquiry) (rows slots : ℕ) → refusal_of stops count w e rows slots ≡ None → rows_needed stops w ≤ rows
rows_enough stops count w e rows slots h =
    let a = passed (leb stops e.start) _ _ h in
    let b = passed (leb stops e.target) _ _ a.1 in
    let c = passed (ltb horizon e.second) _ _ b.1 in
    let d = passed (ltb most_states w.states) _ _ c.1 in
    let f = passed (any_unserved count w.arcs) _ _ d.1 in
    let g = passed (ltb rows (rows_needed stops w)) _ _ f.1 in
    ltb-false rows (rows_needed stops w) g.0
