-- Lists of calls one after the other.
use Rattle.std.proofs.Common.{◌≡◌, ℕ, List, [], ◌∷◌, ◌++◌, Option, refl, ap, ◌∙◌}
use Rattle.model.specs.declared.refusal.Refusal.{Refusal}
use Rattle.notices.specs.Notices.{unless}
use Rattle.ledger.specs.Ledgers.{Call, Ledger, doing, after, going, fresh, ledger}
use Rattle.ledger.specs.Sound.{IdleCalls}

pub going_append : (mark count : ℕ) (g : Ledger) (h k : List Call) → going mark count g (h ++ k) ≡ going mark count (going mark count g h) k
going_append mark count g [] k = refl
going_append mark count g (c ∷ cs) k = going_append mark count (after mark count g c) cs k

pub idle_calls : IdleCalls
idle_calls mark count h =
    let g = ledger mark count h in
    (λ c why e. going_append mark count fresh h (c ∷ []) ∙ ap (λ (o : Option Refusal). unless o (doing g c) g) e, λ q. going_append mark count fresh h _)
