-- What comes of a call that is shown a mark.
use Rattle.std.specs.Prelude.{◌≡◌, ℕ, ◌≢◌, Ok, Err, Result}
use Rattle.model.specs.declared.refusal.Refusal.{Refusal}
use Rattle.model.specs.declared.refusal.Refusal.TheVariants.{NoSuchBulletin}
use Rattle.scripts.specs.declared.step.Change.{Change}
use Rattle.clerk.specs.declared.Clerk.{Clerk}
use Rattle.scripts.specs.declared.step.Change.TheVariants.{Open, Put, Lift, Issue, TearUp}

-- a call keeps the mark and the number of services
pub record Kept (old new : Clerk) : Type 0 where
  pub mark : new.mark ≡ old.mark
  pub services : new.services ≡ old.services

-- another mark is refused as no such bulletin, but for an opening, which is shown none
abbrev pub Knows : {E : Type 0} → Change → ℕ → ℕ → Result (Result (Unit {0}) Refusal) E → Type 0
Knows Open mark shown r = Unit {0}
Knows (Put notice) mark shown r = shown ≢ mark → r ≡ Ok (Err NoSuchBulletin)
Knows (Lift service) mark shown r = shown ≢ mark → r ≡ Ok (Err NoSuchBulletin)
Knows Issue mark shown r = shown ≢ mark → r ≡ Ok (Err NoSuchBulletin)
Knows TearUp mark shown r = shown ≢ mark → r ≡ Ok (Err NoSuchBulletin)
