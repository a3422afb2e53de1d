-- A file ends early at a place past its end.
use Rattle.std.proofs.Common.{◌≡◌, ℕ, ◌≤◌, List, [], length, Err, refl, ap, ◌∙◌, drop_of_length-le}
use Rattle.model.specs.declared.refusal.Refusal.TheVariants.{FileEndsEarly}
use Rattle.wire.specs.Numbers.{decode, groups, limited}
use Rattle.wire.specs.Places.{Step, number_at, placed, wrong}

nothing_decoded : (p : ℕ) → placed p (decode []) ≡ Err (wrong FileEndsEarly p)
unfolding decode groups limited
nothing_decoded p = refl

pub past_end : (bs : List ℕ) (p : ℕ) → length bs ≤ p → ◌≡◌ {A = Step ℕ} (number_at bs p) (Err (wrong FileEndsEarly p))
unfolding number_at
past_end bs p h = ap (λ xs. placed p (decode xs)) (drop_of_length-le bs h) ∙ nothing_decoded p
