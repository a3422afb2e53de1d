-- Writing at a place of an output.
use Rattle.std.specs.Prelude.{◌≡◌, ℕ, ◌+◌, cond, List, length, Option, Some, None, nat_le}
use Rattle.std.proofs.Math.Seq.{paste}

-- a call that writes all of `bytes` at a place and answers the place after them; where there is no room it writes nothing and
-- answers none
pub record Puts (bytes : List ℕ) (at : ℕ) (before after : List ℕ) (r : Option ℕ) : Type 0 where
  pub place : r ≡ cond (nat_le (at + length bytes) (length before)) (Some (at + length bytes)) None
  pub output : after ≡ cond (nat_le (at + length bytes) (length before)) (paste before at bytes (length bytes)) before
