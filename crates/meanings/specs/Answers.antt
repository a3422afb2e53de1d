-- Answers of service books, and the answers of two books as one.
use Rattle.std.specs.Prelude.{ℕ, ◌+◌, ◌-◌, min, cond, Some, None, Option, nat_le, nat_lt}
use Rattle.model.specs.Clock.{horizon}

-- an arrival counts only up to the horizon
abbrev pub timely : ℕ → Option ℕ
timely a = cond (nat_le a horizon) (Some a) None

-- an answer, for a service below the count; none for any other
abbrev pub listed : ℕ → ℕ → Option ℕ → Option ℕ
listed count s o = cond (nat_lt s count) o None

-- the most services that a number of 32 bits counts
abbrev pub most : ℕ
most = 4294967295

-- the count of two books as one stops at the most
abbrev pub joined_count : ℕ → ℕ → ℕ
joined_count m n = min (m + n) most

-- two books as one, of m and n services: the services of the first, then those of the second
abbrev pub joined : ℕ → (ℕ → ℕ → Option ℕ) → ℕ → (ℕ → ℕ → Option ℕ) → ℕ → ℕ → Option ℕ
joined m f n g s t = listed (joined_count m n) s (cond (nat_lt s m) (f s t) (g (s - m) t))
