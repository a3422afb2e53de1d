-- Numbers in a file, as lists of bytes.
use Rattle.std.specs.Prelude.{ℕ, zero, suc, ◌+◌, ◌-◌, ◌*◌, ◌/◌, ◌%◌, ◌^◌, cond, List, [], ◌∷◌, Ok, Err, Result, ◌==◌, nat_lt}
use Rattle.model.specs.declared.refusal.Refusal.{Refusal}
use Rattle.model.specs.declared.refusal.Refusal.TheVariants.{FileEndsEarly, BadNumber}

-- n in at most f groups of seven bits, lowest first
unfoldable pub groups_of : ℕ → ℕ → List ℕ
groups_of zero n = []
groups_of (suc f) n = cond (nat_lt n 128) (n ∷ []) ((128 + n % 128) ∷ groups_of f (n / 128))

-- the bytes of a number below 2 ^ 35
unfoldable pub encode : ℕ → List ℕ
encode n = groups_of 5 n

abbrev pub Decoded : Type 0
Decoded = Result (ℕ × ℕ) Refusal

-- a group with a mark, before the groups of a number of which the value and the count are known: a number above the
-- first group is not 0, or its form were not the shortest
unfoldable pub longer : ℕ → Decoded → Decoded
longer b (Ok x) = cond (x.0 == 0) (Err BadNumber) (Ok ((b - 128) + 128 * x.0, suc x.1))
longer b (Err k) = Err k

-- the number at the front of a list in at most f groups, with the count of its bytes; a list of numbers that are not all bytes
-- has none
unfoldable pub groups : ℕ → List ℕ → Decoded
groups zero bs = Err BadNumber
groups (suc f) [] = Err FileEndsEarly
groups (suc f) (b ∷ bs) = cond (nat_lt b 128) (Ok (b, 1)) (cond (nat_lt b 256) (longer b (groups f bs)) (Err BadNumber))

unfoldable pub limited : ℕ → Decoded → Decoded
limited m (Ok x) = cond (nat_lt x.0 m) (Ok x) (Err BadNumber)
limited m (Err k) = Err k

unfoldable pub decode : List ℕ → Decoded
decode bs = limited (2 ^ 32) (groups 5 bs)
