-- What a service book means, and the laws that every book keeps.
-- A book's meaning is its count of services and its answers: for a service and a second of coming, the second of arrival or none.
use Rattle.std.specs.Prelude.{◌≡◌, ℕ, ◌^◌, ◌<◌, ◌≤◌, Some, None, Option}
use Rattle.model.specs.Clock.{horizon}

-- one answer is no later than another, where none is later than every second
abbrev pub NoLater : Option ℕ → Option ℕ → Type 0
NoLater None None = Unit {0}
NoLater None (Some b) = ⊥
NoLater (Some a) None = Unit {0}
NoLater (Some a) (Some b) = a ≤ b

-- an answer, if there is one, lies from one second to another
abbrev pub Within : ℕ → ℕ → Option ℕ → Type 0
Within low high None = Unit {0}
Within low high (Some a) = (low ≤ a) × (a ≤ high)

-- the laws of one service's answers, by the second of coming: none after the horizon; no arrival before the coming or after the
-- horizon; and first in, first out: where coming later gives an arrival, coming earlier gives one that is no later
pub record Fair (answer : ℕ → Option ℕ) : Type 0 where
  pub late : (t : ℕ) → horizon < t → answer t ≡ None
  pub forward : (t : ℕ) → Within t horizon (answer t)
  pub fifo : (t u : ℕ) → t ≤ u → NoLater (answer t) (answer u)

-- the laws of a book of so many services, with its answers by service and second of coming
pub record LawfulBook (count : ℕ) (answer : ℕ → ℕ → Option ℕ) : Type 0 where
  pub counted : count < 2 ^ 32
  pub beyond : (s t : ℕ) → count ≤ s → answer s t ≡ None
  pub fair : (s : ℕ) → Fair (answer s)
