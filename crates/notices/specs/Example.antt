-- A worked example: a walk of 300 seconds with lateness 60, shut from 100 until 200.
use Rattle.std.specs.Prelude.{◌≡◌, ℕ, ◌+◌, ◌≤◌, [], ◌∷◌, Some, Option}
use Rattle.notices.specs.declared.notice.Notice.{Notice}
use Rattle.notices.specs.Notices.{noticed}

abbrev pub late_and_shut : Notice
late_and_shut = record { service = 0; lateness = 60; shut = 100; until = 200 }

-- whatever the book, where its service 0 is a walk of 300 seconds
abbrev pub LateWalk : Type 0
LateWalk =
    (f : ℕ → ℕ → Option ℕ) →
    ((t : ℕ) → t ≤ 172500 → f 0 t ≡ Some (t + 300)) →
    (noticed (late_and_shut ∷ []) f 0 99 ≡ Some 459)
    × (noticed (late_and_shut ∷ []) f 0 100 ≡ Some 560)
    × (noticed (late_and_shut ∷ []) f 0 199 ≡ Some 560)
    × (noticed (late_and_shut ∷ []) f 0 200 ≡ Some 560)
