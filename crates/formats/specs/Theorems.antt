-- What holds of all files of a format: both ways round, wherever in some bytes the file stands.
use Rattle.std.specs.Prelude.{◌≡◌, ℕ, ◌+◌, ◌-◌, List, ◌++◌, length, take, drop, Ok}
use Rattle.wire.specs.Grammar.{Format}

-- what is written reads back the same, whatever stands before and after it
abbrev pub ReadsBack : {A : Type 0} → Format A → Type 0
ReadsBack {A} F = (a : A) (front rest : List ℕ) → F.Fine a → F.read (front ++ (F.write a ++ rest)) (length front) ≡ Ok (a, length front + length (F.write a))

-- a file that is accepted, from one place to another, holds what can be written, and writes back to the same bytes
abbrev pub WritesBack : {A : Type 0} → Format A → Type 0
WritesBack {A} F = (a : A) (bs : List ℕ) (from to : ℕ) → F.read bs from ≡ Ok (a, to) → F.Fine a × (F.write a ≡ take (to - from) (drop from bs))
