-- Reading at a place of a file.
use Rattle.std.specs.Prelude.{ℕ, ◌+◌, List, drop, Ok, Err, Result}
use Rattle.model.specs.declared.refusal.Refusal.{Refusal}
use Rattle.wire.specs.declared.fault.Fault.{Fault}
use Rattle.wire.specs.Numbers.{Decoded, decode}

abbrev pub wrong : Refusal → ℕ → Fault
wrong k p = record { refusal = k; at = p }

-- what is read at a place: a value, with the place after it, or a fault
abbrev pub Step : Type 0 → Type 0
Step A = Result (A × ℕ) Fault

abbrev pub value_of : {A : Type 0} → Step A → Result A Fault
value_of (Ok x) = Ok x.0
value_of (Err f) = Err f

-- the place after what was read; p where there was a fault
abbrev pub place_after : {A : Type 0} → Step A → ℕ → ℕ
place_after (Ok x) p = x.1
place_after (Err f) p = p

abbrev pub placed : ℕ → Decoded → Step ℕ
placed p (Ok x) = Ok (x.0, p + x.1)
placed p (Err k) = Err (wrong k p)

-- the number at a place
unfoldable pub number_at : List ℕ → ℕ → Step ℕ
number_at bs p = placed p (decode (drop p bs))
