-- Numbers as they stand in a file.
use Rattle.std.specs.Prelude.{◌≡◌, [], ◌∷◌, Ok, Err}
use Rattle.model.specs.declared.refusal.Refusal.TheVariants.{BadNumber}
use Rattle.wire.specs.Numbers.{encode, decode}

-- 300 is the bytes ac 02, and 80 00 is no number, since its last group is 0
abbrev pub NumberExamples : Type 0
NumberExamples = (encode 300 ≡ 172 ∷ 2 ∷ []) × (decode (172 ∷ 2 ∷ []) ≡ Ok (300, 2)) × (decode (128 ∷ 0 ∷ []) ≡ Err BadNumber)
