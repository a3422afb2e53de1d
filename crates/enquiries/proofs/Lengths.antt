-- An enquiry takes bytes.
use Rattle.std.proofs.Common.{◌≡◌, ℕ, suc, ◌<◌, List, ◌++◌, length, Ok, inl, inr, ap, refl, arith, length-append}
use Rattle.std.proofs.lemmas.Bool.{cases_lt}
use Rattle.model.specs.declared.enquiry.Enquiry.{Enquiry}
use Rattle.wire.specs.Numbers.{encode, groups_of}
use Rattle.wire.specs.Grammar.{Format, LawfulFormat, number, both}
use Rattle.wire.proofs.Codec.{groups_of_low, groups_of_high}
use Rattle.wire.proofs.Laws.{number_lawful, both_lawful, mapped_lawful}
use Rattle.enquiries.specs.Enquiries.{Small, enquiry}

some_groups : (f n : ℕ) → 0 < length (groups_of (suc f) n)
some_groups f n = elim (cases_lt n 128) [
  | inl low ↦ omega (arith, ap length (groups_of_low f n low))
  | inr high ↦ omega (arith, ap length (groups_of_high f n high))
]

some_bytes : (n : ℕ) → 0 < length (encode n)
unfolding encode
some_bytes n = some_groups 4 n

made : ℕ × (ℕ × ℕ) → Enquiry
made x = record { start = x.0; target = x.1.0; second = x.1.1 }

parts : Enquiry → ℕ × (ℕ × ℕ)
parts e = (e.start, (e.target, e.second))

numbers : Format (ℕ × (ℕ × ℕ))
numbers = both number (λ _. both number (λ _. number))

numbers_lawful : LawfulFormat numbers
unfolding numbers
numbers_lawful = both_lawful number (λ _. both number (λ _. number)) number_lawful (λ _ _. both_lawful number (λ _. number) number_lawful (λ _ _. number_lawful))

-- what is written reads back, and what is read stands there as it is written
pub enquiry_lawful : LawfulFormat enquiry
unfolding numbers made parts
enquiry_lawful = mapped_lawful made parts (λ e. Small e.start × Small e.target × Small e.second) numbers
    (λ a fine. ((fine.0, fine.1.0, fine.1.1), refl)) (λ b fine. ((fine.0, (fine.1, fine.2)), refl)) numbers_lawful

pub reads_on : (bs : List ℕ) (p q : ℕ) (e : Enquiry) → enquiry.read bs p ≡ Ok (e, q) → p < q
reads_on bs p q e read =
    let long = (enquiry_lawful.held e bs p q read).long in
    omega (arith, long, length-append (encode e.start) (encode e.target ++ encode e.second), some_bytes e.start)
