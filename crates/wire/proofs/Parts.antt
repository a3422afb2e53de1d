-- What a call read, put together from what its parts read.
use Rattle.std.proofs.Common.{◌≡◌, Bool, true, false, cond, Ok, Err, Result, sym, ap, ◌∙◌}
use Rattle.model.specs.declared.refusal.Refusal.{Refusal}
use Rattle.wire.specs.declared.fault.Fault.{Fault}
use Rattle.wire.specs.declared.reader.Reader.{Reader}
use Rattle.wire.specs.Places.{wrong}
use Rattle.wire.specs.Readers.{file, Reads}
use Rattle.wire.specs.Grammar.{Format, and_then, both, mapped, checked}
use Rattle.wire.proofs.Steps.{reads_ok, reads_err, reads_by_ok, reads_by_err}

-- one after the other
module _ {A B : Type 0} (F : Format A) (G : A → Format B) {at mid : Reader} {r : Result A Fault} (first : Reads F.read at mid r) where
  pub both_first_err : {f : Fault} → r ≡ Err f → Reads (both F G).read at mid (Err f)
  both_first_err {f} e = reads_by_err (both F G).read at mid f (ap (λ s. and_then s (λ a q. and_then ((G a).read (file at) q) (λ b r. Ok ((a, b), r)))) (reads_err first e)) first.bytes

  module _ {a : A} (is : r ≡ Ok a) {after : Reader} {r' : Result B Fault} (second : Reads (G a).read mid after r') where
    onward : (both F G).read (file at) at.at ≡ and_then ((G a).read (file mid) mid.at) (λ b r. Ok ((a, b), r))
    onward =
        ap (λ s. and_then s (λ a q. and_then ((G a).read (file at) q) (λ b r. Ok ((a, b), r)))) (reads_ok first is)
        ∙ ap (λ b. and_then ((G a).read b.now mid.at) (λ b r. Ok ((a, b), r))) (sym first.bytes)

    pub both_err : {f : Fault} → r' ≡ Err f → Reads (both F G).read at after (Err f)
    both_err {f} e = reads_by_err (both F G).read at after f (onward ∙ ap (λ s. and_then s (λ b r. Ok ((a, b), r))) (reads_err second e)) (second.bytes ∙ first.bytes)

    pub both_ok : {b : B} → r' ≡ Ok b → Reads (both F G).read at after (Ok (a, b))
    both_ok {b} e = reads_by_ok (both F G).read at after (a, b) (onward ∙ ap (λ s. and_then s (λ b r. Ok ((a, b), r))) (reads_ok second e)) (second.bytes ∙ first.bytes)

-- for another type of values
module _ {A B : Type 0} (to : A → B) (from : B → A) (Fine : B → Type 0) (F : Format A) {at after : Reader} {r : Result A Fault} (read : Reads F.read at after r) where
  pub mapped_err : {f : Fault} → r ≡ Err f → Reads (mapped to from Fine F).read at after (Err f)
  mapped_err {f} e = reads_by_err (mapped to from Fine F).read at after f (ap (λ s. and_then s (λ a q. Ok (to a, q))) (reads_err read e)) read.bytes

  pub mapped_ok : {a : A} → r ≡ Ok a → Reads (mapped to from Fine F).read at after (Ok (to a))
  mapped_ok {a} e = reads_by_ok (mapped to from Fine F).read at after (to a) (ap (λ s. and_then s (λ a q. Ok (to a, q))) (reads_ok read e)) read.bytes

-- with a test
module _ {A : Type 0} (test : A → Bool) (k : Refusal) (F : Format A) {at after : Reader} {r : Result A Fault} (read : Reads F.read at after r) where
  pub checked_err : {f : Fault} → r ≡ Err f → Reads (checked test k F).read at after (Err f)
  checked_err {f} e = reads_by_err (checked test k F).read at after f (ap (λ s. and_then s (λ a q. cond (test a) (Ok (a, q)) (Err (wrong k at.at)))) (reads_err read e)) read.bytes

  tested : {a : A} (b : Bool) → r ≡ Ok a → test a ≡ b → (checked test k F).read (file at) at.at ≡ cond b (Ok (a, after.at)) (Err (wrong k at.at))
  tested {a} b e t = ap (λ s. and_then s (λ a q. cond (test a) (Ok (a, q)) (Err (wrong k at.at)))) (reads_ok read e) ∙ ap (λ b. cond b (Ok (a, after.at)) (Err (wrong k at.at))) t

  pub checked_bad : {a : A} → r ≡ Ok a → test a ≡ false → Reads (checked test k F).read at after (Err (wrong k at.at))
  checked_bad {a} e t = reads_by_err (checked test k F).read at after (wrong k at.at) (tested false e t) read.bytes

  pub checked_ok : {a : A} → r ≡ Ok a → test a ≡ true → Reads (checked test k F).read at after (Ok a)
  checked_ok {a} e t = reads_by_ok (checked test k F).read at after a (tested true e t) read.bytes
