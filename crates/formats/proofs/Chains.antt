-- One call of a reader after another.
use Rattle.std.proofs.Common.{◌≡◌, ℕ, List, Ok, Err, Result, sym, refl, ap, ◌∙◌}
use Rattle.wire.specs.declared.fault.Fault.{Fault}
use Rattle.wire.specs.declared.reader.Reader.{Reader}
use Rattle.wire.specs.Grammar.{Format, and_then, both, mapped}
use Rattle.wire.specs.Places.{Step}
use Rattle.wire.specs.Readers.{file, Reads}
use Rattle.wire.proofs.Steps.{reads_ok, reads_err, reads_by_ok, reads_by_err}

-- what a reader reads next stands in the same file
pub same_file : {A : Type 0} (f : List ℕ → ℕ → Step A) (before after : Reader) → after.bytes ≡ before.bytes → f (file before) after.at ≡ f (file after) after.at
same_file f before after e = ap (λ b. f b.now after.at) (sym e)

pub reads_both_first : {A B : Type 0} (F : Format A) (G : A → Format B) {before after : Reader} {r : Result A Fault} {x : Fault} → Reads F.read before after r → r ≡ Err x → Reads (both F G).read before after (Err x)
reads_both_first F G {before} h is = reads_by_err (both F G).read _ _ _ (ap (λ s. and_then s (λ a q. and_then ((G a).read (file before) q) (λ b r. Ok ((a, b), r)))) (reads_err h is)) h.bytes

module _ {A B : Type 0} (F : Format A) (G : A → Format B) {before middle after : Reader} {r₁ : Result A Fault} {r₂ : Result B Fault} where
  pub reads_both_second : {a : A} {x : Fault} → Reads F.read before middle r₁ → r₁ ≡ Ok a → Reads (G a).read middle after r₂ → r₂ ≡ Err x → Reads (both F G).read before after (Err x)
  reads_both_second {a} h is k was =
      reads_by_err (both F G).read _ _ _
      (ap (λ s. and_then s (λ a q. and_then ((G a).read (file before) q) (λ b r. Ok ((a, b), r)))) (reads_ok h is)
      ∙ ap (λ s. and_then s (λ b r. Ok ((a, b), r))) (same_file (G a).read before middle h.bytes ∙ reads_err k was))
      (k.bytes ∙ h.bytes)

  pub reads_both : {a : A} {b : B} → Reads F.read before middle r₁ → r₁ ≡ Ok a → Reads (G a).read middle after r₂ → r₂ ≡ Ok b → Reads (both F G).read before after (Ok (a, b))
  reads_both {a} h is k was =
      reads_by_ok (both F G).read _ _ _
      (ap (λ s. and_then s (λ a q. and_then ((G a).read (file before) q) (λ b r. Ok ((a, b), r)))) (reads_ok h is)
      ∙ ap (λ s. and_then s (λ b r. Ok ((a, b), r))) (same_file (G a).read before middle h.bytes ∙ reads_ok k was))
      (k.bytes ∙ h.bytes)

module _ {A B : Type 0} (to : A → B) (from : B → A) (Fine : B → Type 0) (F : Format A) {before after : Reader} where
  pub reads_mapped : {a : A} → Reads F.read before after (Ok a) → Reads (mapped to from Fine F).read before after (Ok (to a))
  reads_mapped h = reads_by_ok (mapped to from Fine F).read _ _ _ (ap (λ s. and_then s (λ a q. Ok (to a, q))) (reads_ok h refl)) h.bytes

  pub reads_mapped_fault : {x : Fault} → Reads F.read before after (Err x) → Reads (mapped to from Fine F).read before after (Err x)
  reads_mapped_fault h = reads_by_err (mapped to from Fine F).read _ _ _ (ap (λ s. and_then s (λ a q. Ok (to a, q))) (reads_err h refl)) h.bytes
