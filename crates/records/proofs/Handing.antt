-- What a record that is handed out leaves.
use Rattle.std.proofs.Common.{◌≡◌, ℕ, suc, ◌-◌, ◌<◌, List, [], Ok, Err, Result, sym, ap, ◌∙◌, arith}
use Rattle.wire.specs.declared.fault.Fault.{Fault}
use Rattle.wire.specs.declared.reader.Reader.{Reader}
use Rattle.wire.specs.Grammar.{Format}
use Rattle.wire.specs.Places.{Step}
use Rattle.wire.specs.Readers.{file, Reads}
use Rattle.wire.proofs.Steps.{reads_ok, reads_err}
use Rattle.records.specs.declared.records.Records.{Records}
use Rattle.records.specs.declared.records.Section.{Section}
use Rattle.records.specs.Stream.{Rec, Told, before, told_by, streamed, listed}
use Rattle.records.specs.Records.{rest_of, rest}

-- a step of a reader, in what it tells
pub told_ok : {A : Type 0} {f : List ℕ → ℕ → Step A} {at after : Reader} {r : Result A Fault} {a : A} (g : List ℕ → A → ℕ → Told) → Reads f at after r → r ≡ Ok a →
    told_by (f (file at) at.at) (g (file at)) ≡ g (file after) a after.at
told_ok {at = at} {after} {a = a} g h e = ap (λ s. told_by s (g (file at))) (reads_ok h e) ∙ ap (λ b. g b.now a after.at) (sym h.bytes)

pub told_err : {A : Type 0} {f : List ℕ → ℕ → Step A} {at after : Reader} {r : Result A Fault} {k : Fault} (g : List ℕ → A → ℕ → Told) → Reads f at after r → r ≡ Err k →
    told_by (f (file at) at.at) (g (file at)) ≡ ([], Err k)
told_err {at = at} g h e = ap (λ s. told_by s (g (file at))) (reads_err h e)

module _ {S A : Type 0} (F : S → Format A) (next : S → A → S) (wrap : A → Rec) (after : List ℕ → ℕ → Told) (s : S) where
  streamed_some : (n : ℕ) (bs : List ℕ) (p : ℕ) → 0 < n → streamed F next wrap after s n bs p ≡ told_by ((F s).read bs p) (λ a q. before (wrap a) (streamed F next wrap after (next s a) (n - 1) bs q))
  unfolding streamed
  streamed_some n bs p some = let one : n ≡ suc (n - 1) = omega arith in ap (λ k. streamed F next wrap after s k bs p) one

  pub streamed_none : (n : ℕ) (bs : List ℕ) (p : ℕ) → n ≡ 0 → streamed F next wrap after s n bs p ≡ after bs p
  unfolding streamed
  streamed_none n bs p none = ap (λ k. streamed F next wrap after s k bs p) none

  pub streamed_ok : {at at' : Reader} {r : Result A Fault} {a : A} (n : ℕ) → Reads (F s).read at at' r → r ≡ Ok a → 0 < n →
      streamed F next wrap after s n (file at) at.at ≡ before (wrap a) (streamed F next wrap after (next s a) (n - 1) (file at') at'.at)
  streamed_ok n h e some = streamed_some n _ _ some ∙ told_ok (λ bs a q. before (wrap a) (streamed F next wrap after (next s a) (n - 1) bs q)) h e

  pub streamed_err : {at at' : Reader} {r : Result A Fault} {k : Fault} (n : ℕ) → Reads (F s).read at at' r → r ≡ Err k → 0 < n →
      streamed F next wrap after s n (file at) at.at ≡ ([], Err k)
  streamed_err n h e some = streamed_some n _ _ some ∙ told_err (λ bs a q. before (wrap a) (streamed F next wrap after (next s a) (n - 1) bs q)) h e

module _ {S A : Type 0} (N : Format ℕ) (F : S → Format A) (next : S → A → S) (s : S) (wrap : ℕ → A → Rec) (after : List ℕ → ℕ → Told) (total : ℕ) where
  pub listed_none : (n : ℕ) (bs : List ℕ) (p : ℕ) → n ≡ 0 → listed N F next s wrap after total n bs p ≡ after bs p
  unfolding listed
  listed_none n bs p none = ap (λ k. listed N F next s wrap after total k bs p) none

  listed_some : (n : ℕ) (bs : List ℕ) (p : ℕ) → 0 < n → listed N F next s wrap after total n bs p ≡ told_by (N.read bs p) (λ k q. streamed F next (wrap (total - n)) (listed N F next s wrap after total (n - 1)) s k bs q)
  unfolding listed
  listed_some n bs p some =
      let one : n ≡ suc (n - 1) = omega arith in
      ap (λ k. listed N F next s wrap after total k bs p) one ∙ ap (λ m. told_by (N.read bs p) (λ k q. streamed F next (wrap (total - m)) (listed N F next s wrap after total (n - 1)) s k bs q)) (sym one)

  pub listed_ok : {at at' : Reader} {r : Result ℕ Fault} {k : ℕ} (n : ℕ) → Reads N.read at at' r → r ≡ Ok k → 0 < n →
      listed N F next s wrap after total n (file at) at.at ≡ streamed F next (wrap (total - n)) (listed N F next s wrap after total (n - 1)) s k (file at') at'.at
  listed_ok n h e some = listed_some n _ _ some ∙ told_ok (λ bs k q. streamed F next (wrap (total - n)) (listed N F next s wrap after total (n - 1)) s k bs q) h e

  pub listed_err : {at at' : Reader} {r : Result ℕ Fault} {k : Fault} (n : ℕ) → Reads N.read at at' r → r ≡ Err k → 0 < n →
      listed N F next s wrap after total n (file at) at.at ≡ ([], Err k)
  listed_err n h e some = listed_some n _ _ some ∙ told_err (λ bs k q. streamed F next (wrap (total - n)) (listed N F next s wrap after total (n - 1)) s k bs q) h e

-- the records left, by the section
pub at_section : (r : Records) {s : Section} → r.section ≡ s → rest r ≡ rest_of s r.stops r.walks r.timetables r.roads (file r.reader) r.reader.at
at_section r e = ap (λ s. rest_of s r.stops r.walks r.timetables r.roads (file r.reader) r.reader.at) e
