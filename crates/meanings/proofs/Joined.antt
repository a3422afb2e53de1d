-- What two books as one answer, by the part that is asked.
use Rattle.std.proofs.Common.{◌≡◌, ℕ, ◌+◌, ◌-◌, ◌<◌, ◌≤◌, Option, sym, ⊎_elim, arith}
use Rattle.std.proofs.lemmas.Bool.{lt-ltb, le-ltb, cases_lt}
use Rattle.model.specs.Books.{LawfulBook}
use Rattle.meanings.specs.Answers.{joined, joined_count, most}

module _ {m n : ℕ} {f g : ℕ → ℕ → Option ℕ} (p : LawfulBook m f) (q : LawfulBook n g) where
  pub joined_first : (s t : ℕ) → s < m → joined m f n g s t ≡ f s t
  joined_first s t h =
      let c = p.counted in
      let k : s < joined_count m n = omega arith in
      rw (lt-ltb s (joined_count m n) k, lt-ltb s m h)

  pub joined_second : (s t : ℕ) → m + s < most → joined m f n g (m + s) t ≡ g s t
  joined_second s t h =
      let e : (m + s) - m ≡ s = omega arith in
      let l : m ≤ m + s = omega arith in
      ⊎_elim
      (λ k.
      let i : m + s < joined_count m n = omega arith in
      rw (lt-ltb (m + s) (joined_count m n) i, le-ltb (m + s) m l, e))
      (λ k.
      let i : joined_count m n ≤ m + s = omega arith in
      rw (le-ltb (m + s) (joined_count m n) i) (sym (q.beyond s t k)))
      (cases_lt s n)
