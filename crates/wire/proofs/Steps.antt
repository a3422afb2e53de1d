-- What a call of a reader says of the file, and the turns of a loop that reads.
use Rattle.std.proofs.Common.{◌≡◌, Bool, true, false, cond, Option, Some, None, subst, ℕ, suc, ◌-◌, ◌^◌, ◌<◌, ◌≤◌, List, [], ◌∷◌, ◌++◌, Ok, Err, Result, sym, refl, ap, ◌∙◌, ap₂, append_assoc, append-nil, arith}
use Rattle.model.specs.declared.refusal.Refusal.{Refusal}
use Rattle.wire.specs.declared.fault.Fault.{Fault}
use Rattle.wire.specs.declared.reader.Reader.{Reader}
use Rattle.wire.specs.Places.{Step, value_of, place_after, number_at, wrong}
use Rattle.wire.specs.Readers.{file, Reads, Taken, Takes}
use Rattle.wire.specs.Grammar.{Format, LawfulFormat, and_then, ranged, many, counted}
use Rattle.wire.proofs.Laws.{number_lawful, ranged_lawful}

-- to say what a call read
pub reads_by_ok : {A : Type 0} (f : List ℕ → ℕ → Step A) (before after : Reader) (x : A) → f (file before) before.at ≡ Ok (x, after.at) → after.bytes ≡ before.bytes → Reads f before after (Ok x)
reads_by_ok f before after x e b = record { value = sym (ap value_of e); place = sym (ap (λ s. place_after s after.at) e); bytes = b }

pub reads_by_err : {A : Type 0} (f : List ℕ → ℕ → Step A) (before after : Reader) (x : Fault) → f (file before) before.at ≡ Err x → after.bytes ≡ before.bytes → Reads f before after (Err x)
reads_by_err f before after x e b = record { value = sym (ap value_of e); place = sym (ap (λ s. place_after s after.at) e); bytes = b }

-- to use what a call read
read_ok : {A : Type 0} (s : Step A) (x : A) (q : ℕ) → Ok x ≡ value_of s → q ≡ place_after s q → s ≡ Ok (x, q)
read_ok (Ok y) x q e p = let i : x ≡ y.0 = cc in ap₂ (λ a b. Ok (a, b)) (sym i) (sym p)
read_ok (Err k) x q e p = let z : ◌≡◌ {A = ℕ} 0 1 = cc in absurd (omega arith)

read_err : {A : Type 0} (s : Step A) (f : Fault) → Err f ≡ value_of s → s ≡ Err f
read_err (Ok y) f e = let z : ◌≡◌ {A = ℕ} 0 1 = cc in absurd (omega arith)
read_err {A} (Err k) f e = let i : f ≡ k = cc in ap {B = Step A} Err (sym i)

pub reads_ok : {A : Type 0} {f : List ℕ → ℕ → Step A} {before after : Reader} {r : Result A Fault} {x : A} → Reads f before after r → r ≡ Ok x → f (file before) before.at ≡ Ok (x, after.at)
reads_ok h e = read_ok _ _ _ (sym e ∙ h.value) h.place

pub reads_err : {A : Type 0} {f : List ℕ → ℕ → Step A} {before after : Reader} {r : Result A Fault} {x : Fault} → Reads f before after r → r ≡ Err x → f (file before) before.at ≡ Err x
reads_err h e = read_err _ _ (sym e ∙ h.value)

-- to say what a call read that takes a number by a test
taken_value : {A : Type 0} (t : Bool) (a v : A) (q : ℕ) (e : Step A) → Some a ≡ cond t (Some v) None → cond t (Ok (v, q)) e ≡ Ok (a, q)
taken_value true a v q e is = let i : a ≡ v = cc in ap (λ x. Ok (x, q)) (sym i)
taken_value false a v q e is = let z : ◌≡◌ {A = ℕ} 0 1 = cc in absurd (omega arith)

taken_none : {A : Type 0} (t : Bool) (v : A) (s e : Step A) → None ≡ cond t (Some v) None → cond t s e ≡ e
taken_none true v s e is = let z : ◌≡◌ {A = ℕ} 0 1 = cc in absurd (omega arith)
taken_none false v s e is = refl

pub takes_reads : {A : Type 0} {Made : ℕ → Option A → Type 0} {k : Refusal} {before after : Reader} {r : Result A Fault} (test : ℕ → Bool) (value : ℕ → A) → Takes Made k before after r →
    ((n : ℕ) (o : Option A) → n < 2 ^ 32 → Made n o → o ≡ cond (test n) (Some (value n)) None) →
    Reads (λ bs p. and_then (number_at bs p) (λ n q. cond (test n) (Ok (value n, q)) (Err (wrong k p)))) before after r
takes_reads {A} {Made} {k} {before} {after} {r} test value takes made = go (number_at (file before) before.at) refl r takes.answer takes.place
  where
    Whole : List ℕ → ℕ → Step A
    Whole bs p = and_then (number_at bs p) (λ n q. cond (test n) (Ok (value n, q)) (Err (wrong k p)))

    small : (n q : ℕ) → number_at (file before) before.at ≡ Ok (n, q) → n < 2 ^ 32
    small n q e = (number_lawful.held n (file before) before.at q e).fine

    go : (s : Step ℕ) → number_at (file before) before.at ≡ s → (r : Result A Fault) → Taken Made k before.at s r → after.at ≡ place_after s after.at → Reads Whole before after r
    go (Ok x) e (Ok a) h p =
        reads_by_ok Whole before after a
        (ap (λ s. and_then s (λ n q. cond (test n) (Ok (value n, q)) (Err (wrong k before.at)))) e
        ∙ taken_value (test x.0) a (value x.0) x.1 (Err (wrong k before.at)) (made x.0 (Some a) (small x.0 x.1 e) h) ∙ ap (λ q. Ok (a, q)) (sym p)) takes.bytes
    go (Ok x) e (Err f) h p =
        reads_by_err Whole before after f
        (ap (λ s. and_then s (λ n q. cond (test n) (Ok (value n, q)) (Err (wrong k before.at)))) e
        ∙ taken_none (test x.0) (value x.0) (Ok (value x.0, x.1)) (Err (wrong k before.at)) (made x.0 None (small x.0 x.1 e) h.0) ∙ ap (λ f. Err f) (sym h.1)) takes.bytes
    go (Err f) e r h p =
        subst (λ r. Reads Whole before after r) (sym h) (reads_by_err Whole before after f (ap (λ s. and_then s (λ n q. cond (test n) (Ok (value n, q)) (Err (wrong k before.at)))) e) takes.bytes)

-- a loop that reads n of a kind: what it has, before what it has yet to read
unfoldable pub prepend : {A : Type 0} → List A → Step (List A) → Step (List A)
prepend xs (Ok y) = Ok (xs ++ y.0, y.1)
prepend xs (Err f) = Err f

module _ {S A : Type 0} (F : S → Format A) (next : S → A → S) (bs : List ℕ) where
  prepend_none : (s : Step (List A)) → prepend [] s ≡ s
  unfolding prepend
  prepend_none (Ok y) = refl
  prepend_none (Err f) = refl

  pub many_start : (s : S) (n p : ℕ) → many F next s n bs p ≡ prepend [] (many F next s n bs p)
  many_start s n p = sym (prepend_none (many F next s n bs p))

  prepend_then : (xs : List A) (a : A) (t : Step (List A)) → prepend xs (and_then t (λ ys r. Ok (a ∷ ys, r))) ≡ prepend (xs ++ a ∷ []) t
  unfolding prepend
  prepend_then xs a (Ok y) = ap (λ l. Ok (l, y.1)) (sym (append_assoc xs (a ∷ []) y.0))
  prepend_then xs a (Err f) = refl

  pub many_turn : (s : S) (k p q : ℕ) (xs : List A) (a : A) → (F s).read bs p ≡ Ok (a, q) → prepend xs (many F next s (suc k) bs p) ≡ prepend (xs ++ a ∷ []) (many F next (next s a) k bs q)
  unfolding many
  many_turn s k p q xs a e =
      ap (λ t. prepend xs (and_then t (λ a q. and_then (many F next (next s a) k bs q) (λ xs r. Ok (a ∷ xs, r))))) e ∙ prepend_then xs a (many F next (next s a) k bs q)

  pub many_fault : (s : S) (k p : ℕ) (xs : List A) (f : Fault) → (F s).read bs p ≡ Err f → prepend xs (many F next s (suc k) bs p) ≡ Err f
  unfolding many prepend
  many_fault s k p xs f e = ap (λ t. prepend xs (and_then t (λ a q. and_then (many F next (next s a) k bs q) (λ xs r. Ok (a ∷ xs, r))))) e

  pub many_end : (s : S) (p : ℕ) (xs : List A) → prepend xs (many F next s 0 bs p) ≡ Ok (xs, p)
  unfolding many prepend
  many_end s p xs = ap (λ l. Ok (l, p)) (append-nil xs)

-- a loop that reads n of a kind: it began at the reader `start`, has read xs, and has k to read from the reader `now` on
pub record Reading {S A : Type 0} (F : S → Format A) (next : S → A → S) (start : Reader) (s₀ : S) (n : ℕ) (xs : List A) (s : S) (k : ℕ) (at : Reader) : Type 0 where
  pub kept : at.bytes ≡ start.bytes
  pub same : many F next s₀ n (file start) start.at ≡ prepend xs (many F next s k (file start) at.at)

-- as many as were left, in the same file
at_start : {A : Type 0} (f : List ℕ → ℕ → Step A) (start at : Reader) → at.bytes ≡ start.bytes → f (file at) at.at ≡ f (file start) at.at
at_start f start at e = ap (λ b. f b.now at.at) e

-- what was read is one of the values that a file can hold
pub fine_read : {A : Type 0} (F : Format A) {before after : Reader} {r : Result A Fault} {x : A} → LawfulFormat F → Reads F.read before after r → r ≡ Ok x → F.Fine x
fine_read F {x = x} law read is = (law.held x _ _ _ (reads_ok read is)).fine

-- a number that was read lies in its range
pub in_range : (lo hi : ℕ) (k : Refusal) {before after : Reader} {r : Result ℕ Fault} {n : ℕ} → hi < 2 ^ 32 → Reads (ranged lo hi k).read before after r → r ≡ Ok n → (lo ≤ n) × (n ≤ hi)
in_range lo hi k top read is = fine_read (ranged lo hi k) (ranged_lawful lo hi k top) read is

with_count : {S A : Type 0} (F : S → Format A) (next : S → A → S) (s₀ : S) (N : Format ℕ) {before start : Reader} {r₀ : Result ℕ Fault} {n : ℕ} →
    Reads N.read before start r₀ → r₀ ≡ Ok n → (q : Step (List A)) → many F next s₀ n (file start) start.at ≡ q → (counted N F next s₀).read (file before) before.at ≡ q
with_count F next s₀ N {before} {start} {n = n} count is₀ q e =
    ap (λ t. and_then t (λ n q. many F next s₀ n (file before) q)) (reads_ok count is₀) ∙ sym (ap (λ b. many F next s₀ n b.now start.at) count.bytes) ∙ e

module _ {S A : Type 0} {F : S → Format A} {next : S → A → S} {start : Reader} {s₀ : S} {n : ℕ} where
  pub reading_start : (k : ℕ) → k ≡ n → Reading F next start s₀ n [] s₀ k start
  reading_start k e = record { kept = refl; same = ap (λ j. many F next s₀ j (file start) start.at) (sym e) ∙ many_start F next (file start) s₀ k start.at }

  pub reading_turn : {xs : List A} {s : S} {k : ℕ} {at after : Reader} {r : Result A Fault} {x : A} (ys : List A) (j : ℕ) →
      Reading F next start s₀ n xs s k at → Reads (F s).read at after r → r ≡ Ok x → k ≡ suc j → ys ≡ xs ++ x ∷ [] → Reading F next start s₀ n ys (next s x) j after
  reading_turn {xs} {s} {k} {at} {after} {x = x} ys j h read is more all = record {
    kept = read.bytes ∙ h.kept;
    same = h.same ∙ ap (λ k. prepend xs (many F next s k (file start) at.at)) more
        ∙ many_turn F next (file start) s j at.at after.at xs x (sym (at_start (F s).read start at h.kept) ∙ reads_ok read is)
        ∙ ap (λ l. prepend l (many F next (next s x) j (file start) after.at)) (sym all);
  }

  -- with the count, which the reader `before` stood at
  module _ (N : Format ℕ) {before : Reader} {r₀ : Result ℕ Fault} (count : Reads N.read before start r₀) (is₀ : r₀ ≡ Ok n) where
    pub reading_fault : {xs : List A} {s : S} {k : ℕ} {at after : Reader} {r : Result A Fault} {f : Fault} →
        Reading F next start s₀ n xs s k at → 0 < k → Reads (F s).read at after r → r ≡ Err f → Reads (counted N F next s₀).read before after (Err f)
    reading_fault {xs} {s} {k} {at} {after} {f = f} h some read is =
        let one : k ≡ suc (k - 1) = omega arith in
        reads_by_err (counted N F next s₀).read before after f
        (with_count F next s₀ N count is₀ (Err f) (h.same ∙ ap (λ k. prepend xs (many F next s k (file start) at.at)) one
        ∙ many_fault F next (file start) s (k - 1) at.at xs f (sym (at_start (F s).read start at h.kept) ∙ reads_err read is)))
        (read.bytes ∙ h.kept ∙ count.bytes)

    pub reading_end : {xs : List A} {s : S} {k : ℕ} {at : Reader} (ys : List A) → Reading F next start s₀ n xs s k at → k ≡ 0 → xs ≡ ys → Reads (counted N F next s₀).read before at (Ok ys)
    reading_end {xs} {s} {k} {at} ys h none all =
        reads_by_ok (counted N F next s₀).read before at ys
        (with_count F next s₀ N count is₀ (Ok (ys, at.at))
        (h.same ∙ ap (λ k. prepend xs (many F next s k (file start) at.at)) none ∙ many_end F next (file start) s at.at xs ∙ ap (λ l. Ok (l, at.at)) all))
        (h.kept ∙ count.bytes)
