-- Formats: what bytes mean, and how a meaning is written. A grammar is put together from them once, and both ways come with it.
use Rattle.std.specs.Prelude.{◌≡◌, ℕ, zero, suc, ◌+◌, ◌-◌, ◌^◌, ◌<◌, ◌≤◌, Bool, true, cond, ◌&&◌, List, [], ◌∷◌, ◌++◌, length, take, drop, Ok, Err, ◌==◌, nat_le, nat_lt}
use Rattle.model.specs.declared.refusal.Refusal.{Refusal}
use Rattle.model.specs.declared.refusal.Refusal.TheVariants.{FileEndsEarly}
use Rattle.wire.specs.Numbers.{encode}
use Rattle.wire.specs.Places.{Step, number_at, wrong}

-- what is read at a place of a file, how it is written, and which values a file can hold
pub record Format (A : Type 0) : Type 1 where
  pub read : List ℕ → ℕ → Step A
  pub write : A → List ℕ
  pub Fine : A → Type 0

-- what is read from p on, up to q, is a value as it is written
pub record Held {A : Type 0} (F : Format A) (bs : List ℕ) (p : ℕ) (a : A) (q : ℕ) : Type 0 where
  pub fine : F.Fine a
  pub front : drop p bs ≡ F.write a ++ drop q bs
  pub long : q ≡ p + length (F.write a)

-- the two laws of a format: what is written reads back the same, whatever comes after it; and what is read stands there as it is
-- written
pub record LawfulFormat {A : Type 0} (F : Format A) : Type 0 where
  pub back : (a : A) (bs rest : List ℕ) (p : ℕ) → F.Fine a → drop p bs ≡ F.write a ++ rest → F.read bs p ≡ Ok (a, p + length (F.write a))
  pub held : (a : A) (bs : List ℕ) (p q : ℕ) → F.read bs p ≡ Ok (a, q) → Held F bs p a q

-- go on with what was read
abbrev pub and_then : {A B : Type 0} → Step A → (A → ℕ → Step B) → Step B
and_then (Ok x) f = f x.0 x.1
and_then (Err e) f = Err e

-- a number of any size
abbrev pub number : Format ℕ
number = record { read = number_at; write = encode; Fine = λ n. n < 2 ^ 32 }

-- a number from lo to hi: any other is the fault k
abbrev pub ranged : ℕ → ℕ → Refusal → Format ℕ
ranged lo hi k = record {
  read = λ bs p. and_then (number_at bs p) (λ n q. cond (nat_le lo n && nat_le n hi) (Ok (n, q)) (Err (wrong k p)));
  write = encode;
  Fine = λ n. (lo ≤ n) × (n ≤ hi);
}

-- a number below a bound: any other is the fault k
abbrev pub below : ℕ → Refusal → Format ℕ
below bound k = record {
  read = λ bs p. and_then (number_at bs p) (λ n q. cond (nat_lt n bound) (Ok (n, q)) (Err (wrong k p)));
  write = encode;
  Fine = λ n. n < bound;
}

-- a number from lo to hi, given by its distance from a base: any other is the fault k
abbrev pub since : ℕ → ℕ → ℕ → Refusal → Format ℕ
since base lo hi k = record {
  read = λ bs p. and_then (number_at bs p) (λ n q. cond (nat_le lo (base + n) && nat_le (base + n) hi) (Ok (base + n, q)) (Err (wrong k p)));
  write = λ m. encode (m - base);
  Fine = λ m. (base ≤ m) × (lo ≤ m) × (m ≤ hi);
}

-- the number n itself; any other is the fault k
abbrev pub exactly : ℕ → Refusal → Format (Unit {0})
exactly n k = record {
  read = λ bs p. and_then (number_at bs p) (λ m q. cond (m == n) (Ok (tt, q)) (Err (wrong k p)));
  write = λ _. encode n;
  Fine = λ _. Unit {0};
}

-- a length, then that many bytes; where the file ends within them, the fault is at the first of them
abbrev pub text : Format ℕ → Format (List ℕ)
text N = record {
  read = λ bs p. and_then (N.read bs p) (λ n q. cond (nat_le n (length bs - q)) (Ok (take n (drop q bs), q + n)) (Err (wrong FileEndsEarly q)));
  write = λ s. N.write (length s) ++ s;
  Fine = λ s. N.Fine (length s);
}

-- a value that passes a test: any other is the fault k at its first byte
abbrev pub checked : {A : Type 0} → (A → Bool) → Refusal → Format A → Format A
checked test k F = record {
  read = λ bs p. and_then (F.read bs p) (λ a q. cond (test a) (Ok (a, q)) (Err (wrong k p)));
  write = F.write;
  Fine = λ a. F.Fine a × (test a ≡ true);
}

-- one after the other; how the second reads may depend on the first
abbrev pub both : {A B : Type 0} → Format A → (A → Format B) → Format (A × B)
both F G = record {
  read = λ bs p. and_then (F.read bs p) (λ a q. and_then ((G a).read bs q) (λ b r. Ok ((a, b), r)));
  write = λ x. F.write x.0 ++ (G x.0).write x.1;
  Fine = λ x. F.Fine x.0 × (G x.0).Fine x.1;
}

-- the same bytes, for another type of values
abbrev pub mapped : {A B : Type 0} → (A → B) → (B → A) → (B → Type 0) → Format A → Format B
mapped to from Fine F = record {
  read = λ bs p. and_then (F.read bs p) (λ a q. Ok (to a, q));
  write = λ b. F.write (from b);
  Fine = Fine;
}

-- n of them, one after the other; `s` is what the earlier ones say of the next, as the last departure
unfoldable pub many : {S A : Type 0} → (S → Format A) → (S → A → S) → S → ℕ → List ℕ → ℕ → Step (List A)
many F next s zero bs p = Ok ([], p)
many F next s (suc n) bs p = and_then ((F s).read bs p) (λ a q. and_then (many F next (next s a) n bs q) (λ xs r. Ok (a ∷ xs, r)))

unfoldable pub write_all : {S A : Type 0} → (S → Format A) → (S → A → S) → S → List A → List ℕ
write_all F next s [] = []
write_all F next s (a ∷ xs) = (F s).write a ++ write_all F next (next s a) xs

unfoldable pub FineAll : {S A : Type 0} → (S → Format A) → (S → A → S) → S → List A → Type 0
FineAll F next s [] = Unit {0}
FineAll F next s (a ∷ xs) = (F s).Fine a × FineAll F next (next s a) xs

-- n of them, with no count before them: the number is known from what came before
abbrev pub repeated : {S A : Type 0} → ℕ → (S → Format A) → (S → A → S) → S → Format (List A)
repeated n F next s = record {
  read = many F next s n;
  write = write_all F next s;
  Fine = λ xs. (length xs ≡ n) × FineAll F next s xs;
}

-- a count, then that many
abbrev pub counted : {S A : Type 0} → Format ℕ → (S → Format A) → (S → A → S) → S → Format (List A)
counted N F next s = record {
  read = λ bs p. and_then (N.read bs p) (λ n q. many F next s n bs q);
  write = λ xs. N.write (length xs) ++ write_all F next s xs;
  Fine = λ xs. N.Fine (length xs) × FineAll F next s xs;
}

-- a count, then that many of one kind
abbrev pub plain : {A : Type 0} → Format ℕ → Format A → Format (List A)
plain N F = counted {S = Unit {0}} N (λ _. F) (λ _ _. tt) tt
