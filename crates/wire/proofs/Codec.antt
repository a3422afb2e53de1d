-- The two round trips of a number.
use Rattle.std.proofs.Common.{◌≡◌, ℕ, zero, suc, ◌+◌, ◌-◌, ◌*◌, ◌/◌, ◌%◌, ◌^◌, ◌<◌, ◌≤◌, Bool, true, false, cond, eqb, ltb, List, [], ◌∷◌, ◌++◌, length, take, drop, Ok, Err, sym, refl, ap, ◌∙◌, subst, ap₂, arith, take_at}
use Rattle.std.proofs.lemmas.Bool.{lt-ltb, le-ltb, ne_eqb, ltb-true, ltb-false, eqb-false}
use Rattle.model.specs.declared.refusal.Refusal.{Refusal}
use Rattle.model.specs.declared.refusal.Refusal.TheVariants.{FileEndsEarly, BadNumber}
use Rattle.wire.specs.Numbers.{groups_of, encode, Decoded, longer, groups, limited, decode}

-- the definitions, a way at a time

pub groups_of_low : (f n : ℕ) → n < 128 → groups_of (suc f) n ≡ n ∷ []
unfolding groups_of
groups_of_low f n h = let t = lt-ltb n 128 h in simp t

pub groups_of_high : (f n : ℕ) → 128 ≤ n → groups_of (suc f) n ≡ (128 + n % 128) ∷ groups_of f (n / 128)
unfolding groups_of
groups_of_high f n h = ap (λ b. cond b (n ∷ []) ((128 + n % 128) ∷ groups_of f (n / 128))) (le-ltb n 128 h)

pub groups_low : (f b : ℕ) (bs : List ℕ) → b < 128 → groups (suc f) (b ∷ bs) ≡ Ok (b, 1)
unfolding groups
groups_low f b bs h = let t = lt-ltb b 128 h in simp t

pub groups_high : (f b : ℕ) (bs : List ℕ) → 128 ≤ b → b < 256 → groups (suc f) (b ∷ bs) ≡ longer b (groups f bs)
unfolding groups
groups_high f b bs h k = ap (λ t. cond t (Ok (b, 1)) (cond (ltb b 256) (longer b (groups f bs)) (Err BadNumber))) (le-ltb b 128 h) ∙ ap (λ t. cond t (longer b (groups f bs)) (Err BadNumber)) (lt-ltb b 256 k)

pub longer_more : (b v m : ℕ) → 0 < v → longer b (Ok (v, m)) ≡ Ok ((b - 128) + 128 * v, suc m)
unfolding longer
longer_more b v m h = let t = ne_eqb v 0 (omega arith) in simp t

-- what is written reads back, in f + 1 groups
reads_back : (f n : ℕ) (rest : List ℕ) → n < 128 ^ suc f → groups (suc f) (groups_of (suc f) n ++ rest) ≡ Ok (n, length (groups_of (suc f) n))
reads_back zero n rest h = rw (groups_of_low 0 n h) (groups_low 0 n rest h)
reads_back (suc f) n rest h = go (ltb n 128) refl (λ l. reads_back f (n / 128) rest l)
  where
    go : (b : Bool) → ltb n 128 ≡ b → (n / 128 < 128 ^ suc f → groups (suc f) (groups_of (suc f) (n / 128) ++ rest) ≡ Ok (n / 128, length (groups_of (suc f) (n / 128)))) →
        groups (suc (suc f)) (groups_of (suc (suc f)) n ++ rest) ≡ Ok (n, length (groups_of (suc (suc f)) n))
    go true e ih = rw (groups_of_low (suc f) n (ltb-true n 128 e)) (groups_low (suc f) n rest (ltb-true n 128 e))
    go false e ih =
        let big = ltb-false n 128 e in
        let whole : (128 + n % 128 - 128) + 128 * (n / 128) ≡ n = omega arith in
        rw (groups_of_high (suc f) n big)
        (groups_high (suc f) (128 + n % 128) (groups_of (suc f) (n / 128) ++ rest) (omega arith) (omega arith)
        ∙ ap (longer (128 + n % 128)) (ih (omega arith))
        ∙ longer_more (128 + n % 128) (n / 128) (length (groups_of (suc f) (n / 128))) (omega arith)
        ∙ ap (λ v. Ok (v, suc (length (groups_of (suc f) (n / 128))))) whole)

-- a list from which a number of at most f groups was read begins with the number as it is written
record Begins (f : ℕ) (bs : List ℕ) (n m : ℕ) : Type 0 where
  front : bs ≡ groups_of f n ++ drop m bs
  long : length (groups_of f n) ≡ m

same_value : (n m v k : ℕ) → ◌≡◌ {A = Decoded} (Ok (n, m)) (Ok (v, k)) → (n ≡ v) × (m ≡ k)
same_value n m v k e = (ap (λ (r : Decoded). elim r [ Ok x ↦ x.0 | Err _ ↦ 0 ]) e, ap (λ (r : Decoded). elim r [ Ok x ↦ x.1 | Err _ ↦ 0 ]) e)

not_read : {P : Type 0} (k : Refusal) (v l : ℕ) → ◌≡◌ {A = Decoded} (Err k) (Ok (v, l)) → P
not_read k v l e = let z : ◌≡◌ {A = ℕ} 0 1 = cc in absurd (omega arith)

begins_low : (f b : ℕ) (bs : List ℕ) (n m : ℕ) → b < 128 → b ≡ n → 1 ≡ m → Begins (suc f) (b ∷ bs) n m
begins_low f b bs n m h v l =
    let w = groups_of_low f b h in
    subst (λ k. Begins (suc f) (b ∷ bs) n k) l (subst (λ x. Begins (suc f) (b ∷ bs) x 1) v (record { front = ap (λ g. g ++ bs) (sym w); long = ap length w }))

begins_high : (f b : ℕ) (bs : List ℕ) (n m v k : ℕ) → 128 ≤ b → b < 256 → 0 < v → (b - 128) + 128 * v ≡ n → suc k ≡ m → Begins f bs v k → Begins (suc f) (b ∷ bs) n m
begins_high f b bs n m v k low high some is long h =
    let w : groups_of (suc f) n ≡ b ∷ groups_of f v = groups_of_high f n (omega arith) ∙ ap₂ (λ x y. x ∷ groups_of f y) (omega arith) (omega arith) in
    subst (λ j. Begins (suc f) (b ∷ bs) n j) long (record { front = ap (λ r. b ∷ r) h.front ∙ ap (λ g. g ++ drop k bs) (sym w); long = ap length w ∙ ap suc h.long })

-- the groups after a marked one, by what they are
begins_marked : (f b : ℕ) (bs : List ℕ) (n m : ℕ) → 128 ≤ b → b < 256 → ((v k : ℕ) → groups f bs ≡ Ok (v, k) → Begins f bs v k) →
    (r : Decoded) → groups f bs ≡ r → longer b r ≡ Ok (n, m) → Begins (suc f) (b ∷ bs) n m
unfolding longer
begins_marked f b bs n m low high ih (Err k) is e = not_read k n m e
begins_marked f b bs n m low high ih (Ok x) is e = go (eqb x.0 0) refl e
  where
    go : (t : Bool) → eqb x.0 0 ≡ t → cond {A = Decoded} t (Err BadNumber) (Ok ((b - 128) + 128 * x.0, suc x.1)) ≡ Ok (n, m) → Begins (suc f) (b ∷ bs) n m
    go true z e = not_read BadNumber n m e
    go false z e =
        let s = same_value ((b - 128) + 128 * x.0) (suc x.1) n m e in
        let some : 0 < x.0 = omega (arith, eqb-false x.0 0 z) in
        begins_high f b bs n m x.0 x.1 low high some s.0 s.1 (ih x.0 x.1 is)

begins_more : (f b : ℕ) (bs : List ℕ) (n m : ℕ) → ((v k : ℕ) → groups f bs ≡ Ok (v, k) → Begins f bs v k) →
    (t u : Bool) → ltb b 128 ≡ t → ltb b 256 ≡ u → cond t (Ok (b, 1)) (cond u (longer b (groups f bs)) (Err BadNumber)) ≡ Ok (n, m) → Begins (suc f) (b ∷ bs) n m
begins_more f b bs n m ih true u p q e = let s = same_value b 1 n m e in begins_low f b bs n m (ltb-true b 128 p) s.0 s.1
begins_more f b bs n m ih false true p q e = begins_marked f b bs n m (ltb-false b 128 p) (ltb-true b 256 q) ih (groups f bs) refl e
begins_more f b bs n m ih false false p q e = not_read BadNumber n m e

begins : (f : ℕ) (bs : List ℕ) (n m : ℕ) → groups f bs ≡ Ok (n, m) → Begins f bs n m
unfolding groups
begins zero bs n m e = not_read BadNumber n m e
begins (suc f) [] n m e = not_read FileEndsEarly n m e
begins (suc f) (b ∷ bs) n m e = begins_more f b bs n m (begins f bs) (ltb b 128) (ltb b 256) refl refl e

-- the round trips of a number

pub decode_encode : (n : ℕ) (rest : List ℕ) → n < 2 ^ 32 → decode (encode n ++ rest) ≡ Ok (n, length (encode n))
unfolding decode encode limited
decode_encode n rest h =
    let back = reads_back 4 n rest (omega arith) in
    let t = lt-ltb n (2 ^ 32) h in
    ap (limited (2 ^ 32)) back ∙ simp t

pub record Canonical (bs : List ℕ) (n m : ℕ) : Type 0 where
  pub front : bs ≡ encode n ++ drop m bs
  pub long : length (encode n) ≡ m
  pub small : n < 2 ^ 32

canonical_limited : (bs : List ℕ) (n m : ℕ) (r : Decoded) → groups 5 bs ≡ r → limited (2 ^ 32) r ≡ Ok (n, m) → Canonical bs n m
unfolding limited encode
canonical_limited bs n m (Err k) is e = not_read k n m e
canonical_limited bs n m (Ok x) is e = go (ltb x.0 (2 ^ 32)) refl e
  where
    go : (t : Bool) → ltb x.0 (2 ^ 32) ≡ t → cond {A = Decoded} t (Ok x) (Err BadNumber) ≡ Ok (n, m) → Canonical bs n m
    go true p e =
        let s = same_value x.0 x.1 n m e in
        let b : Begins 5 bs n m = begins 5 bs n m (is ∙ e) in
        record { front = b.front; long = b.long; small = omega (arith, ltb-true x.0 (2 ^ 32) p, s.0) }
    go false p e = not_read BadNumber n m e

pub canonical : (bs : List ℕ) (n m : ℕ) → decode bs ≡ Ok (n, m) → Canonical bs n m
unfolding decode
canonical bs n m e = canonical_limited bs n m (groups 5 bs) refl e

pub encode_decode : (bs : List ℕ) (n m : ℕ) → decode bs ≡ Ok (n, m) → take m bs ≡ encode n
encode_decode bs n m e = let c = canonical bs n m e in ap (take m) c.front ∙ take_at (encode n) (drop m bs) m c.long

-- examples

example_300 : encode 300 ≡ 172 ∷ 2 ∷ []
unfolding encode groups_of
example_300 = refl

example_read : decode (172 ∷ 2 ∷ 9 ∷ []) ≡ Ok (300, 2)
unfolding decode limited groups longer
example_read = refl

example_long : decode (128 ∷ 0 ∷ []) ≡ Err BadNumber
unfolding decode limited groups longer
example_long = refl

example_ends : decode (128 ∷ 128 ∷ []) ≡ Err FileEndsEarly
unfolding decode limited groups longer
example_ends = refl

example_six : decode (128 ∷ 128 ∷ 128 ∷ 128 ∷ 128 ∷ 1 ∷ []) ≡ Err BadNumber
unfolding decode limited groups longer
example_six = refl

example_last : decode (255 ∷ 255 ∷ 255 ∷ 255 ∷ 15 ∷ []) ≡ Ok (2 ^ 32 - 1, 5)
unfolding decode limited groups longer
example_last = refl

example_over : decode (128 ∷ 128 ∷ 128 ∷ 128 ∷ 16 ∷ []) ≡ Err BadNumber
unfolding decode limited groups longer
example_over = refl
