-- What a turn of `decoded` keeps.
use Rattle.std.proofs.Common.{◌≡◌, ℕ, zero, suc, ◌+◌, ◌-◌, ◌*◌, ◌^◌, ◌<◌, ◌≤◌, Bool, true, false, cond, eqb, List, [], ◌∷◌, length, get_or, min, take, drop, Ok, Err, sym, refl, ap, ◌∙◌, ap₂, mul-le-mul_right, mul-le-mul, add-one, arith, drop_of_length-le, drop-cons, length-take}
use Rattle.std.proofs.lemmas.List.{get_or-take}
use Rattle.std.proofs.lemmas.Bool.{lt-ltb, le-ltb, ne_eqb, eqb-false}
use Rattle.model.specs.declared.refusal.Refusal.{Refusal}
use Rattle.model.specs.declared.refusal.Refusal.TheVariants.{FileEndsEarly, BadNumber}
use Rattle.wire.specs.Numbers.{Decoded, longer, groups, limited, decode}
use Rattle.wire.proofs.Codec.{groups_low, groups_high, longer_more}

-- i groups of value v, each marked, before the groups of a number; s is 128 ^ i
unfoldable pub onto : ℕ → ℕ → ℕ → Decoded → Decoded
onto zero v s r = r
onto (suc i) v s (Ok x) = cond (eqb x.0 0) (Err BadNumber) (Ok (v + s * x.0, suc i + x.1))
onto (suc i) v s (Err k) = Err k

-- the first i bytes are marked groups of value v
pub record Going (bs : List ℕ) (i v s : ℕ) : Type 0 where
  pub same : groups 5 bs ≡ onto i v s (groups (5 - i) (drop i bs))
  pub few : i ≤ 5
  pub scaled : s ≡ 128 ^ i
  pub small : v < s

pub start : (bs : List ℕ) → Going bs 0 0 1
unfolding onto
start bs = record { same = refl; few = omega arith; scaled = refl; small = omega arith }

pow_few : (i : ℕ) → i < 5 → 128 ^ i ≤ 2 ^ 28
pow_few zero h = omega arith
pow_few (suc zero) h = omega arith
pow_few (suc (suc zero)) h = omega arith
pow_few (suc (suc (suc zero))) h = omega arith
pow_few (suc (suc (suc (suc zero)))) h = omega arith
pow_few (suc (suc (suc (suc (suc i))))) h = absurd (omega arith)

-- a group times its weight, and the weight of the next
pub room : {bs : List ℕ} {i v s : ℕ} (g : ℕ) → Going bs i v s → i < 5 → g ≤ 255 → (v < 2 ^ 28) × (s ≤ 2 ^ 28) × (g * s ≤ 255 * 2 ^ 28)
room {i = i} {s = s} g h few byte =
    let p : s ≤ 2 ^ 28 = omega (arith, pow_few i few, h.scaled) in
    (omega (arith, h.small), p, mul-le-mul byte p)

onto_some : (i v s n m : ℕ) → 0 < n → onto (suc i) v s (Ok (n, m)) ≡ Ok (v + s * n, suc i + m)
unfolding onto
onto_some i v s n m h = let t = ne_eqb n 0 (omega arith) in simp t

spread : (v s d n : ℕ) → v + s * (d + 128 * n) ≡ (v + d * s) + s * 128 * n
spread v s d n = omega arith

onto_more : (i v s b : ℕ) (r : Decoded) → s ≡ 128 ^ i → v < s → onto i v s (longer b r) ≡ onto (suc i) (v + (b - 128) * s) (s * 128) r
unfolding onto longer
onto_more zero v s b (Err k) p q = refl
onto_more (suc i) v s b (Err k) p q = refl
onto_more zero v s b (Ok x) p q =
    let z : v ≡ 0 = omega (arith, p) in
    ap₂ (λ m n. cond {A = Decoded} (eqb x.0 0) (Err BadNumber) (Ok (m, n))) (rw (p, z) (omega arith)) (omega arith)
onto_more (suc i) v s b (Ok x) p q = go (eqb x.0 0) refl
  where
    go : (t : Bool) → eqb x.0 0 ≡ t → onto (suc i) v s (longer b (Ok x)) ≡ onto (suc (suc i)) (v + (b - 128) * s) (s * 128) (Ok x)
    go true e = simp e
    go false e =
        let some : 0 < x.0 = omega (arith, eqb-false x.0 0 e) in
        ap (onto (suc i) v s) (longer_more b x.0 x.1 some) ∙ onto_some i v s (b - 128 + 128 * x.0) (suc x.1) (omega arith)
        ∙ ap₂ (λ m n. Ok (m, n)) (spread v s (b - 128) x.0) (omega arith) ∙ sym (onto_some (suc i) (v + (b - 128) * s) (s * 128) x.0 x.1 some)

-- the groups from the i-th on
at_group : (bs : List ℕ) (i : ℕ) → i < 5 → i < length bs → groups (5 - i) (drop i bs) ≡ groups (suc (4 - i)) (get_or bs i 0 ∷ drop (suc i) bs)
at_group bs i few h = ap₂ groups (omega arith) (drop-cons bs i 0 h)

-- a byte of the front that is read
pub record AtFront (bs : List ℕ) (k i : ℕ) : Type 0 where
  pub few : i < 5
  pub inside : i < length bs
  pub same : get_or (take k bs) i 0 ≡ get_or bs i 0

pub front_at : (bs : List ℕ) {k : ℕ} (i : ℕ) → k ≡ min (length bs) 5 → i < length (take k bs) → AtFront bs k i
front_at bs {k} i is h =
    let l = length-take k bs in
    record { few = omega (arith, l); inside = omega (arith, l); same = get_or-take k bs i 0 (omega (arith, l)) }

pub more : {bs : List ℕ} {i v s : ℕ} → Going bs i v s → i < 5 → i < length bs → 128 ≤ get_or bs i 0 → get_or bs i 0 < 256 → Going bs (i + 1) (v + (get_or bs i 0 - 128) * s) (s * 128)
more {bs} {i} {v} {s} h few inside mark byte =
    let b : ℕ = get_or bs i 0 in
    let rest : 4 - i ≡ 5 - suc i = omega arith in
    let next : groups 5 bs ≡ onto (suc i) (v + (b - 128) * s) (s * 128) (groups (5 - suc i) (drop (suc i) bs)) =
    h.same ∙ ap (onto i v s) (at_group bs i few inside ∙ groups_high (4 - i) b (drop (suc i) bs) mark byte) ∙ onto_more i v s b (groups (4 - i) (drop (suc i) bs)) h.scaled h.small
    ∙ ap (λ k. onto (suc i) (v + (b - 128) * s) (s * 128) (groups k (drop (suc i) bs))) rest in
    let weight : s * 128 ≡ 128 ^ suc i = omega (arith, h.scaled) in
    let group : b - 128 ≤ 127 = omega arith in
    let fits = mul-le-mul_right s group in
    rw add-one (record { same = next; few = omega arith; scaled = weight; small = omega (arith, h.small, fits) })

-- the last group
pub last : {bs : List ℕ} {i v s : ℕ} → Going bs i v s → i < 5 → i < length bs → get_or bs i 0 < 128 → groups 5 bs ≡ onto i v s (Ok (get_or bs i 0, 1))
last {bs} {i} {v} {s} h few inside low = h.same ∙ ap (onto i v s) (at_group bs i few inside ∙ groups_low (4 - i) (get_or bs i 0) (drop (suc i) bs) low)

limited_err : (k : Refusal) → limited (2 ^ 32) (Err k) ≡ Err k
unfolding limited
limited_err k = refl

limited_fits : (n m : ℕ) → n < 2 ^ 32 → limited (2 ^ 32) (Ok (n, m)) ≡ Ok (n, m)
unfolding limited
limited_fits n m h = let t = lt-ltb n (2 ^ 32) h in simp t

limited_large : (n m : ℕ) → 2 ^ 32 ≤ n → limited (2 ^ 32) (Ok (n, m)) ≡ Err BadNumber
unfolding limited
limited_large n m h = let t = le-ltb n (2 ^ 32) h in simp t

onto_err : (i v s : ℕ) (k : Refusal) → onto i v s (Err k) ≡ Err k
unfolding onto
onto_err zero v s k = refl
onto_err (suc i) v s k = refl

onto_zero : (i v s m : ℕ) → 0 < i → onto i v s (Ok (0, m)) ≡ Err BadNumber
unfolding onto
onto_zero zero v s m h = absurd (omega arith)
onto_zero (suc i) v s m h = refl

onto_last : (i v s g : ℕ) → s ≡ 128 ^ i → v < s → (0 < i → g ≡ 0 → ⊥) → onto i v s (Ok (g, 1)) ≡ Ok (v + g * s, i + 1)
unfolding onto
onto_last zero v s g p q h = ap₂ (λ m n. Ok (m, n)) (let z : v ≡ 0 = omega (arith, p) in rw (p, z) (omega arith)) (omega arith)
onto_last (suc i) v s g p q h = onto_some i v s g 1 (omega (arith, h (omega arith))) ∙ ap (λ m. Ok (m, suc i + 1)) (omega arith)

pub shortest : {bs : List ℕ} {i v s : ℕ} → Going bs i v s → i < 5 → i < length bs → get_or bs i 0 ≡ 0 → 0 < i → decode bs ≡ Err BadNumber
unfolding decode
shortest {bs} {i} {v} {s} h few inside z some = ap (limited (2 ^ 32)) (last h few inside (omega arith) ∙ ap (λ g. onto i v s (Ok (g, 1))) z ∙ onto_zero i v s 1 some) ∙ limited_err BadNumber

pub large : {bs : List ℕ} {i v s : ℕ} → Going bs i v s → i < 5 → i < length bs → get_or bs i 0 < 128 → 2 ^ 32 ≤ v + get_or bs i 0 * s → decode bs ≡ Err BadNumber
unfolding decode
large {bs} {i} {v} {s} h few inside low big =
    let g : ℕ = get_or bs i 0 in
    let small = (room 0 h few (omega arith)).0 in
    let some : g ≡ 0 → ⊥ = λ z. let b : 2 ^ 32 ≤ v + 0 * s = rw z at big in omega arith in
    ap (limited (2 ^ 32)) (last h few inside low ∙ onto_last i v s g h.scaled h.small (λ _. some)) ∙ limited_large (v + g * s) (i + 1) big

pub fits : {bs : List ℕ} {i v s : ℕ} → Going bs i v s → i < 5 → i < length bs → get_or bs i 0 < 128 → (0 < i → get_or bs i 0 ≡ 0 → ⊥) → v + get_or bs i 0 * s < 2 ^ 32 → decode bs ≡ Ok (v + get_or bs i 0 * s, i + 1)
unfolding decode
fits {bs} {i} {v} {s} h few inside low some small =
    ap (limited (2 ^ 32)) (last h few inside low ∙ onto_last i v s (get_or bs i 0) h.scaled h.small some) ∙ limited_fits (v + get_or bs i 0 * s) (i + 1) small

groups_none : (f : ℕ) → groups (suc f) [] ≡ Err FileEndsEarly
unfolding groups
groups_none f = refl

groups_over : (bs : List ℕ) → groups 0 bs ≡ Err BadNumber
unfolding groups
groups_over bs = refl

pub ends : {bs : List ℕ} {i v s : ℕ} → Going bs i v s → length bs < 5 → i ≡ length bs → decode bs ≡ Err FileEndsEarly
unfolding decode
ends {bs} {i} {v} {s} h few all =
    let none : drop i bs ≡ [] = drop_of_length-le bs (omega arith) in
    ap (limited (2 ^ 32)) (h.same ∙ ap (onto i v s) (ap₂ groups (omega arith) none ∙ groups_none (4 - i)) ∙ onto_err i v s FileEndsEarly) ∙ limited_err FileEndsEarly

pub over : {bs : List ℕ} {i v s : ℕ} → Going bs i v s → i ≡ 5 → decode bs ≡ Err BadNumber
unfolding decode
over {bs} {i} {v} {s} h all =
    let none : 5 - i ≡ 0 = omega arith in
    ap (limited (2 ^ 32)) (h.same ∙ ap (onto i v s) (ap (λ k. groups k (drop i bs)) none ∙ groups_over (drop i bs)) ∙ onto_err i v s BadNumber) ∙ limited_err BadNumber
