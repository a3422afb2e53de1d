-- Writing a number, a group at a time, and what is written at a place.
use Rattle.std.proofs.Common.{◌≡◌, ◌≢◌, Option, Some, None, below_more, get_or-set_other, get_or-set_same, ℕ, zero, suc, ◌+◌, ◌-◌, ◌/◌, ◌%◌, ◌^◌, ◌<◌, ◌≤◌, cond, ltb, List, [], ◌∷◌, length, get_or, drop, set, sym, refl, ap, ◌∙◌, subst, add-zero, add-one, arith, length-drop, get_or-drop, drop-drop}
use lib.Seq.{paste}
use Rattle.std.proofs.lemmas.List.{ext_get_or}
use Rattle.std.proofs.lemmas.Bool.{le-leb, lt-leb, cond_both}
use Rattle.std.proofs.lemmas.Slice.{put_mid-paste}
use borrow.Rule.Slice.PartMut.{put_mid}
use Rattle.wire.specs.Numbers.{groups_of, encode}
use Rattle.wire.specs.Outputs.{Puts}
use Rattle.wire.proofs.Codec.{groups_of_low, groups_of_high}

length_low : (f n : ℕ) → n < 128 → length (groups_of (suc f) n) ≡ 1
length_low f n h = ap length (groups_of_low f n h)

length_high : (f n : ℕ) → 128 ≤ n → length (groups_of (suc f) n) ≡ suc (length (groups_of f (n / 128)))
length_high f n h = ap length (groups_of_high f n h)

pub length_1 : (n : ℕ) → n < 2 ^ 7 → length (encode n) ≡ 1
unfolding encode
length_1 n h = length_low 4 n h

pub length_2 : (n : ℕ) → 2 ^ 7 ≤ n → n < 2 ^ 14 → length (encode n) ≡ 2
unfolding encode
length_2 n l h = length_high 4 n l ∙ ap suc (length_low 3 (n / 128) (omega arith))

pub length_3 : (n : ℕ) → 2 ^ 14 ≤ n → n < 2 ^ 21 → length (encode n) ≡ 3
unfolding encode
length_3 n l h = length_high 4 n (omega arith) ∙ ap suc (length_high 3 (n / 128) (omega arith) ∙ ap suc (length_low 2 (n / 128 / 128) (omega arith)))

pub length_4 : (n : ℕ) → 2 ^ 21 ≤ n → n < 2 ^ 28 → length (encode n) ≡ 4
unfolding encode
length_4 n l h = length_high 4 n (omega arith) ∙ ap suc (length_high 3 (n / 128) (omega arith) ∙ ap suc (length_high 2 (n / 128 / 128) (omega arith) ∙ ap suc (length_low 1 (n / 128 / 128 / 128) (omega arith))))

pub length_5 : (n : ℕ) → 2 ^ 28 ≤ n → n < 2 ^ 32 → length (encode n) ≡ 5
unfolding encode
length_5 n l h = length_high 4 n (omega arith) ∙ ap suc (length_high 3 (n / 128) (omega arith) ∙ ap suc (length_high 2 (n / 128 / 128) (omega arith)
    ∙ ap suc (length_high 1 (n / 128 / 128 / 128) (omega arith) ∙ ap suc (length_low 0 (n / 128 / 128 / 128 / 128) (omega arith)))))

-- i groups of n are written, and `rest` is what is left of n
pub record Writing (n : ℕ) (groups : List ℕ) (i rest : ℕ) : Type 0 where
  pub done : (k : ℕ) → k < i → get_or groups k 0 ≡ get_or (encode n) k 0
  pub left : i < length (encode n) → drop i (encode n) ≡ groups_of (5 - i) rest
  pub small : rest < 128 ^ (5 - i)

pub begun : (n : ℕ) (groups : List ℕ) → n < 2 ^ 32 → Writing n groups 0 n
unfolding encode
begun n groups h = record { done = λ k l. absurd (omega arith); left = λ _. refl; small = omega arith }

few_groups : (f n : ℕ) → length (groups_of f n) ≤ f
unfolding groups_of
few_groups zero n = omega arith
few_groups (suc f) n = cond_both (ltb n 128) (n ∷ []) ((128 + n % 128) ∷ groups_of f (n / 128)) (λ l. length l ≤ suc f) (λ _. omega arith) (let h = few_groups f (n / 128) in λ _. omega arith)

-- a number takes at most five bytes
pub few_bytes : (n : ℕ) → length (encode n) ≤ 5
unfolding encode
few_bytes n = few_groups 5 n

-- what stands next, from the list that is left
head_of : (xs : List ℕ) (i b : ℕ) (bs : List ℕ) → drop i xs ≡ b ∷ bs → (get_or xs i 0 ≡ b) × (drop (suc i) xs ≡ bs)
head_of xs i b bs e =
    (ap (λ k. get_or xs k 0) (sym (add-zero i)) ∙ sym (get_or-drop i xs 0 0) ∙ ap (λ r. get_or r 0 0) e, ap (λ k. drop k xs) (sym (add-one i)) ∙ sym (drop-drop 1 i xs) ∙ ap (drop 1) e)

module _ {n : ℕ} {groups : List ℕ} {i rest : ℕ} (h : Writing n groups i rest) (inside : i < length (encode n)) (long : length groups ≡ length (encode n)) where
  -- the bytes that are written, with one more
  one_more : (b : ℕ) → get_or (encode n) i 0 ≡ b → (k : ℕ) → k < i + 1 → get_or (set groups i b) k 0 ≡ get_or (encode n) k 0
  one_more b e =
      below_more _ _
      (λ k l. let ne : k ≢ i = omega arith in rw get_or-set_other (h.done k l))
      (let lt : i < length groups = omega arith in rw get_or-set_same (sym e))

  exponent : 5 - i ≡ suc (5 - (i + 1))
  exponent = omega (arith, few_bytes n)

  small_next : rest / 128 < 128 ^ (5 - (i + 1))
  small_next = let s : rest < 128 ^ suc (5 - (i + 1)) = subst (λ f. rest < 128 ^ f) exponent h.small in omega arith

  -- a turn: a group before others
  pub turned : 128 ≤ rest → Writing n (set groups i (rest % 128 + 128)) (i + 1) (rest / 128)
  turned big =
      let e = head_of (encode n) i (128 + rest % 128) (groups_of (5 - (i + 1)) (rest / 128)) (h.left inside ∙ ap (λ k. groups_of k rest) exponent ∙ groups_of_high (5 - (i + 1)) rest big) in
      record { done = one_more (rest % 128 + 128) (omega (arith, e.0)); left = λ _. ap (λ k. drop k (encode n)) (add-one i) ∙ e.1; small = small_next }

  -- the last group
  pub ended : rest < 128 → Writing n (set groups i rest) (i + 1) (rest / 128)
  ended low =
      let one : drop i (encode n) ≡ rest ∷ [] = h.left inside ∙ ap (λ k. groups_of k rest) exponent ∙ groups_of_low (5 - (i + 1)) rest low in
      let e = head_of (encode n) i rest [] one in
      record { done = one_more rest e.0; left = λ more. absurd (omega (arith, ap length one, length-drop i (encode n))); small = small_next }

pub written : {n : ℕ} {groups : List ℕ} {i rest : ℕ} → Writing n groups i rest → length groups ≡ length (encode n) → length groups ≤ i → groups ≡ encode n
written {n} {groups} h long all = ext_get_or 0 groups (encode n) long (λ k l. h.done k (omega arith))

pub wrote : (bytes : List ℕ) (at to : ℕ) (d part : List ℕ) → to ≡ at + length bytes → to ≤ length d → part ≡ bytes → Puts bytes at d (put_mid at (to - at) d part) (Some to)
wrote bytes at to d part is room e =
    let t = le-leb (at + length bytes) (length d) (omega arith) in
    record { place = simp t (ap Some is); output = simp t (put_mid-paste at (to - at) d part bytes (length bytes) e (omega arith) refl) }

pub short : (bytes : List ℕ) (at : ℕ) (d : List ℕ) → length d < at + length bytes → Puts bytes at d d None
short bytes at d over = let t = lt-leb (at + length bytes) (length d) over in record { place = simp t; output = simp t }

-- what was put where there is room
pub put_room : {bytes : List ℕ} {at : ℕ} {d out : List ℕ} {r : Option ℕ} → Puts bytes at d out r → at + length bytes ≤ length d → (r ≡ Some (at + length bytes)) × (out ≡ paste d at bytes (length bytes))
put_room {bytes} {at} {d} h room =
    let t = le-leb (at + length bytes) (length d) room in
    (h.place ∙ ap (λ b. cond b (Some (at + length bytes)) None) t, h.output ∙ ap (λ b. cond b (paste d at bytes (length bytes)) d) t)
