-- Counts and sums below a number.
use Rattle.std.proofs.Common.{◌≡◌, ℕ, zero, suc, ◌+◌, ◌-◌, ◌*◌, ◌<◌, ◌≤◌, Bool, true, false, cond, sym, refl, ap, subst, inl, inr, arith}
use Rattle.std.proofs.lemmas.Bool.{cases_lt, cases_eq}
use Rattle.labels.specs.Rows.{count_below, sum_below}

pub one_or : (a b : Bool) → (a ≡ true → b ≡ true) → cond a 1 0 ≤ cond b 1 0
one_or true b h = subst (λ (x : Bool). 1 ≤ cond x 1 0) (sym (h refl)) (omega arith)
one_or false b h = omega arith

pub count_le : (n : ℕ) (f g : ℕ → Bool) → ((i : ℕ) → i < n → f i ≡ true → g i ≡ true) → count_below n f ≤ count_below n g
count_le zero f g h = omega arith
count_le (suc n) f g h =
    let a : cond (f n) 1 0 ≤ cond (g n) 1 0 = one_or (f n) (g n) (h n (omega arith)) in
    let b : count_below n f ≤ count_below n g = count_le n f g (λ i k. h i (omega arith)) in
    omega arith

pub count_lt : (n : ℕ) (f g : ℕ → Bool) (r : ℕ) → ((i : ℕ) → i < n → f i ≡ true → g i ≡ true) → r < n → f r ≡ false → g r ≡ true
    → count_below n f < count_below n g
count_lt zero f g r h k a b = absurd (omega arith)
count_lt (suc n) f g r h k a b =
    elim (cases_eq r n) [
      | inl e ↦
          let x : ◌≡◌ {A = ℕ} (cond (f n) 1 0) 0 = ap {B = ℕ} (λ (z : Bool). cond z 1 0) (subst (λ (z : ℕ). f z ≡ false) e a) in
          let y : ◌≡◌ {A = ℕ} (cond (g n) 1 0) 1 = ap {B = ℕ} (λ (z : Bool). cond z 1 0) (subst (λ (z : ℕ). g z ≡ true) e b) in
          let c : count_below n f ≤ count_below n g = count_le n f g (λ i j. h i (omega arith)) in
          omega arith
      | inr e ↦
          let x : cond (f n) 1 0 ≤ cond (g n) 1 0 = one_or (f n) (g n) (h n (omega arith)) in
          let c : count_below n f < count_below n g = count_lt n f g r (λ i j. h i (omega arith)) (omega arith) a b in
          omega arith
    ]

pub count_max : (n : ℕ) (f : ℕ → Bool) → count_below n f ≤ n
count_max zero f = omega arith
count_max (suc n) f =
    let a : cond (f n) 1 0 ≤ 1 = one_or (f n) true (λ _. refl) in
    let b : count_below n f ≤ n = count_max n f in
    omega arith

-- where g is nowhere below f, and above it from low up to high, its sum is greater by as much as that range is long
pub sum_more : (n : ℕ) (f g : ℕ → ℕ) (low high : ℕ) → ((i : ℕ) → i < n → f i ≤ g i) → ((i : ℕ) → i < n → low ≤ i → i < high → f i < g i) → high ≤ n
    → sum_below n f + (high - low) ≤ sum_below n g
sum_more zero f g low high le lt h = omega arith
sum_more (suc n) f g low high le lt h =
    elim (cases_lt n high) [
      | inl top ↦
          let b : sum_below n f + (n - low) ≤ sum_below n g = sum_more n f g low n (λ i k. le i (omega arith)) (λ i k u v. lt i (omega arith) u (omega arith)) (omega arith) in
          elim (cases_lt n low) [
            | inl past ↦ let a : f n ≤ g n = le n (omega arith) in omega arith
            | inr within ↦ let a : f n < g n = lt n (omega arith) within top in omega arith
          ]
      | inr top ↦
          let b : sum_below n f + (high - low) ≤ sum_below n g = sum_more n f g low high (λ i k. le i (omega arith)) (λ i k u v. lt i (omega arith) u v) top in
          let a : f n ≤ g n = le n (omega arith) in
          omega arith
    ]

pub sum_most : (n : ℕ) (f : ℕ → ℕ) (b : ℕ) → ((i : ℕ) → i < n → f i ≤ b) → sum_below n f ≤ n * b
sum_most zero f b h = omega arith
sum_most (suc n) f b h =
    let a : f n ≤ b = h n (omega arith) in
    let c : sum_below n f ≤ n * b = sum_most n f b (λ i k. h i (omega arith)) in
    let d : suc n * b ≡ n * b + b = omega arith in
    omega arith
