-- A road book is a book, and its answers point by point.
use Rattle.std.proofs.Common.{◌≡◌, ℕ, suc, ◌+◌, ◌-◌, ◌*◌, ◌/◌, ◌<◌, ◌≤◌, cond, ltb, List, [], ◌∷◌, length, get_or, drop, Some, refl, ap, ◌∙◌, subst, ⊎_elim, le_trans, mul-le-mul_right, suc-add, mul-le-mul_left, div-mul-le_self, arith}
use native.Mathlib.Nat.{div-le_of_le-mul}
use Rattle.std.proofs.lemmas.Nat.{le-div}
use Rattle.std.proofs.lemmas.Bool.{lt-ltb, le-ltb, le-leb, lt-leb, cases_lt}
use Rattle.std.proofs.lemmas.List.{drop_more, drop_all}
use Rattle.model.specs.Books.{LawfulBook}
use Rattle.model.specs.Clock.{horizon}
use Rattle.model.specs.declared.tables.Point.{Point}
use Rattle.model.specs.declared.tables.Span.{Span}
use Rattle.meanings.specs.Answers.{timely}
use Rattle.meanings.specs.Spans.{most_services, service_rows, Each}
use Rattle.meanings.specs.Roads.{reached, line, between, passed, ahead, first_of, last_from, by_neighbours, ridden, driven, no_point, Rising, Steady, Timely}
use Rattle.meanings.proofs.Laws.{listed_lawful, timely_fair}

-- a quotient rises with what is divided
pub div_mono : (m n k : ℕ) → 0 < k → m ≤ n → m / k ≤ n / k
div_mono m n k pos h = le-div (m / k) n k pos (le_trans (div-mul-le_self m k) h)

pub line_low : (p P q Q t : ℕ) → P ≤ line p P q Q t
line_low p P q Q t = omega arith

pub line_high : (p P q Q t : ℕ) → p < q → P ≤ Q → t ≤ q → line p P q Q t ≤ Q
line_high p P q Q t pq PQ tq =
    let m : (Q - P) * (t - p) ≤ (q - p) * (Q - P) = omega (arith, mul-le-mul_left {m = t - p} {n = q - p} (Q - P) (omega arith)) in
    let d = div-le_of_le-mul (q - p) {m = (Q - P) * (t - p)} {n = Q - P} m in
    omega arith

pub line_mono : (p P q Q t u : ℕ) → p < q → t ≤ u → line p P q Q t ≤ line p P q Q u
line_mono p P q Q t u pq tu =
    let d = div_mono ((Q - P) * (t - p)) ((Q - P) * (u - p)) (q - p) (omega arith) (mul-le-mul_left (Q - P) (omega arith)) in
    omega arith

-- a ≤ x, and c is at least a + b
wide : (a b c x : ℕ) → a ≤ x → a + b ≤ c → a * (x + b) ≤ c * x
wide a b c x h k =
    let m = mul-le-mul_right b h in
    let n = mul-le-mul_right x k in
    omega arith

pub line_ahead : (p P q Q t : ℕ) → p < q → p ≤ P → q ≤ Q → p ≤ t → t ≤ q → t ≤ line p P q Q t
line_ahead p P q Q t pq pP qQ pt tq =
    ⊎_elim (λ h. omega arith)
    (λ h.
    let e : (t - p) + (q - t) ≡ q - p = omega arith in
    let m : (t - P) * (q - p) ≤ (Q - P) * (t - p) = subst (λ (d : ℕ). (t - P) * d ≤ (Q - P) * (t - p)) e (wide (t - P) (q - t) (Q - P) (t - p) (omega arith) (omega arith)) in
    let d = le-div (t - P) ((Q - P) * (t - p)) (q - p) (omega arith) m in
    omega arith)
    (cases_lt t P)

-- points whose seconds rise and whose arrivals never fall, by the list
abbrev pub Ordered : Point → List Point → Type 0
Ordered x [] = Unit {0}
Ordered x (y ∷ ys) = (x.second < y.second) × (reached x ≤ reached y) × Ordered y ys

-- the arrival from the second of a point on, step by step along the points after it
abbrev pub onward : Point → List Point → ℕ → ℕ
onward x [] t = t + x.travel
onward x (y ∷ ys) t = cond (ltb t y.second) (between x y t) (onward y ys t)

pub onward_before : (x y : Point) (ys : List Point) (t : ℕ) → t < y.second → onward x (y ∷ ys) t ≡ between x y t
onward_before x y ys t h = rw (lt-ltb t y.second h)

pub onward_after : (x y : Point) (ys : List Point) (t : ℕ) → y.second ≤ t → onward x (y ∷ ys) t ≡ onward y ys t
onward_after x y ys t h = rw (le-ltb t y.second h)

onward_low : (x : Point) (xs : List Point) → Ordered x xs → (t : ℕ) → x.second ≤ t → reached x ≤ onward x xs t
onward_low x [] o t h = omega arith
onward_low x (y ∷ ys) o t h = ⊎_elim
    (λ l. rw (onward_before x y ys t l) (line_low x.second (reached x) y.second (reached y) t))
    (λ l. rw (onward_after x y ys t l) (let r = onward_low y ys o.2 t l in omega arith))
    (cases_lt t y.second)

onward_ahead : (x : Point) (xs : List Point) → Ordered x xs → (t : ℕ) → x.second ≤ t → t ≤ onward x xs t
onward_ahead x [] o t h = omega arith
onward_ahead x (y ∷ ys) o t h = ⊎_elim
    (λ l. rw (onward_before x y ys t l) (line_ahead x.second (reached x) y.second (reached y) t o.0 (omega arith) (omega arith) h (omega arith)))
    (λ l. rw (onward_after x y ys t l) (onward_ahead y ys o.2 t l))
    (cases_lt t y.second)

onward_mono : (x : Point) (xs : List Point) → Ordered x xs → (t u : ℕ) → t ≤ u → onward x xs t ≤ onward x xs u
onward_mono x [] o t u h = omega arith
onward_mono x (y ∷ ys) o t u h = ⊎_elim
    (λ l. let k : t < y.second = omega arith in rw (onward_before x y ys u l, onward_before x y ys t k) (line_mono x.second (reached x) y.second (reached y) t u o.0 h))
    (λ l. rw (onward_after x y ys u l) (⊎_elim
    (λ k. rw (onward_before x y ys t k) (let a = line_high x.second (reached x) y.second (reached y) t o.0 o.1 (omega arith) in let b = onward_low y ys o.2 u l in omega arith))
    (λ k. rw (onward_after x y ys t k) (onward_mono y ys o.2 t u h))
    (cases_lt t y.second)))
    (cases_lt u y.second)

-- by places, by the list
pub ordered : (x : Point) (xs : List Point) → Rising (x ∷ xs) → Steady (x ∷ xs) → Ordered x xs
ordered x [] r s = tt
ordered x (y ∷ ys) r s = (
  r 0 (omega arith),
  s 0 (omega arith),
  ordered y ys
      (λ j h. subst (λ (k : ℕ). (get_or (y ∷ ys) j no_point).second < (get_or (x ∷ y ∷ ys) k no_point).second) (suc-add j 1) (r (suc j) (omega arith)))
      (λ j h. subst (λ (k : ℕ). reached (get_or (y ∷ ys) j no_point) ≤ reached (get_or (x ∷ y ∷ ys) k no_point)) (suc-add j 1) (s (suc j) (omega arith))),
)

-- before a point one has passed none after it
none_passed : (x : Point) (xs : List Point) → Ordered x xs → (t : ℕ) → t < x.second → passed t xs ≡ []
none_passed x [] o t h = refl
none_passed x (y ∷ ys) o t h = let k : t < y.second = omega arith in rw (lt-leb y.second t k) (none_passed y ys o.2 t k)

-- the neighbours of a second, step by step
by_steps : (x : Point) (xs : List Point) → Ordered x xs → (t : ℕ) → by_neighbours (Some (last_from x (passed t xs))) (first_of (ahead t xs)) t ≡ onward x xs t
by_steps x [] o t = refl
by_steps x (y ∷ ys) o t = ⊎_elim
    (λ l. rw (lt-leb y.second t l, lt-ltb t y.second l, none_passed y ys o.2 t l))
    (λ l. rw (le-leb y.second t l, le-ltb t y.second l) (by_steps y ys o.2 t))
    (cases_lt t y.second)

ridden_before : (x : Point) (xs : List Point) → Ordered x xs → (t : ℕ) → t < x.second → ridden (x ∷ xs) t ≡ t + x.travel
ridden_before x xs o t h = rw (lt-leb x.second t h, lt-ltb t x.second h, none_passed x xs o t h)

ridden_after : (x : Point) (xs : List Point) → Ordered x xs → (t : ℕ) → x.second ≤ t → ridden (x ∷ xs) t ≡ onward x xs t
ridden_after x xs o t h = rw (le-leb x.second t h, le-ltb t x.second h) (by_steps x xs o t)

ridden_ahead : (ps : List Point) → Rising ps → Steady ps → (t : ℕ) → t ≤ ridden ps t
ridden_ahead [] r s t = omega arith
ridden_ahead (x ∷ xs) r s t =
    let o = ordered x xs r s in
    ⊎_elim
    (λ l. rw (ridden_before x xs o t l) (omega arith))
    (λ l. rw (ridden_after x xs o t l) (onward_ahead x xs o t l))
    (cases_lt t x.second)

ridden_mono : (ps : List Point) → Rising ps → Steady ps → (t u : ℕ) → t ≤ u → ridden ps t ≤ ridden ps u
ridden_mono [] r s t u h = h
ridden_mono (x ∷ xs) r s t u h =
    let o = ordered x xs r s in
    ⊎_elim
    (λ l. let k : t < x.second = omega arith in rw (ridden_before x xs o t k, ridden_before x xs o u l) (omega arith))
    (λ l. rw (ridden_after x xs o u l) (⊎_elim
    (λ k. rw (ridden_before x xs o t k) (let m = onward_low x xs o u l in omega arith))
    (λ k. rw (ridden_after x xs o t k) (onward_mono x xs o t u h))
    (cases_lt t x.second)))
    (cases_lt u x.second)

pub driven_lawful : (ps : List Point) (spans : List Span) → length spans ≤ most_services → Each Rising ps spans → Each Steady ps spans → LawfulBook (length spans) (driven ps spans)
driven_lawful ps spans few rising steady =
    listed_lawful (length spans) (λ s t. timely (ridden (service_rows ps spans s) t)) (omega arith)
    (λ s h. let r = service_rows ps spans s in timely_fair (ridden r) (ridden_ahead r (rising s h) (steady s h)) (ridden_mono r (rising s h) (steady s h)))

-- ---- along the points, one by one

module _ (ps : List Point) (x : Point) (xs : List Point) (parted : ps ≡ x ∷ xs) (rising : Rising ps) (steady : Steady ps) where
  in_order : Ordered x xs
  in_order = ordered x xs (subst Rising parted rising) (subst Steady parted steady)

  pub started : (t : ℕ) → x.second ≤ t → Ordered x xs × (ridden ps t ≡ onward x xs t)
  started t h = (in_order, ap (λ l. ridden l t) parted ∙ ridden_after x xs in_order t h)

  pub unstarted : (t : ℕ) → t < x.second → ridden ps t ≡ t + x.travel
  unstarted t h = ap (λ l. ridden l t) parted ∙ ridden_before x xs in_order t h

-- what holds of each point holds of each but the first
pub timely_after : (ps : List Point) (x : Point) (xs : List Point) → ps ≡ x ∷ xs → Timely ps → (reached x ≤ horizon) × Timely xs
timely_after ps x xs parted timely = let all = subst Timely parted timely in (all 0 (omega arith), λ j h. all (suc j) (omega arith))

module _ (ps : List Point) (x : Point) (j : ℕ) (inside : j < length ps) where
  pub next : Ordered x (drop j ps) → (x.second < (get_or ps j no_point).second) × (reached x ≤ reached (get_or ps j no_point)) × Ordered (get_or ps j no_point) (drop (j + 1) ps)
  next o = subst (Ordered x) (drop_more ps j no_point inside) o

  pub before : (t : ℕ) → t < (get_or ps j no_point).second → onward x (drop j ps) t ≡ between x (get_or ps j no_point) t
  before t h = ap (λ l. onward x l t) (drop_more ps j no_point inside) ∙ onward_before x (get_or ps j no_point) (drop (j + 1) ps) t h

  pub after : (t : ℕ) → (get_or ps j no_point).second ≤ t → onward x (drop j ps) t ≡ onward (get_or ps j no_point) (drop (j + 1) ps) t
  after t h = ap (λ l. onward x l t) (drop_more ps j no_point inside) ∙ onward_after x (get_or ps j no_point) (drop (j + 1) ps) t h

pub last : (ps : List Point) (x : Point) (j t : ℕ) → length ps ≤ j → onward x (drop j ps) t ≡ t + x.travel
last ps x j t h = ap (λ l. onward x l t) (drop_all j ps h)
