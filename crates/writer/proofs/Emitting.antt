-- Bytes put one after the other, and the turns of a loop that writes a list.
use Rattle.std.proofs.Common.{◌≡◌, ℕ, suc, ◌+◌, ◌*◌, ◌<◌, ◌≤◌, Bool, true, false, cond, List, [], ◌∷◌, ◌++◌, length, get_or, take, drop, Some, None, Ok, Err, Option, Result, sym, refl, ap, ◌∙◌, subst, ap₂, append_assoc, append-nil, add-one, arith, length-append, take-append-drop, take_all, drop-cons, take-suc}
use lib.Seq.{paste, paste-zero, length-paste}
use Rattle.std.proofs.lemmas.List.Edits.{paste-paste}
use Rattle.std.proofs.lemmas.Bool.Decides.{nat_tests}
use Rattle.model.specs.declared.refusal.Refusal.{Refusal}
use Rattle.writer.specs.declared.cursor.Cursor.{Cursor}
use Rattle.writer.specs.Emission.{answered, or_else, outside, Emits, Appends, refused_all, bytes_all, state_after}

-- an answer, taken apart
pub answered_ok : {V : Type 0} (o : Option Refusal) (v w : V) → Ok v ≡ answered o w → (o ≡ None) × (v ≡ w)
answered_ok None v w e = let i : v ≡ w = cc in (refl, i)
answered_ok (Some k) v w e = let z : ◌≡◌ {A = ℕ} 0 1 = cc in absurd (omega arith)

pub answered_err : {V : Type 0} (o : Option Refusal) (v : V) (k : Refusal) → Err k ≡ answered o v → o ≡ Some k
answered_err None v k e = let z : ◌≡◌ {A = ℕ} 0 1 = cc in absurd (omega arith)
answered_err (Some m) v k e = let i : k ≡ m = cc in ap Some (sym i)

module _ {V : Type 0} {m : ℕ} {k : Option Refusal} {bytes : List ℕ} {v : V} {a b : Cursor} {r : Result V Refusal} where
  pub none_of : (u : V) → Emits m k bytes v a b r → r ≡ Ok u → k ≡ None
  none_of u h is = (answered_ok k u v (sym is ∙ h.answer)).0

  -- more room than is taken
  pub emits_less : (n : ℕ) → m ≤ n → Emits m k bytes v a b r → Emits n k bytes v a b r
  emits_less n le h = record { answer = h.answer; place = h.place; output = h.output; small = omega arith; same = h.same }

  -- another value in place of the one that was answered
  pub emits_value : {W : Type 0} (u : V) (w : W) → Emits m k bytes v a b r → r ≡ Ok u → Emits m k bytes w a b (Ok w)
  emits_value u w h is = record { answer = ap (λ o. answered o w) (sym (none_of u h is)); place = h.place; output = h.output; small = h.small; same = h.same }

-- a call that is refused
pub refused : {V : Type 0} (m : ℕ) (k : Option Refusal) (bytes : List ℕ) (v : V) (a b : Cursor) (x : Refusal) → k ≡ Some x → b.at ≤ a.at + m → b.out.ghost_name ≡ a.out.ghost_name → Emits m k bytes v a b (Err x)
refused m k bytes v a b x e le same = record {
  answer = sym (ap (λ o. answered o v) e);
  place = λ none. let z : ◌≡◌ {A = ℕ} 0 1 = cc in absurd (omega arith);
  output = λ none _. let z : ◌≡◌ {A = ℕ} 0 1 = cc in absurd (omega arith);
  small = le;
  same = same;
}

pub refused_at_once : {V : Type 0} (m : ℕ) (k : Option Refusal) (bytes : List ℕ) (v : V) (a : Cursor) (x : Refusal) → k ≡ Some x → Emits m k bytes v a a (Err x)
refused_at_once m k bytes v a x e = refused m k bytes v a a x e (omega arith) refl

-- one that passes its own test, and then is not refused
pub accepted : {V : Type 0} {m : ℕ} {bytes : List ℕ} {a b : Cursor} (k : Option Refusal) (v : V) → k ≡ None → Appends m bytes a b → Emits m k bytes v a b (Ok v)
accepted k v e h = record { answer = sym (ap (λ o. answered o v) e); place = λ _. h.place refl; output = λ _. h.output refl; small = h.small; same = h.same }

-- one after the other
pub joined : (d : List ℕ) (at : ℕ) (xs ys mid out : List ℕ) (from : ℕ) → from ≡ at + length xs →
    (at + length xs ≤ length d → mid ≡ paste d at xs (length xs)) → (from + length ys ≤ length mid → out ≡ paste mid from ys (length ys)) →
    at + length (xs ++ ys) ≤ length d → out ≡ paste d at (xs ++ ys) (length (xs ++ ys))
joined d at xs ys mid out from place first second room =
    let l = length-append xs ys in
    let m = first (omega arith) in
    let same : length mid ≡ length d = ap length m ∙ length-paste d at xs (length xs) (omega arith) (omega arith) in
    second (omega arith) ∙ ap₂ (λ a p. paste a p ys (length ys)) m place ∙ paste-paste d at xs ys (length xs) (length ys) refl refl (omega arith) ∙ ap (paste d at (xs ++ ys)) (sym l)

pub emits_then : {V W : Type 0} {m n : ℕ} {j k : Option Refusal} {xs ys : List ℕ} {v : V} {w : W} {a b c : Cursor} {r : Result V Refusal} {q : Result W Refusal} (u : V) →
    Emits m j xs v a b r → r ≡ Ok u → Emits n k ys w b c q → Emits (m + n) (or_else j k) (xs ++ ys) w a c q
emits_then {m = m} {n} {j} {k} {xs} {ys} {v} {w} {a} {b} {c} u h is g =
    let none = none_of u h is in
    let first : or_else j k ≡ k = ap (λ o. or_else o k) none in
    let from = h.place none in
    record {
      answer = g.answer ∙ ap (λ o. answered o w) (sym first);
      place = λ ok. let e = g.place (sym first ∙ ok) in omega (arith, length-append xs ys);
      output = λ ok room. joined a.out.now a.at xs ys b.out.now c.out.now b.at from (h.output none) (g.output (sym first ∙ ok)) room;
      small = omega (arith, h.small, g.small);
      same = g.same ∙ h.same;
    }

pub appends_then : {W : Type 0} {m n : ℕ} {k : Option Refusal} {xs ys : List ℕ} {w : W} {a b c : Cursor} {q : Result W Refusal} → Appends m xs a b → Emits n k ys w b c q → Emits (m + n) k (xs ++ ys) w a c q
appends_then h g = emits_then tt h refl g

or_else_none : (a : Option Refusal) → or_else a None ≡ a
or_else_none None = refl
or_else_none (Some k) = refl

pub emits_then_appends : {V : Type 0} {m n : ℕ} {j : Option Refusal} {xs ys : List ℕ} {v : V} {a b c : Cursor} {r : Result V Refusal} (u : V) →
    Emits m j xs v a b r → r ≡ Ok u → Appends n ys b c → Emits {V = Unit {0}} (m + n) j (xs ++ ys) tt a c (Ok tt)
emits_then_appends {m = m} {n} {j} {xs} {ys} {a = a} {c = c} u h is g = subst (λ o. Emits {V = Unit {0}} (m + n) o (xs ++ ys) tt a c (Ok tt)) (or_else_none j) (emits_then u h is g)

-- lists

or_else_assoc : (a b c : Option Refusal) → or_else a (or_else b c) ≡ or_else (or_else a b) c
or_else_assoc None b c = refl
or_else_assoc (Some k) b c = refl

module _ {S A : Type 0} (f : S → A → Option Refusal) (w : S → A → List ℕ) (next : S → A → S) where
  refused_all_append : (xs ys : List A) (s : S) → refused_all f next s (xs ++ ys) ≡ or_else (refused_all f next s xs) (refused_all f next (state_after next s xs) ys)
  unfolding refused_all state_after
  refused_all_append [] ys s = refl
  refused_all_append (a ∷ xs) ys s = ap (or_else (f s a)) (refused_all_append xs ys (next s a)) ∙ or_else_assoc (f s a) (refused_all f next (next s a) xs) (refused_all f next (state_after next (next s a) xs) ys)

  refused_snoc : (xs : List A) (a : A) (s : S) → refused_all f next s (xs ++ a ∷ []) ≡ or_else (refused_all f next s xs) (f (state_after next s xs) a)
  unfolding refused_all state_after
  refused_snoc [] a s = or_else_none (f s a)
  refused_snoc (b ∷ xs) a s = ap (or_else (f s b)) (refused_snoc xs a (next s b)) ∙ or_else_assoc (f s b) (refused_all f next (next s b) xs) (f (state_after next (next s b) xs) a)

  bytes_snoc : (xs : List A) (a : A) (s : S) → bytes_all w next s (xs ++ a ∷ []) ≡ bytes_all w next s xs ++ w (state_after next s xs) a
  unfolding bytes_all state_after
  bytes_snoc [] a s = append-nil (w s a)
  bytes_snoc (b ∷ xs) a s = ap (λ l. w s b ++ l) (bytes_snoc xs a (next s b)) ∙ sym (append_assoc (w s b) (bytes_all w next (next s b) xs) (w (state_after next (next s b) xs) a))

  state_snoc : (xs : List A) (a : A) (s : S) → state_after next s (xs ++ a ∷ []) ≡ next (state_after next s xs) a
  unfolding state_after
  state_snoc [] a s = refl
  state_snoc (b ∷ xs) a s = state_snoc xs a (next s b)

  refused_first : (s : S) (a : A) (xs : List A) (x : Refusal) → f s a ≡ Some x → refused_all f next s (a ∷ xs) ≡ Some x
  unfolding refused_all
  refused_first s a xs x e = ap (λ k. or_else k (refused_all f next (next s a) xs)) e

-- a loop that has written i of a list
pub record Emitting {S A : Type 0} (most : ℕ) (f : S → A → Option Refusal) (w : S → A → List ℕ) (next : S → A → S) (s₀ : S) (xs : List A) (i : ℕ) (s : S) (before now : Cursor) : Type 0 where
  pub emits : Emits (most * i) (refused_all f next s₀ (take i xs)) (bytes_all w next s₀ (take i xs)) (state_after next s₀ (take i xs)) before now (Ok s)

module _ {S A : Type 0} {most : ℕ} {f : S → A → Option Refusal} {w : S → A → List ℕ} {next : S → A → S} {s₀ : S} {xs : List A} where
  pub emitting_start : (a : Cursor) → Emitting most f w next s₀ xs 0 s₀ a a
  unfolding refused_all bytes_all state_after
  emitting_start a = record { emits = record { answer = refl; place = λ _. omega arith; output = λ _ _. paste-zero a.out.now a.at []; small = omega arith; same = refl } }

  pub emitting_turn : {i : ℕ} {s : S} {before now after : Cursor} {r : Result S Refusal} (a : A) (to : S) →
      Emitting most f w next s₀ xs i s before now → Emits most (f s a) (w s a) (next s a) now after r → r ≡ Ok to → i < length xs → a ≡ get_or xs i a →
      Emitting most f w next s₀ xs (i + 1) to before after
  emitting_turn {i} {s} {before} {now} {after} a to h g is inside here =
      let t = take i xs in
      let front : take (i + 1) xs ≡ t ++ a ∷ [] = ap (λ k. take k xs) (add-one i) ∙ take-suc xs i a inside ∙ ap (λ b. t ++ b ∷ []) (sym here) in
      let z : s ≡ state_after next s₀ t = (answered_ok (refused_all f next s₀ t) s (state_after next s₀ t) h.emits.answer).1 in
      let both = emits_then s h.emits refl g in
      let r₁ : or_else (refused_all f next s₀ t) (f s a) ≡ refused_all f next s₀ (take (i + 1) xs) =
      ap (λ s. or_else (refused_all f next s₀ t) (f s a)) z ∙ sym (refused_snoc f w next t a s₀) ∙ ap (refused_all f next s₀) (sym front) in
      let b₁ : bytes_all w next s₀ t ++ w s a ≡ bytes_all w next s₀ (take (i + 1) xs) =
      ap (λ s. bytes_all w next s₀ t ++ w s a) z ∙ sym (bytes_snoc f w next t a s₀) ∙ ap (bytes_all w next s₀) (sym front) in
      let s₁ : next s a ≡ state_after next s₀ (take (i + 1) xs) = ap (λ s. next s a) z ∙ sym (state_snoc f w next t a s₀) ∙ ap (state_after next s₀) (sym front) in
      record {
        emits = record {
          answer = sym is ∙ both.answer ∙ ap₂ answered r₁ s₁;
          place = λ none. both.place (r₁ ∙ none) ∙ ap (λ l. before.at + length l) b₁;
          output = λ none room. subst (λ l. before.at + length l ≤ length before.out.now → after.out.now ≡ paste before.out.now before.at l (length l)) b₁ (both.output (r₁ ∙ none)) room;
          small = omega (arith, both.small);
          same = both.same;
        };
      }

  pub emitting_fault : {V : Type 0} {i : ℕ} {s : S} {before now after : Cursor} {r : Result S Refusal} (m : ℕ) (a : A) (x : Refusal) (v : V) →
      Emitting most f w next s₀ xs i s before now → Emits most (f s a) (w s a) (next s a) now after r → r ≡ Err x → i < length xs → a ≡ get_or xs i a → most * (i + 1) ≤ m →
      Emits m (refused_all f next s₀ xs) (bytes_all w next s₀ xs) v before after (Err x)
  emitting_fault {i = i} {s} {before} {now} {after} m a x v h g is inside here le =
      let t = take i xs in
      let all : xs ≡ t ++ a ∷ drop (suc i) xs = sym (take-append-drop i xs) ∙ ap (λ l. t ++ l) (drop-cons xs i a inside ∙ ap (λ b. b ∷ drop (suc i) xs) (sym here)) in
      let p = answered_ok (refused_all f next s₀ t) s (state_after next s₀ t) h.emits.answer in
      let bad = ap (λ s. f s a) (sym p.1) ∙ answered_err (f s a) (next s a) x (sym is ∙ g.answer) in
      refused m (refused_all f next s₀ xs) (bytes_all w next s₀ xs) v before after x
      (ap (refused_all f next s₀) all ∙ refused_all_append f w next t (a ∷ drop (suc i) xs) s₀
      ∙ ap (λ k. or_else k (refused_all f next (state_after next s₀ t) (a ∷ drop (suc i) xs))) p.0
      ∙ refused_first f w next (state_after next s₀ t) a (drop (suc i) xs) x bad)
      (omega (arith, h.emits.small, g.small)) (g.same ∙ h.emits.same)

  pub emitting_end : {V : Type 0} {i : ℕ} {s : S} {before now : Cursor} (v : V) → Emitting most f w next s₀ xs i s before now → length xs ≤ i → Emits (most * i) (refused_all f next s₀ xs) (bytes_all w next s₀ xs) v before now (Ok v)
  emitting_end {i = i} {s} {before} {now} v h all =
      subst (λ ys. Emits (most * i) (refused_all f next s₀ ys) (bytes_all w next s₀ ys) v before now (Ok v)) (take_all i xs all) (emits_value s v h.emits refl)

-- a number that was written lies within its limits
pub in_limits : (lo hi : ℕ) (k : Refusal) (n : ℕ) → outside lo hi k n ≡ None → (lo ≤ n) × (n ≤ hi)
in_limits lo hi k n none = grind (arith, nat_tests)

-- after a test that did not refuse
pub emits_tested : {V : Type 0} {m : ℕ} {o : Option Refusal} {bytes : List ℕ} {v : V} {a b : Cursor} {r : Result V Refusal} (t : Bool) (k : Refusal) → t ≡ true → Emits m o bytes v a b r → Emits m (or_else (cond t None (Some k)) o) bytes v a b r
emits_tested {m = m} {o} {bytes} {v} {a} {b} {r} t k e h = subst (λ t. Emits m (or_else (cond t None (Some k)) o) bytes v a b r) (sym e) h
