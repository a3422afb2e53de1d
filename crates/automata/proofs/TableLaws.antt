-- The automaton of a table keeps the laws of a rule, and depends on its rows alone.
use Rattle.std.proofs.Common.{◌≡◌, ℕ, ◌+◌, ◌*◌, ◌<◌, ◌≤◌, Bool, true, false, cond, ◌&&◌, ltb, List, get_or, Some, None, Option, refl, arith}
use Rattle.std.proofs.lemmas.Bool.Decides.{nat_tests}
use Rattle.model.specs.Rules.{LawfulRule, label_count}
use Rattle.automata.specs.Tables.{tabled, Closed}

given_one : (b : Bool) (o : Option ℕ) (n : ℕ) → cond b o None ≡ Some n → o ≡ Some n
given_one true o n h = h
given_one false o n h = let z : ◌≡◌ {A = ℕ} 0 1 = cc in absurd (omega arith)

pub tabled_lawful : (k : ℕ) (steps : List (Option ℕ)) (marks : List Bool) → 1 ≤ k → k ≤ 16 → Closed k steps → LawfulRule (tabled k steps marks)
tabled_lawful k steps marks some few closed = record {
  some = some;
  few = omega arith;
  closed = λ s x n h. closed (s * label_count + x) n (given_one (ltb s k && ltb x label_count) _ n h);
  beyond = λ s x le. grind (arith, nat_tests);
  unlabelled = λ s x le. grind (arith, nat_tests);
  ended = λ s h. grind (arith, nat_tests);
}

alike : (b : Bool) (o u : Option ℕ) → (b ≡ true → o ≡ u) → cond b o None ≡ cond b u None
alike true o u h = h refl
alike false o u h = refl

alike_marks : (b p q : Bool) → (b ≡ true → p ≡ q) → (b && p) ≡ (b && q)
alike_marks true p q h = h refl
alike_marks false p q h = refl

row : (k s x : ℕ) → (ltb s k && ltb x label_count) ≡ true → s * label_count + x < k * label_count
row k s x h = let p : (s < k) × (x < label_count) = grind (arith, nat_tests) in omega arith

state : (k s : ℕ) → ltb s k ≡ true → s < k
state k s h = grind (arith, nat_tests)

-- tables with the same rows and marks for each of the states are the same automaton
pub tabled_same : (k : ℕ) (xs ys : List (Option ℕ)) (ms ns : List Bool) → ((i : ℕ) → i < k * label_count → get_or xs i None ≡ get_or ys i None) → ((i : ℕ) → i < k → get_or ms i false ≡ get_or ns i false) → tabled k xs ms ≡ tabled k ys ns
tabled_same k xs ys ms ns steps marks = λ j. record {
  states = k;
  next = λ s x. alike (ltb s k && ltb x label_count) (get_or xs (s * label_count + x) None) (get_or ys (s * label_count + x) None) (λ b. steps (s * label_count + x) (row k s x b)) j;
  ends = λ s. alike_marks (ltb s k) (get_or ms s false) (get_or ns s false) (λ b. marks s (state k s b)) j;
}
