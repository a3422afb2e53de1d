-- The automaton that counts boardings keeps the laws of a rule, and accepts just the words with few enough of them.
use Rattle.std.proofs.Common.{◌≡◌, ℕ, ◌+◌, ◌<◌, ◌≤◌, Bool, true, false, cond, ◌&&◌, ltb, leb, List, [], ◌∷◌, Some, None, Option, ap, ◌∙◌, arith}
use Rattle.std.proofs.lemmas.Bool.Decides.{nat_tests}
use Rattle.std.proofs.lemmas.Bool.{le-leb}
use Rattle.model.specs.Rules.{LawfulRule, label_count, leads}
use Rattle.automata.specs.Words.{Labels, AcceptsJust}
use Rattle.automata.specs.Boardings.{boards, boardings, boarded, AtMost}
use Rattle.model.proofs.Options.{onward_parts}

-- the step that a boarding takes, or another label
abbrev stepped : ℕ → ℕ → ℕ → Bool → Option ℕ
stepped n s x b = cond (leb s n && ltb x label_count) (cond b (cond (ltb s n) (Some (s + 1)) None) (Some s)) None

step_back : (n s x m : ℕ) (b : Bool) → stepped n s x b ≡ Some m → (x < label_count) × (m ≡ s + cond b 1 0) × (m ≤ n)
step_back n s x m true h = grind (arith, nat_tests)
step_back n s x m false h = grind (arith, nat_tests)

step_on : (n s x : ℕ) (b : Bool) → x < label_count → s + cond b 1 0 ≤ n → stepped n s x b ≡ Some (s + cond b 1 0)
step_on n s x true lt le = grind (arith, nat_tests)
step_on n s x false lt le = grind (arith, nat_tests)

pub boarded_lawful : (n : ℕ) → n ≤ 15 → LawfulRule (boarded n)
boarded_lawful n le = record {
  some = omega arith;
  few = omega arith;
  closed = λ s x m h. let p = step_back n s x m (boards x) h in omega arith;
  beyond = λ s x h. grind (arith, nat_tests);
  unlabelled = λ s x h. grind (arith, nat_tests);
  ended = λ s h. grind (arith, nat_tests);
}

module _ (n : ℕ) where
  counts : (s : ℕ) (word : List ℕ) (t : ℕ) → s ≤ n → leads (boarded n).next s word ≡ Some t → Labels word × (t ≡ s + boardings word) × (t ≤ n)
  counts s [] t le h = let e : s ≡ t = cc in (tt, omega arith, omega arith)
  counts s (x ∷ xs) t le h =
      let p = onward_parts ((boarded n).next s x) (λ m. leads (boarded n).next m xs) t h in
      let q = step_back n s x p.0 (boards x) p.1 in
      let r = counts p.0 xs t q.2 p.2 in
      ((q.0, r.0), omega arith, r.2)

  counted : (s : ℕ) (word : List ℕ) → Labels word → s + boardings word ≤ n → leads (boarded n).next s word ≡ Some (s + boardings word)
  counted s [] all le = let e : s ≡ s + 0 = omega arith in ap (λ m. Some m) e
  counted s (x ∷ xs) all le =
      let c : ℕ = cond (boards x) 1 0 in
      let on = step_on n s x (boards x) all.0 (omega arith) in
      let e : s + c + boardings xs ≡ s + (c + boardings xs) = omega arith in
      rw on (counted (s + c) xs all.1 (omega arith) ∙ ap (λ m. Some m) e)

  pub boarded_words : AcceptsJust (boarded n) (AtMost n)
  boarded_words = record {
    only = λ word a. let p = counts 0 word a.last (omega arith) a.led in (p.0, omega arith);
    all = λ word p. record {
      last = 0 + boardings word;
      led = counted 0 word p.0 (omega arith);
      ending = le-leb (0 + boardings word) n (omega arith);
    };
  }
