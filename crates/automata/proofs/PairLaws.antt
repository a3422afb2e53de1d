-- A pair of rules keeps the laws of a rule; one that fits accepts just the words of both, and one that does not fit accepts none.
use Rattle.std.proofs.Common.{◌≡◌, ℕ, ◌+◌, ◌*◌, ◌/◌, ◌%◌, ◌<◌, ◌≤◌, Bool, true, false, cond, ◌&&◌, leb, List, [], ◌∷◌, Some, None, Option, sym, refl, ap, ◌∙◌, ⊎_elim, mul_comm, arith}
use Rattle.std.proofs.lemmas.Nat.{mul-le, mul-add-lt, div-mul-add, mod-mul-add, le-div}
use Rattle.std.proofs.lemmas.Bool.{cases_lt}
use Rattle.std.proofs.lemmas.Bool.Decides.{nat_tests}
use Rattle.model.specs.Rules.{Automaton, LawfulRule, onward, leads}
use Rattle.automata.specs.Words.{AcceptsJust}
use Rattle.automata.specs.Pairs.{both, most_pair_states, pair_fits, paired, AcceptedByBoth, PairStateExamples}
use Rattle.automata.proofs.Leading.{leads_below}

-- ---- states for two states

pub both_some : (k : ℕ) (o u : Option ℕ) (n : ℕ) → both k o u ≡ Some n → (i j : ℕ) × (o ≡ Some i) × (u ≡ Some j) × (n ≡ i * k + j)
both_some k None u n h = let z : ◌≡◌ {A = ℕ} 0 1 = cc in absurd (omega arith)
both_some k (Some i) None n h = let z : ◌≡◌ {A = ℕ} 0 1 = cc in absurd (omega arith)
both_some k (Some i) (Some j) n h = (i, j, refl, refl, (cc))

-- the state of a pair that fits is below the most
pub both_below : (i j m n : ℕ) → i < m → j < n → m * n ≤ most_pair_states → i * n + j < most_pair_states
both_below i j m n il jl fits = omega (arith, mul-add-lt i n j m il jl, mul_comm m n)

both_none : (k : ℕ) (o : Option ℕ) → both k o None ≡ None
both_none k None = refl
both_none k (Some i) = refl

and_true : (p q : Bool) → (p && q) ≡ true → (p ≡ true) × (q ≡ true)
and_true true q h = (refl, h)
and_true false q h = let z : ◌≡◌ {A = ℕ} 0 1 = cc in absurd (omega arith)

both_true : (p q : Bool) → p ≡ true → q ≡ true → (p && q) ≡ true
both_true p q h k = (λ i. h i && k i)

module _ (a b : Automaton) (p : LawfulRule a) (q : LawfulRule b) where
  -- the pair, by whether it fits
  abbrev by : Bool → Automaton
  by fits = record {
    states = cond fits (a.states * b.states) (most_pair_states + 1);
    next = λ s x. cond fits (both b.states (a.next (s / b.states) x) (b.next (s % b.states) x)) None;
    ends = λ s. cond fits (a.ends (s / b.states) && b.ends (s % b.states)) false;
  }

  wide : 0 < b.states
  wide = omega (arith, q.some)

  high : (s : ℕ) → a.states * b.states ≤ s → a.states ≤ s / b.states
  high s le = le-div a.states s b.states wide le

  law_by : (fits : Bool) → pair_fits a.states b.states ≡ fits → LawfulRule (by fits)
  law_by true e = record {
    some = mul-le 1 1 a.states b.states p.some q.some;
    few = few_states (a.states * b.states) e;
    closed = λ s x n h.
        let t = both_some b.states (a.next (s / b.states) x) (b.next (s % b.states) x) n h in
        let i = p.closed (s / b.states) x t.0 t.2 in
        let j = q.closed (s % b.states) x t.1 t.3 in
        omega (arith, mul-add-lt t.0 b.states t.1 a.states i j, mul_comm a.states b.states);
    beyond = λ s x le. ap (λ o. both b.states o (b.next (s % b.states) x)) (p.beyond (s / b.states) x (high s le));
    unlabelled = λ s x le. ap (λ o. both b.states o (b.next (s % b.states) x)) (p.unlabelled (s / b.states) x le);
    ended = λ s h.
        let i = p.ended (s / b.states) (and_true _ (b.ends (s % b.states)) h).0 in
        ⊎_elim (λ lt. lt) (λ le. absurd (omega (arith, high s le))) (cases_lt s (a.states * b.states));
  }
    where
      few_states : (n : ℕ) → leb n most_pair_states ≡ true → n ≤ 65
      few_states n h = grind (arith, nat_tests)
  law_by false e = record {
    some = omega arith;
    few = omega arith;
    closed = λ s x n h. let z : ◌≡◌ {A = ℕ} 0 1 = cc in absurd (omega arith);
    beyond = λ s x le. refl;
    unlabelled = λ s x le. refl;
    ended = λ s h. let z : ◌≡◌ {A = ℕ} 0 1 = cc in absurd (omega arith);
  }

  pub paired_lawful : LawfulRule (paired a b)
  paired_lawful = law_by (pair_fits a.states b.states) refl

  -- ---- words

  leads_pair : (i j : ℕ) (word : List ℕ) → i < a.states → j < b.states → leads (by true).next (i * b.states + j) word ≡ both b.states (leads a.next i word) (leads b.next j word)
  leads_pair i j [] il jl = refl
  leads_pair i j (x ∷ xs) il jl =
      (λ t. onward (both b.states (a.next (div-mul-add i b.states j jl t) x) (b.next (mod-mul-add i b.states j jl t) x)) (λ n. leads (by true).next n xs))
      ∙ step (a.next i x) (b.next j x) refl refl (λ m n ml nl. leads_pair m n xs ml nl)
    where
      step : (o u : Option ℕ) → a.next i x ≡ o → b.next j x ≡ u → ((m n : ℕ) → m < a.states → n < b.states → leads (by true).next (m * b.states + n) xs ≡ both b.states (leads a.next m xs) (leads b.next n xs)) → onward (both b.states o u) (λ n. leads (by true).next n xs) ≡ both b.states (onward o (λ n. leads a.next n xs)) (onward u (λ n. leads b.next n xs))
      step None u f g rest = refl
      step (Some m) None f g rest = sym (both_none b.states (leads a.next m xs))
      step (Some m) (Some n) f g rest = rest m n (p.closed i x m f) (q.closed j x n g)

  from_start : (word : List ℕ) → leads (by true).next 0 word ≡ both b.states (leads a.next 0 word) (leads b.next 0 word)
  from_start word =
      let e : 0 ≡ 0 * b.states + 0 = omega arith in
      ap (λ s. leads (by true).next s word) e ∙ leads_pair 0 0 word (omega (arith, p.some)) wide

  words_by : (fits : Bool) → fits ≡ true → AcceptsJust (by fits) (AcceptedByBoth a b)
  words_by false e = let z : ◌≡◌ {A = ℕ} 0 1 = cc in absurd (omega arith)
  words_by true e = record {
    only = λ word h.
        let t = both_some b.states (leads a.next 0 word) (leads b.next 0 word) h.last (sym (from_start word) ∙ h.led) in
        let jl = leads_below b q 0 word t.1 wide t.3 in
        let ends = and_true (a.ends (h.last / b.states)) (b.ends (h.last % b.states)) h.ending in (
          record { last = t.0; led = t.2; ending = ap (λ s. a.ends s) (sym (ap (λ s. s / b.states) t.4 ∙ div-mul-add t.0 b.states t.1 jl)) ∙ ends.0 },
          record { last = t.1; led = t.3; ending = ap (λ s. b.ends s) (sym (ap (λ s. s % b.states) t.4 ∙ mod-mul-add t.0 b.states t.1 jl)) ∙ ends.1 },
        );
    all = λ word h.
        let jl = leads_below b q 0 word h.1.last wide h.1.led in
        record {
          last = h.0.last * b.states + h.1.last;
          led = from_start word ∙ (λ t. both b.states (h.0.led t) (h.1.led t));
          ending = both_true _ _ (ap (λ s. a.ends s) (div-mul-add h.0.last b.states h.1.last jl) ∙ h.0.ending) (ap (λ s. b.ends s) (mod-mul-add h.0.last b.states h.1.last jl) ∙ h.1.ending);
        };
  }

  pub paired_words : pair_fits a.states b.states ≡ true → AcceptsJust (paired a b) (AcceptedByBoth a b)
  paired_words fits = words_by (pair_fits a.states b.states) fits

  none_by : (fits : Bool) → fits ≡ false → AcceptsJust (by fits) (λ word. ⊥)
  none_by true e = let z : ◌≡◌ {A = ℕ} 0 1 = cc in absurd (omega arith)
  none_by false e = record {
    only = λ word h. let f = h.ending in let z : ◌≡◌ {A = ℕ} 0 1 = cc in omega arith;
    all = λ word h. absurd h;
  }

  pub overfull_words : pair_fits a.states b.states ≡ false → AcceptsJust (paired a b) (λ word. ⊥)
  overfull_words full = none_by (pair_fits a.states b.states) full

-- ---- worked examples

pub pair_state_examples : PairStateExamples
pair_state_examples = (λ a b e f. (λ i. cond (pair_fits (e i) (f i)) (e i * f i) (most_pair_states + 1)), λ a b e f. (λ i. cond (pair_fits (e i) (f i)) (e i * f i) (most_pair_states + 1)))
