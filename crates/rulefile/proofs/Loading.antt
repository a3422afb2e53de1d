-- The rule that a file holds, from its marks and its table.
use Rattle.std.proofs.Common.{◌≡◌, ℕ, ◌+◌, ◌*◌, ◌/◌, ◌%◌, ◌<◌, ◌≤◌, Bool, true, false, cond, ◌&&◌, eqb, ltb, leb, List, [], ◌∷◌, length, get_or, take, drop, Some, None, Ok, Err, Option, Result, MatchResult, sym, refl, ap, ◌∙◌, subst, ⊎_elim, arith, drop_of_length-le, length-take, get_or-take}
use lib.ListN.{get_or-eq_default}
use Rattle.std.proofs.lemmas.Bool.{cases_lt, eqb-true}
use Rattle.std.proofs.lemmas.Bool.Decides.{nat_tests}
use Rattle.model.specs.declared.refusal.Refusal.TheVariants.{FileEndsEarly, RuleField}
use Rattle.automata.specs.Tables.{tabled, Closed}
use Rattle.rules.specs.Faults.{SoundTable}
use Rattle.formats.specs.declared.rule_step.RuleStep.{RuleStep}
use Rattle.formats.specs.RuleFile.{mark, step, stepped, steps, contents_of, rule, leads_to, automaton_of}
use Rattle.formats.proofs.RuleFile.{rule_lawful}
use Rattle.wire.specs.declared.fault.Fault.{Fault}
use Rattle.wire.specs.Grammar.{and_then, many, FineAll}
use Rattle.wire.specs.Numbers.{groups, limited, decode}
use Rattle.wire.specs.Places.{number_at, placed, wrong}
use Rattle.rules.specs.declared.table.TableRule.{TableRule}
use Rattle.rules.specs.declared.fault.RuleFault.{RuleFault}
use Rattle.rules.proofs.Faultless.{sound_not_at_fault}
use Rattle.std.specs.Result.{IsErrAnd}
use Rattle.rulefile.specs.Loading.{Made, meaning}
use Rattle.rulefile.specs.declared.load.RuleTables.{RuleTables}
use Rattle.rulefile.specs.Tables.{Shows, Tables}

-- what the steps of a rule of k states lead from, by and to
leads_within : (k : ℕ) (before : Option RuleStep) (xs : List RuleStep) → FineAll (step k) stepped before xs → (s x m : ℕ) → leads_to xs s x ≡ Some m → (s < k) × (x < 6) × (m < k)
unfolding FineAll
leads_within k before [] fine s x m e = let z : ◌≡◌ {A = ℕ} 0 1 = cc in absurd (omega arith)
leads_within k before (t ∷ xs) fine s x m e = go (eqb t.state s) refl (eqb t.label x) refl e (leads_within k (Some t) xs fine.1 s x m)
  where
    go : (p : Bool) → eqb t.state s ≡ p → (q : Bool) → eqb t.label x ≡ q → cond (p && q) (Some t.next) (leads_to xs s x) ≡ Some m →
        (leads_to xs s x ≡ Some m → (s < k) × (x < 6) × (m < k)) → (s < k) × (x < 6) × (m < k)
    go true ep true eq e ih =
        let same : t.next ≡ m = cc in
        (omega (arith, fine.0.0.0, eqb-true t.state s ep), omega (arith, fine.0.0.1, eqb-true t.label x eq), omega (arith, fine.0.0.2))
    go true ep false eq e ih = ih e
    go false ep q eq e ih = ih e

module _ (k : ℕ) (few : k ≤ 16) (table : List (Option ℕ)) (xs : List RuleStep) (shows : Shows table xs) (fine : FineAll (step k) stepped None xs) (n : ℕ) (rows : n ≡ k * 6) where
  short_long : length (take n table) ≡ k * 6
  short_long = length-take n table ∙ omega (arith, shows.long)

  row_entry : (s x : ℕ) → s < k → x < 6 → get_or (take n table) (s * 6 + x) None ≡ leads_to xs s x
  row_entry s x hs hx = get_or-take n table (s * 6 + x) None (omega arith) ∙ shows.entries s x (omega arith) hx

  next_entry : (s x : ℕ) → cond (ltb s k && ltb x 6) (get_or (take n table) (s * 6 + x) None) None ≡ leads_to xs s x
  next_entry s x = go (ltb s k && ltb x 6) refl
    where
      go : (b : Bool) → (ltb s k && ltb x 6) ≡ b → cond b (get_or (take n table) (s * 6 + x) None) None ≡ leads_to xs s x
      go true e = let p : (s < k) × (x < 6) = grind (arith, nat_tests) in row_entry s x p.0 p.1
      go false e = none (leads_to xs s x) refl
        where
          none : (o : Option ℕ) → leads_to xs s x ≡ o → None ≡ leads_to xs s x
          none None is = sym is
          none (Some m) is = let w = leads_within k None xs fine s x m is in absurd (grind (arith, nat_tests, w.0, w.1))

  closed : Closed k (take n table)
  closed i m e = ⊎_elim
      (λ lt. let at : i ≡ i / 6 * 6 + i % 6 = omega arith in
      (leads_within k None xs fine (i / 6) (i % 6) m (sym (row_entry (i / 6) (i % 6) (omega (arith, short_long)) (omega arith)) ∙ ap (λ j. get_or (take n table) j None) (sym at) ∙ e)).2)
      (λ le. let beyond = get_or-eq_default (take n table) None le in let z : ◌≡◌ {A = ℕ} 0 1 = cc in absurd (omega arith))
      (cases_lt i (length (take n table)))

  module _ (ends : List Bool) (long : length ends ≡ k) where
    pub sound_table : 1 ≤ k → SoundTable k (take n table) ends
    sound_table some = record { states = (some, few); rows = short_long; ends = long; closed = closed }

    ends_entry : (s : ℕ) → (ltb s k && get_or ends s false) ≡ get_or ends s false
    ends_entry s = go (ltb s k) refl
      where
        go : (b : Bool) → ltb s k ≡ b → (b && get_or ends s false) ≡ get_or ends s false
        go true e = refl
        go false e = let past : length ends ≤ s = grind (arith, nat_tests) in sym (get_or-eq_default ends false past)

    pub rule_of_file : tabled k (take n table) ends ≡ automaton_of (contents_of (ends, xs))
    rule_of_file = λ j. record { states = sym long j; next = λ s x. next_entry s x j; ends = λ s. ends_entry s j }

-- a file that begins past the end of the bytes
pub past_the_end : (bs : List ℕ) (at : ℕ) → length bs < at → rule.read bs at ≡ Err (wrong FileEndsEarly at)
unfolding number_at decode groups limited
past_the_end bs at past =
    let none : drop at bs ≡ [] = drop_of_length-le bs (omega arith) in
    ap (λ l. and_then (and_then (and_then (and_then (placed at (decode l)) (λ n q. cond (leb 1 n && leb n 16) (Ok (n, q)) (Err (wrong RuleField at)))) (λ n q. many (λ _. mark) (λ _ _. tt) tt n bs q)) (λ a q. and_then ((steps (length a)).read bs q) (λ b r. Ok ((a, b), r)))) (λ a q. Ok (contents_of a, q))) none

-- the tables of a file are sound, and they are its rule
module _ (t : RuleTables) (xs : List RuleStep) (bs : List ℕ) (at end : ℕ) (read : rule.read bs at ≡ Ok (contents_of (take t.states t.ends, xs), end)) (tables : Tables t xs) where
  marks_long : length (take t.states t.ends) ≡ t.states
  marks_long = length-take t.states t.ends ∙ omega (arith, tables.few, tables.marks)

  steps_fine : FineAll (step t.states) stepped None xs
  steps_fine = subst (λ k. FineAll (step k) stepped None xs) marks_long (rule_lawful.held (contents_of (take t.states t.ends, xs)) bs at end read).fine.steps.1

  pub tables_sound : SoundTable t.states (take (t.states * 6) t.next) (take t.states t.ends)
  tables_sound = sound_table t.states tables.few t.next xs tables.shows steps_fine (t.states * 6) refl (take t.states t.ends) marks_long tables.some

  pub tables_rule : tabled t.states (take (t.states * 6) t.next) (take t.states t.ends) ≡ automaton_of (contents_of (take t.states t.ends, xs))
  tables_rule = rule_of_file t.states tables.few t.next xs tables.shows steps_fine (t.states * 6) refl (take t.states t.ends) marks_long

  -- the maker takes them
  pub tables_taken : {D : Type 0} (P : RuleFault → D → Type 0) (r : Result TableRule RuleFault) (q : Result TableRule D) → Made t r → MatchResult r (λ x. q ≡ Ok x) (λ e. IsErrAnd q (P e)) →
      (rule : TableRule) × (q ≡ Ok rule) × (meaning rule ≡ automaton_of (contents_of (take t.states t.ends, xs)))
  tables_taken P (Ok made_rule) q made cases = (made_rule, cases, made ∙ tables_rule)
  tables_taken P (Err f) q made cases = absurd (sound_not_at_fault f _ _ _ tables_sound made)
