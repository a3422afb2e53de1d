-- A script that has come so far, and one step more.
use Rattle.std.proofs.Common.{◌≡◌, ℕ, ◌+◌, ◌<◌, ◌≤◌, Bool, true, false, cond, eqb, ◌≢◌, List, [], ◌∷◌, ◌++◌, length, get_or, take, set, None, Option, sym, refl, ap, ◌∙◌, subst, ⊎_elim, append_assoc, append-nil, arith}
use Rattle.std.proofs.lemmas.List.{get_or-set_same, get_or-set_other, get_or_read, take_more_set, take-set-le, take_all}
use Rattle.std.proofs.lemmas.Bool.{cases_eq, eq-eqb, ne_eqb}
use Rattle.model.specs.declared.network.Arc.{Arc}
use Rattle.model.specs.declared.network.Leg.{Leg}
use Rattle.model.specs.Rules.{Automaton}
use Rattle.ledger.specs.Ledgers.{Call, Ledger, going, fresh, ledger}
use Rattle.ledger.proofs.Runs.{going_append}
use Rattle.planner.specs.declared.planner.Bulletin.{Bulletin}
use Rattle.planner.specs.declared.planner.Planner.{Planner}
use Rattle.planner.specs.Planners.{AsLedger, state}
use Rattle.scripts.specs.declared.step.Action.{Action}
use Rattle.scripts.specs.declared.step.Action.TheVariants.{Ask, Change as Changing}
use Rattle.scripts.specs.declared.step.Reply.{Reply}
use Rattle.scripts.specs.declared.step.Step.{Step}
use Rattle.scripts.specs.Scripts.{call_of, calls_at, held_by, held, reply_of, Meaning, meaning, Ground, ground_of, AskAnswered, Replied, Kept, Absent, AnsweredAfter, Performed, Ran}

-- the calls and the slot of one step more
calls_more : (i : ℕ) (xs : List Step) (s : Step) → calls_at i (xs ++ s ∷ []) ≡ calls_at i xs ++ cond (eqb s.planner i) (call_of s.action s.reply) []
calls_more i [] s = append-nil _
calls_more i (x ∷ xs) s = ap (λ (l : List Call). cond (eqb x.planner i) (call_of x.action x.reply) [] ++ l) (calls_more i xs s) ∙ sym (append_assoc _ (calls_at i xs) _)

held_more : (j : ℕ) (xs : List Step) (s : Step) (o : Option Bulletin) → held j (xs ++ s ∷ []) o ≡ held_by j s.action s.reply (held j xs o)
held_more j [] s o = refl
held_more j (x ∷ xs) s o = held_more j xs s (held_by j x.action x.reply o)

-- what comes of a step, by equal meanings, ledgers and slots
replied_as : (L Q : Type 0) (on : Ground) (m m' : Meaning) (g g' : Ledger) (many : ℕ) (slot slot' : ℕ → Option Bulletin) (slip slip' : List Leg) (r : Reply) (a : Action)
    → m ≡ m' → g ≡ g' → ((j : ℕ) → j < many → slot j ≡ slot' j) → Replied L Q on m g many slot slip slip' r a → Replied L Q on m' g' many slot' slip slip' r a
replied_as L Q on m m' g g' many slot slot' slip slip' r (Ask q) em eg es x =
    subst (λ (n : Meaning). AskAnswered L Q on n g' q slip slip' r) em (subst (λ (k : Ledger). AskAnswered L Q on m k q slip slip' r) eg x)
replied_as L Q on m m' g g' many slot slot' slip slip' r (Changing j c) em eg es x =
    (λ lt. x.0 lt ∙ (λ i. reply_of (em i).mark (em i).count (eg i) c (es j lt i)), x.1, x.2)

module _ {B R : Type 0} (size : B → ℕ) (answers : B → ℕ → ℕ → Option ℕ) (automata : R → Automaton) where
  kept_means : (p q : Planner B R) → Kept p q → meaning size answers automata q ≡ meaning size answers automata p
  kept_means p q k = λ i. record { mark = k.mark i; count = size (k.book i); answer = answers (k.book i); rule = automata (k.rule i) }

  kept_refl : (p : Planner B R) → Kept p p
  kept_refl p = record { book = refl; rule = refl; mark = refl }

  kept_on : (p q r : Planner B R) → Kept p q → Kept q r → Kept p r
  kept_on p q r a b = record { book = b.book ∙ a.book; rule = b.rule ∙ a.rule; mark = b.mark ∙ a.mark }

  -- some calls more
  along_calls : (p q : Planner B R) (h k : List Call) → Kept p q → state q ≡ going p.mark (size p.book.below) (state p) k → AsLedger size p h → AsLedger size q (h ++ k)
  along_calls p q h k kept then as-ledger =
      then
      ∙ ap (λ (g : Ledger). going p.mark (size p.book.below) g k) as-ledger
      ∙ sym (going_append p.mark (size p.book.below) fresh h k)
      ∙ (λ i. ledger (sym kept.mark i) (size (sym kept.book i)) (h ++ k))

  -- the first n steps are made
  pub record Running (L Q : Type 0) (on : Ground) (ps : List (Planner B R)) (os : List (Option Bulletin)) (ss : List Step)
      (ps' : List (Planner B R)) (os' : List (Option Bulletin)) (ss' : List Step) (n : ℕ) : Type 0 where
    pub rest : (k : ℕ) (e : Step) → n ≤ k → get_or ss' k e ≡ get_or ss k e
    pub same_planner : (k : ℕ) (e : Step) → (get_or ss' k e).planner ≡ (get_or ss k e).planner
    pub same_action : (k : ℕ) (e : Step) → (get_or ss' k e).action ≡ (get_or ss k e).action
    pub absent : (k : ℕ) (e : Step) → k < n → Absent ps (get_or ss k e) (get_or ss' k e)
    pub answered : (k : ℕ) (e : Step) → k < n → AnsweredAfter L Q size answers automata on ps os (take k ss') (get_or ss k e) (get_or ss' k e)
    pub alone : (i : ℕ) (d : Planner B R) (h : List Call) → i < length ps → AsLedger size (get_or ps i d) h → AsLedger size (get_or ps' i d) (h ++ calls_at i (take n ss'))
    pub kept : (i : ℕ) (d : Planner B R) → i < length ps → Kept (get_or ps i d) (get_or ps' i d)
    pub slots : (j : ℕ) → j < length os → get_or os' j None ≡ held j (take n ss') (get_or os j None)

  module _ (L Q : Type 0) (on : Ground) (ps : List (Planner B R)) (os : List (Option Bulletin)) (ss : List Step) where
    pub running_all : (ps' : List (Planner B R)) (os' : List (Option Bulletin)) (ss' : List Step) (n : ℕ) → length ss ≤ n → length ss' ≡ length ss
        → Running L Q on ps os ss ps' os' ss' n → Ran L Q size answers automata on ps os ss ps' os' ss'
    running_all ps' os' ss' n le long r =
        let all : take n ss' ≡ ss' = take_all n ss' (omega arith) in
        record {
          same_planner = r.same_planner;
          same_action = r.same_action;
          absent = λ k e lt. r.absent k e (omega arith);
          answered = λ k e lt. r.answered k e (omega arith);
          alone = λ i d h lt as-ledger. subst (λ (l : List Step). AsLedger size (get_or ps' i d) (h ++ calls_at i l)) all (r.alone i d h lt as-ledger);
          kept = r.kept;
          slots = λ j lt. r.slots j lt ∙ ap (λ (l : List Step). held j l (get_or os j None)) all;
        }

    module _ (ps' ps'' : List (Planner B R)) (os' os'' : List (Option Bulletin)) (ss' : List Step) (s s'' : Step) (n : ℕ)
        (lt : n < length ss') (many : length ps' ≡ length ps) (slots_many : length os' ≡ length os) (read : s ≡ get_or ss' n s)
        (r : Running L Q on ps os ss ps' os' ss' n) (step : Performed L Q size answers automata on ps' os' s ps'' os'' s'') where
      after : List Step
      after = set ss' n s''

      now_is : (e : Step) → get_or (set ss' n s'') n e ≡ s''
      now_is e = get_or-set_same ss' n s'' e lt

      other_is : (k : ℕ) (e : Step) → k ≢ n → get_or (set ss' n s'') k e ≡ get_or ss' k e
      other_is k e ne = get_or-set_other ss' n k s'' e ne

      was : (e : Step) → s ≡ get_or ss n e
      was e = get_or_read ss' n s lt read e ∙ r.rest n e (omega arith)

      by_index : (P : ℕ → Type 0) (k : ℕ) → P n → (k ≢ n → P k) → P k
      by_index P k here there = ⊎_elim (λ (e : k ≡ n). subst P (sym e) here) there (cases_eq k n)

      -- the planner of index i, whether the step was at it or not
      one_more : (i : ℕ) (d : Planner B R) → i < length ps → Kept (get_or ps' i d) (get_or ps'' i d) × (state (get_or ps'' i d) ≡ going (get_or ps' i d).mark (size (get_or ps' i d).book.below) (state (get_or ps' i d)) (cond (eqb s''.planner i) (call_of s''.action s''.reply) []))
      one_more i d within =
          ⊎_elim
          (λ (e : i ≡ s.planner).
          let ok : s.planner < length ps' = omega arith in
          let is : eqb s''.planner i ≡ true = eq-eqb _ _ (step.same_planner ∙ sym e) in
          let then = subst (λ (k : ℕ). Kept (get_or ps' k d) (get_or ps'' k d) × (state (get_or ps'' k d) ≡ going (get_or ps' k d).mark (size (get_or ps' k d).book.below) (state (get_or ps' k d)) (call_of s''.action s''.reply))) (sym e) (step.kept d ok, step.then d ok) in
          (then.0, then.1 ∙ ap (λ (b : Bool). going (get_or ps' i d).mark (size (get_or ps' i d).book.below) (state (get_or ps' i d)) (cond b (call_of s''.action s''.reply) [])) (sym is)))
          (λ (ne : i ≢ s.planner).
          let is : eqb s''.planner i ≡ false = ne_eqb _ _ (λ same. ne (sym same ∙ step.same_planner)) in
          let kept_same : get_or ps'' i d ≡ get_or ps' i d = step.others i d ne in
          (subst (Kept (get_or ps' i d)) (sym kept_same) (kept_refl (get_or ps' i d)), ap state kept_same ∙ ap (λ (b : Bool). going (get_or ps' i d).mark (size (get_or ps' i d).book.below) (state (get_or ps' i d)) (cond b (call_of s''.action s''.reply) [])) (sym is)))
          (cases_eq i s.planner)

      more_steps : take (n + 1) (set ss' n s'') ≡ take n ss' ++ s'' ∷ []
      more_steps = take_more_set ss' n s'' lt

      -- this step's answer
      this_answered : AnsweredAfter L Q size answers automata on ps os (take n ss') s s''
      this_answered d h ok as-ledger =
          let i = s.planner in
          let before = r.alone i d h ok as-ledger in
          let k = r.kept i d ok in
          replied_as L Q on (meaning size answers automata (get_or ps' i d)) (meaning size answers automata (get_or ps i d)) (state (get_or ps' i d)) (ledger (get_or ps i d).mark (size (get_or ps i d).book.below) (h ++ calls_at i (take n ss'))) (length os) (λ j. get_or os' j None) (λ j. held j (take n ss') (get_or os j None)) s.slip s''.slip s''.reply s.action
          (kept_means (get_or ps i d) (get_or ps' i d) k)
          (before ∙ (λ x. ledger (k.mark x) (size (k.book x)) (h ++ calls_at i (take n ss'))))
          r.slots
          (subst (λ (m : ℕ). Replied L Q on (meaning size answers automata (get_or ps' i d)) (state (get_or ps' i d)) m (λ j. get_or os' j None) s.slip s''.slip s''.reply s.action) slots_many (step.replied d (omega arith)))

      pub running_more : Running L Q on ps os ss ps'' os'' (set ss' n s'') (n + 1)
      running_more = record {
        rest = λ k e le. let ne : k ≢ n = omega arith in other_is k e ne ∙ r.rest k e (omega arith);
        same_planner = λ k e. by_index (λ m. (get_or (set ss' n s'') m e).planner ≡ (get_or ss m e).planner) k (ap (λ (t : Step). t.planner) (now_is e) ∙ step.same_planner ∙ ap (λ (t : Step). t.planner) (was e)) (λ ne. ap (λ (t : Step). t.planner) (other_is k e ne) ∙ r.same_planner k e);
        same_action = λ k e. by_index (λ m. (get_or (set ss' n s'') m e).action ≡ (get_or ss m e).action) k (ap (λ (t : Step). t.action) (now_is e) ∙ step.same_action ∙ ap (λ (t : Step). t.action) (was e)) (λ ne. ap (λ (t : Step). t.action) (other_is k e ne) ∙ r.same_action k e);
        absent = λ k e lt'. by_index (λ m. Absent ps (get_or ss m e) (get_or (set ss' n s'') m e)) k
            (subst (λ (t : Step). Absent ps t (get_or (set ss' n s'') n e)) (was e) (subst (λ (t : Step). Absent ps s t) (sym (now_is e)) (λ le. step.absent (omega arith))))
            (λ ne. subst (λ (t : Step). Absent ps (get_or ss k e) t) (sym (other_is k e ne)) (r.absent k e (omega (arith, ne))));
        answered = λ k e lt'. by_index (λ m. AnsweredAfter L Q size answers automata on ps os (take m (set ss' n s'')) (get_or ss m e) (get_or (set ss' n s'') m e)) k
            (subst (λ (l : List Step). AnsweredAfter L Q size answers automata on ps os l (get_or ss n e) (get_or (set ss' n s'') n e)) (sym (take-set-le n ss' n s'' (omega arith)))
            (subst (λ (t : Step). AnsweredAfter L Q size answers automata on ps os (take n ss') t (get_or (set ss' n s'') n e)) (was e)
            (subst (λ (t : Step). AnsweredAfter L Q size answers automata on ps os (take n ss') s t) (sym (now_is e)) this_answered)))
            (λ ne. let below : k < n = omega (arith, ne) in
            subst (λ (l : List Step). AnsweredAfter L Q size answers automata on ps os l (get_or ss k e) (get_or (set ss' n s'') k e)) (sym (take-set-le k ss' n s'' (omega arith)))
            (subst (λ (t : Step). AnsweredAfter L Q size answers automata on ps os (take k ss') (get_or ss k e) t) (sym (other_is k e ne)) (r.answered k e below)));
        alone = λ i d h within as-ledger.
            let one = one_more i d within in
            subst (AsLedger size (get_or ps'' i d)) (append_assoc h (calls_at i (take n ss')) _ ∙ ap (λ (l : List Call). h ++ l) (sym (calls_more i (take n ss') s'')) ∙ ap (λ (l : List Step). h ++ calls_at i l) (sym more_steps))
            (along_calls (get_or ps' i d) (get_or ps'' i d) (h ++ calls_at i (take n ss')) _ one.0 one.1 (r.alone i d h within as-ledger));
        kept = λ i d within. kept_on (get_or ps i d) (get_or ps' i d) (get_or ps'' i d) (r.kept i d within) (one_more i d within).0;
        slots = λ j within.
            step.slots j (omega arith)
            ∙ ap (held_by j s''.action s''.reply) (r.slots j within)
            ∙ sym (held_more j (take n ss') s'' (get_or os j None))
            ∙ ap (λ (l : List Step). held j l (get_or os j None)) (sym more_steps);
      }

-- the same step over tables of the same lengths
pub same_ground : {B R : Type 0} {L Q : Type 0} {size : B → ℕ} {answers : B → ℕ → ℕ → Option ℕ} {automata : R → Automaton} (stops : ℕ) (arcs : List Arc) (rows rows' slots slots' : ℕ) {ps ps' : List (Planner B R)} {os os' : List (Option Bulletin)} {s s' : Step} → rows ≡ rows' → slots ≡ slots' → Performed L Q size answers automata (ground_of stops arcs rows slots) ps os s ps' os' s' → Performed L Q size answers automata (ground_of stops arcs rows' slots') ps os s ps' os' s'
same_ground {L = L} {Q = Q} {size = size} {answers = answers} {automata = automata} stops arcs rows rows' slots slots' {ps} {ps'} {os} {os'} {s} {s'} e f p =
    subst (λ (n : ℕ). Performed L Q size answers automata (ground_of stops arcs rows' n) ps os s ps' os' s') f (subst (λ (n : ℕ). Performed L Q size answers automata (ground_of stops arcs n slots) ps os s ps' os' s') e p)
