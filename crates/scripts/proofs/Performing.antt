-- What one step makes of the planners and the slots.
use Rattle.std.proofs.Common.{◌≡◌, ℕ, ◌<◌, true, false, eqb, ◌≢◌, List, length, get_or, set, None, Option, Result, sym, refl, ap, ◌∙◌, subst, ⊎_elim, arith}
use Rattle.std.proofs.lemmas.List.{set-set, get_or-set_same, get_or-set_other, get_or_default}
use Rattle.std.proofs.lemmas.Bool.{cond-true, cond-false, cases_Bool, eqb-true, eqb-false}
use Rattle.model.specs.declared.enquiry.Enquiry.{Enquiry}
use Rattle.model.specs.declared.enquiry.Found.{Found}
use Rattle.model.specs.declared.network.Leg.{Leg}
use Rattle.model.specs.declared.refusal.Refusal.{Refusal}
use Rattle.model.specs.Rules.{Automaton}
use Rattle.model.specs.Asking.{Asked}
use Rattle.ledger.specs.Ledgers.{going}
use Rattle.planner.specs.declared.planner.Bulletin.{Bulletin}
use Rattle.planner.specs.declared.planner.Planner.{Planner}
use Rattle.planner.specs.Planners.{state, world_under}
use Rattle.scripts.specs.declared.step.Change.{Change}
use Rattle.scripts.specs.declared.step.Action.{Action}
use Rattle.scripts.specs.declared.step.Action.TheVariants.{Ask, Change as Changing}
use Rattle.scripts.specs.declared.step.Reply.{Reply}
use Rattle.scripts.specs.declared.step.Reply.TheVariants.{Asked as Answered}
use Rattle.scripts.specs.declared.step.Step.{Step}
use Rattle.scripts.specs.Scripts.{call_of, changing, laid, held_by, reply_of, meaning, Ground, Replied, Kept, Changed, ChangedAt, Performed}

pub changed_at : {B R : Type 0} (size : B → ℕ) (j : ℕ) (c : Change) (os : List (Option Bulletin)) (p q : Planner B R) (o o₂ o' x : Option Bulletin) (reply : Reply)
    → j < length os → o ≡ get_or os j None → o' ≡ o₂ → Changed size c o o₂ reply p q → ChangedAt size j c os (set (set os j x) j o') reply p q
changed_at size j c os p q o o₂ o' x reply lt look lays ch = record {
  inside = λ _. ch.replied ∙ ap (reply_of p.mark (size p.book.below) (state p) c) look;
  outside = λ le. absurd (omega arith);
  slots = λ k within.
      ap (λ (xs : List (Option Bulletin)). get_or xs k None) (set-set os j x o')
      ∙ ⊎_elim
      (λ (e : eqb j k ≡ true).
      let same : j ≡ k = eqb-true j k e in
      ap (λ (i : ℕ). get_or (set os j o') i None) (sym same)
      ∙ get_or-set_same os j o' None lt
      ∙ lays
      ∙ ch.slot
      ∙ ap (laid c reply) (look ∙ ap (λ (i : ℕ). get_or os i None) same)
      ∙ sym (cond-true _ _ _ e))
      (λ (e : eqb j k ≡ false).
      let other : k ≢ j = λ same. eqb-false j k e (sym same) in
      get_or-set_other os j k o' None other ∙ sym (cond-false _ _ _ e))
      (cases_Bool (eqb j k));
  kept = ch.kept;
  then = ch.then;
}

module _ {B R : Type 0} {L Q : Type 0} (size : B → ℕ) (answers : B → ℕ → ℕ → Option ℕ) (automata : R → Automaton) (on : Ground) (ps : List (Planner B R)) (os : List (Option Bulletin)) (s : Step) where
  pub performed_ask : (enquiry : Enquiry) (d₀ : Planner B R) (result : Result Found Refusal) (labels labels' : List L) (slots slots' : List Q) (slip' : List Leg)
      → s.action ≡ Ask enquiry → s.planner < length ps → length labels ≡ on.rows → length slots ≡ on.slots
      → Asked on.stops (size (get_or ps s.planner d₀).book.below) (world_under (state (get_or ps s.planner d₀)).standing on.arcs (answers (get_or ps s.planner d₀).book.below) (automata (get_or ps s.planner d₀).rule)) enquiry labels labels' slots slots' s.slip slip' result
      → Performed L Q size answers automata on ps os s ps os (record { planner = s.planner; action = s.action; reply = Answered result; slip = slip' })
  performed_ask enquiry d₀ result labels labels' slots slots' slip' is lt rows_long slots_long asked =
      let r = get_or ps s.planner d₀ in
      record {
        same_planner = refl;
        same_action = refl;
        absent = λ le. absurd (omega arith);
        replied = λ d _.
            subst (λ (p : Planner B R). Replied L Q on (meaning size answers automata p) (state p) (length os) (λ j. get_or os j None) s.slip slip' (Answered result) s.action) (get_or_default ps s.planner d₀ d lt)
            (subst (Replied L Q on (meaning size answers automata r) (state r) (length os) (λ j. get_or os j None) s.slip slip' (Answered result)) (sym is)
            (record { result = result; told = refl; labels = labels; labels' = labels'; slots = slots; slots' = slots'; rows_long = rows_long; slots_long = slots_long; asked = asked }));
        others = λ i d ne. refl;
        kept = λ d _. record { book = refl; rule = refl; mark = refl };
        then = λ d _. sym (ap (λ (a : Action). going (get_or ps s.planner d).mark (size (get_or ps s.planner d).book.below) (state (get_or ps s.planner d)) (call_of a (Answered result))) is);
        slots = λ j _. sym (ap (λ (a : Action). held_by j a (Answered result) (get_or os j None)) is);
      }

  pub performed_change : (j : ℕ) (c : Change) (d₀ q : Planner B R) (os' : List (Option Bulletin)) (reply : Reply)
      → s.action ≡ Changing j c → s.planner < length ps → ChangedAt size j c os os' reply (get_or ps s.planner d₀) q
      → Performed L Q size answers automata on ps os s (set ps s.planner q) os' (record { planner = s.planner; action = s.action; reply = reply; slip = s.slip })
  performed_change j c d₀ q os' reply is lt ch =
      let i = s.planner in
      let r = get_or ps i d₀ in
      let here : (d : Planner B R) → r ≡ get_or ps i d = λ d. get_or_default ps i d₀ d lt in
      let now_is : (d : Planner B R) → get_or (set ps i q) i d ≡ q = λ d. get_or-set_same ps i q d lt in
      record {
        same_planner = refl;
        same_action = refl;
        absent = λ le. absurd (omega arith);
        replied = λ d _.
            subst (λ (p : Planner B R). Replied L Q on (meaning size answers automata p) (state p) (length os) (λ k. get_or os k None) s.slip s.slip reply s.action) (here d)
            (subst (Replied L Q on (meaning size answers automata r) (state r) (length os) (λ k. get_or os k None) s.slip s.slip reply) (sym is)
            (ch.inside, ch.outside, refl));
        others = λ k d ne. get_or-set_other ps i k q d ne;
        kept = λ d _. subst (Kept (get_or ps i d)) (sym (now_is d)) (subst (λ (p : Planner B R). Kept p q) (here d) ch.kept);
        then = λ d _.
            ap state (now_is d)
            ∙ ch.then
            ∙ ap (λ (p : Planner B R). going p.mark (size p.book.below) (state p) (changing c reply)) (here d)
            ∙ sym (ap (λ (a : Action). going (get_or ps i d).mark (size (get_or ps i d).book.below) (state (get_or ps i d)) (call_of a reply)) is);
        slots = λ k within. ch.slots k within ∙ sym (ap (λ (a : Action). held_by k a reply (get_or os k None)) is);
      }
