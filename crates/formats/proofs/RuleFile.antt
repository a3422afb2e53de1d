-- The laws of the rule file, part by part.
use Rattle.std.proofs.Common.{◌≡◌, ℕ, zero, suc, ◌^◌, ◌≤◌, Bool, true, false, length, None, Option, refl, arith, lit<}
use Rattle.model.specs.declared.refusal.Refusal.TheVariants.{RuleField, StepsNotAscending}
use Rattle.wire.specs.Grammar.{LawfulFormat, number, ranged, below, both}
use Rattle.wire.proofs.Laws.{number_lawful, ranged_lawful, below_lawful, checked_lawful, both_lawful, mapped_lawful, counted_lawful, plain_lawful}
use Rattle.formats.specs.declared.rule_step.RuleStep.{RuleStep}
use Rattle.formats.specs.RuleFile.{marked, mark_of, mark, marks, fields, step_of, fields_of, Leads, any_step, rises, step, stepped, steps, parts_of, contents_of, FineRule, rule}

mark_back : (n : ℕ) → n ≤ 1 → mark_of (marked n) ≡ n
mark_back zero h = refl
mark_back (suc zero) h = refl
mark_back (suc (suc n)) h = absurd (omega arith)

mark_there : (e : Bool) → ((0 ≤ mark_of e) × (mark_of e ≤ 1)) × (marked (mark_of e) ≡ e)
mark_there true = ((omega arith, omega arith), refl)
mark_there false = ((omega arith, omega arith), refl)

pub mark_lawful : LawfulFormat mark
mark_lawful = mapped_lawful marked mark_of (λ _. Unit {0}) (ranged 0 1 RuleField) (λ n fine. (tt, mark_back n fine.1)) (λ e _. mark_there e) (ranged_lawful 0 1 RuleField (lit< tt))

pub marks_lawful : LawfulFormat marks
marks_lawful = plain_lawful (ranged 1 16 RuleField) mark (ranged_lawful 1 16 RuleField (lit< tt)) mark_lawful

module _ (states : ℕ) (few : states ≤ 2 ^ 32) where
  pub step_lawful : (before : Option RuleStep) → LawfulFormat (step states before)
  step_lawful before =
      checked_lawful (rises before) StepsNotAscending (any_step states)
      (mapped_lawful step_of fields_of (Leads states) (fields states)
      (λ x fine. ((fine.0, fine.1.0.1, fine.1.1), refl))
      (λ t fine. ((fine.0, ((omega arith, fine.1), fine.2)), refl))
      (both_lawful (below states RuleField) (λ _. both (ranged 0 5 RuleField) (λ _. below states RuleField)) (below_lawful states RuleField few)
      (λ _ _. both_lawful (ranged 0 5 RuleField) (λ _. below states RuleField) (ranged_lawful 0 5 RuleField (lit< tt)) (λ _ _. below_lawful states RuleField few))))

  pub steps_lawful : LawfulFormat (steps states)
  steps_lawful = counted_lawful (step states) stepped step_lawful number None number_lawful

pub rule_lawful : LawfulFormat rule
rule_lawful =
    mapped_lawful contents_of parts_of FineRule (both marks (λ ends. steps (length ends)))
    (λ x fine. (record { ends = fine.0; steps = fine.1 }, refl))
    (λ r fine. ((fine.ends, fine.steps), refl))
    (both_lawful marks (λ ends. steps (length ends)) marks_lawful (λ ends fine. steps_lawful (length ends) (omega (arith, fine.0.1))))
