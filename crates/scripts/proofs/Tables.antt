-- What steps leave of the label table and the queue.
use Rattle.std.proofs.Common.{◌≡◌, ℕ, ◌+◌, ◌<◌, ◌≢◌, List, length, set, Some, None, Ok, Err, Option, Result, refl, ◌∙◌, subst, ⊎_elim, arith}
use Rattle.std.proofs.lemmas.List.{get_or-set_same, get_or-set_other}
use Rattle.model.specs.declared.enquiry.Enquiry.{Enquiry}
use Rattle.model.specs.declared.enquiry.Found.{Found}
use Rattle.model.specs.declared.network.Leg.{Leg}
use Rattle.model.specs.declared.refusal.Refusal.{Refusal}
use Rattle.model.specs.Trips.{World}
use Rattle.model.specs.Asking.{Asked, Outcome, refusal_of}
use Rattle.scripts.specs.declared.step.Step.{Step}
use Rattle.scripts.specs.Scripts.{Unsearched, Quiet, TablesAfter, TablesKept}

searched : (w : World) (q : Enquiry) (slip slip' : List Leg) (result : Result Found Refusal) → Outcome w q slip slip' result → Unsearched result → ⊥
searched w q slip slip' (Ok f) o u = u
searched w q slip slip' (Err f) o u = ⊎_elim u.0 u.1 (o.no_other f refl)

pub asked_tables : {L Q : Type 0} (stops count : ℕ) (w : World) (q : Enquiry) (labels labels' : List L) (slots slots' : List Q) (slip slip' : List Leg) (result : Result Found Refusal)
    → Asked stops count w q labels labels' slots slots' slip slip' result → Unsearched result → (labels' ≡ labels) × (slots' ≡ slots)
asked_tables stops count w q labels labels' slots slots' slip slip' result a u =
    go (refusal_of stops count w q (length labels) (length slots)) refl
  where
    go : (o : Option Refusal) → refusal_of stops count w q (length labels) (length slots) ≡ o → (labels' ≡ labels) × (slots' ≡ slots)
    go None e = absurd (searched w q slip slip' result (a.past_tests e) u)
    go (Some f) e = let r = a.refused_by_tests f e in (r.1, r.2)

pub tables_more : {L Q : Type 0} (ss : List Step) (n : ℕ) (s : Step) (labels labels' labels'' : List L) (slots slots' slots'' : List Q)
    → n < length ss → TablesKept ss n labels labels' slots slots' → TablesAfter s.reply labels' labels'' slots' slots'' → TablesKept (set ss n s) (n + 1) labels labels'' slots slots''
tables_more ss n s labels labels' labels'' slots slots' slots'' lt kept after all =
    let before = kept (λ k e h. let ne : k ≢ n = omega arith in subst (λ (t : Step). Quiet t.reply) (get_or-set_other ss n k s e ne) (all k e (omega arith))) in
    let here = after (subst (λ (t : Step). Quiet t.reply) (get_or-set_same ss n s s lt) (all n s (omega arith))) in
    (here.0 ∙ before.0, here.1 ∙ before.1)
