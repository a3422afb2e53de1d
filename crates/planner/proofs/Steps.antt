-- What each way through a planner's call makes of its ledger.
use Rattle.std.proofs.Common.{◌≡◌, ℕ, List, [], ◌∷◌, ◌++◌, Option, Result, sym, refl, ap, ◌∙◌, subst}
use Rattle.model.specs.declared.enquiry.Enquiry.{Enquiry}
use Rattle.model.specs.declared.enquiry.Found.{Found}
use Rattle.model.specs.declared.network.Arc.{Arc}
use Rattle.model.specs.declared.network.Leg.{Leg}
use Rattle.model.specs.declared.refusal.Refusal.{Refusal}
use Rattle.model.specs.Rules.{Automaton}
use Rattle.model.specs.Asking.{Asked}
use Rattle.ledger.specs.Ledgers.{Call, Ask, Ledger, after, fresh, ledger}
use Rattle.ledger.proofs.Runs.{going_append}
use Rattle.planner.specs.declared.planner.Planner.{Planner}
use Rattle.planner.specs.Planners.{state, Made, Planned, world_under}

module _ {B R : Type 0} (size : B → ℕ) (p : Planner B R) where
  pub made : (c : Call) (q : Planner B R) → q.book.below ≡ p.book.below → q.rule ≡ p.rule → q.mark ≡ p.mark → state q ≡ after p.mark (size p.book.below) (state p) c → Made size c p q
  made c q b r m e = record {
    book = b;
    rule = r;
    mark = m;
    then = e;
    along = λ h left.
        e
        ∙ ap (λ (s : Ledger). after p.mark (size p.book.below) s c) left
        ∙ sym (going_append p.mark (size p.book.below) fresh h (c ∷ []))
        ∙ ap (λ (k : ℕ). ledger k (size p.book.below) (h ++ c ∷ [])) (sym m)
        ∙ ap (λ (x : B). ledger q.mark (size x) (h ++ c ∷ [])) (sym b);
  }

  -- an ask goes by the notices of the ledger, whatever the calls since the planner's start
  pub planned : (answers : B → ℕ → ℕ → Option ℕ) (automata : R → Automaton) {L Q : Type 0} (stops : ℕ) (arcs : List Arc) (enquiry : Enquiry) {labels labels' : List L} {slots slots' : List Q} {slip slip' : List Leg} {result : Result Found Refusal}
      → Asked stops (size p.book.below) (world_under (state p).standing arcs (answers p.book.below) (automata p.rule)) enquiry labels labels' slots slots' slip slip' result
      → Planned size answers automata p stops arcs enquiry labels labels' slots slots' slip slip' result
  planned answers automata stops arcs enquiry {labels} {labels'} {slots} {slots'} {slip} {slip'} {result} asked = record {
    by_standing = asked;
    by_ledger = λ h as-ledger.
        subst (λ (g : Ledger). Asked stops (size p.book.below) (world_under g.standing arcs (answers p.book.below) (automata p.rule)) enquiry labels labels' slots slots' slip slip' result) as-ledger asked;
    along = (made (Ask enquiry) p refl refl refl refl).along;
  }
