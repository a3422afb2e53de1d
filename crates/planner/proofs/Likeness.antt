-- Planners that are alike make one world, and asks in one world are answered alike.
use Rattle.std.proofs.Common.{◌≡◌, ℕ, List, Ok, Option, Result, sym, subst}
use Rattle.model.specs.declared.enquiry.Enquiry.{Enquiry}
use Rattle.model.specs.declared.enquiry.Found.{Found}
use Rattle.model.specs.declared.network.Arc.{Arc}
use Rattle.model.specs.declared.network.Leg.{Leg}
use Rattle.model.specs.declared.refusal.Refusal.{Refusal}
use Rattle.model.specs.Rules.{Automaton}
use Rattle.model.specs.Trips.{World}
use Rattle.model.specs.Asking.{Asked}
use Rattle.model.proofs.Asks.{answered_alike}
use Rattle.notices.specs.Notices.{noticed}
use Rattle.planner.specs.declared.planner.Planner.{Planner}
use Rattle.planner.specs.Planners.{state, world_under, Planned}
use Rattle.planner.specs.Alike.{Alike, SameWhereAlike}

module _ {B R C S : Type 0} (answers : B → ℕ → ℕ → Option ℕ) (automata : R → Automaton) (answers₂ : C → ℕ → ℕ → Option ℕ) (automata₂ : S → Automaton) (p : Planner B R) (q : Planner C S) where
  one_world : (arcs : List Arc) → Alike answers automata answers₂ automata₂ p q
      → world_under (state p).standing arcs (answers p.book.below) (automata p.rule) ≡ world_under (state q).standing arcs (answers₂ q.book.below) (automata₂ q.rule)
  one_world arcs a = λ i. record {
    arcs = arcs;
    answer = noticed (a.standing i) (λ s t. a.answer s t i);
    next = λ s x. a.next s x i;
    ends = λ s. a.ends s i;
    states = a.states i;
  }

  pub same_where_alike : (size : B → ℕ) (size₂ : C → ℕ) {L Q L₂ Q₂ : Type 0} (stops : ℕ) (arcs : List Arc) (enquiry : Enquiry)
      (labels labels' : List L) (slots slots' : List Q) (slip slip' : List Leg) (labels₂ labels₂' : List L₂) (slots₂ slots₂' : List Q₂) (slip₂ slip₂' : List Leg) (result result₂ : Result Found Refusal)
      → Planned size answers automata p stops arcs enquiry labels labels' slots slots' slip slip' result
      → Planned size₂ answers₂ automata₂ q stops arcs enquiry labels₂ labels₂' slots₂ slots₂' slip₂ slip₂' result₂
      → SameWhereAlike answers automata answers₂ automata₂ p q slip' slip₂' result result₂
  same_where_alike size size₂ {L} {Q} {L₂} {Q₂} stops arcs enquiry labels labels' slots slots' slip slip' labels₂ labels₂' slots₂ slots₂' slip₂ slip₂' result result₂ one two alike found found₂ ok ok₂ =
      let w = world_under (state p).standing arcs (answers p.book.below) (automata p.rule) in
      answered_alike w enquiry L Q L₂ Q₂ stops (size p.book.below) stops (size₂ q.book.below) labels labels' slots slots' slip slip' labels₂ labels₂' slots₂ slots₂' slip₂ slip₂' found found₂
      (subst (λ (r : Result Found Refusal). Asked stops (size p.book.below) w enquiry labels labels' slots slots' slip slip' r) ok one.by_standing)
      (subst (λ (v : World). Asked stops (size₂ q.book.below) v enquiry labels₂ labels₂' slots₂ slots₂' slip₂ slip₂' (Ok found₂)) (sym (one_world arcs alike))
      (subst (λ (r : Result Found Refusal). Asked stops (size₂ q.book.below) (world_under (state q).standing arcs (answers₂ q.book.below) (automata₂ q.rule)) enquiry labels₂ labels₂' slots₂ slots₂' slip₂ slip₂' r) ok₂ two.by_standing))
