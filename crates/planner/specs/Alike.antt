-- Asks of two planners that are alike.
use Rattle.std.specs.Prelude.{◌≡◌, ℕ, List, take, Ok, Option, Result}
use Rattle.model.specs.declared.enquiry.Found.{Found}
use Rattle.model.specs.declared.network.Leg.{Leg}
use Rattle.model.specs.declared.refusal.Refusal.{Refusal}
use Rattle.model.specs.Rules.{Automaton}
use Rattle.planner.specs.declared.planner.Planner.{Planner}
use Rattle.planner.specs.Planners.{state}

-- two planners have the same notices standing, their books give the same answers, and their rules are one automaton, whatever books and
-- rules are made of
pub record Alike {B R C S : Type 0} (answers : B → ℕ → ℕ → Option ℕ) (automata : R → Automaton) (answers₂ : C → ℕ → ℕ → Option ℕ) (automata₂ : S → Automaton)
    (p : Planner B R) (q : Planner C S) : Type 0 where
  pub standing : (state p).standing ≡ (state q).standing
  pub answer : (s t : ℕ) → answers p.book.below s t ≡ answers₂ q.book.below s t
  pub next : (s x : ℕ) → (automata p.rule).next s x ≡ (automata₂ q.rule).next s x
  pub ends : (s : ℕ) → (automata p.rule).ends s ≡ (automata₂ q.rule).ends s
  pub states : (automata p.rule).states ≡ (automata₂ q.rule).states

-- where they are alike and both asks are answered, arrivals, numbers of legs and legs are the same
abbrev pub SameWhereAlike : {B R C S : Type 0} → (B → ℕ → ℕ → Option ℕ) → (R → Automaton) → (C → ℕ → ℕ → Option ℕ) → (S → Automaton)
    → Planner B R → Planner C S → List Leg → List Leg → Result Found Refusal → Result Found Refusal → Type 0
SameWhereAlike answers automata answers₂ automata₂ p q slip slip₂ result result₂ =
    Alike answers automata answers₂ automata₂ p q → (found found₂ : Found) → result ≡ Ok found → result₂ ≡ Ok found₂
    → (found ≡ found₂) × (take found.legs slip ≡ take found.legs slip₂)
