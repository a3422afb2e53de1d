-- The rule file: how it is written, and which rule it holds.
use Rattle.std.specs.Prelude.{ℕ, ◌<◌, ◌≤◌, Bool, true, false, cond, ◌&&◌, ◌||◌, List, [], ◌∷◌, length, Some, None, Option, ◌==◌, nat_lt, slice_index_or}
use Rattle.model.specs.declared.refusal.Refusal.TheVariants.{RuleField, StepsNotAscending}
use Rattle.model.specs.Rules.{Automaton}
use Rattle.formats.specs.declared.rule_step.RuleStep.{RuleStep}
use Rattle.formats.specs.Contents.{RuleContents}
use Rattle.wire.specs.Grammar.{Format, number, ranged, below, both, mapped, checked, counted, plain}

-- an end mark: 1 for an end, else 0
abbrev pub marked : ℕ → Bool
marked n = n == 1

abbrev pub mark_of : Bool → ℕ
mark_of e = cond e 1 0

abbrev pub mark : Format Bool
mark = mapped marked mark_of (λ _. Unit {0}) (ranged 0 1 RuleField)

-- the number of states, and the end mark of each
abbrev pub marks : Format (List Bool)
marks = plain (ranged 1 16 RuleField) mark

-- a step's numbers, in a rule of so many states
abbrev pub fields : ℕ → Format (ℕ × (ℕ × ℕ))
fields states = both (below states RuleField) (λ _. both (ranged 0 5 RuleField) (λ _. below states RuleField))

abbrev pub step_of : ℕ × (ℕ × ℕ) → RuleStep
step_of x = record { state = x.0; label = x.1.0; next = x.1.1 }

abbrev pub fields_of : RuleStep → ℕ × (ℕ × ℕ)
fields_of t = (t.state, (t.label, t.next))

-- the states and the label of a step are there
abbrev pub Leads : ℕ → RuleStep → Type 0
Leads states t = (t.state < states) × (t.label ≤ 5) × (t.next < states)

-- a step, whatever came before it
abbrev pub any_step : ℕ → Format RuleStep
any_step states = mapped step_of fields_of (Leads states) (fields states)

-- a step comes after the one before, if there is one: by state, then by label
abbrev pub rises : Option RuleStep → RuleStep → Bool
rises None t = true
rises (Some before) t = nat_lt before.state t.state || (before.state == t.state && nat_lt before.label t.label)

-- a step after another
abbrev pub step : ℕ → Option RuleStep → Format RuleStep
step states before = checked (rises before) StepsNotAscending (any_step states)

abbrev pub stepped : Option RuleStep → RuleStep → Option RuleStep
stepped before t = Some t

abbrev pub steps : ℕ → Format (List RuleStep)
steps states = counted number (step states) stepped None

abbrev pub parts_of : RuleContents → List Bool × List RuleStep
parts_of r = (r.ends, r.steps)

abbrev pub contents_of : List Bool × List RuleStep → RuleContents
contents_of x = record { ends = x.0; steps = x.1 }

-- which rules a file can hold
pub record FineRule (r : RuleContents) : Type 0 where
  pub ends : marks.Fine r.ends
  pub steps : (steps (length r.ends)).Fine r.steps

-- the rule file
abbrev pub rule : Format RuleContents
rule = mapped contents_of parts_of FineRule (both marks (λ ends. steps (length ends)))

-- the next state that the steps give for a state and a label, if one of them does
abbrev pub leads_to : List RuleStep → ℕ → ℕ → Option ℕ
leads_to [] s x = None
leads_to (t ∷ ts) s x = cond (t.state == s && t.label == x) (Some t.next) (leads_to ts s x)

-- the rule that a file holds
abbrev pub automaton_of : RuleContents → Automaton
automaton_of r = record { next = leads_to r.steps; ends = λ s. slice_index_or r.ends s false; states = length r.ends }
