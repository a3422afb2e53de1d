-- Which trips suit an enquiry: the arcs, joined from stop to stop, and the word of labels that they spell.
use Rattle.std.specs.Prelude.{◌≡◌, ℕ, ◌≤◌, List, [], ◌∷◌, Some, None, Option}
use Rattle.std.specs.List.{slice_get}
use Rattle.model.specs.declared.enquiry.Enquiry.{Enquiry}
use Rattle.model.specs.Rules.{label_count, Accepts}
use Rattle.model.specs.Trips.{World, rule_of, Arc, Leg}

-- a trip from a stop at a second, over the legs, to a stop, with its arrival: the arcs are joined head to tail; each is entered not before
-- the arrival of the one before, the first not before the second; and the book gives each its arrival
pub data StopTrip (w : World) : ℕ → ℕ → List Leg → ℕ → ℕ → Type 0 where
  stay : {s t : ℕ} → StopTrip w s t [] s t
  ride : {t v a : ℕ} {l : Leg} {ls : List Leg} (x : Arc) → slice_get w.arcs l.arc ≡ Some x → t ≤ l.entered
      → w.answer x.service l.entered ≡ Some l.arrived → StopTrip w x.head l.arrived ls v a → StopTrip w x.tail t (l ∷ ls) v a

-- an arc's label; where there is no arc a number that is no label
abbrev pub label_of : Option Arc → ℕ
label_of None = label_count
label_of (Some x) = x.label

-- the labels of the legs' arcs, in order
abbrev pub word : List Arc → List Leg → List ℕ
word arcs [] = []
word arcs (l ∷ ls) = label_of (slice_get arcs l.arc) ∷ word arcs ls

-- the legs are a trip that answers to the enquiry, arriving at that second: from the asked start at the asked second or later to the
-- target, in a word of labels that the rule accepts
pub record Suits (w : World) (enquiry : Enquiry) (legs : List Leg) (arrival : ℕ) : Type 0 where
  pub trip : StopTrip w enquiry.start enquiry.second legs enquiry.target arrival
  pub accepted : Accepts (rule_of w) (word w.arcs legs)

-- no trip suits the enquiry
abbrev pub NoneSuits : World → Enquiry → Type 0
NoneSuits w enquiry = (legs : List Leg) (arrival : ℕ) → Suits w enquiry legs arrival → ⊥
