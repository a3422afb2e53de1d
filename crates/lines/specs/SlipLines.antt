-- The lines of a slip, handed out one after the other.
use Rattle.std.specs.Prelude.{ℕ, ◌≡◌, ◌+◌, ◌<◌, List, [], ◌∷◌, ◌++◌, length, Some, None, Option}
use Rattle.std.specs.List.{flat_map, slice_get}
use Rattle.model.specs.declared.network.Arc.{Arc}
use Rattle.model.specs.declared.network.Leg.{Leg}
use Rattle.lines.specs.Lines.{journey_text, leg_text, refused_text}
use Rattle.lines.specs.declared.slip_lines.SlipLine.{SlipLine}
use Rattle.lines.specs.declared.slip_lines.SlipLine.TheVariants.{Journey, Leg as OfLeg, Refused}
use Rattle.lines.specs.declared.slip_lines.SlipLines.{SlipLines}

abbrev pub line_text : SlipLine → List ℕ
line_text (Journey l) = journey_text l.enquiry l.found
line_text (OfLeg l) = leg_text l.leg l.arc
line_text (Refused l) = refused_text l.0

-- a line and its end
abbrev pub ended : List ℕ → List ℕ
ended line = line ++ 10 ∷ []

-- the line of a leg and its end; a leg whose arc is not among the arcs has none
abbrev pub leg_ended : List Arc → Leg → List ℕ
leg_ended arcs l = elim (slice_get arcs l.arc) [ Some a ↦ ended (leg_text l a) | None ↦ [] ]

abbrev pub legs_ended : List Arc → List Leg → List ℕ
legs_ended arcs ls = flat_map (leg_ended arcs) ls

abbrev pub first_ended : Option SlipLine → List ℕ
first_ended None = []
first_ended (Some l) = ended (line_text l)

-- what the lines still to come are, with their ends
abbrev pub left : SlipLines → List ℕ
left s = first_ended s.first ++ legs_ended s.arcs.now s.legs.now

-- what a line that is handed out, and those after it, are
abbrev pub followed : Option SlipLine → List ℕ → List ℕ
followed None rest = []
followed (Some l) rest = ended (line_text l) ++ rest

-- no fewer than the lines still to come
abbrev pub lines_left : SlipLines → ℕ
lines_left s = elim s.first [ Some _ ↦ 1 | None ↦ 0 ] + length s.legs.now

-- the line handed out and what is left after it are what was left; where none is handed out, nothing was
pub record HandsOut (old : SlipLines) (r : Option SlipLine) (new : SlipLines) : Type 0 where
  pub says : left old ≡ followed r (left new)

-- the same of the legs alone, and fewer of them are left
pub record GivesLeg (old : SlipLines) (r : Option SlipLine) (new : SlipLines) : Type 0 where
  pub says : legs_ended old.arcs.now old.legs.now ≡ followed r (legs_ended new.arcs.now new.legs.now)
  pub same : new.first ≡ old.first
  pub fewer : (l : SlipLine) → r ≡ Some l → length new.legs.now < length old.legs.now
