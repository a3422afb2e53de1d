-- When a list of arcs is a network over a number of stops, what is first at fault where it is not, and which arcs leave a stop.
use Rattle.std.specs.Prelude.{◌≡◌, ℕ, ◌+◌, ◌-◌, ◌<◌, ◌≤◌, List, length, get_or, Ok, Err, Result, slice_index_or}
use Rattle.model.specs.Rules.{label_count}
use Rattle.model.specs.declared.network.Arc.{Arc}
use Rattle.model.specs.declared.refusal.Refusal.{Refusal}
use Rattle.model.specs.declared.refusal.Refusal.TheVariants as refusal
use Rattle.std.specs.declared.ops.Range.{Range}
use Rattle.network.specs.declared.fault.ArcRange.{ArcRange}
use Rattle.network.specs.declared.fault.NetworkFault.{NetworkFault}
use Rattle.network.specs.declared.fault.NetworkFault.TheVariants.{StopCount, ArcCount, ArcField, TailFalls}

-- the refusal that reports a fault
abbrev pub refusal_of : NetworkFault → Refusal
refusal_of StopCount = refusal.StopCount
refusal_of ArcCount = refusal.ArcCount
refusal_of (ArcField _) = refusal.ArcField
refusal_of (TailFalls _) = refusal.TailFalls

-- 1 to 1,024 stops
abbrev pub StopsFit : ℕ → Type 0
StopsFit stops = (1 ≤ stops) × (stops ≤ 1024)

-- 1 to 1,024 stops and at most 8,192 arcs
abbrev pub Counted : ℕ → List Arc → Type 0
Counted stops arcs = StopsFit stops × (length arcs ≤ 8192)

-- both ends of an arc are stops, and its label is a label
abbrev pub InRange : ℕ → Arc → Type 0
InRange stops a = (a.tail < stops) × (a.head < stops) × (a.label < label_count)

-- so are those of the first n arcs
abbrev pub FitBefore : ℕ → List Arc → ℕ → Type 0
FitBefore stops arcs n = (k : ℕ) (d : Arc) → k < n → InRange stops (slice_index_or arcs k d)

-- among the first n arcs, no tail is below that of the arc before
abbrev pub AscendingBefore : List Arc → ℕ → Type 0
AscendingBefore arcs n = (k : ℕ) (d : Arc) → k + 1 < n → (get_or arcs k d).tail ≤ (get_or arcs (k + 1) d).tail

-- every arc has its ends and its label in range
abbrev pub Fit : ℕ → List Arc → Type 0
Fit stops arcs = FitBefore stops arcs (length arcs)

-- no arc's tail is below that of the arc before
abbrev pub Ascending : List Arc → Type 0
Ascending arcs = AscendingBefore arcs (length arcs)

-- a number of stops and a list of arcs that are a network
pub record Sound (stops : ℕ) (arcs : List Arc) : Type 0 where
  pub counted : Counted stops arcs
  pub fit : Fit stops arcs
  pub ascending : Ascending arcs

-- the counts and the arcs before the one of number i are without fault
pub record SoundBefore (stops : ℕ) (arcs : List Arc) (i : ℕ) : Type 0 where
  pub counted : Counted stops arcs
  pub inside : i < length arcs
  pub fit : FitBefore stops arcs i
  pub ascending : AscendingBefore arcs i

-- the first fault: the stop count, the arc count, then the first arc with a field out of range or a tail below that of the arc
-- before; of one arc its fields come first
abbrev pub FirstFault : NetworkFault → ℕ → List Arc → Type 0
FirstFault StopCount stops arcs = StopsFit stops → ⊥
FirstFault ArcCount stops arcs = StopsFit stops × (8192 < length arcs)
FirstFault (ArcField i) stops arcs = SoundBefore stops arcs i × ((d : Arc) → InRange stops (slice_index_or arcs i d) → ⊥)
FirstFault (TailFalls i) stops arcs = SoundBefore stops arcs i × ((d : Arc) → InRange stops (slice_index_or arcs i d) × ((get_or arcs i d).tail < (get_or arcs (i - 1) d).tail))

-- taken where there is no fault, and else refused by the first
abbrev pub Tested : Result Unit NetworkFault → ℕ → List Arc → Type 0
Tested (Ok _) stops arcs = Sound stops arcs
Tested (Err fault) stops arcs = FirstFault fault stops arcs

-- the arcs before the cut have tails below the stop, and those from it on have none below
pub record Cut (arcs : List Arc) (stop cut : ℕ) : Type 0 where
  pub within : cut ≤ length arcs
  pub before : (k : ℕ) (d : Arc) → k < cut → (get_or arcs k d).tail < stop
  pub after : (k : ℕ) (d : Arc) → cut ≤ k → k < length arcs → stop ≤ (get_or arcs k d).tail

-- the arcs before the number n have tails below the stop
pub record Below (arcs : List Arc) (stop n : ℕ) : Type 0 where
  pub within : n ≤ length arcs
  pub before : (k : ℕ) (d : Arc) → k < n → (get_or arcs k d).tail < stop

-- the arcs from the number n on have no tails below the stop
pub record Above (arcs : List Arc) (stop n : ℕ) : Type 0 where
  pub within : n ≤ length arcs
  pub after : (k : ℕ) (d : Arc) → n ≤ k → k < length arcs → stop ≤ (get_or arcs k d).tail

-- the cut at the stop is in the range, or where that ends
pub record Around (arcs : List Arc) (stop : ℕ) (range : Range ℕ) : Type 0 where
  pub ordered : range.start ≤ range.end
  pub lower : Below arcs stop range.start
  pub higher : Above arcs stop range.end

-- no tail of the first n arcs is above the stop
abbrev pub NoneAbove : List Arc → ℕ → ℕ → Type 0
NoneAbove arcs stop n = (k : ℕ) (d : Arc) → k < n → (get_or arcs k d).tail < stop + 1

-- no tail before the cut is above the stop, and fewer arcs than a stride follow that leave it
pub record Strides (arcs : List Arc) (stop stride cut : ℕ) : Type 0 where
  pub within : cut ≤ length arcs
  pub before : NoneAbove arcs stop cut
  pub past : (d : Arc) → cut + stride ≤ length arcs → stop < (get_or arcs (cut + (stride - 1)) d).tail

-- the numbers of the arcs of a range
abbrev pub numbers : ArcRange → Range ℕ
numbers range = record { start = range.first; end = range.end }

-- the arcs of the range leave the stop, those before it leave lower stops, and those after it leave higher ones
pub record Leaving (arcs : List Arc) (stop : ℕ) (range : Range ℕ) : Type 0 where
  pub ordered : range.start ≤ range.end
  pub within : range.end ≤ length arcs
  pub lower : (k : ℕ) (d : Arc) → k < range.start → (get_or arcs k d).tail < stop
  pub leave : (k : ℕ) (d : Arc) → range.start ≤ k → k < range.end → (get_or arcs k d).tail ≡ stop
  pub higher : (k : ℕ) (d : Arc) → range.end ≤ k → k < length arcs → stop < (get_or arcs k d).tail
  pub all : (k : ℕ) (d : Arc) → k < length arcs → (get_or arcs k d).tail ≡ stop → (range.start ≤ k) × (k < range.end)
