-- The lines that an enquiry is answered by, as bytes, without the line's end.
use Rattle.std.specs.Prelude.{ℕ, cond, List, [], ◌∷◌, ◌++◌, take, Some, None, Ok, Err, Result, codes, decimal, ◌==◌}
use Rattle.std.specs.List.{flat_map, slice_get}
use Rattle.std.proofs.Math.Utf8.{encode}
use Rattle.model.specs.declared.enquiry.Enquiry.{Enquiry}
use Rattle.model.specs.declared.enquiry.Found.{Found}
use Rattle.model.specs.declared.network.Arc.{Arc}
use Rattle.model.specs.declared.network.Leg.{Leg}
use Rattle.model.specs.declared.refusal.Layer.{Layer}
use Rattle.model.specs.declared.refusal.Layer.TheVariants.{Number, Record, Network}
use Rattle.model.specs.declared.refusal.Refusal.{Refusal}
use Rattle.model.specs.Refusals.{number_of, layer_of}

-- a word, a number, and what follows
abbrev pub told : List ℕ → ℕ → List ℕ → List ℕ
told word n rest = word ++ (decimal n ++ rest)

-- start, target and second, the arrival and the number of legs
abbrev pub journey_text : Enquiry → Found → List ℕ
journey_text e f =
    told (codes "journey ") e.start (told (codes " ") e.target (told (codes " ") e.second
    (told (codes " arrives ") f.arrival (codes " legs " ++ decimal f.legs))))

-- the letter of a label: f foot, b bus, s ship, r rail, c car, l link
abbrev pub letter_of : ℕ → ℕ
letter_of label =
    cond (label == 0) 102 (cond (label == 1) 98 (cond (label == 2) 115 (cond (label == 3) 114 (cond (label == 4) 99 (cond (label == 5) 108 45)))))

-- arc, tail, head, letter, second of coming and arrival
abbrev pub leg_text : Leg → Arc → List ℕ
leg_text l a =
    told (codes "leg ") l.arc (told (codes " ") a.tail (told (codes " ") a.head
    (codes " " ++ (encode (letter_of a.label) ++ told (codes " ") l.entered (codes " " ++ decimal l.arrived)))))

-- the number of a refusal
abbrev pub refused_text : Refusal → List ℕ
refused_text r = codes "refused " ++ decimal (number_of r)

-- the line of a leg, after a line's end; a leg whose arc is not among the arcs has none
abbrev pub leg_line : List Arc → Leg → List ℕ
leg_line arcs l = elim (slice_get arcs l.arc) [ Some a ↦ 10 ∷ leg_text l a | None ↦ [] ]

-- the lines of legs
abbrev pub legs_text : List Arc → List Leg → List ℕ
legs_text arcs ls = flat_map (leg_line arcs) ls

-- an enquiry's slip: the journey and its legs, which are the first of the rows, or the refusal
abbrev pub slip_text : Enquiry → Result Found Refusal → List Arc → List Leg → List ℕ
slip_text e (Ok f) arcs rows = journey_text e f ++ legs_text arcs (take f.legs rows)
slip_text e (Err r) arcs rows = refused_text r

abbrev pub layer_text : Layer → List ℕ
layer_text Number = codes "number"
layer_text Record = codes "record"
layer_text Network = codes "network"

-- the number, place and layer of a fault in a file
abbrev pub fault_text : Refusal → ℕ → List ℕ
fault_text r at = told (codes "file ") (number_of r) (told (codes " at ") at (codes " in " ++ layer_text (layer_of r)))
