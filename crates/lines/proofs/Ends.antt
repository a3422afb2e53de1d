-- Lines with their ends before them, and with their ends after them.
use Rattle.std.proofs.Common.{◌≡◌, ℕ, List, [], ◌∷◌, ◌++◌, Some, None, Option, refl, sym, ap, ◌∙◌}
use Rattle.std.specs.List.{slice_get}
use Rattle.std.proofs.lemmas.List.{append_assoc}
use Rattle.model.specs.declared.network.Arc.{Arc}
use Rattle.model.specs.declared.network.Leg.{Leg}
use Rattle.lines.specs.Lines.{leg_text, legs_text}
use Rattle.lines.specs.SlipLines.{ended, legs_ended}

pub ends_moved : (arcs : List Arc) (ls : List Leg) → 10 ∷ legs_ended arcs ls ≡ legs_text arcs ls ++ 10 ∷ []
ends_moved arcs [] = refl
ends_moved arcs (l ∷ ls) =
    let E = legs_ended arcs ls in
    let L = legs_text arcs ls in
    let rest : 10 ∷ E ≡ L ++ 10 ∷ [] = ends_moved arcs ls in
    elim (slice_get arcs l.arc) as (λ (o : Option Arc).
    10 ∷ (elim o [ Some a ↦ ended (leg_text l a) | None ↦ [] ] ++ E) ≡ (elim o [ Some a ↦ 10 ∷ leg_text l a | None ↦ [] ] ++ L) ++ 10 ∷ []) [
      | Some a ↦ ap (λ (z : List ℕ). 10 ∷ z) (append_assoc (leg_text l a) (10 ∷ []) E ∙ ap (λ (z : List ℕ). leg_text l a ++ z) rest ∙ sym (append_assoc (leg_text l a) L (10 ∷ [])))
      | None ↦ rest
    ]

pub slip_ended : (head : List ℕ) (arcs : List Arc) (ls : List Leg) → ended head ++ legs_ended arcs ls ≡ (head ++ legs_text arcs ls) ++ 10 ∷ []
slip_ended head arcs ls =
    append_assoc head (10 ∷ []) (legs_ended arcs ls) ∙ ap (λ (z : List ℕ). head ++ z) (ends_moved arcs ls) ∙ sym (append_assoc head (legs_text arcs ls) (10 ∷ []))
