use Rattle.std.proofs.Common.{◌++◌, ◌∷◌, [], take, sym, ap, ◌∙◌}
use Rattle.std.proofs.lemmas.List.{take_min}
use Rattle.lines.specs.Lines.{journey_text, legs_text, slip_text}
use Rattle.lines.proofs.Ends.{slip_ended}
use Rattle.lines.proofs.slip.Slip.lines.Goals as goal

pub returns-in-Ok : goal.returns-in-Ok
returns-in-Ok c =
    let s = c.args.self in
    let head = journey_text s.enquiry c.in-Ok.found in
    slip_ended head s.arcs.now (take c.min-legs.result s.legs.now)
    ∙ ap (λ ls. (head ++ legs_text s.arcs.now ls) ++ 10 ∷ []) (ap (λ n. take n s.legs.now) c.min-legs.ensures ∙ take_min c.in-Ok.found.legs s.legs.now)
    ∙ ap (λ answer. slip_text s.enquiry answer s.arcs.now s.legs.now ++ 10 ∷ []) (sym c.in-Ok.is)
