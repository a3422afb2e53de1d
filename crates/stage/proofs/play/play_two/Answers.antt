use Rattle.std.proofs.Common.{◌≡◌, [], ◌∷◌, None, Ok, sym, subst}
use Rattle.scripts.specs.Balances.{Balanced}
use Rattle.stage.proofs.play.play_two.Goals as goal

pub unreachable-requires : goal.unreachable-requires
unreachable-requires g c =
    let ok : c.play.result ≡ Ok tt =
    c.play.ensures.spent (subst (λ ps. Balanced ps (None ∷ None ∷ [])) (sym c.as_mut_slice.ensures.value) c.in_ok-planners.ensures) in
    let was = c.in-Err.is in
    cc
