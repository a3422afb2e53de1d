use Rattle.std.proofs.Common.{subst, sym}
use Rattle.network.specs.Sound.{Below, Above}
use Rattle.network.proofs.Runs.{below_or_none, above_or_all, below_above}
use Rattle.network.proofs.network.Network.around.Goals as goal

pub returns : goal.returns
returns c =
    let low : Below c.args.self.arcs.now c.args.stop c.unwrap_or-start.result = subst (Below c.args.self.arcs.now c.args.stop) (sym c.unwrap_or-start.ensures) (below_or_none _ _ c.below.result c.below.ensures) in
    let high : Above c.args.self.arcs.now c.args.stop c.unwrap_or-end.result = subst (Above c.args.self.arcs.now c.args.stop) (sym c.unwrap_or-end.ensures) (above_or_all _ _ c.not_below.result c.not_below.ensures) in
    record { ordered = below_above _ _ _ _ low high; lower = low; higher = high }
