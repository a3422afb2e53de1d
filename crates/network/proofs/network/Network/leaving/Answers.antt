use Rattle.std.proofs.Common.{arith}
use Rattle.network.proofs.Runs.{leaving_from_cuts, none_above, single_strides}
use Rattle.network.proofs.network.Network.leaving.Goals as goal

pub strides-near-requires : goal.strides-near-requires
strides-near-requires c = (omega arith, (c.first_from-first.ensures.within, none_above _ _ _ c.first_from-first.ensures))

pub strides-end-requires : goal.strides-end-requires
strides-end-requires c = (omega arith, (c.strides-near.ensures.within, c.strides-near.ensures.before))

pub returns : goal.returns
returns c = leaving_from_cuts _ _ _ _ c.first_from-first.ensures (single_strides c.args.self.arcs.now c.args.self.ascending _ _ c.strides-end.ensures)
