use Rattle.std.proofs.Common.{◌+◌, ◌-◌, ◌<◌, length, ap, arith}
use Rattle.std.proofs.lemmas.List.{get_or_default}
use Rattle.model.specs.declared.network.Arc.{Arc}
use Rattle.network.proofs.Passing.{none}
use Rattle.network.proofs.Runs.{before_more}
use Rattle.network.proofs.network.Network.strides.Goals as goal

pub loop-end-preserved : goal.loop-end-preserved
loop-end-preserved c =
    let pos : 0 < c.args.stride = c.requires.0 in
    let last : c.loop-end.end + (c.args.stride - 1) < length c.args.self.arcs.now = omega (arith, c.loop-end.invariant.0) in (
      omega (arith, c.loop-end.invariant.0),
      λ k d lt. before_more c.args.self.arcs.now c.args.self.ascending (c.args.stop + 1) (c.loop-end.end + (c.args.stride - 1)) none last (omega (arith, c.if-self-end.true)) k d (omega arith),
    )

pub returns-else-self-end : goal.returns-else-self-end
returns-else-self-end c =
    let pos : 0 < c.args.stride = c.requires.0 in
    let last : c.loop-end.end + (c.args.stride - 1) < length c.args.self.arcs.now = omega (arith, c.loop-end.invariant.0) in record {
      within = c.loop-end.invariant.0;
      before = c.loop-end.invariant.1;
      past = λ d fits. omega (arith, c.if-self-end.false, ap (λ (a : Arc). a.tail) (get_or_default c.args.self.arcs.now (c.loop-end.end + (c.args.stride - 1)) d none last));
    }
