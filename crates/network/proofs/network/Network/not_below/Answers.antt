use Rattle.std.proofs.Common.{arith}
use Rattle.network.proofs.Runs.{after_more}
use Rattle.network.proofs.network.Network.not_below.Goals as goal

pub returns-then-self-i : goal.returns-then-self-i
returns-then-self-i c = record { within = omega arith; after = after_more c.args.self.arcs.now c.args.self.ascending _ _ _ c.if-i-self.true c.if-self-i.true }
