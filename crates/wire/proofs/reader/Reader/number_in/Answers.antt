use Rattle.std.proofs.Common.{◌&&◌, nat_le, rules}
use Rattle.wire.proofs.Steps.{takes_reads}
use Rattle.wire.proofs.reader.Reader.number_in.Goals as goal

pub returns : goal.returns
returns c = takes_reads (λ n. nat_le c.args.low n && nat_le n c.args.high) (λ n. n) c.number_as.ensures (λ n o small made. search rules)
