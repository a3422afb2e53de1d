use Rattle.std.proofs.Common.{nat_lt, rules}
use Rattle.wire.proofs.Steps.{takes_reads}
use Rattle.wire.proofs.reader.Reader.number_below.Goals as goal

pub returns : goal.returns
returns c = takes_reads (λ n. nat_lt n c.args.bound) (λ n. n) c.number_as.ensures (λ n o small made. search rules)
