use Rattle.std.proofs.Common.{◌==◌, rules}
use Rattle.wire.proofs.Steps.{takes_reads}
use Rattle.wire.proofs.reader.Reader.exactly.Goals as goal

pub returns : goal.returns
returns c = takes_reads (λ n. n == c.args.n) (λ _. tt) c.number_as.ensures (λ n o small made. search rules)
