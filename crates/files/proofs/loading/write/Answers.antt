use Rattle.std.proofs.Common.{arith}
use Rattle.files.proofs.Storing.{set_past}
use Rattle.files.proofs.loading.write.Goals as goal

pub returns-else-at-table : goal.returns-else-at-table
returns-else-at-table v c = set_past c.args.table.now c.args.at c.args.row (omega arith)
