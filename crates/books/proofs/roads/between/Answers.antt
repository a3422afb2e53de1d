use Rattle.std.proofs.Common.{arith}
use Rattle.meanings.specs.Roads.{reached}
use Rattle.meanings.proofs.Roads.{line_high}
use Rattle.books.proofs.roads.between.Goals as goal

pub overflow_cast-result : goal.overflow_cast-result
overflow_cast-result c = let x = c.args.from in let y = c.args.to in omega (arith, line_high x.second (reached x) y.second (reached y) c.args.coming (omega arith) (omega arith) (omega arith))

pub overflow_add-result : goal.overflow_add-result
overflow_add-result c = let x = c.args.from in let y = c.args.to in omega (arith, line_high x.second (reached x) y.second (reached y) c.args.coming (omega arith) (omega arith) (omega arith))
