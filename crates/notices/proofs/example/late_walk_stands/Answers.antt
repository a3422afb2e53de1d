use Rattle.std.proofs.Common.{ap, arith}
use Rattle.notices.specs.Notices.{delayed}
use Rattle.notices.proofs.example.late_walk_stands.Goals as goal

pub returns : goal.returns
returns c = λ f walk. (ap (delayed 60) (walk 99 (omega arith)), ap (delayed 60) (walk 200 (omega arith)), ap (delayed 60) (walk 200 (omega arith)), ap (delayed 60) (walk 200 (omega arith)))
