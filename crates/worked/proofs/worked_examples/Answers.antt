use Rattle.std.proofs.Common.{refl}
use Rattle.worked.proofs.Working.{worked}
use Rattle.worked.proofs.worked_examples.Goals as goal

pub returns : goal.returns
returns c = record { count = refl; examples = worked }
