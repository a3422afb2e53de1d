use Rattle.std.proofs.Common.{take, ap, ◌∙◌}
use Rattle.std.proofs.lemmas.List.{take_min}
use Rattle.contents.proofs.laying.front.Goals as goal

pub returns : goal.returns
returns g c = ap (λ n. take n c.args.table.now) c.min.ensures ∙ take_min c.args.rows c.args.table.now
