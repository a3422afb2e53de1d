use Rattle.std.proofs.Common.{min, ◌∙◌, rules}
use Rattle.std.proofs.lemmas.Iterator.{YieldsList-from_slice, YieldsList-from_map}
use Rattle.meanings.specs.Timetables.{arrivals}
use Rattle.meanings.proofs.Timetables.{reduce_least}
use Rattle.books.proofs.Least.{reduced}
use Rattle.books.proofs.timetables.least_arrival.Goals as goal

pub returns : goal.returns
returns c =
    let list = c.args.list.now in
    reduced _ min _ (λ a x b q k. search rules) c.map.result _ c.reduce.ensures.ran (YieldsList-from_map _ (λ x. x.arrival) (YieldsList-from_slice list cc) c.map.ensures.closure (λ x r q k. search rules))
    ∙ reduce_least (arrivals list)
