use Rattle.std.proofs.Common.{rules}
use Rattle.std.specs.Prelude.{nat_lt}
use Rattle.std.proofs.lemmas.List.Sorted.{IsPartitionPoint-from_clause}
use Rattle.network.proofs.Runs.{parted, cut_within}
use Rattle.network.proofs.network.Network.first_from.Goals as goal

pub returns : goal.returns
returns c =
    cut_within _ _ c.around-around.result _ c.around-around.ensures c.partition_point.ensures.bound (IsPartitionPoint-from_clause (λ a. nat_lt a.tail c.args.stop) _ _ c.partition_point.ensures.partitioned (parted c.args.self.arcs.now c.args.self.ascending c.args.stop c.around-around.result) (λ x b f k. search rules))
