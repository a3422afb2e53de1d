use Rattle.std.proofs.Common.{ltb, ltb-true, ltb-false, sym, ◌∙◌, rules, arith}
use Rattle.std.proofs.lemmas.List.{take_rest}
use Rattle.std.proofs.lemmas.List.Sorted.{IsPartitionPoint-from_clause, IsPartitionedBy-ltb}
use Rattle.meanings.specs.Timetables.{no_connection}
use Rattle.meanings.proofs.Timetables.{caught_from, never_falls}
use Rattle.books.proofs.timetables.departing.Goals as goal

pub returns : goal.returns
returns c =
    let list = c.args.list.now in
    let first = c.partition_point-first.result in
    let point = IsPartitionPoint-from_clause (λ x. ltb x.departure c.args.coming) list first c.partition_point-first.ensures.partitioned (IsPartitionedBy-ltb (λ x. x.departure) list c.args.coming (never_falls list c.requires)) (λ a r q k. search rules) in
    take_rest list first ∙ sym (caught_from list c.args.coming first (λ k h. ltb-true _ _ (point.0 k no_connection (omega arith) h)) (λ k h l. ltb-false _ _ (point.1 k no_connection h l)) c.partition_point-first.ensures.bound)
