use Rattle.std.proofs.Common.{length, rules}
use Rattle.wire.proofs.Writing.{few_bytes}
use Rattle.files.proofs.loading.store.Goals as goal

pub overflow_add-start : goal.overflow_add-start
overflow_add-start c =
    let few = few_bytes (length c.in-Stop.name.now) in
    let end = c.requires.bounded.end in
    search rules

pub overflow_add-next : goal.overflow_add-next
overflow_add-next c =
    let few = few_bytes (length c.in-Stop.name.now) in
    let end = c.requires.bounded.end in
    search rules
