use Rattle.std.proofs.Common.{◌+◌, ◌∙◌, arith}
use Rattle.std.proofs.lemmas.List.{length-set}
use Rattle.notices.proofs.Rows.{written_blank}
use Rattle.notices.proofs.table.NoticeTable.push.Goals as goal

pub invariant_of-self-clause-whole : goal.invariant_of-self-clause-whole
invariant_of-self-clause-whole c =
    let t = c.args.self.now in length-set t.items t.len c.args.notice ∙ t.whole

pub invariant_of-self-clause-blank : goal.invariant_of-self-clause-blank
invariant_of-self-clause-blank c =
    let t = c.args.self.now in
    written_blank t.items t.len (t.len + 1) t.len c.args.notice (omega arith) (omega arith) t.blank
