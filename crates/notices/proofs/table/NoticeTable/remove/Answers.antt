use Rattle.std.proofs.Common.{◌-◌, ◌∙◌, arith}
use Rattle.std.proofs.lemmas.List.{length-set}
use Rattle.notices.specs.Blanks.{blank}
use Rattle.notices.proofs.Rows.{lifted, lifted_blank}
use Rattle.notices.proofs.table.NoticeTable.remove.Goals as goal

pub invariant_of-self-clause-whole : goal.invariant_of-self-clause-whole
invariant_of-self-clause-whole c =
    let t = c.args.self.now in
    length-set c.copy_within.new.self (t.len - 1) blank ∙ c.copy_within.ensures.len ∙ t.whole

pub invariant_of-self-clause-blank : goal.invariant_of-self-clause-blank
invariant_of-self-clause-blank c =
    let t = c.args.self.now in
    let by = c.copy_within.ensures.by_index in
    lifted_blank t.items c.copy_within.new.self t.len _ (omega (arith, t.few, t.whole)) c.copy_within.ensures.len (omega arith) (omega arith) by.2 t.blank

pub returns : goal.returns
returns c =
    let t = c.args.self.now in
    let by = c.copy_within.ensures.by_index in
    lifted t.items c.copy_within.new.self t.len c.args.at (omega (arith, t.few, t.whole)) c.copy_within.ensures.len c.requires by.0 by.1
