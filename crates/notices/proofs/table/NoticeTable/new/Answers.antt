use Rattle.notices.proofs.Rows.{all_blank}
use Rattle.notices.proofs.table.NoticeTable.new.Goals as goal

pub invariant_of-result-clause-blank : goal.invariant_of-result-clause-blank
invariant_of-result-clause-blank c = all_blank 64 _
