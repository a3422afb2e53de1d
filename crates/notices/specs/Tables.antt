-- The notices that a table holds.
use Rattle.std.specs.Prelude.{List, take}
use Rattle.notices.specs.declared.notice.Notice.{Notice}
use Rattle.notices.specs.declared.table.NoticeTable.{NoticeTable}

abbrev pub listed : NoticeTable → List Notice
listed t = take t.len t.items
