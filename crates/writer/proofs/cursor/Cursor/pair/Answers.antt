use Rattle.writer.proofs.Emitting.{appends_then}
use Rattle.writer.proofs.cursor.Cursor.pair.Goals as goal

pub returns : goal.returns
returns c = appends_then c.number.ensures c.number-2.ensures
