-- The order of the queue's entries.
use Rattle.std.specs.Prelude.{Bool}
use Rattle.queue.specs.Lex.{lex}
use Rattle.engine.specs.declared.entry.Entry.{Entry}

-- by the second, then the legs, then the place's number
abbrev pub entry_before : Entry → Entry → Bool
entry_before x y = lex x.second x.legs x.place y.second y.legs y.place
