-- What a question asks for, as plain lists and numbers.
use Rattle.poster.specs.declared.question.Question.{Question}
use Rattle.poster.specs.Boards.{Listing, listing}

abbrev pub asked : Question → Listing
asked q = listing q.network.arcs.now q.timetables.now.rows.now q.timetables.now.spans.now q.first_service q.stop q.second
