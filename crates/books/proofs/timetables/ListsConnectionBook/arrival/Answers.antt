use Rattle.std.proofs.Common.{sym, ap, ◌∙◌}
use Rattle.meanings.specs.Timetables.{earliest}
use Rattle.meanings.proofs.Sounds.{sound_timetables}
use Rattle.books.proofs.Departing.{rising_rows, answer_by_rows}
use Rattle.books.proofs.timetables.ListsConnectionBook.arrival.Goals as goal

pub earliest-requires : goal.earliest-requires
earliest-requires c =
    let b = c.args.self.now in
    rw c.connections.ensures (rising_rows b.rows.now b.spans.now (sound_timetables b.rows.now b.spans.now b.sound).rising c.args.service)

pub returns : goal.returns
returns c =
    let b = c.args.self.now in
    c.earliest.ensures ∙ ap (λ l. earliest l c.args.coming) c.connections.ensures ∙ sym (answer_by_rows b.rows.now b.spans.now c.args.service c.args.coming)
