use Rattle.meanings.proofs.Sounds.{sound_timetables}
use Rattle.books.proofs.Departing.{rising_rows}
use Rattle.books.proofs.timetables.Lists+Connection.departing.Goals as goal

pub departing-requires : goal.departing-requires
departing-requires c =
    let b = c.args.self.now in
    rw c.connections.ensures (rising_rows b.rows.now b.spans.now (sound_timetables b.rows.now b.spans.now b.sound).rising c.args.service)
