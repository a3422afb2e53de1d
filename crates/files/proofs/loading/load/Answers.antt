use Rattle.std.proofs.Common.{sym, ◌∙◌}
use Rattle.std.proofs.lemmas.Result.{err_from_is_err_and}
use Rattle.formats.specs.NetworkFile.{network}
use Rattle.formats.proofs.NetworkFile.{network_lawful}
use Rattle.formats.proofs.BothWays.{writes_back}
use Rattle.files.specs.Lent.{lists}
use Rattle.files.proofs.Making.{rows_hold_names, files_make}
use Rattle.files.proofs.Passes.{load_fault, load_short, load_done}
use Rattle.files.proofs.References.{same_start}
use Rattle.files.proofs.loading.load.Goals as goal

pub returns-in_err-loaded : goal.returns-in_err-loaded
returns-in_err-loaded c =
    let a = c.args in
    let p = err_from_is_err_and c.from_residual.result c.from_residual.ensures.1 in
    rw (p.1, p.2) (record {
      loads = load_fault (network.read a.file.now 0) c.in_err-loaded.field-0.0
          (lists a.tables.now)
          (sym c.in_err-loaded.was ∙ c.tally.ensures);
      same = same_start a.tables.now;
      back = writes_back network network_lawful;
      named = rows_hold_names;
      made = files_make;
    })

pub returns-then-not-have_room : goal.returns-then-not-have_room
returns-then-not-have_room c =
    let a = c.args in record {
      loads = load_short (network.read a.file.now 0) c.in_ok-loaded.loaded
          (lists a.tables.now)
          c.in_ok-loaded.ensures (sym c.have_room.ensures ∙ c.if-not-have_room.true);
      same = same_start a.tables.now;
      back = writes_back network network_lawful;
      named = rows_hold_names;
      made = files_make;
    }

pub returns : goal.returns
returns c =
    let a = c.args in record {
      loads = load_done a.file.now c.in_ok-loaded.loaded
          (lists a.tables.now)
          _ c.in_ok-loaded.ensures (sym c.have_room.ensures ∙ c.if-not-have_room.false) c.fill.ensures.fills;
      same = c.fill.ensures.same;
      back = writes_back network network_lawful;
      named = rows_hold_names;
      made = files_make;
    }
