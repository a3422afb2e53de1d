use Rattle.std.proofs.Common.{eqb, length, arith}
use Rattle.std.proofs.lemmas.Bool.{eq-eqb}
use Rattle.model.specs.declared.refusal.Refusal.TheVariants.{StopCount}
use Rattle.writer.proofs.Emitting.{emits_then, emits_tested, appends_then}
use Rattle.writer.proofs.network.emit_network.Goals as goal

pub returns : goal.returns
returns c =
    emits_tested (eqb (length c.args.tables.stops.now) c.args.stop_count) StopCount (eq-eqb (length c.args.tables.stops.now) c.args.stop_count (omega arith))
    (appends_then c.number.ensures (emits_then _ c.emit_list.ensures c.in_ok-emit_list.was (emits_then _ c.emit_list-2.ensures c.in_ok-emit_list-2.was
    (emits_then _ c.emit_list-3.ensures c.in_ok-emit_list-3.was (emits_then _ c.emit_list-4.ensures c.in_ok-emit_list-4.was c.emit_list-5.ensures)))))
