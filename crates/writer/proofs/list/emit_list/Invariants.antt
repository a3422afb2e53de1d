use Rattle.writer.proofs.Emitting.{Emitting}
use Rattle.writer.proofs.list.emit_list.Given as goal

abbrev pub invariant-loop-item : goal.invariant-loop-item
invariant-loop-item g l = Emitting (g.K.Listed.most l.kind) (g.K.Listed.refusal l.kind) (g.K.Listed.bytes l.kind) g.K.Listed.next l.fn.first l.list l.item-index l.before l.initial.to l.to
