use Rattle.scripts.proofs.Performing.{changed_at}
use Rattle.scripts.proofs.Balancing.{slot_balance, slots_balance}
use Rattle.scripts.proofs.running.change_at.Goals as goal

pub returns : goal.returns
returns g c = record {
  changed =
      changed_at g.B.Book.services c.args.slot c.args.change c.args.bulletins.now c.args.planner.now c.change_held-reply.new.planner c.take-held.result c.change_held-reply.result.1 c.lay.new.slot c.take-held.new.self c.change_held-reply.result.0 c.if-slot-bulletins.false c.take-held.ensures.value c.lay.ensures c.change_held-reply.ensures;
  balance =
      slots_balance c.args.slot c.args.bulletins.now c.args.planner.now c.change_held-reply.new.planner c.take-held.result c.change_held-reply.result.1 c.lay.new.slot c.take-held.new.self c.if-slot-bulletins.false c.take-held.ensures.value c.lay.ensures
      (slot_balance g.B.Book.services c.args.change c.take-held.result c.change_held-reply.result.1 c.change_held-reply.result.0 c.args.planner.now c.change_held-reply.new.planner c.change_held-reply.ensures);
}
