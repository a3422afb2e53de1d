use Rattle.std.proofs.Common.{sym, ◌∙◌, arith, length, rules, Ok, subst, zero-add}
use Rattle.std.proofs.lemmas.Result.{err_from_is_err_and}
use Rattle.writer.specs.Lent.{lists}
use Rattle.writer.specs.Networks.{network_refusal, network_bytes, Writes}
use Rattle.writer.proofs.Emitting.{answered_err, none_of}
use Rattle.writer.proofs.Whole.{writes_refused, writes_short, writes_network}
use Rattle.writer.proofs.network.write_network.Goals as goal

pub returns-in_err-emit_network : goal.returns-in_err-emit_network
returns-in_err-emit_network c =
    let p = err_from_is_err_and c.from_residual.result c.from_residual.ensures.1 in
    rw (p.1, p.2) (writes_refused c.args.stop_count (lists c.args.tables) c.args.output.now _ (answered_err (network_refusal c.args.stop_count (lists c.args.tables)) tt _ (sym c.in_err-emit_network.was ∙ c.emit_network.ensures.answer)))

pub returns-then-output-len : goal.returns-then-output-len
returns-then-output-len c =
    let none = none_of _ c.emit_network.ensures c.in_ok-emit_network.was in
    let len = c.emit_network.ensures.place none in
    writes_short c.args.stop_count (lists c.args.tables) c.args.output.now none (omega arith)

pub returns : goal.returns
returns c =
    let t = lists c.args.tables in
    let none = none_of _ c.emit_network.ensures c.in_ok-emit_network.was in
    let len = c.emit_network.ensures.place none ∙ zero-add (length (network_bytes t)) in
    let pasted = c.emit_network-2.ensures.output none (omega arith) in
    let w = writes_network c.args.stop_count t c.args.output.now c.emit_network-2.new.to.out.now none (omega arith) pasted in
    let same = c.emit_network-2.ensures.same in
    rw len (subst (λ after. Writes c.args.stop_count t c.args.output.now after (Ok (length (network_bytes t)))) (search rules) w)
