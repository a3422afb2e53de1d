use Rattle.std.proofs.lemmas.Result.{err_from_is_err_and}
use Rattle.records.proofs.Points.{point_first_err, point_err, point_ok}
use Rattle.records.proofs.fields.point.Goals as goal

pub returns-in_err-second : goal.returns-in_err-second
returns-in_err-second c =
    let p = err_from_is_err_and c.from_residual.result c.from_residual.ensures.1 in
    rw (p.1, p.2) (point_first_err c.args.before c.second_before-base.ensures c.least_second-least.ensures c.least_arrival-reached.ensures c.number_since.ensures c.in_err-second.was)

pub returns-in_err-arrival : goal.returns-in_err-arrival
returns-in_err-arrival c =
    let p = err_from_is_err_and c.from_residual-in_err-arrival.result c.from_residual-in_err-arrival.ensures.1 in
    rw (p.1, p.2) (point_err c.args.before c.second_before-base.ensures c.least_second-least.ensures c.least_arrival-reached.ensures c.number_since.ensures c.in_ok-second.was
    c.number_since-2.ensures c.in_err-arrival.was)

pub returns : goal.returns
returns c =
    rw c.saturating_sub.ensures (point_ok c.args.before c.second_before-base.ensures c.least_second-least.ensures c.least_arrival-reached.ensures c.number_since.ensures c.in_ok-second.was
    c.number_since-2.ensures c.in_ok-arrival.was)
