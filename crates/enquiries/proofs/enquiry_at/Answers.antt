use Rattle.std.proofs.Common.{arith}
use Rattle.std.proofs.lemmas.Result.{err_from_is_err_and}
use Rattle.enquiries.proofs.PastEnd.{past_end}
use Rattle.enquiries.proofs.enquiry_at.Goals as goal

pub returns-in_err-reader : goal.returns-in_err-reader
returns-in_err-reader c =
    let p = err_from_is_err_and c.from_residual.result c.from_residual.ensures.1 in
    let past = c.in_err-reader.ensures in
    rw (past_end c.args.input.now c.args.at (omega (arith, past.0)), p.1, p.2, past.1)
