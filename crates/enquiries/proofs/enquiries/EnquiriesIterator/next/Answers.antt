use Rattle.std.proofs.Common.{sym, ◌∙◌, arith}
use Rattle.enquiries.proofs.Lengths.{reads_on}
use Rattle.enquiries.proofs.enquiries.EnquiriesIterator.next.Goals as goal

pub returns-in-Ok-clause-goes : goal.returns-in-Ok-clause-goes
returns-in-Ok-clause-goes c = let on = reads_on c.args.self.now.input.now c.args.self.now.at c.in-Ok.next c.in-Ok.enquiry (sym c.enquiry_at.ensures ∙ c.in-Ok.is) in grind (arith, on)
