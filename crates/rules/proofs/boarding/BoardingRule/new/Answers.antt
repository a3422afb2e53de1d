use Rattle.std.proofs.Common.{refl, arith}
use Rattle.automata.proofs.BoardingLaws.{boarded_words}
use Rattle.rules.proofs.boarding.BoardingRule.new.Goals as goal

pub returns : goal.returns
returns c = record { made = (omega arith, refl); words = boarded_words c.args.limit }
