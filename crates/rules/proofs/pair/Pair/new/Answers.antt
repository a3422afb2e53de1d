use Rattle.std.proofs.Common.{refl}
use Rattle.std.proofs.lemmas.Bool.{le-leb, lt-leb}
use Rattle.automata.proofs.PairLaws.{paired_words, overfull_words}
use Rattle.rules.proofs.pair.Pair.new.Goals as goal

pub returns : goal.returns
returns g c =
    let first = g.A.Rule.lawful c.args.first in
    let second = g.B.Rule.lawful c.args.second in record {
      first = refl;
      second = refl;
      words = λ le. paired_words _ _ first second (le-leb _ 64 le);
      none = λ lt. overfull_words _ _ first second (lt-leb _ 64 lt);
    }
