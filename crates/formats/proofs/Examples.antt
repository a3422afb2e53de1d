-- The examples, computed.
use Rattle.std.proofs.Common.{refl}
use Rattle.wire.specs.Numbers.{groups_of, encode, longer, groups, limited, decode}
use Rattle.formats.specs.Examples.{NumberExamples}

pub number_examples : NumberExamples
unfolding groups_of encode longer groups limited decode
number_examples = (refl, refl, refl)
