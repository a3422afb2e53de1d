use Rattle.formats.proofs.Examples.{number_examples}
use Rattle.formats.proofs.theorems.numbers_of_a_file.Goals as goal

pub returns : goal.returns
returns c = number_examples
