use Rattle.exchange.proofs.Exchange.{files_write_back}
use Rattle.exchange.proofs.theorems.accepted_files_write_back.Goals as goal

pub returns : goal.returns
returns c = files_write_back
