use Rattle.formats.specs.NetworkFile.{network}
use Rattle.formats.proofs.BothWays.{reads_back, writes_back}
use Rattle.formats.proofs.NetworkFile.{network_lawful}
use Rattle.formats.proofs.theorems.network_files_go_both_ways.Goals as goal

pub returns : goal.returns
returns c = record { there = reads_back network network_lawful; back = writes_back network network_lawful }
