use Rattle.formats.specs.RuleFile.{rule}
use Rattle.formats.proofs.BothWays.{reads_back, writes_back}
use Rattle.formats.proofs.RuleFile.{rule_lawful}
use Rattle.formats.proofs.theorems.rule_files_go_both_ways.Goals as goal

pub returns : goal.returns
returns c = record { there = reads_back rule rule_lawful; back = writes_back rule rule_lawful }
