use Rattle.ledger.proofs.Soundness.{always_sound}
use Rattle.ledger.proofs.Runs.{idle_calls}
use Rattle.ledger.proofs.ledgers_are_sound.Goals as goal

pub returns : goal.returns
returns c = record { sound = always_sound; idle = idle_calls }
