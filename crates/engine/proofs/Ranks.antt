-- Three numbers of 32 bits as one number.
use Rattle.std.proofs.Common.{◌≡◌, ℕ, ◌+◌, ◌*◌, ◌<◌, ltb, arith}
use Rattle.std.proofs.lemmas.Bool.Decides.{nat_tests}
use Rattle.queue.specs.Lex.{lex}

pub rank_lex : (a b c x y z : ℕ) → b < 4294967296 → c < 4294967296 → y < 4294967296 → z < 4294967296
    → ltb ((a * 4294967296 + b) * 4294967296 + c) ((x * 4294967296 + y) * 4294967296 + z) ≡ lex a b c x y z
rank_lex a b c x y z hb hc hy hz = grind (arith, nat_tests)
