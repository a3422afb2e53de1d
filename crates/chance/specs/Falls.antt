-- How dice fall: each state follows from the one before, and the number drawn is read off its upper half.
use Rattle.std.specs.Prelude.{ℕ, ◌+◌, ◌*◌, ◌/◌, ◌%◌, ◌^◌}

abbrev pub stepped : ℕ → ℕ
stepped state = ((state * 6364136223846793005) % 2 ^ 64 + 1442695040888963407) % 2 ^ 64

abbrev pub upper : ℕ → ℕ
upper state = state / 4294967296
