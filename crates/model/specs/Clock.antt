-- The clock. Times are whole seconds.
use Rattle.std.specs.Prelude.{ℕ}

-- the last second that there is
abbrev pub horizon : ℕ
horizon = 172800
