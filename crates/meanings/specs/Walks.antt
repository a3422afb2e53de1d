-- A walk book: each service adds its own fixed time.
use Rattle.std.specs.Prelude.{ℕ, ◌+◌, ◌<◌, ◌≤◌, List, length, Option, slice_index}
use Rattle.meanings.specs.Answers.{timely, listed}
use Rattle.meanings.specs.Spans.{most_services}

-- the longest walk
abbrev pub longest_walk : ℕ
longest_walk = 86400

-- the coming and the service's time, up to the horizon
abbrev pub walked : List ℕ → ℕ → ℕ → Option ℕ
walked times s t = listed (length times) s (timely (t + slice_index times s))

-- each of the first n walks is in range
abbrev pub Walkable : List ℕ → ℕ → Type 0
Walkable times n = (s : ℕ) → s < n → slice_index times s ≤ longest_walk

-- the tables that a walk book stands on
pub record SoundWalks (times : List ℕ) : Type 0 where
  pub few : length times ≤ most_services
  pub walkable : Walkable times (length times)
