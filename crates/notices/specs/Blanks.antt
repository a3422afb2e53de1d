-- The rows of a table where no notice stands.
use Rattle.std.specs.Prelude.{ℕ, ◌≡◌, ◌≤◌, List, slice_index_or}
use Rattle.notices.specs.declared.notice.Notice.{Notice}

abbrev pub blank : Notice
blank = record { service = 0; lateness = 0; shut = 0; until = 0 }

-- no notice stands from row n on
abbrev pub BlankFrom : ℕ → List Notice → Type 0
BlankFrom n rows = (k : ℕ) → n ≤ k → slice_index_or rows k blank ≡ blank
