-- The parts of a table that belong to one service each.
use Rattle.std.specs.Prelude.{ℕ, ◌+◌, ◌<◌, ◌≤◌, List, length, take, drop, slice_index_or}
use Rattle.model.specs.declared.tables.Span.{Span}

abbrev pub no_span : Span
no_span = record { start = 0; len = 0 }

-- the rows of a span
abbrev pub rows : {X : Type 0} → List X → Span → List X
rows table span = take span.len (drop span.start table)

-- the rows of a service
abbrev pub service_rows : {X : Type 0} → List X → List Span → ℕ → List X
service_rows table spans s = rows table (slice_index_or spans s no_span)

-- the most services of one kind
abbrev pub most_services : ℕ
most_services = 4096

-- a span has 1 to `most` rows, and the table has them
abbrev pub Fits : {X : Type 0} → ℕ → List X → Span → Type 0
Fits most table span = (1 ≤ span.len) × (span.len ≤ most) × (span.start + span.len ≤ length table)

-- the span of every service does
abbrev pub AllFit : {X : Type 0} → ℕ → List X → List Span → Type 0
AllFit most table spans = (s : ℕ) → s < length spans → Fits most table (slice_index_or spans s no_span)

-- what holds of the rows of every service
abbrev pub Each : {X : Type 0} → (List X → Type 0) → List X → List Span → Type 0
Each P table spans = (s : ℕ) → s < length spans → P (service_rows table spans s)
