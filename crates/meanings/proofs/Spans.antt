-- The rows of a span.
use Rattle.std.proofs.Common.{◌≡◌, ℕ, List, length, arith}
use Rattle.std.proofs.lemmas.List.{length-take, length-drop}
use Rattle.model.specs.declared.tables.Span.{Span}
use Rattle.meanings.specs.Spans.{rows, Fits}

-- a span that fits has as many rows as it says
pub rows_length : {X : Type 0} (most : ℕ) (table : List X) (span : Span) → Fits most table span → length (rows table span) ≡ span.len
rows_length most table span fit = simp (length-take, length-drop) (omega arith)
