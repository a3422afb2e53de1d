-- What a network gives to a search: the arcs that leave a stop, and a row for each place that an arc leads to.
use Rattle.std.proofs.Common.{◌≡◌, ℕ, ◌+◌, ◌-◌, ◌*◌, ◌/◌, ◌<◌, ◌≤◌, List, get_or, set, Some, ap, ◌∙◌, subst, arith}
use Rattle.std.specs.List.{slice_get}
use Rattle.std.proofs.lemmas.Option.{slice_get-get_or}
use Rattle.std.proofs.lemmas.Nat.{mul-add-lt, mul-le}
use Rattle.model.specs.declared.network.Arc.{Arc}
use Rattle.model.proofs.Options.{one_some}
use Rattle.std.specs.declared.ops.Range.{Range}
use Rattle.network.specs.Sound.{Fit, Leaving}
use Rattle.labels.specs.declared.label.Label.{Label}
use Rattle.labels.specs.Table.{settle}
use Rattle.labels.specs.Rows.{Rows, Room, Among, Waits, is_settled, relaxed_count}
use Rattle.labels.proofs.Tables.{nth_below}
use Rattle.labels.proofs.Searching.{row_below, relaxed_more}

nth_is : (arcs : List Arc) (i : ℕ) (x : Arc) → slice_get arcs i ≡ Some x → get_or arcs i x ≡ x
nth_is arcs i x e = one_some (slice_get arcs i) (get_or arcs i x) x (slice_get-get_or arcs i x (nth_below arcs i x e)) e

pub leaving_among : (arcs : List Arc) (v : ℕ) (range : Range ℕ) → Leaving arcs v range → Among arcs v range.start range.end
leaving_among arcs v range l i x e tail = l.all i x (nth_below arcs i x e) (ap Arc.tail (nth_is arcs i x e) ∙ tail)

pub fit_room : (arcs : List Arc) (stops k n : ℕ) → Fit stops arcs → n ≡ stops * k → Room arcs k n
fit_room arcs stops k n fit size i x s e below =
    let h : (get_or arcs i x).head < stops = (fit i x (nth_below arcs i x e)).1 in
    let y : x.head < stops = subst (λ (z : Arc). z.head < stops) (nth_is arcs i x e) h in
    let a : x.head * k + s < k * stops = mul-add-lt x.head k s stops y below in
    omega arith

-- the rows are few
pub rows_few : (stops k n : ℕ) → stops ≤ 1024 → k ≤ 65 → n ≡ stops * k → n ≤ 66560
rows_few stops k n a b size = let c : stops * k ≤ 1024 * 65 = mul-le stops k 1024 65 a b in omega arith

-- settling r makes room in the queue for what the arcs leaving its stop may offer
pub range_room : (arcs : List Arc) (k : ℕ) (rows : Rows) (r : ℕ) (l : Label) (range : Range ℕ) (n : ℕ) → 0 < k → Waits rows r l
    → Leaving arcs (r / k) range → n ≤ relaxed_count arcs k rows → n + (range.end - range.start) ≤ relaxed_count arcs k (set rows r (Some (settle l)))
range_room arcs k rows r l range n pos waits at few =
    let more : relaxed_count arcs k rows + (range.end - range.start) ≤ relaxed_count arcs k (set rows r (Some (settle l)))
    = relaxed_more arcs k rows r l range.start range.end pos (row_below rows r l waits.0) (ap is_settled waits.0 ∙ waits.1) at.within at.leave in
    omega arith
