-- The numbers of the arcs that leave a stop.
use Rattle.std.specs.declared.ops.Range.{Range}
use Rattle.std.proofs.Common.{◌≡◌, ℕ, List, sym, subst}
use Rattle.model.specs.declared.network.Arc.{Arc}
use Rattle.network.specs.declared.fault.ArcRange.{ArcRange}
use Rattle.network.specs.Sound.{Leaving, numbers}

pub leaving_numbers : (arcs : List Arc) (stop : ℕ) (range : ArcRange) (r : Range ℕ) → r ≡ numbers range → Leaving arcs stop (numbers range) → Leaving arcs stop r
leaving_numbers arcs stop range r e = subst (Leaving arcs stop) (sym e)
