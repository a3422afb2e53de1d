-- What is a network is not refused.
use Rattle.std.proofs.Common.{◌≡◌, ℕ, zero, suc, ◌+◌, ◌-◌, List, get_or, ap, arith}
use Rattle.model.specs.declared.network.Arc.{Arc}
use Rattle.network.specs.declared.fault.NetworkFault.{NetworkFault}
use Rattle.network.specs.declared.fault.NetworkFault.TheVariants.{StopCount, ArcCount, ArcField, TailFalls}
use Rattle.network.proofs.Passing.{none}
use Rattle.network.specs.Sound.{Sound, FirstFault}

pub sound_not_at_fault : (fault : NetworkFault) (stops : ℕ) (arcs : List Arc) → Sound stops arcs → FirstFault fault stops arcs → ⊥
sound_not_at_fault StopCount stops arcs s h = h s.counted.0
sound_not_at_fault ArcCount stops arcs s h = let c = s.counted in omega arith
sound_not_at_fault (ArcField i) stops arcs s h = h.1 none (s.fit i none h.0.inside)
sound_not_at_fault (TailFalls zero) stops arcs s h = omega (arith, (h.1 none).1)
sound_not_at_fault (TailFalls (suc k)) stops arcs s h =
    let on : k + 1 ≡ suc k = omega arith in
    let back : suc k - 1 ≡ k = omega arith in
    let in' = h.0.inside in
    omega (arith, s.ascending k none (omega arith), (h.1 none).1, ap (λ m. (get_or arcs m none).tail) on, ap (λ m. (get_or arcs m none).tail) back)
