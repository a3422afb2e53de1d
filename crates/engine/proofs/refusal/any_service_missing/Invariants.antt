-- No arc so far is missing its service.
use Rattle.std.proofs.Common.{◌≡◌, drop}
use Rattle.model.specs.Asking.{any_unserved}
use Rattle.engine.proofs.refusal.any_service_missing.Given as goal

abbrev pub invariant-loop-arc : goal.invariant-loop-arc
invariant-loop-arc l = any_unserved l.count l.arcs ≡ any_unserved l.count (drop l.arc-index l.arcs)
