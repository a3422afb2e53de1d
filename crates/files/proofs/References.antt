-- The tables that are lent stay the same ones.
use Rattle.std.proofs.Common.{refl, ◌∙◌}
use Rattle.files.specs.declared.tables.FileTables.{FileTables}
use Rattle.files.specs.Lent.{SameReferences}

pub same_start : (t : FileTables) → SameReferences t t
same_start t = record { names = refl; walks = refl; timetables = refl; connections = refl; roads = refl; points = refl; arcs = refl }

pub same_then : {t u v : FileTables} → SameReferences t u → SameReferences u v → SameReferences t v
same_then h g = record { names = g.names ∙ h.names; walks = g.walks ∙ h.walks; timetables = g.timetables ∙ h.timetables; connections = g.connections ∙ h.connections; roads = g.roads ∙ h.roads; points = g.points ∙ h.points; arcs = g.arcs ∙ h.arcs }
