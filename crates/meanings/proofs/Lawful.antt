-- Tables without a fault make lawful books.
use Rattle.std.proofs.Common.{◌≡◌, List, length, None}
use Rattle.model.specs.Books.{LawfulBook}
use Rattle.model.specs.declared.tables.Connection.{Connection}
use Rattle.model.specs.declared.tables.Point.{Point}
use Rattle.model.specs.declared.tables.Span.{Span}
use Rattle.meanings.specs.Timetables.{timetabled}
use Rattle.meanings.specs.Roads.{driven}
use Rattle.meanings.proofs.Timetables.{timetabled_lawful}
use Rattle.meanings.proofs.Roads.{driven_lawful}
use Rattle.meanings.specs.Faults.{timetables_fault, roads_fault}
use Rattle.meanings.proofs.Sounds.{sound_timetables, sound_roads}

pub timetables_lawful : (cs : List Connection) (spans : List Span) → timetables_fault cs spans ≡ None → LawfulBook (length spans) (timetabled cs spans)
timetables_lawful cs spans e = let s = sound_timetables cs spans e in timetabled_lawful cs spans s.few s.forward s.timely

pub roads_lawful : (ps : List Point) (spans : List Span) → roads_fault ps spans ≡ None → LawfulBook (length spans) (driven ps spans)
roads_lawful ps spans e = let s = sound_roads ps spans e in driven_lawful ps spans s.few s.rising s.steady
