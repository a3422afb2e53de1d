-- What is made of a network file that is accepted.
use Rattle.std.specs.Prelude.{◌≡◌, ℕ, List, map, length, Ok, Result}
use Rattle.meanings.specs.Spans.{rows}
use Rattle.meanings.specs.Faults.{walks_fault, timetables_fault, roads_fault, verdict}
use Rattle.network.specs.declared.fault.NetworkFault.{NetworkFault}
use Rattle.network.specs.Sound.{Tested}
use Rattle.formats.specs.Contents.{NetworkContents}
use Rattle.formats.specs.NetworkFile.{network}
use Rattle.files.specs.Loading.{joined, list_rows, name_rows, first_stop}

-- the rows of names are the parts of the file that hold them
abbrev pub RowsHoldNames : Type 0
RowsHoldNames = (bs : List ℕ) (c : NetworkContents) (end : ℕ) → network.read bs 0 ≡ Ok (c, end) → map (rows bs) (name_rows (first_stop (length c.names)) c.names) ≡ c.names

-- the tables of a file's contents, which the makers of books and networks take without refusal
pub record Makes (c : NetworkContents) : Type 0 where
  pub walks : verdict (walks_fault c.walks) ≡ Ok tt
  pub timetables : verdict (timetables_fault (joined c.timetables) (list_rows 0 c.timetables)) ≡ Ok tt
  pub roads : verdict (roads_fault (joined c.roads) (list_rows 0 c.roads)) ≡ Ok tt
  pub network : (r : Result Unit NetworkFault) → Tested r (length c.names) c.arcs → r ≡ Ok tt

abbrev pub FilesMakeBooksAndNetworks : Type 0
FilesMakeBooksAndNetworks = (bs : List ℕ) (c : NetworkContents) (end : ℕ) → network.read bs 0 ≡ Ok (c, end) → Makes c
