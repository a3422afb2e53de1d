-- Network files that are loaded and written again.
use Rattle.std.specs.Prelude.{◌≡◌, ℕ, ◌≤◌, List, ◌++◌, length, take, drop, Ok, Result}
use Rattle.model.specs.declared.refusal.Refusal.{Refusal}
use Rattle.formats.specs.Contents.{NetworkContents}
use Rattle.formats.specs.NetworkFile.{network}
use Rattle.files.specs.Loading.{joined, list_rows, name_rows, first_stop}
use Rattle.writer.specs.Networks.{NetworkTables, tables_of, Writes}

-- the rows that a load of a file fills, by what the file holds; the names stand in the file itself
abbrev pub loaded_tables : List ℕ → NetworkContents → NetworkTables
loaded_tables file c =
    tables_of file (name_rows (first_stop (length c.names)) c.names) c.walks (joined c.timetables) (list_rows 0 c.timetables) (joined c.roads) (list_rows 0 c.roads) c.arcs

-- what is loaded from a file that is accepted is written to the same bytes, in any output that has room for them
abbrev pub AcceptedFilesWriteBack : Type 0
AcceptedFilesWriteBack =
    (file : List ℕ) (c : NetworkContents) (end : ℕ) → network.read file 0 ≡ Ok (c, end) →
    (before after : List ℕ) (r : Result ℕ Refusal) → Writes (length c.names) (loaded_tables file c) before after r → end ≤ length before →
    (r ≡ Ok end) × (after ≡ take end file ++ drop end before)
