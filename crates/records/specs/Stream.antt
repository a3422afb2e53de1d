-- The records of a network file in their order, up to its end or its first fault.
use Rattle.std.specs.Prelude.{ℕ, zero, suc, ◌+◌, ◌-◌, List, [], ◌∷◌, ◌++◌, map, length, None, Ok, Err, Result}
use Rattle.model.specs.declared.network.Arc.{Arc}
use Rattle.model.specs.declared.tables.Connection.{Connection}
use Rattle.model.specs.declared.tables.Point.{Point}
use Rattle.wire.specs.declared.fault.Fault.{Fault}
use Rattle.wire.specs.Grammar.{Format}
use Rattle.wire.specs.Places.{Step}
use Rattle.formats.specs.Contents.{NetworkContents}
use Rattle.formats.specs.NetworkFile.{form, stop_count, stop, run_count, walk, connection_count, connection, departed, point_count, point, passed, arc_count, arc, left}

-- a record as what it says: a connection and a point with the number of their service
pub data Rec : Type 0 where
  a_stop : List ℕ → Rec
  a_walk : ℕ → Rec
  a_connection : ℕ → Connection → Rec
  a_point : ℕ → Point → Rec
  an_arc : Arc → Rec

-- the lists of services, one after the other, each record with the number of its service; the first has the number s
unfoldable pub numbered : {A : Type 0} → (ℕ → A → Rec) → ℕ → List (List A) → List Rec
numbered wrap s [] = []
numbered wrap s (xs ∷ lists) = map (wrap s) xs ++ numbered wrap (suc s) lists

-- the records of a file's contents, in their order
unfoldable pub records_of : NetworkContents → List Rec
records_of c = map a_stop c.names ++ (map a_walk c.walks ++ (numbered a_connection (length c.walks) c.timetables
    ++ (numbered a_point (length c.walks + length c.timetables) c.roads ++ map an_arc c.arcs)))

-- the records that stand before the end of a file or its first fault, and which of the two it is: the place after the last record,
-- or the fault
abbrev pub Told : Type 0
Told = List Rec × Result ℕ Fault

abbrev pub before : Rec → Told → Told
before x t = (x ∷ t.0, t.1)

abbrev pub told_by : {A : Type 0} → Step A → (A → ℕ → Told) → Told
told_by (Ok x) f = f x.0 x.1
told_by (Err f) g = ([], Err f)

-- n of a kind, and then what comes after them; s is what the earlier ones say of the next
unfoldable pub streamed : {S A : Type 0} → (S → Format A) → (S → A → S) → (A → Rec) → (List ℕ → ℕ → Told) → S → ℕ → List ℕ → ℕ → Told
streamed F next wrap after s zero bs p = after bs p
streamed F next wrap after s (suc n) bs p = told_by ((F s).read bs p) (λ a q. before (wrap a) (streamed F next wrap after (next s a) n bs q))

-- n lists of services, each with its count, and then what comes after them; the services up to the last of them are `total`
unfoldable pub listed : {S A : Type 0} → Format ℕ → (S → Format A) → (S → A → S) → S → (ℕ → A → Rec) → (List ℕ → ℕ → Told) → ℕ → ℕ → List ℕ → ℕ → Told
listed N F next s wrap after total zero bs p = after bs p
listed N F next s wrap after total (suc n) bs p = told_by (N.read bs p) (λ k q. streamed F next (wrap (total - suc n)) (listed N F next s wrap after total n) s k bs q)

abbrev pub ended : List ℕ → ℕ → Told
ended bs p = ([], Ok p)

-- the rest of the file from the count of each run on, by the counts of the runs before it

abbrev pub arc_run : ℕ → ℕ → List ℕ → ℕ → Told
arc_run stops services bs p = told_by (arc_count.read bs p) (λ n q. streamed (arc stops services) left an_arc ended 0 n bs q)

abbrev pub road_run : ℕ → ℕ → ℕ → List ℕ → ℕ → Told
road_run stops walks timetables bs p =
    told_by (run_count.read bs p) (λ n q. listed point_count point passed None a_point (arc_run stops (walks + timetables + n)) (walks + timetables + n) n bs q)

abbrev pub timetable_run : ℕ → ℕ → List ℕ → ℕ → Told
timetable_run stops walks bs p =
    told_by (run_count.read bs p) (λ n q. listed connection_count connection departed 0 a_connection (road_run stops walks n) (walks + n) n bs q)

abbrev pub walk_run : ℕ → List ℕ → ℕ → Told
walk_run stops bs p = told_by (run_count.read bs p) (λ n q. streamed {S = Unit {0}} (λ _. walk) (λ _ _. tt) a_walk (timetable_run stops n) tt n bs q)

abbrev pub stop_run : List ℕ → ℕ → Told
stop_run bs p = told_by (stop_count.read bs p) (λ n q. streamed {S = Unit {0}} (λ _. stop) (λ _ _. tt) a_stop (walk_run n) tt n bs q)

-- a file from its front
abbrev pub whole : List ℕ → ℕ → Told
whole bs p = told_by (form.read bs p) (λ _ q. stop_run bs q)

abbrev pub told : List ℕ → Told
told bs = whole bs 0

-- all records, or the first fault
abbrev pub collected : Told → Step (List Rec)
collected t = elim t.1 [ Ok q ↦ Ok (t.0, q) | Err f ↦ Err f ]
