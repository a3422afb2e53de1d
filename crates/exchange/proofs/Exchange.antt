-- The rows of a loaded file name what the file holds.
use Rattle.std.proofs.Common.{◌≡◌, ℕ, ◌+◌, ◌-◌, ◌≤◌, Bool, true, ◌&&◌, List, [], ◌∷◌, ◌++◌, map, length, take, drop, Ok, sym, refl, ap, ◌∙◌, ap₂, append_assoc, append-nil, arith, length-append, length-drop, length-take, take_at}
use lib.Seq.{drop-append_seam}
use Rattle.std.proofs.lemmas.Bool.{le-leb}
use Rattle.model.specs.declared.tables.Span.{Span}
use Rattle.wire.specs.Grammar.{FineAll}
use Rattle.wire.specs.Numbers.{encode}
use Rattle.formats.specs.NetworkFile.{stop}
use Rattle.formats.proofs.NetworkFile.{network_lawful}
use Rattle.files.specs.Loading.{joined, list_rows, name_rows, first_stop}
use Rattle.files.proofs.Filling.{length_name_rows}
use Rattle.files.proofs.Making.{rows_hold_names}
use Rattle.meanings.specs.Spans.{rows}
use Rattle.writer.specs.Parts.{lies}
use Rattle.writer.specs.Networks.{held, AllLie, Rowed}
use Rattle.exchange.specs.Exchange.{loaded_tables, AcceptedFilesWriteBack}

both_true : (a b : Bool) → a ≡ true → b ≡ true → (a && b) ≡ true
both_true a b p q = ap (λ c. c && b) p ∙ q

row_lies : {A : Type 0} (table : List A) (row : Span) → row.start ≤ length table → row.len ≤ length table - row.start → lies table row ≡ true
row_lies table row low high = both_true _ _ (le-leb row.start (length table) low) (le-leb row.len (length table - row.start) high)

-- lists that stand in a table one after the other
lists_parted : {A : Type 0} (lists : List (List A)) (front rest table : List A) (k : ℕ) → table ≡ front ++ (joined lists ++ rest) → k ≡ length front → (map (rows table) (list_rows k lists) ≡ lists) × AllLie table (list_rows k lists)
unfolding joined list_rows
lists_parted [] front rest table k e is = (refl, tt)
lists_parted (xs ∷ lists) front rest table k e is =
    let cut : drop k table ≡ xs ++ (joined lists ++ rest) = ap (λ n. drop n table) is ∙ ap (drop (length front)) e ∙ drop-append_seam front ((xs ++ joined lists) ++ rest) ∙ append_assoc xs (joined lists) rest in
    let first : take (length xs) (drop k table) ≡ xs = ap (take (length xs)) cut ∙ take_at xs (joined lists ++ rest) (length xs) refl in
    let next : table ≡ (front ++ xs) ++ (joined lists ++ rest) = e ∙ ap (λ l. front ++ l) (append_assoc xs (joined lists) rest) ∙ sym (append_assoc front xs (joined lists ++ rest)) in
    let step : k + length xs ≡ length (front ++ xs) = omega (arith, is, length-append front xs) in
    let more = lists_parted lists (front ++ xs) rest table (k + length xs) next step in
    let long = ap length e ∙ length-append front ((xs ++ joined lists) ++ rest) in
    let left = ap length cut ∙ length-append xs (joined lists ++ rest) in
    let low : k ≤ length table = omega (arith, is, long) in
    let high : length xs ≤ length table - k = omega (arith, left, length-drop k table) in
    (ap₂ (λ a l. a ∷ l) first more.0, (row_lies table (record { start = k; len = length xs }) low high, more.1))

-- names that stand where their rows say lie within the file, since none is empty
names_lie : (file : List ℕ) (names : List (List ℕ)) (p : ℕ) → map (rows file) (name_rows p names) ≡ names → FineAll {S = Unit {0}} (λ _. stop) (λ _ _. tt) tt names → AllLie file (name_rows p names)
unfolding name_rows FineAll
names_lie file [] p e fine = tt
names_lie file (name ∷ names) p e fine =
    let from = p + length (encode (length name)) in
    let first : take (length name) (drop from file) ≡ name = cc in
    let others : map (rows file) (name_rows (from + length name) names) ≡ names = cc in
    let long = ap length first in
    let cut = length-take (length name) (drop from file) in
    let some = fine.0.0 in
    let low : from ≤ length file = omega (arith, long, cut, length-drop from file, some) in
    let high : length name ≤ length file - from = omega (arith, long, cut, length-drop from file) in
    (row_lies file (record { start = from; len = length name }) low high, names_lie file names (from + length name) others fine.1)

pub files_write_back : AcceptedFilesWriteBack
files_write_back file c end read before after r w room =
    let fine = (network_lawful.held c file 0 end read).fine in
    let named = rows_hold_names file c end read in
    let ts = lists_parted c.timetables [] [] (joined c.timetables) 0 (sym (append-nil (joined c.timetables))) refl in
    let rs = lists_parted c.roads [] [] (joined c.roads) 0 (sym (append-nil (joined c.roads))) refl in
    let same : held (loaded_tables file c) ≡ c = λ j. record { names = named j; walks = c.walks; timetables = ts.0 j; roads = rs.0 j; arcs = c.arcs } in
    let rowed : Rowed (length c.names) (loaded_tables file c) = record {
      count = length_name_rows c.names (first_stop (length c.names));
      names = names_lie file c.names (first_stop (length c.names)) named fine.names.1;
      timetables = ts.1;
      roads = rs.1;
    } in
    w.writes_back rowed file end (read ∙ ap (λ x. Ok (x, end)) (sym same)) room
