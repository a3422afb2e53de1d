-- Lists stored one row at a time.
use Rattle.std.proofs.Common.{◌≡◌, ℕ, suc, ◌+◌, ◌≤◌, true, false, List, [], ◌∷◌, length, set, sym, refl, ap, ◌∙◌, ap₂, add-zero, add-one, arith, length-append}
use Rattle.std.proofs.lemmas.List.Edits.{sets}
use Rattle.model.specs.declared.tables.Span.{Span}
use Rattle.files.specs.Filling.{Lists, added}
use Rattle.files.specs.Loading.{joined, list_rows}
use Rattle.files.proofs.Storing.{set-set, sets_append}

-- the rows of one list after its first
unfoldable pub add_all : {A : Type 0} → Lists A → List A → Lists A
add_all l [] = l
add_all l (x ∷ xs) = add_all (added false x l) xs

pub record Grown {A : Type 0} (l : Lists A) (spans : List Span) (xs : List A) (m : Lists A) : Type 0 where
  pub count : m.count ≡ l.count
  pub rows : m.rows ≡ l.rows + length xs
  pub table : m.table ≡ sets l.table l.rows xs
  pub parts : m.spans ≡ set spans l.current.row (record { start = l.current.span.start; len = l.current.span.len + length xs })

pub add_all_lem : {A : Type 0} (xs : List A) (l : Lists A) (spans : List Span) → l.spans ≡ set spans l.current.row l.current.span → Grown l spans xs (add_all l xs)
unfolding add_all
add_all_lem [] l spans e = record {
  count = refl;
  rows = sym (add-zero l.rows);
  table = refl;
  parts = e ∙ ap (λ n. set spans l.current.row (record { start = l.current.span.start; len = n })) (sym (add-zero l.current.span.len));
}
add_all_lem (x ∷ xs) l spans e =
    let i = l.current.row in
    let start = l.current.span.start in
    let len = l.current.span.len in
    let e' = ap (λ s. set s i (record { start = start; len = len + 1 })) e ∙ set-set spans i l.current.span (record { start = start; len = len + 1 }) in
    let h = add_all_lem xs (added false x l) spans e' in record {
      count = h.count;
      rows = h.rows ∙ omega arith;
      table = h.table ∙ ap (λ k. sets (set l.table l.rows x) k xs) (add-one l.rows);
      parts = h.parts ∙ ap (λ n. set spans i (record { start = start; len = n })) (omega arith);
    }

-- lists that have a row each
unfoldable pub add_lists : {A : Type 0} → Lists A → List (List A) → Lists A
add_lists l [] = l
add_lists l ([] ∷ lists) = add_lists l lists
add_lists l ((x ∷ xs) ∷ lists) = add_lists (add_all (added true x l) xs) lists

unfoldable pub AllSome : {A : Type 0} → List (List A) → Type 0
AllSome [] = Unit {0}
AllSome (xs ∷ lists) = (1 ≤ length xs) × AllSome lists

pub record Listed {A : Type 0} (l : Lists A) (lists : List (List A)) (m : Lists A) : Type 0 where
  pub count : m.count ≡ l.count + length lists
  pub parts : m.spans ≡ sets l.spans l.count (list_rows l.rows lists)
  pub rows : m.rows ≡ l.rows + length (joined lists)
  pub table : m.table ≡ sets l.table l.rows (joined lists)

-- the first row of a list, and then its others
pub begun : {A : Type 0} (x : A) (xs : List A) (l : Lists A) → Grown (added true x l) l.spans xs (add_all (added true x l) xs)
begun x xs l = add_all_lem xs (added true x l) l.spans refl

pub add_lists_lem : {A : Type 0} (lists : List (List A)) (l : Lists A) → AllSome lists → Listed l lists (add_lists l lists)
unfolding add_lists AllSome joined list_rows
add_lists_lem [] l some = record { count = sym (add-zero l.count); parts = refl; rows = sym (add-zero l.rows); table = refl }
add_lists_lem ([] ∷ lists) l some = absurd (omega (arith, some.0))
add_lists_lem ((x ∷ xs) ∷ lists) l some =
    let g = begun x xs l in
    let m = add_all (added true x l) xs in
    let h = add_lists_lem lists m some.1 in
    let rows : m.rows ≡ l.rows + suc (length xs) = g.rows ∙ omega arith in
    let count : m.count ≡ suc l.count = g.count ∙ add-one l.count in
    let part : 0 + 1 + length xs ≡ suc (length xs) = omega arith in record {
      count = h.count ∙ omega (arith, count);
      rows = h.rows ∙ omega (arith, rows, length-append (x ∷ xs) (joined lists));
      table = h.table
          ∙ ap₂ (λ t k. sets t k (joined lists)) (g.table ∙ ap (λ k. sets (set l.table l.rows x) k xs) (add-one l.rows)) (rows ∙ omega arith)
          ∙ sym (sets_append xs (joined lists) (set l.table l.rows x) (suc l.rows));
      parts = h.parts
          ∙ ap₂ (λ t k. sets t k (list_rows m.rows lists)) (g.parts ∙ ap (λ n. set l.spans l.count (record { start = l.rows; len = n })) part) count
          ∙ ap (λ k. sets (set l.spans l.count (record { start = l.rows; len = suc (length xs) })) (suc l.count) (list_rows k lists)) rows;
    }

pub length_list_rows : {A : Type 0} (lists : List (List A)) (k : ℕ) → length (list_rows k lists) ≡ length lists
unfolding list_rows
length_list_rows [] k = refl
length_list_rows (xs ∷ lists) k = ap suc (length_list_rows lists (k + length xs))
