-- What a poster answers.
use Rattle.std.proofs.Common.{◌≡◌, ℕ, ◌<◌, ◌≤◌, List, ◌++◌, map, length, drop, Some, None, Ok, Err, Result, sym, refl, ◌∙◌, arith}
use Rattle.std.proofs.lemmas.Option.{none-some, same_Some}
use Rattle.model.specs.declared.refusal.Refusal.{Refusal}
use Rattle.model.specs.declared.refusal.Refusal.TheVariants.{RowsShort}
use Rattle.model.proofs.Options.{not_ok}
use Rattle.poster.specs.declared.departure.Departure.{Departure}
use Rattle.poster.specs.declared.departure.PosterRow.{PosterRow}
use Rattle.poster.specs.Boards.{Listing, Board, row_of}
use Rattle.poster.specs.Posted.{refusal_of, Outcome, Posted}

same_refusal : (f g : Refusal) → ◌≡◌ {A = Result ℕ Refusal} (Err f) (Err g) → g ≡ f
same_refusal f g e = cc

module _ (l : Listing) (board : List Departure) (is : Board l board) (rows : List PosterRow) where
  pub outcome_short : length rows < length board → Outcome l rows rows (Err RowsShort)
  outcome_short short = record {
    board = board;
    is_the_board = is;
    rows_short = (λ e. short, λ h. refl);
    no_other = λ f e. same_refusal RowsShort f e;
    untouched = λ f e. refl;
    answered = λ n e. absurd (not_ok n RowsShort (sym e));
  }

  pub outcome_filled : (rows' : List PosterRow) (n : ℕ) → n ≡ length board → length board ≤ length rows → rows' ≡ map (row_of l) board ++ drop (length board) rows → Outcome l rows rows' (Ok n)
  outcome_filled rows' n count fits filled = record {
    board = board;
    is_the_board = is;
    rows_short = (λ e. absurd (not_ok n RowsShort e), λ h. absurd (omega arith));
    no_other = λ f e. absurd (not_ok n f e);
    untouched = λ f e. absurd (not_ok n f e);
    answered = λ m e. let same : n ≡ m = same_answer n m e in record { counted = sym same ∙ count; fits = fits; filled = filled };
  }
    where
      same_answer : (n m : ℕ) → ◌≡◌ {A = Result ℕ Refusal} (Ok n) (Ok m) → n ≡ m
      same_answer n m e = cc

module _ (stops : ℕ) (l : Listing) (slots : List Departure) (rows : List PosterRow) where
  pub posted_refused : (f : Refusal) → refusal_of stops l.arcs l.stop l.second (length slots) ≡ Some f → Posted stops l slots slots rows rows (Err f)
  posted_refused f e = record {
    refused_by_tests = λ g h. let same : f ≡ g = same_Some f g (sym e ∙ h) in ((λ i. Err (same i)), refl, refl);
    past_tests = λ h. absurd (none-some f (sym h ∙ e));
    sizes = (refl, refl);
  }

  pub posted_past : (slots' : List Departure) (rows' : List PosterRow) (result : Result ℕ Refusal) → refusal_of stops l.arcs l.stop l.second (length slots) ≡ None
      → length slots' ≡ length slots → length rows' ≡ length rows → Outcome l rows rows' result → Posted stops l slots slots' rows rows' result
  posted_past slots' rows' result none s r outcome = record {
    refused_by_tests = λ f e. absurd (none-some f (sym none ∙ e));
    past_tests = λ h. outcome;
    sizes = (s, r);
  }
