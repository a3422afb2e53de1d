-- How a search ends is how the enquiry is answered.
use Rattle.std.proofs.Common.{◌≡◌, ℕ, ◌<◌, ◌≤◌, List, ◌++◌, length, take, drop, Some, None, Ok, Err, Option, Result, sym, refl, ap, ◌∙◌, subst, inl, inr, arith}
use Rattle.std.proofs.lemmas.Option.{none-some}
use Rattle.model.specs.declared.enquiry.Enquiry.{Enquiry}
use Rattle.model.specs.declared.enquiry.Found.{Found}
use Rattle.model.specs.declared.refusal.Refusal.{Refusal}
use Rattle.model.specs.declared.refusal.Refusal.TheVariants.{NoJourney, RowsShort}
use Rattle.model.specs.declared.network.Place.{Place}
use Rattle.model.specs.declared.network.Leg.{Leg}
use Rattle.model.specs.Trips.{World, LawfulWorld, place, Journey}
use Rattle.model.specs.Suits.{Suits, NoneSuits}
use Rattle.model.specs.Asking.{rows_needed, refusal_of, TieRule, Answered, Outcome, Asked}
use Rattle.model.proofs.Options.{not_ok}
use Rattle.model.proofs.Halves.{trip_suits, suits_trip}
use Rattle.model.proofs.Extending.{journey_is_trip}
use Rattle.model.proofs.Asks.{legs_are_one}
use Rattle.labels.specs.declared.label.Label.{Label}
use Rattle.labels.specs.Table.{Table, Traced}
use Rattle.labels.specs.Rows.{Rows, view}
use Rattle.labels.proofs.Held.{Rests, search_rests}
use Rattle.labels.proofs.Solving.{first_of, journey_of, traced_of, chosen, arrives, no_trip}
use Rattle.labels.proofs.Tracing.{traced_length}
use Rattle.engine.specs.declared.entry.Entry.{Entry}
use Rattle.engine.specs.declared.turns.Reached.{Reached}
use Rattle.engine.specs.Agenda.{Stopped, Exhausted, Ended, Searched}

err_is : (f g : Refusal) → ◌≡◌ {A = Result Found Refusal} (Err f) (Err g) → f ≡ g
err_is f g e = cc

found_is : (f g : Found) → ◌≡◌ {A = Result Found Refusal} (Ok f) (Ok g) → f ≡ g
found_is f g e = cc

ok_is : (x y : Option Reached) → ◌≡◌ {A = Result (Option Reached) Refusal} (Ok x) (Ok y) → x ≡ y
ok_is x y e = cc

not_same : NoJourney ≡ RowsShort → ⊥
not_same e = let z : ◌≡◌ {A = ℕ} 0 1 = cc in omega arith

module _ (w : World) (law : LawfulWorld w) (e : Enquiry) (T : Table) where
  -- all is settled, and no end place of the target
  module _ (slip : List Leg) (x : Exhausted w (place e.start 0) e.second e.target T) where
    none_suits : NoneSuits w e
    none_suits ls a s =
        let y = suits_trip w e ls a s in
        no_trip w law (place e.start 0) e.second T (search_rests w law (place e.start 0) e.second x.searched) e.target x.unmet x.finished y.0 ls a y.1 y.2

    pub outcome_none : Outcome w e slip slip (Err NoJourney)
    outcome_none = record {
      no_journey = (λ _. none_suits, λ _. refl);
      rows_short = (λ h. absurd (not_same (err_is NoJourney RowsShort h)), λ o. absurd (none_suits o.legs o.arrival o.suits));
      no_other = λ f h. inl (sym (err_is NoJourney f h));
      untouched = λ _ _. refl;
      answered = λ found h. absurd (not_ok found NoJourney (sym h));
    }

  -- the search has stopped at an end place of the target
  module _ (s : ℕ) (l : Label) (x : Stopped w (place e.start 0) e.second e.target T s l) where
    o : Place
    o = place e.start 0

    rest : Rests w (place e.start 0) e.second T
    rest = search_rests w law (place e.start 0) e.second x.searched

    pub legs_there : (js : List Leg) × Traced w.arcs T js (place e.target s)
    legs_there = traced_of w law (place e.start 0) e.second T rest (place e.target s) l x.least.here

    module _ (js : List Leg) (traced : Traced w.arcs T js (place e.target s)) where
      journey : Journey w (place e.start 0) e.second js (place e.target s)
      journey = journey_of w law (place e.start 0) e.second T rest (place e.target s) l js x.least.here x.least.least traced

      tie_rule : TieRule w e js
      tie_rule = (
        place e.target s,
        chosen w law (place e.start 0) e.second T rest e.target x.unmet (place e.target s) l x.least x.tied (refl, x.ending),
        journey,
      )

      suits : Suits w e js l.second
      suits = trip_suits w e js l.second (place e.target s) (refl, x.ending)
          (journey_is_trip w (place e.start 0) e.second (place e.target s) js l.second journey
          (first_of w law (place e.start 0) e.second T rest (place e.target s) l x.least.here x.least.least))

      earliest : (ls : List Leg) (a : ℕ) → Suits w e ls a → l.second ≤ a
      earliest ls a z =
          let y = suits_trip w e ls a z in
          arrives w law (place e.start 0) e.second T rest e.target x.unmet (place e.target s) l x.least y.0 ls a y.1 y.2

      count : length js ≡ l.legs
      count = traced_length w.arcs T traced l x.least.here

      pub outcome_short : (slip : List Leg) → length slip < l.legs → Outcome w e slip slip (Err RowsShort)
      outcome_short slip short = record {
        no_journey = (λ h. absurd (not_same (sym (err_is RowsShort NoJourney h))), λ none. absurd (none js l.second suits));
        rows_short = (λ _. record { legs = js; arrival = l.second; suits = suits; tie_rule = tie_rule; more = let n : length js ≡ l.legs = count in omega arith }, λ _. refl);
        no_other = λ f h. inr (sym (err_is RowsShort f h));
        untouched = λ _ _. refl;
        answered = λ found h. absurd (not_ok found RowsShort (sym h));
      }

      pub outcome_found : (slip slip' : List Leg) → l.legs ≤ length slip → slip' ≡ js ++ drop (length js) slip
          → Outcome w e slip slip' (Ok (record { arrival = l.second; legs = l.legs }))
      outcome_found slip slip' fits rows = record {
        no_journey = (λ h. absurd (not_ok (record { arrival = l.second; legs = l.legs }) NoJourney h), λ none. absurd (none js l.second suits));
        rows_short = (
          λ h. absurd (not_ok (record { arrival = l.second; legs = l.legs }) RowsShort h),
          λ z.
              let same : length z.legs ≡ length js = ap length (legs_are_one w e z.legs js z.tie_rule tie_rule) in
              let n : length js ≡ l.legs = count in
              let more : length slip < length z.legs = z.more in
              absurd (omega arith),
        );
        no_other = λ f h. absurd (not_ok (record { arrival = l.second; legs = l.legs }) f h);
        untouched = λ f h. absurd (not_ok (record { arrival = l.second; legs = l.legs }) f h);
        answered = λ found h.
            subst (λ (z : Found). Answered w e slip slip' z) (found_is (record { arrival = l.second; legs = l.legs }) found h)
            (record {
              legs = js;
              counted = sym count;
              fits = let n : length js ≡ l.legs = count in omega arith;
              rows = rows;
              tie_rule = tie_rule;
              suits = suits;
              no_trip_arrives_earlier = earliest;
            });
      }

-- a search that gives a result is past the tests, and has ended so
module _ (stops count : ℕ) (w : World) (e : Enquiry) (labels labels' : Rows) (slots slots' : List Entry) (r : Result (Option Reached) Refusal)
    (x : Option Reached) (s : Searched stops count w e labels labels' slots slots' r) (was : r ≡ Ok x) where
  past : (f : Option Refusal) → refusal_of stops count w e (length labels) (length slots) ≡ f → f ≡ None
  past None h = refl
  past (Some f) h = absurd (not_ok x f (sym was ∙ (s.refused f h).0))

  pub passed : refusal_of stops count w e (length labels) (length slots) ≡ None
  passed = past (refusal_of stops count w e (length labels) (length slots)) refl

  pub ended : Ended w (place e.start 0) e.second e.target (view w.states (take (rows_needed stops w) labels')) x
  ended =
      let y = s.searched passed in
      let same : y.0 ≡ x = ok_is y.0 x (sym y.1 ∙ was) in
      subst (λ (z : Option Reached). Ended w (place e.start 0) e.second e.target (view w.states (take (rows_needed stops w) labels')) z) same y.2

  pub asked : (slip slip' : List Leg) (result : Result Found Refusal) → Outcome w e slip slip' result
      → (length labels' ≡ length labels) × (length slots' ≡ length slots) × (length slip' ≡ length slip)
      → Asked stops count w e labels labels' slots slots' slip slip' result
  asked slip slip' result o sizes = record {
    refused_by_tests = λ f h. absurd (none-some f (sym passed ∙ h));
    past_tests = λ _. o;
    sizes = sizes;
  }
