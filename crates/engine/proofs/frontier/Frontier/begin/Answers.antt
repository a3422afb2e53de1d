-- All is cleared, and then the origin is written and queued.
use Rattle.std.proofs.Common.{◌≡◌, ℕ, ◌+◌, ◌*◌, false, length, get_or, set, replicate, Some, None, Option, ap, ◌∙◌, arith, rules}
use Rattle.model.specs.Trips.{place}
use Rattle.labels.specs.declared.label.Label.{Label}
use Rattle.labels.specs.Rows.{view, improves}
use Rattle.labels.proofs.Searching.{view_begun}
use Rattle.engine.proofs.Agendas.{none_labelled, written, agenda_empty}
use Rattle.engine.proofs.frontier.Frontier.begin.Goals as goal

pub returns-clause-table : goal.returns-clause-table
returns-clause-table c =
    let first : ℕ = c.args.start * c.args.states in
    let l : Label = record { second = c.args.second; legs = 0; arc = 0; state = 0; settled = false } in
    let cleared : c.fill.new.self ≡ replicate (length c.args.self.now.labels.now) None = c.fill.ensures.after (λ y e. search rules) in
    let none : (i : ℕ) → get_or c.fill.new.self i None ≡ None = none_labelled _ _ cleared in
    let row : first ≡ first + 0 = omega arith in
    ap (λ (r : ℕ). view c.args.states (set c.fill.new.self r (Some l))) row
    ∙ view_begun c.args.states c.fill.new.self (place c.args.start 0) c.args.second c.requires.size.0 (omega arith) (λ i h. none i)

pub returns-clause-standing : goal.returns-clause-standing
returns-clause-standing c =
    let first : ℕ = c.args.start * c.args.states in
    let l : Label = record { second = c.args.second; legs = 0; arc = 0; state = 0; settled = false } in
    let cleared : c.fill.new.self ≡ replicate (length c.args.self.now.labels.now) None = c.fill.ensures.after (λ y e. search rules) in
    let none : (i : ℕ) → get_or c.fill.new.self i None ≡ None = none_labelled _ _ cleared in
    written c.fill.new.self c.args.self.now.queue.now first l (agenda_empty c.fill.new.self c.args.self.now.queue.now c.requires.empty.0 none)
    (omega arith) (ap (λ (o : Option Label). improves o l) (none first)) c.push.new.self _ c.in-Ok.ensures.pushed
