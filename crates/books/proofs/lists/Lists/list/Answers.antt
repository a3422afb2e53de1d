use Rattle.std.proofs.Common.{◌+◌, ◌≤◌, length, sym, subst}
use Rattle.model.specs.declared.tables.Span.{Span}
use Rattle.meanings.specs.Spans.{no_span}
use Rattle.meanings.proofs.Sounds.{fit_lists}
use Rattle.books.proofs.lists.Lists.list.Goals as goal

pub rows-requires : goal.rows-requires
rows-requires g c =
    let b = c.args.self.now in
    let got = c.in_ok-span.ensures.lookup.3 in
    subst (λ (span : Span). span.start + span.len ≤ length b.rows.now) (sym (got.1 no_span)) (fit_lists g.R.Row.tested g.R.Row.MOST b.rows.now b.spans.now b.sound c.args.service got.0).2
