use Rattle.std.proofs.Common.{ltb, ◌∙◌, arith}
use Rattle.engine.proofs.Ranks.{rank_lex}
use Rattle.engine.proofs.entry.EntryRanked.precedes.Goals as goal

pub returns : goal.returns
returns c =
    (λ i. ltb (c.rank.ensures i) (c.rank-2.ensures i))
    ∙ rank_lex c.args.self.second c.args.self.legs c.args.self.place c.args.other.second c.args.other.legs c.args.other.place (omega arith) (omega arith) (omega arith) (omega arith)
