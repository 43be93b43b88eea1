use Rattle.idl_lexer.proofs.Cuts.{pair_cut, single_cut, placed}
use Rattle.idl_lexer.proofs.cut.cut_mark.Goals as goal

pub returns-then-pair_stands-clause-cut : goal.returns-then-pair_stands-clause-cut
returns-then-pair_stands-clause-cut c =
    let p = c.pair_stands.ensures.pair c.if-pair_stands.true in
    (placed _ _ _ _ _ c.token.ensures (pair_cut c.args.text.now c.args.from c.requires.within c.requires.mark c.requires.alone p.0 p.1)).0

pub returns-else-pair_stands-clause-cut : goal.returns-else-pair_stands-clause-cut
returns-else-pair_stands-clause-cut c =
    (placed _ _ _ _ _ c.token-else-pair_stands.ensures
    (single_cut c.args.text.now c.args.from c.requires.within c.requires.mark c.requires.alone (c.pair_stands.ensures.none c.if-pair_stands.false))).0
