use Rattle.idl_lexer.proofs.Cuts.{space_cut}
use Rattle.idl_lexer.proofs.cut.cut_space.Goals as goal

pub returns-clause-cut : goal.returns-clause-cut
returns-clause-cut c = space_cut c.args.text.now c.args.from c.requires.within c.requires.space
