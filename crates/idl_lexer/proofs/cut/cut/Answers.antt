use Rattle.std.proofs.Common.{sym, ◌∙◌}
use Rattle.idl_lexer.proofs.FirstOctets.{unequal}
use Rattle.idl_lexer.proofs.Cuts.{bad_octet, refused_as}
use Rattle.idl_lexer.proofs.cut.cut.Goals as goal

pub returns : goal.returns
returns c =
    refused_as _ _ _ _ _ c.refuse.ensures
    (bad_octet c.args.text.now c.args.from c.requires
    (sym c.is_space.ensures ∙ c.if-is_space.false) (sym c.is_word_octet.ensures ∙ c.if-is_word_octet.false)
    (unequal _ 34 c.if-first-eq34.false) (unequal _ 39 c.if-first-eq39.false) (sym c.is_mark_octet.ensures ∙ c.if-is_mark_octet.false))
