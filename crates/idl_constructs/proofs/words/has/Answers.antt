use Rattle.std.proofs.Common.{refl, sym, ◌∙◌, arith}
use Rattle.idl_grammar.specs.Seen.{seen_attribute}
use Rattle.idl_rule_definitions.specs.Attributes.{is_word}
use Rattle.idl_constructs.specs.Spelled.{spelled}
use Rattle.idl_constructs.proofs.AnyFrom.{found_there, not_there, nowhere}
use Rattle.idl_constructs.proofs.words.has.Goals as goal

pub loop-attribute-init : goal.loop-attribute-init
loop-attribute-init c = refl

pub returns-then-is_word : goal.returns-then-is_word
returns-then-is_word c =
    found_there seen_attribute (is_word (spelled c.args.word)) c.args.attributes.now c.loop-attribute.attribute-index c.attribute-item.result c.loop-attribute-test.true c.attribute-item.is
    (sym c.if-is_word.true ∙ c.is_word.ensures)
    ∙ c.loop-attribute.invariant

pub loop-attribute-preserved : goal.loop-attribute-preserved
loop-attribute-preserved c =
    sym (not_there seen_attribute (is_word (spelled c.args.word)) c.args.attributes.now c.loop-attribute.attribute-index c.attribute-item.result c.loop-attribute-test.true c.attribute-item.is
    (sym c.if-is_word.false ∙ c.is_word.ensures))
    ∙ c.loop-attribute.invariant

pub returns : goal.returns
returns c =
    nowhere seen_attribute (is_word (spelled c.args.word)) c.args.attributes.now c.loop-attribute.attribute-index (omega arith)
    ∙ c.loop-attribute.invariant
