use Rattle.std.proofs.Common.{◌∙◌, sym, ap, not, map-id, arith}
use Rattle.std.specs.List.{list_any}
use Rattle.idl_check.specs.AcfRules.{belongs}
use Rattle.idl_constructs.proofs.AnyFrom.{found_there, not_there, nowhere}
use Rattle.idl_check.proofs.acf_places.is_misplaced.Goals as goal

pub loop-attribute-init : goal.loop-attribute-init
loop-attribute-init c = ap (λ l. list_any (λ a. not (belongs c.args.spot a.kind)) l) (map-id c.args.attributes.now)

pub returns-then-is_elsewhere : goal.returns-then-is_elsewhere
returns-then-is_elsewhere c =
    found_there (λ a. a) (λ a. not (belongs c.args.spot a.kind)) c.args.attributes.now c.loop-attribute.attribute-index c.attribute-item.result c.loop-attribute-test.true c.attribute-item.is
    (sym c.if-is_elsewhere.true ∙ c.is_elsewhere.ensures)
    ∙ c.loop-attribute.invariant

pub loop-attribute-preserved : goal.loop-attribute-preserved
loop-attribute-preserved c =
    sym (not_there (λ a. a) (λ a. not (belongs c.args.spot a.kind)) c.args.attributes.now c.loop-attribute.attribute-index c.attribute-item.result c.loop-attribute-test.true c.attribute-item.is
    (sym c.if-is_elsewhere.false ∙ c.is_elsewhere.ensures))
    ∙ c.loop-attribute.invariant

pub returns : goal.returns
returns c = nowhere (λ a. a) (λ a. not (belongs c.args.spot a.kind)) c.args.attributes.now c.loop-attribute.attribute-index (omega arith) ∙ c.loop-attribute.invariant
