use Rattle.std.proofs.Common.{◌∙◌, sym, ap, map-id, arith}
use Rattle.std.specs.List.{list_any}
use Rattle.idl_scope.specs.Seen.{known_in}
use Rattle.idl_check.specs.AcfRules.{has_unknown_handle}
use Rattle.idl_constructs.proofs.AnyFrom.{found_there, not_there, nowhere}
use Rattle.idl_check.proofs.acf_names.any_unknown_handle.Goals as goal

pub loop-attribute-init : goal.loop-attribute-init
loop-attribute-init c = ap (λ l. list_any (λ a. has_unknown_handle (known_in c.args.scope.now) a.kind) l) (map-id c.args.attributes.now)

pub returns-then-has_unknown_handle : goal.returns-then-has_unknown_handle
returns-then-has_unknown_handle c =
    found_there (λ a. a)
    (λ a. has_unknown_handle (known_in c.args.scope.now) a.kind) c.args.attributes.now c.loop-attribute.attribute-index c.attribute-item.result c.loop-attribute-test.true c.attribute-item.is
    (sym c.if-has_unknown_handle.true ∙ c.has_unknown_handle.ensures)
    ∙ c.loop-attribute.invariant

pub loop-attribute-preserved : goal.loop-attribute-preserved
loop-attribute-preserved c =
    sym (not_there (λ a. a)
    (λ a. has_unknown_handle (known_in c.args.scope.now) a.kind) c.args.attributes.now c.loop-attribute.attribute-index c.attribute-item.result c.loop-attribute-test.true c.attribute-item.is
    (sym c.if-has_unknown_handle.false ∙ c.has_unknown_handle.ensures))
    ∙ c.loop-attribute.invariant

pub returns : goal.returns
returns c = nowhere (λ a. a) (λ a. has_unknown_handle (known_in c.args.scope.now) a.kind) c.args.attributes.now c.loop-attribute.attribute-index (omega arith) ∙ c.loop-attribute.invariant
