use Rattle.std.proofs.Common.{◌∙◌, sym, ap, map-id, arith}
use Rattle.std.specs.List.{list_any}
use Rattle.idl_scope.specs.Seen.{known_in}
use Rattle.idl_check.specs.AcfRules.{is_no_type}
use Rattle.idl_constructs.proofs.AnyFrom.{found_there, not_there, nowhere}
use Rattle.idl_check.proofs.acf_names.any_is_no_type.Goals as goal

pub loop-name-init : goal.loop-name-init
loop-name-init c = ap (λ l. list_any (is_no_type (known_in c.args.scope.now)) l) (map-id c.args.names.now)

pub returns-then-is_no_type : goal.returns-then-is_no_type
returns-then-is_no_type c =
    found_there (λ n. n) (is_no_type (known_in c.args.scope.now)) c.args.names.now c.loop-name.name-index c.name-item.result c.loop-name-test.true c.name-item.is
    (sym c.if-is_no_type.true ∙ c.is_no_type.ensures)
    ∙ c.loop-name.invariant

pub loop-name-preserved : goal.loop-name-preserved
loop-name-preserved c =
    sym (not_there (λ n. n) (is_no_type (known_in c.args.scope.now)) c.args.names.now c.loop-name.name-index c.name-item.result c.loop-name-test.true c.name-item.is
    (sym c.if-is_no_type.false ∙ c.is_no_type.ensures))
    ∙ c.loop-name.invariant

pub returns : goal.returns
returns c = nowhere (λ n. n) (is_no_type (known_in c.args.scope.now)) c.args.names.now c.loop-name.name-index (omega arith) ∙ c.loop-name.invariant
