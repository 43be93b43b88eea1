use Rattle.std.proofs.Common.{◌∙◌, sym, arith}
use Rattle.std.specs.Str.{bytes_eq}
use Rattle.idl_grammar.specs.Seen.{seen_parameter}
use Rattle.idl_constructs.proofs.AnyFrom.{found_there, not_there, nowhere}
use Rattle.idl_check.proofs.acf_names.is_listed.Goals as goal

pub returns-then-is_named : goal.returns-then-is_named
returns-then-is_named c =
    found_there seen_parameter
    (λ q. bytes_eq c.args.name.now.octets q.declarator.name.octets) c.args.parameters.now c.loop-parameter.parameter-index c.parameter-item.result c.loop-parameter-test.true c.parameter-item.is
    (sym c.if-is_named.true ∙ c.is_named.ensures)
    ∙ c.loop-parameter.invariant

pub loop-parameter-preserved : goal.loop-parameter-preserved
loop-parameter-preserved c =
    sym (not_there seen_parameter
    (λ q. bytes_eq c.args.name.now.octets q.declarator.name.octets) c.args.parameters.now c.loop-parameter.parameter-index c.parameter-item.result c.loop-parameter-test.true c.parameter-item.is
    (sym c.if-is_named.false ∙ c.is_named.ensures))
    ∙ c.loop-parameter.invariant

pub returns : goal.returns
returns c = nowhere seen_parameter (λ q. bytes_eq c.args.name.now.octets q.declarator.name.octets) c.args.parameters.now c.loop-parameter.parameter-index (omega arith) ∙ c.loop-parameter.invariant
