use Rattle.std.proofs.Common.{◌∙◌, sym, ap, map, option_map}
use Rattle.idl_grammar.specs.Seen.{seen_parameter, seen_export}
use Rattle.idl_check.specs.AcfRules.{parameters_in}
use Rattle.idl_check.proofs.AcfOperations.{parameters_at, parameters_are}
use Rattle.idl_check.proofs.acf_names.NamedOperations.parameters.Goals as goal

-- there is no operation of the name
pub returns-in_err-number : goal.returns-in_err-number
returns-in_err-number c =
    let all = map seen_export c.args.self.now.exports.now in
    ap (option_map (λ ps. map seen_parameter ps.now)) c.from_residual.ensures ∙ sym (ap (parameters_at all) c.in_err-number.was)
    ∙ parameters_are all c.args.self.now.numbers c.args.name.now c.as_slice.result.now c.get.result c.args.self.now.operations c.as_slice.ensures c.get.ensures

-- there is one
pub returns : goal.returns
returns c =
    let all = map seen_export c.args.self.now.exports.now in
    c.parameters_in.ensures ∙ ap parameters_in c.export_at.ensures ∙ sym (ap (parameters_at all) c.in_ok-number.was)
    ∙ parameters_are all c.args.self.now.numbers c.args.name.now c.as_slice.result.now c.get.result c.args.self.now.operations c.as_slice.ensures c.get.ensures
