use Rattle.std.proofs.lemmas.Result.{on_ok_weaker}
use Rattle.std.proofs.Common.{◌∙◌, ◌++◌, sym, ap}
use Rattle.idl_grammar.specs.Seen.{seen_type, seen_export}
use Rattle.idl_rule_definitions.specs.Nodes.{attribute_nodes, switch_nodes, type_nodes, export_nodes}
use Rattle.idl_constructs.specs.SeenNodes.{seen_construct}
use Rattle.idl_constructs.proofs.Adding.{adds_as, adds_both}
use Rattle.idl_constructs.proofs.Rests as rests
use Rattle.idl_constructs.proofs.exports.export.Goals as goal

pub returns-in_ok-declaration-in-Typedef : goal.returns-in_ok-declaration-in-Typedef
returns-in_ok-declaration-in-Typedef c =
    let h = seen_construct c.args.header.now in
    let i = seen_construct c.inside-construct.result in
    let u = c.in-Typedef in
    let t = seen_type u.of in
    let a = c.args.nodes.now in
    let b = c.declaration.new.nodes in
    let d = c.typedefs.new.nodes in
    let front = attribute_nodes i ++ switch_nodes i ++ type_nodes i t in
    on_ok_weaker c.typedefs.result
    (λ x. adds_as a d (front ++ rests.typedefs_from i u.pipe t c.as_slice.result.now) (export_nodes c.args.is_main h (seen_export c.args.export.now))
    (ap (λ ds. front ++ rests.typedefs_from i u.pipe t ds) c.as_slice.ensures.value
    ∙ (ap (λ j. attribute_nodes j ++ switch_nodes j ++ type_nodes j t ++ rests.typedefs_from j u.pipe t u.declarators.items) c.inside-construct.ensures
    ∙ sym (ap (λ y. export_nodes c.args.is_main h (seen_export y)) u.is)))
    (adds_both a b d front (rests.typedefs_from i u.pipe t c.as_slice.result.now) c.in_ok-declaration-in-Typedef.ensures x))
    c.typedefs.ensures
