use Rattle.std.proofs.Common.{◌≡◌, ◌∙◌, ◌<◌, ◌&&◌, suc, not, refl, ap, ap₂, sym, arith}
use Rattle.idl_rule_definitions.specs.Types.{IdlType, is_void, is_handle, is_pipe, is_context}
use Rattle.idl_rule_definitions.specs.Scene.{is_nonencapsulated}
use Rattle.idl_rule_definitions.specs.TypeRules.{has_wrong_element, is_wrong_pipe, is_made_of_elements, is_too_deep, has_no_class, refers_to_reference}
use Rattle.idl_declared_types.specs.Kinds.{seen_types, is_inside}
use Rattle.idl_value_rules.proofs.MarkSums.{inside_more}
use Rattle.idl_value_rules.proofs.marks.own_of.Goals as goal

pub returns : goal.returns
unfolding is_too_deep
returns c s n count is size below properties =
    let ts = seen_types c.args.types.now.kinds in
    let seen = c.kind-kind.ensures.seen in
    let inside = inside_more c.kind-kind.result c.args.number count below c.kind-kind.ensures.inside in
    let within : c.args.number < suc count = omega (arith, below) in
    let deep = ap not (c.holds-too_deep.ensures ∙ properties.nests c.args.number within) in
    record {
      void = c.is_void.ensures ts ∙ ap is_void seen;
      handle = c.is_handle.ensures ts ∙ ap is_handle seen;
      pipe = c.is_pipe.ensures ts ∙ ap is_pipe seen;
      context = c.is_context.ensures ts ∙ ap is_context seen;
      classless = c.has_no_class.ensures ts ∙ ap has_no_class seen;
      reference_behind = c.refers_to_reference.ensures ∙ ap refers_to_reference seen;
      nonencapsulated = c.is_nonencapsulated.ensures s n is ∙ ap (is_nonencapsulated s) seen;
      wrong_element = c.has_wrong_element.ensures s count size inside properties ∙ ap (has_wrong_element s) seen;
      wrong_pipe = c.is_wrong_pipe.ensures s count size inside properties ∙ ap (is_wrong_pipe s) seen;
      hoists = c.holds.ensures ∙ properties.hoists c.args.number within;
      too_deep = deep;
      deep_array = c.is_deep_array.ensures ts ∙ ap₂ (λ t d. is_made_of_elements t && d) seen deep;
    }
