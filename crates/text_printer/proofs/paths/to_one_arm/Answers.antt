use Rattle.std.proofs.Common.{[], ◌∷◌, Some, ap, sym, ◌∙◌}
use Rattle.nd_types.specs.Layout.{type_list}
use Rattle.nd_value.specs.Nodes.{selected_types}
use Rattle.nd_value.specs.Seen.{tree_of}
use Rattle.text_grammar.specs.Paths.{arm_paths}
use Rattle.text_printer.proofs.Nodes.{no_types, no_values, only_child, arm_paths_are}
use Rattle.nd_value.specs.Tree.{trees}
use Rattle.text_printer.proofs.paths.to_one_arm.Goals as goal

pub returns-in_default : goal.returns-in_default
returns-in_default c table =
    let a = Some c.args.chosen.now in
    no_types table (selected_types a) (arm_paths c.args.text.now a) (trees c.args.arm.now) c.args.node c.args.text.now (ap type_list c.in_default.is)

pub returns-in_default-get : goal.returns-in_default-get
returns-in_default-get c table =
    let a = Some c.args.chosen.now in
    no_values table (selected_types a) (arm_paths c.args.text.now a) c.args.arm.now c.args.node c.args.text.now c.in_default-get.ensures.none

pub returns : goal.returns
returns c table =
    let a = Some c.args.chosen.now in
    only_child table (selected_types a) (arm_paths c.args.text.now a) c.args.arm.now c.args.node c.in-Some.of.0 c.append_arm_name.new.text (tree_of c.in-Some-get.val.now)
    (ap type_list c.in-Some.is) (arm_paths_are c.args.text.now c.args.chosen.now ∙ ap (λ x. x ∷ []) (sym c.in_ok-append_arm_name.ensures)) c.in-Some-get.ensures.some
