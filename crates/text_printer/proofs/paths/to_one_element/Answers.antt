use Rattle.std.proofs.Common.{◌≡◌, ◌++◌, ◌+◌, Option, Some, codes, decimal, ap, sym, subst, ◌∙◌, append_assoc}
use Rattle.nd_value.specs.Seen.{tree_of}
use Rattle.nd_value.specs.Tree.{trees, count}
use Rattle.text_grammar.specs.Paths.{element_path, element_paths}
use Rattle.text_printer.specs.declared.paths.Child.{Child}
use Rattle.text_printer.specs.Steps.{IsChildAt, seen_child, elem_types}
use Rattle.text_printer.proofs.Nodes.{no_child, child_step, elem_at, element_path_at}
use Rattle.text_printer.proofs.paths.to_one_element.Goals as goal

pub returns-in_default : goal.returns-in_default
returns-in_default c table =
    let ks = trees c.args.items.now in
    no_child table (elem_types (Some c.args.elem.0) (count ks)) (element_paths c.args.text.now c.args.offset ks) c.args.items.now c.args.node c.args.text.now
    (subst (λ (r : Option Child). IsChildAt c.args.items.now c.args.node (seen_child r)) c.in_default.is c.child_at.ensures)

pub returns : goal.returns
returns c table =
    let ks = trees c.args.items.now in
    let k = c.in-Some.child in
    let v = tree_of k.val.now in
    let at = subst (λ (r : Option Child). IsChildAt c.args.items.now c.args.node (seen_child r)) c.in-Some.is c.child_at.ensures in
    let i = decimal (c.args.offset + k.at) in
    let p : c.append-2.new.self ≡ element_path c.args.text.now (c.args.offset + k.at) =
    c.in_ok-append-2.ensures.ok ∙ ap (λ x. x ++ codes "]") (c.in_ok-append_index.ensures ∙ ap (λ x. x ++ i) c.in_ok-append.ensures.ok)
    ∙ append_assoc (c.args.text.now ++ codes "[") i (codes "]") ∙ append_assoc c.args.text.now (codes "[") (i ++ codes "]") in
    child_step table (elem_types (Some c.args.elem.0) (count ks)) (element_paths c.args.text.now c.args.offset ks) c.args.items.now c.args.node k.at v k.node c.args.elem.0 c.append-2.new.self
    at (elem_at c.args.elem.0 c.args.items.now k.at v at.0) (element_path_at c.args.text.now c.args.offset c.args.items.now k.at v at.0 ∙ ap (λ x. Some x) (sym p))
