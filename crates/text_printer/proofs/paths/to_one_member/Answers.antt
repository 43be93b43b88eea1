use Rattle.std.proofs.Common.{◌≡◌, ◌++◌, List, ℕ, Option, Some, codes, ap, sym, subst, ◌∙◌, append_assoc}
use Rattle.nd_value.specs.Seen.{tree_of}
use Rattle.text_grammar.specs.Paths.{member_path}
use Rattle.text_printer.specs.declared.paths.Child.{Child}
use Rattle.text_printer.specs.Steps.{IsChildAt, seen_child, member_types, member_paths}
use Rattle.text_printer.proofs.Nodes.{no_child, no_type, child_step, get_map, get_map_none}
use Rattle.text_printer.proofs.paths.to_one_member.Goals as goal

pub returns-in_default : goal.returns-in_default
returns-in_default c table =
    let ms = Some c.args.members.now in
    no_child table (member_types ms) (member_paths c.args.text.now ms) c.args.vals.now c.args.node c.args.text.now
    (subst (λ (r : Option Child). IsChildAt c.args.vals.now c.args.node (seen_child r)) c.in_default.is c.child_at.ensures)

pub returns-in_default-get : goal.returns-in_default-get
returns-in_default-get c table =
    let ms = Some c.args.members.now in
    let k = c.in-Some.child in
    no_type table (member_types ms) (member_paths c.args.text.now ms) c.args.vals.now c.args.node c.args.text.now k.at (tree_of k.val.now) k.node
    (subst (λ (r : Option Child). IsChildAt c.args.vals.now c.args.node (seen_child r)) c.in-Some.is c.child_at.ensures)
    (get_map_none (λ f. f.of.0) c.args.members.now k.at c.in_default-get.ensures.none)

pub returns : goal.returns
returns c table =
    let ms = Some c.args.members.now in
    let k = c.in-Some.child in
    let f = c.in-Some-get.member.now in
    let p : c.append-2.new.self ≡ member_path c.args.text.now f.name =
    c.in_ok-append-2.ensures.ok ∙ ap (λ x. x ++ c.as_slice.result.now) c.in_ok-append.ensures.ok ∙ append_assoc c.args.text.now (codes ".") c.as_slice.result.now
    ∙ ap (λ (n : List ℕ). c.args.text.now ++ (codes "." ++ n)) c.as_slice.ensures.same in
    child_step table (member_types ms) (member_paths c.args.text.now ms) c.args.vals.now c.args.node k.at (tree_of k.val.now) k.node f.of.0 c.append-2.new.self
    (subst (λ (r : Option Child). IsChildAt c.args.vals.now c.args.node (seen_child r)) c.in-Some.is c.child_at.ensures)
    (get_map (λ g. g.of.0) c.args.members.now k.at f c.in-Some-get.ensures.some)
    (get_map (λ g. member_path c.args.text.now g.name) c.args.members.now k.at f c.in-Some-get.ensures.some ∙ ap (λ x. Some x) (sym p))
