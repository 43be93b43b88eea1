use mir.Val.{SFits}
use mir.Syntax.{w128}
use Rattle.std.proofs.lemmas.Int.{to_z-of_z}
use Rattle.std.proofs.Common.{rules, ℤ, List, ◌∷◌, [], ◌∙◌, ap, refl, subst, sym}
use Rattle.std.proofs.lemmas.Result.{on_ok_weaker}
use Rattle.nd_value.specs.Tree.{Flat, flat}
use Rattle.nd_flat.specs.FlatForm.{flat_seen, num_flat}
use Rattle.nd_flat.specs.declared.node.Seen.TheVariants as seen
use Rattle.library_nodes.specs.Laying.{Adds}
use Rattle.library_nodes.proofs.Single.{one_node}
use Rattle.library_nodes.proofs.laying.lay_value.Goals as goal

pub returns-in-Some : goal.returns-in-Some
returns-in-Some c =
    let z : ℤ = c.in-Some.number in
    let fits : SFits w128 z = search rules in
    on_ok_weaker c.add_single.result
    (λ h.
    subst (λ (fs : List Flat). Adds fs c.args.list.now c.add_single.new.list)
    (ap (λ y. num_flat y ∷ []) (to_z-of_z w128 z fits)
    ∙ sym (one_node c.args.walk c.number.new.self c.requires.0 (num_flat z) c.requires.1 c.in-Some.ensures.some refl)) h)
    c.add_single.ensures

pub returns-in-Some-pointer : goal.returns-in-Some-pointer
returns-in-Some-pointer c =
    on_ok_weaker c.add_single-in-Some-pointer.result
    (λ h.
    subst (λ (fs : List Flat). Adds fs c.args.list.now c.add_single-in-Some-pointer.new.list)
    (sym (one_node c.args.walk c.pointer.new.self c.requires.0 (flat_seen (seen.Ptr c.in-Some-pointer.cell)) c.requires.1
    (ap flat (sym c.in_default.ensures.none) ∙ c.in-Some-pointer.ensures.some) refl)) h)
    c.add_single-in-Some-pointer.ensures

pub returns-in-Some-text : goal.returns-in-Some-text
returns-in-Some-text c =
    on_ok_weaker c.add_single-in-Some-text.result
    (λ h.
    subst (λ (fs : List Flat). Adds fs c.args.list.now c.add_single-in-Some-text.new.list)
    (sym (one_node c.args.walk c.text.new.self c.requires.0 (flat_seen (seen.Text c.in-Some-text.max c.in-Some-text.octets)) c.requires.1
    (ap flat (sym (c.in_default-pointer.ensures.none ∙ c.in_default.ensures.none)) ∙ c.in-Some-text.ensures.some) refl)) h)
    c.add_single-in-Some-text.ensures
