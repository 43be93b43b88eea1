use Rattle.std.proofs.Common.{rules, ℕ, ℤ, Option, ap, ◌∙◌, option_map}
use Rattle.std.specs.Prelude.{option_copied}
use Rattle.std.proofs.lemmas.Int.{to_z-of_z}
use mir.Val.{SFits}
use mir.Syntax.{w128}
use Rattle.nd_types.specs.Table.{type_at}
use Rattle.ndr_explain.specs.Cursors.{armed_paths, elem_paths, union_arm}
use Rattle.ndr_explain.proofs.LevelPaths.{array_level, pipe_level, union_level}
use Rattle.ndr_explain.proofs.LevelPlaces.{array_children, no_children, pipe_children, union_children}
use Rattle.ndr_explain.proofs.levels.children.Goals as goal

pub returns-in-Rec-clause-is : goal.returns-in-Rec-clause-is
returns-in-Rec-clause-is c = rw c.in-Rec.is (λ ks e. c.members.ensures.is ks)

pub returns-in-Arr-clause-is : goal.returns-in-Arr-clause-is
returns-in-Arr-clause-is c =
    rw c.in-Arr.is
    (λ ks e. array_level (type_at c.args.types.now c.args.of.0) _ c.in-Arr.max c.in-Arr.offset c.in-Arr.count ks c.elements.result c.array_elem.ensures e c.elements.ensures.is)

pub returns-in-Arr-clause-places : goal.returns-in-Arr-clause-places
returns-in-Arr-clause-places c =
    let elem : Option ℕ = option_map (λ t. t.0) c.array_elem.result in
    array_children (type_at c.args.types.now c.args.of.0) elem c.in-Arr.count (λ p. elem_paths elem p c.in-Arr.offset c.in-Arr.count) c.elements.result c.array_elem.ensures
    c.elements.ensures.is c.elements.ensures.places

pub returns-in-Pipe-clause-is : goal.returns-in-Pipe-clause-is
returns-in-Pipe-clause-is c =
    rw c.in-Pipe.is
    (λ ks e. pipe_level (type_at c.args.types.now c.args.of.0) _ c.in-Pipe.count ks c.elements-in-Pipe.result c.pipe_elem.ensures e c.elements-in-Pipe.ensures.is)

pub returns-in-Pipe-clause-places : goal.returns-in-Pipe-clause-places
returns-in-Pipe-clause-places c =
    let elem : Option ℕ = option_map (λ t. t.0) c.pipe_elem.result in
    pipe_children (type_at c.args.types.now c.args.of.0) elem c.in-Pipe.count (λ p. elem_paths elem p 0 c.in-Pipe.count) c.elements-in-Pipe.result c.pipe_elem.ensures
    c.elements-in-Pipe.ensures.is c.elements-in-Pipe.ensures.places

pub returns-in-Union-clause-is : goal.returns-in-Union-clause-is
returns-in-Union-clause-is c =
    let z : ℤ = c.in-Union.tag in
    let fits : SFits w128 z = search rules in
    let d = type_at c.args.types.now c.args.of.0 in
    rw c.in-Union.is
    (λ ks e. union_level d z ks _ c.arm_value.result (c.arm_of.ensures ∙ ap (union_arm d) (to_z-of_z w128 z fits)) c.arm_value.ensures.is)

pub returns-in-Union-clause-places : goal.returns-in-Union-clause-places
returns-in-Union-clause-places c =
    let z : ℤ = c.in-Union.tag in
    let fits : SFits w128 z = search rules in
    let d = type_at c.args.types.now c.args.of.0 in
    union_children d z (option_copied c.arm_of.result) (λ p. armed_paths p (option_copied c.arm_of.result)) c.arm_value.result
    (c.arm_of.ensures ∙ ap (union_arm d) (to_z-of_z w128 z fits)) c.arm_value.ensures.is c.arm_value.ensures.places

pub returns-in-Num-clause-places : goal.returns-in-Num-clause-places
returns-in-Num-clause-places c = no_children (type_at c.args.types.now c.args.of.0)

pub returns-in-Text-clause-places : goal.returns-in-Text-clause-places
returns-in-Text-clause-places c = no_children (type_at c.args.types.now c.args.of.0)

pub returns-in-Ptr-clause-places : goal.returns-in-Ptr-clause-places
returns-in-Ptr-clause-places c = no_children (type_at c.args.types.now c.args.of.0)

pub returns-in-Context-clause-places : goal.returns-in-Context-clause-places
returns-in-Context-clause-places c = no_children (type_at c.args.types.now c.args.of.0)
