use Rattle.std.proofs.Common.{◌≡◌, ◌∙◌, ◌<◌, ◌≤◌, ℕ, ℤ, true, false, [], ◌∷◌, length, map, replicate, Option, Some, Err, Ok, option_map, refl, sym, ap, subst, arith, rules}
use Rattle.std.proofs.lemmas.Result.{err_from_is_err_and}
use Rattle.std.proofs.lemmas.Int.{to_z-of_z}
use Rattle.std.proofs.lemmas.List.{length-replicate}
use Rattle.std.proofs.lemmas.Option.{slice_get-map}
use mir.Val.{SFits}
use mir.Syntax.{w128}
use Rattle.nd_types.specs.declared.types.Field.{Field}
use Rattle.nd_types.specs.declared.types.TypeDef.{TypeDef}
use Rattle.nd_types.specs.declared.types.TypeId.{TypeId}
use Rattle.nd_types.specs.Layout.{type_list}
use Rattle.nd_types.specs.Table.{type_at, selected}
use Rattle.nd_value.specs.Nodes.{selected_types}
use Rattle.nd_value.specs.Seen.{tree_of}
use Rattle.nd_value.specs.Tree as tree
use Rattle.nd_value.specs.Tree.{trees}
use Rattle.nd_lemmas.proofs.Lists.{length_map}
use Rattle.library_nodes.specs.Listings.{has_form, has_parts, is_wide, meant, plain, saying}
use Rattle.library_nodes.specs.Steps.{IsBuilt, AreBuilt}
use Rattle.library_nodes.proofs.Lists.{none_came, next_came, all_came, stops_at, get_replicate, begun, pushed, next_counted}
use Rattle.library_nodes.proofs.BuiltNodes.{value_of, no_type, no_node, plain_wrong, parts_built, part_halts, arm_built, elements_are, union_built, union_halts}
use Rattle.library_nodes.proofs.values.+values.Goals as goal

pub value-returns-in_default : goal.value-returns-in_default
value-returns-in_default t c = no_node c.args.types.now c.args.of.0 c.args.reader.now c.in_default.ensures.none

pub value-by_type-requires : goal.value-by_type-requires
value-by_type-requires t c = omega (arith, c.decreases, c.in-Some.ensures.less)

pub value-returns-in-Some-get : goal.value-returns-in-Some-get
value-returns-in-Some-get t c =
    value_of c.args.types.now c.args.of.0 c.in-Some-get.definition.now c.in-Some.node c.args.reader.now c.node.new.self c.by_type.new.reader c.by_type.result c.in-Some.ensures.some
    c.in-Some-get.ensures.some c.in-Some.ensures.less c.by_type.ensures

pub value-returns-in-None : goal.value-returns-in-None
value-returns-in-None t c =
    no_type c.args.types.now c.args.of.0 c.in-Some.node c.args.reader.now c.node.new.self c.wrong.result c.in-Some.ensures.some c.in-None.ensures.none c.wrong.ensures

pub by_type-returns-in-Prim : goal.by_type-returns-in-Prim
by_type-returns-in-Prim t c =
    let table = c.args.types.now in
    let x = c.args.node.now in
    let l = c.args.reader.now in
    subst (λ (d : TypeDef). IsBuilt table (saying table (Some d) x l.numbers l.octets) l l c.number.result) (sym c.in-Prim.is)
    (subst (λ (d : TypeDef). IsBuilt table (plain (has_form x 1 0) (tree.Num (meant (is_wide (Some d)) x.number)) [] l.numbers l.octets) l l c.number.result) c.in-Prim.is
    (c.number.ensures table))

pub by_type-returns-in-Enum : goal.by_type-returns-in-Enum
by_type-returns-in-Enum t c =
    let table = c.args.types.now in
    let x = c.args.node.now in
    let l = c.args.reader.now in
    subst (λ (d : TypeDef). IsBuilt table (saying table (Some d) x l.numbers l.octets) l l c.number-in-Enum.result) (sym c.in-Enum.is)
    (subst (λ (d : TypeDef). IsBuilt table (plain (has_form x 1 0) (tree.Num (meant (is_wide (Some d)) x.number)) [] l.numbers l.octets) l l c.number-in-Enum.result) c.in-Enum.is
    (c.number-in-Enum.ensures table))

pub by_type-structure-requires : goal.by_type-structure-requires
by_type-structure-requires t c = omega (arith, c.decreases)

pub by_type-returns-in-Struct : goal.by_type-returns-in-Struct
by_type-returns-in-Struct t c =
    let table = c.args.types.now in
    let l = c.args.reader.now in
    subst (λ (d : TypeDef). IsBuilt table (saying table (Some d) c.args.node.now l.numbers l.octets) l c.structure.new.reader c.structure.result) (sym c.in-Struct.is) c.structure.ensures

pub by_type-array-requires : goal.by_type-array-requires
by_type-array-requires t c = omega (arith, c.decreases)

pub by_type-returns-in-Array : goal.by_type-returns-in-Array
by_type-returns-in-Array t c =
    let table = c.args.types.now in
    let l = c.args.reader.now in
    subst (λ (d : TypeDef). IsBuilt table (saying table (Some d) c.args.node.now l.numbers l.octets) l c.array.new.reader c.array.result) (sym c.in-Array.is) c.array.ensures

pub by_type-returns-in-Text : goal.by_type-returns-in-Text
by_type-returns-in-Text t c =
    let table = c.args.types.now in
    let l = c.args.reader.now in
    subst (λ (d : TypeDef). IsBuilt table (saying table (Some d) c.args.node.now l.numbers l.octets) l c.string.new.reader c.string.result) (sym c.in-Text.is) (c.string.ensures table)

pub by_type-union-requires : goal.by_type-union-requires
by_type-union-requires t c = omega (arith, c.decreases)

pub by_type-returns-in-Union : goal.by_type-returns-in-Union
by_type-returns-in-Union t c =
    let table = c.args.types.now in
    let l = c.args.reader.now in
    subst (λ (d : TypeDef). IsBuilt table (saying table (Some d) c.args.node.now l.numbers l.octets) l c.union.new.reader c.union.result) (sym c.in-Union.is) c.union.ensures

pub by_type-returns-in-Pointer : goal.by_type-returns-in-Pointer
by_type-returns-in-Pointer t c =
    let table = c.args.types.now in
    let l = c.args.reader.now in
    subst (λ (d : TypeDef). IsBuilt table (saying table (Some d) c.args.node.now l.numbers l.octets) l l c.pointer.result) (sym c.in-Pointer.is) (c.pointer.ensures table)

pub by_type-returns-in-Context : goal.by_type-returns-in-Context
by_type-returns-in-Context t c =
    let table = c.args.types.now in
    let l = c.args.reader.now in
    subst (λ (d : TypeDef). IsBuilt table (saying table (Some d) c.args.node.now l.numbers l.octets) l c.context.new.reader c.context.result) (sym c.in-Context.is) (c.context.ensures table)

pub by_type-pipe-requires : goal.by_type-pipe-requires
by_type-pipe-requires t c = omega (arith, c.decreases)

pub by_type-returns-in-Pipe : goal.by_type-returns-in-Pipe
by_type-returns-in-Pipe t c =
    let table = c.args.types.now in
    let l = c.args.reader.now in
    subst (λ (d : TypeDef). IsBuilt table (saying table (Some d) c.args.node.now l.numbers l.octets) l c.pipe.new.reader c.pipe.result) (sym c.in-Pipe.is) c.pipe.ensures

pub structure-returns-then-not-has_form : goal.structure-returns-then-not-has_form
structure-returns-then-not-has_form t c =
    let l = c.args.reader.now in
    plain_wrong c.args.types.now (has_form c.args.node.now 2 (length c.args.members.now)) tree.Rec (map (λ (f : Field). f.of.0) c.args.members.now) l.numbers l.octets l c.wrong.result
    (ap (has_form c.args.node.now 2) (sym c.len.ensures) ∙ sym c.has_form.ensures ∙ c.if-not-has_form.true) c.wrong.ensures

pub structure-member_values-requires : goal.structure-member_values-requires
structure-member_values-requires t c = omega (arith, c.decreases)

pub structure-returns-in-Ok : goal.structure-returns-in-Ok
structure-returns-in-Ok t c =
    parts_built c.args.types.now (has_form c.args.node.now 2 (length c.args.members.now)) tree.Rec (map (λ (f : Field). f.of.0) c.args.members.now) c.args.reader.now
    c.member_values.new.reader (Ok c.in-Ok.vals) (ap (has_form c.args.node.now 2) (sym c.len.ensures) ∙ sym c.has_form.ensures ∙ c.if-not-has_form.false) c.in-Ok.ensures

pub structure-returns-in-Err : goal.structure-returns-in-Err
structure-returns-in-Err t c =
    parts_built c.args.types.now (has_form c.args.node.now 2 (length c.args.members.now)) tree.Rec (map (λ (f : Field). f.of.0) c.args.members.now) c.args.reader.now
    c.member_values.new.reader (Err c.in-Err.stop) (ap (has_form c.args.node.now 2) (sym c.len.ensures) ∙ sym c.has_form.ensures ∙ c.if-not-has_form.false) c.in-Err.ensures

pub member_values-loop-at-init : goal.member_values-loop-at-init
member_values-loop-at-init t c = none_came c.args.types.now (map (λ (f : Field). f.of.0) c.args.members.now) c.args.reader.now c.new-vals.result c.new-vals.ensures

pub member_values-value-requires : goal.member_values-value-requires
member_values-value-requires t c = omega (arith, c.decreases, c.loop-at.invariant.come.less)

pub member_values-returns-in_err-val : goal.member_values-returns-in_err-val
member_values-returns-in_err-val t c =
    let all = map (λ (f : Field). f.of.0) c.args.members.now in
    let p = err_from_is_err_and c.from_residual.result c.from_residual.ensures.1 in
    rw (p.1, p.2)
    (stops_at c.args.types.now all c.loop-at.at c.in-Some.member.now.of.0 c.args.reader.now c.loop-at.reader c.loop-at.vals c.in_err-val.field-0.0
    (slice_get-map (λ (f : Field). f.of.0) c.args.members.now c.loop-at.at ∙ ap (option_map (λ (f : Field). f.of.0)) c.in-Some.ensures.some) c.loop-at.invariant c.in_err-val.ensures)

pub member_values-loop-at-preserved : goal.member_values-loop-at-preserved
member_values-loop-at-preserved t c =
    let all = map (λ (f : Field). f.of.0) c.args.members.now in
    next_came c.args.types.now all c.loop-at.at c.in-Some.member.now.of.0 c.args.reader.now c.loop-at.reader c.value.new.reader c.loop-at.vals c.push.new.self (tree_of c.in_ok-val.val)
    (slice_get-map (λ (f : Field). f.of.0) c.args.members.now c.loop-at.at ∙ ap (option_map (λ (f : Field). f.of.0)) c.in-Some.ensures.some) c.loop-at.invariant c.in_ok-val.ensures
    c.in-Ok.ensures.ok

pub member_values-returns : goal.member_values-returns
member_values-returns t c =
    let all = map (λ (f : Field). f.of.0) c.args.members.now in
    all_came c.args.types.now all c.loop-at.at c.args.reader.now c.loop-at.reader c.loop-at.vals
    (omega (arith, length_map (λ (f : Field). f.of.0) c.args.members.now, c.loop-at-test.false, c.loop-at.auto.at-end, c.len-at-end.ensures)) c.loop-at.invariant

pub array-elements-requires : goal.array-elements-requires
array-elements-requires t c = omega (arith, c.decreases)

pub array-returns-in-Ok : goal.array-returns-in-Ok
array-returns-in-Ok t c = c.in-Ok.ensures (tree.Arr c.args.node.now.max c.args.node.now.offset)

pub array-returns-in-Err : goal.array-returns-in-Err
array-returns-in-Err t c = c.in-Err.ensures (tree.Arr c.args.node.now.max c.args.node.now.offset)

pub pipe-elements-requires : goal.pipe-elements-requires
pipe-elements-requires t c = omega (arith, c.decreases)

pub pipe-returns-in-Ok : goal.pipe-returns-in-Ok
pipe-returns-in-Ok t c = c.in-Ok.ensures tree.Pipe

pub pipe-returns-in-Err : goal.pipe-returns-in-Err
pipe-returns-in-Err t c = c.in-Err.ensures tree.Pipe

pub elements-returns-then-is_numeral : goal.elements-returns-then-is_numeral
elements-returns-then-is_numeral t c =
    λ label. elements_are c.args.types.now true c.is_wide_at.result c.args.kind c.args.elem.0 label c.args.node.now c.args.reader.now c.numbers.new.reader c.numbers.result
    (sym c.is_numeral.ensures ∙ c.if-is_numeral.true) c.is_wide_at.ensures (c.numbers.ensures c.args.types.now label)

pub elements-returns-then-not-has_parts : goal.elements-returns-then-not-has_parts
elements-returns-then-not-has_parts t c =
    let table = c.args.types.now in
    let x = c.args.node.now in
    let l = c.args.reader.now in
    λ label. elements_are table false (is_wide (type_at table c.args.elem.0)) c.args.kind c.args.elem.0 label x l l (Err c.wrong.result)
    (sym c.is_numeral.ensures ∙ c.if-is_numeral.false) refl
    (plain_wrong table (has_parts x c.args.kind) label (replicate x.count c.args.elem.0) l.numbers l.octets l c.wrong.result
    (sym c.has_parts.ensures ∙ c.if-not-has_parts.true) c.wrong.ensures)

pub elements-element_values-requires : goal.elements-element_values-requires
elements-element_values-requires t c = omega (arith, c.decreases)

pub elements-returns : goal.elements-returns
elements-returns t c =
    let table = c.args.types.now in
    let x = c.args.node.now in
    let l = c.args.reader.now in
    λ label. elements_are table false (is_wide (type_at table c.args.elem.0)) c.args.kind c.args.elem.0 label x l c.element_values.new.reader c.element_values.result
    (sym c.is_numeral.ensures ∙ c.if-is_numeral.false) refl
    (parts_built table (has_parts x c.args.kind) label (replicate x.count c.args.elem.0) l c.element_values.new.reader c.element_values.result
    (sym c.has_parts.ensures ∙ c.if-not-has_parts.false) c.element_values.ensures)

pub element_values-loop-alloc-init : goal.element_values-loop-alloc-init
element_values-loop-alloc-init t c =
    let none : length c.new-vals.result ≡ 0 = ap length c.new-vals.ensures in
    (begun c.args.types.now (replicate c.args.count c.args.elem.0) c.args.reader.now c.new-vals.result c.new-vals.ensures, omega (arith, none))

pub element_values-value-requires : goal.element_values-value-requires
element_values-value-requires t c = omega (arith, c.decreases, c.loop-alloc.invariant.0.come.less)

pub element_values-returns-in_err-val : goal.element_values-returns-in_err-val
element_values-returns-in_err-val t c =
    let few : length c.loop-alloc.vals < c.args.count = omega (arith, c.loop-alloc-test.true, c.len.ensures) in
    let p = err_from_is_err_and c.from_residual.result c.from_residual.ensures.1 in
    rw (p.1, p.2)
    (stops_at c.args.types.now (replicate c.args.count c.args.elem.0) (length c.loop-alloc.vals) c.args.elem.0 c.args.reader.now c.loop-alloc.reader c.loop-alloc.vals c.in_err-val.field-0.0
    (get_replicate c.args.count (length c.loop-alloc.vals) c.args.elem.0 few) c.loop-alloc.invariant.0 c.in_err-val.ensures)

pub element_values-loop-alloc-preserved : goal.element_values-loop-alloc-preserved
element_values-loop-alloc-preserved t c =
    let few : length c.loop-alloc.vals < c.args.count = omega (arith, c.loop-alloc-test.true, c.len.ensures) in (
      next_counted c.args.types.now (replicate c.args.count c.args.elem.0) c.args.elem.0 c.args.reader.now c.loop-alloc.reader c.value.new.reader c.loop-alloc.vals c.push.new.self
          (tree_of c.in_ok-val.val) (get_replicate c.args.count (length c.loop-alloc.vals) c.args.elem.0 few) c.loop-alloc.invariant.0 c.in_ok-val.ensures c.in-Ok.ensures.ok,
      omega (arith, few, pushed c.loop-alloc.vals c.push.new.self (tree_of c.in_ok-val.val) c.in-Ok.ensures.ok),
    )

pub element_values-loop-alloc-smaller : goal.element_values-loop-alloc-smaller
element_values-loop-alloc-smaller t c =
    omega (arith, c.loop-alloc-test.true, c.len.ensures, pushed c.loop-alloc.vals c.push.new.self (tree_of c.in_ok-val.val) c.in-Ok.ensures.ok)

pub element_values-returns : goal.element_values-returns
element_values-returns t c =
    all_came c.args.types.now (replicate c.args.count c.args.elem.0) (length c.loop-alloc.vals) c.args.reader.now c.loop-alloc.reader c.loop-alloc.vals
    (omega (arith, length-replicate c.args.count c.args.elem.0, c.loop-alloc-test.false, c.len.ensures, c.loop-alloc.invariant.1)) c.loop-alloc.invariant.0

pub union-arm_value-requires : goal.union-arm_value-requires
union-arm_value-requires t c = omega (arith, c.decreases)

pub union-returns-in-Ok : goal.union-returns-in-Ok
union-returns-in-Ok t c =
    let tag : ℤ = c.meant-number.result in
    let fits : SFits w128 tag = search rules in
    let x = c.args.node.now in
    union_built c.args.types.now (is_wide (type_at c.args.types.now c.args.tag.0)) c.args.arms.now c.args.default.now x (type_list c.selected_type-of.result) tag _ c.args.reader.now
    c.arm_value.new.reader (trees c.in-Ok.arm) (c.meant-number.ensures ∙ ap (λ w. meant w x.number) c.is_wide_at.ensures)
    (c.selected_type-of.ensures ∙ ap (λ (z : ℤ). selected_types (selected c.args.arms.now c.args.default.now z)) (to_z-of_z w128 tag fits)) (to_z-of_z w128 tag fits)
    (c.in-Ok.ensures (tree.Union tag))

pub union-returns-in-Err : goal.union-returns-in-Err
union-returns-in-Err t c =
    let tag : ℤ = c.meant-number.result in
    let fits : SFits w128 tag = search rules in
    let x = c.args.node.now in
    union_halts c.args.types.now (is_wide (type_at c.args.types.now c.args.tag.0)) c.args.arms.now c.args.default.now x (type_list c.selected_type-of.result) tag c.args.reader.now
    c.in-Err.stop (c.meant-number.ensures ∙ ap (λ w. meant w x.number) c.is_wide_at.ensures)
    (c.selected_type-of.ensures ∙ ap (λ (z : ℤ). selected_types (selected c.args.arms.now c.args.default.now z)) (to_z-of_z w128 tag fits)) (c.in-Err.ensures (tree.Union tag))

pub arm_value-boxed_value-requires : goal.arm_value-boxed_value-requires
arm_value-boxed_value-requires t c = omega (arith, c.decreases)

pub arm_value-returns-in-Some : goal.arm_value-returns-in-Some
arm_value-returns-in-Some t c =
    let l = c.args.reader.now in
    λ label. subst (λ (o : Option TypeId). AreBuilt c.args.types.now (plain (has_form c.args.node.now 5 (length (type_list o))) label (type_list o) l.numbers l.octets) label l
    c.boxed_value.new.reader c.boxed_value.result) (sym c.in-Some.is) (c.boxed_value.ensures label)

pub arm_value-returns-in-None : goal.arm_value-returns-in-None
arm_value-returns-in-None t c =
    let l = c.args.reader.now in
    λ label. subst (λ (o : Option TypeId). AreBuilt c.args.types.now (plain (has_form c.args.node.now 5 (length (type_list o))) label (type_list o) l.numbers l.octets) label l l
    c.no_value.result) (sym c.in-None.is) (c.no_value.ensures c.args.types.now label)

pub boxed_value-returns-then-not-has_form : goal.boxed_value-returns-then-not-has_form
boxed_value-returns-then-not-has_form t c =
    let l = c.args.reader.now in
    λ label. plain_wrong c.args.types.now (has_form c.args.node.now 5 1) label (c.args.of.0 ∷ []) l.numbers l.octets l c.wrong.result
    (sym c.has_form.ensures ∙ c.if-not-has_form.true) c.wrong.ensures

pub boxed_value-value-requires : goal.boxed_value-value-requires
boxed_value-value-requires t c = omega (arith, c.decreases)

pub boxed_value-returns-in-Ok : goal.boxed_value-returns-in-Ok
boxed_value-returns-in-Ok t c =
    λ label. arm_built c.args.types.now (has_form c.args.node.now 5 1) label c.args.of.0 c.args.reader.now c.value.new.reader (tree_of c.in-Ok.val) c.arm_of.result
    (sym c.has_form.ensures ∙ c.if-not-has_form.false) c.in-Ok.ensures c.arm_of.ensures.ok c.arm_of.ensures.err

pub boxed_value-returns-in-Err : goal.boxed_value-returns-in-Err
boxed_value-returns-in-Err t c =
    λ label. part_halts c.args.types.now (has_form c.args.node.now 5 1) label c.args.of.0 c.args.reader.now c.in-Err.stop
    (sym c.has_form.ensures ∙ c.if-not-has_form.false) c.in-Err.ensures
