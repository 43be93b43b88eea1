use Rattle.std.proofs.Common.{refl, ◌≡◌, ◌∙◌, ◌<◌, Some, None, sym, ap, subst, arith, le_refl}
use Rattle.std.specs.Prelude.{Ok}
use Rattle.nd_types.specs.Layout.{align_of, hoists, hoists_by}
use Rattle.nd_types.specs.Table.{type_at}
use Rattle.nd_types.proofs.LayoutLaws.{hoists-legal}
use Rattle.ndr_trace_value.specs.declared.progress.Halt.TheVariants as halts
use Rattle.ndr_trace_value.specs.Walking.{width_by}
use Rattle.nd_grammar.proofs.reader.FewNodes.{some_bound}
use Rattle.ndr_trace_value.specs.declared.shapes.Shape.TheVariants as shape
use Rattle.ndr_trace_value.proofs.Alignments.{some_align}
use Rattle.ndr_trace_value.proofs.Left.{array_taken, leaf_taken, none_taken, struct_taken}
use Rattle.ndr_trace_value.proofs.ByType.{any_array_ends, any_array_goes, context_ends, context_goes, enum_ends, enum_goes, none_goes, paid_same, pipe_goes, pointer_ends, pointer_goes, prim_ends}
use Rattle.ndr_trace_value.proofs.ByType.{prim_goes}
use Rattle.ndr_trace_value.proofs.ByType.{struct_ends, struct_goes, text_ends, text_goes, union_ends, union_goes}
use Rattle.ndr_trace_value.proofs.nodes.own_items.Goals as goal

pub returns-in-Some-Prim-clause-goes : goal.returns-in-Some-Prim-clause-goes
returns-in-Some-Prim-clause-goes c k u n l ks node ready rest t names nm =
    prim_goes k c.args.spot.now n c.args.max c.args.of.0 l ks node c.args.progress.now ready rest t names c.args.cells.now nm c.number.new.progress c.number.result _
    (ap (λ ts. type_at ts c.args.of.0) (sym u.table) ∙ c.in-Some-Prim.ensures.some ∙ ap (λ d. Some d) c.in-Some-Prim.field-0-is) _ c.width_of.ensures.value
    (c.number.ensures.goes k u n node.spot)

pub returns-in-Some-Prim-clause-ends : goal.returns-in-Some-Prim-clause-ends
returns-in-Some-Prim-clause-ends c k u n l ks node ready rest t names nm =
    prim_ends k c.args.spot.now n c.args.max c.args.of.0 l ks node c.args.progress.now ready rest t _
    (ap (λ ts. type_at ts c.args.of.0) (sym u.table) ∙ c.in-Some-Prim.ensures.some ∙ ap (λ d. Some d) c.in-Some-Prim.field-0-is) _ c.width_of.ensures.value
    (c.number.ensures.ends k u n node.spot)

pub returns-in-Some-Prim-clause-paid : goal.returns-in-Some-Prim-clause-paid
returns-in-Some-Prim-clause-paid c = paid_same c.args.progress.now c.number.new.progress c.args.cells.now c.number.result c.number.ensures.later

pub returns-in-Some-Enum-clause-goes : goal.returns-in-Some-Enum-clause-goes
returns-in-Some-Enum-clause-goes c k u n l ks node ready rest t names nm =
    enum_goes k c.args.spot.now n c.args.max c.args.of.0 l ks node c.args.progress.now ready rest t names c.args.cells.now nm c.number-in-Some-Enum.new.progress
    c.number-in-Some-Enum.result _ (ap (λ ts. type_at ts c.args.of.0) (sym u.table) ∙ c.in-Some-Enum.ensures.some ∙ ap (λ d. Some d) c.in-Some-Enum.field-0-is)
    (c.number-in-Some-Enum.ensures.goes k u n node.spot)

pub returns-in-Some-Enum-clause-ends : goal.returns-in-Some-Enum-clause-ends
returns-in-Some-Enum-clause-ends c k u n l ks node ready rest t names nm =
    enum_ends k c.args.spot.now n c.args.max c.args.of.0 l ks node c.args.progress.now ready rest t _
    (ap (λ ts. type_at ts c.args.of.0) (sym u.table) ∙ c.in-Some-Enum.ensures.some ∙ ap (λ d. Some d) c.in-Some-Enum.field-0-is) (c.number-in-Some-Enum.ensures.ends k u n node.spot)

pub returns-in-Some-Enum-clause-paid : goal.returns-in-Some-Enum-clause-paid
returns-in-Some-Enum-clause-paid c = paid_same c.args.progress.now c.number-in-Some-Enum.new.progress c.args.cells.now c.number-in-Some-Enum.result c.number-in-Some-Enum.ensures.later

pub structure-requires : goal.structure-requires
structure-requires c =
    subst (λ n. 0 < n) (sym (c.from-align.ensures ∙ c.align.ensures)) (some_align c.args.ground.now.interface.now.types c.args.of.0)

pub returns-in-Some-Struct-clause-goes : goal.returns-in-Some-Struct-clause-goes
returns-in-Some-Struct-clause-goes c k u n l ks node ready rest t names nm =
    struct_goes k c.args.spot.now n c.args.max c.args.of.0 l ks node c.args.progress.now ready rest t names c.args.cells.now nm c.structure.new.progress c.structure.result _
    (ap (λ ts. type_at ts c.args.of.0) (sym u.table) ∙ c.in-Some-Struct.ensures.some ∙ ap (λ d. Some d) c.in-Some-Struct.field-0-is) _
    (c.from-align.ensures ∙ c.align.ensures ∙ ap (λ ts. align_of ts c.args.of.0) u.table) (c.structure.ensures.goes k u n)

pub returns-in-Some-Struct-clause-ends : goal.returns-in-Some-Struct-clause-ends
returns-in-Some-Struct-clause-ends c k u n l ks node ready rest t names nm =
    struct_ends k c.args.spot.now n c.args.max c.args.of.0 l ks node c.args.progress.now ready rest t _
    (ap (λ ts. type_at ts c.args.of.0) (sym u.table) ∙ c.in-Some-Struct.ensures.some ∙ ap (λ d. Some d) c.in-Some-Struct.field-0-is) _
    (c.from-align.ensures ∙ c.align.ensures ∙ ap (λ ts. align_of ts c.args.of.0) u.table) (c.structure.ensures.ends k u n node.spot)

pub returns-in-Some-Struct-clause-paid : goal.returns-in-Some-Struct-clause-paid
returns-in-Some-Struct-clause-paid c = paid_same c.args.progress.now c.structure.new.progress c.args.cells.now c.structure.result c.structure.ensures.later

pub returns-in-Some-Text-clause-goes : goal.returns-in-Some-Text-clause-goes
returns-in-Some-Text-clause-goes c k u n l ks node ready rest t names nm =
    text_goes k c.args.spot.now n c.args.max c.args.of.0 l ks node c.args.progress.now ready rest t names c.args.cells.now nm c.text.new.progress c.text.result _ _
    (ap (λ ts. type_at ts c.args.of.0) (sym u.table) ∙ c.in-Some-Text.ensures.some ∙ ap (λ d. Some d) c.in-Some-Text.field-0-is) (c.text.ensures.goes k u n node.spot)

pub returns-in-Some-Text-clause-ends : goal.returns-in-Some-Text-clause-ends
returns-in-Some-Text-clause-ends c k u n l ks node ready rest t names nm =
    text_ends k c.args.spot.now n c.args.max c.args.of.0 l ks node c.args.progress.now ready rest t _ _
    (ap (λ ts. type_at ts c.args.of.0) (sym u.table) ∙ c.in-Some-Text.ensures.some ∙ ap (λ d. Some d) c.in-Some-Text.field-0-is) (c.text.ensures.ends k u n node.spot)

pub returns-in-Some-Text-clause-paid : goal.returns-in-Some-Text-clause-paid
returns-in-Some-Text-clause-paid c = paid_same c.args.progress.now c.text.new.progress c.args.cells.now c.text.result c.text.ensures.later

pub returns-in-Some-Context-clause-goes : goal.returns-in-Some-Context-clause-goes
returns-in-Some-Context-clause-goes c k u n l ks node ready rest t names nm =
    context_goes k c.args.spot.now n c.args.max c.args.of.0 l ks node c.args.progress.now ready rest t names c.args.cells.now nm c.context.new.progress c.context.result
    (ap (λ ts. type_at ts c.args.of.0) (sym u.table) ∙ c.in-Some-Context.ensures.some ∙ ap (λ d. Some d) c.in-Some-Context.field-0-is) (c.context.ensures.goes k u n node.spot)

pub returns-in-Some-Context-clause-ends : goal.returns-in-Some-Context-clause-ends
returns-in-Some-Context-clause-ends c k u n l ks node ready rest t names nm =
    context_ends k c.args.spot.now n c.args.max c.args.of.0 l ks node c.args.progress.now ready rest t
    (ap (λ ts. type_at ts c.args.of.0) (sym u.table) ∙ c.in-Some-Context.ensures.some ∙ ap (λ d. Some d) c.in-Some-Context.field-0-is) (c.context.ensures.ends k u n node.spot)

pub returns-in-Some-Context-clause-paid : goal.returns-in-Some-Context-clause-paid
returns-in-Some-Context-clause-paid c = paid_same c.args.progress.now c.context.new.progress c.args.cells.now c.context.result c.context.ensures.later

pub returns-in-Some-Array-clause-goes : goal.returns-in-Some-Array-clause-goes
returns-in-Some-Array-clause-goes c k u n l ks node ready rest t names nm =
    let i = c.args.ground.now.interface.now in
    any_array_goes k c.args.spot.now n c.args.max c.args.of.0 l ks node c.args.progress.now ready rest t names c.args.cells.now nm c.array.new.progress c.array.result _ _ _
    (ap (λ ts. type_at ts c.args.of.0) (sym u.table) ∙ c.in-Some-Array.ensures.some ∙ ap (λ d. Some d) c.in-Some-Array.field-0-is) _ c.unwrap_or-max.ensures
    (subst (λ ts. hoists ts c.args.of.0 ≡ hoists_by (hoists ts) (type_at ts c.args.of.0)) u.table (hoists-legal i.types i.operations i.legal c.args.of.0))
    c.array.ensures.fixed (λ v. c.array.ensures.goes v k u n node.spot)

pub returns-in-Some-Array-clause-ends : goal.returns-in-Some-Array-clause-ends
returns-in-Some-Array-clause-ends c k u n l ks node ready rest t names nm =
    any_array_ends k c.args.spot.now n c.args.max c.args.of.0 l ks node c.args.progress.now ready rest t _ _ _
    (ap (λ ts. type_at ts c.args.of.0) (sym u.table) ∙ c.in-Some-Array.ensures.some ∙ ap (λ d. Some d) c.in-Some-Array.field-0-is) c.array.result halts.Here c.array.ensures.whole
    (λ v. c.array.ensures.ends v k u n node.spot)

pub returns-in-Some-Array-clause-paid : goal.returns-in-Some-Array-clause-paid
returns-in-Some-Array-clause-paid c = paid_same c.args.progress.now c.array.new.progress c.args.cells.now c.array.result c.array.ensures.later

pub returns-in-Some-Union-clause-goes : goal.returns-in-Some-Union-clause-goes
returns-in-Some-Union-clause-goes c k u n l ks node ready rest t names nm =
    union_goes k c.args.spot.now n c.args.max c.args.of.0 l ks node c.args.progress.now ready rest t names c.args.cells.now nm c.tagged.new.progress c.tagged.result _ _ _ _
    (ap (λ ts. type_at ts c.args.of.0) (sym u.table) ∙ c.in-Some-Union.ensures.some ∙ ap (λ d. Some d) c.in-Some-Union.field-0-is) _
    (c.tag_width-width.ensures.width ∙ ap (λ ts. width_by (type_at ts c.in-Some-Union.tag.0)) u.table) (c.tagged.ensures.goes k u n node.spot)

pub returns-in-Some-Union-clause-ends : goal.returns-in-Some-Union-clause-ends
returns-in-Some-Union-clause-ends c k u n l ks node ready rest t names nm =
    union_ends k c.args.spot.now n c.args.max c.args.of.0 l ks node c.args.progress.now ready rest t _ _ _ _
    (ap (λ ts. type_at ts c.args.of.0) (sym u.table) ∙ c.in-Some-Union.ensures.some ∙ ap (λ d. Some d) c.in-Some-Union.field-0-is) _
    (c.tag_width-width.ensures.width ∙ ap (λ ts. width_by (type_at ts c.in-Some-Union.tag.0)) u.table) (c.tagged.ensures.ends k u n node.spot)

pub returns-in-Some-Union-clause-paid : goal.returns-in-Some-Union-clause-paid
returns-in-Some-Union-clause-paid c = paid_same c.args.progress.now c.tagged.new.progress c.args.cells.now c.tagged.result c.tagged.ensures.later

pub returns-in-Some-Pointer-clause-goes : goal.returns-in-Some-Pointer-clause-goes
returns-in-Some-Pointer-clause-goes c k u n l ks node ready rest t names nm =
    pointer_goes k c.args.spot.now n c.args.max c.args.of.0 l ks node c.args.progress.now ready rest t names c.args.cells.now nm c.pointer.new.progress c.pointer.result _ _
    (ap (λ ts. type_at ts c.args.of.0) (sym u.table) ∙ c.in-Some-Pointer.ensures.some ∙ ap (λ d. Some d) c.in-Some-Pointer.field-0-is) c.pointer.new.cells
    (c.pointer.ensures.goes k u n node.spot)

pub returns-in-Some-Pointer-clause-ends : goal.returns-in-Some-Pointer-clause-ends
returns-in-Some-Pointer-clause-ends c k u n l ks node ready rest t names nm =
    pointer_ends k c.args.spot.now n c.args.max c.args.of.0 l ks node c.args.progress.now ready rest t _ _
    (ap (λ ts. type_at ts c.args.of.0) (sym u.table) ∙ c.in-Some-Pointer.ensures.some ∙ ap (λ d. Some d) c.in-Some-Pointer.field-0-is)
    (c.pointer.ensures.ends k u n node.spot)

pub returns-in-Some-Pipe-clause-goes : goal.returns-in-Some-Pipe-clause-goes
returns-in-Some-Pipe-clause-goes c k u n l ks node ready rest t names nm = pipe_goes k c.args.spot.now n c.args.max c.args.of.0 l ks node c.args.progress.now ready rest t _
    (ap (λ ts. type_at ts c.args.of.0) (sym u.table) ∙ c.in-Some-Pipe.ensures.some ∙ ap (λ d. Some d) c.in-Some-Pipe.field-0-is)

pub returns-in-None-clause-goes : goal.returns-in-None-clause-goes
returns-in-None-clause-goes c k u n l ks node ready rest t names nm =
    none_goes k c.args.spot.now n c.args.max c.args.of.0 l ks node c.args.progress.now ready rest t (ap (λ ts. type_at ts c.args.of.0) (sym u.table) ∙ c.in-None.ensures.none)

pub returns-in-Some-Prim-clause-taken : goal.returns-in-Some-Prim-clause-taken
returns-in-Some-Prim-clause-taken c =
    let table = c.args.ground.now.interface.now.types in
    let its = c.in-Some-Prim.ensures.some ∙ ap (λ d. Some d) c.in-Some-Prim.field-0-is in
    leaf_taken table c.args.of.0 c.args.progress.now c.number.new.progress c.number.result _ its (λ least. omega arith) c.number.ensures.more

pub returns-in-Some-Enum-clause-taken : goal.returns-in-Some-Enum-clause-taken
returns-in-Some-Enum-clause-taken c =
    let table = c.args.ground.now.interface.now.types in
    let its = c.in-Some-Enum.ensures.some ∙ ap (λ d. Some d) c.in-Some-Enum.field-0-is in
    leaf_taken table c.args.of.0 c.args.progress.now c.number-in-Some-Enum.new.progress c.number-in-Some-Enum.result _ its (λ least. omega arith) c.number-in-Some-Enum.ensures.more

pub returns-in-Some-Text-clause-taken : goal.returns-in-Some-Text-clause-taken
returns-in-Some-Text-clause-taken c =
    let table = c.args.ground.now.interface.now.types in
    let its = c.in-Some-Text.ensures.some ∙ ap (λ d. Some d) c.in-Some-Text.field-0-is in
    leaf_taken table c.args.of.0 c.args.progress.now c.text.new.progress c.text.result _ its (λ least. omega arith) c.text.ensures.more

pub returns-in-Some-Context-clause-taken : goal.returns-in-Some-Context-clause-taken
returns-in-Some-Context-clause-taken c =
    let table = c.args.ground.now.interface.now.types in
    let its = c.in-Some-Context.ensures.some ∙ ap (λ d. Some d) c.in-Some-Context.field-0-is in
    leaf_taken table c.args.of.0 c.args.progress.now c.context.new.progress c.context.result _ its (λ least. omega arith) c.context.ensures.more

pub returns-in-Some-Union-clause-taken : goal.returns-in-Some-Union-clause-taken
returns-in-Some-Union-clause-taken c =
    let table = c.args.ground.now.interface.now.types in
    let its = c.in-Some-Union.ensures.some ∙ ap (λ d. Some d) c.in-Some-Union.field-0-is in
    leaf_taken table c.args.of.0 c.args.progress.now c.tagged.new.progress c.tagged.result _ its (λ least. omega arith) c.tagged.ensures.more

pub returns-in-Some-Pointer-clause-taken : goal.returns-in-Some-Pointer-clause-taken
returns-in-Some-Pointer-clause-taken c =
    let table = c.args.ground.now.interface.now.types in
    let its = c.in-Some-Pointer.ensures.some ∙ ap (λ d. Some d) c.in-Some-Pointer.field-0-is in
    leaf_taken table c.args.of.0 c.args.progress.now c.pointer.new.progress c.pointer.result _ its (λ least. omega arith) c.pointer.ensures.more

pub returns-in-Some-Struct-clause-taken : goal.returns-in-Some-Struct-clause-taken
returns-in-Some-Struct-clause-taken c =
    let table = c.args.ground.now.interface.now.types in
    let its = c.in-Some-Struct.ensures.some ∙ ap (λ d. Some d) c.in-Some-Struct.field-0-is in
    struct_taken table c.args.of.0 c.args.progress.now c.structure.new.progress c.structure.result _ its c.structure.ensures.is c.structure.ensures.later

pub returns-in-Some-Array-clause-taken : goal.returns-in-Some-Array-clause-taken
returns-in-Some-Array-clause-taken c =
    let i = c.args.ground.now.interface.now in
    let its = c.in-Some-Array.ensures.some ∙ ap (λ d. Some d) c.in-Some-Array.field-0-is in
    array_taken i.types c.args.of.0 c.args.progress.now c.array.new.progress c.array.result _ _ _ its c.args.max _ c.unwrap_or-max.ensures
    (λ b is. some_bound i.types i.operations i.legal c.args.of.0 _ b _ is) c.array.ensures.fixed c.array.ensures.more

pub returns-in-Some-Pipe-clause-taken : goal.returns-in-Some-Pipe-clause-taken
returns-in-Some-Pipe-clause-taken c =
    let its = c.in-Some-Pipe.ensures.some ∙ ap (λ d. Some d) c.in-Some-Pipe.field-0-is in
    let p = c.args.progress.now in
    none_taken c.args.ground.now.interface.now.types c.args.of.0 p p (Ok shape.Leaf) _ its (λ least. refl) (le_refl p.next)

pub returns-in-None-clause-taken : goal.returns-in-None-clause-taken
returns-in-None-clause-taken c =
    let p = c.args.progress.now in
    none_taken c.args.ground.now.interface.now.types c.args.of.0 p p (Ok shape.Leaf) None c.in-None.ensures.none (λ least. refl) (le_refl p.next)
