use Rattle.std.proofs.Common.{◌∙◌, ℕ, ℤ, List, [], ◌∷◌, ◌++◌, length, Option, Some, refl, sym, ap, subst, arith, rules}
use Rattle.std.proofs.lemmas.Result.{err_from_is_err_and}
use Rattle.std.proofs.lemmas.Option.{same_Some}
use Rattle.std.proofs.lemmas.Int.{to_z-of_z}
use mir.Val.{SFits}
use mir.Syntax.{w128}
use Rattle.nd_types.specs.declared.types.Field.{Field}
use Rattle.nd_types.specs.Layout.{type_list}
use Rattle.nd_types.specs.Table.{selected}
use Rattle.nd_value.specs.Tree as tree
use Rattle.nd_value.specs.Tree.{Tree, node, trees, more, none}
use Rattle.nd_value.specs.Seen.{tree_of}
use Rattle.nd_value.specs.Nodes.{selected_types}
use Rattle.nd_lemmas.proofs.Lists.{past_end}
use Rattle.nd_types.specs.declared.types.TypeId.{TypeId}
use Rattle.text_grammar.specs.Tokens.{Mark}
use Rattle.text_grammar.specs.Written.{Name, equals}
use Rattle.text_grammar.specs.Dues.{This, AValue, arm_dues, list_dues, named_due}
use Rattle.text_grammar.proofs.OneText.{cut_less}
use Rattle.text_parser.specs.Lexemes.{plain}
use Rattle.text_parser.specs.Passing.{Passes, Halts, IsValue}
use Rattle.text_parser.specs.Known.{is_numeral, AreOf}
use Rattle.text_parser.specs.ValueParts.{written_dues, written_tokens, maximum_by, comma_dues, name_tokens, IsMember, IsArm}
use Rattle.text_parser.proofs.Passages.{if_ok, if_err}
use Rattle.text_parser.proofs.KnownTypes.{array_known, pipe_known, member_known, arm_known}
use Rattle.text_parser.proofs.Members.{field_at, field_there, none_came, member_next, struct_member, struct_closes, struct_value, struct_refused}
use Rattle.text_parser.proofs.MemberParts.{comma_refused, name_refused, value_refused, member_read, void_refused, no_arm, an_arm}
use Rattle.text_parser.proofs.ListParts.{halts_at_first, first_came, next_halts, one_came, end_halts, first_halts, start_halts, empty_list, last_halts, whole_list}
use Rattle.text_parser.proofs.ValueForms.{array_value, maximum_halts, offset_halts, elements_halt, few_items, pipe_value, pipe_halts, number_tag, tag_halts, colon_halts, arm_halts, union_value}
use Rattle.text_parser.proofs.values.+values.Goals as goal

pub value-by_type-requires : goal.value-by_type-requires
value-by_type-requires t c =
    (omega (arith, c.decreases), (c.in-Some.ensures.some, c.requires.short))

pub by_type-returns-in-Prim-clause-ok : goal.by_type-returns-in-Prim-clause-ok
by_type-returns-in-Prim-clause-ok t c =
    if_ok c.numeral.result _ (λ x. IsValue c.args.under.version c.args.under.types.now c.args.of.0 c.args.names.now c.args.text.now (tree_of x.0) c.args.names.now x.1.now)
    (λ x f. f c.args.of.0 c.args.names.now (ap is_numeral (c.requires.there ∙ ap Some c.in-Prim.is))) c.numeral.ensures.ok

pub by_type-returns-in-Prim-clause-err : goal.by_type-returns-in-Prim-clause-err
by_type-returns-in-Prim-clause-err t c =
    if_err c.numeral.result _ (λ e. Halts c.args.under.version c.args.under.types.now (AValue c.args.of.0 ∷ []) c.args.names.now c.args.text.now e)
    (λ e f. f c.args.of.0 c.args.names.now (ap is_numeral (c.requires.there ∙ ap Some c.in-Prim.is))) c.numeral.ensures.err

pub by_type-returns-in-Enum-clause-ok : goal.by_type-returns-in-Enum-clause-ok
by_type-returns-in-Enum-clause-ok t c =
    if_ok c.numeral-in-Enum.result _ (λ x. IsValue c.args.under.version c.args.under.types.now c.args.of.0 c.args.names.now c.args.text.now (tree_of x.0) c.args.names.now x.1.now)
    (λ x f. f c.args.of.0 c.args.names.now (ap is_numeral (c.requires.there ∙ ap Some c.in-Enum.is))) c.numeral-in-Enum.ensures.ok

pub by_type-returns-in-Enum-clause-err : goal.by_type-returns-in-Enum-clause-err
by_type-returns-in-Enum-clause-err t c =
    if_err c.numeral-in-Enum.result _ (λ e. Halts c.args.under.version c.args.under.types.now (AValue c.args.of.0 ∷ []) c.args.names.now c.args.text.now e)
    (λ e f. f c.args.of.0 c.args.names.now (ap is_numeral (c.requires.there ∙ ap Some c.in-Enum.is))) c.numeral-in-Enum.ensures.err

pub by_type-returns-in-Struct-clause-ok : goal.by_type-returns-in-Struct-clause-ok
by_type-returns-in-Struct-clause-ok t c =
    if_ok c.structure.result _ (λ x. IsValue c.args.under.version c.args.under.types.now c.args.of.0 c.args.names.now c.args.text.now (tree_of x.0) c.structure.new.names x.1.now)
    (λ x f. f c.args.of.0 (c.requires.there ∙ ap Some c.in-Struct.is)) c.structure.ensures.ok

pub by_type-returns-in-Struct-clause-err : goal.by_type-returns-in-Struct-clause-err
by_type-returns-in-Struct-clause-err t c =
    if_err c.structure.result _ (λ e. Halts c.args.under.version c.args.under.types.now (AValue c.args.of.0 ∷ []) c.args.names.now c.args.text.now e)
    (λ e f. f c.args.of.0 (c.requires.there ∙ ap Some c.in-Struct.is)) c.structure.ensures.err

pub by_type-returns-in-Array-clause-ok : goal.by_type-returns-in-Array-clause-ok
by_type-returns-in-Array-clause-ok t c =
    if_ok c.array.result _ (λ x. IsValue c.args.under.version c.args.under.types.now c.args.of.0 c.args.names.now c.args.text.now (tree_of x.0) c.array.new.names x.1.now)
    (λ x f. f c.args.of.0 (c.requires.there ∙ ap Some c.in-Array.is)) c.array.ensures.ok

pub by_type-returns-in-Array-clause-err : goal.by_type-returns-in-Array-clause-err
by_type-returns-in-Array-clause-err t c =
    if_err c.array.result _ (λ e. Halts c.args.under.version c.args.under.types.now (AValue c.args.of.0 ∷ []) c.args.names.now c.args.text.now e)
    (λ e f. f c.args.of.0 (c.requires.there ∙ ap Some c.in-Array.is)) c.array.ensures.err

pub by_type-returns-in-Text-clause-ok : goal.by_type-returns-in-Text-clause-ok
by_type-returns-in-Text-clause-ok t c =
    if_ok c.characters.result _ (λ x. IsValue c.args.under.version c.args.under.types.now c.args.of.0 c.args.names.now c.args.text.now (tree_of x.0) c.args.names.now x.1.now)
    (λ x f. f c.args.of.0 c.args.names.now c.in-Text.elem (c.requires.there ∙ ap Some c.in-Text.is)) c.characters.ensures.ok

pub by_type-returns-in-Text-clause-err : goal.by_type-returns-in-Text-clause-err
by_type-returns-in-Text-clause-err t c =
    if_err c.characters.result _ (λ e. Halts c.args.under.version c.args.under.types.now (AValue c.args.of.0 ∷ []) c.args.names.now c.args.text.now e)
    (λ e f. f c.args.of.0 c.args.names.now c.in-Text.elem (c.requires.there ∙ ap Some c.in-Text.is)) c.characters.ensures.err

pub by_type-returns-in-Union-clause-ok : goal.by_type-returns-in-Union-clause-ok
by_type-returns-in-Union-clause-ok t c =
    if_ok c.union.result _ (λ x. IsValue c.args.under.version c.args.under.types.now c.args.of.0 c.args.names.now c.args.text.now (tree_of x.0) c.union.new.names x.1.now)
    (λ x f. f c.args.of.0 c.in-Union.tag c.in-Union.encapsulated (c.requires.there ∙ ap Some c.in-Union.is)) c.union.ensures.ok

pub by_type-returns-in-Union-clause-err : goal.by_type-returns-in-Union-clause-err
by_type-returns-in-Union-clause-err t c =
    if_err c.union.result _ (λ e. Halts c.args.under.version c.args.under.types.now (AValue c.args.of.0 ∷ []) c.args.names.now c.args.text.now e)
    (λ e f. f c.args.of.0 c.in-Union.tag c.in-Union.encapsulated (c.requires.there ∙ ap Some c.in-Union.is)) c.union.ensures.err

pub by_type-returns-in-Pointer-clause-ok : goal.by_type-returns-in-Pointer-clause-ok
by_type-returns-in-Pointer-clause-ok t c =
    if_ok c.pointer.result _ (λ x. IsValue c.args.under.version c.args.under.types.now c.args.of.0 c.args.names.now c.args.text.now (tree_of x.0) c.pointer.new.names x.1.now)
    (λ x f. f c.args.of.0 c.in-Pointer.class (c.requires.there ∙ ap Some c.in-Pointer.is)) c.pointer.ensures.ok

pub by_type-returns-in-Pointer-clause-err : goal.by_type-returns-in-Pointer-clause-err
by_type-returns-in-Pointer-clause-err t c =
    if_err c.pointer.result _ (λ e. Halts c.args.under.version c.args.under.types.now (AValue c.args.of.0 ∷ []) c.args.names.now c.args.text.now e)
    (λ e f. f c.args.of.0 c.in-Pointer.class (c.requires.there ∙ ap Some c.in-Pointer.is)) c.pointer.ensures.err

pub by_type-returns-in-Context-clause-ok : goal.by_type-returns-in-Context-clause-ok
by_type-returns-in-Context-clause-ok t c =
    if_ok c.context.result _ (λ x. IsValue c.args.under.version c.args.under.types.now c.args.of.0 c.args.names.now c.args.text.now (tree_of x.0) c.args.names.now x.1.now)
    (λ x f. f c.args.of.0 c.args.names.now (c.requires.there ∙ ap Some c.in-Context.is)) c.context.ensures.ok

pub by_type-returns-in-Context-clause-err : goal.by_type-returns-in-Context-clause-err
by_type-returns-in-Context-clause-err t c =
    if_err c.context.result _ (λ e. Halts c.args.under.version c.args.under.types.now (AValue c.args.of.0 ∷ []) c.args.names.now c.args.text.now e)
    (λ e f. f c.args.of.0 c.args.names.now (c.requires.there ∙ ap Some c.in-Context.is)) c.context.ensures.err

pub by_type-returns-in-Pipe-clause-ok : goal.by_type-returns-in-Pipe-clause-ok
by_type-returns-in-Pipe-clause-ok t c =
    if_ok c.pipe.result _ (λ x. IsValue c.args.under.version c.args.under.types.now c.args.of.0 c.args.names.now c.args.text.now (tree_of x.0) c.pipe.new.names x.1.now)
    (λ x f. f c.args.of.0 (c.requires.there ∙ ap Some c.in-Pipe.is)) c.pipe.ensures.ok

pub by_type-returns-in-Pipe-clause-err : goal.by_type-returns-in-Pipe-clause-err
by_type-returns-in-Pipe-clause-err t c =
    if_err c.pipe.result _ (λ e. Halts c.args.under.version c.args.under.types.now (AValue c.args.of.0 ∷ []) c.args.names.now c.args.text.now e)
    (λ e f. f c.args.of.0 (c.requires.there ∙ ap Some c.in-Pipe.is)) c.pipe.ensures.err

pub by_type-structure-requires : goal.by_type-structure-requires
by_type-structure-requires t c =
    (omega (arith, c.decreases), ((c.args.of.0, c.requires.there ∙ ap Some c.in-Struct.is), c.requires.short))

pub by_type-array-requires : goal.by_type-array-requires
by_type-array-requires t c = (
  omega (arith, c.decreases),
  (array_known c.args.under.types.now c.args.under.known c.args.of.0 c.in-Array.elem c.in-Array.bound c.in-Array.varying (c.requires.there ∙ ap Some c.in-Array.is), c.requires.short),
)

pub by_type-pipe-requires : goal.by_type-pipe-requires
by_type-pipe-requires t c =
    (omega (arith, c.decreases), (pipe_known c.args.under.types.now c.args.under.known c.args.of.0 c.in-Pipe.elem (c.requires.there ∙ ap Some c.in-Pipe.is), c.requires.short))

pub by_type-union-requires : goal.by_type-union-requires
by_type-union-requires t c =
    (omega (arith, c.decreases), ((c.in-Union.tag, c.in-Union.encapsulated, (c.args.of.0, c.requires.there ∙ ap Some c.in-Union.is)), c.requires.short))

pub structure-returns-in_err-rest-clause-err : goal.structure-returns-in_err-rest-clause-err
structure-returns-in_err-rest-clause-err t c =
    let p = err_from_is_err_and c.from_residual.result c.from_residual.ensures.1 in
    rw (p.1, p.2) (λ t is. struct_refused c.args.under.version c.args.under.types.now t c.args.members.now is c.args.names.now c.args.text.now c.in_err-rest.field-0.0 c.in_err-rest.ensures.err)

pub structure-loop-at-init : goal.structure-loop-at-init
structure-loop-at-init t c =
    none_came c.args.under.version c.args.under.types.now c.args.names.now c.in_ok-rest.rest.now _ c.new-vals.ensures

pub structure-member-requires : goal.structure-member-requires
structure-member-requires t c = (
  omega (arith, c.decreases, c.loop-at.invariant.few, cut_less (plain c.args.under.version) c.args.text.now (Mark 123) c.in_ok-rest.rest.now c.in_ok-rest.ensures.ok),
  (
    c.requires.known,
    (
      (omega (arith, c.loop-at-test.true, c.len-at-end.ensures)),
      omega (arith, c.requires.short, c.loop-at.invariant.few, cut_less (plain c.args.under.version) c.args.text.now (Mark 123) c.in_ok-rest.rest.now c.in_ok-rest.ensures.ok),
    ),
  ),
)

pub structure-returns-in_err-val-clause-err : goal.structure-returns-in_err-val-clause-err
structure-returns-in_err-val-clause-err t c =
    let p = err_from_is_err_and c.from_residual-in_err-val.result c.from_residual-in_err-val.ensures.1 in
    rw (p.1, p.2) (λ t is.
    let f : Field = field_at c.args.members.now c.loop-at.at in
    let there = field_there c.args.members.now c.loop-at.at (omega (arith, c.loop-at-test.true, c.len-at-end.ensures)) in
    struct_member c.args.under.version c.args.under.types.now t c.args.members.now is c.args.names.now c.args.text.now c.in_ok-rest.rest.now c.in_ok-rest.ensures.ok c.loop-at.at f c.loop-at.names
    c.loop-at.rest.now c.loop-at.vals c.in_err-val.field-0.0 there c.loop-at.invariant (c.in_err-val.ensures.err f there))

pub structure-loop-at-preserved : goal.structure-loop-at-preserved
structure-loop-at-preserved t c =
    let f : Field = field_at c.args.members.now c.loop-at.at in
    let there = field_there c.args.members.now c.loop-at.at (omega (arith, c.loop-at-test.true, c.len-at-end.ensures)) in
    member_next c.args.under.version c.args.under.types.now c.args.members.now c.loop-at.at f c.args.names.now c.loop-at.names c.member.new.names c.in_ok-rest.rest.now c.loop-at.rest.now
    c.in_ok-val.after.now c.loop-at.vals c.push.new.self (tree_of c.in_ok-val.val) there c.loop-at.invariant (c.in_ok-val.ensures.ok f there) c.in-Ok.ensures.ok

pub structure-returns-in_err-end-clause-err : goal.structure-returns-in_err-end-clause-err
structure-returns-in_err-end-clause-err t c =
    let p = err_from_is_err_and c.from_residual-in_err-end.result c.from_residual-in_err-end.ensures.1 in
    rw (p.1, p.2)
    (λ t is. struct_closes c.args.under.version c.args.under.types.now t c.args.members.now is c.args.names.now c.args.text.now c.in_ok-rest.rest.now c.in_ok-rest.ensures.ok c.loop-at.at
    (omega (arith, c.loop-at-test.false, c.len-at-end.ensures)) c.loop-at.vals c.loop-at.names c.loop-at.rest.now c.loop-at.invariant c.in_err-end.field-0.0 c.in_err-end.ensures.err)

pub structure-returns-clause-ok : goal.structure-returns-clause-ok
structure-returns-clause-ok t c =
    λ t is. struct_value c.args.under.version c.args.under.types.now t c.args.members.now is c.args.names.now c.args.text.now c.in_ok-rest.rest.now c.in_ok-rest.ensures.ok c.loop-at.at
    (omega (arith, c.loop-at-test.false, c.len-at-end.ensures)) c.loop-at.vals c.loop-at.names c.loop-at.rest.now c.loop-at.invariant c.in_ok-end.end.now _ c.in_ok-end.ensures.ok refl

pub member-returns-in_err-start-clause-err : goal.member-returns-in_err-start-clause-err
member-returns-in_err-start-clause-err t c =
    let p = err_from_is_err_and c.from_residual.result c.from_residual.ensures.1 in
    rw (p.1, p.2) (λ f there.
    subst (λ (x : Field). Halts c.args.under.version c.args.under.types.now (comma_dues c.args.at ++ named_due x.name x.of.0) c.args.names.now c.args.text.now c.in_err-start.field-0.0)
    (same_Some _ _ (sym c.in-Some.ensures.some ∙ there))
    (comma_refused c.args.under.version c.args.under.types.now c.in-Some.member.now c.args.at c.args.names.now c.args.text.now c.in_err-start.field-0.0
    (c.in_err-start.ensures.err c.args.under.types.now c.args.names.now)))

pub member-returns-in_err-rest-clause-err : goal.member-returns-in_err-rest-clause-err
member-returns-in_err-rest-clause-err t c =
    let p = err_from_is_err_and c.from_residual-in_err-rest.result c.from_residual-in_err-rest.ensures.1 in
    rw (p.1, p.2) (λ f there.
    subst (λ (x : Field). Halts c.args.under.version c.args.under.types.now (comma_dues c.args.at ++ named_due x.name x.of.0) c.args.names.now c.args.text.now c.in_err-rest.field-0.0)
    (same_Some _ _ (sym c.in-Some.ensures.some ∙ there))
    (name_refused c.args.under.version c.args.under.types.now c.in-Some.member.now c.args.at c.args.names.now c.args.text.now c.in_ok-start.start.now
    (c.in_ok-start.ensures.ok c.args.under.types.now c.args.names.now) c.in_err-rest.field-0.0
    (subst (λ (n : List ℕ). Halts c.args.under.version c.args.under.types.now
    (This (Name n) ∷ This equals ∷ []) c.args.names.now c.in_ok-start.start.now c.in_err-rest.field-0.0) c.as_slice.ensures.same
    (c.in_err-rest.ensures.err c.args.under.types.now c.args.names.now))))

pub member-returns-in_err-val-clause-err : goal.member-returns-in_err-val-clause-err
member-returns-in_err-val-clause-err t c =
    let p = err_from_is_err_and c.from_residual-in_err-val.result c.from_residual-in_err-val.ensures.1 in
    rw (p.1, p.2) (λ f there.
    subst (λ (x : Field). Halts c.args.under.version c.args.under.types.now (comma_dues c.args.at ++ named_due x.name x.of.0) c.args.names.now c.args.text.now c.in_err-val.field-0.0)
    (same_Some _ _ (sym c.in-Some.ensures.some ∙ there))
    (value_refused c.args.under.version c.args.under.types.now c.in-Some.member.now c.args.at c.args.names.now c.args.text.now c.in_ok-start.start.now
    (c.in_ok-start.ensures.ok c.args.under.types.now c.args.names.now) c.in_ok-rest.rest.now
    (subst (λ (n : List ℕ). Passes c.args.under.version c.args.under.types.now (This (Name n) ∷ This equals ∷ []) c.args.names.now c.in_ok-start.start.now
    (name_tokens n) [] c.args.names.now c.in_ok-rest.rest.now) c.as_slice.ensures.same
    (c.in_ok-rest.ensures.ok c.args.under.types.now c.args.names.now)) c.in_err-val.field-0.0 c.in_err-val.ensures.err))

pub member-value-requires : goal.member-value-requires
member-value-requires t c = (
  omega (arith, c.decreases, c.in_ok-start.ensures.less, c.in_ok-rest.ensures.less),
  (
    member_known c.args.under.types.now c.args.under.known c.args.members.now c.args.at c.in-Some.member.now c.requires.known c.in-Some.ensures.some,
    omega (arith, c.requires.short, c.in_ok-start.ensures.less, c.in_ok-rest.ensures.less),
  ),
)

pub member-returns-clause-ok : goal.member-returns-clause-ok
member-returns-clause-ok t c =
    λ f there.
    subst (λ (x : Field). IsMember c.args.under.version c.args.under.types.now x c.args.at c.args.names.now c.args.text.now (tree_of c.in_ok-val.val) c.value.new.names c.in_ok-val.end.now)
    (same_Some _ _ (sym c.in-Some.ensures.some ∙ there))
    (member_read c.args.under.version c.args.under.types.now c.in-Some.member.now c.args.at c.args.names.now c.args.text.now c.in_ok-start.start.now
    (c.in_ok-start.ensures.ok c.args.under.types.now c.args.names.now) c.in_ok-rest.rest.now
    (subst (λ (n : List ℕ). Passes c.args.under.version c.args.under.types.now (This (Name n) ∷ This equals ∷ []) c.args.names.now c.in_ok-start.start.now
    (name_tokens n) [] c.args.names.now c.in_ok-rest.rest.now) c.as_slice.ensures.same (c.in_ok-rest.ensures.ok c.args.under.types.now c.args.names.now))
    (tree_of c.in_ok-val.val) c.value.new.names c.in_ok-val.end.now c.in_ok-start.ensures.less c.in_ok-rest.ensures.less c.in_ok-val.ensures.ok)

pub array-returns-in_err-written-clause-err : goal.array-returns-in_err-written-clause-err
array-returns-in_err-written-clause-err t c =
    let p = err_from_is_err_and c.from_residual.result c.from_residual.ensures.1 in
    rw (p.1, p.2)
    (λ t is. maximum_halts c.args.under.version c.args.under.types.now t c.args.elem c.args.bound c.args.varying is c.args.names.now c.args.text.now c.in_err-written.field-0.0
    (subst (λ b. Halts c.args.under.version c.args.under.types.now (written_dues b) c.args.names.now c.args.text.now c.in_err-written.field-0.0) c.maximum_is_written.ensures
    (c.in_err-written.ensures.err c.args.under.types.now c.args.names.now)))

pub array-returns-in_err-offset-clause-err : goal.array-returns-in_err-offset-clause-err
array-returns-in_err-offset-clause-err t c =
    let p = err_from_is_err_and c.from_residual-in_err-offset.result c.from_residual-in_err-offset.ensures.1 in
    rw (p.1, p.2)
    (λ t is. offset_halts c.args.under.version c.args.under.types.now t c.args.elem c.args.bound c.args.varying is c.args.names.now c.args.text.now c.in_ok-written.written
    c.in_ok-written.middle.now
    (subst (λ b. Passes c.args.under.version c.args.under.types.now (written_dues b) c.args.names.now c.args.text.now
    (written_tokens b c.in_ok-written.written) [] c.args.names.now c.in_ok-written.middle.now) c.maximum_is_written.ensures
    (c.in_ok-written.ensures.ok c.args.under.types.now c.args.names.now)) c.in_err-offset.field-0.0 (c.in_err-offset.ensures.err c.args.under.types.now c.args.names.now))

pub array-returns-in_err-items-clause-err : goal.array-returns-in_err-items-clause-err
array-returns-in_err-items-clause-err t c =
    let p = err_from_is_err_and c.from_residual-in_err-items.result c.from_residual-in_err-items.ensures.1 in
    rw (p.1, p.2)
    (λ t is. elements_halt c.args.under.version c.args.under.types.now t c.args.elem c.args.bound c.args.varying is c.args.names.now c.args.text.now c.in_ok-written.written
    c.in_ok-written.middle.now
    (subst (λ b. Passes c.args.under.version c.args.under.types.now (written_dues b) c.args.names.now c.args.text.now
    (written_tokens b c.in_ok-written.written) [] c.args.names.now c.in_ok-written.middle.now) c.maximum_is_written.ensures
    (c.in_ok-written.ensures.ok c.args.under.types.now c.args.names.now)) c.in_ok-offset.offset c.in_ok-offset.start.now
    (c.in_ok-offset.ensures.ok c.args.under.types.now c.args.names.now) c.in_err-items.field-0.0 c.in_err-items.ensures.err)

pub array-elements-requires : goal.array-elements-requires
array-elements-requires t c = (
  omega (arith, c.decreases, c.in_ok-written.ensures.less, c.in_ok-offset.ensures.less),
  (c.requires.known, omega (arith, c.requires.short, c.in_ok-written.ensures.less, c.in_ok-offset.ensures.less)),
)

pub array-maximum_of-max-requires : goal.array-maximum_of-max-requires
array-maximum_of-max-requires t c =
    few_items c.in_ok-items.items c.in_ok-offset.start.now c.in_ok-items.rest.now (omega (arith, c.in_ok-items.ensures.ok.few))
    (omega (arith, c.requires.short, c.in_ok-written.ensures.less, c.in_ok-offset.ensures.less))

pub array-returns-clause-ok : goal.array-returns-clause-ok
array-returns-clause-ok t c =
    λ t is.
    array_value c.args.under.version c.args.under.types.now t c.args.elem c.args.bound c.args.varying is c.args.names.now c.args.text.now c.in_ok-written.written c.in_ok-written.middle.now
    (subst (λ b. Passes c.args.under.version c.args.under.types.now (written_dues b) c.args.names.now c.args.text.now
    (written_tokens b c.in_ok-written.written) [] c.args.names.now c.in_ok-written.middle.now) c.maximum_is_written.ensures
    (c.in_ok-written.ensures.ok c.args.under.types.now c.args.names.now)) c.in_ok-offset.offset c.in_ok-offset.start.now
    (c.in_ok-offset.ensures.ok c.args.under.types.now c.args.names.now) c.in_ok-items.items c.elements.new.names c.in_ok-items.rest.now c.in_ok-items.ensures.ok _
    c.in_ok-written.ensures.fits c.in_ok-offset.ensures.fits c.in_ok-offset.ensures.zero c.in_ok-written.ensures.less c.in_ok-offset.ensures.less
    (ap (λ m. node (tree.Arr m c.in_ok-offset.offset) (trees c.in_ok-items.items)) (c.maximum_of-max.ensures ∙ ap (λ k. maximum_by k (length c.in_ok-items.items)) c.maximum_before.ensures))

pub pipe-returns-in_err-items-clause-err : goal.pipe-returns-in_err-items-clause-err
pipe-returns-in_err-items-clause-err t c =
    let p = err_from_is_err_and c.from_residual.result c.from_residual.ensures.1 in
    rw (p.1, p.2) (λ t is. pipe_halts c.args.under.version c.args.under.types.now t c.args.elem is c.args.names.now c.args.text.now c.in_err-items.field-0.0 c.in_err-items.ensures.err)

pub pipe-elements-requires : goal.pipe-elements-requires
pipe-elements-requires t c =
    (omega (arith, c.decreases), (c.requires.known, c.requires.short))

pub pipe-returns-clause-ok : goal.pipe-returns-clause-ok
pipe-returns-clause-ok t c =
    λ t is. pipe_value c.args.under.version c.args.under.types.now t c.args.elem is c.args.names.now c.args.text.now c.in_ok-items.items c.elements.new.names c.in_ok-items.rest.now _
    c.in_ok-items.ensures.ok refl

pub elements-returns-in_err-vals-clause-err : goal.elements-returns-in_err-vals-clause-err
elements-returns-in_err-vals-clause-err t c =
    let p = err_from_is_err_and c.from_residual.result c.from_residual.ensures.1 in
    rw (p.1, p.2)
    (subst (λ b. Halts c.args.under.version c.args.under.types.now (list_dues b c.args.elem.0) c.args.names.now c.args.text.now c.in_err-vals.field-0.0)
    (sym (sym c.are_bytes.ensures ∙ c.if-are_bytes.true)) (c.in_err-vals.ensures.err c.args.names.now))

pub elements-returns-in_err-items-clause-err : goal.elements-returns-in_err-items-clause-err
elements-returns-in_err-items-clause-err t c =
    let p = err_from_is_err_and c.from_residual-in_err-items.result c.from_residual-in_err-items.ensures.1 in
    rw (p.1, p.2)
    (subst (λ b. Halts c.args.under.version c.args.under.types.now (list_dues b c.args.elem.0) c.args.names.now c.args.text.now c.in_err-items.field-0.0)
    (sym (sym c.are_bytes.ensures ∙ c.if-are_bytes.false)) c.in_err-items.ensures.err)

pub elements-byte_elements-requires : goal.elements-byte_elements-requires
elements-byte_elements-requires t c =
    record { octets = sym c.are_bytes.ensures ∙ c.if-are_bytes.true }

pub elements-listed-requires : goal.elements-listed-requires
elements-listed-requires t c =
    (omega (arith, c.decreases), (c.requires.known, (c.requires.short, (sym c.are_bytes.ensures ∙ c.if-are_bytes.false))))

pub elements-returns-then-are_bytes-clause-ok : goal.elements-returns-then-are_bytes-clause-ok
elements-returns-then-are_bytes-clause-ok t c =
    c.in_ok-vals.ensures.ok c.args.names.now

pub listed-returns-in_err-start-clause-err : goal.listed-returns-in_err-start-clause-err
listed-returns-in_err-start-clause-err t c =
    let p = err_from_is_err_and c.from_residual.result c.from_residual.ensures.1 in
    rw (p.1, p.2) (start_halts c.args.under.version c.args.under.types.now c.args.elem.0 c.args.names.now c.args.text.now c.in_err-start.field-0.0 c.in_err-start.ensures.err)

pub listed-returns-in-Some-clause-ok : goal.listed-returns-in-Some-clause-ok
listed-returns-in-Some-clause-ok t c =
    empty_list c.args.under.version c.args.under.types.now c.args.elem.0 c.args.names.now c.args.text.now c.in_ok-start.start.now c.in_ok-start.ensures.ok c.requires.values _ c.in-Some.end.now
    c.new.ensures c.in-Some.ensures.some

pub listed-items-requires : goal.listed-items-requires
listed-items-requires t c =
    (omega (arith, c.decreases, c.in_ok-start.ensures.less), (c.requires.known, (omega (arith, c.requires.short, c.in_ok-start.ensures.less), c.in_default.ensures.none)))

pub listed-returns-in_err-vals-clause-err : goal.listed-returns-in_err-vals-clause-err
listed-returns-in_err-vals-clause-err t c =
    let p = err_from_is_err_and c.from_residual-in_err-vals.result c.from_residual-in_err-vals.ensures.1 in
    rw (p.1, p.2)
    (first_halts c.args.under.version c.args.under.types.now c.args.elem.0 c.args.names.now c.args.text.now c.in_ok-start.start.now c.in_ok-start.ensures.ok c.in_err-vals.field-0.0
    c.in_err-vals.ensures.err)

pub listed-returns-in_err-end-clause-err : goal.listed-returns-in_err-end-clause-err
listed-returns-in_err-end-clause-err t c =
    let p = err_from_is_err_and c.from_residual-in_err-end.result c.from_residual-in_err-end.ensures.1 in
    rw (p.1, p.2)
    (last_halts c.args.under.version c.args.under.types.now c.args.elem.0 c.args.names.now c.args.text.now c.in_ok-start.start.now c.in_ok-start.ensures.ok c.requires.values c.in_ok-vals.vals
    c.items.new.names c.in_ok-vals.rest.now c.in_ok-vals.ensures.ok c.in_err-end.field-0.0
    (end_halts c.args.under.version c.args.under.types.now c.args.elem.0 c.items.new.names c.in_ok-vals.rest.now c.in_err-end.field-0.0 c.in_ok-vals.ensures.last c.in_err-end.ensures.err))

pub listed-returns-clause-ok : goal.listed-returns-clause-ok
listed-returns-clause-ok t c =
    whole_list c.args.under.version c.args.under.types.now c.args.elem.0 c.args.names.now c.args.text.now c.in_ok-start.start.now c.in_ok-start.ensures.ok c.requires.values c.in_ok-vals.vals
    c.items.new.names c.in_ok-vals.rest.now c.in_ok-vals.ensures.ok c.in_ok-end.end.now c.in_ok-end.ensures.ok

pub items-numerals-requires : goal.items-numerals-requires
items-numerals-requires t c =
    record { numbers = sym c.are_numerals.ensures ∙ c.if-are_numerals.true; more = c.requires.more }

pub items-values_of-requires : goal.items-values_of-requires
items-values_of-requires t c =
    (omega (arith, c.decreases), (c.requires.known, (c.requires.short, c.requires.more)))

pub items-returns-in_err-vals-clause-err : goal.items-returns-in_err-vals-clause-err
items-returns-in_err-vals-clause-err t c =
    let p = err_from_is_err_and c.from_residual.result c.from_residual.ensures.1 in
    rw (p.1, p.2) (c.in_err-vals.ensures.err c.args.names.now)

pub items-returns-then-are_numerals-clause-ok : goal.items-returns-then-are_numerals-clause-ok
items-returns-then-are_numerals-clause-ok t c =
    c.in_ok-vals.ensures.ok c.args.names.now

pub values_of-value-requires : goal.values_of-value-requires
values_of-value-requires t c =
    (omega (arith, c.decreases), (c.requires.known, c.requires.short))

pub values_of-returns-in_err-val-clause-err : goal.values_of-returns-in_err-val-clause-err
values_of-returns-in_err-val-clause-err t c =
    let p = err_from_is_err_and c.from_residual.result c.from_residual.ensures.1 in
    rw (p.1, p.2) (halts_at_first c.args.under.version c.args.under.types.now c.args.elem.0 c.args.text.now c.requires.more c.args.names.now c.in_err-val.field-0.0 c.in_err-val.ensures.err)

pub values_of-loop-next-init : goal.values_of-loop-next-init
values_of-loop-next-init t c =
    first_came c.args.under.version c.args.under.types.now c.args.elem.0 c.args.names.now c.value.new.names c.args.text.now c.in_ok-val.after.now c.push.new.self
    (tree_of c.in_ok-val.val) c.requires.more (c.in-Ok.ensures.ok ∙ ap (λ (l : List Tree). l ++ tree_of c.in_ok-val.val ∷ []) c.new-vals.ensures) c.in_ok-val.ensures.ok

pub values_of-value-requires-in-Some : goal.values_of-value-requires-in-Some
values_of-value-requires-in-Some t c = (
  omega (arith, c.decreases, c.loop-next.invariant.few, c.in-Some.ensures.less),
  (c.requires.known, omega (arith, c.requires.short, c.loop-next.invariant.few, c.in-Some.ensures.less)),
)

pub values_of-returns-in_err-val-2-clause-err : goal.values_of-returns-in_err-val-2-clause-err
values_of-returns-in_err-val-2-clause-err t c =
    let p = err_from_is_err_and c.from_residual-in_err-val-2.result c.from_residual-in_err-val-2.ensures.1 in
    rw (p.1, p.2)
    (next_halts c.args.under.version c.args.under.types.now c.args.elem.0 c.args.names.now c.loop-next.names c.args.text.now c.loop-next.rest.now c.in-Some.next.now c.loop-next.vals
    c.loop-next.invariant c.in-Some.ensures.some c.in_err-val-2.field-0.0 c.in_err-val-2.ensures.err)

pub values_of-loop-next-preserved : goal.values_of-loop-next-preserved
values_of-loop-next-preserved t c =
    one_came c.args.under.version c.args.under.types.now c.args.elem.0 c.args.names.now c.loop-next.names c.args.text.now c.loop-next.rest.now c.in-Some.next.now c.loop-next.vals
    c.loop-next.invariant c.in-Some.ensures.some c.value-in-Some.new.names c.in_ok-val-2.after.now c.push-in-Some.new.self
    (tree_of c.in_ok-val-2.val) c.in_ok-val-2.ensures.ok c.in-Ok-push.ensures.ok

pub union-returns-in_err-tag-clause-err : goal.union-returns-in_err-tag-clause-err
union-returns-in_err-tag-clause-err t c =
    let p = err_from_is_err_and c.from_residual.result c.from_residual.ensures.1 in
    rw (p.1, p.2)
    (λ t tag own is. tag_halts c.args.under.version c.args.under.types.now t tag own c.args.arms.now c.args.default.now is c.args.names.now c.args.text.now c.in_err-tag.field-0.0
    (number_tag c.args.under.version c.args.arms.now c.args.default.now c.args.text.now c.in_err-tag.field-0.0 c.in_err-tag.ensures.err))

pub union-returns-in_err-start-clause-err : goal.union-returns-in_err-start-clause-err
union-returns-in_err-start-clause-err t c =
    let p = err_from_is_err_and c.from_residual-in_err-start.result c.from_residual-in_err-start.ensures.1 in
    rw (p.1, p.2)
    (λ t tag own is. colon_halts c.args.under.version c.args.under.types.now t tag own c.args.arms.now c.args.default.now is c.args.names.now c.args.text.now c.in_ok-tag.tag
    c.in_ok-tag.middle.now c.in_ok-tag.ensures.ok c.in_err-start.field-0.0 c.in_err-start.ensures.err)

pub union-returns-in_err-arm-clause-err : goal.union-returns-in_err-arm-clause-err
union-returns-in_err-arm-clause-err t c =
    let fits : SFits w128 c.in_ok-tag.tag = search rules in
    let p = err_from_is_err_and c.from_residual-in_err-arm.result c.from_residual-in_err-arm.ensures.1 in
    rw (p.1, p.2) (λ t tag own is.
    arm_halts c.args.under.version c.args.under.types.now t tag own c.args.arms.now c.args.default.now is c.args.names.now c.args.text.now c.in_ok-tag.tag c.in_ok-tag.middle.now
    c.in_ok-tag.ensures.ok c.in_ok-start.start.now c.in_ok-start.ensures.ok c.in_err-arm.field-0.0
    (subst (λ (l : List ℕ). Halts c.args.under.version c.args.under.types.now (arm_dues l) c.args.names.now c.in_ok-start.start.now c.in_err-arm.field-0.0)
    (c.selected_type.ensures ∙ ap (λ (z : ℤ). selected_types (selected c.args.arms.now c.args.default.now z)) (to_z-of_z w128 c.in_ok-tag.tag fits)) c.in_err-arm.ensures.err))

pub union-arm_value-requires : goal.union-arm_value-requires
union-arm_value-requires t c =
    let fits : SFits w128 c.in_ok-tag.tag = search rules in (
      omega (arith, c.decreases, c.in_ok-tag.ensures.less, c.in_ok-start.ensures.less),
      (
        arm_known c.args.under.types.now c.args.under.known c.args.arms.now c.args.default.now c.in_ok-tag.tag c.selected_type.result c.requires.known
            (c.selected_type.ensures ∙ ap (λ (z : ℤ). selected_types (selected c.args.arms.now c.args.default.now z)) (to_z-of_z w128 c.in_ok-tag.tag fits)),
        omega (arith, c.requires.short, c.in_ok-tag.ensures.less, c.in_ok-start.ensures.less),
      ),
    )

pub union-returns-clause-ok : goal.union-returns-clause-ok
union-returns-clause-ok t c =
    let fits : SFits w128 c.in_ok-tag.tag = search rules in
    λ t tag own is.
    union_value c.args.under.version c.args.under.types.now t tag own c.args.arms.now c.args.default.now is c.args.names.now c.args.text.now c.in_ok-tag.tag c.in_ok-tag.middle.now
    c.in_ok-tag.ensures.ok c.in_ok-start.start.now c.in_ok-start.ensures.ok c.in_ok-arm.arm c.arm_value.new.names c.in_ok-arm.rest.now _
    (subst (λ (l : List ℕ). IsArm c.args.under.version c.args.under.types.now l c.args.names.now c.in_ok-start.start.now c.in_ok-arm.arm c.arm_value.new.names c.in_ok-arm.rest.now)
    (c.selected_type.ensures ∙ ap (λ (z : ℤ). selected_types (selected c.args.arms.now c.args.default.now z)) (to_z-of_z w128 c.in_ok-tag.tag fits)) c.in_ok-arm.ensures.ok)
    (ap (λ (y : ℤ). node (tree.Union y) (trees c.in_ok-arm.arm)) (to_z-of_z w128 c.in_ok-tag.tag fits))

pub arm_value-returns-in_err-rest-clause-err : goal.arm_value-returns-in_err-rest-clause-err
arm_value-returns-in_err-rest-clause-err t c =
    let p = err_from_is_err_and c.from_residual.result c.from_residual.ensures.1 in
    rw (p.1, p.2)
    (subst (λ (o : Option TypeId). Halts c.args.under.version c.args.under.types.now (arm_dues (type_list o)) c.args.names.now c.args.text.now c.in_err-rest.field-0.0) (sym c.in_default.is)
    (void_refused c.args.under.version c.args.under.types.now c.args.names.now c.args.text.now c.in_err-rest.field-0.0 c.in_err-rest.ensures.err))

pub arm_value-returns-in_default-clause-ok : goal.arm_value-returns-in_default-clause-ok
arm_value-returns-in_default-clause-ok t c =
    subst (λ (o : Option TypeId). IsArm c.args.under.version c.args.under.types.now (type_list o) c.args.names.now c.args.text.now c.none.result c.args.names.now c.in_ok-rest.rest.now)
    (sym c.in_default.is) (no_arm c.args.under.version c.args.under.types.now c.args.names.now c.args.text.now c.in_ok-rest.rest.now c.none.result c.none.ensures c.in_ok-rest.ensures.ok)

pub arm_value-value-requires : goal.arm_value-value-requires
arm_value-value-requires t c =
    (omega (arith, c.decreases), (subst (AreOf c.args.under.types.now) c.in-Some.is c.requires.known, c.requires.short))

pub arm_value-returns-in_err-val-clause-err : goal.arm_value-returns-in_err-val-clause-err
arm_value-returns-in_err-val-clause-err t c =
    let p = err_from_is_err_and c.from_residual-in_err-val.result c.from_residual-in_err-val.ensures.1 in
    rw (p.1, p.2)
    (subst (λ (o : Option TypeId). Halts c.args.under.version c.args.under.types.now (arm_dues (type_list o)) c.args.names.now c.args.text.now c.in_err-val.field-0.0)
    (sym c.in-Some.is) c.in_err-val.ensures.err)

pub arm_value-returns-clause-ok : goal.arm_value-returns-clause-ok
arm_value-returns-clause-ok t c =
    subst (λ (o : Option TypeId). IsArm c.args.under.version c.args.under.types.now (type_list o) c.args.names.now c.args.text.now c.of.result c.value.new.names c.in_ok-val.rest.now)
    (sym c.in-Some.is)
    (an_arm c.args.under.version c.args.under.types.now c.args.names.now c.args.text.now c.in-Some.of.0 (tree_of c.in_ok-val.val) c.value.new.names c.in_ok-val.rest.now c.of.result
    (c.of.ensures ∙ ap (λ x. tree_of x ∷ []) c.in-Ok.ensures.ok) c.in_ok-val.ensures.ok)

pub value-unreachable-requires : goal.value-unreachable-requires
value-unreachable-requires t c = omega (arith, past_end c.args.under.types.now c.args.of.0 c.in_default.ensures.none, c.requires.known)

pub member-unreachable-requires : goal.member-unreachable-requires
member-unreachable-requires t c = omega (arith, past_end c.args.members.now c.args.at c.in_default.ensures.none, c.requires.there)
