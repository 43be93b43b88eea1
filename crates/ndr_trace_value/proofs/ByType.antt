-- A node's own items, by its type: what each function that passes them gives is what the node says.
-- `k` are the octets with the partial graph in which they are refused, `s` is where the node is, `p` and `p1` are how far the walk came before and
-- afterwards, `a` and `a1` the cells, `r` is what the function gives, `w` a width.
use Rattle.std.proofs.Common.{◌≡◌, ◌∙◌, ℕ, ◌+◌, ◌<◌, ◌≤◌, ℤ, Bool, true, false, List, [], ◌∷◌, ◌++◌, length, Option, Some, None, Result, refl, sym, ap, ap₂, subst, arith}
use Rattle.std.specs.Prelude.{◌&&◌, Err, IfOk, IsOk, eqb, unwrap_or}
use Rattle.std.proofs.lemmas.Bool.{and_parts, eqb-true}
use Rattle.std.proofs.lemmas.Result.{IfOk-weaker}
use Rattle.nd_types.specs.declared.types.Arm.{Arm}
use Rattle.nd_types.specs.declared.types.Class.{Class}
use Rattle.nd_types.specs.declared.types.Field.{Field}
use Rattle.nd_types.specs.declared.types.Primitive.{Primitive}
use Rattle.nd_types.specs.declared.types.Primitive.TheVariants.{Short}
use Rattle.nd_types.specs.declared.types.TypeDef.{TypeDef}
use Rattle.nd_types.specs.declared.types.TypeDef.TheVariants as def
use Rattle.nd_types.specs.declared.types.TypeId.{TypeId}
use Rattle.nd_types.specs.Layout.{align_of, hoists, hoists_by}
use Rattle.nd_types.specs.Table.{selected, type_at, width}
use Rattle.nd_value.specs.declared.item.Home.{Home}
use Rattle.nd_value.specs.Deferral.{Placed_cells}
use Rattle.nd_value.specs.Misfit.{has_counts, is_bound, is_no_null_ref, names_cell, names_pointee}
use Rattle.nd_value.specs.Nodes.{child_types, selected_types}
use Rattle.nd_value.specs.Tree as tree
use Rattle.nd_value.specs.Tree.{Flat, Label, Trees, count}
use Rattle.nd_value.proofs.NodeFacts.{IsRead}
use Rattle.nd_grammar.specs.Entry.{Actual, Align, Context, Entry, Num, Number, Offset, Tag, Text, counts, entries, own_max}
use Rattle.ndr_explain.specs.Explained.{home_flats, label_in}
use Rattle.ndr_trace_value.specs.Untested.{untested}
use Rattle.ndr_trace_value.specs.declared.cells.Cells.{Cells}
use Rattle.ndr_trace_value.specs.declared.nodes.Walker.{Walker}
use Rattle.ndr_trace_value.specs.declared.progress.Halt.{Halt}
use Rattle.ndr_trace_value.specs.declared.progress.Progress.{Progress}
use Rattle.ndr_trace_value.specs.declared.progress.Spot.{Spot}
use Rattle.ndr_trace_value.specs.declared.shapes.Shape.{Shape}
use Rattle.ndr_trace_value.specs.Naming.{HasNamed, IsFine, IsNaming, named_by, names_in}
use Rattle.ndr_trace_value.specs.Tracing.{IsTracing, Known, entry_at}
use Rattle.ndr_trace_value.specs.Walking.{HavePaid, IsNode, IsReady, IsSeen, flat_shape, own_due, width_by}
use Rattle.ndr_trace_value.proofs.OwnItems.{array_case, array_out, context_case, context_out, due_by, enum_case, enum_out, fine_pointer, is_bound_of, no_form, num_out, pipe_form, pointer_case}
use Rattle.ndr_trace_value.proofs.OwnItems.{pointer_named, pointer_out, prim_case, read_of, struct_case, struct_out, text_case, text_out, union_case, union_out}

module _ (k : Known) (s : Spot) (n max t : ℕ) (l : Label) (ks : Trees) (node : IsNode k s max t n l ks) (p : Progress) (ready : IsReady k p) (rest : List Entry)
    (tr : IsTracing k p (own_due k s.home n t l ks ++ rest)) where
  -- ## Where the walk ends

  pub prim_ends : {E : Type 0} (q : Primitive) → type_at k.setting.table t ≡ Some (def.Prim q) → (w : ℕ) → w ≡ width q
      → ((o : Primitive) (vs : Option (List ℤ)) (z : ℤ) (later : List Entry) → IsTracing k p (entry_at s n (Align w) ∷ entry_at s n (Num o vs z) ∷ later) → E) → E
  prim_ends q de w we f =
      let (z, (le, go)) = prim_case k s.home n p rest ready t (type_at k.setting.table t) l ks tr q de in
      f q None z rest (subst (λ v. IsTracing k p (entry_at s n (Align v) ∷ entry_at s n (Num q None z) ∷ rest)) (sym we) go)

  pub enum_ends : {E : Type 0} (values : List ℤ) → type_at k.setting.table t ≡ Some (def.Enum values)
      → ((o : Primitive) (vs : Option (List ℤ)) (z : ℤ) (later : List Entry) → IsTracing k p (entry_at s n (Align 2) ∷ entry_at s n (Num o vs z) ∷ later) → E) → E
  enum_ends values de f =
      let (z, (le, go)) = enum_case k s.home n p rest ready t (type_at k.setting.table t) l ks tr values de in
      f Short (Some values) z rest go

  pub struct_ends : {E : Type 0} (members : List Field) → type_at k.setting.table t ≡ Some (def.Struct members) → (w : ℕ) → w ≡ align_of k.setting.table t
      → ((later : List Entry) → IsTracing k p (entry_at s n (Align w) ∷ later) → E) → E
  struct_ends members de w we f =
      let (le, go) = struct_case k s.home n p rest ready t (type_at k.setting.table t) l ks tr members de in
      f rest (subst (λ v. IsTracing k p (entry_at s n (Align v) ∷ rest)) (sym we) go)

  pub array_ends : {E : Type 0} (elem : TypeId) (bound : Option ℕ) → type_at k.setting.table t ≡ Some (def.Array elem bound true)
      → ((offset limit actual : ℕ) (later : List Entry)
      → IsTracing k p (entry_at s n (Align 4) ∷ entry_at s n (Offset false offset) ∷ entry_at s n (Actual false offset limit actual) ∷ later) → E) → E
  array_ends elem bound de f =
      let (m, (offset, (le, go))) = array_case k s.home n p rest ready t (type_at k.setting.table t) l ks tr elem bound true de in
      f offset m (count ks) rest go

  pub any_array_ends : {E : Type 0} (elem : TypeId) (bound : Option ℕ) (varying : Bool) → type_at k.setting.table t ≡ Some (def.Array elem bound varying)
      → (r : Result Shape Halt) (f : Halt) → (varying ≡ false → IsOk r)
      → (varying ≡ true → (offset limit actual : ℕ) (later : List Entry)
      → IsTracing k p (entry_at s n (Align 4) ∷ entry_at s n (Offset false offset) ∷ entry_at s n (Actual false offset limit actual) ∷ later) → r ≡ Err f → E) → r ≡ Err f → E
  any_array_ends elem bound true de r f whole ends e = array_ends elem bound de (ends refl) e
  any_array_ends elem bound false de r f whole ends e = absurd (let z : false ≡ true = subst (λ (q : Result Shape Halt). IsOk q) e (whole refl) in let y : ⊥ = cc in y)

  pub text_ends : {E : Type 0} (elem : TypeId) (bound : Option ℕ) → type_at k.setting.table t ≡ Some (def.Text elem bound)
      → ((m : ℕ) (os : List ℕ) → label_in (home_flats k.graph s.home) n ≡ Some (tree.Text m os) → (later : List Entry)
      → IsTracing k p (entry_at s n (Align 4) ∷ entry_at s n (Offset true 0) ∷ entry_at s n (Actual true 0 m (length os + 1)) ∷ entry_at s n (Text os) ∷ later) → E) → E
  text_ends elem bound de f =
      let (m, (os, (le, go))) = text_case k s.home n p rest ready t (type_at k.setting.table t) l ks tr elem bound de in
      f m os (node.label_is ∙ ap (λ x. Some x) le) rest go

  pub union_ends : {E : Type 0} (tag : TypeId) (enc : Bool) (arms : List Arm) (default : Option Arm) → type_at k.setting.table t ≡ Some (def.Union tag enc arms default)
      → (w : ℕ) → w ≡ width_by (type_at k.setting.table tag.0)
      → ((o : Primitive) (vs : Option (List ℤ)) (z : ℤ) (later : List Entry) → IsTracing k p (entry_at s n (Align w) ∷ entry_at s n (Tag o vs arms default z) ∷ later) → E) → E
  union_ends tag enc arms default de w we f =
      let (z, (le, (q, (vs, go)))) = union_case k s.home n p rest ready t (type_at k.setting.table t) l ks tr tag enc arms default de in
      f q vs z rest (subst (λ v. IsTracing k p (entry_at s n (Align v) ∷ entry_at s n (Tag q vs arms default z) ∷ rest)) (sym we) go)

  pub pointer_ends : {E : Type 0} (class : Class) (to : TypeId) → type_at k.setting.table t ≡ Some (def.Pointer class to)
      → ((c : Option ℕ) (later : List Entry) → IsTracing k p (entry_at s n (Align 4) ∷ entry_at s n (Number class to.0 c) ∷ later) → E) → E
  pointer_ends class to de f =
      let (c, (le, go)) = pointer_case k s.home n p rest ready t (type_at k.setting.table t) l ks tr class to de in
      f c rest go

  pub context_ends : {E : Type 0} → type_at k.setting.table t ≡ Some def.Context
      → ((b : ℕ) (id : List ℕ) → label_in (home_flats k.graph s.home) n ≡ Some (tree.Context b id) → (later : List Entry)
      → IsTracing k p (entry_at s n (Align 4) ∷ entry_at s n (Context b id) ∷ later) → E) → E
  context_ends de f =
      let (b, (id, (le, go))) = context_case k s.home n p rest ready t (type_at k.setting.table t) l ks tr de in
      f b id (node.label_is ∙ ap (λ x. Some x) le) rest go

  -- no value of these is due
  pub pipe_goes : {A : Type 0} (elem : TypeId) → type_at k.setting.table t ≡ Some (def.Pipe elem) → A
  pipe_goes elem de = pipe_form k s.home n p rest ready t elem l ks (subst (λ d. IsTracing k p (due_by k s.home n t d l ks ++ rest)) de tr)

  pub none_goes : {A : Type 0} → type_at k.setting.table t ≡ None → A
  none_goes de = no_form k s.home n p rest ready t l ks (subst (λ d. IsTracing k p (due_by k s.home n t d l ks ++ rest)) de tr)

  -- ## Where it goes on

  module _ (names : Placed_cells) (a : Cells) (nm : IsNaming k a (names_in (own_due k s.home n t l ks) ++ names)) (p1 : Progress) (r : Result Shape Halt) where
    -- what is said, and what is due then
    abbrev pub Comes : Cells → Shape → Type 0
    Comes a1 seen = IsSeen l (count ks) (flat_shape seen) × (IsTracing k p1 rest × HasNamed k a a1 (own_due k s.home n t l ks) names)

    pub prim_goes : (q : Primitive) → type_at k.setting.table t ≡ Some (def.Prim q) → (w : ℕ) → w ≡ width q
        → ((o : Primitive) (vs : Option (List ℤ)) (z : ℤ) (later : List Entry) → IsTracing k p (entry_at s n (Align w) ∷ entry_at s n (Num o vs z) ∷ later)
        → IfOk r (λ seen. (flat_shape seen ≡ (tree.Num z, 0)) × IsTracing k p1 later)) → IfOk r (Comes a)
    prim_goes q de w we f =
        let (z, (le, go)) = prim_case k s.home n p rest ready t (type_at k.setting.table t) l ks tr q de in
        IfOk-weaker r (λ seen. (flat_shape seen ≡ (tree.Num z, 0)) × IsTracing k p1 rest) (Comes a)
        (λ seen o. num_out k s.home n t ks rest names a p1 (type_at k.setting.table t) l z q de le nm (flat_shape seen) o.0 o.1)
        (f q None z rest (subst (λ v. IsTracing k p (entry_at s n (Align v) ∷ entry_at s n (Num q None z) ∷ rest)) (sym we) go))

    pub enum_goes : (values : List ℤ) → type_at k.setting.table t ≡ Some (def.Enum values)
        → ((o : Primitive) (vs : Option (List ℤ)) (z : ℤ) (later : List Entry) → IsTracing k p (entry_at s n (Align 2) ∷ entry_at s n (Num o vs z) ∷ later)
        → IfOk r (λ seen. (flat_shape seen ≡ (tree.Num z, 0)) × IsTracing k p1 later)) → IfOk r (Comes a)
    enum_goes values de f =
        let (z, (le, go)) = enum_case k s.home n p rest ready t (type_at k.setting.table t) l ks tr values de in
        IfOk-weaker r (λ seen. (flat_shape seen ≡ (tree.Num z, 0)) × IsTracing k p1 rest) (Comes a)
        (λ seen o. enum_out k s.home n t ks rest names a p1 (type_at k.setting.table t) l z values de le nm (flat_shape seen) o.0 o.1) (f Short (Some values) z rest go)

    pub struct_goes : (members : List Field) → type_at k.setting.table t ≡ Some (def.Struct members) → (w : ℕ) → w ≡ align_of k.setting.table t
        → ((later : List Entry) → IsTracing k p (entry_at s n (Align w) ∷ later) → IfOk r (λ seen. ((flat_shape seen).0 ≡ tree.Rec) × IsTracing k p1 later)) → IfOk r (Comes a)
    struct_goes members de w we f =
        let (le, go) = struct_case k s.home n p rest ready t (type_at k.setting.table t) l ks tr members de in
        IfOk-weaker r (λ seen. ((flat_shape seen).0 ≡ tree.Rec) × IsTracing k p1 rest) (Comes a)
        (λ seen o. struct_out k s.home n t ks rest names a p1 (type_at k.setting.table t) l members de le nm (flat_shape seen) o.0 o.1)
        (f rest (subst (λ v. IsTracing k p (entry_at s n (Align v) ∷ rest)) (sym we) go))

    pub text_goes : (elem : TypeId) (bound : Option ℕ) → type_at k.setting.table t ≡ Some (def.Text elem bound)
        → ((m : ℕ) (os : List ℕ) → label_in (home_flats k.graph s.home) n ≡ Some (tree.Text m os) → (later : List Entry)
        → IsTracing k p (entry_at s n (Align 4) ∷ entry_at s n (Offset true 0) ∷ entry_at s n (Actual true 0 m (length os + 1)) ∷ entry_at s n (Text os) ∷ later)
        → IfOk r (λ seen. (flat_shape seen ≡ (tree.Ptr None, 0)) × IsTracing k p1 later)) → IfOk r (Comes a)
    text_goes elem bound de f =
        let (m, (os, (le, go))) = text_case k s.home n p rest ready t (type_at k.setting.table t) l ks tr elem bound de in
        IfOk-weaker r (λ seen. (flat_shape seen ≡ (tree.Ptr None, 0)) × IsTracing k p1 rest) (Comes a)
        (λ seen o. text_out k s.home n t ks rest names a p1 (type_at k.setting.table t) l elem bound m os de le nm (flat_shape seen) o.0 o.1)
        (f m os (node.label_is ∙ ap (λ x. Some x) le) rest go)

    pub union_goes : (tag : TypeId) (enc : Bool) (arms : List Arm) (default : Option Arm) → type_at k.setting.table t ≡ Some (def.Union tag enc arms default)
        → (w : ℕ) → w ≡ width_by (type_at k.setting.table tag.0)
        → ((o : Primitive) (vs : Option (List ℤ)) (z : ℤ) (later : List Entry) → IsTracing k p (entry_at s n (Align w) ∷ entry_at s n (Tag o vs arms default z) ∷ later)
        → IfOk r (λ seen. (flat_shape seen ≡ (tree.Union z, length (selected_types (selected arms default z)))) × IsTracing k p1 later)) → IfOk r (Comes a)
    union_goes tag enc arms default de w we f =
        let (z, (le, (q, (vs, go)))) = union_case k s.home n p rest ready t (type_at k.setting.table t) l ks tr tag enc arms default de in
        let not : l ≡ tree.Unread → ⊥ = λ e. (let x : tree.Union z ≡ tree.Unread = sym le ∙ e in cc) in
        let read = read_of k max t l ks node.own not in
        IfOk-weaker r (λ seen. (flat_shape seen ≡ (tree.Union z, length (selected_types (selected arms default z)))) × IsTracing k p1 rest) (Comes a)
        (λ seen o. union_out k s.home n t ks rest names a p1 (type_at k.setting.table t) l tag enc arms default z de le read.children nm (flat_shape seen) o.0 o.1)
        (f q vs z rest (subst (λ v. IsTracing k p (entry_at s n (Align v) ∷ entry_at s n (Tag q vs arms default z) ∷ rest)) (sym we) go))

    pub context_goes : type_at k.setting.table t ≡ Some def.Context
        → ((b : ℕ) (id : List ℕ) → label_in (home_flats k.graph s.home) n ≡ Some (tree.Context b id) → (later : List Entry)
        → IsTracing k p (entry_at s n (Align 4) ∷ entry_at s n (Context b id) ∷ later)
        → IfOk r (λ seen. (flat_shape seen ≡ (tree.Ptr None, 0)) × IsTracing k p1 later)) → IfOk r (Comes a)
    context_goes de f =
        let (b, (id, (le, go))) = context_case k s.home n p rest ready t (type_at k.setting.table t) l ks tr de in
        IfOk-weaker r (λ seen. (flat_shape seen ≡ (tree.Ptr None, 0)) × IsTracing k p1 rest) (Comes a)
        (λ seen o. context_out k s.home n t ks rest names a p1 (type_at k.setting.table t) l b id de le nm (flat_shape seen) o.0 o.1)
        (f b id (node.label_is ∙ ap (λ x. Some x) le) rest go)

    pub pointer_goes : (class : Class) (to : TypeId) → type_at k.setting.table t ≡ Some (def.Pointer class to) → (a1 : Cells)
        → ((c : Option ℕ) → IsFine k.graph class to.0 c → (later : List Entry)
        → IsTracing k p (entry_at s n (Align 4) ∷ entry_at s n (Number class to.0 c) ∷ later) → (others : Placed_cells)
        → IsNaming k a (named_by (Number class to.0 c) ++ others)
        → IfOk r (λ seen. (flat_shape seen ≡ (tree.Ptr c, 0)) × (IsTracing k p1 later × HasNamed k a a1 (entry_at s n (Number class to.0 c) ∷ []) others))) → IfOk r (Comes a1)
    pointer_goes class to de a1 f =
        let (c, (le, go)) = pointer_case k s.home n p rest ready t (type_at k.setting.table t) l ks tr class to de in
        let not : l ≡ tree.Unread → ⊥ = λ e. (let x : tree.Ptr c ≡ tree.Unread = sym le ∙ e in cc) in
        let read = read_of k max t l ks node.own not in
        let fine =
        fine_pointer k.graph class to c (ap₂ is_no_null_ref (sym de) (sym le) ∙ read.no_null) (ap (names_cell k.graph) (sym le) ∙ read.cell)
        (ap₂ (names_pointee k.graph) (sym de) (sym le) ∙ read.pointee) in
        IfOk-weaker r (λ seen. (flat_shape seen ≡ (tree.Ptr c, 0)) × (IsTracing k p1 rest × HasNamed k a a1 (entry_at s n (Number class to.0 c) ∷ []) names)) (Comes a1)
        (λ seen o. pointer_out k s.home n t ks rest names a p1 (type_at k.setting.table t) l class to c de le a1 (flat_shape seen) o.0 o.1.0 o.1.1)
        (f c fine rest go names (pointer_named k s.home n t ks rest names a p1 (type_at k.setting.table t) l class to c de le nm))

    -- of an array, whose limit is the maximum count
    array_by : (elem : TypeId) (bound : Option ℕ) (varying : Bool) → type_at k.setting.table t ≡ Some (def.Array elem bound varying) → (m offset : ℕ) → l ≡ tree.Arr m offset
        → (limit : ℕ) → limit ≡ unwrap_or bound max → hoists k.setting.table t ≡ hoists_by (hoists k.setting.table) (type_at k.setting.table t)
        → has_counts (Some (def.Array elem bound varying)) (tree.Arr m offset) ks ≡ true → is_bound bound m ≡ true → limit ≡ m
    array_by elem bound varying de m offset le limit is legal counts bounded =
        is_bound_of bound max m limit bounded
        (λ none.
        let own = node.own.max_is (legal ∙ ap (hoists_by (hoists k.setting.table)) (de ∙ ap (λ b. Some (def.Array elem b varying)) none)) in
        ap (λ x. own_max x max) (sym le) ∙ own) is

    read_counts : (elem : TypeId) (bound : Option ℕ) (varying : Bool) → type_at k.setting.table t ≡ Some (def.Array elem bound varying) → (m offset : ℕ) → l ≡ tree.Arr m offset
        → has_counts (Some (def.Array elem bound varying)) (tree.Arr m offset) ks ≡ true
    read_counts elem bound varying de m offset le =
        let not : l ≡ tree.Unread → ⊥ = λ e. (let x : tree.Arr m offset ≡ tree.Unread = sym le ∙ e in cc) in
        ap₂ (λ x y. has_counts x y ks) (sym de) (sym le) ∙ (read_of k max t l ks node.own not).counts

    pub array_goes : (elem : TypeId) (bound : Option ℕ) → type_at k.setting.table t ≡ Some (def.Array elem bound true) → (limit : ℕ) → limit ≡ unwrap_or bound max
        → hoists k.setting.table t ≡ hoists_by (hoists k.setting.table) (type_at k.setting.table t)
        → ((offset most actual : ℕ) (later : List Entry)
        → IsTracing k p (entry_at s n (Align 4) ∷ entry_at s n (Offset false offset) ∷ entry_at s n (Actual false offset most actual) ∷ later)
        → IfOk r (λ seen. (flat_shape seen ≡ (tree.Arr limit offset, actual)) × IsTracing k p1 later)) → IfOk r (Comes a)
    array_goes elem bound de limit is legal f =
        let (m, (offset, (le, go))) = array_case k s.home n p rest ready t (type_at k.setting.table t) l ks tr elem bound true de in
        let counts = read_counts elem bound true de m offset le in
        let same : limit ≡ m = array_by elem bound true de m offset le limit is legal counts counts in
        IfOk-weaker r (λ seen. (flat_shape seen ≡ (tree.Arr limit offset, count ks)) × IsTracing k p1 rest) (Comes a)
        (λ seen o.
        array_out k s.home n t ks rest names a p1 (type_at k.setting.table t) l elem bound true m offset de le nm (flat_shape seen)
        (o.0 ∙ ap (λ x. (tree.Arr x offset, count ks)) same) o.1)
        (f offset m (count ks) rest go)

    pub fixed_goes : (elem : TypeId) (bound : Option ℕ) → type_at k.setting.table t ≡ Some (def.Array elem bound false) → (limit : ℕ) → limit ≡ unwrap_or bound max
        → hoists k.setting.table t ≡ hoists_by (hoists k.setting.table) (type_at k.setting.table t)
        → IfOk r (λ seen. (flat_shape seen ≡ (tree.Arr limit 0, limit)) × (p1 ≡ p)) → IfOk r (Comes a)
    fixed_goes elem bound de limit is legal f =
        let (m, (offset, (le, go))) = array_case k s.home n p rest ready t (type_at k.setting.table t) l ks tr elem bound false de in
        let counts = read_counts elem bound false de m offset le in
        let (first, whole) = and_parts (is_bound bound m && eqb offset 0) (eqb (count ks) m) counts in
        let (bounded, none) = and_parts (is_bound bound m) (eqb offset 0) first in
        let same : limit ≡ m = array_by elem bound false de m offset le limit is legal counts bounded in
        let no_offset : offset ≡ 0 = eqb-true offset 0 none in
        let all : count ks ≡ m = eqb-true (count ks) m whole in
        IfOk-weaker r (λ seen. (flat_shape seen ≡ (tree.Arr limit 0, limit)) × (p1 ≡ p)) (Comes a)
        (λ seen o.
        array_out k s.home n t ks rest names a p1 (type_at k.setting.table t) l elem bound false m offset de le nm (flat_shape seen)
        (o.0 ∙ ap₂ (λ x y. (tree.Arr x 0, y)) same (same ∙ sym all) ∙ ap (λ x. (tree.Arr m x, count ks)) (sym no_offset))
        (subst (λ q. IsTracing k q rest) (sym o.1) go))
        f

    pub any_array_goes : (elem : TypeId) (bound : Option ℕ) (varying : Bool) → type_at k.setting.table t ≡ Some (def.Array elem bound varying) → (limit : ℕ)
        → limit ≡ unwrap_or bound max → hoists k.setting.table t ≡ hoists_by (hoists k.setting.table) (type_at k.setting.table t)
        → (varying ≡ false → IfOk r (λ seen. (flat_shape seen ≡ (tree.Arr limit 0, limit)) × (p1 ≡ p)))
        → (varying ≡ true → (offset most actual : ℕ) (later : List Entry)
        → IsTracing k p (entry_at s n (Align 4) ∷ entry_at s n (Offset false offset) ∷ entry_at s n (Actual false offset most actual) ∷ later)
        → IfOk r (λ seen. (flat_shape seen ≡ (tree.Arr limit offset, actual)) × IsTracing k p1 later)) → IfOk r (Comes a)
    any_array_goes elem bound true de limit is legal fixed goes = array_goes elem bound de limit is legal (goes refl)
    any_array_goes elem bound false de limit is legal fixed goes = fixed_goes elem bound de limit is legal (fixed refl)

-- where no pointer became pending
pub paid_same : (p p1 : Progress) (a : Cells) (r : Result Shape Halt) → IfOk r (λ _. p.next ≤ p1.next) → IfOk r (λ _. HavePaid p a p1 a)
paid_same p p1 a r f = IfOk-weaker r (λ _. p.next ≤ p1.next) (λ _. HavePaid p a p1 a) (λ x le. (le, omega (arith, le))) f
