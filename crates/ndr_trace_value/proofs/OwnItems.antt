-- A node's own entries, by its type: if they can be due, its label has the form of the type.
-- `k` are the octets with the partial graph in which they are refused, `h` is a home, `n` a node's number, `t` its type's number, `d` the type, `l` its
-- label, `ks` are its children, `rest` are the entries after its own.
use Rattle.std.proofs.Common.{◌≡◌, ◌⊎◌, inl, inr, ◌∙◌, ℕ, zero, suc, ◌+◌, ◌<◌, ℤ, Bool, true, false, List, [], ◌∷◌, ◌++◌, drop, length, Option, Some, None, refl, sym, ap, ap₂, subst, append-nil}
use Rattle.std.proofs.Common.{arith}
use Rattle.std.specs.Prelude.{◌&&◌, eqb, leb, not, option_map, unwrap_or}
use Rattle.nd_value.specs.declared.value.CellId.{CellId}
use Rattle.nd_value.specs.Seen.{cell_number}
use Rattle.std.specs.List.{slice_get}
use Rattle.std.proofs.lemmas.Bool.{and_parts, eqb-true, leb-true}
use Rattle.nd_lemmas.proofs.Lists.{drop_next, item_at}
use Rattle.nd_types.specs.declared.types.Arm.{Arm}
use Rattle.nd_types.specs.declared.types.Class.{Class}
use Rattle.nd_types.specs.declared.types.Class.TheVariants.{Full, Ref, Unique}
use Rattle.nd_types.specs.declared.types.Field.{Field}
use Rattle.nd_types.specs.declared.types.Primitive.{Primitive}
use Rattle.nd_types.specs.declared.types.Primitive.TheVariants.{Short}
use Rattle.nd_types.specs.declared.types.TypeDef.{TypeDef}
use Rattle.nd_types.specs.declared.types.TypeDef.TheVariants as def
use Rattle.nd_types.specs.declared.types.TypeId.{TypeId}
use Rattle.nd_types.specs.Layout.{align_of}
use Rattle.nd_types.specs.Table.{Table, selected, type_at, width}
use Rattle.nd_value.specs.declared.item.Home.{Home}
use Rattle.nd_value.specs.declared.item.Item.{Item}
use Rattle.nd_value.specs.declared.value.Graph.{Graph}
use Rattle.nd_value.specs.Deferral.{Placed_cells}
use Rattle.nd_value.specs.Nodes.{child_types, selected_types}
use Rattle.nd_value.specs.Misfit.{is_bound, has_counts, has_type, is_no_null_ref, names_cell, names_pointee}
use Rattle.nd_value.specs.Setting.{cell_of_number}
use Rattle.nd_value.specs.Tree as tree
use Rattle.nd_value.specs.Tree.{Flat, Label, Referent, Trees, count}
use Rattle.nd_value.proofs.NodeFacts.{IsRead, IsReadOrNot, read_node}
use Rattle.nd_grammar.specs.Entry.{Actual, Align, Context, Entry, EntryAt, Kind, Num, Number, Offset, Tag, Text, Unread, end_to_end, size_at, before_children, counts, entries, tag_entries}
use Rattle.nd_grammar.specs.Stream.{Spells, piece}
use Rattle.ndr_trace_value.specs.Due.{NextDue, Stops}
use Rattle.ndr_trace_value.specs.Untested.{is_test, untested}
use Rattle.ndr_trace_value.proofs.Due.{never_unread, next_due}
use Rattle.ndr_trace_value.specs.declared.cells.Cells.{Cells}
use Rattle.ndr_trace_value.specs.declared.progress.Progress.{Progress}
use Rattle.ndr_trace_value.specs.Naming.{HasNamed, HasType, IsFine, IsNaming, named_by, names_in, pending_in}
use Rattle.ndr_trace_value.specs.Tracing.{IsTracing, Known}
use Rattle.ndr_trace_value.specs.Walking.{IsOwn, IsReady, IsSeen, width_by}

-- the same as `own_due`, by the type
abbrev pub due_by : Known → Home → ℕ → ℕ → Option TypeDef → Label → Trees → List Entry
due_by k h n t d l ks = untested (entries h n (before_children k.setting.table t d l ks))

module _ (k : Known) (h : Home) (n : ℕ) where
  abbrev own_entry : Kind → Entry
  own_entry x = record { home = h; node = n; kind = x }

  -- an unread value is not due while items are left, or where no agreement fails
  pub unread_due : (p : Progress) (rest : List Entry) → IsReady k p → IsTracing k p (own_entry Unread ∷ rest) → ⊥
  unread_due p rest ready tr = by_kind (is_test k.here.entry.kind) refl
    where
      due : Stops k.order k.fetched k.numbering k.here (record { at = p.at; entry = record { home = h; node = n; kind = Unread } } ∷ end_to_end (p.at + 0) rest)
          (drop p.next k.log)
      due = tr.due

      by_next : p.next < length k.log
          → NextDue k.order k.fetched k.numbering k.here (record { at = p.at; entry = record { home = h; node = n; kind = Unread } }) (end_to_end (p.at + 0) rest)
          (drop p.next k.log) → ⊥
      by_next l (inl went) = went.rendered.1
      by_next l (inr stopped) =
          let (i, got) = item_at k.log p.next l in
          let e : i ∷ drop (p.next + 1) k.log ≡ [] = sym (drop_next k.log p.next i got) ∙ stopped.none_left in
          cc

      by_kind : (b : Bool) → is_test k.here.entry.kind ≡ b → ⊥
      by_kind true e =
          by_next (ready e)
          (next_due k.order k.fetched k.numbering k.here (record { at = p.at; entry = record { home = h; node = n; kind = Unread } }) (end_to_end (p.at + 0) rest)
          (drop p.next k.log) due)
      by_kind false e =
          never_unread k.order k.fetched k.numbering k.here (record { at = p.at; entry = record { home = h; node = n; kind = Unread } }) (end_to_end (p.at + 0) rest)
          (drop p.next k.log) due e refl

  module _ (p : Progress) (rest : List Entry) (ready : IsReady k p) where
    never : {A : Type 0} → IsTracing k p (own_entry Unread ∷ rest) → A
    never tr = absurd (unread_due p rest ready tr)

    abbrev Due : ℕ → Option TypeDef → Label → Trees → Type 0
    Due t d l ks = IsTracing k p (untested (entries h n (before_children k.setting.table t d l ks)) ++ rest)

    -- ## The form of a label

    pub prim_form : (t : ℕ) (q : Primitive) (l : Label) (ks : Trees) → Due t (Some (def.Prim q)) l ks → (z : ℤ) × (l ≡ tree.Num z)
    prim_form t q (tree.Num z) ks tr = (z, refl)
    prim_form t q tree.Rec ks tr = never tr
    prim_form t q (tree.Arr max offset) ks tr = never tr
    prim_form t q (tree.Text max os) ks tr = never tr
    prim_form t q (tree.Union z) ks tr = never tr
    prim_form t q (tree.Ptr c) ks tr = never tr
    prim_form t q (tree.Context a id) ks tr = never tr
    prim_form t q tree.Pipe ks tr = never tr
    prim_form t q tree.Unread ks tr = never tr

    pub enum_form : (t : ℕ) (values : List ℤ) (l : Label) (ks : Trees) → Due t (Some (def.Enum values)) l ks → (z : ℤ) × (l ≡ tree.Num z)
    enum_form t values (tree.Num z) ks tr = (z, refl)
    enum_form t values tree.Rec ks tr = never tr
    enum_form t values (tree.Arr max offset) ks tr = never tr
    enum_form t values (tree.Text max os) ks tr = never tr
    enum_form t values (tree.Union z) ks tr = never tr
    enum_form t values (tree.Ptr c) ks tr = never tr
    enum_form t values (tree.Context a id) ks tr = never tr
    enum_form t values tree.Pipe ks tr = never tr
    enum_form t values tree.Unread ks tr = never tr

    pub struct_form : (t : ℕ) (members : List Field) (l : Label) (ks : Trees) → Due t (Some (def.Struct members)) l ks → l ≡ tree.Rec
    struct_form t members tree.Rec ks tr = refl
    struct_form t members (tree.Num z) ks tr = never tr
    struct_form t members (tree.Arr max offset) ks tr = never tr
    struct_form t members (tree.Text max os) ks tr = never tr
    struct_form t members (tree.Union z) ks tr = never tr
    struct_form t members (tree.Ptr c) ks tr = never tr
    struct_form t members (tree.Context a id) ks tr = never tr
    struct_form t members tree.Pipe ks tr = never tr
    struct_form t members tree.Unread ks tr = never tr

    pub array_form : (t : ℕ) (elem : TypeId) (bound : Option ℕ) (varying : Bool) (l : Label) (ks : Trees) → Due t (Some (def.Array elem bound varying)) l ks
        → (max : ℕ) × ((offset : ℕ) × (l ≡ tree.Arr max offset))
    array_form t elem bound varying (tree.Arr max offset) ks tr = (max, (offset, refl))
    array_form t elem bound varying (tree.Num z) ks tr = never tr
    array_form t elem bound varying tree.Rec ks tr = never tr
    array_form t elem bound varying (tree.Text max os) ks tr = never tr
    array_form t elem bound varying (tree.Union z) ks tr = never tr
    array_form t elem bound varying (tree.Ptr c) ks tr = never tr
    array_form t elem bound varying (tree.Context a id) ks tr = never tr
    array_form t elem bound varying tree.Pipe ks tr = never tr
    array_form t elem bound varying tree.Unread ks tr = never tr

    pub text_form : (t : ℕ) (elem : TypeId) (bound : Option ℕ) (l : Label) (ks : Trees) → Due t (Some (def.Text elem bound)) l ks
        → (max : ℕ) × ((os : List ℕ) × (l ≡ tree.Text max os))
    text_form t elem bound (tree.Text max os) ks tr = (max, (os, refl))
    text_form t elem bound (tree.Num z) ks tr = never tr
    text_form t elem bound tree.Rec ks tr = never tr
    text_form t elem bound (tree.Arr max offset) ks tr = never tr
    text_form t elem bound (tree.Union z) ks tr = never tr
    text_form t elem bound (tree.Ptr c) ks tr = never tr
    text_form t elem bound (tree.Context a id) ks tr = never tr
    text_form t elem bound tree.Pipe ks tr = never tr
    text_form t elem bound tree.Unread ks tr = never tr

    pub union_form : (t : ℕ) (tag : TypeId) (enc : Bool) (arms : List Arm) (default : Option Arm) (l : Label) (ks : Trees)
        → Due t (Some (def.Union tag enc arms default)) l ks → (z : ℤ) × (l ≡ tree.Union z)
    union_form t tag enc arms default (tree.Union z) ks tr = (z, refl)
    union_form t tag enc arms default (tree.Num z) ks tr = never tr
    union_form t tag enc arms default tree.Rec ks tr = never tr
    union_form t tag enc arms default (tree.Arr max offset) ks tr = never tr
    union_form t tag enc arms default (tree.Text max os) ks tr = never tr
    union_form t tag enc arms default (tree.Ptr c) ks tr = never tr
    union_form t tag enc arms default (tree.Context a id) ks tr = never tr
    union_form t tag enc arms default tree.Pipe ks tr = never tr
    union_form t tag enc arms default tree.Unread ks tr = never tr

    pub pointer_form : (t : ℕ) (class : Class) (to : TypeId) (l : Label) (ks : Trees) → Due t (Some (def.Pointer class to)) l ks
        → (c : Option ℕ) × (l ≡ tree.Ptr c)
    pointer_form t class to (tree.Ptr c) ks tr = (c, refl)
    pointer_form t class to (tree.Num z) ks tr = never tr
    pointer_form t class to tree.Rec ks tr = never tr
    pointer_form t class to (tree.Arr max offset) ks tr = never tr
    pointer_form t class to (tree.Text max os) ks tr = never tr
    pointer_form t class to (tree.Union z) ks tr = never tr
    pointer_form t class to (tree.Context a id) ks tr = never tr
    pointer_form t class to tree.Pipe ks tr = never tr
    pointer_form t class to tree.Unread ks tr = never tr

    pub context_form : (t : ℕ) (l : Label) (ks : Trees) → Due t (Some def.Context) l ks → (a : ℕ) × ((id : List ℕ) × (l ≡ tree.Context a id))
    context_form t (tree.Context a id) ks tr = (a, (id, refl))
    context_form t (tree.Num z) ks tr = never tr
    context_form t tree.Rec ks tr = never tr
    context_form t (tree.Arr max offset) ks tr = never tr
    context_form t (tree.Text max os) ks tr = never tr
    context_form t (tree.Union z) ks tr = never tr
    context_form t (tree.Ptr c) ks tr = never tr
    context_form t tree.Pipe ks tr = never tr
    context_form t tree.Unread ks tr = never tr

    -- a type of which no value is due
    pub pipe_form : {A : Type 0} (t : ℕ) (elem : TypeId) (l : Label) (ks : Trees) → Due t (Some (def.Pipe elem)) l ks → A
    pipe_form t elem (tree.Num z) ks tr = never tr
    pipe_form t elem tree.Rec ks tr = never tr
    pipe_form t elem (tree.Arr max offset) ks tr = never tr
    pipe_form t elem (tree.Text max os) ks tr = never tr
    pipe_form t elem (tree.Union z) ks tr = never tr
    pipe_form t elem (tree.Ptr c) ks tr = never tr
    pipe_form t elem (tree.Context a id) ks tr = never tr
    pipe_form t elem tree.Pipe ks tr = never tr
    pipe_form t elem tree.Unread ks tr = never tr

    pub no_form : {A : Type 0} (t : ℕ) (l : Label) (ks : Trees) → Due t None l ks → A
    no_form t l ks tr = never tr

    -- the tag of a union
    pub tag_form : (d : Option TypeDef) (arms : List Arm) (default : Option Arm) (z : ℤ)
        → IsTracing k p (untested (entries h n (tag_entries d arms default z)) ++ rest)
        → (q : Primitive) × ((values : Option (List ℤ)) × IsTracing k p (own_entry (Align (width_by d)) ∷ own_entry (Tag q values arms default z) ∷ rest))
    tag_form (Some (def.Prim q)) arms default z tr = (q, (None, tr))
    tag_form (Some (def.Enum values)) arms default z tr = (Short, (Some values, tr))
    tag_form None arms default z tr = never tr
    tag_form (Some (def.Struct members)) arms default z tr = never tr
    tag_form (Some (def.Array elem bound varying)) arms default z tr = never tr
    tag_form (Some (def.Text elem bound)) arms default z tr = never tr
    tag_form (Some (def.Union tag enc arms1 default1)) arms default z tr = never tr
    tag_form (Some (def.Pointer class to)) arms default z tr = never tr
    tag_form (Some def.Context) arms default z tr = never tr
    tag_form (Some (def.Pipe elem)) arms default z tr = never tr

-- ## The entries that are due then

module _ (k : Known) (h : Home) (n : ℕ) (p : Progress) (rest : List Entry) (ready : IsReady k p) (t : ℕ) (d : Option TypeDef) (l : Label) (ks : Trees)
    (tr : IsTracing k p (due_by k h n t d l ks ++ rest)) where
  abbrev at_node : Kind → Entry
  at_node x = record { home = h; node = n; kind = x }

  by_type : (e : Option TypeDef) → d ≡ e → IsTracing k p (due_by k h n t e l ks ++ rest)
  by_type e de = subst (λ x. IsTracing k p (due_by k h n t x l ks ++ rest)) de tr

  by_both : (e : Option TypeDef) → d ≡ e → (m : Label) → l ≡ m → IsTracing k p (due_by k h n t e m ks ++ rest)
  by_both e de m le = subst (λ x. IsTracing k p (due_by k h n t e x ks ++ rest)) le (by_type e de)

  pub prim_case : (q : Primitive) → d ≡ Some (def.Prim q)
      → (z : ℤ) × ((l ≡ tree.Num z) × IsTracing k p (at_node (Align (width q)) ∷ at_node (Num q None z) ∷ rest))
  prim_case q de = let (z, le) = prim_form k h n p rest ready t q l ks (by_type (Some (def.Prim q)) de) in (z, (le, by_both (Some (def.Prim q)) de (tree.Num z) le))

  pub enum_case : (values : List ℤ) → d ≡ Some (def.Enum values)
      → (z : ℤ) × ((l ≡ tree.Num z) × IsTracing k p (at_node (Align 2) ∷ at_node (Num Short (Some values) z) ∷ rest))
  enum_case values de =
      let (z, le) = enum_form k h n p rest ready t values l ks (by_type (Some (def.Enum values)) de) in (z, (le, by_both (Some (def.Enum values)) de (tree.Num z) le))

  pub struct_case : (members : List Field) → d ≡ Some (def.Struct members) → (l ≡ tree.Rec) × IsTracing k p (at_node (Align (align_of k.setting.table t)) ∷ rest)
  struct_case members de =
      let le = struct_form k h n p rest ready t members l ks (by_type (Some (def.Struct members)) de) in (le, by_both (Some (def.Struct members)) de tree.Rec le)

  pub array_case : (elem : TypeId) (bound : Option ℕ) (varying : Bool) → d ≡ Some (def.Array elem bound varying)
      → (max : ℕ) × ((offset : ℕ) × ((l ≡ tree.Arr max offset) × IsTracing k p (untested (entries h n (counts varying max offset (count ks))) ++ rest)))
  array_case elem bound varying de =
      let (max, (offset, le)) = array_form k h n p rest ready t elem bound varying l ks (by_type (Some (def.Array elem bound varying)) de) in
      (max, (offset, (le, by_both (Some (def.Array elem bound varying)) de (tree.Arr max offset) le)))

  pub text_case : (elem : TypeId) (bound : Option ℕ) → d ≡ Some (def.Text elem bound)
      → (max : ℕ) × ((os : List ℕ) × ((l ≡ tree.Text max os)
      × IsTracing k p (at_node (Align 4) ∷ at_node (Offset true 0) ∷ at_node (Actual true 0 max (length os + 1)) ∷ at_node (Text os) ∷ rest)))
  text_case elem bound de =
      let (max, (os, le)) = text_form k h n p rest ready t elem bound l ks (by_type (Some (def.Text elem bound)) de) in
      (max, (os, (le, by_both (Some (def.Text elem bound)) de (tree.Text max os) le)))

  pub union_case : (tag : TypeId) (enc : Bool) (arms : List Arm) (default : Option Arm) → d ≡ Some (def.Union tag enc arms default)
      → (z : ℤ) × ((l ≡ tree.Union z) × ((q : Primitive) × ((values : Option (List ℤ))
      × IsTracing k p (at_node (Align (width_by (type_at k.setting.table tag.0))) ∷ at_node (Tag q values arms default z) ∷ rest))))
  union_case tag enc arms default de =
      let (z, le) = union_form k h n p rest ready t tag enc arms default l ks (by_type (Some (def.Union tag enc arms default)) de) in
      (z, (le, tag_form k h n p rest ready (type_at k.setting.table tag.0) arms default z (by_both (Some (def.Union tag enc arms default)) de (tree.Union z) le)))

  pub pointer_case : (class : Class) (to : TypeId) → d ≡ Some (def.Pointer class to)
      → (c : Option ℕ) × ((l ≡ tree.Ptr c) × IsTracing k p (at_node (Align 4) ∷ at_node (Number class to.0 c) ∷ rest))
  pointer_case class to de =
      let (c, le) = pointer_form k h n p rest ready t class to l ks (by_type (Some (def.Pointer class to)) de) in
      (c, (le, by_both (Some (def.Pointer class to)) de (tree.Ptr c) le))

  pub context_case : d ≡ Some def.Context
      → (a : ℕ) × ((id : List ℕ) × ((l ≡ tree.Context a id) × IsTracing k p (at_node (Align 4) ∷ at_node (Context a id) ∷ rest)))
  context_case de =
      let (a, (id, le)) = context_form k h n p rest ready t l ks (by_type (Some def.Context) de) in (a, (id, (le, by_both (Some def.Context) de (tree.Context a id) le)))

-- ## What is named

-- no pointer, so no cell is named
pub same_cells : (k : Known) (u : Cells) (due : List Entry) (names : Placed_cells) → names_in due ≡ [] → pending_in k due ≡ [] → IsNaming k u (names_in due ++ names)
    → HasNamed k u u due names
same_cells k u due names e f g = record {
  naming = subst (λ xs. IsNaming k u (xs ++ names)) e g;
  pending = sym (ap (λ xs. u.pending.items ++ xs) f ∙ append-nil u.pending.items);
  stands = refl;
}

typed_cell : (g : Graph) (c t : ℕ) → (not (eqb c 0) && leb c (length g.cells)) ≡ true → has_type (cell_of_number g c) t ≡ true → HasType g c t
typed_cell g zero t b e = cc
typed_cell g (suc i) t b e =
    let (none, within) = and_parts (not (eqb (suc i) 0)) (leb (suc i) (length g.cells)) b in
    let below : i < length g.cells = let w = leb-true (suc i) (length g.cells) within in omega (arith, w) in
    let (y, got) = item_at g.cells i below in
    (y, got, eqb-true y.of t (ap (λ o. has_type o t) (sym got) ∙ e))

-- a pointer of a partial graph
pub fine_pointer : (g : Graph) (class : Class) (to : TypeId) (c : Option ℕ) → is_no_null_ref (Some (def.Pointer class to)) (tree.Ptr c) ≡ true
    → names_cell g (tree.Ptr c) ≡ true → names_pointee g (Some (def.Pointer class to)) (tree.Ptr c) ≡ true → IsFine g class to.0 c
fine_pointer g Ref to None a b e = cc
fine_pointer g Unique to None a b e = tt
fine_pointer g Full to None a b e = tt
fine_pointer g Ref to (Some c) a b e = typed_cell g c to.0 b e
fine_pointer g Unique to (Some c) a b e = typed_cell g c to.0 b e
fine_pointer g Full to (Some c) a b e = typed_cell g c to.0 b e

pub cell_named : (r : Option CellId) → cell_number r ≡ option_map (λ (c : CellId). c.0) r
cell_named None = refl
cell_named (Some c) = refl

-- ## What comes of it

module _ (k : Known) (h : Home) (n t : ℕ) (ks : Trees) (rest : List Entry) (names : Placed_cells) (a : Cells) (p1 : Progress) where
  -- what own items come to
  abbrev pub Out : Option TypeDef → Label → Cells → Flat → Type 0
  Out d l a1 f = IsSeen l (count ks) f × (IsTracing k p1 rest × HasNamed k a a1 (due_by k h n t d l ks) names)

  -- of a node that names nothing
  pub quiet : (d e : Option TypeDef) (l m : Label) → d ≡ e → l ≡ m → names_in (due_by k h n t e m ks) ≡ [] → pending_in k (due_by k h n t e m ks) ≡ []
      → IsNaming k a (names_in (due_by k h n t d l ks) ++ names) → (f : Flat) → IsSeen m (count ks) f → IsTracing k p1 rest → Out d l a f
  quiet d e l m de le none none1 nm f seen tr = (
    subst (λ x. IsSeen x (count ks) f) (sym le) seen,
    (
      tr,
      same_cells k a (due_by k h n t d l ks) names (ap₂ (λ x y. names_in (due_by k h n t x y ks)) de le ∙ none) (ap₂ (λ x y. pending_in k (due_by k h n t x y ks)) de le ∙ none1) nm,
    ),
  )

  pub num_out : (d : Option TypeDef) (l : Label) (z : ℤ) (q : Primitive) → d ≡ Some (def.Prim q) → l ≡ tree.Num z → IsNaming k a (names_in (due_by k h n t d l ks) ++ names)
      → (f : Flat) → f ≡ (tree.Num z, 0) → IsTracing k p1 rest → Out d l a f
  num_out d l z q de le nm f e tr = quiet d (Some (def.Prim q)) l (tree.Num z) de le refl refl nm f e tr

  pub enum_out : (d : Option TypeDef) (l : Label) (z : ℤ) (values : List ℤ) → d ≡ Some (def.Enum values) → l ≡ tree.Num z
      → IsNaming k a (names_in (due_by k h n t d l ks) ++ names) → (f : Flat) → f ≡ (tree.Num z, 0) → IsTracing k p1 rest → Out d l a f
  enum_out d l z values de le nm f e tr = quiet d (Some (def.Enum values)) l (tree.Num z) de le refl refl nm f e tr

  pub struct_out : (d : Option TypeDef) (l : Label) (members : List Field) → d ≡ Some (def.Struct members) → l ≡ tree.Rec
      → IsNaming k a (names_in (due_by k h n t d l ks) ++ names) → (f : Flat) → f.0 ≡ tree.Rec → IsTracing k p1 rest → Out d l a f
  struct_out d l members de le nm f e tr = quiet d (Some (def.Struct members)) l tree.Rec de le refl refl nm f e tr

  no_array_names : (elem : TypeId) (bound : Option ℕ) (varying : Bool) (max offset : ℕ) → names_in (due_by k h n t (Some (def.Array elem bound varying)) (tree.Arr max offset) ks) ≡ []
  no_array_names elem bound true max offset = refl
  no_array_names elem bound false max offset = refl

  no_array_pending : (elem : TypeId) (bound : Option ℕ) (varying : Bool) (max offset : ℕ)
      → pending_in k (due_by k h n t (Some (def.Array elem bound varying)) (tree.Arr max offset) ks) ≡ []
  no_array_pending elem bound true max offset = refl
  no_array_pending elem bound false max offset = refl

  pub array_out : (d : Option TypeDef) (l : Label) (elem : TypeId) (bound : Option ℕ) (varying : Bool) (max offset : ℕ) → d ≡ Some (def.Array elem bound varying)
      → l ≡ tree.Arr max offset → IsNaming k a (names_in (due_by k h n t d l ks) ++ names) → (f : Flat) → f ≡ (tree.Arr max offset, count ks) → IsTracing k p1 rest
      → Out d l a f
  array_out d l elem bound varying max offset de le nm f e tr =
      quiet d (Some (def.Array elem bound varying)) l (tree.Arr max offset) de le (no_array_names elem bound varying max offset) (no_array_pending elem bound varying max offset) nm f e tr

  pub text_out : (d : Option TypeDef) (l : Label) (elem : TypeId) (bound : Option ℕ) (max : ℕ) (os : List ℕ) → d ≡ Some (def.Text elem bound) → l ≡ tree.Text max os
      → IsNaming k a (names_in (due_by k h n t d l ks) ++ names) → (f : Flat) → f ≡ (tree.Ptr None, 0) → IsTracing k p1 rest → Out d l a f
  text_out d l elem bound max os de le nm f e tr = quiet d (Some (def.Text elem bound)) l (tree.Text max os) de le refl refl nm f e tr

  no_tag_names : (e : Option TypeDef) (arms : List Arm) (default : Option Arm) (z : ℤ) → names_in (untested (entries h n (tag_entries e arms default z))) ≡ []
  no_tag_names (Some (def.Prim q)) arms default z = refl
  no_tag_names (Some (def.Enum values)) arms default z = refl
  no_tag_names _ arms default z = refl

  no_tag_pending : (e : Option TypeDef) (arms : List Arm) (default : Option Arm) (z : ℤ) → pending_in k (untested (entries h n (tag_entries e arms default z))) ≡ []
  no_tag_pending (Some (def.Prim q)) arms default z = refl
  no_tag_pending (Some (def.Enum values)) arms default z = refl
  no_tag_pending _ arms default z = refl

  pub union_out : (d : Option TypeDef) (l : Label) (tag : TypeId) (enc : Bool) (arms : List Arm) (default : Option Arm) (z : ℤ) → d ≡ Some (def.Union tag enc arms default)
      → l ≡ tree.Union z → count ks ≡ length (child_types d l ks) → IsNaming k a (names_in (due_by k h n t d l ks) ++ names) → (f : Flat)
      → f ≡ (tree.Union z, length (selected_types (selected arms default z))) → IsTracing k p1 rest → Out d l a f
  union_out d l tag enc arms default z de le children nm f e tr =
      quiet d (Some (def.Union tag enc arms default)) l (tree.Union z) de le (no_tag_names (type_at k.setting.table tag.0) arms default z)
      (no_tag_pending (type_at k.setting.table tag.0) arms default z) nm f
      (e ∙ ap (λ m. (tree.Union z, m)) (sym (children ∙ ap₂ (λ x y. length (child_types x y ks)) de le))) tr

  pub context_out : (d : Option TypeDef) (l : Label) (b : ℕ) (id : List ℕ) → d ≡ Some def.Context → l ≡ tree.Context b id
      → IsNaming k a (names_in (due_by k h n t d l ks) ++ names) → (f : Flat) → f ≡ (tree.Ptr None, 0) → IsTracing k p1 rest → Out d l a f
  context_out d l b id de le nm f e tr = quiet d (Some def.Context) l (tree.Context b id) de le refl refl nm f e tr

  -- of a pointer
  pub pointer_named : (d : Option TypeDef) (l : Label) (class : Class) (to : TypeId) (c : Option ℕ) → d ≡ Some (def.Pointer class to) → l ≡ tree.Ptr c
      → IsNaming k a (names_in (due_by k h n t d l ks) ++ names) → IsNaming k a (named_by (Number class to.0 c) ++ names)
  pointer_named d l class to c de le nm =
      subst (λ xs. IsNaming k a (xs ++ names)) (ap₂ (λ x y. names_in (due_by k h n t x y ks)) de le ∙ append-nil (named_by (Number class to.0 c))) nm

  pub pointer_out : (d : Option TypeDef) (l : Label) (class : Class) (to : TypeId) (c : Option ℕ) → d ≡ Some (def.Pointer class to) → l ≡ tree.Ptr c → (a1 : Cells) (f : Flat)
      → f ≡ (tree.Ptr c, 0) → IsTracing k p1 rest → HasNamed k a a1 (record { home = h; node = n; kind = Number class to.0 c } ∷ []) names → Out d l a1 f
  pointer_out d l class to c de le a1 f e tr named = (
    subst (λ x. IsSeen x (count ks) f) (sym le) e,
    (
      tr,
      record {
        naming = named.naming;
        pending = named.pending ∙ ap (λ ps. a.pending.items ++ ps) (sym (ap₂ (λ x y. pending_in k (due_by k h n t x y ks)) de le));
        stands = named.stands;
      },
    ),
  )

-- a node of a partial graph that is no unread value
pub read_of : (k : Known) (max t : ℕ) (l : Label) (ks : Trees) → IsOwn k max t l ks → (l ≡ tree.Unread → ⊥) → IsRead k.setting.table k.graph t l ks
read_of k max t l ks own not = by_kind (read_node k.setting.table k.graph (record { node = 0; of = t; agreements = []; label = l; kids = ks }) own.partial)
  where
    by_kind : IsReadOrNot k.setting.table k.graph t l ks → IsRead k.setting.table k.graph t l ks
    by_kind (inl u) = absurd (not u)
    by_kind (inr r) = r

pub is_bound_of : (bound : Option ℕ) (max m limit : ℕ) → is_bound bound m ≡ true → (bound ≡ None → m ≡ max) → limit ≡ unwrap_or bound max → limit ≡ m
is_bound_of None max m limit b e f = f ∙ sym (e refl)
is_bound_of (Some c) max m limit b e f = f ∙ sym (eqb-true m c b)
