-- The cells that the entries of values name are those of their pointers.
-- `h` is a home, `t` a type's number, `n` a node's number, `l` its label, `ks` are its children, `ts` values, `p` a pointer, `x` an entry.
use Rattle.std.proofs.Common.{◌≡◌, ◌∙◌, ℕ, ◌+◌, ℤ, Bool, true, false, List, [], ◌∷◌, ◌++◌, Option, Some, None, refl, sym, ap, ap₂, flat_map}
use Rattle.std.proofs.lemmas.Grind.{flat_map-append}
use Rattle.nd_types.specs.declared.types.Arm.{Arm}
use Rattle.nd_types.specs.declared.types.TypeDef.{TypeDef}
use Rattle.nd_types.specs.declared.types.TypeDef.TheVariants as def
use Rattle.nd_types.specs.Layout.{hoists}
use Rattle.nd_types.specs.Table.{Table, type_at}
use Rattle.nd_value.specs.declared.item.Home.{Home}
use Rattle.nd_value.specs.Agreement.{Agreement}
use Rattle.nd_value.specs.Deferral.{Pending as Pointer, Placed_cells, home_pointers, pointer, pointer_by}
use Rattle.nd_value.specs.Nodes.{TypedNode, child_agreements, child_types, first_agreements, nodes_of, rest_agreements}
use Rattle.nd_value.specs.Tree as tree
use Rattle.nd_value.specs.Tree.{Label, Tree, Trees, cell_in, is_pointer, more, node, node_count, none}
use Rattle.nd_grammar.specs.Entry.{Entry, Kind, before_children, counts, entries, hoisted, hoisted_max, in_place, tag_entries, whole_value}
use Rattle.ndr_trace_value.specs.Untested.{kept_if, is_test, plain, untested}
use Rattle.ndr_trace_value.proofs.Untested.{untested_append, untested_values}
use Rattle.ndr_trace_value.specs.declared.cells.Pending.{Pending}
use Rattle.ndr_trace.specs.Homes.{names_all, pending_all}
use Rattle.ndr_trace_value.specs.Tracing.{Known}
use Rattle.ndr_trace_value.specs.Naming.{named_by, names_in, names_of, pending_by, pending_in, pending_of}

module _ (table : Table) (h : Home) where
  -- ## Names

  counts_name : (n : ℕ) (varying : Bool) (max offset k : ℕ) → names_in (untested (entries h n (counts varying max offset k))) ≡ []
  counts_name n true max offset k = refl
  counts_name n false max offset k = refl

  tag_names : (n : ℕ) (d : Option TypeDef) (arms : List Arm) (default : Option Arm) (z : ℤ) → names_in (untested (entries h n (tag_entries d arms default z))) ≡ []
  tag_names n (Some (def.Prim p)) arms default z = refl
  tag_names n (Some (def.Enum values)) arms default z = refl
  tag_names n _ arms default z = refl

  own_names : (n t : ℕ) (d : Option TypeDef) (l : Label) (ks : Trees) (ags : List Agreement)
      → names_in (untested (entries h n (before_children table t d l ks))) ≡ names_all (pointer_by d (is_pointer l) (cell_in l) h n ags)
  own_names n t (Some (def.Pointer class to)) (tree.Ptr c) ks ags = refl
  own_names n t (Some (def.Pointer class to)) _ ks ags = refl
  own_names n t (Some (def.Array elem bound varying)) (tree.Arr max offset) ks ags = counts_name n varying max offset _
  own_names n t (Some (def.Array elem bound varying)) _ ks ags = refl
  own_names n t (Some (def.Union tag encapsulated arms default)) (tree.Union z) ks ags = tag_names n (type_at table tag.0) arms default z
  own_names n t (Some (def.Union tag encapsulated arms default)) _ ks ags = refl
  own_names n t (Some (def.Prim p)) (tree.Num z) ks ags = refl
  own_names n t (Some (def.Prim p)) _ ks ags = refl
  own_names n t (Some (def.Enum values)) (tree.Num z) ks ags = refl
  own_names n t (Some (def.Enum values)) _ ks ags = refl
  own_names n t (Some (def.Struct members)) tree.Rec ks ags = refl
  own_names n t (Some (def.Struct members)) _ ks ags = refl
  own_names n t (Some (def.Text elem bound)) (tree.Text max octets) ks ags = refl
  own_names n t (Some (def.Text elem bound)) _ ks ags = refl
  own_names n t (Some def.Context) (tree.Context b id) ks ags = refl
  own_names n t (Some def.Context) _ ks ags = refl
  own_names n t (Some (def.Pipe elem)) l ks ags = refl
  own_names n t None l ks ags = refl

  pub plain_names : (types : List ℕ) (ags : List (List Agreement)) (n : ℕ) (ts : Trees)
      → names_in (plain table h types n ts) ≡ names_all (flat_map (pointer table h) (nodes_of table types ags n ts))
  plain_names types ags n none = refl
  plain_names [] ags n (more t ts) = refl
  plain_names (t ∷ types) ags n (more (node l ks) ts) =
      let d : Option TypeDef = type_at table t in
      let own : List Entry = untested (entries h n (before_children table t d l ks)) in
      let kids : List Entry = plain table h (child_types d l ks) (n + 1) ks in
      let rest : List Entry = plain table h types (n + 1 + node_count ks) ts in
      let K : List TypedNode = nodes_of table (child_types d l ks) (child_agreements d ks) (n + 1) ks in
      let R : List TypedNode = nodes_of table types (rest_agreements ags) (n + 1 + node_count ks) ts in
      let its : List Pointer = pointer_by d (is_pointer l) (cell_in l) h n (first_agreements ags) in
      flat_map-append (λ (m : Entry). named_by m.kind) own (kids ++ rest) ∙ ap (λ xs. names_in own ++ xs) (flat_map-append (λ (m : Entry). named_by m.kind) kids rest)
      ∙ ap₂ (λ xs ys. xs ++ ys) (own_names n t d l ks (first_agreements ags))
      (ap₂ (λ xs ys. xs ++ ys) (plain_names (child_types d l ks) (child_agreements d ks) (n + 1) ks) (plain_names types (rest_agreements ags) (n + 1 + node_count ks) ts)
      ∙ sym (flat_map-append (λ (p : Pointer). names_of p.class p.cell) (flat_map (pointer table h) K) (flat_map (pointer table h) R)) ∙ ap names_all (sym (flat_map-append (pointer table h) K R)))
      ∙ sym (flat_map-append (λ (p : Pointer). names_of p.class p.cell) its (flat_map (pointer table h) (K ++ R)))

  -- ## Pending pointers

  counts_wait : (k : Known) (n : ℕ) (varying : Bool) (max offset c : ℕ) → pending_in k (untested (entries h n (counts varying max offset c))) ≡ []
  counts_wait k n true max offset c = refl
  counts_wait k n false max offset c = refl

  tag_waits : (k : Known) (n : ℕ) (d : Option TypeDef) (arms : List Arm) (default : Option Arm) (z : ℤ) → pending_in k (untested (entries h n (tag_entries d arms default z))) ≡ []
  tag_waits k n (Some (def.Prim p)) arms default z = refl
  tag_waits k n (Some (def.Enum values)) arms default z = refl
  tag_waits k n _ arms default z = refl

  own_waits : (k : Known) (n t : ℕ) (d : Option TypeDef) (l : Label) (ks : Trees) (ags : List Agreement)
      → pending_in k (untested (entries h n (before_children table t d l ks))) ≡ pending_all k (pointer_by d (is_pointer l) (cell_in l) h n ags)
  own_waits k n t (Some (def.Pointer class to)) (tree.Ptr c) ks ags = refl
  own_waits k n t (Some (def.Pointer class to)) _ ks ags = refl
  own_waits k n t (Some (def.Array elem bound varying)) (tree.Arr max offset) ks ags = counts_wait k n varying max offset _
  own_waits k n t (Some (def.Array elem bound varying)) _ ks ags = refl
  own_waits k n t (Some (def.Union tag encapsulated arms default)) (tree.Union z) ks ags = tag_waits k n (type_at table tag.0) arms default z
  own_waits k n t (Some (def.Union tag encapsulated arms default)) _ ks ags = refl
  own_waits k n t (Some (def.Prim p)) (tree.Num z) ks ags = refl
  own_waits k n t (Some (def.Prim p)) _ ks ags = refl
  own_waits k n t (Some (def.Enum values)) (tree.Num z) ks ags = refl
  own_waits k n t (Some (def.Enum values)) _ ks ags = refl
  own_waits k n t (Some (def.Struct members)) tree.Rec ks ags = refl
  own_waits k n t (Some (def.Struct members)) _ ks ags = refl
  own_waits k n t (Some (def.Text elem bound)) (tree.Text max octets) ks ags = refl
  own_waits k n t (Some (def.Text elem bound)) _ ks ags = refl
  own_waits k n t (Some def.Context) (tree.Context b id) ks ags = refl
  own_waits k n t (Some def.Context) _ ks ags = refl
  own_waits k n t (Some (def.Pipe elem)) l ks ags = refl
  own_waits k n t None l ks ags = refl

  pub plain_waits : (k : Known) (types : List ℕ) (ags : List (List Agreement)) (n : ℕ) (ts : Trees)
      → pending_in k (plain table h types n ts) ≡ pending_all k (flat_map (pointer table h) (nodes_of table types ags n ts))
  plain_waits k types ags n none = refl
  plain_waits k [] ags n (more t ts) = refl
  plain_waits k (t ∷ types) ags n (more (node l ks) ts) =
      let d : Option TypeDef = type_at table t in
      let own : List Entry = untested (entries h n (before_children table t d l ks)) in
      let kids : List Entry = plain table h (child_types d l ks) (n + 1) ks in
      let rest : List Entry = plain table h types (n + 1 + node_count ks) ts in
      let K : List TypedNode = nodes_of table (child_types d l ks) (child_agreements d ks) (n + 1) ks in
      let R : List TypedNode = nodes_of table types (rest_agreements ags) (n + 1 + node_count ks) ts in
      let its : List Pointer = pointer_by d (is_pointer l) (cell_in l) h n (first_agreements ags) in
      flat_map-append (λ (m : Entry). pending_by k m.home m.node m.kind) own (kids ++ rest)
      ∙ ap (λ xs. pending_in k own ++ xs) (flat_map-append (λ (m : Entry). pending_by k m.home m.node m.kind) kids rest)
      ∙ ap₂ (λ xs ys. xs ++ ys) (own_waits k n t d l ks (first_agreements ags))
      (ap₂ (λ xs ys. xs ++ ys) (plain_waits k (child_types d l ks) (child_agreements d ks) (n + 1) ks) (plain_waits k types (rest_agreements ags) (n + 1 + node_count ks) ts)
      ∙ sym (flat_map-append (λ (p : Pointer). pending_of k p.home p.node p.class p.to p.cell) (flat_map (pointer table h) K) (flat_map (pointer table h) R))
      ∙ ap (pending_all k) (sym (flat_map-append (pointer table h) K R)))
      ∙ sym (flat_map-append (λ (p : Pointer). pending_of k p.home p.node p.class p.to p.cell) its (flat_map (pointer table h) (K ++ R)))

  -- ## A home's value

  -- a maximum count in front names nothing
  front_names : (b : Bool) (l : Label) (m : ℕ) → names_in (untested (entries h 0 (hoisted b l m))) ≡ []
  front_names false l m = refl
  front_names true tree.Unread m = refl
  front_names true _ m = refl

  front_waits : (k : Known) (b : Bool) (l : Label) (m : ℕ) → pending_in k (untested (entries h 0 (hoisted b l m))) ≡ []
  front_waits k false l m = refl
  front_waits k true tree.Unread m = refl
  front_waits k true _ m = refl

  -- the entries of a home's value: its maximum count, and those of its nodes
  pub home_parts : (t : ℕ) (l : Label) (ks : Trees) → untested (whole_value table h t (node l ks))
      ≡ untested (entries h 0 (hoisted (hoists table t) l (hoisted_max 0 (more (node l ks) none)))) ++ plain table h (t ∷ []) 0 (more (node l ks) none)
  home_parts t l ks =
      let front : List Entry = entries h 0 (hoisted (hoists table t) l (hoisted_max 0 (more (node l ks) none))) in
      untested_append front (in_place table h (t ∷ []) 0 (more (node l ks) none))
      ∙ ap (λ xs. untested front ++ xs) (untested_values table h (t ∷ []) 0 (more (node l ks) none))

  pub home_names : (t : ℕ) (v : Tree) → names_in (untested (whole_value table h t v)) ≡ names_all (home_pointers table h t v)
  home_names t (node l ks) =
      let front : List Entry = entries h 0 (hoisted (hoists table t) l (hoisted_max 0 (more (node l ks) none))) in
      ap names_in (home_parts t l ks) ∙ flat_map-append (λ (m : Entry). named_by m.kind) (untested front) (plain table h (t ∷ []) 0 (more (node l ks) none))
      ∙ ap (λ xs. xs ++ names_in (plain table h (t ∷ []) 0 (more (node l ks) none))) (front_names (hoists table t) l (hoisted_max 0 (more (node l ks) none)))
      ∙ plain_names (t ∷ []) [] 0 (more (node l ks) none)

  pub home_waits : (k : Known) (t : ℕ) (v : Tree) → pending_in k (untested (whole_value table h t v)) ≡ pending_all k (home_pointers table h t v)
  home_waits k t (node l ks) =
      let front : List Entry = entries h 0 (hoisted (hoists table t) l (hoisted_max 0 (more (node l ks) none))) in
      ap (pending_in k) (home_parts t l ks) ∙ flat_map-append (λ (m : Entry). pending_by k m.home m.node m.kind) (untested front) (plain table h (t ∷ []) 0 (more (node l ks) none))
      ∙ ap (λ xs. xs ++ pending_in k (plain table h (t ∷ []) 0 (more (node l ks) none))) (front_waits k (hoists table t) l (hoisted_max 0 (more (node l ks) none)))
      ∙ plain_waits k (t ∷ []) [] 0 (more (node l ks) none)
