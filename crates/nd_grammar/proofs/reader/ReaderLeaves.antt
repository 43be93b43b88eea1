-- The pointers of values that are read: each names a cell that is there, and they share cells only if they are full.
use Rattle.std.proofs.Common.{◌≡◌, ℕ, ◌+◌, ◌-◌, zero, suc, ℤ, Bool, true, false, List, [], ◌∷◌, ◌++◌, Option, Some, None, refl, ap, sym, ◌∙◌, subst, replicate, append_assoc}
use Rattle.std.specs.Prelude.{pos, map, flat_map, not, ◌&&◌}
use Rattle.std.specs.List.{AllByRecursion}
use Rattle.std.proofs.lemmas.List.{length-replicate}
use Rattle.std.proofs.lemmas.Grind.{flat_map-append}
use Rattle.nd_base.specs.declared.octets.Order.{Order}
use Rattle.nd_types.specs.declared.types.TypeDef.{TypeDef}
use Rattle.nd_types.specs.declared.types.TypeId.{TypeId}
use Rattle.nd_types.specs.declared.types.Arm.{Arm}
use Rattle.nd_types.specs.declared.types.TypeDef.TheVariants as def
use Rattle.nd_types.specs.declared.types.Primitive.{Primitive}
use Rattle.nd_types.specs.declared.types.Primitive.TheVariants.{Short}
use Rattle.nd_types.specs.Table.{Table, type_at, width}
use Rattle.nd_types.specs.Layout.{parts, hoists, align_of}
use Rattle.nd_value.specs.declared.item.Home.{Home}
use Rattle.nd_value.specs.Tree as tree
use Rattle.nd_value.specs.Tree.{Tree, Trees, node, none, more, Label, count, node_count, is_pointer, cell_in}
use Rattle.nd_value.specs.Agreement.{Agreement}
use Rattle.nd_value.specs.Setting.{unread}
use Rattle.nd_value.specs.Nodes.{TypedNode, nodes_of, child_types, child_agreements, first_agreements, rest_agreements}
use Rattle.nd_value.specs.Deferral.{Pending, pointer, pointer_by}
use Rattle.nd_grammar.specs.Entry.{Kind, Entry, Align, Offset, Actual, Number, Num, Tag, Text, Context, child_tests}
use Rattle.nd_grammar.specs.Reader.{Progress, Names, Read, ReadAll, is_stopped, pass, taken, number_in, value_in, text_in, attributes_in, identifier_in, read_if, read_list, tree_nodes, read_children}
use Rattle.nd_grammar.specs.Reader.{read_array, read_text, read_tagged, read_context, read_number, read_by, read_in_place, bound_or}
use Rattle.nd_grammar.proofs.next.Mapped.{in_parts}
use Rattle.nd_grammar.proofs.reader.ReaderInPlace.{Readable, list_read, Reads, in_place_read}
use Rattle.nd_grammar.proofs.reader.ReaderNames.{Extends, extends_itself, extends_twice, linked_pass, linked_all, no_pointers_ok, pointers_joined}
use Rattle.nd_grammar.specs.ReaderState.{Linked, PointersOk}
use Rattle.nd_grammar.proofs.reader.ReaderNamed.{named_ok}

-- the pointers of one value, from node k on
abbrev pub value_pointers : Table → Home → Option TypeDef → ℕ → List Agreement → Tree → List Pending
value_pointers table h d k ags (node l ks) =
    pointer_by d (is_pointer l) (cell_in l) h k ags ++ flat_map (pointer table h) (nodes_of table (child_types d l ks) (child_agreements d ks) (k + 1) ks)

pub after_value : Tree → ℕ → ℕ
after_value (node l ks) k = k + 1 + node_count ks

pub first_value : (table : Table) (h : Home) (t : ℕ) (types : List ℕ) (ags : List (List Agreement)) (k : ℕ) (v : Tree) (ts : Trees)
    → flat_map (pointer table h) (nodes_of table (t ∷ types) ags k (more v ts))
    ≡ value_pointers table h (type_at table t) k (first_agreements ags) v ++ flat_map (pointer table h) (nodes_of table types (rest_agreements ags) (after_value v k) ts)
unfolding after_value
first_value table h t types ags k (node l ks) ts =
    let d : Option TypeDef = type_at table t in
    let own : List Pending = pointer_by d (is_pointer l) (cell_in l) h k (first_agreements ags) in
    let K : List TypedNode = nodes_of table (child_types d l ks) (child_agreements d ks) (k + 1) ks in
    let R : List TypedNode = nodes_of table types (rest_agreements ags) (k + 1 + node_count ks) ts in
    ap (λ u. own ++ u) (flat_map-append (pointer table h) K R) ∙ sym (append_assoc own (flat_map (pointer table h) K) (flat_map (pointer table h) R))

pub no_pointer_unread : (d : Option TypeDef) (h : Home) (k : ℕ) (ags : List Agreement) → pointer_by d false None h k ags ≡ []
no_pointer_unread (Some (def.Pointer c to)) h k ags = refl
no_pointer_unread None h k ags = refl
no_pointer_unread (Some _) h k ags = refl

module _ (order : Order) (octets : List ℕ) (table : Table) (h : Home) where
  abbrev E : ℕ → Kind → Entry
  E n k = record { home = h; node = n; kind = k }

  abbrev L : Progress → Names → Type 0
  L p s = Linked order octets p s

  -- what reading a value leaves
  pub record Leaves (d : Option TypeDef) (p : Progress) (s : Names) (r : Read) : Type 0 where
    pub extends : Extends s r.names
    pub linked : Linked order octets p s → Linked order octets r.progress r.names
    pub pointers : Linked order octets p s → (k : ℕ) (ags : List Agreement) → PointersOk s r.names (value_pointers table h d k ags r.tree)

  pub record AllLeave (types : List ℕ) (p : Progress) (s : Names) (r : ReadAll) : Type 0 where
    pub extends : Extends s r.names
    pub linked : Linked order octets p s → Linked order octets r.progress r.names
    pub pointers : Linked order octets p s → (k : ℕ) (ags : List (List Agreement)) → PointersOk s r.names (flat_map (pointer table h) (nodes_of table types ags k r.trees))

  abbrev pub Leave : (ℕ → ℕ → Progress → Names → Read) → ℕ → Type 0
  Leave read t = (n : ℕ) (p : Progress) (s : Names) → Leaves (type_at table t) p s (read t n p s)

  pub unread_leaves : (d : Option TypeDef) (p : Progress) (s : Names) → Leaves d p s (record { tree = unread; progress = p; names = s })
  unread_leaves d p s = record {
    extends = extends_itself s;
    linked = λ l. l;
    pointers = λ l k ags. subst (λ u. PointersOk s s (u ++ [])) (sym (no_pointer_unread d h k ags)) (no_pointers_ok s s);
  }

  if_leaves : (read : ℕ → ℕ → Progress → Names → Read) (t n : ℕ) (p : Progress) (s : Names) → Leaves (type_at table t) p s (read t n p s) → (b : Bool)
      → Leaves (type_at table t) p s (read_if b (read t n) p s)
  if_leaves read t n p s law false = law
  if_leaves read t n p s law true = unread_leaves (type_at table t) p s

  pub list_leaves : (read : ℕ → ℕ → Progress → Names → Read) (types : List ℕ) → AllByRecursion (Leave read) types
      → (n : ℕ) (p : Progress) (s : Names) → AllLeave types p s (read_list table read types n p s)
  list_leaves read [] laws n p s = record { extends = extends_itself s; linked = λ l. l; pointers = λ l k ags. no_pointers_ok s s }
  list_leaves read (t ∷ types) laws n p s =
      let first : Read = read_if (is_stopped p.stop && not (hoists table t)) (read t n) p s in
      let others : ReadAll = read_list table read types (n + tree_nodes first.tree) first.progress first.names in
      let a : Leaves (type_at table t) p s first = if_leaves read t n p s (laws.0 n p s) (is_stopped p.stop && not (hoists table t)) in
      let b : AllLeave types first.progress first.names others = list_leaves read types laws.1 (n + tree_nodes first.tree) first.progress first.names in
      record {
        extends = extends_twice s first.names others.names a.extends b.extends;
        linked = λ l. b.linked (a.linked l);
        pointers = λ l k ags.
            subst (PointersOk s others.names) (sym (first_value table h t types ags k first.tree others.trees))
            (pointers_joined s first.names others.names (value_pointers table h (type_at table t) k (first_agreements ags) first.tree)
            (flat_map (pointer table h) (nodes_of table types (rest_agreements ags) (after_value first.tree k) others.trees)) a.extends b.extends
            (a.pointers l k (first_agreements ags)) (b.pointers (a.linked l) (after_value first.tree k) (rest_agreements ags)));
      }

  children_leave : (read : ℕ → ℕ → Progress → Names → Read) (d : Option TypeDef) (n : ℕ) (l : Label) (types : List ℕ) (p0 p : Progress) (s : Names)
      → AllByRecursion (Leave read) types
      → child_types d l (read_list table read types (n + 1) p s).trees ≡ types
      → ((k : ℕ) (ags : List Agreement) → pointer_by d (is_pointer l) (cell_in l) h k ags ≡ [])
      → (L p0 s → L p s)
      → Leaves d p0 s (read_children order octets table h read d n l types p s)
  children_leave read d n l types p0 p s laws same none_own before =
      let kids : ReadAll = read_list table read types (n + 1) p s in
      let a : AllLeave types p s kids = list_leaves read types laws (n + 1) p s in
      record {
        extends = a.extends;
        linked = λ x. linked_all order octets kids.progress kids.names (child_tests h (child_agreements d kids.trees) (n + 1) kids.trees) (a.linked (before x));
        pointers = λ x k ags.
            subst (λ u. PointersOk s kids.names (u ++ flat_map (pointer table h) (nodes_of table (child_types d l kids.trees) (child_agreements d kids.trees) (k + 1) kids.trees)))
            (sym (none_own k ags))
            (subst (λ u. PointersOk s kids.names (flat_map (pointer table h) (nodes_of table u (child_agreements d kids.trees) (k + 1) kids.trees))) (sym same)
            (a.pointers (before x) (k + 1) (child_agreements d kids.trees)));
      }

  pub passes : (p : Progress) (s : Names) (m m' : Entry) → L p s → L (pass order octets m' (pass order octets m p)) s
  passes p s m m' l = linked_pass order octets (pass order octets m p) s m' (linked_pass order octets p s m l)

  array_leaves : (read : ℕ → ℕ → Progress → Names → Read) (elem : TypeId) (bound : Option ℕ) (varying : Bool) (max n : ℕ) (p : Progress) (s : Names)
      → Leave read elem.0 → ((m : ℕ) (q : Progress) → count (read_list table read (replicate m elem.0) (n + 1) q s).trees ≡ m)
      → Leaves (Some (def.Array elem bound varying)) p s (read_array order octets table h read (Some (def.Array elem bound varying)) varying max elem.0 n p s)
  array_leaves read elem bound false max n p s law c =
      children_leave read (Some (def.Array elem bound false)) n (tree.Arr max 0) (replicate max elem.0) p p s (many max) (ap (λ u. replicate u elem.0) (c max p)) (λ k ags. refl) (λ l. l)
    where
      many : (m : ℕ) → AllByRecursion (Leave read) (replicate m elem.0)
      many zero = tt
      many (suc m) = (law, many m)
  array_leaves read elem bound true max n p s law c =
      let gap : Progress = pass order octets (E n (Align 4)) p in
      let o : ℕ = number_in order octets (taken order octets (E n (Offset false 0)) gap) in
      let behind : Progress = pass order octets (E n (Offset false o)) gap in
      let m : ℕ = number_in order octets (taken order octets (E n (Actual false o max 0)) behind) in
      let q : Progress = pass order octets (E n (Actual false o max m)) behind in
      children_leave read (Some (def.Array elem bound true)) n (tree.Arr max o) (replicate m elem.0) p q s (many m) (ap (λ u. replicate u elem.0) (c m q)) (λ k ags. refl)
      (λ l. linked_pass order octets behind s (E n (Actual false o max m)) (passes p s (E n (Align 4)) (E n (Offset false o)) l))
    where
      many : (m : ℕ) → AllByRecursion (Leave read) (replicate m elem.0)
      many zero = tt
      many (suc m) = (law, many m)

  union_leaves : (read : ℕ → ℕ → Progress → Names → Read) (tag : TypeId) (enc : Bool) (arms : List Arm) (default : Option Arm) (n : ℕ) (p : Progress) (s : Names)
      → ((v : ℤ) → AllByRecursion (Leave read) (child_types (Some (def.Union tag enc arms default)) (tree.Union v) none)) → (dt : Option TypeDef)
      → Leaves (Some (def.Union tag enc arms default)) p s (read_tagged order octets table h read (Some (def.Union tag enc arms default)) dt n arms default p s)
  union_leaves read tag enc arms default n p s laws (Some (def.Prim q)) =
      let gap : Progress = pass order octets (E n (Align (width q))) p in
      let z : ℤ = value_in order octets q (taken order octets (E n (Tag q None arms default (pos 0))) gap) in
      let d : Option TypeDef = Some (def.Union tag enc arms default) in
      children_leave read d n (tree.Union z) (child_types d (tree.Union z) none) p (pass order octets (E n (Tag q None arms default z)) gap) s (laws z) refl (λ k ags. refl)
      (λ l. passes p s (E n (Align (width q))) (E n (Tag q None arms default z)) l)
  union_leaves read tag enc arms default n p s laws (Some (def.Enum vs)) =
      let gap : Progress = pass order octets (E n (Align 2)) p in
      let z : ℤ = value_in order octets Short (taken order octets (E n (Tag Short (Some vs) arms default (pos 0))) gap) in
      let d : Option TypeDef = Some (def.Union tag enc arms default) in
      children_leave read d n (tree.Union z) (child_types d (tree.Union z) none) p (pass order octets (E n (Tag Short (Some vs) arms default z)) gap) s (laws z) refl (λ k ags. refl)
      (λ l. passes p s (E n (Align 2)) (E n (Tag Short (Some vs) arms default z)) l)
  union_leaves read tag enc arms default n p s laws None = unread_leaves (Some (def.Union tag enc arms default)) p s
  union_leaves read tag enc arms default n p s laws (Some _) = unread_leaves (Some (def.Union tag enc arms default)) p s

  -- a value without pointers
  bare_leaves : (d : Option TypeDef) (l : Label) (p q : Progress) (s : Names) → ((k : ℕ) (ags : List Agreement) → pointer_by d (is_pointer l) (cell_in l) h k ags ≡ [])
      → (L p s → L q s) → Leaves d p s (record { tree = node l none; progress = q; names = s })
  bare_leaves d l p q s none_own before = record {
    extends = extends_itself s;
    linked = before;
    pointers = λ x k ags. subst (λ u. PointersOk s s (u ++ [])) (sym (none_own k ags)) (no_pointers_ok s s);
  }

  number_leaves : (d : Option TypeDef) (q : Primitive) (vs : Option (List ℤ)) (n : ℕ) (p : Progress) (s : Names)
      → ((z : ℤ) (k : ℕ) (ags : List Agreement) → pointer_by d (is_pointer (tree.Num z)) (cell_in (tree.Num z)) h k ags ≡ [])
      → Leaves d p s (read_number order octets table h n q vs p s)
  number_leaves d q vs n p s none_own =
      let gap : Progress = pass order octets (E n (Align (width q))) p in
      let z : ℤ = value_in order octets q (taken order octets (E n (Num q vs (pos 0))) gap) in
      bare_leaves d (tree.Num z) p (pass order octets (E n (Num q vs z)) gap) s (none_own z) (λ l. passes p s (E n (Align (width q))) (E n (Num q vs z)) l)

  text_leaves : (elem : TypeId) (bound : Option ℕ) (max n : ℕ) (p : Progress) (s : Names) → Leaves (Some (def.Text elem bound)) p s (read_text order octets table h max n p s)
  text_leaves elem bound max n p s =
      let gap : Progress = pass order octets (E n (Align 4)) p in
      let behind : Progress = pass order octets (E n (Offset true 0)) gap in
      let c : ℕ = number_in order octets (taken order octets (E n (Actual true 0 max 0)) behind) in
      let counted : Progress = pass order octets (E n (Actual true 0 max (c - 1 + 1))) behind in
      let os : List ℕ = text_in order octets (c - 1) (taken order octets (E n (Text (replicate (c - 1) 0))) counted) in
      bare_leaves (Some (def.Text elem bound)) (tree.Text max os) p (pass order octets (E n (Text os)) counted) s (λ k ags. refl)
      (λ l. passes behind s (E n (Actual true 0 max (c - 1 + 1))) (E n (Text os)) (passes p s (E n (Align 4)) (E n (Offset true 0)) l))

  context_leaves : (n : ℕ) (p : Progress) (s : Names) → Leaves (Some def.Context) p s (read_context order octets table h n p s)
  context_leaves n p s =
      let gap : Progress = pass order octets (E n (Align 4)) p in
      let os : Option (List ℕ) = taken order octets (E n (Context 0 [])) gap in
      let a : ℕ = attributes_in order octets os in
      let id : List ℕ = identifier_in order octets os in
      bare_leaves (Some def.Context) (tree.Context a id) p (pass order octets (E n (Context a id)) gap) s (λ k ags. refl) (λ l. passes p s (E n (Align 4)) (E n (Context a id)) l)

  by_leaves : (read : ℕ → ℕ → Progress → Names → Read) (m t : ℕ) (d : TypeDef) (n : ℕ) (p : Progress) (s : Names)
      → AllByRecursion (Leave read) (parts (Some d)) → AllByRecursion (Reads order octets table h read) (parts (Some d))
      → Leaves (Some d) p s (read_by order octets table h read m t (Some d) n p s)
  by_leaves read m t (def.Prim q) n p s laws counts = number_leaves (Some (def.Prim q)) q None n p s (λ z k ags. refl)
  by_leaves read m t (def.Enum vs) n p s laws counts = number_leaves (Some (def.Enum vs)) Short (Some vs) n p s (λ z k ags. refl)
  by_leaves read m t (def.Struct ms) n p s laws counts =
      children_leave read (Some (def.Struct ms)) n tree.Rec (map (λ f. f.of.0) ms) p (pass order octets (E n (Align (align_of table t))) p) s laws refl (λ k ags. refl)
      (λ l. linked_pass order octets p s (E n (Align (align_of table t))) l)
  by_leaves read m t (def.Array elem bound varying) n p s laws counts =
      array_leaves read elem bound varying (bound_or bound m) n p s laws.0
      (λ c q. (list_read order octets table h read (replicate c elem.0) (many (Reads order octets table h read) elem.0 counts.0 c) (n + 1) q s).as_many ∙ length-replicate c elem.0)
    where
      many : (P : ℕ → Type 0) (e : ℕ) → P e → (c : ℕ) → AllByRecursion P (replicate c e)
      many P e a zero = tt
      many P e a (suc c) = (a, many P e a c)
  by_leaves read m t (def.Text elem bound) n p s laws counts = text_leaves elem bound (bound_or bound m) n p s
  by_leaves read m t (def.Union tag enc arms default) n p s laws counts =
      union_leaves read tag enc arms default n p s (λ v. in_parts (Leave read) (Some (def.Union tag enc arms default)) (tree.Union v) none laws) (type_at table tag.0)
  by_leaves read m t (def.Pointer c to) n p s laws counts =
      let gap : Progress = pass order octets (E n (Align 4)) p in
      let ok = named_ok order octets h n to.0 c gap s (taken order octets (E n (Number c to.0 None)) gap) refl in
      record {
        extends = ok.extends;
        linked = λ l. ok.linked (linked_pass order octets p s (E n (Align 4)) l);
        pointers = λ l k ags. ok.pointer (linked_pass order octets p s (E n (Align 4)) l) k ags;
      }
  by_leaves read m t def.Context n p s laws counts = context_leaves n p s
  by_leaves read m t (def.Pipe e) n p s laws counts = unread_leaves (Some (def.Pipe e)) p s

  -- The pointers of a value that is read in its place.
  pub in_place_leaves : (depth m t : ℕ) → Readable table depth t → Leave (read_in_place order octets table h depth m) t
  in_place_leaves zero m t r n p s = absurd r
  in_place_leaves (suc depth) m t (d, e, f, a) n p s =
      subst (λ u. Leaves u p s (read_by order octets table h (read_in_place order octets table h depth m) m t u n p s)) (sym e)
      (by_leaves (read_in_place order octets table h depth m) m t d n p s (all_leave (parts (Some d)) a (in_place_leaves depth m)) (all_counts (parts (Some d)) a))
    where
      all_leave : (ts : List ℕ) → AllByRecursion (Readable table depth) ts → ((t : ℕ) → Readable table depth t → Leave (read_in_place order octets table h depth m) t)
          → AllByRecursion (Leave (read_in_place order octets table h depth m)) ts
      all_leave [] a law = tt
      all_leave (t ∷ ts) a law = (law t a.0, all_leave ts a.1 law)

      all_counts : (ts : List ℕ) → AllByRecursion (Readable table depth) ts → AllByRecursion (Reads order octets table h (read_in_place order octets table h depth m)) ts
      all_counts [] a = tt
      all_counts (t ∷ ts) a = (in_place_read order octets table h depth m t a.0, all_counts ts a.1)
