-- The cells that the pointers of a value name, where the reader reads it: each for the first time as the next cell.
use Rattle.std.proofs.Common.{◌≡◌, ℕ, ◌+◌, ◌-◌, ◌<◌, ◌≤◌, inl, inr, zero, suc, ℤ, Bool, true, false, List, [], ◌∷◌, ◌++◌, length, Option, Some, None, refl, ap, sym, ◌∙◌, subst, replicate, arith}
use Rattle.std.specs.Prelude.{pos, map, flat_map, not, ◌&&◌, cond, eqb}
use Rattle.std.specs.List.{AllByRecursion}
use Rattle.std.proofs.lemmas.List.{length-replicate}
use Rattle.std.proofs.lemmas.Grind.{flat_map-append}
use Rattle.std.proofs.lemmas.Option.{same_Some}
use Rattle.nd_base.specs.declared.octets.Order.{Order}
use Rattle.nd_types.specs.declared.types.TypeDef.{TypeDef}
use Rattle.nd_types.specs.declared.types.TypeId.{TypeId}
use Rattle.nd_types.specs.declared.types.Arm.{Arm}
use Rattle.nd_types.specs.declared.types.TypeDef.TheVariants as def
use Rattle.nd_types.specs.declared.types.Class.{Class}
use Rattle.nd_types.specs.declared.types.Class.TheVariants.{Ref, Unique, Full}
use Rattle.nd_types.specs.declared.types.Primitive.TheVariants.{Short}
use Rattle.nd_types.specs.Table.{Table, type_at, width}
use Rattle.nd_types.specs.Layout.{parts, hoists, align_of}
use Rattle.nd_value.specs.declared.item.Home.{Home}
use Rattle.nd_value.specs.Tree as tree
use Rattle.nd_value.specs.Tree.{Tree, Trees, node, none, Label, count, is_pointer, cell_in}
use Rattle.nd_value.specs.Agreement.{Agreement}
use Rattle.nd_value.specs.Canon.{target}
use Rattle.nd_value.specs.Setting.{unread}
use Rattle.nd_value.specs.Nodes.{nodes_of, child_types, child_agreements, first_agreements, rest_agreements}
use Rattle.nd_value.specs.Deferral.{Pending, pointer, pointer_by, home_pointers}
use Rattle.nd_value.proofs.Apart.{all_weaker}
use Rattle.nd_grammar.specs.Entry.{Kind, Entry, Align, Max, Offset, Actual, Number, Tag, Text, Context}
use Rattle.nd_grammar.specs.Reader.{Progress, Names, Named, Read, ReadAll, is_stopped, pass, taken, number_in, value_in, fresh, with_cell, numbered, new_cell, full_by, named, read_if, read_list}
use Rattle.nd_grammar.specs.Reader.{tree_nodes, read_children, read_array, read_tagged, read_by, read_in_place, read_hoisted, read_whole, bound_or}
use Rattle.nd_grammar.proofs.next.Mapped.{in_parts}
use Rattle.nd_grammar.proofs.reader.ReaderInPlace.{Readable, list_read, Reads, in_place_read}
use Rattle.nd_grammar.proofs.reader.ReaderLeaves.{value_pointers, after_value, first_value, no_pointer_unread}
use Rattle.nd_grammar.proofs.reader.ReaderCells.{value_is}
use Rattle.ndr_decoder_laws.proofs.verdict.CellNumbers.{Counts, counts_both}
use Rattle.nd_grammar.proofs.reader.ReaderMoves.{one_more}

-- the cells that pointers name
abbrev pub cells_of : List Pending → List ℕ
cells_of ps = flat_map (λ p. target p.cell) ps

-- the cells of the numbers of full pointers are there
abbrev IsThere : ℕ → ℕ × ℕ → Type 0
IsThere n x = (0 < x.1) × (x.1 ≤ n)

abbrev pub AreThere : Names → Type 0
AreThere s = AllByRecursion (IsThere (length s.cells)) s.numbers

there_later : (n m : ℕ) → n ≤ m → (xs : List (ℕ × ℕ)) → AllByRecursion (IsThere n) xs → AllByRecursion (IsThere m) xs
there_later n m h xs a = all_weaker (IsThere n) (IsThere m) (λ x k. (k.0, omega (arith, k.1))) xs a

-- what naming cells leaves
pub record NamesSo (s s' : Names) (cs : List ℕ) : Type 0 where
  pub there : AreThere s'
  pub counts : Counts (length s.cells) cs (length s'.cells)

no_names : (s : Names) → AreThere s → NamesSo s s []
no_names s a = record { there = a; counts = refl }

both_named : (a b c : Names) (xs ys : List ℕ) → NamesSo a b xs → NamesSo b c ys → NamesSo a c (xs ++ ys)
both_named a b c xs ys x y = record { there = y.there; counts = counts_both (length a.cells) (length b.cells) (length c.cells) xs ys x.counts y.counts }

pub cell_more : (to : ℕ) (s : Names) → AreThere s → NamesSo s (with_cell to s) (fresh to s ∷ [])
cell_more to s a =
    let n = one_more to s in
    record {
      there = there_later (length s.cells) (length (with_cell to s).cells) (omega (arith, n)) s.numbers a;
      counts = inr (omega arith, omega (arith, n));
    }

number_there : (n : ℕ) (xs : List (ℕ × ℕ)) (v c : ℕ) → AllByRecursion (IsThere n) xs → numbered xs v ≡ Some c → (0 < c) × (c ≤ n)
number_there n [] v c a e = cc
number_there n (x ∷ xs) v c a e = go (eqb x.0 v) e (number_there n xs v c a.1)
  where
    go : (b : Bool) → cond b (Some x.1) (numbered xs v) ≡ Some c → (numbered xs v ≡ Some c → (0 < c) × (c ≤ n)) → (0 < c) × (c ≤ n)
    go true f law = subst (λ k. (0 < k) × (k ≤ n)) (same_Some _ _ f) a.0
    go false f law = law f

full_named : (o : Option ℕ) (v to : ℕ) (s : Names) → numbered s.numbers v ≡ o → AreThere s → NamesSo s (full_by o v to s).names (target (full_by o v to s).cell)
full_named (Some c) v to s e a = let k = number_there (length s.cells) s.numbers v c a e in record { there = a; counts = inl (k.0, k.1, refl) }
full_named None v to s e a =
    let n = one_more to s in
    let m = cell_more to s a in
    record { there = ((omega arith, omega (arith, n)), m.there); counts = m.counts }

-- the cell that a pointer's number names
pub named_so : (k : Class) (to : ℕ) (os : Option (List ℕ)) (v : ℕ) (s : Names) → AreThere s → NamesSo s (named k to os v s).names (target (named k to os v s).cell)
named_so Ref to os v s a = cell_more to s a
named_so Unique to None v s a = no_names s a
named_so Full to None v s a = no_names s a
named_so Unique to (Some os) v s a = go (eqb v 0)
  where
    go : (b : Bool) → NamesSo s (cond b (record { cell = None; names = s }) (new_cell to s)).names (target (cond b (record { cell = None; names = s }) (new_cell to s)).cell)
    go true = no_names s a
    go false = cell_more to s a
named_so Full to (Some os) v s a = go (eqb v 0)
  where
    go : (b : Bool) → NamesSo s (cond b (record { cell = None; names = s }) (full_by (numbered s.numbers v) v to s)).names
        (target (cond b (record { cell = None; names = s }) (full_by (numbered s.numbers v) v to s)).cell)
    go true = no_names s a
    go false = full_named (numbered s.numbers v) v to s refl a

module _ (order : Order) (octets : List ℕ) (table : Table) (h : Home) where
  abbrev E : ℕ → Kind → Entry
  E n k = record { home = h; node = n; kind = k }

  -- the pointers of a value, and of values
  abbrev Names_value : Option TypeDef → Names → Tree → Names → Type 0
  Names_value d s v s' = AreThere s → (k : ℕ) (ags : List Agreement) → NamesSo s s' (cells_of (value_pointers table h d k ags v))

  abbrev Names_all : List ℕ → Names → Trees → Names → Type 0
  Names_all types s ts s' = AreThere s → (k : ℕ) (ags : List (List Agreement)) → NamesSo s s' (cells_of (flat_map (pointer table h) (nodes_of table types ags k ts)))

  abbrev Name : (ℕ → ℕ → Progress → Names → Read) → ℕ → Type 0
  Name read t = (n : ℕ) (p : Progress) (s : Names) → Names_value (type_at table t) s (read t n p s).tree (read t n p s).names

  unread_names : (d : Option TypeDef) (s : Names) → Names_value d s unread s
  unread_names d s a k ags = subst (λ u. NamesSo s s (cells_of (u ++ []))) (sym (no_pointer_unread d h k ags)) (no_names s a)

  if_names : (read : ℕ → ℕ → Progress → Names → Read) (t n : ℕ) (p : Progress) (s : Names) → Names_value (type_at table t) s (read t n p s).tree (read t n p s).names → (b : Bool)
      → Names_value (type_at table t) s (read_if b (read t n) p s).tree (read_if b (read t n) p s).names
  if_names read t n p s law false = law
  if_names read t n p s law true = unread_names (type_at table t) s

  list_names : (read : ℕ → ℕ → Progress → Names → Read) (types : List ℕ) → AllByRecursion (Name read) types
      → (n : ℕ) (p : Progress) (s : Names) → Names_all types s (read_list table read types n p s).trees (read_list table read types n p s).names
  list_names read [] laws n p s a k ags = no_names s a
  list_names read (t ∷ types) laws n p s a k ags =
      let first : Read = read_if (is_stopped p.stop && not (hoists table t)) (read t n) p s in
      let others : ReadAll = read_list table read types (n + tree_nodes first.tree) first.progress first.names in
      let V : List Pending = value_pointers table h (type_at table t) k (first_agreements ags) first.tree in
      let W : List Pending = flat_map (pointer table h) (nodes_of table types (rest_agreements ags) (after_value first.tree k) others.trees) in
      let x : NamesSo s first.names (cells_of V) = if_names read t n p s (laws.0 n p s) (is_stopped p.stop && not (hoists table t)) a k (first_agreements ags) in
      let y : NamesSo first.names others.names (cells_of W) =
      list_names read types laws.1 (n + tree_nodes first.tree) first.progress first.names x.there (after_value first.tree k) (rest_agreements ags) in
      subst (NamesSo s others.names) (sym (ap cells_of (first_value table h t types ags k first.tree others.trees) ∙ flat_map-append (λ p. target p.cell) V W))
      (both_named s first.names others.names (cells_of V) (cells_of W) x y)

  children_name : (read : ℕ → ℕ → Progress → Names → Read) (d : Option TypeDef) (n : ℕ) (l : Label) (types : List ℕ) (p : Progress) (s : Names)
      → AllByRecursion (Name read) types
      → child_types d l (read_list table read types (n + 1) p s).trees ≡ types
      → ((k : ℕ) (ags : List Agreement) → pointer_by d (is_pointer l) (cell_in l) h k ags ≡ [])
      → Names_value d s (read_children order octets table h read d n l types p s).tree (read_children order octets table h read d n l types p s).names
  children_name read d n l types p s laws same none_own a k ags =
      let kids : ReadAll = read_list table read types (n + 1) p s in
      subst (λ u. NamesSo s kids.names (cells_of (u ++ flat_map (pointer table h) (nodes_of table (child_types d l kids.trees) (child_agreements d kids.trees) (k + 1) kids.trees))))
      (sym (none_own k ags))
      (subst (λ u. NamesSo s kids.names (cells_of (flat_map (pointer table h) (nodes_of table u (child_agreements d kids.trees) (k + 1) kids.trees)))) (sym same)
      (list_names read types laws (n + 1) p s a (k + 1) (child_agreements d kids.trees)))

  many : (P : ℕ → Type 0) (e : ℕ) → P e → (c : ℕ) → AllByRecursion P (replicate c e)
  many P e a zero = tt
  many P e a (suc c) = (a, many P e a c)

  array_names : (read : ℕ → ℕ → Progress → Names → Read) (elem : TypeId) (bound : Option ℕ) (varying : Bool) (max n : ℕ) (p : Progress) (s : Names)
      → Name read elem.0 → ((m : ℕ) (q : Progress) → count (read_list table read (replicate m elem.0) (n + 1) q s).trees ≡ m)
      → Names_value (Some (def.Array elem bound varying)) s (read_array order octets table h read (Some (def.Array elem bound varying)) varying max elem.0 n p s).tree
      (read_array order octets table h read (Some (def.Array elem bound varying)) varying max elem.0 n p s).names
  array_names read elem bound false max n p s law c =
      children_name read (Some (def.Array elem bound false)) n (tree.Arr max 0) (replicate max elem.0) p s (many (Name read) elem.0 law max) (ap (λ u. replicate u elem.0) (c max p)) (λ k ags. refl)
  array_names read elem bound true max n p s law c =
      let gap : Progress = pass order octets (E n (Align 4)) p in
      let o : ℕ = number_in order octets (taken order octets (E n (Offset false 0)) gap) in
      let behind : Progress = pass order octets (E n (Offset false o)) gap in
      let m : ℕ = number_in order octets (taken order octets (E n (Actual false o max 0)) behind) in
      let q : Progress = pass order octets (E n (Actual false o max m)) behind in
      children_name read (Some (def.Array elem bound true)) n (tree.Arr max o) (replicate m elem.0) q s (many (Name read) elem.0 law m) (ap (λ u. replicate u elem.0) (c m q)) (λ k ags. refl)

  union_names : (read : ℕ → ℕ → Progress → Names → Read) (tag : TypeId) (enc : Bool) (arms : List Arm) (default : Option Arm) (n : ℕ) (p : Progress) (s : Names)
      → ((v : ℤ) → AllByRecursion (Name read) (child_types (Some (def.Union tag enc arms default)) (tree.Union v) none)) → (dt : Option TypeDef)
      → Names_value (Some (def.Union tag enc arms default)) s (read_tagged order octets table h read (Some (def.Union tag enc arms default)) dt n arms default p s).tree
      (read_tagged order octets table h read (Some (def.Union tag enc arms default)) dt n arms default p s).names
  union_names read tag enc arms default n p s laws (Some (def.Prim q)) =
      let gap : Progress = pass order octets (E n (Align (width q))) p in
      let z : ℤ = value_in order octets q (taken order octets (E n (Tag q None arms default (pos 0))) gap) in
      let d : Option TypeDef = Some (def.Union tag enc arms default) in
      children_name read d n (tree.Union z) (child_types d (tree.Union z) none) (pass order octets (E n (Tag q None arms default z)) gap) s (laws z) refl (λ k ags. refl)
  union_names read tag enc arms default n p s laws (Some (def.Enum vs)) =
      let gap : Progress = pass order octets (E n (Align 2)) p in
      let z : ℤ = value_in order octets Short (taken order octets (E n (Tag Short (Some vs) arms default (pos 0))) gap) in
      let d : Option TypeDef = Some (def.Union tag enc arms default) in
      children_name read d n (tree.Union z) (child_types d (tree.Union z) none) (pass order octets (E n (Tag Short (Some vs) arms default z)) gap) s (laws z) refl (λ k ags. refl)
  union_names read tag enc arms default n p s laws None = unread_names (Some (def.Union tag enc arms default)) s
  union_names read tag enc arms default n p s laws (Some _) = unread_names (Some (def.Union tag enc arms default)) s

  by_names : (read : ℕ → ℕ → Progress → Names → Read) (m t : ℕ) (d : TypeDef) (n : ℕ) (p : Progress) (s : Names)
      → AllByRecursion (Name read) (parts (Some d)) → AllByRecursion (Reads order octets table h read) (parts (Some d))
      → Names_value (Some d) s (read_by order octets table h read m t (Some d) n p s).tree (read_by order octets table h read m t (Some d) n p s).names
  by_names read m t (def.Prim q) n p s laws counts = λ a k ags. no_names s a
  by_names read m t (def.Enum vs) n p s laws counts = λ a k ags. no_names s a
  by_names read m t (def.Struct ms) n p s laws counts =
      children_name read (Some (def.Struct ms)) n tree.Rec (map (λ f. f.of.0) ms) (pass order octets (E n (Align (align_of table t))) p) s laws refl (λ k ags. refl)
  by_names read m t (def.Array elem bound varying) n p s laws counts =
      array_names read elem bound varying (bound_or bound m) n p s laws.0
      (λ c q. (list_read order octets table h read (replicate c elem.0) (many (Reads order octets table h read) elem.0 counts.0 c) (n + 1) q s).as_many ∙ length-replicate c elem.0)
  by_names read m t (def.Text elem bound) n p s laws counts = λ a k ags. no_names s a
  by_names read m t (def.Union tag enc arms default) n p s laws counts =
      union_names read tag enc arms default n p s (λ v. in_parts (Name read) (Some (def.Union tag enc arms default)) (tree.Union v) none laws) (type_at table tag.0)
  by_names read m t (def.Pointer c to) n p s laws counts =
      let gap : Progress = pass order octets (E n (Align 4)) p in
      let os : Option (List ℕ) = taken order octets (E n (Number c to.0 None)) gap in
      let it : Named = named c to.0 os (number_in order octets os) s in
      λ a k ags. subst (NamesSo s it.names) (sym (no_more (target it.cell))) (named_so c to.0 os (number_in order octets os) s a)
    where
      no_more : (xs : List ℕ) → xs ++ [] ≡ xs
      no_more [] = refl
      no_more (x ∷ xs) = ap (λ u. x ∷ u) (no_more xs)
  by_names read m t def.Context n p s laws counts = λ a k ags. no_names s a
  by_names read m t (def.Pipe e) n p s laws counts = unread_names (Some (def.Pipe e)) s

  in_place_names : (depth m t : ℕ) → Readable table depth t → Name (read_in_place order octets table h depth m) t
  in_place_names zero m t r n p s = absurd r
  in_place_names (suc depth) m t (d, e, f, a) n p s =
      subst (λ u. Names_value u s (read_by order octets table h (read_in_place order octets table h depth m) m t u n p s).tree
      (read_by order octets table h (read_in_place order octets table h depth m) m t u n p s).names) (sym e)
      (by_names (read_in_place order octets table h depth m) m t d n p s (all_names (parts (Some d)) a (in_place_names depth m)) (all_counts (parts (Some d)) a))
    where
      all_names : (ts : List ℕ) → AllByRecursion (Readable table depth) ts → ((t : ℕ) → Readable table depth t → Name (read_in_place order octets table h depth m) t)
          → AllByRecursion (Name (read_in_place order octets table h depth m)) ts
      all_names [] a law = tt
      all_names (t ∷ ts) a law = (law t a.0, all_names ts a.1 law)

      all_counts : (ts : List ℕ) → AllByRecursion (Readable table depth) ts → AllByRecursion (Reads order octets table h (read_in_place order octets table h depth m)) ts
      all_counts [] a = tt
      all_counts (t ∷ ts) a = (in_place_read order octets table h depth m t a.0, all_counts ts a.1)

  hoisted_names : (b : Bool) (t : ℕ) → Readable table 32 t → (p : Progress) (s : Names)
      → Names_value (type_at table t) s (read_hoisted order octets table h b t p s).tree (read_hoisted order octets table h b t p s).names
  hoisted_names false t r p s = in_place_names 32 0 t r 0 p s
  hoisted_names true t r p s =
      let gap : Progress = pass order octets (E 0 (Align 4)) p in
      let m : ℕ = number_in order octets (taken order octets (E 0 (Max 0)) gap) in
      in_place_names 32 m t r 0 (pass order octets (E 0 (Max m)) gap) s

  -- The cells that the pointers of a whole value name.
  pub whole_names : (t : ℕ) → Readable table 32 t → (p : Progress) (s : Names) → AreThere s
      → NamesSo s (read_whole order octets table h t p s).names (cells_of (home_pointers table h t (read_whole order octets table h t p s).tree))
  whole_names t r p s a =
      subst (λ u. NamesSo s (read_whole order octets table h t p s).names (cells_of u)) (sym (value_is table h t (read_whole order octets table h t p s).tree))
      (by_stop (is_stopped p.stop) a 0 [])
    where
      by_stop : (b : Bool) → Names_value (type_at table t) s (read_if b (read_hoisted order octets table h (hoists table t) t) p s).tree
          (read_if b (read_hoisted order octets table h (hoists table t) t) p s).names
      by_stop false = hoisted_names (hoists table t) t r p s
      by_stop true = unread_names (type_at table t) s
