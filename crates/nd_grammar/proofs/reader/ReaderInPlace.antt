-- What the reader takes of values in their places is spelt: it goes over the entries of the values that it reads.
use Rattle.std.proofs.Common.{◌≡◌, ℕ, ◌+◌, zero, suc, ℤ, Bool, true, false, List, [], ◌∷◌, ◌++◌, length, Option, Some, None, refl, ap, sym, ◌∙◌, arith, subst, replicate, append_assoc}
use Rattle.std.specs.Prelude.{pos, map, not, ◌&&◌}
use Rattle.std.specs.List.{AllByRecursion}
use Rattle.std.proofs.lemmas.List.{length-replicate, append-nil}
use Rattle.nd_base.specs.declared.octets.Order.{Order}
use Rattle.nd_types.specs.declared.types.TypeDef.{TypeDef}
use Rattle.nd_types.specs.declared.types.TypeId.{TypeId}
use Rattle.nd_types.specs.declared.types.Arm.{Arm}
use Rattle.nd_types.specs.declared.types.TypeDef.TheVariants as def
use Rattle.nd_types.specs.declared.types.Primitive.{Primitive}
use Rattle.nd_types.specs.declared.types.Primitive.TheVariants.{Short}
use Rattle.nd_types.specs.Table.{Table, type_at, width, carrier}
use Rattle.nd_types.specs.Layout.{parts, hoists, hoists_by, align_of}
use Rattle.nd_value.specs.declared.item.Home.{Home}
use Rattle.nd_value.specs.Tree as tree
use Rattle.nd_value.specs.Tree.{Tree, Trees, node, none, more, Label, count, node_count}
use Rattle.nd_value.specs.Nodes.{child_types, child_agreements}
use Rattle.nd_grammar.specs.declared.reason.Reason.{Reason}
use Rattle.nd_grammar.specs.Entry.{Kind, Entry, Align, Max, Offset, Actual, Tag, before_children, entries, tag_entries, in_place, child_tests, hoisted, hoisted_max, own_max, whole_value}
use Rattle.nd_grammar.specs.Reader.{Progress, Names, Read, ReadAll, is_stopped, pass, pass_all, taken, number_in, value_in, read_if, read_list, tree_nodes, read_children, read_array, read_tagged}
use Rattle.nd_grammar.specs.Reader.{read_by, read_in_place, read_hoisted, read_whole, bound_or}
use Rattle.nd_grammar.proofs.next.HoistedMaxes.{HoistsLast, last_of, struct_last}
use Rattle.nd_grammar.proofs.next.Mapped.{in_parts}
use Rattle.nd_grammar.proofs.reader.ReaderSteps.{Follows, follows_append, follows_stopped, follows_child_tests}
use Rattle.nd_grammar.proofs.reader.ReaderNodes.{Agree, Grown, grown_agree, grown_twice, named_grown, follows_number, follows_tag, follows_counts, follows_max, follows_text, follows_context}
use Rattle.nd_grammar.proofs.reader.ReaderNodes.{follows_pointer}

-- a type that can be read in place: a pipe never is there, and a tag is a number
abbrev pub Fine : Table → TypeDef → Type 0
Fine table (def.Pipe e) = ⊥
Fine table (def.Union tag enc arms default) = (p : Primitive) × (carrier (type_at table tag.0) ≡ Some p)
Fine table _ = Unit {0}

-- so are its parts, which nest at most so deep
abbrev pub Readable : Table → ℕ → ℕ → Type 0
Readable table zero t = ⊥
Readable table (suc depth) t = (d : TypeDef) × (type_at table t ≡ Some d) × Fine table d × AllByRecursion (Readable table depth) (parts (Some d))

-- the entries of one value: what is before its children, the children, their agreements
abbrev pub node_entries : Table → Home → ℕ → Option TypeDef → ℕ → Tree → List Entry
node_entries table h t d n (node l ks) =
    entries h n (before_children table t d l ks) ++ (in_place table h (child_types d l ks) (n + 1) ks ++ child_tests h (child_agreements d ks) (n + 1) ks)

four : {X : Type 0} (a b c d : List X) → a ++ (b ++ (c ++ d)) ≡ (a ++ (b ++ c)) ++ d
four a b c d = simp append_assoc

pub value_then_others : (table : Table) (h : Home) (t : ℕ) (types : List ℕ) (n : ℕ) (v : Tree) (ts : Trees)
    → in_place table h (t ∷ types) n (more v ts) ≡ node_entries table h t (type_at table t) n v ++ in_place table h types (n + tree_nodes v) ts
value_then_others table h t types n (node l ks) ts =
    let d : Option TypeDef = type_at table t in
    let e : n + 1 + node_count ks ≡ n + tree_nodes (node l ks) = omega arith in
    four (entries h n (before_children table t d l ks)) (in_place table h (child_types d l ks) (n + 1) ks) (child_tests h (child_agreements d ks) (n + 1) ks)
    (in_place table h types (n + 1 + node_count ks) ts)
    ∙ ap (λ k. node_entries table h t d n (node l ks) ++ in_place table h types k ts) e

module _ (order : Order) (octets : List ℕ) (table : Table) (h : Home) where
  abbrev E : ℕ → Kind → Entry
  E n k = record { home = h; node = n; kind = k }

  pub record IsRead (t : ℕ) (d : Option TypeDef) (n : ℕ) (p : Progress) (s : Names) (r : Read) : Type 0 where
    pub grown : Grown s.numbers r.names.numbers
    pub follows : (nums : ℕ → ℕ) → Agree nums r.names.numbers → Follows order octets nums p (node_entries table h t d n r.tree) r.progress

  pub record AreRead (types : List ℕ) (n : ℕ) (p : Progress) (s : Names) (r : ReadAll) : Type 0 where
    pub grown : Grown s.numbers r.names.numbers
    pub follows : (nums : ℕ → ℕ) → Agree nums r.names.numbers → Follows order octets nums p (in_place table h types n r.trees) r.progress
    pub as_many : count r.trees ≡ length types

  abbrev pub Reads : (ℕ → ℕ → Progress → Names → Read) → ℕ → Type 0
  Reads read t = (n : ℕ) (p : Progress) (s : Names) → IsRead t (type_at table t) n p s (read t n p s)

  -- where reading has stopped, an unread value
  pub if_read : (read : ℕ → ℕ → Progress → Names → Read) (t n : ℕ) (p : Progress) (s : Names) → IsRead t (type_at table t) n p s (read t n p s)
      → (b : Bool) (o : Option (ℕ × Reason)) → p.stop ≡ o → IsRead t (type_at table t) n p s (read_if (is_stopped o && b) (read t n) p s)
  if_read read t n p s law b None e = law
  if_read read t n p s law false (Some r) e = law
  if_read read t n p s law true (Some r) e = record { grown = ([], refl); follows = λ nums a. follows_stopped order octets nums _ p r e }

  pub list_read : (read : ℕ → ℕ → Progress → Names → Read) (types : List ℕ) → AllByRecursion (Reads read) types
      → (n : ℕ) (p : Progress) (s : Names) → AreRead types n p s (read_list table read types n p s)
  list_read read [] laws n p s = record { grown = ([], refl); follows = λ nums a. refl; as_many = refl }
  list_read read (t ∷ types) laws n p s =
      let first : Read = read_if (is_stopped p.stop && not (hoists table t)) (read t n) p s in
      let others : ReadAll = read_list table read types (n + tree_nodes first.tree) first.progress first.names in
      let a : IsRead t (type_at table t) n p s first = if_read read t n p s (laws.0 n p s) (not (hoists table t)) p.stop refl in
      let b : AreRead types (n + tree_nodes first.tree) first.progress first.names others = list_read read types laws.1 (n + tree_nodes first.tree) first.progress first.names in
      record {
        grown = grown_twice s.numbers first.names.numbers others.names.numbers a.grown b.grown;
        follows = λ nums g.
            subst (λ u. Follows order octets nums p u others.progress) (sym (value_then_others table h t types n first.tree others.trees))
            (follows_append order octets nums (node_entries table h t (type_at table t) n first.tree) (in_place table h types (n + tree_nodes first.tree) others.trees) p first.progress others.progress
            (a.follows nums (grown_agree nums first.names.numbers others.names.numbers b.grown g)) (b.follows nums g));
        as_many = ap suc b.as_many;
      }

  -- a value with children, once what is before them is known to be gone over
  children_read : (read : ℕ → ℕ → Progress → Names → Read) (t : ℕ) (d : Option TypeDef) (n : ℕ) (l : Label) (types : List ℕ) (p0 p : Progress) (s : Names)
      → AllByRecursion (Reads read) types
      → child_types d l (read_list table read types (n + 1) p s).trees ≡ types
      → ((nums : ℕ → ℕ) → Follows order octets nums p0 (entries h n (before_children table t d l (read_list table read types (n + 1) p s).trees)) p)
      → IsRead t d n p0 s (read_children order octets table h read d n l types p s)
  children_read read t d n l types p0 p s laws same before =
      let kids : ReadAll = read_list table read types (n + 1) p s in
      let k : AreRead types (n + 1) p s kids = list_read read types laws (n + 1) p s in
      let C : List Entry = child_tests h (child_agreements d kids.trees) (n + 1) kids.trees in
      record {
        grown = k.grown;
        follows = λ nums a.
            follows_append order octets nums (entries h n (before_children table t d l kids.trees)) (in_place table h (child_types d l kids.trees) (n + 1) kids.trees ++ C)
            p0 p (pass_all order octets C kids.progress) (before nums)
            (follows_append order octets nums (in_place table h (child_types d l kids.trees) (n + 1) kids.trees) C p kids.progress (pass_all order octets C kids.progress)
            (subst (λ u. Follows order octets nums p (in_place table h u (n + 1) kids.trees) kids.progress) (sym same) (k.follows nums a))
            (follows_child_tests order octets nums h (child_agreements d kids.trees) (n + 1) kids.trees kids.progress));
      }

  many : (P : ℕ → Type 0) (t n : ℕ) → P t → AllByRecursion P (replicate n t)
  many P t zero a = tt
  many P t (suc n) a = (a, many P t n a)

  array_read : (read : ℕ → ℕ → Progress → Names → Read) (t : ℕ) (elem : TypeId) (bound : Option ℕ) (varying : Bool) (max n : ℕ) (p : Progress) (s : Names)
      → Reads read elem.0 → IsRead t (Some (def.Array elem bound varying)) n p s (read_array order octets table h read (Some (def.Array elem bound varying)) varying max elem.0 n p s)
  array_read read t elem bound false max n p s law =
      let laws = many (Reads read) elem.0 max law in
      let k = list_read read (replicate max elem.0) laws (n + 1) p s in
      let c : count (read_list table read (replicate max elem.0) (n + 1) p s).trees ≡ max = k.as_many ∙ length-replicate max elem.0 in
      children_read read t (Some (def.Array elem bound false)) n (tree.Arr max 0) (replicate max elem.0) p p s laws (ap (λ u. replicate u elem.0) c) (λ nums. refl)
  array_read read t elem bound true max n p s law =
      let gap : Progress = pass order octets (E n (Align 4)) p in
      let o : ℕ = number_in order octets (taken order octets (E n (Offset false 0)) gap) in
      let behind : Progress = pass order octets (E n (Offset false o)) gap in
      let c : ℕ = number_in order octets (taken order octets (E n (Actual false o max 0)) behind) in
      let q : Progress = pass order octets (E n (Actual false o max c)) behind in
      let laws = many (Reads read) elem.0 c law in
      let k = list_read read (replicate c elem.0) laws (n + 1) q s in
      let e : count (read_list table read (replicate c elem.0) (n + 1) q s).trees ≡ c = k.as_many ∙ length-replicate c elem.0 in
      children_read read t (Some (def.Array elem bound true)) n (tree.Arr max o) (replicate c elem.0) p q s laws (ap (λ u. replicate u elem.0) e)
      (λ nums. subst (λ u. Follows order octets nums p (E n (Align 4) ∷ E n (Offset false o) ∷ E n (Actual false o max u) ∷ []) q) (sym e)
      (follows_counts order octets h n nums max o c p refl refl))

  union_read : (read : ℕ → ℕ → Progress → Names → Read) (t : ℕ) (tag : TypeId) (enc : Bool) (arms : List Arm) (default : Option Arm) (n : ℕ) (p : Progress) (s : Names)
      → ((v : ℤ) → AllByRecursion (Reads read) (child_types (Some (def.Union tag enc arms default)) (tree.Union v) none))
      → (dt : Option TypeDef) → type_at table tag.0 ≡ dt → (prim : Primitive) → carrier dt ≡ Some prim
      → IsRead t (Some (def.Union tag enc arms default)) n p s (read_tagged order octets table h read (Some (def.Union tag enc arms default)) dt n arms default p s)
  union_read read t tag enc arms default n p s laws (Some (def.Prim q)) e prim f =
      let gap : Progress = pass order octets (E n (Align (width q))) p in
      let z : ℤ = value_in order octets q (taken order octets (E n (Tag q None arms default (pos 0))) gap) in
      let d : Option TypeDef = Some (def.Union tag enc arms default) in
      children_read read t d n (tree.Union z) (child_types d (tree.Union z) none) p (pass order octets (E n (Tag q None arms default z)) gap) s (laws z) refl
      (λ nums. subst (λ u. Follows order octets nums p (entries h n (tag_entries u arms default z)) (pass order octets (E n (Tag q None arms default z)) gap)) (sym e)
      (follows_tag order octets h n nums q None arms default p))
  union_read read t tag enc arms default n p s laws (Some (def.Enum vs)) e prim f =
      let gap : Progress = pass order octets (E n (Align 2)) p in
      let z : ℤ = value_in order octets Short (taken order octets (E n (Tag Short (Some vs) arms default (pos 0))) gap) in
      let d : Option TypeDef = Some (def.Union tag enc arms default) in
      children_read read t d n (tree.Union z) (child_types d (tree.Union z) none) p (pass order octets (E n (Tag Short (Some vs) arms default z)) gap) s (laws z) refl
      (λ nums. subst (λ u. Follows order octets nums p (entries h n (tag_entries u arms default z)) (pass order octets (E n (Tag Short (Some vs) arms default z)) gap)) (sym e)
      (follows_tag order octets h n nums Short (Some vs) arms default p))
  union_read read t tag enc arms default n p s laws None e prim f = cc
  union_read read t tag enc arms default n p s laws (Some _) e prim f = cc

  -- a value of a type, where its parts are read
  by_read : (read : ℕ → ℕ → Progress → Names → Read) (m t : ℕ) (d : TypeDef) (n : ℕ) (p : Progress) (s : Names) → Fine table d
      → AllByRecursion (Reads read) (parts (Some d)) → IsRead t (Some d) n p s (read_by order octets table h read m t (Some d) n p s)
  by_read read m t (def.Prim prim) n p s f laws = record { grown = ([], refl); follows = λ nums a. follows_number order octets h n nums prim None p }
  by_read read m t (def.Enum vs) n p s f laws = record { grown = ([], refl); follows = λ nums a. follows_number order octets h n nums Short (Some vs) p }
  by_read read m t (def.Struct ms) n p s f laws =
      children_read read t (Some (def.Struct ms)) n tree.Rec (map (λ f. f.of.0) ms) p (pass order octets (E n (Align (align_of table t))) p) s laws refl (λ nums. ((λ os e. tt), refl))
  by_read read m t (def.Array elem bound varying) n p s f laws = array_read read t elem bound varying (bound_or bound m) n p s laws.0
  by_read read m t (def.Text elem bound) n p s f laws = record {
    grown = ([], refl);
    follows = λ nums a. follows_text order octets h n nums (bound_or bound m) _ _ p refl refl;
  }
  by_read read m t (def.Union tag enc arms default) n p s (prim, c) laws =
      union_read read t tag enc arms default n p s (λ v. in_parts (Reads read) (Some (def.Union tag enc arms default)) (tree.Union v) none laws) (type_at table tag.0) refl prim c
  by_read read m t (def.Pointer k to) n p s f laws = record {
    grown = named_grown k to.0 _ _ s;
    follows = λ nums a. follows_pointer order octets h n nums k to.0 p s a;
  }
  by_read read m t def.Context n p s f laws = record { grown = ([], refl); follows = λ nums a. follows_context order octets h n nums p }
  by_read read m t (def.Pipe e) n p s f laws = absurd f

  all_reads : (read : ℕ → ℕ → Progress → Names → Read) (depth : ℕ) → ((t : ℕ) → Readable table depth t → Reads read t) → (ts : List ℕ)
      → AllByRecursion (Readable table depth) ts → AllByRecursion (Reads read) ts
  all_reads read depth law [] a = tt
  all_reads read depth law (t ∷ ts) a = (law t a.0, all_reads read depth law ts a.1)

  -- The reader of values in their places goes over their entries, and what it takes of them is spelt.
  pub in_place_read : (depth m t : ℕ) → Readable table depth t → Reads (read_in_place order octets table h depth m) t
  in_place_read zero m t r n p s = absurd r
  in_place_read (suc depth) m t (d, e, f, laws) n p s =
      subst (λ u. IsRead t u n p s (read_by order octets table h (read_in_place order octets table h depth m) m t u n p s)) (sym e)
      (by_read (read_in_place order octets table h depth m) m t d n p s f
      (all_reads (read_in_place order octets table h depth m) depth (in_place_read depth m) (parts (Some d)) laws))

  -- A whole value: its maximum count too.
  module _ (laid : HoistsLast table) where
    -- the maximum count that was read is the one that the value hoists
    abbrev Hoisted : ℕ → (ℕ → ℕ → Progress → Names → Read) → ℕ → Type 0
    Hoisted m read t = hoists table t ≡ true → (n : ℕ) (p : Progress) (s : Names) → hoisted_max 0 (more (read t n p s).tree none) ≡ m

    not_skipped : (b c : Bool) → c ≡ true → (read : Progress → Names → Read) (p : Progress) (s : Names) → read_if (b && not c) read p s ≡ read p s
    not_skipped true true e read p s = refl
    not_skipped false true e read p s = refl
    not_skipped b false e read p s = cc

    any_start : (a b : ℕ) (t : Tree) (ts : Trees) → hoisted_max a (more t ts) ≡ hoisted_max b (more t ts)
    any_start a b (node l ks) ts = refl

    last_hoisted : (m : ℕ) (read : ℕ → ℕ → Progress → Names → Read) (types : List ℕ) → AllByRecursion (Hoisted m read) types → last_of (hoists table) types ≡ true
        → (a n : ℕ) (p : Progress) (s : Names) → hoisted_max a (read_list table read types n p s).trees ≡ m
    last_hoisted m read [] laws e a n p s = cc
    last_hoisted m read (t ∷ []) laws e a n p s =
        let r : Read = read_if (is_stopped p.stop && not (hoists table t)) (read t n) p s in
        any_start a 0 r.tree none
        ∙ ap (λ r. hoisted_max 0 (more r.tree none)) (not_skipped (is_stopped p.stop) (hoists table t) e (read t n) p s) ∙ laws.0 e n p s
    last_hoisted m read (t ∷ u ∷ types) laws e a n p s =
        let first : Read = read_if (is_stopped p.stop && not (hoists table t)) (read t n) p s in
        skip_first a first.tree (read_list table read (u ∷ types) (n + tree_nodes first.tree) first.progress first.names).trees
        (λ b. last_hoisted m read (u ∷ types) laws.1 e b (n + tree_nodes first.tree) first.progress first.names)
      where
        skip_first : (a : ℕ) (v : Tree) (ts : Trees) → ((b : ℕ) → hoisted_max b ts ≡ m) → hoisted_max a (more v ts) ≡ m
        skip_first a (node l ks) ts k = k (own_max l (hoisted_max 0 ks))

    all_hoisted : (m : ℕ) (read : ℕ → ℕ → Progress → Names → Read) (depth : ℕ) → ((t : ℕ) → Readable table depth t → Hoisted m read t) → (ts : List ℕ)
        → AllByRecursion (Readable table depth) ts → AllByRecursion (Hoisted m read) ts
    all_hoisted m read depth law [] a = tt
    all_hoisted m read depth law (t ∷ ts) a = (law t a.0, all_hoisted m read depth law ts a.1)

    array_hoisted : (m : ℕ) (read : ℕ → ℕ → Progress → Names → Read) (d : Option TypeDef) (varying : Bool) (elem n : ℕ) (p : Progress) (s : Names)
        → hoisted_max 0 (more (read_array order octets table h read d varying m elem n p s).tree none) ≡ m
    array_hoisted m read d true elem n p s = refl
    array_hoisted m read d false elem n p s = refl

    by_hoisted : (m : ℕ) (read : ℕ → ℕ → Progress → Names → Read) (t : ℕ) (d : Option TypeDef) → AllByRecursion (Hoisted m read) (parts d) → hoists_by (hoists table) d ≡ true
        → (n : ℕ) (p : Progress) (s : Names) → hoisted_max 0 (more (read_by order octets table h read m t d n p s).tree none) ≡ m
    by_hoisted m read t (Some (def.Struct ms)) law e n p s =
        last_hoisted m read (map (λ f. f.of.0) ms) law (sym (struct_last (hoists table) ms) ∙ e) 0 (n + 1)
        (pass order octets (E n (Align (align_of table t))) p) s
    by_hoisted m read t (Some (def.Array elem None varying)) law e n p s = array_hoisted m read (Some (def.Array elem None varying)) varying elem.0 n p s
    by_hoisted m read t (Some (def.Array elem (Some b) varying)) law e n p s = cc
    by_hoisted m read t (Some (def.Text elem None)) law e n p s = refl
    by_hoisted m read t (Some (def.Text elem (Some b))) law e n p s = cc
    by_hoisted m read t None law e n p s = cc
    by_hoisted m read t (Some (def.Prim q)) law e n p s = cc
    by_hoisted m read t (Some (def.Enum vs)) law e n p s = cc
    by_hoisted m read t (Some (def.Union tag enc arms default)) law e n p s = cc
    by_hoisted m read t (Some (def.Pointer k to)) law e n p s = cc
    by_hoisted m read t (Some def.Context) law e n p s = cc
    by_hoisted m read t (Some (def.Pipe x)) law e n p s = cc

    in_place_hoisted : (depth m t : ℕ) → Readable table depth t → Hoisted m (read_in_place order octets table h depth m) t
    in_place_hoisted zero m t r e n p s = absurd r
    in_place_hoisted (suc depth) m t (d, f, g, a) e n p s =
        let k : hoists_by (hoists table) (Some d) ≡ true = ap (hoists_by (hoists table)) (sym f) ∙ sym (laid.unfolds t) ∙ e in
        ap (λ u. hoisted_max 0 (more (read_by order octets table h (read_in_place order octets table h depth m) m t u n p s).tree none)) f
        ∙ by_hoisted m (read_in_place order octets table h depth m) t (Some d)
        (all_hoisted m (read_in_place order octets table h depth m) depth (in_place_hoisted depth m) (parts (Some d)) a) k n p s

    pub record IsWhole (t : ℕ) (p : Progress) (s : Names) (r : Read) : Type 0 where
      pub grown : Grown s.numbers r.names.numbers
      pub follows : (nums : ℕ → ℕ) → Agree nums r.names.numbers → Follows order octets nums p (whole_value table h t r.tree) r.progress

    in_place_one : (t n : ℕ) (v : Tree) → in_place table h (t ∷ []) n (more v none) ≡ node_entries table h t (type_at table t) n v
    in_place_one t n v = value_then_others table h t [] n v none ∙ append-nil (node_entries table h t (type_at table t) n v)

    abbrev NotUnread : Tree → Type 0
    NotUnread (node l ks) = l ≡ tree.Unread → ⊥

    array_label : (read : ℕ → ℕ → Progress → Names → Read) (d : Option TypeDef) (varying : Bool) (m elem n : ℕ) (p : Progress) (s : Names)
        → NotUnread (read_array order octets table h read d varying m elem n p s).tree
    array_label read d true m elem n p s = λ e. cc
    array_label read d false m elem n p s = λ e. cc

    by_label : (m : ℕ) (read : ℕ → ℕ → Progress → Names → Read) (t : ℕ) (d : Option TypeDef) → hoists_by (hoists table) d ≡ true
        → (n : ℕ) (p : Progress) (s : Names) → NotUnread (read_by order octets table h read m t d n p s).tree
    by_label m read t (Some (def.Struct ms)) e n p s = λ f. cc
    by_label m read t (Some (def.Array elem bound varying)) e n p s = array_label read (Some (def.Array elem bound varying)) varying (bound_or bound m) elem.0 n p s
    by_label m read t (Some (def.Text elem bound)) e n p s = λ f. cc
    by_label m read t None e n p s = cc
    by_label m read t (Some (def.Prim q)) e n p s = cc
    by_label m read t (Some (def.Enum vs)) e n p s = cc
    by_label m read t (Some (def.Union tag enc arms default)) e n p s = cc
    by_label m read t (Some (def.Pointer k to)) e n p s = cc
    by_label m read t (Some def.Context) e n p s = cc
    by_label m read t (Some (def.Pipe x)) e n p s = cc

    hoisting_label : (depth m t : ℕ) → Readable table depth t → hoists table t ≡ true → (n : ℕ) (p : Progress) (s : Names)
        → NotUnread (read_in_place order octets table h depth m t n p s).tree
    hoisting_label zero m t r e n p s = absurd r
    hoisting_label (suc depth) m t r e n p s = by_label m (read_in_place order octets table h depth m) t (type_at table t) (sym (laid.unfolds t) ∙ e) n p s

    hoisted_kinds : (l : Label) (m : ℕ) → (l ≡ tree.Unread → ⊥) → hoisted true l m ≡ Align 4 ∷ Max m ∷ []
    hoisted_kinds tree.Unread m n = absurd (n refl)
    hoisted_kinds (tree.Num z) m n = refl
    hoisted_kinds _ m n = refl

    counted_whole : (t m : ℕ) (v : Tree) (p q r : Progress) (nums : ℕ → ℕ) → hoists table t ≡ true → NotUnread v → hoisted_max 0 (more v none) ≡ m
        → Follows order octets nums p (E 0 (Align 4) ∷ E 0 (Max m) ∷ []) q
        → Follows order octets nums q (in_place table h (t ∷ []) 0 (more v none)) r
        → Follows order octets nums p (whole_value table h t v) r
    counted_whole t m (node l ks) p q r nums e n f a b =
        let k : entries h 0 (hoisted (hoists table t) l (hoisted_max 0 (more (node l ks) none))) ≡ E 0 (Align 4) ∷ E 0 (Max m) ∷ [] =
        ap (λ c. entries h 0 (hoisted c l (hoisted_max 0 (more (node l ks) none)))) e
        ∙ ap (entries h 0) (hoisted_kinds l (hoisted_max 0 (more (node l ks) none)) n) ∙ ap (λ u. E 0 (Align 4) ∷ E 0 (Max u) ∷ []) f in
        subst (λ u. Follows order octets nums p (u ++ in_place table h (t ∷ []) 0 (more (node l ks) none)) r) (sym k)
        (follows_append order octets nums (E 0 (Align 4) ∷ E 0 (Max m) ∷ []) (in_place table h (t ∷ []) 0 (more (node l ks) none)) p q r a b)

    plain_whole : (t : ℕ) (v : Tree) (p r : Progress) (nums : ℕ → ℕ) → hoists table t ≡ false
        → Follows order octets nums p (in_place table h (t ∷ []) 0 (more v none)) r → Follows order octets nums p (whole_value table h t v) r
    plain_whole t (node l ks) p r nums e a =
        subst (λ c. Follows order octets nums p (entries h 0 (hoisted c l (hoisted_max 0 (more (node l ks) none))) ++ in_place table h (t ∷ []) 0 (more (node l ks) none)) r) (sym e) a

    -- The reader of a whole value goes over its entries, its maximum count too.
    hoisted_read : (t : ℕ) → Readable table 32 t → (b : Bool) → hoists table t ≡ b → (p : Progress) (s : Names) → IsWhole t p s (read_hoisted order octets table h b t p s)
    hoisted_read t r false e p s =
        let law : IsRead t (type_at table t) 0 p s (read_in_place order octets table h 32 0 t 0 p s) = in_place_read 32 0 t r 0 p s in
        record {
          grown = law.grown;
          follows = λ nums a.
              plain_whole t (read_in_place order octets table h 32 0 t 0 p s).tree p _ nums e
              (subst (λ u. Follows order octets nums p u (read_in_place order octets table h 32 0 t 0 p s).progress) (sym (in_place_one t 0 (read_in_place order octets table h 32 0 t 0 p s).tree))
              (law.follows nums a));
        }
    hoisted_read t r true e p s =
        let gap : Progress = pass order octets (E 0 (Align 4)) p in
        let m : ℕ = number_in order octets (taken order octets (E 0 (Max 0)) gap) in
        let q : Progress = pass order octets (E 0 (Max m)) gap in
        let law : IsRead t (type_at table t) 0 q s (read_in_place order octets table h 32 m t 0 q s) = in_place_read 32 m t r 0 q s in
        let v : Tree = (read_in_place order octets table h 32 m t 0 q s).tree in
        record {
          grown = law.grown;
          follows = λ nums a.
              counted_whole t m v p q (read_in_place order octets table h 32 m t 0 q s).progress nums e (hoisting_label 32 m t r e 0 q s) (in_place_hoisted 32 m t r e 0 q s)
              (follows_max order octets h 0 nums p)
              (subst (λ u. Follows order octets nums q u (read_in_place order octets table h 32 m t 0 q s).progress) (sym (in_place_one t 0 v)) (law.follows nums a));
        }

    pub whole_read : (t : ℕ) → Readable table 32 t → (p : Progress) (s : Names) → IsWhole t p s (read_whole order octets table h t p s)
    whole_read t r p s = by_stop p.stop refl
      where
        by_stop : (o : Option (ℕ × Reason)) → p.stop ≡ o → IsWhole t p s (read_if (is_stopped o) (read_hoisted order octets table h (hoists table t) t) p s)
        by_stop None e = hoisted_read t r (hoists table t) refl p s
        by_stop (Some x) e = record { grown = ([], refl); follows = λ nums a. follows_stopped order octets nums _ p x e }
