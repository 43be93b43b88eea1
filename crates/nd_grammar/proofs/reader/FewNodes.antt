-- The nodes of a value are few: at most 32 for each octet.
use Rattle.std.proofs.Common.{◌≡◌, ℕ, ◌+◌, ◌*◌, ◌≤◌, zero, suc, ℤ, Bool, true, false, List, [], ◌∷◌, ◌++◌, length, Option, Some, None, refl, ap, sym, ◌∙◌, inl, inr, arith, subst, replicate}
use Rattle.std.specs.Prelude.{map}
use Rattle.std.specs.List.{AllByRecursion}
use Rattle.std.proofs.lemmas.List.{length-replicate}
use Rattle.std.proofs.lemmas.Bool.{and_parts, eqb-true, leb-true}
use Rattle.nd_types.specs.declared.types.TypeDef.{TypeDef}
use Rattle.nd_types.specs.declared.types.TypeId.{TypeId}
use Rattle.nd_types.specs.declared.types.Arm.{Arm}
use Rattle.nd_types.specs.declared.types.Field.{Field}
use Rattle.nd_types.specs.declared.types.TypeDef.TheVariants as def
use Rattle.nd_types.specs.declared.types.Operation.{Operation}
use Rattle.nd_types.specs.Table.{Table, type_at, selected}
use Rattle.nd_types.specs.Layout.{parts, hoists, hoists_by}
use Rattle.nd_types.specs.Legal.{IsLegal, has_member, has_small_bound}
use Rattle.nd_types.proofs.LegalLaws.{passes_at}
use Rattle.nd_value.specs.declared.item.Home.{Home}
use Rattle.nd_value.specs.Tree as tree
use Rattle.nd_value.specs.Tree.{Tree, Trees, node, none, more, Label, count, node_count}
use Rattle.nd_value.specs.Nodes.{child_types, child_agreements, selected_types}
use Rattle.nd_value.specs.Misfit.{has_shape, has_counts}
use Rattle.nd_value.proofs.Apart.{all_left, all_right}
use Rattle.nd_grammar.specs.Entry.{Entry, before_children, entries, tag_entries, in_place, child_tests}
use Rattle.nd_grammar.specs.Reader.{tree_nodes}
use Rattle.nd_grammar.proofs.next.HoistedMaxes.{HoistsLast, OnlyLast, last_of, struct_last}
use Rattle.nd_grammar.proofs.next.Mapped.{in_parts}
use Rattle.nd_grammar.specs.MadeTrees.{MadeNode, MadeTrees, MadeTree}
use Rattle.nd_grammar.proofs.conforming.Passed.{HasPassed, Passed, least, least_append}
use Rattle.nd_grammar.proofs.conforming.PassedTrees.{passed_kinds, unread_entry}
use Rattle.nd_grammar.proofs.reader.ReaderInPlace.{Readable, node_entries, value_then_others}
use Rattle.nd_grammar.proofs.ItemSizes.{width_low as some_width}
use Rattle.nd_lemmas.proofs.Numbers.{times_more}

-- 1 where a type hoists: its maximum count pays for its outermost node
abbrev pub one : Bool → ℕ
one true = 1
one false = 0

pub times_sum : (d x y : ℕ) → d * (x + y) ≡ d * x + d * y
times_sum zero x y = omega arith
times_sum (suc d) x y =
    let a : d * (x + y) ≡ d * x + d * y = times_sum d x y in
    let e : suc d * (x + y) ≡ (x + y) + d * (x + y) = omega arith in
    let f : suc d * x ≡ x + d * x = omega arith in
    let g : suc d * y ≡ y + d * y = omega arith in
    omega arith

-- n nodes, where x octets pay d each
pub record Bound (d x n : ℕ) : Type 0 where
  pub below : n ≤ d * x
  pub some : 1 ≤ x

pub one_deeper : (d y x k n : ℕ) → k ≤ d * y → y ≤ x → 1 ≤ x → n ≡ suc k → Bound (suc d) x n
one_deeper d y x k n h l s e =
    let a : d * y ≤ d * x = times_more d y x l in
    let f : suc d * x ≡ x + d * x = omega arith in
    record { below = omega arith; some = s }

module _ (table : Table) (h : Home) (laid : HoistsLast table) (members : (t : ℕ) (ms : List Field) → type_at table t ≡ Some (def.Struct ms) → 1 ≤ length ms)
    (bounds : (t : ℕ) (e : TypeId) (b : ℕ) (v : Bool) → type_at table t ≡ Some (def.Array e (Some b) v) → 1 ≤ b) where
  abbrev pub ones : List ℕ → ℕ
  ones [] = 0
  ones (t ∷ ts) = one (hoists table t) + ones ts

  last_ones : (ts : List ℕ) → OnlyLast (hoists table) ts → ones ts ≡ one (last_of (hoists table) ts)
  last_ones [] a = refl
  last_ones (t ∷ []) a = omega arith
  last_ones (t ∷ u ∷ ts) a =
      let e : one (hoists table t) ≡ 0 = ap one a.0 in
      let f = last_ones (u ∷ ts) a.1 in
      omega arith

  no_ones : (ts : List ℕ) → AllByRecursion (λ t. hoists table t ≡ false) ts → ones ts ≡ 0
  no_ones [] a = refl
  no_ones (t ∷ ts) a =
      let e : one (hoists table t) ≡ 0 = ap one a.0 in
      let f = no_ones ts a.1 in
      omega arith

  pub many_ones : (t k : ℕ) → hoists table t ≡ false → ones (replicate k t) ≡ 0
  many_ones t zero e = refl
  many_ones t (suc k) e =
      let f : one (hoists table t) ≡ 0 = ap one e in
      let g = many_ones t k e in
      omega arith

  abbrev pub Few : ℕ → ℕ → Type 0
  Few depth t =
      (n : ℕ) (v : Tree) → MadeTree table (type_at table t) v → AllByRecursion Passed (node_entries table h t (type_at table t) n v)
      → Bound depth (least (node_entries table h t (type_at table t) n v) + one (hoists table t)) (tree_nodes v)

  pub record AllFew (depth : ℕ) (types : List ℕ) (n : ℕ) (ts : Trees) : Type 0 where
    pub below : node_count ts ≤ depth * (least (in_place table h types n ts) + ones types)
    pub some : 1 ≤ length types → 1 ≤ least (in_place table h types n ts) + ones types

  pub list_few : (depth : ℕ) (types : List ℕ) → AllByRecursion (Few depth) types → (n : ℕ) (ts : Trees) → MadeTrees table types ts
      → AllByRecursion Passed (in_place table h types n ts) → AllFew depth types n ts
  list_few depth [] a n none m p = record { below = omega arith; some = λ h. absurd (omega arith) }
  list_few depth [] a n (more t ts) m p = absurd m
  list_few depth (t ∷ types) a n none m p = absurd m
  list_few depth (t ∷ types) a n (more (node l ks) ts) m p =
      let v : Tree = node l ks in
      let A : List Entry = node_entries table h t (type_at table t) n v in
      let O : List Entry = in_place table h types (n + tree_nodes v) ts in
      let e : in_place table h (t ∷ types) n (more v ts) ≡ A ++ O = value_then_others table h t types n v ts in
      let q : AllByRecursion Passed (A ++ O) = subst (AllByRecursion Passed) e p in
      let b : Bound depth (least A + one (hoists table t)) (tree_nodes v) = a.0 n v (m.0, m.1) (all_left Passed A O q) in
      let c : AllFew depth types (n + tree_nodes v) ts = list_few depth types a.1 (n + tree_nodes v) ts m.2 (all_right Passed A O q) in
      let s : least (in_place table h (t ∷ types) n (more v ts)) ≡ least A + least O = ap least e ∙ least_append A O in
      let x : ℕ = least A + one (hoists table t) in
      let y : ℕ = least O + ones types in
      let z : least (in_place table h (t ∷ types) n (more v ts)) + ones (t ∷ types) ≡ x + y = omega arith in
      let d : depth * (x + y) ≡ depth * x + depth * y = times_sum depth x y in
      record {
        below = subst (λ u. node_count (more v ts) ≤ depth * u) (sym z) (omega (arith, d, b.below, c.below));
        some = λ k. omega (arith, z, b.some);
      }

  abbrev B : ℕ → ℕ → TypeDef → Label → Trees → List Entry
  B t n d l ks = entries h n (before_children table t (Some d) l ks)

  abbrev I : ℕ → TypeDef → Label → Trees → List Entry
  I n d l ks = in_place table h (child_types (Some d) l ks) (n + 1) ks

  -- a node, by what is before its children
  closes : (depth t n : ℕ) (d : TypeDef) (l : Label) (ks : Trees) → AllFew depth (child_types (Some d) l ks) (n + 1) ks → ones (child_types (Some d) l ks) ≤ one (hoists table t)
      → 1 ≤ least (B t n d l ks) + (least (I n d l ks) + one (hoists table t))
      → Bound (suc depth) (least (node_entries table h t (Some d) n (node l ks)) + one (hoists table t)) (tree_nodes (node l ks))
  closes depth t n d l ks few fewer some =
      let C : List Entry = child_tests h (child_agreements (Some d) ks) (n + 1) ks in
      let e : least (B t n d l ks ++ (I n d l ks ++ C)) ≡ least (B t n d l ks) + least (I n d l ks ++ C) = least_append (B t n d l ks) (I n d l ks ++ C) in
      let f : least (I n d l ks ++ C) ≡ least (I n d l ks) + least C = least_append (I n d l ks) C in
      one_deeper depth (least (I n d l ks) + ones (child_types (Some d) l ks)) (least (node_entries table h t (Some d) n (node l ks)) + one (hoists table t)) (node_count ks) (tree_nodes (node l ks))
      few.below (omega (arith, e, f, fewer)) (omega (arith, e, f, some)) (omega arith)

  struct_ones : (t : ℕ) (ms : List Field) → type_at table t ≡ Some (def.Struct ms) → ones (map (λ f. f.of.0) ms) ≡ one (hoists table t)
  struct_ones t ms e =
      last_ones (map (λ f. f.of.0) ms) (laid.members t ms e)
      ∙ ap one (sym (struct_last (hoists table) ms) ∙ ap (hoists_by (hoists table)) (sym e) ∙ sym (laid.unfolds t))

  mapped : {X Y : Type 0} (f : X → Y) (xs : List X) → length (map f xs) ≡ length xs
  mapped f [] = refl
  mapped f (x ∷ xs) = ap suc (mapped f xs)

  array_some : (depth t n : ℕ) (e : TypeId) (b : Option ℕ) (v : Bool) (m o : ℕ) (ks : Trees) → type_at table t ≡ Some (def.Array e b v)
      → has_counts (Some (def.Array e b v)) (tree.Arr m o) ks ≡ true → AllFew depth (replicate (count ks) e.0) (n + 1) ks → ones (replicate (count ks) e.0) ≡ 0
      → 1 ≤ least (B t n (def.Array e b v) (tree.Arr m o) ks) + (least (I n (def.Array e b v) (tree.Arr m o) ks) + one (hoists table t))
  array_some depth t n e None v m o ks et c few z =
      let y : one (hoists table t) ≡ 1 = ap one (laid.unfolds t ∙ ap (hoists_by (hoists table)) et) in
      omega arith
  array_some depth t n e (Some b) true m o ks et c few z = omega arith
  array_some depth t n e (Some b) false m o ks et c few z =
      let (x, y) = and_parts _ _ c in
      let (u, q) = and_parts _ _ x in
      let mb : m ≡ b = eqb-true m b u in
      let km : count ks ≡ m = eqb-true (count ks) m y in
      let k : length (replicate (count ks) e.0) ≡ count ks = length-replicate (count ks) e.0 in
      let w : 1 ≤ b = bounds t e b false et in
      omega (arith, z, few.some (omega (arith, mb, km, k, w)))

  tag_some : (n : ℕ) (dt : Option TypeDef) (arms : List Arm) (default : Option Arm) (v : ℤ) → AllByRecursion HasPassed (tag_entries dt arms default v)
      → 1 ≤ least (entries h n (tag_entries dt arms default v))
  tag_some n (Some (def.Prim p)) arms default v a = let w = some_width p in omega arith
  tag_some n (Some (def.Enum vs)) arms default v a = omega arith
  tag_some n None arms default v a = absurd a.0
  tag_some n (Some _) arms default v a = absurd a.0

  node_few : (depth t n : ℕ) (d : TypeDef) (l : Label) (ks : Trees) → type_at table t ≡ Some d → AllFew depth (child_types (Some d) l ks) (n + 1) ks
      → AllByRecursion HasPassed (before_children table t (Some d) l ks) → has_counts (Some d) l ks ≡ true → has_shape (Some d) l ks ≡ true
      → Bound (suc depth) (least (node_entries table h t (Some d) n (node l ks)) + one (hoists table t)) (tree_nodes (node l ks))
  node_few depth t n (def.Prim p) (tree.Num z) ks e few own counts shape =
      closes depth t n (def.Prim p) (tree.Num z) ks few (omega arith) (let w = some_width p in omega arith)
  node_few depth t n (def.Enum vs) (tree.Num z) ks e few own counts shape = closes depth t n (def.Enum vs) (tree.Num z) ks few (omega arith) (omega arith)
  node_few depth t n (def.Struct ms) tree.Rec ks e few own counts shape =
      let o : ones (map (λ f. f.of.0) ms) ≡ one (hoists table t) = struct_ones t ms e in
      let k : 1 ≤ length ms = members t ms e in
      let f : length (map (λ f. f.of.0) ms) ≡ length ms = mapped (λ f. f.of.0) ms in
      closes depth t n (def.Struct ms) tree.Rec ks few (omega arith) (omega (arith, o, few.some (omega arith)))
  node_few depth t n (def.Array x b v) (tree.Arr m o) ks e few own counts shape =
      let z : ones (replicate (count ks) x.0) ≡ 0 = many_ones x.0 (count ks) (laid.element t x b v e) in
      closes depth t n (def.Array x b v) (tree.Arr m o) ks few (omega arith) (array_some depth t n x b v m o ks e counts few z)
  node_few depth t n (def.Text x b) (tree.Text m os) ks e few own counts shape = closes depth t n (def.Text x b) (tree.Text m os) ks few (omega arith) (omega arith)
  node_few depth t n (def.Union tag enc arms default) (tree.Union v) ks e few own counts shape =
      let z : ones (selected_types (selected arms default v)) ≡ 0 = no_ones (selected_types (selected arms default v)) (laid.arms t tag enc arms default v e) in
      closes depth t n (def.Union tag enc arms default) (tree.Union v) ks few (omega arith) (let w = tag_some n (type_at table tag.0) arms default v own in omega arith)
  node_few depth t n (def.Pointer k to) (tree.Ptr c) ks e few own counts shape = closes depth t n (def.Pointer k to) (tree.Ptr c) ks few (omega arith) (omega arith)
  node_few depth t n def.Context (tree.Context a i) ks e few own counts shape = closes depth t n def.Context (tree.Context a i) ks few (omega arith) (omega arith)
  node_few depth t n (def.Pipe x) l ks e few own counts shape = absurd own.0
  node_few depth t n _ _ ks e few own counts shape = cc

  made_few : (depth t n : ℕ) (d : TypeDef) → type_at table t ≡ Some d → AllByRecursion (Few depth) (parts (Some d)) → (l : Label) (ks : Trees) → MadeNode table (Some d) l ks
      → MadeTrees table (child_types (Some d) l ks) ks → AllByRecursion Passed (node_entries table h t (Some d) n (node l ks))
      → Bound (suc depth) (least (node_entries table h t (Some d) n (node l ks)) + one (hoists table t)) (tree_nodes (node l ks))
  made_few depth t n d e a l ks made kids p = by_made made
    where
      own : AllByRecursion HasPassed (before_children table t (Some d) l ks)
      own = passed_kinds h n (before_children table t (Some d) l ks) (all_left Passed (B t n d l ks) (I n d l ks ++ child_tests h (child_agreements (Some d) ks) (n + 1) ks) p)

      few : AllFew depth (child_types (Some d) l ks) (n + 1) ks
      few =
          list_few depth (child_types (Some d) l ks) (in_parts (Few depth) (Some d) l ks a) (n + 1) ks kids
          (all_left Passed (I n d l ks) (child_tests h (child_agreements (Some d) ks) (n + 1) ks)
          (all_right Passed (B t n d l ks) (I n d l ks ++ child_tests h (child_agreements (Some d) ks) (n + 1) ks) p))

      by_made : MadeNode table (Some d) l ks → Bound (suc depth) (least (node_entries table h t (Some d) n (node l ks)) + one (hoists table t)) (tree_nodes (node l ks))
      by_made (inl u) = absurd (unread_entry table t (Some d) ks (subst (λ k. AllByRecursion HasPassed (before_children table t (Some d) k ks)) u own))
      by_made (inr f) = node_few depth t n d l ks e few own f.counts f.shape

  -- the nodes of a value that nests so deep
  pub value_few : (depth t : ℕ) → Readable table depth t → Few depth t
  value_few zero t r n v m p = absurd r
  value_few (suc depth) t (d, e, f, a) n (node l ks) m p =
      subst (λ u. Bound (suc depth) (least (node_entries table h t u n (node l ks)) + one (hoists table t)) (tree_nodes (node l ks))) (sym e)
      (made_few depth t n d e (all_few (parts (Some d)) a (value_few depth)) l ks (subst (λ u. MadeNode table u l ks) e m.0)
      (subst (λ u. MadeTrees table (child_types u l ks) ks) e m.1) (subst (λ u. AllByRecursion Passed (node_entries table h t u n (node l ks))) e p))
    where
      all_few : (ts : List ℕ) → AllByRecursion (Readable table depth) ts → ((t : ℕ) → Readable table depth t → Few depth t) → AllByRecursion (Few depth) ts
      all_few [] a law = tt
      all_few (t ∷ ts) a law = (law t a.0, all_few ts a.1 law)

module _ (table : Table) (operations : List Operation) (legal : IsLegal table operations) where
  pub some_members : (t : ℕ) (ms : List Field) → type_at table t ≡ Some (def.Struct ms) → 1 ≤ length ms
  some_members t ms e = go ms (passes_at has_member table t (def.Struct ms) legal.members e)
    where
      go : (ms : List Field) → has_member (def.Struct ms) ≡ true → 1 ≤ length ms
      go [] h = cc
      go (m ∷ ms) h = omega arith

  pub some_bound : (t : ℕ) (e : TypeId) (b : ℕ) (v : Bool) → type_at table t ≡ Some (def.Array e (Some b) v) → 1 ≤ b
  some_bound t e b v h =
      let k : has_small_bound (def.Array e (Some b) v) ≡ true = passes_at has_small_bound table t (def.Array e (Some b) v) legal.bounds h in
      let (x, y) = and_parts _ _ k in
      leb-true 1 b x
