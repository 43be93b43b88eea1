-- The nodes of a value that was read are few: at most 32 for each node that takes octets of its own.
use Rattle.std.proofs.Common.{◌≡◌, ℕ, ◌+◌, ◌*◌, ◌≤◌, zero, suc, Bool, true, false, List, [], ◌∷◌, ◌++◌, length, Option, Some, None, refl, ap, sym, ◌∙◌, inl, inr, arith, subst, replicate}
use Rattle.std.specs.Prelude.{map}
use Rattle.std.specs.List.{AllByRecursion}
use Rattle.std.proofs.lemmas.List.{length-replicate}
use Rattle.std.proofs.lemmas.Bool.{and_parts, eqb-true}
use Rattle.nd_types.specs.declared.types.TypeDef.{TypeDef}
use Rattle.nd_types.specs.declared.types.TypeId.{TypeId}
use Rattle.nd_types.specs.declared.types.Field.{Field}
use Rattle.nd_types.specs.declared.types.TypeDef.TheVariants as def
use Rattle.nd_types.specs.Table.{Table, type_at, selected}
use Rattle.nd_types.specs.Layout.{parts, hoists, hoists_by}
use Rattle.nd_value.specs.Tree as tree
use Rattle.nd_value.specs.Tree.{Tree, Trees, node, none, more, Label, Flat, flat, count, node_count, joined}
use Rattle.nd_value.specs.Nodes.{child_types, selected_types}
use Rattle.nd_value.specs.Misfit.{has_shape, has_counts}
use Rattle.nd_value.specs.Setting.{Setting}
use Rattle.nd_value.proofs.Apart.{all_left, all_right}
use Rattle.nd_grammar.specs.LegalSide.{IsLegalSide}
use Rattle.nd_grammar.specs.Reader.{tree_nodes}
use Rattle.nd_grammar.proofs.LegalSides.{laid_out}
use Rattle.nd_grammar.proofs.legal.LegalUsable.{usable_readable, children_usable}
use Rattle.nd_grammar.specs.ReaderState.{Usable}
use Rattle.nd_grammar.proofs.next.HoistedMaxes.{HoistsLast, OnlyLast, last_of, struct_last}
use Rattle.nd_grammar.proofs.next.Mapped.{in_parts}
use Rattle.nd_grammar.proofs.reader.FewNodes.{one, Bound, some_members, some_bound, one_deeper, times_sum}
use Rattle.nd_grammar.specs.MadeTrees.{MadeNode, MadeTrees, MadeTree}
use Rattle.nd_grammar.proofs.reader.ReaderInPlace.{Fine, Readable}
use Rattle.ndr_decoder_laws.specs.runs.Paid.{array_paid, label_paid, paid, IsRead, AllRead}
use Rattle.ndr_decoder_laws.proofs.runs.PaidSteps.{paid_append}
use Rattle.nd_grammar.proofs.conforming.StreamConforms.{one_few as one_at_most}
use Rattle.nd_lemmas.proofs.Lists.{length_map as mapped}

-- what trees take, and that they were read
abbrev pub trees_paid : Trees → ℕ
trees_paid none = 0
trees_paid (more (node l ks) ts) = label_paid l (count ks) + trees_paid ks + trees_paid ts

abbrev pub TreesRead : Trees → Type 0
TreesRead none = Unit {0}
TreesRead (more (node l ks) ts) = IsRead l × TreesRead ks × TreesRead ts

abbrev pub tree_paid : Tree → ℕ
tree_paid (node l ks) = label_paid l (count ks) + trees_paid ks

abbrev pub TreeRead : Tree → Type 0
TreeRead (node l ks) = IsRead l × TreesRead ks

pub flat_paid : (ts : Trees) → paid (flat ts) ≡ trees_paid ts
flat_paid none = refl
flat_paid (more (node l ks) ts) =
    let e : paid (flat ks ++ flat ts) ≡ paid (flat ks) + paid (flat ts) = paid_append (flat ks) (flat ts) in
    let a : paid (flat ks) ≡ trees_paid ks = flat_paid ks in
    let b : paid (flat ts) ≡ trees_paid ts = flat_paid ts in
    omega (arith, e, a, b)

pub flat_read : (ts : Trees) → AllRead (flat ts) → TreesRead ts
flat_read none r = tt
flat_read (more (node l ks) ts) r = (
  r.0,
  flat_read ks (all_left (λ (x : Flat). IsRead x.0) (flat ks) (flat ts) r.1),
  flat_read ts (all_right (λ (x : Flat). IsRead x.0) (flat ks) (flat ts) r.1),
)

-- an array with a bound is paid by itself, or by its elements
by_count : (m c y : ℕ) → 1 ≤ m → (1 ≤ c → 1 ≤ y) → 1 ≤ array_paid m c + y
by_count zero c y l h = absurd (omega (arith, l))
by_count (suc m) zero y l h = omega arith
by_count (suc m) (suc c) y l h = let k : 1 ≤ y = h (omega arith) in omega (arith, k)

module _ (table : Table) (laid : HoistsLast table) (members : (t : ℕ) (ms : List Field) → type_at table t ≡ Some (def.Struct ms) → 1 ≤ length ms)
    (bounds : (t : ℕ) (e : TypeId) (b : ℕ) (v : Bool) → type_at table t ≡ Some (def.Array e (Some b) v) → 1 ≤ b) where
  abbrev ones : List ℕ → ℕ
  ones [] = 0
  ones (t ∷ ts) = one (hoists table t) + ones ts

  last_ones : (ts : List ℕ) → OnlyLast (hoists table) ts → ones ts ≡ one (last_of (hoists table) ts)
  last_ones [] a = refl
  last_ones (t ∷ []) a = omega arith
  last_ones (t ∷ u ∷ ts) a =
      let e : one (hoists table t) ≡ 0 = ap one a.0 in
      let f : ones (u ∷ ts) ≡ one (last_of (hoists table) (u ∷ ts)) = last_ones (u ∷ ts) a.1 in
      omega (arith, e, f)

  no_ones : (ts : List ℕ) → AllByRecursion (λ t. hoists table t ≡ false) ts → ones ts ≡ 0
  no_ones [] a = refl
  no_ones (t ∷ ts) a =
      let e : one (hoists table t) ≡ 0 = ap one a.0 in
      let f : ones ts ≡ 0 = no_ones ts a.1 in
      omega (arith, e, f)

  many_ones : (t k : ℕ) → hoists table t ≡ false → ones (replicate k t) ≡ 0
  many_ones t zero e = refl
  many_ones t (suc k) e =
      let f : one (hoists table t) ≡ 0 = ap one e in
      let g : ones (replicate k t) ≡ 0 = many_ones t k e in
      omega (arith, f, g)

  ones_append : (us vs : List ℕ) → ones us ≤ ones (us ++ vs)
  ones_append [] vs = omega arith
  ones_append (u ∷ us) vs = let e : ones us ≤ ones (us ++ vs) = ones_append us vs in omega (arith, e)

  struct_ones : (t : ℕ) (ms : List Field) → type_at table t ≡ Some (def.Struct ms) → ones (map (λ f. f.of.0) ms) ≡ one (hoists table t)
  struct_ones t ms e =
      last_ones (map (λ f. f.of.0) ms) (laid.members t ms e)
      ∙ ap one (sym (struct_last (hoists table) ms) ∙ ap (hoists_by (hoists table)) (sym e) ∙ sym (laid.unfolds t))

  -- of the children of a node one hoists at most
  child_ones : (t : ℕ) (d : Option TypeDef) (l : Label) (ks : Trees) → type_at table t ≡ d → ones (child_types d l ks) ≤ 1
  child_ones t (Some (def.Struct ms)) tree.Rec ks e =
      let a : ones (map (λ f. f.of.0) ms) ≡ one (hoists table t) = struct_ones t ms e in
      let b : one (hoists table t) ≤ 1 = one_at_most (hoists table t) in omega (arith, a, b)
  child_ones t (Some (def.Array x b v)) (tree.Arr m o) ks e =
      let z : ones (replicate (count ks) x.0) ≡ 0 = many_ones x.0 (count ks) (laid.element t x b v e) in omega (arith, z)
  child_ones t (Some (def.Union tag enc arms default)) (tree.Union v) ks e =
      let z : ones (selected_types (selected arms default v)) ≡ 0 = no_ones (selected_types (selected arms default v)) (laid.arms t tag enc arms default v e) in omega (arith, z)
  child_ones t (Some (def.Pipe x)) tree.Pipe ks e =
      let z : ones (replicate (count ks) x.0) ≡ 0 = many_ones x.0 (count ks) (laid.piped t x e) in omega (arith, z)
  child_ones t _ _ ks e = omega arith

  abbrev Few : ℕ → ℕ → Type 0
  Few depth t = (v : Tree) → MadeTree table (type_at table t) v → TreeRead v → Bound depth (tree_paid v + one (hoists table t)) (tree_nodes v)

  record AllFew (depth : ℕ) (types : List ℕ) (ts : Trees) : Type 0 where
    pub below : node_count ts ≤ depth * (trees_paid ts + ones types)
    pub some : 1 ≤ length types → 1 ≤ trees_paid ts + ones types

  list_few : (depth : ℕ) (types : List ℕ) → AllByRecursion (Few depth) types → (ts : Trees) → MadeTrees table types ts → TreesRead ts → AllFew depth types ts
  list_few depth [] a none m p = record { below = omega arith; some = λ h. absurd (omega (arith, h)) }
  list_few depth [] a (more t ts) m p = absurd m
  list_few depth (t ∷ types) a none m p = absurd m
  list_few depth (t ∷ types) a (more (node l ks) ts) m p =
      let v : Tree = node l ks in
      let b : Bound depth (tree_paid v + one (hoists table t)) (tree_nodes v) = a.0 v (m.0, m.1) (p.0, p.1) in
      let c : AllFew depth types ts = list_few depth types a.1 ts m.2 p.2 in
      let x : ℕ = tree_paid v + one (hoists table t) in
      let y : ℕ = trees_paid ts + ones types in
      let z : trees_paid (more v ts) + ones (t ∷ types) ≡ x + y = omega arith in
      let d : depth * (x + y) ≡ depth * x + depth * y = times_sum depth x y in
      record {
        below = subst (λ u. node_count (more v ts) ≤ depth * u) (sym z) (omega (arith, d, b.below, c.below));
        some = λ k. omega (arith, z, b.some);
      }

  -- a node, by what it takes itself
  closes : (depth t : ℕ) (d : TypeDef) (l : Label) (ks : Trees) → AllFew depth (child_types (Some d) l ks) ks → ones (child_types (Some d) l ks) ≤ one (hoists table t)
      → 1 ≤ label_paid l (count ks) + (trees_paid ks + one (hoists table t)) → Bound (suc depth) (tree_paid (node l ks) + one (hoists table t)) (tree_nodes (node l ks))
  closes depth t d l ks few fewer some =
      one_deeper depth (trees_paid ks + ones (child_types (Some d) l ks)) (tree_paid (node l ks) + one (hoists table t)) (node_count ks) (tree_nodes (node l ks))
      few.below (omega (arith, fewer)) (omega (arith, some)) (omega arith)

  array_some : (depth t : ℕ) (e : TypeId) (b : Option ℕ) (v : Bool) (m o : ℕ) (ks : Trees) → type_at table t ≡ Some (def.Array e b v)
      → has_counts (Some (def.Array e b v)) (tree.Arr m o) ks ≡ true → AllFew depth (replicate (count ks) e.0) ks → ones (replicate (count ks) e.0) ≡ 0
      → 1 ≤ array_paid m (count ks) + (trees_paid ks + one (hoists table t))
  array_some depth t e None v m o ks et c few z =
      let y : one (hoists table t) ≡ 1 = ap one (laid.unfolds t ∙ ap (hoists_by (hoists table)) et) in
      omega (arith, y)
  array_some depth t e (Some b) v m o ks et c few z =
      by_count m (count ks) (trees_paid ks + one (hoists table t)) (let w : 1 ≤ b = bounds t e b v et in let k : m ≡ b = bound_is v c in omega (arith, w, k))
      (λ h. let k : length (replicate (count ks) e.0) ≡ count ks = length-replicate (count ks) e.0 in let s : 1 ≤ trees_paid ks + ones (replicate (count ks) e.0) = few.some (omega (arith, k, h)) in
      omega (arith, s, z))
    where
      bound_is : (v : Bool) → has_counts (Some (def.Array e (Some b) v)) (tree.Arr m o) ks ≡ true → m ≡ b
      bound_is true h = eqb-true m b h
      bound_is false h = let (x, y) = and_parts _ _ h in let (u, q) = and_parts _ _ x in eqb-true m b u

  node_few : (depth t : ℕ) (d : TypeDef) (l : Label) (ks : Trees) → type_at table t ≡ Some d → Fine table d → AllFew depth (child_types (Some d) l ks) ks
      → has_counts (Some d) l ks ≡ true → has_shape (Some d) l ks ≡ true → Bound (suc depth) (tree_paid (node l ks) + one (hoists table t)) (tree_nodes (node l ks))
  node_few depth t (def.Prim p) (tree.Num z) ks e fine few counts shape = closes depth t (def.Prim p) (tree.Num z) ks few (omega arith) (omega arith)
  node_few depth t (def.Enum vs) (tree.Num z) ks e fine few counts shape = closes depth t (def.Enum vs) (tree.Num z) ks few (omega arith) (omega arith)
  node_few depth t (def.Struct ms) tree.Rec ks e fine few counts shape =
      let o : ones (map (λ f. f.of.0) ms) ≡ one (hoists table t) = struct_ones t ms e in
      let k : 1 ≤ length ms = members t ms e in
      let f : length (map (λ f. f.of.0) ms) ≡ length ms = mapped (λ f. f.of.0) ms in
      let s : 1 ≤ trees_paid ks + ones (map (λ f. f.of.0) ms) = few.some (omega (arith, k, f)) in
      closes depth t (def.Struct ms) tree.Rec ks few (omega (arith, o)) (omega (arith, o, s))
  node_few depth t (def.Array x b v) (tree.Arr m o) ks e fine few counts shape =
      let z : ones (replicate (count ks) x.0) ≡ 0 = many_ones x.0 (count ks) (laid.element t x b v e) in
      closes depth t (def.Array x b v) (tree.Arr m o) ks few (omega (arith, z)) (array_some depth t x b v m o ks e counts few z)
  node_few depth t (def.Text x b) (tree.Text m os) ks e fine few counts shape = closes depth t (def.Text x b) (tree.Text m os) ks few (omega arith) (omega arith)
  node_few depth t (def.Union tag enc arms default) (tree.Union v) ks e fine few counts shape =
      let z : ones (selected_types (selected arms default v)) ≡ 0 = no_ones (selected_types (selected arms default v)) (laid.arms t tag enc arms default v e) in
      closes depth t (def.Union tag enc arms default) (tree.Union v) ks few (omega (arith, z)) (omega arith)
  node_few depth t (def.Pointer k to) (tree.Ptr c) ks e fine few counts shape = closes depth t (def.Pointer k to) (tree.Ptr c) ks few (omega arith) (omega arith)
  node_few depth t def.Context (tree.Context a i) ks e fine few counts shape = closes depth t def.Context (tree.Context a i) ks few (omega arith) (omega arith)
  node_few depth t (def.Pipe x) l ks e fine few counts shape = absurd fine
  node_few depth t _ _ ks e fine few counts shape = cc

  made_few : (depth t : ℕ) (d : TypeDef) → type_at table t ≡ Some d → Fine table d → AllByRecursion (Few depth) (parts (Some d)) → (l : Label) (ks : Trees) → MadeNode table (Some d) l ks
      → MadeTrees table (child_types (Some d) l ks) ks → TreeRead (node l ks) → Bound (suc depth) (tree_paid (node l ks) + one (hoists table t)) (tree_nodes (node l ks))
  made_few depth t d e fine a l ks made kids p = by_made made
    where
      by_made : MadeNode table (Some d) l ks → Bound (suc depth) (tree_paid (node l ks) + one (hoists table t)) (tree_nodes (node l ks))
      by_made (inl u) = absurd (subst IsRead u p.0)
      by_made (inr f) = node_few depth t d l ks e fine (list_few depth (child_types (Some d) l ks) (in_parts (Few depth) (Some d) l ks a) ks kids p.1) f.counts f.shape

  -- the nodes of a value that nests so deep
  value_few : (depth t : ℕ) → Readable table depth t → Few depth t
  value_few zero t r v m p = absurd r
  value_few (suc depth) t (d, e, fine, a) (node l ks) m p =
      made_few depth t d e fine (all_few (parts (Some d)) a (value_few depth)) l ks (subst (λ u. MadeNode table u l ks) e m.0) (subst (λ u. MadeTrees table (child_types u l ks) ks) e m.1) p
    where
      all_few : (ts : List ℕ) → AllByRecursion (Readable table depth) ts → ((t : ℕ) → Readable table depth t → Few depth t) → AllByRecursion (Few depth) ts
      all_few [] a law = tt
      all_few (t ∷ ts) a law = (law t a.0, all_few ts a.1 law)

  -- the first of the children of a node, where types of them nest 32 deep at most
  first_few : (t : ℕ) (l : Label) (ks : Trees) (us vs : List ℕ) → child_types (type_at table t) l ks ≡ us ++ vs → AllByRecursion (Readable table 32) (us ++ vs) → (xs : Trees)
      → MadeTrees table us xs → TreesRead xs → node_count xs ≤ 32 * trees_paid xs + 32
  first_few t l ks us vs e readable xs m p =
      let few : AllFew 32 us xs = list_few 32 us (all_of us (all_left (Readable table 32) us vs readable)) xs m p in
      let a : ones us ≤ ones (us ++ vs) = ones_append us vs in
      let b : ones (us ++ vs) ≤ 1 = subst (λ ts. ones ts ≤ 1) e (child_ones t (type_at table t) l ks refl) in
      omega (arith, few.below, a, b)
    where
      all_of : (ts : List ℕ) → AllByRecursion (Readable table 32) ts → AllByRecursion (Few 32) ts
      all_of [] a = tt
      all_of (t ∷ ts) a = (value_few 32 t a.0, all_of ts a.1)

-- trees of types in two parts
pub made_first : (table : Table) (types : List ℕ) (xs ys : Trees) → MadeTrees table types (joined xs ys)
    → (us : List ℕ) × (vs : List ℕ) × (types ≡ us ++ vs) × MadeTrees table us xs × MadeTrees table vs ys
made_first table types none ys m = ([], types, refl, tt, m)
made_first table [] (more t xs) ys m = absurd m
made_first table (t ∷ types) (more (node l ks) xs) ys m =
    let (us, vs, e, a, b) = made_first table types xs ys m.2 in (t ∷ us, vs, ap (λ ts. t ∷ ts) e, (m.0, m.1, a), b)

module _ (w : Setting) (side : IsLegalSide w) where
  children_readable : (t : ℕ) (l : Label) (ks : Trees) → AllByRecursion (Readable w.table 32) (child_types (type_at w.table t) l ks)
  children_readable t l ks = all_of (child_types (type_at w.table t) l ks) (children_usable w.table side.operations side.legal t l ks)
    where
      all_of : (ts : List ℕ) → AllByRecursion (Usable w.table) ts → AllByRecursion (Readable w.table 32) ts
      all_of [] a = tt
      all_of (t ∷ ts) a = (usable_readable w.table side.operations side.legal t a.0, all_of ts a.1)

  -- the first of the children of a node that was made are few
  pub few_first : (t : ℕ) (l : Label) (xs ys : Trees) → MadeTree w.table (type_at w.table t) (node l (joined xs ys)) → TreesRead xs → node_count xs ≤ 32 * trees_paid xs + 32
  few_first t l xs ys made p =
      let (us, vs, e, a, b) = made_first w.table (child_types (type_at w.table t) l (joined xs ys)) xs ys made.1 in
      first_few w.table (laid_out w side).hoisting (some_members w.table side.operations side.legal) (some_bound w.table side.operations side.legal) t l (joined xs ys) us vs e
      (subst (AllByRecursion (Readable w.table 32)) e (children_readable t l (joined xs ys))) xs a p
