-- The second pass, as it goes over the pointers, finds the first that shares its cell wrongly.
use Rattle.std.proofs.Common.{◌≡◌, ℕ, ◌+◌, ◌<◌, zero, suc, Bool, true, false, not, ◌&&◌, eqb, List, [], ◌∷◌, ◌++◌, length, Option, Some, None, refl, ap, ap₂, sym, ◌∙◌, arith, subst, map, cond, set}
use Rattle.std.proofs.Common.{replicate}
use Rattle.std.specs.Prelude.{◌||◌, flat_map}
use Rattle.std.specs.List.{list_any, AllByRecursion}
use Rattle.std.proofs.lemmas.Bool.{eqb-true, eq-eqb, ne_eqb, eqb-false}
use Rattle.std.proofs.lemmas.List.{append-nil, length-set, length-replicate}
use Rattle.nd_types.specs.declared.types.TypeDef.{TypeDef}
use Rattle.nd_types.specs.declared.types.TypeDef.TheVariants as def
use Rattle.nd_types.specs.declared.types.Class.{Class}
use Rattle.nd_types.specs.declared.types.Class.TheVariants.{Ref, Unique, Full}
use Rattle.nd_types.specs.declared.types.Operation.{Operation}
use Rattle.nd_types.specs.Table.{Table, type_at}
use Rattle.nd_types.specs.Roots.{Root, named_root}
use Rattle.nd_value.specs.declared.value.Graph.{Graph}
use Rattle.nd_value.specs.declared.item.Home.{Home}
use Rattle.nd_value.specs.declared.item.Home.TheVariants as home
use Rattle.nd_value.specs.declared.misfit.MisfitReason.TheVariants as misfit
use Rattle.nd_value.specs.declared.misfit.Misfit.{Misfit}
use Rattle.nd_value.specs.declared.misfit.Misfit.TheVariants as answer
use Rattle.nd_misfits.specs.declared.pointers.CellPointer.{CellPointer}
use Rattle.nd_misfits.specs.declared.shared.Naming.{Naming}
use Rattle.nd_misfits.specs.declared.shared.Naming.TheVariants.{NotYet, ByFull, ByOther}
use Rattle.nd_value.specs.Tree as tree
use Rattle.nd_value.specs.Tree.{Tree, Trees, Label, node, none, more, node_count, is_pointer, cell_in, Referent}
use Rattle.nd_value.specs.Agreement.{Agreement}
use Rattle.nd_value.specs.Setting.{Setting, root_list, cell_home}
use Rattle.nd_value.specs.Nodes.{TypedNode, nodes_of, child_types, child_agreements, first_agreements, rest_agreements}
use Rattle.nd_value.specs.Deferral.{Pending, pointer, pointer_by, home_pointers}
use Rattle.nd_value.specs.Conforms.{root_pointers, cell_pointers, all_pointers, MisfitAt, is_full, same_cell, clashes, first_shared}
use Rattle.nd_value.specs.Passes.{Tells}
use Rattle.nd_misfits.specs.HomeList.{HomeTree, root_homes, cell_homes, homes_of}
use Rattle.nd_misfits.specs.Pointers.{named_by, named_here, pointers_in, pointers_of_home, pointers_at, pointers_of_homes, NamesBelow, IsWalkable, naming_by, is_clash, naming_of, first_clash}
use Rattle.nd_value.proofs.Misfits.{all_left, all_right, all_both}
use Rattle.std.proofs.lemmas.Grind.{flat_map-append as flat-append}

-- the cell that a pointer names
abbrev pub as_named : Pending → List CellPointer
as_named p = named_by p.cell p.class p.home p.node

named_node : (h : Home) (n : ℕ) (ags : List Agreement) (d : Option TypeDef) (l : Label)
    → flat_map as_named (pointer_by d (is_pointer l) (cell_in l) h n ags) ≡ named_here l d h n
named_node h n ags (Some (def.Pointer class to)) (tree.Ptr c) = append-nil (named_by c class h n)
named_node h n ags (Some (def.Pointer class to)) (tree.Num z) = refl
named_node h n ags (Some (def.Pointer class to)) tree.Rec = refl
named_node h n ags (Some (def.Pointer class to)) (tree.Arr m o) = refl
named_node h n ags (Some (def.Pointer class to)) (tree.Text m os) = refl
named_node h n ags (Some (def.Pointer class to)) (tree.Union v) = refl
named_node h n ags (Some (def.Pointer class to)) (tree.Context a i) = refl
named_node h n ags (Some (def.Pointer class to)) tree.Pipe = refl
named_node h n ags (Some (def.Pointer class to)) tree.Unread = refl
named_node h n ags d (tree.Ptr c) = other d
  where
    other : (d : Option TypeDef) → flat_map as_named (pointer_by d true c h n ags) ≡ named_here (tree.Ptr c) d h n
    other (Some (def.Pointer class to)) = append-nil (named_by c class h n)
    other None = refl
    other (Some _) = refl
named_node h n ags None _ = refl
named_node h n ags (Some _) _ = refl

module _ (table : Table) (h : Home) where
  named_nodes : (types : List ℕ) (ags : List (List Agreement)) (n : ℕ) (vs : Trees)
      → flat_map as_named (flat_map (pointer table h) (nodes_of table types ags n vs)) ≡ pointers_in table h types n vs
  named_nodes types ags n none = refl
  named_nodes [] ags n (more v vs) = refl
  named_nodes (t ∷ types) ags n (more (node l ks) vs) =
      let x : TypedNode = record { node = n; of = t; agreements = first_agreements ags; label = l; kids = ks } in
      let kids : List TypedNode = nodes_of table (child_types (type_at table t) l ks) (child_agreements (type_at table t) ks) (n + 1) ks in
      let rest : List TypedNode = nodes_of table types (rest_agreements ags) (n + 1 + node_count ks) vs in
      let p : TypedNode → List Pending = pointer table h in
      flat-append as_named (p x) (flat_map p (kids ++ rest))
      ∙ ap₂ (λ (a b : List CellPointer). a ++ b) (named_node h n (first_agreements ags) (type_at table t) l)
      (ap (flat_map as_named) (flat-append p kids rest) ∙ flat-append as_named (flat_map p kids) (flat_map p rest)
      ∙ ap₂ (λ (a b : List CellPointer). a ++ b) (named_nodes (child_types (type_at table t) l ks) (child_agreements (type_at table t) ks) (n + 1) ks)
      (named_nodes types (rest_agreements ags) (n + 1 + node_count ks) vs))

  pub named_home : (t : ℕ) (v : Tree) → flat_map as_named (home_pointers table h t v) ≡ pointers_of_home table h t v
  named_home t v = named_nodes (t ∷ []) [] 0 (more v none)

module _ (table : Table) where
  pub named_roots : (o : Operation) (i : ℕ) (rs : List Root) (vs : List Tree)
      → flat_map as_named (root_pointers table i rs vs) ≡ pointers_of_homes table (root_homes i (map (named_root o) rs) vs)
  named_roots o i [] vs = refl
  named_roots o i (r ∷ rs) [] = refl
  named_roots o i (r ∷ rs) (v ∷ vs) =
      flat-append as_named (home_pointers table (home.Root i) r.of v) (root_pointers table (i + 1) rs vs)
      ∙ ap₂ (λ (a b : List CellPointer). a ++ b) (named_home table (home.Root i) r.of v) (named_roots o (i + 1) rs vs)

  pub named_cells : (c : ℕ) (xs : List Referent) → flat_map as_named (cell_pointers table c xs) ≡ pointers_of_homes table (cell_homes c xs)
  named_cells c [] = refl
  named_cells c (x ∷ xs) =
      flat-append as_named (home_pointers table (cell_home c) x.of x.val) (cell_pointers table (c + 1) xs)
      ∙ ap₂ (λ (a b : List CellPointer). a ++ b) (named_home table (cell_home c) x.of x.val) (named_cells (c + 1) xs)

pub all_named : (w : Setting) (g : Graph) → flat_map as_named (all_pointers w g) ≡ pointers_of_homes w.table (homes_of (map (named_root w.op) (root_list w)) g)
all_named w g =
    flat-append as_named (root_pointers w.table 0 (root_list w) g.roots) (cell_pointers w.table 1 g.cells)
    ∙ ap₂ (λ (a b : List CellPointer). a ++ b) (named_roots w.table w.op 0 (root_list w) g.roots) (named_cells w.table 1 g.cells)
    ∙ sym (flat-append (λ (h : HomeTree). pointers_of_home w.table h.home h.of h.val) (root_homes 0 (map (named_root w.op) (root_list w)) g.roots) (cell_homes 1 g.cells))

-- how two namings of one cell are one
abbrev pub worse : Naming → Naming → Naming
worse ByOther n = ByOther
worse ByFull ByOther = ByOther
worse ByFull n = ByFull
worse NotYet n = n

-- how pointers name a cell
abbrev pub naming_from : List Pending → ℕ → Naming
naming_from [] c = NotYet
naming_from (q ∷ qs) c = elim (same_cell q.cell (Some c)) [ true ↦ worse (naming_by q.class) (naming_from qs c) | false ↦ naming_from qs c ]

clash_more : (j k : Class) (n : Naming) → is_clash (worse (naming_by k) n) j ≡ (not (is_full j && is_full k) || is_clash n j)
clash_more Ref Ref n = refl
clash_more Ref Unique n = refl
clash_more Ref Full NotYet = refl
clash_more Ref Full ByFull = refl
clash_more Ref Full ByOther = refl
clash_more Unique Ref n = refl
clash_more Unique Unique n = refl
clash_more Unique Full NotYet = refl
clash_more Unique Full ByFull = refl
clash_more Unique Full ByOther = refl
clash_more Full Ref n = refl
clash_more Full Unique n = refl
clash_more Full Full NotYet = refl
clash_more Full Full ByFull = refl
clash_more Full Full ByOther = refl

same_now : (j : Class) (n : Naming) → is_clash n j ≡ false → worse (naming_by j) n ≡ naming_by j
same_now Ref n e = refl
same_now Unique n e = refl
same_now Full NotYet e = refl
same_now Full ByFull e = refl
same_now Full ByOther e = cc

turned : (o : Option ℕ) (c : ℕ) → same_cell (Some c) o ≡ same_cell o (Some c)
turned None c = refl
turned (Some d) c = go (eqb c d) refl
  where
    go : (b : Bool) → eqb c d ≡ b → eqb c d ≡ eqb d c
    go true e = e ∙ sym (eq-eqb d c (sym (eqb-true c d e)))
    go false e = e ∙ sym (ne_eqb d c (λ s. eqb-false c d e (sym s)))

-- a pointer clashes with earlier ones exactly if it clashes with how they name its cell
clash_any : (p : Pending) (c : ℕ) → p.cell ≡ Some c → (qs : List Pending) → is_clash (naming_from qs c) p.class ≡ list_any (clashes p) qs
clash_any p c e [] = refl
clash_any p c e (q ∷ qs) =
    let s : same_cell p.cell q.cell ≡ same_cell q.cell (Some c) = ap (λ o. same_cell o q.cell) e ∙ turned q.cell c in
    go (clash_any p c e qs) (same_cell q.cell (Some c)) ∙ ap (λ b. (b && not (is_full p.class && is_full q.class)) || list_any (clashes p) qs) (sym s)
  where
    go : is_clash (naming_from qs c) p.class ≡ list_any (clashes p) qs → (b : Bool) → is_clash (elim b [ true ↦ worse (naming_by q.class) (naming_from qs c) | false ↦ naming_from qs c ]) p.class
        ≡ ((b && not (is_full p.class && is_full q.class)) || list_any (clashes p) qs)
    go r true = clash_more p.class q.class (naming_from qs c) ∙ ap (λ x. not (is_full p.class && is_full q.class) || x) r
    go r false = r

get_set_same : (xs : List Naming) (i : ℕ) (x : Naming) → i < length xs → naming_of (set xs i x) i ≡ x
get_set_same [] i x h = absurd (omega (arith, h))
get_set_same (y ∷ ys) zero x h = refl
get_set_same (y ∷ ys) (suc i) x h = get_set_same ys i x (omega (arith, h))

get_set_other : (xs : List Naming) (i j : ℕ) (x : Naming) → (j ≡ i → ⊥) → naming_of (set xs i x) j ≡ naming_of xs j
get_set_other [] i j x h = refl
get_set_other (y ∷ ys) zero zero x h = absurd (h refl)
get_set_other (y ∷ ys) zero (suc j) x h = refl
get_set_other (y ∷ ys) (suc i) zero x h = refl
get_set_other (y ∷ ys) (suc i) (suc j) x h = get_set_other ys i j x (λ e. h (ap suc e))

-- what is noted of the cells is how the earlier pointers name them
pub record Noted (limit : ℕ) (names : List Naming) (earlier : List Pending) : Type 0 where
  pub many : length names ≡ limit
  pub each : (c : ℕ) → c < limit → naming_of names c ≡ naming_from earlier c

null_named : (p : Pending) (qs : List Pending) (c : ℕ) → p.cell ≡ None → naming_from (p ∷ qs) c ≡ naming_from qs c
null_named p qs c e = ap (λ o. elim (same_cell o (Some c)) [ true ↦ worse (naming_by p.class) (naming_from qs c) | false ↦ naming_from qs c ]) e

null_none : (p : Pending) → p.cell ≡ None → (qs : List Pending) → list_any (clashes p) qs ≡ false
null_none p e [] = refl
null_none p e (q ∷ qs) = ap (λ o. (same_cell o q.cell && not (is_full p.class && is_full q.class)) || list_any (clashes p) qs) e ∙ null_none p e qs

module _ (limit : ℕ) where
  noted_on : (names : List Naming) (earlier : List Pending) (p : Pending) (c : ℕ) → p.cell ≡ Some c → c < limit → Noted limit names earlier
      → is_clash (naming_of names c) p.class ≡ false → Noted limit (set names c (naming_by p.class)) (p ∷ earlier)
  noted_on names earlier p c e low s free = record {
    many = length-set names c (naming_by p.class) ∙ s.many;
    each = λ d h. go d h (eqb c d) refl;
  }
    where
      is : (d : ℕ) (b : Bool) → eqb c d ≡ b
          → naming_from (p ∷ earlier) d ≡ elim b [ true ↦ worse (naming_by p.class) (naming_from earlier d) | false ↦ naming_from earlier d ]
      is d b f =
          ap (λ o. elim (same_cell o (Some d)) [ true ↦ worse (naming_by p.class) (naming_from earlier d) | false ↦ naming_from earlier d ]) e
          ∙ ap (λ x. elim x [ true ↦ worse (naming_by p.class) (naming_from earlier d) | false ↦ naming_from earlier d ]) f

      go : (d : ℕ) → d < limit → (b : Bool) → eqb c d ≡ b → naming_of (set names c (naming_by p.class)) d ≡ naming_from (p ∷ earlier) d
      go d h true f =
          let cd : c ≡ d = eqb-true c d f in
          let free' : is_clash (naming_from earlier d) p.class ≡ false =
          ap (λ n. is_clash n p.class) (sym (s.each d h)) ∙ ap (λ x. is_clash (naming_of names x) p.class) (sym cd) ∙ free in
          ap (naming_of (set names c (naming_by p.class))) (sym cd) ∙ get_set_same names c (naming_by p.class) (omega (arith, low, s.many))
          ∙ sym (same_now p.class (naming_from earlier d) free') ∙ sym (is d true f)
      go d h false f =
          get_set_other names c d (naming_by p.class) (λ x. eqb-false c d f (sym x)) ∙ s.each d h ∙ sym (is d false f)

  abbrev pub ClashShared : List Pending → Type 0
  ClashShared ps =
      (names : List Naming) (earlier : List Pending) → Noted limit names earlier → AllByRecursion (NamesBelow limit) (flat_map as_named ps)
      → first_clash names (flat_map as_named ps) ≡ first_shared earlier ps

  pub clash_shared : (ps : List Pending) (names : List Naming) (earlier : List Pending) → Noted limit names earlier
      → AllByRecursion (NamesBelow limit) (flat_map as_named ps) → first_clash names (flat_map as_named ps) ≡ first_shared earlier ps
  clash_shared [] names earlier s h = refl
  clash_shared (p ∷ ps) names earlier s h = by_cell (clash_shared ps) p.cell refl
    where
      by_test : ClashShared ps → (c : ℕ) → p.cell ≡ Some c → c < limit → AllByRecursion (NamesBelow limit) (flat_map as_named ps) → (b : Bool) → is_clash (naming_of names c) p.class ≡ b
          → elim b [ true ↦ Some (record { home = p.home; node = p.node; reason = misfit.Shared }) | false ↦ first_clash (set names c (naming_by p.class)) (flat_map as_named ps) ]
          ≡ cond b (Some (record { home = p.home; node = p.node; reason = misfit.Shared })) (first_shared (p ∷ earlier) ps)
      by_test ih c e low rest true f = refl
      by_test ih c e low rest false f = ih (set names c (naming_by p.class)) (p ∷ earlier) (noted_on names earlier p c e low s f) rest

      by_cell : ClashShared ps → (o : Option ℕ) → p.cell ≡ o → first_clash names (flat_map as_named (p ∷ ps)) ≡ first_shared earlier (p ∷ ps)
      by_cell ih None e =
          let now : as_named p ≡ [] = ap (λ o. named_by o p.class p.home p.node) e in
          let rest : AllByRecursion (NamesBelow limit) (flat_map as_named ps) = all_right (NamesBelow limit) (as_named p) (flat_map as_named ps) h in
          ap (λ xs. first_clash names (xs ++ flat_map as_named ps)) now
          ∙ ih names (p ∷ earlier) (record { many = s.many; each = λ c l. s.each c l ∙ sym (null_named p earlier c e) }) rest
          ∙ ap (λ b. cond b (Some (record { home = p.home; node = p.node; reason = misfit.Shared })) (first_shared (p ∷ earlier) ps)) (sym (null_none p e earlier))
      by_cell ih (Some c) e =
          let one : CellPointer = record { home = p.home; node = p.node; class = p.class; cell = record { 0 = c } } in
          let now : as_named p ≡ one ∷ [] = ap (λ o. named_by o p.class p.home p.node) e in
          let all : AllByRecursion (NamesBelow limit) (one ∷ flat_map as_named ps) = subst (λ xs. AllByRecursion (NamesBelow limit) (xs ++ flat_map as_named ps)) now h in
          let same : is_clash (naming_of names c) p.class ≡ list_any (clashes p) earlier = ap (λ n. is_clash n p.class) (s.each c all.0.1) ∙ clash_any p c e earlier in
          ap (λ xs. first_clash names (xs ++ flat_map as_named ps)) now
          ∙ by_test ih c e all.0.1 all.1 (is_clash (naming_of names c) p.class) refl
          ∙ ap (λ b. cond b (Some (record { home = p.home; node = p.node; reason = misfit.Shared })) (first_shared (p ∷ earlier) ps)) same

none_named : (n c : ℕ) → naming_of (replicate n NotYet) c ≡ NotYet
none_named zero c = refl
none_named (suc n) zero = refl
none_named (suc n) (suc c) = none_named n c

-- the second pass over all pointers of a graph
pub clash_all : (w : Setting) (g : Graph) (limit : ℕ) → AllByRecursion (NamesBelow limit) (pointers_of_homes w.table (homes_of (map (named_root w.op) (root_list w)) g))
    → first_clash (replicate limit NotYet) (pointers_of_homes w.table (homes_of (map (named_root w.op) (root_list w)) g)) ≡ first_shared [] (all_pointers w g)
clash_all w g limit h =
    ap (first_clash (replicate limit NotYet)) (sym (all_named w g))
    ∙ clash_shared limit (all_pointers w g) (replicate limit NotYet) [] (record { many = length-replicate limit NotYet; each = λ c l. none_named limit c })
    (subst (AllByRecursion (NamesBelow limit)) (sym (all_named w g)) h)

-- what is reported of the rest is reported of the whole
pub tells_same : (o a : Option MisfitAt) (e : Misfit) → o ≡ a → Tells a e → Tells o e
tells_same o a e s h = subst (λ x. Tells x e) (sym s) h

-- the pointers of a home before those of others, the home being given twice
pub first_with : (table : Table) (names : List Naming) (x y : HomeTree) (hs : List HomeTree) → x ≡ y
    → first_clash names (pointers_of_homes table (x ∷ hs)) ≡ first_clash names (pointers_at table y ++ pointers_of_homes table hs)
first_with table names x y hs e = ap (λ (h : HomeTree). first_clash names (pointers_at table h ++ pointers_of_homes table hs)) e

-- if memory runs out nothing is said
pub tells_memory : (o : Option MisfitAt) (e : Misfit) → e ≡ answer.Memory → Tells o e
tells_memory o e s = subst (Tells o) (sym s) tt

pub homes_named : (table : Table) (limit : ℕ) (hs : List HomeTree) → AllByRecursion (IsWalkable table limit) hs → AllByRecursion (NamesBelow limit) (pointers_of_homes table hs)
homes_named table limit [] a = tt
homes_named table limit (h ∷ hs) a =
    all_both (NamesBelow limit) (pointers_of_home table h.home h.of h.val) (pointers_of_homes table hs) a.0.named (homes_named table limit hs a.1)

module _ (w : Setting) (g : Graph) (limit : ℕ) (names : List Naming) (hs : List HomeTree) (none : names ≡ replicate limit NotYet)
    (all : hs ≡ root_homes 0 (map (named_root w.op) (root_list w)) g.roots)
    (can : AllByRecursion (IsWalkable w.table limit) (homes_of (map (named_root w.op) (root_list w)) g)) where
  -- the roots can be gone over
  pub roots_walkable : AllByRecursion (IsWalkable w.table (length names)) hs
  roots_walkable =
      subst (λ n. AllByRecursion (IsWalkable w.table n) hs) (sym (ap length none ∙ length-replicate limit NotYet))
      (subst (AllByRecursion (IsWalkable w.table limit)) (sym all)
      (all_left (IsWalkable w.table limit) (root_homes 0 (map (named_root w.op) (root_list w)) g.roots) (cell_homes 1 g.cells) can))

  -- and the cells, where so many cells are named so far
  pub cells_walkable : (many : ℕ) → many ≡ length names → AllByRecursion (IsWalkable w.table many) (cell_homes 1 g.cells)
  cells_walkable many e =
      subst (λ n. AllByRecursion (IsWalkable w.table n) (cell_homes 1 g.cells)) (sym (e ∙ ap length none ∙ length-replicate limit NotYet))
      (all_right (IsWalkable w.table limit) (root_homes 0 (map (named_root w.op) (root_list w)) g.roots) (cell_homes 1 g.cells) can)

  -- the second pass goes over the roots and then the cells, where no cell is named before
  pub clash_is_shared : first_clash names (pointers_of_homes w.table hs ++ pointers_of_homes w.table (cell_homes 1 g.cells)) ≡ first_shared [] (all_pointers w g)
  clash_is_shared =
      ap₂ (λ ns xs. first_clash ns (pointers_of_homes w.table xs ++ pointers_of_homes w.table (cell_homes 1 g.cells))) none all
      ∙ ap (first_clash (replicate limit NotYet)) (sym (flat-append (pointers_at w.table) (root_homes 0 (map (named_root w.op) (root_list w)) g.roots) (cell_homes 1 g.cells)))
      ∙ clash_all w g limit (homes_named w.table limit (homes_of (map (named_root w.op) (root_list w)) g) can)
