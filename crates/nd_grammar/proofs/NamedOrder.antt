-- The order in which cells are named is that in which a stream comes to them.
use Rattle.std.proofs.Common.{◌≡◌, ℕ, ◌+◌, ◌<◌, ◌≤◌, ◌-◌, zero, suc, ℤ, Bool, true, false, List, [], ◌∷◌, ◌++◌, length, Option, Some, None, refl, ap, sym, ◌∙◌, inl, inr, ◌⊎◌, arith, subst, replicate}
use Rattle.std.proofs.Common.{append_assoc, drop}
use Rattle.std.specs.Prelude.{flat_map, map, eqb}
use Rattle.std.specs.List.{AllByRecursion, slice_get}
use Rattle.std.proofs.lemmas.Grind.{flat_map-append}
use Rattle.std.proofs.lemmas.List.{append-nil}
use Rattle.std.proofs.lemmas.Bool.{and_parts, leb-true, eqb-true, cases_lt, both_ways}
use Rattle.nd_types.specs.declared.types.TypeDef.{TypeDef}
use Rattle.nd_types.specs.declared.types.TypeId.{TypeId}
use Rattle.nd_types.specs.declared.types.Arm.{Arm}
use Rattle.nd_types.specs.declared.types.TypeDef.TheVariants as def
use Rattle.nd_types.specs.declared.types.Class.{Class}
use Rattle.nd_types.specs.declared.types.Class.TheVariants.{Ref, Unique, Full}
use Rattle.nd_types.specs.Table.{Table, type_at}
use Rattle.nd_types.specs.Layout.{hoists, hoists_by}
use Rattle.nd_types.specs.Roots.{Root}
use Rattle.nd_value.specs.declared.value.Graph.{Graph}
use Rattle.nd_value.specs.declared.item.Home.{Home}
use Rattle.nd_value.specs.declared.item.Home.TheVariants as home
use Rattle.nd_value.specs.Tree as tree
use Rattle.nd_value.specs.Tree.{Tree, Trees, node, none, more, Label, count, node_count, is_pointer, cell_in, take_trees, drop_trees}
use Rattle.nd_value.specs.Agreement.{Agreement, root_agreements}
use Rattle.nd_value.specs.Canon.{own_cell, target, named, named_cells, has, number_from, canonical_number}
use Rattle.nd_value.specs.Misfit.{has_shape, has_counts}
use Rattle.nd_value.specs.Setting.{Setting, Among, root_list, root_at, or_unread, cell_at, cell_home}
use Rattle.nd_value.specs.Nodes.{TypedNode, nodes_of, child_types, child_agreements, first_agreements, rest_agreements}
use Rattle.nd_value.specs.Deferral.{Pending, pointer, pointer_by, home_pointers, Due, due_root, due_referent, due_roots, before_pipes, Step, Deferral, none_due, at_root, at_null, at_standing}
use Rattle.nd_value.specs.Deferral.{at_referent, Placed_cells, Standing, standing_root, standing_by, standing_cell, root_type, direct, due_of}
use Rattle.nd_value.proofs.Apart.{all_append, all_right, among_left, among_right}
use Rattle.nd_value.proofs.NodeFacts.{IsSound}
use Rattle.nd_value.proofs.FewRoots.{few_before_pipes}
use Rattle.nd_grammar.specs.Entry.{Kind, Entry, Align, Max, Num, Text, Context, Unread, before_children, entries, in_place, tag_entries, tests, own_tests, child_tests, hoisted_max, hoisted}
use Rattle.nd_grammar.specs.Entry.{whole_value}
use Rattle.nd_grammar.specs.Stream.{Stream, step_entries, standing_entries, step_tests, root_test, root_tests, chunks, pipe_entries, pipes_entries}
use Rattle.nd_grammar.specs.NextMark.{cells_met, named_cell}
use Rattle.nd_grammar.specs.LegalSide.{IsLegalSide}
use Rattle.nd_types.specs.declared.types.Operation.{Operation}
use Rattle.nd_types.specs.Legal.{IsLegal, has_small_bound}
use Rattle.nd_types.proofs.LegalLaws.{passes_at}
use Rattle.nd_grammar.proofs.LegalSides.{laid_out}
use Rattle.nd_grammar.proofs.agreements.LegalSubjects.{has_subjects}
use Rattle.nd_grammar.proofs.next.PointerPlaces.{root_there}
use Rattle.nd_grammar.proofs.agreements.StreamFinds.{PendFits, Whole, root_whole, cell_whole, standing_pends, no_root_tests}
use Rattle.nd_grammar.proofs.agreements.TestsFind.{HasSubjects}
use Rattle.nd_grammar.proofs.next.Matching.{Known}
use Rattle.nd_grammar.proofs.next.NextStream.{IsLaidOut, IsPipeRoot, FitsPipes, drop_at}
use Rattle.nd_lemmas.proofs.Lists.{all_at}
use Rattle.nd_grammar.proofs.next.HoistedMaxes.{HoistsLast}
use Rattle.nd_grammar.proofs.next.KnownNodes.{known_roots}
use Rattle.nd_grammar.proofs.next.Mapped.{no_pointers}
use Rattle.nd_grammar.proofs.written.CanonNumbers.{has_among, among_has}
use Rattle.nd_grammar.proofs.ChosenRepresents.{of_named}

-- ## Lists of cells that differ by repetitions

abbrev Within : List ℕ → List ℕ → Type 0
Within xs ys = (x : ℕ) → Among xs x → Among ys x

-- the second is the first with cells put in that were there before, or that stand among the known ones
abbrev Repeats : List ℕ → List ℕ → List ℕ → Type 0
Repeats known ns [] = ns ≡ []
Repeats known ns (b ∷ bs) = (Among known b × Repeats known ns bs) ⊎ ((rest : List ℕ) × (ns ≡ b ∷ rest) × Repeats (b ∷ known) rest bs)

then_repeats : (known ns bs cs ds : List ℕ) → Repeats known ns bs → ((later : List ℕ) → Within known later → Within ns later → Repeats later cs ds)
    → Repeats known (ns ++ cs) (bs ++ ds)
then_repeats known ns [] cs ds r k =
    subst (λ u. Repeats known (u ++ cs) ds) (sym r) (k known (λ x m. m) (λ x m. absurd (subst (λ u. Among u x) r m)))
then_repeats known ns (b ∷ bs) cs ds (inl (m, r)) k = inl (m, then_repeats known ns bs cs ds r k)
then_repeats known ns (b ∷ bs) cs ds (inr (rest, e, r)) k =
    inr (
      rest ++ cs,
      ap (λ u. u ++ cs) e,
      then_repeats (b ∷ known) rest bs cs ds r (λ later w v.
          k later (λ x m. w x (inr m)) (λ x m. among_b later x w v (subst (λ u. Among u x) e m))),
    )
  where
    among_b : (later : List ℕ) (x : ℕ) → Within (b ∷ known) later → Within rest later → Among (b ∷ rest) x → Among later x
    among_b later x w v (inl e) = w x (inl e)
    among_b later x w v (inr m) = v x m

-- nothing new
all_known : (known bs : List ℕ) → Within bs known → Repeats known [] bs
all_known known [] w = refl
all_known known (b ∷ bs) w = inl (w b (inl refl), all_known known bs (λ x m. w x (inr m)))

abbrev turn : Bool → Bool → ℕ → ℕ → ℕ → ℕ
turn b e n p q = elim b [ true ↦ p | false ↦ elim e [ true ↦ n | false ↦ q ] ]

-- they give each cell one number
one_number : (known ns bs : List ℕ) → Repeats known ns bs → (n : ℕ) (seen : List ℕ) (c : ℕ) → Within known seen → number_from n seen ns c ≡ number_from n seen bs c
one_number known ns [] r n seen c w = ap (λ u. number_from n seen u c) r
one_number known ns (b ∷ bs) (inl (m, r)) n seen c w =
    one_number known ns bs r n seen c w
    ∙ sym (ap (λ t. turn t (eqb c b) n (number_from n seen bs c) (number_from (n + 1) (b ∷ seen) bs c)) (among_has seen b (w b m)))
one_number known ns (b ∷ bs) (inr (rest, e, r)) n seen c w =
    ap (λ u. number_from n seen u c) e
    ∙ go (has seen b) refl (λ v. one_number (b ∷ known) rest bs r n seen c v) (one_number (b ∷ known) rest bs r (n + 1) (b ∷ seen) c with_it)
  where
    with_it : Within (b ∷ known) (b ∷ seen)
    with_it x (inl f) = inl f
    with_it x (inr m) = inr (w x m)

    seen_too : has seen b ≡ true → Within (b ∷ known) seen
    seen_too f x (inl g) = subst (Among seen) (sym g) (has_among seen b f)
    seen_too f x (inr m) = w x m

    go : (t : Bool) → has seen b ≡ t → (Within (b ∷ known) seen → number_from n seen rest c ≡ number_from n seen bs c)
        → number_from (n + 1) (b ∷ seen) rest c ≡ number_from (n + 1) (b ∷ seen) bs c
        → turn t (eqb c b) n (number_from n seen rest c) (number_from (n + 1) (b ∷ seen) rest c) ≡ turn t (eqb c b) n (number_from n seen bs c) (number_from (n + 1) (b ∷ seen) bs c)
    go true f p q = p (seen_too f)
    go false f p q = ap (λ u. elim (eqb c b) [ true ↦ n | false ↦ u ]) q

-- ## Values

abbrev tgt : List Pending → List ℕ
tgt ps = flat_map (λ p. target p.cell) ps

-- the cells that numbers among these kinds name
abbrev in_kinds : List Kind → List ℕ
in_kinds xs = flat_map (λ x. target (named_cell x)) xs

abbrev met : Entry → List ℕ
met m = own_cell m.home ++ target (named_cell m.kind)

met_append : (ms ns : List Entry) → cells_met (ms ++ ns) ≡ cells_met ms ++ cells_met ns
met_append ms ns = flat_map-append met ms ns

self : (known : List ℕ) (o : Option ℕ) → Repeats known (target o) (target o)
self known None = refl
self known (Some c) = inr ([], refl, refl)

tags_none : (d : Option TypeDef) (arms : List Arm) (default : Option Arm) (v : ℤ) → in_kinds (tag_entries d arms default v) ≡ []
tags_none (Some (def.Prim p)) arms default v = refl
tags_none (Some (def.Enum vs)) arms default v = refl
tags_none None arms default v = refl
tags_none (Some _) arms default v = refl

-- the number that stands of a node names what its pointer does
node_names : (table : Table) (t : ℕ) (d : Option TypeDef) (l : Label) (ks : Trees) (h : Home) (n : ℕ) (ags : List Agreement)
    → in_kinds (before_children table t d l ks) ≡ tgt (pointer_by d (is_pointer l) (cell_in l) h n ags)
node_names table t (Some (def.Pointer k to)) (tree.Ptr c) ks h n ags = refl
node_names table t (Some (def.Pointer k to)) _ ks h n ags = refl
node_names table t (Some (def.Array e b true)) (tree.Arr m o) ks h n ags = refl
node_names table t (Some (def.Array e b false)) (tree.Arr m o) ks h n ags = refl
node_names table t (Some (def.Array e b v)) _ ks h n ags = refl
node_names table t (Some (def.Union tag enc arms default)) (tree.Union v) ks h n ags = tags_none (type_at table tag.0) arms default v
node_names table t (Some (def.Union tag enc arms default)) _ ks h n ags = refl
node_names table t (Some (def.Prim p)) (tree.Num z) ks h n ags = refl
node_names table t (Some (def.Prim p)) _ ks h n ags = refl
node_names table t (Some (def.Enum vs)) (tree.Num z) ks h n ags = refl
node_names table t (Some (def.Enum vs)) _ ks h n ags = refl
node_names table t (Some (def.Struct ms)) tree.Rec ks h n ags = refl
node_names table t (Some (def.Struct ms)) _ ks h n ags = refl
node_names table t (Some (def.Text e b)) (tree.Text m os) ks h n ags = refl
node_names table t (Some (def.Text e b)) _ ks h n ags = refl
node_names table t (Some def.Context) (tree.Context a i) ks h n ags = refl
node_names table t (Some def.Context) _ ks h n ags = refl
node_names table t (Some (def.Pipe e)) l ks h n ags = refl
node_names table t None l ks h n ags = refl

hoisted_none : (b : Bool) (l : Label) (m : ℕ) → in_kinds (hoisted b l m) ≡ []
hoisted_none false l m = refl
hoisted_none true tree.Unread m = refl
hoisted_none true _ m = refl

module _ (table : Table) (h : Home) where
  -- the home, where it is a cell, is known
  abbrev Home_known : List ℕ → Type 0
  Home_known known = Within (own_cell h) known

  more_known : (xs ys : List ℕ) → Within xs ys → Home_known xs → Home_known ys
  more_known xs ys w k x m = w x (k x m)

  kinds_repeat : (known : List ℕ) → Home_known known → (n : ℕ) (xs : List Kind) → Repeats known (in_kinds xs) (cells_met (entries h n xs))
  kinds_repeat known k n [] = refl
  kinds_repeat known k n (x ∷ xs) =
      let o : Option ℕ = named_cell x in
      then_repeats known (target o) (own_cell h ++ target o) (in_kinds xs) (cells_met (entries h n xs))
      (then_repeats known [] (own_cell h) (target o) (target o) (all_known known (own_cell h) k) (λ later w v. self later o))
      (λ later w v. kinds_repeat later (more_known known later w k) n xs)

  tests_repeat : (known : List ℕ) → Home_known known → (n : ℕ) (v : Tree) (ags : List Agreement) → Repeats known [] (cells_met (tests h n v ags))
  tests_repeat known k n v [] = refl
  tests_repeat known k n v (a ∷ ags) =
      then_repeats known [] (own_cell h ++ []) [] (cells_met (tests h n v ags))
      (all_known known (own_cell h ++ []) (λ x m. k x (subst (λ u. Among u x) (append-nil (own_cell h)) m)))
      (λ later w u. tests_repeat later (more_known known later w k) n v ags)

  own_repeat : (known : List ℕ) → Home_known known → (b : Bool) (n : ℕ) (v : Tree) (ags : List Agreement) → Repeats known [] (cells_met (own_tests b h n v ags))
  own_repeat known k true n v ags = refl
  own_repeat known k false n v ags = tests_repeat known k n v ags

  child_repeat : (known : List ℕ) → Home_known known → (ags : List (List Agreement)) (n : ℕ) (ts : Trees) → Repeats known [] (cells_met (child_tests h ags n ts))
  child_repeat known k ags n none = refl
  child_repeat known k ags n (more (node l ks) ts) =
      let O : List Entry = own_tests (is_pointer l) h n (node l ks) (first_agreements ags) in
      let R : List Entry = child_tests h (rest_agreements ags) (n + 1 + node_count ks) ts in
      subst (Repeats known []) (sym (met_append O R))
      (then_repeats known [] (cells_met O) [] (cells_met R) (own_repeat known k (is_pointer l) n (node l ks) (first_agreements ags))
      (λ later w v. child_repeat later (more_known known later w k) (rest_agreements ags) (n + 1 + node_count ks) ts))

  -- the pointers of a value and of those after it, and their entries, part by part
  abbrev pointers_of : List ℕ → List (List Agreement) → ℕ → Trees → List Pending
  pointers_of types ags n ts = flat_map (pointer table h) (nodes_of table types ags n ts)

  pointer_parts : (t : ℕ) (types : List ℕ) (ags : List (List Agreement)) (n : ℕ) (l : Label) (ks ts : Trees)
      → tgt (pointers_of (t ∷ types) ags n (more (node l ks) ts))
      ≡ tgt (pointer_by (type_at table t) (is_pointer l) (cell_in l) h n (first_agreements ags))
      ++ (tgt (pointers_of (child_types (type_at table t) l ks) (child_agreements (type_at table t) ks) (n + 1) ks) ++ tgt (pointers_of types (rest_agreements ags) (n + 1 + node_count ks) ts))
  pointer_parts t types ags n l ks ts =
      let kids : List TypedNode = nodes_of table (child_types (type_at table t) l ks) (child_agreements (type_at table t) ks) (n + 1) ks in
      let rest : List TypedNode = nodes_of table types (rest_agreements ags) (n + 1 + node_count ks) ts in
      let P : List Pending = pointer_by (type_at table t) (is_pointer l) (cell_in l) h n (first_agreements ags) in
      flat_map-append (λ (p : Pending). target p.cell) P (flat_map (pointer table h) (kids ++ rest))
      ∙ ap (λ u. tgt P ++ u) (ap tgt (flat_map-append (pointer table h) kids rest)
      ∙ flat_map-append (λ (p : Pending). target p.cell) (flat_map (pointer table h) kids) (flat_map (pointer table h) rest))

  entry_parts : (A B C D : List Entry) → cells_met (A ++ (B ++ (C ++ D))) ≡ cells_met A ++ (cells_met B ++ (cells_met C ++ cells_met D))
  entry_parts A B C D =
      met_append A (B ++ (C ++ D)) ∙ ap (λ u. cells_met A ++ u) (met_append B (C ++ D) ∙ ap (λ u. cells_met B ++ u) (met_append C D))

  place_repeat : (types : List ℕ) (ags : List (List Agreement)) (n : ℕ) (ts : Trees) (known : List ℕ) → Home_known known
      → Repeats known (tgt (pointers_of types ags n ts)) (cells_met (in_place table h types n ts))
  place_repeat [] ags n none known k = refl
  place_repeat [] ags n (more t ts) known k = refl
  place_repeat (t ∷ types) ags n none known k = refl
  place_repeat (t ∷ types) ags n (more (node l ks) ts) known k =
      let d : Option TypeDef = type_at table t in
      let A : List Entry = entries h n (before_children table t d l ks) in
      let B : List Entry = in_place table h (child_types d l ks) (n + 1) ks in
      let C : List Entry = child_tests h (child_agreements d ks) (n + 1) ks in
      let D : List Entry = in_place table h types (n + 1 + node_count ks) ts in
      let P : List ℕ = tgt (pointer_by d (is_pointer l) (cell_in l) h n (first_agreements ags)) in
      let K : List ℕ = tgt (pointers_of (child_types d l ks) (child_agreements d ks) (n + 1) ks) in
      let R : List ℕ = tgt (pointers_of types (rest_agreements ags) (n + 1 + node_count ks) ts) in
      subst (λ u. Repeats known u (cells_met (A ++ (B ++ (C ++ D))))) (sym (pointer_parts t types ags n l ks ts))
      (subst (Repeats known (P ++ (K ++ R))) (sym (entry_parts A B C D))
      (then_repeats known P (cells_met A) (K ++ R) (cells_met B ++ (cells_met C ++ cells_met D))
      (subst (λ u. Repeats known u (cells_met A)) (node_names table t d l ks h n (first_agreements ags)) (kinds_repeat known k n (before_children table t d l ks)))
      (λ l1 w1 v1.
      let k1 : Home_known l1 = more_known known l1 w1 k in
      then_repeats l1 K (cells_met B) R (cells_met C ++ cells_met D) (place_repeat (child_types d l ks) (child_agreements d ks) (n + 1) ks l1 k1) (λ l2 w2 v2.
      let k2 : Home_known l2 = more_known l1 l2 w2 k1 in
      then_repeats l2 [] (cells_met C) R (cells_met D) (child_repeat l2 k2 (child_agreements d ks) (n + 1) ks) (λ l3 w3 v3.
      place_repeat types (rest_agreements ags) (n + 1 + node_count ks) ts l3 (more_known l2 l3 w3 k2))))))

  whole_repeat : (t : ℕ) (v : Tree) (known : List ℕ) → Home_known known → Repeats known (tgt (home_pointers table h t v)) (cells_met (whole_value table h t v))
  whole_repeat t (node l ks) known k =
      let m : ℕ = hoisted_max 0 (more (node l ks) none) in
      let E : List Entry = entries h 0 (hoisted (hoists table t) l m) in
      let I : List Entry = in_place table h (t ∷ []) 0 (more (node l ks) none) in
      let N : List ℕ = tgt (home_pointers table h t (node l ks)) in
      subst (Repeats known N) (sym (met_append E I))
      (then_repeats known [] (cells_met E) N (cells_met I)
      (subst (λ u. Repeats known u (cells_met E)) (hoisted_none (hoists table t) l m) (kinds_repeat known k 0 (hoisted (hoists table t) l m)))
      (λ later w v. place_repeat (t ∷ []) [] 0 (more (node l ks) none) later (more_known known later w k)))

-- ## The referent of a top-level reference pointer, to which the stream comes where it begins

-- of what stands of a node nothing comes before its children in an array alone that does not vary
record IsBare (d : Option TypeDef) (l : Label) : Type 0 where
  pub elem : TypeId
  pub bound : Option ℕ
  pub max : ℕ
  pub offset : ℕ
  pub type_is : d ≡ Some (def.Array elem bound false)
  pub label_is : l ≡ tree.Arr max offset

tags_there : (d : Option TypeDef) (arms : List Arm) (default : Option Arm) (v : ℤ) → tag_entries d arms default v ≡ [] → ⊥
tags_there (Some (def.Prim p)) arms default v e = cc
tags_there (Some (def.Enum vs)) arms default v e = cc
tags_there None arms default v e = cc
tags_there (Some _) arms default v e = cc

bare_before : (table : Table) (t : ℕ) (d : Option TypeDef) (l : Label) (ks : Trees) → before_children table t d l ks ≡ [] → IsBare d l
bare_before table t (Some (def.Array e b false)) (tree.Arr m o) ks f = record { elem = e; bound = b; max = m; offset = o; type_is = refl; label_is = refl }
bare_before table t (Some (def.Array e b true)) (tree.Arr m o) ks f = cc
bare_before table t (Some (def.Array e b v)) _ ks f = cc
bare_before table t (Some (def.Union tag enc arms default)) (tree.Union v) ks f = absurd (tags_there (type_at table tag.0) arms default v f)
bare_before table t (Some (def.Union tag enc arms default)) _ ks f = cc
bare_before table t (Some (def.Prim p)) (tree.Num z) ks f = cc
bare_before table t (Some (def.Prim p)) _ ks f = cc
bare_before table t (Some (def.Enum vs)) (tree.Num z) ks f = cc
bare_before table t (Some (def.Enum vs)) _ ks f = cc
bare_before table t (Some (def.Struct ms)) tree.Rec ks f = cc
bare_before table t (Some (def.Struct ms)) _ ks f = cc
bare_before table t (Some (def.Text e b)) (tree.Text m os) ks f = cc
bare_before table t (Some (def.Text e b)) _ ks f = cc
bare_before table t (Some (def.Pointer k to)) (tree.Ptr c) ks f = cc
bare_before table t (Some (def.Pointer k to)) _ ks f = cc
bare_before table t (Some def.Context) (tree.Context a i) ks f = cc
bare_before table t (Some def.Context) _ ks f = cc
bare_before table t (Some (def.Pipe e)) l ks f = cc
bare_before table t None l ks f = cc

-- a fixed array has an element
pub record HasElements (table : Table) : Type 0 where
  pub least : (t : ℕ) (e : TypeId) (n : ℕ) (v : Bool) → type_at table t ≡ Some (def.Array e (Some n) v) → 1 ≤ n

module _ (table : Table) (laid : HoistsLast table) (elements : HasElements table) (g : Graph) (c : ℕ) where
  abbrev h : Home
  h = cell_home c

  -- the first of these values hoists no maximum count, or it is unread
  abbrev Starts : List ℕ → Trees → Type 0
  Starts (t ∷ types) (more (node l ks) ts) = (hoists table t ≡ false) ⊎ (l ≡ tree.Unread)
  Starts _ _ = ⊥

  now_known : (known : List ℕ) → Home_known table h (c ∷ known)
  now_known known x (inl e) = inl e
  now_known known x (inr m) = absurd m

  first_known : (later us : List ℕ) → Within (c ∷ us) later → Home_known table h later
  first_known later us v x (inl f) = v x (inl f)
  first_known later us v x (inr m) = absurd m

  first_kinds : (known : List ℕ) (n : ℕ) (x : Kind) (xs : List Kind) → Repeats known (c ∷ in_kinds (x ∷ xs)) (cells_met (entries h n (x ∷ xs)))
  first_kinds known n x xs =
      let o : Option ℕ = named_cell x in
      inr (
        target o ++ in_kinds xs,
        refl,
        then_repeats (c ∷ known) (target o) (target o) (in_kinds xs) (cells_met (entries h n xs)) (self (c ∷ known) o) (λ later w v.
            kinds_repeat table h later (more_known table h (c ∷ known) later w (now_known known)) n xs),
      )

  -- elements of an array that has nothing before them
  bare_elements : (t : ℕ) (d : Option TypeDef) (l : Label) (ks : Trees) → type_at table t ≡ d → (hoists table t ≡ false) ⊎ (l ≡ tree.Unread) → IsBare d l
      → (l ≡ tree.Unread) ⊎ ((has_shape d l ks ≡ true) × (has_counts d l ks ≡ true)) → Starts (child_types d l ks) ks
  bare_elements t d l ks e (inr u) b s = let z : tree.Unread ≡ tree.Arr b.max b.offset = sym u ∙ b.label_is in absurd (cc)
  bare_elements t d l ks e (inl p) b (inl u) = let z : tree.Unread ≡ tree.Arr b.max b.offset = sym u ∙ b.label_is in absurd (cc)
  bare_elements t d l ks e (inl p) b (inr s) =
      subst (λ q. Starts (child_types q l ks) ks) (sym b.type_is)
      (subst (λ q. Starts (child_types (Some (def.Array b.elem b.bound false)) q ks) ks) (sym b.label_is)
      (by_bound b.bound (e ∙ b.type_is) (subst (λ q. has_counts q (tree.Arr b.max b.offset) ks ≡ true) b.type_is (subst (λ q. has_counts d q ks ≡ true) b.label_is s.1))))
    where
      some : (n : ℕ) (ks : Trees) → 1 ≤ n → count ks ≡ n → Starts (replicate (count ks) b.elem.0) ks
      some n none low m = absurd (omega arith)
      some n (more (node i xs) ts) low m = inl (laid.element t b.elem b.bound false (e ∙ b.type_is))

      by_bound : (o : Option ℕ) → type_at table t ≡ Some (def.Array b.elem o false) → has_counts (Some (def.Array b.elem o false)) (tree.Arr b.max b.offset) ks ≡ true
          → Starts (replicate (count ks) b.elem.0) ks
      by_bound None f x = absurd (both_ways (hoists table t) p (laid.unfolds t ∙ ap (hoists_by (hoists table)) f))
      by_bound (Some n) f x =
          let (x1, x2) = and_parts _ _ x in
          let (x3, x4) = and_parts _ _ x1 in
          some n ks (elements.least t b.elem n false f) (eqb-true (count ks) b.max x2 ∙ eqb-true b.max n x3)

  -- the entries of a node, its children and what follows
  by_kinds : (t : ℕ) (d : Option TypeDef) (l : Label) (ks : Trees) (n : ℕ) (xs : List Kind) → before_children table t d l ks ≡ xs → (known K R Y Z : List ℕ)
      → (IsBare d l → Repeats known (c ∷ K) Y) → ((later : List ℕ) → Home_known table h later → Repeats later (K ++ R) (Y ++ Z))
      → ((later : List ℕ) → Home_known table h later → Repeats later R Z) → Repeats known (c ∷ (in_kinds xs ++ (K ++ R))) (cells_met (entries h n xs) ++ (Y ++ Z))
  by_kinds t d l ks n [] e known K R Y Z rec both later_then =
      then_repeats known (c ∷ K) Y R Z (rec (bare_before table t d l ks e)) (λ later w v. later_then later (first_known later K v))
  by_kinds t d l ks n (x ∷ xs) e known K R Y Z rec both later_then =
      then_repeats known (c ∷ in_kinds (x ∷ xs)) (cells_met (entries h n (x ∷ xs))) (K ++ R) (Y ++ Z) (first_kinds known n x xs) (λ later w v.
      both later (first_known later (in_kinds (x ∷ xs)) v))

  module _ (t : ℕ) (types : List ℕ) (ags : List (List Agreement)) (n : ℕ) (l : Label) (ks ts : Trees) where
    abbrev kids_names : List ℕ
    kids_names = tgt (pointers_of table h (child_types (type_at table t) l ks) (child_agreements (type_at table t) ks) (n + 1) ks)

    abbrev rest_names : List ℕ
    rest_names = tgt (pointers_of table h types (rest_agreements ags) (n + 1 + node_count ks) ts)

    abbrev kids_met : List ℕ
    kids_met = cells_met (in_place table h (child_types (type_at table t) l ks) (n + 1) ks)

    abbrev tests_met : List ℕ
    tests_met = cells_met (child_tests h (child_agreements (type_at table t) ks) (n + 1) ks)

    abbrev rest_met : List ℕ
    rest_met = cells_met (in_place table h types (n + 1 + node_count ks) ts)

    -- the agreements of the children and the other values, once the cell is known
    others_then : (later : List ℕ) → Home_known table h later → Repeats later rest_names (tests_met ++ rest_met)
    others_then l2 k2 =
        then_repeats l2 [] tests_met rest_names rest_met (child_repeat table h l2 k2 (child_agreements (type_at table t) ks) (n + 1) ks) (λ l3 w3 v3.
        place_repeat table h types (rest_agreements ags) (n + 1 + node_count ks) ts l3 (more_known table h l2 l3 w3 k2))

    -- and the children
    children_then : (later : List ℕ) → Home_known table h later → Repeats later (kids_names ++ rest_names) (kids_met ++ (tests_met ++ rest_met))
    children_then l1 k1 =
        then_repeats l1 kids_names kids_met rest_names (tests_met ++ rest_met)
        (place_repeat table h (child_types (type_at table t) l ks) (child_agreements (type_at table t) ks) (n + 1) ks l1 k1) (λ l2 w2 v2.
        others_then l2 (more_known table h l1 l2 w2 k1))

  first_place : (types : List ℕ) (ags : List (List Agreement)) (n : ℕ) (ts : Trees) (known : List ℕ) → Starts types ts → Known g table types ts
      → Repeats known (c ∷ tgt (pointers_of table h types ags n ts)) (cells_met (in_place table h types n ts))
  first_place [] ags n none known s q = absurd s
  first_place [] ags n (more t ts) known s q = absurd s
  first_place (t ∷ types) ags n none known s q = absurd s
  first_place (t ∷ types) ags n (more (node l ks) ts) known s q =
      let d : Option TypeDef = type_at table t in
      go (before_children table t d l ks) refl (λ b.
      first_place (child_types d l ks) (child_agreements d ks) (n + 1) ks known (bare_elements t d l ks refl s b q.0.shape) (q.1 (read_bare b)))
    where
      read_bare : IsBare (type_at table t) l → l ≡ tree.Unread → ⊥
      read_bare b u = let z : tree.Unread ≡ tree.Arr b.max b.offset = sym u ∙ b.label_is in absurd (cc)

      go : (xs : List Kind) → before_children table t (type_at table t) l ks ≡ xs
          → (IsBare (type_at table t) l → Repeats known (c ∷ tgt (pointers_of table h (child_types (type_at table t) l ks) (child_agreements (type_at table t) ks) (n + 1) ks))
          (cells_met (in_place table h (child_types (type_at table t) l ks) (n + 1) ks)))
          → Repeats known (c ∷ tgt (pointers_of table h (t ∷ types) ags n (more (node l ks) ts))) (cells_met (in_place table h (t ∷ types) n (more (node l ks) ts)))
      go xs e rec =
          let d : Option TypeDef = type_at table t in
          let A : List Entry = entries h n (before_children table t d l ks) in
          let B : List Entry = in_place table h (child_types d l ks) (n + 1) ks in
          let C : List Entry = child_tests h (child_agreements d ks) (n + 1) ks in
          let D : List Entry = in_place table h types (n + 1 + node_count ks) ts in
          let P : List ℕ = tgt (pointer_by d (is_pointer l) (cell_in l) h n (first_agreements ags)) in
          let K : List ℕ = tgt (pointers_of table h (child_types d l ks) (child_agreements d ks) (n + 1) ks) in
          let R : List ℕ = tgt (pointers_of table h types (rest_agreements ags) (n + 1 + node_count ks) ts) in
          subst (λ u. Repeats known (c ∷ u) (cells_met (A ++ (B ++ (C ++ D))))) (sym (pointer_parts table h t types ags n l ks ts))
          (subst (Repeats known (c ∷ (P ++ (K ++ R)))) (sym (entry_parts table h A B C D))
          (subst (λ u. Repeats known (c ∷ (u ++ (K ++ R))) (cells_met A ++ (cells_met B ++ (cells_met C ++ cells_met D)))) (node_names table t d l ks h n (first_agreements ags))
          (subst (λ ys. Repeats known (c ∷ (in_kinds ys ++ (K ++ R))) (cells_met (entries h n ys) ++ (cells_met B ++ (cells_met C ++ cells_met D)))) (sym e)
          (by_kinds t d l ks n xs e known K R (cells_met B) (cells_met C ++ cells_met D) rec (children_then t types ags n l ks ts) (others_then t types ags n l ks ts)))))

  module _ (t : ℕ) (l : Label) (ks : Trees) (known : List ℕ) (q : Known g table (t ∷ []) (more (node l ks) none)) where
    abbrev one : Trees
    one = more (node l ks) none

    abbrev I : List Entry
    I = in_place table h (t ∷ []) 0 one

    abbrev N : List ℕ
    N = tgt (home_pointers table h t (node l ks))

    with_max : (xs : List Kind) → in_kinds (Align 4 ∷ xs) ≡ [] → Repeats known (c ∷ N) (cells_met (entries h 0 (Align 4 ∷ xs) ++ I))
    with_max xs z =
        subst (Repeats known (c ∷ N)) (sym (met_append (entries h 0 (Align 4 ∷ xs)) I))
        (then_repeats known (c ∷ []) (cells_met (entries h 0 (Align 4 ∷ xs))) N (cells_met I)
        (subst (λ u. Repeats known (c ∷ u) (cells_met (entries h 0 (Align 4 ∷ xs)))) z (first_kinds known 0 (Align 4) xs))
        (λ later w v. place_repeat table h (t ∷ []) [] 0 one later (first_known later [] v)))

    by_label : (b : Bool) → hoists table t ≡ b → (i : Label) → l ≡ i → Repeats known (c ∷ N) (cells_met (entries h 0 (hoisted b i (hoisted_max 0 one)) ++ I))
    by_label false e i f = first_place (t ∷ []) [] 0 one known (inl e) q
    by_label true e tree.Unread f = first_place (t ∷ []) [] 0 one known (inr f) q
    by_label true e (tree.Num z) f = with_max (Max (hoisted_max 0 one) ∷ []) refl
    by_label true e _ f = with_max (Max (hoisted_max 0 one) ∷ []) refl

    whole_first : Repeats known (c ∷ N) (cells_met (whole_value table h t (node l ks)))
    whole_first = by_label (hoists table t) refl l refl

  first_whole : (t : ℕ) (v : Tree) (known : List ℕ) → Known g table (t ∷ []) (more v none)
      → Repeats known (c ∷ tgt (home_pointers table h t v)) (cells_met (whole_value table h t v))
  first_whole t (node l ks) known q = whole_first t l ks known q

-- ## Steps, parameters, pipes

module _ (w : Setting) (g : Graph) (s : IsSound w g) (laid : IsLaidOut w) (subjects : HasSubjects w.table) (elements : HasElements w.table) where
  abbrev table : Table
  table = w.table

  -- what is due is a root that is there, or a pointer whose cell is known
  abbrev DueKnown : List ℕ → Due → Type 0
  DueKnown known (due_root i) = (r : Root) × (slice_get (root_list w) i ≡ Some r)
  DueKnown known (due_referent p) = PendFits w g s laid subjects p × ((c : ℕ) → p.cell ≡ Some c → Among known c)

  due_more : (xs ys : List ℕ) (due : List Due) → Within xs ys → AllByRecursion (DueKnown xs) due → AllByRecursion (DueKnown ys) due
  due_more xs ys [] k a = tt
  due_more xs ys (due_root i ∷ due) k a = (a.0, due_more xs ys due k a.1)
  due_more xs ys (due_referent p ∷ due) k a = ((a.0.0, λ c e. k c (a.0.1 c e)), due_more xs ys due k a.1)

  pointers_due : (later : List ℕ) (ps : List Pending) → AllByRecursion (PendFits w g s laid subjects) ps → Within (tgt ps) later → AllByRecursion (DueKnown later) (map due_referent ps)
  pointers_due later [] a v = tt
  pointers_due later (p ∷ ps) a v = (
    (a.0, λ c e. v c (of_named (p ∷ ps) c p (inl refl) e)),
    pointers_due later ps a.1 (λ x m. v x (among_right (target p.cell) (tgt ps) x m)),
  )

  -- what a step of deferral named is known
  abbrev MetCells : List ℕ → Due → Type 0
  MetCells later (due_root i) = Within (own_cell (standing_root w g i).home ++ named table (standing_root w g i)) later
  MetCells later (due_referent p) = Unit {0}

  standing_repeat : (x : Standing) (known : List ℕ) → Whole w g s laid subjects x → Repeats known (own_cell x.home ++ named table x) (cells_met (standing_entries table x))
  standing_repeat x known q = go x.home refl
    where
      go : (h : Home) → x.home ≡ h → Repeats known (own_cell x.home ++ named table x) (cells_met (standing_entries table x))
      go (home.Root i) e =
          subst (λ h. Repeats known (own_cell h ++ tgt (home_pointers table h x.of x.val)) (cells_met (whole_value table h x.of x.val))) (sym e)
          (whole_repeat table (home.Root i) x.of x.val known (λ y m. absurd m))
      go (home.Cell c) e =
          subst (λ h. Repeats known (own_cell h ++ tgt (home_pointers table h x.of x.val)) (cells_met (whole_value table h x.of x.val))) (sym e)
          (first_whole table laid.hoisting elements g c.0 x.of x.val known q.known)

  cell_known : (known : List ℕ) (c : ℕ) → Among known c → Within (own_cell (cell_home c)) known
  cell_known known c m x (inl e) = subst (Among known) (sym e) m
  cell_known known c m x (inr k) = absurd k

  module _ (cs ds : List ℕ) where
    steps_repeat : {done : Placed_cells} {due : List Due} {steps : List Step} → Deferral w g done due steps → (known : List ℕ) → AllByRecursion (DueKnown known) due
        → ((later : List ℕ) → Within known later → AllByRecursion (MetCells later) due → Repeats later cs ds)
        → Repeats known (named_cells w g steps ++ cs) (cells_met (flat_map (step_entries w g) steps) ++ ds)
    steps_repeat none_due known a k = k known (λ x m. m) tt
    steps_repeat (at_root {i = i} {due = due} {steps = steps} free d) known a k =
        let x : Standing = standing_root w g i in
        let (r, er) = a.0 in
        let q : Whole w g s laid subjects x = root_whole w g s laid subjects i r er in
        let E : List Entry = standing_entries table x in
        let F : List Entry = flat_map (step_entries w g) steps in
        let N : List ℕ = own_cell x.home ++ named table x in
        subst (λ u. Repeats known u (cells_met (E ++ F) ++ ds)) (sym (append_assoc N (named_cells w g steps) cs))
        (subst (Repeats known (N ++ (named_cells w g steps ++ cs))) (sym (ap (λ u. u ++ ds) (met_append E F) ∙ append_assoc (cells_met E) (cells_met F) ds))
        (then_repeats known N (cells_met E) (named_cells w g steps ++ cs) (cells_met F ++ ds) (standing_repeat x known q) (λ l1 w1 v1.
        steps_repeat d l1
        (all_append (DueKnown l1) (due_of table x) due
        (pointers_due l1 (home_pointers table x.home x.of x.val) (standing_pends w g s laid subjects x q.known) (λ y m. v1 y (among_right (own_cell x.home) (named table x) y m)))
        (due_more known l1 due w1 a.1)) (λ l2 w2 m.
        k l2 (λ y z. w2 y (w1 y z)) ((λ y z. w2 y (v1 y z)), all_right (MetCells l2) (due_of table x) due m)))))
    steps_repeat (at_null e d) known a k = steps_repeat d known a.1 (λ l1 w1 m. k l1 w1 (tt, m))
    steps_repeat (at_standing {p = p} {steps = steps} c e full z d) known a k =
        let T : List Entry = step_tests g p c in
        let F : List Entry = flat_map (step_entries w g) steps in
        subst (Repeats known (named_cells w g steps ++ cs)) (sym (ap (λ u. u ++ ds) (met_append T F) ∙ append_assoc (cells_met T) (cells_met F) ds))
        (then_repeats known [] (cells_met T) (named_cells w g steps ++ cs) (cells_met F ++ ds)
        (tests_repeat table (cell_home c) known (cell_known known c (a.0.1 c e)) 0 (cell_at g c) p.agreements) (λ l1 w1 v1.
        steps_repeat d l1 (due_more known l1 _ w1 a.1) (λ l2 w2 m. k l2 (λ y z. w2 y (w1 y z)) (tt, m))))
    steps_repeat (at_referent {p = p} {due = due} {steps = steps} c e n d) known a k =
        let x : Standing = standing_cell g p c in
        let (y, ey, ty) = a.0.0.pointee c e in
        let q : Whole w g s laid subjects x = cell_whole w g s laid subjects c p.to y ey ty in
        let E : List Entry = standing_entries table x in
        let T : List Entry = step_tests g p c in
        let F : List Entry = flat_map (step_entries w g) steps in
        let N : List ℕ = named table x in
        let here : Within (own_cell (cell_home c)) known = cell_known known c (a.0.1 c e) in
        subst (λ u. Repeats known u (cells_met ((E ++ T) ++ F) ++ ds)) (sym (append_assoc N (named_cells w g steps) cs))
        (subst (Repeats known (N ++ (named_cells w g steps ++ cs)))
        (sym (ap (λ u. u ++ ds) (met_append (E ++ T) F ∙ ap (λ u. u ++ cells_met F) (met_append E T) ∙ append_assoc (cells_met E) (cells_met T) (cells_met F))
        ∙ append_assoc (cells_met E) (cells_met T ++ cells_met F) ds ∙ ap (λ u. cells_met E ++ u) (append_assoc (cells_met T) (cells_met F) ds)))
        (then_repeats known N (cells_met E) (named_cells w g steps ++ cs) (cells_met T ++ (cells_met F ++ ds)) (whole_repeat table (cell_home c) p.to (cell_at g c) known here) (λ l1 w1 v1.
        then_repeats l1 [] (cells_met T) (named_cells w g steps ++ cs) (cells_met F ++ ds)
        (tests_repeat table (cell_home c) l1 (more_known table (cell_home c) known l1 w1 here) 0 (cell_at g c) p.agreements) (λ l2 w2 v2.
        steps_repeat d l2
        (all_append (DueKnown l2) (due_of table x) due
        (pointers_due l2 (home_pointers table x.home x.of x.val) (standing_pends w g s laid subjects x q.known) (λ z m. w2 z (v1 z m)))
        (due_more known l2 due (λ z m. w2 z (w1 z m)) a.1)) (λ l3 w3 m.
        k l3 (λ z u. w3 z (w2 z (w1 z u))) (tt, all_right (MetCells l3) (due_of table x) due m))))))

  pointer_names : (i t : ℕ) (k : Class) (to : TypeId) (c : ℕ) (ks : Trees) → type_at table t ≡ Some (def.Pointer k to)
      → Among (tgt (home_pointers table (home.Root i) t (node (tree.Ptr (Some c)) ks))) c
  pointer_names i t k to c ks e =
      let p : Pending = record { home = home.Root i; node = 0; class = k; to = to.0; cell = Some c; agreements = [] } in
      of_named (home_pointers table (home.Root i) t (node (tree.Ptr (Some c)) ks)) c p
      (among_left (pointer_by (type_at table t) true (Some c) (home.Root i) 0 []) _ p
      (subst (λ d. Among (pointer_by d true (Some c) (home.Root i) 0 []) p) (sym e) (inl refl))) refl

  -- a pointer among the roots names a cell of what stands for it
  root_names : (i t : ℕ) (d : Option TypeDef) (c : ℕ) (ks : Trees) → type_at table t ≡ d → has_shape d (tree.Ptr (Some c)) ks ≡ true
      → Among (own_cell (standing_by g i t (node (tree.Ptr (Some c)) ks) (direct d (node (tree.Ptr (Some c)) ks))).home
      ++ named table (standing_by g i t (node (tree.Ptr (Some c)) ks) (direct d (node (tree.Ptr (Some c)) ks)))) c
  root_names i t (Some (def.Pointer Ref to)) c ks e h = inl refl
  root_names i t (Some (def.Pointer Unique to)) c ks e h = pointer_names i t Unique to c ks e
  root_names i t (Some (def.Pointer Full to)) c ks e h = pointer_names i t Full to c ks e
  root_names i t None c ks e h = cc
  root_names i t (Some _) c ks e h = cc

  -- a root's subject is known, or it has no attributes
  abbrev RootKnown : List ℕ → ℕ → Root → Tree → Type 0
  RootKnown known i r v = (r.vars ≡ []) ⊎ (Known g table (r.of ∷ []) (more v none)
      × Within (own_cell (standing_by g i r.of v (direct (type_at table r.of) v)).home ++ named table (standing_by g i r.of v (direct (type_at table r.of) v))) known)

  shaped : (d : Option TypeDef) (c : ℕ) (ks : Trees) (A : Type 0) → (tree.Ptr (Some c) ≡ tree.Unread) ⊎ ((has_shape d (tree.Ptr (Some c)) ks ≡ true) × A)
      → has_shape d (tree.Ptr (Some c)) ks ≡ true
  shaped d c ks A (inl e) = cc
  shaped d c ks A (inr x) = x.0

  self_repeat : (known : List ℕ) (i : ℕ) (v : Tree) (ags : List Agreement) → Repeats known [] (cells_met (tests (home.Root i) 0 v ags))
  self_repeat known i v ags = tests_repeat table (home.Root i) known (λ x m. absurd m) 0 v ags

  root_repeat : (known : List ℕ) (i : ℕ) (r : Root) (l : Label) (ks : Trees) → RootKnown known i r (node l ks)
      → Repeats known [] (cells_met (root_test g i (node l ks) (root_agreements w g r.vars)))
  root_repeat known i r l ks (inl e) =
      subst (λ u. Repeats known [] (cells_met u)) (sym (no_root_tests w g s laid subjects i l ks (root_agreements w g r.vars) (ap (root_agreements w g) e))) refl
  root_repeat known i r (tree.Ptr None) ks (inr a) = refl
  root_repeat known i r (tree.Ptr (Some c)) ks (inr a) =
      tests_repeat table (cell_home c) known
      (cell_known known c (a.1 c (root_names i r.of (type_at table r.of) c ks refl
      (shaped (type_at table r.of) c ks (has_counts (type_at table r.of) (tree.Ptr (Some c)) ks ≡ true) a.0.0.shape)))) 0 (cell_at g c) (root_agreements w g r.vars)
  root_repeat known i r (tree.Num z) ks (inr a) = self_repeat known i (node (tree.Num z) ks) (root_agreements w g r.vars)
  root_repeat known i r tree.Rec ks (inr a) = self_repeat known i (node tree.Rec ks) (root_agreements w g r.vars)
  root_repeat known i r (tree.Arr m o) ks (inr a) = self_repeat known i (node (tree.Arr m o) ks) (root_agreements w g r.vars)
  root_repeat known i r (tree.Text m os) ks (inr a) = self_repeat known i (node (tree.Text m os) ks) (root_agreements w g r.vars)
  root_repeat known i r (tree.Union v) ks (inr a) = self_repeat known i (node (tree.Union v) ks) (root_agreements w g r.vars)
  root_repeat known i r (tree.Context x q) ks (inr a) = self_repeat known i (node (tree.Context x q) ks) (root_agreements w g r.vars)
  root_repeat known i r tree.Pipe ks (inr a) = self_repeat known i (node tree.Pipe ks) (root_agreements w g r.vars)
  root_repeat known i r tree.Unread ks (inr a) = self_repeat known i (node tree.Unread ks) (root_agreements w g r.vars)

  root_more : (xs ys : List ℕ) (i : ℕ) (r : Root) (v : Tree) → Within xs ys → RootKnown xs i r v → RootKnown ys i r v
  root_more xs ys i r v k (inl e) = inl e
  root_more xs ys i r v k (inr a) = inr (a.0, λ x m. k x (a.1 x m))

  roots_repeat : (i : ℕ) (rs : List Root) (vs : List Tree) (known : List ℕ) → length vs ≡ length rs
      → ((j : ℕ) (r : Root) → slice_get rs j ≡ Some r → RootKnown known (i + j) r (or_unread (slice_get vs j))) → Repeats known [] (cells_met (root_tests w g i rs vs))
  roots_repeat i [] vs known h f = refl
  roots_repeat i (r ∷ rs) [] known h f = refl
  roots_repeat i (r ∷ rs) (node l ks ∷ vs) known h f =
      let T : List Entry = root_test g i (node l ks) (root_agreements w g r.vars) in
      let R : List Entry = root_tests w g (i + 1) rs vs in
      let z : i + 0 ≡ i = omega arith in
      subst (Repeats known []) (sym (met_append T R))
      (then_repeats known [] (cells_met T) [] (cells_met R) (root_repeat known i r l ks (subst (λ u. RootKnown known u r (node l ks)) z (f 0 r refl))) (λ later k v.
      roots_repeat (i + 1) rs vs later (omega arith) (λ j q e.
      (let y : i + suc j ≡ i + 1 + j = omega arith in
      root_more known later (i + 1 + j) q (or_unread (slice_get vs j)) k (subst (λ u. RootKnown known u q (or_unread (slice_get vs j))) y (f (suc j) q e))))))

  many : (k e : ℕ) → FitsPipes table e → AllByRecursion (FitsPipes table) (replicate k e)
  many zero e f = tt
  many (suc k) e f = (f, many k e f)

  chunks_repeat : (i e : ℕ) → FitsPipes table e → (n : ℕ) (cut : List ℕ) (ts : Trees) (known : List ℕ) → Repeats known [] (cells_met (chunks table (home.Root i) e n cut ts))
  chunks_repeat i e f n [] ts known = refl
  chunks_repeat i e f n (k ∷ cut) ts known =
      let h : Home = home.Root i in
      let X : List Entry = in_place table h (replicate k e) n (take_trees k ts) in
      let Y : List Entry = chunks table h e (n + node_count (take_trees k ts)) cut (drop_trees k ts) in
      subst (Repeats known []) (sym (met_append X Y))
      (then_repeats known [] (cells_met X) [] (cells_met Y)
      (subst (λ u. Repeats known (tgt u) (cells_met X)) (no_pointers table h (replicate k e) [] n (take_trees k ts) (many k e f))
      (place_repeat table h (replicate k e) [] n (take_trees k ts) known (λ x m. absurd m))) (λ later z v.
      chunks_repeat i e f (n + node_count (take_trees k ts)) cut (drop_trees k ts) later))

  pipe_repeat : (i : ℕ) (e : TypeId) (cut : List ℕ) (v : Tree) (known : List ℕ) → FitsPipes table e.0 → Repeats known [] (cells_met (pipe_entries table (home.Root i) (Some (def.Pipe e)) cut v))
  pipe_repeat i e cut (node tree.Pipe ks) known f = chunks_repeat i e.0 f 1 cut ks known
  pipe_repeat i e cut (node _ ks) known f = refl

  pipes_repeat : (i : ℕ) (rs : List Root) (vs : List Tree) (cuts : List (List ℕ)) (known : List ℕ) → AllByRecursion (IsPipeRoot table) rs
      → Repeats known [] (cells_met (pipes_entries table i rs vs cuts))
  pipes_repeat i [] vs cuts known p = refl
  pipes_repeat i (r ∷ rs) [] cuts known p = refl
  pipes_repeat i (r ∷ rs) (v ∷ vs) [] known p = refl
  pipes_repeat i (r ∷ rs) (v ∷ vs) (cut ∷ cuts) known p =
      let X : List Entry = pipe_entries table (home.Root i) (type_at table r.of) cut v in
      let Y : List Entry = pipes_entries table (i + 1) rs vs cuts in
      subst (Repeats known []) (sym (met_append X Y))
      (then_repeats known [] (cells_met X) [] (cells_met Y)
      (subst (λ d. Repeats known [] (cells_met (pipe_entries table (home.Root i) d cut v))) (sym p.0.type_is)
      (pipe_repeat i p.0.elem cut v known (laid.elements r.of p.0.elem p.0.type_is))) (λ later z u.
      pipes_repeat (i + 1) rs vs cuts later p.1))

  abbrev n : ℕ
  n = before_pipes (root_list w)

  roots_due : (i k : ℕ) → i + k ≤ length (root_list w) → AllByRecursion (DueKnown []) (due_roots i k)
  roots_due i zero h = tt
  roots_due i (suc k) h = (root_there w i (omega arith), roots_due (suc i) k (omega arith))

  met_at : (known : List ℕ) (i k : ℕ) → AllByRecursion (MetCells known) (due_roots i k) → (j : ℕ) → j < k
      → Within (own_cell (standing_root w g (i + j)).home ++ named table (standing_root w g (i + j))) known
  met_at known i zero a j h = absurd (omega arith)
  met_at known i (suc k) a zero h = subst (λ u. Within (own_cell (standing_root w g u).home ++ named table (standing_root w g u)) known) (omega arith) a.0
  met_at known i (suc k) a (suc j) h =
      subst (λ u. Within (own_cell (standing_root w g u).home ++ named table (standing_root w g u)) known) (omega arith) (met_at known (suc i) k a.1 j (omega arith))

  stream_repeats : (ms : List Entry) (a : Stream w g ms) → Repeats [] (named_cells w g a.steps) (cells_met ms)
  stream_repeats ms a =
      let F : List Entry = flat_map (step_entries w g) a.steps in
      let T : List Entry = root_tests w g 0 (root_list w) g.roots in
      let P : List Entry = pipes_entries table n (drop n (root_list w)) (drop n g.roots) a.cuts in
      let e : cells_met ms ≡ cells_met F ++ (cells_met T ++ cells_met P) =
      ap cells_met (a.is_representation ∙ append_assoc F T P) ∙ met_append F (T ++ P) ∙ ap (λ u. cells_met F ++ u) (met_append T P) in
      subst (Repeats [] (named_cells w g a.steps)) (sym e)
      (subst (λ u. Repeats [] u (cells_met F ++ (cells_met T ++ cells_met P))) (append-nil (named_cells w g a.steps))
      (steps_repeat [] (cells_met T ++ cells_met P) a.deferral [] (roots_due 0 n (omega (arith, few_before_pipes (root_list w)))) (λ later k met.
      then_repeats later [] (cells_met T) [] (cells_met P) (roots_repeat 0 (root_list w) g.roots later s.all_roots (λ j r er. ready later met j r er (cases_lt j n))) (λ l2 w2 v2.
      pipes_repeat n (drop n (root_list w)) (drop n g.roots) a.cuts l2 laid.pipes))))
    where
      ready : (later : List ℕ) → AllByRecursion (MetCells later) (due_roots 0 n) → (j : ℕ) (r : Root) → slice_get (root_list w) j ≡ Some r → (j < n) ⊎ (n ≤ j)
          → RootKnown later (0 + j) r (or_unread (slice_get g.roots j))
      ready later met j r e (inl h) =
          let z : 0 + j ≡ j = omega arith in
          let m : Within (own_cell (standing_root w g j).home ++ named table (standing_root w g j)) later =
          subst (λ u. Within (own_cell (standing_root w g u).home ++ named table (standing_root w g u)) later) z (met_at later 0 n met j h) in
          subst (λ u. RootKnown later u r (root_at g j)) (sym z)
          (inr (
            known_roots w g s j r e,
            subst (λ t. Within (own_cell (standing_by g j t (root_at g j) (direct (type_at table t) (root_at g j))).home
                ++ named table (standing_by g j t (root_at g j) (direct (type_at table t) (root_at g j)))) later) (ap root_type e) m,
          ))
      ready later met j r e (inr h) =
          let k : n + (j - n) ≡ j = omega arith in
          inl (all_at (IsPipeRoot table) (drop n (root_list w)) (j - n) r laid.pipes (drop_at n (root_list w) (j - n) ∙ ap (slice_get (root_list w)) k ∙ e)).no_vars

-- a fixed array of a legal table has an element
has_elements : (table : Table) (operations : List Operation) → IsLegal table operations → HasElements table
has_elements table operations legal = record {
  least = λ t e n v f. leb-true 1 n (and_parts _ _ (passes_at has_small_bound table t (def.Array e (Some n) v) legal.bounds f)).0;
}

-- Cells have one number by the order in which they are named, and by that in which a stream comes to them.
pub named_in_order : (w : Setting) → IsLegalSide w → (g : Graph) → IsSound w g → (ms : List Entry) (a : Stream w g ms) → (c : ℕ)
    → canonical_number (named_cells w g a.steps) c ≡ canonical_number (cells_met ms) c
named_in_order w side g s ms a c =
    one_number [] (named_cells w g a.steps) (cells_met ms)
    (stream_repeats w g s (laid_out w side) (has_subjects w.table side.operations side.legal) (has_elements w.table side.operations side.legal) ms a) 1 [] c (λ x m. m)
