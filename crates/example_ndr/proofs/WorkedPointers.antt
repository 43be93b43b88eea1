-- Worked examples with pointers.
use Rattle.std.proofs.Common.{◌≤◌, ◌≡◌, ℕ, ◌<◌, zero, suc, ℤ, false, cond, eqb, List, [], ◌∷◌, Some, None, refl, sym, ◌∙◌, subst, inl, inr, ◌⊎◌, arith, lit≤, lit<}
use Rattle.std.proofs.lemmas.Option.{same_Some}
use Rattle.std.specs.Prelude.{pos}
use Rattle.std.specs.List.{slice_get}
use Rattle.nd_base.specs.declared.octets.Order.TheVariants.{Little}
use Rattle.nd_types.specs.declared.types.TypeDef.TheVariants as def
use Rattle.nd_types.specs.declared.types.Attr.TheVariants as attr
use Rattle.nd_types.specs.declared.types.Class.TheVariants.{Full}
use Rattle.nd_types.specs.Layout.{align_of, hoists}
use Rattle.nd_types.specs.Roots.{roots_of}
use Rattle.nd_value.specs.declared.value.Graph.{Graph}
use Rattle.nd_value.specs.declared.item.Home.TheVariants as home
use Rattle.nd_value.specs.declared.misfit.MisfitReason.TheVariants as misfit
use Rattle.nd_value.specs.Tree as tree
use Rattle.nd_value.specs.Tree.{node, none, more, Referent}
use Rattle.nd_value.specs.Setting.{Setting, unread, cell_home, cell_of_number, Among}
use Rattle.nd_value.specs.Deferral.{Pending, home_pointers}
use Rattle.nd_value.specs.Conforms.{all_pointers, Conforms, Reached, by_root, by_cell, IsFirstMisfit, is_local, is_shared, is_unreached}
use Rattle.nd_value.specs.Canon.{renumbered, IsCanon, canonical_number}
use Rattle.nd_grammar.specs.declared.reason.Reason.TheVariants as reason
use Rattle.nd_grammar.specs.Stream.{Represents, Chosen}
use Rattle.nd_grammar.specs.Refusal.{Bad}
use Rattle.example_ndr.specs.Examples.{ring, ring_node, ring_of_one, ring_of_two, ring_swapped, ring_and_stray}
use Rattle.nd_grammar.specs.ExampleParts.{request, param, field, attribute, id, num, pointer_to, null, one, two, struct_of, cell, four}
use Rattle.example_ndr.specs.ExamplesPointers.{pairs, shared_leaf, shared_leaf_octets, null_y, null_y_octets, null_pair, unique_longs, two_fives, shared_five, full_longs, long_and_short, one_five_one}
use Rattle.example_ndr.proofs.Check.{walk_gives, steps_of, represents_so, represents_by, bad_so, unshared_are, partial_so, chosen_so}

-- a node that names itself
pub ring_to_itself : Represents ring Little (four 1 (four 7 (four 1 []))) ring_of_one
unfolding align_of hoists roots_of
ring_to_itself = represents_so ring Little (four 1 (four 7 (four 1 []))) ring_of_one [] 10 refl tt refl refl refl refl

abbrev pub ring_octets : List ℕ
ring_octets = four 1 (four 7 (four 2 (four 8 (four 1 []))))

pub ring_of_two_nodes : Represents ring Little ring_octets ring_of_two
unfolding align_of hoists roots_of
ring_of_two_nodes = represents_so ring Little ring_octets ring_of_two [] 10 refl tt refl refl refl refl

pub ring_written : Chosen ring Little 1 ring_of_two ring_octets
unfolding align_of hoists roots_of
ring_written = chosen_so ring Little 1 ring_of_two ring_octets 10 refl refl

-- with other numbers for its two cells
abbrev pub other_numbers : ℕ → ℕ
other_numbers c = cond (eqb c 1) 0xFFFF_FFFE 0x0002_0000

abbrev pub other_octets : List ℕ
other_octets = 0xFE ∷ 0xFF ∷ 0xFF ∷ 0xFF ∷ four 7 (0 ∷ 0 ∷ 2 ∷ 0 ∷ four 8 (0xFE ∷ 0xFF ∷ 0xFF ∷ 0xFF ∷ []))

pub ring_by_other_numbers : Represents ring Little other_octets ring_of_two
unfolding align_of hoists roots_of
ring_by_other_numbers = represents_by other_numbers ring Little other_octets ring_of_two [] 10 refl tt refl refl refl refl refl

-- its last number null
abbrev pub open_chain : Graph
open_chain = record { roots = pointer_to 1 ∷ []; cells = ring_node (pos 7) 2 ∷ cell 1 (struct_of (two (num (pos 8)) null)) ∷ [] }

pub chain_of_two : Represents ring Little (four 1 (four 7 (four 2 (four 8 (four 0 []))))) open_chain
unfolding align_of hoists roots_of
chain_of_two = represents_so ring Little (four 1 (four 7 (four 2 (four 8 (four 0 []))))) open_chain [] 10 refl tt refl refl refl refl

-- cut within the first node's number
abbrev pub first_node_cut : Graph
first_node_cut = record { roots = pointer_to 1 ∷ []; cells = cell 1 (struct_of (two (num (pos 0)) unread)) ∷ [] }

pub ring_cut_6 : Bad ring Little (four 1 (7 ∷ 0 ∷ [])) 6 reason.Truncated
unfolding align_of hoists roots_of
ring_cut_6 =
    bad_so ring Little (four 1 (7 ∷ 0 ∷ [])) 6 reason.Truncated first_node_cut [] 20 4 _ _ (partial_so ring first_node_cut refl refl refl refl) refl tt refl refl refl refl refl

-- cut before the second node: its number was read, the node itself is not
abbrev pub second_node_cut : Graph
second_node_cut = record { roots = pointer_to 1 ∷ []; cells = ring_node (pos 7) 2 ∷ cell 1 (struct_of (two (num (pos 0)) unread)) ∷ [] }

pub ring_cut_12 : Bad ring Little (four 1 (four 7 (four 2 []))) 12 reason.Truncated
unfolding align_of hoists roots_of
ring_cut_12 =
    bad_so ring Little (four 1 (four 7 (four 2 []))) 12 reason.Truncated second_node_cut [] 20 9 _ _ (partial_so ring second_node_cut refl refl refl refl) refl tt refl refl refl refl refl

-- the pointers of the ring
abbrev pub root_pointer : Pending
root_pointer = record { home = home.Root 0; node = 0; class = Full; to = 1; cell = Some 1; agreements = [] }

abbrev pub next_pointer : ℕ → ℕ → Pending
next_pointer c next = record { home = cell_home c; node = 2; class = Full; to = 1; cell = Some next; agreements = [] }

two_reached : (c : ℕ) → 0 < c → c < 3 → Reached ring ring_of_two c
unfolding align_of hoists roots_of
two_reached zero h k = absurd (omega arith)
two_reached (suc zero) h k = by_root root_pointer (inl refl) refl
two_reached (suc (suc zero)) h k =
    by_cell (ring_node (pos 7) 2) (next_pointer 1 2) (by_root {c = 1} root_pointer (inl refl) refl) refl (inl refl) refl
two_reached (suc (suc (suc c))) h k = absurd (omega arith)

-- the ring of two conforms
pub ring_conforms : Conforms ring ring_of_two
unfolding align_of hoists roots_of
ring_conforms = record {
  all_roots = refl;
  machine_values = refl;
  local = (refl, (refl, (refl, (refl, (refl, (refl, (refl, tt)))))));
  unshared = unshared_are (all_pointers ring ring_of_two) refl;
  reached = two_reached;
  agreed = ((tt, tt), ((tt, tt), ((tt, tt), ((tt, tt), ((tt, tt), ((tt, tt), ((tt, tt), tt)))))));
  few_cells = lit< tt;
  few_nodes = (lit< tt, (lit< tt, (lit< tt, tt)));
}

-- The ring with its cells swapped is the same; numbered by the first pointer to each cell it is the ring again.
abbrev pub swapped : ℕ → ℕ
swapped (suc zero) = 2
swapped (suc (suc zero)) = 1
swapped c = c

swapped_within : (c : ℕ) → 0 < c → c ≤ 2 → (0 < swapped c) × (swapped c ≤ 2)
swapped_within zero h k = absurd (omega arith)
swapped_within (suc zero) h k = (lit< tt, lit≤ tt)
swapped_within (suc (suc zero)) h k = (lit< tt, lit≤ tt)
swapped_within (suc (suc (suc c))) h k = absurd (omega arith)

swapped_apart : (c d : ℕ) → 0 < c → c ≤ 2 → 0 < d → d ≤ 2 → swapped c ≡ swapped d → c ≡ d
swapped_apart zero d h k i j e = absurd (omega arith)
swapped_apart (suc zero) zero h k i j e = absurd (omega arith)
swapped_apart (suc zero) (suc zero) h k i j e = refl
swapped_apart (suc zero) (suc (suc zero)) h k i j e = cc
swapped_apart (suc zero) (suc (suc (suc d))) h k i j e = absurd (omega arith)
swapped_apart (suc (suc zero)) zero h k i j e = absurd (omega arith)
swapped_apart (suc (suc zero)) (suc zero) h k i j e = cc
swapped_apart (suc (suc zero)) (suc (suc zero)) h k i j e = refl
swapped_apart (suc (suc zero)) (suc (suc (suc d))) h k i j e = absurd (omega arith)
swapped_apart (suc (suc (suc c))) d h k i j e = absurd (omega arith)

swapped_elsewhere : (c : ℕ) → (c ≡ 0) ⊎ (2 < c) → swapped c ≡ c
swapped_elsewhere zero h = refl
swapped_elsewhere (suc zero) (inl e) = cc
swapped_elsewhere (suc zero) (inr h) = absurd (omega arith)
swapped_elsewhere (suc (suc zero)) (inl e) = cc
swapped_elsewhere (suc (suc zero)) (inr h) = absurd (omega arith)
swapped_elsewhere (suc (suc (suc c))) h = refl

-- by the first pointer to each cell: 2, then 1
swapped_numbered : (c : ℕ) → 0 < c → c ≤ 2 → swapped c ≡ canonical_number (2 ∷ 1 ∷ 2 ∷ []) c
swapped_numbered zero h k = absurd (omega arith)
swapped_numbered (suc zero) h k = refl
swapped_numbered (suc (suc zero)) h k = refl
swapped_numbered (suc (suc (suc c))) h k = absurd (omega arith)

swapped_cells : (c d : ℕ) (x y : Referent) → slice_get ring_swapped.cells c ≡ Some x → swapped (suc c) ≡ suc d → slice_get ring_of_two.cells d ≡ Some y
    → (x.of ≡ y.of) × (renumbered swapped (more x.val none) ≡ more y.val none)
swapped_cells zero d x y e s f =
    let there : d ≡ 1 = omega (arith, s) in
    let is : ring_node (pos 8) 2 ≡ x = same_Some _ _ e in
    let goes : ring_node (pos 8) 1 ≡ y = same_Some _ _ (subst (λ k. slice_get ring_of_two.cells k ≡ Some y) there f) in
    subst (λ u. (u.of ≡ y.of) × (renumbered swapped (more u.val none) ≡ more y.val none)) is
    (subst (λ v. (1 ≡ v.of) × (renumbered swapped (more (ring_node (pos 8) 2).val none) ≡ more v.val none)) goes (refl, refl))
swapped_cells (suc zero) d x y e s f =
    let there : d ≡ 0 = omega (arith, s) in
    let is : ring_node (pos 7) 1 ≡ x = same_Some _ _ e in
    let goes : ring_node (pos 7) 2 ≡ y = same_Some _ _ (subst (λ k. slice_get ring_of_two.cells k ≡ Some y) there f) in
    subst (λ u. (u.of ≡ y.of) × (renumbered swapped (more u.val none) ≡ more y.val none)) is
    (subst (λ v. (1 ≡ v.of) × (renumbered swapped (more (ring_node (pos 7) 1).val none) ≡ more v.val none)) goes (refl, refl))
swapped_cells (suc (suc c)) d x y e s f = cc

pub ring_canonical : IsCanon ring ring_swapped ring_of_two
unfolding roots_of
ring_canonical = record {
  steps = steps_of 10 ring ring_swapped;
  deferral = walk_gives 10 ring ring_swapped [] _ _ refl;
  same = record {
    image = swapped;
    as_many = refl;
    within = swapped_within;
    one_to_one = swapped_apart;
    elsewhere = swapped_elsewhere;
    roots = refl;
    cells = swapped_cells;
  };
  numbered = swapped_numbered;
}

-- a cell that nothing names is not reached: every pointer names the first
stray_cells : (b : ℕ) (x : Referent) → cell_of_number ring_and_stray b ≡ Some x → (x ≡ ring_node (pos 7) 1) ⊎ (x ≡ ring_node (pos 8) 1)
stray_cells zero x e = cc
stray_cells (suc zero) x e = inl (sym (same_Some _ _ e))
stray_cells (suc (suc zero)) x e = inr (sym (same_Some _ _ e))
stray_cells (suc (suc (suc b))) x e = cc

names_first : (c : ℕ) (p q : Pending) → p ≡ q → q.cell ≡ Some 1 → p.cell ≡ Some c → c ≡ 1
names_first c p q same first e =
    let f : q.cell ≡ Some c = subst (λ u. u.cell ≡ Some c) same e in
    same_Some _ _ (sym f ∙ first)

next_names_first : (b c : ℕ) (v : ℤ) (x : Referent) (p : Pending) → x ≡ ring_node v 1 → Among (home_pointers ring.table (cell_home b) x.of x.val) p → p.cell ≡ Some c → c ≡ 1
next_names_first b c v x p is m e = go (subst (λ y. Among (home_pointers ring.table (cell_home b) y.of y.val) p) is m)
  where
    go : Among (home_pointers ring.table (cell_home b) 1 (ring_node v 1).val) p → c ≡ 1
    go (inl same) = names_first c p (next_pointer b 1) same refl e
    go (inr none_left) = absurd none_left

only_first : (c : ℕ) → Reached ring ring_and_stray c → c ≡ 1
unfolding align_of hoists roots_of
only_first c (by_root p (inl same) e) = names_first c p root_pointer same refl e
only_first c (by_root p (inr none_left) e) = absurd none_left
only_first c (by_cell {b = b} x p r q m e) = go (stray_cells b x q)
  where
    go : (x ≡ ring_node (pos 7) 1) ⊎ (x ≡ ring_node (pos 8) 1) → c ≡ 1
    go (inl is) = next_names_first b c (pos 7) x p is m e
    go (inr is) = next_names_first b c (pos 8) x p is m e

pub stray_unreached : IsFirstMisfit ring ring_and_stray (record { home = cell_home 2; node = 0; reason = misfit.Unreached })
unfolding align_of hoists roots_of
stray_unreached = is_unreached 2 refl refl (record {
  is_cell = (omega arith, omega arith);
  unreached = λ r. absurd (omega (arith, only_first 2 r));
  earlier = λ d low high. subst (λ c. Reached ring ring_and_stray c) (omega (arith, low, high)) (by_root {c = 1} root_pointer (inl refl) refl);
})

-- no cell of the number that a pointer names
abbrev pub ring_without_cell : Graph
ring_without_cell = record { roots = pointer_to 1 ∷ []; cells = [] }

pub cell_missing : IsFirstMisfit ring ring_without_cell (record { home = home.Root 0; node = 0; reason = misfit.NoCell })
unfolding align_of hoists roots_of
cell_missing = is_local _ refl

-- the shared leaf is where deferral comes to it first
pub first_of_deferral : Represents pairs Little shared_leaf_octets shared_leaf
unfolding align_of hoists roots_of
first_of_deferral = represents_so pairs Little shared_leaf_octets shared_leaf [] 20 refl tt refl refl refl refl

pub shared_leaf_written : Chosen pairs Little 1 shared_leaf shared_leaf_octets
unfolding align_of hoists roots_of
shared_leaf_written = chosen_so pairs Little 1 shared_leaf shared_leaf_octets 20 refl refl

-- where y is null, z's leaf is before b's
pub null_before : Represents pairs Little null_y_octets null_y
unfolding align_of hoists roots_of
null_before = represents_so pairs Little null_y_octets null_y [] 20 refl tt refl refl refl refl

-- a null reference pointer does not conform
pub null_reference : IsFirstMisfit pairs null_pair (record { home = home.Root 0; node = 0; reason = misfit.NullRef })
unfolding align_of hoists roots_of
null_reference = is_local _ refl

-- two unique pointers of one number have a cell each
pub unique_apart : Represents unique_longs Little (four 1 (four 5 (four 1 (four 5 [])))) two_fives
unfolding align_of hoists roots_of
unique_apart = represents_so unique_longs Little (four 1 (four 5 (four 1 (four 5 [])))) two_fives [] 20 refl tt refl refl refl refl

-- and share none
pub unique_shared : IsFirstMisfit unique_longs shared_five (record { home = home.Root 1; node = 0; reason = misfit.Shared })
unfolding align_of hoists roots_of
unique_shared = is_shared _ refl refl

-- two full pointers of one number name one cell, which comes once, across parameters too
pub full_shared : Represents full_longs Little one_five_one shared_five
unfolding align_of hoists roots_of
full_shared = represents_so full_longs Little one_five_one shared_five [] 20 refl tt refl refl refl refl

-- one number for referents of two types
abbrev pub second_unread : Graph
second_unread = record { roots = pointer_to 1 ∷ pointer_to 2 ∷ []; cells = cell 7 (num (pos 5)) ∷ cell 5 unread ∷ [] }

pub other_referent_type : Bad long_and_short Little one_five_one 8 reason.OtherType
unfolding align_of hoists roots_of
other_referent_type =
    bad_so long_and_short Little one_five_one 8 reason.OtherType second_unread [] 20 5 _ _ (partial_so long_and_short second_unread refl refl refl refl) refl tt refl refl refl refl refl

-- struct { long n; [size_is(n)] long *a; long m; [size_is(m)] long *b; } (12) with full pointers (14) to conformant arrays (13):
-- b names a's array, and m is another number
abbrev pub sized_twice : Setting
sized_twice =
    request
    (def.Struct (field 7 [] ∷ field 14 (attribute attr.Size 0) ∷ field 7 [] ∷ field 14 (attribute attr.Size 2) ∷ [])
    ∷ def.Array (id 7) None false ∷ def.Pointer Full (id 13) ∷ [])
    (param 12 ∷ [])

abbrev pub one_and_two : Graph
one_and_two = record {
  roots = struct_of (more (num (pos 1)) (more (pointer_to 1) (two (num (pos 2)) (pointer_to 1)))) ∷ [];
  cells = cell 13 (node (tree.Arr 1 0) (one (num (pos 5)))) ∷ [];
}

pub later_disagrees : Bad sized_twice Little (four 1 (four 1 (four 2 (four 1 (four 1 (four 5 [])))))) 16 (reason.Disagrees (pos 2) (pos 1))
unfolding align_of hoists roots_of
later_disagrees =
    bad_so sized_twice Little (four 1 (four 1 (four 2 (four 1 (four 1 (four 5 [])))))) 16 (reason.Disagrees (pos 2) (pos 1)) one_and_two [] 20 14 _ _
    (partial_so sized_twice one_and_two refl refl refl refl) refl tt refl refl refl refl refl
