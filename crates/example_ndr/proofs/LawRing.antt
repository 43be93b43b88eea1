-- A ring of two nodes under a legal table.
use Rattle.std.proofs.Common.{ℕ, ◌<◌, zero, suc, ℤ, List, [], ◌∷◌, Some, refl, inl, arith, lit<}
use Rattle.std.specs.Prelude.{pos}
use Rattle.nd_base.specs.declared.octets.Order.TheVariants.{Little}
use Rattle.nd_types.specs.declared.types.TypeDef.TheVariants as def
use Rattle.nd_types.specs.declared.types.Class.TheVariants.{Full}
use Rattle.nd_types.specs.Layout.{align_of, hoists}
use Rattle.nd_types.specs.Roots.{roots_of}
use Rattle.nd_value.specs.declared.value.Graph.{Graph}
use Rattle.nd_value.specs.declared.item.Home.TheVariants as home
use Rattle.nd_value.specs.Tree.{Referent}
use Rattle.nd_value.specs.Setting.{Setting, unread, cell_home}
use Rattle.nd_value.specs.Deferral.{Pending}
use Rattle.nd_value.specs.Conforms.{all_pointers, Conforms, Reached, by_root, by_cell}
use Rattle.nd_grammar.specs.declared.reason.Reason.TheVariants as reason
use Rattle.nd_grammar.specs.Stream.{Represents}
use Rattle.nd_grammar.specs.Refusal.{Bad}
use Rattle.nd_grammar.specs.ExampleParts.{request, param, field, id, num, pointer_to, two, struct_of, cell, four}
use Rattle.example_ndr.proofs.Check.{upto, represents_so, bad_so, unshared_are, partial_so}

-- A ring of two nodes under a legal table: the laws are tried at it. Type 12 is a node of a long and a full pointer to a node, type 13
-- that pointer.
abbrev pub ring : Setting
ring = request (def.Struct (field 7 [] ∷ field 13 [] ∷ []) ∷ def.Pointer Full (id 12) ∷ []) (param 13 ∷ [])

abbrev pub ring_node : ℤ → ℕ → Referent
ring_node v next = cell 12 (struct_of (two (num v) (pointer_to next)))

abbrev pub ring_2 : Graph
ring_2 = record { roots = pointer_to 1 ∷ []; cells = ring_node (pos 7) 2 ∷ ring_node (pos 8) 1 ∷ [] }

abbrev pub ring_2_octets : List ℕ
ring_2_octets = four 1 (four 7 (four 2 (four 8 (four 1 []))))

pub ring_represented : Represents ring Little ring_2_octets ring_2
unfolding align_of hoists roots_of
ring_represented = represents_so ring Little ring_2_octets ring_2 [] 10 refl tt refl refl refl refl

abbrev first_node_cut : Graph
first_node_cut = record { roots = pointer_to 1 ∷ []; cells = cell 12 (struct_of (two (num (pos 0)) unread)) ∷ [] }

pub ring_cut : Bad ring Little (upto 6 ring_2_octets) 6 reason.Truncated
unfolding align_of hoists roots_of
ring_cut =
    bad_so ring Little (upto 6 ring_2_octets) 6 reason.Truncated first_node_cut [] 20 4 _ _ (partial_so ring first_node_cut refl refl refl refl) refl tt refl refl refl refl refl

abbrev root_pointer : Pending
root_pointer = record { home = home.Root 0; node = 0; class = Full; to = 12; cell = Some 1; agreements = [] }

abbrev next_pointer : ℕ → ℕ → Pending
next_pointer c next = record { home = cell_home c; node = 2; class = Full; to = 12; cell = Some next; agreements = [] }

two_reached : (c : ℕ) → 0 < c → c < 3 → Reached ring ring_2 c
unfolding align_of hoists roots_of
two_reached zero h k = absurd (omega arith)
two_reached (suc zero) h k = by_root root_pointer (inl refl) refl
two_reached (suc (suc zero)) h k =
    by_cell (ring_node (pos 7) 2) (next_pointer 1 2) (by_root {c = 1} root_pointer (inl refl) refl) refl (inl refl) refl
two_reached (suc (suc (suc c))) h k = absurd (omega arith)

pub ring_conforms : Conforms ring ring_2
unfolding align_of hoists roots_of
ring_conforms = record {
  all_roots = refl;
  machine_values = refl;
  local = (refl, (refl, (refl, (refl, (refl, (refl, (refl, tt)))))));
  unshared = unshared_are (all_pointers ring ring_2) refl;
  reached = two_reached;
  agreed = ((tt, tt), ((tt, tt), ((tt, tt), ((tt, tt), ((tt, tt), ((tt, tt), ((tt, tt), tt)))))));
  few_cells = lit< tt;
  few_nodes = (lit< tt, (lit< tt, (lit< tt, tt)));
}
