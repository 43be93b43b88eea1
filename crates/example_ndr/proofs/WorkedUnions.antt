-- Worked examples with unions and pipes.
use Rattle.std.proofs.Common.{ℤ, false, [], ◌∷◌, Some, None, refl, arith, lit<}
use Rattle.std.specs.Prelude.{pos}
use Rattle.nd_base.specs.declared.octets.Order.TheVariants.{Little}
use Rattle.nd_types.specs.declared.types.TypeDef.TheVariants as def
use Rattle.nd_types.specs.declared.types.Attr.TheVariants as attr
use Rattle.nd_types.specs.Layout.{align_of, hoists}
use Rattle.nd_types.specs.Roots.{roots_of}
use Rattle.nd_value.specs.declared.value.Graph.{Graph}
use Rattle.nd_value.specs.declared.item.Home.TheVariants as home
use Rattle.nd_value.specs.declared.misfit.MisfitReason.TheVariants as misfit
use Rattle.nd_value.specs.Tree as tree
use Rattle.nd_value.specs.Tree.{Tree, node, none, more}
use Rattle.nd_value.specs.Setting.{Setting, unread}
use Rattle.nd_value.specs.Conforms.{IsFirstMisfit, is_local, is_disagreeing}
use Rattle.nd_grammar.specs.declared.reason.Reason.TheVariants as reason
use Rattle.nd_grammar.specs.Stream.{Represents, Chosen}
use Rattle.nd_grammar.specs.Refusal.{Bad}
use Rattle.nd_grammar.specs.ExampleParts.{request, param, governed, field, attribute, arm, empty_arm, id, num, null, one, two, three, struct_of, four}
use Rattle.example_ndr.specs.ExamplesUnions.{choice, choice_of_hyper, default_chosen, choice_octets, pipe_of_longs, three_piped, chunks_of_two, first_chunk}
use Rattle.example_ndr.proofs.Check.{represents_so, bad_so, partial_so, chosen_so}

-- a tag of no label selects the default, and its arm is aligned by itself
pub default_arm : Represents choice_of_hyper Little choice_octets (default_chosen (one (num (pos 1))))
unfolding align_of hoists roots_of
default_arm = represents_so choice_of_hyper Little choice_octets (default_chosen (one (num (pos 1)))) [] 20 refl tt refl refl refl refl

-- without a default it is refused
pub no_arm : Bad (choice None) Little (4 ∷ 0 ∷ []) 0 reason.NoArm
unfolding align_of hoists roots_of
no_arm =
    bad_so (choice None) Little (4 ∷ 0 ∷ []) 0 reason.NoArm (default_chosen none) [] 20 1 _ _ (partial_so (choice None) (default_chosen none) refl refl refl refl) refl tt
    refl refl refl refl refl

-- void nn(short k, [switch_is(k)] nu u), nu a union switched by a short (12): case 1: long; default: nothing
abbrev pub switched : Setting
switched = request (def.Union (id 5) false (arm (pos 1) 7 ∷ []) (Some (empty_arm (pos 0))) ∷ []) (param 5 ∷ governed 12 (attribute attr.Switch 0) ∷ [])

abbrev pub switched_graph : ℤ → Tree → Graph
switched_graph k u = record { roots = num k ∷ u ∷ []; cells = [] }

pub tag_agrees : Represents switched Little (1 ∷ 0 ∷ 1 ∷ 0 ∷ four 5 []) (switched_graph (pos 1) (node (tree.Union (pos 1)) (one (num (pos 5)))))
unfolding align_of hoists roots_of
tag_agrees =
    represents_so switched Little (1 ∷ 0 ∷ 1 ∷ 0 ∷ four 5 []) (switched_graph (pos 1) (node (tree.Union (pos 1)) (one (num (pos 5))))) [] 20 refl tt refl refl refl refl

pub tag_disagrees : Bad switched Little (1 ∷ 0 ∷ 2 ∷ 0 ∷ []) 2 (reason.Disagrees (pos 1) (pos 2))
unfolding align_of hoists roots_of
tag_disagrees =
    bad_so switched Little (1 ∷ 0 ∷ 2 ∷ 0 ∷ []) 2 (reason.Disagrees (pos 1) (pos 2)) (switched_graph (pos 1) (node (tree.Union (pos 2)) none)) [] 20 4 _ _
    (partial_so switched (switched_graph (pos 1) (node (tree.Union (pos 2)) none)) refl refl refl refl) refl tt refl refl refl refl refl

pub tag_missing : Bad switched Little (1 ∷ 0 ∷ []) 2 reason.Truncated
unfolding align_of hoists roots_of
tag_missing =
    bad_so switched Little (1 ∷ 0 ∷ []) 2 reason.Truncated (switched_graph (pos 1) (node (tree.Union (pos 2)) none)) [] 20 3 _ _
    (partial_so switched (switched_graph (pos 1) (node (tree.Union (pos 2)) none)) refl refl refl refl) refl tt refl refl refl refl refl

-- and in a graph the union's tag is the number that the attribute names
pub switch_misfit : IsFirstMisfit switched (switched_graph (pos 1) (node (tree.Union (pos 2)) none))
    (record { home = home.Root 1; node = 0; reason = misfit.Disagrees (pos 1) (pos 2) })
unfolding align_of hoists roots_of
switch_misfit = is_disagreeing _ refl refl (λ c low high. absurd (omega (arith, low, high))) refl

-- a pipe in chunks
pub pipe_in_chunks : Represents pipe_of_longs Little chunks_of_two three_piped
unfolding align_of hoists roots_of
pipe_in_chunks = represents_so pipe_of_longs Little chunks_of_two three_piped ((2 ∷ 1 ∷ []) ∷ []) 20 refl ((refl, (lit< tt, (lit< tt, tt))), tt) refl refl refl refl

pub chunks_written : Chosen pipe_of_longs Little 2 three_piped chunks_of_two
unfolding align_of hoists roots_of
chunks_written = chosen_so pipe_of_longs Little 2 three_piped chunks_of_two 20 refl refl

-- cut after the second chunk's count
abbrev pub third_cut : Graph
third_cut = record { roots = node tree.Pipe (three (num (pos 1)) (num (pos 2)) (num (pos 0))) ∷ []; cells = [] }

pub pipe_cut : Bad pipe_of_longs Little first_chunk 16 reason.Truncated
unfolding align_of hoists roots_of
pipe_cut =
    bad_so pipe_of_longs Little first_chunk 16 reason.Truncated third_cut ((2 ∷ 1 ∷ []) ∷ []) 20 9 _ _ (partial_so pipe_of_longs third_cut refl refl refl refl) refl
    ((refl, (lit< tt, (lit< tt, tt))), tt) refl refl refl refl refl

-- cut after the first count
abbrev pub none_read : Graph
none_read = record { roots = node tree.Pipe (two (num (pos 0)) unread) ∷ []; cells = [] }

pub pipe_cut_at_once : Bad pipe_of_longs Little (four 2 []) 4 reason.Truncated
unfolding align_of hoists roots_of
pipe_cut_at_once =
    bad_so pipe_of_longs Little (four 2 []) 4 reason.Truncated none_read ((2 ∷ []) ∷ []) 20 3 _ _ (partial_so pipe_of_longs none_read refl refl refl refl) refl
    ((refl, (lit< tt, tt)), tt) refl refl refl refl refl

-- a second chunk of five, of which one element is there
abbrev pub four_missing : Graph
four_missing = record {
  roots = node tree.Pipe (more (num (pos 1)) (more (num (pos 2)) (more (num (pos 3)) (more (num (pos 0)) (three unread unread unread))))) ∷ [];
  cells = [];
}

pub chunk_cut : Bad pipe_of_longs Little (four 2 (four 1 (four 2 (four 5 (four 3 []))))) 20 reason.Truncated
unfolding align_of hoists roots_of
chunk_cut =
    bad_so pipe_of_longs Little (four 2 (four 1 (four 2 (four 5 (four 3 []))))) 20 reason.Truncated four_missing ((2 ∷ 5 ∷ []) ∷ []) 20 11 _ _
    (partial_so pipe_of_longs four_missing refl refl refl refl) refl ((refl, (lit< tt, (lit< tt, tt))), tt) refl refl refl refl refl

-- a pipe (13) of enum { A, B = 4 } (12): each element is a value of its type
abbrev pub pipe_of_colours : Setting
pipe_of_colours = request (def.Enum (pos 0 ∷ pos 4 ∷ []) ∷ def.Pipe (id 12) ∷ []) (param 13 ∷ [])

abbrev pub piped : Tree → Graph
piped v = record { roots = node tree.Pipe (one v) ∷ []; cells = [] }

pub no_colour : Bad pipe_of_colours Little (four 1 (1 ∷ 0 ∷ 0 ∷ 0 ∷ four 0 [])) 4 reason.EnumValue
unfolding align_of hoists roots_of
no_colour =
    bad_so pipe_of_colours Little (four 1 (1 ∷ 0 ∷ 0 ∷ 0 ∷ four 0 [])) 4 reason.EnumValue (piped (num (pos 1))) ((1 ∷ []) ∷ []) 20 3 _ _
    (partial_so pipe_of_colours (piped (num (pos 1))) refl refl refl refl) refl ((refl, (lit< tt, tt)), tt) refl refl refl refl refl

pub element_out_of_range : IsFirstMisfit pipe_of_colours (piped (num (pos 1))) (record { home = home.Root 0; node = 1; reason = misfit.Range })
unfolding align_of hoists roots_of
element_out_of_range = is_local _ refl

pub element_of_no_shape : IsFirstMisfit pipe_of_colours (piped null) (record { home = home.Root 0; node = 1; reason = misfit.Shape })
unfolding align_of hoists roots_of
element_of_no_shape = is_local _ refl

-- a pipe (14) of struct { boolean q; [switch_is(q)] bu v; } (13), bu a union switched by a boolean (12): case 0: byte; case 1: nothing
abbrev pub pipe_of_unions : Setting
pipe_of_unions =
    request
    (def.Union (id 0) false (arm (pos 0) 2 ∷ empty_arm (pos 1) ∷ []) None
    ∷ def.Struct (field 0 [] ∷ field 12 (attribute attr.Switch 0) ∷ []) ∷ def.Pipe (id 13) ∷ [])
    (param 14 ∷ [])

abbrev pub switched_element : ℤ → Graph
switched_element q = piped (struct_of (two (num q) (node (tree.Union (pos 0)) (one (num (pos 9))))))

pub element_agrees : Represents pipe_of_unions Little (four 1 (0 ∷ 0 ∷ 9 ∷ 0 ∷ four 0 [])) (switched_element (pos 0))
unfolding align_of hoists roots_of
element_agrees =
    represents_so pipe_of_unions Little (four 1 (0 ∷ 0 ∷ 9 ∷ 0 ∷ four 0 [])) (switched_element (pos 0)) ((1 ∷ []) ∷ []) 20 refl ((refl, (lit< tt, tt)), tt) refl refl refl refl

pub element_disagrees : Bad pipe_of_unions Little (four 1 (1 ∷ 0 ∷ 9 ∷ 0 ∷ four 0 [])) 5 (reason.Disagrees (pos 1) (pos 0))
unfolding align_of hoists roots_of
element_disagrees =
    bad_so pipe_of_unions Little (four 1 (1 ∷ 0 ∷ 9 ∷ 0 ∷ four 0 [])) 5 (reason.Disagrees (pos 1) (pos 0)) (switched_element (pos 1)) ((1 ∷ []) ∷ []) 20 9 _ _
    (partial_so pipe_of_unions (switched_element (pos 1)) refl refl refl refl) refl ((refl, (lit< tt, tt)), tt) refl refl refl refl refl
