-- Worked examples with arrays and texts whose counts travel.
use Rattle.std.proofs.Common.{◌≡◌, ℕ, ℤ, true, List, [], ◌∷◌, ◌++◌, Some, None, refl}
use Rattle.std.specs.Prelude.{pos, take, drop}
use Rattle.nd_base.specs.declared.octets.Order.TheVariants.{Little}
use Rattle.nd_types.specs.declared.types.TypeDef.TheVariants as def
use Rattle.nd_types.specs.declared.types.Attr.TheVariants as attr
use Rattle.nd_types.specs.declared.types.Class.TheVariants.{Ref}
use Rattle.nd_types.specs.Layout.{align_of, hoists}
use Rattle.nd_types.specs.Roots.{roots_of}
use Rattle.nd_value.specs.declared.value.Graph.{Graph}
use Rattle.nd_value.specs.declared.item.Item.{Item}
use Rattle.nd_value.specs.declared.item.ItemKind.{ItemKind}
use Rattle.nd_value.specs.declared.item.ItemKind.TheVariants as item
use Rattle.nd_value.specs.declared.misfit.MisfitReason.TheVariants as misfit
use Rattle.nd_value.specs.Tree as tree
use Rattle.nd_value.specs.Tree.{node, none, more}
use Rattle.nd_value.specs.Setting.{Setting, unread, cell_home}
use Rattle.nd_value.specs.Conforms.{IsFirstMisfit, is_local}
use Rattle.nd_grammar.specs.declared.reason.Reason.TheVariants as reason
use Rattle.nd_grammar.specs.Entry.{Entry, end_to_end}
use Rattle.nd_grammar.specs.Stream.{representation, Represents, Chosen}
use Rattle.nd_grammar.specs.Items.{items}
use Rattle.nd_grammar.specs.Refusal.{Bad}
use Rattle.nd_grammar.specs.ExampleParts.{request, param, governed, field, attribute, id, num, pointer_to, two, struct_of, cell, four}
use Rattle.example_ndr.specs.ExamplesArrays.{sized, sized_graph, sized_octets, nested, nested_graph, nested_octets}
use Rattle.example_ndr.proofs.Check.{represents_so, bad_so, partial_so, chosen_so, steps_of}

-- the maximum count is before the struct
pub count_in_front : Represents sized Little (sized_octets 2) (sized_graph (pos 2))
unfolding align_of hoists roots_of
count_in_front = represents_so sized Little (sized_octets 2) (sized_graph (pos 2)) [] 20 refl tt refl refl refl refl

pub sized_written : Chosen sized Little 7 (sized_graph (pos 2)) (sized_octets 2)
unfolding align_of hoists roots_of
sized_written = chosen_so sized Little 7 (sized_graph (pos 2)) (sized_octets 2) 20 refl refl

-- its items: what a reader meets, one by one
abbrev pub sized_entries : List Entry
sized_entries = representation sized (sized_graph (pos 2)) (steps_of 20 sized (sized_graph (pos 2))) []

abbrev pub an_item : ℕ → ℕ → ItemKind → ℕ → ℤ → Item
an_item at len kind n value = record { at = at; len = len; kind = kind; home = cell_home 1; node = n; value = value }

pub sized_items : items Little (sized_octets 2) (end_to_end 0 sized_entries)
    ≡ an_item 0 4 item.Max 0 (pos 2) ∷ an_item 4 4 item.Gap 0 (pos 0) ∷ an_item 8 2 item.Num 1 (pos 2)
    ∷ an_item 10 6 item.Gap 0 (pos 0) ∷ an_item 16 8 item.Num 3 (pos 1) ∷ an_item 24 8 item.Num 4 (pos 2) ∷ []
unfolding align_of hoists roots_of
sized_items = refl

-- the size that a member states is the maximum count, else the refusal is at the count
pub size_disagrees : Bad sized Little (sized_octets 3) 0 (reason.Disagrees (pos 3) (pos 2))
unfolding align_of hoists roots_of
size_disagrees =
    bad_so sized Little (sized_octets 3) 0 (reason.Disagrees (pos 3) (pos 2)) (sized_graph (pos 3)) [] 20 9 _ _ (partial_so sized (sized_graph (pos 3)) refl refl refl refl) refl tt
    refl refl refl refl refl

-- a maximum count of 5, and octets that end after the first element: the others are unread
abbrev pub five_claimed : Graph
five_claimed = record {
  roots = pointer_to 1 ∷ [];
  cells = cell 12 (struct_of (two (num (pos 2)) (node (tree.Arr 5 0) (more (num (pos 1)) (more (num (pos 0)) (more unread (two unread unread))))))) ∷ [];
}

pub cut_behind_first : Bad sized Little (5 ∷ take 23 (drop 1 (sized_octets 2))) 24 reason.Truncated
unfolding align_of hoists roots_of
cut_behind_first =
    bad_so sized Little (5 ∷ take 23 (drop 1 (sized_octets 2))) 24 reason.Truncated five_claimed [] 20 8 _ _ (partial_so sized five_claimed refl refl refl refl) refl tt
    refl refl refl refl refl

-- through two structs
pub count_through_structs : Represents nested Little nested_octets nested_graph
unfolding align_of hoists roots_of
count_through_structs = represents_so nested Little nested_octets nested_graph [] 20 refl tt refl refl refl refl

-- struct { long n; [length_is(n)] short a[4]; } (12, its array 13) by a reference pointer (14): offset and actual count are before
-- the elements
abbrev pub varying : Setting
varying =
    request
    (def.Struct (field 7 [] ∷ field 13 (attribute attr.Length 0) ∷ []) ∷ def.Array (id 5) (Some 4) true ∷ def.Pointer Ref (id 12) ∷ [])
    (param 14 ∷ [])

abbrev pub varying_graph : ℤ → Graph
varying_graph n = record {
  roots = pointer_to 1 ∷ [];
  cells = cell 12 (struct_of (two (num n) (node (tree.Arr 4 0) (two (num (pos 5)) (num (pos 6)))))) ∷ [];
}

abbrev pub varying_octets : ℕ → ℕ → List ℕ
varying_octets n actual = four n (four 0 (four actual (5 ∷ 0 ∷ 6 ∷ 0 ∷ [])))

pub actual_count : Represents varying Little (varying_octets 2 2) (varying_graph (pos 2))
unfolding align_of hoists roots_of
actual_count = represents_so varying Little (varying_octets 2 2) (varying_graph (pos 2)) [] 20 refl tt refl refl refl refl

pub past_bound : Bad varying Little (varying_octets 2 5) 8 reason.PastBound
unfolding align_of hoists roots_of
past_bound =
    bad_so varying Little (varying_octets 2 5) 8 reason.PastBound (varying_graph (pos 2)) [] 20 5 _ _ (partial_so varying (varying_graph (pos 2)) refl refl refl refl) refl tt
    refl refl refl refl refl

pub length_disagrees : Bad varying Little (varying_octets 3 2) 8 (reason.Disagrees (pos 3) (pos 2))
unfolding align_of hoists roots_of
length_disagrees =
    bad_so varying Little (varying_octets 3 2) 8 (reason.Disagrees (pos 3) (pos 2)) (varying_graph (pos 3)) [] 20 10 _ _ (partial_so varying (varying_graph (pos 3)) refl refl refl refl) refl tt
    refl refl refl refl refl

-- void v([size_is(n), length_is(m)] byte a[*], long n, long m): an offset of 2^32 - 1 in a maximum count of 5
abbrev pub sliced : Setting
sliced =
    request (def.Array (id 2) None true ∷ [])
    (governed 12 (attribute attr.Size 1 ++ attribute attr.Length 2) ∷ param 7 ∷ param 7 ∷ [])

abbrev pub sliced_unread : Graph
sliced_unread = record { roots = node (tree.Arr 5 0xFFFF_FFFF) none ∷ unread ∷ unread ∷ []; cells = [] }

pub offset_past_maximum : Bad sliced Little (four 5 (0xFF ∷ 0xFF ∷ 0xFF ∷ 0xFF ∷ four 1 [])) 8 reason.PastBound
unfolding align_of hoists roots_of
offset_past_maximum =
    bad_so sliced Little (four 5 (0xFF ∷ 0xFF ∷ 0xFF ∷ 0xFF ∷ four 1 [])) 8 reason.PastBound sliced_unread [] 20 4 _ _
    (partial_so sliced sliced_unread refl refl refl refl) refl tt refl refl refl refl refl

-- void say(char *s), a string, by a reference pointer (13) to a conformant text (12)
abbrev pub text : Setting
text = request (def.Text (id 1) None ∷ def.Pointer Ref (id 12) ∷ []) (param 13 ∷ [])

abbrev pub text_graph : ℕ → List ℕ → Graph
text_graph max octets = record { roots = pointer_to 1 ∷ []; cells = cell 12 (node (tree.Text max octets) none) ∷ [] }

abbrev pub text_octets : ℕ → ℕ → List ℕ → List ℕ
text_octets offset n octets = four 3 (four offset (four n octets))

-- "hi" and its terminator
pub text_hi : Represents text Little (text_octets 0 3 (104 ∷ 105 ∷ 0 ∷ [])) (text_graph 3 (104 ∷ 105 ∷ []))
unfolding align_of hoists roots_of
text_hi = represents_so text Little (text_octets 0 3 (104 ∷ 105 ∷ 0 ∷ [])) (text_graph 3 (104 ∷ 105 ∷ [])) [] 20 refl tt refl refl refl refl

pub text_unended : Bad text Little (text_octets 0 2 (104 ∷ 105 ∷ [])) 13 reason.TextUnended
unfolding align_of hoists roots_of
text_unended =
    bad_so text Little (text_octets 0 2 (104 ∷ 105 ∷ [])) 13 reason.TextUnended (text_graph 3 (0 ∷ [])) [] 20 5 _ _
    (partial_so text (text_graph 3 (0 ∷ [])) refl refl refl refl) refl tt refl refl refl refl refl

pub text_empty : Bad text Little (text_octets 0 0 []) 8 reason.TextEmpty
unfolding align_of hoists roots_of
text_empty =
    bad_so text Little (text_octets 0 0 []) 8 reason.TextEmpty (text_graph 3 []) [] 20 4 _ _ (partial_so text (text_graph 3 []) refl refl refl refl) refl tt refl refl refl refl refl

pub text_offset : Bad text Little (four 3 (four 1 [])) 4 reason.TextOffset
unfolding align_of hoists roots_of
text_offset =
    bad_so text Little (four 3 (four 1 [])) 4 reason.TextOffset (text_graph 3 []) [] 20 3 _ _ (partial_so text (text_graph 3 []) refl refl refl refl) refl tt refl refl refl refl refl

pub text_zero : Bad text Little (text_octets 0 3 (104 ∷ 0 ∷ 0 ∷ [])) 13 reason.TextZero
unfolding align_of hoists roots_of
text_zero =
    bad_so text Little (text_octets 0 3 (104 ∷ 0 ∷ 0 ∷ [])) 13 reason.TextZero (text_graph 3 (0 ∷ 0 ∷ [])) [] 20 5 _ _
    (partial_so text (text_graph 3 (0 ∷ 0 ∷ [])) refl refl refl refl) refl tt refl refl refl refl refl

-- an actual count of 2^32 - 1 in a maximum count of 1
pub text_past_bound : Bad text Little (four 1 (four 0 (0xFF ∷ 0xFF ∷ 0xFF ∷ 0xFF ∷ []))) 8 reason.PastBound
unfolding align_of hoists roots_of
text_past_bound =
    bad_so text Little (four 1 (four 0 (0xFF ∷ 0xFF ∷ 0xFF ∷ 0xFF ∷ []))) 8 reason.PastBound (text_graph 1 []) [] 20 4 _ _
    (partial_so text (text_graph 1 []) refl refl refl refl) refl tt refl refl refl refl refl

-- a text with a zero in it
pub zero_in_text : IsFirstMisfit text (text_graph 3 (104 ∷ 0 ∷ [])) (record { home = cell_home 1; node = 0; reason = misfit.Zero })
unfolding align_of hoists roots_of
zero_in_text = is_local _ refl
