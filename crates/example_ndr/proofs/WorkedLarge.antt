-- Worked examples with many elements.
use Rattle.std.proofs.Common.{◌≡◌, ℕ, ◌+◌, ◌^◌, ◌<◌, zero, suc, Bool, true, false, ◌&&◌, eqb, ltb, List, [], ◌∷◌, ◌++◌, length, Some, None, refl, ap, ap₂, sym, ◌∙◌, subst, append_assoc, replicate}
use Rattle.std.proofs.Common.{lit<}
use Rattle.std.proofs.lemmas.Bool.{eq-eqb, lt-ltb}
use Rattle.std.proofs.lemmas.List.{append-nil, length-replicate}
use Rattle.std.specs.Prelude.{pos, map, flat_map, drop}
use Rattle.std.specs.List.{list_all}
use Rattle.nd_base.specs.declared.octets.Order.TheVariants.{Little}
use Rattle.nd_base.specs.declared.TheConstants.{STREAM_LIMIT}
use Rattle.nd_types.specs.declared.types.TypeDef.TheVariants as def
use Rattle.nd_types.specs.declared.types.Attr.TheVariants as attr
use Rattle.nd_types.specs.declared.types.Class.TheVariants.{Ref}
use Rattle.nd_types.specs.Number.{unsigned}
use Rattle.nd_types.specs.Layout.{align_of, hoists}
use Rattle.nd_types.specs.Roots.{roots_of}
use Rattle.nd_value.specs.declared.value.Graph.{Graph}
use Rattle.nd_value.specs.declared.item.Home.{Home}
use Rattle.nd_value.specs.declared.item.Home.TheVariants as home
use Rattle.nd_value.specs.Tree as tree
use Rattle.nd_value.specs.Tree.{Tree, Trees, node, none, more, trees, count}
use Rattle.nd_value.specs.Setting.{Setting, unread, cell_home}
use Rattle.nd_value.specs.Nodes.{TypedNode, nodes_of}
use Rattle.nd_value.specs.Conforms.{HomeNode, IsPartial, AllEarlier, ShareOnlyIfFull}
use Rattle.nd_value.specs.Deferral.{root_stands, Deferral, none_due, at_root, due_referent, pointer, Pending}
use Rattle.nd_value.specs.Misfit.{has_machine_values, is_partial_node}
use Rattle.nd_grammar.specs.declared.reason.Reason.TheVariants as reason
use Rattle.nd_grammar.specs.Entry.{Entry, EntryAt, Text, Test, end_to_end, full_cells, size_at, in_place, child_tests}
use Rattle.nd_grammar.specs.Stream.{Stream, representation, Represents, piece}
use Rattle.nd_grammar.specs.Refusal.{refusal, refused_if, kind_refusal, is_long, Bad}
use Rattle.nd_grammar.specs.ExampleParts.{request, param, id, num, pointer_to, two, struct_of, cell, four}
use Rattle.example_ndr.specs.ExamplesArrays.{sized, sized_octets}
use Rattle.nd_grammar.proofs.PlainStreams.{no_tests_below}
use Rattle.example_ndr.proofs.WorkedArrays.{text, text_graph}
use Rattle.example_ndr.proofs.Check.{represents_so, bad_so, bad_from, partial_so, steps_of, upto, own_numbers, are_numbers}

abbrev bytes : Setting
bytes = request (def.Array (id 2) None false ∷ []) (param 12 ∷ [])

abbrev bytes_graph : ℕ → Graph
bytes_graph n = record { roots = node (tree.Arr n 0) (trees (replicate n (num (pos 1)))) ∷ []; cells = [] }

pub two_hundred_bytes : Represents bytes Little (200 ∷ 0 ∷ 0 ∷ 0 ∷ replicate 200 1) (bytes_graph 200)
unfolding align_of hoists roots_of
two_hundred_bytes = represents_so bytes Little (200 ∷ 0 ∷ 0 ∷ 0 ∷ replicate 200 1) (bytes_graph 200) [] 20 refl tt refl refl refl refl

-- A claimed maximum count, however great: the elements that are not there are unread, as many as are claimed.
abbrev unreads : ℕ → Trees
unreads m = trees (replicate m unread)

count_unreads : (m : ℕ) → count (unreads m) ≡ m
count_unreads zero = refl
count_unreads (suc m) = ap suc (count_unreads m)

abbrev claim : ℕ → Tree
claim m = node (tree.Arr (suc (suc (suc m))) 0) (more (num (pos 1)) (more (num (pos 2)) (more (num (pos 0)) (unreads m))))

abbrev claiming : ℕ → Graph
claiming m = record { roots = pointer_to 1 ∷ []; cells = cell 12 (struct_of (two (num (pos 2)) (claim m))) ∷ [] }

-- the nodes of the unread elements
abbrev unread_nodes : ℕ → ℕ → List TypedNode
unread_nodes m k = nodes_of sized.table (replicate (count (unreads m)) 9) [] k (unreads m)

all_pass : (P : TypedNode → Bool) → ((k : ℕ) → P (record { node = k; of = 9; agreements = []; label = tree.Unread; kids = none }) ≡ true) → (h : Home) (m k : ℕ)
    → list_all (λ (x : HomeNode). P x.typed) (map (λ x. record { home = h; typed = x }) (unread_nodes m k)) ≡ true
all_pass P p h zero k = refl
all_pass P p h (suc m) k = ap₂ (λ x y. x && y) (p k) (all_pass P p h m (k + 1 + 0))

no_pointers_of : (h : Home) (m k : ℕ) → flat_map (pointer sized.table h) (unread_nodes m k) ≡ []
no_pointers_of h zero k = refl
no_pointers_of h (suc m) k = no_pointers_of h m (k + 1 + 0)

no_full_cells : (h : Home) (m k : ℕ) → full_cells (in_place sized.table h (replicate (count (unreads m)) 9) k (unreads m)) ≡ []
no_full_cells h zero k = refl
no_full_cells h (suc m) k = no_full_cells h m (k + 1 + 0)

-- nothing that ends a list of nodes is added to it
module _ (m : ℕ) where
  abbrev ended : List TypedNode
  ended = (unread_nodes m 6 ++ []) ++ []

  ended_is : ended ≡ unread_nodes m 6
  ended_is = append-nil _ ∙ append-nil _

  abbrev homed : TypedNode → HomeNode
  homed x = record { home = cell_home 1; typed = x }

  homed_is : map homed ended ++ [] ≡ map homed (unread_nodes m 6)
  homed_is = append-nil _ ∙ ap (map homed) ended_is

  pointless : flat_map (pointer sized.table (cell_home 1)) ended ≡ []
  pointless = ap (flat_map (pointer sized.table (cell_home 1))) ended_is ∙ no_pointers_of (cell_home 1) m 6

  abbrev passed : (TypedNode → Bool) → List HomeNode → Bool
  passed P xs = list_all (λ (x : HomeNode). P x.typed) xs

abbrev root_pointer : Pending
root_pointer = record { home = home.Root 0; node = 0; class = Ref; to = 12; cell = Some 1; agreements = [] }

claim_partial : (m : ℕ) → suc (suc (suc m)) < 2 ^ 32 → IsPartial sized (claiming m)
unfolding align_of hoists roots_of
claim_partial m small =
    let low : ltb (suc (suc (suc m))) (2 ^ 32) ≡ true = lt-ltb _ _ small in
    let many : eqb (suc (suc (suc (count (unreads m))))) (suc (suc (suc m))) ≡ true = eq-eqb _ _ (ap (λ k. suc (suc (suc k))) (count_unreads m)) in
    let typed : eqb (suc (suc (suc (count (unreads m))))) (suc (suc (suc (length {A = ℕ} (replicate (count (unreads m)) 9))))) ≡ true =
    eq-eqb _ _ (ap (λ k. suc (suc (suc k))) (sym (length-replicate (count (unreads m)) 9))) in
    let M : TypedNode → Bool = λ x. has_machine_values x.label in
    let P : TypedNode → Bool = is_partial_node sized.table (claiming m) in
    record {
      all_roots = refl;
      machine_values =
          ap (λ xs. ltb (suc (suc (suc m))) (2 ^ 32) && true && passed m M xs) (homed_is m)
          ∙ ap (λ b. b && true && passed m M (map (homed m) (unread_nodes m 6))) low ∙ all_pass M (λ k. refl) (cell_home 1) m 6;
      local =
          ap (λ xs. eqb (suc (suc (suc (count (unreads m))))) (suc (suc (suc (length {A = ℕ} (replicate (count (unreads m)) 9))))) && true && true && true && true
          && eqb (suc (suc (suc (count (unreads m))))) (suc (suc (suc m))) && passed m P xs) (homed_is m)
          ∙ ap₂ (λ b c. b && true && true && true && true && c && passed m P (map (homed m) (unread_nodes m 6))) typed many ∙ all_pass P (λ k. refl) (cell_home 1) m 6;
      unshared = subst (λ ps. AllEarlier ShareOnlyIfFull (root_pointer ∷ (ps ++ []))) (sym (pointless m)) (tt, tt);
    }

claim_stream : (m : ℕ) → Stream sized (claiming m) (representation sized (claiming m) (root_stands 0 ∷ []) [])
unfolding align_of hoists roots_of
claim_stream m = record {
  steps = root_stands 0 ∷ [];
  cuts = [];
  deferral = at_root (absurd, tt) (subst (λ ps. Deferral sized (claiming m) ((Ref, 1) ∷ []) (map due_referent ps ++ []) []) (sym (pointless m)) none_due);
  all_cut = tt;
  is_representation = refl;
}

appended : (xs ys : List Entry) → full_cells (xs ++ ys) ≡ full_cells xs ++ full_cells ys
appended [] ys = refl
appended (x ∷ xs) ys = simp (appended xs ys, append_assoc)

all_quiet : (a b t : List Entry) → full_cells a ≡ [] → b ≡ [] → full_cells t ≡ [] → full_cells (((((a ++ (b ++ [])) ++ t) ++ []) ++ []) ++ []) ≡ []
all_quiet a b t e f h = simp (append-nil, f, appended, e, h)

-- the octets that claim it: those of two elements, with another maximum count in front
abbrev claim_octets : ℕ → ℕ → ℕ → ℕ → List ℕ
claim_octets a b c d = a ∷ b ∷ c ∷ d ∷ drop 4 (sized_octets 2)

claim_refused : (a b c d m : ℕ) → unsigned Little (a ∷ b ∷ c ∷ d ∷ []) ≡ suc (suc (suc m)) → suc (suc (suc m)) < 2 ^ 32
    → Bad sized Little (claim_octets a b c d) 32 reason.Truncated
unfolding align_of hoists roots_of
claim_refused a b c d m e small =
    let ms : List Entry = representation sized (claiming m) (root_stands 0 ∷ []) [] in
    let values : List Entry = in_place sized.table (cell_home 1) (replicate (count (unreads m)) 9) 6 (unreads m) in
    let below : List Entry = child_tests (cell_home 1) [] 6 (unreads m) in
    let size : List Entry = record { home = cell_home 1; node = 2; kind = Test attr.Size (pos 2) (pos (suc (suc (suc m)))) } ∷ [] in
    let quiet : full_cells ms ≡ [] = all_quiet values below size (no_full_cells (cell_home 1) m 6) (no_tests_below (cell_home 1) 6 (unreads m)) refl in
    bad_from sized Little (claim_octets a b c d) 32 reason.Truncated (claiming m) ms 10 _ _
    (claim_partial m small) (claim_stream m) (own_numbers _ (ap are_numbers quiet)) refl (ap (λ x. x && true) (eq-eqb _ _ e)) refl refl

-- as the greatest that four octets can hold
pub greatest_claim : Bad sized Little (claim_octets 0xFF 0xFF 0xFF 0xFF) 32 reason.Truncated
greatest_claim = claim_refused 0xFF 0xFF 0xFF 0xFF 0xFFFF_FFFC refl (lit< tt)

-- A claimed text of 2^32 - 1 octets: it would end past the limit of a stream.
abbrev zeros : ℕ → List ℕ
zeros n = replicate n 0

zeros_are_octets : (n : ℕ) → has_machine_values (tree.Text 0xFFFF_FFFF (zeros n)) ≡ true
zeros_are_octets zero = refl
zeros_are_octets (suc n) = zeros_are_octets n

too_long : (octets : List ℕ) (earlier : List EntryAt) (x : EntryAt) → is_long x.at x.entry.kind ≡ true
    → refusal Little octets earlier x ≡ Some (STREAM_LIMIT, reason.TooLong)
too_long octets earlier x e =
    ap (λ b. refused_if b (STREAM_LIMIT, reason.TooLong)
    (refused_if (ltb (length octets) (x.at + size_at x.at x.entry.kind)) (length octets, reason.Truncated)
    (kind_refusal Little octets earlier x.at x.entry x.entry.kind (piece octets x.at x.entry.kind)))) e

abbrev long_text_octets : List ℕ
long_text_octets = 0xFF ∷ 0xFF ∷ 0xFF ∷ 0xFF ∷ four 0 (0xFF ∷ 0xFF ∷ 0xFF ∷ 0xFF ∷ 104 ∷ 105 ∷ [])

long_text_refused : (n : ℕ) → n + 1 ≡ 0xFFFF_FFFF → Bad text Little long_text_octets STREAM_LIMIT reason.TooLong
unfolding align_of hoists roots_of
long_text_refused n e =
    let g : Graph = text_graph 0xFFFF_FFFF (zeros n) in
    let size : length (zeros n) + 1 ≡ 0xFFFF_FFFF = ap (λ k. k + 1) (length-replicate n 0) ∙ e in
    let actual : eqb 0xFFFF_FFFF (length (zeros n) + 1) ≡ true = eq-eqb _ _ (sym size) in
    let long : ltb STREAM_LIMIT (12 + (length (zeros n) + 1)) ≡ true = ap (λ k. ltb STREAM_LIMIT (12 + k)) size in
    let earlier : List EntryAt = upto 5 (end_to_end 0 (representation text g (steps_of 20 text g) [])) in
    let here : EntryAt = record { at = 12; entry = record { home = cell_home 1; node = 0; kind = Text (zeros n) } } in
    bad_so text Little long_text_octets STREAM_LIMIT reason.TooLong g [] 20 5 here []
    (partial_so text g refl (ap (λ b. b && true) (zeros_are_octets n)) refl refl) refl tt refl refl (ap (λ b. b && true) actual) refl
    (too_long long_text_octets earlier here long)

pub longest_text : Bad text Little long_text_octets STREAM_LIMIT reason.TooLong
longest_text = long_text_refused 0xFFFF_FFFE refl
