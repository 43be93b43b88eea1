-- The agreements of elements that are read by themselves find the counts and tags that they speak of.
use Rattle.std.proofs.Common.{◌≡◌, ℕ, ◌+◌, zero, suc, ℤ, Bool, true, false, List, [], ◌∷◌, ◌++◌, length, length-append, Option, Some, None, refl, ap, sym, ◌∙◌, inl, inr, arith, subst, replicate}
use Rattle.std.proofs.Common.{append_assoc}
use Rattle.std.specs.List.{AllByRecursion, slice_get}
use Rattle.std.proofs.lemmas.Bool.{both_ways}
use Rattle.nd_base.specs.declared.octets.Order.{Order}
use Rattle.nd_types.specs.declared.types.Arm.{Arm}
use Rattle.nd_types.specs.declared.types.Attr.{Attr}
use Rattle.nd_types.specs.declared.types.TypeDef.{TypeDef}
use Rattle.nd_types.specs.declared.types.TypeDef.TheVariants as def
use Rattle.nd_types.specs.Layout.{hoists}
use Rattle.nd_types.specs.Table.{Table, type_at}
use Rattle.nd_value.specs.declared.item.Home.{Home}
use Rattle.nd_value.specs.declared.item.Home.TheVariants as home
use Rattle.nd_value.specs.declared.value.Graph.{Graph}
use Rattle.nd_value.specs.Agreement.{Agreement, offset_of, tag_of}
use Rattle.nd_value.specs.Nodes.{child_types, child_agreements, first_agreements, rest_agreements}
use Rattle.nd_value.specs.Setting.{Setting, Among, or_unread, root_at, unread}
use Rattle.nd_value.specs.Tree as tree
use Rattle.nd_value.specs.Tree.{Tree, Trees, node, none, more, Label, Flat, flat, count, node_count, is_pointer}
use Rattle.nd_value.proofs.Apart.{all_append, among_left, among_right}
use Rattle.nd_grammar.specs.Entry.{Kind, Entry, Align, Chunk, Test, size_at, EntryAt, end_to_end, before_children, entries, in_place, tag_entries, counts, tests, own_tests, child_tests, hoisted_max}
use Rattle.nd_grammar.specs.LegalSide.{IsLegalSide}
use Rattle.nd_grammar.specs.Refusal.{tested_at}
use Rattle.nd_grammar.specs.Stream.{IsRendered}
use Rattle.nd_grammar.specs.Tested.{HoldsFound, IsSpokenOf}
use Rattle.nd_grammar.proofs.LegalSides.{laid_out}
use Rattle.nd_grammar.proofs.agreements.EntriesTell.{node_at, actual_by, home_tree, Tells, TellsAt, flat_length, node_here}
use Rattle.nd_grammar.proofs.agreements.LegalSubjects.{has_subjects}
use Rattle.nd_grammar.proofs.agreements.TestedAt.{found_first}
use Rattle.nd_grammar.proofs.agreements.TestsFind.{Found, Finds, Spoken, behind, onto, kinds_find, in_place_find}
use Rattle.nd_grammar.proofs.conforming.Passed.{IsFound, AllFound}
use Rattle.nd_grammar.proofs.next.HoistedMaxes.{replicate_only, replicate_last}
use Rattle.nd_grammar.proofs.next.Matching.{Known}
use Rattle.nd_grammar.proofs.next.NextInPlace.{View, view, v_prim, v_enum, v_struct, v_array, v_text, v_union, v_pointer, v_context, v_unread}
use Rattle.nd_grammar.proofs.next.Spelt.{not_spelt}
use Rattle.ndr_drain_laws.specs.parts.Parts.{Spot, elem_at}
use Rattle.ndr_drain_laws.proofs.reader.Renumbered.{own_entries}

-- ## Counts and tags say what their nodes say

module _ (g : Graph) (h : Home) where
  abbrev nodes : List Flat
  nodes = flat (more (home_tree g h) none)

  abbrev most : ℕ
  most = hoisted_max 0 (more (home_tree g h) none)

  abbrev All : List Entry → Type 0
  All ms = AllByRecursion (TellsAt g) ms

  kinds_tell : (n : ℕ) (xs : List Kind) → AllByRecursion (Tells nodes most n) xs → All (entries h n xs)
  kinds_tell n [] a = tt
  kinds_tell n (x ∷ xs) a = (a.0, kinds_tell n xs a.1)

  tests_tell : (n : ℕ) (v : Tree) (ags : List Agreement) → All (tests h n v ags)
  tests_tell n v [] = tt
  tests_tell n v (a ∷ ags) = (tt, tests_tell n v ags)

  own_tell : (b : Bool) (n : ℕ) (v : Tree) (ags : List Agreement) → All (own_tests b h n v ags)
  own_tell true n v ags = tt
  own_tell false n v ags = tests_tell n v ags

  child_tell : (ags : List (List Agreement)) (n : ℕ) (ts : Trees) → All (child_tests h ags n ts)
  child_tell ags n none = tt
  child_tell ags n (more (node l ks) ts) =
      all_append (TellsAt g) (own_tests (is_pointer l) h n (node l ks) (first_agreements ags)) (child_tests h (rest_agreements ags) (n + 1 + node_count ks) ts)
      (own_tell (is_pointer l) n (node l ks) (first_agreements ags)) (child_tell (rest_agreements ags) (n + 1 + node_count ks) ts)

  module _ (n : ℕ) where
    counts_tell : (b : Bool) (m o : ℕ) (ks : Trees) → node_at nodes n ≡ (tree.Arr m o, count ks) → AllByRecursion (Tells nodes most n) (counts b m o (count ks))
    counts_tell false m o ks e = tt
    counts_tell true m o ks e =
        let first : o ≡ offset_of (node_at nodes n).0 = sym (ap (λ (f : Flat). offset_of f.0) e) in
        let many : count ks ≡ actual_by (node_at nodes n).0 (node_at nodes n).1 = sym (ap (λ (f : Flat). actual_by f.0 f.1) e) in
        (tt, (first, ((first, many), tt)))

    tag_tell : (d : Option TypeDef) (arms : List Arm) (default : Option Arm) (v : ℤ) (c : ℕ) → node_at nodes n ≡ (tree.Union v, c)
        → AllByRecursion (Tells nodes most n) (tag_entries d arms default v)
    tag_tell (Some (def.Prim p)) arms default v c e = (tt, (sym (ap (λ (f : Flat). tag_of f.0) e), tt))
    tag_tell (Some (def.Enum vs)) arms default v c e = (tt, (sym (ap (λ (f : Flat). tag_of f.0) e), tt))
    tag_tell None arms default v c e = (tt, tt)
    tag_tell (Some _) arms default v c e = (tt, tt)

    node_tells : (table : Table) (t : ℕ) (d : Option TypeDef) (l : Label) (ks : Trees) → View table t d l → node_at nodes n ≡ (l, count ks)
        → AllByRecursion (Tells nodes most n) (before_children table t d l ks)
    node_tells table t d l ks v_prim e = (tt, (tt, tt))
    node_tells table t d l ks v_enum e = (tt, (tt, tt))
    node_tells table t d l ks v_struct e = (tt, tt)
    node_tells table t d l ks (v_array {v = b} {m = m} {o = o}) e = counts_tell b m o ks e
    node_tells table t d l ks (v_text {m = m} {os = os}) e =
        let first : 0 ≡ offset_of (node_at nodes n).0 = sym (ap (λ (f : Flat). offset_of f.0) e) in
        let many : length os + 1 ≡ actual_by (node_at nodes n).0 (node_at nodes n).1 = sym (ap (λ (f : Flat). actual_by f.0 f.1) e) in
        (tt, (first, ((first, many), (tt, tt))))
    node_tells table t d l ks (v_union {tag = tag} {arms = arms} {d = default} {v = v}) e = tag_tell (type_at table tag.0) arms default v (count ks) e
    node_tells table t d l ks v_pointer e = (tt, (tt, tt))
    node_tells table t d l ks v_context e = (tt, (tt, tt))
    node_tells table t d l ks (v_unread f) e = subst (AllByRecursion (Tells nodes most n)) (sym (f ks)) (tt, tt)

  pub place_tells : (table : Table) (types : List ℕ) (n : ℕ) (ts : Trees) (pre post : List Flat) → nodes ≡ pre ++ (flat ts ++ post) → n ≡ length pre → All (in_place table h types n ts)
  place_tells table types n none pre post e k = tt
  place_tells table [] n (more t ts) pre post e k = tt
  place_tells table (t ∷ types) n (more (node l ks) ts) pre post e k =
      let d : Option TypeDef = type_at table t in
      let f : Flat = (l, count ks) in
      let e1 : nodes ≡ pre ++ (f ∷ (flat ks ++ (flat ts ++ post))) = e ∙ ap (λ u. pre ++ (f ∷ u)) (append_assoc (flat ks) (flat ts) post) in
      let here : node_at nodes n ≡ f = ap (λ u. node_at u n) e1 ∙ ap (node_at (pre ++ (f ∷ (flat ks ++ (flat ts ++ post))))) k ∙ node_here pre (flat ks ++ (flat ts ++ post)) f in
      let kids : nodes ≡ (pre ++ f ∷ []) ++ (flat ks ++ (flat ts ++ post)) = e1 ∙ sym (append_assoc pre (f ∷ []) (flat ks ++ (flat ts ++ post))) in
      let rest : nodes ≡ (pre ++ (f ∷ flat ks)) ++ (flat ts ++ post) = e1 ∙ sym (append_assoc pre (f ∷ flat ks) (flat ts ++ post)) in
      let k1 : n + 1 ≡ length (pre ++ f ∷ []) = omega (arith, k, length-append pre (f ∷ [])) in
      let k2 : n + 1 + node_count ks ≡ length (pre ++ (f ∷ flat ks)) = omega (arith, k, length-append pre (f ∷ flat ks), flat_length ks) in
      let A : List Entry = entries h n (before_children table t d l ks) in
      let B : List Entry = in_place table h (child_types d l ks) (n + 1) ks in
      let C : List Entry = child_tests h (child_agreements d ks) (n + 1) ks in
      let D : List Entry = in_place table h types (n + 1 + node_count ks) ts in
      all_append (TellsAt g) A (B ++ (C ++ D)) (kinds_tell n _ (node_tells n table t d l ks (view table t d l) here))
      (all_append (TellsAt g) B (C ++ D) (place_tells table (child_types d l ks) (n + 1) ks (pre ++ f ∷ []) (flat ts ++ post) kids k1)
      (all_append (TellsAt g) C D (child_tell (child_agreements d ks) (n + 1) ks)
      (place_tells table types (n + 1 + node_count ks) ts (pre ++ (f ∷ flat ks)) post rest k2)))

-- ## What was found

-- the entries that were seen are those of a list at their places
abbrev AllSeen : List Entry → List EntryAt → Type 0
AllSeen s seen = (x : Entry) → Among s x → (y : EntryAt) × Among seen y × (y.entry ≡ x)

seen_next : (s : List Entry) (seen : List EntryAt) (y : EntryAt) → AllSeen s seen → AllSeen (y.entry ∷ s) (seen ++ y ∷ [])
seen_next s seen y a x (inl e) = (y, among_right seen (y ∷ []) y (inl refl), sym e)
seen_next s seen y a x (inr m) = let (z, k, e) = a x m in (z, among_left seen (y ∷ []) z k, e)

module _ (g : Graph) where
  abbrev Tell : List EntryAt → Type 0
  Tell xs = AllByRecursion (λ x. TellsAt g x.entry) xs

  spoken_at : (a : Attr) (h : Home) (n : ℕ) (found : ℤ) (s : List Entry) (seen : List EntryAt) → AllSeen s seen → Tell seen → (x : Entry) → Among s x → Spoken a h n found x
      → (y : EntryAt) × Among seen y × IsSpokenOf a h n found y × (tested_at seen a h n ≡ Some y.at)
  spoken_at a h n found s seen all tell x m k =
      let (y, my, ey) = all x m in
      found_first g a h n found seen tell y my (record {
        home = ap (λ u. u.home) ey ∙ k.home;
        node = ap (λ u. u.node) ey ∙ k.node;
        holds = subst (λ u. HoldsFound a found u.kind) (sym ey) k.holds;
      })

  all_found : (order : Order) (nums : ℕ → ℕ) (octets : List ℕ) (s : List Entry) (seen : List EntryAt) (at : ℕ) (ms : List Entry) → AllSeen s seen → Tell seen
      → AllByRecursion (TellsAt g) ms → Finds s ms → AllByRecursion (IsRendered order nums octets) (end_to_end at ms) → AllFound seen at ms
  all_found order nums octets s seen at [] all tell t f r = tt
  all_found order nums octets s seen at (m ∷ ms) all tell t (inl u) r = absurd (not_spelt order nums octets at m u r.0)
  all_found order nums octets s seen at (m ∷ ms) all tell t (inr (read, f, rest)) r =
      let here : EntryAt = record { at = at; entry = m } in (
        by_kind m.kind f,
        all_found order nums octets (m ∷ s) (seen ++ here ∷ []) (at + size_at at m.kind) ms (seen_next s seen here all)
            (all_append (λ x. TellsAt g x.entry) seen (here ∷ []) tell (t.0, tt)) t.1 rest r.1,
      )
    where
      by_kind : (k : Kind) → Found s m k → IsFound seen m k
      by_kind (Test a wanted found) (x, mx, sp) =
          let (y, my, ey, e) = spoken_at a m.home m.node found s seen all tell x mx sp in
          (y.at, e)
      by_kind (Align n) f = tt
      by_kind _ f = tt

-- ## A chunk

-- a graph whose root of this number is a pipe of these elements
abbrev pub alone : ℕ → Trees → Graph
alone r ts = record { roots = replicate r unread ++ node tree.Pipe ts ∷ []; cells = [] }

root_alone : (r : ℕ) (ts : Trees) → root_at (alone r ts) r ≡ node tree.Pipe ts
root_alone r ts = ap or_unread (at_end r)
  where
    at_end : (n : ℕ) → slice_get (replicate n unread ++ node tree.Pipe ts ∷ []) n ≡ Some (node tree.Pipe ts)
    at_end zero = refl
    at_end (suc n) = at_end n

module _ (w : Setting) (side : IsLegalSide w) (s : Spot) (plain : hoists w.table (elem_at w s.root) ≡ false) (k : ℕ) (ts : Trees) where
  abbrev h : Home
  h = home.Root s.root

  abbrev g : Graph
  g = alone s.root ts

  abbrev header : List Entry
  header = entries (home.Root s.root) 0 (Align 4 ∷ Chunk k ∷ [])

  abbrev elements : List Entry
  elements = in_place w.table (home.Root s.root) (replicate k (elem_at w s.root)) 1 ts

  all_tell : AllByRecursion (TellsAt g) (own_entries w s k ts)
  all_tell =
      let e : flat (more (home_tree g h) none) ≡ (tree.Pipe, count ts) ∷ (flat ts ++ []) = ap (λ v. flat (more v none)) (root_alone s.root ts) in
      (tt, (tt, place_tells g h w.table (replicate k (elem_at w s.root)) 1 ts ((tree.Pipe, count ts) ∷ []) [] e refl))

  all_find : (g' : Graph) → Known g' w.table (replicate k (elem_at w s.root)) ts → Finds [] (own_entries w s k ts)
  all_find g' known =
      behind header elements [] (kinds_find h 0 [] (Align 4 ∷ Chunk k ∷ []) (tt, (tt, tt))) (λ read.
      in_place_find w.table (laid_out w side).hoisting (has_subjects w.table side.operations side.legal) g' h (replicate k (elem_at w s.root)) 1 ts (onto header [])
      (replicate_only (hoists w.table) (elem_at w s.root) plain k) known (λ z. absurd (both_ways _ (replicate_last (hoists w.table) (elem_at w s.root) plain k) z)))

  -- the agreements of a chunk that is spelt
  pub part_found : (g' : Graph) → Known g' w.table (replicate k (elem_at w s.root)) ts → (order : Order) (nums : ℕ → ℕ) (octets : List ℕ) (at : ℕ)
      → AllByRecursion (IsRendered order nums octets) (end_to_end at (own_entries w s k ts)) → AllFound [] at (own_entries w s k ts)
  part_found g' known order nums octets at r = all_found g order nums octets [] [] at (own_entries w s k ts) (λ x m. absurd m) tt all_tell (all_find g' known) r
