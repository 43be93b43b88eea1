-- Octets that the plain reader of a chunk reads to their end are a chunk of the elements that it finds, which conform.
use Rattle.std.proofs.Common.{◌≡◌, ◌≤◌, ℕ, ◌+◌, ◌*◌, ◌-◌, zero, suc, true, List, [], ◌∷◌, ◌++◌, length, Some, None, refl, ap, sym, ◌∙◌, subst, arith, map, replicate}
use Rattle.std.specs.Prelude.{flat_map}
use Rattle.std.specs.List.{AllByRecursion, list_all}
use Rattle.std.proofs.lemmas.List.{append-nil}
use Rattle.nd_base.specs.declared.octets.Order.{Order}
use Rattle.nd_base.specs.declared.TheConstants.{STREAM_LIMIT}
use Rattle.nd_types.specs.Number.{AreOctets}
use Rattle.nd_types.specs.Table.{Table, type_at}
use Rattle.nd_value.specs.declared.item.Home.{Home}
use Rattle.nd_value.specs.declared.item.Home.TheVariants as home
use Rattle.nd_value.specs.declared.item.Item.{Item}
use Rattle.nd_value.specs.Agreement.{Agreement}
use Rattle.nd_value.specs.Conforms.{AgreesAt, IsAgreed, subject_by}
use Rattle.nd_value.specs.Deferral.{pointer}
use Rattle.nd_value.specs.Misfit.{has_machine_values, misfit_by, misfit_of}
use Rattle.nd_value.specs.Nodes.{TypedNode, child_types, child_agreements, rest_agreements, home_nodes, nodes_of}
use Rattle.nd_value.specs.Setting.{Setting}
use Rattle.nd_value.specs.Tree as tree
use Rattle.nd_value.specs.Tree.{Tree, Trees, node, none, more, Label, count, node_count, trees}
use Rattle.nd_value.proofs.Apart.{all_append, all_left, all_right}
use Rattle.nd_grammar.specs.Entry.{Entry, Align, Chunk, end_to_end, end_of, entries, in_place}
use Rattle.nd_grammar.specs.Items.{items}
use Rattle.nd_grammar.specs.LegalSide.{IsLegalSide}
use Rattle.nd_grammar.specs.Reader.{ReadAll}
use Rattle.nd_grammar.specs.Stream.{IsRendered}
use Rattle.nd_grammar.proofs.LegalSides.{laid_out}
use Rattle.nd_grammar.proofs.conforming.Passed.{Passed, all_passed, least, least_append, least_end}
use Rattle.nd_grammar.proofs.conforming.PassedTrees.{PendingAgrees, in_place_agrees, in_place_fits}
use Rattle.nd_grammar.proofs.conforming.StreamConforms.{no_child_tests}
use Rattle.nd_grammar.proofs.next.Mapped.{no_pointers}
use Rattle.nd_grammar.proofs.next.NextStream.{FitsPipes}
use Rattle.nd_grammar.proofs.reader.EntriesFine.{follows_within}
use Rattle.nd_grammar.proofs.reader.FewNodes.{AllFew, Few, list_few, many_ones, ones, some_bound, some_members, value_few}
use Rattle.nd_grammar.proofs.reader.MadeTrees.{CellFits}
use Rattle.nd_grammar.specs.MadeTrees.{MadeTrees}
use Rattle.nd_grammar.proofs.reader.ReaderVerdict.{AllTaken, all_taken}
use Rattle.ndr_drain_laws.specs.parts.Parts.{IsElement, IsPart, Part, Spot, after, elem_at, no_graph, part_entries}
use Rattle.ndr_decoder_laws.specs.reader.Around.{going}
use Rattle.ndr_drain_laws.specs.reader.PartReader.{IsAtPipe, count_of, read_part}
use Rattle.ndr_drain_laws.specs.reader.Outcomes.{PartWhole}
use Rattle.ndr_drain_laws.proofs.reader.Elements.{fits, many, part_fine, plain, readable}
use Rattle.ndr_drain_laws.proofs.reader.Elsewhere.{all_from, rendered_elsewhere}
use Rattle.ndr_drain_laws.proofs.reader.Found.{part_found}
use Rattle.ndr_drain_laws.proofs.reader.Known.{elements_known}
use Rattle.ndr_drain_laws.proofs.reader.Renumbered.{end_moved, moved_at, moved_entry, own_entries, part_moved, rendered_moved}
use Rattle.ndr_drain_laws.proofs.reader.Through.{chunk_gone, cut_here, elements_are, elements_machine, from_moved, in_pipe, items_then}

-- ## Nodes of elements, element by element

-- what is true of a node whatever its number
module _ (table : Table) (R : ℕ → List Agreement → Label → Trees → Type 0) where
  abbrev pub Holds : TypedNode → Type 0
  Holds x = R x.of x.agreements x.label x.kids

  renumbered : (types : List ℕ) (ags : List (List Agreement)) (n m : ℕ) (ts : Trees) → AllByRecursion Holds (nodes_of table types ags n ts) → AllByRecursion Holds (nodes_of table types ags m ts)
  renumbered types ags n m none a = tt
  renumbered [] ags n m (more t ts) a = tt
  renumbered (t ∷ types) ags n m (more (node l ks) ts) a =
      let K : ℕ → List TypedNode = λ k. nodes_of table (child_types (type_at table t) l ks) (child_agreements (type_at table t) ks) (k + 1) ks in
      let L : ℕ → List TypedNode = λ k. nodes_of table types (rest_agreements ags) (k + 1 + node_count ks) ts in (
        a.0,
        all_append Holds (K m) (L m)
            (renumbered (child_types (type_at table t) l ks) (child_agreements (type_at table t) ks) (n + 1) (m + 1) ks (all_left Holds (K n) (L n) a.1))
            (renumbered types (rest_agreements ags) (n + 1 + node_count ks) (m + 1 + node_count ks) ts (all_right Holds (K n) (L n) a.1)),
      )

  pub each_element : (t k n : ℕ) (ts : Trees) → AllByRecursion Holds (nodes_of table (replicate k t) [] n ts) → count ts ≡ k
      → AllByRecursion (λ v. AllByRecursion Holds (home_nodes table t v)) (tree.items ts)
  each_element t k n none a c = tt
  each_element t zero n (more v ts) a c = absurd (omega (arith, c))
  each_element t (suc k) n (more (node l ks) ts) a c =
      let K : ℕ → List TypedNode = λ j. nodes_of table (child_types (type_at table t) l ks) (child_agreements (type_at table t) ks) (j + 1) ks in
      let L : List TypedNode = nodes_of table (replicate k t) [] (n + 1 + node_count ks) ts in (
        (
          a.0,
          all_append Holds (K 0) []
              (renumbered (child_types (type_at table t) l ks) (child_agreements (type_at table t) ks) (n + 1) 1 ks (all_left Holds (K n) L a.1)) tt,
        ),
        each_element t k (n + 1 + node_count ks) ts (all_right Holds (K n) L a.1) (omega (arith, c)),
      )

-- agreements of a node hold whatever its number
abbrev Agrees : ℕ → List Agreement → Label → Trees → Type 0
Agrees of ags l ks = AgreesAt no_graph (record { node = 0; of = of; agreements = ags; label = l; kids = ks })

subject_any : (x y : TypedNode) → x.kids ≡ y.kids → (l : Label) → subject_by no_graph x l ≡ subject_by no_graph y l
subject_any x y e (tree.Ptr None) = refl
subject_any x y e (tree.Ptr (Some c)) = refl
subject_any x y e (tree.Num z) = ap (λ ks. node (tree.Num z) ks ∷ []) e
subject_any x y e tree.Rec = ap (λ ks. node tree.Rec ks ∷ []) e
subject_any x y e (tree.Arr m o) = ap (λ ks. node (tree.Arr m o) ks ∷ []) e
subject_any x y e (tree.Text m os) = ap (λ ks. node (tree.Text m os) ks ∷ []) e
subject_any x y e (tree.Union v) = ap (λ ks. node (tree.Union v) ks ∷ []) e
subject_any x y e (tree.Context a i) = ap (λ ks. node (tree.Context a i) ks ∷ []) e
subject_any x y e tree.Pipe = ap (λ ks. node tree.Pipe ks ∷ []) e
subject_any x y e tree.Unread = ap (λ ks. node tree.Unread ks ∷ []) e

agree_any : (xs : List TypedNode) → AllByRecursion (AgreesAt no_graph) xs → AllByRecursion (λ x. Agrees x.of x.agreements x.label x.kids) xs
agree_any [] a = tt
agree_any (x ∷ xs) a = (
  subst (AllByRecursion (λ t. AllByRecursion (IsAgreed t) x.agreements))
      (subject_any x (record { node = 0; of = x.of; agreements = x.agreements; label = x.label; kids = x.kids }) refl x.label) a.0,
  agree_any xs a.1,
)

agree_here : (xs : List TypedNode) → AllByRecursion (λ x. Agrees x.of x.agreements x.label x.kids) xs → AllByRecursion (AgreesAt no_graph) xs
agree_here [] a = tt
agree_here (x ∷ xs) a = (
  subst (AllByRecursion (λ t. AllByRecursion (IsAgreed t) x.agreements))
      (subject_any (record { node = 0; of = x.of; agreements = x.agreements; label = x.label; kids = x.kids }) x refl x.label) a.0,
  agree_here xs a.1,
)

-- ## A chunk

module _ (w : Setting) (side : IsLegalSide w) (order : Order) (s : Spot) (at_pipe : IsAtPipe w s) (before octets : List ℕ) (of_place : length before ≡ s.place) (all : AreOctets (before ++ octets))
    (no_stop : (read_part w order (before ++ octets) s).progress.stop ≡ None) (to_end : (read_part w order (before ++ octets) s).progress.at ≡ s.place + length octets) where
  abbrev A : List ℕ
  A = before ++ octets

  abbrev h : Home
  h = home.Root s.root

  abbrev e : ℕ
  e = elem_at w s.root

  abbrev k : ℕ
  k = count_of w order A s

  abbrev r : ReadAll
  r = read_part w order A s

  abbrev own : List Entry
  own = own_entries w s k r.trees

  abbrev m : ℕ
  m = s.node - 1

  abbrev els : List Tree
  els = tree.items r.trees

  taken_by : (nums : ℕ → ℕ) → AllTaken order A nums (going s.place []) own r.progress
  taken_by nums = all_taken order A nums own (going s.place []) r.progress refl no_stop ((chunk_gone w side order s at_pipe before octets of_place all).follows nums)

  made : MadeTrees w.table (replicate k e) r.trees
  made = (chunk_gone w side order s at_pipe before octets of_place all).made

  passed : AllByRecursion Passed own
  passed =
      let t = taken_by (λ c. 0) in
      all_passed order A (λ c. 0) [] s.place own (part_found w side s (plain w side s at_pipe) k r.trees no_graph (elements_known w side s at_pipe k r.trees made) order (λ c. 0) A s.place t.rendered)
      t.rendered t.accepted

  abbrev header : List Entry
  header = entries (home.Root s.root) 0 (Align 4 ∷ Chunk k ∷ [])

  abbrev inside : List Entry
  inside = in_place w.table (home.Root s.root) (replicate k e) 1 r.trees

  elements_passed : AllByRecursion Passed inside
  elements_passed = all_right Passed header inside passed

  bare : flat_map (pointer w.table h) (nodes_of w.table (replicate k e) [] 1 r.trees) ≡ []
  bare = no_pointers w.table h (replicate k e) [] 1 r.trees (many (FitsPipes w.table) e k (fits w side s at_pipe))

  as_many : count r.trees ≡ k
  as_many = (chunk_gone w side order s at_pipe before octets of_place all).many_are

  elements_fit : AllByRecursion (λ v. AllByRecursion (λ x. misfit_of w.table no_graph x ≡ None) (home_nodes w.table e v)) els
  elements_fit =
      each_element w.table (λ of ags l ks. misfit_by w.table no_graph (type_at w.table of) l ks ≡ None) e k 1 r.trees
      (in_place_fits w.table no_graph h (replicate k e) [] [] 1 r.trees made (subst (AllByRecursion (CellFits [])) (sym bare) tt) elements_passed) as_many

  elements_agree : AllByRecursion (λ v. AllByRecursion (λ x. Agrees x.of x.agreements x.label x.kids) (home_nodes w.table e v)) els
  elements_agree =
      each_element w.table Agrees e k 1 r.trees
      (agree_any (nodes_of w.table (replicate k e) [] 1 r.trees)
      (in_place_agrees w.table no_graph h (replicate k e) [] 1 r.trees made (subst (AllByRecursion (PendingAgrees w.table no_graph)) (sym bare) tt) elements_passed (no_child_tests h 1 r.trees)))
      as_many

  three : (vs : List Tree) → AllByRecursion (λ v. list_all (λ x. has_machine_values x.label) (home_nodes w.table e v) ≡ true) vs
      → AllByRecursion (λ v. AllByRecursion (λ x. misfit_of w.table no_graph x ≡ None) (home_nodes w.table e v)) vs
      → AllByRecursion (λ v. AllByRecursion (λ x. Agrees x.of x.agreements x.label x.kids) (home_nodes w.table e v)) vs → AllByRecursion (IsElement w.table e) vs
  three [] a b c = tt
  three (v ∷ vs) a b c = (record { machine_values = a.0; local = b.0; agreed = agree_here (home_nodes w.table e v) c.0 }, three vs a.1 b.1 c.1)

  elements_conform : AllByRecursion (IsElement w.table e) els
  elements_conform = three els (elements_machine w.table e (fits w side s at_pipe) k r.trees made) elements_fit elements_agree

  -- ## Their nodes are few

  nodes_few : node_count r.trees ≤ 32 * least inside
  nodes_few =
      let hoisting = (laid_out w side).hoisting in
      let members = some_members w.table side.operations side.legal in
      let bounds = some_bound w.table side.operations side.legal in
      let f : AllFew w.table h hoisting members bounds 32 (replicate k e) 1 r.trees =
      list_few w.table h hoisting members bounds 32 (replicate k e)
      (many (Few w.table h hoisting members bounds 32) e k (value_few w.table h hoisting members bounds 32 e (readable w side s at_pipe))) 1 r.trees made elements_passed in
      let o : ones w.table h hoisting members bounds (replicate k e) ≡ 0 = many_ones w.table h hoisting members bounds e k (plain w side s at_pipe) in
      omega (arith, f.below, o)

  ends_at : end_of s.place own ≡ s.place + length octets
  ends_at = sym (taken_by (λ c. 0)).at ∙ to_end

  paid_by : 4 + least inside ≤ length octets
  paid_by =
      let a : least (header ++ inside) ≡ least header + least inside = least_append header inside in
      let b = least_end s.place own in
      omega (arith, a, b, ends_at)

  abbrev p : Part
  p = record { octets = octets; elements = els }

  limit : s.place + length octets ≤ STREAM_LIMIT
  limit =
      subst (λ n. n ≤ STREAM_LIMIT) to_end
      (follows_within (λ c. ⊥) order A suc own (going s.place []) r.progress (part_fine w side order s at_pipe A all k r.trees) at_pipe.within
      ((chunk_gone w side order s at_pipe before octets of_place all).follows suc))

  few_after : (after s p).node ≤ 32 * (after s p).place + 1
  few_after = go els (elements_are w side order s at_pipe before octets of_place all).0
    where
      go : (vs : List Tree) → trees vs ≡ r.trees → (after s (record { octets = octets; elements = vs })).node ≤ 32 * (after s (record { octets = octets; elements = vs })).place + 1
      go [] e = omega arith
      go (v ∷ vs) f =
          let n : node_count (trees (v ∷ vs)) ≡ node_count r.trees = ap node_count f in
          omega (arith, n, nodes_few, paid_by, at_pipe.few)

  place_after : (after s p).place ≡ s.place + length octets
  place_after = go els
    where
      go : (vs : List Tree) → (after s (record { octets = octets; elements = vs })).place ≡ s.place + length octets
      go [] = refl
      go (v ∷ vs) = refl

  -- ## The chunk

  its_entries : end_to_end s.place (part_entries w s (length els) els) ≡ map (moved_at m) (end_to_end s.place own)
  its_entries = in_pipe w side order s at_pipe before octets of_place all

  pub its_part : IsPart w order s (record { octets = octets; elements = tree.items (read_part w order (before ++ octets) s).trees })
  its_part = record {
    pipe_left = at_pipe.left;
    spelt = record {
      rendered = λ b nums of_b.
          subst (AllByRecursion (IsRendered order nums (b ++ octets))) (sym its_entries)
          (rendered_elsewhere order s.place octets before b of_place of_b nums (map (moved_at m) (end_to_end s.place own))
          (from_moved s.place m (end_to_end s.place own) (all_from s.place s.place own (omega arith)))
          (rendered_moved m order nums A (end_to_end s.place own) (taken_by nums).rendered));
      whole =
          (let (a, b) = elements_are w side order s at_pipe before octets of_place all in
          ap (end_of s.place) (ap (λ n. part_entries w s n els) b ∙ part_moved w s k els at_pipe.one ∙ ap (λ ts. map (moved_entry m) (own_entries w s k ts)) a)
          ∙ end_moved m s.place own ∙ ends_at);
      within = limit;
    };
    elements = elements_conform;
    few_nodes = omega (arith, few_after, place_after, limit);
  }

  all_seen : r.progress.seen ≡ end_to_end s.place own ++ []
  all_seen = (taken_by (λ c. 0)).seen ∙ sym (append-nil (end_to_end s.place own))

  -- Its items, and how far its pipe is read after it.
  pub whole_part : (noted : List Item) → items order (before ++ octets) (read_part w order (before ++ octets) s).progress.seen ≡ noted
      → PartWhole w order s octets (tree.items (read_part w order (before ++ octets) s).trees) noted
  whole_part noted f =
      let g : items order A (end_to_end s.place own) ≡ noted = ap (items order A) (sym (taken_by (λ c. 0)).seen) ∙ f in
      record {
        read = its_part;
        items_are = λ b of_b.
            ap (items order (b ++ octets)) its_entries
            ∙ items_then w side order s at_pipe before octets of_place all (end_to_end s.place own) [] all_seen noted g (all_from s.place s.place own (omega arith)) b of_b;
        few_then = few_after;
        cut = cut_here w side order s at_pipe before octets of_place all (end_to_end s.place own) [] all_seen noted g;
      }
