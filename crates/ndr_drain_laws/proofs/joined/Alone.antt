-- A head and chunks up to the end of every pipe represent one graph alone.
use Rattle.std.proofs.Common.{◌≡◌, ◌≤◌, ap, ap₂, sym, subst, refl, ℕ, List, [], ◌∷◌, ◌++◌, length, replicate, Some, None, arith}
use Rattle.std.proofs.lemmas.List.{append-nil}
use Rattle.nd_base.specs.declared.octets.Order.{Order}
use Rattle.nd_types.specs.Table.{Table, type_at}
use Rattle.nd_value.specs.declared.value.Graph.{Graph}
use Rattle.nd_value.specs.Agreement.{Agreement}
use Rattle.nd_value.specs.Canon.{IsCanon, renumbered, renumbered_label}
use Rattle.nd_value.specs.Conforms.{Conforms}
use Rattle.nd_value.specs.Deferral.{before_pipes}
use Rattle.nd_value.specs.Nodes.{child_agreements, child_types, rest_agreements}
use Rattle.nd_value.specs.Setting.{Setting, root_list}
use Rattle.nd_value.specs.Tree as tree
use Rattle.nd_value.specs.Tree.{Tree, Trees, node, none, more, trees, Label}
use Rattle.nd_value.proofs.FewRoots.{few_before_pipes}
use Rattle.nd_grammar.specs.Entry.{end_to_end}
use Rattle.nd_grammar.specs.LegalSide.{IsLegalSide}
use Rattle.nd_grammar.specs.Stream.{IsNumbering, Represents}
use Rattle.nd_grammar.proofs.OneGraph.{one_graph}
use Rattle.nd_grammar.proofs.conforming.GoodTrees.{GoodTrees}
use Rattle.nd_grammar.specs.decoded.Verdict.{RepresentsAlone}
use Rattle.ndr_drain_laws.specs.parts.Parts.{AreParts, AreReadTo, Part, Spot, after, after_all, elem_at, first_spot, no_graph, octets_of, pipes_by, pipes_of, with_pipes}
use Rattle.ndr_drain_laws.proofs.parts.Chunks.{parts_entries}
use Rattle.ndr_drain_laws.proofs.parts.Conforming.{conforming}
use Rattle.ndr_drain_laws.proofs.parts.Elements.{NamesNone, names_none_by}
use Rattle.ndr_drain_laws.proofs.parts.Streams.{all_joined, first_end, first_entries, first_numbers, first_rendered, first_within, pipe_tops, stream}
use Rattle.ndr_drain_laws.proofs.heads.Canonical.{canonical_pipes}
use Rattle.ndr_drain_laws.specs.joined.Entries.{entries_to}
use Rattle.ndr_drain_laws.proofs.joined.Front.{front_is, good_elements}

-- ## Pipes name no cells, so no map of cells changes them

still_label : (m : ℕ → ℕ) (l : Label) → NamesNone l → renumbered_label m l ≡ l
still_label m (tree.Ptr (Some c)) e = absurd (e c refl)
still_label m (tree.Ptr None) e = refl
still_label m (tree.Num z) e = refl
still_label m _ e = refl

still_trees : (m : ℕ → ℕ) (table : Table) (types : List ℕ) (ags : List (List Agreement)) (ts : Trees) → GoodTrees table no_graph types ags ts → renumbered m ts ≡ ts
still_trees m table [] ags none a = refl
still_trees m table [] ags (more t ts) a = absurd a
still_trees m table (t ∷ types) ags none a = absurd a
still_trees m table (t ∷ types) ags (more (node l ks) ts) a =
    ap₂ more
    (ap₂ node (still_label m l (names_none_by l a.0.cell)) (still_trees m table (child_types (type_at table t) l ks) (child_agreements (type_at table t) ks) ks a.2))
    (still_trees m table types (rest_agreements ags) ts a.3)

abbrev Still : List Tree → Type 0
Still vs = (m : ℕ → ℕ) → renumbered m (trees vs) ≡ trees vs

still_first : (m : ℕ → ℕ) (u : Tree) (us vs : List Tree) → renumbered m (trees (u ∷ us)) ≡ trees (u ∷ us) → renumbered m (trees (us ++ vs)) ≡ trees (us ++ vs)
    → renumbered m (trees (u ∷ us ++ vs)) ≡ trees (u ∷ us ++ vs)
still_first m (node l ks) us vs e f = let a : node (renumbered_label m l) (renumbered m ks) ≡ node l ks = cc in ap₂ more a f

still_others : (m : ℕ → ℕ) (u : Tree) (us : List Tree) → renumbered m (trees (u ∷ us)) ≡ trees (u ∷ us) → renumbered m (trees us) ≡ trees us
still_others m (node l ks) us e = cc

still_both : (us vs : List Tree) → Still us → Still vs → Still (us ++ vs)
still_both [] vs a b = b
still_both (u ∷ us) vs a b = λ m. still_first m u us vs (a m) (still_both us vs (λ k. still_others k u us (a k)) b m)

module _ (w : Setting) (order : Order) where
  abbrev Rest : List Part → Type 0
  Rest ps = (s : Spot) (vs : List Tree) → AreParts w order s ps → Still vs → Still (pipes_of vs ps)

  by_elements : (els : List Tree) (others : List Tree → List Tree) (vs : List Tree) → ((us : List Tree) → Still us → Still (others us)) → Still els → Still vs → Still (pipes_by others vs els)
  by_elements [] others vs f e v = λ m. ap₂ more (ap (node tree.Pipe) (v m)) (f [] (λ k. refl) m)
  by_elements (u ∷ us) others vs f e v = f (vs ++ u ∷ us) (still_both vs (u ∷ us) v e)

  still_pipes : (ps : List Part) → Rest ps
  still_pipes [] s vs a v = λ m. refl
  still_pipes (p ∷ ps) s vs a v =
      by_elements p.elements (λ us. pipes_of us ps) vs (λ us b. still_pipes ps (after s p) us a.1 b)
      (λ m. still_trees m w.table (replicate (length p.elements) (elem_at w s.root)) [] (trees p.elements) (good_elements w.table (elem_at w s.root) no_graph p.elements a.0.elements)) v

-- ## The graph

module _ (w : Setting) (side : IsLegalSide w) (order : Order) (head : List ℕ) (g : Graph) (parts : List Part) (it : AreReadTo w order head g parts) (canonical : IsCanon w g g)
    (all : length (root_list w) ≤ (after_all (first_spot w head) parts).root) where
  abbrev G : Graph
  G = with_pipes w g (pipes_of [] parts)

  abbrev octets : List ℕ
  octets = head ++ octets_of parts

  abbrev its_stream : Represents w order octets G
  its_stream = record {
    entries = first_entries w order head g parts it;
    stream = stream w side order head g it.is_head it.empty it.conforms (pipes_of [] parts) (pipe_tops parts []) (parts_entries w (first_spot w head) parts)
        (all_joined w side order head parts it.are_parts all);
    numbering = it.is_head.numbering;
    is_numbering = subst (IsNumbering it.is_head.numbering) (first_numbers w order head g parts it) it.is_head.is_numbering;
    rendered = first_rendered w order head g parts it;
    whole = first_end w order head g parts it;
    within = first_within w order head g parts it;
  }

  its_graph : Conforms w G
  its_graph = conforming w side order head g parts it all

  few : before_pipes (root_list w) ≤ length g.roots
  few = let h : before_pipes (root_list w) ≤ length (root_list w) = few_before_pipes (root_list w) in omega (arith, h, it.conforms.all_roots)

  abbrev alone : RepresentsAlone w order octets G
  alone = record {
    represented = its_stream;
    conforms = its_graph;
    canonical = canonical_pipes w g (pipes_of [] parts) (still_pipes w order parts (first_spot w head) [] it.are_parts (λ m. refl)) few canonical;
    one_graph = λ h c r. (one_graph w side order octets [] G h its_graph c (subst (λ u. Represents w order u G) (sym (append-nil octets)) its_stream) r).1;
    no_part = λ part rest h e c r. (one_graph w side order part rest G h its_graph c (subst (λ u. Represents w order u G) e its_stream) r).0;
  }

  pub joined_alone : (a : RepresentsAlone w order (head ++ octets_of parts) (with_pipes w g (pipes_of [] parts)))
      × (end_to_end 0 a.represented.entries ≡ entries_to w g it.is_head.steps head parts)
  joined_alone = (alone, front_is w side order head g parts it)
