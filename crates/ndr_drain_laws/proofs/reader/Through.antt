-- Octets are read through the first entries of a chunk that the plain reader passes by itself, and so are they in its pipe.
use Rattle.std.proofs.Common.{◌≡◌, ◌≤◌, ℕ, ◌+◌, ◌*◌, ◌-◌, zero, suc, true, List, [], ◌∷◌, ◌++◌, length, length-append, append_assoc, refl, ap, sym, ◌∙◌, subst, arith, map, replicate}
use Rattle.std.specs.Prelude.{flat_map}
use Rattle.std.specs.List.{AllByRecursion, list_all}
use Rattle.std.proofs.lemmas.Bool.{and_from}
use Rattle.std.proofs.lemmas.List.{map-append}
use Rattle.nd_base.specs.declared.octets.Order.{Order}
use Rattle.nd_types.specs.Number.{AreOctets}
use Rattle.nd_types.specs.Table.{Table}
use Rattle.nd_value.specs.declared.item.Home.{Home}
use Rattle.nd_value.specs.declared.item.Home.TheVariants as home
use Rattle.nd_value.specs.declared.item.Item.{Item}
use Rattle.nd_value.specs.Deferral.{pointer}
use Rattle.nd_value.specs.Misfit.{is_partial_node, has_machine_values}
use Rattle.nd_value.specs.Nodes.{TypedNode, home_nodes, nodes_of}
use Rattle.nd_value.specs.Setting.{Setting}
use Rattle.nd_value.specs.Tree as tree
use Rattle.nd_value.specs.Tree.{Trees, node, none, more, trees}
use Rattle.nd_value.proofs.Apart.{all_left, all_weaker}
use Rattle.nd_grammar.specs.Entry.{Entry, EntryAt, size_at, end_to_end, end_of}
use Rattle.nd_grammar.specs.Items.{but_gaps, items}
use Rattle.nd_grammar.specs.LegalSide.{IsLegalSide}
use Rattle.nd_grammar.specs.Reader.{ReadAll}
use Rattle.nd_grammar.specs.Refusal.{Accepts}
use Rattle.nd_grammar.specs.Stream.{IsRendered}
use Rattle.nd_grammar.proofs.ItemSizes.{numbers, items_size}
use Rattle.nd_grammar.proofs.next.Mapped.{no_pointers}
use Rattle.nd_grammar.proofs.next.NextStream.{FitsPipes}
use Rattle.nd_grammar.proofs.reader.MadeTrees.{CellFits, IsPartialNode, made_nodes}
use Rattle.nd_grammar.specs.MadeTrees.{MadeTrees}
use Rattle.ndr_drain_laws.specs.parts.Parts.{IsPartThrough, Spot, elem_at, no_graph, part_entries}
use Rattle.ndr_decoder_laws.specs.reader.Around.{going}
use Rattle.ndr_decoder_laws.proofs.verdict.ReadThrough.{Gone, gone}
use Rattle.ndr_drain_laws.specs.reader.PartReader.{IsAtPipe, count_of, moved_item, moved_items, read_part}
use Rattle.ndr_drain_laws.specs.reader.Outcomes.{PartCut}
use Rattle.ndr_drain_laws.proofs.reader.Elements.{PartGone, as_many_items, back_again, fits, part_gone}
use Rattle.ndr_drain_laws.proofs.reader.Elsewhere.{From, all_from, accepts_elsewhere, items_elsewhere, rendered_elsewhere}
use Rattle.ndr_drain_laws.proofs.reader.Renumbered.{accepts_moved, ends_moved, items_moved, moved_at, moved_entry, own_entries, part_moved, rendered_moved}
use Rattle.ndr_decoder_laws.proofs.verdict.Counted.{ends_within, first_part}

-- ## Lists of entries

pub accepts_first : (order : Order) (octets : List ℕ) (seen xs ys : List EntryAt) → Accepts order octets seen (xs ++ ys) → Accepts order octets seen xs
accepts_first order octets seen [] ys a = tt
accepts_first order octets seen (x ∷ xs) ys a = (a.0, accepts_first order octets (seen ++ x ∷ []) xs ys a.1)

pub from_moved : (place k : ℕ) (xs : List EntryAt) → AllByRecursion (From place) xs → AllByRecursion (From place) (map (moved_at k) xs)
from_moved place k [] a = tt
from_moved place k (x ∷ xs) a = (a.0, from_moved place k xs a.1)

-- ## Elements that may be unread in part

module _ (table : Table) (e : ℕ) (fits_pipes : FitsPipes table e) where
  nodes_partial : (k : ℕ) (ts : Trees) → MadeTrees table (replicate k e) ts → AllByRecursion (λ v. AllByRecursion (IsPartialNode no_graph table) (home_nodes table e v)) (tree.items ts)
  nodes_partial zero none m = tt
  nodes_partial zero (more t ts) m = absurd m
  nodes_partial (suc k) none m = absurd m
  nodes_partial (suc k) (more (node l ks) ts) m =
      let h : Home = home.Root 0 in
      let v : Trees = more (node l ks) none in
      let z : flat_map (pointer table h) (nodes_of table (e ∷ []) [] 0 v) ≡ [] = no_pointers table h (e ∷ []) [] 0 v (fits_pipes, tt) in (
        made_nodes no_graph table h (e ∷ []) [] [] 0 v (m.0, m.1, tt) (subst (AllByRecursion (CellFits [])) (sym z) tt),
        nodes_partial k ts m.2,
      )

  local_list : (xs : List TypedNode) → AllByRecursion (IsPartialNode no_graph table) xs → list_all (is_partial_node table no_graph) xs ≡ true
  local_list [] a = refl
  local_list (x ∷ xs) a = and_from _ _ a.0.local (local_list xs a.1)

  machine_list : (xs : List TypedNode) → AllByRecursion (IsPartialNode no_graph table) xs → list_all (λ x. has_machine_values x.label) xs ≡ true
  machine_list [] a = refl
  machine_list (x ∷ xs) a = and_from _ _ a.0.machine (machine_list xs a.1)

  pub elements_partial : (k : ℕ) (ts : Trees) → MadeTrees table (replicate k e) ts
      → AllByRecursion (λ v. list_all (is_partial_node table no_graph) (home_nodes table e v) ≡ true) (tree.items ts)
  elements_partial k ts m =
      all_weaker (λ v. AllByRecursion (IsPartialNode no_graph table) (home_nodes table e v)) (λ v. list_all (is_partial_node table no_graph) (home_nodes table e v) ≡ true)
      (λ v a. local_list (home_nodes table e v) a) (tree.items ts) (nodes_partial k ts m)

  pub elements_machine : (k : ℕ) (ts : Trees) → MadeTrees table (replicate k e) ts
      → AllByRecursion (λ v. list_all (λ x. has_machine_values x.label) (home_nodes table e v) ≡ true) (tree.items ts)
  elements_machine k ts m =
      all_weaker (λ v. AllByRecursion (IsPartialNode no_graph table) (home_nodes table e v)) (λ v. list_all (λ x. has_machine_values x.label) (home_nodes table e v) ≡ true)
      (λ v a. machine_list (home_nodes table e v) a) (tree.items ts) (nodes_partial k ts m)

-- ## A chunk

module _ (w : Setting) (side : IsLegalSide w) (order : Order) (s : Spot) (at_pipe : IsAtPipe w s) (before octets : List ℕ) (of_place : length before ≡ s.place)
    (all : AreOctets (before ++ octets)) where
  abbrev A : List ℕ
  A = before ++ octets

  abbrev k : ℕ
  k = count_of w order A s

  abbrev r : ReadAll
  r = read_part w order A s

  abbrev own : List Entry
  own = own_entries w s k r.trees

  abbrev m : ℕ
  m = s.node - 1

  pub chunk_gone : PartGone w side order s at_pipe A all
  chunk_gone = part_gone w side order s at_pipe A all

  -- the entries that are passed, however full pointers are numbered
  pub gone_by : (nums : ℕ → ℕ) → Gone order (before ++ octets) nums (going s.place []) (own_entries w s (count_of w order (before ++ octets) s) (read_part w order (before ++ octets) s).trees)
      (read_part w order (before ++ octets) s).progress
  gone_by nums = gone order A nums own (going s.place []) r.progress refl (chunk_gone.follows nums)

  pub elements_are : (trees (tree.items r.trees) ≡ r.trees) × (length (tree.items r.trees) ≡ k)
  elements_are = (back_again r.trees, as_many_items r.trees ∙ chunk_gone.many_are)

  -- in the pipe the entries come after the nodes of the chunks before
  pub in_pipe : end_to_end s.place (part_entries w s (length (tree.items r.trees)) (tree.items r.trees)) ≡ map (moved_at m) (end_to_end s.place own)
  in_pipe =
      ap (end_to_end s.place)
      (ap (λ n. part_entries w s n (tree.items r.trees)) elements_are.1 ∙ part_moved w s k (tree.items r.trees) at_pipe.one
      ∙ ap (λ ts. map (moved_entry m) (own_entries w s k ts)) elements_are.0)
      ∙ ends_moved m s.place own

  module _ (earlier later : List EntryAt) (seen : r.progress.seen ≡ earlier ++ later) where
    pub rendered_own : (nums : ℕ → ℕ) → AllByRecursion (IsRendered order nums (before ++ octets)) earlier
    rendered_own nums =
        let g = gone_by nums in
        all_left (IsRendered order nums A) earlier later (subst (AllByRecursion (IsRendered order nums A)) (sym g.seen ∙ seen) g.rendered)

    pub accepted_own : Accepts order (before ++ octets) [] earlier
    accepted_own =
        let g = gone_by (λ c. 0) in
        accepts_first order A [] earlier later (subst (Accepts order A []) (sym g.seen ∙ seen) g.accepted)

    -- their items, whatever octets come before
    pub items_then : (noted : List Item) → items order (before ++ octets) earlier ≡ noted → AllByRecursion (From s.place) earlier
        → (b : List ℕ) → length b ≡ s.place → items order (b ++ octets) (map (moved_at m) earlier) ≡ moved_items s noted
    items_then noted e from b of_b =
        items_moved m order (b ++ octets) earlier ∙ ap (map (moved_item m)) (items_elsewhere order s.place octets b before of_b of_place earlier from ∙ e)

    module _ (rest : List EntryAt) (split : end_to_end s.place own ≡ earlier ++ rest) where
      pub from_here : AllByRecursion (From s.place) earlier
      from_here = all_left (From s.place) earlier rest (subst (AllByRecursion (From s.place)) split (all_from s.place s.place own (omega arith)))

      pub few_items : length (but_gaps (items order (before ++ octets) earlier)) ≤ length octets
      few_items =
          let (ns, e) = first_part s.place own earlier rest split in
          let fit : AllByRecursion (λ x. x.at + size_at x.at x.entry.kind ≤ length A) earlier =
          all_weaker (IsRendered order (λ c. 0) A) (λ x. x.at + size_at x.at x.entry.kind ≤ length A) (λ x a. a.0) earlier (rendered_own (λ c. 0)) in
          let l : length A ≡ length before + length octets = length-append before octets in
          let end : end_of s.place ns ≤ length A =
          ends_within (length A) s.place ns (omega (arith, l, of_place)) (subst (AllByRecursion (λ x. x.at + size_at x.at x.entry.kind ≤ length A)) e fit) in
          let size : length (but_gaps (items order A (end_to_end s.place ns))) + 3 * numbers ns + s.place ≤ end_of s.place ns = items_size order A s.place ns in
          subst (λ u. length (but_gaps (items order A u)) ≤ length octets) (sym e) (omega (arith, size, end, l, of_place))

      -- the octets are read through them in the pipe
      abbrev pub through_here : IsPartThrough w order s octets (map (moved_at (s.node - 1)) earlier)
      through_here = record {
        pipe_left = at_pipe.left;
        elements = tree.items (read_part w order (before ++ octets) s).trees;
        partial = elements_partial w.table (elem_at w s.root) (fits w side s at_pipe) k r.trees chunk_gone.made;
        machine_values = elements_machine w.table (elem_at w s.root) (fits w side s at_pipe) k r.trees chunk_gone.made;
        later = map (moved_at (s.node - 1)) rest;
        split = in_pipe ∙ ap (map (moved_at m)) split ∙ map-append (moved_at m) earlier rest;
        rendered = λ b nums of_b.
            rendered_elsewhere order s.place octets before b of_place of_b nums (map (moved_at m) earlier) (from_moved s.place m earlier from_here)
            (rendered_moved m order nums A earlier (rendered_own nums));
        accepted = λ b of_b.
            accepts_elsewhere order s.place octets before b of_place of_b [] (map (moved_at m) earlier) tt (from_moved s.place m earlier from_here)
            (accepts_moved m order A [] earlier accepted_own);
      }

    pub split_here : (nums : ℕ → ℕ) → end_to_end s.place own ≡ earlier ++ (later ++ (gone_by nums).later)
    split_here nums =
        let g = gone_by nums in
        g.split ∙ ap (λ u. u ++ g.later) (sym g.seen ∙ seen) ∙ append_assoc earlier later g.later

    -- reading was cut off after them
    pub cut_here : (noted : List Item) → items order (before ++ octets) earlier ≡ noted → PartCut w order s octets noted
    cut_here noted e =
        let rest : List EntryAt = later ++ (gone_by (λ c. 0)).later in
        let split : end_to_end s.place own ≡ earlier ++ rest = split_here (λ c. 0) in
        record {
          earlier = map (moved_at m) earlier;
          through = through_here rest split;
          items_are = items_then noted e (from_here rest split);
          few = subst (λ xs. length (but_gaps xs) ≤ length octets) e (few_items rest split);
        }
