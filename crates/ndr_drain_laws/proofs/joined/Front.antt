-- The entries of a head and of chunks that were read are accepted.
use Rattle.std.proofs.Common.{◌≡◌, ◌<◌, ◌≤◌, ◌-◌, ◌∙◌, ap, sym, subst, refl, ℕ, ◌+◌, zero, suc, false, List, [], ◌∷◌, ◌++◌, length, length-append, drop, replicate, Some, None, inl, inr, ◌⊎◌, arith}
use Rattle.std.specs.List.{AllByRecursion, slice_get}
use Rattle.std.proofs.lemmas.List.{length-replicate}
use Rattle.std.proofs.lemmas.Option.{slice_get-get_or}
use Rattle.std.proofs.lemmas.Bool.{cases_lt}
use Rattle.nd_base.specs.declared.octets.Order.{Order}
use Rattle.nd_base.specs.declared.TheConstants.{STREAM_LIMIT}
use Rattle.nd_types.specs.Roots.{Root}
use Rattle.nd_types.specs.Table.{Table, type_at}
use Rattle.nd_value.specs.declared.item.Home.TheVariants as home
use Rattle.nd_value.specs.declared.value.Graph.{Graph}
use Rattle.nd_value.specs.Tree.{Tree, count, trees}
use Rattle.nd_value.specs.Deferral.{before_pipes, root_type}
use Rattle.nd_value.specs.Nodes.{home_nodes, nodes_of}
use Rattle.nd_value.specs.Setting.{Setting, root_list}
use Rattle.nd_value.proofs.Apart.{all_append, all_left, all_weaker}
use Rattle.nd_value.proofs.NodeFacts.{fit_node}
use Rattle.nd_value.proofs.FewRoots.{few_before_pipes}
use Rattle.nd_grammar.specs.Entry.{Entry, size_at, end_to_end, end_of, full_cells}
use Rattle.nd_grammar.specs.LegalSide.{IsLegalSide}
use Rattle.nd_grammar.specs.Refusal.{Accepts, same_home}
use Rattle.nd_grammar.specs.Stream.{IsNumbering, IsRendered, AllCut, Cuts, Stream, head_entries, kids_of, pipes_entries, representation, root_tests}
use Rattle.nd_grammar.proofs.LegalSides.{laid_out}
use Rattle.nd_grammar.proofs.conforming.Accepted.{accepted}
use Rattle.nd_grammar.proofs.conforming.GoodEntries.{GoodEntry, HoldsNoPipe, good_in_place}
use Rattle.nd_grammar.specs.ReaderState.{IsNoPipe}
use Rattle.nd_grammar.proofs.conforming.GoodStream.{good_stream}
use Rattle.nd_grammar.proofs.conforming.GoodTrees.{GoodTrees, IsGoodNode, good_trees}
use Rattle.nd_grammar.proofs.legal.LegalPipes.{holds_no_pipe, plain_before}
use Rattle.nd_grammar.proofs.next.NextStream.{IsPipeRoot, drop_at}
use Rattle.nd_lemmas.proofs.Lists.{all_at}
use Rattle.nd_grammar.proofs.next.Spelt.{all_spelt_carried, carried_low, carried_on, carried_one, cells_in, spelt_in_more}
use Rattle.ndr_drain_laws.specs.parts.Parts.{AreParts, AreReadTo, IsElement, Part, Spot, after, after_all, elem_at, elem_by, empty_pipe, first_spot, octets_of, part_entries}
use Rattle.ndr_drain_laws.proofs.parts.Chunks.{count_trees, parts_entries}
use Rattle.ndr_drain_laws.proofs.parts.Elements.{Alone, IsAlone, element_alone, in_pipe}
use Rattle.ndr_drain_laws.proofs.parts.Heads.{early_roots}
use Rattle.ndr_drain_laws.proofs.parts.Spelt.{ends_append, place_after}
use Rattle.ndr_drain_laws.proofs.parts.Streams.{first_entries, first_numbers, first_rendered, first_within}
use Rattle.ndr_drain_laws.specs.joined.Entries.{entries_to, parts_at}
use Rattle.ndr_drain_laws.proofs.joined.Before.{at_places}
use Rattle.ndr_drain_laws.proofs.joined.Begun.{onward}
use Rattle.ndr_drain_laws.proofs.joined.Homes.{IsBefore, parts_before, root_tests_away, steps_away}

-- ## Places

pub place_from : (ps : List Part) (s : Spot) → (after_all s ps).place ≡ s.place + length (octets_of ps)
place_from [] s = omega arith
place_from (p ∷ ps) s =
    let z : (after s p).place ≡ s.place + length p.octets = place_after s (length p.octets) p.elements in
    let l : length (p.octets ++ octets_of ps) ≡ length p.octets + length (octets_of ps) = length-append p.octets (octets_of ps) in
    let t : (after_all (after s p) ps).place ≡ (after s p).place + length (octets_of ps) = place_from ps (after s p) in
    omega (arith, z, l, t)

-- the entries of chunks at their places are those of all chunks, end to end
parts_are : (w : Setting) (order : Order) (ps : List Part) (s : Spot) → AreParts w order s ps → parts_at w s ps ≡ end_to_end s.place (parts_entries w s ps)
parts_are w order [] s a = refl
parts_are w order (p ∷ ps) s a =
    let F : List Entry = part_entries w s (length p.elements) p.elements in
    let X : List Entry = parts_entries w (after s p) ps in
    let z : end_of s.place F ≡ (after s p).place = a.0.spelt.whole ∙ sym (place_after s (length p.octets) p.elements) in
    ap (λ u. end_to_end s.place F ++ u) (parts_are w order ps (after s p) a.1 ∙ ap (λ k. end_to_end k X) (sym z)) ∙ sym (ends_append s.place F X)

-- ## Good entries

empties_cut : (vs : List Tree) → AllByRecursion (λ v. v ≡ empty_pipe) vs → AllCut vs (replicate {A = List ℕ} (length vs) [])
empties_cut [] a = tt
empties_cut (v ∷ vs) a = (subst (λ v. Cuts (count (kids_of v)) []) (sym a.0) (refl, tt), empties_cut vs a.1)

-- the elements of a pipe, as values in their places
pub good_elements : (table : Table) (t : ℕ) (g : Graph) (vs : List Tree) → AllByRecursion (IsElement table t) vs → GoodTrees table g (replicate (length vs) t) [] (trees vs)
good_elements table t g vs a =
    let alone : AllByRecursion (Alone table) (nodes_of table (replicate (count (trees vs)) t) [] 0 (trees vs)) =
    in_pipe table (IsAlone table) t 0 vs (all_weaker (IsElement table t) (λ v. AllByRecursion (Alone table) (home_nodes table t v)) (λ v e. element_alone table t v e) vs a) in
    let nodes : AllByRecursion (IsGoodNode table g) (nodes_of table (replicate (length vs) t) [] 0 (trees vs)) =
    subst (λ k. AllByRecursion (IsGoodNode table g) (nodes_of table (replicate k t) [] 0 (trees vs))) (count_trees vs)
    (all_weaker (Alone table) (IsGoodNode table g) (λ x e. record { fit = fit_node table g x (e.fits g); agrees = e.agrees g x.node })
    (nodes_of table (replicate (count (trees vs)) t) [] 0 (trees vs)) alone) in
    good_trees table g (replicate (length vs) t) [] 0 (trees vs) (count_trees vs ∙ sym (length-replicate (length vs) t)) nodes

module _ (w : Setting) (side : IsLegalSide w) (order : Order) (head : List ℕ) (g : Graph) (parts : List Part) (it : AreReadTo w order head g parts) where
  abbrev n : ℕ
  n = before_pipes (root_list w)

  abbrev no_pipes : HoldsNoPipe w.table
  no_pipes = holds_no_pipe w.table side.operations side.legal

  abbrev none_cut : List (List ℕ)
  none_cut = replicate {A = List ℕ} (length (drop n g.roots)) []

  -- the stream of the graph of the head, whose pipes have no elements
  own_stream : Stream w g (representation w g it.is_head.steps none_cut)
  own_stream = record {
    steps = it.is_head.steps;
    cuts = none_cut;
    deferral = it.is_head.deferral;
    all_cut = empties_cut (drop n g.roots) it.empty;
    is_representation = refl;
  }

  pub head_good : AllByRecursion (GoodEntry g) (head_entries w g it.is_head.steps)
  head_good =
      all_left (GoodEntry g) (head_entries w g it.is_head.steps) (pipes_entries w.table n (drop n (root_list w)) (drop n g.roots) none_cut)
      (good_stream w no_pipes g it.conforms (plain_before w side) (few_before_pipes (root_list w)) (laid_out w side).pipes (representation w g it.is_head.steps none_cut) own_stream)

  elem_no_pipe : (i : ℕ) → n ≤ i → i < length (root_list w) → IsNoPipe w.table (elem_at w i)
  elem_no_pipe i low high =
      let d : Root = record { of = 0; param = None; vars = []; is_pipe = false } in
      let e : slice_get (root_list w) i ≡ Some _ = slice_get-get_or (root_list w) i d high in
      let z : n + (i - n) ≡ i = omega (arith, low) in
      let p : IsPipeRoot w.table _ = all_at (IsPipeRoot w.table) (drop n (root_list w)) (i - n) _ (laid_out w side).pipes
      (drop_at n (root_list w) (i - n) ∙ ap (slice_get (root_list w)) z ∙ e) in
      let t : elem_at w i ≡ p.elem.0 = ap (λ o. elem_by (type_at w.table (root_type o))) e ∙ ap elem_by p.type_is in
      subst (IsNoPipe w.table) (sym t) (no_pipes.element _ p.elem p.type_is)

  many : (P : ℕ → Type 0) (k t : ℕ) → P t → AllByRecursion P (replicate k t)
  many P zero t p = tt
  many P (suc k) t p = (p, many P k t p)

  part_good : (s : Spot) (vs : List Tree) → n ≤ s.root → s.root < length (root_list w) → AllByRecursion (IsElement w.table (elem_at w s.root)) vs
      → AllByRecursion (GoodEntry g) (part_entries w s (length vs) vs)
  part_good s vs low high a =
      let t : ℕ = elem_at w s.root in (
        tt,
        (
          tt,
          good_in_place w.table no_pipes g (home.Root s.root) (replicate (length vs) t) [] s.node (trees vs)
              (many (IsNoPipe w.table) (length vs) t (elem_no_pipe s.root low high)) (good_elements w.table t g vs a),
        ),
      )

  parts_good : (ps : List Part) (s : Spot) → n ≤ s.root → AreParts w order s ps → AllByRecursion (GoodEntry g) (parts_entries w s ps)
  parts_good [] s low a = tt
  parts_good (p ∷ ps) s low a =
      let on : s.root ≤ (after s p).root = onward w side order (p ∷ []) s in
      all_append (GoodEntry g) (part_entries w s (length p.elements) p.elements) (parts_entries w (after s p) ps)
      (part_good s p.elements low a.0.pipe_left a.0.elements) (parts_good ps (after s p) (omega (arith, low, on)) a.1)

  abbrev E : List Entry
  E = first_entries w order head g parts it

  -- ## The entries at their places

  pub front_is : end_to_end 0 (first_entries w order head g parts it) ≡ entries_to w g it.is_head.steps head parts
  front_is =
      let A : List Entry = head_entries w g it.is_head.steps in
      let B : List Entry = parts_entries w (first_spot w head) parts in
      ends_append 0 A B ∙ ap (λ u. end_to_end 0 A ++ u) (ap (λ k. end_to_end k B) it.is_head.whole ∙ sym (parts_are w order parts (first_spot w head) it.are_parts))

  pub front_accepted : (octets : List ℕ) → Accepts order ((head ++ octets_of parts) ++ octets) [] (end_to_end 0 (first_entries w order head g parts it))
  front_accepted octets =
      let whole : List ℕ = head ++ octets_of parts in
      let numbering : ℕ → ℕ = it.is_head.numbering in
      let cells : List ℕ = full_cells E in
      let is : IsNumbering numbering cells = subst (IsNumbering numbering) (first_numbers w order head g parts it) it.is_head.is_numbering in
      let spelt : AllByRecursion (IsRendered order (carried_on numbering cells) (whole ++ octets)) (end_to_end 0 E) =
      all_spelt_carried order (whole ++ octets) numbering cells (end_to_end 0 E) (cells_in 0 E cells (λ d m. m))
      (spelt_in_more order numbering whole octets (end_to_end 0 E) (first_rendered w order head g parts it)) in
      let limit : length whole ≤ STREAM_LIMIT = first_within w order head g parts it in
      let within : AllByRecursion (λ x. x.at + size_at x.at x.entry.kind ≤ STREAM_LIMIT) (end_to_end 0 E) =
      all_weaker (IsRendered order numbering whole) (λ x. x.at + size_at x.at x.entry.kind ≤ STREAM_LIMIT)
      (λ x k. shorter (x.at + size_at x.at x.entry.kind) (length whole) k.0 limit) (end_to_end 0 E) (first_rendered w order head g parts it) in
      accepted order (whole ++ octets) g (carried_on numbering cells) (carried_low numbering cells is) (carried_one numbering cells is) [] tt 0 E
      (all_append (GoodEntry g) (head_entries w g it.is_head.steps) (parts_entries w (first_spot w head) parts) head_good (parts_good parts (first_spot w head) (omega arith) it.are_parts))
      spelt within
    where
      shorter : (a b : ℕ) → a ≤ b → b ≤ STREAM_LIMIT → a ≤ STREAM_LIMIT
      shorter a b h k = omega (arith, h, k)

  -- no agreement of the next chunk speaks of them
  pub front_before :
      AllByRecursion (λ x. IsBefore (after_all (first_spot w head) parts).root (after_all (first_spot w head) parts).node x.entry) (end_to_end 0 (first_entries w order head g parts it))
  front_before =
      let z : Spot = after_all (first_spot w head) parts in
      let late : n ≤ z.root = onward w side order parts (first_spot w head) in
      let A : List Entry = head_entries w g it.is_head.steps in
      let B : List Entry = parts_entries w (first_spot w head) parts in
      let T : List Entry = root_tests w g 0 (root_list w) g.roots in
      let tests : AllByRecursion (λ m. same_home m.home (home.Root z.root) ≡ false) T =
      root_tests_away z.root w g 0 (root_list w) g.roots (λ j x e. early j x e late (cases_lt j n)) in
      let away : AllByRecursion (λ m. same_home m.home (home.Root z.root) ≡ false) A =
      all_append (λ m. same_home m.home (home.Root z.root) ≡ false) _ T (steps_away z.root w g it.is_head.deferral (early_roots z.root 0 n (omega (arith, late)))) tests in
      at_places (IsBefore z.root z.node) 0 E
      (all_append (IsBefore z.root z.node) A B (all_weaker (λ m. same_home m.home (home.Root z.root) ≡ false) (IsBefore z.root z.node) (λ m e. inl e) A away)
      (parts_before w parts (first_spot w head) (omega arith)))
    where
      early : (j : ℕ) (x : Root) → slice_get (root_list w) j ≡ Some x → n ≤ (after_all (first_spot w head) parts).root → (j < n) ⊎ (n ≤ j)
          → (0 + j < (after_all (first_spot w head) parts).root) ⊎ (x.vars ≡ [])
      early j x e late (inl h) = inl (omega (arith, h, late))
      early j x e late (inr h) =
          let z : n + (j - n) ≡ j = omega (arith, h) in
          inr (all_at (IsPipeRoot w.table) (drop n (root_list w)) (j - n) x (laid_out w side).pipes (drop_at n (root_list w) (j - n) ∙ ap (slice_get (root_list w)) z ∙ e)).no_vars
