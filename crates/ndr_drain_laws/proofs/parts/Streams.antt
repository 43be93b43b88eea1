-- A head and chunks up to the end of every pipe are a stream of the graph with their elements.
use Rattle.std.proofs.Common.{◌≡◌, ◌<◌, ◌≤◌, ◌-◌, ◌∙◌, ◌⊎◌, inl, inr, ap, ap₂, sym, subst, refl, ℕ, ◌+◌, zero, suc, List, [], ◌∷◌, ◌++◌, length, length-append, take, drop}
use Rattle.std.proofs.Common.{arith}
use Rattle.std.specs.List.{AllByRecursion, slice_get}
use Rattle.std.proofs.lemmas.List.{append-nil}
use Rattle.nd_base.specs.declared.octets.Order.{Order}
use Rattle.nd_base.specs.declared.TheConstants.{STREAM_LIMIT}
use Rattle.nd_types.specs.Roots.{Root}
use Rattle.nd_types.specs.declared.types.AttrVar.{AttrVar}
use Rattle.nd_value.specs.Agreement.{root_agreements}
use Rattle.nd_value.specs.declared.value.Graph.{Graph}
use Rattle.nd_value.specs.declared.item.Home.TheVariants as home
use Rattle.nd_value.specs.Tree.{Tree, node, none, trees}
use Rattle.nd_value.specs.Setting.{Setting, root_list, root_at, cell_at, or_unread}
use Rattle.nd_value.specs.Conforms.{Conforms}
use Rattle.nd_value.specs.Deferral.{due_roots, before_pipes}
use Rattle.nd_value.proofs.Apart.{all_weaker}
use Rattle.nd_value.proofs.FewRoots.{few_before_pipes}
use Rattle.nd_value.proofs.SameVariables.{agreements_same}
use Rattle.nd_grammar.specs.Entry.{Entry, end_of, end_to_end, full_cells}
use Rattle.nd_grammar.specs.LegalSide.{IsLegalSide}
use Rattle.nd_grammar.specs.Stream.{Represents, IsNumbering, IsRendered, Stream, AllCut, Cuts, chunks, head_entries, pipes_entries, representation, root_tests}
use Rattle.nd_grammar.proofs.LegalSides.{laid_out}
use Rattle.nd_grammar.proofs.next.NextStream.{IsPipeRoot}
use Rattle.nd_grammar.proofs.reader.ReaderTests.{SameTop, Top, tests_same, roots_starred}
use Rattle.ndr_drain_laws.specs.parts.Parts.{AreParts, AreReadTo, HasEmptyPipes, IsHead, Part, Spot, after, after_all, elem_at, empty_pipe, first_spot, octets_of, pipes_by, pipes_of, with_pipes}
use Rattle.ndr_drain_laws.proofs.parts.Chunks.{Joins, joins, count_trees, parts_entries, pipes_open}
use Rattle.ndr_drain_laws.proofs.parts.Heads.{IsEarly, early_roots, same_deferral, same_steps}
use Rattle.ndr_drain_laws.proofs.parts.Spelt.{AreAllSpelt, all_spelt, both_spelt, end_append, full_append, no_cells, place_after}
use Rattle.nd_grammar.proofs.reader.ReaderStream.{same_tops}
use Rattle.nd_lemmas.proofs.Lists.{drop_length as length_drop}
use Rattle.std.proofs.Math.Seq.{drop-append_seam as drop_first}
use Rattle.std.proofs.lemmas.Bool.{cases_lt}

-- ## Lists

take_drop : {X : Type 0} (n : ℕ) (xs : List X) → take n xs ++ drop n xs ≡ xs
take_drop zero xs = refl
take_drop (suc n) [] = refl
take_drop (suc n) (x ∷ xs) = ap (λ u. x ∷ u) (take_drop n xs)

length_take : {X : Type 0} (n : ℕ) (xs : List X) → n ≤ length xs → length (take n xs) ≡ n
length_take zero xs h = refl
length_take (suc n) [] h = absurd (omega (arith, h))
length_take (suc n) (x ∷ xs) h = ap (λ k. suc k) (length_take n xs (omega (arith, h)))

early_at : (us vs vs' : List Tree) (i : ℕ) → i < length us → slice_get (us ++ vs) i ≡ slice_get (us ++ vs') i
early_at [] vs vs' i h = absurd (omega (arith, h))
early_at (u ∷ us) vs vs' zero h = refl
early_at (u ∷ us) vs vs' (suc i) h = early_at us vs vs' i (omega (arith, h))

pub pipe_tops : (ps : List Part) (vs : List Tree) → AllByRecursion Top (pipes_of vs ps)
pipe_tops [] vs = tt
pipe_tops (p ∷ ps) vs = by_elements p.elements (λ us. pipes_of us ps) vs (λ us. pipe_tops ps us)
  where
    by_elements : (els : List Tree) (others : List Tree → List Tree) (vs : List Tree) → ((us : List Tree) → AllByRecursion Top (others us)) → AllByRecursion Top (pipes_by others vs els)
    by_elements [] others vs f = (inr (trees vs, refl), f [])
    by_elements (u ∷ us) others vs f = f (vs ++ u ∷ us)

-- ## The pipes

-- All pipes and their entries, cut as they were read.
pub record AreJoined (w : Setting) (pipes : List Tree) (ms : List Entry) : Type 0 where
  pub cuts : List (List ℕ)
  pub entries_are : ms ≡ pipes_entries w.table (before_pipes (root_list w)) (drop (before_pipes (root_list w)) (root_list w)) pipes cuts
  pub all_cut : AllCut pipes cuts
  pub as_many : before_pipes (root_list w) + length pipes ≡ length (root_list w)

pub all_of_first : (w : Setting) (side : IsLegalSide w) (order : Order) (s : Spot) (pipes : List Tree) (ms : List Entry) → s.root ≡ before_pipes (root_list w) → s.node ≡ 1
    → s.root < length (root_list w) → Joins w side order s [] pipes ms → AreJoined w pipes ms
all_of_first w side order s pipes ms e one h j =
    let n : ℕ = before_pipes (root_list w) in
    let low : n ≤ s.root = omega (arith, e) in
    let at_first : ms ≡ pipes_entries w.table s.root (drop s.root (root_list w)) pipes (j.cut ∷ j.cuts) =
    j.entries_are ∙ ap (λ k. chunks w.table (home.Root s.root) (elem_at w s.root) k j.cut (trees j.elements) ++ pipes_entries w.table (s.root + 1) (drop (s.root + 1) (root_list w)) j.pipes j.cuts) one
    ∙ sym (pipes_open w side order s.root low h (trees j.elements) j.pipes j.cut j.cuts)
    ∙ sym (ap (λ u. pipes_entries w.table s.root (drop s.root (root_list w)) u (j.cut ∷ j.cuts)) j.pipes_are) in
    record {
      cuts = j.cut ∷ j.cuts;
      entries_are = at_first ∙ ap (λ k. pipes_entries w.table k (drop k (root_list w)) pipes (j.cut ∷ j.cuts)) e;
      all_cut = subst (λ u. AllCut u (j.cut ∷ j.cuts)) (sym j.pipes_are) (subst (λ m. Cuts m j.cut) (sym (count_trees j.elements)) j.is_cut, j.all_cut);
      as_many = ap (λ u. n + length u) j.pipes_are ∙ omega (arith, j.as_many, e);
    }

no_pipes : (w : Setting) (n : ℕ) (rs : List Root) → [] ≡ pipes_entries w.table n rs [] []
no_pipes w n [] = refl
no_pipes w n (r ∷ rs) = refl

none_left : (w : Setting) (order : Order) (head : List ℕ) (parts : List Part) → AreParts w order (first_spot w head) parts → length (root_list w) ≤ before_pipes (root_list w)
    → AreJoined w (pipes_of [] parts) (parts_entries w (first_spot w head) parts)
none_left w order head [] a h = record {
  cuts = [];
  entries_are = no_pipes w (before_pipes (root_list w)) (drop (before_pipes (root_list w)) (root_list w));
  all_cut = tt;
  as_many = omega (arith, h, few_before_pipes (root_list w));
}
none_left w order head (p ∷ ps) a h = absurd (omega (arith, h, a.0.pipe_left))

some_left : (w : Setting) (side : IsLegalSide w) (order : Order) (head : List ℕ) (parts : List Part) → AreParts w order (first_spot w head) parts
    → length (root_list w) ≤ (after_all (first_spot w head) parts).root → before_pipes (root_list w) < length (root_list w)
    → AreJoined w (pipes_of [] parts) (parts_entries w (first_spot w head) parts)
some_left w side order head parts a e h =
    all_of_first w side order (first_spot w head) (pipes_of [] parts) (parts_entries w (first_spot w head) parts) refl refl h
    (joins w side order parts (first_spot w head) [] a e (omega arith) h)

pub all_joined : (w : Setting) (side : IsLegalSide w) (order : Order) (head : List ℕ) (parts : List Part) → AreParts w order (first_spot w head) parts
    → length (root_list w) ≤ (after_all (first_spot w head) parts).root → AreJoined w (pipes_of [] parts) (parts_entries w (first_spot w head) parts)
all_joined w side order head parts a e = go (cases_lt (before_pipes (root_list w)) (length (root_list w)))
  where
    go : (before_pipes (root_list w) < length (root_list w)) ⊎ (length (root_list w) ≤ before_pipes (root_list w)) → AreJoined w (pipes_of [] parts) (parts_entries w (first_spot w head) parts)
    go (inl h) = some_left w side order head parts a e h
    go (inr h) = none_left w order head parts a h

-- ## The stream

-- The roots before the pipes, and the agreements of parameters, are the same in two graphs.
pub record Same (w : Setting) (g h : Graph) : Type 0 where
  pub first_roots : length (take (before_pipes (root_list w)) g.roots) ≡ before_pipes (root_list w)
  pub roots_are : take (before_pipes (root_list w)) g.roots ++ drop (before_pipes (root_list w)) g.roots ≡ g.roots
  pub agreements : (vars : List AttrVar) → root_agreements w g vars ≡ root_agreements w h vars

-- the graph of a head, and the same with pipes that have these entries
module _ (w : Setting) (side : IsLegalSide w) (order : Order) (head : List ℕ) (g : Graph) (is_head : IsHead w order head g) (empty : HasEmptyPipes w g) (conforms : Conforms w g)
    (pipes : List Tree) (top : AllByRecursion Top pipes) (B : List Entry) (j : AreJoined w pipes B) where
  abbrev n : ℕ
  n = before_pipes (root_list w)

  abbrev rl : List Root
  rl = root_list w

  abbrev U : List Tree
  U = take n g.roots

  abbrev P : List Tree
  P = drop n g.roots

  abbrev G : Graph
  G = with_pipes w g pipes

  few : n ≤ length g.roots
  few = omega (arith, conforms.all_roots, few_before_pipes rl)

  first_roots : length U ≡ n
  first_roots = length_take n g.roots few

  roots_are : U ++ P ≡ g.roots
  roots_are = take_drop n g.roots

  as_many : length P ≡ length pipes
  as_many = omega (arith, length_drop n g.roots few, conforms.all_roots, j.as_many)

  cells : (c : ℕ) → cell_at g c ≡ cell_at G c
  cells zero = refl
  cells (suc i) = refl

  roots_before : (i : ℕ) → i < n → root_at g i ≡ root_at G i
  roots_before i h =
      ap (λ vs. or_unread (slice_get vs i)) (sym roots_are) ∙ ap or_unread (early_at U P pipes i (omega (arith, h, first_roots)))

  tops : (i : ℕ) → SameTop (root_at g i) (root_at G i)
  tops i =
      subst (λ vs. SameTop (or_unread (slice_get vs i)) (root_at G i)) roots_are
      (same_tops U P pipes as_many (all_weaker (λ v. v ≡ empty_pipe) Top (λ v e. inr (none, e)) P empty) top i)

  no_vars : AllByRecursion (λ r. r.vars ≡ []) (drop n rl)
  no_vars = all_weaker (IsPipeRoot w.table) (λ r. r.vars ≡ []) (λ r p. p.no_vars) (drop n rl) (laid_out w side).pipes

  tests_are : root_tests w g 0 rl g.roots ≡ root_tests w G 0 rl (U ++ pipes)
  tests_are =
      ap (root_tests w g 0 rl) (sym roots_are)
      ∙ tests_same w g G cells tops 0 rl U P pipes (subst (λ k. AllByRecursion (λ r. r.vars ≡ []) (drop k rl)) (sym first_roots) no_vars)

  early : AllByRecursion (IsEarly n) (due_roots 0 n)
  early = early_roots n 0 n (omega arith)

  -- the entries before the pipes are the same
  heads : head_entries w g is_head.steps ≡ head_entries w G is_head.steps
  heads = ap₂ (λ x y. x ++ y) (same_steps w g G n cells roots_before early is_head.deferral) tests_are

  abbrev A : List Entry
  A = head_entries w g is_head.steps

  pipes_are : drop n (U ++ pipes) ≡ pipes
  pipes_are = ap (λ k. drop k (U ++ pipes)) (sym first_roots) ∙ drop_first U pipes

  entries_are : A ++ B ≡ representation w G is_head.steps j.cuts
  entries_are = ap₂ (λ x y. x ++ y) heads (j.entries_are ∙ sym (ap (λ u. pipes_entries w.table n (drop n rl) u j.cuts) pipes_are))

  pub stream : Stream w G (A ++ B)
  stream = record {
    steps = is_head.steps;
    cuts = j.cuts;
    deferral = same_deferral w g G n cells roots_before early is_head.deferral;
    all_cut = subst (λ u. AllCut u j.cuts) (sym pipes_are) j.all_cut;
    is_representation = entries_are;
  }

  -- The graph that is kept, and that with the elements.
  pub same : Same w g G
  same = record { first_roots = first_roots; roots_are = roots_are; agreements = agreements_same w g G (roots_starred w g G cells tops) }

-- the octets are within the limit of a stream
pub parts_within : (w : Setting) (order : Order) (ps : List Part) (s : Spot) → AreParts w order s ps → s.place ≤ STREAM_LIMIT → s.place + length (octets_of ps) ≤ STREAM_LIMIT
parts_within w order [] s a h = omega (arith, h)
parts_within w order (p ∷ ps) s a h =
    let z : (after s p).place ≡ s.place + length p.octets = place_after s (length p.octets) p.elements in
    let t : (after s p).place + length (octets_of ps) ≤ STREAM_LIMIT = parts_within w order ps (after s p) a.1 (omega (arith, z, a.0.spelt.within)) in
    let l : length (p.octets ++ octets_of ps) ≡ length p.octets + length (octets_of ps) = length-append p.octets (octets_of ps) in
    omega (arith, z, t, l)

-- the octets of a head and of chunks spell their entries
module _ (w : Setting) (order : Order) (head : List ℕ) (g : Graph) (parts : List Part) (it : AreReadTo w order head g parts) where
  abbrev pub first_entries : List Entry
  first_entries = head_entries w g it.is_head.steps ++ parts_entries w (first_spot w head) parts

  all_parts : AreAllSpelt w order (first_spot w head) parts
  all_parts = all_spelt w order parts (first_spot w head) it.are_parts

  pub first_rendered : AllByRecursion (IsRendered order it.is_head.numbering (head ++ octets_of parts)) (end_to_end 0 first_entries)
  first_rendered =
      both_spelt order it.is_head.numbering head (octets_of parts) 0 (length head) (head_entries w g it.is_head.steps) (parts_entries w (first_spot w head) parts)
      it.is_head.whole it.is_head.rendered (all_parts.rendered head it.is_head.numbering refl)

  pub first_end : end_of 0 first_entries ≡ length (head ++ octets_of parts)
  first_end =
      end_append 0 (head_entries w g it.is_head.steps) (parts_entries w (first_spot w head) parts) ∙ ap (λ k. end_of k (parts_entries w (first_spot w head) parts)) it.is_head.whole
      ∙ all_parts.whole ∙ sym (length-append head (octets_of parts))

  no_numbers : full_cells (parts_entries w (first_spot w head) parts) ≡ []
  no_numbers =
      no_cells order (head ++ octets_of parts) (length head) (parts_entries w (first_spot w head) parts) (all_parts.rendered head (λ c. 0) refl) (all_parts.rendered head (λ c. 1) refl)

  pub first_numbers : full_cells (head_entries w g it.is_head.steps) ≡ full_cells first_entries
  first_numbers =
      sym (full_append (head_entries w g it.is_head.steps) (parts_entries w (first_spot w head) parts) ∙ ap (λ u. full_cells (head_entries w g it.is_head.steps) ++ u) no_numbers
      ∙ append-nil (full_cells (head_entries w g it.is_head.steps)))

  pub first_within : length (head ++ octets_of parts) ≤ STREAM_LIMIT
  first_within =
      let h : length head + length (octets_of parts) ≤ STREAM_LIMIT = parts_within w order parts (first_spot w head) it.are_parts it.is_head.within in
      let l : length (head ++ octets_of parts) ≡ length head + length (octets_of parts) = length-append head (octets_of parts) in
      omega (arith, h, l)

pub joined : (w : Setting) → IsLegalSide w → (order : Order) (head : List ℕ) (g : Graph) (parts : List Part) → AreReadTo w order head g parts
    → length (root_list w) ≤ (after_all (first_spot w head) parts).root → Represents w order (head ++ octets_of parts) (with_pipes w g (pipes_of [] parts))
joined w side order head g parts it all =
    let j : AreJoined w (pipes_of [] parts) (parts_entries w (first_spot w head) parts) = all_joined w side order head parts it.are_parts all in
    record {
      entries = first_entries w order head g parts it;
      stream = stream w side order head g it.is_head it.empty it.conforms (pipes_of [] parts) (pipe_tops parts []) (parts_entries w (first_spot w head) parts) j;
      numbering = it.is_head.numbering;
      is_numbering = subst (IsNumbering it.is_head.numbering) (first_numbers w order head g parts it) it.is_head.is_numbering;
      rendered = first_rendered w order head g parts it;
      whole = first_end w order head g parts it;
      within = first_within w order head g parts it;
    }
