-- The pipes of a stream of which a chunk was begun: those that ended, the one that was begun, and those that were not reached.
use Rattle.std.proofs.Common.{◌≡◌, ◌<◌, ◌≤◌, ◌-◌, ◌∙◌, ap, sym, subst, refl, ℕ, ◌+◌, zero, suc, List, [], ◌∷◌, ◌++◌, length, drop, append_assoc, replicate, inl, inr, arith}
use Rattle.std.specs.Prelude.{sum}
use Rattle.std.specs.List.{AllByRecursion}
use Rattle.std.proofs.lemmas.List.{length-replicate}
use Rattle.nd_base.specs.declared.octets.Order.{Order}
use Rattle.nd_value.specs.declared.item.Home.TheVariants as home
use Rattle.nd_value.specs.Tree as tree
use Rattle.nd_value.specs.Tree.{Tree, node, more, trees, take_trees}
use Rattle.nd_value.specs.Setting.{Setting, root_list, unread}
use Rattle.nd_value.specs.Deferral.{before_pipes}
use Rattle.nd_grammar.specs.Entry.{Entry, Align, Chunk, entries}
use Rattle.nd_grammar.specs.LegalSide.{IsLegalSide}
use Rattle.nd_grammar.specs.Stream.{chunk_entries, pipes_entries, AllCut}
use Rattle.nd_grammar.proofs.next.NextPipes.{sum_first}
use Rattle.nd_grammar.proofs.reader.ReaderTests.{Top}
use Rattle.ndr_drain_laws.specs.parts.Parts.{AreParts, Part, Spot, after_all, elem_at, first_spot, part_entries, pipes_by, spot_after}
use Rattle.ndr_drain_laws.proofs.parts.Chunks.{Joins, ended, on, parts_entries}
use Rattle.ndr_drain_laws.proofs.parts.Streams.{AreJoined, all_of_first}

-- the pipes that chunks make where the last one is begun: `last` gives it, of the elements that it has, and those after it
abbrev pub pipes_then : (List Tree → List Tree) → List Tree → List Part → List Tree
pipes_then last vs [] = last vs
pipes_then last vs (p ∷ ps) = pipes_by (λ us. pipes_then last us ps) vs p.elements

-- the pipe that was begun, with these elements more, and so many that were not reached
abbrev pub last_pipes : List Tree → ℕ → List Tree → List Tree
last_pipes els m us = node tree.Pipe (trees (us ++ els)) ∷ replicate m unread

all_taken : (us : List Tree) → take_trees (length us) (trees us) ≡ trees us
all_taken [] = refl
all_taken (u ∷ us) = ap (more u) (all_taken us)

none_cut : (m : ℕ) → AllCut (replicate m unread) (replicate {A = List ℕ} m [])
none_cut zero = tt
none_cut (suc m) = ((refl, tt), none_cut m)

tops_unread : (m : ℕ) → AllByRecursion Top (replicate m unread)
tops_unread zero = tt
tops_unread (suc m) = (inl refl, tops_unread m)

pub last_tops : (els : List Tree) (m : ℕ) (us : List Tree) → AllByRecursion Top (last_pipes els m us)
last_tops els m us = (inr (trees (us ++ els), refl), tops_unread m)

pub then_tops : (last : List Tree → List Tree) → ((us : List Tree) → AllByRecursion Top (last us)) → (ps : List Part) (vs : List Tree) → AllByRecursion Top (pipes_then last vs ps)
then_tops last f [] vs = f vs
then_tops last f (p ∷ ps) vs = by_elements p.elements (λ us. pipes_then last us ps) vs (λ us. then_tops last f ps us)
  where
    by_elements : (els : List Tree) (others : List Tree → List Tree) (vs : List Tree) → ((us : List Tree) → AllByRecursion Top (others us)) → AllByRecursion Top (pipes_by others vs els)
    by_elements [] others vs f = (inr (trees vs, refl), f [])
    by_elements (u ∷ us) others vs f = f (vs ++ u ∷ us)

module _ (w : Setting) (side : IsLegalSide w) (order : Order) where
  -- the entries of pipes that were not reached
  abbrev unreached : Spot → ℕ → List Entry
  unreached s m = pipes_entries w.table (s.root + 1) (drop (s.root + 1) (root_list w)) (replicate m unread) (replicate {A = List ℕ} m [])

  -- the entries after a chunk that was begun
  abbrev pub entries_after : Spot → List Tree → ℕ → List Entry
  entries_after s [] m = unreached s m
  entries_after s (v ∷ vs) m = entries (home.Root s.root) 0 (Align 4 ∷ Chunk 0 ∷ []) ++ unreached s m

  pub last_joins : (s : Spot) (els : List Tree) (m : ℕ) → s.root + 1 + m ≡ length (root_list w) → (us : List Tree)
      → Joins w side order s us (last_pipes els m us) (part_entries w s (length els) els ++ entries_after s els m)
  last_joins s [] m h us =
      let l : length (replicate m unread) ≡ m = length-replicate m unread in
      record {
        elements = [];
        cut = [];
        pipes = replicate m unread;
        cuts = replicate {A = List ℕ} m [];
        pipes_are = refl;
        entries_are = refl;
        is_cut = (refl, tt);
        all_cut = none_cut m;
        as_many = omega (arith, h, l);
      }
  last_joins s (v ∷ vs) m h us =
      let A : List Tree = v ∷ vs in
      let k : ℕ = length (v ∷ vs) in
      let E : List Entry = entries (home.Root s.root) 0 (Align 4 ∷ Chunk 0 ∷ []) in
      let Q : List Entry = unreached s m in
      let F : List Entry = part_entries w s k A in
      let l : length (replicate m unread) ≡ m = length-replicate m unread in
      let total : sum (k ∷ []) ≡ k + 0 = sum_first k [] in
      record {
        elements = A;
        cut = k ∷ [];
        pipes = replicate m unread;
        cuts = replicate {A = List ℕ} m [];
        pipes_are = refl;
        entries_are = sym (append_assoc F E Q) ∙ sym (ap (λ x. (chunk_entries w.table (home.Root s.root) (elem_at w s.root) s.node k x ++ E) ++ Q) (all_taken A));
        is_cut = (omega (arith, total), (omega arith, tt));
        all_cut = none_cut m;
        as_many = omega (arith, h, l);
      }

  module _ (last : List Tree → List Tree) (E : List Entry) where
    abbrev Rest : List Part → Type 0
    Rest ps = (s : Spot) (vs : List Tree) → AreParts w order s ps → before_pipes (root_list w) ≤ s.root → ((us : List Tree) → Joins w side order (after_all s ps) us (last us) E)
        → Joins w side order s vs (pipes_then last vs ps) (parts_entries w s ps ++ E)

    by_elements : (s : Spot) (vs : List Tree) (n : ℕ) (els : List Tree) (ps : List Part) → Rest ps → AreParts w order (spot_after s n els) ps → before_pipes (root_list w) ≤ s.root
        → ((us : List Tree) → Joins w side order (after_all (spot_after s n els) ps) us (last us) E)
        → Joins w side order s vs (pipes_by (λ us. pipes_then last us ps) vs els) ((part_entries w s (length els) els ++ parts_entries w (spot_after s n els) ps) ++ E)
    by_elements s vs n [] ps rest a low f =
        let F : List Entry = part_entries w s 0 [] in
        let X : List Entry = parts_entries w (spot_after s n []) ps in
        subst (Joins w side order s vs (node tree.Pipe (trees vs) ∷ pipes_then last [] ps)) (sym (append_assoc F X E))
        (ended w side order s vs n (pipes_then last [] ps) (X ++ E) (rest (spot_after s n []) [] a (omega (arith, low)) f) low)
    by_elements s vs n (u ∷ us) ps rest a low f =
        let F : List Entry = part_entries w s (length (u ∷ us)) (u ∷ us) in
        let X : List Entry = parts_entries w (spot_after s n (u ∷ us)) ps in
        subst (Joins w side order s vs (pipes_then last (vs ++ u ∷ us) ps)) (sym (append_assoc F X E))
        (on w side order s vs n u us (pipes_then last (vs ++ u ∷ us) ps) (X ++ E) (rest (spot_after s n (u ∷ us)) (vs ++ u ∷ us) a low f))

    then_joins : (ps : List Part) → Rest ps
    then_joins [] s vs a low f = f vs
    then_joins (p ∷ ps) s vs a low f = by_elements s vs (length p.octets) p.elements ps (λ s' vs' a' l' f'. then_joins ps s' vs' a' l' f') a.1 low f

  root_after : (s : Spot) (n : ℕ) (els : List Tree) → s.root ≤ (spot_after s n els).root
  root_after s n [] = omega arith
  root_after s n (u ∷ us) = omega arith

  pub onward : (ps : List Part) (s : Spot) → s.root ≤ (after_all s ps).root
  onward [] s = omega arith
  onward (p ∷ ps) s =
      let a : s.root ≤ (spot_after s (length p.octets) p.elements).root = root_after s (length p.octets) p.elements in
      let b : (spot_after s (length p.octets) p.elements).root ≤ (after_all (spot_after s (length p.octets) p.elements) ps).root = onward ps (spot_after s (length p.octets) p.elements) in
      omega (arith, a, b)

  -- all pipes of a side, the last of which was begun with these elements
  module _ (head : List ℕ) (parts : List Part) (els : List Tree) where
    abbrev end : Spot
    end = after_all (first_spot w head) parts

    abbrev pub unreached_pipes : ℕ
    unreached_pipes = length (root_list w) - ((after_all (first_spot w head) parts).root + 1)

    abbrev pub begun_pipes : List Tree
    begun_pipes = pipes_then (last_pipes els unreached_pipes) [] parts

    abbrev pub begun_entries : List Entry
    begun_entries =
        parts_entries w (first_spot w head) parts
        ++ (part_entries w (after_all (first_spot w head) parts) (length els) els ++ entries_after (after_all (first_spot w head) parts) els unreached_pipes)

    pub begun_joined : AreParts w order (first_spot w head) parts → (after_all (first_spot w head) parts).root < length (root_list w) → AreJoined w begun_pipes begun_entries
    begun_joined a h =
        let low : before_pipes (root_list w) ≤ (after_all (first_spot w head) parts).root = onward parts (first_spot w head) in
        all_of_first w side order (first_spot w head) begun_pipes begun_entries refl refl (omega (arith, low, h))
        (then_joins (last_pipes els unreached_pipes) (part_entries w end (length els) els ++ entries_after end els unreached_pipes) parts (first_spot w head) [] a (omega arith)
        (λ us. last_joins end els unreached_pipes (omega (arith, h)) us))
