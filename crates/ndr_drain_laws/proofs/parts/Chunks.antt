-- The entries of chunks, one after the other, are those of the pipes that they make.
use Rattle.std.proofs.Common.{◌≡◌, ◌<◌, ◌≤◌, ◌∙◌, ◌⊎◌, inl, inr, ap, ap₂, sym, subst, refl, ℕ, ◌+◌, zero, suc, List, [], ◌∷◌, ◌++◌, length, length-append, drop, append_assoc, Some, None, false, ◌-◌}
use Rattle.std.proofs.Common.{arith}
use Rattle.std.specs.Prelude.{sum}
use Rattle.std.specs.List.{slice_get}
use Rattle.std.proofs.lemmas.List.{append-nil}
use Rattle.std.proofs.lemmas.Option.{same_Some, slice_get-get_or}
use Rattle.std.proofs.lemmas.Bool.{cases_lt}
use Rattle.nd_base.specs.declared.octets.Order.{Order}
use Rattle.nd_types.specs.Roots.{Root}
use Rattle.nd_types.specs.Table.{Table, type_at}
use Rattle.nd_value.specs.declared.item.Home.TheVariants as home
use Rattle.nd_value.specs.Tree as tree
use Rattle.nd_value.specs.Tree.{Tree, Trees, node, more, count, node_count, trees, take_trees, drop_trees}
use Rattle.nd_value.specs.Setting.{Setting, root_list}
use Rattle.nd_value.specs.Deferral.{before_pipes, root_type}
use Rattle.nd_grammar.specs.Entry.{Entry, Align, Chunk, entries}
use Rattle.nd_grammar.specs.LegalSide.{IsLegalSide}
use Rattle.nd_grammar.specs.Stream.{chunk_entries, chunks, pipe_entries, pipes_entries, Cuts, AllCut}
use Rattle.nd_grammar.proofs.LegalSides.{laid_out}
use Rattle.nd_grammar.proofs.next.NextPipes.{sum_first}
use Rattle.nd_grammar.proofs.next.NextStream.{IsPipeRoot, drop_at}
use Rattle.nd_lemmas.proofs.Lists.{all_at}
use Rattle.ndr_drain_laws.specs.parts.Parts.{Part, Spot, AreParts, after, after_all, elem_at, elem_by, part_entries, pipes_by, pipes_of, spot_after}

-- ## Lists of trees

pub count_trees : (vs : List Tree) → count (trees vs) ≡ length vs
count_trees [] = refl
count_trees (v ∷ vs) = ap (λ n. suc n) (count_trees vs)

pub take_first : (us vs : List Tree) → take_trees (length us) (trees (us ++ vs)) ≡ trees us
take_first [] vs = refl
take_first (u ∷ us) vs = ap (more u) (take_first us vs)

pub drop_first : (us vs : List Tree) → drop_trees (length us) (trees (us ++ vs)) ≡ trees vs
drop_first [] vs = refl
drop_first (u ∷ us) vs = drop_first us vs

-- ## The pipes of a side

drop_next : {X : Type 0} (i : ℕ) (xs : List X) (x : X) → slice_get xs i ≡ Some x → drop i xs ≡ x ∷ drop (i + 1) xs
drop_next zero [] x e = cc
drop_next zero (y ∷ ys) x e = ap (λ u. u ∷ ys) (same_Some y x e)
drop_next (suc i) [] x e = cc
drop_next (suc i) (y ∷ ys) x e = let z : suc (i + 1) ≡ suc i + 1 = omega arith in drop_next i ys x e ∙ ap (λ k. x ∷ drop k (y ∷ ys)) z

no_pipes : (table : Table) (i : ℕ) (rs : List Root) → pipes_entries table i rs [] [] ≡ []
no_pipes table i [] = refl
no_pipes table i (r ∷ rs) = refl

-- the entries of chunks, one after the other
abbrev pub parts_entries : Setting → Spot → List Part → List Entry
parts_entries w s [] = []
parts_entries w s (p ∷ ps) = part_entries w s (length p.elements) p.elements ++ parts_entries w (after s p) ps

module _ (w : Setting) (side : IsLegalSide w) (order : Order) where
  -- a root from the first pipe on
  pipe_root : (i : ℕ) → before_pipes (root_list w) ≤ i → i < length (root_list w) → (r : Root) × (slice_get (root_list w) i ≡ Some r) × IsPipeRoot w.table r
  pipe_root i low high =
      let d : Root = record { of = 0; param = None; vars = []; is_pipe = false } in
      let e : slice_get (root_list w) i ≡ Some _ = slice_get-get_or (root_list w) i d high in
      let n : ℕ = before_pipes (root_list w) in
      let z : n + (i - n) ≡ i = omega (arith, low) in
      (_, e, all_at (IsPipeRoot w.table) (drop n (root_list w)) (i - n) _ (laid_out w side).pipes (drop_at n (root_list w) (i - n) ∙ ap (slice_get (root_list w)) z ∙ e))

  -- the first of the pipes that are left, and the others
  pub pipes_open : (i : ℕ) → before_pipes (root_list w) ≤ i → i < length (root_list w) → (ks : Trees) (vs : List Tree) (cut : List ℕ) (cuts : List (List ℕ))
      → pipes_entries w.table i (drop i (root_list w)) (node tree.Pipe ks ∷ vs) (cut ∷ cuts)
      ≡ chunks w.table (home.Root i) (elem_at w i) 1 cut ks ++ pipes_entries w.table (i + 1) (drop (i + 1) (root_list w)) vs cuts
  pipes_open i low high ks vs cut cuts =
      let (r, e, p) = pipe_root i low high in
      let t : elem_at w i ≡ p.elem.0 = ap (λ o. elem_by (type_at w.table (root_type o))) e ∙ ap elem_by p.type_is in
      ap (λ rs. pipes_entries w.table i rs (node tree.Pipe ks ∷ vs) (cut ∷ cuts)) (drop_next i (root_list w) r e)
      ∙ ap (λ d. pipe_entries w.table (home.Root i) d cut (node tree.Pipe ks) ++ pipes_entries w.table (i + 1) (drop (i + 1) (root_list w)) vs cuts) p.type_is
      ∙ ap (λ u. chunks w.table (home.Root i) u 1 cut ks ++ pipes_entries w.table (i + 1) (drop (i + 1) (root_list w)) vs cuts) (sym t)

  -- Pipes and entries are those of the pipe at a spot, of which these elements were read before, and of the pipes after it.
  pub record Joins (s : Spot) (vs pipes_now : List Tree) (entries_now : List Entry) : Type 0 where
    pub elements : List Tree
    pub cut : List ℕ
    pub pipes : List Tree
    pub cuts : List (List ℕ)
    pub pipes_are : pipes_now ≡ node tree.Pipe (trees (vs ++ elements)) ∷ pipes
    pub entries_are : entries_now ≡ chunks w.table (home.Root s.root) (elem_at w s.root) s.node cut (trees elements)
        ++ pipes_entries w.table (s.root + 1) (drop (s.root + 1) (root_list w)) pipes cuts
    pub is_cut : Cuts (length elements) cut
    pub all_cut : AllCut pipes cuts
    pub as_many : s.root + 1 + length pipes ≡ length (root_list w)

  -- the same of the chunks that are left
  abbrev Rest : List Part → Type 0
  Rest ps = (s : Spot) (vs : List Tree) → AreParts w order s ps → length (root_list w) ≤ (after_all s ps).root → before_pipes (root_list w) ≤ s.root → s.root < length (root_list w)
      → Joins s vs (pipes_of vs ps) (parts_entries w s ps)

  -- after a chunk of elements the pipe goes on
  pub on : (s : Spot) (vs : List Tree) (n : ℕ) (u : Tree) (us : List Tree) (pipes_now : List Tree) (entries_now : List Entry)
      → Joins (spot_after s n (u ∷ us)) (vs ++ u ∷ us) pipes_now entries_now
      → Joins s vs pipes_now (part_entries w s (length (u ∷ us)) (u ∷ us) ++ entries_now)
  on s vs n u us pipes_now entries_now j =
      let A : List Tree = u ∷ us in
      let B : List Tree = j.elements in
      let k : ℕ = length (u ∷ us) in
      let t : ℕ = elem_at w s.root in
      let Q : List Entry = pipes_entries w.table (s.root + 1) (drop (s.root + 1) (root_list w)) j.pipes j.cuts in
      let F : List Entry = chunk_entries w.table (home.Root s.root) t s.node k (trees A) in
      let C : List Entry = chunks w.table (home.Root s.root) t (s.node + node_count (trees A)) j.cut (trees B) in
      let sums : length (A ++ B) ≡ length A + length B = length-append A B in
      let total : sum (k ∷ j.cut) ≡ k + sum j.cut = sum_first k j.cut in
      record {
        elements = A ++ B;
        cut = k ∷ j.cut;
        pipes = j.pipes;
        cuts = j.cuts;
        pipes_are = j.pipes_are ∙ ap (λ x. node tree.Pipe (trees x) ∷ j.pipes) (append_assoc vs A B);
        entries_are = ap (λ z. F ++ z) j.entries_are ∙ sym (append_assoc F C Q)
            ∙ sym (ap₂ (λ x y. (chunk_entries w.table (home.Root s.root) t s.node k x ++ chunks w.table (home.Root s.root) t (s.node + node_count x) j.cut y) ++ Q) (take_first A B) (drop_first A B));
        is_cut = (total ∙ ap (λ n. k + n) j.is_cut.0 ∙ sym sums, (omega arith, j.is_cut.1));
        all_cut = j.all_cut;
        as_many = j.as_many;
      }

  -- after the end of a pipe the next one begins
  pub ended : (s : Spot) (vs : List Tree) (n : ℕ) (pipes_now : List Tree) (entries_now : List Entry) → Joins (spot_after s n []) [] pipes_now entries_now
      → before_pipes (root_list w) ≤ s.root → Joins s vs (node tree.Pipe (trees vs) ∷ pipes_now) (part_entries w s 0 [] ++ entries_now)
  ended s vs n pipes_now entries_now j low =
      let E : List Entry = entries (home.Root s.root) 0 (Align 4 ∷ Chunk 0 ∷ []) in
      let h : s.root + 1 < length (root_list w) = omega (arith, j.as_many) in
      record {
        elements = [];
        cut = [];
        pipes = node tree.Pipe (trees j.elements) ∷ j.pipes;
        cuts = j.cut ∷ j.cuts;
        pipes_are = ap₂ (λ x y. node tree.Pipe (trees x) ∷ y) (sym (append-nil vs)) j.pipes_are;
        entries_are = ap (λ u. E ++ u) (j.entries_are ∙ sym (pipes_open (s.root + 1) (omega (arith, low)) h (trees j.elements) j.pipes j.cut j.cuts));
        is_cut = (refl, tt);
        all_cut = (subst (λ m. Cuts m j.cut) (sym (count_trees j.elements)) j.is_cut, j.all_cut);
        as_many = omega (arith, j.as_many);
      }

  -- after the end of a pipe the next one begins, or there is none
  at_end : (s : Spot) (vs : List Tree) (n : ℕ) (ps : List Part) → Rest ps → AreParts w order (spot_after s n []) ps
      → length (root_list w) ≤ (after_all (spot_after s n []) ps).root → before_pipes (root_list w) ≤ s.root → s.root < length (root_list w)
      → Joins s vs (node tree.Pipe (trees vs) ∷ pipes_of [] ps) (part_entries w s 0 [] ++ parts_entries w (spot_after s n []) ps)
  at_end s vs n ps rest a e low high = go (cases_lt (s.root + 1) (length (root_list w)))
    where
      next : s.root + 1 < length (root_list w) → Joins s vs (node tree.Pipe (trees vs) ∷ pipes_of [] ps) (part_entries w s 0 [] ++ parts_entries w (spot_after s n []) ps)
      next h = ended s vs n (pipes_of [] ps) (parts_entries w (spot_after s n []) ps) (rest (spot_after s n []) [] a e (omega (arith, low)) h) low

      last : (qs : List Part) → qs ≡ ps → length (root_list w) ≤ s.root + 1 → Joins s vs (node tree.Pipe (trees vs) ∷ pipes_of [] qs) (part_entries w s 0 [] ++ parts_entries w (spot_after s n []) qs)
      last [] q h =
          let E : List Entry = entries (home.Root s.root) 0 (Align 4 ∷ Chunk 0 ∷ []) in
          record {
            elements = [];
            cut = [];
            pipes = [];
            cuts = [];
            pipes_are = ap (λ x. node tree.Pipe (trees x) ∷ []) (sym (append-nil vs));
            entries_are = ap (λ u. E ++ u) (sym (no_pipes w.table (s.root + 1) (drop (s.root + 1) (root_list w))));
            is_cut = (refl, tt);
            all_cut = tt;
            as_many = omega (arith, h, high);
          }
      last (p ∷ qs) q h = let b : AreParts w order (spot_after s n []) (p ∷ qs) = subst (AreParts w order (spot_after s n [])) (sym q) a in absurd (omega (arith, h, b.0.pipe_left))

      go : (s.root + 1 < length (root_list w)) ⊎ (length (root_list w) ≤ s.root + 1)
          → Joins s vs (node tree.Pipe (trees vs) ∷ pipes_of [] ps) (part_entries w s 0 [] ++ parts_entries w (spot_after s n []) ps)
      go (inl h) = next h
      go (inr h) = last ps refl h

  by_elements : (s : Spot) (vs : List Tree) (n : ℕ) (els : List Tree) (ps : List Part) → Rest ps → AreParts w order (spot_after s n els) ps
      → length (root_list w) ≤ (after_all (spot_after s n els) ps).root → before_pipes (root_list w) ≤ s.root → s.root < length (root_list w)
      → Joins s vs (pipes_by (λ us. pipes_of us ps) vs els) (part_entries w s (length els) els ++ parts_entries w (spot_after s n els) ps)
  by_elements s vs n [] ps rest a e low high = at_end s vs n ps rest a e low high
  by_elements s vs n (u ∷ us) ps rest a e low high =
      on s vs n u us (pipes_of (vs ++ u ∷ us) ps) (parts_entries w (spot_after s n (u ∷ us)) ps) (rest (spot_after s n (u ∷ us)) (vs ++ u ∷ us) a e low high)

  -- chunks up to the end of every pipe make the pipes that are left
  pub joins : (ps : List Part) → Rest ps
  joins [] s vs a e low high = absurd (omega (arith, e, high))
  joins (p ∷ ps) s vs a e low high = by_elements s vs (length p.octets) p.elements ps (λ s' vs' a' e' l' h'. joins ps s' vs' a' e' l' h') a.1 e low high
