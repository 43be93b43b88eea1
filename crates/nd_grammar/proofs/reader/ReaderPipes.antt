-- Reading pipes: their elements in chunks, each paid by the octets of its count.
use Rattle.std.proofs.Common.{◌≡◌, ℕ, ◌+◌, ◌*◌, ◌<◌, ◌≤◌, zero, suc, Bool, true, false, List, [], ◌∷◌, ◌++◌, length, Option, Some, None, refl, ap, ap₂, sym, ◌∙◌, inl, inr, ◌⊎◌, arith, subst}
use Rattle.std.proofs.Common.{replicate, length-append}
use Rattle.std.specs.Prelude.{flat_map, eqb}
use Rattle.std.specs.List.{AllByRecursion}
use Rattle.std.proofs.lemmas.List.{append-nil, length-replicate}
use Rattle.std.proofs.lemmas.Bool.{eqb-true, eqb-false}
use Rattle.nd_base.specs.declared.octets.Order.{Order}
use Rattle.nd_types.specs.declared.types.TypeDef.{TypeDef}
use Rattle.nd_types.specs.declared.types.TypeId.{TypeId}
use Rattle.nd_types.specs.declared.types.TypeDef.TheVariants as def
use Rattle.nd_types.specs.Table.{Table, type_at}
use Rattle.nd_types.specs.Roots.{Root}
use Rattle.nd_types.specs.Number.{AreOctets}
use Rattle.nd_value.specs.declared.item.Home.{Home}
use Rattle.nd_value.specs.declared.item.Home.TheVariants as home
use Rattle.nd_value.specs.Tree as tree
use Rattle.nd_value.specs.Tree.{Tree, Trees, node, none, more, Referent, count, node_count, take_trees, drop_trees, joined}
use Rattle.nd_value.specs.Setting.{Setting, unread}
use Rattle.nd_value.specs.Nodes.{nodes_of}
use Rattle.nd_value.specs.Deferral.{pointer}
use Rattle.nd_value.specs.Conforms.{root_pointers}
use Rattle.nd_value.proofs.Apart.{all_append}
use Rattle.nd_grammar.specs.LegalSide.{IsLegalSide}
use Rattle.nd_grammar.specs.declared.reason.Reason.{Reason}
use Rattle.nd_grammar.specs.Entry.{Kind, Entry, Align, Chunk, size_at, in_place}
use Rattle.nd_grammar.specs.Stream.{piece, chunk_entries, chunks, Cuts, pipe_entries, pipes_entries, AllCut, kids_of}
use Rattle.nd_grammar.specs.Refusal.{refusal}
use Rattle.nd_grammar.specs.Reader.{Progress, Names, Read, ReadAll, here, advanced, taken_by, is_stopped, pass, taken, number_in, read_list, read_in_place}
use Rattle.nd_grammar.specs.StreamReader.{ReadPipe, ReadPipes, read_chunks, read_pipe, pipe_tree, read_pipes}
use Rattle.nd_grammar.proofs.next.Mapped.{no_pointers, pipe_pointers}
use Rattle.nd_grammar.proofs.next.NextPipes.{sum_first}
use Rattle.nd_grammar.proofs.next.NextStream.{IsPipeRoot, IsLaidOut, FitsPipes}
use Rattle.nd_grammar.proofs.LegalSides.{laid_out}
use Rattle.nd_grammar.proofs.reader.ReaderSteps.{Follows, follows_append, follows_stopped, same_taken}
use Rattle.nd_grammar.proofs.reader.ReaderNodes.{Agree}
use Rattle.nd_grammar.proofs.reader.ReaderInPlace.{Readable, Reads, AreRead, in_place_read, list_read}
use Rattle.nd_grammar.proofs.reader.ReaderLeaves.{Leave, AllLeave, in_place_leaves, list_leaves}
use Rattle.nd_grammar.proofs.reader.ReaderNames.{Extends}
use Rattle.nd_grammar.proofs.reader.ReaderMoves.{Moves, stays_there, moves_twice, pass_moves}
use Rattle.nd_grammar.proofs.reader.ReaderMakes.{Make, AllMake, in_place_makes, list_makes}
use Rattle.nd_grammar.proofs.reader.MadeTrees.{one_made, unread_made, made_count}
use Rattle.nd_grammar.specs.MadeTrees.{MadeTrees, MadeTree}
use Rattle.nd_grammar.proofs.reader.EntriesFine.{Fine, FullOk, fine_in_place}
use Rattle.nd_grammar.proofs.legal.LegalUsable.{small_bounds, usable_readable, element_usable}
use Rattle.nd_grammar.proofs.reader.ReaderStates.{Numbered}
use Rattle.nd_grammar.specs.ReaderState.{RootsMade}

-- names that grow by no cell do not change
pub same_names : (s s' : Names) → Extends s s' → length s'.cells ≤ length s.cells → s' ≡ s
same_names s s' e h =
    let l : length s'.cells ≡ length s.cells + length e.new = ap length e.cells ∙ length-append s.cells e.new in
    let n : e.new ≡ [] = empty e.new (omega arith) in
    let m : e.more_numbers ≡ [] = no_numbers e.more_numbers e.of_new in
    let c : s'.cells ≡ s.cells = e.cells ∙ ap (λ u. s.cells ++ u) n ∙ append-nil s.cells in
    let d : s'.numbers ≡ s.numbers = e.numbers ∙ ap (λ u. u ++ s.numbers) m in
    ap₂ (λ u v. record { cells = u; numbers = v }) c d
  where
    empty : (xs : List Referent) → length xs ≡ 0 → xs ≡ []
    empty [] e = refl
    empty (x ∷ xs) e = absurd (omega arith)

    no_numbers : (xs : List (ℕ × ℕ)) → AllByRecursion (λ x. (length s.cells < x.1) × (x.1 ≤ length s'.cells)) xs → xs ≡ []
    no_numbers [] a = refl
    no_numbers (x ∷ xs) a = absurd (omega (arith, h, a.0.0, a.0.1))

pub joined_count : (ts us : Trees) → count (joined ts us) ≡ count ts + count us
joined_count none us = omega arith
joined_count (more t ts) us = ap suc (joined_count ts us) ∙ omega arith

take_first : (ts us : Trees) → take_trees (count ts) (joined ts us) ≡ ts
take_first none us = refl
take_first (more t ts) us = ap (more t) (take_first ts us)

drop_first : (ts us : Trees) → drop_trees (count ts) (joined ts us) ≡ us
drop_first none us = refl
drop_first (more t ts) us = drop_first ts us

joined_made : (table : Table) (e k : ℕ) (ts us : Trees) → MadeTrees table (replicate k e) ts → MadeTrees table (replicate (count us) e) us
    → MadeTrees table (replicate (count (joined ts us)) e) (joined ts us)
joined_made table e zero none us a b = b
joined_made table e zero (more t ts) us a b = absurd a
joined_made table e (suc k) none us a b = absurd a
joined_made table e (suc k) (more (node l ks) ts) us a b = (a.0, a.1, joined_made table e k ts us a.2 b)

module _ (order : Order) (octets : List ℕ) where
  taken_moves : (o r : Option (ℕ × Reason)) (os x : List ℕ) (p : Progress) (m : Entry) → taken_by o r os ≡ Some x → (advanced o r p m).at ≡ p.at + size_at p.at m.kind
  taken_moves (Some z) r os x p m e = cc
  taken_moves None (Some z) os x p m e = cc
  taken_moves None None os x p m e = refl

  -- a count that is not 0 was taken, and its octets are passed
  pub count_paid : (h : Home) (p : Progress) (k : ℕ) → k ≡ number_in order octets (taken order octets (record { home = h; node = 0; kind = Chunk 0 }) p) → (k ≡ 0 → ⊥)
      → (pass order octets (record { home = h; node = 0; kind = Chunk k }) p).at ≡ p.at + 4
  count_paid h p k e n = go (taken order octets (record { home = h; node = 0; kind = Chunk 0 }) p) refl
    where
      go : (o : Option (List ℕ)) → taken order octets (record { home = h; node = 0; kind = Chunk 0 }) p ≡ o → (pass order octets (record { home = h; node = 0; kind = Chunk k }) p).at ≡ p.at + 4
      go None f = absurd (n (e ∙ ap (number_in order octets) f))
      go (Some os) f =
          taken_moves p.stop (refusal order octets p.seen (here p (record { home = h; node = 0; kind = Chunk k }))) (piece octets p.at (Chunk k)) os p (record { home = h; node = 0; kind = Chunk k })
          (same_taken order octets p h 0 (Chunk k) (Chunk 0) refl ∙ f)

module _ (w : Setting) (side : IsLegalSide w) (order : Order) (octets : List ℕ) (all : AreOctets octets) where
  abbrev laid : IsLaidOut w
  laid = laid_out w side

  -- what the elements of a chunk that is read say
  pub record ChunkRead (h : Home) (e k n : ℕ) (p : Progress) (s : Names) (r : ReadAll) : Type 0 where
    pub names : r.names ≡ s
    pub made : MadeTrees w.table (replicate k e) r.trees
    pub moves : Moves order octets p r.progress
    pub follows : (nums : ℕ → ℕ) → Agree nums s.numbers → Follows order octets nums p (in_place w.table h (replicate k e) n r.trees) r.progress
    pub fine : (xs : List (ℕ × ℕ)) → AllByRecursion (Fine (Numbered xs)) (in_place w.table h (replicate k e) n r.trees)

  -- an element's type, read in its place
  module _ (h : Home) (e : ℕ) (readable : Readable w.table 32 e) (fits : FitsPipes w.table e) where
    abbrev reader : ℕ → ℕ → Progress → Names → Read
    reader = read_in_place order octets w.table h 32 0

    many : (P : ℕ → Type 0) (k : ℕ) → P e → AllByRecursion P (replicate k e)
    many P zero a = tt
    many P (suc k) a = (a, many P k a)

    chunk_read : (k n : ℕ) (p : Progress) (s : Names) → ChunkRead h e k n p s (read_list w.table reader (replicate k e) n p s)
    chunk_read k n p s =
        let r : ReadAll = read_list w.table reader (replicate k e) n p s in
        let a : AreRead order octets w.table h (replicate k e) n p s r =
        list_read order octets w.table h reader (replicate k e) (many (Reads order octets w.table h reader) k (in_place_read order octets w.table h 32 0 e readable)) n p s in
        let b : AllLeave order octets w.table h (replicate k e) p s r =
        list_leaves order octets w.table h reader (replicate k e) (many (Leave order octets w.table h reader) k (in_place_leaves order octets w.table h 32 0 e readable)) n p s in
        let c : AllMake order octets all w.table h (small_bounds w.table side.operations side.legal) laid.hoisting (replicate k e) p s r =
        list_makes order octets all w.table h (small_bounds w.table side.operations side.legal) laid.hoisting reader (replicate k e)
        (many (Make order octets all w.table h (small_bounds w.table side.operations side.legal) laid.hoisting reader) k
        (in_place_makes order octets all w.table h (small_bounds w.table side.operations side.legal) laid.hoisting 32 0 e (omega arith) readable)) n p s in
        let z : flat_map (pointer w.table h) (nodes_of w.table (replicate k e) [] n r.trees) ≡ [] = no_pointers w.table h (replicate k e) [] n r.trees (many (FitsPipes w.table) k fits) in
        let f : length r.names.cells ≤ length s.cells = omega (arith, (c.costs n []).cells, ap length z) in
        let same : r.names ≡ s = same_names s r.names b.extends f in
        record {
          names = same;
          made = c.made;
          moves = c.moves;
          follows = λ nums g. a.follows nums (subst (λ u. Agree nums u.numbers) (sym same) g);
          fine = λ xs. fine_in_place (Numbered xs) w.table h (replicate k e) [] n r.trees (subst (AllByRecursion (FullOk (Numbered xs))) (sym z) tt);
        }

    -- what the chunks of a pipe say
    pub record PipeRead (n : ℕ) (p : Progress) (s : Names) (r : ReadPipe) : Type 0 where
      pub names : r.names ≡ s
      pub made : MadeTrees w.table (replicate (count r.trees) e) r.trees
      pub cuts : Cuts (count r.trees) r.cut
      pub moves : Moves order octets p r.progress
      pub follows : (nums : ℕ → ℕ) → Agree nums s.numbers → Follows order octets nums p (chunks w.table h e n r.cut r.trees) r.progress
      pub fine : (xs : List (ℕ × ℕ)) → AllByRecursion (Fine (Numbered xs)) (chunks w.table h e n r.cut r.trees)

    abbrev E : Kind → Entry
    E k = record { home = h; node = 0; kind = k }

    follows_count : (nums : ℕ → ℕ) (p : Progress) (k : ℕ) → k ≡ number_in order octets (taken order octets (E (Chunk 0)) (pass order octets (E (Align 4)) p))
        → Follows order octets nums p (E (Align 4) ∷ E (Chunk k) ∷ []) (pass order octets (E (Chunk k)) (pass order octets (E (Align 4)) p))
    follows_count nums p k e =
        let gap : Progress = pass order octets (E (Align 4)) p in
        ((λ os f. tt), ((λ os f. ap (number_in order octets) (sym f ∙ same_taken order octets gap h 0 (Chunk k) (Chunk 0) refl) ∙ sym e), refl))

    fine_count : (k : ℕ) (xs : List (ℕ × ℕ)) → AllByRecursion (Fine (Numbered xs)) (E (Align 4) ∷ E (Chunk k) ∷ [])
    fine_count k xs = (inr (inr (inl refl)), (tt, tt))

    count_moves : (p : Progress) (k : ℕ) → Moves order octets p (pass order octets (E (Chunk k)) (pass order octets (E (Align 4)) p))
    count_moves p k =
        let gap : Progress = pass order octets (E (Align 4)) p in
        moves_twice order octets p gap (pass order octets (E (Chunk k)) gap) (pass_moves order octets (E (Align 4)) p) (pass_moves order octets (E (Chunk k)) gap)

    -- a chunk and those after it
    more_chunks : (n k : ℕ) (p q : Progress) (s : Names) (kids : ReadAll) (others : ReadPipe) → (k ≡ 0 → ⊥)
        → Moves order octets p q → ((nums : ℕ → ℕ) → Follows order octets nums p (E (Align 4) ∷ E (Chunk k) ∷ []) q)
        → ChunkRead h e k n q s kids → PipeRead (n + node_count kids.trees) kids.progress kids.names others
        → PipeRead n p s (record { trees = joined kids.trees others.trees; cut = k ∷ others.cut; progress = others.progress; names = others.names })
    more_chunks n k p q s kids others positive before count_follows c o =
        let ck : count kids.trees ≡ k = made_count w.table (replicate k e) kids.trees c.made ∙ length-replicate k e in
        let t : take_trees k (joined kids.trees others.trees) ≡ kids.trees = ap (λ u. take_trees u (joined kids.trees others.trees)) (sym ck) ∙ take_first kids.trees others.trees in
        let d : drop_trees k (joined kids.trees others.trees) ≡ others.trees = ap (λ u. drop_trees u (joined kids.trees others.trees)) (sym ck) ∙ drop_first kids.trees others.trees in
        let C : List Entry = chunk_entries w.table h e n k kids.trees in
        let O : List Entry = chunks w.table h e (n + node_count kids.trees) others.cut others.trees in
        let same : chunks w.table h e n (k ∷ others.cut) (joined kids.trees others.trees) ≡ C ++ O =
        ap₂ (λ u v. chunk_entries w.table h e n k u ++ chunks w.table h e (n + node_count u) others.cut v) t d in
        record {
          names = o.names ∙ c.names;
          made = joined_made w.table e k kids.trees others.trees c.made o.made;
          cuts = (
            sum_first k others.cut ∙ ap₂ (λ u v. u + v) (sym ck) o.cuts.0 ∙ sym (joined_count kids.trees others.trees),
            (above k positive, o.cuts.1),
          );
          moves = moves_twice order octets p q others.progress before (moves_twice order octets q kids.progress others.progress c.moves o.moves);
          follows = λ nums a. subst (λ u. Follows order octets nums p u others.progress) (sym same)
              (follows_append order octets nums C O p kids.progress others.progress
              (follows_append order octets nums (E (Align 4) ∷ E (Chunk k) ∷ []) (in_place w.table h (replicate k e) n kids.trees) p q kids.progress (count_follows nums) (c.follows nums a))
              (o.follows nums (subst (λ u. Agree nums u.numbers) (sym c.names) a)));
          fine = λ xs. subst (AllByRecursion (Fine (Numbered xs))) (sym same)
              (all_append (Fine (Numbered xs)) C O
              (all_append (Fine (Numbered xs)) (E (Align 4) ∷ E (Chunk k) ∷ []) (in_place w.table h (replicate k e) n kids.trees) (fine_count k xs) (c.fine xs)) (o.fine xs));
        }
      where
        above : (k : ℕ) → (k ≡ 0 → ⊥) → 0 < k
        above zero f = absurd (f refl)
        above (suc k) f = omega arith

    last_chunk : (n k : ℕ) (p q : Progress) (s : Names) → k ≡ 0 → Moves order octets p q → ((nums : ℕ → ℕ) → Follows order octets nums p (E (Align 4) ∷ E (Chunk k) ∷ []) q)
        → PipeRead n p s (record { trees = none; cut = []; progress = q; names = s })
    last_chunk n k p q s z before count_follows = record {
      names = refl;
      made = tt;
      cuts = (refl, tt);
      moves = before;
      follows = λ nums a. subst (λ u. Follows order octets nums p (E (Align 4) ∷ E (Chunk u) ∷ []) q) z (count_follows nums);
      fine = λ xs. fine_count 0 xs;
    }

    by_test : (n k : ℕ) (p q : Progress) (s : Names) (kids : ReadAll) (others : ReadPipe) → Moves order octets p q
        → ((nums : ℕ → ℕ) → Follows order octets nums p (E (Align 4) ∷ E (Chunk k) ∷ []) q) → ChunkRead h e k n q s kids
        → ((k ≡ 0 → ⊥) → PipeRead (n + node_count kids.trees) kids.progress kids.names others) → (b : Bool) → eqb k 0 ≡ b
        → PipeRead n p s (elim b [
          | true ↦ record { trees = none; cut = []; progress = q; names = s }
          | false ↦ record { trees = joined kids.trees others.trees; cut = k ∷ others.cut; progress = others.progress; names = others.names }
        ])
    by_test n k p q s kids others before count_follows c rest true z = last_chunk n k p q s (eqb-true k 0 z) before count_follows
    by_test n k p q s kids others before count_follows c rest false z =
        more_chunks n k p q s kids others (eqb-false k 0 z) before count_follows c (rest (eqb-false k 0 z))

    -- All chunks, where there are enough turns.
    pub chunks_read : (fuel n : ℕ) (p : Progress) (s : Names) → p.at ≤ length octets → length octets < p.at + 4 * fuel → PipeRead n p s (read_chunks w order octets fuel h e n p s)
    chunks_read zero n p s b f = absurd (omega arith)
    chunks_read (suc fuel) n p s b f =
        let gap : Progress = pass order octets (E (Align 4)) p in
        let k : ℕ = number_in order octets (taken order octets (E (Chunk 0)) gap) in
        let q : Progress = pass order octets (E (Chunk k)) gap in
        let kids : ReadAll = read_list w.table reader (replicate k e) n q s in
        let others : ReadPipe = read_chunks w order octets fuel h e (n + node_count kids.trees) kids.progress kids.names in
        let before : Moves order octets p q = count_moves p k in
        let c : ChunkRead h e k n q s kids = chunk_read k n q s in
        let g : Moves order octets p gap = pass_moves order octets (E (Align 4)) p in
        by_test n k p q s kids others before (λ nums. follows_count nums p k refl) c
        (λ z. chunks_read fuel (n + node_count kids.trees) kids.progress kids.names (c.moves.within (before.within b))
        (let y : q.at ≡ gap.at + 4 = count_paid order octets h gap k refl z in omega (arith, f, c.moves.later, y, g.later)))
        (eqb k 0) refl

  -- what a pipe's root is: unread, or its elements
  abbrev pub PipeTop : Tree → Type 0
  PipeTop v = (v ≡ unread) ⊎ ((ks : Trees) × (v ≡ node tree.Pipe ks))

  -- what the pipes that are read say
  pub record PipesRead (i : ℕ) (rs : List Root) (p : Progress) (s : Names) (r : ReadPipes) : Type 0 where
    pub names : r.names ≡ s
    pub as_many : length r.roots ≡ length rs
    pub made : RootsMade w.table rs r.roots
    pub cut : AllCut r.roots r.cuts
    pub moves : Moves order octets p r.progress
    pub follows : (nums : ℕ → ℕ) → Agree nums s.numbers → Follows order octets nums p (pipes_entries w.table i rs r.roots r.cuts) r.progress
    pub fine : (xs : List (ℕ × ℕ)) → AllByRecursion (Fine (Numbered xs)) (pipes_entries w.table i rs r.roots r.cuts)
    pub tops : AllByRecursion PipeTop r.roots
    pub bare : root_pointers w.table i rs r.roots ≡ []

  -- one pipe
  pub record OnePipe (i : ℕ) (r : Root) (p : Progress) (s : Names) (f : ReadPipe) (v : Tree) : Type 0 where
    pub names : f.names ≡ s
    pub made : MadeTrees w.table (r.of ∷ []) (more v none)
    pub cut : Cuts (count (kids_of v)) f.cut
    pub moves : Moves order octets p f.progress
    pub follows : (nums : ℕ → ℕ) → Agree nums s.numbers → Follows order octets nums p (pipe_entries w.table (home.Root i) (type_at w.table r.of) f.cut v) f.progress
    pub fine : (xs : List (ℕ × ℕ)) → AllByRecursion (Fine (Numbered xs)) (pipe_entries w.table (home.Root i) (type_at w.table r.of) f.cut v)
    pub top : PipeTop v

  unread_pipe : (i : ℕ) (r : Root) (p : Progress) (s : Names) (x : ℕ × Reason) → p.stop ≡ Some x → (d : Option TypeDef) → type_at w.table r.of ≡ d
      → OnePipe i r p s (record { trees = none; cut = []; progress = p; names = s }) unread
  unread_pipe i r p s x e d f = record {
    names = refl;
    made = one_made w.table r.of unread (unread_made w.table (type_at w.table r.of));
    cut = (refl, tt);
    moves = stays_there order octets p;
    follows = λ nums a. follows_stopped order octets nums (pipe_entries w.table (home.Root i) (type_at w.table r.of) [] unread) p x e;
    fine = λ xs. subst (λ u. AllByRecursion (Fine (Numbered xs)) (pipe_entries w.table (home.Root i) u [] unread)) (sym f) (only_unread xs d);
    top = inl refl;
  }
    where
      only_unread : (xs : List (ℕ × ℕ)) (d : Option TypeDef) → AllByRecursion (Fine (Numbered xs)) (pipe_entries w.table (home.Root i) d [] unread)
      only_unread xs (Some (def.Pipe e)) = (tt, tt)
      only_unread xs None = (tt, tt)
      only_unread xs (Some (def.Prim q)) = (tt, tt)
      only_unread xs (Some _) = (tt, tt)

  read_one : (i : ℕ) (r : Root) → IsPipeRoot w.table r → (p : Progress) (s : Names) → p.at ≤ length octets → (o : Option (ℕ × Reason)) → p.stop ≡ o
      → OnePipe i r p s (read_pipe w order octets (type_at w.table r.of) (is_stopped o) i p s)
      (pipe_tree w order octets (is_stopped o) (read_pipe w order octets (type_at w.table r.of) (is_stopped o) i p s).trees)
  read_one i r pr p s b (Some x) e =
      subst (λ d. OnePipe i r p s (read_pipe w order octets d true i p s) unread) (sym pr.type_is) (unread_pipe i r p s x e (type_at w.table r.of) refl)
  read_one i r pr p s b None e =
      let x : TypeId = pr.elem in
      let a : PipeRead (home.Root i) x.0 (usable_readable w.table side.operations side.legal x.0 (element_usable w.table side.operations side.legal r.of x pr.type_is))
      (laid.elements r.of x pr.type_is) 1 p s
      (read_chunks w order octets (length octets + 1) (home.Root i) x.0 1 p s) =
      chunks_read (home.Root i) x.0 (usable_readable w.table side.operations side.legal x.0 (element_usable w.table side.operations side.legal r.of x pr.type_is)) (laid.elements r.of x pr.type_is)
      (length octets + 1) 1 p s b (omega arith) in
      let c : ReadPipe = read_chunks w order octets (length octets + 1) (home.Root i) x.0 1 p s in
      let v : Tree = node tree.Pipe c.trees in
      subst (λ d. OnePipe i r p s (read_pipe w order octets d false i p s) (node tree.Pipe (read_pipe w order octets d false i p s).trees)) (sym pr.type_is)
      (record {
        names = a.names;
        made = one_made w.table r.of v (subst (λ d. MadeTree w.table d v) (sym pr.type_is) (inr (record { shape = refl; range = refl; no_null = refl; counts = refl; machine = refl }), a.made));
        cut = a.cuts;
        moves = a.moves;
        follows = λ nums g. subst (λ d. Follows order octets nums p (pipe_entries w.table (home.Root i) d c.cut v) c.progress) (sym pr.type_is) (a.follows nums g);
        fine = λ xs. subst (λ d. AllByRecursion (Fine (Numbered xs)) (pipe_entries w.table (home.Root i) d c.cut v)) (sym pr.type_is) (a.fine xs);
        top = inr (c.trees, refl);
      })

  -- All pipes.
  pub pipes_read : (i : ℕ) (rs : List Root) → AllByRecursion (IsPipeRoot w.table) rs → (p : Progress) (s : Names) → p.at ≤ length octets
      → PipesRead i rs p s (read_pipes w order octets i rs p s)
  pipes_read i [] a p s b = record {
    names = refl;
    as_many = refl;
    made = tt;
    cut = tt;
    moves = stays_there order octets p;
    follows = λ nums g. refl;
    fine = λ xs. tt;
    tops = tt;
    bare = refl;
  }
  pipes_read i (r ∷ rs) a p s b =
      let f : ReadPipe = read_pipe w order octets (type_at w.table r.of) (is_stopped p.stop) i p s in
      let v : Tree = pipe_tree w order octets (is_stopped p.stop) f.trees in
      let o : ReadPipes = read_pipes w order octets (i + 1) rs f.progress f.names in
      let x : OnePipe i r p s f v = read_one i r a.0 p s b p.stop refl in
      let y : PipesRead (i + 1) rs f.progress f.names o = pipes_read (i + 1) rs a.1 f.progress f.names (x.moves.within b) in
      let A : List Entry = pipe_entries w.table (home.Root i) (type_at w.table r.of) f.cut v in
      let B : List Entry = pipes_entries w.table (i + 1) rs o.roots o.cuts in
      record {
        names = y.names ∙ x.names;
        as_many = ap suc y.as_many;
        made = (x.made, y.made);
        cut = (x.cut, y.cut);
        moves = moves_twice order octets p f.progress o.progress x.moves y.moves;
        follows = λ nums g. follows_append order octets nums A B p f.progress o.progress (x.follows nums g) (y.follows nums (subst (λ u. Agree nums u.numbers) (sym x.names) g));
        fine = λ xs. all_append (Fine (Numbered xs)) A B (x.fine xs) (y.fine xs);
        tops = (x.top, y.tops);
        bare = ap₂ (λ u k. u ++ k) (pipe_pointers w.table (home.Root i) r.of a.0.elem v a.0.type_is (laid.elements r.of a.0.elem a.0.type_is)) y.bare;
      }
