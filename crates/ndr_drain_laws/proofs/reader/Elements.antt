-- Elements that are read by themselves: their trees are made, reading goes over their entries, and none of these names a cell.
use Rattle.std.proofs.Common.{◌≡◌, ◌≤◌, ℕ, ◌+◌, ◌-◌, zero, suc, Bool, true, false, List, [], ◌∷◌, ◌++◌, length, Option, Some, None, refl, ap, sym, ◌∙◌, inl, inr, subst, arith, replicate}
use Rattle.std.specs.Prelude.{flat_map, drop}
use Rattle.std.specs.List.{AllByRecursion, slice_get}
use Rattle.std.proofs.lemmas.Bool.{and_parts}
use Rattle.std.proofs.lemmas.List.{length-replicate}
use Rattle.std.proofs.lemmas.Option.{slice_get-get_or}
use Rattle.nd_base.specs.declared.octets.Order.{Order}
use Rattle.nd_types.specs.declared.types.TypeDef.{TypeDef}
use Rattle.nd_types.specs.declared.types.TypeDef.TheVariants as def
use Rattle.nd_types.specs.declared.types.TypeId.{TypeId}
use Rattle.nd_types.specs.Layout.{hoists, parts}
use Rattle.nd_types.specs.Number.{AreOctets}
use Rattle.nd_types.specs.Roots.{Root}
use Rattle.nd_types.specs.Table.{Table, type_at}
use Rattle.nd_value.specs.declared.item.Home.{Home}
use Rattle.nd_value.specs.declared.item.Home.TheVariants as home
use Rattle.nd_value.specs.Agreement.{Agreement}
use Rattle.nd_value.specs.Deferral.{before_pipes, pointer, pointer_by, root_type}
use Rattle.nd_value.specs.Nodes.{child_types, child_agreements, first_agreements, rest_agreements, nodes_of}
use Rattle.nd_value.specs.Setting.{Setting, root_list}
use Rattle.nd_value.specs.Tree.{Tree, Trees, node, none, more, Label, count, node_count, is_pointer, cell_in, items, trees}
use Rattle.nd_value.proofs.Apart.{all_append, all_weaker}
use Rattle.nd_value.proofs.NodeFacts.{all_of_list}
use Rattle.nd_grammar.specs.Entry.{Kind, Entry, Align, Chunk, before_children, counts, entries, in_place, tag_entries, tests, own_tests, child_tests}
use Rattle.nd_grammar.specs.LegalSide.{IsLegalSide}
use Rattle.nd_grammar.specs.NextMark.{named_cell}
use Rattle.nd_grammar.specs.Reader.{Progress, Names, Read, ReadAll, number_in, read_in_place, read_list}
use Rattle.nd_grammar.proofs.LegalSides.{laid_out}
use Rattle.nd_grammar.proofs.legal.LegalUsable.{small_bounds, usable_readable, element_usable}
use Rattle.nd_grammar.proofs.next.Mapped.{in_parts, no_pointers}
use Rattle.nd_grammar.proofs.next.NextInPlace.{View, view, v_prim, v_enum, v_struct, v_array, v_text, v_union, v_pointer, v_context, v_unread}
use Rattle.nd_grammar.proofs.next.NextStream.{FitsPipes, IsPipeRoot, drop_at}
use Rattle.nd_lemmas.proofs.Lists.{all_at}
use Rattle.nd_grammar.proofs.reader.EntriesFine.{Fine, FullOk, fine_in_place}
use Rattle.nd_grammar.proofs.reader.MadeTrees.{made_count}
use Rattle.nd_grammar.specs.MadeTrees.{MadeTrees}
use Rattle.nd_grammar.proofs.reader.ReaderInPlace.{Readable, Reads, AreRead, in_place_read, list_read}
use Rattle.nd_grammar.proofs.reader.ReaderLeaves.{Leave, AllLeave, in_place_leaves, list_leaves}
use Rattle.nd_grammar.proofs.reader.ReaderMakes.{Make, AllMake, in_place_makes, list_makes}
use Rattle.nd_grammar.proofs.reader.ReaderMoves.{Moves, moves_twice, pass_moves}
use Rattle.nd_grammar.proofs.reader.ReaderNodes.{Agree}
use Rattle.nd_grammar.proofs.reader.ReaderSteps.{Follows, follows_append, same_taken}
use Rattle.ndr_drain_laws.specs.parts.Parts.{Spot, elem_at, elem_by}
use Rattle.ndr_decoder_laws.specs.reader.Around.{going}
use Rattle.ndr_drain_laws.specs.reader.PartReader.{IsAtPipe, type_of_root, of_pipe, no_names, past_gap, count_of, past_count, read_part}
use Rattle.ndr_drain_laws.proofs.reader.Renumbered.{own_entries}
use Rattle.nd_grammar.proofs.reader.ReaderPipes.{same_names}

pub many : (P : ℕ → Type 0) (t k : ℕ) → P t → AllByRecursion P (replicate k t)
many P t zero a = tt
many P t (suc k) a = (a, many P t k a)

-- trees as a list, and back
pub back_again : (ts : Trees) → trees (items ts) ≡ ts
back_again none = refl
back_again (more t ts) = ap (more t) (back_again ts)

pub as_many_items : (ts : Trees) → length (items ts) ≡ count ts
as_many_items none = refl
as_many_items (more t ts) = ap suc (as_many_items ts)

-- ## The pipe

module _ (w : Setting) (side : IsLegalSide w) (s : Spot) (at_pipe : IsAtPipe w s) where
  pub record PipeHere : Type 0 where
    pub elem : TypeId
    pub there : type_at w.table (type_of_root w s.root) ≡ Some (def.Pipe elem)

  pub pipe_here : PipeHere
  pipe_here =
      let rl : List Root = root_list w in
      let n : ℕ = before_pipes rl in
      let e = slice_get-get_or rl s.root (record { of = 0; param = None; vars = []; is_pipe = false }) at_pipe.left in
      let k : n + (s.root - n) ≡ s.root = omega (arith, at_pipe.pipes) in
      let q = all_at (IsPipeRoot w.table) (drop n rl) (s.root - n) _ (laid_out w side).pipes (drop_at n rl (s.root - n) ∙ ap (slice_get rl) k ∙ e) in
      record { elem = q.elem; there = ap (λ o. type_at w.table (root_type o)) e ∙ q.type_is }

  -- the type of its elements may be read in place, holds no pointer and hoists no maximum count
  pub elem_is : (elem : TypeId) → type_at w.table (type_of_root w s.root) ≡ Some (def.Pipe elem) → elem_at w s.root ≡ elem.0
  elem_is elem e = ap elem_by e

  pub readable : Readable w.table 32 (elem_at w s.root)
  readable =
      let p = pipe_here in
      subst (Readable w.table 32) (sym (elem_is p.elem p.there))
      (usable_readable w.table side.operations side.legal p.elem.0 (element_usable w.table side.operations side.legal (type_of_root w s.root) p.elem p.there))

  pub fits : FitsPipes w.table (elem_at w s.root)
  fits = let p = pipe_here in subst (FitsPipes w.table) (sym (elem_is p.elem p.there)) ((laid_out w side).elements (type_of_root w s.root) p.elem p.there)

  pub plain : hoists w.table (elem_at w s.root) ≡ false
  plain = let p = pipe_here in ap (hoists w.table) (elem_is p.elem p.there) ∙ (laid_out w side).hoisting.piped (type_of_root w s.root) p.elem p.there

-- ## Entries that name no cell

abbrev pub Silent : Entry → Type 0
Silent m = named_cell m.kind ≡ None

module _ (table : Table) (h : Home) where
  silent_entries : (n : ℕ) (xs : List Kind) → AllByRecursion (λ x. named_cell x ≡ None) xs → AllByRecursion Silent (entries h n xs)
  silent_entries n [] a = tt
  silent_entries n (x ∷ xs) a = (a.0, silent_entries n xs a.1)

  silent_tests : (n : ℕ) (t : Tree) (ags : List Agreement) → AllByRecursion Silent (tests h n t ags)
  silent_tests n t [] = tt
  silent_tests n t (a ∷ ags) = (refl, silent_tests n t ags)

  silent_own : (b : Bool) (n : ℕ) (t : Tree) (ags : List Agreement) → AllByRecursion Silent (own_tests b h n t ags)
  silent_own true n t ags = tt
  silent_own false n t ags = silent_tests n t ags

  silent_children : (ags : List (List Agreement)) (n : ℕ) (ts : Trees) → AllByRecursion Silent (child_tests h ags n ts)
  silent_children ags n none = tt
  silent_children ags n (more (node l ks) ts) =
      all_append Silent (own_tests (is_pointer l) h n (node l ks) (first_agreements ags)) (child_tests h (rest_agreements ags) (n + 1 + node_count ks) ts)
      (silent_own (is_pointer l) n (node l ks) (first_agreements ags)) (silent_children (rest_agreements ags) (n + 1 + node_count ks) ts)

  silent_counts : (b : Bool) (m o c : ℕ) → AllByRecursion (λ x. named_cell x ≡ None) (counts b m o c)
  silent_counts false m o c = tt
  silent_counts true m o c = (refl, (refl, (refl, tt)))

  -- a node that is no pointer
  silent_before : (t : ℕ) (d : Option TypeDef) (l : Label) (ks : Trees) (n : ℕ) (ags : List Agreement) → View table t d l → pointer_by d (is_pointer l) (cell_in l) h n ags ≡ []
      → AllByRecursion (λ x. named_cell x ≡ None) (before_children table t d l ks)
  silent_before t d l ks n ags v_prim e = (refl, (refl, tt))
  silent_before t d l ks n ags v_enum e = (refl, (refl, tt))
  silent_before t d l ks n ags v_struct e = (refl, tt)
  silent_before t d l ks n ags (v_array {v = b} {m = m} {o = o}) e = silent_counts b m o (count ks)
  silent_before t d l ks n ags v_text e = (refl, (refl, (refl, (refl, tt))))
  silent_before t d l ks n ags (v_union {tag = tag} {arms = arms} {d = default} {v = v}) e = by_tag (type_at table tag.0)
    where
      by_tag : (o : Option TypeDef) → AllByRecursion (λ x. named_cell x ≡ None) (tag_entries o arms default v)
      by_tag (Some (def.Prim p)) = (refl, (refl, tt))
      by_tag (Some (def.Enum values)) = (refl, (refl, tt))
      by_tag None = (refl, tt)
      by_tag (Some _) = (refl, tt)
  silent_before t d l ks n ags v_pointer e = cc
  silent_before t d l ks n ags v_context e = (refl, (refl, tt))
  silent_before t d l ks n ags (v_unread f) e = subst (AllByRecursion (λ x. named_cell x ≡ None)) (sym (f ks)) (refl, tt)

  no_first : {X : Type 0} (xs ys : List X) → xs ++ ys ≡ [] → xs ≡ []
  no_first [] ys e = refl
  no_first (x ∷ xs) ys e = cc

  pub silent_in_place : (types : List ℕ) (n : ℕ) (ts : Trees) → AllByRecursion (FitsPipes table) types → AllByRecursion Silent (in_place table h types n ts)
  silent_in_place types n none a = tt
  silent_in_place [] n (more t ts) a = tt
  silent_in_place (t ∷ types) n (more (node l ks) ts) a =
      let d : Option TypeDef = type_at table t in
      let e : flat_map (pointer table h) (nodes_of table (t ∷ types) [] n (more (node l ks) ts)) ≡ [] = no_pointers table h (t ∷ types) [] n (more (node l ks) ts) a in
      let own : pointer_by d (is_pointer l) (cell_in l) h n [] ≡ [] = no_first (pointer_by d (is_pointer l) (cell_in l) h n []) _ e in
      all_append Silent (entries h n (before_children table t d l ks)) _ (silent_entries n _ (silent_before t d l ks n [] (view table t d l) own))
      (all_append Silent (in_place table h (child_types d l ks) (n + 1) ks) _ (silent_in_place (child_types d l ks) (n + 1) ks (inside t l ks a.0))
      (all_append Silent (child_tests h (child_agreements d ks) (n + 1) ks) _ (silent_children (child_agreements d ks) (n + 1) ks)
      (silent_in_place types (n + 1 + node_count ks) ts a.1)))
    where
      deeper : (t : ℕ) → FitsPipes table t → AllByRecursion (FitsPipes table) (parts (type_at table t))
      deeper t (zero, e) = cc
      deeper t (suc depth, e) =
          let (a, b) = and_parts _ _ e in
          all_weaker _ _ (λ u f. (depth, f)) (parts (type_at table t)) (all_of_list _ _ b)

      inside : (t : ℕ) (l : Label) (ks : Trees) → FitsPipes table t → AllByRecursion (FitsPipes table) (child_types (type_at table t) l ks)
      inside t l ks f = in_parts (FitsPipes table) (type_at table t) l ks (deeper t f)

-- ## Reading

module _ (w : Setting) (side : IsLegalSide w) (order : Order) (s : Spot) (at_pipe : IsAtPipe w s) (octets : List ℕ) (all : AreOctets octets) where
  abbrev h : Home
  h = home.Root s.root

  abbrev e : ℕ
  e = elem_at w s.root

  abbrev reader : ℕ → ℕ → Progress → Names → Read
  reader = read_in_place order octets w.table (home.Root s.root) 32 0

  -- what elements that are read say
  pub record ElementsRead (k n : ℕ) (p : Progress) (names : Names) (r : ReadAll) : Type 0 where
    pub names_are : r.names ≡ names
    pub made : MadeTrees w.table (replicate k (elem_at w s.root)) r.trees
    pub moves : Moves order octets p r.progress
    pub follows : (nums : ℕ → ℕ) → Agree nums names.numbers → Follows order octets nums p (in_place w.table (home.Root s.root) (replicate k (elem_at w s.root)) n r.trees) r.progress

  pub elements_read : (k n : ℕ) (p : Progress) (names : Names) → ElementsRead k n p names (read_list w.table reader (replicate k e) n p names)
  elements_read k n p names =
      let hoisting = (laid_out w side).hoisting in
      let bounds = small_bounds w.table side.operations side.legal in
      let r : ReadAll = read_list w.table reader (replicate k e) n p names in
      let a : AreRead order octets w.table h (replicate k e) n p names r =
      list_read order octets w.table h reader (replicate k e) (many (Reads order octets w.table h reader) e k (in_place_read order octets w.table h 32 0 e (readable w side s at_pipe))) n p names in
      let b : AllLeave order octets w.table h (replicate k e) p names r =
      list_leaves order octets w.table h reader (replicate k e)
      (many (Leave order octets w.table h reader) e k (in_place_leaves order octets w.table h 32 0 e (readable w side s at_pipe))) n p names in
      let c : AllMake order octets all w.table h bounds hoisting (replicate k e) p names r =
      list_makes order octets all w.table h bounds hoisting reader (replicate k e)
      (many (Make order octets all w.table h bounds hoisting reader) e k (in_place_makes order octets all w.table h bounds hoisting 32 0 e (omega arith) (readable w side s at_pipe))) n p names in
      let z : flat_map (pointer w.table h) (nodes_of w.table (replicate k e) [] n r.trees) ≡ [] =
      no_pointers w.table h (replicate k e) [] n r.trees (many (FitsPipes w.table) e k (fits w side s at_pipe)) in
      let f : length r.names.cells ≤ length names.cells = omega (arith, (c.costs n []).cells, ap length z) in
      let same : r.names ≡ names = same_names names r.names b.extends f in
      record {
        names_are = same;
        made = c.made;
        moves = c.moves;
        follows = λ nums g. a.follows nums (subst (λ u. Agree nums u.numbers) (sym same) g);
      }

  -- ## The chunk

  abbrev gap_past : Progress
  gap_past = past_gap w order octets s

  abbrev k : ℕ
  k = count_of w order octets s

  abbrev q : Progress
  q = past_count w order octets s

  abbrev r : ReadAll
  r = read_part w order octets s

  read_elements : ElementsRead k 1 q no_names r
  read_elements = elements_read k 1 q no_names

  -- what a chunk that is read says
  pub record PartGone : Type 0 where
    pub made : MadeTrees w.table (replicate (count_of w order octets s) (elem_at w s.root)) (read_part w order octets s).trees
    pub many_are : count (read_part w order octets s).trees ≡ count_of w order octets s
    pub names_are : (read_part w order octets s).names ≡ no_names
    pub moves : Moves order octets (going s.place []) (read_part w order octets s).progress
    pub follows : (nums : ℕ → ℕ) → Follows order octets nums (going s.place []) (own_entries w s (count_of w order octets s) (read_part w order octets s).trees) (read_part w order octets s).progress

  pub part_gone : PartGone
  part_gone =
      let x = read_elements in
      let m : Moves order octets (going s.place []) q =
      moves_twice order octets (going s.place []) gap_past q (pass_moves order octets (of_pipe s (Align 4)) (going s.place [])) (pass_moves order octets (of_pipe s (Chunk k)) gap_past) in
      record {
        made = x.made;
        many_are = made_count w.table (replicate k e) r.trees x.made ∙ length-replicate k e;
        names_are = x.names_are;
        moves = moves_twice order octets (going s.place []) q r.progress m x.moves;
        follows = λ nums.
            follows_append order octets nums (of_pipe s (Align 4) ∷ of_pipe s (Chunk k) ∷ []) (in_place w.table h (replicate k e) 1 r.trees) (going s.place []) q r.progress
            ((λ os f. tt), ((λ os f. ap (number_in order octets) (sym f ∙ same_taken order octets gap_past h 0 (Chunk k) (Chunk 0) refl)), refl))
            (x.follows nums tt);
      }

  -- no entry of it names a cell
  pub part_silent : (j : ℕ) (ts : Trees) → AllByRecursion Silent (own_entries w s j ts)
  part_silent j ts = (refl, (refl, silent_in_place w.table h (replicate j e) 1 ts (many (FitsPipes w.table) e j (fits w side s at_pipe))))

  -- its gaps lead to multiples of 1, 2, 4 or 8
  pub part_fine : (j : ℕ) (ts : Trees) → AllByRecursion (Fine (λ c. ⊥)) (own_entries w s j ts)
  part_fine j ts =
      let z : flat_map (pointer w.table h) (nodes_of w.table (replicate j e) [] 1 ts) ≡ [] =
      no_pointers w.table h (replicate j e) [] 1 ts (many (FitsPipes w.table) e j (fits w side s at_pipe)) in
      (inr (inr (inl refl)), (tt, fine_in_place (λ c. ⊥) w.table h (replicate j e) [] 1 ts (subst (AllByRecursion (FullOk (λ c. ⊥))) (sym z) tt)))
