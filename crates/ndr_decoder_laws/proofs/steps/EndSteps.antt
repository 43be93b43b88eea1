-- The end of a value: the next member of its struct, the next element, the end of its array, union or pipe, or that of the home.
use Rattle.std.proofs.Common.{◌≡◌, ℕ, ◌+◌, zero, suc, false, List, [], ◌∷◌, ◌++◌, length, Some, refl, ap, ap₂, sym, ◌∙◌, subst, arith, append_assoc, length-append, map, flat_map}
use Rattle.std.specs.Prelude.{replicate}
use Rattle.std.specs.List.{AllByRecursion}
use Rattle.std.proofs.lemmas.List.{append-nil, length-replicate}
use Rattle.std.proofs.lemmas.Grind.{flat_map-append}
use Rattle.nd_base.specs.declared.octets.Order.{Order}
use Rattle.nd_types.specs.declared.types.TypeDef.TheVariants as def
use Rattle.nd_types.specs.Table.{Table, type_at}
use Rattle.nd_value.specs.declared.item.Home.{Home}
use Rattle.nd_value.specs.declared.item.Item.{Item}
use Rattle.nd_value.specs.Nodes.{child_agreements, nodes_of}
use Rattle.nd_value.specs.Deferral.{pointer, home_pointers}
use Rattle.nd_value.specs.Tree as tree
use Rattle.nd_value.specs.Tree.{Tree, Trees, node, none, more, joined, Label, flat, count, node_count, is_pointer}
use Rattle.nd_grammar.specs.Entry.{EntryAt, child_tests}
use Rattle.nd_grammar.specs.Reader.{Names, Read, read_in_place, tree_nodes, pass_all}
use Rattle.ndr_code.specs.declared.instr.Instr.{Instr}
use Rattle.ndr_code.specs.declared.instr.Instr.TheVariants as op
use Rattle.ndr_code.specs.declared.lists.EnumList.{EnumList}
use Rattle.ndr_code.specs.Code.{place_at}
use Rattle.ndr_code.specs.Runs.{IsRunAt}
use Rattle.ndr_decoder_laws.specs.reader.Around.{Around, going, finish, go_on, nodes_around, nodes_between, pointers, pointers_around, Numbered, Tied, moved, with_left}
use Rattle.ndr_decoder_laws.specs.reader.Points.{between, has}
use Rattle.ndr_decoder_laws.proofs.reader.Continuing.{moves, goes_on}
use Rattle.ndr_decoder_laws.proofs.reader.FlatNodes.{nodes_moved, node_closed, length_more}
use Rattle.nd_grammar.proofs.agreements.EntriesTell.{flat_length as length_flat}
use Rattle.nd_grammar.proofs.reader.ReaderPipes.{joined_count as count_joined}
use Rattle.ndr_decoder_laws.proofs.reader.HomePointers.{nodes_joined, pointers_moved, pointers_node, of_array, of_union}
use Rattle.ndr_decoder_laws.specs.declared.frame.Frame.{Frame}
use Rattle.ndr_decoder_laws.specs.declared.frame.Frame.TheVariants as frame
use Rattle.ndr_decoder_laws.specs.steps.Spots.{IsFine, IsPlanned, IsFrame, in_struct, in_array, in_union, in_pipe, Inside, Fits, at_ret, IsShaped, AreShaped, FitsPointer}
use Rattle.ndr_decoder_laws.specs.steps.Steps.{State, Outcome, goes, back_to, jumped, popped_to, with_frames}
use Rattle.ndr_decoder_laws.specs.steps.Good.{Told, IsRight, owed, Begin, BeginsAt, BeginStruct, members_around, members_of, read_members, open_member}
use Rattle.ndr_decoder_laws.proofs.steps.Arriving.{KeptAll, KeptOwn, arrives}
use Rattle.ndr_decoder_laws.proofs.steps.Adding.{no_pointer}
use Rattle.ndr_decoder_laws.proofs.steps.StructSteps.{deeper}
use Rattle.nd_grammar.proofs.PlainStreams.{no_tests_below as no_tests}

snoc : (n t : ℕ) → replicate n t ++ t ∷ [] ≡ replicate (suc n) t
snoc zero t = refl
snoc (suc n) t = ap (λ xs. t ∷ xs) (snoc n t)

shaped_moved : (table : Table) (us : List ℕ) (t : ℕ) (ts : Trees) (v : Tree) → length us ≡ count ts → AreShaped table us ts → IsShaped table t v
    → AreShaped table (us ++ t ∷ []) (joined ts (more v none))
shaped_moved table [] t none v e a b = (b, tt)
shaped_moved table [] t (more x xs) v e a b = absurd (omega (arith, e))
shaped_moved table (u ∷ us) t none v e a b = absurd (omega (arith, e))
shaped_moved table (u ∷ us) t (more x ts) v e a b = (a.0, shaped_moved table us t ts v (omega (arith, e)) a.1 b)

module _ (table : Table) (h : Home) where
  -- the pointers of the first child come before those of the others
  pub pointers_first : (u : ℕ) (us : List ℕ) (n : ℕ) (t : Tree) (ts : Trees)
      → pointers table h (u ∷ us) n (more t ts) ≡ pointers table h (u ∷ []) n (more t none) ++ pointers table h us (n + tree_nodes t) ts
  pointers_first u us n t ts =
      ap (flat_map (pointer table h)) (nodes_joined table (u ∷ []) us n (more t none) ts refl)
      ∙ flat_map-append (pointer table h) (nodes_of table (u ∷ []) [] n (more t none)) (nodes_of table us [] (n + tree_nodes t) ts)

  -- a member more
  pub members_moved : (p : ℕ) (us : List ℕ) (t n : ℕ) (ts : Trees) (v : Tree) → length us ≡ count ts
      → members_of table h p (us ++ t ∷ []) n (joined ts (more v none))
      ≡ members_of table h p us n ts ++ record { node = n + node_count ts; pending = p + length (pointers table h us n ts) } ∷ []
  members_moved p [] t n none v e =
      ap₂ (λ (a : ℕ) (b : ℕ). record { node = a; pending = b } ∷ []) (omega arith) (omega arith)
  members_moved p [] t n (more x xs) v e = absurd (omega (arith, e))
  members_moved p (u ∷ us) t n none v e = absurd (omega (arith, e))
  members_moved p (u ∷ us) t n (more (node l ks) ts) v e =
      let x : Tree = node l ks in
      let own : ℕ = length (pointers table h (u ∷ []) n (more x none)) in
      let a : n + tree_nodes x + node_count ts ≡ n + suc (node_count ks + node_count ts) = omega arith in
      let b : p + own + length (pointers table h us (n + tree_nodes x) ts) ≡ p + length (pointers table h (u ∷ us) n (more x ts)) =
      let l : length (pointers table h (u ∷ us) n (more x ts)) ≡ own + length (pointers table h us (n + tree_nodes x) ts) =
      ap length (pointers_first u us n x ts) ∙ length-append (pointers table h (u ∷ []) n (more x none)) (pointers table h us (n + tree_nodes x) ts) in
      omega (arith, l) in
      ap (λ ms. record { node = n; pending = p } ∷ ms)
      (members_moved (p + own) us t (n + tree_nodes x) ts v (omega (arith, e))
      ∙ ap₂ (λ (c : ℕ) (d : ℕ). members_of table h (p + own) us (n + tree_nodes x) ts ++ record { node = c; pending = d } ∷ []) a b)

  one_longer : (f : Around) (v : Tree) → length f.before ≡ count f.done → length (f.before ++ f.child ∷ []) ≡ count (joined f.done (more v none))
  one_longer f v e =
      let a : length (f.before ++ f.child ∷ []) ≡ length f.before + 1 = length-append f.before (f.child ∷ []) in
      let b : count (joined f.done (more v none)) ≡ count f.done + suc 0 = count_joined f.done (more v none) in omega (arith, a, b, e)

  -- the nodes before a child are those of its node and of the children before it
  before_child : (f : Around) (fs : List Around) → Numbered (f ∷ fs) → length (nodes_around (f ∷ fs)) ≡ f.node + 1 + node_count f.done
  before_child f fs numbered =
      let a : length (nodes_around (f ∷ fs)) ≡ length (nodes_around fs) + suc (length (flat f.done)) =
      length-append (nodes_around fs) ((f.label, count f.done + (1 + length f.left)) ∷ flat f.done) in
      let b : length (flat f.done) ≡ node_count f.done = length_flat f.done in
      let d : f.node ≡ length (nodes_around fs) = numbered.0 in omega (arith, a, b, d)

  -- a child that was read joins those before it, and its pointers theirs
  moved_pointers : (fs : List Around) (f : Around) (t : ℕ) (v : Tree) (c : ℕ) (types : List ℕ) → t ≡ f.child → Numbered (f ∷ fs) → length f.before ≡ count f.done
      → pointers_around table h (f ∷ fs) ++ pointers table h (t ∷ []) (length (nodes_around (f ∷ fs))) (more v none) ≡ pointers_around table h (moved f v c types ∷ fs)
  moved_pointers fs f t v c types et numbered many =
      append_assoc (pointers_around table h fs) (pointers table h f.before (f.node + 1) f.done) (pointers table h (t ∷ []) (length (nodes_around (f ∷ fs))) (more v none))
      ∙ ap (λ ps. pointers_around table h fs ++ ps)
      (ap₂ (λ u n. pointers table h f.before (f.node + 1) f.done ++ pointers table h (u ∷ []) n (more v none)) et (before_child f fs numbered)
      ∙ sym (pointers_moved table h f.before f.child (f.node + 1) f.done v many))

module _ (order : Order) (fetched : List ℕ) (code : List Instr) (values : List EnumList) (table : Table) (h : Home) (own limit : ℕ) (noted : List Item) (direct : ℕ) (target : List ℕ → Read)
    (planned : IsPlanned code values table) where
  abbrev Right : ℕ → List EntryAt → Outcome → Type 0
  Right at seen o = IsRight order fetched code table h own limit noted direct target at seen o

  module _ (s : State) (seen : List EntryAt) (names : Names) (t : ℕ) (v : Tree) (kept : KeptAll h seen s.max_at s.nodes s.members s.firsts) (first : KeptOwn h seen s.max_at s.nodes s.own)
      (many : length s.firsts + 0 ≡ length s.members) (told : Told noted direct order fetched h seen names s.cells s.numbers s.max_at (length s.nodes) []) (reached : length fetched ≡ s.at) where
    -- `ret` after the home's own value
    pub end_right : s.top ≡ frame.Home → s.nodes ≡ flat (more v none) → t ≡ own → s.fresh ≡ map (owed table) (pointers table h (t ∷ []) 0 (more v none))
        → ((later : List ℕ) → record { tree = v; progress = going s.at seen; names = names } ≡ target (fetched ++ later)) → Right s.at seen (back_to s.top s)
    end_right et en tied owes rest =
        subst (λ f. Right s.at seen (back_to f s)) (sym et)
        (record {
          v = v;
          seen = seen;
          names = names;
          nodes = en;
          pending = owes ∙ ap (λ u. map (owed table) (home_pointers table h u v)) tied;
          first = first;
          reached = reached;
          told = told;
          is = rest;
        })

    module _ (k : ℕ) (fs : List Around) (f : Around) (outer : Frame) (under : List Frame) (deep : suc k + length fs ≡ limit) (es : s.stack ≡ outer ∷ under) (inside : Inside code table outer under fs)
        (shaped : IsShaped table t v) (begin : Begin table h s.top s.stack (f ∷ fs)) (inner : AllByRecursion (IsFine table k) f.left) (fits : Fits code table (suc k) fs) (tied : Tied own t (f ∷ fs))
        (en : s.nodes ≡ nodes_around (f ∷ fs) ++ flat (more v none)) (numbered : Numbered (f ∷ fs)) (em : s.members ≡ members_around table h (f ∷ fs))
        (owes : s.fresh ≡ map (owed table) (pointers_around table h (f ∷ fs) ++ pointers table h (t ∷ []) (length (nodes_around (f ∷ fs))) (more v none)))
        (rest : (later : List ℕ) → finish order (fetched ++ later) table h s.max (suc k) fs
        (go_on order (fetched ++ later) table h s.max k f (record { tree = v; progress = going s.at seen; names = names })) ≡ target (fetched ++ later)) where
      abbrev kids : Trees
      kids = joined f.done (more v none)

      begins : BeginsAt (length (members_around table h fs)) s.top × Begin table h outer under fs
      begins = subst (λ st. Begin table h s.top st (f ∷ fs)) es begin

      -- the last child of a node that is no struct
      last_right : (l : Label) (run back : ℕ) → f.label ≡ l → is_pointer l ≡ false → f.left ≡ [] → IsRunAt code back (op.Ret ∷ []) → length f.before ≡ count f.done
          → members_around table h (f ∷ fs) ≡ members_around table h fs → child_agreements f.of kids ≡ []
          → pointers table h (f.before ++ f.child ∷ []) (f.node + 1) kids ≡ pointers table h (f.typed ∷ []) (length (nodes_around fs)) (more (node f.label kids) none)
          → Right s.at seen (back_to (frame.Elements 0 run back) s)
      last_right l run back el_is plain el at_back as_many no_member no_agreement own_pointers =
          let none_left : 1 + length f.left ≡ 1 + 0 = ap (λ l. 1 + length l) el in
          subst (λ st. Right s.at seen (goes (jumped back (popped_to st s)))) (sym es)
          (record {
            depth = suc k;
            fs = fs;
            point = has f.typed (node f.label kids);
            seen = seen;
            names = names;
            deep = deep;
            spot = (at_ret at_back, subst (FitsPointer (type_at table f.typed)) (sym (ap is_pointer el_is ∙ plain)) (no_pointer (type_at table f.typed)));
            phase = refl;
            registers = tt;
            holds = tt;
            inside = inside;
            begin = begins.1;
            fits = fits;
            tied = tied.1;
            nodes =
                en ∙ ap (λ j. (nodes_around fs ++ ((f.label, count f.done + j) ∷ flat f.done)) ++ flat (more v none)) none_left
                ∙ sym (nodes_moved f fs v 0) ∙ node_closed f.label kids (nodes_around fs);
            numbered = numbered.2;
            members = em ∙ no_member;
            pending =
                owes
                ∙ ap (map (owed table)) (moved_pointers table h fs f t v f.child [] tied.0 numbered as_many
                ∙ ap (λ ps. pointers_around table h fs ++ ps) own_pointers);
            many = many;
            kept = kept;
            first = first;
            reached = omega (arith, reached);
            told = told;
            rest = λ later.
                ap (finish order (fetched ++ later) table h s.max (suc k) fs)
                (sym (ap (λ l. go_on order (fetched ++ later) table h s.max k (with_left f l) (record { tree = v; progress = going s.at seen; names = names })) el
                ∙ ap (λ ms. record { tree = node f.label kids; progress = pass_all order (fetched ++ later) ms (going s.at seen); names = names })
                (ap (λ ws. child_tests h ws (f.node + 1) kids) no_agreement ∙ no_tests h (f.node + 1) kids)))
                ∙ rest later;
          })

      -- an element that has one after it
      next_right : (left run back : ℕ) (c : ℕ) → f.left ≡ replicate (suc left) c → run ≡ place_at table c → length f.before ≡ count f.done
          → members_around table h (f ∷ fs) ≡ members_around table h fs
          → members_around table h fs ≡ members_around table h (moved f v c (replicate left c) ∷ fs)
          → IsFrame code table (moved f v c (replicate left c)) (frame.Elements left run back)
          → Right s.at seen (back_to (frame.Elements (suc left) run back) s)
      next_right left run back c el er as_many no_member no_member' is =
          let g : Around = moved f v c (replicate left c) in
          let fine : AllByRecursion (IsFine table k) (c ∷ replicate left c) = subst (AllByRecursion (IsFine table k)) el inner in
          let one_less : 1 + length f.left ≡ 1 + (1 + length (replicate left c)) =
          let e : length f.left ≡ suc (length (replicate left c)) = ap length el in omega (arith, e) in
          let same : nodes_around (f ∷ fs) ++ flat (more v none) ≡ nodes_around (g ∷ fs) =
          ap (λ j. (nodes_around fs ++ ((f.label, count f.done + j) ∷ flat f.done)) ++ flat (more v none)) one_less
          ∙ sym (nodes_moved f fs v (1 + length (replicate left c))) in
          let here_it : f.next + tree_nodes v ≡ length (nodes_around (g ∷ fs)) =
          ap (λ j. j + tree_nodes v) numbered.1 ∙ sym (length_more (nodes_around (f ∷ fs)) v) ∙ ap length same in
          arrives order fetched code values table h own limit noted direct target planned (jumped run (next_frame left run back)) k (g ∷ fs) seen names c fine.0 er refl
          (record {
            deep = deeper k (length fs) limit deep;
            inside = (is, (outer, (under, es, inside)));
            begin = subst (λ st. Begin table h (frame.Elements left run back) st (g ∷ fs)) (sym es) (tt, begins.1);
            fits = (fine.1, fits);
            tied = (refl, tied.1);
            nodes = en ∙ same;
            numbered = (numbered.0, here_it, numbered.2);
            members = em ∙ no_member ∙ no_member';
            pending = owes ∙ ap (map (owed table)) (moved_pointers table h fs f t v c (replicate left c) tied.0 numbered as_many);
            many = many;
            kept = kept;
            first = first;
          })
          told reached
          (λ later.
          ap (λ j. finish order (fetched ++ later) table h s.max k (g ∷ fs) (read_in_place order (fetched ++ later) table h k s.max c j (going s.at seen) names)) (sym here_it)
          ∙ sym (moves order (fetched ++ later) table h s.max k fs f c (replicate left c) v s.at seen names)
          ∙ sym (ap (λ l. finish order (fetched ++ later) table h s.max k (with_left f l ∷ fs) (record { tree = v; progress = going s.at seen; names = names })) el)
          ∙ rest later)
        where
          next_frame : ℕ → ℕ → ℕ → State
          next_frame left run back = with_frames (frame.Elements left run back) s.stack s

      -- none of its members is kept where a node is no struct
      no_members : (l : Label) (g : Around) → g.label ≡ l → read_members table h l g fs ≡ [] → open_member table h l g fs ≡ [] → members_around table h (g ∷ fs) ≡ members_around table h fs
      no_members l g e a b =
          ap (λ x. members_around table h fs ++ (read_members table h x g fs ++ open_member table h x g fs)) e
          ∙ ap₂ (λ xs ys. members_around table h fs ++ (xs ++ ys)) a b ∙ append-nil (members_around table h fs)

      one_more : (c : ℕ) → f.before ≡ replicate (count f.done) c → f.child ≡ c → f.before ++ f.child ∷ [] ≡ replicate (count kids) c
      one_more c eb ec =
          let n : suc (count f.done) ≡ count kids = let b : count kids ≡ count f.done + suc 0 = count_joined f.done (more v none) in omega (arith, b) in
          ap₂ (λ xs y. xs ++ y ∷ []) eb ec ∙ snoc (count f.done) c ∙ ap (λ k. replicate k c) n

      pub back_right : (top : Frame) → IsFrame code table f top → s.top ≡ top → Right s.at seen (back_to top s)
      back_right top (in_struct {back = back} {first = start} members fields is run) et =
          let g : Around = moved f v f.child f.left in
          let same : nodes_around (f ∷ fs) ++ flat (more v none) ≡ nodes_between g fs = sym (nodes_moved f fs v (length f.left)) in
          let ps : ℕ = length (pointers_around table h fs) in
          let members_are : members_around table h (f ∷ fs) ≡ members_around table h fs ++ read_members table h f.label g fs =
          let e : length (pointers_around table h (f ∷ fs)) ≡ ps + length (pointers table h f.before (f.node + 1) f.done) =
          length-append (pointers_around table h fs) (pointers table h f.before (f.node + 1) f.done) in
          ap (λ l. members_around table h fs ++ (read_members table h l f fs ++ open_member table h l f fs)) is.label
          ∙ ap₂ (λ (a : ℕ) (b : ℕ). members_around table h fs ++ (members_of table h ps f.before (f.node + 1) f.done ++ record { node = a; pending = b } ∷ []))
          (numbered.1 ∙ before_child table h f fs numbered) e
          ∙ ap (λ xs. members_around table h fs ++ xs) (sym (members_moved table h ps f.before f.child (f.node + 1) f.done v is.many))
          ∙ ap (λ l. members_around table h fs ++ read_members table h l g fs) (sym is.label) in
          record {
            depth = suc k;
            fs = fs;
            point = between g;
            seen = seen;
            names = names;
            deep = deep;
            spot = (
              members,
              fields,
              record {
                typed = is.typed;
                of = is.of;
                label = is.label;
                left = is.left;
                all = append_assoc f.before (f.child ∷ []) f.left ∙ is.all;
                many = one_longer table h f v is.many;
                shaped = shaped_moved table f.before f.child f.done v is.many is.shaped (subst (λ u. IsShaped table u v) tied.0 shaped);
              },
              run,
            );
            phase = refl;
            registers = tt;
            holds = tt;
            inside = ((back, start, et), (outer, (under, es, inside)));
            begin = subst (λ st. BeginStruct table h s.top st fs) (sym es) begins;
            fits = (inner, fits);
            tied = tied.1;
            nodes = en ∙ same;
            numbered = (numbered.0, ap (λ j. j + tree_nodes v) numbered.1 ∙ sym (length_more (nodes_around (f ∷ fs)) v) ∙ ap length same, numbered.2);
            members = em ∙ members_are;
            pending = owes ∙ ap (map (owed table)) (moved_pointers table h fs f t v f.child f.left tied.0 numbered is.many);
            many = many;
            kept = kept;
            first = first;
            reached = omega (arith, reached);
            told = told;
            rest = λ later. ap (finish order (fetched ++ later) table h s.max (suc k) fs) (sym (goes_on order (fetched ++ later) table h s.max k f v (going s.at seen) names)) ∙ rest later;
          }
      back_right top (in_array {left = zero} {run = run} {back = back} elem bound varying is el er at_back) et =
          last_right (tree.Arr is.max is.offset) run back is.label refl el at_back (ap length is.before ∙ length-replicate (count f.done) elem.0)
          (no_members (tree.Arr is.max is.offset) f is.label refl refl) (ap (λ d. child_agreements d kids) is.of)
          (ap (λ us. pointers table h us (f.node + 1) kids) (one_more elem.0 is.before is.child)
          ∙ sym (of_array table h f.typed f.node is.max is.offset elem bound varying kids is.typed)
          ∙ ap₂ (λ l n. pointers table h (f.typed ∷ []) n (more (node l kids) none)) (sym is.label) numbered.0)
      back_right top (in_array {left = suc left} {run = run} {back = back} elem bound varying is el er at_back) et =
          next_right left run back elem.0 el er (ap length is.before ∙ length-replicate (count f.done) elem.0)
          (no_members (tree.Arr is.max is.offset) f is.label refl refl) (sym (no_members (tree.Arr is.max is.offset) (moved f v elem.0 (replicate left elem.0)) is.label refl refl))
          (in_array elem bound varying
          (record { typed = is.typed; of = is.of; max = is.max; offset = is.offset; label = is.label; child = refl; before = one_more elem.0 is.before is.child }) refl er at_back)
      back_right top (in_union {run = run} {back = back} is er at_back) et =
          last_right (tree.Union is.value) run back is.label refl is.none_left at_back (ap length is.none_before ∙ sym (ap count is.none_done))
          (no_members (tree.Union is.value) f is.label refl refl) (ap (λ d. child_agreements d kids) is.of)
          (ap (λ us. pointers table h us (f.node + 1) kids) (ap (λ us. us ++ f.child ∷ []) is.none_before ∙ sym is.arm)
          ∙ sym (of_union table h f.typed f.node is.value is.tag is.encapsulated is.arms is.default kids is.typed)
          ∙ ap₂ (λ l n. pointers table h (f.typed ∷ []) n (more (node l kids) none)) (sym is.label) numbered.0)
      back_right top (in_pipe {left = zero} {run = run} {back = back} elem is el er at_back) et =
          last_right tree.Pipe run back is.label refl el at_back (ap length is.before ∙ length-replicate (count f.done) elem.0)
          (no_members tree.Pipe f is.label refl refl) (ap (λ d. child_agreements d kids) is.of)
          (ap (λ us. pointers table h us (f.node + 1) kids) (one_more elem.0 is.before is.child)
          ∙ sym (pointers_node table h (Some (def.Pipe elem)) f.typed f.node tree.Pipe kids is.typed)
          ∙ ap₂ (λ l n. pointers table h (f.typed ∷ []) n (more (node l kids) none)) (sym is.label) numbered.0)
      back_right top (in_pipe {left = suc left} {run = run} {back = back} elem is el er at_back) et =
          next_right left run back elem.0 el er (ap length is.before ∙ length-replicate (count f.done) elem.0)
          (no_members tree.Pipe f is.label refl refl) (sym (no_members tree.Pipe (moved f v elem.0 (replicate left elem.0)) is.label refl refl))
          (in_pipe elem (record { typed = is.typed; of = is.of; label = is.label; child = refl; before = one_more elem.0 is.before is.child }) refl er at_back)
