-- A graph under two tied tables has streams that say the same in octets, and so the same octets represent it.
use Rattle.std.proofs.Common.{arith, ◌≡◌, ℕ, ℤ, ◌+◌, ◌<◌, ◌≤◌, zero, suc, Bool, true, false, List, [], ◌∷◌, ◌++◌, Option, Some, None, refl, ap, ap₂, sym, ◌∙◌, subst, map, length, drop}
use Rattle.std.specs.Prelude.{flat_map, replicate, slice_get}
use Rattle.std.specs.List.{AllByRecursion}
use Rattle.nd_base.specs.declared.octets.Order.{Order}
use Rattle.nd_types.specs.declared.types.TypeDef.{TypeDef}
use Rattle.nd_types.specs.declared.types.TypeDef.TheVariants as def
use Rattle.nd_types.specs.declared.types.Class.TheVariants as class
use Rattle.nd_types.specs.declared.types.AttrVar.{AttrVar}
use Rattle.nd_types.specs.declared.types.Operation.{Operation}
use Rattle.nd_types.specs.declared.types.Side.{Side}
use Rattle.nd_types.specs.Table.{Table, type_at}
use Rattle.nd_types.specs.Roots.{Root, roots_of, root_index}
use Rattle.nd_value.specs.declared.value.Graph.{Graph}
use Rattle.nd_value.specs.declared.item.Home.{Home}
use Rattle.nd_value.specs.declared.item.Home.TheVariants as home
use Rattle.nd_value.specs.Tree as tree
use Rattle.nd_value.specs.Tree.{Tree, Trees, node, none, more, Label, node_count, take_trees, drop_trees, Referent}
use Rattle.nd_value.specs.Agreement.{Agreement, agreement, number_of, starred, variable, root_agreements}
use Rattle.nd_value.specs.Setting.{Setting, root_list, root_at, cell_at, cell_home}
use Rattle.nd_value.specs.Deferral.{Pending, home_pointers, Due, due_root, due_referent, due_roots, due_of, before_pipes, Step, root_stands, referent_stands, stands_already, Deferral, none_due}
use Rattle.nd_value.specs.Deferral.{at_root, at_null, at_standing, at_referent, Standing, standing_root, standing_by, standing_cell, direct, root_type, root_cell, Placed_cells, AreFree}
use Rattle.nd_value.proofs.FewRoots.{few_before_pipes}
use Rattle.nd_grammar.specs.Entry.{Entry, Align, Chunk, Unread, end_to_end, end_of, full_cells, entries, tests, in_place, whole_value}
use Rattle.nd_grammar.specs.Stream.{Stream, standing_entries, step_tests, step_entries, root_test, root_tests, chunk_entries, chunks, pipe_entries, pipes_entries, AllCut, head_entries, representation}
use Rattle.nd_grammar.specs.Stream.{Represents, IsRendered, IsNumbering}
use Rattle.idl_compat.specs.Comparison.{OneByOne, AlikeTypes, alike_prims, alike_enums, alike_structs, alike_arrays, alike_texts, alike_unions, alike_pointers, alike_contexts, alike_pipes}
use Rattle.idl_compat.proofs.Tied.{IsTied, one_append, one_map}
use Rattle.idl_compat.proofs.Nodes.{AlikePending, alike_pending, pointers_alike}
use Rattle.idl_compat.proofs.Roots.{AlikeRoot, alike_root, index_alike, before_alike, root_typed, drop_alike}
use Rattle.idl_compat.proofs.Entries.{bare_all, both_bare, in_place_alike, whole_alike, end_bare, cells_bare, all_bare}

-- a side of an operation, beside no request
abbrev pub under : Table → Operation → Side → Setting
under table op side = record { table = table; op = op; side = side; given = None }

abbrev pub graph_of : List Tree → List Referent → Graph
graph_of roots cells = record { roots = roots; cells = cells }

-- what stands under both tables
pub data AlikeStanding (R : ℕ → ℕ → Type 0) : Standing → Standing → Type 0 where
  alike_standing : (h : Home) (t u : ℕ) (v : Tree) → R t u → AlikeStanding R (record { home = h; of = t; val = v }) (record { home = h; of = u; val = v })

-- top-level reference pointers to one cell, of related types, or none
abbrev BothDirect : (ℕ → ℕ → Type 0) → Option (ℕ × ℕ) → Option (ℕ × ℕ) → Type 0
BothDirect R None None = Unit {0}
BothDirect R (Some x) (Some y) = (x.0 ≡ y.0) × R x.1 y.1
BothDirect R _ _ = ⊥

direct_alike : (R : ℕ → ℕ → Type 0) {d e : Option TypeDef} → AlikeTypes R d e → (v : Tree) → BothDirect R (direct d v) (direct e v)
direct_alike R (alike_pointers class.Ref t u a) (node (tree.Ptr None) ks) = (refl, a)
direct_alike R (alike_pointers class.Ref t u a) (node (tree.Ptr (Some c)) ks) = (refl, a)
direct_alike R (alike_pointers class.Ref t u a) (node _ ks) = tt
direct_alike R (alike_pointers class.Unique t u a) v = tt
direct_alike R (alike_pointers class.Full t u a) v = tt
direct_alike R (alike_prims p) v = tt
direct_alike R (alike_enums vs) v = tt
direct_alike R (alike_structs fs gs a) v = tt
direct_alike R (alike_arrays t u b w a) v = tt
direct_alike R (alike_texts t u b a) v = tt
direct_alike R (alike_unions t u n xs ys d e a b c) v = tt
direct_alike R alike_contexts v = tt
direct_alike R (alike_pipes t u a) v = tt

module _ (R : ℕ → ℕ → Type 0) (old new : Table) (k : IsTied R old new) (o q : Operation) (s : Side)
    (rooted : OneByOne (AlikeRoot R) (roots_of old s o) (roots_of new s q))
    (roots : List Tree) (cells cells' : List Referent) (same : (c : ℕ) → cell_at (graph_of roots cells) c ≡ cell_at (graph_of roots cells') c) where
  abbrev w : Setting
  w = under old o s

  abbrev w' : Setting
  w' = under new q s

  abbrev g : Graph
  g = graph_of roots cells

  abbrev h : Graph
  h = graph_of roots cells'

  -- ## What stands

  pub cell_stands : (c t u : ℕ) → R t u → AlikeStanding R (record { home = cell_home c; of = t; val = cell_at g c }) (record { home = cell_home c; of = u; val = cell_at h c })
  cell_stands c t u r =
      subst (λ v. AlikeStanding R (record { home = cell_home c; of = t; val = cell_at g c }) (record { home = cell_home c; of = u; val = v })) (same c)
      (alike_standing (cell_home c) t u (cell_at g c) r)

  stands_by : (i t u : ℕ) (v : Tree) → R t u → (x y : Option (ℕ × ℕ)) → BothDirect R x y → AlikeStanding R (standing_by g i t v x) (standing_by h i u v y)
  stands_by i t u v r None None a = alike_standing (home.Root i) t u v r
  stands_by i t u v r None (Some y) a = absurd a
  stands_by i t u v r (Some x) None a = absurd a
  stands_by i t u v r (Some x) (Some y) a =
      subst (λ c. AlikeStanding R (record { home = cell_home x.0; of = x.1; val = cell_at g x.0 }) (record { home = cell_home c; of = y.1; val = cell_at h c })) a.0
      (cell_stands x.0 x.1 y.1 a.1)

  -- the types of the i-th roots are related
  abbrev IsTyped : ℕ → Type 0
  IsTyped i = R (root_type (slice_get (roots_of old s o) i)) (root_type (slice_get (roots_of new s q) i))

  root_stands_alike : (i : ℕ) → IsTyped i → AlikeStanding R (standing_root w g i) (standing_root w' h i)
  root_stands_alike i r =
      let t : ℕ = root_type (slice_get (roots_of old s o) i) in
      let u : ℕ = root_type (slice_get (roots_of new s q) i) in
      stands_by i t u (root_at g i) r (direct (type_at old t) (root_at g i)) (direct (type_at new u) (root_at g i)) (direct_alike R (k.alike t u r) (root_at g i))

  home_same : (x y : Standing) → AlikeStanding R x y → x.home ≡ y.home
  home_same _ _ (alike_standing hm t u v r) = refl

  standing_same : (x y : Standing) → AlikeStanding R x y → bare_all (standing_entries old x) ≡ bare_all (standing_entries new y)
  standing_same _ _ (alike_standing hm t u v r) = whole_alike R old new k hm t u r v

  -- ## What is due

  data AlikeDue : Due → Due → Type 0 where
    alike_due_root : (i : ℕ) → IsTyped i → AlikeDue (due_root i) (due_root i)
    alike_due_referent : (p p' : Pending) → AlikePending R p p' → AlikeDue (due_referent p) (due_referent p')

  referents_due : (ps qs : List Pending) → OneByOne (AlikePending R) ps qs → OneByOne AlikeDue (map due_referent ps) (map due_referent qs)
  referents_due [] [] a = tt
  referents_due [] (y ∷ ys) a = absurd a
  referents_due (x ∷ xs) [] a = absurd a
  referents_due (x ∷ xs) (y ∷ ys) a = (alike_due_referent x y a.0, referents_due xs ys a.1)

  due_alike : (x y : Standing) → AlikeStanding R x y → OneByOne AlikeDue (due_of old x) (due_of new y)
  due_alike _ _ (alike_standing hm t u v r) = referents_due (home_pointers old hm t v) (home_pointers new hm u v) (pointers_alike R old new k hm t u r v)

  roots_due : (i n : ℕ) → ((j : ℕ) → j < i + n → IsTyped j) → OneByOne AlikeDue (due_roots i n) (due_roots i n)
  roots_due i zero f = tt
  roots_due i (suc n) f = (alike_due_root i (f i (omega arith)), roots_due (suc i) n (λ j l. f j (omega (arith, l))))

  -- ## Deferral

  record Carried (done : Placed_cells) (due : List Due) (steps : List Step) : Type 0 where
    carried : List Step
    deferral : Deferral w' h done due carried
    entries_same : bare_all (flat_map (step_entries w g) steps) ≡ bare_all (flat_map (step_entries w' h) carried)

  tests_same : (c : ℕ) (ags : List Agreement) → bare_all (tests (cell_home c) 0 (cell_at g c) ags) ≡ bare_all (tests (cell_home c) 0 (cell_at h c) ags)
  tests_same c ags = ap (λ v. bare_all (tests (cell_home c) 0 v ags)) (same c)

  deferral_alike : {done : Placed_cells} {due : List Due} {steps : List Step} → Deferral w g done due steps → (due' : List Due) → OneByOne AlikeDue due due'
      → Carried done due' steps
  deferral_alike none_due [] a = record { carried = []; deferral = none_due; entries_same = refl }
  deferral_alike none_due (y ∷ ys) a = absurd a
  deferral_alike (at_root f d) [] a = absurd a
  deferral_alike (at_root {done = done} {i = i} {due = due} {steps = steps} f d) (_ ∷ due') (alike_due_root _ r, rest) =
      let x : Standing = standing_root w g i in
      let y : Standing = standing_root w' h i in
      let st : AlikeStanding R x y = root_stands_alike i r in
      let e : x.home ≡ y.home = home_same x y st in
      let ih : Carried (root_cell x.home ++ done) (due_of new y ++ due') steps =
      deferral_alike d (due_of new y ++ due') (one_append AlikeDue (due_of old x) (due_of new y) due due' (due_alike x y st) rest) in
      record {
        carried = root_stands i ∷ ih.carried;
        deferral = at_root (subst (λ hm. AreFree (root_cell hm) done) e f) (subst (λ hm. Deferral w' h (root_cell hm ++ done) (due_of new y ++ due') ih.carried) e ih.deferral);
        entries_same = both_bare (standing_entries old x) (standing_entries new y) (flat_map (step_entries w g) steps) (flat_map (step_entries w' h) ih.carried) (standing_same x y st) ih.entries_same;
      }
  deferral_alike (at_null e d) [] a = absurd a
  deferral_alike (at_null e d) (_ ∷ due') (alike_due_referent _ _ (alike_pending hm n class t u cell ags r), rest) =
      let ih = deferral_alike d due' rest in
      record { carried = ih.carried; deferral = at_null e ih.deferral; entries_same = ih.entries_same }
  deferral_alike (at_standing c e f pl d) [] a = absurd a
  deferral_alike (at_standing {steps = steps} c e f pl d) (_ ∷ due') (alike_due_referent _ _ (alike_pending hm n class t u cell ags r), rest) =
      let ih = deferral_alike d due' rest in
      record {
        carried = stands_already (record { home = hm; node = n; class = class; to = u; cell = cell; agreements = ags }) c ∷ ih.carried;
        deferral = at_standing c e f pl ih.deferral;
        entries_same = both_bare (tests (cell_home c) 0 (cell_at g c) ags) (tests (cell_home c) 0 (cell_at h c) ags) (flat_map (step_entries w g) steps) (flat_map (step_entries w' h) ih.carried)
            (tests_same c ags) ih.entries_same;
      }
  deferral_alike (at_referent c e np d) [] a = absurd a
  deferral_alike (at_referent {done = done} {due = due} {steps = steps} c e np d) (_ ∷ due') (alike_due_referent _ _ (alike_pending hm n class t u cell ags r), rest) =
      let p : Pending = record { home = hm; node = n; class = class; to = t; cell = cell; agreements = ags } in
      let p' : Pending = record { home = hm; node = n; class = class; to = u; cell = cell; agreements = ags } in
      let x : Standing = standing_cell g p c in
      let y : Standing = standing_cell h p' c in
      let st : AlikeStanding R x y = cell_stands c t u r in
      let ih = deferral_alike d (due_of new y ++ due') (one_append AlikeDue (due_of old x) (due_of new y) due due' (due_alike x y st) rest) in
      record {
        carried = referent_stands p' c ∷ ih.carried;
        deferral = at_referent c e np ih.deferral;
        entries_same = both_bare (standing_entries old x ++ tests (cell_home c) 0 (cell_at g c) ags) (standing_entries new y ++ tests (cell_home c) 0 (cell_at h c) ags)
            (flat_map (step_entries w g) steps) (flat_map (step_entries w' h) ih.carried)
            (both_bare (standing_entries old x) (standing_entries new y) (tests (cell_home c) 0 (cell_at g c) ags) (tests (cell_home c) 0 (cell_at h c) ags) (standing_same x y st) (tests_same c ags))
            ih.entries_same;
      }

  -- ## The agreements of the parameters

  starred_same : (b : Bool) (t : Tree) → starred g b t ≡ starred h b t
  starred_same true (node (tree.Ptr (Some c)) ks) = ap number_of (same c)
  starred_same true (node (tree.Ptr None) ks) = refl
  starred_same true (node _ ks) = refl
  starred_same false t = refl

  found_same : (b : Bool) (i : Option ℕ) → ◌≡◌ {A = Option ℤ} (elim i [ None ↦ None | Some j ↦ starred g b (root_at g j) ]) (elim i [ None ↦ None | Some j ↦ starred h b (root_at h j) ])
  found_same b None = refl
  found_same b (Some j) = starred_same b (root_at g j)

  pub variable_same : (a : AttrVar) → variable w g a ≡ variable w' h a
  variable_same a =
      found_same a.star (root_index (roots_of old s o) a.var 0)
      ∙ ap (λ i. elim i [ None ↦ None | Some j ↦ starred h a.star (root_at h j) ]) (index_alike R (roots_of old s o) (roots_of new s q) rooted a.var 0)

  pub agreements_same : (vars : List AttrVar) → root_agreements w g vars ≡ root_agreements w' h vars
  agreements_same [] = refl
  agreements_same (a ∷ rest) = ap₂ (λ u v. agreement a.attr u ++ v) (variable_same a) (agreements_same rest)

  test_same : (i : ℕ) (v : Tree) (ags : List Agreement) → bare_all (root_test g i v ags) ≡ bare_all (root_test h i v ags)
  test_same i (node (tree.Ptr None) ks) ags = refl
  test_same i (node (tree.Ptr (Some c)) ks) ags = tests_same c ags
  test_same i (node _ ks) ags = refl

  tests_of : (i : ℕ) (v : Tree) (x y : Root) → AlikeRoot R x y → bare_all (root_test g i v (root_agreements w g x.vars)) ≡ bare_all (root_test h i v (root_agreements w' h y.vars))
  tests_of i v _ _ (alike_root t u p vs b r) = test_same i v (root_agreements w g vs) ∙ ap (λ ags. bare_all (root_test h i v ags)) (agreements_same vs)

  root_tests_same : (i : ℕ) (rs rs' : List Root) → OneByOne (AlikeRoot R) rs rs' → (vs : List Tree) → bare_all (root_tests w g i rs vs) ≡ bare_all (root_tests w' h i rs' vs)
  root_tests_same i [] [] a vs = refl
  root_tests_same i [] (y ∷ ys) a vs = absurd a
  root_tests_same i (x ∷ xs) [] a vs = absurd a
  root_tests_same i (x ∷ xs) (y ∷ ys) a [] = refl
  root_tests_same i (x ∷ xs) (y ∷ ys) a (v ∷ vs) =
      both_bare (root_test g i v (root_agreements w g x.vars)) (root_test h i v (root_agreements w' h y.vars)) (root_tests w g (i + 1) xs vs) (root_tests w' h (i + 1) ys vs)
      (tests_of i v x y a.0) (root_tests_same (i + 1) xs ys a.1 vs)

  -- ## Pipes

  repeated : (t u : ℕ) → R t u → (n : ℕ) → OneByOne R (replicate {A = ℕ} n t) (replicate {A = ℕ} n u)
  repeated t u a zero = tt
  repeated t u a (suc n) = (a, repeated t u a n)

  chunks_same : (hm : Home) (t u : ℕ) → R t u → (n : ℕ) (cut : List ℕ) (ts : Trees) → bare_all (chunks old hm t n cut ts) ≡ bare_all (chunks new hm u n cut ts)
  chunks_same hm t u r n [] ts = refl
  chunks_same hm t u r n (j ∷ cut) ts =
      let A : List Entry = entries hm 0 (Align 4 ∷ Chunk j ∷ []) in
      let B : List Entry = in_place old hm (replicate {A = ℕ} j t) n (take_trees j ts) in
      let B' : List Entry = in_place new hm (replicate {A = ℕ} j u) n (take_trees j ts) in
      both_bare (A ++ B) (A ++ B') (chunks old hm t (n + node_count (take_trees j ts)) cut (drop_trees j ts)) (chunks new hm u (n + node_count (take_trees j ts)) cut (drop_trees j ts))
      (both_bare A A B B' refl (in_place_alike R old new k hm (replicate {A = ℕ} j t) (replicate {A = ℕ} j u) (repeated t u r j) n (take_trees j ts)))
      (chunks_same hm t u r (n + node_count (take_trees j ts)) cut (drop_trees j ts))

  pipe_same : (hm : Home) {d e : Option TypeDef} → AlikeTypes R d e → (cut : List ℕ) (v : Tree) → bare_all (pipe_entries old hm d cut v) ≡ bare_all (pipe_entries new hm e cut v)
  pipe_same hm (alike_pipes t u a) cut (node tree.Pipe ks) = chunks_same hm t.0 u.0 a 1 cut ks
  pipe_same hm (alike_pipes t u a) cut (node _ ks) = refl
  pipe_same hm (alike_prims p) cut v = refl
  pipe_same hm (alike_enums vs) cut v = refl
  pipe_same hm (alike_structs fs gs a) cut v = refl
  pipe_same hm (alike_arrays t u b n a) cut v = refl
  pipe_same hm (alike_texts t u b a) cut v = refl
  pipe_same hm (alike_unions t u n xs ys d e a b c) cut v = refl
  pipe_same hm (alike_pointers c t u a) cut v = refl
  pipe_same hm alike_contexts cut v = refl

  pipe_of_root : (hm : Home) (x y : Root) → AlikeRoot R x y → (cut : List ℕ) (v : Tree)
      → bare_all (pipe_entries old hm (type_at old x.of) cut v) ≡ bare_all (pipe_entries new hm (type_at new y.of) cut v)
  pipe_of_root hm _ _ (alike_root t u p vs b r) cut v = pipe_same hm (k.alike t u r) cut v

  pipes_same : (i : ℕ) (rs rs' : List Root) → OneByOne (AlikeRoot R) rs rs' → (vs : List Tree) (cuts : List (List ℕ))
      → bare_all (pipes_entries old i rs vs cuts) ≡ bare_all (pipes_entries new i rs' vs cuts)
  pipes_same i [] [] a vs cuts = refl
  pipes_same i [] (y ∷ ys) a vs cuts = absurd a
  pipes_same i (x ∷ xs) [] a vs cuts = absurd a
  pipes_same i (x ∷ xs) (y ∷ ys) a [] cuts = refl
  pipes_same i (x ∷ xs) (y ∷ ys) a (v ∷ vs) [] = refl
  pipes_same i (x ∷ xs) (y ∷ ys) a (v ∷ vs) (cut ∷ cuts) =
      both_bare (pipe_entries old (home.Root i) (type_at old x.of) cut v) (pipe_entries new (home.Root i) (type_at new y.of) cut v) (pipes_entries old (i + 1) xs vs cuts)
      (pipes_entries new (i + 1) ys vs cuts)
      (pipe_of_root (home.Root i) x y a.0 cut v) (pipes_same (i + 1) xs ys a.1 vs cuts)

  -- ## The stream

  pub record StreamCarried (ms : List Entry) : Type 0 where
    pub carried : List Entry
    pub stream : Stream w' h carried
    pub entries_same : bare_all ms ≡ bare_all carried

  pub stream_alike : (ms : List Entry) → Stream w g ms → StreamCarried ms
  stream_alike ms str =
      let rs : List Root = roots_of old s o in
      let rs' : List Root = roots_of new s q in
      let n : ℕ = before_pipes rs in
      let n' : ℕ = before_pipes rs' in
      let e : n ≡ n' = before_alike R rs rs' rooted in
      let few : before_pipes rs ≤ length rs = few_before_pipes rs in
      let due : OneByOne AlikeDue (due_roots 0 n) (due_roots 0 n') =
      subst (λ m. OneByOne AlikeDue (due_roots 0 n) (due_roots 0 m)) e (roots_due 0 n (λ j l. root_typed R rs rs' rooted j (omega (arith, l, few)))) in
      let d = deferral_alike str.deferral (due_roots 0 n') due in
      let heads : bare_all (head_entries w g str.steps) ≡ bare_all (head_entries w' h d.carried) =
      both_bare (flat_map (step_entries w g) str.steps) (flat_map (step_entries w' h) d.carried) (root_tests w g 0 rs roots) (root_tests w' h 0 rs' roots) d.entries_same
      (root_tests_same 0 rs rs' rooted roots) in
      let pipes : bare_all (pipes_entries old n (drop n rs) (drop n roots) str.cuts) ≡ bare_all (pipes_entries new n' (drop n' rs') (drop n' roots) str.cuts) =
      pipes_same n (drop n rs) (drop n rs') (drop_alike R n rs rs' rooted) (drop n roots) str.cuts ∙ ap (λ m. bare_all (pipes_entries new m (drop m rs') (drop m roots) str.cuts)) e in
      record {
        carried = representation w' h d.carried str.cuts;
        stream = record {
          steps = d.carried;
          cuts = str.cuts;
          deferral = d.deferral;
          all_cut = subst (λ m. AllCut (drop m roots) str.cuts) e str.all_cut;
          is_representation = refl;
        };
        entries_same = ap bare_all str.is_representation
            ∙ both_bare (head_entries w g str.steps) (head_entries w' h d.carried) (pipes_entries old n (drop n rs) (drop n roots) str.cuts)
            (pipes_entries new n' (drop n' rs') (drop n' roots) str.cuts) heads pipes;
      }

  pub represents_alike : (order : Order) (octets : List ℕ) → Represents w order octets g → Represents w' order octets h
  represents_alike order octets r =
      let c = stream_alike r.entries r.stream in
      let ms : List Entry = r.entries in
      let ms' : List Entry = c.carried in
      let e : bare_all ms ≡ bare_all ms' = c.entries_same in
      record {
        entries = ms';
        stream = c.stream;
        numbering = r.numbering;
        is_numbering = subst (IsNumbering r.numbering) (sym (cells_bare ms) ∙ ap full_cells e ∙ cells_bare ms') r.is_numbering;
        rendered =
            subst (λ A. A)
            (all_bare order r.numbering octets 0 ms ∙ ap (λ xs. AllByRecursion (IsRendered order r.numbering octets) (end_to_end 0 xs)) e ∙ sym (all_bare order r.numbering octets 0 ms')) r.rendered;
        whole = sym (end_bare 0 ms') ∙ ap (end_of 0) (sym e) ∙ end_bare 0 ms ∙ r.whole;
        within = r.within;
      }
