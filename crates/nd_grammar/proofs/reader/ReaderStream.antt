-- What a whole stream that is read says: its graph is a partial one, its entries are a stream of it, and reading goes over them.
use Rattle.std.proofs.Common.{◌≡◌, ℕ, ◌+◌, ◌^◌, ◌<◌, ◌≤◌, zero, suc, Bool, true, false, List, [], ◌∷◌, ◌++◌, length, Some, refl, ap, ap₂, sym, ◌∙◌, inl, inr, arith, subst, replicate, drop}
use Rattle.std.proofs.Common.{append_assoc, length-append}
use Rattle.std.specs.Prelude.{map, flat_map, filter, cond, not, nat_le}
use Rattle.std.specs.List.{AllByRecursion, slice_get, list_all}
use Rattle.std.proofs.lemmas.List.{append-nil, length-replicate}
use Rattle.std.proofs.lemmas.Bool.{and_from, and_parts, leb-true}
use Rattle.nd_base.specs.declared.octets.Order.{Order}
use Rattle.nd_base.specs.declared.TheConstants.{STREAM_LIMIT}
use Rattle.nd_types.specs.declared.types.Side.TheVariants as side
use Rattle.nd_types.specs.declared.types.Operation.{Operation}
use Rattle.nd_types.specs.declared.TheConstants.{PARAM_LIMIT}
use Rattle.nd_types.specs.Table.{Table}
use Rattle.nd_types.specs.Roots.{Root, roots_of, params_from, result_root}
use Rattle.nd_types.specs.Number.{AreOctets}
use Rattle.nd_value.specs.declared.value.Graph.{Graph}
use Rattle.nd_value.specs.declared.item.Home.{Home}
use Rattle.nd_value.specs.declared.item.Home.TheVariants as home
use Rattle.nd_value.specs.Tree.{Tree, none, more, Referent}
use Rattle.nd_value.specs.Setting.{Setting, Among, root_list, or_unread, unread, cell_home, cell_at, cell_tree}
use Rattle.nd_value.specs.Nodes.{TypedNode, governed_nodes, home_nodes}
use Rattle.nd_value.specs.Deferral.{Pending, due_roots, before_pipes, home_pointers, Step, Deferral, none_due}
use Rattle.nd_value.specs.Agreement.{root_agreements}
use Rattle.nd_value.specs.Conforms.{HomeNode, in_home, root_nodes, cell_nodes, all_nodes, root_pointers, cell_pointers, all_pointers, IsPartial}
use Rattle.nd_value.specs.Misfit.{is_partial_node, has_machine_values}
use Rattle.nd_value.proofs.Apart.{all_append, all_left, all_right, all_weaker}
use Rattle.nd_grammar.specs.LegalSide.{IsLegalSide}
use Rattle.nd_grammar.specs.Entry.{Entry, full_cells}
use Rattle.nd_grammar.specs.Stream.{IsNumbering, Stream, step_entries, root_tests, pipes_entries, AllCut, representation}
use Rattle.nd_grammar.specs.Reader.{Progress, pass_all}
use Rattle.nd_grammar.specs.StreamReader.{Reading, ReadPipes, graph_of, read_due, read_pipes, read_start, read_stream}
use Rattle.nd_grammar.proofs.LegalSides.{laid_out}
use Rattle.nd_grammar.proofs.next.NextStream.{IsPipeRoot, IsLaidOut}
use Rattle.nd_grammar.proofs.reader.EntriesFine.{Fine, full_fine, follows_within}
use Rattle.nd_grammar.proofs.reader.MadeTrees.{CellOf, CellFits, IsPartialNode, made_nodes}
use Rattle.nd_grammar.proofs.reader.ReaderVerdict.{start}
use Rattle.nd_grammar.proofs.reader.ReaderSteps.{Follows, follows_append}
use Rattle.nd_grammar.proofs.reader.ReaderNodes.{Agree}
use Rattle.nd_grammar.proofs.reader.ReaderNames.{no_pointers_ok}
use Rattle.nd_grammar.specs.ReaderState.{cell_in, PointerAt, PointerOk, PointersOk, CellMade, no_names, AllReached, RootsMade, State}
use Rattle.nd_grammar.proofs.reader.ReaderMoves.{all_moves}
use Rattle.nd_grammar.proofs.reader.ReaderCells.{no_roots}
use Rattle.nd_grammar.proofs.reader.ReaderReached.{reached_more}
use Rattle.nd_grammar.proofs.reader.ReaderStates.{Numbered}
use Rattle.nd_grammar.proofs.reader.ReaderTurns.{Settled, More}
use Rattle.nd_grammar.proofs.reader.ReaderRoots.{Done, due_done, stopped_few}
use Rattle.nd_grammar.proofs.reader.ReaderPipes.{PipesRead, pipes_read}
use Rattle.nd_grammar.proofs.reader.ReaderTests.{Top, SameTop, root_tests_are, tests_follow, tests_fine, tests_same}
use Rattle.nd_grammar.proofs.reader.ReaderNumbering.{number_of_cell, numbers_agree, is_numbering}
use Rattle.nd_lemmas.proofs.Lists.{drop_length as drop_all}
use Rattle.nd_value.proofs.FewRoots.{few_params as params_few, few_results as result_few, few_before_pipes}

abbrev one_more : Bool → Root → List Root → List Root
one_more b r rs = elim b [ true ↦ r ∷ rs | false ↦ rs ]

filter_few : (f : Root → Bool) (rs : List Root) → length (filter f rs) ≤ length rs
filter_few f [] = omega arith
filter_few f (r ∷ rs) = go (f r) (filter_few f rs)
  where
    go : (b : Bool) → length (filter f rs) ≤ length rs → length (cond b (r ∷ filter f rs) (filter f rs)) ≤ suc (length rs)
    go true h = omega arith
    go false h = omega arith

of_operation : (test : Operation → Bool) (os : List Operation) → list_all test os ≡ true → (o : Operation) → Among os o → test o ≡ true
of_operation test [] h o a = absurd a
of_operation test (q ∷ os) h o (inl e) = ap test e ∙ (and_parts _ _ h).0
of_operation test (q ∷ os) h o (inr a) = of_operation test os (and_parts _ _ h).1 o a

pub roots_few : (w : Setting) → IsLegalSide w → length (root_list w) ≤ 513
unfolding roots_of
roots_few w side_of =
    let ps : List Root = params_from w.table w.side 0 w.op.params in
    let A : List Root = filter (λ r. not r.is_pipe) ps in
    let B : List Root = result_root w.side w.op.result in
    let C : List Root = filter (λ r. r.is_pipe) ps in
    let a : length A ≤ length ps = filter_few (λ r. not r.is_pipe) ps in
    let b : length B ≤ 1 = result_few w.side w.op.result in
    let c : length C ≤ length ps = filter_few (λ r. r.is_pipe) ps in
    let d : length ps ≤ length w.op.params = params_few w.table w.side 0 w.op.params in
    let e : length w.op.params ≤ 256 =
    leb-true (length w.op.params) PARAM_LIMIT (of_operation (λ o. nat_le (length o.params) PARAM_LIMIT) side_of.operations side_of.legal.few_params w.op side_of.operation) in
    let f : length ((A ++ B) ++ C) ≡ length (A ++ B) + length C = length-append (A ++ B) C in
    let g : length (A ++ B) ≡ length A + length B = length-append A B in
    omega (arith, a, b, c, d, e, f, g)

-- the pointers of roots, in two parts
pub root_parts : (table : Table) (i : ℕ) (rs : List Root) (us vs : List Tree)
    → root_pointers table i rs (us ++ vs) ≡ root_pointers table i rs us ++ root_pointers table (i + length us) (drop (length us) rs) vs
root_parts table i rs [] vs = ap (λ k. root_pointers table k rs vs) (omega arith) ∙ ap (λ u. u ++ root_pointers table (i + 0) rs vs) (sym (no_roots table i rs))
root_parts table i [] (u ∷ us) vs = no_more table (i + suc (length us)) vs
  where
    no_more : (table : Table) (k : ℕ) (vs : List Tree) → [] ≡ root_pointers table k [] vs
    no_more table k vs = refl
root_parts table i (r ∷ rs) (u ∷ us) vs =
    let z : i + 1 + length us ≡ i + suc (length us) = omega arith in
    let H : List Pending = home_pointers table (home.Root i) r.of u in
    ap (λ x. H ++ x) (root_parts table (i + 1) rs us vs) ∙ sym (append_assoc H (root_pointers table (i + 1) rs us) _)
    ∙ ap (λ k. (H ++ root_pointers table (i + 1) rs us) ++ root_pointers table k (drop (length us) rs) vs) z

made_parts : (table : Table) (rs : List Root) (us vs : List Tree) → RootsMade table rs us → RootsMade table (drop (length us) rs) vs → RootsMade table rs (us ++ vs)
made_parts table rs [] vs a b = b
made_parts table [] (u ∷ us) vs a b = absurd a
made_parts table (r ∷ rs) (u ∷ us) vs a b = (a.0, made_parts table rs us vs a.1 b)

-- two lists of roots that differ in their last part alone
pub same_tops : (us vs vs' : List Tree) → length vs ≡ length vs' → AllByRecursion Top vs → AllByRecursion Top vs' → (i : ℕ)
    → SameTop (or_unread (slice_get (us ++ vs) i)) (or_unread (slice_get (us ++ vs') i))
same_tops [] [] [] e a b i = inl refl
same_tops [] [] (v ∷ vs') e a b i = cc
same_tops [] (v ∷ vs) [] e a b i = cc
same_tops [] (v ∷ vs) (v' ∷ vs') e a b zero = inr (a.0, b.0)
same_tops [] (v ∷ vs) (v' ∷ vs') e a b (suc i) = same_tops [] vs vs' (omega arith) a.1 b.1 i
same_tops (u ∷ us) vs vs' e a b zero = inl refl
same_tops (u ∷ us) vs vs' e a b (suc i) = same_tops us vs vs' e a b i

all_unread : (n : ℕ) → AllByRecursion Top (replicate n unread)
all_unread zero = tt
all_unread (suc n) = (inl refl, all_unread n)

-- the nodes of a graph whose trees were made, and whose pointers' cells are there
module _ (w : Setting) (g : Graph) where
  abbrev NodeOk : HomeNode → Type 0
  NodeOk x = IsPartialNode g w.table x.typed

  in_homes : (h : Home) (xs : List TypedNode) → AllByRecursion (IsPartialNode g w.table) xs → AllByRecursion NodeOk (map (in_home h) xs)
  in_homes h [] a = tt
  in_homes h (x ∷ xs) a = (a.0, in_homes h xs a.1)

  roots_ok : (i : ℕ) (rs : List Root) (vs : List Tree) → RootsMade w.table rs vs → AllByRecursion (CellFits g.cells) (root_pointers w.table i rs vs)
      → AllByRecursion NodeOk (root_nodes w g i rs vs)
  roots_ok i [] vs m a = tt
  roots_ok i (r ∷ rs) [] m a = tt
  roots_ok i (r ∷ rs) (v ∷ vs) m a =
      let H : List Pending = home_pointers w.table (home.Root i) r.of v in
      all_append NodeOk (map (in_home (home.Root i)) (governed_nodes w.table r.of (root_agreements w g r.vars) v)) (root_nodes w g (i + 1) rs vs)
      (in_homes (home.Root i) (governed_nodes w.table r.of (root_agreements w g r.vars) v)
      (made_nodes g w.table (home.Root i) (r.of ∷ []) (root_agreements w g r.vars ∷ []) [] 0 (more v none) m.0 (all_left (CellFits g.cells) H (root_pointers w.table (i + 1) rs vs) a)))
      (roots_ok (i + 1) rs vs m.1 (all_right (CellFits g.cells) H (root_pointers w.table (i + 1) rs vs) a))

  cells_ok : (n : ℕ) (xs : List Referent) → AllByRecursion (CellMade w.table) xs → AllByRecursion (CellFits g.cells) (cell_pointers w.table n xs)
      → AllByRecursion NodeOk (cell_nodes w.table n xs)
  cells_ok n [] m a = tt
  cells_ok n (x ∷ xs) m a =
      let H : List Pending = home_pointers w.table (cell_home n) x.of x.val in
      all_append NodeOk (map (in_home (cell_home n)) (home_nodes w.table x.of x.val)) (cell_nodes w.table (n + 1) xs)
      (in_homes (cell_home n) (home_nodes w.table x.of x.val)
      (made_nodes g w.table (cell_home n) (x.of ∷ []) [] [] 0 (more x.val none) m.0 (all_left (CellFits g.cells) H (cell_pointers w.table (n + 1) xs) a)))
      (cells_ok (n + 1) xs m.1 (all_right (CellFits g.cells) H (cell_pointers w.table (n + 1) xs) a))

  local_list : (xs : List HomeNode) → AllByRecursion NodeOk xs → list_all (λ x. is_partial_node w.table g x.typed) xs ≡ true
  local_list [] a = refl
  local_list (x ∷ xs) a = and_from _ _ a.0.local (local_list xs a.1)

  machine_list : (xs : List HomeNode) → AllByRecursion NodeOk xs → list_all (λ x. has_machine_values x.typed.label) xs ≡ true
  machine_list [] a = refl
  machine_list (x ∷ xs) a = and_from _ _ a.0.machine (machine_list xs a.1)

module _ (w : Setting) (side_of : IsLegalSide w) (order : Order) (octets : List ℕ) (all : AreOctets octets) where
  abbrev pub n : ℕ
  n = before_pipes (root_list w)

  abbrev pub rl : List Root
  rl = root_list w

  abbrev pub H : Reading
  H = read_due w order octets (length octets + n + 1) (read_start w order octets)

  start_state : State w side_of order octets all (read_start w order octets) [] [] n
  start_state = record {
    roots_left = omega arith;
    linked = record { all = tt };
    apart = no_pointers_ok no_names no_names;
    pointers = subst (PointersOk no_names no_names) (sym (ap (λ u. u ++ []) (no_roots w.table 0 rl))) (no_pointers_ok no_names no_names);
    usable = tt;
    named = λ c h. absurd h;
    blank = λ c x e f. no_cell c x e;
    numbers = record { each = tt; apart = tt };
    roots_made = tt;
    cells_made = tt;
    within = omega arith;
    few = omega arith;
    reached = λ c a b. absurd (omega arith);
  }
    where
      no_cell : (c : ℕ) (x : Referent) → cell_in [] c ≡ Some x → x.val ≡ unread
      no_cell zero x e = cc
      no_cell (suc i) x e = cc

  pub head : Done w side_of order octets all (due_roots 0 n) (read_start w order octets) H
  head = due_done w side_of order octets all (length octets + n + 1) (read_start w order octets) [] [] n start_state refl (omega arith)

  pub as_many_roots : length H.roots ≡ n
  as_many_roots = omega (arith, head.state.roots_left)

  abbrev pub U : List Tree
  U = replicate (length (drop n rl)) unread

  abbrev pub T : List Entry
  T = root_tests w (graph_of (H.roots ++ U) H.names) 0 rl (H.roots ++ U)

  abbrev pub tested : Progress
  tested = pass_all order octets T H.progress

  abbrev pub Pipes : ReadPipes
  Pipes = read_pipes w order octets n (drop n rl) tested H.names

  pub laid : IsLaidOut w
  laid = laid_out w side_of

  pub piped : PipesRead w side_of order octets all n (drop n rl) tested H.names Pipes
  piped = pipes_read w side_of order octets all n (drop n rl) laid.pipes tested H.names ((all_moves order octets T H.progress).within head.state.within)

  -- the graph that is read
  abbrev pub G : Graph
  G = graph_of (H.roots ++ Pipes.roots) H.names

  pub graph_is : (read_stream w order octets).graph ≡ G
  graph_is = ap (graph_of (H.roots ++ Pipes.roots)) piped.names

  pub few_roots : n ≤ length rl
  few_roots = few_before_pipes rl

  pub settled : Settled G H
  settled = record { later = Pipes.roots; roots = refl; cells = λ c h. same c }
    where
      same : (c : ℕ) → cell_at G c ≡ cell_tree (cell_in H.names.cells c)
      same zero = refl
      same (suc i) = refl

  pub steps_then : More w order octets G (due_roots 0 n) (read_start w order octets) H []
  steps_then = head.goes.adds G settled [] (subst (λ u. Deferral w G H.done u []) (sym head.due_none) none_due)

  abbrev pub steps : List Step
  steps = steps_then.steps_now

  abbrev pub F : List Entry
  F = flat_map (step_entries w G) steps

  abbrev pub xs : List (ℕ × ℕ)
  xs = H.names.numbers

  abbrev pub numbering : ℕ → ℕ
  numbering = number_of_cell H.names.numbers

  pub agree : Agree numbering H.names.numbers
  agree = numbers_agree H.names.numbers head.state.numbers.apart

  pub follows_steps : Follows order octets numbering start F H.progress
  follows_steps = steps_then.follows numbering H.progress agree refl

  fine_steps : AllByRecursion (Fine (Numbered xs)) F
  fine_steps = steps_then.fine xs ([], refl) tt

  pub within_limit : H.progress.at ≤ STREAM_LIMIT
  within_limit = follows_within (Numbered xs) order octets numbering F start H.progress fine_steps (omega arith) follows_steps

  pub few_cells : length H.names.cells < 2 ^ 32
  few_cells = omega (arith, within_limit, head.state.few, stopped_few w side_of order octets all H.progress.stop, as_many_roots, few_roots, roots_few w side_of)

  root_parts_are : root_pointers w.table 0 rl (H.roots ++ Pipes.roots) ≡ root_pointers w.table 0 rl H.roots
  root_parts_are =
      root_parts w.table 0 rl H.roots Pipes.roots
      ∙ ap₂ (λ k m. root_pointers w.table 0 rl H.roots ++ root_pointers w.table k (drop m rl) Pipes.roots) (ap (λ u. 0 + u) as_many_roots ∙ omega arith) as_many_roots
      ∙ ap (λ u. root_pointers w.table 0 rl H.roots ++ u) piped.bare ∙ append-nil (root_pointers w.table 0 rl H.roots)

  -- every cell is reached
  pub all_reached : AllReached w (H.roots ++ Pipes.roots) H.names
  all_reached = reached_more w H.roots Pipes.roots H.names root_parts_are head.state.reached

  -- the pointers of all
  pub all_ok : PointersOk no_names H.names (all_pointers w G)
  all_ok = subst (λ u. PointersOk no_names H.names (u ++ cell_pointers w.table 1 H.names.cells)) (sym root_parts_are) head.state.pointers

  cell_of : (p : Pending) → PointerOk no_names H.names p → CellFits H.names.cells p
  cell_of p ok c e = let a : PointerAt no_names H.names p c = ok c e in by_number c a.there.1 a.within
    where
      by_number : (k : ℕ) → cell_in H.names.cells k ≡ Some (ok c e).there.0 → k ≤ length H.names.cells → CellOf H.names.cells p.to k
      by_number zero f b = cc
      by_number (suc i) f b = record { index = i; is = refl; cell = (ok c e).there.0; there = f; of = (ok c e).there.2; small = omega (arith, few_cells) }

  pub cells_fit : AllByRecursion (CellFits G.cells) (all_pointers w G)
  cells_fit = all_weaker (PointerOk no_names H.names) (CellFits H.names.cells) cell_of (all_pointers w G) all_ok.each

  pub roots_all_made : RootsMade w.table rl (H.roots ++ Pipes.roots)
  roots_all_made = made_parts w.table rl H.roots Pipes.roots head.state.roots_made (subst (λ k. RootsMade w.table (drop k rl) Pipes.roots) (sym as_many_roots) piped.made)

  pub all_roots : length (H.roots ++ Pipes.roots) ≡ length rl
  all_roots = length-append H.roots Pipes.roots ∙ ap₂ (λ u v. u + v) as_many_roots piped.as_many ∙ drop_all n rl few_roots

  pub nodes_ok : AllByRecursion (λ x. IsPartialNode G w.table x.typed) (all_nodes w G)
  nodes_ok =
      let R : List Pending = root_pointers w.table 0 rl (H.roots ++ Pipes.roots) in
      let C : List Pending = cell_pointers w.table 1 H.names.cells in
      all_append (λ x. IsPartialNode G w.table x.typed) (root_nodes w G 0 rl (H.roots ++ Pipes.roots)) (cell_nodes w.table 1 H.names.cells)
      (roots_ok w G 0 rl (H.roots ++ Pipes.roots) roots_all_made (all_left (CellFits G.cells) R C cells_fit))
      (cells_ok w G 1 H.names.cells head.state.cells_made (all_right (CellFits G.cells) R C cells_fit))

  -- The graph that is read is a partial one.
  pub is_partial : IsPartial w G
  is_partial = record {
    all_roots = all_roots;
    machine_values = machine_list w G (all_nodes w G) nodes_ok;
    local = local_list w G (all_nodes w G) nodes_ok;
    unshared = all_ok.apart;
  }

  no_vars : AllByRecursion (λ r. r.vars ≡ []) (drop n rl)
  no_vars = all_weaker (IsPipeRoot w.table) (λ r. r.vars ≡ []) (λ r p. p.no_vars) (drop n rl) laid.pipes

  -- the agreements of the parameters are those of the whole graph
  pub tests_are : T ≡ root_tests w G 0 rl G.roots
  tests_are =
      tests_same w (graph_of (H.roots ++ U) H.names) G same_cells
      (λ i. same_tops H.roots U Pipes.roots (length-replicate (length (drop n rl)) unread ∙ sym piped.as_many) (all_unread (length (drop n rl))) piped.tops i)
      0 rl H.roots U Pipes.roots (subst (λ k. AllByRecursion (λ r. r.vars ≡ []) (drop k rl)) (sym as_many_roots) no_vars)
    where
      same_cells : (c : ℕ) → cell_at (graph_of (H.roots ++ U) H.names) c ≡ cell_at G c
      same_cells zero = refl
      same_cells (suc i) = refl

  pub drop_roots : (us vs : List Tree) (k : ℕ) → length us ≡ k → drop k (us ++ vs) ≡ vs
  drop_roots [] vs zero e = refl
  drop_roots [] vs (suc k) e = cc
  drop_roots (u ∷ us) vs zero e = cc
  drop_roots (u ∷ us) vs (suc k) e = drop_roots us vs k (omega arith)

  -- its entries
  abbrev pub ms : List Entry
  ms = representation w G steps Pipes.cuts

  pub pipes_at : drop n G.roots ≡ Pipes.roots
  pipes_at = drop_roots H.roots Pipes.roots n as_many_roots

  pub entries_are : ms ≡ (F ++ T) ++ pipes_entries w.table n (drop n rl) Pipes.roots Pipes.cuts
  entries_are = ap₂ (λ t v. (F ++ t) ++ pipes_entries w.table n (drop n rl) v Pipes.cuts) (sym tests_are) pipes_at

  -- They are a stream of it.
  pub is_stream : Stream w G ms
  is_stream = record {
    steps = steps;
    cuts = Pipes.cuts;
    deferral = steps_then.deferral;
    all_cut = subst (λ v. AllCut v Pipes.cuts) (sym pipes_at) piped.cut;
    is_representation = refl;
  }

  -- Reading goes over them.
  pub goes_over : Follows order octets numbering start ms Pipes.progress
  goes_over =
      let A : List Entry = pipes_entries w.table n (drop n rl) Pipes.roots Pipes.cuts in
      subst (λ u. Follows order octets numbering start u Pipes.progress) (sym entries_are)
      (follows_append order octets numbering (F ++ T) A start tested Pipes.progress
      (follows_append order octets numbering F T start H.progress tested follows_steps
      (tests_follow order octets numbering T (root_tests_are w (graph_of (H.roots ++ U) H.names) 0 rl (H.roots ++ U)) H.progress))
      (piped.follows numbering agree))

  all_fine : AllByRecursion (Fine (Numbered xs)) ms
  all_fine =
      let A : List Entry = pipes_entries w.table n (drop n rl) Pipes.roots Pipes.cuts in
      subst (AllByRecursion (Fine (Numbered xs))) (sym entries_are)
      (all_append (Fine (Numbered xs)) (F ++ T) A
      (all_append (Fine (Numbered xs)) F T fine_steps (tests_fine (Numbered xs) T (root_tests_are w (graph_of (H.roots ++ U) H.names) 0 rl (H.roots ++ U)))) (piped.fine xs))

  -- The numbers that were read are a numbering of the cells that full pointers name.
  pub numbered : IsNumbering numbering (full_cells ms)
  numbered = is_numbering H.names head.state.numbers (full_cells ms) (full_fine (Numbered xs) ms all_fine)

  -- It ends within the limit, and within the octets.
  pub ends_within : Pipes.progress.at ≤ STREAM_LIMIT
  ends_within = follows_within (Numbered xs) order octets numbering ms start Pipes.progress all_fine (omega arith) goes_over

  pub ends_in_octets : Pipes.progress.at ≤ length octets
  ends_in_octets = piped.moves.within ((all_moves order octets T H.progress).within head.state.within)
