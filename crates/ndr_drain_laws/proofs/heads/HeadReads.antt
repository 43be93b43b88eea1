-- The head that the reader reads: its graph with pipes that have no elements conforms, is its own canonical form, and the octets are its head.
-- `w` is a setting, `octets` are those of the head, which the reader reads to their end.
use Rattle.std.proofs.Common.{◌≡◌, ℕ, ◌+◌, ◌<◌, ◌≤◌, zero, suc, true, List, [], ◌∷◌, ◌++◌, length, Option, Some, None, refl, ap, ap₂, sym, ◌∙◌, inl, inr, arith, subst, replicate, drop, append_assoc}
use Rattle.std.proofs.Common.{length-append}
use Rattle.std.specs.Prelude.{map, flat_map}
use Rattle.std.specs.List.{AllByRecursion, list_all}
use Rattle.std.proofs.lemmas.List.{append-nil, length-replicate}
use Rattle.std.proofs.lemmas.Bool.{and_from}
use Rattle.nd_base.specs.declared.octets.Order.{Order}
use Rattle.nd_base.specs.declared.TheConstants.{STREAM_LIMIT}
use Rattle.nd_types.specs.declared.types.TypeDef.{TypeDef}
use Rattle.nd_types.specs.declared.types.TypeDef.TheVariants as def
use Rattle.nd_types.specs.Table.{Table, type_at}
use Rattle.nd_types.specs.Roots.{Root}
use Rattle.nd_types.specs.Number.{AreOctets}
use Rattle.nd_value.specs.declared.value.Graph.{Graph}
use Rattle.nd_value.specs.declared.item.Home.{Home}
use Rattle.nd_value.specs.declared.item.Home.TheVariants as home
use Rattle.nd_value.specs.Tree.{Tree, none, more, Referent}
use Rattle.nd_value.specs.Canon.{IsCanon}
use Rattle.nd_value.specs.Setting.{Setting, root_list, unread, cell_home, cell_at, cell_tree}
use Rattle.nd_value.specs.Nodes.{TypedNode, governed_nodes, home_nodes}
use Rattle.nd_value.specs.Deferral.{Pending, due_roots, before_pipes, home_pointers, Step, Deferral, none_due}
use Rattle.nd_value.specs.Agreement.{root_agreements}
use Rattle.nd_value.specs.Conforms.{HomeNode, in_home, root_nodes, cell_nodes, all_nodes, root_pointers, cell_pointers, all_pointers, AgreesAt, Conforms, IsPartial, Reached}
use Rattle.nd_value.specs.Misfit.{is_partial_node, has_machine_values, misfit_of}
use Rattle.nd_value.proofs.Apart.{all_append, all_left, all_right, all_weaker}
use Rattle.nd_value.proofs.NodeFacts.{sound_partial}
use Rattle.nd_grammar.specs.LegalSide.{IsLegalSide}
use Rattle.nd_grammar.specs.Entry.{Kind, Entry, EntryAt, Align, Test, end_of, end_to_end, full_cells, size_at}
use Rattle.nd_grammar.specs.declared.reason.Reason.{Reason}
use Rattle.nd_grammar.specs.Refusal.{Accepts}
use Rattle.nd_grammar.specs.Stream.{IsNumbering, IsRendered, Stream, step_entries, root_tests, pipe_entries, pipes_entries, AllCut, representation, head_entries}
use Rattle.nd_grammar.specs.Tested.{IsReadAt}
use Rattle.nd_grammar.specs.Reader.{Progress}
use Rattle.nd_grammar.specs.StreamReader.{Reading, graph_of, read_start, read_stream}
use Rattle.nd_grammar.proofs.LegalSides.{laid_out}
use Rattle.nd_grammar.proofs.next.Mapped.{pipe_pointers}
use Rattle.nd_grammar.proofs.next.NextStream.{IsPipeRoot, IsLaidOut}
use Rattle.nd_grammar.proofs.next.Spelt.{not_spelt}
use Rattle.nd_grammar.proofs.agreements.TestedAt.{test_finds}
use Rattle.nd_grammar.proofs.conforming.Passed.{AllFound, IsFound, Passed, PassedAll, all_passed, least_append, least_end}
use Rattle.nd_grammar.proofs.reader.EntriesFine.{Fine, full_fine, follows_within}
use Rattle.nd_grammar.proofs.reader.MadeTrees.{CellFits, IsPartialNode, made_nodes, one_made}
use Rattle.nd_grammar.specs.MadeTrees.{MadeTree}
use Rattle.nd_grammar.specs.ReaderState.{CellMade, no_names, cell_in, PointersOk, AllReached, RootsMade}
use Rattle.nd_grammar.proofs.reader.ReaderNumbering.{is_numbering}
use Rattle.nd_grammar.proofs.reader.ReaderReached.{reached_more}
use Rattle.nd_grammar.proofs.reader.ReaderRoots.{Done}
use Rattle.nd_grammar.proofs.reader.ReaderStates.{Numbered}
use Rattle.nd_grammar.proofs.reader.ReaderSteps.{Follows, follows_append}
use Rattle.nd_grammar.proofs.reader.ReaderStream as stream
use Rattle.nd_grammar.proofs.reader.ReaderTests.{Top, root_tests_are, tests_follow, tests_fine, tests_same}
use Rattle.nd_grammar.proofs.reader.ReaderTurns.{More, Settled}
use Rattle.nd_grammar.proofs.reader.ReaderVerdict.{AllTaken, all_taken, start}
use Rattle.ndr_decoder_laws.proofs.verdict.ReadThrough.{Gone, gone}
use Rattle.ndr_drain_laws.specs.parts.Parts.{BadHead, HasEmptyPipes, IsHead, empty_pipe, with_pipes}
use Rattle.ndr_drain_laws.proofs.parts.Spelt.{ends_append, full_append}
use Rattle.ndr_drain_laws.specs.heads.Heads.{HeadRead, HeadThrough}
use Rattle.ndr_drain_laws.proofs.heads.Canonical.{canonical_pipes, empty_still, take_first}
use Rattle.nd_grammar.proofs.conforming.StreamConforming as conforming
use Rattle.ndr_drain_laws.proofs.heads.EmptyPipes.{empty_passes}
use Rattle.nd_grammar.proofs.reader.ReaderStream.{same_tops}
use Rattle.nd_lemmas.proofs.Lists.{drop_length as drop_all}

made_parts : (table : Table) (rs : List Root) (us vs : List Tree) → RootsMade table rs us → RootsMade table (drop (length us) rs) vs → RootsMade table rs (us ++ vs)
made_parts table rs [] vs a b = b
made_parts table [] (u ∷ us) vs a b = absurd a
made_parts table (r ∷ rs) (u ∷ us) vs a b = (a.0, made_parts table rs us vs a.1 b)

all_unread : (n : ℕ) → AllByRecursion Top (replicate n unread)
all_unread zero = tt
all_unread (suc n) = (inl refl, all_unread n)

-- the nodes of a graph whose trees were made, and whose pointers' cells are there
module _ (w : Setting) (g : Graph) where
  abbrev NodeOk : HomeNode → Type 0
  NodeOk x = IsPartialNode g w.table x.typed

  in_homes : (h : Home) (xs : List TypedNode) → AllByRecursion (IsPartialNode g w.table) xs → AllByRecursion NodeOk (map (in_home h) xs)
  in_homes h [] a = tt
  in_homes h (x ∷ xs) a = (a.0, in_homes h xs a.1)

  roots_ok : (i : ℕ) (rs : List Root) (vs : List Tree) → RootsMade w.table rs vs → AllByRecursion (CellFits g.cells) (root_pointers w.table i rs vs)
      → AllByRecursion NodeOk (root_nodes w g i rs vs)
  roots_ok i [] vs m a = tt
  roots_ok i (r ∷ rs) [] m a = tt
  roots_ok i (r ∷ rs) (v ∷ vs) m a =
      let H : List Pending = home_pointers w.table (home.Root i) r.of v in
      all_append NodeOk (map (in_home (home.Root i)) (governed_nodes w.table r.of (root_agreements w g r.vars) v)) (root_nodes w g (i + 1) rs vs)
      (in_homes (home.Root i) (governed_nodes w.table r.of (root_agreements w g r.vars) v)
      (made_nodes g w.table (home.Root i) (r.of ∷ []) (root_agreements w g r.vars ∷ []) [] 0 (more v none) m.0 (all_left (CellFits g.cells) H (root_pointers w.table (i + 1) rs vs) a)))
      (roots_ok (i + 1) rs vs m.1 (all_right (CellFits g.cells) H (root_pointers w.table (i + 1) rs vs) a))

  cells_ok : (n : ℕ) (xs : List Referent) → AllByRecursion (CellMade w.table) xs → AllByRecursion (CellFits g.cells) (cell_pointers w.table n xs)
      → AllByRecursion NodeOk (cell_nodes w.table n xs)
  cells_ok n [] m a = tt
  cells_ok n (x ∷ xs) m a =
      let H : List Pending = home_pointers w.table (cell_home n) x.of x.val in
      all_append NodeOk (map (in_home (cell_home n)) (home_nodes w.table x.of x.val)) (cell_nodes w.table (n + 1) xs)
      (in_homes (cell_home n) (home_nodes w.table x.of x.val)
      (made_nodes g w.table (cell_home n) (x.of ∷ []) [] [] 0 (more x.val none) m.0 (all_left (CellFits g.cells) H (cell_pointers w.table (n + 1) xs) a)))
      (cells_ok (n + 1) xs m.1 (all_right (CellFits g.cells) H (cell_pointers w.table (n + 1) xs) a))

  local_list : (xs : List HomeNode) → AllByRecursion NodeOk xs → list_all (λ x. is_partial_node w.table g x.typed) xs ≡ true
  local_list [] a = refl
  local_list (x ∷ xs) a = and_from _ _ a.0.local (local_list xs a.1)

  machine_list : (xs : List HomeNode) → AllByRecursion NodeOk xs → list_all (λ x. has_machine_values x.typed.label) xs ≡ true
  machine_list [] a = refl
  machine_list (x ∷ xs) a = and_from _ _ a.0.machine (machine_list xs a.1)

-- pipes without elements
all_empty : (n : ℕ) → AllByRecursion Top (replicate n empty_pipe)
all_empty zero = tt
all_empty (suc n) = (inr (none, refl), all_empty n)

are_empty : (n : ℕ) → AllByRecursion (λ v. v ≡ empty_pipe) (replicate n empty_pipe)
are_empty zero = tt
are_empty (suc n) = (refl, are_empty n)

-- pipes have no full pointers
no_number : (table : Table) (h : Home) (d : Option TypeDef) → full_cells (pipe_entries table h d [] empty_pipe) ≡ []
no_number table h (Some (def.Prim p)) = refl
no_number table h (Some (def.Enum values)) = refl
no_number table h (Some (def.Struct members)) = refl
no_number table h (Some (def.Array elem bound varying)) = refl
no_number table h (Some (def.Text elem bound)) = refl
no_number table h (Some (def.Union tag enc arms default)) = refl
no_number table h (Some (def.Pointer class to)) = refl
no_number table h (Some def.Context) = refl
no_number table h (Some (def.Pipe elem)) = refl
no_number table h None = refl

no_numbers : (table : Table) (i : ℕ) (rs : List Root) (k m : ℕ) → full_cells (pipes_entries table i rs (replicate k empty_pipe) (replicate m [])) ≡ []
no_numbers table i [] k m = refl
no_numbers table i (r ∷ rs) zero m = refl
no_numbers table i (r ∷ rs) (suc k) zero = refl
no_numbers table i (r ∷ rs) (suc k) (suc m) =
    let first : List Entry = pipe_entries table (home.Root i) (type_at table r.of) [] empty_pipe in
    let others : List Entry = pipes_entries table (i + 1) rs (replicate k empty_pipe) (replicate m []) in
    full_append first others ∙ ap₂ (λ u v. u ++ v) (no_number table (home.Root i) (type_at table r.of)) (no_numbers table (i + 1) rs k m)

pub as_many_ends : (at : ℕ) (ms : List Entry) → length (end_to_end at ms) ≡ length ms
as_many_ends at [] = refl
as_many_ends at (m ∷ ms) = ap suc (as_many_ends (at + size_at at m.kind) ms)

accepts_first : (order : Order) (octets : List ℕ) (seen xs ys : List EntryAt) → Accepts order octets seen (xs ++ ys) → Accepts order octets seen xs
accepts_first order octets seen [] ys a = tt
accepts_first order octets seen (x ∷ xs) ys a = (a.0, accepts_first order octets (seen ++ x ∷ []) xs ys a.1)

all_cut : (n : ℕ) → AllCut (replicate n empty_pipe) (replicate n [])
all_cut zero = tt
all_cut (suc n) = ((refl, tt), all_cut n)

module _ (w : Setting) (side : IsLegalSide w) where
  made_empty : (rs : List Root) → AllByRecursion (IsPipeRoot w.table) rs → RootsMade w.table rs (replicate (length rs) empty_pipe)
  made_empty [] a = tt
  made_empty (r ∷ rs) a = (
    one_made w.table r.of empty_pipe (subst (λ d. MadeTree w.table d empty_pipe) (sym a.0.type_is) (inr (record { shape = refl; range = refl; no_null = refl; counts = refl; machine = refl }), tt)),
    made_empty rs a.1,
  )

  bare_empty : (i : ℕ) (rs : List Root) → AllByRecursion (IsPipeRoot w.table) rs → root_pointers w.table i rs (replicate (length rs) empty_pipe) ≡ []
  bare_empty i [] a = refl
  bare_empty i (r ∷ rs) a =
      ap₂ (λ u k. u ++ k) (pipe_pointers w.table (home.Root i) r.of a.0.elem empty_pipe a.0.type_is ((laid_out w side).elements r.of a.0.elem a.0.type_is)) (bare_empty (i + 1) rs a.1)

-- entries that are spelt are read
read_of : (order : Order) (octets : List ℕ) (nums : ℕ → ℕ) (at : ℕ) (ms : List Entry) → AllByRecursion (IsRendered order nums octets) (end_to_end at ms) → AllByRecursion IsReadAt (end_to_end at ms)
read_of order octets nums at [] r = tt
read_of order octets nums at (m ∷ ms) r = ((λ u. not_spelt order nums octets at m u r.0), read_of order octets nums (at + size_at at m.kind) ms r.1)

module _ (w : Setting) (side : IsLegalSide w) (order : Order) (octets : List ℕ) (all : AreOctets octets) where
  abbrev H : Reading
  H = stream.H w side order octets all

  abbrev n : ℕ
  n = before_pipes (root_list w)

  abbrev rl : List Root
  rl = root_list w

  abbrev E : List Tree
  E = replicate (length (drop (before_pipes (root_list w)) (root_list w))) empty_pipe

  abbrev U : List Tree
  U = replicate (length (drop (before_pipes (root_list w)) (root_list w))) unread

  abbrev K : Graph
  K = graph_of (H.roots ++ E) H.names

  abbrev numbering : ℕ → ℕ
  numbering = stream.numbering w side order octets all

  abbrev xs : List (ℕ × ℕ)
  xs = H.names.numbers

  laid : IsLaidOut w
  laid = stream.laid w side order octets all

  abbrev done : Done w side order octets all (due_roots 0 n) (read_start w order octets) H
  done = stream.head w side order octets all

  as_many : length H.roots ≡ n
  as_many = stream.as_many_roots w side order octets all

  settled : Settled K H
  settled = record { later = E; roots = refl; cells = λ c h. same c }
    where
      same : (c : ℕ) → cell_at K c ≡ cell_tree (cell_in H.names.cells c)
      same zero = refl
      same (suc i) = refl

  steps_then : More w order octets K (due_roots 0 n) (read_start w order octets) H []
  steps_then = done.goes.adds K settled [] (subst (λ u. Deferral w K H.done u []) (sym done.due_none) none_due)

  abbrev steps : List Step
  steps = steps_then.steps_now

  abbrev F : List Entry
  F = flat_map (step_entries w K) steps

  abbrev T : List Entry
  T = stream.T w side order octets all

  abbrev ms : List Entry
  ms = head_entries w K steps

  follows_steps : Follows order octets numbering start F H.progress
  follows_steps = steps_then.follows numbering H.progress (stream.agree w side order octets all) refl

  fine_steps : AllByRecursion (Fine (Numbered xs)) F
  fine_steps = steps_then.fine xs ([], refl) tt

  no_vars : AllByRecursion (λ r. r.vars ≡ []) (drop n rl)
  no_vars = all_weaker (IsPipeRoot w.table) (λ r. r.vars ≡ []) (λ r p. p.no_vars) (drop n rl) laid.pipes

  same_cells : (c : ℕ) → cell_at (graph_of (H.roots ++ U) H.names) c ≡ cell_at K c
  same_cells zero = refl
  same_cells (suc i) = refl

  tests_are : T ≡ root_tests w K 0 rl K.roots
  tests_are =
      tests_same w (graph_of (H.roots ++ U) H.names) K same_cells
      (λ i. same_tops H.roots U E (length-replicate (length (drop n rl)) unread ∙ sym (length-replicate (length (drop n rl)) empty_pipe)) (all_unread (length (drop n rl)))
      (all_empty (length (drop n rl))) i)
      0 rl H.roots U E (subst (λ k. AllByRecursion (λ r. r.vars ≡ []) (drop k rl)) (sym as_many) no_vars)

  ms_are : ms ≡ F ++ T
  ms_are = ap (λ t. F ++ t) (sym tests_are)

  abbrev tested : Progress
  tested = stream.tested w side order octets all

  goes_over : Follows order octets numbering start ms tested
  goes_over =
      subst (λ u. Follows order octets numbering start u tested) (sym ms_are)
      (follows_append order octets numbering F T start H.progress tested follows_steps
      (tests_follow order octets numbering T (root_tests_are w (graph_of (H.roots ++ U) H.names) 0 rl (H.roots ++ U)) H.progress))

  all_fine : AllByRecursion (Fine (Numbered xs)) ms
  all_fine =
      subst (AllByRecursion (Fine (Numbered xs))) (sym ms_are)
      (all_append (Fine (Numbered xs)) F T fine_steps (tests_fine (Numbered xs) T (root_tests_are w (graph_of (H.roots ++ U) H.names) 0 rl (H.roots ++ U))))

  numbered : IsNumbering numbering (full_cells ms)
  numbered = is_numbering H.names done.state.numbers (full_cells ms) (full_fine (Numbered xs) ms all_fine)

  within_limit : tested.at ≤ STREAM_LIMIT
  within_limit = follows_within (Numbered xs) order octets numbering ms start tested all_fine (omega arith) goes_over

  -- ## The graph is a partial one

  pointers_are : root_pointers w.table 0 rl (H.roots ++ E) ≡ root_pointers w.table 0 rl H.roots
  pointers_are =
      stream.root_parts w.table 0 rl H.roots E
      ∙ ap₂ (λ k m. root_pointers w.table 0 rl H.roots ++ root_pointers w.table k (drop m rl) E) (ap (λ u. 0 + u) as_many ∙ omega arith) as_many
      ∙ ap (λ u. root_pointers w.table 0 rl H.roots ++ u) (bare_empty w side n (drop n rl) laid.pipes) ∙ append-nil (root_pointers w.table 0 rl H.roots)

  pipes_bare : root_pointers w.table 0 rl (stream.G w side order octets all).roots ≡ root_pointers w.table 0 rl H.roots
  pipes_bare =
      let P : List Tree = (stream.Pipes w side order octets all).roots in
      stream.root_parts w.table 0 rl H.roots P
      ∙ ap₂ (λ k m. root_pointers w.table 0 rl H.roots ++ root_pointers w.table k (drop m rl) P) (ap (λ u. 0 + u) as_many ∙ omega arith) as_many
      ∙ ap (λ u. root_pointers w.table 0 rl H.roots ++ u) (stream.piped w side order octets all).bare ∙ append-nil (root_pointers w.table 0 rl H.roots)

  same_pointers : all_pointers w (stream.G w side order octets all) ≡ all_pointers w K
  same_pointers = ap (λ u. u ++ cell_pointers w.table 1 H.names.cells) (pipes_bare ∙ sym pointers_are)

  all_ok : PointersOk no_names H.names (all_pointers w K)
  all_ok = subst (PointersOk no_names H.names) same_pointers (stream.all_ok w side order octets all)

  cells_fit : AllByRecursion (CellFits K.cells) (all_pointers w K)
  cells_fit = subst (AllByRecursion (CellFits H.names.cells)) same_pointers (stream.cells_fit w side order octets all)

  all_made : RootsMade w.table rl (H.roots ++ E)
  all_made = made_parts w.table rl H.roots E done.state.roots_made (subst (λ k. RootsMade w.table (drop k rl) E) (sym as_many) (made_empty w side (drop n rl) laid.pipes))

  all_roots : length (H.roots ++ E) ≡ length rl
  all_roots =
      length-append H.roots E ∙ ap₂ (λ u v. u + v) as_many (length-replicate (length (drop n rl)) empty_pipe) ∙ drop_all n rl (stream.few_roots w side order octets all)

  nodes_ok : AllByRecursion (λ x. IsPartialNode K w.table x.typed) (all_nodes w K)
  nodes_ok =
      let R : List Pending = root_pointers w.table 0 rl (H.roots ++ E) in
      let C : List Pending = cell_pointers w.table 1 H.names.cells in
      all_append (λ x. IsPartialNode K w.table x.typed) (root_nodes w K 0 rl (H.roots ++ E)) (cell_nodes w.table 1 H.names.cells)
      (roots_ok w K 0 rl (H.roots ++ E) all_made (all_left (CellFits K.cells) R C cells_fit))
      (cells_ok w K 1 H.names.cells done.state.cells_made (all_right (CellFits K.cells) R C cells_fit))

  is_partial : IsPartial w K
  is_partial = record {
    all_roots = all_roots;
    machine_values = machine_list w K (all_nodes w K) nodes_ok;
    local = local_list w K (all_nodes w K) nodes_ok;
    unshared = all_ok.apart;
  }

  reached_all : AllReached w (H.roots ++ E) H.names
  reached_all = reached_more w H.roots E H.names pointers_are done.state.reached

  pipes_at : drop n K.roots ≡ E
  pipes_at = stream.drop_roots w side order octets all H.roots E n as_many

  -- ## Its head, where the agreements of the parameters hold and the octets end

  abbrev cuts : List (List ℕ)
  cuts = replicate (length (drop (before_pipes (root_list w)) (root_list w))) []

  abbrev whole : List Entry
  whole = representation w K steps cuts

  abbrev is_stream : Stream w K whole
  is_stream = record {
    steps = steps;
    cuts = cuts;
    deferral = steps_then.deferral;
    all_cut = subst (λ v. AllCut v cuts) (sym pipes_at) (all_cut (length (drop n rl)));
    is_representation = refl;
  }

  -- ## Its entries that the reader passes

  abbrev pipes_after : List Entry
  pipes_after = pipes_entries w.table (before_pipes (root_list w)) (drop (before_pipes (root_list w)) (root_list w)) (drop (before_pipes (root_list w)) K.roots) cuts

  bare : full_cells pipes_after ≡ []
  bare =
      ap (λ vs. full_cells (pipes_entries w.table n (drop n rl) vs cuts)) pipes_at
      ∙ no_numbers w.table n (drop n rl) (length (drop n rl)) (length (drop n rl))

  numbered_all : IsNumbering numbering (full_cells whole)
  numbered_all =
      subst (IsNumbering numbering) (sym (full_append ms pipes_after ∙ ap (λ u. full_cells ms ++ u) bare ∙ append-nil (full_cells ms))) numbered

  went : Gone order octets numbering start ms tested
  went = gone order octets numbering ms start tested refl goes_over

  pub through_head : (earlier later : List EntryAt) → tested.seen ≡ earlier ++ later → HeadThrough w order octets earlier
  through_head earlier later e =
      let same : went.earlier ≡ earlier ++ later = sym went.seen ∙ e in
      let split : end_to_end 0 ms ≡ earlier ++ (later ++ went.later) = went.split ∙ ap (λ u. u ++ went.later) same ∙ append_assoc earlier later went.later in
      let after : List EntryAt = end_to_end (end_of 0 ms) pipes_after in
      let as_many : length (end_to_end 0 ms) ≡ length ms = as_many_ends 0 ms in
      let parts : length (end_to_end 0 ms) ≡ length earlier + length (later ++ went.later) = ap length split ∙ length-append earlier (later ++ went.later) in
      record {
        through = record {
          partial = K;
          is_partial = is_partial;
          entries = whole;
          stream = is_stream;
          later = (later ++ went.later) ++ after;
          split = ends_append 0 ms pipes_after ∙ ap (λ u. u ++ after) split ∙ append_assoc earlier (later ++ went.later) after;
          numbering = numbering;
          is_numbering = numbered_all;
          rendered = all_left (IsRendered order numbering octets) earlier later (subst (AllByRecursion (IsRendered order numbering octets)) same went.rendered);
          accepted = accepts_first order octets [] earlier later (subst (Accepts order octets []) same went.accepted);
        };
        in_head = omega (arith, as_many, parts);
      }

  -- one that it refuses
  pub bad_head : (place : ℕ) (why : Reason) → tested.stop ≡ Some (place, why) → (b : BadHead w order octets place why) × (b.bad.earlier ≡ tested.seen)
  bad_head place why stop =
      let (there, rest, is, at, refused) = went.stopped (place, why) stop in
      let split : end_to_end 0 ms ≡ went.earlier ++ there ∷ rest = went.split ∙ ap (λ u. went.earlier ++ u) is in
      let after : List EntryAt = end_to_end (end_of 0 ms) pipes_after in
      let as_many : length (end_to_end 0 ms) ≡ length ms = as_many_ends 0 ms in
      let parts : length (end_to_end 0 ms) ≡ length went.earlier + length (there ∷ rest) = ap length split ∙ length-append went.earlier (there ∷ rest) in (
        record {
          bad = record {
            partial = K;
            is_partial = is_partial;
            entries = whole;
            stream = is_stream;
            earlier = went.earlier;
            here = there;
            later = rest ++ after;
            split = ends_append 0 ms pipes_after ∙ ap (λ u. u ++ after) split ∙ append_assoc went.earlier (there ∷ rest) after;
            numbering = numbering;
            is_numbering = numbered_all;
            rendered = went.rendered;
            accepted = went.accepted;
            refused = refused;
          };
          in_head = omega (arith, as_many, parts);
        },
        sym went.seen,
      )

  module _ (not_stopped : tested.stop ≡ None) (to_end : tested.at ≡ length octets)
      (own_canon : IsCanon w (read_stream w order octets).graph (read_stream w order octets).graph) where
    taken_all : AllTaken order octets numbering start ms tested
    taken_all = all_taken order octets numbering ms start tested refl not_stopped goes_over

    abbrev is_head : IsHead w order octets K
    is_head = record {
      steps = steps;
      deferral = steps_then.deferral;
      numbering = numbering;
      is_numbering = numbered;
      rendered = taken_all.rendered;
      whole = sym taken_all.at ∙ to_end;
      within = subst (λ k. k ≤ STREAM_LIMIT) to_end within_limit;
    }

    -- each agreement finds what it speaks of
    found_at : (seen : List EntryAt) (here : EntryAt) (later : List EntryAt) → end_to_end 0 whole ≡ seen ++ here ∷ later → AllByRecursion IsReadAt seen
        → (k : Kind) → here.entry.kind ≡ k → IsFound seen here.entry k
    found_at seen here later e r (Test a wanted found) is =
        let f = test_finds w side K (sound_partial w K is_partial) whole is_stream seen here later e r a wanted found is in
        (f.0.at, f.3)
    found_at seen here later e r (Align m) is = tt
    found_at seen here later e r _ is = tt

    found_all : (seen : List EntryAt) (at : ℕ) (es : List Entry) (rest : List EntryAt) → end_to_end 0 whole ≡ seen ++ (end_to_end at es ++ rest) → AllByRecursion IsReadAt seen
        → AllByRecursion IsReadAt (end_to_end at es) → AllFound seen at es
    found_all seen at [] rest e r q = tt
    found_all seen at (m ∷ es) rest e r q =
        let here : EntryAt = record { at = at; entry = m } in
        let others : List EntryAt = end_to_end (at + size_at at m.kind) es ++ rest in (
          found_at seen here others e r m.kind refl,
          found_all (seen ++ here ∷ []) (at + size_at at m.kind) es rest (e ∙ sym (append_assoc seen (here ∷ []) others)) (all_append IsReadAt seen (here ∷ []) r (q.0, tt)) q.1,
        )

    abbrev Q : List Entry
    Q = pipes_entries w.table (before_pipes (root_list w)) (drop (before_pipes (root_list w)) (root_list w)) (drop (before_pipes (root_list w)) K.roots) cuts

    found : AllFound [] 0 ms
    found = found_all [] 0 ms (end_to_end (end_of 0 ms) Q) (ends_append 0 ms Q) tt (read_of order octets numbering 0 ms taken_all.rendered)

    ms_passed : AllByRecursion Passed ms
    ms_passed = all_passed order octets numbering [] 0 ms found taken_all.rendered taken_all.accepted

    abbrev T' : List Entry
    T' = root_tests w K 0 (root_list w) K.roots

    light : PassedAll F
    light = record {
      passed = all_left Passed F T' ms_passed;
      light = let at = taken_all.at in omega (arith, least_append F T', least_end 0 ms, at, within_limit);
    }

    reached : (c : ℕ) → 0 < c → c < length K.cells + 1 → Reached w K c
    reached c a b = reached_all c a (omega arith)

    empty : HasEmptyPipes w K
    empty = subst (AllByRecursion (λ v. v ≡ empty_pipe)) (sym pipes_at) (are_empty (length (drop n rl)))

    abbrev Node : HomeNode → Type 0
    Node x = conforming.NodeGood w K x.typed

    nodes : AllByRecursion Node (all_nodes w K)
    nodes = conforming.all_good w side K cells_fit all_made all_roots done.state.cells_made reached steps steps_then.deferral light (all_right Passed F T' ms_passed) (empty_passes w side K empty)

    conforms : Conforms w K
    conforms = record {
      all_roots = all_roots;
      machine_values = is_partial.machine_values;
      local = all_weaker Node (λ x. misfit_of w.table K x.typed ≡ None) (λ x k. k.fit) (all_nodes w K) nodes;
      unshared = is_partial.unshared;
      reached = reached;
      agreed = all_weaker Node (λ x. AgreesAt K x.typed) (λ x k. k.agrees) (all_nodes w K) nodes;
      few_cells = stream.few_cells w side order octets all;
      few_nodes =
          conforming.few_nodes w side K cells_fit all_made all_roots done.state.cells_made reached steps steps_then.deferral light (all_right Passed F T' ms_passed) (empty_passes w side K empty);
    }

    canonical : IsCanon w K K
    canonical =
        let P : List Tree = (stream.Pipes w side order octets all).roots in
        let g : Graph = stream.G w side order octets all in
        let c : IsCanon w g g = subst (λ u. IsCanon w u u) (stream.graph_is w side order octets all) own_canon in
        let e : with_pipes w g E ≡ K = ap (λ (us : List Tree). graph_of (us ++ E) H.names) (take_first H.roots P n as_many) in
        subst (λ u. IsCanon w u u) e
        (canonical_pipes w g E (empty_still (length (drop n rl)))
        (let h = stream.few_roots w side order octets all in let m = as_many in let l : length (H.roots ++ P) ≡ length H.roots + length P = length-append H.roots P in omega (arith, l, m)) c)

    pub head_is : HeadRead w order octets K tested.seen
    head_is = record { is_head = is_head; empty = empty; conforms = conforms; canonical = canonical; entries = sym taken_all.seen }
