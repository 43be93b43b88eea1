-- The beginning of a walk.
-- `k` are the octets with the partial graph in which they are refused, `u` is a walk, `ms` are the entries of a stream, `c` is a cell.
use Rattle.std.proofs.Common.{◌≡◌, ◌⊎◌, inl, inr, ◌∙◌, ℕ, zero, suc, ◌+◌, ◌<◌, ◌≤◌, ◌^◌, List, [], ◌∷◌, ◌++◌, drop, length, Option, Some, None, refl, sym, ap, ap₂, subst, arith, append-nil}
use Rattle.std.proofs.Common.{append_assoc, flat_map, map, ◌-◌, reverse, true}
use Rattle.std.specs.List.{AllByRecursion, slice_get}
use Rattle.std.proofs.lemmas.Option.{slice_get_within}
use Rattle.nd_types.specs.declared.types.Class.{Class}
use Rattle.nd_types.specs.declared.types.Class.TheVariants.{Full}
use Rattle.nd_types.specs.declared.types.TypeDef.TheVariants as def
use Rattle.nd_types.specs.declared.types.TypeId.{TypeId}
use Rattle.nd_types.specs.Roots.{Root}
use Rattle.nd_types.specs.Table.{type_at}
use Rattle.nd_value.specs.declared.item.Home.TheVariants as home
use Rattle.nd_value.specs.declared.value.Graph.{Graph}
use Rattle.nd_value.specs.Agreement.{Agreement, root_agreements}
use Rattle.nd_value.specs.Canon.{named_cells}
use Rattle.nd_value.specs.Deferral.{Deferral, Placed_cells, before_pipes, due_roots}
use Rattle.nd_value.specs.Conforms.{all_pointers}
use Rattle.nd_value.specs.Setting.{Among, cell_at, cell_home, cell_of_number, root_list}
use Rattle.nd_value.specs.Tree as tree
use Rattle.nd_value.specs.Tree.{Referent, Tree, node}
use Rattle.nd_value.proofs.Apart.{among_left}
use Rattle.nd_value.proofs.NodeFacts.{IsSound, sound_partial}
use Rattle.nd_value.proofs.FewRoots.{few_before_pipes}
use Rattle.nd_grammar.specs.Entry.{Entry, full_cell, full_cells}
use Rattle.nd_grammar.specs.Stream.{IsNumbering, Stream, pipes_entries, root_test, root_tests, step_entries}
use Rattle.nd_grammar.proofs.NamedOrder.{named_in_order}
use Rattle.nd_grammar.proofs.next.StreamPointers.{is_good}
use Rattle.ndr_decoder_laws.specs.verdict.InOrder.{HasOwnNumbers}
use Rattle.ndr_trace_value.specs.Counting.{Counts, IsIn}
use Rattle.ndr_trace_value.specs.Untested.{untested}
use Rattle.ndr_trace_value.proofs.Numbers.{named_in_turn}
use Rattle.ndr_trace_value.proofs.Untested.{untested_append}
use Rattle.ndr_trace_value.specs.declared.cells.Cells.{Cells}
use Rattle.ndr_trace_value.specs.declared.nodes.Walker.{Walker}
use Rattle.ndr_trace.specs.Homes.{IsPart, step_names}
use Rattle.ndr_trace_value.specs.Naming.{HasNumbers, InTurn, IsNaming, IsNumbered, Stand, names_in, stands_at}
use Rattle.ndr_trace.specs.Sides.{IsAtRoot, pipes_due}
use Rattle.ndr_trace_value.specs.Tracing.{IsTracing, Known}
use Rattle.ndr_trace.proofs.CellsInTurn.{Mine, later_roots, roots_mine, steps_cells, turns}
use Rattle.ndr_trace.proofs.Deferring.{no_tests}
use Rattle.ndr_trace.proofs.PartialHomes.{known_direct}
use Rattle.ndr_trace.proofs.PipeNames.{no_pipe_names}
use Rattle.ndr_trace.proofs.SmallCells.{small, steps_full, steps_have}

cell_within : (g : Graph) (c t : ℕ) → (x : Referent) × (cell_of_number g c ≡ Some x) × (x.of ≡ t) → IsIn (length g.cells) c
cell_within g zero t (x, e, f) = cc
cell_within g (suc i) t (x, e, f) = let l = slice_get_within g.cells i x e in (omega arith, omega (arith, l))

all_of : (names : Placed_cells) (m : ℕ) → AllByRecursion (λ (d : Class × ℕ). IsIn m d.1) names → AllByRecursion (IsIn m) (map (λ (d : Class × ℕ). d.1) names)
all_of [] m a = tt
all_of (d ∷ names) m a = (a.0, all_of names m a.1)

both_of : (P Q : Class × ℕ → Type 0) (names : Placed_cells) → AllByRecursion P names → AllByRecursion Q names → AllByRecursion (λ d. P d × Q d) names
both_of P Q [] a b = tt
both_of P Q (d ∷ names) a b = ((a.0, b.0), both_of P Q names a.1 b.1)

each_of : (P : Class × ℕ → Type 0) (names : Placed_cells) → ((d : Class × ℕ) → Among names d → P d) → AllByRecursion P names
each_of P [] f = tt
each_of P (d ∷ names) f = (f d (inl refl), each_of P names (λ e a. f e (inr a)))

full_append : (xs ys : List Entry) → full_cells (xs ++ ys) ≡ full_cells xs ++ full_cells ys
full_append [] ys = refl
full_append (m ∷ xs) ys = ap (λ cs. full_cell m.kind ++ cs) (full_append xs ys) ∙ sym (append_assoc (full_cell m.kind) (full_cells xs) (full_cells ys))

module _ (k : Known) (s : IsPart k) (ms : List Entry) (a : Stream k.setting k.graph ms) where
  abbrev sound : IsSound k.setting k.graph
  sound = sound_partial k.setting k.graph s.partial

  mine : AllByRecursion (Mine k.setting k.graph (sound_partial k.setting k.graph s.partial)) (due_roots 0 (before_pipes (root_list k.setting)))
  mine =
      let few = few_before_pipes (root_list k.setting) in
      roots_mine k.setting k.graph (sound_partial k.setting k.graph s.partial) 0 (before_pipes (root_list k.setting)) (omega (arith, few))

  -- cells are named in the order of their numbers
  counted : HasOwnNumbers k.graph ms → Counts 0 (map (λ (d : Class × ℕ). d.1) (flat_map (step_names k.setting k.graph) a.steps)) (length k.graph.cells)
  counted own =
      let each =
      steps_have k.setting k.graph sound (known_direct k s) (λ (d : Class × ℕ). IsIn (length k.graph.cells) d.1)
      (λ p b c e. cell_within k.graph c p.to ((is_good k.setting k.graph sound p b).typed c e)) a.deferral mine in
      let same = steps_cells k.setting k.graph a.steps in
      subst (λ cs. Counts 0 cs (length k.graph.cells)) (sym same)
      (named_in_turn (named_cells k.setting k.graph a.steps) (length k.graph.cells)
      (subst (AllByRecursion (IsIn (length k.graph.cells))) same (all_of (flat_map (step_names k.setting k.graph) a.steps) (length k.graph.cells) each))
      (λ c l h. named_in_order k.setting s.legal k.graph sound ms a c ∙ own c l h))

  in_turn : HasOwnNumbers k.graph ms → InTurn 0 [] (flat_map (step_names k.setting k.graph) a.steps)
  in_turn own =
      turns k.setting k.graph sound (length k.graph.cells) (known_direct k s) a.deferral [] 0 [] []
      (later_roots 0 (before_pipes (root_list k.setting)) [] (λ j b. absurd b)) mine
      (record { mine = λ q b. absurd b; homes = λ q b. absurd b })
      (record { each = λ c l h. absurd (omega (arith, l, h)); fulls = λ q c b e f. absurd b })
      (counted own)

  numbered : full_cells ms ≡ k.full → AllByRecursion (IsNumbered k.full) (flat_map (step_names k.setting k.graph) a.steps)
  numbered same =
      both_of (λ (d : Class × ℕ). d.1 < 2 ^ 32) (λ (d : Class × ℕ). d.0 ≡ Full → Among k.full d.1) (flat_map (step_names k.setting k.graph) a.steps)
      (steps_have k.setting k.graph sound (known_direct k s) (λ (d : Class × ℕ). d.1 < 2 ^ 32) (λ p b c e. small k.setting k.graph sound p b c e) a.deferral mine)
      (each_of (λ (d : Class × ℕ). d.0 ≡ Full → Among k.full d.1) (flat_map (step_names k.setting k.graph) a.steps) (λ d b f. among_full d b f))
    where
      among_full : (d : Class × ℕ) → Among (flat_map (step_names k.setting k.graph) a.steps) d → d.0 ≡ Full → Among k.full d.1
      among_full d b f =
          let steps = flat_map (step_entries k.setting k.graph) a.steps in
          let tested = root_tests k.setting k.graph 0 (root_list k.setting) k.graph.roots in
          let n = before_pipes (root_list k.setting) in
          let pipes = pipes_entries k.setting.table n (drop n (root_list k.setting)) (drop n k.graph.roots) a.cuts in
          subst (λ cs. Among cs d.1) (sym (ap full_cells a.is_representation ∙ full_append (steps ++ tested) pipes ∙ ap (λ cs. cs ++ full_cells pipes) (full_append steps tested)) ∙ same)
          (among_left (full_cells steps ++ full_cells tested) (full_cells pipes) d.1 (among_left (full_cells steps) (full_cells tested) d.1 (steps_full k.setting k.graph a.steps d b f)))

  -- no cell is named at the beginning
  pub none_named : HasOwnNumbers k.graph ms → full_cells ms ≡ k.full → IsNumbering k.numbering k.full → (u : Cells) → u.count ≡ 0 → u.numbers ≡ [] → (rest : Placed_cells) → rest ≡ []
      → IsNaming k u (flat_map (step_names k.setting k.graph) a.steps ++ rest)
  none_named own same numbering u none known rest empty =
      subst (λ ns. IsNaming k u ns) (sym (ap (λ r. flat_map (step_names k.setting k.graph) a.steps ++ r) empty ∙ append-nil (flat_map (step_names k.setting k.graph) a.steps)))
      (record {
        is_numbering = numbering;
        full = [];
        low = tt;
        have_numbers = tt;
        numbers = subst (HasNumbers k []) (sym known)
            (record {
              listed = λ c b. absurd b;
              among = λ v r e. cc;
              number = λ v r e. cc;
              typed = λ v r e. cc;
            });
        turn = subst (λ n. InTurn n [] (flat_map (step_names k.setting k.graph) a.steps)) (sym none) (in_turn own);
        named = numbered same;
      })

  -- ## What is due at the beginning

  no_root_tests : (i : ℕ) (rs : List Root) (vs : List Tree) → untested (root_tests k.setting k.graph i rs vs) ≡ []
  no_root_tests i [] vs = refl
  no_root_tests i (r ∷ rs) [] = refl
  no_root_tests i (r ∷ rs) (v ∷ vs) =
      untested_append (root_test k.graph i v (root_agreements k.setting k.graph r.vars)) (root_tests k.setting k.graph (i + 1) rs vs)
      ∙ ap₂ (λ xs ys. xs ++ ys) (no_root_test i v (root_agreements k.setting k.graph r.vars)) (no_root_tests (i + 1) rs vs)
    where
      no_root_test : (i : ℕ) (v : Tree) (ags : List Agreement) → untested (root_test k.graph i v ags) ≡ []
      no_root_test i (node (tree.Ptr None) ks) ags = refl
      no_root_test i (node (tree.Ptr (Some c)) ks) ags = no_tests (cell_home c) 0 (cell_at k.graph c) ags
      no_root_test i (node (tree.Num z) ks) ags = no_tests (home.Root i) 0 (node (tree.Num z) ks) ags
      no_root_test i (node tree.Rec ks) ags = no_tests (home.Root i) 0 (node tree.Rec ks) ags
      no_root_test i (node (tree.Arr m o) ks) ags = no_tests (home.Root i) 0 (node (tree.Arr m o) ks) ags
      no_root_test i (node (tree.Text m os) ks) ags = no_tests (home.Root i) 0 (node (tree.Text m os) ks) ags
      no_root_test i (node (tree.Union z) ks) ags = no_tests (home.Root i) 0 (node (tree.Union z) ks) ags
      no_root_test i (node (tree.Context b q) ks) ags = no_tests (home.Root i) 0 (node (tree.Context b q) ks) ags
      no_root_test i (node tree.Pipe ks) ags = no_tests (home.Root i) 0 (node tree.Pipe ks) ags
      no_root_test i (node tree.Unread ks) ags = no_tests (home.Root i) 0 (node tree.Unread ks) ags

  pub entries_due : untested ms ≡ untested (flat_map (step_entries k.setting k.graph) a.steps) ++ pipes_due k (before_pipes (root_list k.setting)) a.cuts
  entries_due =
      let steps = flat_map (step_entries k.setting k.graph) a.steps in
      let tested = root_tests k.setting k.graph 0 (root_list k.setting) k.graph.roots in
      let n = before_pipes (root_list k.setting) in
      let pipes = pipes_entries k.setting.table n (drop n (root_list k.setting)) (drop n k.graph.roots) a.cuts in
      ap untested a.is_representation ∙ untested_append (steps ++ tested) pipes
      ∙ ap (λ xs. xs ++ untested pipes)
      (untested_append steps tested ∙ ap (λ xs. untested steps ++ xs) (no_root_tests 0 (root_list k.setting) k.graph.roots) ∙ append-nil (untested steps))

  -- the first root is due
  pub at_first_root : (u : Walker) → IsTracing k u.progress (untested ms) → HasOwnNumbers k.graph ms → full_cells ms ≡ k.full → IsNumbering k.numbering k.full → u.cells.count ≡ 0
      → u.cells.numbers ≡ [] → u.cells.pending.items ≡ [] → u.cells.stands.items ≡ [] → IsAtRoot k u 0
  at_first_root u tr own same numbering none known empty unmarked =
      let n = before_pipes (root_list k.setting) in (
        a.cuts,
        inl
            (record {
              before = omega arith;
              none_pending = empty;
              awaiting = record {
                done = [];
                pointers = [];
                all_among = tt;
                pending = ap reverse empty;
                steps = a.steps;
                deferring = record {
                  deferral = subst (λ j. Deferral k.setting k.graph [] (due_roots 0 j) a.steps) (minus_nothing n) a.deferral;
                  tracing = subst (λ xs. IsTracing k u.progress xs) entries_due tr;
                  naming = none_named own same numbering u.cells none known (names_in (pipes_due k n a.cuts)) (no_pipe_names k s n a.cuts refl);
                  stand = subst (λ marks. Stand marks []) (sym unmarked) (λ c. ((λ h. absurd (none_marked c h)), (λ h. absurd h)));
                };
              };
              all_cut = a.all_cut;
            }),
      )
    where
      none_marked : (c : ℕ) → stands_at [] c ≡ true → ⊥
      none_marked zero h = cc
      none_marked (suc c) h = cc

      minus_nothing : (j : ℕ) → j ≡ j - 0
      minus_nothing j = omega arith
