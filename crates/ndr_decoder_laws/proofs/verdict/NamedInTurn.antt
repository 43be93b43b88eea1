-- The cells that are named over what is due, turn by turn; and the canonical numbers of the graph that is read.
use Rattle.std.proofs.Common.{◌≡◌, ℕ, ◌+◌, ◌*◌, ◌<◌, ◌≤◌, zero, suc, Bool, true, false, List, [], ◌∷◌, ◌++◌, length, Option, Some, None, refl, ap, ap₂, sym, ◌∙◌, inl, inr, arith, subst}
use Rattle.std.specs.Prelude.{map, eqb, ◌||◌}
use Rattle.std.specs.List.{AllByRecursion, slice_get}
use Rattle.std.proofs.lemmas.Bool.{eqb-true}
use Rattle.std.proofs.lemmas.Option.{same_Some, slice_get-get_or}
use Rattle.nd_base.specs.declared.octets.Order.{Order}
use Rattle.nd_types.specs.declared.types.TypeDef.{TypeDef}
use Rattle.nd_types.specs.declared.types.TypeId.{TypeId}
use Rattle.nd_types.specs.declared.types.TypeDef.TheVariants as def
use Rattle.nd_types.specs.declared.types.Class.TheVariants.{Ref, Unique, Full}
use Rattle.nd_types.specs.Table.{type_at}
use Rattle.nd_types.specs.Roots.{Root}
use Rattle.nd_types.specs.Layout.{hoists}
use Rattle.nd_types.specs.Number.{AreOctets}
use Rattle.nd_value.specs.declared.value.Graph.{Graph}
use Rattle.nd_value.specs.declared.item.Home.TheVariants as home
use Rattle.nd_value.specs.Tree as tree
use Rattle.nd_value.specs.Tree.{Tree, Trees, Label, node, none, more, Referent, trees}
use Rattle.nd_value.specs.Setting.{Setting, root_list, root_at, or_unread, unread, cell_home, cell_at, cell_tree}
use Rattle.nd_value.specs.Deferral.{Pending, Due, due_root, due_referent, due_roots, due_of, before_pipes, home_pointers, IsPlaced, Placed_cells, Step, root_stands, referent_stands, stands_already}
use Rattle.nd_value.specs.Deferral.{Deferral, none_due, at_root, at_null, at_standing, at_referent, Standing, standing_root, standing_by, standing_cell, direct, root_type, root_cell}
use Rattle.nd_value.specs.Canon.{IsCanon, named, own_cell, named_cells, Same, renumbered, renumbered_label}
use Rattle.nd_value.proofs.DeferralLaws.{full_stands}
use Rattle.nd_value.proofs.NodeFacts.{sound_partial}
use Rattle.nd_value.proofs.FewRoots.{few_before_pipes}
use Rattle.nd_grammar.specs.LegalSide.{IsLegalSide}
use Rattle.nd_grammar.specs.Reader.{Names, Read, is_stopped, fresh, with_cell, read_if, read_hoisted, read_whole}
use Rattle.nd_grammar.specs.StreamReader.{Reading, with_value, stands_among, stood, read_referent, read_pending, read_direct, read_placed, read_root, read_first, read_next, read_due, read_start}
use Rattle.nd_grammar.specs.StreamReader.{read_stream}
use Rattle.nd_grammar.proofs.reader.ReaderNames.{last_cell, cell_kept, no_pointers_ok}
use Rattle.nd_grammar.specs.ReaderState.{cell_in, PointersOk, paid, no_names, State, Usable}
use Rattle.nd_grammar.proofs.reader.ReaderCells.{no_roots, set_same, value_length}
use Rattle.nd_grammar.proofs.reader.ReaderStates.{WholeRead, read_wholly}
use Rattle.nd_grammar.proofs.reader.ReaderTurns.{Settled, Turn, at_end, pending_turn, value_settled}
use Rattle.nd_grammar.proofs.reader.ReaderRoots.{Done, due_done, due_root_turn}
use Rattle.nd_grammar.proofs.reader.ReaderStream.{G, graph_is, is_partial, is_stream, ms, settled}
use Rattle.nd_grammar.proofs.NamedOrder.{named_in_order}
use Rattle.nd_grammar.proofs.legal.LegalUsable.{usable_readable, root_usable, pointee_usable}
use Rattle.ndr_decoder_laws.specs.verdict.InOrder.{HasOwnNumbers}
use Rattle.ndr_decoder_laws.proofs.verdict.CellNumbers.{Counts, counts_both, own_number}
use Rattle.ndr_decoder_laws.proofs.verdict.NamedCells.{AreThere, NamesSo, cells_of, cell_more, whole_names}
use Rattle.ndr_decoder_laws.proofs.stream.OtherTurns.{is_among as placed_stands}
use Rattle.ndr_decoder_laws.proofs.stream.ReferentEnds.{not_stood as free_stood}

free_stands : (done : Placed_cells) (c : ℕ) → ¬ IsPlaced done c → stands_among done c ≡ false
free_stands [] c f = refl
free_stands (d ∷ done) c f = go (eqb c d.1) refl (free_stands done c (λ h. f (inr h)))
  where
    go : (b : Bool) → eqb c d.1 ≡ b → stands_among done c ≡ false → (b || stands_among done c) ≡ false
    go true e g = absurd (f (inl (eqb-true c d.1 e)))
    go false e g = g

-- names with a value are the same names
value_there : (c : ℕ) (v : Tree) (s : Names) → AreThere s → AreThere (with_value c v s)
value_there c v s a = subst (λ n. AllByRecursion (λ x. (0 < x.1) × (x.1 ≤ n)) s.numbers) (sym (value_length c v s)) a

value_so : (c : ℕ) (v : Tree) (a s : Names) (cs : List ℕ) → NamesSo a s cs → NamesSo a (with_value c v s) cs
value_so c v a s cs k = record {
  there = value_there c v s k.there;
  counts = subst (Counts (length a.cells) cs) (sym (value_length c v s)) k.counts;
}

module _ (w : Setting) (side : IsLegalSide w) (order : Order) (octets : List ℕ) (all : AreOctets octets) (g : Graph) where
  abbrev S : Reading → List Pending → List Pending → ℕ → Type 0
  S = State w side order octets all

  -- what a step of deferral names where the reader takes it, and the steps after it
  record Taken (s s' : Reading) (steps : List Step) : Type 0 where
    now : List ℕ
    so : NamesSo s.names s'.names now
    rest : List Step
    deferral : Deferral w g s'.done s'.due rest
    all_names : named_cells w g steps ≡ now ++ named_cells w g rest

  module _ (s : Reading) (taken : List Pending) (p : Pending) (ps : List Pending) (n : ℕ) (state : S s taken (p ∷ ps) n) (due : List Due) (there : AreThere s.names) where
    names_of : (c : ℕ) → NamesSo s.names (read_whole order octets w.table (cell_home c) p.to s.progress s.names).names
        (cells_of (home_pointers w.table (cell_home c) p.to (read_whole order octets w.table (cell_home c) p.to s.progress s.names).tree))
    names_of c =
        whole_names order octets w.table (cell_home c) p.to (usable_readable w.table side.operations side.legal p.to state.usable.0) s.progress s.names there

    -- a referent that is read
    referent_taken : (c : ℕ) → p.cell ≡ Some c → ¬ IsPlaced s.done c → (steps : List Step)
        → Deferral w g ((p.class, c) ∷ s.done) (due_of w.table (standing_cell g p c) ++ due) steps
        → Settled g (read_referent w order octets false p c due s) → Taken s (read_referent w order octets false p c due s) (referent_stands p c ∷ steps)
    referent_taken c e free steps d settled =
        let R : Read = read_whole order octets w.table (cell_home c) p.to s.progress s.names in
        let v : cell_at g c ≡ R.tree = value_settled w side order octets all s taken p ps n state due c e free g (settled.cells c (inl refl)) in
        record {
          now = cells_of (home_pointers w.table (cell_home c) p.to R.tree);
          so = value_so c R.tree s.names R.names (cells_of (home_pointers w.table (cell_home c) p.to R.tree)) (names_of c);
          rest = steps;
          deferral = subst (λ u. Deferral w g ((p.class, c) ∷ s.done) (map due_referent (home_pointers w.table (cell_home c) p.to u) ++ due) steps) v d;
          all_names = ap (λ u. cells_of (home_pointers w.table (cell_home c) p.to u) ++ named_cells w g steps) v;
        }

    pending_taken : (steps : List Step) → Deferral w g s.done (due_referent p ∷ due) steps → Settled g (read_pending w order octets p.cell p due s)
        → Taken s (read_pending w order octets p.cell p due s) steps
    pending_taken steps (at_null {steps = rest} e d) settled =
        subst (λ o. Taken s (read_pending w order octets o p due s) rest) (sym e)
        (record { now = []; so = record { there = there; counts = refl }; rest = rest; deferral = d; all_names = refl })
    pending_taken steps (at_standing {steps = rest} c e full k d) settled =
        let f : stood p.class s.done c ≡ true = ap (λ u. stood u s.done c) full ∙ placed_stands s.done c (full_stands s.done c k) in
        subst (λ o. Taken s (read_pending w order octets o p due s) (stands_already p c ∷ rest)) (sym e)
        (subst (λ b. Taken s (read_referent w order octets b p c due s) (stands_already p c ∷ rest)) (sym f)
        (record { now = []; so = record { there = there; counts = refl }; rest = rest; deferral = d; all_names = refl }))
    pending_taken steps (at_referent {steps = rest} c e free d) settled =
        let f : stood p.class s.done c ≡ false = free_stood p.class s.done c free in
        let settled' : Settled g (read_referent w order octets false p c due s) =
        subst (λ b. Settled g (read_referent w order octets b p c due s)) f (subst (λ o. Settled g (read_pending w order octets o p due s)) e settled) in
        subst (λ o. Taken s (read_pending w order octets o p due s) (referent_stands p c ∷ rest)) (sym e)
        (subst (λ b. Taken s (read_referent w order octets b p c due s) (referent_stands p c ∷ rest)) (sym f) (referent_taken c e free rest d settled'))

  module _ (s : Reading) (taken : List Pending) (n : ℕ) (state : S s taken [] (suc n)) (r : Root) (at : slice_get (root_list w) (length s.roots) ≡ Some r) (due : List Due)
      (there : AreThere s.names) where
    abbrev i : ℕ
    i = length s.roots

    usable : Usable w.table r.of
    usable = root_usable w side i r at (omega (arith, state.roots_left))

    root_value : (v : Tree) (later : List Tree) → g.roots ≡ (s.roots ++ v ∷ []) ++ later → root_at g i ≡ v
    root_value v later e = ap (λ u. or_unread (slice_get u i)) e ∙ ap or_unread (at_end s.roots v later)

    stands : (v : Tree) → root_at g i ≡ v → standing_root w g i ≡ standing_by g i r.of v (direct (type_at w.table r.of) v)
    stands v e = ap₂ (λ t u. standing_by g i t u (direct (type_at w.table t) u)) (ap root_type at) e

    -- a step at a root, where it is known what stands
    root_at_step : (s' : Reading) (x : Standing) (steps : List Step) → standing_root w g i ≡ x
        → Deferral w g (root_cell (standing_root w g i).home ++ s.done) (due_of w.table (standing_root w g i) ++ due) steps
        → root_cell x.home ++ s.done ≡ s'.done → due_of w.table x ++ due ≡ s'.due → NamesSo s.names s'.names (own_cell x.home ++ named w.table x)
        → Taken s s' (root_stands i ∷ steps)
    root_at_step s' x steps e d f k so = record {
      now = own_cell x.home ++ named w.table x;
      so = so;
      rest = steps;
      deferral = subst (λ u. Deferral w g u s'.due steps) f (subst (λ u. Deferral w g (root_cell x.home ++ s.done) u steps) k
          (subst (λ u. Deferral w g (root_cell u.home ++ s.done) (due_of w.table u ++ due) steps) e d));
      all_names = ap (λ u. (own_cell u.home ++ named w.table u) ++ named_cells w g steps) e;
    }

    abbrev Next : List Step → Type 0
    Next steps = Deferral w g (root_cell (standing_root w g i).home ++ s.done) (due_of w.table (standing_root w g i) ++ due) steps

    placed_taken : direct (type_at w.table r.of) (read_whole order octets w.table (home.Root i) r.of s.progress s.names).tree ≡ None → (steps : List Step) → Next steps
        → Settled g (read_placed w order octets i r.of due s) → Taken s (read_placed w order octets i r.of due s) (root_stands i ∷ steps)
    placed_taken no_direct steps d settled =
        let R : Read = read_whole order octets w.table (home.Root i) r.of s.progress s.names in
        let x : Standing = record { home = home.Root i; of = r.of; val = R.tree } in
        let e : standing_root w g i ≡ x = stands R.tree (root_value R.tree settled.later settled.roots) ∙ ap (standing_by g i r.of R.tree) no_direct in
        root_at_step (read_placed w order octets i r.of due s) x steps e d refl refl
        (whole_names order octets w.table (home.Root i) r.of (usable_readable w.table side.operations side.legal r.of usable) s.progress s.names there)

    direct_taken : (to : TypeId) → type_at w.table r.of ≡ Some (def.Pointer Ref to) → (steps : List Step) → Next steps
        → Settled g (read_direct w order octets to.0 due s) → Taken s (read_direct w order octets to.0 due s) (root_stands i ∷ steps)
    direct_taken to is steps d settled =
        let c : ℕ = fresh to.0 s.names in
        let first : Names = with_cell to.0 s.names in
        let D : Read = read_whole order octets w.table (cell_home c) to.0 s.progress first in
        let its_tree : Tree = node (tree.Ptr (Some c)) none in
        let its_usable : Usable w.table to.0 = pointee_usable w.table side.operations side.legal r.of Ref to is usable.no_pipe in
        let so : WholeRead w side order octets all (cell_home c) to.0 s.progress first D = read_wholly w side order octets all (cell_home c) to.0 its_usable s.progress first in
        let blank : Referent = record { of = to.0; val = unread } in
        let kept : cell_in D.names.cells c ≡ Some blank =
        ap (λ u. cell_in u c) so.extends.cells ∙ cell_kept first.cells so.extends.new c blank (last_cell s.names.cells blank) in
        let y : cell_at g c ≡ D.tree = settled.cells c (inl refl) ∙ ap cell_tree (set_same c D.tree D.names.cells blank kept) in
        let x : Standing = record { home = cell_home c; of = to.0; val = D.tree } in
        let e : standing_root w g i ≡ x =
        stands its_tree (root_value its_tree settled.later settled.roots)
        ∙ ap (λ o. standing_by g i r.of its_tree (direct o its_tree)) is
        ∙ ap (λ u. record { home = cell_home c; of = to.0; val = u }) y in
        let one : NamesSo s.names first (c ∷ []) = cell_more to.0 s.names there in
        let rest : NamesSo first D.names (named w.table x) =
        whole_names order octets w.table (cell_home c) to.0 (usable_readable w.table side.operations side.legal to.0 its_usable) s.progress first one.there in
        root_at_step (read_direct w order octets to.0 due s) x steps e d refl refl
        (value_so c D.tree s.names D.names (c ∷ named w.table x)
        (record {
          there = rest.there;
          counts = counts_both (length s.names.cells) (length first.cells) (length D.names.cells) (c ∷ []) (named w.table x) one.counts rest.counts;
        }))

    stopped_unread : is_stopped s.progress.stop ≡ true → (read_whole order octets w.table (home.Root i) r.of s.progress s.names).tree ≡ unread
    stopped_unread e = ap (λ b. (read_if b (read_hoisted order octets w.table (home.Root i) (hoists w.table r.of) r.of) s.progress s.names).tree) e

    abbrev R_tree : Tree
    R_tree = (read_whole order octets w.table (home.Root i) r.of s.progress s.names).tree

    by_type : (d : Option TypeDef) → type_at w.table r.of ≡ d → (b : Bool) → is_stopped s.progress.stop ≡ b → (steps : List Step) → Next steps
        → Settled g (read_root w order octets d b i r.of due s) → Taken s (read_root w order octets d b i r.of due s) (root_stands i ∷ steps)
    by_type (Some (def.Pointer Ref to)) e false f steps d z = direct_taken to e steps d z
    by_type (Some (def.Pointer Ref to)) e true f steps d z = placed_taken (ap (direct (type_at w.table r.of)) (stopped_unread f) ∙ ap (λ o. direct o unread) e) steps d z
    by_type (Some (def.Pointer Unique to)) e b f steps d z = placed_taken (ap (λ o. direct o R_tree) e) steps d z
    by_type (Some (def.Pointer Full to)) e b f steps d z = placed_taken (ap (λ o. direct o R_tree) e) steps d z
    by_type None e b f steps d z = placed_taken (ap (λ o. direct o R_tree) e) steps d z
    by_type (Some (def.Prim p)) e b f steps d z = placed_taken (ap (λ o. direct o R_tree) e) steps d z
    by_type (Some _) e b f steps d z = placed_taken (ap (λ o. direct o R_tree) e) steps d z

    root_taken : (steps : List Step) → Deferral w g s.done (due_root i ∷ due) steps → Settled g (read_first w order octets (due_root i) due s)
        → Taken s (read_first w order octets (due_root i) due s) steps
    root_taken steps (at_root {steps = rest} free d) settled =
        let t : root_type (slice_get (root_list w) i) ≡ r.of = ap root_type at in
        subst (λ u. Taken s (read_root w order octets (type_at w.table u) (is_stopped s.progress.stop) i u due s) (root_stands i ∷ rest)) (sym t)
        (by_type (type_at w.table r.of) refl (is_stopped s.progress.stop) refl rest d
        (subst (λ u. Settled g (read_root w order octets (type_at w.table u) (is_stopped s.progress.stop) i u due s)) t settled))

  idle : (fuel : ℕ) (s : Reading) → s.due ≡ [] → read_due w order octets fuel s ≡ s
  idle zero s e = refl
  idle (suc fuel) s e = ap (λ d. read_due w order octets fuel (read_next w order octets d s)) e ∙ idle fuel s e

  no_steps : (done : Placed_cells) (steps : List Step) → Deferral w g done [] steps → steps ≡ []
  no_steps done steps none_due = refl

  abbrev Claim : ℕ → Type 0
  Claim fuel =
      (s : Reading) (taken ps : List Pending) (n : ℕ) → S s taken ps n → s.due ≡ map due_referent ps ++ due_roots (length s.roots) n
      → 4 * (length ps + n) + length octets + 4 ≤ 4 * fuel + paid s.progress → AreThere s.names → Settled g (read_due w order octets fuel s)
      → (steps : List Step) → Deferral w g s.done s.due steps → Counts (length s.names.cells) (named_cells w g steps) (length (read_due w order octets fuel s).names.cells)

  nothing_due : (fuel : ℕ) (s : Reading) → s.due ≡ [] → (steps : List Step) → Deferral w g s.done s.due steps
      → Counts (length s.names.cells) (named_cells w g steps) (length (read_due w order octets fuel s).names.cells)
  nothing_due fuel s e steps d =
      let f : steps ≡ [] = no_steps s.done steps (subst (λ u. Deferral w g s.done u steps) e d) in
      subst (λ u. Counts (length s.names.cells) (named_cells w g u) (length (read_due w order octets fuel s).names.cells)) (sym f)
      (ap (λ u. length u.names.cells) (sym (idle fuel s e)))

  -- one turn, and those after it
  turn_counts : (fuel : ℕ) → Claim fuel → (s s' : Reading) (due : List Due) (ps : List Pending) (n : ℕ) (steps : List Step)
      → 4 * (length ps + n) + length octets + 4 ≤ 4 * suc fuel + paid s.progress → Turn w side order octets all due s ps n s' → Settled g (read_due w order octets fuel s')
      → (Settled g s' → Taken s s' steps) → Counts (length s.names.cells) (named_cells w g steps) (length (read_due w order octets fuel s').names.cells)
  turn_counts fuel claim s s' due ps n steps h t settled law =
      let b : 4 * (length t.ps' + t.n') + length octets + 4 ≤ 4 * fuel + paid s'.progress = omega (arith, t.paid_for, h) in
      let D : Done w side order octets all s'.due s' (read_due w order octets fuel s') = due_done w side order octets all fuel s' t.taken' t.ps' t.n' t.state t.due_is b in
      let k : Taken s s' steps = law (D.goes.settled g settled) in
      subst (λ u. Counts (length s.names.cells) u (length (read_due w order octets fuel s').names.cells)) (sym k.all_names)
      (counts_both (length s.names.cells) (length s'.names.cells) (length (read_due w order octets fuel s').names.cells) k.now (named_cells w g k.rest) k.so.counts
      (claim s' t.taken' t.ps' t.n' t.state t.due_is b k.so.there settled k.rest k.deferral))

  by_due : (fuel : ℕ) → Claim fuel → (s : Reading) (taken ps : List Pending) (n : ℕ) → S s taken ps n
      → 4 * (length ps + n) + length octets + 4 ≤ 4 * suc fuel + paid s.progress → AreThere s.names
      → (due : List Due) → due ≡ map due_referent ps ++ due_roots (length s.roots) n → s.due ≡ due → Settled g (read_due w order octets fuel (read_next w order octets due s))
      → (steps : List Step) → Deferral w g s.done due steps
      → Counts (length s.names.cells) (named_cells w g steps) (length (read_due w order octets fuel (read_next w order octets due s)).names.cells)
  by_due fuel claim s taken [] zero st h there due e f settled steps d =
      let z : s.due ≡ [] = f ∙ e in
      subst (λ u. Counts (length s.names.cells) (named_cells w g steps) (length (read_due w order octets fuel (read_next w order octets u s)).names.cells)) (sym e)
      (nothing_due fuel s z steps (subst (λ u. Deferral w g s.done u steps) (sym f) d))
  by_due fuel claim s taken [] (suc n) st h there due e f settled steps d =
      let below : length s.roots < length (root_list w) = omega (arith, st.roots_left, few_before_pipes (root_list w)) in
      let at = slice_get-get_or (root_list w) (length s.roots) (record { of = 0; param = None; vars = []; is_pipe = false }) below in
      let later : List Due = due_roots (suc (length s.roots)) n in
      let settled' : Settled g (read_due w order octets fuel (read_next w order octets (due_root (length s.roots) ∷ later) s)) =
      subst (λ u. Settled g (read_due w order octets fuel (read_next w order octets u s))) e settled in
      subst (λ u. Counts (length s.names.cells) (named_cells w g steps) (length (read_due w order octets fuel (read_next w order octets u s)).names.cells)) (sym e)
      (turn_counts fuel claim s (read_first w order octets (due_root (length s.roots)) later s) (due_root (length s.roots) ∷ later) [] (suc n) steps h
      (due_root_turn w side order octets all s taken [] n st _ at later refl) settled'
      (λ k. root_taken s taken n st _ at later there steps (subst (λ u. Deferral w g s.done u steps) e d) k))
  by_due fuel claim s taken (p ∷ ps) n st h there due e f settled steps d =
      let later : List Due = map due_referent ps ++ due_roots (length s.roots) n in
      let settled' : Settled g (read_due w order octets fuel (read_next w order octets (due_referent p ∷ later) s)) =
      subst (λ u. Settled g (read_due w order octets fuel (read_next w order octets u s))) e settled in
      subst (λ u. Counts (length s.names.cells) (named_cells w g steps) (length (read_due w order octets fuel (read_next w order octets u s)).names.cells)) (sym e)
      (turn_counts fuel claim s (read_pending w order octets p.cell p later s) (due_referent p ∷ later) (p ∷ ps) n steps h
      (pending_turn w side order octets all s taken p ps n st later refl p.cell refl) settled'
      (λ k. pending_taken s taken p ps n st later there steps (subst (λ u. Deferral w g s.done u steps) e d) k))

  all_counts : (fuel : ℕ) → Claim fuel
  all_counts zero s taken ps n st e h there settled steps d =
      let D : Done w side order octets all s.due s s = due_done w side order octets all zero s taken ps n st e h in
      nothing_due zero s D.due_none steps d
  all_counts (suc fuel) s taken ps n st e h there settled steps d =
      by_due fuel (all_counts fuel) s taken ps n st h there s.due e refl settled steps d

-- the state at the beginning
start_there : (w : Setting) (side : IsLegalSide w) (order : Order) (octets : List ℕ) (all : AreOctets octets)
    → State w side order octets all (read_start w order octets) [] [] (before_pipes (root_list w))
start_there w side order octets all = record {
  roots_left = omega arith;
  linked = record { all = tt };
  apart = no_pointers_ok no_names no_names;
  pointers = subst (PointersOk no_names no_names) (sym (ap (λ u. u ++ []) (no_roots w.table 0 (root_list w)))) (no_pointers_ok no_names no_names);
  usable = tt;
  named = λ c h. absurd h;
  blank = λ c x e f. no_cell c x e;
  numbers = record { each = tt; apart = tt };
  roots_made = tt;
  cells_made = tt;
  within = omega arith;
  few = omega arith;
  reached = λ c a b. absurd (omega arith);
}
  where
    no_cell : (c : ℕ) (x : Referent) → cell_in [] c ≡ Some x → x.val ≡ unread
    no_cell zero x e = cc
    no_cell (suc i) x e = cc

-- a graph is the same as itself, by the map that moves no cell
label_still : (l : Label) → renumbered_label (λ c. c) l ≡ l
label_still (tree.Ptr None) = refl
label_still (tree.Ptr (Some c)) = refl
label_still (tree.Num z) = refl
label_still _ = refl

trees_still : (ts : Trees) → renumbered (λ c. c) ts ≡ ts
trees_still none = refl
trees_still (more (node l ks) ts) = ap₂ more (ap₂ node (label_still l) (trees_still ks)) (trees_still ts)

abbrev unmoved : (g : Graph) → Same g g
unmoved g = record {
  image = λ c. c;
  as_many = refl;
  within = λ c low high. (low, high);
  one_to_one = λ c d low high low' high' e. e;
  elsewhere = λ c h. refl;
  roots = trees_still (trees g.roots);
  cells = λ c d x y there e there'. (
      let at : c ≡ d = omega (arith, e) in
      let same : x ≡ y = same_Some _ _ (sym there ∙ ap (slice_get g.cells) at ∙ there') in
      (ap (λ u. u.of) same, trees_still (more x.val none) ∙ ap (λ u. more u.val none) same));
}

-- The graph that is read is its own canonical form.
pub reader_canonical : (w : Setting) → IsLegalSide w → (order : Order) (octets : List ℕ) → AreOctets octets
    → IsCanon w (read_stream w order octets).graph (read_stream w order octets).graph
reader_canonical w side order octets all =
    let g : Graph = G w side order octets all in
    let st = is_stream w side order octets all in
    let n : ℕ = before_pipes (root_list w) in
    let c : Counts 0 (named_cells w g st.steps) (length g.cells) =
    all_counts w side order octets all g (length octets + n + 1) (read_start w order octets) [] [] n (start_there w side order octets all) refl (omega arith) tt
    (settled w side order octets all) st.steps st.deferral in
    subst (λ u. IsCanon w u u) (sym (graph_is w side order octets all))
    (record {
      steps = st.steps;
      deferral = st.deferral;
      same = unmoved g;
      numbered = λ k lo hi. sym (own_number (named_cells w g st.steps) (length g.cells) c k lo hi);
    })

-- Whether it is read to its end or not, its cells have their own numbers.
pub reader_numbered : (w : Setting) (side : IsLegalSide w) (order : Order) (octets : List ℕ) (all : AreOctets octets)
    → HasOwnNumbers (G w side order octets all) (ms w side order octets all)
reader_numbered w side order octets all k lo hi =
    let g : Graph = G w side order octets all in
    let st = is_stream w side order octets all in
    let n : ℕ = before_pipes (root_list w) in
    let c : Counts 0 (named_cells w g st.steps) (length g.cells) =
    all_counts w side order octets all g (length octets + n + 1) (read_start w order octets) [] [] n (start_there w side order octets all) refl (omega arith) tt
    (settled w side order octets all) st.steps st.deferral in
    sym (named_in_order w side g (sound_partial w g (is_partial w side order octets all)) (ms w side order octets all) st k)
    ∙ own_number (named_cells w g st.steps) (length g.cells) c k lo hi
