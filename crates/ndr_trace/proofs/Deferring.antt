-- From one step of deferral to the next.
-- `w` is a setting, `g` a graph, `p` a pointer, `ps` are pointers, `c` is a cell, `done` are the cells that stand, `due` is what is due after pointers,
-- `us` and `vs` are steps.
use Rattle.std.proofs.Common.{◌≡◌, ◌⊎◌, inl, inr, ◌∙◌, ℕ, Bool, true, false, not, List, [], ◌∷◌, ◌++◌, Option, Some, None, refl, sym, ap, ap₂, subst, append-nil, flat_map, map, reverse}
use Rattle.std.specs.List.{AllByRecursion}
use Rattle.std.proofs.lemmas.Grind.{flat_map-append}
use Rattle.std.proofs.lemmas.List.{reverse-append, reverse-reverse}
use Rattle.std.proofs.lemmas.Option.{same_Some}
use Rattle.nd_types.specs.declared.types.Class.{Class}
use Rattle.nd_types.specs.declared.types.Class.TheVariants.{Full}
use Rattle.nd_value.specs.declared.item.Home.{Home}
use Rattle.nd_value.specs.declared.value.Graph.{Graph}
use Rattle.nd_value.specs.Agreement.{Agreement}
use Rattle.nd_value.specs.Deferral.{AreFree, Deferral, Due, IsPlaced, IsPlacedFull, Pending as Pointer, Placed_cells, Step, at_null, at_referent, at_root, at_standing, due_of, due_referent, due_root}
use Rattle.nd_value.specs.Deferral.{home_pointers, none_due, referent_stands, root_cell, root_stands, standing_cell, standing_root, stands_already}
use Rattle.nd_value.specs.Conforms.{all_pointers}
use Rattle.nd_value.specs.Setting.{Among, Setting, cell_at, cell_home}
use Rattle.nd_value.specs.Tree.{Tree}
use Rattle.nd_value.proofs.DeferralLaws.{full_stands}
use Rattle.nd_grammar.specs.Entry.{Entry, tests, whole_value}
use Rattle.nd_grammar.specs.Stream.{standing_entries, step_entries, step_tests}
use Rattle.ndr_trace_value.specs.Untested.{untested}
use Rattle.ndr_trace_value.proofs.Untested.{untested_append}
use Rattle.ndr_trace_value.specs.declared.cells.Pending.{Pending}
use Rattle.ndr_trace.specs.Homes.{names_all, pending_all, standing_names, step_names}
use Rattle.ndr_trace_value.specs.Tracing.{Known}
use Rattle.ndr_trace_value.specs.Naming.{names_in, only_spot, pending_in, pending_of}
use Rattle.ndr_trace.proofs.HomeNames.{home_names, home_waits}

pub no_tests : (h : Home) (n : ℕ) (t : Tree) (xs : List Agreement) → untested (tests h n t xs) ≡ []
no_tests h n t [] = refl
no_tests h n t (x ∷ xs) = no_tests h n t xs

module _ (w : Setting) (g : Graph) where
  -- ## What a step of deferral is

  abbrev pub ByNull : Placed_cells → Pointer → List Due → List Step → Type 0
  ByNull done p due us = (p.cell ≡ None) × Deferral w g done due us

  abbrev pub ByStanding : Placed_cells → Pointer → List Due → List Step → Type 0
  ByStanding done p due us =
      (c : ℕ) × (vs : List Step) × (p.cell ≡ Some c) × IsPlacedFull done c × Deferral w g done due vs × (us ≡ stands_already p c ∷ vs)

  abbrev pub ByReferent : Placed_cells → Pointer → List Due → List Step → Type 0
  ByReferent done p due us =
      (c : ℕ) × (vs : List Step) × (p.cell ≡ Some c) × (IsPlaced done c → ⊥) × Deferral w g ((p.class, c) ∷ done) (due_of w.table (standing_cell g p c) ++ due) vs
      × (us ≡ referent_stands p c ∷ vs)

  abbrev pub Inverted : Placed_cells → List Due → List Step → Type 0
  Inverted done [] us = us ≡ []
  Inverted done (due_root i ∷ due) us =
      (vs : List Step) × AreFree (root_cell (standing_root w g i).home) done
      × Deferral w g (root_cell (standing_root w g i).home ++ done) (due_of w.table (standing_root w g i) ++ due) vs × (us ≡ root_stands i ∷ vs)
  Inverted done (due_referent p ∷ due) us = ByNull done p due us ⊎ (ByStanding done p due us ⊎ ByReferent done p due us)

  pub inverted : {done : Placed_cells} {due : List Due} {us : List Step} → Deferral w g done due us → Inverted done due us
  inverted none_due = refl
  inverted (at_root {steps = vs} f d) = (vs, f, d, refl)
  inverted (at_null e d) = inl (e, d)
  inverted (at_standing {steps = vs} c e f h d) = inr (inl (c, vs, e, h, d, refl))
  inverted (at_referent {steps = vs} c e n d) = inr (inr (c, vs, e, n, d, refl))

  -- the referent of a pointer that names a cell which does not stand yet
  pub first_time : (done : Placed_cells) (p : Pointer) (due : List Due) (us : List Step) (cell : ℕ) → p.cell ≡ Some cell → (IsPlaced done cell → ⊥)
      → Inverted done (due_referent p ∷ due) us
      → (vs : List Step) × Deferral w g ((p.class, cell) ∷ done) (due_of w.table (standing_cell g p cell) ++ due) vs × (us ≡ referent_stands p cell ∷ vs)
  first_time done p due us cell is new (inl (e, d)) = let z : None ≡ Some cell = sym e ∙ is in cc
  first_time done p due us cell is new (inr (inl (c, vs, e, placed, d, s))) =
      absurd (new (subst (IsPlaced done) (same_Some _ _ (sym e ∙ is)) (full_stands done c placed)))
  first_time done p due us cell is new (inr (inr (c, vs, e, not_placed, d, s))) =
      let same : c ≡ cell = same_Some _ _ (sym e ∙ is) in (
        vs,
        subst (λ m. Deferral w g ((p.class, m) ∷ done) (due_of w.table (standing_cell g p m) ++ due) vs) same d,
        s ∙ ap (λ m. referent_stands p m ∷ vs) same,
      )

  -- ## Null pointers

  abbrev Mine : Pointer → Type 0
  Mine p = Among (all_pointers w g) p

  nothing_pending : (k : Known) (p : Pointer) (o : Option ℕ) (c : ℕ) (xs : List Pending) → o ≡ Some c → pending_of k p.home p.node p.class p.to o ++ xs ≡ [] → ⊥
  nothing_pending k p None c xs e f = cc
  nothing_pending k p (Some d) c xs e f = cc

  -- where no pointer is pending, those that are due are null
  pub nulls_skipped : (k : Known) (done : Placed_cells) (ps : List Pointer) (due : List Due) (us : List Step) → pending_all k ps ≡ [] → Deferral w g done (map due_referent ps ++ due) us
      → Deferral w g done due us
  nulls_skipped k done [] due us e d = d
  nulls_skipped k done (p ∷ ps) due us e d = go p.cell refl e (inverted d) (nulls_skipped k done ps due us)
    where
      go : (o : Option ℕ) → p.cell ≡ o → pending_of k p.home p.node p.class p.to o ++ pending_all k ps ≡ [] → Inverted done (due_referent p ∷ (map due_referent ps ++ due)) us
          → (pending_all k ps ≡ [] → Deferral w g done (map due_referent ps ++ due) us → Deferral w g done due us) → Deferral w g done due us
      go (Some c) s f i later = absurd (nothing_pending k p (Some c) c (pending_all k ps) refl f)
      go None s f (inl (n, d)) later = later f d
      go None s f (inr (inl (c, vs, h, x, y, z))) later = cc
      go None s f (inr (inr (c, vs, h, x, y, z))) later = cc

  -- the first pointer that is pending is that of the first which is not null
  pub record Next (k : Known) (done : Placed_cells) (next : Pending) (qs : List Pending) (due : List Due) (us : List Step) : Type 0 where
    pub pointer : Pointer
    pub among : Among (all_pointers w g) pointer
    pub cell : pointer.cell ≡ Some next.cell.0
    pub to : pointer.to ≡ next.to.0
    pub from : next.from ≡ only_spot k pointer.class pointer.home pointer.node
    pub pointers : List Pointer
    pub all_among : AllByRecursion (Among (all_pointers w g)) pointers
    pub pending : qs ≡ pending_all k pointers
    pub deferral : Deferral w g done (due_referent pointer ∷ (map due_referent pointers ++ due)) us

  pub next_pending : (k : Known) (done : Placed_cells) (ps : List Pointer) (next : Pending) (qs : List Pending) (due : List Due) (us : List Step)
      → AllByRecursion (Among (all_pointers w g)) ps → next ∷ qs ≡ pending_all k ps → Deferral w g done (map due_referent ps ++ due) us → Next k done next qs due us
  next_pending k done [] next qs due us a e d = cc
  next_pending k done (p ∷ ps) next qs due us a e d = go p.cell refl e (inverted d) (next_pending k done ps next qs due us a.1)
    where
      go : (o : Option ℕ) → p.cell ≡ o → next ∷ qs ≡ pending_of k p.home p.node p.class p.to o ++ pending_all k ps → Inverted done (due_referent p ∷ (map due_referent ps ++ due)) us
          → (next ∷ qs ≡ pending_all k ps → Deferral w g done (map due_referent ps ++ due) us → Next k done next qs due us) → Next k done next qs due us
      go (Some c) s f i later =
          let first : next ≡ record { cell = record { 0 = c }; to = record { 0 = p.to }; from = only_spot k p.class p.home p.node } = cc in
          let others : qs ≡ pending_all k ps = cc in
          record {
            pointer = p;
            among = a.0;
            cell = s ∙ sym (ap (λ (q : Pending). Some q.cell.0) first);
            to = sym (ap (λ (q : Pending). q.to.0) first);
            from = ap (λ (q : Pending). q.from) first;
            pointers = ps;
            all_among = a.1;
            pending = others;
            deferral = d;
          }
      go None s f (inl (n, d')) later = later f d'
      go None s f (inr (inl (c, vs, h, x, y, z))) later = cc
      go None s f (inr (inr (c, vs, h, x, y, z))) later = cc

  -- ## Entries and names of a step

  -- of a referent that stands already none is due
  pub already_entries : (p : Pointer) (c : ℕ) (us : List Step) → untested (flat_map (step_entries w g) (stands_already p c ∷ us)) ≡ untested (flat_map (step_entries w g) us)
  already_entries p c us =
      untested_append (step_tests g p c) (flat_map (step_entries w g) us)
      ∙ ap (λ xs. xs ++ untested (flat_map (step_entries w g) us)) (no_tests (cell_home c) 0 (cell_at g c) p.agreements)

  -- of another those of its cell
  pub referent_entries : (p : Pointer) (c : ℕ) (us : List Step)
      → untested (flat_map (step_entries w g) (referent_stands p c ∷ us)) ≡ untested (whole_value w.table (cell_home c) p.to (cell_at g c)) ++ untested (flat_map (step_entries w g) us)
  referent_entries p c us =
      let value : List Entry = whole_value w.table (cell_home c) p.to (cell_at g c) in
      untested_append (value ++ step_tests g p c) (flat_map (step_entries w g) us)
      ∙ ap (λ xs. xs ++ untested (flat_map (step_entries w g) us))
      (untested_append value (step_tests g p c) ∙ ap (λ xs. untested value ++ xs) (no_tests (cell_home c) 0 (cell_at g c) p.agreements) ∙ append-nil (untested value))

  pub referent_names : (p : Pointer) (c : ℕ) → standing_names w (standing_cell g p c) ≡ names_in (untested (whole_value w.table (cell_home c) p.to (cell_at g c)))
  referent_names p c = sym (home_names w.table (cell_home c) p.to (cell_at g c))

  pub root_entries : (i : ℕ) (us : List Step)
      → untested (flat_map (step_entries w g) (root_stands i ∷ us)) ≡ untested (standing_entries w.table (standing_root w g i)) ++ untested (flat_map (step_entries w g) us)
  root_entries i us = untested_append (standing_entries w.table (standing_root w g i)) (flat_map (step_entries w g) us)

  -- ## What becomes due

  pub due_joined : (ps qs : List Pointer) (due : List Due) → map due_referent ps ++ (map due_referent qs ++ due) ≡ map due_referent (ps ++ qs) ++ due
  due_joined [] qs due = refl
  due_joined (p ∷ ps) qs due = ap (λ xs. due_referent p ∷ xs) (due_joined ps qs due)

  pub pending_joined : (k : Known) (before qs : List Pending) (ps : List Pointer) → reverse before ≡ qs → reverse (before ++ reverse (pending_all k ps)) ≡ pending_all k ps ++ qs
  pending_joined k before qs ps e = reverse-append before (reverse (pending_all k ps)) ∙ ap₂ (λ xs ys. xs ++ ys) (reverse-reverse (pending_all k ps)) e
