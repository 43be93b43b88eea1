-- Referents, one after the other.
-- `k` are the octets with the partial graph in which they are refused, `u` and `v` are walks before and after a call, `next` is a pointer that was
-- taken from those that are pending, `due` is what is due after these, `rest` and `names` are the entries and the names after all that is due.
use Rattle.std.proofs.Common.{◌≡◌, ◌⊎◌, inl, inr, ◌∙◌, ℕ, Bool, true, false, not, List, [], ◌∷◌, ◌++◌, Option, Some, None, refl, sym, ap, ap₂, subst, append_assoc, append-nil, flat_map, map, reverse}
use Rattle.std.specs.Prelude.{eqb}
use Rattle.std.specs.List.{AllByRecursion}
use Rattle.std.proofs.lemmas.Bool.{eqb-true, eqb-false}
use Rattle.std.proofs.lemmas.Grind.{flat_map-append}
use Rattle.std.proofs.lemmas.List.{reverse-append}
use Rattle.std.proofs.lemmas.Option.{same_Some}
use Rattle.nd_types.specs.declared.types.Class.{Class}
use Rattle.nd_value.specs.declared.item.Home.{Home}
use Rattle.nd_value.specs.declared.item.Home.TheVariants as home
use Rattle.nd_value.specs.declared.value.CellId.{CellId}
use Rattle.nd_value.specs.Deferral.{Deferral, Due, IsPlaced, Pending as Pointer, Placed_cells, Step, due_of, due_referent, home_pointers, referent_stands}
use Rattle.nd_value.specs.Deferral.{standing_cell, stands_already}
use Rattle.nd_value.specs.Conforms.{all_pointers}
use Rattle.nd_value.specs.Setting.{Among}
use Rattle.nd_value.proofs.Apart.{all_append}
use Rattle.nd_value.proofs.DeferralLaws.{full_stands}
use Rattle.nd_grammar.specs.Entry.{Entry}
use Rattle.nd_grammar.specs.Stream.{step_entries}
use Rattle.nd_grammar.proofs.next.PointerPlaces.{in_cell}
use Rattle.ndr_explain.specs.declared.names.HomeName.{HomeName}
use Rattle.ndr_explain.specs.declared.names.HomeName.TheVariants as named
use Rattle.text_grammar.specs.Paths.{home_value}
use Rattle.ndr_trace_value.specs.Untested.{untested}
use Rattle.ndr_trace_value.specs.declared.cells.Pending.{Pending}
use Rattle.ndr_trace_value.specs.declared.nodes.Walker.{Walker}
use Rattle.ndr_trace.specs.Homes.{HasHome, HasPassed, IsAwaiting, IsDeferring, IsNext, IsPart, home_due, pending_all, step_names}
use Rattle.ndr_trace_value.specs.Naming.{HasType, IsNaming, Stand, names_in, pending_of, stands_at}
use Rattle.ndr_trace_value.specs.Tracing.{IsFrom, IsTracing, Known}
use Rattle.ndr_trace.proofs.Deferring.{Inverted, already_entries, due_joined, first_time, inverted, next_pending, nulls_skipped, pending_joined, referent_entries, referent_names}
use Rattle.ndr_trace.proofs.HomeNames.{home_waits}
use Rattle.ndr_trace_value.proofs.NamedCells.{same_naming}
use Rattle.ndr_trace.proofs.PartialHomes.{cell_has_home, typed_cell}
use Rattle.ndr_trace.proofs.SolePointers.{from_pointer}

nat_or : (m n : ℕ) → (m ≡ n) ⊎ (m ≡ n → ⊥)
nat_or m n = by (eqb m n) refl
  where
    by : (b : Bool) → eqb m n ≡ b → (m ≡ n) ⊎ (m ≡ n → ⊥)
    by true e = inl (eqb-true m n e)
    by false e = inr (eqb-false m n e)

-- all pointers among those of a graph are
pub all_mine : (ps qs : List Pointer) → ((p : Pointer) → Among ps p → Among qs p) → AllByRecursion (Among qs) ps
all_mine [] qs f = tt
all_mine (p ∷ ps) qs f = (f p (inl refl), all_mine ps qs (λ q a. f q (inr a)))

module _ (k : Known) (due : List Due) (rest : List Entry) (names : Placed_cells) where
  same_deferring : (u v : Walker) (done : Placed_cells) (all : List Due) (us : List Step) → v.progress ≡ u.progress → v.cells.count ≡ u.cells.count
      → v.cells.numbers ≡ u.cells.numbers → v.cells.stands ≡ u.cells.stands → IsDeferring k u done all us rest names → IsDeferring k v done all us rest names
  same_deferring u v done all us ep ec en es d = record {
    deferral = d.deferral;
    tracing = subst (λ p. IsTracing k p (untested (flat_map (step_entries k.setting k.graph) us) ++ rest)) (sym ep) d.tracing;
    naming = same_naming k u.cells v.cells _ ec en d.naming;
    stand = subst (λ marks. Stand marks done) (sym (ap (λ z. z.items) es)) d.stand;
  }

  -- ## A pointer is taken from those that are pending

  pub taken : (u v : Walker) (next : Pending) → IsAwaiting k u due rest names → u.cells.pending.items ≡ v.cells.pending.items ++ next ∷ [] → v.progress ≡ u.progress
      → v.cells.count ≡ u.cells.count → v.cells.numbers ≡ u.cells.numbers → v.cells.stands ≡ u.cells.stands → IsNext k v next due rest names
  taken u v next a e ep ec en es =
      let top : next ∷ reverse v.cells.pending.items ≡ pending_all k a.pointers =
      sym (ap reverse e ∙ reverse-append v.cells.pending.items (next ∷ [])) ∙ a.pending in
      let n = next_pending k.setting k.graph k a.done a.pointers next (reverse v.cells.pending.items) due a.steps a.all_among top a.deferring.deferral in
      let d = same_deferring u v a.done (map due_referent a.pointers ++ due) a.steps ep ec en es a.deferring in
      record {
        done = a.done;
        pointer = n.pointer;
        among = n.among;
        cell = n.cell;
        to = n.to;
        from = n.from;
        pointers = n.pointers;
        all_among = n.all_among;
        pending = n.pending;
        steps = a.steps;
        deferring = record { deferral = n.deferral; tracing = d.tracing; naming = d.naming; stand = d.stand };
      }

  -- none was taken
  pub emptied : (u v : Walker) → IsAwaiting k u due rest names → u.cells.pending.items ≡ [] → v.cells.pending.items ≡ [] → v.progress ≡ u.progress
      → v.cells.count ≡ u.cells.count → v.cells.numbers ≡ u.cells.numbers → v.cells.stands ≡ u.cells.stands → IsAwaiting k v due rest names
  emptied u v a e f ep ec en es = record {
    done = a.done;
    pointers = a.pointers;
    all_among = a.all_among;
    pending = ap reverse (f ∙ sym e) ∙ a.pending;
    steps = a.steps;
    deferring = same_deferring u v a.done (map due_referent a.pointers ++ due) a.steps ep ec en es a.deferring;
  }

  -- where none is pending those that are due are null
  pub none_left : (u : Walker) → IsAwaiting k u due rest names → u.cells.pending.items ≡ []
      → (done : Placed_cells) × (us : List Step) × IsDeferring k u done due us rest names
  none_left u a e =
      let none : pending_all k a.pointers ≡ [] = sym a.pending ∙ ap reverse e in (
        a.done,
        a.steps,
        record {
          deferral = nulls_skipped k.setting k.graph k a.done a.pointers due a.steps none a.deferring.deferral;
          tracing = a.deferring.tracing;
          naming = a.deferring.naming;
          stand = a.deferring.stand;
        },
      )

  -- ## A cell that stands already

  not_true : (b : Bool) → false ≡ not b → b ≡ true
  not_true true e = refl
  not_true false e = cc

  not_false : (b : Bool) → true ≡ not b → b ≡ false
  not_false true e = cc
  not_false false e = refl

  -- the marks where a cell was marked that was marked already
  marked_again : (old new : List Bool) (c : ℕ) (done : Placed_cells) → Stand old done → stands_at old c ≡ true → stands_at new c ≡ true
      → ((d : ℕ) → (d ≡ c → ⊥) → stands_at new d ≡ stands_at old d) → Stand new done
  marked_again old new c done s was set others d = by (nat_or d c)
    where
      by : (d ≡ c) ⊎ (d ≡ c → ⊥) → (stands_at new d ≡ true → IsPlaced done d) × (IsPlaced done d → stands_at new d ≡ true)
      by (inl e) = ((λ h. (s d).0 (ap (stands_at old) e ∙ was)), (λ h. ap (stands_at new) e ∙ set))
      by (inr n) = ((λ h. (s d).0 (sym (others d n) ∙ h)), (λ h. others d n ∙ (s d).1 h))

  -- and where a cell was marked that was not
  pub marked_more : (old new : List Bool) (c : ℕ) (class : Class) (done : Placed_cells) → Stand old done → stands_at new c ≡ true
      → ((d : ℕ) → (d ≡ c → ⊥) → stands_at new d ≡ stands_at old d) → Stand new ((class, c) ∷ done)
  marked_more old new c class done s set others d = by (nat_or d c)
    where
      by : (d ≡ c) ⊎ (d ≡ c → ⊥) → (stands_at new d ≡ true → (d ≡ c) ⊎ IsPlaced done d) × ((d ≡ c) ⊎ IsPlaced done d → stands_at new d ≡ true)
      by (inl e) = ((λ h. inl e), (λ h. ap (stands_at new) e ∙ set))
      by (inr n) = ((λ h. inr ((s d).0 (sym (others d n) ∙ h))), placed)
        where
          placed : (d ≡ c) ⊎ IsPlaced done d → stands_at new d ≡ true
          placed (inl e) = absurd (n e)
          placed (inr h) = others d n ∙ (s d).1 h

  pub skipped : (u v : Walker) (next : Pending) → IsNext k u next due rest names → false ≡ not (stands_at u.cells.stands.items next.cell.0)
      → stands_at v.cells.stands.items next.cell.0 ≡ true
      → ((d : ℕ) → (d ≡ next.cell.0 → ⊥) → stands_at v.cells.stands.items d ≡ stands_at u.cells.stands.items d) → v.cells.count ≡ u.cells.count
      → v.cells.numbers ≡ u.cells.numbers → v.cells.pending ≡ u.cells.pending → v.progress ≡ u.progress → IsAwaiting k v due rest names
  skipped u v next n first set others ec en eq ep = go (inverted k.setting k.graph n.deferring.deferral)
    where
      was : stands_at u.cells.stands.items next.cell.0 ≡ true
      was = not_true (stands_at u.cells.stands.items next.cell.0) first

      go : Inverted k.setting k.graph n.done (due_referent n.pointer ∷ (map due_referent n.pointers ++ due)) n.steps → IsAwaiting k v due rest names
      go (inl (e, d)) = let z : None ≡ Some next.cell.0 = sym e ∙ n.cell in cc
      go (inr (inr (c, vs, e, not_placed, d, is))) =
          let same : next.cell.0 ≡ c = same_Some _ _ (sym n.cell ∙ e) in
          absurd (not_placed ((n.deferring.stand c).0 (ap (stands_at u.cells.stands.items) (sym same) ∙ was)))
      go (inr (inl (c, vs, e, placed, d, is))) = record {
        done = n.done;
        pointers = n.pointers;
        all_among = n.all_among;
        pending = ap reverse (ap (λ z. z.items) eq) ∙ n.pending;
        steps = vs;
        deferring = record {
          deferral = d;
          tracing =
              subst (λ ms. IsTracing k v.progress (ms ++ rest))
              (ap (λ us. untested (flat_map (step_entries k.setting k.graph) us)) is ∙ already_entries k.setting k.graph n.pointer c vs)
              (subst (λ p. IsTracing k p (untested (flat_map (step_entries k.setting k.graph) n.steps) ++ rest)) (sym ep) n.deferring.tracing);
          naming =
              subst (λ us. IsNaming k v.cells (flat_map (step_names k.setting k.graph) us ++ names)) is (same_naming k u.cells v.cells _ ec en n.deferring.naming);
          stand = marked_again u.cells.stands.items v.cells.stands.items next.cell.0 n.done n.deferring.stand was set others;
        };
      }

  -- ## A home that stands now

  -- where the pointer is that names its cell alone
  pub referent_from : (u : Walker) (next : Pending) → IsPart k → IsNext k u next due rest names → IsFrom k (home.Cell next.cell) next.from
  referent_from u next s n = subst (IsFrom k (home.Cell next.cell)) (sym n.from) (from_pointer k s n.pointer next.cell.0 n.among n.cell)

  -- a home at which a step of deferral is, and what then follows
  pub record Entering (u : Walker) (h : Home) (name : HomeName) (t : ℕ) : Type 0 where
    pub its : HasHome k h name t
    pub later : List Entry
    pub after_names : Placed_cells
    pub tracing : IsTracing k u.progress (home_due k h t ++ later)
    pub naming : IsNaming k u.cells (names_in (home_due k h t) ++ after_names)
    pub after : (v : Walker) → IsTracing k v.progress later → HasPassed k u.cells v.cells (home_due k h t) after_names → IsAwaiting k v due rest names

  -- the pointers of a home are pending, and then those that were
  pub stood : (u v : Walker) (h : Home) (t : ℕ) (done : Placed_cells) (vs : List Step) (ps : List Pointer)
      → Deferral k.setting k.graph done (map due_referent (home_pointers k.setting.table h t (home_value k.graph h)) ++ (map due_referent ps ++ due)) vs
      → Stand u.cells.stands.items done
      → ((p : Pointer) → Among (home_pointers k.setting.table h t (home_value k.graph h)) p → Among (all_pointers k.setting k.graph) p)
      → AllByRecursion (Among (all_pointers k.setting k.graph)) ps → reverse u.cells.pending.items ≡ pending_all k ps
      → IsTracing k v.progress (untested (flat_map (step_entries k.setting k.graph) vs) ++ rest)
      → HasPassed k u.cells v.cells (home_due k h t) (flat_map (step_names k.setting k.graph) vs ++ names) → IsAwaiting k v due rest names
  stood u v h t done vs ps d marks mine all waiting tr passed =
      let its : List Pointer = home_pointers k.setting.table h t (home_value k.graph h) in
      record {
        done = done;
        pointers = its ++ ps;
        all_among = all_append (Among (all_pointers k.setting k.graph)) its ps (all_mine its (all_pointers k.setting k.graph) mine) all;
        pending =
            ap reverse (passed.pending ∙ ap (λ xs. u.cells.pending.items ++ reverse xs) (home_waits k.setting.table h k t (home_value k.graph h)))
            ∙ pending_joined k.setting k.graph k u.cells.pending.items (pending_all k ps) its waiting
            ∙ sym (flat_map-append (λ (p : Pointer). pending_of k p.home p.node p.class p.to p.cell) its ps);
        steps = vs;
        deferring = record {
          deferral = subst (λ ds. Deferral k.setting k.graph done ds vs) (due_joined k.setting k.graph its ps due) d;
          tracing = tr;
          naming = passed.naming;
          stand = subst (λ marks. Stand marks done) (sym (ap (λ z. z.items) passed.stands)) marks;
        };
      }

  -- the entries and the names of a cell, and then those of the other steps
  cell_entries : (p : Pointer) (c : CellId) (vs : List Step) → untested (flat_map (step_entries k.setting k.graph) (referent_stands p c.0 ∷ vs)) ++ rest
      ≡ home_due k (home.Cell c) p.to ++ (untested (flat_map (step_entries k.setting k.graph) vs) ++ rest)
  cell_entries p c vs =
      ap (λ ms. ms ++ rest) (referent_entries k.setting k.graph p c.0 vs)
      ∙ append_assoc (home_due k (home.Cell c) p.to) (untested (flat_map (step_entries k.setting k.graph) vs)) rest

  cell_names : (p : Pointer) (c : CellId) (vs : List Step) → flat_map (step_names k.setting k.graph) (referent_stands p c.0 ∷ vs) ++ names
      ≡ names_in (home_due k (home.Cell c) p.to) ++ (flat_map (step_names k.setting k.graph) vs ++ names)
  cell_names p c vs =
      ap (λ ns. (ns ++ flat_map (step_names k.setting k.graph) vs) ++ names) (referent_names k.setting k.graph p c.0)
      ∙ append_assoc (names_in (home_due k (home.Cell c) p.to)) (flat_map (step_names k.setting k.graph) vs) names

  enter_cell : (s : IsPart k) (u : Walker) (c : CellId) (p : Pointer) (done : Placed_cells) (vs : List Step) (ps : List Pointer) → HasType k.graph c.0 p.to
      → Deferral k.setting k.graph done (due_of k.setting.table (standing_cell k.graph p c.0) ++ (map due_referent ps ++ due)) vs → Stand u.cells.stands.items done
      → AllByRecursion (Among (all_pointers k.setting k.graph)) ps → reverse u.cells.pending.items ≡ pending_all k ps
      → IsTracing k u.progress (untested (flat_map (step_entries k.setting k.graph) (referent_stands p c.0 ∷ vs)) ++ rest)
      → IsNaming k u.cells (flat_map (step_names k.setting k.graph) (referent_stands p c.0 ∷ vs) ++ names) → Entering u (home.Cell c) (named.Cell c) p.to
  enter_cell s u c p done vs ps typed d marks all waiting tr nm = record {
    its = cell_has_home k s c p.to typed;
    later = untested (flat_map (step_entries k.setting k.graph) vs) ++ rest;
    after_names = flat_map (step_names k.setting k.graph) vs ++ names;
    tracing = subst (λ ms. IsTracing k u.progress ms) (cell_entries p c vs) tr;
    naming = subst (λ ns. IsNaming k u.cells ns) (cell_names p c vs) nm;
    after = λ v t passed. stood u v (home.Cell c) p.to done vs ps d marks (in_cell k.setting k.graph c.0 p.to typed) all waiting t passed;
  }

  entered : (s : IsPart k) (u v : Walker) (next : Pending) (n : IsNext k u next due rest names) (vs : List Step) → stands_at v.cells.stands.items next.cell.0 ≡ true
      → ((d : ℕ) → (d ≡ next.cell.0 → ⊥) → stands_at v.cells.stands.items d ≡ stands_at u.cells.stands.items d) → v.cells.count ≡ u.cells.count
      → v.cells.numbers ≡ u.cells.numbers → v.cells.pending ≡ u.cells.pending → v.progress ≡ u.progress
      → Deferral k.setting k.graph ((n.pointer.class, next.cell.0) ∷ n.done)
      (due_of k.setting.table (standing_cell k.graph n.pointer next.cell.0) ++ (map due_referent n.pointers ++ due)) vs
      → n.steps ≡ referent_stands n.pointer next.cell.0 ∷ vs → Entering v (home.Cell next.cell) (named.Cell next.cell) n.pointer.to
  entered s u v next n vs set others ec en eq ep d is =
      enter_cell s v next.cell n.pointer ((n.pointer.class, next.cell.0) ∷ n.done) vs n.pointers (typed_cell k s n.pointer n.among next.cell.0 n.cell) d
      (marked_more u.cells.stands.items v.cells.stands.items next.cell.0 n.pointer.class n.done n.deferring.stand set others) n.all_among
      (ap reverse (ap (λ z. z.items) eq) ∙ n.pending)
      (subst (λ us. IsTracing k v.progress (untested (flat_map (step_entries k.setting k.graph) us) ++ rest)) is
      (subst (λ q. IsTracing k q (untested (flat_map (step_entries k.setting k.graph) n.steps) ++ rest)) (sym ep) n.deferring.tracing))
      (subst (λ us. IsNaming k v.cells (flat_map (step_names k.setting k.graph) us ++ names)) is (same_naming k u.cells v.cells _ ec en n.deferring.naming))

  -- a cell that is not marked does not stand
  not_placed : (marks : List Bool) (done : Placed_cells) (c : ℕ) → Stand marks done → true ≡ not (stands_at marks c) → IsPlaced done c → ⊥
  not_placed marks done c s first placed =
      let was : stands_at marks c ≡ true = (s c).1 placed in
      let never : stands_at marks c ≡ false = not_false (stands_at marks c) first in
      let z : true ≡ false = sym was ∙ never in
      cc

  pub entering : (u v : Walker) (next : Pending) → IsPart k → IsNext k u next due rest names → true ≡ not (stands_at u.cells.stands.items next.cell.0)
      → stands_at v.cells.stands.items next.cell.0 ≡ true
      → ((d : ℕ) → (d ≡ next.cell.0 → ⊥) → stands_at v.cells.stands.items d ≡ stands_at u.cells.stands.items d) → v.cells.count ≡ u.cells.count
      → v.cells.numbers ≡ u.cells.numbers → v.cells.pending ≡ u.cells.pending → v.progress ≡ u.progress → Entering v (home.Cell next.cell) (named.Cell next.cell) next.to.0
  entering u v next s n first set others ec en eq ep =
      let f =
      first_time k.setting k.graph n.done n.pointer (map due_referent n.pointers ++ due) n.steps next.cell.0 n.cell
      (not_placed u.cells.stands.items n.done next.cell.0 n.deferring.stand first) (inverted k.setting k.graph n.deferring.deferral) in
      subst (λ t. Entering v (home.Cell next.cell) (named.Cell next.cell) t) n.to (entered s u v next n f.0 set others ec en eq ep f.1 f.2)
