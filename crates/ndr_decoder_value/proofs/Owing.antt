-- Pointers: the node, the pending referent, and a cell that gets its number.
-- `s` is a state, `ws` are agreements, `os` pending referents, `b` is what was built.
use Rattle.std.proofs.Common.{◌≡◌, ◌≤◌, ℕ, ◌+◌, List, [], ◌∷◌, ◌++◌, length, map, Option, Some, None, Result, Ok, Err, OnOk, OnErr, sym, ap, ◌∙◌, subst, arith}
use Rattle.std.specs.List.{AllByRecursion}
use Rattle.std.proofs.lemmas.List.{map-append}
use Rattle.nd_types.specs.declared.types.Class.{Class}
use Rattle.nd_types.specs.declared.types.TypeId.{TypeId}
use Rattle.nd_value.specs.declared.value.CellId.{CellId}
use Rattle.nd_value.specs.Agreement.{Agreement}
use Rattle.nd_value.specs.Seen.{cell_number}
use Rattle.nd_value.specs.Tree as tree
use Rattle.nd_value.specs.Tree.{Flat, Referent}
use Rattle.nd_value.specs.Setting.{unread}
use Rattle.nd_flat.specs.Building.{Building, with_cell, with_graph, with_nodes}
use Rattle.ndr_decoder_laws.specs.steps.Steps as steps
use Rattle.ndr_decoder_laws.specs.steps.Steps.{State, Outcome, goes, with_node, with_fresh, with_names, owing, new_cell, done_after}
use Rattle.ndr_decoder_state.specs.declared.machine.Owed.{Owed}
use Rattle.ndr_decoder_state.specs.declared.machine.Wanted.{Wanted}
use Rattle.ndr_decoder_state.specs.Seen.{owed_of}
use Rattle.ndr_decoder_fast.proofs.Owing.{none_taken}

-- ## A pending referent more

-- a referent of a pointer without agreements
abbrev pub new_owed : Class → TypeId → ℕ → Option CellId → Owed
new_owed class to run cell = record { class = class; to = to; run = run; cell = cell; from = 0; len = 0 }

-- and as states have it
abbrev owed_with : Class → TypeId → ℕ → Option CellId → List Agreement → steps.Owed
owed_with class to run cell ws = record { class = class; to = to.0; run = run; cell = cell_number cell; agreements = ws }

pub owed_is : (ws : List Wanted) (class : Class) (to : TypeId) (run : ℕ) (cell : Option CellId)
    → owed_of ws (new_owed class to run cell) ≡ owed_with class to run cell []
owed_is ws class to run cell =
    ap (owed_with class to run cell) (none_taken ws)

pub fresh_is : (ws : List Wanted) (os new : List Owed) (class : Class) (to : TypeId) (run : ℕ) (cell : Option CellId) → new ≡ os ++ new_owed class to run cell ∷ []
    → map (owed_of ws) new ≡ map (owed_of ws) os ++ owed_with class to run cell [] ∷ []
fresh_is ws os new class to run cell e =
    ap (map (owed_of ws)) e ∙ map-append (owed_of ws) os (new_owed class to run cell ∷ [])
    ∙ ap (λ (o : steps.Owed). map (owed_of ws) os ++ o ∷ []) (owed_is ws class to run cell)

-- the state after the node and the pending referent
pub owing_is : (s t : State) (ws : List Wanted) (os new : List Owed) (class : Class) (to : TypeId) (run : ℕ) (cell : Option CellId)
    → t ≡ with_node (tree.Ptr (cell_number cell), 0) None s → t.fresh ≡ map (owed_of ws) os → new ≡ os ++ new_owed class to run cell ∷ []
    → owing class to run (cell_number cell) s ≡ with_fresh (map (owed_of ws) new) t
owing_is s t ws os new class to run cell e f p =
    let same : s.fresh ≡ map (owed_of ws) os = sym (ap (λ (q : State). q.fresh) e) ∙ f in
    ap (λ (l : List steps.Owed). with_fresh (l ++ owed_with class to run cell [] ∷ []) (with_node (tree.Ptr (cell_number cell), 0) None s)) same
    ∙ ap (λ (l : List steps.Owed). with_fresh l (with_node (tree.Ptr (cell_number cell), 0) None s)) (sym (fresh_is ws os new class to run cell p))
    ∙ ap (λ (q : State). with_fresh (map (owed_of ws) new) q) (sym e)

-- its agreements are within any
pub spans_more : (ws : List Wanted) (os new : List Owed) (class : Class) (to : TypeId) (run : ℕ) (cell : Option CellId) → new ≡ os ++ new_owed class to run cell ∷ []
    → AllByRecursion (λ (o : Owed). o.from + o.len ≤ length ws) os → AllByRecursion (λ (o : Owed). o.from + o.len ≤ length ws) new
spans_more ws os new class to run cell e h =
    subst (AllByRecursion (λ (o : Owed). o.from + o.len ≤ length ws)) (sym e) (joined os h)
  where
    joined : (os : List Owed) → AllByRecursion (λ (o : Owed). o.from + o.len ≤ length ws) os
        → AllByRecursion (λ (o : Owed). o.from + o.len ≤ length ws) (os ++ new_owed class to run cell ∷ [])
    joined [] h = (omega arith, tt)
    joined (o ∷ os) h = (h.0, joined os h.1)

pub spans_pushed : {T E : Type 0} (ws : List Wanted) (os new : List Owed) (class : Class) (to : TypeId) (run : ℕ) (cell : Option CellId) (r : Result T E)
    → OnOk r (new ≡ os ++ new_owed class to run cell ∷ []) → OnErr r (new ≡ os)
    → AllByRecursion (λ (o : Owed). o.from + o.len ≤ length ws) os → AllByRecursion (λ (o : Owed). o.from + o.len ≤ length ws) new
spans_pushed ws os new class to run cell (Ok t) ok err h = spans_more ws os new class to run cell ok h
spans_pushed ws os new class to run cell (Err e) ok err h = subst (AllByRecursion (λ (o : Owed). o.from + o.len ≤ length ws)) (sym err) h

-- ## A cell that gets its number

-- the state of a machine with another builder
abbrev pub with_builder : Building → State → State
with_builder b s = record {
  pc = s.pc;
  phase = s.phase;
  at = s.at;
  max = s.max;
  max_at = s.max_at;
  tag = s.tag;
  carrier = s.carrier;
  top = s.top;
  stack = s.stack;
  nodes = b.nodes;
  own = s.own;
  members = s.members;
  firsts = s.firsts;
  fresh = s.fresh;
  cells = map (λ c. c.of) b.graph.cells;
  numbers = s.numbers;
}

pub reserved_is : (s : State) (b new : Building) (of : ℕ) → new ≡ with_graph (with_cell of b.graph) b → s.nodes ≡ b.nodes → s.cells ≡ map (λ c. c.of) b.graph.cells
    → with_builder new s ≡ with_names (s.cells ++ of ∷ []) s.numbers s
reserved_is s b new of e ns cs =
    ap (λ (x : Building). with_builder x s) e
    ∙ ap (λ (l : List Flat). with_builder (with_nodes l (with_graph (with_cell of b.graph) b)) s) (sym ns)
    ∙ ap (λ (l : List ℕ). with_names l s.numbers s) (map-append (λ (c : Referent). c.of) b.graph.cells (record { of = of; val = unread } ∷ []) ∙ ap (λ (l : List ℕ). l ++ of ∷ []) (sym cs))

pub same_goes : (s t : State) → goes s ≡ goes t → s ≡ t
same_goes s t e = ap (goes_to s) e
  where
    goes_to : State → Outcome → State
    goes_to s (goes t) = t
    goes_to s _ = s

-- the state after a cell, the node and the pending referent
pub new_is : (s s1 s2 s3 : State) (class : Class) (to : TypeId) (run : ℕ) (cell : CellId) → s1 ≡ with_names (s.cells ++ to.0 ∷ []) s.numbers s
    → cell.0 ≡ length s.cells + 1 → goes (owing class to run (Some cell.0) s1) ≡ goes s2 → s3 ≡ done_after 4 s2 → goes (done_after 4 (new_cell class to run s)) ≡ goes s3
new_is s s1 s2 s3 class to run cell e n d p =
    ap (λ (k : ℕ). goes (done_after 4 (owing class to run (Some k) (with_names (s.cells ++ to.0 ∷ []) s.numbers s)))) (sym n)
    ∙ ap (λ (q : State). goes (done_after 4 (owing class to run (Some cell.0) q))) (sym e)
    ∙ ap (λ (q : State). goes (done_after 4 q)) (same_goes (owing class to run (Some cell.0) s1) s2 d)
    ∙ ap goes (sym p)
