-- Pointers that are members: the node, the pending referent, and a cell that gets its number.
-- `s` is a state, `ws` are agreements, `os` pending referents, `b` is what was built.
use Rattle.std.proofs.Common.{◌≡◌, ◌≤◌, ℕ, ◌+◌, false, List, [], ◌∷◌, ◌++◌, length, take, drop, map, Option, Some, Result, Ok, Err, OnOk, OnErr, refl, sym, ap, ◌∙◌, subst, arith, length-append}
use Rattle.std.specs.List.{AllByRecursion}
use Rattle.std.proofs.lemmas.List.{map-append, length-map}
use Rattle.nd_types.specs.declared.types.Class.{Class}
use Rattle.nd_types.specs.declared.types.TypeId.{TypeId}
use Rattle.nd_value.specs.declared.item.Home.{Home}
use Rattle.nd_value.specs.declared.value.CellId.{CellId}
use Rattle.nd_value.specs.Agreement.{Agreement}
use Rattle.nd_value.specs.Seen.{cell_number}
use Rattle.nd_value.specs.Setting.{cell_at, unread}
use Rattle.nd_value.specs.Tree as tree
use Rattle.nd_value.specs.Tree.{Flat, Referent, Tree}
use Rattle.nd_flat.specs.Building.{Building, with_cell, with_graph, with_nodes}
use Rattle.ndr_decoder_laws.specs.steps.Steps as steps
use Rattle.ndr_decoder_laws.specs.steps.Steps.{State, with_fresh, with_names}
use Rattle.ndr_decoder_state.proofs.Outside.{cells_stay}
use Rattle.ndr_decoder_state.specs.Seen.{Outside, owed_of, agreement_of, state_of}
use Rattle.ndr_decoder_state.specs.declared.machine.Machine.{Machine}
use Rattle.ndr_decoder_state.specs.declared.machine.Owed.{Owed}
use Rattle.ndr_decoder_state.specs.declared.machine.Wanted.{Wanted}
use Rattle.ndr_decoder_fast.specs.Structs.{with_part, owed_with, pointer_read}

-- ## A pending referent more

pub none_taken : (ws : List Wanted) → map agreement_of (take 0 (drop 0 ws)) ≡ []
none_taken [] = refl
none_taken (w ∷ ws) = refl

-- a referent of a pointer without agreements
abbrev pub new_owed : Class → TypeId → ℕ → Option CellId → Owed
new_owed class to run cell = record { class = class; to = to; run = run; cell = cell; from = 0; len = 0 }

fresh_is : (ws : List Wanted) (os new : List Owed) (class : Class) (to : TypeId) (run : ℕ) (cell : Option CellId) → new ≡ os ++ new_owed class to run cell ∷ []
    → map (owed_of ws) new ≡ owed_with class to run (cell_number cell) (map (owed_of ws) os)
fresh_is ws os new class to run cell e =
    ap (map (owed_of ws)) e ∙ map-append (owed_of ws) os (new_owed class to run cell ∷ [])
    ∙ ap (λ (l : List Agreement). map (owed_of ws) os ++ record { class = class; to = to.0; run = run; cell = cell_number cell; agreements = l } ∷ []) (none_taken ws)

-- the state after the node and the pending referent
pub owing_is : (s t : State) (ws : List Wanted) (os new : List Owed) (class : Class) (to : TypeId) (run : ℕ) (cell : Option CellId)
    → t ≡ with_part (tree.Ptr (cell_number cell), 0) s.fresh s.cells s → t.fresh ≡ map (owed_of ws) os → new ≡ os ++ new_owed class to run cell ∷ []
    → with_fresh (map (owed_of ws) new) t ≡ with_part (tree.Ptr (cell_number cell), 0) (owed_with class to run (cell_number cell) s.fresh) s.cells s
owing_is s t ws os new class to run cell e f p =
    let same : map (owed_of ws) os ≡ s.fresh = sym f ∙ ap (λ (q : State). q.fresh) e in
    ap (λ (q : State). with_fresh (map (owed_of ws) new) q) e
    ∙ ap (λ (l : List steps.Owed). with_part (tree.Ptr (cell_number cell), 0) l s.cells s) (fresh_is ws os new class to run cell p ∙ ap (owed_with class to run (cell_number cell)) same)

-- its agreements are within any
spans_more : (ws : List Wanted) (os new : List Owed) (class : Class) (to : TypeId) (run : ℕ) (cell : Option CellId) → new ≡ os ++ new_owed class to run cell ∷ []
    → AllByRecursion (λ (o : Owed). o.from + o.len ≤ length ws) os → AllByRecursion (λ (o : Owed). o.from + o.len ≤ length ws) new
spans_more ws os new class to run cell e h =
    subst (AllByRecursion (λ (o : Owed). o.from + o.len ≤ length ws)) (sym e) (joined os h)
  where
    joined : (os : List Owed) → AllByRecursion (λ (o : Owed). o.from + o.len ≤ length ws) os
        → AllByRecursion (λ (o : Owed). o.from + o.len ≤ length ws) (os ++ new_owed class to run cell ∷ [])
    joined [] h = (omega arith, tt)
    joined (o ∷ os) h = (h.0, joined os h.1)

pub spans_pushed : {T E : Type 0} (ws : List Wanted) (os new : List Owed) (class : Class) (to : TypeId) (run : ℕ) (cell : Option CellId) (r : Result T E)
    → OnOk r (new ≡ os ++ new_owed class to run cell ∷ []) → OnErr r (new ≡ os)
    → AllByRecursion (λ (o : Owed). o.from + o.len ≤ length ws) os → AllByRecursion (λ (o : Owed). o.from + o.len ≤ length ws) new
spans_pushed ws os new class to run cell (Ok t) ok err h = spans_more ws os new class to run cell ok h
spans_pushed ws os new class to run cell (Err e) ok err h = subst (AllByRecursion (λ (o : Owed). o.from + o.len ≤ length ws)) (sym err) h

-- ## A cell that gets its number

-- the state of a machine with another builder
abbrev pub with_builder : Building → State → State
with_builder b s = record {
  pc = s.pc;
  phase = s.phase;
  at = s.at;
  max = s.max;
  max_at = s.max_at;
  tag = s.tag;
  carrier = s.carrier;
  top = s.top;
  stack = s.stack;
  nodes = b.nodes;
  own = s.own;
  members = s.members;
  firsts = s.firsts;
  fresh = s.fresh;
  cells = map (λ c. c.of) b.graph.cells;
  numbers = s.numbers;
}

pub reserved_is : (s : State) (b new : Building) (of : ℕ) → new ≡ with_graph (with_cell of b.graph) b → s.nodes ≡ b.nodes → s.cells ≡ map (λ c. c.of) b.graph.cells
    → with_builder new s ≡ with_names (s.cells ++ of ∷ []) s.numbers s
reserved_is s b new of e ns cs =
    ap (λ (x : Building). with_builder x s) e
    ∙ ap (λ (l : List Flat). with_builder (with_nodes l (with_graph (with_cell of b.graph) b)) s) (sym ns)
    ∙ ap (λ (l : List ℕ). with_names l s.numbers s) (map-append (λ (c : Referent). c.of) b.graph.cells (record { of = of; val = unread } ∷ []) ∙ ap (λ (l : List ℕ). l ++ of ∷ []) (sym cs))

-- the next cell's number
pub next_cell : (m : Machine) (n : ℕ) → n ≡ length m.builder.graph.cells + 1 → n ≡ length (state_of m).cells + 1
next_cell m n e = e ∙ ap (λ (k : ℕ). k + 1) (sym (length-map m.builder.graph.cells (λ c. c.of)))

-- the state after a cell, the node and the pending referent
pub new_is : (s s1 s2 : State) (class : Class) (to : TypeId) (run : ℕ) (cell : CellId) → s1 ≡ with_names (s.cells ++ to.0 ∷ []) s.numbers s → cell.0 ≡ length s.cells + 1
    → s2 ≡ with_part (tree.Ptr (Some cell.0), 0) (owed_with class to run (Some cell.0) s1.fresh) s1.cells s1 → s2 ≡ pointer_read class to run false s
new_is s s1 s2 class to run cell e n d =
    d
    ∙ ap (λ (q : State). with_part (tree.Ptr (Some cell.0), 0) (owed_with class to run (Some cell.0) q.fresh) q.cells q) e
    ∙ ap (λ (k : ℕ). with_part (tree.Ptr (Some k), 0) (owed_with class to run (Some k) s.fresh) (s.cells ++ to.0 ∷ []) s) n

pub one_cell_more : (s : State) (class : Class) (to : TypeId) (run : ℕ) → length (pointer_read class to run false s).cells ≡ length s.cells + 1
one_cell_more s class to run = length-append s.cells (to.0 ∷ [])

-- the cell is counted
pub cells_counted : (s s1 : State) (class : Class) (to : TypeId) (run n n1 : ℕ) → s1 ≡ pointer_read class to run false s → n1 ≡ n + 1 → n1 + length s.cells ≡ n + length s1.cells
cells_counted s s1 class to run n n1 e more =
    let cells : length s1.cells ≡ length s.cells + 1 = ap (λ (q : State). length q.cells) e ∙ one_cell_more s class to run in
    omega (arith, cells, more)

-- nothing more is, whatever comes of it
pub cells_idle : {T E : Type 0} (s : State) (class : Class) (to : TypeId) (run n n1 : ℕ) → n1 ≤ n + 1 → (r : Result T E)
    → OnErr r (n1 + length s.cells ≤ n + length (pointer_read class to run false s).cells)
cells_idle s class to run n n1 most (Ok t) = tt
cells_idle s class to run n n1 most (Err e) = let cells : length (pointer_read class to run false s).cells ≡ length s.cells + 1 = one_cell_more s class to run in omega (arith, cells, most)

-- ## What is outside

abbrev outside_with : Home → Building → (ℕ → Tree) → Outside
outside_with h b v = record {
  home = h;
  open_home = b.home;
  roots = b.graph.roots;
  value = v;
  op = b.op;
  side = b.side;
  interface = b.interface;
  given = b.given;
}

abbrev pub outside_by : Home → Building → Outside
outside_by h b = outside_with h b (cell_at b.graph)

pub outside_stays : (h : Home) (b new : Building) (of : ℕ) → new ≡ with_graph (with_cell of b.graph) b → outside_by h new ≡ outside_by h b
outside_stays h b new of e = ap (outside_by h) e ∙ ap (outside_with h b) (cells_stay b.graph of)
