-- A cell that gets its number beside an item: what was noted and counted, and what is outside.
-- `x` is an item, `s` a state, `log` a log, `n` a number of steps and `k` one of cells; the second of two is what there is afterwards. `b` is what was built.
use Rattle.std.proofs.Common.{◌≡◌, ◌≤◌, ℕ, ◌+◌, [], ◌∷◌, length, Result, IsErrAnd, refl, sym, ap, ◌∙◌, subst, arith, length-append}
use Rattle.nd_types.specs.declared.types.Class.{Class}
use Rattle.nd_types.specs.declared.types.TypeId.{TypeId}
use Rattle.nd_value.specs.Logged.{Logged, noted, ticks_of}
use Rattle.nd_value.specs.declared.item.Home.{Home}
use Rattle.nd_value.specs.declared.item.Item.{Item}
use Rattle.nd_value.specs.Setting.{cell_at}
use Rattle.nd_value.specs.Tree.{Tree}
use Rattle.nd_flat.specs.Building.{Building, with_cell, with_graph}
use Rattle.ndr_decoder_laws.specs.steps.Steps.{State, goes, done_after, new_cell}
use Rattle.ndr_decoder_state.proofs.Outside.{cells_stay}
use Rattle.ndr_decoder_state.specs.Notes.{notes_seen, all_noted, ticks, all_are_noted, Noted}
use Rattle.ndr_decoder_state.specs.Seen.{Outside, state_of}
use Rattle.ndr_decoder_state.specs.declared.fault.DecodeFault.{DecodeFault}
use Rattle.ndr_decoder_state.specs.declared.fault.DecodeFault.TheVariants as fault
use Rattle.ndr_decoder_state.specs.declared.machine.Machine.{Machine}
use Rattle.ndr_decoder_value.proofs.Noting.{cell_count, memory_on}

-- ## Items and steps

-- memory was refused after the item was noted, before the cell or after it
pub stopped_at_cell : {T : Type 0} (x : Item) (s : State) (log log' : Logged) (n n' k k' : ℕ) (r : Result T DecodeFault) (e : DecodeFault)
    → IsErrAnd r (λ y. y ≡ e) → e ≡ fault.Memory → log' ≡ noted x log → n' ≤ n + ticks_of x.kind + 1 → length s.cells ≡ k + 1
    → Noted (goes s) (x ∷ []) (notes_seen log log' n n' k k') r
stopped_at_cell {T} x s log log' n n' k k' r e h m el i c =
    subst (λ (y : Result T DecodeFault). Noted (goes s) (x ∷ []) (notes_seen log log' n n' k k') y) (sym (memory_on r e h m))
    (all_are_noted s refl el (omega (arith, i, c)))

pub one_with_cell : (x : Item) (log log' : Logged) (n n' k k' : ℕ) → log' ≡ noted x log → n' ≡ n + ticks_of x.kind + 1 → k' ≡ k + 1
    → (log' ≡ all_noted (x ∷ []) log) × (n' + k ≡ n + ticks (x ∷ []) + k')
one_with_cell x log log' n n' k k' e i c = (e, omega (arith, i, c))

-- ## Cells

-- the state with the cell has one more
pub cells_after : (m : Machine) (class : Class) (to : TypeId) (run : ℕ) → length (done_after 4 (new_cell class to run (state_of m))).cells ≡ m.cells + 1
cells_after m class to run = length-append (state_of m).cells (to.0 ∷ []) ∙ ap (λ (k : ℕ). k + 1) (cell_count m)

-- a machine that came to it, too
pub one_cell_more : (m new : Machine) (class : Class) (to : TypeId) (run : ℕ) → goes (done_after 4 (new_cell class to run (state_of m))) ≡ goes (state_of new)
    → new.cells ≡ m.cells + 1
one_cell_more m new class to run e =
    sym (cell_count new) ∙ ap (λ (s : State). length s.cells) (sym (same_state _ (state_of new) e)) ∙ cells_after m class to run
  where
    same_state : (s t : State) → goes s ≡ goes t → s ≡ t
    same_state s t e = cc

-- ## What is outside

abbrev outside_with : Home → Building → (ℕ → Tree) → Outside
outside_with h b v = record {
  home = h;
  open_home = b.home;
  roots = b.graph.roots;
  value = v;
  op = b.op;
  side = b.side;
  interface = b.interface;
  given = b.given;
}

abbrev pub outside_by : Home → Building → Outside
outside_by h b = outside_with h b (cell_at b.graph)

pub outside_stays : (h : Home) (b new : Building) (of : ℕ) → new ≡ with_graph (with_cell of b.graph) b → outside_by h new ≡ outside_by h b
outside_stays h b new of e = ap (outside_by h) e ∙ ap (outside_with h b) (cells_stay b.graph of)
