-- What contracts see of a stream that is being decoded.
-- `x` is a stream, `m` its machine.
use Rattle.std.specs.Prelude.{◌≡◌, ◌≤◌, ℕ, ◌+◌, length, List, [], ◌∷◌, ◌++◌, map, reverse, Option, Some, None}
use Rattle.std.specs.List.{AllByRecursion}
use Rattle.nd_value.specs.Seen.{cell_number}
use Rattle.nd_value.specs.declared.value.CellId.{CellId}
use Rattle.nd_flat.specs.Building.{closed}
use Rattle.ndr_decoder_laws.specs.declared.first.First.{First}
use Rattle.ndr_decoder_laws.specs.declared.first.First.TheVariants as first
use Rattle.ndr_decoder_laws.specs.steps.Steps.{Owed}
use Rattle.ndr_decoder_state.specs.declared.machine.Machine.{Machine}
use Rattle.ndr_decoder_state.specs.declared.machine.Owed as code
use Rattle.ndr_decoder_state.specs.declared.machine.Wanted.{Wanted}
use Rattle.ndr_decoder_state.specs.Seen.{owed_of, state_of}
use Rattle.ndr_decoder_laws.specs.declared.kept.Kept.{Kept}
use Rattle.ndr_decoder_laws.specs.declared.kept.KeptRoot.{KeptRoot}
use Rattle.ndr_decoder_laws.specs.stream.Between.{Between, CellKept, cell_read, named_by, root_read}
use Rattle.ndr_decoder_stream.specs.declared.stream.Stream.{Stream}

-- the pending referents, from the next on, with the agreements of their pointers
abbrev pub pending_in : List Wanted → List code.Owed → List Owed
pending_in ws os = map (owed_of ws) (reverse os)

-- the same after the one that was taken from them or given, if one was
abbrev pub pending_with : Option code.Owed → List Wanted → List code.Owed → List Owed
pending_with None ws os = pending_in ws os
pending_with (Some o) ws os = owed_of ws o ∷ pending_in ws os

-- the agreements of each of them are among those
abbrev pub AreSpans : List Wanted → List code.Owed → Type 0
AreSpans ws os = AllByRecursion (λ (o : code.Owed). o.from + o.len ≤ length ws) os

abbrev pub between_of : Stream → Between
between_of x = record {
  at = x.machine.at;
  pending = pending_in x.wanted.items x.todo.items;
  cells = map (λ c. c.of) x.machine.builder.graph.cells;
  numbers = x.machine.referents;
  roots = x.roots.items;
  read = x.cells.items;
  graph = closed x.machine.builder;
}

-- the same is kept as before, but in the machine
pub record KeepsAll (x y : Stream) : Type 0 where
  pub wanted : y.wanted.items ≡ x.wanted.items
  pub todo : y.todo.items ≡ x.todo.items
  pub roots : y.roots.items ≡ x.roots.items
  pub cells : y.cells.items ≡ x.cells.items

-- the same is kept as before, but of cells
pub record KeepsOthers (x y : Stream) : Type 0 where
  pub machine : y.machine ≡ x.machine
  pub wanted : y.wanted.items ≡ x.wanted.items
  pub todo : y.todo.items ≡ x.todo.items
  pub roots : y.roots.items ≡ x.roots.items

-- what a home's first node is kept as, if it was read
abbrev pub HasOwn : Machine → Kept → Type 0
HasOwn m k = (f : First) → m.own ≡ Some f → (k.first ≡ f) × (k.max_at ≡ m.max_at)

-- the same is kept of homes
pub record KeepsHomes (x y : Stream) : Type 0 where
  pub roots : y.roots.items ≡ x.roots.items
  pub cells : y.cells.items ≡ x.cells.items

-- the pointers of the home are forgotten; the place, the graph and the numbers of full pointers stay
pub record IsCleared (m n : Machine) : Type 0 where
  pub at : n.at ≡ m.at
  pub builder : n.builder ≡ m.builder
  pub referents : n.referents ≡ m.referents
  pub none_fresh : n.fresh.items ≡ []

-- the machine has more room, and else is as it was
pub record IsSame (m n : Machine) : Type 0 where
  pub at : n.at ≡ m.at
  pub builder : n.builder ≡ m.builder
  pub referents : n.referents ≡ m.referents
  pub fresh : n.fresh.items ≡ m.fresh.items
  pub wanted : n.wanted.items ≡ m.wanted.items

-- A root was kept, and its pointers are pending.
pub record RootEnds (x y : Stream) : Type 0 where
  pub k : KeptRoot
  pub own : HasOwn x.machine k.own
  pub cell : cell_number k.cell ≡ named_by k.own.first (state_of x.machine).fresh
  pub between : between_of y ≡ root_read (between_of x) (state_of x.machine) k (closed x.machine.builder)
  pub cleared : IsCleared x.machine y.machine

-- A cell was kept.
pub record CellEnds (c : ℕ) (k : Kept) (x y : Stream) : Type 0 where
  pub kept : CellKept c k x.cells.items y.cells.items
  pub others : KeepsOthers x y

-- The same, whatever is kept of it.
pub record CellPassed (c : ℕ) (x y : Stream) : Type 0 where
  pub k : Kept
  pub own : HasOwn x.machine k
  pub ends : CellEnds c k x y

-- A root that is a reference pointer was kept, and its referent, whose pointers are pending.
pub record ReferenceEnds (cell : CellId) (x y : Stream) : Type 0 where
  pub root : KeptRoot
  pub pointer : root.own ≡ record { first = first.Pointer; max_at = None }
  pub names : root.cell ≡ Some cell
  pub k : Kept
  pub own : HasOwn x.machine k
  pub kept : CellKept cell.0 k x.cells.items y.cells.items
  pub between : between_of y ≡ cell_read (between_of x) (state_of x.machine) (x.roots.items ++ root ∷ []) y.cells.items (closed x.machine.builder)
  pub cleared : IsCleared x.machine y.machine
