-- What a handle owns: the box at its pointer if it is full, and else nothing.
use Rattle.std.specs.Prelude.{ℕ}
use base.Fml.{Fml, ftrue, feq, fsep}
use denote.RawPtr.{Ptr}
use Rattle.std.specs.declared.option.Option.{Option}
use Rattle.std.specs.declared.option.Option.TheVariants.{None, Some}
use mir.Syntax.{Ty}
use Rattle.std.specs.contracts.impls.GlobalAllocator.TheImpl.{ghosts}
use Rattle.std_alloc.specs.Box.Ownership.{box_owns}
use Rattle.library_handles.specs.declared.held.Held.{Held}
use Rattle.library_handles.specs.contracts.held.Held.{the_row}

-- the right to free a block of the heap, which each handle of the heap has
abbrev pub heap_block : Ty → Ptr → Fml
heap_block = ghosts.dealloc_token (record { memory = record { seal = tt } })

abbrev pub handle_owns : Ptr → ℕ → Option Held → Fml
handle_owns at full None = fsep (feq ℕ full 0) ftrue
handle_owns at full (Some held) = fsep (feq ℕ full 1) (box_owns heap_block the_row at held)
