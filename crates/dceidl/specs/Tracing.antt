-- What the steps of `trace` answer.
-- `f` are files over a step, `s` is a source over a step, `e` are ends, `x` is all of these, `w` is a setting.
use Rattle.std.specs.Prelude.{◌≡◌, ℕ, List, Option, Some, None, option_map}
use Rattle.std.specs.List.{slice_get}
use Rattle.nd_base.specs.declared.octets.Order.{Order}
use Rattle.nd_base.specs.Over.{FilesOver, SourceOver}
use Rattle.nd_types.specs.declared.types.Operation.{Operation}
use Rattle.nd_value.specs.Fitting.{setting_beside}
use Rattle.nd_value.specs.Request.{IsRequestOf}
use Rattle.nd_value.specs.Setting.{Setting}
use Rattle.ndr_pipe.specs.Ends.{AreAsBefore, EndsSeen}
use Rattle.command_line.specs.declared.command.OrderWord.{OrderWord}
use Rattle.command_line.specs.declared.command.Reading.TheVariants.{Trace}
use Rattle.command_line.specs.declared.command.Task.TheVariants.{Read}
use Rattle.command_line.specs.Words.{Command, Subject}
use Rattle.command_refusals.specs.declared.refusal.Refusal.{Refusal}
use Rattle.command_decode.specs.declared.tracing.Stopped.{Stopped}
use Rattle.command_decode.specs.Decoded.{AreLines, IsOther}
use Rattle.dceidl.specs.Causes.{IsCause, IsUntold, IsWrittenBeside}
use Rattle.dceidl.specs.Input.{IsOpened, IsTaskCause}
use Rattle.dceidl.specs.Ready.{IsAllReady}
use Rattle.dceidl.specs.Asked.{Seen}
use Rattle.dceidl.specs.declared.prepared.Prepared.{Prepared}

-- What a command on values speaks of is ready, with its request if one is named.
pub record IsPrepared (f : FilesOver) (of : Subject) (given : Option (List ℕ)) (p : Prepared) : Type 0 where
  pub operation : Operation
  pub there : slice_get p.ready.interface.operations p.ready.number ≡ Some operation
  pub ready : IsAllReady f of given (setting_beside p.ready.interface operation p.ready.side (option_map (λ q. q.graph) p.request))
  pub request : IsRequestOf p.ready.interface p.ready.number p.ready.side p.request

-- the lines of octets that are refused, after their label if the command asks for one; or nothing, and no octets are refused
abbrev pub AreTaskLines : SourceOver → OrderWord → Setting → Refusal → Option (List ℕ) → Type 0
AreTaskLines s word w r (Some text) = (rest : SourceOver) × (order : Order) × IsOpened word s rest order × AreLines rest w order r text
AreTaskLines s word w r None = IsOther r

-- why the input is not explained to its end, and what is written beside the refusal
pub record IsStoppedTask (s : SourceOver) (word : OrderWord) (w : Setting) (h : Stopped) : Type 0 where
  pub cause : (e : EndsSeen) → AreAsBefore e → IsTaskCause s e (Read Trace word) w h.refusal
  pub lines : AreTaskLines s word w h.refusal h.lines

-- what a command writes beside the line of a refusal, or nothing
abbrev pub IsAllBeside : Seen → Command → Refusal → Option (List ℕ) → Type 0
IsAllBeside x c r (Some text) = IsWrittenBeside x c r text
IsAllBeside x c r None = IsUntold c r

-- why a command is refused, and what it writes beside the line
pub record IsStoppedCommand (x : Seen) (c : Command) (h : Stopped) : Type 0 where
  pub cause : IsCause x c h.refusal
  pub beside : IsAllBeside x c h.refusal h.lines
