-- What each command makes, and why it is refused: a line for each command in each of these tables.
use Rattle.std.specs.Prelude.{◌≡◌, ◌⊎◌, ℕ, Bool, true, false, List, [], ◌∷◌, Option, ⊤}
use Rattle.nd_base.specs.declared.octets.Order.{Order}
use Rattle.nd_base.specs.Over.{SourceOver, IsUntouched}
use Rattle.nd_value.specs.Setting.{Setting}
use Rattle.ndr_pipe.specs.Ends.{AreAsBefore}
use Rattle.dceidl.specs.Asked.{drains, Seen}
use Rattle.dceidl.specs.Input.{IsMadeOf, IsOpened, IsTaskCause, HasCalled, IsNoCall, IsWrapped, IsNoWrap}
use Rattle.command_compile.specs.Compiled.{IsListed, IsPlanned, IsIdlCause}
use Rattle.command_compile.specs.Compat.{IsCompatible, IsCompatCause, IsPlaceWritten}
use Rattle.command_decode.specs.Decoded.{AreLines}
use Rattle.command_why.specs.Explained.{explained}
use Rattle.command_why.specs.declared.lookup.Explained.TheVariants.{Found, Nearest}
use Rattle.dceidl.specs.Ready.{IsAllReady, IsUnready}
use Rattle.command_line.specs.Words.{Command, Subject, Values, Compile, Plan, Call, Wrap, Compat, Why, Sample, Help, Version}
use Rattle.command_line.specs.declared.command.Reading.TheVariants.{Trace}
use Rattle.command_line.specs.declared.command.Task.{Task}
use Rattle.command_line.specs.declared.command.Task.TheVariants.{Read}
use Rattle.command_sample.specs.Nodes.{sample_lines}
use Rattle.command_refusals.specs.declared.refusal.Refusal.{Refusal}
use Rattle.command_refusals.specs.declared.refusal.Refusal.TheVariants.{Memory, BadOctets, NotCompatible}
use Rattle.command_refusals.specs.declared.refusal.CompatFault.TheVariants.{Differs}
use Rattle.dceidl.specs.declared.TheConstants.{HELP, VERSION}

-- a command makes this text
abbrev pub IsMade : Seen → Command → List ℕ → Type 0
IsMade x (Values task of given) made = (w : Setting) × IsAllReady x.files of given w × IsMadeOf x.input x.ends task w made
IsMade x (Compile idl acf) made = IsListed x.files idl acf made
IsMade x (Plan idl acf) made = IsPlanned x.files idl acf made
IsMade x (Call idl acf op) made = HasCalled x.files x.input idl acf op made
IsMade x (Wrap of order call max) made = IsWrapped x.files x.input of order call max made
IsMade x (Compat old old_acf new new_acf why) made =
    IsCompatible x.files (record { idl = old; acf = old_acf }) (record { idl = new; acf = new_acf }) made
IsMade x (Why words) made = explained words ≡ Found made
IsMade x (Sample seed count) made = made ≡ sample_lines seed count
IsMade x Help made = made ≡ HELP.now
IsMade x Version made = made ≡ VERSION.now

-- Why a command is refused, or runs out of memory: a later stage is refused only after the earlier ones, and neither the input nor an end is touched
-- before what the command speaks of is ready.
abbrev pub IsCause : Seen → Command → Refusal → Type 0
IsCause x (Values task of given) r =
    (IsUnready x.files of given r × IsUntouched x.input × AreAsBefore x.ends)
    ⊎ ((w : Setting) × IsAllReady x.files of given w × IsTaskCause x.input x.ends task w r)
IsCause x (Call idl acf op) r = IsNoCall x.files x.input idl acf op r
IsCause x (Wrap of order call max) r = IsNoWrap x.files x.input of r
IsCause x (Compile idl acf) r = IsIdlCause x.files idl acf r
IsCause x (Plan idl acf) r = IsIdlCause x.files idl acf r
IsCause x (Compat old old_acf new new_acf why) r = IsCompatCause x.files (record { idl = old; acf = old_acf }) (record { idl = new; acf = new_acf }) r
IsCause x (Why words) r = r ≡ Memory
IsCause x (Sample seed count) r = r ≡ Memory
IsCause x Help r = r ≡ Memory
IsCause x Version r = r ≡ Memory

-- Words of which there is no entry are no words of a refusal: the names that are nearest are written to out beside the line of refused words.
abbrev pub IsUnexplained : Command → List ℕ → Type 0
IsUnexplained (Why words) text = explained words ≡ Nearest text
IsUnexplained _ text = ⊥

-- Where octets are refused, `trace` writes to out the lines of the items before the fault, and the fault.
abbrev pub AreTraced : Seen → Task → Subject → Option (List ℕ) → Refusal → List ℕ → Type 0
AreTraced x (Read Trace word) of given r text =
    (w : Setting) × IsAllReady x.files of given w × (rest : SourceOver) × (order : Order) × IsOpened word x.input rest order
    × AreLines rest w order r text
AreTraced x _ of given r text = ⊥

-- What a command writes to out beside the line of a refusal: `trace` the lines of octets that are refused, `compat .. why`, where operations differ,
-- the first place at which they do.
abbrev pub IsWrittenBeside : Seen → Command → Refusal → List ℕ → Type 0
IsWrittenBeside x (Values task of given) r text = AreTraced x task of given r text
IsWrittenBeside x (Compat old old_acf new new_acf true) r text =
    (name : List ℕ) × (r ≡ NotCompatible (Differs name))
    × IsPlaceWritten x.files (record { idl = old; acf = old_acf }) (record { idl = new; acf = new_acf }) name text
IsWrittenBeside x _ r text = ⊥

-- a command is refused in this way with nothing beside it: `trace` is, unless octets are refused, and `compat .. why`, unless operations differ
abbrev pub IsUntold : Command → Refusal → Type 0
IsUntold (Values (Read Trace word) of given) (BadOctets place why) = ⊥
IsUntold (Compat old old_acf new new_acf true) (NotCompatible (Differs name)) = ⊥
IsUntold _ r = ⊤

-- whether a task is that of `trace`
abbrev pub traces : Task → Bool
traces (Read Trace word) = true
traces _ = false

-- whether a command can write to out although it is refused
abbrev pub tells : Command → Bool
tells (Values task of given) = traces task
tells (Compat old old_acf new new_acf why) = why
tells (Why words) = true
tells _ = false

-- the statuses with which a command on values can end, and which drains if this is true
abbrev pub values_statuses : Bool → List ℕ
values_statuses true = 0 ∷ 1 ∷ 3 ∷ 4 ∷ 5 ∷ 6 ∷ 7 ∷ 8 ∷ 9 ∷ []
values_statuses false = 0 ∷ 1 ∷ 3 ∷ 4 ∷ 5 ∷ 6 ∷ 7 ∷ 9 ∷ []

-- the statuses with which a command can end
abbrev pub statuses_of : Command → List ℕ
statuses_of (Values task of given) = values_statuses (drains task)
statuses_of (Compile idl acf) = 0 ∷ 4 ∷ 5 ∷ 6 ∷ 7 ∷ 9 ∷ []
statuses_of (Plan idl acf) = 0 ∷ 4 ∷ 5 ∷ 6 ∷ 7 ∷ 9 ∷ []
statuses_of (Call idl acf op) = values_statuses false
statuses_of (Wrap of order call max) = values_statuses false
statuses_of (Compat old old_acf new new_acf why) = 0 ∷ 1 ∷ 4 ∷ 5 ∷ 6 ∷ 7 ∷ 9 ∷ []
statuses_of (Why words) = 0 ∷ 2 ∷ 4 ∷ 5 ∷ []
statuses_of (Sample seed count) = 0 ∷ 4 ∷ 5 ∷ []
statuses_of Help = 0 ∷ 4 ∷ 5 ∷ []
statuses_of Version = 0 ∷ 4 ∷ 5 ∷ []
