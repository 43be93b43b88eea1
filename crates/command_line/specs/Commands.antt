-- A command of the code as the command that it is. `why` is none of the code: its words are taken before.
use Rattle.std.specs.Prelude.{◌≡◌, ◌≤◌, Option, None, Some, option_map, ⊤}
use Rattle.nd_types.specs.declared.types.Side.{Side}
use Rattle.nd_types.specs.declared.types.Side.TheVariants.{Out}
use Rattle.idl_grammar.specs.Files.{seen_idl}
use Rattle.command_line.specs.Words as words
use Rattle.command_line.specs.declared.TheConstants.{COUNT_LIMIT, LEAST_MAX}
use Rattle.command_line.specs.declared.command.Subject.{Subject}
use Rattle.command_line.specs.declared.command.Command.{Command}
use Rattle.command_line.specs.declared.command.Task.{Task}
use Rattle.command_line.specs.declared.command.Task.TheVariants.{Read, Encode, Migrate}
use Rattle.command_line.specs.declared.command.Command.TheVariants.{Values, Compile, Plan, Call, Wrap, Compat, Sample, Help, Version}

abbrev pub subject_of : Subject → words.Subject
subject_of of = record { idl = seen_idl of.idl; acf = option_map (λ a. a.now) of.acf; op = of.op.now; side = of.side }

abbrev pub command_of : Command → words.Command
command_of (Values task of given) = words.Values task (subject_of of) (option_map (λ t. t.now) given)
command_of (Compile idl acf) = words.Compile (seen_idl idl) (option_map (λ a. a.now) acf)
command_of (Plan idl acf) = words.Plan (seen_idl idl) (option_map (λ a. a.now) acf)
command_of (Call idl acf op) = words.Call (seen_idl idl) (option_map (λ a. a.now) acf) (option_map (λ a. a.now) op)
command_of (Wrap of order call max) = words.Wrap (subject_of of) order call max
command_of (Compat old old_acf new new_acf why) =
    words.Compat (seen_idl old) (option_map (λ a. a.now) old_acf) (seen_idl new) (option_map (λ a. a.now) new_acf) why
command_of (Sample seed count) = words.Sample seed count
command_of Help = words.Help
command_of Version = words.Version

-- a chunk of a pipe has at least one element
abbrev pub HasChunks : Task → Type 0
HasChunks (Read how order) = ⊤
HasChunks (Encode order chunk) = 1 ≤ chunk
HasChunks Migrate = ⊤

-- outputs alone are judged beside a request
abbrev pub IsJudged : {X : Type 0} → Side → Option X → Type 0
IsJudged side None = ⊤
IsJudged side (Some text) = side ≡ Out

-- what its words say of the parts of a command
abbrev pub IsWellFormed : Command → Type 0
IsWellFormed (Values task of given) = HasChunks task × IsJudged of.side given
IsWellFormed (Wrap of order call max) = LEAST_MAX ≤ max
IsWellFormed (Sample seed count) = (1 ≤ count) × (count ≤ COUNT_LIMIT)
IsWellFormed _ = ⊤
