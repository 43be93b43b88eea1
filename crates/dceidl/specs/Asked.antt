-- What a run reads from and gives to, and what it may ask for.
use Rattle.std.specs.Prelude.{◌≡◌, ◌⊎◌, ℕ, Bool, true, false, List, [], ◌∷◌, ◌++◌, Option, Some, None, ⊤}
use Rattle.nd_base.specs.Over.{FilesOver, SourceOver, IsContent, AreUntouched, IsUntouched}
use Rattle.nd_types.specs.declared.interface.Interface.{Interface}
use Rattle.nd_types.specs.Roots.{operation_named}
use Rattle.ndr_pipe.specs.Ends.{EndsSeen, AreAsBefore}
use Rattle.command_line.specs.declared.command.Reading.TheVariants.{Decode, Explain, Trace, Drain}
use Rattle.command_line.specs.declared.command.Task.{Task}
use Rattle.command_line.specs.declared.command.Task.TheVariants.{Read, Encode, Migrate}
use Rattle.command_line.specs.Words.{Command, Subject, Values, Compile, Plan, Call, Wrap, Compat, Why, Sample, Help, Version}
use Rattle.command_compile.specs.Compiled.{AsksFiles, FileNames, AreAsked, all_due}
use Rattle.command_compile.specs.Idl.{Means}
use Rattle.command_compile.specs.Compat.{AsksBoth}

-- ## What a run reads from, and the ends to which it gives the elements of pipes

-- files, input and ends over a run
pub record Seen : Type 0 where
  pub files : FilesOver
  pub input : SourceOver
  pub ends : EndsSeen

abbrev pub seen_over : FilesOver → SourceOver → EndsSeen → Seen
seen_over f s e = record { files = f; input = s; ends = e }

-- ## What a run may ask for

-- It asks for files only when they are due, and for each once; for the input only if the command reads it; and for the ends of pipes only if
-- it drains.

-- the files of the interface that a command asks for, or of the first if it asks for two
abbrev pub asks_files : Command → Option FileNames
asks_files (Values task of given) = Some (record { idl = of.idl; acf = of.acf })
asks_files (Compile idl acf) = Some (record { idl = idl; acf = acf })
asks_files (Plan idl acf) = Some (record { idl = idl; acf = acf })
asks_files (Call idl acf op) = Some (record { idl = idl; acf = acf })
asks_files (Wrap of order call max) = Some (record { idl = of.idl; acf = of.acf })
asks_files (Compat old old_acf new new_acf why) = Some (record { idl = old; acf = old_acf })
asks_files (Why words) = None
asks_files (Sample seed count) = None
asks_files Help = None
asks_files Version = None

-- whether it reads the input
abbrev pub asks_input : Command → Bool
asks_input (Values task of given) = true
asks_input (Call idl acf op) = true
asks_input (Wrap of order call max) = true
asks_input _ = false

-- whether a task gives elements to the ends of pipes
abbrev pub drains : Task → Bool
drains (Read Decode order) = false
drains (Read Explain order) = false
drains (Read Trace order) = false
drains (Read Drain order) = true
drains (Encode order chunk) = false
drains Migrate = false

abbrev pub asks_ends : Command → Bool
asks_ends (Values task of given) = drains task
asks_ends _ = false

-- The text of a request is due: the files mean an interface that has the operation.
pub record IsRequestDue (held : Option (List ℕ → Option (List ℕ))) (of : Subject) : Type 0 where
  pub file : List ℕ
  pub interface : Interface
  pub number : ℕ
  pub loaded : IsContent held of.idl.name file
  pub means : Means held of.idl file of.acf interface
  pub known : operation_named interface.operations of.op ≡ Some number

-- The text of a request is asked for when it is due: all files that the interface is of were asked for before it.
pub record AsksRequest (f : FilesOver) (of : Subject) (name : List ℕ) : Type 0 where
  pub due : IsRequestDue f.held of
  pub earlier : List (List ℕ)
  pub earlier_are : earlier ≡ all_due due.means.state.sources of.acf
  pub each_due : AreAsked f.held of.idl of.acf earlier
  pub asked : f.asked_now ≡ (f.asked ++ earlier) ++ name ∷ []

-- the files that a command asks for: those of the interface, and after them the text of a request or the files of a second interface
abbrev pub AsksFilesOf : FilesOver → Command → Type 0
AsksFilesOf f (Values task of (Some name)) = AsksFiles f (Some (record { idl = of.idl; acf = of.acf })) ⊎ AsksRequest f of name
AsksFilesOf f (Compat old old_acf new new_acf why) = AsksBoth f (record { idl = old; acf = old_acf }) (record { idl = new; acf = new_acf })
AsksFilesOf f c = AsksFiles f (asks_files c)

-- the input is left as it is if a command does not read it
abbrev pub AsksInput : SourceOver → Bool → Type 0
AsksInput s true = ⊤
AsksInput s false = IsUntouched s

-- the ends are left as they are if a command does not drain
abbrev pub AsksEnds : EndsSeen → Bool → Type 0
AsksEnds e true = ⊤
AsksEnds e false = AreAsBefore e

-- what a command asks for
pub record AsksFor (x : Seen) (c : Command) : Type 0 where
  pub files : AsksFilesOf x.files c
  pub input : AsksInput x.input (asks_input c)
  pub ends : AsksEnds x.ends (asks_ends c)

-- nothing is asked for
pub record AsksNothing (x : Seen) : Type 0 where
  pub files : AreUntouched x.files
  pub input : IsUntouched x.input
  pub ends : AreAsBefore x.ends

-- what the words of a command line ask for; None is words that are no command
abbrev pub Asks : Seen → Option Command → Type 0
Asks x None = AsksNothing x
Asks x (Some c) = AsksFor x c
