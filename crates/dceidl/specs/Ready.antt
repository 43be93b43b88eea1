-- When the files and the operation that a command speaks of are ready, and why they are refused.
use Rattle.std.specs.Prelude.{◌≡◌, ◌⊎◌, ℕ, List, [], ◌∷◌, ◌++◌, Option, None, Some}
use Rattle.std.specs.List.{slice_get}
use Rattle.idl_grammar.specs.Files.{Idl}
use Rattle.nd_base.specs.Over.{FilesOver}
use Rattle.nd_types.specs.declared.interface.Interface.{Interface}
use Rattle.nd_types.specs.declared.types.Operation.{Operation}
use Rattle.nd_types.specs.declared.types.Side.{Side}
use Rattle.nd_types.specs.declared.types.Side.TheVariants.{Out}
use Rattle.nd_types.specs.Roots.{operation_named}
use Rattle.nd_value.specs.declared.value.Graph.{Graph}
use Rattle.nd_value.specs.Fitting.{setting_of}
use Rattle.nd_value.specs.Setting.{Setting}
use Rattle.command_line.specs.Words.{Subject}
use Rattle.command_refusals.specs.declared.refusal.Refusal.{Refusal}
use Rattle.command_refusals.specs.declared.refusal.Refusal.TheVariants.{NoOperation}
use Rattle.command_encode.specs.Encoded.{beside, HoldsRequest, HoldsNoRequest}
use Rattle.command_compile.specs.Compiled.{IsCompiled, IsIdlCause}

-- the operation of a name, by its number
pub record IsNamed (i : Interface) (name : List ℕ) (n : ℕ) (o : Operation) : Type 0 where
  pub found : operation_named i.operations name ≡ Some n
  pub is_there : slice_get i.operations n ≡ Some o

-- The files mean an interface that has the operation.
pub record IsFound (f : FilesOver) (of : Subject) (i : Interface) (n : ℕ) (o : Operation) : Type 0 where
  pub compiled : IsCompiled f of.idl of.acf i
  pub named : IsNamed i of.op n o

-- What a command on values speaks of is ready: this is their setting.
pub record IsReady (f : FilesOver) (of : Subject) (w : Setting) : Type 0 where
  pub interface : Interface
  pub number : ℕ
  pub operation : Operation
  pub found : IsFound f of interface number operation
  pub setting_is : w ≡ setting_of interface operation of.side

-- the interface has no operation of the name
abbrev pub IsUnknown : FilesOver → Subject → Type 0
IsUnknown f of = (i : Interface) × IsCompiled f of.idl of.acf i × (operation_named i.operations of.op ≡ None)

-- the same of an interface
abbrev pub IsNotFound : Interface → List ℕ → Refusal → Type 0
IsNotFound i op NoOperation = operation_named i.operations op ≡ None
IsNotFound i op _ = ⊥

-- why what a command on values speaks of is not ready: the files mean no interface, or the interface has no operation of the name
abbrev pub IsReadyCause : FilesOver → Subject → Refusal → Type 0
IsReadyCause f of NoOperation = IsUnknown f of
IsReadyCause f of refusal = IsIdlCause f of.idl of.acf refusal

-- ## Calls

-- the number of the operation whose response is read, if one is named; a request states its operation
abbrev pub IsNumbered : Interface → Option (List ℕ) → Option ℕ → Type 0
IsNumbered i None number = number ≡ None
IsNumbered i (Some name) number = (n : ℕ) × (o : Operation) × IsNamed i name n o × (number ≡ Some n)

-- What `call` speaks of is ready: the interface, and the number of the operation if one is named.
pub record IsCallReady (f : FilesOver) (idl : Idl) (acf op : Option (List ℕ)) (i : Interface) (number : Option ℕ) : Type 0 where
  pub compiled : IsCompiled f idl acf i
  pub numbered : IsNumbered i op number

-- why it is not
abbrev pub IsCallUnready : FilesOver → Idl → Option (List ℕ) → Option (List ℕ) → Refusal → Type 0
IsCallUnready f idl acf None r = IsIdlCause f idl acf r
IsCallUnready f idl acf (Some op) r = IsReadyCause f (record { idl = idl; acf = acf; op = op; side = Out }) r

-- ## Beside a request

-- files over a part of a call: up to where these names had been asked for
abbrev pub up_to : FilesOver → List (List ℕ) → FilesOver
up_to f asked = record { held = f.held; asked = f.asked; asked_now = asked; absences = f.absences; faults = f.faults }

-- What a command on values speaks of is ready, and then the file of a name was asked for.
pub record HasAsked (f : FilesOver) (of : Subject) (name : List ℕ) (w : Setting) : Type 0 where
  pub earlier : List (List ℕ)
  pub ready : IsReady (up_to f earlier) of w
  pub asked : f.asked_now ≡ earlier ++ name ∷ []

-- The file of a name holds a request, and this is the setting beside it.
pub record IsReadyBeside (f : FilesOver) (of : Subject) (name : List ℕ) (w : Setting) : Type 0 where
  pub own : Setting
  pub has_asked : HasAsked f of name own
  pub request : Graph
  pub holds : HoldsRequest f name own request
  pub setting_is : w ≡ beside own request

-- what a command on values speaks of is ready, with the request of a file if one is named: this is the setting
abbrev pub IsAllReady : FilesOver → Subject → Option (List ℕ) → Setting → Type 0
IsAllReady f of None w = IsReady f of w
IsAllReady f of (Some name) w = IsReadyBeside f of name w

-- The request of a file is refused, once all else is ready.
pub record IsUnreadyBeside (f : FilesOver) (of : Subject) (name : List ℕ) (r : Refusal) : Type 0 where
  pub own : Setting
  pub has_asked : HasAsked f of name own
  pub cause : HoldsNoRequest f name own r

-- why it is not: as without a request, or the request is refused
abbrev pub IsUnready : FilesOver → Subject → Option (List ℕ) → Refusal → Type 0
IsUnready f of None r = IsReadyCause f of r
IsUnready f of (Some name) r = IsReadyCause f of r ⊎ IsUnreadyBeside f of name r
