-- What the clauses of `run` say, each for all commands at once: of a status by itself, and of what comes where nothing fails.
use Rattle.std.specs.Prelude.{◌≡◌, ◌⊎◌, ℕ, ◌+◌, ◌<◌, ◌++◌, Err, length, Bool, true, false, List, [], ◌∷◌, codes, decimal, take, Option, None, Some, ⊤}
use Rattle.std.specs.List.{slice_get}
use Rattle.idl_grammar.specs.Files.{Idl}
use Rattle.nd_base.specs.declared.octets.Order.{Order}
use Rattle.nd_base.specs.Over.{IsMissing, FilesOver, SourceOver, SinkOver, HasRisen, Got, IsAsBefore, Rose}
use Rattle.nd_types.specs.declared.interface.Interface.{Interface}
use Rattle.nd_types.specs.declared.types.Operation.{Operation}
use Rattle.nd_types.specs.declared.types.Side.TheVariants.{Out}
use Rattle.nd_types.specs.Roots.{operation_named}
use Rattle.nd_value.specs.declared.value.Graph.{Graph}
use Rattle.nd_value.specs.Setting.{Setting}
use Rattle.nd_value.specs.Conforms.{Conforms}
use Rattle.nd_value.specs.Fitting.{setting_of}
use Rattle.nd_grammar.specs.Stream.{Represents, BeginsWith}
use Rattle.nd_grammar.specs.Refusal.{Bad}
use Rattle.command_encode.specs.Encoded.{IsWritten, IsLong, IsMisfitAt, beside, IsRequestText, IsRequestFault}
use Rattle.text_grammar.specs.declared.TheConstants.{TEXT_LIMIT}
use Rattle.text_grammar.specs.Reads.{ReadsAs, IsTextFault}
use Rattle.nd_base.specs.Text.{joined}
use Rattle.dceidl.specs.Causes.{IsMade, IsCause, IsWrittenBeside, IsUntold, IsUnexplained, tells}
use Rattle.dceidl.specs.Held.{CanBeCompared, MustBeIncomparable, IsDueSecond, IsHeld, MustBeNoIdl}
use Rattle.command_why.specs.Explained.{explained}
use Rattle.command_why.specs.declared.lookup.Explained.TheVariants.{Found}
use Rattle.dceidl.specs.Asked.{IsRequestDue, asks_files, asks_input, Seen}
use Rattle.dceidl.specs.Input.{IsLabel, wrap_task}
use Rattle.command_streams.specs.Input.{AreGiven, IsInput}
use Rattle.command_compile.specs.Idl.{Means, IsDueFile}
use Rattle.command_refusals.specs.Lines.{status_of, line_of}
use Rattle.rpc_pdu.specs.declared.pdu.Wanted.{Wanted}
use Rattle.rpc_pdu.specs.Fragments.{Fragments}
use Rattle.rpc_pdu.specs.Fragments as pdu
use Rattle.command_call.specs.Called.{IsCall}
use Rattle.command_call.specs.Called as called
use Rattle.dceidl.specs.Ready.{IsNamed, IsNumbered}
use Rattle.command_line.specs.Words.{Command, Subject, Values, Compile, Plan, Call, Wrap, Compat, Why, Sample, Help, Version, idl_of, op_of, order_in}
use Rattle.command_compile.specs.Compiled.{FileNames}
use Rattle.ndr_prim.specs.Label.{order_of_label}
use Rattle.ndr_drain.specs.Drained.{pipe_count}
use Rattle.command_drain.specs.Printed.{AreEnough}
use Rattle.ndr_pipe.specs.Ends.{EndSeen, EndsSeen}
use Rattle.command_line.specs.declared.command.Reading.{Reading}
use Rattle.command_line.specs.declared.command.Reading.TheVariants.{Decode, Explain, Trace, Drain}
use Rattle.command_line.specs.declared.command.OrderWord.{OrderWord}
use Rattle.command_line.specs.declared.command.OrderWord.TheVariants.{Fixed, Label}
use Rattle.command_line.specs.declared.command.Task.{Task}
use Rattle.command_line.specs.declared.command.Task.TheVariants.{Read, Encode, Migrate}
use Rattle.command_refusals.specs.declared.refusal.Refusal.{Refusal}
use Rattle.command_refusals.specs.declared.refusal.Refusal.TheVariants.{BadIdl, NoOperation, BadOctets, BadText, BadValue, TooLong, BadRequest}
use Rattle.command_refusals.specs.declared.refusal.Refusal.TheVariants.{BadLabel, ShortLabel, TooFewEnds, BadPdu}
use Rattle.command_refusals.specs.declared.refusal.FragmentsFault.{FragmentsFault}
use Rattle.command_refusals.specs.declared.refusal.FragmentsFault.TheVariants as fragments
use Rattle.command_refusals.specs.declared.refusal.OctetsFault.{OctetsFault}
use Rattle.command_refusals.specs.declared.refusal.OctetsFault.TheVariants.{Refused, Trailing}
use Rattle.command_refusals.specs.declared.refusal.RequestFault.{RequestFault}

-- ## What a status says

-- A command was done: it made this text, out grew by it, and notes are as before.
pub record IsDone (x : Seen) (out notes : SinkOver) (c : Command) : Type 0 where
  pub made : List ℕ
  pub is_made : IsMade x c made
  pub given : Got out made
  pub quiet : IsAsBefore notes

-- A command was refused: for a cause, under its status and with its line on notes, and out is as before.
pub record IsRefusedWith (x : Seen) (out notes : SinkOver) (c : Command) (status : ℕ) : Type 0 where
  pub refusal : Refusal
  pub cause : IsCause x c refusal
  pub own_status : status ≡ status_of refusal
  pub line : Got notes (line_of (idl_of c) (op_of c) refusal)
  pub nothing_given : IsAsBefore out
  pub untold : IsUntold c refusal

-- A command was refused: under its status and with its line on notes, and out got what it writes beside the line.
pub record IsRefusedBeside (x : Seen) (out notes : SinkOver) (c : Command) (status : ℕ) : Type 0 where
  pub refusal : Refusal
  pub text : List ℕ
  pub beside : IsWrittenBeside x c refusal text
  pub own_status : status ≡ status_of refusal
  pub line : Got notes (line_of (idl_of c) (op_of c) refusal)
  pub given : Got out text

-- The words of `why` have no entry: the names that are nearest were given, and notes got the line of refused words.
pub record IsAnsweredNearest (out notes : SinkOver) (c : Command) (status : ℕ) : Type 0 where
  pub text : List ℕ
  pub unexplained : IsUnexplained c text
  pub own_status : status ≡ 2
  pub line : Got notes (codes "words refused\n")
  pub given : Got out text

-- what any other status than 0, 4 and 5 says of a command
abbrev pub IsRefused : Seen → SinkOver → SinkOver → Command → ℕ → Type 0
IsRefused x out notes (Why words) status = IsAnsweredNearest out notes (Why words) status
IsRefused x out notes c status = IsRefusedWith x out notes c status ⊎ IsRefusedBeside x out notes c status

-- the words are no command, or those of `why` have no entry
abbrev pub AreUnknown : Option Command → Type 0
AreUnknown None = ⊤
AreUnknown (Some c) = (text : List ℕ) × IsUnexplained c text

-- whether a run can write to out although its status is neither 0 nor 4
abbrev pub tells_refused : Option Command → Bool
tells_refused None = false
tells_refused (Some c) = tells c

-- the words are a command that reads the input
abbrev pub ReadsInput : Option Command → Type 0
ReadsInput None = ⊥
ReadsInput (Some c) = asks_input c ≡ true

-- the file of a name is due for a command: the main file, an import to which the walk comes, or the attribute file after them
abbrev pub IsDueOf : Option (List ℕ → Option (List ℕ)) → Option FileNames → List ℕ → Type 0
IsDueOf held None name = ⊥
IsDueOf held (Some named) name = IsDueFile held named.idl named.acf name

-- the text of a request is due for a command, and this is its name
abbrev pub IsDueRequest : Option (List ℕ → Option (List ℕ)) → Command → List ℕ → Type 0
IsDueRequest held (Values task of (Some text)) name = (name ≡ text) × IsRequestDue held of
IsDueRequest held _ name = ⊥

-- a file that is due only once files mean an interface: the text of a request, or a file of a second interface
abbrev pub IsDueNext : Option (List ℕ → Option (List ℕ)) → Command → List ℕ → Type 0
IsDueNext held (Compat old old_acf new new_acf why) name =
    IsDueSecond held (record { idl = old; acf = old_acf }) (record { idl = new; acf = new_acf }) name
IsDueNext held c name = IsDueRequest held c name

abbrev pub IsDue : Option Command → Option (List ℕ → Option (List ℕ)) → List ℕ → Type 0
IsDue None held name = ⊥
IsDue (Some c) held name = IsDueOf held (asks_files c) name ⊎ IsDueNext held c name

-- the file of a line is due and, where the contents of files are known, not held
abbrev pub IsDueAndMissing : Option Command → Option (List ℕ → Option (List ℕ)) → SinkOver → Type 0
IsDueAndMissing command held notes =
    (name : List ℕ) × IsDue command held name × IsMissing held name × Got notes (joined (codes "absent: " ∷ name ∷ codes "\n" ∷ []))

-- the file of a line is due
abbrev pub IsDueAndReported : Option Command → Option (List ℕ → Option (List ℕ)) → SinkOver → Type 0
IsDueAndReported command held notes = (name : List ℕ) × IsDue command held name × Got notes (joined (codes "file fault: " ∷ name ∷ codes "\n" ∷ []))

-- the count of faults of the end of this number rose
pub record EndRose (e : EndsSeen) (which : ℕ) : Type 0 where
  pub was : EndSeen
  pub is : EndSeen
  pub there : slice_get e.before which ≡ Some was
  pub now : slice_get e.now which ≡ Some is
  pub risen : Rose was.faults is.faults

-- the end of a line failed
abbrev pub IsEndReported : EndsSeen → SinkOver → Type 0
IsEndReported e notes = (which : ℕ) × EndRose e which × Got notes (joined (codes "pipe end " ∷ decimal which ∷ codes " failed\n" ∷ []))

-- ## Where nothing fails

-- no count rose
pub record HasNotFailed (x : Seen) (out notes : SinkOver) : Type 0 where
  pub found : HasRisen x.files.absences → ⊥
  pub loads : HasRisen x.files.faults → ⊥
  pub reads : HasRisen x.input.faults → ⊥
  pub ends : (which : ℕ) → EndRose x.ends which → ⊥
  pub writes : HasRisen out.faults → ⊥
  pub reports : HasRisen notes.faults → ⊥

-- no load failed, and notes did not
pub record IsSound (x : Seen) (notes : SinkOver) : Type 0 where
  pub loads : HasRisen x.files.faults → ⊥
  pub reports : HasRisen notes.faults → ⊥

-- The main file is held, the files mean this interface, it has the operation, and this is its setting.
pub record IsAccepted (f : FilesOver) (of : Subject) (w : Setting) : Type 0 where
  pub file : List ℕ
  pub interface : Interface
  pub number : ℕ
  pub operation : Operation
  pub held : IsHeld f of.idl.name file
  pub means : Means f.held of.idl file of.acf interface
  pub named : IsNamed interface of.op number operation
  pub setting_is : w ≡ setting_of interface operation of.side

-- The same beside the request of a file, which is held.
pub record IsAcceptedBeside (f : FilesOver) (of : Subject) (name : List ℕ) (w : Setting) : Type 0 where
  pub own : Setting
  pub accepted : IsAccepted f of own
  pub text : List ℕ
  pub held : IsHeld f name text
  pub request : Graph
  pub is_request : IsRequestText own text request
  pub setting_is : w ≡ beside own request

-- the same with the request of a file if one is named
abbrev pub AreAccepted : FilesOver → Subject → Option (List ℕ) → Setting → Type 0
AreAccepted f of None w = IsAccepted f of w
AreAccepted f of (Some name) w = IsAcceptedBeside f of name w

-- The octets before a place are a stream of a graph that conforms, and an octet follows.
pub record IsTrailing (w : Setting) (order : Order) (octets : List ℕ) (place : ℕ) : Type 0 where
  pub graph : Graph
  pub begins : BeginsWith w order octets place graph
  pub follows : place < length octets

-- The octets of the input are known: a label of this order if the command asks for one, and these octets after it. No fetch failed.
pub record AreGivenIn (s : SourceOver) (word : OrderWord) (order : Order) (octets : List ℕ) : Type 0 where
  pub label : List ℕ
  pub is_label : IsLabel word label order
  pub given : AreGiven s (label ++ octets)

-- There are enough ends for the pipes of a side, and none failed.
pub record AreSound (w : Setting) (e : EndsSeen) : Type 0 where
  pub enough : AreEnough w e
  pub ends : (which : ℕ) → EndRose e which → ⊥

-- a command that drains has enough ends, and none failed
abbrev pub HasEnds : Reading → Setting → EndsSeen → Type 0
HasEnds Decode w e = ⊤
HasEnds Explain w e = ⊤
HasEnds Trace w e = ⊤
HasEnds Drain w e = AreSound w e

-- something is made of the input, unless memory runs out
abbrev pub CanBeMade : SourceOver → EndsSeen → Task → Setting → Type 0
CanBeMade s e (Read how word) w =
    (order : Order) × (octets : List ℕ) × (g : Graph) × AreGivenIn s word order octets × Represents w order octets g × Conforms w g × HasEnds how w e
CanBeMade s e (Encode word chunk) w =
    (text : List ℕ) × (g : Graph) × (octets : List ℕ) × IsInput s TEXT_LIMIT text × ReadsAs w text g × Conforms w g
    × IsWritten w (order_in word) chunk g octets
CanBeMade s e Migrate w = (text : List ℕ) × (g : Graph) × IsInput s TEXT_LIMIT text × ReadsAs w text g × Conforms w g

-- The main file is held, the files mean this interface, and it has the operation if one is named.
pub record IsCallAccepted (f : FilesOver) (idl : Idl) (acf op : Option (List ℕ)) (i : Interface) (number : Option ℕ) : Type 0 where
  pub file : List ℕ
  pub held : IsHeld f idl.name file
  pub means : Means f.held idl file acf i
  pub numbered : IsNumbered i op number

-- The octets of the input are known, and are the fragments of one call, whose operation the interface has, with these stub data. No fetch failed.
pub record IsCallGiven (s : SourceOver) (i : Interface) (number : Option ℕ) (order : Order) (operation : Operation) (stub : List ℕ) : Type 0 where
  pub octets : List ℕ
  pub given : AreGiven s octets
  pub call : ℕ
  pub is_call : IsCall i number octets order call operation stub

-- the stub data are decoded, unless memory runs out
abbrev pub CanBeCalled : SourceOver → Interface → Option ℕ → Type 0
CanBeCalled s i number =
    (order : Order) × (operation : Operation) × (stub : List ℕ) × (g : Graph) × IsCallGiven s i number order operation stub
    × Represents (setting_of i operation (called.side number)) order stub g × Conforms (setting_of i operation (called.side number)) g

-- Where no load fails and notes do not, a command of which this holds is done, unless it runs out of memory or out fails.
abbrev pub CanBeDone : Seen → Command → Type 0
CanBeDone x (Values task of given) = (w : Setting) × AreAccepted x.files of given w × CanBeMade x.input x.ends task w
CanBeDone x (Call idl acf op) = (i : Interface) × (number : Option ℕ) × IsCallAccepted x.files idl acf op i number × CanBeCalled x.input i number
CanBeDone x (Wrap of order call max) = (w : Setting) × IsAccepted x.files of w × CanBeMade x.input x.ends (wrap_task order) w
CanBeDone x (Compile idl acf) = (text : List ℕ) × (i : Interface) × IsHeld x.files idl.name text × Means x.files.held idl text acf i
CanBeDone x (Plan idl acf) = (text : List ℕ) × (i : Interface) × IsHeld x.files idl.name text × Means x.files.held idl text acf i
CanBeDone x (Compat old old_acf new new_acf why) = CanBeCompared x.files (record { idl = old; acf = old_acf }) (record { idl = new; acf = new_acf })
CanBeDone x (Why words) = (text : List ℕ) × (explained words ≡ Found text)
CanBeDone x (Sample seed count) = ⊤
CanBeDone x Help = ⊤
CanBeDone x Version = ⊤

-- what a command on values speaks of is refused in this way
abbrev pub MustBeUnready : FilesOver → Subject → Refusal → Type 0
MustBeUnready f of NoOperation =
    (text : List ℕ) × (i : Interface) × IsHeld f of.idl.name text × Means f.held of.idl text of.acf i × (operation_named i.operations of.op ≡ None)
MustBeUnready f of r = MustBeNoIdl f of.idl of.acf r

-- the octets are refused at a place, or the first of them are a stream of a graph that conforms and an octet follows
abbrev pub IsRefusedAt : Setting → Order → List ℕ → ℕ → OctetsFault → Type 0
IsRefusedAt w order octets place (Refused reason) = Bad w order octets place reason
IsRefusedAt w order octets place Trailing = IsTrailing w order octets place

-- the request of a file is refused in this way
abbrev pub MustBeNoRequest : FilesOver → Subject → Option (List ℕ) → RequestFault → Type 0
MustBeNoRequest f of None why = ⊥
MustBeNoRequest f of (Some name) why =
    (own : Setting) × (text : List ℕ) × IsAccepted f of own × IsHeld f name text × IsRequestFault own text why

-- the label of the input is refused in this way
abbrev pub MustBeNoLabel : SourceOver → OrderWord → Refusal → Type 0
MustBeNoLabel s Label (BadLabel why) =
    (label : List ℕ) × (octets : List ℕ) × AreGiven s (label ++ octets) × (length label ≡ 4) × (order_of_label label ≡ Err why)
MustBeNoLabel s Label ShortLabel = (octets : List ℕ) × AreGiven s octets × (length octets < 4)
MustBeNoLabel s _ _ = ⊥

-- the octets of the input are refused in this way, or their label is, or there are too few ends for its pipes
abbrev pub MustBeNoOctets : SourceOver → EndsSeen → Reading → OrderWord → Setting → Refusal → Type 0
MustBeNoOctets s e how word w (BadLabel why) = MustBeNoLabel s word (BadLabel why)
MustBeNoOctets s e how word w ShortLabel = MustBeNoLabel s word ShortLabel
MustBeNoOctets s e how word w (BadOctets place why) =
    (order : Order) × (octets : List ℕ) × AreGivenIn s word order octets × HasEnds how w e × IsRefusedAt w order octets place why
MustBeNoOctets s e Drain word w (TooFewEnds wanted found) =
    (order : Order) × (octets : List ℕ) × AreGivenIn s word order octets × (wanted ≡ pipe_count w) × (found ≡ length e.before) × (found < wanted)
MustBeNoOctets s e how word w _ = ⊥

-- the text of the input is refused in this way
abbrev pub MustBeNoText : SourceOver → Setting → Refusal → Type 0
MustBeNoText s w (BadText line column why) = (text : List ℕ) × IsInput s TEXT_LIMIT text × IsTextFault w text line column why
MustBeNoText s w (BadValue path why) = (text : List ℕ) × (g : Graph) × IsInput s TEXT_LIMIT text × ReadsAs w text g × IsMisfitAt w g path why
MustBeNoText s w _ = ⊥

-- the same of a text that is encoded
abbrev pub MustBeNoEncoding : SourceOver → Setting → ℕ → Refusal → Type 0
MustBeNoEncoding s w chunk (TooLong many) =
    (text : List ℕ) × (g : Graph) × IsInput s TEXT_LIMIT text × ReadsAs w text g × Conforms w g × IsLong w chunk g many
MustBeNoEncoding s w chunk r = MustBeNoText s w r

-- the input is refused in this way
abbrev pub MustBeNoInput : SourceOver → EndsSeen → Task → Setting → Refusal → Type 0
MustBeNoInput s e (Read how word) w r = MustBeNoOctets s e how word w r
MustBeNoInput s e (Encode word chunk) w r = MustBeNoEncoding s w chunk r
MustBeNoInput s e Migrate w r = MustBeNoText s w r

-- the files or the operation of `call` are refused in this way
abbrev pub MustBeNoCall : FilesOver → Idl → Option (List ℕ) → Option (List ℕ) → Refusal → Type 0
MustBeNoCall f idl acf None r = MustBeNoIdl f idl acf r
MustBeNoCall f idl acf (Some op) r = MustBeUnready f (record { idl = idl; acf = acf; op = op; side = Out }) r

-- the fragments of one call, and an octet that follows them
pub record IsTrailedCall (want : Wanted) (octets : List ℕ) (place : ℕ) : Type 0 where
  pub first : List ℕ
  pub next : ℕ
  pub rest : List ℕ
  pub split : octets ≡ first ++ next ∷ rest
  pub order : Order
  pub call : ℕ
  pub stated : Option ℕ
  pub stub : List ℕ
  pub fragments : Fragments first want order call stated stub
  pub place_is : place ≡ length first

-- the fragments of one request, of whose operation number the interface has none
pub record IsCallOfNone (i : Interface) (want : Wanted) (octets : List ℕ) (place n : ℕ) : Type 0 where
  pub order : Order
  pub call : ℕ
  pub stub : List ℕ
  pub fragments : Fragments octets want order call (Some n) stub
  pub none : slice_get i.operations n ≡ None
  pub place_is : place ≡ 22

-- all octets of the input are refused as fragments in this way
abbrev pub IsRefusedCall : Interface → Option ℕ → List ℕ → ℕ → FragmentsFault → Type 0
IsRefusedCall i number octets place (fragments.Refused why) = pdu.BadPdu (called.wanted number) octets place why
IsRefusedCall i number octets place fragments.Trailing = IsTrailedCall (called.wanted number) octets place
IsRefusedCall i number octets place (fragments.NoOperation n) = IsCallOfNone i (called.wanted number) octets place n

-- the fragments of the input, or their stub data, are refused in this way
abbrev pub MustBeNoFragments : SourceOver → Interface → Option ℕ → Refusal → Type 0
MustBeNoFragments s i number (BadPdu place why) = (octets : List ℕ) × AreGiven s octets × IsRefusedCall i number octets place why
MustBeNoFragments s i number (BadOctets place why) =
    (order : Order) × (operation : Operation) × (stub : List ℕ) × IsCallGiven s i number order operation stub
    × IsRefusedAt (setting_of i operation (called.side number)) order stub place why
MustBeNoFragments s i number r = ⊥

-- Where no load fails and notes do not, a command of which this holds is refused in this way, unless it runs out of memory.
abbrev pub MustBeRefused : Seen → Command → Refusal → Type 0
MustBeRefused x (Call idl acf op) NoOperation = MustBeNoCall x.files idl acf op NoOperation
MustBeRefused x (Call idl acf op) (BadIdl file line column why) = MustBeNoCall x.files idl acf op (BadIdl file line column why)
MustBeRefused x (Call idl acf op) r =
    (i : Interface) × (number : Option ℕ) × IsCallAccepted x.files idl acf op i number × MustBeNoFragments x.input i number r
MustBeRefused x (Wrap of order call max) NoOperation = MustBeUnready x.files of NoOperation
MustBeRefused x (Wrap of order call max) (BadIdl file line column why) = MustBeUnready x.files of (BadIdl file line column why)
MustBeRefused x (Wrap of order call max) r = (w : Setting) × IsAccepted x.files of w × MustBeNoInput x.input x.ends (wrap_task order) w r
MustBeRefused x (Values task of given) NoOperation = MustBeUnready x.files of NoOperation
MustBeRefused x (Values task of given) (BadIdl file line column why) = MustBeUnready x.files of (BadIdl file line column why)
MustBeRefused x (Values task of given) (BadRequest why) = MustBeNoRequest x.files of given why
MustBeRefused x (Values task of given) r = (w : Setting) × AreAccepted x.files of given w × MustBeNoInput x.input x.ends task w r
MustBeRefused x (Compile idl acf) r = MustBeNoIdl x.files idl acf r
MustBeRefused x (Plan idl acf) r = MustBeNoIdl x.files idl acf r
MustBeRefused x (Compat old old_acf new new_acf why) r =
    MustBeIncomparable x.files (record { idl = old; acf = old_acf }) (record { idl = new; acf = new_acf }) r
MustBeRefused x (Why words) r = ⊥
MustBeRefused x (Sample seed count) r = ⊥
MustBeRefused x Help r = ⊥
MustBeRefused x Version r = ⊥

-- A command is refused in this way, or it ran out of memory; or, if it can write to out although it is refused, out failed.
abbrev pub Refuses : Command → SinkOver → ℕ → Refusal → Type 0
Refuses c notes status refusal =
    ((status ≡ status_of refusal) × Got notes (line_of (idl_of c) (op_of c) refusal)) ⊎ ((status ≡ 5) ⊎ ((tells c ≡ true) × (status ≡ 4)))
