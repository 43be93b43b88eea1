-- The commands that the words of a command line are.
use Rattle.std.specs.Prelude.{ℕ, Bool, true, false, ◌&&◌, nat_le, List, [], ◌∷◌, Option, None, Some, if◌then◌else◌, nat_eq, codes, decimal}
use Rattle.std.specs.Cmp.Lexicographic.{pointwise}
use Rattle.std.specs.Str.Parse.{digits_value}
use Rattle.nd_base.specs.declared.octets.Order.{Order}
use Rattle.nd_base.specs.declared.octets.Order.TheVariants.{Little, Big}
use Rattle.nd_types.specs.declared.types.Side.{Side}
use Rattle.idl_grammar.specs.declared.language.Language.TheVariants as language
use Rattle.idl_grammar.specs.Files.{Idl, in_c706}
use Rattle.nd_types.specs.declared.types.Side.TheVariants.{In, Out}
use Rattle.command_line.specs.declared.TheConstants.{CHUNK_LIMIT, COUNT_LIMIT, LEAST_MAX}
use Rattle.command_line.specs.declared.command.Reading.{Reading}
use Rattle.command_line.specs.declared.command.Reading.TheVariants.{Decode, Explain, Trace, Drain}
use Rattle.command_line.specs.declared.command.OrderWord.{OrderWord}
use Rattle.command_line.specs.declared.command.OrderWord.TheVariants.{Fixed, Label}
use Rattle.command_line.specs.declared.command.Task.{Task}
use Rattle.command_line.specs.declared.command.Task.TheVariants.{Read, Encode, Migrate}

-- what a command on values speaks of: the files, an operation of their interface, and a side of it
pub record Subject : Type 0 where
  pub idl : Idl
  pub acf : Option (List ℕ)
  pub op : List ℕ
  pub side : Side

-- what the words of a command line ask for
pub data Command : Type 0 where
  -- the input is read; its values are judged beside the request of a file, if one is named
  Values : (task : Task) (of : Subject) (given : Option (List ℕ)) → Command
  -- the listing of an interface
  Compile : (idl : Idl) (acf : Option (List ℕ)) → Command
  -- the listing of its plan
  Plan : (idl : Idl) (acf : Option (List ℕ)) → Command
  -- fragments are joined, and the text of the values of their stub data is written: those of a response to an operation, or of a request
  Call : (idl : Idl) (acf : Option (List ℕ)) (op : Option (List ℕ)) → Command
  -- the input's text is read, and its octets are written as the stub data of fragments, with a call id and so many octets each at most
  Wrap : (of : Subject) (order : Order) (call max : ℕ) → Command
  -- two versions of an interface are compared; if `why` is true, the first place at which they differ is written
  Compat : (old : Idl) (old_acf : Option (List ℕ)) (new : Idl) (new_acf : Option (List ℕ)) (why : Bool) → Command
  -- what these words of a refusal mean is written
  Why : (words : List (List ℕ)) → Command
  -- a graph of so many cells, made from a seed, is encoded and decoded
  Sample : (seed count : ℕ) → Command
  Help : Command
  Version : Command

-- the file of IDL and the operation that the line of a refusal names
abbrev pub idl_of : Command → List ℕ
idl_of (Values task of given) = of.idl.name
idl_of (Compile idl acf) = idl.name
idl_of (Plan idl acf) = idl.name
idl_of (Call idl acf op) = idl.name
idl_of (Wrap of order call max) = of.idl.name
idl_of _ = []

-- a name, or nothing if there is none
abbrev pub name_in : Option (List ℕ) → List ℕ
name_in None = []
name_in (Some name) = name

abbrev pub op_of : Command → List ℕ
op_of (Values task of given) = of.op
op_of (Call idl acf op) = name_in op
op_of (Wrap of order call max) = of.op
op_of _ = []

-- the order in which octets are written: after a format label it is little endian
abbrev pub order_in : OrderWord → Order
order_in (Fixed order) = order
order_in Label = Little

-- ## Words

-- a word is this text
abbrev pub is_word : List ℕ → List ℕ → Bool
is_word word text = pointwise nat_eq word text

-- the attribute file that a word names: `-` names none
abbrev pub acf_of : List ℕ → Option (List ℕ)
acf_of word = if is_word word (codes "-") then None else Some word

-- the order of octets that a word names
abbrev pub order_of : List ℕ → Option OrderWord
order_of word =
    if is_word word (codes "little") then Some (Fixed Little)
    else if is_word word (codes "big") then Some (Fixed Big)
    else if is_word word (codes "label") then Some Label else None

-- the operation that a word names: `-` names none
abbrev pub operation_of : List ℕ → Option (List ℕ)
operation_of word = if is_word word (codes "-") then None else Some word

-- the order of octets that a word names, without a format label
abbrev pub fixed_order_of : List ℕ → Option Order
fixed_order_of word =
    if is_word word (codes "little") then Some Little
    else if is_word word (codes "big") then Some Big else None

-- the way of reading octets that a word names
abbrev pub reading_of : List ℕ → Option Reading
reading_of word =
    if is_word word (codes "decode") then Some Decode
    else if is_word word (codes "explain") then Some Explain
    else if is_word word (codes "trace") then Some Trace
    else if is_word word (codes "drain") then Some Drain else None

-- the side that a word names
abbrev pub side_of : List ℕ → Option Side
side_of word =
    if is_word word (codes "in") then Some In
    else if is_word word (codes "out") then Some Out else None

-- the number whose digits are this word, if it is within its limits
abbrev pub number_by : ℕ → ℕ → List ℕ → ℕ → Option ℕ
number_by least most word n = if is_word word (decimal n) && nat_le least n && nat_le n most then Some n else None

-- the number that a word names, in decimal digits without a sign or a leading zero
abbrev pub number_of : ℕ → ℕ → List ℕ → Option ℕ
number_of least most word = number_by least most word (digits_value 10 word)

-- the number of elements of a chunk that a word names
abbrev pub chunk_of : List ℕ → Option ℕ
chunk_of word = number_of 1 CHUNK_LIMIT word

-- the seed of a sample, and its number of cells
abbrev pub seed_of : List ℕ → Option ℕ
seed_of word = number_of 0 4294967295 word

abbrev pub count_of : List ℕ → Option ℕ
count_of word = number_of 1 COUNT_LIMIT word

-- the call id that a word names, and the most octets of a fragment
abbrev pub call_id_of : List ℕ → Option ℕ
call_id_of word = number_of 0 4294967295 word

abbrev pub max_of : List ℕ → Option ℕ
max_of word = number_of LEAST_MAX 65535 word

abbrev pub subject : List ℕ → List ℕ → List ℕ → Side → Subject
subject idl acf op side = record { idl = in_c706 idl; acf = acf_of acf; op = op; side = side }

-- a command that reads octets, if its words are a way of reading, a side and an order
abbrev pub read : Option Reading → List ℕ → List ℕ → List ℕ → Option Side → Option OrderWord → Option Command
read (Some how) idl acf op (Some side) (Some order) = Some (Values (Read how order) (subject idl acf op side) None)
read how idl acf op side order = None

-- the same beside the request of a file, if its words are a way of reading, the side of the outputs and an order
abbrev pub read_beside : Option Reading → List ℕ → List ℕ → List ℕ → Option Side → Option OrderWord → List ℕ → Option Command
read_beside (Some how) idl acf op (Some Out) (Some order) text = Some (Values (Read how order) (subject idl acf op Out) (Some text))
read_beside how idl acf op side order text = None

-- `encode`, if its words are a side, an order and the number of elements of a chunk
abbrev pub encode : List ℕ → List ℕ → List ℕ → Option Side → Option OrderWord → Option ℕ → Option Command
encode idl acf op (Some side) (Some order) (Some chunk) = Some (Values (Encode order chunk) (subject idl acf op side) None)
encode idl acf op _ _ _ = None

-- the same beside the request of a file, if its words are the side of the outputs, an order and the number of elements of a chunk
abbrev pub encode_beside : List ℕ → List ℕ → List ℕ → Option Side → Option OrderWord → Option ℕ → List ℕ → Option Command
encode_beside idl acf op (Some Out) (Some order) (Some chunk) text = Some (Values (Encode order chunk) (subject idl acf op Out) (Some text))
encode_beside idl acf op _ _ _ text = None

-- `migrate`, if its word is a side
abbrev pub migrate : List ℕ → List ℕ → List ℕ → Option Side → Option Command
migrate idl acf op (Some side) = Some (Values Migrate (subject idl acf op side) None)
migrate idl acf op None = None

-- `wrap`, if its words are a side, an order, a call id and the most octets of a fragment
abbrev pub wrap : List ℕ → List ℕ → List ℕ → Option Side → Option Order → Option ℕ → Option ℕ → Option Command
wrap idl acf op (Some side) (Some order) (Some call) (Some max) = Some (Wrap (subject idl acf op side) order call max)
wrap idl acf op _ _ _ _ = None

-- a command of eight words that reads octets beside the request of a file
abbrev pub read_beside_words : List ℕ → List ℕ → List ℕ → List ℕ → List ℕ → List ℕ → List ℕ → List ℕ → Option Command
read_beside_words how idl acf op side order given text =
    if is_word given (codes "given") then read_beside (reading_of how) idl acf op (side_of side) (order_of order) text else None

-- `compile` or `plan`
abbrev pub listing : List ℕ → List ℕ → List ℕ → Option Command
listing verb idl acf =
    if is_word verb (codes "compile") then Some (Compile (in_c706 idl) (acf_of acf))
    else if is_word verb (codes "plan") then Some (Plan (in_c706 idl) (acf_of acf)) else None

-- `sample`, if its words are a seed and a count
abbrev pub sample : Option ℕ → Option ℕ → Option Command
sample (Some seed) (Some count) = Some (Sample seed count)
sample _ _ = None

-- `compat` with the last word `why`
abbrev pub compat_why : List ℕ → List ℕ → List ℕ → List ℕ → List ℕ → Option Command
compat_why old old_acf new new_acf why =
    if is_word why (codes "why") then Some (Compat (in_c706 old) (acf_of old_acf) (in_c706 new) (acf_of new_acf) true) else None

-- The command that words are by their number, if they are one: `compile IDL ACF`, `plan IDL ACF`, `sample SEED COUNT`,
-- `call IDL ACF OP` or `call IDL ACF -`, `migrate IDL ACF OP SIDE`, `compat OLD OLDACF NEW NEWACF`, the same with `why`,
-- `decode IDL ACF OP SIDE ORDER`,
-- `decode IDL ACF OP out ORDER given TEXT`, the same of `explain`, `trace` and `drain`, `encode IDL ACF OP SIDE ORDER CHUNK`,
-- `encode IDL ACF OP out ORDER CHUNK given TEXT`, `wrap IDL ACF OP SIDE ORDER CALL MAX`, `--help` or `--version`.
-- No words are `sample 1 2`.
abbrev pub counted_command : List (List ℕ) → Option Command
counted_command [] = Some (Sample 1 2)
counted_command (word ∷ []) =
    if is_word word (codes "--help") then Some Help
    else if is_word word (codes "--version") then Some Version else None
counted_command (verb ∷ first ∷ second ∷ []) =
    if is_word verb (codes "sample") then sample (seed_of first) (count_of second) else listing verb first second
counted_command (verb ∷ first ∷ second ∷ third ∷ []) =
    if is_word verb (codes "call") then Some (Call (in_c706 first) (acf_of second) (operation_of third)) else None
counted_command (verb ∷ first ∷ second ∷ third ∷ fourth ∷ []) =
    if is_word verb (codes "migrate") then migrate first second third (side_of fourth)
    else if is_word verb (codes "compat") then Some (Compat (in_c706 first) (acf_of second) (in_c706 third) (acf_of fourth) false) else None
counted_command (verb ∷ first ∷ second ∷ third ∷ fourth ∷ fifth ∷ []) =
    if is_word verb (codes "compat") then compat_why first second third fourth fifth
    else read (reading_of verb) first second third (side_of fourth) (order_of fifth)
counted_command (verb ∷ idl ∷ acf ∷ op ∷ side ∷ order ∷ chunk ∷ []) =
    if is_word verb (codes "encode") then encode idl acf op (side_of side) (order_of order) (chunk_of chunk) else None
counted_command (verb ∷ idl ∷ acf ∷ op ∷ side ∷ order ∷ seventh ∷ eighth ∷ []) =
    if is_word verb (codes "wrap") then wrap idl acf op (side_of side) (fixed_order_of order) (call_id_of seventh) (max_of eighth)
    else read_beside_words verb idl acf op side order seventh eighth
counted_command (verb ∷ idl ∷ acf ∷ op ∷ side ∷ order ∷ chunk ∷ given ∷ text ∷ []) =
    if is_word verb (codes "encode") && is_word given (codes "given")
    then encode_beside idl acf op (side_of side) (order_of order) (chunk_of chunk) text else None
counted_command _ = None

-- ### In the windows language

-- the same file in the windows language
abbrev pub in_windows : Idl → Idl
in_windows file = record { name = file.name; language = language.Windows }

abbrev pub subject_in_windows : Subject → Subject
subject_in_windows of = record { idl = in_windows of.idl; acf = of.acf; op = of.op; side = of.side }

-- a command with its interface files in the windows language, if it names such files, and `--help`
abbrev pub windows_command : Command → Option Command
windows_command (Values task of given) = Some (Values task (subject_in_windows of) given)
windows_command (Compile idl acf) = Some (Compile (in_windows idl) acf)
windows_command (Plan idl acf) = Some (Plan (in_windows idl) acf)
windows_command (Call idl acf op) = Some (Call (in_windows idl) acf op)
windows_command (Wrap of order call max) = Some (Wrap (subject_in_windows of) order call max)
windows_command (Compat old old_acf new new_acf why) = Some (Compat (in_windows old) old_acf (in_windows new) new_acf why)
windows_command (Why words) = None
windows_command (Sample seed count) = None
windows_command Help = Some Help
windows_command Version = None

abbrev pub if_in_windows : Option Command → Option Command
if_in_windows None = None
if_in_windows (Some c) = windows_command c

-- The command that words are: after `windows` one that names interface files, in the windows language, or else the command by their number.
abbrev pub worded_command : List (List ℕ) → Option Command
worded_command [] = counted_command []
worded_command (word ∷ words) =
    if is_word word (codes "windows") then if_in_windows (counted_command words) else counted_command (word ∷ words)

-- ### Explanations

-- the words after `why`, if it is the first; all words if `help` is the first
abbrev pub why_words : List (List ℕ) → Option (List (List ℕ))
why_words [] = None
why_words (verb ∷ rest) =
    if is_word verb (codes "why") then Some rest
    else if is_word verb (codes "help") then Some (verb ∷ rest) else None

abbrev pub command_or_why : Option (List (List ℕ)) → List (List ℕ) → Option Command
command_or_why (Some words) all = Some (Why words)
command_or_why None all = worded_command all

-- The command that words are, if they are one: `why WORD ..`, `help WORD ..`, or else a command with or without `windows`.
abbrev pub command : List (List ℕ) → Option Command
command words = command_or_why (why_words words) words

-- the one word that runs a script over resources, and is no command
abbrev pub is_session : List (List ℕ) → Bool
is_session (word ∷ []) = is_word word (codes "session")
is_session _ = false
