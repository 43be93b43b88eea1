-- What is known of names, and what each step of a file does to it (C706, section 4.2).
use Rattle.std.specs.Prelude.{ℕ, ℤ, pos, Bool, true, false, if◌then◌else◌, ◌==◌, List, [], ◌∷◌, ◌++◌, map, Option, Some, None, Result, Ok, option_map}
use Rattle.std.specs.Prelude.{Vec}
use Rattle.std.specs.Prelude.{◌+ℤ◌, Err}
use Rattle.std.specs.List.{list_any}
use Rattle.std.specs.Str.{bytes_eq}
use Rattle.std.specs.Map.{lookup}
use Rattle.nd_base.specs.declared.octets.Place.{Place}
use Rattle.idl_grammar.specs.declared.words.Spelling.{Spelling}
use Rattle.idl_grammar.specs.declared.types.TagKind.{TagKind}
use Rattle.idl_grammar.specs.declared.types.TagKind.TheVariants as tag_kind
use Rattle.idl_grammar.specs.Tree.{Tree, Expr}
use Rattle.idl_scope.specs.declared.meaning.Meaning.{Meaning}
use Rattle.idl_scope.specs.declared.meaning.Meaning.TheVariants as meaning
use Rattle.idl_scope.specs.declared.tag.TagDefinition.{TagDefinition}
use Rattle.idl_scope.specs.declared.tag.TagUse.{TagUse}
use Rattle.idl_scope.specs.declared.fault.ExpressionFault.{ExpressionFault}
use Rattle.idl_scope.specs.declared.fault.ExpressionFault.TheVariants as expression_fault
use Rattle.idl_scope.specs.declared.name_fault.NameFault.{NameFault}
use Rattle.idl_scope.specs.declared.name_fault.NameFault.TheVariants as fault
use Rattle.idl_scope.specs.Value.{evaluated}
use Rattle.idl_scope.specs.Steps.{Step, UseType, UseTag, DefineTag, Declare, Know, KnowValue, KnowNext, Evaluate, Enlist}

-- ## Files whose resolving has ended

pub record Ended : Type 0 where
  pub file : ℕ
  pub tree : Tree

abbrev pub ended : ℕ → Tree → Ended
ended file tree = record { file = file; tree = tree }

abbrev pub has_ended : List Ended → ℕ → Bool
has_ended files file = list_any (λ e. e.file == file) files

-- ## Tables by names: lists of names with what is there

abbrev pub found : {X : Type 0} → List ℕ → List (List ℕ × X) → Option X
found name entries = lookup (bytes_eq name) entries

-- one more; a name that is there already keeps its place and gets the new value
abbrev pub put : {X : Type 0} → List (List ℕ × X) → List ℕ → X → List (List ℕ × X)
put [] name x = (name, x) ∷ []
put (e ∷ entries) name x = elim (bytes_eq name e.0) [ true ↦ (e.0, x) ∷ entries | false ↦ e ∷ put entries name x ]

-- a table of the program as a list
abbrev pub table : {A X : Type 0} → List (Vec ℕ A × X) → List (List ℕ × X)
table entries = map (λ e. (e.0.items, e.1)) entries

-- ## What is known, and what steps do to it

-- That the names of imported files are known in all files after them, in one space for all, is this project's own choice, as are the
-- numbers of enumerators.

-- all that was declared so far, each list in the order of declaration
pub record Known : Type 0 where
  -- the places of types, constants, enumerators and operations
  pub places : List (List ℕ × Place)
  -- what those of them stand for that are known
  pub meanings : List (List ℕ × Meaning)
  -- the tags that have their bodies
  pub tags : List (List ℕ × TagDefinition)
  -- tags after pointers that had no body of their kind where they were used
  pub uses : List TagUse

abbrev pub nothing : Known
nothing = record { places = []; meanings = []; tags = []; uses = [] }

-- ### Names that are known

abbrev pub meaning_in : Known → List ℕ → Option Meaning
meaning_in k name = found name k.meanings

abbrev pub is_type : Option Meaning → Bool
is_type (Some meaning.Type) = true
is_type _ = false

abbrev pub same_kind : TagKind → TagKind → Bool
same_kind tag_kind.Struct tag_kind.Struct = true
same_kind tag_kind.Union tag_kind.Union = true
same_kind tag_kind.Enum tag_kind.Enum = true
same_kind _ _ = false

abbrev pub is_of_kind : TagKind → Option TagDefinition → Bool
is_of_kind kind None = false
is_of_kind kind (Some d) = same_kind kind d.kind

-- the tag has a body, and is of that kind
abbrev pub is_defined : Known → TagKind → List ℕ → Bool
is_defined k kind tag = is_of_kind kind (found tag k.tags)

-- ### The values of expressions

abbrev pub place_in : ℕ → Spelling → Place
place_in file s = record { file = file; at = s.at }

abbrev pub expression_fault_in : ℕ → ExpressionFault → NameFault
expression_fault_in file (expression_fault.Unknown at) = fault.Unknown (record { file = file; at = at })
expression_fault_in file (expression_fault.Const f) = fault.Const (record { file = file; at = f.at }) f.fault

abbrev pub in_file : ℕ → Result ℤ ExpressionFault → Result ℤ NameFault
in_file file (Ok z) = Ok z
in_file file (Err f) = Err (expression_fault_in file f)

abbrev pub value_in : ℕ → Known → Expr → Result ℤ NameFault
value_in file k e = in_file file (evaluated (meaning_in k) e)

-- what an enumerator without a value stands for: 0, or one more than the one before it, which has a number in every walk
abbrev pub next_of : Option Meaning → Meaning
next_of (Some (meaning.Number z)) = meaning.Number (z +ℤ pos 1)
next_of _ = meaning.Other

abbrev pub next_meaning : Known → Option Spelling → Meaning
next_meaning k None = meaning.Number (pos 0)
next_meaning k (Some previous) = next_of (meaning_in k previous.octets)

-- ### Steps

abbrev pub with_meaning : Known → Spelling → Meaning → Known
with_meaning k name m = record k { meanings = put k.meanings name.octets m }

abbrev pub with_place : Known → Spelling → Place → Known
with_place k name place = record k { places = put k.places name.octets place }

abbrev pub with_tag : Known → Spelling → TagDefinition → Known
with_tag k tag d = record k { tags = put k.tags tag.octets d }

abbrev pub with_use : Known → TagUse → Known
with_use k u = record k { uses = k.uses ++ u ∷ [] }

-- goes on where something holds of a name
abbrev pub where_known : Bool → Place → Known → Result Known NameFault
where_known true place k = Ok k
where_known false place k = Err (fault.Unknown place)

-- goes on where no name like it stands anywhere
abbrev pub where_free : Option Place → Place → Known → Result Known NameFault
where_free None place k = Ok k
where_free (Some first) place k = Err (fault.Twice place first)

-- goes on with a value
abbrev pub where_valued : Result ℤ NameFault → (ℤ → Known) → Result Known NameFault
where_valued (Ok z) next = Ok (next z)
where_valued (Err f) next = Err f

-- a tag without a body of its kind: after pointers it waits for one
abbrev pub tag_used : ℕ → Known → TagKind → Spelling → Bool → Result Known NameFault
tag_used file k kind tag true = Ok (with_use k (record { kind = kind; tag = tag.octets; place = place_in file tag }))
tag_used file k kind tag false = Err (fault.Unknown (place_in file tag))

-- where a name is in a list of members or parameters
abbrev pub place_in_list : ℕ → List Spelling → List ℕ → Option Place
place_in_list file [] name = None
place_in_list file (s ∷ before) name = if bytes_eq name s.octets then Some (place_in file s) else place_in_list file before name

abbrev pub tag_place : Known → List ℕ → Option Place
tag_place k tag = option_map (λ d. d.place) (found tag k.tags)

-- what is known after a step in a file, or the fault of the step
abbrev pub passed : ℕ → Known → Step → Result Known NameFault
-- the name has to be known as a type
passed file k (UseType name) = where_known (is_type (meaning_in k name.octets)) (place_in file name) k
-- the tag has to have a body of its kind, or waits for it
passed file k (UseTag kind tag behind_pointers) =
    elim (is_defined k kind tag.octets) [ true ↦ Ok k | false ↦ tag_used file k kind tag behind_pointers ]
-- no tag has two bodies, whatever their kinds
passed file k (DefineTag kind tag) =
    where_free (tag_place k tag.octets) (place_in file tag) (with_tag k tag (record { kind = kind; place = place_in file tag }))
-- no name is declared twice
passed file k (Declare name) = where_free (found name.octets k.places) (place_in file name) (with_place k name (place_in file name))
passed file k (Know name m) = Ok (with_meaning k name m)
passed file k (KnowValue name e) = where_valued (value_in file k e) (λ z. with_meaning k name (meaning.Number z))
passed file k (KnowNext name previous) = Ok (with_meaning k name (next_meaning k previous))
-- the expression has to have a value
passed file k (Evaluate e) = where_valued (value_in file k e) (λ z. k)
-- no list has a name twice
passed file k (Enlist before name) = where_free (place_in_list file before name.octets) (place_in file name) k

-- goes on from what is known
abbrev pub and_then : Result Known NameFault → (Known → Result Known NameFault) → Result Known NameFault
and_then (Ok k) next = next k
and_then (Err f) next = Err f

-- what is known after steps in a file, or the first fault
abbrev pub walked : ℕ → Known → List Step → Result Known NameFault
walked file k [] = Ok k
walked file k (s ∷ steps) = and_then (passed file k s) (λ next. walked file next steps)

-- ### After all files

-- where the first of these uses stands whose tag has no body of its kind
abbrev pub first_undefined : Known → List TagUse → Option Place
first_undefined k [] = None
first_undefined k (u ∷ uses) = elim (is_defined k u.kind u.tag) [ true ↦ first_undefined k uses | false ↦ Some u.place ]

-- where a name was declared, or where a tag is before its body
abbrev pub place_found : Known → Bool → List ℕ → Option Place
place_found k true tag = tag_place k tag
place_found k false name = found name k.places
