-- What the nodes of a listing say of values whose types are due: a node says a value of the type that is due first, and then the types of its parts
-- are due before the others. So the type of each node is known, and where the first wrong one is.
-- `table` are the types of an interface, `d` is a type, `x` a node, `ts` are types that are due, `us` those of parts, `xs` nodes, `zs` numbers,
-- `os` octets.
use Rattle.std.specs.Prelude.{ℕ, suc, ◌-◌, ◌^◌, ℤ, pos, negsuc, Bool, true, false, ◌&&◌, ◌==◌, nat_le, if◌then◌else◌, nat_lt}
use Rattle.std.specs.Prelude.{List, [], ◌∷◌, ◌++◌, length, map, take, drop, replicate, Option, Some, None}
use Rattle.nd_types.specs.declared.types.Arm.{Arm}
use Rattle.nd_types.specs.declared.types.Primitive.TheVariants.{UnsignedHyper}
use Rattle.nd_types.specs.declared.types.TypeDef.{TypeDef}
use Rattle.nd_types.specs.declared.types.TypeDef.TheVariants as def
use Rattle.nd_types.specs.Table.{Table, type_at, selected}
use Rattle.nd_value.specs.Nodes.{selected_types}
use Rattle.nd_value.specs.Tree as tree
use Rattle.nd_value.specs.Tree.{Flat, Label}
use Rattle.library_nodes.specs.declared.description.Description.{Description}
use Rattle.library_nodes.specs.Left.{Left}

-- ## Numbers

-- 64 bits in two's complement
abbrev pub signed : ℕ → ℤ
signed u = if nat_lt u (2 ^ 63) then pos u else negsuc (2 ^ 64 - 1 - u)

-- what 64 bits mean: in two's complement, unless they are those of an unsigned hyper
abbrev pub meant : Bool → ℕ → ℤ
meant true u = pos u
meant false u = signed u

-- whether the numbers of a type have 64 bits without a sign
abbrev pub is_wide : Option TypeDef → Bool
is_wide (Some (def.Prim UnsignedHyper)) = true
is_wide _ = false

-- whether the values of a type are numbers
abbrev pub is_numeral : Option TypeDef → Bool
is_numeral (Some (def.Prim p)) = true
is_numeral (Some (def.Enum values)) = true
is_numeral _ = false

-- the cell of a pointer by its number; 0 is null
abbrev pub cell_numbered : ℕ → Option ℕ
cell_numbered n = if n == 0 then None else Some n

-- ## One node

-- a node is of this kind, and so many of its parts are nodes
abbrev pub has_form : Description → ℕ → ℕ → Bool
has_form x kind parts = x.kind == kind && x.parts == parts

-- a node of this kind has elements that are nodes, or elements that are numbers
abbrev pub has_parts : Description → ℕ → Bool
has_parts x kind = has_form x kind x.count && x.numbers == 0

abbrev pub has_numbers : Description → ℕ → Bool
has_numbers x kind = has_form x kind 0 && x.numbers == x.count

-- a node is a pointer to a cell of 32 bits, or a context handle, whose identifier has 16 octets
abbrev pub is_pointer : Description → Bool
is_pointer x = has_form x 6 0 && nat_le x.number 4294967295

abbrev pub is_context : Description → Bool
is_context x = has_form x 7 0 && x.length == 16 && nat_le x.number 4294967295

-- What a node says: itself, with its elements that are numbers; the types of its parts that are nodes; the numbers and octets after its own.
pub record Saying : Type 0 where
  pub flats : List Flat
  pub parts : List ℕ
  pub numbers : List ℕ
  pub octets : List ℕ

-- a node whose parts are of these types, if a test holds
abbrev pub plain : Bool → Label → List ℕ → List ℕ → List ℕ → Option Saying
plain test label us zs os = if test then Some (record { flats = (label, length us) ∷ []; parts = us; numbers = zs; octets = os }) else None

-- a number as a node
abbrev pub number_flat : Bool → ℕ → Flat
number_flat wide u = (tree.Num (meant wide u), 0)

-- an array or a pipe whose elements are the next so many numbers, if a test holds
abbrev pub numbered : Bool → Bool → Label → ℕ → List ℕ → List ℕ → Option Saying
numbered test wide label k zs os =
    if test then Some (record { flats = (label, k) ∷ map (number_flat wide) (take k zs); parts = []; numbers = drop k zs; octets = os }) else None

-- an array or a pipe of numbers
abbrev pub numeric : Bool → ℕ → Label → Description → List ℕ → List ℕ → Option Saying
numeric wide kind label x zs os = numbered (has_numbers x kind && nat_le x.count (length zs)) wide label x.count zs os

-- an array or a pipe of numbers, or of other values of a type
abbrev pub elements_by : Bool → Bool → ℕ → ℕ → Label → Description → List ℕ → List ℕ → Option Saying
elements_by true wide kind elem label x zs os = numeric wide kind label x zs os
elements_by false wide kind elem label x zs os = plain (has_parts x kind) label (replicate x.count elem) zs os

-- an array or a pipe of elements of a type
abbrev pub elements : Table → ℕ → ℕ → Label → Description → List ℕ → List ℕ → Option Saying
elements table kind elem label x zs os = elements_by (is_numeral (type_at table elem)) (is_wide (type_at table elem)) kind elem label x zs os

-- a union of this tag, whose arm has these types: one, or none
abbrev pub armed : ℤ → List ℕ → Description → List ℕ → List ℕ → Option Saying
armed tag us x zs os = plain (has_form x 5 (length us)) (tree.Union tag) us zs os

-- a union of these arms; where the tag selects none, it has no part
abbrev pub united : Bool → List Arm → Option Arm → Description → List ℕ → List ℕ → Option Saying
united wide arms default x zs os =
    let tag = meant wide x.number in
    armed tag (selected_types (selected arms default tag)) x zs os

-- what a node says of a type; none where it is no node of that type, or too few numbers or octets are left
abbrev pub saying : Table → Option TypeDef → Description → List ℕ → List ℕ → Option Saying
saying table (Some (def.Prim p)) x zs os = plain (has_form x 1 0) (tree.Num (meant (is_wide (Some (def.Prim p))) x.number)) [] zs os
saying table (Some (def.Enum values)) x zs os = plain (has_form x 1 0) (tree.Num (meant (is_wide (Some (def.Enum values))) x.number)) [] zs os
saying table (Some (def.Struct members)) x zs os = plain (has_form x 2 (length members)) tree.Rec (map (λ f. f.of.0) members) zs os
saying table (Some (def.Array elem bound varying)) x zs os = elements table 3 elem.0 (tree.Arr x.max x.offset) x zs os
saying table (Some (def.Text elem bound)) x zs os =
    plain (has_form x 4 0 && nat_le x.length (length os)) (tree.Text x.max (take x.length os)) [] zs (drop x.length os)
saying table (Some (def.Union tag encapsulated arms default)) x zs os = united (is_wide (type_at table tag.0)) arms default x zs os
saying table (Some (def.Pointer class to)) x zs os = plain (is_pointer x) (tree.Ptr (cell_numbered x.number)) [] zs os
saying table (Some def.Context) x zs os = plain (is_context x && nat_le 16 (length os)) (tree.Context x.number (take 16 os)) [] zs (drop 16 os)
saying table (Some (def.Pipe elem)) x zs os = elements table 8 elem.0 tree.Pipe x zs os
saying table None x zs os = None

-- ## Nodes

-- what nodes come to: they say values, whose nodes these are; or the first node that is wrong is so many from the end
pub data Outcome : Type 0 where
  Said : List Flat → Outcome
  Wrong : (left : ℕ) → Outcome

-- the same after other nodes
abbrev pub after : List Flat → Outcome → Outcome
after fs (Said gs) = Said (fs ++ gs)
after fs (Wrong left) = Wrong left

-- what a node comes to that is so many from the end, with those after it
abbrev pub goes_on : ℕ → Option Saying → (Saying → Outcome) → Outcome
goes_on left None next = Wrong left
goes_on left (Some s) next = after s.flats (next s)

-- the nodes are over: so must be the types, the numbers and the octets
abbrev pub at_end : List ℕ → List ℕ → Outcome
at_end [] [] = Said []
at_end zs os = Wrong 0

abbrev pub no_more : List ℕ → List ℕ → List ℕ → Outcome
no_more [] zs os = at_end zs os
no_more (t ∷ ts) zs os = Wrong 0

abbrev pub said_from : Table → List ℕ → List Description → List ℕ → List ℕ → Outcome
said_from table ts [] zs os = no_more ts zs os
said_from table [] (x ∷ xs) zs os = Wrong (suc (length xs))
said_from table (t ∷ ts) (x ∷ xs) zs os =
    goes_on (suc (length xs)) (saying table (type_at table t) x zs os) (λ s. said_from table (s.parts ++ ts) xs s.numbers s.octets)

-- what a listing says of values of these types
abbrev pub said : Table → List ℕ → Left → Outcome
said table ts l = said_from table ts l.nodes l.numbers l.octets
