-- Code that is written item by item.
use Rattle.std.proofs.Common.{◌≡◌, ◌∙◌, ℕ, ◌+◌, ◌≤◌, suc, List, [], ◌∷◌, ◌++◌, Some, ap, map, drop, length, append_assoc, append-nil, arith}
use Rattle.std.specs.List.{slice_get}
use Rattle.std.proofs.lemmas.List.{drop_all}
use Rattle.nd_types.specs.declared.types.Field.{Field}
use Rattle.nd_types.specs.declared.types.TypeDef.{TypeDef}
use Rattle.idl_listing.proofs.ListedLines.{left_is}
use Rattle.ndr_code.specs.declared.instr.Instr.{Instr}
use Rattle.ndr_code.specs.Code.{field_checks, member_checks, type_run, type_runs}

-- an instruction for the next item
pub map_more : {X Y : Type 0} (f : X → Y) (xs : List X) (i : ℕ) (x : X) (code : List Y) → slice_get xs i ≡ Some x
    → (code ++ (f x ∷ [])) ++ map f (drop (i + 1) xs) ≡ code ++ map f (drop i xs)
map_more f xs i x code e =
    append_assoc code (f x ∷ []) (map f (drop (i + 1) xs)) ∙ ap (λ l. code ++ map f l) (left_is xs i x e)

pub map_end : {X Y : Type 0} (f : X → Y) (xs : List X) (i : ℕ) (code : List Y) → length xs ≤ i → code ++ map f (drop i xs) ≡ code
map_end f xs i code past = ap (λ l. code ++ map f l) (drop_all i xs past) ∙ append-nil code

-- the agreements of the next member
pub checks_more : (members : List Field) (i : ℕ) (f : Field) (code : List Instr) → slice_get members i ≡ Some f
    → (code ++ field_checks i f.vars) ++ member_checks (i + 1) (drop (i + 1) members) ≡ code ++ member_checks i (drop i members)
checks_more members i f code e =
    let z : i + 1 ≡ suc i = omega arith in
    append_assoc code (field_checks i f.vars) (member_checks (i + 1) (drop (i + 1) members))
    ∙ ap (λ k. code ++ (field_checks i f.vars ++ member_checks k (drop (i + 1) members))) z
    ∙ ap (λ l. code ++ member_checks i l) (left_is members i f e)

pub checks_end : (members : List Field) (i : ℕ) (code : List Instr) → length members ≤ i → code ++ member_checks i (drop i members) ≡ code
checks_end members i code past = ap (λ l. code ++ member_checks i l) (drop_all i members past) ∙ append-nil code

-- the runs of the next type
pub types_more : (place whole : ℕ → ℕ) (table types : List TypeDef) (i : ℕ) (d : TypeDef) (code : List Instr) → slice_get types i ≡ Some d
    → (code ++ type_run place whole table i d) ++ type_runs place whole table (i + 1) (drop (i + 1) types) ≡ code ++ type_runs place whole table i (drop i types)
types_more place whole table types i d code e =
    let z : i + 1 ≡ suc i = omega arith in
    append_assoc code (type_run place whole table i d) (type_runs place whole table (i + 1) (drop (i + 1) types))
    ∙ ap (λ k. code ++ (type_run place whole table i d ++ type_runs place whole table k (drop (i + 1) types))) z
    ∙ ap (λ l. code ++ type_runs place whole table i l) (left_is types i d e)

pub types_end : (place whole : ℕ → ℕ) (table types : List TypeDef) (i : ℕ) (code : List Instr) → length types ≤ i
    → code ++ type_runs place whole table i (drop i types) ≡ code
types_end place whole table types i code past = ap (λ l. code ++ type_runs place whole table i l) (drop_all i types past) ∙ append-nil code
