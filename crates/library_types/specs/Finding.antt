-- Roots and members by name, and the types of parts.
-- `rs` are the roots of a side, `fs` the members of a struct, `x` is a root or a member that was found.
use Rattle.std.specs.Prelude.{◌≡◌, ℕ, ◌<◌, List, Option, Some, None}
use Rattle.std.specs.List.{slice_get}
use Rattle.nd_types.specs.declared.types.Field.{Field}
use Rattle.nd_types.specs.declared.types.TypeDef.{TypeDef}
use Rattle.nd_types.specs.declared.types.TypeDef.TheVariants.{Array, Pipe, Pointer}
use Rattle.nd_types.specs.Roots.{NamedRoot}
use Rattle.library_types.specs.declared.finding.Named.{Named}

-- this is the place of the first root of that name, and its type
pub record IsRootNamed (rs : List NamedRoot) (name : List ℕ) (x : Named) : Type 0 where
  pub root : NamedRoot
  pub there : slice_get rs x.at ≡ Some root
  pub name_is : root.name ≡ name
  pub type_is : x.of.0 ≡ root.of
  pub first : (i : ℕ) (r : NamedRoot) → i < x.at → slice_get rs i ≡ Some r → r.name ≡ name → ⊥

-- no root has that name
abbrev pub HasNoRoot : List NamedRoot → List ℕ → Type 0
HasNoRoot rs name = (i : ℕ) (r : NamedRoot) → slice_get rs i ≡ Some r → r.name ≡ name → ⊥

-- this is the place of the first member of that name, and its type
pub record IsMemberNamed (fs : List Field) (name : List ℕ) (x : Named) : Type 0 where
  pub member : Field
  pub there : slice_get fs x.at ≡ Some member
  pub name_is : member.name ≡ name
  pub type_is : x.of ≡ member.of
  pub first : (i : ℕ) (f : Field) → i < x.at → slice_get fs i ≡ Some f → f.name ≡ name → ⊥

-- no member has that name
abbrev pub HasNoMember : List Field → List ℕ → Type 0
HasNoMember fs name = (i : ℕ) (f : Field) → slice_get fs i ≡ Some f → f.name ≡ name → ⊥

-- the type of the elements of an array or a pipe, or of what a pointer points to
abbrev pub element_of : Option TypeDef → Option ℕ
element_of (Some (Array elem bound varying)) = Some elem.0
element_of (Some (Pipe elem)) = Some elem.0
element_of (Some (Pointer class to)) = Some to.0
element_of _ = None
