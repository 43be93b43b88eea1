-- Interfaces of equal parts are equal.
use Rattle.std.proofs.Common.{◌≡◌, ℕ, true, List}
use Rattle.std.proofs.Props.{props}
use mathlib.Core.HLevel.{is_prop→PathP}
use Rattle.nd_base.specs.Text.{is_identifier}
use Rattle.nd_types.specs.declared.interface.Interface.{Interface}
use Rattle.nd_types.specs.declared.types.Operation.{Operation}
use Rattle.nd_types.specs.Table.{Table}
use Rattle.nd_types.specs.Legal.{IsLegal}
use Rattle.nd_types.specs.declared.layouts.Layout.{Layout}
use Rattle.nd_types.specs.Rounds.{layouts_of}

-- That an interface is legal is known in one way alone.
pub IsLegal-prop : (types : Table) (operations : List Operation) → IsProp (IsLegal types operations)
IsLegal-prop types operations = hlevel props

-- nor is it in two ways that layouts are those of the types.
pub layouts-prop : (types : Table) (layouts : List Layout) → IsProp (layouts ≡ layouts_of types)
layouts-prop types layouts = hlevel props

-- nor that a name is an identifier.
pub named-prop : (name : List ℕ) → IsProp (is_identifier name ≡ true)
named-prop name = hlevel props

-- Two interfaces with equal names, numbers, types and operations are equal.
pub same_interface :
    (i j : Interface) → i.name ≡ j.name → i.uuid ≡ j.uuid → i.major ≡ j.major → i.minor ≡ j.minor
    → i.types ≡ j.types → i.layouts ≡ j.layouts → i.operations ≡ j.operations → i ≡ j
same_interface i j name uuid major minor types layouts operations = λ k. record {
  name = name k;
  uuid = uuid k;
  major = major k;
  minor = minor k;
  types = types k;
  layouts = layouts k;
  operations = operations k;
  named = is_prop→PathP (λ l. is_identifier (name l) ≡ true) (λ l. named-prop (name l)) i.named j.named k;
  legal = is_prop→PathP (λ l. IsLegal (types l) (operations l)) (λ l. IsLegal-prop (types l) (operations l)) i.legal j.legal k;
  laid_out = is_prop→PathP (λ l. layouts l ≡ layouts_of (types l)) (λ l. layouts-prop (types l) (layouts l)) i.laid_out j.laid_out k;
}
