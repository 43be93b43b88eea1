-- What octets in memory are decoded to, and why they are refused.
-- `w` is a setting, `octets` are all that are given.
use Rattle.std.specs.Prelude.{◌≡◌, ℕ, List, ◌++◌, length, Option, ⊤}
use Rattle.nd_base.specs.declared.octets.Order.{Order}
use Rattle.nd_types.specs.declared.interface.Interface.{Interface}
use Rattle.nd_types.specs.declared.types.Side.{Side}
use Rattle.nd_value.specs.declared.value.Graph.{Graph}
use Rattle.nd_value.specs.Fitting.{Fitting}
use Rattle.nd_value.specs.Setting.{Setting}
use Rattle.nd_grammar.specs.Refusal.{Bad}
use Rattle.nd_grammar.specs.decoded.Verdict.{RepresentsAlone}
use Rattle.command_refusals.specs.declared.refusal.Refusal.{Refusal}
use Rattle.command_refusals.specs.declared.refusal.Refusal.TheVariants.{Memory, BadOctets}
use Rattle.command_refusals.specs.declared.refusal.OctetsFault.TheVariants.{Refused}

-- So many octets at the front represent the graph, which conforms and is its own canonical form. It is the one conforming graph that they represent,
-- and no first part of them represents another.
pub record IsDecodedOf (w : Setting) (order : Order) (octets : List ℕ) (taken : ℕ) (g : Graph) : Type 0 where
  pub front : List ℕ
  pub rest : List ℕ
  pub parts : octets ≡ front ++ rest
  pub taken_is : length front ≡ taken
  pub graph : RepresentsAlone w order front g

-- why octets are refused: at the first faulty place, for the one reason that applies there; running out of memory needs no cause
abbrev pub IsOctetsCause : Setting → Order → List ℕ → Refusal → Type 0
IsOctetsCause w order octets Memory = ⊤
IsOctetsCause w order octets (BadOctets place (Refused why)) = Bad w order octets place why
IsOctetsCause w order octets _ = ⊥

-- the values are of this side of this operation, with this request or without one
pub record IsOf (i : Interface) (op : ℕ) (side : Side) (given : Option Graph) (f : Fitting) : Type 0 where
  pub interface_is : f.interface ≡ i
  pub op_is : f.op ≡ op
  pub side_is : f.side ≡ side
  pub given_is : f.given ≡ given
