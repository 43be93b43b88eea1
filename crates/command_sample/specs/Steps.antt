-- What the steps of the sample answer. `i` is an interface, `f` a fit, `n` how many nodes there are.
use Rattle.std.specs.Prelude.{◌≡◌, ℕ, ◌+◌, ◌*◌, ◌≤◌, Bool, true, false, List, [], ◌∷◌, length, None, codes, decimal}
use Rattle.nd_base.specs.Text.{joined}
use Rattle.nd_base.specs.declared.octets.Order.TheVariants.{Little}
use Rattle.nd_types.specs.declared.interface.Interface.{Interface}
use Rattle.nd_types.specs.declared.types.Side.TheVariants.{In}
use Rattle.nd_value.specs.Fitting.{Fitting}
use Rattle.nd_grammar.specs.Stream.{Represents}
use Rattle.command_sample.specs.Interface.{sample_types, take, sample_setting}
use Rattle.command_sample.specs.Nodes.{sample_graph}

-- the interface of the sample, by its types and its operation
pub record IsSampleInterface (i : Interface) : Type 0 where
  pub types : i.types ≡ sample_types
  pub operations : i.operations ≡ take ∷ []

-- a graph of the sample, of 1 to 1,000,000 nodes, as the request of its operation
pub record IsSampleFit (f : Fitting) (seed n : ℕ) : Type 0 where
  pub interface : IsSampleInterface f.interface
  pub op : f.op ≡ 0
  pub side : f.side ≡ In
  pub given : f.given ≡ None
  pub graph : f.graph ≡ sample_graph seed n
  pub some : 1 ≤ n
  pub few : n ≤ 1000000

-- its octets in little order
pub record AreSampleOctets (octets : List ℕ) (seed n : ℕ) : Type 0 where
  pub represents : Represents sample_setting Little octets (sample_graph seed n)
  pub long : length octets ≡ 4 + 12 * n
  pub some : 1 ≤ n
  pub few : n ≤ 1000000

-- a truth value in words
abbrev pub answer : Bool → List ℕ
answer true = codes "yes"
answer false = codes "no"

-- the four lines: how many nodes, how many octets, the sum of the values, and whether the graphs are the same
abbrev pub summary_lines : ℕ → ℕ → ℕ → Bool → List ℕ
summary_lines cells octets sum same =
    joined
    (codes "cells " ∷ decimal cells ∷ codes "\noctets " ∷ decimal octets ∷ codes "\nsum " ∷ decimal sum ∷ codes "\nsame " ∷ answer same
    ∷ codes "\n" ∷ [])
