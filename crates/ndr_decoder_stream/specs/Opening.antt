-- Where the elements of a chunk begin.
-- `s` is the state before, `x` the state at their beginning, `n` how many come after the first, `nodes` those of the pipe.
use Rattle.std.specs.Prelude.{◌≡◌, ℕ, List, [], ◌∷◌, Some}
use Rattle.nd_value.specs.Tree.{Flat}
use Rattle.ndr_decoder_laws.specs.declared.frame.Frame.TheVariants as frame
use Rattle.ndr_decoder_laws.specs.declared.first.First.TheVariants as first
use Rattle.ndr_decoder_laws.specs.steps.Steps.{State, begun}

pub record BeginsElements (run n : ℕ) (nodes : List Flat) (s x : State) : Type 0 where
  pub pc : x.pc ≡ run
  pub phase : x.phase ≡ begun
  pub at : x.at ≡ s.at
  pub max : x.max ≡ 0
  pub max_at : x.max_at ≡ s.max_at
  pub top : x.top ≡ frame.Elements n run 1
  pub stack : x.stack ≡ frame.Home ∷ []
  pub nodes_are : x.nodes ≡ nodes
  pub own : x.own ≡ Some first.Other
  pub members : x.members ≡ []
  pub firsts : x.firsts ≡ []
  pub fresh : x.fresh ≡ []
  pub cells : x.cells ≡ s.cells
  pub numbers : x.numbers ≡ s.numbers
