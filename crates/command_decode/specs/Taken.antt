-- What the steps of printing a source answer: the octets of a value are taken, and then the end is met.
-- `w` is a setting, `s` a source over a step.
use Rattle.std.specs.Prelude.{◌≡◌, ℕ, true, List, [], ◌∷◌, length}
use Rattle.std.specs.Io.KnownBytes.{Consumes, IsAtEnd, Keeps}
use Rattle.nd_base.specs.declared.octets.Order.{Order}
use Rattle.nd_base.specs.Over.{SourceOver, HasRisen}
use Rattle.nd_value.specs.declared.value.Graph.{Graph}
use Rattle.nd_value.specs.Setting.{Setting}
use Rattle.nd_value.specs.Conforms.{Conforms}
use Rattle.nd_grammar.specs.Stream.{Represents}
use Rattle.command_refusals.specs.declared.refusal.Refusal.{Refusal}
use Rattle.command_refusals.specs.declared.refusal.Refusal.TheVariants.{ReadFault, BadOctets}
use Rattle.command_refusals.specs.declared.refusal.OctetsFault.TheVariants.{Trailing}

-- the octets that were taken, so many, are a stream of a graph that conforms
pub record IsTaken (s : SourceOver) (w : Setting) (order : Order) (taken : ℕ) (g : Graph) : Type 0 where
  pub octets : List ℕ
  pub left : Consumes s.left s.left_now octets
  pub taken_is : taken ≡ length octets
  pub represents : Represents w order octets g
  pub conforms : Conforms w g

-- nothing was taken, as the source has ended
pub record IsEnd (s : SourceOver) : Type 0 where
  pub nothing : Consumes s.left s.left_now []
  pub ended : s.ended_now ≡ true
  pub none_left : IsAtEnd s.left_now

-- why the end was not met after so many octets: an octet was taken, or the source failed, and then nothing was taken
abbrev pub IsNoEnd : SourceOver → ℕ → Refusal → Type 0
IsNoEnd s taken ReadFault = HasRisen s.faults × Keeps s.left s.left_now
IsNoEnd s taken (BadOctets place Trailing) = (place ≡ taken) × ((next : ℕ) × Consumes s.left s.left_now (next ∷ []))
IsNoEnd s taken _ = ⊥
