-- What the octets of a source are printed as where their pipes go to ends, and why they are refused.
-- `w` is a setting, `s` a source over the call, `e` are the ends over it.
use Rattle.std.specs.Prelude.{◌≡◌, ◌≤◌, ◌⊎◌, ℕ, List, [], ◌∷◌, ◌++◌, length, drop}
use Rattle.std.specs.Io.KnownBytes.{Consumes}
use Rattle.nd_base.specs.declared.octets.Order.{Order}
use Rattle.nd_base.specs.Over.{SourceOver, HasRisen, IsUntouched}
use Rattle.nd_value.specs.declared.value.Graph.{Graph}
use Rattle.nd_value.specs.Conforms.{Conforms}
use Rattle.nd_value.specs.Deferral.{before_pipes}
use Rattle.nd_value.specs.Setting.{Setting, root_list}
use Rattle.nd_grammar.specs.Stream.{Represents}
use Rattle.nd_grammar.specs.decoded.Verdict.{DecodingSeen}
use Rattle.ndr_drain_laws.specs.parts.Parts.{without_pipes}
use Rattle.ndr_pipe.specs.Ends.{EndsSeen, AreAsBefore}
use Rattle.ndr_drain.specs.Drained as drained
use Rattle.ndr_drain.specs.Drained.{given_pipes, pipe_count}
use Rattle.ndr_drain.specs.declared.fault.DrainFault.{DrainFault}
use Rattle.ndr_drain.specs.declared.fault.DrainFault.TheVariants as fault
use Rattle.command_decode.specs.Decoded.{IsWhole}
use Rattle.text_grammar.specs.Written.{IsText}
use Rattle.command_refusals.specs.declared.refusal.Refusal.{Refusal}
use Rattle.command_refusals.specs.declared.refusal.Refusal.TheVariants.{Memory, ReadFault, BadOctets, EndFailed, TooFewEnds}
use Rattle.command_refusals.specs.declared.refusal.OctetsFault.TheVariants.{Refused, Trailing}

-- there is an end for each pipe of the side
abbrev pub AreEnough : Setting → EndsSeen → Type 0
AreEnough w e = pipe_count w ≤ length e.before

-- The octets are a stream of this graph, which conforms; each of its pipes was given to its end, line by line, and the end is finished.
pub record ArePipesGiven (w : Setting) (order : Order) (octets : List ℕ) (graph : Graph) (e : EndsSeen) : Type 0 where
  pub conforms : Conforms w graph
  pub represents : Represents w order octets graph
  pub enough : AreEnough w e
  pub given : e.now ≡ given_pipes w (before_pipes (root_list w)) (drop (before_pipes (root_list w)) graph.roots) e.before

-- The source was read to its end. The pipes of the graph of its octets were given, and the text is that of the graph with every pipe empty.
pub record IsPrinted (s : SourceOver) (e : EndsSeen) (w : Setting) (order : Order) (text : List ℕ) : Type 0 where
  pub octets : List ℕ
  pub whole : IsWhole s octets
  pub graph : Graph
  pub pipes : ArePipesGiven w order octets graph e
  pub is_text : IsText w (without_pipes w graph) text

-- The octets that were taken are a stream of a graph, whose pipes were given.
pub record IsTakenWhole (s : SourceOver) (e : EndsSeen) (w : Setting) (order : Order) : Type 0 where
  pub octets : List ℕ
  pub taken : Consumes s.left s.left_now octets
  pub graph : Graph
  pub pipes : ArePipesGiven w order octets graph e

-- The octets that were taken are a stream of a graph, whose pipes were given, and one octet more.
pub record IsTrailed (s : SourceOver) (e : EndsSeen) (w : Setting) (order : Order) (place : ℕ) : Type 0 where
  pub octets : List ℕ
  pub next : ℕ
  pub taken : Consumes s.left s.left_now (octets ++ next ∷ [])
  pub place_is : place ≡ length octets
  pub graph : Graph
  pub pipes : ArePipesGiven w order octets graph e

-- The stream was not drained, for this fault of `drain`.
abbrev pub IsNotDrained : SourceOver → EndsSeen → Setting → Order → DrainFault → Type 0
IsNotDrained s e w order f = (t : DecodingSeen) × drained.IsDrainCause w order s e t f

-- nothing was read or given
pub record IsNotBegun (s : SourceOver) (e : EndsSeen) : Type 0 where
  pub untouched : IsUntouched s
  pub none_given : AreAsBefore e

-- why the octets of a source are not printed, and what the ends have then
abbrev pub IsDrainRefusal : SourceOver → EndsSeen → Setting → Order → Refusal → Type 0
IsDrainRefusal s e w order ReadFault = HasRisen s.faults × AreEnough w e × (IsNotDrained s e w order fault.ReadFault ⊎ IsTakenWhole s e w order)
IsDrainRefusal s e w order Memory = IsNotBegun s e ⊎ (IsNotDrained s e w order fault.Memory ⊎ IsTakenWhole s e w order)
IsDrainRefusal s e w order (BadOctets place (Refused why)) = AreEnough w e × IsNotDrained s e w order (fault.Bad place why)
IsDrainRefusal s e w order (BadOctets place Trailing) = IsTrailed s e w order place
IsDrainRefusal s e w order (EndFailed which) = AreEnough w e × IsNotDrained s e w order (fault.EndFailed which)
IsDrainRefusal s e w order (TooFewEnds wanted found) = IsNotDrained s e w order (fault.TooFewEnds wanted found)
IsDrainRefusal s e w order _ = ⊥
