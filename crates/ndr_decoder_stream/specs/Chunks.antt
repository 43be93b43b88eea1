-- What the beginning of a chunk comes to, over a pipe that is being read.
-- `w` is a setting, `fetched` are the octets that were fetched and `noted` the items that were noted before the call, `cells` is how many cells there
-- are,
-- `source` and `t` are what was seen of the source, the log and the steps over the call, `m` is the machine after it, `i` the number of the pipe's
-- root, `k` the position in its pipes.
use Rattle.std.specs.Prelude.{◌≡◌, ◌≤◌, ℕ, zero, suc, ◌+◌, List, [], ◌∷◌, ◌++◌, map, Option, Result, Ok, Err}
use Rattle.nd_base.specs.declared.octets.Order.{Order}
use Rattle.nd_base.specs.declared.TheConstants.{STREAM_LIMIT}
use Rattle.nd_base.specs.Over.{SourceOver, HasRisen}
use Rattle.nd_types.specs.declared.types.TypeId.{TypeId}
use Rattle.nd_types.specs.Roots.{Root}
use Rattle.nd_value.specs.declared.item.Home.TheVariants as home
use Rattle.nd_value.specs.declared.item.Item.{Item}
use Rattle.nd_value.specs.Setting.{Setting}
use Rattle.nd_value.specs.Tree as tree
use Rattle.nd_value.specs.Tree.{Tree, Trees, node}
use Rattle.nd_grammar.specs.Reader.{Names}
use Rattle.ndr_decoder_state.specs.declared.fault.DecodeFault.{DecodeFault}
use Rattle.ndr_decoder_state.specs.declared.fault.DecodeFault.TheVariants as fault
use Rattle.ndr_decoder_state.specs.declared.machine.Machine.{Machine}
use Rattle.nd_grammar.specs.decoded.Verdict.{DecodingSeen}
use Rattle.ndr_decoder_laws.specs.stream.Calls.{Took, Refused, Unread, CutOff}
use Rattle.ndr_decoder_laws.specs.stream.Report.{the_stream}
use Rattle.ndr_decoder_laws.specs.pipes.Pipes.{InPipe, InPipes, Position, at_count, at_elements}

-- a refusal is that of the stream; where the source failed, the octets are cut short where they end; where memory failed, reading was cut off
abbrev pub FaultOf : Setting → Order → List ℕ → List Item → ℕ → SourceOver → DecodingSeen → DecodeFault → Type 0
FaultOf w order fetched noted cells source t (fault.Bad place why) = Refused the_stream w order fetched noted cells source t place why
FaultOf w order fetched noted cells source t fault.ReadFault = Unread the_stream w order fetched noted cells source t × HasRisen source.faults
FaultOf w order fetched noted cells source t fault.Memory = CutOff the_stream w order fetched noted cells source t

-- the machine of a pipe is at a position
pub record IsAt (i : ℕ) (k : Position) (m : Machine) : Type 0 where
  pub home : m.home ≡ home.Root i
  pub at : m.at ≡ k.at
  pub cells : map (λ c. c.of) m.builder.graph.cells ≡ k.cells
  pub numbers : m.referents ≡ k.numbers
  pub within : k.at ≤ STREAM_LIMIT

-- only the place is another
pub record HasMoved (m n : Machine) : Type 0 where
  pub home : n.home ≡ m.home
  pub builder : n.builder ≡ m.builder
  pub referents : n.referents ≡ m.referents
  pub max_at : n.max_at ≡ m.max_at
  pub wanted : n.wanted ≡ m.wanted

-- the gap was passed
pub record GapRead (w : Setting) (order : Order) (fetched : List ℕ) (noted : List Item) (direct : ℕ) (first : Names) (i : ℕ) (rs : List Root)
    (roots : List Tree) (elem : TypeId) (done : Trees) (max_at : Option ℕ) (cells : ℕ) (source : SourceOver) (t : DecodingSeen)
    (m : Machine) : Type 0 where
  pub octets : List ℕ
  pub items : List Item
  pub k : Position
  pub in_pipe : InPipe w order (fetched ++ octets) (noted ++ items) direct first i rs roots elem done max_at 4 (at_count w order i elem done k) k
  pub is_at : IsAt i k m
  pub took : Took source t cells octets items cells

abbrev pub Gaps : Setting → Order → List ℕ → List Item → ℕ → Names → ℕ → List Root → List Tree → TypeId → Trees → Option ℕ → ℕ → SourceOver
    → DecodingSeen → Machine → Result (Unit {0}) DecodeFault → Type 0
Gaps w order fetched noted direct first i rs roots elem kids max_at cells source t m (Ok u) =
    GapRead w order fetched noted direct first i rs roots elem kids max_at cells source t m
Gaps w order fetched noted direct first i rs roots elem kids max_at cells source t m (Err e) = FaultOf w order fetched noted cells source t e

-- After a count of 0 the pipe is whole; else so many elements come.
abbrev pub AfterCount : Setting → Order → List ℕ → List Item → ℕ → Names → ℕ → List Root → List Tree → TypeId → Trees → Option ℕ → Position → ℕ
    → Type 0
AfterCount w order fetched noted direct first i rs roots elem kids max_at k zero =
    InPipes w order fetched noted direct first (i + 1) rs (roots ++ node tree.Pipe kids ∷ []) k
AfterCount w order fetched noted direct first i rs roots elem kids max_at k (suc c) =
    InPipe w order fetched noted direct first i rs roots elem kids max_at 0 (at_elements (suc c) w order i elem kids k) k

-- the count was read
pub record CountRead (w : Setting) (order : Order) (fetched : List ℕ) (noted : List Item) (direct : ℕ) (first : Names) (i : ℕ) (rs : List Root)
    (roots : List Tree) (elem : TypeId) (done : Trees) (max_at : Option ℕ) (cells : ℕ) (source : SourceOver) (t : DecodingSeen) (m : Machine)
    (count : ℕ) : Type 0 where
  pub octets : List ℕ
  pub items : List Item
  pub k : Position
  pub after : AfterCount w order (fetched ++ octets) (noted ++ items) direct first i rs roots elem done max_at k count
  pub is_at : IsAt i k m
  pub took : Took source t cells octets items cells

abbrev pub Counts : Setting → Order → List ℕ → List Item → ℕ → Names → ℕ → List Root → List Tree → TypeId → Trees → Option ℕ → ℕ → SourceOver
    → DecodingSeen → Machine → Result ℕ DecodeFault → Type 0
Counts w order fetched noted direct first i rs roots elem kids max_at cells source t m (Ok n) =
    CountRead w order fetched noted direct first i rs roots elem kids max_at cells source t m n
Counts w order fetched noted direct first i rs roots elem kids max_at cells source t m (Err e) = FaultOf w order fetched noted cells source t e
