-- What reading the head of a stream comes to, and the graph with pipes that have no elements.
-- `plan` is a plan, `w` a setting of a side of it, `x` is what is kept of the stream after the head, `n` is how many cells there were before it.
use Rattle.std.specs.Prelude.{◌≡◌, ℕ, List, [], ◌++◌, Result, Ok, Err, replicate}
use Rattle.nd_base.specs.declared.octets.Order.{Order}
use Rattle.nd_base.specs.Over.{SourceOver}
use Rattle.nd_value.specs.declared.item.Item.{Item}
use Rattle.nd_value.specs.declared.value.Graph.{Graph}
use Rattle.nd_value.specs.Setting.{Setting}
use Rattle.nd_flat.specs.Building.{Building, CanClose, closed}
use Rattle.nd_grammar.specs.Entry.{EntryAt}
use Rattle.nd_grammar.specs.LegalSide.{IsLegalSide}
use Rattle.nd_grammar.specs.StreamReader.{Reading}
use Rattle.ndr_decoder_state.specs.declared.fault.DecodeFault.{DecodeFault}
use Rattle.nd_grammar.specs.decoded.Verdict.{DecodingSeen}
use Rattle.ndr_decoder_laws.specs.stream.Calls.{Took}
use Rattle.ndr_decoder_laws.specs.stream.Parameters.{TestsPass, parameter_tests}
use Rattle.ndr_decoder_laws.specs.stream.Report.{the_head}
use Rattle.ndr_decoder_stream.specs.declared.stream.Stream.{Stream}
use Rattle.ndr_decoder_stream.specs.Seen.{between_of}
use Rattle.ndr_decode.specs.Streaming.{FaultOf, Purpose, Stands, cells_of}
use Rattle.ndr_drain_laws.specs.parts.Parts.{empty_pipe}

-- The head was read: no root and no referent is due, and the agreements of the parameters hold.
pub record ReadTo (w : Setting) (legal : IsLegalSide w) (order : Order) (n : ℕ) (source : SourceOver) (t : DecodingSeen) (x : Stream) : Type 0 where
  pub octets : List ℕ
  pub items : List Item
  pub direct : ℕ
  pub s : Reading
  pub seen : List EntryAt
  pub stands : Stands w legal order octets items direct x s seen [] 0
  pub hold : TestsPass w order octets items direct (between_of x) s seen (parameter_tests w s)
  pub took : Took source t n octets items (cells_of x)

abbrev pub HeadReads : (w : Setting) → IsLegalSide w → Order → ℕ → SourceOver → DecodingSeen → Stream → Result (Unit {0}) DecodeFault → Type 0
HeadReads w legal order n source t x (Ok u) = ReadTo w legal order n source t x
HeadReads w legal order n source t x (Err e) = FaultOf the_head w order [] [] n source t e

-- a graph with so many pipes more, which have no elements
abbrev pub with_empty : ℕ → Graph → Graph
with_empty k g = record { roots = g.roots ++ replicate k empty_pipe; cells = g.cells }

-- what a graph is for
abbrev pub for_what : Building → Purpose
for_what b = record { op = b.op; side = b.side; interface = b.interface; given = b.given }

-- So many pipes were added to a graph.
pub record AddsPipes (k : ℕ) (b d : Building) : Type 0 where
  pub whole : CanClose d
  pub graph : closed d ≡ with_empty k (closed b)
  pub same : for_what d ≡ for_what b
