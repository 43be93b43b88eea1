-- What the plain reader says of the octets that were fetched, where a stream was refused or cut off.
-- `x` is what is read of a stream, `w` is a setting, `s` a source and `t` the log and the steps over a call, `fetched` are the octets, `noted` the
-- items that were noted, `seen` are the entries that were passed, `n` is how many cells there are, `d` how many of them are referents of roots that
-- are reference pointers.
use Rattle.std.specs.Prelude.{◌≡◌, ◌≤◌, ℕ, ◌+◌, List, ◌++◌, length}
use Rattle.nd_base.specs.declared.octets.Order.{Order}
use Rattle.nd_types.specs.Number.{AreOctets}
use Rattle.nd_value.specs.declared.item.Item.{Item}
use Rattle.nd_value.specs.Setting.{Setting}
use Rattle.nd_grammar.specs.declared.reason.Reason.{Reason}
use Rattle.nd_grammar.specs.Entry.{EntryAt}
use Rattle.nd_grammar.specs.Items.{but_gaps, items}
use Rattle.nd_grammar.specs.Reader.{Progress}
use Rattle.nd_grammar.specs.StreamReader.{read_stream}
use Rattle.ndr_decoder_laws.specs.reader.Around.{stopped}
use Rattle.nd_grammar.specs.decoded.Needed.{IsNeeded}
use Rattle.nd_grammar.specs.decoded.Verdict.{DecodingSeen, HasNoted, direct_roots}
use Rattle.ndr_decoder_laws.specs.verdict.CellsSeen.{CellsSeen}
use Rattle.ndr_decoder_laws.specs.stream.Parameters.{head_read}

-- what is read of a stream: what comes before its pipes, or all of it
pub data Extent : Type 0 where
  the_head : Extent
  the_stream : Extent

-- how far the reader comes over it
abbrev pub read_over : Extent → Setting → Order → List ℕ → Progress
read_over the_head w order octets = head_read w order octets
read_over the_stream w order octets = (read_stream w order octets).progress

-- There are so many cells: those that the entries name, and the referents of some roots that are reference pointers.
pub record AreCells (w : Setting) (seen : List EntryAt) (n : ℕ) : Type 0 where
  pub d : ℕ
  pub named : CellsSeen seen n d
  pub few : d ≤ length (direct_roots w)

-- The items were logged, and each of them but the gaps is counted, with the cells: no more are.
pub record IsReported (noted : List Item) (n : ℕ) (t : DecodingSeen) : Type 0 where
  pub logged : HasNoted noted t
  pub steps : t.steps_now ≤ t.steps + length (but_gaps noted) + n

-- The reader refuses the octets at this place and for this reason, after entries whose items were noted; each of the octets is needed.
pub record StreamRefused (x : Extent) (w : Setting) (order : Order) (fetched : List ℕ) (noted : List Item) (n place : ℕ) (why : Reason) : Type 0 where
  pub octets : AreOctets fetched
  pub at : ℕ
  pub seen : List EntryAt
  pub stops : read_over x w order fetched ≡ stopped at seen (place, why)
  pub items_are : items order fetched seen ≡ noted
  pub needed : IsNeeded w order fetched
  pub cells : AreCells w seen n

-- After entries whose items were noted the reader refuses all octets that begin with these, before the pipes.
pub record IsRefusedAfter (w : Setting) (order : Order) (fetched : List ℕ) (noted : List Item) (n d at : ℕ) (why : ℕ × Reason) : Type 0 where
  pub seen : List EntryAt
  pub stops : (later : List ℕ) → AreOctets later → head_read w order (fetched ++ later) ≡ stopped at seen why
  pub items_are : items order fetched seen ≡ noted
  pub cells_named : CellsSeen seen n d
  pub needed : IsNeeded w order fetched

-- The reader passes entries whose items were noted, and perhaps others after them.
pub record StreamCut (x : Extent) (w : Setting) (order : Order) (fetched : List ℕ) (noted : List Item) (n : ℕ) : Type 0 where
  pub octets : AreOctets fetched
  pub seen : List EntryAt
  pub after : List EntryAt
  pub passed : (read_over x w order fetched).seen ≡ seen ++ after
  pub items_are : items order fetched seen ≡ noted
  pub cells : AreCells w seen n

-- ## What is reported
