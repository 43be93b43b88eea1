-- What a call of a decoder comes to, over its source and its log.
-- `x` is what is read of a stream, `source` and `t` are what was seen of the source, and of the log and the steps, over the call; `fetched`, `noted`
-- and `n` are the octets, the items and the cells before it.
use Rattle.std.specs.Prelude.{◌≡◌, ◌≤◌, ℕ, ◌+◌, true, List, ◌++◌, length}
use Rattle.std.specs.Io.KnownBytes.{Consumes, IsAtEnd}
use Rattle.nd_base.specs.declared.octets.Order.{Order}
use Rattle.nd_base.specs.Over.{SourceOver}
use Rattle.nd_types.specs.Number.{AreOctets}
use Rattle.nd_value.specs.declared.item.Item.{Item}
use Rattle.nd_value.specs.Setting.{Setting}
use Rattle.nd_grammar.specs.declared.reason.Reason.{Reason}
use Rattle.nd_grammar.specs.declared.reason.Reason.TheVariants as reason
use Rattle.nd_grammar.specs.Entry.{EntryAt}
use Rattle.nd_grammar.specs.Items.{but_gaps}
use Rattle.nd_grammar.specs.Reader.{Read}
use Rattle.ndr_decoder_laws.specs.reader.Around.{stopped}
use Rattle.nd_grammar.specs.decoded.Verdict.{DecodingSeen, HasNoted}
use Rattle.ndr_decoder_laws.specs.stream.Added.{Goes}
use Rattle.ndr_decoder_laws.specs.stream.Report.{Extent, StreamRefused, StreamCut, read_over}

-- So many octets were taken from the source, and these items were noted. Each of them but the gaps was counted, and each cell that got its number:
-- `n'` are there then.
pub record Took (source : SourceOver) (t : DecodingSeen) (n : ℕ) (octets : List ℕ) (items : List Item) (n' : ℕ) : Type 0 where
  pub left : Consumes source.left source.left_now octets
  pub logged : HasNoted items t
  pub steps : t.steps_now + n ≡ t.steps + length (but_gaps items) + n'

-- The same at a fault: no more were counted.
pub record TookPart (source : SourceOver) (t : DecodingSeen) (n : ℕ) (octets : List ℕ) (items : List Item) (n' : ℕ) : Type 0 where
  pub left : Consumes source.left source.left_now octets
  pub logged : HasNoted items t
  pub steps : t.steps_now + n ≤ t.steps + length (but_gaps items) + n'

-- What was seen over two calls, one after the other: over the first (`a`, `s`), the second (`b`, `t`) and both (`c`, `u`).
pub record Follows (a b c : SourceOver) (s t u : DecodingSeen) : Type 0 where
  pub before : c.left ≡ a.left
  pub middle : a.left_now ≡ b.left
  pub after : c.left_now ≡ b.left_now
  pub ended : c.ended_now ≡ b.ended_now
  pub log : u.log ≡ s.log
  pub log_middle : s.log_now ≡ t.log
  pub log_now : u.log_now ≡ t.log_now
  pub steps : u.steps ≡ s.steps
  pub steps_middle : s.steps_now ≡ t.steps
  pub steps_now : u.steps_now ≡ t.steps_now

-- It is refused at a place and for a reason; where its octets are cut short, the source has ended.
pub record Refused (x : Extent) (w : Setting) (order : Order) (fetched : List ℕ) (noted : List Item) (n : ℕ) (source : SourceOver) (t : DecodingSeen)
    (place : ℕ) (why : Reason) : Type 0 where
  pub octets : List ℕ
  pub items : List Item
  pub n' : ℕ
  pub refused : StreamRefused x w order (fetched ++ octets) (noted ++ items) n' place why
  pub took : TookPart source t n octets items n'
  pub ended : why ≡ reason.Truncated → source.ended_now ≡ true
  pub none_left : why ≡ reason.Truncated → IsAtEnd source.left_now

-- The source failed before the octets of the next entry had come: those fetched are cut short where they end.
pub record Unread (x : Extent) (w : Setting) (order : Order) (fetched : List ℕ) (noted : List Item) (n : ℕ) (source : SourceOver)
    (t : DecodingSeen) : Type 0 where
  pub octets : List ℕ
  pub items : List Item
  pub n' : ℕ
  pub short : StreamRefused x w order (fetched ++ octets) (noted ++ items) n' (length (fetched ++ octets)) reason.Truncated
  pub took : TookPart source t n octets items n'

-- Reading was cut off.
pub record CutOff (x : Extent) (w : Setting) (order : Order) (fetched : List ℕ) (noted : List Item) (n : ℕ) (source : SourceOver)
    (t : DecodingSeen) : Type 0 where
  pub octets : List ℕ
  pub items : List Item
  pub n' : ℕ
  pub cut : StreamCut x w order (fetched ++ octets) (noted ++ items) n'
  pub took : TookPart source t n octets items n'

-- ## A home

-- Where the reader refuses a home, it refuses the stream, or its head.
abbrev pub RefusesWith : Extent → Setting → Order → List ℕ → (List ℕ → Read) → Type 0
RefusesWith x w order fetched target =
    (part : List ℕ) → AreOctets part → (at : ℕ) (seen : List EntryAt) (why : ℕ × Reason) → (target (fetched ++ part)).progress ≡ stopped at seen why
    → read_over x w order (fetched ++ part) ≡ stopped at seen why

-- What it passes of a home it passes of the stream, or of its head.
abbrev pub GoesWith : Extent → Setting → Order → List ℕ → (List ℕ → Read) → Type 0
GoesWith x w order fetched target =
    (part : List ℕ) → AreOctets part → Goes (target (fetched ++ part)).progress (read_over x w order (fetched ++ part))
