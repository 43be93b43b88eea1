-- Faults while the pipes of a stream are read.
use Rattle.std.proofs.Common.{◌≡◌, ◌≤◌, ℕ, List, [], ◌++◌, length, Option, subst, arith}
use Rattle.std.proofs.lemmas.List.{append-nil}
use Rattle.nd_base.specs.declared.octets.Order.{Order}
use Rattle.nd_base.specs.Over.{SourceOver}
use Rattle.nd_types.specs.Number.{AreOctets}
use Rattle.nd_value.specs.declared.item.Home.{Home}
use Rattle.nd_value.specs.declared.item.Item.{Item}
use Rattle.nd_value.specs.Setting.{Setting}
use Rattle.nd_grammar.specs.Entry.{EntryAt}
use Rattle.nd_grammar.specs.Reader.{Names}
use Rattle.nd_grammar.specs.StreamReader.{read_stream}
use Rattle.ndr_decoder_laws.specs.reader.Around.{going}
use Rattle.ndr_refs.specs.declared.referents.Known.{Known}
use Rattle.ndr_decoder_laws.specs.steps.Good.{Told}
use Rattle.ndr_decoder_laws.specs.steps.Steps.{Place}
use Rattle.nd_grammar.specs.decoded.Verdict.{DecodingSeen, direct_roots}
use Rattle.ndr_decoder_laws.specs.stream.Added.{Goes}
use Rattle.ndr_decoder_laws.specs.stream.Calls.{CutOff, Took}
use Rattle.ndr_decoder_laws.specs.stream.Report.{StreamCut, the_stream}

-- ## Cut off

-- memory fails where reading goes on after these entries
pub cut_at : (w : Setting) (order : Order) (fetched : List ℕ) (noted : List Item) (direct : ℕ) (h : Home) (seen : List EntryAt) (names : Names) (cells : List ℕ) (numbers : List (ℕ × Known))
    (max_at : Option ℕ) (n : ℕ) (half : List Place) (at : ℕ)
    → AreOctets fetched → direct ≤ length (direct_roots w) → Told noted direct order fetched h seen names cells numbers max_at n half
    → ((later : List ℕ) → AreOctets later → Goes (going at seen) (read_stream w order (fetched ++ later)).progress) → StreamCut the_stream w order fetched noted (length cells)
cut_at w order fetched noted direct h seen names cells numbers max_at n half at octets few told goes =
    let more : Goes (going at seen) (read_stream w order (fetched ++ [])).progress = goes [] tt in
    record {
      octets = octets;
      seen = seen;
      after = more.added;
      passed = subst (λ (f : List ℕ). (read_stream w order f).progress.seen ≡ seen ++ more.added) (append-nil fetched) more.seen;
      items_are = told.noted_are;
      cells = record { d = direct; named = told.cells_named.named; few = few };
    }

-- after so many octets
pub cut_after : (w : Setting) (order : Order) (fetched : List ℕ) (noted : List Item) (n n' : ℕ) (source : SourceOver) (t : DecodingSeen) (octets : List ℕ) (items : List Item)
    → Took source t n octets items n'
    → StreamCut the_stream w order (fetched ++ octets) (noted ++ items) n' → CutOff the_stream w order fetched noted n source t
cut_after w order fetched noted n n' source t octets items took cut =
    let steps = took.steps in
    record { octets = octets; items = items; n' = n'; cut = cut; took = record { left = took.left; logged = took.logged; steps = omega (arith, steps) } }
