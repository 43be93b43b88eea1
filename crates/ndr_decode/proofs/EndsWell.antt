-- A stream that was read to its end.
use Rattle.std.proofs.Common.{◌≡◌, ℕ, ◌+◌, List, [], ◌++◌, length, ap, sym, ◌∙◌, subst, append_assoc, arith}
use Rattle.nd_base.specs.declared.octets.Order.{Order}
use Rattle.nd_base.specs.Over.{SourceOver}
use Rattle.nd_types.specs.Number.{AreOctets}
use Rattle.nd_value.specs.declared.item.Item.{Item}
use Rattle.nd_value.specs.Setting.{Setting}
use Rattle.nd_flat.specs.Building.{closed}
use Rattle.nd_grammar.specs.Items.{items}
use Rattle.nd_grammar.specs.LegalSide.{IsLegalSide}
use Rattle.nd_grammar.specs.StreamReader.{read_stream}
use Rattle.ndr_decoder_laws.specs.reader.Around.{going}
use Rattle.nd_grammar.specs.decoded.Verdict.{DecodingSeen, IsDecoded}
use Rattle.ndr_decoder_laws.specs.stream.Calls.{Follows}
use Rattle.ndr_decoder_laws.proofs.stream.Joined as joined
use Rattle.ndr_decoder_laws.proofs.stream.Reports as law
use Rattle.ndr_decoder_stream.specs.declared.stream.Stream.{Stream}
use Rattle.ndr_decoder_stream.proofs.Opened.{closed_length}
use Rattle.ndr_decode.specs.Streaming.{WasRead, WentOn, cells_of}

pub decoded_reported : (w : Setting) → IsLegalSide w → (order : Order) (source : SourceOver) (t : DecodingSeen) (x : Stream) → WasRead w order [] [] 0 source t x
    → IsDecoded w order source x.machine.at (closed x.machine.builder) t
decoded_reported w legal order source t x r =
    let steps = r.took.steps in
    let many = closed_length x.machine.builder in
    law.decoded_report w legal order source t r.octets r.all r.seen r.items (closed x.machine.builder) x.machine.at
    (r.progress ∙ ap (λ k. going k r.seen) (sym r.at)) r.graph r.noted_are r.took.left r.at r.took.logged
    (omega (arith, steps, many))

-- after a call that went on
pub read_after : (w : Setting) (side : IsLegalSide w) (order : Order) (fetched : List ℕ) (noted : List Item) (cells : ℕ) (a b c : SourceOver) (s t u : DecodingSeen) → Follows a b c s t u
    → (x : Stream) (n : ℕ)
    → (g : WentOn w side order fetched noted cells a s x n) → (y : Stream) → WasRead w order (fetched ++ g.octets) (noted ++ g.items) (cells_of x) b t y → WasRead w order fetched noted cells c u y
read_after w side order fetched noted cells a b c s t u follows x n g y r =
    let e : (fetched ++ g.octets) ++ r.octets ≡ fetched ++ (g.octets ++ r.octets) = append_assoc fetched g.octets r.octets in
    record {
      octets = g.octets ++ r.octets;
      items = g.items ++ r.items;
      all = subst AreOctets e r.all;
      seen = r.seen;
      at = ap length (sym e) ∙ r.at;
      progress = subst (λ k. (read_stream w order k).progress ≡ going y.machine.at r.seen) e r.progress;
      graph = subst (λ k. (read_stream w order k).graph ≡ closed y.machine.builder) e r.graph;
      noted_are = subst (λ k. items order k r.seen ≡ noted ++ (g.items ++ r.items)) e (r.noted_are ∙ append_assoc noted g.items r.items);
      whole = r.whole;
      took = joined.took_twice a b c s t u follows cells (cells_of x) (cells_of y) g.octets r.octets g.items r.items g.took r.took;
    }
