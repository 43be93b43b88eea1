-- A home that is refused or cut off, in the stream.
-- `x` is what is read of the stream.
use Rattle.std.proofs.Common.{◌≡◌, ◌<◌, ℕ, List, [], ◌∷◌, ◌++◌, length, ap, ◌∙◌, subst, append_assoc}
use Rattle.nd_base.specs.declared.octets.Order.{Order}
use Rattle.nd_types.specs.Number.{AreOctets}
use Rattle.nd_value.specs.declared.item.Item.{Item}
use Rattle.nd_value.specs.Setting.{Setting}
use Rattle.nd_value.proofs.Apart.{all_append, all_left}
use Rattle.nd_grammar.specs.declared.reason.Reason.{Reason}
use Rattle.nd_grammar.specs.declared.reason.Reason.TheVariants as reason
use Rattle.nd_grammar.specs.Entry.{EntryAt}
use Rattle.nd_grammar.specs.Items.{items}
use Rattle.nd_grammar.specs.Reader.{Progress, Read}
use Rattle.ndr_decoder_laws.specs.reader.Around.{stopped}
use Rattle.nd_grammar.specs.decoded.Needed.{IsNeeded}
use Rattle.ndr_decoder_laws.specs.stream.Added.{Goes}
use Rattle.ndr_decoder_laws.specs.stream.Between.{AreNeeded}
use Rattle.ndr_decoder_laws.specs.stream.Calls.{RefusesWith, GoesWith}
use Rattle.ndr_decoder_laws.specs.stream.Report.{AreCells, Extent, StreamRefused, StreamCut, read_over}
use Rattle.ndr_decoder_laws.proofs.stream.Heads.{over_stream}
use Rattle.ndr_decoder_laws.proofs.stream.Needing.{NeededAfter, needed_more}

module _ (x : Extent) (w : Setting) (order : Order) (fetched : List ℕ) (all : AreOctets fetched) (needed : IsNeeded w order fetched) (target : List ℕ → Read) (added : List ℕ)
    (all_added : AreOctets added) where
  octets : AreOctets (fetched ++ added)
  octets = all_append (λ b. b < 256) fetched added all all_added

  needed_after : RefusesWith x w order fetched target → AreNeeded target fetched added → NeededAfter w order fetched added
  needed_after refuses needs part last e =
      let (at, seen, stop) = needs part last e in
      let a : AreOctets part = all_left (λ b. b < 256) part (last ∷ []) (subst AreOctets e all_added) in
      ap (λ (u : Progress). u.stop)
      (over_stream w order (fetched ++ part) x at seen (length (fetched ++ part), reason.Truncated) (refuses part a at seen (length (fetched ++ part), reason.Truncated) stop))

  pub home_refused : RefusesWith x w order fetched target → AreNeeded target fetched added → (noted : List Item) (n place : ℕ) (why : Reason) (at : ℕ) (seen : List EntryAt)
      → (target (fetched ++ added)).progress ≡ stopped at seen (place, why) → items order (fetched ++ added) seen ≡ noted → AreCells w seen n
      → StreamRefused x w order (fetched ++ added) noted n place why
  home_refused refuses needs noted n place why at seen stop e cells = record {
    octets = octets;
    at = at;
    seen = seen;
    stops = refuses added all_added at seen (place, why) stop;
    items_are = e;
    needed = needed_more w order fetched added needed (needed_after refuses needs);
    cells = cells;
  }

  pub home_cut : GoesWith x w order fetched target → (noted : List Item) (n : ℕ) (seen after : List EntryAt) → (target (fetched ++ added)).progress.seen ≡ seen ++ after
      → items order (fetched ++ added) seen ≡ noted → AreCells w seen n → StreamCut x w order (fetched ++ added) noted n
  home_cut goes noted n seen after e f cells =
      let g : Goes (target (fetched ++ added)).progress (read_over x w order (fetched ++ added)) = goes added all_added in
      record {
        octets = octets;
        seen = seen;
        after = after ++ g.added;
        passed = g.seen ∙ ap (λ u. u ++ g.added) e ∙ append_assoc seen after g.added;
        items_are = f;
        cells = cells;
      }
