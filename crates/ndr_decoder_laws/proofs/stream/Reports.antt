-- What is reported of a stream that was decoded, refused or cut off is what the plain reader says of it.
use Rattle.std.proofs.Common.{◌≡◌, ◌≤◌, ℕ, ◌+◌, true, List, [], length, Some, refl, ap, sym, ◌∙◌, subst, arith}
use Rattle.std.proofs.lemmas.List.{append-nil}
use Rattle.std.specs.Io.KnownBytes.{Consumes, IsAtEnd}
use Rattle.nd_base.specs.declared.octets.Order.{Order}
use Rattle.nd_base.specs.Over.{SourceOver}
use Rattle.nd_types.specs.Number.{AreOctets}
use Rattle.nd_value.specs.declared.item.Item.{Item}
use Rattle.nd_value.specs.declared.value.Graph.{Graph}
use Rattle.nd_value.specs.Setting.{Setting}
use Rattle.nd_grammar.specs.declared.reason.Reason.{Reason}
use Rattle.nd_grammar.specs.declared.reason.Reason.TheVariants as reason
use Rattle.nd_grammar.specs.Entry.{EntryAt, end_to_end}
use Rattle.nd_grammar.specs.Items.{but_gaps, items}
use Rattle.nd_grammar.specs.LegalSide.{IsLegalSide}
use Rattle.nd_grammar.specs.Reader.{Progress}
use Rattle.nd_grammar.specs.StreamReader.{read_stream}
use Rattle.ndr_decoder_laws.specs.reader.Around.{going}
use Rattle.nd_grammar.specs.decoded.Verdict.{DecodingSeen, HasNoted, IsDecoded, IsReadThrough, IsCounted, IsCutOff, IsRefused, IsUnread}
use Rattle.ndr_decoder_laws.specs.verdict.InOrder.{HasOwnNumbers, IsRefusedInOrder}
use Rattle.ndr_decoder_laws.proofs.verdict.Alone.{represents_alone}
use Rattle.ndr_decoder_laws.proofs.verdict.Counted.{is_counted}
use Rattle.ndr_decoder_laws.proofs.verdict.ReadThrough.{read_in_part}
use Rattle.ndr_decoder_laws.proofs.verdict.Refused.{refused_numbered, refused_there, stays_refused, no_graph}
use Rattle.ndr_decoder_laws.specs.stream.Report.{AreCells, IsReported, StreamRefused, StreamCut, the_stream}

module _ (w : Setting) (side : IsLegalSide w) (order : Order) (s : SourceOver) (t : DecodingSeen) where
  pub counted_so : (fetched : List ℕ) (seen : List EntryAt) (noted : List Item) (n : ℕ) → items order fetched seen ≡ noted → AreCells w seen n → IsReported noted n t
      → IsReadThrough w order fetched seen
      → IsCounted w order fetched seen t
  counted_so fetched seen noted n e c r through =
      let many = c.named.many in
      let few = c.few in
      let steps : t.steps_now ≤ t.steps + length (but_gaps (items order fetched seen)) + n = subst (λ u. t.steps_now ≤ t.steps + length (but_gaps u) + n) (sym e) r.steps in
      is_counted w order fetched seen t through (omega (arith, many, few, steps))

  pub logged_so : (fetched : List ℕ) (seen : List EntryAt) (noted : List Item) (n : ℕ) → items order fetched seen ≡ noted → IsReported noted n t → HasNoted (items order fetched seen) t
  logged_so fetched seen noted n e r = subst (λ u. HasNoted u t) (sym e) r.logged

  -- the octets are refused, after the entries that the reader passes
  refused_with : (fetched : List ℕ) (noted : List Item) (n place : ℕ) (why : Reason) → (r : StreamRefused the_stream w order fetched noted n place why) → IsReported noted n t
      → Consumes s.left s.left_now fetched → (why ≡ reason.Truncated → s.ended_now ≡ true) → (why ≡ reason.Truncated → IsAtEnd s.left_now)
      → (it : IsRefused w order s place why t) × ((it.fetched ≡ fetched) × (it.bad.earlier ≡ r.seen) × HasOwnNumbers it.bad.partial it.bad.entries)
  refused_with fetched noted n place why r reported left ended none_left =
      let stop : (read_stream w order fetched).progress.stop ≡ Some (place, why) = ap (λ (p : Progress). p.stop) r.stops in
      let seen_is : (read_stream w order fetched).progress.seen ≡ r.seen = ap (λ (p : Progress). p.seen) r.stops in
      let (bad, earlier, ends, numbers) = refused_numbered w side order fetched r.octets place why stop r.needed in
      let e : r.seen ≡ bad.earlier = sym seen_is ∙ sym earlier in
      let through : IsReadThrough w order fetched r.seen = read_in_part w side order fetched r.octets r.seen [] (seen_is ∙ sym (append-nil r.seen)) in (
        record {
          fetched = fetched;
          left = left;
          ended = ended;
          none_left = none_left;
          bad = bad;
          ends = ends;
          logged = subst (λ u. HasNoted (items order fetched u) t) e (logged_so fetched r.seen noted n r.items_are reported);
          counted = subst (λ u. IsCounted w order fetched u t) e (counted_so fetched r.seen noted n r.items_are r.cells reported through);
          stays = stays_refused w side order fetched r.octets place why stop;
          no_graph = no_graph w side order fetched r.octets place why stop;
        },
        (refl, sym e, numbers),
      )

  pub refused_so : (fetched : List ℕ) (noted : List Item) (n place : ℕ) (why : Reason) → (r : StreamRefused the_stream w order fetched noted n place why) → IsReported noted n t
      → Consumes s.left s.left_now fetched → (why ≡ reason.Truncated → s.ended_now ≡ true) → (why ≡ reason.Truncated → IsAtEnd s.left_now)
      → (it : IsRefused w order s place why t) × ((it.fetched ≡ fetched) × (it.bad.earlier ≡ r.seen))
  refused_so fetched noted n place why r reported left ended none_left =
      let (it, (of_it, as_it, numbers)) = refused_with fetched noted n place why r reported left ended none_left in
      (it, (of_it, as_it))

  -- at an entry of a graph whose cells have their own numbers
  pub refused_in_order : (fetched : List ℕ) (noted : List Item) (n place : ℕ) (why : Reason) → StreamRefused the_stream w order fetched noted n place why → IsReported noted n t
      → Consumes s.left s.left_now fetched → (why ≡ reason.Truncated → s.ended_now ≡ true) → (why ≡ reason.Truncated → IsAtEnd s.left_now) → IsRefusedInOrder w order s place why t
  refused_in_order fetched noted n place why r reported left ended none_left =
      let (it, (of_it, as_it, numbers)) = refused_with fetched noted n place why r reported left ended none_left in
      record { refused = it; numbers = numbers }

  pub refused_report : (fetched : List ℕ) (noted : List Item) (n place : ℕ) (why : Reason) → StreamRefused the_stream w order fetched noted n place why → IsReported noted n t
      → Consumes s.left s.left_now fetched → (why ≡ reason.Truncated → s.ended_now ≡ true) → (why ≡ reason.Truncated → IsAtEnd s.left_now) → IsRefused w order s place why t
  refused_report fetched noted n place why r reported left ended none_left = (refused_so fetched noted n place why r reported left ended none_left).0

  -- the source failed: the octets are refused where they end
  pub unread_so : (fetched : List ℕ) (noted : List Item) (n : ℕ) → (r : StreamRefused the_stream w order fetched noted n (length fetched) reason.Truncated) → IsReported noted n t
      → Consumes s.left s.left_now fetched → (it : IsUnread w order s t) × ((it.cut.fetched ≡ fetched) × (it.cut.earlier ≡ r.seen))
  unread_so fetched noted n r reported left =
      let stop : (read_stream w order fetched).progress.stop ≡ Some (length fetched, reason.Truncated) = ap (λ (p : Progress). p.stop) r.stops in
      let seen_is : (read_stream w order fetched).progress.seen ≡ r.seen = ap (λ (p : Progress). p.seen) r.stops in
      let (bad, earlier, ends) = refused_there w side order fetched r.octets (length fetched) reason.Truncated stop r.needed in
      let through : IsReadThrough w order fetched r.seen = read_in_part w side order fetched r.octets r.seen [] (seen_is ∙ sym (append-nil r.seen)) in (
        record {
          cut = record {
            fetched = fetched;
            left = left;
            earlier = r.seen;
            read = through;
            logged = logged_so fetched r.seen noted n r.items_are reported;
            counted = counted_so fetched r.seen noted n r.items_are r.cells reported through;
          };
          short = bad;
          as_far = earlier ∙ seen_is;
        },
        (refl, refl),
      )

  pub unread_report : (fetched : List ℕ) (noted : List Item) (n : ℕ) → StreamRefused the_stream w order fetched noted n (length fetched) reason.Truncated → IsReported noted n t
      → Consumes s.left s.left_now fetched → IsUnread w order s t
  unread_report fetched noted n r reported left = (unread_so fetched noted n r reported left).0

  pub cut_report : (fetched : List ℕ) (noted : List Item) (n : ℕ) → StreamCut the_stream w order fetched noted n → IsReported noted n t → Consumes s.left s.left_now fetched → IsCutOff w order s t
  cut_report fetched noted n r reported left =
      let through : IsReadThrough w order fetched r.seen = read_in_part w side order fetched r.octets r.seen r.after r.passed in
      record {
        fetched = fetched;
        left = left;
        earlier = r.seen;
        read = through;
        logged = logged_so fetched r.seen noted n r.items_are reported;
        counted = counted_so fetched r.seen noted n r.items_are r.cells reported through;
      }

  pub decoded_report : (fetched : List ℕ) → AreOctets fetched → (seen : List EntryAt) (noted : List Item) (g : Graph) (count : ℕ) → (read_stream w order fetched).progress ≡ going (length fetched) seen
      → (read_stream w order fetched).graph ≡ g → items order fetched seen ≡ noted → Consumes s.left s.left_now fetched → length fetched ≡ count → HasNoted noted t
      → t.steps_now ≡ t.steps + length (but_gaps noted) + length g.cells → IsDecoded w order s count g t
  decoded_report fetched all seen noted g count e graph_is e_items left count_is logged steps =
      let (alone, entries) = represents_alone w side order fetched all (ap (λ (p : Progress). p.stop) e) (ap (λ (p : Progress). p.at) e) g graph_is in
      let seen_is : seen ≡ end_to_end 0 alone.represented.entries = sym (ap (λ (p : Progress). p.seen) e) ∙ sym entries in
      let items_are : noted ≡ items order fetched (end_to_end 0 alone.represented.entries) = sym e_items ∙ ap (items order fetched) seen_is in
      record {
        fetched = fetched;
        left = left;
        taken_is = count_is;
        graph = alone;
        logged = subst (λ u. HasNoted u t) items_are logged;
        stepped = subst (λ u. t.steps_now ≡ t.steps + length (but_gaps u) + length g.cells) items_are steps;
      }
