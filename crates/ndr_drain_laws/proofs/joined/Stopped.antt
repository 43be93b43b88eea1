-- Streams that are read in parts and not to their end.
use Rattle.std.proofs.Common.{◌≡◌, ◌<◌, ◌≤◌, ◌∙◌, ap, sym, subst, refl, ℕ, List, [], ◌++◌, length, inl, inr, ◌⊎◌}
use Rattle.std.proofs.lemmas.List.{append-nil}
use Rattle.std.specs.List.{AllByRecursion}
use Rattle.std.proofs.lemmas.Bool.{cases_lt}
use Rattle.nd_base.specs.declared.octets.Order.{Order}
use Rattle.nd_value.specs.declared.value.Graph.{Graph}
use Rattle.nd_value.specs.Setting.{Setting, root_list}
use Rattle.nd_grammar.specs.declared.reason.Reason.{Reason}
use Rattle.nd_grammar.specs.Refusal.{Bad, Accepts}
use Rattle.nd_grammar.specs.Entry.{EntryAt, end_to_end}
use Rattle.nd_grammar.specs.LegalSide.{IsLegalSide}
use Rattle.nd_grammar.specs.Stream.{IsNumbering, IsRendered}
use Rattle.nd_grammar.proofs.ConformingPartial.{conforming_is_partial}
use Rattle.nd_grammar.specs.decoded.Verdict.{IsReadThrough}
use Rattle.ndr_drain_laws.specs.parts.Parts.{AreReadTo, BadPart, IsPartThrough, Part, after_all, first_spot, octets_of, part_entries, pipes_of, with_pipes}
use Rattle.ndr_drain_laws.proofs.parts.Chunks.{parts_entries}
use Rattle.ndr_drain_laws.proofs.parts.Conforming.{conforming}
use Rattle.ndr_drain_laws.proofs.parts.Streams.{all_joined, first_entries, first_numbers, first_rendered, pipe_tops, stream}
use Rattle.ndr_drain_laws.specs.joined.Entries.{entries_to}
use Rattle.ndr_drain_laws.proofs.joined.Front.{front_accepted, front_is}
use Rattle.ndr_drain_laws.proofs.joined.Through as through
use Rattle.ndr_drain_laws.proofs.joined.Through.{place_after}

pub refused_chunk : (w : Setting) → IsLegalSide w → (order : Order) (head : List ℕ) (g : Graph) (parts : List Part) → (it : AreReadTo w order head g parts)
    → (octets : List ℕ) (place : ℕ) (why : Reason) → (bad : BadPart w order (after_all (first_spot w head) parts) octets place why)
    → (whole : Bad w order ((head ++ octets_of parts) ++ octets) place why) × (whole.here ≡ bad.here)
    × (whole.earlier ≡ entries_to w g it.is_head.steps head parts ++ bad.earlier)
refused_chunk w side order head g parts it octets place why bad =
    let t : IsPartThrough w order (after_all (first_spot w head) parts) octets bad.earlier = bad.through in
    let rest : List EntryAt = through.rest w side order head g parts it octets bad.earlier t in
    let X : List EntryAt = entries_to w g it.is_head.steps head parts ++ bad.earlier in (
      record {
        partial = through.G w side order head g parts it octets bad.earlier t;
        is_partial = through.is_partial w side order head g parts it octets bad.earlier t;
        entries = through.all_entries w side order head g parts it octets bad.earlier t;
        stream = through.its_stream w side order head g parts it octets bad.earlier t;
        earlier = X;
        here = bad.here;
        later = bad.others ++ rest;
        split = through.its_split w side order head g parts it octets bad.earlier t ∙ ap (λ u. X ++ (u ++ rest)) bad.next;
        numbering = it.is_head.numbering;
        is_numbering = through.numbers_all w side order head g parts it octets bad.earlier t;
        rendered = through.rendered_all w side order head g parts it octets bad.earlier t;
        accepted = through.accepted_all w side order head g parts it octets bad.earlier t;
        refused = through.refused_next w side order head g parts it octets bad.earlier t bad.here bad.others bad.next place why
            (bad.refused (head ++ octets_of parts) (sym (place_after w head parts)));
      },
      refl,
      refl,
    )

pub read_through_chunk : (w : Setting) → IsLegalSide w → (order : Order) (head : List ℕ) (g : Graph) (parts : List Part) → (it : AreReadTo w order head g parts)
    → (octets : List ℕ) (earlier : List EntryAt) → IsPartThrough w order (after_all (first_spot w head) parts) octets earlier
    → IsReadThrough w order ((head ++ octets_of parts) ++ octets) (entries_to w g it.is_head.steps head parts ++ earlier)
read_through_chunk w side order head g parts it octets earlier t = record {
  partial = through.G w side order head g parts it octets earlier t;
  is_partial = through.is_partial w side order head g parts it octets earlier t;
  entries = through.all_entries w side order head g parts it octets earlier t;
  stream = through.its_stream w side order head g parts it octets earlier t;
  later = t.later ++ through.rest w side order head g parts it octets earlier t;
  split = through.its_split w side order head g parts it octets earlier t;
  numbering = it.is_head.numbering;
  is_numbering = through.numbers_all w side order head g parts it octets earlier t;
  rendered = through.rendered_all w side order head g parts it octets earlier t;
  accepted = through.accepted_all w side order head g parts it octets earlier t;
}

pub read_through_parts : (w : Setting) → IsLegalSide w → (order : Order) (head : List ℕ) (g : Graph) (parts : List Part) → (it : AreReadTo w order head g parts)
    → IsReadThrough w order (head ++ octets_of parts) (entries_to w g it.is_head.steps head parts)
read_through_parts w side order head g parts it = go (cases_lt (after_all (first_spot w head) parts).root (length (root_list w)))
  where
    -- a pipe is left: no chunk was begun
    left : (after_all (first_spot w head) parts).root < length (root_list w) → IsReadThrough w order (head ++ octets_of parts) (entries_to w g it.is_head.steps head parts)
    left h =
        let t : IsPartThrough w order (after_all (first_spot w head) parts) [] [] = record {
          pipe_left = h;
          elements = [];
          partial = tt;
          machine_values = tt;
          later = end_to_end (after_all (first_spot w head) parts).place (part_entries w (after_all (first_spot w head) parts) 0 []);
          split = refl;
          rendered = λ before numbering e. tt;
          accepted = λ before e. tt;
        } in
        subst (λ u. IsReadThrough w order u (entries_to w g it.is_head.steps head parts)) (append-nil (head ++ octets_of parts))
        (subst (IsReadThrough w order ((head ++ octets_of parts) ++ [])) (append-nil (entries_to w g it.is_head.steps head parts)) (read_through_chunk w side order head g parts it [] [] t))

    -- every pipe has ended
    all_read : length (root_list w) ≤ (after_all (first_spot w head) parts).root → IsReadThrough w order (head ++ octets_of parts) (entries_to w g it.is_head.steps head parts)
    all_read h =
        let X : List EntryAt = entries_to w g it.is_head.steps head parts in
        let octets : List ℕ = head ++ octets_of parts in
        record {
          partial = with_pipes w g (pipes_of [] parts);
          is_partial = conforming_is_partial w side (with_pipes w g (pipes_of [] parts)) (conforming w side order head g parts it h);
          entries = first_entries w order head g parts it;
          stream = stream w side order head g it.is_head it.empty it.conforms (pipes_of [] parts) (pipe_tops parts []) (parts_entries w (first_spot w head) parts)
              (all_joined w side order head parts it.are_parts h);
          later = [];
          split = front_is w side order head g parts it ∙ sym (append-nil X);
          numbering = it.is_head.numbering;
          is_numbering = subst (IsNumbering it.is_head.numbering) (first_numbers w order head g parts it) it.is_head.is_numbering;
          rendered = subst (λ u. AllByRecursion (IsRendered order it.is_head.numbering octets) u) (front_is w side order head g parts it) (first_rendered w order head g parts it);
          accepted = subst (λ u. Accepts order octets [] u) (front_is w side order head g parts it)
              (subst (λ u. Accepts order u [] (end_to_end 0 (first_entries w order head g parts it))) (append-nil octets) (front_accepted w side order head g parts it []));
        }

    go : ((after_all (first_spot w head) parts).root < length (root_list w)) ⊎ (length (root_list w) ≤ (after_all (first_spot w head) parts).root)
        → IsReadThrough w order (head ++ octets_of parts) (entries_to w g it.is_head.steps head parts)
    go (inl h) = left h
    go (inr h) = all_read h
