-- The entries of a head, of chunks, and the first of the next chunk are the first entries of a stream of a partial graph.
use Rattle.std.proofs.Common.{◌≡◌, ◌∙◌, ap, ap₂, sym, subst, ℕ, ◌+◌, List, [], ◌∷◌, ◌++◌, length, length-append, append_assoc, Some}
use Rattle.std.specs.List.{AllByRecursion}
use Rattle.std.proofs.lemmas.List.{append-nil}
use Rattle.nd_base.specs.declared.octets.Order.{Order}
use Rattle.nd_value.specs.declared.value.Graph.{Graph}
use Rattle.nd_value.specs.Conforms.{IsPartial}
use Rattle.nd_value.specs.Setting.{Setting}
use Rattle.nd_value.specs.Tree.{Tree}
use Rattle.nd_value.proofs.Apart.{all_append, all_left, all_right, all_weaker}
use Rattle.nd_grammar.specs.declared.reason.Reason.{Reason}
use Rattle.nd_grammar.specs.Entry.{Entry, EntryAt, end_of, end_to_end, full_cells}
use Rattle.nd_grammar.specs.LegalSide.{IsLegalSide}
use Rattle.nd_grammar.specs.Refusal.{Accepts, refusal}
use Rattle.nd_grammar.specs.Stream.{IsNumbering, IsRendered, Stream, head_entries}
use Rattle.nd_grammar.proofs.next.Spelt.{spelt_in_more}
use Rattle.nd_grammar.proofs.reader.ReaderTests.{Top}
use Rattle.ndr_drain_laws.specs.parts.Parts.{AreReadTo, IsPartThrough, Part, Spot, after_all, first_spot, octets_of, part_entries, with_pipes}
use Rattle.ndr_drain_laws.proofs.parts.Chunks.{parts_entries}
use Rattle.ndr_drain_laws.proofs.parts.Spelt.{ends_append, full_append}
use Rattle.ndr_drain_laws.proofs.parts.Streams.{AreJoined, first_end, first_entries, first_numbers, first_rendered, same, stream}
use Rattle.ndr_drain_laws.specs.joined.Entries.{entries_to}
use Rattle.ndr_drain_laws.proofs.joined.Bare.{after_bare, part_bare}
use Rattle.ndr_drain_laws.proofs.joined.Before.{Unmet, at_places, own_unmet, still_accepted, still_refused}
use Rattle.ndr_drain_laws.proofs.joined.Begun.{begun_entries, begun_joined, begun_pipes, entries_after, last_pipes, last_tops, then_tops, unreached_pipes}
use Rattle.ndr_drain_laws.proofs.joined.Front.{front_accepted, front_before, front_is, place_from}
use Rattle.ndr_drain_laws.proofs.joined.Homes.{IsOwn, part_own}
use Rattle.ndr_drain_laws.proofs.joined.Partial.{part_elements, part_pipes, partial_graph}

pub place_after : (w : Setting) (head : List ℕ) (parts : List Part) → (after_all (first_spot w head) parts).place ≡ length (head ++ octets_of parts)
place_after w head parts = place_from parts (first_spot w head) ∙ sym (length-append head (octets_of parts))

-- what is accepted after what was accepted
both_accepted : (order : Order) (octets : List ℕ) (seen xs ys : List EntryAt) → Accepts order octets seen xs → Accepts order octets (seen ++ xs) ys → Accepts order octets seen (xs ++ ys)
both_accepted order octets seen [] ys a b = subst (λ u. Accepts order octets u ys) (append-nil seen) b
both_accepted order octets seen (x ∷ xs) ys a b =
    (a.0, both_accepted order octets (seen ++ x ∷ []) xs ys a.1 (subst (λ u. Accepts order octets u ys) (sym (append_assoc seen (x ∷ []) xs)) b))

module _ (w : Setting) (side : IsLegalSide w) (order : Order) (head : List ℕ) (g : Graph) (parts : List Part) (it : AreReadTo w order head g parts) (octets : List ℕ)
    (earlier : List EntryAt) (t : IsPartThrough w order (after_all (first_spot w head) parts) octets earlier) where
  abbrev s : Spot
  s = after_all (first_spot w head) parts

  abbrev before : List ℕ
  before = head ++ octets_of parts

  abbrev whole : List ℕ
  whole = (head ++ octets_of parts) ++ octets

  abbrev els : List Tree
  els = t.elements

  abbrev m : ℕ
  m = unreached_pipes w side order head parts els

  abbrev pipes : List Tree
  pipes = begun_pipes w side order head parts els

  -- the graph that was read so far
  abbrev pub G : Graph
  G = with_pipes w g (begun_pipes w side order head parts t.elements)

  abbrev A : List Entry
  A = head_entries w g it.is_head.steps

  abbrev B : List Entry
  B = parts_entries w (first_spot w head) parts

  abbrev P : List Entry
  P = part_entries w s (length els) els

  abbrev Z : List Entry
  Z = entries_after w side order s els m

  abbrev pub all_entries : List Entry
  all_entries = head_entries w g it.is_head.steps ++ begun_entries w side order head parts t.elements

  abbrev front : List EntryAt
  front = end_to_end 0 (first_entries w order head g parts it)

  j : AreJoined w (begun_pipes w side order head parts t.elements) (begun_entries w side order head parts t.elements)
  j = begun_joined w side order head parts els it.are_parts t.pipe_left

  tops : AllByRecursion Top (begun_pipes w side order head parts t.elements)
  tops = then_tops (last_pipes els m) (λ us. last_tops els m us) parts []

  pub is_partial : IsPartial w G
  is_partial =
      partial_graph w side g it.conforms pipes (same w side order head g it.is_head it.empty it.conforms pipes tops (begun_entries w side order head parts els) j) j.as_many
      (part_pipes w side order els m parts (first_spot w head) [] it.are_parts tt (part_elements w.table _ els t.partial t.machine_values))

  pub its_stream : Stream w G all_entries
  its_stream = stream w side order head g it.is_head it.empty it.conforms pipes tops (begun_entries w side order head parts els) j

  place_is : length before ≡ s.place
  place_is = sym (place_after w head parts)

  abbrev pub rest : List EntryAt
  rest =
      end_to_end (end_of (after_all (first_spot w head) parts).place (part_entries w (after_all (first_spot w head) parts) (length t.elements) t.elements))
      (entries_after w side order (after_all (first_spot w head) parts) t.elements (unreached_pipes w side order head parts t.elements))

  pub its_split : end_to_end 0 all_entries ≡ (entries_to w g it.is_head.steps head parts ++ earlier) ++ (t.later ++ rest)
  its_split =
      let X : List EntryAt = entries_to w g it.is_head.steps head parts in
      let e : end_of 0 (A ++ B) ≡ s.place = first_end w order head g parts it ∙ place_is in
      let chunk : end_to_end s.place (P ++ Z) ≡ earlier ++ (t.later ++ rest) = ends_append s.place P Z ∙ ap (λ u. u ++ rest) t.split ∙ append_assoc earlier t.later rest in
      ap (end_to_end 0) (sym (append_assoc A B (P ++ Z))) ∙ ends_append 0 (A ++ B) (P ++ Z)
      ∙ ap₂ (λ u k. u ++ end_to_end k (P ++ Z)) (front_is w side order head g parts it) e
      ∙ ap (λ u. X ++ u) chunk ∙ sym (append_assoc X earlier (t.later ++ rest))

  bare : full_cells (P ++ Z) ≡ []
  bare = full_append P Z ∙ ap₂ (λ x y. x ++ y) (part_bare w s els t.partial) (after_bare w side order s els m)

  pub numbers_all : IsNumbering it.is_head.numbering (full_cells all_entries)
  numbers_all =
      let e : full_cells A ≡ full_cells (A ++ (B ++ (P ++ Z))) =
      first_numbers w order head g parts it ∙ sym (append-nil (full_cells (A ++ B))) ∙ ap (λ u. full_cells (A ++ B) ++ u) (sym bare)
      ∙ sym (full_append (A ++ B) (P ++ Z)) ∙ ap full_cells (append_assoc A B (P ++ Z)) in
      subst (IsNumbering it.is_head.numbering) e it.is_head.is_numbering

  pub rendered_all : AllByRecursion (IsRendered order it.is_head.numbering whole) (entries_to w g it.is_head.steps head parts ++ earlier)
  rendered_all =
      let R : EntryAt → Type 0 = IsRendered order it.is_head.numbering whole in
      all_append R (entries_to w g it.is_head.steps head parts) earlier
      (subst (AllByRecursion R) (front_is w side order head g parts it)
      (spelt_in_more order it.is_head.numbering before octets front (first_rendered w order head g parts it)))
      (t.rendered before it.is_head.numbering place_is)

  abbrev OwnAt : EntryAt → Type 0
  OwnAt x = IsOwn s.root s.node x.entry

  abbrev UnmetAt : EntryAt → Type 0
  UnmetAt x = Unmet order whole front x.entry x.entry.kind

  -- none of the agreements of the chunk speaks of what comes before it
  all_unmet : AllByRecursion UnmetAt (earlier ++ t.later)
  all_unmet =
      subst (AllByRecursion UnmetAt) t.split
      (all_weaker OwnAt UnmetAt (λ x o. own_unmet order whole front s.root s.node (front_before w side order head g parts it) x.entry o) (end_to_end s.place P)
      (at_places (IsOwn s.root s.node) s.place P (part_own w s (length els) els)))

  pub accepted_all : Accepts order whole [] (entries_to w g it.is_head.steps head parts ++ earlier)
  accepted_all =
      let next : Accepts order whole (front ++ []) earlier =
      still_accepted order whole front [] earlier (all_left UnmetAt earlier t.later all_unmet) (t.rendered before (λ c. 0) place_is) (t.rendered before (λ c. 1) place_is)
      (t.accepted before place_is) in
      subst (λ u. Accepts order whole [] (u ++ earlier)) (front_is w side order head g parts it)
      (both_accepted order whole [] front earlier (front_accepted w side order head g parts it octets) (subst (λ u. Accepts order whole u earlier) (append-nil front) next))

  pub refused_next : (here : EntryAt) (others : List EntryAt) → t.later ≡ here ∷ others → (place : ℕ) (why : Reason) → refusal order whole earlier here ≡ Some (place, why)
      → refusal order whole (entries_to w g it.is_head.steps head parts ++ earlier) here ≡ Some (place, why)
  refused_next here others e place why r =
      let own : UnmetAt here = (subst (AllByRecursion UnmetAt) e (all_right UnmetAt earlier t.later all_unmet)).0 in
      subst (λ u. refusal order whole (u ++ earlier) here ≡ Some (place, why)) (front_is w side order head g parts it)
      (still_refused order whole front earlier here (place, why) own r)
