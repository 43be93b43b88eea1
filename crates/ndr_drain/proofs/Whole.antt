-- A drain as a whole: the head, the chunks after it, and what the ends got.
-- `w` is the setting of the stream, `b` the intake at the beginning, `first` the same after the head; `l0`, `l1`, `l2` are what the source had left at the beginning, after the
-- head and at the end, and so for the faults, the log and the steps.
use Rattle.std.proofs.Common.{◌≡◌, ◌∙◌, ap, sym, refl, subst, ℕ, ◌+◌, ◌-◌, ◌≤◌, List, [], ◌∷◌, ◌++◌, length, length-append, take, Bool, Option, arith, append_assoc, inl, inr, ◌⊎◌}
use Rattle.std.proofs.lemmas.List.{append-nil}
use Rattle.std.specs.Io.KnownBytes.{Consumes}
use Rattle.nd_base.specs.declared.octets.Order.{Order}
use Rattle.nd_base.specs.Over.{SourceOver}
use Rattle.nd_value.specs.declared.item.Item.{Item}
use Rattle.nd_value.specs.declared.value.Graph.{Graph}
use Rattle.nd_value.specs.Logged.{Logged}
use Rattle.nd_value.specs.Setting.{Setting, root_list}
use Rattle.nd_value.specs.Tree.{Tree}
use Rattle.nd_grammar.specs.declared.reason.Reason.{Reason}
use Rattle.nd_grammar.specs.declared.reason.Reason.TheVariants as reason
use Rattle.nd_grammar.specs.Refusal.{Bad}
use Rattle.nd_grammar.specs.Entry.{EntryAt, end_to_end}
use Rattle.nd_grammar.specs.Items.{but_gaps, items}
use Rattle.nd_grammar.specs.LegalSide.{IsLegalSide}
use Rattle.nd_grammar.specs.Stream.{head_entries}
use Rattle.nd_grammar.specs.StreamReader.{read_stream}
use Rattle.nd_grammar.proofs.Excluded.{excluded}
use Rattle.ndr_decoder_state.specs.declared.fault.DecodeFault.{DecodeFault}
use Rattle.ndr_decoder_state.specs.declared.fault.DecodeFault.TheVariants as decode
use Rattle.nd_grammar.specs.decoded.Verdict.{DecodingSeen, IsCounted, IsCutOff, IsReadThrough, MayFollow, cells_named, decoding_seen, direct_roots, fetched_to, with_items}
use Rattle.ndr_decoder_laws.proofs.verdict.Counted.{is_counted}
use Rattle.ndr_decoder_laws.proofs.verdict.ReadThrough.{read_in_part}
use Rattle.ndr_drain_laws.specs.parts.Parts.{AreParts, AreReadTo, Part, Spot, after_all, first_spot, octets_of, part_items, pipes_of, with_pipes}
use Rattle.ndr_drain_laws.specs.joined.Entries.{entries_to, parts_at, parts_items}
use Rattle.ndr_drain_laws.proofs.joined.Alone.{joined_alone}
use Rattle.ndr_drain_laws.proofs.joined.Noted.{items_of_all, items_through, named_more}
use Rattle.ndr_drain_laws.proofs.joined.Stopped.{refused_chunk, read_through_chunk, read_through_parts}
use Rattle.ndr_drain_laws.proofs.joined.Through.{place_after}
use Rattle.ndr_pipe.specs.Ends.{EndSeen, with_octets, FailsAt, change_at}
use Rattle.ndr_drain_reader.specs.Calls.{HasChunk, HasHead, IsChunkCounted, IsChunkCut, IsChunkRefused, IsChunkUnread, IsHeadCause}
use Rattle.ndr_drain_reader.specs.Seen.{IntakeSeen, moved_to}
use Rattle.ndr_drain.specs.Drained.{IsChunkRead, IsCutInChunk, IsDrainCause, IsDrained, IsRefusedInChunk, IsUnreadInChunk, chunk_lines, end_of_root, ends_after, pipe_count}
use Rattle.ndr_drain.specs.Faults.{fault_of}
use Rattle.ndr_drain.specs.Turns.{IsCutAtChunk, IsReadToEnd, StopsUnderWay}
use Rattle.ndr_drain.specs.declared.fault.DrainFault.{DrainFault}
use Rattle.ndr_drain.specs.declared.fault.DrainFault.TheVariants as fault
use Rattle.ndr_drain.proofs.Pipes.{give_pipes, kept_without}
use Rattle.ndr_drain.proofs.UnderWay.{Consumes-refl, Consumes-trans, noted_none, ends_to, items_append, noted_twice, octets_append, over, parts_append, place_all}
use Rattle.ndr_decoder_laws.proofs.stream.Joined.{gaps_apart as but_gaps_append}
use Rattle.nd_base.proofs.Rising.{rose_later as rose_earlier}

module _ (w : Setting) (legal : IsLegalSide w) (b first : IntakeSeen) (l0 l1 l2 : Option (List ℕ)) (e1 e2 : Bool) (f0 f1 f2 : ℕ) (ends last : List EndSeen) (g0 g1 g2 : Logged)
    (n0 n1 n2 : ℕ) (h : HasHead w (over l0 l1 e1 f0 f1) (decoding_seen g0 g1 n0 n1) b first) where
  -- the intake after the head, in the order and at the spot of the head
  abbrev F : IntakeSeen
  F = record {
    interface = first.interface;
    op = first.op;
    side = first.side;
    order = b.order;
    given = first.given;
    phase = first.phase;
    graph = first.graph;
    spot = first_spot w h.octets;
    left = first.left;
  }

  first_is : first ≡ F
  first_is =
      let A : Order → IntakeSeen = λ o. record {
        interface = first.interface;
        op = first.op;
        side = first.side;
        order = o;
        given = first.given;
        phase = first.phase;
        graph = first.graph;
        spot = first.spot;
        left = first.left;
      } in
      let B : Spot → IntakeSeen = λ s. record {
        interface = first.interface;
        op = first.op;
        side = first.side;
        order = b.order;
        given = first.given;
        phase = first.phase;
        graph = first.graph;
        spot = s;
        left = first.left;
      } in
      ap A h.order_is ∙ ap B h.spot

  -- ## The head and chunks after it

  abbrev head_items : List Item
  head_items = items b.order h.octets (end_to_end 0 (head_entries w first.graph h.read.is_head.steps))

  abbrev items_of : List Part → List Item
  items_of parts = head_items ++ parts_items w b.order h.octets (first_spot w h.octets) parts

  abbrev all_octets : List Part → List ℕ
  all_octets parts = h.octets ++ octets_of parts

  abbrev entries_of : List Part → List EntryAt
  entries_of parts = entries_to w first.graph h.read.is_head.steps h.octets parts

  abbrev read_to : (parts : List Part) → AreParts w b.order (first_spot w h.octets) parts → AreReadTo w b.order h.octets first.graph parts
  read_to parts a = record { is_head = h.read.is_head; empty = h.read.empty; conforms = h.read.conforms; are_parts = a }

  abbrev Noted : List Part → Logged → ℕ → Type 0
  Noted parts g n = ((before : List ℕ) → length before ≡ length h.octets → g ≡ with_items (parts_items w b.order before (first_spot w h.octets) parts) g1)
      × ((before : List ℕ) → length before ≡ length h.octets → n ≡ n1 + length (but_gaps (parts_items w b.order before (first_spot w h.octets) parts)))

  -- the log after chunks
  logged_to : (parts : List Part) (g : Logged) (n : ℕ) → Noted parts g n → g ≡ with_items (items_of parts) g0
  logged_to parts g n k = noted_twice head_items (parts_items w b.order h.octets (first_spot w h.octets) parts) g0 g1 g h.logged (k.0 h.octets refl)

  gaps_of : (parts : List Part) → length (but_gaps (items_of parts)) ≡ length (but_gaps head_items) + length (but_gaps (parts_items w b.order h.octets (first_spot w h.octets) parts))
  gaps_of parts = but_gaps_append head_items (parts_items w b.order h.octets (first_spot w h.octets) parts)

  -- the steps after chunks
  stepped_to : (parts : List Part) (g : Logged) (n : ℕ) → Noted parts g n → n ≡ n0 + length (but_gaps (items_of parts)) + length first.graph.cells
  stepped_to parts g n k =
      let a : n1 ≡ n0 + length (but_gaps head_items) + length first.graph.cells = h.stepped in
      let c : n ≡ n1 + length (but_gaps (parts_items w b.order h.octets (first_spot w h.octets) parts)) = k.1 h.octets refl in
      let d : length (but_gaps (items_of parts)) ≡ length (but_gaps head_items) + length (but_gaps (parts_items w b.order h.octets (first_spot w h.octets) parts)) = gaps_of parts in
      omega (arith, a, c, d)

  -- so they are at most the items, the cells that are named and the roots that are reference pointers, also where more entries come
  few_steps : (parts : List Part) (g : Logged) (n : ℕ) → Noted parts g n → (later : List EntryAt)
      → n ≤ n0 + length (but_gaps (items_of parts)) + length (cells_named (entries_of parts ++ later)) + length (direct_roots w)
  few_steps parts g n k later =
      let E : List EntryAt = end_to_end 0 (head_entries w first.graph h.read.is_head.steps) in
      let P : List EntryAt = parts_at w (first_spot w h.octets) parts in
      let a : n1 ≤ n0 + length (but_gaps head_items) + length (cells_named E) + length (direct_roots w) = h.counted.by_items in
      let c : n ≡ n1 + length (but_gaps (parts_items w b.order h.octets (first_spot w h.octets) parts)) = k.1 h.octets refl in
      let d : length (but_gaps (items_of parts)) ≡ length (but_gaps head_items) + length (but_gaps (parts_items w b.order h.octets (first_spot w h.octets) parts)) = gaps_of parts in
      let m : length (cells_named E) ≤ length (cells_named (E ++ P)) = named_more E P in
      let o : length (cells_named (E ++ P)) ≤ length (cells_named ((E ++ P) ++ later)) = named_more (E ++ P) later in
      omega (arith, a, c, d, m, o)

  -- ## All chunks

  pub drained : (kept : Graph) (taken : ℕ) → pipe_count w ≤ length ends → IsReadToEnd w first (over l1 l2 e2 f1 f2) (ends_to ends last) (decoding_seen g1 g2 n1 n2) kept taken
      → IsDrained w b.order (over l0 l2 e2 f0 f2) (ends_to ends last) (decoding_seen g0 g2 n0 n2) taken kept
  drained kept taken many d0 =
      let R : IntakeSeen → Type 0 = λ i. IsReadToEnd w i (over l1 l2 e2 f1 f2) (ends_to ends last) (decoding_seen g1 g2 n1 n2) kept taken in
      go (subst R first_is d0)
    where
      go : IsReadToEnd w F (over l1 l2 e2 f1 f2) (ends_to ends last) (decoding_seen g1 g2 n1 n2) kept taken
          → IsDrained w b.order (over l0 l2 e2 f0 f2) (ends_to ends last) (decoding_seen g0 g2 n0 n2) taken kept
      go d =
          let parts : List Part = d.way.parts in
          let it : AreReadTo w b.order h.octets first.graph parts = read_to parts d.way.passed.read in
          let k : Noted parts g2 n2 = (d.way.noted.logged, d.way.noted.stepped) in
          let reached : d.now.spot.root ≡ (after_all (first_spot w h.octets) parts).root = ap (λ s. s.root) d.way.passed.reached in
          let sum : d.now.spot.root + d.now.left ≡ length (root_list w) = d.way.all in
          let none : d.now.left ≡ 0 = d.none_left in
          let all : length (root_list w) ≤ (after_all (first_spot w h.octets) parts).root = omega (arith, reached, sum, none) in
          let law = joined_alone w legal b.order h.octets first.graph parts it h.canonical all in
          let G : Graph = with_pipes w first.graph (pipes_of [] parts) in
          let placed : d.now.spot.place ≡ length h.octets + length (octets_of parts) = ap (λ s. s.place) d.way.passed.reached ∙ place_all (first_spot w h.octets) parts in
          let long : length (h.octets ++ octets_of parts) ≡ length h.octets + length (octets_of parts) = length-append h.octets (octets_of parts) in
          let are : items b.order (all_octets parts) (end_to_end 0 law.0.represented.entries) ≡ items_of parts =
          ap (items b.order (all_octets parts)) law.1 ∙ items_of_all w b.order h.octets first.graph parts it in
          let kept_is : kept ≡ first.graph = d.kept_is ∙ ap (λ i. i.graph) d.way.is in
          record {
            graph = G;
            decoded = record {
              fetched = all_octets parts;
              left = Consumes-trans l0 l1 l2 h.octets (octets_of parts) h.left d.way.consumed;
              taken_is = let t : taken ≡ d.now.spot.place = d.taken_is in omega (arith, t, placed, long);
              graph = law.0;
              logged = logged_to parts g2 n2 k ∙ ap (λ xs. with_items xs g0) (sym are);
              stepped =
                  let s : n2 ≡ n0 + length (but_gaps (items_of parts)) + length first.graph.cells = stepped_to parts g2 n2 k in
                  let c : length (but_gaps (items b.order (all_octets parts) (end_to_end 0 law.0.represented.entries))) ≡ length (but_gaps (items_of parts)) = ap (λ xs. length (but_gaps xs)) are in
                  omega (arith, s, c);
            };
            kept_is = kept_is ∙ kept_without w first.graph (pipes_of [] parts) h.read.empty law.0.conforms h.read.conforms;
            given = d.way.passed.given ∙ give_pipes w b.order h.octets first.graph parts ends h.read.conforms d.way.passed.read all many;
          }

  -- ## Some chunks, and no more

  module _ (parts : List Part) (a : AreParts w b.order (first_spot w h.octets) parts) (left : Option (List ℕ)) (consumed : Consumes l1 left (octets_of parts)) (log : Logged) (steps : ℕ)
      (k : Noted parts log steps) (from : ℕ) where
    abbrev it : AreReadTo w b.order h.octets first.graph parts
    it = read_to parts a

    abbrev spot : Spot
    spot = after_all (first_spot w h.octets) parts

    placed : spot.place ≡ length (all_octets parts)
    placed = place_after w h.octets parts

    -- of the entries of the next chunk these were read
    abbrev NextCounted : List ℕ → List EntryAt → Type 0
    NextCounted rest earlier = IsChunkCounted b.order spot.place rest earlier (decoding_seen log g2 steps n2)

    next_items : (rest : List ℕ) (earlier : List EntryAt)
        → items b.order (all_octets parts ++ rest) (entries_of parts ++ earlier) ≡ items_of parts ++ items b.order (all_octets parts ++ rest) earlier
    next_items rest earlier = items_through w b.order h.octets first.graph parts it rest earlier

    next_logged : (rest : List ℕ) (earlier : List EntryAt) → NextCounted rest earlier → g2 ≡ with_items (items b.order (all_octets parts ++ rest) (entries_of parts ++ earlier)) g0
    next_logged rest earlier c =
        noted_twice (items_of parts) (items b.order (all_octets parts ++ rest) earlier) g0 log g2 (logged_to parts log steps k) (c.logged (all_octets parts) (sym placed))
        ∙ ap (λ xs. with_items xs g0) (sym (next_items rest earlier))

    next_counted : (rest : List ℕ) (earlier : List EntryAt) → IsReadThrough w b.order (all_octets parts ++ rest) (entries_of parts ++ earlier) → NextCounted rest earlier
        → IsCounted w b.order (all_octets parts ++ rest) (entries_of parts ++ earlier) (decoding_seen g0 g2 n0 n2)
    next_counted rest earlier r c =
        let I : List Item = items b.order (all_octets parts ++ rest) earlier in
        let m : n2 ≤ steps + length (but_gaps I) = c.by_items (all_octets parts) (sym placed) in
        let s : steps ≤ n0 + length (but_gaps (items_of parts)) + length (cells_named (entries_of parts ++ earlier)) + length (direct_roots w) = few_steps parts log steps k earlier in
        let t : length (but_gaps (items_of parts ++ I)) ≡ length (but_gaps (items_of parts)) + length (but_gaps I) = but_gaps_append (items_of parts) I in
        let u : length (but_gaps (items b.order (all_octets parts ++ rest) (entries_of parts ++ earlier))) ≡ length (but_gaps (items_of parts ++ I)) =
        ap (λ xs. length (but_gaps xs)) (next_items rest earlier) in
        is_counted w b.order (all_octets parts ++ rest) (entries_of parts ++ earlier) (decoding_seen g0 g2 n0 n2) r (omega (arith, m, s, t, u))

    -- reading was cut off in the next chunk
    cut_in_chunk : IsChunkCut w b.order spot (over left l2 e2 from f2) (decoding_seen log g2 steps n2) → last ≡ ends_after w (first_spot w h.octets) parts ends
        → IsCutInChunk w b.order (over l0 l2 e2 f0 f2) (ends_to ends last) (decoding_seen g0 g2 n0 n2)
    cut_in_chunk c given =
        let r : IsReadThrough w b.order (all_octets parts ++ c.fetched) (entries_of parts ++ c.earlier) = read_through_chunk w legal b.order h.octets first.graph parts it c.fetched c.earlier c.read in
        record {
          cut = record {
            fetched = all_octets parts ++ c.fetched;
            left = Consumes-trans l0 left l2 (all_octets parts) c.fetched (Consumes-trans l0 l1 left h.octets (octets_of parts) h.left consumed) c.left;
            earlier = entries_of parts ++ c.earlier;
            read = r;
            logged = next_logged c.fetched c.earlier c.counted;
            counted = next_counted c.fetched c.earlier r c.counted;
          };
          whole = all_octets parts;
          spot = spot;
          given = record { head = h.octets; graph = first.graph; parts = parts; read = it; octets_are = refl; reached = refl; given = given };
          rest = c.fetched;
          fetched_are = refl;
          earlier = c.earlier;
          in_chunk = c.read;
        }

    -- the source failed in the next chunk
    unread_in_chunk : IsChunkUnread w b.order spot (over left l2 e2 from f2) (decoding_seen log g2 steps n2) → last ≡ ends_after w (first_spot w h.octets) parts ends
        → IsUnreadInChunk w b.order (over l0 l2 e2 f0 f2) (ends_to ends last) (decoding_seen g0 g2 n0 n2)
    unread_in_chunk c given =
        let X : List ℕ = all_octets parts ++ c.fetched in
        let E : List EntryAt = entries_of parts ++ c.short.earlier in
        let law = refused_chunk w legal b.order h.octets first.graph parts it c.fetched (spot.place + length c.fetched) reason.Truncated c.short in
        let through : IsReadThrough w b.order X E = read_through_chunk w legal b.order h.octets first.graph parts it c.fetched c.short.earlier c.short.through in
        let l : length X ≡ length (all_octets parts) + length c.fetched = length-append (all_octets parts) c.fetched in
        let q : spot.place + length c.fetched ≡ length X = ap (λ n. n + length c.fetched) placed ∙ sym l in
        let B : ℕ → Type 0 = λ n. (k : Bad w b.order X n reason.Truncated) × (k.earlier ≡ E) in
        let bad : B (length X) = subst B q (law.0, law.2) in
        record {
          unread = record {
            cut = record {
              fetched = X;
              left = Consumes-trans l0 left l2 (all_octets parts) c.fetched (Consumes-trans l0 l1 left h.octets (octets_of parts) h.left consumed) c.left;
              earlier = E;
              read = through;
              logged = next_logged c.fetched c.short.earlier c.counted;
              counted = next_counted c.fetched c.short.earlier through c.counted;
            };
            short = bad.0;
            as_far = bad.1;
          };
          whole = all_octets parts;
          spot = spot;
          given = record { head = h.octets; graph = first.graph; parts = parts; read = it; octets_are = refl; reached = refl; given = given };
          rest = c.fetched;
          fetched_are = refl;
          in_chunk = c.short;
        }

    -- octets are refused in the next chunk
    refused_in_chunk : (place : ℕ) (why : Reason) → IsChunkRefused w b.order spot (over left l2 e2 from f2) place why (decoding_seen log g2 steps n2)
        → last ≡ ends_after w (first_spot w h.octets) parts ends → IsRefusedInChunk w b.order (over l0 l2 e2 f0 f2) (ends_to ends last) (decoding_seen g0 g2 n0 n2) place why
    refused_in_chunk place why r given =
        let X : List ℕ = all_octets parts ++ r.fetched in
        let law = refused_chunk w legal b.order h.octets first.graph parts it r.fetched place why r.bad in
        let through : IsReadThrough w b.order X (entries_of parts ++ r.bad.earlier) = read_through_chunk w legal b.order h.octets first.graph parts it r.fetched r.bad.earlier r.bad.through in
        let stays : (more : List ℕ) → MayFollow why more → Bad w b.order (X ++ more) place why = λ more m.
        let B : List ℕ → Type 0 = λ l. Bad w b.order l place why in
        subst B (sym (append_assoc (all_octets parts) r.fetched more)) (refused_chunk w legal b.order h.octets first.graph parts it (r.fetched ++ more) place why (r.stays more m)).0 in
        let C : List EntryAt → Type 0 = λ xs. IsCounted w b.order X xs (decoding_seen g0 g2 n0 n2) in
        record {
          refused = record {
            fetched = X;
            left = Consumes-trans l0 left l2 (all_octets parts) r.fetched (Consumes-trans l0 l1 left h.octets (octets_of parts) h.left consumed) r.left;
            ended = r.ended;
            none_left = r.none_left;
            bad = law.0;
            ends =
                let l : length X ≡ length (all_octets parts) + length r.fetched = length-append (all_octets parts) r.fetched in
                let q : length X ≡ spot.place + length r.fetched = l ∙ ap (λ n. n + length r.fetched) (sym placed) in
                q ∙ r.ends ∙ ap (λ n. fetched_to why n r.bad.here) (sym q) ∙ ap (fetched_to why (length X)) (sym law.1);
            logged = next_logged r.fetched r.bad.earlier r.counted ∙ ap (λ xs. with_items (items b.order X xs) g0) (sym law.2);
            counted = subst C (sym law.2) (next_counted r.fetched r.bad.earlier through r.counted);
            stays = stays;
            no_graph = λ more m part rest e g c p. excluded w legal b.order (X ++ more) place why (stays more m) part rest e g c p;
          };
          whole = all_octets parts;
          spot = spot;
          given = record { head = h.octets; graph = first.graph; parts = parts; read = it; octets_are = refl; reached = refl; given = given };
          rest = r.fetched;
          fetched_are = refl;
          in_chunk = r.bad;
        }

    -- the next chunk was read whole
    module _ (count : ℕ) (now : IntakeSeen) (elements : List Tree) (c : HasChunk w (over left l2 e2 from f2) (decoding_seen log g2 steps n2) (moved_to spot count F) now elements)
        (mid : List EndSeen) (given : mid ≡ ends_after w (first_spot w h.octets) parts ends) where
      abbrev p : Part
      p = record { octets = c.octets; elements = elements }

      abbrev all : List Part
      all = parts ++ p ∷ []

      abbrev those : AreReadTo w b.order h.octets first.graph all
      those = read_to all (parts_append w b.order (first_spot w h.octets) parts p a c.read)

      same : all_octets all ≡ all_octets parts ++ c.octets
      same = ap (λ l. h.octets ++ l) (octets_append parts p) ∙ sym (append_assoc h.octets (octets_of parts) c.octets)

      r : IsReadThrough w b.order (all_octets all) (entries_of all)
      r = read_through_parts w legal b.order h.octets first.graph all those

      at : (before : List ℕ) → length before ≡ length h.octets → length (before ++ octets_of parts) ≡ spot.place
      at before e =
          let x : length (before ++ octets_of parts) ≡ length before + length (octets_of parts) = length-append before (octets_of parts) in
          let y : length (h.octets ++ octets_of parts) ≡ length h.octets + length (octets_of parts) = length-append h.octets (octets_of parts) in
          let z : spot.place ≡ length (h.octets ++ octets_of parts) = placed in
          omega (arith, e, x, y, z)

      abbrev own : List ℕ → List Item
      own before = part_items w b.order ((before ++ octets_of parts) ++ c.octets) spot elements

      noted : Noted all g2 n2
      noted = (
        λ before e.
            noted_twice (parts_items w b.order before (first_spot w h.octets) parts) (own before) g1 log g2 (k.0 before e) (c.logged (before ++ octets_of parts) (at before e))
            ∙ ap (λ xs. with_items xs g1) (sym (items_append w b.order before (first_spot w h.octets) parts p)),
        λ before e.
            let I : List Item = parts_items w b.order before (first_spot w h.octets) parts in
            let x : steps ≡ n1 + length (but_gaps I) = k.1 before e in
            let y : n2 ≡ steps + length (but_gaps (own before)) = c.stepped (before ++ octets_of parts) (at before e) in
            let z : length (but_gaps (I ++ own before)) ≡ length (but_gaps I) + length (but_gaps (own before)) = but_gaps_append I (own before) in
            let v : length (but_gaps (parts_items w b.order before (first_spot w h.octets) all)) ≡ length (but_gaps (I ++ own before)) =
            ap (λ xs. length (but_gaps xs)) (items_append w b.order before (first_spot w h.octets) parts p) in
            omega (arith, x, y, z, v),
      )

      abbrev chunk_read : IsChunkRead w b.order (over l0 l2 e2 f0 f2) (decoding_seen g0 g2 n0 n2) ends mid
      chunk_read = record {
        cut = record {
          fetched = all_octets all;
          left =
              let C : List ℕ → Type 0 = λ l. Consumes l0 l2 l in
              subst C (sym same) (Consumes-trans l0 left l2 (all_octets parts) c.octets (Consumes-trans l0 l1 left h.octets (octets_of parts) h.left consumed) c.left);
          earlier = entries_of all;
          read = r;
          logged = logged_to all g2 n2 noted ∙ ap (λ xs. with_items xs g0) (sym (items_of_all w b.order h.octets first.graph all those));
          counted =
              let s : n2 ≤ n0 + length (but_gaps (items_of all)) + length (cells_named (entries_of all ++ [])) + length (direct_roots w) = few_steps all g2 n2 noted [] in
              let t : length (cells_named (entries_of all ++ [])) ≡ length (cells_named (entries_of all)) = ap (λ xs. length (cells_named xs)) (append-nil (entries_of all)) in
              let u : length (but_gaps (items b.order (all_octets all) (entries_of all))) ≡ length (but_gaps (items_of all)) =
              ap (λ xs. length (but_gaps xs)) (items_of_all w b.order h.octets first.graph all those) in
              is_counted w b.order (all_octets all) (entries_of all) (decoding_seen g0 g2 n0 n2) r (omega (arith, s, t, u));
        };
        whole = all_octets parts;
        spot = spot;
        given = record { head = h.octets; graph = first.graph; parts = parts; read = it; octets_are = refl; reached = refl; given = given };
        chunk = p;
        read = c.read;
        fetched_are = same;
      }

  -- where a chunk was not read or not given, that is the cause
  pub stopped : (f : DrainFault) → StopsUnderWay w first (over l1 l2 e2 f1 f2) (ends_to ends last) (decoding_seen g1 g2 n1 n2) f → f0 ≤ f1
      → IsDrainCause w b.order (over l0 l2 e2 f0 f2) (ends_to ends last) (decoding_seen g0 g2 n0 n2) f
  stopped f d0 no_fewer =
      let R : IntakeSeen → Type 0 = λ i. StopsUnderWay w i (over l1 l2 e2 f1 f2) (ends_to ends last) (decoding_seen g1 g2 n1 n2) f in
      at_spot f (subst R first_is d0)
    where
      at_spot : (f : DrainFault) → StopsUnderWay w F (over l1 l2 e2 f1 f2) (ends_to ends last) (decoding_seen g1 g2 n1 n2) f
          → IsDrainCause w b.order (over l0 l2 e2 f0 f2) (ends_to ends last) (decoding_seen g0 g2 n0 n2) f
      at_spot fault.Memory d = by_place d.cause
        where
          by_place : (IsChunkCut w b.order d.spot (over d.left l2 e2 d.faults f2) (decoding_seen d.log g2 d.steps n2) × (last ≡ d.ends))
              ⊎ IsCutAtChunk w (moved_to d.spot d.count F) (over d.left l2 e2 d.faults f2) (ends_to d.ends last) (decoding_seen d.log g2 d.steps n2)
              → IsDrainCause w b.order (over l0 l2 e2 f0 f2) (ends_to ends last) (decoding_seen g0 g2 n0 n2) fault.Memory
          by_place (inl c) =
              let S : Spot → Type 0 = λ s. IsChunkCut w b.order s (over d.left l2 e2 d.faults f2) (decoding_seen d.log g2 d.steps n2) in
              inr (inl (cut_in_chunk d.parts d.passed.read d.left d.consumed d.log d.steps (d.noted.logged, d.noted.stepped) d.faults (subst S d.passed.reached c.0) (c.1 ∙ d.passed.given)))
          by_place (inr c) =
              let S : Spot → Type 0 = λ s. HasChunk w (over d.left l2 e2 d.faults f2) (decoding_seen d.log g2 d.steps n2) (moved_to s d.count F) c.now c.elements in
              let q = chunk_read d.parts d.passed.read d.left d.consumed d.log d.steps (d.noted.logged, d.noted.stepped) d.faults d.count c.now c.elements
              (subst S d.passed.reached c.read) d.ends d.passed.given in
              let L : Spot → List Tree → List EndSeen = λ s vs. change_at (end_of_root w s.root) (with_octets (take c.cut (chunk_lines w s vs))) d.ends in
              inr (inr (record {
                ends = d.ends;
                chunk_read = q;
                cut = c.cut;
                given = c.given ∙ ap (λ s. L s c.elements) d.passed.reached;
              }))
      at_spot fault.ReadFault d =
          let S : Spot → Type 0 = λ s. IsChunkUnread w b.order s (over d.left l2 e2 d.faults f2) (decoding_seen d.log g2 d.steps n2) in
          let m : f1 ≤ d.faults = d.no_fewer in (
            rose_earlier f0 d.faults f2 (omega (arith, m, no_fewer)) d.cause.0,
            inr (unread_in_chunk d.parts d.passed.read d.left d.consumed d.log d.steps (d.noted.logged, d.noted.stepped) d.faults (subst S d.passed.reached d.cause.1) (d.cause.2 ∙ d.passed.given)),
          )
      at_spot (fault.Bad place why) d =
          let S : Spot → Type 0 = λ s. IsChunkRefused w b.order s (over d.left l2 e2 d.faults f2) place why (decoding_seen d.log g2 d.steps n2) in
          inr (refused_in_chunk d.parts d.passed.read d.left d.consumed d.log d.steps (d.noted.logged, d.noted.stepped) d.faults place why (subst S d.passed.reached d.cause.0)
          (d.cause.1 ∙ d.passed.given))
      at_spot (fault.EndFailed which) d =
          let c = d.cause in
          let S : Spot → Type 0 = λ s. HasChunk w (over d.left l2 e2 d.faults f2) (decoding_seen d.log g2 d.steps n2) (moved_to s d.count F) c.now c.elements in
          let q = chunk_read d.parts d.passed.read d.left d.consumed d.log d.steps (d.noted.logged, d.noted.stepped) d.faults d.count c.now c.elements
          (subst S d.passed.reached c.read) d.ends d.passed.given in
          let L : List ℕ → Type 0 = λ l. FailsAt d.ends last which l in
          record {
            ends = d.ends;
            chunk_read = q;
            which_is = c.which_is ∙ ap (λ s. end_of_root w s.root) d.passed.reached;
            failed = subst L (ap (λ s. chunk_lines w s c.elements) d.passed.reached) c.failed;
          }
      at_spot (fault.TooFewEnds wanted found) d = absurd d.cause

-- ## The head

-- Nothing was read.
abbrev pub nothing_read : (w : Setting) → IsLegalSide w → (order : Order) (l : Option (List ℕ)) (e : Bool) (f : ℕ) (g : Logged) (n : ℕ) → IsCutOff w order (over l l e f f) (decoding_seen g g n n)
nothing_read w legal order l e f g n = record {
  fetched = [];
  left = Consumes-refl l;
  earlier = [];
  read = read_in_part w legal order [] tt [] (read_stream w order []).progress.seen refl;
  logged = noted_none g;
  counted = record { by_items = omega arith; by_octets = omega arith };
}

-- where the head was not read, that is the cause
pub not_begun : (w : Setting) (order : Order) (s : SourceOver) (t : DecodingSeen) (ends : List EndSeen) (f : DecodeFault) (r : DrainFault) → r ≡ fault_of f → IsHeadCause w order s t f
    → IsDrainCause w order s (ends_to ends ends) t r
not_begun w order s t ends f r e h = let P : DrainFault → Type 0 = λ x. IsDrainCause w order s (ends_to ends ends) t x in subst P (sym e) (go f h)
  where
    go : (f : DecodeFault) → IsHeadCause w order s t f → IsDrainCause w order s (ends_to ends ends) t (fault_of f)
    go decode.Memory h = inl (record { cut = h; none_given = refl })
    go decode.ReadFault h = (h.0, inl (record { unread = h.1; none_given = refl }))
    go (decode.Bad place why) h = inl (record { refused = h; none_given = refl })
