-- What was read of a head is the head of a stream of the graph with pipes that have no elements.
-- `w` is the setting, `i` the intake before the call, `a` and `t` are what was seen of the source, the log and the steps, `x` is what is kept of the stream after
-- the head, `r` says what was read.
use Rattle.std.proofs.Common.{◌≡◌, ℕ, ◌+◌, List, [], ◌++◌, length, drop, replicate, None, ap, sym, ◌∙◌, subst, arith}
use Rattle.std.proofs.lemmas.List.{append-nil}
use Rattle.nd_base.specs.declared.octets.Order.{Order}
use Rattle.nd_base.specs.Over.{SourceOver}
use Rattle.nd_types.specs.Number.{AreOctets}
use Rattle.nd_types.specs.Roots.{Root}
use Rattle.nd_value.specs.declared.item.Home.TheVariants as home
use Rattle.nd_value.specs.declared.value.Graph.{Graph}
use Rattle.nd_value.specs.Deferral.{before_pipes}
use Rattle.nd_value.specs.Setting.{Setting, root_list}
use Rattle.nd_flat.specs.Building.{closed}
use Rattle.nd_grammar.specs.Entry.{end_to_end}
use Rattle.nd_grammar.specs.Items.{but_gaps, items as items_of}
use Rattle.nd_grammar.specs.LegalSide.{IsLegalSide}
use Rattle.nd_grammar.specs.Reader.{Progress, pass_all}
use Rattle.nd_grammar.specs.Stream.{head_entries}
use Rattle.nd_grammar.specs.StreamReader.{Found, Reading, graph_of, read_stream}
use Rattle.ndr_decoder_laws.specs.reader.Around.{going}
use Rattle.ndr_decoder_laws.proofs.reader.Worklist.{due_over}
use Rattle.ndr_decoder_laws.specs.steps.Good.{Told}
use Rattle.nd_grammar.specs.decoded.Verdict.{DecodingSeen, HasNoted, IsCounted, IsReadThrough, cells_named}
use Rattle.ndr_decoder_laws.proofs.verdict.Counted.{is_counted}
use Rattle.ndr_decoder_laws.proofs.verdict.ReadThrough.{read_in_part}
use Rattle.ndr_decoder_laws.specs.stream.Added.{Goes}
use Rattle.ndr_decoder_laws.specs.stream.Between.{Agrees, Keeps}
use Rattle.ndr_decoder_laws.specs.stream.Parameters.{parameter_tests, pipes_from}
use Rattle.ndr_decoder_laws.proofs.stream.FewReferences.{few_now}
use Rattle.ndr_decoder_laws.proofs.stream.HeadEnds.{parameters_pass}
use Rattle.ndr_decoder_laws.proofs.stream.StreamGrows.{pipes_go}
use Rattle.ndr_decoder_stream.specs.declared.stream.Stream.{Stream}
use Rattle.ndr_decoder_stream.specs.Seen.{between_of}
use Rattle.ndr_decode.specs.Streaming.{cells_of}
use Rattle.ndr_decode.proofs.Placed.{types_length}
use Rattle.ndr_drain_laws.specs.heads.Heads.{HeadRead, head_graph, head_tested, roots_read}
use Rattle.ndr_drain_laws.specs.parts.Parts.{Spot, empty_pipe}
use Rattle.ndr_drain_reader.specs.declared.intake.Phase.TheVariants.{Reading as IsReading}
use Rattle.ndr_drain_reader.specs.Calls.{HasHead}
use Rattle.ndr_drain_reader.specs.Heads.{ReadTo, with_empty}
use Rattle.ndr_drain_reader.specs.Seen.{IntakeSeen}

same_spot : (s : Spot) (n b : ℕ) → s.place ≡ n → s.root ≡ b → s.node ≡ 1 → s ≡ record { place = n; root = b; node = 1 }
same_spot s n b e f g =
    ap (λ k. record { place = k; root = s.root; node = s.node }) e ∙ ap (λ k. record { place = n; root = k; node = s.node }) f ∙ ap (λ k. record { place = n; root = b; node = k }) g

-- the law of heads
abbrev pub HeadsLaw : Type 0
HeadsLaw =
    (w : Setting) → IsLegalSide w → (order : Order) (octets : List ℕ) → AreOctets octets → (head_tested w order octets).stop ≡ None → (head_tested w order octets).at ≡ length octets
    → HeadRead w order octets (head_graph w order octets) (head_tested w order octets).seen

-- the agreements of the parameters, after these roots
abbrev tested_after : Setting → Order → List ℕ → Reading → Progress
tested_after w order octets h = pass_all order octets (parameter_tests w h) h.progress

abbrev graph_after : Setting → Reading → Graph
graph_after w h = graph_of (h.roots ++ replicate (length (drop (before_pipes (root_list w)) (root_list w))) empty_pipe) h.names

module _ (w : Setting) (legal : IsLegalSide w) (i : IntakeSeen) (n0 : ℕ) (a : SourceOver) (t : DecodingSeen) (x : Stream) (r : ReadTo w legal i.order n0 a t x) where
  abbrev many : ℕ
  many = length (drop (before_pipes (root_list w)) (root_list w))

  ag : Agrees w legal i.order r.octets r.items r.direct (between_of x) r.s r.seen [] 0
  ag = r.stands.agrees

  keeps : Keeps w i.order r.octets r.items r.direct (between_of x) r.s r.hold.after []
  keeps = r.hold.keeps

  told : Told r.items r.direct i.order r.octets (home.Root (length r.s.roots)) r.hold.after r.s.names (between_of x).cells (between_of x).numbers None 0 []
  told = keeps.told (home.Root (length r.s.roots)) (omega arith)

  -- the reader comes to the same roots, whatever it is that follows: here nothing
  roots_are : roots_read w i.order r.octets ≡ r.s
  roots_are =
      let (k, h) = ag.reached.comes [] tt in
      subst (λ os. roots_read w i.order os ≡ r.s) (append-nil r.octets) (h ∙ due_over w i.order (r.octets ++ []) k r.s ag.due)

  tested_is : head_tested w i.order r.octets ≡ going (between_of x).at r.hold.after
  tested_is =
      ap (tested_after w i.order r.octets) roots_are
      ∙ ap (λ p. pass_all i.order r.octets (parameter_tests w r.s) p) ag.progress
      ∙ subst (λ os. pass_all i.order os (parameter_tests w r.s) (going (between_of x).at r.seen) ≡ going (between_of x).at r.hold.after) (append-nil r.octets) (r.hold.goes [])

  -- the graph with these pipes is that of the reader
  graph_is : head_graph w i.order r.octets ≡ with_empty many (closed x.machine.builder)
  graph_is = ap (graph_after w) roots_are ∙ sym (ap (with_empty many) keeps.graph)

  pub reads_head : HeadsLaw → (k : ℕ) → k ≡ length (drop (before_pipes (root_list w)) (root_list w)) → (g : Graph) → g ≡ with_empty k (closed x.machine.builder)
      → HeadRead w i.order r.octets g r.hold.after
  reads_head law k e g f =
      let at : (head_tested w i.order r.octets).at ≡ length r.octets = ap (λ (p : Progress). p.at) tested_is ∙ sym ag.keeps.at in
      let h : HeadRead w i.order r.octets (head_graph w i.order r.octets) (head_tested w i.order r.octets).seen =
      law w legal i.order r.octets ag.octets (ap (λ (p : Progress). p.stop) tested_is) at in
      subst (λ u. HeadRead w i.order r.octets u r.hold.after) (graph_is ∙ sym (f ∙ ap (λ n. with_empty n (closed x.machine.builder)) e))
      (subst (λ u. HeadRead w i.order r.octets (head_graph w i.order r.octets) u) (ap (λ (p : Progress). p.seen) tested_is) h)

  -- the steps are bounded
  passes : read_stream w i.order (r.octets ++ []) ≡ pipes_from w i.order (r.octets ++ []) r.s (going (between_of x).at r.hold.after)
  passes = parameters_pass w legal i.order r.octets r.items r.direct (between_of x) r.s r.seen ag r.hold.after r.hold.goes [] tt

  goes_on : Goes (going (between_of x).at r.hold.after) (read_stream w i.order r.octets).progress
  goes_on =
      subst (λ os. Goes (going (between_of x).at r.hold.after) (read_stream w i.order os).progress) (append-nil r.octets)
      (subst (λ (f : Found). Goes (going (between_of x).at r.hold.after) f.progress) (sym passes)
      (pipes_go w i.order (r.octets ++ []) (before_pipes (root_list w)) (drop (before_pipes (root_list w)) (root_list w)) (going (between_of x).at r.hold.after) r.s.names))

  through : IsReadThrough w i.order r.octets r.hold.after
  through = read_in_part w legal i.order r.octets ag.octets r.hold.after goes_on.added goes_on.seen

  is_few : n0 ≡ 0 → IsCounted w i.order r.octets r.hold.after t
  is_few none =
      let steps = r.took.steps in
      let cells = told.cells_named.named.many in
      let types = types_length x.machine.builder in
      let few = few_now w legal i.order r.octets r.items r.direct (between_of x) r.s r.seen [] 0 ag in
      let noted : length (but_gaps (items_of i.order r.octets r.hold.after)) ≡ length (but_gaps r.items) = ap (λ u. length (but_gaps u)) told.noted_are in
      is_counted w i.order r.octets r.hold.after t through (omega (arith, none, steps, cells, types, few, noted))

  pub head_was_read : HeadsLaw → n0 ≡ 0 → (now : IntakeSeen) → (k : ℕ) → k ≡ length (drop (before_pipes (root_list w)) (root_list w)) → now.graph ≡ with_empty k (closed x.machine.builder)
      → length now.graph.cells ≡ cells_of x → now.phase ≡ IsReading → now.interface ≡ i.interface → now.op ≡ i.op → now.side ≡ i.side → now.order ≡ i.order
      → now.spot.place ≡ x.machine.at → now.spot.root ≡ before_pipes (root_list w) → now.spot.node ≡ 1 → now.left ≡ i.left → HasHead w a t i now
  head_was_read law none now k e f cells phase interface op way order place root node left =
      let h : HeadRead w i.order r.octets now.graph r.hold.after = reads_head law k e now.graph f in
      let noted : r.items ≡ items_of i.order r.octets (end_to_end 0 (head_entries w now.graph h.is_head.steps)) = sym told.noted_are ∙ ap (items_of i.order r.octets) (sym h.entries) in
      let steps = r.took.steps in
      let gaps : length (but_gaps r.items) ≡ length (but_gaps (items_of i.order r.octets (end_to_end 0 (head_entries w now.graph h.is_head.steps)))) = ap (λ u. length (but_gaps u)) noted in
      record {
        octets = r.octets;
        left = r.took.left;
        read = record { is_head = h.is_head; empty = h.empty; conforms = h.conforms; are_parts = tt };
        canonical = h.canonical;
        phase = phase;
        interface_is = interface;
        op_is = op;
        side_is = way;
        order_is = order;
        spot = same_spot now.spot (length r.octets) (before_pipes (root_list w)) (place ∙ sym ag.keeps.at) root node;
        as_many = left;
        logged = subst (λ u. HasNoted u t) noted r.took.logged;
        stepped = omega (arith, none, steps, gaps, cells);
        counted = subst (λ u. IsCounted w i.order r.octets u t) (sym h.entries) (is_few none);
      }
