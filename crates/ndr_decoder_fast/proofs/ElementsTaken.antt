-- Elements that are structs of numbers, taken in one go: from what the calls answered to what the steps come to.
-- `s` is the state before, `s1` the one after, `ps` are the members by their primitives, `os` the octets of `count` elements, `n` is how many members there are.
use Rattle.std.proofs.Common.{◌≡◌, ◌≤◌, ◌<◌, ℕ, ◌+◌, ◌-◌, ◌*◌, ◌^◌, zero, suc, List, [], ◌∷◌, ◌++◌, length, drop, Bool, Some, Result, Ok, Err, IsErrAnd, refl, ap, sym, ◌∙◌, subst, arith}
use Rattle.std.proofs.Common.{length-append}
use Rattle.std.specs.Prelude.{slice_get}
use Rattle.std.proofs.lemmas.Option.{slice_get_within}
use Rattle.std.specs.Io.KnownBytes.{Consumes}
use Rattle.nd_base.specs.declared.octets.Order.{Order}
use Rattle.nd_base.specs.declared.TheConstants.{STREAM_LIMIT}
use Rattle.nd_base.specs.Over.{SourceOver}
use Rattle.nd_types.specs.declared.types.Primitive.{Primitive}
use Rattle.nd_types.specs.Number.{AreOctets}
use Rattle.nd_types.specs.Table.{width}
use Rattle.nd_value.specs.declared.item.Home.{Home}
use Rattle.nd_value.specs.declared.item.Item.{Item}
use Rattle.nd_flat.specs.Building.{Building, with_nodes}
use Rattle.nd_flat.specs.Records.{widest_from, records_flats}
use Rattle.nd_flat.specs.Records as kept
use Rattle.ndr_code.specs.declared.instr.Instr.{Instr}
use Rattle.ndr_code.specs.declared.lists.EnumList.{EnumList}
use Rattle.ndr_decoder_laws.specs.declared.frame.Frame.{Frame}
use Rattle.ndr_decoder_laws.specs.declared.frame.Frame.TheVariants as frame
use Rattle.ndr_decoder_laws.specs.steps.Steps.{State, goes}
use Rattle.ndr_decoder_laws.specs.runs.Reaching.{Reaches, IsSafe, begins}
use Rattle.ndr_decoder_laws.specs.runs.Rows.{HasLeft, with_fewer}
use Rattle.ndr_decoder_laws.specs.runs.Records.{Slot, records_len, record_flats, record_items, records_read}
use Rattle.ndr_decoder_laws.proofs.runs.RecordSteps.{records_come}
use Rattle.ndr_decoder_fast.specs.declared.fault.LeapFault.{LeapFault}
use Rattle.ndr_decoder_fast.specs.declared.fault.LeapFault.TheVariants as leap
use Rattle.ndr_decoder_state.specs.declared.machine.Machine.{Machine}
use Rattle.ndr_decoder_state.specs.Seen.{state_of}
use Rattle.ndr_decoder_state.specs.Notes.{ticks}
use Rattle.ndr_decoder_fast.specs.Elements.{slot_of, slots_of, IsElementRun, AreElements, HaveRoom}
use Rattle.ndr_decoder_fast.specs.Leaps.{Leapt, Leaps}
use Rattle.ndr_decoder_fast.proofs.Packed.{records_size, records_nodes}
use Rattle.ndr_decoder_fast.proofs.PieceNodes.{nodes_fit}
use Rattle.ndr_decoder_fast.proofs.SlotTicks.{records_ticks}
use Rattle.std.proofs.lemmas.List.{length-map}

-- ## Steps

module _ (values : List EnumList) (order : Order) (code : List Instr) (h : Home) (s : State) (ps : List Primitive) (count len : ℕ) (os : List ℕ) where
  abbrev items : List Item
  items = record_items order h s.at (length s.nodes) (widest_from 1 ps) (slots_of ps) (count - 1) os

  abbrev after : Frame → State
  after top = records_read (s.pc + 2 + length ps) (s.at + length os) (records_flats order ps count os) (with_fewer (count - 1) top) s

  one_and_more : (c : ℕ) → 1 < c → suc (c - 1) ≡ c
  one_and_more c g = omega (arith, g)

  place_after : (pc n k : ℕ) → k ≡ n → pc + 1 + k + 1 ≡ pc + 2 + n
  place_after pc n k e = omega (arith, e)

  all_left : (n left : ℕ) → n ≤ left → left ≡ n + (left - n)
  all_left n left g = omega (arith, g)

  short_enough : (at k l : ℕ) → k ≡ l → at + l ≤ STREAM_LIMIT → at + k ≤ STREAM_LIMIT
  short_enough at k l e g = omega (arith, e, g)

  reached_at : (top : Frame) → s.top ≡ top → IsElementRun code s.pc ps top → HasLeft (count - 1) top → length s.firsts ≡ length s.members → HaveRoom s.at ps count len
      → AreOctets os → length os ≡ len → Reaches values order code h s os items (after top)
  reached_at (frame.Elements left run back) t found fewer level room octets size =
      let n : ℕ = count - 1 in
      let to : ℕ = widest_from 1 ps in
      let fs : List Slot = slots_of ps in
      let c : suc n ≡ count = one_and_more count room.some in
      let whole : length os ≡ kept.records_len ps (suc n) = size ∙ room.len_is ∙ sym (ap (kept.records_len ps) c) in
      let wide : length os ≡ records_len s.at to fs n = whole ∙ sym (records_size s.at n ps room.aligned) in
      let nodes : record_flats order s.at to fs n os ≡ records_flats order ps count os =
      records_nodes order s.at n ps os room.aligned whole ∙ ap (λ i. records_flats order ps i os) c in
      let pc : s.pc + 1 + length fs + 1 ≡ s.pc + 2 + length ps = place_after s.pc (length ps) (length fs) (length-map ps slot_of) in
      let top : Frame = frame.Elements (left - n) run back in
      let there : s.top ≡ frame.Elements (n + (left - n)) run back = t ∙ ap (λ i. frame.Elements i run back) (all_left n left fewer) in
      subst (λ p. Reaches values order code h s os items (records_read p (s.at + length os) (records_flats order ps count os) top s)) pc
      (subst (λ xs. Reaches values order code h s os items (records_read (s.pc + 1 + length fs + 1) (s.at + length os) xs top s)) nodes
      (records_come values order code h s n (left - n) run back to fs s [] os [] begins there found level octets wide
      (short_enough s.at (length os) len size room.limit)))
  reached_at f t found fewer level room octets size = absurd found

  counted_by : (c n l t steps now k : ℕ) → now ≡ steps + count * n → n ≡ l → t ≡ suc (count - 1) * l → suc (count - 1) ≡ count → now + k ≡ steps + t + k
  counted_by c n l t steps now k e f g d =
      let same : steps + t ≡ steps + count * n = ap (λ i. steps + i) (g ∙ ap (λ i. i * l) d ∙ ap (λ i. count * i) (sym f)) in
      omega (arith, e, same)

  -- all of them were read
  pub elements_leapt : (source : SourceOver) (s1 : State) (n steps steps_now : ℕ) → AreElements code s ps count len → AreOctets os → length os ≡ len
      → Consumes source.left source.left_now os → n ≡ length ps
      → goes (records_read (s.pc + 2 + n) (s.at + length os) (records_flats order ps count os) (with_fewer (count - 1) s.top) s) ≡ goes s1
      → steps_now ≡ steps + count * n → Leapt values order code h s source steps steps_now s1
  elements_leapt source s1 n steps steps_now found octets size left wide does counted =
      let s2 : State = after s.top in
      let same : s2 ≡ s1 = ap (λ i. records_read (s.pc + 2 + i) (s.at + length os) (records_flats order ps count os) (with_fewer (count - 1) s.top) s) (sym wide)
      ∙ same_goes (records_read (s.pc + 2 + n) (s.at + length os) (records_flats order ps count os) (with_fewer (count - 1) s.top) s) s1 does in
      let all : ticks items ≡ suc (count - 1) * length ps = records_ticks order h s.at (length s.nodes) (widest_from 1 ps) (count - 1) ps os in
      subst (Leapt values order code h s source steps steps_now) same
      (record {
        fetched = os;
        noted = items;
        reached = reached_at s.top refl found.run found.left found.level found.room octets size;
        left = left;
        counted = counted_by count n (length ps) (ticks items) steps steps_now (length s.cells) counted wide all (one_and_more count found.room.some);
      })
    where
      same_goes : (a b : State) → goes a ≡ goes b → a ≡ b
      same_goes a b e = cc

-- ## What the calls may take for granted

-- the address is below 2 ^ 32
pub address_fits : (code : List Instr) (pc : ℕ) (i : Instr) → slice_get code pc ≡ Some i → length code < 2 ^ 32 → pc < 2 ^ 32
address_fits code pc i there short = let below : pc < length code = slice_get_within code pc i there in omega (arith, below, short)

-- the nodes can be counted
pub count_fits : (code : List Instr) (m : Machine) (ps : List Primitive) (count len n : ℕ) → IsSafe code (state_of m) → AreElements code (state_of m) ps count len → n ≡ length ps
    → m.count + (count + count * n) < 2 ^ 32
count_fits code m ps count len n safe found wide =
    let few : length m.builder.nodes + 8192 < 2 ^ 32 = safe.few_nodes in
    let counted : m.count ≡ length m.builder.nodes = m.counted in
    nodes_fit m.at ps m.count count len n found.room wide (omega (arith, few, counted))

-- ## Where memory failed

handed_on : (r : Result Bool LeapFault) (e : LeapFault) → IsErrAnd r (λ y. y ≡ e) → r ≡ Err e
handed_on (Ok t) e h = absurd h
handed_on (Err y) e h = ap Err h

pub given_up : (values : List EnumList) (order : Order) (code : List Instr) (h : Home) (s s1 : State) (source : SourceOver) (os : List ℕ) (steps steps_now : ℕ)
    (r : Result Bool LeapFault) (e : LeapFault) → IsErrAnd r (λ y. y ≡ e) → e ≡ leap.Memory → AreOctets os → Consumes source.left source.left_now os → steps_now ≤ steps
    → Leaps values order code h s source steps steps_now s1 r
given_up values order code h s s1 source os steps steps_now r e err memory octets left counted =
    subst (Leaps values order code h s source steps steps_now s1) (sym (handed_on r e err ∙ ap Err memory)) (record {
      fetched = [];
      noted = [];
      s = s;
      reached = begins;
      os = os;
      octets = octets;
      left = left;
      counted = omega (arith, counted);
    })

-- ## The machine after them

members_made : (o : Order) (at : ℕ) (ps : List Primitive) (os : List ℕ) → length (kept.member_flats o at ps os) ≡ length ps
members_made o at [] os = refl
members_made o at (p ∷ ps) os = ap suc (members_made o (kept.place at p + width p) ps os)

-- a node for each struct and one for each of its members
nodes_made : (o : Order) (ps : List Primitive) (n : ℕ) (os : List ℕ) → length (records_flats o ps n os) ≡ n + n * length ps
nodes_made o ps zero os = let z : zero * length ps ≡ 0 = omega arith in omega (arith, z)
nodes_made o ps (suc n) os =
    let a : length (kept.member_flats o 0 ps os) ≡ length ps = members_made o 0 ps os in
    let b : length (records_flats o ps n (drop (kept.stride ps) os)) ≡ n + n * length ps = nodes_made o ps n (drop (kept.stride ps) os) in
    let c : length (kept.member_flats o 0 ps os ++ records_flats o ps n (drop (kept.stride ps) os)) ≡ length (kept.member_flats o 0 ps os) + length (records_flats o ps n (drop (kept.stride ps) os)) =
    length-append (kept.member_flats o 0 ps os) (records_flats o ps n (drop (kept.stride ps) os)) in
    let m : suc n * length ps ≡ length ps + n * length ps = omega arith in
    omega (arith, a, b, c, m)

module _ (m : Machine) (b : Building) (o : Order) (ps : List Primitive) (n : ℕ) (os : List ℕ) (eb : b ≡ with_nodes (m.builder.nodes ++ records_flats o ps n os) m.builder) where
  -- the node count and the cells are right
  pub read_nodes : (l : ℕ) → l ≡ length ps → m.count + (n + n * l) ≡ length b.nodes
  read_nodes l el =
      let e : length b.nodes ≡ length m.builder.nodes + length (records_flats o ps n os) =
      ap (λ (x : Building). length x.nodes) eb ∙ length-append m.builder.nodes (records_flats o ps n os) in
      let k : length (records_flats o ps n os) ≡ n + n * length ps = nodes_made o ps n os in
      let c : m.count ≡ length m.builder.nodes = m.counted in
      let same : n + n * l ≡ n + n * length ps = ap (λ i. n + n * i) el in
      omega (arith, e, k, c, same)

  pub read_cells : m.cells ≡ length b.graph.cells
  read_cells = m.numbered ∙ sym (ap (λ (x : Building). length x.graph.cells) eb)
