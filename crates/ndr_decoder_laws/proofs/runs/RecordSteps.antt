-- A struct of numbers by its steps: its `record`, of each member the call, the gap, the number and the `ret`, and its `close`.
-- `b` is the state before, `base` where its members begin, `ms` are the members so far and `xs` what is kept of them.
use Rattle.std.proofs.Common.{◌≡◌, ◌≤◌, ◌<◌, ◌⊎◌, inl, inr, ℕ, ◌+◌, zero, suc, List, [], ◌∷◌, ◌++◌, length, Some, None, refl, ap, ap₂, sym, ◌∙◌, subst, arith, append_assoc, length-append}
use Rattle.std.specs.Prelude.{ℤ, Bool, true, false, ltb, if◌then◌else◌, take, drop, slice_get}
use Rattle.std.proofs.lemmas.Bool.{ltb-true, ltb-false, le-ltb}
use Rattle.std.proofs.lemmas.List.{append-nil, length-take-le as length_taken, take-append-drop as taken_and_left, take_all as all_in}
use Rattle.std.proofs.Math.Path.{subst₃}
use Rattle.nd_base.specs.declared.octets.Order.{Order}
use Rattle.nd_base.specs.declared.TheConstants.{STREAM_LIMIT}
use Rattle.nd_types.specs.declared.types.Primitive.{Primitive}
use Rattle.nd_types.specs.Number.{AreOctets, value_of_octets}
use Rattle.nd_types.specs.Table.{width}
use Rattle.nd_value.specs.declared.item.Home.{Home}
use Rattle.nd_value.specs.declared.item.Item.{Item}
use Rattle.nd_value.specs.declared.item.ItemKind.TheVariants as item
use Rattle.nd_value.specs.Tree as tree
use Rattle.nd_value.specs.Tree.{Flat}
use Rattle.nd_grammar.specs.Entry.{gap}
use Rattle.nd_grammar.proofs.reader.Ranges.{drop_octets, take_octets}
use Rattle.ndr_code.specs.declared.instr.Instr.{Instr}
use Rattle.ndr_code.specs.declared.instr.Instr.TheVariants as op
use Rattle.ndr_code.specs.declared.lists.EnumList.{EnumList}
use Rattle.ndr_decoder_laws.specs.declared.first.First.{First}
use Rattle.ndr_decoder_laws.specs.declared.first.First.TheVariants as first
use Rattle.ndr_decoder_laws.specs.declared.first.Member.{Member}
use Rattle.ndr_decoder_laws.specs.declared.frame.Frame.{Frame}
use Rattle.ndr_decoder_laws.specs.declared.frame.Frame.TheVariants as frame
use Rattle.ndr_decoder_laws.specs.steps.Steps.{State, begun, number_step, own_by, firsts_by, first_of}
use Rattle.ndr_code.specs.Fields.{prim_of}
use Rattle.ndr_decoder_laws.specs.steps.StepItems.{gap_items, item_here, step_items}
use Rattle.ndr_decoder_laws.specs.runs.Reaching.{Reaches, steps_to}
use Rattle.ndr_decoder_laws.specs.runs.Records.{Slot, IsNumberAt, IsSlotRun, AreSlots, IsNumberRecord, IsAmongElements, slots_len, slot_octets, after_slot, slot_flats, slot_items, record_read}
use Rattle.ndr_decoder_laws.specs.runs.Records.{records_read, IsRecordRun, next_place, records_len, record_flats, record_items, EndsWithin, slots_came, records_came}
use Rattle.ndr_decoder_laws.proofs.runs.RowSteps.{length_left}
use Rattle.nd_lemmas.proofs.Lists.{none_of_none as no_octets_at}

-- the front of a list, by its length
pub front_taken : {A : Type 0} (n : ℕ) (xs ys : List A) → length xs ≡ n → take n (xs ++ ys) ≡ xs
front_taken zero [] [] e = refl
front_taken zero [] (y ∷ ys) e = refl
front_taken zero (x ∷ xs) ys e = absurd (omega (arith, e))
front_taken (suc n) [] ys e = absurd (omega (arith, e))
front_taken (suc n) (x ∷ xs) ys e = ap (λ l. x ∷ l) (front_taken n xs ys (omega (arith, e)))

as_many_in : (order : Order) (fs : List Slot) (at : ℕ) (os : List ℕ) → length (slot_flats order at fs os) ≡ length fs
as_many_in order [] at os = refl
as_many_in order (f ∷ fs) at os = ap suc (as_many_in order fs (at + gap at f.to + width f.prim) (after_slot at f os))

module _ (values : List EnumList) (order : Order) (code : List Instr) (h : Home) (s0 : State) where
  abbrev Comes : List ℕ → List Item → State → Type 0
  Comes fetched noted s = Reaches values order code h s0 fetched noted s

  abbrev Cut : ℕ → List ℕ → List ℕ → List ℕ → List Item → List Item → Type 0
  Cut at cells fetched os noted items = EndsWithin values order code h s0 at cells fetched os noted items

  -- the octets `gs` were taken before, with the items `mine`
  cut_after : (at place : ℕ) (cells fetched gs left os : List ℕ) (noted mine more items : List Item) → Cut place cells (fetched ++ gs) left (noted ++ mine) more
      → gs ++ left ≡ os → mine ++ more ≡ items → place ≡ at + length gs → Cut at cells fetched os noted items
  cut_after at place cells fetched gs left os noted mine more items c e f place_is =
      let sizes : length os ≡ length gs + length left = ap length (sym e) ∙ length-append gs left in
      let p : c.last.at + length c.rest ≡ place + length left = c.place in
      record {
        taken = c.taken;
        rest = c.rest;
        last = c.last;
        i = c.i;
        octets = c.octets ∙ append_assoc fetched gs left ∙ ap (λ l. fetched ++ l) e;
        reached = subst₃ Comes refl (append_assoc noted mine more ∙ ap (λ l. noted ++ l) f) refl c.reached;
        there = c.there;
        cut = c.cut;
        place = omega (arith, sizes, p, place_is);
        same_cells = c.same_cells;
      }

  module _ (b : State) (base : ℕ) (stack : List Frame) where
    -- within a struct: at this address and place, coming back to `back`
    abbrev within : ℕ → ℕ → ℕ → List Flat → List Member → List First → State
    within pc at back nodes ms xs = record {
      pc = pc;
      phase = begun;
      at = at;
      max = b.max;
      max_at = b.max_at;
      tag = b.tag;
      carrier = b.carrier;
      top = frame.Record back base;
      stack = stack;
      nodes = nodes;
      own = b.own;
      members = ms;
      firsts = xs;
      fresh = b.fresh;
      cells = b.cells;
      numbers = b.numbers;
    }

    -- a number and the end of its run
    number_comes : (pc at back : ℕ) (nodes : List Flat) (ms : List Member) (xs : List First) (p : Primitive) (fetched os : List ℕ) (noted : List Item)
        → Comes fetched noted (within pc at back nodes ms xs) → IsNumberAt code pc p → AreOctets os → length os ≡ width p → at + width p ≤ STREAM_LIMIT
        → Comes (fetched ++ os) (noted ++ item_here h at item.Num (width p) (value_of_octets order p os) (length nodes) ∷ [])
        (within back (at + width p) back (nodes ++ (tree.Num (value_of_octets order p os), 0) ∷ []) ms (xs ++ first.Number (value_of_octets order p os) ∷ []))
    number_comes pc at back nodes ms xs p fetched os noted r (of, (at_pc, (is, ends))) octets size short =
        let s : State = within pc at back nodes ms xs in
        let n : State = within (pc + 1) (at + width p) back (nodes ++ (tree.Num (value_of_octets order p os), 0) ∷ []) ms (xs ++ first.Number (value_of_octets order p os) ∷ []) in
        let w_is : width p ≡ width (prim_of of.0) = ap width (sym is) in
        let e : number_step values order os (prim_of of.0) None s ≡ number_step values order os p None s = ap (λ q. number_step values order os q None s) is in
        let same_items : noted ++ step_items order h os (op.Num of) s ≡ noted ++ item_here h at item.Num (width p) (value_of_octets order p os) (length nodes) ∷ [] =
        ap (λ q. noted ++ item_here h at item.Num (width q) (value_of_octets order q os) (length nodes) ∷ []) is in
        let there : Comes (fetched ++ os) (noted ++ item_here h at item.Num (width p) (value_of_octets order p os) (length nodes) ∷ []) n =
        subst₃ Comes refl same_items refl (steps_to fetched os noted s n (op.Num of) r at_pc (size ∙ w_is, subst (λ k. at + k ≤ STREAM_LIMIT) w_is short) octets e) in
        subst₃ Comes (append-nil (fetched ++ os)) (append-nil (noted ++ item_here h at item.Num (width p) (value_of_octets order p os) (length nodes) ∷ [])) refl
        (steps_to (fetched ++ os) [] (noted ++ item_here h at item.Num (width p) (value_of_octets order p os) (length nodes) ∷ []) n
        (within back (at + width p) back (nodes ++ (tree.Num (value_of_octets order p os), 0) ∷ []) ms (xs ++ first.Number (value_of_octets order p os) ∷ [])) op.Ret there ends refl tt refl)

    -- the run of a member: its gap and its number
    run_comes : (run at back : ℕ) (nodes : List Flat) (ms : List Member) (xs : List First) (f : Slot) (fetched gs os : List ℕ) (noted : List Item)
        → Comes fetched noted (within run at back nodes ms xs) → IsSlotRun code run f → AreOctets gs → AreOctets os → length gs ≡ gap at f.to → length os ≡ width f.prim
        → at + gap at f.to + width f.prim ≤ STREAM_LIMIT
        → Comes (fetched ++ (gs ++ os)) (noted ++ (gap_items h at gs ++ item_here h (at + gap at f.to) item.Num (width f.prim) (value_of_octets order f.prim os) (length nodes) ∷ []))
        (within back (at + gap at f.to + width f.prim) back (nodes ++ (tree.Num (value_of_octets order f.prim os), 0) ∷ []) ms (xs ++ first.Number (value_of_octets order f.prim os) ∷ []))
    run_comes run at back nodes ms xs f fetched gs os noted r (inl (one, number)) gap_octets octets gap_size size short =
        let none : gap at f.to ≡ 0 = let z : gap at 1 ≡ 0 = omega arith in ap (gap at) one ∙ z in
        let empty : gs ≡ [] = no_octets_at gs (gap_size ∙ none) in
        let place : at ≡ at + gap at f.to = omega (arith, none) in
        let z : ℤ = value_of_octets order f.prim os in
        subst₃ Comes (ap (λ l. fetched ++ (l ++ os)) (sym empty))
        (ap₂ (λ l k. noted ++ (gap_items h at l ++ item_here h k item.Num (width f.prim) z (length nodes) ∷ [])) (sym empty) place)
        (ap (λ k. within back (k + width f.prim) back (nodes ++ (tree.Num z, 0) ∷ []) ms (xs ++ first.Number z ∷ [])) place)
        (number_comes run at back nodes ms xs f.prim fetched os noted r number octets size (subst (λ k. k + width f.prim ≤ STREAM_LIMIT) (sym place) short))
    run_comes run at back nodes ms xs f fetched gs os noted r (inr (aligned, number)) gap_octets octets gap_size size short =
        let s : State = within run at back nodes ms xs in
        let n : State = within (run + 1) (at + gap at f.to) back nodes ms xs in
        let z : ℤ = value_of_octets order f.prim os in
        let passed : Comes (fetched ++ gs) (noted ++ gap_items h at gs) n =
        subst₃ Comes refl refl (ap (λ k. within (run + 1) (at + k) back nodes ms xs) gap_size)
        (steps_to fetched gs noted s (within (run + 1) (at + length gs) back nodes ms xs) (op.Align f.to) r aligned gap_size gap_octets refl) in
        subst₃ Comes (append_assoc fetched gs os)
        (append_assoc noted (gap_items h at gs) (item_here h (at + gap at f.to) item.Num (width f.prim) z (length nodes) ∷ [])) refl
        (number_comes (run + 1) (at + gap at f.to) back nodes ms xs f.prim (fetched ++ gs) os (noted ++ gap_items h at gs) passed number octets size short)

    -- what some members come to
    record Members (pc at : ℕ) (nodes : List Flat) (ms : List Member) (xs : List First) (fs : List Slot) (fetched os : List ℕ) (noted : List Item) : Type 0 where
      back : ℕ
      more_members : List Member
      more_firsts : List First
      reached : Comes (fetched ++ os) (noted ++ slot_items order h at (length nodes) fs os)
          (within (pc + length fs) (at + length os) back (nodes ++ slot_flats order at fs os) (ms ++ more_members) (xs ++ more_firsts))

    members_come : (fs : List Slot) (pc at back : ℕ) (nodes : List Flat) (ms : List Member) (xs : List First) (fetched os : List ℕ) (noted : List Item)
        → Comes fetched noted (within pc at back nodes ms xs) → AreSlots code pc fs → AreOctets os → length os ≡ slots_len at fs → at + length os ≤ STREAM_LIMIT
        → Members pc at nodes ms xs fs fetched os noted
    members_come [] pc at back nodes ms xs fetched os noted r slots octets size short =
        let empty : os ≡ [] = no_octets_at os size in
        let pc_is : pc ≡ pc + 0 = omega arith in
        let none : length os ≡ 0 = size in
        let at_is : at ≡ at + length os = omega (arith, none) in
        record {
          back = back;
          more_members = [];
          more_firsts = [];
          reached = subst₃ Comes (sym (append-nil fetched) ∙ ap (λ l. fetched ++ l) (sym empty)) (sym (append-nil noted))
              (ap₂ (λ k l. within k l back nodes ms xs) pc_is at_is
              ∙ ap₂ (λ k l. within (pc + 0) (at + length os) back k l xs) (sym (append-nil nodes)) (sym (append-nil ms))
              ∙ ap (λ l. within (pc + 0) (at + length os) back (nodes ++ []) (ms ++ []) l) (sym (append-nil xs))) r;
        }
    members_come (f ∷ fs) pc at back nodes ms xs fetched os noted r ((run, (calls, is_run)), slots) octets size short =
        let gs : List ℕ = take (gap at f.to) os in
        let left : List ℕ = drop (gap at f.to) os in
        let here : List ℕ = take (width f.prim) left in
        let rest : List ℕ = drop (width f.prim) left in
        let after : ℕ = slots_len (at + gap at f.to + width f.prim) fs in
        let sum : length os ≡ gap at f.to + (width f.prim + after) = size in
        let gap_size : length gs ≡ gap at f.to = length_taken (gap at f.to) os (omega (arith, sum)) in
        let left_size : gap at f.to + length left ≡ length os = length_left (gap at f.to) os (omega (arith, sum)) in
        let enough : width f.prim ≤ length left = omega (arith, left_size, sum) in
        let here_size : length here ≡ width f.prim = length_taken (width f.prim) left enough in
        let rest_size : width f.prim + length rest ≡ length left = length_left (width f.prim) left enough in
        let whole_rest : length rest ≡ after = omega (arith, rest_size, left_size, sum) in
        let z : ℤ = value_of_octets order f.prim here in
        let m : Member = record { node = length nodes; pending = length b.fresh } in
        let x : Flat = (tree.Num z, 0) in
        let one : Item = item_here h (at + gap at f.to) item.Num (width f.prim) z (length nodes) in
        let called : Comes fetched noted (within run at (pc + 1) nodes (ms ++ m ∷ []) xs) =
        subst₃ Comes (append-nil fetched) (append-nil noted) refl
        (steps_to fetched [] noted (within pc at back nodes ms xs) (within run at (pc + 1) nodes (ms ++ m ∷ []) xs) (op.Call run) r calls refl tt refl) in
        let read =
        run_comes run at (pc + 1) nodes (ms ++ m ∷ []) xs f fetched gs here noted called is_run (take_octets (gap at f.to) os octets)
        (take_octets (width f.prim) left (drop_octets (gap at f.to) os octets)) gap_size here_size (omega (arith, left_size, rest_size, short)) in
        let others : Members (pc + 1) (at + gap at f.to + width f.prim) (nodes ++ x ∷ []) (ms ++ m ∷ []) (xs ++ first.Number z ∷ []) fs (fetched ++ (gs ++ here)) rest
        (noted ++ (gap_items h at gs ++ one ∷ [])) =
        members_come fs (pc + 1) (at + gap at f.to + width f.prim) (pc + 1) (nodes ++ x ∷ []) (ms ++ m ∷ []) (xs ++ first.Number z ∷ []) (fetched ++ (gs ++ here)) rest
        (noted ++ (gap_items h at gs ++ one ∷ [])) read slots (drop_octets (width f.prim) left (drop_octets (gap at f.to) os octets)) whole_rest (omega (arith, left_size, rest_size, short)) in
        let more_items : List Item = slot_items order h (at + gap at f.to + width f.prim) (length nodes + 1) fs rest in
        let more_nodes : length (nodes ++ x ∷ []) ≡ length nodes + 1 = length-append nodes (x ∷ []) in
        let octets_are : (fetched ++ (gs ++ here)) ++ rest ≡ fetched ++ os =
        append_assoc fetched (gs ++ here) rest ∙ ap (λ l. fetched ++ l) (append_assoc gs here rest ∙ ap (λ l. gs ++ l) (taken_and_left (width f.prim) left) ∙ taken_and_left (gap at f.to) os) in
        let items_are : (noted ++ (gap_items h at gs ++ one ∷ [])) ++ slot_items order h (at + gap at f.to + width f.prim) (length (nodes ++ x ∷ [])) fs rest
        ≡ noted ++ (gap_items h at gs ++ one ∷ more_items) =
        ap (λ k. (noted ++ (gap_items h at gs ++ one ∷ [])) ++ slot_items order h (at + gap at f.to + width f.prim) k fs rest) more_nodes
        ∙ append_assoc noted (gap_items h at gs ++ one ∷ []) more_items ∙ ap (λ l. noted ++ l) (append_assoc (gap_items h at gs) (one ∷ []) more_items) in
        let pc_is : pc + 1 + length fs ≡ pc + length (f ∷ fs) = omega arith in
        let at_is : at + gap at f.to + width f.prim + length rest ≡ at + length os = omega (arith, left_size, rest_size) in
        let nodes_are : (nodes ++ x ∷ []) ++ slot_flats order (at + gap at f.to + width f.prim) fs rest ≡ nodes ++ slot_flats order at (f ∷ fs) os =
        append_assoc nodes (x ∷ []) (slot_flats order (at + gap at f.to + width f.prim) fs rest) in
        record {
          back = others.back;
          more_members = m ∷ others.more_members;
          more_firsts = first.Number z ∷ others.more_firsts;
          reached = subst₃ Comes octets_are items_are
              (ap₂ (λ k l. within k l others.back ((nodes ++ x ∷ []) ++ slot_flats order (at + gap at f.to + width f.prim) fs rest) ((ms ++ m ∷ []) ++ others.more_members)
              ((xs ++ first.Number z ∷ []) ++ others.more_firsts)) pc_is at_is
              ∙ ap₂ (λ k l. within (pc + length (f ∷ fs)) (at + length os) others.back k l ((xs ++ first.Number z ∷ []) ++ others.more_firsts)) nodes_are
              (append_assoc ms (m ∷ []) others.more_members)
              ∙ ap (λ l. within (pc + length (f ∷ fs)) (at + length os) others.back (nodes ++ slot_flats order at (f ∷ fs) os) (ms ++ m ∷ others.more_members) l)
              (append_assoc xs (first.Number z ∷ []) others.more_firsts)) others.reached;
        }

    -- the octets end within a member's gap
    gap_cut : (run at back : ℕ) (nodes : List Flat) (ms : List Member) (xs : List First) (f : Slot) (fetched os : List ℕ) (noted : List Item)
        → Comes fetched noted (within run at back nodes ms xs) → IsSlotRun code run f → length os < gap at f.to → Cut at b.cells fetched os noted []
    gap_cut run at back nodes ms xs f fetched os noted r (inl (one, number)) few =
        let none : gap at f.to ≡ 0 = let z : gap at 1 ≡ 0 = omega arith in ap (gap at) one ∙ z in
        absurd (omega (arith, few, none))
    gap_cut run at back nodes ms xs f fetched os noted r (inr (aligned, number)) few =
        record {
          taken = fetched;
          rest = os;
          last = within run at back nodes ms xs;
          i = op.Align f.to;
          octets = refl;
          reached = subst₃ Comes refl (sym (append-nil noted)) refl r;
          there = aligned;
          cut = few;
          place = refl;
          same_cells = refl;
        }

    -- they end within a number
    number_cut : (pc at back : ℕ) (nodes : List Flat) (ms : List Member) (xs : List First) (p : Primitive) (fetched os : List ℕ) (noted : List Item)
        → Comes fetched noted (within pc at back nodes ms xs) → IsNumberAt code pc p → length os < width p → at + width p ≤ STREAM_LIMIT → Cut at b.cells fetched os noted []
    number_cut pc at back nodes ms xs p fetched os noted r (of, (at_pc, (is, ends))) few short =
        record {
          taken = fetched;
          rest = os;
          last = within pc at back nodes ms xs;
          i = op.Num of;
          octets = refl;
          reached = subst₃ Comes refl (sym (append-nil noted)) refl r;
          there = at_pc;
          cut = (subst (λ q. length os < width q) (sym is) few, subst (λ q. at + width q ≤ STREAM_LIMIT) (sym is) short);
          place = refl;
          same_cells = refl;
        }

    -- they end within the number of a member, after its gap
    run_cut : (run at back : ℕ) (nodes : List Flat) (ms : List Member) (xs : List First) (f : Slot) (fetched gs left : List ℕ) (noted : List Item)
        → Comes fetched noted (within run at back nodes ms xs) → IsSlotRun code run f → AreOctets gs → length gs ≡ gap at f.to → length left < width f.prim
        → at + gap at f.to + width f.prim ≤ STREAM_LIMIT → Cut at b.cells fetched (gs ++ left) noted (gap_items h at gs)
    run_cut run at back nodes ms xs f fetched gs left noted r (inl (one, number)) octets size few short =
        let none : gap at f.to ≡ 0 = let z : gap at 1 ≡ 0 = omega arith in ap (gap at) one ∙ z in
        let empty : gs ≡ [] = no_octets_at gs (size ∙ none) in
        subst (λ l. Cut at b.cells fetched (l ++ left) noted (gap_items h at l)) (sym empty)
        (number_cut run at back nodes ms xs f.prim fetched left noted r number few (omega (arith, none, short)))
    run_cut run at back nodes ms xs f fetched gs left noted r (inr (aligned, number)) octets size few short =
        let s : State = within run at back nodes ms xs in
        let n : State = within (run + 1) (at + gap at f.to) back nodes ms xs in
        let passed : Comes (fetched ++ gs) (noted ++ gap_items h at gs) n =
        subst₃ Comes refl refl (ap (λ k. within (run + 1) (at + k) back nodes ms xs) size)
        (steps_to fetched gs noted s (within (run + 1) (at + length gs) back nodes ms xs) (op.Align f.to) r aligned size octets refl) in
        cut_after at (at + gap at f.to) b.cells fetched gs left (gs ++ left) noted (gap_items h at gs) [] (gap_items h at gs)
        (number_cut (run + 1) (at + gap at f.to) back nodes ms xs f.prim (fetched ++ gs) left (noted ++ gap_items h at gs) passed number few short)
        refl (append-nil (gap_items h at gs)) (ap (λ k. at + k) (sym size))

    -- a member within which the octets end, or after which others do
    member_cut : (run at back : ℕ) (nodes : List Flat) (ms : List Member) (xs : List First) (f : Slot) (fetched os : List ℕ) (noted more : List Item)
        → Comes fetched noted (within run at back nodes ms xs) → IsSlotRun code run f → AreOctets os → at + gap at f.to + width f.prim ≤ STREAM_LIMIT
        → (gap at f.to + width f.prim ≤ length os → Cut at b.cells fetched os noted (gap_items h at (take (gap at f.to) os) ++ more))
        → (d e : Bool) → ltb (length os) (gap at f.to) ≡ d → ltb (length os) (gap at f.to + width f.prim) ≡ e
        → Cut at b.cells fetched os noted (if d then [] else gap_items h at (take (gap at f.to) os) ++ (if e then [] else more))
    member_cut run at back nodes ms xs f fetched os noted more r is octets short others true e no_gap no_number =
        gap_cut run at back nodes ms xs f fetched os noted r is (ltb-true (length os) (gap at f.to) no_gap)
    member_cut run at back nodes ms xs f fetched os noted more r is octets short others false true a_gap no_number =
        let gs : List ℕ = take (gap at f.to) os in
        let left : List ℕ = drop (gap at f.to) os in
        let enough : gap at f.to ≤ length os = ltb-false (length os) (gap at f.to) a_gap in
        let few : length os < gap at f.to + width f.prim = ltb-true (length os) (gap at f.to + width f.prim) no_number in
        let left_size : gap at f.to + length left ≡ length os = length_left (gap at f.to) os enough in
        let it : Cut at b.cells fetched (gs ++ left) noted (gap_items h at gs) =
        run_cut run at back nodes ms xs f fetched gs left noted r is (take_octets (gap at f.to) os octets) (length_taken (gap at f.to) os enough) (omega (arith, few, left_size)) short in
        subst (λ l. Cut at b.cells fetched os noted l) (sym (append-nil (gap_items h at gs)))
        (subst (λ l. Cut at b.cells fetched l noted (gap_items h at gs)) (taken_and_left (gap at f.to) os) it)
    member_cut run at back nodes ms xs f fetched os noted more r is octets short others false false a_gap a_number =
        others (ltb-false (length os) (gap at f.to + width f.prim) a_number)

    members_cut : (fs : List Slot) (pc at back : ℕ) (nodes : List Flat) (ms : List Member) (xs : List First) (fetched os : List ℕ) (noted : List Item)
        → Comes fetched noted (within pc at back nodes ms xs) → AreSlots code pc fs → AreOctets os → length os < slots_len at fs → at + slots_len at fs ≤ STREAM_LIMIT
        → Cut at b.cells fetched os noted (slots_came order h at (length nodes) fs os)
    members_cut [] pc at back nodes ms xs fetched os noted r slots octets few short = absurd (omega (arith, few))
    members_cut (f ∷ fs) pc at back nodes ms xs fetched os noted r ((run, (calls, is_run)), slots) octets few short =
        let gs : List ℕ = take (gap at f.to) os in
        let left : List ℕ = drop (gap at f.to) os in
        let here : List ℕ = take (width f.prim) left in
        let rest : List ℕ = drop (width f.prim) left in
        let after : ℕ = slots_len (at + gap at f.to + width f.prim) fs in
        let fewer : length os < gap at f.to + (width f.prim + after) = few in
        let shorter : at + (gap at f.to + (width f.prim + after)) ≤ STREAM_LIMIT = short in
        let z : ℤ = value_of_octets order f.prim here in
        let m : Member = record { node = length nodes; pending = length b.fresh } in
        let x : Flat = (tree.Num z, 0) in
        let one : Item = item_here h (at + gap at f.to) item.Num (width f.prim) z (length nodes) in
        let more_items : List Item = slots_came order h (at + gap at f.to + width f.prim) (length nodes + 1) fs rest in
        let more_nodes : length (nodes ++ x ∷ []) ≡ length nodes + 1 = length-append nodes (x ∷ []) in
        let called : Comes fetched noted (within run at (pc + 1) nodes (ms ++ m ∷ []) xs) =
        subst₃ Comes (append-nil fetched) (append-nil noted) refl
        (steps_to fetched [] noted (within pc at back nodes ms xs) (within run at (pc + 1) nodes (ms ++ m ∷ []) xs) (op.Call run) r calls refl tt refl) in
        let others : gap at f.to + width f.prim ≤ length os → Cut at b.cells fetched os noted (gap_items h at gs ++ (one ∷ more_items)) =
        λ enough.
        let gap_size : length gs ≡ gap at f.to = length_taken (gap at f.to) os (omega (arith, enough)) in
        let left_size : gap at f.to + length left ≡ length os = length_left (gap at f.to) os (omega (arith, enough)) in
        let many : width f.prim ≤ length left = omega (arith, left_size, enough) in
        let here_size : length here ≡ width f.prim = length_taken (width f.prim) left many in
        let rest_size : width f.prim + length rest ≡ length left = length_left (width f.prim) left many in
        let both : length (gs ++ here) ≡ length gs + length here = length-append gs here in
        let read =
        run_comes run at (pc + 1) nodes (ms ++ m ∷ []) xs f fetched gs here noted called is_run (take_octets (gap at f.to) os octets)
        (take_octets (width f.prim) left (drop_octets (gap at f.to) os octets)) gap_size here_size (omega (arith, shorter)) in
        let next : Cut (at + gap at f.to + width f.prim) b.cells (fetched ++ (gs ++ here)) rest (noted ++ (gap_items h at gs ++ one ∷ []))
        (slots_came order h (at + gap at f.to + width f.prim) (length (nodes ++ x ∷ [])) fs rest) =
        members_cut fs (pc + 1) (at + gap at f.to + width f.prim) (pc + 1) (nodes ++ x ∷ []) (ms ++ m ∷ []) (xs ++ first.Number z ∷ []) (fetched ++ (gs ++ here)) rest
        (noted ++ (gap_items h at gs ++ one ∷ [])) read slots (drop_octets (width f.prim) left (drop_octets (gap at f.to) os octets)) (omega (arith, rest_size, left_size, fewer))
        (omega (arith, shorter)) in
        cut_after at (at + gap at f.to + width f.prim) b.cells fetched (gs ++ here) rest os noted (gap_items h at gs ++ one ∷ [])
        (slots_came order h (at + gap at f.to + width f.prim) (length (nodes ++ x ∷ [])) fs rest) (gap_items h at gs ++ (one ∷ more_items)) next
        (append_assoc gs here rest ∙ ap (λ l. gs ++ l) (taken_and_left (width f.prim) left) ∙ taken_and_left (gap at f.to) os)
        (ap (λ k. (gap_items h at gs ++ one ∷ []) ++ slots_came order h (at + gap at f.to + width f.prim) k fs rest) more_nodes ∙ append_assoc (gap_items h at gs) (one ∷ []) more_items)
        (omega (arith, both, gap_size, here_size)) in
        member_cut run at (pc + 1) nodes (ms ++ m ∷ []) xs f fetched os noted (one ∷ more_items) called is_run octets (omega (arith, shorter)) others
        (ltb (length os) (gap at f.to)) (ltb (length os) (gap at f.to + width f.prim)) refl refl

  -- a struct begins
  abbrev recorded : ℕ → State → Frame → State
  recorded n s t = record {
    pc = s.pc + 1;
    phase = begun;
    at = s.at;
    max = s.max;
    max_at = s.max_at;
    tag = s.tag;
    carrier = s.carrier;
    top = frame.Record 0 (length s.members);
    stack = s.top ∷ s.stack;
    nodes = s.nodes ++ (tree.Rec, n) ∷ [];
    own = own_by t (first_of (tree.Rec, n) None) s.own;
    members = s.members;
    firsts = firsts_by t (first_of (tree.Rec, n) None) s.firsts;
    fresh = s.fresh;
    cells = s.cells;
    numbers = s.numbers;
  }

  begun_within : (n : ℕ) (s : State) (t : Frame) → s.top ≡ t → IsAmongElements t
      → recorded n s s.top ≡ within s (length s.members) (s.top ∷ s.stack) (s.pc + 1) s.at 0 (s.nodes ++ (tree.Rec, n) ∷ []) s.members s.firsts
  begun_within n s frame.Home e i = absurd i
  begun_within n s (frame.Record back k) e i = absurd i
  begun_within n s (frame.Elements left run back) e i = ap (recorded n s) e

  -- past its `close`
  abbrev closed : ℕ → ℕ → List Flat → List Member → List First → State → State
  closed pc at nodes ms xs s = record {
    pc = pc;
    phase = begun;
    at = at;
    max = s.max;
    max_at = s.max_at;
    tag = s.tag;
    carrier = s.carrier;
    top = s.top;
    stack = s.stack;
    nodes = nodes;
    own = s.own;
    members = ms;
    firsts = xs;
    fresh = s.fresh;
    cells = s.cells;
    numbers = s.numbers;
  }

  abbrev framed : State → Frame → State
  framed s t = records_read s.pc s.at [] t s

  flats_length : (k : ℕ) (fs : List Slot) (at : ℕ) (os : List ℕ) → k + length ((tree.Rec, length fs) ∷ slot_flats order at fs os) ≡ k + 1 + length fs
  flats_length k fs at os = let n : length (slot_flats order at fs os) ≡ length fs = as_many_in order fs at os in omega (arith, n)

  pub record_comes : (fs : List Slot) (s : State) (fetched os : List ℕ) (noted : List Item) → Comes fetched noted s → IsNumberRecord code s.pc fs → IsAmongElements s.top
      → length s.firsts ≡ length s.members → AreOctets os → length os ≡ slots_len s.at fs → s.at + length os ≤ STREAM_LIMIT
      → Comes (fetched ++ os) (noted ++ slot_items order h s.at (length s.nodes + 1) fs os) (record_read order fs os s)
  record_comes fs s fetched os noted r is among level octets size short =
      let nodes : List Flat = s.nodes ++ (tree.Rec, length fs) ∷ [] in
      let more_nodes : length nodes ≡ length s.nodes + 1 = length-append s.nodes ((tree.Rec, length fs) ∷ []) in
      let opened : Comes fetched noted (within s (length s.members) (s.top ∷ s.stack) (s.pc + 1) s.at 0 nodes s.members s.firsts) =
      subst₃ Comes (append-nil fetched) (append-nil noted) (begun_within (length fs) s s.top refl among)
      (steps_to fetched [] noted s (recorded (length fs) s s.top) (op.Record (length fs)) r is.opens refl tt refl) in
      let read : Members s (length s.members) (s.top ∷ s.stack) (s.pc + 1) s.at nodes s.members s.firsts fs fetched os noted =
      members_come s (length s.members) (s.top ∷ s.stack) fs (s.pc + 1) s.at 0 nodes s.members s.firsts fetched os noted opened is.slots octets size short in
      let flats : List Flat = slot_flats order s.at fs os in
      let ms : List Member = take (length s.members) (s.members ++ read.more_members) in
      let xs : List First = take (length s.members) (s.firsts ++ read.more_firsts) in
      let members_are : ms ≡ s.members = front_taken (length s.members) s.members read.more_members refl in
      let firsts_are : xs ≡ s.firsts = front_taken (length s.members) s.firsts read.more_firsts level in
      let ended : Comes ((fetched ++ os) ++ []) ((noted ++ slot_items order h s.at (length nodes) fs os) ++ []) (closed (s.pc + 1 + length fs + 1) (s.at + length os) (nodes ++ flats) ms xs s) =
      steps_to (fetched ++ os) [] (noted ++ slot_items order h s.at (length nodes) fs os)
      (within s (length s.members) (s.top ∷ s.stack) (s.pc + 1 + length fs) (s.at + length os) read.back (nodes ++ flats) (s.members ++ read.more_members) (s.firsts ++ read.more_firsts))
      (closed (s.pc + 1 + length fs + 1) (s.at + length os) (nodes ++ flats) ms xs s) op.Close read.reached is.closes refl tt refl in
      subst₃ Comes (append-nil (fetched ++ os))
      (append-nil (noted ++ slot_items order h s.at (length nodes) fs os) ∙ ap (λ k. noted ++ slot_items order h s.at k fs os) more_nodes)
      (ap₂ (λ k l. closed (s.pc + 1 + length fs + 1) (s.at + length os) (nodes ++ flats) k l s) members_are firsts_are
      ∙ ap (λ l. closed (s.pc + 1 + length fs + 1) (s.at + length os) l s.members s.firsts s) (append_assoc s.nodes ((tree.Rec, length fs) ∷ []) flats)) ended

  -- from the end of an element to the struct of the next
  next_comes : (pc at to left run back : ℕ) (fs : List Slot) (xs : List Flat) (s : State) (fetched gs : List ℕ) (noted : List Item)
      → Comes fetched noted (records_read (pc + 1 + length fs + 1) at xs (frame.Elements (suc left) run back) s) → IsRecordRun code run pc to fs
      → AreOctets gs → length gs ≡ gap at to
      → Comes (fetched ++ gs) (noted ++ gap_items h at gs) (records_read pc (at + gap at to) xs (frame.Elements left run back) s)
  next_comes pc at to left run back fs xs s fetched gs noted r is octets size = by_run is.run_begins
    where
      at_run : Comes fetched noted (records_read run at xs (frame.Elements left run back) s)
      at_run =
          subst₃ Comes (append-nil fetched) (append-nil noted) refl
          (steps_to fetched [] noted (records_read (pc + 1 + length fs + 1) at xs (frame.Elements (suc left) run back) s) (records_read run at xs (frame.Elements left run back) s) op.Ret r is.run_ends
          refl tt refl)

      by_run : ((run ≡ pc) × (to ≡ 1)) ⊎ ((run + 1 ≡ pc) × (slice_get code run ≡ Some (op.Align to)))
          → Comes (fetched ++ gs) (noted ++ gap_items h at gs) (records_read pc (at + gap at to) xs (frame.Elements left run back) s)
      by_run (inl (here, one)) =
          let none : gap at to ≡ 0 = let z : gap at 1 ≡ 0 = omega arith in ap (gap at) one ∙ z in
          let empty : [] ≡ gs = sym (no_octets_at gs (size ∙ none)) in
          let place : at ≡ at + gap at to = omega (arith, none) in
          subst₃ Comes (sym (append-nil fetched) ∙ ap (λ l. fetched ++ l) empty) (sym (append-nil noted) ∙ ap (λ l. noted ++ gap_items h at l) empty)
          (ap₂ (λ k l. records_read k l xs (frame.Elements left run back) s) here place) at_run
      by_run (inr (here, aligned)) =
          subst₃ Comes refl refl (ap₂ (λ k l. records_read k (at + l) xs (frame.Elements left run back) s) here size)
          (steps_to fetched gs noted (records_read run at xs (frame.Elements left run back) s) (records_read (run + 1) (at + length gs) xs (frame.Elements left run back) s) (op.Align to)
          at_run aligned size octets refl)

  -- elements, of which `n` come after the first and `more` are left then
  pub records_come : (n more run back to : ℕ) (fs : List Slot) (s : State) (fetched os : List ℕ) (noted : List Item) → Comes fetched noted s → s.top ≡ frame.Elements (n + more) run back
      → IsRecordRun code run s.pc to fs → length s.firsts ≡ length s.members → AreOctets os → length os ≡ records_len s.at to fs n → s.at + length os ≤ STREAM_LIMIT
      → Comes (fetched ++ os) (noted ++ record_items order h s.at (length s.nodes) to fs n os)
      (records_read (s.pc + 1 + length fs + 1) (s.at + length os) (record_flats order s.at to fs n os) (frame.Elements more run back) s)
  records_come zero more run back to fs s fetched os noted r top is level octets size short =
      let left_is : 0 + more ≡ more = omega arith in
      let top_is : s.top ≡ frame.Elements more run back = top ∙ ap (λ k. frame.Elements k run back) left_is in
      subst₃ Comes refl refl (ap (λ t. records_read (s.pc + 1 + length fs + 1) (s.at + length os) ((tree.Rec, length fs) ∷ slot_flats order s.at fs os) t s) top_is)
      (record_comes fs s fetched os noted r is.own (subst IsAmongElements (sym top_is) tt) level octets size short)
  records_come (suc n) more run back to fs s fetched os noted r top is level octets size short =
      let end : ℕ = s.at + slots_len s.at fs in
      let here : List ℕ = take (slots_len s.at fs) os in
      let left : List ℕ = drop (slots_len s.at fs) os in
      let gs : List ℕ = take (gap (s.at + slots_len s.at fs) to) left in
      let rest : List ℕ = drop (gap (s.at + slots_len s.at fs) to) left in
      let sum : length os ≡ slots_len s.at fs + (gap (s.at + slots_len s.at fs) to + records_len (next_place s.at to fs) to fs n) = size in
      let here_size : length here ≡ slots_len s.at fs = length_taken (slots_len s.at fs) os (omega (arith, sum)) in
      let left_size : slots_len s.at fs + length left ≡ length os = length_left (slots_len s.at fs) os (omega (arith, sum)) in
      let enough : gap (s.at + slots_len s.at fs) to ≤ length left = omega (arith, left_size, sum) in
      let gap_size : length gs ≡ gap (s.at + slots_len s.at fs) to = length_taken (gap (s.at + slots_len s.at fs) to) left enough in
      let rest_size : gap (s.at + slots_len s.at fs) to + length rest ≡ length left = length_left (gap (s.at + slots_len s.at fs) to) left enough in
      let rest_is : length rest ≡ records_len (next_place s.at to fs) to fs n = omega (arith, rest_size, left_size, sum) in
      let left_is : suc n + more ≡ suc (n + more) = omega arith in
      let top_is : s.top ≡ frame.Elements (suc (n + more)) run back = top ∙ ap (λ k. frame.Elements k run back) left_is in
      let xs : List Flat = (tree.Rec, length fs) ∷ slot_flats order s.at fs here in
      let first_items : List Item = slot_items order h s.at (length s.nodes + 1) fs here in
      let one : Comes (fetched ++ here) (noted ++ first_items) (records_read (s.pc + 1 + length fs + 1) end xs (frame.Elements (suc (n + more)) run back) s) =
      subst₃ Comes refl refl (ap₂ (λ t k. records_read (s.pc + 1 + length fs + 1) (s.at + k) xs t s) top_is here_size)
      (record_comes fs s fetched here noted r is.own (subst IsAmongElements (sym top_is) tt) level (take_octets (slots_len s.at fs) os octets) here_size
      (omega (arith, here_size, left_size, short))) in
      let s1 : State = records_read s.pc (end + gap end to) xs (frame.Elements (n + more) run back) s in
      let two : Comes ((fetched ++ here) ++ gs) ((noted ++ first_items) ++ gap_items h end gs) s1 =
      next_comes s.pc end to (n + more) run back fs xs s (fetched ++ here) gs (noted ++ first_items) one is (take_octets (gap end to) left (drop_octets (slots_len s.at fs) os octets)) gap_size in
      let nodes_is : length (s.nodes ++ xs) ≡ length s.nodes + 1 + length fs = length-append s.nodes xs ∙ flats_length (length s.nodes) fs s.at here in
      let three = records_come n more run back to fs s1 ((fetched ++ here) ++ gs) rest ((noted ++ first_items) ++ gap_items h end gs) two refl is level
      (drop_octets (gap end to) left (drop_octets (slots_len s.at fs) os octets)) rest_is (omega (arith, rest_size, left_size, short)) in
      let octets_are : ((fetched ++ here) ++ gs) ++ rest ≡ fetched ++ os =
      append_assoc (fetched ++ here) gs rest ∙ append_assoc fetched here (gs ++ rest)
      ∙ ap (λ l. fetched ++ l) (ap (λ l. here ++ l) (taken_and_left (gap end to) left) ∙ taken_and_left (slots_len s.at fs) os) in
      let last_items : List Item = record_items order h (end + gap end to) (length s.nodes + 1 + length fs) to fs n rest in
      let items_are : ((noted ++ first_items) ++ gap_items h end gs) ++ record_items order h (end + gap end to) (length (s.nodes ++ xs)) to fs n rest
      ≡ noted ++ (first_items ++ (gap_items h end gs ++ last_items)) =
      ap (λ k. ((noted ++ first_items) ++ gap_items h end gs) ++ record_items order h (end + gap end to) k to fs n rest) nodes_is
      ∙ append_assoc (noted ++ first_items) (gap_items h end gs) last_items ∙ append_assoc noted first_items (gap_items h end gs ++ last_items) in
      let at_is : (end + gap end to) + length rest ≡ s.at + length os = omega (arith, rest_size, left_size) in
      subst₃ Comes octets_are items_are
      (ap₂ (λ k l. closed (s.pc + 1 + length fs + 1) k l s.members s.firsts (framed s (frame.Elements more run back))) at_is
      (append_assoc s.nodes xs (record_flats order (end + gap end to) to fs n rest))) three

  -- ## Octets that end before the last element does

  record_cut : (fs : List Slot) (s : State) (fetched os : List ℕ) (noted : List Item) → Comes fetched noted s → IsNumberRecord code s.pc fs → IsAmongElements s.top
      → AreOctets os → length os < slots_len s.at fs → s.at + slots_len s.at fs ≤ STREAM_LIMIT
      → Cut s.at s.cells fetched os noted (slots_came order h s.at (length s.nodes + 1) fs os)
  record_cut fs s fetched os noted r is among octets few short =
      let nodes : List Flat = s.nodes ++ (tree.Rec, length fs) ∷ [] in
      let more_nodes : length nodes ≡ length s.nodes + 1 = length-append s.nodes ((tree.Rec, length fs) ∷ []) in
      let opened : Comes fetched noted (within s (length s.members) (s.top ∷ s.stack) (s.pc + 1) s.at 0 nodes s.members s.firsts) =
      subst₃ Comes (append-nil fetched) (append-nil noted) (begun_within (length fs) s s.top refl among)
      (steps_to fetched [] noted s (recorded (length fs) s s.top) (op.Record (length fs)) r is.opens refl tt refl) in
      subst (λ k. Cut s.at s.cells fetched os noted (slots_came order h s.at k fs os)) more_nodes
      (members_cut s (length s.members) (s.top ∷ s.stack) fs (s.pc + 1) s.at 0 nodes s.members s.firsts fetched os noted opened is.slots octets few short)

  -- where all octets of a struct have come its items are the same
  slots_whole : (fs : List Slot) (at node : ℕ) (os : List ℕ) → length os ≡ slots_len at fs → slots_came order h at node fs os ≡ slot_items order h at node fs os
  slots_whole [] at node os size = refl
  slots_whole (f ∷ fs) at node os size =
      let left : List ℕ = drop (gap at f.to) os in
      let rest : List ℕ = drop (width f.prim) left in
      let after : ℕ = slots_len (at + gap at f.to + width f.prim) fs in
      let sum : length os ≡ gap at f.to + (width f.prim + after) = size in
      let left_size : gap at f.to + length left ≡ length os = length_left (gap at f.to) os (omega (arith, sum)) in
      let rest_size : width f.prim + length rest ≡ length left = length_left (width f.prim) left (omega (arith, left_size, sum)) in
      let one : Item = item_here h (at + gap at f.to) item.Num (width f.prim) (value_of_octets order f.prim (slot_octets at f os)) node in
      let more : List Item = slots_came order h (at + gap at f.to + width f.prim) (node + 1) fs rest in
      let a_gap : ltb (length os) (gap at f.to) ≡ false = le-ltb (length os) (gap at f.to) (omega (arith, sum)) in
      let a_number : ltb (length os) (gap at f.to + width f.prim) ≡ false = le-ltb (length os) (gap at f.to + width f.prim) (omega (arith, sum)) in
      ap₂ (λ (d e : Bool). if d then [] else gap_items h at (take (gap at f.to) os) ++ (if e then [] else one ∷ more)) a_gap a_number
      ∙ ap (λ l. gap_items h at (take (gap at f.to) os) ++ one ∷ l) (slots_whole fs (at + gap at f.to + width f.prim) (node + 1) rest (omega (arith, sum, left_size, rest_size)))

  -- they end within the gap before the next element
  next_cut : (pc at to left run back : ℕ) (fs : List Slot) (xs : List Flat) (s : State) (fetched os : List ℕ) (noted : List Item)
      → Comes fetched noted (records_read (pc + 1 + length fs + 1) at xs (frame.Elements (suc left) run back) s) → IsRecordRun code run pc to fs
      → length os < gap at to → Cut at s.cells fetched os noted []
  next_cut pc at to left run back fs xs s fetched os noted r is few = by_run is.run_begins
    where
      by_run : ((run ≡ pc) × (to ≡ 1)) ⊎ ((run + 1 ≡ pc) × (slice_get code run ≡ Some (op.Align to))) → Cut at s.cells fetched os noted []
      by_run (inl (here, one)) =
          let none : gap at to ≡ 0 = let z : gap at 1 ≡ 0 = omega arith in ap (gap at) one ∙ z in
          absurd (omega (arith, few, none))
      by_run (inr (here, aligned)) =
          record {
            taken = fetched;
            rest = os;
            last = records_read run at xs (frame.Elements left run back) s;
            i = op.Align to;
            octets = refl;
            reached = subst₃ Comes (append-nil fetched) refl refl
                (steps_to fetched [] noted (records_read (pc + 1 + length fs + 1) at xs (frame.Elements (suc left) run back) s)
                (records_read run at xs (frame.Elements left run back) s) op.Ret r is.run_ends
                refl tt refl);
            there = aligned;
            cut = few;
            place = refl;
            same_cells = refl;
          }

  -- an element within which the octets end, or after which others do
  element_cut : (left to run back : ℕ) (fs : List Slot) (s : State) (fetched os : List ℕ) (noted more : List Item) → Comes fetched noted s → s.top ≡ frame.Elements (suc left) run back
      → IsRecordRun code run s.pc to fs → length s.firsts ≡ length s.members → AreOctets os → s.at + slots_len s.at fs ≤ STREAM_LIMIT
      → (slots_len s.at fs + gap (s.at + slots_len s.at fs) to ≤ length os
      → Cut s.at s.cells fetched os noted (slots_came order h s.at (length s.nodes + 1) fs (take (slots_len s.at fs) os) ++ more))
      → (d e : Bool) → ltb (length os) (slots_len s.at fs) ≡ d → ltb (length os) (slots_len s.at fs + gap (s.at + slots_len s.at fs) to) ≡ e
      → Cut s.at s.cells fetched os noted (slots_came order h s.at (length s.nodes + 1) fs (take (slots_len s.at fs) os) ++ (if e then [] else more))
  element_cut left to run back fs s fetched os noted more r top is level octets short others true true no_struct no_gap =
      let few : length os < slots_len s.at fs = ltb-true (length os) (slots_len s.at fs) no_struct in
      let all : take (slots_len s.at fs) os ≡ os = all_in (slots_len s.at fs) os (omega (arith, few)) in
      subst (λ l. Cut s.at s.cells fetched os noted l)
      (ap (λ l. slots_came order h s.at (length s.nodes + 1) fs l) (sym all) ∙ sym (append-nil (slots_came order h s.at (length s.nodes + 1) fs (take (slots_len s.at fs) os))))
      (record_cut fs s fetched os noted r is.own (subst IsAmongElements (sym top) tt) octets few short)
  element_cut left to run back fs s fetched os noted more r top is level octets short others true false no_struct a_gap =
      let few : length os < slots_len s.at fs = ltb-true (length os) (slots_len s.at fs) no_struct in
      let enough : slots_len s.at fs + gap (s.at + slots_len s.at fs) to ≤ length os = ltb-false (length os) (slots_len s.at fs + gap (s.at + slots_len s.at fs) to) a_gap in
      absurd (omega (arith, few, enough))
  element_cut left to run back fs s fetched os noted more r top is level octets short others false true a_struct no_gap =
      let end : ℕ = s.at + slots_len s.at fs in
      let here : List ℕ = take (slots_len s.at fs) os in
      let rest : List ℕ = drop (slots_len s.at fs) os in
      let enough : slots_len s.at fs ≤ length os = ltb-false (length os) (slots_len s.at fs) a_struct in
      let few : length os < slots_len s.at fs + gap end to = ltb-true (length os) (slots_len s.at fs + gap end to) no_gap in
      let here_size : length here ≡ slots_len s.at fs = length_taken (slots_len s.at fs) os enough in
      let rest_size : slots_len s.at fs + length rest ≡ length os = length_left (slots_len s.at fs) os enough in
      let xs : List Flat = (tree.Rec, length fs) ∷ slot_flats order s.at fs here in
      let first_items : List Item = slot_items order h s.at (length s.nodes + 1) fs here in
      let one : Comes (fetched ++ here) (noted ++ first_items) (records_read (s.pc + 1 + length fs + 1) end xs (frame.Elements (suc left) run back) s) =
      subst₃ Comes refl refl (ap₂ (λ t k. records_read (s.pc + 1 + length fs + 1) (s.at + k) xs t s) top here_size)
      (record_comes fs s fetched here noted r is.own (subst IsAmongElements (sym top) tt) level (take_octets (slots_len s.at fs) os octets) here_size (omega (arith, here_size, short))) in
      cut_after s.at end s.cells fetched here rest os noted first_items [] (slots_came order h s.at (length s.nodes + 1) fs here ++ [])
      (next_cut s.pc end to left run back fs xs s (fetched ++ here) rest (noted ++ first_items) one is (omega (arith, few, rest_size)))
      (taken_and_left (slots_len s.at fs) os) (ap (λ l. l ++ []) (sym (slots_whole fs s.at (length s.nodes + 1) here here_size))) (ap (λ k. s.at + k) (sym here_size))
  element_cut left to run back fs s fetched os noted more r top is level octets short others false false a_struct a_gap =
      others (ltb-false (length os) (slots_len s.at fs + gap (s.at + slots_len s.at fs) to) a_gap)

  -- elements, of which `n` come after the first and `more` are left then
  pub records_cut : (n more run back to : ℕ) (fs : List Slot) (s : State) (fetched os : List ℕ) (noted : List Item) → Comes fetched noted s → s.top ≡ frame.Elements (n + more) run back
      → IsRecordRun code run s.pc to fs → length s.firsts ≡ length s.members → AreOctets os → length os < records_len s.at to fs n → s.at + records_len s.at to fs n ≤ STREAM_LIMIT
      → Cut s.at s.cells fetched os noted (records_came order h s.at (length s.nodes) to fs n os)
  records_cut zero more run back to fs s fetched os noted r top is level octets few short =
      record_cut fs s fetched os noted r is.own (subst IsAmongElements (sym top) tt) octets few short
  records_cut (suc n) more run back to fs s fetched os noted r top is level octets few short =
      let end : ℕ = s.at + slots_len s.at fs in
      let here : List ℕ = take (slots_len s.at fs) os in
      let left : List ℕ = drop (slots_len s.at fs) os in
      let gs : List ℕ = take (gap end to) left in
      let rest : List ℕ = drop (gap end to) left in
      let fewer : length os < slots_len s.at fs + (gap end to + records_len (end + gap end to) to fs n) = few in
      let shorter : s.at + (slots_len s.at fs + (gap end to + records_len (end + gap end to) to fs n)) ≤ STREAM_LIMIT = short in
      let left_is : suc n + more ≡ suc (n + more) = omega arith in
      let top_is : s.top ≡ frame.Elements (suc (n + more)) run back = top ∙ ap (λ k. frame.Elements k run back) left_is in
      let xs : List Flat = (tree.Rec, length fs) ∷ slot_flats order s.at fs here in
      let first_items : List Item = slot_items order h s.at (length s.nodes + 1) fs here in
      let came : List Item = slots_came order h s.at (length s.nodes + 1) fs here in
      let last_items : List Item = records_came order h (end + gap end to) (length s.nodes + 1 + length fs) to fs n rest in
      let others : slots_len s.at fs + gap end to ≤ length os → Cut s.at s.cells fetched os noted (came ++ (gap_items h end gs ++ last_items)) =
      λ enough.
      let here_size : length here ≡ slots_len s.at fs = length_taken (slots_len s.at fs) os (omega (arith, enough)) in
      let left_size : slots_len s.at fs + length left ≡ length os = length_left (slots_len s.at fs) os (omega (arith, enough)) in
      let many : gap end to ≤ length left = omega (arith, left_size, enough) in
      let gap_size : length gs ≡ gap end to = length_taken (gap end to) left many in
      let rest_size : gap end to + length rest ≡ length left = length_left (gap end to) left many in
      let both : length (here ++ gs) ≡ length here + length gs = length-append here gs in
      let one : Comes (fetched ++ here) (noted ++ first_items) (records_read (s.pc + 1 + length fs + 1) end xs (frame.Elements (suc (n + more)) run back) s) =
      subst₃ Comes refl refl (ap₂ (λ t k. records_read (s.pc + 1 + length fs + 1) (s.at + k) xs t s) top_is here_size)
      (record_comes fs s fetched here noted r is.own (subst IsAmongElements (sym top_is) tt) level (take_octets (slots_len s.at fs) os octets) here_size (omega (arith, here_size, shorter))) in
      let s1 : State = records_read s.pc (end + gap end to) xs (frame.Elements (n + more) run back) s in
      let two : Comes (fetched ++ (here ++ gs)) (noted ++ (first_items ++ gap_items h end gs)) s1 =
      subst₃ Comes (append_assoc fetched here gs) (append_assoc noted first_items (gap_items h end gs)) refl
      (next_comes s.pc end to (n + more) run back fs xs s (fetched ++ here) gs (noted ++ first_items) one is (take_octets (gap end to) left (drop_octets (slots_len s.at fs) os octets)) gap_size) in
      let nodes_is : length (s.nodes ++ xs) ≡ length s.nodes + 1 + length fs = length-append s.nodes xs ∙ flats_length (length s.nodes) fs s.at here in
      let three : Cut (end + gap end to) s.cells (fetched ++ (here ++ gs)) rest (noted ++ (first_items ++ gap_items h end gs))
      (records_came order h (end + gap end to) (length (s.nodes ++ xs)) to fs n rest) =
      records_cut n more run back to fs s1 (fetched ++ (here ++ gs)) rest (noted ++ (first_items ++ gap_items h end gs)) two refl is level
      (drop_octets (gap end to) left (drop_octets (slots_len s.at fs) os octets)) (omega (arith, fewer, rest_size, left_size)) (omega (arith, shorter)) in
      cut_after s.at (end + gap end to) s.cells fetched (here ++ gs) rest os noted (first_items ++ gap_items h end gs)
      (records_came order h (end + gap end to) (length (s.nodes ++ xs)) to fs n rest) (came ++ (gap_items h end gs ++ last_items)) three
      (append_assoc here gs rest ∙ ap (λ l. here ++ l) (taken_and_left (gap end to) left) ∙ taken_and_left (slots_len s.at fs) os)
      (ap₂ (λ l k. (l ++ gap_items h end gs) ++ records_came order h (end + gap end to) k to fs n rest) (sym (slots_whole fs s.at (length s.nodes + 1) here here_size)) nodes_is
      ∙ append_assoc came (gap_items h end gs) last_items)
      (omega (arith, both, here_size, gap_size)) in
      element_cut (n + more) to run back fs s fetched os noted (gap_items h end gs ++ last_items) r top_is is level octets (omega (arith, shorter)) others
      (ltb (length os) (slots_len s.at fs)) (ltb (length os) (slots_len s.at fs + gap end to)) refl refl
