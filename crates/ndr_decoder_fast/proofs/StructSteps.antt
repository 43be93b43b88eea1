-- A struct of numbers and pointers by its steps: its `record`, of each member the call, the gap, the number or pointer and the `ret`, and its `close`.
-- `t` is the state of the struct without its frame, `ms` are the members so far and `xs` what is kept of them.
use Rattle.std.proofs.Common.{◌≡◌, ◌≤◌, ◌⊎◌, inl, inr, ℕ, ◌+◌, List, [], ◌∷◌, ◌++◌, length, Option, Some, None, refl, ap, ap₂, sym, ◌∙◌, subst, arith, append_assoc}
use Rattle.std.specs.Prelude.{pos, Bool, true, false, if◌then◌else◌, take, drop, slice_get}
use Rattle.std.proofs.lemmas.List.{append-nil, length-take-le as length_taken, take-append-drop as taken_and_left}
use Rattle.std.proofs.Math.Path.{subst₃}
use Rattle.nd_base.specs.declared.octets.Order.{Order}
use Rattle.nd_base.specs.declared.TheConstants.{STREAM_LIMIT}
use Rattle.nd_types.specs.declared.types.Class.{Class}
use Rattle.nd_types.specs.declared.types.Class.TheVariants.{Ref, Unique, Full}
use Rattle.nd_types.specs.declared.types.TypeId.{TypeId}
use Rattle.nd_types.specs.Number.{AreOctets, unsigned, value_of_octets}
use Rattle.nd_types.specs.Table.{width}
use Rattle.nd_value.specs.Logged.{ticks_of}
use Rattle.nd_value.specs.declared.item.Home.{Home}
use Rattle.nd_value.specs.declared.item.Item.{Item}
use Rattle.nd_value.specs.declared.item.ItemKind.TheVariants as item
use Rattle.nd_value.specs.Tree as tree
use Rattle.nd_grammar.specs.Entry.{gap}
use Rattle.nd_grammar.proofs.reader.Ranges.{drop_octets, take_octets}
use Rattle.ndr_code.specs.declared.instr.Instr.{Instr}
use Rattle.ndr_code.specs.declared.instr.Instr.TheVariants as op
use Rattle.ndr_code.specs.declared.lists.EnumList.{EnumList}
use Rattle.ndr_decoder_laws.specs.declared.first.First.{First}
use Rattle.ndr_decoder_laws.specs.declared.first.First.TheVariants as first
use Rattle.ndr_decoder_laws.specs.declared.first.Member.{Member}
use Rattle.ndr_decoder_laws.specs.steps.Steps.{State, goes, number_step, pointer_step, done_after, with_node, with_members, jumped, owing, new_cell}
use Rattle.ndr_code.specs.Fields.{prim_of, pointer_form, form_of, run_of, gap_of, is_end, field_with, form_run, field_by, field_called, field_of}
use Rattle.ndr_decoder_laws.specs.steps.StepItems.{gap_items, item_here, step_items}
use Rattle.ndr_decoder_laws.specs.runs.Reaching.{Reaches, begins, steps_to}
use Rattle.ndr_decoder_laws.proofs.runs.RowSteps.{length_left}
use Rattle.ndr_decoder_laws.proofs.runs.RecordSteps.{front_taken}
use Rattle.ndr_decoder_state.specs.Notes.{ticks}
use Rattle.ndr_code.specs.declared.fields.Form.{Form}
use Rattle.ndr_code.specs.declared.fields.Form.TheVariants as form
use Rattle.ndr_code.specs.declared.fields.Field.{Field}
use Rattle.ndr_code.specs.Lengths.{form_width, field_len}
use Rattle.ndr_decoder_fast.specs.Structs.{is_null, pointer_read, form_read, moved, at_address, field_read, within, IsInside, IsOver}
use Rattle.nd_lemmas.proofs.Lists.{none_of_none as none_at}
use Rattle.ndr_decoder_fast.proofs.Going.{ticks_on as ticks_after}
use Rattle.ndr_decoder_fast.proofs.StringSteps.{no_ticks}

-- ## What is at an address

-- what a form is read by
abbrev IsFormed : Option Instr → Form → Type 0
IsFormed i (form.Number p) = (of : TypeId) × ((i ≡ Some (op.Num of)) × (prim_of of.0 ≡ p))
IsFormed i (form.Pointer class to run) = (i ≡ Some (op.Pointer class to run)) × (class ≡ Full → ⊥)

pointer_formed : (class : Class) (to : TypeId) (run : ℕ) (f : Form) → pointer_form class to run ≡ Some f → IsFormed (Some (op.Pointer class to run)) f
pointer_formed Full to run f e = absurd (cc)
pointer_formed Ref to run (form.Pointer class to' run') e = (ap (λ (o : Option Form). Some (pointer_in o)) e, λ x. cc)
  where
    pointer_in : Option Form → Instr
    pointer_in (Some (form.Pointer class to run)) = op.Pointer class to run
    pointer_in o = op.Ret
pointer_formed Ref to run (form.Number p) e = absurd (cc)
pointer_formed Unique to run (form.Pointer class to' run') e = (ap (λ (o : Option Form). Some (pointer_in o)) e, λ x. cc)
  where
    pointer_in : Option Form → Instr
    pointer_in (Some (form.Pointer class to run)) = op.Pointer class to run
    pointer_in o = op.Ret
pointer_formed Unique to run (form.Number p) e = absurd (cc)

formed : (i : Option Instr) (f : Form) → form_of i ≡ Some f → IsFormed i f
formed (Some (op.Num of)) (form.Number p) e = (of, (refl, cc))
formed (Some (op.Num of)) (form.Pointer class to run) e = absurd (cc)
formed (Some (op.Pointer class to run)) f e = pointer_formed class to run f e
formed None f e = absurd (cc)
formed (Some i) f e = absurd (cc)

called : (code : List Instr) (i : Option Instr) (f : Field) → field_called code (run_of i) ≡ Some f
    → (run : ℕ) × ((i ≡ Some (op.Call run)) × (field_by code run (gap_of (slice_get code run)) ≡ Some f))
called code (Some (op.Call run)) f e = (run, (refl, e))
called code None f e = absurd (cc)
called code (Some i) f e = absurd (cc)

-- the run begins with a gap, or there is none
abbrev BeginsWith : List Instr → ℕ → Option Instr → Field → Type 0
BeginsWith code run i f = ((to : ℕ) × ((i ≡ Some (op.Align to)) × (form_run code (run + 1) to ≡ Some f))) ⊎ (form_run code run 1 ≡ Some f)

by_gap : (code : List Instr) (run : ℕ) (i : Option Instr) (f : Field) → field_by code run (gap_of i) ≡ Some f → BeginsWith code run i f
by_gap code run (Some (op.Align to)) f e = inl (to, (refl, e))
by_gap code run None f e = inr e
by_gap code run (Some i) f e = inr e

ends : (i : Option Instr) → is_end i ≡ true → i ≡ Some op.Ret
ends (Some op.Ret) e = refl
ends None e = absurd (cc)
ends (Some i) e = absurd (cc)

-- the parts of a run
with_parts : (to : ℕ) (b : Bool) (o : Option Form) (f : Field) → field_with to b o ≡ Some f → (b ≡ true) × ((o ≡ Some f.form) × (f.to ≡ to))
with_parts to true (Some x) f e = (refl, (ap (λ (o : Option Field). Some (form_in o)) e, ap to_in (sym e)))
  where
    form_in : Option Field → Form
    form_in (Some g) = g.form
    form_in None = x

    to_in : Option Field → ℕ
    to_in (Some g) = g.to
    to_in None = to
with_parts to true None f e = absurd (cc)
with_parts to false (Some x) f e = absurd (cc)
with_parts to false None f e = absurd (cc)

-- ## Octets

-- ## A pointer

-- what is kept of what a member is
abbrev first_read : Order → Form → List ℕ → First
first_read order (form.Number p) os = first.Number (value_of_octets order p os)
first_read order (form.Pointer class to run) os = first.Pointer

pointer_goes : (class : Class) (to : TypeId) (run v : ℕ) (pc at back : ℕ) (ms : List Member) (xs : List First) (t : State) (b : Bool) → (class ≡ Full → ⊥) → is_null class v ≡ b
    → pointer_step class to run v (within pc at back ms xs t) ≡ goes (within (pc + 1) (at + 4) back ms (xs ++ first.Pointer ∷ []) (pointer_read class to run b t))
pointer_goes Full to run v pc at back ms xs t b other e = absurd (other refl)
pointer_goes Ref to run v pc at back ms xs t true other e = absurd (cc)
pointer_goes Ref to run v pc at back ms xs t false other e = refl
pointer_goes Unique to run v pc at back ms xs t true other e =
    ap (λ (c : Bool). goes (done_after 4 (if c then owing Unique to run None (within pc at back ms xs t) else new_cell Unique to run (within pc at back ms xs t)))) e
pointer_goes Unique to run v pc at back ms xs t false other e =
    ap (λ (c : Bool). goes (done_after 4 (if c then owing Unique to run None (within pc at back ms xs t) else new_cell Unique to run (within pc at back ms xs t)))) e

-- ## Steps

module _ (values : List EnumList) (order : Order) (code : List Instr) (h : Home) (s0 : State) where
  abbrev Comes : List ℕ → List Item → State → Type 0
  Comes fetched noted s = Reaches values order code h s0 fetched noted s

  -- a number or a pointer: its item is counted
  record FormCame (back at : ℕ) (ms : List Member) (xs : List First) (fetched os : List ℕ) (noted : List Item) (s : State) : Type 0 where
    items : List Item
    counted : ticks items ≡ ticks noted + 1
    came : Comes (fetched ++ os) items (within back at back ms xs s)

  -- the end of the run after it
  ended : (pc at back : ℕ) (ms : List Member) (xs : List First) (t : State) (fetched os : List ℕ) (noted : List Item) (x : Item) → ticks_of x.kind ≡ 1
      → Comes (fetched ++ os) (noted ++ x ∷ []) (within pc at back ms xs t) → slice_get code pc ≡ Some op.Ret
      → FormCame back at ms xs fetched os noted t
  ended pc at back ms xs t fetched os noted x one r there =
      let sum : ticks (noted ++ x ∷ []) ≡ ticks noted + ticks (x ∷ []) = ticks_after noted (x ∷ []) in
      record {
        items = noted ++ x ∷ [];
        counted = omega (arith, sum, one);
        came = subst₃ Comes (append-nil (fetched ++ os)) (append-nil (noted ++ x ∷ [])) refl
            (steps_to (fetched ++ os) [] (noted ++ x ∷ []) (within pc at back ms xs t) (within back at back ms xs t) op.Ret r there refl tt refl);
      }

  form_comes : (pc at back : ℕ) (ms : List Member) (xs : List First) (t : State) (f : Form) (fetched os : List ℕ) (noted : List Item)
      → Comes fetched noted (within pc at back ms xs t) → IsFormed (slice_get code pc) f → slice_get code (pc + 1) ≡ Some op.Ret
      → AreOctets os → length os ≡ form_width f → at + form_width f ≤ STREAM_LIMIT
      → FormCame back (at + form_width f) ms (xs ++ first_read order f os ∷ []) fetched os noted (form_read order f os t)
  form_comes pc at back ms xs t (form.Number p) fetched os noted r (of, (there, is)) end octets size short =
      let s : State = within pc at back ms xs t in
      let n : State = within (pc + 1) (at + width p) back ms (xs ++ first.Number (value_of_octets order p os) ∷ []) (form_read order (form.Number p) os t) in
      let w_is : width p ≡ width (prim_of of.0) = ap width (sym is) in
      let e : number_step values order os (prim_of of.0) None s ≡ number_step values order os p None s = ap (λ q. number_step values order os q None s) is in
      let x : Item = item_here h at item.Num (width p) (value_of_octets order p os) (length t.nodes) in
      let same_items : noted ++ step_items order h os (op.Num of) s ≡ noted ++ x ∷ [] =
      ap (λ q. noted ++ item_here h at item.Num (width q) (value_of_octets order q os) (length t.nodes) ∷ []) is in
      let r1 : Comes (fetched ++ os) (noted ++ x ∷ []) n =
      subst₃ Comes refl same_items refl (steps_to fetched os noted s n (op.Num of) r there (size ∙ w_is, subst (λ k. at + k ≤ STREAM_LIMIT) w_is short) octets e) in
      ended (pc + 1) (at + width p) back ms (xs ++ first.Number (value_of_octets order p os) ∷ []) (form_read order (form.Number p) os t) fetched os noted x refl r1 end
  form_comes pc at back ms xs t (form.Pointer class to run) fetched os noted r (there, some) end octets size short =
      let s : State = within pc at back ms xs t in
      let v : ℕ = unsigned order os in
      let n : State = within (pc + 1) (at + 4) back ms (xs ++ first.Pointer ∷ []) (pointer_read class to run (is_null class v) t) in
      let x : Item = item_here h at item.Number 4 (pos v) (length t.nodes) in
      let r1 : Comes (fetched ++ os) (noted ++ x ∷ []) n =
      steps_to fetched os noted s n (op.Pointer class to run) r there (size, short) octets (pointer_goes class to run v pc at back ms xs t (is_null class v) some refl) in
      ended (pc + 1) (at + 4) back ms (xs ++ first.Pointer ∷ []) (pointer_read class to run (is_null class v) t) fetched os noted x refl r1 end

  -- the run of a member: its gap, and what it is
  run_comes : (run at back : ℕ) (ms : List Member) (xs : List First) (t : State) (f : Field) (fetched gs os : List ℕ) (noted : List Item)
      → Comes fetched noted (within run at back ms xs t) → BeginsWith code run (slice_get code run) f
      → AreOctets gs → AreOctets os → length gs ≡ gap at f.to → length os ≡ form_width f.form → at + gap at f.to + form_width f.form ≤ STREAM_LIMIT
      → FormCame back (at + gap at f.to + form_width f.form) ms (xs ++ first_read order f.form os ∷ []) fetched (gs ++ os) noted (form_read order f.form os t)
  run_comes run at back ms xs t f fetched gs os noted r (inr e) gap_octets octets gap_size size short =
      let parts = with_parts 1 (is_end (slice_get code (run + 1))) (form_of (slice_get code run)) f e in
      let none : gap at f.to ≡ 0 = let z : gap at 1 ≡ 0 = omega arith in ap (gap at) parts.1.1 ∙ z in
      let empty : gs ≡ [] = none_at gs (gap_size ∙ none) in
      let place : at ≡ at + gap at f.to = omega (arith, none) in
      let it = form_comes run at back ms xs t f.form fetched os noted r (formed (slice_get code run) f.form parts.1.0) (ends (slice_get code (run + 1)) parts.0) octets size
      (subst (λ k. k + form_width f.form ≤ STREAM_LIMIT) (sym place) short) in
      subst (λ k. FormCame back (k + form_width f.form) ms (xs ++ first_read order f.form os ∷ []) fetched (gs ++ os) noted (form_read order f.form os t)) place
      (subst (λ l. FormCame back (at + form_width f.form) ms (xs ++ first_read order f.form os ∷ []) fetched (l ++ os) noted (form_read order f.form os t)) (sym empty) it)
  run_comes run at back ms xs t f fetched gs os noted r (inl (to, (there, e))) gap_octets octets gap_size size short =
      let parts = with_parts to (is_end (slice_get code (run + 1 + 1))) (form_of (slice_get code (run + 1))) f e in
      let s : State = within run at back ms xs t in
      let n : State = within (run + 1) (at + gap at f.to) back ms xs t in
      let to_is : gap at f.to ≡ gap at to = ap (gap at) parts.1.1 in
      let passed : Comes (fetched ++ gs) (noted ++ gap_items h at gs) n =
      subst₃ Comes refl refl (ap (λ k. within (run + 1) (at + k) back ms xs t) gap_size)
      (steps_to fetched gs noted s (within (run + 1) (at + length gs) back ms xs t) (op.Align to) r there (gap_size ∙ to_is) gap_octets refl) in
      let it = form_comes (run + 1) (at + gap at f.to) back ms xs t f.form (fetched ++ gs) os (noted ++ gap_items h at gs) passed
      (formed (slice_get code (run + 1)) f.form parts.1.0) (ends (slice_get code (run + 1 + 1)) parts.0) octets size short in
      let sum : ticks (noted ++ gap_items h at gs) ≡ ticks noted + ticks (gap_items h at gs) = ticks_after noted (gap_items h at gs) in
      let none : ticks (gap_items h at gs) ≡ 0 = no_ticks h at gs in
      let one : ticks it.items ≡ ticks (noted ++ gap_items h at gs) + 1 = it.counted in
      record {
        items = it.items;
        counted = omega (arith, sum, none, one);
        came = subst₃ Comes (append_assoc fetched gs os) refl refl it.came;
      }

  -- a member: its call, and its run
  field_runs : (steps steps1 steps2 : ℕ) (fetched gs os : List ℕ) (t : State) (f : Field) → IsInside values order code h s0 steps fetched steps1 t → field_of code t.pc ≡ Some f
      → AreOctets gs → AreOctets os → length gs ≡ gap t.at f.to → length os ≡ form_width f.form → t.at + gap t.at f.to + form_width f.form ≤ STREAM_LIMIT
      → steps2 + length t.cells ≡ steps1 + 1 + length (form_read order f.form os t).cells
      → (n : ℕ) → n ≡ gap t.at f.to + form_width f.form → IsInside values order code h s0 steps (fetched ++ (gs ++ os)) steps2 (moved n (form_read order f.form os t))
  field_runs steps steps1 steps2 fetched gs os t f r e gap_octets octets gap_size size short more n n_is =
      let one = called code (slice_get code t.pc) f e in
      let m : Member = record { node = length t.nodes; pending = length t.fresh } in
      let ms : List Member = t.members ++ r.members in
      let xs : List First = t.firsts ++ r.firsts in
      let x : First = first_read order f.form os in
      let u : State = form_read order f.form os t in
      let went : Comes fetched r.noted (within one.0 t.at (t.pc + 1) (ms ++ m ∷ []) xs t) =
      subst₃ Comes (append-nil fetched) (append-nil r.noted) refl
      (steps_to fetched [] r.noted (within t.pc t.at r.back ms xs t) (within one.0 t.at (t.pc + 1) (ms ++ m ∷ []) xs t) (op.Call one.0) r.reached one.1.0 refl tt refl) in
      let it = run_comes one.0 t.at (t.pc + 1) (ms ++ m ∷ []) xs t f fetched gs os r.noted went (by_gap code one.0 (slice_get code one.0) f one.1.1) gap_octets octets gap_size size short in
      let at_is : t.at + gap t.at f.to + form_width f.form ≡ t.at + n = omega (arith, n_is) in
      let counted : steps1 + length s0.cells ≡ steps + ticks r.noted + length t.cells = r.counted in
      let ticked : ticks it.items ≡ ticks r.noted + 1 = it.counted in
      record {
        noted = it.items;
        back = t.pc + 1;
        members = r.members ++ m ∷ [];
        firsts = r.firsts ++ x ∷ [];
        reached = subst₃ Comes refl refl
            (ap₂ (λ k l. within (t.pc + 1) (t.at + gap t.at f.to + form_width f.form) (t.pc + 1) k l u) (append_assoc t.members r.members (m ∷ [])) (append_assoc t.firsts r.firsts (x ∷ []))
            ∙ ap (λ k. within (t.pc + 1) k (t.pc + 1) (t.members ++ (r.members ++ m ∷ [])) (t.firsts ++ (r.firsts ++ x ∷ [])) u) at_is) it.came;
        counted = omega (arith, counted, ticked, more);
      }

  -- a struct begins
  pub struct_begun : (steps n : ℕ) → slice_get code s0.pc ≡ Some (op.Record n)
      → IsInside values order code h s0 steps [] steps (at_address (s0.pc + 1) (with_node (tree.Rec, n) None s0))
  struct_begun steps n there =
      let t : State = at_address (s0.pc + 1) (with_node (tree.Rec, n) None s0) in
      record {
        noted = [];
        back = 0;
        members = [];
        firsts = [];
        reached = subst₃ Comes refl refl (ap₂ (λ k l. within t.pc t.at 0 k l t) (sym (append-nil t.members)) (sym (append-nil t.firsts)))
            (steps_to [] [] [] s0 (within t.pc t.at 0 t.members t.firsts t) (op.Record n) begins there refl tt refl);
        counted = omega arith;
      }

  -- a member, by all its octets
  pub field_came : (steps steps1 steps2 : ℕ) (fetched os : List ℕ) (t : State) (f : Field) → IsInside values order code h s0 steps fetched steps1 t → field_of code t.pc ≡ Some f
      → AreOctets os → length os ≡ field_len t.at f → t.at + length os ≤ STREAM_LIMIT
      → steps2 + length t.cells ≡ steps1 + 1 + length (field_read order f os t).cells
      → IsInside values order code h s0 steps (fetched ++ os) steps2 (field_read order f os t)
  field_came steps steps1 steps2 fetched os t f r e octets size short more =
      let g : ℕ = gap t.at f.to in
      let gs : List ℕ = take g os in
      let here : List ℕ = drop g os in
      let sum : length os ≡ g + form_width f.form = size in
      let gap_size : length gs ≡ g = length_taken g os (omega (arith, sum)) in
      let left_size : g + length here ≡ length os = length_left g os (omega (arith, sum)) in
      subst (λ l. IsInside values order code h s0 steps (fetched ++ l) steps2 (field_read order f os t)) (taken_and_left g os)
      (field_runs steps steps1 steps2 fetched gs here t f r e (take_octets g os octets) (drop_octets g os octets) gap_size (omega (arith, left_size, sum)) (omega (arith, sum, short)) more
      (length os) sum)

  -- a struct ends
  pub struct_ended : (steps steps1 : ℕ) (fetched : List ℕ) (t : State) → IsInside values order code h s0 steps fetched steps1 t → slice_get code t.pc ≡ Some op.Close
      → length t.firsts ≡ length t.members → IsOver values order code h s0 steps fetched steps1 (jumped (t.pc + 1) t)
  struct_ended steps steps1 fetched t r there level =
      record {
        noted = r.noted;
        reached = subst₃ Comes (append-nil fetched) (append-nil r.noted)
            (ap₂ (λ k l. jumped (t.pc + 1) (with_members k l t)) (front_taken (length t.members) t.members r.members refl) (front_taken (length t.members) t.firsts r.firsts level))
            (steps_to fetched [] r.noted (within t.pc t.at r.back (t.members ++ r.members) (t.firsts ++ r.firsts) t)
            (jumped (t.pc + 1) (with_members (take (length t.members) (t.members ++ r.members)) (take (length t.members) (t.firsts ++ r.firsts)) t)) op.Close r.reached there refl tt refl);
        counted = r.counted;
      }
