-- A gap, a number or a pointer by itself, by its step.
-- `os` are its octets, `v` the number of a pointer; `s0` is the state before, `s1` the one after, `k0` and `k1` are the counts of steps.
use Rattle.std.proofs.Common.{◌≡◌, ◌≤◌, ◌<◌, ◌^◌, ℕ, ◌+◌, Bool, true, false, List, [], ◌∷◌, ◌++◌, length, Option, Some, None, Result, Ok, Err, IsErrAnd, refl, sym, ap, ap₂, ◌∙◌, subst, arith}
use Rattle.std.proofs.lemmas.List.{length-map, append-nil}
use Rattle.std.specs.Prelude.{eqb, if◌then◌else◌, slice_get}
use Rattle.std.proofs.KnownBytes.{Consumes-nil}
use Rattle.std.specs.Io.KnownBytes.{Consumes}
use Rattle.nd_base.specs.declared.octets.Memory.{Memory}
use Rattle.nd_base.specs.declared.octets.Order.{Order}
use Rattle.nd_base.specs.declared.TheConstants.{STREAM_LIMIT}
use Rattle.nd_types.specs.declared.types.Class.{Class}
use Rattle.nd_types.specs.declared.types.Class.TheVariants.{Ref, Unique, Full}
use Rattle.nd_types.specs.declared.types.TypeId.{TypeId}
use Rattle.nd_types.specs.Number.{unsigned, value_of_octets}
use Rattle.nd_types.specs.Table.{width}
use Rattle.nd_value.specs.declared.item.Home.{Home}
use Rattle.nd_value.specs.declared.item.Item.{Item}
use Rattle.nd_value.specs.Tree as tree
use Rattle.nd_grammar.specs.Entry.{gap}
use Rattle.ndr_code.specs.Fields.{prim_of}
use Rattle.ndr_code.specs.declared.fields.Form.TheVariants as form
use Rattle.ndr_code.specs.declared.instr.Instr.{Instr}
use Rattle.ndr_code.specs.declared.instr.Instr.TheVariants as op
use Rattle.ndr_code.specs.declared.lists.EnumList.{EnumList}
use Rattle.ndr_decoder_laws.specs.declared.first.First.{First}
use Rattle.ndr_decoder_laws.specs.declared.first.First.TheVariants as first
use Rattle.ndr_decoder_laws.specs.declared.frame.Frame.{Frame}
use Rattle.ndr_decoder_laws.specs.declared.frame.Frame.TheVariants as frame
use Rattle.ndr_decoder_laws.specs.steps.StepItems.{gap_items, step_items}
use Rattle.ndr_decoder_laws.specs.steps.Steps.{State, goes, done_after, with_node, own_by, firsts_by, owing, new_cell, pointer_step}
use Rattle.ndr_decoder_laws.specs.runs.Reaching.{IsSafe, begins, steps_to}
use Rattle.ndr_decoder_state.specs.declared.machine.Machine.{Machine}
use Rattle.ndr_decoder_state.specs.Seen.{state_of}
use Rattle.ndr_decoder_state.specs.Notes.{ticks}
use Rattle.ndr_decoder_fast.specs.Leaps.{TakesStep}
use Rattle.ndr_decoder_fast.specs.Strings.{HasCome}
use Rattle.ndr_decoder_fast.specs.Structs.{form_read, is_null, pointer_read}
use Rattle.ndr_decoder_fast.proofs.Going.{source, one_step, given_up}
use Rattle.ndr_decoder_fast.proofs.StringSteps.{no_ticks}

-- ## A pointer that is a home

-- what is kept of the first nodes of a home and of members
abbrev with_kept : Option First → List First → State → State
with_kept own firsts s = record {
  pc = s.pc;
  phase = s.phase;
  at = s.at;
  max = s.max;
  max_at = s.max_at;
  tag = s.tag;
  carrier = s.carrier;
  top = s.top;
  stack = s.stack;
  nodes = s.nodes;
  own = own;
  members = s.members;
  firsts = firsts;
  fresh = s.fresh;
  cells = s.cells;
  numbers = s.numbers;
}

-- a pointer is the first node of a home
abbrev pub with_pointer : State → State
with_pointer s = with_kept (Some first.Pointer) s.firsts s

module _ (to : TypeId) (run : ℕ) (s : State) (home : s.top ≡ frame.Home) where
  -- at a home nothing is kept of members
  kept_so : (q : State)
      → goes (done_after 4 (with_kept (own_by s.top first.Pointer s.own) (firsts_by s.top first.Pointer s.firsts) q)) ≡ goes (done_after 4 (with_kept (Some first.Pointer) s.firsts q))
  kept_so q =
      ap₂ (λ (o : Option First) (l : List First). goes (done_after 4 (with_kept o l q))) (ap (λ (f : Frame). own_by f first.Pointer s.own) home)
      (ap (λ (f : Frame). firsts_by f first.Pointer s.firsts) home)

  unique_goes : (b : Bool) → goes (done_after 4 (if b then owing Unique to run None s else new_cell Unique to run s)) ≡ goes (done_after 4 (with_pointer (pointer_read Unique to run b s)))
  unique_goes true = kept_so (pointer_read Unique to run true s)
  unique_goes false = kept_so (pointer_read Unique to run false s)

  pub pointer_goes : (class : Class) (v : ℕ) → (class ≡ Full → ⊥) → pointer_step class to run v s ≡ goes (done_after 4 (with_pointer (pointer_read class to run (is_null class v) s)))
  pointer_goes Full v other = absurd (other refl)
  pointer_goes Ref v other = kept_so (pointer_read Ref to run false s)
  pointer_goes Unique v other = unique_goes (eqb v 0)

-- ## What comes of a step

module _ (order : Order) (l0 l1 : Option (List ℕ)) (e : Bool) (f0 f1 k0 k1 : ℕ) (s0 s1 : State) where
  pub nothing_taken : (i : Instr) → s1 ≡ s0 → l1 ≡ l0 → k1 ≡ k0 → TakesStep order i s0 (source l0 l1 e f0 f1) k0 k1 s1 (Ok false)
  nothing_taken i same left idle values code h there = record { state = same; left = left; counted = idle }

  -- memory was refused before anything was counted
  pub step_stopped : (i : Instr) (os : List ℕ) → HasCome l0 l1 os → k1 ≡ k0 → (m : Memory) (r : Result Bool Memory) → IsErrAnd r (λ y. y ≡ m) → TakesStep order i s0 (source l0 l1 e f0 f1) k0 k1 s1 r
  step_stopped i os came idle m (Ok b) is values code h there = absurd is
  step_stopped i os came idle m (Err y) is values code h there = given_up values order code h l0 l1 e f0 f1 k0 k1 s0 s1 os came idle

  pub gap_taken : (to : ℕ) (os : List ℕ) → HasCome l0 l1 os → length os ≡ gap s0.at to → s1 ≡ done_after (length os) s0 → k1 ≡ k0
      → TakesStep order (op.Align to) s0 (source l0 l1 e f0 f1) k0 k1 s1 (Ok true)
  gap_taken to os came size is idle values code h there =
      let none : ticks (gap_items h s0.at os) ≡ 0 = no_ticks h s0.at os in
      let cells : length s1.cells ≡ length s0.cells = ap (λ (s : State). length s.cells) is in
      one_step values order code h l0 l1 e f0 f1 k0 k1 s0 s1 (op.Align to) os there came size (ap goes (sym is)) (omega (arith, none, cells, idle))

  pub number_taken : (of : TypeId) (os : List ℕ) → HasCome l0 l1 os → length os ≡ width (prim_of of.0) → s0.at + length os ≤ STREAM_LIMIT
      → s1 ≡ done_after (width (prim_of of.0)) (with_node (tree.Num (value_of_octets order (prim_of of.0) os), 0) None s0) → k1 ≡ k0 + 1
      → TakesStep order (op.Num of) s0 (source l0 l1 e f0 f1) k0 k1 s1 (Ok true)
  number_taken of os came size fits is more values code h there =
      let one : ticks (step_items order h os (op.Num of) s0) ≡ 1 = refl in
      let cells : length s1.cells ≡ length s0.cells = ap (λ (s : State). length s.cells) is in
      one_step values order code h l0 l1 e f0 f1 k0 k1 s0 s1 (op.Num of) os there came (size, omega (arith, size, fits)) (ap goes (sym is)) (omega (arith, one, cells, more))

  module _ (class : Class) (to : TypeId) (run : ℕ) (os : List ℕ) (came : HasCome l0 l1 os) (size : length os ≡ 4) (fits : s0.at + 4 ≤ STREAM_LIMIT) (home : s0.top ≡ frame.Home)
      (other : class ≡ Full → ⊥) where
    abbrev read : State
    read = form_read order (form.Pointer class to run) os s0

    pub pointer_taken : s1 ≡ done_after 4 (with_pointer read) → k1 + length s0.cells ≡ k0 + 1 + length s1.cells → TakesStep order (op.Pointer class to run) s0 (source l0 l1 e f0 f1) k0 k1 s1 (Ok true)
    pointer_taken is counted values code h there =
        one_step values order code h l0 l1 e f0 f1 k0 k1 s0 s1 (op.Pointer class to run) os there came (size, fits)
        (pointer_goes to run s0 home class (unsigned order os) other ∙ ap goes (sym is)) counted

    -- memory was refused after a cell was counted at most
    pub pointer_stopped : k1 + length s0.cells ≤ k0 + length read.cells → (m : Memory) (r : Result Bool Memory) → IsErrAnd r (λ y. y ≡ m)
        → TakesStep order (op.Pointer class to run) s0 (source l0 l1 e f0 f1) k0 k1 s1 r
    pointer_stopped counted m (Ok b) is values code h there = absurd is
    pointer_stopped counted m (Err y) is values code h there =
        record {
          fetched = os;
          noted = step_items order h os (op.Pointer class to run) s0;
          s = done_after 4 (with_pointer read);
          reached = steps_to [] os [] s0 (done_after 4 (with_pointer read)) (op.Pointer class to run) begins there (size, fits) came.octets
              (pointer_goes to run s0 home class (unsigned order os) other);
          os = [];
          octets = tt;
          left = subst (Consumes l0 l1) (sym (append-nil os)) came.taken;
          counted = omega (arith, counted);
        }

-- ## What may be taken for granted

module _ (code : List Instr) (m : Machine) (safe : IsSafe code (state_of m)) where
  pub few_nodes : m.count + 1 < 2 ^ 32
  few_nodes =
      let few : length m.builder.nodes + 8192 < 2 ^ 32 = safe.few_nodes in
      let counted : m.count ≡ length m.builder.nodes = m.counted in
      omega (arith, few, counted)

  pub few_cells : m.cells + 1 < 2 ^ 32
  few_cells =
      let few : length (state_of m).cells + 1 < 2 ^ 32 = safe.few_cells in
      let numbered : m.cells ≡ length m.builder.graph.cells = m.numbered in
      let sizes : length (state_of m).cells ≡ length m.builder.graph.cells = length-map m.builder.graph.cells (λ c. c.of) in
      omega (arith, few, numbered, sizes)
