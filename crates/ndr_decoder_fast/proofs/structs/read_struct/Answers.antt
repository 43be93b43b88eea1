use Rattle.std.proofs.Common.{◌≡◌, ◌<◌, ◌≤◌, ◌^◌, ◌+◌, ◌-◌, ◌∙◌, arith, ap, sym, length}
use Rattle.nd_grammar.specs.Entry.{gap}
use Rattle.ndr_code.specs.declared.instr.Instr.TheVariants as op
use Rattle.ndr_decoder_laws.specs.steps.Steps.{State}
use Rattle.ndr_decoder_state.specs.Seen.{state_of}
use Rattle.ndr_code.specs.Lengths.{field_len, form_width}
use Rattle.ndr_decoder_fast.specs.Structs.{at_address}
use Rattle.ndr_decoder_fast.proofs.StructReading.{field_fits, field_on, field_stopped, memory_stops, pc_here, reading_begun, reading_over, safe_first, some_field, stopped_first}
use Rattle.ndr_decoder_fast.proofs.ElementsTaken.{address_fits as address_short}
use Rattle.ndr_decoder_fast.proofs.structs.read_struct.Goals as goal

pub add_node-requires-clause-few : goal.add_node-requires-clause-few
add_node-requires-clause-few g c =
    let m = c.args.machine.now in
    let few : length m.builder.nodes + 8192 < 2 ^ 32 = (safe_first c.requires.safe).few_nodes in
    let counted : m.count ≡ length m.builder.nodes = m.counted in
    omega (arith, few, counted)

pub returns-in_err-add_node-clause-read : goal.returns-in_err-add_node-clause-read
returns-in_err-add_node-clause-read g c =
    memory_stops c.args.values.now c.args.order c.args.code.now c.args.machine.now.home (state_of c.args.machine.now) (g.L.Ledger.number c.args.steps.now) c.args.octets.now
    (g.L.Ledger.number c.args.steps.now) (state_of c.add_node.new.self) c.from_residual.result c.in_err-add_node.field-0.0 c.from_residual.ensures.1
    (stopped_first c.args.values.now c.args.order c.args.code.now c.args.machine.now.home (state_of c.args.machine.now) (g.L.Ledger.number c.args.steps.now) c.args.octets.now)

pub overflow_add-machine : goal.overflow_add-machine
overflow_add-machine g c =
    let m = c.args.machine.now in
    let same : c.add_node.new.self.pc ≡ m.pc = ap (λ (s : State). s.pc) c.in_ok-add_node.ensures.ok in
    let below : m.pc < 2 ^ 32 = address_short c.args.code.now m.pc (op.Record c.args.members) c.requires.here c.requires.short in
    omega (arith, same, below)

pub loop-left-init : goal.loop-left-init
loop-left-init g c =
    let m = c.args.machine.now in
    let same : c.add_node.new.self.pc ≡ m.pc = ap (λ (s : State). s.pc) c.in_ok-add_node.ensures.ok in (
      reading_begun c.args.values.now c.args.order c.args.code.now m.home (state_of m) (g.L.Ledger.number c.args.steps.now) c.args.octets.now c.args.members
          (at_address (c.add_node.new.self.pc + 1) (state_of c.add_node.new.self)) c.requires.here c.requires.fields c.requires.within c.requires.level
          (ap (λ (s : State). at_address (s.pc + 1) s) c.in_ok-add_node.ensures.ok),
      c.in_ok-add_node.ensures.outside,
    )

pub unreachable-requires : goal.unreachable-requires
unreachable-requires g c =
    let l = c.loop-left in
    some_field c.args.values.now c.args.order c.args.code.now c.args.machine.now.home (state_of c.args.machine.now) (g.L.Ledger.number c.args.steps.now) c.args.octets.now
    l.from l.left (g.L.Ledger.number l.steps) (state_of l.machine) l.invariant.0 c.loop-left-test.true (sym c.field.ensures ∙ c.in_default.is)

pub slice_bounds-take_field-end : goal.slice_bounds-take_field-end
slice_bounds-take_field-end g c =
    let l = c.loop-left in
    let f = c.in-Some.field in
    let a_gap : c.gap_to-gap.result ≡ gap l.machine.at f.to = c.gap_to-gap.ensures.is in
    let wide : c.form_width.result ≡ form_width f.form = c.form_width.ensures.is in
    let fits : l.from + field_len l.machine.at f ≤ length c.args.octets.now =
    (field_fits c.args.values.now c.args.order c.args.code.now c.args.machine.now.home (state_of c.args.machine.now) (g.L.Ledger.number c.args.steps.now) c.args.octets.now
    l.from l.left (g.L.Ledger.number l.steps) (state_of l.machine) f l.invariant.0 c.loop-left-test.true (sym c.field.ensures ∙ c.in-Some.is)).0 in
    let ends : l.from + (c.gap_to-gap.result + c.form_width.result) ≤ length c.args.octets.now = omega (arith, fits, a_gap, wide) in
    ends

pub take_field-requires-clause-code : goal.take_field-requires-clause-code
take_field-requires-clause-code g c =
    let l = c.loop-left in
    pc_here c.args.values.now c.args.order c.args.code.now c.args.machine.now.home (state_of c.args.machine.now) (g.L.Ledger.number c.args.steps.now) c.args.octets.now
    l.from l.left (g.L.Ledger.number l.steps) (state_of l.machine) l.invariant.0 c.requires.short

pub returns-in_err-take_field-clause-read : goal.returns-in_err-take_field-clause-read
returns-in_err-take_field-clause-read g c =
    let l = c.loop-left in
    let f = c.in-Some.field in
    let a_gap : c.gap_to-gap.result ≡ gap l.machine.at f.to = c.gap_to-gap.ensures.is in
    let wide : c.form_width.result ≡ form_width f.form = c.form_width.ensures.is in
    let ends : l.from + (c.gap_to-gap.result + c.form_width.result) ≡ l.from + field_len l.machine.at f = omega (arith, a_gap, wide) in
    memory_stops c.args.values.now c.args.order c.args.code.now c.args.machine.now.home (state_of c.args.machine.now) (g.L.Ledger.number c.args.steps.now) c.args.octets.now
    (g.L.Ledger.number c.take_field.new.steps) (state_of c.take_field.new.machine) c.from_residual-in_err-take_field.result c.in_err-take_field.field-0.0
    c.from_residual-in_err-take_field.ensures.1
    (field_stopped c.args.values.now c.args.order c.args.code.now c.args.machine.now.home (state_of c.args.machine.now) (g.L.Ledger.number c.args.steps.now) c.args.octets.now
    l.from (l.from + (c.gap_to-gap.result + c.form_width.result)) l.left (g.L.Ledger.number l.steps) (g.L.Ledger.number c.take_field.new.steps) (state_of l.machine) f l.invariant.0
    c.loop-left-test.true (sym c.field.ensures ∙ c.in-Some.is) c.requires.octets ends c.in_err-take_field.ensures.idle)

pub loop-left-preserved : goal.loop-left-preserved
loop-left-preserved g c =
    let l = c.loop-left in
    let f = c.in-Some.field in
    let a_gap : c.gap_to-gap.result ≡ gap l.machine.at f.to = c.gap_to-gap.ensures.is in
    let wide : c.form_width.result ≡ form_width f.form = c.form_width.ensures.is in
    let ends : l.from + (c.gap_to-gap.result + c.form_width.result) ≡ l.from + field_len l.machine.at f = omega (arith, a_gap, wide) in (
      field_on c.args.values.now c.args.order c.args.code.now c.args.machine.now.home (state_of c.args.machine.now) (g.L.Ledger.number c.args.steps.now) c.args.octets.now
          l.from (l.from + (c.gap_to-gap.result + c.form_width.result)) l.left (g.L.Ledger.number l.steps) (g.L.Ledger.number c.take_field.new.steps) (state_of l.machine)
          (state_of c.take_field.new.machine) f l.invariant.0 c.loop-left-test.true (sym c.field.ensures ∙ c.in-Some.is) c.requires.octets ends
          c.in_ok-take_field.ensures.ok c.in_ok-take_field.ensures.counted,
      c.in_ok-take_field.ensures.outside ∙ l.invariant.1,
    )

pub skip-requires : goal.skip-requires
skip-requires g c =
    let l = c.loop-left in
    record {
      code =
          pc_here c.args.values.now c.args.order c.args.code.now c.args.machine.now.home (state_of c.args.machine.now) (g.L.Ledger.number c.args.steps.now) c.args.octets.now
          l.from l.left (g.L.Ledger.number l.steps) (state_of l.machine) l.invariant.0 c.requires.short;
    }

pub returns-clause-read : goal.returns-clause-read
returns-clause-read g c =
    let l = c.loop-left in
    let none : l.left ≡ 0 = omega (arith, c.loop-left-test.false) in
    reading_over c.args.values.now c.args.order c.args.code.now c.args.machine.now.home (state_of c.args.machine.now) (g.L.Ledger.number c.args.steps.now) c.args.octets.now
    l.from l.left (g.L.Ledger.number l.steps) (state_of l.machine) (state_of c.skip.new.self) l.invariant.0 none c.skip.ensures.is
