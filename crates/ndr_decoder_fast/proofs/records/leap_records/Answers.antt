use Rattle.std.proofs.Common.{◌≡◌, [], length, true, sym, ap, ◌∙◌, subst, arith, rules}
use Rattle.std.specs.Io.KnownBytes.{Consumes}
use Rattle.nd_base.specs.Over.{source_over}
use Rattle.nd_types.specs.Number.{AreOctets}
use Rattle.nd_flat.specs.Records.{members_of}
use Rattle.ndr_code.specs.declared.instr.Instr.TheVariants as op
use Rattle.ndr_decoder_laws.specs.runs.Reaching.{begins}
use Rattle.ndr_decoder_state.specs.Seen.{state_of}
use Rattle.ndr_decoder_fast.proofs.ElementsTaken.{address_fits, count_fits, elements_leapt, given_up}
use Rattle.ndr_decoder_fast.proofs.Slots.{members_count}
use Rattle.ndr_decoder_fast.proofs.records.leap_records.Goals as goal

pub read_elements-requires-clause-code : goal.read_elements-requires-clause-code
read_elements-requires-clause-code g c = address_fits c.args.code.now c.args.machine.now.pc (op.Record c.args.members) c.requires.here c.requires.short

pub read_elements-requires-clause-few : goal.read_elements-requires-clause-few
read_elements-requires-clause-few g c =
    let m = c.args.machine.now in
    let e = c.in-Some.elements in
    count_fits c.args.code.now m (members_of e.members) e.count e.len e.members.len (c.requires.safe [] [] (state_of m) begins) c.in-Some.ensures.elements
    (members_count e.members c.in-Some.ensures.whole)

pub returns-in_err-read_elements-clause-leaps : goal.returns-in_err-read_elements-clause-leaps
returns-in_err-read_elements-clause-leaps g c =
    let m = c.args.machine.now in
    let m1 = c.read_elements.new.machine in
    let source = source_over g.S.Source.seen c.args.source.now c.at_hand.new.source in
    let came : c.at_hand.result ≡ true = search rules in
    given_up c.args.values.now c.args.order c.args.code.now m.home (state_of m) (state_of m1) source c.at_hand.new.self (g.L.Ledger.number c.args.steps.now)
    (g.L.Ledger.number c.read_elements.new.steps) c.from_residual.result c.in_err-read_elements.field-0.0 c.from_residual.ensures.1
    c.in_err-read_elements.ensures.memory (subst AreOctets c.octets.ensures c.are_octets.ensures) (c.at_hand.ensures.octets came)
    (let same = ap g.L.Ledger.number c.in_err-read_elements.ensures.idle in omega (arith, same))

pub returns-clause-leaps : goal.returns-clause-leaps
returns-clause-leaps g c =
    let m = c.args.machine.now in
    let e = c.in-Some.elements in
    let os = c.octets-2.result.now in
    let source = source_over g.S.Source.seen c.args.source.now c.at_hand.new.source in
    let came : c.at_hand.result ≡ true = search rules in
    let octets : AreOctets c.at_hand.new.self = subst AreOctets c.octets.ensures c.are_octets.ensures in
    elements_leapt c.args.values.now c.args.order c.args.code.now m.home (state_of m) (members_of e.members) e.count e.len os source (state_of c.read_elements.new.machine) e.members.len
    (g.L.Ledger.number c.args.steps.now) (g.L.Ledger.number c.read_elements.new.steps) c.in-Some.ensures.elements (subst AreOctets (sym c.octets-2.ensures) octets)
    (ap length c.octets-2.ensures ∙ c.at_hand.ensures.all came) (subst (Consumes source.left source.left_now) (sym c.octets-2.ensures) (c.at_hand.ensures.octets came))
    (members_count e.members c.in-Some.ensures.whole) c.in_ok-read_elements.ensures.does c.in_ok-read_elements.ensures.ticks
