use Rattle.nd_base.specs.Over.{source_over}
use Rattle.ndr_code.specs.declared.instr.Instr.TheVariants as op
use Rattle.nd_grammar.specs.decoded.Verdict.{decoding_seen}
use Rattle.ndr_decode.proofs.RootForms.{at_it, no_other, reads_it}
use Rattle.ndr_decode.proofs.roots.read_root.Goals as goal

pub read_direct-requires : goal.read_direct-requires
read_direct-requires g c =
    let i = op.Direct c.in-Direct.to c.in-Direct.run' in
    record { next = at_it c.args.plan.now c.args.order c.as_slice.result.now c.args.at c.as_slice.ensures c.args.stream.now i c.in-Direct.is c.requires.next }

pub read_placed-requires : goal.read_placed-requires
read_placed-requires g c =
    let i = op.Call c.in-Call.run' in
    record { next = at_it c.args.plan.now c.args.order c.as_slice.result.now c.args.at c.as_slice.ensures c.args.stream.now i c.in-Call.is c.requires.next }

pub unreachable-requires : goal.unreachable-requires
unreachable-requires g c =
    no_other c.args.plan.now c.args.order c.as_slice.result.now c.args.at c.as_slice.ensures c.args.stream.now c.requires.next c.in_default.not-Direct c.in_default.not-Call

pub returns-in-Direct-clause-reads : goal.returns-in-Direct-clause-reads
returns-in-Direct-clause-reads g c =
    let source = source_over g.S.Source.seen c.args.source.now c.read_direct.new.source in
    let t = decoding_seen c.args.items.now c.read_direct.new.items (g.L.Ledger.number c.args.steps.now) (g.L.Ledger.number c.read_direct.new.steps) in
    reads_it c.args.plan.now c.args.order c.as_slice.result.now c.args.at c.as_slice.ensures c.args.stream.now c.read_direct.new.stream source t c.read_direct.result
    (op.Direct c.in-Direct.to c.in-Direct.run') c.in-Direct.is c.read_direct.ensures.reads

pub returns-in-Call-clause-reads : goal.returns-in-Call-clause-reads
returns-in-Call-clause-reads g c =
    let source = source_over g.S.Source.seen c.args.source.now c.read_placed.new.source in
    let t = decoding_seen c.args.items.now c.read_placed.new.items (g.L.Ledger.number c.args.steps.now) (g.L.Ledger.number c.read_placed.new.steps) in
    reads_it c.args.plan.now c.args.order c.as_slice.result.now c.args.at c.as_slice.ensures c.args.stream.now c.read_placed.new.stream source t c.read_placed.result
    (op.Call c.in-Call.run') c.in-Call.is c.read_placed.ensures.reads
