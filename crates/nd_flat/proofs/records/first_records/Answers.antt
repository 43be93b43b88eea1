use Rattle.std.proofs.Common.{ap₂, sym, subst, ◌+◌, ◌-◌, ◌*◌, ◌≤◌, length}
use Rattle.nd_flat.specs.declared.records.KeptRecords.{KeptRecords}
use Rattle.nd_flat.proofs.RecordLaws.{some_taken, some_wide}
use Rattle.nd_flat.proofs.records.first_records.Goals as goal

pub returns-clause-whole : goal.returns-clause-whole
returns-clause-whole c =
    let k : KeptRecords = c.args.records in
    let os = c.args.octets.now in
    let e = ap₂ (λ s z. k.from + ((c.args.some - 1) * s + z)) c.stride-stride.ensures.stride c.end-end.ensures.end in
    record {
      members = c.requires.whole;
      octets = some_wide os k c.args.some (k.from + ((c.args.some - 1) * c.stride-stride.result + c.end-end.result)) c.requires.some e (subst (λ t. t ≤ length os) (sym e) c.requires.there);
    }

pub returns-clause-nodes : goal.returns-clause-nodes
returns-clause-nodes c =
    let k : KeptRecords = c.args.records in
    let os = c.args.octets.now in
    let e = ap₂ (λ s z. k.from + ((c.args.some - 1) * s + z)) c.stride-stride.ensures.stride c.end-end.ensures.end in
    some_taken os k c.args.some (k.from + ((c.args.some - 1) * c.stride-stride.result + c.end-end.result)) c.requires.some e (subst (λ t. t ≤ length os) (sym e) c.requires.there)
