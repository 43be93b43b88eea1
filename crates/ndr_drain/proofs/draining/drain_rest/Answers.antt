use Rattle.std.proofs.Common.{◌∙◌, ap}
use Rattle.nd_lemmas.proofs.Lists.{item_at}
use Rattle.ndr_drain_reader.specs.Seen.{intake_seen}
use Rattle.ndr_drain.proofs.draining.drain_rest.Goals as goal

pub returns-in-Ok-clause-read : goal.returns-in-Ok-clause-read
returns-in-Ok-clause-read g c o there = record {
  now = intake_seen c.drain_pipes.new.intake;
  way = c.in-Ok.ensures.passed o there;
  none_left = c.in-Ok.ensures.none_left;
  kept_is = c.finish-decoded.ensures.graph;
  taken_is = c.finish-decoded.ensures.taken;
}

pub returns-in-Ok-clause-of : goal.returns-in-Ok-clause-of
returns-in-Ok-clause-of g c =
    let first = intake_seen c.args.intake in
    let (o, there) = item_at first.interface.operations first.op c.requires.ready.known in
    let u = c.in-Ok.ensures.passed o there in
    (c.finish-decoded.ensures.of.0 ∙ ap (λ i. i.op) u.is, c.finish-decoded.ensures.of.1 ∙ ap (λ i. i.side) u.is, c.finish-decoded.ensures.of.2 ∙ ap (λ i. i.interface) u.is)

pub returns-in-Ok-clause-beside : goal.returns-in-Ok-clause-beside
returns-in-Ok-clause-beside g c =
    let first = intake_seen c.args.intake in
    let (o, there) = item_at first.interface.operations first.op c.requires.ready.known in
    let u = c.in-Ok.ensures.passed o there in
    c.finish-decoded.ensures.beside ∙ ap (λ i. i.given) u.is
