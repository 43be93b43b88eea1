use Rattle.std.proofs.Common.{◌∙◌, ◌+◌, length, ap}
use Rattle.rpc_side.proofs.Keeping.{made_of, grown_now}
use Rattle.rpc_side.proofs.calls.OpenCalls.grow.Goals as goal

pub returns-in-Ok-clause-grown : goal.returns-in-Ok-clause-grown
returns-in-Ok-clause-grown c = λ k keeps.
    grown_now c.args.self.now c.swap-held.new.self
    (record {
      alloc = c.swap.new.self.alloc;
      entries = c.swap.new.self.entries;
      octets = c.swap.new.self.octets + length c.as_slice-count.result.now;
    })
    k c.args.call c.args.pdu c.swap-held.result c.empty.result (made_of c.push.new.self (c.swap-held.result.octets + length c.as_slice-count.result.now))
    c.swap-held.ensures.was c.swap-held.ensures.updates.0 c.swap.ensures.updates.0 c.swap-held.ensures.count c.swap.ensures.count c.in-Ok.ensures.pushed
    (ap (λ os. c.swap-held.result.octets + length os) c.as_slice-count.ensures)
    (ap (λ n. n + length c.as_slice-count.result.now) (c.swap.ensures.octets ∙ c.swap-held.ensures.octets)
    ∙ ap (λ os. c.args.self.now.octets + length os) c.as_slice-count.ensures) keeps
