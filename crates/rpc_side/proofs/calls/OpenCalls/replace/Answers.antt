use Rattle.std.proofs.Common.{◌∙◌, ◌+◌, ◌-◌, length, ap}
use Rattle.rpc_side.proofs.Keeping.{made_of, replaced}
use Rattle.rpc_side.proofs.calls.OpenCalls.replace.Goals as goal

pub returns-clause-begun : goal.returns-clause-begun
returns-clause-begun c = λ k keeps.
    replaced c.args.self.now
    (record {
      alloc = c.swap-held.new.self.alloc;
      entries = c.swap-held.new.self.entries;
      octets = c.difference.result + length c.as_slice-octets.result.now;
    })
    k c.args.call c.args.own c.args.pdu c.swap-held.result (made_of c.in_ok-fragments.fragments (length c.as_slice-octets.result.now)) c.swap-held.ensures.was
    c.swap-held.ensures.updates.0 c.in_ok-fragments.ensures (ap length c.as_slice-octets.ensures) c.swap-held.ensures.count c.requires.there
    (ap (λ n. n + length c.as_slice-octets.result.now) (c.difference.ensures ∙ ap (λ n. n - c.args.own) c.swap-held.ensures.octets)
    ∙ ap (λ os. (c.args.self.now.octets - c.args.own) + length os) c.as_slice-octets.ensures) keeps
