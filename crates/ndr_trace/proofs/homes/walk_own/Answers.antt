use Rattle.std.proofs.Common.{ap, sym, ◌∙◌}
use Rattle.nd_types.specs.Table.{type_at}
use Rattle.ndr_trace.specs.Homes.{direct_of}
use Rattle.ndr_trace.proofs.RootWalks.{is_direct}
use Rattle.ndr_trace.proofs.homes.walk_own.Goals as goal

pub returns-in-Some-clause-goes : goal.returns-in-Some-clause-goes
returns-in-Some-clause-goes c k u s r due rest names empty a =
    let d = sym (ap (λ table. direct_of (type_at table c.args.root.of.0)) u.table) ∙ sym c.direct_referent.ensures ∙ c.in-Some.is in
    c.walk_direct.ensures.goes k u s r.its r.there (ap (type_at k.setting.table) r.of ∙ is_direct (type_at k.setting.table c.args.root.of.0) c.in-Some.to d) due rest names empty a

pub returns-in-Some-clause-ends : goal.returns-in-Some-clause-ends
returns-in-Some-clause-ends c k u s r due rest names empty a e =
    let d = sym (ap (λ table. direct_of (type_at table c.args.root.of.0)) u.table) ∙ sym c.direct_referent.ensures ∙ c.in-Some.is in
    c.walk_direct.ensures.ends k u s r.its r.there (ap (type_at k.setting.table) r.of ∙ is_direct (type_at k.setting.table c.args.root.of.0) c.in-Some.to d) due rest names empty a e

pub returns-in-None-clause-goes : goal.returns-in-None-clause-goes
returns-in-None-clause-goes c k u s r due rest names empty a =
    let d = sym (ap (λ table. direct_of (type_at table c.args.root.of.0)) u.table) ∙ sym c.direct_referent.ensures ∙ c.in-None.is in
    c.walk_plain.ensures.goes k u s r d due rest names empty a

pub returns-in-None-clause-ends : goal.returns-in-None-clause-ends
returns-in-None-clause-ends c k u s r due rest names empty a e =
    let d = sym (ap (λ table. direct_of (type_at table c.args.root.of.0)) u.table) ∙ sym c.direct_referent.ensures ∙ c.in-None.is in
    c.walk_plain.ensures.ends k u s r d due rest names empty a e
