use Rattle.std.proofs.Common.{◌≡◌, ◌<◌, ◌∙◌, ℕ, length, sym, subst, option_map}
use Rattle.nd_types.specs.declared.interface.Interface.{Interface}
use Rattle.nd_value.specs.Fitting.{Fitting, setting_beside}
use Rattle.nd_value.specs.Request.{IsRequestOf}
use Rattle.command_refusals.specs.declared.refusal.Refusal.TheVariants as refusal
use Rattle.library_values.specs.Decoded.{IsDecodedOf, IsOctetsCause, IsOf}
use Rattle.library_values.specs.Logged.{IsLoggedOf}
use Rattle.library_interface.proofs.Results.{both_ok, any_ok, same_err}
use Rattle.library_values.proofs.decoding.decode_beside.Goals as goal

pub decode_lent-requires-clause-known : goal.decode_lent-requires-clause-known
decode_lent-requires-clause-known c = subst (λ (i : Interface). c.args.op < length i.operations) (sym c.plan_of-plan.ensures) c.requires.known

pub decode_lent-requires-clause-request : goal.decode_lent-requires-clause-request
decode_lent-requires-clause-request c =
    subst (λ (i : Interface). IsRequestOf i c.args.op c.args.side (option_map (λ f. f.now) c.args.given)) (sym c.plan_of-plan.ensures) c.requires.request

pub held-requires : goal.held-requires
held-requires c = c.in-Ok.ensures.of.interface_is ∙ c.plan_of-plan.ensures

pub returns-in-Ok-clause-decoded : goal.returns-in-Ok-clause-decoded
returns-in-Ok-clause-decoded c o there =
    let i = c.args.compiled.now.value in
    let q = option_map (λ f. f.now.graph) c.args.given in
    let d = c.in-Ok.decoded in
    both_ok c.held.result d.fit d.taken (λ (f : Fitting) (n : ℕ). IsDecodedOf (setting_beside i o c.args.side q) c.args.order c.args.octets.now n f.graph) c.held.ensures.ok
    (c.in-Ok.ensures.decoded i o c.plan_of-plan.ensures there)

pub returns-in-Ok-clause-of : goal.returns-in-Ok-clause-of
returns-in-Ok-clause-of c =
    let q = option_map (λ f. f.now.graph) c.args.given in
    let d = c.in-Ok.decoded in
    both_ok c.held.result d.fit d.taken (λ (f : Fitting) (n : ℕ). IsOf c.args.compiled.now.value c.args.op c.args.side q f) c.held.ensures.ok
    (subst (λ (j : Interface). IsOf j c.args.op c.args.side q d.fit) c.plan_of-plan.ensures c.in-Ok.ensures.of)

pub returns-in-Ok-clause-logged : goal.returns-in-Ok-clause-logged
returns-in-Ok-clause-logged c o there fresh =
    let i = c.args.compiled.now.value in
    let q = option_map (λ f. f.now.graph) c.args.given in
    any_ok c.held.result (IsLoggedOf (setting_beside i o c.args.side q) c.args.order c.args.octets.now c.decode_lent.new.items.items)
    (c.in-Ok.ensures.logged i o c.plan_of-plan.ensures there fresh)

pub returns-in-Ok-clause-refused : goal.returns-in-Ok-clause-refused
returns-in-Ok-clause-refused c o there =
    let q = option_map (λ f. f.now.graph) c.args.given in
    same_err c.held.result refusal.Memory (IsOctetsCause (setting_beside c.args.compiled.now.value o c.args.side q) c.args.order c.args.octets.now) c.held.ensures.err tt

pub returns-in-Err-clause-refused : goal.returns-in-Err-clause-refused
returns-in-Err-clause-refused c o there = c.in-Err.ensures.refused c.args.compiled.now.value o c.plan_of-plan.ensures there
