use Rattle.std.proofs.Common.{◌≡◌, ◌∙◌, length, sym, ap, subst, arith}
use Rattle.std.proofs.lemmas.List.{take_at}
use Rattle.std.proofs.lemmas.Result.{err_from_is_err_and}
use Rattle.ndr_encode.specs.Work.{IsChosen}
use Rattle.command_encode.proofs.Written.{written_is, cause_is}
use Rattle.command_encode.proofs.writing.write_octets.Goals as goal

pub encode_with-requires-clause-made : goal.encode_with-requires-clause-made
encode_with-requires-clause-made c = (c.args.chunk, c.in_ok-work.ensures.made)

pub returns-in_err-work-clause-refused : goal.returns-in_err-work-clause-refused
returns-in_err-work-clause-refused c o there =
    let p = err_from_is_err_and c.from_residual-in_err-work.result c.from_residual-in_err-work.ensures.1 in
    rw (p.1, p.2) (cause_is c.args.fit.now c.args.interface.now c.requires.tied c.args.chunk o there _ c.in_err-work.ensures.refused)

pub returns-clause-written : goal.returns-clause-written
returns-clause-written c o there =
    let whole : length c.encode_with.new.out ≡ c.in-Ok.octets.len = omega (arith, c.encode_with.auto.out, c.deref_mut.ensures.len) in
    let same : c.adopt.result ≡ c.encode_with.new.out = c.adopt.ensures ∙ take_at c.encode_with.new.out _ _ whole in
    let many : length c.adopt.result ≡ c.in_ok-work.work.length = omega (arith, ap length same, whole, c.in-Ok.ensures.len, c.length.ensures) in
    written_is c.args.fit.now c.args.interface.now c.requires.tied c.args.chunk o there c.in_ok-work.work c.in_ok-work.ensures.made c.args.order c.adopt.result
    (subst (λ os. IsChosen c.args.fit.now c.args.order c.in_ok-work.work.chunk os) (sym same) c.encode_with.ensures.chosen) many
