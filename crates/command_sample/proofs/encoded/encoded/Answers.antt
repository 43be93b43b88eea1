use Rattle.std.proofs.Common.{◌≡◌, ◌∙◌, length, sym, ap, subst, arith}
use Rattle.std.proofs.lemmas.List.{take_at}
use Rattle.nd_base.specs.declared.octets.Order.TheVariants.{Little}
use Rattle.ndr_encode.specs.Work.{IsChosen}
use Rattle.command_sample.proofs.Fits.{octets_are}
use Rattle.command_sample.proofs.encoded.encoded.Goals as goal

pub returns : goal.returns
returns c seed n is =
    let whole : length c.encode_with.new.out ≡ c.in-Ok.octets.len = omega (arith, c.encode_with.auto.out, c.deref_mut.ensures.len) in
    let same : c.adopt.result ≡ c.encode_with.new.out = c.adopt.ensures ∙ take_at c.encode_with.new.out _ _ whole in
    let many : length c.adopt.result ≡ c.in_ok-work.work.length = omega (arith, ap length same, whole, c.in-Ok.ensures.len, c.length.ensures) in
    octets_are c.args.fit.now seed n is c.in_ok-work.work c.in_ok-work.ensures c.adopt.result
    (subst (λ os. IsChosen c.args.fit.now Little c.in_ok-work.work.chunk os) (sym same) c.encode_with.ensures.chosen) many
