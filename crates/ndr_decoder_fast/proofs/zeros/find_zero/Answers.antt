use Rattle.std.proofs.Common.{◌≡◌, Some, length, slice_get, refl, sym, arith}
use Rattle.std.proofs.lemmas.Option.{slice_get_read}
use Rattle.ndr_decoder_fast.proofs.FirstZeros.{zero_found, zero_passed, zero_nowhere}
use Rattle.ndr_decoder_fast.proofs.zeros.find_zero.Goals as goal

pub returns-then-octet-eq0 : goal.returns-then-octet-eq0
returns-then-octet-eq0 c =
    let os = c.args.octets.now in
    let octet = c.in-Some.octet.now in
    let there : slice_get os c.loop-at.at ≡ Some octet =
    slice_get_read os (length os) c.loop-at.at octet refl c.in-Some.ensures.lookup.3.0 c.in-Some.ensures.lookup.1 in
    record { is = sym (zero_found os c.loop-at.at octet there c.if-octet-eq0.true c.loop-at.invariant) }

pub loop-at-preserved : goal.loop-at-preserved
loop-at-preserved c =
    let os = c.args.octets.now in
    let octet = c.in-Some.octet.now in
    let there : slice_get os c.loop-at.at ≡ Some octet =
    slice_get_read os (length os) c.loop-at.at octet refl c.in-Some.ensures.lookup.3.0 c.in-Some.ensures.lookup.1 in
    zero_passed os c.loop-at.at octet there c.if-octet-eq0.false c.loop-at.invariant

pub returns : goal.returns
returns c = record { is = sym (zero_nowhere c.args.octets.now c.loop-at.at (omega arith) (omega arith) c.loop-at.invariant) }
