-- The traces of five streams.
use Rattle.std.proofs.Common.{◌≡◌, codes, refl, Some}
use Rattle.std.specs.Prelude.{pos}
use Rattle.std.specs.Fmt.{digits}
use Rattle.nd_types.specs.Layout.{hoists, align_of}
use Rattle.nd_types.specs.Roots.{roots_of}
use Rattle.nd_grammar.specs.declared.reason.Reason.TheVariants as reason
use Rattle.ndr_trace.specs.Examples.{cut_refusal, cut_trace, in_gap_trace, between_trace, miscounted_refusal, miscounted_trace}
use Rattle.ndr_trace.specs.Examples.{refused_in, armless_octets, armed_entries, armless_trace, one_number, shared_entries, shared_trace}
use Rattle.ndr_trace.specs.Examples.{second_chunk, piped_entries, piped_trace}

pub cut_refused : cut_refusal ≡ Some (14, reason.Truncated)
unfolding roots_of hoists align_of digits
cut_refused = refl

pub cut_traced : cut_trace ≡ codes "0 4 max @1 2\n4 2 num @1.n 2\n6 2 gap\n8 4 num @1.a[0] 5\n@1.a[1]"
unfolding roots_of hoists align_of digits
cut_traced = refl

pub in_gap_traced : in_gap_trace ≡ codes "0 4 max @1 2\n4 2 num @1.n 2\n@1.a[0]"
unfolding roots_of hoists align_of digits
in_gap_traced = refl

pub between_traced : between_trace ≡ codes "0 4 max @1 2\n@1.n"
unfolding roots_of hoists align_of digits
between_traced = refl

pub miscounted_refused : miscounted_refusal ≡ Some (0, reason.Disagrees (pos 3) (pos 2))
unfolding roots_of hoists align_of digits
miscounted_refused = refl

pub miscounted_traced : miscounted_trace ≡ codes "0 4 max @1 2\n4 2 num @1.n 3\n6 2 gap\n8 4 num @1.a[0] 5\n12 4 num @1.a[1] 6\n@1.a"
unfolding roots_of hoists align_of digits
miscounted_traced = refl

pub armless_refused : refused_in armless_octets armed_entries 12 ≡ Some (10, reason.NoArm)
unfolding roots_of hoists align_of digits
armless_refused = refl

pub armless_traced : armless_trace ≡ codes "0 2 num a[0].k 1\n2 2 tag a[0].v 1\n4 4 num a[0].v.x 7\n8 2 num a[1].k 3\na[1].v"
unfolding roots_of hoists align_of digits
armless_traced = refl

pub shared_refused : refused_in one_number shared_entries 5 ≡ Some (8, reason.OtherType)
unfolding roots_of hoists align_of digits
shared_refused = refl

pub shared_traced : shared_trace ≡ codes "0 4 number p 2\n4 4 num @1 7\nq"
unfolding roots_of hoists align_of digits
shared_traced = refl

pub piped_refused : refused_in second_chunk piped_entries 9 ≡ Some (18, reason.Truncated)
unfolding roots_of hoists align_of digits
piped_refused = refl

pub piped_traced : piped_trace ≡ codes "0 4 chunk d 2\n4 4 num d[0] 1\n8 4 num d[1] 2\n12 4 chunk d 1\nd[2]"
unfolding roots_of hoists align_of digits
piped_traced = refl
