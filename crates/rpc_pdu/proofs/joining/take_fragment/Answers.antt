use Rattle.std.proofs.Common.{◌≡◌, ◌∙◌, ◌+◌, ◌-◌, ◌++◌, List, ℕ, Some, None, ap, sym, subst, arith, length}
use Rattle.nd_base.specs.Over.{source_over}
use Rattle.rpc_pdu.specs.Checks.{before, first_failing}
use Rattle.rpc_pdu.specs.Fragments.{IsBadBy, rest_checks, IsFragmentCause, IsWholeFragment}
use Rattle.rpc_pdu.proofs.Fetched.{by_residual, seen_at, held, no_head, bad_head, no_rest, bad_whole, no_part, whole_came}
use Rattle.rpc_pdu.proofs.joining.take_fragment.Goals as goal

pub returns-in_err-take-clause-refused : goal.returns-in_err-take-clause-refused
returns-in_err-take-clause-refused g c =
    by_residual c.from_residual.result c.in_err-take.field-0.0
    (IsFragmentCause c.args.want (before c.args.opening c.args.at c.args.stub.now) (source_over g.S.Source.seen c.args.source.now c.take.new.source))
    c.from_residual.ensures.1
    (no_head g.S.Source.seen c.args.want (before c.args.opening c.args.at c.args.stub.now) c.args.source.now c.take.new.source c.in_err-take.field-0.0
    c.in_err-take.ensures.fault)

pub returns-in_err-common-clause-refused : goal.returns-in_err-common-clause-refused
returns-in_err-common-clause-refused g c =
    by_residual c.from_residual-in_err-common.result c.in_err-common.field-0.0
    (IsFragmentCause c.args.want (before c.args.opening c.args.at c.args.stub.now) (source_over g.S.Source.seen c.args.source.now c.take.new.source))
    c.from_residual-in_err-common.ensures.1
    (bad_head g.S.Source.seen c.args.want (before c.args.opening c.args.at c.args.stub.now) c.args.source.now c.take.new.source c.octets.result.now
    c.in_err-common.field-0.0
    (held (source_over g.S.Source.seen c.args.source.now c.take.new.source) 16 c.take.new.intake c.octets.result.now c.octets.ensures c.in_ok-take.ensures.taken)
    c.in_err-common.ensures.refused)

pub returns-in_err-take-2-clause-refused : goal.returns-in_err-take-2-clause-refused
returns-in_err-take-2-clause-refused g c =
    by_residual c.from_residual-in_err-take-2.result c.in_err-take-2.field-0.0
    (IsFragmentCause c.args.want (before c.args.opening c.args.at c.args.stub.now) (source_over g.S.Source.seen c.args.source.now c.take-2.new.source))
    c.from_residual-in_err-take-2.ensures.1
    (no_rest g.S.Source.seen c.args.want (before c.args.opening c.args.at c.args.stub.now) c.args.source.now c.take.new.source c.take-2.new.source
    c.octets.result.now c.in_ok-common.common c.in_err-take-2.field-0.0 c.in_ok-take.ensures.later
    (held (source_over g.S.Source.seen c.args.source.now c.take.new.source) 16 c.take.new.intake c.octets.result.now c.octets.ensures c.in_ok-take.ensures.taken)
    (seen_at c.args.want c.args.opening c.args.at c.args.stub.now c.octets.result.now c.in_ok-common.common c.in_ok-common.ensures.seen)
    c.in_ok-common.ensures.least c.in_err-take-2.ensures.fault)

pub returns-in_err-stated-clause-refused : goal.returns-in_err-stated-clause-refused
returns-in_err-stated-clause-refused g c =
    by_residual c.from_residual-in_err-stated.result c.in_err-stated.field-0.0
    (IsFragmentCause c.args.want (before c.args.opening c.args.at c.args.stub.now) (source_over g.S.Source.seen c.args.source.now c.take-2.new.source))
    c.from_residual-in_err-stated.ensures.1
    (bad_whole g.S.Source.seen c.args.want (before c.args.opening c.args.at c.args.stub.now) c.args.source.now c.take.new.source c.take-2.new.source
    c.octets.result.now c.octets-2.result.now c.in_ok-common.common c.in_err-stated.field-0.0
    (held (source_over g.S.Source.seen c.args.source.now c.take.new.source) 16 c.take.new.intake c.octets.result.now c.octets.ensures c.in_ok-take.ensures.taken)
    (seen_at c.args.want c.args.opening c.args.at c.args.stub.now c.octets.result.now c.in_ok-common.common c.in_ok-common.ensures.seen)
    c.in_ok-common.ensures.least
    (held (source_over g.S.Source.seen c.take.new.source c.take-2.new.source) (c.in_ok-common.common.header_length - 16) c.take-2.new.intake
    c.octets-2.result.now c.octets-2.ensures c.in_ok-take-2.ensures.taken)
    (subst (λ (l : List ℕ). IsBadBy (first_failing (rest_checks c.args.want c.args.opening c.args.at (length l) c.in_ok-common.common c.octets-2.result.now)) c.in_err-stated.field-0.0)
    c.as_slice.ensures c.in_err-stated.ensures.refused))

pub returns-in_err-take-3-clause-refused : goal.returns-in_err-take-3-clause-refused
returns-in_err-take-3-clause-refused g c =
    by_residual c.from_residual-in_err-take-3.result c.in_err-take-3.field-0.0
    (IsFragmentCause c.args.want (before c.args.opening c.args.at c.args.stub.now) (source_over g.S.Source.seen c.args.source.now c.take-3.new.source))
    c.from_residual-in_err-take-3.ensures.1
    (no_part g.S.Source.seen c.args.want (before c.args.opening c.args.at c.args.stub.now) c.args.source.now c.take.new.source c.take-2.new.source
    c.take-3.new.source
    c.octets.result.now c.octets-2.result.now c.in_ok-common.common c.in_err-take-3.field-0.0 c.in_ok-take.ensures.later c.in_ok-take-2.ensures.later
    (held (source_over g.S.Source.seen c.args.source.now c.take.new.source) 16 c.take.new.intake c.octets.result.now c.octets.ensures c.in_ok-take.ensures.taken)
    (seen_at c.args.want c.args.opening c.args.at c.args.stub.now c.octets.result.now c.in_ok-common.common c.in_ok-common.ensures.seen)
    c.in_ok-common.ensures.least c.in_ok-common.ensures.within
    (held (source_over g.S.Source.seen c.take.new.source c.take-2.new.source) (c.in_ok-common.common.header_length - 16) c.take-2.new.intake
    c.octets-2.result.now c.octets-2.ensures c.in_ok-take-2.ensures.taken)
    (subst (λ (l : List ℕ). first_failing (rest_checks c.args.want c.args.opening c.args.at (length l) c.in_ok-common.common c.octets-2.result.now) ≡ None) c.as_slice.ensures
    c.in_ok-stated.ensures.passed)
    c.in_err-take-3.ensures.fault)

pub returns-clause-taken : goal.returns-clause-taken
returns-clause-taken g c =
    subst (λ (l : List ℕ). IsWholeFragment c.args.want (before c.args.opening c.args.at c.args.stub.now)
    (source_over g.S.Source.seen c.args.source.now c.take-3.new.source)
    (before (Some c.in_ok-stated.stated) (c.args.at + c.in_ok-common.common.fragment_length) l) c.in_ok-common.common.last) (sym c.in_ok-add.ensures.ok)
    (whole_came g.S.Source.seen c.args.want (before c.args.opening c.args.at c.args.stub.now) c.args.source.now c.take.new.source c.take-2.new.source
    c.take-3.new.source
    c.octets.result.now c.octets-2.result.now c.octets-3.result.now c.in_ok-common.common c.in_ok-stated.stated
    (held (source_over g.S.Source.seen c.args.source.now c.take.new.source) 16 c.take.new.intake c.octets.result.now c.octets.ensures c.in_ok-take.ensures.taken)
    (seen_at c.args.want c.args.opening c.args.at c.args.stub.now c.octets.result.now c.in_ok-common.common c.in_ok-common.ensures.seen)
    c.in_ok-common.ensures.least c.in_ok-common.ensures.within
    (held (source_over g.S.Source.seen c.take.new.source c.take-2.new.source) (c.in_ok-common.common.header_length - 16) c.take-2.new.intake
    c.octets-2.result.now c.octets-2.ensures c.in_ok-take-2.ensures.taken)
    (subst (λ (l : List ℕ). first_failing (rest_checks c.args.want c.args.opening c.args.at (length l) c.in_ok-common.common c.octets-2.result.now) ≡ None) c.as_slice.ensures
    c.in_ok-stated.ensures.passed)
    c.in_ok-stated.ensures.stated
    (held (source_over g.S.Source.seen c.take-2.new.source c.take-3.new.source)
    (c.in_ok-common.common.fragment_length - c.in_ok-common.common.header_length) c.take-3.new.intake c.octets-3.result.now c.octets-3.ensures c.in_ok-take-3.ensures.taken))
