use Rattle.ctx_session.proofs.OneScript.{one_or_other, never_both, one_script, one_bad_line}
use Rattle.ctx_session.proofs.laws.one_script_verdict.Goals as goal

pub returns-clause-some : goal.returns-clause-some
returns-clause-some c octets = one_or_other octets

pub returns-clause-never_both : goal.returns-clause-never_both
returns-clause-never_both c octets lines number = never_both octets lines number

pub returns-clause-one_script : goal.returns-clause-one_script
returns-clause-one_script c octets lines others = one_script octets lines others

pub returns-clause-one_line : goal.returns-clause-one_line
returns-clause-one_line c octets m n = one_bad_line octets m n
