use Rattle.std.proofs.Common.{◌++◌, subst}
use Rattle.nd_grammar.specs.Stream.{IsNumber}
use Rattle.ndr_trace_value.specs.Naming.{IsFine, IsNaming, names_of}
use Rattle.ndr_trace_value.proofs.cells.named.Goals as goal

pub returns-in-Unique-clause-names : goal.returns-in-Unique-clause-names
returns-in-Unique-clause-names c k x names i num fine =
    c.unique_cell.ensures.names k x names (subst (λ z. IsNaming k c.args.cells.now (names_of z x ++ names)) c.in-Unique.is i)
    (subst (λ z. IsNumber k.numbering z x c.args.number) c.in-Unique.is num)

pub returns-in-Full-clause-names : goal.returns-in-Full-clause-names
returns-in-Full-clause-names c k x names i num fine =
    c.full_cell.ensures.names k x names (subst (λ z. IsNaming k c.args.cells.now (names_of z x ++ names)) c.in-Full.is i)
    (subst (λ z. IsNumber k.numbering z x c.args.number) c.in-Full.is num) (subst (λ z. IsFine k.graph z c.args.to.0 x) c.in-Full.is fine)
