use Rattle.std.proofs.Common.{sym, subst}
use Rattle.idl_declared_types.specs.declared.kinds.Kind.{Kind}
use Rattle.idl_declared_types.specs.Kinds.{type_by}
use Rattle.idl_value_rules.specs.Counted.{IsCounted, inner_type}
use Rattle.idl_value_rules.proofs.counted.Counted.of.Goals as goal

pub returns-in-Array : goal.returns-in-Array
returns-in-Array c types is =
    subst (λ (k : Kind). IsCounted (type_by types k) c.in_array.result) (sym c.in-Array.is)
    (c.in_array.ensures _ c.in-Array.varying (subst (λ (k : Kind). IsCounted (inner_type types k) c.args.self) c.in-Array.is is))
