use Rattle.std.proofs.Common.{◌≡◌, List, sym, subst, true, rules, arith}
use Rattle.std.specs.List.{IsDistinct}
use Rattle.idl_declared_types.specs.Kinds.{are_ordered, AreOnce}
use Rattle.idl_declared_types.specs.declared.kinds.Kind.{Kind}
use Rattle.idl_declared_types.specs.contracts.kinds.KindPartialEq.TheImpl.{eq-value}
use Rattle.idl_declared_types.proofs.KindsOnce.{once}
use Rattle.idl_declared_types.proofs.kinds.Kinds.len.Goals as goal

itself_eq : (k : Kind) → eq-value.it k k ≡ true
itself_eq k = search rules

are_once : (ks now : List Kind) → ks ≡ now → are_ordered 0 ks ≡ true → IsDistinct eq-value.it ks → AreOnce now
are_once ks now is ordered distinct = subst AreOnce is (once eq-value.it itself_eq ks ordered distinct)

pub returns-clause-once : goal.returns-clause-once
returns-clause-once c = are_once _ _ c.self.view_is c.self.invariant c.len.ensures.unique
