use Rattle.std.proofs.Common.{◌≡◌, ℕ, List, sym, subst, ap, true, Some, None, slice_get, ◌∙◌}
use Rattle.idl_rule_definitions.specs.Types.{Void}
use Rattle.idl_declared_types.specs.Kinds.{are_ordered, is_inside, type_by, seen_types, type_at}
use Rattle.idl_declared_types.specs.declared.kinds.Kind.{Kind}
use Rattle.idl_declared_types.proofs.KindLists.{stands_at, inside_at, type_at-stands, none_at}
use Rattle.idl_declared_types.proofs.kinds.Kinds.kind.Goals as goal

seen : (ks now : List Kind) (n : ℕ) (k : Kind) → ks ≡ now → are_ordered 0 ks ≡ true → slice_get ks n ≡ Some k → type_by (seen_types now) k ≡ type_at now n
seen ks now n k is o h =
    subst (λ (l : List Kind). type_by (seen_types l) k ≡ type_at l n) is (sym (type_at-stands ks n (type_by (seen_types ks) k) (stands_at ks n k o h)))

unseen : (ks now : List Kind) (n : ℕ) → ks ≡ now → slice_get ks n ≡ None → Void ≡ type_at now n
unseen ks now n is h = subst (λ (l : List Kind). Void ≡ type_at l n) is (sym (none_at ks n h))

pub returns-in-Some-clause-seen : goal.returns-in-Some-clause-seen
returns-in-Some-clause-seen c = seen _ _ c.args.number c.in-Some.kind.now c.self.view_is c.self.invariant (sym c.in-Some.ensures.key)

pub returns-in-Some-clause-inside : goal.returns-in-Some-clause-inside
returns-in-Some-clause-inside c = inside_at _ c.args.number c.in-Some.kind.now c.self.invariant (sym c.in-Some.ensures.key)

pub returns-in-None-clause-seen : goal.returns-in-None-clause-seen
returns-in-None-clause-seen c = unseen _ _ c.args.number c.self.view_is (sym c.in-None.ensures.key)
