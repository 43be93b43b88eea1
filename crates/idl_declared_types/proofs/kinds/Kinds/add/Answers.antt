use Rattle.std.proofs.Common.{◌≡◌, ℕ, List, length, sym, subst, ap, true, Some, slice_get, rules, ◌∙◌}
use Rattle.indexmap.specs.IndexSet.{insert_key}
use Rattle.idl_declared_types.specs.Kinds.{are_ordered, is_inside, Keeps, Stands, type_by, seen_types}
use Rattle.idl_declared_types.specs.declared.kinds.Kind.{Kind}
use Rattle.idl_declared_types.specs.contracts.kinds.KindPartialEq.TheImpl.{eq-value}
use Rattle.idl_declared_types.proofs.KindLists.{ordered-insert, keeps-insert, stands-insert}
use Rattle.idl_declared_types.proofs.kinds.Kinds.add.Goals as goal

same_kind : (x y : Kind) → eq-value.it x y ≡ true → x ≡ y
same_kind x y h = search rules

ordered : (ks now new : List Kind) (k : Kind) → ks ≡ now → are_ordered 0 ks ≡ true → is_inside (length now) k ≡ true → new ≡ insert_key eq-value.it ks k
    → are_ordered 0 new ≡ true
ordered ks now new k is o inside e =
    ap (are_ordered 0) e ∙ ordered-insert eq-value.it ks k o (subst (λ (l : List Kind). is_inside (length l) k ≡ true) (sym is) inside)

keeps : (ks now new : List Kind) (k : Kind) → ks ≡ now → new ≡ insert_key eq-value.it ks k → Keeps now new
keeps ks now new k is e n t h =
    ap (λ l. slice_get (seen_types l) n) e ∙ keeps-insert eq-value.it ks k n t (subst (λ (l : List Kind). Stands l n t) (sym is) h)

stands : (ks now new : List Kind) (k found : Kind) (n : ℕ) → ks ≡ now → are_ordered 0 ks ≡ true → is_inside (length now) k ≡ true
    → new ≡ insert_key eq-value.it ks k → slice_get new n ≡ Some found → eq-value.it k found ≡ true → Stands new n (type_by (seen_types now) k)
stands ks now new k found n is o inside e at same =
    let here : slice_get (insert_key eq-value.it ks k) n ≡ Some found = ap (λ l. slice_get l n) (sym e) ∙ at in
    let there = stands-insert eq-value.it ks k found n o (subst (λ (l : List Kind). is_inside (length l) k ≡ true) (sym is) inside) (same_kind k found same) here in
    ap (λ l. slice_get (seen_types l) n) e ∙ there
    ∙ ap (λ l. Some (type_by (seen_types l) k)) is

pub invariant_of-self-2 : goal.invariant_of-self-2
invariant_of-self-2 c = ordered _ _ _ c.args.kind c.self.view_is c.self.invariant c.requires c.in-Ok.ensures.keys

pub returns-clause-stands : goal.returns-clause-stands
returns-clause-stands c =
    let h : (k : Kind) × (slice_get c.insert_full.new.self.keys c.in-Ok.number ≡ Some k) × (eq-value.it c.args.kind k ≡ true) = c.in-Ok.ensures.stored in
    stands _ _ _ c.args.kind h.0 c.in-Ok.number c.self.view_is c.self.invariant c.requires c.in-Ok.ensures.keys h.1 h.2

pub returns-clause-keeps : goal.returns-clause-keeps
returns-clause-keeps c = keeps _ _ _ c.args.kind c.self.view_is c.in-Ok.ensures.keys
