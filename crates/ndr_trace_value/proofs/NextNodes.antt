-- Nodes one after the other: what is due after a node's own entries.
-- `types` and `T` are types of values, `ks` are the children of a node, `us` the values after it, `n` is a node's number.
use Rattle.std.proofs.Common.{◌≡◌, ◌∙◌, ℕ, ◌+◌, suc, List, [], ◌∷◌, ◌++◌, length, sym, ap, append_assoc, add-zero, arith}
use Rattle.nd_types.specs.Table.{Table, type_at}
use Rattle.nd_value.specs.declared.item.Home.{Home}
use Rattle.nd_value.specs.Nodes.{child_types}
use Rattle.nd_value.specs.Tree.{Label, Trees, count, joined, more, node, node_count, none}
use Rattle.nd_grammar.specs.Entry.{before_children, entries}
use Rattle.ndr_trace_value.specs.Untested.{plain, untested}

-- the entries of some values, and then of others
pub plain_joined : (table : Table) (h : Home) (types T : List ℕ) (n : ℕ) (ks us : Trees) → count ks ≡ length types
    → plain table h (types ++ T) n (joined ks us) ≡ plain table h types n ks ++ plain table h T (n + node_count ks) us
plain_joined table h [] T n none us e = ap (λ m. plain table h T m us) (sym (add-zero n))
plain_joined table h [] T n (more t ks) us e = cc
plain_joined table h (t ∷ types) T n none us e = cc
plain_joined table h (t ∷ types) T n (more (node l js) ks) us e =
    let e' : count ks ≡ length types = omega (arith, e) in
    let own = untested (entries h n (before_children table t (type_at table t) l js)) in
    let a = plain table h (child_types (type_at table t) l js) (n + 1) js in
    let b = plain table h types (n + 1 + node_count js) ks in
    let m = n + 1 + node_count js + node_count ks in
    let num : m ≡ n + suc (node_count js + node_count ks) = omega arith in
    ap (λ xs. own ++ (a ++ xs)) (plain_joined table h types T (n + 1 + node_count js) ks us e')
    ∙ ap (λ xs. own ++ xs) (sym (append_assoc a b (plain table h T m us)))
    ∙ sym (append_assoc own (a ++ b) (plain table h T m us))
    ∙ ap (λ i. (own ++ (a ++ b)) ++ plain table h T i us) num

-- after a node's own entries come those of its children, and then those of the values after it
pub after_own : (table : Table) (h : Home) (t : ℕ) (T : List ℕ) (n : ℕ) (l : Label) (ks us : Trees) → count ks ≡ length (child_types (type_at table t) l ks)
    → plain table h (t ∷ T) n (more (node l ks) us)
    ≡ untested (entries h n (before_children table t (type_at table t) l ks)) ++ plain table h (child_types (type_at table t) l ks ++ T) (n + 1) (joined ks us)
after_own table h t T n l ks us e =
    ap (λ xs. untested (entries h n (before_children table t (type_at table t) l ks)) ++ xs)
    (sym (plain_joined table h (child_types (type_at table t) l ks) T (n + 1) ks us e))
