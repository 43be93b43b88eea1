-- Entries without agreements, which have no octets.
-- `m` is an entry, `x` an entry at its place, `t` a type's number, `h` a home, `n` a node's number, `l` its label, `ks` are its children.
use Rattle.std.specs.Prelude.{ℕ, ◌+◌, Bool, true, false, List, [], ◌∷◌, ◌++◌}
use Rattle.nd_types.specs.Table.{Table, type_at}
use Rattle.nd_value.specs.declared.item.Home.{Home}
use Rattle.nd_value.specs.Nodes.{child_types}
use Rattle.nd_value.specs.Tree.{Trees, more, node, node_count, none}
use Rattle.nd_grammar.specs.Entry.{Entry, EntryAt, Kind, Test, before_children, entries}

abbrev pub is_test : Kind → Bool
is_test (Test a wanted found) = true
is_test _ = false

abbrev pub kept_if : {X : Type 0} → Bool → X → List X → List X
kept_if true x xs = xs
kept_if false x xs = x ∷ xs

-- entries without agreements, and the same where they stand
abbrev pub untested : List Entry → List Entry
untested [] = []
untested (m ∷ ms) = kept_if (is_test m.kind) m (untested ms)

abbrev pub untested_at : List EntryAt → List EntryAt
untested_at [] = []
untested_at (x ∷ xs) = kept_if (is_test x.entry.kind) x (untested_at xs)

-- the entries of values of these types without the agreements of members: node after node, depth first
abbrev pub plain : Table → Home → List ℕ → ℕ → Trees → List Entry
plain table h types n none = []
plain table h [] n (more t ts) = []
plain table h (t ∷ types) n (more (node l ks) ts) =
    untested (entries h n (before_children table t (type_at table t) l ks))
    ++ (plain table h (child_types (type_at table t) l ks) (n + 1) ks ++ plain table h types (n + 1 + node_count ks) ts)
