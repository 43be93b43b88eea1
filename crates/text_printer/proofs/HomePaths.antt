-- The paths of a home's nodes: those of its value, with the home's name.
-- `w` is a setting, `g` a graph, `n` a node's number, `p` the home's name, `q` the path of the node.
use Rattle.std.proofs.Common.{◌≡◌, ℕ, ◌+◌, inl, inr, zero, suc, List, [], ◌∷◌, ◌++◌, map, Option, None, Some, codes, decimal, refl, ap, sym, ◌∙◌, subst}
use Rattle.std.specs.List.{slice_get}
use Rattle.std.proofs.lemmas.Option.{same_Some}
use Rattle.nd_types.specs.declared.types.Operation.{Operation}
use Rattle.nd_types.specs.Table.{Table, type_at}
use Rattle.nd_types.specs.Roots.{Root, NamedRoot, named_root}
use Rattle.nd_value.specs.declared.value.Graph.{Graph}
use Rattle.nd_value.specs.declared.value.CellId.{CellId}
use Rattle.nd_value.specs.declared.item.Home.TheVariants as home
use Rattle.nd_value.specs.Tree.{Tree, Unread, node, none, more, Referent}
use Rattle.nd_value.specs.Nodes.{child_types}
use Rattle.nd_value.specs.Setting.{Setting, Among, root_list, root_at, unread, cell_of_number}
use Rattle.text_grammar.specs.Written.{root_name}
use Rattle.text_grammar.specs.Paths.{node_paths, child_paths, root_types, IsPath}
use Rattle.text_printer.specs.Steps.{HasPath, HasCellPath}
use Rattle.text_grammar.proofs.Names.{names_agree}

-- node 0 among the nodes of a value
with_own : (table : Table) (t : ℕ) (p : List ℕ) (v : Tree) (n : ℕ) (q : List ℕ)
    → Among ((0, p) ∷ node_paths table (t ∷ []) (p ∷ []) 0 (more v none)) (n, q) → HasPath table t p v n q
with_own table t p (node l ks) n q (inl e) = inl e
with_own table t p (node l ks) n q (inr h) = h

only_own : (p : List ℕ) (n : ℕ) (q : List ℕ) → Among {X = ℕ × List ℕ} ((0, p) ∷ []) (n, q) → p ≡ q
only_own p n q (inl e) = sym (ap (λ x. x.1) e)
only_own p n q (inr h) = absurd h

no_nodes : (table : Table) (types : List ℕ) (paths : List (List ℕ)) (n : ℕ) (q : List ℕ) → Among (node_paths table types paths 1 none ++ []) (n, q) → ⊥
no_nodes table [] paths n q h = h
no_nodes table (t ∷ types) [] n q h = h
no_nodes table (t ∷ types) (p ∷ paths) n q h = h

-- a value that is not there
pub unread_path : (table : Table) (t : ℕ) (p : List ℕ) (n : ℕ) (q : List ℕ) → HasPath table t p unread n q → p ≡ q
unread_path table t p n q (inl e) = sym (ap (λ x. x.1) e)
unread_path table t p n q (inr h) = absurd (no_nodes table (child_types (type_at table t) Unread none) (child_paths (type_at table t) Unread p none) n q h)

abbrev mapped : Operation → Option Root → Option NamedRoot
mapped o None = None
mapped o (Some r) = Some (named_root o r)

get_mapped : (o : Operation) (rs : List Root) (i : ℕ) → slice_get (map (named_root o) rs) i ≡ mapped o (slice_get rs i)
get_mapped o [] i = refl
get_mapped o (r ∷ rs) zero = refl
get_mapped o (r ∷ rs) (suc i) = get_mapped o rs i

-- a root that is there
pub root_path : (w : Setting) (g : Graph) (i : ℕ) (r : NamedRoot) (n : ℕ) (q : List ℕ) → Some r ≡ slice_get (map (named_root w.op) (root_list w)) i
    → IsPath w g (home.Root i) n q → HasPath w.table r.of r.name (root_at g i) n q
root_path w g i r n q e h = by_root (slice_get (root_list w) i) (e ∙ get_mapped w.op (root_list w) i) h
  where
    by_root : (o : Option Root) → Some r ≡ mapped w.op o
        → Among ((0, elim o [ None ↦ codes "root" | Some x ↦ root_name w.op.params x ])
        ∷ node_paths w.table (root_types o) (elim o [ None ↦ codes "root" | Some x ↦ root_name w.op.params x ] ∷ []) 0 (more (root_at g i) none)) (n, q)
        → HasPath w.table r.of r.name (root_at g i) n q
    by_root None same a = cc
    by_root (Some x) same a =
        let s : r ≡ named_root w.op x = same_Some _ _ same in
        let name : root_name w.op.params x ≡ r.name = names_agree w.op x ∙ sym (ap (λ y. y.name) s) in
        subst (λ (t : ℕ). HasPath w.table t r.name (root_at g i) n q) (sym (ap (λ y. y.of) s))
        (subst (λ (p : List ℕ). HasPath w.table x.of p (root_at g i) n q) name (with_own w.table x.of (root_name w.op.params x) (root_at g i) n q a))

-- a root that is not there
pub no_root_path : (w : Setting) (g : Graph) (i : ℕ) (n : ℕ) (q : List ℕ) → None ≡ slice_get (map (named_root w.op) (root_list w)) i
    → IsPath w g (home.Root i) n q → codes "root" ≡ q
no_root_path w g i n q e h = by_root (slice_get (root_list w) i) (e ∙ get_mapped w.op (root_list w) i) h
  where
    by_root : (o : Option Root) → None ≡ mapped w.op o
        → Among ((0, elim o [ None ↦ codes "root" | Some x ↦ root_name w.op.params x ])
        ∷ node_paths w.table (root_types o) (elim o [ None ↦ codes "root" | Some x ↦ root_name w.op.params x ] ∷ []) 0 (more (root_at g i) none)) (n, q)
        → codes "root" ≡ q
    by_root None same a = only_own (codes "root") n q a
    by_root (Some x) same a = cc

-- a cell that is there, and one that is not
pub cell_path : (table : Table) (p : List ℕ) (x : Referent) (n : ℕ) (q : List ℕ) → HasCellPath table p (Some x) n q → HasPath table x.of p x.val n q
cell_path table p x n q h = with_own table x.of p x.val n q h

pub no_cell_path : (table : Table) (p : List ℕ) (n : ℕ) (q : List ℕ) → HasCellPath table p None n q → p ≡ q
no_cell_path table p n q h = only_own p n q h

pub cell_home_path : (w : Setting) (table : Table) (g : Graph) (c : CellId) (p : List ℕ) (x : Option Referent) (n : ℕ) (q : List ℕ) → w.table ≡ table → p ≡ 64 ∷ decimal c.0
    → x ≡ cell_of_number g c.0 → IsPath w g (home.Cell c) n q → HasCellPath table p x n q
cell_home_path w table g c p x n q et ep ex h =
    subst (λ (t : Table). HasCellPath t p x n q) et
    (subst (λ (r : List ℕ). HasCellPath w.table r x n q) (sym ep) (subst (λ (y : Option Referent). HasCellPath w.table (64 ∷ decimal c.0) y n q) (sym ex) h))
