-- A reference or unique pointer is the only one that names its cell.
-- `w` is a setting, `g` a graph, `p` and `q` are pointers, `c` and `d` cells, `h` is a home, `n` a node's number, `r` a root, `ks` are the children of a pointer's node.
use Rattle.std.proofs.Common.{◌≡◌, ◌⊎◌, inl, inr, ◌∙◌, ℕ, true, List, [], ◌++◌, length, Option, Some, None, refl, sym, ap, subst}
use Rattle.std.specs.List.{slice_get}
use Rattle.nd_types.specs.declared.types.Class.{Class}
use Rattle.nd_types.specs.declared.types.Class.TheVariants.{Full, Ref, Unique}
use Rattle.nd_types.specs.declared.types.TypeDef.TheVariants as def
use Rattle.nd_types.specs.declared.types.TypeId.{TypeId}
use Rattle.nd_types.specs.Roots.{Root}
use Rattle.nd_types.specs.Table.{Table, type_at}
use Rattle.nd_value.specs.declared.item.Home.{Home}
use Rattle.nd_value.specs.declared.item.Home.TheVariants as home
use Rattle.nd_value.specs.declared.item.ItemKind.{ItemKind}
use Rattle.nd_value.specs.declared.value.Graph.{Graph}
use Rattle.nd_value.specs.Conforms.{AllEarlier, ShareOnlyIfFull, all_pointers}
use Rattle.nd_value.specs.Deferral.{Pending as Pointer, home_pointers, pointer_by}
use Rattle.nd_value.specs.Setting.{Among, Setting, cell_home, root_at, root_list}
use Rattle.nd_value.specs.Tree as tree
use Rattle.nd_value.specs.Tree.{Tree, Trees, node}
use Rattle.nd_value.proofs.Apart.{among_left}
use Rattle.nd_grammar.proofs.next.PointerPlaces.{among_two, in_root}
use Rattle.ndr_explain.specs.Explained.{home_paths, path_in}
use Rattle.ndr_trace_value.specs.Naming.{only_spot}
use Rattle.ndr_trace_value.specs.Tracing.{IsFrom, Known, kind_in, kind_variable, spot_of}
use Rattle.ndr_trace_value.specs.Traces.{NamesAlone}
use Rattle.ndr_trace_value.proofs.Placed.{home_plain}
use Rattle.ndr_trace.specs.Homes.{IsPart}

abbrev cell_in : Home → ℕ
cell_in (home.Root i) = 0
cell_in (home.Cell c) = c.0

pub same_cell : (c d : ℕ) → cell_home c ≡ cell_home d → c ≡ d
same_cell c d e = ap cell_in e

-- ## One pointer to a cell

pub the_one : (w : Setting) (g : Graph) → AllEarlier ShareOnlyIfFull (all_pointers w g) → (p q : Pointer) (c : ℕ) → NamesAlone w g p c → Among (all_pointers w g) q → q.cell ≡ Some c
    → q ≡ p
the_one w g apart p q c alone among is = by (among_two ShareOnlyIfFull turned (all_pointers w g) apart q p among alone.among)
  where
    turned : (x y : Pointer) → ShareOnlyIfFull x y → ShareOnlyIfFull y x
    turned x y f d a b = let z = f d b a in (z.1, z.0)

    by : (q ≡ p) ⊎ ShareOnlyIfFull q p → q ≡ p
    by (inl e) = e
    by (inr f) = absurd (alone.unshared (f c is alone.cell).1)

only_there : (k : Known) (class : Class) (h : Home) (n : ℕ) → (class ≡ Full → ⊥) → only_spot k class h n ≡ Some (spot_of k h n)
only_there k Full h n f = absurd (f refl)
only_there k Ref h n f = refl
only_there k Unique h n f = refl

-- so where a pointer names a cell, it is the one that names it alone, if there is one
pub from_pointer : (k : Known) → IsPart k → (q : Pointer) (c : ℕ) → Among (all_pointers k.setting k.graph) q → q.cell ≡ Some c
    → IsFrom k (cell_home c) (only_spot k q.class q.home q.node)
from_pointer k s q c among is p d alone at_home =
    let same : c ≡ d = same_cell c d at_home in
    let one : q ≡ p = the_one k.setting k.graph s.partial.unshared p q d alone among (is ∙ ap (λ n. Some n) same) in
    ap (λ (x : Pointer). only_spot k x.class x.home x.node) one ∙ only_there k p.class p.home p.node alone.unshared

-- no variable is kept for a home's own value, which is no member
no_variable : (o : Option ItemKind) (path : List ℕ) → kind_variable o path None ≡ []
no_variable None path = refl
no_variable (Some m) path = refl

pub root_spot : (k : Known) (at : ℕ) (variable : List ℕ) → variable ≡ [] → Some (record { home = home.Root at; node = 0; variable = variable }) ≡ only_spot k Ref (home.Root at) 0
root_spot k at variable e =
    ap (λ q. Some (record { home = home.Root at; node = 0; variable = q }))
    (e ∙ sym (ap (kind_variable (kind_in k.log k.sought) (path_in (home_paths k.setting k.graph (home.Root at)) 0)) (home_plain k.setting k.graph (home.Root at))
    ∙ no_variable (kind_in k.log k.sought) (path_in (home_paths k.setting k.graph (home.Root at)) 0)))

-- a root is no cell
pub from_root : (k : Known) (at : ℕ) → IsFrom k (home.Root at) None
from_root k at p c alone at_home = absurd (let z : ⊥ = cc in z)

-- ## The pointer that is a root

-- the pointer that a home's own value is
own_pointer : (table : Table) (h : Home) (t c : ℕ) (ks : Trees) (class : Class) (to : TypeId) → type_at table t ≡ Some (def.Pointer class to)
    → Among (home_pointers table h t (node (tree.Ptr (Some c)) ks)) (record { home = h; node = 0; class = class; to = to.0; cell = Some c; agreements = [] })
own_pointer table h t c ks class to e =
    let its : Pointer = record { home = h; node = 0; class = class; to = to.0; cell = Some c; agreements = [] } in
    among_left (pointer_by (type_at table t) true (Some c) h 0 []) _ its (subst (λ d. Among (pointer_by d true (Some c) h 0 []) its) (sym e) (inl refl))

pub root_pointer : (w : Setting) (g : Graph) → length g.roots ≡ length (root_list w) → (at : ℕ) (r : Root) → slice_get (root_list w) at ≡ Some r → (class : Class) (to : TypeId)
    → type_at w.table r.of ≡ Some (def.Pointer class to) → (c : ℕ) (ks : Trees) → root_at g at ≡ node (tree.Ptr (Some c)) ks
    → Among (all_pointers w g) (record { home = home.Root at; node = 0; class = class; to = to.0; cell = Some c; agreements = [] })
root_pointer w g all at r there class to type_of c ks value =
    let its : Pointer = record { home = home.Root at; node = 0; class = class; to = to.0; cell = Some c; agreements = [] } in
    in_root w g all at r there its
    (subst (λ (v : Tree). Among (home_pointers w.table (home.Root at) r.of v) its) (sym value) (own_pointer w.table (home.Root at) r.of c ks class to type_of))
