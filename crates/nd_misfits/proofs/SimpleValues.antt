-- Nodes of simple values are governed by no attribute, but the first, and where types of pointers are not simple they name no cell.
use Rattle.std.proofs.Common.{◌≡◌, ℕ, ◌+◌, ◌*◌, ◌^◌, ◌<◌, zero, suc, Bool, true, false, eqb, cond, List, [], ◌∷◌, ◌++◌, length, Option, Some, None}
use Rattle.std.proofs.Common.{refl, ap, ap₂, sym, ◌∙◌, arith, map, replicate, subst, suc-mul, zero-mul, one-mul}
use Rattle.std.specs.List.{list_all}
use Rattle.std.proofs.lemmas.Bool.{and_parts, eqb-true, false≢true}
use Rattle.std.proofs.lemmas.List.{append-nil}
use Rattle.std.proofs.lemmas.Option.{same_Some}
use Rattle.nd_types.specs.declared.types.AttrVar.{AttrVar}
use Rattle.nd_types.specs.declared.types.Field.{Field}
use Rattle.nd_types.specs.declared.types.TypeDef.{TypeDef}
use Rattle.nd_types.specs.declared.types.TypeDef.TheVariants as def
use Rattle.nd_types.specs.Table.{Table, type_at}
use Rattle.nd_value.specs.declared.value.Graph.{Graph}
use Rattle.nd_value.specs.declared.item.Home.{Home}
use Rattle.nd_value.specs.declared.misfit.NodeMisfit.{NodeMisfit}
use Rattle.nd_misfits.specs.declared.pointers.CellPointer.{CellPointer}
use Rattle.nd_value.specs.Tree as tree
use Rattle.nd_value.specs.Tree.{Tree, Trees, Label, node, none, more, trees, count, node_count}
use Rattle.nd_value.specs.Agreement.{Agreement, member_agreements}
use Rattle.nd_value.specs.Nodes.{child_types, child_agreements, first_agreements, rest_agreements}
use Rattle.nd_value.specs.Misfit.{has_shape}
use Rattle.nd_value.specs.Conforms.{disagreement_of}
use Rattle.nd_value.specs.Passes.{or_next, at_number}
use Rattle.nd_misfits.specs.Pointers.{are_formed, named_here, pointers_in}
use Rattle.nd_misfits.specs.Disagreeing.{subject_of, disagreeing_in}
use Rattle.nd_misfits.specs.Simple.{is_single, is_simple_member, simple_members, simple_nodes}
use Rattle.nd_misfits.proofs.FormWalk.{HasForm, first_formed, rest_formed}
use Rattle.nd_misfits.proofs.AgreementWalk.{none_stated}
use Rattle.nd_misfits.proofs.NodeTests.{count_trees}

-- a value of one node has no children, and names no cell where it is no pointer
single_node : (b : Bool) (d : Option TypeDef) (l : Label) (ks : Trees) (h : Home) (n : ℕ) → is_single b d ≡ true → has_shape d l ks ≡ true
    → (ks ≡ none) × (b ≡ false → named_here l d h n ≡ [])
single_node b (Some (def.Prim p)) (tree.Num z) none h n a s = (refl, λ e. refl)
single_node b (Some (def.Enum xs)) (tree.Num z) none h n a s = (refl, λ e. refl)
single_node b (Some (def.Text t o)) (tree.Text m os) none h n a s = (refl, λ e. refl)
single_node b (Some (def.Pointer class to)) (tree.Ptr c) none h n a s = (refl, λ e. absurd (false≢true (sym e ∙ a)))
single_node b (Some def.Context) (tree.Context x i) none h n a s = (refl, λ e. refl)
single_node b d l ks h n a s = cc

no_vars : (ks : Trees) (vs : List AttrVar) → eqb (length vs) 0 ≡ true → member_agreements ks vs ≡ []
no_vars ks [] e = refl
no_vars ks (v ∷ vs) e = let m : suc (length vs) ≡ 0 = eqb-true (suc (length vs)) 0 e in absurd (omega (arith, m))

chosen : (x : Bool) (k i : ℕ) → cond x (Some k) None ≡ Some i → (x ≡ true) × (k ≡ i)
chosen true k i e = (refl, same_Some k i e)
chosen false k i e = cc

module _ (b : Bool) (table : Table) (h : Home) (g : Graph) where
  -- what the later passes find in such values: nothing
  pub record Quiet (types : List ℕ) (ags : List (List Agreement)) (n : ℕ) (vs : Trees) : Type 0 where
    pub named : b ≡ false → pointers_in table h types n vs ≡ []
    pub agree : disagreeing_in table g types ags n vs ≡ None

  quiet_none : (types : List ℕ) (ags : List (List Agreement)) (n : ℕ) (vs : Trees) → vs ≡ none → Quiet types ags n vs
  quiet_none types ags n none e = record { named = λ x. refl; agree = refl }
  quiet_none types ags n (more v vs) e = cc

  -- one value more
  quiet_more : (t : ℕ) (types : List ℕ) (ags : List (List Agreement)) (n : ℕ) (l : Label) (ks vs : Trees) → first_agreements ags ≡ []
      → (b ≡ false → named_here l (type_at table t) h n ≡ []) → Quiet (child_types (type_at table t) l ks) (child_agreements (type_at table t) ks) (n + 1) ks
      → Quiet types (rest_agreements ags) (n + 1 + node_count ks) vs → Quiet (t ∷ types) ags n (more (node l ks) vs)
  quiet_more t types ags n l ks vs bare own inner later =
      let kids : Option NodeMisfit = disagreeing_in table g (child_types (type_at table t) l ks) (child_agreements (type_at table t) ks) (n + 1) ks in
      let rest : Option NodeMisfit = disagreeing_in table g types (rest_agreements ags) (n + 1 + node_count ks) vs in
      record {
        named = λ e. ap₂ (λ (p q : List CellPointer). p ++ (q ++ pointers_in table h types (n + 1 + node_count ks) vs)) (own e) (inner.named e) ∙ later.named e;
        agree =
            ap (λ (ag : List Agreement). or_next (at_number n (disagreement_of (subject_of g l ks) ag)) (or_next kids rest)) bare
            ∙ ap (λ o. or_next (at_number n o) (or_next kids rest)) (none_stated (subject_of g l ks))
            ∙ ap (λ (o : Option NodeMisfit). or_next o rest) inner.agree ∙ later.agree;
      }

  members_quiet : (all : Trees) (fs : List Field) (n : ℕ) (vs : Trees) → list_all (is_simple_member b table) fs ≡ true
      → are_formed table (map (λ (f : Field). f.of.0) fs) vs ≡ true → Quiet (map (λ (f : Field). f.of.0) fs) (map (λ (f : Field). member_agreements all f.vars) fs) n vs
  members_quiet all fs n none a f = record { named = λ x. refl; agree = refl }
  members_quiet all [] n (more v vs) a f = cc
  members_quiet all (x ∷ fs) n (more (node l ks) vs) a f =
      let (simple, rest) = and_parts (is_simple_member b table x) (list_all (is_simple_member b table) fs) a in
      let (bare, single) = and_parts (eqb (length x.vars) 0) (is_single b (type_at table x.of.0)) simple in
      let types : List ℕ = map (λ (f : Field). f.of.0) fs in
      let form : HasForm table x.of.0 l ks = first_formed table x.of.0 types l ks vs f in
      let one = single_node b (type_at table x.of.0) l ks h n single form.shape in
      quiet_more x.of.0 types (member_agreements all x.vars ∷ map (λ (f : Field). member_agreements all f.vars) fs) n l ks vs (no_vars all x.vars bare) one.1
      (quiet_none (child_types (type_at table x.of.0) l ks) (child_agreements (type_at table x.of.0) ks) (n + 1) ks one.0)
      (members_quiet all fs (n + 1 + node_count ks) vs rest (rest_formed table x.of.0 types (node l ks) vs f))

  -- each member is one node
  members_many : (fs : List Field) (vs : Trees) → list_all (is_simple_member b table) fs ≡ true → are_formed table (map (λ (f : Field). f.of.0) fs) vs ≡ true
      → node_count vs ≡ count vs
  members_many fs none a f = refl
  members_many [] (more v vs) a f = cc
  members_many (x ∷ fs) (more (node l ks) vs) a f =
      let (simple, rest) = and_parts (is_simple_member b table x) (list_all (is_simple_member b table) fs) a in
      let (bare, single) = and_parts (eqb (length x.vars) 0) (is_single b (type_at table x.of.0)) simple in
      let types : List ℕ = map (λ (f : Field). f.of.0) fs in
      let form : HasForm table x.of.0 l ks = first_formed table x.of.0 types l ks vs f in
      let one = single_node b (type_at table x.of.0) l ks h 0 single form.shape in
      let few : node_count ks ≡ 0 = ap node_count one.0 in
      let later : node_count vs ≡ count vs = members_many fs vs rest (rest_formed table x.of.0 types (node l ks) vs f) in
      omega (arith, few, later)

  -- a value of a simple type: how many nodes it has below its own, and what the later passes find
  pub record IsSimple (d : Option TypeDef) (inside n : ℕ) (l : Label) (ks : Trees) : Type 0 where
    pub many : node_count ks ≡ inside
    pub own : b ≡ false → named_here l d h n ≡ []
    pub below : Quiet (child_types d l ks) (child_agreements d ks) (n + 1) ks

  members_simple : (d : Option TypeDef) (inside n : ℕ) (l : Label) (ks : Trees) → simple_members b table d ≡ Some inside → has_shape d l ks ≡ true
      → are_formed table (child_types d l ks) ks ≡ true → IsSimple d inside n l ks
  members_simple (Some (def.Struct fs)) inside n tree.Rec ks e s f =
      let (simple, k) = chosen (list_all (is_simple_member b table) fs) (length fs) inside e in
      record {
        many = members_many fs ks simple f ∙ eqb-true (count ks) (length fs) s ∙ k;
        own = λ x. refl;
        below = members_quiet ks fs (n + 1) ks simple f;
      }
  members_simple d inside n l ks e s f = cc

  single_simple : (d : Option TypeDef) (inside n : ℕ) (l : Label) (ks : Trees) → is_single b d ≡ true → has_shape d l ks ≡ true → 0 ≡ inside
      → IsSimple d inside n l ks
  single_simple d inside n l ks a s e =
      let one = single_node b d l ks h n a s in
      record { many = ap node_count one.0 ∙ e; own = one.1; below = quiet_none (child_types d l ks) (child_agreements d ks) (n + 1) ks one.0 }

  any_simple : (d : Option TypeDef) (inside n : ℕ) (l : Label) (ks : Trees) → simple_nodes b table d ≡ Some inside → has_shape d l ks ≡ true
      → are_formed table (child_types d l ks) ks ≡ true → IsSimple d inside n l ks
  any_simple d inside n l ks e s f = go (is_single b d) refl
    where
      go : (x : Bool) → is_single b d ≡ x → IsSimple d inside n l ks
      go true a =
          let k : Some 0 ≡ Some inside = ap (λ x. cond x (Some 0) (simple_members b table d)) (sym a) ∙ e in
          single_simple d inside n l ks a s (same_Some 0 inside k)
      go false a = members_simple d inside n l ks (ap (λ x. cond x (Some 0) (simple_members b table d)) (sym a) ∙ e) s f

  -- what they find in values of one simple type
  pub record AllSimple (t inside k n : ℕ) (vs : Trees) : Type 0 where
    pub many : node_count vs ≡ count vs + count vs * inside
    pub quiet : Quiet (replicate k t) [] n vs

  pub all_simple : (t inside k n : ℕ) (vs : Trees) → simple_nodes b table (type_at table t) ≡ Some inside → are_formed table (replicate k t) vs ≡ true
      → AllSimple t inside k n vs
  all_simple t inside k n none e f = record { many = let m : 0 * inside ≡ 0 = zero-mul inside in omega (arith, m); quiet = record { named = λ x. refl; agree = refl } }
  all_simple t inside zero n (more v vs) e f = cc
  all_simple t inside (suc k) n (more (node l ks) vs) e f =
      let form : HasForm table t l ks = first_formed table t (replicate k t) l ks vs f in
      let one : IsSimple (type_at table t) inside n l ks = any_simple (type_at table t) inside n l ks e form.shape form.kids in
      let later : AllSimple t inside k (n + 1 + node_count ks) vs = all_simple t inside k (n + 1 + node_count ks) vs e (rest_formed table t (replicate k t) (node l ks) vs f) in
      record {
        many = let m : suc (count vs) * inside ≡ count vs * inside + inside = suc-mul (count vs) inside in omega (arith, one.many, later.many, m);
        quiet = quiet_more t (replicate k t) [] n l ks vs refl one.own one.below later.quiet;
      }

-- a graph without values
abbrev pub no_graph : Graph
no_graph = record { roots = []; cells = [] }

-- the pointers that were found are all, where there are no more
pub nothing_found : (found more_found : List CellPointer) → more_found ≡ [] → found ≡ found ++ more_found
nothing_found found more_found e = sym (ap (λ ps. found ++ ps) e ∙ append-nil found)

-- the nodes of one simple value
pub one_value : (v : Tree) (inside : ℕ) → node_count (more v none) ≡ count (more v none) + count (more v none) * inside → node_count (more v none) ≡ 1 + inside
one_value v inside e = e ∙ ap (λ k. 1 + k) (one-mul inside)

module _ (vs : List Tree) (n inside total : ℕ) (counted : total ≡ length vs) (nodes : node_count (trees vs) ≡ count (trees vs) + count (trees vs) * inside) where
  all_nodes : total + total * inside ≡ node_count (trees vs)
  all_nodes = ap (λ k. k + k * inside) (counted ∙ sym (count_trees vs)) ∙ sym nodes

  -- the nodes of simple values fit among those that are numbered
  pub simple_few : n + node_count (trees vs) < 2 ^ 32 → n + (total + total * inside) < 2 ^ 32
  simple_few few = subst (λ k. n + k < 2 ^ 32) (sym all_nodes) few

  -- the number after them
  pub simple_after : n + (total + total * inside) ≡ n + node_count (trees vs)
  simple_after = ap (λ k. n + k) all_nodes
