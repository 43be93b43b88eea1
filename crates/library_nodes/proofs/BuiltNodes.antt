-- What single nodes say, and what is built of them.
-- `table` are the types of an interface, `l` is what is left after a node, `m` and `n` what is left then, `s` is what the node says, `x` a node, `us` are
-- types of parts, `ks` parts, `zs` numbers, `os` octets.
use Rattle.std.proofs.Common.{◌≡◌, ◌∙◌, ◌≤◌, ◌<◌, ℕ, zero, suc, ◌+◌, ℤ, Bool, true, false, ◌&&◌, leb, eqb, List, [], ◌∷◌, ◌++◌, length, map, take, drop, replicate}
use Rattle.std.proofs.Common.{Option, Some, None, Result, Ok, Err, IfOk, IfErr, refl, sym, ap, subst, arith}
use Rattle.std.proofs.lemmas.List.{append-nil, length-take-le, length-replicate}
use Rattle.nd_types.specs.declared.types.Arm.{Arm}
use Rattle.nd_types.specs.declared.types.TypeDef.{TypeDef}
use Rattle.nd_types.specs.Table.{Table, type_at, selected}
use Rattle.nd_value.specs.declared.value.Val.{Val}
use Rattle.nd_value.specs.Nodes.{selected_types}
use Rattle.nd_value.specs.Tree as tree
use Rattle.nd_value.specs.Tree.{Flat, Label, Tree, Trees, count, flat, more, node, none, trees}
use Rattle.nd_misfits.proofs.NodeTests.{count_trees}
use Rattle.library_nodes.specs.declared.description.Description.{Description}
use Rattle.library_nodes.specs.declared.stop.Stop.{Stop}
use Rattle.library_nodes.specs.declared.stop.Stop.TheVariants.{Memory, At}
use Rattle.library_nodes.specs.Left.{Left, left, with_node}
use Rattle.library_nodes.specs.Listings.{Saying, Outcome, Said, Wrong, after, goes_on, said_from, said, saying, plain, numbered, numeric, elements_by, elements, united, armed}
use Rattle.library_nodes.specs.Listings.{has_form, has_parts, has_numbers, is_wide, is_numeral, meant, number_flat}
use Rattle.library_nodes.specs.Steps.{IsStop, Comes, Stops, IsValue, AreOf, AreValues, going, Builds, Halts, IsBuilt, AreBuilt, number_trees}
use Rattle.library_nodes.proofs.Outcomes.{after-after, stop-after, none_come}

-- ## A node that is wrong

pub halted : (table : Table) (s : Option Saying) (l : Left) (e : Stop) → s ≡ None → e ≡ At (suc (length l.nodes)) → Halts table s l e
halted table s l e nothing is =
    λ ts. subst (λ (x : Stop). IsStop x (going table s l.nodes ts)) (sym is) (ap (λ (o : Option Saying). going table o l.nodes ts) nothing)

pub plain_wrong : (table : Table) (test : Bool) (label : Label) (us zs os : List ℕ) (l : Left) (e : Stop) → test ≡ false → e ≡ At (suc (length l.nodes))
    → Halts table (plain test label us zs os) l e
plain_wrong table test label us zs os l e fails is = halted table (plain test label us zs os) l e (ap (λ (b : Bool). plain b label us zs os) fails) is

-- ## A node of a type

-- the nodes from one on say a value exactly as it and those after it do
said_at : (table : Table) (t : ℕ) (d : Option TypeDef) (x : Description) (l m : Left) → l ≡ with_node x m → type_at table t ≡ d → (ts : List ℕ)
    → said table (t ∷ ts) l ≡ going table (saying table d x m.numbers m.octets) m.nodes ts
said_at table t d x l m node_is type_is ts =
    ap (said table (t ∷ ts)) node_is ∙ ap (λ (o : Option TypeDef). going table (saying table o x m.numbers m.octets) m.nodes ts) type_is

pub value_of : (table : Table) (t : ℕ) (d : TypeDef) (x : Description) (l m n : Left) (r : Result Val Stop) → l ≡ with_node x m → type_at table t ≡ Some d
    → length l.nodes ≡ suc (length m.nodes) → IsBuilt table (saying table (Some d) x m.numbers m.octets) m n r → IsValue table t l n r
value_of table t d x l m n (Ok v) node_is type_is less b =
    record { goes = λ ts. said_at table t (Some d) x l m node_is type_is ts ∙ b.goes ts; less = omega (arith, less, b.less) }
value_of table t d x l m n (Err e) node_is type_is less h =
    λ ts. subst (IsStop e) (sym (said_at table t (Some d) x l m node_is type_is ts)) (h ts)

pub no_type : (table : Table) (t : ℕ) (x : Description) (l m : Left) (e : Stop) → l ≡ with_node x m → type_at table t ≡ None → e ≡ At (suc (length m.nodes))
    → Stops table (t ∷ []) l e
no_type table t x l m e node_is type_is is =
    λ ts. subst (IsStop e) (sym (said_at table t None x l m node_is type_is ts)) (halted table None m e refl is ts)

pub no_node : (table : Table) (t : ℕ) (l : Left) → l.nodes ≡ [] → Stops table (t ∷ []) l (At 0)
no_node table t l e = λ ts. ap (λ (xs : List Description). said_from table (t ∷ ts) xs l.numbers l.octets) e

-- ## A node and its parts

-- the nodes of a value: its own, and those of its parts
own_flat : (label : Label) (k : ℕ) (ks : Trees) → count ks ≡ k → (label, k) ∷ flat ks ≡ flat (more (node label ks) none)
own_flat label k ks e =
    ap (λ (j : ℕ). (label, j) ∷ flat ks) (sym e) ∙ ap (λ (fs : List Flat). (label, count ks) ∷ fs) (sym (append-nil (flat ks)))

pub plain_built : (table : Table) (test : Bool) (label : Label) (us zs os : List ℕ) (l n : Left) (ks : Trees) → test ≡ true → count ks ≡ length us
    → Comes table us (left l.nodes zs os) ks n → Builds table (plain test label us zs os) l (node label ks) n
plain_built table test label us zs os l n ks holds many k =
    record {
      goes = λ ts.
          ap (λ (b : Bool). going table (plain b label us zs os) l.nodes ts) holds
          ∙ ap (after ((label, length us) ∷ [])) (k.goes ts)
          ∙ after-after ((label, length us) ∷ []) (flat ks) (said table ts n)
          ∙ ap (λ (fs : List Flat). after fs (said table ts n)) (own_flat label (length us) ks many);
      less = k.less;
    }

-- a node without parts
pub leaf_built : (table : Table) (test : Bool) (label : Label) (zs os : List ℕ) (l n : Left) (v : Tree) → test ≡ true → v ≡ node label none → n ≡ left l.nodes zs os
    → Builds table (plain test label [] zs os) l v n
leaf_built table test label zs os l n v holds value_is left_is =
    subst (λ (u : Tree). Builds table (plain test label [] zs os) l u n) (sym value_is)
    (subst (λ (k : Left). Builds table (plain test label [] zs os) l (node label none) k) (sym left_is)
    (plain_built table test label [] zs os l (left l.nodes zs os) none holds refl (none_come table (left l.nodes zs os))))

-- a node whose parts are a list of values
pub parts_built : (table : Table) (test : Bool) (label : Label) (us : List ℕ) (l n : Left) (r : Result (List Tree) Stop) → test ≡ true → AreValues table us l n r
    → AreBuilt table (plain test label us l.numbers l.octets) label l n r
parts_built table test label us l n (Ok vs) holds a =
    plain_built table test label us l.numbers l.octets l n (trees vs) holds (count_trees vs ∙ a.count) a.come
parts_built table test label us l n (Err e) holds h =
    λ ts. subst (IsStop e) (sym (ap (λ (b : Bool). going table (plain b label us l.numbers l.octets) l.nodes ts) holds))
    (stop-after ((label, length us) ∷ []) e (said table (us ++ ts) l) (h ts))

-- a node with one part
pub part_built : (table : Table) (test : Bool) (label : Label) (t : ℕ) (l n : Left) (v : Tree) (vs : List Tree) → test ≡ true → Comes table (t ∷ []) l (more v none) n
    → vs ≡ v ∷ [] → Builds table (plain test label (t ∷ []) l.numbers l.octets) l (node label (trees vs)) n
part_built table test label t l n v vs holds a e =
    subst (λ (ws : List Tree). Builds table (plain test label (t ∷ []) l.numbers l.octets) l (node label (trees ws)) n) (sym e)
    (plain_built table test label (t ∷ []) l.numbers l.octets l n (more v none) holds refl a)

pub part_halts : (table : Table) (test : Bool) (label : Label) (t : ℕ) (l : Left) (e : Stop) → test ≡ true → Stops table (t ∷ []) l e
    → Halts table (plain test label (t ∷ []) l.numbers l.octets) l e
part_halts table test label t l e holds h =
    parts_built table test label (t ∷ []) l l (Err e) holds h

-- ## Numbers

number_flats : (wide : Bool) (us : List ℕ) → flat (trees (number_trees wide us)) ≡ map (number_flat wide) us
number_flats wide [] = refl
number_flats wide (u ∷ us) = ap (λ (fs : List Flat). number_flat wide u ∷ fs) (number_flats wide us)

number_count : (wide : Bool) (us : List ℕ) → length (number_trees wide us) ≡ length us
number_count wide [] = refl
number_count wide (u ∷ us) = ap suc (number_count wide us)

pub numeric_wrong : (table : Table) (wide : Bool) (kind : ℕ) (label : Label) (x : Description) (l : Left) (e : Stop)
    → (has_numbers x kind && leb x.count (length l.numbers)) ≡ false → e ≡ At (suc (length l.nodes)) → Halts table (numeric wide kind label x l.numbers l.octets) l e
numeric_wrong table wide kind label x l e fails is =
    halted table (numeric wide kind label x l.numbers l.octets) l e (ap (λ (b : Bool). numbered b wide label x.count l.numbers l.octets) fails) is

pub numeric_built : (table : Table) (wide : Bool) (kind : ℕ) (label : Label) (x : Description) (l n : Left) (vs : List Tree) (us : List ℕ)
    → (has_numbers x kind && leb x.count (length l.numbers)) ≡ true → x.count ≤ length l.numbers → us ≡ take x.count l.numbers → vs ≡ number_trees wide us
    → n ≡ left l.nodes (drop x.count l.numbers) l.octets → Builds table (numeric wide kind label x l.numbers l.octets) l (node label (trees vs)) n
numeric_built table wide kind label x l n vs us holds enough us_are vs_are left_is =
    let k = x.count in
    let many : count (trees vs) ≡ k =
    count_trees vs ∙ ap (λ (ws : List Tree). length ws) vs_are ∙ number_count wide us ∙ ap (λ (ws : List ℕ). length ws) us_are ∙ length-take-le k l.numbers enough in
    let own : (label, k) ∷ map (number_flat wide) (take k l.numbers) ≡ flat (more (node label (trees vs)) none) =
    ap (λ (ws : List ℕ). (label, k) ∷ map (number_flat wide) ws) (sym us_are) ∙ ap (λ (fs : List Flat). (label, k) ∷ fs) (sym (number_flats wide us))
    ∙ ap (λ (ws : List Tree). (label, k) ∷ flat (trees ws)) (sym vs_are) ∙ own_flat label k (trees vs) many in
    record {
      goes = λ ts.
          ap (λ (b : Bool). going table (numbered b wide label k l.numbers l.octets) l.nodes ts) holds
          ∙ ap (λ (m : Left). after ((label, k) ∷ map (number_flat wide) (take k l.numbers)) (said table ts m)) (sym left_is)
          ∙ ap (λ (fs : List Flat). after fs (said table ts n)) own;
      less = subst (λ (m : Left). length m.nodes ≤ length l.nodes) (sym left_is) (omega arith);
    }

-- ## Arrays, pipes, unions

-- elements by what their type is
pub elements_are : (table : Table) (b wide : Bool) (kind elem : ℕ) (label : Label) (x : Description) (l n : Left) (r : Result (List Tree) Stop)
    → is_numeral (type_at table elem) ≡ b → wide ≡ is_wide (type_at table elem) → AreBuilt table (elements_by b wide kind elem label x l.numbers l.octets) label l n r
    → AreBuilt table (elements table kind elem label x l.numbers l.octets) label l n r
elements_are table b wide kind elem label x l n r numeral_is wide_is h =
    subst (λ (s : Option Saying). AreBuilt table s label l n r)
    (ap (λ (w : Bool). elements_by b w kind elem label x l.numbers l.octets) wide_is
    ∙ ap (λ (c : Bool). elements_by c (is_wide (type_at table elem)) kind elem label x l.numbers l.octets) (sym numeral_is)) h

pub union_is : (table : Table) (wide : Bool) (arms : List Arm) (default : Option Arm) (x : Description) (us : List ℕ) (tag : ℤ) (l : Left) → tag ≡ meant wide x.number
    → us ≡ selected_types (selected arms default tag)
    → plain (has_form x 5 (length us)) (tree.Union tag) us l.numbers l.octets ≡ united wide arms default x l.numbers l.octets
union_is table wide arms default x us tag l tag_is us_are =
    ap (λ (ws : List ℕ). armed tag ws x l.numbers l.octets) us_are
    ∙ ap (λ (z : ℤ). armed z (selected_types (selected arms default z)) x l.numbers l.octets) tag_is

pub union_built : (table : Table) (wide : Bool) (arms : List Arm) (default : Option Arm) (x : Description) (us : List ℕ) (tag z : ℤ) (l n : Left) (ks : Trees)
    → tag ≡ meant wide x.number → us ≡ selected_types (selected arms default tag) → z ≡ tag
    → Builds table (plain (has_form x 5 (length us)) (tree.Union tag) us l.numbers l.octets) l (node (tree.Union tag) ks) n
    → Builds table (united wide arms default x l.numbers l.octets) l (node (tree.Union z) ks) n
union_built table wide arms default x us tag z l n ks tag_is us_are same b =
    subst (λ (y : ℤ). Builds table (united wide arms default x l.numbers l.octets) l (node (tree.Union y) ks) n) (sym same)
    (subst (λ (s : Option Saying). Builds table s l (node (tree.Union tag) ks) n) (union_is table wide arms default x us tag l tag_is us_are) b)

pub union_halts : (table : Table) (wide : Bool) (arms : List Arm) (default : Option Arm) (x : Description) (us : List ℕ) (tag : ℤ) (l : Left) (e : Stop)
    → tag ≡ meant wide x.number → us ≡ selected_types (selected arms default tag)
    → Halts table (plain (has_form x 5 (length us)) (tree.Union tag) us l.numbers l.octets) l e → Halts table (united wide arms default x l.numbers l.octets) l e
union_halts table wide arms default x us tag l e tag_is us_are h =
    subst (λ (s : Option Saying). Halts table s l e) (union_is table wide arms default x us tag l tag_is us_are) h

-- the value of an arm in its box, or memory was refused
pub arm_built : (table : Table) (test : Bool) (label : Label) (t : ℕ) (l n : Left) (v : Tree) (r : Result (List Tree) Stop) → test ≡ true
    → Comes table (t ∷ []) l (more v none) n → IfOk r (λ a. a ≡ v ∷ []) → IfErr r (λ e. e ≡ Memory)
    → AreBuilt table (plain test label (t ∷ []) l.numbers l.octets) label l n r
arm_built table test label t l n v (Ok vs) holds a one err = part_built table test label t l n v vs holds a one
arm_built table test label t l n v (Err e) holds a one err =
    λ ts. subst (λ (x : Stop). IsStop x (going table (plain test label (t ∷ []) l.numbers l.octets) l.nodes ts)) (sym err) tt
