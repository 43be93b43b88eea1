-- Values of a walk, one after the other.
use Rattle.std.proofs.Common.{◌≡◌, ℕ, ◌+◌, ◌-◌, ◌≤◌, suc, List, [], ◌∷◌, ◌++◌, length, refl, ap, ap₂, sym, ◌∙◌, subst, arith, length-append, zero, ◌<◌, take, Some}
use Rattle.std.specs.Prelude.{Result, Ok, Err, IfOk, Option}
use Rattle.std.specs.List.{slice_get}
use Rattle.std.proofs.lemmas.Option.{same_Some}
use Rattle.nd_value.specs.declared.value.Graph.{Graph}
use Rattle.nd_value.specs.Setting.{root_at, cell_at, cell_tree, or_unread}
use Rattle.nd_flat.specs.Building.{referent_type}
use Rattle.nd_value.specs.Tree.{Tree, Trees, Flat, node, none, more, trees, count, flat, take_trees, drop_trees, joined, Referent}
use Rattle.nd_flat.specs.Forest.{first_tree}
use Rattle.nd_flat.proofs.Forests.{walked, joined-none, flat-joined, joined-take-drop}
use Rattle.nd_lemmas.proofs.Lists.{item_at as there_is, take_next as take_more}

-- fewer nodes are left without the first of trees
drop_short : (k : ℕ) (us : Trees) → length (flat (drop_trees k us)) ≤ length (flat us)
drop_short k us =
    let e : flat (take_trees k us) ++ flat (drop_trees k us) ≡ flat us = sym (flat-joined (take_trees k us) (drop_trees k us)) ∙ ap flat (joined-take-drop k us) in
    omega (arith, ap length e, length-append (flat (take_trees k us)) (flat (drop_trees k us)))

-- so many values are to come after these
pub record Coming (number : ℕ) (start : Trees) (k : ℕ) (now : Trees) (vs : List Tree) : Type 0 where
  pub some : k ≤ count now
  pub rest : drop_trees k now ≡ drop_trees number start
  pub all : joined (trees vs) (take_trees k now) ≡ take_trees number start
  pub shorter : length (flat now) ≤ length (flat start)

last_more : (vs : List Tree) (v : Tree) (us : Trees) → joined (trees (vs ++ v ∷ [])) us ≡ joined (trees vs) (more v us)
last_more [] v us = refl
last_more (x ∷ vs) v us = ap (more x) (last_more vs v us)

coming_step : (number : ℕ) (start : Trees) (m : ℕ) (now : Trees) (vs : List Tree) (next : Trees) (v : Tree) → Coming number start (suc m) now vs
    → next ≡ drop_trees 1 now → v ≡ first_tree now → Coming number start m next (vs ++ v ∷ [])
coming_step number start m none vs next v h e f = let s : suc m ≤ 0 = h.some in absurd (omega arith)
coming_step number start m (more t ts) vs next v h e f = record {
  some = let s : suc m ≤ suc (count ts) = h.some in let c : count next ≡ count ts = ap count e in omega (arith, s, c);
  rest = ap (drop_trees m) e ∙ h.rest;
  all = ap (λ us. joined (trees (vs ++ v ∷ [])) (take_trees m us)) e ∙ last_more vs v (take_trees m ts) ∙ ap (λ u. joined (trees vs) (more u (take_trees m ts))) f ∙ h.all;
  shorter =
      let a : length (flat next) ≡ length (flat (drop_trees 1 (more t ts))) = ap (λ us. length (flat us)) e in
      let b : length (flat (more t ts)) ≤ length (flat start) = h.shorter in
      omega (arith, a, b, drop_short 1 (more t ts));
}

pub coming_on : (number : ℕ) (start : Trees) (i : ℕ) (now : Trees) (vs : List Tree) (next : Trees) (v : Tree) (vs' : List Tree) → suc i ≤ number → Coming number start (number - i) now vs
    → next ≡ drop_trees 1 now → v ≡ first_tree now → vs' ≡ vs ++ v ∷ [] → Coming number start (number - (i + 1)) next vs'
coming_on number start i now vs next v vs' l h e f g =
    let n : number - i ≡ suc (number - (i + 1)) = omega (arith, l) in
    subst (λ ws. Coming number start (number - (i + 1)) next ws) (sym g)
    (coming_step number start (number - (i + 1)) now vs next v (subst (λ k. Coming number start k now vs) n h) e f)

pub coming_end : (number : ℕ) (start : Trees) (k : ℕ) (now : Trees) (vs : List Tree) → k ≡ 0 → Coming number start k now vs → (now ≡ drop_trees number start) × (trees vs ≡ take_trees number start)
coming_end number start k now vs z h =
    let g : Coming number start 0 now vs = subst (λ j. Coming number start j now vs) z h in
    (g.rest, sym (joined-none (trees vs)) ∙ g.all)

pub first_of : (old new : Trees) (f : Flat) → flat old ≡ f ∷ flat new → first_tree old ≡ node f.0 (take_trees f.1 new)
first_of old new f e = ap first_tree (walked old new f e)

pub ok_as : {T E : Type 0} (r : Result T E) (P Q : T → Type 0) → ((x : T) → P x → Q x) → IfOk r P → IfOk r Q
ok_as (Ok x) P Q f h = f x h
ok_as (Err e) P Q f h = h

-- the first of a list, and one more
take_next : {A : Type 0} (xs : List A) (i : ℕ) (x : A) → slice_get xs i ≡ Some x → take (suc i) xs ≡ take i xs ++ x ∷ []
take_next [] i x e = cc
take_next (y ∷ ys) zero x e = ap (λ z. z ∷ []) (same_Some y x e)
take_next (y ∷ ys) (suc i) x e = ap (λ zs. y ∷ zs) (take_next ys i x e)

take_all : {A : Type 0} (xs : List A) (i : ℕ) → length xs ≤ i → take i xs ≡ xs
take_all [] zero l = refl
take_all [] (suc i) l = refl
take_all (x ∷ xs) zero l = absurd (omega (arith, l))
take_all (x ∷ xs) (suc i) l = ap (λ ys. x ∷ ys) (take_all xs i (omega (arith, l)))

-- one root more was made
pub root_more : (g : Graph) (i : ℕ) (vs vs' : List Tree) (v : Tree) → i < length g.roots → vs ≡ take i g.roots → v ≡ root_at g i → vs' ≡ vs ++ v ∷ []
    → vs' ≡ take (i + 1) g.roots
root_more g i vs vs' v l h e f =
    let t = there_is g.roots i l in
    f ∙ ap₂ (λ xs x. xs ++ x ∷ []) h (e ∙ ap or_unread t.1) ∙ sym (take_more g.roots i t.0 t.1)

pub all_made : {A : Type 0} (xs ys : List A) (i : ℕ) → length xs ≤ i → ys ≡ take i xs → ys ≡ xs
all_made xs ys i l h = h ∙ take_all xs i l

-- one cell more was made
pub cell_more : (g : Graph) (i : ℕ) (xs xs' : List Referent) (x : Referent) → i < length g.cells → xs ≡ take i g.cells
    → x ≡ record { of = referent_type (slice_get g.cells i); val = cell_at g (suc i) } → xs' ≡ xs ++ x ∷ [] → xs' ≡ take (i + 1) g.cells
cell_more g i xs xs' x l h e f =
    let t = there_is g.cells i l in
    let one : Option Referent → Referent = λ o. record { of = referent_type o; val = cell_tree o } in
    f ∙ ap₂ (λ ys y. ys ++ y ∷ []) h (e ∙ ap one t.1) ∙ sym (take_more g.cells i t.0 t.1)
