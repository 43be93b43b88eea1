-- The nodes of values that are left in a walk, with their paths.
-- `types` and `T` are types of values, `paths` and `P` their paths, `ks` are the children of a node, `us` and `w` values, `n` is a node's number.
use Rattle.std.proofs.Common.{◌≡◌, ℕ, ◌+◌, ◌<◌, ◌≤◌, zero, suc, true, false, List, [], ◌∷◌, ◌++◌, length, drop, Option, None, Some, refl, ap, ap₂, sym, ◌∙◌, subst, append_assoc, add-zero, arith}
use Rattle.std.proofs.Common.{length-append}
use Rattle.std.specs.List.{slice_get}
use Rattle.std.proofs.lemmas.Bool.{eq-eqb, ne_eqb}
use Rattle.std.proofs.lemmas.List.{drop-drop}
use Rattle.nd_types.specs.Table.{Table, type_at}
use Rattle.nd_value.specs.Tree.{Trees, Flat, Label, node, none, more, count, node_count, joined, flat, take_trees, drop_trees}
use Rattle.nd_value.specs.Nodes.{child_types}
use Rattle.text_grammar.specs.Paths.{node_paths, child_paths}
use Rattle.text_printer.specs.Walks.{Begins}
use Rattle.text_printer.proofs.Walking.{stepped, has_next}
use Rattle.ndr_explain.specs.declared.levels.Level.{Level}
use Rattle.ndr_explain.specs.Explained.{path_in}
use Rattle.ndr_explain.specs.Cursors.{inner_types, inner_paths, IsLevelOf, IsChildLevel}
use Rattle.ndr_explain.proofs.LevelPaths.{same_length}
use Rattle.nd_flat.proofs.Forests.{joined-take-drop as parted}

count_joined : (ks us : Trees) → count (joined ks us) ≡ count ks + count us
count_joined none us = omega arith
count_joined (more t ks) us = let h = count_joined ks us in omega (arith, h)

begins_joined : (table : Table) (types T : List ℕ) (ks us : Trees) → count ks ≡ length types → Begins table types ks → Begins table T us → Begins table (types ++ T) (joined ks us)
begins_joined table [] T none us e b c = c
begins_joined table [] T (more t ks) us e b c = cc
begins_joined table (t ∷ types) T none us e b c = cc
begins_joined table (t ∷ types) T (more (node l js) ks) us e b c =
    let e' : count ks ≡ length types = omega (arith, e) in
    (b.0, begins_joined table types T ks us e' b.1 c)

pub no_paths : (table : Table) (paths : List (List ℕ)) (n : ℕ) (w : Trees) → node_paths table [] paths n w ≡ []
no_paths table [] n w = refl
no_paths table (p ∷ paths) n w = refl

-- the nodes of some values, and then of others
paths_joined : (table : Table) (types T : List ℕ) (paths P : List (List ℕ)) (n : ℕ) (ks us : Trees) → count ks ≡ length types → length paths ≡ length types
    → node_paths table (types ++ T) (paths ++ P) n (joined ks us) ≡ node_paths table types paths n ks ++ node_paths table T P (n + node_count ks) us
paths_joined table [] T [] P n none us e f = ap (λ m. node_paths table T P m us) (sym (add-zero n))
paths_joined table [] T (p ∷ paths) P n none us e f = cc
paths_joined table [] T paths P n (more t ks) us e f = cc
paths_joined table (t ∷ types) T paths P n none us e f = cc
paths_joined table (t ∷ types) T [] P n (more (node l js) ks) us e f = cc
paths_joined table (t ∷ types) T (p ∷ paths) P n (more (node l js) ks) us e f =
    let e' : count ks ≡ length types = omega (arith, e) in
    let f' : length paths ≡ length types = omega (arith, f) in
    let a = node_paths table (child_types (type_at table t) l js) (child_paths (type_at table t) l p js) (n + 1) js in
    let b = node_paths table types paths (n + 1 + node_count js) ks in
    let num : n + 1 + node_count js + node_count ks ≡ n + suc (node_count js + node_count ks) = omega arith in
    ap (λ xs. (n, p) ∷ (a ++ xs)) (paths_joined table types T paths P (n + 1 + node_count js) ks us e' f')
    ∙ ap (λ xs. (n, p) ∷ xs) (sym (append_assoc a b (node_paths table T P (n + 1 + node_count js + node_count ks) us)))
    ∙ ap (λ m. (n, p) ∷ ((a ++ b) ++ node_paths table T P m us)) num

-- What comes after a node: its children, of which there may be none, and then the values after it.
pub record ComesAfter (table : Table) (types : List ℕ) (paths : List (List ℕ)) (t : ℕ) (p : List ℕ) (T : List ℕ) (P : List (List ℕ)) (n : ℕ) (w w1 : Trees) : Type 0 where
  pub nodes : node_paths table (t ∷ T) (p ∷ P) n w ≡ (n, p) ∷ node_paths table types paths (n + 1) w1
  pub begins : Begins table types w1
  pub all : count w1 ≡ length types

module _ (table : Table) (t : ℕ) (p : List ℕ) (T : List ℕ) (P : List (List ℕ)) (n : ℕ) (l : Label) (ks us : Trees) (inner : Option Level) where
  same_types : IsLevelOf (child_types (type_at table t) l ks) (λ q. child_paths (type_at table t) l q ks) inner → inner_types inner ≡ child_types (type_at table t) l ks
  same_types h = by_inner inner h
    where
      by_inner : (i : Option Level) → IsLevelOf (child_types (type_at table t) l ks) (λ q. child_paths (type_at table t) l q ks) i → inner_types i ≡ child_types (type_at table t) l ks
      by_inner None e = sym e
      by_inner (Some L) k = k.0.1

  same_nodes : IsLevelOf (child_types (type_at table t) l ks) (λ q. child_paths (type_at table t) l q ks) inner
      → node_paths table (child_types (type_at table t) l ks) (child_paths (type_at table t) l p ks) (n + 1) ks ≡ node_paths table (inner_types inner) (inner_paths p inner) (n + 1) ks
  same_nodes h = by_inner inner h
    where
      by_inner : (i : Option Level) → IsLevelOf (child_types (type_at table t) l ks) (λ q. child_paths (type_at table t) l q ks) i
          → node_paths table (child_types (type_at table t) l ks) (child_paths (type_at table t) l p ks) (n + 1) ks ≡ node_paths table (inner_types i) (inner_paths p i) (n + 1) ks
      by_inner None e =
          ap (λ ts. node_paths table ts (child_paths (type_at table t) l p ks) (n + 1) ks) e ∙ no_paths table (child_paths (type_at table t) l p ks) (n + 1) ks ∙ sym (no_paths table [] (n + 1) ks)
      by_inner (Some L) k = ap₂ (λ ts ps. node_paths table ts ps (n + 1) ks) (sym k.0.1) (sym (k.1 p))

  after_node : IsLevelOf (child_types (type_at table t) l ks) (λ q. child_paths (type_at table t) l q ks) inner → Begins table (t ∷ T) (more (node l ks) us) → count us ≡ length T
      → ComesAfter table (inner_types inner ++ T) (inner_paths p inner ++ P) t p T P n (more (node l ks) us) (joined ks us)
  after_node h b e =
      let s = same_types h in
      let c : count ks ≡ length (inner_types inner) = b.0.0 ∙ sym (ap length s) in
      record {
        nodes =
            ap (λ xs. (n, p) ∷ (xs ++ node_paths table T P (n + 1 + node_count ks) us)) (same_nodes h)
            ∙ ap (λ xs. (n, p) ∷ xs) (sym (paths_joined table (inner_types inner) T (inner_paths p inner) P (n + 1) ks us c (same_length p inner)));
        begins = begins_joined table (inner_types inner) T ks us c (subst (λ ts. Begins table ts ks) (sym s) b.0.1) b.1;
        all = count_joined ks us ∙ ap₂ (λ i j. i + j) c e ∙ sym (length-append (inner_types inner) T);
      }

-- the same of the values that a walk has left
pub after_step : (table : Table) (t : ℕ) (p : List ℕ) (T : List ℕ) (P : List (List ℕ)) (n : ℕ) (f : Flat) (w w1 : Trees) (inner : Option Level) → flat w ≡ f ∷ flat w1
    → IsChildLevel table t f inner → Begins table (t ∷ T) w → count w ≡ length (t ∷ T)
    → ComesAfter table (inner_types inner ++ T) (inner_paths p inner ++ P) t p T P n w w1
after_step table t p T P n (l, k) w w1 inner e h b c =
    let ks = take_trees k w1 in
    let us = drop_trees k w1 in
    let is : w ≡ more (node l ks) us = stepped w w1 l k e in
    let b' : Begins table (t ∷ T) (more (node l ks) us) = subst (λ v. Begins table (t ∷ T) v) is b in
    let c' : count us ≡ length T = let d : suc (count us) ≡ suc (length T) = sym (ap count is) ∙ c in omega (arith, d) in
    let r = after_node table t p T P n l ks us inner (h ks (has_next w w1 l k e)) b' c' in
    subst (λ v. ComesAfter table (inner_types inner ++ T) (inner_paths p inner ++ P) t p T P n v w1) (sym is)
    (subst (λ v. ComesAfter table (inner_types inner ++ T) (inner_paths p inner ++ P) t p T P n (more (node l ks) us) v) (parted k w1) r)

-- ## Look-ups

pub path_here : (n : ℕ) (p : List ℕ) (xs : List (ℕ × List ℕ)) → path_in ((n, p) ∷ xs) n ≡ p
path_here n p xs = ap (λ b. elim b [ true ↦ p | false ↦ path_in xs n ]) (eq-eqb n n refl)

pub path_later : (n m : ℕ) (p : List ℕ) (xs : List (ℕ × List ℕ)) → n < m → path_in ((n, p) ∷ xs) m ≡ path_in xs m
path_later n m p xs h = ap (λ b. elim b [ true ↦ p | false ↦ path_in xs m ]) (ne_eqb n m (λ e. absurd (omega (arith, e, h))))

pub drop_next : {X : Type 0} (fs : List X) (n : ℕ) (f : X) (gs : List X) → drop n fs ≡ f ∷ gs → drop (n + 1) fs ≡ gs
drop_next fs n f gs e = sym (drop-drop 1 n fs) ∙ ap (drop 1) e

pub got_first : {X : Type 0} (fs : List X) (n : ℕ) (f : X) (gs : List X) → drop n fs ≡ f ∷ gs → slice_get fs n ≡ Some f
got_first [] zero f gs e = cc
got_first [] (suc n) f gs e = cc
got_first (x ∷ fs) zero f gs e = cc
got_first (x ∷ fs) (suc n) f gs e = got_first fs n f gs e

pub got_none : {X : Type 0} (fs : List X) (n m : ℕ) → drop n fs ≡ [] → n ≤ m → slice_get fs m ≡ None
got_none [] n m e h = refl
got_none (x ∷ fs) zero m e h = cc
got_none (x ∷ fs) (suc n) zero e h = absurd (omega (arith, h))
got_none (x ∷ fs) (suc n) (suc m) e h = got_none fs n m e (omega (arith, h))
