-- How a search goes through the nodes of values.
use Rattle.std.proofs.Common.{◌≡◌, ℕ, ◌+◌, ◌^◌, ◌<◌, ◌≤◌, zero, suc, true, ◌&&◌, List, [], ◌∷◌, length, drop, Option, Some, None, Ok, Err, refl, ap, ap₂, sym, ◌∙◌, arith, subst, map, replicate}
use Rattle.std.specs.List.{slice_get}
use Rattle.std.specs.Option.{option_map}
use Rattle.std.proofs.lemmas.Bool.{and_parts}
use Rattle.std.proofs.lemmas.Option.{same_Some, slice_get-map}
use Rattle.nd_types.specs.declared.types.Field.{Field}
use Rattle.nd_types.specs.Table.{Table, type_at}
use Rattle.nd_value.specs.declared.value.Graph.{Graph}
use Rattle.nd_value.specs.declared.misfit.NodeMisfit.{NodeMisfit}
use Rattle.nd_value.specs.Tree.{Tree, Trees, node, none, more, trees, node_count}
use Rattle.nd_value.specs.Nodes.{child_types}
use Rattle.nd_value.specs.Misfit.{misfit_by, has_machine_values}
use Rattle.nd_value.specs.Conforms.{FewNodes}
use Rattle.nd_misfits.specs.Searched.{Searched, have_machine_values}
use Rattle.nd_value.specs.Passes.{or_next, at_number, first_in}
use Rattle.nd_lemmas.proofs.Lists.{drop_next as drop-get, drop_past as drop-past}
use Rattle.nd_misfits.proofs.AgreementWalk.{or_next-none}

or_next-assoc : (a b c : Option NodeMisfit) → or_next (or_next a b) c ≡ or_next a (or_next b c)
or_next-assoc None b c = refl
or_next-assoc (Some m) b c = refl

-- a value of the program before others
pub machine_rest : (v : Tree) (vs : Trees) → have_machine_values (more v none) ≡ true → have_machine_values (more v vs) ≡ have_machine_values vs
machine_rest (node l ks) vs e =
    let (a, b) = and_parts (has_machine_values l) (have_machine_values ks && true) e in
    let (c, d) = and_parts (have_machine_values ks) true b in
    ap₂ (λ x y. x && (y && have_machine_values vs)) a c

-- one value more of a list
pub machine_next : (vs : List Tree) (i : ℕ) (v : Tree) → slice_get vs i ≡ Some v → have_machine_values (more v none) ≡ true
    → have_machine_values (trees (drop i vs)) ≡ have_machine_values (trees (drop (i + 1) vs))
machine_next vs i v there e = ap (λ us. have_machine_values (trees us)) (drop-get vs i v there) ∙ machine_rest v (trees (drop (i + 1) vs)) e

pub machine_end : (vs : List Tree) (i : ℕ) → length vs ≤ i → have_machine_values (trees (drop i vs)) ≡ true
machine_end vs i past = ap (λ us. have_machine_values (trees us)) (drop-past vs i past)

module _ (table : Table) (g : Graph) where
  one_more : (t : ℕ) (types : List ℕ) (n : ℕ) (v : Tree) (vs : Trees)
      → first_in table g (t ∷ types) n (more v vs)
      ≡ or_next (first_in table g (t ∷ []) n (more v none)) (first_in table g types (n + node_count (more v none)) vs)
  one_more t types n (node l ks) vs =
      let a : Option NodeMisfit = at_number n (misfit_by table g (type_at table t) l ks) in
      let b : Option NodeMisfit = first_in table g (child_types (type_at table t) l ks) (n + 1) ks in
      let m : n + 1 + node_count ks ≡ n + node_count (more (node l ks) none) = omega arith in
      ap (λ k. or_next a (or_next b (first_in table g types k vs))) m
      ∙ sym (or_next-assoc a b (first_in table g types (n + node_count (more (node l ks) none)) vs))
      ∙ ap (λ o. or_next (or_next a o) (first_in table g types (n + node_count (more (node l ks) none)) vs)) (sym (or_next-none b))

  -- how far a search through a list of values has come
  pub record Walked (types : List ℕ) (vs : List Tree) (start i now : ℕ) : Type 0 where
    pub first : first_in table g types start (trees vs) ≡ first_in table g (drop i types) now (trees (drop i vs))
    pub count : now + node_count (trees (drop i vs)) ≡ start + node_count (trees vs)
    pub machine : have_machine_values (trees vs) ≡ have_machine_values (trees (drop i vs))

  split_count : (v : Tree) (vs : List Tree) → node_count (trees (v ∷ vs)) ≡ node_count (more v none) + node_count (trees vs)
  split_count (node l ks) vs = omega arith

  module _ (types : List ℕ) (vs : List Tree) (start i now t : ℕ) (v : Tree) (typed : slice_get types i ≡ Some t) (there : slice_get vs i ≡ Some v) (w : Walked types vs start i now) where
    here : first_in table g types start (trees vs)
        ≡ or_next (first_in table g (t ∷ []) now (more v none)) (first_in table g (drop (i + 1) types) (now + node_count (more v none)) (trees (drop (i + 1) vs)))
    here =
        w.first ∙ ap₂ (λ ts us. first_in table g ts now (trees us)) (drop-get types i t typed) (drop-get vs i v there)
        ∙ one_more t (drop (i + 1) types) now v (trees (drop (i + 1) vs))

    parts : now + (node_count (more v none) + node_count (trees (drop (i + 1) vs))) ≡ start + node_count (trees vs)
    parts = ap (λ k. now + k) (sym (ap (λ us. node_count (trees us)) (drop-get vs i v there) ∙ split_count v (drop (i + 1) vs))) ∙ w.count

    -- the next value fits among the nodes that are numbered
    pub walk_few : now + node_count (more v none) ≤ start + node_count (trees vs)
    walk_few = omega (arith, parts)

    pub walk_smaller : node_count (more v none) ≤ node_count (trees vs)
    walk_smaller = smaller vs i there
      where
        smaller : (vs : List Tree) (i : ℕ) → slice_get vs i ≡ Some v → node_count (more v none) ≤ node_count (trees vs)
        smaller [] i e = cc
        smaller (u ∷ us) zero e = let s : node_count (more u none) ≡ node_count (more v none) = ap (λ x. node_count (more x none)) (same_Some u v e) in omega (arith, s, split_count u us)
        smaller (u ∷ us) (suc i) e = omega (arith, smaller us i e, split_count u us)

    -- one value further
    pub walk_on : (m : ℕ) → Searched table g (t ∷ []) now (more v none) (Ok m) → Walked types vs start (i + 1) m
    walk_on m s = record {
      first =
          here ∙ ap (λ o. or_next o (first_in table g (drop (i + 1) types) (now + node_count (more v none)) (trees (drop (i + 1) vs)))) s.0
          ∙ ap (λ k. first_in table g (drop (i + 1) types) k (trees (drop (i + 1) vs))) (sym s.1);
      count = omega (arith, parts, s.1);
      machine = w.machine ∙ machine_next vs i v there s.2;
    }

    -- a misfit in this value
    pub walk_stop : (e : NodeMisfit) → Searched table g (t ∷ []) now (more v none) (Err e) → Searched table g types start (trees vs) (Err e)
    walk_stop e s = here ∙ ap (λ o. or_next o (first_in table g (drop (i + 1) types) (now + node_count (more v none)) (trees (drop (i + 1) vs)))) s

pub get_replicate : {X : Type 0} (n i : ℕ) (x : X) → i < n → slice_get (replicate n x) i ≡ Some x
get_replicate zero i x h = absurd (omega (arith, h))
get_replicate (suc n) zero x h = refl
get_replicate (suc n) (suc i) x h = get_replicate n i x (omega (arith, h))

pub get_field : (fs : List Field) (i : ℕ) (f : Field) → slice_get fs i ≡ Some f → slice_get (map (λ x. x.of.0) fs) i ≡ Some f.of.0
get_field fs i f e = slice_get-map (λ (x : Field). x.of.0) fs i ∙ ap (option_map (λ (x : Field). x.of.0)) e

-- each value of a list has few nodes
pub few_at : (vs : List Tree) (i : ℕ) (v : Tree) → FewNodes vs → slice_get vs i ≡ Some v → node_count (more v none) < 2 ^ 32
few_at [] i v h e = cc
few_at (u ∷ us) zero v h e = subst (λ x. node_count (more x none) < 2 ^ 32) (same_Some u v e) h.0
few_at (u ∷ us) (suc i) v h e = few_at us i v h.1 e
