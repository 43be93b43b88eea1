-- How a comparison of attributes goes through the nodes of values.
use Rattle.std.proofs.Common.{◌≡◌, ℕ, ◌+◌, zero, suc, List, [], ◌∷◌, drop, Option, Some, None, Ok, Err, refl, ap, ap₂, sym, ◌∙◌, arith, map}
use Rattle.std.specs.List.{slice_get}
use Rattle.std.specs.Option.{option_map}
use Rattle.std.proofs.lemmas.Option.{slice_get-map}
use Rattle.nd_types.specs.declared.types.Field.{Field}
use Rattle.nd_types.specs.Table.{Table, type_at}
use Rattle.nd_value.specs.declared.value.Graph.{Graph}
use Rattle.nd_value.specs.declared.misfit.MisfitReason.{MisfitReason}
use Rattle.nd_value.specs.declared.misfit.NodeMisfit.{NodeMisfit}
use Rattle.nd_value.specs.Tree.{Tree, Trees, Label, node, none, more, trees, node_count}
use Rattle.nd_value.specs.Agreement.{Agreement, member_agreements}
use Rattle.nd_value.specs.Nodes.{child_types, child_agreements, first_agreements, rest_agreements}
use Rattle.nd_value.specs.Conforms.{disagreement_of}
use Rattle.nd_value.specs.Passes.{or_next, at_number}
use Rattle.nd_lemmas.proofs.Lists.{drop_next as drop-get}
use Rattle.nd_misfits.specs.Disagreeing.{subject_of, subject_in, disagreeing_in, Compared}
use Rattle.nd_misfits.proofs.FormWalk.{Counted, next_counted}

pub or_next-none : (o : Option NodeMisfit) → or_next o None ≡ o
or_next-none None = refl
or_next-none (Some m) = refl

-- where nothing is stated nothing disagrees
pub none_stated : (ts : List Tree) → disagreement_of ts [] ≡ None
none_stated [] = refl
none_stated (t ∷ ts) = refl

rest_drop : (ags : List (List Agreement)) (i : ℕ) → rest_agreements (drop i ags) ≡ drop (i + 1) ags
rest_drop [] zero = refl
rest_drop [] (suc i) = let m : suc (i + 1) ≡ suc i + 1 = omega arith in ap (λ k. drop {A = List Agreement} k []) m
rest_drop (a ∷ ags) zero = refl
rest_drop (a ∷ ags) (suc i) = let m : suc (i + 1) ≡ suc i + 1 = omega arith in rest_drop ags i ∙ ap (λ k. drop k (a ∷ ags)) m

-- what governs the i-th of values
abbrev pub governs : List (List Agreement) → ℕ → List Agreement
governs ags i = first_agreements (drop i ags)

pub governs_found : (ags : List (List Agreement)) (i : ℕ) (a : List Agreement) → slice_get ags i ≡ Some a → governs ags i ≡ a
governs_found ags i a e = ap first_agreements (drop-get ags i a e)

pub governs_none : (i : ℕ) → governs [] i ≡ []
governs_none zero = refl
governs_none (suc i) = refl

module _ (table : Table) (g : Graph) where
  -- the disagreement at a value's own node
  abbrev pub own : ℕ → List Agreement → Tree → Option NodeMisfit
  own n a v = at_number n (disagreement_of (subject_in g v) a)

  -- a value that nothing governs
  alone : (t n : ℕ) (l : Label) (ks : Trees)
      → disagreeing_in table g (t ∷ []) [] n (more (node l ks) none)
      ≡ disagreeing_in table g (child_types (type_at table t) l ks) (child_agreements (type_at table t) ks) (n + 1) ks
  alone t n l ks =
      let b : Option NodeMisfit = disagreeing_in table g (child_types (type_at table t) l ks) (child_agreements (type_at table t) ks) (n + 1) ks in
      ap₂ or_next (ap (at_number n) (none_stated (subject_of g l ks))) (or_next-none b)

  pub one_more : (t : ℕ) (types : List ℕ) (ags : List (List Agreement)) (n : ℕ) (v : Tree) (vs : Trees)
      → disagreeing_in table g (t ∷ types) ags n (more v vs)
      ≡ or_next (own n (first_agreements ags) v)
      (or_next (disagreeing_in table g (t ∷ []) [] n (more v none)) (disagreeing_in table g types (rest_agreements ags) (n + node_count (more v none)) vs))
  one_more t types ags n (node l ks) vs =
      let a : Option NodeMisfit = own n (first_agreements ags) (node l ks) in
      let b : Option NodeMisfit = disagreeing_in table g (child_types (type_at table t) l ks) (child_agreements (type_at table t) ks) (n + 1) ks in
      let m : n + 1 + node_count ks ≡ n + node_count (more (node l ks) none) = omega arith in
      ap (λ k. or_next a (or_next b (disagreeing_in table g types (rest_agreements ags) k vs))) m
      ∙ ap (λ x. or_next a (or_next x (disagreeing_in table g types (rest_agreements ags) (n + node_count (more (node l ks) none)) vs))) (sym (alone t n l ks))

  -- how far a comparison of a list of values has come
  pub record ComparedTo (types : List ℕ) (ags : List (List Agreement)) (vs : List Tree) (start i now : ℕ) : Type 0 where
    pub first : disagreeing_in table g types ags start (trees vs) ≡ disagreeing_in table g (drop i types) (drop i ags) now (trees (drop i vs))
    pub count : Counted vs start i now

  module _ (types : List ℕ) (ags : List (List Agreement)) (vs : List Tree) (start i now t : ℕ) (v : Tree) (typed : slice_get types i ≡ Some t)
      (there : slice_get vs i ≡ Some v) (w : ComparedTo types ags vs start i now) where
    here : disagreeing_in table g types ags start (trees vs)
        ≡ or_next (own now (governs ags i) v)
        (or_next (disagreeing_in table g (t ∷ []) [] now (more v none))
        (disagreeing_in table g (drop (i + 1) types) (drop (i + 1) ags) (now + node_count (more v none)) (trees (drop (i + 1) vs))))
    here =
        w.first ∙ ap₂ (λ ts us. disagreeing_in table g ts (drop i ags) now (trees us)) (drop-get types i t typed) (drop-get vs i v there)
        ∙ one_more t (drop (i + 1) types) (drop i ags) now v (trees (drop (i + 1) vs))
        ∙ ap (λ xs. or_next (own now (governs ags i) v) (or_next (disagreeing_in table g (t ∷ []) [] now (more v none))
        (disagreeing_in table g (drop (i + 1) types) xs (now + node_count (more v none)) (trees (drop (i + 1) vs))))) (rest_drop ags i)

    -- the value's own attributes do not all hold
    pub compare_here : (r : MisfitReason) → disagreement_of (subject_in g v) (governs ags i) ≡ Some r
        → Compared table g types ags start (trees vs) (Err (record { node = now; reason = r }))
    compare_here r e =
        here ∙ ap (λ o. or_next (at_number now o) (or_next (disagreeing_in table g (t ∷ []) [] now (more v none))
        (disagreeing_in table g (drop (i + 1) types) (drop (i + 1) ags) (now + node_count (more v none)) (trees (drop (i + 1) vs))))) e

    module _ (own_none : disagreement_of (subject_in g v) (governs ags i) ≡ None) where
      past_own : disagreeing_in table g types ags start (trees vs)
          ≡ or_next (disagreeing_in table g (t ∷ []) [] now (more v none))
          (disagreeing_in table g (drop (i + 1) types) (drop (i + 1) ags) (now + node_count (more v none)) (trees (drop (i + 1) vs)))
      past_own =
          here ∙ ap (λ o. or_next (at_number now o) (or_next (disagreeing_in table g (t ∷ []) [] now (more v none))
          (disagreeing_in table g (drop (i + 1) types) (drop (i + 1) ags) (now + node_count (more v none)) (trees (drop (i + 1) vs))))) own_none

      -- one value further
      pub compare_on : (m : ℕ) → Compared table g (t ∷ []) [] now (more v none) (Ok m) → ComparedTo types ags vs start (i + 1) m
      compare_on m s = record {
        first =
            past_own
            ∙ ap (λ o. or_next o (disagreeing_in table g (drop (i + 1) types) (drop (i + 1) ags) (now + node_count (more v none)) (trees (drop (i + 1) vs)))) s.0
            ∙ ap (λ k. disagreeing_in table g (drop (i + 1) types) (drop (i + 1) ags) k (trees (drop (i + 1) vs))) (sym s.1);
        count = next_counted vs start i now v there w.count m s.1;
      }

      -- a disagreement within this value
      pub compare_stop : (e : NodeMisfit) → Compared table g (t ∷ []) [] now (more v none) (Err e) → Compared table g types ags start (trees vs) (Err e)
      compare_stop e s =
          past_own ∙ ap (λ o. or_next o (disagreeing_in table g (drop (i + 1) types) (drop (i + 1) ags) (now + node_count (more v none)) (trees (drop (i + 1) vs)))) s

-- the agreements of a struct's members
pub get_agreements : (ks : Trees) (fs : List Field) (i : ℕ) (f : Field) → slice_get fs i ≡ Some f
    → slice_get (map (λ (x : Field). member_agreements ks x.vars) fs) i ≡ Some (member_agreements ks f.vars)
get_agreements ks fs i f e =
    slice_get-map (λ (x : Field). member_agreements ks x.vars) fs i ∙ ap (option_map (λ (x : Field). member_agreements ks x.vars)) e
