-- The numbers of the rounds are the alignments of types, and whether they hoist.
use Rattle.std.proofs.Common.{◌≡◌, ◌∙◌, ℕ, zero, suc, ◌+◌, Bool, true, false, List, [], ◌∷◌, Option, Some, None, refl, ap, sym, arith, ◌≤◌, ◌-◌, option_map, zero-add, suc-add}
use Rattle.std.specs.List.{list_all, slice_get}
use Rattle.std.proofs.lemmas.Option.{slice_get-map}
use Rattle.nd_types.specs.declared.types.TypeDef.{TypeDef}
use Rattle.nd_types.specs.declared.TheConstants.{NESTING_LIMIT}
use Rattle.nd_types.specs.Table.{Table, type_at}
use Rattle.nd_types.specs.Layout.{parts, align_of, align_by, align_within, hoists, hoists_by, hoists_within}
use Rattle.nd_types.specs.declared.layouts.Layout.{Layout}
use Rattle.nd_types.specs.Rounds.{align_found, hoists_found, align_in, hoists_in, layout_by, round, unknown, layouts_after, layouts_of}
use Rattle.nd_types.proofs.LayoutLaws.{align_alike, hoists_alike}

any : ℕ → Bool
any t = true

all_any : (us : List ℕ) → list_all any us ≡ true
unfolding any
all_any [] = refl
all_any (u ∷ us) = all_any us

pub align_after : (k : ℕ) (table : Table) (t : ℕ) → align_in (layouts_after k table) t ≡ align_within k table t
align_after zero table t = ap align_found (slice_get-map unknown table t) ∙ by (slice_get table t) where
  by : (d : Option TypeDef) → align_found (option_map unknown d) ≡ 1
  by None = refl
  by (Some d) = refl
align_after (suc k) table t =
    ap align_found (slice_get-map (layout_by table (layouts_after k table)) table t) ∙ by (slice_get table t)
    ∙ align_alike table any (align_in (layouts_after k table)) (align_within k table) (λ u h. align_after k table u) (type_at table t) (all_any (parts (type_at table t))) where
      by : (d : Option TypeDef) → align_found (option_map (layout_by table (layouts_after k table)) d) ≡ align_by table (align_in (layouts_after k table)) d
      by None = refl
      by (Some d) = refl

pub hoists_after : (k : ℕ) (table : Table) (t : ℕ) → hoists_in (layouts_after k table) t ≡ hoists_within k table t
hoists_after zero table t = ap hoists_found (slice_get-map unknown table t) ∙ by (slice_get table t) where
  by : (d : Option TypeDef) → hoists_found (option_map unknown d) ≡ false
  by None = refl
  by (Some d) = refl
hoists_after (suc k) table t =
    ap hoists_found (slice_get-map (layout_by table (layouts_after k table)) table t) ∙ by (slice_get table t)
    ∙ hoists_alike any (hoists_in (layouts_after k table)) (hoists_within k table) (λ u h. hoists_after k table u) (type_at table t) (all_any (parts (type_at table t))) where
      by : (d : Option TypeDef) → hoists_found (option_map (layout_by table (layouts_after k table)) d) ≡ hoists_by (hoists_in (layouts_after k table)) d
      by None = refl
      by (Some d) = refl

pub align_is : (table : Table) (t : ℕ) → align_in (layouts_of table) t ≡ align_of table t
unfolding layouts_of align_of
align_is table t = align_after NESTING_LIMIT table t

pub hoists_is : (table : Table) (t : ℕ) → hoists_in (layouts_of table) t ≡ hoists table t
unfolding layouts_of hoists
hoists_is table t = hoists_after NESTING_LIMIT table t

-- a round that changes nothing is followed by none that does
pub settled : (table : Table) (k j : ℕ) → layouts_after (suc k) table ≡ layouts_after k table → layouts_after (j + k) table ≡ layouts_after k table
settled table k zero h = ap (λ n. layouts_after n table) (zero-add k)
settled table k (suc j) h = ap (λ n. layouts_after n table) (suc-add j k) ∙ (ap (round table) (settled table k j h) ∙ h)

-- what is known when a round has changed nothing
pub stopped : (table : Table) (k n : ℕ) (ls : List Layout) → ls ≡ layouts_after k table → round table ls ≡ ls → k ≤ n → ls ≡ layouts_after n table
stopped table k n ls is same few =
    let still : layouts_after (suc k) table ≡ layouts_after k table = ap (round table) (sym is) ∙ same ∙ is in
    let all : n - k + k ≡ n = omega (arith, few) in
    is ∙ sym (settled table k (n - k) still) ∙ ap (λ m. layouts_after m table) all

-- after all rounds
pub after_all : (table : Table) → layouts_after NESTING_LIMIT table ≡ layouts_of table
unfolding layouts_of
after_all table = refl
