-- What nodes come to, one after the other.
-- `table` are the types of an interface, `l`, `m` and `n` are what is left of a listing, `us` are types, `vs` and `ws` values, `fs` and `gs` nodes of values.
use Rattle.std.proofs.Common.{◌≡◌, ◌∙◌, ◌≤◌, ℕ, zero, suc, ◌+◌, List, [], ◌∷◌, ◌++◌, length, Some, refl, sym, ap, subst, append_assoc, arith}
use Rattle.nd_types.specs.Table.{Table}
use Rattle.nd_value.specs.Tree.{Flat, Tree, Trees, flat, more, none, trees}
use Rattle.nd_flat.proofs.Forests.{flat-more}
use Rattle.library_nodes.specs.declared.stop.Stop.{Stop}
use Rattle.library_nodes.specs.declared.stop.Stop.TheVariants.{Memory, At}
use Rattle.library_nodes.specs.Left.{Left}
use Rattle.library_nodes.specs.Listings.{Outcome, Said, Wrong, after, said}
use Rattle.library_nodes.specs.Steps.{IsStop, Comes, Stops}

pub after-none : (o : Outcome) → after [] o ≡ o
after-none (Said fs) = refl
after-none (Wrong k) = refl

pub after-after : (fs gs : List Flat) (o : Outcome) → after fs (after gs o) ≡ after (fs ++ gs) o
after-after fs gs (Said hs) = ap Said (sym (append_assoc fs gs hs))
after-after fs gs (Wrong k) = refl

pub stop-after : (fs : List Flat) (e : Stop) (o : Outcome) → IsStop e o → IsStop e (after fs o)
stop-after fs Memory o h = tt
stop-after fs (At k) o h = ap (after fs) h

pub flat_both : (vs ws : List Tree) → flat (trees (vs ++ ws)) ≡ flat (trees vs) ++ flat (trees ws)
flat_both [] ws = refl
flat_both (u ∷ us) ws =
    flat-more u (trees (us ++ ws))
    ∙ ap (λ (fs : List Flat). flat (more u none) ++ fs) (flat_both us ws)
    ∙ sym (append_assoc (flat (more u none)) (flat (trees us)) (flat (trees ws)))
    ∙ ap (λ (fs : List Flat). fs ++ flat (trees ws)) (sym (flat-more u (trees us)))

-- no values of no types
pub none_come : (table : Table) (l : Left) → Comes table [] l none l
none_come table l = record { goes = λ ts. sym (after-none (said table ts l)); less = omega arith }

-- values, and then one more
pub one_more : (table : Table) (us : List ℕ) (t : ℕ) (l m n : Left) (vs : List Tree) (v : Tree) → Comes table us l (trees vs) m → Comes table (t ∷ []) m (more v none) n
    → Comes table (us ++ t ∷ []) l (trees (vs ++ v ∷ [])) n
one_more table us t l m n vs v a b =
    record {
      goes = λ ts.
          ap (λ (ws : List ℕ). said table ws l) (append_assoc us (t ∷ []) ts)
          ∙ a.goes (t ∷ ts)
          ∙ ap (after (flat (trees vs))) (b.goes ts)
          ∙ after-after (flat (trees vs)) (flat (more v none)) (said table ts n)
          ∙ ap (λ (fs : List Flat). after fs (said table ts n)) (sym (flat_both vs (v ∷ [])));
      less = omega (arith, a.less, b.less);
    }

-- values, and then one that stopped
pub stops_then : (table : Table) (us : List ℕ) (t : ℕ) (rest all : List ℕ) (l m : Left) (vs : Trees) (e : Stop) → all ≡ us ++ t ∷ rest → Comes table us l vs m
    → Stops table (t ∷ []) m e → Stops table all l e
stops_then table us t rest all l m vs e parts a h =
    λ ts.
    let same : said table (all ++ ts) l ≡ after (flat vs) (said table (t ∷ (rest ++ ts)) m) =
    ap (λ (ws : List ℕ). said table (ws ++ ts) l) parts ∙ ap (λ (ws : List ℕ). said table ws l) (append_assoc us (t ∷ rest) ts) ∙ a.goes (t ∷ (rest ++ ts)) in
    subst (IsStop e) (sym same) (stop-after (flat vs) e (said table (t ∷ (rest ++ ts)) m) (h (rest ++ ts)))

-- values of types, and then those of others
pub come_both : (table : Table) (us ws : List ℕ) (l m n : Left) (vs xs : List Tree) → Comes table us l (trees vs) m → Comes table ws m (trees xs) n
    → (ts : List ℕ) → said table ((us ++ ws) ++ ts) l ≡ after (flat (trees vs) ++ flat (trees xs)) (said table ts n)
come_both table us ws l m n vs xs a b ts =
    ap (λ (ys : List ℕ). said table ys l) (append_assoc us ws ts)
    ∙ a.goes (ws ++ ts)
    ∙ ap (after (flat (trees vs))) (b.goes ts)
    ∙ after-after (flat (trees vs)) (flat (trees xs)) (said table ts n)
