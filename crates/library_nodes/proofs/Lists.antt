-- Values of a list of types, read one after the other.
-- `table` are the types of an interface, `all` the types of the values, `i` how many of them were read, `l`, `m` and `n` are what is left of a listing.
use Rattle.std.proofs.Common.{◌≡◌, ◌∙◌, ◌≤◌, ◌<◌, ℕ, zero, suc, ◌+◌, List, [], ◌∷◌, ◌++◌, length, map, take, drop, replicate, Some, refl, sym, ap, subst, arith}
use Rattle.std.specs.List.{slice_get}
use Rattle.std.proofs.lemmas.List.{take-append-drop, take_all, length_push}
use Rattle.nd_types.specs.Table.{Table}
use Rattle.nd_value.specs.Tree.{Tree, Trees, Referent, more, none, trees}
use Rattle.nd_lemmas.proofs.Lists.{take_next, drop_at}
use Rattle.library_nodes.specs.declared.stop.Stop.{Stop}
use Rattle.library_nodes.specs.Left.{Left}
use Rattle.library_nodes.specs.Steps.{Comes, Stops, AreOf, AreCellsOf}
use Rattle.library_nodes.proofs.Outcomes.{none_come, one_more, stops_then}

-- the values of the first types were read
pub record Came (table : Table) (all : List ℕ) (i : ℕ) (l : Left) (vs : List Tree) (m : Left) : Type 0 where
  pub come : Comes table (take i all) l (trees vs) m
  pub count : length vs ≡ i

pub none_came : (table : Table) (all : List ℕ) (l : Left) (vs : List Tree) → vs ≡ [] → Came table all 0 l vs l
none_came table all l vs e =
    subst (λ (ws : List Tree). Came table all 0 l ws l) (sym e) (record { come = none_come table l; count = refl })

pub next_came : (table : Table) (all : List ℕ) (i t : ℕ) (l m n : Left) (vs ws : List Tree) (v : Tree) → slice_get all i ≡ Some t → Came table all i l vs m
    → Comes table (t ∷ []) m (more v none) n → ws ≡ vs ++ v ∷ [] → Came table all (i + 1) l ws n
next_came table all i t l m n vs ws v there a b e =
    subst (λ (xs : List Tree). Came table all (i + 1) l xs n) (sym e)
    (record {
      come = subst (λ (us : List ℕ). Comes table us l (trees (vs ++ v ∷ [])) n) (sym (take_next all i t there)) (one_more table (take i all) t l m n vs v a.come b);
      count = omega (arith, length_push vs v, a.count);
    })

pub all_came : (table : Table) (all : List ℕ) (i : ℕ) (l m : Left) (vs : List Tree) → length all ≡ i → Came table all i l vs m → AreOf table all l vs m
all_came table all i l m vs e a =
    record {
      come = subst (λ (us : List ℕ). Comes table us l (trees vs) m) (take_all i all (omega (arith, e))) a.come;
      count = omega (arith, e, a.count);
    }

pub stops_at : (table : Table) (all : List ℕ) (i t : ℕ) (l m : Left) (vs : List Tree) (e : Stop) → slice_get all i ≡ Some t → Came table all i l vs m
    → Stops table (t ∷ []) m e → Stops table all l e
stops_at table all i t l m vs e there a h =
    stops_then table (take i all) t (drop (suc i) all) all l m (trees vs) e
    (sym (take-append-drop i all) ∙ ap (λ (us : List ℕ). take i all ++ us) (drop_at all i t there)) a.come h

-- a list of one type
pub get_replicate : (n i t : ℕ) → i < n → slice_get (replicate n t) i ≡ Some t
get_replicate zero i t h = absurd (omega (arith, h))
get_replicate (suc n) zero t h = refl
get_replicate (suc n) (suc i) t h = get_replicate n i t (omega (arith, h))

-- ## Cells

-- the cells of the first types were read
pub record CellsCame (table : Table) (all : List ℕ) (i : ℕ) (l : Left) (cs : List Referent) (m : Left) : Type 0 where
  pub come : Came table all i l (map (λ (d : Referent). d.val) cs) m
  pub types : map (λ c. c.of) cs ≡ take i all

pub no_cells : (table : Table) (all : List ℕ) (l : Left) (cs : List Referent) → cs ≡ [] → CellsCame table all 0 l cs l
no_cells table all l cs e =
    subst (λ (ds : List Referent). CellsCame table all 0 l ds l) (sym e) (record { come = none_came table all l [] refl; types = refl })

map_push : {X : Type 0} (f : Referent → X) (cs : List Referent) (c : Referent) → map f (cs ++ c ∷ []) ≡ map f cs ++ f c ∷ []
map_push f [] c = refl
map_push f (d ∷ ds) c = ap (λ xs. f d ∷ xs) (map_push f ds c)

pub next_cell : (table : Table) (all : List ℕ) (i : ℕ) (l m n : Left) (cs ds : List Referent) (c : Referent) → slice_get all i ≡ Some c.of → CellsCame table all i l cs m
    → Comes table (c.of ∷ []) m (more c.val none) n → ds ≡ cs ++ c ∷ [] → CellsCame table all (i + 1) l ds n
next_cell table all i l m n cs ds c there a b e =
    subst (λ (xs : List Referent). CellsCame table all (i + 1) l xs n) (sym e)
    (record {
      come = next_came table all i c.of l m n (map (λ (d : Referent). d.val) cs) _ c.val there a.come b (map_push (λ (d : Referent). d.val) cs c);
      types = map_push (λ (d : Referent). d.of) cs c ∙ ap (λ (us : List ℕ). us ++ c.of ∷ []) a.types ∙ sym (take_next all i c.of there);
    })

pub all_cells : (table : Table) (all : List ℕ) (i : ℕ) (l m : Left) (cs : List Referent) → length all ≡ i → CellsCame table all i l cs m → AreCellsOf table all l cs m
all_cells table all i l m cs e a =
    record {
      come = (all_came table all i l m (map (λ (d : Referent). d.val) cs) e a.come).come;
      types = a.types ∙ take_all i all (omega (arith, e));
    }

-- ## Lists that are counted by their values

pub begun : (table : Table) (all : List ℕ) (l : Left) (vs : List Tree) → vs ≡ [] → Came table all (length vs) l vs l
begun table all l vs e = subst (λ (i : ℕ). Came table all i l vs l) (sym (ap (λ (ws : List Tree). length ws) e)) (none_came table all l vs e)

pub pushed : (vs ws : List Tree) (v : Tree) → ws ≡ vs ++ v ∷ [] → length ws ≡ length vs + 1
pushed vs ws v e = ap (λ (us : List Tree). length us) e ∙ length_push vs v

pub next_counted : (table : Table) (all : List ℕ) (t : ℕ) (l m n : Left) (vs ws : List Tree) (v : Tree) → slice_get all (length vs) ≡ Some t → Came table all (length vs) l vs m
    → Comes table (t ∷ []) m (more v none) n → ws ≡ vs ++ v ∷ [] → Came table all (length ws) l ws n
next_counted table all t l m n vs ws v there a b e =
    subst (λ (i : ℕ). Came table all i l ws n) (sym (pushed vs ws v e)) (next_came table all (length vs) t l m n vs ws v there a b e)
