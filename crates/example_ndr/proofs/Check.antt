-- Tests that compute, and what they show.
use Rattle.std.proofs.Common.{◌≡◌, ℕ, ◌+◌, ◌^◌, ◌<◌, zero, suc, ℤ, Bool, true, false, ◌&&◌, ◌||◌, cond, not, eqb, ltb, leb, List, [], ◌∷◌, ◌++◌, length, Option, Some, None, refl, ap, sym, inl, inr}
use Rattle.std.proofs.Common.{subst, take, drop}
use Rattle.std.proofs.lemmas.Bool.{eqb-true, eq-eqb, leb-true, ltb-true, not-true as not_is}
use Rattle.std.proofs.lemmas.Bool.Decides.{Decides-int_eq}
use Rattle.std.proofs.lemmas.Option.{same_Some}
use Rattle.std.specs.Ordering.{int_eq}
use Rattle.std.specs.List.{AllByRecursion, list_all}
use Rattle.nd_base.specs.declared.octets.Order.{Order}
use Rattle.nd_types.specs.declared.types.Class.{Class}
use Rattle.nd_types.specs.declared.types.Class.TheVariants.{Ref, Unique, Full}
use Rattle.nd_value.specs.declared.value.Graph.{Graph}
use Rattle.nd_base.specs.declared.TheConstants.{STREAM_LIMIT}
use Rattle.nd_value.specs.Setting.{Setting, Among, root_list}
use Rattle.nd_grammar.specs.Stream.{Stream, representation, AllCut, piece, Spells, IsNumber, IsRendered, id_octets, IsNumbering, Represents, Chosen, octets_from, pipe_cuts}
use Rattle.nd_value.specs.Deferral.{Due, due_root, due_referent, Step, root_stands, referent_stands, stands_already, Deferral, none_due, at_root, at_null, at_standing, at_referent, Pending, due_of}
use Rattle.nd_value.specs.Deferral.{standing_root, standing_cell, IsPlaced, IsPlacedFull, AreFree, Placed_cells, root_cell, due_roots, before_pipes}
use Rattle.nd_types.specs.Number.{unsigned, value_of_octets}
use Rattle.nd_grammar.specs.Entry.{Kind, Entry, Align, Max, Offset, Actual, Chunk, Number, Num, Tag, Text, Context, Test, Unread, size_at, EntryAt, end_to_end, end_of, full_cells}
use Rattle.nd_grammar.specs.Refusal.{Bad, Accepts, refusal}
use Rattle.nd_grammar.specs.NextMark.{IsReadTo}
use Rattle.nd_grammar.specs.declared.reason.Reason.{Reason}
use Rattle.nd_value.specs.Canon.{canonical_number, named_cells}
use Rattle.nd_value.specs.Conforms.{IsPartial, ShareOnlyIfFull, AllEarlier, all_nodes, all_pointers}
use Rattle.nd_value.specs.Misfit.{is_partial_node, has_machine_values}
use Rattle.nd_lemmas.proofs.Booleans.{first_true as and_left, second_true as and_right}

abbrev is_full : Class → Bool
is_full Full = true
is_full _ = false

full_is : (k : Class) → is_full k ≡ true → k ≡ Full
full_is Full e = refl
full_is Ref e = cc
full_is Unique e = cc

abbrev pub is_standing : Placed_cells → ℕ → Bool
is_standing [] c = false
is_standing (d ∷ ds) c = cond (eqb c d.1) true (is_standing ds c)

abbrev pub is_standing_full : Placed_cells → ℕ → Bool
is_standing_full [] c = false
is_standing_full (d ∷ ds) c = cond (is_full d.0 && eqb c d.1) true (is_standing_full ds c)

abbrev are_free : Placed_cells → Placed_cells → Bool
are_free [] done = true
are_free (d ∷ ds) done = not (is_standing done d.1) && are_free ds done

abbrev with : Step → Option (List Step) → Option (List Step)
with t None = None
with t (Some ts) = Some (t ∷ ts)

abbrev only_if : Bool → Option (List Step) → Option (List Step)
only_if true o = o
only_if false o = None

-- the steps for what is due, at most so many
abbrev pub walk : ℕ → Setting → Graph → Placed_cells → List Due → Option (List Step)
walk fuel w g done [] = Some []
walk zero w g done (t ∷ ts) = None
walk (suc fuel) w g done (due_root i ∷ ts) =
    only_if (are_free (root_cell (standing_root w g i).home) done)
    (with (root_stands i) (walk fuel w g (root_cell (standing_root w g i).home ++ done) (due_of w.table (standing_root w g i) ++ ts)))
walk (suc fuel) w g done (due_referent p ∷ ts) =
    elim p.cell [
      | None ↦ walk fuel w g done ts
      | Some c ↦ elim (is_full p.class && is_standing_full done c) [
        | true ↦ with (stands_already p c) (walk fuel w g done ts)
        | false ↦ only_if (not (is_standing done c)) (with (referent_stands p c) (walk fuel w g ((p.class, c) ∷ done) (due_of w.table (standing_cell g p c) ++ ts)))
      ]
    ]

standing_full_yes : (ds : Placed_cells) (c : ℕ) → is_standing_full ds c ≡ true → IsPlacedFull ds c
standing_full_yes [] c e = cc
standing_full_yes (d ∷ ds) c e = go (is_full d.0 && eqb c d.1) refl e (standing_full_yes ds c)
  where
    go : (b : Bool) → (is_full d.0 && eqb c d.1) ≡ b → cond b true (is_standing_full ds c) ≡ true → (is_standing_full ds c ≡ true → IsPlacedFull ds c) → IsPlacedFull (d ∷ ds) c
    go true q e' ih = inl (full_is d.0 (and_left (is_full d.0) (eqb c d.1) q), eqb-true c d.1 (and_right (is_full d.0) (eqb c d.1) q))
    go false q e' ih = inr (ih e')

standing_no : (ds : Placed_cells) (c : ℕ) → is_standing ds c ≡ false → ¬ IsPlaced ds c
standing_no [] c e h = h
standing_no (d ∷ ds) c e h = go (eqb c d.1) refl e h (standing_no ds c)
  where
    go : (b : Bool) → eqb c d.1 ≡ b → cond b true (is_standing ds c) ≡ false → IsPlaced (d ∷ ds) c → (is_standing ds c ≡ false → ¬ IsPlaced ds c) → ⊥
    go true q e' h' ih = cc
    go false q e' (inl same) ih = let t : eqb c d.1 ≡ true = eq-eqb c d.1 same in cc (t, q)
    go false q e' (inr rest) ih = ih e' rest

free_yes : (ds done : Placed_cells) → are_free ds done ≡ true → AreFree ds done
free_yes [] done e = tt
free_yes (d ∷ ds) done e =
    (standing_no done d.1 (not_is _ (and_left (not (is_standing done d.1)) (are_free ds done) e)), free_yes ds done (and_right (not (is_standing done d.1)) (are_free ds done) e))

with_is : (t : Step) (o : Option (List Step)) (ts : List Step) → with t o ≡ Some ts → (us : List Step) × (o ≡ Some us) × (t ∷ us ≡ ts)
with_is t None ts e = cc
with_is t (Some us) ts e = (us, refl, same_Some _ _ e)

only_is : (b : Bool) (o : Option (List Step)) (ts : List Step) → only_if b o ≡ Some ts → (b ≡ true) × (o ≡ Some ts)
only_is true o ts e = (refl, e)
only_is false o ts e = cc

module _ (w : Setting) (g : Graph) (done : Placed_cells) (p : Pending) (due : List Due) (ts : List Step) (fuel : ℕ)
    (ih : (done' : Placed_cells) (due' : List Due) (ts' : List Step) → walk fuel w g done' due' ≡ Some ts' → Deferral w g done' due' ts') where
  abbrev step : ℕ → Bool → Option (List Step)
  step c true = with (stands_already p c) (walk fuel w g done due)
  step c false = only_if (not (is_standing done c)) (with (referent_stands p c) (walk fuel w g ((p.class, c) ∷ done) (due_of w.table (standing_cell g p c) ++ due)))

  by_done : (c : ℕ) → p.cell ≡ Some c → (b : Bool) → (is_full p.class && is_standing_full done c) ≡ b → step c b ≡ Some ts → Deferral w g done (due_referent p ∷ due) ts
  by_done c f true q e =
      let (us, h, same) = with_is _ _ _ e in
      subst (λ us'. Deferral w g done (due_referent p ∷ due) us') same
      (at_standing c f (full_is p.class (and_left (is_full p.class) (is_standing_full done c) q)) (standing_full_yes done c (and_right (is_full p.class) (is_standing_full done c) q)) (ih _ _ us h))
  by_done c f false q e =
      let (free, e') = only_is _ _ _ e in
      let (us, h, same) = with_is _ _ _ e' in
      subst (λ us'. Deferral w g done (due_referent p ∷ due) us') same (at_referent c f (standing_no done c (not_is _ free)) (ih _ _ us h))

  abbrev step_at : Option ℕ → Option (List Step)
  step_at None = walk fuel w g done due
  step_at (Some c) = step c (is_full p.class && is_standing_full done c)

  pub by_cell : (o : Option ℕ) → p.cell ≡ o → step_at o ≡ Some ts → Deferral w g done (due_referent p ∷ due) ts
  by_cell None f e = at_null f (ih _ _ ts e)
  by_cell (Some c) f e = by_done c f (is_full p.class && is_standing_full done c) refl e

-- what the walk finds are the steps of deferral
pub walk_gives : (fuel : ℕ) (w : Setting) (g : Graph) (done : Placed_cells) (due : List Due) (ts : List Step)
    → walk fuel w g done due ≡ Some ts → Deferral w g done due ts
walk_gives zero w g done [] ts e = subst (λ us. Deferral w g done [] us) (same_Some _ _ e) none_due
walk_gives (suc fuel) w g done [] ts e = subst (λ us. Deferral w g done [] us) (same_Some _ _ e) none_due
walk_gives zero w g done (t ∷ due) ts e = cc
walk_gives (suc fuel) w g done (due_root i ∷ due) ts e =
    let (free, e') = only_is _ _ _ e in
    let (us, f, same) = with_is _ _ _ e' in
    subst (λ us'. Deferral w g done (due_root i ∷ due) us') same
    (at_root (free_yes (root_cell (standing_root w g i).home) done free) (walk_gives fuel w g _ _ us f))
walk_gives (suc fuel) w g done (due_referent p ∷ due) ts e =
    by_cell w g done p due ts fuel (λ done' due' ts' e'. walk_gives fuel w g done' due' ts' e') p.cell refl e

abbrev pub same_octets : List ℕ → List ℕ → Bool
same_octets [] [] = true
same_octets (x ∷ xs) (y ∷ ys) = eqb x y && same_octets xs ys
same_octets _ _ = false

same_octets_are : (xs ys : List ℕ) → same_octets xs ys ≡ true → xs ≡ ys
same_octets_are [] [] e = refl
same_octets_are [] (y ∷ ys) e = cc
same_octets_are (x ∷ xs) [] e = cc
same_octets_are (x ∷ xs) (y ∷ ys) e =
    let h = eqb-true x y (and_left (eqb x y) (same_octets xs ys) e) in
    let t = same_octets_are xs ys (and_right (eqb x y) (same_octets xs ys) e) in
    cc

abbrev is_number : (ℕ → ℕ) → Class → Option ℕ → ℕ → Bool
is_number numbering class None v = eqb v 0
is_number numbering Full (Some c) v = eqb v (numbering c)
is_number numbering Unique (Some c) v = ltb 0 v
is_number numbering Ref (Some c) v = true

abbrev spells : Order → (ℕ → ℕ) → Kind → List ℕ → Bool
spells order numbering (Align n) os = true
spells order numbering (Max v) os = eqb (unsigned order os) v
spells order numbering (Offset t v) os = eqb (unsigned order os) v
spells order numbering (Actual t offset limit v) os = eqb (unsigned order os) v
spells order numbering (Chunk v) os = eqb (unsigned order os) v
spells order numbering (Number class to cell) os = is_number numbering class cell (unsigned order os)
spells order numbering (Num p values z) os = int_eq (value_of_octets order p os) z
spells order numbering (Tag p values arms default z) os = int_eq (value_of_octets order p os) z
spells order numbering (Text octets) os = same_octets os (octets ++ 0 ∷ [])
spells order numbering (Context attributes id) os =
    eqb (unsigned order (take 4 os)) attributes && same_octets (drop 4 os) (id_octets order id)
spells order numbering (Test attr wanted found) os = true
spells order numbering Unread os = false

is_number_is : (numbering : ℕ → ℕ) (class : Class) (cell : Option ℕ) (v : ℕ) → is_number numbering class cell v ≡ true → IsNumber numbering class cell v
is_number_is numbering Full None v e = eqb-true _ _ e
is_number_is numbering Unique None v e = eqb-true _ _ e
is_number_is numbering Ref None v e = eqb-true _ _ e
is_number_is numbering Full (Some c) v e = eqb-true _ _ e
is_number_is numbering Unique (Some c) v e = ltb-true _ _ e
is_number_is numbering Ref (Some c) v e = tt

int_eq_is : (x y : ℤ) → int_eq x y ≡ true → x ≡ y
int_eq_is x y e = (Decides-int_eq x y).0 e

spells_is : (order : Order) (numbering : ℕ → ℕ) (x : Kind) (os : List ℕ) → spells order numbering x os ≡ true → Spells order numbering x os
spells_is order numbering (Align n) os e = tt
spells_is order numbering (Max v) os e = eqb-true _ _ e
spells_is order numbering (Offset t v) os e = eqb-true _ _ e
spells_is order numbering (Actual t offset limit v) os e = eqb-true _ _ e
spells_is order numbering (Chunk v) os e = eqb-true _ _ e
spells_is order numbering (Number class to cell) os e = is_number_is numbering class cell _ e
spells_is order numbering (Num p values z) os e = int_eq_is _ _ e
spells_is order numbering (Tag p values arms default z) os e = int_eq_is _ _ e
spells_is order numbering (Text octets) os e = same_octets_are _ _ e
spells_is order numbering (Context attributes id) os e = (
  eqb-true _ _ (and_left (eqb (unsigned order (take 4 os)) attributes) (same_octets (drop 4 os) (id_octets order id)) e),
  same_octets_are _ _ (and_right (eqb (unsigned order (take 4 os)) attributes) (same_octets (drop 4 os) (id_octets order id)) e),
)
spells_is order numbering (Test attr wanted found) os e = tt
spells_is order numbering Unread os e = cc

abbrev pub renders : Order → (ℕ → ℕ) → List ℕ → List EntryAt → Bool
renders order numbering octets [] = true
renders order numbering octets (x ∷ xs) =
    (leb (x.at + size_at x.at x.entry.kind) (length octets) && spells order numbering x.entry.kind (piece octets x.at x.entry.kind))
    && renders order numbering octets xs

pub renders_gives : (order : Order) (numbering : ℕ → ℕ) (octets : List ℕ) (xs : List EntryAt) → renders order numbering octets xs ≡ true
    → AllByRecursion (IsRendered order numbering octets) xs
renders_gives order numbering octets [] e = tt
renders_gives order numbering octets (x ∷ xs) e =
    let a = leb (x.at + size_at x.at x.entry.kind) (length octets) in
    let b = spells order numbering x.entry.kind (piece octets x.at x.entry.kind) in
    let r = renders order numbering octets xs in
    let h : (a && b) ≡ true = and_left (a && b) r e in (
      (leb-true _ _ (and_left a b h), spells_is order numbering x.entry.kind _ (and_right a b h)),
      renders_gives order numbering octets xs (and_right (a && b) r e),
    )

abbrev pub are_numbers : List ℕ → Bool
are_numbers [] = true
are_numbers (c ∷ cs) = (ltb 0 c && ltb c (2 ^ 32)) && are_numbers cs

numbers_are : (cs : List ℕ) → are_numbers cs ≡ true → (c : ℕ) → Among cs c → (0 < c) × (c < 2 ^ 32)
numbers_are [] e c h = absurd h
numbers_are (d ∷ cs) e c (inl same) =
    let h : (ltb 0 d && ltb d (2 ^ 32)) ≡ true = and_left (ltb 0 d && ltb d (2 ^ 32)) (are_numbers cs) e in
    let low : 0 < d = ltb-true 0 d (and_left (ltb 0 d) (ltb d (2 ^ 32)) h) in
    let high : d < 2 ^ 32 = ltb-true d (2 ^ 32) (and_right (ltb 0 d) (ltb d (2 ^ 32)) h) in
    (rw same low, rw same high)
numbers_are (d ∷ cs) e c (inr h) = numbers_are cs (and_right (ltb 0 d && ltb d (2 ^ 32)) (are_numbers cs) e) c h

pub own_numbers : (cs : List ℕ) → are_numbers cs ≡ true → IsNumbering (λ c. c) cs
own_numbers cs e = record { in_range = numbers_are cs e; one_to_one = λ c d h k same. same }

-- a numbering of the cells that full pointers name, by tests
abbrev are_numbered : (ℕ → ℕ) → List ℕ → Bool
are_numbered nums [] = true
are_numbered nums (c ∷ cs) = (ltb 0 (nums c) && ltb (nums c) (2 ^ 32)) && are_numbered nums cs

abbrev apart : (ℕ → ℕ) → ℕ → ℕ → Bool
apart nums c d = not (eqb (nums c) (nums d)) || eqb c d

abbrev apart_from : (ℕ → ℕ) → ℕ → List ℕ → Bool
apart_from nums c [] = true
apart_from nums c (d ∷ ds) = apart nums c d && apart_from nums c ds

abbrev all_apart : (ℕ → ℕ) → List ℕ → List ℕ → Bool
all_apart nums [] ds = true
all_apart nums (c ∷ cs) ds = apart_from nums c ds && all_apart nums cs ds

numbered_are : (nums : ℕ → ℕ) (cs : List ℕ) → are_numbered nums cs ≡ true → (c : ℕ) → Among cs c → (0 < nums c) × (nums c < 2 ^ 32)
numbered_are nums [] e c h = absurd h
numbered_are nums (d ∷ cs) e c (inl same) =
    let h : (ltb 0 (nums d) && ltb (nums d) (2 ^ 32)) ≡ true = and_left (ltb 0 (nums d) && ltb (nums d) (2 ^ 32)) (are_numbered nums cs) e in
    let low : 0 < nums d = ltb-true 0 (nums d) (and_left (ltb 0 (nums d)) (ltb (nums d) (2 ^ 32)) h) in
    let high : nums d < 2 ^ 32 = ltb-true (nums d) (2 ^ 32) (and_right (ltb 0 (nums d)) (ltb (nums d) (2 ^ 32)) h) in
    (rw same low, rw same high)
numbered_are nums (d ∷ cs) e c (inr h) = numbered_are nums cs (and_right (ltb 0 (nums d) && ltb (nums d) (2 ^ 32)) (are_numbered nums cs) e) c h

apart_is : (nums : ℕ → ℕ) (c d : ℕ) → apart nums c d ≡ true → nums c ≡ nums d → c ≡ d
apart_is nums c d e same =
    let s : eqb (nums c) (nums d) ≡ true = eq-eqb _ _ same in
    let f : (not true || eqb c d) ≡ true = subst (λ b. (not b || eqb c d) ≡ true) s e in
    eqb-true c d f

apart_from_is : (nums : ℕ → ℕ) (c : ℕ) (ds : List ℕ) → apart_from nums c ds ≡ true → (d : ℕ) → Among ds d → nums c ≡ nums d → c ≡ d
apart_from_is nums c [] e d h same = absurd h
apart_from_is nums c (x ∷ ds) e d (inl here) same =
    let a : apart nums c d ≡ true = subst (λ u. apart nums c u ≡ true) (sym here) (and_left (apart nums c x) (apart_from nums c ds) e) in
    apart_is nums c d a same
apart_from_is nums c (x ∷ ds) e d (inr h) same = apart_from_is nums c ds (and_right (apart nums c x) (apart_from nums c ds) e) d h same

all_apart_are : (nums : ℕ → ℕ) (cs ds : List ℕ) → all_apart nums cs ds ≡ true → (c d : ℕ) → Among cs c → Among ds d → nums c ≡ nums d → c ≡ d
all_apart_are nums [] ds e c d h k same = absurd h
all_apart_are nums (x ∷ cs) ds e c d (inl here) k same =
    let a : apart_from nums c ds ≡ true = subst (λ u. apart_from nums u ds ≡ true) (sym here) (and_left (apart_from nums x ds) (all_apart nums cs ds) e) in
    apart_from_is nums c ds a d k same
all_apart_are nums (x ∷ cs) ds e c d (inr h) k same = all_apart_are nums cs ds (and_right (apart_from nums x ds) (all_apart nums cs ds) e) c d h k same

-- octets represent a graph, by tests; each cell's number is its own
pub represents : (w : Setting) (order : Order) (octets : List ℕ) (g : Graph) (steps : List Step) (cuts : List (List ℕ)) (fuel : ℕ)
    → walk fuel w g [] (due_roots 0 (before_pipes (root_list w))) ≡ Some steps
    → AllCut (drop (before_pipes (root_list w)) g.roots) cuts
    → are_numbers (full_cells (representation w g steps cuts)) ≡ true
    → renders order (λ c. c) octets (end_to_end 0 (representation w g steps cuts)) ≡ true
    → end_of 0 (representation w g steps cuts) ≡ length octets
    → leb (length octets) STREAM_LIMIT ≡ true
    → Represents w order octets g
represents w order octets g steps cuts fuel walked cut numbered rendered whole within = record {
  entries = representation w g steps cuts;
  stream = record { steps = steps; cuts = cuts; deferral = walk_gives fuel w g [] _ steps walked; all_cut = cut; is_representation = refl };
  numbering = λ c. c;
  is_numbering = own_numbers _ numbered;
  rendered = renders_gives order (λ c. c) octets (end_to_end 0 (representation w g steps cuts)) rendered;
  whole = whole;
  within = leb-true _ _ within;
}

abbrev found : Option (List Step) → List Step
found None = []
found (Some ts) = ts

-- the steps for the roots, at most so many
abbrev pub steps_of : ℕ → Setting → Graph → List Step
steps_of fuel w g = found (walk fuel w g [] (due_roots 0 (before_pipes (root_list w))))

abbrev is_some : Option (List Step) → Bool
is_some None = false
is_some (Some ts) = true

some_found : (o : Option (List Step)) → is_some o ≡ true → o ≡ Some (found o)
some_found None e = cc
some_found (Some ts) e = refl

-- the same with the steps that the walk finds
pub represents_so : (w : Setting) (order : Order) (octets : List ℕ) (g : Graph) (cuts : List (List ℕ)) (fuel : ℕ)
    → is_some (walk fuel w g [] (due_roots 0 (before_pipes (root_list w)))) ≡ true
    → AllCut (drop (before_pipes (root_list w)) g.roots) cuts
    → are_numbers (full_cells (representation w g (steps_of fuel w g) cuts)) ≡ true
    → renders order (λ c. c) octets (end_to_end 0 (representation w g (steps_of fuel w g) cuts)) ≡ true
    → end_of 0 (representation w g (steps_of fuel w g) cuts) ≡ length octets
    → leb (length octets) STREAM_LIMIT ≡ true
    → Represents w order octets g
represents_so w order octets g cuts fuel walked cut numbered rendered whole within =
    represents w order octets g (steps_of fuel w g) cuts fuel (some_found _ walked) cut numbered rendered whole within

-- the same with other numbers for the cells
pub represents_by : (nums : ℕ → ℕ) (w : Setting) (order : Order) (octets : List ℕ) (g : Graph) (cuts : List (List ℕ)) (fuel : ℕ)
    → is_some (walk fuel w g [] (due_roots 0 (before_pipes (root_list w)))) ≡ true
    → AllCut (drop (before_pipes (root_list w)) g.roots) cuts
    → are_numbered nums (full_cells (representation w g (steps_of fuel w g) cuts)) ≡ true
    → all_apart nums (full_cells (representation w g (steps_of fuel w g) cuts)) (full_cells (representation w g (steps_of fuel w g) cuts)) ≡ true
    → renders order nums octets (end_to_end 0 (representation w g (steps_of fuel w g) cuts)) ≡ true
    → end_of 0 (representation w g (steps_of fuel w g) cuts) ≡ length octets
    → leb (length octets) STREAM_LIMIT ≡ true
    → Represents w order octets g
represents_by nums w order octets g cuts fuel walked cut numbered distinct rendered whole within = record {
  entries = representation w g (steps_of fuel w g) cuts;
  stream = record {
    steps = steps_of fuel w g;
    cuts = cuts;
    deferral = walk_gives fuel w g [] _ _ (some_found _ walked);
    all_cut = cut;
    is_representation = refl;
  };
  numbering = nums;
  is_numbering = record { in_range = numbered_are nums _ numbered; one_to_one = all_apart_are nums _ _ distinct };
  rendered = renders_gives order nums octets (end_to_end 0 (representation w g (steps_of fuel w g) cuts)) rendered;
  whole = whole;
  within = leb-true _ _ within;
}

abbrev is_no_refusal : Option (ℕ × Reason) → Bool
is_no_refusal None = true
is_no_refusal (Some r) = false

abbrev pub accepts : Order → List ℕ → List EntryAt → List EntryAt → Bool
accepts order octets earlier [] = true
accepts order octets earlier (x ∷ xs) = is_no_refusal (refusal order octets earlier x) && accepts order octets (earlier ++ x ∷ []) xs

no_refusal : (o : Option (ℕ × Reason)) → is_no_refusal o ≡ true → o ≡ None
no_refusal None e = refl
no_refusal (Some r) e = cc

pub accepts_gives : (order : Order) (octets : List ℕ) (earlier xs : List EntryAt) → accepts order octets earlier xs ≡ true → Accepts order octets earlier xs
accepts_gives order octets earlier [] e = tt
accepts_gives order octets earlier (x ∷ xs) e = (
  no_refusal _ (and_left (is_no_refusal (refusal order octets earlier x)) (accepts order octets (earlier ++ x ∷ []) xs) e),
  accepts_gives order octets (earlier ++ x ∷ []) xs
      (and_right (is_no_refusal (refusal order octets earlier x)) (accepts order octets (earlier ++ x ∷ []) xs) e),
)

abbrev pub upto : {X : Type 0} → ℕ → List X → List X
upto zero xs = []
upto (suc n) [] = []
upto (suc n) (x ∷ xs) = x ∷ upto n xs

abbrev pub from : {X : Type 0} → ℕ → List X → List X
from zero xs = xs
from (suc n) [] = []
from (suc n) (x ∷ xs) = from n xs

cut_at : (xs ys : List EntryAt) (x : EntryAt) (n : ℕ) → from n xs ≡ x ∷ ys → xs ≡ upto n xs ++ x ∷ ys
cut_at xs ys x zero e = e
cut_at [] ys x (suc n) e = cc
cut_at (z ∷ xs) ys x (suc n) e = ap (λ zs. z ∷ zs) (cut_at xs ys x n e)

-- Octets are refused at the n-th entry of a stream of a partial graph, by tests.
pub bad_from : (w : Setting) (order : Order) (octets : List ℕ) (place : ℕ) (why : Reason) (g : Graph) (ms : List Entry) (n : ℕ) (here : EntryAt) (later : List EntryAt)
    → IsPartial w g
    → Stream w g ms
    → IsNumbering (λ c. c) (full_cells ms)
    → from n (end_to_end 0 ms) ≡ here ∷ later
    → renders order (λ c. c) octets (upto n (end_to_end 0 ms)) ≡ true
    → accepts order octets [] (upto n (end_to_end 0 ms)) ≡ true
    → refusal order octets (upto n (end_to_end 0 ms)) here ≡ Some (place, why)
    → Bad w order octets place why
bad_from w order octets place why g ms n here later partial stream numbered split rendered accepted refused = record {
  partial = g;
  is_partial = partial;
  entries = ms;
  stream = stream;
  earlier = upto n (end_to_end 0 ms);
  here = here;
  later = later;
  split = cut_at _ later here n split;
  numbering = λ c. c;
  is_numbering = numbered;
  rendered = renders_gives order (λ c. c) octets _ rendered;
  accepted = accepts_gives order octets [] _ accepted;
  refused = refused;
}

-- The same of the stream whose steps the walk finds.
pub bad_so : (w : Setting) (order : Order) (octets : List ℕ) (place : ℕ) (why : Reason) (g : Graph) (cuts : List (List ℕ)) (fuel n : ℕ)
    (here : EntryAt) (later : List EntryAt)
    → IsPartial w g
    → is_some (walk fuel w g [] (due_roots 0 (before_pipes (root_list w)))) ≡ true
    → AllCut (drop (before_pipes (root_list w)) g.roots) cuts
    → are_numbers (full_cells (representation w g (steps_of fuel w g) cuts)) ≡ true
    → from n (end_to_end 0 (representation w g (steps_of fuel w g) cuts)) ≡ here ∷ later
    → renders order (λ c. c) octets (upto n (end_to_end 0 (representation w g (steps_of fuel w g) cuts))) ≡ true
    → accepts order octets [] (upto n (end_to_end 0 (representation w g (steps_of fuel w g) cuts))) ≡ true
    → refusal order octets (upto n (end_to_end 0 (representation w g (steps_of fuel w g) cuts))) here ≡ Some (place, why)
    → Bad w order octets place why
bad_so w order octets place why g cuts fuel n here later partial walked cut numbered split rendered accepted refused =
    bad_from w order octets place why g (representation w g (steps_of fuel w g) cuts) n here later partial
    (record {
      steps = steps_of fuel w g;
      cuts = cuts;
      deferral = walk_gives fuel w g [] _ _ (some_found _ walked);
      all_cut = cut;
      is_representation = refl;
    })
    (own_numbers _ numbered) split rendered accepted refused

-- a stream of a graph, by the steps that the walk finds
pub stream_so : (w : Setting) (g : Graph) (cuts : List (List ℕ)) (fuel : ℕ)
    → is_some (walk fuel w g [] (due_roots 0 (before_pipes (root_list w)))) ≡ true
    → AllCut (drop (before_pipes (root_list w)) g.roots) cuts
    → Stream w g (representation w g (steps_of fuel w g) cuts)
stream_so w g cuts fuel walked cut =
    record { steps = steps_of fuel w g; cuts = cuts; deferral = walk_gives fuel w g [] _ _ (some_found _ walked); all_cut = cut; is_representation = refl }

-- octets are read to the n-th entry, by tests
pub read_so : (nums : ℕ → ℕ) (order : Order) (octets : List ℕ) (ms : List Entry) (n : ℕ)
    → leb n (length ms) ≡ true
    → are_numbered nums (full_cells ms) ≡ true
    → all_apart nums (full_cells ms) (full_cells ms) ≡ true
    → renders order nums octets (take n (end_to_end 0 ms)) ≡ true
    → accepts order octets [] (take n (end_to_end 0 ms)) ≡ true
    → IsReadTo order octets ms n
read_so nums order octets ms n there numbered distinct rendered accepted = record {
  there = leb-true _ _ there;
  numbering = nums;
  is_numbering = record { in_range = numbered_are nums _ numbered; one_to_one = all_apart_are nums _ _ distinct };
  rendered = renders_gives order nums octets _ rendered;
  accepted = accepts_gives order octets [] _ accepted;
}

abbrev same_cell : Option ℕ → Option ℕ → Bool
same_cell (Some c) (Some d) = eqb c d
same_cell _ _ = false

abbrev may_meet : Pending → Pending → Bool
may_meet p q = cond (same_cell p.cell q.cell) (is_full p.class && is_full q.class) true

abbrev all_meet : Pending → List Pending → Bool
all_meet p [] = true
all_meet p (q ∷ qs) = may_meet p q && all_meet p qs

abbrev pub are_unshared : List Pending → Bool
are_unshared [] = true
are_unshared (p ∷ ps) = all_meet p ps && are_unshared ps

meet_is : (p q : Pending) → may_meet p q ≡ true → ShareOnlyIfFull p q
meet_is p q e c a b =
    let s : same_cell p.cell q.cell ≡ true = rw (a, b) (eq-eqb c c refl) in
    let f : (is_full p.class && is_full q.class) ≡ true = (rw s at e) in
    (full_is _ (and_left (is_full p.class) (is_full q.class) f), full_is _ (and_right (is_full p.class) (is_full q.class) f))

meets_are : (p : Pending) (qs : List Pending) → all_meet p qs ≡ true → AllByRecursion (ShareOnlyIfFull p) qs
meets_are p [] e = tt
meets_are p (q ∷ qs) e =
    (meet_is p q (and_left (may_meet p q) (all_meet p qs) e), meets_are p qs (and_right (may_meet p q) (all_meet p qs) e))

pub unshared_are : (ps : List Pending) → are_unshared ps ≡ true → AllEarlier ShareOnlyIfFull ps
unshared_are [] e = tt
unshared_are (p ∷ ps) e =
    (meets_are p ps (and_left (all_meet p ps) (are_unshared ps) e), unshared_are ps (and_right (all_meet p ps) (are_unshared ps) e))

-- a graph is a partial graph of a side, by tests
pub partial_so : (w : Setting) (g : Graph) → length g.roots ≡ length (root_list w)
    → list_all (λ x. has_machine_values x.typed.label) (all_nodes w g) ≡ true
    → list_all (λ x. is_partial_node w.table g x.typed) (all_nodes w g) ≡ true → are_unshared (all_pointers w g) ≡ true → IsPartial w g
partial_so w g a v b c = record { all_roots = a; machine_values = v; local = b; unshared = unshared_are _ c }

-- the octets that are written, by a test
pub chosen_so : (w : Setting) (order : Order) (chunk : ℕ) (g : Graph) (octets : List ℕ) (fuel : ℕ)
    → is_some (walk fuel w g [] (due_roots 0 (before_pipes (root_list w)))) ≡ true
    → octets ≡ octets_from order (canonical_number (named_cells w g (steps_of fuel w g))) 0 (representation w g (steps_of fuel w g) (pipe_cuts chunk (drop (before_pipes (root_list w)) g.roots)))
    → Chosen w order chunk g octets
chosen_so w order chunk g octets fuel walked e =
    record { steps = steps_of fuel w g; deferral = walk_gives fuel w g [] _ _ (some_found _ walked); written = e }
