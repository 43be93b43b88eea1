-- Walks over nodes and rows.
-- `os` are octets, `r` is what is left of the row in which a walk is, `t` what is left of the structs in which it is, `ns` are the nodes after, `fs` nodes
-- that are taken.
use Rattle.std.proofs.Common.{◌≡◌, ℕ, ◌<◌, ◌≤◌, suc, ℤ, List, [], ◌∷◌, ◌++◌, length, drop, refl, ap, ap₂, sym, ◌∙◌, subst, arith, append_assoc}
use Rattle.std.proofs.lemmas.List.{append-nil}
use Rattle.nd_value.specs.Tree.{Trees, Flat, flat, unflat, joined, unflat-of, take_trees, drop_trees, count}
use Rattle.nd_flat.specs.declared.node.Node.{Node}
use Rattle.nd_flat.specs.declared.node.Node.TheVariants as kept
use Rattle.nd_flat.specs.declared.row.KeptRow.{KeptRow}
use Rattle.nd_flat.specs.declared.records.KeptRecords.{KeptRecords}
use Rattle.nd_flat.specs.declared.records.RecordsLeft.{RecordsLeft}
use Rattle.nd_flat.specs.Forest.{IsForest}
use Rattle.nd_flat.specs.FlatForm.{no_row, row_values, num_flat, num_flats, num_trees, row_flats, without_first, after_first, left_flats, seen_nodes, flats, HasRow, HasOctets, HaveOctets, WalkParts}
use Rattle.nd_flat.specs.Records.{members_of, records_flats, kept_flats, records_left, HasRecords, HasLeft, IsOver, no_records, after_this, first_begun, some_passed}
use Rattle.nd_flat.proofs.Forests.{forest-rest-of, flat-joined, take-joined, drop-joined}
use Rattle.nd_flat.specs.Building.{Building, with_nodes, with_numbers}
use Rattle.nd_flat.specs.Built.{Adds}
use Rattle.nd_flat.proofs.RowLaws.{kept_row_parts, rest_there}
use Rattle.nd_flat.proofs.RecordLaws.{kept_same, nothing_left, over_left, after_there, begun_there, some_there, some_nodes}

-- nodes were taken, and the walk is after them
pub record Takes (os : List ℕ) (r : KeptRow) (t : RecordsLeft) (ns : List Node) (fs : List Flat) (r' : KeptRow) (t' : RecordsLeft) (ns' : List Node) : Type 0 where
  pub parts : WalkParts os r' t' ns'
  pub nodes : flat (unflat (left_flats os r t ns)) ≡ fs ++ flat (unflat (left_flats os r' t' ns'))

takes : (os : List ℕ) (r : KeptRow) (t : RecordsLeft) (ns : List Node) (fs : List Flat) (r' : KeptRow) (t' : RecordsLeft) (ns' : List Node)
    → left_flats os r t ns ≡ fs ++ left_flats os r' t' ns' → HaveOctets os ns' → HasRow os r' → HasLeft os t' → WalkParts os r t ns → Takes os r t ns fs r' t' ns'
takes os r t ns fs r' t' ns' e x h l w =
    let f : IsForest (left_flats os r' t' ns') = forest-rest-of fs (left_flats os r' t' ns') (subst IsForest e w.forest) in
    record { parts = record { texts = x; row = h; records = l; forest = f }; nodes = w.forest ∙ e ∙ ap (λ gs. fs ++ gs) (sym f) }

-- the first numbers of the row in which the walk is
pub takes_left : (os : List ℕ) (r : KeptRow) (t : RecordsLeft) (ns : List Node) (k : ℕ) (r' : KeptRow) (zs : List ℤ) → k ≤ r.count → r' ≡ without_first k r
    → zs ≡ row_values r.order r.of k (drop r.from os) → WalkParts os r t ns → Takes os r t ns (num_flats zs) r' t ns
takes_left os r t ns k r' zs le e n w =
    let cut : row_flats os r ≡ num_flats zs ++ row_flats os r' = kept_row_parts os r k le ∙ ap₂ (λ ys x. num_flats ys ++ row_flats os x) (sym n) (sym e) in
    let there : HasRow os r' = subst (HasRow os) (sym e) (rest_there os r k le w.row) in
    takes os r t ns (num_flats zs) r' t ns
    (ap (λ fs. fs ++ (records_left os t ++ flats os ns)) cut ∙ append_assoc (num_flats zs) (row_flats os r') (records_left os t ++ flats os ns))
    w.texts there w.records w

pub no_row_left : (os : List ℕ) (r : KeptRow) → r.count ≡ 0 → row_flats os r ≡ []
no_row_left os r e = ap (λ k. num_flats (row_values r.order r.of k (drop r.from os))) e

-- in no row, and in no structs
rowless : (os : List ℕ) (r : KeptRow) (t : RecordsLeft) (ns : List Node) → r.count ≡ 0 → left_flats os r t ns ≡ records_left os t ++ flats os ns
rowless os r t ns e = ap (λ fs. fs ++ (records_left os t ++ flats os ns)) (no_row_left os r e)

all_left : (os : List ℕ) (r : KeptRow) (t : RecordsLeft) (xs : List Node) (n : Node) (ns : List Node) → r.count ≡ 0 → IsOver t → xs ≡ n ∷ ns
    → left_flats os r t xs ≡ seen_nodes os n ++ flats os ns
all_left os r t xs n ns e v x = rowless os r t xs e ∙ ap₂ (λ fs ys. fs ++ flats os ys) (nothing_left os t v) x

-- the first numbers of the next row
pub takes_row : (os : List ℕ) (r : KeptRow) (t : RecordsLeft) (xs : List Node) (n : Node) (ns : List Node) (row : KeptRow) (k : ℕ) (r' : KeptRow) (zs : List ℤ)
    → r.count ≡ 0 → IsOver t → xs ≡ n ∷ ns → n ≡ kept.Row row → k ≤ row.count → r' ≡ without_first k row
    → zs ≡ row_values row.order row.of k (drop row.from os) → WalkParts os r t xs → Takes os r t xs (num_flats zs) r' t ns
takes_row os r t xs n ns row k r' zs e o x y le e' v w =
    let texts : HaveOctets os (kept.Row row ∷ ns) = subst (HaveOctets os) (x ∙ ap (λ m. m ∷ ns) y) w.texts in
    let all : left_flats os r t xs ≡ left_flats os row t ns =
    all_left os r t xs n ns e o x ∙ ap (λ m. seen_nodes os m ++ flats os ns) y ∙ ap (λ fs. row_flats os row ++ (fs ++ flats os ns)) (sym (nothing_left os t o)) in
    let parts : WalkParts os row t ns = record { texts = texts.1; row = texts.0.0; records = w.records; forest = subst IsForest all w.forest } in
    let g : Takes os row t ns (num_flats zs) r' t ns = takes_left os row t ns k r' zs le e' v parts in
    record { parts = g.parts; nodes = ap (λ fs. flat (unflat fs)) all ∙ g.nodes }

-- the next node of the structs in which the walk is
pub takes_within : (os : List ℕ) (r : KeptRow) (t : RecordsLeft) (ns : List Node) (f : Flat) (t' : RecordsLeft)
    → r.count ≡ 0 → f ∷ records_left os t' ≡ records_left os t → HasLeft os t' → WalkParts os r t ns → Takes os r t ns (f ∷ []) r t' ns
takes_within os r t ns f t' e s h w =
    takes os r t ns (f ∷ []) r t' ns
    (rowless os r t ns e ∙ ap (λ fs. fs ++ flats os ns) (sym s) ∙ ap (λ fs. f ∷ fs) (sym (rowless os r t' ns e)))
    w.texts w.row h w

-- the first structs of those that come next
takes_kept : (os : List ℕ) (r : KeptRow) (t : RecordsLeft) (xs ns : List Node) (k : KeptRecords) (n : ℕ) (t' : RecordsLeft) (fs : List Flat)
    → r.count ≡ 0 → left_flats os r t xs ≡ kept_flats os k ++ flats os ns → HaveOctets os ns → HasRecords os k → 0 < n → n ≤ k.count → t' ≡ some_passed n k
    → fs ≡ records_flats k.order (members_of k.members) n (drop k.from os) → WalkParts os r t xs → Takes os r t xs fs r t' ns
takes_kept os r t xs ns k n t' fs e all x h some most p v w =
    let cut : kept_flats os k ≡ fs ++ records_left os t' = some_nodes os k n some most ∙ ap₂ (λ a b. a ++ records_left os b) (sym v) (sym p) in
    takes os r t xs fs r t' ns
    (all ∙ ap (λ gs. gs ++ flats os ns) cut ∙ append_assoc fs (records_left os t') (flats os ns) ∙ ap (λ gs. fs ++ gs) (sym (rowless os r t' ns e)))
    x w.row (subst (HasLeft os) (sym p) (some_there os k n h some most)) w

-- the first of the structs after the one in which the walk is
pub takes_some : (os : List ℕ) (r : KeptRow) (t : RecordsLeft) (ns : List Node) (k : KeptRecords) (n : ℕ) (t' : RecordsLeft) (fs : List Flat)
    → r.count ≡ 0 → t.members.len ≤ t.next → 0 < t.count → k ≡ after_this t → 0 < n → n ≤ k.count → t' ≡ some_passed n k
    → fs ≡ records_flats k.order (members_of k.members) n (drop k.from os) → WalkParts os r t ns → Takes os r t ns fs r t' ns
takes_some os r t ns k n t' fs e o c i some most p v w =
    let all : left_flats os r t ns ≡ kept_flats os k ++ flats os ns = rowless os r t ns e ∙ ap (λ gs. gs ++ flats os ns) (over_left os t o ∙ ap (kept_flats os) (sym i)) in
    takes_kept os r t ns ns k n t' fs e all w.texts (subst (HasRecords os) (sym i) (after_there os t w.records c)) some most p v w

-- the first of the structs of the next node
pub takes_records : (os : List ℕ) (r : KeptRow) (t : RecordsLeft) (xs : List Node) (x : Node) (ns : List Node) (k : KeptRecords) (n : ℕ) (t' : RecordsLeft) (fs : List Flat)
    → r.count ≡ 0 → IsOver t → xs ≡ x ∷ ns → x ≡ kept.Records k.order k.members k.count k.from → 0 < n → n ≤ k.count → t' ≡ some_passed n k
    → fs ≡ records_flats k.order (members_of k.members) n (drop k.from os) → WalkParts os r t xs → Takes os r t xs fs r t' ns
takes_records os r t xs x ns k n t' fs e o s y some most p v w =
    let texts : HaveOctets os (kept.Records k.order k.members k.count k.from ∷ ns) = subst (HaveOctets os) (s ∙ ap (λ m. m ∷ ns) y) w.texts in
    let all : left_flats os r t xs ≡ kept_flats os k ++ flats os ns = all_left os r t xs x ns e o s ∙ ap (λ m. seen_nodes os m ++ flats os ns) y in
    takes_kept os r t xs ns k n t' fs e all texts.1 (kept_same os k texts.0) some most p v w

-- the structs of the next node are there
pub next_kept : (os : List ℕ) (xs : List Node) (x : Node) (ns : List Node) (k : KeptRecords) → xs ≡ x ∷ ns → x ≡ kept.Records k.order k.members k.count k.from
    → HaveOctets os xs → HasRecords os k
next_kept os xs x ns k s y h =
    let texts : HaveOctets os (kept.Records k.order k.members k.count k.from ∷ ns) = subst (HaveOctets os) (s ∙ ap (λ m. m ∷ ns) y) h in
    kept_same os k texts.0

-- what the next node says first
pub takes_node : (os : List ℕ) (r : KeptRow) (t : RecordsLeft) (xs : List Node) (n : Node) (ns : List Node) (f : Flat) (r' : KeptRow) (t' : RecordsLeft)
    → r.count ≡ 0 → IsOver t → xs ≡ n ∷ ns → f ∷ after_first os n ≡ seen_nodes os n → row_flats os r' ++ records_left os t' ≡ after_first os n
    → HasRow os r' → HasLeft os t' → WalkParts os r t xs → Takes os r t xs (f ∷ []) r' t' ns
takes_node os r t xs n ns f r' t' e o x s l h g w =
    let texts : HaveOctets os (n ∷ ns) = subst (HaveOctets os) x w.texts in
    takes os r t xs (f ∷ []) r' t' ns
    (all_left os r t xs n ns e o x ∙ ap (λ fs. fs ++ flats os ns) (sym s) ∙ ap (λ fs. f ∷ (fs ++ flats os ns)) (sym l)
    ∙ ap (λ fs. f ∷ fs) (append_assoc (row_flats os r') (records_left os t') (flats os ns)))
    texts.1 h g w

-- the next node, where it is kept by itself
pub takes_plain : (os : List ℕ) (xs : List Node) (n : Node) (ns : List Node) (f : Flat) → xs ≡ n ∷ ns → seen_nodes os n ≡ f ∷ []
    → WalkParts os no_row no_records xs → Takes os no_row no_records xs (f ∷ []) no_row no_records ns
takes_plain os xs n ns f x s w =
    let texts : HaveOctets os (n ∷ ns) = subst (HaveOctets os) x w.texts in
    takes os no_row no_records xs (f ∷ []) no_row no_records ns
    (ap (flats os) x ∙ ap (λ fs. fs ++ flats os ns) s)
    texts.1 w.row w.records w

-- a walk goes into a row, or into structs
pub enters_row : (os : List ℕ) (r : KeptRow) (t : RecordsLeft) (n : Node) (row : KeptRow) → n ≡ kept.Row row → r ≡ without_first 1 row → HasOctets os n → records_left os t ≡ []
    → HasRow os r × (row_flats os r ++ records_left os t ≡ after_first os n)
enters_row os r t n row e f h o =
    let there : HasRow os row × (0 < row.count) = subst (HasOctets os) e h in
    let some : 0 < row.count = there.1 in (
      subst (HasRow os) (sym f) (rest_there os row 1 (omega (arith, some)) there.0),
      ap₂ (λ a b. row_flats os a ++ b) f o ∙ append-nil (row_flats os (without_first 1 row)) ∙ ap (after_first os) (sym e),
    )

pub enters_records : (os : List ℕ) (r : KeptRow) (t : RecordsLeft) (n : Node) (k : KeptRecords) → n ≡ kept.Records k.order k.members k.count k.from → t ≡ first_begun k
    → HasOctets os n → row_flats os r ≡ [] → HasLeft os t × (row_flats os r ++ records_left os t ≡ after_first os n)
enters_records os r t n k e f h z =
    let there : HasRecords os k = kept_same os k (subst (HasOctets os) e h) in (
      subst (HasLeft os) (sym f) (begun_there os k there),
      ap₂ (λ a b. a ++ records_left os b) z f ∙ ap (after_first os) (sym e),
    )

-- there are some of them
pub some_kept : (os : List ℕ) (n : Node) (k : KeptRecords) → n ≡ kept.Records k.order k.members k.count k.from → HasOctets os n → 0 < k.count
some_kept os n k e h = (kept_same os k (subst (HasOctets os) e h)).some

-- Numbers that were taken are the first trees, and what is left is the others.
nums_flat : (zs : List ℤ) → flat (num_trees zs) ≡ num_flats zs
nums_flat [] = refl
nums_flat (z ∷ zs) = ap (λ fs. num_flat z ∷ fs) (nums_flat zs)

pub rowed : (old new : Trees) (zs : List ℤ) → flat old ≡ num_flats zs ++ flat new → old ≡ joined (num_trees zs) new
rowed old new zs e =
    sym (unflat-of old) ∙ ap unflat (e ∙ ap (λ fs. fs ++ flat new) (sym (nums_flat zs)) ∙ sym (flat-joined (num_trees zs) new)) ∙ unflat-of (joined (num_trees zs) new)

nums_count : (zs : List ℤ) → count (num_trees zs) ≡ length zs
nums_count [] = refl
nums_count (z ∷ zs) = ap suc (nums_count zs)

-- the numbers that were taken are the first children that were left
pub row_taken_first : (old new : Trees) (zs : List ℤ) → flat old ≡ num_flats zs ++ flat new
    → (take_trees (length zs) old ≡ num_trees zs) × (drop_trees (length zs) old ≡ new)
row_taken_first old new zs e =
    let j : old ≡ joined (num_trees zs) new = rowed old new zs e in
    (ap₂ take_trees (sym (nums_count zs)) j ∙ take-joined (num_trees zs) new, ap₂ drop_trees (sym (nums_count zs)) j ∙ drop-joined (num_trees zs) new)

-- numbers that are put after the nodes of the open home are these trees
pub numbers_added : (zs : List ℤ) (old new : Building) → new ≡ with_numbers zs old → Adds (num_trees zs) old new
numbers_added zs old new e = e ∙ ap (λ fs. with_nodes (old.nodes ++ fs) old) (sym (nums_flat zs))
