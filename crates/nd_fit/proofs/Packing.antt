-- Numbers of one primitive as a row.
-- `p` is a primitive, `vs` are trees, `z` is a number, `zs` are numbers.
use Rattle.std.proofs.Math.Seq.{drop-append_seam}
use Rattle.std.proofs.Common.{◌≡◌, ℕ, ℤ, ◌+◌, ◌*◌, suc, List, [], ◌∷◌, ◌++◌, length, take, drop, Some, refl, ap, ap₂, sym, ◌∙◌, subst, arith, append_assoc, append-nil, length-append}
use Rattle.std.specs.List.{slice_get}
use Rattle.std.proofs.lemmas.List.{map-append}
use Rattle.nd_base.specs.declared.octets.Order.TheVariants.{Little}
use Rattle.nd_types.specs.declared.types.Primitive.{Primitive}
use Rattle.nd_types.specs.Table.{width}
use Rattle.nd_types.specs.Number.{written, value_of_octets}
use Rattle.nd_types.proofs.NumberLaws.{read_after_write, written-length}
use Rattle.nd_value.specs.Tree.{Tree, more, trees}
use Rattle.nd_flat.specs.Building.{Building, with_numbers}
use Rattle.nd_flat.specs.Built.{Adds}
use Rattle.nd_flat.specs.FlatForm.{row_values, num_trees}
use Rattle.nd_flat.proofs.Frames.{all_both}
use Rattle.nd_flat.proofs.RowWalks.{numbers_added}
use Rattle.nd_fit.specs.Numbers.{number_of, numbers_of, IsNumberOf, AreNumbersOf, written_all}
use Rattle.nd_lemmas.proofs.Lists.{take_next as take_on, take_front}

-- one value more is a number of the primitive
pub numbers_on : (p : Primitive) (vs : List Tree) (i : ℕ) (v : Tree) → slice_get vs i ≡ Some v → AreNumbersOf p (take i vs) → IsNumberOf p v
    → AreNumbersOf p (take (i + 1) vs)
numbers_on p vs i v e h n = subst (AreNumbersOf p) (sym (take_on vs i v e)) (all_both (IsNumberOf p) (take i vs) (v ∷ []) h (n, tt))

written_both : (p : Primitive) (ys zs : List ℤ) → written_all p (ys ++ zs) ≡ written_all p ys ++ written_all p zs
written_both p [] zs = refl
written_both p (y ∷ ys) zs =
    ap (λ os. written Little p y ++ os) (written_both p ys zs) ∙ sym (append_assoc (written Little p y) (written_all p ys) (written_all p zs))

-- one number more is written
pub written_on : (p : Primitive) (vs : List Tree) (i : ℕ) (v : Tree) (old new : List ℕ) → slice_get vs i ≡ Some v
    → old ≡ written_all p (numbers_of (take i vs)) → new ≡ old ++ written Little p (number_of v) → new ≡ written_all p (numbers_of (take (i + 1) vs))
written_on p vs i v old new e h n =
    let one : List ℕ = written Little p (number_of v) in
    n ∙ ap₂ (λ xs ys. xs ++ ys) h (sym (append-nil one))
    ∙ sym (written_both p (numbers_of (take i vs)) (number_of v ∷ []))
    ∙ ap (written_all p) (sym (map-append number_of (take i vs) (v ∷ [])) ∙ ap numbers_of (sym (take_on vs i v e)))

drop_front : (n : ℕ) (xs ys : List ℕ) → length xs ≡ n → drop n (xs ++ ys) ≡ ys
drop_front n xs ys e = ap (λ k. drop k (xs ++ ys)) (sym e) ∙ drop-append_seam xs ys

-- what is written is a row of the numbers
row_read : (p : Primitive) (vs : List Tree) → AreNumbersOf p vs → row_values Little p (length vs) (written_all p (numbers_of vs)) ≡ numbers_of vs
row_read p [] h = refl
row_read p (v ∷ vs) h =
    let z : ℤ = number_of v in
    let l : length (written Little p z) ≡ width p = written-length Little p z in
    let os : List ℕ = written_all p (numbers_of vs) in
    ap₂ (λ x xs. x ∷ xs)
    (ap (value_of_octets Little p) (take_front (width p) (written Little p z) os l) ∙ read_after_write Little p z h.0.fits)
    (ap (row_values Little p (length vs)) (drop_front (width p) (written Little p z) os l) ∙ row_read p vs h.1)

-- with as many octets as they are wide
pub written_count : (p : Primitive) (vs : List Tree) → length (written_all p (numbers_of vs)) ≡ length vs * width p
written_count p [] = let e : 0 * width p ≡ 0 = omega arith in sym e
written_count p (v ∷ vs) =
    let size : suc (length vs) * width p ≡ width p + length vs * width p = omega arith in
    let z : ℤ = number_of v in
    length-append (written Little p z) (written_all p (numbers_of vs)) ∙ ap₂ (λ a b. a + b) (written-length Little p z) (written_count p vs) ∙ sym size

as_trees : (p : Primitive) (vs : List Tree) → AreNumbersOf p vs → num_trees (numbers_of vs) ≡ trees vs
as_trees p [] h = refl
as_trees p (v ∷ vs) h = ap₂ more (sym h.0.alone) (as_trees p vs h.1)

-- a row of the numbers puts them after the nodes that are there
pub row_adds : (p : Primitive) (vs : List Tree) (n : ℕ) (os : List ℕ) (old new : Building) → n ≡ length vs → os ≡ written_all p (numbers_of vs)
    → AreNumbersOf p vs → new ≡ with_numbers (row_values Little p n os) old → Adds (trees vs) old new
row_adds p vs n os old new k o h e =
    let same : row_values Little p n os ≡ numbers_of vs = ap₂ (row_values Little p) k o ∙ row_read p vs h in
    subst (λ ts. Adds ts old new) (as_trees p vs h) (numbers_added (numbers_of vs) old new (e ∙ ap (λ zs. with_numbers zs old) same))

pub row_is_whole : (p : Primitive) (vs : List Tree) (n : ℕ) (os : List ℕ) → n ≡ length vs → os ≡ written_all p (numbers_of vs) → length os ≡ n * width p
row_is_whole p vs n os k o = ap length o ∙ written_count p vs ∙ ap (λ m. m * width p) (sym k)
