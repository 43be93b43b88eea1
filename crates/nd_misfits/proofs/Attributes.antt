-- How the attributes of one field are compared, one after the other.
use Rattle.std.proofs.Common.{◌≡◌, ℕ, ◌+◌, zero, suc, Bool, true, false, cond, List, [], ◌∷◌, ◌++◌, drop, Some, None, refl, ap}
use Rattle.std.specs.List.{slice_get}
use Rattle.std.specs.Ordering.{int_eq}
use Rattle.std.proofs.lemmas.Option.{same_Some}
use Rattle.nd_types.specs.declared.types.AttrVar.{AttrVar}
use Rattle.nd_value.specs.declared.misfit.MisfitReason.{MisfitReason}
use Rattle.nd_value.specs.declared.misfit.MisfitReason.TheVariants as misfit
use Rattle.nd_value.specs.Tree.{Tree, Trees, trees}
use Rattle.nd_value.specs.Agreement.{Agreement, agreement, member_agreements, number_of, number_in, found_in}
use Rattle.nd_value.specs.Conforms.{disagreement, disagreement_of}
use Rattle.nd_lemmas.proofs.Lists.{drop_next as drop-get}
use Rattle.nd_misfits.specs.declared.numbers.ParamNumber.{ParamNumber}
use Rattle.nd_misfits.specs.Numbers.{value_in, agreements_by}

-- the number at a place
pub number_there : (vs : List Tree) (i : ℕ) (v : Tree) → slice_get vs i ≡ Some v → number_in (trees vs) i ≡ number_of v
number_there [] i v e = cc
number_there (u ∷ us) zero v e = ap number_of (same_Some u v e)
number_there (u ∷ us) (suc i) v e = number_there us i v e

pub number_nowhere : (vs : List Tree) (i : ℕ) → slice_get vs i ≡ None → number_in (trees vs) i ≡ None
number_nowhere [] i e = refl
number_nowhere (u ∷ us) zero e = cc
number_nowhere (u ∷ us) (suc i) e = number_nowhere us i e

append_one : (t : Tree) (xs ys : List Agreement) → disagreement t xs ≡ None → disagreement t (xs ++ ys) ≡ disagreement t ys
append_one t [] ys e = refl
append_one t (a ∷ xs) ys e = go (int_eq a.wanted (found_in a.attr t)) e (append_one t xs ys)
  where
    go : (b : Bool) → cond b (disagreement t xs) (Some (misfit.Disagrees a.wanted (found_in a.attr t))) ≡ None
        → (disagreement t xs ≡ None → disagreement t (xs ++ ys) ≡ disagreement t ys)
        → cond b (disagreement t (xs ++ ys)) (Some (misfit.Disagrees a.wanted (found_in a.attr t))) ≡ disagreement t ys
    go true e ih = ih e
    go false e ih = cc

append_some : (t : Tree) (xs ys : List Agreement) (r : MisfitReason) → disagreement t xs ≡ Some r → disagreement t (xs ++ ys) ≡ Some r
append_some t [] ys r e = cc
append_some t (a ∷ xs) ys r e = go (int_eq a.wanted (found_in a.attr t)) e (append_some t xs ys r)
  where
    go : (b : Bool) → cond b (disagreement t xs) (Some (misfit.Disagrees a.wanted (found_in a.attr t))) ≡ Some r
        → (disagreement t xs ≡ Some r → disagreement t (xs ++ ys) ≡ Some r)
        → cond b (disagreement t (xs ++ ys)) (Some (misfit.Disagrees a.wanted (found_in a.attr t))) ≡ Some r
    go true e ih = ih e
    go false e ih = e

-- what is stated first holds: what is stated after it counts
pub stated_holds : (ss : List Tree) (xs ys : List Agreement) → disagreement_of ss xs ≡ None → disagreement_of ss (xs ++ ys) ≡ disagreement_of ss ys
stated_holds [] xs ys e = refl
stated_holds (t ∷ ts) xs ys e = append_one t xs ys e

-- what is stated first fails
pub stated_fails : (ss : List Tree) (xs ys : List Agreement) (r : MisfitReason) → disagreement_of ss xs ≡ Some r → disagreement_of ss (xs ++ ys) ≡ Some r
stated_fails [] xs ys r e = cc
stated_fails (t ∷ ts) xs ys r e = append_some t xs ys r e

module _ (ks : Trees) (vars : List AttrVar) (i : ℕ) (a : AttrVar) (e : slice_get vars i ≡ Some a) where
  pub member_next : member_agreements ks (drop i vars) ≡ agreement a.attr (number_in ks a.var) ++ member_agreements ks (drop (i + 1) vars)
  member_next = ap (member_agreements ks) (drop-get vars i a e)

module _ (numbers : List ParamNumber) (vars : List AttrVar) (i : ℕ) (a : AttrVar) (e : slice_get vars i ≡ Some a) where
  pub param_next : agreements_by numbers (drop i vars) ≡ agreement a.attr (value_in numbers a) ++ agreements_by numbers (drop (i + 1) vars)
  param_next = ap (agreements_by numbers) (drop-get vars i a e)
