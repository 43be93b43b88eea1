-- Where the runs of types are.
use Rattle.std.proofs.Common.{◌≡◌, ℕ, ◌+◌, zero, suc, Bool, true, false, List, [], ◌∷◌, ◌++◌, length, take, drop, Option, Some, None, refl, ap, ap₂, sym, ◌∙◌, arith, length-append, subst}
use Rattle.std.specs.List.{slice_get}
use Rattle.std.proofs.Math.Seq.{drop-append-add}
use Rattle.std.proofs.lemmas.Option.{same_Some}
use Rattle.nd_types.specs.declared.types.TypeDef.{TypeDef}
use Rattle.nd_types.specs.declared.types.TypeDef.TheVariants as def
use Rattle.nd_types.specs.declared.types.Arm.{Arm}
use Rattle.nd_types.specs.declared.types.Field.{Field}
use Rattle.nd_types.specs.declared.types.Operation.{Operation}
use Rattle.nd_types.specs.Table.{Table, type_at}
use Rattle.nd_types.specs.Layout.{align_of, hoists}
use Rattle.ndr_code.specs.declared.instr.Instr.{Instr}
use Rattle.ndr_code.specs.declared.instr.Instr.TheVariants as op
use Rattle.ndr_code.specs.Code.{place_run, gap_run, arms_code, default_code, member_calls, array_run, whole_run, type_run, type_runs, types_length, no_address, whole_at, place_at, operations_code}
use Rattle.ndr_code.specs.Code.{code_of}
use Rattle.ndr_code.specs.Runs.{IsRunAt}
use Rattle.ndr_code.proofs.Runs.{behind_at, part_at, behind_two}

same_calls : (p q : ℕ → ℕ) (fs : List Field) → length (member_calls p fs) ≡ length (member_calls q fs)
same_calls p q [] = refl
same_calls p q (f ∷ fs) = ap suc (same_calls p q fs)

same_arms : (p q : ℕ → ℕ) (xs : List Arm) → length (arms_code p xs) ≡ length (arms_code q xs)
same_arms p q [] = refl
same_arms p q (x ∷ xs) = ap suc (same_arms p q xs)

same_default : (p q : ℕ → ℕ) (d : Option Arm) → length (default_code p d) ≡ length (default_code q d)
same_default p q None = refl
same_default p q (Some a) = refl

same_array : (a b : ℕ) (bound : Option ℕ) (varying : Bool) → length (array_run a bound varying) ≡ length (array_run b bound varying)
same_array a b (Some n) true = refl
same_array a b (Some n) false = refl
same_array a b None true = refl
same_array a b None false = refl

same_joined : (xs xs' ys ys' : List Instr) → length xs ≡ length xs' → length ys ≡ length ys' → length (xs ++ ys) ≡ length (xs' ++ ys')
same_joined xs xs' ys ys' e f = length-append xs ys ∙ ap₂ (λ m n. m + n) e f ∙ sym (length-append xs' ys')

-- a place run is equally long whatever the addresses are
pub same_length : (p w p' w' : ℕ → ℕ) (table : Table) (t : ℕ) (d : TypeDef) → length (place_run p w table t d) ≡ length (place_run p' w' table t d)
same_length p w p' w' table t (def.Prim x) = refl
same_length p w p' w' table t (def.Enum x) = refl
same_length p w p' w' table t (def.Struct fs) =
    same_joined (gap_run (align_of table t)) (gap_run (align_of table t)) _ _ refl
    (ap suc (same_joined (member_calls p fs) (member_calls p' fs) _ _ (same_calls p p' fs) refl))
same_length p w p' w' table t (def.Array elem bound varying) = same_array (p elem.0) (p' elem.0) bound varying
same_length p w p' w' table t (def.Text elem bound) = refl
same_length p w p' w' table t (def.Union tag enc arms default) =
    same_joined (gap_run (align_of table tag.0)) (gap_run (align_of table tag.0)) _ _ refl
    (ap suc (same_joined (arms_code p arms) (arms_code p' arms) _ _ (same_arms p p' arms) (same_default p p' default)))
same_length p w p' w' table t (def.Pointer class to) = refl
same_length p w p' w' table t def.Context = refl
same_length p w p' w' table t (def.Pipe elem) = refl

same_whole : (b : Bool) (a a' : ℕ) → length (whole_run b a) ≡ length (whole_run b a')
same_whole true a a' = refl
same_whole false a a' = refl

pub same_run : (p w p' w' : ℕ → ℕ) (table : Table) (t : ℕ) (d : TypeDef) → length (type_run p w table t d) ≡ length (type_run p' w' table t d)
same_run p w p' w' table t d =
    same_joined (whole_run (hoists table t) (p t)) (whole_run (hoists table t) (p' t)) _ _ (same_whole (hoists table t) (p t) (p' t)) (same_length p w p' w' table t d)

-- the run of the i-th of these types is after those before it
runs_from : (p w : ℕ → ℕ) (table : Table) (t : ℕ) (ds : List TypeDef) (i : ℕ) (d : TypeDef) → slice_get ds i ≡ Some d
    → IsRunAt (type_runs p w table t ds) (types_length table t (take i ds)) (type_run p w table (i + t) d)
runs_from p w table t [] i d e = cc
runs_from p w table t (x ∷ ds) zero d e =
    let n : t ≡ zero + t = omega arith in
    (type_runs p w table (suc t) ds, ap₂ (λ y k. type_run p w table k y ++ type_runs p w table (suc t) ds) (same_Some x d e) n)
runs_from p w table t (x ∷ ds) (suc i) d e =
    let h : IsRunAt (type_runs p w table (suc t) ds) (types_length table (suc t) (take i ds)) (type_run p w table (i + suc t) d) =
    runs_from p w table (suc t) ds i d e in
    let n : i + suc t ≡ suc i + t = omega arith in
    let l : types_length table t (x ∷ take i ds) ≡ length (type_run p w table t x) + types_length table (suc t) (take i ds) =
    length-append (type_run no_address no_address table t x) (type_runs no_address no_address table (suc t) (take i ds))
    ∙ ap (λ k. k + types_length table (suc t) (take i ds)) (same_run no_address no_address p w table t x) in (
      h.0,
      ap (λ k. drop k (type_run p w table t x ++ type_runs p w table (suc t) ds)) l
          ∙ drop-append-add (type_run p w table t x) (type_runs p w table (suc t) ds) (types_length table (suc t) (take i ds))
          ∙ h.1 ∙ ap (λ k. type_run p w table k d ++ h.0) n,
    )

module _ (table : Table) (operations : List Operation) (t : ℕ) (d : TypeDef) (is : type_at table t ≡ Some d) where
  own_runs_at : IsRunAt (type_runs (place_at table) (whole_at table) table 0 table) (types_length table 0 (take t table)) (type_run (place_at table) (whole_at table) table t d)
  own_runs_at =
      let h : IsRunAt (type_runs (place_at table) (whole_at table) table 0 table) (types_length table 0 (take t table))
      (type_run (place_at table) (whole_at table) table (t + 0) d) = runs_from (place_at table) (whole_at table) table 0 table t d is in
      let n : t + 0 ≡ t = omega arith in
      (h.0, h.1 ∙ ap (λ k. type_run (place_at table) (whole_at table) table k d ++ h.0) n)

  -- the whole run of a type and its place run after it
  type_runs_at : IsRunAt (code_of table operations) (whole_at table t) (type_run (place_at table) (whole_at table) table t d)
  unfolding whole_at
  type_runs_at = behind_two op.Void op.Ret _ (operations_code table operations) (types_length table 0 (take t table)) _ own_runs_at

  -- the place run of a type is at its place address
  pub place_run_at : IsRunAt (code_of table operations) (place_at table t) (place_run (place_at table) (whole_at table) table t d)
  unfolding whole_at place_at
  place_run_at =
      let h : IsRunAt (code_of table operations) (whole_at table t + length (whole_run (hoists table t) (place_at table t))) (place_run (place_at table) (whole_at table) table t d) =
      behind_at (code_of table operations) (whole_at table t) (whole_run (hoists table t) (place_at table t)) (place_run (place_at table) (whole_at table) table t d) type_runs_at in
      subst (λ n. IsRunAt (code_of table operations) (whole_at table t + n) (place_run (place_at table) (whole_at table) table t d)) (same_whole (hoists table t) (place_at table t) 0) h

  -- a type that hoists has its maximum count first, and then its place run
  pub hoist_run_at : hoists table t ≡ true → IsRunAt (code_of table operations) (whole_at table t) (op.Hoist ∷ op.Call (place_at table t) ∷ op.Ret ∷ [])
  hoist_run_at e =
      let R : List Instr = place_run (place_at table) (whole_at table) table t d in
      part_at (code_of table operations) (whole_at table t) (op.Hoist ∷ op.Call (place_at table t) ∷ op.Ret ∷ []) R
      (subst (λ b. IsRunAt (code_of table operations) (whole_at table t) (whole_run b (place_at table t) ++ R)) e type_runs_at)

  -- for any other type the whole run is the place run
  pub whole_run_at : hoists table t ≡ false → IsRunAt (code_of table operations) (whole_at table t) (place_run (place_at table) (whole_at table) table t d)
  whole_run_at e =
      let R : List Instr = place_run (place_at table) (whole_at table) table t d in
      subst (λ b. IsRunAt (code_of table operations) (whole_at table t) (whole_run b (place_at table t) ++ R)) e type_runs_at

-- of a type that does not hoist the whole run is the place run
pub whole_is_place : (table : Table) (t : ℕ) → hoists table t ≡ false → place_at table t ≡ whole_at table t
unfolding place_at whole_at
whole_is_place table t e =
    let z : 2 + types_length table 0 (take t table) + 0 ≡ 2 + types_length table 0 (take t table) = omega arith in
    ap (λ b. 2 + types_length table 0 (take t table) + length (whole_run b 0)) e ∙ z
