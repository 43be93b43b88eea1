-- The addresses of the runs of types are the places in a code that has the address 0 everywhere.
-- `table` are the types, `t` is a type's number, `d` what it is.
use Rattle.std.proofs.Common.{◌≡◌, ◌∙◌, ℕ, zero, suc, ◌+◌, ◌≤◌, false, List, [], ◌∷◌, ◌++◌, length, Option, Some, None, refl, ap, ap₂, sym, map, take, arith, append_assoc, append-nil, length-append}
use Rattle.std.specs.Prelude.{option_map}
use Rattle.std.specs.List.{enumerate_from, slice_get}
use Rattle.std.proofs.lemmas.List.{take_all}
use Rattle.std.proofs.lemmas.Option.{same_Some}
use mathlib.Core.Path.{fun_ext}
use Rattle.nd_types.specs.declared.types.TypeDef.{TypeDef}
use Rattle.nd_types.specs.Table.{Table, type_at}
use Rattle.nd_types.specs.Layout.{hoists, hoists_by, hoists_within}
use Rattle.ndr_code.specs.declared.instr.Instr.{Instr}
use Rattle.ndr_code.specs.declared.instr.Instr.TheVariants as op
use Rattle.ndr_code.specs.Code.{place_run, whole_run, type_run, type_runs, types_length, no_address, whole_at, place_at, table_code}
use Rattle.ndr_plan.specs.declared.addresses.Address.{Address}
use Rattle.ndr_plan.specs.declared.addresses.Addresses.{Addresses}
use Rattle.ndr_plan.specs.Addresses.{AreAddresses, place_in, whole_in, place_found, whole_found}

-- where the runs of a type are
abbrev pub address_at : Table → ℕ × TypeDef → Address
address_at table e = record { whole = whole_at table e.0; place = place_at table e.0 }

-- the code of the types before the t-th, with the address 0 everywhere
abbrev pub code_before : Table → ℕ → List Instr
code_before table t = op.Void ∷ op.Ret ∷ type_runs no_address no_address table 0 (take t table)

-- the runs of one more type
runs_taken : (table : Table) (k : ℕ) (ds : List TypeDef) (i : ℕ) (d : TypeDef) → slice_get ds i ≡ Some d
    → type_runs no_address no_address table k (take i ds) ++ type_run no_address no_address table (k + i) d ≡ type_runs no_address no_address table k (take (suc i) ds)
runs_taken table k [] i d e = cc
runs_taken table k (x ∷ ds) zero d e =
    let z : k + 0 ≡ k = omega arith in
    ap₂ (λ j y. type_run no_address no_address table j y) z (sym (same_Some x d e)) ∙ sym (append-nil (type_run no_address no_address table k x))
runs_taken table k (x ∷ ds) (suc i) d e =
    let z : k + suc i ≡ suc k + i = omega arith in
    let own = type_run no_address no_address table k x in
    let rest = type_runs no_address no_address table (suc k) (take i ds) in
    append_assoc own rest (type_run no_address no_address table (k + suc i) d)
    ∙ ap (λ j. own ++ (rest ++ type_run no_address no_address table j d)) z
    ∙ ap (λ xs. own ++ xs) (runs_taken table (suc k) ds i d e)

pub code_more : (table : Table) (t : ℕ) (d : TypeDef) → type_at table t ≡ Some d
    → code_before table t ++ (whole_run (hoists table t) 0 ++ place_run no_address no_address table t d) ≡ code_before table (t + 1)
code_more table t d e =
    let z : t ≡ 0 + t = omega arith in
    let y : suc t ≡ t + 1 = omega arith in
    ap (λ j. code_before table t ++ type_run no_address no_address table j d) z
    ∙ ap (λ xs. op.Void ∷ op.Ret ∷ xs) (runs_taken table 0 table t d e) ∙ ap (code_before table) y

-- the address of a type is the length of the code before it
pub whole_here : (table : Table) (t : ℕ) → length (code_before table t) ≡ whole_at table t
unfolding whole_at
whole_here table t = omega arith

pub place_here : (table : Table) (t : ℕ) → length (code_before table t ++ whole_run (hoists table t) 0) ≡ place_at table t
unfolding place_at
place_here table t = length-append (code_before table t) (whole_run (hoists table t) 0) ∙ omega arith

-- the addresses of one more type
pub addresses_more : (f : ℕ × TypeDef → Address) (k : ℕ) (ds : List TypeDef) (i : ℕ) (d : TypeDef) → slice_get ds i ≡ Some d
    → map f (enumerate_from k (take i ds)) ++ (f (k + i, d) ∷ []) ≡ map f (enumerate_from k (take (suc i) ds))
addresses_more f k [] i d e = cc
addresses_more f k (x ∷ ds) zero d e = let z : k + 0 ≡ k = omega arith in ap₂ (λ j y. f (j, y) ∷ []) z (sym (same_Some x d e))
addresses_more f k (x ∷ ds) (suc i) d e =
    let z : k + suc i ≡ k + 1 + i = omega arith in
    ap (λ j. f (k, x) ∷ (map f (enumerate_from (k + 1) (take i ds)) ++ (f (j, d) ∷ []))) z ∙ ap (λ xs. f (k, x) ∷ xs) (addresses_more f (k + 1) ds i d e)

-- the same of what is kept
pub kept_more : (table : Table) (t : ℕ) (d : TypeDef) (I I' : List Address) (whole place : ℕ) → type_at table t ≡ Some d
    → I ≡ map (address_at table) (enumerate_from 0 (take t table)) → I' ≡ I ++ (record { whole = whole; place = place } ∷ [])
    → whole ≡ whole_at table t → place ≡ place_at table t → I' ≡ map (address_at table) (enumerate_from 0 (take (t + 1) table))
kept_more table t d I I' whole place is kept e w p =
    let z : t ≡ 0 + t = omega arith in
    let y : suc t ≡ t + 1 = omega arith in
    e ∙ ap (λ xs. xs ++ (record { whole = whole; place = place } ∷ [])) kept
    ∙ ap₂ (λ a b. map (address_at table) (enumerate_from 0 (take t table)) ++ (record { whole = a; place = b } ∷ [])) w p
    ∙ ap (λ j. map (address_at table) (enumerate_from 0 (take t table)) ++ (address_at table (j, d) ∷ [])) z
    ∙ addresses_more (address_at table) 0 table t d is ∙ ap (λ k. map (address_at table) (enumerate_from 0 (take k table))) y

found_at : (f : ℕ × TypeDef → Address) (k : ℕ) (ds : List TypeDef) (i : ℕ) → slice_get (map f (enumerate_from k ds)) i ≡ option_map (λ d. f (k + i, d)) (slice_get ds i)
found_at f k [] i = refl
found_at f k (x ∷ ds) zero = let z : k ≡ k + 0 = omega arith in ap (λ j. Some (f (j, x))) z
found_at f k (x ∷ ds) (suc i) =
    let z : k + 1 + i ≡ k + suc i = omega arith in
    found_at f (k + 1) ds i ∙ ap (λ j. option_map (λ d. f (j, d)) (slice_get ds i)) z

-- a number of no type
past_end : (table : Table) (t : ℕ) → type_at table t ≡ None → length table ≤ t
past_end [] t e = omega arith
past_end (x ∷ table) zero e = cc
past_end (x ∷ table) (suc t) e = let k : length table ≤ t = past_end table t e in omega (arith, k)

none_hoists : (table : Table) (t : ℕ) → type_at table t ≡ None → hoists table t ≡ false
unfolding hoists
none_hoists table t e = ap (hoists_by (hoists_within 31 table)) e

module _ (table : Table) (a : Addresses) (items : a.items.items ≡ map (address_at table) (enumerate_from 0 table)) (end : a.end ≡ whole_at table (length table)) where
  found : (t : ℕ) → slice_get a.items.items t ≡ option_map (λ d. address_at table (t, d)) (type_at table t)
  found t =
      let z : 0 + t ≡ t = omega arith in
      ap (λ xs. slice_get xs t) items ∙ found_at (address_at table) 0 table t ∙ ap (λ j. option_map (λ d. address_at table (j, d)) (type_at table t)) z

  end_whole : (t : ℕ) → type_at table t ≡ None → a.end ≡ whole_at table t
  unfolding whole_at
  end_whole t e =
      end ∙ ap (λ ds. 2 + types_length table 0 ds) (take_all (length table) table (omega arith) ∙ sym (take_all t table (past_end table t e)))

  end_place : (t : ℕ) → type_at table t ≡ None → whole_at table t ≡ place_at table t
  unfolding whole_at place_at
  end_place t e =
      let z : 2 + types_length table 0 (take t table) ≡ 2 + types_length table 0 (take t table) + 0 = omega arith in
      z ∙ ap (λ b. 2 + types_length table 0 (take t table) + length (whole_run b 0)) (sym (none_hoists table t e))

  place_is : (t : ℕ) (d : Option TypeDef) → type_at table t ≡ d → place_found a.end (option_map (λ d. address_at table (t, d)) d) ≡ place_at table t
  place_is t (Some d) e = refl
  place_is t None e = end_whole t e ∙ end_place t e

  whole_is : (t : ℕ) (d : Option TypeDef) → type_at table t ≡ d → whole_found a.end (option_map (λ d. address_at table (t, d)) d) ≡ whole_at table t
  whole_is t (Some d) e = refl
  whole_is t None e = end_whole t e

  -- these are the addresses of the table
  pub are_addresses : AreAddresses table a
  are_addresses =
      record {
        places = λ t. ap (place_found a.end) (found t) ∙ place_is t (type_at table t) refl;
        wholes = λ t. ap (whole_found a.end) (found t) ∙ whole_is t (type_at table t) refl;
      }

-- all types are before a number of no type
pub whole_past : (table : Table) (t : ℕ) → length table ≤ t → whole_at table t ≡ whole_at table (length table)
unfolding whole_at
whole_past table t past =
    ap (λ ds. 2 + types_length table 0 ds) (take_all t table past ∙ sym (take_all (length table) table (omega arith)))

-- with the right addresses the runs of the types are those of the plan
pub runs_are : (table : Table) (a : Addresses) → AreAddresses table a → (C : List Instr) → C ≡ op.Void ∷ op.Ret ∷ type_runs (place_in a) (whole_in a) table 0 table → C ≡ table_code table
runs_are table a h C e =
    e ∙ ap₂ (λ p w. op.Void ∷ op.Ret ∷ type_runs p w table 0 table) (fun_ext {f = place_in a} {g = place_at table} h.places) (fun_ext {f = whole_in a} {g = whole_at table} h.wholes)

-- addresses of nothing are 0
pub nowhere_run : (a : Addresses) → a.items.items ≡ [] → a.end ≡ 0 → (table : Table) (t : ℕ) (d : TypeDef)
    → place_run (place_in a) (whole_in a) table t d ≡ place_run no_address no_address table t d
nowhere_run a items end table t d =
    ap₂ (λ p w. place_run p w table t d)
    (fun_ext {f = place_in a} {g = no_address} (λ u. ap₂ (λ e xs. place_found e (slice_get xs u)) end items))
    (fun_ext {f = whole_in a} {g = no_address} (λ u. ap₂ (λ e xs. whole_found e (slice_get xs u)) end items))
