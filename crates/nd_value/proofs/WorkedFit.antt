-- The worked example: the operation is plain, so its interface is legal, and the numbers conform to its request.
use Rattle.std.proofs.Common.{◌≡◌, ◌≢◌, ℕ, zero, suc, ◌+◌, pos, List, [], ◌∷◌, Some, None, get_or, refl, ap, sym, subst, arith, lit<, lit≤}
use Rattle.std.specs.Prelude.{All, AllPairs}
use Rattle.std.specs.List.{slice_get}
use Rattle.nd_types.specs.declared.interface.Interface.{Interface}
use Rattle.nd_types.specs.declared.types.Param.{Param}
use Rattle.nd_types.specs.declared.types.Operation.{Operation}
use Rattle.nd_types.specs.declared.types.Side.{Side}
use Rattle.nd_types.specs.declared.types.Side.TheVariants as side
use Rattle.nd_types.specs.Kinds.{basic_types}
use Rattle.nd_types.specs.Legal.{IsLegal}
use Rattle.nd_types.specs.Numbers.{IsNumberSide}
use Rattle.nd_types.specs.Plain.{IsPlainParam, IsPlainOperation, IsPlainInterface}
use Rattle.nd_types.specs.Roots.{roots_of}
use Rattle.nd_types.specs.Table.{Table}
use Rattle.nd_types.proofs.NumberSides.{plain_numbers}
use Rattle.nd_types.proofs.PlainLaws.{plain_is_legal}
use Rattle.nd_value.specs.declared.value.Graph.{Graph}
use Rattle.nd_value.specs.Tree as tree
use Rattle.nd_value.specs.Tree.{Tree, node, none, Referent}
use Rattle.nd_value.specs.Setting.{Setting}
use Rattle.nd_value.specs.Conforms.{Conforms}
use Rattle.nd_value.specs.Fitting.{setting_of, IsFit}
use Rattle.nd_value.specs.WorkedFit.{add_params, add, one_two_three}

abbrev only : {X : Type 0} (P : X → Type 0) → (x : X) → P x → All P (x ∷ [])
only P x h zero d lt = h
only P x h (suc k) d lt = absurd (omega (arith, lt))

are_plain : All IsPlainParam add_params
are_plain zero d lt = record { integer = refl; way = refl; no_attributes = refl; name = refl }
are_plain (suc zero) d lt = record { integer = refl; way = refl; no_attributes = refl; name = refl }
are_plain (suc (suc zero)) d lt = record { integer = refl; way = refl; no_attributes = refl; name = refl }
are_plain (suc (suc (suc k))) d lt = absurd (omega (arith, lt))

add_names : AllPairs (λ (p q : Param). p.field.name ≢ q.field.name) add_params
add_names i zero d low high e = absurd (omega (arith, low))
add_names zero (suc zero) d low high e = absurd (omega (arith, ap (λ (name : List ℕ). get_or name 0 0) e))
add_names zero (suc (suc zero)) d low high e = absurd (omega (arith, ap (λ (name : List ℕ). get_or name 0 0) e))
add_names (suc zero) (suc zero) d low high e = absurd (omega (arith, low))
add_names (suc zero) (suc (suc zero)) d low high e = absurd (omega (arith, ap (λ (name : List ℕ). get_or name 0 0) e))
add_names (suc (suc i)) (suc zero) d low high e = absurd (omega (arith, low))
add_names (suc (suc i)) (suc (suc zero)) d low high e = absurd (omega (arith, low))
add_names i (suc (suc (suc j))) d low high e = absurd (omega (arith, high))

add_is_plain : IsPlainOperation add
add_is_plain = record { name = refl; params = are_plain; no_result = refl; few = lit≤ tt; distinct = add_names }

pub plain : IsPlainInterface basic_types (add ∷ [])
plain = record { basic = refl; plain = only IsPlainOperation add add_is_plain; few = lit≤ tt; distinct = λ i j d low high e. absurd (omega (arith, low, high)) }

pub numbers : (s : Side) → IsNumberSide basic_types (add ∷ []) 0 s
numbers s = plain_numbers basic_types (add ∷ []) plain 0 s

pub legal : IsLegal basic_types (add ∷ [])
legal = plain_is_legal basic_types (add ∷ []) plain

pub conforms : (i : Interface) → i.types ≡ basic_types → Conforms (setting_of i add side.In) (record { roots = one_two_three; cells = [] })
unfolding roots_of
conforms i e = subst (λ (t : Table). Conforms (record { table = t; op = add; side = side.In; given = None }) (record { roots = one_two_three; cells = [] })) (sym e)
    (record {
      all_roots = refl;
      machine_values = refl;
      local = (refl, (refl, (refl, tt)));
      unshared = tt;
      reached = λ c low high. absurd (omega (arith, low, high));
      agreed = ((tt, tt), ((tt, tt), ((tt, tt), tt)));
      few_cells = lit< tt;
      few_nodes = (lit< tt, (lit< tt, (lit< tt, tt)));
    })

-- under an interface of this operation alone
pub fits : (i : Interface) (roots : List Tree) (cells : List Referent) → i.types ≡ basic_types → i.operations ≡ add ∷ [] → roots ≡ one_two_three → cells ≡ []
    → IsFit (record { graph = record { roots = roots; cells = cells }; op = 0; side = side.In; interface = i; given = None })
fits i roots cells types operations r c =
    subst (λ (rs : List Tree). IsFit (record { graph = record { roots = rs; cells = cells }; op = 0; side = side.In; interface = i; given = None })) (sym r)
    (subst (λ (cs : List Referent). IsFit (record { graph = record { roots = one_two_three; cells = cs }; op = 0; side = side.In; interface = i; given = None })) (sym c)
    (record { operation = add; is_there = rw operations refl; conforms = conforms i types; request = tt }))
