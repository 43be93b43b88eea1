-- A table of the operations of a file, which is filled from the last declaration on.
use Rattle.std.proofs.Common.{◌≡◌, ◌∙◌, ℕ, suc, ◌+◌, ◌<◌, arith, Bool, true, false, cond, List, [], ◌∷◌, Option, Some, None, Result, Ok, Err, refl, ap, sym, subst, drop, length}
use Rattle.std.specs.List.{slice_get}
use Rattle.std.specs.Result.{OnOk}
use Rattle.std.specs.Str.{bytes_eq}
use Rattle.std.proofs.lemmas.List.{drop_more}
use Rattle.std.proofs.lemmas.Option.{get_or_from_slice_get}
use Rattle.std.proofs.lemmas.Slice.Eq.{bytes_eq-Decides}
use Rattle.nd_base.specs.declared.octets.Memory.{Memory}
use Rattle.idl_grammar.specs.declared.words.Spelling.{Spelling}
use Rattle.idl_grammar.specs.Tree.{Export}
use Rattle.idl_grammar.specs.Tree as idl
use Rattle.idl_scope.specs.Known.{found, put}
use Rattle.idl_scope.specs.Steps.{parameters_of}
use Rattle.idl_check.specs.AcfRules.{parameters_if, parameters_found, parameters_in, operation_name, number_if, number_of, AreOperations}

-- what is found once a name has got a value
found_put : {X : Type 0} (es : List (List ℕ × X)) (name other : List ℕ) (x : X) → found other (put es name x) ≡ cond (bytes_eq other name) (Some x) (found other es)
found_put [] name other x = refl
found_put (e ∷ es) name other x = by (found_put es name other x) (bytes_eq name e.0) refl where
  both : (b : Bool) → cond b (Some x) (found other es) ≡ cond b (Some x) (cond b (Some e.1) (found other es))
  both true = refl
  both false = refl

  differ : (b d : Bool) → bytes_eq other e.0 ≡ b → bytes_eq other name ≡ d → bytes_eq name e.0 ≡ false
      → cond b (Some e.1) (cond d (Some x) (found other es)) ≡ cond d (Some x) (cond b (Some e.1) (found other es))
  differ true true h k n =
      let same : bytes_eq name e.0 ≡ true = (bytes_eq-Decides name e.0).1 (sym ((bytes_eq-Decides other name).0 k) ∙ (bytes_eq-Decides other e.0).0 h) in
      cc
  differ true false h k n = refl
  differ false true h k n = refl
  differ false false h k n = refl

  by : found other (put es name x) ≡ cond (bytes_eq other name) (Some x) (found other es) → (b : Bool) → bytes_eq name e.0 ≡ b
      → found other (elim b [ true ↦ (e.0, x) ∷ es | false ↦ e ∷ put es name x ]) ≡ cond (bytes_eq other name) (Some x) (found other (e ∷ es))
  by rest true k =
      both (bytes_eq other e.0)
      ∙ ap (λ b. cond b (Some x) (found other (e ∷ es))) (sym (ap (bytes_eq other) ((bytes_eq-Decides name e.0).0 k)))
  by rest false k =
      ap (λ f. cond (bytes_eq other e.0) (Some e.1) f) rest
      ∙ differ (bytes_eq other e.0) (bytes_eq other name) refl refl k

-- no declaration is left
pub none_named : (i : ℕ) → AreOperations i [] []
none_named i = record { found = λ name. refl }

-- an operation before those that are left
pub operation_named : (i : ℕ) (left : List Export) (table : List (List ℕ × ℕ)) (e : Export) (n : Spelling) → Some n ≡ operation_name e
    → AreOperations (suc i) left table → AreOperations i (e ∷ left) (put table n.octets i)
operation_named i left table e n is h = record {
  found = λ name.
      found_put table n.octets name i ∙ by name (bytes_eq name n.octets) ∙ ap (λ o. number_if name i o (number_of name (suc i) left)) is;
} where
  by : (name : List ℕ) (b : Bool) → cond b (Some i) (found name table) ≡ elim b [ true ↦ Some i | false ↦ number_of name (suc i) left ]
  by name true = refl
  by name false = h.found name

-- the same, where running out of memory may be reported
pub operation_put : (i : ℕ) (left : List Export) (old new : List (List ℕ × ℕ)) (e : Export) (n : Spelling) (octets : List ℕ) (r : Result (Unit {0}) Memory)
    → Some n ≡ operation_name e → octets ≡ n.octets → OnOk r (new ≡ put old octets i) → AreOperations (suc i) left old → OnOk r (AreOperations i (e ∷ left) new)
operation_put i left old new e n octets (Ok done) is same h are =
    subst (λ t. AreOperations i (e ∷ left) t) (sym (h ∙ ap (λ o. put old o i) same)) (operation_named i left old e n is are)
operation_put i left old new e n octets (Err fault) is same h are = tt

-- a declaration that is no operation
pub other_named : (i : ℕ) (left : List Export) (table : List (List ℕ × ℕ)) (e : Export) → None ≡ operation_name e
    → AreOperations (suc i) left table → AreOperations i (e ∷ left) table
other_named i left table e is h = record {
  found = λ name. h.found name ∙ ap (λ o. number_if name i o (number_of name (suc i) left)) is;
}

-- one more of the last declarations
pub one_before : (all : List Export) (k i : ℕ) (x : Export) (old new : List (List ℕ × ℕ)) → k < length all → slice_get all k ≡ Some x → suc k ≡ i
    → AreOperations i (drop i all) old → ((left : List Export) → AreOperations (suc k) left old → AreOperations k (x ∷ left) new) → AreOperations k (drop k all) new
one_before all k i x old new below e next h added =
    let next_one : k + 1 ≡ suc k = omega arith in
    let these : x ∷ drop (suc k) all ≡ drop k all =
    ap (λ j. x ∷ drop j all) (sym next_one) ∙ ap (λ y. y ∷ drop (k + 1) all) (sym (get_or_from_slice_get all k x x e)) ∙ sym (drop_more all k x below) in
    subst (λ l. AreOperations k l new) these (added (drop (suc k) all) (subst (λ j. AreOperations j (drop j all) old) (sym next) h))

-- the parameters of the declaration of a number
abbrev pub parameters_at : List Export → Option ℕ → Option (List idl.Parameter)
parameters_at all None = None
parameters_at all (Some i) = parameters_in (slice_get all i)

-- the declaration of the number that is found
same_place : (all es : List Export) (i : ℕ) → ((k : ℕ) → slice_get all (i + k) ≡ slice_get es k) → (name : Spelling)
    → parameters_at all (number_of name.octets i es) ≡ parameters_found name es
same_place all [] i there name = refl
same_place all (e ∷ es) i there name = by e (there 0) (same_place all es (suc i) (λ k. ap (slice_get all) (omega arith) ∙ there (suc k)) name) where
  at_it : (e : Export) → slice_get all (i + 0) ≡ Some e → slice_get all i ≡ Some e
  at_it e h = ap (slice_get all) (omega arith) ∙ h

  by : (e : Export) → slice_get all (i + 0) ≡ Some e → parameters_at all (number_of name.octets (suc i) es) ≡ parameters_found name es
      → parameters_at all (number_of name.octets i (e ∷ es)) ≡ parameters_found name (e ∷ es)
  by (idl.Operation at a r n ps) h rest = either (bytes_eq name.octets n.octets) where
    either : (b : Bool) → parameters_at all (elim b [ true ↦ Some i | false ↦ number_of name.octets (suc i) es ])
        ≡ elim (parameters_if b (parameters_of ps)) [ Some qs ↦ Some qs | None ↦ parameters_found name es ]
    either true = ap parameters_in (at_it (idl.Operation at a r n ps) h)
    either false = rest
  by (idl.Typedef at a pipe t ds) h rest = rest
  by (idl.Const at t star n v) h rest = rest
  by (idl.Tagged at a t) h rest = rest

pub parameters_there : (all : List Export) (name : Spelling) → parameters_at all (number_of name.octets 0 all) ≡ parameters_found name all
parameters_there all name = same_place all all 0 (λ k. ap (slice_get all) (omega arith)) name

pub parameters_are : (all : List Export) (table : List (List ℕ × ℕ)) (name : Spelling) (octets : List ℕ) (got : Option ℕ) → AreOperations 0 all table
    → octets ≡ name.octets → got ≡ found octets table → parameters_at all got ≡ parameters_found name all
parameters_are all table name octets got are same is =
    ap (parameters_at all) (is ∙ are.found octets ∙ ap (λ o. number_of o 0 all) same) ∙ parameters_there all name
