-- The names of a legal interface are words.
use Rattle.std.proofs.Common.{◌≡◌, ℕ, ◌+◌, Bool, true, false, ◌&&◌, not, List, [], ◌∷◌, ◌++◌, length, Option, Some, None, refl, ap, sym, ◌∙◌, subst, add-one, inl, inr}
use Rattle.std.specs.Prelude.{filter, cond, eqb, nat_le}
use Rattle.std.specs.List.{list_all, slice_get, AllByRecursion}
use Rattle.std.proofs.lemmas.Bool.{and_parts}
use Rattle.nd_base.specs.Text.{is_word, is_identifier}
use Rattle.nd_types.specs.declared.types.TypeDef.{TypeDef}
use Rattle.nd_types.specs.declared.types.TypeDef.TheVariants as def
use Rattle.nd_types.specs.declared.types.TypeId.{TypeId}
use Rattle.nd_types.specs.declared.types.Field.{Field}
use Rattle.nd_types.specs.declared.types.Param.{Param}
use Rattle.nd_types.specs.declared.types.Side.{Side}
use Rattle.nd_types.specs.declared.types.Side.TheVariants as side
use Rattle.nd_types.specs.declared.TheConstants.{HANDLE}
use Rattle.nd_types.specs.Table.{Table, type_at}
use Rattle.nd_types.specs.Legal.{has_named_parts, has_names}
use Rattle.nd_types.specs.Roots.{Root, roots_of, params_from, result_root, root_of, root_by, pipe_of, travels}
use Rattle.nd_types.proofs.LegalLaws.{passes_at}
use Rattle.nd_value.specs.Setting.{Setting, root_list, Among}
use Rattle.nd_grammar.specs.LegalSide.{IsLegalSide}
use Rattle.nd_grammar.proofs.PlainStreams.{Suffix, suffix_next, suffix_first, suffix_whole}
use Rattle.text_grammar.specs.Written.{root_name, parameter_name}

-- the members of a struct have words as names
abbrev pub HasWords : Option TypeDef → Type 0
HasWords (Some (def.Struct fields)) = AllByRecursion (λ (f : Field). is_word f.name ≡ true) fields
HasWords d = Unit {0}

abbrev HasWord : List Param → Root → Type 0
HasWord all r = is_word (root_name all r) ≡ true

first_or_not : (all : List Param) (t : Bool) (r : Root) (rs : List Root) → HasWord all r → AllByRecursion (HasWord all) rs
    → AllByRecursion (HasWord all) (elim t [ true ↦ r ∷ rs | false ↦ rs ])
first_or_not all true r rs h k = (h, k)
first_or_not all false r rs h k = k

one_word : (all : List Param) (i : ℕ) (p : Param) → parameter_name (Some p) ≡ parameter_name (Some p) → is_word (parameter_name (slice_get all i)) ≡ true
    → (u : Option ℕ) → HasWord all (root_by i p u)
one_word all i p e h None = h
one_word all i p e h (Some t) = h

params_words : (all : List Param) (types : Table) (s : Side) (i : ℕ) (ps : List Param) → Suffix all i ps → list_all (λ p. is_word p.field.name) ps ≡ true
    → AllByRecursion (HasWord all) (params_from types s i ps)
params_words all types s i [] x h = tt
params_words all types s i (p ∷ ps) x h =
    let n = and_parts (is_word p.field.name) (list_all (λ (q : Param). is_word q.field.name) ps) h in
    let here : is_word (parameter_name (slice_get all i)) ≡ true = ap (λ o. is_word (parameter_name o)) (suffix_first all i p ps x) ∙ n.0 in
    first_or_not all (travels s p.way && not (eqb p.field.of.0 HANDLE.0)) (root_of types i p) (params_from types s (i + 1) ps)
    (one_word all i p refl here (pipe_of types p.field.of.0))
    (params_words all types s (i + 1) ps (subst (λ j. Suffix all j ps) (sym (add-one i)) (suffix_next all i p ps x)) n.1)

kept_first : (P : Root → Type 0) (t : Bool) (r : Root) (rs : List Root) → P r → AllByRecursion P rs → AllByRecursion P (cond t (r ∷ rs) rs)
kept_first P true r rs h k = (h, k)
kept_first P false r rs h k = k

kept_all : (P : Root → Type 0) (keep : Root → Bool) (rs : List Root) → AllByRecursion P rs → AllByRecursion P (filter keep rs)
kept_all P keep [] h = tt
kept_all P keep (r ∷ rs) h = kept_first P (keep r) r (filter keep rs) h.0 (kept_all P keep rs h.1)

both_all : (P : Root → Type 0) (rs qs : List Root) → AllByRecursion P rs → AllByRecursion P qs → AllByRecursion P (rs ++ qs)
both_all P [] qs h k = k
both_all P (r ∷ rs) qs h k = (h.0, both_all P rs qs h.1 k)

result_word : (all : List Param) (s : Side) (t : Option TypeId) → AllByRecursion (HasWord all) (result_root s t)
result_word all side.In t = tt
result_word all side.Out None = tt
result_word all side.Out (Some t) = (refl, tt)

-- the names of roots are words where those of parameters are
roots_words : (w : Setting) → list_all (λ (p : Param). is_word p.field.name) w.op.params ≡ true → AllByRecursion (HasWord w.op.params) (root_list w)
unfolding roots_of
roots_words w n =
    let all = w.op.params in
    let ps = params_from w.table w.side 0 all in
    let h : AllByRecursion (HasWord all) ps = params_words all w.table w.side 0 all (suffix_whole all) n in
    both_all (HasWord all) (filter (λ r. not r.is_pipe) ps ++ result_root w.side w.op.result) (filter (λ r. r.is_pipe) ps)
    (both_all (HasWord all) (filter (λ r. not r.is_pipe) ps) (result_root w.side w.op.result) (kept_all (HasWord all) (λ r. not r.is_pipe) ps h) (result_word all w.side w.op.result))
    (kept_all (HasWord all) (λ r. r.is_pipe) ps h)

identifier_word : (name : List ℕ) → is_identifier name ≡ true → is_word name ≡ true
identifier_word name h = (and_parts (is_word name) (nat_le (length name) 31) h).0

params_named : (ps : List Param) → list_all (λ (p : Param). is_identifier p.field.name) ps ≡ true → list_all (λ (p : Param). is_word p.field.name) ps ≡ true
params_named [] h = refl
params_named (p ∷ ps) h =
    let n = and_parts (is_identifier p.field.name) (list_all (λ (q : Param). is_identifier q.field.name) ps) h in
    ap (λ b. b && list_all (λ (q : Param). is_word q.field.name) ps) (identifier_word p.field.name n.0) ∙ params_named ps n.1

fields_named : (fs : List Field) → list_all (λ (f : Field). is_identifier f.name) fs ≡ true → AllByRecursion (λ (f : Field). is_word f.name ≡ true) fs
fields_named [] h = tt
fields_named (f ∷ fs) h =
    let n = and_parts (is_identifier f.name) (list_all (λ (x : Field). is_identifier x.name) fs) h in
    (identifier_word f.name n.0, fields_named fs n.1)

passes_among : {X : Type 0} (test : X → Bool) (xs : List X) (x : X) → list_all test xs ≡ true → Among xs x → test x ≡ true
passes_among test [] x h m = absurd m
passes_among test (y ∷ ys) x h (inl e) = ap test e ∙ (and_parts (test y) (list_all test ys) h).0
passes_among test (y ∷ ys) x h (inr m) = passes_among test ys x (and_parts (test y) (list_all test ys) h).1 m

module _ (w : Setting) (legal : IsLegalSide w) where
  operation_named : has_names w.op ≡ true
  operation_named = passes_among has_names legal.operations w.op legal.legal.operation_names legal.operation

  names : (is_identifier w.op.name ≡ true) × (list_all (λ (p : Param). is_identifier p.field.name) w.op.params ≡ true)
  names = and_parts (is_identifier w.op.name) (list_all (λ (p : Param). is_identifier p.field.name) w.op.params) operation_named

  pub operation_word : is_word w.op.name ≡ true
  operation_word = identifier_word w.op.name names.0

  pub root_words : AllByRecursion (λ (r : Root). is_word (root_name w.op.params r) ≡ true) (root_list w)
  root_words = roots_words w (params_named w.op.params names.1)

  pub member_words : (t : ℕ) → HasWords (type_at w.table t)
  member_words t = by (type_at w.table t) refl where
    by : (d : Option TypeDef) → type_at w.table t ≡ d → HasWords d
    by None e = tt
    by (Some (def.Prim p)) e = tt
    by (Some (def.Enum values)) e = tt
    by (Some (def.Struct fields)) e = fields_named fields (passes_at has_named_parts w.table t (def.Struct fields) legal.legal.part_names e)
    by (Some (def.Array elem bound varying)) e = tt
    by (Some (def.Text elem bound)) e = tt
    by (Some (def.Union tag encapsulated arms default)) e = tt
    by (Some (def.Pointer class to)) e = tt
    by (Some def.Context) e = tt
    by (Some (def.Pipe elem)) e = tt
