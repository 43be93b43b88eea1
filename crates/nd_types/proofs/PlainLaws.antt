-- Plain interfaces are legal, and the roots of a plain operation are its parameters.
use Rattle.std.proofs.Common.{ap₂, ◌≡◌, ℕ, zero, suc, ◌+◌, Bool, true, false, not, ◌&&◌, ◌||◌, List, [], ◌∷◌, length, Option, Some, None, refl, ap, sym, ◌∙◌, subst, arith, lit≤, map}
use Rattle.std.specs.Prelude.{All, filter, nat_le, ◌==◌}
use Rattle.std.specs.List.{list_all, enumerate_from}
use Rattle.std.specs.Cmp.Derive.{both_true}
use Rattle.std.proofs.lemmas.Option.{slice_get_within}
use Rattle.std.proofs.lemmas.Bool.{lt-ltb, le-leb, eqb-true}
use Rattle.std.proofs.lemmas.List.{append-nil}
use Rattle.nd_base.specs.Text.{is_identifier}
use Rattle.nd_types.specs.declared.TheConstants.{HANDLE, PARAM_LIMIT}
use Rattle.std.proofs.Math.Bool.{or-true}
use Rattle.nd_types.specs.declared.types.TypeDef.{TypeDef}
use Rattle.nd_types.specs.declared.types.TypeDef.TheVariants as def
use Rattle.nd_types.specs.declared.types.Side.TheVariants as side
use Rattle.nd_types.specs.declared.types.Primitive.{Primitive}
use Rattle.nd_types.specs.declared.types.Param.{Param}
use Rattle.nd_types.specs.declared.types.Operation.{Operation}
use Rattle.nd_types.specs.declared.types.Field.{Field}
use Rattle.nd_types.specs.Table.{Table, type_at}
use Rattle.nd_types.specs.Kinds.{basic_types, is_nonencapsulated, pointee_by}
use Rattle.nd_types.specs.Layout.{hoists}
use Rattle.nd_types.specs.Fields.{FieldAt, fields_at, all_fields, param_fields}
use Rattle.nd_types.specs.Legal.{is_shallow, element_count, fits_pipes, IsLegal, is_handle, all_params, is_in_table, is_switched, result_passes, is_result_type, has_names}
use Rattle.nd_types.specs.Roots.{roots_of, params_from, pipe_of, pipe_by, root_of, root_by, travels}
use Rattle.nd_types.specs.Plain.{IsPlainParam, IsPlainOperation, IsPlainInterface, plain_roots, is_plain_type}

pub all_head : {X : Type 0} (P : X → Type 0) (x : X) (xs : List X) → All P (x ∷ xs) → P x
all_head P x xs h = h zero x (omega arith)

pub all_tail : {X : Type 0} (P : X → Type 0) (x : X) (xs : List X) → All P (x ∷ xs) → All P xs
all_tail P x xs h k d lt = h (suc k) d (omega (arith, lt))

-- what passes at each element passes at all
pub list_all_of : {X : Type 0} (P : X → Type 0) (test : X → Bool) → ((x : X) → P x → test x ≡ true) → (xs : List X) → All P xs → list_all test xs ≡ true
list_all_of P test passes [] h = refl
list_all_of P test passes (x ∷ xs) h = both_true (passes x (all_head P x xs h)) (list_all_of P test passes xs (all_tail P x xs h))

-- what passes at each plain parameter passes at all fields
abbrev PassesPlain : (FieldAt → Bool) → Type 0
PassesPlain test =
    (siblings : List Field) (i : ℕ) (p : Param) → IsPlainParam p → test (record { siblings = siblings; index = i; is_param = true; field = p.field }) ≡ true

fields_at_pass : (test : FieldAt → Bool) → PassesPlain test → (siblings : List Field) (i : ℕ) (ps : List Param) → All IsPlainParam ps
    → list_all test (map (λ e. record { siblings = siblings; index = e.0; is_param = true; field = e.1 }) (enumerate_from i (map (λ p. p.field) ps))) ≡ true
fields_at_pass test passes siblings i [] h = refl
fields_at_pass test passes siblings i (p ∷ ps) h =
    both_true (passes siblings i p (all_head IsPlainParam p ps h)) (fields_at_pass test passes siblings (i + 1) ps (all_tail IsPlainParam p ps h))

fields_pass : (test : FieldAt → Bool) → PassesPlain test → (operations : List Operation) → All IsPlainOperation operations
    → all_fields test basic_types operations ≡ true
fields_pass test passes operations h =
    list_all_of IsPlainOperation (λ o. list_all test (fields_at true (param_fields o)))
    (λ o plain. fields_at_pass test passes (param_fields o) 0 o.params plain.params) operations h

params_pass : (test : Param → Bool) → ((p : Param) → IsPlainParam p → test p ≡ true) → (operations : List Operation) → All IsPlainOperation operations
    → all_params test operations ≡ true
params_pass test passes operations h =
    list_all_of IsPlainOperation (λ o. list_all test o.params)
    (λ o plain. list_all_of IsPlainParam test passes o.params plain.params) operations h

operations_pass : (test : Operation → Bool) → ((o : Operation) → IsPlainOperation o → test o ≡ true) → (operations : List Operation) → All IsPlainOperation operations
    → list_all test operations ≡ true
operations_pass test passes operations h = list_all_of IsPlainOperation test passes operations h

-- the type of a plain parameter is a primitive of the table
plain_prim : (d : Option TypeDef) → is_plain_type d ≡ true → (p : Primitive) × (d ≡ Some (def.Prim p))
plain_prim (Some (def.Prim p)) h = (p, refl)
plain_prim _ h = cc

module _ (p : Param) (h : IsPlainParam p) where
  abbrev t : ℕ
  t = p.field.of.0

  prim : Primitive
  prim = (plain_prim (type_at basic_types t) h.integer).0

  is_prim : type_at basic_types t ≡ Some (def.Prim prim)
  unfolding prim
  is_prim = (plain_prim (type_at basic_types t) h.integer).1

  in_table : is_in_table basic_types t ≡ true
  in_table = lt-ltb t 12 (slice_get_within basic_types t (def.Prim prim) is_prim)

  no_handle : (t == HANDLE.0) ≡ false
  no_handle =
      elim (t == HANDLE.0) as
      (λ b. (t == HANDLE.0) ≡ b → b ≡ false) [ true ↦ λ e. absurd (omega (arith, eqb-true t HANDLE.0 e, slice_get_within basic_types t (def.Prim prim) is_prim)) | false ↦ λ e. refl ] refl

  no_pipe : pipe_of basic_types t ≡ None
  no_pipe = ap (pipe_by basic_types t) is_prim

  is_travelling : (travels side.In p.way && not (t == HANDLE.0)) ≡ true
  is_travelling = rw h.way (ap not no_handle)

  is_plain_root : (i : ℕ) → root_of basic_types i p ≡ record { of = t; param = Some i; vars = []; is_pipe = false }
  is_plain_root i =
      ap (root_by i p) no_pipe ∙ ap (λ vs. record { of = t; param = Some i; vars = vs; is_pipe = false }) h.no_attributes

  not_switched : is_switched basic_types t ≡ false
  not_switched = ap (λ d. is_nonencapsulated (type_at basic_types (pointee_by t d))) is_prim ∙ ap is_nonencapsulated is_prim

basic_is_legal : (operations : List Operation) → IsPlainInterface basic_types operations → IsLegal basic_types operations
unfolding hoists is_shallow element_count fits_pipes
basic_is_legal operations h = record {
  basic = refl;
  no_later_basic = refl;
  types_known = refl;
  params_known = params_pass (λ p. is_handle p || is_in_table basic_types p.field.of.0) (λ p plain. rw (in_table p plain) (or-true (is_handle p))) operations h.plain;
  results_known = operations_pass (λ o. result_passes (is_in_table basic_types) o.result) (λ o plain. rw plain.no_result refl) operations h.plain;
  nesting = refl;
  members = refl;
  enumerators = refl;
  bounds = refl;
  elements = refl;
  dimensions = refl;
  array_elements = refl;
  text_elements = refl;
  pipe_elements = refl;
  hoisting_members = refl;
  hoisting_arms = refl;
  pipes = refl;
  contexts = refl;
  tags = refl;
  labels = refl;
  distinct_labels = refl;
  switched_types = refl;
  referents = refl;
  ordered = fields_pass _ (λ fs i p plain. rw plain.no_attributes refl) operations h.plain;
  variables = fields_pass _ (λ fs i p plain. rw plain.no_attributes refl) operations h.plain;
  sized = fields_pass _ (λ fs i p plain. rw plain.no_attributes refl) operations h.plain;
  one_size = fields_pass _ (λ fs i p plain. rw plain.no_attributes refl) operations h.plain;
  varying = fields_pass _ (λ fs i p plain. rw plain.no_attributes refl) operations h.plain;
  one_length = fields_pass _ (λ fs i p plain. rw plain.no_attributes refl) operations h.plain;
  count_variables = fields_pass _ (λ fs i p plain. rw plain.no_attributes refl) operations h.plain;
  switched = fields_pass _ (λ fs i p plain. rw (not_switched p plain) refl) operations h.plain;
  switches = fields_pass _ (λ fs i p plain. rw plain.no_attributes refl) operations h.plain;
  switch_variables = fields_pass _ (λ fs i p plain. rw plain.no_attributes refl) operations h.plain;
  handles = params_pass _ (λ p plain. rw plain.way (or-true (not (is_handle p)))) operations h.plain;
  out_pointers = params_pass _ (λ p plain. rw plain.way refl) operations h.plain;
  out_types = params_pass _ (λ p plain. rw plain.way refl) operations h.plain;
  results = operations_pass (λ o. result_passes (λ t. is_result_type (type_at basic_types t)) o.result) (λ o plain. rw plain.no_result refl) operations h.plain;
  part_names = refl;
  operation_names =
      operations_pass has_names (λ o plain. both_true plain.name (list_all_of IsPlainParam (λ p. is_identifier p.field.name) (λ p named. named.name) o.params plain.params)) operations h.plain;
  few_types = lit≤ tt;
  few_operations = h.few;
  few_params = operations_pass (λ o. nat_le (length o.params) PARAM_LIMIT) (λ o plain. le-leb (length o.params) PARAM_LIMIT plain.few) operations h.plain;
  few_parts = lit≤ tt;
}

-- a plain interface is legal
pub plain_is_legal : (types : Table) (operations : List Operation) → IsPlainInterface types operations → IsLegal types operations
plain_is_legal types operations h =
    subst (λ ts. IsLegal ts operations) (sym h.basic)
    (basic_is_legal operations (record { basic = refl; plain = h.plain; few = h.few; distinct = h.distinct }))

params_are : (i : ℕ) (ps : List Param) → All IsPlainParam ps → params_from basic_types side.In i ps ≡ plain_roots i ps
params_are i [] h = refl
params_are i (p ∷ ps) h =
    let plain = all_head IsPlainParam p ps h in
    let others = params_from basic_types side.In (i + 1) ps in
    ap (λ b. elim b [ true ↦ root_of basic_types i p ∷ others | false ↦ others ]) (is_travelling p plain)
    ∙ ap₂ (λ r rs. r ∷ rs) (is_plain_root p plain i) (params_are (i + 1) ps (all_tail IsPlainParam p ps h))

none_are_pipes : (i : ℕ) (ps : List Param) → filter (λ r. r.is_pipe) (plain_roots i ps) ≡ []
none_are_pipes i [] = refl
none_are_pipes i (p ∷ ps) = none_are_pipes (i + 1) ps

all_are_none : (i : ℕ) (ps : List Param) → filter (λ r. not r.is_pipe) (plain_roots i ps) ≡ plain_roots i ps
all_are_none i [] = refl
all_are_none i (p ∷ ps) = ap (λ rs. record { of = p.field.of.0; param = Some i; vars = []; is_pipe = false } ∷ rs) (all_are_none (i + 1) ps)

-- the roots of a plain operation's request are its parameters in order
pub plain_roots_in : (o : Operation) → IsPlainOperation o → roots_of basic_types side.In o ≡ plain_roots 0 o.params
unfolding roots_of
plain_roots_in o h = rw (params_are 0 o.params h.params, none_are_pipes 0 o.params, all_are_none 0 o.params) (simp append-nil)
