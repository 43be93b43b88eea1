-- Types that a variable may have.
use Rattle.std.proofs.Common.{◌≡◌, ℕ, zero, suc, ◌+◌, ◌<◌, ◌≤◌, Bool, true, false, ◌&&◌, ◌||◌, eqb, not, List, [], ◌∷◌, map, length, Option, Some, None, slice_get, option_map, refl, sym, ap, ◌∙◌}
use Rattle.std.proofs.Common.{arith}
use Rattle.std.proofs.lemmas.Option.{none-some, same_Some}
use Rattle.nd_types.specs.declared.types.Primitive.{Primitive}
use Rattle.nd_types.specs.Kinds.{is_integer_prim, is_switch_prim}
use Rattle.idl_grammar.specs.declared.attributes.PointerClass.{PointerClass}
use Rattle.idl_grammar.specs.declared.attributes.PointerClass.TheVariants as class
use Rattle.idl_grammar.specs.Tree.{Attribute, Bound}
use Rattle.idl_scope.specs.Known.{Known}
use Rattle.idl_typing.specs.declared.variables.Wanted.{Wanted}
use Rattle.idl_typing.specs.declared.variables.Wanted.TheVariants as wanted
use Rattle.idl_rule_definitions.specs.Attributes.{has, has_one_of, class_in, string_word, context_handle_word, sizes, lengths}
use Rattle.idl_rule_definitions.specs.Nodes.{Declared}
use Rattle.idl_rule_definitions.specs.Types.{IdlType, Void, Handle, ContextHandle, Basic, Struct, Union, Enum, Array, Text, Pointer, Pipe, Names, is_void, with_stars, with_dimensions, outermost_class}
use Rattle.idl_rule_definitions.specs.Types.{array_with, pointee_with, text_of, sized, class_or, with_attributes, is_one_star, is_empty, is_context_handle, type_before, declared_from, declared_type}
use Rattle.idl_rule_definitions.specs.Types.{type_of, with_declarator, count_of}
use Rattle.idl_rule_definitions.specs.VariableRules.{is_integer, may_be_switched, passes, Listed, listed_from}
use Rattle.idl_declared_types.specs.Kinds.{basic_in}
use Rattle.idl_typing.specs.Lookups.{wanted_test, is_enumerated}
use Rattle.idl_typing.proofs.LookupSteps.{index_of}
use Rattle.std.specs.Str.{bytes_eq}

pub integer_basic : (t : IdlType) (p : Primitive) → Some p ≡ basic_in t → is_integer_prim p ≡ is_integer t
integer_basic (Basic q) p h = ap is_integer_prim (same_Some p q h)
integer_basic Void p h = absurd (none-some p (sym h))
integer_basic Handle p h = absurd (none-some p (sym h))
integer_basic ContextHandle p h = absurd (none-some p (sym h))
integer_basic (Struct place) p h = absurd (none-some p (sym h))
integer_basic (Union place) p h = absurd (none-some p (sym h))
integer_basic (Enum place) p h = absurd (none-some p (sym h))
integer_basic (Array t count varying) p h = absurd (none-some p (sym h))
integer_basic (Text t count) p h = absurd (none-some p (sym h))
integer_basic (Pointer c to) p h = absurd (none-some p (sym h))
integer_basic (Pipe t) p h = absurd (none-some p (sym h))

pub integer_none : (t : IdlType) → None ≡ basic_in t → false ≡ is_integer t
integer_none (Basic q) h = absurd (none-some q h)
integer_none Void h = refl
integer_none Handle h = refl
integer_none ContextHandle h = refl
integer_none (Struct place) h = refl
integer_none (Union place) h = refl
integer_none (Enum place) h = refl
integer_none (Array t count varying) h = refl
integer_none (Text t count) h = refl
integer_none (Pointer c to) h = refl
integer_none (Pipe t) h = refl

pub switch_basic : (t : IdlType) (p : Primitive) → Some p ≡ basic_in t → is_switch_prim p ≡ may_be_switched t
switch_basic (Basic q) p h = ap is_switch_prim (same_Some p q h)
switch_basic Void p h = absurd (none-some p (sym h))
switch_basic Handle p h = absurd (none-some p (sym h))
switch_basic ContextHandle p h = absurd (none-some p (sym h))
switch_basic (Struct place) p h = absurd (none-some p (sym h))
switch_basic (Union place) p h = absurd (none-some p (sym h))
switch_basic (Enum place) p h = absurd (none-some p (sym h))
switch_basic (Array t count varying) p h = absurd (none-some p (sym h))
switch_basic (Text t count) p h = absurd (none-some p (sym h))
switch_basic (Pointer c to) p h = absurd (none-some p (sym h))
switch_basic (Pipe t) p h = absurd (none-some p (sym h))

pub switch_none : (t : IdlType) → None ≡ basic_in t → is_enumerated t ≡ may_be_switched t
switch_none (Basic q) h = absurd (none-some q h)
switch_none Void h = refl
switch_none Handle h = refl
switch_none ContextHandle h = refl
switch_none (Struct place) h = refl
switch_none (Union place) h = refl
switch_none (Enum place) h = refl
switch_none (Array t count varying) h = refl
switch_none (Text t count) h = refl
switch_none (Pointer c to) h = refl
switch_none (Pipe t) h = refl

-- ## With dimensions, or more than one star

array_fails : (w : Wanted) (parameter star : Bool) (t : IdlType) (count : Option _) (varying : Bool) → passes (wanted_test w) parameter star (Array t count varying) ≡ false
array_fails wanted.Integer parameter false t count varying = refl
array_fails wanted.Switch parameter false t count varying = refl
array_fails w true true t count varying = refl
array_fails w false true t count varying = refl

text_fails : (w : Wanted) (parameter star : Bool) (t : IdlType) (count : Option _) → passes (wanted_test w) parameter star (Text t count) ≡ false
text_fails wanted.Integer parameter false t count = refl
text_fails wanted.Switch parameter false t count = refl
text_fails w true true t count = refl
text_fails w false true t count = refl

pointer_fails : (w : Wanted) (parameter star : Bool) (c : Option PointerClass) (to : IdlType) → wanted_test w to ≡ false → passes (wanted_test w) parameter star (Pointer c to) ≡ false
pointer_fails wanted.Integer parameter false c to h = refl
pointer_fails wanted.Switch parameter false c to h = refl
pointer_fails w false true c to h = refl
pointer_fails w true true None to h = refl
pointer_fails w true true (Some class.Reference) to h = h
pointer_fails w true true (Some class.Unique) to h = refl
pointer_fails w true true (Some class.Full) to h = refl

array_with_fails : (attributes : List Attribute) (w : Wanted) (parameter star : Bool) (t : IdlType) (count : Option _) (varying : Bool)
    → passes (wanted_test w) parameter star (array_with attributes t count varying) ≡ false
array_with_fails attributes w parameter star t count varying = by (has string_word attributes) (varying || has_one_of lengths attributes)
  where
    by : (b v : Bool) → passes (wanted_test w) parameter star (elim b [ true ↦ Text t count | false ↦ Array t count v ]) ≡ false
    by true v = text_fails w parameter star t count
    by false v = array_fails w parameter star t count v

pointee_fails : (attributes : List Attribute) (w : Wanted) (c : Option PointerClass) (to : IdlType) → wanted_test w (pointee_with attributes (Pointer c to)) ≡ false
pointee_fails attributes w c to = by w (has string_word attributes) (has_one_of sizes attributes) (has_one_of lengths attributes)
  where
    by : (w : Wanted) (b s v : Bool) → wanted_test w (elim b [ true ↦ Text (Pointer c to) None | false ↦ elim s [ true ↦ Array (Pointer c to) None v | false ↦ Pointer c to ] ]) ≡ false
    by wanted.Integer true s v = refl
    by wanted.Integer false true v = refl
    by wanted.Integer false false v = refl
    by wanted.Switch true s v = refl
    by wanted.Switch false true v = refl
    by wanted.Switch false false v = refl

stars_fail : (attributes : List Attribute) (w : Wanted) (parameter star : Bool) (default outermost : Option PointerClass) (t : IdlType) (s r : ℕ) (stars : List ℕ)
    → passes (wanted_test w) parameter star (with_attributes attributes (with_stars default outermost t (s ∷ r ∷ stars))) ≡ false
stars_fail attributes w parameter star default outermost t s r [] =
    pointer_fails w parameter star (class_or (class_in attributes) outermost) (pointee_with attributes (Pointer default t)) (pointee_fails attributes w default t)
stars_fail attributes w parameter star default outermost t s r (q ∷ stars) = stars_fail attributes w parameter star default outermost (Pointer default t) r q stars

no_and : (a b c d : Bool) → b ≡ false → (a && b && c && d) ≡ false
no_and true b c d h = ap (λ x. x && c && d) h
no_and false b c d h = refl

no_dimension : (a b c d : Bool) → c ≡ false → (a && b && c && d) ≡ false
no_dimension true true c d h = ap (λ x. x && d) h
no_dimension true false c d h = refl
no_dimension false b c d h = refl

plain_declared : (known : Known) (names : Names) (d : Declared) → is_context_handle d (type_before known names d) ≡ false
    → declared_type known names d ≡ with_declarator known d.construct d.declarator (type_before known names d)
plain_declared known names d h = ap (λ b. elim b [ true ↦ ContextHandle | false ↦ with_declarator known d.construct d.declarator (type_before known names d) ]) h

pub dimensions_fail : (known : Known) (names : Names) (d : Declared) (w : Wanted) (star parameter : Bool) (b : Option Bound) (bs : List (Option Bound)) → d.declarator.dimensions ≡ b ∷ bs
    → passes (wanted_test w) parameter star (type_of known names d) ≡ false
dimensions_fail known names d w star parameter b bs h =
    let t = type_before known names d in
    let inner = with_stars d.construct.default (outermost_class d.construct d.declarator.dimensions) t d.declarator.stars in
    let plain =
    plain_declared known names d (no_dimension (has context_handle_word d.construct.attributes) (is_one_star d.declarator.stars) (is_empty d.declarator.dimensions) (is_void t) (ap is_empty h)) in
    ap (λ u. passes (wanted_test w) parameter star (with_attributes d.construct.attributes u)) (plain ∙ ap (with_dimensions known inner) h)
    ∙ array_with_fails d.construct.attributes w parameter star (with_dimensions known inner bs) (count_of known b) false

pub many_stars_fail : (known : Known) (names : Names) (d : Declared) (w : Wanted) (star parameter : Bool) (s r : ℕ) (stars : List ℕ) → d.declarator.stars ≡ s ∷ r ∷ stars → d.declarator.dimensions ≡ []
    → passes (wanted_test w) parameter star (type_of known names d) ≡ false
many_stars_fail known names d w star parameter s r stars h none =
    let t = type_before known names d in
    let outermost = outermost_class d.construct d.declarator.dimensions in
    let plain =
    plain_declared known names d (no_and (has context_handle_word d.construct.attributes) (is_one_star d.declarator.stars) (is_empty d.declarator.dimensions) (is_void t) (ap is_one_star h)) in
    ap (λ u. passes (wanted_test w) parameter star (with_attributes d.construct.attributes u))
    (plain ∙ ap (with_dimensions known (with_stars d.construct.default outermost t d.declarator.stars)) none ∙ ap (with_stars d.construct.default outermost t) h)
    ∙ stars_fail d.construct.attributes w parameter star d.construct.default outermost t s r stars

later : (ds : List Declared) (k : ℕ) (name : List ℕ) (i : ℕ) → index_of (listed_from k ds name) ≡ Some i → k ≤ i
later [] k name i h = absurd (none-some i h)
later (d ∷ ds) k name i h = go (bytes_eq name d.declarator.name.octets) h (λ f. later ds (k + 1) name i f)
  where
    go : (b : Bool) → index_of (elim b [ true ↦ Some (record { index = k; it = d }) | false ↦ listed_from (k + 1) ds name ]) ≡ Some i
        → (index_of (listed_from (k + 1) ds name) ≡ Some i → k + 1 ≤ i) → k ≤ i
    go true f next = omega (arith, same_Some k i f)
    go false f next = omega (arith, next f)

-- the item of a name is at its place
pub listed_at : (ds : List Declared) (k : ℕ) (name : List ℕ) (i : ℕ) → index_of (listed_from k ds name) ≡ Some i → (j : ℕ) → i ≡ k + j
    → option_map (λ (l : Listed). l.it) (listed_from k ds name) ≡ slice_get ds j
listed_at [] k name i h j e = refl
listed_at (d ∷ ds) k name i h j e = by (bytes_eq name d.declarator.name.octets) h j e (λ f m g. listed_at ds (k + 1) name i f m g)
  where
    by : (b : Bool) → index_of (elim b [ true ↦ Some (record { index = k; it = d }) | false ↦ listed_from (k + 1) ds name ]) ≡ Some i → (j : ℕ) → i ≡ k + j
        → (index_of (listed_from (k + 1) ds name) ≡ Some i → (m : ℕ) → i ≡ k + 1 + m → option_map (λ (l : Listed). l.it) (listed_from (k + 1) ds name) ≡ slice_get ds m)
        → option_map (λ (l : Listed). l.it) (elim b [ true ↦ Some (record { index = k; it = d }) | false ↦ listed_from (k + 1) ds name ]) ≡ slice_get (d ∷ ds) j
    by true f zero g next = refl
    by true f (suc j) g next = absurd (omega (arith, same_Some k i f))
    by false f zero g next = absurd (omega (arith, later ds (k + 1) name i f))
    by false f (suc j) g next = next f j (omega arith)

-- of lists of the program
pub with_dimensions_fails : {B : Type 0} (known : Known) (names : Names) (d : Declared) (w : Wanted) (star parameter : Bool) (f : B → Option Bound) (xs : List B) → d.declarator.dimensions ≡ map f xs
    → (length xs ≡ 0 → ⊥) → false ≡ passes (wanted_test w) parameter star (type_of known names d)
with_dimensions_fails known names d w star parameter f [] e some = absurd (some refl)
with_dimensions_fails known names d w star parameter f (x ∷ xs) e some = sym (dimensions_fail known names d w star parameter (f x) (map f xs) e)

pub with_stars_fails : {B : Type 0} (known : Known) (names : Names) (d : Declared) (w : Wanted) (star parameter : Bool) (f : B → Option Bound) (xs : List B) (stars : List ℕ)
    → d.declarator.dimensions ≡ map f xs → length xs ≡ 0 → d.declarator.stars ≡ stars → 1 < length stars → false ≡ passes (wanted_test w) parameter star (type_of known names d)
with_stars_fails known names d w star parameter f (x ∷ xs) stars e none h many = absurd (omega (arith, none))
with_stars_fails known names d w star parameter f [] [] e none h many = absurd (omega arith)
with_stars_fails known names d w star parameter f [] (s ∷ []) e none h many = absurd (omega arith)
with_stars_fails known names d w star parameter f [] (s ∷ r ∷ stars) e none h many = sym (many_stars_fail known names d w star parameter s r stars h e)
