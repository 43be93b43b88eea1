-- What labels may be, and what is noted of them.
use Rattle.std.proofs.Common.{◌≡◌, ◌∙◌, ℕ, zero, suc, ℤ, ◌+◌, ◌<◌, ◌≤◌, arith, Bool, true, false, not, ◌||◌, List, [], ◌∷◌, ◌++◌, map, take, drop, length, get_or, Option, Some, None, slice_get, refl}
use Rattle.std.proofs.Common.{ap, ap₂, sym, append-nil}
use Rattle.std.specs.Option.{option_and_then}
use Rattle.std.proofs.lemmas.Option.{none-some, same_Some, slice_get_past, slice_get_read}
use Rattle.std.proofs.lemmas.List.{take_more, take_all, drop_more, drop_all, map-append}
use Rattle.nd_base.specs.declared.octets.Place.{Place}
use Rattle.nd_types.specs.declared.types.Primitive.{Primitive}
use Rattle.nd_types.specs.Table.{in_range}
use Rattle.idl_grammar.specs.Tree.{TypeSpec, Enumerator}
use Rattle.idl_declared_types.specs.declared.kinds.Kind.{Kind}
use Rattle.idl_declared_types.specs.declared.kinds.Kind.TheVariants as kind
use Rattle.idl_declared_types.specs.declared.labels.Valued.{Valued}
use Rattle.idl_constructs.specs.declared.nodes.Nodes as program_nodes
use Rattle.idl_declared_types.specs.declared.types.BodyTypes.{BodyTypes}
use Rattle.idl_declared_types.specs.declared.types.Typed.{Typed}
use Rattle.idl_declared_types.specs.declared.types.Types as program_types
use Rattle.idl_rule_definitions.specs.Nodes.{World, number_of, Construct, ArmLabel, LabelNode, label_nodes}
use Rattle.idl_rule_definitions.specs.Types.{IdlType, Void, Handle, ContextHandle, Basic, Struct, Union, Enum, Array, Text, Pointer, Pipe, Names}
use Rattle.idl_declared_types.specs.Kinds.{basic_in, type_by, type_at}
use Rattle.idl_declared_types.specs.Places.{found_place}
use Rattle.idl_rule_definitions.specs.Scene.{Scene, Body, bodies, body_of, tag_type, enumerators_in, enumerators_found, enumerators_of}
use Rattle.idl_declared_types.specs.SeenTypes.{tag_seen, IsTypes}
use Rattle.idl_rule_definitions.specs.DeclarationRules.{same_value, label_value, is_value_of, is_label_of, is_bad_label}
use Rattle.idl_rule_definitions.specs.Rules.{Breach, broken_at}
use Rattle.idl_rule_definitions.specs.Noted.{noted}
use Rattle.idl_rule_definitions.specs.OthersOf.{others_of}
use Rattle.idl_declared_types.specs.LabelValues.{valued, is_among, Holds, values_of, accepts_value, value_breaches}
use Rattle.idl_declared_types.proofs.Dimensions.{any_seen}
use Rattle.idl_rule_definitions.proofs.OtherNotes.{kept, other_cons, part_noted}
use Rattle.idl_rule_definitions.specs.declared.rule.TheConstants as Rule

-- ## Items before an index

pub before_next : {X Y : Type 0} (f : X → Y) (xs : List X) (i : ℕ) (x : X) → i < length xs → x ≡ get_or xs i x → map f (take (i + 1) xs) ≡ map f (take i xs) ++ f x ∷ []
before_next f xs i x below is = ap (map f) (take_more xs i x below ∙ ap (λ y. take i xs ++ y ∷ []) (sym is)) ∙ map-append f (take i xs) (x ∷ [])

pub holds_next : {X : Type 0} (f : X → Option ℤ) (xs : List X) (i : ℕ) (x : X) (v : Option ℤ) (set : List (Option ℤ)) → i < length xs → x ≡ get_or xs i x → v ≡ f x
    → Holds set (map f (take i xs) ++ v ∷ []) → Holds set (map f (take (i + 1) xs))
holds_next f xs i x v set below is e h y =
    h y ∙ ap (is_among y) (ap (λ z. map f (take i xs) ++ z ∷ []) e ∙ sym (before_next f xs i x below is))

pub holds_all : {X : Type 0} (f : X → Option ℤ) (xs : List X) (i : ℕ) (set : List (Option ℤ)) → length xs ≤ i → Holds set (map f (take i xs)) → Holds set (map f xs)
holds_all f xs i set past h y = h y ∙ ap (λ l. is_among y (map f l)) (take_all i xs past)

-- the same, of an item that was copied
same_item : {X : Type 0} (xs : List X) (i : ℕ) (d e : X) → i < length xs → get_or xs i d ≡ get_or xs i e
same_item [] i d e below = absurd (omega (arith, below))
same_item (x ∷ xs) zero d e below = refl
same_item (x ∷ xs) (suc i) d e below = same_item xs i d e (omega (arith, below))

pub holds_copy : {X : Type 0} (f : X → Option ℤ) (xs : List X) (i : ℕ) (d : X) (set : List (Option ℤ)) → i < length xs
    → Holds set (map f (take i xs) ++ f (get_or xs i d) ∷ []) → Holds set (map f (take (i + 1) xs))
holds_copy f xs i d set below h = holds_next f xs i (get_or xs i d) (f (get_or xs i d)) set below (same_item xs i d (get_or xs i d) below) refl h

-- ## What labels may be

pub in_basic : (s : Scene) (t : IdlType) (p : Primitive) (z : ℤ) → Some p ≡ basic_in t → in_range p z ≡ is_value_of s (Some t) z
in_basic s (Basic q) p z h = ap (λ x. in_range x z) (same_Some p q h)
in_basic s Void p z h = absurd (none-some p (sym h))
in_basic s Handle p z h = absurd (none-some p (sym h))
in_basic s ContextHandle p z h = absurd (none-some p (sym h))
in_basic s (Struct place) p z h = absurd (none-some p (sym h))
in_basic s (Union place) p z h = absurd (none-some p (sym h))
in_basic s (Enum place) p z h = absurd (none-some p (sym h))
in_basic s (Array t count varying) p z h = absurd (none-some p (sym h))
in_basic s (Text t count) p z h = absurd (none-some p (sym h))
in_basic s (Pointer class to) p z h = absurd (none-some p (sym h))
in_basic s (Pipe t) p z h = absurd (none-some p (sym h))

pub in_other : (s : Scene) (ts : List IdlType) (k : Kind) (z : ℤ) → None ≡ basic_in (type_by ts k) → ((file at : ℕ) → k ≡ kind.Enum file at → ⊥) → true ≡ is_value_of s (Some (type_by ts k)) z
in_other s ts kind.Void z h other = refl
in_other s ts kind.Handle z h other = refl
in_other s ts kind.ContextHandle z h other = refl
in_other s ts (kind.Basic number) z h other = absurd (none-some _ h)
in_other s ts (kind.Struct file at) z h other = refl
in_other s ts (kind.Union file at) z h other = refl
in_other s ts (kind.Enum file at) z h other = absurd (other file at refl)
in_other s ts (kind.Array element count varying) z h other = refl
in_other s ts (kind.Text element count) z h other = refl
in_other s ts (kind.Pointer class to) z h other = refl
in_other s ts (kind.Pipe element) z h other = refl

-- a set has the values of these enumerators, which are the enum's
in_enum : (s : Scene) (place : Place) (es : List Enumerator) (set : List (Option ℤ)) (z : ℤ) → es ≡ enumerators_of s place → Holds set (values_of s.known es)
    → is_among (Some z) set ≡ is_value_of s (Some (Enum place)) z
in_enum s place es set z e h =
    h (Some z)
    ∙ ap (λ l. is_among (Some z) (values_of s.known l)) e
    ∙ sym (any_seen (λ x. same_value x (Some z)) (λ e. number_of s.known e.name.octets) (enumerators_of s place))

there_too : {X Y : Type 0} (xs : List X) (ys : List Y) (n : ℕ) (x : X) → length xs ≡ length ys → slice_get xs n ≡ Some x → (y : Y) × (slice_get ys n ≡ Some y)
there_too [] ys n x same h = absurd (none-some x h)
there_too (z ∷ xs) [] n x same h = absurd (omega arith)
there_too (z ∷ xs) (y ∷ ys) zero x same h = (y, refl)
there_too (z ∷ xs) (y ∷ ys) (suc n) x same h = there_too xs ys n x (omega arith) h

module _ (s : Scene) (n : program_nodes.Nodes) (t : program_types.Types) (is : IsTypes s n t) (place : Place) where
  body_is : (i : ℕ) → found_place place t.by_place ≡ Some i → body_of s place ≡ slice_get (bodies s) i
  body_is i h = is.first place ∙ ap (option_and_then (λ j. slice_get (bodies s) j)) h

  pub in_body : (i : ℕ) (b : BodyTypes) → found_place place t.by_place ≡ Some i → i < length t.bodies.items → b ≡ get_or t.bodies.items i b
      → (z : ℤ) → is_among (Some z) b.values ≡ is_value_of s (Some (Enum place)) z
  in_body i b found below same z =
      let here : slice_get t.bodies.items i ≡ Some b = slice_get_read t.bodies.items (length t.bodies.items) i b refl below same in
      let there : (body : Body) × (slice_get (bodies s) i ≡ Some body) = there_too t.bodies.items (bodies s) i b is.body_count here in
      in_enum s place (enumerators_in there.0.body) b.values z
      (sym (ap enumerators_found (body_is i found ∙ there.1)))
      (is.body i there.0 b there.1 here).values

  pub past_bodies : (i : ℕ) → found_place place t.by_place ≡ Some i → length t.bodies.items ≤ i → (z : ℤ) → false ≡ is_value_of s (Some (Enum place)) z
  past_bodies i found past z =
      let e = is.body_count in
      in_enum s place [] [] z (sym (ap enumerators_found (body_is i found ∙ slice_get_past (bodies s) i (omega (arith, past, e))))) (λ v. refl)

-- the tag's type is said
pub tag_said : (ks : List Kind) (t : Typed) → t.has_tag ≡ true → tag_seen ks t ≡ Some (type_at ks t.of)
tag_said ks t h = ap (λ b. elim b [ true ↦ Some (type_at ks t.of) | false ↦ None ]) h

pub none_of : {X : Type 0} (o : Option X) → ((x : X) → o ≡ Some x → ⊥) → None ≡ o
none_of None h = refl
none_of (Some x) h = absurd (h x refl)

accepts_is : (s : Scene) (tag : Option IdlType) (test : ℤ → Bool) → ((z : ℤ) → test z ≡ is_value_of s tag z) → (v : Option ℤ) → accepts_value test v ≡ is_label_of s tag v
accepts_is s tag test is None = refl
accepts_is s tag test is (Some z) = is z

-- ## What is noted of labels

module _ (s : Scene) (names : Names) (c : Construct) (body : TypeSpec) (test : ℤ → Bool) (is : (z : ℤ) → test z ≡ is_value_of s (tag_type c names body) z) where
  pub labels_others : (before ls : List ArmLabel)
      → value_breaches test c (map (label_value s.known) before) (map (valued s.known) ls) ≡ others_of s names (label_nodes c body before ls)
  labels_others before [] = refl
  labels_others before (l ∷ ls) =
      let tag = tag_type c names body in
      let v = label_value s.known l in
      let bad : (not (accepts_value test v) || is_among v (map (label_value s.known) before)) ≡ is_bad_label s tag before l =
      ap₂ (λ a b. not a || b) (accepts_is s tag test is v) (sym (any_seen (λ x. same_value x v) (label_value s.known) before)) in
      ap₂ (λ p r. p ++ r)
      (ap (broken_at c Rule.LABELS l.at) bad ∙ sym (kept c 22 l.at (is_bad_label s tag before l) refl))
      (ap (λ b. value_breaches test c b (map (valued s.known) ls)) (sym (map-append (label_value s.known) before (l ∷ []))) ∙ labels_others (before ++ l ∷ []) ls)
      ∙ sym (other_cons s names (LabelNode c body before l) (label_nodes c body (before ++ l ∷ []) ls))

abbrev pub values_before : List Valued → ℕ → List (Option ℤ)
values_before xs i = map (λ v. v.value) (take i xs)

abbrev pub labels_left : (ℤ → Bool) → Construct → List Valued → ℕ → List Breach
labels_left test c xs i = value_breaches test c (values_before xs i) (drop i xs)

pub label_noted : (w : World) (test : ℤ → Bool) (c : Construct) (xs : List Valued) (i : ℕ) (x : Valued) (first next all : Option Breach) → i < length xs → x ≡ get_or xs i x
    → next ≡ noted w first (value_breaches test c (values_before xs i) (x ∷ [])) → noted w first (labels_left test c xs i) ≡ all → noted w next (labels_left test c xs (i + 1)) ≡ all
label_noted w test c xs i x first next all below is e h =
    let part = broken_at c Rule.LABELS x.at (not (accepts_value test x.value) || is_among x.value (values_before xs i)) in
    part_noted w part (labels_left test c xs (i + 1)) (labels_left test c xs i) first next all
    (ap (value_breaches test c (values_before xs i)) (drop_more xs i x below ∙ ap (λ y. y ∷ drop (i + 1) xs) (sym is))
    ∙ ap (λ b. part ++ value_breaches test c b (drop (i + 1) xs)) (sym (before_next (λ v. v.value) xs i x below is)))
    (e ∙ ap (noted w first) (append-nil part)) h

pub copy_noted : (w : World) (test : ℤ → Bool) (c : Construct) (xs : List Valued) (i : ℕ) (d : Valued) (first next all : Option Breach) → i < length xs
    → next ≡ noted w first (value_breaches test c (values_before xs i) (get_or xs i d ∷ [])) → noted w first (labels_left test c xs i) ≡ all → noted w next (labels_left test c xs (i + 1)) ≡ all
copy_noted w test c xs i d first next all below e h = label_noted w test c xs i (get_or xs i d) first next all below (same_item xs i d (get_or xs i d) below) e h

pub no_label_left : (w : World) (test : ℤ → Bool) (c : Construct) (xs : List Valued) (i : ℕ) (first all : Option Breach) → length xs ≤ i → noted w first (labels_left test c xs i) ≡ all → first ≡ all
no_label_left w test c xs i first all past h = sym (ap (λ l. noted w first (value_breaches test c (values_before xs i) l)) (drop_all i xs past)) ∙ h
