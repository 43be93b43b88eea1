-- What two types of one form ask for is what is in them asks for.
use Rattle.std.proofs.Common.{◌≡◌, ℕ, ℤ, Bool, true, false, List, Option, Some, None, refl, sym, subst}
use Rattle.nd_types.specs.declared.types.TypeDef.{TypeDef}
use Rattle.nd_types.specs.declared.types.TypeDef.TheVariants as def
use Rattle.nd_types.specs.declared.types.TypeId.{TypeId}
use Rattle.nd_types.specs.declared.types.Class.{Class}
use Rattle.nd_types.specs.declared.types.Primitive.{Primitive}
use Rattle.nd_types.specs.declared.types.Field.{Field}
use Rattle.nd_types.specs.declared.types.Arm.{Arm}
use Rattle.idl_compat.specs.declared.pairs.TypePair.{TypePair}
use Rattle.idl_compat.specs.Comparison.{OneByOne, IsPair, AlikeFields, AlikeTypes, alike_prims, alike_enums, alike_structs, alike_arrays, alike_texts, alike_pointers, alike_contexts, alike_pipes}
use Rattle.idl_compat.specs.Comparison.{alike_unions, AlikeArms, AlikeDefaults}
use Rattle.idl_compat.specs.Asking.{Asks}
use Rattle.idl_compat.proofs.AskingLaws.{as_asked, none_asked, both_last}

fields_of : (R : ℕ → ℕ → Type 0) (fs gs : List Field) → AlikeTypes R (Some (def.Struct fs)) (Some (def.Struct gs)) → OneByOne (AlikeFields R) fs gs
fields_of R fs gs (alike_structs _ _ a) = a

referents_of : (R : ℕ → ℕ → Type 0) (k k' : Class) (t u : TypeId) → AlikeTypes R (Some (def.Pointer k t)) (Some (def.Pointer k' u)) → R t.0 u.0
referents_of R k k' t u (alike_pointers _ _ _ a) = a

pub struct_asked : (d : TypeDef) (fs gs : List Field) → d ≡ def.Struct gs → (before after : List TypePair) (ok : Bool)
    → Asks (λ m. OneByOne (AlikeFields (IsPair m)) fs gs) before after ok → Asks (λ m. AlikeTypes (IsPair m) (Some (def.Struct fs)) (Some d)) before after ok
struct_asked d fs gs e before after ok a =
    subst (λ x. Asks (λ m. AlikeTypes (IsPair m) (Some (def.Struct fs)) (Some x)) before after ok) (sym e)
    (as_asked (λ m. OneByOne (AlikeFields (IsPair m)) fs gs) (λ m. AlikeTypes (IsPair m) (Some (def.Struct fs)) (Some (def.Struct gs)))
    (λ m p. alike_structs fs gs p) (λ m q. fields_of (IsPair m) fs gs q) before after ok a)

pub pointer_asked : (d : TypeDef) (k : Class) (t u : TypeId) → d ≡ def.Pointer k u → (before after : List TypePair) (ok : Bool)
    → Asks (λ m. IsPair m t.0 u.0) before after ok → Asks (λ m. AlikeTypes (IsPair m) (Some (def.Pointer k t)) (Some d)) before after ok
pointer_asked d k t u e before after ok a =
    subst (λ x. Asks (λ m. AlikeTypes (IsPair m) (Some (def.Pointer k t)) (Some x)) before after ok) (sym e)
    (as_asked (λ m. IsPair m t.0 u.0) (λ m. AlikeTypes (IsPair m) (Some (def.Pointer k t)) (Some (def.Pointer k u)))
    (λ m p. alike_pointers k t u p) (λ m q. referents_of (IsPair m) k k t u q) before after ok a)

prims_of : (R : ℕ → ℕ → Type 0) (p q : Primitive) → AlikeTypes R (Some (def.Prim p)) (Some (def.Prim q)) → p ≡ q
prims_of R p q (alike_prims _) = refl

pub prim_asked : (d : TypeDef) (p q : Primitive) → d ≡ def.Prim q → (b : Bool) → (b ≡ true → p ≡ q) → (p ≡ q → b ≡ true) → (w : List TypePair)
    → Asks (λ m. AlikeTypes (IsPair m) (Some (def.Prim p)) (Some d)) w w b
prim_asked d p q e true f g w =
    none_asked (λ m. AlikeTypes (IsPair m) (Some (def.Prim p)) (Some d))
    (λ m. subst (λ x. AlikeTypes (IsPair m) (Some (def.Prim p)) (Some x)) (sym e) (subst (λ r. AlikeTypes (IsPair m) (Some (def.Prim p)) (Some (def.Prim r))) (f refl) (alike_prims p))) w
prim_asked d p q e false f g w = λ m a. by (g (prims_of (IsPair m) p q (subst (λ x. AlikeTypes (IsPair m) (Some (def.Prim p)) (Some x)) e a)))
  where
    by : false ≡ true → ⊥
    by h = cc

values_of : (R : ℕ → ℕ → Type 0) (vs ws : List ℤ) → AlikeTypes R (Some (def.Enum vs)) (Some (def.Enum ws)) → vs ≡ ws
values_of R vs ws (alike_enums _) = refl

pub enum_asked : (d : TypeDef) (vs ws : List ℤ) → d ≡ def.Enum ws → (b : Bool) → (b ≡ true → vs ≡ ws) → (vs ≡ ws → b ≡ true) → (w : List TypePair)
    → Asks (λ m. AlikeTypes (IsPair m) (Some (def.Enum vs)) (Some d)) w w b
enum_asked d vs ws e true f g w =
    none_asked (λ m. AlikeTypes (IsPair m) (Some (def.Enum vs)) (Some d))
    (λ m. subst (λ x. AlikeTypes (IsPair m) (Some (def.Enum vs)) (Some x)) (sym e) (subst (λ r. AlikeTypes (IsPair m) (Some (def.Enum vs)) (Some (def.Enum r))) (f refl) (alike_enums vs))) w
enum_asked d vs ws e false f g w = λ m a. by (g (values_of (IsPair m) vs ws (subst (λ x. AlikeTypes (IsPair m) (Some (def.Enum vs)) (Some x)) e a)))
  where
    by : false ≡ true → ⊥
    by h = cc

elements_of : (R : ℕ → ℕ → Type 0) (b b' : Option ℕ) (v v' : Bool) (t u : TypeId) → AlikeTypes R (Some (def.Array t b v)) (Some (def.Array u b' v')) → R t.0 u.0
elements_of R b b' v v' t u (alike_arrays _ _ _ _ a) = a

pub array_asked : (d : TypeDef) (b : Option ℕ) (v : Bool) (t u : TypeId) → d ≡ def.Array u b v → (before after : List TypePair) (ok : Bool)
    → Asks (λ m. IsPair m t.0 u.0) before after ok → Asks (λ m. AlikeTypes (IsPair m) (Some (def.Array t b v)) (Some d)) before after ok
array_asked d b v t u e before after ok a =
    subst (λ x. Asks (λ m. AlikeTypes (IsPair m) (Some (def.Array t b v)) (Some x)) before after ok) (sym e)
    (as_asked (λ m. IsPair m t.0 u.0) (λ m. AlikeTypes (IsPair m) (Some (def.Array t b v)) (Some (def.Array u b v)))
    (λ m p. alike_arrays t u b v p) (λ m q. elements_of (IsPair m) b b v v t u q) before after ok a)

chars_of : (R : ℕ → ℕ → Type 0) (b b' : Option ℕ) (t u : TypeId) → AlikeTypes R (Some (def.Text t b)) (Some (def.Text u b')) → R t.0 u.0
chars_of R b b' t u (alike_texts _ _ _ a) = a

pub text_asked : (d : TypeDef) (b : Option ℕ) (t u : TypeId) → d ≡ def.Text u b → (before after : List TypePair) (ok : Bool)
    → Asks (λ m. IsPair m t.0 u.0) before after ok → Asks (λ m. AlikeTypes (IsPair m) (Some (def.Text t b)) (Some d)) before after ok
text_asked d b t u e before after ok a =
    subst (λ x. Asks (λ m. AlikeTypes (IsPair m) (Some (def.Text t b)) (Some x)) before after ok) (sym e)
    (as_asked (λ m. IsPair m t.0 u.0) (λ m. AlikeTypes (IsPair m) (Some (def.Text t b)) (Some (def.Text u b)))
    (λ m p. alike_texts t u b p) (λ m q. chars_of (IsPair m) b b t u q) before after ok a)

piped_of : (R : ℕ → ℕ → Type 0) (t u : TypeId) → AlikeTypes R (Some (def.Pipe t)) (Some (def.Pipe u)) → R t.0 u.0
piped_of R t u (alike_pipes _ _ a) = a

pub pipe_asked : (d : TypeDef) (t u : TypeId) → d ≡ def.Pipe u → (before after : List TypePair) (ok : Bool)
    → Asks (λ m. IsPair m t.0 u.0) before after ok → Asks (λ m. AlikeTypes (IsPair m) (Some (def.Pipe t)) (Some d)) before after ok
pipe_asked d t u e before after ok a =
    subst (λ x. Asks (λ m. AlikeTypes (IsPair m) (Some (def.Pipe t)) (Some x)) before after ok) (sym e)
    (as_asked (λ m. IsPair m t.0 u.0) (λ m. AlikeTypes (IsPair m) (Some (def.Pipe t)) (Some (def.Pipe u)))
    (λ m p. alike_pipes t u p) (λ m q. piped_of (IsPair m) t u q) before after ok a)

pub context_asked : (d : TypeDef) → d ≡ def.Context → (w : List TypePair) → Asks (λ m. AlikeTypes (IsPair m) (Some def.Context) (Some d)) w w true
context_asked d e w = none_asked (λ m. AlikeTypes (IsPair m) (Some def.Context) (Some d)) (λ m. subst (λ x. AlikeTypes (IsPair m) (Some def.Context) (Some x)) (sym e) alike_contexts) w

-- what is in two unions
pub record UnionParts (R : ℕ → ℕ → Type 0) (t u : TypeId) (xs ys : List Arm) (d e : Option Arm) : Type 0 where
  pub tags : R t.0 u.0
  pub arms : OneByOne (AlikeArms R) xs ys
  pub defaults : AlikeDefaults R d e

pub parts_of : (R : ℕ → ℕ → Type 0) (n n' : Bool) (t u : TypeId) (xs ys : List Arm) (d e : Option Arm) → AlikeTypes R (Some (def.Union t n xs d)) (Some (def.Union u n' ys e))
    → UnionParts R t u xs ys d e
parts_of R n n' t u xs ys d e (alike_unions _ _ _ _ _ _ _ a b c) = record { tags = a; arms = b; defaults = c }

pub union_asked : (x : TypeDef) (n : Bool) (t u : TypeId) (xs ys : List Arm) (d e : Option Arm) → x ≡ def.Union u n ys e → (before mid last after : List TypePair) (ok : Bool)
    → Asks (λ m. IsPair m t.0 u.0) before mid true → Asks (λ m. OneByOne (AlikeArms (IsPair m)) xs ys) mid last true → Asks (λ m. AlikeDefaults (IsPair m) d e) last after ok
    → Asks (λ m. AlikeTypes (IsPair m) (Some (def.Union t n xs d)) (Some x)) before after ok
union_asked x n t u xs ys d e is before mid last after ok a b c =
    subst (λ z. Asks (λ m. AlikeTypes (IsPair m) (Some (def.Union t n xs d)) (Some z)) before after ok) (sym is)
    (as_asked (λ m. (IsPair m t.0 u.0 × OneByOne (AlikeArms (IsPair m)) xs ys) × AlikeDefaults (IsPair m) d e) (λ m. AlikeTypes (IsPair m) (Some (def.Union t n xs d)) (Some (def.Union u n ys e)))
    (λ m p. alike_unions t u n xs ys d e p.0.0 p.0.1 p.1) (λ m q. let r = parts_of (IsPair m) n n t u xs ys d e q in ((r.tags, r.arms), r.defaults)) before after ok
    (both_last (λ m. IsPair m t.0 u.0 × OneByOne (AlikeArms (IsPair m)) xs ys) (λ m. AlikeDefaults (IsPair m) d e) before last after ok
    (both_last (λ m. IsPair m t.0 u.0) (λ m. OneByOne (AlikeArms (IsPair m)) xs ys) before mid last true a b) c))
