-- The attributes of a parameter: at most one speaks of an item.
-- `a` and `b` are attributes, `u` and `v` are attributes with their variables, `vs` are those of a parameter, `k` is the kind of an item.
use Rattle.std.proofs.Common.{◌≡◌, ◌⊎◌, inl, inr, ◌∙◌, ℕ, zero, suc, ◌+◌, ◌<◌, ◌≤◌, Bool, true, false, List, [], ◌∷◌, drop, length, Some, None, refl, sym, ap, subst, arith}
use Rattle.std.specs.Prelude.{not, ◌&&◌, ◌||◌, ◌==◌}
use Rattle.std.specs.List.{list_any, slice_get}
use Rattle.std.proofs.lemmas.Bool.{and_parts, eq-eqb, ltb-true, or_left, or_right}
use Rattle.std.proofs.lemmas.Option.{same_Some}
use denote.Enum.Bare.{sameb, true_same}
use Rattle.nd_types.specs.declared.types.Attr.{Attr}
use Rattle.nd_types.specs.declared.types.Attr.TheVariants as attr
use Rattle.nd_types.specs.declared.types.AttrVar.{AttrVar}
use Rattle.nd_types.specs.declared.types.Field.{Field}
use Rattle.nd_types.specs.Fields.{are_ordered, attr_rank, has_attr}
use Rattle.nd_value.specs.Setting.{Among}
use Rattle.nd_value.specs.declared.item.ItemKind.{ItemKind}
use Rattle.nd_value.specs.declared.item.ItemKind.TheVariants as kind
use Rattle.nd_value.specs.contracts.item.ItemKind as row
use Rattle.ndr_trace_value.specs.Attributes.{first_of, speaks, spoken}

-- ## The first attribute that speaks of an item

pub first_here : (k : ItemKind) (vs : List AttrVar) (n : ℕ) (v : AttrVar) → slice_get vs n ≡ Some v → speaks v.attr k ≡ true → first_of k (drop n vs) ≡ Some v
first_here k [] n v e s = cc
first_here k (u ∷ vs) zero v e s =
    let same : u ≡ v = same_Some _ _ e in
    ap (λ b. elim b [ true ↦ Some u | false ↦ first_of k vs ]) (ap (λ (x : AttrVar). speaks x.attr k) same ∙ s) ∙ ap (λ (x : AttrVar). Some x) same
first_here k (u ∷ vs) (suc n) v e s = first_here k vs n v e s

pub first_later : (k : ItemKind) (vs : List AttrVar) (n : ℕ) (v : AttrVar) → slice_get vs n ≡ Some v → speaks v.attr k ≡ false
    → first_of k (drop n vs) ≡ first_of k (drop (suc n) vs)
first_later k [] n v e s = cc
first_later k (u ∷ vs) zero v e s =
    let same : u ≡ v = same_Some _ _ e in
    ap (λ b. elim b [ true ↦ Some u | false ↦ first_of k vs ]) (ap (λ (x : AttrVar). speaks x.attr k) same ∙ s)
first_later k (u ∷ vs) (suc n) v e s = first_later k vs n v e s

pub first_none : (k : ItemKind) (vs : List AttrVar) (n : ℕ) → length vs ≤ n → first_of k (drop n vs) ≡ None
first_none k [] zero h = refl
first_none k [] (suc n) h = refl
first_none k (v ∷ vs) zero h = absurd (omega (arith, h))
first_none k (v ∷ vs) (suc n) h = first_none k vs n (omega (arith, h))

-- ## One attribute for each item

-- attributes that speak of one item are one
abbrev pub OneEach : List AttrVar → Type 0
OneEach vs = (u v : AttrVar) → Among vs u → Among vs v → spoken u.attr ≡ spoken v.attr → u ≡ v

kinds_same : (x y : ItemKind) → sameb row.the_type x y ≡ true → x ≡ y
kinds_same kind.Gap kind.Gap e = refl
kinds_same kind.Max kind.Max e = refl
kinds_same kind.Offset kind.Offset e = refl
kinds_same kind.Actual kind.Actual e = refl
kinds_same kind.Number kind.Number e = refl
kinds_same kind.Tag kind.Tag e = refl
kinds_same kind.Num kind.Num e = refl
kinds_same kind.Text kind.Text e = refl
kinds_same kind.Context kind.Context e = refl
kinds_same kind.Chunk kind.Chunk e = refl
kinds_same _ _ e = cc

-- then the first is the one that is there
pub first_is : (k : ItemKind) (vs : List AttrVar) (v : AttrVar) → OneEach vs → Among vs v → spoken v.attr ≡ k → first_of k vs ≡ Some v
first_is k [] v one m e = absurd m
first_is k (u ∷ vs) v one m e = go (speaks u.attr k) refl m (λ later. first_is k vs v (λ x y a b. one x y (inr a) (inr b)) later e)
  where
    go : (b : Bool) → speaks u.attr k ≡ b → Among (u ∷ vs) v → (Among vs v → first_of k vs ≡ Some v) → first_of k (u ∷ vs) ≡ Some v
    go true f m later =
        let same : u ≡ v = one u v (inl refl) m (kinds_same (spoken u.attr) k f ∙ sym e) in
        ap (λ b. elim b [ true ↦ Some u | false ↦ first_of k vs ]) f ∙ ap (λ (x : AttrVar). Some x) same
    go false f (inl same) later =
        let t : speaks u.attr k ≡ true = true_same row.the_type (spoken u.attr) k (ap (λ (x : AttrVar). spoken x.attr) (sym same) ∙ e) in
        let z : true ≡ false = sym t ∙ f in
        absurd (cc)
    go false f (inr m) later = ap (λ b. elim b [ true ↦ Some u | false ↦ first_of k vs ]) f ∙ later m

-- ## In a legal interface

later_rank : (u : AttrVar) (vs : List AttrVar) → are_ordered (u ∷ vs) ≡ true → (v : AttrVar) → Among vs v → attr_rank u.attr < attr_rank v.attr
later_rank u [] o v m = absurd m
later_rank u (x ∷ vs) o v (inl e) =
    let (first, rest) = and_parts _ _ o in
    subst (λ (y : AttrVar). attr_rank u.attr < attr_rank y.attr) (sym e) (ltb-true (attr_rank u.attr) (attr_rank x.attr) first)
later_rank u (x ∷ vs) o v (inr m) =
    let (first, rest) = and_parts _ _ o in
    let low = ltb-true (attr_rank u.attr) (attr_rank x.attr) first in
    let high = later_rank x vs rest v m in
    omega (arith, low, high)

others_ordered : (u : AttrVar) (vs : List AttrVar) → are_ordered (u ∷ vs) ≡ true → are_ordered vs ≡ true
others_ordered u [] o = refl
others_ordered u (x ∷ vs) o = (and_parts _ _ o).1

-- no attribute is there twice
one_rank : (vs : List AttrVar) → are_ordered vs ≡ true → (u v : AttrVar) → Among vs u → Among vs v → attr_rank u.attr ≡ attr_rank v.attr → u ≡ v
one_rank [] o u v a b e = absurd a
one_rank (x ∷ vs) o u v (inl a) (inl b) e = a ∙ sym b
one_rank (x ∷ vs) o u v (inl a) (inr b) e =
    let low = later_rank x vs o v b in
    let same = ap (λ (y : AttrVar). attr_rank y.attr) a in
    absurd (omega (arith, low, same, e))
one_rank (x ∷ vs) o u v (inr a) (inl b) e =
    let low = later_rank x vs o u a in
    let same = ap (λ (y : AttrVar). attr_rank y.attr) b in
    absurd (omega (arith, low, same, e))
one_rank (x ∷ vs) o u v (inr a) (inr b) e = one_rank vs (others_ordered x vs o) u v a b e

-- two attributes that speak of one item, of which a field has one
abbrev Clash : Attr → Attr → Type 0
Clash attr.Size attr.Max = Unit {0}
Clash attr.Max attr.Size = Unit {0}
Clash attr.Length attr.Last = Unit {0}
Clash attr.Last attr.Length = Unit {0}
Clash _ _ = ⊥

of_one_item : (a b : Attr) → spoken a ≡ spoken b → (attr_rank a ≡ attr_rank b) ⊎ Clash a b
of_one_item attr.Size attr.Size e = inl refl
of_one_item attr.Size attr.Max e = inr tt
of_one_item attr.Size _ e = cc
of_one_item attr.Max attr.Max e = inl refl
of_one_item attr.Max attr.Size e = inr tt
of_one_item attr.Max _ e = cc
of_one_item attr.First attr.First e = inl refl
of_one_item attr.First _ e = cc
of_one_item attr.Length attr.Length e = inl refl
of_one_item attr.Length attr.Last e = inr tt
of_one_item attr.Length _ e = cc
of_one_item attr.Last attr.Last e = inl refl
of_one_item attr.Last attr.Length e = inr tt
of_one_item attr.Last _ e = cc
of_one_item attr.Switch attr.Switch e = inl refl
of_one_item attr.Switch _ e = cc

listed : (a : Attr) (vs : List AttrVar) (v : AttrVar) → Among vs v → v.attr ≡ a → list_any (λ (u : AttrVar). attr_rank u.attr == attr_rank a) vs ≡ true
listed a [] v m e = absurd m
listed a (u ∷ vs) v (inl f) e = or_left _ _ (eq-eqb (attr_rank u.attr) (attr_rank a) (ap (λ (x : AttrVar). attr_rank x.attr) (sym f) ∙ ap attr_rank e))
listed a (u ∷ vs) v (inr m) e = or_right _ _ (listed a vs v m e)

never_both : (x y : Bool) → not (x && y) ≡ true → x ≡ true → y ≡ true → ⊥
never_both true true h e f = absurd (cc)
never_both true false h e f = absurd (cc)
never_both false y h e f = absurd (cc)

-- the attributes of a field
pub one_each : (f : Field) → are_ordered f.vars ≡ true → not (has_attr attr.Size f && has_attr attr.Max f) ≡ true
    → not (has_attr attr.Length f && has_attr attr.Last f) ≡ true → OneEach f.vars
one_each f ordered one_size one_length u v a b e = go (of_one_item u.attr v.attr e)
  where
    clash : (x y : Attr) → u.attr ≡ x → v.attr ≡ y → Clash x y → ⊥
    clash attr.Size attr.Max p q c = never_both (has_attr attr.Size f) (has_attr attr.Max f) one_size (listed attr.Size f.vars u a p) (listed attr.Max f.vars v b q)
    clash attr.Max attr.Size p q c = never_both (has_attr attr.Size f) (has_attr attr.Max f) one_size (listed attr.Size f.vars v b q) (listed attr.Max f.vars u a p)
    clash attr.Length attr.Last p q c =
        never_both (has_attr attr.Length f) (has_attr attr.Last f) one_length (listed attr.Length f.vars u a p) (listed attr.Last f.vars v b q)
    clash attr.Last attr.Length p q c =
        never_both (has_attr attr.Length f) (has_attr attr.Last f) one_length (listed attr.Length f.vars v b q) (listed attr.Last f.vars u a p)
    clash _ _ p q c = absurd c

    go : (attr_rank u.attr ≡ attr_rank v.attr) ⊎ Clash u.attr v.attr → u ≡ v
    go (inl r) = one_rank f.vars ordered u v a b r
    go (inr c) = absurd (clash u.attr v.attr refl refl c)
