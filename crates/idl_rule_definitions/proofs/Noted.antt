-- Breaches noted one by one come to the first of all, and rules 1 to 4 come before the others.
use Rattle.std.proofs.Common.{◌≡◌, ◌∙◌, ℕ, Bool, true, false, not, ◌&&◌, ◌||◌, List, [], ◌∷◌, ◌++◌, Option, Some, None, refl, sym, ap, ap₂, subst, arith}
use Rattle.std.specs.Prelude.{⊤}
use Rattle.std.specs.Prelude.{eqb, ltb, filter}
use Rattle.std.proofs.lemmas.Bool.Decides.{nat_tests}
use Rattle.idl_rule_definitions.specs.Nodes.{World}
use Rattle.idl_rule_definitions.specs.Rules.{Breach, comes_before, rank, earlier, first_of}
use Rattle.idl_rule_definitions.specs.Noted.{later, noted, is_of_lists, of_lists, of_others}
use Rattle.idl_rule_definitions.proofs.Order.{not_before_next, behind_not}

trans : {X : Type 0} {a b c : X} → a ≡ b → b ≡ c → a ≡ c
trans p q = p ∙ q

-- the first of what is first before and what is first after
abbrev joined : World → Option Breach → Option Breach → Option Breach
joined w None behind = behind
joined w (Some a) behind = Some (earlier w a behind)

pub noted_more : (w : World) (first : Option Breach) (xs ys : List Breach) → noted w first (xs ++ ys) ≡ noted w (noted w first xs) ys
noted_more w first [] ys = refl
noted_more w first (x ∷ xs) ys = noted_more w (later w x first) xs ys

later_is : (w : World) (b : Breach) (first : Option Breach) → later w b first ≡ joined w first (Some b)
later_is w b None = refl
later_is w b (Some a) = by (comes_before w b a) refl where
  by : (t : Bool) → comes_before w b a ≡ t → later w b (Some a) ≡ joined w (Some a) (Some b)
  by t e = ap (λ t. elim t [ true ↦ Some b | false ↦ Some a ]) e ∙ (turned t ∙ ap (λ t. Some (elim t [ true ↦ b | false ↦ a ])) (sym e)) where
    turned : (t : Bool) → elim t [ true ↦ Some b | false ↦ Some a ] ≡ Some (elim t [ true ↦ b | false ↦ a ])
    turned true = refl
    turned false = refl

two : (w : World) (a b : Breach) (t : Bool) → comes_before w b a ≡ t → earlier w a (Some b) ≡ elim t [ true ↦ b | false ↦ a ]
two w a b t e = ap (λ t. elim t [ true ↦ b | false ↦ a ]) e

-- `earlier` goes over to any way of bracketing
three : (w : World) (a b c : Breach) → earlier w (earlier w a (Some b)) (Some c) ≡ earlier w a (Some (earlier w b (Some c)))
three w a b c = by (comes_before w b a) (comes_before w c b) (comes_before w c a) refl refl refl where
  by : (s t u : Bool) → comes_before w b a ≡ s → comes_before w c b ≡ t → comes_before w c a ≡ u
      → earlier w (earlier w a (Some b)) (Some c) ≡ earlier w a (Some (earlier w b (Some c)))
  by true true true f g h = trans (ap (λ x. earlier w x (Some c)) (two w a b true f)) (trans (two w b c true g)
      (sym (trans (ap (λ x. earlier w a (Some x)) (two w b c true g)) (two w a c true h))))
  by true true false f g h = absurd (let e : true ≡ false = trans (sym g) (not_before_next w c a b h (behind_not w b a f)) in cc)
  by true false u f g h = trans (ap (λ x. earlier w x (Some c)) (two w a b true f)) (trans (two w b c false g)
      (sym (trans (ap (λ x. earlier w a (Some x)) (two w b c false g)) (two w a b true f))))
  by false true u f g h = trans (ap (λ x. earlier w x (Some c)) (two w a b false f))
      (sym (ap (λ x. earlier w a (Some x)) (two w b c true g)))
  by false false true f g h = absurd (let e : true ≡ false = trans (sym h) (not_before_next w c b a g f) in cc)
  by false false false f g h = trans (ap (λ x. earlier w x (Some c)) (two w a b false f)) (trans (two w a c false h)
      (sym (trans (ap (λ x. earlier w a (Some x)) (two w b c false g)) (two w a b false f))))

joined_on : (w : World) (first : Option Breach) (b : Breach) (behind : Option Breach)
    → joined w (joined w first (Some b)) behind ≡ joined w first (Some (earlier w b behind))
joined_on w None b behind = refl
joined_on w (Some a) b None = refl
joined_on w (Some a) b (Some c) = ap (λ x. Some x) (three w a b c)

noted_behind : (w : World) (first : Option Breach) (bs : List Breach) → noted w first bs ≡ joined w first (first_of w bs)
noted_behind w None [] = refl
noted_behind w (Some a) [] = refl
noted_behind w first (b ∷ bs) =
    trans (noted_behind w (later w b first) bs)
    (trans (ap (λ x. joined w x (first_of w bs)) (later_is w b first)) (joined_on w first b (first_of w bs)))

pub noted_all : (w : World) (bs : List Breach) → noted w None bs ≡ first_of w bs
noted_all w bs = noted_behind w None bs

-- ## The rules on lists come first

abbrev pub or_else : Option Breach → Option Breach → Option Breach
or_else None other = other
or_else (Some a) other = Some a

list_rule_first : (w : World) (a b : Breach) → is_of_lists a ≡ true → is_of_lists b ≡ false → comes_before w b a ≡ false
list_rule_first w a b h i = by_numbers a.rule (rank w a.place.file) a.place.at b.rule (rank w b.place.file) b.place.at h i where
  by_numbers : (r k p s l q : ℕ) → ltb r 5 ≡ true → ltb s 5 ≡ false → (ltb s r || eqb s r && (ltb l k || eqb l k && ltb q p)) ≡ false
  by_numbers r k p s l q h i = grind (arith, nat_tests, h, i)

list_rule_last : (w : World) (a b : Breach) → is_of_lists a ≡ false → is_of_lists b ≡ true → comes_before w b a ≡ true
list_rule_last w a b h i = by_numbers a.rule (rank w a.place.file) a.place.at b.rule (rank w b.place.file) b.place.at h i where
  by_numbers : (r k p s l q : ℕ) → ltb r 5 ≡ false → ltb s 5 ≡ true → (ltb s r || eqb s r && (ltb l k || eqb l k && ltb q p)) ≡ true
  by_numbers r k p s l q h i = grind (arith, nat_tests, h, i)

-- each breach is of its part
data Are (test : Bool) : List Breach → Type 0 where
  none_are : Are test []
  next_is : (b : Breach) (bs : List Breach) → is_of_lists b ≡ test → Are test bs → Are test (b ∷ bs)

of_lists_more : (b : Breach) (bs : List Breach) (t : Bool) → is_of_lists b ≡ t → of_lists (b ∷ bs) ≡ elim t [ true ↦ b ∷ of_lists bs | false ↦ of_lists bs ]
of_lists_more b bs t e = ap (λ t. elim t [ true ↦ b ∷ of_lists bs | false ↦ of_lists bs ]) e

of_others_more : (b : Breach) (bs : List Breach) (t : Bool) → is_of_lists b ≡ t → of_others (b ∷ bs) ≡ elim t [ true ↦ of_others bs | false ↦ b ∷ of_others bs ]
of_others_more b bs t e = ap (λ t. elim t [ true ↦ of_others bs | false ↦ b ∷ of_others bs ]) e

lists_are : (bs : List Breach) → Are true (of_lists bs)
lists_are [] = none_are
lists_are (b ∷ bs) = by (is_of_lists b) refl (lists_are bs) where
  by : (t : Bool) → is_of_lists b ≡ t → Are true (of_lists bs) → Are true (of_lists (b ∷ bs))
  by true e rest = subst (λ l. Are true l) (sym (of_lists_more b bs true e)) (next_is b (of_lists bs) e rest)
  by false e rest = subst (λ l. Are true l) (sym (of_lists_more b bs false e)) rest

others_are : (bs : List Breach) → Are false (of_others bs)
others_are [] = none_are
others_are (b ∷ bs) = by (is_of_lists b) refl (others_are bs) where
  by : (t : Bool) → is_of_lists b ≡ t → Are false (of_others bs) → Are false (of_others (b ∷ bs))
  by true e rest = subst (λ l. Are false l) (sym (of_others_more b bs true e)) rest
  by false e rest = subst (λ l. Are false l) (sym (of_others_more b bs false e)) (next_is b (of_others bs) e rest)

abbrev OnSomeOf : (Breach → Type 0) → Option Breach → Type 0
OnSomeOf P None = ⊤
OnSomeOf P (Some b) = P b

earlier_is : (w : World) (test : Bool) (b : Breach) → is_of_lists b ≡ test → (o : Option Breach) → OnSomeOf (λ x. is_of_lists x ≡ test) o → is_of_lists (earlier w b o) ≡ test
earlier_is w test b is None h = is
earlier_is w test b is (Some a) h = either (comes_before w a b) refl where
  either : (t : Bool) → comes_before w a b ≡ t → is_of_lists (earlier w b (Some a)) ≡ test
  either true e = ap is_of_lists (two w b a true e) ∙ h
  either false e = ap is_of_lists (two w b a false e) ∙ is

first_is : (w : World) (test : Bool) (bs : List Breach) → Are test bs → OnSomeOf (λ x. is_of_lists x ≡ test) (first_of w bs)
first_is w test [] none_are = tt
first_is w test (b ∷ bs) (next_is _ _ is rest) = earlier_is w test b is (first_of w bs) (first_is w test bs rest)

of_list : (w : World) (b : Breach) → is_of_lists b ≡ true → (l o : Option Breach) → OnSomeOf (λ x. is_of_lists x ≡ false) o → earlier w b (or_else l o) ≡ earlier w b l
of_list w b e None None h = refl
of_list w b e None (Some a) h = two w b a false (list_rule_first w b a e h)
of_list w b e (Some l) o h = refl

of_other : (w : World) (b : Breach) → is_of_lists b ≡ false → (l o : Option Breach) → OnSomeOf (λ x. is_of_lists x ≡ true) l
    → Some (earlier w b (or_else l o)) ≡ or_else l (Some (earlier w b o))
of_other w b e None o h = refl
of_other w b e (Some l) o h = ap (λ x. Some x) (two w b l true (list_rule_last w b l e h))

pub in_two : (w : World) (bs : List Breach) → first_of w bs ≡ or_else (first_of w (of_lists bs)) (first_of w (of_others bs))
in_two w [] = refl
in_two w (b ∷ bs) = by (is_of_lists b) refl (in_two w bs) where
  by : (t : Bool) → is_of_lists b ≡ t → first_of w bs ≡ or_else (first_of w (of_lists bs)) (first_of w (of_others bs))
      → first_of w (b ∷ bs) ≡ or_else (first_of w (of_lists (b ∷ bs))) (first_of w (of_others (b ∷ bs)))
  by true e rest =
      ap (λ x. Some x) (ap (λ x. earlier w b x) rest ∙ of_list w b e (first_of w (of_lists bs)) (first_of w (of_others bs)) (first_is w false (of_others bs) (others_are bs)))
      ∙ sym (ap₂ (λ l o. or_else (first_of w l) (first_of w o)) (of_lists_more b bs true e) (of_others_more b bs true e))
  by false e rest =
      ap (λ x. Some (earlier w b x)) rest ∙ of_other w b e (first_of w (of_lists bs)) (first_of w (of_others bs)) (first_is w true (of_lists bs) (lists_are bs))
      ∙ sym (ap₂ (λ l o. or_else (first_of w l) (first_of w o)) (of_lists_more b bs false e) (of_others_more b bs false e))
