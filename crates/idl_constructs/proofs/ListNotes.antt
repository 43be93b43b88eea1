-- What is noted of attributes one by one.
use Rattle.std.proofs.Common.{◌≡◌, ◌∙◌, ℕ, ◌+◌, ◌<◌, ◌≤◌, map, take, drop, length, get_or, Bool, true, false, ◌||◌, List, [], ◌∷◌, ◌++◌, Option, refl, ap, ap₂, sym}
use Rattle.std.proofs.lemmas.Slice.Eq.{bytes_eq-Decides}
use Rattle.std.specs.List.{list_any}
use Rattle.std.specs.Str.{bytes_eq}
use Rattle.std.proofs.lemmas.List.{take_more, drop_more, drop_all, map-append}
use Rattle.std.proofs.lemmas.List.Concat.{flat_map-cons}
use Rattle.std.proofs.Math.Bool.{or-false}
use Rattle.idl_grammar.specs.declared.attributes.Attribute as program
use Rattle.idl_grammar.specs.Seen.{seen_attribute}
use Rattle.idl_grammar.specs.Tree.{Attribute}
use Rattle.idl_constructs.specs.declared.words.Word.{Word}
use Rattle.idl_rule_definitions.specs.Nodes.{World, Construct, place_in, AttributeNode, attribute_nodes_from}
use Rattle.idl_constructs.specs.Spelled.{spelled}
use Rattle.idl_rule_definitions.specs.Attributes.{word_of, is_word, has}
use Rattle.idl_rule_definitions.specs.Rules.{Breach, broken_at}
use Rattle.idl_rule_definitions.specs.Noted.{noted, if_broken}
use Rattle.idl_constructs.specs.ListBreaches.{is_among, AreWords, attribute_breaches, list_breaches_at, list_breaches}
use Rattle.idl_rule_definitions.proofs.Noted.{noted_more}

pub if_broken_is : (c : Construct) (rule at : ℕ) (b : Bool) → if_broken rule (place_in c at) b ≡ broken_at c rule at b
if_broken_is c rule at true = refl
if_broken_is c rule at false = refl

-- three rules, one after the other
pub three : (w : World) (c : Construct) (at i j k : ℕ) (a b d : Bool) (first second third last : Option Breach)
    → second ≡ noted w first (if_broken i (place_in c at) a) → third ≡ noted w second (if_broken j (place_in c at) b) → last ≡ noted w third (if_broken k (place_in c at) d)
    → last ≡ noted w first (broken_at c i at a ++ broken_at c j at b ++ broken_at c k at d)
three w c at i j k a b d first second third last e f g =
    g ∙ ap (λ l. noted w third l) (if_broken_is c k at d)
    ∙ ap (λ o. noted w o (broken_at c k at d)) (f ∙ ap (λ l. noted w second l) (if_broken_is c j at b)
    ∙ ap (λ o. noted w o (broken_at c j at b)) (e ∙ ap (λ l. noted w first l) (if_broken_is c i at a))
    ∙ sym (noted_more w first (broken_at c i at a) (broken_at c j at b)))
    ∙ sym (noted_more w first (broken_at c i at a ++ broken_at c j at b) (broken_at c k at d))

-- ## Words that stand in a list

or_or : (a b d : Bool) → (a || (b || d)) ≡ ((a || b) || d)
or_or true b d = refl
or_or false b d = refl

pub any_last : {X : Type 0} (test : X → Bool) (xs : List X) (x : X) → list_any test (xs ++ x ∷ []) ≡ (list_any test xs || test x)
any_last test [] x = or-false (test x)
any_last test (y ∷ xs) x = ap (λ b. test y || b) (any_last test xs x) ∙ or_or (test y) (list_any test xs) (test x)

pub one_word_more : (words : List Word) (before : List Attribute) (a : Attribute) (word : Word) → AreWords words before → spelled word ≡ word_of a.kind
    → AreWords (words ++ word ∷ []) (before ++ a ∷ [])
one_word_more words before a word are is x =
    any_last (λ w. bytes_eq x (spelled w)) words word ∙ ap₂ (λ b d. b || bytes_eq x d) (are x) is ∙ sym (any_last (is_word x) before a)

pub no_word_more : (words : List Word) (before : List Attribute) (a : Attribute) (word : Word) → AreWords words before → spelled word ≡ word_of a.kind
    → is_among (spelled word) words ≡ true → AreWords words (before ++ a ∷ [])
no_word_more words before a word are is among x =
    are x ∙ by (bytes_eq x (word_of a.kind)) refl ∙ sym (any_last (is_word x) before a) where
      by : (t : Bool) → bytes_eq x (word_of a.kind) ≡ t → has x before ≡ (has x before || bytes_eq x (word_of a.kind))
      by true e =
          let there : has x before ≡ true = ap (λ y. has y before) ((bytes_eq-Decides x (word_of a.kind)).0 e ∙ sym is) ∙ sym (are (spelled word)) ∙ among in
          there ∙ sym (ap (λ b. b || bytes_eq x (word_of a.kind)) there)
      by false e = sym (ap (λ b. has x before || b) e ∙ or-false (has x before))

-- ## The attributes that are left, after those before them

abbrev pub left : Construct → List program.Attribute → ℕ → List Breach
left c xs i = list_breaches (attribute_nodes_from c (map seen_attribute (take i xs)) (map seen_attribute (drop i xs)))

pub before_next : (xs : List program.Attribute) (i : ℕ) (x : program.Attribute) → i < length xs → x ≡ get_or xs i x
    → map seen_attribute (take (i + 1) xs) ≡ map seen_attribute (take i xs) ++ seen_attribute x ∷ []
before_next xs i x below is =
    ap (map seen_attribute) (take_more xs i x below ∙ ap (λ y. take i xs ++ y ∷ []) (sym is)) ∙ map-append seen_attribute (take i xs) (x ∷ [])

left_is : (c : Construct) (xs : List program.Attribute) (i : ℕ) (x : program.Attribute) → i < length xs → x ≡ get_or xs i x
    → left c xs i ≡ attribute_breaches c (map seen_attribute (take i xs)) (seen_attribute x) ++ left c xs (i + 1)
left_is c xs i x below is =
    ap (λ l. list_breaches (attribute_nodes_from c (map seen_attribute (take i xs)) (map seen_attribute l))) (drop_more xs i x below ∙ ap (λ y. y ∷ drop (i + 1) xs) (sym is))
    ∙ flat_map-cons list_breaches_at (AttributeNode c (map seen_attribute (take i xs)) (seen_attribute x))
    (attribute_nodes_from c (map seen_attribute (take i xs) ++ seen_attribute x ∷ []) (map seen_attribute (drop (i + 1) xs)))
    ∙ ap (λ before. attribute_breaches c (map seen_attribute (take i xs)) (seen_attribute x) ++ list_breaches (attribute_nodes_from c before (map seen_attribute (drop (i + 1) xs))))
    (sym (before_next xs i x below is))

-- one attribute is noted, and the others are left
pub one_noted : (w : World) (c : Construct) (xs : List program.Attribute) (i : ℕ) (x : program.Attribute) (first next all : Option Breach) → i < length xs → x ≡ get_or xs i x
    → next ≡ noted w first (attribute_breaches c (map seen_attribute (take i xs)) (seen_attribute x)) → noted w first (left c xs i) ≡ all → noted w next (left c xs (i + 1)) ≡ all
one_noted w c xs i x first next all below is e h =
    ap (λ o. noted w o (left c xs (i + 1))) e
    ∙ sym (ap (λ l. noted w first l) (left_is c xs i x below is) ∙ noted_more w first (attribute_breaches c (map seen_attribute (take i xs)) (seen_attribute x)) (left c xs (i + 1)))
    ∙ h

pub none_left : (w : World) (c : Construct) (xs : List program.Attribute) (i : ℕ) (first all : Option Breach) → length xs ≤ i → noted w first (left c xs i) ≡ all → first ≡ all
none_left w c xs i first all past h =
    sym (ap (λ l. noted w first (list_breaches (attribute_nodes_from c (map seen_attribute (take i xs)) (map seen_attribute l)))) (drop_all i xs past)) ∙ h

pub words_next : (words : List Word) (xs : List program.Attribute) (i : ℕ) (x : program.Attribute) → i < length xs → x ≡ get_or xs i x
    → AreWords words (map seen_attribute (take i xs) ++ seen_attribute x ∷ []) → AreWords words (map seen_attribute (take (i + 1) xs))
words_next words xs i x below is are y = are y ∙ ap (has y) (sym (before_next xs i x below is))
