-- Loops over values that are written one after the other.
use Rattle.std.proofs.Common.{◌≡◌, ℕ, ◌+◌, zero, suc, add-one, List, [], ◌∷◌, ◌++◌, drop, map, replicate, Some, None, codes, refl, ap, ap₂, sym, ◌∙◌, append_assoc, append-nil}
use Rattle.std.specs.List.{slice_get}
use Rattle.nd_types.specs.declared.types.Field.{Field}
use Rattle.nd_types.specs.Table.{Table}
use Rattle.nd_value.specs.Tree.{Tree, node, none, trees, count}
use Rattle.nd_lemmas.proofs.Lists.{drop_next as drop-get}
use Rattle.text_printer.specs.Texts.{separator, listed, member_texts, texts_of, text_of, bytes_text, byte_of}

-- the types of members
abbrev pub types_of : List Field → List ℕ
types_of fs = map (λ f. f.of.0) fs

-- the texts of members with their names, the first of them the i-th
abbrev pub members_text : Table → ℕ → List Field → List Tree → List ℕ
members_text table i fs vs = listed i (member_texts fs (texts_of table (types_of fs) (trees vs)))

-- the texts of elements
abbrev pub elements_text : Table → ℕ → ℕ → List Tree → List ℕ
elements_text table elem i vs = listed i (texts_of table (replicate (count (trees vs)) elem) (trees vs))

-- a text, and what is left to write, is the text before and all that was to be written
abbrev pub Comes : List ℕ → List ℕ → List ℕ → List ℕ → Type 0
Comes text left start all = text ++ left ≡ start ++ all

-- something more is written
pub comes_on : (text text' piece left left' start all : List ℕ) → Comes text left start all → left ≡ piece ++ left' → text' ≡ text ++ piece → Comes text' left' start all
comes_on text text' piece left left' start all c l t =
    ap (λ x. x ++ left') t ∙ append_assoc text piece left' ∙ ap (λ x. text ++ x) (sym l) ∙ c

-- nothing is left
pub comes_all : (text left start all : List ℕ) → Comes text left start all → left ≡ [] → text ≡ start ++ all
comes_all text left start all c l = sym (append-nil text) ∙ ap (λ x. text ++ x) (sym l) ∙ c

pub drop_none : (vs : List Tree) (i : ℕ) → slice_get vs i ≡ None → drop i vs ≡ []
drop_none [] zero e = refl
drop_none [] (suc i) e = refl
drop_none (v ∷ vs) zero e = cc
drop_none (v ∷ vs) (suc i) e = drop_none vs i e

-- ## Members

-- a member as it is written
abbrev pub member_piece : Table → ℕ → Field → Tree → List ℕ
member_piece table i f v = (separator i ++ (f.name ++ codes " = ")) ++ text_of table f.of.0 v

regrouped : (a b c d e : List ℕ) → a ++ ((b ++ (c ++ d)) ++ e) ≡ ((a ++ (b ++ c)) ++ d) ++ e
regrouped a b c d e =
    ap (λ x. a ++ (x ++ e)) (sym (append_assoc b c d)) ∙ sym (append_assoc a ((b ++ c) ++ d) e) ∙ ap (λ x. x ++ e) (sym (append_assoc a (b ++ c) d))

members_front : (table : Table) (i : ℕ) (f : Field) (fs : List Field) (v : Tree) (vs : List Tree)
    → members_text table i (f ∷ fs) (v ∷ vs) ≡ member_piece table i f v ++ members_text table (i + 1) fs vs
members_front table i f fs (node l ks) vs =
    regrouped (separator i) f.name (codes " = ") (text_of table f.of.0 (node l ks)) (members_text table (suc i) fs vs)
    ∙ ap (λ n. member_piece table i f (node l ks) ++ members_text table n fs vs) (sym (add-one i))

-- the next member
pub member_next : (table : Table) (fs : List Field) (vs : List Tree) (i : ℕ) (f : Field) (v : Tree) → slice_get fs i ≡ Some f → slice_get vs i ≡ Some v
    → members_text table i (drop i fs) (drop i vs) ≡ member_piece table i f v ++ members_text table (i + 1) (drop (i + 1) fs) (drop (i + 1) vs)
member_next table fs vs i f v there is =
    ap₂ (λ xs ys. members_text table i xs ys) (drop-get fs i f there) (drop-get vs i v is) ∙ members_front table i f (drop (i + 1) fs) v (drop (i + 1) vs)

-- no member is left
none_left : (table : Table) (i : ℕ) (types : List ℕ) (fs : List Field) → listed i (member_texts fs (texts_of table types none)) ≡ []
none_left table i types [] = refl
none_left table i types (f ∷ fs) = refl

pub members_end : (table : Table) (fs : List Field) (vs : List Tree) (i : ℕ) → slice_get vs i ≡ None → members_text table i (drop i fs) (drop i vs) ≡ []
members_end table fs vs i e = ap (λ ys. members_text table i (drop i fs) ys) (drop_none vs i e) ∙ none_left table i (types_of (drop i fs)) (drop i fs)

-- ## Elements

elements_front : (table : Table) (elem i : ℕ) (v : Tree) (vs : List Tree)
    → elements_text table elem i (v ∷ vs) ≡ separator i ++ (text_of table elem v ++ elements_text table elem (i + 1) vs)
elements_front table elem i (node l ks) vs =
    ap (λ n. separator i ++ (text_of table elem (node l ks) ++ elements_text table elem n vs)) (sym (add-one i))

-- the next element
pub element_next : (table : Table) (elem : ℕ) (vs : List Tree) (i : ℕ) (v : Tree) → slice_get vs i ≡ Some v
    → elements_text table elem i (drop i vs) ≡ (separator i ++ text_of table elem v) ++ elements_text table elem (i + 1) (drop (i + 1) vs)
element_next table elem vs i v is =
    ap (λ ys. elements_text table elem i ys) (drop-get vs i v is) ∙ elements_front table elem i v (drop (i + 1) vs)
    ∙ sym (append_assoc (separator i) (text_of table elem v) (elements_text table elem (i + 1) (drop (i + 1) vs)))

-- ## Bytes

pub byte_next : (vs : List Tree) (i : ℕ) (v : Tree) → slice_get vs i ≡ Some v → bytes_text (trees (drop i vs)) ≡ byte_of v ++ bytes_text (trees (drop (i + 1) vs))
byte_next vs i v is = ap (λ ys. bytes_text (trees ys)) (drop-get vs i v is)
