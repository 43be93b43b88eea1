-- Tokens of values with their blanks, put together from parts.
-- `p` are the tokens of a value, `s` is their text, `m` is a mark, `t` and `u` are tokens.
use Rattle.std.proofs.Common.{◌≡◌, ℕ, suc, ℤ, pos, Bool, true, false, eqb, List, [], ◌∷◌, ◌++◌, map, codes, decimal, refl, ap, ap₂, sym, ◌∙◌, append_assoc, append-nil}
use Rattle.std.specs.Prelude.{◌&&◌, ◌||◌, if◌then◌else◌}
use Rattle.std.specs.Fmt.{signed_decimal}
use Rattle.std.proofs.lemmas.List.{map-append}
use Rattle.nd_types.specs.declared.types.Field.{Field}
use Rattle.text_grammar.specs.Tokens.{Token, Word, Number, Cell, Str, Bytes, Uuid, Mark}
use Rattle.text_grammar.specs.Written.{Piece, Other, token_of, separated, enclosed, named, members, comma, colon, word, number_piece, count_piece, spelled, space, tokens_text}
use Rattle.text_printer.specs.Texts.{listed, member_texts, context_text}

abbrev pub tokens : List Piece → List Token
tokens p = map token_of p

-- the text of tokens after another one
abbrev pub spread : Token → List Token → List ℕ
spread t [] = []
spread t (u ∷ us) = space t u ++ (spelled u ++ spread u us)

-- the last of tokens
abbrev pub last : Token → List Token → Token
last t [] = t
last t (u ∷ us) = last u us

pub front : (t : Token) (ts : List Token) → tokens_text (t ∷ ts) ≡ spelled t ++ spread t ts
front t [] = sym (append-nil (spelled t))
front t (u ∷ us) = ap (λ x. spelled t ++ (space t u ++ x)) (front u us)

pub spread_append : (t : Token) (us vs : List Token) → spread t (us ++ vs) ≡ spread t us ++ spread (last t us) vs
spread_append t [] vs = refl
spread_append t (u ∷ us) vs =
    ap (λ x. space t u ++ (spelled u ++ x)) (spread_append u us vs)
    ∙ ap (λ x. space t u ++ x) (sym (append_assoc (spelled u) (spread u us) (spread (last u us) vs)))
    ∙ sym (append_assoc (space t u) (spelled u ++ spread u us) (spread (last u us) vs))

pub last_append : (t : Token) (us : List Token) (v : Token) → last t (us ++ v ∷ []) ≡ v
last_append t [] v = refl
last_append t (u ∷ us) v = last_append u us v

-- the space after a mark, before a word
abbrev pub gap : ℕ → List ℕ
gap m = space (Mark m) (Word [])

-- Tokens have a text wherever they come in a line: after any mark, and before any mark except an equals sign.
pub record IsItem (p : List Piece) (s : List ℕ) : Type 0 where
  pub text : tokens_text (tokens p) ≡ s
  pub after : (m : ℕ) → spread (Mark m) (tokens p) ≡ gap m ++ s
  pub before : (t : Token) (m : ℕ) → eqb m 61 ≡ false → space (last t (tokens p)) (Mark m) ≡ []

-- each of values has its text
abbrev pub AreItems : List (List Piece) → List (List ℕ) → Type 0
AreItems [] [] = Unit {0}
AreItems [] (s ∷ ss) = ⊥
AreItems (p ∷ ps) [] = ⊥
AreItems (p ∷ ps) (s ∷ ss) = IsItem p s × AreItems ps ss

-- ## Single tokens

-- no space is before a mark that is no equals sign, after a token that is neither an equals sign nor a comma
abbrev if_space : Bool → List ℕ
if_space b = if b then codes " " else []

no_space : (m : ℕ) → eqb m 61 ≡ false → space (Number (pos 0)) (Mark m) ≡ []
no_space m e = ap (λ b. if_space ((false || b) || (false || (true && false)))) e

pub number_item : (z : ℤ) → IsItem (number_piece z ∷ []) (signed_decimal z)
number_item z = record {
  text = refl;
  after = λ m. ap (λ x. gap m ++ x) (append-nil (signed_decimal z));
  before = λ t m e. no_space m e;
}

pub word_item : (w : List ℕ) → IsItem (word w ∷ []) w
word_item w = record {
  text = refl;
  after = λ m. ap (λ x. gap m ++ x) (append-nil w);
  before = λ t m e. no_space m e;
}

pub cell_item : (c : ℕ) → IsItem (Other (Cell c) ∷ []) (64 ∷ decimal c)
cell_item c = record {
  text = refl;
  after = λ m. ap (λ x. gap m ++ x) (append-nil (64 ∷ decimal c));
  before = λ t m e. no_space m e;
}

pub string_item : (octets : List ℕ) → IsItem (Other (Str octets) ∷ []) (spelled (Str octets))
string_item octets = record {
  text = refl;
  after = λ m. ap (λ x. gap m ++ x) (append-nil (spelled (Str octets)));
  before = λ t m e. no_space m e;
}

pub bytes_item : (octets : List ℕ) → IsItem (Other (Bytes octets) ∷ []) (spelled (Bytes octets))
bytes_item octets = record {
  text = refl;
  after = λ m. ap (λ x. gap m ++ x) (append-nil (spelled (Bytes octets)));
  before = λ t m e. no_space m e;
}

-- ## A number or a name before a value

-- a number and a colon before a value
pub numbered_item : (z : ℤ) (p : List Piece) (s : List ℕ) → IsItem p s → IsItem (number_piece z ∷ colon ∷ p) (signed_decimal z ++ (codes ":" ++ s))
numbered_item z p s i =
    let k : spread (Mark 58) (tokens p) ≡ s = i.after 58 in
    record {
      text = front (Number z) (Mark 58 ∷ tokens p) ∙ ap (λ x. signed_decimal z ++ (codes ":" ++ x)) k;
      after = λ m. ap (λ x. gap m ++ (signed_decimal z ++ (codes ":" ++ x))) k;
      before = λ t m e. i.before (Mark 58) m e;
    }

-- a name and an equals sign before a value
pub named_item : (name : List ℕ) (p : List Piece) (s : List ℕ) → IsItem p s → IsItem (named name p) (name ++ (codes " = " ++ s))
named_item name p s i =
    let k : spread (Mark 61) (tokens p) ≡ codes " " ++ s = i.after 61 in
    record {
      text = front (Word name) (Mark 61 ∷ tokens p) ∙ ap (λ x. name ++ (codes " =" ++ x)) k;
      after = λ m. ap (λ x. gap m ++ (name ++ (codes " =" ++ x))) k;
      before = λ t m e. i.before (Mark 61) m e;
    }

pub member_items : (fs : List Field) (ps : List (List Piece)) (ss : List (List ℕ)) → AreItems ps ss → AreItems (members fs ps) (member_texts fs ss)
member_items [] [] [] h = tt
member_items [] (p ∷ ps) (s ∷ ss) h = tt
member_items [] [] (s ∷ ss) h = absurd h
member_items [] (p ∷ ps) [] h = absurd h
member_items (f ∷ fs) [] [] h = tt
member_items (f ∷ fs) [] (s ∷ ss) h = absurd h
member_items (f ∷ fs) (p ∷ ps) [] h = absurd h
member_items (f ∷ fs) (p ∷ ps) (s ∷ ss) h = (named_item f.name p s h.0, member_items fs ps ss h.1)

-- ## Lists between two marks

-- tokens and what comes after them
after_item : (m : ℕ) (p : List Piece) (s : List ℕ) (c : ℕ) (ts : List Token) (x : List ℕ) → IsItem p s → eqb c 61 ≡ false → spelled (Mark c) ++ spread (Mark c) ts ≡ x
    → spread (Mark m) (tokens p ++ Mark c ∷ ts) ≡ gap m ++ (s ++ x)
after_item m p s c ts x i e h =
    spread_append (Mark m) (tokens p) (Mark c ∷ ts)
    ∙ ap₂ (λ a b. a ++ (b ++ (spelled (Mark c) ++ spread (Mark c) ts))) (i.after m) (i.before (Mark m) c e)
    ∙ append_assoc (gap m) s (spelled (Mark c) ++ spread (Mark c) ts) ∙ ap (λ b. gap m ++ (s ++ b)) h

-- values with a comma between each two, and a mark after them
pub rest_items : (m : ℕ) (p : List Piece) (s : List ℕ) (ps : List (List Piece)) (ss : List (List ℕ)) (i c : ℕ) → eqb c 61 ≡ false → IsItem p s → AreItems ps ss
    → spread (Mark m) (tokens (separated (p ∷ ps)) ++ Mark c ∷ []) ≡ gap m ++ (s ++ (listed (suc i) ss ++ c ∷ []))
rest_items m p s [] [] i c e x h = after_item m p s c [] (c ∷ []) x e refl
rest_items m p s [] (s' ∷ ss) i c e x h = absurd h
rest_items m p s (p' ∷ ps) [] i c e x h = absurd h
rest_items m p s (p' ∷ ps) (s' ∷ ss) i c e x h =
    let ts = tokens (separated (p' ∷ ps)) in
    let k : spread (Mark 44) (ts ++ Mark c ∷ []) ≡ codes " " ++ (s' ++ (listed (suc (suc i)) ss ++ c ∷ [])) = rest_items 44 p' s' ps ss (suc i) c e h.0 h.1 in
    ap (λ l. spread (Mark m) (l ++ Mark c ∷ [])) (map-append token_of p (comma ∷ separated (p' ∷ ps)))
    ∙ ap (λ l. spread (Mark m) l) (append_assoc (tokens p) (Mark 44 ∷ ts) (Mark c ∷ []))
    ∙ after_item m p s 44 (ts ++ Mark c ∷ []) _ x refl (ap (λ b. codes "," ++ b) k)
    ∙ ap (λ b. gap m ++ (s ++ (codes ", " ++ b))) (sym (append_assoc s' (listed (suc (suc i)) ss) (c ∷ [])))

-- marks that open and close a list
record AreBrackets (o c : ℕ) : Type 0 where
  opens : (m : ℕ) → space (Mark m) (Mark o) ≡ gap m
  none : gap o ≡ []
  empty : spread (Mark o) (Mark c ∷ []) ≡ c ∷ []
  no_equals : eqb c 61 ≡ false
  closes : (m : ℕ) → eqb m 61 ≡ false → space (Mark c) (Mark m) ≡ []

enclosed_after : (o c : ℕ) (ps : List (List Piece)) (ss : List (List ℕ)) → AreBrackets o c → AreItems ps ss
    → spread (Mark o) (tokens (separated ps) ++ Mark c ∷ []) ≡ listed 0 ss ++ c ∷ []
enclosed_after o c [] [] b h = b.empty
enclosed_after o c [] (s ∷ ss) b h = absurd h
enclosed_after o c (p ∷ ps) [] b h = absurd h
enclosed_after o c (p ∷ ps) (s ∷ ss) b h =
    rest_items o p s ps ss 0 c b.no_equals h.0 h.1 ∙ ap (λ x. x ++ (s ++ (listed 1 ss ++ c ∷ []))) b.none ∙ sym (append_assoc s (listed 1 ss) (c ∷ []))

enclosed_item : (o c : ℕ) (ps : List (List Piece)) (ss : List (List ℕ)) → AreBrackets o c → AreItems ps ss
    → IsItem (enclosed o ps c) (o ∷ (listed 0 ss ++ c ∷ []))
enclosed_item o c ps ss b h =
    let e : tokens (separated ps ++ Other (Mark c) ∷ []) ≡ tokens (separated ps) ++ Mark c ∷ [] = map-append token_of (separated ps) (Other (Mark c) ∷ []) in
    let k : spread (Mark o) (tokens (separated ps ++ Other (Mark c) ∷ [])) ≡ listed 0 ss ++ c ∷ [] = ap (spread (Mark o)) e ∙ enclosed_after o c ps ss b h in
    record {
      text = front (Mark o) (tokens (separated ps ++ Other (Mark c) ∷ [])) ∙ ap (λ x. o ∷ x) k;
      after = λ m. ap₂ (λ g x. g ++ (o ∷ x)) (b.opens m) k;
      before =
          λ t m q. ap (λ l. space (last (Mark o) l) (Mark m)) e ∙ ap (λ u. space u (Mark m)) (last_append (Mark o) (tokens (separated ps)) (Mark c)) ∙ b.closes m q;
    }

curly : AreBrackets 123 125
curly = record {
  opens = λ m. refl;
  none = refl;
  empty = refl;
  no_equals = refl;
  closes = λ m e. ap (λ b. if_space ((false || b) || (false || (false && false)))) e;
}

square : AreBrackets 91 93
square = record {
  opens = λ m. refl;
  none = refl;
  empty = refl;
  no_equals = refl;
  closes = λ m e. ap (λ b. if_space ((false || b) || (false || (false && false)))) e;
}

pub struct_item : (ps : List (List Piece)) (ss : List (List ℕ)) → AreItems ps ss → IsItem (enclosed 123 ps 125) (codes "{" ++ (listed 0 ss ++ codes "}"))
struct_item ps ss h = enclosed_item 123 125 ps ss curly h

pub elements_item : (ps : List (List Piece)) (ss : List (List ℕ)) → AreItems ps ss → IsItem (enclosed 91 ps 93) (codes "[" ++ (listed 0 ss ++ codes "]"))
elements_item ps ss h = enclosed_item 91 93 ps ss square h

-- a context handle
pub context_item : (attributes : ℕ) (id : List ℕ)
    → IsItem (word (codes "ctx") ∷ enclosed 40 ((count_piece attributes ∷ []) ∷ (Other (Uuid id) ∷ []) ∷ []) 41) (context_text attributes id)
context_item attributes id = record {
  text = refl;
  after = λ m. refl;
  before = λ t m e. ap (λ b. if_space ((false || b) || (false || (false && false)))) e;
}
