-- The tokens of an attribute configuration file, from those that a file of IDL with the same text has.
use Rattle.std.proofs.Common.{◌≡◌, ℕ, suc, ◌+◌, ◌<◌, ◌≤◌, Bool, true, false, cond, not, List, [], ◌∷◌, ◌++◌, length, map, drop, slice_index_or, add-one, refl, sym, ap, ◌∙◌, append_assoc, append-nil}
use Rattle.std.specs.List.{list_all}
use Rattle.std.specs.Str.{bytes_eq}
use Rattle.std.proofs.lemmas.Slice.Eq.{bytes_eq-Decides}
use Rattle.std.proofs.Math.ListN.{drop_of_length-le}
use Rattle.idl_grammar.specs.Text.{Lexeme, Text, is_in, symbol_among}
use Rattle.std.proofs.lemmas.Bool.{and_parts as both}
use Rattle.nd_lemmas.proofs.Booleans.{clash}
use Rattle.idl_lexer.specs.declared.tokens.TokenKind.{TokenKind}
use Rattle.idl_lexer.specs.declared.tokens.TokenKind.TheVariants as token
use Rattle.idl_lexer.specs.declared.tokens.Token.{Token}
use Rattle.idl_lexer.specs.Verdict.{Lexed}
use Rattle.idl_grammar.specs.Symbols.{Spelled, reserved_words, attribute_words, banned_words, banned_attributes, marks}
use Rattle.idl_grammar.specs.Symbols as symbol
use Rattle.idl_grammar.specs.Text as idl
use Rattle.idl_grammar.specs.declared.language.Language.TheVariants.{C706}
use Rattle.idl_tokens.specs.declared.lexemes.Lexeme as program
use Rattle.idl_tokens.specs.Lexemes.{text_of, seen_lexeme}
use Rattle.acf_reader.specs.Symbols.{own_words, words, symbol_of, lexeme_of, lexemes}
use Rattle.acf_reader.specs.FromIdl.{names_of_idl, symbol_from, lexeme_from}
use Rattle.idl_tokens.proofs.Tables.{drop_here}

-- ## words

module _ (c : List ℕ) where
  joined : (xs ys : List Spelled) (o : ℕ) → symbol_among (xs ++ ys) o c ≡ symbol_among xs (symbol_among ys o c) c
  joined [] ys o = refl
  joined (x ∷ xs) ys o = ap (λ (s : ℕ). cond (bytes_eq c x.octets) x.symbol s) (joined xs ys o)

  -- a word that is no name of IDL keeps its symbol
  pub kept : (s : ℕ) → is_in names_of_idl s ≡ false → symbol_from s c ≡ s
  unfolding symbol_from
  kept s h = ap (λ (b : Bool). cond b (symbol_among own_words symbol.Name c) s) h

  -- any other is looked up among the file's own
  pub looked_up : (s : ℕ) → is_in names_of_idl s ≡ true → symbol_from s c ≡ symbol_among own_words symbol.Name c
  unfolding symbol_from
  looked_up s h = ap (λ (b : Bool). cond b (symbol_among own_words symbol.Name c) s) h

  not_true : (b : Bool) → not b ≡ true → b ≡ false
  not_true false e = refl
  not_true true e = clash false e refl

  either_from : (b : Bool) (s r v : ℕ) → symbol_from s c ≡ s → symbol_from r c ≡ v → symbol_from (cond b s r) c ≡ cond b s v
  either_from true s r v e f = e
  either_from false s r v e f = f

  -- a search among words that are no names of IDL
  among_others : (xs : List Spelled) → list_all (λ w. not (is_in names_of_idl w.symbol)) xs ≡ true → (o : ℕ) → symbol_from (symbol_among xs o c) c ≡ symbol_among xs (symbol_from o c) c
  among_others [] h o = refl
  among_others (x ∷ xs) h o =
      let parts = both (not (is_in names_of_idl x.symbol)) (list_all (λ w. not (is_in names_of_idl w.symbol)) xs) h in
      either_from (bytes_eq c x.octets) x.symbol (symbol_among xs o c) (symbol_among xs (symbol_from o c) c) (kept x.symbol (not_true _ parts.0)) (among_others xs parts.1 o)

  -- no word of the list is spelled so
  unspelled : (ys : List Spelled) → list_all (λ s. not (bytes_eq c s.octets)) ys ≡ true → (o : ℕ) → symbol_among ys o c ≡ o
  unspelled [] h o = refl
  unspelled (y ∷ ys) h o =
      let parts = both (not (bytes_eq c y.octets)) (list_all (λ s. not (bytes_eq c s.octets)) ys) h in
      ap (λ (b : Bool). cond b y.symbol (symbol_among ys o c)) (not_true _ parts.0) ∙ unspelled ys parts.1 o

  abbrev banned : List Spelled
  banned = banned_words ++ banned_attributes

  abbrev own : ℕ
  own = symbol_among own_words symbol.Name c

  abbrev is_apart : List ℕ → Bool
  is_apart octets = list_all (λ s. not (bytes_eq octets s.octets)) banned

  banned_others : list_all (λ w. not (is_in names_of_idl w.symbol)) banned ≡ true
  unfolding names_of_idl
  banned_others = refl

  name_of_idl : is_in names_of_idl symbol.Name ≡ true
  unfolding names_of_idl
  name_of_idl = refl

  attribute_case : (x : Spelled) (rest : ℕ) → is_in names_of_idl x.symbol ≡ true → is_apart x.octets ≡ true → symbol_from rest c ≡ symbol_among banned own c
      → (b : Bool) → bytes_eq c x.octets ≡ b → symbol_from (cond b x.symbol rest) c ≡ symbol_among banned own c
  attribute_case x rest name apart_is other true e =
      let same : c ≡ x.octets = same_octets e in
      looked_up x.symbol name ∙ sym (unspelled banned (ap is_apart same ∙ apart_is) own) where
        same_octets : bytes_eq c x.octets ≡ true → c ≡ x.octets
        same_octets h = (bytes_eq-Decides c x.octets).0 h
  attribute_case x rest name apart_is other false e = other

  -- a search among the words with which an attribute of IDL begins
  among_attributes : (xs : List Spelled) → list_all (λ w. is_in names_of_idl w.symbol) xs ≡ true → list_all (λ w. is_apart w.octets) xs ≡ true
      → symbol_from (symbol_among xs (symbol_among banned symbol.Name c) c) c ≡ symbol_among banned own c
  among_attributes [] h g = among_others banned banned_others symbol.Name ∙ ap (λ (s : ℕ). symbol_among banned s c) (looked_up symbol.Name name_of_idl)
  among_attributes (x ∷ xs) h g =
      let names = both (is_in names_of_idl x.symbol) (list_all (λ w. is_in names_of_idl w.symbol) xs) h in
      let aparts = both (is_apart x.octets) (list_all (λ w. is_apart w.octets) xs) g in
      attribute_case x (symbol_among xs (symbol_among banned symbol.Name c) c) names.0 aparts.0 (among_attributes xs names.1 aparts.1) (bytes_eq c x.octets) refl

  attributes_names : list_all (λ w. is_in names_of_idl w.symbol) attribute_words ≡ true
  unfolding names_of_idl
  attributes_names = refl

  reserved_others : list_all (λ w. not (is_in names_of_idl w.symbol)) reserved_words ≡ true
  unfolding names_of_idl
  reserved_others = refl

  marks_others : list_all (λ w. not (is_in names_of_idl w.symbol)) marks ≡ true
  unfolding names_of_idl
  marks_others = refl

  unknown_other : is_in names_of_idl symbol.Unknown ≡ false
  unfolding names_of_idl
  unknown_other = refl

  in_idl : symbol_among idl.words symbol.Name c ≡ symbol_among reserved_words (symbol_among attribute_words (symbol_among banned symbol.Name c) c) c
  unfolding idl.words
  in_idl =
      joined (reserved_words ++ attribute_words ++ banned_words) banned_attributes symbol.Name
      ∙ (joined (reserved_words ++ attribute_words) banned_words (symbol_among banned_attributes symbol.Name c)
      ∙ (joined reserved_words attribute_words (symbol_among banned_words (symbol_among banned_attributes symbol.Name c) c)
      ∙ ap (λ (s : ℕ). symbol_among reserved_words (symbol_among attribute_words s c) c) (sym (joined banned_words banned_attributes symbol.Name))))

  in_acf : symbol_among words symbol.Name c ≡ symbol_among reserved_words (symbol_among banned own c) c
  unfolding words
  in_acf =
      joined (reserved_words ++ banned_words ++ banned_attributes) own_words symbol.Name
      ∙ (joined (reserved_words ++ banned_words) banned_attributes own
      ∙ (joined reserved_words banned_words (symbol_among banned_attributes own c)
      ∙ ap (λ (s : ℕ). symbol_among reserved_words s c) (sym (joined banned_words banned_attributes own))))

  word_from : symbol_from (symbol_among idl.words symbol.Name c) c ≡ symbol_among words symbol.Name c
  word_from =
      ap (λ (s : ℕ). symbol_from s c) in_idl
      ∙ (among_others reserved_words reserved_others (symbol_among attribute_words (symbol_among banned symbol.Name c) c)
      ∙ (ap (λ (s : ℕ). symbol_among reserved_words s c) (among_attributes attribute_words attributes_names refl) ∙ sym in_acf))

  mark_from : symbol_from (symbol_among marks symbol.Unknown c) c ≡ symbol_among marks symbol.Unknown c
  mark_from = among_others marks marks_others symbol.Unknown ∙ ap (λ (s : ℕ). symbol_among marks s c) (kept symbol.Unknown unknown_other)

-- ## tokens

symbols_from : (kind : TokenKind) (c : List ℕ) → symbol_from (idl.symbol_of C706 kind c) c ≡ symbol_of kind c
unfolding idl.symbol_of idl.symbol_of_word symbol_of names_of_idl
symbols_from token.Word c = word_from c
symbols_from token.Uuid c = kept c symbol.UuidValue refl
symbols_from token.Number c = kept c symbol.Number refl
symbols_from token.Char c = kept c symbol.Character refl
symbols_from token.Str c = kept c symbol.Quoted refl
symbols_from token.Mark c = mark_from c

all_from : (text : List ℕ) (tokens : List Token) → map lexeme_from (map (idl.lexeme_of C706 text) tokens) ≡ map (lexeme_of text) tokens
all_from text [] = refl
all_from text (t ∷ ts) =
    let e : lexeme_from (idl.lexeme_of C706 text t) ≡ lexeme_of text t =
    ap (λ (s : ℕ). record { symbol = s; at = t.from; octets = (idl.lexeme_of C706 text t).octets }) (symbols_from t.kind (idl.lexeme_of C706 text t).octets) in
    let rest = all_from text ts in
    cc

pub lexemes_from : (lexed : Lexed) → map lexeme_from (idl.lexemes C706 lexed) ≡ lexemes lexed
lexemes_from lexed = all_from lexed.text lexed.tokens

-- ## the loop over the tokens

module _ (all : List program.Lexeme) (i : ℕ) (d : program.Lexeme) (h : i < length all) where
  abbrev here : Lexeme
  here = seen_lexeme (slice_index_or all i d)

  pub one_more : (front : Text) (symbol : ℕ) → symbol ≡ symbol_from here.symbol here.octets → map lexeme_from (text_of all) ≡ front ++ map lexeme_from (text_of (drop i all))
      → map lexeme_from (text_of all) ≡ (front ++ (record { symbol = symbol; at = here.at; octets = here.octets }) ∷ []) ++ map lexeme_from (text_of (drop (i + 1) all))
  one_more front symbol is e =
      rw add-one
      (e
      ∙ (ap (λ (ls : List program.Lexeme). front ++ map lexeme_from (text_of ls)) (drop_here all i d h)
      ∙ (ap (λ (s : ℕ). front ++ (record { symbol = s; at = here.at; octets = here.octets }) ∷ map lexeme_from (text_of (drop (suc i) all))) (sym is)
      ∙ sym (append_assoc front ((record { symbol = symbol; at = here.at; octets = here.octets }) ∷ []) (map lexeme_from (text_of (drop (suc i) all)))))))

pub none_left : (all : List program.Lexeme) (i : ℕ) (front : Text) → length all ≤ i → map lexeme_from (text_of all) ≡ front ++ map lexeme_from (text_of (drop i all))
    → map lexeme_from (text_of all) ≡ front
none_left all i front h e = e ∙ (ap (λ (ls : List program.Lexeme). front ++ map lexeme_from (text_of ls)) (drop_of_length-le all h) ∙ append-nil front)
