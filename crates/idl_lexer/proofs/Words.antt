-- The tokens of a text stand in it. Its words are identifiers, and its UUIDs have their form.
use Rattle.std.proofs.Common.{◌≡◌, ℕ, suc, ◌+◌, ◌-◌, ◌<◌, ◌≤◌, true, List, [], ◌∷◌, ◌++◌, length, flat_map, slice_range, slice_index, refl, sym, ap, subst, arith, ◌∙◌}
use Rattle.std.specs.List.{AllByRecursion, list_all}
use Rattle.std.specs.Cmp.Derive.{both_true}
use Rattle.std.proofs.lemmas.Bool.{le-leb}
use Rattle.nd_base.specs.Text.{is_word, is_identifier}
use Rattle.idl_lexer.specs.declared.tokens.TokenKind.{TokenKind}
use Rattle.idl_lexer.specs.declared.tokens.TokenKind.TheVariants as token
use Rattle.idl_lexer.specs.declared.tokens.Token.{Token}
use Rattle.idl_lexer.specs.declared.cut.Piece.{Piece}
use Rattle.idl_lexer.specs.declared.cut.PieceKind.{PieceKind}
use Rattle.idl_lexer.specs.declared.cut.PieceKind.TheVariants as piece
use Rattle.nd_base.specs.Text.{is_letter, is_word_octet}
use Rattle.idl_lexer.specs.Pieces.{IsRun, IsUuid, IsOf}
use Rattle.idl_lexer.specs.Verdict.{IsFormed, AreFormed, IsCut, AreCut, token_of, AreTokens}
use Rattle.idl_lexer.proofs.Ranges.{range_length}

-- a token that is in the text; if it is a word it has the form of one and is no longer than 31 octets, and if it is a UUID it has its form
pub record IsFit (text : List ℕ) (t : Token) : Type 0 where
  pub some : t.from < t.to
  pub within : t.to ≤ length text
  pub short : t.kind ≡ token.Word → t.to ≤ t.from + 31
  pub run : t.kind ≡ token.Word → IsRun is_letter (slice_range text t.from t.to)
  pub uuid : t.kind ≡ token.Uuid → IsUuid (slice_range text t.from t.to)

abbrev pub AreFit : List ℕ → List Token → Type 0
AreFit text tokens = AllByRecursion (IsFit text) tokens

piece_of : (k l : TokenKind) → k ≡ l → piece.Token k ≡ piece.Token l
piece_of k l e = ap (λ (m : TokenKind). piece.Token m) e

fit_piece : (text : List ℕ) (p : Piece) → IsCut text p → (others : List Token) → AreFit text others → AreFit text (token_of p ++ others)
fit_piece text p c others fit = by_kind p.kind refl where
  by_kind : (k : PieceKind) → p.kind ≡ k
      → AreFit text (elim k [ piece.Space ↦ [] | piece.Comment ↦ [] | piece.Token kind ↦ (record { kind = kind; from = p.from; to = p.to }) ∷ [] ] ++ others)
  by_kind piece.Space e = fit
  by_kind piece.Comment e = fit
  by_kind (piece.Token kind) e = (
    record {
      some = c.stands.forward;
      within = c.stands.within;
      short = λ w. c.short (e ∙ piece_of kind token.Word w);
      run = λ w. subst (λ (k : PieceKind). IsOf k (slice_range text p.from p.to)) (e ∙ piece_of kind token.Word w) c.stands.is;
      uuid = λ u. subst (λ (k : PieceKind). IsOf k (slice_range text p.from p.to)) (e ∙ piece_of kind token.Uuid u) c.stands.is;
    },
    fit,
  )

fit_pieces : (text : List ℕ) (from : ℕ) (ps : List Piece) (to : ℕ) → AreCut text from ps to → AreFit text (flat_map token_of ps)
fit_pieces text from [] to cut = tt
fit_pieces text from (p ∷ ps) to cut = fit_piece text p cut.1 (flat_map token_of ps) (fit_pieces text p.to ps to cut.2)

pub tokens_fit : (text : List ℕ) (tokens : List Token) → AreTokens text tokens → AreFit text tokens
tokens_fit text tokens are = subst (λ (ts : List Token). AreFit text ts) (sym are.are) (fit_pieces text 0 are.pieces (length text) are.cut)

-- how many octets a word has
pub word_size : (text : List ℕ) (t : Token) → IsFit text t → t.kind ≡ token.Word
    → (1 ≤ length (slice_range text t.from t.to)) × (length (slice_range text t.from t.to) ≤ 31)
word_size text t fit word =
    let size : length (slice_range text t.from t.to) ≡ t.to - t.from = range_length text t.from t.to fit.within in
    let some : t.from < t.to = fit.some in
    let short : t.to ≤ t.from + 31 = fit.short word in
    (omega arith, omega arith)

-- ## Words are identifiers

all_word_octets : (cs : List ℕ) → ((k : ℕ) → k < length cs → is_word_octet (slice_index cs k) ≡ true) → list_all is_word_octet cs ≡ true
all_word_octets [] each = refl
all_word_octets (c ∷ cs) each = both_true (each 0 (omega arith)) (all_word_octets cs (λ k lt. each (suc k) (omega (arith, lt))))

run_is_word : (cs : List ℕ) → IsRun is_letter cs → is_word cs ≡ true
run_is_word [] r = absurd (omega (arith, r.some))
run_is_word (c ∷ cs) r = both_true r.begins (all_word_octets cs (λ k lt. r.each (suc k) (omega (arith, lt))))

formed : (text : List ℕ) (t : Token) → IsFit text t → IsFormed text t
formed text t fit = record {
  word = λ w. both_true (run_is_word (slice_range text t.from t.to) (fit.run w)) (le-leb (length (slice_range text t.from t.to)) 31 (word_size text t fit w).1);
  uuid = fit.uuid;
}

all_formed : (text : List ℕ) (tokens : List Token) → AreFit text tokens → AllByRecursion (IsFormed text) tokens
all_formed text [] fit = tt
all_formed text (t ∷ tokens) fit = (formed text t fit.0, all_formed text tokens fit.1)

pub tokens_formed : (text : List ℕ) (tokens : List Token) → AreTokens text tokens → AreFormed (record { text = text; tokens = tokens })
tokens_formed text tokens are = all_formed text tokens (tokens_fit text tokens are)
