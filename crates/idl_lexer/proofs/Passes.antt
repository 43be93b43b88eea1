-- The pass over a text.
use Rattle.std.proofs.Common.{◌≡◌, ℕ, ◌<◌, ◌≤◌, List, [], ◌∷◌, ◌++◌, length, refl, sym, ap, subst, arith, ◌∙◌, length-append, append-nil}
use Rattle.std.specs.List.{flat_map, All}
use Rattle.std.proofs.lemmas.Grind.{flat_map-append}
use Rattle.std.proofs.lemmas.List.Elements.{All-append, All-push}
use Rattle.idl_lexer.specs.declared.tokens.LexKind.{LexKind}
use Rattle.idl_lexer.specs.declared.tokens.LexKind.TheVariants as fault
use Rattle.idl_lexer.specs.declared.tokens.Token.{Token}
use Rattle.idl_lexer.specs.declared.cut.Piece.{Piece}
use Rattle.idl_lexer.specs.declared.cut.PieceKind.{PieceKind}
use Rattle.idl_lexer.specs.declared.cut.PieceKind.TheVariants as piece
use Rattle.idl_lexer.specs.Verdict.{IsCut, IsRefused, AreWithin, AreCut, token_of, AreTokens, IsFirstFault, IsVerdict, Refused, text_limit}

one_more : (text : List ℕ) (from : ℕ) (ps : List Piece) (at : ℕ) (p : Piece) → AreCut text from ps at → p.from ≡ at → IsCut text p → AreCut text from (ps ++ p ∷ []) p.to
one_more text from [] at p cut here is = (here ∙ cut, is, refl)
one_more text from (q ∷ ps) at p cut here is = (cut.0, cut.1, one_more text q.to ps at p cut.2 here is)

-- the pieces so far, of which the tokens are kept
pub record SoFar (text : List ℕ) (tokens : List Token) (at : ℕ) : Type 0 where
  pub pieces : List Piece
  pub cut : AreCut text 0 pieces at
  pub are : tokens ≡ flat_map token_of pieces
  pub within : at ≤ length text
  pub few : length tokens ≤ at
  pub each : All (λ (t : Token). (t.from ≤ t.to) × (t.to ≤ length text)) tokens

pub nothing_yet : (text : List ℕ) → SoFar text [] 0
nothing_yet text = record { pieces = []; cut = refl; are = refl; within = omega arith; few = omega arith; each = λ k d lt. absurd (omega arith) }

few_tokens : (p : Piece) → length (token_of p) ≤ 1
few_tokens p = by_kind p.kind where
  by_kind : (k : PieceKind) → length (elim k as (λ _. List Token) [ piece.Space ↦ [] | piece.Comment ↦ [] | piece.Token kind ↦ (record { kind = kind; from = p.from; to = p.to }) ∷ [] ]) ≤ 1
  by_kind piece.Space = omega arith
  by_kind piece.Comment = omega arith
  by_kind (piece.Token kind) = omega arith

token_within : (text : List ℕ) (p : Piece) → p.from ≤ p.to → p.to ≤ length text → All (λ (t : Token). (t.from ≤ t.to) × (t.to ≤ length text)) (token_of p)
token_within text p after within = by_kind p.kind where
  by_kind : (k : PieceKind)
      → All (λ (t : Token). (t.from ≤ t.to) × (t.to ≤ length text))
      (elim k as (λ _. List Token) [ piece.Space ↦ [] | piece.Comment ↦ [] | piece.Token kind ↦ (record { kind = kind; from = p.from; to = p.to }) ∷ [] ])
  by_kind piece.Space = λ k d lt. absurd (omega arith)
  by_kind piece.Comment = λ k d lt. absurd (omega arith)
  by_kind (piece.Token kind) = All-push (λ (t : Token). (t.from ≤ t.to) × (t.to ≤ length text)) [] (record { kind = kind; from = p.from; to = p.to }) (λ k d lt. absurd (omega arith)) (after, within)

pub one_piece : (text : List ℕ) (tokens : List Token) (at : ℕ) (p : Piece) → SoFar text tokens at → IsCut text p × (p.from ≡ at) → SoFar text (tokens ++ token_of p) p.to
one_piece text tokens at p s cut = record {
  pieces = s.pieces ++ p ∷ [];
  cut = one_more text 0 s.pieces at p s.cut cut.1 cut.0;
  are = ap (λ (l : List Token). l ++ token_of p) s.are ∙ sym (flat_map-append token_of s.pieces (p ∷ []) ∙ ap (λ (l : List Token). flat_map token_of s.pieces ++ l) (append-nil (token_of p)));
  within = cut.0.stands.within;
  few = omega (arith, length-append tokens (token_of p), few_tokens p, s.few, cut.0.stands.forward, cut.1);
  each = All-append (λ (t : Token). (t.from ≤ t.to) × (t.to ≤ length text)) tokens (token_of p) s.each (token_within text p (omega (arith, cut.0.stands.forward)) cut.0.stands.within);
}

pub all_tokens : (text : List ℕ) (tokens : List Token) (at : ℕ) → SoFar text tokens at → length text ≤ at → length text ≤ text_limit → AreTokens text tokens
all_tokens text tokens at s past short =
    let e : at ≡ length text = omega (arith, s.within) in
    record { short = short; pieces = s.pieces; cut = subst (λ (k : ℕ). AreCut text 0 s.pieces k) e s.cut; are = s.are }

pub all_within : (text : List ℕ) (tokens : List Token) (at : ℕ) → SoFar text tokens at → length text ≤ text_limit → AreWithin text tokens
all_within text tokens at s short = record { short = short; few = omega (arith, s.few, s.within); each = s.each }

refused_verdict : (text : List ℕ) (at : ℕ) (kind : LexKind) → IsFirstFault text at kind → IsVerdict text (Refused at kind)
refused_verdict text at fault.BadOctet f = f
refused_verdict text at fault.OpenComment f = f
refused_verdict text at fault.OpenText f = f
refused_verdict text at fault.LongName f = f
refused_verdict text at fault.BadNumber f = f
refused_verdict text at fault.TooLong f = absurd f.refused

pub refused_there : (text : List ℕ) (tokens : List Token) (from at : ℕ) (kind : LexKind) → SoFar text tokens from → from < length text → length text ≤ text_limit → IsRefused text from at kind
    → IsVerdict text (Refused at kind)
refused_there text tokens from at kind s lt short r = refused_verdict text at kind (record { short = short; from = from; within = lt; pieces = s.pieces; cut = s.cut; refused = r })

-- what is refused is refused in the text
pub refused_within : (text : List ℕ) (from at : ℕ) (kind : LexKind) → from < length text → IsRefused text from at kind → at < length text
refused_within text from at fault.BadOctet lt r = r.within
refused_within text from at fault.OpenComment lt r = omega (arith, r.0)
refused_within text from at fault.OpenText lt r = omega (arith, r.0)
refused_within text from at fault.LongName lt r = omega (arith, r.0)
refused_within text from at fault.BadNumber lt r = omega (arith, r.0)
refused_within text from at fault.TooLong lt r = absurd r
