-- A text has one fault at most.
use Rattle.std.proofs.Common.{◌≡◌, ℕ, ◌<◌, List, length, refl, ap, sym, ◌∙◌, arith}
use Rattle.nd_base.specs.Text.{position_of}
use Rattle.nd_value.specs.declared.value.Graph.{Graph}
use Rattle.nd_value.specs.Setting.{Setting}
use Rattle.text_grammar.specs.declared.fault.TextReason.{TextReason}
use Rattle.text_grammar.specs.declared.fault.TextReason.TheVariants as reason
use Rattle.text_grammar.specs.declared.TheConstants.{TEXT_LIMIT}
use Rattle.text_grammar.specs.Tokens.{Token, Cell}
use Rattle.text_grammar.specs.Reads.{Lexeme, Cut, IsWhole, IsReason, IsFirstFault, IsTextFault}
use Rattle.text_grammar.proofs.OneText.{one_fault}
use Rattle.text_grammar.proofs.OneGraph.{tokens_one}

-- a fault that is not TooLong
record HasFault (w : Setting) (text : List ℕ) (line column : ℕ) (why : TextReason) : Type 0 where
  pub place : ℕ
  pub first : IsFirstFault w text place why
  pub position : position_of text place ≡ (line, column)

data Parted (w : Setting) (text : List ℕ) (line column : ℕ) (why : TextReason) : Type 0 where
  too_long : TEXT_LIMIT < length text → line ≡ 1 → column ≡ 1 → why ≡ reason.TooLong → Parted w text line column why
  has_fault : HasFault w text line column why → Parted w text line column why

parted : (w : Setting) (text : List ℕ) (line column : ℕ) (why : TextReason) → IsTextFault w text line column why → Parted w text line column why
parted w text line column reason.TooLong f = too_long f.0 f.1 f.2 refl
parted w text line column reason.BadToken f = has_fault (record { place = f.0; first = f.1; position = f.2 })
parted w text line column reason.Expected f = has_fault (record { place = f.0; first = f.1; position = f.2 })
parted w text line column reason.OtherName f = has_fault (record { place = f.0; first = f.1; position = f.2 })
parted w text line column reason.OutOfOrder f = has_fault (record { place = f.0; first = f.1; position = f.2 })
parted w text line column reason.Unnamed f = has_fault (record { place = f.0; first = f.1; position = f.2 })

module _ (w : Setting) where
  -- graphs with the same tokens have as many cells
  same_cells : (ts : List Token) (g h : Graph) → IsWhole w ts g → IsWhole w ts h → length g.cells ≡ length h.cells
  same_cells ts g h a b = ap (λ (x : Graph). length x.cells) (tokens_one w a.version b.version g h a.readable b.readable (a.tokens ∙ sym b.tokens))

  one_why : (ts : List Token) (n : Lexeme) (a b : TextReason) → IsReason w ts n a → IsReason w ts n b → a ≡ b
  one_why ts n reason.TooLong b h k = absurd h
  one_why ts n reason.BadToken reason.TooLong h k = absurd k
  one_why ts n reason.BadToken reason.BadToken h k = refl
  one_why ts n reason.BadToken reason.Expected h k = absurd (k.0 h)
  one_why ts n reason.BadToken reason.OtherName h k = let e = sym h ∙ k.1 in cc
  one_why ts n reason.BadToken reason.OutOfOrder h k = let e = sym h ∙ k.2 in cc
  one_why ts n reason.BadToken reason.Unnamed h k = let e = sym h ∙ k.2 in cc
  one_why ts n reason.Expected reason.TooLong h k = absurd k
  one_why ts n reason.Expected reason.BadToken h k = absurd (h.0 k)
  one_why ts n reason.Expected reason.Expected h k = refl
  one_why ts n reason.Expected reason.OtherName h k = absurd (h.1 k.0 k.1 k.2)
  one_why ts n reason.Expected reason.OutOfOrder h k = absurd (h.2 k.0 k.1 k.2 k.3)
  one_why ts n reason.Expected reason.Unnamed h k = absurd (h.2 k.0 k.1 k.2 k.3)
  one_why ts n reason.OtherName reason.TooLong h k = absurd k
  one_why ts n reason.OtherName reason.BadToken h k = let e = sym k ∙ h.1 in cc
  one_why ts n reason.OtherName reason.Expected h k = absurd (k.1 h.0 h.1 h.2)
  one_why ts n reason.OtherName reason.OtherName h k = refl
  one_why ts n reason.OtherName reason.OutOfOrder h k = let e = sym h.1 ∙ k.2 in cc
  one_why ts n reason.OtherName reason.Unnamed h k = let e = sym h.1 ∙ k.2 in cc
  one_why ts n reason.OutOfOrder reason.TooLong h k = absurd k
  one_why ts n reason.OutOfOrder reason.BadToken h k = let e = sym k ∙ h.2 in cc
  one_why ts n reason.OutOfOrder reason.Expected h k = absurd (k.2 h.0 h.1 h.2 h.3)
  one_why ts n reason.OutOfOrder reason.OtherName h k = let e = sym k.1 ∙ h.2 in cc
  one_why ts n reason.OutOfOrder reason.OutOfOrder h k = refl
  one_why ts n reason.OutOfOrder reason.Unnamed h k =
      let e : Cut (Cell h.0) ≡ Cut (Cell k.0) = sym h.2 ∙ k.2 in
      let f : h.0 ≡ k.0 = cc in
      absurd (h.4 (omega (arith, f, k.4, same_cells ts h.1 k.1 h.3 k.3)))
  one_why ts n reason.Unnamed reason.TooLong h k = absurd k
  one_why ts n reason.Unnamed reason.BadToken h k = let e = sym k ∙ h.2 in cc
  one_why ts n reason.Unnamed reason.Expected h k = absurd (k.2 h.0 h.1 h.2 h.3)
  one_why ts n reason.Unnamed reason.OtherName h k = let e = sym k.1 ∙ h.2 in cc
  one_why ts n reason.Unnamed reason.OutOfOrder h k =
      let e : Cut (Cell h.0) ≡ Cut (Cell k.0) = sym h.2 ∙ k.2 in
      let f : h.0 ≡ k.0 = cc in
      absurd (k.4 (omega (arith, f, h.4, same_cells ts h.1 k.1 h.3 k.3)))
  one_why ts n reason.Unnamed reason.Unnamed h k = refl

  pub one_text_fault : (text : List ℕ) (line line' column column' : ℕ) (why why' : TextReason) → IsTextFault w text line column why → IsTextFault w text line' column' why'
      → (line ≡ line') × (column ≡ column') × (why ≡ why')
  one_text_fault text line line' column column' why why' f g = by (parted w text line column why f) (parted w text line' column' why' g) where
    by : Parted w text line column why → Parted w text line' column' why' → (line ≡ line') × (column ≡ column') × (why ≡ why')
    by (too_long a l c r) (too_long b l' c' r') = (l ∙ sym l', c ∙ sym c', r ∙ sym r')
    by (too_long a l c r) (has_fault h) = absurd (omega (arith, a, h.first.short))
    by (has_fault h) (too_long b l c r) = absurd (omega (arith, b, h.first.short))
    by (has_fault h) (has_fault k) =
        let one = one_fault w text h.place k.place why why' h.first k.first in
        let e : (line, column) ≡ (line', column') = sym h.position ∙ ap (position_of text) one.places ∙ k.position in
        (ap (λ x. x.0) e, ap (λ x. x.1) e, one_why one.tokens one.next why why' one.reason one.reason')
