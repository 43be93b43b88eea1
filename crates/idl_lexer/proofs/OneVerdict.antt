-- At most one verdict is right, so each is answered exactly where it is.
use Rattle.std.proofs.Common.{◌≡◌, ℕ, ◌+◌, ◌<◌, ◌≤◌, Bool, true, false, ◌⊎◌, inl, inr, List, [], ◌∷◌, ◌++◌, length, refl, sym, ap, subst, arith, ◌∙◌, append_assoc}
use Rattle.std.proofs.Math.Decide.{dec_lt}
use Rattle.std.specs.Prelude.{slice_index, slice_range, is_some, Result, Ok, Err, IfOk, IfErr}
use Rattle.std.specs.List.{flat_map}
use Rattle.idl_lexer.specs.declared.tokens.TokenKind.TheVariants as token
use Rattle.idl_lexer.specs.declared.tokens.LexKind.{LexKind}
use Rattle.idl_lexer.specs.declared.tokens.LexKind.TheVariants as fault
use Rattle.idl_lexer.specs.declared.tokens.Token.{Token}
use Rattle.idl_lexer.specs.declared.cut.Piece.{Piece}
use Rattle.idl_lexer.specs.declared.cut.PieceKind.{PieceKind}
use Rattle.idl_lexer.specs.declared.cut.PieceKind.TheVariants as piece
use Rattle.nd_base.specs.Text.{is_letter, is_digit, is_word_octet}
use Rattle.idl_lexer.specs.Pieces.{is_mark_octet, number_of, IsRun, IsUuid, IsComment, IsOf, is_mark}
use Rattle.idl_lexer.specs.Verdict.{IsLongest, IsCut, OpensComment, IsRefused, Begins, IsStuck, IsBadOctet, IsOpenText, AreCut, token_of, AreTokens, IsFirstFault, IsVerdict, IsFault, Answers, Verdict}
use Rattle.idl_lexer.specs.Verdict.{Cut, Refused, Lexed}
use Rattle.idl_lexer.specs.declared.tokens.LexFault.{LexFault}
use Rattle.idl_lexer.specs.declared.tokens.LexFault.TheVariants as errors
use Rattle.idl_lexer.proofs.Ranges.{range_split, range_one, range_first}
use Rattle.idl_lexer.proofs.FirstOctets.{may_begin, begins, IsRunKind, word_kind, space_kind, string_kind, char_kind, mark_kind, hex_word, letter_no_digit, equal_octets}
use Rattle.std.proofs.lemmas.Bool.{or_left, or_right}
use Rattle.nd_lemmas.proofs.Booleans.{clash}
use Rattle.idl_lexer.proofs.Cuts.{mark_size}

-- ## octets have one kind

dash_is_none : (first : ℕ → Bool) (octets : List ℕ) → IsRun first octets → IsUuid octets → ⊥
dash_is_none first octets run uuid =
    clash (is_word_octet 45) (sym (ap is_word_octet (equal_octets (slice_index octets 8) 45 (uuid.each 8 (omega arith)))) ∙ run.each 8 (omega (arith, uuid.long))) refl

word_alone : (k : PieceKind) (octets : List ℕ) → IsRunKind k → IsRun is_letter octets → IsOf k octets → k ≡ piece.Token token.Word
word_alone (piece.Token token.Word) octets r w o = refl
word_alone (piece.Token token.Number) octets r w o = absurd (letter_no_digit (slice_index octets 0) w.begins o.begins)
word_alone (piece.Token token.Uuid) octets r w o = absurd (dash_is_none is_letter octets w o)
word_alone piece.Space octets r w o = absurd r
word_alone piece.Comment octets r w o = absurd r
word_alone (piece.Token token.Char) octets r w o = absurd r
word_alone (piece.Token token.Str) octets r w o = absurd r
word_alone (piece.Token token.Mark) octets r w o = absurd r

number_alone : (k : PieceKind) (octets : List ℕ) → IsRunKind k → IsRun is_digit octets → IsOf k octets → k ≡ piece.Token token.Number
number_alone (piece.Token token.Word) octets r w o = absurd (letter_no_digit (slice_index octets 0) o.begins w.begins)
number_alone (piece.Token token.Number) octets r w o = refl
number_alone (piece.Token token.Uuid) octets r w o = absurd (dash_is_none is_digit octets w o)
number_alone piece.Space octets r w o = absurd r
number_alone piece.Comment octets r w o = absurd r
number_alone (piece.Token token.Char) octets r w o = absurd r
number_alone (piece.Token token.Str) octets r w o = absurd r
number_alone (piece.Token token.Mark) octets r w o = absurd r

uuid_alone : (k : PieceKind) (octets : List ℕ) → IsRunKind k → IsUuid octets → IsOf k octets → k ≡ piece.Token token.Uuid
uuid_alone (piece.Token token.Word) octets r w o = absurd (dash_is_none is_letter octets o w)
uuid_alone (piece.Token token.Number) octets r w o = absurd (dash_is_none is_digit octets o w)
uuid_alone (piece.Token token.Uuid) octets r w o = refl
uuid_alone piece.Space octets r w o = absurd r
uuid_alone piece.Comment octets r w o = absurd r
uuid_alone (piece.Token token.Char) octets r w o = absurd r
uuid_alone (piece.Token token.Str) octets r w o = absurd r
uuid_alone (piece.Token token.Mark) octets r w o = absurd r

comment_no_mark : (octets : List ℕ) → IsComment octets → is_mark octets ≡ true → ⊥
comment_no_mark octets c m = omega (arith, c.long, mark_size octets m)

mark_or_comment : (k : PieceKind) (octets : List ℕ) → is_mark_octet (slice_index octets 0) ≡ true → IsOf k octets → (k ≡ piece.Comment) ⊎ (k ≡ piece.Token token.Mark)
mark_or_comment k octets m o = elim (mark_kind k (slice_index octets 0) m (begins k octets o)) as (λ _. (k ≡ piece.Comment) ⊎ (k ≡ piece.Token token.Mark)) [ inl c ↦ inl c.0 | inr e ↦ inr e ]

one_kind : (j k : PieceKind) (octets : List ℕ) → IsOf j octets → IsOf k octets → k ≡ j
one_kind piece.Space k octets a b = space_kind k (slice_index octets 0) a.1 (begins k octets b)
one_kind piece.Comment k octets a b =
    elim (mark_or_comment k octets (ap is_mark_octet a.opens.0) b) as (λ _. k ≡ piece.Comment) [
      | inl e ↦ e
      | inr e ↦ absurd (comment_no_mark octets a (subst (λ (l : PieceKind). IsOf l octets) e b))
    ]
one_kind (piece.Token token.Word) k octets a b =
    word_alone k octets (word_kind k (slice_index octets 0) (or_left (is_letter (slice_index octets 0)) (is_digit (slice_index octets 0)) a.begins) (begins k octets b)) a b
one_kind (piece.Token token.Number) k octets a b =
    number_alone k octets (word_kind k (slice_index octets 0) (or_right (is_letter (slice_index octets 0)) (is_digit (slice_index octets 0)) a.begins) (begins k octets b)) a b
one_kind (piece.Token token.Uuid) k octets a b = uuid_alone k octets (word_kind k (slice_index octets 0) (hex_word (slice_index octets 0) (a.each 0 (omega arith))) (begins k octets b)) a b
one_kind (piece.Token token.Char) k octets a b = char_kind k (ap (may_begin k) (sym (equal_octets (slice_index octets 0) 39 (begins (piece.Token token.Char) octets a))) ∙ begins k octets b)
one_kind (piece.Token token.Str) k octets a b = string_kind k (ap (may_begin k) (sym (equal_octets (slice_index octets 0) 34 (begins (piece.Token token.Str) octets a))) ∙ begins k octets b)
one_kind (piece.Token token.Mark) k octets a b =
    elim (mark_or_comment k octets (begins (piece.Token token.Mark) octets a) b) as (λ _. k ≡ piece.Token token.Mark) [
      | inl e ↦ absurd (comment_no_mark octets (subst (λ (l : PieceKind). IsOf l octets) e b) a)
      | inr e ↦ e
    ]

-- ## one piece at a place

same_end : (text : List ℕ) (j k : PieceKind) (from a b : ℕ) → IsLongest text j from a → IsLongest text k from b → b ≡ a
same_end text j k from a b x y = omega (arith, x.longest k b y.within y.is, y.longest j a x.within x.is)

same_kind : (text : List ℕ) (j k : PieceKind) (from a b : ℕ) → IsLongest text j from a → IsLongest text k from b → k ≡ j
same_kind text j k from a b x y =
    one_kind j k (slice_range text from a) x.is (subst (λ (n : ℕ). IsOf k (slice_range text from n)) (same_end text j k from a b x y) y.is)

longest_from : (text : List ℕ) (p : Piece) (from : ℕ) → p.from ≡ from → IsCut text p → IsLongest text p.kind from p.to
longest_from text p from e c = subst (λ (n : ℕ). IsLongest text p.kind n p.to) e c.stands

abbrev piece_of : PieceKind → ℕ → ℕ → Piece
piece_of kind from to = record { kind = kind; from = from; to = to }

same_piece : (p q : Piece) → p.kind ≡ q.kind → p.from ≡ q.from → p.to ≡ q.to → p ≡ q
same_piece p q a b c =
    ap (λ (k : PieceKind). piece_of k p.from p.to) a ∙ (ap (λ (n : ℕ). piece_of q.kind n p.to) b ∙ ap (λ (n : ℕ). piece_of q.kind q.from n) c)

cut_alone : (text : List ℕ) (p q : Piece) (from : ℕ) → p.from ≡ from → q.from ≡ from → IsCut text p → IsCut text q → p ≡ q
cut_alone text p q from a b x y =
    let l = longest_from text p from a x in
    let m = longest_from text q from b y in
    same_piece p q (same_kind text q.kind p.kind from q.to p.to m l) (a ∙ sym b) (same_end text q.kind p.kind from q.to p.to m l)

-- a slash stands alone too
slash_stands : (text : List ℕ) (from : ℕ) → from < length text → OpensComment text from → IsOf (piece.Token token.Mark) (slice_range text from (from + 1))
slash_stands text from lt o = ap is_mark (range_one text from lt) ∙ ap is_mark_octet o.0

no_cut_where_refused : (text : List ℕ) (from at : ℕ) (kind : LexKind) → IsRefused text from at kind → (p : Piece) → p.from ≡ from → IsCut text p → ⊥
no_cut_where_refused text from at fault.BadOctet r p e c = let l = longest_from text p from e c in r.stuck p.kind p.to l.within l.is
no_cut_where_refused text from at fault.OpenText r p e c = let l = longest_from text p from e c in r.1.stuck p.kind p.to l.within l.is
no_cut_where_refused text from at fault.OpenComment r p e c =
    let l = longest_from text p from e c in
    let k : p.kind ≡ piece.Comment = c.comment (subst (λ (n : ℕ). OpensComment text n) (sym e) r.1) in
    r.2 p.to l.within (subst (λ (j : PieceKind). IsOf j (slice_range text from p.to)) k l.is)
no_cut_where_refused text from at fault.LongName r p e c =
    let l = longest_from text p from e c in
    let k = same_kind text (piece.Token token.Word) p.kind from r.1.0 p.to r.1.1 l in
    let n = same_end text (piece.Token token.Word) p.kind from r.1.0 p.to r.1.1 l in
    omega (arith, c.short k, n, r.1.2, e)
no_cut_where_refused text from at fault.BadNumber r p e c =
    let l = longest_from text p from e c in
    let k = same_kind text (piece.Token token.Number) p.kind from r.1.0 p.to r.1.1 l in
    let n = same_end text (piece.Token token.Number) p.kind from r.1.0 p.to r.1.1 l in
    clash (is_some (number_of (slice_range text from r.1.0)))
    (sym (ap (λ (i : ℕ). is_some (number_of (slice_range text i p.to))) e ∙ ap (λ (i : ℕ). is_some (number_of (slice_range text from i))) n) ∙ c.number k) r.1.2
no_cut_where_refused text from at fault.TooLong r p e c = r

-- ## one refusal at a place

fewer : (text : List ℕ) (from a b : ℕ) → from ≤ a → a ≤ b → Begins (slice_range text from b) → Begins (slice_range text from a)
fewer text from a b h le x = (
  x.0,
  slice_range text a b ++ x.1,
  subst (λ (l : List ℕ). IsOf x.0 l) (ap (λ (l : List ℕ). l ++ x.1) (range_split text from a b h le) ∙ append_assoc (slice_range text from a) (slice_range text a b) x.1) x.2,
)

not_before : (text : List ℕ) (from a b : ℕ) → IsBadOctet text from a → IsBadOctet text from b → a < b → ⊥
not_before text from a b x y lt = x.ends (fewer text from (a + 1) b (omega (arith, x.after)) (omega arith) y.begins)

same_bad : (text : List ℕ) (from a b : ℕ) → IsBadOctet text from a → IsBadOctet text from b → b ≡ a
same_bad text from a b x y = elim (dec_lt a b) as (λ _. b ≡ a) [
  | yes lt ↦ absurd (not_before text from a b x y lt)
  | no ge ↦ elim (dec_lt b a) as (λ _. b ≡ a) [ yes lt ↦ absurd (not_before text from b a y x lt) | no le ↦ omega arith ]
]

bad_no_open : (text : List ℕ) (from at : ℕ) → IsBadOctet text from at → IsOpenText text from → ⊥
bad_no_open text from at b o = elim (dec_lt at o.stop) as (λ _. ⊥) [
  | yes lt ↦ b.ends (fewer text from (at + 1) o.stop (omega (arith, b.after)) (omega arith) o.begins)
  | no ge ↦ elim o.ended as (λ _. ⊥) [ inl e ↦ omega (arith, b.within) | inr e ↦ b.one_line o.stop (omega (arith, o.after)) (omega arith) e ]
]

stuck_no_longest : (text : List ℕ) (from to : ℕ) (kind : PieceKind) → IsStuck text from → IsLongest text kind from to → ⊥
stuck_no_longest text from to kind s l = s kind to l.within l.is

stuck_no_comment : (text : List ℕ) (from : ℕ) → from < length text → IsStuck text from → OpensComment text from → ⊥
stuck_no_comment text from lt s o = s (piece.Token token.Mark) (from + 1) (omega arith) (slash_stands text from lt o)

run_no_comment : (text : List ℕ) (from to : ℕ) (first : ℕ → Bool) (kind : PieceKind) → first 47 ≡ false → IsLongest text kind from to → IsRun first (slice_range text from to) → OpensComment text from
    → ⊥
run_no_comment text from to first kind none l r o =
    clash (first 47) (sym (ap first (range_first text from to l.forward ∙ o.0)) ∙ r.begins) none

abbrev Fault : Type 0
Fault = ℕ × LexKind

one_refusal : (text : List ℕ) (from : ℕ) → from < length text → (a : ℕ) (j : LexKind) (b : ℕ) (k : LexKind) → IsRefused text from a j → IsRefused text from b k → ◌≡◌ {A = Fault} (b, k) (a, j)
one_refusal text from lt a fault.TooLong b k x y = absurd x
one_refusal text from lt a fault.BadOctet b fault.BadOctet x y = ap (λ (n : ℕ). (n, fault.BadOctet)) (same_bad text from a b x y)
one_refusal text from lt a fault.BadOctet b fault.OpenText x y = absurd (bad_no_open text from a x y.1)
one_refusal text from lt a fault.BadOctet b fault.OpenComment x y = absurd (stuck_no_comment text from lt x.stuck y.1)
one_refusal text from lt a fault.BadOctet b fault.LongName x y = absurd (stuck_no_longest text from y.1.0 (piece.Token token.Word) x.stuck y.1.1)
one_refusal text from lt a fault.BadOctet b fault.BadNumber x y = absurd (stuck_no_longest text from y.1.0 (piece.Token token.Number) x.stuck y.1.1)
one_refusal text from lt a fault.BadOctet b fault.TooLong x y = absurd y
one_refusal text from lt a fault.OpenText b fault.BadOctet x y = absurd (bad_no_open text from b y x.1)
one_refusal text from lt a fault.OpenText b fault.OpenText x y = ap (λ (n : ℕ). (n, fault.OpenText)) (y.0 ∙ sym x.0)
one_refusal text from lt a fault.OpenText b fault.OpenComment x y = absurd (stuck_no_comment text from lt x.1.stuck y.1)
one_refusal text from lt a fault.OpenText b fault.LongName x y = absurd (stuck_no_longest text from y.1.0 (piece.Token token.Word) x.1.stuck y.1.1)
one_refusal text from lt a fault.OpenText b fault.BadNumber x y = absurd (stuck_no_longest text from y.1.0 (piece.Token token.Number) x.1.stuck y.1.1)
one_refusal text from lt a fault.OpenText b fault.TooLong x y = absurd y
one_refusal text from lt a fault.OpenComment b fault.BadOctet x y = absurd (stuck_no_comment text from lt y.stuck x.1)
one_refusal text from lt a fault.OpenComment b fault.OpenText x y = absurd (stuck_no_comment text from lt y.1.stuck x.1)
one_refusal text from lt a fault.OpenComment b fault.OpenComment x y = ap (λ (n : ℕ). (n, fault.OpenComment)) (y.0 ∙ sym x.0)
one_refusal text from lt a fault.OpenComment b fault.LongName x y = absurd (run_no_comment text from y.1.0 is_letter (piece.Token token.Word) refl y.1.1 y.1.1.is x.1)
one_refusal text from lt a fault.OpenComment b fault.BadNumber x y = absurd (run_no_comment text from y.1.0 is_digit (piece.Token token.Number) refl y.1.1 y.1.1.is x.1)
one_refusal text from lt a fault.OpenComment b fault.TooLong x y = absurd y
one_refusal text from lt a fault.LongName b fault.BadOctet x y = absurd (stuck_no_longest text from x.1.0 (piece.Token token.Word) y.stuck x.1.1)
one_refusal text from lt a fault.LongName b fault.OpenText x y = absurd (stuck_no_longest text from x.1.0 (piece.Token token.Word) y.1.stuck x.1.1)
one_refusal text from lt a fault.LongName b fault.OpenComment x y = absurd (run_no_comment text from x.1.0 is_letter (piece.Token token.Word) refl x.1.1 x.1.1.is y.1)
one_refusal text from lt a fault.LongName b fault.LongName x y = ap (λ (n : ℕ). (n, fault.LongName)) (y.0 ∙ sym x.0)
one_refusal text from lt a fault.LongName b fault.BadNumber x y =
    absurd (let e = same_kind text (piece.Token token.Word) (piece.Token token.Number) from x.1.0 y.1.0 x.1.1 y.1.1 in cc)
one_refusal text from lt a fault.LongName b fault.TooLong x y = absurd y
one_refusal text from lt a fault.BadNumber b fault.BadOctet x y = absurd (stuck_no_longest text from x.1.0 (piece.Token token.Number) y.stuck x.1.1)
one_refusal text from lt a fault.BadNumber b fault.OpenText x y = absurd (stuck_no_longest text from x.1.0 (piece.Token token.Number) y.1.stuck x.1.1)
one_refusal text from lt a fault.BadNumber b fault.OpenComment x y = absurd (run_no_comment text from x.1.0 is_digit (piece.Token token.Number) refl x.1.1 x.1.1.is y.1)
one_refusal text from lt a fault.BadNumber b fault.LongName x y =
    absurd (let e = same_kind text (piece.Token token.Number) (piece.Token token.Word) from x.1.0 y.1.0 x.1.1 y.1.1 in cc)
one_refusal text from lt a fault.BadNumber b fault.BadNumber x y = ap (λ (n : ℕ). (n, fault.BadNumber)) (y.0 ∙ sym x.0)
one_refusal text from lt a fault.BadNumber b fault.TooLong x y = absurd y

-- ## one way to cut a text

abbrev NoCut : List ℕ → ℕ → Type 0
NoCut text at = (p : Piece) → p.from ≡ at → IsCut text p → ⊥

no_cut_at_end : (text : List ℕ) → NoCut text (length text)
no_cut_at_end text p e c = omega (arith, c.stands.forward, c.stands.within, e)

pieces_alone : (text : List ℕ) (from : ℕ) (ps qs : List Piece) (a b : ℕ) → AreCut text from ps a → AreCut text from qs b → NoCut text a → NoCut text b → (qs ≡ ps) × (b ≡ a)
pieces_alone text from [] [] a b x y m n = (refl, y ∙ sym x)
pieces_alone text from [] (q ∷ qs) a b x y m n = absurd (m q (y.0 ∙ sym x) y.1)
pieces_alone text from (p ∷ ps) [] a b x y m n = absurd (n p (x.0 ∙ sym y) x.1)
pieces_alone text from (p ∷ ps) (q ∷ qs) a b x y m n =
    let e : q ≡ p = cut_alone text q p from y.0 x.0 y.1 x.1 in
    let r = pieces_alone text p.to ps qs a b x.2 (subst (λ (n : ℕ). AreCut text n qs b) (ap (λ (l : Piece). l.to) e) y.2) m n in
    (ap (λ (l : Piece). l ∷ qs) e ∙ ap (λ (l : List Piece). p ∷ l) r.0, r.1)

tokens_alone : (text : List ℕ) (a b : List Token) → AreTokens text a → AreTokens text b → b ≡ a
tokens_alone text a b x y =
    let e = pieces_alone text 0 x.pieces y.pieces (length text) (length text) x.cut y.cut (no_cut_at_end text) (no_cut_at_end text) in
    y.are ∙ (ap (λ (l : List Piece). flat_map token_of l) e.0 ∙ sym x.are)

no_fault_in_tokens : (text : List ℕ) (tokens : List Token) (at : ℕ) (kind : LexKind) → AreTokens text tokens → IsFirstFault text at kind → ⊥
no_fault_in_tokens text tokens at kind x y =
    let e = pieces_alone text 0 x.pieces y.pieces (length text) y.from x.cut y.cut (no_cut_at_end text) (no_cut_where_refused text y.from at kind y.refused) in
    omega (arith, e.1, y.within)

fault_alone : (text : List ℕ) (a : ℕ) (j : LexKind) (b : ℕ) (k : LexKind) → IsFirstFault text a j → IsFirstFault text b k → ◌≡◌ {A = Fault} (b, k) (a, j)
fault_alone text a j b k x y =
    let e = pieces_alone text 0 x.pieces y.pieces x.from y.from x.cut y.cut (no_cut_where_refused text x.from a j x.refused) (no_cut_where_refused text y.from b k y.refused) in
    one_refusal text x.from x.within a j b k x.refused (subst (λ (n : ℕ). IsRefused text n b k) e.1 y.refused)

-- ## one verdict

-- a refusal is of a text that is too long, or a first fault
abbrev Cause : List ℕ → ℕ → LexKind → Type 0
Cause text at kind = ((1048576 < length text) × (at ≡ 1048576) × (kind ≡ fault.TooLong)) ⊎ IsFirstFault text at kind

cause_of : (text : List ℕ) (at : ℕ) (kind : LexKind) → IsVerdict text (Refused at kind) → Cause text at kind
cause_of text at fault.BadOctet v = inr v
cause_of text at fault.OpenComment v = inr v
cause_of text at fault.OpenText v = inr v
cause_of text at fault.LongName v = inr v
cause_of text at fault.BadNumber v = inr v
cause_of text at fault.TooLong v = inl (v.0, v.1, refl)

refused_alone : (text : List ℕ) (a : ℕ) (j : LexKind) (b : ℕ) (k : LexKind) → Cause text a j → Cause text b k → ◌≡◌ {A = Fault} (b, k) (a, j)
refused_alone text a j b k (inl x) (inl y) = pair (y.1 ∙ sym x.1) (y.2 ∙ sym x.2) where
  pair : b ≡ a → k ≡ j → ◌≡◌ {A = Fault} (b, k) (a, j)
  pair p q = cc
refused_alone text a j b k (inl x) (inr y) = absurd (omega (arith, x.0, y.short))
refused_alone text a j b k (inr x) (inl y) = absurd (omega (arith, y.0, x.short))
refused_alone text a j b k (inr x) (inr y) = fault_alone text a j b k x y

cut_and_refused : (text : List ℕ) (tokens : List Token) (at : ℕ) (kind : LexKind) → AreTokens text tokens → Cause text at kind → ⊥
cut_and_refused text tokens at kind x (inl y) = omega (arith, y.0, x.short)
cut_and_refused text tokens at kind x (inr y) = no_fault_in_tokens text tokens at kind x y

pub one_verdict : (text : List ℕ) (w v : Verdict) → IsVerdict text w → IsVerdict text v → v ≡ w
one_verdict text (Cut a) (Cut b) x y = ap (λ (l : List Token). Cut l) (tokens_alone text a b x y)
one_verdict text (Cut a) (Refused at kind) x y = absurd (cut_and_refused text a at kind x (cause_of text at kind y))
one_verdict text (Refused at kind) (Cut a) x y = absurd (cut_and_refused text a at kind y (cause_of text at kind x))
one_verdict text (Refused a j) (Refused b k) x y = ap (λ (f : Fault). Refused f.0 f.1) (refused_alone text a j b k (cause_of text a j x) (cause_of text b k y))

-- ## what is answered is the one verdict

pub only_answer : (text : List ℕ) (r : Result Lexed LexFault) → IfOk r (λ t. AreTokens text t.tokens) → IfErr r (λ e. IsFault text e) → (v : Verdict) → IsVerdict text v → Answers v r
only_answer text (Ok t) ok err v is = one_verdict text (Cut t.tokens) v ok is
only_answer text (Err errors.Memory) ok err v is = tt
only_answer text (Err (errors.At at kind)) ok err v is = one_verdict text (Refused at kind) v err is
