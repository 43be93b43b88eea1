-- What is at a place is the longest piece there.
use Rattle.std.proofs.Common.{◌≡◌, ℕ, ◌+◌, ◌-◌, ◌<◌, ◌≤◌, Bool, true, false, inl, inr, List, [], ◌∷◌, ◌++◌, length, refl, sym, ap, subst, arith, ◌∙◌}
use Rattle.std.proofs.Math.Decide.{dec_lt}
use Rattle.std.specs.Prelude.{slice_index, slice_range, eqb, IsSome, is_some, Option, Some, None}
use Rattle.nd_lemmas.proofs.Booleans.{clash}
use Rattle.idl_lexer.specs.declared.tokens.TokenKind.TheVariants as token
use Rattle.idl_lexer.specs.declared.tokens.LexKind.{LexKind}
use Rattle.idl_lexer.specs.declared.tokens.LexKind.TheVariants as fault
use Rattle.idl_lexer.specs.declared.cut.Refusal.{Refusal}
use Rattle.idl_lexer.specs.declared.cut.Piece.{Piece}
use Rattle.idl_lexer.specs.declared.cut.PieceKind.{PieceKind}
use Rattle.idl_lexer.specs.declared.cut.PieceKind.TheVariants as piece
use Rattle.nd_base.specs.Text.{is_letter, is_digit, is_hex_digit, is_word_octet}
use Rattle.idl_lexer.specs.Pieces.{is_space, is_mark_octet, are_mark, number_of, IsRun, IsUuid, IsComment, IsOf, is_mark}
use Rattle.idl_lexer.specs.Verdict.{IsLongest, IsCut, OpensComment, IsRefused}
use Rattle.idl_lexer.proofs.Ranges.{range_at, range_length, range_first, range_empty, range_cons, range_one}
use Rattle.idl_lexer.proofs.FirstOctets.{may_begin, begins, is_some as has_octets, word_kind, space_kind, mark_kind, nothing_begins, hex_word, equal_octets, IsRunKind}

-- what is there begins with the octet there
pub begins_at : (text : List ℕ) (from to : ℕ) (kind : PieceKind) → from < to → IsOf kind (slice_range text from to) → may_begin kind (slice_index text from) ≡ true
begins_at text from to kind lt is = ap (may_begin kind) (sym (range_first text from to lt)) ∙ begins kind (slice_range text from to) is

-- nothing is in an empty place
pub none_empty : (text : List ℕ) (from to : ℕ) (kind : PieceKind) → to ≤ from → IsOf kind (slice_range text from to) → ⊥
none_empty text from to kind le is =
    let some = has_octets kind (slice_range text from to) is in
    let e : length (slice_range text from to) ≡ 0 = ap (λ (l : List ℕ). length l) (range_empty text from to le) in
    omega arith

-- ## runs

module _ (text : List ℕ) (from to : ℕ) (in_text : from < length text) (after : from ≤ to) (within : to ≤ length text)
    (each : (k : ℕ) → from ≤ k → k < to → is_word_octet (slice_index text k) ≡ true)
    (stops : to < length text → is_word_octet (slice_index text to) ≡ false)
    (no_uuid : (n : ℕ) → n ≤ length text → IsUuid (slice_range text from n) → ⊥)
    (word : is_word_octet (slice_index text from) ≡ true) where
  forward : from < to
  forward = elim (dec_lt from to) as (λ _. from < to) [
    | yes lt ↦ lt
    | no ge ↦ let e : to ≡ from = omega arith in
        clash (is_word_octet (slice_index text from)) word (sym (ap (λ (k : ℕ). is_word_octet (slice_index text k)) e) ∙ stops (omega arith))
  ]

  is_run : (first : ℕ → Bool) → first (slice_index text from) ≡ true → IsRun first (slice_range text from to)
  is_run first h = record {
    some = omega (arith, forward, range_length text from to within);
    begins = ap first (range_first text from to forward) ∙ h;
    each = λ k lt.
        let size = range_length text from to within in
        ap is_word_octet (range_at text from to k (omega arith)) ∙ each (from + k) (omega arith) (omega arith);
  }

  past_run : (first : ℕ → Bool) (n : ℕ) → n ≤ length text → to < n → IsRun first (slice_range text from n) → ⊥
  past_run first n h lt is =
      let size = range_length text from n h in
      let here : from + (to - from) ≡ to = omega arith in
      let e = range_at text from n (to - from) (omega arith) ∙ ap (λ (k : ℕ). slice_index text k) here in
      clash (is_word_octet (slice_index text to)) (ap is_word_octet (sym e) ∙ is.each (to - from) (omega arith)) (stops (omega arith))

  past : (kind : PieceKind) (n : ℕ) → n ≤ length text → to < n → IsRunKind kind → IsOf kind (slice_range text from n) → ⊥
  past (piece.Token token.Word) n h lt k is = past_run is_letter n h lt is
  past (piece.Token token.Number) n h lt k is = past_run is_digit n h lt is
  past (piece.Token token.Uuid) n h lt k is = no_uuid n h is
  past piece.Space n h lt k is = k
  past piece.Comment n h lt k is = k
  past (piece.Token token.Char) n h lt k is = k
  past (piece.Token token.Str) n h lt k is = k
  past (piece.Token token.Mark) n h lt k is = k

  longest : (other : PieceKind) (n : ℕ) → n ≤ length text → IsOf other (slice_range text from n) → n ≤ to
  longest other n h is = elim (dec_lt to n) as (λ _. n ≤ to) [
    | yes lt ↦ absurd (past other n h lt (word_kind other (slice_index text from) word (begins_at text from n other (omega (arith, forward)) is)) is)
    | no ge ↦ omega arith
  ]

  pub longest_word : is_letter (slice_index text from) ≡ true → IsLongest text (piece.Token token.Word) from to
  longest_word h = record { forward = forward; within = within; is = is_run is_letter h; longest = longest }

  pub longest_number : is_letter (slice_index text from) ≡ false → IsLongest text (piece.Token token.Number) from to
  longest_number h = record { forward = forward; within = within; is = is_run is_digit (digit (is_letter (slice_index text from)) h word); longest = longest } where
    digit : (b : Bool) → b ≡ false → Rattle.std.specs.Prelude.◌||◌ b (is_digit (slice_index text from)) ≡ true → is_digit (slice_index text from) ≡ true
    digit true n w = clash true refl n
    digit false n w = w

  no_comment : OpensComment text from → ⊥
  no_comment h = clash (is_word_octet (slice_index text from)) word (ap is_word_octet h.0)

  pub word_cut : is_letter (slice_index text from) ≡ true → to ≤ from + 31 → IsCut text (record { kind = piece.Token token.Word; from = from; to = to })
  word_cut h short = record { stands = longest_word h; short = λ e. short; number = λ e. cc; comment = λ o. absurd (no_comment o) }

  pub number_cut : is_letter (slice_index text from) ≡ false → IsSome (number_of (slice_range text from to)) → IsCut text (record { kind = piece.Token token.Number; from = from; to = to })
  number_cut h number = record { stands = longest_number h; short = λ e. cc; number = λ e. number; comment = λ o. absurd (no_comment o) }

-- ## UUIDs

uuid_longest : (text : List ℕ) (from : ℕ) → from + 36 ≤ length text → IsUuid (slice_range text from (from + 36)) → (other : PieceKind) (n : ℕ) → n ≤ length text → IsOf other (slice_range text from n)
    → n ≤ from + 36
uuid_longest text from within is other n h o = elim (dec_lt (from + 36) n) as (λ _. n ≤ from + 36) [
  | yes lt ↦ absurd (past other lt (word_kind other (slice_index text from) word (begins_at text from n other (omega arith) o)) o)
  | no ge ↦ omega arith
] where
  word : is_word_octet (slice_index text from) ≡ true
  word = hex_word (slice_index text from) (ap is_hex_digit (sym (range_first text from (from + 36) (omega arith))) ∙ is.each 0 (omega arith))

  past_run : (first : ℕ → Bool) → from + 36 < n → IsRun first (slice_range text from n) → ⊥
  past_run first lt run =
      let size = range_length text from n h in
      let dash = equal_octets (slice_index (slice_range text from (from + 36)) 8) 45 (is.each 8 (omega arith)) in
      let e = range_at text from (from + 36) 8 (omega arith) in
      let d = range_at text from n 8 (omega arith) in
      clash (is_word_octet 45) (ap is_word_octet (sym dash ∙ (e ∙ sym d)) ∙ run.each 8 (omega arith)) refl

  past : (kind : PieceKind) → from + 36 < n → IsRunKind kind → IsOf kind (slice_range text from n) → ⊥
  past (piece.Token token.Word) lt k o = past_run is_letter lt o
  past (piece.Token token.Number) lt k o = past_run is_digit lt o
  past (piece.Token token.Uuid) lt k o = let size = range_length text from n h in omega (arith, o.long)
  past piece.Space lt k o = k
  past piece.Comment lt k o = k
  past (piece.Token token.Char) lt k o = k
  past (piece.Token token.Str) lt k o = k
  past (piece.Token token.Mark) lt k o = k

pub uuid_cut : (text : List ℕ) (from : ℕ) → (from + 36 ≤ length text) × IsUuid (slice_range text from (from + 36)) → IsCut text (record { kind = piece.Token token.Uuid; from = from; to = from + 36 })
uuid_cut text from h = record {
  stands = record { forward = omega arith; within = h.0; is = h.1; longest = uuid_longest text from h.0 h.1 };
  short = λ e. cc;
  number = λ e. cc;
  comment = λ o.
      clash (is_hex_digit (slice_index text from)) (ap is_hex_digit (sym (range_first text from (from + 36) (omega arith))) ∙ h.1.each 0 (omega arith)) (ap is_hex_digit o.0);
}

-- ## spaces

pub space_cut : (text : List ℕ) (from : ℕ) → from < length text → is_space (slice_index text from) ≡ true → IsCut text (record { kind = piece.Space; from = from; to = from + 1 })
space_cut text from in_text space = record {
  stands = record {
    forward = omega arith;
    within = omega arith;
    is = (let size = range_length text from (from + 1) (omega arith) in omega arith, ap is_space (range_first text from (from + 1) (omega arith)) ∙ space);
    longest = λ other n h is. elim (dec_lt (from + 1) n) as (λ _. n ≤ from + 1) [
      | yes lt ↦
          let k = space_kind other (slice_index text from) space (begins_at text from n other (omega arith) is) in
          let one : length (slice_range text from n) ≡ 1 = (subst (λ (j : PieceKind). IsOf j (slice_range text from n)) k is).0 in
          let size = range_length text from n h in
          omega arith
      | no ge ↦ omega arith
    ];
  };
  short = λ e. cc;
  number = λ e. cc;
  comment = λ o. clash (is_space (slice_index text from)) space (ap is_space o.0);
}

-- ## marks

pub mark_size : (octets : List ℕ) → is_mark octets ≡ true → length octets ≤ 2
mark_size [] h = omega arith
mark_size (c ∷ []) h = omega arith
mark_size (c ∷ d ∷ []) h = omega arith
mark_size (c ∷ d ∷ e ∷ cs) h = clash false h refl

pub range_two : (text : List ℕ) (from : ℕ) → from + 1 < length text → slice_range text from (from + 2) ≡ slice_index text from ∷ slice_index text (from + 1) ∷ []
range_two text from h =
    let e : from + 1 + 1 ≡ from + 2 = omega arith in
    range_cons text from (from + 2) (omega arith) (omega arith)
    ∙ (ap (λ (k : ℕ). slice_index text from ∷ slice_range text (from + 1) k) (sym e) ∙ ap (λ (l : List ℕ). slice_index text from ∷ l) (range_one text (from + 1) h))

module _ (text : List ℕ) (from : ℕ) (in_text : from < length text) (mark : is_mark_octet (slice_index text from) ≡ true) (alone : OpensComment text from → ⊥) where
  -- no comment begins there, so only a mark
  marked : (other : PieceKind) (n : ℕ) → n ≤ length text → from < n → IsOf other (slice_range text from n) → is_mark (slice_range text from n) ≡ true
  marked other n h lt is = elim (mark_kind other (slice_index text from) mark (begins_at text from n other lt is)) as (λ _. is_mark (slice_range text from n) ≡ true) [
    | inr m ↦ subst (λ (j : PieceKind). IsOf j (slice_range text from n)) m is
    | inl c ↦
        let comment : IsComment (slice_range text from n) = subst (λ (j : PieceKind). IsOf j (slice_range text from n)) c.0 is in
        let size = range_length text from n h in
        absurd (alone (c.1, sym (range_at text from n 1 (omega (arith, comment.long))) ∙ comment.opens.1))
  ]

  pub pair_cut : from + 1 < length text → are_mark (slice_index text from) (slice_index text (from + 1)) ≡ true → IsCut text (record { kind = piece.Token token.Mark; from = from; to = from + 2 })
  pair_cut more pair = record {
    stands = record {
      forward = omega arith;
      within = omega arith;
      is = ap is_mark (range_two text from more) ∙ pair;
      longest = λ other n h is. elim (dec_lt from n) as (λ _. n ≤ from + 2) [
        | yes lt ↦
            let size = range_length text from n h in
            let few = mark_size (slice_range text from n) (marked other n h lt is) in
            omega arith
        | no ge ↦ omega arith
      ];
    };
    short = λ e. cc;
    number = λ e. cc;
    comment = λ o. absurd (alone o);
  }

  pub single_cut : (from + 1 < length text → are_mark (slice_index text from) (slice_index text (from + 1)) ≡ false) → IsCut text (record { kind = piece.Token token.Mark; from = from; to = from + 1 })
  single_cut no_pair = record {
    stands = record {
      forward = omega arith;
      within = omega arith;
      is = ap is_mark (range_one text from in_text) ∙ mark;
      longest = λ other n h is. elim (dec_lt (from + 1) n) as (λ _. n ≤ from + 1) [
        | yes lt ↦
            let size = range_length text from n h in
            let m = marked other n h (omega arith) is in
            let few = mark_size (slice_range text from n) m in
            let e : n ≡ from + 2 = omega arith in
            clash (are_mark (slice_index text from) (slice_index text (from + 1)))
            (sym (ap is_mark (ap (λ (k : ℕ). slice_range text from k) e ∙ range_two text from (omega arith))) ∙ m) (no_pair (omega arith))
        | no ge ↦ omega arith
      ];
    };
    short = λ e. cc;
    number = λ e. cc;
    comment = λ o. absurd (alone o);
  }

-- ## comments

-- the first `*/` is the one at which a comment ends
comment_alone : (text : List ℕ) (from to n : ℕ) → n ≤ length text → to < n → to ≤ length text → IsComment (slice_range text from to) → IsComment (slice_range text from n) → ⊥
comment_alone text from to n h lt within a b =
    let size = range_length text from to within in
    let bigger = range_length text from n h in
    let k = to - from - 2 in
    let k_is : k ≡ length (slice_range text from to) - 2 = omega arith in
    let e : k + 1 ≡ length (slice_range text from to) - 1 = omega (arith, a.long) in
    let star : slice_index (slice_range text from n) k ≡ 42 =
    range_at text from n k (omega (arith, a.long)) ∙ (sym (range_at text from to k (omega (arith, a.long))) ∙ (ap (λ (i : ℕ). slice_index (slice_range text from to) i) k_is ∙ a.closes.0)) in
    let slash : slice_index (slice_range text from n) (k + 1) ≡ 47 =
    range_at text from n (k + 1) (omega (arith, a.long))
    ∙ (sym (range_at text from to (k + 1) (omega (arith, a.long))) ∙ (ap (λ (i : ℕ). slice_index (slice_range text from to) i) e ∙ a.closes.1)) in
    b.first k (omega (arith, a.long)) (omega (arith, a.long)) star slash

pub comment_cut : (text : List ℕ) (from to : ℕ) → OpensComment text from → (to ≤ length text) × IsComment (slice_range text from to)
    → IsCut text (record { kind = piece.Comment; from = from; to = to })
comment_cut text from to opens found =
    let size = range_length text from to found.0 in
    record {
      stands = record {
        forward = omega (arith, found.1.long);
        within = found.0;
        is = found.1;
        longest = λ other n h is. elim (dec_lt to n) as (λ _. n ≤ to) [
          | yes lt ↦
              elim (mark_kind other (slice_index text from) (ap is_mark_octet opens.0) (begins_at text from n other (omega (arith, found.1.long)) is)) as (λ _. n ≤ to) [
                | inl c ↦ absurd (comment_alone text from to n h lt found.0 found.1 (subst (λ (j : PieceKind). IsOf j (slice_range text from n)) c.0 is))
                | inr m ↦
                    let few = mark_size (slice_range text from n) (subst (λ (j : PieceKind). IsOf j (slice_range text from n)) m is) in
                    let bigger = range_length text from n h in
                    omega (arith, found.1.long)
              ]
          | no ge ↦ omega arith
        ];
      };
      short = λ e. cc;
      number = λ e. cc;
      comment = λ o. refl;
    }

-- ## octets that begin nothing

pub bad_octet : (text : List ℕ) (from : ℕ) → from < length text → is_space (slice_index text from) ≡ false → is_word_octet (slice_index text from) ≡ false
    → eqb (slice_index text from) 34 ≡ false → eqb (slice_index text from) 39 ≡ false → is_mark_octet (slice_index text from) ≡ false → IsRefused text from from fault.BadOctet
bad_octet text from in_text s w q a m = record {
  stuck = λ kind to h is. elim (dec_lt from to) as (λ _. ⊥) [
    | yes lt ↦ nothing_begins kind (slice_index text from) s w q a m (begins_at text from to kind lt is)
    | no ge ↦ none_empty text from to kind (omega arith) is
  ];
  after = omega arith;
  within = in_text;
  begins = (
    piece.Space,
    32 ∷ [],
    (ap (λ (l : List ℕ). length (l ++ 32 ∷ [])) (range_empty text from from (omega arith)), ap (λ (l : List ℕ). is_space (slice_index (l ++ 32 ∷ []) 0)) (range_empty text from from (omega arith))),
  );
  ends = λ b.
      let e : slice_index (slice_range text from (from + 1) ++ b.1) 0 ≡ slice_index text from = ap (λ (l : List ℕ). slice_index (l ++ b.1) 0) (range_one text from in_text) in
      nothing_begins b.0 (slice_index text from) s w q a m (sym (ap (may_begin b.0) e) ∙ begins b.0 (slice_range text from (from + 1) ++ b.1) b.2);
  one_line = λ k le ge e.
      let here : k ≡ from = omega arith in
      clash (is_space (slice_index text from)) (ap is_space (sym (ap (λ (i : ℕ). slice_index text i) here) ∙ e)) s;
}

-- ## as they are answered

pub placed : (text : List ℕ) (kind : PieceKind) (from to : ℕ) (p : Piece) → p ≡ record { kind = kind; from = from; to = to } → IsCut text (record { kind = kind; from = from; to = to })
    → IsCut text p × (p.from ≡ from)
placed text kind from to p e is = (subst (λ (q : Piece). IsCut text q) (sym e) is, ap (λ (q : Piece). q.from) e)

pub refused_as : (text : List ℕ) (from at : ℕ) (kind : LexKind) (r : Refusal) → r ≡ record { at = at; kind = kind } → IsRefused text from at kind → IsRefused text from r.at r.kind
refused_as text from at kind r e is = subst (λ (q : Refusal). IsRefused text from q.at q.kind) (sym e) is

pub long_name : (text : List ℕ) (from to : ℕ) → IsLongest text (piece.Token token.Word) from to → 31 < to - from → IsRefused text from from fault.LongName
long_name text from to is long = (refl, (to, is, omega arith))

pub bad_number : (text : List ℕ) (from to : ℕ) → IsLongest text (piece.Token token.Number) from to → None ≡ number_of (slice_range text from to) → IsRefused text from from fault.BadNumber
bad_number text from to is none = (refl, (to, is, sym (ap is_some none)))

pub some_number : (octets : List ℕ) (n : ℕ) → Some n ≡ number_of octets → IsSome (number_of octets)
some_number octets n h = subst (λ (o : Option ℕ). IsSome o) h refl
