-- Each text has tokens or a first fault.
use Rattle.std.proofs.Common.{◌≡◌, ◌≢◌, ℕ, zero, suc, ◌+◌, ◌-◌, ◌<◌, ◌≤◌, Bool, true, false, ◌⊎◌, inl, inr, List, [], ◌++◌, length, refl, sym, ap, subst, arith, ◌∙◌, eqb, eq-eqb, Option, Some, None}
use Rattle.std.proofs.Common.{get_or}
use Rattle.std.proofs.Math.Decide.{dec_lt}
use Rattle.std.proofs.lemmas.List.{get_or_past}
use Rattle.std.specs.Prelude.{slice_index, slice_range}
use Rattle.nd_lemmas.proofs.Booleans.{clash}
use Rattle.nd_base.specs.Text.{is_letter, is_word_octet}
use Rattle.idl_lexer.specs.declared.tokens.TokenKind.{TokenKind}
use Rattle.idl_lexer.specs.declared.tokens.TokenKind.TheVariants as token
use Rattle.idl_lexer.specs.declared.tokens.LexKind.{LexKind}
use Rattle.idl_lexer.specs.declared.tokens.LexKind.TheVariants as fault
use Rattle.idl_lexer.specs.declared.tokens.Token.{Token}
use Rattle.idl_lexer.specs.declared.cut.Piece.{Piece}
use Rattle.idl_lexer.specs.declared.cut.PieceKind.{PieceKind}
use Rattle.idl_lexer.specs.declared.cut.PieceKind.TheVariants as piece
use Rattle.idl_lexer.specs.declared.literals.Due.{Due}
use Rattle.idl_lexer.specs.declared.literals.Due.TheVariants as due
use Rattle.idl_lexer.specs.declared.literals.Step.{Step}
use Rattle.idl_lexer.specs.declared.literals.Step.TheVariants as step
use Rattle.idl_lexer.specs.Pieces.{is_space, is_mark_octet, are_mark, number_of, IsUuid, IsComment, fits_uuid}
use Rattle.idl_lexer.specs.Literals.{completes_after, Reaches, IsEnd, IsOpen, IsBadAt, Opens}
use Rattle.idl_lexer.specs.Verdict.{IsCut, IsRefused, OpensComment, text_limit, token_of, HasVerdict, Verdict, Cut, Refused}
use Rattle.idl_lexer.proofs.Ranges.{range_at, range_length}
use Rattle.idl_lexer.proofs.FirstOctets.{equal_octets}
use Rattle.idl_lexer.proofs.Cuts.{longest_word, longest_number, word_cut, number_cut, uuid_cut, space_cut, pair_cut, single_cut, comment_cut, bad_octet, long_name, bad_number, some_number}
use Rattle.idl_lexer.proofs.Comments.{NoEnd, comment_found, comment_none}
use Rattle.idl_lexer.proofs.LiteralEnds.{next, next_is, reaches_start, reaches_more, is_end, is_bad, is_open, cut_as, open_as, bad_as}
use Rattle.idl_lexer.proofs.Passes.{SoFar, nothing_yet, one_piece, all_tokens, refused_there}

-- a piece is cut at a place, or it is refused
abbrev Here : List ℕ → ℕ → Type 0
Here text from = ((p : Piece) × IsCut text p × (p.from ≡ from)) ⊎ ((at : ℕ) × (kind : LexKind) × IsRefused text from at kind)

differ : (a b : ℕ) → eqb a b ≡ false → a ≢ b
differ a b h e = clash (eqb a b) (eq-eqb a b e) h

-- ## Runs

record RunEnd (text : List ℕ) (from : ℕ) : Type 0 where
  to : ℕ
  after : from ≤ to
  within : to ≤ length text
  each : (k : ℕ) → from ≤ k → k < to → is_word_octet (slice_index text k) ≡ true
  stops : to < length text → is_word_octet (slice_index text to) ≡ false

one_more : (P : ℕ → Type 0) (from to : ℕ) → ((k : ℕ) → from ≤ k → k < to → P k) → P to → (k : ℕ) → from ≤ k → k < to + 1 → P k
one_more P from to each here k le lt = elim (dec_lt k to) as (λ _. P k) [
  | yes below ↦ each k le below
  | no past ↦ let e : to ≡ k = omega arith in subst P e here
]

module _ (text : List ℕ) (from : ℕ) where
  run_end : (n to : ℕ) → from ≤ to → to ≤ length text → length text ≤ to + n → ((k : ℕ) → from ≤ k → k < to → is_word_octet (slice_index text k) ≡ true) → RunEnd text from
  run_end zero to after within enough each = record { to = to; after = after; within = within; each = each; stops = λ lt. absurd (omega arith) }
  run_end (suc n) to after within enough each = elim (dec_lt to (length text)) as (λ _. RunEnd text from) [
    | yes lt ↦ by_case (is_word_octet (slice_index text to)) refl lt (run_end n (to + 1) (omega arith) (omega arith) (omega arith))
    | no ge ↦ record { to = to; after = after; within = within; each = each; stops = λ lt. absurd (ge lt) }
  ]
    where
      by_case : (b : Bool) → is_word_octet (slice_index text to) ≡ b → to < length text
          → (((k : ℕ) → from ≤ k → k < to + 1 → is_word_octet (slice_index text k) ≡ true) → RunEnd text from) → RunEnd text from
      by_case true is lt more = more (one_more (λ k. is_word_octet (slice_index text k) ≡ true) from to each is)
      by_case false is lt more = record { to = to; after = after; within = within; each = each; stops = λ _. is }

-- ## UUIDs

-- the first octets fit those of a UUID, or one does not
abbrev Fitting : List ℕ → ℕ → Type 0
Fitting octets n = ((k : ℕ) → k < n → fits_uuid k (slice_index octets k) ≡ true) ⊎ ((k : ℕ) × (k < n) × (fits_uuid k (slice_index octets k) ≡ false))

fitting : (octets : List ℕ) (n : ℕ) → Fitting octets n
fitting octets zero = inl (λ k lt. absurd (omega arith))
fitting octets (suc n) = by_case (fitting octets n) (fits_uuid n (slice_index octets n)) refl
  where
    by_case : Fitting octets n → (b : Bool) → fits_uuid n (slice_index octets n) ≡ b → Fitting octets (suc n)
    by_case (inr bad) b is = inr (bad.0, omega (arith, bad.1), bad.2)
    by_case (inl each) true is = inl (λ k lt. one_more (λ i. fits_uuid i (slice_index octets i) ≡ true) 0 n (λ i le below. each i below) is k (omega arith) (omega arith))
    by_case (inl each) false is = inr (n, omega arith, is)

abbrev Stands : List ℕ → ℕ → Type 0
Stands text from = ((from + 36 ≤ length text) × IsUuid (slice_range text from (from + 36))) ⊎ ((n : ℕ) → n ≤ length text → IsUuid (slice_range text from n) → ⊥)

no_room : (text : List ℕ) (from : ℕ) → length text < from + 36 → (n : ℕ) → n ≤ length text → IsUuid (slice_range text from n) → ⊥
no_room text from short n h is = let size = range_length text from n h in omega (arith, is.long)

uuid_or_not : (text : List ℕ) (from : ℕ) → Stands text from
uuid_or_not text from = elim (dec_lt (length text) (from + 36)) as (λ _. Stands text from) [
  | yes short ↦ inr (no_room text from short)
  | no room ↦ by_case (omega arith) (fitting (slice_range text from (from + 36)) 36)
]
  where
    by_case : from + 36 ≤ length text → Fitting (slice_range text from (from + 36)) 36 → Stands text from
    by_case room (inl each) = inl (room, record { long = let size = range_length text from (from + 36) room in omega arith; each = each })
    by_case room (inr bad) = inr (λ n h is.
        let size = range_length text from n h in
        let e : n ≡ from + 36 = omega (arith, is.long) in
        clash (fits_uuid bad.0 (slice_index (slice_range text from (from + 36)) bad.0))
        (subst (λ (m : ℕ). fits_uuid bad.0 (slice_index (slice_range text from m) bad.0) ≡ true) e (is.each bad.0 bad.1)) bad.2)

-- ## Words and numbers

module _ (text : List ℕ) (from : ℕ) (in_text : from < length text) (word : is_word_octet (slice_index text from) ≡ true) where
  run_here : Here text from
  run_here = by_uuid (uuid_or_not text from) (run_end text from (length text) from (omega arith) (omega arith) (omega arith) (λ k le lt. absurd (omega arith)))
    where
      by_value : (r : RunEnd text from) → ((n : ℕ) → n ≤ length text → IsUuid (slice_range text from n) → ⊥) → is_letter (slice_index text from) ≡ false
          → (o : Option ℕ) → o ≡ number_of (slice_range text from r.to) → Here text from
      by_value r none letter (Some v) is =
          inl (_, number_cut text from r.to in_text r.after r.within r.each r.stops none word letter (some_number (slice_range text from r.to) v is), refl)
      by_value r none letter None is =
          inr (from, fault.BadNumber, bad_number text from r.to (longest_number text from r.to in_text r.after r.within r.each r.stops none word letter) is)

      by_letter : (r : RunEnd text from) → ((n : ℕ) → n ≤ length text → IsUuid (slice_range text from n) → ⊥) → (b : Bool) → is_letter (slice_index text from) ≡ b → Here text from
      by_letter r none false letter = by_value r none letter (number_of (slice_range text from r.to)) refl
      by_letter r none true letter = elim (dec_lt 31 (r.to - from)) as (λ _. Here text from) [
        | yes long ↦ inr (from, fault.LongName, long_name text from r.to (longest_word text from r.to in_text r.after r.within r.each r.stops none word letter) long)
        | no few ↦ inl (_, word_cut text from r.to in_text r.after r.within r.each r.stops none word letter (omega arith), refl)
      ]

      by_uuid : Stands text from → RunEnd text from → Here text from
      by_uuid (inl is) r = inl (_, uuid_cut text from is, refl)
      by_uuid (inr none) r = by_letter r none (is_letter (slice_index text from)) refl

-- ## Literals

abbrev Scanned : List ℕ → Due → ℕ → Type 0
Scanned text start first = ((to : ℕ) × IsEnd text start first to) ⊎ (IsOpen text start first ⊎ ((at : ℕ) × IsBadAt text start first at))

module _ (text : List ℕ) (start : Due) (first : ℕ) where
  scanned : (n : ℕ) (now : Due) (at : ℕ) → Reaches text start first now at → at ≤ length text → length text ≤ at + n → Scanned text start first
  scanned zero now at r within enough = inr (inl (is_open text start first now at r within (λ lt. absurd (omega arith))))
  scanned (suc n) now at r within enough = elim (dec_lt at (length text)) as (λ _. Scanned text start first) [
    | yes lt ↦ by_feed lt (eqb (slice_index text at) 10) refl (λ d reached. scanned n d (at + 1) reached (omega arith) (omega arith))
    | no ge ↦ inr (inl (is_open text start first now at r within (λ lt. absurd (ge lt))))
  ]
    where
      by_step : at < length text → slice_index text at ≢ 10 → (s : Step) → next now (slice_index text at) ≡ s
          → ((d : Due) → Reaches text start first d (at + 1) → Scanned text start first) → Scanned text start first
      by_step lt feed (step.Goes d) e more =
          more d (reaches_more text start first now at d r lt feed (λ rest. next_is now (slice_index text at) rest ∙ ap (λ s. completes_after s rest) e))
      by_step lt feed step.Closed e more =
          inl (at + 1, is_end text start first now at r lt (λ rest. next_is now (slice_index text at) rest ∙ ap (λ s. completes_after s rest) e))
      by_step lt feed step.Bad e more =
          inr (inr (at, is_bad text start first now at r lt feed (λ rest. next_is now (slice_index text at) rest ∙ ap (λ s. completes_after s rest) e)))

      by_feed : at < length text → (b : Bool) → eqb (slice_index text at) 10 ≡ b
          → ((d : Due) → Reaches text start first d (at + 1) → Scanned text start first) → Scanned text start first
      by_feed lt true is more = inr (inl (is_open text start first now at r within (λ _. equal_octets (slice_index text at) 10 is)))
      by_feed lt false is more = by_step lt (differ (slice_index text at) 10 is) (next now (slice_index text at)) refl more

literal_here : (text : List ℕ) (kind : TokenKind) (start : Due) (from : ℕ) → from < length text → Opens kind start (slice_index text from) → Here text from
literal_here text kind start from in_text opens =
    by_case (scanned text start (from + 1) (length text) start (from + 1) (reaches_start text start (from + 1)) (omega arith) (omega arith))
  where
    by_case : Scanned text start (from + 1) → Here text from
    by_case (inl e) = inl (_, cut_as text kind start from e.0 in_text opens e.1, refl)
    by_case (inr (inl o)) = inr (from, fault.OpenText, open_as text kind start from in_text opens o)
    by_case (inr (inr b)) = inr (b.0, fault.BadOctet, bad_as text kind start from b.0 in_text opens b.1)

-- ## Comments

module _ (text : List ℕ) (from : ℕ) (opens : OpensComment text from) (room : from + 2 ≤ length text) where
  no_end : NoEnd text (from + 2) (length text - 1) → Here text from
  no_end none = inr (from, fault.OpenComment, (refl, opens, comment_none text from room none))

  comment_from : (n at : ℕ) → from + 2 ≤ at → length text ≤ at + n → NoEnd text (from + 2) at → Here text from
  comment_from zero at after enough none = no_end (λ k le lt. none k le (omega arith))
  comment_from (suc n) at after enough none = elim (dec_lt (at + 1) (length text)) as (λ _. Here text from) [
    | yes lt ↦ by_star lt (eqb (slice_index text at) 42) refl (comment_from n (at + 1) (omega arith) (omega arith))
    | no ge ↦ no_end (λ k le lt. none k le (omega arith))
  ]
    where
      not_here : (slice_index text at ≡ 42 → slice_index text (at + 1) ≡ 47 → ⊥) → NoEnd text (from + 2) (at + 1)
      not_here h = one_more (λ k. slice_index text k ≡ 42 → slice_index text (k + 1) ≡ 47 → ⊥) (from + 2) at none h

      by_slash : at + 1 < length text → slice_index text at ≡ 42 → (b : Bool) → eqb (slice_index text (at + 1)) 47 ≡ b → (NoEnd text (from + 2) (at + 1) → Here text from) → Here text from
      by_slash lt star true is more =
          inl (_, comment_cut text from (at + 2) opens (comment_found text from at opens after (omega arith) none star (equal_octets (slice_index text (at + 1)) 47 is)), refl)
      by_slash lt star false is more = more (not_here (λ s t. differ (slice_index text (at + 1)) 47 is t))

      by_star : at + 1 < length text → (b : Bool) → eqb (slice_index text at) 42 ≡ b → (NoEnd text (from + 2) (at + 1) → Here text from) → Here text from
      by_star lt true is more = by_slash lt (equal_octets (slice_index text at) 42 is) (eqb (slice_index text (at + 1)) 47) refl more
      by_star lt false is more = more (not_here (λ s t. differ (slice_index text at) 42 is s))

-- ## Any piece

module _ (text : List ℕ) (from : ℕ) (in_text : from < length text) where
  abbrev c : ℕ
  c = slice_index text from

  mark_here : is_mark_octet c ≡ true → (OpensComment text from → ⊥) → Here text from
  mark_here mark alone = elim (dec_lt (from + 1) (length text)) as (λ _. Here text from) [
    | yes lt ↦ by_pair lt (are_mark c (slice_index text (from + 1))) refl
    | no ge ↦ inl (_, single_cut text from in_text mark alone (λ lt. absurd (ge lt)), refl)
  ]
    where
      by_pair : from + 1 < length text → (b : Bool) → are_mark c (slice_index text (from + 1)) ≡ b → Here text from
      by_pair lt true is = inl (_, pair_cut text from in_text mark alone lt is, refl)
      by_pair lt false is = inl (_, single_cut text from in_text mark alone (λ _. is), refl)

  by_mark : is_space c ≡ false → is_word_octet c ≡ false → eqb c 34 ≡ false → eqb c 39 ≡ false → (OpensComment text from → ⊥) → (b : Bool) → is_mark_octet c ≡ b → Here text from
  by_mark s w q a alone true is = mark_here is alone
  by_mark s w q a alone false is = inr (from, fault.BadOctet, bad_octet text from in_text s w q a is)

  -- a star after the slash is in the text
  star_within : slice_index text (from + 1) ≡ 42 → from + 2 ≤ length text
  star_within star = elim (dec_lt (from + 1) (length text)) as (λ _. from + 2 ≤ length text) [
    | yes lt ↦ omega arith
    | no ge ↦ absurd (let e : 0 ≡ 42 = sym (get_or_past text (from + 1) 0 (omega arith)) ∙ star in omega arith)
  ]

  by_comment : is_space c ≡ false → is_word_octet c ≡ false → eqb c 34 ≡ false → eqb c 39 ≡ false → (b d : Bool) → eqb c 47 ≡ b → eqb (slice_index text (from + 1)) 42 ≡ d → Here text from
  by_comment s w q a true true slash star =
      let opens : OpensComment text from = (equal_octets c 47 slash, equal_octets (slice_index text (from + 1)) 42 star) in
      comment_from text from opens (star_within opens.1) (length text) (from + 2) (omega arith) (omega arith) (λ k le lt. absurd (omega arith))
  by_comment s w q a true false slash star = by_mark s w q a (λ o. differ (slice_index text (from + 1)) 42 star o.1) (is_mark_octet c) refl
  by_comment s w q a false d slash star = by_mark s w q a (λ o. differ c 47 slash o.0) (is_mark_octet c) refl

  by_apostrophe : is_space c ≡ false → is_word_octet c ≡ false → eqb c 34 ≡ false → (b : Bool) → eqb c 39 ≡ b → Here text from
  by_apostrophe s w q true is = literal_here text token.Char due.OneCharacter from in_text (inr (refl, refl, equal_octets c 39 is))
  by_apostrophe s w q false is = by_comment s w q is (eqb c 47) (eqb (slice_index text (from + 1)) 42) refl refl

  by_quote : is_space c ≡ false → is_word_octet c ≡ false → (b : Bool) → eqb c 34 ≡ b → Here text from
  by_quote s w true is = literal_here text token.Str due.Characters from in_text (inl (refl, refl, equal_octets c 34 is))
  by_quote s w false is = by_apostrophe s w is (eqb c 39) refl

  by_word : is_space c ≡ false → (b : Bool) → is_word_octet c ≡ b → Here text from
  by_word s true is = run_here text from in_text is
  by_word s false is = by_quote s is (eqb c 34) refl

  by_space : (b : Bool) → is_space c ≡ b → Here text from
  by_space true is = inl (_, space_cut text from in_text is, refl)
  by_space false is = by_word is (is_word_octet c) refl

  cut_here : Here text from
  cut_here = by_space (is_space c) refl

-- ## Whole texts

module _ (text : List ℕ) (short : length text ≤ text_limit) where
  lexed_from : (n : ℕ) (tokens : List Token) (at : ℕ) → SoFar text tokens at → length text ≤ at + n → HasVerdict text
  lexed_from zero tokens at s enough = record { verdict = Cut tokens; right = all_tokens text tokens at s (omega arith) short }
  lexed_from (suc n) tokens at s enough = elim (dec_lt at (length text)) as (λ _. HasVerdict text) [
    | yes lt ↦ by_case lt (cut_here text at lt) (λ more to t past. lexed_from n more to t (omega (arith, past)))
    | no ge ↦ record { verdict = Cut tokens; right = all_tokens text tokens at s (omega arith) short }
  ]
    where
      by_case : at < length text → Here text at → ((more : List Token) (to : ℕ) → SoFar text more to → at < to → HasVerdict text) → HasVerdict text
      by_case lt (inl p) again =
          let forward = p.1.stands.forward in
          let here = p.2 in
          again (tokens ++ token_of p.0) p.0.to (one_piece text tokens at p.0 s (p.1, p.2)) (omega (arith, forward, here))
      by_case lt (inr r) again = record { verdict = Refused r.0 r.1; right = refused_there text tokens at r.0 r.1 s lt short r.2 }

pub each_text : (text : List ℕ) → HasVerdict text
each_text text = elim (dec_lt text_limit (length text)) as (λ _. HasVerdict text) [
  | yes long ↦ record { verdict = Refused text_limit fault.TooLong; right = (long, refl) }
  | no few ↦ lexed_from text (omega arith) (length text) [] 0 (nothing_yet text) (omega arith)
]
