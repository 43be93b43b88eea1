-- Literals: where they end, and where nothing can end them.
use Rattle.std.proofs.Common.{◌≡◌, ◌≢◌, ℕ, ◌+◌, ◌<◌, ◌≤◌, Bool, true, false, ◌&&◌, cond, ◌⊎◌, inl, inr, List, [], ◌∷◌, ◌++◌, length, refl, sym, ap, subst, arith, ◌∙◌, append_assoc, append-nil, eq-eqb}
use Rattle.std.proofs.Math.Decide.{dec_lt}
use Rattle.std.specs.Prelude.{slice_index, slice_range, eqb}
use Rattle.nd_lemmas.proofs.Booleans.{clash}
use Rattle.idl_lexer.specs.declared.tokens.TokenKind.{TokenKind}
use Rattle.idl_lexer.specs.declared.tokens.TokenKind.TheVariants as token
use Rattle.idl_lexer.specs.declared.tokens.LexKind.TheVariants as fault
use Rattle.idl_lexer.specs.declared.cut.PieceKind.{PieceKind}
use Rattle.idl_lexer.specs.declared.cut.PieceKind.TheVariants as piece
use Rattle.idl_lexer.specs.declared.literals.Due.{Due}
use Rattle.idl_lexer.specs.declared.literals.Due.TheVariants as due
use Rattle.idl_lexer.specs.declared.literals.Unended.{Unended}
use Rattle.idl_lexer.specs.declared.literals.Unended.TheVariants as unended
use Rattle.idl_lexer.specs.declared.cut.Refusal.{Refusal}
use Rattle.idl_lexer.specs.declared.literals.Step.{Step}
use Rattle.idl_lexer.specs.declared.literals.Step.TheVariants as step
use Rattle.idl_lexer.specs.Pieces.{is_plain, is_escape, IsOf, closes, string_goes_on, string_escape_goes_on, char_escape_goes_on}
use Rattle.idl_lexer.specs.Literals.{completes, completes_after, is_empty, Reaches, IsEnd, IsOpen, IsBadAt, IsUnended, refusal_of, Opens}
use Rattle.idl_lexer.specs.Verdict.{IsCut, IsRefused, Begins}
use Rattle.idl_lexer.proofs.Ranges.{range_empty, range_cons, range_split, range_more}
use Rattle.idl_lexer.proofs.FirstOctets.{may_begin, begins, string_kind, char_kind}
use Rattle.idl_lexer.proofs.Cuts.{none_empty}

-- ## one octet

pub next : Due → ℕ → Step
next due.Characters c = cond (eqb c 34) step.Closed (cond (eqb c 92) (step.Goes due.Escape) (cond (is_plain 34 c) (step.Goes due.Characters) step.Bad))
next due.Escape c = cond (is_escape c) (step.Goes due.Characters) step.Bad
next due.OneCharacter c = cond (eqb c 92) (step.Goes due.OneEscape) (cond (is_plain 39 c) (step.Goes due.Quote) step.Bad)
next due.OneEscape c = cond (is_escape c) (step.Goes due.Quote) step.Bad
next due.Quote c = cond (eqb c 39) step.Closed step.Bad

closes_now : (quote c : ℕ) (rest : List ℕ) → eqb c quote ≡ true → closes quote (c ∷ rest) ≡ is_empty rest
closes_now quote c [] h = h
closes_now quote c (d ∷ ds) h = refl

closes_not : (quote c : ℕ) (rest : List ℕ) → eqb c quote ≡ false → closes quote (c ∷ rest) ≡ false
closes_not quote c [] h = h
closes_not quote c (d ∷ ds) h = refl

pub next_is : (d : Due) (c : ℕ) (rest : List ℕ) → completes d (c ∷ rest) ≡ completes_after (next d c) rest
unfolding next
next_is due.Characters c rest = by_tests (eqb c 34) (eqb c 92) (is_plain 34 c) refl where
  by_tests : (a b p : Bool) → eqb c 34 ≡ a
      → cond a (closes 34 (c ∷ rest)) (cond b (string_escape_goes_on rest) (p && string_goes_on rest))
      ≡ completes_after (cond a step.Closed (cond b (step.Goes due.Escape) (cond p (step.Goes due.Characters) step.Bad))) rest
  by_tests true b p e = closes_now 34 c rest e
  by_tests false true p e = refl
  by_tests false false true e = refl
  by_tests false false false e = refl
next_is due.Escape c rest = by_test (is_escape c) where
  by_test : (a : Bool) → (a && string_goes_on rest) ≡ completes_after (cond a (step.Goes due.Characters) step.Bad) rest
  by_test true = refl
  by_test false = refl
next_is due.OneCharacter c rest = by_tests (eqb c 92) (is_plain 39 c) where
  by_tests : (b p : Bool) → cond b (char_escape_goes_on rest) (p && closes 39 rest) ≡ completes_after (cond b (step.Goes due.OneEscape) (cond p (step.Goes due.Quote) step.Bad)) rest
  by_tests true p = refl
  by_tests false true = refl
  by_tests false false = refl
next_is due.OneEscape c rest = by_test (is_escape c) where
  by_test : (a : Bool) → (a && closes 39 rest) ≡ completes_after (cond a (step.Goes due.Quote) step.Bad) rest
  by_test true = refl
  by_test false = refl
next_is due.Quote c rest = by_test (eqb c 39) refl where
  by_test : (a : Bool) → eqb c 39 ≡ a → closes 39 (c ∷ rest) ≡ completes_after (cond a step.Closed step.Bad) rest
  by_test true e = closes_now 39 c rest e
  by_test false e = closes_not 39 c rest e

-- ## what completes a literal completes it once

none_of_nothing : (d : Due) → completes d [] ≡ false
none_of_nothing due.Characters = refl
none_of_nothing due.Escape = refl
none_of_nothing due.OneCharacter = refl
none_of_nothing due.OneEscape = refl
none_of_nothing due.Quote = refl

completes_once : (d : Due) (xs : List ℕ) (z : ℕ) (zs : List ℕ) → completes d xs ≡ true → completes d (xs ++ z ∷ zs) ≡ false
completes_once d [] z zs h = clash (completes d []) h (none_of_nothing d)
completes_once d (c ∷ cs) z zs h = next_is d c (cs ++ z ∷ zs) ∙ by_step (next d c) (sym (next_is d c cs) ∙ h) (λ e. completes_once e cs z zs) where
  by_step : (s : Step) → completes_after s cs ≡ true → ((e : Due) → completes e cs ≡ true → completes e (cs ++ z ∷ zs) ≡ false) → completes_after s (cs ++ z ∷ zs) ≡ false
  by_step (step.Goes e) g again = again e g
  by_step step.Closed g again = closed cs g where
    closed : (l : List ℕ) → is_empty l ≡ true → is_empty (l ++ z ∷ zs) ≡ false
    closed [] g = refl
    closed (x ∷ xs) g = clash false g refl
  by_step step.Bad g again = refl

-- octets that complete a literal
ending : Due → List ℕ
ending due.Characters = 34 ∷ []
ending due.Escape = 110 ∷ 34 ∷ []
ending due.OneCharacter = 97 ∷ 39 ∷ []
ending due.OneEscape = 110 ∷ 39 ∷ []
ending due.Quote = 39 ∷ []

ending_completes : (d : Due) → completes d (ending d) ≡ true
unfolding ending
ending_completes due.Characters = refl
ending_completes due.Escape = refl
ending_completes due.OneCharacter = refl
ending_completes due.OneEscape = refl
ending_completes due.Quote = refl

-- a line feed ends none
feed_is_bad : (d : Due) (rest : List ℕ) → completes d (10 ∷ rest) ≡ false
feed_is_bad due.Characters rest = refl
feed_is_bad due.Escape rest = refl
feed_is_bad due.OneCharacter rest = refl
feed_is_bad due.OneEscape rest = refl
feed_is_bad due.Quote rest = closes_not 39 10 rest refl

-- ## the scan

pub reaches_start : (text : List ℕ) (start : Due) (first : ℕ) → Reaches text start first start first
reaches_start text start first = record {
  after = omega arith;
  same = λ rest. ap (λ (l : List ℕ). completes start (l ++ rest)) (range_empty text first first (omega arith));
  one_line = λ k le lt. absurd (omega arith);
}

scanned : (text : List ℕ) (start : Due) (first : ℕ) (now : Due) (at : ℕ) (s : Step) → Reaches text start first now at → at < length text
    → ((rest : List ℕ) → completes now (slice_index text at ∷ rest) ≡ completes_after s rest)
    → (rest : List ℕ) → completes start (slice_range text first (at + 1) ++ rest) ≡ completes_after s rest
scanned text start first now at s r lt steps rest =
    ap (λ (l : List ℕ). completes start l) (range_more text first at rest r.after lt) ∙ (r.same (slice_index text at ∷ rest) ∙ steps rest)

pub reaches_more : (text : List ℕ) (start : Due) (first : ℕ) (now : Due) (at : ℕ) (goes : Due) → Reaches text start first now at → at < length text → slice_index text at ≢ 10
    → ((rest : List ℕ) → completes now (slice_index text at ∷ rest) ≡ completes_after (step.Goes goes) rest) → Reaches text start first goes (at + 1)
reaches_more text start first now at goes r lt feed steps = record {
  after = omega (arith, r.after);
  same = scanned text start first now at (step.Goes goes) r lt steps;
  one_line = λ k le below e. elim (dec_lt k at) as (λ _. ⊥) [
    | yes h ↦ r.one_line k le h e
    | no h ↦ let here : k ≡ at = omega arith in feed (sym (ap (λ (i : ℕ). slice_index text i) here) ∙ e)
  ];
}

pub is_end : (text : List ℕ) (start : Due) (first : ℕ) (now : Due) (at : ℕ) → Reaches text start first now at → at < length text
    → ((rest : List ℕ) → completes now (slice_index text at ∷ rest) ≡ completes_after step.Closed rest) → IsEnd text start first (at + 1)
is_end text start first now at r lt steps = record {
  after = omega (arith, r.after);
  within = omega arith;
  same = scanned text start first now at step.Closed r lt steps;
}

pub is_bad : (text : List ℕ) (start : Due) (first : ℕ) (now : Due) (at : ℕ) → Reaches text start first now at → at < length text → slice_index text at ≢ 10
    → ((rest : List ℕ) → completes now (slice_index text at ∷ rest) ≡ completes_after step.Bad rest) → IsBadAt text start first at
is_bad text start first now at r lt feed steps = record {
  within = lt;
  now = now;
  reaches = r;
  no_feed = feed;
  none = scanned text start first now at step.Bad r lt steps;
}

pub is_open : (text : List ℕ) (start : Due) (first : ℕ) (now : Due) (at : ℕ) → Reaches text start first now at → at ≤ length text → (at < length text → slice_index text at ≡ 10)
    → IsOpen text start first
is_open text start first now at r le feed = record {
  stop = at;
  now = now;
  reaches = r;
  within = le;
  ended = elim (dec_lt at (length text)) as (λ _. (at ≡ length text) ⊎ (slice_index text at ≡ 10)) [ yes lt ↦ inr (feed lt) | no ge ↦ inl (omega arith) ];
}

some_then : (xs ys : List ℕ) → 0 < length ys → (z : ℕ) × (zs : List ℕ) × (xs ++ ys ≡ z ∷ zs)
some_then [] [] h = absurd (omega arith)
some_then [] (y ∷ ys) h = (y, ys, refl)
some_then (x ∷ xs) ys h = (x, xs ++ ys, refl)

some_ending : (d : Due) → 0 < length (ending d)
unfolding ending
some_ending due.Characters = omega arith
some_ending due.Escape = omega arith
some_ending due.OneCharacter = omega arith
some_ending due.OneEscape = omega arith
some_ending due.Quote = omega arith

-- nothing that the scan passed was a whole literal
not_before : (text : List ℕ) (start : Due) (first : ℕ) (now : Due) (stop n : ℕ) → Reaches text start first now stop → first ≤ n → n ≤ stop → completes start (slice_range text first n) ≡ true → ⊥
not_before text start first now stop n r le below h =
    let more = some_then (slice_range text n stop) (ending now) (some_ending now) in
    let e : slice_range text first stop ++ ending now ≡ slice_range text first n ++ (more.0 ∷ more.1) =
    ap (λ (l : List ℕ). l ++ ending now) (range_split text first n stop le below)
    ∙ (append_assoc (slice_range text first n) (slice_range text n stop) (ending now) ∙ ap (λ (l : List ℕ). slice_range text first n ++ l) more.2) in
    clash (completes start (slice_range text first stop ++ ending now)) (r.same (ending now) ∙ ending_completes now)
    (ap (λ (l : List ℕ). completes start l) e ∙ completes_once start (slice_range text first n) more.0 more.1 h)

-- ## literals as pieces

module _ (kind : TokenKind) (start : Due) (quote : ℕ) (no_feed : quote ≢ 10) (no_slash : quote ≢ 47)
    (no_word : piece.Token kind ≢ piece.Token token.Word) (no_number : piece.Token kind ≢ piece.Token token.Number)
    (only : (k : PieceKind) → may_begin k quote ≡ true → k ≡ piece.Token kind)
    (into : (cs : List ℕ) → completes start cs ≡ true → IsOf (piece.Token kind) (quote ∷ cs))
    (out : (cs : List ℕ) → IsOf (piece.Token kind) (quote ∷ cs) → completes start cs ≡ true)
    (text : List ℕ) (from : ℕ) (in_text : from < length text) (quote_is : slice_index text from ≡ quote) where
  opened : (n : ℕ) → from < n → n ≤ length text → slice_range text from n ≡ quote ∷ slice_range text (from + 1) n
  opened n lt h = range_cons text from n lt h ∙ ap (λ (c : ℕ). c ∷ slice_range text (from + 1) n) quote_is

  opened_more : (n : ℕ) (rest : List ℕ) → from < n → n ≤ length text → slice_range text from n ++ rest ≡ quote ∷ (slice_range text (from + 1) n ++ rest)
  opened_more n rest lt h = ap (λ (l : List ℕ). l ++ rest) (opened n lt h)

  -- whatever begins with the quote is such a literal
  is_literal : (other : PieceKind) (cs : List ℕ) → IsOf other (quote ∷ cs) → completes start cs ≡ true
  is_literal other cs is = out cs (subst (λ (k : PieceKind). IsOf k (quote ∷ cs)) (only other (begins other (quote ∷ cs) is)) is)

  completed : (other : PieceKind) (n : ℕ) → from < n → n ≤ length text → IsOf other (slice_range text from n) → completes start (slice_range text (from + 1) n) ≡ true
  completed other n lt h is = is_literal other (slice_range text (from + 1) n) (subst (λ (l : List ℕ). IsOf other l) (opened n lt h) is)

  literal_longest : (to : ℕ) → IsEnd text start (from + 1) to → (other : PieceKind) (n : ℕ) → n ≤ length text → IsOf other (slice_range text from n) → n ≤ to
  literal_longest to e other n h is = elim (dec_lt to n) as (λ _. n ≤ to) [
    | yes lt ↦
        clash (completes start (slice_range text (from + 1) n)) (completed other n (omega (arith, e.after)) h is)
        (ap (λ (l : List ℕ). completes start l) (range_split text (from + 1) to n (omega (arith, e.after)) (omega arith))
        ∙ (e.same (slice_range text to n) ∙ ap (λ (l : List ℕ). is_empty l) (range_cons text to n lt h)))
    | no ge ↦ omega arith
  ]

  pub literal_cut : (to : ℕ) → IsEnd text start (from + 1) to → IsCut text (record { kind = piece.Token kind; from = from; to = to })
  literal_cut to e = record {
    stands = record {
      forward = omega (arith, e.after);
      within = e.within;
      is = subst (λ (l : List ℕ). IsOf (piece.Token kind) l) (sym (opened to (omega (arith, e.after)) e.within))
          (into (slice_range text (from + 1) to) (sym (ap (λ (l : List ℕ). completes start l) (append-nil (slice_range text (from + 1) to))) ∙ e.same []));
      longest = literal_longest to e;
    };
    short = λ w. absurd (no_word w);
    number = λ w. absurd (no_number w);
    comment = λ o. absurd (no_slash (sym quote_is ∙ o.0));
  }

  begun : (now : Due) (stop : ℕ) → Reaches text start (from + 1) now stop → stop ≤ length text → Begins (slice_range text from stop)
  begun now stop r h = (
    piece.Token kind,
    ending now,
    subst (λ (l : List ℕ). IsOf (piece.Token kind) l) (sym (opened_more stop (ending now) (omega (arith, r.after)) h))
        (into (slice_range text (from + 1) stop ++ ending now) (r.same (ending now) ∙ ending_completes now)),
  )

  pub open_text : IsOpen text start (from + 1) → IsRefused text from from fault.OpenText
  open_text o = (
    refl,
    record {
      stuck = λ other to h is. elim (dec_lt from to) as (λ _. ⊥) [
        | yes lt ↦ elim (dec_lt o.stop to) as (λ _. ⊥) [
          | yes past ↦ elim o.ended as (λ _. ⊥) [
            | inl e ↦ omega arith
            | inr feed ↦
                clash (completes start (slice_range text (from + 1) to)) (completed other to lt h is)
                (ap (λ (l : List ℕ). completes start l) (range_split text (from + 1) o.stop to o.reaches.after (omega arith))
                ∙ (o.reaches.same (slice_range text o.stop to)
                ∙ (ap (λ (l : List ℕ). completes o.now l) (range_cons text o.stop to past h ∙ ap (λ (c : ℕ). c ∷ slice_range text (o.stop + 1) to) feed)
                ∙ feed_is_bad o.now (slice_range text (o.stop + 1) to))))
          ]
          | no ge ↦ not_before text start (from + 1) o.now o.stop to o.reaches (omega arith) (omega arith) (completed other to lt h is)
        ]
        | no ge ↦ none_empty text from to other (omega arith) is
      ];
      stop = o.stop;
      after = omega (arith, o.reaches.after);
      within = o.within;
      begins = begun o.now o.stop o.reaches o.within;
      ended = o.ended;
    },
  )

  pub bad_in_literal : (at : ℕ) → IsBadAt text start (from + 1) at → IsRefused text from at fault.BadOctet
  bad_in_literal at b = record {
    stuck = λ other to h is. elim (dec_lt from to) as (λ _. ⊥) [
      | yes lt ↦ elim (dec_lt at to) as (λ _. ⊥) [
        | yes past ↦
            clash (completes start (slice_range text (from + 1) to)) (completed other to lt h is)
            (ap (λ (l : List ℕ). completes start l) (range_split text (from + 1) (at + 1) to (omega (arith, b.reaches.after)) (omega arith)) ∙ b.none (slice_range text (at + 1) to))
        | no ge ↦ not_before text start (from + 1) b.now at to b.reaches (omega arith) (omega arith) (completed other to lt h is)
      ]
      | no ge ↦ none_empty text from to other (omega arith) is
    ];
    after = omega (arith, b.reaches.after);
    within = b.within;
    begins = begun b.now at b.reaches (omega (arith, b.within));
    ends = λ p.
        clash (completes start (slice_range text (from + 1) (at + 1) ++ p.1))
        (is_literal p.0 (slice_range text (from + 1) (at + 1) ++ p.1)
        (subst (λ (l : List ℕ). IsOf p.0 l) (opened_more (at + 1) p.1 (omega (arith, b.reaches.after)) (omega (arith, b.within))) p.2))
        (b.none p.1);
    one_line = λ k le ge e. elim (dec_lt from k) as (λ _. ⊥) [
      | yes lt ↦ elim (dec_lt k at) as (λ _. ⊥) [
        | yes below ↦ b.reaches.one_line k (omega arith) below e
        | no here ↦ let same : k ≡ at = omega arith in b.no_feed (sym (ap (λ (i : ℕ). slice_index text i) same) ∙ e)
      ]
      | no here ↦ let same : k ≡ from = omega arith in no_feed (sym quote_is ∙ (sym (ap (λ (i : ℕ). slice_index text i) same) ∙ e))
    ];
  }

-- ## both kinds of literal

differ : (a b : ℕ) → (eqb a b ≡ false) → a ≢ b
differ a b h e = clash (eqb b b) (eq-eqb b b refl) (sym (ap (λ (c : ℕ). eqb c b) e) ∙ h)

pub cut_as : (text : List ℕ) (kind : TokenKind) (start : Due) (from to : ℕ) → from < length text → Opens kind start (slice_index text from) → IsEnd text start (from + 1) to
    → IsCut text (record { kind = piece.Token kind; from = from; to = to })
cut_as text kind start from to in_text (inl o) e =
    subst (λ (j : TokenKind). IsCut text (record { kind = piece.Token j; from = from; to = to })) (sym o.0)
    (literal_cut token.Str due.Characters 34 (differ 34 10 refl) (differ 34 47 refl) (λ w. cc) (λ w. cc) string_kind (λ cs h. h) (λ cs h. h) text from in_text o.2 to
    (subst (λ (d : Due). IsEnd text d (from + 1) to) o.1 e))
cut_as text kind start from to in_text (inr o) e =
    subst (λ (j : TokenKind). IsCut text (record { kind = piece.Token j; from = from; to = to })) (sym o.0)
    (literal_cut token.Char due.OneCharacter 39 (differ 39 10 refl) (differ 39 47 refl) (λ w. cc) (λ w. cc) char_kind (λ cs h. h) (λ cs h. h) text from in_text o.2 to
    (subst (λ (d : Due). IsEnd text d (from + 1) to) o.1 e))

pub open_as : (text : List ℕ) (kind : TokenKind) (start : Due) (from : ℕ) → from < length text → Opens kind start (slice_index text from) → IsOpen text start (from + 1)
    → IsRefused text from from fault.OpenText
open_as text kind start from in_text (inl o) e =
    open_text token.Str due.Characters 34 (differ 34 10 refl) (differ 34 47 refl) (λ w. cc) (λ w. cc) string_kind (λ cs h. h) (λ cs h. h) text from in_text o.2
    (subst (λ (d : Due). IsOpen text d (from + 1)) o.1 e)
open_as text kind start from in_text (inr o) e =
    open_text token.Char due.OneCharacter 39 (differ 39 10 refl) (differ 39 47 refl) (λ w. cc) (λ w. cc) char_kind (λ cs h. h) (λ cs h. h) text from in_text o.2
    (subst (λ (d : Due). IsOpen text d (from + 1)) o.1 e)

pub bad_as : (text : List ℕ) (kind : TokenKind) (start : Due) (from at : ℕ) → from < length text → Opens kind start (slice_index text from) → IsBadAt text start (from + 1) at
    → IsRefused text from at fault.BadOctet
bad_as text kind start from at in_text (inl o) e =
    bad_in_literal token.Str due.Characters 34 (differ 34 10 refl) (differ 34 47 refl) (λ w. cc) (λ w. cc) string_kind (λ cs h. h) (λ cs h. h) text from in_text o.2 at
    (subst (λ (d : Due). IsBadAt text d (from + 1) at) o.1 e)
bad_as text kind start from at in_text (inr o) e =
    bad_in_literal token.Char due.OneCharacter 39 (differ 39 10 refl) (differ 39 47 refl) (λ w. cc) (λ w. cc) char_kind (λ cs h. h) (λ cs h. h) text from in_text o.2 at
    (subst (λ (d : Due). IsBadAt text d (from + 1) at) o.1 e)

pub unended_as : (text : List ℕ) (kind : TokenKind) (start : Due) (from : ℕ) (u : Unended) (r : Refusal) → r ≡ refusal_of from u → from < length text → Opens kind start (slice_index text from)
    → IsUnended text start (from + 1) u → IsRefused text from r.at r.kind
unended_as text kind start from u r e in_text opens is = subst (λ (q : Refusal). IsRefused text from q.at q.kind) (sym e) (by_case u is) where
  by_case : (u : Unended) → IsUnended text start (from + 1) u → IsRefused text from (refusal_of from u).at (refusal_of from u).kind
  by_case unended.Open is = open_as text kind start from in_text opens is
  by_case (unended.Bad at) is = bad_as text kind start from at in_text opens is
