-- A text comes to one ending, token by token; and what the endings say of it.
use Rattle.std.proofs.Common.{◌≡◌, ◌⊎◌, inl, inr, ℕ, zero, suc, ◌+◌, ◌-◌, ◌<◌, ◌≤◌, Bool, true, false, List, [], ◌∷◌, ◌++◌, length, Result, Ok, Err, refl, ap, sym, ◌∙◌, subst, arith, append-nil}
use Rattle.std.proofs.lemmas.Bool.{cases_lt}
use Rattle.nd_base.specs.Text.{position_of}
use Rattle.nd_types.specs.Table.{Table}
use Rattle.nd_value.specs.declared.value.Graph.{Graph}
use Rattle.nd_value.specs.Setting.{Setting}
use Rattle.nd_grammar.specs.LegalSide.{IsLegalSide}
use Rattle.text_grammar.specs.declared.fault.TextReason.{TextReason}
use Rattle.text_grammar.specs.declared.fault.TextReason.TheVariants as reason
use Rattle.text_grammar.specs.declared.TheConstants.{TEXT_LIMIT}
use Rattle.text_grammar.specs.Tokens.{Token, skip, cutting, after, IsCut, Begins}
use Rattle.text_grammar.specs.Written.{graph_tokens}
use Rattle.text_grammar.specs.Reads.{ReadsAs, Lexeme, Cut, End, Bad, IsNext, IsFirstFault, IsTextFault}
use Rattle.text_grammar.specs.Dues.{ACellLine, Reading, nothing_read, next_read, may_end, all_read}
use Rattle.text_grammar.specs.Reader.{Ending, Whole, Stopped, at_end, ComesTo, goes_on, refused, no_token, ended}
use Rattle.text_grammar.specs.Values.{reading}
use Rattle.text_grammar.proofs.Alike.{go_on}
use Rattle.text_grammar.proofs.OneText.{one_cut, some_octets, cut_less}
use Rattle.text_grammar.proofs.GraphRead.{all_both, graph_reads, all_noted}
use Rattle.text_grammar.proofs.Real.{begins_real}
use Rattle.text_grammar.proofs.Back.{back}
use Rattle.text_grammar.proofs.Faults.{legal_roots, after_more, begins_more}
use Rattle.text_grammar.proofs.Stated.{first_fault}
use Rattle.value_text.proofs.NextToken.{next_of}

-- ## One ending

module _ (table : Table) where
  comes : (n : ℕ) (x : Reading) (before : List Token) (text : List ℕ) → length text < n → (e : Ending) × ComesTo table x before text e
  comes zero x before text few = absurd (omega (arith, few))
  comes (suc n) x before text few = by (next_of (cutting before) text).0 (next_of (cutting before) text).1 (λ y b t few. comes n y b t few) where
    read : (t : Token) (rest : List ℕ) → IsCut (cutting before) text t rest → (r : Result Reading TextReason) → next_read table x t ≡ r
        → ((y : Reading) (b : List Token) (u : List ℕ) → length u < n → (e : Ending) × ComesTo table y b u e) → (e : Ending) × ComesTo table x before text e
    read t rest c (Ok y) f again = let r = again y (t ∷ before) rest (omega (arith, cut_less (cutting before) text t rest c, few)) in (r.0, goes_on y t rest c f r.1)
    read t rest c (Err why) f again = (Stopped (length (skip text)) why, refused t rest why c f)

    by : (l : Lexeme) → IsNext (cutting before) text l → ((y : Reading) (b : List Token) (u : List ℕ) → length u < n → (e : Ending) × ComesTo table y b u e)
        → (e : Ending) × ComesTo table x before text e
    by (Cut t) c again = read t c.0 c.1 (next_read table x t) refl again
    by End c again = (at_end x, ended c)
    by Bad c again = (Stopped (length (skip text)) reason.BadToken, no_token c)

  pub one_ending : (x : Reading) (before : List Token) (text : List ℕ) (e f : Ending) → ComesTo table x before text e → ComesTo table x before text f → e ≡ f
  one_ending x before text e f (goes_on y t rest c n m) (goes_on y' t' rest' c' n' m') =
      let o = one_cut (cutting before) text t t' rest rest' c c' in
      let r : Ok y ≡ Ok y' = sym n ∙ ap (next_read table x) o.0 ∙ n' in
      let same : y ≡ y' = cc in
      let m1 = subst (λ (z : Reading). ComesTo table z (t' ∷ before) rest' f) (sym same) m' in
      let m2 = subst (λ (z : Token). ComesTo table y (z ∷ before) rest' f) (sym o.0) m1 in
      let m3 = subst (λ (l : List ℕ). ComesTo table y (t ∷ before) l f) (sym o.1) m2 in
      one_ending y (t ∷ before) rest e f m m3
  one_ending x before text e _ (goes_on y t rest c n m) (refused t' rest' why c' n') =
      let o = one_cut (cutting before) text t t' rest rest' c c' in
      let r : Ok y ≡ Err why = sym n ∙ ap (next_read table x) o.0 ∙ n' in
      cc
  one_ending x before text e _ (goes_on y t rest c n m) (no_token b) = absurd (b.1 t rest c)
  one_ending x before text e _ (goes_on y t rest c n m) (ended z) = absurd (some_octets (cutting before) text t rest c z)
  one_ending x before text _ f (refused t rest why c n) (goes_on y' t' rest' c' n' m') =
      let o = one_cut (cutting before) text t t' rest rest' c c' in
      let r : Err why ≡ Ok y' = sym n ∙ ap (next_read table x) o.0 ∙ n' in
      cc
  one_ending x before text _ _ (refused t rest why c n) (refused t' rest' why' c' n') =
      let o = one_cut (cutting before) text t t' rest rest' c c' in
      let r : Err why ≡ Err why' = sym n ∙ ap (next_read table x) o.0 ∙ n' in
      let same : why ≡ why' = cc in
      ap (λ w. Stopped (length (skip text)) w) same
  one_ending x before text _ _ (refused t rest why c n) (no_token b) = absurd (b.1 t rest c)
  one_ending x before text _ _ (refused t rest why c n) (ended z) = absurd (some_octets (cutting before) text t rest c z)
  one_ending x before text _ f (no_token b) (goes_on y t rest c n m) = absurd (b.1 t rest c)
  one_ending x before text _ _ (no_token b) (refused t rest why c n) = absurd (b.1 t rest c)
  one_ending x before text _ _ (no_token b) (no_token d) = refl
  one_ending x before text _ _ (no_token b) (ended z) = absurd (b.0 z)
  one_ending x before text _ f (ended z) (goes_on y t rest c n m) = absurd (some_octets (cutting before) text t rest c z)
  one_ending x before text _ _ (ended z) (refused t rest why c n) = absurd (some_octets (cutting before) text t rest c z)
  one_ending x before text _ _ (ended z) (no_token b) = absurd (b.0 z)
  one_ending x before text _ _ (ended z) (ended y) = refl

  pub comes_after : (x y : Reading) (before : List Token) (text : List ℕ) (ts : List Token) (mid : List ℕ) (e : Ending) → Begins before text ts mid → all_read table x ts ≡ Ok y
      → ComesTo table y (after before ts) mid e → ComesTo table x before text e
  comes_after x y before text [] mid e b r c =
      let same : x ≡ y = cc in
      subst (λ (l : List ℕ). ComesTo table x before l e) (sym b) (subst (λ (z : Reading). ComesTo table z before mid e) (sym same) c)
  comes_after x y before text (t ∷ ts) mid e b r c = by (next_read table x t) refl r (λ z r. comes_after z y (t ∷ before) b.0 ts mid e b.2 r c) where
    by : (o : Result Reading TextReason) → next_read table x t ≡ o → go_on table o ts ≡ Ok y → ((z : Reading) → all_read table z ts ≡ Ok y → ComesTo table z (t ∷ before) b.0 e)
        → ComesTo table x before text e
    by (Ok z) f r again = goes_on z t b.0 b.1 f (again z r)
    by (Err why) f r again = cc

module _ (w : Setting) (text : List ℕ) where
  pub one : (e : Ending) × ComesTo w.table (nothing_read w) [] text e × ((f : Ending) → ComesTo w.table (nothing_read w) [] text f → f ≡ e)
  one =
      let r = comes w.table (length text + 1) (nothing_read w) [] text (omega arith) in
      (r.0, r.1, λ f c. one_ending w.table (nothing_read w) [] text f r.0 c r.1)

  -- a graph's text comes to its end
  pub graph_comes : (g : Graph) → ReadsAs w text g → (x : Reading) × ComesTo w.table (nothing_read w) [] text (Whole x)
  graph_comes g r =
      let ts : List Token = graph_tokens r.version w g in
      let z : Reading = reading r.version (ACellLine ∷ []) (all_noted w g) (length g.cells) in
      let e = ap (all_read w.table (nothing_read w)) (sym (append-nil ts)) ∙ graph_reads w r.version g r.readable [] in
      (z, comes_after w.table (nothing_read w) z [] text ts r.rest (Whole z) r.tokens e (ended r.ended))

  module _ (side : IsLegalSide w) (short : length text ≤ TEXT_LIMIT) where
    whole_from : (x : Reading) (before : List Token) (left : List ℕ) (e : Ending) → ComesTo w.table x before left e → (z : Reading) → e ≡ Whole z → (ts : List Token) → before ≡ after [] ts
        → all_read w.table (nothing_read w) ts ≡ Ok x → Begins [] text ts left → (g : Graph) × ReadsAs w text g
    whole_from x before left e (goes_on y t rest cut next more) z is ts b r begins =
        let cut' = subst (λ (l : List Token). IsCut (cutting l) left t rest) b cut in
        whole_from y (t ∷ before) rest e more z is (ts ++ t ∷ []) (ap (λ (l : List Token). t ∷ l) b ∙ sym (after_more [] ts t))
        (all_both w.table (nothing_read w) ts (t ∷ []) ∙ ap (λ o. go_on w.table o (t ∷ [])) r ∙ ap (λ o. go_on w.table o []) next)
        (begins_more [] text ts left t rest begins cut')
    whole_from x before left _ (refused t rest why c n) z is ts b r begins = cc
    whole_from x before left _ (no_token bad) z is ts b r begins = cc
    whole_from x before left _ (ended nothing) z is ts b r begins = by (may_end x) refl is where
      by : (m : Bool) → may_end x ≡ m → elim m as (λ _. Ending) [ true ↦ Whole x | false ↦ Stopped 0 reason.Expected ] ≡ Whole z → (g : Graph) × ReadsAs w text g
      by false m i = cc
      by true m i =
          let g = back w side.legal.types_known (legal_roots w side) ts x (begins_real [] text ts left begins) r m in (
            g.graph,
            record {
              short = short;
              version = g.version;
              readable = g.readable;
              rest = left;
              tokens = subst (λ (l : List Token). Begins [] text l left) (sym g.tokens) begins;
              ended = nothing;
            },
          )

    pub whole : (x : Reading) → ComesTo w.table (nothing_read w) [] text (Whole x) → (g : Graph) × ReadsAs w text g
    whole x c = whole_from (nothing_read w) [] text (Whole x) c x refl [] refl refl refl

    pub stopped : (left : ℕ) (why : TextReason) → ComesTo w.table (nothing_read w) [] text (Stopped left why) → IsFirstFault w text (length text - left) why
    stopped left why c = first_fault w text left why side short c

  -- ## One of two

  abbrev IsGood : Type 0
  IsGood = (g : Graph) × ReadsAs w text g

  abbrev IsFaulty : Type 0
  IsFaulty = (line : ℕ) × (column : ℕ) × (why : TextReason) × IsTextFault w text line column why

  faulty : (left : ℕ) (why : TextReason) (line column : ℕ) → IsFirstFault w text (length text - left) why → position_of text (length text - left) ≡ (line, column) → IsTextFault w text line column why
  faulty left reason.TooLong line column f p = absurd f.reason
  faulty left reason.BadToken line column f p = (length text - left, f, p)
  faulty left reason.Expected line column f p = (length text - left, f, p)
  faulty left reason.OtherName line column f p = (length text - left, f, p)
  faulty left reason.OutOfOrder line column f p = (length text - left, f, p)
  faulty left reason.Unnamed line column f p = (length text - left, f, p)

  pub one_of_two : IsLegalSide w → IsGood ⊎ IsFaulty
  one_of_two side = by (cases_lt TEXT_LIMIT (length text)) where
    short : length text ≤ TEXT_LIMIT → (e : Ending) → ComesTo w.table (nothing_read w) [] text e → IsGood ⊎ IsFaulty
    short few (Whole x) c = inl (whole side few x c)
    short few (Stopped left why) c =
        let p : ℕ × ℕ = position_of text (length text - left) in
        inr (p.0, p.1, why, faulty left why p.0 p.1 (stopped side few left why c) refl)

    by : (TEXT_LIMIT < length text) ⊎ (length text ≤ TEXT_LIMIT) → IsGood ⊎ IsFaulty
    by (inl long) = inr (1, 1, reason.TooLong, (long, refl, refl))
    by (inr few) = short few one.0 one.1
