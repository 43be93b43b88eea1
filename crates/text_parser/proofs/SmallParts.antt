-- Parts of a few tokens.
use Rattle.std.proofs.Common.{◌≡◌, ◌≢◌, ℕ, zero, suc, ℤ, pos, Bool, true, false, not, eqb, List, [], ◌∷◌, refl, ap, subst}
use Rattle.std.proofs.lemmas.Slice.Eq.{bytes_eq-Decides}
use Rattle.std.proofs.lemmas.Bool.{eq-eqb}
use Rattle.nd_types.specs.Table.{Table}
use Rattle.text_grammar.specs.declared.version.Version.{Version}
use Rattle.text_grammar.specs.declared.fault.TextReason.TheVariants as reason
use Rattle.text_grammar.specs.Tokens.{Word, Number, Mark, IsCut}
use Rattle.text_grammar.specs.Written.{Name, Other, equals, colon, comma}
use Rattle.text_grammar.specs.Dues.{This, ANumber, ACount, count_due, went_on_if, is_count_token}
use Rattle.text_grammar.specs.Values.{reading}
use Rattle.text_parser.specs.declared.stop.Stop.{Stop}
use Rattle.text_parser.specs.Lexemes.{plain}
use Rattle.text_parser.specs.Misses.{Misses}
use Rattle.text_parser.specs.Passing.{Named, Passes, Halts}
use Rattle.text_parser.specs.ValueParts.{comma_dues, comma_tokens, name_tokens, count_tokens, written_dues, written_tokens}
use Rattle.text_parser.proofs.Passages.{passes_none, passes_one, passes_then, halts_miss, halts_then}

module _ (v : Version) (table : Table) (ns : Named) (text rest : List ℕ) where
  pub mark_passes : (c : ℕ) → eqb c 40 ≡ false → IsCut (plain v) text (Mark c) rest → Passes v table (This (Other (Mark c)) ∷ []) ns text (Mark c ∷ []) [] ns rest
  mark_passes c h cut =
      passes_one v table (This (Other (Mark c)) ∷ []) [] ns ns text rest (Mark c) (ap not h) cut
      (λ more cells. ap (λ b. went_on_if b (reading v (This (Other (Mark c)) ∷ more) ns cells) more reason.Expected) (eq-eqb c c refl))

  pub word_passes : (w : List ℕ) → IsCut (plain v) text (Word w) rest → Passes v table (This (Other (Word w)) ∷ []) ns text (Word w ∷ []) [] ns rest
  word_passes w cut =
      passes_one v table (This (Other (Word w)) ∷ []) [] ns ns text rest (Word w) refl cut
      (λ more cells. ap (λ b. went_on_if b (reading v (This (Other (Word w)) ∷ more) ns cells) more reason.Expected) ((bytes_eq-Decides w w).1 refl))

  pub name_passes : (w : List ℕ) → IsCut (plain v) text (Word w) rest → Passes v table (This (Name w) ∷ []) ns text (Word w ∷ []) [] ns rest
  name_passes w cut =
      passes_one v table (This (Name w) ∷ []) [] ns ns text rest (Word w) refl cut
      (λ more cells. ap (λ b. went_on_if b (reading v (This (Name w) ∷ more) ns cells) more reason.OtherName) ((bytes_eq-Decides w w).1 refl))

  pub number_passes : (z : ℤ) → IsCut (plain v) text (Number z) rest → Passes v table (ANumber ∷ []) ns text (Number z ∷ []) [] ns rest
  number_passes z cut = passes_one v table (ANumber ∷ []) [] ns ns text rest (Number z) refl cut (λ more cells. refl)

  pub count_passes : (n : ℕ) → is_count_token (pos n) ≡ true → IsCut (plain v) text (Number (pos n)) rest → Passes v table (ACount ∷ []) ns text (Number (pos n) ∷ []) [] ns rest
  count_passes n h cut =
      passes_one v table (ACount ∷ []) [] ns ns text rest (Number (pos n)) refl cut
      (λ more cells. ap (λ b. went_on_if b (reading v (ACount ∷ more) ns cells) more reason.Expected) h)

  -- ## Commas

  pub comma_none : (at : ℕ) → at ≡ 0 → text ≡ rest → Passes v table (comma_dues at) ns text (comma_tokens at) [] ns rest
  comma_none zero e same = subst (λ (l : List ℕ). Passes v table [] ns text [] [] ns l) same (passes_none v table [] ns text)
  comma_none (suc at) e same = cc

  pub comma_passes : (at : ℕ) → at ≢ 0 → IsCut (plain v) text (Mark 44) rest → Passes v table (comma_dues at) ns text (comma_tokens at) [] ns rest
  comma_passes zero n cut = absurd (n refl)
  comma_passes (suc at) n cut = mark_passes 44 refl cut

  pub comma_halts : (at : ℕ) (e : Stop) → at ≢ 0 → Misses v (This (Other (Mark 44))) text e → Halts v table (comma_dues at) ns text e
  comma_halts zero e n m = absurd (n refl)
  comma_halts (suc at) e n m = halts_miss v table (This comma) [] ns text e refl m

-- ## Names and counts

module _ (v : Version) (table : Table) (ns : Named) (text mid rest : List ℕ) where
  pub named_passes : (w : List ℕ) → IsCut (plain v) text (Word w) mid → IsCut (plain v) mid (Mark 61) rest → Passes v table (This (Name w) ∷ This equals ∷ []) ns text (name_tokens w) [] ns rest
  named_passes w a b =
      passes_then v table (This (Name w) ∷ []) (This equals ∷ []) ns ns ns text mid rest (Word w ∷ []) (Mark 61 ∷ []) (name_passes v table ns text mid w a) (mark_passes v table ns mid rest 61 refl b)

  pub named_halts : (w : List ℕ) (e : Stop) → IsCut (plain v) text (Word w) mid → Misses v (This (Other (Mark 61))) mid e → Halts v table (This (Name w) ∷ This equals ∷ []) ns text e
  named_halts w e a m =
      halts_then v table (This (Name w) ∷ []) (This equals ∷ []) ns ns text mid (Word w ∷ []) e (name_passes v table ns text mid w a) (halts_miss v table (This equals) [] ns mid e refl m)

  pub colon_passes : (n : ℕ) → is_count_token (pos n) ≡ true → IsCut (plain v) text (Number (pos n)) mid → IsCut (plain v) mid (Mark 58) rest
      → Passes v table count_due ns text (count_tokens n) [] ns rest
  colon_passes n h a b =
      passes_then v table (ACount ∷ []) (This colon ∷ []) ns ns ns text mid rest (Number (pos n) ∷ []) (Mark 58 ∷ []) (count_passes v table ns text mid n h a)
      (mark_passes v table ns mid rest 58 refl b)

  pub colon_halts : (n : ℕ) (e : Stop) → is_count_token (pos n) ≡ true → IsCut (plain v) text (Number (pos n)) mid → Misses v (This (Other (Mark 58))) mid e → Halts v table count_due ns text e
  colon_halts n e h a m =
      halts_then v table (ACount ∷ []) (This colon ∷ []) ns ns text mid (Number (pos n) ∷ []) e (count_passes v table ns text mid n h a) (halts_miss v table (This colon) [] ns mid e refl m)

pub none_written : (v : Version) (table : Table) (ns : Named) (text : List ℕ) (n : ℕ) (b : Bool) → b ≡ false → Passes v table (written_dues b) ns text (written_tokens b n) [] ns text
none_written v table ns text n true e = cc
none_written v table ns text n false e = passes_none v table [] ns text

pub some_written : (v : Version) (table : Table) (ns : Named) (text rest : List ℕ) (n : ℕ) (b : Bool) → b ≡ true → Passes v table count_due ns text (count_tokens n) [] ns rest
    → Passes v table (written_dues b) ns text (written_tokens b n) [] ns rest
some_written v table ns text rest n true e p = p
some_written v table ns text rest n false e p = cc

pub written_halts : (v : Version) (table : Table) (ns : Named) (text : List ℕ) (e : Stop) (b : Bool) → b ≡ true → Halts v table count_due ns text e → Halts v table (written_dues b) ns text e
written_halts v table ns text e true h p = p
written_halts v table ns text e false h p = cc
