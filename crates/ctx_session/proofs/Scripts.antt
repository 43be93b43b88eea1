-- A script under check: what is before a place are lines.
use Rattle.std.proofs.Common.{◌≡◌, ◌⊎◌, ◌∙◌, ap, sym, refl, subst, ℕ, zero, suc, ◌+◌, ◌<◌, ◌≤◌, List, [], ◌∷◌, ◌++◌, length, take, drop, Option, Some, None, arith, append_assoc, length-append}
use Rattle.std.proofs.Common.{length-drop, inl, inr, append-nil}
use Rattle.std.proofs.lemmas.Option.{same_Some}
use Rattle.ctx_session.specs.Script.{Line, line_of, feed_of, BeginsWith, HasLine, AreLines, none, more, IsOther, IsBadLine, here, later, AreScript, opens_of, opens_in, Open, Use, Close, Down}
use Rattle.ctx_session.specs.Lines.{line_meant}
use Rattle.ctx_session.specs.declared.line.Line.{Line as Read}

-- Octets up to a rest are so many lines.
pub record IsChecked (script rest : List ℕ) (count opens : ℕ) : Type 0 where
  pub lines : List Line
  pub goes : (ls : List Line) → AreLines rest ls → AreLines script (lines ++ ls)
  pub bad : (n : ℕ) → IsBadLine rest n → IsBadLine script (count + n)
  pub count_is : count ≡ length lines
  pub opens_is : opens ≡ opens_in lines
  pub few : count + length rest ≤ length script
  pub few_opens : opens ≤ count

pub start : (script : List ℕ) → IsChecked script script 0 0
start script = record {
  lines = [];
  goes = λ ls p. p;
  bad = λ n p. subst (IsBadLine script) (omega arith) p;
  count_is = refl;
  opens_is = refl;
  few = omega arith;
  few_opens = omega arith;
}

opens_more : (lines : List Line) (line : Line) → opens_in (lines ++ line ∷ []) ≡ opens_in lines + opens_of line
opens_more [] line = omega arith
opens_more (l ∷ lines) line = ap (λ n. opens_of l + n) (opens_more lines line) ∙ (omega arith)

opens_one : (line : Line) → opens_of line ≤ 1
opens_one (Open client id) = omega arith
opens_one (Use id text) = omega arith
opens_one (Close id) = omega arith
opens_one (Down client) = omega arith

pub one_more : {X : Type 0} (xs ys : List X) (x : X) → xs ++ (x ∷ ys) ≡ (xs ++ x ∷ []) ++ ys
one_more [] ys x = refl
one_more (y ∷ xs) ys x = ap (λ l. y ∷ l) (one_more xs ys x)

module _ (script rest : List ℕ) (count opens : ℕ) (c : IsChecked script rest count opens) where
  -- one line more
  pub next : (left : List ℕ) (at : ℕ) (line : Line) → BeginsWith rest at line → at < length rest → left ≡ drop (at + 1) rest
      → IsChecked script left (count + 1) (opens + opens_of line)
  next left at line b h l =
      let one = opens_one line in
      let few = c.few in
      let few_opens = c.few_opens in
      let n : length left + (at + 1) ≡ length rest = (let d = length-drop (at + 1) rest in let e = ap length l in omega (arith, d, e, h)) in
      record {
        lines = c.lines ++ line ∷ [];
        goes = λ ls p. subst (AreLines script) (one_more c.lines ls line) (c.goes (line ∷ ls) (more b (subst (λ x. AreLines x ls) l p)));
        bad = λ m p. subst (IsBadLine script) (omega arith) (c.bad (suc m) (later b (subst (λ x. IsBadLine x m) l p)));
        count_is = ap (λ n. n + 1) c.count_is ∙ sym (length-append c.lines (line ∷ []));
        opens_is = ap (λ n. n + opens_of line) c.opens_is ∙ sym (opens_more c.lines line);
        few = omega (arith, n, few);
        few_opens = omega (arith, one, few_opens);
      }

  pub not_a_line : IsOther rest → IsBadLine script (count + 1)
  not_a_line other = c.bad 1 (here other)

  -- the end of a script
  pub all : length rest ≡ 0 → AreScript script count opens
  all h = record {
    lines = c.lines;
    are_lines = by rest c h;
    count_is = c.count_is;
    opens_is = c.opens_is;
  }
    where
      by : (r : List ℕ) (d : IsChecked script r count opens) → length r ≡ 0 → AreLines script d.lines
      by [] d e = subst (AreLines script) (simp append-nil) (d.goes [] none)
      by (x ∷ r) d e = cc

-- octets without a line at their front
pub other_feed : (octets : List ℕ) → feed_of octets ≡ None → 0 < length octets → IsOther octets
other_feed octets f h = record { some = λ e. absurd (omega (arith, h, ap length e)); other = inl f }

pub other_line : (octets : List ℕ) (at : ℕ) → feed_of octets ≡ Some at → line_of (take at octets) ≡ None → 0 < length octets → IsOther octets
other_line octets at f l h = record { some = λ e. absurd (omega (arith, h, ap length e)); other = inr (at, f, l) }

-- octets with a line at their front
pub never_other : (octets : List ℕ) → HasLine octets → IsOther octets → ⊥
never_other octets (at, line, b) o = by o.other
  where
    by : (feed_of octets ≡ None) ⊎ ((i : ℕ) × (feed_of octets ≡ Some i) × (line_of (take i octets) ≡ None)) → ⊥
    by (inl f) = let e = sym b.feed ∙ f in cc
    by (inr (i, f, n)) =
        let same = same_Some at i (sym b.feed ∙ f) in
        let e : Some line ≡ None = sym b.line_is ∙ ap (λ k. line_of (take k octets)) same ∙ n in
        cc

pub never_none : (octets : List ℕ) → HasLine octets → (0 < length octets → IsOther octets) → ⊥
never_none [] (at, line, b) o = let e = b.feed in cc
never_none (x ∷ octets) h o = never_other (x ∷ octets) h (o (omega arith))

pub begins : (octets front : List ℕ) (at : ℕ) (read : Read) → Some at ≡ feed_of octets → front ≡ take at octets → Some (line_meant front read) ≡ line_of front
    → BeginsWith octets at (line_meant (take at octets) read)
begins octets front at read f b l = record {
  feed = sym f;
  line_is = ap line_of (sym b) ∙ sym l ∙ ap (λ k. Some (line_meant k read)) b;
}
