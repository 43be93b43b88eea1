-- Calls one after the other.
-- `x` is what is read of the stream.
use Rattle.std.proofs.Common.{◌≡◌, ℕ, ◌+◌, Bool, true, false, List, [], ◌∷◌, ◌++◌, length, refl, ap, sym, ◌∙◌, subst, append_assoc, arith}
use Rattle.std.specs.Prelude.{cond, not, if◌then◌else◌}
use Rattle.std.specs.Io.KnownBytes.{Consumes, IsAtEnd}
use Rattle.std.proofs.KnownBytes.{Consumes-trans}
use Rattle.nd_base.specs.declared.octets.Order.{Order}
use Rattle.nd_base.specs.Over.{SourceOver}
use Rattle.nd_value.specs.declared.item.Item.{Item}
use Rattle.nd_value.specs.Logged.{Logged}
use Rattle.nd_value.specs.Setting.{Setting}
use Rattle.nd_grammar.specs.declared.reason.Reason.{Reason}
use Rattle.nd_grammar.specs.declared.reason.Reason.TheVariants as reason
use Rattle.nd_grammar.specs.Items.{is_gap, but_gaps}
use Rattle.nd_grammar.specs.decoded.Verdict.{DecodingSeen, HasNoted, with_items}
use Rattle.ndr_decoder_laws.specs.stream.Calls.{Follows, Took, TookPart, Refused, Unread, CutOff}
use Rattle.ndr_decoder_laws.specs.stream.Report.{Extent, StreamRefused, StreamCut}

pub gaps_apart : (xs ys : List Item) → length (but_gaps (xs ++ ys)) ≡ length (but_gaps xs) + length (but_gaps ys)
gaps_apart [] ys = omega arith
gaps_apart (x ∷ xs) ys = go (not (is_gap x.kind)) (gaps_apart xs ys)
  where
    go : (b : Bool) → length (but_gaps (xs ++ ys)) ≡ length (but_gaps xs) + length (but_gaps ys)
        → length (cond b (x ∷ but_gaps (xs ++ ys)) (but_gaps (xs ++ ys))) ≡ length (cond b (x ∷ but_gaps xs) (but_gaps xs)) + length (but_gaps ys)
    go true e = omega (arith, e)
    go false e = e

-- a log with items, and others after them
pub noted_twice : (xs ys : List Item) (g : Logged) → with_items ys (with_items xs g) ≡ with_items (xs ++ ys) g
noted_twice xs ys g = go g.keeps
  where
    go : (b : Bool) → with_items ys (record { keeps = b; items = if b then g.items ++ xs else g.items }) ≡ record { keeps = b; items = if b then g.items ++ (xs ++ ys) else g.items }
    go true = ap (λ u. record { keeps = true; items = u }) (append_assoc g.items xs ys)
    go false = refl

module _ (a b c : SourceOver) (s t u : DecodingSeen) (f : Follows a b c s t u) where
  taken_twice : (xs ys : List ℕ) → Consumes a.left a.left_now xs → Consumes b.left b.left_now ys → Consumes c.left c.left_now (xs ++ ys)
  taken_twice xs ys x y =
      subst (λ o. Consumes o c.left_now (xs ++ ys)) (sym f.before)
      (subst (λ o. Consumes a.left o (xs ++ ys)) (sym f.after)
      (Consumes-trans a.left a.left_now b.left_now xs ys x (subst (λ o. Consumes o b.left_now ys) (sym f.middle) y)))

  logged_twice : (xs ys : List Item) → HasNoted xs s → HasNoted ys t → HasNoted (xs ++ ys) u
  logged_twice xs ys x y =
      f.log_now ∙ y ∙ ap (with_items ys) (sym f.log_middle ∙ x) ∙ noted_twice xs ys s.log ∙ ap (with_items (xs ++ ys)) (sym f.log)

  pub took_twice : (n n' n'' : ℕ) (os ps : List ℕ) (xs ys : List Item) → Took a s n os xs n' → Took b t n' ps ys n'' → Took c u n (os ++ ps) (xs ++ ys) n''
  took_twice n n' n'' os ps xs ys x y =
      let i = x.steps in
      let j = y.steps in
      let g = gaps_apart xs ys in
      let k = f.steps in
      let l = f.steps_middle in
      let m = f.steps_now in
      record { left = taken_twice os ps x.left y.left; logged = logged_twice xs ys x.logged y.logged; steps = omega (arith, i, j, g, k, l, m) }

  took_part : (n n' n'' : ℕ) (os ps : List ℕ) (xs ys : List Item) → Took a s n os xs n' → TookPart b t n' ps ys n'' → TookPart c u n (os ++ ps) (xs ++ ys) n''
  took_part n n' n'' os ps xs ys x y =
      let i = x.steps in
      let j = y.steps in
      let g = gaps_apart xs ys in
      let k = f.steps in
      let l = f.steps_middle in
      let m = f.steps_now in
      record { left = taken_twice os ps x.left y.left; logged = logged_twice xs ys x.logged y.logged; steps = omega (arith, i, j, g, k, l, m) }

  module _ (x : Extent) (w : Setting) (order : Order) (fetched : List ℕ) (noted : List Item) (n n' : ℕ) (os : List ℕ) (xs : List Item) (took : Took a s n os xs n') where
    pub took_then_refused : (place : ℕ) (why : Reason) → Refused x w order (fetched ++ os) (noted ++ xs) n' b t place why → Refused x w order fetched noted n c u place why
    took_then_refused place why r = record {
      octets = os ++ r.octets;
      items = xs ++ r.items;
      n' = r.n';
      refused = subst (λ z. StreamRefused x w order z (noted ++ (xs ++ r.items)) r.n' place why) (append_assoc fetched os r.octets)
          (subst (λ z. StreamRefused x w order ((fetched ++ os) ++ r.octets) z r.n' place why) (append_assoc noted xs r.items) r.refused);
      took = took_part n n' r.n' os r.octets xs r.items took r.took;
      ended = λ e. f.ended ∙ r.ended e;
      none_left = λ e. subst IsAtEnd (sym f.after) (r.none_left e);
    }

    pub took_then_unread : Unread x w order (fetched ++ os) (noted ++ xs) n' b t → Unread x w order fetched noted n c u
    took_then_unread r = record {
      octets = os ++ r.octets;
      items = xs ++ r.items;
      n' = r.n';
      short = subst (λ z. StreamRefused x w order z (noted ++ (xs ++ r.items)) r.n' (length z) reason.Truncated) (append_assoc fetched os r.octets)
          (subst (λ z. StreamRefused x w order ((fetched ++ os) ++ r.octets) z r.n' (length ((fetched ++ os) ++ r.octets)) reason.Truncated) (append_assoc noted xs r.items) r.short);
      took = took_part n n' r.n' os r.octets xs r.items took r.took;
    }

    pub took_then_cut : CutOff x w order (fetched ++ os) (noted ++ xs) n' b t → CutOff x w order fetched noted n c u
    took_then_cut r = record {
      octets = os ++ r.octets;
      items = xs ++ r.items;
      n' = r.n';
      cut = subst (λ z. StreamCut x w order z (noted ++ (xs ++ r.items)) r.n') (append_assoc fetched os r.octets)
          (subst (λ z. StreamCut x w order ((fetched ++ os) ++ r.octets) z r.n') (append_assoc noted xs r.items) r.cut);
      took = took_part n n' r.n' os r.octets xs r.items took r.took;
    }
