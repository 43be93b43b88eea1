-- Agreements that are tried one after the other.
-- `k` is what is kept of a home, `ws` are agreements as code has them.
use Rattle.std.proofs.Common.{◌≡◌, ℕ, ◌+◌, zero, suc, List, [], ◌∷◌, ◌++◌, take, drop, map, Some, Result, Ok, Err, IsErrAnd, sym, ap, ◌∙◌, subst, arith}
use Rattle.std.specs.List.{slice_get}
use Rattle.std.proofs.lemmas.List.{map-append}
use Rattle.ndr_decoder_value.specs.Parts.{IsTried}
use Rattle.ndr_decoder_state.specs.declared.fault.DecodeFault.{DecodeFault}
use Rattle.ndr_decoder_state.specs.declared.fault.DecodeFault.TheVariants as fault
use Rattle.ndr_decoder_state.specs.declared.machine.Wanted.{Wanted}
use Rattle.ndr_decoder_state.specs.Seen.{agreement_of}
use Rattle.ndr_decoder_laws.specs.declared.kept.Kept.{Kept}
use Rattle.ndr_decoder_laws.specs.stream.Tests.{AllAgree, disagreement}
use Rattle.ndr_decode.specs.Tried.{AreTried}

split_at : (ws : List Wanted) (i : ℕ) (w : Wanted) → slice_get ws i ≡ Some w → ws ≡ take i ws ++ w ∷ drop (i + 1) ws
split_at ws i w e = let s : suc i ≡ i + 1 = omega arith in go ws i w e ∙ ap (λ (n : ℕ). take i ws ++ w ∷ drop n ws) s
  where
    go : (ws : List Wanted) (i : ℕ) (w : Wanted) → slice_get ws i ≡ Some w → ws ≡ take i ws ++ w ∷ drop (suc i) ws
    go [] i w e = cc
    go (x ∷ ws) zero w e = ap (λ (y : Wanted). y ∷ ws) (same x w e)
      where
        same : (x w : Wanted) → Some x ≡ Some w → x ≡ w
        same x w e = cc
    go (x ∷ ws) (suc i) w e = ap (λ (l : List Wanted). x ∷ l) (go ws i w e)

-- so far all hold
abbrev pub SoFar : Kept → List Wanted → ℕ → Type 0
SoFar k ws i = AllAgree k (map agreement_of (take i ws))

-- one of them is refused
pub one_refused : (k : Kept) (ws : List Wanted) (i : ℕ) (w : Wanted) (r : Result (Unit {0}) DecodeFault) (e : DecodeFault) → slice_get ws i ≡ Some w → SoFar k ws i
    → IsErrAnd r (λ y. y ≡ e) → IsTried (disagreement (agreement_of w) k.first k.max_at) (Err e) → AreTried (map agreement_of ws) k r
one_refused k ws i w (Ok u) e there h m t = absurd m
one_refused k ws i w (Err y) e there h m t = by y (subst (λ (q : DecodeFault). IsTried (disagreement (agreement_of w) k.first k.max_at) (Err q)) (sym m) t)
  where
    by : (y : DecodeFault) → IsTried (disagreement (agreement_of w) k.first k.max_at) (Err y) → AreTried (map agreement_of ws) k (Err y)
    by fault.Memory t = absurd t
    by fault.ReadFault t = absurd t
    by (fault.Bad place why) t = record {
      before = map agreement_of (take i ws);
      a = agreement_of w;
      others = map agreement_of (drop (i + 1) ws);
      split = ap (map agreement_of) (split_at ws i w there) ∙ map-append agreement_of (take i ws) (w ∷ drop (i + 1) ws);
      agree = h;
      is = t;
    }
