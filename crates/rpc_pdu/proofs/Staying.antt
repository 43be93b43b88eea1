-- What octets are refused for, they are refused for whatever follows them, and a whole fragment is one whatever follows it.
use Rattle.std.proofs.Common.{◌≡◌, ◌∙◌, ℕ, ◌+◌, ◌-◌, ◌≤◌, false, ltb, List, [], ◌∷◌, ◌++◌, length, take, drop, Some, None, ap, sym, subst, arith}
use Rattle.std.proofs.lemmas.List.{take-append-le, length-drop}
use lib.Seq.{drop-append-le}
use Rattle.rpc_pdu.specs.declared.pdu.Wanted.{Wanted}
use Rattle.rpc_pdu.specs.declared.pdu.PduReason.TheVariants as why
use Rattle.rpc_pdu.specs.Checks.{has_object, fragment_length, header_length, part_of, opening_of, Before, Check, first_failing, is_short, common_checks, whole_checks, refusal, after, opened}
use Rattle.rpc_pdu.specs.Fragments.{IsFragment}
use Rattle.rpc_pdu.proofs.Checking.{Answer, NotShort, Pass, each_passes, passes, passed, both_pass, alike_after, group_step, short_step, longer, below_or, common_same, header_same, length_same}
use Rattle.rpc_pdu.proofs.Checking.{whole_same, opening_same, least_header}
use Rattle.std.proofs.lemmas.Bool.{le-ltb as not_below}

abbrev pub end_checks : Before → List ℕ → List Check
end_checks s os = is_short s (fragment_length os) os ∷ []

abbrev pub later_checks : Wanted → Before → List ℕ → List Check
later_checks want s os = is_short s (header_length want os) os ∷ (whole_checks want s os ++ end_checks s os)

-- where octets have this many
pub long_from : (want : Wanted) (os : List ℕ) → header_length want os ≤ length os → 24 ≤ length os
long_from want os h = let least : 24 ≤ header_length want os = least_header want (has_object os) in omega (arith, least, h)

end_stays : (s : Before) (os more : List ℕ) (r : Answer) → 16 ≤ length os → NotShort r → first_failing (end_checks s os) ≡ r → first_failing (end_checks s (os ++ more)) ≡ r
end_stays s os more r long not h =
    short_step (ltb (length os) (fragment_length os)) (ltb (length (os ++ more)) (fragment_length (os ++ more))) (s.at + length os) (s.at + length (os ++ more)) [] [] r not
    (λ e. subst (λ n. ltb (length (os ++ more)) n ≡ false) (sym (length_same os more long)) (longer (fragment_length os) os more e)) h (λ e g. g)

later_stays : (want : Wanted) (s : Before) (os more : List ℕ) (r : Answer) → 16 ≤ length os → NotShort r → first_failing (later_checks want s os) ≡ r
    → first_failing (later_checks want s (os ++ more)) ≡ r
later_stays want s os more r long not h =
    short_step (ltb (length os) (header_length want os)) (ltb (length (os ++ more)) (header_length want (os ++ more))) (s.at + length os) (s.at + length (os ++ more))
    (whole_checks want s os ++ end_checks s os) (whole_checks want s (os ++ more) ++ end_checks s (os ++ more)) r not
    (λ e. subst (λ n. ltb (length (os ++ more)) n ≡ false) (sym (header_same want os more long)) (longer (header_length want os) os more e)) h
    (λ e g.
    let all : 24 ≤ length os = long_from want os (below_or (length os) (header_length want os) e) in
    subst (λ cs. first_failing (cs ++ end_checks s (os ++ more)) ≡ r) (sym (whole_same want s os more all))
    (group_step (whole_checks want s os) (end_checks s os) (end_checks s (os ++ more)) r g (λ none k. end_stays s os more r long not k)))

pub stays : (want : Wanted) (s : Before) (os more : List ℕ) (r : Answer) → NotShort r → refusal want s os ≡ r → refusal want s (os ++ more) ≡ r
stays want s os more r not h =
    short_step (ltb (length os) 16) (ltb (length (os ++ more)) 16) (s.at + length os) (s.at + length (os ++ more))
    (common_checks want s os ++ later_checks want s os) (common_checks want s (os ++ more) ++ later_checks want s (os ++ more)) r not
    (longer 16 os more) h
    (λ e g.
    let long : 16 ≤ length os = below_or (length os) 16 e in
    subst (λ cs. first_failing (cs ++ later_checks want s (os ++ more)) ≡ r) (sym (common_same want s os more long))
    (group_step (common_checks want s os) (later_checks want s os) (later_checks want s (os ++ more)) r g (λ none k. later_stays want s os more r long not k)))

-- ## Octets that are accepted

-- where nothing is refused, all that is claimed is there
pub record IsThere (want : Wanted) (os : List ℕ) : Type 0 where
  pub long : 24 ≤ length os
  pub header : header_length want os ≤ fragment_length os
  pub fragment : fragment_length os ≤ length os

pub is_there : (want : Wanted) (s : Before) (os : List ℕ) → refusal want s os ≡ None → IsThere want os
is_there want s os h =
    let a = passed (ltb (length os) 16) (s.at + length os) why.Short (common_checks want s os ++ later_checks want s os) h in
    let b = both_pass (common_checks want s os) (later_checks want s os) a.1 in
    let c = passed (ltb (length os) (header_length want os)) (s.at + length os) why.Short (whole_checks want s os ++ end_checks s os) b.1 in
    let d = both_pass (whole_checks want s os) (end_checks s os) c.1 in
    let e = passed (ltb (length os) (fragment_length os)) (s.at + length os) why.Short [] d.1 in
    let each : Pass (common_checks want s os) = each_passes (common_checks want s os) b.0 in
    record {
      long = long_from want os (below_or (length os) (header_length want os) c.0);
      header = below_or (fragment_length os) (header_length want os) each.1.1.1.1.1.0;
      fragment = below_or (length os) (fragment_length os) e.0;
    }

-- octets of which all that is claimed is there, with other octets after them
pub same_refusal : (want : Wanted) (s : Before) (os more : List ℕ) → IsThere want os → refusal want s (os ++ more) ≡ refusal want s os
same_refusal want s os more there =
    let long : 16 ≤ length os = omega (arith, there.long) in
    let head_there : header_length want os ≤ length os = omega (arith, there.header, there.fragment) in
    let first : ltb (length os) 16 ≡ false = not_below (length os) 16 long in
    let second : ltb (length os) (header_length want os) ≡ false = not_below (length os) (header_length want os) head_there in
    let third : ltb (length os) (fragment_length os) ≡ false = not_below (length os) (fragment_length os) there.fragment in
    let second_more : ltb (length (os ++ more)) (header_length want (os ++ more)) ≡ false =
    subst (λ n. ltb (length (os ++ more)) n ≡ false) (sym (header_same want os more long)) (longer (header_length want os) os more second) in
    let third_more : ltb (length (os ++ more)) (fragment_length (os ++ more)) ≡ false =
    subst (λ n. ltb (length (os ++ more)) n ≡ false) (sym (length_same os more long)) (longer (fragment_length os) os more third) in
    let ends : first_failing (end_checks s (os ++ more)) ≡ first_failing (end_checks s os) =
    passes _ _ why.Short [] third_more ∙ sym (passes _ _ why.Short [] third) in
    let later : first_failing (later_checks want s (os ++ more)) ≡ first_failing (later_checks want s os) =
    passes _ _ why.Short (whole_checks want s (os ++ more) ++ end_checks s (os ++ more)) second_more
    ∙ ap (λ cs. first_failing (cs ++ end_checks s (os ++ more))) (whole_same want s os more there.long)
    ∙ alike_after (whole_checks want s os) (end_checks s (os ++ more)) (end_checks s os) ends
    ∙ sym (passes _ _ why.Short (whole_checks want s os ++ end_checks s os) second) in
    passes _ _ why.Short (common_checks want s (os ++ more) ++ later_checks want s (os ++ more)) (longer 16 os more first)
    ∙ ap (λ cs. first_failing (cs ++ later_checks want s (os ++ more))) (common_same want s os more long)
    ∙ alike_after (common_checks want s os) (later_checks want s (os ++ more)) (later_checks want s os) later
    ∙ sym (passes _ _ why.Short (common_checks want s os ++ later_checks want s os) first)

-- ## What stands after a fragment

part_same : (wide head : ℕ) (os more : List ℕ) → head ≤ wide → wide ≤ length os → take (wide - head) (drop head (os ++ more)) ≡ take (wide - head) (drop head os)
part_same wide head os more first second =
    let within : head ≤ length os = omega (arith, first, second) in
    let left : wide - head ≤ length (drop head os) = rw (length-drop head os) (omega (arith, first, second)) in
    ap (take (wide - head)) (drop-append-le head os more within) ∙ take-append-le (wide - head) (drop head os) more left

pub after_same : (want : Wanted) (s : Before) (os more : List ℕ) → IsThere want os → after want s (os ++ more) ≡ after want s os
after_same want s os more there =
    let long : 16 ≤ length os = omega (arith, there.long) in
    let openings = opening_same want os more there.long in
    let lengths = length_same os more long in
    let headers = header_same want os more long in
    let parts : part_of want (os ++ more) ≡ part_of want os =
    ap (λ n. take (n - header_length want (os ++ more)) (drop (header_length want (os ++ more)) (os ++ more))) lengths
    ∙ ap (λ n. take (fragment_length os - n) (drop n (os ++ more))) headers
    ∙ part_same (fragment_length os) (header_length want os) os more there.header there.fragment in
    let Made : Before → Type 0 = λ b. b ≡ after want s os in
    ap (λ o. record { opening = Some (opened s.opening o); at = s.at + fragment_length (os ++ more); stub = s.stub ++ part_of want (os ++ more) }) openings
    ∙ ap (λ n. record { opening = Some (opened s.opening (opening_of want os)); at = s.at + n; stub = s.stub ++ part_of want (os ++ more) }) lengths
    ∙ ap (λ p. record { opening = Some (opened s.opening (opening_of want os)); at = s.at + fragment_length os; stub = s.stub ++ p }) parts

-- the first octets of others that are accepted, as many as the fragment has, are a fragment
pub first_fragment : (want : Wanted) (s : Before) (os more : List ℕ) → refusal want s (os ++ more) ≡ None → length os ≡ fragment_length (os ++ more) → IsFragment want s os
first_fragment want s os more h e =
    let there = is_there want s (os ++ more) h in
    let least : 24 ≤ header_length want (os ++ more) = least_header want (has_object (os ++ more)) in
    let long : 24 ≤ length os = omega (arith, least, there.header, e) in
    let short : 16 ≤ length os = omega (arith, long) in
    let lengths = length_same os more short in
    let headers = header_same want os more short in
    let mine : IsThere want os = record { long = long; header = omega (arith, there.header, lengths, headers); fragment = omega (arith, e, lengths) } in
    record { accepted = sym (same_refusal want s os more mine) ∙ h; whole = e ∙ lengths }
