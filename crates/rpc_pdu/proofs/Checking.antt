-- What checks of octets say of these octets with other octets after them.
use Rattle.std.proofs.Common.{◌≡◌, ◌∙◌, ℕ, ◌+◌, ◌-◌, ◌≤◌, Bool, true, false, ltb, List, [], ◌∷◌, ◌++◌, length, Option, Some, None, refl, ap, sym, arith}
use Rattle.std.proofs.lemmas.Bool.Decides.{nat_tests}
use Rattle.std.proofs.lemmas.List.{length-append}
use Rattle.rpc_pdu.specs.declared.pdu.Wanted.{Wanted}
use Rattle.rpc_pdu.specs.declared.pdu.Wanted.TheVariants.{Request, Response}
use Rattle.rpc_pdu.specs.declared.pdu.PduReason.{PduReason}
use Rattle.rpc_pdu.specs.declared.pdu.PduReason.TheVariants as why
use Rattle.rpc_pdu.specs.Checks.{is_last, fragment_length, header_by, header_length, opening_of, Before, Check, check, first_failing, common_checks, whole_checks}

abbrev pub Answer : Type 0
Answer = Option (ℕ × PduReason)

-- what is answered is not that octets are too short
abbrev pub NotShort : Answer → Type 0
NotShort r = (p : ℕ) → r ≡ Some (p, why.Short) → ⊥

-- ## Lists of checks

-- a check that passes
pub passes : (b : Bool) (p : ℕ) (w : PduReason) (cs : List Check) → b ≡ false → first_failing (check b p w ∷ cs) ≡ first_failing cs
passes b p w cs e = ap (λ c. first_failing (check c p w ∷ cs)) e

-- a check that fails
pub fails : (b : Bool) (p : ℕ) (w : PduReason) (cs : List Check) → b ≡ true → first_failing (check b p w ∷ cs) ≡ Some (p, w)
fails b p w cs e = ap (λ c. first_failing (check c p w ∷ cs)) e

-- one that was not answered passes
pub passed : (b : Bool) (p : ℕ) (w : PduReason) (cs : List Check) → first_failing (check b p w ∷ cs) ≡ None → (b ≡ false) × (first_failing cs ≡ None)
passed true p w cs h = cc
passed false p w cs h = (refl, h)

-- all of these checks pass
abbrev pub Pass : List Check → Type 0
Pass [] = Unit {0}
Pass (c ∷ cs) = (c.fails ≡ false) × Pass cs

by_pass : (b : Bool) (p : ℕ) (w : PduReason) (cs : List Check) → first_failing (check b p w ∷ cs) ≡ None → (first_failing cs ≡ None → Pass cs) → (b ≡ false) × Pass cs
by_pass true p w cs h next = cc
by_pass false p w cs h next = (refl, next h)

pub each_passes : (cs : List Check) → first_failing cs ≡ None → Pass cs
each_passes [] h = tt
each_passes (c ∷ cs) h = by_pass c.fails c.place c.why cs h (each_passes cs)

-- checks before others
by_first : (b : Bool) (p : ℕ) (w : PduReason) (cs ds : List Check) → first_failing (check b p w ∷ cs) ≡ None → (first_failing cs ≡ None → first_failing (cs ++ ds) ≡ first_failing ds)
    → first_failing (check b p w ∷ (cs ++ ds)) ≡ first_failing ds
by_first true p w cs ds h next = cc
by_first false p w cs ds h next = next h

pub all_pass : (cs ds : List Check) → first_failing cs ≡ None → first_failing (cs ++ ds) ≡ first_failing ds
all_pass [] ds h = refl
all_pass (c ∷ cs) ds h = by_first c.fails c.place c.why cs ds h (all_pass cs ds)

by_failing : (b : Bool) (p : ℕ) (w : PduReason) (cs ds : List Check) (r : ℕ × PduReason) → first_failing (check b p w ∷ cs) ≡ Some r
    → (first_failing cs ≡ Some r → first_failing (cs ++ ds) ≡ Some r) → first_failing (check b p w ∷ (cs ++ ds)) ≡ Some r
by_failing true p w cs ds r h next = h
by_failing false p w cs ds r h next = next h

pub one_fails : (cs ds : List Check) (r : ℕ × PduReason) → first_failing cs ≡ Some r → first_failing (cs ++ ds) ≡ Some r
one_fails [] ds r h = cc
one_fails (c ∷ cs) ds r h = by_failing c.fails c.place c.why cs ds r h (one_fails cs ds r)

-- neither these nor others fail
by_none : (b : Bool) (p : ℕ) (w : PduReason) (cs ds : List Check) → first_failing (check b p w ∷ (cs ++ ds)) ≡ None
    → (first_failing (cs ++ ds) ≡ None → (first_failing cs ≡ None) × (first_failing ds ≡ None)) → (first_failing (check b p w ∷ cs) ≡ None) × (first_failing ds ≡ None)
by_none true p w cs ds h next = cc
by_none false p w cs ds h next = next h

pub both_pass : (cs ds : List Check) → first_failing (cs ++ ds) ≡ None → (first_failing cs ≡ None) × (first_failing ds ≡ None)
both_pass [] ds h = (refl, h)
both_pass (c ∷ cs) ds h = by_none c.fails c.place c.why cs ds h (both_pass cs ds)

-- the same checks first, and then others that come to the same
by_alike : (b : Bool) (p : ℕ) (w : PduReason) (cs ds : List Check) → first_failing cs ≡ first_failing ds → first_failing (check b p w ∷ cs) ≡ first_failing (check b p w ∷ ds)
by_alike true p w cs ds h = refl
by_alike false p w cs ds h = h

pub alike_after : (cs ds es : List Check) → first_failing ds ≡ first_failing es → first_failing (cs ++ ds) ≡ first_failing (cs ++ es)
alike_after [] ds es h = h
alike_after (c ∷ cs) ds es h = by_alike c.fails c.place c.why (cs ++ ds) (cs ++ es) (alike_after cs ds es h)

-- the same checks first, and then others
by_group : (b : Bool) (p : ℕ) (w : PduReason) (cs ds es : List Check) (r : Answer) → first_failing (check b p w ∷ (cs ++ ds)) ≡ r
    → (first_failing (check b p w ∷ cs) ≡ None → first_failing ds ≡ r → first_failing es ≡ r)
    → (first_failing (cs ++ ds) ≡ r → (first_failing cs ≡ None → first_failing ds ≡ r → first_failing es ≡ r) → first_failing (cs ++ es) ≡ r)
    → first_failing (check b p w ∷ (cs ++ es)) ≡ r
by_group true p w cs ds es r h next go = h
by_group false p w cs ds es r h next go = go h next

pub group_step : (cs ds es : List Check) (r : Answer) → first_failing (cs ++ ds) ≡ r → (first_failing cs ≡ None → first_failing ds ≡ r → first_failing es ≡ r)
    → first_failing (cs ++ es) ≡ r
group_step [] ds es r h next = next refl h
group_step (c ∷ cs) ds es r h next = by_group c.fails c.place c.why cs ds es r h next (group_step cs ds es r)

-- octets are not too short, and so are more octets
pub short_step : (b c : Bool) (p q : ℕ) (cs ds : List Check) (r : Answer) → NotShort r → (b ≡ false → c ≡ false) → first_failing (check b p why.Short ∷ cs) ≡ r
    → (b ≡ false → first_failing cs ≡ r → first_failing ds ≡ r) → first_failing (check c q why.Short ∷ ds) ≡ r
short_step true c p q cs ds r not same h next = absurd (not p (sym h))
short_step false c p q cs ds r not same h next = passes c q why.Short ds (same refl) ∙ next refl h

-- ## Fields of octets with other octets after them

pub longer : (n : ℕ) (os more : List ℕ) → ltb (length os) n ≡ false → ltb (length (os ++ more)) n ≡ false
longer n os more h = let e : length (os ++ more) ≡ length os + length more = length-append os more in grind (arith, nat_tests)

pub is_long : (n : ℕ) (os : List ℕ) → ltb (length os) n ≡ false → n ≤ length os
is_long n os h = grind (arith, nat_tests)

pub long_enough : (n : ℕ) (os : List ℕ) → n ≤ length os → ltb (length os) n ≡ false
long_enough n os h = grind (arith, nat_tests)

pub below_or : (a b : ℕ) → ltb a b ≡ false → b ≤ a
below_or a b h = grind (arith, nat_tests)

pub common_same : (want : Wanted) (s : Before) (os more : List ℕ) → 16 ≤ length os → common_checks want s (os ++ more) ≡ common_checks want s os
common_same want s (a0 ∷ a1 ∷ a2 ∷ a3 ∷ a4 ∷ a5 ∷ a6 ∷ a7 ∷ a8 ∷ a9 ∷ a10 ∷ a11 ∷ a12 ∷ a13 ∷ a14 ∷ a15 ∷ os) more h = refl
common_same want s os more h = absurd (omega (arith, h))

pub header_same : (want : Wanted) (os more : List ℕ) → 16 ≤ length os → header_length want (os ++ more) ≡ header_length want os
header_same want (a0 ∷ a1 ∷ a2 ∷ a3 ∷ a4 ∷ a5 ∷ a6 ∷ a7 ∷ a8 ∷ a9 ∷ a10 ∷ a11 ∷ a12 ∷ a13 ∷ a14 ∷ a15 ∷ os) more h = refl
header_same want os more h = absurd (omega (arith, h))

pub length_same : (os more : List ℕ) → 16 ≤ length os → fragment_length (os ++ more) ≡ fragment_length os
length_same (a0 ∷ a1 ∷ a2 ∷ a3 ∷ a4 ∷ a5 ∷ a6 ∷ a7 ∷ a8 ∷ a9 ∷ a10 ∷ a11 ∷ a12 ∷ a13 ∷ a14 ∷ a15 ∷ os) more h = refl
length_same os more h = absurd (omega (arith, h))

pub last_same : (os more : List ℕ) → 16 ≤ length os → is_last (os ++ more) ≡ is_last os
last_same (a0 ∷ a1 ∷ a2 ∷ a3 ∷ a4 ∷ a5 ∷ a6 ∷ a7 ∷ a8 ∷ a9 ∷ a10 ∷ a11 ∷ a12 ∷ a13 ∷ a14 ∷ a15 ∷ os) more h = refl
last_same os more h = absurd (omega (arith, h))

pub whole_same : (want : Wanted) (s : Before) (os more : List ℕ) → 24 ≤ length os → whole_checks want s (os ++ more) ≡ whole_checks want s os
whole_same want s (a0 ∷ a1 ∷ a2 ∷ a3 ∷ a4 ∷ a5 ∷ a6 ∷ a7 ∷ a8 ∷ a9 ∷ a10 ∷ a11 ∷ a12 ∷ a13 ∷ a14 ∷ a15 ∷ a16 ∷ a17 ∷ a18 ∷ a19 ∷ a20 ∷ a21 ∷ a22 ∷ a23 ∷ os) more h = refl
whole_same want s os more h = absurd (omega (arith, h))

pub opening_same : (want : Wanted) (os more : List ℕ) → 24 ≤ length os → opening_of want (os ++ more) ≡ opening_of want os
opening_same want (a0 ∷ a1 ∷ a2 ∷ a3 ∷ a4 ∷ a5 ∷ a6 ∷ a7 ∷ a8 ∷ a9 ∷ a10 ∷ a11 ∷ a12 ∷ a13 ∷ a14 ∷ a15 ∷ a16 ∷ a17 ∷ a18 ∷ a19 ∷ a20 ∷ a21 ∷ a22 ∷ a23 ∷ os) more h = refl
opening_same want os more h = absurd (omega (arith, h))

-- a header has at least 24 octets, and at most 40
pub least_header : (want : Wanted) (object : Bool) → 24 ≤ header_by want object
least_header Request true = omega arith
least_header Request false = omega arith
least_header Response object = omega arith

pub most_header : (want : Wanted) (object : Bool) → header_by want object ≤ 40
most_header Request true = omega arith
most_header Request false = omega arith
most_header Response object = omega arith
