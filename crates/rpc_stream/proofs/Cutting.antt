-- Octets are cut into PDUs in one way, in whatever pieces they come.
use Rattle.std.proofs.Common.{◌≡◌, ◌∙◌, ℕ, ◌+◌, ◌-◌, ◌≤◌, ◌<◌, zero, suc, Bool, true, false, not, ◌&&◌, ◌==◌, ltb, List, [], ◌∷◌, ◌++◌, length, take, drop, refl, ap, sym, subst, arith}
use Rattle.std.proofs.Common.{append_assoc, append-nil, slice_index, ltb-true}
use Rattle.std.proofs.lemmas.Bool.Decides.{nat_tests}
use Rattle.std.proofs.lemmas.List.{length-append, length-drop, length-take-le, take-append-drop}
use lib.Seq.{take-append_seam, drop-append_seam}
use Rattle.rpc_stream.specs.declared.stated.First.{First}
use Rattle.rpc_stream.specs.declared.stated.First.TheVariants.{Waiting, Whole, Wrong}
use Rattle.rpc_stream.specs.declared.stated.StreamReason.{StreamReason}
use Rattle.rpc_stream.specs.declared.stated.StreamReason.TheVariants as why
use Rattle.rpc_stream.specs.Pdus.{is_no_label, fragment_length, first_by, first_of, IsPdu, AllPdus, IsRest, joined, Cut, Fed, none_fed, fed_more, lacking_by, lacking_of, IsTaken}

-- ## What octets with others after them begin with

longer : (n : ℕ) (os more : List ℕ) → ltb (length os) n ≡ false → ltb (length (os ++ more)) n ≡ false
longer n os more h = let e : length (os ++ more) ≡ length os + length more = length-append os more in grind (arith, nat_tests)

at_least : (n : ℕ) (os : List ℕ) → ltb (length os) n ≡ false → n ≤ length os
at_least n os h = grind (arith, nat_tests)

no_less : (a b : ℕ) → ltb a b ≡ false → b ≤ a
no_less a b h = grind (arith, nat_tests)

not_less : (a b : ℕ) → b ≤ a → ltb a b ≡ false
not_less a b h = grind (arith, nat_tests)

version_same : (os more : List ℕ) → 16 ≤ length os → slice_index (os ++ more) 0 ≡ slice_index os 0
version_same (a0 ∷ a1 ∷ a2 ∷ a3 ∷ a4 ∷ a5 ∷ a6 ∷ a7 ∷ a8 ∷ a9 ∷ a10 ∷ a11 ∷ a12 ∷ a13 ∷ a14 ∷ a15 ∷ os) more h = refl
version_same os more h = absurd (omega (arith, h))

label_same : (os more : List ℕ) → 16 ≤ length os → slice_index (os ++ more) 4 ≡ slice_index os 4
label_same (a0 ∷ a1 ∷ a2 ∷ a3 ∷ a4 ∷ a5 ∷ a6 ∷ a7 ∷ a8 ∷ a9 ∷ a10 ∷ a11 ∷ a12 ∷ a13 ∷ a14 ∷ a15 ∷ os) more h = refl
label_same os more h = absurd (omega (arith, h))

pub length_same : (os more : List ℕ) → 16 ≤ length os → fragment_length (os ++ more) ≡ fragment_length os
length_same (a0 ∷ a1 ∷ a2 ∷ a3 ∷ a4 ∷ a5 ∷ a6 ∷ a7 ∷ a8 ∷ a9 ∷ a10 ∷ a11 ∷ a12 ∷ a13 ∷ a14 ∷ a15 ∷ os) more h = refl
length_same os more h = absurd (omega (arith, h))

-- ## What each answer says

-- the tests of octets that begin with a PDU
record Tests (short version label small few : Bool) (n m : ℕ) : Type 0 where
  pub short_is : short ≡ false
  pub version_is : version ≡ false
  pub label_is : label ≡ false
  pub small_is : small ≡ false
  pub few_is : few ≡ false
  pub length_is : n ≡ m

tests_of : (short version label small few : Bool) (n m : ℕ) → first_by short version label small few n ≡ Whole m → Tests short version label small few n m
tests_of true version label small few n m h = cc
tests_of false true label small few n m h = cc
tests_of false false true small few n m h = cc
tests_of false false false true few n m h = cc
tests_of false false false false true n m h = cc
tests_of false false false false false n m h = record { short_is = refl; version_is = refl; label_is = refl; small_is = refl; few_is = refl; length_is = cc }

first_from : (short version label small few : Bool) (n m : ℕ) → Tests short version label small few n m → first_by short version label small few n ≡ Whole m
first_from short version label small few n m t =
    ap (λ b. first_by b version label small few n) t.short_is
    ∙ ap (λ b. first_by false b label small few n) t.version_is
    ∙ ap (λ b. first_by false false b small few n) t.label_is
    ∙ ap (λ b. first_by false false false b few n) t.small_is
    ∙ ap (λ b. first_by false false false false b n) t.few_is
    ∙ ap Whole t.length_is

-- octets begin with a PDU of so many octets
abbrev Begins : List ℕ → ℕ → Type 0
Begins os n =
    Tests (ltb (length os) 16) (not (slice_index os 0 == 5)) (is_no_label (slice_index os 4)) (ltb (fragment_length os) 16) (ltb (length os) (fragment_length os))
    (fragment_length os) n

begins : (os : List ℕ) (n : ℕ) → first_of os ≡ Whole n → Begins os n
begins os n h =
    tests_of (ltb (length os) 16) (not (slice_index os 0 == 5)) (is_no_label (slice_index os 4)) (ltb (fragment_length os) 16) (ltb (length os) (fragment_length os))
    (fragment_length os) n h

has_first : (os : List ℕ) (n : ℕ) → Begins os n → first_of os ≡ Whole n
has_first os n t =
    first_from (ltb (length os) 16) (not (slice_index os 0 == 5)) (is_no_label (slice_index os 4)) (ltb (fragment_length os) 16) (ltb (length os) (fragment_length os))
    (fragment_length os) n t

-- how long it is
pub record Sizes (os : List ℕ) (n : ℕ) : Type 0 where
  pub least : 16 ≤ n
  pub within : n ≤ length os
  pub stated : fragment_length os ≡ n

pub sizes : (os : List ℕ) (n : ℕ) → first_of os ≡ Whole n → Sizes os n
sizes os n h =
    let t = begins os n h in
    let a : 16 ≤ fragment_length os = no_less (fragment_length os) 16 t.small_is in
    let b : fragment_length os ≤ length os = no_less (length os) (fragment_length os) t.few_is in
    record { least = subst (λ k. 16 ≤ k) t.length_is a; within = subst (λ k. k ≤ length os) t.length_is b; stated = t.length_is }

-- ## What stays

pub whole_stays : (os more : List ℕ) (n : ℕ) → first_of os ≡ Whole n → first_of (os ++ more) ≡ Whole n
whole_stays os more n h =
    let t = begins os n h in
    let long : 16 ≤ length os = at_least 16 os t.short_is in
    let same : fragment_length (os ++ more) ≡ fragment_length os = length_same os more long in
    has_first (os ++ more) n (record {
      short_is = longer 16 os more t.short_is;
      version_is = ap (λ x. not (x == 5)) (version_same os more long) ∙ t.version_is;
      label_is = ap is_no_label (label_same os more long) ∙ t.label_is;
      small_is = ap (λ x. ltb x 16) same ∙ t.small_is;
      few_is = ap (λ x. ltb (length (os ++ more)) x) same ∙ longer (fragment_length os) os more t.few_is;
      length_is = same ∙ t.length_is;
    })

-- the octets of a PDU alone
pub front_whole : (os more : List ℕ) → first_of (os ++ more) ≡ Whole (length os) → first_of os ≡ Whole (length os)
front_whole os more h =
    let t = begins (os ++ more) (length os) h in
    let z = sizes (os ++ more) (length os) h in
    let long : 16 ≤ length os = z.least in
    let same : fragment_length (os ++ more) ≡ fragment_length os = length_same os more long in
    let mine : fragment_length os ≡ length os = sym same ∙ t.length_is in
    has_first os (length os) (record {
      short_is = not_less (length os) 16 long;
      version_is = ap (λ x. not (x == 5)) (sym (version_same os more long)) ∙ t.version_is;
      label_is = ap is_no_label (sym (label_same os more long)) ∙ t.label_is;
      small_is = ap (λ x. ltb x 16) (sym same) ∙ t.small_is;
      few_is = not_less (length os) (fragment_length os) (omega (arith, mine));
      length_is = mine;
    })

-- what is refused
wrong_by : (short version label small few : Bool) (short' few' : Bool) (n : ℕ) (place : ℕ) (w : StreamReason) → first_by short version label small few n ≡ Wrong place w
    → (short ≡ false → short' ≡ false) → first_by short' version label small few' n ≡ Wrong place w
wrong_by true version label small few short' few' n place w h stays = cc
wrong_by false true label small few short' few' n place w h stays = ap (λ b. first_by b true label small few' n) (stays refl) ∙ h
wrong_by false false true small few short' few' n place w h stays = ap (λ b. first_by b false true small few' n) (stays refl) ∙ h
wrong_by false false false true few short' few' n place w h stays = ap (λ b. first_by b false false true few' n) (stays refl) ∙ h
wrong_by false false false false true short' few' n place w h stays = cc
wrong_by false false false false false short' few' n place w h stays = cc

is_long : (short version label small few : Bool) (n place : ℕ) (w : StreamReason) → first_by short version label small few n ≡ Wrong place w → short ≡ false
is_long true version label small few n place w h = cc
is_long false version label small few n place w h = refl

pub wrong_stays : (os more : List ℕ) (place : ℕ) (w : StreamReason) → first_of os ≡ Wrong place w → first_of (os ++ more) ≡ Wrong place w
wrong_stays os more place w h =
    let short : ltb (length os) 16 ≡ false =
    is_long (ltb (length os) 16) (not (slice_index os 0 == 5)) (is_no_label (slice_index os 4)) (ltb (fragment_length os) 16) (ltb (length os) (fragment_length os)) (fragment_length os) place w h in
    let long : 16 ≤ length os = at_least 16 os short in
    ap (λ v. first_by (ltb (length (os ++ more)) 16) (not (v == 5)) (is_no_label (slice_index (os ++ more) 4)) (ltb (fragment_length (os ++ more)) 16)
    (ltb (length (os ++ more)) (fragment_length (os ++ more))) (fragment_length (os ++ more))) (version_same os more long)
    ∙ ap (λ v. first_by (ltb (length (os ++ more)) 16) (not (slice_index os 0 == 5)) (is_no_label v) (ltb (fragment_length (os ++ more)) 16)
    (ltb (length (os ++ more)) (fragment_length (os ++ more))) (fragment_length (os ++ more))) (label_same os more long)
    ∙ ap (λ v. first_by (ltb (length (os ++ more)) 16) (not (slice_index os 0 == 5)) (is_no_label (slice_index os 4)) (ltb v 16) (ltb (length (os ++ more)) v) v) (length_same os more long)
    ∙ wrong_by (ltb (length os) 16) (not (slice_index os 0 == 5)) (is_no_label (slice_index os 4)) (ltb (fragment_length os) 16) (ltb (length os) (fragment_length os))
    (ltb (length (os ++ more)) 16) (ltb (length (os ++ more)) (fragment_length os)) (fragment_length os) place w h (longer 16 os more)

-- ## One cut

pub joined_more : (ps qs : List (List ℕ)) → joined (ps ++ qs) ≡ joined ps ++ joined qs
joined_more [] qs = refl
joined_more (p ∷ ps) qs = ap (λ l. p ++ l) (joined_more ps qs) ∙ sym (append_assoc p (joined ps) (joined qs))

all_more : (ps qs : List (List ℕ)) → AllPdus ps → AllPdus qs → AllPdus (ps ++ qs)
all_more [] qs a b = b
all_more (p ∷ ps) qs a b = (a.0, all_more ps qs a.1 b)

same_whole : (n m : ℕ) → Whole n ≡ Whole m → n ≡ m
same_whole n m h = cc

alike : (ps qs : List (List ℕ)) (r l : List ℕ) → joined ps ++ r ≡ joined qs ++ l → AllPdus ps → AllPdus qs → IsRest r → IsRest l → (ps ≡ qs) × (r ≡ l)
alike [] [] r l e a b rest_r rest_l = (refl, e)
alike [] (q ∷ qs) r l e a b rest_r rest_l = absurd (rest_r (length q) (ap first_of (e ∙ append_assoc q (joined qs) l) ∙ whole_stays q (joined qs ++ l) (length q) b.0))
alike (p ∷ ps) [] r l e a b rest_r rest_l = absurd (rest_l (length p) (ap first_of (sym e ∙ append_assoc p (joined ps) r) ∙ whole_stays p (joined ps ++ r) (length p) a.0))
alike (p ∷ ps) (q ∷ qs) r l e a b rest_r rest_l =
    let same : p ++ (joined ps ++ r) ≡ q ++ (joined qs ++ l) = sym (append_assoc p (joined ps) r) ∙ e ∙ append_assoc q (joined qs) l in
    let long : length p ≡ length q =
    same_whole (length p) (length q) (sym (whole_stays p (joined ps ++ r) (length p) a.0) ∙ ap first_of same ∙ whole_stays q (joined qs ++ l) (length q) b.0) in
    let head : p ≡ q =
    sym (take-append_seam p (joined ps ++ r)) ∙ ap (λ n. take n (p ++ (joined ps ++ r))) long ∙ ap (take (length q)) same ∙ take-append_seam q (joined qs ++ l) in
    let tail : joined ps ++ r ≡ joined qs ++ l =
    sym (drop-append_seam p (joined ps ++ r)) ∙ ap (λ n. drop n (p ++ (joined ps ++ r))) long ∙ ap (drop (length q)) same ∙ drop-append_seam q (joined qs ++ l) in
    let rest = alike ps qs r l tail a.1 b.1 rest_r rest_l in
    (ap (λ k. k ∷ ps) head ∙ ap (λ k. q ∷ k) rest.0, rest.1)

pub one : (stream : List ℕ) (pdus others : List (List ℕ)) (rest left : List ℕ) → Cut stream pdus rest → Cut stream others left → (pdus ≡ others) × (rest ≡ left)
one stream pdus others rest left c d = alike pdus others rest left (sym c.whole ∙ d.whole) c.each d.each c.rest_is d.rest_is

-- ## Some cut

abbrev pub HasCut : List ℕ → Type 0
HasCut stream = (pdus : List (List ℕ)) × (rest : List ℕ) × Cut stream pdus rest

none_cut : (os : List ℕ) → IsRest os → HasCut os
none_cut os is_rest = ([], os, record { whole = refl; each = tt; rest_is = is_rest })

one_more : (p os stream : List ℕ) → p ++ os ≡ stream → IsPdu p → HasCut os → HasCut stream
one_more p os stream e is c = (
  p ∷ c.0,
  c.1,
  record {
    whole = sym e ∙ ap (λ l. p ++ l) c.2.whole ∙ sym (append_assoc p (joined c.0) c.1);
    each = (is, c.2.each);
    rest_is = c.2.rest_is;
  },
)

by_first : (os : List ℕ) (f : First) → first_of os ≡ f → ((n : ℕ) → first_of os ≡ Whole n → HasCut os) → HasCut os
by_first os Waiting e go = none_cut os (λ n h. let k : Waiting ≡ Whole n = sym e ∙ h in cc)
by_first os (Wrong place w) e go = none_cut os (λ n h. let k : Wrong place w ≡ Whole n = sym e ∙ h in cc)
by_first os (Whole n) e go = go n e

cut_within : (fuel : ℕ) (os : List ℕ) → length os < fuel → HasCut os
cut_within zero os few = absurd (omega (arith, few))
cut_within (suc fuel) os few =
    by_first os (first_of os) refl (λ n h.
    let z = sizes os n h in
    let split : take n os ++ drop n os ≡ os = take-append-drop n os in
    let long : length (take n os) ≡ n = length-take-le n os z.within in
    let left : length (drop n os) ≡ length os - n = length-drop n os in
    let fewer : length (drop n os) < fuel = omega (arith, left, few, z.least, z.within) in
    let first : first_of (take n os ++ drop n os) ≡ Whole (length (take n os)) = ap first_of split ∙ h ∙ ap Whole (sym long) in
    one_more (take n os) (drop n os) os split (front_whole (take n os) (drop n os) first) (cut_within fuel (drop n os) fewer))

pub some : (stream : List ℕ) → HasCut stream
some stream = cut_within (suc (length stream)) stream (omega arith)

-- ## In any pieces

pub pieces_join : (a b : List ℕ) (ps qs : List (List ℕ)) (r l : List ℕ) → Cut a ps r → Cut (r ++ b) qs l → Cut (a ++ b) (ps ++ qs) l
pieces_join a b ps qs r l c d = record {
  whole =
      ap (λ k. k ++ b) c.whole
      ∙ append_assoc (joined ps) r b
      ∙ ap (λ k. joined ps ++ k) d.whole
      ∙ sym (append_assoc (joined ps) (joined qs) l)
      ∙ ap (λ k. k ++ l) (sym (joined_more ps qs));
  each = all_more ps qs c.each d.each;
  rest_is = d.rest_is;
}

pub fed_cut : (pieces pdus : List (List ℕ)) (rest : List ℕ) → Fed pieces pdus rest → Cut (joined pieces) pdus rest
fed_cut _ _ _ none_fed = record { whole = refl; each = tt; rest_is = λ n h. cc }
fed_cut _ _ _ (fed_more pieces pdus rest piece others left f c) =
    let last : joined (pieces ++ (piece ∷ [])) ≡ joined pieces ++ piece = joined_more pieces (piece ∷ []) ∙ ap (λ l. joined pieces ++ l) (append-nil piece) in
    subst (λ (s : List ℕ). Cut s (pdus ++ others) left) (sym last) (pieces_join (joined pieces) piece pdus others rest left (fed_cut pieces pdus rest f) c)

pub same_pieces : (pieces pieces' pdus pdus' : List (List ℕ)) (rest rest' : List ℕ) → joined pieces ≡ joined pieces' → Fed pieces pdus rest → Fed pieces' pdus' rest'
    → (pdus ≡ pdus') × (rest ≡ rest')
same_pieces pieces pieces' pdus pdus' rest rest' e f g =
    one (joined pieces') pdus pdus' rest rest' (subst (λ (s : List ℕ). Cut s pdus rest) e (fed_cut pieces pdus rest f)) (fed_cut pieces' pdus' rest' g)

-- one step: a PDU, or a part of one
pub whole_step : (os : List ℕ) → IsPdu os → Cut os (os ∷ []) []
whole_step os h = record { whole = sym (append-nil (os ++ []) ∙ append-nil os); each = (h, tt); rest_is = λ n k. cc }

pub part_step : (os : List ℕ) → first_of os ≡ Waiting → Cut os [] os
part_step os h = record { whole = refl; each = tt; rest_is = λ n k. let e : Waiting ≡ Whole n = sym h ∙ k in cc }

-- ## No octet past a PDU

waiting_by : (short version label small few : Bool) (n : ℕ) → first_by short version label small few n ≡ Waiting → short ≡ false → few ≡ true
waiting_by true version label small few n h e = cc
waiting_by false true label small few n h e = cc
waiting_by false false true small few n h e = cc
waiting_by false false false true few n h e = cc
waiting_by false false false false true n h e = refl
waiting_by false false false false false n h e = cc

past_by : (os more : List ℕ) (n : ℕ) (short : Bool) → ltb (length os) 16 ≡ short → first_of os ≡ Waiting → length more ≤ lacking_by short (length os) (fragment_length os)
    → first_of (os ++ more) ≡ Whole n → n ≡ length (os ++ more)
past_by os more n true e w few h =
    let z = sizes (os ++ more) n h in
    let all : length (os ++ more) ≡ length os + length more = length-append os more in
    let below : length os < 16 = ltb-true (length os) 16 e in
    omega (arith, z.least, z.within, all, below, few)
past_by os more n false e w few h =
    let z = sizes (os ++ more) n h in
    let all : length (os ++ more) ≡ length os + length more = length-append os more in
    let long : 16 ≤ length os = at_least 16 os e in
    let same : fragment_length (os ++ more) ≡ fragment_length os = length_same os more long in
    let part : ltb (length os) (fragment_length os) ≡ true =
    waiting_by (ltb (length os) 16) (not (slice_index os 0 == 5)) (is_no_label (slice_index os 4)) (ltb (fragment_length os) 16) (ltb (length os) (fragment_length os)) (fragment_length os) w e in
    let below : length os < fragment_length os = ltb-true (length os) (fragment_length os) part in
    let mine : fragment_length os ≡ n = sym same ∙ z.stated in
    omega (arith, z.within, all, below, mine, few)

pub past : (os more : List ℕ) (n : ℕ) → first_of os ≡ Waiting → length more ≤ lacking_of os → first_of (os ++ more) ≡ Whole n → n ≡ length (os ++ more)
past os more n w few h = past_by os more n (ltb (length os) 16) refl w few h

-- ## What a cutter takes

lacks_by : (os : List ℕ) (short : Bool) → ltb (length os) 16 ≡ short → first_of os ≡ Waiting → 1 ≤ lacking_by short (length os) (fragment_length os)
lacks_by os true e w = let below : length os < 16 = ltb-true (length os) 16 e in omega (arith, below)
lacks_by os false e w =
    let part : ltb (length os) (fragment_length os) ≡ true =
    waiting_by (ltb (length os) 16) (not (slice_index os 0 == 5)) (is_no_label (slice_index os 4)) (ltb (fragment_length os) 16) (ltb (length os) (fragment_length os)) (fragment_length os) w e in
    let below : length os < fragment_length os = ltb-true (length os) (fragment_length os) part in
    omega (arith, below)

lacks_some : (os : List ℕ) → first_of os ≡ Waiting → 1 ≤ lacking_of os
lacks_some os w = lacks_by os (ltb (length os) 16) refl w

pub moves : (rest piece new : List ℕ) (n : ℕ) → first_of rest ≡ Waiting → IsTaken rest piece n new → 1 ≤ length piece → 1 ≤ n
moves rest piece new zero w t some_left = let e : 0 ≡ length piece = t.all (lacks_some rest w) in omega (arith, e, some_left)
moves rest piece new (suc n) w t some_left = omega arith

pub waits : (pieces pdus : List (List ℕ)) (rest piece new : List ℕ) (n : ℕ) → Fed pieces pdus rest → IsTaken rest piece n new → first_of new ≡ Waiting
    → Fed (pieces ++ (take n piece ∷ [])) (pdus ++ []) new
waits pieces pdus rest piece new n f t w =
    fed_more pieces pdus rest (take n piece) [] new f (subst (λ (s : List ℕ). Cut s [] new) t.new_is (part_step new w))

pub cuts : (pieces pdus : List (List ℕ)) (rest piece new : List ℕ) (n m : ℕ) → Fed pieces pdus rest → first_of rest ≡ Waiting → IsTaken rest piece n new → first_of new ≡ Whole m
    → Fed (pieces ++ (take n piece ∷ [])) (pdus ++ (new ∷ [])) []
cuts pieces pdus rest piece new n m f w t h =
    let there : first_of (rest ++ take n piece) ≡ Whole m = ap first_of (sym t.new_is) ∙ h in
    let few : length (take n piece) ≤ lacking_of rest = subst (λ k. k ≤ lacking_of rest) (sym (length-take-le n piece t.within)) t.enough in
    let long : m ≡ length (rest ++ take n piece) = past rest (take n piece) m w few there in
    let mine : first_of new ≡ Whole (length new) = h ∙ ap Whole (long ∙ ap length (sym t.new_is)) in
    fed_more pieces pdus rest (take n piece) (new ∷ []) [] f (subst (λ (s : List ℕ). Cut s (new ∷ []) []) t.new_is (whole_step new mine))
