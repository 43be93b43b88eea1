-- Pieces are the fragments of a call.
use Rattle.std.proofs.Common.{◌≡◌, ◌∙◌, ℕ, ◌+◌, ◌-◌, ◌^◌, ◌≤◌, ◌<◌, suc, zero, Bool, true, false, leb, ltb, eqb, not, ◌&&◌, List, [], ◌∷◌, ◌++◌, length, take, drop, Option, Some, None, refl, ap, sym}
use Rattle.std.proofs.Common.{subst, arith, append_assoc}
use Rattle.std.proofs.lemmas.Bool.Decides.{nat_tests}
use Rattle.std.proofs.lemmas.List.{length-append, length-drop, length-take-le, take-append-drop, take_all}
use Rattle.nd_base.specs.declared.TheConstants.{STREAM_LIMIT}
use Rattle.nd_base.specs.declared.octets.Order.{Order}
use Rattle.nd_base.specs.declared.octets.Order.TheVariants.{Big, Little}
use Rattle.nd_types.proofs.NumberLaws.{unsigned-spelling}
use Rattle.ndr_prim.specs.Label.{order_of_label}
use Rattle.rpc_pdu.specs.declared.pdu.Head.{Head}
use Rattle.rpc_pdu.specs.declared.pdu.Head.TheVariants as head
use Rattle.rpc_pdu.specs.declared.pdu.Opening.{Opening}
use Rattle.rpc_pdu.specs.declared.pdu.PduReason.{PduReason}
use Rattle.rpc_pdu.specs.Checks.{version, pdu_type, type_of, is_first, is_last, label, order_of, fragment_length, authentication_length, call_id, header_length, operation_of, part_length, part_of}
use Rattle.rpc_pdu.specs.Checks.{opening_of, Before, Check, check, nothing, after, opened, first_failing, wrong_first, other_order, other_call, other_operation, differ, checks, is_refused}
use Rattle.rpc_pdu.specs.Fragments.{IsFragment, AreEarlier, none_earlier, one_more, Fragments, want_of, opnum_of, HeadFits, flags_for, header, fragment, pieces_from, Pieces}
use Rattle.rpc_pdu.proofs.Checking.{Pass}
use Rattle.std.proofs.lemmas.Bool.{le-ltb as not_short}

-- checks that all pass
by_all : (b : Bool) (p : ℕ) (w : PduReason) (cs : List Check) → b ≡ false → first_failing cs ≡ None → first_failing (check b p w ∷ cs) ≡ None
by_all true p w cs e h = cc
by_all false p w cs e h = h

pub none_fails : (cs : List Check) → Pass cs → first_failing cs ≡ None
none_fails [] h = refl
none_fails (c ∷ cs) h = by_all c.fails c.place c.why cs h.0 (none_fails cs h.1)

module _ (call hint wide fs : ℕ) (part : List ℕ) where
  length_is : (o : Order) (h : Head) → wide < 2 ^ 16 → fragment_length (header o h call fs wide hint ++ part) ≡ wide
  length_is Big (head.Request n) b = unsigned-spelling Big 2 wide b
  length_is Big head.Response b = unsigned-spelling Big 2 wide b
  length_is Little (head.Request n) b = unsigned-spelling Little 2 wide b
  length_is Little head.Response b = unsigned-spelling Little 2 wide b

  call_is : (o : Order) (h : Head) → call < 2 ^ 32 → call_id (header o h call fs wide hint ++ part) ≡ call
  call_is Big (head.Request n) b = unsigned-spelling Big 4 call b
  call_is Big head.Response b = unsigned-spelling Big 4 call b
  call_is Little (head.Request n) b = unsigned-spelling Little 4 call b
  call_is Little head.Response b = unsigned-spelling Little 4 call b

  order_is : (o : Order) (h : Head) → order_of (header o h call fs wide hint ++ part) ≡ o
  order_is Big (head.Request n) = refl
  order_is Big head.Response = refl
  order_is Little (head.Request n) = refl
  order_is Little head.Response = refl

  operation_is : (o : Order) (h : Head) → HeadFits h → operation_of (want_of h) (header o h call fs wide hint ++ part) ≡ opnum_of h
  operation_is Big (head.Request n) b = ap Some (unsigned-spelling Big 2 n b)
  operation_is Big head.Response b = refl
  operation_is Little (head.Request n) b = ap Some (unsigned-spelling Little 2 n b)
  operation_is Little head.Response b = refl

  after_header : (o : Order) (h : Head) → drop 24 (header o h call fs wide hint ++ part) ≡ part
  after_header Big (head.Request n) = refl
  after_header Big head.Response = refl
  after_header Little (head.Request n) = refl
  after_header Little head.Response = refl

  whole_is : (o : Order) (h : Head) → length (header o h call fs wide hint ++ part) ≡ 24 + length part
  whole_is Big (head.Request n) = omega arith
  whole_is Big head.Response = omega arith
  whole_is Little (head.Request n) = omega arith
  whole_is Little head.Response = omega arith

-- ## The checks of a piece

-- what stands before a fragment of a call: nothing if it is the first
abbrev pub opening_when : Bool → Order → ℕ → Option ℕ → Option Opening
opening_when true order call opnum = None
opening_when false order call opnum = Some (record { order = order; call = call; opnum = opnum })

first_is : (o : Order) (h : Head) (call hint wide : ℕ) (part : List ℕ) (first last : Bool) → is_first (header o h call (flags_for first last) wide hint ++ part) ≡ first
first_is o h call hint wide part true true = refl
first_is o h call hint wide part true false = refl
first_is o h call hint wide part false true = refl
first_is o h call hint wide part false false = refl

last_is : (o : Order) (h : Head) (call hint wide : ℕ) (part : List ℕ) (first last : Bool) → is_last (header o h call (flags_for first last) wide hint ++ part) ≡ last
last_is o h call hint wide part true true = refl
last_is o h call hint wide part true false = refl
last_is o h call hint wide part false true = refl
last_is o h call hint wide part false false = refl

header_is : (o : Order) (h : Head) (call hint wide : ℕ) (part : List ℕ) (first last : Bool) → header_length (want_of h) (header o h call (flags_for first last) wide hint ++ part) ≡ 24
header_is o (head.Request n) call hint wide part true true = refl
header_is o (head.Request n) call hint wide part true false = refl
header_is o (head.Request n) call hint wide part false true = refl
header_is o (head.Request n) call hint wide part false false = refl
header_is o head.Response call hint wide part first last = refl

equal : (n m : ℕ) → n ≡ m → not (eqb n m) ≡ false
equal n m e = grind (arith, nat_tests)

first_right : (first : Bool) (o : Order) (call : ℕ) (opnum : Option ℕ) → wrong_first (opening_when first o call opnum) first ≡ false
first_right true o call opnum = refl
first_right false o call opnum = refl

order_right : (first : Bool) (o : Order) (call : ℕ) (opnum : Option ℕ) → other_order (opening_when first o call opnum) o ≡ false
order_right true o call opnum = refl
order_right false Big call opnum = refl
order_right false Little call opnum = refl

call_right : (first : Bool) (o : Order) (call : ℕ) (opnum : Option ℕ) → other_call (opening_when first o call opnum) call ≡ false
call_right true o call opnum = refl
call_right false o call opnum = equal call call refl

same_number : (n : Option ℕ) → differ n n ≡ false
same_number None = refl
same_number (Some n) = equal n n refl

operation_right : (first : Bool) (o : Order) (call : ℕ) (opnum : Option ℕ) → other_operation (opening_when first o call opnum) opnum ≡ false
operation_right true o call opnum = refl
operation_right false o call opnum = same_number opnum

-- a piece that is not the last has stub data
abbrev pub HasData : Bool → ℕ → Type 0
HasData true n = Unit {0}
HasData false n = 0 < n

has_data : (last : Bool) (n : ℕ) → HasData last n → (eqb n 0 && not last) ≡ false
has_data true n h = grind (arith, nat_tests)
has_data false n h = grind (arith, nat_tests)

auth_is : (o : Order) (h : Head) (call hint wide fs : ℕ) (part : List ℕ) → authentication_length (header o h call fs wide hint ++ part) ≡ 0
auth_is Big (head.Request n) call hint wide fs part = refl
auth_is Big head.Response call hint wide fs part = refl
auth_is Little (head.Request n) call hint wide fs part = refl
auth_is Little head.Response call hint wide fs part = refl

type_is : (o : Order) (h : Head) (call hint wide fs : ℕ) (part : List ℕ) → not (eqb (pdu_type (header o h call fs wide hint ++ part)) (type_of (want_of h))) ≡ false
type_is o (head.Request n) call hint wide fs part = refl
type_is o head.Response call hint wide fs part = refl

label_right : (o : Order) (h : Head) (call hint wide fs : ℕ) (part : List ℕ) → is_refused (order_of_label (label (header o h call fs wide hint ++ part))) ≡ false
label_right Big (head.Request n) call hint wide fs part = refl
label_right Big head.Response call hint wide fs part = refl
label_right Little (head.Request n) call hint wide fs part = refl
label_right Little head.Response call hint wide fs part = refl

version_right : (o : Order) (h : Head) (call hint wide fs : ℕ) (part : List ℕ) → not (eqb (version (header o h call fs wide hint ++ part)) 5) ≡ false
version_right o h call hint wide fs part = refl

le_by : (a b c d : ℕ) → a ≡ c → b ≡ d → d ≤ c → b ≤ a
le_by a b c d e f h = omega (arith, e, f, h)

minus_by : (a b c d : ℕ) → a ≡ c → b ≡ d → a - b ≡ c - d
minus_by a b c d e f = ap (λ n. n - b) e ∙ ap (λ n. c - n) f

module _ (s : Before) (o : Order) (h : Head) (call hint : ℕ) (first last : Bool) (part : List ℕ) where
  abbrev f : List ℕ
  f = fragment o h call hint first last part

  part_long : 24 + length part < 2 ^ 16 → part_length (want_of h) f ≡ length part
  part_long fits =
      minus_by (fragment_length f) (header_length (want_of h) f) (24 + length part) 24
      (length_is call hint (24 + length part) (flags_for first last) part o h fits) (header_is o h call hint (24 + length part) part first last)
      ∙ minus_24 (length part) where
        minus_24 : (n : ℕ) → 24 + n - 24 ≡ n
        minus_24 n = omega arith

  pub piece : s.opening ≡ opening_when first o call (opnum_of h) → call < 2 ^ 32 → HeadFits h → 24 + length part < 2 ^ 16 → HasData last (length part)
      → length s.stub + length part ≤ STREAM_LIMIT → IsFragment (want_of h) s f
  piece e small head_fits fits some_data room =
      let wide = 24 + length part in
      let fs = flags_for first last in
      let lengths : fragment_length f ≡ wide = length_is call hint wide fs part o h fits in
      let headers : header_length (want_of h) f ≡ 24 = header_is o h call hint wide part first last in
      let all : length f ≡ wide = whole_is call hint wide fs part o h in
      let parts : part_length (want_of h) f ≡ length part = part_long fits in
      let least : 24 ≤ wide = omega arith in
      let least_16 : 16 ≤ wide = omega arith in
      let same : wide ≤ wide = omega arith in
      record {
        accepted = none_fails (checks (want_of h) s f) (
          not_short (length f) 16 (le_by (length f) 16 wide 16 all refl least_16),
          (
            version_right o h call hint wide fs part,
            (
              type_is o h call hint wide fs part,
              (
                ap (wrong_first s.opening) (first_is o h call hint wide part first last) ∙ ap (λ x. wrong_first x first) e ∙ first_right first o call (opnum_of h),
                (
                  label_right o h call hint wide fs part,
                  (
                    ap (other_order s.opening) (order_is call hint wide fs part o h) ∙ ap (λ x. other_order x o) e ∙ order_right first o call (opnum_of h),
                    (
                      not_short (fragment_length f) (header_length (want_of h) f) (le_by (fragment_length f) (header_length (want_of h) f) wide 24 lengths headers least),
                      (
                        equal (authentication_length f) 0 (auth_is o h call hint wide fs part),
                        (
                          ap (other_call s.opening) (call_is call hint wide fs part o h small) ∙ ap (λ x. other_call x call) e ∙ call_right first o call (opnum_of h),
                          (
                            not_short (length f) (header_length (want_of h) f) (le_by (length f) (header_length (want_of h) f) wide 24 all headers least),
                            (
                              ap (other_operation s.opening) (operation_is call hint wide fs part o h head_fits) ∙ ap (λ x. other_operation x (opnum_of h)) e ∙ operation_right first o call
                                  (opnum_of h),
                              (
                                ap (λ n. eqb n 0 && not (is_last f)) parts ∙ ap (λ b. eqb (length part) 0 && not b) (last_is o h call hint wide part first last) ∙ has_data last (length part)
                                    some_data,
                                (
                                  ap (λ n. ltb STREAM_LIMIT (length s.stub + n)) parts ∙ not_short STREAM_LIMIT (length s.stub + length part) room,
                                  (
                                    not_short (length f) (fragment_length f) (le_by (length f) (fragment_length f) wide wide all lengths same),
                                    tt,
                                  ),
                                ),
                              ),
                            ),
                          ),
                        ),
                      ),
                    ),
                  ),
                ),
              ),
            ),
          ),
        );
        whole = all ∙ sym lengths;
      }

  part_back : 24 + length part < 2 ^ 16 → part_of (want_of h) f ≡ part
  part_back fits =
      ap (λ n. take n (drop (header_length (want_of h) f) f)) (part_long fits)
      ∙ ap (λ n. take (length part) (drop n f)) (header_is o h call hint (24 + length part) part first last)
      ∙ ap (take (length part)) (after_header call hint (24 + length part) (flags_for first last) part o h)
      ∙ take_all (length part) part (omega arith)

  states_back : call < 2 ^ 32 → HeadFits h → opening_of (want_of h) f ≡ (record { order = o; call = call; opnum = opnum_of h })
  states_back small head_fits =
      ap (λ x. record { order = x; call = call_id f; opnum = operation_of (want_of h) f }) (order_is call hint (24 + length part) (flags_for first last) part o h)
      ∙ ap (λ x. record { order = o; call = x; opnum = operation_of (want_of h) f }) (call_is call hint (24 + length part) (flags_for first last) part o h small)
      ∙ ap (λ x. record { order = o; call = call; opnum = x }) (operation_is call hint (24 + length part) (flags_for first last) part o h head_fits)

  opened_back : s.opening ≡ opening_when first o call (opnum_of h) → call < 2 ^ 32 → HeadFits h
      → opened s.opening (opening_of (want_of h) f) ≡ (record { order = o; call = call; opnum = opnum_of h })
  opened_back e small head_fits =
      ap (λ x. opened x (opening_of (want_of h) f)) e ∙ ap (opened (opening_when first o call (opnum_of h))) (states_back small head_fits) ∙ by first where
        by : (b : Bool) → opened (opening_when b o call (opnum_of h)) (record { order = o; call = call; opnum = opnum_of h }) ≡ (record { order = o; call = call; opnum = opnum_of h })
        by true = refl
        by false = refl

-- ## All pieces

-- what is asked of the words of a call
pub record Fit (h : Head) (call size : ℕ) : Type 0 where
  pub small : call < 2 ^ 32
  pub head_fits : HeadFits h
  pub some : 1 ≤ size
  pub most : size + 24 < 2 ^ 16

by_size : (a b : ℕ) (X : Type 0) → (leb a b ≡ true → a ≤ b → X) → (leb a b ≡ false → b < a → X) → X
by_size a b X short long = by (leb a b) refl where
  by : (v : Bool) → leb a b ≡ v → X
  by true e = short e (grind (arith, nat_tests))
  by false e = long e (grind (arith, nat_tests))

pieces_step : (fuel : ℕ) (o : Order) (h : Head) (call hint size : ℕ) (first : Bool) (stub : List ℕ) (v : Bool) → leb (length stub) size ≡ v
    → pieces_from (suc fuel) o h call hint size first stub ≡ (elim v [
      | true ↦ fragment o h call hint first true stub
      | false ↦ fragment o h call hint first false (take size stub) ++ pieces_from fuel o h call hint size false (drop size stub)
    ])
pieces_step fuel o h call hint size first stub v e = ap (λ x. elim x [
  | true ↦ fragment o h call hint first true stub
  | false ↦ fragment o h call hint first false (take size stub) ++ pieces_from fuel o h call hint size false (drop size stub)
]) e

abbrev Call : Order → Head → ℕ → List ℕ → List ℕ → Type 0
Call o h call stub octets = Fragments octets (want_of h) o call (opnum_of h) stub

pieces_are : (fuel : ℕ) (o : Order) (h : Head) (call hint size : ℕ) (first : Bool) → Fit h call size → (earlier : List ℕ) (s : Before) → AreEarlier (want_of h) earlier s
    → s.opening ≡ opening_when first o call (opnum_of h) → (stub : List ℕ) → length stub < fuel → length s.stub + length stub ≤ STREAM_LIMIT
    → Call o h call (s.stub ++ stub) (earlier ++ pieces_from fuel o h call hint size first stub)
pieces_are zero o h call hint size first fit earlier s d e stub few room = absurd (omega (arith, few))
pieces_are (suc fuel) o h call hint size first fit earlier s d e stub few room =
    by_size (length stub) size (Call o h call (s.stub ++ stub) (earlier ++ pieces_from (suc fuel) o h call hint size first stub))
    (λ test short.
    let fits : 24 + length stub < 2 ^ 16 = omega (arith, short, fit.most) in
    subst (λ l. Call o h call (s.stub ++ stub) (earlier ++ l)) (sym (pieces_step fuel o h call hint size first stub true test))
    (record {
      earlier = earlier;
      before = s;
      are_earlier = d;
      last = fragment o h call hint first true stub;
      end_to_end = refl;
      is_fragment = piece s o h call hint first true stub e fit.small fit.head_fits fits tt room;
      is_last = last_is o h call hint (24 + length stub) stub first true;
      states = opened_back s o h call hint first true stub e fit.small fit.head_fits;
      stub_is = ap (λ l. s.stub ++ l) (sym (part_back s o h call hint first true stub fits));
    }))
    (λ test long.
    let front : length (take size stub) ≡ size = length-take-le size stub (omega (arith, long)) in
    let fits : 24 + length (take size stub) < 2 ^ 16 = omega (arith, front, fit.most) in
    let some_data : 0 < length (take size stub) = omega (arith, front, fit.some) in
    let within : length s.stub + length (take size stub) ≤ STREAM_LIMIT = omega (arith, front, long, room) in
    let f = fragment o h call hint first false (take size stub) in
    let is : IsFragment (want_of h) s f = piece s o h call hint first false (take size stub) e fit.small fit.head_fits fits some_data within in
    let next : Before = after (want_of h) s f in
    let not_last : is_last f ≡ false = last_is o h call hint (24 + length (take size stub)) (take size stub) first false in
    let d' : AreEarlier (want_of h) (earlier ++ f) next = one_more earlier s f d is not_last in
    let e' : next.opening ≡ opening_when false o call (opnum_of h) = ap Some (opened_back s o h call hint first false (take size stub) e fit.small fit.head_fits) in
    let grown : next.stub ≡ s.stub ++ take size stub = ap (λ l. s.stub ++ l) (part_back s o h call hint first false (take size stub) fits) in
    let rest : length (drop size stub) ≡ length stub - size = length-drop size stub in
    let few' : length (drop size stub) < fuel = omega (arith, rest, long, few, fit.some) in
    let long' : length next.stub ≡ length s.stub + length (take size stub) = ap length grown ∙ length-append s.stub (take size stub) in
    let room' : length next.stub + length (drop size stub) ≤ STREAM_LIMIT = omega (arith, long', front, rest, long, room) in
    let later = pieces_are fuel o h call hint size false fit (earlier ++ f) next d' e' (drop size stub) few' room' in
    let stubs : next.stub ++ drop size stub ≡ s.stub ++ stub =
    ap (λ l. l ++ drop size stub) grown ∙ append_assoc s.stub (take size stub) (drop size stub) ∙ ap (λ l. s.stub ++ l) (take-append-drop size stub) in
    subst (λ l. Call o h call (s.stub ++ stub) (earlier ++ l)) (sym (pieces_step fuel o h call hint size first stub false test))
    (subst (λ l. Call o h call l (earlier ++ (f ++ pieces_from fuel o h call hint size false (drop size stub)))) stubs
    (subst (Call o h call (next.stub ++ drop size stub)) (append_assoc earlier f (pieces_from fuel o h call hint size false (drop size stub))) later)))

pub pieces_have : (o : Order) (h : Head) (call max : ℕ) (stub : List ℕ) → call < 2 ^ 32 → HeadFits h → 1024 ≤ max → max < 2 ^ 16 → length stub ≤ STREAM_LIMIT
    → Fragments (Pieces o h call max stub) (want_of h) o call (opnum_of h) stub
pieces_have o h call max stub small head_fits least most room =
    pieces_are (suc (length stub)) o h call (length stub) (max - 24) true
    (record { small = small; head_fits = head_fits; some = omega (arith, least); most = omega (arith, least, most) })
    [] nothing none_earlier refl stub (omega arith) (omega (arith, room))

-- ## Splitting in a loop

-- what is made so far, with the pieces of what is left, is the whole
pub record Left (whole made : List ℕ) (o : Order) (h : Head) (call hint size : ℕ) (first : Bool) (rest : List ℕ) : Type 0 where
  pub fuel : ℕ
  pub few : length rest < fuel
  pub whole_is : whole ≡ made ++ pieces_from fuel o h call hint size first rest

pub all_left : (o : Order) (h : Head) (call max : ℕ) (stub : List ℕ) → Left (Pieces o h call max stub) [] o h call (length stub) (max - 24) true stub
all_left o h call max stub = record { fuel = suc (length stub); few = omega arith; whole_is = refl }

turn_of : (whole made : List ℕ) (o : Order) (h : Head) (call hint size : ℕ) (first : Bool) (rest : List ℕ) (fuel : ℕ) → length rest < fuel
    → whole ≡ made ++ pieces_from fuel o h call hint size first rest → size < length rest → 0 < size
    → Left whole (made ++ fragment o h call hint first false (take size rest)) o h call hint size false (drop size rest)
turn_of whole made o h call hint size first rest zero few e long some = absurd (omega (arith, few))
turn_of whole made o h call hint size first rest (suc fuel) few e long some =
    let less : length (drop size rest) ≡ length rest - size = length-drop size rest in
    let test : leb (length rest) size ≡ false = grind (arith, nat_tests) in record {
      fuel = fuel;
      few = omega (arith, less, few, long, some);
      whole_is = e ∙ ap (λ l. made ++ l) (pieces_step fuel o h call hint size first rest false test)
          ∙ sym (append_assoc made (fragment o h call hint first false (take size rest)) (pieces_from fuel o h call hint size false (drop size rest)));
    }

pub turn : (whole made : List ℕ) (o : Order) (h : Head) (call hint size : ℕ) (first : Bool) (rest : List ℕ) → Left whole made o h call hint size first rest
    → size < length rest → 0 < size → Left whole (made ++ fragment o h call hint first false (take size rest)) o h call hint size false (drop size rest)
turn whole made o h call hint size first rest l long some = turn_of whole made o h call hint size first rest l.fuel l.few l.whole_is long some

over_of : (whole made : List ℕ) (o : Order) (h : Head) (call hint size : ℕ) (first : Bool) (rest : List ℕ) (fuel : ℕ) → length rest < fuel
    → whole ≡ made ++ pieces_from fuel o h call hint size first rest → length rest ≤ size → whole ≡ made ++ fragment o h call hint first true rest
over_of whole made o h call hint size first rest zero few e short = absurd (omega (arith, few))
over_of whole made o h call hint size first rest (suc fuel) few e short =
    let test : leb (length rest) size ≡ true = grind (arith, nat_tests) in
    e ∙ ap (λ l. made ++ l) (pieces_step fuel o h call hint size first rest true test)

pub over : (whole made : List ℕ) (o : Order) (h : Head) (call hint size : ℕ) (first : Bool) (rest : List ℕ) → Left whole made o h call hint size first rest
    → length rest ≤ size → whole ≡ made ++ fragment o h call hint first true rest
over whole made o h call hint size first rest l short = over_of whole made o h call hint size first rest l.fuel l.few l.whole_is short

-- the same with what the code has
pub turn_by : (whole made made' part rest rest' : List ℕ) (o : Order) (h : Head) (call hint size : ℕ) (first : Bool) → Left whole made o h call hint size first rest
    → size < length rest → 0 < size → part ≡ take size rest → rest' ≡ drop size rest → made' ≡ made ++ fragment o h call hint first false part
    → Left whole made' o h call hint size false rest'
turn_by whole made made' part rest rest' o h call hint size first l long some e f g =
    subst (λ m. Left whole m o h call hint size false rest') (sym (g ∙ ap (λ p. made ++ fragment o h call hint first false p) e))
    (subst (λ r. Left whole (made ++ fragment o h call hint first false (take size rest)) o h call hint size false r) (sym f)
    (turn whole made o h call hint size first rest l long some))
