-- A fragment that is fetched in three steps: the header that all PDUs have, the rest of the header, the stub data.
use Rattle.std.proofs.Common.{◌≡◌, ◌∙◌, ℕ, ◌+◌, ◌-◌, ◌≤◌, ◌<◌, Bool, true, false, ltb, List, [], ◌∷◌, ◌++◌, length, take, drop, Option, Some, None, Result, Ok, Err, IfErr, refl, ap, sym, subst, arith}
use Rattle.std.proofs.Common.{append_assoc, append-nil}
use Rattle.std.specs.Result.{IsErrAnd}
use Rattle.std.proofs.lemmas.List.{length-append, take_all}
use lib.Seq.{drop-append_seam}
use Rattle.std.proofs.KnownBytes.{Consumes-trans}
use Rattle.std.specs.Io.KnownBytes.{Consumes}
use Rattle.nd_base.specs.Over.{SourceSeen, SourceOver, source_over}
use Rattle.nd_base.proofs.Rising.{rose_later}
use Rattle.rpc_pdu.specs.declared.pdu.Wanted.{Wanted}
use Rattle.rpc_pdu.specs.declared.pdu.Opening.{Opening}
use Rattle.rpc_pdu.specs.declared.pdu.PduFault.{PduFault}
use Rattle.rpc_pdu.specs.declared.pdu.PduFault.TheVariants as fault
use Rattle.rpc_pdu.specs.declared.pdu.PduReason.{PduReason}
use Rattle.rpc_pdu.specs.declared.pdu.PduReason.TheVariants as why
use Rattle.rpc_pdu.specs.declared.header.CommonFields.{CommonFields}
use Rattle.rpc_pdu.specs.Checks.{short_at, is_last, has_object, order_of, call_id, fragment_length, header_length, operation_in, operation_of, part_length, part_of, opening_of, Before, before, Check}
use Rattle.rpc_pdu.specs.Checks.{check, first_failing, common_checks, whole_by, whole_checks, refusal, opened}
use Rattle.rpc_pdu.specs.Fragments.{HasEnded, IsEnd, IsTaken, IsTakeCause, taken_to, IsSeen, IsBadBy, IsStated, rest_checks, IsWholeFragment, IsBadFragment, IsFragmentCause}
use Rattle.rpc_pdu.proofs.Checking.{passes, fails, all_pass, one_fails, common_same, header_same, length_same, last_same, whole_same, opening_same, least_header, longer}
use Rattle.std.proofs.lemmas.Bool.{le-ltb as not_below, lt-ltb as below}
use Rattle.rpc_pdu.proofs.Staying.{end_checks, later_checks}

-- ## Reasons

-- a test of reasons, which those of a list of checks pass
module _ (test : PduReason → Bool) where
  abbrev All : List Check → Type 0
  All [] = Unit {0}
  All (c ∷ cs) = (test c.why ≡ true) × All cs

  by_failing : (b : Bool) (p : ℕ) (v : PduReason) (cs : List Check) (r : ℕ × PduReason) → test v ≡ true → first_failing (check b p v ∷ cs) ≡ Some r
      → (first_failing cs ≡ Some r → test r.1 ≡ true) → test r.1 ≡ true
  by_failing true p v cs r e h next = let pair : ℕ × PduReason = (p, v) in let same : pair ≡ r = cc in ap (λ (x : ℕ × PduReason). test x.1) (sym same) ∙ e
  by_failing false p v cs r e h next = next h

  failing : (cs : List Check) (r : ℕ × PduReason) → All cs → first_failing cs ≡ Some r → test r.1 ≡ true
  failing [] r n h = cc
  failing (c ∷ cs) r n h = by_failing c.fails c.place c.why cs r n.0 h (failing cs r n.1)

-- reasons that refuse octets whatever follows them, those that the header that all PDUs have shows, and those that the whole header shows
abbrev is_lasting : PduReason → Bool
is_lasting why.Short = false
is_lasting _ = true

abbrev by_common : PduReason → Bool
by_common why.Short = false
by_common why.OtherOperation = false
by_common why.EmptyPiece = false
by_common why.StubLong = false
by_common _ = true

abbrev by_header : PduReason → Bool
by_header why.OtherOperation = true
by_header why.EmptyPiece = true
by_header why.StubLong = true
by_header _ = false

to_common : (want : Wanted) (w : PduReason) (os : List ℕ) → by_common w ≡ true → taken_to want w os ≡ 16
to_common want why.Short os e = cc
to_common want why.Version os e = refl
to_common want why.Kind os e = refl
to_common want why.Flags os e = refl
to_common want why.Label os e = refl
to_common want why.OtherOrder os e = refl
to_common want why.Length os e = refl
to_common want why.Auth os e = refl
to_common want why.OtherCall os e = refl
to_common want why.OtherOperation os e = cc
to_common want why.EmptyPiece os e = cc
to_common want why.StubLong os e = cc

to_header : (want : Wanted) (w : PduReason) (os : List ℕ) → by_header w ≡ true → taken_to want w os ≡ header_length want os
to_header want why.Short os e = cc
to_header want why.Version os e = cc
to_header want why.Kind os e = cc
to_header want why.Flags os e = cc
to_header want why.Label os e = cc
to_header want why.OtherOrder os e = cc
to_header want why.Length os e = cc
to_header want why.Auth os e = cc
to_header want why.OtherCall os e = cc
to_header want why.OtherOperation os e = refl
to_header want why.EmptyPiece os e = refl
to_header want why.StubLong os e = refl

-- of octets that are too short all are taken
short_all : (want : Wanted) (w : PduReason) (os : List ℕ) → w ≡ why.Short → length os ≡ taken_to want w os
short_all want w os e = ap (λ (v : PduReason). taken_to want v os) (sym e)

-- the end of a source matters to octets that are too short alone
no_end : (s : SourceOver) (w : PduReason) → is_lasting w ≡ true → IsEnd s w
no_end s why.Short e = cc
no_end s why.Version e = tt
no_end s why.Kind e = tt
no_end s why.Flags e = tt
no_end s why.Label e = tt
no_end s why.OtherOrder e = tt
no_end s why.Length e = tt
no_end s why.Auth e = tt
no_end s why.OtherCall e = tt
no_end s why.OtherOperation e = tt
no_end s why.EmptyPiece e = tt
no_end s why.StubLong e = tt

short_end : (s : SourceOver) (w : PduReason) → w ≡ why.Short → HasEnded s → IsEnd s w
short_end s w e h = subst (IsEnd s) (sym e) h

-- the end of a source is that of each part of a call that goes on to it
pub end_from : {S : Type 0} (shown : S → SourceSeen) (x y z : S) (w : PduReason) → IsEnd (source_over shown y z) w
    → IsEnd (source_over shown x z) w
end_from shown x y z why.Short h = record { ended = h.ended; none_left = h.none_left }
end_from shown x y z why.Version h = tt
end_from shown x y z why.Kind h = tt
end_from shown x y z why.Flags h = tt
end_from shown x y z why.Label h = tt
end_from shown x y z why.OtherOrder h = tt
end_from shown x y z why.Length h = tt
end_from shown x y z why.Auth h = tt
end_from shown x y z why.OtherCall h = tt
end_from shown x y z why.OtherOperation h = tt
end_from shown x y z why.EmptyPiece h = tt
end_from shown x y z why.StubLong h = tt

-- ## What a part of a fragment says

-- no octet is lacking of the first 16
after_16 : (want : Wanted) (b : Before) (head more : List ℕ) → length head ≡ 16 → first_failing (common_checks want b head) ≡ None
    → refusal want b (head ++ more) ≡ first_failing (later_checks want b (head ++ more))
after_16 want b head more e h =
    let least : 16 ≤ length head = omega (arith, e) in
    let none : first_failing (common_checks want b (head ++ more)) ≡ None = ap first_failing (common_same want b head more least) ∙ h in
    passes _ _ why.Short (common_checks want b (head ++ more) ++ later_checks want b (head ++ more)) (longer 16 head more (not_below (length head) 16 least))
    ∙ all_pass (common_checks want b (head ++ more)) (later_checks want b (head ++ more)) none

-- the header is whole
after_header : (want : Wanted) (b : Before) (head more : List ℕ) → 16 ≤ length head → header_length want head ≤ length head
    → first_failing (later_checks want b (head ++ more)) ≡ first_failing (whole_checks want b head ++ end_checks b (head ++ more))
after_header want b head more least h =
    let object = least_header want (has_object head) in
    let all : 24 ≤ length head = omega (arith, object, h) in
    let there : ltb (length (head ++ more)) (header_length want (head ++ more)) ≡ false =
    subst (λ n. ltb (length (head ++ more)) n ≡ false) (sym (header_same want head more least)) (longer (header_length want head) head more (not_below (length head) (header_length want head) h)) in
    passes _ _ why.Short (whole_checks want b (head ++ more) ++ end_checks b (head ++ more)) there
    ∙ ap (λ cs. first_failing (cs ++ end_checks b (head ++ more))) (whole_same want b head more all)

-- the first 16 octets are cut
cut_16 : (want : Wanted) (b : Before) (os : List ℕ) → length os < 16 → refusal want b os ≡ Some (b.at + length os, why.Short)
cut_16 want b os h = fails _ _ why.Short (common_checks want b os ++ later_checks want b os) (below (length os) 16 h)

-- the header is cut
cut_header : (want : Wanted) (b : Before) (head more : List ℕ) → length head ≡ 16 → first_failing (common_checks want b head) ≡ None → 16 + length more < header_length want head
    → refusal want b (head ++ more) ≡ Some (b.at + length (head ++ more), why.Short)
cut_header want b head more e h few =
    let least : 16 ≤ length head = omega (arith, e) in
    let all : length (head ++ more) ≡ length head + length more = length-append head more in
    let lacking : length (head ++ more) < header_length want (head ++ more) =
    subst (λ n. length (head ++ more) < n) (sym (header_same want head more least)) (omega (arith, all, e, few)) in
    after_16 want b head more e h ∙ fails _ _ why.Short (whole_checks want b (head ++ more) ++ end_checks b (head ++ more)) (below (length (head ++ more)) (header_length want (head ++ more)) lacking)

-- what the header says, with what follows the first 16 octets
octets_after : (head more : List ℕ) (k : ℕ) → length head ≡ 16 → short_at (order_of (head ++ more)) 22 (head ++ more) ≡ short_at (order_of head) 6 more
octets_after (a0 ∷ a1 ∷ a2 ∷ a3 ∷ a4 ∷ a5 ∷ a6 ∷ a7 ∷ a8 ∷ a9 ∷ a10 ∷ a11 ∷ a12 ∷ a13 ∷ a14 ∷ a15 ∷ []) more k e = refl
octets_after os more k e = absurd (omega (arith, e))

-- ## Over a source

module _ {S : Type 0} (shown : S → SourceSeen) (want : Wanted) (b : Before) where
  abbrev seen : S → S → SourceOver
  seen x y = source_over shown x y

  -- octets of which none is lacking were taken, and are refused
  refused_by : (x y : S) (os : List ℕ) (cs : List Check) (p : ℕ) (w : PduReason) → Consumes (shown x).left (shown y).left os → All is_lasting cs → first_failing cs ≡ Some (p, w)
      → refusal want b os ≡ Some (p, w) → length os ≡ taken_to want w os → IsBadFragment want b (seen x y) p w
  refused_by x y os cs p w c n e h ends = record { os = os; taken = c; refused = h; ends = ends; end = no_end (seen x y) w (failing is_lasting cs (p, w) n e) }

  -- the first 16 octets do not come
  pub no_head : (x y : S) (e : PduFault) → IsTakeCause (seen x y) b.at 16 e → IsFragmentCause want b (seen x y) e
  no_head x y fault.Memory h = tt
  no_head x y fault.ReadFault h = record { os = h.os; taken = h.taken; short = cut_16 want b h.os h.fewer; failed = h.failed }
  no_head x y (fault.Bad p w) h = record {
    os = h.os;
    taken = h.taken;
    refused = cut_16 want b h.os h.fewer ∙ ap (λ (q : ℕ). Some (q, why.Short)) (sym h.there) ∙ ap (λ (v : PduReason). Some (p, v)) (sym h.short);
    ends = short_all want w h.os h.short;
    end = short_end (seen x y) w h.short h.end;
  }

  -- they are refused
  pub bad_head : (x y : S) (head : List ℕ) (e : PduFault) → IsTaken (seen x y) 16 head → IsBadBy (first_failing (common_checks want b head)) e → IsFragmentCause want b (seen x y) e
  bad_head x y head fault.Memory t h = tt
  bad_head x y head fault.ReadFault t h = absurd h
  bad_head x y head (fault.Bad p w) t h =
      let least : 16 ≤ length head = omega (arith, t.all) in
      refused_by x y head (common_checks want b head) p w t.taken (refl, (refl, (refl, (refl, (refl, (refl, (refl, (refl, tt)))))))) h
      (passes _ _ why.Short (common_checks want b head ++ later_checks want b head) (not_below (length head) 16 least) ∙ one_fails (common_checks want b head) (later_checks want b head) (p, w) h)
      (t.all ∙ sym (to_common want w head (failing by_common (common_checks want b head) (p, w) (refl, (refl, (refl, (refl, (refl, (refl, (refl, (refl, tt)))))))) h)))

  both_taken : (x y z : S) (os more : List ℕ) → Consumes (shown x).left (shown y).left os → Consumes (shown y).left (shown z).left more → Consumes (shown x).left (shown z).left (os ++ more)
  both_taken x y z os more c d = Consumes-trans (shown x).left (shown y).left (shown z).left os more c d

  -- the rest of the header does not come
  pub no_rest : (x y z : S) (head : List ℕ) (c : CommonFields) (e : PduFault) → (shown x).faults ≤ (shown y).faults → IsTaken (seen x y) 16 head → IsSeen want b head c → 24 ≤ c.header_length
      → IsTakeCause (seen y z) (b.at + 16) (c.header_length - 16) e → IsFragmentCause want b (seen x z) e
  no_rest x y z head c fault.Memory low t s least h = tt
  no_rest x y z head c fault.ReadFault low t s least h = record {
    os = head ++ h.os;
    taken = both_taken x y z head h.os t.taken h.taken;
    short = cut_header want b head h.os t.all s.passed (omega (arith, h.fewer, s.header, least));
    failed = rose_later (shown x).faults (shown y).faults (shown z).faults low h.failed;
  }
  no_rest x y z head c (fault.Bad p w) low t s least h =
      let all : length (head ++ h.os) ≡ length head + length h.os = length-append head h.os in
      let few : 16 + length h.os < header_length want head = omega (arith, h.fewer, s.header, least) in
      let there : b.at + length (head ++ h.os) ≡ p = omega (arith, all, t.all, h.there) in record {
        os = head ++ h.os;
        taken = both_taken x y z head h.os t.taken h.taken;
        refused = cut_header want b head h.os t.all s.passed few ∙ ap (λ (q : ℕ). Some (q, why.Short)) there ∙ ap (λ (v : PduReason). Some (p, v)) (sym h.short);
        ends = short_all want w (head ++ h.os) h.short;
        end = end_from shown x y z w (short_end (seen y z) w h.short h.end);
      }

  -- the whole header
  record IsHeader (c : CommonFields) (head rest : List ℕ) : Type 0 where
    pub long : 16 ≤ length (head ++ rest)
    pub all : length (head ++ rest) ≡ c.header_length
    pub header_is : header_length want (head ++ rest) ≡ c.header_length
    pub wide_is : fragment_length (head ++ rest) ≡ c.fragment_length
    pub part_is : part_length want (head ++ rest) ≡ c.fragment_length - c.header_length
    pub operation_is : operation_of want (head ++ rest) ≡ operation_in want (short_at c.order 6 rest)
    pub last_is : is_last (head ++ rest) ≡ c.last
    pub opening_is : opening_of want (head ++ rest) ≡ (record { order = c.order; call = c.call; opnum = operation_in want (short_at c.order 6 rest) })
    pub checks_are : whole_checks want b (head ++ rest) ≡ whole_by b.opening b.at (length b.stub) (operation_in want (short_at c.order 6 rest)) (c.fragment_length - c.header_length) c.last

  call_same : (head rest : List ℕ) → length head ≡ 16 → call_id (head ++ rest) ≡ call_id head
  call_same (a0 ∷ a1 ∷ a2 ∷ a3 ∷ a4 ∷ a5 ∷ a6 ∷ a7 ∷ a8 ∷ a9 ∷ a10 ∷ a11 ∷ a12 ∷ a13 ∷ a14 ∷ a15 ∷ []) rest e = refl
  call_same os rest e = absurd (omega (arith, e))

  order_same : (head rest : List ℕ) → length head ≡ 16 → order_of (head ++ rest) ≡ order_of head
  order_same (a0 ∷ a1 ∷ a2 ∷ a3 ∷ a4 ∷ a5 ∷ a6 ∷ a7 ∷ a8 ∷ a9 ∷ a10 ∷ a11 ∷ a12 ∷ a13 ∷ a14 ∷ a15 ∷ []) rest e = refl
  order_same os rest e = absurd (omega (arith, e))

  whole_header : (head rest : List ℕ) (c : CommonFields) → length head ≡ 16 → length rest ≡ c.header_length - 16 → 24 ≤ c.header_length → IsSeen want b head c → IsHeader c head rest
  whole_header head rest c e d least s =
      let least_16 : 16 ≤ length head = omega (arith, e) in
      let all : length (head ++ rest) ≡ length head + length rest = length-append head rest in
      let header_is = header_same want head rest least_16 ∙ sym s.header in
      let wide_is = length_same head rest least_16 ∙ sym s.wide in
      let part_is : part_length want (head ++ rest) ≡ c.fragment_length - c.header_length =
      ap (λ (n : ℕ). n - header_length want (head ++ rest)) wide_is ∙ ap (λ (n : ℕ). c.fragment_length - n) header_is in
      let operation_is : operation_of want (head ++ rest) ≡ operation_in want (short_at c.order 6 rest) =
      ap (operation_in want) (octets_after head rest 0 e ∙ ap (λ o. short_at o 6 rest) (sym s.order)) in
      let last_is = last_same head rest least_16 ∙ sym s.last in record {
        long = omega (arith, all, e);
        all = omega (arith, all, e, d, least);
        header_is = header_is;
        wide_is = wide_is;
        part_is = part_is;
        operation_is = operation_is;
        last_is = last_is;
        opening_is =
            ap (λ o. record { order = o; call = call_id (head ++ rest); opnum = operation_of want (head ++ rest) }) (order_same head rest e ∙ sym s.order)
            ∙ ap (λ n. record { order = c.order; call = n; opnum = operation_of want (head ++ rest) }) (call_same head rest e ∙ sym s.call)
            ∙ ap (λ n. record { order = c.order; call = c.call; opnum = n }) operation_is;
        checks_are =
            ap (λ n. whole_by b.opening b.at (length b.stub) n (part_length want (head ++ rest)) (is_last (head ++ rest))) operation_is
            ∙ ap (λ n. whole_by b.opening b.at (length b.stub) (operation_in want (short_at c.order 6 rest)) n (is_last (head ++ rest))) part_is
            ∙ ap (λ v. whole_by b.opening b.at (length b.stub) (operation_in want (short_at c.order 6 rest)) (c.fragment_length - c.header_length) v) last_is;
      }

  -- what is refused once the header is whole, with what follows it
  after_all : (head rest more : List ℕ) (c : CommonFields) → length head ≡ 16 → IsSeen want b head c → IsHeader c head rest
      → refusal want b ((head ++ rest) ++ more)
      ≡ first_failing (whole_by b.opening b.at (length b.stub) (operation_in want (short_at c.order 6 rest)) (c.fragment_length - c.header_length) c.last ++ end_checks b ((head ++ rest) ++ more))
  after_all head rest more c e s i =
      let there : header_length want (head ++ rest) ≤ length (head ++ rest) = omega (arith, i.all, i.header_is) in
      ap (refusal want b) (append_assoc head rest more)
      ∙ after_16 want b head (rest ++ more) e s.passed
      ∙ ap (λ l. first_failing (later_checks want b l)) (sym (append_assoc head rest more))
      ∙ after_header want b (head ++ rest) more i.long there
      ∙ ap (λ cs. first_failing (cs ++ end_checks b ((head ++ rest) ++ more))) i.checks_are

  abbrev whole_list : CommonFields → List ℕ → List Check
  whole_list c rest = rest_checks want b.opening b.at (length b.stub) c rest

  -- the stub data are cut
  cut_part : (head rest more : List ℕ) (c : CommonFields) → length head ≡ 16 → IsSeen want b head c → IsHeader c head rest
      → c.header_length ≤ c.fragment_length → first_failing (whole_list c rest) ≡ None → length more < c.fragment_length - c.header_length
      → refusal want b ((head ++ rest) ++ more) ≡ Some (b.at + length ((head ++ rest) ++ more), why.Short)
  cut_part head rest more c e s i within k fewer =
      let all : length ((head ++ rest) ++ more) ≡ length (head ++ rest) + length more = length-append (head ++ rest) more in
      let wide : fragment_length ((head ++ rest) ++ more) ≡ c.fragment_length = length_same (head ++ rest) more i.long ∙ i.wide_is in
      let lacking : length ((head ++ rest) ++ more) < fragment_length ((head ++ rest) ++ more) = omega (arith, all, wide, i.all, fewer, within) in
      after_all head rest more c e s i ∙ all_pass (whole_list c rest) (end_checks b ((head ++ rest) ++ more)) k
      ∙ fails _ _ why.Short [] (below (length ((head ++ rest) ++ more)) (fragment_length ((head ++ rest) ++ more)) lacking)

  -- the whole header is refused
  pub bad_whole : (x y z : S) (head rest : List ℕ) (c : CommonFields) (e : PduFault) → IsTaken (seen x y) 16 head → IsSeen want b head c → 24 ≤ c.header_length
      → IsTaken (seen y z) (c.header_length - 16) rest → IsBadBy (first_failing (whole_list c rest)) e → IsFragmentCause want b (seen x z) e
  bad_whole x y z head rest c fault.Memory t s least u h = tt
  bad_whole x y z head rest c fault.ReadFault t s least u h = absurd h
  bad_whole x y z head rest c (fault.Bad p w) t s least u h =
      let i = whole_header head rest c t.all u.all least s in
      refused_by x z (head ++ rest) (whole_list c rest) p w (both_taken x y z head rest t.taken u.taken) (refl, (refl, (refl, tt))) h
      (ap (refusal want b) (sym (append-nil (head ++ rest))) ∙ after_all head rest [] c t.all s i ∙ one_fails (whole_list c rest) (end_checks b ((head ++ rest) ++ [])) (p, w) h)
      (i.all ∙ sym i.header_is ∙ sym (to_header want w (head ++ rest) (failing by_header (whole_list c rest) (p, w) (refl, (refl, (refl, tt))) h)))

  -- the stub data do not come
  pub no_part : (x y z v : S) (head rest : List ℕ) (c : CommonFields) (e : PduFault) → (shown x).faults ≤ (shown y).faults → (shown y).faults ≤ (shown z).faults
      → IsTaken (seen x y) 16 head → IsSeen want b head c
      → 24 ≤ c.header_length → c.header_length ≤ c.fragment_length → IsTaken (seen y z) (c.header_length - 16) rest → first_failing (whole_list c rest) ≡ None
      → IsTakeCause (seen z v) (b.at + c.header_length) (c.fragment_length - c.header_length) e → IsFragmentCause want b (seen x v) e
  no_part x y z v head rest c fault.Memory low low' t s least within u k h = tt
  no_part x y z v head rest c fault.ReadFault low low' t s least within u k h =
      let i = whole_header head rest c t.all u.all least s in record {
        os = (head ++ rest) ++ h.os;
        taken = both_taken x z v (head ++ rest) h.os (both_taken x y z head rest t.taken u.taken) h.taken;
        short = cut_part head rest h.os c t.all s i within k h.fewer;
        failed = rose_later (shown x).faults (shown z).faults (shown v).faults (omega (arith, low, low')) h.failed;
      }
  no_part x y z v head rest c (fault.Bad p w) low low' t s least within u k h =
      let i = whole_header head rest c t.all u.all least s in
      let all : length ((head ++ rest) ++ h.os) ≡ length (head ++ rest) + length h.os = length-append (head ++ rest) h.os in
      let there : b.at + length ((head ++ rest) ++ h.os) ≡ p = omega (arith, all, i.all, h.there) in record {
        os = (head ++ rest) ++ h.os;
        taken = both_taken x z v (head ++ rest) h.os (both_taken x y z head rest t.taken u.taken) h.taken;
        refused = cut_part head rest h.os c t.all s i within k h.fewer
            ∙ ap (λ (q : ℕ). Some (q, why.Short)) there ∙ ap (λ (r : PduReason). Some (p, r)) (sym h.short);
        ends = short_all want w ((head ++ rest) ++ h.os) h.short;
        end = end_from shown x z v w (short_end (seen z v) w h.short h.end);
      }

  -- all came
  part_back : (h more : List ℕ) → header_length want (h ++ more) ≡ length h → part_length want (h ++ more) ≡ length more → part_of want (h ++ more) ≡ more
  part_back h more e f =
      ap (λ (n : ℕ). take n (drop (header_length want (h ++ more)) (h ++ more))) f ∙ ap (λ (n : ℕ). take (length more) (drop n (h ++ more))) e
      ∙ ap (take (length more)) (drop-append_seam h more) ∙ take_all (length more) more (omega arith)

  pub whole_came : (x y z v : S) (head rest part : List ℕ) (c : CommonFields) (o : Opening) → IsTaken (seen x y) 16 head → IsSeen want b head c → 24 ≤ c.header_length → c.header_length ≤
      c.fragment_length
      → IsTaken (seen y z) (c.header_length - 16) rest → first_failing (whole_list c rest) ≡ None → IsStated b.opening (operation_in want (short_at c.order 6 rest)) c o
      → IsTaken (seen z v) (c.fragment_length - c.header_length) part
      → IsWholeFragment want b (seen x v) (before (Some o) (b.at + c.fragment_length) (b.stub ++ part)) c.last
  whole_came x y z v head rest part c o t s least within u k stated p =
      let i = whole_header head rest c t.all u.all least s in
      let os = (head ++ rest) ++ part in
      let all : length ((head ++ rest) ++ part) ≡ length (head ++ rest) + length part = length-append (head ++ rest) part in
      let wide : fragment_length ((head ++ rest) ++ part) ≡ c.fragment_length = length_same (head ++ rest) part i.long ∙ i.wide_is in
      let head_same : header_length want ((head ++ rest) ++ part) ≡ c.header_length = header_same want (head ++ rest) part i.long ∙ i.header_is in
      let whole : length ((head ++ rest) ++ part) ≡ fragment_length ((head ++ rest) ++ part) = omega (arith, all, wide, i.all, p.all, within) in
      let enough : fragment_length ((head ++ rest) ++ part) ≤ length ((head ++ rest) ++ part) = omega (arith, whole) in
      let long : 24 ≤ length (head ++ rest) = omega (arith, i.all, least) in
      let part_long : part_length want ((head ++ rest) ++ part) ≡ length part =
      ap (λ (n : ℕ). n - header_length want ((head ++ rest) ++ part)) wide ∙ ap (λ (n : ℕ). c.fragment_length - n) head_same ∙ sym p.all in
      let openings : opened b.opening (opening_of want ((head ++ rest) ++ part)) ≡ o =
      ap (opened b.opening) (opening_same want (head ++ rest) part long ∙ i.opening_is) ∙ sym stated in
      let parts : part_of want ((head ++ rest) ++ part) ≡ part = part_back (head ++ rest) part (head_same ∙ sym i.all) part_long in
      record {
        os = (head ++ rest) ++ part;
        taken = both_taken x z v (head ++ rest) part (both_taken x y z head rest t.taken u.taken) p.taken;
        fragment = record {
          accepted = after_all head rest part c t.all s i ∙ all_pass (whole_list c rest) (end_checks b ((head ++ rest) ++ part)) k
              ∙ passes _ _ why.Short [] (not_below (length ((head ++ rest) ++ part)) (fragment_length ((head ++ rest) ++ part)) enough);
          whole = whole;
        };
        last_is = last_same (head ++ rest) part i.long ∙ i.last_is;
        after_is =
            ap (λ q. before (Some q) (b.at + fragment_length ((head ++ rest) ++ part)) (b.stub ++ part_of want ((head ++ rest) ++ part))) openings
            ∙ ap (λ (n : ℕ). before (Some o) (b.at + n) (b.stub ++ part_of want ((head ++ rest) ++ part))) wide
            ∙ ap (λ (l : List ℕ). before (Some o) (b.at + c.fragment_length) (b.stub ++ l)) parts;
      }

-- ## For the code

pub by_residual : {T : Type 0} (r : Result T PduFault) (e : PduFault) (P : PduFault → Type 0) → IsErrAnd r (λ x. x ≡ e) → P e → IfErr r P
by_residual (Ok t) e P h p = absurd h
by_residual (Err x) e P h p = subst P (sym h) p

-- what is seen does not depend on the stub data so far
pub seen_at : (want : Wanted) (opening : Option Opening) (at : ℕ) (stub head : List ℕ) (c : CommonFields) → IsSeen want (before opening at []) head c → IsSeen want (before opening at stub) head c
seen_at want opening at stub head c s = record { passed = s.passed; order = s.order; call = s.call; wide = s.wide; header = s.header; last = s.last }

pub held : (s : SourceOver) (count : ℕ) (buffer os : List ℕ) → os ≡ buffer → IsTaken s count buffer → IsTaken s count os
held s count buffer os e t = subst (IsTaken s count) (sym e) t
