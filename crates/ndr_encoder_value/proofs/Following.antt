-- The runs of arrays of structs of numbers and pointers, followed step by step.
-- `left` is how many elements are left of the array in which a run is, each by the run at `by`; it goes on at `on` after them, and at `back` after the array.
use Rattle.std.proofs.Common.{◌≡◌, inl, inr, ℕ, ◌+◌, ◌*◌, ◌-◌, ◌^◌, ◌≤◌, ◌<◌, zero, suc, List, [], ◌∷◌, ◌++◌, length, take, Some, None, refl, ap, ap₂, sym, ◌∙◌, subst, arith, append_assoc}
use Rattle.std.proofs.lemmas.List.{length-take-le}
use Rattle.std.specs.Prelude.{slice_index_or}
use Rattle.std.specs.List.{slice_get}
use Rattle.nd_value.specs.Tree.{Flat}
use Rattle.ndr_code.specs.declared.instr.Instr.{Instr}
use Rattle.ndr_code.specs.declared.instr.Instr.TheVariants as op
use Rattle.ndr_encoder_laws.specs.pieces.Pieces.{Piece, Gap, gap_pieces, four}
use Rattle.ndr_encoder_laws.specs.declared.frames.Frame.{Frame}
use Rattle.ndr_encoder_laws.specs.declared.frames.Frame.TheVariants as frame
use Rattle.ndr_encoder_laws.specs.written.Run.{here, later, after, elements, row_of, row_at, run}
use Rattle.ndr_encoder_output.specs.declared.members.Member.{Member}
use Rattle.ndr_encoder_output.specs.declared.members.StructRun.{StructRun}
use Rattle.ndr_encoder_output.specs.Structs.{member_gap, member_piece, member_pieces, members_pieces, members_of, struct_pieces}
use Rattle.ndr_encoder_value.specs.Elements.{EndsMember, CallsMember, CallMembers, Begins, IsElementRun, IsArrayRun, elements_pieces, array_pieces}
use Rattle.nd_lemmas.proofs.Numbers.{times_more as mul_least}
use Rattle.ndr_encoder_output.proofs.Following.{gap_there, step_by, step_here, steps_are}

-- ## Steps

-- an address, otherwise written
place_is : (code : List Instr) (m k n pc qc : ℕ) (frames : List Frame) (fs : List Flat) → pc ≡ qc → run code m k n pc frames fs ≡ run code m k n qc frames fs
place_is code m k n pc qc frames fs e = ap (λ i. run code m k n i frames fs) e

-- within an element, in some steps, at most so many, a run goes from an address to another, and writes this over the next nodes, so many of them
pub record Goes (code : List Instr) (at to most count : ℕ) (written : List Flat → List Piece) : Type 0 where
  pub steps : ℕ
  pub few : steps ≤ most
  pub same : (m k n left by on back : ℕ) (fs : List Flat)
      → run code m k (steps + n) at (frame.Array left by on ∷ frame.Call back ∷ []) fs
      ≡ written fs ++ run code m k n to (frame.Array left by on ∷ frame.Call back ∷ []) (after count fs)

-- ## Members

module _ (code : List Instr) where
  -- a member without its gap, and the end of its run
  ended : (at to : ℕ) (x : Member) → EndsMember code at x → (m k n left by on back : ℕ) (fs : List Flat)
      → run code m k (suc (suc n)) at (frame.Call to ∷ frame.Array left by on ∷ frame.Call back ∷ []) fs
      ≡ member_piece x (here fs) ∷ run code m k n to (frame.Array left by on ∷ frame.Call back ∷ []) (later fs)
  ended at to x h m k n left by on back fs =
      step_here code m k (suc n) at (frame.Call to ∷ frame.Array left by on ∷ frame.Call back ∷ []) fs
      ∙ h.0 (run code m k (suc n)) code m k at (frame.Call to ∷ frame.Array left by on ∷ frame.Call back ∷ []) fs
      ∙ ap (λ l. member_piece x (here fs) ∷ l) (step_by code m k n (at + 1) (frame.Call to ∷ frame.Array left by on ∷ frame.Call back ∷ []) (later fs) (Some op.Ret) h.1)

  called : (at : ℕ) (x : Member) → CallsMember code at x → Goes code at (at + 1) 4 1 (λ fs. member_pieces x (here fs))
  called at x (run_at, (is, inl (gap, h))) = record {
    steps = 3;
    few = omega arith;
    same = λ m k n left by on back fs.
        steps_are code m k (3 + n) (suc (suc (suc n))) at (frame.Array left by on ∷ frame.Call back ∷ []) fs (omega arith)
        ∙ step_by code m k (suc (suc n)) at (frame.Array left by on ∷ frame.Call back ∷ []) fs (Some (op.Call run_at)) is
        ∙ ended run_at (at + 1) x h m k n left by on back fs
        ∙ ap (λ b. (gap_pieces b ++ member_piece x (here fs) ∷ []) ++ run code m k n (at + 1) (frame.Array left by on ∷ frame.Call back ∷ []) (later fs)) (sym gap);
  }
  called at x (run_at, (is, inr (some, (first, h)))) = record {
    steps = 4;
    few = omega arith;
    same = λ m k n left by on back fs.
        steps_are code m k (4 + n) (suc (suc (suc (suc n)))) at (frame.Array left by on ∷ frame.Call back ∷ []) fs (omega arith)
        ∙ step_by code m k (suc (suc (suc n))) at (frame.Array left by on ∷ frame.Call back ∷ []) fs (Some (op.Call run_at)) is
        ∙ step_by code m k (suc (suc n)) run_at (frame.Call (at + 1) ∷ frame.Array left by on ∷ frame.Call back ∷ []) fs (Some (op.Align (member_gap x))) first
        ∙ ap (λ l. Gap (member_gap x) ∷ l) (ended (run_at + 1) (at + 1) x h m k n left by on back fs)
        ∙ ap (λ gs. (gs ++ member_piece x (here fs) ∷ []) ++ run code m k n (at + 1) (frame.Array left by on ∷ frame.Call back ∷ []) (later fs)) (sym (gap_there (member_gap x) some));
  }

  all_called : (xs : List Member) (at : ℕ) → CallMembers code at xs → Goes code at (at + length xs) (4 * length xs) (length xs) (members_pieces xs)
  all_called [] at h = record {
    steps = 0;
    few = omega arith;
    same = λ m k n left by on back fs.
        steps_are code m k (0 + n) n at (frame.Array left by on ∷ frame.Call back ∷ []) fs (omega arith)
        ∙ place_is code m k n at (at + 0) (frame.Array left by on ∷ frame.Call back ∷ []) fs (omega arith);
  }
  all_called (x ∷ xs) at h =
      let f = called at x h.0 in
      let g = all_called xs (at + 1) h.1 in
      let f_few = f.few in
      let g_few = g.few in
      let more : 4 * suc (length xs) ≡ 4 + 4 * length xs = omega arith in
      record {
        steps = f.steps + g.steps;
        few = omega (arith, f_few, g_few, more);
        same = λ m k n left by on back fs.
            let fr : List Frame = frame.Array left by on ∷ frame.Call back ∷ [] in
            steps_are code m k (f.steps + g.steps + n) (f.steps + (g.steps + n)) at fr fs (omega arith)
            ∙ f.same m k (g.steps + n) left by on back fs
            ∙ ap (λ l. member_pieces x (here fs) ++ l) (g.same m k n left by on back (later fs))
            ∙ sym (append_assoc (member_pieces x (here fs)) (members_pieces xs (later fs)) (run code m k n (at + 1 + length xs) fr (after (length xs) (later fs))))
            ∙ ap (λ l. (member_pieces x (here fs) ++ members_pieces xs (later fs)) ++ l)
            (place_is code m k n (at + 1 + length xs) (at + suc (length xs)) fr (after (length xs) (later fs)) (omega arith));
      }

  -- ## Elements

  -- a struct begins
  begun : (by_at a at : ℕ) → Begins code by_at a at → Goes code by_at at 2 1 (λ fs. gap_pieces a)
  begun by_at a at (inl (one, (is, (count, node)))) = record {
    steps = 1;
    few = omega arith;
    same = λ m k n left by on back fs.
        let fr : List Frame = frame.Array left by on ∷ frame.Call back ∷ [] in
        steps_are code m k (1 + n) (suc n) by_at fr fs (omega arith) ∙ step_by code m k n by_at fr fs (Some (op.Record count)) node
        ∙ place_is code m k n (by_at + 1) at fr (later fs) (sym is) ∙ ap (λ b. gap_pieces b ++ run code m k n at fr (later fs)) (sym one);
  }
  begun by_at a at (inr (some, (is, (first, (count, node))))) = record {
    steps = 2;
    few = omega arith;
    same = λ m k n left by on back fs.
        let fr : List Frame = frame.Array left by on ∷ frame.Call back ∷ [] in
        let two : by_at + 1 + 1 ≡ at = (let t : by_at + 1 + 1 ≡ by_at + 2 = omega arith in t) ∙ sym is in
        steps_are code m k (2 + n) (suc (suc n)) by_at fr fs (omega arith) ∙ step_by code m k (suc n) by_at fr fs (Some (op.Align a)) first
        ∙ ap (λ l. Gap a ∷ l) (step_by code m k n (by_at + 1) fr fs (Some (op.Record count)) node ∙ place_is code m k n (by_at + 1 + 1) at fr (later fs) two)
        ∙ ap (λ gs. gs ++ run code m k n at fr (later fs)) (sym (gap_there a some));
  }

  -- a whole element, up to the end of its run
  element : (by_at : ℕ) (s : StructRun) (h : IsElementRun code by_at s)
      → Goes code by_at (h.at + length (members_of s) + 1) (3 + 4 * length (members_of s)) (suc (length (members_of s))) (struct_pieces s)
  element by_at s h =
      let xs : List Member = members_of s in
      let b = begun by_at s.align h.at h.begins in
      let g = all_called xs h.at h.members in
      let b_few = b.few in
      let g_few = g.few in
      record {
        steps = b.steps + (g.steps + 1);
        few = omega (arith, b_few, g_few);
        same = λ m k n left by on back fs.
            let fr : List Frame = frame.Array left by on ∷ frame.Call back ∷ [] in
            let end : List Piece = run code m k n (h.at + length xs + 1) fr (after (length xs) (later fs)) in
            steps_are code m k (b.steps + (g.steps + 1) + n) (b.steps + (g.steps + suc n)) by_at fr fs (omega arith)
            ∙ b.same m k (g.steps + suc n) left by on back fs
            ∙ ap (λ l. gap_pieces s.align ++ l)
            (g.same m k (suc n) left by on back (later fs)
            ∙ ap (λ l. members_pieces xs (later fs) ++ l) (step_by code m k n (h.at + length xs) fr (after (length xs) (later fs)) (Some op.Close) h.closes))
            ∙ sym (append_assoc (gap_pieces s.align) (members_pieces xs (later fs)) end);
      }

  module _ (by_at : ℕ) (s : StructRun) (h : IsElementRun code by_at s) (on back : ℕ) (on_ret : slice_get code on ≡ Some op.Ret) (back_ret : slice_get code back ≡ Some op.Ret) where
    -- all elements from the end of a run on, and the ends of the array and of the home
    elements_are : (count at : ℕ) → slice_get code at ≡ Some op.Ret → (m k n : ℕ) (fs : List Flat)
        → run code m k (count * suc (element by_at s h).steps + (3 + n)) at (frame.Array count by_at on ∷ frame.Call back ∷ []) fs ≡ elements_pieces s count fs
    elements_are zero at ret m k n fs =
        let z : zero * suc (element by_at s h).steps + (3 + n) ≡ suc (suc (suc n)) = omega arith in
        steps_are code m k (zero * suc (element by_at s h).steps + (3 + n)) (suc (suc (suc n))) at (frame.Array zero by_at on ∷ frame.Call back ∷ []) fs z
        ∙ step_by code m k (suc (suc n)) at (frame.Array zero by_at on ∷ frame.Call back ∷ []) fs (Some op.Ret) ret
        ∙ step_by code m k (suc n) on (frame.Call back ∷ []) fs (Some op.Ret) on_ret
        ∙ step_by code m k n back [] fs (Some op.Ret) back_ret
    elements_are (suc count) at ret m k n fs =
        let e = element by_at s h in
        let xs : List Member = members_of s in
        let w : ℕ = suc e.steps in
        let one : suc count * w ≡ w + count * w = omega arith in
        let all : suc count * w + (3 + n) ≡ suc (e.steps + (count * w + (3 + n))) = omega (arith, one) in
        steps_are code m k (suc count * w + (3 + n)) (suc (e.steps + (count * w + (3 + n)))) at (frame.Array (suc count) by_at on ∷ frame.Call back ∷ []) fs all
        ∙ step_by code m k (e.steps + (count * w + (3 + n))) at (frame.Array (suc count) by_at on ∷ frame.Call back ∷ []) fs (Some op.Ret) ret
        ∙ e.same m k (count * w + (3 + n)) count by_at on back fs
        ∙ ap (λ l. struct_pieces s fs ++ l) (elements_are count (h.at + length xs + 1) h.ends m k n (after (length xs) (later fs)))

  -- such a run is no row of numbers
  no_row : (by_at a at : ℕ) → Begins code by_at a at → row_at code by_at ≡ None
  no_row by_at a at (inl (one, (is, (count, node)))) = ap (λ i. row_of i (slice_get code (by_at + 1)) (slice_get code (by_at + 2))) node
  no_row by_at a at (inr (some, (is, (first, (count, node))))) =
      ap (λ i. row_of i (slice_get code (by_at + 1)) (slice_get code (by_at + 2))) first
      ∙ ap (λ i. row_of (Some (op.Align a)) i (slice_get code (by_at + 2))) node

pub few_steps : (c l n : ℕ) → c < 2 ^ 32 → l < 2 ^ 8 → 2 ^ 43 ≤ n → 6 + c * (4 + 4 * l) ≤ n
few_steps c l n h f g =
    let most : 4 + 4 * l ≤ 1024 = omega (arith, f) in
    let m : c * (4 + 4 * l) ≤ c * 1024 = mul_least c (4 + 4 * l) 1024 most in
    omega (arith, m, h, g)

-- the run of a home that is an array of such structs
pub array_written : (code : List Instr) (start by_at : ℕ) (s : StructRun) → IsArrayRun code start by_at → IsElementRun code by_at s → (m k n : ℕ) (fs : List Flat)
    → 6 + (here fs).1 * (4 + 4 * length (members_of s)) ≤ n → run code m k n start [] fs ≡ array_pieces m s fs
array_written code start by_at s a h m k n fs few =
    let e = element code by_at s h in
    let e_few = e.few in
    let c : ℕ = (here fs).1 in
    let w : ℕ = suc e.steps in
    let wide : w ≤ 4 + 4 * length (members_of s) = omega (arith, e_few) in
    let most : c * w ≤ c * (4 + 4 * length (members_of s)) = mul_least c w (4 + 4 * length (members_of s)) wide in
    let r : ℕ = n - (6 + c * w) in
    let all : n ≡ suc (suc (suc (c * w + (3 + r)))) = omega (arith, few, most) in
    let back : slice_get code (start + 1 + 1) ≡ Some op.Ret = ap (slice_get code) (let t : start + 1 + 1 ≡ start + 2 = omega arith in t) ∙ a.ends in
    steps_are code m k n (suc (suc (suc (c * w + (3 + r))))) start [] fs all
    ∙ step_by code m k (suc (suc (c * w + (3 + r)))) start [] fs (Some op.Hoist) a.hoists
    ∙ ap (λ l. Gap 4 ∷ four m ∷ l)
    (step_by code m k (suc (c * w + (3 + r))) (start + 1) [] fs (Some (op.Call a.place)) a.calls
    ∙ step_by code m k (c * w + (3 + r)) a.place (frame.Call (start + 1 + 1) ∷ []) fs (Some (op.Conf by_at)) a.array
    ∙ ap (λ p. elements (run code m k (c * w + (3 + r))) p c by_at (a.place + 1) (frame.Call (start + 1 + 1) ∷ []) (later fs)) (no_row code by_at s.align h.at h.begins)
    ∙ elements_are code by_at s h (a.place + 1) (start + 1 + 1) a.array_ends back c 1 a.ret m k r (later fs))

-- ## Members that are looked at one by one

pub members_more : (code : List Instr) (at i : ℕ) (xs : List Member) (d : Member) → CallMembers code at (take i xs) → i < length xs
    → CallsMember code (at + i) (slice_index_or xs i d) → CallMembers code at (take (i + 1) xs)
members_more code at i xs d h l g = let e : suc i ≡ i + 1 = omega arith in subst (λ j. CallMembers code at (take j xs)) e (more at i xs h l g) where
  more : (at i : ℕ) (xs : List Member) → CallMembers code at (take i xs) → i < length xs → CallsMember code (at + i) (slice_index_or xs i d) → CallMembers code at (take (suc i) xs)
  more at i [] h l g = absurd (omega (arith, l))
  more at zero (x ∷ xs) h l g = let e : at + 0 ≡ at = omega arith in (subst (λ j. CallsMember code j x) e g, tt)
  more at (suc i) (x ∷ xs) h l g =
      let e : at + suc i ≡ at + 1 + i = omega arith in
      (h.0, more (at + 1) i xs h.1 (omega (arith, l)) (subst (λ j. CallsMember code j (slice_index_or xs i d)) e g))

taken_all : (i : ℕ) (xs : List Member) → length xs ≤ i → take i xs ≡ xs
taken_all zero [] h = refl
taken_all zero (x ∷ xs) h = absurd (omega (arith, h))
taken_all (suc i) [] h = refl
taken_all (suc i) (x ∷ xs) h = ap (λ l. x ∷ l) (taken_all i xs (omega (arith, h)))

pub members_all : (code : List Instr) (at i : ℕ) (xs : List Member) → CallMembers code at (take i xs) → length xs ≤ i → CallMembers code at xs
members_all code at i xs h l = subst (CallMembers code at) (taken_all i xs l) h

-- the same as code has it
pub home_pieces : (code : List Instr) (start by_at : ℕ) (s : StructRun) → IsArrayRun code start by_at → IsElementRun code by_at s → s.count ≤ length s.members → s.count < 2 ^ 8
    → (m k n : ℕ) → 2 ^ 43 ≤ n → (count : ℕ) (fs gs : List Flat) → count < 2 ^ 32 → count ≡ (here fs).1 → gs ≡ later fs
    → run code m k n start [] fs ≡ Gap 4 ∷ four m ∷ elements_pieces s count gs
home_pieces code start by_at s a h whole few m k n most count fs gs low e r =
    let long : length (members_of s) ≡ s.count = length-take-le s.count s.members whole in
    array_written code start by_at s a h m k n fs (few_steps (here fs).1 (length (members_of s)) n (subst (λ c. c < 2 ^ 32) e low) (subst (λ l. l < 2 ^ 8) (sym long) few) most)
    ∙ ap₂ (λ c l. Gap 4 ∷ four m ∷ elements_pieces s c l) (sym e) (sym r)
