-- The runs of structs of numbers and pointers, followed step by step.
use Rattle.std.proofs.Common.{◌≡◌, ℕ, ◌+◌, ◌-◌, ◌≤◌, suc, Bool, true, false, List, [], ◌∷◌, ◌++◌, length, Option, Some, None, refl, ap, sym, ◌∙◌, arith, append_assoc}
use Rattle.std.specs.Prelude.{◌==◌, drop, IfSome}
use Rattle.std.specs.List.{slice_get}
use Rattle.std.proofs.lemmas.List.{append-nil, length-append, length-take-le}
use Rattle.nd_value.specs.Tree.{Flat}
use Rattle.ndr_code.specs.declared.instr.Instr.{Instr}
use Rattle.ndr_code.specs.declared.instr.Instr.TheVariants as op
use Rattle.nd_types.specs.declared.types.Attr.{Attr}
use Rattle.ndr_encoder_laws.specs.pieces.Pieces.{Piece, Gap, gap_pieces}
use Rattle.ndr_encoder_laws.specs.declared.frames.Frame.{Frame}
use Rattle.ndr_encoder_laws.specs.declared.frames.Frame.TheVariants.{Call}
use Rattle.ndr_encoder_laws.specs.written.Run.{here, later, after, past_checks, stepped, run}
use Rattle.ndr_encoder_output.specs.declared.members.Member.{Member}
use Rattle.ndr_encoder_output.specs.declared.members.StructRun.{StructRun}
use Rattle.ndr_encoder_output.specs.Structs.{member_gap, member_piece, member_pieces, members_pieces, members_of, IsMember, IsNode, IsMemberRun, IsMemberCall, HasBegun, HasClosed, HasEnded}
use Rattle.ndr_encoder_output.specs.Structs.{IsStructRun}

-- one step
pub step_here : (code : List Instr) (m k n pc : ℕ) (frames : List Frame) (fs : List Flat)
    → run code m k (suc n) pc frames fs ≡ stepped (run code m k n) code m k pc frames fs (slice_get code pc)
unfolding run
step_here code m k n pc frames fs = refl

pub step_by : (code : List Instr) (m k n pc : ℕ) (frames : List Frame) (fs : List Flat) (i : Option Instr) → slice_get code pc ≡ i
    → run code m k (suc n) pc frames fs ≡ stepped (run code m k n) code m k pc frames fs i
step_by code m k n pc frames fs i e = step_here code m k n pc frames fs ∙ ap (stepped (run code m k n) code m k pc frames fs) e

-- a number of steps, otherwise written
pub steps_are : (code : List Instr) (m k n j pc : ℕ) (frames : List Frame) (fs : List Flat) → n ≡ j → run code m k n pc frames fs ≡ run code m k j pc frames fs
steps_are code m k n j pc frames fs e = ap (λ i. run code m k i pc frames fs) e

-- a gap that is not left out
pub gap_there : (a : ℕ) → (a == 1) ≡ false → gap_pieces a ≡ Gap a ∷ []
gap_there a e = ap (λ b. elim b as (λ _. List Piece) [ true ↦ [] | false ↦ Gap a ∷ [] ]) e

-- ## Members

module _ (code : List Instr) where
  -- a member without its gap, and the end of its run
  bare : (at : ℕ) (x : Member) (i : Option Instr) → slice_get code at ≡ i → IsMember i x → slice_get code (at + 1) ≡ Some op.Ret
      → (m k n to : ℕ) (fs : List Flat) → run code m k (suc (suc n)) at (Call to ∷ []) fs ≡ member_piece x (here fs) ∷ run code m k n to [] (later fs)
  bare at x i e h r m k n to fs =
      step_by code m k (suc n) at (Call to ∷ []) fs i e ∙ h (run code m k (suc n)) code m k at (Call to ∷ []) fs
      ∙ ap (λ l. member_piece x (here fs) ∷ l) (step_by code m k n (at + 1) (Call to ∷ []) (later fs) (Some op.Ret) r)

  pub without_gap : (at : ℕ) (x : Member) (i : Option Instr) → slice_get code at ≡ i → IsMember i x → slice_get code (at + 1) ≡ Some op.Ret → member_gap x ≡ 1 → IsMemberRun code at x
  without_gap at x i e h r g to = record {
    steps = 2;
    few = omega arith;
    same = λ m k n fs.
        steps_are code m k (2 + n) (suc (suc n)) at (Call to ∷ []) fs (omega arith) ∙ bare at x i e h r m k n to fs
        ∙ ap (λ b. (gap_pieces b ++ member_piece x (here fs) ∷ []) ++ run code m k n to [] (later fs)) (sym g);
  }

  pub with_gap : (at a : ℕ) (x : Member) (i : Option Instr) → slice_get code at ≡ Some (op.Align a) → (a == 1) ≡ false → slice_get code (at + 1) ≡ i → IsMember i x
      → slice_get code (at + 2) ≡ Some op.Ret → member_gap x ≡ a → IsMemberRun code at x
  with_gap at a x i first some e h r g to =
      let next : slice_get code (at + 1 + 1) ≡ Some op.Ret = ap (slice_get code) (let s : at + 1 + 1 ≡ at + 2 = omega arith in s) ∙ r in
      record {
        steps = 3;
        few = omega arith;
        same = λ m k n fs.
            steps_are code m k (3 + n) (suc (suc (suc n))) at (Call to ∷ []) fs (omega arith) ∙ step_by code m k (suc (suc n)) at (Call to ∷ []) fs (Some (op.Align a)) first
            ∙ ap (λ l. Gap a ∷ l) (bare (at + 1) x i e h next m k n to fs)
            ∙ ap (λ gs. (gs ++ member_piece x (here fs) ∷ []) ++ run code m k n to [] (later fs)) (sym (gap_there a some))
            ∙ ap (λ b. (gap_pieces b ++ member_piece x (here fs) ∷ []) ++ run code m k n to [] (later fs)) (sym g);
      }

  pub called : (at by : ℕ) (x : Member) → slice_get code at ≡ Some (op.Call by) → IsMemberRun code by x → IsMemberCall code at x
  called at by x e h =
      let q = h (at + 1) in
      let most = q.few in
      record {
        steps = suc q.steps;
        few = omega (arith, most);
        same = λ m k n fs.
            steps_are code m k (suc q.steps + n) (suc (q.steps + n)) at [] fs (omega arith) ∙ step_by code m k (q.steps + n) at [] fs (Some (op.Call by)) e ∙ q.same m k n fs;
      }

  -- ## The beginning

  pub begun_bare : (start : ℕ) → IsNode (slice_get code start) → HasBegun code start (start + 1) 1 []
  begun_bare start h = record {
    steps = 1;
    few = omega arith;
    same = λ m k n fs. steps_are code m k (1 + n) (suc n) start [] fs (omega arith) ∙ step_here code m k n start [] fs ∙ h (run code m k n) code m k start [] fs;
  }

  pub begun_after : (start a : ℕ) → slice_get code start ≡ Some (op.Align a) → (a == 1) ≡ false → IsNode (slice_get code (start + 1)) → HasBegun code start (start + 2) a []
  begun_after start a e some h = record {
    steps = 2;
    few = omega arith;
    same = λ m k n fs.
        steps_are code m k (2 + n) (suc (suc n)) start [] fs (omega arith) ∙ step_by code m k (suc n) start [] fs (Some (op.Align a)) e
        ∙ ap (λ l. Gap a ∷ l) (step_here code m k n (start + 1) [] fs ∙ h (run code m k n) code m k (start + 1) [] fs)
        ∙ ap (λ at. Gap a ∷ run code m k n at [] (later fs)) (let s : start + 1 + 1 ≡ start + 2 = omega arith in s)
        ∙ ap (λ gs. gs ++ run code m k n (start + 2) [] (later fs)) (sym (gap_there a some));
  }

-- ## One member more

joined : (xs : List Member) (x : Member) (gs : List Flat) (R : List Flat → List Piece)
    → members_pieces xs gs ++ (member_pieces x (here (after (length xs) gs)) ++ R (later (after (length xs) gs)))
    ≡ members_pieces (xs ++ x ∷ []) gs ++ R (after (length (xs ++ x ∷ [])) gs)
joined [] x gs R = sym (append_assoc (member_pieces x (here gs)) [] (R (later gs)))
joined (y ∷ ys) x gs R =
    append_assoc (member_pieces y (here gs)) (members_pieces ys (later gs))
    (member_pieces x (here (after (length ys) (later gs))) ++ R (later (after (length ys) (later gs))))
    ∙ ap (λ l. member_pieces y (here gs) ++ l) (joined ys x (later gs) R)
    ∙ sym (append_assoc (member_pieces y (here gs)) (members_pieces (ys ++ x ∷ []) (later gs)) (R (after (length (ys ++ x ∷ [])) (later gs))))

pub one_more : (code : List Instr) (start at align : ℕ) (xs : List Member) (x : Member) → HasBegun code start at align xs → IsMemberCall code at x
    → HasBegun code start (at + 1) align (xs ++ x ∷ [])
one_more code start at align xs x b q =
    let long : length (xs ++ x ∷ []) ≡ length xs + 1 = length-append xs (x ∷ []) in
    let few = b.few in
    let most = q.few in
    record {
      steps = b.steps + q.steps;
      few = omega (arith, long, few, most);
      same = λ m k n fs.
          steps_are code m k (b.steps + q.steps + n) (b.steps + (q.steps + n)) start [] fs (omega arith) ∙ b.same m k (q.steps + n) fs
          ∙ ap (λ l. gap_pieces align ++ (members_pieces xs (later fs) ++ l)) (q.same m k n (after (length xs) (later fs)))
          ∙ ap (λ l. gap_pieces align ++ l) (joined xs x (later fs) (run code m k n (at + 1) []));
    }

-- ## The end

pub closed : (code : List Instr) (at : ℕ) → slice_get code at ≡ Some op.Close → slice_get code (at + 1) ≡ Some op.Ret → HasClosed code at
closed code at e r = record {
  steps = 2;
  few = omega arith;
  same = λ m k n fs.
      steps_are code m k (2 + n) (suc (suc n)) at [] fs (omega arith) ∙ step_by code m k (suc n) at [] fs (Some op.Close) e
      ∙ step_by code m k n (at + 1) [] fs (Some op.Ret) r;
}

pub checked_ended : (code : List Instr) (at : ℕ) (attr : Attr) (field var : ℕ) (star : Bool) → slice_get code at ≡ Some (op.Check attr field var star)
    → HasClosed code (past_checks (drop (at + 1) code) (at + 1)) → HasEnded code at
checked_ended code at attr field var star e h =
    let most = h.few in
    record {
      steps = suc h.steps;
      few = omega (arith, most);
      same = λ m k n fs.
          steps_are code m k (suc h.steps + n) (suc (h.steps + n)) at [] fs (omega arith)
          ∙ step_by code m k (h.steps + n) at [] fs (Some (op.Check attr field var star)) e ∙ h.same m k n fs;
    }

-- ## The whole

pub is_struct : (code : List Instr) (start at : ℕ) (s : StructRun) → HasBegun code start at s.align (members_of s) → HasEnded code at → s.count ≤ length s.members → s.count ≤ 8
    → IsStructRun code start s
is_struct code start at s b e whole most = record {
  whole = whole;
  writes = λ m k n fs h.
      let long : length (members_of s) ≡ s.count = length-take-le s.count s.members whole in
      let b_few = b.few in
      let e_few = e.few in
      let r : ℕ = n - (b.steps + e.steps) in
      let all : n ≡ b.steps + (e.steps + r) = omega (arith, long, b_few, e_few, most, h) in
      steps_are code m k n (b.steps + (e.steps + r)) start [] fs all ∙ b.same m k (e.steps + r) fs
      ∙ ap (λ l. gap_pieces s.align ++ (members_pieces (members_of s) (later fs) ++ l)) (e.same m k r (after (length (members_of s)) (later fs)))
      ∙ ap (λ l. gap_pieces s.align ++ l) (append-nil (members_pieces (members_of s) (later fs)));
}

-- ## Options

pub some_after : (code : List Instr) (at a : ℕ) (i e : Option Instr) (r : Option Member) → slice_get code at ≡ Some (op.Align a) → (a == 1) ≡ false → slice_get code (at + 1) ≡ i
    → slice_get code (at + 2) ≡ e → IfSome r (λ x. IsMember i x) → IfSome r (λ x. member_gap x ≡ a) → IfSome r (λ x. e ≡ Some op.Ret) → IfSome r (λ x. IsMemberRun code at x)
some_after code at a i e None first some next end h g r = tt
some_after code at a i e (Some x) first some next end h g r = with_gap code at a x i first some next h (end ∙ r) g

pub some_bare : (code : List Instr) (at : ℕ) (i e : Option Instr) (r : Option Member) → slice_get code at ≡ i → slice_get code (at + 1) ≡ e
    → IfSome r (λ x. IsMember i x) → IfSome r (λ x. member_gap x ≡ 1) → IfSome r (λ x. e ≡ Some op.Ret) → IfSome r (λ x. IsMemberRun code at x)
some_bare code at i e None first end h g r = tt
some_bare code at i e (Some x) first end h g r = without_gap code at x i first h (end ∙ r) g

pub some_called : (code : List Instr) (at by : ℕ) (r : Option Member) → slice_get code at ≡ Some (op.Call by) → IfSome r (λ x. IsMemberRun code by x)
    → IfSome r (λ x. IsMemberCall code at x)
some_called code at by None e h = tt
some_called code at by (Some x) e h = called code at by x e h
