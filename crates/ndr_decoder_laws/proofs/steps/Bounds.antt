-- A state that means something is at an address of the code, at an instruction of a home's value, and few frames are open.
use Rattle.std.proofs.Common.{◌≡◌, ◌≤◌, ◌<◌, ℕ, ◌+◌, zero, suc, true, false, List, [], ◌∷◌, ◌++◌, length, Option, Some, None, ap, sym, ◌∙◌, subst, arith}
use Rattle.std.specs.List.{slice_get}
use Rattle.std.proofs.lemmas.Option.{same_Some, slice_get_within}
use Rattle.nd_base.specs.declared.octets.Order.{Order}
use Rattle.nd_types.specs.declared.types.Arm.{Arm}
use Rattle.nd_types.specs.declared.types.AttrVar.{AttrVar}
use Rattle.nd_types.specs.declared.types.Field.{Field}
use Rattle.nd_types.specs.declared.types.TypeDef.{TypeDef}
use Rattle.nd_types.specs.declared.types.TypeDef.TheVariants as def
use Rattle.nd_types.specs.Table.{Table}
use Rattle.nd_value.specs.declared.item.Home.{Home}
use Rattle.nd_value.specs.declared.item.Item.{Item}
use Rattle.nd_value.specs.Agreement.{Agreement}
use Rattle.nd_grammar.specs.Entry.{Entry}
use Rattle.nd_grammar.specs.Reader.{Read}
use Rattle.ndr_code.specs.declared.instr.Instr.{Instr}
use Rattle.ndr_code.specs.declared.instr.Instr.TheVariants as op
use Rattle.ndr_code.specs.Code.{place_at, whole_at, id, text_bound, arm_run, arms_code, default_code, field_checks, member_checks}
use Rattle.ndr_code.specs.Runs.{IsRunAt}
use Rattle.ndr_code.proofs.Runs.{first_at}
use Rattle.ndr_decoder_laws.specs.reader.Around.{Around}
use Rattle.ndr_decoder_laws.specs.reader.Points.{Point, hoisting, counting, called, due, opened, offset_read, text_offset, text_counted, tagged, between, checking, has}
use Rattle.ndr_decoder_laws.specs.declared.frame.Frame.{Frame}
use Rattle.ndr_decoder_laws.specs.steps.Spots.{IsFine, IsFormed, Inside, InsideAt, Spot, ChecksLeft, no_check, at_member, AtEnd, at_ret, at_void, rest_run, body_run}
use Rattle.ndr_decoder_laws.specs.steps.Steps.{State, IsInner}
use Rattle.ndr_decoder_laws.specs.steps.Good.{Good}
use Rattle.ndr_decoder_laws.proofs.steps.Alignments.{gap_alignment}

module _ (code : List Instr) (table : Table) (h : Home) (m pc : ℕ) where
  -- an instruction of a home's value is here
  abbrev IsHere : Type 0
  IsHere = (i : Instr) × (slice_get code pc ≡ Some i) × IsInner i

  at_run : (j : Instr) (is : List Instr) → IsInner j → IsRunAt code pc (j ∷ is) → IsHere
  at_run j is inner run = (j, first_at code pc j is run, inner)

  at_body : (t : ℕ) (d : TypeDef) → IsFormed table t d → IsRunAt code pc (body_run code table t d) → IsHere
  at_body t (def.Prim p) f run = at_run (op.Num (id t)) (op.Ret ∷ []) tt run
  at_body t (def.Enum zs) f run = at_run (op.Enum (id t)) (op.Ret ∷ []) tt run
  at_body t (def.Struct members) f run = at_run (op.Record (length members)) (rest_run code table members members) tt run
  at_body t (def.Array elem (Some n) false) f run = at_run (op.Fixed n (place_at table elem.0)) (op.Ret ∷ []) tt run
  at_body t (def.Array elem None false) f run = at_run (op.Conf (place_at table elem.0)) (op.Ret ∷ []) tt run
  at_body t (def.Array elem (Some n) true) f run = at_run (op.Vary n (place_at table elem.0)) (op.Ret ∷ []) tt run
  at_body t (def.Array elem None true) f run = at_run (op.Confvary (place_at table elem.0)) (op.Ret ∷ []) tt run
  at_body t (def.Text elem bound) f run = at_run (op.Text (text_bound bound)) (op.Ret ∷ []) tt run
  at_body t (def.Union tag enc arms default) f run = at_run (op.Tag tag) (arms_code (place_at table) arms ++ default_code (place_at table) default) tt run
  at_body t (def.Pointer class to) f run = at_run (op.Pointer class to (whole_at table to.0)) (op.Ret ∷ []) tt run
  at_body t def.Context f run = at_run op.Context (op.Ret ∷ []) tt run
  at_body t (def.Pipe elem) f run = absurd f

  at_array : (t : ℕ) (d : TypeDef) (e : TypeDef) → d ≡ e → IsFormed table t e → IsRunAt code pc (body_run code table t d) → IsHere
  at_array t d e ed f run = at_body t e f (subst (λ y. IsRunAt code pc (body_run code table t y)) ed run)

  at_checks : (n : ℕ) (left : List AttrVar) (k : ℕ) (later : List Field) → IsRunAt code pc ((field_checks n left ++ member_checks k later) ++ (op.Close ∷ op.Ret ∷ [])) → IsHere
  at_checks n (a ∷ left) k later run = at_run (op.Check a.attr n a.var a.star) ((field_checks n left ++ member_checks k later) ++ (op.Close ∷ op.Ret ∷ [])) tt run
  at_checks n [] k [] run = at_run op.Close (op.Ret ∷ []) tt run
  at_checks n [] k (g ∷ later) run = at_checks k g.vars (suc k) later run

  at_left : (f : Around) (members : List Field) (so_far : List (List Agreement)) (tests : List Entry) (checks : List Instr) → ChecksLeft code table h f members so_far tests checks
      → IsRunAt code pc (checks ++ (op.Close ∷ op.Ret ∷ [])) → IsHere
  at_left f members so_far tests checks no_check run = at_checks 0 [] 0 [] run
  at_left f members so_far tests checks (at_member xs ys x done later g tried left em ed ec ev) run = at_checks (length done) left (length done + 1) later run

  at_members : (members fields : List Field) → IsRunAt code pc (rest_run code table members fields) → IsHere
  at_members members (y ∷ ys) run = at_run (op.Call (place_at table y.of.0)) (rest_run code table members ys) tt run
  at_members members [] run = at_checks 0 [] 0 members run

  at_arms : (left : List Arm) (default : Option Arm) → IsRunAt code pc (arms_code (place_at table) left ++ default_code (place_at table) default) → IsHere
  at_arms (a ∷ left) default run = at_run (op.Arm a.label (arm_run (place_at table) a.of)) (arms_code (place_at table) left ++ default_code (place_at table) default) tt run
  at_arms [] (Some a) run = at_run (op.Other (arm_run (place_at table) a.of)) [] tt run
  at_arms [] None run = at_run op.Noarm [] tt run

  at_the_end : AtEnd code table pc → IsHere
  at_the_end (at_ret run) = at_run op.Ret [] tt run
  at_the_end (at_void run) = at_run op.Void (op.Ret ∷ []) tt run

  at_point : (depth : ℕ) (p : Point) → Spot code table h m depth pc p → IsHere
  at_point depth (hoisting t) spot = at_run op.Hoist (op.Call (place_at table t) ∷ op.Ret ∷ []) tt spot.1
  at_point depth (counting t) spot = at_run op.Hoist (op.Call (place_at table t) ∷ op.Ret ∷ []) tt spot.1
  at_point depth (called t) spot = at_run (op.Call (place_at table t)) (op.Ret ∷ []) tt spot.1
  at_point depth (due t) spot = at_run (op.Align spot.1.0) (body_run code table t spot.1.1.0) (gap_alignment table h t spot.1.1.0 spot.1.1.1 spot.1.0 spot.1.1.2) spot.1.1.3
  at_point zero (opened t d) spot = absurd spot.0
  at_point (suc k) (opened t d) spot =
      let fine : IsFine table (suc k) t = spot.0 in
      at_body t d (subst (IsFormed table t) (same_Some fine.of d (sym fine.is_there ∙ spot.1)) fine.formed) spot.2
  at_point depth (offset_read t d max elem o) spot = at_array t d (def.Array spot.1.0 spot.1.1 true) spot.1.2 tt spot.1.6
  at_point depth (text_offset t max) spot = at_body t (def.Text spot.1.0 spot.1.1) spot.1.3 spot.1.5
  at_point depth (text_counted t max c) spot = at_body t (def.Text spot.1.0 spot.1.1) spot.1.3 spot.1.5
  at_point depth (tagged t d form arms default z) spot = at_arms spot.1.5.1 default spot.1.5.4
  at_point depth (between f) spot = at_members spot.0 spot.1 spot.3
  at_point depth (checking f so_far tests) spot = at_left f spot.0 so_far tests spot.1 spot.3 spot.4
  at_point depth (has t v) spot = at_the_end spot.0

-- as many frames wait as values are around, but for the innermost
waiting : (code : List Instr) (table : Table) (top : Frame) (stack : List Frame) (fs : List Around) → Inside code table top stack fs → length stack ≡ length fs
waiting code table top stack [] inside = ap length inside.1
waiting code table top stack (f ∷ fs) inside = ap length inside.1.1.1 ∙ ap suc (waiting code table inside.1.0 inside.1.1.0 fs inside.1.1.2)

at_most : (m n : ℕ) → m ≡ n → m ≤ suc n
at_most m n e = omega (arith, e)

waiting_at : (code : List Instr) (table : Table) (p : Point) (top : Frame) (stack : List Frame) (fs : List Around) → InsideAt code table p top stack fs → length stack ≤ suc (length fs)
waiting_at code table (between f) top stack fs inside =
    let n : length stack ≡ suc (length inside.1.1.0) = ap length inside.1.1.1 in
    let m : length inside.1.1.0 ≡ length fs = waiting code table inside.1.0 inside.1.1.0 fs inside.1.1.2 in omega (arith, n, m)
waiting_at code table (checking f so_far tests) top stack fs inside =
    let n : length stack ≡ suc (length inside.1.1.0) = ap length inside.1.1.1 in
    let m : length inside.1.1.0 ≡ length fs = waiting code table inside.1.0 inside.1.1.0 fs inside.1.1.2 in omega (arith, n, m)
waiting_at code table (hoisting t) top stack fs inside = at_most (length stack) (length fs) (waiting code table top stack fs inside)
waiting_at code table (counting t) top stack fs inside = at_most (length stack) (length fs) (waiting code table top stack fs inside)
waiting_at code table (called t) top stack fs inside = at_most (length stack) (length fs) (waiting code table top stack fs inside)
waiting_at code table (due t) top stack fs inside = at_most (length stack) (length fs) (waiting code table top stack fs inside)
waiting_at code table (opened t d) top stack fs inside = at_most (length stack) (length fs) (waiting code table top stack fs inside)
waiting_at code table (offset_read t d max elem o) top stack fs inside = at_most (length stack) (length fs) (waiting code table top stack fs inside)
waiting_at code table (text_offset t max) top stack fs inside = at_most (length stack) (length fs) (waiting code table top stack fs inside)
waiting_at code table (text_counted t max c) top stack fs inside = at_most (length stack) (length fs) (waiting code table top stack fs inside)
waiting_at code table (tagged t d form arms default z) top stack fs inside = at_most (length stack) (length fs) (waiting code table top stack fs inside)
waiting_at code table (has t v) top stack fs inside = at_most (length stack) (length fs) (waiting code table top stack fs inside)

module _ (order : Order) (fetched : List ℕ) (code : List Instr) (table : Table) (h : Home) (own limit : ℕ) (noted : List Item) (direct : ℕ) (target : List ℕ → Read) (s : State)
    (g : Good order fetched code table h own limit noted direct target s) where
  pub address_within : s.pc < length code
  address_within = let here_it = at_point code table h s.max s.pc g.depth g.point g.spot in slice_get_within code s.pc here_it.0 here_it.1

  -- an instruction of a home's value is there
  pub instruction_there : (i : Instr) × (slice_get code s.pc ≡ Some i) × IsInner i
  instruction_there = at_point code table h s.max s.pc g.depth g.point g.spot

  -- the instruction is one of a home's value
  pub inner_there : (i : Instr) → slice_get code s.pc ≡ Some i → IsInner i
  inner_there i e = let here_it = at_point code table h s.max s.pc g.depth g.point g.spot in subst IsInner (same_Some here_it.0 i (sym here_it.1 ∙ e)) here_it.2

  pub few_frames : length s.stack ≤ suc limit
  few_frames =
      let n : length s.stack ≤ suc (length g.fs) = waiting_at code table g.point s.top s.stack g.fs g.inside in
      let d : g.depth + length g.fs ≡ limit = g.deep in omega (arith, n, d)
