-- The laws of runs, at the short of `ndr_decoder_laws: proofs/Worked`.
use Rattle.std.proofs.Common.{◌+◌, [], ◌∷◌, refl, lit<, lit≤}
use Rattle.nd_base.specs.declared.octets.Order.TheVariants.{Little}
use Rattle.nd_types.specs.Kinds.{basic_types}
use Rattle.nd_value.specs.declared.item.Home.{Home}
use Rattle.ndr_code.specs.Code.{place_at, id}
use Rattle.ndr_code.specs.declared.instr.Instr.TheVariants as op
use Rattle.ndr_code.proofs.Runs.{first_at, next_at}
use Rattle.ndr_decoder_laws.specs.steps.Good.{Whole}
use Rattle.ndr_decoder_laws.proofs.steps.Worked.{code, values, plan, run, run_short, at_first, after_gap, after_short, target, short_item, good_first}
use Rattle.ndr_decoder_laws.specs.runs.Reaching.{Reaches, begins, steps_to}
use Rattle.ndr_decoder_laws.specs.runs.Paid.{IsPaid}
use Rattle.ndr_decoder_laws.specs.runs.Refusals.{IsShort}
use Rattle.ndr_decoder_laws.proofs.runs.EndRuns.{needed_along, whole_end}
use Rattle.ndr_decoder_laws.proofs.runs.PaidSteps.{paid_along}

module _ (h : Home) where
  gap_passed : Reaches values Little code h at_first [] [] after_gap
  gap_passed = steps_to [] [] [] at_first after_gap (op.Align 2) begins (first_at code (place_at basic_types 5) (op.Align 2) (op.Num (id 5) ∷ op.Ret ∷ []) run) refl tt refl

  short_passed : Reaches values Little code h at_first (2 ∷ 1 ∷ []) (short_item h) after_short
  short_passed =
      steps_to [] (2 ∷ 1 ∷ []) [] after_gap after_short (op.Num (id 5)) gap_passed (first_at code (place_at basic_types 5 + 1) (op.Num (id 5)) (op.Ret ∷ []) (run_short h)) (refl, lit≤ tt)
      (lit< tt, (lit< tt, tt)) refl

  pub short_is_whole : Whole Little (2 ∷ 1 ∷ []) basic_types h 5 (short_item h) 0 (target h) after_short
  short_is_whole =
      whole_end values Little code basic_types h 5 32 0 (target h) plan [] [] at_first (good_first h) (2 ∷ 1 ∷ []) (short_item h) after_short short_passed op.Ret
      (first_at code (place_at basic_types 5 + 1 + 1) op.Ret [] (next_at code (place_at basic_types 5 + 1) (op.Num (id 5)) (op.Ret ∷ []) (run_short h))) [] refl after_short refl

  -- the second octet is needed
  pub second_is_needed : IsShort (target h) (2 ∷ [])
  second_is_needed = needed_along values Little code basic_types h 5 32 0 (target h) plan [] [] at_first (good_first h) short_passed (2 ∷ []) 1 refl

  -- and the octets pay for the node
  pub short_is_paid : IsPaid after_short
  short_is_paid = paid_along values Little code h at_first (record { nodes = lit≤ tt; read = tt; cells = lit≤ tt }) short_passed
