-- The instruction with which a root begins, by its address in a plan.
-- `code` are the plan's instructions, `at` is the address, `i` the instruction that is there.
use Rattle.std.proofs.Common.{◌≡◌, ℕ, List, Option, Some, Result, get_or, refl, ap, sym, ◌∙◌, subst}
use Rattle.std.specs.Prelude.{slice_get}
use Rattle.std.proofs.lemmas.Option.{get_or_from_slice_get}
use Rattle.nd_base.specs.declared.octets.Order.{Order}
use Rattle.nd_base.specs.Over.{SourceOver}
use Rattle.nd_types.specs.declared.types.Class.TheVariants.{Ref, Unique, Full}
use Rattle.nd_types.specs.declared.types.TypeDef.{TypeDef}
use Rattle.nd_types.specs.declared.types.TypeDef.TheVariants as def
use Rattle.nd_types.specs.declared.types.TypeId.{TypeId}
use Rattle.nd_types.specs.Table.{Table, type_at}
use Rattle.ndr_code.specs.declared.instr.Instr.{Instr}
use Rattle.ndr_code.specs.declared.instr.Instr.TheVariants as op
use Rattle.ndr_code.specs.declared.plan.Plan.{Plan}
use Rattle.ndr_code.specs.Code.{root_by, whole_at}
use Rattle.ndr_decoder_state.specs.declared.fault.DecodeFault.{DecodeFault}
use Rattle.ndr_decoder_stream.specs.declared.stream.Stream.{Stream}
use Rattle.nd_grammar.specs.decoded.Verdict.{DecodingSeen}
use Rattle.ndr_decode.specs.Streaming.{IsAtRoot, RootReads}

abbrev IsNext : Plan → Order → Stream → ℕ → Type 0
IsNext plan order x at = (i : Instr) × ((slice_get plan.code at ≡ Some i) × IsAtRoot plan order x i)

module _ (plan : Plan) (order : Order) (code : List Instr) (at : ℕ) (same : code ≡ plan.code) where
  there_is : (i j : Instr) → get_or code at op.Void ≡ i → slice_get plan.code at ≡ Some j → j ≡ i
  there_is i j is there = sym (get_or_from_slice_get plan.code at j op.Void there) ∙ ap (λ (k : List Instr). get_or k at op.Void) (sym same) ∙ is

  -- the root begins with the one that is there
  pub at_it : (x : Stream) (i : Instr) → get_or code at op.Void ≡ i → IsNext plan order x at → IsAtRoot plan order x i
  at_it x i is next = subst (λ (k : Instr). IsAtRoot plan order x k) (there_is i next.0 is next.1.0) next.1.1

  pub reads_it : (x y : Stream) (source : SourceOver) (t : DecodingSeen) (result : Result (Unit {0}) DecodeFault) (i : Instr) → get_or code at op.Void ≡ i
      → RootReads plan order i x source t y result → (j : Instr) → slice_get plan.code at ≡ Some j → RootReads plan order j x source t y result
  reads_it x y source t result i is reads j there = subst (λ (k : Instr). RootReads plan order k x source t y result) (sym (there_is i j is there)) reads

-- it is a call of the value's run, or reads the referent of a reference pointer in its place
one_of_two : (table : Table) (t : ℕ) (d : Option TypeDef) (i : Instr) → i ≡ root_by table t d → ((to : TypeId) (run : ℕ) → i ≡ op.Direct to run → ⊥) → ((run : ℕ) → i ≡ op.Call run → ⊥) → ⊥
one_of_two table t (Some (def.Pointer Ref to)) i e direct call = direct to (whole_at table to.0) e
one_of_two table t (Some (def.Pointer Unique to)) i e direct call = call (whole_at table t) e
one_of_two table t (Some (def.Pointer Full to)) i e direct call = call (whole_at table t) e
one_of_two table t d i e direct call = call (whole_at table t) e

pub no_other : (plan : Plan) (order : Order) (code : List Instr) (at : ℕ) → code ≡ plan.code → (x : Stream) → IsNext plan order x at
    → ((to : TypeId) (run : ℕ) → get_or code at op.Void ≡ op.Direct to run → ⊥) → ((run : ℕ) → get_or code at op.Void ≡ op.Call run → ⊥) → ⊥
no_other plan order code at same x next direct call =
    let k : IsAtRoot plan order x (get_or code at op.Void) = at_it plan order code at same x (get_or code at op.Void) refl next in
    one_of_two k.w.table k.r.of (type_at k.w.table k.r.of) (get_or code at op.Void) k.instr direct call
