-- The next root by its instruction in a plan.
-- `x` is what is kept of the stream, `run` the run of the root's code, `m` the machine when its home is open.
use Rattle.std.proofs.Common.{◌≡◌, ◌<◌, ℕ, ◌+◌, suc, false, List, [], ◌∷◌, ◌++◌, length, Option, Some, refl, sym, ap, ◌∙◌, subst, arith, append-nil}
use Rattle.std.specs.Prelude.{slice_get}
use Rattle.nd_base.specs.declared.octets.Order.{Order}
use Rattle.nd_types.specs.declared.types.Class.TheVariants.{Ref, Unique, Full}
use Rattle.nd_types.specs.declared.types.TypeDef.{TypeDef}
use Rattle.nd_types.specs.declared.types.TypeDef.TheVariants as def
use Rattle.nd_types.specs.declared.types.TypeId.{TypeId}
use Rattle.nd_types.specs.Legal.{IsLegal}
use Rattle.nd_types.specs.Number.{AreOctets}
use Rattle.nd_types.specs.Roots.{Root}
use Rattle.nd_types.specs.Table.{Table, type_at}
use Rattle.nd_value.specs.Deferral.{before_pipes}
use Rattle.nd_value.specs.declared.item.Home.TheVariants as home
use Rattle.nd_value.specs.declared.item.Item.{Item}
use Rattle.nd_value.specs.Setting.{Setting, cell_home, root_list}
use Rattle.nd_grammar.specs.Entry.{EntryAt}
use Rattle.nd_grammar.specs.LegalSide.{IsLegalSide}
use Rattle.nd_grammar.specs.StreamReader.{Reading}
use Rattle.nd_grammar.proofs.legal.LegalUsable.{root_usable}
use Rattle.nd_grammar.specs.ReaderState.{Usable}
use Rattle.ndr_code.specs.declared.instr.Instr.TheVariants as op
use Rattle.ndr_code.specs.declared.plan.Plan.{Plan}
use Rattle.ndr_code.specs.Code.{code_of, root_by, whole_at}
use Rattle.ndr_decoder_laws.specs.steps.Spots.{IsFine, IsPlanned}
use Rattle.ndr_decoder_laws.specs.steps.Steps.{State}
use Rattle.ndr_decoder_laws.proofs.steps.PlanRuns.{planned}
use Rattle.ndr_decoder_laws.specs.runs.Reaching.{IsSafe, Reaches}
use Rattle.ndr_decoder_state.specs.declared.machine.Machine.{Machine}
use Rattle.ndr_decoder_state.specs.Seen.{state_of}
use Rattle.nd_grammar.specs.decoded.Verdict.{is_direct}
use Rattle.ndr_decoder_laws.specs.stream.Between.{Opens}
use Rattle.ndr_decoder_laws.proofs.stream.DirectEnds.{its_usable}
use Rattle.ndr_decoder_laws.proofs.stream.FineTypes.{usable_fine}
use Rattle.ndr_decoder_stream.specs.declared.stream.Stream.{Stream}
use Rattle.ndr_decoder_stream.specs.Seen.{between_of}
use Rattle.ndr_decode.specs.Streaming.{Stands}
use Rattle.ndr_decode.proofs.PaidHomes.{paid_more, paid_same, roots_kept}
use Rattle.ndr_decode.proofs.DirectReads.{direct_safe}
use Rattle.ndr_decode.proofs.RootReads.{root_safe}

-- ## Instructions

same_run : (a b : ℕ) → op.Call a ≡ op.Call b → a ≡ b
same_run a b e = cc

-- a root that is called is no reference pointer
pub call_is : (table : Table) (t run : ℕ) (d : Option TypeDef) → op.Call run ≡ root_by table t d → (run ≡ whole_at table t) × (is_direct d ≡ false)
call_is table t run (Some (def.Pointer Ref to)) e = absurd (other e)
  where
    other : op.Call run ≡ op.Direct to (whole_at table to.0) → ⊥
    other e = cc
call_is table t run (Some (def.Pointer Unique to)) e = (same_run run (whole_at table t) e, refl)
call_is table t run (Some (def.Pointer Full to)) e = (same_run run (whole_at table t) e, refl)
call_is table t run d e = (same_run run (whole_at table t) e, refl)

-- a root whose referent is read in its place is a reference pointer
pub direct_is : (table : Table) (t : ℕ) (to : TypeId) (run : ℕ) (d : Option TypeDef) → op.Direct to run ≡ root_by table t d → (d ≡ Some (def.Pointer Ref to)) × (run ≡ whole_at table to.0)
direct_is table t to run (Some (def.Pointer Ref to')) e =
    let same : to ≡ to' = cc in
    let at : run ≡ whole_at table to'.0 = cc in
    (ap (λ k. Some (def.Pointer Ref k)) (sym same), at ∙ ap (λ (k : TypeId). whole_at table k.0) (sym same))
direct_is table t to run (Some (def.Pointer Unique to')) e = absurd (no_call to run (whole_at table t) e)
  where
    no_call : (to : TypeId) (a b : ℕ) → op.Direct to a ≡ op.Call b → ⊥
    no_call to a b e = cc
direct_is table t to run (Some (def.Pointer Full to')) e = absurd (no_call to run (whole_at table t) e)
  where
    no_call : (to : TypeId) (a b : ℕ) → op.Direct to a ≡ op.Call b → ⊥
    no_call to a b e = cc
direct_is table t to run d e = absurd (no_call to run (whole_at table t) e)
  where
    no_call : (to : TypeId) (a b : ℕ) → op.Direct to a ≡ op.Call b → ⊥
    no_call to a b e = cc

-- ## Plans

module _ (plan : Plan) (w : Setting) (table : w.table ≡ plan.tie.types) where
  pub code_is : plan.code ≡ code_of w.table plan.tie.operations
  code_is = plan.planned.code_is ∙ ap (λ t. code_of t plan.tie.operations) (sym table)

  pub legal_is : IsLegal w.table plan.tie.operations
  legal_is = subst (λ t. IsLegal t plan.tie.operations) (sym table) plan.legal

  pub planned_is : IsPlanned plan.code plan.values w.table
  planned_is =
      subst (λ t. IsPlanned plan.code plan.values t) (sym table)
      (subst (λ c. IsPlanned c plan.values plan.tie.types) (sym plan.planned.code_is)
      (subst (λ v. IsPlanned (code_of plan.tie.types plan.tie.operations) v plan.tie.types) (sym plan.planned.values_are) (planned plan.tie.types plan.tie.operations plan.legal)))

  -- ## The next root

  module _ (side : IsLegalSide w) (order : Order) (fetched : List ℕ) (noted : List Item) (direct : ℕ) (x : Stream) (s : Reading) (seen : List EntryAt) (n : ℕ)
      (st : Stands w side order fetched noted direct x s seen [] (suc n)) (r : Root) (there : slice_get (root_list w) (length s.roots) ≡ Some r) where
    few : length s.roots < before_pipes (root_list w)
    few =
        let all : AreOctets (fetched ++ []) = subst AreOctets (sym (append-nil fetched)) st.agrees.octets in
        let (taken, reading) = st.agrees.state [] all in
        let e : length s.roots + suc n ≡ before_pipes (root_list w) = reading.roots_left in
        omega (arith, e)

    pub usable_is : Usable w.table r.of
    usable_is = root_usable w side (length s.roots) r there few

    pub fine_is : IsFine w.table 32 r.of
    fine_is = usable_fine w.table plan.tie.operations legal_is r.of usable_is

    -- each state that is reached in its value is safe
    pub placed_safe : (run : ℕ) (m : Machine) → op.Call run ≡ root_by w.table r.of (type_at w.table r.of) → Opens run (between_of x) (between_of x).cells (state_of m)
        → m.home ≡ home.Root (length x.roots.items) → (more : List ℕ) (items : List Item) (y : State) → Reaches plan.values order plan.code m.home (state_of m) more items y → IsSafe plan.code y
    placed_safe run m instr opens here more items y reached =
        let (is, plain) = call_is w.table r.of run (type_at w.table r.of) instr in
        let at_whole : Opens (whole_at w.table r.of) (between_of x) (between_of x).cells (state_of m) = subst (λ k. Opens k (between_of x) (between_of x).cells (state_of m)) is opens in
        let home_is : m.home ≡ home.Root (length s.roots) = here ∙ ap (λ k. home.Root k) (roots_kept w side order fetched noted direct (between_of x) s seen [] (suc n) st.agrees) in
        let at : length fetched ≡ x.machine.at = st.agrees.keeps.at in
        let within = st.within in
        root_safe w side order fetched noted direct (between_of x) s seen n st.agrees r there plain usable_is (state_of m) at_whole plan.values plan.tie.operations legal_is plan.code code_is
        planned_is fine_is (omega (arith, at, within)) (paid_same w side order fetched noted direct (between_of x) s seen [] (suc n) st.agrees run (state_of m) opens) more items y
        (subst (λ h. Reaches plan.values order plan.code h (state_of m) more items y) home_is reached)

    -- and in the value of the referent that is read in its place
    pub direct_placed_safe : (to : TypeId) (run : ℕ) (m : Machine) → op.Direct to run ≡ root_by w.table r.of (type_at w.table r.of)
        → Opens run (between_of x) ((between_of x).cells ++ to.0 ∷ []) (state_of m) → m.home ≡ cell_home (length s.names.cells + 1)
        → (more : List ℕ) (items : List Item) (y : State) → Reaches plan.values order plan.code m.home (state_of m) more items y → IsSafe plan.code y
    direct_placed_safe to run m instr opens here more items y reached =
        let (refers, is) = direct_is w.table r.of to run (type_at w.table r.of) instr in
        let types : List ℕ = (between_of x).cells ++ to.0 ∷ [] in
        let at_whole : Opens (whole_at w.table to.0) (between_of x) types (state_of m) = subst (λ k. Opens k (between_of x) types (state_of m)) is opens in
        let usable : Usable w.table to.0 = its_usable w side order fetched noted direct (between_of x) s seen n st.agrees r there to refers in
        let at : length fetched ≡ x.machine.at = st.agrees.keeps.at in
        let within = st.within in
        direct_safe w side order fetched noted direct (between_of x) s seen n st.agrees r there to refers (state_of m) at_whole plan.values plan.tie.operations legal_is plan.code code_is
        planned_is (usable_fine w.table plan.tie.operations legal_is to.0 usable) (omega (arith, at, within))
        (paid_more w side order fetched noted direct (between_of x) s seen [] (suc n) st.agrees run to.0 (state_of m) opens) more items y
        (subst (λ h. Reaches plan.values order plan.code h (state_of m) more items y) here reached)
