-- The pipe that is next, by the plan.
-- `i` is the intake, `o` its operation.
use Rattle.std.proofs.Common.{◌≡◌, ◌≤◌, ◌<◌, ◌-◌, ℕ, ◌+◌, List, length, Some, None, refl, ap, sym, ◌∙◌, subst, arith}
use Rattle.std.specs.List.{slice_get}
use Rattle.std.proofs.lemmas.Option.{same_Some, slice_get_within as below}
use Rattle.nd_types.specs.declared.types.Operation.{Operation}
use Rattle.nd_types.specs.declared.types.Side.{Side}
use Rattle.nd_types.specs.declared.types.TypeDef.TheVariants as def
use Rattle.nd_types.specs.declared.types.TypeId.{TypeId}
use Rattle.nd_types.specs.Roots.{Root}
use Rattle.nd_types.specs.Table.{type_at}
use Rattle.nd_value.specs.Deferral.{before_pipes, root_type}
use Rattle.nd_value.specs.Fitting.{setting_beside}
use Rattle.nd_value.specs.Setting.{Setting, root_list}
use Rattle.nd_grammar.specs.LegalSide.{IsLegalSide}
use Rattle.nd_grammar.proofs.LegalSides.{laid_out}
use Rattle.nd_grammar.proofs.reader.ReaderStream.{roots_few}
use Rattle.nd_grammar.proofs.next.NextStream.{IsPipeRoot, drop_at}
use Rattle.nd_lemmas.proofs.Lists.{all_at, item_at}
use Rattle.ndr_code.specs.Code.{place_at}
use Rattle.ndr_code.specs.declared.lists.PlanLine.TheVariants as line
use Rattle.ndr_code.specs.declared.plan.Plan.{Plan}
use Rattle.ndr_decode.specs.Piping.{CallsPipe, ElementsRun, IsPipeBy}
use Rattle.ndr_decode.specs.Streaming.{IsSettingOf}
use Rattle.ndr_decode.proofs.Decodes.{legal, setting}
use Rattle.ndr_decode.proofs.PipeLines.{HasLine, first_line, one_run, pipe_line, pipes}
use Rattle.ndr_drain_laws.specs.reader.PartReader as part
use Rattle.ndr_drain_laws.specs.reader.PartReader.{type_of_root}
use Rattle.ndr_drain_reader.specs.Ready.{IsAtPipe, IsReady}
use Rattle.ndr_drain_reader.specs.Seen.{intake_seen}
use Rattle.ndr_drain_reader.specs.declared.intake.Intake.{Intake}

same_place : (n : ℕ) (side : Side) (u v : List ℕ) (y z : ℕ) → line.Entry n side u y ≡ line.Entry n side v z → y ≡ z
same_place n side u v y z e = cc

-- the operation is there
pub operation_of : (i : Intake) → IsReady i → (o : Operation) × (slice_get i.plan.now.tie.operations i.op ≡ Some o)
operation_of i ready = item_at i.plan.now.tie.operations i.op ready.known

module _ (i : Intake) (ready : IsReady i) (some : 0 < i.left) (o : Operation) (there : slice_get i.plan.now.tie.operations i.op ≡ Some o) where
  abbrev plan : Plan
  plan = i.plan.now

  abbrev pub w : Setting
  w = setting_beside i.plan.now.tie o i.side i.kept.given

  pub side_legal : IsLegalSide w
  side_legal = legal i.plan.now i.op i.side i.kept.given o there i.order

  pub set : IsSettingOf i.plan.now i.op i.side w
  set = setting i.plan.now i.op i.side i.kept.given o there i.order

  at : IsAtPipe i o
  at = ready.at_pipe o there

  left_over : i.root < length (root_list w)
  left_over =
      let all : i.root + i.left ≡ length (root_list w) = at.all in
      omega (arith, all, some)

  pub at_pipe : part.IsAtPipe w (intake_seen i).spot
  at_pipe = record { pipes = at.after_values; left = left_over; one = ready.one; few = ready.few_nodes; within = ready.within }

  -- its number among the pipes
  abbrev pub number : ℕ
  number = i.root - before_pipes (root_list w)

  abbrev its_line : ℕ
  its_line = first_line i.plan.now i.op i.side w set + number

  line_is : i.line ≡ its_line
  line_is = at.line

  pub record Next : Type 0 where
    pub r : Root
    pub root : slice_get (root_list w) i.root ≡ Some r
    pub elem : TypeId
    pub type_is : type_at w.table r.of ≡ Some (def.Pipe elem)
    pub has_line : HasLine i.plan.now i.op i.side w set number elem

  pub next : Next
  next =
      let (r, root) = item_at (root_list w) i.root left_over in
      let after : before_pipes (root_list w) ≤ i.root = at.after_values in
      let sum : before_pipes (root_list w) + number ≡ i.root = omega (arith, after) in
      let here : slice_get (pipes i.plan.now i.op i.side w set) number ≡ Some r = drop_at (before_pipes (root_list w)) (root_list w) number ∙ ap (slice_get (root_list w)) sum ∙ root in
      let is : IsPipeRoot w.table r = all_at (IsPipeRoot w.table) (pipes i.plan.now i.op i.side w set) number r (laid_out w side_legal).pipes here in
      record { r = r; root = root; elem = is.elem; type_is = is.type_is; has_line = pipe_line i.plan.now i.op i.side w set number r is.elem here is.type_is }

  entry_here : slice_get i.plan.now.entries i.line ≡ Some (line.Entry i.op i.side next.has_line.name next.has_line.at)
  entry_here = ap (slice_get i.plan.now.entries) line_is ∙ next.has_line.entry

  -- the line is there, and is of a pipe
  pub has_entry : ElementsRun i.plan.now i.op i.side i.line None → ⊥
  has_entry absent = absent next.has_line.name next.has_line.at entry_here

  pub line_there : i.line < length i.plan.now.entries
  line_there = below i.plan.now.entries i.line (line.Entry i.op i.side next.has_line.name next.has_line.at) entry_here

  pub calls_pipe : (name : List ℕ) (at : ℕ) → slice_get i.plan.now.entries i.line ≡ Some (line.Entry i.op i.side name at) → (elem : ℕ) × CallsPipe i.plan.now.code at elem
  calls_pipe name at e =
      let is : next.has_line.at ≡ at = same_place i.op i.side next.has_line.name name next.has_line.at at (same_Some _ _ (sym entry_here ∙ e)) in
      (place_at w.table next.elem.0, subst (λ j. CallsPipe i.plan.now.code j (place_at w.table next.elem.0)) is next.has_line.calls)

  abbrev pub its_elem : TypeId
  its_elem = next.elem

  pub by_plan : (run : ℕ) → ElementsRun i.plan.now i.op i.side i.line (Some run) → IsPipeBy i.plan.now w (type_of_root w i.root) next.elem run
  by_plan run l =
      let is : l.at ≡ next.has_line.at = same_place i.op i.side l.name next.has_line.name l.at next.has_line.at (same_Some _ _ (sym l.entry ∙ entry_here)) in
      let type_is : type_at w.table (type_of_root w i.root) ≡ Some (def.Pipe next.elem) = ap (λ r. type_at w.table (root_type r)) next.root ∙ next.type_is in
      record {
        table = refl;
        there = type_is;
        run_is = one_run i.plan.now.code next.has_line.at run (place_at w.table next.elem.0) (subst (λ j. CallsPipe i.plan.now.code j run) is l.calls) next.has_line.calls;
      }

  -- its number has room for one more
  pub root_small : i.root + 1 ≤ 513
  root_small =
      let few : length (root_list w) ≤ 513 = roots_few w side_legal in
      let l = left_over in
      omega (arith, few, l)
