-- From a state that means something each state that is reached does.
use Rattle.std.proofs.Common.{ℕ, List, [], ◌++◌, sym, subst, append_assoc}
use Rattle.std.proofs.lemmas.List.{append-nil}
use Rattle.nd_base.specs.declared.octets.Order.{Order}
use Rattle.nd_types.specs.Table.{Table}
use Rattle.nd_value.specs.declared.item.Home.{Home}
use Rattle.nd_value.specs.declared.item.Item.{Item}
use Rattle.nd_grammar.specs.Reader.{Read}
use Rattle.ndr_code.specs.declared.instr.Instr.{Instr}
use Rattle.ndr_code.specs.declared.lists.EnumList.{EnumList}
use Rattle.ndr_decoder_laws.specs.steps.Spots.{IsPlanned}
use Rattle.ndr_decoder_laws.specs.steps.Steps.{State, step}
use Rattle.ndr_decoder_laws.specs.steps.StepItems.{step_items}
use Rattle.ndr_decoder_laws.specs.steps.Good.{Good, IsRight}
use Rattle.ndr_decoder_laws.proofs.steps.PointSteps.{step_right}
use Rattle.ndr_decoder_laws.specs.runs.Reaching.{Reaches, begins, steps_to}

module _ (values : List EnumList) (order : Order) (code : List Instr) (table : Table) (h : Home) (own limit direct : ℕ) (target : List ℕ → Read) (planned : IsPlanned code values table)
    (f0 : List ℕ) (n0 : List Item) (s0 : State) (g0 : Good order f0 code table h own limit n0 direct target s0) where
  abbrev G : List ℕ → List Item → State → Type 0
  G f n s = Good order f code table h own limit n direct target s

  pub along : {fetched : List ℕ} {noted : List Item} {s : State} → Reaches values order code h s0 fetched noted s → Good order (f0 ++ fetched) code table h own limit (n0 ++ noted) direct target s
  along begins = subst (λ k. G k (n0 ++ []) s0) (sym (append-nil f0)) (subst (λ k. G f0 k s0) (sym (append-nil n0)) g0)
  along (steps_to fetched os noted s next i before there has octets e) =
      let g : Good order (f0 ++ fetched) code table h own limit (n0 ++ noted) direct target s = along before in
      let right : IsRight order ((f0 ++ fetched) ++ os) code table h own limit ((n0 ++ noted) ++ step_items order h os i s) direct target s.at g.seen (step values order os i s) =
      step_right order (f0 ++ fetched) os code values table h own limit (n0 ++ noted) direct target planned s g i there has in
      let good : G ((f0 ++ fetched) ++ os) ((n0 ++ noted) ++ step_items order h os i s) next =
      subst (IsRight order ((f0 ++ fetched) ++ os) code table h own limit ((n0 ++ noted) ++ step_items order h os i s) direct target s.at g.seen) e right in
      subst (λ k. G k (n0 ++ (noted ++ step_items order h os i s)) next) (append_assoc f0 fetched os)
      (subst (λ k. G ((f0 ++ fetched) ++ os) k next) (append_assoc n0 noted (step_items order h os i s)) good)
