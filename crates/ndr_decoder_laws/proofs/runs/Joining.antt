-- What is reached from a state that is reached is reached from the beginning, and over octets.
use Rattle.std.proofs.Common.{◌<◌, ℕ, List, [], ◌++◌, sym, subst, append_assoc}
use Rattle.std.proofs.lemmas.List.{append-nil}
use Rattle.nd_base.specs.declared.octets.Order.{Order}
use Rattle.nd_types.specs.Number.{AreOctets}
use Rattle.nd_value.specs.declared.item.Home.{Home}
use Rattle.nd_value.specs.declared.item.Item.{Item}
use Rattle.nd_value.proofs.Apart.{all_append}
use Rattle.ndr_code.specs.declared.instr.Instr.{Instr}
use Rattle.ndr_code.specs.declared.lists.EnumList.{EnumList}
use Rattle.ndr_decoder_laws.specs.steps.Steps.{State}
use Rattle.ndr_decoder_laws.specs.steps.StepItems.{step_items}
use Rattle.ndr_decoder_laws.specs.runs.Reaching.{Reaches, begins, steps_to}

module _ (values : List EnumList) (order : Order) (code : List Instr) (h : Home) (s0 : State) where
  pub joined : (s1 : State) (f : List ℕ) (n : List Item) → Reaches values order code h s0 f n s1 → {more : List ℕ} {items : List Item} {s : State} → Reaches values order code h s1 more items s
      → Reaches values order code h s0 (f ++ more) (n ++ items) s
  joined s1 f n r begins = subst (λ k. Reaches values order code h s0 k (n ++ []) s1) (sym (append-nil f)) (subst (λ k. Reaches values order code h s0 f k s1) (sym (append-nil n)) r)
  joined s1 f n r (steps_to fetched os noted s next i before there has octets e) =
      subst (λ k. Reaches values order code h s0 k (n ++ (noted ++ step_items order h os i s)) next) (append_assoc f fetched os)
      (subst (λ k. Reaches values order code h s0 ((f ++ fetched) ++ os) k next) (append_assoc n noted (step_items order h os i s))
      (steps_to (f ++ fetched) os (n ++ noted) s next i (joined s1 f n r before) there has octets e))

  pub over_octets : {fetched : List ℕ} {noted : List Item} {s : State} → Reaches values order code h s0 fetched noted s → AreOctets fetched
  over_octets begins = tt
  over_octets (steps_to fetched os noted s next i before there has octets e) = all_append (λ b. b < 256) fetched os (over_octets before) octets
