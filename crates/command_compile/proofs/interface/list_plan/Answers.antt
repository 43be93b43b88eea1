use Rattle.std.proofs.Common.{◌≡◌, ◌∙◌, ℕ, List, ap, subst}
use Rattle.nd_types.specs.declared.interface.Interface.{Interface}
use Rattle.ndr_code.specs.declared.instr.Instr.{Instr}
use Rattle.ndr_code.specs.declared.lists.PlanLine.{PlanLine}
use Rattle.ndr_code.specs.declared.lists.EnumList.{EnumList}
use Rattle.ndr_code.specs.Code.{code_of, entries_of, values_of}
use Rattle.ndr_code.specs.Plan.{IsPlanOf}
use Rattle.ndr_plan.specs.Listing.{listing}
use Rattle.command_compile.proofs.interface.list_plan.Goals as goal

-- the listing of a plan of an interface
listed : (code : List Instr) (entries : List PlanLine) (values : List EnumList) (sides : List ℕ) (of i : Interface)
    → IsPlanOf code entries values sides of → of ≡ i
    → listing code values entries ≡ listing (code_of i.types i.operations) (values_of i.types) (entries_of i.types i.operations)
listed code entries values sides of i is same =
    let P : Interface → Type 0 = λ k. listing code values entries ≡ listing (code_of k.types k.operations) (values_of k.types) (entries_of k.types k.operations) in
    subst P same
    (ap (λ c. listing c values entries) is.code_is
    ∙ (ap (λ v. listing (code_of of.types of.operations) v entries) is.values_are
    ∙ ap (λ e. listing (code_of of.types of.operations) (values_of of.types) e) is.entries_are))

pub returns-clause-planned : goal.returns-clause-planned
returns-clause-planned g c =
    let p = c.in_ok-plan.plan in
    record {
      interface = c.in_ok-interface.interface;
      compiled = c.in_ok-interface.ensures.ok;
      made_is = c.in_ok-listing.ensures ∙ listed p.code p.entries p.values p.sides p.tie c.in_ok-interface.interface p.planned c.in_ok-plan.ensures;
    }
