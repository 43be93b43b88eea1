use Rattle.std.proofs.Common.{◌≡◌, ◌∙◌, ap, sym, rules, slice_get, List, Option, Some}
use Rattle.ndr_code.specs.declared.instr.Instr.{Instr}
use Rattle.ndr_code.specs.Fields.{field_of}
use Rattle.ndr_code.proofs.lists.Code.field.Goals as goal

pub returns-in-Some : goal.returns-in-Some
returns-in-Some c =
    let got : slice_get c.self.inside.fields.items c.args.at ≡ Some c.in-Some.field = search rules in
    sym (c.self.invariant.0 c.args.at c.in-Some.field got) ∙ ap (λ (code : List Instr). field_of code c.args.at) c.self.view_is
