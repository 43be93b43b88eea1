use Rattle.std.proofs.Common.{rules, refl, ◌≡◌, Option, Some, None, get_or, sym, ◌∙◌}
use Rattle.idl_compat.proofs.Placed.{clash_old}
use Rattle.idl_compat.proofs.placing.Pairing.place.Goals as goal

pub returns-else-partner-pair : goal.returns-else-partner-pair
returns-else-partner-pair c = λ k. (
  refl,
  λ m one all h l l'.
      let found : get_or c.args.self.now.forward c.args.pair.old.0 None ≡ Some c.in-Some.partner = search rules in
      clash_old c.args.self.now c.args.pair.old.0 c.args.pair.new.0 c.in-Some.partner k found c.if-partner-pair.false m one all h,
)
