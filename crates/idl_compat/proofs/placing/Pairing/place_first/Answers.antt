use Rattle.std.proofs.Common.{rules, refl, arith, ◌≡◌, ◌<◌, length, Bool, true, false, Option, Some, None, get_or, sym, ◌∙◌}
use Rattle.std.specs.Prelude.{is_some}
use Rattle.idl_compat.proofs.Placed.{clash_new, all_placed}
use Rattle.idl_compat.proofs.placing.Pairing.place_first.Goals as goal

pub returns-then-is_some : goal.returns-then-is_some
returns-then-is_some c = λ k free. (
  refl,
  λ m one all h l l'.
      let taken : is_some (get_or c.args.self.now.backward c.args.pair.new.0 None) ≡ true = search rules in
      clash_new c.args.self.now c.args.pair.old.0 c.args.pair.new.0 k free taken m one all h,
)

pub returns : goal.returns
returns c = λ k free.
    let few : c.args.pair.old.0 < length c.args.self.now.forward = search rules in
    let few' : c.args.pair.new.0 < length c.args.self.now.backward = search rules in
    let absent : is_some (get_or c.args.self.now.backward c.args.pair.new.0 None) ≡ false = search rules in
    all_placed c.args.self.now c.args.pair.old.0 c.args.pair.new.0 c.push.new.self c.set.new.self c.set-2.new.self k few few' free absent
    (c.are_other_basic.ensures.same c.if-are_other_basic.false) c.in-Ok.ensures.ok c.set.ensures c.set-2.ensures
