use Rattle.std.proofs.Common.{◌≡◌, ◌≢◌, Bool, true, false, refl, ◌∙◌, sym}
use Rattle.std.specs.Prelude.{not}
use Rattle.nd_types.specs.declared.types.Primitive.TheVariants.{Boolean}
use Rattle.ndr_encoder_output.proofs.Rows.{same_primitive, other_primitive, same_orders, same_order, single_octets}
use Rattle.ndr_encoder_output.proofs.row.is_written.Goals as goal

is_true : (b : Bool) → not b ≡ false → b ≡ true
is_true true h = refl
is_true false h = cc

pub returns-then-width_of-eq1 : goal.returns-then-width_of-eq1
returns-then-width_of-eq1 c = λ told.
    let r = c.args.row.now in
    let same : r.of ≡ c.args.prim = same_primitive _ _ (is_true _ (sym c.ne.ensures ∙ c.if-ne.false)) in
    let other : c.args.prim ≢ Boolean = other_primitive _ _ (sym c.eq.ensures ∙ c.if-eq.false) in
    single_octets r.order c.args.order r.of c.args.prim r.count r.octets.now same other (sym c.width_of.ensures.value ∙ c.if-width_of-eq1.true) c.requires c.are_octets.ensures

pub returns : goal.returns
returns c = λ told.
    let r = c.args.row.now in
    let same : r.of ≡ c.args.prim = same_primitive _ _ (is_true _ (sym c.ne.ensures ∙ c.if-ne.false)) in
    let other : c.args.prim ≢ Boolean = other_primitive _ _ (sym c.eq.ensures ∙ c.if-eq.false) in
    same_order r.order c.args.order r.of c.args.prim r.count r.octets.now same other (same_orders _ _ (sym c.eq-2.ensures ∙ told)) c.requires c.are_octets.ensures
