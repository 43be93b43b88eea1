use Rattle.std.proofs.Common.{sym, subst}
use Rattle.idl_compat_place.specs.Trails.{IsWalkedTo}
use Rattle.idl_compat_place.proofs.Trailing.{began}
use Rattle.idl_compat_place.proofs.trail.Trail.new.Goals as goal

pub returns : goal.returns
returns c =
    subst (λ x. IsWalkedTo c.args.old.now c.args.new.now 0 0 (record { pairing = c.in_ok-new.field-0; origins = x })) (sym c.new-2.ensures)
    (began c.args.old.now c.args.new.now c.in_ok-new.field-0 c.in_ok-new.ensures)
