use Rattle.std.proofs.Common.{◌≡◌, ◌∙◌, Some, sym, subst, ap, Option, ℕ, length, ◌<◌}
use Rattle.std.proofs.lemmas.Bool.{ltb-true}
use Rattle.std.proofs.lemmas.Option.{slice_get-get_or}
use Rattle.idl_declared_types.specs.Kinds.{inner_of}
use Rattle.idl_value_rules.specs.Counted.{IsCounted, type_or_void}
use Rattle.idl_value_rules.proofs.counted.inner.Goals as goal

pub returns-in-Some-get : goal.returns-in-Some-get
returns-in-Some-get c types each inside =
    let cs = c.args.counts.now in
    let within : c.in-Some.number < length cs = ltb-true c.in-Some.number (length cs) (sym c.in-Some-get.ensures.lookup.0) in
    let number : Some c.in-Some.number ≡ inner_of c.args.kind = sym c.in-Some.is ∙ c.inner.ensures in
    subst (λ (o : Option ℕ). IsCounted (type_or_void types o) c.in-Some-get.counted.now) number
    (each c.in-Some.number c.in-Some-get.counted.now (slice_get-get_or cs c.in-Some.number c.in-Some-get.counted.now within ∙ ap Some (sym c.in-Some-get.ensures.lookup.1)))
