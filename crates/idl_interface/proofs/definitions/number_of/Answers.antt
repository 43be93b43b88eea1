use Rattle.std.proofs.Common.{◌∙◌, ◌^◌, ◌<◌, ℕ, sym, subst}
use Rattle.idl_declared_types.specs.Kinds.{type_at}
use Rattle.idl_interface.specs.Made.{scene_in}
use Rattle.idl_interface.proofs.Limits.{number_narrow}
use Rattle.idl_interface.proofs.definitions.number_of.Goals as goal

pub narrow-requires : goal.narrow-requires
narrow-requires c =
    let p = c.args.program.now in
    subst (λ (n : ℕ). n < 2 ^ 32) (sym (c.number.ensures ∙ c.requires.numbers.numbers c.args.of)) (number_narrow (scene_in p) (type_at p.types.now.kinds c.args.of) c.requires.few)
