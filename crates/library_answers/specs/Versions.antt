-- Why two versions of an interface are not compatible.
use Rattle.std.specs.Prelude.{◌≡◌}
use Rattle.nd_types.specs.declared.interface.Interface.{Interface}
use Rattle.command_refusals.specs.declared.refusal.Refusal.{Refusal}
use Rattle.command_refusals.specs.declared.refusal.Refusal.TheVariants.{Memory}
use Rattle.command_compile.specs.Compat.{IsRefusal}

-- the comparison answers this reason, and memory is not the reason
abbrev pub IsCompareRefusal : Interface → Interface → Refusal → Type 0
IsCompareRefusal i j e = (e ≡ Memory → ⊥) × IsRefusal i j e
