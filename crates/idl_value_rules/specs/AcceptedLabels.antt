-- For the code: what a label may be.
use Rattle.std.specs.Prelude.{ℤ, Bool, true, false, Some}
use Rattle.nd_types.specs.Table.{in_range}
use Rattle.idl_value_rules.specs.declared.label_rule.Accepted.{Accepted}
use Rattle.idl_value_rules.specs.declared.label_rule.Accepted.TheVariants as accepted
use Rattle.idl_declared_types.specs.LabelValues.{is_among}

-- what a label may be
abbrev pub accepts : Accepted → ℤ → Bool
accepts accepted.All z = true
accepts (accepted.Range p) z = in_range p z
accepts accepted.Nothing z = false
accepts (accepted.Values set) z = is_among (Some z) set.now
