use Rattle.std.proofs.Common.{ℕ, List, length, subst}
use Rattle.idl_cycles.specs.Graph as graph
use Rattle.idl_value_rules.proofs.CycleLeast.{least_of}
use Rattle.idl_value_rules.proofs.cycle_rule.least_value.Goals as goal

pub returns : goal.returns
returns c s n is held_is size =
    let values = c.args.values.now in
    let least = c.in_ok-least.ensures s n is size in
    let key = subst (λ (l : List ℕ). graph.IsLeast c.args.graph.now l (length l) c.in_ok-key.key) c.as_slice.ensures.value c.in_ok-key.ensures in
    least_of s n c.args.types.now is c.args.graph.now held_is values c.in_ok-least.least.items c.in_ok-key.key size least key
