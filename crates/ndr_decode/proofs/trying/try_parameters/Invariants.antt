use Rattle.std.proofs.Common.{◌≡◌, drop, option_map}
use Rattle.ndr_decode.specs.Trials.{checks_fail}
use Rattle.ndr_decode.proofs.trying.try_parameters.Given as goal

-- what is left of the run comes to what the run comes to
abbrev pub invariant-loop-pc : goal.invariant-loop-pc
invariant-loop-pc l =
    checks_fail l.stream.cells.items l.stream.roots.items (option_map (λ f. f.now.graph) l.fn.given) (drop l.fn.at l.code)
    ≡ checks_fail l.stream.cells.items l.stream.roots.items (option_map (λ f. f.now.graph) l.fn.given) (drop l.pc l.code)
