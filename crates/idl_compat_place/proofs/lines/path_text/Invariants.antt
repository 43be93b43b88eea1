use Rattle.std.proofs.Common.{◌≡◌, drop}
use Rattle.idl_compat_place.specs.Differences.{led}
use Rattle.idl_compat_place.specs.Lines.{path_text}
use Rattle.idl_compat_place.proofs.lines.path_text.Given as goal

-- the steps so far are written, and this is the type to which they lead
abbrev pub invariant-loop-at : goal.invariant-loop-at
invariant-loop-at l = (l.text ≡ path_text l.types l.fn.of (drop l.at l.steps)) × (l.of ≡ led l.types l.fn.of (drop l.at l.steps))
