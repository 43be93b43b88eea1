use Rattle.std.proofs.Common.{sym, ap, is_some, ◌∙◌, rules, reverse}
use Rattle.idl_declared_types.proofs.Numbered.{at_number, at_end}
use Rattle.idl_declared_types.proofs.numbering.Numbers.path.Goals as goal
use Rattle.idl_declared_types.proofs.numbering.Numbers.path.Goals.{in-Some+then-is_some, in_default}

pub returns : goal.returns
returns c firsts c' s closed = elim c.match-next.branch [
  | in-Some+then-is_some w ↦ at_number c.args.kinds.now firsts c.args.self.now c' c.args.of w.in-Some.kind c.loop-next.next (reverse c.loop-next.path.items) s closed c.loop-next.invariant
      w.in-Some.is (sym (sym w.if-is_some.true ∙ w.is_some.ensures ∙ ap is_some w.own_number.ensures))
  | in_default w ↦ at_end c.args.kinds.now firsts c' c.args.of c.loop-next.next (reverse c.loop-next.path.items) c.loop-next.invariant w.in_default.is
]
