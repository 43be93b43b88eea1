use Rattle.std.proofs.Common.{◌≡◌, ◌++◌, map, drop}
use Rattle.idl_grammar.specs.Seen.{seen_type}
use Rattle.idl_constructs.specs.SeenNodes.{seen_construct, seen_declared}
use Rattle.idl_constructs.proofs.Rests as rests
use Rattle.idl_constructs.proofs.parts.add_each.Given as goal

-- what is there, with what is left
abbrev pub invariant-loop-declarator : goal.invariant-loop-declarator
invariant-loop-declarator l =
    map seen_declared l.list.items ++ rests.each_declared (seen_construct l.construct) (seen_type l.of) (drop l.declarator-index l.declarators)
    ≡ map seen_declared l.initial.list.items ++ rests.each_declared (seen_construct l.construct) (seen_type l.of) l.declarators
