use Rattle.std.proofs.Common.{rules, arith, refl}
use Rattle.idl_constructs.proofs.Adding.{added_list, last_found}
use Rattle.idl_constructs.proofs.nodes.Nodes.push_list.Goals as goal
use Rattle.idl_constructs.proofs.nodes.Nodes.push_list.Goals.{in-Ok, in-Err}

pub returns-clause-adds : goal.returns-clause-adds
returns-clause-adds c =
    elim c.match-push.branch [
      | in-Ok w ↦ rw w.result-is (added_list c.args.self.now (record c.args.self.now { lists = c.push.new.self }) c.args.list refl w.in-Ok.ensures.items)
      | in-Err w ↦ rw w.result-is (search rules)
    ]

pub returns-clause-number : goal.returns-clause-number
returns-clause-number c =
    elim c.match-push.branch [
      | in-Ok w ↦ rw w.result-is (last_found c.args.self.now.lists.items c.push.new.self.items c.args.list c.len-number.result (omega (arith, c.len-number.ensures)) w.in-Ok.ensures.items)
      | in-Err w ↦ rw w.result-is (search rules)
    ]
