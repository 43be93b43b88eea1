use Rattle.std.proofs.Common.{rules, ◌≡◌, Some, None, length, Option, ℕ}
use Rattle.idl_compat.proofs.Operating.{nothing_matched, matched_some, matched_none, compared_differs, compared_alike}
use Rattle.idl_compat.proofs.comparing.compare_operations.Goals as goal

pub returns-in-Some : goal.returns-in-Some
returns-in-Some c = λ all.
    compared_differs c.args.old.now c.args.new.now c.in-Some.op all
    (matched_some c.args.old.now c.args.new.now c.match_operations.new.self c.in_ok-first.first c.in-Some.op
    (c.in_ok-first.ensures (nothing_matched c.args.old.now c.args.new.now c.in_ok-pairing.pairing c.in_ok-pairing.ensures)) (search rules))

pub returns-in-None : goal.returns-in-None
returns-in-None c = λ all.
    compared_alike c.args.old.now c.args.new.now c.match_operations.new.self.pairs all
    (matched_none c.args.old.now c.args.new.now c.match_operations.new.self c.in_ok-first.first
    (c.in_ok-first.ensures (nothing_matched c.args.old.now c.args.new.now c.in_ok-pairing.pairing c.in_ok-pairing.ensures)) (search rules))
