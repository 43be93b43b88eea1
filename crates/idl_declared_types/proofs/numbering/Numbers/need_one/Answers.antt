use Rattle.std.proofs.Common.{◌≡◌, Bool, true, false, not, sym, ap, ◌∙◌, rules, slice_get, is_some, arith}
use Rattle.idl_rule_definitions.specs.Numbering as numbering
use Rattle.idl_declared_types.specs.Kinds.{seen_types, type_at}
use Rattle.idl_declared_types.specs.SeenNumbers.{found_number}
use Rattle.idl_declared_types.proofs.Numbered.{not_own, has_one, gets_one, own_within}
use Rattle.idl_declared_types.proofs.numbering.Numbers.need_one.Goals as goal

pub returns-then-not-has_own_number : goal.returns-then-not-has_own_number
returns-then-not-has_own_number c firsts c' at s =
    let none : c.has_own_number.result ≡ false = search rules in
    not_own c.args.kinds.now firsts c.args.self.now c' c.args.kind s
    (sym (c.has_own_number.ensures (seen_types c.args.kinds.now) ∙ ap numbering.has_own_number c.kind.ensures.seen) ∙ none)

pub returns-then-is_some : goal.returns-then-is_some
returns-then-is_some c firsts c' at s =
    let some : is_some (found_number (slice_get c.args.self.now.numbers.items c.args.kind)) ≡ true = search rules in
    has_one c.args.kinds.now firsts c.args.self.now c' c.args.kind s some

pub returns : goal.returns
returns c firsts c' at s =
    let some : c.has_own_number.result ≡ true = search rules in
    let own : numbering.has_own_number (type_at c.args.kinds.now c.args.kind) ≡ true =
    sym (c.has_own_number.ensures (seen_types c.args.kinds.now) ∙ ap numbering.has_own_number c.kind.ensures.seen) ∙ some in
    let none : is_some (found_number (slice_get c.args.self.now.numbers.items c.args.kind)) ≡ false = search rules in
    gets_one c.args.kinds.now firsts c.args.self.now c.give.new.self c' c.args.kind c.args.place s at own none
    (c.in_ok-give.ensures (omega (arith, own_within c.args.kinds.now c.args.kind own, s.count)))
