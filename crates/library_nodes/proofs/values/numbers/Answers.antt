use Rattle.std.proofs.Common.{◌≡◌, ◌∙◌, ◌<◌, ◌≤◌, true, false, ◌&&◌, leb, length, sym, arith}
use Rattle.std.proofs.lemmas.Bool.{le-leb, lt-leb, and_from, and_left, and_right}
use Rattle.library_nodes.specs.Listings.{has_numbers}
use Rattle.library_nodes.proofs.BuiltNodes.{numeric_wrong, numeric_built}
use Rattle.library_nodes.proofs.values.numbers.Goals as goal

pub returns-then-not-has_numbers : goal.returns-then-not-has_numbers
returns-then-not-has_numbers c =
    let x = c.args.node.now in
    let l = c.args.reader.now in
    λ table label. numeric_wrong table c.args.wide c.args.kind label x l c.wrong-wrong.result
    (and_left (has_numbers x c.args.kind) (leb x.count (length l.numbers)) (sym c.has_numbers.ensures ∙ c.if-not-has_numbers.true)) c.wrong-wrong.ensures

pub returns-in_default : goal.returns-in_default
returns-in_default c =
    let x = c.args.node.now in
    let l = c.args.reader.now in
    λ table label. numeric_wrong table c.args.wide c.args.kind label x l c.wrong-wrong.result
    (and_right (has_numbers x c.args.kind) (leb x.count (length l.numbers)) (lt-leb x.count (length l.numbers) c.in_default.ensures.none)) c.wrong-wrong.ensures

pub returns-in-Ok : goal.returns-in-Ok
returns-in-Ok c =
    let x = c.args.node.now in
    let l = c.args.reader.now in
    λ table label. numeric_built table c.args.wide c.args.kind label x l c.numbers.new.self c.in-Ok.vals c.in-Some.taken.now
    (and_from (has_numbers x c.args.kind) (leb x.count (length l.numbers)) (sym c.has_numbers.ensures ∙ c.if-not-has_numbers.false)
    (le-leb x.count (length l.numbers) c.in-Some.ensures.enough))
    c.in-Some.ensures.enough c.in-Some.ensures.some c.in-Ok.ensures c.in-Some.ensures.rest

pub returns-in-Err : goal.returns-in-Err
returns-in-Err c = λ table label ts. tt
