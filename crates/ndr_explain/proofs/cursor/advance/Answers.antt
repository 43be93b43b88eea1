use Rattle.ndr_explain.proofs.Places.{has_child, ends_at, goes_at}
use Rattle.ndr_explain.proofs.cursor.advance.Goals as goal

pub returns-in_default-clause-is : goal.returns-in_default-clause-is
returns-in_default-clause-is c name paths flats a =
    let t = c.type_of.result.0 in
    let inner = c.children-inner.result in
    let first = c.type_of.ensures a.some in
    let h = c.children-inner.ensures.is in
    ends_at c.args.types.now name paths flats c.args.cursor a t inner first h _ c.in_default.is
    (c.in_ok-levels.ensures.is (has_child c.args.types.now name paths flats c.args.cursor a t inner first h))

pub returns-clause-is : goal.returns-clause-is
returns-clause-is c name paths flats a =
    let t = c.type_of.result.0 in
    let inner = c.children-inner.result in
    let first = c.type_of.ensures a.some in
    let h = c.children-inner.ensures.is in
    goes_at c.args.types.now name paths flats c.args.cursor a t inner first h _ c.in-Some.levels c.in-Some.is
    (c.in_ok-levels.ensures.is (has_child c.args.types.now name paths flats c.args.cursor a t inner first h))
    c.next_node.result c.next_node.ensures.some c.next_node.ensures.levels c.next_node.ensures.node c.next_node.ensures.none
