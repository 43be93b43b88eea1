use Rattle.std.proofs.Common.{ap, sym, ◌∙◌, ◌≡◌, arith}
use Rattle.nd_value.specs.Tree.{flat}
use Rattle.nd_flat.specs.FlatForm.{row_numbers}
use Rattle.nd_flat.proofs.RowWalks.{takes_left, takes_row}
use Rattle.nd_flat.proofs.walk.Walk.row.Goals as goal

pub invariant_of-self : goal.invariant_of-self
invariant_of-self c =
    let s = c.self.inside in
    let g = takes_left s.octets.now s.left s.records s.nodes.now c.least-some.result c.without_first-self-inside.result (row_numbers c.first_row.result)
    c.least-some.ensures.first c.without_first-self-inside.ensures c.first_row.ensures.numbers c.self.invariant in
    g.parts

pub returns-then-left-gt0-clause-some : goal.returns-then-left-gt0-clause-some
returns-then-left-gt0-clause-some c =
    let s = c.self.inside in
    let g = takes_left s.octets.now s.left s.records s.nodes.now c.least-some.result c.without_first-self-inside.result (row_numbers c.first_row.result)
    c.least-some.ensures.first c.without_first-self-inside.ensures c.first_row.ensures.numbers c.self.invariant in
    ap flat (sym c.self.view_is) ∙ g.nodes

pub invariant_of-self-2 : goal.invariant_of-self-2
invariant_of-self-2 c =
    let s = c.self.inside in
    let empty : s.left.count ≡ 0 = let h = c.if-left-gt0.false in omega (arith, h) in
    let over = c.has_more.ensures.over c.if-has_more.false in
    let g = takes_row s.octets.now s.left s.records s.nodes.now c.in_ok-first.first.now c.in_ok-first.rest.now c.in-Row.next c.least-some-2.result c.without_first-self-inside-2.result
    (row_numbers c.first_row-2.result)
    empty over c.in_ok-first.ensures.cases.0 c.in-Row.is c.least-some-2.ensures.first c.without_first-self-inside-2.ensures c.first_row-2.ensures.numbers c.self.invariant in
    g.parts

pub returns-clause-some : goal.returns-clause-some
returns-clause-some c =
    let s = c.self.inside in
    let empty : s.left.count ≡ 0 = let h = c.if-left-gt0.false in omega (arith, h) in
    let over = c.has_more.ensures.over c.if-has_more.false in
    let g = takes_row s.octets.now s.left s.records s.nodes.now c.in_ok-first.first.now c.in_ok-first.rest.now c.in-Row.next c.least-some-2.result c.without_first-self-inside-2.result
    (row_numbers c.first_row-2.result)
    empty over c.in_ok-first.ensures.cases.0 c.in-Row.is c.least-some-2.ensures.first c.without_first-self-inside-2.ensures c.first_row-2.ensures.numbers c.self.invariant in
    ap flat (sym c.self.view_is) ∙ g.nodes
