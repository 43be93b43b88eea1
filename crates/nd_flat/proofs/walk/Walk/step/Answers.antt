use Rattle.std.proofs.Common.{ap, sym, ◌∙◌, ◌∷◌, [], ◌≡◌, ◌≤◌, drop, refl, arith, rules}
use Rattle.std.proofs.lemmas.Int.{to_z-of_z}
use mir.Val.{SFits}
use mir.Syntax.{w128}
use Rattle.nd_value.specs.Tree.{flat, unflat}
use Rattle.nd_flat.specs.FlatForm.{flat_seen, left_flats, num_flat, row_values}
use Rattle.nd_flat.proofs.RecordLaws.{nothing_left}
use Rattle.nd_flat.proofs.RowWalks.{takes_left, takes_node, takes_within, no_row_left}
use Rattle.nd_flat.proofs.walk.Walk.step.Goals as goal

pub invariant_of-self : goal.invariant_of-self
invariant_of-self c =
    let s = c.self.inside in
    let some : 1 ≤ s.left.count = let h = c.if-left-gt0.true in omega (arith, h) in
    let g = takes_left s.octets.now s.left s.records s.nodes.now 1 c.without_first-self-inside.result
    (row_values s.left.order s.left.of 1 (drop s.left.from s.octets.now)) some c.without_first-self-inside.ensures refl c.self.invariant in
    g.parts

pub returns-then-left-gt0-clause-some : goal.returns-then-left-gt0-clause-some
returns-then-left-gt0-clause-some c =
    let s = c.self.inside in
    let some : 1 ≤ s.left.count = let h = c.if-left-gt0.true in omega (arith, h) in
    let z = c.first_number.result in
    let fits : SFits w128 z = search rules in
    let g = takes_left s.octets.now s.left s.records s.nodes.now 1 c.without_first-self-inside.result (z ∷ []) some c.without_first-self-inside.ensures
    (ap (λ y. y ∷ []) c.first_number.ensures) c.self.invariant in
    ap flat (sym c.self.view_is) ∙ g.nodes
    ∙ ap (λ y. num_flat y ∷ flat (unflat (left_flats s.octets.now c.without_first-self-inside.result s.records s.nodes.now))) (sym (to_z-of_z w128 z fits))

pub invariant_of-self-then-has_more : goal.invariant_of-self-then-has_more
invariant_of-self-then-has_more c =
    let s = c.self.inside in
    let empty : s.left.count ≡ 0 = let h = c.if-left-gt0.false in omega (arith, h) in
    let g = takes_within s.octets.now s.left s.records s.nodes.now (flat_seen c.next_seen.result) c.next_seen.new.records empty c.next_seen.ensures.next c.next_seen.ensures.there c.self.invariant in
    g.parts

pub returns-then-has_more-clause-some : goal.returns-then-has_more-clause-some
returns-then-has_more-clause-some c =
    let s = c.self.inside in
    let empty : s.left.count ≡ 0 = let h = c.if-left-gt0.false in omega (arith, h) in
    let g = takes_within s.octets.now s.left s.records s.nodes.now (flat_seen c.next_seen.result) c.next_seen.new.records empty c.next_seen.ensures.next c.next_seen.ensures.there c.self.invariant in
    ap flat (sym c.self.view_is) ∙ g.nodes

pub enter-requires-clause-no_row : goal.enter-requires-clause-no_row
enter-requires-clause-no_row c =
    let s = c.self.inside in
    let empty : s.left.count ≡ 0 = let h = c.if-left-gt0.false in omega (arith, h) in
    no_row_left s.octets.now s.left empty

pub enter-requires-clause-no_records : goal.enter-requires-clause-no_records
enter-requires-clause-no_records c = nothing_left c.self.inside.octets.now c.self.inside.records (c.has_more.ensures.over c.if-has_more.false)

pub invariant_of-self-2 : goal.invariant_of-self-2
invariant_of-self-2 c =
    let s = c.self.inside in
    let empty : s.left.count ≡ 0 = let h = c.if-left-gt0.false in omega (arith, h) in
    let over = c.has_more.ensures.over c.if-has_more.false in
    let g = takes_node s.octets.now s.left s.records s.nodes.now c.in_ok-first.first.now c.in_ok-first.rest.now (flat_seen c.first_seen.result) c.enter.new.left c.enter.new.records
    empty over c.in_ok-first.ensures.cases.0 c.first_seen.ensures c.enter.ensures.nodes c.enter.ensures.row c.enter.ensures.records c.self.invariant in
    g.parts

pub returns-clause-some : goal.returns-clause-some
returns-clause-some c =
    let s = c.self.inside in
    let empty : s.left.count ≡ 0 = let h = c.if-left-gt0.false in omega (arith, h) in
    let over = c.has_more.ensures.over c.if-has_more.false in
    let g = takes_node s.octets.now s.left s.records s.nodes.now c.in_ok-first.first.now c.in_ok-first.rest.now (flat_seen c.first_seen.result) c.enter.new.left c.enter.new.records
    empty over c.in_ok-first.ensures.cases.0 c.first_seen.ensures c.enter.ensures.nodes c.enter.ensures.row c.enter.ensures.records c.self.invariant in
    ap flat (sym c.self.view_is) ∙ g.nodes
