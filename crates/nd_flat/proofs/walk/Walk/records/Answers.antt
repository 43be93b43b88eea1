use Rattle.std.proofs.Common.{ap, sym, ◌∙◌, ◌≡◌, ◌<◌, subst, arith}
use Rattle.nd_value.specs.Tree.{flat}
use Rattle.nd_flat.specs.declared.records.KeptRecords.{KeptRecords}
use Rattle.nd_flat.specs.Records.{all_records, HasRecords}
use Rattle.nd_flat.proofs.RecordLaws.{after_there, next_there, some_end}
use Rattle.nd_flat.proofs.RowWalks.{takes_some, takes_records, next_kept}
use Rattle.nd_flat.proofs.walk.Walk.records.Goals as goal

-- ## The structs after the one in which the walk is

pub structs_after-next-requires-clause-there : goal.structs_after-next-requires-clause-there
structs_after-next-requires-clause-there c =
    let s = c.self.inside in
    let count : 0 < s.records.count = let h = c.if-within-gt0.true in omega (arith, h) in
    next_there s.octets.now s.records c.self.invariant.records count

pub left_after-self-inside-requires-clause-some : goal.left_after-self-inside-requires-clause-some
left_after-self-inside-requires-clause-some c =
    let s = c.self.inside in
    let count : 0 < c.structs_after-next.result.count = let h = c.if-within-gt0.true in let e = ap (λ (k : KeptRecords). k.count) c.structs_after-next.ensures in omega (arith, h, e) in
    c.least-some.ensures.some count (let h = c.if-most-eq0.false in omega (arith, h))

pub left_after-self-inside-requires-clause-there : goal.left_after-self-inside-requires-clause-there
left_after-self-inside-requires-clause-there c =
    let s = c.self.inside in
    let within : 0 < s.records.count = let h = c.if-within-gt0.true in omega (arith, h) in
    let count : 0 < c.structs_after-next.result.count = let e = ap (λ (k : KeptRecords). k.count) c.structs_after-next.ensures in omega (arith, within, e) in
    let some = c.least-some.ensures.some count (let h = c.if-most-eq0.false in omega (arith, h)) in
    some_end s.octets.now c.structs_after-next.result c.least-some.result
    (subst (HasRecords s.octets.now) (sym c.structs_after-next.ensures) (after_there s.octets.now s.records c.self.invariant.records within)) some c.least-some.ensures.first

pub first_records-requires-clause-there : goal.first_records-requires-clause-there
first_records-requires-clause-there c =
    let s = c.self.inside in
    let within : 0 < s.records.count = let h = c.if-within-gt0.true in omega (arith, h) in
    let count : 0 < c.structs_after-next.result.count = let e = ap (λ (k : KeptRecords). k.count) c.structs_after-next.ensures in omega (arith, within, e) in
    let some = c.least-some.ensures.some count (let h = c.if-most-eq0.false in omega (arith, h)) in
    some_end s.octets.now c.structs_after-next.result c.least-some.result
    (subst (HasRecords s.octets.now) (sym c.structs_after-next.ensures) (after_there s.octets.now s.records c.self.invariant.records within)) some c.least-some.ensures.first

pub invariant_of-self : goal.invariant_of-self
invariant_of-self c =
    let s = c.self.inside in
    let e = c.is_within.ensures c.if-is_within.false in
    let within : 0 < s.records.count = let h = c.if-within-gt0.true in omega (arith, h) in
    let count : 0 < c.structs_after-next.result.count = let e = ap (λ (k : KeptRecords). k.count) c.structs_after-next.ensures in omega (arith, within, e) in
    let some = c.least-some.ensures.some count (let h = c.if-most-eq0.false in omega (arith, h)) in
    let g = takes_some s.octets.now s.left s.records s.nodes.now c.structs_after-next.result c.least-some.result c.left_after-self-inside.result (all_records c.first_records.result)
    e.0 e.1 within c.structs_after-next.ensures some c.least-some.ensures.first c.left_after-self-inside.ensures c.first_records.ensures.nodes c.self.invariant in
    g.parts

pub returns-then-within-gt0-clause-some : goal.returns-then-within-gt0-clause-some
returns-then-within-gt0-clause-some c =
    let s = c.self.inside in
    let e = c.is_within.ensures c.if-is_within.false in
    let within : 0 < s.records.count = let h = c.if-within-gt0.true in omega (arith, h) in
    let count : 0 < c.structs_after-next.result.count = let e = ap (λ (k : KeptRecords). k.count) c.structs_after-next.ensures in omega (arith, within, e) in
    let some = c.least-some.ensures.some count (let h = c.if-most-eq0.false in omega (arith, h)) in
    let g = takes_some s.octets.now s.left s.records s.nodes.now c.structs_after-next.result c.least-some.result c.left_after-self-inside.result (all_records c.first_records.result)
    e.0 e.1 within c.structs_after-next.ensures some c.least-some.ensures.first c.left_after-self-inside.ensures c.first_records.ensures.nodes c.self.invariant in
    ap flat (sym c.self.view_is) ∙ g.nodes

-- ## The structs of the next node

pub left_after-self-inside-requires-2-clause-there : goal.left_after-self-inside-requires-2-clause-there
left_after-self-inside-requires-2-clause-there c =
    let s = c.self.inside in
    let k : KeptRecords = record { order = c.in-Records.order; members = c.in-Records.members; count = c.in-Records.count; from = c.in-Records.from } in
    let there = next_kept s.octets.now s.nodes.now c.in_ok-first.first.now c.in_ok-first.rest.now k c.in_ok-first.ensures.cases.0 c.in-Records.is c.self.invariant.texts in
    let some = c.least-some-2.ensures.some there.some (let h = c.if-most-eq0.false in omega (arith, h)) in
    some_end s.octets.now k c.least-some-2.result there some c.least-some-2.ensures.first

pub first_records-requires-2-clause-there : goal.first_records-requires-2-clause-there
first_records-requires-2-clause-there c =
    let s = c.self.inside in
    let k : KeptRecords = record { order = c.in-Records.order; members = c.in-Records.members; count = c.in-Records.count; from = c.in-Records.from } in
    let there = next_kept s.octets.now s.nodes.now c.in_ok-first.first.now c.in_ok-first.rest.now k c.in_ok-first.ensures.cases.0 c.in-Records.is c.self.invariant.texts in
    let some = c.least-some-2.ensures.some there.some (let h = c.if-most-eq0.false in omega (arith, h)) in
    some_end s.octets.now k c.least-some-2.result there some c.least-some-2.ensures.first

pub invariant_of-self-2 : goal.invariant_of-self-2
invariant_of-self-2 c =
    let s = c.self.inside in
    let e = c.is_within.ensures c.if-is_within.false in
    let none : s.records.count ≡ 0 = let h = c.if-within-gt0.false in omega (arith, h) in
    let k : KeptRecords = record { order = c.in-Records.order; members = c.in-Records.members; count = c.in-Records.count; from = c.in-Records.from } in
    let there = next_kept s.octets.now s.nodes.now c.in_ok-first.first.now c.in_ok-first.rest.now k c.in_ok-first.ensures.cases.0 c.in-Records.is c.self.invariant.texts in
    let some = c.least-some-2.ensures.some there.some (let h = c.if-most-eq0.false in omega (arith, h)) in
    let g = takes_records s.octets.now s.left s.records s.nodes.now c.in_ok-first.first.now c.in_ok-first.rest.now k c.least-some-2.result c.left_after-self-inside-2.result
    (all_records c.first_records-2.result)
    e.0 (e.1, none) c.in_ok-first.ensures.cases.0 c.in-Records.is some c.least-some-2.ensures.first c.left_after-self-inside-2.ensures c.first_records-2.ensures.nodes c.self.invariant in
    g.parts

pub returns-clause-some : goal.returns-clause-some
returns-clause-some c =
    let s = c.self.inside in
    let e = c.is_within.ensures c.if-is_within.false in
    let none : s.records.count ≡ 0 = let h = c.if-within-gt0.false in omega (arith, h) in
    let k : KeptRecords = record { order = c.in-Records.order; members = c.in-Records.members; count = c.in-Records.count; from = c.in-Records.from } in
    let there = next_kept s.octets.now s.nodes.now c.in_ok-first.first.now c.in_ok-first.rest.now k c.in_ok-first.ensures.cases.0 c.in-Records.is c.self.invariant.texts in
    let some = c.least-some-2.ensures.some there.some (let h = c.if-most-eq0.false in omega (arith, h)) in
    let g = takes_records s.octets.now s.left s.records s.nodes.now c.in_ok-first.first.now c.in_ok-first.rest.now k c.least-some-2.result c.left_after-self-inside-2.result
    (all_records c.first_records-2.result)
    e.0 (e.1, none) c.in_ok-first.ensures.cases.0 c.in-Records.is some c.least-some-2.ensures.first c.left_after-self-inside-2.ensures c.first_records-2.ensures.nodes c.self.invariant in
    ap flat (sym c.self.view_is) ∙ g.nodes
