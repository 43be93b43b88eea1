use Rattle.std.proofs.Common.{◌≡◌, ◌+◌, ◌<◌, ◌≤◌, length, arith, refl, sym, subst}
use Rattle.ndr_encode.proofs.Searching.{ready_can, ready_after, direct, direct_named, direct_within, direct_ready, root_there, cell_found, none_found}
use Rattle.ndr_encode.proofs.search.direct_root.Goals as goal

pub direct_cell-requires : goal.direct_cell-requires
direct_cell-requires c =
    let old = c.args.search.now in
    let g = c.args.fit.now.graph in
    let r = c.requires in
    let d = direct c.args.code.now c.args.chunk g r.stream r.searchable c.args.root c.args.run r.due old r.searched r.pending in root_there g c.args.root d.cell d.kids d.value_is

pub unreachable-requires : goal.unreachable-requires
unreachable-requires c =
    let old = c.args.search.now in
    let g = c.args.fit.now.graph in
    let r = c.requires in
    none_found c.direct_cell.result _ _ c.in_default.is c.direct_cell.ensures (direct_named c.args.code.now c.args.chunk g r.stream r.searchable c.args.root c.args.run r.due old r.searched r.pending)

pub number-requires : goal.number-requires
number-requires c =
    let old = c.args.search.now in
    let g = c.args.fit.now.graph in
    let r = c.requires in
    let e = cell_found c.direct_cell.result c.in-Some.cell _ _ c.in-Some.is c.direct_cell.ensures
    (direct_named c.args.code.now c.args.chunk g r.stream r.searchable c.args.root c.args.run r.due old r.searched r.pending) in
    let (low, high) = direct_within c.args.code.now c.args.chunk g r.stream r.searchable c.args.root c.args.run r.due old r.searched r.pending in
    (length g.cells, r.searched.names, r.searchable.few_cells, subst (λ n. 0 < n) (sym e) low, subst (λ n. n ≤ length g.cells) (sym e) high, r.searched.numbers)

pub mark-requires : goal.mark-requires
mark-requires c =
    let old = c.args.search.now in
    let g = c.args.fit.now.graph in
    let r = c.requires in
    let e = cell_found c.direct_cell.result c.in-Some.cell _ _ c.in-Some.is c.direct_cell.ensures
    (direct_named c.args.code.now c.args.chunk g r.stream r.searchable c.args.root c.args.run r.due old r.searched r.pending) in
    let (low, high) = direct_within c.args.code.now c.args.chunk g r.stream r.searchable c.args.root c.args.run r.due old r.searched r.pending in
    let room : length old.placed.items ≡ length g.cells + 1 = r.searched.counted.room in omega (arith, e, high, room)

pub take_turn-requires : goal.take_turn-requires
take_turn-requires c =
    let old = c.args.search.now in
    let g = c.args.fit.now.graph in
    let r = c.requires in
    let e = cell_found c.direct_cell.result c.in-Some.cell _ _ c.in-Some.is c.direct_cell.ensures
    (direct_named c.args.code.now c.args.chunk g r.stream r.searchable c.args.root c.args.run r.due old r.searched r.pending) in
    let (low, high) = direct_within c.args.code.now c.args.chunk g r.stream r.searchable c.args.root c.args.run r.due old r.searched r.pending in
    ready_can c.args.code.now c.args.chunk g r.stream r.searchable r.due _ _
    (direct_ready c.args.code.now c.args.chunk g r.stream r.searchable c.args.root c.args.run r.due old r.searched r.pending _ c.in-Some.cell e c.mark.ensures refl refl refl r.searched.counted.known
    (λ names z. c.number.ensures (length g.cells) names (subst (λ n. 0 < n) (sym e) low) (subst (λ n. n ≤ length g.cells) (sym e) high) z))

pub returns : goal.returns
returns c x due y none s =
    let old = c.args.search.now in
    let g = c.args.fit.now.graph in
    let e = cell_found c.direct_cell.result c.in-Some.cell _ _ c.in-Some.is c.direct_cell.ensures (direct_named c.args.code.now c.args.chunk g x y c.args.root c.args.run due old s none) in
    let (low, high) = direct_within c.args.code.now c.args.chunk g x y c.args.root c.args.run due old s none in
    ready_after c.args.code.now c.args.chunk g x y due _ _
    (direct_ready c.args.code.now c.args.chunk g x y c.args.root c.args.run due old s none _ c.in-Some.cell e c.mark.ensures refl refl refl s.counted.known
    (λ names z. c.number.ensures (length g.cells) names (subst (λ n. 0 < n) (sym e) low) (subst (λ n. n ≤ length g.cells) (sym e) high) z)) _ c.in_ok-take_turn.ensures
