use Rattle.std.proofs.Common.{◌<◌, length, refl, ap, sym, ◌∙◌, subst}
use Rattle.std.specs.List.{AllByRecursion}
use Rattle.ndr_encode.specs.Search.{unplaced, pending_names}
use Rattle.ndr_encode.proofs.Searching.{in_marks, unplaced_room, none_left_pending, ready_can, ready_after, cell_ready, fewer_turn}
use Rattle.ndr_encode.proofs.search.next_referent.Goals as goal

pub next_unplaced-requires : goal.next_unplaced-requires
next_unplaced-requires c =
    let (x, due, y, s) = c.requires in
    let old = c.args.search.now in
    subst (λ bs. AllByRecursion (λ z. z.0 < length bs) (pending_names old.count.names.items)) (sym c.as_slice.ensures.value)
    (in_marks (length old.placed.items) c.args.fit.now.graph (pending_names old.count.names.items) s.counted.room s.pending)

pub returns-in_default-clause-searched : goal.returns-in_default-clause-searched
returns-in_default-clause-searched c x due y s =
    let old = c.args.search.now in
    none_left_pending c.args.code.now c.args.chunk c.args.fit.now.graph x y due old _ s
    (ap (λ bs. unplaced bs (pending_names old.count.names.items)) (sym c.as_slice.ensures.value) ∙ c.in_default.ensures.none) c.in_default.ensures.over refl refl refl refl refl s.counted.known

pub mark-requires : goal.mark-requires
mark-requires c =
    let (x, due, y, s) = c.requires in
    let old = c.args.search.now in
    unplaced_room c.args.code.now c.args.fit.now.graph old.placed.items (pending_names old.count.names.items) (pending_names c.next_unplaced.new.pending.items)
    (c.in-Some.named.cell.0, c.in-Some.named.run) s.counted.room s.pending
    (ap (λ bs. unplaced bs (pending_names old.count.names.items)) (sym c.as_slice.ensures.value) ∙ c.in-Some.ensures.some)

pub take_turn-requires : goal.take_turn-requires
take_turn-requires c =
    let (x, due, y, s) = c.requires in
    let old = c.args.search.now in
    ready_can c.args.code.now c.args.chunk c.args.fit.now.graph x y due _ _
    (cell_ready c.args.code.now c.args.chunk c.args.fit.now.graph x y due old _ s c.in-Some.named
    (ap (λ bs. unplaced bs (pending_names old.count.names.items)) (sym c.as_slice.ensures.value) ∙ c.in-Some.ensures.some) c.mark.ensures refl refl refl refl s.counted.known)

pub returns-clause-searched : goal.returns-clause-searched
returns-clause-searched c x due y s =
    let old = c.args.search.now in
    ready_after c.args.code.now c.args.chunk c.args.fit.now.graph x y due _ _
    (cell_ready c.args.code.now c.args.chunk c.args.fit.now.graph x y due old _ s c.in-Some.named
    (ap (λ bs. unplaced bs (pending_names old.count.names.items)) (sym c.as_slice.ensures.value) ∙ c.in-Some.ensures.some) c.mark.ensures refl refl refl refl s.counted.known)
    _ c.in_ok-take_turn.ensures

pub returns-clause-more : goal.returns-clause-more
returns-clause-more c e =
    let (x, due, y, s) = c.requires in
    let old = c.args.search.now in
    fewer_turn c.args.code.now c.args.fit.now.graph old.placed.items c.take_turn.new.search.placed.items (pending_names old.count.names.items) (pending_names c.next_unplaced.new.pending.items)
    (c.in-Some.named.cell.0, c.in-Some.named.run) s.counted.room s.pending
    (ap (λ bs. unplaced bs (pending_names old.count.names.items)) (sym c.as_slice.ensures.value) ∙ c.in-Some.ensures.some) (c.in_ok-take_turn.ensures.placed ∙ c.mark.ensures)
