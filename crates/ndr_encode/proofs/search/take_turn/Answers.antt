use Rattle.std.proofs.Common.{rules, ◌≡◌, ℕ, List, [], ◌++◌, length, drop, refl, sym, subst}
use Rattle.ndr_encoder_laws.specs.pieces.Pieces.{Piece, pieces_names}
use Rattle.ndr_encoder_output.specs.Counting.{names_of}
use Rattle.ndr_encoder_laws.specs.turns.Turned.{cells_of}
use Rattle.ndr_encoder_value.specs.Turns.{turn_pair}
use Rattle.ndr_encoder_value.specs.Counted.{counted_turn}
use Rattle.ndr_encode.specs.Search.{AreWithin, IsNumbered}
use Rattle.ndr_encode.proofs.Searching.{pend_turned, named_added, named_room, cells_within, counted_names, counted_end, can_count}
use Rattle.ndr_encode.proofs.search.take_turn.Goals as goal

pub write_home-requires-clause-there : goal.write_home-requires-clause-there
write_home-requires-clause-there c = c.requires.counted.there

pub write_home-requires-clause-able : goal.write_home-requires-clause-able
write_home-requires-clause-able c =
    let at : ℕ = c.args.search.now.count.at in
    let ps : List Piece = counted_turn c.args.code.now c.args.chunk c.args.fit.now.graph (turn_pair c.args.turn) in
    record { rest = []; can_follow = can_count at ps (c.requires.counted.short at) c.requires.room c.requires.counted.fits }

pub settle-requires-clause-within : goal.settle-requires-clause-within
settle-requires-clause-within c =
    let many : c.len-before.result ≡ length c.args.search.now.count.names.items = search rules in
    let ps : List Piece = counted_turn c.args.code.now c.args.chunk c.args.fit.now.graph (turn_pair c.args.turn) in
    let old = c.args.search.now.count in
    let new = c.write_home.new.out in
    named_room c.len-before.result old.names.items new.names.items (pieces_names ps) many (counted_names old.at new.at old.names.items new.names.items ps (c.in_ok-write_home.ensures.written.same []))

pub settle-requires-clause-cells : goal.settle-requires-clause-cells
settle-requires-clause-cells c =
    let many : c.len-before.result ≡ length c.args.search.now.count.names.items = search rules in
    let g = c.args.fit.now.graph in
    let ps : List Piece = counted_turn c.args.code.now c.args.chunk g (turn_pair c.args.turn) in
    let old = c.args.search.now.count in
    let new = c.write_home.new.out in
    let here : names_of (drop c.len-before.result new.names.items) ≡ pieces_names ps =
    named_added c.len-before.result old.names.items new.names.items (pieces_names ps) many
    (counted_names old.at new.at old.names.items new.names.items ps (c.in_ok-write_home.ensures.written.same [])) in (
      length g.cells,
      c.requires.names,
      c.requires.few_cells,
      subst (λ l. AreWithin (length g.cells) (cells_of l)) (sym here) (cells_within g (pieces_names ps) c.requires.counted.cells),
      c.requires.numbers,
    )

pub returns : goal.returns
returns c =
    let many : c.len-before.result ≡ length c.args.search.now.count.names.items = search rules in
    let g = c.args.fit.now.graph in
    let ps : List Piece = counted_turn c.args.code.now c.args.chunk g (turn_pair c.args.turn) in
    let old = c.args.search.now.count in
    let new = c.write_home.new.out in
    let all : names_of new.names.items ≡ names_of old.names.items ++ pieces_names ps =
    counted_names old.at new.at old.names.items new.names.items ps (c.in_ok-write_home.ensures.written.same []) in
    let here : names_of (drop c.len-before.result new.names.items) ≡ pieces_names ps = named_added c.len-before.result old.names.items new.names.items (pieces_names ps) many all in
    let within : AreWithin (length g.cells) (cells_of (names_of (drop c.len-before.result new.names.items))) =
    subst (λ l. AreWithin (length g.cells) (cells_of l)) (sym here) (cells_within g (pieces_names ps) c.requires.counted.cells) in
    record {
      turns = c.in-Ok.ensures.ok;
      placed = refl;
      at = counted_end old.at new.at old.names.items new.names.items ps (c.in_ok-write_home.ensures.written.same []);
      known = c.in_ok-write_home.ensures.known;
      pending = pend_turned c.len-before.result old.names.items new.names.items c.settle.new.names.items (pieces_names ps) many all c.settle.ensures.names;
      numbers = λ names x. subst (λ l. IsNumbered (length g.cells) (names ++ cells_of l) c.settle.new.numbers.items c.settle.new.named) here
          (c.settle.ensures.numbers (length g.cells) names within x);
    }
