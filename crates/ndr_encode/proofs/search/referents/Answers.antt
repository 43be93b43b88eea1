use Rattle.ndr_encode.specs.Search.{unmarked}
use Rattle.ndr_encode.proofs.Searching.{smaller_turn}
use Rattle.ndr_encode.proofs.search.referents.Goals as goal

pub next_referent-requires : goal.next_referent-requires
next_referent-requires c = let (x, due, y, s) = c.requires in (x, due, y, c.loop-more.invariant.searched x due y s)

pub loop-more-smaller : goal.loop-more-smaller
loop-more-smaller c =
    smaller_turn c.in_ok-more.more c.loop-more.more (unmarked c.next_referent.new.search.placed.items) (unmarked c.loop-more.search.placed.items) c.loop-more-test.true
    c.in_ok-more.ensures.more (λ e. (c.in_ok-more.ensures.over e).1)

pub loop-more-preserved : goal.loop-more-preserved
loop-more-preserved c =
    record {
      searched = λ x due y s. c.in_ok-more.ensures.searched x due y (c.loop-more.invariant.searched x due y s);
      over = λ e. (c.in_ok-more.ensures.over e).0;
    }
