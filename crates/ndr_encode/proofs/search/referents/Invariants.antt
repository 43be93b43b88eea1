use Rattle.std.proofs.Common.{◌≡◌, ◌+◌, false, []}
use Rattle.ndr_encode.specs.Search.{StillSearched, unmarked}
use Rattle.ndr_encode.proofs.Searching.{once_more}
use Rattle.ndr_encode.proofs.search.referents.Given as goal

abbrev pub invariant-loop-more : goal.invariant-loop-more
invariant-loop-more l = record {
  searched : StillSearched l.code l.chunk l.fit.graph l.initial.search l.search;
  over : l.more ≡ false → l.search.count.names.items ≡ [];
}

abbrev pub decreases-loop-more : goal.decreases-loop-more
decreases-loop-more l = unmarked l.search.placed.items + once_more l.more
