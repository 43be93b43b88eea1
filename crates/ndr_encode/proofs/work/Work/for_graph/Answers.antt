use Rattle.std.proofs.Common.{ℕ, ◌+◌, length, ap, ap₂, ◌∙◌}
use Rattle.nd_value.specs.declared.value.Graph.{Graph}
use Rattle.ndr_encode.specs.Making.{stream_of}
use Rattle.ndr_encode.proofs.Made.{order, has_stream, line_of, next_of, begins_roots, homes_over, length_answer, work_answer, too_long}
use Rattle.ndr_encode.proofs.work.Work.for_graph.Goals as goal

pub roots-requires-clause-begins : goal.roots-requires-clause-begins
roots-requires-clause-begins c =
    let p = c.args.plan.now in
    let f = c.args.fit.now in
    let fit = c.flat-flat.ensures.conforms in
    record {
      stream = has_stream p f c.requires.tied c.args.chunk c.requires.some fit;
      line_is = line_of p f c.requires.tied c.args.chunk c.requires.some fit c.first_line-first.result c.first_line-first.ensures.line;
      searched =
          begins_roots p f c.requires.tied c.args.chunk c.requires.some fit c.in_ok-search.search c.cell_count.result c.in_ok-search.ensures
          (c.cell_count.ensures ∙ ap (λ (g : Graph). length g.cells) c.flat-flat.ensures.graph);
      pending = c.in_ok-search.ensures.pending;
    }

pub pipes-requires-clause-begins : goal.pipes-requires-clause-begins
pipes-requires-clause-begins c =
    let p = c.args.plan.now in
    let f = c.args.fit.now in
    let fit = c.flat-flat.ensures.conforms in
    let begins =
    begins_roots p f c.requires.tied c.args.chunk c.requires.some fit c.in_ok-search.search c.cell_count.result c.in_ok-search.ensures
    (c.cell_count.ensures ∙ ap (λ (g : Graph). length g.cells) c.flat-flat.ensures.graph) in
    let taken = c.in_ok-next.ensures.taken (has_stream p f c.requires.tied c.args.chunk c.requires.some fit) c.in_ok-search.ensures.pending begins in
    let line = line_of p f c.requires.tied c.args.chunk c.requires.some fit c.first_line-first.result c.first_line-first.ensures.line in
    let next = next_of p f c.requires.tied c.args.chunk c.requires.some fit c.in_ok-next.next c.in_ok-next.ensures.count in
    record {
      stream = has_stream p f c.requires.tied c.args.chunk c.requires.some fit;
      line_is = ap₂ (λ (a b : ℕ). a + b + 1) line next;
      next_is = next;
      searched = homes_over p.code c.args.chunk f.graph (stream_of f fit.operation (order p f c.requires.tied c.args.chunk c.requires.some fit).0) c.roots.new.search taken.0 taken.1;
    }

pub returns-clause-made : goal.returns-clause-made
returns-clause-made c =
    let p = c.args.plan.now in
    let f = c.args.fit.now in
    let fit = c.flat-flat.ensures.conforms in
    let h = has_stream p f c.requires.tied c.args.chunk c.requires.some fit in
    let begins =
    begins_roots p f c.requires.tied c.args.chunk c.requires.some fit c.in_ok-search.search c.cell_count.result c.in_ok-search.ensures
    (c.cell_count.ensures ∙ ap (λ (g : Graph). length g.cells) c.flat-flat.ensures.graph) in
    let taken = c.in_ok-next.ensures.taken h c.in_ok-search.ensures.pending begins in
    let over = homes_over p.code c.args.chunk f.graph (stream_of f fit.operation (order p f c.requires.tied c.args.chunk c.requires.some fit).0) c.roots.new.search taken.0 taken.1 in
    work_answer p f c.requires.tied c.args.chunk c.requires.some fit c.pipes.new.search (c.in_ok-pipes.ensures.taken h over) c.finish.result c.finish.ensures.made c.finish.ensures.within

pub returns-clause-length : goal.returns-clause-length
returns-clause-length c = length_answer c.args.fit.now c.args.chunk c.flat-flat.ensures.conforms c.finish.result (returns-clause-made c)

pub returns-clause-long : goal.returns-clause-long
returns-clause-long c n e =
    let p = c.args.plan.now in
    let f = c.args.fit.now in
    let fit = c.flat-flat.ensures.conforms in
    let h = has_stream p f c.requires.tied c.args.chunk c.requires.some fit in
    let begins =
    begins_roots p f c.requires.tied c.args.chunk c.requires.some fit c.in_ok-search.search c.cell_count.result c.in_ok-search.ensures
    (c.cell_count.ensures ∙ ap (λ (g : Graph). length g.cells) c.flat-flat.ensures.graph) in
    let taken = c.in_ok-next.ensures.taken h c.in_ok-search.ensures.pending begins in
    let over = homes_over p.code c.args.chunk f.graph (stream_of f fit.operation (order p f c.requires.tied c.args.chunk c.requires.some fit).0) c.roots.new.search taken.0 taken.1 in
    let (same, long) = c.finish.ensures.long n e in
    too_long p f c.requires.tied c.args.chunk c.requires.some fit c.pipes.new.search (c.in_ok-pipes.ensures.taken h over) n same long
