use Rattle.std.proofs.Common.{◌++◌, drop, ap, sym, ◌∙◌, subst}
use Rattle.ndr_encoder_output.specs.Counting.{names_of}
use Rattle.ndr_encoder_laws.specs.turns.Turned.{cells_of}
use Rattle.ndr_encode.specs.Search.{IsNumbered, AreWithin}
use Rattle.ndr_encode.proofs.NamedCells.{rest_whole}
use Rattle.ndr_encode.proofs.numbering.settle_all.Goals as goal

pub number_all-requires : goal.number_all-requires
number_all-requires c =
    let r = c.requires.cells in
    let same = rest_whole c.as_slice.result.now c.args.before ∙ ap (drop c.args.before) c.as_slice.ensures.value in
    (r.0, r.1, r.2, subst (λ l. AreWithin r.0 (cells_of (names_of l))) (sym same) r.3, r.4)

pub returns-clause-numbers : goal.returns-clause-numbers
returns-clause-numbers c n ns within x =
    let same = rest_whole c.as_slice.result.now c.args.before ∙ ap (drop c.args.before) c.as_slice.ensures.value in
    subst (λ l. IsNumbered n (ns ++ cells_of (names_of l)) c.number_all.new.numbers.items c.number_all.new.named) same
    (c.number_all.ensures n ns (subst (λ l. AreWithin n (cells_of (names_of l))) (sym same) within) x)
