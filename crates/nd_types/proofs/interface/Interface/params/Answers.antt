use Rattle.std.proofs.Common.{◌≡◌, ◌∙◌, ap, get_or, ◌++◌}
use Rattle.std.specs.Prelude.{true, false}
use Rattle.std.proofs.lemmas.Option.{get_or_from_slice_get}
use Rattle.nd_types.specs.Roots.{params_left, result_left}
use Rattle.nd_types.proofs.WalkLaws.{named_roots-is}
use Rattle.nd_types.proofs.interface.Interface.params.Goals as goal

pub returns : goal.returns
returns c =
    let types = c.args.self.now.types in
    let side = c.args.side in
    let p = c.index-as_slice-op.result in
    let is : p ≡ get_or c.args.self.now.operations c.args.op p = rw c.as_slice.ensures at c.index-as_slice-op.is in
    λ o e.
    ap (λ q. params_left types side q false 0 ++ (result_left side q ++ params_left types side q true 0)) (is ∙ get_or_from_slice_get c.args.self.now.operations c.args.op o p e)
    ∙ named_roots-is types side o
