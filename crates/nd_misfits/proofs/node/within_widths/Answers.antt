use Rattle.std.proofs.Common.{◌≡◌, subst, true, length}
use Rattle.std.specs.Prelude.{eqb}
use Rattle.std.specs.List.{list_all}
use Rattle.std.specs.Cmp.Derive.{both_true}
use Rattle.nd_value.specs.Misfit.{is_octet}
use Rattle.nd_misfits.proofs.node.within_widths.Goals as goal

pub returns-in-Arr : goal.returns-in-Arr
returns-in-Arr c = rw c.in-Arr.is (both_true c.count_within.ensures c.count_within-in-Arr.ensures)

pub returns-in-Text : goal.returns-in-Text
returns-in-Text c =
    rw c.in-Text.is (both_true c.count_within-in-Text.ensures (subst (λ os. list_all is_octet os ≡ true) c.as_slice.ensures c.octets_within.ensures))

pub returns-in-Context : goal.returns-in-Context
returns-in-Context c =
    rw c.in-Context.is
    (both_true (both_true c.count_within-in-Context.ensures (subst (λ os. eqb (length os) 16 ≡ true) c.as_bytes.ensures c.identifier_within.ensures.length))
    (subst (λ os. list_all is_octet os ≡ true) c.as_bytes.ensures c.identifier_within.ensures.octets))
