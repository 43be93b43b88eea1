-- The fragments of a request state an operation number, and those of a response none.
use Rattle.std.proofs.Common.{◌≡◌, ℕ, List, Option, Some, None, refl, subst}
use Rattle.nd_base.specs.declared.octets.Order.{Order}
use Rattle.nd_base.specs.Over.{SourceOver}
use Rattle.rpc_pdu.specs.declared.pdu.Wanted.{Wanted}
use Rattle.rpc_pdu.specs.declared.pdu.Wanted.TheVariants.{Request, Response}
use Rattle.rpc_pdu.specs.declared.pdu.Opening.{Opening}
use Rattle.rpc_pdu.specs.declared.pdu.Joined.{Joined}
use Rattle.rpc_pdu.specs.Checks.{short_at, order_of, operation_of, opening_of, Before, opened}
use Rattle.rpc_pdu.specs.Fragments.{AreEarlier, none_earlier, one_more, Fragments, HasNumber, IsJoined}

-- one fragment
own_number : (want : Wanted) (os : List ℕ) → HasNumber want (operation_of want os)
own_number Request os = (short_at (order_of os) 22 os, refl)
own_number Response os = refl

-- the first of them, if there is one
abbrev HasStated : Wanted → Option Opening → Type 0
HasStated want None = Unit {0}
HasStated want (Some o) = HasNumber want o.opnum

first_number : (want : Wanted) (opening : Option Opening) (own : Opening) → HasStated want opening → HasNumber want own.opnum → HasNumber want (opened opening own).opnum
first_number want None own h k = k
first_number want (Some first) own h k = h

earlier_number : (want : Wanted) (octets : List ℕ) (s : Before) → AreEarlier want octets s → HasStated want s.opening
earlier_number want _ _ none_earlier = tt
earlier_number want _ _ (one_more octets s os d f l) =
    first_number want s.opening (opening_of want os) (earlier_number want octets s d) (own_number want os)

pub call_number : (want : Wanted) (octets : List ℕ) (order : Order) (call : ℕ) (opnum : Option ℕ) (stub : List ℕ) → Fragments octets want order call opnum stub
    → HasNumber want opnum
call_number want octets order call opnum stub f =
    subst (λ (o : Opening). HasNumber want o.opnum) f.states
    (first_number want f.before.opening (opening_of want f.last) (earlier_number want f.earlier f.before f.are_earlier) (own_number want f.last))

pub joined_number : (want : Wanted) (s : SourceOver) (j : Joined) → IsJoined want s j → HasNumber want j.opnum
joined_number want s j h = call_number want h.octets j.order j.call j.opnum j.stub h.fragments
