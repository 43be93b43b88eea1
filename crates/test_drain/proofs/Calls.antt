-- What the calls of an intake leave: the head is next, then the pipes.
use Rattle.std.proofs.Common.{◌≡◌, ◌∙◌, ◌<◌, ℕ, List, Option, Some, None, ap, length, subst, sym}
use Rattle.std.specs.List.{slice_get}
use Rattle.nd_base.specs.declared.octets.Order.{Order}
use Rattle.nd_base.specs.Over.{SourceOver}
use Rattle.nd_types.specs.declared.interface.Interface.{Interface}
use Rattle.nd_types.specs.declared.types.Operation.{Operation}
use Rattle.nd_types.specs.declared.types.Side.{Side}
use Rattle.nd_types.specs.declared.types.Side.TheVariants.{In, Out}
use Rattle.nd_value.specs.Fitting.{Fitting}
use Rattle.nd_value.specs.Request.{IsRequest}
use Rattle.nd_value.specs.Setting.{Setting}
use Rattle.nd_value.specs.Tree.{Tree}
use Rattle.nd_lemmas.proofs.Lists.{item_at}
use Rattle.nd_grammar.specs.decoded.Verdict.{DecodingSeen}
use Rattle.ndr_drain_reader.specs.declared.intake.Phase.TheVariants.{Begun, Reading}
use Rattle.ndr_drain_reader.specs.Calls.{HasBegun, HasHead, IsAnswered}
use Rattle.ndr_drain_reader.specs.Seen.{IntakeSeen, setting_in}

pub at_head : (tie : Interface) (op : ℕ) (side : Side) (order : Order) (i : IntakeSeen) → op < length tie.operations
    → ((o : Operation) → slice_get tie.operations op ≡ Some o → HasBegun tie op o side order i) → i.phase ≡ Begun
at_head tie op side order i known begun = let (o, there) = item_at tie.operations op known in (begun o there).phase

pub begins : (tie : Interface) (op : ℕ) (side : Side) (order : Order) (i : IntakeSeen) → op < length tie.operations
    → ((o : Operation) → slice_get tie.operations op ≡ Some o → HasBegun tie op o side order i) → i.op < length i.interface.operations
begins tie op side order i known begun =
    let (o, there) = item_at tie.operations op known in
    subst (λ t. i.op < length t.operations) (sym (begun o there).interface_is) (subst (λ n. n < length tie.operations) (sym (begun o there).op_is) known)

-- a request of the operation whose response is read
pub asks : (tie : Interface) (op : ℕ) (order : Order) (i : IntakeSeen) → op < length tie.operations
    → ((o : Operation) → slice_get tie.operations op ≡ Some o → HasBegun tie op o Out order i) → (f : Fitting) → f.interface ≡ tie → f.op ≡ op → f.side ≡ In
    → IsRequest i.interface i.op i.side f
asks tie op order i known begun f of of_op of_side =
    let (o, there) = item_at tie.operations op known in
    let h = begun o there in
    record { interface = of ∙ sym h.interface_is; op = of_op ∙ sym h.op_is; side = of_side; judged = h.side_is }

pub after_head : (w : Operation → Setting) (s : SourceOver) (t : DecodingSeen) (i now : IntakeSeen) → i.op < length i.interface.operations
    → ((o : Operation) → slice_get i.interface.operations i.op ≡ Some o → HasHead (w o) s t i now) → now.phase ≡ Reading
after_head w s t i now known read = let (o, there) = item_at i.interface.operations i.op known in (read o there).phase

moved : (w : Setting) (s : SourceOver) (t : DecodingSeen) (i now : IntakeSeen) (vals : Option (List Tree)) → IsAnswered w s t i now vals → now.phase ≡ i.phase
moved w s t i now None h = ap (λ j. j.phase) h.moved
moved w s t i now (Some vs) h = ap (λ j. j.phase) h.0.moved

pub after_chunk : (s : SourceOver) (t : DecodingSeen) (i now : IntakeSeen) (vals : Option (List Tree)) → i.op < length i.interface.operations
    → ((o : Operation) → slice_get i.interface.operations i.op ≡ Some o → IsAnswered (setting_in i o) s t i now vals) → i.phase ≡ Reading → now.phase ≡ Reading
after_chunk s t i now vals known read reading =
    let (o, there) = item_at i.interface.operations i.op known in moved (setting_in i o) s t i now vals (read o there) ∙ reading
