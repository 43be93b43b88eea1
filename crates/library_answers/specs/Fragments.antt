-- What fragments are joined to, what stub data are split into, and the order that a format label states.
-- `side`, `operation` and `order` are numbers.
use Rattle.std.specs.Prelude.{◌≡◌, ℕ, List, length, Option, Some, None, Ok, Bool, ◌==◌, ◌&&◌, if◌then◌else◌, nat_le, is_some, IsOkAnd, IsSomeAnd}
use Rattle.nd_base.specs.declared.TheConstants.{STREAM_LIMIT}
use Rattle.nd_base.specs.declared.octets.Order.{Order}
use Rattle.nd_types.specs.declared.types.Side.{Side}
use Rattle.nd_types.specs.declared.types.Side.TheVariants.{In, Out}
use Rattle.ndr_prim.specs.Label.{order_of_label}
use Rattle.rpc_pdu.specs.declared.pdu.Head.{Head}
use Rattle.rpc_pdu.specs.declared.pdu.Head.TheVariants as head
use Rattle.rpc_pdu.specs.declared.pdu.Joined.{Joined}
use Rattle.rpc_pdu.specs.declared.pdu.Wanted.{Wanted}
use Rattle.rpc_pdu.specs.declared.pdu.Wanted.TheVariants.{Request, Response}
use Rattle.rpc_pdu.specs.Fragments as pdu
use Rattle.rpc_pdu.specs.Fragments.{Pieces, want_of, opnum_of}
use Rattle.command_refusals.specs.declared.refusal.Refusal.{Refusal}
use Rattle.command_refusals.specs.declared.refusal.Refusal.TheVariants.{Memory}
use Rattle.library_calls.specs.Fragments.{IsJoinedOf, IsFragmentsCause}
use Rattle.library_calls.specs.Labels.{IsLabelCause}
use Rattle.library_answers.specs.declared.fragments.Call.{Call}
use Rattle.library_answers.specs.Answers.{side_numbered, order_numbered, number_of_order}

-- ## Joining

-- which fragments have the values of a side
abbrev pub wanted_of : Side → Wanted
wanted_of In = Request
wanted_of Out = Response

abbrev pub operation_number : Option ℕ → ℕ
operation_number (Some n) = n
operation_number None = 0

-- what is stated of a call
pub record AreStated (j : Joined) (c : Call) : Type 0 where
  pub order : c.order ≡ number_of_order j.order
  pub call : c.call ≡ j.call
  pub operation : c.operation ≡ operation_number j.opnum
  pub taken : c.taken ≡ j.taken

-- the octets begin with the fragments of a call with the values of that side
abbrev pub AreJoined : ℕ → List ℕ → Joined → Type 0
AreJoined side octets j = IsSomeAnd (side_numbered side) (λ s. IsJoinedOf (wanted_of s) octets j)

-- they are joined to the stub data, and state the call
pub record IsJoin (side : ℕ) (octets : List ℕ) (c : Call) (stub : List ℕ) : Type 0 where
  pub joined : Joined
  pub fragments : AreJoined side octets joined
  pub stated : AreStated joined c
  pub stub_is : stub ≡ joined.stub

-- their stub data have so many octets
pub record HasStub (side : ℕ) (octets : List ℕ) (many : ℕ) : Type 0 where
  pub joined : Joined
  pub fragments : AreJoined side octets joined
  pub many_are : many ≡ length joined.stub

-- the octets are refused as fragments with the values of that side, and memory is not the reason
abbrev pub IsJoinRefusal : ℕ → List ℕ → Refusal → Type 0
IsJoinRefusal side octets e = (e ≡ Memory → ⊥) × IsSomeAnd (side_numbered side) (λ s. IsFragmentsCause (wanted_of s) octets e)

-- ## Splitting

-- what the fragments of an operation begin with, by the numbers of the side and of the operation
abbrev pub head_numbered : ℕ → ℕ → Option Head
head_numbered side operation =
    if side == 0 then (if nat_le operation 65535 then Some (head.Request operation) else None) else (if side == 1 then Some head.Response else None)

-- the octets are the fragments of the stub data
pub record IsSplitOf (r : Order) (h : Head) (call most : ℕ) (stub octets : List ℕ) : Type 0 where
  pub pieces : octets ≡ Pieces r h call most stub
  pub fragments : pdu.Fragments octets (want_of h) r call (opnum_of h) stub

abbrev pub IsSplit : ℕ → ℕ → ℕ → ℕ → ℕ → List ℕ → List ℕ → Type 0
IsSplit side operation order call most stub octets =
    IsSomeAnd (head_numbered side operation) (λ h. IsSomeAnd (order_numbered order) (λ r. IsSplitOf r h call most stub octets))

-- the fragments of the stub data have so many octets
pub record HasPieces (side operation order call most : ℕ) (stub : List ℕ) (many : ℕ) : Type 0 where
  pub octets : List ℕ
  pub split : IsSplit side operation order call most stub octets
  pub many_are : many ≡ length octets

-- whether stub data of so many octets can be split so
abbrev pub can_split : ℕ → ℕ → ℕ → ℕ → ℕ → Bool
can_split side operation order most wide =
    is_some (head_numbered side operation)
    && (is_some (order_numbered order) && (nat_le 1024 most && (nat_le most 65535 && nat_le wide STREAM_LIMIT)))

-- ## Format labels

-- the label that the octets begin with states the order of this number
abbrev pub IsLabelOrder : List ℕ → ℕ → Type 0
IsLabelOrder octets order = IsOkAnd (order_of_label octets) (λ r. order ≡ number_of_order r)

-- the octets begin with no label that is read, and memory is not the reason
abbrev pub IsLabelRefusal : List ℕ → Refusal → Type 0
IsLabelRefusal octets e = (e ≡ Memory → ⊥) × IsLabelCause octets e
