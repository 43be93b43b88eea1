-- What the fragments of a source are printed as, and why they are refused.
-- `s` is a source over the call, `i` an interface, `op` the number of the operation whose response is read: None for a request, which states its own.
use Rattle.std.specs.Prelude.{◌≡◌, ◌⊎◌, ℕ, true, List, [], ◌∷◌, ◌++◌, length, codes, decimal, Option, Some, None, ⊤}
use Rattle.std.specs.List.{slice_get}
use Rattle.std.specs.Io.KnownBytes.{Consumes, IsAtEnd, Keeps}
use Rattle.nd_base.specs.declared.octets.Order.{Order}
use Rattle.nd_base.specs.Over.{SourceOver, HasRisen}
use Rattle.nd_base.specs.Text.{joined}
use Rattle.nd_types.specs.declared.interface.Interface.{Interface}
use Rattle.nd_types.specs.declared.types.Operation.{Operation}
use Rattle.nd_types.specs.declared.types.Side.{Side}
use Rattle.nd_types.specs.declared.types.Side.TheVariants.{In, Out}
use Rattle.nd_value.specs.Setting.{Setting}
use Rattle.nd_value.specs.Fitting.{setting_of}
use Rattle.rpc_pdu.specs.declared.pdu.Wanted.{Wanted}
use Rattle.rpc_pdu.specs.declared.pdu.Wanted.TheVariants.{Request, Response}
use Rattle.rpc_pdu.specs.declared.pdu.PduReason.TheVariants.{Short}
use Rattle.rpc_pdu.specs.Fragments.{Fragments}
use Rattle.rpc_pdu.specs.Fragments as pdu
use Rattle.command_decode.specs.Decoded.{IsDecoding, IsWhole, IsInputCause}
use Rattle.command_refusals.specs.declared.refusal.Refusal.{Refusal}
use Rattle.command_refusals.specs.declared.refusal.Refusal.TheVariants.{Memory, ReadFault, BadOctets, BadPdu}
use Rattle.command_refusals.specs.declared.refusal.OctetsFault.{OctetsFault}
use Rattle.command_refusals.specs.declared.refusal.FragmentsFault.TheVariants as fragments

-- which PDUs are read, and the side of their values
abbrev pub wanted : Option ℕ → Wanted
wanted None = Request
wanted (Some op) = Response

abbrev pub side : Option ℕ → Side
side None = In
side (Some op) = Out

-- the number of the operation: a request states it
abbrev pub number : Option ℕ → Option ℕ → Option ℕ
number None stated = stated
number (Some op) stated = Some op

-- the first line: the call id
abbrev pub call_line : ℕ → List ℕ
call_line call = joined (codes "call " ∷ decimal call ∷ codes "\n" ∷ [])

-- The octets are the fragments of one call, and the interface has its operation.
pub record IsCall (i : Interface) (op : Option ℕ) (octets : List ℕ) (order : Order) (call : ℕ) (operation : Operation) (stub : List ℕ) : Type 0 where
  pub stated : Option ℕ
  pub fragments : Fragments octets (wanted op) order call stated stub
  pub n : ℕ
  pub number_is : number op stated ≡ Some n
  pub known : slice_get i.operations n ≡ Some operation

-- The input is the fragments of one call, whose stub data are decoded; the text of their values is printed after the call id.
pub record IsCalled (s : SourceOver) (i : Interface) (op : Option ℕ) (made : List ℕ) : Type 0 where
  pub octets : List ℕ
  pub whole : IsWhole s octets
  pub order : Order
  pub call : ℕ
  pub operation : Operation
  pub stub : List ℕ
  pub is_call : IsCall i op octets order call operation stub
  pub text : List ℕ
  pub decoding : IsDecoding (setting_of i operation (side op)) order stub text
  pub made_is : made ≡ call_line call ++ text

-- ## Refusals

-- The octets that were taken are the fragments of one call, and one octet more.
pub record IsTrailed (s : SourceOver) (want : Wanted) (place : ℕ) : Type 0 where
  pub octets : List ℕ
  pub next : ℕ
  pub taken : Consumes s.left s.left_now (octets ++ next ∷ [])
  pub order : Order
  pub call : ℕ
  pub stated : Option ℕ
  pub stub : List ℕ
  pub fragments : Fragments octets want order call stated stub
  pub place_is : place ≡ length octets

-- The input is the fragments of one request, and the interface has no operation of the number that it states.
pub record IsOfNoOperation (s : SourceOver) (i : Interface) (want : Wanted) (place n : ℕ) : Type 0 where
  pub octets : List ℕ
  pub whole : IsWhole s octets
  pub order : Order
  pub call : ℕ
  pub stub : List ℕ
  pub fragments : Fragments octets want order call (Some n) stub
  pub none : slice_get i.operations n ≡ None
  pub place_is : place ≡ 22

-- Stub data as a source of their own, over a call in which it did not fail.
pub record IsStubSource (p : SourceOver) (stub : List ℕ) : Type 0 where
  pub left : p.left ≡ Some stub
  pub reads : HasRisen p.faults → ⊥

-- why stub data are refused; running out of memory needs no cause
abbrev pub IsStubCause : List ℕ → Setting → Order → Refusal → Type 0
IsStubCause stub w order Memory = ⊤
IsStubCause stub w order (BadOctets place why) = (p : SourceOver) × IsStubSource p stub × IsInputCause p w order (BadOctets place why)
IsStubCause stub w order _ = ⊥

-- The input is the fragments of one call, and its stub data are refused.
pub record HasBadStub (s : SourceOver) (i : Interface) (op : Option ℕ) (place : ℕ) (why : OctetsFault) : Type 0 where
  pub octets : List ℕ
  pub whole : IsWhole s octets
  pub order : Order
  pub call : ℕ
  pub operation : Operation
  pub stub : List ℕ
  pub is_call : IsCall i op octets order call operation stub
  pub cause : IsStubCause stub (setting_of i operation (side op)) order (BadOctets place why)

-- octets are the fragments of one call
abbrev pub AreFragments : Wanted → List ℕ → Type 0
AreFragments want octets = (order : Order) × (call : ℕ) × (stated : Option ℕ) × (stub : List ℕ) × Fragments octets want order call stated stub

-- The source failed. The octets that were taken before are not refused: they only end too early, or are the fragments of one call.
pub record IsUnread (s : SourceOver) (want : Wanted) : Type 0 where
  pub octets : List ℕ
  pub taken : Consumes s.left s.left_now octets
  pub sound : pdu.BadPdu want octets (length octets) Short ⊎ AreFragments want octets
  pub failed : HasRisen s.faults

-- why the fragments of a source are not printed; running out of memory needs no cause
abbrev pub IsCallCause : SourceOver → Interface → Option ℕ → Refusal → Type 0
IsCallCause s i op Memory = ⊤
IsCallCause s i op ReadFault = IsUnread s (wanted op)
IsCallCause s i op (BadPdu place (fragments.Refused why)) = pdu.IsRefused (wanted op) s place why
IsCallCause s i op (BadPdu place fragments.Trailing) = IsTrailed s (wanted op) place
IsCallCause s i op (BadPdu place (fragments.NoOperation n)) = IsOfNoOperation s i (wanted op) place n
IsCallCause s i op (BadOctets place why) = HasBadStub s i op place why
IsCallCause s i op _ = ⊥

-- ## The steps

-- why fragments are not joined, as a refusal
abbrev pub IsUnjoined : Wanted → SourceOver → Refusal → Type 0
IsUnjoined want s Memory = ⊤
IsUnjoined want s ReadFault = pdu.IsUnread want s
IsUnjoined want s (BadPdu place (fragments.Refused why)) = pdu.IsRefused want s place why
IsUnjoined want s _ = ⊥

-- nothing was taken, as the source has ended
pub record IsEnd (s : SourceOver) : Type 0 where
  pub nothing : Consumes s.left s.left_now []
  pub ended : s.ended_now ≡ true
  pub none_left : IsAtEnd s.left_now

-- why the end was not met after so many octets: an octet was taken, or the source failed and gave nothing
abbrev pub IsNoEnd : SourceOver → ℕ → Refusal → Type 0
IsNoEnd s taken ReadFault = Keeps s.left s.left_now × HasRisen s.faults
IsNoEnd s taken (BadPdu place fragments.Trailing) = (place ≡ taken) × ((next : ℕ) × Consumes s.left s.left_now (next ∷ []))
IsNoEnd s taken _ = ⊥

-- a request states this number, and the interface has no operation of it
pub record HasNone (i : Interface) (stated : Option ℕ) (place n : ℕ) : Type 0 where
  pub place_is : place ≡ 22
  pub stated_is : stated ≡ Some n
  pub none : slice_get i.operations n ≡ None

-- why no operation is found
abbrev pub IsNoNumber : Interface → Option ℕ → Refusal → Type 0
IsNoNumber i stated (BadPdu place (fragments.NoOperation n)) = HasNone i stated place n
IsNoNumber i stated _ = ⊥
