-- What `wrap` writes is one call, and `call` prints of it what is printed of the text.
use Rattle.std.proofs.Common.{◌≡◌, ◌∙◌, ℕ, ◌<◌, ◌≤◌, ◌^◌, ◌++◌, List, [], length, Option, Some, None, refl, sym, ap, ap₂, subst, arith}
use Rattle.std.specs.List.{slice_get}
use Rattle.std.proofs.lemmas.Option.{slice_get_within, same_Some}
use Rattle.nd_base.specs.declared.TheConstants.{STREAM_LIMIT}
use Rattle.nd_base.specs.declared.octets.Order.{Order}
use Rattle.nd_base.specs.Over.{FilesOver, SourceOver}
use Rattle.nd_types.specs.declared.interface.Interface.{Interface}
use Rattle.nd_types.specs.declared.types.Operation.{Operation}
use Rattle.nd_types.specs.declared.types.Side.{Side}
use Rattle.nd_types.specs.declared.types.Side.TheVariants.{In, Out}
use Rattle.nd_value.specs.Fitting.{setting_of}
use Rattle.rpc_pdu.specs.declared.pdu.Head.{Head}
use Rattle.rpc_pdu.specs.declared.pdu.Head.TheVariants as head
use Rattle.rpc_pdu.specs.declared.pdu.Wanted.TheVariants.{Request, Response}
use Rattle.rpc_pdu.specs.Fragments.{Fragments, Pieces, HeadFits, want_of, opnum_of}
use Rattle.rpc_pdu.proofs.Reading.{one_call}
use Rattle.nd_grammar.proofs.LegalSides.{interface_side as legal_side_of}
use Rattle.command_call.specs.Called.{IsCall, IsCalled, call_line}
use Rattle.command_call.specs.Called as called
use Rattle.command_decode.specs.Decoded.{IsDecoding}
use Rattle.command_streams.specs.Input.{AreGiven}
use Rattle.dceidl.specs.Input.{IsMigration, IsWrapped, head_for, stated_for}
use Rattle.command_line.specs.Words.{Subject}
use Rattle.dceidl.specs.Input.{wrap_chunk}
use Rattle.dceidl.proofs.Calling.{few_numbers, short_stub}
use Rattle.dceidl.proofs.Calls.{own_is}
use Rattle.dceidl.proofs.RoundTrip.{HaveOneText, same_migration}

-- stub data that are split are the fragments of a call with these stub data
abbrev PiecesAreFragments : Type 0
PiecesAreFragments =
    (order : Order) (head : Head) (call max : ℕ) (stub : List ℕ) → call < 2 ^ 32 → HeadFits head → 1024 ≤ max → max < 2 ^ 16 → length stub ≤ STREAM_LIMIT
    → Fragments (Pieces order head call max stub) (want_of head) order call (opnum_of head) stub

-- the fragments of one side of an operation are one call
call_of : PiecesAreFragments → (i : Interface) (n : ℕ) (o : Operation) (side : Side) (order : Order) (call max : ℕ) (stub made : List ℕ)
    → slice_get i.operations n ≡ Some o → n < 2 ^ 16 → call < 2 ^ 32 → 1024 ≤ max → max < 2 ^ 16 → length stub ≤ STREAM_LIMIT
    → made ≡ Pieces order (head_for side n) call max stub → IsCall i (stated_for side n) made order call o stub
call_of pieces i n o In order call max stub made there few id least most short is = record {
  stated = Some n;
  fragments = subst (λ (l : List ℕ). Fragments l Request order call (Some n) stub) (sym is) (pieces order (head.Request n) call max stub id few least most short);
  n = n;
  number_is = refl;
  known = there;
}
call_of pieces i n o Out order call max stub made there few id least most short is = record {
  stated = None;
  fragments = subst (λ (l : List ℕ). Fragments l Response order call None stub) (sym is) (pieces order head.Response call max stub id tt least most short);
  n = n;
  number_is = refl;
  known = there;
}

pub wrapped_call : PiecesAreFragments → (f : FilesOver) (s : SourceOver) (of : Subject) (order : Order) (call max : ℕ) (made : List ℕ)
    → call < 2 ^ 32 → 1024 ≤ max → max < 2 ^ 16 → (h : IsWrapped f s of order call max made)
    → IsCall h.interface (stated_for of.side h.number) made order call h.operation h.stub
wrapped_call pieces f s of order call max made id least most h =
    let there = h.found.named.is_there in
    let few = few_numbers h.number (length h.interface.operations) (slice_get_within h.interface.operations h.number h.operation there) h.interface.legal.few_operations in
    call_of pieces h.interface h.number h.operation of.side order call max h.stub made there few id least most
    (short_stub s (setting_of h.interface h.operation of.side) order wrap_chunk h.stub h.encoded) h.made_is

-- the side that is read is the one that was written
same_side : (side : Side) (n : ℕ) → called.side (stated_for side n) ≡ side
same_side In n = refl
same_side Out n = refl

module _ (i : Interface) (number : Option ℕ) (octets : List ℕ) where
  -- what two calls of the same octets have in common
  record IsSame (order order' : Order) (call call' : ℕ) (o o' : Operation) (stub stub' : List ℕ) : Type 0 where
    pub order_same : order' ≡ order
    pub call_same : call' ≡ call
    pub operation_same : o' ≡ o
    pub stub_same : stub' ≡ stub

  same_all : (order order' : Order) (call call' : ℕ) (o o' : Operation) (stub stub' : List ℕ) → IsCall i number octets order call o stub
      → IsCall i number octets order' call' o' stub' → IsSame order order' call call' o o' stub stub'
  same_all order order' call call' o o' stub stub' c d =
      let same = one_call (called.wanted number) octets octets [] [] order' order call' call d.stated c.stated stub' stub refl d.fragments c.fragments in
      let number_same : d.n ≡ c.n = same_Some _ _ (sym d.number_is ∙ ap (called.number number) same.opnum_same ∙ c.number_is) in
      record {
        order_same = same.order_same;
        call_same = same.call_same;
        operation_same = same_Some _ _ (sym d.known ∙ ap (slice_get i.operations) number_same ∙ c.known);
        stub_same = same.stub_same;
      }

pub wrapped_text : PiecesAreFragments → HaveOneText → (f : FilesOver) (s : SourceOver) (of : Subject) (order : Order) (call max : ℕ) (made : List ℕ)
    → call < 2 ^ 32 → 1024 ≤ max → max < 2 ^ 16 → (h : IsWrapped f s of order call max made) → (t : SourceOver) → AreGiven t made → (printed other : List ℕ)
    → IsCalled t h.interface (stated_for of.side h.number) printed → IsMigration (setting_of h.interface h.operation of.side) h.encoded.0 other
    → printed ≡ call_line call ++ other
wrapped_text pieces texts f s of order call max made id least most h t given printed other d m =
    let i = h.interface in
    let number = stated_for of.side h.number in
    let w = setting_of i h.operation of.side in
    let c = wrapped_call pieces f s of order call max made id least most h in
    let own : IsCall i number made d.order d.call d.operation d.stub =
    subst (λ (l : List ℕ). IsCall i number l d.order d.call d.operation d.stub) (own_is t made given i number d.octets d.whole) d.is_call in
    let same = same_all i number made order d.order call d.call h.operation d.operation h.stub d.stub c own in
    let by_order : IsDecoding (setting_of i d.operation (called.side number)) order d.stub d.text =
    subst (λ (x : Order). IsDecoding (setting_of i d.operation (called.side number)) x d.stub d.text) same.order_same d.decoding in
    let by_operation : IsDecoding (setting_of i h.operation (called.side number)) order d.stub d.text =
    subst (λ (x : Operation). IsDecoding (setting_of i x (called.side number)) order d.stub d.text) same.operation_same by_order in
    let by_side : IsDecoding w order d.stub d.text =
    subst (λ (x : Side). IsDecoding (setting_of i h.operation x) order d.stub d.text) (same_side of.side h.number) by_operation in
    let (text, read, e) = h.encoded in
    let decoded : IsDecoding w order e.octets d.text = subst (λ (l : List ℕ). IsDecoding w order l d.text) (same.stub_same ∙ e.made_is) by_side in
    let same_text : d.text ≡ other =
    same_migration w (legal_side_of i h.number h.operation of.side h.found.named.is_there) order wrap_chunk text e.octets e.encoding texts (omega arith) d.text other decoded m in
    d.made_is ∙ ap₂ (λ (n : ℕ) (l : List ℕ). call_line n ++ l) same.call_same same_text
