-- What is answered of fragments, of labels and of versions, from what the calls below answer.
use Rattle.std.proofs.Common.{◌≡◌, ◌∙◌, ℕ, ◌<◌, ◌≤◌, List, length, Option, Some, None, Ok, Bool, true, false, ◌&&◌, is_some, nat_le, IsSomeAnd, IsOkAnd, refl, sym, ap, subst}
use Rattle.std.proofs.lemmas.Bool.{lt-leb, le-leb}
use Rattle.std.proofs.Math.Bool.{and-false}
use Rattle.nd_base.specs.declared.TheConstants.{STREAM_LIMIT}
use Rattle.nd_base.specs.declared.octets.Order.{Order}
use Rattle.nd_types.specs.declared.interface.Interface.{Interface}
use Rattle.nd_types.specs.declared.types.Side.{Side}
use Rattle.ndr_prim.specs.Label.{order_of_label}
use Rattle.rpc_pdu.specs.declared.pdu.Head.{Head}
use Rattle.rpc_pdu.specs.declared.pdu.Joined.{Joined}
use Rattle.rpc_pdu.specs.declared.pdu.Wanted.{Wanted}
use Rattle.rpc_pdu.specs.Fragments as pdu
use Rattle.rpc_pdu.specs.Fragments.{Pieces, want_of, opnum_of}
use Rattle.command_refusals.specs.declared.refusal.Refusal.{Refusal}
use Rattle.command_refusals.specs.declared.refusal.Refusal.TheVariants.{Memory}
use Rattle.command_compile.specs.Compat.{IsRefusal}
use Rattle.library_calls.specs.Fragments.{IsJoinedOf, IsFragmentsCause}
use Rattle.library_calls.specs.Labels.{IsLabelCause}
use Rattle.library_handles.specs.declared.held.Held.{Held}
use Rattle.library_answers.specs.declared.fragments.Call.{Call}
use Rattle.library_answers.specs.Answers.{side_numbered, order_numbered, number_of_order, refusal_in}
use Rattle.library_answers.specs.Fragments.{wanted_of, AreStated, AreJoined, IsJoin, HasStub, IsJoinRefusal, head_numbered, IsSplitOf, IsSplit, HasPieces, can_split}
use Rattle.library_answers.specs.Fragments.{IsLabelOrder, IsLabelRefusal}
use Rattle.library_answers.specs.Versions.{IsCompareRefusal}
use Rattle.library_answers.proofs.Numbered.{there_and}

-- ## Joining

are_joined : (side : ℕ) (octets : List ℕ) (s : Side) (w : Wanted) (j : Joined) → Some s ≡ side_numbered side → w ≡ wanted_of s → IsJoinedOf w octets j → AreJoined side octets j
are_joined side octets s w j side_is want_is joined =
    there_and (side_numbered side) s (λ x. IsJoinedOf (wanted_of x) octets j) (sym side_is) (subst (λ (x : Wanted). IsJoinedOf x octets j) want_is joined)

pub join_is : (side : ℕ) (octets : List ℕ) (s : Side) (w : Wanted) (j : Joined) (c : Call) (stub : List ℕ) → Some s ≡ side_numbered side → w ≡ wanted_of s
    → IsJoinedOf w octets j → AreStated j c → stub ≡ j.stub → IsJoin side octets c stub
join_is side octets s w j c stub side_is want_is joined stated same =
    record { joined = j; fragments = are_joined side octets s w j side_is want_is joined; stated = stated; stub_is = same }

pub stub_is : (side : ℕ) (octets : List ℕ) (s : Side) (w : Wanted) (j : Joined) (many : ℕ) → Some s ≡ side_numbered side → w ≡ wanted_of s → IsJoinedOf w octets j
    → many ≡ length j.stub → HasStub side octets many
stub_is side octets s w j many side_is want_is joined same =
    record { joined = j; fragments = are_joined side octets s w j side_is want_is joined; many_are = same }

pub join_refused : (side : ℕ) (octets : List ℕ) (s : Side) (w : Wanted) (e : Refusal) (held : Option Held) → Some s ≡ side_numbered side → w ≡ wanted_of s
    → IsFragmentsCause w octets e → (e ≡ Memory → ⊥) → refusal_in held ≡ Some e → IsSomeAnd (refusal_in held) (λ x. IsJoinRefusal side octets x)
join_refused side octets s w e held side_is want_is cause reason filled =
    there_and (refusal_in held) e (λ x. IsJoinRefusal side octets x) filled
    (reason, there_and (side_numbered side) s (λ x. IsFragmentsCause (wanted_of x) octets e) (sym side_is) (subst (λ (x : Wanted). IsFragmentsCause x octets e) want_is cause))

-- ## Splitting

pub split_of : (r : Order) (h : Head) (call most : ℕ) (stub made octets : List ℕ) → made ≡ Pieces r h call most stub → pdu.Fragments made (want_of h) r call (opnum_of h) stub
    → octets ≡ made → IsSplitOf r h call most stub octets
split_of r h call most stub made octets pieces fragments same =
    subst (λ (os : List ℕ). IsSplitOf r h call most stub os) (sym same) (record { pieces = pieces; fragments = fragments })

pub split_is : (side operation order call most : ℕ) (stub octets : List ℕ) (h : Head) (r : Order) → Some h ≡ head_numbered side operation → Some r ≡ order_numbered order
    → IsSplitOf r h call most stub octets → IsSplit side operation order call most stub octets
split_is side operation order call most stub octets h r head_is order_is split =
    there_and (head_numbered side operation) h (λ x. IsSomeAnd (order_numbered order) (λ y. IsSplitOf y x call most stub octets)) (sym head_is)
    (there_and (order_numbered order) r (λ y. IsSplitOf y h call most stub octets) (sym order_is) split)

pub pieces_are : (side operation order call most : ℕ) (stub : List ℕ) (many : ℕ) (h : Head) (r : Order) → Some h ≡ head_numbered side operation → Some r ≡ order_numbered order
    → ((octets : List ℕ) × IsSplitOf r h call most stub octets × (many ≡ length octets)) → HasPieces side operation order call most stub many
pieces_are side operation order call most stub many h r head_is order_is (octets, split, many_are) =
    record { octets = octets; split = split_is side operation order call most stub octets h r head_is order_is split; many_are = many_are }

-- ## Whether stub data can be split

module _ (side operation order most wide : ℕ) where
  pub no_head : None ≡ head_numbered side operation → can_split side operation order most wide ≡ false
  no_head is = ap (λ (h : Option Head). is_some h && (is_some (order_numbered order) && (nat_le 1024 most && (nat_le most 65535 && nat_le wide STREAM_LIMIT)))) (sym is)

  after_head : (is_some (order_numbered order) && (nat_le 1024 most && (nat_le most 65535 && nat_le wide STREAM_LIMIT))) ≡ false → can_split side operation order most wide ≡ false
  after_head e = ap (λ (b : Bool). is_some (head_numbered side operation) && b) e ∙ and-false (is_some (head_numbered side operation))

  pub no_split_order : None ≡ order_numbered order → can_split side operation order most wide ≡ false
  no_split_order is = after_head (ap (λ (r : Option Order). is_some r && (nat_le 1024 most && (nat_le most 65535 && nat_le wide STREAM_LIMIT))) (sym is))

  after_order : (nat_le 1024 most && (nat_le most 65535 && nat_le wide STREAM_LIMIT)) ≡ false → can_split side operation order most wide ≡ false
  after_order e = after_head (ap (λ (b : Bool). is_some (order_numbered order) && b) e ∙ and-false (is_some (order_numbered order)))

  pub few : most < 1024 → can_split side operation order most wide ≡ false
  few less = after_order (ap (λ (b : Bool). b && (nat_le most 65535 && nat_le wide STREAM_LIMIT)) (lt-leb 1024 most less))

  after_few : (nat_le most 65535 && nat_le wide STREAM_LIMIT) ≡ false → can_split side operation order most wide ≡ false
  after_few e = after_order (ap (λ (b : Bool). nat_le 1024 most && b) e ∙ and-false (nat_le 1024 most))

  pub many : 65535 < most → can_split side operation order most wide ≡ false
  many more = after_few (ap (λ (b : Bool). b && nat_le wide STREAM_LIMIT) (lt-leb most 65535 more))

  pub long_stub : STREAM_LIMIT < wide → can_split side operation order most wide ≡ false
  long_stub more = after_few (ap (λ (b : Bool). nat_le most 65535 && b) (lt-leb wide STREAM_LIMIT more) ∙ and-false (nat_le most 65535))

  -- numbers that mean something
  pub splits : (h : Head) (r : Order) → Some h ≡ head_numbered side operation → Some r ≡ order_numbered order → 1024 ≤ most → most ≤ 65535 → wide ≤ STREAM_LIMIT
      → can_split side operation order most wide ≡ true
  splits h r head_is order_is enough narrow short =
      ap (λ (x : Option Head). is_some x && (is_some (order_numbered order) && (nat_le 1024 most && (nat_le most 65535 && nat_le wide STREAM_LIMIT)))) (sym head_is)
      ∙ ap (λ (x : Option Order). is_some x && (nat_le 1024 most && (nat_le most 65535 && nat_le wide STREAM_LIMIT))) (sym order_is)
      ∙ ap (λ (b : Bool). b && (nat_le most 65535 && nat_le wide STREAM_LIMIT)) (le-leb 1024 most enough)
      ∙ ap (λ (b : Bool). b && nat_le wide STREAM_LIMIT) (le-leb most 65535 narrow)
      ∙ le-leb wide STREAM_LIMIT short

-- ## Format labels

pub label_is : (octets : List ℕ) (r : Order) (order : ℕ) → order_of_label octets ≡ Ok r → order ≡ number_of_order r → IsLabelOrder octets order
label_is octets r order is same = subst (λ x. IsOkAnd x (λ y. order ≡ number_of_order y)) (sym is) same

pub label_refused : (octets : List ℕ) (e : Refusal) (held : Option Held) → IsLabelCause octets e → (e ≡ Memory → ⊥) → refusal_in held ≡ Some e
    → IsSomeAnd (refusal_in held) (λ x. IsLabelRefusal octets x)
label_refused octets e held cause reason filled = there_and (refusal_in held) e (λ x. IsLabelRefusal octets x) filled (reason, cause)

-- ## Versions

pub compare_refused : (i j : Interface) (e : Refusal) (held : Option Held) → IsRefusal i j e → (e ≡ Memory → ⊥) → refusal_in held ≡ Some e
    → IsSomeAnd (refusal_in held) (λ x. IsCompareRefusal i j x)
compare_refused i j e held cause reason filled = there_and (refusal_in held) e (λ x. IsCompareRefusal i j x) filled (reason, cause)

-- what a function that splits names
pub ruleset splitting = (no_head, no_split_order, few, many, long_stub, splits, split_is, pieces_are)
