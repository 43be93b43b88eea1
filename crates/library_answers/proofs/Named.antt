-- What is answered of roots and members by name, from what the calls below answer.
-- `j` is the interface that those are asked of, `x` is what they found.
use Rattle.std.proofs.Common.{◌≡◌, ◌∙◌, ◌<◌, ℕ, List, length, Some, ap, sym, subst}
use Rattle.std.specs.List.{slice_get}
use Rattle.nd_types.specs.declared.interface.Interface.{Interface}
use Rattle.nd_types.specs.declared.types.Field.{Field}
use Rattle.nd_types.specs.declared.types.Operation.{Operation}
use Rattle.nd_types.specs.declared.types.Side.{Side}
use Rattle.nd_types.specs.declared.types.TypeId.{TypeId}
use Rattle.nd_types.specs.Table.{type_at}
use Rattle.nd_types.specs.Roots.{named_roots}
use Rattle.library_types.specs.declared.finding.Named.{Named}
use Rattle.library_types.specs.Finding.{IsRootNamed, HasNoRoot, IsMemberNamed, HasNoMember}
use Rattle.library_answers.specs.Answers.{side_numbered}
use Rattle.library_answers.specs.Types.{IsRoot, HasNoRootNamed, members_of, IsMember, HasNoMemberNamed}
use Rattle.library_answers.proofs.Numbered.{there_and, of_side}

-- ## Roots

pub root_is : (i j : Interface) (operation side : ℕ) (name : List ℕ) (s : Side) (x : Named) (root of : ℕ)
    → ((o : Operation) → slice_get j.operations operation ≡ Some o → IsRootNamed (named_roots j.types s o) name x) → operation < length j.operations
    → Some s ≡ side_numbered side → root ≡ x.at → of ≡ x.of.0 → j ≡ i → IsRoot i operation side name root of
root_is i j operation side name s x root of found low side_is at_is type_is same =
    subst (λ (k : Interface). IsRoot k operation side name root of) same
    (of_side j operation side s _ low side_is
    (λ o there.
    let h = found o there in
    record {
      root = h.root;
      there = ap (slice_get (named_roots j.types s o)) at_is ∙ h.there;
      name_is = h.name_is;
      type_is = type_is ∙ h.type_is;
      first = λ i r low. h.first i r (subst (λ n. i < n) at_is low);
    }))

pub no_root : (i j : Interface) (operation side : ℕ) (name : List ℕ) (s : Side)
    → ((o : Operation) → slice_get j.operations operation ≡ Some o → HasNoRoot (named_roots j.types s o) name) → operation < length j.operations
    → Some s ≡ side_numbered side → j ≡ i → HasNoRootNamed i operation side name
no_root i j operation side name s none low side_is same =
    subst (λ (k : Interface). HasNoRootNamed k operation side name) same (of_side j operation side s _ low side_is none)

-- ## Members

abbrev type_numbered : ℕ → TypeId
type_numbered n = record { 0 = n }

pub member_is : (i j : Interface) (of : ℕ) (name : List ℕ) (fs : List Field) (x : Named) (member member_of : ℕ) → Some fs ≡ members_of (type_at j.types of)
    → IsMemberNamed fs name x → member ≡ x.at → member_of ≡ x.of.0 → j ≡ i → IsMember i of name member member_of
member_is i j of name fs x member member_of there named at_is type_is same =
    subst (λ (k : Interface). IsMember k of name member member_of) same
    (there_and (members_of (type_at j.types of)) fs (λ gs. IsMemberNamed gs name (record { at = member; of = type_numbered member_of })) (sym there)
    (record {
      member = named.member;
      there = ap (slice_get fs) at_is ∙ named.there;
      name_is = named.name_is;
      type_is = ap type_numbered type_is ∙ named.type_is;
      first = λ i f low. named.first i f (subst (λ n. i < n) at_is low);
    }))

pub no_member : (i j : Interface) (of : ℕ) (name : List ℕ) (fs : List Field) → Some fs ≡ members_of (type_at j.types of) → HasNoMember fs name → j ≡ i
    → HasNoMemberNamed i of name
no_member i j of name fs there none same =
    subst (λ (k : Interface). HasNoMemberNamed k of name) same (there_and (members_of (type_at j.types of)) fs (λ gs. HasNoMember gs name) (sym there) none)
