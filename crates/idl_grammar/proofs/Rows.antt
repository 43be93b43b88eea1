-- The vectors inside types are seen as what is read of their items.
use Rattle.std.proofs.Common.{◌≡◌, ℕ, List, map, refl, ap, ◌∙◌, Option, option_map, Global}
use Rattle.std.specs.declared.vec.Vec.{Vec}
use Rattle.idl_grammar.specs.declared.words.Spelling.{Spelling}
use Rattle.idl_grammar.specs.declared.types.Discriminant.{Discriminant}
use Rattle.idl_grammar.specs.declared.types.TypeSpec as types
use Rattle.idl_grammar.specs.declared.types.Arm.TheBlock as block
use Rattle.idl_grammar.specs.declared.types.Member.{Member}
use Rattle.idl_grammar.specs.declared.types.Case.{Case}
use Rattle.idl_grammar.specs.declared.types.Arm.{Arm}
use Rattle.idl_grammar.specs.Tree as tree
use Rattle.idl_grammar.specs.Reading.{members_of, cases_of, arms_of}
use Rattle.idl_grammar.specs.Seen.{seen_type, seen_members, seen_cases, seen_arms, seen_arm, seen_member, seen_case, seen_attributes, seen_declarator, seen_label}

member_rows : (s : _) (row : types.Row_of-Member s) → seen_members row ≡ members_of (map seen_member (types.items-the_row-Member s row))
member_rows _ types.end_of-Member = refl
member_rows _ (types.more_of-Member at a type ds rest) =
    ap (λ (r : tree.Members). tree.next_member at (option_map seen_attributes a) (seen_type type) (map seen_declarator ds.items) r) (member_rows _ rest)

case_rows : (s : _) (row : types.Row_of-Case s) → seen_cases row ≡ cases_of (map seen_case (types.items-the_row-Case s row))
case_rows _ types.end_of-Case = refl
case_rows _ (types.more_of-Case ls a rest) = ap (λ (r : tree.Cases). tree.next_case (map seen_label ls.items) (seen_arm a) r) (case_rows _ rest)

arm_rows : (s : _) (row : types.Row_of-Arm s) → seen_arms row ≡ arms_of (map seen_arm (types.items-the_row-Arm s row))
arm_rows _ types.end_of-Arm = refl
arm_rows _ (types.more_of-Arm a rest) = ap (λ (r : tree.Arms). tree.next_arm (seen_arm a) r) (arm_rows _ rest)

pub struct_is : (at : ℕ) (tag : Option Spelling) (v : Vec Member Global) → seen_type (types.Struct at tag v) ≡ tree.Struct at tag (members_of (map seen_member v.items))
struct_is at tag v =
    ap (λ (r : tree.Members). tree.Struct at tag r) (member_rows _ (block.hidden-the_row-Member-0 v) ∙ ap (λ (l : List Member). members_of (map seen_member l)) (types.items_hidden-the_row-Member-0 v))

pub cases_are : (at : ℕ) (tag : Option Spelling) (d : Discriminant) (name : Option Spelling) (v : Vec Case Global)
    → seen_type (types.EncapsulatedUnion at tag d name v) ≡ tree.EncapsulatedUnion at tag d name (cases_of (map seen_case v.items))
cases_are at tag d name v =
    ap (λ (r : tree.Cases). tree.EncapsulatedUnion at tag d name r)
    (case_rows _ (block.hidden-the_row-Case-1 v) ∙ ap (λ (l : List Case). cases_of (map seen_case l)) (types.items_hidden-the_row-Case-1 v))

pub arms_are : (at : ℕ) (tag : Option Spelling) (v : Vec Arm Global) → seen_type (types.NonEncapsulatedUnion at tag v) ≡ tree.NonEncapsulatedUnion at tag (arms_of (map seen_arm v.items))
arms_are at tag v =
    ap (λ (r : tree.Arms). tree.NonEncapsulatedUnion at tag r) (arm_rows _ (block.hidden-the_row-Arm-2 v) ∙ ap (λ (l : List Arm). arms_of (map seen_arm l)) (types.items_hidden-the_row-Arm-2 v))
