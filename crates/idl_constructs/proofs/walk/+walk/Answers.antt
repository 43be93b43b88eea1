use Rattle.std.proofs.Common.{◌∙◌, ◌<◌, ◌^◌, length, rules, [], ◌∷◌, ◌++◌, Some, map, option_map, refl, ap, subst, arith}
use Rattle.std.proofs.lemmas.Result.{on_ok_weaker}
use Rattle.std.proofs.lemmas.List.{length-map}
use Rattle.idl_grammar.specs.Seen.{seen_type, seen_declarator, seen_enumerator, seen_attributes, seen_arm}
use Rattle.idl_grammar.specs.Reading.{members_of, cases_of, arms_of}
use Rattle.idl_grammar.specs.Seen as seen
use Rattle.idl_grammar.proofs.Rows.{struct_is, cases_are, arms_are}
use Rattle.idl_rule_definitions.specs.Nodes.{BodyNode, SwitchNode, EnumeratorNode, DeclaratorNode, attribute_nodes, type_nodes, member_nodes, declared_members, label_nodes, labels_of, case_nodes}
use Rattle.idl_rule_definitions.specs.Nodes.{arms_nodes, arm_nodes}
use Rattle.idl_constructs.specs.SeenNodes.{seen_construct, seen_position, seen_declared}
use Rattle.idl_constructs.specs.Growing.{Adds, member_front, member_rest}
use Rattle.idl_constructs.proofs.Adding.{adds_as, adds_both, pushed, of_all, of_both, turn, over, turn_of, over_of}
use Rattle.idl_constructs.proofs.Bodies.{struct_nodes, switched_nodes, union_nodes, enum_nodes, typed_nodes}
use Rattle.idl_constructs.proofs.Rests as rests
use Rattle.idl_constructs.proofs.walk.+walk.Goals as goal

pub type_spec-returns-in_ok-body-in-Struct : goal.type_spec-returns-in_ok-body-in-Struct
type_spec-returns-in_ok-body-in-Struct t c =
    let k = seen_construct c.args.construct.now in
    let of = seen_type c.args.of.now in
    let u = c.in-Struct in
    let ms = members_of (map seen.seen_member u.list.items) in
    let e = ap seen_type u.is ∙ struct_is u.at u.tag u.list in
    on_ok_weaker c.members.result
    (λ x. adds_as c.args.nodes.now c.members.new.nodes ((BodyNode k of ∷ []) ++ member_nodes k (declared_members k ms) 0 ms) (type_nodes k of) (struct_nodes k of u.at u.tag ms e)
    (adds_both c.args.nodes.now c.body.new.nodes c.members.new.nodes (BodyNode k of ∷ []) (member_nodes k (declared_members k ms) 0 ms) c.in_ok-body-in-Struct.ensures x))
    c.members.ensures

pub type_spec-returns-in_ok-labels-in-EncapsulatedUnion : goal.type_spec-returns-in_ok-labels-in-EncapsulatedUnion
type_spec-returns-in_ok-labels-in-EncapsulatedUnion t c =
    let k = seen_construct c.args.construct.now in
    let of = seen_type c.args.of.now in
    let u = c.in-EncapsulatedUnion in
    let cs = cases_of (map seen.seen_case u.list.items) in
    let e = ap seen_type u.is ∙ cases_are u.at u.tag u.discriminant u.name u.list in
    let a = c.args.nodes.now in
    let b = c.body-in-EncapsulatedUnion.new.nodes in
    let d = c.push-in-EncapsulatedUnion.new.self in
    let f = c.labels.new.nodes in
    let one = BodyNode k of ∷ [] in
    let two = SwitchNode k u.discriminant.of ∷ [] in
    let three = label_nodes k of [] (labels_of of) in
    let switched : Adds b d two = pushed b d _ two (λ later. refl) c.in_ok-push-in-EncapsulatedUnion.ensures in
    let first : Adds a d (one ++ two) = adds_both a b d one two c.in_ok-body-in-EncapsulatedUnion.ensures switched in
    let second : Adds a f (one ++ two ++ three) = adds_both a d f (one ++ two) three first c.in_ok-labels-in-EncapsulatedUnion.ensures in
    on_ok_weaker c.cases.result
    (λ x. adds_as a c.cases.new.nodes (one ++ two ++ three ++ case_nodes k cs) (type_nodes k of) (switched_nodes k of u.at u.tag u.discriminant u.name cs e)
    (adds_both a f c.cases.new.nodes (one ++ two ++ three) (case_nodes k cs) second x))
    c.cases.ensures

pub type_spec-returns-in_ok-labels-in-NonEncapsulatedUnion : goal.type_spec-returns-in_ok-labels-in-NonEncapsulatedUnion
type_spec-returns-in_ok-labels-in-NonEncapsulatedUnion t c =
    let k = seen_construct c.args.construct.now in
    let of = seen_type c.args.of.now in
    let u = c.in-NonEncapsulatedUnion in
    let xs = arms_of (map seen_arm u.list.items) in
    let e = ap seen_type u.is ∙ arms_are u.at u.tag u.list in
    let a = c.args.nodes.now in
    let b = c.body-in-NonEncapsulatedUnion.new.nodes in
    let d = c.labels-in-NonEncapsulatedUnion.new.nodes in
    let one = BodyNode k of ∷ [] in
    let two = label_nodes k of [] (labels_of of) in
    let first : Adds a d (one ++ two) = adds_both a b d one two c.in_ok-body-in-NonEncapsulatedUnion.ensures c.in_ok-labels-in-NonEncapsulatedUnion.ensures in
    on_ok_weaker c.arms.result
    (λ x. adds_as a c.arms.new.nodes (one ++ two ++ arms_nodes k xs) (type_nodes k of) (union_nodes k of u.at u.tag xs e)
    (adds_both a d c.arms.new.nodes (one ++ two) (arms_nodes k xs) first x))
    c.arms.ensures

pub type_spec-returns-in_ok-body-in-Enum : goal.type_spec-returns-in_ok-body-in-Enum
type_spec-returns-in_ok-body-in-Enum t c =
    let k = seen_construct c.args.construct.now in
    let of = seen_type c.args.of.now in
    let u = c.in-Enum in
    let a = c.args.nodes.now in
    let b = c.body-in-Enum.new.nodes in
    let d = c.enumerators.new.nodes in
    on_ok_weaker c.enumerators.result
    (λ x. adds_as a d ((BodyNode k of ∷ []) ++ map (λ e. EnumeratorNode k e.name) (map seen_enumerator u.list.items)) (type_nodes k of)
    (enum_nodes k of u.at u.tag (map seen_enumerator u.list.items) (ap seen_type u.is))
    (adds_both a b d (BodyNode k of ∷ []) (map (λ e. EnumeratorNode k e.name) (map seen_enumerator u.list.items)) c.in_ok-body-in-Enum.ensures
    (subst (λ es. Adds b d (map (λ e. EnumeratorNode k e.name) (map seen_enumerator es))) c.as_slice.ensures.value x)))
    c.enumerators.ensures

pub arm-returns-in_ok-type_spec-in-Typed : goal.arm-returns-in_ok-type_spec-in-Typed
arm-returns-in_ok-type_spec-in-Typed t c =
    let k = seen_construct c.args.construct.now in
    let u = c.in-Typed in
    let i = seen_construct c.inside-inner-in-Typed.result in
    let of = seen_type u.of in
    let d = seen_declared c.declared.result in
    let a = c.args.nodes.now in
    let b = c.attributes-in-Typed.new.nodes in
    let f = c.type_spec.new.nodes in
    on_ok_weaker c.unlisted.result
    (λ x. adds_as a c.unlisted.new.nodes (attribute_nodes i ++ type_nodes i of ++ (DeclaratorNode [] 0 d ∷ [])) (arm_nodes k (seen_position c.args.position) (seen_arm c.args.arm.now))
    (typed_nodes k (seen_position c.args.position) (seen_arm c.args.arm.now) u.at (option_map seen_attributes u.list) of (seen_declarator u.declarator) i d
    (ap seen_arm u.is) c.inside-inner-in-Typed.ensures c.declared.ensures)
    (adds_both a f c.unlisted.new.nodes (attribute_nodes i ++ type_nodes i of) (DeclaratorNode [] 0 d ∷ [])
    (adds_both a b f (attribute_nodes i) (type_nodes i of) c.in_ok-attributes-in-Typed.ensures c.in_ok-type_spec-in-Typed.ensures) x))
    c.unlisted.ensures

pub member-returns : goal.member-returns
member-returns t c =
    let k = seen_construct c.args.construct.now in
    let m = c.args.member.now in
    let i = seen_construct c.inside-inner.result in
    let of = seen_type m.of in
    let a = c.args.nodes.now in
    let b = c.attributes.new.nodes in
    let d = c.type_spec.new.nodes in
    on_ok_weaker c.type_spec.result
    (λ x. adds_as a d (attribute_nodes i ++ type_nodes i of) (member_front k (seen.seen_member m)) (ap (λ j. attribute_nodes j ++ type_nodes j of) c.inside-inner.ensures)
    (adds_both a b d (attribute_nodes i) (type_nodes i of) c.in_ok-attributes.ensures x))
    c.type_spec.ensures

pub members-loop-one-preserved : goal.members-loop-one-preserved
members-loop-one-preserved t c =
    let k = seen_construct c.args.construct.now in
    let xs = c.deref-one-items.result.now in
    let l = c.loop-one in
    let x = c.one-item.result in
    let number = c.in_ok-number.number in
    let middle = c.member.new.nodes in
    let new = c.member_declarators.new.nodes in
    let front = member_front k (seen.seen_member x) in
    record {
      count =
          let more = rests.members_counted k xs l.one-index x (omega arith) c.one-item.is in
          let before = l.invariant.count in
          let next = c.in_ok-index.ensures.next in
          omega (arith, more, before, next);
      adds = λ end rest. l.invariant.adds end
          (turn_of (rests.members_from k) (rests.one_member k) rests.count_of (rests.members_cons k) xs l.nodes new number l.index c.in_ok-index.index l.one-index x (omega arith) c.one-item.is
          c.in_ok-index.ensures.next
          (of_both l.nodes middle new number (λ _. front) (λ all. member_rest k l.index (seen.seen_member x) all)
          (of_all l.nodes middle number front c.in_ok-member.ensures) c.in_ok-index.ensures.adds) end rest);
    }

pub members-member_declarators-requires : goal.members-member_declarators-requires
members-member_declarators-requires t c =
    let k = seen_construct c.args.construct.now in
    let xs = c.deref-one-items.result.now in
    let l = c.loop-one in
    let x = c.one-item.result in
    let more = rests.members_counted k xs l.one-index x (omega arith) c.one-item.is in
    let before = l.invariant.count in
    let own = length-map x.declarators.items seen_declarator in
    let same = ap (λ ys. length (rests.members_declared k ys)) c.deref-one-items.ensures.value in
    let all = ap length c.in_ok-declared.ensures in
    let many = length-map c.in_ok-declared.declared.items seen_declared in
    let fits : length c.in_ok-declared.declared.items < 2 ^ 64 = search rules in
    omega (arith, more, before, own, same, all, many, fits)

pub members-loop-one-init : goal.members-loop-one-init
members-loop-one-init t c = record { count = omega arith; adds = λ end rest. rest }

pub members-returns : goal.members-returns
members-returns t c =
    let k = seen_construct c.args.construct.now in
    let xs = c.deref-one-items.result.now in
    let l = c.loop-one in
    let all = rests.members_declared k c.args.list.now.items in
    let a = c.args.nodes.now in
    let b = c.push_list.new.self in
    let rest : Adds b l.nodes (rests.members_from k all 0 xs) =
    l.invariant.adds l.nodes
    (over_of (rests.members_from k) (rests.one_member k) rests.count_of (rests.members_cons k) xs l.nodes c.in_ok-number.number l.index l.one-index (omega arith) (λ all. refl))
    all (c.in_ok-number.ensures.number ∙ ap Some c.in_ok-declared.ensures) in
    subst (λ ys. Adds a l.nodes (rests.members_from k all 0 ys)) c.deref-one-items.ensures.value (adds_both a b l.nodes [] (rests.members_from k all 0 xs) c.in_ok-number.ensures.adds rest)

pub cases-loop-one-preserved : goal.cases-loop-one-preserved
cases-loop-one-preserved t c =
    let k = seen_construct c.args.construct.now in
    let xs = c.deref-one-items.result.now in
    let l = c.loop-one in
    λ end rest. l.invariant end
    (turn (rests.cases_from k) (rests.one_case k) (rests.cases_cons k) xs l.nodes c.arm.new.nodes l.one-index c.one-item.result (omega arith) c.one-item.is c.in_ok-arm.ensures end rest)

pub cases-returns : goal.cases-returns
cases-returns t c =
    let k = seen_construct c.args.construct.now in
    let xs = c.deref-one-items.result.now in
    let l = c.loop-one in
    subst (λ ys. Adds c.args.nodes.now l.nodes (rests.cases_from k ys)) c.deref-one-items.ensures.value
    (l.invariant l.nodes (over (rests.cases_from k) (rests.one_case k) (rests.cases_cons k) xs l.nodes l.one-index (omega arith) refl))

pub arms-loop-one-preserved : goal.arms-loop-one-preserved
arms-loop-one-preserved t c =
    let k = seen_construct c.args.construct.now in
    let xs = c.deref-one-items.result.now in
    let l = c.loop-one in
    λ end rest. l.invariant end
    (turn (rests.arms_from k) (rests.one_arm k) (rests.arms_cons k) xs l.nodes c.arm.new.nodes l.one-index c.one-item.result (omega arith) c.one-item.is c.in_ok-arm.ensures end rest)

pub arms-returns : goal.arms-returns
arms-returns t c =
    let k = seen_construct c.args.construct.now in
    let xs = c.deref-one-items.result.now in
    let l = c.loop-one in
    subst (λ ys. Adds c.args.nodes.now l.nodes (rests.arms_from k ys)) c.deref-one-items.ensures.value
    (l.invariant l.nodes (over (rests.arms_from k) (rests.one_arm k) (rests.arms_cons k) xs l.nodes l.one-index (omega arith) refl))
