use Rattle.std.proofs.Common.{◌≡◌, ◌≢◌, ℕ, suc, ◌+◌, ◌-◌, ◌<◌, ◌≤◌, List, [], ◌∷◌, ◌++◌, map, option_map, length, arith, sym, ap, subst, refl, ◌∙◌, Ok, Option, true, false}
use Rattle.idl_grammar.specs.Text.{symbol_at, is, is_in}
use Rattle.idl_grammar.specs.ReadPhrases.{Read, and_then, turned, behind_read, separated_read, some_read, list_read}
use Rattle.idl_grammar.specs.Gives.{Gives}
use Rattle.idl_grammar.proofs.Fails.{fails_equal, fails_is}
use Rattle.idl_grammar.proofs.Gathered.{Gathered, gathers, gathering_fails, gathered}
use Rattle.idl_grammar.specs.Symbols as symbol
use Rattle.std.proofs.lemmas.Result.{err_from_is_err_and}
use Rattle.std.proofs.lemmas.List.{map_push}
use Rattle.idl_grammar.specs.Reading.{member_firsts, label_firsts, arm_firsts, member_read, members_read, case_read, cases_read, arm_read, arms_read, type_read, MemberParts, members_of, cases_of}
use Rattle.idl_grammar.specs.Reading.{arms_of, labels_read, struct_body_read, struct_read, union_switch_read, union_body_read, cases_body_read, arms_body_read}
use Rattle.idl_grammar.specs.Seen.{seen_arm, seen_label, seen_type, seen_member, seen_case}
use Rattle.idl_grammar.specs.declared.words.Spelling.{Spelling}
use Rattle.idl_grammar.specs.declared.types.Discriminant.{Discriminant}
use Rattle.idl_grammar.specs.declared.types.TagKind.TheVariants as tags
use Rattle.idl_grammar.specs.Expressions.{names}
use Rattle.idl_grammar.specs.Tree as tree
use Rattle.idl_parser.proofs.Bodies.{then_reads, then_fails, bracketed_reads, branch_first, branch_second, tagged_body}
use Rattle.idl_tokens.proofs.Lists.{alone, some_begins}
use Rattle.idl_grammar.proofs.Rows.{struct_is, cases_are, arms_are}
use Rattle.idl_parser.proofs.types.+types.Goals as goal

pub members-loop-list-init : goal.members-loop-list-init
unfolding members_read
members-loop-list-init t c =
    rw (c.in_ok-push.ensures.items, c.new-list.ensures.items) (
      some_begins (member_firsts) c.args.parser.now (member_read c.args.nesting c.args.parser.now c.args.depth (type_read c.args.fuel c.args.nesting c.args.parser.now c.args.depth)) c.args.at
          (seen_member c.in_ok-first.first) c.in_ok-first.here c.in_ok-first.ensures.within.1 c.in_ok-first.ensures.gives,
      c.in_ok-first.ensures.within.0,
    )

pub members-returns-in_err-next-clause-gives : goal.members-returns-in_err-next-clause-gives
unfolding members_read
members-returns-in_err-next-clause-gives t c =
    let p = err_from_is_err_and c.from_residual-in_err-next.result c.from_residual-in_err-next.ensures.1 in
    let h : is_in (member_firsts) (symbol_at c.args.parser.now c.loop-list.here) ≡ true = cc in
    rw (p.1, p.2)
    (gathering_fails (λ a. is_in (member_firsts) a.symbol)
    (member_read c.args.nesting c.args.parser.now c.args.depth (type_read c.args.fuel c.args.nesting c.args.parser.now c.args.depth)) c.args.parser.now
    (some_read (member_firsts) c.args.parser.now (member_read c.args.nesting c.args.parser.now c.args.depth (type_read c.args.fuel c.args.nesting c.args.parser.now c.args.depth)) c.args.at)
    (map seen_member c.loop-list.list.items) c.loop-list.here c.loop-list.invariant.0 h c.in_err-next.field-0.0 c.in_err-next.ensures.gives)

pub members-loop-list-smaller : goal.members-loop-list-smaller
members-loop-list-smaller t c = omega (arith, c.in_ok-next.ensures.within)

pub members-loop-list-preserved : goal.members-loop-list-preserved
unfolding members_read
members-loop-list-preserved t c =
    let h : is_in (member_firsts) (symbol_at c.args.parser.now c.loop-list.here) ≡ true = cc in
    let e : (map seen_member c.push-in-loop-list.new.self.items) ≡ (map seen_member c.loop-list.list.items) ++ (seen_member c.in_ok-next.next) ∷ [] =
    rw c.in_ok-push-2.ensures.items (map_push seen_member c.loop-list.list.items c.in_ok-next.next) in
    rw e (
      gathers (λ a. is_in (member_firsts) a.symbol) (member_read c.args.nesting c.args.parser.now c.args.depth (type_read c.args.fuel c.args.nesting c.args.parser.now c.args.depth)) c.args.parser.now
          (some_read (member_firsts) c.args.parser.now (member_read c.args.nesting c.args.parser.now c.args.depth (type_read c.args.fuel c.args.nesting c.args.parser.now c.args.depth)) c.args.at)
          (map seen_member c.loop-list.list.items) c.loop-list.here c.loop-list.invariant.0 h
          (seen_member c.in_ok-next.next) c.in_ok-next.past c.in_ok-next.ensures.gives c.in_ok-next.ensures.within.0 c.in_ok-next.ensures.within.1,
      omega (arith, c.in_ok-next.ensures.within, c.loop-list.invariant.1),
    )

pub members-returns-clause-gives : goal.members-returns-clause-gives
unfolding members_read
members-returns-clause-gives t c =
    let h : is_in (member_firsts) (symbol_at c.args.parser.now c.loop-list.here) ≡ false = cc in
    gathered (λ a. is_in (member_firsts) a.symbol) (member_read c.args.nesting c.args.parser.now c.args.depth (type_read c.args.fuel c.args.nesting c.args.parser.now c.args.depth)) c.args.parser.now
    (some_read (member_firsts) c.args.parser.now (member_read c.args.nesting c.args.parser.now c.args.depth (type_read c.args.fuel c.args.nesting c.args.parser.now c.args.depth)) c.args.at)
    (map seen_member c.loop-list.list.items) c.loop-list.here c.loop-list.invariant.0 h

pub cases-loop-list-init : goal.cases-loop-list-init
unfolding cases_read
cases-loop-list-init t c =
    rw (c.in_ok-push.ensures.items, c.new-list.ensures.items) (
      some_begins (label_firsts) c.args.parser.now (case_read c.args.nesting c.args.parser.now c.args.depth (type_read c.args.fuel c.args.nesting c.args.parser.now c.args.depth)) c.args.at
          (seen_case c.in_ok-first.first) c.in_ok-first.here c.in_ok-first.ensures.within.1 c.in_ok-first.ensures.gives,
      c.in_ok-first.ensures.within.0,
    )

pub cases-returns-in_err-next-clause-gives : goal.cases-returns-in_err-next-clause-gives
unfolding cases_read
cases-returns-in_err-next-clause-gives t c =
    let p = err_from_is_err_and c.from_residual-in_err-next.result c.from_residual-in_err-next.ensures.1 in
    let h : is_in (label_firsts) (symbol_at c.args.parser.now c.loop-list.here) ≡ true = cc in
    rw (p.1, p.2)
    (gathering_fails (λ a. is_in (label_firsts) a.symbol)
    (case_read c.args.nesting c.args.parser.now c.args.depth (type_read c.args.fuel c.args.nesting c.args.parser.now c.args.depth)) c.args.parser.now
    (some_read (label_firsts) c.args.parser.now (case_read c.args.nesting c.args.parser.now c.args.depth (type_read c.args.fuel c.args.nesting c.args.parser.now c.args.depth)) c.args.at)
    (map seen_case c.loop-list.list.items) c.loop-list.here c.loop-list.invariant.0 h c.in_err-next.field-0.0 c.in_err-next.ensures.gives)

pub cases-loop-list-smaller : goal.cases-loop-list-smaller
cases-loop-list-smaller t c = omega (arith, c.in_ok-next.ensures.within)

pub cases-loop-list-preserved : goal.cases-loop-list-preserved
unfolding cases_read
cases-loop-list-preserved t c =
    let h : is_in (label_firsts) (symbol_at c.args.parser.now c.loop-list.here) ≡ true = cc in
    let e : (map seen_case c.push-in-loop-list.new.self.items) ≡ (map seen_case c.loop-list.list.items) ++ (seen_case c.in_ok-next.next) ∷ [] =
    rw c.in_ok-push-2.ensures.items (map_push seen_case c.loop-list.list.items c.in_ok-next.next) in
    rw e (
      gathers (λ a. is_in (label_firsts) a.symbol) (case_read c.args.nesting c.args.parser.now c.args.depth (type_read c.args.fuel c.args.nesting c.args.parser.now c.args.depth)) c.args.parser.now
          (some_read (label_firsts) c.args.parser.now (case_read c.args.nesting c.args.parser.now c.args.depth (type_read c.args.fuel c.args.nesting c.args.parser.now c.args.depth)) c.args.at)
          (map seen_case c.loop-list.list.items) c.loop-list.here c.loop-list.invariant.0 h
          (seen_case c.in_ok-next.next) c.in_ok-next.past c.in_ok-next.ensures.gives c.in_ok-next.ensures.within.0 c.in_ok-next.ensures.within.1,
      omega (arith, c.in_ok-next.ensures.within, c.loop-list.invariant.1),
    )

pub cases-returns-clause-gives : goal.cases-returns-clause-gives
unfolding cases_read
cases-returns-clause-gives t c =
    let h : is_in (label_firsts) (symbol_at c.args.parser.now c.loop-list.here) ≡ false = cc in
    gathered (λ a. is_in (label_firsts) a.symbol) (case_read c.args.nesting c.args.parser.now c.args.depth (type_read c.args.fuel c.args.nesting c.args.parser.now c.args.depth)) c.args.parser.now
    (some_read (label_firsts) c.args.parser.now (case_read c.args.nesting c.args.parser.now c.args.depth (type_read c.args.fuel c.args.nesting c.args.parser.now c.args.depth)) c.args.at)
    (map seen_case c.loop-list.list.items) c.loop-list.here c.loop-list.invariant.0 h

pub arms-loop-list-init : goal.arms-loop-list-init
unfolding arms_read
arms-loop-list-init t c =
    rw (c.in_ok-push.ensures.items, c.new-list.ensures.items) (
      some_begins (arm_firsts) c.args.parser.now (arm_read c.args.nesting c.args.parser.now c.args.depth (type_read c.args.fuel c.args.nesting c.args.parser.now c.args.depth)) c.args.at
          (seen_arm c.in_ok-first.first) c.in_ok-first.here c.in_ok-first.ensures.within.1 c.in_ok-first.ensures.gives,
      c.in_ok-first.ensures.within.0,
    )

pub arms-returns-in_err-next-clause-gives : goal.arms-returns-in_err-next-clause-gives
unfolding arms_read
arms-returns-in_err-next-clause-gives t c =
    let p = err_from_is_err_and c.from_residual-in_err-next.result c.from_residual-in_err-next.ensures.1 in
    let h : is_in (arm_firsts) (symbol_at c.args.parser.now c.loop-list.here) ≡ true = cc in
    rw (p.1, p.2)
    (gathering_fails (λ a. is_in (arm_firsts) a.symbol)
    (arm_read c.args.nesting c.args.parser.now c.args.depth (type_read c.args.fuel c.args.nesting c.args.parser.now c.args.depth)) c.args.parser.now
    (some_read (arm_firsts) c.args.parser.now (arm_read c.args.nesting c.args.parser.now c.args.depth (type_read c.args.fuel c.args.nesting c.args.parser.now c.args.depth)) c.args.at)
    (map seen_arm c.loop-list.list.items) c.loop-list.here c.loop-list.invariant.0 h c.in_err-next.field-0.0 c.in_err-next.ensures.gives)

pub arms-loop-list-smaller : goal.arms-loop-list-smaller
arms-loop-list-smaller t c = omega (arith, c.in_ok-next.ensures.within)

pub arms-loop-list-preserved : goal.arms-loop-list-preserved
unfolding arms_read
arms-loop-list-preserved t c =
    let h : is_in (arm_firsts) (symbol_at c.args.parser.now c.loop-list.here) ≡ true = cc in
    let e : (map seen_arm c.push-in-loop-list.new.self.items) ≡ (map seen_arm c.loop-list.list.items) ++ (seen_arm c.in_ok-next.next) ∷ [] =
    rw c.in_ok-push-2.ensures.items (map_push seen_arm c.loop-list.list.items c.in_ok-next.next) in
    rw e (
      gathers (λ a. is_in (arm_firsts) a.symbol) (arm_read c.args.nesting c.args.parser.now c.args.depth (type_read c.args.fuel c.args.nesting c.args.parser.now c.args.depth)) c.args.parser.now
          (some_read (arm_firsts) c.args.parser.now (arm_read c.args.nesting c.args.parser.now c.args.depth (type_read c.args.fuel c.args.nesting c.args.parser.now c.args.depth)) c.args.at)
          (map seen_arm c.loop-list.list.items) c.loop-list.here c.loop-list.invariant.0 h
          (seen_arm c.in_ok-next.next) c.in_ok-next.past c.in_ok-next.ensures.gives c.in_ok-next.ensures.within.0 c.in_ok-next.ensures.within.1,
      omega (arith, c.in_ok-next.ensures.within, c.loop-list.invariant.1),
    )

pub arms-returns-clause-gives : goal.arms-returns-clause-gives
unfolding arms_read
arms-returns-clause-gives t c =
    let h : is_in (arm_firsts) (symbol_at c.args.parser.now c.loop-list.here) ≡ false = cc in
    gathered (λ a. is_in (arm_firsts) a.symbol) (arm_read c.args.nesting c.args.parser.now c.args.depth (type_read c.args.fuel c.args.nesting c.args.parser.now c.args.depth)) c.args.parser.now
    (some_read (arm_firsts) c.args.parser.now (arm_read c.args.nesting c.args.parser.now c.args.depth (type_read c.args.fuel c.args.nesting c.args.parser.now c.args.depth)) c.args.at)
    (map seen_arm c.loop-list.list.items) c.loop-list.here c.loop-list.invariant.0 h

pub case-returns-in_err-arm-clause-gives : goal.case-returns-in_err-arm-clause-gives
unfolding case_read
case-returns-in_err-arm-clause-gives t c =
    let p = err_from_is_err_and c.from_residual-in_err-arm.result c.from_residual-in_err-arm.ensures.1 in
    let again : ℕ → Read tree.TypeSpec = type_read c.args.fuel c.args.nesting c.args.parser.now c.args.depth in
    rw (p.1, p.2)
    (then_fails (labels_read c.args.nesting c.args.parser.now c.args.depth c.args.at) (λ ls m. arm_read c.args.nesting c.args.parser.now c.args.depth again m)
    (map seen_label c.in_ok-labels.labels.items) c.in_ok-labels.next c.in_err-arm.field-0.0 c.in_ok-labels.ensures.gives c.in_err-arm.ensures.gives)

pub case-returns-clause-gives : goal.case-returns-clause-gives
unfolding case_read
case-returns-clause-gives t c =
    let again : ℕ → Read tree.TypeSpec = type_read c.args.fuel c.args.nesting c.args.parser.now c.args.depth in
    then_reads (labels_read c.args.nesting c.args.parser.now c.args.depth c.args.at) (λ ls m. arm_read c.args.nesting c.args.parser.now c.args.depth again m)
    (map seen_label c.in_ok-labels.labels.items) c.in_ok-labels.next (seen_arm c.in_ok-arm.arm) c.in_ok-arm.next c.in_ok-labels.ensures.gives c.in_ok-arm.ensures.gives

pub struct_body-returns-clause-gives : goal.struct_body-returns-clause-gives
unfolding struct_body_read
struct_body-returns-clause-gives t c =
    let again : ℕ → Read tree.TypeSpec = type_read c.args.fuel c.args.nesting c.args.parser.now (c.args.depth + 1) in
    ap (λ (v : Read (List MemberParts)). turned (λ ms. tree.Struct c.args.octet c.args.tag (members_of ms)) v)
    (bracketed_reads c.args.depth symbol.OpenCurly symbol.CloseCurly c.args.parser.now
    (members_read c.args.nesting c.args.parser.now (c.args.depth + 1) again) c.args.at c.in_ok-next.next c.in_ok-members.next c.in_ok-next-2.next
    (map seen_member c.in_ok-members.members.items) c.in_ok-next.ensures.gives c.in_ok-members.ensures.gives c.in_ok-next-2.ensures.gives)
    ∙ ap (λ (x : tree.TypeSpec). Ok (x, c.in_ok-next-2.next)) (sym (struct_is c.args.octet c.args.tag c.in_ok-members.members))

pub structure-returns-then-is_name-clause-gives : goal.structure-returns-then-is_name-clause-gives
unfolding struct_read
structure-returns-then-is_name-clause-gives t c =
    let again : ℕ → Read tree.TypeSpec = type_read c.args.fuel c.args.nesting c.args.parser.now (c.args.depth + 1) in
    let h : is_in (names false) (symbol_at c.args.parser.now c.args.at) ≡ true = cc in
    let d : is (symbol_at c.args.parser.now c.in_ok-tag.next) symbol.OpenCurly ≡ true = grind (arith, c.if-not-stands.false, c.stands.ensures) in
    let e = tagged_body (symbol.OpenCurly ∷ []) c.args.parser.now (λ tag. tree.Tag c.args.octet tags.Struct tag)
    (λ tag m. turned (λ ms. tree.Struct c.args.octet tag (members_of ms))
    (struct_body_read c.args.nesting c.args.parser.now c.args.depth again m)) c.args.at c.in_ok-tag.tag c.in_ok-tag.next h c.in_ok-tag.ensures.gives
    (alone c.args.parser.now c.in_ok-tag.next symbol.OpenCurly true d) in
    subst (λ (v : Read tree.TypeSpec). Gives seen_type c.struct_body.result v) (sym e) c.struct_body.ensures.gives

pub union_body-returns-in_err-cases-clause-gives : goal.union_body-returns-in_err-cases-clause-gives
unfolding union_body_read
union_body-returns-in_err-cases-clause-gives t c =
    let p = err_from_is_err_and c.from_residual-in_err-cases.result c.from_residual-in_err-cases.ensures.1 in
    let again : ℕ → Read tree.TypeSpec = type_read c.args.fuel c.args.nesting c.args.parser.now (c.args.depth + 1) in
    let d : is (symbol_at c.args.parser.now c.args.at) symbol.Switch ≡ true = cc in
    let h = alone c.args.parser.now c.args.at symbol.Switch true d in
    let both : Read ((Discriminant × Option Spelling) × List (List tree.Label × tree.Arm)) =
    and_then (union_switch_read c.args.parser.now c.args.depth c.args.at) (λ s m. cases_body_read c.args.nesting c.args.parser.now c.args.depth again m) in
    let other : Read tree.TypeSpec = turned (λ a. tree.NonEncapsulatedUnion c.args.octet c.args.tag (arms_of a)) (arms_body_read c.args.nesting c.args.parser.now c.args.depth again c.args.at) in
    let made : Read ((Discriminant × Option Spelling) × List (List tree.Label × tree.Arm)) → Read tree.TypeSpec =
    λ v. turned (λ p. tree.EncapsulatedUnion c.args.octet c.args.tag p.0.0 p.0.1 (cases_of p.1)) v in
    rw (p.1, p.2)
    (fails_is c.in_err-cases.field-0.0 _ _ (branch_first (symbol.Switch ∷ []) c.args.parser.now c.args.at (made both) other h)
    (fails_equal made (λ _. refl) c.in_err-cases.field-0.0 both
    (then_fails (union_switch_read c.args.parser.now c.args.depth c.args.at) (λ s m. cases_body_read c.args.nesting c.args.parser.now c.args.depth again m)
    (c.in_ok-discriminant.discriminant, c.in_ok-discriminant.name) c.in_ok-discriminant.next c.in_err-cases.field-0.0 c.in_ok-discriminant.ensures.gives c.in_err-cases.ensures.gives)))

pub union_body-returns-then-stands-clause-gives : goal.union_body-returns-then-stands-clause-gives
unfolding union_body_read
union_body-returns-then-stands-clause-gives t c =
    let again : ℕ → Read tree.TypeSpec = type_read c.args.fuel c.args.nesting c.args.parser.now (c.args.depth + 1) in
    let d : is (symbol_at c.args.parser.now c.args.at) symbol.Switch ≡ true = cc in
    let h = alone c.args.parser.now c.args.at symbol.Switch true d in
    let both : Read ((Discriminant × Option Spelling) × List (List tree.Label × tree.Arm)) =
    and_then (union_switch_read c.args.parser.now c.args.depth c.args.at) (λ s m. cases_body_read c.args.nesting c.args.parser.now c.args.depth again m) in
    let other : Read tree.TypeSpec = turned (λ a. tree.NonEncapsulatedUnion c.args.octet c.args.tag (arms_of a)) (arms_body_read c.args.nesting c.args.parser.now c.args.depth again c.args.at) in
    let made : Read ((Discriminant × Option Spelling) × List (List tree.Label × tree.Arm)) → Read tree.TypeSpec =
    λ v. turned (λ p. tree.EncapsulatedUnion c.args.octet c.args.tag p.0.0 p.0.1 (cases_of p.1)) v in
    branch_first (symbol.Switch ∷ []) c.args.parser.now c.args.at (made both) other h
    ∙ (ap made
    (then_reads (union_switch_read c.args.parser.now c.args.depth c.args.at) (λ s m. cases_body_read c.args.nesting c.args.parser.now c.args.depth again m)
    (c.in_ok-discriminant.discriminant, c.in_ok-discriminant.name) c.in_ok-discriminant.next
    (map seen_case c.in_ok-cases.cases.items) c.in_ok-cases.next c.in_ok-discriminant.ensures.gives c.in_ok-cases.ensures.gives)
    ∙ ap (λ (x : tree.TypeSpec). Ok (x, c.in_ok-cases.next)) (sym (cases_are c.args.octet c.args.tag c.in_ok-discriminant.discriminant c.in_ok-discriminant.name c.in_ok-cases.cases)))

pub union_body-returns-clause-gives : goal.union_body-returns-clause-gives
unfolding union_body_read
union_body-returns-clause-gives t c =
    let again : ℕ → Read tree.TypeSpec = type_read c.args.fuel c.args.nesting c.args.parser.now (c.args.depth + 1) in
    let d : is (symbol_at c.args.parser.now c.args.at) symbol.Switch ≡ false = cc in
    let h = alone c.args.parser.now c.args.at symbol.Switch false d in
    let first : Read tree.TypeSpec =
    turned (λ p. tree.EncapsulatedUnion c.args.octet c.args.tag p.0.0 p.0.1 (cases_of p.1))
    (and_then (union_switch_read c.args.parser.now c.args.depth c.args.at) (λ s m. cases_body_read c.args.nesting c.args.parser.now c.args.depth again m)) in
    let made : Read (List tree.Arm) → Read tree.TypeSpec = λ v. turned (λ a. tree.NonEncapsulatedUnion c.args.octet c.args.tag (arms_of a)) v in
    branch_second (symbol.Switch ∷ []) c.args.parser.now c.args.at first (made (arms_body_read c.args.nesting c.args.parser.now c.args.depth again c.args.at)) h
    ∙ (ap made c.in_ok-arms.ensures.gives
    ∙ ap (λ (x : tree.TypeSpec). Ok (x, c.in_ok-arms.next)) (sym (arms_are c.args.octet c.args.tag c.in_ok-arms.arms)))
