use Rattle.std.proofs.Common.{◌≡◌, ◌≢◌, ℕ, suc, ◌+◌, ◌-◌, ◌*◌, ◌<◌, ◌≤◌, List, [], ◌∷◌, ◌++◌, map, option_map, length, arith, sym, ap, true, false}
use Rattle.idl_grammar.specs.Text.{symbol_at, is, is_in}
use Rattle.idl_grammar.specs.ReadPhrases.{behind_read, separated_read, some_read, list_read}
use Rattle.idl_grammar.proofs.Gathered.{Gathered}
use Rattle.idl_grammar.specs.Symbols as symbol
use Rattle.idl_grammar.specs.Reading.{member_firsts, label_firsts, arm_firsts, member_read, members_read, case_read, cases_read, arm_read, arms_read, type_read}
use Rattle.idl_grammar.specs.Seen.{seen_arm, seen_member, seen_case}
use Rattle.idl_parser.proofs.types.+types.Given as goal

abbrev pub decreases-type_spec : goal.decreases-type_spec
decreases-type_spec l = 20 * l.fuel

abbrev pub decreases-structure : goal.decreases-structure
decreases-structure l = 20 * l.fuel + 16

abbrev pub decreases-struct_body : goal.decreases-struct_body
decreases-struct_body l = 20 * l.fuel + 15

abbrev pub decreases-members : goal.decreases-members
decreases-members l = 20 * l.fuel + 14

abbrev pub decreases-member : goal.decreases-member
decreases-member l = 20 * l.fuel + 13

abbrev pub decreases-tagged_union : goal.decreases-tagged_union
decreases-tagged_union l = 20 * l.fuel + 18

abbrev pub decreases-union_body : goal.decreases-union_body
decreases-union_body l = 20 * l.fuel + 17

abbrev pub decreases-cases_body : goal.decreases-cases_body
decreases-cases_body l = 20 * l.fuel + 16

abbrev pub decreases-cases : goal.decreases-cases
decreases-cases l = 20 * l.fuel + 15

abbrev pub decreases-case : goal.decreases-case
decreases-case l = 20 * l.fuel + 14

abbrev pub decreases-arms_body : goal.decreases-arms_body
decreases-arms_body l = 20 * l.fuel + 16

abbrev pub decreases-arms : goal.decreases-arms
decreases-arms l = 20 * l.fuel + 15

abbrev pub decreases-arm : goal.decreases-arm
decreases-arm l = 20 * l.fuel + 13

-- what is gathered so far
abbrev pub invariant-members-loop-list : goal.invariant-members-loop-list
invariant-members-loop-list l =
    Gathered (λ a. is_in (member_firsts) a.symbol) (member_read l.nesting l.parser l.depth (type_read l.fuel l.nesting l.parser l.depth)) l.parser
    (some_read (member_firsts) l.parser (member_read l.nesting l.parser l.depth (type_read l.fuel l.nesting l.parser l.depth)) l.at) (map seen_member l.list.items) l.here × (l.at < l.here)

abbrev pub decreases-members-loop-list : goal.decreases-members-loop-list
decreases-members-loop-list l = length l.parser - l.here

-- what is gathered so far
abbrev pub invariant-cases-loop-list : goal.invariant-cases-loop-list
invariant-cases-loop-list l =
    Gathered (λ a. is_in (label_firsts) a.symbol) (case_read l.nesting l.parser l.depth (type_read l.fuel l.nesting l.parser l.depth)) l.parser
    (some_read (label_firsts) l.parser (case_read l.nesting l.parser l.depth (type_read l.fuel l.nesting l.parser l.depth)) l.at) (map seen_case l.list.items) l.here × (l.at < l.here)

abbrev pub decreases-cases-loop-list : goal.decreases-cases-loop-list
decreases-cases-loop-list l = length l.parser - l.here

-- what is gathered so far
abbrev pub invariant-arms-loop-list : goal.invariant-arms-loop-list
invariant-arms-loop-list l =
    Gathered (λ a. is_in (arm_firsts) a.symbol) (arm_read l.nesting l.parser l.depth (type_read l.fuel l.nesting l.parser l.depth)) l.parser
    (some_read (arm_firsts) l.parser (arm_read l.nesting l.parser l.depth (type_read l.fuel l.nesting l.parser l.depth)) l.at) (map seen_arm l.list.items) l.here × (l.at < l.here)

abbrev pub decreases-arms-loop-list : goal.decreases-arms-loop-list
decreases-arms-loop-list l = length l.parser - l.here
