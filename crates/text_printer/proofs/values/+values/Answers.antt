use Rattle.std.proofs.Common.{◌≡◌, ◌++◌, ◌+◌, List, ℕ, codes, drop, ap, ◌∙◌, append_assoc, arith}
use Rattle.nd_value.specs.Seen.{tree_of}
use Rattle.text_grammar.proofs.Sizes.{smaller_at}
use Rattle.text_printer.specs.Texts.{separator, text_of}
use Rattle.text_printer.proofs.Listing.{comes_on, comes_all, elements_text, element_next, members_text, member_piece, member_next, members_end}
use Rattle.text_printer.proofs.values.+values.Goals as goal

pub append_elements-append_value-requires : goal.append_elements-append_value-requires
append_elements-append_value-requires t c = (omega (arith, smaller_at c.args.vals.now c.loop-at.at (tree_of c.in-Some.val.now) c.in-Some.ensures.some, c.decreases), tt)

pub append_elements-loop-at-preserved : goal.append_elements-loop-at-preserved
append_elements-loop-at-preserved t c =
    let table = c.args.types.now in
    let elem = c.args.elem.0 in
    let vs = c.args.vals.now in
    let i = c.loop-at.at in
    let v = tree_of c.in-Some.val.now in
    let x = text_of table elem v in
    comes_on c.loop-at.text c.append_value.new.text (separator i ++ x) (elements_text table elem i (drop i vs)) (elements_text table elem (i + 1) (drop (i + 1) vs)) c.args.text.now
    (elements_text table elem 0 vs) c.loop-at.invariant (element_next table elem vs i v c.in-Some.ensures.some)
    (c.in_ok-append_value.ensures ∙ ap (λ y. y ++ x) c.in_ok-append_separator.ensures ∙ append_assoc c.loop-at.text (separator i) x)

pub append_members-returns-in_default-get : goal.append_members-returns-in_default-get
append_members-returns-in_default-get t c =
    let table = c.args.types.now in
    let fs = c.args.members.now in
    let vs = c.args.vals.now in
    let i = c.loop-at.at in
    comes_all c.loop-at.text (members_text table i (drop i fs) (drop i vs)) c.args.text.now (members_text table 0 fs vs) c.loop-at.invariant
    (members_end table fs vs i c.in_default-get.ensures.none)

pub append_members-append_value-requires : goal.append_members-append_value-requires
append_members-append_value-requires t c =
    (omega (arith, smaller_at c.args.vals.now c.loop-at.at (tree_of c.in-Some-get.val.now) c.in-Some-get.ensures.some, c.decreases), tt)

pub append_members-loop-at-preserved : goal.append_members-loop-at-preserved
append_members-loop-at-preserved t c =
    let table = c.args.types.now in
    let fs = c.args.members.now in
    let vs = c.args.vals.now in
    let i = c.loop-at.at in
    let f = c.in-Some.member.now in
    let v = tree_of c.in-Some-get.val.now in
    let x = text_of table f.of.0 v in
    let name = separator i ++ (f.name ++ codes " = ") in
    let named : c.append_name.new.text ≡ c.loop-at.text ++ name =
    c.in_ok-append_name.ensures ∙ ap (λ (n : List ℕ). c.loop-at.text ++ (separator i ++ (n ++ codes " = "))) c.as_slice.ensures.same in
    comes_on c.loop-at.text c.append_value.new.text (member_piece table i f v) (members_text table i (drop i fs) (drop i vs)) (members_text table (i + 1) (drop (i + 1) fs) (drop (i + 1) vs))
    c.args.text.now (members_text table 0 fs vs) c.loop-at.invariant (member_next table fs vs i f v c.in-Some.ensures.some c.in-Some-get.ensures.some)
    (c.in_ok-append_value.ensures ∙ ap (λ y. y ++ x) named ∙ append_assoc c.loop-at.text name x)
