use Rattle.std.proofs.Common.{◌∙◌, ap, [], ◌∷◌, ◌++◌, codes}
use Rattle.std.proofs.lemmas.Int.{to_z-of_z}
use Rattle.std.proofs.Common.{rules}
use mir.Val.{SFits}
use mir.Syntax.{w128}
use Rattle.std.specs.Fmt.{signed_decimal}
use Rattle.idl_listing.specs.Listing.{behind, arm_name, arm_type}
use Rattle.idl_listing.proofs.WordByWord.{first_word, then_words, then_end}
use Rattle.idl_listing.proofs.type_lines.arm_line.Goals as goal

pub returns : goal.returns
returns c =
    let t = c.args.text.now in
    let a = c.args.arm.now in
    let first = codes "arm" in
    let base = t ++ first in
    let label = signed_decimal a.label in
    let e0 = c.in_ok-append.ensures.ok ∙ first_word t first in
    let fits : SFits w128 a.label = search rules in
    let e1 =
    c.in_ok-signed.ensures ∙ ap (λ z. c.append.new.self ++ behind (signed_decimal z ∷ [])) (to_z-of_z w128 _ fits)
    ∙ then_words base _ [] (label ∷ []) e0 in
    let e2 = c.in_ok-word.ensures ∙ ap (λ w. c.signed.new.text ++ behind (w ∷ [])) c.arm_name.ensures ∙ then_words base _ (label ∷ []) (arm_name a.name ∷ []) e1 in
    let e3 = c.in_ok-arm_type.ensures ∙ then_words base _ (label ∷ arm_name a.name ∷ []) (arm_type a.of ∷ []) e2 in
    c.in_ok-append-2.ensures.ok ∙ then_end t first _ (label ∷ arm_name a.name ∷ arm_type a.of ∷ []) e3
