use Rattle.std.proofs.Common.{rules, ◌≡◌, ◌++◌, ◌∷◌, ℕ, List, length, ap, ◌∙◌, take, drop}
use Rattle.std.proofs.lemmas.Result.{on_ok_weaker}
use Rattle.text_grammar.specs.Written.{hex_text, uuid_text}
use Rattle.text_printer.proofs.Identifiers.{five, grouped}
use Rattle.text_printer.proofs.digits.append_uuid.Goals as goal

pub returns : goal.returns
returns c =
    let long : length c.args.id.now ≡ 16 = search rules in
    let os : List ℕ = c.as_bytes-octets.result.now in
    let h1 : c.append_hexes.new.text ≡ c.args.text.now ++ hex_text (take 4 os) = c.in_ok-append_hexes.ensures in
    let h2 : c.append_group.new.text ≡ c.append_hexes.new.text ++ 45 ∷ hex_text (take 2 (drop 4 os)) = c.in_ok-append_group.ensures in
    let h3 : c.append_group-2.new.text ≡ c.append_group.new.text ++ 45 ∷ hex_text (take 2 (drop 6 os)) = c.in_ok-append_group-2.ensures in
    let h4 : c.append_group-3.new.text ≡ c.append_group-2.new.text ++ 45 ∷ hex_text (take 2 (drop 8 os)) = c.in_ok-append_group-3.ensures in
    on_ok_weaker c.append_group-4.result
    (λ h5. five c.args.text.now c.append_hexes.new.text c.append_group.new.text c.append_group-2.new.text c.append_group-3.new.text c.append_group-4.new.text
    (hex_text (take 4 os)) (45 ∷ hex_text (take 2 (drop 4 os))) (45 ∷ hex_text (take 2 (drop 6 os))) (45 ∷ hex_text (take 2 (drop 8 os))) (45 ∷ hex_text (take 6 (drop 10 os)))
    h1 h2 h3 h4 h5
    ∙ ap (λ x. c.args.text.now ++ x) (grouped os (ap length c.as_bytes-octets.ensures ∙ long)) ∙ ap (λ y. c.args.text.now ++ uuid_text y) c.as_bytes-octets.ensures)
    c.append_group-4.ensures
