-- The text of an identifier, group by group.
use Rattle.std.proofs.Common.{◌≡◌, ℕ, List, [], ◌∷◌, ◌++◌, length, take, drop, refl, ap, ◌∙◌, append_assoc}
use Rattle.text_grammar.specs.Written.{hex_text, uuid_text}

-- groups of digits with a hyphen between each two
abbrev pub groups_text : List ℕ → List ℕ
groups_text id =
    hex_text (take 4 id)
    ++ (45 ∷ hex_text (take 2 (drop 4 id)) ++ (45 ∷ hex_text (take 2 (drop 6 id)) ++ (45 ∷ hex_text (take 2 (drop 8 id)) ++ 45 ∷ hex_text (take 6 (drop 10 id)))))

pub grouped : (id : List ℕ) → length id ≡ 16 → groups_text id ≡ uuid_text id
grouped (a ∷ b ∷ c ∷ d ∷ e ∷ f ∷ g ∷ h ∷ i ∷ j ∷ k ∷ l ∷ m ∷ n ∷ o ∷ p ∷ []) q = refl
grouped _ q = cc

-- five pieces after a text
pub five : (t t1 t2 t3 t4 t5 a b c d e : List ℕ) → t1 ≡ t ++ a → t2 ≡ t1 ++ b → t3 ≡ t2 ++ c → t4 ≡ t3 ++ d → t5 ≡ t4 ++ e → t5 ≡ t ++ (a ++ (b ++ (c ++ (d ++ e))))
five t t1 t2 t3 t4 t5 a b c d e h1 h2 h3 h4 h5 =
    h5 ∙ ap (λ x. x ++ e) h4 ∙ append_assoc t3 d e ∙ ap (λ x. x ++ (d ++ e)) h3 ∙ append_assoc t2 c (d ++ e) ∙ ap (λ x. x ++ (c ++ (d ++ e))) h2
    ∙ append_assoc t1 b (c ++ (d ++ e)) ∙ ap (λ x. x ++ (b ++ (c ++ (d ++ e)))) h1 ∙ append_assoc t a (b ++ (c ++ (d ++ e)))
