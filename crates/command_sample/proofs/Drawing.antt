-- The nodes as they are drawn, one after the other: what is drawn and what is left are all nodes.
use Rattle.std.proofs.Common.{◌≡◌, ℕ, suc, ◌+◌, List, [], ◌∷◌, ◌++◌, ap, ap₂, sym, ◌∙◌, subst, append_assoc, arith}
use Rattle.std.proofs.lemmas.List.{append-nil}
use Rattle.nd_value.specs.Tree.{Referent}
use Rattle.command_sample.specs.Nodes.{next_state, sample_node, sample_nodes}

-- at a place, from 0, after a state
abbrev pub Drawn : ℕ → ℕ → ℕ → ℕ → List Referent → Type 0
Drawn n seed at x cells = (k : ℕ) → at + k ≡ n → cells ++ sample_nodes n (at + 1) k x ≡ sample_nodes n 1 n seed

pub turn : (n seed at x : ℕ) (cells : List Referent) → Drawn n seed at x cells
    → Drawn n seed (at + 1) (next_state (next_state x)) (cells ++ sample_node n (at + 1) (next_state x) (next_state (next_state x)) ∷ [])
turn n seed at x cells h k e =
    append_assoc cells (sample_node n (at + 1) (next_state x) (next_state (next_state x)) ∷ []) (sample_nodes n (at + 1 + 1) k (next_state (next_state x)))
    ∙ h (suc k) (omega (arith, e))

pub over : (n seed x : ℕ) (cells : List Referent) → Drawn n seed n x cells → cells ≡ sample_nodes n 1 n seed
over n seed x cells h = sym (append-nil cells) ∙ h 0 (omega arith)

-- one node more is drawn and pushed
pub pushed : (n seed at x y z : ℕ) (cells now : List Referent) (cell : Referent) → Drawn n seed at x cells → y ≡ next_state x → z ≡ next_state y
    → cell ≡ sample_node n (at + 1) y z → now ≡ cells ++ cell ∷ [] → Drawn n seed (at + 1) z now
pushed n seed at x y z cells now cell h first second is new =
    let first_node : cell ≡ sample_node n (at + 1) (next_state x) (next_state (next_state x)) =
    is ∙ ap₂ (λ a b. sample_node n (at + 1) a b) first (second ∙ ap next_state first) in
    subst (λ (ys : List Referent). Drawn n seed (at + 1) z ys) (sym (new ∙ ap (λ (v : Referent). cells ++ v ∷ []) first_node))
    (subst (λ b. Drawn n seed (at + 1) b (cells ++ sample_node n (at + 1) (next_state x) (next_state (next_state x)) ∷ [])) (sym (second ∙ ap next_state first)) (turn n seed at x cells h))
