-- The lines of items, put together.
-- `t` and `u` are texts, `a`, `b`, .. what is added, `x` is an item.
use Rattle.std.proofs.Common.{◌≡◌, ℕ, zero, suc, List, [], ◌∷◌, ◌++◌, codes, refl, ap, ap₂, sym, ◌∙◌, append_assoc, append-nil, drop, length, take, ◌≤◌, ◌+◌, Some}
use Rattle.std.specs.List.{slice_get}
use Rattle.nd_value.specs.declared.value.Graph.{Graph}
use Rattle.nd_value.specs.declared.item.Home.{Home}
use Rattle.nd_value.specs.declared.item.Item.{Item}
use Rattle.nd_value.specs.declared.item.ItemKind.{ItemKind}
use Rattle.nd_value.specs.declared.item.ItemKind.TheVariants as kind
use Rattle.nd_value.specs.Setting.{Setting}
use Rattle.nd_lemmas.proofs.Lists.{drop_next as drop-get, drop_past as drop-past}
use Rattle.text_grammar.specs.Paths.{home_name, node_paths, home_types, home_value}
use Rattle.nd_value.specs.Tree.{more, none}
use Rattle.ndr_explain.specs.Explained.{explanation, explanation_over, gap_shown, home_paths, item_head, item_rest, line_over, node_shown, path_in, rest_over}
use Rattle.ndr_explain.specs.Cursors.{IsNoGap}
use Rattle.ndr_explain.proofs.Walks.{path_here}

pub two : (t t1 t2 a b : List ℕ) → t1 ≡ t ++ a → t2 ≡ t1 ++ b → t2 ≡ t ++ (a ++ b)
two t t1 t2 a b e f = f ∙ ap (λ x. x ++ b) e ∙ append_assoc t a b

pub three : (t t1 t2 t3 a b c : List ℕ) → t1 ≡ t ++ a → t2 ≡ t1 ++ b → t3 ≡ t2 ++ c → t3 ≡ t ++ (a ++ (b ++ c))
three t t1 t2 t3 a b c e f g = two t t1 t3 a (b ++ c) e (two t1 t2 t3 b c f g)

-- the home's own value has the home's name
pub own_path : (w : Setting) (g : Graph) (h : Home) (n : ℕ) → n ≡ 0 → path_in (home_paths w g h) n ≡ home_name w h
own_path w g h n e =
    ap (path_in (home_paths w g h)) e
    ∙ path_here 0 (home_name w h) (node_paths w.table (home_types w g h) (home_name w h ∷ []) 0 (more (home_value g h) none))

pub other_rest : (w : Setting) (g : Graph) (octets : List ℕ) (x : Item) (k : ItemKind) → IsNoGap k → rest_over w g octets k x ≡ codes " " ++ (node_shown w g x ++ codes "\n")
other_rest w g octets x kind.Gap h = absurd h
other_rest w g octets x _ h = refl

-- one line more
pub line_next : (w : Setting) (g : Graph) (octets : List ℕ) (xs : List Item) (i : ℕ) (x : Item) (t t1 : List ℕ) → slice_get xs i ≡ Some x → t1 ≡ t ++ line_over w g octets x
    → t ++ explanation_over w g octets (drop i xs) ≡ explanation_over w g octets xs → t1 ++ explanation_over w g octets (drop (i + 1) xs) ≡ explanation_over w g octets xs
line_next w g octets xs i x t t1 e f h =
    ap (λ u. u ++ explanation_over w g octets (drop (i + 1) xs)) f ∙ append_assoc t (line_over w g octets x) (explanation_over w g octets (drop (i + 1) xs))
    ∙ ap (λ ys. t ++ explanation_over w g octets ys) (sym (drop-get xs i x e)) ∙ h

-- no line is left
pub lines_over : (w : Setting) (g : Graph) (octets : List ℕ) (xs : List Item) (i : ℕ) (t : List ℕ) → length xs ≤ i
    → t ++ explanation_over w g octets (drop i xs) ≡ explanation_over w g octets xs → t ≡ explanation_over w g octets xs
lines_over w g octets xs i t l h = sym (append-nil t) ∙ ap (λ ys. t ++ explanation_over w g octets ys) (sym (drop-past xs i l)) ∙ h

-- ## Gaps

none_there : (at len : ℕ) → ◌≡◌ {A = List ℕ} (take len (drop at [])) []
none_there zero zero = refl
none_there zero (suc len) = refl
none_there (suc at) zero = refl
none_there (suc at) (suc len) = refl

bare_line : (w : Setting) (g : Graph) (x : Item) (k : ItemKind) → rest_over w g [] k x ≡ item_rest w g k x
bare_line w g x kind.Gap = ap (λ os. gap_shown os ++ codes "\n") (none_there x.at x.len)
bare_line w g x _ = refl

-- where no octets are given, no gap shows any
pub over_none : (w : Setting) (g : Graph) (xs : List Item) → explanation_over w g [] xs ≡ explanation w g xs
over_none w g [] = refl
over_none w g (x ∷ xs) = ap₂ (λ r t. (item_head x ++ r) ++ t) (bare_line w g x x.kind) (over_none w g xs)
