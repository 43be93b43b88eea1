-- The names of lists, one after another.
use Rattle.std.proofs.Common.{◌≡◌, ℕ, zero, suc, ◌+◌, ◌<◌, ◌≤◌, Bool, true, false, cond, ◌||◌, List, [], ◌∷◌, ◌++◌, map, take, drop, length, Option, Some, None, option_map, is_some, slice_get, refl}
use Rattle.std.proofs.Common.{sym, ap, ◌∙◌, arith, Vec}
use Rattle.std.specs.List.{list_any}
use Rattle.std.specs.Str.{bytes_eq}
use Rattle.std.proofs.lemmas.Option.{none-some, same_Some}
use Rattle.std.proofs.lemmas.List.{map-append}
use Rattle.std.proofs.lemmas.List.Folds.{list_any-append}
use Rattle.std.proofs.lemmas.Slice.Eq.{bytes_eq-Decides}
use Rattle.idl_grammar.specs.declared.attributes.Variable.{Variable}
use Rattle.idl_grammar.specs.Tree.{Attribute}
use Rattle.idl_scope.specs.Known.{found}
use Rattle.idl_constructs.specs.declared.nodes.Declared as declared
use Rattle.idl_rule_definitions.specs.Attributes.{variable_said}
use Rattle.idl_rule_definitions.specs.Nodes.{Declared}
use Rattle.idl_declared_types.specs.SeenNames.{and_name}
use Rattle.idl_constructs.specs.SeenNodes.{seen_declared}
use Rattle.idl_rule_definitions.specs.VariableRules.{Listed, listed_from, variable_if, variables}
use Rattle.idl_typing.specs.Lookups.{AreTables}
use Rattle.nd_lemmas.proofs.Lists.{take_next}

last_number : Option ℕ → Bool → ℕ → Option ℕ
last_number (Some n) b m = Some n
last_number None b m = cond b (Some m) None

found_push : (es : List (List ℕ × ℕ)) (x name : List ℕ) (n : ℕ) → found x (es ++ (name, n) ∷ []) ≡ last_number (found x es) (bytes_eq x name) n
unfolding last_number
found_push [] x name n = refl
found_push (e ∷ es) x name n = by (bytes_eq x e.0) (found_push es x name n)
  where
    by : (b : Bool) → found x (es ++ (name, n) ∷ []) ≡ last_number (found x es) (bytes_eq x name) n
        → cond b (Some e.1) (found x (es ++ (name, n) ∷ [])) ≡ last_number (cond b (Some e.1) (found x es)) (bytes_eq x name) n
    by true h = refl
    by false h = h

and_found : (es : List (List ℕ × ℕ)) (x name : List ℕ) (n : ℕ) → found x (and_name es name n) ≡ last_number (found x es) (bytes_eq x name) n
unfolding last_number
and_found es x name n = by (found name es) refl
  where
    there : (k : ℕ) → found name es ≡ Some k → (o : Option ℕ) → found x es ≡ o → (b : Bool) → bytes_eq x name ≡ b → o ≡ last_number o b n
    there k h (Some t) p b e = refl
    there k h None p false e = refl
    there k h None p true e = absurd (none-some k (sym p ∙ ap (λ y. found y es) ((bytes_eq-Decides x name).0 e) ∙ h))

    by : (o : Option ℕ) → found name es ≡ o → found x (and_name es name n) ≡ last_number (found x es) (bytes_eq x name) n
    by None h = ap (λ o. found x (elim (is_some o) [ true ↦ es | false ↦ es ++ (name, n) ∷ [] ])) h ∙ found_push es x name n
    by (Some k) h = ap (λ o. found x (elim (is_some o) [ true ↦ es | false ↦ es ++ (name, n) ∷ [] ])) h ∙ there k h (found x es) refl (bytes_eq x name) refl

abbrev pub index_of : Option Listed → Option ℕ
index_of o = option_map (λ (l : Listed). l.index) o

listed_push : (ds : List Declared) (d : Declared) (k : ℕ) (x : List ℕ)
    → index_of (listed_from k (ds ++ d ∷ []) x) ≡ last_number (index_of (listed_from k ds x)) (bytes_eq x d.declarator.name.octets) (k + length ds)
unfolding last_number
listed_push [] d k x = by (bytes_eq x d.declarator.name.octets)
  where
    by : (b : Bool) → index_of (elim b [ true ↦ Some (record { index = k; it = d }) | false ↦ None ]) ≡ cond b (Some (k + 0)) None
    by true = ap Some (omega arith)
    by false = refl
listed_push (e ∷ ds) d k x = by (bytes_eq x e.declarator.name.octets) (listed_push ds d (k + 1) x)
  where
    by : (b : Bool)
        → index_of (listed_from (k + 1) (ds ++ d ∷ []) x) ≡ last_number (index_of (listed_from (k + 1) ds x)) (bytes_eq x d.declarator.name.octets) (k + 1 + length ds)
        → index_of (elim b [ true ↦ Some (record { index = k; it = e }) | false ↦ listed_from (k + 1) (ds ++ d ∷ []) x ])
        ≡ last_number (index_of (elim b [ true ↦ Some (record { index = k; it = e }) | false ↦ listed_from (k + 1) ds x ])) (bytes_eq x d.declarator.name.octets) (k + suc (length ds))
    by true h = refl
    by false h = let m : k + 1 + length ds ≡ k + suc (length ds) = omega arith in h ∙ ap (last_number (index_of (listed_from (k + 1) ds x)) (bytes_eq x d.declarator.name.octets)) m

length_seen : {A B : Type 0} (f : A → B) (xs : List A) (i : ℕ) → i ≤ length xs → length (map f (take i xs)) ≡ i
length_seen f xs zero h = refl
length_seen f [] (suc i) h = absurd (omega arith)
length_seen f (x ∷ xs) (suc i) h = ap suc (length_seen f xs i (omega arith))

-- one more name of a list
pub table_next : (ds : List declared.Declared) (i n : ℕ) (d : declared.Declared) (old new : List (List ℕ × ℕ)) → slice_get ds i ≡ Some d → n ≡ i → i < length ds
    → ((x : List ℕ) → found x old ≡ index_of (listed_from 0 (map seen_declared (take i ds)) x))
    → new ≡ and_name old d.declarator.now.name.octets n
    → (x : List ℕ) → found x new ≡ index_of (listed_from 0 (map seen_declared (take (i + 1) ds)) x)
table_next ds i n d old new here number within h made x =
    let long : n ≡ 0 + length (map seen_declared (take i ds)) = number ∙ sized in
    ap (found x) made ∙ and_found old x d.declarator.now.name.octets n ∙ ap (λ o. last_number o (bytes_eq x d.declarator.now.name.octets) n) (h x)
    ∙ ap (last_number (index_of (listed_from 0 (map seen_declared (take i ds)) x)) (bytes_eq x d.declarator.now.name.octets)) long
    ∙ sym (ap (λ l. index_of (listed_from 0 l x)) (ap (map seen_declared) (take_next ds i d here) ∙ map-append seen_declared (take i ds) (d ∷ []))
    ∙ listed_push (map seen_declared (take i ds)) (seen_declared d) 0 x)
  where
    sized : i ≡ 0 + length (map seen_declared (take i ds))
    sized = let e = length_seen seen_declared ds i (omega arith) in omega (arith, e)

-- one more list
pub tables_push : {A : Type 0} (ts : List (List (List ℕ × ℕ))) (ls : List (Vec declared.Declared A)) (t : List (List ℕ × ℕ)) (l : Vec declared.Declared A) → length ts ≡ length ls → AreTables ts ls
    → ((x : List ℕ) → found x t ≡ index_of (listed_from 0 (map seen_declared l.items) x)) → AreTables (ts ++ t ∷ []) (ls ++ l ∷ [])
tables_push [] [] t l same h is zero x = is x
tables_push [] [] t l same h is (suc n) x = refl
tables_push [] (k ∷ ls) t l same h is n x = absurd (omega arith)
tables_push (u ∷ ts) [] t l same h is n x = absurd (omega arith)
tables_push (u ∷ ts) (k ∷ ls) t l same h is zero x = h zero x
tables_push (u ∷ ts) (k ∷ ls) t l same h is (suc n) x = tables_push ts ls t l (omega arith) (λ m y. h (suc m) y) is n x

-- ## Variables of attributes

pub variables_next : {B : Type 0} (f : Variable → Bool) (words : List (List ℕ)) (seen : B → Attribute) (xs : List B) (i : ℕ) (x : B) → slice_get xs i ≡ Some x
    → list_any f (variables words (map seen (drop i xs))) ≡ (list_any f (variable_if words (variable_said (seen x).kind)) || list_any f (variables words (map seen (drop (suc i) xs))))
variables_next f words seen [] i x h = absurd (none-some x h)
variables_next f words seen (y ∷ ys) zero x h =
    let e = same_Some y x h in
    list_any-append f (variable_if words (variable_said (seen y).kind)) (variables words (map seen ys))
    ∙ ap (λ z. list_any f (variable_if words (variable_said (seen z).kind)) || list_any f (variables words (map seen ys))) e
variables_next f words seen (y ∷ ys) (suc i) x h = variables_next f words seen ys i x h
