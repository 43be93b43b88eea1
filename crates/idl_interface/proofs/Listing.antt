-- Members and parameters by their names.
use Rattle.std.proofs.Common.{◌≡◌, ℕ, ◌+◌, Bool, true, false, cond, List, [], ◌∷◌, ◌++◌, length, Option, Some, None, option_map, is_some, refl, sym, ap, ◌∙◌, arith, true≢false}
use Rattle.std.specs.Str.{bytes_eq}
use Rattle.std.proofs.lemmas.Slice.Eq.{bytes_eq-Decides}
use Rattle.idl_scope.specs.Known.{found, put}
use Rattle.idl_scope.proofs.Tables.{put_new}
use Rattle.idl_rule_definitions.specs.Nodes.{Declared}
use Rattle.idl_rule_definitions.specs.VariableRules.{Listed, listed_from}
use Rattle.idl_interface.specs.Made.{AreListed}

abbrev place : Option Listed → Option ℕ
place l = option_map (λ d. d.index) l

-- one more
abbrev or_last : Option ℕ → Bool → ℕ → Option ℕ
or_last (Some n) b i = Some n
or_last None b i = cond b (Some i) None

listed_more : (k : ℕ) (list : List Declared) (d : Declared) (name : List ℕ)
    → place (listed_from k (list ++ d ∷ []) name) ≡ or_last (place (listed_from k list name)) (bytes_eq name d.declarator.name.octets) (k + length list)
listed_more k [] d name = by (bytes_eq name d.declarator.name.octets)
  where
    by : (b : Bool) → place (elim b [ true ↦ Some (record { index = k; it = d }) | false ↦ None ]) ≡ cond b (Some (k + 0)) None
    by true = ap Some (omega arith)
    by false = refl
listed_more k (e ∷ es) d name = by (bytes_eq name e.declarator.name.octets) (listed_more (k + 1) es d name)
  where
    by : (b : Bool) → place (listed_from (k + 1) (es ++ d ∷ []) name) ≡ or_last (place (listed_from (k + 1) es name)) (bytes_eq name d.declarator.name.octets) (k + 1 + length es)
        → place (elim b [ true ↦ Some (record { index = k; it = e }) | false ↦ listed_from (k + 1) (es ++ d ∷ []) name ])
        ≡ or_last (place (elim b [ true ↦ Some (record { index = k; it = e }) | false ↦ listed_from (k + 1) es name ])) (bytes_eq name d.declarator.name.octets) (k + length (e ∷ es))
    by true h = refl
    by false h =
        let n : k + 1 + length es ≡ k + length (e ∷ es) = omega arith in
        h ∙ ap (or_last (place (listed_from (k + 1) es name)) (bytes_eq name d.declarator.name.octets)) n

listed_last : (list : List Declared) (d : Declared) (name : List ℕ)
    → place (listed_from 0 (list ++ d ∷ []) name) ≡ or_last (place (listed_from 0 list name)) (bytes_eq name d.declarator.name.octets) (length list)
listed_last list d name =
    let n : 0 + length list ≡ length list = omega arith in
    listed_more 0 list d name ∙ ap (or_last (place (listed_from 0 list name)) (bytes_eq name d.declarator.name.octets)) n

found_more : (es : List (List ℕ × ℕ)) (name : List ℕ) (key : List ℕ) (i : ℕ) → found name (es ++ (key, i) ∷ []) ≡ or_last (found name es) (bytes_eq name key) i
found_more [] name key i = refl
found_more (e ∷ es) name key i = by (bytes_eq name e.0) (found_more es name key i)
  where
    by : (b : Bool) → found name (es ++ (key, i) ∷ []) ≡ or_last (found name es) (bytes_eq name key) i
        → cond b (Some e.1) (found name (es ++ (key, i) ∷ [])) ≡ or_last (cond b (Some e.1) (found name es)) (bytes_eq name key) i
    by true h = refl
    by false h = h

-- a name that is not there goes last
pub listed_new : (list : List Declared) (d : Declared) (t : List (List ℕ × ℕ)) → AreListed list t → found d.declarator.name.octets t ≡ None
    → AreListed (list ++ d ∷ []) (put t d.declarator.name.octets (length list))
listed_new list d t h none = record {
  index = λ name. ap (found name) (put_new t d.declarator.name.octets (length list) none)
      ∙ (found_more t name d.declarator.name.octets (length list)
      ∙ (ap (λ o. or_last o (bytes_eq name d.declarator.name.octets) (length list)) (h.index name) ∙ sym (listed_last list d name)));
}

kept : (o : Option ℕ) (b : Bool) (i : ℕ) → (b ≡ true → o ≡ None → false ≡ true) → o ≡ or_last o b i
kept (Some n) b i h = refl
kept None true i h = absurd (true≢false (sym (h refl refl)))
kept None false i h = refl

-- a name that is there keeps its index
pub listed_old : (list : List Declared) (d : Declared) (t : List (List ℕ × ℕ)) → AreListed list t → is_some (found d.declarator.name.octets t) ≡ true → AreListed (list ++ d ∷ []) t
listed_old list d t h some = record {
  index = λ name. kept (found name t) (bytes_eq name d.declarator.name.octets) (length list)
      (λ same none. sym (ap is_some (sym (ap (λ n. found n t) ((bytes_eq-Decides name d.declarator.name.octets).0 same)) ∙ none)) ∙ some)
      ∙ (ap (λ o. or_last o (bytes_eq name d.declarator.name.octets) (length list)) (h.index name) ∙ sym (listed_last list d name));
}
