-- Nodes that are added one after the other.
use Rattle.std.proofs.Common.{◌≡◌, ℕ, zero, suc, ◌+◌, ◌<◌, ◌≤◌, refl, sym, ap, subst, ◌∙◌, List, [], ◌∷◌, ◌++◌, map, drop, length, get_or, append_assoc, append-nil, Option, Some, None, Vec}
use Rattle.std.specs.List.{flat_map}
use Rattle.std.specs.declared.alloc.Global.{Global}
use Rattle.std.proofs.lemmas.List.{drop_more, drop_all}
use Rattle.std.proofs.lemmas.List.Concat.{flat_map-append}
use Rattle.idl_constructs.specs.declared.nodes.Declared as declared
use Rattle.idl_constructs.specs.declared.nodes.Node as program_node
use Rattle.idl_constructs.specs.declared.nodes.Nodes.{Nodes}
use Rattle.idl_rule_definitions.specs.Nodes.{Declared, Node}
use Rattle.idl_constructs.specs.SeenNodes.{seen_declared, seen_node, seen_nodes, list_found, list_at, or_empty}
use Rattle.idl_constructs.specs.Growing.{Keeps, Pushes, Adds, AddsOf}

abbrev pub Lists : Type 0
Lists = List (Vec declared.Declared Global)

-- ## Lists

keeps_same : (a b : Lists) → b ≡ a → Keeps a b
keeps_same a b e = record { kept = λ n list h. subst (λ (l : Lists). list_found l n ≡ Some list) (sym e) h }

keeps_on : (a b c : Lists) → Keeps a b → Keeps b c → Keeps a c
keeps_on a b c h k = record { kept = λ n list e. k.kept n list (h.kept n list e) }

front : (xs ys : Lists) (n : ℕ) (list : List Declared) → list_found xs n ≡ Some list → list_found (xs ++ ys) n ≡ Some list
front [] ys n list h = cc
front (x ∷ xs) ys zero list h = h
front (x ∷ xs) ys (suc n) list h = front xs ys n list h

at_end : (xs : Lists) (v : Vec declared.Declared Global) → list_found (xs ++ v ∷ []) (length xs) ≡ Some (map seen_declared v.items)
at_end [] v = refl
at_end (x ∷ xs) v = at_end xs v

-- the list that was added
pub last_found : (xs ys : Lists) (v : Vec declared.Declared Global) (n : ℕ) → n ≡ length xs → ys ≡ xs ++ v ∷ [] → list_found ys n ≡ Some (map seen_declared v.items)
last_found xs ys v n at e = ap (λ (l : Lists). list_found l n) e ∙ (ap (λ k. list_found (xs ++ v ∷ []) k) at ∙ at_end xs v)

-- ## Parts

pub adds_none : (a : Nodes) → Adds a a []
adds_none a = record {
  lists = keeps_same a.lists.items a.lists.items refl;
  nodes = λ later k e. sym (append-nil (flat_map (seen_node later) a.items.items));
}

pub adds_both : (a b c : Nodes) (p q : List Node) → Adds a b p → Adds b c q → Adds a c (p ++ q)
adds_both a b c p q x y = record {
  lists = keeps_on a.lists.items b.lists.items c.lists.items x.lists y.lists;
  nodes = λ later k e.
      y.nodes later k e
      ∙ (ap (λ (l : List Node). l ++ q) (x.nodes later (keeps_on b.lists.items c.lists.items later y.lists k) e) ∙ append_assoc (flat_map (seen_node later) a.items.items) p q);
}

-- the same part by another name
pub adds_as : (a b : Nodes) (p q : List Node) → p ≡ q → Adds a b p → Adds a b q
adds_as a b p q e x = subst (λ (l : List Node). Adds a b l) e x

pub pushed_if : (a b : Nodes) (node : program_node.Node) (part : List Node) → ((later : Lists) → Keeps b.lists.items later → list_at later 0 ≡ [] → seen_node later node ≡ part)
    → Pushes a b node → Adds a b part
pushed_if a b node part see p = record {
  lists = keeps_same a.lists.items b.lists.items p.lists;
  nodes = λ later k e.
      ap (λ (l : List program_node.Node). flat_map (seen_node later) l) p.items
      ∙ (flat_map-append (seen_node later) a.items.items (node ∷ [])
      ∙ ap (λ (l : List Node). flat_map (seen_node later) a.items.items ++ l) (append-nil (seen_node later node) ∙ see later k e));
}

-- a node that is seen as the same whatever lists there are
pub pushed : (a b : Nodes) (node : program_node.Node) (part : List Node) → ((later : Lists) → seen_node later node ≡ part) → Pushes a b node → Adds a b part
pushed a b node part see p = pushed_if a b node part (λ later k e. see later) p

pub added_list : (a b : Nodes) (v : Vec declared.Declared Global) → b.items.items ≡ a.items.items → b.lists.items ≡ a.lists.items ++ v ∷ [] → Adds a b []
added_list a b v same e = record {
  lists = record { kept = λ n list h. subst (λ (l : Lists). list_found l n ≡ Some list) (sym e) (front a.lists.items (v ∷ []) n list h) };
  nodes = λ later k none. ap (λ (l : List program_node.Node). flat_map (seen_node later) l) same ∙ sym (append-nil (flat_map (seen_node later) a.items.items));
}

-- all that was added from nothing on
pub all_seen : (a n : Nodes) (part : List Node) → a.items.items ≡ [] → list_found a.lists.items 0 ≡ Some [] → Adds a n part → seen_nodes n ≡ part
all_seen a n part none empty x =
    x.nodes n.lists.items (keeps_same n.lists.items n.lists.items refl) (ap or_empty (x.lists.kept 0 [] empty))
    ∙ ap (λ (l : List program_node.Node). flat_map (seen_node n.lists.items) l ++ part) none

-- ## Parts of a list

-- a node that is seen by a list
pub pushed_of : (a b : Nodes) (node : program_node.Node) (number : ℕ) (part : List Declared → List Node) → ((later : Lists) → seen_node later node ≡ part (list_at later number))
    → Pushes a b node → AddsOf a b number part
pushed_of a b node number part see p =
    λ all h. pushed_if a b node (part all) (λ later k e. see later ∙ ap part (ap or_empty (k.kept number all (subst (λ (l : Lists). list_found l number ≡ Some all) (sym p.lists) h)))) p

pub of_all : (a b : Nodes) (number : ℕ) (p : List Node) → Adds a b p → AddsOf a b number (λ _. p)
of_all a b number p x = λ all h. x

pub of_none : (a : Nodes) (number : ℕ) → AddsOf a a number (λ _. [])
of_none a number = λ all h. adds_none a

pub of_both : (a b c : Nodes) (number : ℕ) (p q : List Declared → List Node) → AddsOf a b number p → AddsOf b c number q → AddsOf a c number (λ all. p all ++ q all)
of_both a b c number p q x y = λ all h. adds_both a b c (p all) (q all) (x all h) (y all ((x all h).lists.kept number all h))

-- ## Items one by one

module _ {X : Type 0} (part : List X → List Node) (one : X → List Node) (cons : (x : X) (more : List X) → part (x ∷ more) ≡ one x ++ part more) (xs : List X) where
  -- one more, and then what is left
  pub turn : (a b : Nodes) (i : ℕ) (x : X) → i < length xs → x ≡ get_or xs i x → Adds a b (one x) → (end : Nodes) → Adds b end (part (drop (i + 1) xs)) → Adds a end (part (drop i xs))
  turn a b i x below is here end rest =
      adds_as a end (one x ++ part (drop (i + 1) xs)) (part (drop i xs))
      (sym (ap part (drop_more xs i x below ∙ ap (λ y. y ∷ drop (i + 1) xs) (sym is)) ∙ cons x (drop (i + 1) xs)))
      (adds_both a b end (one x) (part (drop (i + 1) xs)) here rest)

  -- nothing is left
  pub over : (a : Nodes) (i : ℕ) → length xs ≤ i → part [] ≡ [] → Adds a a (part (drop i xs))
  over a i past none = adds_as a a [] (part (drop i xs)) (sym (ap part (drop_all i xs past) ∙ none)) (adds_none a)

module _ {X : Type 0} (part : List Declared → ℕ → List X → List Node) (one : List Declared → ℕ → X → List Node) (step : X → ℕ)
    (cons : (all : List Declared) (s : ℕ) (x : X) (more : List X) → part all s (x ∷ more) ≡ one all s x ++ part all (s + step x) more) (xs : List X) where
  -- one more of a list, and then what is left
  pub turn_of : (a b : Nodes) (number s next i : ℕ) (x : X) → i < length xs → x ≡ get_or xs i x → next ≡ s + step x → AddsOf a b number (λ all. one all s x) → (end : Nodes)
      → AddsOf b end number (λ all. part all next (drop (i + 1) xs)) → AddsOf a end number (λ all. part all s (drop i xs))
  turn_of a b number s next i x below is e here end rest = λ all h.
      adds_as a end (one all s x ++ part all next (drop (i + 1) xs)) (part all s (drop i xs))
      (sym (ap (λ l. part all s l) (drop_more xs i x below ∙ ap (λ y. y ∷ drop (i + 1) xs) (sym is))
      ∙ (cons all s x (drop (i + 1) xs) ∙ ap (λ n. one all s x ++ part all n (drop (i + 1) xs)) (sym e))))
      (of_both a b end number (λ l. one l s x) (λ l. part l next (drop (i + 1) xs)) here rest all h)

  pub over_of : (a : Nodes) (number s i : ℕ) → length xs ≤ i → ((all : List Declared) → part all s [] ≡ []) → AddsOf a a number (λ all. part all s (drop i xs))
  over_of a number s i past none = λ all h. adds_as a a [] (part all s (drop i xs)) (sym (ap (λ l. part all s l) (drop_all i xs past) ∙ none all)) (adds_none a)
