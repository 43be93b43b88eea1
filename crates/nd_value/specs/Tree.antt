-- Values as trees: what a node says itself, and its children.
-- `l` is a node's label, `ks` are its children, `t` and `u` trees, `ts` and `us` lists of them, `f` is a node as it stands in
-- a flat list.
use Rattle.std.specs.Prelude.{◌≡◌, ℕ, ◌+◌, ℤ, Bool, true, false, List, [], ◌∷◌, ◌++◌, Option, None, refl, length}
use Rattle.std.proofs.Common.{ap, ap₂, zero, suc, ◌∙◌, sym, append_assoc}
use Rattle.std.proofs.lemmas.List.{append-nil}
use Rattle.std.specs.Coded.{Coded, code_by, coded_list, coded×, coded_ℕ, coded_ℤ, coded_option, coded⊎}
use base.Stored.{coded_unit}
use Rattle.std.proofs.Common.{inl, inr, ◌⊎◌}

-- what a node says beside its children
pub data Label : Type 0 where
  Num : (value : ℤ) → Label
  Rec : Label
  Arr : (max offset : ℕ) → Label
  Text : (max : ℕ) (octets : List ℕ) → Label
  Union : (tag : ℤ) → Label
  Ptr : (cell : Option ℕ) → Label
  Context : (attributes : ℕ) (id : List ℕ) → Label
  Pipe : Label
  -- nothing that is known yet: no value of the program has it
  Unread : Label

mutual
  pub data Tree : Type 0 where
    node : Label → Trees → Tree

  pub data Trees : Type 0 where
    none : Trees
    more : Tree → Trees → Trees

-- how many trees
abbrev pub count : Trees → ℕ
count none = 0
count (more t ts) = suc (count ts)

-- how many nodes
abbrev pub node_count : Trees → ℕ
node_count none = 0
node_count (more (node l ks) ts) = suc (node_count ks + node_count ts)

-- a list of trees as `Trees`
abbrev pub trees : List Tree → Trees
trees [] = none
trees (t ∷ ts) = more t (trees ts)

-- and back
abbrev pub items : Trees → List Tree
items none = []
items (more t ts) = t ∷ items ts

-- a node as it stands in a flat list: its label, and how many children it has
abbrev pub Flat : Type 0
Flat = Label × ℕ

-- the nodes, depth first
abbrev pub flat : Trees → List Flat
flat none = []
flat (more (node l ks) ts) = (l, count ks) ∷ (flat ks ++ flat ts)

-- the first k trees, and the others
abbrev pub take_trees : ℕ → Trees → Trees
take_trees zero ts = none
take_trees (suc k) none = none
take_trees (suc k) (more t ts) = more t (take_trees k ts)

abbrev pub drop_trees : ℕ → Trees → Trees
drop_trees zero ts = ts
drop_trees (suc k) none = none
drop_trees (suc k) (more t ts) = drop_trees k ts

-- the trees whose nodes these are
abbrev pub unflat : List Flat → Trees
unflat [] = none
unflat (f ∷ fs) = more (node f.0 (take_trees f.1 (unflat fs))) (drop_trees f.1 (unflat fs))

-- the trees of two lists, one list after the other
abbrev pub joined : Trees → Trees → Trees
joined none us = us
joined (more t ts) us = more t (joined ts us)

take_joined : (ts us : Trees) → take_trees (count ts) (joined ts us) ≡ ts
take_joined none us = refl
take_joined (more t ts) us = ap (more t) (take_joined ts us)

drop_joined : (ts us : Trees) → drop_trees (count ts) (joined ts us) ≡ us
drop_joined none us = refl
drop_joined (more t ts) us = drop_joined ts us

-- the nodes of trees give them back, whatever follows
pub unflat-flat : (ts : Trees) (fs : List Flat) → unflat (flat ts ++ fs) ≡ joined ts (unflat fs)
unflat-flat none fs = refl
unflat-flat (more (node l ks) ts) fs =
    let e : unflat ((flat ks ++ flat ts) ++ fs) ≡ joined ks (joined ts (unflat fs)) =
    ap unflat (append_assoc (flat ks) (flat ts) fs) ∙ unflat-flat ks (flat ts ++ fs) ∙ ap (joined ks) (unflat-flat ts fs) in
    ap (λ us. more (node l (take_trees (count ks) us)) (drop_trees (count ks) us)) e
    ∙ ap₂ (λ us vs. more (node l us) vs) (take_joined ks (joined ts (unflat fs))) (drop_joined ks (joined ts (unflat fs)))

items-trees : (ts : List Tree) → items (trees ts) ≡ ts
items-trees [] = refl
items-trees (t ∷ ts) = ap (λ us. t ∷ us) (items-trees ts)

joined-none : (ts : Trees) → joined ts none ≡ ts
joined-none none = refl
joined-none (more t ts) = ap (more t) (joined-none ts)

pub unflat-of : (ts : Trees) → unflat (flat ts) ≡ ts
unflat-of ts = ap unflat (sym (append-nil (flat ts))) ∙ unflat-flat ts [] ∙ joined-none ts

pub trees-items : (ts : Trees) → trees (items ts) ≡ ts
trees-items none = refl
trees-items (more t ts) = ap (more t) (trees-items ts)

-- the code of a tree is its nodes
abbrev split : Label → ℤ ⊎ (Unit {0} ⊎ ((ℕ × ℕ) ⊎ ((ℕ × List ℕ) ⊎ (ℤ ⊎ (Option ℕ ⊎ ((ℕ × List ℕ) ⊎ (Unit {0} ⊎ Unit {0})))))))
split (Num z) = inl z
split Rec = inr (inl tt)
split (Arr max offset) = inr (inr (inl (max, offset)))
split (Text max octets) = inr (inr (inr (inl (max, octets))))
split (Union tag) = inr (inr (inr (inr (inl tag))))
split (Ptr cell) = inr (inr (inr (inr (inr (inl cell)))))
split (Context attributes id) = inr (inr (inr (inr (inr (inr (inl (attributes, id)))))))
split Pipe = inr (inr (inr (inr (inr (inr (inr (inl tt)))))))
split Unread = inr (inr (inr (inr (inr (inr (inr (inr tt)))))))

abbrev join : ℤ ⊎ (Unit {0} ⊎ ((ℕ × ℕ) ⊎ ((ℕ × List ℕ) ⊎ (ℤ ⊎ (Option ℕ ⊎ ((ℕ × List ℕ) ⊎ (Unit {0} ⊎ Unit {0}))))))) → Label
join (inl z) = Num z
join (inr (inl u)) = Rec
join (inr (inr (inl p))) = Arr p.0 p.1
join (inr (inr (inr (inl p)))) = Text p.0 p.1
join (inr (inr (inr (inr (inl tag))))) = Union tag
join (inr (inr (inr (inr (inr (inl cell)))))) = Ptr cell
join (inr (inr (inr (inr (inr (inr (inl p))))))) = Context p.0 p.1
join (inr (inr (inr (inr (inr (inr (inr (inl u)))))))) = Pipe
join (inr (inr (inr (inr (inr (inr (inr (inr u)))))))) = Unread

pub join-split : (l : Label) → join (split l) ≡ l
join-split (Num z) = refl
join-split Rec = refl
join-split (Arr max offset) = refl
join-split (Text max octets) = refl
join-split (Union tag) = refl
join-split (Ptr cell) = refl
join-split (Context attributes id) = refl
join-split Pipe = refl
join-split Unread = refl

abbrev pub label_code : Coded Label
label_code =
    code_by
    (ℤ ⊎ (Unit {0} ⊎ ((ℕ × ℕ) ⊎ ((ℕ × List ℕ) ⊎ (ℤ ⊎ (Option ℕ ⊎ ((ℕ × List ℕ) ⊎ (Unit {0} ⊎ Unit {0}))))))))
    (coded⊎ coded_ℤ
    (coded⊎ coded_unit
    (coded⊎ (coded× coded_ℕ coded_ℕ)
    (coded⊎ (coded× coded_ℕ (coded_list coded_ℕ))
    (coded⊎ coded_ℤ (coded⊎ (coded_option coded_ℕ) (coded⊎ (coded× coded_ℕ (coded_list coded_ℕ)) (coded⊎ coded_unit coded_unit))))))))
    split join join-split

-- the first of trees
abbrev head_tree : Trees → Tree
head_tree none = node Unread none
head_tree (more t ts) = t

abbrev pub tree_code : Coded Tree
tree_code =
    code_by (List Flat) (coded_list (coded× label_code coded_ℕ)) (λ t. flat (more t none)) (λ fs. head_tree (unflat fs))
    (λ t. ap head_tree (unflat-of (more t none)))

-- how many nodes there are in a list of trees
abbrev pub weight : List Tree → ℕ
weight ts = node_count (trees ts)

-- a cell: its type's number, and its value
pub record Referent : Type 0 where
  pub of : ℕ
  pub val : Tree

abbrev pub referent_code : Coded Referent
referent_code = code_by (ℕ × Tree) (coded× coded_ℕ tree_code) (λ c. (c.of, c.val)) (λ p. record { of = p.0; val = p.1 }) (λ _. refl)

-- the label of a pointer
abbrev pub is_pointer : Label → Bool
is_pointer (Ptr c) = true
is_pointer l = false

-- the cell that a pointer names; a null pointer names none
abbrev pub cell_in : Label → Option ℕ
cell_in (Ptr c) = c
cell_in l = None
