-- The nodes of several values are added, one after the other.
-- `a`, `b`, `c` are lists of nodes one after the other, `ss` are numbers of nodes, `ts` and `us` trees.
use Rattle.std.proofs.Common.{◌≡◌, ℕ, suc, ◌+◌, ◌<◌, List, [], ◌∷◌, ◌++◌, map, length, take, drop, refl, ap, ap₂, sym, ◌∙◌, append_assoc, subst}
use Rattle.std.proofs.lemmas.List.{append-nil, map-append, take_at}
use Rattle.nd_value.specs.declared.value.Graph.{Graph}
use Rattle.nd_value.specs.Setting.{root_at, cell_at, or_unread, cell_tree}
use Rattle.nd_value.specs.Tree.{Tree, Trees, Referent, Flat, flat, more, none, trees}
use Rattle.nd_flat.proofs.Forests.{flat-more}
use Rattle.nd_lemmas.proofs.Lists.{item_at, take_next}
use Rattle.library_nodes.specs.declared.node.Node.{Node}
use Rattle.library_nodes.specs.declared.nodes.NodeList.{NodeList}
use Rattle.library_nodes.specs.declared.nodes.Nodes.{Nodes}
use Rattle.library_nodes.specs.Low.{low_flat, low_flats}
use Rattle.library_nodes.specs.Said.{flats_said, SaysFirst}
use Rattle.library_nodes.specs.Gathered.{AreGathered, AreThere}
use Rattle.library_nodes.specs.Listed.{ArePaired, Begins, AreSaid, AreLaid, IsListOf, home_trees}
use Rattle.library_nodes.specs.Laying.{Grows, Adds, BeginsEver, IsFront, AddsHomes}
use Rattle.library_nodes.proofs.Adding.{said_append, grows_none, grows_then}
use Rattle.library_nodes.proofs.Gathered.{gathered_append, after_whole, values_whole, there_append, there_later, longer_list}

-- ## Pairs

paired_as : (P Q : ℕ → Tree → Type 0) → ((s : ℕ) (t : Tree) → P s t → Q s t) → (ss : List ℕ) (ts : List Tree) → ArePaired P ss ts → ArePaired Q ss ts
paired_as P Q f [] [] h = h
paired_as P Q f [] (t ∷ ts) h = h
paired_as P Q f (s ∷ ss) [] h = h
paired_as P Q f (s ∷ ss) (t ∷ ts) h = (f s t h.0, paired_as P Q f ss ts h.1)

paired_append : (P : ℕ → Tree → Type 0) (ss rs : List ℕ) (ts us : List Tree) → ArePaired P ss ts → ArePaired P rs us → ArePaired P (ss ++ rs) (ts ++ us)
paired_append P [] rs [] us h k = k
paired_append P [] rs (t ∷ ts) us h k = absurd h
paired_append P (s ∷ ss) rs [] us h k = absurd h
paired_append P (s ∷ ss) rs (t ∷ ts) us h k = (h.0, paired_append P ss rs ts us h.1 k)

-- ## Places after those before them

laid_as : (P Q : ℕ → List Tree → Type 0) → ((s : ℕ) (es : List Tree) → P s es → Q s es) → (es : List Tree) (ss : List ℕ) (ts : List Tree) → AreLaid P es ss ts → AreLaid Q es ss ts
laid_as P Q f es [] [] h = h
laid_as P Q f es [] (t ∷ ts) h = h
laid_as P Q f es (s ∷ ss) [] h = h
laid_as P Q f es (s ∷ ss) (t ∷ ts) h = (f s es h.0, laid_as P Q f (es ++ t ∷ []) ss ts h.1)

-- the same after others that come before all
laid_after : (P Q : ℕ → List Tree → Type 0) (us : List Tree) → ((s : ℕ) (es : List Tree) → P s es → Q s (us ++ es)) → (es : List Tree) (ss : List ℕ) (ts : List Tree)
    → AreLaid P es ss ts → AreLaid Q (us ++ es) ss ts
laid_after P Q us f es [] [] h = h
laid_after P Q us f es [] (t ∷ ts) h = h
laid_after P Q us f es (s ∷ ss) [] h = h
laid_after P Q us f es (s ∷ ss) (t ∷ ts) h =
    (f s es h.0, subst (λ (vs : List Tree). AreLaid Q vs ss ts) (sym (append_assoc us es (t ∷ []))) (laid_after P Q us f (es ++ t ∷ []) ss ts h.1))

laid_append : (P : ℕ → List Tree → Type 0) (es : List Tree) (ss rs : List ℕ) (ts us : List Tree) → AreLaid P es ss ts → AreLaid P (es ++ ts) rs us
    → AreLaid P es (ss ++ rs) (ts ++ us)
laid_append P es [] rs [] us h k = subst (λ (vs : List Tree). AreLaid P vs rs us) (append-nil es) k
laid_append P es [] rs (t ∷ ts) us h k = absurd h
laid_append P es (s ∷ ss) rs [] us h k = absurd h
laid_append P es (s ∷ ss) rs (t ∷ ts) us h k =
    (h.0, laid_append P (es ++ t ∷ []) ss rs ts us h.1 (subst (λ (vs : List Tree). AreLaid P vs rs us) (sym (append_assoc es (t ∷ []) ts)) k))

-- ## What several values say

flat_both : (ts us : List Tree) → flat (trees (ts ++ us)) ≡ flat (trees ts) ++ flat (trees us)
flat_both [] us = refl
flat_both (t ∷ ts) us =
    flat-more t (trees (ts ++ us))
    ∙ ap (λ (fs : List Flat). flat (more t none) ++ fs) (flat_both ts us)
    ∙ sym (append_assoc (flat (more t none)) (flat (trees ts)) (flat (trees us)))
    ∙ ap (λ (fs : List Flat). fs ++ flat (trees us)) (sym (flat-more t (trees ts)))

said_both : (p q : List ℕ) (ms ns : List Node) (ts us : List Tree) → flats_said p q ms ≡ low_flats (flat (trees ts)) → flats_said p q ns ≡ low_flats (flat (trees us))
    → flats_said p q (ms ++ ns) ≡ low_flats (flat (trees (ts ++ us)))
said_both p q ms ns ts us first second =
    said_append p q ms ns
    ∙ ap₂ (λ x y. x ++ y) first second
    ∙ sym (map-append low_flat (flat (trees ts)) (flat (trees us)))
    ∙ ap (λ (fs : List Flat). low_flats fs) (sym (flat_both ts us))

-- what nodes say in any case they say after more is added too
said_later : (a b : NodeList) → Grows a b → (ns : List Node) (fs : List Flat) → ((zs os : List ℕ) → flats_said (a.numbers.items ++ zs) (a.octets ++ os) ns ≡ fs)
    → (zs os : List ℕ) → flats_said (b.numbers.items ++ zs) (b.octets ++ os) ns ≡ fs
said_later a b g ns fs say zs os =
    ap₂ (λ p q. flats_said p q ns)
    (ap (λ xs. xs ++ zs) g.numbers_are ∙ append_assoc a.numbers.items g.numbers zs)
    (ap (λ xs. xs ++ os) g.octets_are ∙ append_assoc a.octets g.octets os)
    ∙ say (g.numbers ++ zs) (g.octets ++ os)

said_now : (a : NodeList) (ns : List Node) (ts : List Tree) → ((zs os : List ℕ) → flats_said (a.numbers.items ++ zs) (a.octets ++ os) ns ≡ low_flats (flat (trees ts)))
    → AreSaid a ns ts
said_now a ns ts say = ap₂ (λ p q. flats_said p q ns) (sym (append-nil a.numbers.items)) (sym (append-nil a.octets)) ∙ say [] []

-- ## Fronts

front_added : (ts : List Tree) (a b c : NodeList) (g : Grows a b) → Grows b c
    → ((zs os : List ℕ) → flats_said (b.numbers.items ++ zs) (b.octets ++ os) g.nodes ≡ low_flats (flat (trees ts))) → IsFront a c (length b.nodes.items) ts
front_added ts a b c g k say = record {
  front = g.nodes;
  rest = k.nodes;
  nodes = k.nodes_are ∙ ap (λ xs. xs ++ k.nodes) g.nodes_are;
  place = ap (λ xs. length xs) g.nodes_are;
  say = said_later b c k g.nodes (low_flats (flat (trees ts))) say;
}

front_later : (a b c : NodeList) → Grows b c → (s : ℕ) (ts : List Tree) → IsFront a b s ts → IsFront a c s ts
front_later a b c g s ts h = record {
  front = h.front;
  rest = h.rest ++ g.nodes;
  nodes = g.nodes_are ∙ ap (λ xs. xs ++ g.nodes) h.nodes ∙ append_assoc (a.nodes.items ++ h.front) h.rest g.nodes;
  place = h.place;
  say = said_later b c g h.front (low_flats (flat (trees ts))) h.say;
}

-- a front with those that were added before it
front_after : (ts us : List Tree) (a b c : NodeList) (g : Grows a b) → Grows b c
    → ((zs os : List ℕ) → flats_said (b.numbers.items ++ zs) (b.octets ++ os) g.nodes ≡ low_flats (flat (trees ts))) → (s : ℕ) → IsFront b c s us
    → IsFront a c s (ts ++ us)
front_after ts us a b c g k say s h = record {
  front = g.nodes ++ h.front;
  rest = h.rest;
  nodes = h.nodes ∙ ap (λ xs. (xs ++ h.front) ++ h.rest) g.nodes_are ∙ ap (λ xs. xs ++ h.rest) (append_assoc a.nodes.items g.nodes h.front);
  place = h.place ∙ ap (λ xs. length (xs ++ h.front)) g.nodes_are ∙ ap (λ xs. length xs) (append_assoc a.nodes.items g.nodes h.front);
  say = λ zs os.
      said_both (c.numbers.items ++ zs) (c.octets ++ os) g.nodes h.front ts us (said_later b c k g.nodes (low_flats (flat (trees ts))) say zs os) (h.say zs os);
}

front_now : (a b : NodeList) → a.nodes.items ≡ [] → (s : ℕ) (ts : List Tree) → IsFront a b s ts → AreSaid b (take s b.nodes.items) ts
front_now a b empty s ts h =
    let e : take s b.nodes.items ≡ h.front =
    ap₂ (λ n xs. take n xs) h.place h.nodes
    ∙ take_at (a.nodes.items ++ h.front) h.rest (length (a.nodes.items ++ h.front)) refl
    ∙ ap (λ xs. xs ++ h.front) empty in
    subst (λ (ns : List Node). AreSaid b ns ts) (sym e) (said_now b h.front ts h.say)

-- ## Values

drop_past : {A : Type 0} (xs ys : List A) → drop (length xs) (xs ++ ys) ≡ ys
drop_past [] ys = refl
drop_past (x ∷ xs) ys = drop_past xs ys

-- a value that begins a list begins it after more is added too
begins_later : (a b : NodeList) → Grows a b → (s : ℕ) (t : Tree) → BeginsEver a s t → BeginsEver b s t
begins_later a b g s t h ns zs os =
    let en : b.nodes.items ++ ns ≡ a.nodes.items ++ (g.nodes ++ ns) = ap (λ xs. xs ++ ns) g.nodes_are ∙ append_assoc a.nodes.items g.nodes ns in
    let ez : b.numbers.items ++ zs ≡ a.numbers.items ++ (g.numbers ++ zs) = ap (λ xs. xs ++ zs) g.numbers_are ∙ append_assoc a.numbers.items g.numbers zs in
    let eo : b.octets ++ os ≡ a.octets ++ (g.octets ++ os) = ap (λ xs. xs ++ os) g.octets_are ∙ append_assoc a.octets g.octets os in
    let r : SaysFirst (a.numbers.items ++ (g.numbers ++ zs)) (a.octets ++ (g.octets ++ os)) (a.nodes.items ++ (g.nodes ++ ns)) s t =
    h (g.nodes ++ ns) (g.numbers ++ zs) (g.octets ++ os) in
    record {
      others = r.others;
      first = ap₂ (λ p q. flats_said p q (drop s (b.nodes.items ++ ns))) ez eo ∙ ap (λ p. flats_said (a.numbers.items ++ (g.numbers ++ zs)) (a.octets ++ (g.octets ++ os)) (drop s p)) en ∙ r.first;
    }

-- the value that was added begins where the list ended
begins_added : (a b : NodeList) (t : Tree) → Adds (flat (more t none)) a b → BeginsEver b (length a.nodes.items) t
begins_added a b t h ns zs os =
    let p = b.numbers.items ++ zs in
    let q = b.octets ++ os in
    let e : drop (length a.nodes.items) (b.nodes.items ++ ns) ≡ h.grows.nodes ++ ns =
    ap (λ xs. drop (length a.nodes.items) (xs ++ ns)) h.grows.nodes_are ∙ ap (λ xs. drop (length a.nodes.items) xs) (append_assoc a.nodes.items h.grows.nodes ns)
    ∙ drop_past a.nodes.items (h.grows.nodes ++ ns) in
    record {
      others = flats_said p q ns;
      first = ap (λ xs. flats_said p q xs) e ∙ said_append p q h.grows.nodes ns ∙ ap (λ xs. xs ++ flats_said p q ns) (h.say zs os);
    }

-- nodes that follow those of values
gathered_both : (vs : Trees) (b : NodeList) (ms ns : List Node) → ((zs os : List ℕ) → flats_said (b.numbers.items ++ zs) (b.octets ++ os) ms ≡ low_flats (flat vs))
    → AreGathered ms → AreGathered ns → AreGathered (ms ++ ns)
gathered_both vs b ms ns say g h = gathered_append ms ns g h (after_whole ms ns (values_whole vs _ _ ms (say [] []) g) g)

there_both : (b c : NodeList) (ms ns : List Node) → Grows b c → AreThere (length b.numbers.items) ms → AreThere (length c.numbers.items) ns
    → AreThere (length c.numbers.items) (ms ++ ns)
there_both b c ms ns g h k =
    there_append (length c.numbers.items) ms ns
    (there_later (length b.numbers.items) (length c.numbers.items) ms (longer_list b.numbers.items c.numbers.items g.numbers g.numbers_are) h) k

pub homes_none : (a : NodeList) (ss : List ℕ) → AddsHomes [] a ss a ss
homes_none a ss = record { grows = grows_none a; new = []; starts = sym (append-nil ss); begin = tt; fronts = tt; say = λ zs os. refl; gathered = tt; there = tt }

-- one value more
pub homes_more : (ts us : List Tree) (t : Tree) (a b c : NodeList) (ss rs qs : List ℕ) → us ≡ ts ++ t ∷ [] → AddsHomes ts a ss b rs → qs ≡ rs ++ length b.nodes.items ∷ []
    → Adds (flat (more t none)) b c → AddsHomes us a ss c qs
homes_more ts us t a b c ss rs qs eu h eq ad = record {
  grows = grows_then a b c h.grows ad.grows;
  new = h.new ++ length b.nodes.items ∷ [];
  starts = eq ∙ ap (λ xs. xs ++ length b.nodes.items ∷ []) h.starts ∙ append_assoc ss h.new (length b.nodes.items ∷ []);
  begin =
      subst (λ vs. ArePaired (BeginsEver c) (h.new ++ length b.nodes.items ∷ []) vs) (sym eu)
      (paired_append (BeginsEver c) h.new (length b.nodes.items ∷ []) ts (t ∷ [])
      (paired_as (BeginsEver b) (BeginsEver c) (begins_later b c ad.grows) h.new ts h.begin) (begins_added b c t ad, tt));
  fronts =
      subst (λ (vs : List Tree). AreLaid (IsFront a c) [] (h.new ++ length b.nodes.items ∷ []) vs) (sym eu)
      (laid_append (IsFront a c) [] h.new (length b.nodes.items ∷ []) ts (t ∷ [])
      (laid_as (IsFront a b) (IsFront a c) (front_later a b c ad.grows) [] h.new ts h.fronts) (front_added ts a b c h.grows ad.grows h.say, tt));
  say = λ zs os.
      subst (λ (vs : List Tree). flats_said (c.numbers.items ++ zs) (c.octets ++ os) (h.grows.nodes ++ ad.grows.nodes) ≡ low_flats (flat (trees vs))) (sym eu)
      (said_both (c.numbers.items ++ zs) (c.octets ++ os) h.grows.nodes ad.grows.nodes ts (t ∷ [])
      (said_later b c ad.grows h.grows.nodes (low_flats (flat (trees ts))) h.say zs os) (ad.say zs os));
  gathered = gathered_both (trees ts) b h.grows.nodes ad.grows.nodes h.say h.gathered ad.gathered;
  there = there_both b c h.grows.nodes ad.grows.nodes ad.grows h.there ad.there;
}

-- ## All values of a graph

begins_now : (b : NodeList) (s : ℕ) (t : Tree) → BeginsEver b s t → Begins b s t
begins_now b s t h =
    let r = h [] [] [] in
    record {
      others = r.others;
      first =
          ap₂ (λ p q. flats_said p q (drop s b.nodes.items)) (sym (append-nil b.numbers.items)) (sym (append-nil b.octets))
          ∙ ap (λ xs. flats_said (b.numbers.items ++ []) (b.octets ++ []) (drop s xs)) (sym (append-nil b.nodes.items)) ∙ r.first;
    }

pub listed : (g : Graph) (n : Nodes) (a b : NodeList) (ss rs qs : List ℕ) → a.nodes.items ≡ [] → ss ≡ [] → AddsHomes g.roots a ss b rs
    → AddsHomes (map (λ c. c.val) g.cells) b rs n.list qs → n.starts.items ≡ qs → n.roots ≡ length g.roots → IsListOf g n
listed g n a b ss rs qs empty e h k es er =
    let cells : List Tree = map (λ (x : Referent). x.val) g.cells in
    let places : n.starts.items ≡ h.new ++ k.new = es ∙ k.starts ∙ ap (λ xs. xs ++ k.new) (h.starts ∙ ap (λ xs. xs ++ h.new) e) in
    let added : n.list.nodes.items ≡ h.grows.nodes ++ k.grows.nodes =
    k.grows.nodes_are ∙ ap (λ xs. xs ++ k.grows.nodes) (h.grows.nodes_are ∙ ap (λ xs. xs ++ h.grows.nodes) empty) in
    record {
      roots = er;
      homes =
          subst (λ xs. ArePaired (Begins n.list) xs (home_trees g)) (sym places)
          (paired_as (BeginsEver n.list) (Begins n.list) (begins_now n.list) (h.new ++ k.new) (home_trees g)
          (paired_append (BeginsEver n.list) h.new k.new g.roots (map (λ c. c.val) g.cells)
          (paired_as (BeginsEver b) (BeginsEver n.list) (begins_later b n.list k.grows) h.new g.roots h.begin) k.begin));
      before =
          subst (λ xs. AreLaid (λ s us. AreSaid n.list (take s n.list.nodes.items) us) [] xs (home_trees g)) (sym places)
          (laid_as (IsFront a n.list) (λ s us. AreSaid n.list (take s n.list.nodes.items) us) (front_now a n.list empty) [] (h.new ++ k.new) (home_trees g)
          (laid_append (IsFront a n.list) [] h.new k.new g.roots cells
          (laid_as (IsFront a b) (IsFront a n.list) (front_later a b n.list k.grows) [] h.new g.roots h.fronts)
          (subst (λ (vs : List Tree). AreLaid (IsFront a n.list) vs k.new cells) (append-nil g.roots)
          (laid_after (IsFront b n.list) (IsFront a n.list) g.roots (λ s us f. front_after g.roots us a b n.list h.grows k.grows h.say s f) [] k.new cells k.fronts))));
      all =
          subst (λ (ns : List Node). AreSaid n.list ns (home_trees g)) (sym added)
          (said_now n.list (h.grows.nodes ++ k.grows.nodes) (home_trees g)
          (λ zs os.
          said_both (n.list.numbers.items ++ zs) (n.list.octets ++ os) h.grows.nodes k.grows.nodes g.roots cells
          (said_later b n.list k.grows h.grows.nodes (low_flats (flat (trees g.roots))) h.say zs os) (k.say zs os)));
      gathered =
          subst (λ (ns : List Node). AreGathered ns) (sym added) (gathered_both (trees g.roots) b h.grows.nodes k.grows.nodes h.say h.gathered k.gathered);
      there =
          subst (λ (ns : List Node). AreThere (length n.list.numbers.items) ns) (sym added)
          (there_both b n.list h.grows.nodes k.grows.nodes k.grows h.there k.there);
    }

-- ## One root or cell more

pub root_next : (g : Graph) (i : ℕ) → i < length g.roots → take (i + 1) g.roots ≡ take i g.roots ++ root_at g i ∷ []
root_next g i l =
    let t = item_at g.roots i l in
    take_next g.roots i t.0 t.1 ∙ ap (λ x. take i g.roots ++ x ∷ []) (sym (ap or_unread t.1))

pub cell_next : (g : Graph) (i : ℕ) → i < length g.cells
    → map (λ (x : Referent). x.val) (take (i + 1) g.cells) ≡ map (λ (x : Referent). x.val) (take i g.cells) ++ cell_at g (suc i) ∷ []
cell_next g i l =
    let t = item_at g.cells i l in
    let of = λ (x : Referent). x.val in
    ap (λ xs. map of xs) (take_next g.cells i t.0 t.1) ∙ map-append of (take i g.cells) (t.0 ∷ []) ∙ ap (λ x. map of (take i g.cells) ++ x ∷ []) (sym (ap cell_tree t.1))
