-- Where a cursor is, from one node to the next.
-- `c` is a cursor, `t` the type of its node, `inner` the level of the node's children, `m` and `n` are numbers of nodes.
use Rattle.std.proofs.Common.{◌≡◌, ℕ, ℤ, ◌+◌, ◌<◌, ◌≤◌, suc, List, [], ◌∷◌, ◌++◌, length, drop, reverse, Option, None, Some, refl, ap, ap₂, sym, ◌∙◌, subst, arith, length-append}
use Rattle.std.specs.Prelude.{IfSome, IfNone}
use Rattle.std.specs.declared.vec.Vec.{Vec}
use Rattle.std.specs.declared.alloc.Global.{Global}
use Rattle.nd_types.specs.Table.{Table}
use Rattle.nd_value.specs.declared.value.Graph.{Graph}
use Rattle.nd_value.specs.declared.item.Home.{Home}
use Rattle.nd_value.specs.declared.item.ItemKind.{ItemKind}
use Rattle.nd_value.specs.declared.item.ItemKind.TheVariants as kind
use Rattle.nd_value.specs.Setting.{Setting}
use Rattle.nd_value.specs.Tree.{Label, Trees, Flat, node, none, more, count, flat, take_trees}
use Rattle.nd_flat.specs.FlatForm.{flat_seen}
use Rattle.text_grammar.specs.Paths.{home_name, node_paths}
use Rattle.text_printer.specs.Walks.{Begins}
use Rattle.text_printer.proofs.Walking.{has_next, no_kids as none_left}
use Rattle.ndr_explain.specs.declared.cursor.Cursor.{Cursor}
use Rattle.ndr_explain.specs.declared.levels.Level.{Level}
use Rattle.ndr_explain.specs.declared.levels.Levels.{Levels}
use Rattle.ndr_explain.specs.declared.located.Located.{Located}
use Rattle.ndr_explain.specs.Explained.{path_in, label_in, string_shown, context_shown, value_shown, home_paths, home_flats}
use Rattle.ndr_explain.specs.Cursors.{level_types, path_to, types_after, paths_after, types_from, paths_from, inner_types, inner_paths, HasChild, IsLevelOf, IsChildLevel, AreLevelsOf, IsAt, IsPast}
use Rattle.ndr_explain.specs.Cursors.{Reaches, IsFound, IsLast, found_label}
use Rattle.ndr_explain.proofs.LevelPaths.{path_first}
use Rattle.ndr_explain.proofs.Walks.{ComesAfter, after_step, no_paths, path_here, path_later, drop_next, got_first, got_none}

-- ## The node at which a cursor is

first_here : (table : Table) (types : List ℕ) (paths : List (List ℕ)) (t : ℕ) (T : List ℕ) (p : List ℕ) (P : List (List ℕ)) (n : ℕ) (w : Trees) → types ≡ t ∷ T → paths ≡ p ∷ P
    → count w ≡ length types → path_in (node_paths table types paths n w) n ≡ p
first_here table types paths t T p P n none e f c = let d : 0 ≡ suc (length T) = c ∙ ap length e in cc
first_here table types paths t T p P n (more (node l ks) us) e f c =
    ap₂ (λ ts ps. path_in (node_paths table ts ps n (more (node l ks) us)) n) e f ∙ path_here n p _

some_first : (ts : List ℕ) → 0 < length ts → (t : ℕ) × ((T : List ℕ) × (ts ≡ t ∷ T))
some_first [] h = absurd (omega (arith, h))
some_first (t ∷ T) h = (t, (T, refl))

pub path_at : (table : Table) (name : List ℕ) (paths : List (ℕ × List ℕ)) (flats : List Flat) (c : Cursor) → IsAt table name paths flats c
    → path_in paths c.node ≡ path_to name (c.top ∷ reverse c.below.items)
path_at table name paths flats c a =
    let Ls = reverse c.below.items in
    let s = some_first (level_types c.top) a.some in
    a.paths_are c.node (omega arith)
    ∙ first_here table (types_from c.top Ls) (paths_from name c.top Ls) s.0 _ (path_to name (c.top ∷ Ls)) _ c.node a.left (ap (λ ts. ts ++ types_after Ls) s.1.1)
    (ap (λ ps. ps ++ paths_after name Ls) (path_first (path_to name Ls) c.top a.some)) a.all

pub label_at : (table : Table) (name : List ℕ) (paths : List (ℕ × List ℕ)) (flats : List Flat) (c : Cursor) → IsAt table name paths flats c
    → label_in flats c.node ≡ Some (flat_seen c.seen).0
label_at table name paths flats c a =
    ap (λ (o : Option Flat). elim o [ None ↦ None | Some f ↦ Some f.0 ]) (got_first flats c.node (flat_seen c.seen) (flat c.walk) (a.flats_are ∙ a.stepped))

-- ## The next node

module _ (table : Table) (name : List ℕ) (paths : List (ℕ × List ℕ)) (flats : List Flat) (c : Cursor) (a : IsAt table name paths flats c) (t : ℕ) (inner : Option Level)
    (first : level_types c.top ≡ t ∷ drop 1 (level_types c.top)) (h : IsChildLevel table t (flat_seen c.seen) inner) where
  abbrev outer : List Level
  outer = reverse c.below.items

  abbrev types : List ℕ
  types = inner_types inner ++ types_after (c.top ∷ outer)

  abbrev ways : List (List ℕ)
  ways = inner_paths (path_to name (c.top ∷ outer)) inner ++ paths_after name (c.top ∷ outer)

  types_are : types_from c.top outer ≡ t ∷ types_after (c.top ∷ outer)
  types_are = ap (λ ts. ts ++ types_after outer) first

  ways_are : paths_from name c.top outer ≡ path_to name (c.top ∷ outer) ∷ paths_after name (c.top ∷ outer)
  ways_are = ap (λ ps. ps ++ paths_after name outer) (path_first (path_to name outer) c.top a.some)

  comes : ComesAfter table types ways t (path_to name (c.top ∷ outer)) (types_after (c.top ∷ outer)) (paths_after name (c.top ∷ outer)) c.node a.left c.walk
  comes =
      after_step table t (path_to name (c.top ∷ outer)) (types_after (c.top ∷ outer)) (paths_after name (c.top ∷ outer)) c.node (flat_seen c.seen) a.left c.walk inner a.stepped h
      (subst (λ ts. Begins table ts a.left) types_are a.begins) (a.all ∙ ap length types_are)

  nodes_later : (m : ℕ) → c.node + 1 ≤ m → path_in paths m ≡ path_in (node_paths table types ways (c.node + 1) c.walk) m
  nodes_later m l =
      a.paths_are m (omega (arith, l)) ∙ ap₂ (λ ts ps. path_in (node_paths table ts ps c.node a.left) m) types_are ways_are ∙ ap (λ xs. path_in xs m) comes.nodes
      ∙ path_later c.node m (path_to name (c.top ∷ outer)) (node_paths table types ways (c.node + 1) c.walk) (omega (arith, l))

  flats_later : drop (c.node + 1) flats ≡ flat c.walk
  flats_later = drop_next flats c.node (flat_seen c.seen) (flat c.walk) (a.flats_are ∙ a.stepped)

  -- the children's level, if there is one, has a child
  pub has_child : HasChild inner
  has_child =
      by_inner _ _ inner (h (take_trees (flat_seen c.seen).1 c.walk) (has_next a.left c.walk (flat_seen c.seen).0 (flat_seen c.seen).1 a.stepped))
    where
      by_inner : (ts : List ℕ) (f : List ℕ → List (List ℕ)) (i : Option Level) → IsLevelOf ts f i → HasChild i
      by_inner ts f None k = tt
      by_inner ts f (Some L) k = k.0.0

  -- no value comes after the node
  pub ends : types ≡ [] → IsPast paths flats (c.node + 1)
  ends e =
      let w : c.walk ≡ none = none_left c.walk (comes.all ∙ ap length e) in
      let f : drop (c.node + 1) flats ≡ [] = flats_later ∙ ap flat w in
      record {
        no_path = λ m l z.
            nodes_later m l ∙ ap (λ ts. path_in (node_paths table ts ways (c.node + 1) c.walk) m) e ∙ ap (λ xs. path_in xs m) (no_paths table ways (c.node + 1) c.walk);
        no_text = λ m l. ap (λ (o : Option Flat). string_shown (elim o [ None ↦ None | Some f ↦ Some f.0 ])) (got_none flats (c.node + 1) m f l);
        no_context = λ m l. ap (λ (o : Option Flat). context_shown (elim o [ None ↦ None | Some f ↦ Some f.0 ])) (got_none flats (c.node + 1) m f l);
      }

  same_from : (s : Levels) (d : Cursor) → (d.top ≡ s.top) × (d.below ≡ s.below) → types_from d.top (reverse d.below.items) ≡ types_from s.top (reverse s.below.items)
  same_from s d e = ap₂ (λ (L : Level) (b : Vec Level Global). types_from L (reverse b.items)) e.0 e.1

  same_ways : (s : Levels) (d : Cursor) → (d.top ≡ s.top) × (d.below ≡ s.below) → paths_from name d.top (reverse d.below.items) ≡ paths_from name s.top (reverse s.below.items)
  same_ways s d e = ap₂ (λ (L : Level) (b : Vec Level Global). paths_from name L (reverse b.items)) e.0 e.1

  -- a value comes after it
  pub goes_on : (s : Levels) → AreLevelsOf types (λ q. inner_paths (path_to q (c.top ∷ outer)) inner ++ paths_after q (c.top ∷ outer)) (Some s) → (r : Option Cursor)
      → IfSome r (λ d. flat c.walk ≡ flat_seen d.seen ∷ flat d.walk) → IfSome r (λ d. (d.top ≡ s.top) × (d.below ≡ s.below)) → IfSome r (λ d. d.node ≡ c.node + 1)
      → IfNone r (c.walk ≡ none) → Reaches table name paths flats (c.node + 1) r
  goes_on s k None e1 e2 e3 e4 =
      let n : 0 ≡ length types = sym (ap count e4) ∙ comes.all in
      let l : length (types_from s.top (reverse s.below.items)) ≡ length types = ap length k.0.1 in
      absurd (omega (arith, n, l, length-append (level_types s.top) (types_after (reverse s.below.items)), k.0.0))
  goes_on s k (Some d) e1 e2 e3 e4 =
      let ts : types ≡ types_from d.top (reverse d.below.items) = sym (same_from s d e2 ∙ k.0.1) in
      let ps : ways ≡ paths_from name d.top (reverse d.below.items) = sym (same_ways s d e2 ∙ k.1 name) in (
        record {
          left = c.walk;
          stepped = e1;
          some = subst (λ (L : Level). 0 < length (level_types L)) (sym e2.0) k.0.0;
          begins = subst (λ us. Begins table us c.walk) ts comes.begins;
          all = comes.all ∙ ap length ts;
          paths_are = λ m l.
              nodes_later m (subst (λ n. n ≤ m) e3 l) ∙ ap₂ (λ us qs. path_in (node_paths table us qs (c.node + 1) c.walk) m) ts ps
              ∙ ap (λ n. path_in (node_paths table (types_from d.top (reverse d.below.items)) (paths_from name d.top (reverse d.below.items)) n c.walk) m) (sym e3);
          flats_are = ap (λ n. drop n flats) e3 ∙ flats_later;
        },
        e3,
      )

  pub ends_at : (r : Option Levels) → r ≡ None → AreLevelsOf types (λ q. inner_paths (path_to q (c.top ∷ outer)) inner ++ paths_after q (c.top ∷ outer)) r
      → IsPast paths flats (c.node + 1)
  ends_at None e k = ends k
  ends_at (Some s) e k = cc

  pub goes_at : (o : Option Levels) (s : Levels) → o ≡ Some s → AreLevelsOf types (λ q. inner_paths (path_to q (c.top ∷ outer)) inner ++ paths_after q (c.top ∷ outer)) o
      → (r : Option Cursor) → IfSome r (λ d. flat c.walk ≡ flat_seen d.seen ∷ flat d.walk) → IfSome r (λ d. (d.top ≡ s.top) × (d.below ≡ s.below))
      → IfSome r (λ d. d.node ≡ c.node + 1) → IfNone r (c.walk ≡ none) → Reaches table name paths flats (c.node + 1) r
  goes_at o s e k =
      goes_on s (subst (λ (x : Option Levels). AreLevelsOf types (λ q. inner_paths (path_to q (c.top ∷ outer)) inner ++ paths_after q (c.top ∷ outer)) x) e k)

-- what is reached
pub reaches_none : (table : Table) (name : List ℕ) (paths : List (ℕ × List ℕ)) (flats : List Flat) (n : ℕ) (r : Option Cursor) → r ≡ None
    → Reaches table name paths flats n r → IsPast paths flats n
reaches_none table name paths flats n None e h = h
reaches_none table name paths flats n (Some c) e h = cc

pub reaches_some : (table : Table) (name : List ℕ) (paths : List (ℕ × List ℕ)) (flats : List Flat) (n : ℕ) (r : Option Cursor) (c : Cursor) → r ≡ Some c
    → Reaches table name paths flats n r → IsAt table name paths flats c × (c.node ≡ n)
reaches_some table name paths flats n r c e h = subst (λ (x : Option Cursor). Reaches table name paths flats n x) e h

-- what is past a node is past the later ones
pub past_later : (paths : List (ℕ × List ℕ)) (flats : List Flat) (n m : ℕ) → n ≤ m → IsPast paths flats n → IsPast paths flats m
past_later paths flats n m l h =
    record {
      no_path = λ k a z. h.no_path k (omega (arith, l, a)) z;
      no_text = λ k a. h.no_text k (omega (arith, l, a));
      no_context = λ k a. h.no_context k (omega (arith, l, a));
    }

-- ## The first node

-- ## What an item holds

shown_past : (k : ItemKind) (z : ℤ) (l : Option Label) → string_shown l ≡ [] → context_shown l ≡ [] → value_shown k None z ≡ value_shown k l z
shown_past kind.Text z l e f = sym e
shown_past kind.Context z l e f = sym f
shown_past _ z l e f = refl

-- by the node that was found
pub shown_at : (w : Setting) (g : Graph) (h : Home) (n : ℕ) (r : Option Located) (k : ItemKind) (z : ℤ) → IsFound w g h n r
    → value_shown k (found_label r) z ≡ value_shown k (label_in (home_flats g h) n) z
shown_at w g h n None k z p = shown_past k z (label_in (home_flats g h) n) (p.no_text n (omega arith)) (p.no_context n (omega arith))
shown_at w g h n (Some f) k z p =
    let i = p.0.0 in
    ap (λ l. value_shown k l z) (sym (label_at w.table (home_name w f.home) (home_paths w g f.home) (home_flats g f.home) f.cursor i.at_node))
    ∙ ap₂ (λ j m. value_shown k (label_in (home_flats g j) m) z) p.0.1 p.1

-- what was found is the last place
pub found_last : (w : Setting) (g : Graph) (h : Home) (n : ℕ) (r : Option Located) → IsFound w g h n r → IsLast w g r
found_last w g h n None p = tt
found_last w g h n (Some f) p = p.0.0
