-- What the plain reader has still to do in the midst of a value: the nodes whose children are being read, from the innermost on.
use Rattle.std.specs.Prelude.{flat_map, ◌≡◌, ℕ, ◌+◌, suc, List, [], ◌∷◌, ◌++◌, length, Option, Some, None}
use Rattle.nd_base.specs.declared.octets.Order.{Order}
use Rattle.nd_types.specs.declared.types.TypeDef.{TypeDef}
use Rattle.nd_types.specs.Table.{Table}
use Rattle.nd_value.specs.declared.item.Home.{Home}
use Rattle.nd_value.specs.Tree.{Tree, Trees, node, none, more, joined, Label, Flat, flat, count}
use Rattle.nd_value.specs.Agreement.{Agreement}
use Rattle.nd_value.specs.Nodes.{child_agreements, nodes_of}
use Rattle.nd_value.specs.Deferral.{Pending, pointer}
use Rattle.nd_grammar.specs.declared.reason.Reason.{Reason}
use Rattle.nd_grammar.specs.Entry.{Entry, EntryAt, child_tests}
use Rattle.nd_grammar.specs.Reader.{Progress, Names, Read, ReadAll, pass_all, read_list, read_in_place, tree_nodes}

-- progress that has not stopped, and progress that has: the stop is a literal, so that what follows computes
abbrev pub going : ℕ → List EntryAt → Progress
going at seen = record { at = at; seen = seen; stop = None }

abbrev pub stopped : ℕ → List EntryAt → ℕ × Reason → Progress
stopped at seen r = record { at = at; seen = seen; stop = Some r }

-- A node whose children are being read: its number, what its type is, its label; the children that were read; the number of the child that is being
-- read, and the types of those after it.
pub record Around : Type 0 where
  pub node : ℕ
  pub of : Option TypeDef
  pub label : Label
  pub done : Trees
  pub next : ℕ
  pub left : List ℕ
  -- its own type, the type of the child that is being read, and the types of those that were read
  pub typed : ℕ
  pub child : ℕ
  pub before : List ℕ

-- the child that was read joins those before it, and the next of these types is due
abbrev pub moved : Around → Tree → ℕ → List ℕ → Around
moved f v t types = record {
  node = f.node;
  of = f.of;
  label = f.label;
  done = joined f.done (more v none);
  next = f.next + tree_nodes v;
  left = types;
  typed = f.typed;
  child = t;
  before = f.before ++ f.child ∷ [];
}

abbrev pub with_left : Around → List ℕ → Around
with_left f types =
    record {
      node = f.node;
      of = f.of;
      label = f.label;
      done = f.done;
      next = f.next;
      left = types;
      typed = f.typed;
      child = f.child;
      before = f.before;
    }

abbrev pub with_child : Around → ℕ → List ℕ → Around
with_child f t types =
    record { node = f.node; of = f.of; label = f.label; done = f.done; next = f.next; left = types; typed = f.typed; child = t; before = f.before }

module _ (order : Order) (octets : List ℕ) (table : Table) (h : Home) where
  -- a node whose children were all read, where these agreements are still to be tried
  abbrev pub tried : Around → Trees → List Entry → Progress → Names → Read
  tried f kids tests p s = record { tree = node f.label kids; progress = pass_all order octets tests p; names = s }

  -- the agreements of a node's children that are no pointers
  abbrev pub tests_of : Around → Trees → List Entry
  tests_of f kids = child_tests h (child_agreements f.of kids) (f.node + 1) kids

  -- the node as it is when all its children are read
  abbrev pub closed : Around → Trees → Progress → Names → Read
  closed f kids p s = tried f kids (tests_of f kids) p s

  module _ (m : ℕ) where
    -- the node, where no child is being read: those that are left, and the agreements
    abbrev pub continue : ℕ → Around → Progress → Names → Read
    continue depth f p s =
        let others : ReadAll = read_list table (read_in_place order octets table h depth m) f.left f.next p s in
        closed f (joined f.done others.trees) others.progress others.names

    -- the node, where this child was read: the children after it, and the agreements
    abbrev pub go_on : ℕ → Around → Read → Read
    go_on depth f r =
        let others : ReadAll = read_list table (read_in_place order octets table h depth m) f.left (f.next + tree_nodes r.tree) r.progress r.names in
        closed f (joined f.done (more r.tree others.trees)) others.progress others.names

    -- the outermost value, where this one was read; the types of its children nest at most so deep
    abbrev pub finish : ℕ → List Around → Read → Read
    finish depth [] r = r
    finish depth (f ∷ fs) r = finish (suc depth) fs (go_on depth f r)

-- the nodes of what was read around a value, from the outermost on
abbrev pub nodes_around : List Around → List Flat
nodes_around [] = []
nodes_around (f ∷ fs) = nodes_around fs ++ ((f.label, count f.done + (1 + length f.left)) ∷ flat f.done)

-- the same where no child of the innermost node is being read
abbrev pub nodes_between : Around → List Around → List Flat
nodes_between f fs = nodes_around fs ++ ((f.label, count f.done + length f.left) ∷ flat f.done)

-- the pointers of values of these types, from a node on, where these agreements govern the values themselves; and where none do
abbrev pub governed_pointers : Table → Home → List ℕ → List (List Agreement) → ℕ → Trees → List Pending
governed_pointers table h types agreements n ts = flat_map (pointer table h) (nodes_of table types agreements n ts)

abbrev pub pointers : Table → Home → List ℕ → ℕ → Trees → List Pending
pointers table h types n ts = governed_pointers table h types [] n ts

-- the pointers of what was read around a value
abbrev pub pointers_around : Table → Home → List Around → List Pending
pointers_around table h [] = []
pointers_around table h (f ∷ fs) = pointers_around table h fs ++ pointers table h f.before (f.node + 1) f.done

-- nodes are numbered as they come
abbrev pub Numbered : List Around → Type 0
Numbered [] = Unit {0}
Numbered (f ∷ fs) = (f.node ≡ length (nodes_around fs)) × (f.next ≡ length (nodes_around (f ∷ fs))) × Numbered fs

-- what is being read is of the type that the node around it says, up to the home's own type
abbrev pub Tied : ℕ → ℕ → List Around → Type 0
Tied own t [] = t ≡ own
Tied own t (f ∷ fs) = (t ≡ f.child) × Tied own f.typed fs
