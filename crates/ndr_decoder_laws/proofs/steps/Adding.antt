-- A node is added: what is kept of it, and a value that has no children is whole then.
-- `y` is the node, `place` where its actual count or tag is, `q` what the state keeps.
use Rattle.std.proofs.Common.{◌≡◌, ◌⊎◌, inl, inr, ℕ, ◌+◌, zero, suc, false, List, [], ◌∷◌, ◌++◌, length, Option, Some, None, refl, ap, ap₂, sym, ◌∙◌, subst, arith, append_assoc, length-append, map}
use Rattle.std.specs.Prelude.{ℤ}
use Rattle.std.specs.List.{slice_get}
use Rattle.std.proofs.lemmas.Option.{same_Some}
use Rattle.nd_base.specs.declared.octets.Order.{Order}
use Rattle.nd_types.specs.declared.types.Attr.{Attr}
use Rattle.nd_types.specs.declared.types.Primitive.{Primitive}
use Rattle.nd_types.specs.declared.types.TypeDef.{TypeDef}
use Rattle.nd_types.specs.declared.types.TypeDef.TheVariants as def
use Rattle.nd_types.specs.Table.{Table}
use Rattle.nd_value.specs.declared.item.Home.{Home}
use Rattle.nd_value.specs.declared.item.Item.{Item}
use Rattle.nd_value.specs.Tree as tree
use Rattle.nd_value.specs.Tree.{node, none, more, Flat, Label}
use Rattle.nd_grammar.specs.Entry.{Entry, EntryAt}
use Rattle.nd_grammar.specs.Refusal.{tested_at, refusal}
use Rattle.nd_grammar.specs.declared.reason.Reason.{Reason}
use Rattle.nd_grammar.specs.Reader.{Names, Read}
use Rattle.ndr_code.specs.declared.instr.Instr.{Instr}
use Rattle.ndr_refs.specs.declared.referents.Known.{Known}
use Rattle.ndr_decoder_laws.specs.reader.Around.{Around, going, stopped, finish, nodes_around, pointers, pointers_around, Numbered}
use Rattle.ndr_decoder_laws.specs.reader.Points.{has}
use Rattle.ndr_decoder_laws.proofs.reader.Continuing.{finish_stays}
use Rattle.ndr_decoder_laws.specs.declared.first.First.{First}
use Rattle.ndr_decoder_laws.specs.declared.first.Member.{Member}
use Rattle.ndr_decoder_laws.specs.declared.frame.Frame.{Frame}
use Rattle.ndr_decoder_laws.specs.steps.Spots.{Inside, in_struct, in_array, in_union, in_pipe, AtEnd, IsShaped, FitsPointer}
use Rattle.ndr_decoder_laws.specs.steps.Steps.{State, Owed, Place, begun, place_of, place_in, first_of, own_by, firsts_by}
use Rattle.ndr_decoder_laws.specs.steps.Good.{Told, Kept, Good, OwnIn, members_around, members_of, read_members, open_member, owed, due_member, place_at}
use Rattle.ndr_decoder_laws.proofs.steps.Passing.{kept_longer, none_ahead}
use Rattle.ndr_decoder_laws.proofs.steps.Arriving.{Parts, Within, KeptAll, KeptOwn}

pub get_joined : {X : Type 0} (xs : List X) (x : X) (i : ℕ) (z : X) → slice_get (xs ++ x ∷ []) i ≡ Some z → (slice_get xs i ≡ Some z) ⊎ ((i ≡ length xs) × (x ≡ z))
get_joined [] x zero z e = inr (refl, same_Some x z e)
get_joined [] x (suc i) z e = cc
get_joined (y ∷ ys) x zero z e = inl e
get_joined (y ∷ ys) x (suc i) z e = longer (get_joined ys x i z e)
  where
    longer : (slice_get ys i ≡ Some z) ⊎ ((i ≡ length ys) × (x ≡ z)) → (slice_get (y ∷ ys) (suc i) ≡ Some z) ⊎ ((suc i ≡ length (y ∷ ys)) × (x ≡ z))
    longer (inl h) = inl h
    longer (inr h) = inr (ap suc h.0, h.1)

pub get_last : {X : Type 0} (xs : List X) (x : X) → slice_get (xs ++ x ∷ []) (length xs) ≡ Some x
get_last [] x = refl
get_last (y ∷ ys) x = get_last ys x

-- what is kept once a node is added
pub record Added (h : Home) (seen : List EntryAt) (max_at : Option ℕ) (nodes : List Flat) (own : Option First) (members : List Member) (firsts : List First) : Type 0 where
  pub many : length firsts ≡ length members
  pub kept : KeptAll h seen max_at nodes members firsts
  pub first : KeptOwn h seen max_at nodes own

module _ (code : List Instr) (table : Table) (h : Home) (seen : List EntryAt) (max_at : Option ℕ) (nodes : List Flat) (y : Flat) (place : Option ℕ) where
  abbrev x : First
  x = first_of y place

  pub node_kept : ((a : Attr) → tested_at seen a h (length nodes) ≡ place_of a max_at (place_in x)) → Kept h seen max_at (nodes ++ y ∷ []) (length nodes) x
  node_kept found = record { is = y; place = place; there = get_last nodes y; kept = refl; found = found }

  by_top : (top : Frame) (stack : List Frame) (fs : List Around) (own : Option First) (members : List Member) (firsts : List First) → Inside code table top stack fs
      → nodes ≡ nodes_around fs → Numbered fs → members ≡ members_around table h fs → length firsts + due_member top ≡ length members
      → KeptAll h seen max_at nodes members firsts → OwnIn fs (KeptOwn h seen max_at nodes own) → Kept h seen max_at (nodes ++ y ∷ []) (length nodes) x
      → Added h seen max_at (nodes ++ y ∷ []) (own_by top x own) members (firsts_by top x firsts)
  by_top top stack [] own members firsts inside en numbered em many kept first new =
      let z : length nodes ≡ 0 = ap length en in
      subst (λ f. length firsts + due_member f ≡ length members → Added h seen max_at (nodes ++ y ∷ []) (own_by f x own) members (firsts_by f x firsts)) (sym inside.0)
      (λ many. record {
        many = omega (arith, many);
        kept = λ i m w a b. kept_longer h seen max_at nodes (y ∷ []) m.node w (kept i m w a b);
        first = (x, refl, subst (λ n. Kept h seen max_at (nodes ++ y ∷ []) n x) z new);
      })
      many
  by_top top stack (f ∷ fs) own members firsts (in_struct {back = back} {first = start} fields left is run, inside) en numbered em many kept first new =
      let ms : List Member = members_around table h fs ++ members_of table h (length (pointers_around table h fs)) f.before (f.node + 1) f.done in
      let last : Member = record { node = f.next; pending = length (pointers_around table h (f ∷ fs)) } in
      let all : members ≡ ms ++ last ∷ [] =
      em ∙ ap (λ l. members_around table h fs ++ (read_members table h l f fs ++ open_member table h l f fs)) is.label
      ∙ sym (append_assoc (members_around table h fs) (members_of table h (length (pointers_around table h fs)) f.before (f.node + 1) f.done) (last ∷ [])) in
      let as_many : length firsts ≡ length ms = let e : length members ≡ length ms + 1 = ap length all ∙ length-append ms (last ∷ []) in omega (arith, many, e) in
      let here_it : length nodes ≡ f.next = ap length en ∙ sym numbered.1 in
      record {
        many = length-append firsts (x ∷ []) ∙ many;
        kept = λ i m w a b. one ms last all as_many here_it i m w a (get_joined firsts x i w b);
        first = (first.0, first.1, kept_longer h seen max_at nodes (y ∷ []) 0 first.0 first.2);
      }
    where
      one : (ms : List Member) (last : Member) → members ≡ ms ++ last ∷ [] → length firsts ≡ length ms → length nodes ≡ last.node
          → (i : ℕ) (m : Member) (w : First) → slice_get members i ≡ Some m → (slice_get firsts i ≡ Some w) ⊎ ((i ≡ length firsts) × (x ≡ w))
          → Kept h seen max_at (nodes ++ y ∷ []) m.node w
      one ms last all as_many here_it i m w a (inl b) = kept_longer h seen max_at nodes (y ∷ []) m.node w (kept i m w a b)
      one ms last all as_many here_it i m w a (inr b) =
          let it : slice_get (ms ++ last ∷ []) (length ms) ≡ Some m = ap₂ (λ zs j. slice_get zs j) (sym all) (sym as_many ∙ sym b.0) ∙ a in
          let same : last ≡ m = same_Some last m (sym (get_last ms last) ∙ it) in
          subst (λ v. Kept h seen max_at (nodes ++ y ∷ []) m.node v) b.1
          (subst (λ n. Kept h seen max_at (nodes ++ y ∷ []) n x) (here_it ∙ ap (λ v. v.node) same) new)
  by_top top stack (f ∷ fs) own members firsts (in_array {left = left} {run = run} {back = back} elem bound varying is el er at_back, inside) en numbered em many kept first new = record {
    many = omega (arith, many);
    kept = λ i m w a b. kept_longer h seen max_at nodes (y ∷ []) m.node w (kept i m w a b);
    first = (first.0, first.1, kept_longer h seen max_at nodes (y ∷ []) 0 first.0 first.2);
  }
  by_top top stack (f ∷ fs) own members firsts (in_union {run = run} {back = back} is er at_back, inside) en numbered em many kept first new = record {
    many = omega (arith, many);
    kept = λ i m w a b. kept_longer h seen max_at nodes (y ∷ []) m.node w (kept i m w a b);
    first = (first.0, first.1, kept_longer h seen max_at nodes (y ∷ []) 0 first.0 first.2);
  }
  by_top top stack (f ∷ fs) own members firsts (in_pipe {left = left} {run = run} {back = back} elem is el er at_back, inside) en numbered em many kept first new = record {
    many = omega (arith, many);
    kept = λ i m w a b. kept_longer h seen max_at nodes (y ∷ []) m.node w (kept i m w a b);
    first = (first.0, first.1, kept_longer h seen max_at nodes (y ∷ []) 0 first.0 first.2);
  }

pub added : (code : List Instr) (table : Table) (h : Home) (own limit : ℕ) (seen : List EntryAt) (depth : ℕ) (fs : List Around) (t : ℕ) (q : Parts) (y : Flat) (place : Option ℕ)
    → Within code table h own limit seen depth fs t q
    → ((a : Attr) → tested_at seen a h (length q.nodes) ≡ place_of a q.max_at (place_in (first_of y place)))
    → Added h seen q.max_at (q.nodes ++ y ∷ []) (own_by q.top (first_of y place) q.own) q.members (firsts_by q.top (first_of y place) q.firsts)
added code table h own limit seen depth fs t q y place w found =
    by_top code table h seen q.max_at q.nodes y place q.top q.stack fs q.own q.members q.firsts w.inside w.nodes w.numbered w.members w.many w.kept w.first
    (node_kept code table h seen q.max_at q.nodes y place found)

-- the nodes after one that is added have no count or tag yet
pub told_node : {noted : List Item} {direct : ℕ} (order : Order) (fetched : List ℕ) (h : Home) (seen : List EntryAt) (names : Names) (cells : List ℕ) (numbers : List (ℕ × Known)) (max_at : Option ℕ)
    (nodes : List Flat) (y : Flat) (half : List Place)
    → Told noted direct order fetched h seen names cells numbers max_at (length nodes) half → Told noted direct order fetched h seen names cells numbers max_at (length (nodes ++ y ∷ [])) []
told_node order fetched h seen names cells numbers max_at nodes y half t = record {
  noted_are = t.noted_are;
  cells_are = t.cells_are;
  cells_named = t.cells_named;
  numbers_are = t.numbers_are;
  ahead = λ a j.
      let e : length (nodes ++ y ∷ []) + j ≡ length nodes + suc j = let n : length (nodes ++ y ∷ []) ≡ length nodes + 1 = length-append nodes (y ∷ []) in omega (arith, n) in
      ap (tested_at seen a h) e ∙ t.ahead a (suc j) ∙ ap (place_of a max_at) (none_ahead half j);
  lie_within = t.lie_within;
}

-- what is found of a node that has no count or tag
pub none_found : {noted : List Item} {direct : ℕ} (order : Order) (fetched : List ℕ) (h : Home) (seen : List EntryAt) (names : Names) (cells : List ℕ) (numbers : List (ℕ × Known)) (max_at : Option ℕ)
    (n : ℕ) (half : List Place)
    → Told noted direct order fetched h seen names cells numbers max_at n half → (a : Attr) → tested_at seen a h n ≡ place_of a max_at (place_at half 0)
none_found order fetched h seen names cells numbers max_at n half t a = let z : n ≡ n + 0 = omega arith in ap (tested_at seen a h) z ∙ t.ahead a 0

-- a value that is no pointer has the shape of its type
pub no_pointer : (d : Option TypeDef) → FitsPointer d false
no_pointer (Some (def.Prim p)) = refl
no_pointer (Some (def.Enum zs)) = refl
no_pointer (Some (def.Struct members)) = refl
no_pointer (Some (def.Array elem bound varying)) = refl
no_pointer (Some (def.Text elem bound)) = refl
no_pointer (Some (def.Union tag enc arms default)) = refl
no_pointer (Some (def.Pointer class to)) = tt
no_pointer (Some def.Context) = refl
no_pointer (Some (def.Pipe elem)) = refl
no_pointer None = refl

-- the state after a node that has no children
abbrev pub after_leaf : Parts → ℕ → ℕ → ℕ → ℤ → Primitive → List Owed → List ℕ → List (ℕ × Known) → Flat → Option ℕ → State
after_leaf q pc at max tag carrier fresh cells numbers y place = record {
  pc = pc;
  phase = begun;
  at = at;
  max = max;
  max_at = q.max_at;
  tag = tag;
  carrier = carrier;
  top = q.top;
  stack = q.stack;
  nodes = q.nodes ++ y ∷ [];
  own = own_by q.top (first_of y place) q.own;
  members = q.members;
  firsts = firsts_by q.top (first_of y place) q.firsts;
  fresh = fresh;
  cells = cells;
  numbers = numbers;
}

pub leaf_good : (order : Order) (fetched : List ℕ) (code : List Instr) (table : Table) (h : Home) (own limit : ℕ) (noted : List Item) (direct : ℕ) (target : List ℕ → Read) (q : Parts) (pc at max : ℕ)
    (tag : ℤ) (carrier : Primitive)
    (fresh : List Owed) (cells : List ℕ) (numbers : List (ℕ × Known)) (l : Label) (place : Option ℕ) (half : List Place) (seen : List EntryAt) (names : Names) (depth : ℕ) (fs : List Around) (t : ℕ)
    → Within code table h own limit seen depth fs t q
    → ((a : Attr) → tested_at seen a h (length q.nodes) ≡ place_of a q.max_at (place_in (first_of (l, 0) place)))
    → Told noted direct order fetched h seen names cells numbers q.max_at (length q.nodes) half
    → length fetched ≡ at → AtEnd code table pc → IsShaped table t (node l none)
    → fresh ≡ map (owed table) (pointers_around table h fs ++ pointers table h (t ∷ []) (length (nodes_around fs)) (more (node l none) none))
    → ((later : List ℕ) → finish order (fetched ++ later) table h max depth fs (record { tree = node l none; progress = going at seen; names = names }) ≡ target (fetched ++ later))
    → Good order fetched code table h own limit noted direct target (after_leaf q pc at max tag carrier fresh cells numbers (l, 0) place)
leaf_good order fetched code table h own limit noted direct target q pc at max tag carrier fresh cells numbers l place half seen names depth fs t w found told reached at_end shaped owes rest =
    let new = added code table h own limit seen depth fs t q (l, 0) place w found in
    record {
      depth = depth;
      fs = fs;
      point = has t (node l none);
      seen = seen;
      names = names;
      deep = w.deep;
      spot = (at_end, shaped);
      phase = refl;
      registers = tt;
      holds = tt;
      inside = w.inside;
      begin = w.begin;
      fits = w.fits;
      tied = w.tied;
      nodes = ap (λ xs. xs ++ (l, 0) ∷ []) w.nodes;
      numbered = w.numbered;
      members = w.members;
      pending = owes;
      many = let m : length (firsts_by q.top (first_of (l, 0) place) q.firsts) ≡ length q.members = new.many in omega (arith, m);
      kept = new.kept;
      first = new.first;
      reached = omega (arith, reached);
      told = told_node order fetched h seen names cells numbers q.max_at q.nodes (l, 0) half told;
      rest = rest;
    }

-- ## Refusals

-- a value at which reading stops stops the home
pub stop_by : (order : Order) (octets : List ℕ) (table : Table) (h : Home) (k m : ℕ) (fs : List Around) (r target : Read) (at : ℕ) (seen : List EntryAt) (why : ℕ × Reason)
    → r.progress ≡ stopped at seen why
    → finish order octets table h m k fs r ≡ target → target.progress ≡ stopped at seen why
stop_by order octets table h k m fs r target at seen why e rest = ap (λ u. u.progress) (sym rest) ∙ finish_stays order octets table h at seen why k m fs r e

-- The plain reader comes to this entry next: where it is refused, so is the home.
abbrev pub Stops : Order → List ℕ → List EntryAt → ℕ → Read → Entry → Type 0
Stops order octets seen at target m = (why : ℕ × Reason) → refusal order octets seen (record { at = at; entry = m }) ≡ Some why → target.progress ≡ stopped at seen why
