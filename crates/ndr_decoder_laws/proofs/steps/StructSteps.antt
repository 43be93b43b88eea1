-- Structs: their beginning, the calls of their members, and their end.
use Rattle.std.proofs.Common.{◌≡◌, ◌≤◌, ◌<◌, ◌⊎◌, inl, inr, ℕ, ◌+◌, zero, suc, List, [], ◌∷◌, ◌++◌, length, Some, None, refl, ap, ap₂, sym, ◌∙◌, subst, arith, append_assoc, length-append, map}
use Rattle.std.specs.Prelude.{take}
use Rattle.std.specs.List.{AllByRecursion, slice_get}
use Rattle.std.proofs.lemmas.List.{append-nil, length-map}
use Rattle.std.proofs.lemmas.Option.{slice_get_within}
use Rattle.nd_base.specs.declared.octets.Order.{Order}
use Rattle.nd_types.specs.declared.types.TypeDef.TheVariants as def
use Rattle.nd_types.specs.declared.types.Field.{Field}
use Rattle.nd_types.specs.Table.{Table, type_at}
use Rattle.nd_value.specs.declared.item.Home.{Home}
use Rattle.nd_value.specs.declared.item.Item.{Item}
use Rattle.nd_value.specs.Agreement.{Agreement, member_agreements}
use Rattle.nd_value.specs.Tree as tree
use Rattle.nd_value.specs.Tree.{node, none, more, flat, count, is_pointer}
use Rattle.nd_grammar.specs.Entry.{EntryAt}
use Rattle.nd_grammar.specs.Reader.{Names, Read, read_in_place, read_children}
use Rattle.ndr_code.specs.declared.instr.Instr.{Instr}
use Rattle.ndr_code.specs.declared.instr.Instr.TheVariants as op
use Rattle.ndr_code.specs.declared.lists.EnumList.{EnumList}
use Rattle.ndr_code.specs.Code.{place_at}
use Rattle.ndr_code.specs.Runs.{IsRunAt}
use Rattle.ndr_code.proofs.Runs.{next_at}
use Rattle.ndr_decoder_laws.specs.reader.Around.{Around, going, finish, continue, nodes_around, nodes_between, pointers, governed_pointers, pointers_around, Numbered, with_left, with_child, Tied}
use Rattle.ndr_decoder_laws.specs.reader.Points.{between, has}
use Rattle.ndr_decoder_laws.proofs.reader.FlatNodes.{node_closed}
use Rattle.ndr_decoder_laws.proofs.reader.HomePointers.{of_struct}
use Rattle.ndr_decoder_laws.specs.declared.first.First.{First}
use Rattle.ndr_decoder_laws.specs.declared.first.Member.{Member}
use Rattle.ndr_decoder_laws.specs.declared.frame.Frame.{Frame}
use Rattle.ndr_decoder_laws.specs.declared.frame.Frame.TheVariants as frame
use Rattle.ndr_decoder_laws.specs.steps.Spots.{IsFine, IsPlanned, IsStruct, in_struct, Inside, Fits, types_of, rest_run, body_run, at_ret, FitsPointer}
use Rattle.ndr_decoder_laws.specs.steps.Steps.{State, Outcome, goes, begun, next, pushed, with_node, call_from, close_of, popped_to, with_members}
use Rattle.ndr_decoder_laws.specs.steps.Good.{Told, Kept, IsRight, owed, Begin, BeginsAt, BeginStruct, members_around, members_of, read_members, open_member}
use Rattle.ndr_decoder_laws.proofs.steps.Arriving.{Within, KeptAll, KeptOwn, parts_of, arrives}
use Rattle.ndr_decoder_laws.proofs.steps.Adding.{added, none_found, told_node, get_joined, no_pointer}

-- one frame more is one type less
pub deeper : (k n limit : ℕ) → suc k + n ≡ limit → k + suc n ≡ limit
deeper k n limit e = omega (arith, e)

pub shallower : (k n limit : ℕ) → k + suc n ≡ limit → suc k + n ≡ limit
shallower k n limit e = omega (arith, e)

-- ## First parts of lists

pub taken_joined : {X : Type 0} (xs ys : List X) (n : ℕ) → n ≡ length xs → take n (xs ++ ys) ≡ xs
taken_joined [] ys zero e = take_none ys
  where
    take_none : {X : Type 0} (ys : List X) → take 0 ys ≡ []
    take_none [] = refl
    take_none (y ∷ ys) = refl
taken_joined [] ys (suc n) e = absurd (omega (arith, e))
taken_joined (x ∷ xs) ys zero e = absurd (omega (arith, e))
taken_joined (x ∷ xs) ys (suc n) e = ap (λ zs. x ∷ zs) (taken_joined xs ys n (omega (arith, e)))

pub length_taken : {X : Type 0} (xs : List X) (n : ℕ) → n ≤ length xs → length (take n xs) ≡ n
length_taken [] zero e = refl
length_taken [] (suc n) e = absurd (omega (arith, e))
length_taken (x ∷ xs) zero e = refl
length_taken (x ∷ xs) (suc n) e = let h : length (take n xs) ≡ n = length_taken xs n (omega (arith, e)) in ap suc h

pub get_taken : {X : Type 0} (xs : List X) (n i : ℕ) (x : X) → slice_get (take n xs) i ≡ Some x → slice_get xs i ≡ Some x
get_taken [] zero i x e = cc
get_taken [] (suc n) i x e = e
get_taken (y ∷ xs) zero i x e = cc
get_taken (y ∷ xs) (suc n) zero x e = e
get_taken (y ∷ xs) (suc n) (suc i) x e = get_taken xs n i x e

module _ (order : Order) (fetched : List ℕ) (code : List Instr) (values : List EnumList) (table : Table) (h : Home) (own limit : ℕ) (noted : List Item) (direct : ℕ) (target : List ℕ → Read)
    (planned : IsPlanned code values table) where
  abbrev Right : ℕ → List EntryAt → Outcome → Type 0
  Right at seen o = IsRight order fetched code table h own limit noted direct target at seen o

  -- `record`: a struct begins
  pub struct_right : (s : State) (k : ℕ) (fs : List Around) (seen : List EntryAt) (names : Names) (t : ℕ) (members : List Field)
      → type_at table t ≡ Some (def.Struct members) → AllByRecursion (IsFine table k) (types_of members)
      → Within code table h own limit seen (suc k) fs t (parts_of s) → Told noted direct order fetched h seen names s.cells s.numbers s.max_at (length s.nodes) [] → length fetched ≡ s.at
      → IsRunAt code s.pc (body_run code table t (def.Struct members))
      → ((later : List ℕ) → finish order (fetched ++ later) table h s.max (suc k) fs
      (read_children order (fetched ++ later) table h (read_in_place order (fetched ++ later) table h k s.max) (Some (def.Struct members)) (length (nodes_around fs)) tree.Rec (types_of members)
      (going s.at seen) names)
      ≡ target (fetched ++ later))
      → Right s.at seen (goes (next (pushed (frame.Record 0 (length s.members)) (with_node (tree.Rec, length members) None s))))
  struct_right s k fs seen names t members et inner w told reached run rest =
      let n : ℕ = length (nodes_around fs) in
      let f : Around = record { node = n; of = Some (def.Struct members); label = tree.Rec; done = none; next = n + 1; left = types_of members; typed = t; child = 0; before = [] } in
      let many : length members ≡ 0 + length (types_of members) = let e : length (types_of members) ≡ length members = length-map members (λ f. f.of.0) in omega (arith, e) in
      let new =
      added code table h own limit seen (suc k) fs t (parts_of s) (tree.Rec, length members) None w (none_found order fetched h seen names s.cells s.numbers s.max_at (length s.nodes) [] told) in
      record {
        depth = suc k;
        fs = fs;
        point = between f;
        seen = seen;
        names = names;
        deep = w.deep;
        spot = (
          members,
          members,
          record { typed = et; of = refl; label = refl; left = refl; all = refl; many = refl; shaped = tt },
          next_at code s.pc (op.Record (length members)) (rest_run code table members members) run,
        );
        phase = refl;
        registers = tt;
        holds = tt;
        inside = ((0, length s.members, refl), (s.top, (s.stack, refl, w.inside)));
        begin = (ap length w.members, w.begin);
        fits = (inner, w.fits);
        tied = w.tied;
        nodes = ap₂ (λ xs j. xs ++ (tree.Rec, j) ∷ []) w.nodes many;
        numbered = (refl, sym (length-append (nodes_around fs) ((tree.Rec, 0 + length (types_of members)) ∷ [])), w.numbered);
        members = w.members ∙ sym (append-nil (members_around table h fs));
        pending = w.pending ∙ ap (map (owed table)) (sym (append-nil (pointers_around table h fs)));
        many = let m = new.many in omega (arith, m);
        kept = new.kept;
        first = new.first;
        reached = omega (arith, reached);
        told = told_node order fetched h seen names s.cells s.numbers s.max_at s.nodes (tree.Rec, length members) [] told;
        rest = rest;
      }

  -- `call`: the next member of a struct
  pub call_right : (s : State) (k : ℕ) (fs : List Around) (seen : List EntryAt) (names : Names) (f : Around) (members : List Field) (y : Field) (ys : List Field) (back start : ℕ) (outer : Frame)
      (under : List Frame)
      → s.phase ≡ begun → suc k + length fs ≡ limit → IsStruct code table f f.left members (y ∷ ys) → IsRunAt code s.pc (rest_run code table members (y ∷ ys))
      → s.top ≡ frame.Record back start → s.stack ≡ outer ∷ under → Inside code table outer under fs → BeginStruct table h s.top s.stack fs
      → AllByRecursion (IsFine table k) f.left → Fits code table (suc k) fs → Tied own f.typed fs
      → s.nodes ≡ nodes_between f fs → f.node ≡ length (nodes_around fs) → f.next ≡ length (nodes_between f fs) → Numbered fs
      → s.members ≡ members_around table h fs ++ read_members table h f.label f fs → s.fresh ≡ map (owed table) (pointers_around table h (f ∷ fs))
      → length s.firsts + 0 ≡ length s.members → KeptAll h seen s.max_at s.nodes s.members s.firsts → KeptOwn h seen s.max_at s.nodes s.own
      → Told noted direct order fetched h seen names s.cells s.numbers s.max_at (length s.nodes) [] → length fetched ≡ s.at
      → ((later : List ℕ) → finish order (fetched ++ later) table h s.max (suc k) fs (continue order (fetched ++ later) table h s.max k f (going s.at seen) names) ≡ target (fetched ++ later))
      → Right s.at seen (goes (call_from s.top (place_at table y.of.0) s))
  call_right s k fs seen names f members y ys back start outer under phase deep is run et es inside begin inner fits tied en here_it next_it numbered em owes many kept first told reached rest =
      let t : ℕ = y.of.0 in
      let g : Around = with_child f t (types_of ys) in
      let m : Member = record { node = length s.nodes; pending = length s.fresh } in
      let last : Member = record { node = g.next; pending = length (pointers_around table h (g ∷ fs)) } in
      let fine : AllByRecursion (IsFine table k) (types_of (y ∷ ys)) = subst (AllByRecursion (IsFine table k)) is.left inner in
      let as_many : count f.done + length f.left ≡ count f.done + (1 + length (types_of ys)) =
      let e : length f.left ≡ suc (length (types_of ys)) = ap length is.left in omega (arith, e) in
      let same : nodes_between f fs ≡ nodes_around (g ∷ fs) = ap (λ j. nodes_around fs ++ ((f.label, j) ∷ flat f.done)) as_many in
      let at_it : f.next ≡ length (nodes_around (g ∷ fs)) = next_it ∙ ap length same in
      let start_is : BeginsAt (length (members_around table h fs)) (frame.Record back start) × Begin table h outer under fs =
      subst (λ st. BeginStruct table h (frame.Record back start) st fs) es (subst (λ x. BeginStruct table h x s.stack fs) et begin) in
      let ms : List Member = members_of table h (length (pointers_around table h fs)) f.before (f.node + 1) f.done in
      let members_are : s.members ++ m ∷ [] ≡ members_around table h (g ∷ fs) =
      ap₂ (λ xs x. xs ++ x ∷ []) (em ∙ ap (λ l. members_around table h fs ++ read_members table h l f fs) is.label)
      (ap₂ (λ (a : ℕ) (b : ℕ). record { node = a; pending = b }) (ap length en ∙ sym next_it) (ap length owes ∙ length-map (pointers_around table h (f ∷ fs)) (owed table)))
      ∙ append_assoc (members_around table h fs) ms (last ∷ [])
      ∙ ap (λ l. members_around table h fs ++ (read_members table h l g fs ++ open_member table h l g fs)) (sym is.label) in
      subst (λ x. Right s.at seen (goes (call_from x (place_at table t) s))) (sym et)
      (arrives order fetched code values table h own limit noted direct target planned (call_from (frame.Record back start) (place_at table t) s) k (g ∷ fs) seen names t fine.0 refl refl
      (record {
        deep = deeper k (length fs) limit deep;
        inside = (
          in_struct members ys (record { typed = is.typed; of = is.of; label = is.label; left = refl; all = ap (λ l. f.before ++ l) (sym is.left) ∙ is.all; many = is.many; shaped = is.shaped })
              (next_at code s.pc (op.Call (place_at table t)) (rest_run code table members ys) run),
          (outer, (under, es, inside)),
        );
        begin = subst (λ st. Begin table h (frame.Record (s.pc + 1) start) st (g ∷ fs)) (sym es) start_is;
        fits = (fine.1, fits);
        tied = (refl, tied);
        nodes = en ∙ same;
        numbered = (here_it, at_it, numbered);
        members = members_are;
        pending = owes;
        many = let l : length (s.members ++ m ∷ []) ≡ length s.members + 1 = length-append s.members (m ∷ []) in omega (arith, many, l);
        kept = λ i v x a b. one i v x b (get_joined s.members m i v a);
        first = first;
      })
      told reached
      (λ later.
      ap (λ j. finish order (fetched ++ later) table h s.max k (g ∷ fs) (read_in_place order (fetched ++ later) table h k s.max t j (going s.at seen) names)) (sym at_it)
      ∙ sym (ap (λ l. finish order (fetched ++ later) table h s.max (suc k) fs (continue order (fetched ++ later) table h s.max k (with_left f l) (going s.at seen) names)) is.left)
      ∙ rest later))
    where
      one : (i : ℕ) (v : Member) (x : First) → slice_get s.firsts i ≡ Some x
          → (slice_get s.members i ≡ Some v) ⊎ ((i ≡ length s.members) × (record { node = length s.nodes; pending = length s.fresh } ≡ v))
          → Kept h seen s.max_at s.nodes v.node x
      one i v x b (inl a) = kept i v x a b
      one i v x b (inr a) = let l : i < length s.firsts = slice_get_within s.firsts i x b in absurd (omega (arith, l, many, a.0))

  -- `close`: the end of a struct
  pub close_right : (s : State) (k : ℕ) (fs : List Around) (seen : List EntryAt) (names : Names) (f : Around) (members : List Field) (so_far : List (List Agreement)) (back start : ℕ) (outer : Frame)
      (under : List Frame)
      → suc k + length fs ≡ limit → IsStruct code table f [] members [] → IsRunAt code s.pc (op.Close ∷ op.Ret ∷ [])
      → so_far ≡ map (λ g. member_agreements f.done g.vars) members
      → s.top ≡ frame.Record back start → s.stack ≡ outer ∷ under → Inside code table outer under fs → BeginStruct table h s.top s.stack fs
      → Fits code table (suc k) fs → Tied own f.typed fs
      → s.nodes ≡ nodes_between f fs → f.node ≡ length (nodes_around fs) → f.left ≡ [] → Numbered fs
      → s.members ≡ members_around table h fs ++ read_members table h f.label f fs
      → s.fresh ≡ map (owed table) (pointers_around table h fs ++ governed_pointers table h f.before so_far (f.node + 1) f.done)
      → length s.firsts + 0 ≡ length s.members → KeptAll h seen s.max_at s.nodes s.members s.firsts → KeptOwn h seen s.max_at s.nodes s.own
      → Told noted direct order fetched h seen names s.cells s.numbers s.max_at (length s.nodes) [] → length fetched ≡ s.at
      → ((later : List ℕ) → finish order (fetched ++ later) table h s.max (suc k) fs (record { tree = node f.label f.done; progress = going s.at seen; names = names }) ≡ target (fetched ++ later))
      → Right s.at seen (goes (close_of s.top s))
  close_right s k fs seen names f members so_far back start outer under deep is run es_far et es inside begin fits tied en here_it none_left numbered em owes many kept first told reached rest =
      let start_is : BeginsAt (length (members_around table h fs)) (frame.Record back start) × Begin table h outer under fs =
      subst (λ st. BeginStruct table h (frame.Record back start) st fs) es (subst (λ x. BeginStruct table h x s.stack fs) et begin) in
      let zero_left : count f.done + length f.left ≡ count f.done + 0 = ap (λ l. count f.done + length l) none_left in
      let all : f.before ≡ types_of members = sym (append-nil f.before) ∙ is.all in
      let members_are : take start s.members ≡ members_around table h fs =
      ap (take start) em ∙ taken_joined (members_around table h fs) (read_members table h f.label f fs) start start_is.0 in
      let enough : start ≤ length s.firsts =
      let a : length s.members ≡ length (members_around table h fs) + length (read_members table h f.label f fs) =
      ap length em ∙ length-append (members_around table h fs) (read_members table h f.label f fs) in
      let b : start ≡ length (members_around table h fs) = start_is.0 in omega (arith, a, b, many) in
      subst (λ x. Right s.at seen (goes (close_of x s))) (sym et)
      (subst (λ st. Right s.at seen (goes (next (popped_to st (with_members (take start s.members) (take start s.firsts) s))))) (sym es)
      (record {
        depth = suc k;
        fs = fs;
        point = has f.typed (node f.label f.done);
        seen = seen;
        names = names;
        deep = deep;
        spot = (at_ret (next_at code s.pc op.Close (op.Ret ∷ []) run), subst (λ l. FitsPointer (type_at table f.typed) (is_pointer l)) (sym is.label) (no_pointer (type_at table f.typed)));
        phase = refl;
        registers = tt;
        holds = tt;
        inside = inside;
        begin = start_is.1;
        fits = fits;
        tied = tied;
        nodes = en ∙ ap (λ j. nodes_around fs ++ ((f.label, j) ∷ flat f.done)) zero_left ∙ node_closed f.label f.done (nodes_around fs);
        numbered = numbered;
        members = members_are;
        pending =
            owes ∙ ap (λ ps. map (owed table) (pointers_around table h fs ++ ps))
            (ap₂ (λ us ws. governed_pointers table h us ws (f.node + 1) f.done) all es_far
            ∙ sym (of_struct table h f.typed f.node members f.done is.typed)
            ∙ ap₂ (λ l n. pointers table h (f.typed ∷ []) n (more (node l f.done) none)) (sym is.label) here_it);
        many =
            let a : length (take start s.firsts) ≡ start = length_taken s.firsts start enough in
            let b : length (take start s.members) ≡ length (members_around table h fs) = ap length members_are in
            let c : start ≡ length (members_around table h fs) = start_is.0 in omega (arith, a, b, c);
        kept = λ i m x a b. kept i m x (get_taken s.members start i m a) (get_taken s.firsts start i x b);
        first = first;
        reached = omega (arith, reached);
        told = told;
        rest = rest;
      }))
