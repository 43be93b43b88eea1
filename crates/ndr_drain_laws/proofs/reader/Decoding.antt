-- The elements of a chunk as a decoder reads them: at their beginning its state means them, and what it comes to is what the chunk does.
-- `g` are the octets of the gap, `os` those of the count, `more` those that were fetched of the elements.
use Rattle.std.proofs.Common.{◌≡◌, ◌≤◌, ◌<◌, ◌⊎◌, inl, inr, ℕ, ◌+◌, zero, suc, List, [], ◌∷◌, ◌++◌, length, length-append, append_assoc, Some, None, refl, ap, ap₂, sym, ◌∙◌, subst, arith, replicate}
use Rattle.std.specs.Prelude.{flat_map, not, ◌&&◌}
use Rattle.std.specs.List.{AllByRecursion}
use Rattle.std.proofs.lemmas.Bool.{cases_lt}
use Rattle.std.proofs.lemmas.List.{append-nil}
use Rattle.nd_base.specs.declared.octets.Order.{Order}
use Rattle.nd_base.specs.declared.TheConstants.{STREAM_LIMIT}
use Rattle.nd_types.specs.declared.types.Attr.{Attr}
use Rattle.nd_types.specs.declared.types.Attr.TheVariants as attr
use Rattle.nd_types.specs.declared.types.TypeDef.TheVariants as def
use Rattle.nd_types.specs.declared.types.TypeId.{TypeId}
use Rattle.nd_types.specs.Number.{AreOctets, unsigned}
use Rattle.nd_types.specs.Layout.{hoists}
use Rattle.nd_types.specs.Table.{Table, type_at}
use Rattle.nd_value.specs.declared.item.Home.{Home}
use Rattle.nd_value.specs.declared.item.Home.TheVariants as home
use Rattle.nd_value.specs.declared.item.Item.{Item}
use Rattle.nd_value.specs.Canon.{target}
use Rattle.nd_value.specs.Setting.{Setting}
use Rattle.nd_value.specs.Tree as tree
use Rattle.nd_value.specs.Tree.{Trees, node, none, count}
use Rattle.nd_value.proofs.Apart.{all_append, all_left}
use Rattle.nd_grammar.specs.declared.reason.Reason.{Reason}
use Rattle.nd_grammar.specs.declared.reason.Reason.TheVariants as reason
use Rattle.nd_grammar.specs.Entry.{Entry, EntryAt, gap, size_at, end_to_end}
use Rattle.nd_grammar.specs.Items.{items}
use Rattle.nd_grammar.specs.LegalSide.{IsLegalSide}
use Rattle.nd_grammar.specs.NextMark.{named_cell}
use Rattle.nd_grammar.specs.Reader.{Names, Progress, Read, ReadAll, is_stopped, read_if, read_in_place, read_list, tree_nodes}
use Rattle.nd_grammar.specs.Refusal.{tested_at}
use Rattle.nd_grammar.specs.Stream.{kids_of}
use Rattle.ndr_code.specs.declared.instr.Instr.{Instr}
use Rattle.ndr_code.specs.declared.lists.EnumList.{EnumList}
use Rattle.ndr_code.specs.Code.{place_at}
use Rattle.ndr_drain_laws.specs.parts.Parts.{Spot, elem_at}
use Rattle.ndr_decoder_laws.specs.reader.Around.{going, stopped}
use Rattle.ndr_decoder_laws.specs.steps.Chunks.{IsChunkBegun, chunk_read}
use Rattle.ndr_decoder_laws.specs.steps.Good.{Good, Told, Whole}
use Rattle.ndr_decoder_laws.specs.steps.Spots.{IsFine, IsPlanned}
use Rattle.ndr_decoder_laws.specs.steps.Steps.{State, no_place, place_of}
use Rattle.ndr_decoder_laws.proofs.steps.ChunkBegins.{begins_chunk}
use Rattle.ndr_decoder_laws.proofs.steps.Passing.{items_stay}
use Rattle.ndr_decoder_laws.specs.runs.Paid.{AllRead, IsPaid, paid}
use Rattle.ndr_decoder_laws.specs.runs.Reaching.{IsSafe, Reaches}
use Rattle.ndr_decoder_laws.specs.runs.Refusals.{IsRefusedHere}
use Rattle.ndr_decoder_laws.proofs.runs.ChunkSafe.{safe_in_chunk}
use Rattle.ndr_decoder_laws.specs.stream.Added.{Added}
use Rattle.ndr_decoder_laws.specs.stream.Between.{AreNeeded}
use Rattle.ndr_decoder_laws.proofs.stream.StateAdds.{state_adds}
use Rattle.nd_grammar.specs.decoded.Verdict.{cells_named, once}
use Rattle.ndr_decoder_laws.specs.verdict.CellsSeen.{CellsSeen}
use Rattle.ndr_drain_laws.specs.reader.PartReader.{IsAtPipe, after_count, before_place, count_of, header_items, header_seen, no_names, part_target, read_part, to_elements, type_of_root}
use Rattle.ndr_drain_laws.specs.reader.Outcomes.{OpensPart, PartCut, PartRefused, PartWhole}
use Rattle.ndr_drain_laws.proofs.reader.Elements.{Silent, as_many_items, elem_is, part_silent}
use Rattle.ndr_drain_laws.proofs.reader.Header.{count_there, told_count}
use Rattle.ndr_drain_laws.proofs.reader.Headers.{after_zeros, header_stops, zeros_long}
use Rattle.ndr_drain_laws.proofs.reader.Refused.{IsNeededPart, refused_part}
use Rattle.ndr_drain_laws.proofs.reader.Renumbered.{own_entries}
use Rattle.ndr_drain_laws.proofs.reader.Through.{cut_here, gone_by}
use Rattle.ndr_drain_laws.proofs.reader.Wholes.{whole_part}
use Rattle.nd_lemmas.proofs.Lists.{last_of as last_one, same_before_last as snoc_first}

-- ## Entries that name no cell

abbrev cells_in : List EntryAt → List ℕ
cells_in xs = flat_map (λ x. target (named_cell x.entry.kind)) xs

silent_at : (at : ℕ) (ms : List Entry) → AllByRecursion Silent ms → AllByRecursion (λ x. Silent x.entry) (end_to_end at ms)
silent_at at [] a = tt
silent_at at (m ∷ ms) a = (a.0, silent_at (at + size_at at m.kind) ms a.1)

none_named : (xs : List EntryAt) → AllByRecursion (λ x. Silent x.entry) xs → cells_in xs ≡ []
none_named [] a = refl
none_named (x ∷ xs) a = ap₂ (λ o ys. target o ++ ys) a.0 (none_named xs a.1)

no_cell : (n : ℕ) → n ≤ 0 → n ≡ 0
no_cell n l = omega (arith, l)

-- the gap and the count of a chunk have no count or tag of a node
silent_header : (s : Spot) (k : ℕ) (a : Attr) → tested_at (header_seen s k) a (home.Root s.root) 0 ≡ place_of a None no_place
silent_header s k attr.Size = refl
silent_header s k attr.Max = refl
silent_header s k attr.First = refl
silent_header s k attr.Length = refl
silent_header s k attr.Last = refl
silent_header s k attr.Switch = refl

-- the plain reader gives so many values
list_count : (table : Table) (read : ℕ → ℕ → Progress → Names → Read) (t k n : ℕ) (p : Progress) (s : Names) → count (read_list table read (replicate k t) n p s).trees ≡ k
list_count table read t zero n p s = refl
list_count table read t (suc k) n p s =
    let first : Read = read_if (is_stopped p.stop && not (hoists table t)) (read t n) p s in
    ap suc (list_count table read t k (n + tree_nodes first.tree) first.progress first.names)

module _ (w : Setting) (side : IsLegalSide w) (order : Order) (s : Spot) (at_pipe : IsAtPipe w s) (elem : TypeId) (there : type_at w.table (type_of_root w s.root) ≡ Some (def.Pipe elem))
    (g os : List ℕ) (g_octets : AreOctets g) (size : length g ≡ gap s.place 4) (os_octets : AreOctets os) (four : length os ≡ 4) (short : after_count s ≤ STREAM_LIMIT)
    (c : ℕ) (some : unsigned order os ≡ suc c) where
  abbrev h : Home
  h = home.Root s.root

  abbrev Z : List ℕ
  Z = before_place s

  abbrev hd : List ℕ
  hd = g ++ os

  abbrev f0 : List ℕ
  f0 = to_elements s g os

  abbrev n0 : List Item
  n0 = header_items order s g os

  abbrev pipe : ℕ
  pipe = type_of_root w s.root

  abbrev its_target : List ℕ → Read
  its_target = part_target w order s elem c

  abbrev q : Progress
  q = going (after_count s) (header_seen s (suc c))

  hd_octets : AreOctets hd
  hd_octets = all_append (λ b. b < 256) g os g_octets os_octets

  f0_octets : AreOctets f0
  f0_octets = after_zeros w side order s at_pipe hd hd_octets

  f0_long : length f0 ≡ after_count s
  f0_long =
      let a = length-append Z hd in
      let b = length-append g os in
      let z = zeros_long w side order s at_pipe in
      omega (arith, a, b, z, size, four)

  -- ## The plain reader of the chunk comes to what the elements do

  abbrev kids_in : List ℕ → ReadAll
  kids_in z = read_list w.table (read_in_place order z w.table (home.Root s.root) 32 0) (replicate (suc c) elem.0) 1 q no_names

  same_octets : (more : List ℕ) → f0 ++ more ≡ Z ++ (hd ++ more)
  same_octets more = append_assoc Z hd more

  part_is : (more : List ℕ) → read_part w order (f0 ++ more) s ≡ kids_in (f0 ++ more)
  part_is more =
      let e : ((Z ++ g) ++ os) ++ more ≡ f0 ++ more = ap (λ u. u ++ more) (append_assoc Z g os) in
      let a : read_part w order (f0 ++ more) s
      ≡ read_list w.table (read_in_place order (f0 ++ more) w.table h 32 0) (replicate (unsigned order os) (elem_at w s.root)) 1 (going (after_count s) (header_seen s (unsigned order os))) no_names =
      subst (λ z. read_part w order z s
      ≡ read_list w.table (read_in_place order z w.table h 32 0) (replicate (unsigned order os) (elem_at w s.root)) 1 (going (after_count s) (header_seen s (unsigned order os))) no_names) e
      (count_there w order s Z (zeros_long w side order s at_pipe) g size os four short more) in
      a
      ∙ ap₂ (λ k t. read_list w.table (read_in_place order (f0 ++ more) w.table h 32 0) (replicate k t) 1 (going (after_count s) (header_seen s k)) no_names) some (elem_is w side s at_pipe elem there)

  -- over the octets after those before the place
  part_here : (more : List ℕ) → read_part w order (Z ++ (hd ++ more)) s ≡ kids_in (f0 ++ more)
  part_here more = ap (λ z. read_part w order z s) (sym (same_octets more)) ∙ part_is more

  target_progress : (more : List ℕ) → (read_part w order (Z ++ (hd ++ more)) s).progress ≡ (its_target (f0 ++ more)).progress
  target_progress more = ap (λ (r : ReadAll). r.progress) (part_here more)

  all_octets : (more : List ℕ) → AreOctets more → AreOctets (Z ++ (hd ++ more))
  all_octets more a = after_zeros w side order s at_pipe (hd ++ more) (all_append (λ b. b < 256) hd more hd_octets a)

  long_so : (more : List ℕ) → length (f0 ++ more) ≡ s.place + length (hd ++ more)
  long_so more = ap length (same_octets more) ∙ length-append Z (hd ++ more) ∙ ap (λ n. n + length (hd ++ more)) (zeros_long w side order s at_pipe)

  -- the entries that it passes name no cell
  seen_silent : (more : List ℕ) → AreOctets more → (earlier later : List EntryAt) → (read_part w order (Z ++ (hd ++ more)) s).progress.seen ≡ earlier ++ later → (n : ℕ) → CellsSeen earlier n 0 → n ≡ 0
  seen_silent more a earlier later e n x =
      let z : List ℕ = Z ++ (hd ++ more) in
      let gone = gone_by w side order s at_pipe Z (hd ++ more) (zeros_long w side order s at_pipe) (all_octets more a) suc in
      let k : ℕ = count_of w order z s in
      let ts : Trees = (read_part w order z s).trees in
      let own : List Entry = own_entries w s k ts in
      let quiet : AllByRecursion (λ x. Silent x.entry) (end_to_end s.place own) = silent_at s.place own (part_silent w side order s at_pipe z (all_octets more a) k ts) in
      let f : end_to_end s.place own ≡ earlier ++ (later ++ gone.later) = gone.split ∙ ap (λ u. u ++ gone.later) (sym gone.seen ∙ e) ∙ append_assoc earlier later gone.later in
      let first : AllByRecursion (λ x. Silent x.entry) earlier = all_left (λ x. Silent x.entry) earlier (later ++ gone.later) (subst (AllByRecursion (λ x. Silent x.entry)) f quiet) in
      let none_is : length (cells_named earlier) ≡ 0 = ap (λ cs. length (once [] cs)) (none_named earlier first) in
      no_cell n (omega (arith, x.many, none_is))

  -- ## Their beginning

  told_here : Told n0 0 order f0 h (header_seen s (suc c)) no_names [] [] None 1 []
  told_here =
      subst (λ z. Told n0 0 order z h (header_seen s (suc c)) no_names [] [] None 1 []) (append_assoc Z g os)
      (subst (λ k. Told n0 0 order ((Z ++ g) ++ os) h (header_seen s k) no_names [] [] None 1 []) some (told_count w order s Z (zeros_long w side order s at_pipe) g size os four short))

  module _ (values : List EnumList) (code : List Instr) (planned : IsPlanned code values w.table) (fine : IsFine w.table 32 elem.0) (x : State)
      (o : OpensPart (place_at w.table elem.0) c (after_count s) x) where
    told_at : Told n0 0 order f0 h (header_seen s (suc c)) no_names x.cells x.numbers x.max_at (length x.nodes) []
    told_at =
        subst (λ a. Told n0 0 order f0 h (header_seen s (suc c)) no_names a x.numbers x.max_at (length x.nodes) []) (sym o.cells)
        (subst (λ a. Told n0 0 order f0 h (header_seen s (suc c)) no_names [] a x.max_at (length x.nodes) []) (sym o.numbers)
        (subst (λ a. Told n0 0 order f0 h (header_seen s (suc c)) no_names [] [] a (length x.nodes) []) (sym o.max_at)
        (subst (λ a. Told n0 0 order f0 h (header_seen s (suc c)) no_names [] [] None (length a) []) (sym o.nodes) told_here)))

    begun_there : IsChunkBegun n0 0 order f0 w.table h elem none c (header_seen s (suc c)) no_names x
    begun_there = record {
      phase = o.phase;
      max = o.max;
      top = o.top;
      stack = o.stack;
      nodes = o.nodes ∙ (let z : suc c ≡ 0 + suc c = omega arith in ap (λ j. (tree.Pipe, j) ∷ []) z);
      own = o.own;
      members = o.members;
      firsts = o.firsts;
      fresh = o.fresh;
      found = λ a. silent_header s (suc c) a ∙ ap (λ m. place_of a m no_place) (sym o.max_at);
      reached = f0_long ∙ sym o.place;
      told = told_at;
    }

    pub begins : Good order (to_elements s g os) code w.table (home.Root s.root) (type_of_root w s.root) 33 (header_items order s g os) 0 (part_target w order s elem c) x
    begins =
        subst (λ a. Good order f0 code w.table h pipe 33 n0 0 (chunk_read order w.table h elem none (suc c) (going a (header_seen s (suc c))) no_names) x) o.place
        (begins_chunk order f0 code values w.table h pipe elem n0 0 planned x none c (header_seen s (suc c)) no_names there fine begun_there o.pc)

    pays : IsPaid x
    pays =
        let a : paid x.nodes ≡ 0 = ap paid o.nodes in
        let b : length x.cells ≡ 0 = ap length o.cells in
        record { nodes = omega (arith, a); read = subst AllRead (sym o.nodes) (tt, tt); cells = omega (arith, b) }

    pub is_safe : (fetched : List ℕ) (noted : List Item) (y : State) → Reaches values order code (home.Root s.root) x fetched noted y → IsSafe code y
    is_safe fetched noted y reached =
        safe_in_chunk w side values order code h pipe elem 0 planned there fine none tt (suc c) q no_names f0 f0_octets (omega (arith, f0_long, short)) n0 x begins pays fetched noted y reached

  -- ## Their end

  module _ (more : List ℕ) (more_octets : AreOctets more) (noted : List Item) where
    abbrev A : List ℕ
    A = before_place s ++ ((g ++ os) ++ more)

    items_same : (seen : List EntryAt) (xs : List Item) → items order (f0 ++ more) seen ≡ xs → items order A seen ≡ xs
    items_same seen xs e = ap (λ z. items order z seen) (sym (same_octets more)) ∙ e

    module _ (x : State)
        (it : Whole order (to_elements s g os ++ more) w.table (home.Root s.root) (type_of_root w s.root) (header_items order s g os ++ noted) 0 (part_target w order s elem c) x) where
      whole_is : record { tree = it.v; progress = going x.at it.seen; names = it.names } ≡ its_target (f0 ++ more)
      whole_is = subst (λ z. record { tree = it.v; progress = going x.at it.seen; names = it.names } ≡ its_target z) (append-nil (f0 ++ more)) (it.is [])

      progress_is : (read_part w order A s).progress ≡ going x.at it.seen
      progress_is = target_progress more ∙ sym (ap (λ (r : Read). r.progress) whole_is)

      tree_is : it.v ≡ node tree.Pipe (kids_in (f0 ++ more)).trees
      tree_is = ap (λ (r : Read). r.tree) whole_is

      kids_are : kids_of it.v ≡ (read_part w order A s).trees
      kids_are = ap kids_of tree_is ∙ sym (ap (λ (r : ReadAll). r.trees) (part_here more))

      pub is_whole : PartWhole w order s ((g ++ os) ++ more) (tree.items (kids_of it.v)) (header_items order s g os ++ noted)
      is_whole =
          subst (λ ts. PartWhole w order s (hd ++ more) (tree.items ts) (n0 ++ noted)) (sym kids_are)
          (whole_part w side order s at_pipe Z (hd ++ more) (zeros_long w side order s at_pipe) (all_octets more more_octets) (ap (λ (p : Progress). p.stop) progress_is)
          (ap (λ (p : Progress). p.at) progress_is ∙ sym it.reached ∙ long_so more) (n0 ++ noted)
          (ap (λ (p : Progress). items order A p.seen) progress_is ∙ items_same it.seen (n0 ++ noted) it.told.noted_are))

      pub is_pipe : (it.v ≡ node tree.Pipe (kids_of it.v)) × (length (tree.items (kids_of it.v)) ≡ suc c) × (length x.cells ≡ 0)
      is_pipe = (
        tree_is ∙ ap (λ v. node tree.Pipe (kids_of v)) (sym tree_is),
        as_many_items (kids_of it.v) ∙ ap count kids_are ∙ many_there,
        seen_silent more more_octets it.seen [] (ap (λ (p : Progress). p.seen) progress_is ∙ sym (append-nil it.seen)) (length x.cells) it.told.cells_named.named,
      )
        where
          many_there : count (read_part w order A s).trees ≡ suc c
          many_there = ap (λ (r : ReadAll). count r.trees) (part_here more) ∙ list_count w.table (read_in_place order (f0 ++ more) w.table h 32 0) elem.0 (suc c) 1 q no_names

    module _ (cells place : ℕ) (why : Reason) (it : IsRefusedHere order (to_elements s g os ++ more) (header_items order s g os ++ noted) cells 0 (part_target w order s elem c) place why)
        (needed : AreNeeded (part_target w order s elem c) (to_elements s g os) more) where
      stops : (read_part w order A s).progress ≡ stopped it.at it.seen (place, why)
      stops =
          target_progress more
          ∙ subst (λ z. (its_target z).progress ≡ stopped it.at it.seen (place, why)) (append-nil (f0 ++ more)) (it.stops [] (λ u. refl))

      all_needed : IsNeededPart w order s Z (hd ++ more)
      all_needed part last e = go (cases_lt 0 (length more))
        where
          n : length (hd ++ more) ≡ length hd + length more
          n = length-append hd more

          m : length (hd ++ more) ≡ length part + 1
          m = ap length e ∙ length-append part (last ∷ [])

          go : (0 < length more) ⊎ (length more ≤ 0) → (read_part w order (Z ++ part) s).progress.stop ≡ Some (length (Z ++ part), reason.Truncated)
          go (inr l) = header_stops w side order s at_pipe part (let a = length-append g os in omega (arith, a, n, m, l, size, four)) short
          go (inl l) =
              let (front, b, f) = last_one more l in
              let (at, seen, k) = needed front b f in
              let same : hd ++ front ≡ part = snoc_first (hd ++ front) part b last (append_assoc hd front (b ∷ []) ∙ ap (λ u. hd ++ u) (sym f) ∙ e) in
              let z : (read_part w order (Z ++ (hd ++ front)) s).progress ≡ stopped at seen (length (f0 ++ front), reason.Truncated) = target_progress front ∙ k in
              subst (λ u. (read_part w order (Z ++ u) s).progress.stop ≡ Some (length (Z ++ u), reason.Truncated)) same
              (ap (λ (p : Progress). p.stop) z ∙ ap (λ u. Some (length u, reason.Truncated)) (same_octets front))

      pub is_refused : PartRefused w order s ((g ++ os) ++ more) (header_items order s g os ++ noted) place why × (cells ≡ 0)
      is_refused = (
        refused_part w side order s at_pipe Z (hd ++ more) (zeros_long w side order s at_pipe) (all_octets more more_octets) place why (ap (λ (p : Progress). p.stop) stops) all_needed (n0 ++ noted)
            (ap (λ (p : Progress). items order A p.seen) stops ∙ items_same it.seen (n0 ++ noted) it.items_are),
        seen_silent more more_octets it.seen [] (ap (λ (p : Progress). p.seen) stops ∙ sym (append-nil it.seen)) cells it.cells_named,
      )

  -- ## Where they are cut off

  pub is_cut : (code : List Instr) (fetched more : List ℕ) → AreOctets fetched → AreOctets more → (noted : List Item) (x : State)
      → Good order (to_elements s g os ++ fetched) code w.table (home.Root s.root) (type_of_root w s.root) 33 (header_items order s g os ++ noted) 0 (part_target w order s elem c) x
      → PartCut w order s ((g ++ os) ++ (fetched ++ more)) (header_items order s g os ++ noted) × (length x.cells ≡ 0)
  is_cut code fetched more a b noted x good =
      let both : List ℕ = fetched ++ more in
      let all : AreOctets both = all_append (λ b. b < 256) fetched more a b in
      let z : List ℕ = (f0 ++ fetched) ++ more in
      let e : z ≡ f0 ++ both = append_assoc f0 fetched more in
      let grown : Added h (going x.at good.seen) (its_target z).progress = state_adds order (f0 ++ fetched) code w.table h pipe 33 (n0 ++ noted) 0 its_target x good more in
      let seen : (read_part w order (Z ++ (hd ++ both)) s).progress.seen ≡ good.seen ++ grown.added =
      ap (λ (p : Progress). p.seen) (target_progress both) ∙ subst (λ u. (its_target u).progress.seen ≡ good.seen ++ grown.added) e grown.seen in
      let i : items order (Z ++ (hd ++ both)) good.seen ≡ n0 ++ noted =
      ap (λ u. items order u good.seen) (sym (same_octets both) ∙ sym e) ∙ items_stay order (f0 ++ fetched) more good.seen good.told.lie_within ∙ good.told.noted_are in (
        cut_here w side order s at_pipe Z (hd ++ both) (zeros_long w side order s at_pipe) (all_octets both all) good.seen grown.added seen (n0 ++ noted) i,
        seen_silent both all good.seen grown.added seen (length x.cells) good.told.cells_named.named,
      )
