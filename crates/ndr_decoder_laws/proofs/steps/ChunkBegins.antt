-- The beginning of a chunk's elements: the state at the first of them means what the plain reader has to read of the chunk.
use Rattle.std.proofs.Common.{◌≡◌, ℕ, ◌+◌, zero, suc, List, [], ◌∷◌, ◌++◌, length, Some, None, refl, ap, ap₂, sym, ◌∙◌, subst, arith, replicate}
use Rattle.std.specs.List.{AllByRecursion, slice_get}
use Rattle.std.proofs.lemmas.List.{length-replicate}
use Rattle.nd_base.specs.declared.octets.Order.{Order}
use Rattle.nd_types.specs.declared.types.TypeId.{TypeId}
use Rattle.nd_types.specs.declared.types.TypeDef.TheVariants as def
use Rattle.nd_types.specs.Table.{Table, type_at}
use Rattle.nd_value.specs.declared.item.Home.{Home}
use Rattle.nd_value.specs.declared.item.Item.{Item}
use Rattle.nd_value.specs.Tree as tree
use Rattle.nd_value.specs.Tree.{Trees, node, more, flat, count, node_count, joined}
use Rattle.nd_grammar.specs.Entry.{EntryAt}
use Rattle.nd_grammar.specs.Reader.{Names, Read, ReadAll, pass_all, read_list, read_in_place, tree_nodes}
use Rattle.ndr_code.specs.declared.instr.Instr.{Instr}
use Rattle.ndr_code.specs.declared.instr.Instr.TheVariants as op
use Rattle.ndr_code.specs.declared.lists.EnumList.{EnumList}
use Rattle.ndr_code.specs.Code.{place_at}
use Rattle.ndr_code.proofs.Runs.{next_at}
use Rattle.ndr_decoder_laws.specs.reader.Around.{Around, going, finish, nodes_around}
use Rattle.nd_grammar.proofs.agreements.EntriesTell.{flat_length as length_flat}
use Rattle.ndr_decoder_laws.specs.declared.frame.Frame.TheVariants as frame
use Rattle.ndr_decoder_laws.specs.declared.first.First.{First}
use Rattle.ndr_decoder_laws.specs.declared.first.First.TheVariants as first
use Rattle.ndr_decoder_laws.specs.declared.first.Member.{Member}
use Rattle.ndr_decoder_laws.specs.steps.Spots.{IsFine, IsFrame, in_pipe, IsPlanned, Inside}
use Rattle.ndr_decoder_laws.specs.steps.Steps.{State}
use Rattle.ndr_decoder_laws.specs.steps.Good.{Kept, Good, Begin, due_member}
use Rattle.ndr_decoder_laws.specs.steps.Chunks.{in_chunk, chunk_read, IsChunkBegun}
use Rattle.ndr_decoder_laws.proofs.steps.Arriving.{Within, parts_of, arrives}
use Rattle.nd_grammar.proofs.PlainStreams.{no_tests_below as no_tests}

all_alike : (P : ℕ → Type 0) (t n : ℕ) → P t → AllByRecursion P (replicate n t)
all_alike P t zero a = tt
all_alike P t (suc n) a = (a, all_alike P t n a)

module _ (order : Order) (fetched : List ℕ) (code : List Instr) (values : List EnumList) (table : Table) (h : Home) (pipe : ℕ) (elem : TypeId) (noted : List Item) (direct : ℕ)
    (planned : IsPlanned code values table) (s : State)
    (done : Trees) (n : ℕ) (seen : List EntryAt) (names : Names) (there : type_at table pipe ≡ Some (def.Pipe elem)) (fine : IsFine table 32 elem.0)
    (begins : IsChunkBegun noted direct order fetched table h elem done n seen names s) where
  abbrev f : Around
  f = in_chunk pipe elem done n

  abbrev target : List ℕ → Read
  target octets = chunk_read order table h elem done (suc n) (going s.at seen) names octets

  is_frame : IsFrame code table f (frame.Elements n (place_at table elem.0) 1)
  is_frame =
      in_pipe elem (record { typed = there; of = refl; label = refl; child = refl; before = refl }) refl refl (next_at code 0 op.Void (op.Ret ∷ []) planned.empty_arm)

  inside : Inside code table s.top s.stack (f ∷ [])
  inside =
      subst (λ t. Inside code table t s.stack (f ∷ [])) (sym begins.top)
      (subst (λ st. Inside code table (frame.Elements n (place_at table elem.0) 1) st (f ∷ [])) (sym begins.stack) (is_frame, (frame.Home, ([], refl, (refl, refl)))))

  begin : Begin table h s.top s.stack (f ∷ [])
  begin =
      subst (λ t. Begin table h t s.stack (f ∷ [])) (sym begins.top)
      (subst (λ st. Begin table h (frame.Elements n (place_at table elem.0) 1) st (f ∷ [])) (sym begins.stack) (tt, tt))

  nodes_are : s.nodes ≡ nodes_around (f ∷ [])
  nodes_are =
      let l : length (replicate n elem.0) ≡ n = length-replicate n elem.0 in
      let e : suc n ≡ 1 + length (replicate n elem.0) = omega (arith, l) in
      begins.nodes ∙ ap (λ k. (tree.Pipe, count done + k) ∷ flat done) e

  as_many : 1 + node_count done ≡ length (nodes_around (f ∷ []))
  as_many = let l : length (flat done) ≡ node_count done = length_flat done in omega (arith, l)

  no_member : (i : ℕ) (m : Member) (x : First) → slice_get s.members i ≡ Some m → slice_get s.firsts i ≡ Some x → Kept h seen s.max_at s.nodes m.node x
  no_member i m x a b = absurd (none_there i m (ap (λ ms. slice_get ms i) (sym begins.members) ∙ a))
    where
      none_there : (i : ℕ) (m : Member) → slice_get [] i ≡ Some m → ⊥
      none_there i m e = cc

  kept_own : Kept h seen s.max_at s.nodes 0 first.Other
  kept_own = record {
    is = (tree.Pipe, count done + suc n);
    place = None;
    there = ap (λ xs. slice_get xs 0) begins.nodes;
    kept = refl;
    found = begins.found;
  }

  within : Within code table h pipe 33 seen 32 (f ∷ []) elem.0 (parts_of s)
  within = record {
    deep = refl;
    inside = inside;
    begin = begin;
    fits = (all_alike (IsFine table 32) elem.0 n fine, tt);
    tied = (refl, refl);
    nodes = nodes_are;
    numbered = (refl, as_many, tt);
    members = begins.members;
    pending = begins.fresh;
    many = nothing_yet;
    kept = no_member;
    first = (first.Other, begins.own, kept_own);
  }
    where
      nothing_yet : length s.firsts + due_member s.top ≡ length s.members
      nothing_yet = ap (λ xs. length xs + due_member s.top) begins.firsts ∙ ap (λ t. 0 + due_member t) begins.top ∙ ap length (sym begins.members)

  -- the first element and those after it, as the plain reader reads them
  whole_chunk : (octets : List ℕ) (k m : ℕ) → 1 + node_count done ≡ k → m ≡ 0
      → finish order octets table h m 32 (f ∷ []) (read_in_place order octets table h 32 m elem.0 k (going s.at seen) names) ≡ target octets
  whole_chunk octets k m e z =
      let first_read : Read = read_in_place order octets table h 32 0 elem.0 (1 + node_count done) (going s.at seen) names in
      let others : ReadAll = read_list table (read_in_place order octets table h 32 0) (replicate n elem.0) (1 + node_count done + tree_nodes first_read.tree) first_read.progress first_read.names in
      let kids : Trees = joined done (more first_read.tree others.trees) in
      ap₂ (λ a b. finish order octets table h a 32 (f ∷ []) (read_in_place order octets table h 32 a elem.0 b (going s.at seen) names)) z (sym e)
      ∙ ap (λ xs. record { tree = node tree.Pipe kids; progress = pass_all order octets xs others.progress; names = others.names }) (no_tests h 1 kids)

  pub begins_chunk : s.pc ≡ place_at table elem.0 → Good order fetched code table h pipe 33 noted direct target s
  begins_chunk at_pc =
      arrives order fetched code values table h pipe 33 noted direct target planned s 32 (f ∷ []) seen names elem.0 fine at_pc begins.phase within begins.told begins.reached
      (λ later. whole_chunk (fetched ++ later) (length (nodes_around (f ∷ []))) s.max as_many begins.max)
