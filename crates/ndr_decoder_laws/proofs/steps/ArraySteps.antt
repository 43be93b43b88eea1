-- Arrays: the node of an array, and its first element if it has one. A union's arm is read in the same way.
use Rattle.std.proofs.Common.{◌≡◌, ℕ, ◌+◌, zero, suc, Bool, List, [], ◌∷◌, ◌++◌, length, Option, Some, refl, ap, ap₂, sym, ◌∙◌, arith, length-append, map}
use Rattle.std.specs.Prelude.{replicate}
use Rattle.std.specs.List.{AllByRecursion}
use Rattle.std.proofs.lemmas.List.{append-nil, length-replicate}
use Rattle.nd_base.specs.declared.octets.Order.{Order}
use Rattle.nd_types.specs.declared.types.Attr.{Attr}
use Rattle.nd_types.specs.declared.types.TypeDef.TheVariants as def
use Rattle.nd_types.specs.declared.types.TypeId.{TypeId}
use Rattle.nd_types.specs.Table.{Table, type_at}
use Rattle.nd_value.specs.declared.item.Home.{Home}
use Rattle.nd_value.specs.declared.item.Item.{Item}
use Rattle.nd_value.specs.Tree as tree
use Rattle.nd_value.specs.Tree.{node, none, Flat}
use Rattle.nd_grammar.specs.Entry.{EntryAt}
use Rattle.nd_grammar.specs.Refusal.{tested_at}
use Rattle.nd_grammar.specs.Reader.{Names, Read, read_in_place, read_children}
use Rattle.ndr_code.specs.declared.instr.Instr.{Instr}
use Rattle.ndr_code.specs.declared.instr.Instr.TheVariants as op
use Rattle.ndr_code.specs.declared.lists.EnumList.{EnumList}
use Rattle.ndr_code.specs.Code.{place_at}
use Rattle.ndr_code.specs.Runs.{IsRunAt}
use Rattle.ndr_decoder_laws.specs.reader.Around.{Around, going, finish, nodes_around, pointers_around}
use Rattle.ndr_decoder_laws.proofs.reader.HomePointers.{of_array}
use Rattle.ndr_decoder_laws.specs.steps.Spots.{IsFine, IsPlanned, in_array, at_ret}
use Rattle.ndr_decoder_laws.specs.steps.Steps.{State, Place, elements, with_node, place_of, place_in, first_of}
use Rattle.ndr_decoder_laws.specs.steps.Good.{Told, Good, owed, members_around}
use Rattle.ndr_decoder_laws.proofs.steps.Arriving.{Within, parts_of, arrives}
use Rattle.ndr_decoder_laws.proofs.steps.Adding.{added, told_node, leaf_good, no_pointer}
use Rattle.ndr_decoder_laws.proofs.steps.StructSteps.{deeper}

pub all_same : (table : Table) (k n t : ℕ) → IsFine table k t → AllByRecursion (IsFine table k) (replicate n t)
all_same table k zero t fine = tt
all_same table k (suc n) t fine = (fine, all_same table k n t fine)

module _ (order : Order) (fetched : List ℕ) (code : List Instr) (values : List EnumList) (table : Table) (h : Home) (own limit : ℕ) (noted : List Item) (direct : ℕ) (target : List ℕ → Read)
    (planned : IsPlanned code values table) where
  pub elements_right : (s : State) (k : ℕ) (fs : List Around) (seen : List EntryAt) (names : Names) (t max offset c : ℕ) (elem : TypeId) (bound : Option ℕ) (varying : Bool) (place : Option ℕ)
      (half : List Place)
      → type_at table t ≡ Some (def.Array elem bound varying) → IsFine table k elem.0
      → Within code table h own limit seen (suc k) fs t (parts_of s)
      → ((a : Attr) → tested_at seen a h (length s.nodes) ≡ place_of a s.max_at (place_in (first_of (tree.Arr max offset, c) place)))
      → Told noted direct order fetched h seen names s.cells s.numbers s.max_at (length s.nodes) half → length fetched ≡ s.at → IsRunAt code (s.pc + 1) (op.Ret ∷ [])
      → ((later : List ℕ) → finish order (fetched ++ later) table h s.max (suc k) fs
      (read_children order (fetched ++ later) table h (read_in_place order (fetched ++ later) table h k s.max) (Some (def.Array elem bound varying)) (length (nodes_around fs)) (tree.Arr max offset)
      (replicate c elem.0)
      (going s.at seen) names) ≡ target (fetched ++ later))
      → Good order fetched code table h own limit noted direct target (elements c (place_at table elem.0) (with_node (tree.Arr max offset, c) place s))
  elements_right s k fs seen names t max offset zero elem bound varying place half et fine w found told reached run rest =
      leaf_good order fetched code table h own limit noted direct target (parts_of s) (s.pc + 1) s.at s.max s.tag s.carrier s.fresh s.cells s.numbers (tree.Arr max offset) place half seen names
      (suc k) fs t w found told reached (at_ret run) (no_pointer (type_at table t))
      (w.pending ∙ ap (map (owed table))
      (sym (append-nil (pointers_around table h fs)) ∙ ap (λ ps. pointers_around table h fs ++ ps) (sym (of_array table h t (length (nodes_around fs)) max offset elem bound varying none et))))
      rest
  elements_right s k fs seen names t max offset (suc many) elem bound varying place half et fine w found told reached run rest =
      let n : ℕ = length (nodes_around fs) in
      let y : Flat = (tree.Arr max offset, suc many) in
      let f : Around = record {
        node = n;
        of = Some (def.Array elem bound varying);
        label = tree.Arr max offset;
        done = none;
        next = n + 1;
        left = replicate many elem.0;
        typed = t;
        child = elem.0;
        before = [];
      } in
      let count_is : suc many ≡ 0 + (1 + length (replicate many elem.0)) =
      let e : length (replicate many elem.0) ≡ many = length-replicate many elem.0 in omega (arith, e) in
      let after : n + 1 ≡ length (nodes_around (f ∷ fs)) = sym (length-append (nodes_around fs) ((tree.Arr max offset, 0 + (1 + length (replicate many elem.0))) ∷ [])) in
      let new = added code table h own limit seen (suc k) fs t (parts_of s) y place w found in
      arrives order fetched code values table h own limit noted direct target planned (elements (suc many) (place_at table elem.0) (with_node y place s)) k (f ∷ fs) seen names elem.0 fine refl refl
      (record {
        deep = deeper k (length fs) limit w.deep;
        inside = (
          in_array elem bound varying (record { typed = et; of = refl; max = max; offset = offset; label = refl; child = refl; before = refl }) refl refl run,
          (s.top, (s.stack, refl, w.inside)),
        );
        begin = (tt, w.begin);
        fits = (all_same table k many elem.0 fine, w.fits);
        tied = (refl, w.tied);
        nodes = ap₂ (λ xs j. xs ++ (tree.Arr max offset, j) ∷ []) w.nodes count_is;
        numbered = (refl, after, w.numbered);
        members = w.members ∙ sym (append-nil (members_around table h fs));
        pending = w.pending ∙ ap (map (owed table)) (sym (append-nil (pointers_around table h fs)));
        many = let m = new.many in omega (arith, m);
        kept = new.kept;
        first = new.first;
      })
      (told_node order fetched h seen names s.cells s.numbers s.max_at s.nodes y half told)
      reached
      (λ later. ap (λ j. finish order (fetched ++ later) table h s.max k (f ∷ fs) (read_in_place order (fetched ++ later) table h k s.max elem.0 j (going s.at seen) names)) (sym after) ∙ rest later)
