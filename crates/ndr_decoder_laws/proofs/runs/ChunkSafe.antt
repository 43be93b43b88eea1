-- The elements of a chunk are made, as the plain reader reads them, so the states that are reached among them are safe.
use Rattle.std.proofs.Common.{◌≡◌, ◌≤◌, ℕ, ◌+◌, zero, suc, List, [], ◌∷◌, ◌++◌, length, Some, refl, ap, sym, ◌∙◌, inr, subst, arith, replicate}
use Rattle.std.specs.List.{AllByRecursion}
use Rattle.std.proofs.lemmas.List.{length-replicate}
use Rattle.nd_base.specs.declared.octets.Order.{Order}
use Rattle.nd_base.specs.declared.TheConstants.{STREAM_LIMIT}
use Rattle.nd_types.specs.declared.types.TypeId.{TypeId}
use Rattle.nd_types.specs.declared.types.TypeDef.TheVariants as def
use Rattle.nd_types.specs.Number.{AreOctets}
use Rattle.nd_types.specs.Table.{Table, type_at}
use Rattle.nd_value.specs.declared.item.Home.{Home}
use Rattle.nd_value.specs.declared.item.Item.{Item}
use Rattle.nd_value.specs.Setting.{Setting}
use Rattle.nd_value.specs.Tree as tree
use Rattle.nd_value.specs.Tree.{Trees, node, none, more, count, node_count, joined}
use Rattle.nd_grammar.specs.LegalSide.{IsLegalSide}
use Rattle.nd_grammar.specs.Reader.{Progress, Names, Read, ReadAll, read_list, read_in_place}
use Rattle.nd_grammar.proofs.LegalSides.{laid_out}
use Rattle.nd_grammar.proofs.legal.LegalUsable.{small_bounds}
use Rattle.nd_grammar.proofs.reader.MadeTrees.{made_count}
use Rattle.nd_grammar.specs.MadeTrees.{MadeTree, MadeTrees}
use Rattle.nd_grammar.proofs.reader.ReaderMakes.{AllMake, Make, list_makes, in_place_makes}
use Rattle.ndr_code.specs.declared.instr.Instr.{Instr}
use Rattle.ndr_code.specs.declared.lists.EnumList.{EnumList}
use Rattle.nd_grammar.proofs.reader.ReaderPipes.{joined_count as count_joined}
use Rattle.ndr_decoder_laws.specs.steps.Chunks.{chunk_read}
use Rattle.ndr_decoder_laws.specs.steps.Spots.{IsFine, IsPlanned}
use Rattle.ndr_decoder_laws.specs.steps.Steps.{State}
use Rattle.ndr_decoder_laws.specs.steps.Good.{Good}
use Rattle.ndr_decoder_laws.specs.runs.Reaching.{Reaches, IsSafe}
use Rattle.ndr_decoder_laws.specs.runs.Paid.{IsPaid}
use Rattle.ndr_decoder_laws.proofs.runs.Safe.{fine_readable, safe_along}

pub many_alike : (P : ℕ → Type 0) (t k : ℕ) → P t → AllByRecursion P (replicate k t)
many_alike P t zero a = tt
many_alike P t (suc k) a = (a, many_alike P t k a)

pub more_alike : (t m n : ℕ) → replicate (m + n) t ≡ replicate m t ++ replicate n t
more_alike t zero n = let z : zero + n ≡ n = omega arith in ap (λ k. replicate k t) z
more_alike t (suc m) n =
    let z : suc m + n ≡ suc (m + n) = omega arith in
    ap (λ k. replicate k t) z ∙ ap (λ us. t ∷ us) (more_alike t m n)

made_joined : (table : Table) (us vs : List ℕ) (xs ys : Trees) → MadeTrees table us xs → MadeTrees table vs ys → MadeTrees table (us ++ vs) (joined xs ys)
made_joined table [] vs none ys a b = b
made_joined table [] vs (more x xs) ys a b = absurd a
made_joined table (u ∷ us) vs none ys a b = absurd a
made_joined table (u ∷ us) vs (more (node l ks) xs) ys a b = (a.0, a.1, made_joined table us vs xs ys a.2 b)

module _ (w : Setting) (side : IsLegalSide w) (order : Order) (h : Home) (pipe : ℕ) (elem : TypeId) (there : type_at w.table pipe ≡ Some (def.Pipe elem)) (fine : IsFine w.table 32 elem.0)
    (done : Trees)
    (made : MadeTrees w.table (replicate (count done) elem.0) done) (k : ℕ) (p : Progress) (names : Names) where
  -- the pipe with the elements of a chunk more is made
  pub chunk_made : (octets : List ℕ) → AreOctets octets → MadeTree w.table (type_at w.table pipe) (chunk_read order w.table h elem done k p names octets).tree
  chunk_made octets all =
      let reader : ℕ → ℕ → Progress → Names → Read = read_in_place order octets w.table h 32 0 in
      let kids : ReadAll = read_list w.table reader (replicate k elem.0) (1 + node_count done) p names in
      let each : Make order octets all w.table h (small_bounds w.table side.operations side.legal) (laid_out w side).hoisting reader elem.0 =
      in_place_makes order octets all w.table h (small_bounds w.table side.operations side.legal) (laid_out w side).hoisting 32 0 elem.0 (omega arith) (fine_readable w.table 32 elem.0 fine) in
      let news : AllMake order octets all w.table h (small_bounds w.table side.operations side.legal) (laid_out w side).hoisting (replicate k elem.0) p names kids =
      list_makes order octets all w.table h (small_bounds w.table side.operations side.legal) (laid_out w side).hoisting reader (replicate k elem.0)
      (many_alike (Make order octets all w.table h (small_bounds w.table side.operations side.legal) (laid_out w side).hoisting reader) elem.0 k each) (1 + node_count done) p names in
      let n : count kids.trees ≡ length (replicate k elem.0) = made_count w.table (replicate k elem.0) kids.trees news.made in
      let m : count (joined done kids.trees) ≡ count done + k = count_joined done kids.trees ∙ ap (λ j. count done + j) (n ∙ length-replicate k elem.0) in
      let types : replicate (count done) elem.0 ++ replicate k elem.0 ≡ replicate (count (joined done kids.trees)) elem.0 =
      sym (more_alike elem.0 (count done) k) ∙ ap (λ j. replicate j elem.0) (sym m) in
      let all_made : MadeTrees w.table (replicate (count (joined done kids.trees)) elem.0) (joined done kids.trees) =
      subst (λ ts. MadeTrees w.table ts (joined done kids.trees)) types (made_joined w.table (replicate (count done) elem.0) (replicate k elem.0) done kids.trees made news.made) in
      subst (λ d. MadeTree w.table d (node tree.Pipe (joined done kids.trees))) (sym there)
      (inr (record { shape = refl; range = refl; no_null = refl; counts = refl; machine = refl }), all_made)

-- in a chunk of a pipe
pub safe_in_chunk : (w : Setting) → IsLegalSide w → (values : List EnumList) (order : Order) (code : List Instr) (h : Home) (pipe : ℕ) (elem : TypeId) (direct : ℕ) → IsPlanned code values w.table
    → type_at w.table pipe ≡ Some (def.Pipe elem) → IsFine w.table 32 elem.0 → (done : Trees) → MadeTrees w.table (replicate (count done) elem.0) done → (k : ℕ) (p : Progress) (names : Names)
    → (f0 : List ℕ) → AreOctets f0 → length f0 ≤ STREAM_LIMIT → (n0 : List Item) (s0 : State)
    → Good order f0 code w.table h pipe 33 n0 direct (chunk_read order w.table h elem done k p names) s0 → IsPaid s0
    → (fetched : List ℕ) (noted : List Item) (s : State) → Reaches values order code h s0 fetched noted s → IsSafe code s
safe_in_chunk w side values order code h pipe elem direct planned there fine done made k p names f0 octets short n0 s0 g0 pays fetched noted s r =
    safe_along w side values order code h pipe 33 direct (chunk_read order w.table h elem done k p names) planned (chunk_made w side order h pipe elem there fine done made k p names) (omega arith)
    f0 octets short n0 s0 g0 pays fetched noted s r
