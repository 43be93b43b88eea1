-- The octets before a home pay for the cells that there are at its beginning.
use Rattle.std.proofs.Common.{◌≡◌, ◌≤◌, ◌<◌, ℕ, ◌+◌, ◌*◌, ◌^◌, suc, List, [], ◌∷◌, ◌++◌, length, None, refl, ap, sym, ◌∙◌, subst, arith}
use Rattle.std.proofs.lemmas.List.{append-nil, length-append, length-map}
use Rattle.nd_base.specs.declared.octets.Order.{Order}
use Rattle.nd_types.specs.Number.{AreOctets}
use Rattle.nd_value.specs.declared.item.Home.TheVariants as home
use Rattle.nd_value.specs.declared.item.Item.{Item}
use Rattle.nd_value.specs.Deferral.{Pending}
use Rattle.nd_value.specs.Setting.{Setting, root_list}
use Rattle.nd_value.specs.Tree.{Tree}
use Rattle.nd_value.proofs.FewRoots.{few_before_pipes}
use Rattle.nd_grammar.specs.Entry.{EntryAt}
use Rattle.nd_grammar.specs.LegalSide.{IsLegalSide}
use Rattle.nd_grammar.specs.StreamReader.{Reading}
use Rattle.nd_grammar.specs.ReaderState.{paid, State as IsReading}
use Rattle.nd_grammar.proofs.reader.ReaderStream.{roots_few}
use Rattle.ndr_decoder_laws.specs.reader.Around.{going}
use Rattle.ndr_decoder_laws.specs.steps.Good.{Told}
use Rattle.ndr_decoder_laws.specs.steps.Steps.{State}
use Rattle.ndr_decoder_laws.specs.runs.Paid.{AllRead, IsPaid}
use Rattle.ndr_decoder_laws.specs.runs.Paid as nodes
use Rattle.ndr_decoder_laws.specs.declared.kept.KeptRoot.{KeptRoot}
use Rattle.ndr_decoder_laws.specs.stream.Between.{Agrees, AreKept, Between, Opens}

pub opened_paid : (run : ℕ) (b : Between) (types : List ℕ) (x : State) → Opens run b types x → 4 * length types ≤ b.at + 4096 → IsPaid x
opened_paid run b types x o few =
    let none : nodes.paid x.nodes ≡ 0 = ap nodes.paid o.nodes in
    let many : length x.cells ≡ length types = ap length o.cells in
    let at = o.at in
    record { nodes = omega (arith, none); read = subst AllRead (sym o.nodes) tt; cells = omega (arith, many, at, few) }

kept_length : (seen : List EntryAt) (i : ℕ) (vs : List Tree) (ks : List KeptRoot) → AreKept seen i vs ks → length ks ≡ length vs
kept_length seen i [] [] a = refl
kept_length seen i [] (k ∷ ks) a = absurd a
kept_length seen i (v ∷ vs) [] a = absurd a
kept_length seen i (v ∷ vs) (k ∷ ks) a = ap suc (kept_length seen (suc i) vs ks a.2)

module _ (w : Setting) (side : IsLegalSide w) (order : Order) (fetched : List ℕ) (noted : List Item) (direct : ℕ) (b : Between) (s : Reading) (seen : List EntryAt) (ps : List Pending) (n : ℕ)
    (ag : Agrees w side order fetched noted direct b s seen ps n) where
  all : AreOctets (fetched ++ [])
  all = subst AreOctets (sym (append-nil fetched)) ag.octets

  is_reading : IsReading w side order (fetched ++ []) all s (ag.state [] all).0 ps n
  is_reading = (ag.state [] all).1

  told : Told noted direct order fetched (home.Root (length s.roots)) seen s.names b.cells b.numbers None 0 []
  told = ag.keeps.told (home.Root (length s.roots)) (omega arith)

  pub paid_between : 4 * length b.cells ≤ b.at + 4 * length s.roots
  paid_between =
      let at : paid s.progress ≡ paid (going b.at seen) = ap paid ag.progress in
      let many : length b.cells ≡ length s.names.cells = ap length told.cells_are ∙ length-map s.names.cells (λ c. c.of) in
      omega (arith, is_reading.few, at, many)

  pub roots_within : length s.roots + n ≤ 513
  roots_within =
      let few = few_before_pipes (root_list w) in
      let left = is_reading.roots_left in
      omega (arith, left, few, roots_few w side)

  pub roots_kept : length b.roots ≡ length s.roots
  roots_kept = kept_length seen 0 s.roots b.roots ag.keeps.roots

  pub few_kept : length b.roots < 2 ^ 32
  few_kept = omega (arith, roots_kept, roots_within)

  pub paid_same : (run : ℕ) (x : State) → Opens run b b.cells x → IsPaid x
  paid_same run x o = opened_paid run b b.cells x o (omega (arith, paid_between, roots_within))

  pub paid_more : (run to : ℕ) (x : State) → Opens run b (b.cells ++ to ∷ []) x → IsPaid x
  paid_more run to x o =
      let many = length-append b.cells (to ∷ []) in
      opened_paid run b (b.cells ++ to ∷ []) x o (omega (arith, paid_between, roots_within, many))
