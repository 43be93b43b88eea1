-- A root that was read in its place.
-- `x` is what was kept before it, `s1` when its home was open, `s2` after its value, `s3` after it was kept.
use Rattle.std.proofs.Common.{◌≡◌, ℕ, suc, List, [], ◌∷◌, ◌++◌, length, Option, Some, None, false, ap, sym, ◌∙◌, subst, map, arith}
use Rattle.std.specs.Prelude.{slice_get}
use Rattle.std.proofs.lemmas.List.{length-map}
use Rattle.nd_base.specs.declared.octets.Order.{Order}
use Rattle.nd_base.specs.Over.{SourceOver}
use Rattle.nd_value.specs.declared.item.Home.{Home}
use Rattle.nd_value.specs.declared.item.Home.TheVariants as home
use Rattle.nd_value.specs.declared.item.Item.{Item}
use Rattle.nd_value.specs.declared.value.Graph.{Graph}
use Rattle.nd_value.specs.Tree.{Tree, Referent, flat, more, none}
use Rattle.nd_types.specs.Roots.{Root}
use Rattle.nd_value.specs.Setting.{Setting, root_list}
use Rattle.nd_types.specs.Table.{type_at}
use Rattle.nd_flat.specs.Building.{Building, CanClose, CanCloseAt, closed, opened, with_root}
use Rattle.nd_flat.proofs.Forests.{whole-of}
use Rattle.nd_grammar.specs.Entry.{EntryAt}
use Rattle.nd_grammar.specs.LegalSide.{IsLegalSide}
use Rattle.nd_grammar.specs.StreamReader.{Reading}
use Rattle.ndr_decoder_laws.specs.declared.first.First.{First}
use Rattle.ndr_decoder_laws.specs.steps.Steps.{State}
use Rattle.ndr_decoder_state.specs.declared.machine.Machine.{Machine}
use Rattle.ndr_decoder_state.specs.Seen.{Outside, outside, state_of}
use Rattle.nd_grammar.specs.decoded.Verdict.{DecodingSeen, is_direct}
use Rattle.ndr_decoder_laws.specs.declared.kept.Kept.{Kept}
use Rattle.ndr_decoder_laws.specs.declared.kept.KeptRoot.{KeptRoot}
use Rattle.ndr_decoder_laws.specs.stream.Between.{Agrees, Between, IsKeptHome, RootAdded, home_target, root_read}
use Rattle.ndr_decoder_laws.specs.stream.Calls.{Took}
use Rattle.ndr_decoder_laws.proofs.stream.RootEnds as law
use Rattle.ndr_decoder_stream.specs.declared.stream.Stream.{Stream}
use Rattle.ndr_decoder_stream.specs.Ends.{HomeRan}
use Rattle.ndr_decoder_stream.specs.Seen.{HasOwn, KeepsAll, RootEnds, between_of, pending_in}
use Rattle.ndr_decoder_stream.proofs.GraphEnds.{root_ends}
use Rattle.ndr_decode.specs.Streaming.{HomeWhole, Stands, WentOn, cells_of}

pub ran : (m n : Machine) → outside n ≡ outside m → HomeRan m.builder n.builder
ran m n e = record {
  open_home = ap (λ (o : Outside). o.open_home) e;
  roots = ap (λ (o : Outside). o.roots) e;
  values = λ c. ap (λ (o : Outside). o.value c) e;
}

pub kept_of : (m : Machine) (k : Kept) (f : First) → m.own ≡ Some f → HasOwn m k → IsKeptHome (state_of m) k
kept_of m k f e h = record { first = e ∙ ap Some (sym (h f e).0); max_at = (h f e).1 }

pub can_close : (b : Building) (v : Tree) → b.nodes ≡ flat (more v none) → CanClose b
can_close b v e = go b.home
  where
    go : (o : Option Home) → CanCloseAt o b.nodes
    go None = tt
    go (Some h) = whole-of v b.nodes e

same_root : (b c : Between) (m : State) (k : KeptRoot) (g : Graph) → b.pending ≡ c.pending → b.roots ≡ c.roots → b.read ≡ c.read → root_read b m k g ≡ root_read c m k g
same_root b c m k g p r s =
    ap (λ u. record { at = m.at; pending = m.fresh ++ u; cells = m.cells; numbers = m.numbers; roots = b.roots ++ k ∷ []; read = b.read; graph = g }) p
    ∙ ap (λ u. record { at = m.at; pending = m.fresh ++ c.pending; cells = m.cells; numbers = m.numbers; roots = u ++ k ∷ []; read = b.read; graph = g }) r
    ∙ ap (λ u. record { at = m.at; pending = m.fresh ++ c.pending; cells = m.cells; numbers = m.numbers; roots = c.roots ++ k ∷ []; read = u; graph = g }) s

-- the pending referents are the same where the lists are
pub same_pending : (x y : Stream) → KeepsAll x y → (between_of y).pending ≡ (between_of x).pending
same_pending x y k = ap (λ ws. pending_in ws y.todo.items) k.wanted ∙ ap (pending_in x.wanted.items) k.todo

pub types_length : (b : Building) → length (map (λ (c : Referent). c.of) b.graph.cells) ≡ length b.graph.cells
types_length b = length-map b.graph.cells (λ c. c.of)

pub took_by : (source : SourceOver) (t : DecodingSeen) (n n' m m' : ℕ) (os : List ℕ) (is : List Item) → n ≡ n' → m ≡ m' → Took source t n os is m → Took source t n' os is m'
took_by source t n n' m m' os is e f k = subst (λ u. Took source t u os is m') e (subst (λ u. Took source t n os is u) f k)

pub placed_ends : (w : Setting) (side : IsLegalSide w) (order : Order) (fetched : List ℕ) (noted : List Item) (direct : ℕ) (x s1 s2 s3 : Stream) (s : Reading) (seen : List EntryAt) (n : ℕ)
    → Stands w side order fetched noted direct x s seen [] (suc n) → (r : Root) → slice_get (root_list w) (length s.roots) ≡ Some r → is_direct (type_at w.table r.of) ≡ false
    → s1.machine.builder ≡ opened (home.Root (length x.machine.builder.graph.roots)) (with_root (closed x.machine.builder)) x.machine.builder → (state_of s1.machine).cells ≡ (between_of x).cells
    → KeepsAll x s2 → outside s2.machine ≡ outside s1.machine → (source : SourceOver) (t : DecodingSeen)
    → HomeWhole order w.table (home.Root (length s.roots)) r.of direct (home_target w order (between_of x) seen (home.Root (length s.roots)) r.of s.names) fetched noted
    (length (state_of s1.machine).cells) source t (state_of s2.machine)
    → RootEnds s2 s3 → WentOn w side order fetched noted (cells_of x) source t s3 n
placed_ends w side order fetched noted direct x s1 s2 s3 s seen n st r there plain opens cells keeps out source t hw re =
    let b : Building = x.machine.builder in
    let m : Machine = s2.machine in
    let v : Tree = hw.is.v in
    let nodes : m.builder.nodes ≡ flat (more v none) = hw.is.nodes in
    let added : RootAdded v (map (λ c. c.of) m.builder.graph.cells) (closed b) (closed m.builder) =
    root_ends b m.builder v (subst (λ (u : Building). HomeRan u m.builder) opens (ran s1.machine m out)) nodes in
    let own : IsKeptHome (state_of m) re.k.own = kept_of m re.k.own hw.is.first.0 hw.is.first.1 re.own in
    let is_now : between_of s3 ≡ root_read (between_of x) (state_of m) re.k (closed m.builder) =
    re.between ∙ same_root (between_of s2) (between_of x) (state_of m) re.k (closed m.builder) (same_pending x s2 keeps) keeps.roots keeps.cells in
    let after = law.after w side order fetched noted direct (between_of x) s seen n st.agrees r there plain hw.octets hw.all (noted ++ hw.items) (state_of m) hw.is hw.needed in
    let new = law.new w side order fetched noted direct (between_of x) s seen n st.agrees r there plain hw.octets hw.all (noted ++ hw.items) (state_of m) hw.is hw.needed in
    let agrees : Agrees w side order (fetched ++ hw.octets) (noted ++ hw.items) direct (root_read (between_of x) (state_of m) re.k (closed m.builder)) after hw.is.seen new n =
    law.root_ends w side order fetched noted direct (between_of x) s seen n st.agrees r there plain hw.octets hw.all (noted ++ hw.items) (state_of m) hw.is hw.needed (closed m.builder) added re.k
    (record { own = own; cell = re.cell }) in
    record {
      octets = hw.octets;
      items = hw.items;
      direct = direct;
      s = after;
      seen = hw.is.seen;
      ps = new;
      stands = record {
        agrees = subst (λ u. Agrees w side order (fetched ++ hw.octets) (noted ++ hw.items) direct u after hw.is.seen new n) (sym is_now) agrees;
        within = let at = re.cleared.at in let few = hw.within in omega (arith, at, few);
        whole = subst CanClose (sym re.cleared.builder) (can_close m.builder v nodes);
      };
      took = took_by source t (length (state_of s1.machine).cells) (cells_of x) (length (state_of m).cells) (cells_of s3) hw.octets hw.items (ap length cells ∙ types_length b)
          (types_length m.builder ∙ sym (ap (λ (u : Building). length u.graph.cells) re.cleared.builder)) hw.took;
    }
