-- Turns of the loop over pending referents: the next one is taken, or none is left.
-- `x` is what is kept of the stream before the turn, with `q`, if it was taken from it, `y` the same without the next of the pending referents, `o` that referent.
use Rattle.std.proofs.Common.{◌≡◌, ◌≤◌, ℕ, List, [], ◌∷◌, map, Option, refl, sym, ap, ◌∙◌, subst}
use Rattle.nd_base.specs.declared.octets.Order.{Order}
use Rattle.nd_base.specs.declared.TheConstants.{STREAM_LIMIT}
use Rattle.nd_types.specs.Table.{Table}
use Rattle.nd_value.specs.declared.item.Item.{Item}
use Rattle.nd_value.specs.Deferral.{Pending}
use Rattle.nd_value.specs.Setting.{Setting}
use Rattle.nd_flat.specs.Building.{CanClose}
use Rattle.nd_grammar.specs.Entry.{EntryAt}
use Rattle.nd_grammar.specs.LegalSide.{IsLegalSide}
use Rattle.nd_grammar.specs.StreamReader.{Reading}
use Rattle.ndr_decoder_laws.specs.steps.Steps as steps
use Rattle.ndr_decoder_laws.specs.steps.Good.{owed}
use Rattle.ndr_decoder_state.specs.declared.machine.Machine.{Machine}
use Rattle.ndr_decoder_state.specs.declared.machine.Owed.{Owed}
use Rattle.ndr_decoder_laws.specs.stream.Between.{Agrees, Between}
use Rattle.ndr_decoder_stream.specs.declared.stream.Stream.{Stream}
use Rattle.ndr_decode.specs.Streaming.{StandsTaking, StandsWith, with_next, with_taken}

module _ (w : Setting) (side : IsLegalSide w) (order : Order) (fetched : List ℕ) (noted : List Item) (direct : ℕ) (q : Option Owed) (x : Stream) (s : Reading) (seen : List EntryAt) (n : ℕ) where
  -- what is due when there is a next one
  pub record HasNext (o : Owed) (y : Stream) (ps : List Pending) : Type 0 where
    pub p : Pending
    pub others : List Pending
    pub are : ps ≡ p ∷ others
    pub stands : StandsWith w side order fetched noted direct o y s seen p others n

  none_some : (o : steps.Owed) (os : List steps.Owed) (table : Table) → o ∷ os ≡ map (owed table) [] → ⊥
  none_some o os table e = cc

  pub stands_next : (ps : List Pending) → StandsTaking w side order fetched noted direct q x s seen ps n → (y : Stream) → y.machine ≡ x.machine → (o : Owed) → with_next o y ≡ with_taken q x
      → HasNext o y ps
  stands_next [] st y m o e = absurd (none_some _ _ w.table (ap (λ (b : Between). b.pending) e ∙ st.agrees.keeps.pending))
  stands_next (p ∷ ps) st y m o e = record {
    p = p;
    others = ps;
    are = refl;
    stands = record {
      agrees = subst (λ (b : Between). Agrees w side order fetched noted direct b s seen (p ∷ ps) n) (sym e) st.agrees;
      whole = subst (λ (k : Machine). CanClose k.builder) (sym m) st.whole;
      within = subst (λ (k : Machine). k.at ≤ STREAM_LIMIT) (sym m) st.within;
    };
  }

  -- none is left
  no_more : (p : Pending) (ps : List Pending) (table : Table) → [] ≡ map (owed table) (p ∷ ps) → ⊥
  no_more p ps table e = cc

  pub none_due : (ps : List Pending) → StandsTaking w side order fetched noted direct q x s seen ps n → (with_taken q x).pending ≡ [] → ps ≡ []
  none_due [] st e = refl
  none_due (p ∷ ps) st e = absurd (no_more p ps w.table (sym e ∙ st.agrees.keeps.pending))
