-- The beginning of a stream.
use Rattle.std.proofs.Common.{◌≡◌, ℕ, zero, suc, List, [], ◌++◌, Some, None, refl, ap, sym, ◌∙◌, subst, arith}
use Rattle.nd_base.specs.declared.octets.Order.{Order}
use Rattle.nd_types.specs.declared.types.Attr.{Attr}
use Rattle.nd_types.specs.declared.types.Attr.TheVariants as attr
use Rattle.nd_types.specs.Number.{AreOctets}
use Rattle.nd_value.specs.declared.item.Home.{Home}
use Rattle.nd_value.specs.Tree.{Referent}
use Rattle.nd_value.specs.Setting.{Setting, root_list, unread}
use Rattle.nd_value.specs.Deferral.{before_pipes}
use Rattle.nd_grammar.specs.LegalSide.{IsLegalSide}
use Rattle.nd_grammar.specs.StreamReader.{read_start}
use Rattle.nd_grammar.proofs.reader.ReaderCells.{no_roots}
use Rattle.nd_grammar.specs.ReaderState.{no_names, PointersOk, cell_in, State as IsReading}
use Rattle.nd_grammar.proofs.reader.ReaderNames.{no_pointers_ok}
use Rattle.ndr_refs.specs.declared.referents.Known.{Known}
use Rattle.ndr_decoder_laws.specs.reader.Around.{going}
use Rattle.ndr_decoder_laws.specs.steps.Good.{Told, place_at}
use Rattle.ndr_decoder_laws.specs.steps.Steps.{place_of}
use Rattle.ndr_decoder_laws.proofs.verdict.CellsSeen.{none_seen}
use Rattle.ndr_decoder_laws.proofs.worklist.Turns.{begins}
use Rattle.ndr_decoder_laws.specs.stream.Between.{Between, Begins, Agrees, AreKept, kept_at}
use Rattle.nd_lemmas.proofs.Lists.{no_last as never_empty}

nothing_found : (a : Attr) (j : ℕ) → None ≡ place_of a None (place_at [] j)
nothing_found attr.Size j = refl
nothing_found attr.Max j = refl
nothing_found attr.First j = refl
nothing_found attr.Length j = refl
nothing_found attr.Last j = refl
nothing_found attr.Switch j = refl

none_kept : (c : ℕ) → kept_at [] c ≡ None
none_kept zero = refl
none_kept (suc i) = refl

module _ (w : Setting) (side : IsLegalSide w) (order : Order) where
  abbrev n : ℕ
  n = before_pipes (root_list w)

  start_state : (octets : List ℕ) (all : AreOctets octets) → IsReading w side order octets all (read_start w order octets) [] [] n
  start_state octets all = record {
    roots_left = omega arith;
    linked = record { all = tt };
    apart = no_pointers_ok no_names no_names;
    pointers = subst (PointersOk no_names no_names) (sym (ap (λ u. u ++ []) (no_roots w.table 0 (root_list w)))) (no_pointers_ok no_names no_names);
    usable = tt;
    named = λ c h. absurd h;
    blank = λ c x e f. no_cell c x e;
    numbers = record { each = tt; apart = tt };
    roots_made = tt;
    cells_made = tt;
    within = omega arith;
    few = omega arith;
    reached = λ c a b. absurd (omega arith);
  }
    where
      no_cell : (c : ℕ) (x : Referent) → cell_in [] c ≡ Some x → x.val ≡ unread
      no_cell zero x e = cc
      no_cell (suc i) x e = cc

  told_nothing : (h : Home) (numbers : List (ℕ × Known)) → numbers ≡ [] → Told [] 0 order [] h [] (record { cells = []; numbers = [] }) [] numbers None 0 []
  told_nothing h numbers e =
      subst (λ u. Told [] 0 order [] h [] (record { cells = []; numbers = [] }) [] u None 0 []) (sym e)
      (record {
        noted_are = refl;
        cells_are = refl;
        cells_named = record { named = none_seen; there = tt };
        numbers_are = λ v p. (refl, λ to. refl);
        ahead = λ a j. nothing_found a j;
        lie_within = tt;
      })

  pub stream_begins : (b : Between) → Begins b → Agrees w side order [] [] 0 b (read_start w order []) [] [] n
  stream_begins b g = record {
    octets = tt;
    reached = begins w order;
    progress = ap (λ a. going a []) (sym g.at);
    due = refl;
    state = λ later all. ([], start_state later all);
    needed = λ part last e. absurd (never_empty part last e);
    direct_are = refl;
    keeps = record {
      at = sym g.at;
      pending = g.pending;
      told = λ h u. subst (λ cs. Told [] 0 order [] h [] (record { cells = []; numbers = [] }) cs b.numbers None 0 []) (sym g.cells) (told_nothing h b.numbers g.numbers);
      roots = subst (AreKept [] 0 []) (sym g.roots) tt;
      read = λ c p. absurd p;
      not_read = λ c p. ap (λ u. kept_at u c) g.read ∙ none_kept c;
      graph = g.graph;
    };
  }
