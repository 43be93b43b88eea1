-- A member of a struct, and the value of an arm.
use Rattle.std.proofs.Common.{◌≡◌, ℕ, ◌<◌, ◌≤◌, List, [], ◌∷◌, ◌++◌, length, map, refl, sym, subst, codes, arith}
use Rattle.nd_types.specs.declared.types.Field.{Field}
use Rattle.nd_types.specs.Table.{Table}
use Rattle.nd_value.specs.Tree.{Tree, node}
use Rattle.text_grammar.specs.declared.version.Version.{Version}
use Rattle.text_grammar.specs.Tokens.{Word, IsCut}
use Rattle.text_grammar.specs.Written.{Name, word, equals, token_of, named, value_pieces}
use Rattle.text_grammar.specs.Dues.{Due, This, AValue, named_due, arm_dues}
use Rattle.text_grammar.specs.Values.{value_tokens}
use Rattle.text_grammar.proofs.OneText.{cut_less}
use Rattle.text_parser.specs.declared.stop.Stop.{Stop}
use Rattle.text_parser.specs.Lexemes.{plain}
use Rattle.text_parser.specs.Misses.{Misses}
use Rattle.text_parser.specs.Passing.{Named, Passes, Halts, IsValue}
use Rattle.text_parser.specs.ValueParts.{comma_dues, comma_tokens, name_tokens, IsMember, IsArm}
use Rattle.text_parser.proofs.Passages.{passes_then, halts_then, halts_framed, halts_miss}
use Rattle.text_parser.proofs.SmallParts.{word_passes}

module _ (v : Version) (table : Table) (f : Field) (at : ℕ) (ns : Named) (text : List ℕ) where
  abbrev line_due : List Due
  line_due = comma_dues at ++ named_due f.name f.of.0

  pub comma_refused : (e : Stop) → Halts v table (comma_dues at) ns text e → Halts v table line_due ns text e
  comma_refused e h = halts_framed v table (comma_dues at) (named_due f.name f.of.0) ns text e h

  module _ (start : List ℕ) (p : Passes v table (comma_dues at) ns text (comma_tokens at) [] ns start) where
    pub name_refused : (e : Stop) → Halts v table (This (Name f.name) ∷ This equals ∷ []) ns start e → Halts v table line_due ns text e
    name_refused e h =
        halts_then v table (comma_dues at) (named_due f.name f.of.0) ns ns text start (comma_tokens at) e p
        (halts_framed v table (This (Name f.name) ∷ This equals ∷ []) (AValue f.of.0 ∷ []) ns start e h)

    module _ (mid : List ℕ) (q : Passes v table (This (Name f.name) ∷ This equals ∷ []) ns start (name_tokens f.name) [] ns mid) where
      pub value_refused : (e : Stop) → Halts v table (AValue f.of.0 ∷ []) ns mid e → Halts v table line_due ns text e
      value_refused e h =
          halts_then v table (comma_dues at) (named_due f.name f.of.0) ns ns text start (comma_tokens at) e p
          (halts_then v table (This (Name f.name) ∷ This equals ∷ []) (AValue f.of.0 ∷ []) ns ns start mid (name_tokens f.name) e q h)

      pub member_read : (val : Tree) (ms : Named) (rest : List ℕ) → length start ≤ length text → length mid < length start → IsValue v table f.of.0 ns mid val ms rest
          → IsMember v table f at ns text val ms rest
      member_read val ms rest less1 less2 i = record {
        forms = i.forms;
        names = i.names;
        passes =
            passes_then v table (comma_dues at) (named_due f.name f.of.0) ns ns ms text start rest (comma_tokens at) (map token_of (named f.name (value_pieces v table f.of.0 val))) p
            (passes_then v table (This (Name f.name) ∷ This equals ∷ []) (AValue f.of.0 ∷ []) ns ns ms start mid rest (name_tokens f.name) (value_tokens v table f.of.0 val) q i.passes);
        few = omega (arith, i.few, less1, less2);
      }

-- ## Arms

module _ (v : Version) (table : Table) (ns : Named) (text : List ℕ) where
  pub void_refused : (e : Stop) → Misses v (This (word (codes "void"))) text e → Halts v table (arm_dues []) ns text e
  void_refused e m = halts_miss v table (This (word (codes "void"))) [] ns text e refl m

  pub no_arm : (rest : List ℕ) (vs : List Tree) → vs ≡ [] → IsCut (plain v) text (Word (codes "void")) rest → IsArm v table [] ns text vs ns rest
  no_arm rest vs e cut = subst (λ (l : List Tree). IsArm v table [] ns text l ns rest) (sym e) (record {
    forms = refl;
    names = refl;
    passes = word_passes v table ns text rest (codes "void") cut;
    few = omega (arith, cut_less (plain v) text (Word (codes "void")) rest cut);
  })

  pub an_arm : (t : ℕ) (val : Tree) (ms : Named) (rest : List ℕ) (vs : List Tree) → vs ≡ val ∷ [] → IsValue v table t ns text val ms rest → IsArm v table (t ∷ []) ns text vs ms rest
  an_arm t val ms rest vs e i = subst (λ (l : List Tree). IsArm v table (t ∷ []) ns text l ms rest) (sym e) (by val i) where
    by : (x : Tree) → IsValue v table t ns text x ms rest → IsArm v table (t ∷ []) ns text (x ∷ []) ms rest
    by (node l ks) i = record { forms = i.forms; names = i.names; passes = i.passes; few = i.few }
