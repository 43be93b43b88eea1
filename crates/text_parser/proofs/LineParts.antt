-- Lines of a text: the head, the roots, the cells.
use Rattle.std.proofs.Common.{◌≡◌, ℕ, ◌+◌, ◌<◌, ◌≤◌, pos, Bool, true, cond, List, [], ◌∷◌, ◌++◌, length, length-append, map, take, drop, Option, Some, Ok, Err, refl, sym, ap, ap₂, subst, ◌∙◌}
use Rattle.std.proofs.Common.{append_assoc, append-nil, take-append-drop, bytes_eq, codes, arith}
use Rattle.std.specs.List.{slice_get, AllByRecursion}
use Rattle.std.proofs.lemmas.Bool.{eq-eqb}
use Rattle.std.proofs.lemmas.Slice.Eq.{bytes_eq-Decides}
use Rattle.std.proofs.lemmas.Grind.{flat_map-append}
use Rattle.std.proofs.lemmas.List.{map-append, take_more}
use Rattle.std.proofs.lemmas.Option.{slice_get_within, get_or_from_slice_get}
use Rattle.nd_types.specs.Table.{Table}
use Rattle.nd_types.specs.Roots.{NamedRoot}
use Rattle.nd_value.specs.Tree.{Tree, none, more, node_count, Referent}
use Rattle.text_grammar.specs.declared.version.Version.{Version}
use Rattle.text_grammar.specs.declared.version.Version.TheVariants as version
use Rattle.text_grammar.specs.declared.fault.TextReason.{TextReason}
use Rattle.text_grammar.specs.declared.fault.TextReason.TheVariants as reason
use Rattle.text_grammar.specs.Tokens as tokens
use Rattle.text_grammar.specs.Tokens.{Token, Word, Number, Cell, Mark, Cutting, IsCut}
use Rattle.text_grammar.specs.Written.{Name, Other, word, equals, token_of, named, version_number, value_pieces}
use Rattle.text_grammar.specs.Dues.{Due, This, AVersion, AValue, ACellLine, Reading, named_due, named_type, with_line, went_on_if, next_read, all_read}
use Rattle.text_grammar.specs.Reader.{Ending, Stopped, ComesTo, goes_on}
use Rattle.text_grammar.specs.Settled.{IsSettled}
use Rattle.text_grammar.specs.Values.{reading, have_forms, noted, value_tokens}
use Rattle.text_grammar.proofs.Settled.{settled_cutting, settled_next, settled_head, cutting_first, cutting_second, cutting_third}
use Rattle.text_grammar.proofs.Alike.{go_on}
use Rattle.text_grammar.proofs.OneText.{cut_less}
use Rattle.text_parser.specs.declared.stop.Stop.{Stop}
use Rattle.text_parser.specs.declared.stop.Stop.TheVariants as stop
use Rattle.text_parser.specs.Lexemes.{plain}
use Rattle.text_parser.specs.Misses.{Misses}
use Rattle.text_parser.specs.Passing.{Named, Passes, Halts, IsValue}
use Rattle.text_parser.specs.ValueParts.{name_tokens}
use Rattle.text_parser.specs.Lines.{head_dues, head_tokens, HasHead, HeadHalts, IsLine, lines_due, lines_tokens, AreFormed, all_noted, AreRoots, cell_tokens, cells_tokens, cell_noted, cells_noted}
use Rattle.text_parser.specs.Lines.{AreTyped, at_line, LinesPass, IsCellLine, IsCellBegun, LineHalts, CellsCame}
use Rattle.text_parser.proofs.Passages.{passes_none, passes_then, halts_then, halts_framed, begins_both, after_both, read_both, comes_after, miss_comes}

-- ## A root's line

module _ (v : Version) (table : Table) (name : List ℕ) (t : ℕ) (ns : Named) (text start : List ℕ)
    (p : Passes v table (This (Name name) ∷ This equals ∷ []) ns text (name_tokens name) [] ns start) where
  pub line_halts : (e : Stop) → Halts v table (AValue t ∷ []) ns start e → Halts v table (named_due name t) ns text e
  line_halts e h = halts_then v table (This (Name name) ∷ This equals ∷ []) (AValue t ∷ []) ns ns text start (name_tokens name) e p h

  pub line_value : (val : Tree) (ms : Named) (rest : List ℕ) → length start < length text → IsValue v table t ns start val ms rest → IsLine v table name t ns text val ms rest
  line_value val ms rest less i = record {
    forms = i.forms;
    names = i.names;
    passes = passes_then v table (This (Name name) ∷ This equals ∷ []) (AValue t ∷ []) ns ns ms text start rest (name_tokens name) (value_tokens v table t val) p i.passes;
    few = omega (arith, less, i.few);
  }

-- ## The roots, one after the other

module _ (v : Version) (table : Table) where
  formed_more : (rs : List NamedRoot) (xs : List Tree) (r : NamedRoot) (x : Tree) → AreFormed v table rs xs → have_forms v table (r.of ∷ []) (more x none) ≡ true
      → AreFormed v table (rs ++ r ∷ []) (xs ++ x ∷ [])
  formed_more [] [] r x f h = (h, tt)
  formed_more [] (y ∷ xs) r x f h = absurd f
  formed_more (s ∷ rs) [] r x f h = absurd f
  formed_more (s ∷ rs) (y ∷ xs) r x f h = (f.0, formed_more rs xs r x f.1 h)

  noted_more : (rs : List NamedRoot) (xs : List Tree) (r : NamedRoot) (x : Tree) (ns : Named) → AreFormed v table rs xs
      → all_noted table (rs ++ r ∷ []) (xs ++ x ∷ []) ns ≡ noted table (r.of ∷ []) (more x none) (all_noted table rs xs ns)
  noted_more [] [] r x ns f = refl
  noted_more [] (y ∷ xs) r x ns f = absurd f
  noted_more (s ∷ rs) [] r x ns f = absurd f
  noted_more (s ∷ rs) (y ∷ xs) r x ns f = noted_more rs xs r x (noted table (s.of ∷ []) (more y none) ns) f.1

  tokens_more : (rs : List NamedRoot) (xs : List Tree) (r : NamedRoot) (x : Tree) → AreFormed v table rs xs
      → lines_tokens v table (rs ++ r ∷ []) (xs ++ x ∷ []) ≡ lines_tokens v table rs xs ++ map token_of (named r.name (value_pieces v table r.of x))
  tokens_more [] [] r x f = append-nil (map token_of (named r.name (value_pieces v table r.of x)))
  tokens_more [] (y ∷ xs) r x f = absurd f
  tokens_more (s ∷ rs) [] r x f = absurd f
  tokens_more (s ∷ rs) (y ∷ xs) r x f =
      let line : List Token = map token_of (named s.name (value_pieces v table s.of y)) in
      ap (λ (l : List Token). line ++ l) (tokens_more rs xs r x f.1) ∙ sym (append_assoc line (lines_tokens v table rs xs) (map token_of (named r.name (value_pieces v table r.of x))))

  all_more : {A : Type 0} (P : A → Type 0) (xs : List A) (x : A) → AllByRecursion P xs → P x → AllByRecursion P (xs ++ x ∷ [])
  all_more P [] x a p = (p, tt)
  all_more P (y ∷ xs) x a p = (a.0, all_more P xs x a.1 p)

  pub no_roots : (ns : Named) (text : List ℕ) (vals : List Tree) → vals ≡ [] → AreRoots v table [] ns text vals ns text
  no_roots ns text vals e = subst (λ (l : List Tree). AreRoots v table [] ns text l ns text) (sym e)
      (record { forms = tt; names = refl; passes = passes_none v table [] ns text; few = tt; less = omega arith })

  pub root_came : (rs : List NamedRoot) (r : NamedRoot) (ns ms ls : Named) (text mid rest : List ℕ) (vals new : List Tree) (x : Tree) → AreRoots v table rs ns text vals ms mid
      → IsLine v table r.name r.of ms mid x ls rest → new ≡ vals ++ x ∷ [] → AreRoots v table (rs ++ r ∷ []) ns text new ls rest
  root_came rs r ns ms ls text mid rest vals new x a i is = subst (λ (l : List Tree). AreRoots v table (rs ++ r ∷ []) ns text l ls rest) (sym is) (record {
    forms = formed_more rs vals r x a.forms i.forms;
    names = i.names ∙ ap (noted table (r.of ∷ []) (more x none)) a.names ∙ sym (noted_more rs vals r x ns a.forms);
    passes =
        subst (λ (l : List Token). Passes v table (lines_due (rs ++ r ∷ [])) ns text l [] ls rest) (sym (tokens_more rs vals r x a.forms))
        (subst (λ (d : List Due). Passes v table d ns text (lines_tokens v table rs vals ++ map token_of (named r.name (value_pieces v table r.of x))) [] ls rest)
        (sym (flat_map-append (λ (r : NamedRoot). named_due r.name r.of) rs (r ∷ []) ∙ ap (λ (l : List Due). lines_due rs ++ l) (append-nil (named_due r.name r.of))))
        (passes_then v table (lines_due rs) (named_due r.name r.of) ns ms ls text mid rest (lines_tokens v table rs vals)
        (map token_of (named r.name (value_pieces v table r.of x))) a.passes i.passes));
    few = all_more (λ t. node_count (more t none) ≤ length text) vals x a.few (omega (arith, a.less, i.few));
    less = omega (arith, a.less, i.few);
  })

  pub root_halts : (rs : List NamedRoot) (r : NamedRoot) (others : List NamedRoot) (ns ms : Named) (text mid : List ℕ) (vals : List Tree) (e : Stop) → AreRoots v table rs ns text vals ms mid
      → Halts v table (named_due r.name r.of) ms mid e → Halts v table (lines_due ((rs ++ r ∷ []) ++ others)) ns text e
  root_halts rs r others ns ms text mid vals e a h =
      subst (λ (d : List Due). Halts v table d ns text e)
      (sym (ap lines_due (append_assoc rs (r ∷ []) others) ∙ flat_map-append (λ (r : NamedRoot). named_due r.name r.of) rs (r ∷ others)))
      (halts_then v table (lines_due rs) (named_due r.name r.of ++ lines_due others) ns ms text mid (lines_tokens v table rs vals) e a.passes
      (halts_framed v table (named_due r.name r.of) (lines_due others) ms mid e h))

  root_split : (all : List NamedRoot) (n : ℕ) (r : NamedRoot) → slice_get all n ≡ Some r → take (n + 1) all ≡ take n all ++ r ∷ []
  root_split all n r there =
      take_more all n r (slice_get_within all n r there) ∙ ap (λ u. take n all ++ u ∷ []) (get_or_from_slice_get all n r r there)

  pub root_next : (all : List NamedRoot) (n : ℕ) (r : NamedRoot) (ns ms ls : Named) (text mid rest : List ℕ) (vals new : List Tree) (x : Tree) → slice_get all n ≡ Some r
      → AreRoots v table (take n all) ns text vals ms mid
      → IsLine v table r.name r.of ms mid x ls rest → new ≡ vals ++ x ∷ [] → AreRoots v table (take (n + 1) all) ns text new ls rest
  root_next all n r ns ms ls text mid rest vals new x there a i is =
      subst (λ (l : List NamedRoot). AreRoots v table l ns text new ls rest) (sym (root_split all n r there)) (root_came (take n all) r ns ms ls text mid rest vals new x a i is)

  pub roots_stop : (all : List NamedRoot) (n : ℕ) (r : NamedRoot) (ns ms : Named) (text mid : List ℕ) (vals : List Tree) (e : Stop) → slice_get all n ≡ Some r
      → AreRoots v table (take n all) ns text vals ms mid
      → Halts v table (named_due r.name r.of) ms mid e → Halts v table (lines_due all) ns text e
  roots_stop all n r ns ms text mid vals e there a h =
      subst (λ (l : List NamedRoot). Halts v table (lines_due l) ns text e) (sym (sym (take-append-drop (n + 1) all) ∙ ap (λ (l : List NamedRoot). l ++ drop (n + 1) all) (root_split all n r there)))
      (root_halts (take n all) r (drop (n + 1) all) ns ms text mid vals e a h)

-- a word is itself
same_word : (w : List ℕ) (x : Reading) (ds : List Due) (why : TextReason) → went_on_if (bytes_eq w w) x ds why ≡ Ok (record { version = x.version; due = ds; named = x.named; cells = x.cells })
same_word w x ds why = ap (λ b. went_on_if b x ds why) ((bytes_eq-Decides w w).1 refl)

-- ## The head

module _ (op side text : List ℕ) where
  module _ (table : Table) (later : List Due) where
    abbrev due_after : ℕ → List Due
    due_after n = drop n (head_dues op side) ++ later

module _ (op side text : List ℕ) where
  pub values_halt : (e : Stop) → Misses version.One (This (word (codes "values"))) text e → HeadHalts op side text e
  values_halt stop.Memory m = λ table later. tt
  values_halt (stop.At left why) m =
      λ table later. miss_comes version.One table (plain version.One) (This (word (codes "values"))) (due_after op side text table later 1) [] 0 [] text left why refl cutting_first m

  module _ (r1 : List ℕ) (c1 : IsCut (plain version.One) text (Word (codes "values")) r1) where
    comes_1 : (table : Table) (later : List Due) (e : Ending) → ComesTo table (reading version.One (due_after op side text table later 1) [] 0) (Word (codes "values") ∷ []) r1 e
        → ComesTo table (reading version.One (head_dues op side ++ later) [] 0) [] text e
    comes_1 table later e h =
        goes_on (reading version.One (due_after op side text table later 1) [] 0) (Word (codes "values")) r1
        (subst (λ (h : Cutting). IsCut h text (Word (codes "values")) r1) (sym cutting_first) c1) refl h

    pub version_halts : (e : Stop) → Misses version.One AVersion r1 e → HeadHalts op side text e
    version_halts stop.Memory m = λ table later. tt
    version_halts (stop.At left why) m = λ table later.
        comes_1 table later (Stopped left why)
        (miss_comes version.One table (plain version.One) AVersion (due_after op side text table later 2) [] 0 (Word (codes "values") ∷ []) r1 left why refl cutting_second m)

    module _ (v : Version) (r2 : List ℕ) (c2 : IsCut (plain version.One) r1 (Number (pos (version_number v))) r2) where
      abbrev before_2 : List Token
      before_2 = Number (pos (version_number v)) ∷ Word (codes "values") ∷ []

      version_read : (table : Table) (later : List Due) (v : Version)
          → next_read table (reading version.One (due_after op side text table later 1) [] 0) (Number (pos (version_number v))) ≡ Ok (reading v (due_after op side text table later 2) [] 0)
      version_read table later version.One = refl
      version_read table later version.Two = refl

      comes_2 : (table : Table) (later : List Due) (e : Ending) → ComesTo table (reading v (due_after op side text table later 2) [] 0) before_2 r2 e
          → ComesTo table (reading version.One (head_dues op side ++ later) [] 0) [] text e
      comes_2 table later e h =
          comes_1 table later e
          (goes_on (reading v (due_after op side text table later 2) [] 0) (Number (pos (version_number v))) r2
          (subst (λ (h : Cutting). IsCut h r1 (Number (pos (version_number v))) r2) (sym cutting_second) c2) (version_read table later v) h)

      pub op_halts : (e : Stop) → Misses v (This (word (codes "op"))) r2 e → HeadHalts op side text e
      op_halts stop.Memory m = λ table later. tt
      op_halts (stop.At left why) m = λ table later.
          comes_2 table later (Stopped left why) (miss_comes v table (plain v) (This (word (codes "op"))) (due_after op side text table later 3) [] 0 before_2 r2 left why refl (cutting_third v) m)

      module _ (r3 : List ℕ) (c3 : IsCut (plain v) r2 (Word (codes "op")) r3) where
        abbrev before_3 : List Token
        before_3 = Word (codes "op") ∷ before_2

        comes_3 : (table : Table) (later : List Due) (e : Ending) → ComesTo table (reading v (due_after op side text table later 3) [] 0) before_3 r3 e
            → ComesTo table (reading version.One (head_dues op side ++ later) [] 0) [] text e
        comes_3 table later e h =
            comes_2 table later e
            (goes_on (reading v (due_after op side text table later 3) [] 0) (Word (codes "op")) r3 (subst (λ (h : Cutting). IsCut h r2 (Word (codes "op")) r3) (sym (cutting_third v)) c3) refl h)

        pub name_halts : (e : Stop) → Misses v (This (Name op)) r3 e → HeadHalts op side text e
        name_halts stop.Memory m = λ table later. tt
        name_halts (stop.At left why) m = λ table later.
            comes_3 table later (Stopped left why)
            (miss_comes v table (plain v) (This (Name op)) (due_after op side text table later 4) [] 0 before_3 r3 left why refl (settled_cutting v before_3 (settled_head v)) m)

        module _ (r4 : List ℕ) (c4 : IsCut (plain v) r3 (Word op) r4) where
          settled_4 : IsSettled v (Word op ∷ before_3)
          settled_4 = settled_next v (Word op) before_3 refl (settled_head v)

          pub side_halts : (e : Stop) → Misses v (This (Name side)) r4 e → HeadHalts op side text e
          side_halts stop.Memory m = λ table later. tt
          side_halts (stop.At left why) m = λ table later.
              comes_3 table later (Stopped left why)
              (goes_on (reading v (due_after op side text table later 4) [] 0) (Word op) r4
              (subst (λ (h : Cutting). IsCut h r3 (Word op) r4) (sym (settled_cutting v before_3 (settled_head v))) c4)
              (same_word op (reading v (due_after op side text table later 3) [] 0) (due_after op side text table later 4) reason.OtherName)
              (miss_comes v table (plain v) (This (Name side)) later [] 0 (Word op ∷ before_3) r4 left why refl (settled_cutting v (Word op ∷ before_3) settled_4) m))

          pub has_head : (rest : List ℕ) → IsCut (plain v) r4 (Word side) rest → HasHead op side text v rest
          has_head rest c5 = record {
            begins = (
              r1,
              subst (λ (h : Cutting). IsCut h text (Word (codes "values")) r1) (sym cutting_first) c1,
              (
                r2,
                subst (λ (h : Cutting). IsCut h r1 (Number (pos (version_number v))) r2) (sym cutting_second) c2,
                (
                  r3,
                  subst (λ (h : Cutting). IsCut h r2 (Word (codes "op")) r3) (sym (cutting_third v)) c3,
                  (
                    r4,
                    subst (λ (h : Cutting). IsCut h r3 (Word op) r4) (sym (settled_cutting v before_3 (settled_head v))) c4,
                    (rest, subst (λ (h : Cutting). IsCut h r4 (Word side) rest) (sym (settled_cutting v (Word op ∷ before_3) settled_4)) c5, refl),
                  ),
                ),
              ),
            );
            less = omega (
              arith,
              cut_less (plain version.One) text (Word (codes "values")) r1 c1,
              cut_less (plain version.One) r1 (Number (pos (version_number v))) r2 c2,
              cut_less (plain v) r2 (Word (codes "op")) r3 c3,
              cut_less (plain v) r3 (Word op) r4 c4,
              cut_less (plain v) r4 (Word side) rest c5,
            );
          }

-- after the head the text is read on in the middle
pub head_settled : (v : Version) (op side : List ℕ) → IsSettled v (tokens.after [] (head_tokens v op side))
head_settled v op side = settled_next v (Word side) _ refl (settled_next v (Word op) _ refl (settled_head v))

pub head_reads : (table : Table) (later : List Due) (v : Version) (op side : List ℕ)
    → all_read table (reading version.One (head_dues op side ++ later) [] 0) (head_tokens v op side) ≡ Ok (reading v later [] 0)
head_reads table later version.One op side =
    ap (λ b. go_on table (went_on_if b (reading version.One (This (Name op) ∷ This (Name side) ∷ later) [] 0) (This (Name side) ∷ later) reason.OtherName) (Word side ∷ []))
    ((bytes_eq-Decides op op).1 refl)
    ∙ ap (λ b. go_on table (went_on_if b (reading version.One (This (Name side) ∷ later) [] 0) later reason.OtherName) []) ((bytes_eq-Decides side side).1 refl)
head_reads table later version.Two op side =
    ap (λ b. go_on table (went_on_if b (reading version.Two (This (Name op) ∷ This (Name side) ∷ later) [] 0) (This (Name side) ∷ later) reason.OtherName) (Word side ∷ []))
    ((bytes_eq-Decides op op).1 refl)
    ∙ ap (λ b. go_on table (went_on_if b (reading version.Two (This (Name side) ∷ later) [] 0) later reason.OtherName) []) ((bytes_eq-Decides side side).1 refl)

-- ## The lines of cells

module _ (v : Version) (table : Table) (count : ℕ) (ns : Named) (text : List ℕ) where
  module _ (of : ℕ) (mid : List ℕ) (b : IsCellBegun v count ns text of mid) where
    abbrev after_number : List Due
    after_number = This equals ∷ AValue of ∷ ACellLine ∷ []

    number_read : next_read table (at_line v ns count) (Cell (count + 1)) ≡ Ok (reading v after_number ns (count + 1))
    number_read =
        ap (λ (t : Bool). cond t (with_line (at_line v ns count) [] (named_type ns (count + 1))) (Err reason.OutOfOrder)) (eq-eqb (count + 1) (count + 1) refl)
        ∙ ap (λ (o : Option ℕ). with_line (at_line v ns count) [] o) b.type

    comes_number : (before : List Token) → IsSettled v before → (e : Ending) → ComesTo table (reading v after_number ns (count + 1)) (Cell (count + 1) ∷ before) mid e
        → ComesTo table (at_line v ns count) before text e
    comes_number before s e h =
        goes_on (reading v after_number ns (count + 1)) (Cell (count + 1)) mid (subst (λ (h : Cutting). IsCut h text (Cell (count + 1)) mid) (sym (settled_cutting v before s)) b.cut) number_read h

    pub equals_halts : (e : Stop) → Misses v (This (Other (Mark 61))) mid e → LineHalts v table count ns text e
    equals_halts stop.Memory m = tt
    equals_halts (stop.At left why) m = λ before s.
        comes_number before s (Stopped left why)
        (miss_comes v table (plain v) (This equals) (AValue of ∷ ACellLine ∷ []) ns (count + 1) (Cell (count + 1) ∷ before) mid left why refl
        (settled_cutting v (Cell (count + 1) ∷ before) (settled_next v (Cell (count + 1)) before refl s)) m)

    module _ (start : List ℕ) (c : IsCut (plain v) mid (Mark 61) start) where
      settled_both : (before : List Token) → IsSettled v before → IsSettled v (Mark 61 ∷ Cell (count + 1) ∷ before)
      settled_both before s = settled_next v (Mark 61) (Cell (count + 1) ∷ before) refl (settled_next v (Cell (count + 1)) before refl s)

      pub cell_halts : (e : Stop) → Halts v table (AValue of ∷ []) ns start e → LineHalts v table count ns text e
      cell_halts stop.Memory h = tt
      cell_halts (stop.At left why) h = λ before s.
          comes_number before s (Stopped left why)
          (goes_on (reading v (AValue of ∷ ACellLine ∷ []) ns (count + 1)) (Mark 61) start
          (subst (λ (h : Cutting). IsCut h mid (Mark 61) start) (sym (settled_cutting v (Cell (count + 1) ∷ before) (settled_next v (Cell (count + 1)) before refl s))) c) refl
          (h (ACellLine ∷ []) (count + 1) (Mark 61 ∷ Cell (count + 1) ∷ before) (settled_both before s)))

      pub cell_read : (x : Referent) (ms : Named) (rest : List ℕ) → x.of ≡ of → IsValue v table of ns start x.val ms rest → IsCellLine v table count ns text x ms rest
      cell_read x ms rest same i = by (subst (λ (t : ℕ). IsValue v table t ns start x.val ms rest) (sym same) i) where
        by : IsValue v table x.of ns start x.val ms rest → IsCellLine v table count ns text x ms rest
        by i = record {
          type = b.type ∙ ap Some (sym same);
          forms = i.forms;
          names = i.names;
          passes = record {
            begins = λ before s. (
              mid,
              subst (λ (h : Cutting). IsCut h text (Cell (count + 1)) mid) (sym (settled_cutting v before s)) b.cut,
              (
                start,
                subst (λ (h : Cutting). IsCut h mid (Mark 61) start) (sym (settled_cutting v (Cell (count + 1) ∷ before) (settled_next v (Cell (count + 1)) before refl s))) c,
                i.passes.begins (Mark 61 ∷ Cell (count + 1) ∷ before) (settled_both before s),
              ),
            );
            settled = λ before s. i.passes.settled (Mark 61 ∷ Cell (count + 1) ∷ before) (settled_both before s);
            reads =
                ap (λ r. go_on table r (Mark 61 ∷ value_tokens v table x.of x.val)) number_read
                ∙ ap (λ (t : ℕ). all_read table (reading v (AValue t ∷ ACellLine ∷ []) ns (count + 1)) (value_tokens v table x.of x.val)) (sym same)
                ∙ i.passes.reads (ACellLine ∷ []) (count + 1);
          };
          few = omega (arith, i.few, cut_less (plain v) text (Cell (count + 1)) mid b.cut, cut_less (plain v) mid (Mark 61) start c);
        }

-- ## The cells, one after the other

module _ (v : Version) (table : Table) (ns : Named) (text : List ℕ) where
  pub no_cells : (cells : List Referent) → cells ≡ [] → CellsCame v table ns text cells ns text
  no_cells cells e = subst (λ (l : List Referent). CellsCame v table ns text l ns text) (sym e) (record {
    typed = tt;
    names = refl;
    passes = record { begins = λ before s. refl; settled = λ before s. s; reads = refl };
    few = tt;
    less = omega arith;
  })

  typed_more : (xs : List Referent) (x : Referent) (nb : Named) (c : ℕ) → AreTyped v table nb c xs → named_type (cells_noted table nb xs) (c + length xs) ≡ Some x.of
      → have_forms v table (x.of ∷ []) (more x.val none) ≡ true
      → AreTyped v table nb c (xs ++ x ∷ [])
  typed_more [] x nb c t n f = (ap (named_type nb) (omega arith) ∙ n, f, tt)
  typed_more (y ∷ xs) x nb c t n f =
      let e : c + 1 + length xs ≡ c + length (y ∷ xs) = omega arith in
      (t.0, t.1, typed_more xs x (cell_noted table nb y) (c + 1) t.2 (ap (named_type (cells_noted table (cell_noted table nb y) xs)) e ∙ n) f)

  noted_cells : (xs : List Referent) (x : Referent) (nb : Named) → cells_noted table nb (xs ++ x ∷ []) ≡ cell_noted table (cells_noted table nb xs) x
  noted_cells [] x nb = refl
  noted_cells (y ∷ xs) x nb = noted_cells xs x (cell_noted table nb y)

  tokens_cells : (xs : List Referent) (x : Referent) (c : ℕ) → cells_tokens v table c (xs ++ x ∷ []) ≡ cells_tokens v table c xs ++ cell_tokens v table (c + length xs) x
  tokens_cells [] x c = append-nil (cell_tokens v table c x) ∙ ap (λ (n : ℕ). cell_tokens v table n x) (omega arith)
  tokens_cells (y ∷ xs) x c =
      let e : c + 1 + length xs ≡ c + length (y ∷ xs) = omega arith in
      ap (λ (l : List Token). cell_tokens v table c y ++ l) (tokens_cells xs x (c + 1) ∙ ap (λ (n : ℕ). cells_tokens v table (c + 1) xs ++ cell_tokens v table n x) e)
      ∙ sym (append_assoc (cell_tokens v table c y) (cells_tokens v table (c + 1) xs) (cell_tokens v table (c + length (y ∷ xs)) x))

  module _ (cells : List Referent) (ms : Named) (mid : List ℕ) (a : CellsCame v table ns text cells ms mid) where
    pub cells_halt : (e : Stop) → LineHalts v table (length cells) ms mid e → LineHalts v table 0 ns text e
    cells_halt stop.Memory h = tt
    cells_halt (stop.At left why) h = λ before s.
        comes_after table (at_line v ns 0) (at_line v ms (length cells)) before text (cells_tokens v table 1 cells) mid (Stopped left why) (a.passes.begins before s) a.passes.reads
        (h (tokens.after before (cells_tokens v table 1 cells)) (a.passes.settled before s))

    pub cell_came : (x : Referent) (ls : Named) (rest : List ℕ) (new : List Referent) → IsCellLine v table (length cells) ms mid x ls rest → new ≡ cells ++ x ∷ []
        → CellsCame v table ns text new ls rest
    cell_came x ls rest new i is =
        let here : 1 + length cells ≡ length cells + 1 = omega arith in
        let many : length (cells ++ x ∷ []) ≡ length cells + 1 = length-append cells (x ∷ []) in
        let ts : List Token = cells_tokens v table 1 cells in
        let us : List Token = cell_tokens v table (length cells + 1) x in
        let all : cells_tokens v table 1 (cells ++ x ∷ []) ≡ ts ++ us = tokens_cells cells x 1 ∙ ap (λ (n : ℕ). ts ++ cell_tokens v table n x) here in
        subst (λ (l : List Referent). CellsCame v table ns text l ls rest) (sym is) (record {
          typed = typed_more cells x ns 1 a.typed (ap₂ (λ (l : Named) (n : ℕ). named_type l n) (sym a.names) here ∙ i.type) i.forms;
          names = i.names ∙ ap (λ (l : Named). cell_noted table l x) a.names ∙ sym (noted_cells cells x ns);
          passes = subst (λ (l : List Token). LinesPass v table ns 0 text l ls (length (cells ++ x ∷ [])) rest) (sym all) (record {
            begins = λ before s. begins_both before text ts us mid rest (a.passes.begins before s) (i.passes.begins (tokens.after before ts) (a.passes.settled before s));
            settled = λ before s. subst (IsSettled v) (sym (after_both before ts us)) (i.passes.settled (tokens.after before ts) (a.passes.settled before s));
            reads =
                read_both table (at_line v ns 0) (at_line v ms (length cells)) ts us a.passes.reads ∙ i.passes.reads
                ∙ ap (λ (n : ℕ). Ok (at_line v ls n)) (sym many);
          });
          few = subst (λ (l : List Tree). AllByRecursion (λ t. node_count (more t none) ≤ length text) l) (sym (map-append (λ (c : Referent). c.val) cells (x ∷ [])))
              (all_more v table (λ t. node_count (more t none) ≤ length text) (map (λ (c : Referent). c.val) cells) x.val a.few (omega (arith, a.less, i.few)));
          less = omega (arith, many, a.less, i.few);
        })
