-- Members of a struct, one after the other.
use Rattle.std.proofs.Common.{◌≡◌, ℕ, zero, suc, ◌+◌, ◌<◌, ◌≤◌, true, ◌&&◌, List, [], ◌∷◌, ◌++◌, length, length-append, map, take, drop, Some, refl, sym, ap, subst, ◌∙◌, append_assoc}
use Rattle.std.proofs.Common.{take-append-drop, arith}
use Rattle.std.proofs.lemmas.List.{length-take-le, map-append, take_more, take_all}
use Rattle.std.specs.List.{slice_get}
use Rattle.std.proofs.lemmas.Bool.{and_parts, eq-eqb}
use Rattle.std.proofs.lemmas.Option.{slice_get_within, get_or_from_slice_get}
use Rattle.nd_types.specs.declared.types.Field.{Field}
use Rattle.nd_types.specs.declared.types.TypeDef.TheVariants as def
use Rattle.nd_types.specs.Table.{Table, type_at}
use Rattle.nd_value.specs.Tree as tree
use Rattle.nd_value.specs.Tree.{Tree, node, none, more, trees, count, node_count}
use Rattle.nd_value.specs.Nodes.{child_types}
use Rattle.text_grammar.specs.Reads.{has_text_form}
use Rattle.text_grammar.specs.declared.version.Version.{Version}
use Rattle.text_grammar.specs.Tokens.{Token, Mark, IsCut}
use Rattle.text_grammar.specs.Written.{Piece, Other, comma, token_of, named, members, separated, values_pieces, value_pieces}
use Rattle.text_grammar.specs.Dues.{Due, This, AValue, named_due, separated_dues}
use Rattle.text_grammar.specs.Values.{have_forms, noted}
use Rattle.text_grammar.proofs.OneText.{cut_less}
use Rattle.text_parser.specs.declared.stop.Stop.{Stop}
use Rattle.text_parser.specs.Lexemes.{plain}
use Rattle.text_parser.specs.Misses.{Misses}
use Rattle.text_parser.specs.Passing.{Named, Passes, Halts, IsValue}
use Rattle.text_parser.specs.ValueParts.{comma_dues, comma_tokens, IsMember}
use Rattle.text_parser.proofs.OpenedValues.{opened_value}
use Rattle.text_parser.proofs.Passages.{passes_none, passes_then, halts_open, halts_framed, halts_then, halts_miss}
use Rattle.text_parser.proofs.OneMore.{count_trees, weight_more, forms_more, noted_more, pieces_more, separated_more, dues_more, dues_both, led_dues}
use Rattle.text_parser.proofs.SmallParts.{mark_passes}

-- the member at a place
abbrev pub field_at : List Field → ℕ → Field
field_at [] at = record { name = []; of = record { 0 = 0 }; vars = [] }
field_at (f ∷ fs) zero = f
field_at (f ∷ fs) (suc at) = field_at fs at

pub field_there : (fs : List Field) (at : ℕ) → at < length fs → slice_get fs at ≡ Some (field_at fs at)
field_there [] at h = absurd (omega (arith, h))
field_there (f ∷ fs) zero h = refl
field_there (f ∷ fs) (suc at) h = field_there fs at (omega (arith, h))

module _ (v : Version) (table : Table) where
  -- the tokens of the first members
  abbrev pub member_tokens : List Field → List Tree → List Token
  member_tokens fs vs = map token_of (separated (members fs (values_pieces v table (map (λ f. f.of.0) fs) (trees vs))))

  -- members so far
  pub record MembersCame (fs : List Field) (ns : Named) (text : List ℕ) (vs : List Tree) (ms : Named) (rest : List ℕ) : Type 0 where
    pub many : length vs ≡ length fs
    pub forms : have_forms v table (map (λ f. f.of.0) fs) (trees vs) ≡ true
    pub names : ms ≡ noted table (map (λ f. f.of.0) fs) (trees vs) ns
    pub passes : Passes v table (separated_dues (map (λ f. named_due f.name f.of.0) fs)) ns text (member_tokens fs vs) [] ms rest
    pub few : node_count (trees vs) + length rest ≤ length text

  pub none_came : (ns : Named) (text : List ℕ) (vs : List Tree) → vs ≡ [] → MembersCame [] ns text vs ns text
  none_came ns text vs e = subst (λ (l : List Tree). MembersCame [] ns text l ns text) (sym e)
      (record { many = refl; forms = refl; names = refl; passes = passes_none v table [] ns text; few = omega arith })

  -- ## One more

  members_more : (fs : List Field) (ps : List (List Piece)) (f : Field) (p : List Piece) → length fs ≡ length ps → members (fs ++ f ∷ []) (ps ++ p ∷ []) ≡ members fs ps ++ named f.name p ∷ []
  members_more [] [] f p e = refl
  members_more (g ∷ fs) [] f p e = cc
  members_more [] (q ∷ ps) f p e = cc
  members_more (g ∷ fs) (q ∷ ps) f p e = ap (λ (l : List (List Piece)). named g.name q ∷ l) (members_more fs ps f p (omega (arith, e)))

  pieces_count : (types : List ℕ) (vs : List Tree) → have_forms v table types (trees vs) ≡ true → length (values_pieces v table types (trees vs)) ≡ length vs
  pieces_count [] [] h = refl
  pieces_count (t ∷ types) [] h = refl
  pieces_count [] (x ∷ vs) h = cc
  pieces_count (t ∷ types) (node l ks ∷ vs) h =
      ap suc (pieces_count types vs
      (and_parts (have_forms v table (child_types (type_at table t) l ks) ks) (have_forms v table types (trees vs))
      (and_parts (has_text_form v table (type_at table t) l ks) (have_forms v table (child_types (type_at table t) l ks) ks && have_forms v table types (trees vs)) h).1).1)

  -- what is due for one more, and its tokens
  dues_step : (fs : List Field) (f : Field)
      → separated_dues (map (λ f. named_due f.name f.of.0) (fs ++ f ∷ [])) ≡ separated_dues (map (λ f. named_due f.name f.of.0) fs) ++ (comma_dues (length fs) ++ named_due f.name f.of.0)
  dues_step [] f = refl
  dues_step (g ∷ fs) f =
      ap separated_dues (map-append (λ (f : Field). named_due f.name f.of.0) (g ∷ fs) (f ∷ []))
      ∙ dues_more (named_due g.name g.of.0) (map (λ f. named_due f.name f.of.0) fs) (named_due f.name f.of.0)

  tokens_by : (ps : List (List Piece)) (p : List Piece) → map token_of (separated (ps ++ p ∷ [])) ≡ map token_of (separated ps) ++ (comma_tokens (length ps) ++ map token_of p)
  tokens_by [] p = refl
  tokens_by (q ∷ ps) p = ap (map token_of) (separated_more q ps p) ∙ map-append token_of (separated (q ∷ ps)) (comma ∷ p)

  members_count : (fs : List Field) (ps : List (List Piece)) → length fs ≡ length ps → length (members fs ps) ≡ length fs
  members_count [] [] e = refl
  members_count (g ∷ fs) [] e = cc
  members_count [] (q ∷ ps) e = cc
  members_count (g ∷ fs) (q ∷ ps) e = ap suc (members_count fs ps (omega (arith, e)))

  tokens_step : (fs : List Field) (vs : List Tree) (f : Field) (x : Tree) → length vs ≡ length fs → have_forms v table (map (λ f. f.of.0) fs) (trees vs) ≡ true
      → member_tokens (fs ++ f ∷ []) (vs ++ x ∷ []) ≡ member_tokens fs vs ++ (comma_tokens (length fs) ++ map token_of (named f.name (value_pieces v table f.of.0 x)))
  tokens_step fs vs f x same forms =
      let types : List ℕ = map (λ f. f.of.0) fs in
      let ps : List (List Piece) = values_pieces v table types (trees vs) in
      let p : List Piece = value_pieces v table f.of.0 x in
      let few : length fs ≡ length ps = omega (arith, same, pieces_count types vs forms) in
      ap (λ (l : List ℕ). map token_of (separated (members (fs ++ f ∷ []) (values_pieces v table l (trees (vs ++ x ∷ [])))))) (map-append (λ (f : Field). f.of.0) fs (f ∷ []))
      ∙ ap (λ (l : List (List Piece)). map token_of (separated (members (fs ++ f ∷ []) l))) (pieces_more v table f.of.0 x types vs forms)
      ∙ ap (λ (l : List (List Piece)). map token_of (separated l)) (members_more fs ps f p few)
      ∙ tokens_by (members fs ps) (named f.name p)
      ∙ ap (λ n. map token_of (separated (members fs ps)) ++ (comma_tokens n ++ map token_of (named f.name p))) (members_count fs ps few)

  pub member_came : (fs : List Field) (f : Field) (at : ℕ) (ns ms ls : Named) (text mid rest : List ℕ) (vs new : List Tree) (x : Tree) → at ≡ length fs → MembersCame fs ns text vs ms mid
      → IsMember v table f at ms mid x ls rest → new ≡ vs ++ x ∷ [] → MembersCame (fs ++ f ∷ []) ns text new ls rest
  member_came fs f at ns ms ls text mid rest vs new x here c i is = subst (λ (l : List Tree). MembersCame (fs ++ f ∷ []) ns text l ls rest) (sym is) (record {
    many = length-append vs (x ∷ []) ∙ ap (λ n. n + 1) c.many ∙ sym (length-append fs (f ∷ []));
    forms = subst (λ (l : List ℕ). have_forms v table l (trees (vs ++ x ∷ [])) ≡ true) (sym (map-append (λ (f : Field). f.of.0) fs (f ∷ [])))
        (forms_more v table f.of.0 x (map (λ f. f.of.0) fs) vs c.forms i.forms);
    names =
        i.names
        ∙ ap (noted table (f.of.0 ∷ []) (more x none)) c.names
        ∙ sym (ap (λ (l : List ℕ). noted table l (trees (vs ++ x ∷ [])) ns) (map-append (λ (f : Field). f.of.0) fs (f ∷ [])) ∙ noted_more v table f.of.0 x (map (λ f. f.of.0) fs) vs ns c.forms);
    passes =
        subst (λ (l : List Token). Passes v table (separated_dues (map (λ f. named_due f.name f.of.0) (fs ++ f ∷ []))) ns text l [] ls rest) (sym (tokens_step fs vs f x c.many c.forms))
        (subst (λ (d : List Due). Passes v table d ns text (member_tokens fs vs ++ (comma_tokens (length fs) ++ map token_of (named f.name (value_pieces v table f.of.0 x)))) [] ls rest)
        (sym (dues_step fs f))
        (passes_then v table (separated_dues (map (λ f. named_due f.name f.of.0) fs)) (comma_dues (length fs) ++ named_due f.name f.of.0) ns ms ls text mid rest
        (member_tokens fs vs) (comma_tokens (length fs) ++ map token_of (named f.name (value_pieces v table f.of.0 x))) c.passes
        (subst (λ n. Passes v table (comma_dues n ++ named_due f.name f.of.0) ms mid (comma_tokens n ++ map token_of (named f.name (value_pieces v table f.of.0 x))) [] ls rest) here i.passes)));
    few = omega (arith, weight_more vs x, c.few, i.few);
  })

  -- ## The whole struct

  fields_split : (fs : List Field) (at : ℕ) (f : Field) → slice_get fs at ≡ Some f → fs ≡ (take at fs ++ f ∷ []) ++ drop (at + 1) fs
  fields_split fs at f there =
      sym (take-append-drop (at + 1) fs)
      ∙ ap (λ (l : List Field). l ++ drop (at + 1) fs) (take_more fs at f (slice_get_within fs at f there) ∙ ap (λ u. take at fs ++ u ∷ []) (get_or_from_slice_get fs at f f there))

  -- where a member halts, the members do

  split_dues : (xs : List Field) (f : Field) (ys : List Field)
      → (es : List Due)
      × (separated_dues (map (λ f. named_due f.name f.of.0) ((xs ++ f ∷ []) ++ ys)) ≡ separated_dues (map (λ f. named_due f.name f.of.0) xs)
      ++ ((comma_dues (length xs) ++ named_due f.name f.of.0) ++ es))
  split_dues [] f ys = (
    led_dues (map (λ f. named_due f.name f.of.0) ys),
    dues_both (named_due f.name f.of.0) [] (map (λ f. named_due f.name f.of.0) ys),
  )
  split_dues (g ∷ xs) f ys =
      let rest : List (List Due) = map (λ f. named_due f.name f.of.0) ys in
      let front : List (List Due) = map (λ f. named_due f.name f.of.0) (xs ++ f ∷ []) in (
        led_dues rest,
        ap separated_dues (map-append (λ (f : Field). named_due f.name f.of.0) (g ∷ (xs ++ f ∷ [])) ys)
            ∙ dues_both (named_due g.name g.of.0) front rest
            ∙ ap (λ (l : List Due). l ++ led_dues rest) (dues_step (g ∷ xs) f)
            ∙ append_assoc (separated_dues (map (λ f. named_due f.name f.of.0) (g ∷ xs))) (comma_dues (length (g ∷ xs)) ++ named_due f.name f.of.0) (led_dues rest),
      )

  members_halt : (fs : List Field) (at : ℕ) (f : Field) (ns ms : Named) (text mid : List ℕ) (vs : List Tree) (e : Stop) → slice_get fs at ≡ Some f → MembersCame (take at fs) ns text vs ms mid
      → Halts v table (comma_dues at ++ named_due f.name f.of.0) ms mid e → Halts v table (separated_dues (map (λ f. named_due f.name f.of.0) fs)) ns text e
  members_halt fs at f ns ms text mid vs e there c h =
      let below = slice_get_within fs at f there in
      let is : length (take at fs) ≡ at = length-take-le at fs (omega (arith, below)) in
      let s = split_dues (take at fs) f (drop (at + 1) fs) in
      subst (λ (l : List Field). Halts v table (separated_dues (map (λ f. named_due f.name f.of.0) l)) ns text e) (sym (fields_split fs at f there))
      (subst (λ (l : List Due). Halts v table l ns text e) (sym s.1)
      (halts_then v table (separated_dues (map (λ f. named_due f.name f.of.0) (take at fs))) ((comma_dues (length (take at fs)) ++ named_due f.name f.of.0) ++ s.0) ns ms text mid
      (member_tokens (take at fs) vs) e c.passes
      (halts_framed v table (comma_dues (length (take at fs)) ++ named_due f.name f.of.0) s.0 ms mid e
      (subst (λ n. Halts v table (comma_dues n ++ named_due f.name f.of.0) ms mid e) (sym is) h))))

  pub member_next : (fs : List Field) (at : ℕ) (f : Field) (ns ms ls : Named) (text mid rest : List ℕ) (vs new : List Tree) (x : Tree) → slice_get fs at ≡ Some f
      → MembersCame (take at fs) ns text vs ms mid
      → IsMember v table f at ms mid x ls rest → new ≡ vs ++ x ∷ [] → MembersCame (take (at + 1) fs) ns text new ls rest
  member_next fs at f ns ms ls text mid rest vs new x there c i is =
      let below = slice_get_within fs at f there in
      subst (λ (l : List Field). MembersCame l ns text new ls rest) (sym (take_more fs at f below ∙ ap (λ u. take at fs ++ u ∷ []) (get_or_from_slice_get fs at f f there)))
      (member_came (take at fs) f at ns ms ls text mid rest vs new x (sym (length-take-le at fs (omega (arith, below)))) c i is)

  -- the opening brace does not come
  pub struct_refused : (t : ℕ) (fs : List Field) → type_at table t ≡ Some (def.Struct fs) → (ns : Named) (text : List ℕ) (e : Stop) → Misses v (This (Other (Mark 123))) text e
      → Halts v table (AValue t ∷ []) ns text e
  struct_refused t fs is ns text e m =
      halts_open v table t (def.Struct fs) is ns text e
      (halts_miss v table (This (Other (Mark 123))) (separated_dues (map (λ f. named_due f.name f.of.0) fs) ++ This (Other (Mark 125)) ∷ []) ns text e refl m)

  module _ (t : ℕ) (fs : List Field) (is : type_at table t ≡ Some (def.Struct fs)) (ns : Named) (text start : List ℕ) (opens : IsCut (plain v) text (Mark 123) start) where
    abbrev inside : List Due
    inside = separated_dues (map (λ f. named_due f.name f.of.0) fs)

    pub struct_opens : (e : Stop) → Halts v table inside ns start e → Halts v table (AValue t ∷ []) ns text e
    struct_opens e h =
        halts_open v table t (def.Struct fs) is ns text e
        (halts_then v table (This (Other (Mark 123)) ∷ []) (inside ++ This (Other (Mark 125)) ∷ []) ns ns text start (Mark 123 ∷ []) e (mark_passes v table ns text start 123 refl opens)
        (halts_framed v table inside (This (Other (Mark 125)) ∷ []) ns start e h))

    pub struct_member : (at : ℕ) (f : Field) (ms : Named) (mid : List ℕ) (vs : List Tree) (e : Stop) → slice_get fs at ≡ Some f → MembersCame (take at fs) ns start vs ms mid
        → Halts v table (comma_dues at ++ named_due f.name f.of.0) ms mid e → Halts v table (AValue t ∷ []) ns text e
    struct_member at f ms mid vs e there c h = struct_opens e (members_halt fs at f ns ms start mid vs e there c h)

    module _ (at : ℕ) (last : length fs ≤ at) (vs : List Tree) (ms : Named) (mid : List ℕ) (c : MembersCame (take at fs) ns start vs ms mid) where
      all_came : MembersCame fs ns start vs ms mid
      all_came = subst (λ (l : List Field). MembersCame l ns start vs ms mid) (take_all at fs last) c

      pub struct_closes : (e : Stop) → Misses v (This (Other (Mark 125))) mid e → Halts v table (AValue t ∷ []) ns text e
      struct_closes e m =
          halts_open v table t (def.Struct fs) is ns text e
          (halts_then v table (This (Other (Mark 123)) ∷ []) (inside ++ This (Other (Mark 125)) ∷ []) ns ns text start (Mark 123 ∷ []) e (mark_passes v table ns text start 123 refl opens)
          (halts_then v table inside (This (Other (Mark 125)) ∷ []) ns ms start mid (member_tokens fs vs) e all_came.passes (halts_miss v table (This (Other (Mark 125))) [] ms mid e refl m)))

      pub struct_value : (rest : List ℕ) (val : Tree) → IsCut (plain v) mid (Mark 125) rest → val ≡ node tree.Rec (trees vs) → IsValue v table t ns text val ms rest
      struct_value rest val cut e =
          opened_value v table t (def.Struct fs) is tree.Rec (trees vs) ns ms text rest val (Mark 123 ∷ (member_tokens fs vs ++ Mark 125 ∷ [])) e
          (eq-eqb (count (trees vs)) (length fs) (count_trees vs ∙ all_came.many))
          all_came.forms all_came.names
          (ap (λ (l : List Token). Mark 123 ∷ l) (map-append token_of (separated (members fs (values_pieces v table (map (λ f. f.of.0) fs) (trees vs)))) (Other (Mark 125) ∷ [])))
          (passes_then v table (This (Other (Mark 123)) ∷ []) (inside ++ This (Other (Mark 125)) ∷ []) ns ns ms text start rest (Mark 123 ∷ []) (member_tokens fs vs ++ Mark 125 ∷ [])
          (mark_passes v table ns text start 123 refl opens)
          (passes_then v table inside (This (Other (Mark 125)) ∷ []) ns ms ms start mid rest (member_tokens fs vs) (Mark 125 ∷ []) all_came.passes (mark_passes v table ms mid rest 125 refl cut)))
          (omega (arith, all_came.few, cut_less (plain v) text (Mark 123) start opens, cut_less (plain v) mid (Mark 125) rest cut))
