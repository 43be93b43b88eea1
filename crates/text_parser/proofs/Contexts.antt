-- Context handles: `ctx ( NUMBER , UUID )`.
use Rattle.std.proofs.Common.{◌≡◌, ℕ, pos, true, List, [], ◌∷◌, ◌++◌, Some, refl, sym, ap, subst, codes, arith}
use Rattle.std.proofs.lemmas.Bool.{and_from}
use Rattle.nd_types.specs.declared.types.TypeDef.TheVariants as def
use Rattle.nd_types.specs.Table.{Table, type_at}
use Rattle.nd_value.specs.Tree as tree
use Rattle.nd_value.specs.Tree.{Tree, node, none}
use Rattle.nd_value.specs.Misfit.{is_count}
use Rattle.text_grammar.specs.declared.version.Version.{Version}
use Rattle.text_grammar.specs.declared.fault.TextReason.TheVariants as reason
use Rattle.text_grammar.specs.Tokens.{Token, Word, Number, Uuid, Mark, Cutting, IsCut}
use Rattle.text_grammar.specs.Written.{Other, word, comma}
use Rattle.text_grammar.specs.Dues.{Due, This, ACount, AUuid, AValue, went_on_if}
use Rattle.text_grammar.specs.Reader.{Ending, Stopped, ComesTo, goes_on}
use Rattle.text_grammar.specs.Settled.{IsSettled}
use Rattle.text_grammar.specs.Values.{reading}
use Rattle.text_grammar.proofs.Settled.{settled_cutting, cutting_ctx_1, cutting_ctx_2, cutting_ctx_3, cutting_ctx_4, cutting_ctx_5, settled_ctx_6}
use Rattle.text_grammar.proofs.Alike.{go_on}
use Rattle.text_grammar.proofs.OneText.{cut_less}
use Rattle.text_parser.specs.declared.stop.Stop.{Stop}
use Rattle.text_parser.specs.declared.stop.Stop.TheVariants as stop
use Rattle.text_parser.specs.Lexemes.{plain, for_uuid}
use Rattle.text_parser.specs.Misses.{Misses, MissesUuid}
use Rattle.text_parser.specs.Identifiers.{is_id}
use Rattle.text_parser.specs.Passing.{Named, Halts, IsValue}
use Rattle.text_parser.proofs.Passages.{miss_comes, halts_open, halts_then, halts_miss}
use Rattle.text_parser.proofs.OpenedValues.{opened_value}
use Rattle.text_parser.proofs.SmallParts.{word_passes}

module _ (v : Version) (table : Table) (t : ℕ) (is : type_at table t ≡ Some def.Context) (ns : Named) (text : List ℕ) where
  abbrev after_word : List Due
  after_word = This (Other (Mark 40)) ∷ ACount ∷ This comma ∷ AUuid ∷ This (Other (Mark 41)) ∷ []

  abbrev all_due : List Due
  all_due = This (word (codes "ctx")) ∷ after_word

  pub word_halts : (e : Stop) → Misses v (This (word (codes "ctx"))) text e → Halts v table (AValue t ∷ []) ns text e
  word_halts e m = halts_open v table t def.Context is ns text e (halts_miss v table (This (word (codes "ctx"))) after_word ns text e refl m)

  module _ (r1 : List ℕ) (c1 : IsCut (plain v) text (Word (codes "ctx")) r1) where
    pub opening_halts : (e : Stop) → Misses v (This (Other (Mark 40))) r1 e → Halts v table (AValue t ∷ []) ns text e
    opening_halts e m =
        halts_open v table t def.Context is ns text e
        (halts_then v table (This (word (codes "ctx")) ∷ []) after_word ns ns text r1 (Word (codes "ctx") ∷ []) e (word_passes v table ns text r1 (codes "ctx") c1)
        (halts_miss v table (This (Other (Mark 40))) (ACount ∷ This comma ∷ AUuid ∷ This (Other (Mark 41)) ∷ []) ns r1 e refl m))

    module _ (r2 : List ℕ) (c2 : IsCut (plain v) r1 (Mark 40) r2) where
      comes_2 : (more : List Due) (cells : ℕ) (before : List Token) → IsSettled v before → (e : Ending)
          → ComesTo table (reading v (ACount ∷ This comma ∷ AUuid ∷ This (Other (Mark 41)) ∷ more) ns cells) (Mark 40 ∷ Word (codes "ctx") ∷ before) r2 e
          → ComesTo table (reading v (all_due ++ more) ns cells) before text e
      comes_2 more cells before s e h =
          goes_on (reading v (after_word ++ more) ns cells) (Word (codes "ctx")) r1 (subst (λ (h : Cutting). IsCut h text (Word (codes "ctx")) r1) (sym (settled_cutting v before s)) c1) refl
          (goes_on (reading v (ACount ∷ This comma ∷ AUuid ∷ This (Other (Mark 41)) ∷ more) ns cells) (Mark 40) r2
          (subst (λ (h : Cutting). IsCut h r1 (Mark 40) r2) (sym (cutting_ctx_1 v before s)) c2) refl h)

      pub count_halts : (e : Stop) → Misses v ACount r2 e → Halts v table (AValue t ∷ []) ns text e
      count_halts e m = halts_open v table t def.Context is ns text e (by e m) where
        by : (e : Stop) → Misses v ACount r2 e → Halts v table all_due ns text e
        by stop.Memory m = tt
        by (stop.At left why) m = λ more cells before s.
            comes_2 more cells before s (Stopped left why)
            (miss_comes v table (plain v) ACount (This comma ∷ AUuid ∷ This (Other (Mark 41)) ∷ more) ns cells (Mark 40 ∷ Word (codes "ctx") ∷ before) r2 left why refl (cutting_ctx_2 v before s) m)

      module _ (n : ℕ) (fits : is_count n ≡ true) (r3 : List ℕ) (c3 : IsCut (plain v) r2 (Number (pos n)) r3) where
        comes_3 : (more : List Due) (cells : ℕ) (before : List Token) → IsSettled v before → (e : Ending)
            → ComesTo table (reading v (This comma ∷ AUuid ∷ This (Other (Mark 41)) ∷ more) ns cells) (Number (pos n) ∷ Mark 40 ∷ Word (codes "ctx") ∷ before) r3 e
            → ComesTo table (reading v (all_due ++ more) ns cells) before text e
        comes_3 more cells before s e h =
            comes_2 more cells before s e
            (goes_on (reading v (This comma ∷ AUuid ∷ This (Other (Mark 41)) ∷ more) ns cells) (Number (pos n)) r3
            (subst (λ (h : Cutting). IsCut h r2 (Number (pos n)) r3) (sym (cutting_ctx_2 v before s)) c3)
            (ap (λ b. went_on_if b (reading v (ACount ∷ This comma ∷ AUuid ∷ This (Other (Mark 41)) ∷ more) ns cells) (This comma ∷ AUuid ∷ This (Other (Mark 41)) ∷ more) reason.Expected) fits) h)

        pub comma_halts : (e : Stop) → Misses v (This (Other (Mark 44))) r3 e → Halts v table (AValue t ∷ []) ns text e
        comma_halts e m = halts_open v table t def.Context is ns text e (by e m) where
          by : (e : Stop) → Misses v (This (Other (Mark 44))) r3 e → Halts v table all_due ns text e
          by stop.Memory m = tt
          by (stop.At left why) m = λ more cells before s.
              comes_3 more cells before s (Stopped left why)
              (miss_comes v table (plain v) (This comma) (AUuid ∷ This (Other (Mark 41)) ∷ more) ns cells (Number (pos n) ∷ Mark 40 ∷ Word (codes "ctx") ∷ before) r3 left why refl
              (cutting_ctx_3 v before s (pos n)) m)

        module _ (r4 : List ℕ) (c4 : IsCut (plain v) r3 (Mark 44) r4) where
          comes_4 : (more : List Due) (cells : ℕ) (before : List Token) → IsSettled v before → (e : Ending)
              → ComesTo table (reading v (AUuid ∷ This (Other (Mark 41)) ∷ more) ns cells) (Mark 44 ∷ Number (pos n) ∷ Mark 40 ∷ Word (codes "ctx") ∷ before) r4 e
              → ComesTo table (reading v (all_due ++ more) ns cells) before text e
          comes_4 more cells before s e h =
              comes_3 more cells before s e
              (goes_on (reading v (AUuid ∷ This (Other (Mark 41)) ∷ more) ns cells) (Mark 44) r4 (subst (λ (h : Cutting). IsCut h r3 (Mark 44) r4) (sym (cutting_ctx_3 v before s (pos n))) c4) refl h)

          pub uuid_halts : (e : Stop) → MissesUuid v r4 e → Halts v table (AValue t ∷ []) ns text e
          uuid_halts e m = halts_open v table t def.Context is ns text e (by e m) where
            by : (e : Stop) → MissesUuid v r4 e → Halts v table all_due ns text e
            by stop.Memory m = tt
            by (stop.At left why) m = λ more cells before s.
                comes_4 more cells before s (Stopped left why)
                (miss_comes v table (for_uuid v) AUuid (This (Other (Mark 41)) ∷ more) ns cells (Mark 44 ∷ Number (pos n) ∷ Mark 40 ∷ Word (codes "ctx") ∷ before) r4 left why refl
                (cutting_ctx_4 v before s (pos n)) m)

          module _ (id : List ℕ) (r5 : List ℕ) (c5 : IsCut (for_uuid v) r4 (Uuid id) r5) where
            pub closing_halts : (e : Stop) → Misses v (This (Other (Mark 41))) r5 e → Halts v table (AValue t ∷ []) ns text e
            closing_halts e m = halts_open v table t def.Context is ns text e (by e m) where
              by : (e : Stop) → Misses v (This (Other (Mark 41))) r5 e → Halts v table all_due ns text e
              by stop.Memory m = tt
              by (stop.At left why) m = λ more cells before s.
                  comes_4 more cells before s (Stopped left why)
                  (goes_on (reading v (This (Other (Mark 41)) ∷ more) ns cells) (Uuid id) r5 (subst (λ (h : Cutting). IsCut h r4 (Uuid id) r5) (sym (cutting_ctx_4 v before s (pos n))) c5) refl
                  (miss_comes v table (plain v) (This (Other (Mark 41))) more ns cells (Uuid id ∷ Mark 44 ∷ Number (pos n) ∷ Mark 40 ∷ Word (codes "ctx") ∷ before) r5 left why refl
                  (cutting_ctx_5 v before s (pos n) id) m))

            pub context_value : (rest : List ℕ) (val : Tree) → IsCut (plain v) r5 (Mark 41) rest → is_id id ≡ true → val ≡ node (tree.Context n id) none → IsValue v table t ns text val ns rest
            context_value rest val c6 good e =
                opened_value v table t def.Context is (tree.Context n id) none ns ns text rest val (Word (codes "ctx") ∷ Mark 40 ∷ Number (pos n) ∷ Mark 44 ∷ Uuid id ∷ Mark 41 ∷ []) e
                (and_from (is_count n) (is_id id) fits good) refl refl refl
                (record {
                  begins = λ before s. (
                    r1,
                    subst (λ (h : Cutting). IsCut h text (Word (codes "ctx")) r1) (sym (settled_cutting v before s)) c1,
                    (
                      r2,
                      subst (λ (h : Cutting). IsCut h r1 (Mark 40) r2) (sym (cutting_ctx_1 v before s)) c2,
                      (
                        r3,
                        subst (λ (h : Cutting). IsCut h r2 (Number (pos n)) r3) (sym (cutting_ctx_2 v before s)) c3,
                        (
                          r4,
                          subst (λ (h : Cutting). IsCut h r3 (Mark 44) r4) (sym (cutting_ctx_3 v before s (pos n))) c4,
                          (
                            r5,
                            subst (λ (h : Cutting). IsCut h r4 (Uuid id) r5) (sym (cutting_ctx_4 v before s (pos n))) c5,
                            (rest, subst (λ (h : Cutting). IsCut h r5 (Mark 41) rest) (sym (cutting_ctx_5 v before s (pos n) id)) c6, refl),
                          ),
                        ),
                      ),
                    ),
                  );
                  settled = λ before s. settled_ctx_6 v before s (pos n) id;
                  reads = λ more cells.
                      ap (λ b. go_on table
                      (went_on_if b (reading v (ACount ∷ This comma ∷ AUuid ∷ This (Other (Mark 41)) ∷ more) ns cells) (This comma ∷ AUuid ∷ This (Other (Mark 41)) ∷ more) reason.Expected)
                      (Mark 44 ∷ Uuid id ∷ Mark 41 ∷ [])) fits;
                })
                (omega (
                  arith,
                  cut_less (plain v) text (Word (codes "ctx")) r1 c1,
                  cut_less (plain v) r1 (Mark 40) r2 c2,
                  cut_less (plain v) r2 (Number (pos n)) r3 c3,
                  cut_less (plain v) r3 (Mark 44) r4 c4,
                  cut_less (for_uuid v) r4 (Uuid id) r5 c5,
                  cut_less (plain v) r5 (Mark 41) rest c6,
                ))
