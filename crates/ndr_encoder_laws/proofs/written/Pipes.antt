-- The run of a pipe writes its elements in chunks.
use Rattle.std.proofs.Common.{◌≡◌, ℕ, ◌+◌, ◌-◌, ◌*◌, ◌≤◌, zero, suc, Bool, true, false, List, [], ◌∷◌, ◌++◌, length, Option, Some, None, refl, ap, ap₂, sym, ◌∙◌, subst, arith, append-nil}
use Rattle.std.proofs.Common.{append_assoc}
use Rattle.std.specs.Prelude.{ltb, replicate}
use Rattle.std.specs.List.{slice_get}
use Rattle.std.proofs.lemmas.Bool.Decides.{nat_tests}
use Rattle.nd_types.specs.declared.types.Operation.{Operation}
use Rattle.nd_types.specs.declared.types.TypeId.{TypeId}
use Rattle.nd_types.specs.declared.types.TypeDef.TheVariants as def
use Rattle.nd_types.specs.declared.types.Primitive.{Primitive}
use Rattle.nd_types.specs.Table.{Table, type_at}
use Rattle.nd_value.specs.Tree as tree
use Rattle.nd_value.specs.Tree.{Trees, node, none, more, count, node_count, Label, Flat, flat, take_trees, drop_trees}
use Rattle.nd_grammar.specs.Stream.{cut_within, cut_of}
use Rattle.ndr_code.specs.declared.instr.Instr.{Instr}
use Rattle.ndr_code.specs.declared.instr.Instr.TheVariants as op
use Rattle.ndr_code.specs.Code.{place_at, code_of}
use Rattle.ndr_code.specs.Runs.{IsRunAt}
use Rattle.ndr_code.proofs.Runs.{first_at, next_at}
use Rattle.ndr_code.proofs.TypeRuns.{place_run_at}
use Rattle.ndr_encoder_laws.specs.pieces.Pieces.{Piece, Gap, four}
use Rattle.ndr_encoder_laws.specs.pieces.Shown.{values_pieces, chunks_pieces}
use Rattle.ndr_encoder_laws.specs.declared.frames.Frame.{Frame}
use Rattle.ndr_encoder_laws.specs.declared.frames.Frame.TheVariants as frame
use Rattle.ndr_encoder_laws.specs.written.Frames.{pushed}
use Rattle.ndr_encoder_laws.specs.written.Run.{run, back, chunk_elements, chunk_count, row_at, after}
use Rattle.ndr_encoder_laws.specs.written.Shaped.{Shaped}
use Rattle.ndr_encoder_laws.proofs.written.Steps.{run_step}
use Rattle.ndr_encoder_laws.proofs.written.Rows.{row_forms}
use Rattle.ndr_encoder_laws.proofs.written.Runs.{AllRun, pushed_room, all_run, values_split}
use Rattle.nd_grammar.proofs.agreements.EntriesTell.{flat_cut as flat_parted}

pub nodes_parted : (k : ℕ) (ts : Trees) → node_count ts ≡ node_count (take_trees k ts) + node_count (drop_trees k ts)
nodes_parted zero ts = omega arith
nodes_parted (suc k) none = omega arith
nodes_parted (suc k) (more (node l ks) ts) = let e = nodes_parted k ts in omega (arith, e)

count_taken : (k : ℕ) (ts : Trees) → k ≤ count ts → count (take_trees k ts) ≡ k
count_taken zero ts h = refl
count_taken (suc k) none h = absurd (omega (arith, h))
count_taken (suc k) (more t ts) h = ap suc (count_taken k ts (omega (arith, h)))

count_dropped : (k : ℕ) (ts : Trees) → count (drop_trees k ts) ≡ count ts - k
count_dropped zero ts = omega arith
count_dropped (suc k) none = omega arith
count_dropped (suc k) (more t ts) = count_dropped k ts ∙ omega arith

dropped_all : (ts : Trees) → drop_trees (count ts) ts ≡ none
dropped_all none = refl
dropped_all (more t ts) = dropped_all ts

-- there are at least as many nodes as trees
pub nodes_of_count : (ts : Trees) → count ts ≤ node_count ts
nodes_of_count none = omega arith
nodes_of_count (more (node l ks) ts) = let h = nodes_of_count ts in omega (arith, h)

shaped_taken : (d e k : ℕ) (table : Table) (ts : Trees) → k ≤ count ts → Shaped d table (replicate (count ts) e) ts → Shaped d table (replicate k e) (take_trees k ts)
shaped_taken d e zero table ts h s = tt
shaped_taken d e (suc k) table none h s = absurd (omega (arith, h))
shaped_taken zero e (suc k) table (more t ts) h s = absurd s
shaped_taken (suc d) e (suc k) table (more (node l ks) ts) h s = (s.0, (s.1.0, shaped_taken (suc d) e k table ts (omega (arith, h)) s.1.1))

shaped_dropped : (d e k : ℕ) (table : Table) (ts : Trees) → Shaped d table (replicate (count ts) e) ts → Shaped d table (replicate (count (drop_trees k ts)) e) (drop_trees k ts)
shaped_dropped d e zero table ts s = s
shaped_dropped d e (suc k) table none s = tt
shaped_dropped zero e (suc k) table (more t ts) s = absurd s
shaped_dropped (suc d) e (suc k) table (more (node l ks) ts) s = shaped_dropped (suc d) e k table ts s.1.1

module _ (table : Table) (operations : List Operation) (m K : ℕ) where
  abbrev C : List Instr
  C = code_of table operations

  -- the elements of a chunk one after the other
  piped_reach : (d elem rest : ℕ) (ks : Trees) (to : ℕ) (frames : List Frame) (fs : List Flat) → AllRun C m K table d (replicate (count ks) elem) ks → length frames + suc d ≤ 36
      → (j : ℕ) × (j ≤ 8 * node_count ks) × ((n : ℕ) → (i : ℕ) × (i ≡ n + j)
      × (back (run C m K i) C K (frame.Pipe (count ks) rest (place_at table elem) to ∷ frames) (flat ks ++ fs)
      ≡ values_pieces table (replicate (count ks) elem) ks ++ back (run C m K n) C K (frame.Pipe 0 rest (place_at table elem) to ∷ frames) fs))
  piped_reach d elem rest none to frames fs a room = (0, omega arith, λ n. (n, omega arith, refl))
  piped_reach d elem rest (more (node l ks) us) to frames fs a room =
      let P : List Piece = values_pieces table (elem ∷ []) (more (node l ks) none) in
      let R : List ℕ = replicate (count us) elem in
      let E : ℕ = place_at table elem in
      let up : List Frame = frame.Pipe (count us) rest E to ∷ frames in
      let (j, few, others) = piped_reach d elem rest us to frames fs a.1 room in
      let (cost, low, first) = a.0.reach up (flat us ++ fs) (omega (arith, room)) in
      let stack : pushed (frame.Pipe (count us) rest E to) frames ≡ up = pushed_room (frame.Pipe (count us) rest E to) frames (omega (arith, room)) in
      let nodes : (l, count ks) ∷ ((flat ks ++ flat us) ++ fs) ≡ (l, count ks) ∷ (flat ks ++ (flat us ++ fs)) = ap (λ q. (l, count ks) ∷ q) (append_assoc (flat ks) (flat us) fs) in (
        j + cost,
        omega (arith, few, low),
        λ n.
            let (i, e, w) = others n in
            let (k, f, v) = first i in (
              k,
              omega (arith, e, f),
              ap (λ q. run C m K k E q ((l, count ks) ∷ ((flat ks ++ flat us) ++ fs))) stack ∙ ap (run C m K k E up) nodes ∙ v ∙ ap (λ q. P ++ q) w
                  ∙ values_split table elem l ks R us (back (run C m K n) C K (frame.Pipe 0 rest E to ∷ frames) fs),
            ),
      )

  abbrev Chunked : Option Primitive → ℕ → ℕ → Trees → ℕ → List Frame → List Flat → Type 0
  Chunked row elem rest ks to frames gs =
      (j : ℕ) × (j ≤ 1 + 8 * node_count ks) × ((n : ℕ) → (i : ℕ) × (i ≡ n + j)
      × (chunk_elements (run C m K i) row (count ks) rest (place_at table elem) to frames (flat ks ++ gs)
      ≡ values_pieces table (replicate (count ks) elem) ks ++ back (run C m K n) C K (frame.Pipe 0 rest (place_at table elem) to ∷ frames) gs))

  -- the elements of a chunk, as a row or each by its run
  chunk_by : (row : Option Primitive) (d elem rest : ℕ) (ks : Trees) (to : ℕ) (frames : List Frame) (gs : List Flat) → row_at C (place_at table elem) ≡ row
      → Shaped d table (replicate (count ks) elem) ks → length frames + suc d ≤ 36 → Chunked row elem rest ks to frames gs
  chunk_by None d elem rest ks to frames gs is shaped room =
      let up : List Frame = frame.Pipe (count ks) rest (place_at table elem) to ∷ frames in
      let (j, few, r) = piped_reach d elem rest ks to frames gs (all_run table operations m K d (replicate (count ks) elem) ks shaped) room in
      let stack : pushed (frame.Pipe (count ks) rest (place_at table elem) to) frames ≡ up = pushed_room (frame.Pipe (count ks) rest (place_at table elem) to) frames (omega (arith, room)) in
      let ret : slice_get C 1 ≡ Some op.Ret = refl in (
        j + 1,
        omega (arith, few),
        λ n.
            let (i, e, w) = r n in
            (suc i, omega (arith, e), ap (λ q. run C m K (suc i) 1 q (flat ks ++ gs)) stack ∙ run_step C m K i 1 up (flat ks ++ gs) op.Ret ret ∙ w),
      )
  chunk_by (Some p) d elem rest ks to frames gs is shaped room =
      let up : List Frame = frame.Pipe 0 rest (place_at table elem) to ∷ frames in
      let (pieces, left) = row_forms table operations elem p is ks gs d shaped in
      let stack : pushed (frame.Pipe 0 rest (place_at table elem) to) frames ≡ up = pushed_room (frame.Pipe 0 rest (place_at table elem) to) frames (omega (arith, room)) in
      let ret : slice_get C 1 ≡ Some op.Ret = refl in (
        1,
        omega arith,
        λ n. (
          suc n,
          omega arith,
          ap₂ (λ u q. u ++ q) (sym pieces)
              (ap (λ q. run C m K (suc n) 1 q (after (count ks) (flat ks ++ gs))) stack ∙ ap (run C m K (suc n) 1 up) left ∙ run_step C m K n 1 up gs op.Ret ret),
        ),
      )

  abbrev Piped : ℕ → List ℕ → Trees → ℕ → List Frame → List Flat → Type 0
  Piped elem cut ks to frames fs =
      (j : ℕ) × (j ≤ 9 * node_count ks) × ((n : ℕ) → (i : ℕ) × (i ≡ n + j)
      × (back (run C m K i) C K (frame.Pipe 0 (count ks) (place_at table elem) to ∷ frames) (flat ks ++ fs) ≡ chunks_pieces table elem cut ks ++ run C m K n to frames fs))

  -- a chunk of c elements, and the chunks after it
  next_chunk : (d elem c : ℕ) (cut : List ℕ) (l : Label) (us : Trees) (ts : Trees) (to : ℕ) (frames : List Frame) (fs : List Flat) → 1 ≤ c → c ≤ suc (count ts)
      → chunk_count K (suc (count ts)) ≡ c → Shaped d table (replicate (suc (count ts)) elem) (more (node l us) ts) → length frames + suc d ≤ 36
      → Piped elem cut (drop_trees c (more (node l us) ts)) to frames fs → Piped elem (c ∷ cut) (more (node l us) ts) to frames fs
  next_chunk d elem c cut l us ts to frames fs some most is shaped room (j, few, others) =
      let ks : Trees = more (node l us) ts in
      let A : Trees = take_trees c ks in
      let B : Trees = drop_trees c ks in
      let E : ℕ = place_at table elem in
      let row : Option Primitive = row_at C E in
      let R : ℕ = suc (count ts) - c in
      let many : count A ≡ c = count_taken c ks most in
      let left : count B ≡ R = count_dropped c ks in
      let gs : List Flat = flat B ++ fs in
      let nodes : flat ks ++ fs ≡ flat A ++ gs = ap (λ q. q ++ fs) (flat_parted c ks) ∙ append_assoc (flat A) (flat B) fs in
      let sizes : node_count ks ≡ node_count A + node_count B = nodes_parted c ks in
      let one : c ≤ node_count A = let h = nodes_of_count A in omega (arith, h, many) in
      let within : Shaped d table (replicate (count A) elem) A = subst (λ q. Shaped d table (replicate q elem) A) (sym many) (shaped_taken d elem c table ks most shaped) in
      let (i0, few0, first) = chunk_by row d elem R A to frames gs refl within room in
      let W : List Piece = values_pieces table (replicate c elem) A in (
        j + i0,
        omega (arith, few, few0, sizes, one, some),
        λ n.
            let (i, e, w) = others n in
            let (k, f, v) = first i in (
              k,
              omega (arith, e, f),
              ap (λ q. Gap 4 ∷ four q ∷ chunk_elements (run C m K k) row q (suc (count ts) - q) E to frames (flat ks ++ fs)) is
                  ∙ ap (λ q. Gap 4 ∷ four c ∷ chunk_elements (run C m K k) row c R E to frames q) nodes
                  ∙ ap (λ q. Gap 4 ∷ four c ∷ chunk_elements (run C m K k) row q R E to frames (flat A ++ gs)) (sym many)
                  ∙ ap (λ q. Gap 4 ∷ four c ∷ q) (v ∙ ap₂ (λ u q. u ++ q) (ap (λ q. values_pieces table (replicate q elem) A) many)
                  (ap (λ q. back (run C m K i) C K (frame.Pipe 0 q E to ∷ frames) gs) (sym left) ∙ w)
                  ∙ sym (append_assoc W (chunks_pieces table elem cut B) (run C m K n to frames fs))),
            ),
      )

  count_by : (b : Bool) (n : ℕ) → ltb n K ≡ b → chunk_count K n ≡ elim b [ true ↦ n | false ↦ K ]
  count_by b n e = ap (λ q. elim q [ true ↦ n | false ↦ K ]) e

  -- a pipe of some elements: the last chunk, or one more of the greatest count
  cut_by : (fuel d elem : ℕ) (l : Label) (us ts : Trees) (to : ℕ) (frames : List Frame) (fs : List Flat) → 1 ≤ K → suc (count ts) ≤ suc fuel
      → Shaped d table (replicate (suc (count ts)) elem) (more (node l us) ts) → length frames + suc d ≤ 36
      → (count (drop_trees K (more (node l us) ts)) ≤ fuel
      → Piped elem (cut_within fuel K (count (drop_trees K (more (node l us) ts)))) (drop_trees K (more (node l us) ts)) to frames fs)
      → (b : Bool) → ltb (suc (count ts)) K ≡ b → Piped elem (cut_within (suc fuel) K (suc (count ts))) (more (node l us) ts) to frames fs
  cut_by fuel d elem l us ts to frames fs some most shaped room others true e =
      let c : ℕ = suc (count ts) in
      let last : drop_trees c (more (node l us) ts) ≡ none = dropped_all (more (node l us) ts) in
      subst (λ cut. Piped elem cut (more (node l us) ts) to frames fs) (sym (ap (λ q. elim q [ true ↦ c ∷ [] | false ↦ K ∷ cut_within fuel K (c - K) ]) e))
      (next_chunk d elem c [] l us ts to frames fs (omega arith) (omega arith) (count_by true c e) shaped room
      (subst (λ q. Piped elem [] q to frames fs) (sym last) (0, omega arith, λ n. (n, omega arith, refl))))
  cut_by fuel d elem l us ts to frames fs some most shaped room others false e =
      let c : ℕ = suc (count ts) in
      let large : K ≤ c = grind (arith, nat_tests) in
      let left : count (drop_trees K (more (node l us) ts)) ≡ c - K = count_dropped K (more (node l us) ts) in
      let fewer : count (drop_trees K (more (node l us) ts)) ≤ fuel = omega (arith, left, most, some) in
      subst (λ cut. Piped elem cut (more (node l us) ts) to frames fs) (sym (ap (λ q. elim q [ true ↦ c ∷ [] | false ↦ K ∷ cut_within fuel K (c - K) ]) e))
      (next_chunk d elem K (cut_within fuel K (c - K)) l us ts to frames fs some large (count_by false c e) shaped room
      (subst (λ q. Piped elem (cut_within fuel K q) (drop_trees K (more (node l us) ts)) to frames fs) left (others fewer)))

  -- a pipe in chunks, each of the greatest count apart from the last
  cut_reach : (fuel d elem : ℕ) (ks : Trees) (to : ℕ) (frames : List Frame) (fs : List Flat) → 1 ≤ K → count ks ≤ fuel → Shaped d table (replicate (count ks) elem) ks
      → length frames + suc d ≤ 36 → Piped elem (cut_within fuel K (count ks)) ks to frames fs
  cut_reach zero d elem none to frames fs some most shaped room = (0, omega arith, λ n. (n, omega arith, refl))
  cut_reach zero d elem (more t ts) to frames fs some most shaped room = absurd (omega (arith, most))
  cut_reach (suc fuel) d elem none to frames fs some most shaped room = (0, omega arith, λ n. (n, omega arith, refl))
  cut_reach (suc fuel) d elem (more (node l us) ts) to frames fs some most shaped room =
      cut_by fuel d elem l us ts to frames fs some most shaped room
      (λ few. cut_reach fuel d elem (drop_trees K (more (node l us) ts)) to frames fs some few (shaped_dropped d elem K table (more (node l us) ts) shaped) room)
      (ltb (suc (count ts)) K) refl

  -- the run of a pipe writes its chunks, and nothing after them
  pub pipe_written : (d t at : ℕ) (elem : TypeId) (ks : Trees) → IsRunAt C at (op.Call (place_at table t) ∷ op.Ret ∷ []) → type_at table t ≡ Some (def.Pipe elem)
      → Shaped d table (replicate (count ks) elem.0) ks → d + 3 ≤ 36 → (limit : ℕ) → 1 ≤ K → 8 + 9 * node_count ks ≤ limit
      → run C m K limit at [] (flat (more (node tree.Pipe ks) none)) ≡ chunks_pieces table elem.0 (cut_of K (count ks)) ks
  pipe_written d t at elem ks s is shaped room limit some enough =
      let A : ℕ = place_at table t in
      let E : ℕ = place_at table elem.0 in
      let s1 : IsRunAt C (at + 1) (op.Ret ∷ []) = next_at C at (op.Call A) (op.Ret ∷ []) s in
      let p : IsRunAt C A (op.Pipe E ∷ op.Ret ∷ []) = place_run_at table operations t (def.Pipe elem) is in
      let p1 : IsRunAt C (A + 1) (op.Ret ∷ []) = next_at C A (op.Pipe E) (op.Ret ∷ []) p in
      let up : List Frame = frame.Call (at + 1) ∷ [] in
      let opened : List Frame = frame.Pipe 0 (count ks) E (A + 1) ∷ up in
      let gs : List Flat = (tree.Pipe, count ks) ∷ (flat ks ++ []) in
      let X : List Piece = chunks_pieces table elem.0 (cut_of K (count ks)) ks in
      let ret : slice_get C 1 ≡ Some op.Ret = refl in
      let stack : pushed (frame.Pipe 0 (count ks) E (A + 1)) up ≡ opened = pushed_room (frame.Pipe 0 (count ks) E (A + 1)) up (omega arith) in
      let (j, few, r) = cut_reach (count ks) d elem.0 ks (A + 1) up [] some (omega arith) shaped (omega (arith, room)) in
      let n : ℕ = limit - (j + 5) in
      let (i, e, w) = r (suc (suc n)) in
      let same : suc (suc (suc i)) ≡ limit = omega (arith, e, few, enough) in
      let called : run C m K (suc (suc (suc i))) at [] gs ≡ run C m K (suc (suc i)) A up gs =
      run_step C m K (suc (suc i)) at [] gs (op.Call A) (first_at C at (op.Call A) (op.Ret ∷ []) s) in
      let piped : run C m K (suc (suc i)) A up gs ≡ run C m K (suc i) 1 opened (flat ks ++ []) =
      run_step C m K (suc i) A up gs (op.Pipe E) (first_at C A (op.Pipe E) (op.Ret ∷ []) p) ∙ ap (λ q. run C m K (suc i) 1 q (flat ks ++ [])) stack in
      let begun : run C m K (suc i) 1 opened (flat ks ++ []) ≡ X ++ run C m K (suc (suc n)) (A + 1) up [] = run_step C m K i 1 opened (flat ks ++ []) op.Ret ret ∙ w in
      let ended : run C m K (suc (suc n)) (A + 1) up [] ≡ [] =
      run_step C m K (suc n) (A + 1) up [] op.Ret (first_at C (A + 1) op.Ret [] p1) ∙ run_step C m K n (at + 1) [] [] op.Ret (first_at C (at + 1) op.Ret [] s1) in
      ap (λ q. run C m K q at [] gs) (sym same) ∙ called ∙ piped ∙ begun ∙ ap (λ q. X ++ q) ended ∙ append-nil X
