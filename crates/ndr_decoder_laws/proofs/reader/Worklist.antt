-- What is due to the plain reader: the first of it, the end, and that where reading has stopped it stays so to the end of the stream.
use Rattle.std.proofs.Common.{◌≡◌, ℕ, ◌+◌, zero, suc, Bool, true, false, List, [], ◌∷◌, ◌++◌, length, Option, Some, None, refl, ap, ◌∙◌, drop, replicate}
use Rattle.std.specs.List.{slice_get}
use Rattle.nd_base.specs.declared.octets.Order.{Order}
use Rattle.nd_types.specs.declared.types.TypeDef.{TypeDef}
use Rattle.nd_types.specs.declared.types.TypeDef.TheVariants as def
use Rattle.nd_types.specs.declared.types.Class.{Class}
use Rattle.nd_types.specs.declared.types.Class.TheVariants.{Ref, Unique, Full}
use Rattle.nd_types.specs.Table.{type_at}
use Rattle.nd_types.specs.Roots.{Root}
use Rattle.nd_value.specs.Tree.{Tree}
use Rattle.nd_value.specs.Setting.{Setting, root_list, unread, cell_home, cell_at}
use Rattle.nd_value.specs.Deferral.{Pending, Due, due_root, due_referent, before_pipes, root_type}
use Rattle.nd_grammar.specs.declared.reason.Reason.{Reason}
use Rattle.nd_grammar.specs.Entry.{EntryAt, tests}
use Rattle.nd_grammar.specs.Stream.{root_tests}
use Rattle.nd_grammar.specs.Reader.{Progress, Names, pass_all, is_stopped}
use Rattle.nd_grammar.specs.StreamReader.{Reading, ReadPipe, read_root, read_referent, read_pending, read_next, read_due, read_pipe, read_pipes, read_start, read_stream, graph_of, stood}
use Rattle.ndr_decoder_laws.specs.reader.Around.{stopped}
use Rattle.ndr_decoder_laws.proofs.reader.Continuing.{all_stay}

module _ (w : Setting) (order : Order) (octets : List ℕ) where
  -- where nothing is due, nothing more is read, however much is left of the fuel
  pub due_over : (k : ℕ) (s : Reading) → s.due ≡ [] → read_due w order octets k s ≡ s
  due_over zero s e = refl
  due_over (suc k) s e = ap (λ ds. read_due w order octets k (read_next w order octets ds s)) e ∙ due_over k s e

  module _ (at : ℕ) (seen : List EntryAt) (why : ℕ × Reason) where
    abbrev end : Progress
    end = stopped at seen why

    -- a reading that has stopped
    abbrev halted : List Tree → List (Class × ℕ) → List Due → Names → Reading
    halted roots done ds s = record { roots = roots; done = done; due = ds; progress = end; names = s }

    root_stays : (d : Option TypeDef) (i t : ℕ) (ds : List Due) (roots : List Tree) (done : List (Class × ℕ)) (old : List Due) (s : Names)
        → (read_root w order octets d true i t ds (halted roots done old s)).progress ≡ end
    root_stays (Some (def.Prim p)) i t ds roots done old s = refl
    root_stays (Some (def.Enum values)) i t ds roots done old s = refl
    root_stays (Some (def.Struct members)) i t ds roots done old s = refl
    root_stays (Some (def.Array elem bound varying)) i t ds roots done old s = refl
    root_stays (Some (def.Text elem bound)) i t ds roots done old s = refl
    root_stays (Some (def.Union tag enc arms default)) i t ds roots done old s = refl
    root_stays (Some (def.Pointer Ref to)) i t ds roots done old s = refl
    root_stays (Some (def.Pointer Unique to)) i t ds roots done old s = refl
    root_stays (Some (def.Pointer Full to)) i t ds roots done old s = refl
    root_stays (Some def.Context) i t ds roots done old s = refl
    root_stays (Some (def.Pipe elem)) i t ds roots done old s = refl
    root_stays None i t ds roots done old s = refl

    referent_stays : (b : Bool) (p : Pending) (c : ℕ) (ds : List Due) (roots : List Tree) (done : List (Class × ℕ)) (old : List Due) (s : Names)
        → (read_referent w order octets b p c ds (halted roots done old s)).progress ≡ end
    referent_stays true p c ds roots done old s = all_stay order octets (tests (cell_home c) 0 (cell_at (graph_of roots s) c) p.agreements) at seen why
    referent_stays false p c ds roots done old s = all_stay order octets (tests (cell_home c) 0 unread p.agreements) at seen why

    pending_stays : (o : Option ℕ) (p : Pending) (ds : List Due) (roots : List Tree) (done : List (Class × ℕ)) (old : List Due) (s : Names)
        → (read_pending w order octets o p ds (halted roots done old s)).progress ≡ end
    pending_stays None p ds roots done old s = refl
    pending_stays (Some c) p ds roots done old s = referent_stays (stood p.class done c) p c ds roots done old s

    next_stays : (ds : List Due) (roots : List Tree) (done : List (Class × ℕ)) (old : List Due) (s : Names)
        → (read_next w order octets ds (halted roots done old s)).progress ≡ end
    next_stays [] roots done old s = refl
    next_stays (due_root i ∷ ds) roots done old s =
        root_stays (type_at w.table (root_type (slice_get (root_list w) i))) i (root_type (slice_get (root_list w) i)) ds roots done old s
    next_stays (due_referent p ∷ ds) roots done old s = pending_stays p.cell p ds roots done old s

    -- a reading whose progress has stopped
    pub due_stays : (k : ℕ) (s : Reading) → s.progress ≡ end → (read_due w order octets k s).progress ≡ end
    due_stays zero s e = e
    due_stays (suc k) s e =
        due_stays k (read_next w order octets s.due s)
        (ap (λ p. (read_next w order octets s.due (record { roots = s.roots; done = s.done; due = s.due; progress = p; names = s.names })).progress) e
        ∙ next_stays s.due s.roots s.done s.due s.names)

    pipe_stays : (d : Option TypeDef) (i : ℕ) (s : Names) → (read_pipe w order octets d true i end s).progress ≡ end
    pipe_stays (Some (def.Prim p)) i s = refl
    pipe_stays (Some (def.Enum values)) i s = refl
    pipe_stays (Some (def.Struct members)) i s = refl
    pipe_stays (Some (def.Array elem bound varying)) i s = refl
    pipe_stays (Some (def.Text elem bound)) i s = refl
    pipe_stays (Some (def.Union tag enc arms default)) i s = refl
    pipe_stays (Some (def.Pointer class to)) i s = refl
    pipe_stays (Some def.Context) i s = refl
    pipe_stays (Some (def.Pipe elem)) i s = refl
    pipe_stays None i s = refl

    pipes_stay : (i : ℕ) (rs : List Root) (p : Progress) (s : Names) → p ≡ end → (read_pipes w order octets i rs p s).progress ≡ end
    pipes_stay i [] p s e = e
    pipes_stay i (r ∷ rs) p s e =
        let first : Progress → ReadPipe = λ q. read_pipe w order octets (type_at w.table r.of) (is_stopped q.stop) i q s in
        pipes_stay (i + 1) rs (first p).progress (first p).names (ap (λ q. (first q).progress) e ∙ pipe_stays (type_at w.table r.of) i s)

    -- A refusal before the parameters' agreements is that of the whole stream.
    pub stream_stays : (read_due w order octets (length octets + before_pipes (root_list w) + 1) (read_start w order octets)).progress ≡ end
        → (read_stream w order octets).progress ≡ end
    stream_stays e =
        let n : ℕ = before_pipes (root_list w) in
        let head : Reading = read_due w order octets (length octets + n + 1) (read_start w order octets) in
        let roots : List Tree = head.roots ++ replicate (length (drop n (root_list w))) unread in
        let ts = root_tests w (graph_of roots head.names) 0 (root_list w) roots in
        pipes_stay n (drop n (root_list w)) (pass_all order octets ts head.progress) head.names
        (ap (pass_all order octets ts) e ∙ all_stay order octets ts at seen why)
