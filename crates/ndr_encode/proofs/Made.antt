-- What a search for the homes of a fit begins with, and what is found at its end.
-- `f` is a fit, `x` the stream that is searched, `s` what is known so far, `us` are homes with the addresses of their runs.
use Rattle.std.proofs.Common.{◌≡◌, ℕ, ◌+◌, ◌-◌, ◌<◌, ◌≤◌, zero, suc, Bool, false, List, [], ◌∷◌, ◌++◌, length, get_or, drop, Some, refl, ap, sym, ◌∙◌, subst, append-nil, length-drop, arith}
use Rattle.std.specs.Prelude.{replicate, Result, Ok, Err, IfOk}
use Rattle.std.specs.List.{AllByRecursion, slice_get}
use Rattle.nd_base.specs.declared.TheConstants.{STREAM_LIMIT}
use Rattle.nd_types.specs.declared.types.Operation.{Operation}
use Rattle.nd_value.specs.declared.value.Graph.{Graph}
use Rattle.nd_value.specs.declared.item.Home.{Home}
use Rattle.nd_value.specs.Deferral.{Step, Deferral, due_roots, before_pipes}
use Rattle.nd_value.specs.Fitting.{Fitting, IsFit}
use Rattle.nd_value.specs.Setting.{Setting, root_list}
use Rattle.nd_value.proofs.Apart.{all_left, all_right}
use Rattle.nd_value.proofs.DeferralBridge.{deferral_is}
use Rattle.nd_value.proofs.NodeFacts.{sound_conforming}
use Rattle.nd_value.proofs.FewRoots.{few_before_pipes}
use Rattle.nd_grammar.specs.LegalSide.{IsLegalSide}
use Rattle.nd_grammar.proofs.reader.ReaderStream.{roots_few}
use Rattle.ndr_code.specs.declared.instr.Instr.{Instr}
use Rattle.ndr_code.specs.declared.plan.Plan.{Plan}
use Rattle.ndr_code.specs.Code.{code_of, pipe_at, line_at}
use Rattle.ndr_code.proofs.Parted.{pipes_last}
use Rattle.ndr_encoder_laws.specs.pieces.Pieces.{pieces_end}
use Rattle.ndr_encoder_laws.proofs.pieces.Showing.{end_joined}
use Rattle.ndr_encoder_laws.specs.turns.Turned.{Item, Turned, none_left, cells_due}
use Rattle.ndr_encoder_laws.specs.turns.Roots.{root_items}
use Rattle.ndr_encoder_laws.proofs.turns.Turns.{turns_are}
use Rattle.ndr_encoder_laws.specs.chosen.Written.{turn_pieces, turns_pieces, pipe_turns, all_turns}
use Rattle.ndr_encoder_laws.proofs.chosen.Written.{ends}
use Rattle.ndr_encoder_value.specs.Turns.{turn_pairs}
use Rattle.ndr_encoder_value.specs.Counted.{counted_turn, counted_turns, IsCounted}
use Rattle.ndr_encoder_value.proofs.Counts.{all_counted, homes_named, pipes_nameless}
use Rattle.ndr_encode.specs.declared.search.Search.{Search}
use Rattle.ndr_encode.specs.Search.{unmarked, pending_names, Stream, IsNumbered, IsSearchable, AreCounted, IsSearched, ArePipes, IsFresh}
use Rattle.ndr_encode.specs.Making.{stream_of, HasStream}
use Rattle.ndr_encode.specs.declared.work.EncodeFault.{EncodeFault}
use Rattle.ndr_encode.specs.Work.{WorkSeen, setting, HasLength, IsWorkFor, IsTooLong, chosen_length}
use Rattle.ndr_encode.proofs.Lengths.{chosen_length as end_of_octets}
use Rattle.ndr_encode.proofs.Works.{has_length}
use Rattle.nd_grammar.proofs.LegalSides.{operation_there}

-- ## Lists

blank : {X : Type 0} (v : X) (n c : ℕ) → get_or (replicate n v) c v ≡ v
blank v zero c = refl
blank v (suc n) zero = refl
blank v (suc n) (suc c) = blank v n c

blanks : {X : Type 0} (v : X) (n : ℕ) → length (replicate n v) ≡ n
blanks v zero = refl
blanks v (suc n) = ap suc (blanks v n)

all_unmarked : (n : ℕ) → unmarked (replicate n false) ≡ n
all_unmarked zero = refl
all_unmarked (suc n) = ap suc (all_unmarked n)

items_many : (w : Setting) (i n : ℕ) → length (root_items w i n) ≡ n
items_many w i zero = refl
items_many w i (suc n) = ap suc (items_many w (suc i) n)

pipes_many : (at : ℕ → ℕ) (first i m : ℕ) → length (pipe_turns at first i m) ≡ m
pipes_many at first i zero = refl
pipes_many at first i (suc m) = ap suc (pipes_many at first (suc i) m)

-- homes that can be counted end where they end as they are written
counted_end : (code : List Instr) (k : ℕ) (g : Graph) (us : List (Home × ℕ)) → AllByRecursion (IsCounted code k g) us → (at : ℕ)
    → pieces_end at (counted_turns code k g us) ≡ pieces_end at (turns_pieces code k g us)
counted_end code k g [] a at = refl
counted_end code k g (u ∷ us) a at =
    end_joined at (counted_turn code k g u) (counted_turns code k g us) ∙ ap (λ i. pieces_end i (counted_turns code k g us)) (a.0.ends at)
    ∙ counted_end code k g us a.1 (pieces_end at (turn_pieces code k g u)) ∙ sym (end_joined at (turn_pieces code k g u) (turns_pieces code k g us))

-- ## At the beginning

fresh_search : (code : List Instr) (k : ℕ) (g : Graph) (x : Stream) (due : List Item) (s : Search) (n : ℕ) → IsFresh n s → n ≡ length g.cells
    → Turned code g [] due x.homes x.names → length due + length x.pipes ≤ length g.roots → IsSearched code k g x due s
fresh_search code k g x due s n f same t few = record {
  rest = x.homes;
  rest_names = x.names;
  stands = [];
  names = [];
  turned = subst (λ ps. Turned code g [] (cells_due (pending_names ps) ++ due) x.homes x.names) (sym f.pending) t;
  turns = ap (λ ts. turn_pairs ts ++ x.homes) f.turns;
  named = refl;
  numbers = record {
    numbers_are = λ c. ap (λ ns. get_or ns c 0) f.numbers ∙ blank {X = ℕ} 0 (n + 1) c;
    next = ap (λ m. m + 1) f.named;
    within = tt;
    room = ap length f.numbers ∙ blanks {X = ℕ} 0 (n + 1) ∙ ap (λ m. m + 1) same;
  };
  marks = λ c. ap (λ bs. get_or bs c false) f.placed ∙ blank {X = Bool} false (n + 1) c;
  pending = subst (λ ps. AllByRecursion (λ (y : ℕ × ℕ). (0 < y.0) × (y.0 ≤ length g.cells)) (pending_names ps)) (sym f.pending) tt;
  counted = record {
    at = f.at ∙ ap (λ ts. pieces_end 0 (counted_turns code k g (turn_pairs ts))) (sym f.turns);
    few =
        (let t0 = ap length f.turns in
        let p0 : unmarked s.placed.items ≡ n + 1 = ap unmarked f.placed ∙ all_unmarked (n + 1) in omega (arith, t0, p0, same, few));
    room = ap length f.placed ∙ blanks {X = Bool} false (n + 1) ∙ ap (λ m. m + 1) same;
    known = f.known code;
  };
}

-- ## When no home is left before the pipes

all_done : (code : List Instr) (g : Graph) (stands : List ℕ) (ts : List (Home × ℕ)) (ns : List ℕ) → Turned code g stands [] ts ns → (ts ≡ []) × (ns ≡ [])
all_done code g stands ts ns none_left = (refl, refl)

pub homes_over : (code : List Instr) (k : ℕ) (g : Graph) (x : Stream) (s : Search) → IsSearched code k g x [] s → s.count.names.items ≡ [] → ArePipes code k g x x.pipes s
homes_over code k g x s r p =
    let (e, d) = all_done code g r.stands r.rest r.rest_names (subst (λ ps. Turned code g r.stands (cells_due (pending_names ps) ++ []) r.rest r.rest_names) p r.turned) in
    let homes : turn_pairs s.turns.items ≡ x.homes = sym (append-nil (turn_pairs s.turns.items)) ∙ ap (λ l. turn_pairs s.turns.items ++ l) (sym e) ∙ r.turns in
    let names : r.names ≡ x.names = sym (append-nil r.names) ∙ ap (λ l. r.names ++ l) (sym d) ∙ r.named in
    record {
      turns = ap (λ l. l ++ x.pipes) homes;
      numbers = subst (λ ns. IsNumbered (length g.cells) ns s.numbers.items s.named) names r.numbers;
      pending = p;
      counted = subst (λ m. AreCounted code k g m s) (omega arith) r.counted;
    }

-- ## A fit

module _ (plan : Plan) (f : Fitting) (tied : plan.tie ≡ f.interface) (k : ℕ) (some : 1 ≤ k) where
  abbrev pub C : List Instr
  C = code_of f.interface.types f.interface.operations

  pub same_code : plan.code ≡ C
  same_code = plan.planned.code_is ∙ ap (λ i. code_of i.types i.operations) tied

  module _ (fit : IsFit f) where
    abbrev pub W : Setting
    W = setting f fit.operation

    abbrev pub side : IsLegalSide W
    side = record { operations = f.interface.operations; legal = f.interface.legal; operation = operation_there f.interface.operations f.op fit.operation fit.is_there }

    pub searchable_by : (steps : List Step) → Deferral W f.graph [] (due_roots 0 (before_pipes (root_list W))) steps → IsSearchable C k f.graph (stream_of f fit.operation steps)
    searchable_by steps d =
        let x : Stream = stream_of f fit.operation steps in
        let all : AllByRecursion (IsCounted C k f.graph) (x.homes ++ x.pipes) = all_counted W side f.graph fit.conforms (pipes_last W) k f.op fit.is_there some steps d in
        record {
          few_cells = fit.conforms.few_cells;
          few_roots = (let few = roots_few W side in let many = fit.conforms.all_roots in omega (arith, few, many));
          homes = all_left (IsCounted C k f.graph) x.homes x.pipes all;
          names = homes_named W side f.graph fit.conforms k steps d;
          pipes = all_right (IsCounted C k f.graph) x.homes x.pipes all;
          no_names = pipes_nameless W side f.graph fit.conforms (pipes_last W) k f.op fit.is_there some;
        }

    -- the order of its homes
    pub order : (steps : List Step) × Deferral W f.graph [] (due_roots 0 (before_pipes (root_list W))) steps
    order = deferral_is W f.graph (sound_conforming W f.graph fit.conforms)

    -- the stream of a fit
    abbrev pub has_stream : HasStream plan k f
    has_stream = record {
      fit = fit;
      operation = fit.operation;
      is_there = fit.is_there;
      steps = order.0;
      deferral = order.1;
      searchable = subst (λ code. IsSearchable code k f.graph (stream_of f fit.operation order.0)) (sym same_code) (searchable_by order.0 order.1);
    }

    known : slice_get plan.tie.operations f.op ≡ Some fit.operation
    known = subst (λ i. slice_get i.operations f.op ≡ Some fit.operation) (sym tied) fit.is_there

    -- the first line of its side, and how many roots are no pipes
    pub line_of : (n : ℕ) → ((o : Operation) → slice_get plan.tie.operations f.op ≡ Some o → n ≡ line_at plan.tie.types plan.tie.operations f.op o f.side)
        → n ≡ line_at f.interface.types f.interface.operations f.op fit.operation f.side
    line_of n h = h fit.operation known ∙ ap (λ i. line_at i.types i.operations f.op fit.operation f.side) tied

    pub next_of : (n : ℕ) → ((o : Operation) → slice_get plan.tie.operations f.op ≡ Some o → n ≡ before_pipes (root_list (setting f o))) → n ≡ before_pipes (root_list W)
    next_of n h = h fit.operation known

    -- the search begins with its roots
    pub begins_roots : (s : Search) (n : ℕ) → IsFresh n s → n ≡ length f.graph.cells → IsSearched plan.code k f.graph (stream_of f has_stream.operation has_stream.steps)
        (root_items (setting f has_stream.operation) 0 (before_pipes (root_list (setting f has_stream.operation)))) s
    begins_roots s n fresh same =
        let x : Stream = stream_of f fit.operation has_stream.steps in
        let first : ℕ = before_pipes (root_list W) in
        let t : Turned plan.code f.graph [] (root_items W 0 first) x.homes x.names =
        subst (λ code. Turned code f.graph [] (root_items W 0 first) x.homes x.names) (sym same_code) (turns_are W side f.graph fit.conforms has_stream.steps has_stream.deferral) in
        let i : length (root_items W 0 first) ≡ first = items_many W 0 first in
        let p : length x.pipes ≡ length (drop first (root_list W)) =
        pipes_many (pipe_at f.interface.types f.interface.operations f.op fit.operation f.side) first 0 (length (drop first (root_list W))) in
        let l : length (drop first (root_list W)) ≡ length (root_list W) - first = length-drop first (root_list W) in
        let few : first ≤ length (root_list W) = few_before_pipes (root_list W) in
        let roots : length f.graph.roots ≡ length (root_list W) = fit.conforms.all_roots in
        fresh_search plan.code k f.graph x (root_items W 0 first) s n fresh same t (omega (arith, i, p, l, few, roots))

    -- what is found at its end
    module _ (s : Search) (a : ArePipes plan.code k f.graph (stream_of f fit.operation has_stream.steps) [] s) where
      turns_found : turn_pairs s.turns.items ≡ all_turns W f.interface.operations f.op f.graph has_stream.steps
      turns_found = sym (append-nil (turn_pairs s.turns.items)) ∙ a.turns

      length_found : s.count.at ≡ chosen_length f fit.operation k has_stream.steps
      length_found =
          let us : List (Home × ℕ) = all_turns W f.interface.operations f.op f.graph has_stream.steps in
          a.counted.at ∙ ap (λ l. pieces_end 0 (counted_turns plan.code k f.graph l)) turns_found ∙ ap (λ code. pieces_end 0 (counted_turns code k f.graph us)) same_code
          ∙ counted_end C k f.graph us (all_counted W side f.graph fit.conforms (pipes_last W) k f.op fit.is_there some has_stream.steps has_stream.deferral) 0
          ∙ ends W side f.graph fit.conforms (pipes_last W) k f.op fit.is_there has_stream.steps has_stream.deferral some

      pub work_found : s.count.at ≤ STREAM_LIMIT → IsWorkFor f k (record { turns = s.turns.items; numbers = s.numbers.items; length = s.count.at; chunk = k })
      work_found within = record {
        operation = fit.operation;
        is_there = fit.is_there;
        steps = has_stream.steps;
        deferral = has_stream.deferral;
        turns = turns_found;
        numbers = a.numbers.numbers_are;
        some = some;
        chunk = refl;
        length = length_found;
        within = within;
      }

      pub too_long : (n : ℕ) → n ≡ s.count.at → STREAM_LIMIT < n → IsTooLong f k n
      too_long n e l = record {
        many = λ order octets chosen.
            end_of_octets W side f.graph fit.conforms order k octets (chosen fit.operation fit.is_there) has_stream.steps has_stream.deferral ∙ sym (e ∙ length_found);
        too_long = l;
      }

      pub work_answer : (r : Result WorkSeen EncodeFault) → IfOk r (λ work. work ≡ record { turns = s.turns.items; numbers = s.numbers.items; length = s.count.at; chunk = k })
          → IfOk r (λ work. s.count.at ≤ STREAM_LIMIT) → IfOk r (λ work. IsWorkFor f k work)
      work_answer (Ok work) e l = subst (IsWorkFor f k) (sym e) (work_found l)
      work_answer (Err x) e l = tt

-- the length of a work
pub length_answer : (f : Fitting) (k : ℕ) → IsFit f → (r : Result WorkSeen EncodeFault) → IfOk r (λ work. IsWorkFor f k work) → IfOk r (λ work. HasLength f k work.length)
length_answer f k fit (Ok work) is = has_length f k work fit is
length_answer f k fit (Err x) is = tt
