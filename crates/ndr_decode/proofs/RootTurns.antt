-- Turns of the loop over the lines of a side's roots.
-- `cells` is how many cells had their numbers before the loop, `y` is what is kept of the stream before a turn, `z` after the root, `number` is that of the line.
use Rattle.std.proofs.Common.{◌≡◌, ◌≤◌, ◌<◌, ℕ, ◌+◌, suc, Bool, List, [], ◌++◌, length, Option, Some, Result, Ok, Err, IsErrAnd, refl, ap, sym, ◌∙◌, subst, append-nil, arith}
use Rattle.std.specs.List.{slice_get}
use Rattle.std.proofs.lemmas.Option.{slice_get_past}
use Rattle.nd_base.specs.declared.octets.Order.{Order}
use Rattle.nd_base.specs.Over.{Count, SourceSeen, SourceOver, source_over}
use Rattle.nd_types.specs.declared.types.Operation.{Operation}
use Rattle.nd_types.specs.declared.types.Side.{Side}
use Rattle.nd_types.specs.Number.{AreOctets}
use Rattle.nd_types.specs.Roots.{roots_of}
use Rattle.nd_types.specs.Table.{Table, type_at}
use Rattle.nd_lemmas.proofs.Lists.{item_at}
use Rattle.nd_value.specs.declared.item.Item.{Item}
use Rattle.nd_value.specs.Deferral.{Pending, before_pipes}
use Rattle.nd_value.specs.Fitting.{setting_of}
use Rattle.nd_value.specs.Logged.{Logged}
use Rattle.nd_value.specs.Setting.{Setting, root_list}
use Rattle.nd_flat.specs.Building.{CanClose}
use Rattle.nd_grammar.specs.Entry.{EntryAt}
use Rattle.nd_grammar.specs.LegalSide.{IsLegalSide}
use Rattle.nd_grammar.specs.StreamReader.{Reading, read_start}
use Rattle.nd_grammar.proofs.LegalSides.{interface_side}
use Rattle.ndr_code.specs.declared.instr.Instr.{Instr}
use Rattle.ndr_code.specs.declared.lists.PlanLine.TheVariants as line
use Rattle.ndr_code.specs.declared.plan.Plan.{Plan}
use Rattle.ndr_code.specs.Code.{checks_at, root_by, value_roots, line_at}
use Rattle.ndr_decoder_state.specs.declared.fault.DecodeFault.{DecodeFault}
use Rattle.nd_grammar.specs.decoded.Verdict.{DecodingSeen, decoding_seen}
use Rattle.ndr_decoder_laws.specs.stream.Between.{Begins}
use Rattle.ndr_decoder_laws.specs.stream.Calls.{Follows}
use Rattle.ndr_decoder_laws.proofs.stream.StreamBegins.{stream_begins}
use Rattle.ndr_decoder_stream.specs.declared.stream.Stream.{Stream}
use Rattle.ndr_decoder_stream.specs.Seen.{between_of}
use Rattle.ndr_decoder_laws.specs.stream.Report.{the_head}
use Rattle.ndr_decode.specs.declared.roots.Found.{Found}
use Rattle.ndr_decode.specs.Streaming.{FaultOf, IsAtRoot, IsSettingOf, IsStreaming, PendingReads, RootReads, RootsRead, Stands, WentOn, WentThrough, cells_of}
use Rattle.ndr_decode.proofs.RootLines.{HasNextRoot, begin_of, line_there, many_values, next_root, none_left}
use Rattle.ndr_decode.proofs.Standing.{idle_log, idle_source, then_fault, then_went, took_nothing}

-- ## Settings

-- a setting of a side
pub record HasSetting (plan : Plan) (op : ℕ) (side : Side) : Type 0 where
  pub w : Setting
  pub legal : IsLegalSide w
  pub set : IsSettingOf plan op side w

pub setting_by : (plan : Plan) (op : ℕ) (side : Side) (o : Operation) → slice_get plan.tie.operations op ≡ Some o → IsSettingOf plan op side (setting_of plan.tie o side)
setting_by plan op side o e = record { table = refl; there = e; on = refl }

pub setting_there : (plan : Plan) (op : ℕ) (side : Side) → op < length plan.tie.operations → HasSetting plan op side
setting_there plan op side known =
    let (o, e) = item_at plan.tie.operations op known in
    record { w = setting_of plan.tie o side; legal = interface_side plan.tie op o side e; set = setting_by plan op side o e }

pub begin_is : (plan : Plan) (op : ℕ) (side : Side) (w : Setting) → IsSettingOf plan op side w → (number : ℕ)
    → ((o : Operation) → slice_get plan.tie.operations op ≡ Some o → number ≡ line_at plan.tie.types plan.tie.operations op o side) → number ≡ begin_of plan op w
begin_is plan op side w set number is =
    is w.op set.there
    ∙ ap (λ (t : Table). line_at t plan.tie.operations op w.op side) (sym set.table)
    ∙ ap (λ (s : Side). line_at w.table plan.tie.operations op w.op s) (sym set.on)

-- ## How far the loop has come

-- In a setting: reading went on to the line of a number.
pub record WentTo (plan : Plan) (op : ℕ) (w : Setting) (legal : IsLegalSide w) (order : Order) (cells : ℕ) (source : SourceOver) (t : DecodingSeen) (y : Stream) (number : ℕ) : Type 0 where
  pub left : ℕ
  pub went : WentOn w legal order [] [] cells source t y left
  pub here : number + left ≡ begin_of plan op w + before_pipes (root_list w)

-- the same, and nothing is pending
pub record RestsAt (plan : Plan) (op : ℕ) (w : Setting) (legal : IsLegalSide w) (order : Order) (cells : ℕ) (source : SourceOver) (t : DecodingSeen) (y : Stream) (number : ℕ) : Type 0 where
  pub to : WentTo plan op w legal order cells source t y number
  pub none : to.went.ps ≡ []

-- in each setting of the side
abbrev pub AllWent : Plan → ℕ → Side → Order → ℕ → SourceOver → DecodingSeen → Stream → ℕ → Type 0
AllWent plan op side order cells source t y number = (w : Setting) (legal : IsLegalSide w) → IsSettingOf plan op side w → WentTo plan op w legal order cells source t y number

abbrev pub AllRest : Plan → ℕ → Side → Order → ℕ → SourceOver → DecodingSeen → Stream → ℕ → Type 0
AllRest plan op side order cells source t y number = (w : Setting) (legal : IsLegalSide w) → IsSettingOf plan op side w → RestsAt plan op w legal order cells source t y number

roots_left : (w : Setting) (legal : IsLegalSide w) (order : Order) (fetched : List ℕ) (noted : List Item) (direct : ℕ) (x : Stream) (s : Reading) (seen : List EntryAt) (ps : List Pending) (n : ℕ)
    → Stands w legal order fetched noted direct x s seen ps n → length s.roots + n ≡ before_pipes (root_list w)
roots_left w legal order fetched noted direct x s seen ps n st =
    let all : AreOctets (fetched ++ []) = subst AreOctets (sym (append-nil fetched)) st.agrees.octets in
    let (taken, reading) = st.agrees.state [] all in
    reading.roots_left

-- a count that stays
abbrev pub twice : ℕ → Count
twice n = record { before = n; now = n }

-- what was seen over two calls
pub follows : {S : Type 0} (seen : S → SourceSeen) (x y z : S) (f g h : Logged) (k l m : ℕ)
    → Follows (source_over seen x y) (source_over seen y z) (source_over seen x z) (decoding_seen f g k l) (decoding_seen g h l m) (decoding_seen f h k m)
follows seen x y z f g h k l m = record {
  before = refl;
  middle = refl;
  after = refl;
  ended = refl;
  log = refl;
  log_middle = refl;
  log_now = refl;
  steps = refl;
  steps_middle = refl;
  steps_now = refl;
}

-- a fault that is handed on
pub handed_on : (plan : Plan) (op : ℕ) (side : Side) (order : Order) (x : Stream) (source : SourceOver) (t : DecodingSeen) (y : Stream) (r : Result Found DecodeFault) (e : DecodeFault)
    → IsErrAnd r (λ d. d ≡ e)
    → ((w : Setting) → IsLegalSide w → IsSettingOf plan op side w → FaultOf the_head w order [] [] (cells_of x) source t e) → RootsRead plan order op side x source t y r
handed_on plan op side order x source t y (Ok f) e is h = absurd is
handed_on plan op side order x source t y (Err d) e is h = λ w legal set. subst (λ (k : DecodeFault). FaultOf the_head w order [] [] (cells_of x) source t k) (sym is) (h w legal set)

module _ (plan : Plan) (op : ℕ) (side : Side) (order : Order) where
  -- at the beginning
  pub roots_begin : (x : Stream) → Begins (between_of x) → CanClose x.machine.builder → (number : ℕ)
      → ((o : Operation) → slice_get plan.tie.operations op ≡ Some o → number ≡ line_at plan.tie.types plan.tie.operations op o side)
      → (o : Option (List ℕ)) (ended : Bool) (faults : ℕ) (g : Logged) (k : ℕ) → AllRest plan op side order (cells_of x) (idle_source o ended (twice faults)) (idle_log g k) x number
  roots_begin x begins whole number is o ended faults g k w legal set =
      let at = begins.at in
      record {
        to = record {
          left = before_pipes (root_list w);
          went = record {
            octets = [];
            items = [];
            direct = 0;
            s = read_start w order [];
            seen = [];
            ps = [];
            stands = record { agrees = stream_begins w legal order (between_of x) begins; within = omega (arith, at); whole = whole };
            took = took_nothing o ended (twice faults) g k (cells_of x);
          };
          here = ap (λ (n : ℕ). n + before_pipes (root_list w)) (begin_is plan op side w set number is);
        };
        none = refl;
      }

  module _ (cells : ℕ) (source : SourceOver) (t : DecodingSeen) (y : Stream) (number : ℕ) where
    module _ (w : Setting) (legal : IsLegalSide w) (set : IsSettingOf plan op side w) (r : RestsAt plan op w legal order cells source t y number) where
      abbrev i : ℕ
      i = length r.to.went.s.roots

      all_roots : i + r.to.left ≡ before_pipes (root_list w)
      all_roots =
          let g = r.to.went in
          roots_left w legal order g.octets g.items g.direct y g.s g.seen g.ps r.to.left g.stands

      number_is : number ≡ begin_of plan op w + i
      number_is = let here = r.to.here in omega (arith, here, all_roots)

      -- the root of a line
      pub root_here : (m : ℕ) (s : Side) (name : List ℕ) (at : ℕ) → slice_get plan.entries number ≡ Some (line.Entry m s name at) → HasNextRoot plan w i r.to.left at
      root_here m s name at is = next_root plan op side w set i number number_is r.to.left all_roots m s name at is

      pub ends_here : (m : ℕ) (s : Side) (at : ℕ) → slice_get plan.entries number ≡ Some (line.Checks m s at) → (r.to.left ≡ 0) × (at ≡ checks_at w.table plan.tie.operations op w.op w.side)
      ends_here m s at is = none_left plan op side w set i number number_is r.to.left all_roots m s at is

      pub never_past : length plan.entries ≤ number → ⊥
      never_past l = line_there plan op side w set i number number_is r.to.left all_roots (slice_get_past plan.entries number l)

      -- it stands before the root
      pub root_stands : (at : ℕ) (h : HasNextRoot plan w i r.to.left at) → Stands w legal order r.to.went.octets r.to.went.items r.to.went.direct y r.to.went.s r.to.went.seen [] (suc h.others)
      root_stands at h =
          let g = r.to.went in
          subst (λ (n : ℕ). Stands w legal order g.octets g.items g.direct y g.s g.seen [] n) h.left
          (subst (λ (ps : List Pending). Stands w legal order g.octets g.items g.direct y g.s g.seen ps r.to.left) r.none g.stands)

    module _ (known : op < length plan.tie.operations) where
      abbrev some : HasSetting plan op side
      some = setting_there plan op side known

      module _ (rests : AllRest plan op side order cells source t y number) where
        -- what the call that reads a root asks for
        pub root_next : (m : ℕ) (s : Side) (name : List ℕ) (at : ℕ) → slice_get plan.entries number ≡ Some (line.Entry m s name at)
            → (j : Instr) × ((slice_get plan.code at ≡ Some j) × IsAtRoot plan order y j)
        root_next m s name at is =
            let r = rests some.w some.legal some.set in
            let h = root_here some.w some.legal some.set r m s name at is in
            let g = r.to.went in (
              root_by some.w.table h.r.of (type_at some.w.table h.r.of),
              (
                h.instr,
                record {
                  w = some.w;
                  side = some.legal;
                  table = some.set.table;
                  fetched = g.octets;
                  noted = g.items;
                  direct = g.direct;
                  s = g.s;
                  seen = g.seen;
                  n = h.others;
                  stands = root_stands some.w some.legal some.set r at h;
                  r = h.r;
                  there = h.there;
                  instr = refl;
                },
              ),
            )

        -- no line is past the last one
        pub lines_end : length plan.entries ≤ number → ⊥
        lines_end l = never_past some.w some.legal some.set (rests some.w some.legal some.set) l

      -- what the call that reads what is pending asks for
      pub streaming : AllWent plan op side order cells source t y number → IsStreaming plan order y
      streaming goes =
          let g = (goes some.w some.legal some.set).went in
          record {
            w = some.w;
            side = some.legal;
            table = some.set.table;
            fetched = g.octets;
            noted = g.items;
            direct = g.direct;
            s = g.s;
            seen = g.seen;
            ps = g.ps;
            n = (goes some.w some.legal some.set).left;
            stands = g.stands;
          }

    -- ## The line of the agreements

    module _ (rests : AllRest plan op side order cells source t y number) (m : ℕ) (s : Side) (at : ℕ) (is : slice_get plan.entries number ≡ Some (line.Checks m s at)) where
      pub roots_end : (w : Setting) (legal : IsLegalSide w) → IsSettingOf plan op side w → WentThrough w legal order [] [] cells source t y 0
      roots_end w legal set =
          let r = rests w legal set in
          subst (λ (n : ℕ). WentThrough w legal order [] [] cells source t y n) (ends_here w legal set r m s at is).0 (r.to.went, r.none)

      pub roots_found : (o : Operation) → slice_get plan.tie.operations op ≡ Some o → (at ≡ checks_at plan.tie.types plan.tie.operations op o side)
          × (number + 1 ≡ line_at plan.tie.types plan.tie.operations op o side + length (value_roots (roots_of plan.tie.types side o)) + 1)
      roots_found o e =
          let w : Setting = setting_of plan.tie o side in
          let r = rests w (interface_side plan.tie op o side e) (setting_by plan op side o e) in
          let (none, checks) = ends_here w (interface_side plan.tie op o side e) (setting_by plan op side o e) r m s at is in
          let here = r.to.here in
          let many = many_values w in
          (checks, omega (arith, here, many, none))

  -- ## A call after what went before
  -- `a` and `s` are what was seen before the call, `b` and `t` over it, `c` and `u` over both.

  module _ (cells : ℕ) (a b c : SourceOver) (s t u : DecodingSeen) (f : Follows a b c s t u) (y z : Stream) (number : ℕ) where
    module _ (rests : AllRest plan op side order cells a s y number) (m : ℕ) (sd : Side) (name : List ℕ) (at : ℕ) (is : slice_get plan.entries number ≡ Some (line.Entry m sd name at)) where
      pub root_went : (v : Unit {0}) → ((j : Instr) → slice_get plan.code at ≡ Some j → RootReads plan order j y b t z (Ok v)) → AllWent plan op side order cells c u z (number + 1)
      root_went v reads w legal set =
          let r = rests w legal set in
          let h = root_here cells a s y number w legal set r m sd name at is in
          let g = r.to.went in
          let that : WentOn w legal order g.octets g.items (cells_of y) b t z h.others =
          reads (root_by w.table h.r.of (type_at w.table h.r.of)) h.instr w legal g.octets g.items g.direct g.s g.seen h.others set.table
          (root_stands cells a s y number w legal set r at h) h.r h.there refl in
          let here = r.to.here in
          let left = h.left in
          record {
            left = h.others;
            went = then_went w legal order [] [] cells a b c s t u f g.octets g.items (cells_of y) g.took z h.others that;
            here = omega (arith, here, left);
          }

      pub root_faulty : c.faults.before ≤ b.faults.before → c.faults.now ≡ b.faults.now → (e : DecodeFault)
          → ((j : Instr) → slice_get plan.code at ≡ Some j → RootReads plan order j y b t z (Err e))
          → (w : Setting) → IsLegalSide w → IsSettingOf plan op side w → FaultOf the_head w order [] [] cells c u e
      root_faulty low same e reads w legal set =
          let r = rests w legal set in
          let h = root_here cells a s y number w legal set r m sd name at is in
          let g = r.to.went in
          then_fault w legal order [] [] cells a b c s t u f g.octets g.items (cells_of y) g.took the_head low same e
          (reads (root_by w.table h.r.of (type_at w.table h.r.of)) h.instr w legal g.octets g.items g.direct g.s g.seen h.others set.table
          (root_stands cells a s y number w legal set r at h) h.r h.there refl)

    module _ (goes : AllWent plan op side order cells a s y number) where
      pub pending_went : (v : Unit {0}) → PendingReads plan order y b t z (Ok v) → AllRest plan op side order cells c u z number
      pending_went v reads w legal set =
          let r = goes w legal set in
          let g = r.went in
          let (that, none) = reads w legal g.octets g.items g.direct g.s g.seen g.ps r.left set.table g.stands in
          record {
            to = record {
              left = r.left;
              went = then_went w legal order [] [] cells a b c s t u f g.octets g.items (cells_of y) g.took z r.left that;
              here = r.here;
            };
            none = none;
          }

      pub pending_faulty : c.faults.before ≤ b.faults.before → c.faults.now ≡ b.faults.now → (e : DecodeFault) → PendingReads plan order y b t z (Err e)
          → (w : Setting) → IsLegalSide w → IsSettingOf plan op side w → FaultOf the_head w order [] [] cells c u e
      pending_faulty low same e reads w legal set =
          let r = goes w legal set in
          let g = r.went in
          then_fault w legal order [] [] cells a b c s t u f g.octets g.items (cells_of y) g.took the_head low same e
          (reads w legal g.octets g.items g.direct g.s g.seen g.ps r.left set.table g.stands)
