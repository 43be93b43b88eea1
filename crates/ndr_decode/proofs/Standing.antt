-- What is right where a call reads nothing, and calls one after the other.
-- `x` is what is kept of the stream, `o` a source's octets, `g` a log, `k` a number of steps.
use Rattle.std.proofs.Common.{◌≡◌, ◌≤◌, ℕ, ℤ, Bool, true, false, List, [], ◌++◌, length, Option, Some, None, refl, ap, sym, ◌∙◌, subst, append_assoc, arith}
use Rattle.std.specs.Prelude.{if◌then◌else◌, option_map}
use Rattle.std.specs.Io.KnownBytes.{Consumes}
use Rattle.std.specs.Ordering.{int_eq}
use Rattle.std.proofs.lemmas.List.{append-nil}
use Rattle.std.proofs.lemmas.Option.{same_Some}
use Rattle.nd_base.specs.declared.octets.Order.{Order}
use Rattle.nd_base.specs.Over.{Rose, SourceOver, Count}
use Rattle.nd_value.specs.Agreement.{Agreement}
use Rattle.nd_value.specs.Deferral.{Pending}
use Rattle.nd_value.specs.declared.item.Home.TheVariants as home
use Rattle.nd_value.specs.declared.item.Item.{Item}
use Rattle.nd_value.specs.Logged.{Logged}
use Rattle.nd_value.specs.Setting.{Setting}
use Rattle.nd_grammar.specs.declared.reason.Reason.{Reason}
use Rattle.nd_grammar.specs.declared.reason.Reason.TheVariants as reason
use Rattle.nd_grammar.specs.Entry.{EntryAt}
use Rattle.nd_grammar.specs.LegalSide.{IsLegalSide}
use Rattle.nd_grammar.specs.StreamReader.{Reading}
use Rattle.ndr_decoder_laws.specs.reader.Around.{stopped}
use Rattle.ndr_decoder_laws.specs.declared.first.First.{First}
use Rattle.ndr_decoder_laws.specs.steps.Good.{Told}
use Rattle.ndr_decoder_laws.specs.steps.Steps.{first_found, place_of, place_in}
use Rattle.nd_grammar.specs.decoded.Verdict.{DecodingSeen}
use Rattle.ndr_decoder_laws.specs.stream.Added.{Goes}
use Rattle.ndr_decoder_laws.specs.stream.Between.{Agrees, Between}
use Rattle.ndr_decoder_laws.specs.stream.Calls.{CutOff, Follows, Refused, Took}
use Rattle.ndr_decoder_laws.specs.stream.Parameters.{head_read}
use Rattle.ndr_decoder_laws.specs.stream.Report.{IsRefusedAfter, StreamCut, StreamRefused, the_head, Extent}
use Rattle.ndr_decoder_laws.specs.stream.Tests.{disagreement}
use Rattle.ndr_decoder_laws.proofs.stream.FewReferences.{few_now}
use Rattle.ndr_decoder_laws.proofs.stream.Joined.{took_twice, took_then_refused, took_then_unread, took_then_cut}
use Rattle.ndr_decoder_laws.proofs.stream.StreamGrows.{head_goes}
use Rattle.ndr_decoder_stream.specs.declared.stream.Stream.{Stream}
use Rattle.ndr_decoder_state.specs.declared.fault.DecodeFault.{DecodeFault}
use Rattle.ndr_decoder_state.specs.declared.fault.DecodeFault.TheVariants as fault
use Rattle.ndr_decoder_state.specs.declared.machine.Owed.{Owed}
use Rattle.ndr_decode.specs.Streaming.{FaultOf, Stands, StandsTaking, WentOn, WentOnTaking, cells_of}
use Rattle.ndr_decoder_stream.proofs.Counting.{none_noted}

-- ## Nothing is read

-- a source and a log that stay as they are
abbrev pub idle_source : Option (List ℕ) → Bool → Count → SourceOver
idle_source o ended faults = record { left = o; left_now = o; ended_now = ended; faults = faults }

abbrev pub idle_log : Logged → ℕ → DecodingSeen
idle_log g k = record { log = g; log_now = g; steps = k; steps_now = k }

none_consumed : (o : Option (List ℕ)) → Consumes o o []
none_consumed None = tt
none_consumed (Some xs) = refl

abbrev kept_in : Bool → List Item → Logged
kept_in b xs = record { keeps = b; items = xs }

module _ (o : Option (List ℕ)) (ended : Bool) (faults : Count) (g : Logged) (k : ℕ) where
  pub took_nothing : (n : ℕ) → Took (idle_source o ended faults) (idle_log g k) n [] [] n
  took_nothing n = record { left = none_consumed o; logged = none_noted g; steps = omega arith }

  module _ (w : Setting) (side : IsLegalSide w) (order : Order) (fetched : List ℕ) (noted : List Item) (direct : ℕ) where
    pub went_nowhere : (x : Stream) (s : Reading) (seen : List EntryAt) (ps : List Pending) (n : ℕ) → Stands w side order fetched noted direct x s seen ps n
        → WentOn w side order fetched noted (cells_of x) (idle_source o ended faults) (idle_log g k) x n
    went_nowhere x s seen ps n st = record {
      octets = [];
      items = [];
      direct = direct;
      s = s;
      seen = seen;
      ps = ps;
      stands = subst (λ (f : List ℕ). Stands w side order f (noted ++ []) direct x s seen ps n) (sym (append-nil fetched))
          (subst (λ (i : List Item). Stands w side order fetched i direct x s seen ps n) (sym (append-nil noted)) st);
      took = took_nothing (cells_of x);
    }

    cells_are : (b : Between) (s : Reading) (seen : List EntryAt) (ps : List Pending) (n : ℕ) → Agrees w side order fetched noted direct b s seen ps n
        → Told noted direct order fetched (home.Root (length s.roots)) seen s.names b.cells b.numbers None 0 []
    cells_are b s seen ps n ag = ag.keeps.told (home.Root (length s.roots)) (omega arith)

    -- memory fails between two homes
    pub cut_here : (b : Between) (s : Reading) (seen : List EntryAt) (ps : List Pending) (n : ℕ) → Agrees w side order fetched noted direct b s seen ps n
        → StreamCut the_head w order fetched noted (length b.cells)
    cut_here b s seen ps n ag =
        let more : Goes s.progress (head_read w order (fetched ++ [])) = head_goes w order fetched s ag.reached [] tt in
        let told = cells_are b s seen ps n ag in
        record {
          octets = ag.octets;
          seen = seen;
          after = more.added;
          passed = subst (λ (f : List ℕ). (head_read w order f).seen ≡ seen ++ more.added) (append-nil fetched)
              (more.seen ∙ ap (λ q. q.seen ++ more.added) ag.progress);
          items_are = told.noted_are;
          cells = record { d = direct; named = told.cells_named.named; few = few_now w side order fetched noted direct b s seen ps n ag };
        }

    pub cut_off_here : (b : Between) (s : Reading) (seen : List EntryAt) (ps : List Pending) (n m : ℕ) → m ≡ length b.cells → Agrees w side order fetched noted direct b s seen ps n
        → CutOff the_head w order fetched noted m (idle_source o ended faults) (idle_log g k)
    cut_off_here b s seen ps n m e ag = record {
      octets = [];
      items = [];
      n' = m;
      cut = subst (λ (f : List ℕ). StreamCut the_head w order f (noted ++ []) m) (sym (append-nil fetched))
          (subst (λ (i : List Item). StreamCut the_head w order fetched i m) (sym (append-nil noted))
          (subst (StreamCut the_head w order fetched noted) (sym e) (cut_here b s seen ps n ag)));
      took = record { left = none_consumed o; logged = none_noted g; steps = omega arith };
    }

    -- ## An agreement is refused

    pub refused_here : (b : Between) (s : Reading) (seen : List EntryAt) (ps : List Pending) (n m at place : ℕ) (why : Reason) → m ≡ length b.cells
        → Agrees w side order fetched noted direct b s seen ps n
        → (why ≡ reason.Truncated → ⊥) → IsRefusedAfter w order fetched noted (length b.cells) direct at (place, why)
        → Refused the_head w order fetched noted m (idle_source o ended faults) (idle_log g k) place why
    refused_here b s seen ps n m at place why e ag other r =
        let is : StreamRefused the_head w order fetched noted (length b.cells) place why = record {
          octets = ag.octets;
          at = at;
          seen = r.seen;
          stops = subst (λ (f : List ℕ). head_read w order f ≡ stopped at r.seen (place, why)) (append-nil fetched) (r.stops [] tt);
          items_are = r.items_are;
          needed = r.needed;
          cells = record { d = direct; named = r.cells_named; few = few_now w side order fetched noted direct b s seen ps n ag };
        } in
        record {
          octets = [];
          items = [];
          n' = m;
          refused = subst (λ (f : List ℕ). StreamRefused the_head w order f (noted ++ []) m place why) (sym (append-nil fetched))
              (subst (λ (i : List Item). StreamRefused the_head w order fetched i m place why) (sym (append-nil noted))
              (subst (λ (c : ℕ). StreamRefused the_head w order fetched noted c place why) (sym e) is));
          took = record { left = none_consumed o; logged = none_noted g; steps = omega arith };
          ended = λ t. absurd (other t);
          none_left = λ t. absurd (other t);
        }

-- an agreement is refused for what it says, and never for octets that do not come
abbrev why_by : Bool → Option ℕ → ℤ → ℤ → Option (ℕ × Reason)
why_by b p z y = if b then None else option_map (λ q. (q, reason.Disagrees z y)) p

pub not_cut : (a : Agreement) (f : First) (m : Option ℕ) (place : ℕ) (why : Reason) → disagreement a f m ≡ Some (place, why) → why ≡ reason.Truncated → ⊥
not_cut a f m place why e t = go (int_eq a.wanted (first_found a.attr f)) (place_of a.attr m (place_in f)) e
  where
    other : (q : ℕ) → ◌≡◌ {A = ℕ × Reason} (q, reason.Disagrees a.wanted (first_found a.attr f)) (place, why) → ⊥
    other q e = let x : reason.Disagrees a.wanted (first_found a.attr f) ≡ reason.Truncated = ap (λ (r : ℕ × Reason). r.1) e ∙ t in cc

    go : (b : Bool) (p : Option ℕ) → why_by b p a.wanted (first_found a.attr f) ≡ Some (place, why) → ⊥
    go true p e = cc
    go false None e = cc
    go false (Some q) e = other q (same_Some (q, reason.Disagrees a.wanted (first_found a.attr f)) (place, why) e)

-- ## One call after the other

-- what a call comes to after another one that went on
module _ (w : Setting) (side : IsLegalSide w) (order : Order) (fetched : List ℕ) (noted : List Item) (n0 : ℕ) (a b c : SourceOver) (s t u : DecodingSeen) (f : Follows a b c s t u)
    (octets : List ℕ) (xs : List Item) (n1 : ℕ) (took : Took a s n0 octets xs n1) where
  abbrev pub then_went_taking : (q : Option Owed) (x : Stream) (n : ℕ) → WentOnTaking w side order (fetched ++ octets) (noted ++ xs) n1 b t q x n → WentOnTaking w side order fetched noted n0 c u q x n
  then_went_taking q x n g = record {
    octets = octets ++ g.octets;
    items = xs ++ g.items;
    direct = g.direct;
    s = g.s;
    seen = g.seen;
    ps = g.ps;
    stands = subst (λ (z : List ℕ). StandsTaking w side order z (noted ++ (xs ++ g.items)) g.direct q x g.s g.seen g.ps n) (append_assoc fetched octets g.octets)
        (subst (λ (z : List Item). StandsTaking w side order ((fetched ++ octets) ++ g.octets) z g.direct q x g.s g.seen g.ps n) (append_assoc noted xs g.items) g.stands);
    took = took_twice a b c s t u f n0 n1 (cells_of x) octets g.octets xs g.items took g.took;
  }

  abbrev pub then_went : (x : Stream) (n : ℕ) → WentOn w side order (fetched ++ octets) (noted ++ xs) n1 b t x n → WentOn w side order fetched noted n0 c u x n
  then_went x n g = then_went_taking None x n g

  -- a fault, where the source's count of faults had not fallen before
  pub then_fault : (reach : Extent) → c.faults.before ≤ b.faults.before → c.faults.now ≡ b.faults.now → (e : DecodeFault) → FaultOf reach w order (fetched ++ octets) (noted ++ xs) n1 b t e
      → FaultOf reach w order fetched noted n0 c u e
  then_fault reach l m (fault.Bad place why) x = took_then_refused a b c s t u f reach w order fetched noted n0 n1 octets xs took place why x
  then_fault reach l m fault.ReadFault x = (took_then_unread a b c s t u f reach w order fetched noted n0 n1 octets xs took x.0, rose c.faults.before b.faults.before b.faults.now c.faults.now l m x.1)
    where
      rose : (p q r r' : ℕ) → p ≤ q → r' ≡ r → Rose q r → Rose p r'
      rose p q r r' l m x = subst (λ k. Rose p k) (sym m) (omega (arith, l, x))
  then_fault reach l m fault.Memory x = took_then_cut a b c s t u f reach w order fetched noted n0 n1 octets xs took x
