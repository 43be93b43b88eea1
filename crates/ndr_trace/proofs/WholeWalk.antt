-- The beginning of a walk.
-- `k` are the octets with the partial graph in which they are refused, `u` is a walk, `p` how far it came.
use Rattle.std.proofs.Common.{◌≡◌, ◌∙◌, drop, take, sym, ap, subst, arith}
use Rattle.std.specs.Prelude.{Err, Result}
use Rattle.nd_grammar.specs.Entry.{end_to_end}
use Rattle.ndr_explain.specs.Explained.{explanation_over}
use Rattle.ndr_trace_value.specs.Due.{Stops}
use Rattle.ndr_trace_value.specs.Untested.{untested}
use Rattle.ndr_trace_value.specs.declared.nodes.Walker.{Walker}
use Rattle.ndr_trace.specs.Homes.{IsPart}
use Rattle.ndr_trace.specs.Sides.{IsAtRoot, IsBeginning, IsStream}
use Rattle.ndr_trace_value.specs.Tracing.{IsGround, IsTracing, Known, sought_path, sought_variable}
use Rattle.ndr_trace_value.specs.declared.progress.Ground.{Ground}
use Rattle.ndr_trace_value.specs.declared.progress.Halt.{Halt}
use Rattle.ndr_trace_value.specs.declared.progress.Halt.TheVariants as halts
use Rattle.ndr_trace.proofs.Starting.{at_first_root}
use Rattle.ndr_trace_value.proofs.Passing.{not_held}

-- at the beginning all entries are due
pub begins : (k : Known) (u : Walker) → IsPart k → (g : IsStream k) → (v : Ground) → IsGround k v → IsBeginning u → IsAtRoot k u 0
begins k u s g v ground b =
    at_first_root k s g.entries g.stream u tracing g.own g.full ground.is_numbering b.count b.numbers b.none_pending b.unmarked
  where
    tracing : IsTracing k u.progress (untested g.entries)
    tracing = record {
      within = (let z = b.next in omega (arith, z));
      lines = b.lines ∙ ap (λ n. explanation_over k.setting k.graph k.fetched (take n k.log)) (sym b.next);
      path = b.path ∙ sym (not_held k (sought_path k) u.progress.next b.next);
      variable = b.variable ∙ sym (not_held k (sought_variable k) u.progress.next b.next);
      from = λ j i mine there low. absurd (let z = b.next in omega (arith, z, low));
      due =
          subst (λ n. Stops k.order k.fetched k.numbering k.here (end_to_end u.progress.at (untested g.entries)) (drop n k.log)) (sym b.next)
          (subst (λ n. Stops k.order k.fetched k.numbering k.here (end_to_end n (untested g.entries)) k.log) (sym b.at) g.due);
    }

-- a walk that ended at an item
pub is_here : {X : Type 0} (e : Halt) → e ≡ halts.Here → ◌≡◌ {A = Result X Halt} (Err e) (Err halts.Here)
is_here e h = ap (λ x. Err x) h
