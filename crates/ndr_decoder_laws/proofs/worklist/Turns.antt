-- The turns of the reader over what is due, whatever follows the octets that were fetched.
use Rattle.std.proofs.Common.{◌≡◌, ℕ, ◌+◌, ◌<◌, zero, suc, List, [], ◌∷◌, ◌++◌, length, refl, ap, sym, ◌∙◌, subst, append_assoc}
use Rattle.nd_base.specs.declared.octets.Order.{Order}
use Rattle.nd_types.specs.Number.{AreOctets}
use Rattle.nd_value.specs.Deferral.{Due, before_pipes}
use Rattle.nd_value.specs.Setting.{Setting, root_list}
use Rattle.nd_value.proofs.Apart.{all_append}
use Rattle.nd_grammar.specs.declared.reason.Reason.{Reason}
use Rattle.nd_grammar.specs.Entry.{EntryAt}
use Rattle.nd_grammar.specs.LegalSide.{IsLegalSide}
use Rattle.nd_grammar.specs.StreamReader.{Reading, read_next, read_start, read_due, read_stream}
use Rattle.nd_grammar.proofs.reader.ReaderStream as stream
use Rattle.ndr_decoder_laws.specs.reader.Around.{stopped}
use Rattle.ndr_decoder_laws.proofs.reader.Worklist.{due_over, due_stays, stream_stays}
use Rattle.ndr_decoder_laws.specs.worklist.Reached.{head, Comes, Reached, stream_after}

pub begins : (w : Setting) (order : Order) → Reached w order [] (read_start w order [])
begins w order = record { comes = λ later a. (length later + before_pipes (root_list w) + 1, refl) }

-- where something is due, a step is left
one_more : (w : Setting) → IsLegalSide w → (order : Order) (octets : List ℕ) → AreOctets octets → (s : Reading) (d : Due) (ds : List Due) → s.due ≡ d ∷ ds
    → Comes w order octets s → (k : ℕ) × (head w order octets ≡ read_due w order octets k (read_next w order octets s.due s))
one_more w side order octets all s d ds e (zero, h) =
    let f : s.due ≡ [] = ap (λ u. u.due) (sym h) ∙ (stream.head w side order octets all).due_none in
    cc
one_more w side order octets all s d ds e (suc k, h) = (k, h)

pub turns : (w : Setting) → IsLegalSide w → (order : Order) (fetched more : List ℕ) → AreOctets fetched → AreOctets more → (s t : Reading) (d : Due) (ds : List Due)
    → Reached w order fetched s → s.due ≡ d ∷ ds → ((later : List ℕ) → AreOctets later → read_next w order ((fetched ++ more) ++ later) s.due s ≡ t)
    → Reached w order (fetched ++ more) t
turns w side order fetched more all_fetched all_more s t d ds r e law = record { comes = comes }
  where
    comes : (later : List ℕ) → AreOctets later → Comes w order ((fetched ++ more) ++ later) t
    comes later a =
        let octets : List ℕ = (fetched ++ more) ++ later in
        let whole : AreOctets octets = all_append (λ b. b < 256) (fetched ++ more) later (all_append (λ b. b < 256) fetched more all_fetched all_more) a in
        let c : Comes w order octets s = subst (λ u. Comes w order u s) (sym (append_assoc fetched more later)) (r.comes (more ++ later) (all_append (λ b. b < 256) more later all_more a)) in
        let (k, h) = one_more w side order octets whole s d ds e c in
        (k, h ∙ ap (read_due w order octets k) (law later a))

pub over : (w : Setting) (order : Order) (fetched : List ℕ) (s : Reading) → Reached w order fetched s → s.due ≡ [] → (later : List ℕ) → AreOctets later
    → read_stream w order (fetched ++ later) ≡ stream_after w order (fetched ++ later) s
over w order fetched s r e later a =
    let (k, h) = r.comes later a in
    ap (stream_after w order (fetched ++ later)) (h ∙ due_over w order (fetched ++ later) k s e)

-- where the next of it is refused, so is the head
pub head_refused : (w : Setting) → IsLegalSide w → (order : Order) (fetched : List ℕ) → AreOctets fetched → (s : Reading) (d : Due) (ds : List Due)
    → Reached w order fetched s → s.due ≡ d ∷ ds → (later : List ℕ) → AreOctets later → (at : ℕ) (seen : List EntryAt) (why : ℕ × Reason)
    → (read_next w order (fetched ++ later) s.due s).progress ≡ stopped at seen why → (head w order (fetched ++ later)).progress ≡ stopped at seen why
head_refused w side order fetched all s d ds r e later a at seen why f =
    let octets : List ℕ = fetched ++ later in
    let whole : AreOctets octets = all_append (λ b. b < 256) fetched later all a in
    let (k, h) = one_more w side order octets whole s d ds e (r.comes later a) in
    ap (λ u. u.progress) h ∙ due_stays w order octets at seen why k (read_next w order octets s.due s) f

pub refused : (w : Setting) → IsLegalSide w → (order : Order) (fetched : List ℕ) → AreOctets fetched → (s : Reading) (d : Due) (ds : List Due)
    → Reached w order fetched s → s.due ≡ d ∷ ds → (later : List ℕ) → AreOctets later → (at : ℕ) (seen : List EntryAt) (why : ℕ × Reason)
    → (read_next w order (fetched ++ later) s.due s).progress ≡ stopped at seen why → (read_stream w order (fetched ++ later)).progress ≡ stopped at seen why
refused w side order fetched all s d ds r e later a at seen why f =
    stream_stays w order (fetched ++ later) at seen why (head_refused w side order fetched all s d ds r e later a at seen why f)
