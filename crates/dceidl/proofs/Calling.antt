-- What `call` and `wrap` answer, step by step.
use Rattle.std.proofs.Common.{◌≡◌, ◌∙◌, ℕ, ◌<◌, ◌≤◌, ◌^◌, List, length, Option, Some, Result, Ok, Err, IfOk, IfErr, refl, ap, sym, subst, inr, arith}
use Rattle.idl_grammar.specs.Files.{Idl}
use Rattle.nd_base.specs.declared.TheConstants.{STREAM_LIMIT}
use Rattle.nd_base.specs.declared.octets.Order.{Order}
use Rattle.nd_base.specs.Over.{FilesOver, SourceOver}
use Rattle.nd_types.specs.declared.interface.Interface.{Interface}
use Rattle.nd_types.specs.declared.types.Operation.{Operation}
use Rattle.nd_types.specs.declared.types.Side.{Side}
use Rattle.nd_types.specs.declared.types.Side.TheVariants.{Out}
use Rattle.nd_types.specs.declared.TheConstants.{OPERATION_LIMIT}
use Rattle.nd_value.specs.Setting.{Setting}
use Rattle.nd_value.specs.Fitting.{setting_of}
use Rattle.rpc_pdu.specs.Fragments.{Pieces}
use Rattle.command_call.specs.Called.{IsCalled, IsCallCause}
use Rattle.command_line.specs.Words.{Subject}
use Rattle.command_line.specs.declared.command.OrderWord.TheVariants.{Fixed}
use Rattle.command_refusals.specs.declared.refusal.Refusal.{Refusal}
use Rattle.dceidl.specs.Input.{IsLabelledEncoding, OfText, HasCalled, IsNoCall, IsWrapped, head_for}
use Rattle.dceidl.specs.Ready.{IsFound, IsCallReady}
use Rattle.dceidl.specs.Input.{wrap_chunk}

-- ## `call`

-- an operation that was found is that of the response
pub response_ready : (f : FilesOver) (idl : Idl) (acf : Option (List ℕ)) (op : List ℕ) (i : Interface) (n : ℕ) (o : Operation)
    → IsFound f (record { idl = idl; acf = acf; op = op; side = Out }) i n o → IsCallReady f idl acf (Some op) i (Some n)
response_ready f idl acf op i n o found = record { compiled = found.compiled; numbered = (n, o, found.named, refl) }

module _ (f : FilesOver) (s : SourceOver) (idl : Idl) (acf op : Option (List ℕ)) (i : Interface) (number : Option ℕ) (ready : IsCallReady f idl acf op i number) where
  pub called_done : (result : Result (List ℕ) Refusal) → IfOk result (IsCalled s i number) → IfOk result (HasCalled f s idl acf op)
  called_done (Ok made) h = (i, number, ready, h)
  called_done (Err e) h = tt

  pub called_refused : (result : Result (List ℕ) Refusal) → IfErr result (IsCallCause s i number) → IfErr result (IsNoCall f s idl acf op)
  called_refused (Ok made) h = tt
  called_refused (Err e) h = inr (i, number, ready, h)

-- ## `wrap`

-- the number of an operation has sixteen bits
pub few_numbers : (n count : ℕ) → n < count → count ≤ OPERATION_LIMIT → n < 2 ^ 16
few_numbers n count below few = omega (arith, below, few)

-- what is encoded is no longer than a stream may be
pub short_stub : (s : SourceOver) (w : Setting) (order : Order) (chunk : ℕ) (stub : List ℕ) → OfText s (λ text. IsLabelledEncoding w (Fixed order) chunk text stub)
    → length stub ≤ STREAM_LIMIT
short_stub s w order chunk stub (text, read, e) = subst (λ (l : List ℕ). length l ≤ STREAM_LIMIT) (sym e.made_is) e.encoding.written.within

-- the fragments of what was encoded on this side
pub wrapped_is : (f : FilesOver) (s : SourceOver) (of : Subject) (order : Order) (call max : ℕ) (i : Interface) (n : ℕ) (o : Operation) (side : Side)
    (stub made : List ℕ) → side ≡ of.side → IsFound f of i n o → OfText s (λ text. IsLabelledEncoding (setting_of i o side) (Fixed order) wrap_chunk text stub)
    → made ≡ Pieces order (head_for side n) call max stub → IsWrapped f s of order call max made
wrapped_is f s of order call max i n o side stub made same found encoded is = record {
  interface = i;
  number = n;
  operation = o;
  found = found;
  stub = stub;
  encoded = subst (λ (k : Side). OfText s (λ text. IsLabelledEncoding (setting_of i o k) (Fixed order) wrap_chunk text stub)) same encoded;
  made_is = is ∙ ap (λ (k : Side). Pieces order (head_for k n) call max stub) same;
}
