-- What is known of each call of a connection. It depends on the PDUs of both streams alone: not on when octets came, nor in what pieces.
use Rattle.std.specs.Prelude.{◌≡◌, ℕ, ◌+◌, zero, suc, Bool, true, false, ◌&&◌, ◌||◌, ◌==◌, nat_lt, List, [], ◌∷◌, ◌++◌, length, Option}
use Rattle.std.specs.Prelude.{Some, None, slice_index}
use Rattle.rpc_stream.specs.declared.call.Peer.TheVariants.{Client, Server}
use Rattle.rpc_stream.specs.declared.call.Pdu.{Pdu}
use Rattle.rpc_stream.specs.declared.call.Ended.{Ended}
use Rattle.rpc_stream.specs.declared.call.Ended.TheVariants.{Complete, CutOff, Stopped, Stray}
use Rattle.rpc_stream.specs.Calls.{id_of}
use Rattle.rpc_pdu.specs.declared.pdu.Wanted.{Wanted}
use Rattle.rpc_pdu.specs.declared.pdu.Wanted.TheVariants.{Request, Response}
use Rattle.rpc_pdu.specs.Checks.{Before, order_of, short_at}
use Rattle.rpc_connection.specs.Verdict.{Verdict, said, part, private, bad, Why, verdict}
use Rattle.rpc_connection.specs.Agreement.{Syntax, ndr, Agreed, agreed, found, same_syntax}
use Rattle.rpc_connection.specs.Pairs.{all_of, replies, own_of, next_number}

-- ## Contexts in force

abbrev pub nth : ℕ → List Ended → Option Ended
nth k [] = None
nth zero (e ∷ es) = Some e
nth (suc k) (e ∷ es) = nth k es

abbrev pub reply_by : Option ℕ → List Ended → Option Ended
reply_by None rs = None
reply_by (Some k) rs = nth k rs

-- the answer to a question that follows these PDUs of the client
abbrev pub reply_after : List Pdu → Pdu → List Pdu → Option Ended
reply_after before p server =
    reply_by (next_number (all_of (own_of Client (id_of p) before)) 0) (replies (own_of Server (id_of p) server))

abbrev pub agreed_with : Pdu → Option Ended → List Agreed
agreed_with p None = []
agreed_with p (Some (Complete [])) = []
agreed_with p (Some (Complete (a ∷ rest))) = agreed p.octets a.octets
agreed_with p (Some (CutOff g)) = []
agreed_with p (Some (Stopped g q)) = []
agreed_with p (Some (Stray q)) = []

-- all that is agreed on in questions among the client's PDUs, the latest first
abbrev pub in_force : List Pdu → List Pdu → List Pdu → List Agreed → List Agreed
in_force before [] server force = force
in_force before (p ∷ ps) server force = in_force (before ++ (p ∷ [])) ps server (agreed_with p (reply_after before p server) ++ force)

-- ## What a call can be read as

-- why it cannot be read
pub data Unread : Type 0 where
  sealed_at : ℕ → Unread
  refused_at : ℕ → ℕ → Why → Unread
  not_whole : Unread
  no_context : ℕ → Unread
  other_interface : Unread
  other_syntax : Unread
  no_operation : ℕ → Unread
  not_asked : Unread
  request_unread : Unread

-- an interface that is given, and how many operations it has
pub record Known : Type 0 where
  pub syntax : Syntax
  pub operations : ℕ

pub data Reading : Type 0 where
  -- the stub data are of an operation of an interface, both by their numbers
  reads : ℕ → ℕ → Before → Reading
  unread : Unread → Reading

abbrev pub operation_by : Bool → ℕ → ℕ → Before → Reading
operation_by true i n b = reads i n b
operation_by false i n b = unread (no_operation n)

abbrev pub syntax_by : Bool → ℕ → ℕ → ℕ → Before → Reading
syntax_by true i n operations b = operation_by (nat_lt n operations) i n b
syntax_by false i n operations b = unread other_syntax

abbrev pub among : ℕ → List Known → Agreed → ℕ → Before → Reading
among i [] a n b = unread other_interface
among i (k ∷ ks) a n b =
    elim (same_syntax k.syntax a.interface) [ true ↦ syntax_by (same_syntax a.transfer ndr) i n k.operations b | false ↦ among (suc i) ks a n b ]

abbrev pub context_by : Option Agreed → ℕ → List Known → ℕ → Before → Reading
context_by None c known n b = unread (no_context c)
context_by (Some a) c known n b = among 0 known a n b

-- of fragments with this verdict, of the operation `n` on the context `c`
abbrev pub reading : Verdict → ℕ → ℕ → List Agreed → List Known → Reading
reading (said b) c n force known = context_by (found c force) c known n b
reading (part b) c n force known = unread not_whole
reading (private k) c n force known = unread (sealed_at k)
reading (bad k place why) c n force known = unread (refused_at k place why)
