-- Which answer belongs to which question depends, under each call id, on the PDUs of that id alone.
use Rattle.std.proofs.Common.{◌≡◌, ◌∙◌, ℕ, List, ap}
use Rattle.rpc_stream.specs.declared.call.Peer.TheVariants.{Client, Server}
use Rattle.rpc_stream.specs.declared.call.Pdu.{Pdu}
use Rattle.rpc_connection.specs.Pairs.{all_of, replies, own_of, paired, exchanges}

pub of_sides : (c : ℕ) (client client' server server' : List Pdu) → own_of Client c client ≡ own_of Client c client'
    → own_of Server c server ≡ own_of Server c server' → exchanges c client server ≡ exchanges c client' server'
of_sides c client client' server server' e f =
    ap (λ l. paired (all_of l) (replies (own_of Server c server))) e ∙ ap (λ l. paired (all_of (own_of Client c client')) (replies l)) f
