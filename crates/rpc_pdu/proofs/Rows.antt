-- The two worked rows.
use Rattle.std.proofs.Common.{◌≡◌, ℕ, List, [], ◌∷◌, ◌++◌, refl, Some, None}
use Rattle.nd_base.specs.declared.octets.Order.TheVariants.{Big, Little}
use Rattle.rpc_pdu.specs.declared.pdu.Wanted.TheVariants.{Request, Response}
use Rattle.rpc_pdu.specs.declared.pdu.Head.TheVariants as head
use Rattle.rpc_pdu.specs.declared.pdu.PduReason.TheVariants as why
use Rattle.rpc_pdu.specs.Reader.{read, found, refused_at}
use Rattle.rpc_pdu.specs.Fragments.{Pieces}

abbrev stub : List ℕ
stub = 1 ∷ 0 ∷ 0 ∷ 0 ∷ 2 ∷ 0 ∷ 0 ∷ 0 ∷ 3 ∷ 0 ∷ 0 ∷ 0 ∷ 0 ∷ 0 ∷ 0 ∷ 0 ∷ []

abbrev whole : List ℕ
whole = 5 ∷ 0 ∷ 0 ∷ 3 ∷ 16 ∷ 0 ∷ 0 ∷ 0 ∷ 40 ∷ 0 ∷ 0 ∷ 0 ∷ 7 ∷ 0 ∷ 0 ∷ 0 ∷ 16 ∷ 0 ∷ 0 ∷ 0 ∷ 0 ∷ 0 ∷ 0 ∷ 0 ∷ stub

abbrev first : List ℕ
first = 5 ∷ 0 ∷ 0 ∷ 1 ∷ 16 ∷ 0 ∷ 0 ∷ 0 ∷ 29 ∷ 0 ∷ 0 ∷ 0 ∷ 7 ∷ 0 ∷ 0 ∷ 0 ∷ 16 ∷ 0 ∷ 0 ∷ 0 ∷ 0 ∷ 0 ∷ 0 ∷ 0 ∷ 1 ∷ 0 ∷ 0 ∷ 0 ∷ 2 ∷ []

abbrev second : ℕ → List ℕ
second call = 5 ∷ 0 ∷ 0 ∷ 2 ∷ 16 ∷ 0 ∷ 0 ∷ 0 ∷ 35 ∷ 0 ∷ 0 ∷ 0 ∷ call ∷ 0 ∷ 0 ∷ 0 ∷ 16 ∷ 0 ∷ 0 ∷ 0 ∷ 0 ∷ 0 ∷ 0 ∷ 0 ∷ 0 ∷ 0 ∷ 0 ∷ 3 ∷ 0 ∷ 0 ∷ 0 ∷ 0 ∷ 0 ∷ 0 ∷ 0 ∷ []

pieces : Pieces Little (head.Request 0) 7 1024 stub ≡ whole
pieces = refl

joined : read Request whole ≡ found (record { opening = Some (record { order = Little; call = 7; opnum = Some 0 }); at = 40; stub = stub })
joined = refl

cut : read Request (first ++ second 7) ≡ found (record { opening = Some (record { order = Little; call = 7; opnum = Some 0 }); at = 64; stub = stub })
cut = refl

other : read Request (first ++ second 8) ≡ refused_at 41 why.OtherCall
other = refl
