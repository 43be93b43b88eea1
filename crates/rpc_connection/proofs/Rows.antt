-- The six worked cases.
use Rattle.std.proofs.Common.{◌≡◌, ℕ, List, [], ◌∷◌, ◌++◌, refl, Some, None}
use Rattle.nd_base.specs.declared.octets.Order.TheVariants.{Big, Little}
use Rattle.rpc_stream.specs.declared.stated.First.TheVariants.{Waiting, Whole}
use Rattle.rpc_stream.specs.Pdus.{first_of}
use Rattle.rpc_stream.specs.declared.call.Pdu.{Pdu}
use Rattle.rpc_stream.specs.declared.call.Ended.TheVariants.{Complete, Stopped}
use Rattle.rpc_stream.specs.Calls.{placed, nothing_open, run, ended_of}
use Rattle.rpc_pdu.specs.declared.pdu.Wanted.TheVariants.{Request, Response}
use Rattle.rpc_connection.specs.Verdict.{said, private, verdict}
use Rattle.rpc_connection.specs.Agreement.{Syntax, ndr, Agreed, agreed}
use Rattle.rpc_connection.specs.Pairs.{Exchange, exchange, exchanges}
use Rattle.rpc_connection.specs.Whole.{in_force, Known, reads, unread, no_operation, no_context, other_interface, sealed_at, reading}

-- ## Octets

-- the header that all PDUs have, in little-endian order: the type, the flags, the length, the authentication length and the call id
abbrev header : ℕ → ℕ → ℕ → ℕ → ℕ → List ℕ
header kind flags wide auth call = 5 ∷ 0 ∷ kind ∷ flags ∷ 16 ∷ 0 ∷ 0 ∷ 0 ∷ wide ∷ 0 ∷ auth ∷ 0 ∷ call ∷ 0 ∷ 0 ∷ 0 ∷ []

-- a long below 256
abbrev long : ℕ → List ℕ
long n = n ∷ 0 ∷ 0 ∷ 0 ∷ []

-- fragment sizes and the association group
abbrev sizes : ℕ → List ℕ
sizes group = 208 ∷ 22 ∷ 208 ∷ 22 ∷ long group

-- interfaces and transfer syntaxes: a UUID and a version
abbrev add_octets : List ℕ
add_octets = 17 ∷ 17 ∷ 17 ∷ 17 ∷ 34 ∷ 34 ∷ 51 ∷ 51 ∷ 68 ∷ 68 ∷ 85 ∷ 85 ∷ 85 ∷ 85 ∷ 85 ∷ 85 ∷ long 0

abbrev other_octets : List ℕ
other_octets = 153 ∷ 153 ∷ 153 ∷ 153 ∷ 153 ∷ 153 ∷ 153 ∷ 153 ∷ 153 ∷ 153 ∷ 153 ∷ 153 ∷ 153 ∷ 153 ∷ 153 ∷ 153 ∷ long 1

abbrev ndr_octets : List ℕ
ndr_octets = 4 ∷ 93 ∷ 136 ∷ 138 ∷ 235 ∷ 28 ∷ 201 ∷ 17 ∷ 159 ∷ 232 ∷ 8 ∷ 0 ∷ 43 ∷ 16 ∷ 72 ∷ 96 ∷ long 2

abbrev ndr64_octets : List ℕ
ndr64_octets = 51 ∷ 5 ∷ 113 ∷ 113 ∷ 186 ∷ 190 ∷ 55 ∷ 73 ∷ 131 ∷ 25 ∷ 181 ∷ 219 ∷ 239 ∷ 156 ∷ 204 ∷ 54 ∷ long 1

abbrev no_octets : List ℕ
no_octets = 0 ∷ 0 ∷ 0 ∷ 0 ∷ 0 ∷ 0 ∷ 0 ∷ 0 ∷ 0 ∷ 0 ∷ 0 ∷ 0 ∷ 0 ∷ 0 ∷ 0 ∷ 0 ∷ long 0

-- a context that is asked for with one transfer syntax
abbrev context : ℕ → List ℕ → List ℕ → List ℕ
context n interface transfer = n ∷ 0 ∷ 1 ∷ 0 ∷ (interface ++ transfer)

abbrev bind : List ℕ
bind = header 11 3 72 0 1 ++ (sizes 0 ++ (long 1 ++ context 0 add_octets ndr_octets))

abbrev ack : List ℕ
ack = header 12 3 60 0 1 ++ (sizes 1 ++ (4 ∷ 0 ∷ 49 ∷ 51 ∷ 53 ∷ 0 ∷ 0 ∷ 0 ∷ (long 1 ++ (long 0 ++ ndr_octets))))

-- what requests and responses have besides: the allocation hint, the context and the operation number
abbrev rest : ℕ → ℕ → ℕ → List ℕ
rest hint n operation = hint ∷ 0 ∷ 0 ∷ 0 ∷ n ∷ 0 ∷ operation ∷ 0 ∷ []

abbrev stub : List ℕ
stub = 1 ∷ 0 ∷ 0 ∷ 0 ∷ 2 ∷ 0 ∷ 0 ∷ 0 ∷ 3 ∷ 0 ∷ 0 ∷ 0 ∷ 0 ∷ 0 ∷ 0 ∷ 0 ∷ []

abbrev part_a : List ℕ
part_a = header 0 1 29 0 7 ++ (rest 16 0 0 ++ (1 ∷ 0 ∷ 0 ∷ 0 ∷ 2 ∷ []))

abbrev part_b : List ℕ
part_b = header 0 1 32 0 8 ++ (rest 16 0 0 ++ (long 1 ++ long 2))

abbrev part_c : List ℕ
part_c = header 0 2 35 0 7 ++ (rest 16 0 0 ++ (0 ∷ 0 ∷ 0 ∷ (long 3 ++ long 0)))

abbrev part_d : List ℕ
part_d = header 0 2 32 0 8 ++ (rest 16 0 0 ++ (long 3 ++ long 0))

abbrev nine : List ℕ
nine = header 0 3 24 0 2 ++ rest 16 0 9

-- a fault: its status, and four octets without meaning
abbrev fault_two : List ℕ
fault_two = header 3 3 32 0 2 ++ (rest 0 0 0 ++ (2 ∷ 0 ∷ 1 ∷ 28 ∷ long 0))

abbrev bind_other : List ℕ
bind_other = header 11 3 72 0 1 ++ (sizes 0 ++ (long 1 ++ context 0 other_octets ndr_octets))

abbrev alter : List ℕ
alter = header 14 3 116 0 2 ++ (sizes 0 ++ (long 2 ++ (context 1 add_octets ndr_octets ++ context 2 add_octets ndr64_octets)))

abbrev on_one : List ℕ
on_one = header 0 3 24 0 3 ++ rest 16 1 1

abbrev altered : List ℕ
altered = header 15 3 80 0 2 ++ (sizes 1 ++ (long 0 ++ (long 2 ++ (long 0 ++ (ndr_octets ++ (2 ∷ 0 ∷ 2 ∷ 0 ∷ no_octets))))))

-- authentication data
abbrev sixteen : ℕ → List ℕ
sixteen k = k ∷ k ∷ k ∷ k ∷ k ∷ k ∷ k ∷ k ∷ k ∷ k ∷ k ∷ k ∷ k ∷ k ∷ k ∷ k ∷ []

-- the octets before them: NTLM, the level and the padding
abbrev trailer : ℕ → ℕ → List ℕ
trailer level padding = 10 ∷ level ∷ padding ∷ 0 ∷ long 0

abbrev signed_one : List ℕ
signed_one = header 0 1 56 16 2 ++ (rest 16 0 0 ++ (1 ∷ 0 ∷ 0 ∷ 0 ∷ 2 ∷ 0 ∷ 0 ∷ 0 ∷ (trailer 5 3 ++ sixteen 1)))

abbrev signed_two : List ℕ
signed_two = header 0 2 60 16 2 ++ (rest 16 0 0 ++ (0 ∷ 0 ∷ 0 ∷ 3 ∷ (long 0 ++ (long 0 ++ (trailer 5 1 ++ sixteen 2)))))

abbrev sealed_call : List ℕ
sealed_call = header 0 3 64 16 3 ++ (rest 16 0 0 ++ (sixteen 92 ++ (trailer 6 0 ++ sixteen 3)))

abbrev again_one : List ℕ
again_one = header 0 3 40 0 1 ++ (rest 16 0 0 ++ stub)

abbrev again_two : List ℕ
again_two = header 0 3 24 0 1 ++ rest 16 0 1

abbrev response_one : List ℕ
response_one = header 2 3 24 0 1 ++ rest 0 0 0

abbrev fault_one : List ℕ
fault_one = header 3 3 32 0 1 ++ (rest 0 0 0 ++ (3 ∷ 0 ∷ 1 ∷ 28 ∷ long 0))

abbrev header_part : List ℕ
header_part = 5 ∷ 0 ∷ 0 ∷ 3 ∷ 16 ∷ 0 ∷ 0 ∷ 0 ∷ 24 ∷ 0 ∷ []

-- ## The interface

abbrev interface : Syntax
interface = record { uuid = 17 ∷ 17 ∷ 17 ∷ 17 ∷ 34 ∷ 34 ∷ 51 ∷ 51 ∷ 68 ∷ 68 ∷ 85 ∷ 85 ∷ 85 ∷ 85 ∷ 85 ∷ 85 ∷ []; version = 0 }

abbrev known : List Known
known = record { syntax = interface; operations = 2 } ∷ []

-- ## The cases

abbrev pdu : ℕ → List ℕ → Pdu
pdu at octets = record { at = at; octets = octets }

-- two interleaved requests
seven : ended_of 7 (run nothing_open (placed 0 (bind ∷ part_a ∷ part_b ∷ part_c ∷ part_d ∷ []))) ≡ Complete (pdu 72 part_a ∷ pdu 133 part_c ∷ []) ∷ []
seven = refl

eight : ended_of 8 (run nothing_open (placed 0 (bind ∷ part_a ∷ part_b ∷ part_c ∷ part_d ∷ []))) ≡ Complete (pdu 101 part_b ∷ pdu 168 part_d ∷ []) ∷ []
eight = refl

joined_seven : verdict Request (part_a ∷ part_c ∷ []) ≡ said (record { opening = Some (record { order = Little; call = 7; opnum = Some 0 }); at = 64; stub = stub })
joined_seven = refl

-- fault
faulted : exchanges 2 (placed 0 (bind ∷ nine ∷ [])) (placed 0 (ack ∷ fault_two ∷ []))
    ≡ exchange (Some (Complete (pdu 72 nine ∷ []))) (Some (Stopped [] (pdu 60 fault_two)))
    ∷ []
faulted = refl

no_ninth : reading (verdict Request (nine ∷ [])) 0 9 (in_force [] (placed 0 (bind ∷ [])) (placed 0 (ack ∷ fault_two ∷ [])) []) known ≡ unread (no_operation 9)
no_ninth = refl

-- alter_context
both_agree : agreed alter altered ≡ record { context = 1; interface = interface; transfer = ndr } ∷ []
both_agree = refl

-- what is in force after both
abbrev altered_force : List Agreed
altered_force = in_force [] (placed 0 (bind_other ∷ alter ∷ [])) (placed 0 (ack ∷ altered ∷ [])) []

first_context : reading (verdict Request (on_one ∷ [])) 1 1 altered_force known
    ≡ reads 0 1 (record { opening = Some (record { order = Little; call = 3; opnum = Some 1 }); at = 24; stub = [] })
first_context = refl

other_context : reading (verdict Request (on_one ∷ [])) 2 1 altered_force known ≡ unread (no_context 2)
other_context = refl

zero_context : reading (verdict Request (on_one ∷ [])) 0 1 altered_force known ≡ unread other_interface
zero_context = refl

-- auth trailer with padding
signed : verdict Request (signed_one ∷ signed_two ∷ []) ≡ said (record { opening = Some (record { order = Little; call = 2; opnum = Some 0 }); at = 64; stub = stub })
signed = refl

sealed_first : verdict Request (sealed_call ∷ []) ≡ private 0
sealed_first = refl

-- call id reused
reused : exchanges 1 (placed 0 (bind ∷ again_one ∷ again_two ∷ [])) (placed 0 (ack ∷ response_one ∷ fault_one ∷ []))
    ≡ exchange (Some (Complete (pdu 0 bind ∷ []))) (Some (Complete (pdu 0 ack ∷ [])))
    ∷ exchange (Some (Complete (pdu 72 again_one ∷ []))) (Some (Complete (pdu 60 response_one ∷ [])))
    ∷ exchange (Some (Complete (pdu 112 again_two ∷ []))) (Some (Stopped [] (pdu 84 fault_one)))
    ∷ []
reused = refl

-- stream cut inside a header
part_waits : first_of header_part ≡ Waiting
part_waits = refl

whole_first : first_of (bind ++ header_part) ≡ Whole 72
whole_first = refl
