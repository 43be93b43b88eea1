-- The numbers of the reasons: their hundreds are the kind. A refusal whose kind says all has 0.
use Rattle.std.specs.Prelude.{ℕ}
use Rattle.idl_lexer.specs.declared.tokens.LexKind.{LexKind}
use Rattle.idl_lexer.specs.declared.tokens.LexKind.TheVariants as kind
use Rattle.idl_scope.specs.declared.fault.ConstFault.{ConstFault}
use Rattle.idl_scope.specs.declared.fault.ConstFault.TheVariants as const_fault
use Rattle.nd_value.specs.declared.misfit.MisfitReason.{MisfitReason}
use Rattle.nd_value.specs.declared.misfit.MisfitReason.TheVariants as misfit
use Rattle.nd_grammar.specs.declared.reason.Reason.TheVariants as reason
use Rattle.ndr_prim.specs.declared.label.LabelFault.{LabelFault}
use Rattle.ndr_prim.specs.declared.label.LabelFault.TheVariants as label_fault
use Rattle.text_grammar.specs.declared.fault.TextReason.{TextReason}
use Rattle.text_grammar.specs.declared.fault.TextReason.TheVariants as text
use Rattle.rpc_pdu.specs.declared.pdu.PduReason.TheVariants as pdu_reason
use Rattle.command_refusals.specs.declared.refusal.Refusal.{Refusal}
use Rattle.command_refusals.specs.declared.refusal.Refusal.TheVariants.{BadIdl, BadOctets, BadText, BadValue}
use Rattle.command_refusals.specs.declared.refusal.Refusal.TheVariants.{BadPdu, BadLabel, ShortLabel, NotCompatible}
use Rattle.command_refusals.specs.declared.refusal.FragmentsFault.{FragmentsFault}
use Rattle.command_refusals.specs.declared.refusal.FragmentsFault.TheVariants as fragments
use Rattle.command_refusals.specs.declared.refusal.CompatFault.{CompatFault}
use Rattle.command_refusals.specs.declared.refusal.CompatFault.TheVariants as compat
use Rattle.command_refusals.specs.declared.refusal.IdlReason.{IdlReason}
use Rattle.command_refusals.specs.declared.refusal.IdlReason.TheVariants as idl_reason
use Rattle.command_refusals.specs.declared.refusal.OctetsFault.{OctetsFault}
use Rattle.command_refusals.specs.declared.refusal.OctetsFault.TheVariants.{Refused, Trailing}

-- a text of IDL cannot be cut into tokens
abbrev pub lex_reason_of : LexKind → ℕ
lex_reason_of kind.BadOctet = 201
lex_reason_of kind.OpenComment = 202
lex_reason_of kind.OpenText = 203
lex_reason_of kind.LongName = 204
lex_reason_of kind.BadNumber = 205
lex_reason_of kind.TooLong = 206

-- an expression has no value
abbrev pub const_reason_of : ConstFault → ℕ
const_reason_of const_fault.OutOfRange = 214
const_reason_of const_fault.ZeroDivisor = 215
const_reason_of const_fault.NotConst = 216

-- a file is refused
abbrev pub idl_reason_of : IdlReason → ℕ
idl_reason_of (idl_reason.Lexical kind) = lex_reason_of kind
idl_reason_of idl_reason.Syntax = 207
idl_reason_of idl_reason.Deep = 208
idl_reason_of (idl_reason.Banned word) = 209
idl_reason_of (idl_reason.Unknown name) = 210
idl_reason_of (idl_reason.Twice name) = 211
idl_reason_of idl_reason.ImportCycle = 212
idl_reason_of idl_reason.TooMany = 213
idl_reason_of (idl_reason.NoValue fault) = const_reason_of fault
idl_reason_of (idl_reason.Rule rule) = 217

-- octets are refused
abbrev pub octets_reason_of : OctetsFault → ℕ
octets_reason_of (Refused reason.Truncated) = 301
octets_reason_of (Refused reason.TooLong) = 302
octets_reason_of (Refused reason.EnumValue) = 303
octets_reason_of (Refused reason.PastBound) = 304
octets_reason_of (Refused reason.TextOffset) = 305
octets_reason_of (Refused reason.TextEmpty) = 306
octets_reason_of (Refused reason.TextUnended) = 307
octets_reason_of (Refused reason.TextZero) = 308
octets_reason_of (Refused reason.NoArm) = 309
octets_reason_of (Refused reason.OtherType) = 310
octets_reason_of (Refused (reason.Disagrees wanted found)) = 311
octets_reason_of Trailing = 312

-- a text is refused
abbrev pub text_reason_of : TextReason → ℕ
text_reason_of text.TooLong = 401
text_reason_of text.BadToken = 402
text_reason_of text.Expected = 403
text_reason_of text.OtherName = 404
text_reason_of text.OutOfOrder = 405
text_reason_of text.Unnamed = 406

-- a value is refused
abbrev pub value_reason_of : MisfitReason → ℕ
value_reason_of misfit.Shape = 501
value_reason_of misfit.Range = 502
value_reason_of misfit.NullRef = 503
value_reason_of misfit.NoCell = 504
value_reason_of misfit.CellType = 505
value_reason_of misfit.Bound = 506
value_reason_of misfit.Zero = 507
value_reason_of misfit.NoArm = 508
value_reason_of misfit.Shared = 509
value_reason_of misfit.Unreached = 510
value_reason_of (misfit.Disagrees wanted found) = 511

-- fragments are refused
abbrev pub fragments_reason_of : FragmentsFault → ℕ
fragments_reason_of (fragments.Refused pdu_reason.Short) = 701
fragments_reason_of (fragments.Refused pdu_reason.Version) = 702
fragments_reason_of (fragments.Refused pdu_reason.Kind) = 703
fragments_reason_of (fragments.Refused pdu_reason.Flags) = 704
fragments_reason_of (fragments.Refused pdu_reason.Label) = 705
fragments_reason_of (fragments.Refused pdu_reason.OtherOrder) = 706
fragments_reason_of (fragments.Refused pdu_reason.Length) = 707
fragments_reason_of (fragments.Refused pdu_reason.Auth) = 708
fragments_reason_of (fragments.Refused pdu_reason.OtherCall) = 709
fragments_reason_of (fragments.Refused pdu_reason.OtherOperation) = 710
fragments_reason_of (fragments.Refused pdu_reason.EmptyPiece) = 711
fragments_reason_of (fragments.Refused pdu_reason.StubLong) = 712
fragments_reason_of fragments.Trailing = 713
fragments_reason_of (fragments.NoOperation opnum) = 714

-- a format label is refused
abbrev pub label_reason_of : LabelFault → ℕ
label_reason_of label_fault.BadOrder = 801
label_reason_of label_fault.Ebcdic = 802
label_reason_of label_fault.BadCharset = 803

-- an interface is not compatible with an older one
abbrev pub compat_reason_of : CompatFault → ℕ
compat_reason_of compat.OtherUuid = 901
compat_reason_of (compat.OtherMajor old new) = 902
compat_reason_of (compat.OlderMinor old new) = 903
compat_reason_of (compat.Fewer old new) = 904
compat_reason_of (compat.Differs name) = 905

abbrev pub reason_of : Refusal → ℕ
reason_of (BadIdl file line column why) = idl_reason_of why
reason_of (BadOctets place why) = octets_reason_of why
reason_of (BadText line column why) = text_reason_of why
reason_of (BadValue path why) = value_reason_of why
reason_of (BadPdu place why) = fragments_reason_of why
reason_of (BadLabel why) = label_reason_of why
reason_of ShortLabel = 804
reason_of (NotCompatible why) = compat_reason_of why
reason_of _ = 0

-- the rule that a file breaks
abbrev pub rule_of : Refusal → ℕ
rule_of (BadIdl file line column (idl_reason.Rule rule)) = rule
rule_of _ = 0
