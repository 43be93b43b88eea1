-- The words of the reasons, as lines of commands have them, without what follows them there. A refusal whose kind says all has none.
use Rattle.std.specs.Prelude.{ℕ, List, [], codes}
use Rattle.command_refusals.specs.declared.refusal.CompatFault.{CompatFault}
use Rattle.command_refusals.specs.declared.refusal.CompatFault.TheVariants as compat
use Rattle.command_refusals.specs.declared.refusal.FragmentsFault.{FragmentsFault}
use Rattle.command_refusals.specs.declared.refusal.FragmentsFault.TheVariants as fragments
use Rattle.command_refusals.specs.declared.refusal.IdlReason.{IdlReason}
use Rattle.command_refusals.specs.declared.refusal.IdlReason.TheVariants as idl_reason
use Rattle.command_refusals.specs.declared.refusal.OctetsFault.{OctetsFault}
use Rattle.command_refusals.specs.declared.refusal.OctetsFault.TheVariants as octets
use Rattle.command_refusals.specs.declared.refusal.Refusal.{Refusal}
use Rattle.command_refusals.specs.declared.refusal.Refusal.TheVariants.{BadIdl, BadOctets, BadText, BadValue}
use Rattle.command_refusals.specs.declared.refusal.Refusal.TheVariants.{BadPdu, BadLabel, ShortLabel, NotCompatible}
use Rattle.command_refusals.specs.Lines.{lex_kind_name, const_fault_name, reason_name, text_reason_name, misfit_name, pdu_reason_name}
use Rattle.command_refusals.specs.Lines.{label_fault_name}

abbrev pub idl_word : IdlReason → List ℕ
idl_word (idl_reason.Lexical kind) = lex_kind_name kind
idl_word idl_reason.Syntax = codes "Syntax"
idl_word idl_reason.Deep = codes "Deep"
idl_word (idl_reason.Banned word) = codes "Banned"
idl_word (idl_reason.Unknown name) = codes "Unknown"
idl_word (idl_reason.Twice name) = codes "Twice"
idl_word idl_reason.ImportCycle = codes "ImportCycle"
idl_word idl_reason.TooMany = codes "TooMany"
idl_word (idl_reason.NoValue fault) = const_fault_name fault
idl_word (idl_reason.Rule rule) = codes "Rule"

abbrev pub octets_word : OctetsFault → List ℕ
octets_word (octets.Refused reason) = reason_name reason
octets_word octets.Trailing = codes "Trailing"

abbrev pub fragments_word : FragmentsFault → List ℕ
fragments_word (fragments.Refused reason) = pdu_reason_name reason
fragments_word fragments.Trailing = codes "Trailing"
fragments_word (fragments.NoOperation opnum) = codes "NoOperation"

abbrev pub compat_word : CompatFault → List ℕ
compat_word compat.OtherUuid = codes "OtherUuid"
compat_word (compat.OtherMajor old new) = codes "OtherMajor"
compat_word (compat.OlderMinor old new) = codes "OlderMinor"
compat_word (compat.Fewer old new) = codes "Fewer"
compat_word (compat.Differs name) = codes "Differs"

abbrev pub word_of : Refusal → List ℕ
word_of (BadIdl file line column why) = idl_word why
word_of (BadOctets place why) = octets_word why
word_of (BadText line column why) = text_reason_name why
word_of (BadValue path why) = misfit_name why
word_of (BadPdu place why) = fragments_word why
word_of (BadLabel why) = label_fault_name why
word_of ShortLabel = codes "Truncated"
word_of (NotCompatible why) = compat_word why
word_of _ = []
