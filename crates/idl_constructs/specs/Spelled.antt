-- For the code: the words of attributes.
use Rattle.std.specs.Prelude.{ℕ, List, codes}
use Rattle.idl_constructs.specs.declared.words.Word.{Word}
use Rattle.idl_constructs.specs.declared.words.Word.TheVariants as word

abbrev pub spelled : Word → List ℕ
spelled word.Uuid = codes "uuid"
spelled word.Version = codes "version"
spelled word.Endpoint = codes "endpoint"
spelled word.Local = codes "local"
spelled word.PointerDefault = codes "pointer_default"
spelled word.Reference = codes "ref"
spelled word.Unique = codes "unique"
spelled word.Full = codes "ptr"
spelled word.In = codes "in"
spelled word.Out = codes "out"
spelled word.String = codes "string"
spelled word.ContextHandle = codes "context_handle"
spelled word.SizeIs = codes "size_is"
spelled word.MaxIs = codes "max_is"
spelled word.LengthIs = codes "length_is"
spelled word.FirstIs = codes "first_is"
spelled word.LastIs = codes "last_is"
spelled word.SwitchIs = codes "switch_is"
spelled word.SwitchType = codes "switch_type"
spelled word.Case = codes "case"
spelled word.Default = codes "default"
spelled word.Idempotent = codes "idempotent"
spelled word.Broadcast = codes "broadcast"
spelled word.Maybe = codes "maybe"
spelled word.AnySize = codes "any_size"
spelled word.AnyLength = codes "any_length"
