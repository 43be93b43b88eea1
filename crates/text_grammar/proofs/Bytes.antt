-- Elements that are written as octets are bytes.
use Rattle.std.proofs.Common.{◌≡◌, true, Option, Some, refl}
use Rattle.nd_types.specs.declared.types.Primitive.TheVariants.{Byte}
use Rattle.nd_types.specs.declared.types.TypeDef.{TypeDef}
use Rattle.nd_types.specs.declared.types.TypeDef.TheVariants as def
use Rattle.text_grammar.specs.declared.version.Version.{Version}
use Rattle.text_grammar.specs.declared.version.Version.TheVariants as version
use Rattle.text_grammar.specs.Written.{writes_octets}

pub bytes_alone : (u : Version) (d : Option TypeDef) → writes_octets u d ≡ true → d ≡ Some (def.Prim Byte)
bytes_alone version.Two (Some (def.Prim Byte)) e = refl
bytes_alone u d e = cc
