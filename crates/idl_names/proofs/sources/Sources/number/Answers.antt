use Rattle.std.proofs.Common.{◌≡◌, ◌∙◌, sym, ap, string_bytes, position}
use Rattle.std.specs.Str.{bytes_eq}
use Rattle.idl_names.specs.declared.sources.File.{File}
use Rattle.idl_names.specs.Walk.{source, file_number}
use Rattle.idl_names.proofs.Spelled.{position_of}
use Rattle.idl_names.proofs.sources.Sources.number.Goals as goal

pub returns : goal.returns
returns c =
    c.number_in.ensures
    ∙ (ap (λ fs. position (λ (f : File). bytes_eq c.args.name.now (string_bytes f.name)) fs) c.as_slice.ensures.value
    ∙ (position_of (λ (f : File). source (string_bytes f.name) f.text) (λ s. bytes_eq c.args.name.now s.name) c.self.inside.files.items
    ∙ ap (λ s. file_number s c.args.name.now) c.self.view_is))
