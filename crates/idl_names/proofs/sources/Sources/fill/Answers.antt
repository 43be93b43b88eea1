use Rattle.std.proofs.Common.{◌≡◌, ◌∙◌, refl, sym, ap, subst, get_or, string_bytes, map}
use Rattle.idl_names.specs.declared.sources.File.{File}
use Rattle.idl_names.specs.Walk.{source, and_source}
use Rattle.idl_names.proofs.Loads.{last_filled}
use Rattle.idl_names.proofs.sources.Sources.fill.Goals as goal

pub returns : goal.returns
returns c before name at is =
    last_filled (λ (f : File). source (string_bytes f.name) f.text) c.self.inside.files.items c.from.result c.index_mut.result.now
    (record { name = c.index_mut.result.now.name; text = c.args.text }) before name c.args.text (c.from.ensures ∙ at) (c.self.view_is ∙ is) c.index_mut.ensures.value refl refl
