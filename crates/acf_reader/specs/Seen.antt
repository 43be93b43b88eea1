-- The tree of the program as the grammar's tree: the same parts, without where they lie in memory.
use Rattle.std.specs.Prelude.{map, option_map}
use Rattle.acf_reader.specs.declared.tree.Attributes as attributes
use Rattle.acf_reader.specs.declared.tree.Parameter as parameter
use Rattle.acf_reader.specs.declared.tree.BodyElement as elements
use Rattle.acf_reader.specs.declared.tree.BodyElement.TheVariants as element
use Rattle.acf_reader.specs.declared.tree.Acf as acf
use Rattle.acf_reader.specs.Grammar as tree

abbrev pub seen_attributes : attributes.Attributes → tree.Attributes
seen_attributes a = record { at = a.at; list = a.list.items }

abbrev pub seen_parameter : parameter.Parameter → tree.Parameter
seen_parameter p = record { at = p.at; attributes = option_map seen_attributes p.attributes; name = p.name }

abbrev pub seen_element : elements.BodyElement → tree.BodyElement
seen_element (element.Include at files) = tree.Include at files.items
seen_element (element.Types at a names) = tree.Types at (seen_attributes a) names.items
seen_element (element.Operation at a name ps) = tree.Operation at (option_map seen_attributes a) name (map seen_parameter ps.items)

abbrev pub seen_acf : acf.Acf → tree.Acf
seen_acf f = record { at = f.at; attributes = option_map seen_attributes f.attributes; name = f.name; body = map seen_element f.body.items }
