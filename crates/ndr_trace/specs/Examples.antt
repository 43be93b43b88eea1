-- Five streams that are refused, with the partial graphs in which they are.
-- `es` are the entries of a stream, `k` is how many of them come before the one that is refused.
use Rattle.std.specs.Prelude.{ℕ, false, pos, List, [], ◌∷◌, ◌++◌, take, Option, Some, None, codes}
use Rattle.std.specs.List.{slice_get}
use Rattle.nd_base.specs.declared.octets.Order.TheVariants.{Little}
use Rattle.nd_types.specs.declared.types.Attr.TheVariants as attr
use Rattle.nd_types.specs.declared.types.AttrVar.{AttrVar}
use Rattle.nd_types.specs.declared.types.Class.TheVariants.{Full, Ref}
use Rattle.nd_types.specs.declared.types.Field.{Field}
use Rattle.nd_types.specs.declared.types.Param.{Param}
use Rattle.nd_types.specs.declared.types.TypeDef.TheVariants as def
use Rattle.nd_types.specs.declared.types.Way.TheVariants as way
use Rattle.nd_types.specs.Table.{type_at}
use Rattle.nd_value.specs.declared.item.Home.TheVariants as home
use Rattle.nd_value.specs.declared.value.Graph.{Graph}
use Rattle.nd_value.specs.Setting.{Setting, cell_home}
use Rattle.nd_value.specs.Tree as tree
use Rattle.nd_value.specs.Tree.{Tree, Trees, node, none}
use Rattle.nd_grammar.specs.declared.reason.Reason.{Reason}
use Rattle.nd_grammar.specs.Entry.{Entry, EntryAt, Test, end_to_end, whole_value}
use Rattle.nd_grammar.specs.ExampleParts.{attribute, cell, four, id, null, num, one, pointer_to, request, struct_of, three, two}
use Rattle.nd_grammar.specs.Items.{items}
use Rattle.nd_grammar.specs.Refusal.{refusal}
use Rattle.nd_grammar.specs.Stream.{pipe_entries}
use Rattle.ndr_explain.specs.Explained.{explanation_over}
use Rattle.ndr_trace_value.specs.Traces.{entry_path}

abbrev pub called : List ℕ → ℕ → List AttrVar → Field
called name t vars = record { name = name; of = id t; vars = vars }

abbrev pub input : List ℕ → ℕ → Param
input name t = record { field = called name t []; way = way.In }

-- why octets refuse an entry of a stream
abbrev pub refused_by : List ℕ → List EntryAt → Option EntryAt → Option (ℕ × Reason)
refused_by octets before None = None
refused_by octets before (Some x) = refusal Little octets before x

abbrev pub refused_in : List ℕ → List EntryAt → ℕ → Option (ℕ × Reason)
refused_in octets es k = refused_by octets (take k es) (slice_get es k)

-- the path of an entry that is refused
abbrev pub path_by : Setting → Graph → Option EntryAt → List ℕ
path_by w g None = []
path_by w g (Some x) = entry_path w g x.entry

-- the lines of a trace, and then its path
abbrev pub traced : Setting → Graph → List ℕ → List EntryAt → ℕ → List ℕ
traced w g octets es k = explanation_over w g octets (items Little octets (take k es)) ++ path_by w g (slice_get es k)

-- typedef struct { short n; [size_is(n)] long a[*]; } s; void put([in] s *p);
abbrev pub counted : Setting
counted =
    request
    (def.Array (id 7) None false ∷ def.Struct (called (codes "n") 5 [] ∷ called (codes "a") 12 (attribute attr.Size 0) ∷ [])
    ∷ def.Pointer Ref (id 13) ∷ [])
    (input (codes "p") 14 ∷ [])

abbrev pub counted_value : ℕ → Trees → Tree
counted_value n ks = struct_of (two (num (pos n)) (node (tree.Arr 2 0) ks))

abbrev pub counted_graph : ℕ → Trees → Graph
counted_graph n ks = record { roots = pointer_to 1 ∷ []; cells = cell 13 (counted_value n ks) ∷ [] }

abbrev pub counted_entries : ℕ → Trees → List EntryAt
counted_entries n ks = end_to_end 0 (whole_value counted.table (cell_home 1) 13 (counted_value n ks))

-- the second element lacks two octets; then a count that says 3 of two elements
abbrev pub cut_octets : List ℕ
cut_octets = four 2 (2 ∷ 0 ∷ 0 ∷ 0 ∷ four 5 (6 ∷ 0 ∷ []))

abbrev pub miscounted_octets : List ℕ
miscounted_octets = four 2 (3 ∷ 0 ∷ 0 ∷ 0 ∷ four 5 (four 6 []))

-- typedef [switch_type(short)] union { [case(1)] long x; [case(2)] ; } u;
-- typedef struct { short k; [switch_is(k)] u v; } e; void put([in] e a[2]);
abbrev pub armed : Setting
armed =
    request
    (def.Union (id 5) false
    (record { label = pos 1; name = Some (codes "x"); of = Some (id 7) } ∷ record { label = pos 2; name = None; of = None } ∷ []) None
    ∷ def.Struct (called (codes "k") 5 [] ∷ called (codes "v") 12 (attribute attr.Switch 0) ∷ []) ∷ def.Array (id 13) (Some 2) false ∷ [])
    (input (codes "a") 14 ∷ [])

abbrev pub armed_value : Tree
armed_value =
    node (tree.Arr 2 0)
    (two (struct_of (two (num (pos 1)) (node (tree.Union (pos 1)) (one (num (pos 7))))))
    (struct_of (two (num (pos 3)) (node (tree.Union (pos 3)) none))))

abbrev pub armed_graph : Graph
armed_graph = record { roots = armed_value ∷ []; cells = [] }

abbrev pub armed_entries : List EntryAt
armed_entries = end_to_end 0 (whole_value armed.table (home.Root 0) 14 armed_value)

abbrev pub armless_octets : List ℕ
armless_octets = 1 ∷ 0 ∷ 1 ∷ 0 ∷ four 7 (3 ∷ 0 ∷ 3 ∷ 0 ∷ [])

-- void put([in, ptr] long *p, [in, ptr] short *q);
abbrev pub shared : Setting
shared = request (def.Pointer Full (id 7) ∷ def.Pointer Full (id 5) ∷ []) (input (codes "p") 12 ∷ input (codes "q") 13 ∷ [])

abbrev pub shared_graph : Graph
shared_graph = record { roots = pointer_to 1 ∷ null ∷ []; cells = cell 7 (num (pos 7)) ∷ [] }

abbrev pub shared_entries : List EntryAt
shared_entries =
    end_to_end 0
    (whole_value shared.table (home.Root 0) 12 (pointer_to 1)
    ++ (whole_value shared.table (cell_home 1) 7 (num (pos 7)) ++ whole_value shared.table (home.Root 1) 13 null))

abbrev pub one_number : List ℕ
one_number = four 2 (four 7 (four 2 []))

-- typedef pipe long lp; void feed([in] lp d);
abbrev pub piped : Setting
piped = request (def.Pipe (id 7) ∷ []) (input (codes "d") 12 ∷ [])

abbrev pub piped_value : Tree
piped_value = node tree.Pipe (three (num (pos 1)) (num (pos 2)) (num (pos 0)))

abbrev pub piped_graph : Graph
piped_graph = record { roots = piped_value ∷ []; cells = [] }

abbrev pub piped_entries : List EntryAt
piped_entries = end_to_end 0 (pipe_entries piped.table (home.Root 0) (type_at piped.table 12) (2 ∷ 1 ∷ []) piped_value)

-- the element of the second chunk lacks two octets
abbrev pub second_chunk : List ℕ
second_chunk = four 2 (four 1 (four 2 (four 1 (3 ∷ 0 ∷ []))))

-- ## Their traces

-- the second element lacks two octets; 7 octets of the same end in a gap, and 4 of them between two items
abbrev pub cut_refusal : Option (ℕ × Reason)
cut_refusal = refused_in cut_octets (counted_entries 2 (two (num (pos 5)) (num (pos 0)))) 8

abbrev pub cut_trace : List ℕ
cut_trace =
    traced counted (counted_graph 2 (two (num (pos 5)) (num (pos 0)))) cut_octets (counted_entries 2 (two (num (pos 5)) (num (pos 0)))) 8

abbrev pub in_gap_trace : List ℕ
in_gap_trace =
    traced counted (counted_graph 2 (two (num (pos 0)) (num (pos 0)))) (take 7 cut_octets)
    (counted_entries 2 (two (num (pos 0)) (num (pos 0)))) 5

abbrev pub between_trace : List ℕ
between_trace =
    traced counted (counted_graph 0 (two (num (pos 0)) (num (pos 0)))) (take 4 cut_octets)
    (counted_entries 0 (two (num (pos 0)) (num (pos 0)))) 4

-- the count says 3 of two elements
abbrev pub miscounted_graph : Graph
miscounted_graph = counted_graph 3 (two (num (pos 5)) (num (pos 6)))

abbrev pub miscounted_entries : List EntryAt
miscounted_entries = counted_entries 3 (two (num (pos 5)) (num (pos 6)))

abbrev pub miscounted_refusal : Option (ℕ × Reason)
miscounted_refusal = refused_in miscounted_octets miscounted_entries 9

abbrev pub miscounted_trace : List ℕ
miscounted_trace = traced counted miscounted_graph miscounted_octets miscounted_entries 9

abbrev pub armless_trace : List ℕ
armless_trace = traced armed armed_graph armless_octets armed_entries 12

abbrev pub shared_trace : List ℕ
shared_trace = traced shared shared_graph one_number shared_entries 5

abbrev pub piped_trace : List ℕ
piped_trace = traced piped piped_graph second_chunk piped_entries 9
