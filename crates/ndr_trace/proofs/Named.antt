-- The variable of a failed agreement: where that speaks of a parameter's own value or of a member of a struct, the name or path that is shown is that of the
-- variable which states the number.
-- `w` is a setting, `bad` are octets that are refused, `u` is what the walk was given, `s` what is sought, `q` the text that is shown.
use Rattle.std.proofs.Common.{◌≡◌, ◌∙◌, ◌<◌, ℕ, ℤ, Bool, true, false, List, [], ◌∷◌, length, Option, Some, None, refl, sym, ap, ap₂, subst, arith}
use Rattle.std.specs.Prelude.{option_map}
use Rattle.std.specs.List.{AllByRecursion, slice_get}
use Rattle.std.proofs.lemmas.Option.{same_Some, slice_get_within}
use Rattle.nd_base.specs.declared.octets.Order.{Order}
use Rattle.nd_types.specs.declared.types.Attr.{Attr}
use Rattle.nd_types.specs.declared.types.Attr.TheVariants as attr
use Rattle.nd_types.specs.declared.types.AttrVar.{AttrVar}
use Rattle.nd_types.specs.declared.types.Field.{Field}
use Rattle.nd_types.specs.declared.types.TypeDef.{TypeDef}
use Rattle.nd_types.specs.declared.types.TypeDef.TheVariants as def
use Rattle.nd_types.specs.Kinds.{pointee, pointee_by}
use Rattle.nd_types.specs.Roots.{Root, named_roots}
use Rattle.nd_lemmas.proofs.Lists.{all_at}
use Rattle.nd_types.specs.Table.{Table, type_at}
use Rattle.nd_value.specs.declared.item.Home.{Home}
use Rattle.nd_value.specs.declared.item.Home.TheVariants as home
use Rattle.nd_value.specs.declared.item.Item.{Item}
use Rattle.nd_value.specs.declared.item.ItemKind.{ItemKind}
use Rattle.nd_value.specs.declared.item.ItemKind.TheVariants as kind
use Rattle.nd_value.specs.declared.value.Graph.{Graph}
use Rattle.nd_value.specs.Deferral.{Pending as Pointer}
use Rattle.nd_value.specs.Setting.{Among, Setting, cell_home, root_list}
use Rattle.nd_value.specs.Tree.{more, none}
use Rattle.nd_value.proofs.Apart.{all_among}
use Rattle.nd_value.proofs.NodeFacts.{IsSound, sound_partial}
use Rattle.nd_grammar.specs.declared.reason.Reason.{Reason}
use Rattle.nd_grammar.specs.Refusal.{Bad}
use Rattle.nd_grammar.specs.Entry.{Test}
use Rattle.nd_grammar.specs.Items.{items}
use Rattle.nd_grammar.specs.LegalSide.{IsLegalSide}
use Rattle.nd_grammar.specs.Tested.{node_of}
use Rattle.nd_grammar.proofs.agreements.LegalSubjects.{has_subjects, roots_fit}
use Rattle.nd_grammar.proofs.agreements.StreamFinds.{RootFits}
use Rattle.nd_grammar.proofs.agreements.TestsFind.{AttrFits}
use Rattle.nd_grammar.proofs.next.StreamPointers.{is_good}
use Rattle.text_grammar.specs.Paths.{cell_types, home_name, home_types, home_value, node_paths, root_types}
use Rattle.text_grammar.specs.Written.{parameter_name}
use Rattle.ndr_explain.specs.Explained.{home_paths, path_in}
use Rattle.ndr_explain.specs.Cursors.{Place}
use Rattle.ndr_explain.proofs.Walks.{path_here}
use Rattle.ndr_trace_value.specs.Untested.{is_test}
use Rattle.ndr_trace_value.specs.declared.progress.Ground.{Ground}
use Rattle.ndr_trace_value.specs.declared.progress.Progress.{Progress}
use Rattle.ndr_trace_value.specs.declared.search.Sought.{Sought}
use Rattle.ndr_trace_value.specs.Attributes.{IsItemOf, IsKeptName, IsOwnName, IsPointedName, IsPointedPath, home_attribute, spoken}
use Rattle.ndr_trace_value.specs.LastMembers.{front_variable as front_by_types}
use Rattle.ndr_trace_value.specs.LastMembers.{counted_variable, last_variable, stated_in, struct_of}
use Rattle.ndr_trace_value.specs.Places.{home_place, member_variable}
use Rattle.ndr_trace_value.specs.Tracing.{IsAt, KeptFrom, Known, kept_variable, kind_variable, pointer_variable, sought_variable, spot_of}
use Rattle.ndr_trace_value.specs.Traces.{IsVariableOf, IsAtRoot, IsOfReferent, IsOfRoot, IsStated, IsVariable, NamesAlone, OfMember, numbered_path}
use Rattle.ndr_trace_value.proofs.Attributes.{OneEach, first_is}
use Rattle.ndr_trace_value.proofs.Ending.{kept_whole, known_of}
use Rattle.ndr_trace_value.proofs.Placed.{home_plain, variable_there}
use Rattle.ndr_trace.specs.Sides.{IsSide}
use Rattle.ndr_trace.proofs.FrontTests.{OfStruct, front_variable, is_maximum, maximum_spoken}
use Rattle.ndr_trace.proofs.Grounds.{as_test}
use Rattle.ndr_trace.proofs.LastPaths.{last_variable-legal}
use Rattle.ndr_trace.proofs.MemberPlaces.{member_there}
use Rattle.ndr_trace.proofs.OwnTests.{OwnTest, Says, here_among, own_test}
use Rattle.ndr_trace.proofs.PointerMembers.{IsPointerMember}
use Rattle.ndr_trace.proofs.ReferentTests.{RootSays, member_test_of, root_test_of}
use Rattle.ndr_trace.proofs.RootAttributes.{attribute_found, members_one, no_attribute}
use Rattle.ndr_trace.proofs.Subjects.{maximum_is, of_struct, tested_item}

-- an attribute that speaks of the home's own value speaks of an item at that value
own_node : (a : Attr) (n : ℕ) → n ≡ 0 → node_of a n ≡ 0
own_node attr.Size n e = refl
own_node attr.Max n e = refl
own_node attr.First n e = e
own_node attr.Length n e = e
own_node attr.Last n e = e
own_node attr.Switch n e = e

-- an attribute on another count or on a tag speaks of the item at its own node
own_place : (a : Attr) → is_maximum a ≡ false → (n : ℕ) → node_of a n ≡ n
own_place attr.Size e n = cc
own_place attr.Max e n = cc
own_place attr.First e n = refl
own_place attr.Length e n = refl
own_place attr.Last e n = refl
own_place attr.Switch e n = refl

not_in_front : (a : Attr) → is_maximum a ≡ false → (table : Table) (types p : List ℕ) (x : Place)
    → counted_variable table (spoken a) types p x ≡ member_variable (spoken a) p x
not_in_front attr.Size e table types p x = cc
not_in_front attr.Max e table types p x = cc
not_in_front attr.First e table types p x = refl
not_in_front attr.Length e table types p x = refl
not_in_front attr.Last e table types p x = refl
not_in_front attr.Switch e table types p x = refl

module _ (w : Setting) (g : Graph) (legal : IsLegalSide w) where
  -- the attribute that states the number is the one whose variable's name is shown
  stated : (k : Known) → k.setting ≡ w → (u : Ground) → IsSide k u → (s : Sought) (q : List ℕ) → IsOwnName u s q → (a : Attr) (wanted : ℤ) (at : ℕ) → s.home ≡ home.Root at → s.node ≡ 0
      → s.kind ≡ spoken a → OwnTest w g at a wanted → (root : Root) → slice_get (root_list w) at ≡ Some root → IsStated w g root a wanted q
  stated k same u side s q name a wanted at at_home own_value of_kind test root there = record {
    by = says.by;
    among = says.among;
    attr_is = says.attr_is;
    value = says.value;
    value_is = says.value_is;
    wanted_is = says.wanted_is ∙ refl;
    name =
        subst (λ (v : Setting). q ≡ parameter_name (slice_get v.op.params says.by.var)) (sym setting)
        (name side.operation side.there own_value says.by
        (subst (λ (v : Setting). home_attribute v.op s.kind (named_roots v.table v.side v.op) s.home ≡ Some says.by) setting found));
  }
    where
      says : Says w g root.vars a wanted
      says = subst (λ (r : Root). Says w g r.vars a wanted) (same_Some _ _ (sym test.there ∙ there)) test.says

      setting : w ≡ record { table = u.interface.now.types; op = side.operation; side = u.side; given = side.request }
      setting = sym same ∙ side.setting

      found : home_attribute w.op s.kind (named_roots w.table w.side w.op) s.home ≡ Some says.by
      found =
          ap (home_attribute w.op s.kind (named_roots w.table w.side w.op)) at_home
          ∙ attribute_found w legal at root there says.by says.among s.kind (ap spoken says.attr_is ∙ sym of_kind)

some_path : (p : List ℕ) (ms : List Field) (i : ℕ) → numbered_path p ms i ≡ [] → ⊥
some_path [] ms i e = absurd (let z : ⊥ = cc in z)
some_path (x ∷ p) ms i e = absurd (let z : ⊥ = cc in z)

-- a type that has the members of a struct
struct_is : (d : Option TypeDef) (ms : List Field) → struct_of d ≡ Some ms → d ≡ Some (def.Struct ms)
struct_is (Some (def.Struct fs)) ms e = ap (λ u. Some (def.Struct u)) (same_Some _ _ e)
struct_is None ms e = cc
struct_is (Some _) ms e = cc

module _ (w : Setting) (g : Graph) (legal : IsLegalSide w) where
  -- the home's value ends with a struct if there is a variable in front
  ends_with_struct : (of : ℕ) (p : List ℕ) → (last_variable w.table of p ≡ [] → ⊥) → (ms : List Field) × (type_at w.table of ≡ Some (def.Struct ms))
  ends_with_struct of p some = go (struct_of (type_at w.table of)) refl
    where
      go : (o : Option (List Field)) → struct_of (type_at w.table of) ≡ o → (ms : List Field) × (type_at w.table of ≡ Some (def.Struct ms))
      go None e = absurd (some (last_variable-legal w.table legal.operations legal.legal of p ∙ ap (stated_in (last_variable w.table) p) e))
      go (Some ms) e = (ms, struct_is (type_at w.table of) ms e)

  -- then no attribute of a root speaks of the home's own value
  none_own : (h : Home) (of : ℕ) → home_types w g h ≡ of ∷ [] → (front_variable w g h ≡ [] → ⊥)
      → home_attribute w.op kind.Max (named_roots w.table w.side w.op) h ≡ None
  none_own (home.Cell c) of types some = refl
  none_own (home.Root at) of types some = go (slice_get (root_list w) at) refl types
    where
      front : front_variable w g (home.Root at) ≡ last_variable w.table of (home_name w (home.Root at))
      front = ap (λ ts. front_by_types w.table ts (home_name w (home.Root at))) types

      go : (o : Option Root) → slice_get (root_list w) at ≡ o → root_types o ≡ of ∷ [] → home_attribute w.op kind.Max (named_roots w.table w.side w.op) (home.Root at) ≡ None
      go None there e = cc
      go (Some r) there e =
          let same : r.of ≡ of = cc in
          let (ms, is_struct) = ends_with_struct of (home_name w (home.Root at)) (λ z. some (front ∙ z)) in
          no_attribute w legal at r there ms (ap (type_at w.table) same ∙ is_struct)

same_root : (i j : ℕ) → home.Root i ≡ home.Root j → i ≡ j
same_root i j e = cc

-- an attribute on a maximum count does not speak of a struct
no_struct_fits : (a : Attr) (ms : List Field) → spoken a ≡ kind.Max → AttrFits a (Some (def.Struct ms)) → ⊥
no_struct_fits attr.Size ms e f = let z : false ≡ true = f in cc
no_struct_fits attr.Max ms e f = let z : false ≡ true = f in cc
no_struct_fits attr.First ms e f = cc
no_struct_fits attr.Length ms e f = cc
no_struct_fits attr.Last ms e f = cc
no_struct_fits attr.Switch ms e f = cc

module _ (w : Setting) (g : Graph) (legal : IsLegalSide w) where
  -- where an attribute speaks of a value's maximum count, no struct in this value states it
  none_stated : (a : Attr) → spoken a ≡ kind.Max → (t : ℕ) → AttrFits a (type_at w.table t) → (path : List ℕ) → last_variable w.table t path ≡ []
  none_stated a max t fits path = go (last_variable w.table t path) refl
    where
      go : (xs : List ℕ) → last_variable w.table t path ≡ xs → last_variable w.table t path ≡ []
      go [] e = e
      go (x ∷ xs) e =
          let (ms, is_struct) = ends_with_struct w g legal t path (λ z. (let y : x ∷ xs ≡ [] = sym e ∙ z in absurd (let u : ⊥ = cc in u))) in
          absurd (no_struct_fits a ms max (subst (AttrFits a) is_struct fits))

  -- nor a member
  none_kept : (a : Attr) (t : ℕ) → AttrFits a (type_at w.table t) → (path : List ℕ) → counted_variable w.table (spoken a) (t ∷ []) path None ≡ []
  none_kept attr.Size t fits path = none_stated attr.Size refl t fits path
  none_kept attr.Max t fits path = none_stated attr.Max refl t fits path
  none_kept attr.First t fits path = refl
  none_kept attr.Length t fits path = refl
  none_kept attr.Last t fits path = refl
  none_kept attr.Switch t fits path = refl

  -- the attributes of roots and members fit the types of which they speak
  root_fits : (at : ℕ) (root : Root) → slice_get (root_list w) at ≡ Some root → (by : AttrVar) → Among root.vars by → (a : Attr) → by.attr ≡ a → (t : ℕ)
      → pointee w.table root.of ≡ t → AttrFits a (type_at w.table t)
  root_fits at root there by among a is t pointed =
      subst (λ b. AttrFits b (type_at w.table t)) is
      (subst (λ u. AttrFits by.attr (type_at w.table u)) pointed
      (all_among (λ (v : AttrVar). AttrFits v.attr (type_at w.table (pointee w.table root.of))) root.vars by among
      (all_at (RootFits w.table) (root_list w) at root (roots_fit w legal) there)))

  member_fits : (x : ℕ) (fs : List Field) → type_at w.table x ≡ Some (def.Struct fs) → (i : ℕ) (f : Field) → slice_get fs i ≡ Some f → (by : AttrVar) → Among f.vars by → (a : Attr)
      → by.attr ≡ a → (t : ℕ) → pointee w.table f.of.0 ≡ t → AttrFits a (type_at w.table t)
  member_fits x fs is_struct i f there by among a is t pointed =
      subst (λ b. AttrFits b (type_at w.table t)) is
      (subst (λ u. AttrFits by.attr (type_at w.table u)) pointed
      (all_among (λ (v : AttrVar). AttrFits v.attr (type_at w.table (pointee w.table f.of.0))) f.vars by among
      (all_at (λ (y : Field). AllByRecursion (λ (v : AttrVar). AttrFits v.attr (type_at w.table (pointee w.table y.of.0))) y.vars) fs i f
      ((has_subjects w.table legal.operations legal.legal).members x fs is_struct) there)))

module _ (w : Setting) (order : Order) (fetched : List ℕ) (place : ℕ) (why : Reason) (bad : Bad w order fetched place why) (legal : IsLegalSide w) where
  -- the name that is shown
  pub variable_is : (u : Ground) (s : Sought) → IsSide (known_of w order fetched place why bad (Some s.item)) u → is_test bad.here.entry.kind ≡ true
      → IsAt (items order fetched bad.earlier) s.item place → IsItemOf (items order fetched bad.earlier) s → (p : Progress)
      → p.variable ≡ kept_variable (known_of w order fetched place why bad (Some s.item)) (length (items order fetched bad.earlier))
      → KeptFrom (known_of w order fetched place why bad (Some s.item)) (length (items order fetched bad.earlier)) p.from
      → (q : List ℕ) → IsOwnName u s q → IsKeptName u s p.variable q → IsPointedName u s p.from p.variable q
      → IsPointedPath u s p.from p.variable q
      → IsVariableOf w bad.partial bad.here.entry bad.here.entry.kind q
  variable_is u s side test (i, there, at) (j, got, of_kind, at_home, node) p ended from q name kept pointed beside =
      let (a, wanted, found, is) = as_test bad.here.entry.kind test in
      subst (λ k. IsVariableOf w bad.partial bad.here.entry k q) (sym is)
      (record {
        own = by_root a wanted found is;
        member = λ low. by_member a wanted found is low (is_maximum a) refl;
        referent = by_referent a wanted found is;
        root_referent = by_root_referent a wanted found is;
      })
    where
      g : Graph
      g = bad.partial

      h : Home
      h = bad.here.entry.home

      k : Known
      k = known_of w order fetched place why bad (Some s.item)

      same : i ≡ j
      same = same_Some _ _ (sym there ∙ got)

      by_root : (a : Attr) (wanted found : ℤ) → bad.here.entry.kind ≡ Test a wanted found → (at_root : ℕ) (root : Root) → slice_get (root_list w) at_root ≡ Some root
          → IsOfRoot bad.here.entry at_root → IsStated w g root a wanted q
      by_root a wanted found is at_root root in_list own =
          let (kind_is, home_is, node_is) = tested_item w order fetched place why bad legal a wanted found is s.item i there at in
          stated w g legal k refl u side s q name a wanted at_root (sym at_home ∙ ap (λ (x : Item). x.home) (sym same) ∙ home_is ∙ own.0)
          (sym node ∙ ap (λ (x : Item). x.node) (sym same) ∙ node_is ∙ own_node a bad.here.entry.node own.1)
          (sym of_kind ∙ ap (λ (x : Item). x.kind) (sym same) ∙ kind_is)
          (own_test w g bad.entries bad.stream bad.here.entry (here_among 0 bad.entries bad.earlier bad.here bad.later bad.split) a wanted found is at_root own.0 own.1)
          root in_list

      sound : IsSound w g
      sound = sound_partial w g bad.is_partial

      -- the walk kept the place of the pointer that names the cell alone
      pointer_kept : (a : Attr) (wanted found : ℤ) → bad.here.entry.kind ≡ Test a wanted found → (ptr : Pointer) (c : ℕ) → NamesAlone w g ptr c → bad.here.entry.home ≡ cell_home c
          → p.from ≡ Some (spot_of k ptr.home ptr.node)
      pointer_kept a wanted found is ptr c alone at_cell =
          let (kind_is, home_is, node_is) = tested_item w order fetched place why bad legal a wanted found is s.item i there at in
          from s.item i refl there (slice_get_within (items order fetched bad.earlier) s.item i there) ptr c alone (home_is ∙ at_cell)

      -- and no path
      none_there : (a : Attr) (wanted found : ℤ) → bad.here.entry.kind ≡ Test a wanted found → (ptr : Pointer) (c : ℕ) → NamesAlone w g ptr c → bad.here.entry.home ≡ cell_home c
          → bad.here.entry.node ≡ 0 → AttrFits a (type_at w.table ptr.to) → p.variable ≡ []
      none_there a wanted found is ptr c alone at_cell own fits =
          let (kind_is, home_is, node_is) = tested_item w order fetched place why bad legal a wanted found is s.item i there at in
          let (x, cell_there, cell_of) = (is_good w g sound ptr alone.among).typed c alone.cell in
          let types : home_types w g (cell_home c) ≡ ptr.to ∷ [] = ap cell_types cell_there ∙ ap (λ t. t ∷ []) cell_of in
          let here_path : List ℕ = path_in (home_paths w g (cell_home c)) 0 in
          ended ∙ kept_whole k (sought_variable k) s.item i refl there
          ∙ ap₂ (λ (y : ItemKind) (z : Home). counted_variable w.table y (home_types w g z) (path_in (home_paths w g z) i.node) (home_place w g z i.node)) kind_is
          (home_is ∙ at_cell)
          ∙ ap (λ n. counted_variable w.table (spoken a) (home_types w g (cell_home c)) (path_in (home_paths w g (cell_home c)) n) (home_place w g (cell_home c) n))
          (node_is ∙ own_node a bad.here.entry.node own)
          ∙ ap₂ (λ ts y. counted_variable w.table (spoken a) ts here_path y) types (home_plain w g (cell_home c)) ∙ none_kept w g legal a ptr.to fits here_path

      none_own_there : (a : Attr) (wanted found : ℤ) → bad.here.entry.kind ≡ Test a wanted found → (c : ℕ) → bad.here.entry.home ≡ cell_home c
          → home_attribute side.operation s.kind (named_roots u.interface.now.types u.side side.operation) s.home ≡ None
      none_own_there a wanted found is c at_cell =
          let (kind_is, home_is, node_is) = tested_item w order fetched place why bad legal a wanted found is s.item i there at in
          ap (home_attribute side.operation s.kind (named_roots u.interface.now.types u.side side.operation))
          (sym at_home ∙ ap (λ (x : Item). x.home) (sym same) ∙ home_is ∙ at_cell)

      by_root_referent : (a : Attr) (wanted found : ℤ) → bad.here.entry.kind ≡ Test a wanted found → (ptr : Pointer) → IsOfReferent w g bad.here.entry ptr → (at_root : ℕ) (root : Root)
          → slice_get (root_list w) at_root ≡ Some root → IsAtRoot ptr at_root → IsStated w g root a wanted q
      by_root_referent a wanted found is ptr (c, alone, at_cell, own) at_root root in_list in_root =
          let (kind_is, home_is, node_is) = tested_item w order fetched place why bad legal a wanted found is s.item i there at in
          let root_says : RootSays w g sound ptr a wanted =
          root_test_of w g sound ptr c alone bad.here.entry a wanted found is at_cell bad.entries bad.stream
          (here_among 0 bad.entries bad.earlier bad.here bad.later bad.split) own in_root.1 in
          let root_same : root_says.root ≡ root =
          same_Some _ _ (sym root_says.there ∙ ap (slice_get (root_list w)) (same_root root_says.at at_root (sym root_says.own.0 ∙ in_root.0)) ∙ in_list) in
          let says : Says w g root.vars a wanted = subst (λ (r : Root). Says w g r.vars a wanted) root_same root_says.says in
          let setting : w ≡ record { table = u.interface.now.types; op = side.operation; side = u.side; given = side.request } = side.setting in
          let its_kind : s.kind ≡ spoken a = sym of_kind ∙ ap (λ (x : Item). x.kind) (sym same) ∙ kind_is in
          let pointed_to : pointee w.table root.of ≡ ptr.to =
          ap (λ (r : Root). pointee w.table r.of) (sym root_same) ∙ ap (pointee_by root_says.root.of) root_says.type_is ∙ sym root_says.to_is in
          let fits : AttrFits a (type_at w.table ptr.to) = root_fits w g legal at_root root in_list says.by says.among a says.attr_is ptr.to pointed_to in
          let found_by : home_attribute w.op s.kind (named_roots w.table w.side w.op) ptr.home ≡ Some says.by =
          ap (home_attribute w.op s.kind (named_roots w.table w.side w.op)) in_root.0
          ∙ attribute_found w legal at_root root in_list says.by says.among s.kind (ap spoken says.attr_is ∙ sym its_kind) in
          record {
            by = says.by;
            among = says.among;
            attr_is = says.attr_is;
            value = says.value;
            value_is = says.value_is;
            wanted_is = says.wanted_is;
            name =
                subst (λ (v : Setting). q ≡ parameter_name (slice_get v.op.params says.by.var)) (sym setting)
                (pointed side.operation side.there (none_own_there a wanted found is c at_cell) (none_there a wanted found is ptr c alone at_cell own fits)
                (spot_of k ptr.home ptr.node) (pointer_kept a wanted found is ptr c alone at_cell) in_root.1 says.by
                (subst (λ (v : Setting). home_attribute v.op s.kind (named_roots v.table v.side v.op) ptr.home ≡ Some says.by) setting found_by));
          }

      by_referent : (a : Attr) (wanted found : ℤ) → bad.here.entry.kind ≡ Test a wanted found → (ptr : Pointer) → IsOfReferent w g bad.here.entry ptr → 0 < ptr.node
          → OfMember w g ptr.home ptr.node a wanted q
      by_referent a wanted found is ptr (c, alone, at_cell, own) low =
          let (kind_is, home_is, node_is) = tested_item w order fetched place why bad legal a wanted found is s.item i there at in
          let member : IsPointerMember w g ptr a wanted =
          member_test_of w g sound ptr c alone bad.here.entry a wanted found is at_cell bad.entries bad.stream
          (here_among 0 bad.entries bad.earlier bad.here bad.later bad.split) own low in
          let st : OfStruct w g ptr.home ptr.node a wanted = member.0 in
          let its = member_there w g ptr.home st.struct st.members st.is_struct st.is_record st.index st.field st.there st.within st.of st.home_is st.in_home in
          let one : OneEach st.field.vars =
          all_at (λ (f : Field). OneEach f.vars) st.members st.index st.field (members_one w.table legal.operations legal.legal st.struct.of st.members st.is_struct) st.there in
          let fits : AttrFits a (type_at w.table ptr.to) =
          member_fits w g legal st.struct.of st.members st.is_struct st.index st.field st.there st.by st.among a st.attr_is ptr.to member.1 in
          let outer : List ℕ = path_in (home_paths w g ptr.home) st.struct.node in
          let stands : pointer_variable k ptr.home ptr.node ≡ numbered_path outer st.members st.by.var =
          ap (λ (o : Option ItemKind). kind_variable o (path_in (home_paths w g ptr.home) ptr.node) (home_place w g ptr.home ptr.node))
          (ap (option_map (λ (x : Item). x.kind)) there ∙ ap (λ m. Some m) kind_is)
          ∙ ap (λ n. member_variable (spoken a) (path_in (home_paths w g ptr.home) n) (home_place w g ptr.home n)) st.place
          ∙ ap₂ (member_variable (spoken a)) its.1 its.0
          ∙ variable_there (spoken a) outer st.members st.index st.field st.by st.there (first_is (spoken a) st.field.vars st.by one st.among (ap spoken st.attr_is)) in
          record {
            of = st.of;
            home_is = st.home_is;
            struct = st.struct;
            in_home = st.in_home;
            members = st.members;
            is_struct = st.is_struct;
            index = st.index;
            field = st.field;
            there = st.there;
            place = st.place;
            by = st.by;
            among = st.among;
            attr_is = st.attr_is;
            value = st.value;
            value_is = st.value_is;
            wanted_is = st.wanted_is;
            path =
                beside side.operation side.there (none_own_there a wanted found is c at_cell) (none_there a wanted found is ptr c alone at_cell own fits)
                (spot_of k ptr.home ptr.node) (pointer_kept a wanted found is ptr c alone at_cell) (λ z. absurd (omega (arith, z, low)))
                (λ z. some_path outer st.members st.by.var (sym stands ∙ z))
                ∙ stands;
          }

      -- a maximum count is at its home's own value
      at_front : (a : Attr) (n : ℕ) → is_maximum a ≡ true → node_of a n ≡ 0
      at_front attr.Size n e = refl
      at_front attr.Max n e = refl
      at_front attr.First n e = cc
      at_front attr.Length n e = cc
      at_front attr.Last n e = cc
      at_front attr.Switch n e = cc

      by_maximum : (a : Attr) (wanted found : ℤ) → bad.here.entry.kind ≡ Test a wanted found → is_maximum a ≡ true → 0 < bad.here.entry.node
          → OfMember w g h bad.here.entry.node a wanted q
      by_maximum a wanted found is maximum low =
          let (kind_is, home_is, node_is) = tested_item w order fetched place why bad legal a wanted found is s.item i there at in
          let m = maximum_is w order fetched place why bad legal a wanted found is maximum low in
          let max_is : i.kind ≡ kind.Max = kind_is ∙ maximum_spoken a maximum in
          let front_is : i.node ≡ 0 = node_is ∙ at_front a bad.here.entry.node maximum in
          let kept_is : p.variable ≡ front_variable w g h =
          ended ∙ kept_whole k (sought_variable k) s.item i refl there
          ∙ ap (λ x. counted_variable w.table x (home_types w g i.home) (path_in (home_paths w g i.home) i.node) (home_place w g i.home i.node)) max_is
          ∙ ap₂ (λ (x : Home) (n : ℕ). front_by_types w.table (home_types w g x) (path_in (home_paths w g x) n)) home_is front_is
          ∙ ap (front_by_types w.table (home_types w g h))
          (path_here 0 (home_name w h) (node_paths w.table (home_types w g h) (home_name w h ∷ []) 0 (more (home_value g h) none))) in
          let some : front_variable w g h ≡ [] → ⊥ = λ z. some_path (path_in (home_paths w g h) m.struct.node) m.members m.by.var (sym m.path ∙ z) in
          let setting : w ≡ record { table = u.interface.now.types; op = side.operation; side = u.side; given = side.request } = side.setting in
          let its_home : s.home ≡ h = sym at_home ∙ ap (λ (x : Item). x.home) (sym same) ∙ home_is in
          let its_kind : s.kind ≡ kind.Max = sym of_kind ∙ ap (λ (x : Item). x.kind) (sym same) ∙ max_is in
          let none_is : home_attribute w.op s.kind (named_roots w.table w.side w.op) s.home ≡ None =
          ap₂ (λ (x : ItemKind) (y : Home). home_attribute w.op x (named_roots w.table w.side w.op) y) its_kind its_home ∙ none_own w g legal h m.of m.home_is some in
          let shown : q ≡ p.variable =
          kept side.operation side.there (λ z. subst (λ (v : Setting). home_attribute v.op s.kind (named_roots v.table v.side v.op) s.home ≡ None) setting none_is)
          (λ z. some (sym kept_is ∙ z)) in
          subst (λ x. OfMember w g h bad.here.entry.node a wanted x) (sym (shown ∙ kept_is)) m

      -- another count or a tag is at the member's own node
      by_other : (a : Attr) (wanted found : ℤ) → bad.here.entry.kind ≡ Test a wanted found → is_maximum a ≡ false → 0 < bad.here.entry.node
          → OfMember w g h bad.here.entry.node a wanted q
      by_other a wanted found is other low =
          let (kind_is, home_is, node_is) = tested_item w order fetched place why bad legal a wanted found is s.item i there at in
          let st : OfStruct w g h bad.here.entry.node a wanted = of_struct w order fetched place why bad legal a wanted found is low in
          let its = member_there w g h st.struct st.members st.is_struct st.is_record st.index st.field st.there st.within st.of st.home_is st.in_home in
          let one : OneEach st.field.vars =
          all_at (λ (f : Field). OneEach f.vars) st.members st.index st.field (members_one w.table legal.operations legal.legal st.struct.of st.members st.is_struct) st.there in
          let outer : List ℕ = path_in (home_paths w g h) st.struct.node in
          let stands : p.variable ≡ numbered_path outer st.members st.by.var =
          ended ∙ kept_whole k (sought_variable k) s.item i refl there
          ∙ ap (λ x. counted_variable w.table x (home_types w g i.home) (path_in (home_paths w g i.home) i.node) (home_place w g i.home i.node)) kind_is
          ∙ not_in_front a other w.table (home_types w g i.home) (path_in (home_paths w g i.home) i.node) (home_place w g i.home i.node)
          ∙ ap₂ (λ (x : Home) (n : ℕ). member_variable (spoken a) (path_in (home_paths w g x) n) (home_place w g x n)) home_is
          (node_is ∙ own_place a other bad.here.entry.node ∙ st.place)
          ∙ ap₂ (member_variable (spoken a)) its.1 its.0
          ∙ variable_there (spoken a) outer st.members st.index st.field st.by st.there (first_is (spoken a) st.field.vars st.by one st.among (ap spoken st.attr_is)) in
          let its_node : s.node ≡ bad.here.entry.node =
          sym node ∙ ap (λ (x : Item). x.node) (sym same) ∙ node_is ∙ own_place a other bad.here.entry.node in
          record {
            of = st.of;
            home_is = st.home_is;
            struct = st.struct;
            in_home = st.in_home;
            members = st.members;
            is_struct = st.is_struct;
            index = st.index;
            field = st.field;
            there = st.there;
            place = st.place;
            by = st.by;
            among = st.among;
            attr_is = st.attr_is;
            value = st.value;
            value_is = st.value_is;
            wanted_is = st.wanted_is;
            path =
                kept side.operation side.there (λ z. absurd (omega (arith, its_node, z, low))) (λ z. some_path outer st.members st.by.var (sym stands ∙ z)) ∙ stands;
          }

      by_member : (a : Attr) (wanted found : ℤ) → bad.here.entry.kind ≡ Test a wanted found → 0 < bad.here.entry.node → (b : Bool) → is_maximum a ≡ b
          → OfMember w g h bad.here.entry.node a wanted q
      by_member a wanted found is low true m = by_maximum a wanted found is m low
      by_member a wanted found is low false m = by_other a wanted found is m low
