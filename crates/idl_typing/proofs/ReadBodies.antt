-- One more body is read.
use Rattle.std.proofs.Common.{◌≡◌, ℕ, ◌+◌, ◌<◌, Bool, true, false, cond, List, [], ◌∷◌, ◌++◌, length, Option, Some, None, is_some, slice_get, refl, sym, ap, ◌∙◌, subst, arith}
use Rattle.std.specs.Option.{option_and_then}
use Rattle.std.proofs.lemmas.Option.{none-some, same_Some, slice_get_within}
use Rattle.std.proofs.lemmas.List.{length-append, append-nil}
use Rattle.nd_lemmas.proofs.Lists.{none_below}
use Rattle.nd_base.specs.declared.octets.Place.{Place}
use Rattle.idl_scope.specs.Known.{Known}
use Rattle.idl_declared_types.specs.declared.kinds.Kind.{Kind}
use Rattle.idl_constructs.specs.declared.nodes.Node as program_node
use Rattle.idl_constructs.specs.declared.nodes.Node.TheVariants as node
use Rattle.idl_rule_definitions.specs.Types.{Names}
use Rattle.idl_constructs.specs.declared.nodes.Nodes as program_nodes
use Rattle.idl_declared_types.specs.declared.types.BodyTypes.{BodyTypes}
use Rattle.idl_rule_definitions.specs.Scene.{Body, body_among, same_place, place_of}
use Rattle.idl_declared_types.specs.Kinds.{Keeps}
use Rattle.idl_declared_types.specs.SeenNames.{are_below}
use Rattle.idl_declared_types.specs.SeenTypes.{names_at, bare, body_at, IsBody}
use Rattle.idl_declared_types.specs.Places.{found_place}
use Rattle.idl_typing.specs.ReadTypes.{bodies_front, BodiesOver, BodiesRead, and_place}
use Rattle.idl_declared_types.proofs.KindLists.{slice_get_kept, slice_get_last}
use Rattle.idl_typing.proofs.PartTypes.{types-keeps, below-le}
use Rattle.idl_typing.proofs.ReadNames.{body_list, bodies_front_next}
use Rattle.idl_typing.proofs.ReadSteps.{last_or_before}
use Rattle.idl_rule_definitions.proofs.Equal.{place_is as same_is}

-- ## Places

same_back : (p q : Place) → same_place p q ≡ same_place q p
same_back p q = by (same_place p q) (same_place q p) refl refl
  where
    by : (b c : Bool) → same_place p q ≡ b → same_place q p ≡ c → same_place p q ≡ same_place q p
    by true c h g = let e = same_is p q h in ap (λ z. same_place p z) (sym e) ∙ ap (λ z. same_place z p) e
    by false true h g = let e = same_is q p g in ap (λ z. same_place p z) e ∙ ap (λ z. same_place z p) (sym e)
    by false false h g = h ∙ sym g

last_place : Option ℕ → Bool → ℕ → Option ℕ
last_place (Some j) b n = Some j
last_place None b n = cond b (Some n) None

found_more : (es : List (Place × ℕ)) (place other : Place) (n : ℕ) → found_place place (es ++ (other, n) ∷ []) ≡ last_place (found_place place es) (same_place place other) n
unfolding last_place
found_more [] place other n = refl
found_more (e ∷ es) place other n = by (same_place place e.0) (found_more es place other n)
  where
    by : (b : Bool) → found_place place (es ++ (other, n) ∷ []) ≡ last_place (found_place place es) (same_place place other) n
        → cond b (Some e.1) (found_place place (es ++ (other, n) ∷ [])) ≡ last_place (cond b (Some e.1) (found_place place es)) (same_place place other) n
    by true h = refl
    by false h = h

last_body : Option Body → Bool → Body → Option Body
last_body (Some x) b body = Some x
last_body None b body = elim b [ true ↦ Some body | false ↦ None ]

among_more : (bs : List Body) (body : Body) (place : Place) → body_among (bs ++ body ∷ []) place ≡ last_body (body_among bs place) (same_place (place_of body) place) body
unfolding last_body
among_more [] body place = refl
among_more (x ∷ bs) body place = by (same_place (place_of x) place) (among_more bs body place)
  where
    by : (b : Bool) → body_among (bs ++ body ∷ []) place ≡ last_body (body_among bs place) (same_place (place_of body) place) body
        → elim b [ true ↦ Some x | false ↦ body_among (bs ++ body ∷ []) place ] ≡ last_body (elim b [ true ↦ Some x | false ↦ body_among bs place ]) (same_place (place_of body) place) body
    by true h = refl
    by false h = h

-- ## Bodies

body_keeps : (known : Known) (n : program_nodes.Nodes) (old new : List Kind) (body : Body) (b : BodyTypes) → Keeps old new → are_below (length old) b.parts.items ≡ true
    → IsBody (bare known) n old body b → IsBody (bare known) n new body b
body_keeps known n old new body b keeps below h = record {
  place = h.place;
  nonencapsulated = h.nonencapsulated;
  parts = types-keeps old new b.parts.items keeps below ∙ h.parts;
  values = h.values;
  node = h.node;
}

pub bodies_read_keeps : (known : Known) (n : program_nodes.Nodes) (front : List Body) (old new : List Kind) (noted : List BodyTypes) (places : List (Place × ℕ)) → Keeps old new
    → BodiesOver known n front old noted places → BodiesOver known n front new noted places
bodies_read_keeps known n front old new noted places keeps h = record {
  count = h.count;
  body = λ j body b x y. body_keeps known n old new body b keeps (h.within j b y) (h.body j body b x y);
  within = λ j b y. below-le old new b.parts.items keeps (h.within j b y);
  first = h.first;
  inside = h.inside;
}

pub bodies_read_none : (known : Known) (n : program_nodes.Nodes) (i : ℕ) (ks : List Kind) (noted : List BodyTypes) (places : List (Place × ℕ)) (it : program_node.Node)
    → slice_get n.items.items i ≡ Some it → body_at (names_at known n i) (Some it) ≡ None → BodiesRead known n i ks noted places → BodiesRead known n (i + 1) ks noted places
bodies_read_none known n i ks noted places it here none h =
    let e = bodies_front_next known n i it here ∙ ap (λ o. bodies_front known n i ++ body_list o) none ∙ append-nil (bodies_front known n i) in
    subst (λ (front : List Body). BodiesOver known n front ks noted places) (sym e) h

module _ (known : Known) (n : program_nodes.Nodes) (front : List Body) (ks : List Kind) (noted : List BodyTypes) (places : List (Place × ℕ)) (body : Body) (b : BodyTypes)
    (h : BodiesOver known n front ks noted places) (is : IsBody (bare known) n ks body b) where
  body_more : (j : ℕ) (other : Body) (c : BodyTypes) → slice_get (front ++ body ∷ []) j ≡ Some other → slice_get (noted ++ b ∷ []) j ≡ Some c → IsBody (bare known) n ks other c
  body_more j other c x y =
      last_or_before front body j other x
      (λ e. last_or_before noted b j c y (λ f. h.body j other c e f) (λ f s. absurd (omega (arith, slice_get_within front j other e, h.count))))
      (λ e s. last_or_before noted b j c y (λ f. absurd (omega (arith, slice_get_within noted j c f, h.count)))
      (λ f t. subst (λ (o : Body). IsBody (bare known) n ks o c) s (subst (λ (d : BodyTypes). IsBody (bare known) n ks body d) t is)))

  -- a place that was found before
  found_before : (place : Place) (j : ℕ) → found_place place places ≡ Some j → body_among (front ++ body ∷ []) place ≡ slice_get (front ++ body ∷ []) j
  unfolding last_body
  found_before place j f = by (slice_get front j) refl
    where
      among : body_among front place ≡ slice_get front j
      among = h.first place ∙ ap (λ o. option_and_then (λ k. slice_get front k) o) f

      by : (o : Option Body) → slice_get front j ≡ o → body_among (front ++ body ∷ []) place ≡ slice_get (front ++ body ∷ []) j
      by (Some x) g =
          among_more front body place ∙ ap (λ o. last_body o (same_place (place_of body) place) body) (among ∙ g) ∙ sym (slice_get_kept front (body ∷ []) j x g)
      by None g = absurd (none_below front j (h.inside place j f) g)

  -- a place that was not
  not_before : (place : Place) → found_place place places ≡ None → body_among (front ++ body ∷ []) place ≡ elim (same_place (place_of body) place) [ true ↦ Some body | false ↦ None ]
  unfolding last_body
  not_before place f =
      among_more front body place ∙ ap (λ o. last_body o (same_place (place_of body) place) body) (h.first place ∙ ap (λ o. option_and_then (λ k. slice_get front k) o) f)

  at_end : slice_get (front ++ body ∷ []) (length noted) ≡ Some body
  at_end = ap (λ k. slice_get (front ++ body ∷ []) k) h.count ∙ slice_get_last front body

  first_by : (place : Place) (o : Option ℕ) → found_place b.place places ≡ o → (p : Option ℕ) → found_place place places ≡ p
      → body_among (front ++ body ∷ []) place
      ≡ option_and_then (λ j. slice_get (front ++ body ∷ []) j) (found_place place (elim (is_some o) [ true ↦ places | false ↦ places ++ (b.place, length noted) ∷ [] ]))
  unfolding last_place
  first_by place (Some k) g (Some j) f = found_before place j f ∙ sym (ap (λ o. option_and_then (λ i. slice_get (front ++ body ∷ []) i) o) f)
  first_by place (Some k) g None f = not_before place f ∙ by (same_place (place_of body) place) refl ∙ sym (ap (λ o. option_and_then (λ i. slice_get (front ++ body ∷ []) i) o) f)
    where
      by : (c : Bool) → same_place (place_of body) place ≡ c → ◌≡◌ {A = Option Body} (elim c [ true ↦ Some body | false ↦ None ]) None
      by false e = refl
      by true e = absurd (none-some k (sym f ∙ ap (λ q. found_place q places) (sym (same_is (place_of body) place e) ∙ sym is.place) ∙ g))
  first_by place None g (Some j) f =
      found_before place j f
      ∙ sym (ap (λ o. option_and_then (λ i. slice_get (front ++ body ∷ []) i) o)
      (found_more places place b.place (length noted) ∙ ap (λ o. last_place o (same_place place b.place) (length noted)) f))
  first_by place None g None f =
      not_before place f ∙ by (same_place (place_of body) place) (same_back (place_of body) place ∙ ap (λ q. same_place place q) (sym is.place))
      ∙ sym (ap (λ o. option_and_then (λ i. slice_get (front ++ body ∷ []) i) o)
      (found_more places place b.place (length noted) ∙ ap (λ o. last_place o (same_place place b.place) (length noted)) f))
    where
      by : (c : Bool) → c ≡ same_place place b.place
          → elim c [ true ↦ Some body | false ↦ None ] ≡ option_and_then (λ j. slice_get (front ++ body ∷ []) j) (last_place None (same_place place b.place) (length noted))
      by true e = sym (ap (λ c. option_and_then (λ j. slice_get (front ++ body ∷ []) j) (cond c (Some (length noted)) None)) (sym e) ∙ at_end)
      by false e = sym (ap (λ c. option_and_then (λ j. slice_get (front ++ body ∷ []) j) (cond c (Some (length noted)) None)) (sym e))

  inside_by : (place : Place) (j : ℕ) (o : Option ℕ) → found_place place (elim (is_some o) [ true ↦ places | false ↦ places ++ (b.place, length noted) ∷ [] ]) ≡ Some j
      → j < length (front ++ body ∷ [])
  unfolding last_place
  inside_by place j (Some k) f = omega (arith, h.inside place j f, length-append front (body ∷ []))
  inside_by place j None f = by (found_place place places) refl (same_place place b.place) (sym (found_more places place b.place (length noted)) ∙ f)
    where
      by : (p : Option ℕ) → found_place place places ≡ p → (c : Bool) → last_place (found_place place places) c (length noted) ≡ Some j → j < length (front ++ body ∷ [])
      by (Some i) g c e =
          let same : i ≡ j = same_Some i j (sym (ap (λ p. last_place p c (length noted)) g) ∙ e) in
          omega (arith, h.inside place i g, length-append front (body ∷ []))
      by None g true e =
          let same : length noted ≡ j = same_Some (length noted) j (sym (ap (λ p. last_place p true (length noted)) g) ∙ e) in
          omega (arith, h.count, length-append front (body ∷ []))
      by None g false e = absurd (none-some j (sym (ap (λ p. last_place p false (length noted)) g) ∙ e))

  pub bodies_more : are_below (length ks) b.parts.items ≡ true → BodiesOver known n (front ++ body ∷ []) ks (noted ++ b ∷ []) (and_place places b.place (length noted))
  bodies_more below = record {
    count = length-append noted (b ∷ []) ∙ ap (λ c. c + 1) h.count ∙ sym (length-append front (body ∷ []));
    body = body_more;
    within = λ j c y. last_or_before noted b j c y (λ f. h.within j c f) (λ e s. subst (λ (d : BodyTypes). are_below (length ks) d.parts.items ≡ true) s below);
    first = λ place. first_by place (found_place b.place places) refl (found_place place places) refl;
    inside = λ place j f. inside_by place j (found_place b.place places) f;
  }

-- the body of a node
pub bodies_read_next : (known : Known) (n : program_nodes.Nodes) (i : ℕ) (ks : List Kind) (noted : List BodyTypes) (places : List (Place × ℕ)) (it : program_node.Node) (body : Body) (b : BodyTypes)
    → slice_get n.items.items i ≡ Some it → body_at (names_at known n i) (Some it) ≡ Some body → BodiesRead known n i ks noted places → IsBody (bare known) n ks body b
    → are_below (length ks) b.parts.items ≡ true → BodiesRead known n (i + 1) ks (noted ++ b ∷ []) (and_place places b.place (length noted))
bodies_read_next known n i ks noted places it body b here at h is below =
    let e = bodies_front_next known n i it here ∙ ap (λ o. bodies_front known n i ++ body_list o) at in
    subst (λ (front : List Body). BodiesOver known n front ks (noted ++ b ∷ []) (and_place places b.place (length noted))) (sym e)
    (bodies_more known n (bodies_front known n i) ks noted places body b h is below)

pub not_body : (names : Names) (it : program_node.Node) → ((c : _) (body : _) → it ≡ node.Body c body → ⊥) → body_at names (Some it) ≡ None
not_body names (node.Body c body) h = absurd (h c body refl)
not_body names it h = refl
