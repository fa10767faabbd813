-- How the entries of a class are found by the nodes of their places.
use Rattle.std.proofs.Common.{◌≡◌, ◌≢◌, ℕ, ◌+◌, ◌-◌, ◌<◌, ◌≤◌, ◌⊎◌, inl, inr, List, [], ◌∷◌, ◌++◌, Option, Some, None, MatchOption, length, get_or, refl, sym, ◌∙◌, ap, subst, arith}
use Rattle.std.specs.Option.{option_map}
use Rattle.std.proofs.lemmas.Bool.{cases_lt}
use Rattle.std.proofs.lemmas.List.{get_or_append_left, get_or_at, get_or-map, length-append, length-map}
use Rattle.gr_base.specs.Lists.{IsAmong}
use Rattle.gr_base.proofs.ListLemmas.{IsAmong-append, IsAmong-append_left, IsAmong-append_right}
use Rattle.gr_terms.specs.declared.Sym.{Sym}
use Rattle.gr_terms.specs.declared.SlotId.{SlotId}
use Rattle.gr_terms.specs.declared.Term.{Term}
use Rattle.gr_terms.specs.declared.Term.TheVariants.{Var}
use Rattle.gr_terms.specs.declared.Assertion.{Assertion}
use Rattle.gr_terms.specs.declared.Assertion.TheVariants.{Entry}
use Rattle.gr_store.specs.declared.bindings.Bound.{Bound}
use Rattle.gr_store.specs.declared.kept.Kept.{Kept}
use Rattle.gr_store.specs.Roots.{root_by, slot_root, Joins}
use Rattle.gr_store.specs.Rings.{ring_of, HasRing}
use Rattle.gr_store.specs.Solution.{HasNoEntry, IsSomeEntry, IsFirstEntry}
use Rattle.gr_store.specs.Index.{StandsAt, InClass, IsIndex, IsIndexed, IsEntryNode, HasNoEntryNode, IsLeastNode}
use Rattle.gr_store.specs.State.{assertions_of}

pub length-assertions_of : (kept : List Kept) → length (assertions_of kept) ≡ length kept
length-assertions_of kept = length-map kept (λ e. e.assertion)

pub at-assertions_of : (kept : List Kept) (i : ℕ) (d : Kept) (x : Assertion) → i < length kept → get_or (assertions_of kept) i x ≡ (get_or kept i d).assertion
at-assertions_of kept i d x h = get_or-map (λ e. e.assertion) kept i d x h

-- the node of a kept entry, and what is kept for the node of an entry
module _ (kept : List Kept) (base node : ℕ) (d : Kept) (low : base ≤ node) (high : node < base + length kept) where
  pub node_of_kept : (s : SlotId) (attr : Sym) (a : Term) → (get_or kept (node - base) d).assertion ≡ Entry s attr a → IsEntryNode base (assertions_of kept) attr node a
  node_of_kept s attr a is = (
    node - base,
    omega arith,
    (s, (omega (arith, length-assertions_of kept), at-assertions_of kept (node - base) d (Entry s attr a) (omega arith) ∙ is)),
  )

  pub kept_of_node : (attr : Sym) (a : Term) (e : IsEntryNode base (assertions_of kept) attr node a) → (get_or kept (node - base) d).assertion ≡ Entry e.2.0 attr a
  kept_of_node attr a e =
      let place : e.0 ≡ node - base = omega (arith, e.1) in
      sym (at-assertions_of kept (node - base) d (Entry e.2.0 attr a) (omega arith))
      ∙ ap (λ (k : ℕ). get_or (assertions_of kept) k (Entry e.2.0 attr a)) (sym place) ∙ e.2.1.1

  -- so the node of a kept entry is that of no other
  pub one_value : (s : SlotId) (attr : Sym) (a : Term) → (get_or kept (node - base) d).assertion ≡ Entry s attr a
      → (of : Sym) (w : Term) → IsEntryNode base (assertions_of kept) of node w → (attr ≡ of) × (a ≡ w)
  one_value s attr a is of w e =
      let both : Entry s attr a ≡ Entry e.2.0 of w = sym is ∙ kept_of_node of w e in
      (cc, cc)

  -- and where no entry is kept, the node is that of none
  pub no_value : (x : Assertion) → (get_or kept (node - base) d).assertion ≡ x → ((s : SlotId) (attr : Sym) (a : Term) → x ≡ Entry s attr a → ⊥)
      → (of : Sym) (w : Term) → IsEntryNode base (assertions_of kept) of node w → ⊥
  no_value x is other of w e = other e.2.0 of w (sym is ∙ kept_of_node of w e)

stands_old : (net : List Assertion) (x y : Assertion) (place : ℕ) → StandsAt net place y → StandsAt (net ++ x ∷ []) place y
stands_old net x y place h = (omega (arith, h.0, length-append net (x ∷ [])), get_or_append_left net (x ∷ []) y place h.0 ∙ h.1)

stands_new : (net : List Assertion) (x : Assertion) → StandsAt (net ++ x ∷ []) (length net) x
stands_new net x = (omega (arith, length-append net (x ∷ [])), get_or_at net x [] x (length net) refl)

stands_cases : (net : List Assertion) (x y : Assertion) (place : ℕ) → StandsAt (net ++ x ∷ []) place y → StandsAt net place y ⊎ ((place ≡ length net) × (x ≡ y))
stands_cases net x y place h = elim (cases_lt place (length net)) [
  | inl below ↦ inl (below, sym (get_or_append_left net (x ∷ []) y place below) ∙ h.1)
  | inr past ↦
      let here : place ≡ length net = omega (arith, h.0, length-append net (x ∷ [])) in
      inr (here, sym (get_or_at net x [] y place (sym here)) ∙ h.1)
]

-- one more assertion that is no entry
pub IsIndex-skip : (base : ℕ) (net : List Assertion) (x : Assertion) (trail : List Bound) → ((s : SlotId) (attr : Sym) (a : Term) → x ≡ Entry s attr a → ⊥)
    → IsIndex base net trail → IsIndex base (net ++ x ∷ []) trail
IsIndex-skip base net x trail other i = record {
  at_slot = λ place s attr a h. elim (stands_cases net x (Entry s attr a) place h) [
    | inl old ↦ i.at_slot place s attr a old
    | inr new ↦ absurd (other s attr a new.1)
  ];
  alone = λ place none y same. i.alone place (λ s attr a h. none s attr a (stands_old net x (Entry s attr a) place h)) y same;
}

-- two slots joined
pub IsIndex-join : (base : ℕ) (net : List Assertion) (trail trail' : List Bound) (a b : ℕ) → a < base → b < base → Joins (root_by trail) (root_by trail') (Var a) (Var b)
    → IsIndex base net trail → IsIndex base net trail'
IsIndex-join base net trail trail' a b a_in b_in joins i = record {
  at_slot = λ place s attr x h. joins.keeps (Var (base + place)) (Var s.0) (i.at_slot place s attr x h);
  alone = λ place none x same. elim (joins.only (Var x) (Var (base + place)) same) [
    | inl was ↦ i.alone place none x was
    | inr both ↦ elim both.1 [
      | inl of_a ↦ let e : a ≡ base + place = i.alone place none a (sym of_a) in absurd (omega arith)
      | inr of_b ↦ let e : b ≡ base + place = i.alone place none b (sym of_b) in absurd (omega arith)
    ]
  ];
}

-- an entry put, and its node joined with the slot
module _ (base : ℕ) (net : List Assertion) (trail trail' : List Bound) (slot : SlotId) (slot_in : slot.0 < base) (i : IsIndex base net trail) where
  new_alone : (x : ℕ) → root_by trail (Var x) ≡ root_by trail (Var (base + length net)) → x ≡ base + length net
  new_alone = i.alone (length net) (λ s attr a h. omega (arith, h.0))

  module _ (joins : Joins (root_by trail) (root_by trail') (Var slot.0) (Var (base + length net))) where
    pub slots_as_before : (s t : SlotId) → s.0 < base → t.0 < base → slot_root trail' s ≡ slot_root trail' t → slot_root trail s ≡ slot_root trail t
    slots_as_before s t s_in t_in same =
        let at_slot : (z : SlotId) → z.0 < base → (slot_root trail z ≡ slot_root trail slot) ⊎ (slot_root trail z ≡ root_by trail (Var (base + length net))) → slot_root trail z ≡ slot_root trail slot =
        λ z z_in c. elim c [ inl h ↦ h | inr h ↦ let e : z.0 ≡ base + length net = new_alone z.0 h in absurd (omega arith) ] in
        elim (joins.only (Var s.0) (Var t.0) same) [
          | inl was ↦ was
          | inr both ↦ at_slot s s_in both.0 ∙ sym (at_slot t t_in both.1)
        ]

    pub IsIndex-put : (attr : Sym) (value : Term) → IsIndex base (net ++ Entry slot attr value ∷ []) trail'
    IsIndex-put attr value = record {
      at_slot = λ place s of a h. elim (stands_cases net (Entry slot attr value) (Entry s of a) place h) [
        | inl old ↦ joins.keeps (Var (base + place)) (Var s.0) (i.at_slot place s of a old)
        | inr new ↦
            let s_is : slot ≡ s = (let e = new.1 in cc) in
            ap (λ (k : ℕ). root_by trail' (Var (base + k))) new.0 ∙ sym joins.joins ∙ ap (slot_root trail') s_is
      ];
      alone = λ place none x same.
          let none_old : (s : SlotId) (of : Sym) (a : Term) → StandsAt net place (Entry s of a) → ⊥ =
          λ s of a h. none s of a (stands_old net (Entry slot attr value) (Entry s of a) place h) in
          let other : place ≢ length net =
          λ here. none slot attr value (subst (λ (k : ℕ). StandsAt (net ++ Entry slot attr value ∷ []) k (Entry slot attr value)) (sym here) (stands_new net (Entry slot attr value))) in
          elim (joins.only (Var x) (Var (base + place)) same) [
            | inl was ↦ i.alone place none_old x was
            | inr both ↦ elim both.1 [
              | inl of_slot ↦ let e : slot.0 ≡ base + place = i.alone place none_old slot.0 (sym of_slot) in absurd (omega arith)
              | inr of_new ↦ let e : base + length net ≡ base + place = i.alone place none_old (base + length net) (sym of_new) in absurd (other (omega arith))
            ]
          ];
    }

-- what the nodes of a class say of its entries
module _ (base : ℕ) (net : List Assertion) (nodes : ℕ × List Bound) (i : IsIndexed base net nodes) where
  class_told : (root node : ℕ) (attr : Sym) (value : Term) → root_by nodes.1 (Var node) ≡ Var root → (e : IsEntryNode base net attr node value) → InClass nodes.1 root e.2.0
  class_told root node attr value of_root e =
      sym (i.index.at_slot e.0 e.2.0 attr value e.2.1) ∙ ap (λ (k : ℕ). root_by nodes.1 (Var k)) (sym e.1) ∙ of_root

  pub class_entry : (root node : ℕ) (attr : Sym) (value : Term) → root_by nodes.1 (Var node) ≡ Var root → IsEntryNode base net attr node value
      → IsSomeEntry net (InClass nodes.1 root) attr value
  class_entry root node attr value of_root e = record {
    from = e.2.0;
    has = (e.0, e.2.1.0, e.2.1.1);
    told = class_told root node attr value of_root e;
  }

  module _ (root : ℕ) (root_in : root < base) (r : HasRing nodes root) where
    -- a node of the ring is that of a slot or of a place in use
    pub node_in : (x : ℕ) → IsAmong (ring_of nodes.1 root) x → x < base + length net
    node_in x among = elim (cases_lt x (base + length net)) [
      | inl below ↦ below
      | inr past ↦
          let node_is : base + (x - base) ≡ x = omega arith in
          let same : root_by nodes.1 (Var root) ≡ root_by nodes.1 (Var (base + (x - base))) =
          r.is_root ∙ sym (r.only x among).1 ∙ ap (λ (k : ℕ). root_by nodes.1 (Var k)) (sym node_is) in
          let e : root ≡ base + (x - base) = i.index.alone (x - base) (λ s attr a h. omega (arith, h.0)) root same in
          absurd (omega arith)
    ]

    -- the node of an entry of the class is on the ring
    pub entry_member : (place : ℕ) (t : SlotId) (attr : Sym) (w : Term) → StandsAt net place (Entry t attr w) → InClass nodes.1 root t → IsAmong (ring_of nodes.1 root) (base + place)
    entry_member place t attr w h told = elim (r.all (base + place) (i.index.at_slot place t attr w h ∙ told)) [
      | inl same ↦ absurd (omega arith)
      | inr among ↦ among
    ]

    pub none_found : (attr : Sym) → HasNoEntryNode base net attr (ring_of nodes.1 root) → HasNoEntry net (InClass nodes.1 root) attr
    none_found attr none t w c told = none (base + c.0) w (entry_member c.0 t attr w (c.1, c.2) told) (c.0, refl, (t, (c.1, c.2)))

    pub first_found : (attr : Sym) (found : ℕ × Term) → IsLeastNode base net attr (ring_of nodes.1 root) (Some found) → IsFirstEntry net (InClass nodes.1 root) attr found.1
    first_found attr found l =
        record {
          place = l.1.0;
          from = l.1.2.0;
          within = l.1.2.1.0;
          here = l.1.2.1.1;
          told = class_told root found.0 attr found.1 (r.only found.0 l.0).1 l.1;
          before = λ k t w below here told.
              let k_in : k < length net = omega (arith, below, l.1.2.1.0) in
              let least : found.0 ≤ base + k = l.2 (base + k) w (entry_member k t attr w (k_in, here) told) (k, refl, (t, (k_in, here))) in
              omega (arith, least, l.1.1, below);
        }

    pub found_answer : (attr : Sym) (found : Option (ℕ × Term)) → IsLeastNode base net attr (ring_of nodes.1 root) found
        → MatchOption (option_map (λ p. p.1) found) (HasNoEntry net (InClass nodes.1 root) attr) (λ value. IsFirstEntry net (InClass nodes.1 root) attr value)
    found_answer attr None l = none_found attr l
    found_answer attr (Some found) l = first_found attr found l

-- one more node among which the least is looked for
module _ (base : ℕ) (net : List Assertion) (attr : Sym) (seen : List ℕ) (at : ℕ) where
  pub none_more : HasNoEntryNode base net attr seen → ((w : Term) → IsEntryNode base net attr at w → ⊥) → HasNoEntryNode base net attr (seen ++ at ∷ [])
  none_more none other x w among e = elim (IsAmong-append seen (at ∷ []) x among) [
    | inl old ↦ none x w old e
    | inr new ↦ elim new [ inl same ↦ other w (subst (λ (k : ℕ). IsEntryNode base net attr k w) same e) | inr no_more ↦ no_more ]
  ]

  least_more : (found : ℕ × Term) → IsLeastNode base net attr seen (Some found) → found.0 ≤ at ⊎ ((w : Term) → IsEntryNode base net attr at w → ⊥)
      → IsLeastNode base net attr (seen ++ at ∷ []) (Some found)
  least_more found l other = (
    IsAmong-append_left seen (at ∷ []) found.0 l.0,
    l.1,
    λ x w among e. elim (IsAmong-append seen (at ∷ []) x among) [
      | inl old ↦ l.2 x w old e
      | inr new ↦ elim new [
        | inl same ↦ elim other [
          | inl le ↦ omega (arith, same)
          | inr not_e ↦ absurd (not_e w (subst (λ (k : ℕ). IsEntryNode base net attr k w) same e))
        ]
        | inr no_more ↦ absurd no_more
      ]
    ],
  )

  pub least_skip : (found : Option (ℕ × Term)) → ((w : Term) → IsEntryNode base net attr at w → ⊥) → IsLeastNode base net attr seen found → IsLeastNode base net attr (seen ++ at ∷ []) found
  least_skip None other l = none_more l other
  least_skip (Some found) other l = least_more found l (inr other)

  pub least_kept : (found : ℕ × Term) → found.0 ≤ at → IsLeastNode base net attr seen (Some found) → IsLeastNode base net attr (seen ++ at ∷ []) (Some found)
  least_kept found le l = least_more found l (inl le)

  pub least_new : (value : Term) → IsEntryNode base net attr at value → ((x : ℕ) (w : Term) → IsAmong seen x → IsEntryNode base net attr x w → at ≤ x)
      → IsLeastNode base net attr (seen ++ at ∷ []) (Some (at, value))
  least_new value e lower = (
    IsAmong-append_right seen (at ∷ []) at (inl refl),
    e,
    λ x w among d. elim (IsAmong-append seen (at ∷ []) x among) [
      | inl old ↦ lower x w old d
      | inr new ↦ elim new [ inl same ↦ omega (arith, same) | inr no_more ↦ absurd no_more ]
    ],
  )
