-- What solves the accepted assertions is carried on over an entry and over a link.
use Rattle.std.proofs.Common.{◌≡◌, ℕ, ◌+◌, ◌<◌, inl, inr, List, [], ◌∷◌, ◌++◌, length, refl, sym, ◌∙◌, ap, subst, Bool, true, false}
use Rattle.std.specs.Bool.{OnTrue, OnFalse}
use Rattle.std.specs.List.{Contains}
use Rattle.std.proofs.lemmas.List.Elements.{Contains-push, Contains-push_cases}
use Rattle.gr_terms.specs.declared.Sym.{Sym}
use Rattle.gr_terms.specs.declared.SlotId.{SlotId}
use Rattle.gr_terms.specs.declared.Term.{Term}
use Rattle.gr_terms.specs.declared.Term.TheVariants.{Const, Var}
use Rattle.gr_terms.specs.declared.Assertion.{Assertion}
use Rattle.gr_terms.specs.declared.Assertion.TheVariants.{Entry, Link}
use Rattle.gr_terms.specs.Networks.{Agrees, next_slot, back_slot, back as back_term}
use Rattle.gr_terms.specs.Views.{network_of}
use Rattle.gr_store.specs.declared.bindings.Bound.{Bound}
use Rattle.gr_store.specs.Roots.{root_by, slot_root, Joins, AreDifferentNames, Extends}
use Rattle.gr_store.specs.Solution.{LinkedTerms, IsPartOf, ArePooled, AreShared, IsLinked, IsSomeEntry, HasNoEntry, Solves, SlotsBelow}
use Rattle.gr_base.specs.Lists.{IsAmong}
use Rattle.gr_base.proofs.ListLemmas.{IsAmong-append}
use Rattle.gr_store.specs.Rings.{ring_of, HasRing}
use Rattle.gr_store.specs.Index.{StandsAt, InClass, IsIndex, IsIndexed, IsEntryNode, SharesNode, LinksClasses, JoinsLinked, KeepsApart}
use Rattle.gr_store.proofs.Members.{by_entries, by_link}
use Rattle.gr_store.proofs.Solutions.{IsLinked-terms, IsLinked-slots, IsLinked-part, grown, refuses, Solves-put, Solves-link, Solves-regroup}
use Rattle.gr_store.proofs.IndexLemmas.{class_entry, entry_member, slots_as_before, IsIndex-skip, IsIndex-join}
use Rattle.gr_store.proofs.Trails.{root_by-name}

-- two slots of one class have equal roots
same_class : (trail : List Bound) (root : ℕ) (s t : SlotId) → InClass trail root s → InClass trail root t → slot_root trail s ≡ slot_root trail t
same_class trail root s t h k = h ∙ sym k

-- what the answer of joining the values of two classes says: one of them is that of a node's entry
module _ (base : ℕ) (net : List Assertion) (nodes : ℕ × List Bound) (i : IsIndexed base net nodes) (old new : List Bound) (node into : ℕ) (attr : Sym) (value other : Term)
    (e : IsEntryNode base net attr node value) (some : IsSomeEntry net (InClass nodes.1 into) attr other)
    (one_value : (of : Sym) (w : Term) → IsEntryNode base net of node w → (attr ≡ of) × (value ≡ w)) where
  node_linked : (whole : List Assertion) (from : ℕ) → IsPartOf net whole → root_by nodes.1 (Var node) ≡ Var from → LinksClasses base whole nodes.1 from into → LinkedTerms whole other value
  node_linked whole from inside of_from links =
      let one = class_entry base net nodes i from node attr value of_from e in
      let l = links one.from some.from (i.below one.from attr value one.has) (i.below some.from attr other some.has) one.told some.told in
      back_term _ _ (by_entries whole one.from some.from attr value other l (inside (Entry one.from attr value) one.has) (inside (Entry some.from attr other) some.has))

  pub is_linked_answer : (r : Bool) (from : ℕ) → root_by nodes.1 (Var node) ≡ Var from
      → OnTrue r (Joins (root_by old) (root_by new) other value) → OnFalse r ((new ≡ old) × AreDifferentNames (root_by old other) (root_by old value))
      → JoinsLinked base net nodes.1 old new from into
  is_linked_answer true from of_from joins clash whole inside links l =
      IsLinked-terms base whole (root_by old) (root_by new) (slot_root nodes.1) other value l (node_linked whole from inside of_from links) joins
  is_linked_answer false from of_from joins clash whole inside links l = rw clash.0 l

  pub shares_answer : (r : Bool) → OnTrue r (Joins (root_by old) (root_by new) other value)
      → OnTrue r (ArePooled net (root_by old) (slot_root nodes.1) → SharesNode base net (root_by new) (InClass nodes.1 into) node)
  shares_answer true joins = λ pools of w t x d told c.
      let same = one_value of w d in
      let c_attr : Contains net (Entry t attr x) = subst (λ (a : Sym). Contains net (Entry t a x)) (sym same.0) c in
      let pooled : root_by old x ≡ root_by old other = pools t some.from attr x other (same_class nodes.1 into t some.from told some.told) c_attr some.has in
      ap (root_by new) (sym same.1) ∙ sym joins.joins ∙ sym (joins.keeps x other pooled)
  shares_answer false joins = tt

  pub clash_answer : (r : Bool) → OnFalse r ((new ≡ old) × AreDifferentNames (root_by old other) (root_by old value))
      → OnFalse r ((from : ℕ) → root_by nodes.1 (Var node) ≡ Var from → KeepsApart base net nodes.1 old from into)
  clash_answer true clash = tt
  clash_answer false clash = λ from of_from whole inside links l agrees.
      refuses base whole (root_by old) (slot_root nodes.1) other value l (root_by-name old) clash.1 (node_linked whole from inside of_from links) agrees

-- the nodes of a ring share the values of its class
pub shares_all : (base : ℕ) (net : List Assertion) (nodes : ℕ × List Bound) (i : IsIndexed base net nodes) (from : ℕ) → from < base → HasRing nodes from → (terms : List Bound) (into : ℕ)
    → ((x : ℕ) → IsAmong (ring_of nodes.1 from) x → SharesNode base net (root_by terms) (InClass nodes.1 into) x) → AreShared net (root_by terms) (InClass nodes.1 from) (InClass nodes.1 into)
shares_all base net nodes i from from_in r terms into shares s t attr a b of_s of_t h k =
    let stands : StandsAt net h.0 (Entry s attr a) = (h.1, h.2) in
    shares (base + h.0) (entry_member base net nodes i from from_in r h.0 s attr a stands of_s) attr a t b (h.0, refl, (s, stands)) of_t k

-- one more node
pub shares_more : (base : ℕ) (net : List Assertion) (nodes first old new : List Bound) (into : ℕ) (seen : List ℕ) (at : ℕ) → Extends first old → Extends old new
    → ((x : ℕ) → IsAmong seen x → SharesNode base net (root_by old) (InClass nodes into) x) → SharesNode base net (root_by new) (InClass nodes into) at
    → (x : ℕ) → IsAmong (seen ++ at ∷ []) x → SharesNode base net (root_by new) (InClass nodes into) x
shares_more base net nodes first old new into seen at e d shares one x among attr value t w node told h =
    elim (IsAmong-append seen (at ∷ []) x among) [
      | inl was ↦ d.keeps value w (shares x was attr value t w node told h)
      | inr now ↦ elim now [ inl same ↦ one attr value t w (subst (λ (k : ℕ). IsEntryNode base net attr k value) same node) told h | inr no_more ↦ absurd no_more ]
    ]

-- of two classes either may be the first
pub LinksClasses-back : (base : ℕ) (net : List Assertion) (trail : List Bound) (one two : ℕ) → LinksClasses base net trail one two → LinksClasses base net trail two one
LinksClasses-back base net trail one two links s t s_in t_in of_s of_t = back_slot _ _ (links t s t_in s_in of_t of_s)

pub shares_back : (net : List Assertion) (old new nodes : List Bound) (one two : ℕ) (r : Bool)
    → OnTrue r (ArePooled net (root_by old) (slot_root nodes) → AreShared net (root_by new) (InClass nodes one) (InClass nodes two))
    → OnTrue r (ArePooled net (root_by old) (slot_root nodes) → AreShared net (root_by new) (InClass nodes two) (InClass nodes one))
shares_back net old new nodes one two true shares = λ pools s t attr a b of_s of_t h k. sym (shares pools t s attr b a of_t of_s k h)
shares_back net old new nodes one two false shares = tt

pub clash_back : (base : ℕ) (net : List Assertion) (old nodes : List Bound) (one two : ℕ) (r : Bool)
    → OnFalse r (KeepsApart base net nodes old one two) → OnFalse r (KeepsApart base net nodes old two one)
clash_back base net old nodes one two true clash = tt
clash_back base net old nodes one two false clash = λ whole inside links. clash whole inside (LinksClasses-back base whole nodes two one links)

-- an entry where none stands
pub put_first : (base : ℕ) (net : List Assertion) (trail : List Bound) (g : SlotId → Term) (slot : SlotId) (attr : Sym) (value root : Term)
    → g slot ≡ root → HasNoEntry net (λ t. g t ≡ root) attr → Solves base net (root_by trail) g → Solves base (net ++ Entry slot attr value ∷ []) (root_by trail) g
put_first base net trail g slot attr value root is none solved =
    Solves-put base net (root_by trail) (root_by trail) g slot attr value solved (λ x y same. same) (λ t w h same. absurd (none t w h (same ∙ is)))
    (IsLinked-part base net (net ++ Entry slot attr value ∷ []) (root_by trail) g (grown net (Entry slot attr value)) solved.is_linked) (root_by-name trail)

-- an entry where one stands
module _ (base : ℕ) (net : List Assertion) (old new : List Bound) (g : SlotId → Term) (slot : SlotId) (attr : Sym) (value other root : Term)
    (is : g slot ≡ root) (below : SlotsBelow base net) (slot_in : slot.0 < base) (some : IsSomeEntry net (λ t. g t ≡ root) attr other) where
  put_linked : Solves base net (root_by old) g → LinkedTerms (net ++ Entry slot attr value ∷ []) other value
  put_linked solved =
      let whole = net ++ Entry slot attr value ∷ [] in
      let l = IsLinked-part base net whole (root_by old) g (grown net (Entry slot attr value)) solved.is_linked in
      by_entries whole some.from slot attr other value (l.slots some.from slot (below some.from attr other some.has) slot_in (some.told ∙ sym is))
      (grown net (Entry slot attr value) (Entry some.from attr other) some.has) (Contains-push net (Entry slot attr value))

  pub put_solved : (r : Bool) → OnTrue r (Joins (root_by old) (root_by new) other value)
      → OnTrue r (Solves base net (root_by old) g → Solves base (net ++ Entry slot attr value ∷ []) (root_by new) g)
  put_solved true joins = λ solved.
      Solves-put base net (root_by old) (root_by new) g slot attr value solved joins.keeps
      (λ t w h same. joins.keeps w other (solved.pools t some.from attr w other (same ∙ is ∙ sym some.told) h some.has) ∙ joins.joins)
      (IsLinked-terms base (net ++ Entry slot attr value ∷ []) (root_by old) (root_by new) g other value
      (IsLinked-part base net (net ++ Entry slot attr value ∷ []) (root_by old) g (grown net (Entry slot attr value)) solved.is_linked) (put_linked solved) joins)
      (root_by-name new)
  put_solved false joins = tt

  pub put_clash : (r : Bool) → OnFalse r ((new ≡ old) × AreDifferentNames (root_by old other) (root_by old value))
      → OnFalse r ((new ≡ old) × (Solves base net (root_by old) g → Agrees (network_of (net ++ Entry slot attr value ∷ [])) → ⊥))
  put_clash true clash = tt
  put_clash false clash = (
    clash.0,
    λ solved agrees.
        refuses base (net ++ Entry slot attr value ∷ []) (root_by old) g other value
        (IsLinked-part base net (net ++ Entry slot attr value ∷ []) (root_by old) g (grown net (Entry slot attr value)) solved.is_linked)
        (root_by-name old) clash.1 (put_linked solved) agrees,
  )

-- joined slots are never a name
unnamed_joined : (old new : List Bound) (a b : Term) → Joins (root_by old) (root_by new) a b → ((p : Sym) → root_by old a ≡ Const p → ⊥) → ((p : Sym) → root_by old b ≡ Const p → ⊥)
    → ((s : SlotId) (p : Sym) → slot_root old s ≡ Const p → ⊥) → (s : SlotId) (p : Sym) → slot_root new s ≡ Const p → ⊥
unnamed_joined old new a b joins a_node b_node unnamed s p is =
    elim (joins.only (Var s.0) (Const p) (is ∙ sym (root_by-name new p))) [
      | inl h ↦ unnamed s p (h ∙ root_by-name old p)
      | inr h ↦ elim h.1 [
        | inl k ↦ a_node p (sym k ∙ root_by-name old p)
        | inr k ↦ b_node p (sym k ∙ root_by-name old p)
      ]
    ]

-- a node of no slot is joined with a slot
pub put_regroup : (base : ℕ) (net : List Assertion) (f : Term → Term) (old new : List Bound) (slot : SlotId) (attr : Sym) (value : Term) → slot.0 < base → SlotsBelow base net
    → IsIndex base net old → Joins (root_by old) (root_by new) (Var slot.0) (Var (base + length net))
    → Solves base (net ++ Entry slot attr value ∷ []) f (slot_root old) → Solves base (net ++ Entry slot attr value ∷ []) f (slot_root new)
put_regroup base net f old new slot attr value slot_in below i joins solved =
    Solves-regroup base (net ++ Entry slot attr value ∷ []) f (slot_root old) (slot_root new) solved
    (λ s of a h. elim (Contains-push_cases net (Entry slot attr value) (Entry s of a) h) [
      | inl was ↦ below s of a was
      | inr now ↦ let s_is : slot ≡ s = cc in subst (λ (z : SlotId). z.0 < base) s_is slot_in
    ])
    (λ s t same. joins.keeps (Var s.0) (Var t.0) same)
    (slots_as_before base net old new slot slot_in i joins)
    (unnamed_joined old new (Var slot.0) (Var (base + length net)) joins (solved.unnamed slot) (solved.unnamed (record { 0 = base + length net })) solved.unnamed)

-- a link of slots of one class
pub link_same : (base : ℕ) (net : List Assertion) (f : Term → Term) (g : SlotId → Term) (a b : SlotId) → g a ≡ g b → Solves base net f g → Solves base (net ++ Link a b ∷ []) f g
link_same base net f g a b same solved =
    Solves-link base net f f g g a b solved (λ x y h. h) (λ s t h. h) same solved.pools
    (IsLinked-part base net (net ++ Link a b ∷ []) f g (grown net (Link a b)) solved.is_linked) solved.names solved.unnamed

pub link_skip : (base : ℕ) (net : List Assertion) (trail : List Bound) (a b : SlotId) → IsIndex base net trail → IsIndex base (net ++ Link a b ∷ []) trail
link_skip base net trail a b i = IsIndex-skip base net (Link a b) trail (λ s attr x same. cc) i

-- a link of slots of two classes
module _ (base : ℕ) (net : List Assertion) (terms terms' old new : List Bound) (a b : SlotId) (from into : ℕ) (a_in : a.0 < base) (b_in : b.0 < base)
    (a_is : slot_root old a ≡ Var from) (b_is : slot_root old b ≡ Var into) where
  link_part : Solves base net (root_by terms) (slot_root old) → IsLinked base (net ++ Link a b ∷ []) (root_by terms) (slot_root old)
  link_part solved = IsLinked-part base net (net ++ Link a b ∷ []) (root_by terms) (slot_root old) (grown net (Link a b)) solved.is_linked

  links_classes : Solves base net (root_by terms) (slot_root old) → LinksClasses base (net ++ Link a b ∷ []) old from into
  links_classes solved s t s_in t_in of_s of_t =
      let l = link_part solved in
      next_slot _ _ _ (l.slots s a s_in a_in (of_s ∙ sym a_is)) (next_slot _ _ _ (by_link (net ++ Link a b ∷ []) a b (Contains-push net (Link a b))) (l.slots b t b_in t_in (b_is ∙ sym of_t)))

  -- the values of one attribute at slots that are joined now
  link_pools : Joins (root_by old) (root_by new) (Var a.0) (Var b.0) → Extends terms terms' → Solves base net (root_by terms) (slot_root old)
      → AreShared net (root_by terms') (InClass old from) (InClass old into) → ArePooled net (root_by terms') (slot_root new)
  link_pools joins extends solved shares s t attr x y same h k =
      let before : (s' t' : SlotId) → slot_root old s ≡ slot_root old s' → slot_root old t ≡ slot_root old t' → slot_root old s' ≡ slot_root old t' → root_by terms' x ≡ root_by terms' y =
      λ s' t' e d same'. extends.keeps x y (solved.pools s t attr x y (e ∙ same' ∙ sym d) h k) in
      elim (joins.only (Var s.0) (Var t.0) same) [
        | inl was ↦ extends.keeps x y (solved.pools s t attr x y was h k)
        | inr both ↦ elim both.0 [
          | inl s_a ↦ elim both.1 [
            | inl t_a ↦ before a a s_a t_a refl
            | inr t_b ↦ shares s t attr x y (s_a ∙ a_is) (t_b ∙ b_is) h k
          ]
          | inr s_b ↦ elim both.1 [
            | inl t_a ↦ sym (shares t s attr y x (t_a ∙ a_is) (s_b ∙ b_is) k h)
            | inr t_b ↦ before b b s_b t_b refl
          ]
        ]
      ]

  pub link_solved : Joins (root_by old) (root_by new) (Var a.0) (Var b.0) → Extends terms terms'
      → JoinsLinked base net old terms terms' from into
      → (ArePooled net (root_by terms) (slot_root old) → AreShared net (root_by terms') (InClass old from) (InClass old into))
      → Solves base net (root_by terms) (slot_root old) → Solves base (net ++ Link a b ∷ []) (root_by terms') (slot_root new)
  link_solved joins extends links shares solved =
      let whole = net ++ Link a b ∷ [] in
      Solves-link base net (root_by terms) (root_by terms') (slot_root old) (slot_root new) a b solved extends.keeps (λ s t same. joins.keeps (Var s.0) (Var t.0) same) joins.joins
      (link_pools joins extends solved (shares solved.pools))
      (IsLinked-slots base whole (root_by terms') (root_by old) (root_by new) a b a_in b_in (links whole (grown net (Link a b)) (links_classes solved) (link_part solved))
      (by_link whole a b (Contains-push net (Link a b))) joins)
      (root_by-name terms')
      (unnamed_joined old new (Var a.0) (Var b.0) joins (solved.unnamed a) (solved.unnamed b) solved.unnamed)

  pub link_clash : KeepsApart base net old terms from into
      → Solves base net (root_by terms) (slot_root old) → Agrees (network_of (net ++ Link a b ∷ [])) → ⊥
  link_clash clash solved agrees = clash (net ++ Link a b ∷ []) (grown net (Link a b)) (links_classes solved) (link_part solved) agrees

pub link_index : (base : ℕ) (net : List Assertion) (old new : List Bound) (a b : SlotId) → a.0 < base → b.0 < base → Joins (root_by old) (root_by new) (Var a.0) (Var b.0)
    → IsIndex base net old → IsIndex base (net ++ Link a b ∷ []) new
link_index base net old new a b a_in b_in joins i = link_skip base net new a b (IsIndex-join base net old new a.0 b.0 a_in b_in joins i)
