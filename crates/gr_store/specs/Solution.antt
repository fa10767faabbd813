-- A network is solved by a function of terms and one of slots that join just what is linked.
use Rattle.std.specs.Prelude.{◌≡◌, ℕ, ◌<◌, ◌≤◌, List, length, get_or, Contains}
use Rattle.gr_terms.specs.declared.Sym.{Sym}
use Rattle.gr_terms.specs.declared.SlotId.{SlotId}
use Rattle.gr_terms.specs.declared.Term.{Term}
use Rattle.gr_terms.specs.declared.Term.TheVariants.{Const}
use Rattle.gr_terms.specs.declared.Assertion.{Assertion}
use Rattle.gr_terms.specs.declared.Assertion.TheVariants.{Entry, Equate, Link}
use Rattle.gr_terms.specs.Networks.{AreLinkedSlots, AreLinked}
use Rattle.gr_terms.specs.Views.{term_of, network_of}
use Rattle.gr_store.specs.Contents.{rank}

-- two terms, or two slots, that the network links
abbrev pub LinkedTerms : List Assertion → Term → Term → Type 0
LinkedTerms net a b = AreLinked (network_of net) (term_of a) (term_of b)

abbrev pub LinkedSlots : List Assertion → SlotId → SlotId → Type 0
LinkedSlots net s t = AreLinkedSlots (network_of net) s.0 t.0

-- each assertion of the first list is in the second
abbrev pub IsPartOf : List Assertion → List Assertion → Type 0
IsPartOf part whole = (x : Assertion) → Contains part x → Contains whole x

-- f joins no terms, and g none of the slots below the bound, that the network does not link
pub record IsLinked (bound : ℕ) (net : List Assertion) (f : Term → Term) (g : SlotId → Term) : Type 0 where
  pub terms : (a b : Term) → f a ≡ f b → LinkedTerms net a b
  pub slots : (s t : SlotId) → s.0 < bound → t.0 < bound → g s ≡ g t → LinkedSlots net s t

-- f joins the values of one attribute at slots that g joins
abbrev pub ArePooled : List Assertion → (Term → Term) → (SlotId → Term) → Type 0
ArePooled net f g =
    (s t : SlotId) (attr : Sym) (a b : Term) → g s ≡ g t → Contains net (Entry s attr a) → Contains net (Entry t attr b) → f a ≡ f b

-- f joins the values of one attribute at slots of the two kinds told
abbrev pub AreShared : List Assertion → (Term → Term) → (SlotId → Type 0) → (SlotId → Type 0) → Type 0
AreShared net f One Two =
    (s t : SlotId) (attr : Sym) (a b : Term) → One s → Two t → Contains net (Entry s attr a) → Contains net (Entry t attr b) → f a ≡ f b

-- f and g join just what the network links
pub record Solves (bound : ℕ) (net : List Assertion) (f : Term → Term) (g : SlotId → Term) : Type 0 where
  pub equates : (a b : Term) → Contains net (Equate a b) → f a ≡ f b
  pub links : (s t : SlotId) → Contains net (Link s t) → g s ≡ g t
  pub pools : ArePooled net f g
  pub is_linked : IsLinked bound net f g
  pub names : (p : Sym) → f (Const p) ≡ Const p
  pub unnamed : (s : SlotId) (p : Sym) → g s ≡ Const p → ⊥

-- no slot of those told has an entry with the attribute
abbrev pub HasNoEntry : List Assertion → (SlotId → Type 0) → Sym → Type 0
HasNoEntry net Told attr = (t : SlotId) (w : Term) → Contains net (Entry t attr w) → Told t → ⊥

-- the value is that of an entry with the attribute at a slot of those told
pub record IsSomeEntry (net : List Assertion) (Told : SlotId → Type 0) (attr : Sym) (value : Term) : Type 0 where
  pub from : SlotId
  pub has : Contains net (Entry from attr value)
  pub told : Told from

-- the value is that of the first entry with the attribute at a slot of those told
pub record IsFirstEntry (net : List Assertion) (Told : SlotId → Type 0) (attr : Sym) (value : Term) : Type 0 where
  pub place : ℕ
  pub from : SlotId
  pub within : place < length net
  pub here : get_or net place (Entry from attr value) ≡ Entry from attr value
  pub told : Told from
  pub before : (k : ℕ) (t : SlotId) (w : Term) → k < place → get_or net k (Entry t attr w) ≡ Entry t attr w → Told t → ⊥

-- the entries are at the first slots, as many as n, and their values are among the first variables
abbrev pub SlotsBelow : ℕ → List Assertion → Type 0
SlotsBelow n net = (s : SlotId) (attr : Sym) (a : Term) → Contains net (Entry s attr a) → s.0 < n

abbrev pub ValuesBelow : ℕ → List Assertion → Type 0
ValuesBelow n net = (s : SlotId) (attr : Sym) (a : Term) → Contains net (Entry s attr a) → rank a ≤ n
