-- What the parts of an entry are while it is read, by a table of texts.
use Rattle.std.specs.Prelude.{◌≡◌, ℕ, ◌<◌, ◌↔◌, List, true}
use Rattle.std.specs.List.{AllZip}
use Rattle.gr_base.specs.Lists.{Each, IsAmong}
use Rattle.gr_reader.specs.Classes.{is_one_of}
use Rattle.gr_terms.specs.declared.Sym.{Sym}
use Rattle.gr_symbols.specs.Numbers.{Names}
use Rattle.gr_feats.specs.Numberings.{Numbering, none_met}
use Rattle.gr_feats.specs.Readings.{IsBag, AreLiterals}
use Rattle.lx_lexicon.specs.declared.found.Named.{Named}
use Rattle.lx_lexicon.specs.declared.found.Coanchor.{Coanchor}
use Rattle.lx_lexicon.specs.declared.found.Head.{Head}
use Rattle.lx_lexicon.specs.declared.found.Body.{Body}
use Rattle.lx_lexicon.specs.declared.found.Found.{Found}
use Rattle.lx_lexicon.specs.Complaints.{names_of}
use Rattle.lx_lexicon.specs.Grammars.{WrittenName, WrittenCoanchor, WrittenHead, WrittenBody, WrittenEntry}

-- a name is the number of its text, with its place
pub record IsNamed (texts : List (List ℕ)) (w : WrittenName) (x : Named) : Type 0 where
  pub name : Names texts x.name.0 w.text
  pub left : x.left ≡ w.left

pub record IsCoanchor (texts : List (List ℕ)) (w : WrittenCoanchor) (x : Coanchor) : Type 0 where
  pub name : IsNamed texts w.name x.name
  pub lemma : IsNamed texts w.lemma x.lemma

abbrev pub AreCoanchors : List (List ℕ) → List WrittenCoanchor → List Coanchor → Type 0
AreCoanchors texts ws xs = AllZip (IsCoanchor texts) ws xs

pub record IsHead (texts : List (List ℕ)) (w : WrittenHead) (x : Head) : Type 0 where
  pub left : x.left ≡ w.left
  pub lemma : IsNamed texts w.lemma x.lemma
  pub family : Names texts x.family.0 w.family

pub record IsBody (texts : List (List ℕ)) (w : WrittenBody) (x : Body) : Type 0 where
  pub behind_iface : Numbering
  pub behind_anchor : Numbering
  pub behind_all : Numbering
  pub iface : IsBag texts none_met w.iface x.iface behind_iface
  pub anchor : IsBag texts behind_iface w.anchor x.anchor behind_anchor
  pub coanchors : AreCoanchors texts w.coanchors x.coanchors
  pub literals : AreLiterals texts behind_anchor w.literals x.sem behind_all

pub record IsFound (texts : List (List ℕ)) (w : WrittenEntry) (x : Found) : Type 0 where
  pub head : IsHead texts w.head x.head
  pub body : IsBody texts w.body x.body

-- the lemmas have numbers below this one
abbrev pub HasLemmas : ℕ → List Coanchor → Type 0
HasLemmas given xs = Each (λ x. x.lemma.name.0 < given) xs

-- the pair of a co-anchor
abbrev pub co_name_of : Coanchor → Sym × Sym
co_name_of x = (x.name.name, x.lemma.name)

-- just the numbers of the names of these co-anchors were met
abbrev pub AreMet : List (List ℕ) → List WrittenCoanchor → List ℕ → Type 0
AreMet texts before met = (n : ℕ) (t : List ℕ) → Names texts n t → (is_one_of (names_of before) t ≡ true) ↔ IsAmong met n
