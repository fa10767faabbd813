-- Which entry a written one is, by a table of texts.
use Rattle.std.specs.Prelude.{◌≢◌, ℕ, ◌≤◌, List, [], length, map, Option}
use Rattle.std.specs.List.{AllZip}
use Rattle.gr_base.specs.Lists.{Each, NoneTwice}
use Rattle.gr_terms.specs.declared.Sym.{Sym}
use Rattle.gr_symbols.specs.Numbers.{Names}
use Rattle.gr_feats.specs.Numberings.{Numbering, none_met}
use Rattle.gr_feats.specs.Readings.{IsBag, AreLiterals}
use Rattle.lx_lexicon.specs.declared.entry.Entry.{Entry}
use Rattle.lx_lexicon.specs.Grammars.{WrittenCoanchor, WrittenEntry}

-- a co-anchor is the numbers of its name and of its lemma
pub record IsCoName (texts : List (List ℕ)) (w : WrittenCoanchor) (c : Sym × Sym) : Type 0 where
  pub name : Names texts c.0.0 w.name.text
  pub lemma : Names texts c.1.0 w.lemma.text

-- names are the numbers of their texts, and the entry's variables are its own: they are numbered by first meeting, in the interface, then in the anchor's features, then in the literals
pub record IsEntry (texts : List (List ℕ)) (w : WrittenEntry) (e : Entry) : Type 0 where
  pub lemma : Names texts e.lemma.0 w.head.lemma.text
  pub family : Names texts e.family.0 w.head.family
  pub behind_iface : Numbering
  pub behind_anchor : Numbering
  pub behind_all : Numbering
  pub iface_again : Option ℕ
  pub anchor_again : Option ℕ
  pub iface : IsBag texts none_met w.body.iface (record { bag = e.iface; again = iface_again }) behind_iface
  pub anchor : IsBag texts behind_iface w.body.anchor (record { bag = e.anchor; again = anchor_again }) behind_anchor
  pub coanchors : AllZip (IsCoName texts) w.body.coanchors e.coanchors
  pub literals : AreLiterals texts behind_anchor w.body.literals e.sem behind_all

abbrev pub AreEntries : List (List ℕ) → List WrittenEntry → List Entry → Type 0
AreEntries texts ws es = AllZip (IsEntry texts) ws es

-- the name's text isn't empty
abbrev pub IsNotEmpty : List (List ℕ) → Sym → Type 0
IsNotEmpty texts name = (t : List ℕ) → Names texts name.0 t → t ≢ []

-- what every entry of a lexicon keeps: few literals, co-anchors of different names, and no empty lemma
pub record KeepsLimits (texts : List (List ℕ)) (e : Entry) : Type 0 where
  pub few : length e.sem ≤ 4
  pub lemma : IsNotEmpty texts e.lemma
  pub names : NoneTwice (map (λ c. c.0) e.coanchors)
  pub lemmas : Each (λ c. IsNotEmpty texts c.1) e.coanchors
