-- What is wrong with a lexicon that can be read, in the order of its text.
use Rattle.std.specs.Prelude.{ℕ, List, [], ◌∷◌, ◌++◌, map, length, Bool, true, false, nat_lt}
use Rattle.gr_base.specs.Lists.{gathered}
use Rattle.gr_reader.specs.Classes.{is_one_of}
use Rattle.gr_reader.specs.declared.complaints.Complaint.{Complaint}
use Rattle.gr_reader.specs.declared.complaints.Fault.TheVariants.{Duplicate, EmptyWord, EntryLiterals}
use Rattle.gr_feats.specs.Complaints.{complaint_if, bag_bad}
use Rattle.gr_feats.specs.Grammars.{WrittenLiteral}
use Rattle.lx_lexicon.specs.Grammars.{WrittenName, WrittenCoanchor, WrittenBody, WrittenEntry}

abbrev pub is_empty : List ℕ → Bool
is_empty [] = true
is_empty (b ∷ bs) = false

-- a lemma is complained of where it is empty
abbrev pub lemma_bad : WrittenName → List Complaint
lemma_bad n = complaint_if (is_empty n.text) EmptyWord n.left

-- the names of co-anchors
abbrev pub names_of : List WrittenCoanchor → List (List ℕ)
names_of cs = map (λ c. c.name.text) cs

-- a co-anchor behind others is complained of where one of these has its name, and where its lemma is empty
abbrev pub coanchor_bad : List WrittenCoanchor → WrittenCoanchor → List Complaint
coanchor_bad before c = complaint_if (is_one_of (names_of before) c.name.text) Duplicate c.name.left ++ lemma_bad c.lemma

abbrev pub coanchors_bad : List WrittenCoanchor → List WrittenCoanchor → List Complaint
coanchors_bad before [] = []
coanchors_bad before (c ∷ cs) = coanchor_bad before c ++ coanchors_bad (before ++ c ∷ []) cs

-- an entry is complained of at its word where it has too many literals
abbrev pub literals_bad : ℕ → List WrittenLiteral → List Complaint
literals_bad left literals = complaint_if (nat_lt 4 (length literals)) EntryLiterals left

abbrev pub body_bad : WrittenBody → List Complaint
body_bad b = bag_bad b.iface ++ (bag_bad b.anchor ++ coanchors_bad [] b.coanchors)

abbrev pub entry_bad : WrittenEntry → List Complaint
entry_bad e = literals_bad e.head.left e.body.literals ++ (lemma_bad e.head.lemma ++ body_bad e.body)

abbrev pub lexicon_bad : List WrittenEntry → List Complaint
lexicon_bad es = gathered entry_bad es
