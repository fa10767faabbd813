-- What the notes of an entry are.
use Rattle.std.proofs.Common.{◌≡◌, ℕ, suc, List, [], ◌∷◌, ◌++◌, Option, length, refl, ap, sym, ◌∙◌, subst, append_assoc, append-nil}
use Rattle.std.specs.Prelude.{map, nat_lt, ◌<◌}
use Rattle.std.specs.List.{AllZip}
use Rattle.std.proofs.lemmas.List.{map-append}
use Rattle.gr_base.specs.Lists.{NoneTwice}
use Rattle.gr_terms.specs.declared.Sym.{Sym}
use Rattle.gr_symbols.proofs.NumberLemmas.{Names-within}
use Rattle.gr_reader.specs.Complaints.{all_noted}
use Rattle.gr_reader.specs.declared.complaints.Complaint.{Complaint}
use Rattle.gr_reader.specs.declared.complaints.Fault.TheVariants.{Duplicate, EntryLiterals}
use Rattle.gr_reader.proofs.ComplaintLemmas.{noted_append}
use Rattle.gr_feats.specs.Numberings.{Numbering, none_met}
use Rattle.gr_feats.specs.Readings.{InTurn, IsLiteral}
use Rattle.lx_lexicon.specs.Grammars.{WrittenCoanchor, WrittenEntry}
use Rattle.gr_feats.specs.Complaints.{complaint_if, complaint_at, bag_bad}
use Rattle.gr_feats.proofs.ComplaintLemmas.{again_is}
use Rattle.lx_lexicon.specs.Complaints.{lemma_bad, coanchor_bad, coanchors_bad, literals_bad, body_bad, entry_bad, lexicon_bad}
use Rattle.lx_lexicon.specs.Entries.{IsCoName, IsEntry, AreEntries}
use Rattle.lx_lexicon.specs.declared.entry.Entry.{Entry}
use Rattle.lx_lexicon.specs.declared.found.Found.{Found}
use Rattle.lx_lexicon.specs.declared.found.Coanchor.{Coanchor}
use Rattle.lx_lexicon.specs.Reading.{IsCoanchor, AreCoanchors, IsFound, HasLemmas, AreMet, co_name_of}
use Rattle.lx_lexicon.proofs.MetLemmas.{none_met_yet}
use Rattle.lx_lexicon.proofs.Rows.{AllZip-last}

-- rows of one length
pub row_length : {W X : Type 0} (R : Numbering → W → X → Numbering → Type 0) (before : Numbering) (ws : List W) (xs : List X) (after : Numbering) → InTurn R before ws xs after → length xs ≡ length ws
row_length R before [] [] after h = refl
row_length R before [] (x ∷ xs) after h = absurd h
row_length R before (w ∷ ws) [] after h = absurd h
row_length R before (w ∷ ws) (x ∷ xs) after h = ap suc (row_length R h.0 ws xs after h.2)

-- the complaints of co-anchors and of one more
pub coanchors_more : (before ws : List WrittenCoanchor) (w : WrittenCoanchor) → coanchors_bad before (ws ++ w ∷ []) ≡ coanchors_bad before ws ++ coanchor_bad (before ++ ws) w
coanchors_more before [] w = append-nil (coanchor_bad before w) ∙ ap (λ z. coanchor_bad z w) (sym (append-nil before))
coanchors_more before (v ∷ ws) w =
    ap (λ z. coanchor_bad before v ++ z) (coanchors_more (before ++ v ∷ []) ws w)
    ∙ (ap (λ z. coanchor_bad before v ++ (coanchors_bad (before ++ v ∷ []) ws ++ coanchor_bad z w)) (append_assoc before (v ∷ []) ws)
    ∙ sym (append_assoc (coanchor_bad before v) (coanchors_bad (before ++ v ∷ []) ws) (coanchor_bad (before ++ v ∷ ws) w)))

-- one complaint after another
pub noted_then : (a b c : Option Complaint) (xs ys : List Complaint) → b ≡ all_noted a xs → c ≡ all_noted b ys → c ≡ all_noted a (xs ++ ys)
noted_then a b c xs ys e f = f ∙ ap (λ z. all_noted z ys) e ∙ sym (noted_append a xs ys)

-- what a loop over co-anchors has done: the pairs of the first of them, which were met and noted
pub record HasNoted (texts : List (List ℕ)) (old : Option Complaint) (done : List Coanchor) (names : List (Sym × Sym)) (met : List ℕ) (new : Option Complaint) : Type 0 where
  pub names_are : names ≡ map co_name_of done
  pub are_met : (ws : List WrittenCoanchor) → AreCoanchors texts ws done → AreMet texts ws met
  pub noted : (ws : List WrittenCoanchor) → AreCoanchors texts ws done → new ≡ all_noted old (coanchors_bad [] ws)

no_coanchors : (texts : List (List ℕ)) (ws : List WrittenCoanchor) → AreCoanchors texts ws [] → ws ≡ []
no_coanchors texts [] h = refl
no_coanchors texts (w ∷ ws) h = absurd h

pub noted_none : (texts : List (List ℕ)) (old : Option Complaint) (names : List (Sym × Sym)) (met : List ℕ) → names ≡ [] → met ≡ [] → HasNoted texts old [] names met old
noted_none texts old names met e f = record {
  names_are = e;
  are_met = λ ws are. subst (λ z. AreMet texts z met) (sym (no_coanchors texts ws are)) (none_met_yet texts met f);
  noted = λ ws are. subst (λ z. old ≡ all_noted old (coanchors_bad [] z)) (sym (no_coanchors texts ws are)) refl;
}

pub noted_one : (texts : List (List ℕ)) (old : Option Complaint) (done next : List Coanchor) (x : Coanchor) (names names' : List (Sym × Sym)) (met met' : List ℕ) (mid new : Option Complaint)
    → HasNoted texts old done names met mid → next ≡ done ++ x ∷ [] → names' ≡ names ++ co_name_of x ∷ []
    → ((before : List WrittenCoanchor) (w : WrittenCoanchor) → AreMet texts before met → IsCoanchor texts w x → new ≡ all_noted mid (coanchor_bad before w))
    → ((before : List WrittenCoanchor) (w : WrittenCoanchor) → AreMet texts before met → IsCoanchor texts w x → AreMet texts (before ++ w ∷ []) met')
    → HasNoted texts old next names' met' new
noted_one texts old done next x names names' met met' mid new has is pushed notes meets = record {
  names_are = pushed ∙ ap (λ z. z ++ co_name_of x ∷ []) has.names_are ∙ sym (map-append co_name_of done (x ∷ [])) ∙ ap (map co_name_of) (sym is);
  are_met = λ ws are.
      let r = AllZip-last (IsCoanchor texts) ws done x (subst (λ z. AreCoanchors texts ws z) is are) in
      subst (λ z. AreMet texts z met') (sym r.2) (meets r.0 r.1 (has.are_met r.0 r.3) r.4);
  noted = λ ws are.
      let r = AllZip-last (IsCoanchor texts) ws done x (subst (λ z. AreCoanchors texts ws z) is are) in
      noted_then old mid new (coanchors_bad [] r.0) (coanchor_bad r.0 r.1) (has.noted r.0 r.3) (notes r.0 r.1 (has.are_met r.0 r.3) r.4)
      ∙ ap (all_noted old) (sym (ap (coanchors_bad []) r.2 ∙ coanchors_more [] r.0 r.1));
}

co_names_are : (texts : List (List ℕ)) (ws : List WrittenCoanchor) (xs : List Coanchor) → AreCoanchors texts ws xs → AllZip (IsCoName texts) ws (map co_name_of xs)
co_names_are texts [] [] h = tt
co_names_are texts [] (x ∷ xs) h = absurd h
co_names_are texts (w ∷ ws) [] h = absurd h
co_names_are texts (w ∷ ws) (x ∷ xs) h = (record { name = h.0.name.name; lemma = h.0.lemma.name }, co_names_are texts ws xs h.1)

-- the entry of what was found
pub entry_is : (texts : List (List ℕ)) (w : WrittenEntry) (x : Found) (coanchors : List (Sym × Sym)) → IsFound texts w x → coanchors ≡ map co_name_of x.body.coanchors
    → IsEntry texts w (record { lemma = x.head.lemma.name; family = x.head.family; iface = x.body.iface.bag; anchor = x.body.anchor.bag; coanchors = coanchors; sem = x.body.sem })
entry_is texts w x coanchors is e = record {
  lemma = is.head.lemma.name;
  family = is.head.family;
  behind_iface = is.body.behind_iface;
  behind_anchor = is.body.behind_anchor;
  behind_all = is.body.behind_all;
  iface_again = x.body.iface.again;
  anchor_again = x.body.anchor.again;
  iface = is.body.iface;
  anchor = is.body.anchor;
  coanchors = subst (λ z. AllZip (IsCoName texts) w.body.coanchors z) (sym e) (co_names_are texts w.body.coanchors x.body.coanchors is.body.coanchors);
  literals = is.body.literals;
}

-- its complaints, noted one after another
pub entry_noted : (texts : List (List ℕ)) → NoneTwice texts → (w : WrittenEntry) (x : Found) → IsFound texts w x → (old behind_literals behind_lemma behind_iface behind_anchor new : Option Complaint)
    → behind_literals ≡ all_noted old (complaint_if (nat_lt 4 (length x.body.sem)) EntryLiterals x.head.left)
    → behind_lemma ≡ all_noted behind_literals (lemma_bad w.head.lemma)
    → behind_iface ≡ all_noted behind_lemma (complaint_at Duplicate x.body.iface.again)
    → behind_anchor ≡ all_noted behind_iface (complaint_at Duplicate x.body.anchor.again)
    → new ≡ all_noted behind_anchor (coanchors_bad [] w.body.coanchors)
    → new ≡ all_noted old (entry_bad w)
entry_noted texts once w x is old behind_literals behind_lemma behind_iface behind_anchor new literals lemma iface anchor coanchors =
    let count = row_length (IsLiteral texts) is.body.behind_anchor w.body.literals x.body.sem is.body.behind_all is.body.literals in
    let iface_again = again_is texts once none_met is.body.behind_iface w.body.iface x.body.iface is.body.iface in
    let anchor_again = again_is texts once is.body.behind_iface is.body.behind_anchor w.body.anchor x.body.anchor is.body.anchor in
    noted_then old behind_literals new (literals_bad w.head.left w.body.literals) (lemma_bad w.head.lemma ++ body_bad w.body)
    (literals ∙ (λ i. all_noted old (complaint_if (nat_lt 4 (count i)) EntryLiterals (is.head.left i))))
    (noted_then behind_literals behind_lemma new (lemma_bad w.head.lemma) (body_bad w.body) lemma
    (noted_then behind_lemma behind_iface new (bag_bad w.body.iface) (bag_bad w.body.anchor ++ coanchors_bad [] w.body.coanchors) (iface ∙ ap (λ z. all_noted behind_lemma (complaint_at Duplicate z)) iface_again)
    (noted_then behind_iface behind_anchor new (bag_bad w.body.anchor) (coanchors_bad [] w.body.coanchors) (anchor ∙ ap (λ z. all_noted behind_iface (complaint_at Duplicate z)) anchor_again) coanchors)))

-- the names of what was found have numbers of the table
pub lemma_within : (texts : List (List ℕ)) (w : WrittenEntry) (x : Found) → IsFound texts w x → x.head.lemma.name.0 < length texts
lemma_within texts w x is = Names-within texts x.head.lemma.name.0 w.head.lemma.text is.head.lemma.name

lemmas_within : (texts : List (List ℕ)) (ws : List WrittenCoanchor) (xs : List Coanchor) → AreCoanchors texts ws xs → HasLemmas (length texts) xs
lemmas_within texts [] [] h = tt
lemmas_within texts [] (x ∷ xs) h = absurd h
lemmas_within texts (w ∷ ws) [] h = absurd h
lemmas_within texts (w ∷ ws) (x ∷ xs) h = (Names-within texts x.lemma.name.0 w.lemma.text h.0.lemma.name, lemmas_within texts ws xs h.1)

pub coanchors_within : (texts : List (List ℕ)) (w : WrittenEntry) (x : Found) → IsFound texts w x → HasLemmas (length texts) x.body.coanchors
coanchors_within texts w x is = lemmas_within texts w.body.coanchors x.body.coanchors is.body.coanchors

-- the complaints of entries and of one more
pub lexicon_more : (ws : List WrittenEntry) (w : WrittenEntry) → lexicon_bad (ws ++ w ∷ []) ≡ lexicon_bad ws ++ entry_bad w
lexicon_more [] w = append-nil (entry_bad w)
lexicon_more (v ∷ ws) w = ap (λ z. entry_bad v ++ z) (lexicon_more ws w) ∙ sym (append_assoc (entry_bad v) (lexicon_bad ws) (entry_bad w))

-- what a loop over entries has read and noted
abbrev pub AreNoted : Option Complaint → List (List ℕ) → List WrittenEntry → (List Entry × Option Complaint) × Numbering → Type 0
AreNoted old texts ws x = AreEntries texts ws x.0.0 × (x.0.1 ≡ all_noted old (lexicon_bad ws))
