-- What every entry that was read keeps.
use Rattle.std.proofs.Common.{◌≡◌, ℕ, ◌≤◌, List, [], ◌∷◌, ◌++◌, map, length, false, Ok, inl, inr, ap, sym, ◌∙◌, subst}
use Rattle.std.specs.Prelude.{nat_lt}
use Rattle.std.specs.List.{AllZip}
use Rattle.std.proofs.lemmas.Bool.{true≢false, lt-ltb, cases_lt, cases_Bool}
use Rattle.std.proofs.lemmas.List.{map-append}
use Rattle.gr_base.specs.Lists.{IsAmong, Each, NoneTwice}
use Rattle.gr_base.proofs.ListLemmas.{IsAmong-append_left, IsAmong-new_one, append-nil_left, append-nil_right}
use Rattle.gr_terms.specs.declared.Sym.{Sym}
use Rattle.gr_symbols.specs.Numbers.{Names}
use Rattle.gr_symbols.proofs.NumberLemmas.{one_text}
use Rattle.gr_reader.specs.Classes.{is_one_of}
use Rattle.gr_reader.specs.declared.complaints.Fault.TheVariants.{Duplicate, EmptyWord, EntryLiterals}
use Rattle.gr_feats.specs.Readings.{IsLiteral}
use Rattle.lx_lexicon.specs.declared.entry.Entry.{Entry}
use Rattle.lx_lexicon.specs.Grammars.{WrittenName, WrittenCoanchor, WrittenEntry, lexicon_of}
use Rattle.lx_lexicon.specs.Complaints.{is_empty, names_of, lemma_bad, coanchor_bad, coanchors_bad, literals_bad, body_bad, entry_bad, lexicon_bad}
use Rattle.lx_lexicon.specs.Entries.{IsCoName, IsEntry, AreEntries, IsNotEmpty, KeepsLimits}
use Rattle.lx_lexicon.specs.Answers.{IsLexiconReading}
use Rattle.gr_feats.specs.Complaints.{complaint_if, bag_bad}
use Rattle.gr_feats.proofs.ComplaintLemmas.{one_of_is, is_one, no_complaint_if}
use Rattle.lx_lexicon.proofs.NoteLemmas.{row_length}

not_above : (n : ℕ) → nat_lt 4 n ≡ false → n ≤ 4
not_above n e = elim (cases_lt 4 n) [ inl l ↦ absurd (true≢false (sym (lt-ltb 4 n l) ∙ e)) | inr l ↦ l ]

module _ (texts : List (List ℕ)) where
  not_empty : (w : WrittenName) (s : Sym) → Names texts s.0 w.text → lemma_bad w ≡ [] → IsNotEmpty texts s
  not_empty w s names e = λ t is empty.
      true≢false (sym (ap is_empty (one_text texts s.0 w.text t names is ∙ empty)) ∙ no_complaint_if (is_empty w.text) EmptyWord w.left e)

  -- the name is none of those before
  abbrev IsApart : List WrittenCoanchor → Sym × Sym → Type 0
  IsApart before c = (t : List ℕ) → Names texts c.0.0 t → is_one_of (names_of before) t ≡ false

  not_one_of : (ts us : List (List ℕ)) (t : List ℕ) → is_one_of (ts ++ us) t ≡ false → is_one_of ts t ≡ false
  not_one_of ts us t e = elim (cases_Bool (is_one_of ts t)) [
    | inl h ↦ absurd (true≢false (sym (is_one (ts ++ us) t (IsAmong-append_left ts us t (one_of_is ts t h))) ∙ e))
    | inr h ↦ h
  ]

  apart_before : (before : List WrittenCoanchor) (w : WrittenCoanchor) (cs : List (Sym × Sym)) → Each (IsApart (before ++ w ∷ [])) cs → Each (IsApart before) cs
  apart_before before w [] h = tt
  apart_before before w (c ∷ cs) h = (
    λ t names. not_one_of (names_of before) (w.name.text ∷ []) t (subst (λ ts. is_one_of ts t ≡ false) (map-append (λ (b : WrittenCoanchor). b.name.text) before (w ∷ [])) (h.0 t names)),
    apart_before before w cs h.1,
  )

  apart_from : (before : List WrittenCoanchor) (w : WrittenCoanchor) (a : Sym) (cs : List (Sym × Sym)) → Names texts a.0 w.name.text → Each (IsApart (before ++ w ∷ [])) cs → IsAmong (map (λ c. c.0) cs) a → ⊥
  apart_from before w a [] names h i = i
  apart_from before w a (c ∷ cs) names h (inl e) =
      true≢false (sym (is_one (names_of (before ++ w ∷ [])) w.name.text
      (subst (λ ts. IsAmong ts w.name.text) (sym (map-append (λ (b : WrittenCoanchor). b.name.text) before (w ∷ []))) (IsAmong-new_one (names_of before) w.name.text)))
      ∙ h.0 w.name.text (subst (λ s. Names texts s.0 w.name.text) e names))
  apart_from before w a (c ∷ cs) names h (inr i) = apart_from before w a cs names h.1 i

  co_names_keep : (before ws : List WrittenCoanchor) (cs : List (Sym × Sym)) → AllZip (IsCoName texts) ws cs → coanchors_bad before ws ≡ []
      → NoneTwice (map (λ c. c.0) cs) × Each (λ c. IsNotEmpty texts c.1) cs × Each (IsApart before) cs
  co_names_keep before [] [] h e = (tt, tt, tt)
  co_names_keep before [] (c ∷ cs) h e = absurd h
  co_names_keep before (w ∷ ws) [] h e = absurd h
  co_names_keep before (w ∷ ws) (c ∷ cs) h e =
      let here = append-nil_left (coanchor_bad before w) (coanchors_bad (before ++ w ∷ []) ws) e in
      let rest = co_names_keep (before ++ w ∷ []) ws cs h.1 (append-nil_right (coanchor_bad before w) (coanchors_bad (before ++ w ∷ []) ws) e) in
      let new = append-nil_left (complaint_if (is_one_of (names_of before) w.name.text) Duplicate w.name.left) (lemma_bad w.lemma) here in
      let full = append-nil_right (complaint_if (is_one_of (names_of before) w.name.text) Duplicate w.name.left) (lemma_bad w.lemma) here in (
        (apart_from before w c.0 cs h.0.name rest.2, rest.0),
        (not_empty w.lemma c.1 h.0.lemma full, rest.1),
        (λ t names. subst (λ z. is_one_of (names_of before) z ≡ false) (one_text texts c.0.0 w.name.text t h.0.name names) (no_complaint_if (is_one_of (names_of before) w.name.text) Duplicate w.name.left new), apart_before before w cs rest.2),
      )

  entry_keeps : (w : WrittenEntry) (e : Entry) → IsEntry texts w e → entry_bad w ≡ [] → KeepsLimits texts e
  entry_keeps w e is none =
      let many = append-nil_left (literals_bad w.head.left w.body.literals) (lemma_bad w.head.lemma ++ body_bad w.body) none in
      let rest = append-nil_right (literals_bad w.head.left w.body.literals) (lemma_bad w.head.lemma ++ body_bad w.body) none in
      let body = append-nil_right (lemma_bad w.head.lemma) (body_bad w.body) rest in
      let co = co_names_keep [] w.body.coanchors e.coanchors is.coanchors (append-nil_right (bag_bad w.body.anchor) (coanchors_bad [] w.body.coanchors) (append-nil_right (bag_bad w.body.iface) (bag_bad w.body.anchor ++ coanchors_bad [] w.body.coanchors) body)) in
      let count = row_length (IsLiteral texts) is.behind_anchor w.body.literals e.sem is.behind_all is.literals in
      record {
        few = subst (λ n. n ≤ 4) (sym count) (not_above (length w.body.literals) (no_complaint_if (nat_lt 4 (length w.body.literals)) EntryLiterals w.head.left many));
        lemma = not_empty w.head.lemma e.lemma is.lemma (append-nil_left (lemma_bad w.head.lemma) (body_bad w.body) rest);
        names = co.0;
        lemmas = co.1;
      }

  entries_keep : (ws : List WrittenEntry) (es : List Entry) → AreEntries texts ws es → lexicon_bad ws ≡ [] → Each (KeepsLimits texts) es
  entries_keep [] [] h none = tt
  entries_keep [] (e ∷ es) h none = absurd h
  entries_keep (w ∷ ws) [] h none = absurd h
  entries_keep (w ∷ ws) (e ∷ es) h none = (entry_keeps w e h.0 (append-nil_left (entry_bad w) (lexicon_bad ws) none), entries_keep ws es h.1 (append-nil_right (entry_bad w) (lexicon_bad ws) none))

  pub lexicon_keeps : (bytes : List ℕ) (es : List Entry) → IsLexiconReading bytes texts (Ok es) → Each (KeepsLimits texts) es
  lexicon_keeps bytes es h = entries_keep (lexicon_of h.right.0.tree) es h.right.2 h.right.1
