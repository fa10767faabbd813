-- Where an attribute of a bag stands a second time, and what follows of no complaint.
use Rattle.std.proofs.Common.{◌≡◌, ℕ, List, [], ◌∷◌, ◌++◌, Option, Some, None, Bool, true, false, refl, ap, sym, ◌∙◌, subst, append_assoc, append-nil, inl, inr}
use Rattle.std.specs.Prelude.{◌||◌, bytes_eq, if◌then◌else◌}
use Rattle.std.proofs.lemmas.Bool.{true≢false}
use Rattle.std.proofs.lemmas.List.{map-append}
use Rattle.std.proofs.lemmas.Slice.Eq.{bytes_eq-Decides}
use Rattle.gr_base.specs.Lists.{IsAmong, NoneTwice}
use Rattle.gr_base.proofs.ListLemmas.{NoneTwice-push, IsAmong-append, IsAmong-append_left, IsAmong-new_one, cons-not_nil}
use Rattle.gr_base.proofs.Booleans.{or_true}
use Rattle.gr_terms.specs.declared.Sym.{Sym}
use Rattle.gr_terms.proofs.ViewLemmas.{same_sym}
use Rattle.gr_symbols.specs.Numbers.{Names}
use Rattle.gr_symbols.proofs.NumberLemmas.{numbers_tell_texts_apart}
use Rattle.gr_grammar.proofs.Fronts.{or_cases}
use Rattle.gr_reader.specs.Classes.{is_one_of}
use Rattle.gr_reader.specs.declared.complaints.Fault.{Fault}
use Rattle.gr_feats.specs.declared.gathered.Pair.{Pair}
use Rattle.gr_feats.specs.declared.gathered.Gathered.{Gathered}
use Rattle.gr_feats.specs.Complaints.{complaint_if, complaint_at, again_left}
use Rattle.gr_feats.specs.Grammars.{WrittenPair}
use Rattle.gr_feats.specs.Numberings.{Numbering}
use Rattle.gr_feats.specs.Readings.{InTurn, IsPair, attributes, IsAgain, IsBag}
use Rattle.gr_feats.proofs.OneAnswer.{one_again}

-- a text is one of some exactly where the test says so
pub one_of_is : (ts : List (List ℕ)) (t : List ℕ) → is_one_of ts t ≡ true → IsAmong ts t
one_of_is [] t e = absurd (true≢false (sym e))
one_of_is (u ∷ ts) t e = elim (or_cases (bytes_eq u t) (is_one_of ts t) e) [ inl h ↦ inl (sym ((bytes_eq-Decides u t).0 h)) | inr h ↦ inr (one_of_is ts t h) ]

pub is_one : (ts : List (List ℕ)) (t : List ℕ) → IsAmong ts t → is_one_of ts t ≡ true
is_one [] t h = absurd h
is_one (u ∷ ts) t (inl e) = ap (λ z. z || is_one_of ts t) ((bytes_eq-Decides u t).1 (sym e))
is_one (u ∷ ts) t (inr h) = ap (λ z. bytes_eq u t || z) (is_one ts t h) ∙ or_true (bytes_eq u t)

pub no_complaint_if : (b : Bool) (fault : Fault) (left : ℕ) → complaint_if b fault left ≡ [] → b ≡ false
no_complaint_if true fault left e = absurd (cons-not_nil _ [] e)
no_complaint_if false fault left e = refl

pub no_complaint_at : (fault : Fault) (left : Option ℕ) → complaint_at fault left ≡ [] → left ≡ None
no_complaint_at fault None e = refl
no_complaint_at fault (Some n) e = absurd (cons-not_nil _ [] e)

-- where an attribute first stands a second time, by texts and by numbers
module _ (texts : List (List ℕ)) (once : NoneTwice texts) where
  abbrev AreKnown : List Sym → List (List ℕ) → Type 0
  AreKnown done seen = (s : Sym) (t : List ℕ) → Names texts s.0 t → (is_one_of seen t ≡ true → IsAmong done s) × (IsAmong done s → is_one_of seen t ≡ true)

  one_text : {t u : List ℕ} → IsAmong (u ∷ []) t → t ≡ u
  one_text (inl e) = e
  one_text (inr x) = absurd x

  one_sym : {s u : Sym} → IsAmong (u ∷ []) s → s ≡ u
  one_sym (inl e) = e
  one_sym (inr x) = absurd x

  known_more : (done : List Sym) (seen : List (List ℕ)) (a : Sym) (v : List ℕ) → AreKnown done seen → Names texts a.0 v → AreKnown (done ++ a ∷ []) (seen ++ v ∷ [])
  known_more done seen a v known names s t is =
      let tell = numbers_tell_texts_apart texts s.0 a.0 t v once is names in (
        λ h. elim (IsAmong-append seen (v ∷ []) t (one_of_is (seen ++ v ∷ []) t h)) [
          | inl i ↦ IsAmong-append_left done (a ∷ []) s ((known s t is).0 (is_one seen t i))
          | inr i ↦ subst (λ z. IsAmong (done ++ a ∷ []) z) (sym (same_sym s a (tell.1 (one_text i)))) (IsAmong-new_one done a)
        ],
        λ h. is_one (seen ++ v ∷ []) t (elim (IsAmong-append done (a ∷ []) s h) [
          | inl i ↦ IsAmong-append_left seen (v ∷ []) t (one_of_is seen t ((known s t is).1 i))
          | inr i ↦ subst (λ z. IsAmong (seen ++ v ∷ []) z) (sym (tell.0 (ap (λ z. z.0) (one_sym i)))) (IsAmong-new_one seen v)
        ]),
      )

  again_or : (b : Bool) (done : List Pair) (p : Pair) (ps : List Pair) (left : ℕ) (later : Option ℕ)
      → (b ≡ true → IsAgain (done ++ p ∷ ps) (Some left)) → (b ≡ false → IsAgain ((done ++ p ∷ []) ++ ps) later) → IsAgain (done ++ p ∷ ps) (if b then Some left else later)
  again_or true done p ps left later f g = f refl
  again_or false done p ps left later f g = subst (λ z. IsAgain z later) (append_assoc done (p ∷ []) ps) (g refl)

  again_from : (ws : List WrittenPair) (pairs : List Pair) (before after : Numbering) (done : List Pair) (seen : List (List ℕ))
      → AreKnown (attributes done) seen → NoneTwice (attributes done) → InTurn (IsPair texts) before ws pairs after → IsAgain (done ++ pairs) (again_left seen ws)
  again_from [] [] before after done seen known none h = subst (λ z. NoneTwice (attributes z)) (sym (append-nil done)) none
  again_from [] (p ∷ ps) before after done seen known none h = absurd h
  again_from (w ∷ ws) [] before after done seen known none h = absurd h
  again_from (w ∷ ws) (p ∷ ps) before after done seen known none h =
      let more : attributes (done ++ p ∷ []) ≡ attributes done ++ p.attr ∷ [] = map-append (λ (q : Pair). q.attr) done (p ∷ []) in
      again_or (is_one_of seen w.attr) done p ps w.left (again_left (seen ++ w.attr ∷ []) ws)
      (λ e. (done, p, ps, refl, none, (known p.attr w.attr h.1.attr).0 e, sym h.1.left))
      (λ e. again_from ws ps h.0 after (done ++ p ∷ []) (seen ++ w.attr ∷ [])
      (subst (λ z. AreKnown z (seen ++ w.attr ∷ [])) (sym more) (known_more (attributes done) seen p.attr w.attr known h.1.attr))
      (subst NoneTwice (sym more) (NoneTwice-push (attributes done) p.attr none (λ i. true≢false (sym ((known p.attr w.attr h.1.attr).1 i) ∙ e))))
      h.2)

  pub again_is : (before after : Numbering) (ws : List WrittenPair) (g : Gathered) → IsBag texts before ws g after → g.again ≡ again_left [] ws
  again_is before after ws g is =
      one_again is.pairs g.again (again_left [] ws) is.gathers.again
      (again_from ws is.pairs before after [] [] (λ s t names. (λ e. absurd (true≢false (sym e)), λ i. absurd i)) tt is.read)
