-- The words of the grammar, and their numbers in a table of names as far as they are known.
use Rattle.std.proofs.Common.{◌≡◌, ℕ, List, [], ◌∷◌, Bool, true, false, refl, ap, sym, ◌∙◌, subst, Option, Some, None, length, replicate, zero, suc, ◌<◌}
use Rattle.std.specs.Prelude.{slice_index_or, slice_set, ◌==◌, if◌then◌else◌, bytes_eq, Result, Ok, Err, OnOk}
use Rattle.std.proofs.lemmas.Bool.{eqb-true, eqb-false}
use Rattle.std.proofs.lemmas.List.{get_or-set_same, get_or-set_other}
use Rattle.std.proofs.lemmas.Option.{none-some, same_Some}
use Rattle.gr_base.specs.Lists.{Each}
use Rattle.gr_reader.proofs.Systems.{same_bytes}
use Rattle.gr_symbols.specs.Numbers.{Grows, Names}
use Rattle.gr_symbols.proofs.NumberLemmas.{Names-grows}
use Rattle.gr_terms.specs.declared.Sym.{Sym}
use Rattle.mg_reader.specs.declared.lexeme.Kind.{Kind}
use Rattle.mg_reader.specs.declared.lexeme.Kind.TheVariants as kind
use Rattle.mg_reader.specs.Keywords.{AreKeywords, keyword}
use Rattle.mg_reader.specs.Kinds.{kind_in, kind_number, word_kind, words}

-- each word of the grammar is the one of its kind's number
are_keywords : Each (λ (r : List ℕ × Kind). keyword (kind_number r.1) ≡ r.0) words
are_keywords = (refl, (refl, (refl, (refl, (refl, (refl, (refl, (refl, (refl, (refl, (refl, (refl, (refl, (refl, (refl, (refl, (refl, (refl, (refl, (refl, (refl, (refl, (refl, (refl, (refl, (refl, (refl, (refl, (refl, tt)))))))))))))))))))))))))))))

-- a text whose kind isn't that of other words is the word of its kind's number
text_of_kind : (rows : List (List ℕ × Kind)) → Each (λ (r : List ℕ × Kind). keyword (kind_number r.1) ≡ r.0) rows → (text : List ℕ) → (kind_in rows text ≡ kind.Word → ⊥) → text ≡ keyword (kind_number (kind_in rows text))
text_of_kind [] are text other = absurd (other refl)
text_of_kind (r ∷ rows) are text other = by (bytes_eq text r.0) refl (text_of_kind rows are.1 text)
  where
    by : (b : Bool) → bytes_eq text r.0 ≡ b → ((kind_in rows text ≡ kind.Word → ⊥) → text ≡ keyword (kind_number (kind_in rows text))) → text ≡ keyword (kind_number (if bytes_eq text r.0 then r.1 else kind_in rows text))
    by true e more = rw e (same_bytes text r.0 e ∙ sym are.0)
    by false e more = rw e (more (λ q. other (rw e q)))

pub keyword_is : (k : Kind) (text : List ℕ) → k ≡ word_kind text → (k ≡ kind.Word → ⊥) → keyword (kind_number k) ≡ text
keyword_is k text e other = ap (λ z. keyword (kind_number z)) e ∙ sym (text_of_kind words are_keywords text (λ q. other (e ∙ q)))

-- nothing is known at first
nones : (m n : ℕ) (name : Sym) → slice_index_or (replicate m None) n None ≡ Some name → ⊥
nones zero n name at = none-some name at
nones (suc m) zero name at = none-some name at
nones (suc m) (suc n) name at = nones m n name at

pub none_known : (texts : List (List ℕ)) (m : ℕ) → AreKeywords texts (replicate m None)
none_known texts m = record { known = λ n name at. absurd (nones m n name at) }

-- what is known stays so while the table grows
pub known_still : (old new : List (List ℕ)) (names : List (Option Sym)) → Grows old new → AreKeywords old names → AreKeywords new names
known_still old new names g k = record { known = λ n name at. Names-grows old new name.0 (keyword n) (k.known n name at) g }

-- the name that is known is the word's
pub known_name : (texts : List (List ℕ)) (names : List (Option Sym)) (k : Kind) (text : List ℕ) (n : ℕ) (name : Sym) → AreKeywords texts names → k ≡ word_kind text → (k ≡ kind.Word → ⊥) → n ≡ kind_number k → slice_index_or names n None ≡ Some name → Names texts name.0 text
known_name texts names k text n name known e other i at = subst (λ z. Names texts name.0 z) (keyword_is k text e other) (known.known (kind_number k) name (subst (λ z. slice_index_or names z None ≡ Some name) i at))

pub known_on : {A E : Type 0} (r : Result A E) (old new : List (List ℕ)) (names : List (Option Sym)) → OnOk r (Grows old new) → AreKeywords old names → OnOk r (AreKeywords new names)
known_on (Ok x) old new names g k = known_still old new names g k
known_on (Err e) old new names g k = tt

-- and so is a new one at the number of its kind
pub one_known : (old new : List (List ℕ)) (names : List (Option Sym)) (k : Kind) (text : List ℕ) (i : ℕ) (name : Sym) → AreKeywords old names → k ≡ word_kind text → (k ≡ kind.Word → ⊥) → i ≡ kind_number k → i < length names → Grows old new → Names new name.0 text → AreKeywords new (slice_set names i (Some name))
one_known old new names k text i name known e other is within g named = record { known = λ n found at. by n found at (n == i) refl }
  where
    by : (n : ℕ) (found : Sym) → slice_index_or (slice_set names i (Some name)) n None ≡ Some found → (b : Bool) → (n == i) ≡ b → Names new found.0 (keyword n)
    by n found at true f =
        let same : n ≡ i = eqb-true n i f in
        let it : found ≡ name = same_Some found name (sym at ∙ (ap (λ z. slice_index_or (slice_set names i (Some name)) z None) same ∙ get_or-set_same names i (Some name) None within)) in
        subst (λ z. Names new z.0 (keyword n)) (sym it) (subst (λ z. Names new name.0 (keyword z)) (sym (same ∙ is)) (subst (λ z. Names new name.0 z) (sym (keyword_is k text e other)) named))
    by n found at false f =
        Names-grows old new found.0 (keyword n) (known.known n found (sym (get_or-set_other names i n (Some name) None (λ q. eqb-false n i f q)) ∙ at)) g
