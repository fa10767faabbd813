-- Words, strings, numbers and pairs are texts of the grammar, and which properties obey.
use Rattle.std.proofs.Common.{◌≡◌, ℕ, zero, suc, ◌<◌, ◌≤◌, ◌^◌, List, [], ◌∷◌, ◌++◌, length, Bool, true, false, refl, ap, sym, ◌∙◌, inl, inr, subst, arith, append_assoc, le-leb}
use Rattle.std.specs.Prelude.{◌==◌, ◌&&◌, ◌||◌, not, codes, map, slice_index, bytes_eq}
use Rattle.std.specs.Fmt.{decimal}
use Rattle.std.specs.Int.{IsInRange}
use Rattle.std.specs.Str.Parse.{AllDigits}
use Rattle.std.proofs.lemmas.Bool.{true≢false, eqb-true, and_from}
use Rattle.std.proofs.lemmas.List.{append_cancel_right}
use Rattle.std.proofs.lemmas.Slice.Eq.{bytes_eq-Decides}
use Rattle.std.proofs.lemmas.Str.Parse.{digit_from_value}
use Rattle.gr_base.specs.Lists.{Each, IsAmong}
use Rattle.gr_base.proofs.ListLemmas.{same_tail, IsAmong-append_left}
use Rattle.gr_text.specs.Decimals.{IsDecimal}
use Rattle.gr_text.specs.Words.{is_word_byte, begins_with_word_byte, is_word_rest, is_word, IsStringByte, quoted}
use Rattle.gr_text.proofs.DecimalLemmas.{IsDecimal-decimal}
use Rattle.gr_grammar.specs.Grammars.{part, Matches, a_token, no_token, both, the_left, the_right, by_part, Runs, took, run_left, run_right, tree_of, is_next, goes}
use Rattle.gr_grammar.proofs.Fronts.{and_left, and_right, or_cases}
use Rattle.gr_grammar.proofs.Runs.{run_of}
use Rattle.tg_syntax.specs.declared.class.Class.TheVariants.{Digit}
use Rattle.tg_syntax.specs.Bytes.{test, is_string_byte}
use Rattle.tg_syntax.specs.Families.{word_part, string_part}
use Rattle.tg_syntax.specs.Names.{word_rest, word, string_rest, string, digits, number, variable, term, pair, bag}
use Rattle.tg_syntax.specs.Trees.{behind_handle, first_item}
use Rattle.tg_syntax.specs.Files.{system}
use Rattle.tg_syntax.specs.Breaks.{HasName, whole, HasReserved, HasNoMark, Obeys, reserved, marks, written_marks}
use Rattle.tg_syntax.proofs.FileSystem.{is_system, parts_word, parts_string}
use Rattle.tg_syntax.proofs.Keyed.{item_run}
use Rattle.tg_syntax.proofs.NameLemmas.{one_name, obeys}
use Rattle.tg_syntax.proofs.OneAnswer.{mark_run}

-- ---- words

word_inside : (n : ℕ) {ts rest : List ℕ} → Matches system (word_rest n) ts rest → Matches system (part (word_part n)) ts rest
word_inside n {ts} {rest} m = by_part {n = word_part n} (subst (λ g. Matches system g ts rest) (sym (parts_word n)) m)

-- the rest of a word begins with a word byte, or with a dash and one
data Goes (b : ℕ) (bs : List ℕ) : Type 0 where
  by_byte : is_word_byte b ≡ true → is_word_rest bs ≡ true → Goes b bs
  by_dash : (c : ℕ) (cs : List ℕ) → bs ≡ c ∷ cs → (b == 45) ≡ true → is_word_byte c ≡ true → is_word_rest cs ≡ true → Goes b bs

goes_on : (b : ℕ) (bs : List ℕ) → is_word_rest (b ∷ bs) ≡ true → Goes b bs
goes_on b bs w =
    let there = and_left (is_word_byte b || ((b == 45) && begins_with_word_byte bs)) (is_word_rest bs) w in
    let more = and_right (is_word_byte b || ((b == 45) && begins_with_word_byte bs)) (is_word_rest bs) w in
    elim (or_cases (is_word_byte b) ((b == 45) && begins_with_word_byte bs) there) [
      | inl x ↦ by_byte x more
      | inr y ↦ behind bs (and_left (b == 45) (begins_with_word_byte bs) y) (and_right (b == 45) (begins_with_word_byte bs) y) more
    ]
  where
    behind : (bs : List ℕ) → (b == 45) ≡ true → begins_with_word_byte bs ≡ true → is_word_rest bs ≡ true → Goes b bs
    behind [] d f m = absurd (true≢false (sym f))
    behind (c ∷ cs) d f m = by_dash c cs refl d f (and_right (is_word_byte c || ((c == 45) && begins_with_word_byte cs)) (is_word_rest cs) m)

word_goes : (n : ℕ) (bs rest : List ℕ) → length bs ≤ n → is_word_rest bs ≡ true → Matches system (word_rest n) (bs ++ rest) rest
word_goes zero [] rest l w = no_token
word_goes (suc zero) [] rest l w = the_right no_token
word_goes (suc (suc n)) [] rest l w = the_right (the_right no_token)
word_goes zero (b ∷ bs) rest l w = absurd (omega arith)
word_goes (suc zero) (b ∷ bs) rest l w = elim (goes_on b bs w) [
  | by_byte h m ↦ the_left (both (a_token h) (word_inside 0 (word_goes zero bs rest (omega arith) m)))
  | by_dash c cs e d h m ↦ absurd (let k = ap length e in omega arith)
]
word_goes (suc (suc n)) (b ∷ bs) rest l w = elim (goes_on b bs w) [
  | by_byte h m ↦ the_left (both (a_token h) (word_inside (suc n) (word_goes (suc n) bs rest (omega arith) m)))
  | by_dash c cs e d h m ↦
      subst (λ z. Matches system (word_rest (suc (suc n))) (b ∷ (z ++ rest)) rest) (sym e)
      (the_right (the_left (both (a_token d) (both (a_token h) (word_inside n (word_goes n cs rest (let k = ap length e in omega arith) m))))))
]

pub word_text : (t rest : List ℕ) → is_word t ≡ true → length t ≤ 255 → Matches system word (t ++ rest) rest
word_text [] rest w l = absurd (true≢false (sym w))
word_text (b ∷ bs) rest w l =
    both (a_token (and_left (is_word_byte b) (is_word_rest (b ∷ bs)) w))
    (word_inside 254 (word_goes 254 bs rest (omega arith) (and_right (is_word_byte b || ((b == 45) && begins_with_word_byte bs)) (is_word_rest bs) (and_right (is_word_byte b) (is_word_rest (b ∷ bs)) w))))

-- ---- strings

string_inside : (n : ℕ) {ts rest : List ℕ} → Matches system (string_rest n) ts rest → Matches system (part (string_part n)) ts rest
string_inside n {ts} {rest} m = by_part {n = string_part n} (subst (λ g. Matches system g ts rest) (sym (parts_string n)) m)

differs : (a b : ℕ) → (a ≡ b → ⊥) → not (a == b) ≡ true
differs a b n = by (a == b) refl
  where
    by : (v : Bool) → (a == b) ≡ v → not (a == b) ≡ true
    by true e = absurd (n (eqb-true a b e))
    by false e = ap not e

string_byte : (b : ℕ) → IsStringByte b → is_string_byte b ≡ true
string_byte b h = and_from _ _ (le-leb 32 b h.0) (and_from _ _ (differs b 34 h.1) (and_from _ _ (differs b 92 h.2) (differs b 127 h.3)))

string_goes : (n : ℕ) (bs rest : List ℕ) → length bs ≤ n → Each IsStringByte bs → Matches system (string_rest n) (bs ++ rest) rest
string_goes zero [] rest l h = no_token
string_goes (suc n) [] rest l h = the_right no_token
string_goes zero (b ∷ bs) rest l h = absurd (omega arith)
string_goes (suc n) (b ∷ bs) rest l h = the_left (both (a_token (string_byte b h.0)) (string_inside n (string_goes n bs rest (omega arith) h.1)))

pub string_text : (t rest : List ℕ) → Each IsStringByte t → length t ≤ 255 → Matches system string (quoted t ++ rest) rest
string_text t rest h l =
    subst (λ z. Matches system string z rest) (sym (ap (λ z. 34 ∷ z) (append_assoc t (34 ∷ []) rest)))
    (both (a_token refl) (both (string_inside 255 (string_goes 255 t (34 ∷ rest) l h)) (a_token refl)))

-- ---- numbers

digit : (c : ℕ) → IsInRange 48 57 c → test Digit c ≡ true
digit c range = and_from _ _ (le-leb 48 c (omega (arith, range))) (le-leb c 57 (omega (arith, range)))

digits_text : (n : ℕ) (ds rest : List ℕ) → length ds ≤ n → AllDigits 10 ds → Matches system (digits n) (ds ++ rest) rest
digits_text zero [] rest l d = no_token
digits_text (suc n) [] rest l d = the_right no_token
digits_text zero (c ∷ cs) rest l d = absurd (omega arith)
digits_text (suc n) (c ∷ cs) rest l d = the_left (both (a_token (digit c (digit_from_value c d.0))) (digits_text n cs rest (omega arith) d.1))

long_text : (t rest : List ℕ) → AllDigits 10 t → 0 < length t → length t ≤ 9 → (slice_index t 0 ≡ 48 → ⊥) → Matches system number (t ++ rest) rest
long_text [] rest d o l n = absurd (omega arith)
long_text (c ∷ cs) rest d o l n =
    let range : IsInRange 48 57 c = digit_from_value c d.0 in
    the_right (both (a_token (and_from _ _ (le-leb 49 c (above c range n)) (le-leb c 57 (omega (arith, range))))) (digits_text 8 cs rest (omega arith) d.1))
  where
    above : (c : ℕ) → IsInRange 48 57 c → (c ≡ 48 → ⊥) → 49 ≤ c
    above c range n = omega (arith, range, n)

pub decimal_text : (n : ℕ) (rest : List ℕ) → n < 10 ^ 9 → Matches system number (decimal n ++ rest) rest
decimal_text n rest small = by (decimal n) (IsDecimal-decimal n small)
  where
    by : (t : List ℕ) → IsDecimal t → Matches system number (t ++ rest) rest
    by t (inl e) = subst (λ z. Matches system number (z ++ rest) rest) (sym e) (the_left (a_token refl))
    by t (inr long) = long_text t rest long.numeral.1 long.numeral.0 long.short long.begins

-- ---- pairs

pub pair_text : (a : List ℕ) (v rest : List ℕ) → is_word a ≡ true → length a ≤ 255 → Matches system term v rest → Matches system pair (a ++ 61 ∷ v) rest
pair_text a v rest w l m = both (word_text a (61 ∷ v) w l) (both (a_token refl) m)

-- a name that no word byte and no dash follows is there
name_there : (t rest : List ℕ) → is_word t ≡ true → length t ≤ 255 → is_next system (goes system term) rest ≡ false → HasName (t ++ rest) t rest
name_there t rest w l o = whole t rest refl (run_of system is_system {g = term} refl (the_left (word_text t rest w l)) o)

-- marks are words
mark_fits : (v : List ℕ) → IsAmong marks v → (is_word v ≡ true) × (length v ≤ 255)
mark_fits v (inl e) = subst (λ z. (is_word z ≡ true) × (length z ≤ 255)) (sym e) (refl, omega arith)
mark_fits v (inr (inl e)) = subst (λ z. (is_word z ≡ true) × (length z ≤ 255)) (sym e) (refl, omega arith)
mark_fits v (inr (inr (inl e))) = subst (λ z. (is_word z ≡ true) × (length z ≤ 255)) (sym e) (refl, omega arith)
mark_fits v (inr (inr (inr (inl e)))) = subst (λ z. (is_word z ≡ true) × (length z ≤ 255)) (sym e) (refl, omega arith)
mark_fits v (inr (inr (inr (inr (inl e))))) = subst (λ z. (is_word z ≡ true) × (length z ≤ 255)) (sym e) (refl, omega arith)
mark_fits v (inr (inr (inr (inr (inr (inl e)))))) = subst (λ z. (is_word z ≡ true) × (length z ≤ 255)) (sym e) (refl, omega arith)
mark_fits v (inr (inr (inr (inr (inr (inr e)))))) = absurd e

-- a property with another name than the reserved ones obeys, if its value is one of the six marks where it is named `mark`
pub property_obeys : (a v rest : List ℕ) → is_word a ≡ true → length a ≤ 255 → (IsAmong reserved a → ⊥) → (a ≡ codes "mark" → IsAmong marks v) → is_next system (goes system term) rest ≡ false → Obeys (a ++ 61 ∷ (v ++ rest))
property_obeys a v rest w l free fits o = obeys (a ++ 61 ∷ (v ++ rest)) not_reserved marked
  where
    there : HasName (a ++ 61 ∷ (v ++ rest)) a (61 ∷ (v ++ rest))
    there = name_there a (61 ∷ (v ++ rest)) w l refl

    not_reserved : HasReserved (a ++ 61 ∷ (v ++ rest)) → ⊥
    not_reserved h = free (subst (IsAmong reserved) (one_name h.0 h.1 a (61 ∷ (v ++ rest)) h.2 there).0 h.4)

    marked : (value : List ℕ) → a ++ 61 ∷ (v ++ rest) ≡ codes "mark=" ++ value → HasNoMark value → ⊥
    marked value e n =
        let other : HasName (a ++ 61 ∷ (v ++ rest)) (codes "mark") (61 ∷ value) = whole (codes "mark") (61 ∷ value) e (subst (λ z. Runs system term z (took (61 ∷ value))) (sym e) (mark_run value)) in
        let same = one_name a (61 ∷ (v ++ rest)) (codes "mark") (61 ∷ value) there other in
        let mark : IsAmong marks v = fits same.0 in
        let behind : value ≡ v ++ rest = sym (same_tail 61 61 (v ++ rest) value same.1) in
        let word_v = mark_fits v mark in
        let named : HasName value v rest = subst (λ z. HasName z v rest) (sym behind) (name_there v rest word_v.0 word_v.1 o) in
        n.4 (subst (IsAmong written_marks) (sym (one_name n.0 n.1 v rest n.2 named).0) (IsAmong-append_left marks (map quoted marks) v mark))

-- ---- what stands behind the first space after the nodes

nothing_goes : (ts : List ℕ) → is_next system [] ts ≡ false
nothing_goes [] = refl
nothing_goes (t ∷ ts) = refl

word_runs : (t : List ℕ) (b : ℕ) (ts : List ℕ) → is_word t ≡ true → length t ≤ 255 → is_next system (goes system word) (b ∷ ts) ≡ false → Runs system word (t ++ b ∷ ts) (took (b ∷ ts))
word_runs t b ts w l o = run_of system is_system {g = word} refl (word_text t (b ∷ ts) w l) o

-- an interface
pub item_interface : (ts rest : List ℕ) → Matches system bag (91 ∷ ts) rest → Matches system first_item (codes "iface" ++ 91 ∷ ts) rest
item_interface ts rest m =
    tree_of (item_run (word_runs (codes "iface") 91 ts refl (omega arith) refl)
    (inl (refl, run_left refl (run_of system is_system {g = bag} refl m (nothing_goes rest)))))

-- a literal whose handle is a word, be it `iface`
pub item_word : (h ts rest : List ℕ) → is_word h ≡ true → length h ≤ 255 → Matches system behind_handle (58 ∷ ts) rest → Matches system first_item (h ++ 58 ∷ ts) rest
item_word h ts rest w l m = by (bytes_eq h (codes "iface")) refl
  where
    runs : Runs system behind_handle (58 ∷ ts) (took rest)
    runs = run_of system is_system {g = behind_handle} refl m (nothing_goes rest)

    by : (v : Bool) → bytes_eq h (codes "iface") ≡ v → Matches system first_item (h ++ 58 ∷ ts) rest
    by true e =
        let same : h ≡ codes "iface" = (bytes_eq-Decides h (codes "iface")).0 e in
        tree_of (item_run (word_runs h 58 ts w l refl) (inl (ap (λ z. z ++ 58 ∷ ts) same, run_right refl runs)))
    by false e =
        tree_of (item_run (word_runs h 58 ts w l refl)
        (inr ((λ f. true≢false (sym ((bytes_eq-Decides h (codes "iface")).1 (append_cancel_right h (codes "iface") (58 ∷ ts) f)) ∙ e)), runs)))

pub item_string : (h ts rest : List ℕ) → Each IsStringByte h → length h ≤ 255 → Matches system behind_handle ts rest → Matches system first_item (quoted h ++ ts) rest
item_string h ts rest s l m = the_right (the_right (the_left (both (string_text h ts s l) m)))

pub variable_text : (k : ℕ) (rest : List ℕ) → k < 10 ^ 9 → Matches system variable (63 ∷ (decimal k ++ rest)) rest
variable_text k rest small = both (a_token refl) (decimal_text k rest small)

pub item_variable : (k : ℕ) (ts rest : List ℕ) → k < 10 ^ 9 → Matches system behind_handle ts rest → Matches system first_item (63 ∷ (decimal k ++ ts)) rest
item_variable k ts rest small m = the_right (the_right (the_right (both (variable_text k ts small) m)))
