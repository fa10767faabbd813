-- The complaints and the values of lists that are read in a loop.
use Rattle.std.proofs.Common.{◌≡◌, ℕ, suc, ◌<◌, List, [], ◌∷◌, ◌++◌, Bool, true, false, refl, ap, sym, ◌∙◌, subst, arith, append_assoc, append-nil, Option, Some, None, inl, inr}
use Rattle.std.specs.Prelude.{◌||◌, ◌==◌, map, min, not, if◌then◌else◌}
use Rattle.std.specs.List.{list_any}
use Rattle.indexmap.specs.IndexSet.{insert_key}
use Rattle.std.proofs.lemmas.List.{map-append}
use Rattle.std.proofs.lemmas.Bool.{cases_lt, ne_eqb, eqb-true}
use Rattle.std.proofs.Math.Bool.{or_assoc}
use Rattle.std.proofs.Math.Nat.{min-eq_left, min-eq_right, min-le_left}
use Rattle.gr_reader.proofs.Steps.{pushed}
use Rattle.gr_base.proofs.Booleans.{or_false, not_not}
use Rattle.gr_grammar.specs.Grammars.{star, Matches, both, the_left, the_right, no_more, one_more, tree_of, begins, Rounds, round_items, items}
use Rattle.gr_grammar.proofs.Loops.{ended, ended-items}
use Rattle.gr_terms.specs.declared.Sym.{Sym}
use Rattle.mg_reader.specs.declared.notes.Complaint.{Complaint}
use Rattle.mg_syntax.specs.declared.body.Side.{Side}
use Rattle.mg_syntax.specs.declared.item.Item.{Item}
use Rattle.mg_reader.specs.declared.lexeme.Lexeme.{Lexeme}
use Rattle.mg_reader.specs.declared.found.Keyed.{Keyed}
use Rattle.mg_reader.specs.declared.found.Property.{Property}
use Rattle.mg_reader.specs.declared.found.Properties.{Properties}
use Rattle.mg_reader.specs.declared.found.Feature.{Feature}
use Rattle.mg_reader.specs.declared.found.Features.{Features}
use Rattle.mg_reader.specs.Grammar.{system, more_pair_text, more_property_text, more_feature_text, item_text}
use Rattle.mg_reader.specs.Values.{pair_of, more_pair_of, more_property_of, with_property, with_properties, no_properties, more_feature_of, with_feature, with_features, no_features, item_of}
use Rattle.mg_reader.specs.Complaints.{or_first, among, again, key_bad, FeatureRead, more_feature_read, feature_bad, feature_row_bad, ItemRead, item_read, word_bad, item_bad, too_many, with_class, item_row_bad}
use Rattle.mg_reader.specs.Reading.{Notes, counted}
use Rattle.mg_reader.proofs.Steps.{noted}

abbrev pub number_of : Lexeme → ℕ
number_of k = k.name.0

abbrev pub key_of_pair : Keyed → Lexeme
key_of_pair k = k.key

abbrev pub key_of_property : Property → Lexeme
key_of_property p = p.key

abbrev pub given_of_read : FeatureRead → Feature
given_of_read r = r.given

-- what is known where these keys were read since a list of them was known
pub record KeysRead (s0 s : List ℕ) (c0 c : Option Complaint) (ks : List Lexeme) : Type 0 where
  pub seen : (a : ℕ) → among s a ≡ among (s0 ++ map number_of ks) a
  pub complaint : c ≡ or_first c0 (key_bad s0 ks)

among-append : (xs ys : List ℕ) (a : ℕ) → among (xs ++ ys) a ≡ (among xs a || among ys a)
among-append [] ys a = refl
among-append (x ∷ xs) ys a = ap (λ z. (a == x) || z) (among-append xs ys a) ∙ sym (or_assoc (a == x) (among xs a) (among ys a))

pub among-push : (xs : List ℕ) (x a : ℕ) → among (xs ++ x ∷ []) a ≡ (among xs a || (a == x))
among-push xs x a = among-append xs (x ∷ []) a ∙ ap (λ z. among xs a || z) (or_false (a == x))

key_bad-push : (s : List ℕ) (ks : List Lexeme) (k : Lexeme) → key_bad s (ks ++ k ∷ []) ≡ key_bad s ks ++ again (among (s ++ map number_of ks) k.name.0) k
key_bad-push s [] k = append-nil (again (among s k.name.0) k) ∙ ap (λ z. again (among z k.name.0) k) (sym (append-nil s))
key_bad-push s (x ∷ xs) k =
    ap (λ z. again (among s x.name.0) x ++ z) (key_bad-push (s ++ x.name.0 ∷ []) xs k)
    ∙ (ap (λ z. again (among s x.name.0) x ++ (key_bad (s ++ x.name.0 ∷ []) xs ++ again (among z k.name.0) k)) (append_assoc s (x.name.0 ∷ []) (map number_of xs))
    ∙ sym (append_assoc (again (among s x.name.0) x) (key_bad (s ++ x.name.0 ∷ []) xs) (again (among (s ++ x.name.0 ∷ map number_of xs) k.name.0) k)))

key_bad-same : (s t : List ℕ) (ks : List Lexeme) → ((a : ℕ) → among s a ≡ among t a) → key_bad s ks ≡ key_bad t ks
key_bad-same s t [] h = refl
key_bad-same s t (k ∷ ks) h =
    (λ i. again (h k.name.0 i) k ++ key_bad-same (s ++ k.name.0 ∷ []) (t ++ k.name.0 ∷ []) ks (λ a. among-push s k.name.0 a ∙ (ap (λ z. z || (a == k.name.0)) (h a) ∙ sym (among-push t k.name.0 a))) i)

pub keys_start : (s : List ℕ) (c : Option Complaint) → KeysRead s s c c []
keys_start s c = record { seen = λ a. ap (λ z. among z a) (sym (append-nil s)); complaint = refl }

pub keys_more : (s0 s s' : List ℕ) (c0 c c' : Option Complaint) (ks : List Lexeme) (k : Lexeme) → KeysRead s0 s c0 c ks → Notes s s' c c' k → KeysRead s0 s' c0 c' (ks ++ k ∷ [])
keys_more s0 s s' c0 c c' ks k r n = record {
  seen = λ a. n.seen a ∙ (ap (λ z. z || (a == k.name.0)) (r.seen a) ∙ (sym (among-push (s0 ++ map number_of ks) k.name.0 a) ∙ ap (λ z. among z a) (append_assoc s0 (map number_of ks) (k.name.0 ∷ []) ∙ ap (λ z. s0 ++ z) (sym (map-append number_of ks (k ∷ []))))));
  complaint = noted c0 (key_bad s0 ks) (again (among s k.name.0) k) n.complaint r.complaint ∙ (ap (λ z. or_first c0 (key_bad s0 ks ++ again z k)) (r.seen k.name.0) ∙ ap (or_first c0) (sym (key_bad-push s0 ks k)));
}

keys_from_first : (s s1 : List ℕ) (c0 c1 c : Option Complaint) (ks : List Lexeme) (y : Lexeme) → Notes [] s1 c0 c1 y → KeysRead s1 s c1 c ks → c ≡ or_first c0 (key_bad [] (y ∷ ks))
keys_from_first s s1 c0 c1 c ks y n r =
    r.complaint ∙ ((λ i. or_first (n.complaint i) (key_bad s1 ks)) ∙ ap (or_first c0) (key_bad-same s1 (y.name.0 ∷ []) ks (λ a. n.seen a ∙ sym (or_false (a == y.name.0)))))

pub keys_all : (sc s s1 : List ℕ) (c0 c1 c : Option Complaint) (ks : List Lexeme) (k y : Lexeme) → sc ≡ [] → Notes sc s1 c0 c1 k → k ≡ y → KeysRead s1 s c1 c ks → c ≡ or_first c0 (key_bad [] (y ∷ ks))
keys_all sc s s1 c0 c1 c ks k y e n q r = keys_from_first s s1 c0 c1 c ks y (subst (λ z. Notes [] s1 c0 c1 z) q (subst (λ z. Notes z s1 c0 c1 k) e n)) r

-- pairs
pub pair_keys_more : (xs : List Keyed) {s0 s s' : List ℕ} {c0 c c' : Option Complaint} {k y : Keyed} → KeysRead s0 s c0 c (map key_of_pair xs) → Notes s s' c c' k.key → k ≡ y → KeysRead s0 s' c0 c' (map key_of_pair (xs ++ y ∷ []))
pair_keys_more xs {s0} {s} {s'} {c0} {c} {c'} {k} {y} r n e =
    subst (λ z. KeysRead s0 s' c0 c' z) (sym (map-append key_of_pair xs (y ∷ []))) (keys_more s0 s s' c0 c c' (map key_of_pair xs) y.key r (subst (λ z. Notes s s' c c' z.key) e n))

pub pairs_pushed : (base : List (Sym × Side)) (ks : List Keyed) {bag bag' : List (Sym × Side)} {k y : Keyed} → bag' ≡ bag ++ pair_of k ∷ [] → bag ≡ base ++ map pair_of ks → k ≡ y → bag' ≡ base ++ map pair_of (ks ++ y ∷ [])
pairs_pushed base ks {y} a b e = pushed (map pair_of ks) base a b (ap pair_of e) ∙ ap (λ z. base ++ z) (sym (map-append pair_of ks (y ∷ [])))

pub pairs_value : {ts mid : List Lexeme} {bag base : List (Sym × Side)} {k y : Keyed} (r : Rounds system more_pair_text ts mid) (b : begins system more_pair_text mid ≡ false) →
    base ≡ [] ++ pair_of k ∷ [] → k ≡ y → bag ≡ base ++ map pair_of (round_items (λ ts rest m. more_pair_of m) r) → bag ≡ map pair_of (y ∷ items (λ ts rest m. more_pair_of m) (tree_of (ended r b)))
pairs_value {y} r b e i h = h ∙ ((λ n. e n ++ map pair_of (round_items (λ ts rest m. more_pair_of m) r)) ∙ (λ n. pair_of (i n) ∷ map pair_of (sym (ended-items (λ ts rest m. more_pair_of m) r b) n)))

pub pairs_complaints : {ts mid : List Lexeme} {sc s s1 : List ℕ} {c0 c1 c : Option Complaint} {k y : Keyed} (r : Rounds system more_pair_text ts mid) (b : begins system more_pair_text mid ≡ false) →
    sc ≡ [] → Notes sc s1 c0 c1 k.key → k ≡ y → KeysRead s1 s c1 c (map key_of_pair (round_items (λ ts rest m. more_pair_of m) r)) → c ≡ or_first c0 (key_bad [] (map key_of_pair (y ∷ items (λ ts rest m. more_pair_of m) (tree_of (ended r b)))))
pairs_complaints {sc} {s} {s1} {c0} {c1} {c} {k} {y} r b e n q h =
    keys_all sc s s1 c0 c1 c _ k.key y.key e n (ap key_of_pair q) h ∙ ap (λ z. or_first c0 (key_bad [] (y.key ∷ map key_of_pair z))) (sym (ended-items (λ ts rest m. more_pair_of m) r b))

-- properties
pub property_keys_more : (xs : List Property) {s0 s s' : List ℕ} {c0 c c' : Option Complaint} {k y : Property} → KeysRead s0 s c0 c (map key_of_property xs) → Notes s s' c c' k.key → k ≡ y → KeysRead s0 s' c0 c' (map key_of_property (xs ++ y ∷ []))
property_keys_more xs {s0} {s} {s'} {c0} {c} {c'} {k} {y} r n e =
    subst (λ z. KeysRead s0 s' c0 c' z) (sym (map-append key_of_property xs (y ∷ []))) (keys_more s0 s s' c0 c c' (map key_of_property xs) y.key r (subst (λ z. Notes s s' c c' z.key) e n))

with_properties-push : (p : Properties) (xs : List Property) (y : Property) → with_properties p (xs ++ y ∷ []) ≡ with_property (with_properties p xs) y
with_properties-push p [] y = refl
with_properties-push p (x ∷ xs) y = with_properties-push (with_property p x) xs y

pub properties_pushed : (p0 : Properties) (xs : List Property) {p p' : Properties} {k y : Property} → p' ≡ with_property p k → p ≡ with_properties p0 xs → k ≡ y → p' ≡ with_properties p0 (xs ++ y ∷ [])
properties_pushed p0 xs {y} a b e = a ∙ ((λ n. with_property (b n) (e n)) ∙ sym (with_properties-push p0 xs y))

pub properties_value : {ts mid : List Lexeme} {p p1 : Properties} {k y : Property} (r : Rounds system more_property_text ts mid) (b : begins system more_property_text mid ≡ false) →
    p1 ≡ with_property no_properties k → k ≡ y → p ≡ with_properties p1 (round_items (λ ts rest m. more_property_of m) r) → p ≡ with_properties no_properties (y ∷ items (λ ts rest m. more_property_of m) (tree_of (ended r b)))
properties_value r b e i h = h ∙ (λ n. with_properties ((e ∙ ap (λ z. with_property no_properties z) i) n) (sym (ended-items (λ ts rest m. more_property_of m) r b) n))

pub properties_complaints : {ts mid : List Lexeme} {sc s s1 : List ℕ} {c0 c1 c : Option Complaint} {k y : Property} (r : Rounds system more_property_text ts mid) (b : begins system more_property_text mid ≡ false) →
    sc ≡ [] → Notes sc s1 c0 c1 k.key → k ≡ y → KeysRead s1 s c1 c (map key_of_property (round_items (λ ts rest m. more_property_of m) r)) →
    c ≡ or_first c0 (key_bad [] (map key_of_property (y ∷ items (λ ts rest m. more_property_of m) (tree_of (ended r b)))))
properties_complaints {sc} {s} {s1} {c0} {c1} {c} {k} {y} r b e n q h =
    keys_all sc s s1 c0 c1 c _ k.key y.key e n (ap key_of_property q) h ∙ ap (λ z. or_first c0 (key_bad [] (y.key ∷ map key_of_property z))) (sym (ended-items (λ ts rest m. more_property_of m) r b))

-- features
pub given_same : {ts rest : List Lexeme} (m : Matches system more_feature_text ts rest) → more_feature_of m ≡ (more_feature_read m).given
given_same (both s f) = refl

pub given_items : {ts rest : List Lexeme} (m : Matches system (star more_feature_text) ts rest) → map given_of_read (items (λ ts rest m. more_feature_read m) m) ≡ items (λ ts rest m. more_feature_of m) m
given_items no_more = refl
given_items (one_more (both (both s f) m)) = ap (λ z. more_feature_of (both s f) ∷ z) (given_items m)

with_features-push : (f : Features) (xs : List Feature) (y : Feature) → with_features f (xs ++ y ∷ []) ≡ with_feature (with_features f xs) y
with_features-push f [] y = refl
with_features-push f (x ∷ xs) y = with_features-push (with_feature f x) xs y

pub features_pushed : (f0 : Features) (xs : List FeatureRead) (y : FeatureRead) {f f' : Features} {g : Feature} → f' ≡ with_feature f g → f ≡ with_features f0 (map given_of_read xs) → g ≡ y.given → f' ≡ with_features f0 (map given_of_read (xs ++ y ∷ []))
features_pushed f0 xs y a b e = a ∙ ((λ n. with_feature (b n) (e n)) ∙ (sym (with_features-push f0 (map given_of_read xs) y.given) ∙ ap (λ z. with_features f0 z) (sym (map-append given_of_read xs (y ∷ [])))))

feature_row_bad-push : (f : Features) (xs : List FeatureRead) (y : FeatureRead) → feature_row_bad f (xs ++ y ∷ []) ≡ feature_row_bad f xs ++ feature_bad (with_features f (map given_of_read xs)) y
feature_row_bad-push f [] y = append-nil (feature_bad f y)
feature_row_bad-push f (x ∷ xs) y =
    ap (λ z. feature_bad f x ++ z) (feature_row_bad-push (with_feature f x.given) xs y)
    ∙ sym (append_assoc (feature_bad f x) (feature_row_bad (with_feature f x.given) xs) (feature_bad (with_features (with_feature f x.given) (map given_of_read xs)) y))

pub feature_notes_pushed : (f0 : Features) (c0 : Option Complaint) (xs : List FeatureRead) (y : FeatureRead) {f : Features} {c c' : Option Complaint} → c' ≡ or_first c (feature_bad f y) → c ≡ or_first c0 (feature_row_bad f0 xs) → f ≡ with_features f0 (map given_of_read xs) →
    c' ≡ or_first c0 (feature_row_bad f0 (xs ++ y ∷ []))
feature_notes_pushed f0 c0 xs y {f} h i e =
    noted c0 (feature_row_bad f0 xs) (feature_bad f y) h i ∙ (ap (λ z. or_first c0 (feature_row_bad f0 xs ++ feature_bad z y)) e ∙ ap (or_first c0) (sym (feature_row_bad-push f0 xs y)))

pub features_value : {ts mid : List Lexeme} {f f1 : Features} {g y : Feature} (r : Rounds system more_feature_text ts mid) (b : begins system more_feature_text mid ≡ false) →
    f1 ≡ with_feature no_features g → g ≡ y → f ≡ with_features f1 (map given_of_read (round_items (λ ts rest m. more_feature_read m) r)) → f ≡ with_features no_features (y ∷ items (λ ts rest m. more_feature_of m) (tree_of (ended r b)))
features_value r b e i h =
    h ∙ (λ n. with_features ((e ∙ ap (λ z. with_feature no_features z) i) n) ((ap (λ z. map given_of_read z) (sym (ended-items (λ ts rest m. more_feature_read m) r b)) ∙ given_items (tree_of (ended r b))) n))

pub features_complaints : {ts mid : List Lexeme} {f1 : Features} {g : Feature} (y : FeatureRead) (c0 : Option Complaint) {c1 c : Option Complaint} (r : Rounds system more_feature_text ts mid) (b : begins system more_feature_text mid ≡ false) →
    f1 ≡ with_feature no_features g → g ≡ y.given → c1 ≡ or_first c0 (feature_bad no_features y) → c ≡ or_first c1 (feature_row_bad f1 (round_items (λ ts rest m. more_feature_read m) r)) →
    c ≡ or_first c0 (feature_row_bad no_features (y ∷ items (λ ts rest m. more_feature_read m) (tree_of (ended r b))))
features_complaints {f1} y c0 r b e i h k =
    noted c0 (feature_bad no_features y) (feature_row_bad f1 (round_items (λ ts rest m. more_feature_read m) r)) k h
    ∙ (λ n. or_first c0 (feature_bad no_features y ++ feature_row_bad ((e ∙ ap (λ z. with_feature no_features z) i) n) (sym (ended-items (λ ts rest m. more_feature_read m) r b) n)))

-- items
abbrev pub classes_of : ℕ → List ItemRead → ℕ
classes_of n [] = n
classes_of n (r ∷ rs) = classes_of (with_class n r.word) rs

classes_of-push : (n : ℕ) (xs : List ItemRead) (y : ItemRead) → classes_of n (xs ++ y ∷ []) ≡ with_class (classes_of n xs) y.word
classes_of-push n [] y = refl
classes_of-push n (x ∷ xs) y = classes_of-push (with_class n x.word) xs y

capped : (n : ℕ) → min 4097 (suc (min 4097 n)) ≡ min 4097 (suc n)
capped n = elim (cases_lt n 4097) [
  | inl x ↦ ap (λ z. min 4097 (suc z)) (min-eq_right (omega arith))
  | inr y ↦ ap (λ z. min 4097 (suc z)) (min-eq_left y) ∙ sym (min-eq_left (omega arith))
]

pub counted_with : (n : ℕ) {ts rest : List Lexeme} (m : Matches system item_text ts rest) → counted (min 4097 n) (item_of m) ≡ min 4097 (with_class n (item_read m).word)
counted_with n (the_left m) = capped n
counted_with n (the_right (the_left m)) = refl
counted_with n (the_right (the_right m)) = refl

pub counts_pushed : (xs : List ItemRead) {ts rest : List Lexeme} (m : Matches system item_text ts rest) {count count' : ℕ} {i : Item} → count' ≡ counted count i → count ≡ min 4097 (classes_of 0 xs) → i ≡ item_of m → count' ≡ min 4097 (classes_of 0 (xs ++ item_read m ∷ []))
counts_pushed xs m a b e = a ∙ ((λ n. counted (b n) (e n)) ∙ (counted_with (classes_of 0 xs) m ∙ ap (λ z. min 4097 z) (sym (classes_of-push 0 xs (item_read m)))))

pub counts_fit : (n : ℕ) {count : ℕ} → count ≡ min 4097 n → count < 4098
counts_fit n e = let x = min-le_left 4097 n in omega arith

capped_test : (n : ℕ) → (min 4097 n == 4096) ≡ (n == 4096)
capped_test n = elim (cases_lt n 4097) [
  | inl x ↦ ap (λ z. z == 4096) (min-eq_right (omega arith))
  | inr y ↦ ap (λ z. z == 4096) (min-eq_left y) ∙ sym (ne_eqb n 4096 (λ e. omega arith))
]

word_bad-capped : (n : ℕ) (w : Option Lexeme) → word_bad (min 4097 n) w ≡ word_bad n w
word_bad-capped n None = refl
word_bad-capped n (Some w) = ap (λ z. too_many z w) (capped_test n)

item_row_bad-push : (n : ℕ) (xs : List ItemRead) (y : ItemRead) → item_row_bad n (xs ++ y ∷ []) ≡ item_row_bad n xs ++ item_bad (classes_of n xs) y
item_row_bad-push n [] y = append-nil (item_bad n y)
item_row_bad-push n (x ∷ xs) y =
    ap (λ z. item_bad n x ++ z) (item_row_bad-push (with_class n x.word) xs y) ∙ sym (append_assoc (item_bad n x) (item_row_bad (with_class n x.word) xs) (item_bad (classes_of (with_class n x.word) xs) y))

pub item_notes_pushed : (c0 : Option Complaint) (xs : List ItemRead) (y : ItemRead) {count : ℕ} {c c' : Option Complaint} → c' ≡ or_first c (item_bad count y) → c ≡ or_first c0 (item_row_bad 0 xs) → count ≡ min 4097 (classes_of 0 xs) → c' ≡ or_first c0 (item_row_bad 0 (xs ++ y ∷ []))
item_notes_pushed c0 xs y {count} h i e =
    noted c0 (item_row_bad 0 xs) (item_bad count y) h i
    ∙ (ap (λ z. or_first c0 (item_row_bad 0 xs ++ (z ++ y.inner))) (ap (λ z. word_bad z y.word) e ∙ word_bad-capped (classes_of 0 xs) y.word) ∙ ap (or_first c0) (sym (item_row_bad-push 0 xs y)))

pub items_value : {ts mid : List Lexeme} {row base : List Item} (r : Rounds system item_text ts mid) (b : begins system item_text mid ≡ false) → base ≡ [] → row ≡ base ++ round_items (λ ts rest m. item_of m) r → row ≡ items (λ ts rest m. item_of m) (tree_of (ended r b))
items_value r b e h = h ∙ ((λ n. e n ++ round_items (λ ts rest m. item_of m) r) ∙ sym (ended-items (λ ts rest m. item_of m) r b))

pub items_complaints : (c0 : Option Complaint) {ts mid : List Lexeme} {c : Option Complaint} (r : Rounds system item_text ts mid) (b : begins system item_text mid ≡ false) → c ≡ or_first c0 (item_row_bad 0 (round_items (λ ts rest m. item_read m) r)) →
    c ≡ or_first c0 (item_row_bad 0 (items (λ ts rest m. item_read m) (tree_of (ended r b))))
items_complaints c0 r b h = h ∙ ap (λ z. or_first c0 (item_row_bad 0 z)) (sym (ended-items (λ ts rest m. item_read m) r b))

-- a key was complained of, and then what stands inside
pub key_noted : (c0 : Option Complaint) {c1 : Option Complaint} {known : Bool} {k : Lexeme} (b : Bool) (y : Lexeme) → c1 ≡ or_first c0 (again known k) → known ≡ b → k ≡ y → c1 ≡ or_first c0 (again b y ++ [])
key_noted c0 b y h i e = h ∙ ((λ n. or_first c0 (again (i n) (e n))) ∙ ap (or_first c0) (sym (append-nil (again b y))))

pub key_noted_then : (c0 : Option Complaint) {c1 c2 : Option Complaint} {known : Bool} {k : Lexeme} (b : Bool) (y : Lexeme) (inner : List Complaint) → c2 ≡ or_first c1 inner → c1 ≡ or_first c0 (again known k) → known ≡ b → k ≡ y → c2 ≡ or_first c0 (again b y ++ inner)
key_noted_then c0 b y inner j h i e = noted c0 (again b y) inner j (h ∙ (λ n. or_first c0 (again (i n) (e n))))

-- the keys of a set of numbers
among_any : (ks : List ℕ) (a : ℕ) → list_any (λ b. a == b) ks ≡ among ks a
among_any [] a = refl
among_any (k ∷ ks) a = ap (λ z. (a == k) || z) (among_any ks a)

pub known_in : (ks : List ℕ) (a : ℕ) {new : Bool} → new ≡ not (list_any (λ b. a == b) ks) → not new ≡ among ks a
known_in ks a e = ap not e ∙ (not_not (list_any (λ b. a == b) ks) ∙ among_any ks a)

or_same : (b c : Bool) → (c ≡ true → b ≡ true) → b ≡ (b || c)
or_same true c h = refl
or_same false true h = h refl
or_same false false h = refl

inserted_if : (n : Bool) (ks : List ℕ) (a x : ℕ) → list_any (λ b. a == b) ks ≡ n → among (if n then ks else ks ++ a ∷ []) x ≡ (among ks x || (x == a))
inserted_if true ks a x e = or_same (among ks x) (x == a) (λ h. subst (λ z. among ks z ≡ true) (sym (eqb-true x a h)) (sym (among_any ks a) ∙ e))
inserted_if false ks a x e = among-push ks a x

pub inserted : (ks : List ℕ) (a : ℕ) {news : List ℕ} → news ≡ insert_key (λ b c. b == c) ks a → (x : ℕ) → among news x ≡ (among ks x || (x == a))
inserted ks a e x = ap (λ z. among z x) e ∙ inserted_if (list_any (λ b. a == b) ks) ks a x refl
