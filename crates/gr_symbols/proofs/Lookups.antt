-- What `indexmap` finds and inserts by a test on keys, in words on the list of the keys' texts.
use Rattle.std.specs.Prelude.{◌≡◌, ℕ, Bool, true, false, List, [], ◌∷◌, ◌++◌, map, if◌then◌else◌}
use Rattle.std.specs.List.{list_any}
use Rattle.std.specs.Bool.{Decides}
use Rattle.std.specs.String.{string_bytes, string_eq}
use Rattle.std.proofs.Common.{refl, ap, ◌∙◌, subst, String}
use Rattle.std.proofs.lemmas.List.{map_push}
use Rattle.std.proofs.lemmas.Slice.Eq.{bytes_eq-Decides}
use Rattle.indexmap.specs.IndexSet.{insert_key}
use Rattle.gr_base.specs.Lists.{IsAmong}
use Rattle.gr_base.proofs.ListLemmas.{IsAmong-test}

module _ {K : Type 0} (view : K → List ℕ) (eq : K → K → Bool) (decides : (x y : K) → Decides (eq x y) (view x ≡ view y)) where
  -- a key with a new text goes last
  pub map-insert_key : (ks : List K) (k : K) → (IsAmong (map view ks) (view k) → ⊥) → map view (insert_key eq ks k) ≡ map view ks ++ view k ∷ []
  map-insert_key ks k new = by (list_any (eq k) ks) refl
    where
      by : (b : Bool) → list_any (eq k) ks ≡ b → map view (insert_key eq ks k) ≡ map view ks ++ view k ∷ []
      by true e = absurd (new (IsAmong-test view (eq k) (view k) (decides k) ks e))
      by false e = ap (λ b. map view (if b then ks else ks ++ k ∷ [])) e ∙ map_push view ks k

-- the texts of the keys after a key with a new text is inserted
pub texts-insert_key : {A : Type 0} (ks : List (String A)) (k : String A) (news : List (String A)) (old : List (List ℕ)) (text : List ℕ)
    → map string_bytes ks ≡ old → string_bytes k ≡ text → (IsAmong old text → ⊥) → news ≡ insert_key string_eq ks k
    → map string_bytes news ≡ old ++ text ∷ []
texts-insert_key {A} ks k news old text view_is bytes new keys =
    subst (λ t. map string_bytes news ≡ old ++ t ∷ []) bytes
    (subst (λ ts. map string_bytes news ≡ ts ++ string_bytes k ∷ []) view_is
    (ap (map string_bytes) keys ∙ map-insert_key string_bytes string_eq (λ x y. bytes_eq-Decides (string_bytes x) (string_bytes y)) ks k
    (λ i. new (subst (λ ts. IsAmong ts text) view_is (subst (λ t. IsAmong (map string_bytes ks) t) bytes i)))))
