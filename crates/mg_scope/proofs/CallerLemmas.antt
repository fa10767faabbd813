-- Rows of callers: what is added to a row, and rows that have just those that mention a name.
use Rattle.std.specs.Prelude.{◌≡◌, ℕ, zero, suc, ◌+◌, ◌<◌, ◌≤◌, ◌≢◌, List, [], ◌∷◌, ◌++◌, map, length, take, Option, Some, None, ◌==◌, if◌then◌else◌, ◌⊎◌, ◌↔◌, get_or, slice_get}
use Rattle.std.proofs.Common.{inl, inr, refl, ap, sym, ◌∙◌, subst, arith, set}
use Rattle.std.proofs.lemmas.List.{get_or-set_same, get_or-set_other, length_push, take_more, take_all, map_push, map-set, length-map}
use Rattle.std.proofs.Math.Seq.{get_or-append_seam}
use Rattle.std.proofs.Math.ListN.{get_or-append, length-set}
use Rattle.std.proofs.lemmas.Option.{none-some, same_Some, slice_get-get_or, slice_get_within}
use Rattle.gr_base.specs.Lists.{IsAmong}
use Rattle.gr_base.proofs.ListLemmas.{IsAmong-append_left, IsAmong-append_right, IsAmong-append, IsAmong-one_more, IsAmong-new_one}
use Rattle.gr_terms.specs.declared.Sym.{Sym}
use Rattle.gr_terms.proofs.ViewLemmas.{same_sym}
use Rattle.mg_syntax.specs.declared.item.Class.{Class}
use Rattle.mg_syntax.specs.declared.item.Item.{Item}
use Rattle.mg_syntax.specs.declared.item.Item.TheVariants as item
use Rattle.mg_scope.specs.Classes.{class_of, mentions_of, mentioned}
use Rattle.mg_scope.specs.Faults.{StandsIn}
use Rattle.mg_scope.specs.Tables.{Cells, value_at, IsBlank, Puts, AreSame}
use Rattle.mg_scope.specs.Orders.{Rows, row_of, callers_of, AreRows, AddsCaller, AddsToEach, AddsItem, AreCallersIn, AreCallers}
use Rattle.mg_scope.proofs.TableLemmas.{Compared, same_name, other_name, compared, same_number, other_number, puts_here, puts_there}
use Rattle.mg_scope.proofs.ClassLemmas.{class_same, class_of-stands}

pub callers_of-is : (r : Rows) (x : Sym) → callers_of r x ≡ row_of r (value_at r.0 x)
unfolding callers_of
callers_of-is r x = refl

pub map_read : {A B : Type 0} (f : A → B) (xs : List A) (i : ℕ) (v : A) (d : B) → i < length (map f xs) → v ≡ get_or xs i v → get_or (map f xs) i d ≡ f v
map_read f [] i v d within is = absurd (omega arith)
map_read f (x ∷ xs) zero v d within is = ap f (sym is)
map_read f (x ∷ xs) (suc i) v d within is = map_read f xs i v d (omega arith) is

-- a row that is read by its number
pub row_here : (r : Rows) (x : Sym) (n : ℕ) → value_at r.0 x ≡ Some n → callers_of r x ≡ get_or r.1 n []
row_here r x n at = callers_of-is r x ∙ ap (row_of r) at

pub row_none : (r : Rows) (x : Sym) → value_at r.0 x ≡ None → callers_of r x ≡ []
row_none r x at = callers_of-is r x ∙ ap (row_of r) at

-- what is to be shown at the name, and at another one
here : (old new : Rows) (name caller x : Sym) → x ≡ name → callers_of new x ≡ callers_of old x ++ caller ∷ []
    → callers_of new x ≡ (if x.0 == name.0 then callers_of old x ++ caller ∷ [] else callers_of old x)
here old new name caller x e h = h ∙ sym (ap (λ b. if b then callers_of old x ++ caller ∷ [] else callers_of old x) (same_number x.0 name.0 (ap (λ (s : Sym). s.0) e)))

there : (old new : Rows) (name caller x : Sym) → (x ≡ name → ⊥) → callers_of new x ≡ callers_of old x
    → callers_of new x ≡ (if x.0 == name.0 then callers_of old x ++ caller ∷ [] else callers_of old x)
there old new name caller x o h = h ∙ sym (ap (λ b. if b then callers_of old x ++ caller ∷ [] else callers_of old x) (other_number x.0 name.0 (λ e. o (same_sym x name e))))

pub adds_to_row : (old : Rows) (n : ℕ) (name caller : Sym) (row : List Sym) → AreRows old → value_at old.0 name ≡ Some n → row ≡ get_or old.1 n [] ++ caller ∷ []
    → AddsCaller old (old.0, set old.1 n row) name caller
adds_to_row old n name caller row rows at is x = by (compared x name)
  where
    new : Rows
    new = (old.0, set old.1 n row)

    other : (x ≡ name → ⊥) → (r : Option ℕ) → value_at old.0 x ≡ r → callers_of new x ≡ callers_of old x
    other o None e = row_none new x e ∙ sym (row_none old x e)
    other o (Some j) e =
        let apart : j ≢ n = λ same. o (rows.1 x name n (e ∙ ap Some same) at) in
        row_here new x j e ∙ get_or-set_other old.1 n j row [] apart ∙ sym (row_here old x j e)

    by : Compared x name → callers_of new x ≡ (if x.0 == name.0 then callers_of old x ++ caller ∷ [] else callers_of old x)
    by (same_name e) =
        let at_x : value_at old.0 x ≡ Some n = ap (value_at old.0) e ∙ at in
        here old new name caller x e
        (row_here new x n at_x ∙ get_or-set_same old.1 n row [] (rows.0 name n at) ∙ is ∙ ap (λ (z : List Sym). z ++ caller ∷ []) (sym (row_here old x n at_x)))
    by (other_name o) = there old new name caller x o (other o (value_at old.0 x) refl)

pub adds_row : (old : Rows) (numbers : Cells) (name caller : Sym) → AreRows old → value_at old.0 name ≡ None → Puts old.0 numbers name (length old.1)
    → AddsCaller old (numbers, old.1 ++ (caller ∷ []) ∷ []) name caller
adds_row old numbers name caller rows at put x = by (compared x name)
  where
    new : Rows
    new = (numbers, old.1 ++ (caller ∷ []) ∷ [])

    other : (x ≡ name → ⊥) → (r : Option ℕ) → value_at old.0 x ≡ r → callers_of new x ≡ callers_of old x
    other o None e = row_none new x (puts_there old.0 numbers name (length old.1) x put o ∙ e) ∙ sym (row_none old x e)
    other o (Some j) e =
        row_here new x j (puts_there old.0 numbers name (length old.1) x put o ∙ e)
        ∙ get_or-append old.1 ((caller ∷ []) ∷ []) [] j (rows.0 x j e) ∙ sym (row_here old x j e)

    by : Compared x name → callers_of new x ≡ (if x.0 == name.0 then callers_of old x ++ caller ∷ [] else callers_of old x)
    by (same_name e) =
        here old new name caller x e
        (row_here new x (length old.1) (ap (value_at numbers) e ∙ puts_here old.0 numbers name (length old.1) put)
        ∙ get_or-append_seam old.1 (caller ∷ []) [] [] ∙ ap (λ (z : List Sym). z ++ caller ∷ []) (sym (row_none old x (ap (value_at old.0) e ∙ at))))
    by (other_name o) = there old new name caller x o (other o (value_at old.0 x) refl)

-- rows stay those of one name each
pub rows_same : (old : Rows) (numbers : Cells) (row : List Sym) → AreRows old → AreSame old.0 numbers → AreRows (numbers, old.1 ++ row ∷ [])
rows_same old numbers row rows same = (
  (λ x i at. let h = rows.0 x i (sym (same x) ∙ at) in let l = length_push old.1 row in omega (arith, h, l)),
  (λ x y i at at'. rows.1 x y i (sym (same x) ∙ at) (sym (same y) ∙ at')),
)

pub rows_more : (old : Rows) (numbers : Cells) (name : Sym) (row : List Sym) → AreRows old → Puts old.0 numbers name (length old.1) → AreRows (numbers, old.1 ++ row ∷ [])
rows_more old numbers name row rows put = ((λ x i at. within x i at (compared x name)), (λ x y i at at'. one x y i at at' (compared x name) (compared y name)))
  where
    last : ℕ
    last = length old.1

    within : (x : Sym) (i : ℕ) → value_at numbers x ≡ Some i → Compared x name → i < length (old.1 ++ row ∷ [])
    within x i at (same_name e) =
        let h : i ≡ last = same_Some i last (sym at ∙ ap (value_at numbers) e ∙ puts_here old.0 numbers name last put) in
        let l = length_push old.1 row in omega (arith, h, l)
    within x i at (other_name o) =
        let h = rows.0 x i (sym (puts_there old.0 numbers name last x put o) ∙ at) in
        let l = length_push old.1 row in omega (arith, h, l)

    apart : (x y : Sym) (i : ℕ) → value_at numbers x ≡ Some i → value_at numbers y ≡ Some i → x ≡ name → (y ≡ name → ⊥) → ⊥
    apart x y i at at' e o =
        let h : i ≡ last = same_Some i last (sym at ∙ ap (value_at numbers) e ∙ puts_here old.0 numbers name last put) in
        let k = rows.0 y i (sym (puts_there old.0 numbers name last y put o) ∙ at') in
        omega (arith, h, k)

    one : (x y : Sym) (i : ℕ) → value_at numbers x ≡ Some i → value_at numbers y ≡ Some i → Compared x name → Compared y name → x ≡ y
    one x y i at at' (same_name e) (same_name f) = e ∙ sym f
    one x y i at at' (same_name e) (other_name o) = absurd (apart x y i at at' e o)
    one x y i at at' (other_name o) (same_name f) = absurd (apart y x i at' at f o)
    one x y i at at' (other_name o) (other_name p) =
        rows.1 x y i (sym (puts_there old.0 numbers name last x put o) ∙ at) (sym (puts_there old.0 numbers name last y put p) ∙ at')

-- nobody calls in empty rows
pub no_callers : (numbers : Cells) (rows : List (List Sym)) (b : Sym) → IsBlank numbers → callers_of (numbers, rows) b ≡ []
no_callers numbers rows b blank = row_none (numbers, rows) b (blank b)

-- adding to each of some names
pub adds_to_none : (r : Rows) (caller : Sym) → AddsToEach r r [] caller
adds_to_none r caller a b = ((λ h. inl h), (λ u. elim u [ inl h ↦ h | inr p ↦ absurd p.1 ]))

pub adds_next : (old now new : Rows) (names : List Sym) (i : ℕ) (d caller : Sym) → i < length names → AddsToEach old now (take i names) caller → AddsCaller now new (get_or names i d) caller
    → AddsToEach old new (take (i + 1) names) caller
adds_next old now new names i d caller within each one a b = (forth, back)
  where
    name : Sym
    name = get_or names i d

    more : take (i + 1) names ≡ take i names ++ name ∷ []
    more = take_more names i d within

    Goal : Type 0
    Goal = IsAmong (callers_of old b) a ⊎ ((a ≡ caller) × IsAmong (take (i + 1) names) b)

    old_ones : IsAmong (callers_of now b) a → Goal
    old_ones h =
        elim ((each a b).0 h) [
          | inl p ↦ inl p
          | inr p ↦ inr (p.0, subst (λ z. IsAmong z b) (sym more) (IsAmong-append_left (take i names) (name ∷ []) b p.1))
        ]

    here_is : b ≡ name → callers_of new b ≡ callers_of now b ++ caller ∷ []
    here_is e = one b ∙ ap (λ t. if t then callers_of now b ++ caller ∷ [] else callers_of now b) (same_number b.0 name.0 (ap (λ (s : Sym). s.0) e))

    there_is : (b ≡ name → ⊥) → callers_of new b ≡ callers_of now b
    there_is o = one b ∙ ap (λ t. if t then callers_of now b ++ caller ∷ [] else callers_of now b) (other_number b.0 name.0 (λ e. o (same_sym b name e)))

    forth : IsAmong (callers_of new b) a → Goal
    forth h = by (compared b name)
      where
        by : Compared b name → Goal
        by (same_name e) =
            elim (IsAmong-one_more (callers_of now b) caller a (subst (λ z. IsAmong z a) (here_is e) h)) [
              | inl p ↦ old_ones p
              | inr p ↦ inr (p, subst (λ z. IsAmong z b) (sym more) (subst (λ z. IsAmong (take i names ++ name ∷ []) z) (sym e) (IsAmong-new_one (take i names) name)))
            ]
        by (other_name o) = old_ones (subst (λ z. IsAmong z a) (there_is o) h)

    keeps : IsAmong (callers_of now b) a → IsAmong (callers_of new b) a
    keeps h = by (compared b name)
      where
        by : Compared b name → IsAmong (callers_of new b) a
        by (same_name e) = subst (λ z. IsAmong z a) (sym (here_is e)) (IsAmong-append_left (callers_of now b) (caller ∷ []) a h)
        by (other_name o) = subst (λ z. IsAmong z a) (sym (there_is o)) h

    back : Goal → IsAmong (callers_of new b) a
    back (inl h) = keeps ((each a b).1 (inl h))
    back (inr (e, h)) =
        elim (IsAmong-one_more (take i names) name b (subst (λ z. IsAmong z b) more h)) [
          | inl p ↦ keeps ((each a b).1 (inr (e, p)))
          | inr p ↦ subst (λ z. IsAmong z a) (sym (here_is p)) (subst (λ z. IsAmong (callers_of now b ++ caller ∷ []) z) (sym e) (IsAmong-new_one (callers_of now b) caller))
        ]

-- a class is added to the callers of what it mentions
pub adds_class : (next : Sym → List Sym) (old new : Rows) (names : List Sym) (k : Class) → names ≡ next k.name → AddsToEach old new names k.name → AddsItem next old new (item.Class k)
adds_class next old new names k is each a b = (forth, back)
  where
    forth : IsAmong (callers_of new b) a → IsAmong (callers_of old b) a ⊎ (IsAmong (next a) b × StandsIn (item.Class k ∷ []) a)
    forth h =
        elim ((each a b).0 h) [
          | inl p ↦ inl p
          | inr p ↦ inr (subst (λ z. IsAmong z b) (is ∙ ap next (sym p.0)) p.1, (k, inl refl, sym p.0))
        ]

    back : IsAmong (callers_of old b) a ⊎ (IsAmong (next a) b × StandsIn (item.Class k ∷ []) a) → IsAmong (callers_of new b) a
    back (inl h) = (each a b).1 (inl h)
    back (inr (h, (j, inl e, named))) =
        let same : k.name ≡ a = ap (λ (z : Class). z.name) (sym (class_same j k e)) ∙ named in
        (each a b).1 (inr (sym same, subst (λ z. IsAmong z b) (sym (is ∙ ap next same)) h))
    back (inr (h, (j, inr f, named))) = absurd f

pub adds_nothing : (next : Sym → List Sym) (r : Rows) (i : Item) → ((k : Class) → i ≡ item.Class k → ⊥) → AddsItem next r r i
adds_nothing next r i other a b = ((λ h. inl h), (λ u. elim u [ inl h ↦ h | inr p ↦ absurd (none p.1) ]))
  where
    none : StandsIn (i ∷ []) a → ⊥
    none (k, inl e, named) = other k (sym e)
    none (k, inr f, named) = f

pub callers_none : (next : Sym → List Sym) (numbers : Cells) (rows : List (List Sym)) → IsBlank numbers → AreCallersIn next (numbers, rows) []
callers_none next numbers rows blank a b = ((λ h. absurd (subst (λ z. IsAmong z a) (no_callers numbers rows b blank) h)), (λ p. absurd p.1.1))

pub callers_next : (next : Sym → List Sym) (now new : Rows) (items : List Item) (i : ℕ) (d : Item) → i < length items → AreCallersIn next now (take i items) → AddsItem next now new (get_or items i d)
    → AreCallersIn next new (take (i + 1) items)
callers_next next now new items i d within known adds a b = (forth, back)
  where
    more : take (i + 1) items ≡ take i items ++ get_or items i d ∷ []
    more = take_more items i d within

    left : StandsIn (take i items) a → StandsIn (take (i + 1) items) a
    left (k, h, named) = (k, subst (λ z. IsAmong z (item.Class k)) (sym more) (IsAmong-append_left (take i items) (get_or items i d ∷ []) (item.Class k) h), named)

    right : StandsIn (get_or items i d ∷ []) a → StandsIn (take (i + 1) items) a
    right (k, h, named) = (k, subst (λ z. IsAmong z (item.Class k)) (sym more) (IsAmong-append_right (take i items) (get_or items i d ∷ []) (item.Class k) h), named)

    forth : IsAmong (callers_of new b) a → IsAmong (next a) b × StandsIn (take (i + 1) items) a
    forth h = elim ((adds a b).0 h) [ inl p ↦ (let q = (known a b).0 p in (q.0, left q.1)) | inr p ↦ (p.0, right p.1) ]

    back : IsAmong (next a) b × StandsIn (take (i + 1) items) a → IsAmong (callers_of new b) a
    back (h, (k, among, named)) =
        elim (IsAmong-append (take i items) (get_or items i d ∷ []) (item.Class k) (subst (λ z. IsAmong z (item.Class k)) more among)) [
          | inl p ↦ (adds a b).1 (inl ((known a b).1 (h, (k, p, named))))
          | inr p ↦ (adds a b).1 (inr (h, (k, p, named)))
        ]

-- only classes mention names
pub mentioned_by : (m : List Item) (a b : Sym) → IsAmong (mentioned m a) b → (k : Class) × (class_of m a ≡ Some k)
mentioned_by m a b h = by (class_of m a) refl
  where
    by : (r : Option Class) → class_of m a ≡ r → (k : Class) × (class_of m a ≡ Some k)
    by None e = absurd (subst (λ z. IsAmong (mentions_of z) b) e h)
    by (Some k) e = (k, e)

pub stands_by : (m : List Item) (a b : Sym) → IsAmong (mentioned m a) b → StandsIn m a
stands_by m a b h = let c = mentioned_by m a b h in let s = class_of-stands m a c.0 c.1 in (c.0, s.0, s.1)

pub callers_all : (m : List Item) (r : Rows) (i : ℕ) → length m ≤ i → AreCallersIn (mentioned m) r (take i m) → AreCallers (mentioned m) r
callers_all m r i all known a b =
    ((λ h. ((known a b).0 h).0), (λ h. (known a b).1 (h, subst (λ z. StandsIn z a) (sym (take_all i m all)) (stands_by m a b h))))

-- a row that goes last
pub row_pushed : {A : Type 0} (f : A → List Sym) (old new : List A) (row : A) (caller : Sym) → new ≡ old ++ row ∷ [] → f row ≡ caller ∷ [] → map f new ≡ map f old ++ (caller ∷ []) ∷ []
row_pushed f old new row caller e is = ap (map f) e ∙ map_push f old row ∙ ap (λ (z : List Sym). map f old ++ z ∷ []) is

-- a later class of a name is there already
pub callers_again : (next : Sym → List Sym) (now : Rows) (m : List Item) (place : ℕ) (k : Class) → slice_get m place ≡ Some (item.Class k) → StandsIn (take place m) k.name
    → AreCallersIn next now (take place m) → AreCallersIn next now (take (place + 1) m)
callers_again next now m place k at stands known a b = (forth, back)
  where
    within : place < length m
    within = slice_get_within m place (item.Class k) at

    one : get_or m place (item.Class k) ≡ item.Class k
    one = same_Some _ _ (sym (slice_get-get_or m place (item.Class k) within) ∙ at)

    more : take (place + 1) m ≡ take place m ++ item.Class k ∷ []
    more = take_more m place (item.Class k) within ∙ ap (λ z. take place m ++ z ∷ []) one

    forth : IsAmong (callers_of now b) a → IsAmong (next a) b × StandsIn (take (place + 1) m) a
    forth h =
        let q = (known a b).0 h in
        (q.0, (q.1.0, subst (λ z. IsAmong z (item.Class q.1.0)) (sym more) (IsAmong-append_left (take place m) (item.Class k ∷ []) (item.Class q.1.0) q.1.1), q.1.2))

    back : IsAmong (next a) b × StandsIn (take (place + 1) m) a → IsAmong (callers_of now b) a
    back (h, (j, among, named)) =
        elim (IsAmong-one_more (take place m) (item.Class k) (item.Class j) (subst (λ z. IsAmong z (item.Class j)) more among)) [
          | inl p ↦ (known a b).1 (h, (j, p, named))
          | inr e ↦
              (let same : k.name ≡ a = ap (λ (z : Class). z.name) (sym (class_same j k e)) ∙ named in
              (known a b).1 (h, subst (StandsIn (take place m)) same stands))
        ]

-- what stands at a place
pub place_has : (items m : List Item) (place : ℕ) (d it : Item) → items ≡ m → place < length m → get_or items place d ≡ it → slice_get m place ≡ Some it
place_has items m place d it same within is = slice_get-get_or m place d within ∙ ap Some (ap (λ z. get_or z place d) (sym same) ∙ is)

-- an item that is no class adds nothing
pub callers_past : (next : Sym → List Sym) (now : Rows) (m : List Item) (place : ℕ) (it : Item) → slice_get m place ≡ Some it → ((k : Class) → it ≡ item.Class k → ⊥)
    → AreCallersIn next now (take place m) → AreCallersIn next now (take (place + 1) m)
callers_past next now m place it at other known =
    let within = slice_get_within m place it at in
    let one : get_or m place it ≡ it = same_Some _ _ (sym (slice_get-get_or m place it within) ∙ at) in
    callers_next next now now m place it within known (adds_nothing next now (get_or m place it) (λ k e. other k (sym one ∙ e)))

-- the first class of a name
pub callers_first : (next : Sym → List Sym) (now new : Rows) (m : List Item) (place : ℕ) (k : Class) (name : Sym) (names : List Sym) → slice_get m place ≡ Some (item.Class k) → k.name ≡ name
    → names ≡ next name → AddsToEach now new names name → AreCallersIn next now (take place m) → AreCallersIn next new (take (place + 1) m)
callers_first next now new m place k name names at named is each known =
    let within = slice_get_within m place (item.Class k) at in
    let one : get_or m place (item.Class k) ≡ item.Class k = same_Some _ _ (sym (slice_get-get_or m place (item.Class k) within) ∙ at) in
    let adds = adds_class next now new names k (is ∙ ap next (sym named)) (subst (AddsToEach now new names) (sym named) each) in
    callers_next next now new m place (item.Class k) within known (subst (AddsItem next now new) (sym one) adds)
