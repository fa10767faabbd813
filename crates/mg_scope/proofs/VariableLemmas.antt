-- The variables of a class: what tables tell of them, and the rules on where they stand.
use Rattle.std.specs.Prelude.{◌≡◌, ℕ, zero, suc, ◌+◌, ◌<◌, ◌≤◌, List, [], ◌∷◌, ◌++◌, map, length, take, Bool, true, false, Option, Some, None, ◌==◌, if◌then◌else◌, ◌⊎◌, ◌↔◌, slice_get, get_or, IsTrue}
use Rattle.std.proofs.Common.{inl, inr, refl, ap, sym, ◌∙◌, subst, arith, append_assoc}
use Rattle.std.proofs.lemmas.Bool.{eqb-true}
use Rattle.std.proofs.lemmas.List.{take_more, take_all}
use Rattle.std.proofs.lemmas.Option.{none-some, same_Some, slice_get-get_or, slice_get_within}
use Rattle.gr_base.specs.Lists.{IsAmong, Each, gathered}
use Rattle.gr_base.proofs.ListLemmas.{IsAmong-append_left, IsAmong-append_right, IsAmong-append, IsAmong-one_more, IsAmong-new_one, IsAmong-map, IsAmong-map_from, IsAmong-slice_get, IsAmong-get_or, slice_get-append_left, Each-at, Each-members}
use Rattle.gr_base.proofs.Gathering.{gathered-append}
use Rattle.gr_terms.specs.declared.Sym.{Sym}
use Rattle.gr_terms.proofs.ViewLemmas.{same_sym}
use Rattle.mg_syntax.specs.declared.item.Class.{Class}
use Rattle.mg_syntax.specs.declared.item.Item.{Item}
use Rattle.mg_scope.specs.declared.uses.Use.{Use}
use Rattle.mg_scope.specs.declared.uses.Use.TheVariants.{Alone, Bound, Called, Dotted}
use Rattle.mg_scope.specs.declared.variables.Variables.{Variables}
use Rattle.mg_scope.specs.Classes.{uses_of, binding, bindings, call_variables, exports_of, Sees}
use Rattle.mg_scope.specs.Faults.{StandsOnce, IsRightUse, IsRightExport, IsRightDot, IsVariableOf, IsDotOf, IsFirstWithout}
use Rattle.mg_scope.specs.Tables.{Cells, value_at, IsBlank, Puts}
use Rattle.mg_scope.specs.Orders.{IsSet}
use Rattle.mg_scope.specs.Variables.{bound_variables, occurrences, tally, Marks, MarksAsked, HasImported, asked_in, AreStatements, AreCalls, AreVariables, IsExported, variable_in, IsFirstWrongUse}
use Rattle.mg_scope.proofs.TableLemmas.{Compared, same_name, other_name, compared, same_number, other_number, puts_here, puts_there}
use Rattle.mg_scope.proofs.ClassLemmas.{slice_get-at}
use Rattle.mg_scope.proofs.GatherLemmas.{gathered-more}
use Rattle.mg_scope.proofs.LoopLemmas.{first_without}

-- marking no names, one name, and more of them
pub marks_none : (t : Cells) → Marks t t []
marks_none t x = ((λ h. inl h), (λ u. elim u [ inl h ↦ h | inr f ↦ absurd f ]))

pub marks_both : (old mid new : Cells) (xs ys : List Sym) → Marks old mid xs → Marks mid new ys → Marks old new (xs ++ ys)
marks_both old mid new xs ys one two x = (
  λ h. elim ((two x).0 h) [
    | inl p ↦ elim ((one x).0 p) [ inl q ↦ inl q | inr q ↦ inr (IsAmong-append_left xs ys x q) ]
    | inr p ↦ inr (IsAmong-append_right xs ys x p)
  ],
  λ u. elim u [
    | inl p ↦ (two x).1 (inl ((one x).1 (inl p)))
    | inr p ↦ elim (IsAmong-append xs ys x p) [ inl q ↦ (two x).1 (inl ((one x).1 (inr q))) | inr q ↦ (two x).1 (inr q) ]
  ],
)

pub marks_one : (old new : Cells) (y : Sym) (v : ℕ) → Puts old new y v → Marks old new (y ∷ [])
marks_one old new y v put x = (forth (compared x y), back (compared x y))
  where
    forth : Compared x y → IsSet new x → IsSet old x ⊎ IsAmong (y ∷ []) x
    forth (same_name e) h = inr (inl e)
    forth (other_name o) h = inl (h.0, sym (puts_there old new y v x put o) ∙ h.1)

    back : Compared x y → IsSet old x ⊎ IsAmong (y ∷ []) x → IsSet new x
    back (same_name e) u = (v, ap (value_at new) e ∙ puts_here old new y v put)
    back (other_name o) (inl h) = (h.0, puts_there old new y v x put o ∙ h.1)
    back (other_name o) (inr (inl e)) = absurd (o e)
    back (other_name o) (inr (inr f)) = absurd f

pub marks_more : (old mid new : Cells) (names : List Sym) (i : ℕ) (d : Sym) (v : ℕ) → i < length names → Marks old mid (take i names) → Puts mid new (get_or names i d) v → Marks old new (take (i + 1) names)
marks_more old mid new names i d v within one put =
    subst (Marks old new) (sym (take_more names i d within)) (marks_both old mid new (take i names) (get_or names i d ∷ []) one (marks_one mid new (get_or names i d) v put))

-- marks in a table that was blank
pub marks_blank : (old new : Cells) (names : List Sym) → IsBlank old → Marks old new names → (x : Sym) → IsSet new x ↔ IsAmong names x
marks_blank old new names blank marks x = (
  (λ h. elim ((marks x).0 h) [ inl p ↦ absurd (none-some p.0 (sym (blank x) ∙ p.1)) | inr p ↦ p ]),
  (λ h. (marks x).1 (inr h)),
)

-- a table with those names that are asked for: where all names are put, where nothing is asked for, and with one more that is asked for
pub asked_all : (old new : Cells) (names asked : List Sym) → Marks old new names → MarksAsked old new names asked
asked_all old new names asked marks = record { kept = λ x h. (marks x).1 (inl h); only = λ x h. (marks x).0 h; all = λ x i a. (marks x).1 (inr i) }

pub asked_none : (t : Cells) (names : List Sym) → MarksAsked t t names []
asked_none t names = record { kept = λ x h. h; only = λ x h. inl h; all = λ x i a. absurd a }

pub asked_not : (t : Cells) (names : List Sym) (y : Sym) → (IsAmong names y → ⊥) → MarksAsked t t names (y ∷ [])
asked_not t names y other = record { kept = λ x h. h; only = λ x h. inl h; all = λ x n a. elim a [ inl e ↦ absurd (other (subst (IsAmong names) e n)) | inr f ↦ absurd f ] }

pub asked_put : (old new : Cells) (names : List Sym) (y : Sym) (v : ℕ) → IsAmong names y → Puts old new y v → MarksAsked old new names (y ∷ [])
asked_put old new names y v one put = record {
  kept = λ x h. (marks_one old new y v put x).1 (inl h);
  only = λ x h.
      elim ((marks_one old new y v put x).0 h) [ inl p ↦ inl p | inr q ↦ elim q [ inl e ↦ inr (subst (IsAmong names) (sym e) one) | inr f ↦ absurd f ] ];
  all = λ x n a. (marks_one old new y v put x).1 (inr a);
}

pub asked_more : (old mid new : Cells) (names asked : List Sym) (i : ℕ) (d : Sym) → i < length asked → MarksAsked old mid names (take i asked) → MarksAsked mid new names (get_or asked i d ∷ [])
    → MarksAsked old new names (take (i + 1) asked)
asked_more old mid new names asked i d within one two = subst (MarksAsked old new names) (sym (take_more asked i d within)) (record {
  kept = λ x h. two.kept x (one.kept x h);
  only = λ x h. elim (two.only x h) [ inl p ↦ one.only x p | inr q ↦ inr q ];
  all = λ x n a. elim (IsAmong-append (take i asked) (get_or asked i d ∷ []) x a) [ inl p ↦ two.kept x (one.all x n p) | inr q ↦ two.all x n q ];
})

pub asked_end : (old new : Cells) (names asked : List Sym) (i : ℕ) → length asked ≤ i → MarksAsked old new names (take i asked) → MarksAsked old new names asked
asked_end old new names asked i all known = subst (MarksAsked old new names) (take_all i asked all) known

-- imports: none yet, one again, and a new one
gathered-has : (f : Sym → List Sym) (xs : List Sym) (c x : Sym) → IsAmong xs c → IsAmong (f c) x → IsAmong (gathered f xs) x
gathered-has f [] c x i h = absurd i
gathered-has f (y ∷ ys) c x (inl e) h = IsAmong-append_left (f y) (gathered f ys) x (subst (λ z. IsAmong (f z) x) e h)
gathered-has f (y ∷ ys) c x (inr i) h = IsAmong-append_right (f y) (gathered f ys) x (gathered-has f ys c x i h)

module _ (m : List Item) (base : Cells) (asked : List Sym) where
  abbrev exports : Sym → List Sym
  exports = exports_of m

  pub imported_none : (imported : Cells) → IsBlank imported → HasImported m base base imported [] asked
  imported_none imported blank = (
    (λ c. ((λ h. none-some h.0 (sym (blank c) ∙ h.1)), (λ i. absurd i))),
    record { kept = λ x h. h; only = λ x h. inl h; all = λ x i a. absurd i },
  )

  -- what one more class exports
  one_more : (done : List Sym) (c x : Sym) → IsAmong (gathered exports (done ++ c ∷ [])) x → IsAmong (gathered exports done) x ⊎ IsAmong (exports c) x
  one_more done c x i =
      elim (IsAmong-append (gathered exports done) (exports c ++ []) x (subst (λ z. IsAmong z x) (gathered-append exports done (c ∷ [])) i)) [
        | inl p ↦ inl p
        | inr q ↦ elim (IsAmong-append (exports c) [] x q) [ inl r ↦ inr r | inr f ↦ absurd f ]
      ]

  old_one : (done : List Sym) (c x : Sym) → IsAmong (gathered exports done) x → IsAmong (gathered exports (done ++ c ∷ [])) x
  old_one done c x i = subst (λ z. IsAmong z x) (sym (gathered-append exports done (c ∷ []))) (IsAmong-append_left (gathered exports done) (exports c ++ []) x i)

  new_one : (done : List Sym) (c x : Sym) → IsAmong (exports c) x → IsAmong (gathered exports (done ++ c ∷ [])) x
  new_one done c x i =
      subst (λ z. IsAmong z x) (sym (gathered-append exports done (c ∷ []))) (IsAmong-append_right (gathered exports done) (exports c ++ []) x (IsAmong-append_left (exports c) [] x i))

  pub imported_again : (table imported : Cells) (done : List Sym) (c : Sym) (n : ℕ) → value_at imported c ≡ Some n → HasImported m base table imported done asked
      → HasImported m base table imported (done ++ c ∷ []) asked
  imported_again table imported done c n at (marked, known) = (
    (λ x. (
      (λ h. IsAmong-append_left done (c ∷ []) x ((marked x).0 h)),
      (λ i. elim (IsAmong-one_more done c x i) [ inl p ↦ (marked x).1 p | inr e ↦ (n, ap (value_at imported) e ∙ at) ]),
    )),
    record {
      kept = known.kept;
      only = λ x h. elim (known.only x h) [ inl p ↦ inl p | inr q ↦ inr (old_one done c x q) ];
      all = λ x i a. elim (one_more done c x i) [ inl p ↦ known.all x p a | inr q ↦ known.all x (gathered-has exports done c x ((marked c).0 (n, at)) q) a ];
    },
  )

  pub imported_new : (table more imported now : Cells) (done : List Sym) (c : Sym) (v : ℕ) → Puts imported now c v → MarksAsked table more (exports c) asked → HasImported m base table imported done asked
      → HasImported m base more now (done ++ c ∷ []) asked
  imported_new table more imported now done c v put new (marked, known) = (
    (λ x. (
      (λ h. elim ((marks_one imported now c v put x).0 h) [ inl p ↦ IsAmong-append_left done (c ∷ []) x ((marked x).0 p) | inr q ↦ IsAmong-append_right done (c ∷ []) x q ]),
      (λ i. elim (IsAmong-append done (c ∷ []) x i) [ inl p ↦ (marks_one imported now c v put x).1 (inl ((marked x).1 p)) | inr q ↦ (marks_one imported now c v put x).1 (inr q) ]),
    )),
    record {
      kept = λ x h. new.kept x (known.kept x h);
      only = λ x h.
          elim (new.only x h) [ inl p ↦ elim (known.only x p) [ inl q ↦ inl q | inr q ↦ inr (old_one done c x q) ] | inr q ↦ inr (new_one done c x q) ];
      all = λ x i a. elim (one_more done c x i) [ inl p ↦ new.kept x (known.all x p a) | inr q ↦ new.all x q a ];
    },
  )

pub marks_seen : (m : List Item) (k : Class) (old mid new : Cells) (declares imports asked : List Sym) → declares ≡ k.declares → imports ≡ k.imports → asked ≡ asked_in k → IsBlank old
    → Marks old mid declares → MarksAsked mid new (gathered (exports_of m) imports) asked → (x : Sym) → IsAmong (asked_in k) x → IsSet new x ↔ Sees m k x
marks_seen m k old mid new declares imports asked d i q blank one two x a = (
  λ h. elim (two.only x h) [
    | inl p ↦ inl (subst (λ z. IsAmong z x) d ((marks_blank old mid declares blank one x).0 p))
    | inr p ↦ inr (subst (λ z. IsAmong (gathered (exports_of m) z) x) i p)
  ],
  λ u. elim u [
    | inl p ↦ two.kept x ((marks_blank old mid declares blank one x).1 (subst (λ z. IsAmong z x) (sym d) p))
    | inr p ↦ two.all x (subst (λ z. IsAmong (gathered (exports_of m) z) x) (sym i) p) (subst (λ z. IsAmong z x) (sym q) a)
  ],
)

pub imports_next : (m : List Item) (base table imported : Cells) (classes asked : List Sym) (i : ℕ) (d : Sym) → i < length classes
    → HasImported m base table imported (take i classes ++ get_or classes i d ∷ []) asked → HasImported m base table imported (take (i + 1) classes) asked
imports_next m base table imported classes asked i d within known = subst (λ z. HasImported m base table imported z asked) (sym (take_more classes i d within)) known

pub imports_end : (m : List Item) (base table imported : Cells) (classes asked : List Sym) (i : ℕ) → length classes ≤ i → HasImported m base table imported (take i classes) asked
    → MarksAsked base table (gathered (exports_of m) classes) asked
imports_end m base table imported classes asked i all (marked, known) = subst (λ z. MarksAsked base table (gathered (exports_of m) z) asked) (take_all i classes all) known

pub use_among : (k : Class) (uses : List Use) (i : ℕ) (d : Use) → uses ≡ uses_of k → i < length uses → IsAmong (uses_of k) (get_or uses i d)
use_among k uses i d is within = subst (λ z. IsAmong z (get_or uses i d)) is (IsAmong-get_or uses i d within)

-- a class asks for what it exports and for what stands in its uses
pub asked_export : (k : Class) (exports : List Sym) (x : Sym) → exports ≡ k.exports → IsAmong exports x → IsAmong (asked_in k) x
asked_export k exports x is i = IsAmong-append_left k.exports (map variable_in (uses_of k)) x (subst (λ z. IsAmong z x) is i)

pub asked_use : (k : Class) (u : Use) (x : Sym) → variable_in u ≡ x → IsAmong (uses_of k) u → IsAmong (asked_in k) x
asked_use k u x e i = subst (IsAmong (asked_in k)) e (IsAmong-append_right k.exports (map variable_in (uses_of k)) (variable_in u) (IsAmong-map variable_in (uses_of k) u i))

-- how often a name stands in a list with one more
pub occurrences-here : (xs : List Sym) (x : Sym) → occurrences (xs ++ x ∷ []) x ≡ suc (occurrences xs x)
occurrences-here [] x = ap (λ b. if b then 1 else 0) (same_number x.0 x.0 refl)
occurrences-here (y ∷ ys) x = by (y.0 == x.0) (occurrences-here ys x)
  where
    by : (b : Bool) → occurrences (ys ++ x ∷ []) x ≡ suc (occurrences ys x)
        → (if b then suc (occurrences (ys ++ x ∷ []) x) else occurrences (ys ++ x ∷ []) x) ≡ suc (if b then suc (occurrences ys x) else occurrences ys x)
    by true e = ap suc e
    by false e = e

pub occurrences-there : (xs : List Sym) (y x : Sym) → (x ≡ y → ⊥) → occurrences (xs ++ y ∷ []) x ≡ occurrences xs x
occurrences-there [] y x o = ap (λ b. if b then 1 else 0) (other_number y.0 x.0 (λ e. o (sym (same_sym y x e))))
occurrences-there (z ∷ zs) y x o = by (z.0 == x.0) (occurrences-there zs y x o)
  where
    by : (b : Bool) → occurrences (zs ++ y ∷ []) x ≡ occurrences zs x
        → (if b then suc (occurrences (zs ++ y ∷ []) x) else occurrences (zs ++ y ∷ []) x) ≡ (if b then suc (occurrences zs x) else occurrences zs x)
    by true e = ap suc e
    by false e = e

-- the first element of a list is the name or another one
head_here : (y : Sym) (ys : List Sym) (x : Sym) → x ≡ y → occurrences (y ∷ ys) x ≡ suc (occurrences ys x)
head_here y ys x e = ap (λ b. if b then suc (occurrences ys x) else occurrences ys x) (same_number y.0 x.0 (ap (λ (s : Sym). s.0) (sym e)))

head_there : (y : Sym) (ys : List Sym) (x : Sym) → (x ≡ y → ⊥) → occurrences (y ∷ ys) x ≡ occurrences ys x
head_there y ys x o = ap (λ b. if b then suc (occurrences ys x) else occurrences ys x) (other_number y.0 x.0 (λ e. o (sym (same_sym y x e))))

-- a name that stands in no place, and one that stands in some
pub absent : (xs : List Sym) (x : Sym) → occurrences xs x ≡ 0 → IsAmong xs x → ⊥
absent [] x e i = i
absent (y ∷ ys) x e i = by (compared x y) i (absent ys x)
  where
    by : Compared x y → IsAmong (y ∷ ys) x → (occurrences ys x ≡ 0 → IsAmong ys x → ⊥) → ⊥
    by (same_name s) i more = let h : suc (occurrences ys x) ≡ 0 = sym (head_here y ys x s) ∙ e in omega (arith, h)
    by (other_name o) (inl s) more = o s
    by (other_name o) (inr j) more = more (sym (head_there y ys x o) ∙ e) j

pub present : (xs : List Sym) (x : Sym) → (occurrences xs x ≡ 0 → ⊥) → IsAmong xs x
present [] x n = absurd (n refl)
present (y ∷ ys) x n = by (compared x y) (present ys x)
  where
    by : Compared x y → ((occurrences ys x ≡ 0 → ⊥) → IsAmong ys x) → IsAmong (y ∷ ys) x
    by (same_name s) more = inl s
    by (other_name o) more = inr (more (λ e. n (head_there y ys x o ∙ e)))

-- a name stands once where it stands in one place
pub once : (xs : List Sym) (x : Sym) → occurrences xs x ≡ 1 → StandsOnce xs x
once [] x e = absurd (omega (arith, e))
once (y ∷ ys) x e = by (compared x y) (once ys x)
  where
    by : Compared x y → (occurrences ys x ≡ 1 → StandsOnce ys x) → StandsOnce (y ∷ ys) x
    by (same_name s) more =
        let rest : occurrences ys x ≡ 0 = let h : suc (occurrences ys x) ≡ 1 = sym (head_here y ys x s) ∙ e in omega (arith, h) in
        ([], ys, ap (λ z. z ∷ ys) (sym s), (λ i. i), absent ys x rest)
    by (other_name o) more =
        let r = more (sym (head_there y ys x o) ∙ e) in
        (y ∷ r.0, r.1, ap (λ z. y ∷ z) r.2, (λ i. elim i [ inl s ↦ o s | inr j ↦ r.3 j ]), r.4)

pub counted_once : (xs : List Sym) (x : Sym) → StandsOnce xs x → occurrences xs x ≡ 1
counted_once xs x (before, after, parts, none, no_more) = ap (λ z. occurrences z x) parts ∙ go before none
  where
    zero_of : (ys : List Sym) → (IsAmong ys x → ⊥) → occurrences ys x ≡ 0
    zero_of [] n = refl
    zero_of (y ∷ ys) n = head_there y ys x (λ e. n (inl e)) ∙ zero_of ys (λ i. n (inr i))

    go : (before : List Sym) → (IsAmong before x → ⊥) → occurrences (before ++ x ∷ after) x ≡ 1
    go [] n = head_here x after x refl ∙ ap suc (zero_of after no_more)
    go (y ∷ ys) n = head_there y (ys ++ x ∷ after) x (λ e. n (inl e)) ∙ go ys (λ i. n (inr i))

-- what the tally tells
pub tally-none : (n : ℕ) → tally n ≡ None → n ≡ 0
tally-none zero e = refl
tally-none (suc zero) e = absurd (none-some 1 (sym e))
tally-none (suc (suc n)) e = absurd (none-some 2 (sym e))

pub tally-one : (n : ℕ) → tally n ≡ Some 1 → n ≡ 1
tally-one zero e = absurd (none-some 1 e)
tally-one (suc zero) e = refl
tally-one (suc (suc n)) e = let h : 2 ≡ 1 = same_Some 2 1 e in absurd (omega (arith, h))

pub tally-again : (n j : ℕ) → tally n ≡ Some j → tally (suc n) ≡ Some 2
tally-again zero j e = absurd (none-some j e)
tally-again (suc n) j e = refl

-- the uses so far with one more
module _ (calls statements : Cells) (before : List Use) where
  pub calls_none : IsBlank calls → IsBlank statements → AreCalls calls statements []
  calls_none no_calls no_statements = record {
    count = no_calls;
    places = λ x i e. absurd (none-some i (sym (no_statements x) ∙ e));
    bound = λ x i. absurd i;
  }

  pub calls_same : (u : Use) → binding u ≡ [] → AreCalls calls statements before → AreCalls calls statements (before ++ u ∷ [])
  calls_same u none known = record {
    count = λ x. known.count x ∙ ap (λ z. tally (occurrences z x)) (sym variables);
    places = λ x i e. let p = known.places x i e in (p.0, slice_get-append_left before (u ∷ []) i (Bound x p.0) p.1);
    bound = λ x i. known.bound x (subst (λ z. IsAmong z x) variables i);
  }
    where
      nothing : (xs : List (Sym × Sym)) → xs ++ [] ≡ xs
      nothing [] = refl
      nothing (x ∷ xs) = ap (λ z. x ∷ z) (nothing xs)

      variables : bound_variables (before ++ u ∷ []) ≡ bound_variables before
      variables =
          ap (map (λ (b : Sym × Sym). b.0))
          (gathered-append binding before (u ∷ []) ∙ ap (λ z. bindings before ++ (z ++ [])) none ∙ nothing (bindings before))

  pub calls_more : (new_calls new_statements : Cells) (y c : Sym) (place n : ℕ) → length before ≡ place → AreCalls calls statements before
      → Some n ≡ tally (suc (occurrences (bound_variables before) y)) → Puts calls new_calls y n → Puts statements new_statements y place
      → AreCalls new_calls new_statements (before ++ Bound y c ∷ [])
  calls_more new_calls new_statements y c place n here known next put put_place = record {
    count = λ x. count x (compared x y);
    places = λ x i e. places x i e (compared x y);
    bound = λ x i. bound x i (compared x y);
  }
    where
      push : (xs : List (Sym × Sym)) (p : Sym × Sym) → map (λ (b : Sym × Sym). b.0) (xs ++ p ∷ []) ≡ map (λ (b : Sym × Sym). b.0) xs ++ p.0 ∷ []
      push [] p = refl
      push (x ∷ xs) p = ap (λ z. x.0 ∷ z) (push xs p)

      variables : bound_variables (before ++ Bound y c ∷ []) ≡ bound_variables before ++ y ∷ []
      variables = ap (map (λ (b : Sym × Sym). b.0)) (gathered-append binding before (Bound y c ∷ [])) ∙ push (bindings before) (y, c)

      count : (x : Sym) → Compared x y → value_at new_calls x ≡ tally (occurrences (bound_variables (before ++ Bound y c ∷ [])) x)
      count x (same_name e) =
          ap (value_at new_calls) e ∙ puts_here calls new_calls y n put ∙ next
          ∙ ap tally (sym (ap (λ z. occurrences z x) variables ∙ ap (occurrences (bound_variables before ++ y ∷ [])) e ∙ occurrences-here (bound_variables before) y))
      count x (other_name o) =
          puts_there calls new_calls y n x put o ∙ known.count x
          ∙ ap tally (sym (ap (λ z. occurrences z x) variables ∙ occurrences-there (bound_variables before) y x o))

      places : (x : Sym) (i : ℕ) → value_at new_statements x ≡ Some i → Compared x y → (d : Sym) × (slice_get (before ++ Bound y c ∷ []) i ≡ Some (Bound x d))
      places x i e (same_name s) =
          let at : place ≡ i = same_Some place i (sym (puts_here statements new_statements y place put_place) ∙ ap (value_at new_statements) (sym s) ∙ e) in
          (c, slice_get-at before [] (Bound y c) i (here ∙ at) ∙ ap (λ z. Some (Bound z c)) (sym s))
      places x i e (other_name o) =
          let p = known.places x i (sym (puts_there statements new_statements y place x put_place o) ∙ e) in
          (p.0, slice_get-append_left before (Bound y c ∷ []) i (Bound x p.0) p.1)

      bound : (x : Sym) → IsAmong (bound_variables (before ++ Bound y c ∷ [])) x → Compared x y → IsSet new_statements x
      bound x i (same_name e) = (place, ap (value_at new_statements) e ∙ puts_here statements new_statements y place put_place)
      bound x i (other_name o) =
          elim (IsAmong-one_more (bound_variables before) y x (subst (λ z. IsAmong z x) variables i)) [
            | inl p ↦ (let b = known.bound x p in (b.0, puts_there statements new_statements y place x put_place o ∙ b.1))
            | inr p ↦ absurd (o p)
          ]

-- What the tables of a class decide.
module _ (m : List Item) (k : Class) (v : Variables) (vs : AreVariables m k v) where
  called : (x : Sym) → IsSet v.calls x → IsAmong (call_variables k) x
  called x (n, at) = present (call_variables k) x (λ e. none-some n (sym (vs.calls.count x ∙ ap tally e) ∙ at))

  not_called : (x : Sym) → (IsSet v.calls x → ⊥) → IsAmong (call_variables k) x → ⊥
  not_called x none = absent (call_variables k) x (zero_of (occurrences (call_variables k) x) refl)
    where
      zero_of : (n : ℕ) → occurrences (call_variables k) x ≡ n → occurrences (call_variables k) x ≡ 0
      zero_of zero e = e
      zero_of (suc zero) e = absurd (none (1, vs.calls.count x ∙ ap tally e))
      zero_of (suc (suc n)) e = absurd (none (2, vs.calls.count x ∙ ap tally e))

  is_called : (x : Sym) → IsAmong (call_variables k) x → IsSet v.calls x
  is_called x i = by (occurrences (call_variables k) x) refl
    where
      by : (n : ℕ) → occurrences (call_variables k) x ≡ n → IsSet v.calls x
      by zero e = absurd (absent (call_variables k) x e i)
      by (suc zero) e = (1, vs.calls.count x ∙ ap tally e)
      by (suc (suc n)) e = (2, vs.calls.count x ∙ ap tally e)

  pub plain_no : (x : Sym) → IsSet v.calls x → IsRightExport m k x → ⊥
  plain_no x set right = right.1 (called x set)

  pub plain_yes : (x : Sym) → IsAmong (asked_in k) x → (IsSet v.calls x → ⊥) → IsSet v.seen x ↔ IsRightExport m k x
  plain_yes x asked none = ((λ s. ((vs.seen x asked).0 s, not_called x none)), (λ r. (vs.seen x asked).1 r.0))

  pub bound_no : (x c : Sym) → (value_at v.calls x ≡ Some 1 → ⊥) → IsRightUse m k (Bound x c) → ⊥
  bound_no x c no_one right = no_one (vs.calls.count x ∙ ap tally (counted_once (call_variables k) x right.1))

  pub bound_yes : (x c : Sym) → value_at v.calls x ≡ Some 1 → IsSet v.declared x ↔ IsRightUse m k (Bound x c)
  bound_yes x c one = (
    (λ s. ((vs.declared x).0 s, once (call_variables k) x (tally-one (occurrences (call_variables k) x) (sym (vs.calls.count x) ∙ one)))),
    (λ r. (vs.declared x).1 r.0),
  )

  pub dot_no : (x y : Sym) → (IsSet v.calls x → ⊥) → IsRightUse m k (Dotted x y) → ⊥
  dot_no x y none right = not_called x none right.0

  pub dot_yes : (x y : Sym) → IsAmong (asked_in k) x → IsSet v.calls x → IsSet v.seen x ↔ IsRightUse m k (Dotted x y)
  dot_yes x y asked set = ((λ s. (called x set, (vs.seen x asked).0 s)), (λ r. (vs.seen x asked).1 r.1))

-- what a use prints that is not right
pub printed_is : (m : List Item) (k : Class) (u : Use) → (IsRightUse m k u → ⊥) → IsVariableOf u (record { of = None; name = variable_in u })
printed_is m k (Alone x) wrong = refl
printed_is m k (Bound x c) wrong = refl
printed_is m k (Called c) wrong = absurd (wrong tt)
printed_is m k (Dotted x y) wrong = refl

-- a use that binds is a binding
pub use_binds : (uses : List Use) (x c : Sym) → IsAmong uses (Bound x c) → IsAmong (bindings uses) (x, c)
use_binds [] x c i = absurd i
use_binds (u ∷ us) x c (inl e) = subst (λ z. IsAmong (bindings (z ∷ us)) (x, c)) e (inl refl)
use_binds (u ∷ us) x c (inr i) = IsAmong-append_right (binding u) (bindings us) (x, c) (use_binds us x c i)

-- a variable that is bound once is bound to one class
no_more_bound : (b : Sym × Sym) (bs : List (Sym × Sym)) (x : Sym) → occurrences (map (λ (b : Sym × Sym). b.0) (b ∷ bs)) x ≡ 1 → x ≡ b.0 → (c : Sym) → IsAmong bs (x, c) → ⊥
no_more_bound b bs x e s c i =
    let vars : List Sym = map (λ (b : Sym × Sym). b.0) bs in
    let none : occurrences vars x ≡ 0 = let h : suc (occurrences vars x) ≡ 1 = sym (head_here b.0 vars x s) ∙ e in omega (arith, h) in
    absent vars x none (IsAmong-map (λ (b : Sym × Sym). b.0) bs (x, c) i)

one_of : (bs : List (Sym × Sym)) (x c d : Sym) → occurrences (map (λ (b : Sym × Sym). b.0) bs) x ≡ 1 → IsAmong bs (x, c) → IsAmong bs (x, d) → c ≡ d
one_of [] x c d e i j = absurd i
one_of (b ∷ bs) x c d e (inl p) (inl q) = ap (λ (z : Sym × Sym). z.1) (p ∙ sym q)
one_of (b ∷ bs) x c d e (inl p) (inr j) = absurd (no_more_bound b bs x e (ap (λ (z : Sym × Sym). z.0) p) d j)
one_of (b ∷ bs) x c d e (inr i) (inl q) = absurd (no_more_bound b bs x e (ap (λ (z : Sym × Sym). z.0) q) c i)
one_of (b ∷ bs) x c d e (inr i) (inr j) = by (compared x b.0) (one_of bs x c d)
  where
    by : Compared x b.0 → (occurrences (map (λ (b : Sym × Sym). b.0) bs) x ≡ 1 → IsAmong bs (x, c) → IsAmong bs (x, d) → c ≡ d) → c ≡ d
    by (same_name s) more = absurd (no_more_bound b bs x e s d j)
    by (other_name o) more = more (sym (head_there b.0 (map (λ (b : Sym × Sym). b.0) bs) x o) ∙ e) i j

pub one_class : (bs : List (Sym × Sym)) (x c d : Sym) → StandsOnce (map (λ (b : Sym × Sym). b.0) bs) x → IsAmong bs (x, c) → IsAmong bs (x, d) → c ≡ d
one_class bs x c d single i j = one_of bs x c d (counted_once (map (λ (b : Sym × Sym). b.0) bs) x single) i j

-- what the tables tell of a dot, where all variables stand where they may
module _ (m : List Item) (k : Class) (v : Variables) (vs : AreVariables m k v) (right : Each (IsRightUse m k) (uses_of k)) where
  pub dot_exports : (x y : Sym) → IsAmong (uses_of k) (Dotted x y) → IsExported m v.statements (uses_of k) x y ↔ IsRightDot m k (Dotted x y)
  dot_exports x y among = (forth, back)
    where
      forth : IsExported m v.statements (uses_of k) x y → IsRightDot m k (Dotted x y)
      forth exported c binds =
          let used = Each-at (IsRightUse m k) (uses_of k) (Dotted x y) right among in
          let set = vs.calls.bound x used.0 in
          let p = vs.calls.places x set.0 set.1 in
          let bound = IsAmong-slice_get (uses_of k) set.0 (Bound x p.0) p.1 in
          let single = (Each-at (IsRightUse m k) (uses_of k) (Bound x p.0) right bound).1 in
          let same = one_class (bindings (uses_of k)) x p.0 c single (use_binds (uses_of k) x p.0 bound) binds in
          subst (λ z. IsAmong (exports_of m z) y) same (exported set.0 p.0 set.1 p.1)

      back : IsRightDot m k (Dotted x y) → IsExported m v.statements (uses_of k) x y
      back fine i c at stands = fine c (use_binds (uses_of k) x c (IsAmong-slice_get (uses_of k) i (Bound x c) stands))

-- the class in the use at the place of the variable exports the name
pub exported_some : (m : List Item) (t : Cells) (uses : List Use) (x y : Sym) (place : ℕ) (d : Use) (r : Bool) → AreStatements t uses → value_at t x ≡ Some place
    → ((z c : Sym) → get_or uses place d ≡ Bound z c → (IsTrue r ↔ IsAmong (exports_of m c) y)) → IsTrue r ↔ IsExported m t uses x y
exported_some m t uses x y place d r known at does = (
  (λ h i c set stands.
      let here : i ≡ place = same_Some i place (sym set ∙ at) in
      (does x c (same_Some _ _ (sym (slice_get-get_or uses place d (within)) ∙ ap (slice_get uses) (sym here) ∙ stands))).0 h),
  (λ exported.
      let p = known x place at in
      (does x p.0 (same_Some _ _ (sym (slice_get-get_or uses place d (within)) ∙ p.1))).1 (exported place p.0 at p.1)),
)
  where
    within : place < length uses
    within = let p = known x place at in slice_get_within uses place (Bound x p.0) p.1

pub exported_none : (m : List Item) (t : Cells) (uses : List Use) (x y : Sym) → value_at t x ≡ None → IsExported m t uses x y
exported_none m t uses x y none i c at stands = absurd (none-some i (sym none ∙ at))

pub place_within : (t : Cells) (uses : List Use) (x : Sym) (place : ℕ) → AreStatements t uses → value_at t x ≡ Some place → place < length uses
place_within t uses x place known at = let p = known x place at in slice_get_within uses place (Bound x p.0) p.1

-- the variable of the first wrong use is printed
pub first_printed : (m : List Item) (k : Class) (uses : List Use) (i : ℕ) (d : Use) (x : Sym) → i < length uses → Each (IsRightUse m k) (take i uses) → (IsRightUse m k (get_or uses i d) → ⊥)
    → x ≡ variable_in (get_or uses i d) → IsFirstWrongUse m k uses x
first_printed m k uses i d x within each wrong is = (
  get_or uses i d,
  subst (λ z. IsVariableOf (get_or uses i d) (record { of = None; name = z })) (sym is) (printed_is m k (get_or uses i d) wrong),
  first_without (IsRightUse m k) uses i d within each wrong,
)

pub marks_declared : (old new : Cells) (names declares : List Sym) → names ≡ declares → IsBlank old → Marks old new names → (x : Sym) → IsSet new x ↔ IsAmong declares x
marks_declared old new names declares e blank marks x = subst (λ z. IsSet new x ↔ IsAmong z x) e (marks_blank old new names blank marks x)

-- what the tables tell of a use with a dot
pub dot_at : (m : List Item) (k : Class) (v : Variables) (uses : List Use) (x y : Sym) (one : Use) (r : Bool) → AreVariables m k v → uses ≡ uses_of k → Each (IsRightUse m k) uses
    → one ≡ Dotted x y → IsAmong uses one → (IsTrue r ↔ IsExported m v.statements uses x y) → IsTrue r ↔ IsRightDot m k one
dot_at m k v uses x y one r vs is right e among tells =
    let among_k = subst (λ z. IsAmong (uses_of k) z) e (subst (λ z. IsAmong z one) is among) in
    let exports = dot_exports m k v vs (subst (Each (IsRightUse m k)) is right) x y among_k in (
      (λ h. subst (IsRightDot m k) (sym e) (exports.0 (subst (λ z. IsExported m v.statements z x y) is (tells.0 h)))),
      (λ h. tells.1 (subst (λ z. IsExported m v.statements z x y) (sym is) (exports.1 (subst (IsRightDot m k) e h)))),
    )
