-- The properties of a node block are spelled again by their pieces, the colour first.
use Rattle.std.specs.Prelude.{◌≡◌, ℕ, ◌≤◌, ◌<◌, List, [], ◌∷◌, ◌++◌, map, Option, Some, None, codes, cond, not, Bool, true, false, ◌==◌, slice_get, refl, ⊤}
use Rattle.std.specs.List.{filter}
use Rattle.std.proofs.Common.{sym, ap, ap₂, ◌∙◌, subst, inl, inr, arith, append_assoc}
use Rattle.std.proofs.lemmas.List.{append-nil}
use Rattle.std.proofs.lemmas.Bool.{ne_eqb, false≢true}
use Rattle.std.proofs.lemmas.Option.{same_Some}
use Rattle.gr_base.specs.Lists.{Each, IsAmong, NoneTwice}
use Rattle.gr_base.proofs.ListLemmas.{Each-append, one_place}
use Rattle.gr_symbols.specs.Numbers.{Names}
use Rattle.gr_terms.specs.Constants.{CAT}
use Rattle.gr_terms.specs.declared.Sym.{Sym}
use Rattle.mg_syntax.specs.declared.block.Paint.{Paint}
use Rattle.mg_syntax.specs.declared.body.Side.{Side}
use Rattle.mg_syntax.specs.declared.body.Side.TheVariants as side
use Rattle.mg_reader.specs.declared.lexeme.Kind.{Kind}
use Rattle.mg_reader.specs.declared.lexeme.Kind.TheVariants as kind
use Rattle.mg_reader.specs.declared.lexeme.Class.TheVariants as of
use Rattle.mg_reader.specs.declared.lexeme.Lexeme.{Lexeme}
use Rattle.mg_reader.specs.declared.found.Given.{Given}
use Rattle.mg_reader.specs.declared.found.Given.TheVariants as given
use Rattle.mg_reader.specs.declared.found.Property.{Property}
use Rattle.mg_reader.specs.declared.found.Properties.{Properties}
use Rattle.mg_reader.specs.Kinds.{kind_number, word_kind}
use Rattle.mg_reader.specs.Values.{paint_of, or_else, with_property, with_properties, no_properties, category_pairs}
use Rattle.mg_reader.specs.Spelling.{Is, IsA, Separated, last_separated, separated, nothing, something, within, MaybeEnclosed, not_enclosed, enclosed, SpellsSide, SpellsProperty, a_colour, a_mark, a_property}
use Rattle.mg_printer.specs.Pieces.{Piece, a_sign, a_key, enclosed as written_enclosed}
use Rattle.mg_printer.specs.Values.{pair_pieces}
use Rattle.mg_printer.specs.Blocks.{paint_text, colour_parts, is_category, category_pieces, property_parts, category_parts}
use Rattle.mg_reader.proofs.KindLists.{in_class, one_kind, is_kind, in_range, same_class}
use Rattle.mg_reader.proofs.Real.{IsReal, real_word}
use Rattle.mg_printer.proofs.Canons.{Canon, Then, One, rest_real, canon_map, canon_then, canon_key, key_name, canon_word, canon_name_of, parens}
use Rattle.mg_printer.proofs.CanonLists.{AreCanon}
use Rattle.mg_printer.proofs.CanonValues.{plain, equals, comma, canon_side}
use Rattle.mg_printer.proofs.CanonParts.{IsPart, in_brackets, canon_parts}

-- a colour, or an attribute with its value
pub data Part : Type 0 where
  painted : Paint → Part
  paired : Sym × Side → Part

abbrev pub part_pieces : Part → List Piece
part_pieces (painted c) = a_key (codes "color") ∷ a_sign (codes "=") ∷ a_key (paint_text c) ∷ []
part_pieces (paired p) = pair_pieces p

-- the part that a property is
abbrev pub part_by : Sym → Given → Part
part_by n (given.Paint c) = painted c
part_by n (given.Value v) = paired (n, v)

abbrev pub part_of : Property → Part
part_of p = part_by p.key.name p.given

-- the number may be that of the part's attribute
abbrev pub IsKeyOf : List (List ℕ) → Part → ℕ → Type 0
IsKeyOf texts (painted c) n = Names texts n (codes "color")
IsKeyOf texts (paired p) n = n ≡ p.0.0

-- lexemes spell a property that is the part
abbrev pub SpellsPart : List (List ℕ) → Part → List Lexeme → List Lexeme → Type 0
SpellsPart texts x ts rest = (p : Property) × SpellsProperty p ts rest × (part_of p ≡ x) × IsKeyOf texts x p.key.name.0

-- the parts of a list, apart
abbrev pub owns : List Part → List (Sym × Side)
owns [] = []
owns (painted c ∷ xs) = owns xs
owns (paired p ∷ xs) = p ∷ owns xs

abbrev pub first_paint : List Part → Option Paint
first_paint [] = None
first_paint (painted c ∷ xs) = Some c
first_paint (paired p ∷ xs) = first_paint xs

abbrev pub painted_list : Option Paint → List Part
painted_list None = []
painted_list (Some c) = painted c ∷ []

abbrev pub part_list : Option Paint → List (Sym × Side) → List Part
part_list c own = painted_list c ++ map paired own

-- properties in brackets with this colour and these pairs
abbrev pub SpellsProperties : Properties → List Lexeme → List Lexeme → Type 0
SpellsProperties r ts rest =
    (ps : List Property) × NoneTwice (map (λ (p : Property). p.key.name.0) ps) × MaybeEnclosed kind.LeftParen kind.RightParen (Separated kind.Comma SpellsProperty) ps ts rest × (with_properties no_properties ps ≡ r)

-- what properties give is the first colour and the pairs
add_all : (q : Properties) (ps : List Property) → with_properties q ps ≡ record { colour = or_else q.colour (first_paint (map part_of ps)); own = q.own ++ owns (map part_of ps) }
add_all q [] = ap₂ {C = Properties} (λ c o. record { colour = c; own = o }) (same q.colour) (sym (append-nil q.own))
  where
    same : (c : Option Paint) → c ≡ or_else c None
    same None = refl
    same (Some x) = refl
add_all q (p ∷ ps) = by p.given (add_all (with_property q p) ps)
  where
    first : (a : Option Paint) (c : Paint) (o : Option Paint) → or_else (or_else a (Some c)) o ≡ or_else a (Some c)
    first None c o = refl
    first (Some x) c o = refl

    by : (g : Given) → with_properties (with_property q (record { key = p.key; given = g })) ps ≡ record { colour = or_else (with_property q (record { key = p.key; given = g })).colour (first_paint (map part_of ps)); own = (with_property q (record { key = p.key; given = g })).own ++ owns (map part_of ps) }
        → with_properties (with_property q (record { key = p.key; given = g })) ps ≡ record { colour = or_else q.colour (first_paint (part_by p.key.name g ∷ map part_of ps)); own = q.own ++ owns (part_by p.key.name g ∷ map part_of ps) }
    by (given.Paint c) e = e ∙ ap {B = Properties} (λ z. record { colour = z; own = q.own ++ owns (map part_of ps) }) (first q.colour c (first_paint (map part_of ps)))
    by (given.Value v) e = e ∙ ap {B = Properties} (λ z. record { colour = or_else q.colour (first_paint (map part_of ps)); own = z }) (append_assoc q.own ((p.key.name, v) ∷ []) (owns (map part_of ps)))

pub all_added : (ps : List Property) → with_properties no_properties ps ≡ record { colour = first_paint (map part_of ps); own = owns (map part_of ps) }
all_added ps = add_all no_properties ps

module _ (texts : List (List ℕ)) where
  join_painted : (k : Kind) (c : Paint) (a b : List Lexeme) → paint_of k ≡ c → Then (One (λ j. IsA kind.Color j × Names texts j.name.0 (codes "color"))) (Then (One (IsA kind.Equals)) (One (λ j. Is of.Paint j × (j.kind ≡ k)))) a b → SpellsPart texts (painted c) a b
  join_painted k c a b is (m, (j, e, q), (n, (d, f, i), (l, g, r))) = (
    record { key = j; given = given.Paint (paint_of l.kind) },
    subst (λ z. SpellsProperty (record { key = j; given = given.Paint (paint_of l.kind) }) z b) (sym (e ∙ ap (λ z. j ∷ z) (f ∙ ap (λ z. d ∷ z) g))) (a_colour q.0 i r.0),
    ap painted (ap paint_of r.1 ∙ is),
    q.1,
  )

  join_mark : (n v : Sym) (a b : List Lexeme) → Then (One (λ j. IsA kind.Mark j × (j.name ≡ n))) (Then (One (IsA kind.Equals)) (One (λ j. Is of.Marker j × (j.name ≡ v)))) a b → SpellsPart texts (paired (n, side.Name v)) a b
  join_mark n v a b (m, (j, e, q), (o, (d, f, i), (l, g, r))) = (
    record { key = j; given = given.Value (side.Name l.name) },
    subst (λ z. SpellsProperty (record { key = j; given = given.Value (side.Name l.name) }) z b) (sym (e ∙ ap (λ z. j ∷ z) (f ∙ ap (λ z. d ∷ z) g))) (a_mark q.0 i r.0),
    ap₂ (λ x y. paired (x, side.Name y)) q.1 r.1,
    ap (λ (s : Sym). s.0) q.1,
  )

  join_property : (n : Sym) (v : Side) (a b : List Lexeme) → Then (One (λ j. Is of.Property j × (j.name ≡ n))) (Then (One (IsA kind.Equals)) (SpellsSide v)) a b → SpellsPart texts (paired (n, v)) a b
  join_property n v a b (m, (j, e, q), (o, (d, f, i), s)) = (
    record { key = j; given = given.Value v },
    subst (λ z. SpellsProperty (record { key = j; given = given.Value v }) z b) (sym (e ∙ ap (λ z. j ∷ z) f)) (a_property q.0 i s),
    ap (λ x. paired (x, v)) q.1,
    ap (λ (s : Sym). s.0) q.1,
  )

  colour_word : {ts : List Lexeme} (c : Lexeme) → IsReal texts c → Is of.Paint c → Canon texts (One (λ j. Is of.Paint j × (j.kind ≡ c.kind))) (a_key (paint_text (paint_of c.kind)) ∷ []) (c ∷ ts) ts
  colour_word {ts} c real h = elim (in_class of.Paint c (omega arith) h) [
    | inl e ↦ one kind.Black (codes "black") refl e (canon_key texts kind.Black (codes "black") refl refl (λ n. omega arith) (omega arith) (omega arith) c real (is_kind kind.Black c e))
    | inr r ↦ elim r [
      | inl e ↦ one kind.White (codes "white") refl e (canon_key texts kind.White (codes "white") refl refl (λ n. omega arith) (omega arith) (omega arith) c real (is_kind kind.White c e))
      | inr q ↦ elim q [
        | inl e ↦ one kind.Red (codes "red") refl e (canon_key texts kind.Red (codes "red") refl refl (λ n. omega arith) (omega arith) (omega arith) c real (is_kind kind.Red c e))
        | inr n ↦ absurd n
      ]
    ]
  ]
    where
      one : (k : Kind) (s : List ℕ) → paint_text (paint_of k) ≡ s → c.kind ≡ k → Canon texts (One (λ j. IsA k j × Names texts j.name.0 s)) (a_key s ∷ []) (c ∷ ts) ts → Canon texts (One (λ j. Is of.Paint j × (j.kind ≡ c.kind))) (a_key (paint_text (paint_of c.kind)) ∷ []) (c ∷ ts) ts
      one k s is e canon =
          subst (λ z. Canon texts (One (λ j. Is of.Paint j × (j.kind ≡ c.kind))) (a_key z ∷ []) (c ∷ ts) ts) (sym (ap (λ z. paint_text (paint_of z)) e ∙ is))
          (canon_map texts (λ a b q. (q.0, q.1, (same_class of.Paint c q.0 (one_kind k q.0 q.2.0 ∙ sym e) h, one_kind k q.0 q.2.0 ∙ sym e))) canon)

  canon_property : (p : Property) (ts rest : List Lexeme) → Each (IsReal texts) ts → SpellsProperty p ts rest → Canon texts (SpellsPart texts (part_of p)) (part_pieces (part_of p)) ts rest
  canon_property _ _ rest real (a_colour {k} {e} {c} i j h) =
      canon_map texts (λ a b q. join_painted c.kind (paint_of c.kind) a b refl q)
      (canon_then texts (canon_key texts kind.Color (codes "color") refl refl (λ n. omega arith) (omega arith) (omega arith) k real.0 i) (canon_then texts (plain texts equals e j) (colour_word c real.1.1.0 h)))
  canon_property _ _ rest real (a_mark {k} {e} {m} i j h) =
      canon_map texts (λ a b q. join_mark k.name m.name a b q)
      (canon_then texts (canon_word texts (of.Is kind.Mark) (omega arith) (omega arith) k real.0 i) (canon_then texts (plain texts equals e j) (canon_name_of texts of.Marker (omega arith) (omega arith) m real.1.1.0 h)))
  canon_property _ _ rest real (a_property {k} {e} {v} {ts} i j s) =
      canon_map texts (λ a b q. join_property k.name v a b q)
      (canon_then texts (canon_word texts of.Property (omega arith) (omega arith) k real.0 i) (canon_then texts (plain texts equals e j) (canon_side texts v ts rest real.1.1 s)))

  canon_part : (x : Part) (ts rest : List Lexeme) → Each (IsReal texts) ts → SpellsPart texts x ts rest → Canon texts (SpellsPart texts x) (part_pieces x) ts rest
  canon_part x ts rest real (p, s, e, n) = subst (λ z. Canon texts (SpellsPart texts z) (part_pieces z) ts rest) e (canon_property p ts rest real s)

  parts : AreCanon texts (SpellsPart texts) part_pieces
  parts = record { canon = canon_part }

  key_of : (p : Property) (ts rest : List Lexeme) → Each (IsReal texts) ts → SpellsProperty p ts rest → IsKeyOf texts (part_of p) p.key.name.0
  key_of _ _ rest real (a_colour {k} i j h) = key_name texts kind.Color (codes "color") refl (λ n. omega arith) (omega arith) k real.0 i
  key_of _ _ rest real (a_mark i j h) = refl
  key_of _ _ rest real (a_property i j s) = refl

  as_part : (p : Property) (ts rest : List Lexeme) → Each (IsReal texts) ts → SpellsProperty p ts rest → SpellsPart texts (part_of p) ts rest
  as_part p ts rest real s = (p, s, refl, key_of p ts rest real s)

  to_parts : {ps : List Property} {ts rest : List Lexeme} → Each (IsReal texts) ts → Separated kind.Comma SpellsProperty ps ts rest → Separated kind.Comma (SpellsPart texts) (map part_of ps) ts rest
  to_parts {ts = ts} {rest = rest} real (last_separated {x} s) = last_separated (as_part x ts rest real s)
  to_parts {ts = ts} {rest = rest} real (separated {x} {mid = mid} {s = l} s i r) =
      separated (as_part x ts (l ∷ mid) real s) i (to_parts (rest_real texts (canon_property x ts (l ∷ mid) real s) real).1 r)

  to_list : {ps : List Property} {ts rest : List Lexeme} → Each (IsReal texts) ts → MaybeEnclosed kind.LeftParen kind.RightParen (Separated kind.Comma SpellsProperty) ps ts rest → MaybeEnclosed kind.LeftParen kind.RightParen (Separated kind.Comma (SpellsPart texts)) (map part_of ps) ts rest
  to_list real not_enclosed = not_enclosed
  to_list real (enclosed (within i nothing j)) = enclosed (within i nothing j)
  to_list real (enclosed (within i (something r) j)) = enclosed (within i (something (to_parts real.1 r)) j)

  -- the numbers are those of the parts' attributes, one by one
  AreKeys : List Part → List ℕ → Type 0
  AreKeys [] [] = ⊤
  AreKeys [] (n ∷ ns) = ⊥
  AreKeys (x ∷ xs) [] = ⊥
  AreKeys (x ∷ xs) (n ∷ ns) = IsKeyOf texts x n × AreKeys xs ns

  keys : List Property → List ℕ
  keys ps = map (λ (p : Property). p.key.name.0) ps

  record FromParts (xs : List Part) (a b : List Lexeme) : Type 0 where
    ps : List Property
    spelled : Separated kind.Comma SpellsProperty ps a b
    parts_are : map part_of ps ≡ xs
    keys_are : AreKeys xs (keys ps)

  from_parts : {xs : List Part} {a b : List Lexeme} → Separated kind.Comma (SpellsPart texts) xs a b → FromParts xs a b
  unfolding AreKeys keys
  from_parts (last_separated (p, s, e, n)) = record { ps = p ∷ []; spelled = last_separated s; parts_are = ap (λ z. z ∷ []) e; keys_are = (n, tt) }
  from_parts (separated (p, s, e, n) i r) =
      let f = from_parts r in
      record { ps = p ∷ f.ps; spelled = separated s i f.spelled; parts_are = ap₂ (λ z zs. z ∷ zs) e f.parts_are; keys_are = (n, f.keys_are) }

  record ListFromParts (xs : List Part) (a b : List Lexeme) : Type 0 where
    ps : List Property
    spelled : MaybeEnclosed kind.LeftParen kind.RightParen (Separated kind.Comma SpellsProperty) ps a b
    parts_are : map part_of ps ≡ xs
    keys_are : AreKeys xs (keys ps)

  list_from_parts : {xs : List Part} {a b : List Lexeme} → MaybeEnclosed kind.LeftParen kind.RightParen (Separated kind.Comma (SpellsPart texts)) xs a b → ListFromParts xs a b
  unfolding AreKeys keys
  list_from_parts not_enclosed = record { ps = []; spelled = not_enclosed; parts_are = refl; keys_are = tt }
  list_from_parts (enclosed (within i nothing j)) = record { ps = []; spelled = enclosed (within i nothing j); parts_are = refl; keys_are = tt }
  list_from_parts (enclosed (within i (something r) j)) = let f = from_parts r in record { ps = f.ps; spelled = enclosed (within i (something f.spelled) j); parts_are = f.parts_are; keys_are = f.keys_are }

  -- the attributes of pairs are among those of all parts, each once, and none is that of a colour
  attributes : List Part → List ℕ
  attributes xs = map (λ (p : Sym × Side). p.0.0) (owns xs)

  own_among : (xs : List Part) (ns : List ℕ) (n : ℕ) → AreKeys xs ns → IsAmong (attributes xs) n → IsAmong ns n
  unfolding AreKeys attributes
  own_among [] [] n k i = i
  own_among [] (m ∷ ns) n k i = absurd k
  own_among (x ∷ xs) [] n k i = absurd k
  own_among (painted c ∷ xs) (m ∷ ns) n k i = inr (own_among xs ns n k.1 i)
  own_among (paired p ∷ xs) (m ∷ ns) n k (inl e) = inl (e ∙ sym k.0)
  own_among (paired p ∷ xs) (m ∷ ns) n k (inr i) = inr (own_among xs ns n k.1 i)

  owns_once : (xs : List Part) (ns : List ℕ) → AreKeys xs ns → NoneTwice ns → NoneTwice (attributes xs)
  unfolding AreKeys attributes
  owns_once [] ns k once = tt
  owns_once (x ∷ xs) [] k once = absurd k
  owns_once (painted c ∷ xs) (m ∷ ns) k once = owns_once xs ns k.1 once.1
  owns_once (paired p ∷ xs) (m ∷ ns) k once = (λ i. once.0 (own_among xs ns m k.1 (subst (λ z. IsAmong (attributes xs) z) (sym k.0) i)), owns_once xs ns k.1 once.1)

  one_number : NoneTwice texts → (m n : ℕ) (t : List ℕ) → Names texts m t → Names texts n t → m ≡ n
  one_number once m n t a b = one_place texts m n t once a b

  colour_among : NoneTwice texts → (xs : List Part) (ns : List ℕ) (c : Paint) (n : ℕ) → AreKeys xs ns → first_paint xs ≡ Some c → Names texts n (codes "color") → IsAmong ns n
  unfolding AreKeys
  colour_among distinct [] ns c n k e h = absurd cc
  colour_among distinct (x ∷ xs) [] c n k e h = absurd k
  colour_among distinct (painted d ∷ xs) (m ∷ ns) c n k e h = inl (one_number distinct n m (codes "color") h k.0)
  colour_among distinct (paired p ∷ xs) (m ∷ ns) c n k e h = inr (colour_among distinct xs ns c n k.1 e h)

  colour_apart : NoneTwice texts → (xs : List Part) (ns : List ℕ) (c : Paint) (n : ℕ) → AreKeys xs ns → NoneTwice ns → first_paint xs ≡ Some c → Names texts n (codes "color") → IsAmong (attributes xs) n → ⊥
  unfolding AreKeys attributes
  colour_apart distinct [] ns c n k once e h i = i
  colour_apart distinct (x ∷ xs) [] c n k once e h i = absurd k
  colour_apart distinct (painted d ∷ xs) (m ∷ ns) c n k once e h i = once.0 (own_among xs ns m k.1 (subst (λ z. IsAmong (attributes xs) z) (one_number distinct n m (codes "color") h k.0) i))
  colour_apart distinct (paired p ∷ xs) (m ∷ ns) c n k once e h (inl f) = once.0 (subst (λ z. IsAmong ns z) (f ∙ sym k.0) (colour_among distinct xs ns c n k.1 e h))
  colour_apart distinct (paired p ∷ xs) (m ∷ ns) c n k once e h (inr i) = colour_apart distinct xs ns c n k.1 once.1 e h i

  -- the canonical parts of a colour and pairs
  owns_paired : (own : List (Sym × Side)) → owns (map paired own) ≡ own
  owns_paired [] = refl
  owns_paired (p ∷ own) = ap (λ z. p ∷ z) (owns_paired own)

  no_paint : (own : List (Sym × Side)) → first_paint (map paired own) ≡ None
  no_paint [] = refl
  no_paint (p ∷ own) = no_paint own

  part_list_is : (c : Option Paint) (own : List (Sym × Side)) → ◌≡◌ {A = Properties} (record { colour = first_paint (part_list c own); own = owns (part_list c own) }) (record { colour = c; own = own })
  part_list_is None own = ap₂ {C = Properties} (λ c o. record { colour = c; own = o }) (no_paint own) (owns_paired own)
  part_list_is (Some c) own = ap {B = Properties} (λ o. record { colour = Some c; own = o }) (owns_paired own)

  keys_of_pairs : (own : List (Sym × Side)) (ns : List ℕ) → AreKeys (map paired own) ns → ns ≡ map (λ (p : Sym × Side). p.0.0) own
  unfolding AreKeys
  keys_of_pairs [] [] k = refl
  keys_of_pairs [] (n ∷ ns) k = absurd k
  keys_of_pairs (p ∷ own) [] k = absurd k
  keys_of_pairs (p ∷ own) (n ∷ ns) k = ap₂ (λ z zs. z ∷ zs) k.0 (keys_of_pairs own ns k.1)

  keys_once : NoneTwice texts → (c : Option Paint) (own : List (Sym × Side)) (ns : List ℕ) → NoneTwice (map (λ (p : Sym × Side). p.0.0) own)
      → ((d : Paint) → c ≡ Some d → (n : ℕ) → Names texts n (codes "color") → IsAmong (map (λ (p : Sym × Side). p.0.0) own) n → ⊥) → AreKeys (part_list c own) ns → NoneTwice ns
  unfolding AreKeys
  keys_once distinct None own ns once apart k = subst (λ z. NoneTwice z) (sym (keys_of_pairs own ns k)) once
  keys_once distinct (Some d) own [] once apart k = absurd k
  keys_once distinct (Some d) own (n ∷ ns) once apart k =
      let is = keys_of_pairs own ns k.1 in
      (λ i. apart d refl n k.0 (subst (λ z. IsAmong z n) is i), subst (λ z. NoneTwice z) (sym is) once)

  paints_each : (I : Part → Type 0) (xs : List Part) → Each I xs → Each I (painted_list (first_paint xs))
  paints_each I [] h = tt
  paints_each I (painted c ∷ xs) h = (h.0, tt)
  paints_each I (paired p ∷ xs) h = paints_each I xs h.1

  owns_each : (I : Part → Type 0) (xs : List Part) → Each I xs → Each I (map paired (owns xs))
  owns_each I [] h = tt
  owns_each I (painted c ∷ xs) h = owns_each I xs h.1
  owns_each I (paired p ∷ xs) h = (h.0, owns_each I xs h.1)

  some_part : (xs : List Part) → (part_list (first_paint xs) (owns xs) ≡ [] → ⊥) → xs ≡ [] → ⊥
  some_part [] some e = some refl
  some_part (x ∷ xs) some e = absurd cc

  part_list_pieces : (c : Option Paint) (own : List (Sym × Side)) → map part_pieces (part_list c own) ≡ colour_parts c ++ map pair_pieces own
  part_list_pieces None own = all own
    where
      all : (own : List (Sym × Side)) → map part_pieces (map paired own) ≡ map pair_pieces own
      all [] = refl
      all (p ∷ own) = ap (λ z. pair_pieces p ∷ z) (all own)
  part_list_pieces (Some c) own = ap (λ z. part_pieces (painted c) ∷ z) (all own)
    where
      all : (own : List (Sym × Side)) → map part_pieces (map paired own) ≡ map pair_pieces own
      all [] = refl
      all (p ∷ own) = ap (λ z. pair_pieces p ∷ z) (all own)

  keys_given : {ps : List Property} {a b : List Lexeme} → Each (IsReal texts) a → Separated kind.Comma SpellsProperty ps a b → AreKeys (map part_of ps) (keys ps)
  unfolding AreKeys keys
  keys_given {a = a} {b = b} real (last_separated {x} s) = (key_of x a b real s, tt)
  keys_given {a = a} {b = b} real (separated {x} {mid = mid} {s = l} s i r) = (key_of x a (l ∷ mid) real s, keys_given (rest_real texts (canon_property x a (l ∷ mid) real s) real).1 r)

  all_keys_given : {ps : List Property} {a b : List Lexeme} → Each (IsReal texts) a → MaybeEnclosed kind.LeftParen kind.RightParen (Separated kind.Comma SpellsProperty) ps a b → AreKeys (map part_of ps) (keys ps)
  unfolding AreKeys keys
  all_keys_given real not_enclosed = tt
  all_keys_given real (enclosed (within i nothing j)) = tt
  all_keys_given real (enclosed (within i (something r) j)) = keys_given real.1 r

  spelled_again : NoneTwice texts → (ps : List Property) → NoneTwice (keys ps) → AreKeys (map part_of ps) (keys ps) → (a b : List Lexeme)
      → MaybeEnclosed kind.LeftParen kind.RightParen (Separated kind.Comma (SpellsPart texts)) (part_list (first_paint (map part_of ps)) (owns (map part_of ps))) a b → SpellsProperties (with_properties no_properties ps) a b
  unfolding keys attributes
  spelled_again distinct ps once given a b s =
      let xs = map part_of ps in
      let f = list_from_parts s in
      let fresh = keys_once distinct (first_paint xs) (owns xs) (keys f.ps) (owns_once xs (keys ps) given once) (λ d e n h i. colour_apart distinct xs (keys ps) d n given once e h i) f.keys_are in (
        f.ps,
        fresh,
        f.spelled,
        all_added f.ps ∙ (ap {B = Properties} (λ z. record { colour = first_paint z; own = owns z }) f.parts_are ∙ (part_list_is (first_paint xs) (owns xs) ∙ sym (all_added ps))),
      )

  pub canon_properties : NoneTwice texts → (r : Properties) (ts rest : List Lexeme) → Each (IsReal texts) ts → SpellsProperties r ts rest
      → Canon texts (SpellsProperties r) (written_enclosed (codes "(") (colour_parts r.colour ++ map pair_pieces r.own) (codes ")")) ts rest
  unfolding keys
  canon_properties distinct r ts rest real (ps, once, s, e) =
      let xs = map part_of ps in
      let known = in_brackets texts (SpellsPart texts) part_pieces parts kind.Comma refl parens real (to_list real s) in
      let I = IsPart texts (SpellsPart texts) part_pieces known.inner in
      let each : Each I (part_list (first_paint xs) (owns xs)) = Each-append I (painted_list (first_paint xs)) (map paired (owns xs)) (paints_each I xs known.each) (owns_each I xs known.each) in
      let whole = canon_parts texts (SpellsPart texts) part_pieces parens comma known (part_list (first_paint xs) (owns xs)) (some_part xs) each in
      let given = all_keys_given real s in
      let again = canon_map texts (λ a b q. spelled_again distinct ps once given a b q) whole in
      let pieces = part_list_pieces (first_paint xs) (owns xs) in
      subst (λ z. Canon texts (SpellsProperties z) (written_enclosed (codes "(") (colour_parts z.colour ++ map pair_pieces z.own) (codes ")")) ts rest) e
      (subst (λ (z : Properties). Canon texts (SpellsProperties (with_properties no_properties ps)) (written_enclosed (codes "(") (colour_parts z.colour ++ map pair_pieces z.own) (codes ")")) ts rest) (sym (all_added ps))
      (subst (λ z. Canon texts (SpellsProperties (with_properties no_properties ps)) (written_enclosed (codes "(") z (codes ")")) ts rest) pieces again))

  -- a word that isn't `cat` has another number
  other_word : Names texts CAT (codes "cat") → (k : Lexeme) → IsReal texts k → 26 ≤ kind_number k.kind → kind_number k.kind < 55 → (k.name.0 == CAT) ≡ false
  other_word cat k real high small = ne_eqb k.name.0 CAT (λ e.
      let w = real_word texts k real high in
      let same : Some w.text ≡ Some (codes "cat") = sym w.names ∙ (ap (λ n. slice_get texts n) e ∙ cat) in
      let is : kind_number k.kind ≡ 55 = ap kind_number (w.kind_is ∙ ap word_kind (same_Some w.text (codes "cat") same)) in
      omega (arith, is, small))

  one_plain : Names texts CAT (codes "cat") → (p : Property) (ts rest : List Lexeme) → Each (IsReal texts) ts → SpellsProperty p ts rest → Each (λ q. is_category q ≡ false) (owns (part_of p ∷ []))
  one_plain cat _ _ rest real (a_colour i j h) = tt
  one_plain cat _ _ rest real (a_mark {k} i j h) = (other_word cat k real.0 (omega (arith, (in_range (of.Is kind.Mark) k i).0)) (omega (arith, (in_range (of.Is kind.Mark) k i).1)), tt)
  one_plain cat _ _ rest real (a_property {k} i j s) = (other_word cat k real.0 (omega (arith, (in_range of.Property k i).0)) (omega (arith, (in_range of.Property k i).1)), tt)

  owns-cons : (x : Part) (xs : List Part) → owns (x ∷ xs) ≡ owns (x ∷ []) ++ owns xs
  owns-cons (painted c) xs = refl
  owns-cons (paired p) xs = refl

  plain_pairs : Names texts CAT (codes "cat") → {ps : List Property} {ts rest : List Lexeme} → Each (IsReal texts) ts → Separated kind.Comma SpellsProperty ps ts rest → Each (λ q. is_category q ≡ false) (owns (map part_of ps))
  plain_pairs cat {ts = ts} {rest = rest} real (last_separated {x} s) = one_plain cat x ts rest real s
  plain_pairs cat {ts = ts} {rest = rest} real (separated {x} {xs} {mid = mid} {s = l} s i r) =
      subst (λ z. Each (λ q. is_category q ≡ false) z) (sym (owns-cons (part_of x) (map part_of xs)))
      (Each-append (λ q. is_category q ≡ false) (owns (part_of x ∷ [])) (owns (map part_of xs)) (one_plain cat x ts (l ∷ mid) real s) (plain_pairs cat (rest_real texts (canon_property x ts (l ∷ mid) real s) real).1 r))

  all_plain : Names texts CAT (codes "cat") → {ps : List Property} {ts rest : List Lexeme} → Each (IsReal texts) ts → MaybeEnclosed kind.LeftParen kind.RightParen (Separated kind.Comma SpellsProperty) ps ts rest → Each (λ q. is_category q ≡ false) (owns (map part_of ps))
  all_plain cat real not_enclosed = tt
  all_plain cat real (enclosed (within i nothing j)) = tt
  all_plain cat real (enclosed (within i (something r) j)) = plain_pairs cat real.1 r

  pub no_category : Names texts CAT (codes "cat") → (r : Properties) (ts rest : List Lexeme) → Each (IsReal texts) ts → SpellsProperties r ts rest → Each (λ q. is_category q ≡ false) r.own
  no_category cat r ts rest real (ps, once, s, e) =
      subst (λ (z : Properties). Each (λ q. is_category q ≡ false) z.own) (sym (all_added ps) ∙ e) (all_plain cat real s)

-- of the pairs of a node the properties are those but the category, and the category is the one behind them
pub property_parts_are : (own : List (Sym × Side)) (c : Option Side) → Each (λ q. is_category q ≡ false) own → property_parts (own ++ category_pairs c) ≡ map pair_pieces own
property_parts_are [] None h = refl
property_parts_are [] (Some v) h = refl
property_parts_are (p ∷ own) c h = by (is_category p) h.0 (property_parts_are own c h.1)
  where
    by : (b : Bool) → b ≡ false → property_parts (own ++ category_pairs c) ≡ map pair_pieces own → map pair_pieces (cond (not b) (p ∷ filter (λ q. not (is_category q)) (own ++ category_pairs c)) (filter (λ q. not (is_category q)) (own ++ category_pairs c))) ≡ pair_pieces p ∷ map pair_pieces own
    by true e r = absurd (false≢true (sym e))
    by false e r = ap (λ z. pair_pieces p ∷ z) r

pub category_parts_are : (own : List (Sym × Side)) (c : Option Side) → Each (λ q. is_category q ≡ false) own → category_parts (own ++ category_pairs c) ≡ map category_pieces (category_pairs c)
category_parts_are [] None h = refl
category_parts_are [] (Some v) h = refl
category_parts_are (p ∷ own) c h = by (is_category p) h.0 (category_parts_are own c h.1)
  where
    by : (b : Bool) → b ≡ false → category_parts (own ++ category_pairs c) ≡ map category_pieces (category_pairs c) → map category_pieces (cond b (p ∷ filter is_category (own ++ category_pairs c)) (filter is_category (own ++ category_pairs c))) ≡ map category_pieces (category_pairs c)
    by true e r = absurd (false≢true (sym e))
    by false e r = r
