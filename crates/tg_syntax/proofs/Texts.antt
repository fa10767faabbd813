-- Texts of the grammar that are put together part by part, with the properties that a reading of them meets.
use Rattle.std.proofs.Common.{◌≡◌, ℕ, List, [], ◌∷◌, ◌++◌, Bool, true, false, refl, ap, sym, ◌∙◌, subst, append_assoc, append-nil}
use Rattle.std.specs.Prelude.{◌==◌, ◌&&◌, if◌then◌else◌}
use Rattle.std.specs.List.{join_with_byte}
use Rattle.std.proofs.lemmas.Bool.{true≢false, eq-eqb}
use Rattle.std.proofs.Math.Nat.{ℕ_set}
use Rattle.gr_base.specs.Lists.{Each, gathered}
use Rattle.gr_base.proofs.ListLemmas.{Each-append}
use Rattle.gr_grammar.specs.Grammars.{System, Grammar, tok, nil, seq, alt, star, part, Matches, a_token, no_token, both, the_left, the_right, no_more, one_more, by_part, Runs, took, take_token, take_nothing, run_both, run_left, run_right, run_end, run_more, run_part, tree_of}
use Rattle.gr_grammar.proofs.Fronts.{and_left, and_right}
use Rattle.gr_grammar.proofs.OneTree.{one_tree}
use Rattle.gr_grammar.proofs.Runs.{text_run}
use Rattle.tg_syntax.specs.declared.class.Class.{Class}
use Rattle.tg_syntax.specs.declared.class.Class.TheVariants.{Byte}
use Rattle.tg_syntax.specs.Families.{node_part}
use Rattle.tg_syntax.specs.Names.{keyword, pair}
use Rattle.tg_syntax.specs.Trees.{PROPERTY, node}
use Rattle.tg_syntax.specs.Files.{system, parts, LINES, lines, file}
use Rattle.tg_syntax.specs.Visits.{begun}
use Rattle.tg_syntax.specs.Breaks.{Obeys}
use Rattle.tg_syntax.specs.Answers.{IsGrammarFile}
use Rattle.tg_syntax.proofs.FileSystem.{is_system, file_is_clear, parts_node}
use Rattle.tg_syntax.proofs.Noting.{plain, plain_part, parts_plain, no_property_there, not_property, not_node}

-- what is left to read each time that the tree has the part with the number p, in the order of the text
abbrev pub met : {C T : Type 0} {S : System C T} {g : Grammar C} {ts rest : List T} → ℕ → Matches S g ts rest → List (List T)
met p (a_token h) = []
met p no_token = []
met p (both a b) = met p a ++ met p b
met p (the_left a) = met p a
met p (the_right a) = met p a
met p no_more = []
met p (one_more a) = met p a
met p (by_part {n} {ts} a) = if n == p then (ts ∷ met p a) else met p a

-- a run meets what its tree has
pub begun-met : {C T : Type 0} {S : System C T} {g : Grammar C} {ts rest : List T} (p : ℕ) (r : Runs S g ts (took rest)) → begun p r ≡ met p (tree_of r)
begun-met p (take_token h) = refl
begun-met p take_nothing = refl
begun-met p (run_both a b) = (λ i. begun-met p a i ++ begun-met p b i)
begun-met p (run_left h a) = begun-met p a
begun-met p (run_right h a) = begun-met p a
begun-met p (run_end h) = refl
begun-met p (run_more h a) = begun-met p a
begun-met p (run_part {n} {ts} a) = (λ i. if n == p then (ts ∷ begun-met p a i) else begun-met p a i)

-- parts without properties meet none
pub plain_met : {g : Grammar Class} {ts rest : List ℕ} (m : Matches system g ts rest) → plain g ≡ true → met PROPERTY m ≡ []
unfolding plain plain_part
plain_met (a_token h) p = refl
plain_met no_token p = refl
plain_met (both {g} {h} a b) p = (λ i. plain_met a (and_left (plain g) (plain h) p) i ++ plain_met b (and_right (plain g) (plain h) p) i)
plain_met (the_left {g} {h} a) p = plain_met a (and_left (plain g) (plain h) p)
plain_met (the_right {g} {h} a) p = plain_met a (and_right (plain g) (plain h) p)
plain_met no_more p = refl
plain_met (one_more {g} a) p = plain_met a (twice (plain g) p)
  where
    twice : (b : Bool) → b ≡ true → (b && b) ≡ true
    twice true h = refl
    twice false h = h
plain_met (by_part {n} {ts} a) p = not_property (n == PROPERTY) (ts ∷ met PROPERTY a) (met PROPERTY a) (no_property_there n (n == PROPERTY) refl p) (plain_met a (parts_plain n p))

-- ---- texts whose properties all obey

-- a front of the bytes is a text of the grammar, no property of which breaks the rule
pub record Takes (g : Grammar Class) (ts rest : List ℕ) : Type 0 where
  pub tree : Matches system g ts rest
  pub obey : Each Obeys (met PROPERTY tree)

pub plain_takes : {g : Grammar Class} {ts rest : List ℕ} → plain g ≡ true → Matches system g ts rest → Takes g ts rest
plain_takes p m = record { tree = m; obey = subst (Each Obeys) (sym (plain_met m p)) tt }

pub takes_token : {c : Class} {t : ℕ} {ts : List ℕ} → system.test c t ≡ true → Takes (tok c) (t ∷ ts) ts
takes_token h = record { tree = a_token h; obey = tt }

pub takes_nothing : {ts : List ℕ} → Takes nil ts ts
takes_nothing = record { tree = no_token; obey = tt }

pub takes_both : {g h : Grammar Class} {ts mid rest : List ℕ} → Takes g ts mid → Takes h mid rest → Takes (seq g h) ts rest
takes_both x y = record { tree = both x.tree y.tree; obey = Each-append Obeys (met PROPERTY x.tree) (met PROPERTY y.tree) x.obey y.obey }

pub takes_left : {g h : Grammar Class} {ts rest : List ℕ} → Takes g ts rest → Takes (alt g h) ts rest
takes_left x = record { tree = the_left x.tree; obey = x.obey }

pub takes_right : {g h : Grammar Class} {ts rest : List ℕ} → Takes h ts rest → Takes (alt g h) ts rest
takes_right x = record { tree = the_right x.tree; obey = x.obey }

pub takes_end : {g : Grammar Class} {ts : List ℕ} → Takes (star g) ts ts
takes_end = record { tree = no_more; obey = tt }

pub takes_more : {g : Grammar Class} {ts rest : List ℕ} → Takes (seq g (star g)) ts rest → Takes (star g) ts rest
takes_more x = record { tree = one_more x.tree; obey = x.obey }

pub takes_keyword : (bs rest : List ℕ) → Takes (keyword bs) (bs ++ rest) rest
takes_keyword [] rest = takes_nothing
takes_keyword (b ∷ bs) rest = takes_both (takes_token (same b)) (takes_keyword bs rest)
  where
    same : (b : ℕ) → (b == b) ≡ true
    same b = eq-eqb b b refl

pub takes_lines : {ts rest : List ℕ} → Takes lines ts rest → Takes (part LINES) ts rest
takes_lines x = record { tree = by_part {n = LINES} x.tree; obey = x.obey }

pub takes_property : {ts rest : List ℕ} → Matches system pair ts rest → Obeys ts → Takes (part PROPERTY) ts rest
unfolding plain plain_part
takes_property {ts} m o = record { tree = by_part {n = PROPERTY} m; obey = (o, subst (Each Obeys) (sym (plain_met m refl)) tt) }

other_way : (b : Bool) (x y : List (List ℕ)) → b ≡ false → Each Obeys y → Each Obeys (if b then x else y)
other_way true x y e h = absurd (true≢false e)
other_way false x y e h = h

pub takes_node : (n : ℕ) {ts rest : List ℕ} → Takes (node n) ts rest → Takes (part (node_part n)) ts rest
takes_node n {ts} {rest} x =
    let P : Grammar Class → Type 0 = λ g. (m : Matches system g ts rest) × Each Obeys (met PROPERTY m) in
    let y : P (parts (node_part n)) = subst P (sym (parts_node n)) (x.tree, x.obey) in
    record { tree = by_part {n = node_part n} y.0; obey = other_way (node_part n == PROPERTY) (ts ∷ met PROPERTY y.0) (met PROPERTY y.0) (not_node n (node_part n == PROPERTY) refl) y.1 }

-- bytes that are written in another way
pub takes_as : {g : Grammar Class} {ts us rest : List ℕ} → ts ≡ us → Takes g us rest → Takes g ts rest
takes_as {g} {rest = rest} e x = subst (λ z. Takes g z rest) (sym e) x

-- ---- rows

-- each of the texts is taken, in front of what may stand behind it
abbrev pub AreTaken : (List ℕ → Type 0) → Grammar Class → List (List ℕ) → Type 0
AreTaken Behind g xs = Each (λ x. (rest : List ℕ) → Behind rest → Takes g (x ++ rest) rest) xs

-- the texts with a byte before each
abbrev pub led : ℕ → List (List ℕ) → List ℕ
led b xs = gathered (λ x. b ∷ x) xs

pub join-led : (b : ℕ) (x : List ℕ) (xs : List (List ℕ)) → join_with_byte b (x ∷ xs) ≡ x ++ led b xs
join-led b x [] = sym (append-nil x)
join-led b x (y ∷ ys) = ap (λ z. x ++ b ∷ z) (join-led b y ys)

module _ (Behind : List ℕ → Type 0) (b : ℕ) (may : (ts : List ℕ) → Behind (b ∷ ts)) where
  behind_led : (xs : List (List ℕ)) (rest : List ℕ) → Behind rest → Behind (led b xs ++ rest)
  behind_led [] rest h = h
  behind_led (x ∷ xs) rest h = may ((x ++ led b xs) ++ rest)

  pub takes_row : (g : Grammar Class) (xs : List (List ℕ)) → AreTaken Behind g xs → (rest : List ℕ) → Behind rest → Takes (star (seq (tok (Byte b)) g)) (led b xs ++ rest) rest
  takes_row g [] taken rest h = takes_end
  takes_row g (x ∷ xs) taken rest h =
      takes_as (append_assoc (b ∷ x) (led b xs) rest)
      (takes_more (takes_both (takes_both (takes_token (eq-eqb b b refl)) (taken.0 (led b xs ++ rest) (behind_led xs rest h))) (takes_row g xs taken.1 rest h)))

  -- texts with the byte between each two
  pub takes_joined : (g : Grammar Class) (x : List ℕ) (xs : List (List ℕ)) → AreTaken Behind g (x ∷ xs) → (rest : List ℕ) → Behind rest → Takes (seq g (star (seq (tok (Byte b)) g))) (join_with_byte b (x ∷ xs) ++ rest) rest
  takes_joined g x xs taken rest h =
      takes_as (ap (λ z. z ++ rest) (join-led b x xs) ∙ append_assoc x (led b xs) rest)
      (takes_both (taken.0 (led b xs ++ rest) (behind_led xs rest h)) (takes_row g xs taken.1 rest h))

-- ---- a whole text

pub file_of : {ts : List ℕ} → Takes file ts [] → IsGrammarFile ts
file_of {ts} x =
    let run : Runs system file ts (took []) = text_run system is_system file_is_clear x.tree in
    let same : tree_of run ≡ x.tree = one_tree system is_system ℕ_set file_is_clear (tree_of run) x.tree in
    record { run = run; text = x.tree; obey = subst (Each Obeys) (sym (begun-met PROPERTY run ∙ ap (met PROPERTY) same)) x.obey }
