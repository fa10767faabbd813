-- Each class of a metagrammar that keeps the rules of scope has a number of steps, and under each budget a refusal or a right list.
use Rattle.std.specs.Prelude.{◌≡◌, ℕ, zero, suc, ◌+◌, ◌<◌, ◌≤◌, List, [], ◌∷◌, ◌++◌, map, take, Bool, true, false, Option, Some, None, ◌⊎◌, ◌↔◌, length, sum, slice_get, refl}
use Rattle.std.specs.List.{AllZip}
use Rattle.std.proofs.Common.{inl, inr, ap, sym, ◌∙◌, subst, arith}
use Rattle.std.proofs.lemmas.Option.{none-some, slice_get_within, same_Some}
use Rattle.gr_base.specs.Lists.{IsAmong, Each, NoneTwice, InByteOrder, gathered}
use Rattle.gr_base.proofs.ListLemmas.{IsAmong-append, IsAmong-append_left, IsAmong-append_right, IsAmong-slice_get, Each-at, Each-members}
use Rattle.gr_terms.specs.Networks.{Term, name, variable, Assertion, entry, equate, link}
use Rattle.gr_terms.specs.declared.Sym.{Sym}
use Rattle.mg_syntax.specs.declared.item.Item.{Item}
use Rattle.mg_syntax.specs.Names.{HasTexts}
use Rattle.td_canon.specs.CanonicalTexts.{text_in}
use Rattle.td_canon.proofs.OrderLemmas.{texts_apart}
use Rattle.td_desc.specs.Descriptions.{Description}
use Rattle.td_solver.specs.Solutions.{IsModelTotal, IsSolutionText}
use Rattle.td_count.specs.TextsOfModels.{DifferByTexts}
use Rattle.gr_base.specs.Decisions.{IsDecided}
use Rattle.gr_base.proofs.Deciding.{decided_less, decided_no_more}
use Rattle.gr_base.proofs.Numbers.{before_or_at}
use Rattle.td_count.proofs.Counting.{models_counted}
use Rattle.td_count.proofs.Sorting.{sorted}
use Rattle.td_count.proofs.Solving.{all_texts}
use Rattle.mg_facts.specs.declared.variable.Variable.{Variable}
use Rattle.mg_facts.specs.Said.{Slot, own_of, top_of, bottom_of, Said, block, related, one_node, identified, is_name, coloured, paired, says}
use Rattle.mg_facts.specs.Meanings.{assertions, network, one_assertions, names_in, Clashes, IsDescribed}
use Rattle.mg_count.proofs.Telling.{decided_variable, decided_slot}
use Rattle.mg_count.proofs.Clashing.{decided_clash}
use Rattle.mg_count.proofs.Describing.{described}
use Rattle.mg_expand.specs.Walks.{Walk, IsExpansion, AreExpansions}
use Rattle.mg_expand.specs.Items.{expansion_said, expansion_weight}
use Rattle.mg_expand.specs.Steps.{IsTooLarge}
use Rattle.mg_expand.proofs.WalkLemmas.{one_list}
use Rattle.mg_compile.specs.declared.refusal.CompileRefusal.{CompileRefusal}
use Rattle.mg_compile.specs.declared.refusal.CompileRefusal.TheVariants as refusal
use Rattle.mg_compile.specs.Compiled.{Describes, IsCompiledText, IsCompiledList, IsExpansionTotal, IsModelSteps, IsTextWithin, IsCutList, IsRightList, HasTooManyNodes, IsFaultOf, IsFaultless, IsClassFault}
use Rattle.mg_compile.proofs.Carried.{AreOneDescription, one_count}
use Rattle.mg_compile.proofs.Naming.{expansion_named}
use Rattle.mg_compile.proofs.Uniqueness.{same_steps}
use Rattle.mg_compile.proofs.Zipped.{zip_last, zip_unique}

totals_exist : (d : Description Variable Slot) (n : ℕ) → (total : ℕ) × IsModelTotal d n total
totals_exist d zero = (0, refl)
totals_exist d (suc n) =
    let below = totals_exist d n in
    let last = models_counted decided_variable decided_slot d (suc n) in
    (below.0 + last.0, (below.0, last.0, below.1, last.1, refl))

-- ---- an entry of what is said has an attribute that is said

no_entry_of_one : (x y : Variable) (s : Slot) (a : ℕ) (t : Term Variable) → IsAmong (one_assertions x y) (entry s a t) → ⊥
no_entry_of_one x y s a t i = elim i [
  | inl e ↦ let d : ◌≡◌ {A = Assertion Variable Slot} (entry s a t) (equate (variable x) (variable y)) = e in cc d
  | inr j ↦ elim j [
    | inl e ↦ let d : ◌≡◌ {A = Assertion Variable Slot} (entry s a t) (link (own_of x) (own_of y)) = e in cc d
    | inr k ↦ elim k [
      | inl e ↦ let d : ◌≡◌ {A = Assertion Variable Slot} (entry s a t) (link (top_of x) (top_of y)) = e in cc d
      | inr l ↦ elim l [
        | inl e ↦ let d : ◌≡◌ {A = Assertion Variable Slot} (entry s a t) (link (bottom_of x) (bottom_of y)) = e in cc d
        | inr m ↦ m
      ]
    ]
  ]
]

attribute_in : (f : Said) (s : Slot) (a : ℕ) (t : Term Variable) → IsAmong (assertions f) (entry s a t) → IsAmong (names_in f) a
attribute_in (block x) s a t i = absurd i
attribute_in (related x how y) s a t i = absurd i
attribute_in (one_node x y) s a t i = absurd (no_entry_of_one x y s a t i)
attribute_in (identified x y) s a t i = absurd (no_entry_of_one x y s a t i)
attribute_in (is_name x b) s a t (inl e) = absurd (let d : ◌≡◌ {A = Assertion Variable Slot} (entry s a t) (equate (variable x) (name b)) = e in cc d)
attribute_in (is_name x b) s a t (inr i) = absurd i
attribute_in (coloured x c) s a t i = absurd i
attribute_in (paired r b u) s a t (inl e) = inl (let d : ◌≡◌ {A = Assertion Variable Slot} (entry s a t) (entry r b u) = e in cc d)
attribute_in (paired r b u) s a t (inr i) = absurd i
attribute_in (says l) s a t i = absurd i

attribute_said : (all : List Said) (s : Slot) (a : ℕ) (t : Term Variable) → IsAmong (network all) (entry s a t) → IsAmong (gathered names_in all) a
attribute_said [] s a t i = absurd i
attribute_said (f ∷ all) s a t i = elim (IsAmong-append (assertions f) (network all) (entry s a t) i) [
  | inl j ↦ IsAmong-append_left (names_in f) (gathered names_in all) a (attribute_in f s a t j)
  | inr j ↦ IsAmong-append_right (names_in f) (gathered names_in all) a (attribute_said all s a t j)
]

map-same : {A : Type 0} (xs : List A) → map (λ x. x) xs ≡ xs
map-same [] = refl
map-same (x ∷ xs) = ap (λ l. x ∷ l) (map-same xs)

module _ (m : List Item) where
  -- ---- steps

  total_of : (w : Walk) → (n : ℕ) × IsExpansionTotal m w n
  total_of w = by_decision (decided_clash (expansion_said m w)) (described (expansion_said m w))
    where
      by_decision : IsDecided (Clashes (expansion_said m w)) → ((d : Description Variable Slot) × IsDescribed (expansion_said m w) d) → (n : ℕ) × IsExpansionTotal m w n
      by_decision (inl h) d = (0, inl (h, refl))
      by_decision (inr n) d = let t = totals_exist d.0 (length d.0.nodes) in (t.0, inr (d.0, (n, d.1), t.1))

  totals_of : (ws : List Walk) → (totals : List ℕ) × AllZip (IsExpansionTotal m) ws totals
  totals_of [] = ([], tt)
  totals_of (w ∷ ws) = let t = total_of w in let rest = totals_of ws in (t.0 ∷ rest.0, (t.1, rest.1))

  pub steps_of : (c : Sym) (ws : List Walk) → AreExpansions m c ws → (steps : ℕ) × IsModelSteps m c steps
  steps_of c ws h =
      let t = totals_of ws in (
        length ws + sum t.0,
        record {
          walks = ws;
          totals = t.0;
          expansions = h;
          counted = t.1;
          sum = refl;
        },
      )

  module _ (one : AreOneDescription) (c : Sym) where
    -- ---- faults

    decided_many : (w : Walk) → IsDecided (HasTooManyNodes m w)
    decided_many w = by_clash (decided_clash (expansion_said m w)) (described (expansion_said m w))
      where
        by_number : (n : Clashes (expansion_said m w) → ⊥) (d : (k : Description Variable Slot) × IsDescribed (expansion_said m w) k) → IsDecided (24 < length d.0.nodes) → IsDecided (HasTooManyNodes m w)
        by_number n d (inl l) = inl (d.0, (n, d.1), l)
        by_number n d (inr k) = inr (λ h. k (subst (λ (e : Description Variable Slot). 24 < length e.nodes) (one (expansion_said m w) h.0 d.0 n h.1.1 d.1) h.2))

        by_clash : IsDecided (Clashes (expansion_said m w)) → ((k : Description Variable Slot) × IsDescribed (expansion_said m w) k) → IsDecided (HasTooManyNodes m w)
        by_clash (inl h) d = inr (λ g. g.1.0 h)
        by_clash (inr n) d = by_number n d (decided_less 24 (length d.0.nodes))

    abbrev HasFault : Walk → Type 0
    HasFault w = (e : CompileRefusal) × IsFaultOf m c w e

    fault_at : (w : Walk) → HasFault w ⊎ IsFaultless m c w
    fault_at w = by_size (decided_less 4096 (expansion_weight m w)) (decided_many w)
      where
        none : (IsTooLarge m w → ⊥) → (HasTooManyNodes m w → ⊥) → (e : CompileRefusal) → IsFaultOf m c w e → ⊥
        none n k (refusal.TooLarge j) h = n h.1
        none n k (refusal.TooManyNodes j) h = k h.2
        none n k refusal.Memory h = h

        by_size : IsDecided (IsTooLarge m w) → IsDecided (HasTooManyNodes m w) → HasFault w ⊎ IsFaultless m c w
        by_size (inl h) g = inl (refusal.TooLarge c, (refl, h))
        by_size (inr n) (inl h) = inl (refusal.TooManyNodes c, (refl, n, h))
        by_size (inr n) (inr k) = inr (none n k)

    -- the first walk of the list that has a fault
    record FirstFault (ws : List Walk) : Type 0 where
      pub place : ℕ
      pub walk : Walk
      pub here : slice_get ws place ≡ Some walk
      pub fault : HasFault walk
      pub before : (n : ℕ) (w : Walk) → n < place → slice_get ws n ≡ Some w → IsFaultless m c w

    first_fault : (ws : List Walk) → FirstFault ws ⊎ Each (IsFaultless m c) ws
    first_fault [] = inr tt
    first_fault (w ∷ ws) = by_head (fault_at w) (first_fault ws)
      where
        later : IsFaultless m c w → (r : FirstFault ws) → (n : ℕ) (v : Walk) → n < suc r.place → slice_get (w ∷ ws) n ≡ Some v → IsFaultless m c v
        later h r zero v l e = subst (λ u. IsFaultless m c u) (same_Some w v e) h
        later h r (suc n) v l e = r.before n v (omega (arith, l)) e

        by_head : HasFault w ⊎ IsFaultless m c w → FirstFault ws ⊎ Each (IsFaultless m c) ws → FirstFault (w ∷ ws) ⊎ Each (IsFaultless m c) (w ∷ ws)
        by_head (inl h) r = inl (record { place = 0; walk = w; here = refl; fault = h; before = λ n v l e. absurd (let q : n < 0 = l in omega (arith, q)) })
        by_head (inr n) (inl r) = inl (record { place = suc r.place; walk = r.walk; here = r.here; fault = r.fault; before = later n r })
        by_head (inr n) (inr h) = inr (n, h)

    module _ (ws : List Walk) (expansions : AreExpansions m c ws) (budget : ℕ) where
      abbrev HasNone : Type 0
      HasNone = (e : CompileRefusal) → IsClassFault m c budget e → ⊥

      here_too : (f : CompileRefusal) (h : IsClassFault m c budget f) → slice_get ws h.place ≡ Some h.walk
      here_too f h = subst (λ vs. slice_get vs h.place ≡ Some h.walk) (one_list m c h.walks ws h.expansions expansions) h.here

      pub class_fault : ((e : CompileRefusal) × IsClassFault m c budget e) ⊎ HasNone
      class_fault = by_first (first_fault ws)
        where
          by_place : (r : FirstFault ws) → IsDecided (r.place < budget) → ((e : CompileRefusal) × IsClassFault m c budget e) ⊎ HasNone
          by_place r (inl l) = inl (
            r.fault.0,
            record {
              walks = ws;
              place = r.place;
              walk = r.walk;
              expansions = expansions;
              within = l;
              here = r.here;
              fault = r.fault.1;
              before = r.before;
            },
          )
          by_place r (inr n) = inr (λ f h. r.before h.place h.walk (let l = h.within in let k : (r.place < budget) → ⊥ = n in below r h.place budget k l) (here_too f h) f h.fault)
            where
              below : (s : FirstFault ws) (p b : ℕ) → (s.place < b → ⊥) → p < b → p < s.place
              below s p b k l = elim (decided_less p s.place) [ inl q ↦ q | inr q ↦ absurd (k (not_less p s.place b q l)) ]
                where
                  not_less : (i j o : ℕ) → (i < j → ⊥) → i < o → j < o
                  not_less i j o f g = elim (decided_less j o) [ inl h ↦ h | inr h ↦ absurd (f (between i j o h g)) ]
                    where
                      between : (i j o : ℕ) → (j < o → ⊥) → i < o → i < j
                      between i j o f g = omega (arith, g, f)

          by_first : FirstFault ws ⊎ Each (IsFaultless m c) ws → ((e : CompileRefusal) × IsClassFault m c budget e) ⊎ HasNone
          by_first (inl r) = by_place r (decided_less r.place budget)
          by_first (inr none) = inr (λ f h. Each-at (IsFaultless m c) ws h.walk none (among ws h.place h.walk (here_too f h)) f h.fault)
            where
              among : (vs : List Walk) (n : ℕ) (w : Walk) → slice_get vs n ≡ Some w → IsAmong vs w
              among [] n w e = absurd (let q = e in cc)
              among (v ∷ vs) zero w e = inl (sym (same_Some v w e))
              among (v ∷ vs) (suc n) w e = inr (among vs n w e)

    -- ---- lists

    module _ (texts : List (List ℕ)) (once : NoneTwice texts) (known : HasTexts texts m) where
      abbrev text : ℕ → List ℕ
      text = text_in texts

      differ : (w : Walk) → IsExpansion m c w → (d : Description Variable Slot) → IsDescribed (expansion_said m w) d → DifferByTexts text d
      differ w e d h p q s r x y i j is =
          let all = expansion_said m w in
          let below = expansion_named (length texts) m known c w e in
          let said_p = attribute_said all s p x (subst (λ N. IsAmong N (entry s p x)) h.network i) in
          let said_q = attribute_said all r q y (subst (λ N. IsAmong N (entry r q y)) h.network j) in
          texts_apart texts p q once (Each-at (λ a. a < length texts) (gathered names_in all) p below said_p) (Each-at (λ a. a < length texts) (gathered names_in all) q below said_q) is

      abbrev IsTextOf : Walk → List ℕ → Type 0
      IsTextOf w b = (d : Description Variable Slot) × Describes m w d × IsSolutionText text d b

      abbrev TextsOf : Walk → Type 0
      TextsOf w = (bs : List (List ℕ)) × ((b : List ℕ) → IsAmong bs b ↔ IsTextOf w b)

      texts_at : (w : Walk) → IsExpansion m c w → TextsOf w
      texts_at w e = by_clash (decided_clash (expansion_said m w)) (described (expansion_said m w))
        where
          by_clash : IsDecided (Clashes (expansion_said m w)) → ((k : Description Variable Slot) × IsDescribed (expansion_said m w) k) → TextsOf w
          by_clash (inl h) d = ([], λ b. ((λ i. absurd i), λ g. absurd (g.1.0 h)))
          by_clash (inr n) d =
              let r = all_texts decided_variable decided_slot text d.0 (differ w e d.0 d.1) in (
                r.0,
                λ b. (
                  (λ i. (d.0, (n, d.1), (r.1 b).0 i)),
                  λ g. (r.1 b).1 (subst (λ k. IsSolutionText text k b) (one (expansion_said m w) g.0 d.0 n g.1.1 d.1) g.2),
                ),
              )

      record TextsOfAll (ws : List Walk) : Type 0 where
        pub list : List (List ℕ)
        pub only : (b : List ℕ) → IsAmong list b → IsCompiledText text m c b
        pub all : (w : Walk) (b : List ℕ) → IsAmong ws w → IsTextOf w b → IsAmong list b

      texts_of_all : (ws : List Walk) → Each (IsExpansion m c) ws → TextsOfAll ws
      texts_of_all [] h = record { list = []; only = λ b i. absurd i; all = λ w b i g. absurd i }
      texts_of_all (w ∷ ws) h =
          let here = texts_at w h.0 in
          let rest = texts_of_all ws h.1 in
          record {
            list = here.0 ++ rest.list;
            only = λ b i. elim (IsAmong-append here.0 rest.list b i) [
              | inl j ↦ let g = (here.1 b).0 j in (w, g.0, h.0, g.1, g.2)
              | inr j ↦ rest.only b j
            ];
            all = λ v b i g. elim i [
              | inl e ↦ IsAmong-append_left here.0 rest.list b ((here.1 b).1 (subst (λ u. IsTextOf u b) e g))
              | inr j ↦ IsAmong-append_right here.0 rest.list b (rest.all v b j g)
            ];
          }

      compiled : (ws : List Walk) → AreExpansions m c ws → (list : List (List ℕ)) × IsCompiledList text m c list
      compiled ws e =
          let r = texts_of_all ws e.all.only in
          let s = sorted (λ b. b) r.list in (
            s.0,
            record {
              order = subst InByteOrder (map-same s.0) s.1.order;
              all = λ b. (
                (λ i. r.only b (s.1.only b i)),
                λ g.
                    let i = r.all g.0 b (e.all.all g.0 g.2) (g.1, g.3, g.4) in
                    let k = s.1.all b i in
                    subst (λ z. IsAmong s.0 z) k.2 k.1,
              );
            },
          )

      -- the texts of the expansions that the budget pays for
      module _ (ws : List Walk) (e : AreExpansions m c ws) (budget : ℕ) where
        abbrev cost : ℕ → ℕ
        cost n = n + sum (totals_of (take n ws)).0

        reach : (n : ℕ) (w : Walk) → slice_get ws n ≡ Some w → cost (suc n) ≤ budget → (b : List ℕ) → IsTextOf w b → IsTextWithin text m c budget b
        reach n w at few b t =
            let all = totals_of (take (suc n) ws) in
            let v : suc n + sum all.0 ≤ budget = few in
            record {
              walks = ws;
              place = n;
              walk = w;
              expansions = e;
              within = omega arith;
              reached = λ steps f.
                  let r = zip_last (IsExpansionTotal m) ws n w all.0 at all.1 in
                  let q : f.totals ≡ r.0.before = zip_unique (IsExpansionTotal m) (one_count one m) (take n ws) f.totals r.0.before f.counted r.0.zipped in
                  let s : sum all.0 ≡ sum r.0.before + r.0.here = r.1 in
                  let o : sum f.totals ≡ sum r.0.before = ap (λ (ts : List ℕ). sum ts) q in
                  let u : steps ≡ n + sum f.totals = f.sum in
                  omega arith;
              here = at;
              is_text = t;
            }

        -- those among the first n
        record PaidTexts (n : ℕ) : Type 0 where
          pub list : List (List ℕ)
          pub only : (b : List ℕ) → IsAmong list b → IsTextWithin text m c budget b
          pub all : (k : ℕ) (w : Walk) (b : List ℕ) → k < n → slice_get ws k ≡ Some w → cost (suc k) ≤ budget → IsTextOf w b → IsAmong list b

        one_more : (n : ℕ) → PaidTexts n → (o : Option Walk) → slice_get ws n ≡ o → IsDecided (cost (suc n) ≤ budget) → PaidTexts (suc n)
        one_more n r None q d = record {
          list = r.list;
          only = r.only;
          all = λ k w b l at paid t. elim (before_or_at k n l) [ inl h ↦ r.all k w b h at paid t | inr h ↦ absurd (none-some w (sym q ∙ (ap (slice_get ws) (sym h) ∙ at))) ];
        }
        one_more n r (Some v) q (inl few) =
            let here = texts_at v (Each-at (IsExpansion m c) ws v e.all.only (IsAmong-slice_get ws n v q)) in
            record {
              list = here.0 ++ r.list;
              only = λ b i. elim (IsAmong-append here.0 r.list b i) [ inl j ↦ reach n v q few b ((here.1 b).0 j) | inr j ↦ r.only b j ];
              all = λ k w b l at paid t. elim (before_or_at k n l) [
                | inl h ↦ IsAmong-append_right here.0 r.list b (r.all k w b h at paid t)
                | inr h ↦ IsAmong-append_left here.0 r.list b ((here.1 b).1 (subst (λ u. IsTextOf u b) (same_Some w v (sym at ∙ (ap (slice_get ws) h ∙ q))) t))
              ];
            }
        one_more n r (Some v) q (inr not) = record {
          list = r.list;
          only = r.only;
          all = λ k w b l at paid t. elim (before_or_at k n l) [ inl h ↦ r.all k w b h at paid t | inr h ↦ absurd (not (subst (λ z. cost (suc z) ≤ budget) h paid)) ];
        }

        paid_texts : (n : ℕ) → PaidTexts n
        paid_texts zero = record { list = []; only = λ b i. absurd i; all = λ k w b l at paid t. absurd (none k l) }
          where
            none : (k : ℕ) → k < 0 → ⊥
            none k l = omega arith
        paid_texts (suc n) = one_more n (paid_texts n) (slice_get ws n) refl (decided_no_more (cost (suc n)) budget)

        cut_list : (steps : ℕ) → IsModelSteps m c steps → budget < steps → (list : List (List ℕ)) × IsCutList text m c budget list
        cut_list steps s l =
            let r = paid_texts (length ws) in
            let t = sorted (λ b. b) r.list in (
              t.0,
              record {
                order = subst InByteOrder (map-same t.0) t.1.order;
                all = λ b x.
                    let same : x.walks ≡ ws = one_list m c x.walks ws x.expansions e in
                    let here : slice_get ws x.place ≡ Some x.walk = subst (λ vs. slice_get vs x.place ≡ Some x.walk) same x.here in
                    let zipped = subst (λ vs. AllZip (IsExpansionTotal m) (take (suc x.place) vs) x.counted.totals) same x.counted.counted in
                    let n = totals_of (take (suc x.place) ws) in
                    let q : x.counted.totals ≡ n.0 = zip_unique (IsExpansionTotal m) (one_count one m) (take (suc x.place) ws) x.counted.totals n.0 zipped n.1 in
                    let o : sum x.counted.totals ≡ sum n.0 = ap (λ (ts : List ℕ). sum ts) q in
                    let u : x.steps ≡ suc x.place + sum x.counted.totals = x.counted.sum in
                    let paid : suc x.place + sum n.0 ≤ budget = omega (arith, x.most) in
                    let k = t.1.all b (r.all x.place x.walk b (slice_get_within ws x.place x.walk here) here paid x.is_text) in
                    subst (λ z. IsAmong t.0 z) k.2 k.1;
                only = Each-members (IsTextWithin text m c budget) t.0 (λ b i. r.only b (t.1.only b i));
                past = λ k h. subst (λ n. budget < n) (same_steps one m c steps k s h) l;
              },
            )

      abbrev HasRightList : ℕ → Type 0
      HasRightList budget = (list : List (List ℕ)) × (cut : Bool) × IsRightList text m c budget list cut

      -- under a budget less than the steps the texts that are paid for are right, and else the whole list
      pub right_list : (ws : List Walk) → AreExpansions m c ws → 0 < length ws → (budget : ℕ) → HasRightList budget
      right_list ws e some budget = by_steps (steps_of c ws e) (decided_less budget (steps_of c ws e).0) (compiled ws e)
        where
          more : (s : (steps : ℕ) × IsModelSteps m c steps) → (budget < s.0 → ⊥) → 0 < budget
          more s n =
              let all : s.1.walks ≡ ws = one_list m c s.1.walks ws s.1.expansions e in
              let q : s.0 ≡ length s.1.walks + sum s.1.totals = s.1.sum in
              let p : 0 < length s.1.walks = subst (λ vs. 0 < length vs) (sym all) some in
              positive s.0 (length s.1.walks) (sum s.1.totals) q p n
            where
              positive : (a b k : ℕ) → a ≡ b + k → 0 < b → (budget < a → ⊥) → 0 < budget
              positive a b k q p n = omega (arith, q, p, n)

          enough : (s : (steps : ℕ) × IsModelSteps m c steps) → (budget < s.0 → ⊥) → (steps : ℕ) → IsModelSteps m c steps → steps ≤ budget
          enough s n steps h = no_more s.0 steps (same_steps one m c s.0 steps s.1 h) n
            where
              no_more : (a b : ℕ) → a ≡ b → (budget < a → ⊥) → b ≤ budget
              no_more a b q n = omega (arith, q, n)

          by_steps : (s : (steps : ℕ) × IsModelSteps m c steps) → IsDecided (budget < s.0) → ((list : List (List ℕ)) × IsCompiledList text m c list) → HasRightList budget
          by_steps s (inl l) whole = let r = cut_list ws e budget s.0 s.1 l in (r.0, true, r.1)
          by_steps s (inr n) whole = (whole.0, false, record { whole = whole.1; some = more s n; enough = enough s n })
