-- Networks that are interpreted in each other: slots, terms and values that answer each other.
use Rattle.std.specs.Prelude.{ℕ, List}
use Rattle.gr_base.specs.Lists.{IsWithin}
use Rattle.gr_terms.specs.Networks.{Term, Assertion, AreLinked, AreLinkedSlots, shared, back, next, back_slot, next_slot, HasValue, put_term}
use Rattle.gr_terms.specs.Interpretations.{Interprets}
use Rattle.gr_terms.proofs.NetworkLemmas.{AreLinked-put, AreLinkedSlots-put, AreLinked-part, AreLinkedSlots-part, HasValue-put}
use Rattle.td_desc.specs.Likeness.{AreInterpreted, AreSlotsOf, AreTermsOf}

-- the other way round
abbrev pub turned : {V W S R : Type 0} (N : List (Assertion V S)) (M : List (Assertion W R)) → AreInterpreted N M → AreInterpreted M N
turned N M e = record { forth = e.back_again; forth_slot = e.back_slot_again; back_again = e.forth; back_slot_again = e.forth_slot; there = e.home; home = e.there }

module _ {V W S R : Type 0} (N : List (Assertion V S)) (M : List (Assertion W R)) (e : AreInterpreted N M) where
  pub slots_turned : (s : S) (r : R) → AreSlotsOf N M e s r → AreSlotsOf M N (turned N M e) r s
  slots_turned s r h = record { there = h.home; home = h.there }

  pub terms_turned : (x : Term V) (y : Term W) → AreTermsOf N M e x y → AreTermsOf M N (turned N M e) y x
  terms_turned x y h = record { there = h.home; home = h.there }

  -- what answers linked slots and terms is linked
  pub slots_there : (s t : S) (r q : R) → AreSlotsOf N M e s r → AreSlotsOf N M e t q → AreLinkedSlots N s t → AreLinkedSlots M r q
  slots_there s t r q h k l = next_slot _ _ _ (back_slot _ _ h.there) (next_slot _ _ _ (AreLinkedSlots-put e.forth e.forth_slot N M e.there s t l) k.there)

  pub terms_there : (x u : Term V) (y v : Term W) → AreTermsOf N M e x y → AreTermsOf N M e u v → AreLinked N x u → AreLinked M y v
  terms_there x u y v h k l = next _ _ _ (back _ _ h.there) (next _ _ _ (AreLinked-put e.forth e.forth_slot N M e.there x u l) k.there)

  -- each value of a slot has one of the slot that answers
  pub value_there : (s : S) (r : R) (a : ℕ) (x : Term V) → AreSlotsOf N M e s r → HasValue N s a x → (y : Term W) × HasValue M r a y × AreTermsOf N M e x y
  value_there s r a x h has =
      let p = HasValue-put e.forth e.forth_slot N M e.there s a x has in
      let there : HasValue M r a p.0 = (p.1.0, next_slot _ _ _ (back_slot _ _ h.there) p.1.1, p.1.2) in
      let q = HasValue-put e.back_again e.back_slot_again M N e.home r a p.0 there in
      let slots : AreLinkedSlots N q.1.0 has.0 = next_slot _ _ _ (back_slot _ _ q.1.1) (next_slot _ _ _ h.home has.1) in
      (p.0, there, record { there = p.2; home = next _ _ _ q.2 (shared q.1.0 has.0 a q.0 x slots q.1.2 has.2) })

module _ {V W S R : Type 0} (N : List (Assertion V S)) (M : List (Assertion W R)) (e : AreInterpreted N M) where
  pub value_home : (s : S) (r : R) (a : ℕ) (y : Term W) → AreSlotsOf N M e s r → HasValue M r a y → (x : Term V) × HasValue N s a x × AreTermsOf N M e x y
  value_home s r a y h has =
      let p = value_there M N (turned N M e) r s a y (slots_turned N M e s r h) has in
      (p.0, p.1, terms_turned M N (turned N M e) y p.0 p.2)

-- larger networks that the same maps interpret in each other
module _ {V W S R : Type 0} (N : List (Assertion V S)) (M : List (Assertion W R)) (e : AreInterpreted N M) (L : List (Assertion V S)) (K : List (Assertion W R)) where
  abbrev pub widened : Interprets e.forth e.forth_slot L K → Interprets e.back_again e.back_slot_again K L → AreInterpreted L K
  widened there home = record { forth = e.forth; forth_slot = e.forth_slot; back_again = e.back_again; back_slot_again = e.back_slot_again; there = there; home = home }

  module _ (there : Interprets e.forth e.forth_slot L K) (home : Interprets e.back_again e.back_slot_again K L) (first : IsWithin N L) (second : IsWithin M K) where
    pub slots_widened : (s : S) (r : R) → AreSlotsOf N M e s r → AreSlotsOf L K (widened there home) s r
    slots_widened s r h = record {
      there = AreLinkedSlots-part M K second (e.forth_slot s) r h.there;
      home = AreLinkedSlots-part N L first (e.back_slot_again r) s h.home;
    }

    pub terms_widened : (x : Term V) (y : Term W) → AreTermsOf N M e x y → AreTermsOf L K (widened there home) x y
    terms_widened x y h = record {
      there = AreLinked-part M K second (put_term e.forth x) y h.there;
      home = AreLinked-part N L first (put_term e.back_again y) x h.home;
    }
