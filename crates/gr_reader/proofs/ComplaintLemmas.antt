-- The complaint that is kept is the first one.
use Rattle.std.proofs.Common.{◌≡◌, ◌≤◌, List, [], ◌∷◌, ◌++◌, Option, Some, None, Bool, true, false, inl, inr, refl, ap, sym, ◌∙◌, arith}
use Rattle.std.specs.Prelude.{◌⊎◌, nat_lt, if◌then◌else◌}
use Rattle.std.proofs.lemmas.Bool.{ltb-true, lt-ltb, cases_lt, true≢false}
use Rattle.std.proofs.lemmas.Option.{none-some, same_Some}
use Rattle.gr_base.specs.Lists.{IsAmong, Each}
use Rattle.gr_reader.specs.declared.complaints.Complaint.{Complaint}
use Rattle.gr_reader.specs.Complaints.{sooner, noted, all_noted, IsFirst}

pub noted_append : (b : Option Complaint) (cs ds : List Complaint) → all_noted b (cs ++ ds) ≡ all_noted (all_noted b cs) ds
noted_append b [] ds = refl
noted_append b (c ∷ cs) ds = noted_append (noted b c) cs ds

-- of two complaints the one that is kept is one of them, and neither stands before it
sooner_by : (t : Bool) (b c : Complaint) → nat_lt b.left c.left ≡ t → let s = if t then c else b in ((s ≡ b) ⊎ (s ≡ c)) × (b.left ≤ s.left) × (c.left ≤ s.left)
sooner_by true b c e = (inr refl, (let l = ltb-true b.left c.left e in omega arith), omega arith)
sooner_by false b c e = (inl refl, omega arith, elim (cases_lt b.left c.left) [ inl l ↦ absurd (true≢false (sym (lt-ltb b.left c.left l) ∙ e)) | inr l ↦ l ])

sooner_is : (b c : Complaint) → ((sooner b c ≡ b) ⊎ (sooner b c ≡ c)) × (b.left ≤ (sooner b c).left) × (c.left ≤ (sooner b c).left)
sooner_is b c = sooner_by (nat_lt b.left c.left) b c refl

-- the complaint that is kept of one and some more
record Kept (b : Complaint) (cs : List Complaint) (c : Complaint) : Type 0 where
  one : (c ≡ b) ⊎ IsAmong cs c
  before : b.left ≤ c.left
  first : Each (λ d. d.left ≤ c.left) cs

kept : (b : Complaint) (cs : List Complaint) (c : Complaint) → all_noted (Some b) cs ≡ Some c → Kept b cs c
kept b [] c e = let k : c ≡ b = sym (same_Some b c e) in record { one = inl k; before = (let l = ap (λ z. z.left) k in omega arith); first = tt }
kept b (d ∷ cs) c e =
    let s = sooner_is b d in
    let k = kept (sooner b d) cs c e in
    let x = s.1 in let y = s.2 in let z = k.before in
    record {
      one = elim k.one [
        | inl p ↦ elim s.0 [ inl q ↦ inl (p ∙ q) | inr q ↦ inr (inl (p ∙ q)) ]
        | inr i ↦ inr (inr i)
      ];
      before = omega arith;
      first = (omega arith, k.first);
    }

pub first_is : (cs : List Complaint) (c : Complaint) → all_noted None cs ≡ Some c → IsFirst cs c
first_is [] c e = absurd (none-some c e)
first_is (d ∷ cs) c e =
    let k = kept d cs c e in
    record { among = elim k.one [ inl p ↦ inl p | inr i ↦ inr i ]; first = (k.before, k.first) }

some_kept : (b : Complaint) (cs : List Complaint) → all_noted (Some b) cs ≡ None → ⊥
some_kept b [] e = none-some b (sym e)
some_kept b (d ∷ cs) e = some_kept (sooner b d) cs e

pub none_is : (cs : List Complaint) → all_noted None cs ≡ None → cs ≡ []
none_is [] e = refl
none_is (d ∷ cs) e = absurd (some_kept d cs e)

pub some_first : (d : Complaint) (cs : List Complaint) → (c : Complaint) × (all_noted None (d ∷ cs) ≡ Some c)
some_first d cs = some d cs
  where
    some : (d : Complaint) (cs : List Complaint) → (c : Complaint) × (all_noted (Some d) cs ≡ Some c)
    some d [] = (d, refl)
    some d (e ∷ cs) = some (sooner d e) cs
