-- Nodes and relations in two forests side by side.
use Rattle.std.specs.Prelude.{ℕ, List, ◌⊎◌}
use Rattle.std.proofs.Common.{inl, inr}
use Rattle.gr_base.specs.Forests.{Forest, empty, tree, beside}
use Rattle.td_forest.specs.Nodes.{IsIn}
use Rattle.td_forest.proofs.Twins.{AreSameIn, IsOverIn, IsLeftIn, AllOnce, AllRise}

pub in_beside : (F G : Forest (List ℕ)) (y : ℕ) → IsIn (beside F G) y → IsIn F y ⊎ IsIn G y
in_beside empty G y i = inr i
in_beside (tree s k m) G y (inl i) = inl (inl i)
in_beside (tree s k m) G y (inr (inl i)) = inl (inr (inl i))
in_beside (tree s k m) G y (inr (inr i)) = elim (in_beside m G y i) [ inl j ↦ inl (inr (inr j)) | inr j ↦ inr j ]

pub beside_in : (F G : Forest (List ℕ)) (y : ℕ) → IsIn F y ⊎ IsIn G y → IsIn (beside F G) y
beside_in empty G y (inl i) = absurd i
beside_in empty G y (inr i) = i
beside_in (tree s k m) G y (inl (inl i)) = inl i
beside_in (tree s k m) G y (inl (inr (inl i))) = inr (inl i)
beside_in (tree s k m) G y (inl (inr (inr i))) = inr (inr (beside_in m G y (inl i)))
beside_in (tree s k m) G y (inr i) = inr (inr (beside_in m G y (inr i)))

pub same_beside : (F G : Forest (List ℕ)) (x y : ℕ) → AreSameIn (beside F G) x y → AreSameIn F x y ⊎ AreSameIn G x y
same_beside empty G x y h = inr h
same_beside (tree s k m) G x y (inl h) = inl (inl h)
same_beside (tree s k m) G x y (inr (inl h)) = inl (inr (inl h))
same_beside (tree s k m) G x y (inr (inr h)) = elim (same_beside m G x y h) [ inl j ↦ inl (inr (inr j)) | inr j ↦ inr j ]

pub beside_same : (F G : Forest (List ℕ)) (x y : ℕ) → AreSameIn F x y ⊎ AreSameIn G x y → AreSameIn (beside F G) x y
beside_same empty G x y (inl h) = absurd h
beside_same empty G x y (inr h) = h
beside_same (tree s k m) G x y (inl (inl h)) = inl h
beside_same (tree s k m) G x y (inl (inr (inl h))) = inr (inl h)
beside_same (tree s k m) G x y (inl (inr (inr h))) = inr (inr (beside_same m G x y (inl h)))
beside_same (tree s k m) G x y (inr h) = inr (inr (beside_same m G x y (inr h)))

pub over_beside : (F G : Forest (List ℕ)) (x y : ℕ) → IsOverIn (beside F G) x y → IsOverIn F x y ⊎ IsOverIn G x y
over_beside empty G x y h = inr h
over_beside (tree s k m) G x y (inl h) = inl (inl h)
over_beside (tree s k m) G x y (inr (inl h)) = inl (inr (inl h))
over_beside (tree s k m) G x y (inr (inr h)) = elim (over_beside m G x y h) [ inl j ↦ inl (inr (inr j)) | inr j ↦ inr j ]

pub beside_over : (F G : Forest (List ℕ)) (x y : ℕ) → IsOverIn F x y ⊎ IsOverIn G x y → IsOverIn (beside F G) x y
beside_over empty G x y (inl h) = absurd h
beside_over empty G x y (inr h) = h
beside_over (tree s k m) G x y (inl (inl h)) = inl h
beside_over (tree s k m) G x y (inl (inr (inl h))) = inr (inl h)
beside_over (tree s k m) G x y (inl (inr (inr h))) = inr (inr (beside_over m G x y (inl h)))
beside_over (tree s k m) G x y (inr h) = inr (inr (beside_over m G x y (inr h)))

-- left of in two forests side by side
abbrev pub LeftBeside : Forest (List ℕ) → Forest (List ℕ) → ℕ → ℕ → Type 0
LeftBeside F G x y = (IsIn F x × IsIn G y) ⊎ (IsLeftIn F x y ⊎ IsLeftIn G x y)

pub left_beside : (F G : Forest (List ℕ)) (x y : ℕ) → IsLeftIn (beside F G) x y → LeftBeside F G x y
left_beside empty G x y h = inr (inr h)
left_beside (tree s k m) G x y (inl h) =
    elim (in_beside m G y h.1) [ inl j ↦ inr (inl (inl (h.0, j))) | inr j ↦ inl (elim h.0 [ inl a ↦ inl a | inr b ↦ inr (inl b) ], j) ]
left_beside (tree s k m) G x y (inr (inl h)) = inr (inl (inr (inl h)))
left_beside (tree s k m) G x y (inr (inr h)) =
    elim (left_beside m G x y h) [ inl j ↦ inl (inr (inr j.0), j.1) | inr j ↦ elim j [ inl k ↦ inr (inl (inr (inr k))) | inr k ↦ inr (inr k) ] ]

pub beside_left : (F G : Forest (List ℕ)) (x y : ℕ) → LeftBeside F G x y → IsLeftIn (beside F G) x y
beside_left empty G x y (inl h) = absurd h.0
beside_left empty G x y (inr (inl h)) = absurd h
beside_left empty G x y (inr (inr h)) = h
beside_left (tree s k m) G x y (inl h) =
    elim h.0 [
      | inl a ↦ inl (inl a, beside_in m G y (inr h.1))
      | inr b ↦ elim b [ inl c ↦ inl (inr c, beside_in m G y (inr h.1)) | inr c ↦ inr (inr (beside_left m G x y (inl (c, h.1)))) ]
    ]
beside_left (tree s k m) G x y (inr (inl (inl h))) = inl (h.0, beside_in m G y (inl h.1))
beside_left (tree s k m) G x y (inr (inl (inr (inl h)))) = inr (inl h)
beside_left (tree s k m) G x y (inr (inl (inr (inr h)))) = inr (inr (beside_left m G x y (inr (inl h))))
beside_left (tree s k m) G x y (inr (inr h)) = inr (inr (beside_left m G x y (inr (inr h))))

-- each node once in two forests side by side
abbrev pub OnceBeside : Forest (List ℕ) → Forest (List ℕ) → Type 0
OnceBeside F G = AllOnce F × AllOnce G × ((y : ℕ) → IsIn F y → IsIn G y → ⊥)

pub once_beside : (F G : Forest (List ℕ)) → AllOnce (beside F G) → OnceBeside F G
once_beside empty G h = (tt, h, λ y i j. i)
once_beside (tree s k m) G h =
    let r = once_beside m G h.5 in (
      (h.0, h.1, (λ y i j. h.2 y i (beside_in m G y (inl j))), (λ y i j. h.3 y i (beside_in m G y (inl j))), h.4, r.0),
      r.1,
      λ y i j.
          elim i [
            | inl a ↦ h.2 y a (beside_in m G y (inr j))
            | inr b ↦ elim b [ inl c ↦ h.3 y c (beside_in m G y (inr j)) | inr c ↦ r.2 y c j ]
          ],
    )

pub beside_once : (F G : Forest (List ℕ)) → OnceBeside F G → AllOnce (beside F G)
beside_once empty G h = h.1
beside_once (tree s k m) G h =
    let f = h.0 in (
      f.0,
      f.1,
      (λ y i j. elim (in_beside m G y j) [ inl a ↦ f.2 y i a | inr b ↦ h.2 y (inl i) b ]),
      (λ y i j. elim (in_beside m G y j) [ inl a ↦ f.3 y i a | inr b ↦ h.2 y (inr (inl i)) b ]),
      f.4,
      beside_once m G (f.5, h.1, λ y i j. h.2 y (inr (inr i)) j),
    )

pub rise_beside : (F G : Forest (List ℕ)) → AllRise (beside F G) → AllRise F × AllRise G
rise_beside empty G h = (tt, h)
rise_beside (tree s k m) G h = let r = rise_beside m G h.3 in ((h.0, h.1, h.2, r.0), r.1)

pub beside_rise : (F G : Forest (List ℕ)) → AllRise F → AllRise G → AllRise (beside F G)
beside_rise empty G f g = g
beside_rise (tree s k m) G f g = (f.0, f.1, f.2, beside_rise m G f.3 g)
