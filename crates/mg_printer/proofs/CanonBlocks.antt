-- Node blocks and relations are spelled again by their pieces.
use Rattle.std.specs.Prelude.{◌≡◌, ℕ, List, [], ◌∷◌, ◌++◌, map, Option, Bool, true, false, codes, unwrap_or, refl}
use Rattle.std.proofs.Common.{sym, ap, ◌∙◌, subst, inl, inr, arith, append_assoc}
use Rattle.gr_base.specs.Lists.{Each, NoneTwice, gathered}
use Rattle.gr_base.proofs.ListLemmas.{IsAmong-slice_get}
use Rattle.gr_symbols.specs.Numbers.{Names}
use Rattle.gr_terms.specs.Constants.{CAT}
use Rattle.gr_terms.specs.declared.Sym.{Sym}
use Rattle.gr_tokens.specs.Tokens.{signs}
use Rattle.mg_syntax.specs.declared.body.Ref.{Ref}
use Rattle.mg_syntax.specs.declared.body.Side.{Side}
use Rattle.mg_syntax.specs.declared.block.Relate.{Relate}
use Rattle.mg_syntax.specs.declared.block.Relate.TheVariants as relate
use Rattle.mg_syntax.specs.declared.block.NodeBlock.{NodeBlock, roll-NodeBlock, fold-roll-NodeBlock}
use Rattle.mg_syntax.specs.declared.block.Kid.{Kid, roll-Kid, fold-roll-Kid}
use Rattle.mg_syntax.specs.declared.block.SynItem.{SynItem}
use Rattle.mg_syntax.specs.declared.block.SynItem.TheVariants as syn_item
use Rattle.mg_reader.specs.declared.lexeme.Kind.{Kind}
use Rattle.mg_reader.specs.declared.lexeme.Kind.TheVariants as kind
use Rattle.mg_reader.specs.declared.lexeme.Class.TheVariants as of
use Rattle.mg_reader.specs.declared.lexeme.Lexeme.{Lexeme}
use Rattle.mg_reader.specs.declared.found.Properties.{Properties}
use Rattle.mg_reader.specs.Values.{descent_of, relate_of, with_properties, no_properties, with_features, no_features, node_with, category_pairs}
use Rattle.mg_reader.specs.Spelling.{Is, IsA, Rule, Enclosed, within, SpellsRef, SpellsMaybeRef, SpellsDescent, a_child, a_descent, SpellsLoose, not_loose, is_loose, SpellsNode, a_node, SpellsKids, no_kid_list, empty_kid_list, a_kid_list, SpellsMoreKids, no_more_kids, one_more_kid, SpellsKid, a_kid, SpellsSynItem, a_block, a_relation}
use Rattle.mg_printer.specs.Pieces.{Piece, a_sign, a_key, enclosed}
use Rattle.mg_printer.specs.Values.{pair_pieces}
use Rattle.mg_printer.specs.Blocks.{relate_text, name_pieces, colour_parts, property_parts, category_pieces, category_parts, feature_parts, loose_pieces, down_pieces, braced, block_step, kid_step, block_pieces, kid_pieces, syn_item_pieces}
use Rattle.mg_printer.proofs.Folds.{braced-map}
use Rattle.mg_reader.proofs.KindLists.{in_class, one_kind, is_kind, same_class}
use Rattle.mg_reader.proofs.Real.{IsReal}
use Rattle.mg_printer.proofs.Canons.{Canon, Then, One, Same, rest_real, canon_map, canon_pieces, canon_none, canon_then, canon_key, canon_enclosed, canon_no_brackets, braces}
use Rattle.mg_printer.proofs.CanonLists.{AreCanon, IsPlainSign}
use Rattle.mg_printer.proofs.CanonValues.{plain, canon_ref, canon_maybe_ref}
use Rattle.mg_printer.proofs.CanonFeatures.{SpellsFeatures, canon_features}
use Rattle.mg_printer.proofs.CanonProperties.{SpellsProperties, canon_properties, no_category, property_parts_are, category_parts_are}

commas : IsPlainSign kind.Commas (codes ",,,")
commas = record { is = refl; flat = refl; sign = IsAmong-slice_get signs 11 (codes ",,,") refl }

dots : IsPlainSign kind.Dots (codes "...")
dots = record { is = refl; flat = refl; sign = IsAmong-slice_get signs 9 (codes "...") refl }

dots_plus : IsPlainSign kind.DotsPlus (codes "...+")
dots_plus = record { is = refl; flat = refl; sign = IsAmong-slice_get signs 8 (codes "...+") refl }

-- the pieces of a block and of a kid that are made of their parts
abbrev head_of : Option Ref → Properties → Option Side → List (Sym × Side) → List (Sym × Side) → List Piece
head_of name r c t b =
    a_key (codes "node") ∷ name_pieces name
    ++ enclosed (codes "(") (colour_parts r.colour ++ map pair_pieces r.own) (codes ")")
    ++ enclosed (codes "[") (map category_pieces (category_pairs c) ++ feature_parts (codes "top") t ++ feature_parts (codes "bot") b) (codes "]")

abbrev block_with : Option Ref → Properties → Option Side → List (Sym × Side) → List (Sym × Side) → List Kid → NodeBlock
block_with name r c t b kids = roll-NodeBlock (record { name = name; colour = r.colour; own = r.own ++ category_pairs c; top = t; bot = b; kids = kids })

pieces_of_block : (name : Option Ref) (r : Properties) (c : Option Side) (t b : List (Sym × Side)) (kids : List Kid) → property_parts (r.own ++ category_pairs c) ≡ map pair_pieces r.own
    → category_parts (r.own ++ category_pairs c) ≡ map category_pieces (category_pairs c) → head_of name r c t b ++ braced kid_pieces kids ≡ block_pieces (block_with name r c t b kids)
unfolding block_pieces kid_pieces
pieces_of_block name r c t b kids p q =
    let F = λ (x y : List (List Piece)) (z : List Piece).
    a_key (codes "node") ∷ name_pieces name ++ enclosed (codes "(") (colour_parts r.colour ++ x) (codes ")")
    ++ enclosed (codes "[") (y ++ feature_parts (codes "top") t ++ feature_parts (codes "bot") b) (codes "]") ++ z
    in
    sym (fold-roll-NodeBlock (List Piece) (List Piece) kid_step block_step (record { name = name; colour = r.colour; own = r.own ++ category_pairs c; top = t; bot = b; kids = kids })
    ∙ (ap (λ x. F x (category_parts (r.own ++ category_pairs c)) (braced (λ p. p) (map kid_pieces kids))) p
    ∙ (ap (λ y. F (map pair_pieces r.own) y (braced (λ p. p) (map kid_pieces kids))) q ∙ ap (λ z. F (map pair_pieces r.own) (map category_pieces (category_pairs c)) z) (braced-map kid_pieces kids))))

abbrev kid_with : Relate → Bool → NodeBlock → Kid
kid_with down loose n = roll-Kid (record { down = down; loose = loose; node = n })

pieces_of_kid : (down : Relate) (loose : Bool) (n : NodeBlock) → loose_pieces loose ++ down_pieces down ++ block_pieces n ≡ kid_pieces (kid_with down loose n)
unfolding block_pieces kid_pieces
pieces_of_kid down loose n = sym (fold-roll-Kid (List Piece) (List Piece) kid_step block_step (record { down = down; loose = loose; node = n }))

-- the kids of a list that isn't empty: the first one has no `,,,` before it
abbrev SpellsAllKids : Rule (List Kid)
SpellsAllKids [] ts rest = ⊥
SpellsAllKids (k ∷ ks) ts rest = Then (SpellsKid false k) (SpellsMoreKids ks) ts rest

module _ (texts : List (List ℕ)) where
  join_child : (a b : List Lexeme) → Same a b → SpellsDescent relate.Parent a b
  join_child a b e = subst (λ z. SpellsDescent relate.Parent a z) e a_child

  descent_sign : {ts : List Lexeme} (k : Kind) (s : List ℕ) → IsPlainSign k s → down_pieces (descent_of k) ≡ a_sign s ∷ [] → (t : Lexeme) → Is of.Descent t → t.kind ≡ k → Canon texts (SpellsDescent (descent_of t.kind)) (down_pieces (descent_of t.kind)) (t ∷ ts) ts
  descent_sign {ts} k s p pieces t h e =
      subst (λ z. Canon texts (SpellsDescent (descent_of z)) (down_pieces (descent_of z)) (t ∷ ts) ts) (sym e)
      (canon_pieces texts (sym pieces) (canon_map texts join (plain texts p t (is_kind k t e))))
    where
      join : (a b : List Lexeme) → One (IsA k) a b → SpellsDescent (descent_of k) a b
      join a b (j, f, i) =
          let is = one_kind k j i in
          subst (λ z. SpellsDescent (descent_of k) z b) (sym f) (subst (λ z. SpellsDescent (descent_of z) (j ∷ b) b) is (a_descent (same_class of.Descent t j (is ∙ sym e) h)))

  canon_descent : (d : Relate) (ts rest : List Lexeme) → SpellsDescent d ts rest → Canon texts (SpellsDescent d) (down_pieces d) ts rest
  canon_descent _ _ rest a_child = canon_map texts join_child (canon_none texts)
  canon_descent _ _ rest (a_descent {t} h) = elim (in_class of.Descent t (omega arith) h) [
    | inl e ↦ descent_sign kind.Dots (codes "...") dots refl t h e
    | inr r ↦ elim r [ inl e ↦ descent_sign kind.DotsPlus (codes "...+") dots_plus refl t h e | inr n ↦ absurd n ]
  ]

  join_loose : (a b : List Lexeme) → One (IsA kind.Commas) a b → SpellsLoose true a b
  join_loose a b (j, e, i) = subst (λ z. SpellsLoose true z b) (sym e) (is_loose i)

  join_tight : (a b : List Lexeme) → Same a b → SpellsLoose false a b
  join_tight a b e = subst (λ z. SpellsLoose false a z) e not_loose

  canon_loose : (l : Bool) (ts rest : List Lexeme) → SpellsLoose l ts rest → Canon texts (SpellsLoose l) (loose_pieces l) ts rest
  canon_loose _ _ rest not_loose = canon_map texts join_tight (canon_none texts)
  canon_loose _ _ rest (is_loose {t} i) = canon_map texts join_loose (plain texts commas t i)

  join_node : (name : Option Ref) (r : Properties) (c : Option Side) (t b : List (Sym × Side)) (kids : List Kid) (x y : List Lexeme)
      → Then (Then (Then (Then (One (λ j. IsA kind.Node j × Names texts j.name.0 (codes "node"))) (SpellsMaybeRef name)) (SpellsProperties r)) (SpellsFeatures c t b)) (SpellsKids kids) x y
      → SpellsNode (block_with name r c t b kids) x y
  join_node name r c t b kids x y (m4, (m3, (m2, (m1, (j, e, q), n), (ps, once, s, is)), (fs, fonce, g, is_c, is_t, is_b)), k) =
      let made : SpellsNode (node_with name (with_properties no_properties ps) (with_features no_features fs) kids) (j ∷ m1) y = a_node q.0 n once s fonce g k in
      subst (λ z. SpellsNode (block_with name r c t b kids) z y) (sym e)
      (subst (λ z. SpellsNode (block_with name r c t z kids) (j ∷ m1) y) is_b
      (subst (λ z. SpellsNode (block_with name r c z (unwrap_or (with_features no_features fs).bottom []) kids) (j ∷ m1) y) is_t
      (subst (λ z. SpellsNode (block_with name r z (unwrap_or (with_features no_features fs).top []) (unwrap_or (with_features no_features fs).bottom []) kids) (j ∷ m1) y) is_c
      (subst (λ z. SpellsNode (node_with name z (with_features no_features fs) kids) (j ∷ m1) y) is made))))

  -- what stands before the kids of a block
  head : (name : Option Ref) (r : Properties) (c : Option Side) (t b : List (Sym × Side)) {w : Lexeme} {ts m1 m2 m3 : List Lexeme} → NoneTwice texts → Each (IsReal texts) (w ∷ ts) → IsA kind.Node w
      → SpellsMaybeRef name ts m1 → SpellsProperties r m1 m2 → SpellsFeatures c t b m2 m3
      → Canon texts (Then (Then (Then (One (λ j. IsA kind.Node j × Names texts j.name.0 (codes "node"))) (SpellsMaybeRef name)) (SpellsProperties r)) (SpellsFeatures c t b)) (head_of name r c t b) (w ∷ ts) m3
  head name r c t b {w} {ts} {m1} {m2} {m3} distinct real i n s g =
      let one = canon_maybe_ref texts name ts m1 real.1 n in
      let real1 = rest_real texts one real.1 in
      let two = canon_properties texts distinct r m1 m2 real1 s in
      let three = canon_features texts c t b m2 m3 (rest_real texts two real1) g in
      canon_then texts (canon_then texts (canon_then texts (canon_key texts kind.Node (codes "node") refl refl (λ n. omega arith) (omega arith) (omega arith) w real.0 i) one) two) three

  properties_real : (r : Properties) (name : Option Ref) {ts m1 : List Lexeme} → Each (IsReal texts) ts → SpellsMaybeRef name ts m1 → Each (IsReal texts) m1
  properties_real r name {ts} {m1} real n = rest_real texts (canon_maybe_ref texts name ts m1 real n) real

  node : (name : Option Ref) (r : Properties) (c : Option Side) (t b : List (Sym × Side)) (kids : List Kid) {w : Lexeme} {ts m1 m2 m3 rest : List Lexeme} → NoneTwice texts → Names texts CAT (codes "cat") → Each (IsReal texts) (w ∷ ts)
      → SpellsMaybeRef name ts m1 → SpellsProperties r m1 m2
      → Canon texts (Then (Then (Then (One (λ j. IsA kind.Node j × Names texts j.name.0 (codes "node"))) (SpellsMaybeRef name)) (SpellsProperties r)) (SpellsFeatures c t b)) (head_of name r c t b) (w ∷ ts) m3
      → Canon texts (SpellsKids kids) (braced kid_pieces kids) m3 rest → Canon texts (SpellsNode (block_with name r c t b kids)) (block_pieces (block_with name r c t b kids)) (w ∷ ts) rest
  node name r c t b kids {w} {ts} {m1} {m2} distinct cat real n s first last =
      let own = no_category texts cat r m1 m2 (properties_real r name real.1 n) s in
      canon_pieces texts (pieces_of_block name r c t b kids (property_parts_are r.own c own) (category_parts_are r.own c own))
      (canon_map texts (λ x y q. join_node name r c t b kids x y q) (canon_then texts first last))

  join_kid : (loose : Bool) (d : Relate) (n : NodeBlock) (a b : List Lexeme) → Then (SpellsDescent d) (SpellsNode n) a b → SpellsKid loose (kid_with d loose n) a b
  join_kid loose d n a b (m, s, r) = a_kid s r

  join_more : (loose : Bool) (k : Kid) (ks : List Kid) (a b : List Lexeme) → Then (Then (SpellsLoose loose) (SpellsKid loose k)) (SpellsMoreKids ks) a b → SpellsMoreKids (k ∷ ks) a b
  join_more loose k ks a b (m, (n, l, s), r) = one_more_kid l s r

  join_no_more : (a b : List Lexeme) → Same a b → SpellsMoreKids [] a b
  join_no_more a b e = subst (λ z. SpellsMoreKids [] a z) e no_more_kids

  join_no_kids : (a b : List Lexeme) → Same a b → SpellsKids [] a b
  join_no_kids a b e = subst (λ z. SpellsKids [] a z) e no_kid_list

  join_kids : (k : Kid) (ks : List Kid) (a b : List Lexeme) → Enclosed kind.LeftBrace kind.RightBrace SpellsAllKids (k ∷ ks) a b → SpellsKids (k ∷ ks) a b
  join_kids k ks a b (within i (m, s, r) j) = a_kid_list i s r j

  -- a kid without what stands before it, and with it
  record IsKid (loose : Bool) (k : Kid) (ts rest : List Lexeme) : Type 0 where
    body : List Piece
    pieces : loose_pieces loose ++ body ≡ kid_pieces k
    canon : Canon texts (SpellsKid loose k) body ts rest

  made_kid : (loose : Bool) (d : Relate) (n : NodeBlock) (ts rest : List Lexeme) → Canon texts (Then (SpellsDescent d) (SpellsNode n)) (down_pieces d ++ block_pieces n) ts rest → IsKid loose (kid_with d loose n) ts rest
  made_kid loose d n ts rest c = record {
    body = down_pieces d ++ block_pieces n;
    pieces = sym (append_assoc (loose_pieces loose) (down_pieces d) (block_pieces n)) ∙ pieces_of_kid d loose n;
    canon = canon_map texts (λ a b q. join_kid loose d n a b q) c;
  }

  more_kids : (loose : Bool) (k : Kid) (ks : List Kid) {ts m1 m2 rest : List Lexeme} → SpellsLoose loose ts m1 → IsKid loose k m1 m2 → Canon texts (SpellsMoreKids ks) (gathered kid_pieces ks) m2 rest → Canon texts (SpellsMoreKids (k ∷ ks)) (gathered kid_pieces (k ∷ ks)) ts rest
  more_kids loose k ks {ts} {m1} l kid rest =
      canon_pieces texts (ap (λ z. z ++ gathered kid_pieces ks) kid.pieces)
      (canon_map texts (λ a b q. join_more loose k ks a b q) (canon_then texts (canon_then texts (canon_loose loose ts m1 l) kid.canon) rest))

  all_kids : (k : Kid) (ks : List Kid) {o c : Lexeme} {ts mid rest : List Lexeme} → IsA kind.LeftBrace o → IsKid false k ts mid → Canon texts (SpellsMoreKids ks) (gathered kid_pieces ks) mid (c ∷ rest) → IsA kind.RightBrace c
      → Canon texts (SpellsKids (k ∷ ks)) (braced kid_pieces (k ∷ ks)) (o ∷ ts) rest
  all_kids k ks i kid rest j =
      canon_map texts (λ a b q. join_kids k ks a b q)
      (canon_pieces texts (ap (λ z. a_sign (codes "{") ∷ (z ++ gathered kid_pieces ks) ++ a_sign (codes "}") ∷ []) kid.pieces) (canon_enclosed texts {R = SpellsAllKids} {x = k ∷ ks} braces i (canon_then texts kid.canon rest) j))

  kid_real : (loose : Bool) (k : Kid) {ts rest : List Lexeme} → IsKid loose k ts rest → Each (IsReal texts) ts → Each (IsReal texts) rest
  kid_real loose k kid real = rest_real texts kid.canon real

  loose_real : (loose : Bool) {ts rest : List Lexeme} → SpellsLoose loose ts rest → Each (IsReal texts) ts → Each (IsReal texts) rest
  loose_real loose {ts} {rest} l real = rest_real texts (canon_loose loose ts rest l) real

  descent_real : (d : Relate) {ts rest : List Lexeme} → SpellsDescent d ts rest → Each (IsReal texts) ts → Each (IsReal texts) rest
  descent_real d {ts} {rest} l real = rest_real texts (canon_descent d ts rest l) real

  no_braces : {o c : Lexeme} {ts : List Lexeme} → IsA kind.LeftBrace o → IsA kind.RightBrace c → Canon texts (SpellsKids []) [] (o ∷ c ∷ ts) ts
  no_braces i j = canon_no_brackets texts braces i (canon_none texts) j (λ more. no_kid_list)

  mutual
    pub canon_node : NoneTwice texts → Names texts CAT (codes "cat") → (n : NodeBlock) (ts rest : List Lexeme) → Each (IsReal texts) ts → SpellsNode n ts rest → Canon texts (SpellsNode n) (block_pieces n) ts rest
    canon_node distinct cat _ _ rest real (a_node {name = name} {ps} {fs} {kids} {behind_features = m3} i n once s fonce g k) =
        let r = with_properties no_properties ps in
        let q = with_features no_features fs in
        let p : SpellsProperties r _ _ = (ps, once, s, refl) in
        let first = head name r q.category (unwrap_or q.top []) (unwrap_or q.bottom []) distinct real i n p (fs, fonce, g, refl, refl, refl) in
        node name r q.category (unwrap_or q.top []) (unwrap_or q.bottom []) kids distinct cat real n p first (canon_kids distinct cat kids m3 rest (rest_real texts first real) k)

    canon_kids : NoneTwice texts → Names texts CAT (codes "cat") → (ks : List Kid) (ts rest : List Lexeme) → Each (IsReal texts) ts → SpellsKids ks ts rest → Canon texts (SpellsKids ks) (braced kid_pieces ks) ts rest
    canon_kids distinct cat _ _ rest real no_kid_list = canon_map texts join_no_kids (canon_none texts)
    canon_kids distinct cat _ _ rest real (empty_kid_list i j) = no_braces i j
    canon_kids distinct cat _ _ rest real (a_kid_list {o} {c} {k} {ks} {ts} {mid} i s r j) =
        let kid = canon_kid distinct cat false k ts mid real.1 s in
        all_kids k ks i kid (canon_more_kids distinct cat ks mid (c ∷ rest) (kid_real false k kid real.1) r) j

    canon_more_kids : NoneTwice texts → Names texts CAT (codes "cat") → (ks : List Kid) (ts rest : List Lexeme) → Each (IsReal texts) ts → SpellsMoreKids ks ts rest → Canon texts (SpellsMoreKids ks) (gathered kid_pieces ks) ts rest
    canon_more_kids distinct cat _ _ rest real no_more_kids = canon_map texts join_no_more (canon_none texts)
    canon_more_kids distinct cat _ ts rest real (one_more_kid {loose} {k} {ks} {behind_loose = m1} {mid = m2} l s r) =
        let kid = canon_kid distinct cat loose k m1 m2 (loose_real loose l real) s in
        more_kids loose k ks l kid (canon_more_kids distinct cat ks m2 rest (kid_real loose k kid (loose_real loose l real)) r)

    canon_kid : NoneTwice texts → Names texts CAT (codes "cat") → (loose : Bool) (k : Kid) (ts rest : List Lexeme) → Each (IsReal texts) ts → SpellsKid loose k ts rest → IsKid loose k ts rest
    canon_kid distinct cat loose _ ts rest real (a_kid {down = d} {n} {mid = mid} s r) =
        made_kid loose d n ts rest (canon_then texts (canon_descent d ts mid s) (canon_node distinct cat n mid rest (descent_real d s real) r))

  operator : {ts : List Lexeme} (o : Lexeme) → Is of.Operator o → Canon texts (One (λ j. Is of.Operator j × (j.kind ≡ o.kind))) (a_sign (relate_text (relate_of o.kind)) ∷ []) (o ∷ ts) ts
  operator {ts} o h = elim (in_class of.Operator o (omega arith) h) [
    | inl e ↦ one kind.Below e (record { is = refl; flat = refl; sign = IsAmong-slice_get signs 2 (codes "->") refl })
    | inr r1 ↦ elim r1 [
      | inl e ↦ one kind.BelowPlus e (record { is = refl; flat = refl; sign = IsAmong-slice_get signs 1 (codes "->+") refl })
      | inr r2 ↦ elim r2 [
        | inl e ↦ one kind.BelowStar e (record { is = refl; flat = refl; sign = IsAmong-slice_get signs 0 (codes "->*") refl })
        | inr r3 ↦ elim r3 [
          | inl e ↦ one kind.Next e (record { is = refl; flat = refl; sign = IsAmong-slice_get signs 5 (codes ">>") refl })
          | inr r4 ↦ elim r4 [
            | inl e ↦ one kind.NextPlus e (record { is = refl; flat = refl; sign = IsAmong-slice_get signs 4 (codes ">>+") refl })
            | inr r5 ↦ elim r5 [
              | inl e ↦ one kind.NextStar e (record { is = refl; flat = refl; sign = IsAmong-slice_get signs 3 (codes ">>*") refl })
              | inr r6 ↦ elim r6 [
                | inl e ↦ one kind.Equals e (record { is = refl; flat = refl; sign = IsAmong-slice_get signs 15 (codes "=") refl })
                | inr n ↦ absurd n
              ]
            ]
          ]
        ]
      ]
    ]
  ]
    where
      one : (k : Kind) → o.kind ≡ k → IsPlainSign k (relate_text (relate_of k)) → Canon texts (One (λ j. Is of.Operator j × (j.kind ≡ o.kind))) (a_sign (relate_text (relate_of o.kind)) ∷ []) (o ∷ ts) ts
      one k e p =
          subst (λ z. Canon texts (One (λ j. Is of.Operator j × (j.kind ≡ o.kind))) (a_sign (relate_text (relate_of z)) ∷ []) (o ∷ ts) ts) (sym e)
          (canon_map texts (λ a b q. (q.0, q.1, (same_class of.Operator o q.0 (one_kind k q.0 q.2 ∙ sym e) h, one_kind k q.0 q.2 ∙ sym e))) (plain texts p o (is_kind k o e)))

  join_relation : (x y : Ref) (k : Kind) (a b : List Lexeme) → Then (SpellsRef x) (Then (One (λ j. Is of.Operator j × (j.kind ≡ k))) (SpellsRef y)) a b → SpellsSynItem (syn_item.Relation x (relate_of k) y) a b
  join_relation x y k a b (m, s, (n, (j, e, q), r)) = subst (λ z. SpellsSynItem (syn_item.Relation x (relate_of z) y) a b) q.1 (a_relation (subst (λ z. SpellsRef x a z) e s) q.0 r)

  pub canon_syn_item : NoneTwice texts → Names texts CAT (codes "cat") → (i : SynItem) (ts rest : List Lexeme) → Each (IsReal texts) ts → SpellsSynItem i ts rest → Canon texts (SpellsSynItem i) (syn_item_pieces i) ts rest
  unfolding syn_item_pieces
  canon_syn_item distinct cat _ ts rest real (a_block {n} s) = canon_map texts (λ a b q. a_block q) (canon_node distinct cat n ts rest real s)
  canon_syn_item distinct cat _ ts rest real (a_relation {a = x} {b = y} {o} {mid = mid} s i r) =
      let first = canon_ref texts x ts (o ∷ mid) real s in
      canon_map texts (λ a b q. join_relation x y o.kind a b q) (canon_then texts first (canon_then texts (operator o i) (canon_ref texts y mid rest (rest_real texts first real).1 r)))

  pub syn_items : NoneTwice texts → Names texts CAT (codes "cat") → AreCanon texts SpellsSynItem syn_item_pieces
  syn_items distinct cat = record { canon = canon_syn_item distinct cat }
