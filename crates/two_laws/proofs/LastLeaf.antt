-- The last leaf of an orderly tree: from the root down by the last child.
use Rattle.std.proofs.Common.{◌≡◌, ℕ, zero, suc, Bool, true, false, eqb, List, [], ◌∷◌, sym, refl, ap, ◌∙◌}
use Rattle.model.specs.Slots.{View, height}
use Rattle.model.specs.Reached.{flat, fill_row, first_child, named, pointers, kept, children, leaves, leaves_from}
use Rattle.model.specs.SoundTest.{linked}
use Rattle.tree_laws.proofs.Rows.{At, link-yes, link-no, linked-cons, children-inner}
use Rattle.tree_laws.proofs.Levels.{Orderly, Level, level-root, level-lower}
use Rattle.walk_laws.specs.Chain.{last_or, or_sibling, last_child, rightmost, last_leaf}
use Rattle.two_laws.proofs.Apart.{each-last, down-last}

module _ (v : View) where
  -- the last of a row of children that no node follows
  last-fill : (e n : ℕ) (ns : List ℕ) → last_or e (fill_row v (n ∷ ns) 0) ≡ or_sibling v (last_or n ns)
  unfolding fill_row last_or or_sibling
  last-fill e n [] = go (eqb (v.node n).sibling 0) refl
    where
      go : (b : Bool) → eqb (v.node n).sibling 0 ≡ b → last_or e (fill_row v (n ∷ []) 0) ≡ or_sibling v (last_or n [])
      go true c = rw (c, fill_row, or_sibling)
      go false c = rw (c, fill_row, or_sibling)
  last-fill e n (m ∷ ms) = go (eqb (v.node n).sibling m) refl (λ f. last-fill f m ms)
    where
      go : (b : Bool) → eqb (v.node n).sibling m ≡ b → ((f : ℕ) → last_or f (fill_row v (m ∷ ms) 0) ≡ or_sibling v (last_or m ms))
          → last_or e (fill_row v (n ∷ m ∷ ms) 0) ≡ or_sibling v (last_or n (m ∷ ms))
      go true c ih = ap (last_or e) (link-yes v n (m ∷ ms) 0 c) ∙ ih n
      go false c ih = ap (last_or e) (link-no v n (m ∷ ms) 0 c) ∙ ih (v.node n).sibling

  last-child : (d e n : ℕ) → (v.node n).level ≡ suc d → (v.node n).sibling ≡ 0 → last_or e (children v n) ≡ last_child v n
  unfolding last_or first_child
  last-child d e n l z =
      ap (last_or e) (children-inner v d n l) ∙ ap (λ (s : ℕ). last_or e (fill_row v (named v n) (first_child v s))) z
      ∙ last-fill e (v.node n).left (pointers (kept v n))

  -- the last node of a row has no sibling
  last-sibling : (n : ℕ) (ns : List ℕ) → linked v (n ∷ ns) 0 ≡ true → (v.node (last_or n ns)).sibling ≡ 0
  unfolding last_or
  last-sibling n [] h = ((linked-cons v n [] 0).0 h).0
  last-sibling n (m ∷ ms) h = last-sibling m ms ((linked-cons v n (m ∷ ms) 0).0 h).1

  down : (d : ℕ) (ns : List ℕ) → Level v (suc d) ns → last_or 0 (flat (children v) ns) ≡ last_child v (last_or 0 ns)
  unfolding last_or
  down d [] l = absurd (l.some refl)
  down d (n ∷ ns) l =
      let m = last_or n ns in
      let at = each-last v (At v (suc d)) n ns l.row.at in
      down-last v d (n ∷ ns) l ∙ last-child d 0 m at.level (last-sibling n ns l.row.chain)

  rightmost-last : (d : ℕ) (ns : List ℕ) → Level v d ns → rightmost v d (last_or 0 ns) ≡ last_or 0 (leaves_from v d ns)
  unfolding rightmost leaves_from
  rightmost-last zero ns l = refl
  rightmost-last (suc d) ns l = ap (rightmost v d) (sym (down d ns l)) ∙ rightmost-last d (flat (children v) ns) (level-lower v d ns l)

pub last-leaf : (v : View) → Orderly v → last_leaf v ≡ last_or 0 (leaves v)
unfolding last_leaf last_or
last-leaf v o = rightmost-last v (height v) (v.root ∷ []) (level-root v o.top o.good)
