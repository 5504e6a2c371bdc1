-- A quick listing with a summary that is true of the table is the plain one.
use Rattle.std.proofs.Common.{◌≡◌, ℕ, zero, suc, ◌<◌, ◌≤◌, Bool, true, false, eqb, ltb, ◌≢◌, ◌⊎◌, List, [], ◌∷◌, ◌++◌, length, sym, refl}
use Rattle.std.proofs.Common.{ap, ◌∙◌, inl, inr, ⊎_elim, arith, ltb-false, ltb-true, le-ltb, lt-ltb, eq-eqb, ne_eqb}
use Rattle.model.specs.Results.{refused_with}
use Rattle.model.specs.Table.{Words, nodes, no_collection}
use Rattle.model.specs.Slots.{Slot, View, view_of}
use Rattle.model.specs.Reached.{flat, head_or, kept, mapping, map_of}
use Rattle.model.specs.SoundTest.{settled, sound}
use Rattle.model.specs.Listing.{in_range_of, listed, listed_words, list_number, list, list_out}
use Rattle.model.specs.Writes.{standing_in}
use Rattle.model.specs.Refusals.{unless_refused}
use Rattle.model.specs.Summary.{summary_words, marks_in, leaves_up_to, page_of, quick_list_number, quick_listed, quick_list_out}
use Rattle.list_laws.proofs.Tools.{Each-map, or-right}
use Rattle.list_laws.proofs.Filters.{range-append, range-outside}
use Rattle.tree_laws.proofs.Rows.{Row, linked-cons, not-zero}
use Rattle.tree_laws.proofs.Levels.{Orderly, level-leaves, mem-leaves, row-tail}
use Rattle.tree_laws.proofs.Rising.{rising-from}
use Rattle.tree_laws.proofs.MapLaw.{row-rises, row-rest, leaf-part}
use Rattle.tree_laws.proofs.SearchLaw.{Stands, path-stands}
use Rattle.two_laws.proofs.LevelsTwo.{row-few}
use Rattle.two_laws.proofs.SearchTwo.{sound-head}
use Rattle.two_laws.proofs.SameTwo.{settled-sound}
use Rattle.two_laws.proofs.PartsTwo.{tree}
use Rattle.summary_laws.specs.Current.{Current}
use Rattle.summary_laws.proofs.Testing.{way-ok}
use Rattle.summary_laws.proofs.Quick.{marks-true}

module _ (v : View) (low high : ℕ) where
  up-ends : (c n : ℕ) → (n ≡ 0) ⊎ (high < (v.node n).fence) → leaves_up_to v high c n ≡ []
  unfolding leaves_up_to
  up-ends zero n h = refl
  up-ends (suc c) n (inl e) = rw (eq-eqb n 0 e, leaves_up_to)
  up-ends (suc c) n (inr l) = rw (or-right (eqb n 0) (ltb high (v.node n).fence) (lt-ltb high (v.node n).fence l), leaves_up_to)

  up-goes : (c n : ℕ) → n ≢ 0 → (v.node n).fence ≤ high → leaves_up_to v high (suc c) n ≡ n ∷ leaves_up_to v high c (v.node n).sibling
  unfolding leaves_up_to
  up-goes c n z l = rw (ne_eqb n 0 z, le-ltb high (v.node n).fence l, leaves_up_to)

  -- a row of leaves, of which those from a fence above the highest on have no pair in the range
  row-pages : (ns : List ℕ) (c : ℕ) → Row v 0 ns → length ns ≤ c
      → in_range_of low high (flat (kept v) (leaves_up_to v high c (head_or 0 ns))) ≡ in_range_of low high (flat (kept v) ns)
  unfolding flat
  row-pages [] c r l = ap (λ (ms : List ℕ). in_range_of low high (flat (kept v) ms)) (up-ends c 0 (inl refl))
  row-pages (n ∷ ns) zero r l = absurd (omega arith)
  row-pages (n ∷ ns) (suc c) r l = ⊎_elim past (here (row-pages ns c (row-tail v 0 n ns r) (omega arith))) (split-at (v.node n).fence high)
    where
      split-at : (a b : ℕ) → (b < a) ⊎ (a ≤ b)
      split-at a b = go (ltb b a) refl
        where
          go : (q : Bool) → ltb b a ≡ q → (b < a) ⊎ (a ≤ b)
          go true e = inl (ltb-true b a e)
          go false e = inr (ltb-false b a e)

      past : high < (v.node n).fence → in_range_of low high (flat (kept v) (leaves_up_to v high (suc c) n))
          ≡ in_range_of low high (flat (kept v) (n ∷ ns))
      past h =
          ap (λ (ms : List ℕ). in_range_of low high (flat (kept v) ms)) (up-ends (suc c) n (inr h)) ∙ range-outside low high [] tt
          ∙ sym (range-outside low high (flat (kept v) (n ∷ ns))
          (Each-map (λ (s : Slot). (v.node n).fence ≤ s.key) (λ (s : Slot). low ≤ s.key → s.key ≤ high → ⊥) (flat (kept v) (n ∷ ns))
          (λ s f a b. omega arith)
          (rising-from (v.node n).fence (flat (kept v) (n ∷ ns)) (row-rises v 0 n ns r))))

      here : in_range_of low high (flat (kept v) (leaves_up_to v high c (head_or 0 ns))) ≡ in_range_of low high (flat (kept v) ns)
          → (v.node n).fence ≤ high → in_range_of low high (flat (kept v) (leaves_up_to v high (suc c) n))
          ≡ in_range_of low high (flat (kept v) (n ∷ ns))
      here ih h =
          ap (λ (ms : List ℕ). in_range_of low high (flat (kept v) ms))
          (up-goes c n (not-zero v n r.at.0.range) h ∙ ap (λ (m : ℕ). n ∷ leaves_up_to v high c m) ((linked-cons v n ns 0).0 r.chain).0)
          ∙ range-append low high (kept v n) (flat (kept v) (leaves_up_to v high c (head_or 0 ns)))
          ∙ ap (λ (ss : List Slot). in_range_of low high (kept v n) ++ ss) ih
          ∙ sym (range-append low high (kept v n) (flat (kept v) ns))

-- ---- the pairs in a range are those of the leaves from the one for the lowest key on

-- in any tree in order, one with something unfinished too
pub pages-map : (v : View) (low high : ℕ) → Orderly v
    → in_range_of low high (flat (kept v) (leaves_up_to v high v.nodes (standing_in v 0 low))) ≡ in_range_of low high (mapping v)
unfolding flat standing_in
pages-map v low high o =
    let x = standing_in v 0 low in
    let u : Stands v low 0 x = path-stands v low 0 o (omega arith) in
    let p = leaf-part v x o ((mem-leaves v x o).1 (u.reached, u.covers.at.level)) in
    let row : Row v 0 (x ∷ p.right) = row-rest v 0 p.left (x ∷ p.right) (rw p.shape at (level-leaves v o).row) in
    let earlier = flat (kept v) p.left in
    let later = flat (kept v) (x ∷ p.right) in
    let f = u.covers.fence in
    let none : in_range_of low high earlier ≡ [] =
    range-outside low high earlier
    (Each-map (λ (s : Slot). s.key < (v.node x).fence) (λ (s : Slot). low ≤ s.key → s.key ≤ high → ⊥) earlier
    (λ s k l u. omega arith) p.low) in
    row-pages v low high (x ∷ p.right) v.nodes row (row-few v 0 (x ∷ p.right) row)
    ∙ sym (ap (in_range_of low high) p.parts ∙ range-append low high earlier later
    ∙ ap (λ (ss : List Slot). ss ++ in_range_of low high later) none)

-- on a settled table
pub page-same : (n : ℕ) (t : Words) → no_collection n t ≡ false → settled t ≡ true → (low high : ℕ) → page_of n t low high
    ≡ in_range_of low high (map_of n t)
unfolding page_of
page-same n t h s low high = pages-map (view_of n t) low high (tree n t h s).left.orderly

module _ (ws t : Words) (c : Current ws t) (n low high : ℕ) (out : Words) where
  snd : sound t ≡ true
  snd = settled-sound t c.settled

  list-number : quick_list_number n ws t low ≡ list_number n t
  unfolding quick_list_number list_number
  list-number = go (no_collection n t) refl
    where
      go : (b : Bool) → no_collection n t ≡ b → quick_list_number n ws t low ≡ list_number n t
      go true e = rw (sound-head t snd, e)
      go false e = rw (
        sound-head t snd,
        e,
        eq-eqb (length ws) (summary_words (nodes t)) c.long,
        way-ok n t e c.settled (marks_in (nodes t) ws) (marks-true ws t c) low,
        snd,
      )

  number-there : no_collection n t ≡ false → list_number n t ≡ 0
  unfolding list_number
  number-there e = rw (sound-head t snd, e, snd)

  number-lacks : no_collection n t ≡ true → list_number n t ≡ 17
  unfolding list_number
  number-lacks e = rw (sound-head t snd, e)

  -- Answer and slice are those of the plain listing.
  pub quick-listed : quick_listed n ws t low high out ≡ list n t low high out
  unfolding quick_listed list
  quick-listed = rw list-number (go (no_collection n t) refl)
    where
      go : (b : Bool) → no_collection n t ≡ b
          → unless_refused (list_number n t) (listed (page_of n t low high) (length out))
          (refused_with (list_number n t)) ≡ list n t low high out
      go true e = rw (number-lacks e)
      go false e = rw (number-there e, page-same n t e c.settled low high)

  -- with a true summary a quick listing leaves the same words as a plain one
  pub quick-list-out : quick_list_out n ws t low high out ≡ list_out n t low high out
  unfolding quick_list_out list_out
  quick-list-out = rw list-number (go (no_collection n t) refl)
    where
      go : (b : Bool) → no_collection n t ≡ b → unless_refused (list_number n t) (listed_words (page_of n t low high) out) out
          ≡ list_out n t low high out
      go true e = rw (number-lacks e)
      go false e = rw (number-there e, page-same n t e c.settled low high)
