-- The maps of a sound table can be packed into a table of its size: a tree that holds pairs has as many nodes as these need.
use Rattle.std.proofs.Common.{◌≡◌, ℕ, zero, suc, pred, ◌+◌, ◌-◌, ◌/◌, ◌≤◌, true, ◌≢◌, ◌⊎◌, List, [], ◌∷◌, length, refl, inl, inr, arith}
use Rattle.std.proofs.Common.{length-append, eq-eqb, ne_eqb}
use lib.ListN.{length-map}
use borrow.Author.Tests.{eqb-false}
use Rattle.model.specs.Table.{Words, at, nodes, no_collection}
use Rattle.model.specs.Slots.{Slot, View, view_from, view_of, height}
use Rattle.model.specs.Reached.{flat, head_or, kept, children, reached_from, leaves_from, reached, leaves, mapping, map_of, maps_of}
use Rattle.model.specs.SoundTest.{settled_view, sound}
use Rattle.model.specs.Writes.{repair_stores, repaired}
use Rattle.list_laws.proofs.Tools.{Each, Each-map, Each-split, same-or-not}
use Rattle.list_laws.proofs.Members.{each-both, flat-short}
use Rattle.table_laws.proofs.Header.{header-iff}
use Rattle.tree_laws.proofs.Rows.{Good, no-children, each-leaf}
use Rattle.tree_laws.proofs.Kept.{by-level}
use Rattle.tree_laws.proofs.Levels.{level-leaves, reached-few}
use Rattle.tree_laws.proofs.Leftovers.{NothingUnfinished, settled-iff}
use Rattle.cut_laws.proofs.Applying.{length-apply}
use Rattle.word_laws.proofs.ShiftViews.{shown-few}
use Rattle.change_laws.proofs.Parts.{good-parts}
use Rattle.two_laws.proofs.SameTwo.{each-settled, first-there, second-there, settled-sound}
use Rattle.two_laws.proofs.SearchTwo.{sound-head}
use Rattle.two_laws.proofs.CallsTwo.{repairs}
use Rattle.two_laws.proofs.JudgedTwo.{map-later}
use Rattle.two_laws.proofs.CollectionTwo.{collection-orderly, collection-repaired, unreachable-all}
use Rattle.two_laws.proofs.CheckTwo.{count-beside}
use Rattle.model.specs.Packing.{packed_count, packed_both}
use Rattle.pack_laws.specs.Needed.{nodes_above, nodes_needed}
use Rattle.pack_laws.proofs.Counts.{above-one, packed-count}

above-step : (f c : ℕ) → nodes_above f c ≤ (c + 11) / 12 + nodes_above (pred f) ((c + 11) / 12)
unfolding nodes_above
above-step zero c = omega arith
above-step (suc f) zero = omega arith
above-step (suc f) (suc zero) = omega arith
above-step (suc f) (suc (suc c)) = omega arith

module _ (v : View) where
  -- a row of width nodes over rows of so many nodes all told; packed, these need no more but for the rows above
  record Lighter (width all c f : ℕ) : Type 0 where
    top : ℕ
    fuel : ℕ
    narrow : top ≤ width
    few : c + nodes_above f c + width ≤ all + (top + nodes_above fuel top)

  lighter : (i : ℕ) (ns : List ℕ) → Each (λ (n : ℕ). length (children v n) ≤ 12) (reached_from v i ns) → (c f : ℕ)
      → c ≤ length (leaves_from v i ns) → Lighter (length ns) (length (reached_from v i ns)) c f
  unfolding reached_from leaves_from
  lighter zero ns h c f l = record { top = c; fuel = f; narrow = l; few = omega arith }
  lighter (suc i) ns h c f l =
      let u = Each-split (λ (n : ℕ). length (children v n) ≤ 12) ns (reached_from v i (flat (children v) ns)) h in
      let p = lighter i (flat (children v) ns) u.1 c f l in
      let wide = flat-short (children v) 12 ns u.0 in
      let e = length-append ns (reached_from v i (flat (children v) ns)) in
      record {
        top = (p.top + 11) / 12;
        fuel = pred p.fuel;
        narrow = omega (arith, p.narrow);
        few = omega (arith, p.few, p.narrow, above-step p.fuel p.top);
      }

  -- with at most 11 slots to a leaf and 12 children to a node
  tree-enough : Each (λ (n : ℕ). length (children v n) ≤ 12) (reached v) → Each (λ (n : ℕ). length (kept v n) ≤ 11) (leaves v)
      → 1 ≤ length (leaves v) → nodes_needed (length (mapping v)) ≤ length (reached v)
  unfolding nodes_needed mapping
  tree-enough h k o =
      let m = length (mapping v) in
      let c = suc ((m - 1) / 11) in
      let all = flat-short (kept v) 11 (leaves v) k in
      let l : c ≤ length (leaves v) = omega arith in
      let p = lighter (height v) (v.root ∷ []) h c 15 l in
      omega (arith, p.few, p.narrow, above-one p.fuel p.top p.narrow)

some-length : (ns : List ℕ) → head_or 0 ns ≢ 0 → 1 ≤ length ns
some-length [] h = absurd (h refl)
some-length (n ∷ ns) h = omega arith

-- ---- in a table

-- The tree from any root.
module _ (t : Words) (r : ℕ) where
  abbrev v : View
  v = view_from t r

  node-short : (n : ℕ) → Good v n × NothingUnfinished v n → (length (children v n) ≤ 12) × (length (kept v n) ≤ 11)
  node-short n g =
      let k : length (kept v n) ≤ 11 = rw g.1.keeps (shown-few t n (good-parts v n g.0).0) in (
        by-level v (λ (n : ℕ). length (kept v n) ≤ 11 → NothingUnfinished v n → length (children v n) ≤ 12) n
            (λ e k f. rw (no-children v n e) (omega arith))
            (λ d e k f. rw (f.names (λ z. omega arith)) (omega (arith, length-map (kept v n) (λ (s : Slot). s.pointer)))) k g.1,
        k,
      )

  settled-enough : settled_view v ≡ true → nodes_needed (length (mapping v)) ≤ length (reached v)
  settled-enough h =
      let s = (settled-iff v).0 h in
      let w = Each-map _ (λ (n : ℕ). (length (children v n) ≤ 12) × (length (kept v n) ≤ 11)) (reached v) node-short
      (each-both (Good v) (NothingUnfinished v) (reached v) s.orderly.good s.nothing-unfinished) in
      let k = each-leaf v (λ (n : ℕ). length (kept v n) ≤ 11) (height v) (v.root ∷ []) (Each-map _ _ (reached v) (λ n u. u.1) w) in
      tree-enough v (Each-map _ (λ (n : ℕ). length (children v n) ≤ 12) (reached v) (λ n u. u.0) w) k
      (some-length (leaves v) (level-leaves v s.orderly).some)

-- Each collection of a sound table needs no more than its tree has after repair.
module _ (t : Words) (s : sound t ≡ true) where
  abbrev t' : Words
  t' = repaired t

  one-enough : packed_count (map_of 1 t) ≤ length (reached (view_of 1 t'))
  unfolding packed_count
  one-enough =
      let e = settled-enough t' (at t' 1) ((each-settled t').0 (repairs t s).settles).one in
      omega (arith, packed-count 1 (map_of 1 t), rw (map-later 1 t s (first-there t)) at e)

  module _ (z : at t 3 ≢ 0) where
    there : at t' 3 ≢ 0
    unfolding no_collection
    there = eqb-false (at t' 3) 0 (collection-repaired 2 t s (second-there t z))

    two-enough : packed_count (map_of 2 t) ≤ length (reached (view_of 2 t'))
    unfolding packed_count
    two-enough =
        let e = settled-enough t' (at t' 3) (((each-settled t').0 (repairs t s).settles).two there) in
        omega (arith, packed-count 1 (map_of 2 t), rw (map-later 2 t s (second-there t z)) at e)

  again : sound t' ≡ true
  again = settled-sound t' (repairs t s).settles

  same-nodes : nodes t' ≡ nodes t
  unfolding repaired
  same-nodes =
      let a = ((header-iff t').0 (sound-head t' again)).size.long in
      let b = ((header-iff t).0 (sound-head t s)).size.long in
      omega (arith, a, b, length-apply (repair_stores t) t)

  -- The maps of a sound table can be packed into a table of its size.
  pub sound-enough : packed_both (maps_of t) ≤ nodes t
  unfolding packed_both maps_of
  sound-enough = go (same-or-not (at t 3) 0)
    where
      go : (at t 3 ≡ 0) ⊎ (at t 3 ≢ 0) → packed_both (maps_of t) ≤ nodes t
      go (inl z) = rw (eq-eqb (at t 3) 0 z)
          (omega (arith, one-enough, reached-few (view_of 1 t') (collection-orderly 1 t' again (first-there t')), same-nodes))
      go (inr z) = rw (ne_eqb (at t 3) 0 z)
          (omega (arith, one-enough, two-enough z, unreachable-all t' again, count-beside t' (there z), same-nodes))
