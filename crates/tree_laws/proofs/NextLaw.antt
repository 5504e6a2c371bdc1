-- The next code up: on an orderly tree what is found along the leaves is the map's next key, and that is the least one above the key.
use Rattle.std.proofs.Common.{◌≡◌, ℕ, zero, suc, ◌<◌, ◌≤◌, Bool, true, false, ◌&&◌, ◌||◌, eqb, ltb, ◌≢◌, List, [], ◌∷◌, length, sym, refl}
use Rattle.std.proofs.Common.{ap, ◌∙◌, ⊎_elim, arith, length-append, ltb-false, ltb-true, eq-eqb, ne_eqb}
use mathlib.Core.List.Memᴰ
use mathlib.Core.List.{Memᴰ}
use borrow.Author.Tests.{eqb-false}
use Rattle.model.specs.declared.Answer.TheVariants.{Absent}
use Rattle.std.specs.Prelude.{Some, None}
use Rattle.model.specs.Table.{in_range}
use Rattle.model.specs.Slots.{Slot, View, height}
use Rattle.model.specs.Search.{on_level, passes, kept, first_above, next_from, Next}
use Rattle.model.specs.Reached.{flat, children, leaves_from, reached_from, leaves, mapping}
use Rattle.model.specs.SoundTest.{rising}
use Rattle.model.specs.Demand2.{IsNext}
use Rattle.list_laws.proofs.Tools.{decode, or-right, Each-map, above-here, above-past, above-l, absent-append}
use Rattle.list_laws.proofs.Members.{each-mem}
use Rattle.tree_laws.proofs.Rows.{Good, At, Row, not-zero, sib-facts, linked-cons}
use Rattle.tree_laws.proofs.Levels.{Orderly, level-leaves, row-tail, reached-few}
use Rattle.tree_laws.proofs.Rising.{rising-cons, rising-from}
use Rattle.tree_laws.proofs.MapLaw.{leaf-part, row-rest}

-- ---- along the leaves

-- a good node passes the search's tests
pub passes-good : (v : View) (d n : ℕ) → Good v n → At v d n → passes v d n ≡ true
unfolding passes on_level
passes-good v d n g a = simp decode ((a.range, a.level), go (eqb (v.node n).sibling 0) refl)
  where
    go : (b : Bool) → eqb (v.node n).sibling 0 ≡ b
        → eqb (v.node n).sibling 0 || (in_range v.nodes (v.node n).sibling && eqb (v.node (v.node n).sibling).level d) ≡ true
    go true c = rw c
    go false c = let w =
        sib-facts v n g (eqb-false _ _ c) in or-right (eqb (v.node n).sibling 0) _ (simp decode (w.range, w.level ∙ a.level))

module _ (v : View) (k : ℕ) where
  -- in a row of leaves that may all be entered it is the first one above k of their slots
  next-row : (c n : ℕ) (ns : List ℕ) → length (n ∷ ns) ≤ c → Row v 0 (n ∷ ns) → next_from v c n k
      ≡ Absent (first_above k (flat (kept v) (n ∷ ns)))
  unfolding next_from flat first_above
  next-row zero n ns h r = absurd (omega arith)
  next-row (suc c) n [] h r =
      let e = ((linked-cons v n [] 0).0 r.chain).0 in
      rw (passes-good v 0 n r.good.0 r.at.0, next_from, eq-eqb (v.node n).sibling 0 e) (absent-append k (kept v n) [])
  next-row (suc c) n (m ∷ ns) h r =
      let e = ((linked-cons v n (m ∷ ns) 0).0 r.chain).0 in
      let z : (v.node n).sibling ≢ 0 = λ q. not-zero v m r.at.1.0.range (sym e ∙ q) in
      let ih = next-row c m ns (omega arith) (row-tail v 0 n (m ∷ ns) r) in
      rw (passes-good v 0 n r.good.0 r.at.0, next_from, ne_eqb (v.node n).sibling 0 z, e, ih)
      (absent-append k (kept v n) (flat (kept v) (m ∷ ns)))

-- no more leaves than nodes are reached from a row
pub leaves-few : (v : View) (d : ℕ) (ns : List ℕ) → length (leaves_from v d ns) ≤ length (reached_from v d ns)
unfolding leaves_from reached_from
leaves-few v zero ns = omega arith
leaves-few v (suc d) ns = simp length-append (omega (arith, leaves-few v d (flat (children v) ns)))

-- From a leaf whose fence is not above k: the map's next key, within N leaves.
pub next-law : (v : View) (k x : ℕ) → Orderly v → Memᴰ x (leaves v) → (v.node x).fence ≤ k → next_from v v.nodes x k
    ≡ Absent (first_above k (mapping v))
unfolding flat
next-law v k x o m f =
    let p = leaf-part v x o m in
    let r : Row v 0 (x ∷ p.right) = row-rest v 0 p.left (x ∷ p.right) (rw p.shape at (level-leaves v o).row) in
    let low = Each-map (λ (s : Slot). s.key < (v.node x).fence) (λ (s : Slot). s.key ≤ k) (flat (kept v) p.left)
    (λ s h. omega (arith, h, f)) p.low in
    next-row v k v.nodes x p.right
    (omega (arith, leaves-few v (height v) (v.root ∷ []), reached-few v o, ap length p.shape, length-append p.left (x ∷ p.right))) r
    ∙ ap Absent (sym (ap (first_above k) p.parts ∙ above-l k (flat (kept v) p.left) (flat (kept v) (x ∷ p.right)) low))

-- ---- the least one

-- a pair in front that is not above k
next-past : (k : ℕ) (x : Next) (s : Slot) (ps : List Slot) → s.key ≤ k → IsNext k ps x → IsNext k (s ∷ ps) x
next-past k (Some j) s ps h u = (
  (u.0.0, Memᴰ.tail u.0.1),
  u.1,
  λ y m l. ⊎_elim (λ e. absurd (omega (arith, ap (λ (z : Slot). z.key) e))) (λ t. u.2 y t l) (Memᴰ.cases_cons m),
)
next-past k None s ps h u = λ y m. ⊎_elim (λ e. omega (arith, ap (λ (z : Slot). z.key) e)) (λ t. u y t) (Memᴰ.cases_cons m)

-- the first one above k of pairs whose keys rise
pub next-least : (lo k : ℕ) (ps : List Slot) → rising lo ps ≡ true → IsNext k ps (first_above k ps)
unfolding first_above
next-least lo k [] r = λ s m. absurd (Memᴰ.not-nil m)
next-least lo k (s ∷ ps) r = go (ltb k s.key) refl (next-least (suc s.key) k ps ((rising-cons lo s ps).0 r).1)
  where
    go : (b : Bool) → ltb k s.key ≡ b → IsNext k ps (first_above k ps) → IsNext k (s ∷ ps) (first_above k (s ∷ ps))
    go true c ih =
        let l : k < s.key = ltb-true k s.key c in
        rw (above-here k s ps l) (
          (s.pointer, Memᴰ.head refl),
          l,
          λ y m q. ⊎_elim (λ e. omega (arith, ap (λ (z : Slot). z.key) e)) (λ t.
              omega (arith, each-mem (λ (z : Slot). suc s.key ≤ z.key) (rising-from (suc s.key) ps ((rising-cons lo s ps).0 r).1) t))
              (Memᴰ.cases_cons m),
        )
    go false c ih = let l : s.key ≤ k = ltb-false k s.key c in rw (above-past k s ps l) (next-past k (first_above k ps) s ps l ih)
