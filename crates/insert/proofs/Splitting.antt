-- The splits of the run: what each needs of its nodes, and the run in the rest form.
use Rattle.std.proofs.Common.{◌≡◌, ℕ, zero, suc, ◌+◌, ◌-◌, ◌<◌, ◌≤◌, true, ◌++◌, sym, ap, add-one, arith}
use mathlib.Core.List.{Memᴰ}
use Rattle.model.specs.Table.{Words, at, nodes, header_ok, root_word, has_node}
use Rattle.model.specs.Slots.{view_from, view_of}
use Rattle.model.specs.Reached.{reached}
use Rattle.model.specs.SoundTest.{sound}
use Rattle.model.specs.Orders.{apply}
use Rattle.model.specs.Writes.{fresh, standing_in, standing, splits}
use Rattle.list_laws.proofs.Members.{each-mem}
use Rattle.list_laws.proofs.Distinct.{UpTo}
use Rattle.tree_laws.proofs.Levels.{reached-numbers}
use Rattle.two_laws.specs.Parts.{split_for, Splittable, Ready}
use Rattle.two_laws.proofs.SameTwo.{settled-sound}
use Rattle.two_laws.proofs.CollectionTwo.{settled-head, collection-orderly}
use Rattle.two_laws.proofs.PartsTwo.{Stays, Plain, settled-plain, standing-reached, fresh-there, ready-first, ready-later, split-stays}
use Rattle.reach.specs.Marks.{Marked}
use Rattle.reach.proofs.Marking.{stays-marked}
use Rattle.orders.specs.declared.Writer.{Writer}
use Rattle.orders.specs.Desk.{Desk, of, Becomes, Makes, Room}
use Rattle.orders.proofs.Rest.{Rest, rest-same, rest-first, rest-after, rest-none}
use Rattle.write.proofs.Parts.{part-table}
use Rattle.write.proofs.Rooted.{root-stands}

-- ---- one split

module _ {n : ℕ} {t : Words} {k l : ℕ} (s : Splittable n t k l) where
  pub split-header : header_ok t ≡ true
  split-header = settled-head t s.settled

  pub split-sound : sound t ≡ true
  split-sound = settled-sound t s.settled

  pub split-low : l < 15
  split-low = omega (arith, s.node.high, (collection-orderly n t split-sound s.collection).top.level)

  lower-reached : Memᴰ (standing n t l k) (reached (view_of n t))
  lower-reached = standing-reached n t s.collection s.settled l k (omega (arith, s.node.high))

  -- A, by the root that was read
  module _ {r : ℕ} (er : r ≡ at t (root_word n)) {a : ℕ} (ea : a ≡ standing_in (view_from t r) l k) where
    lower : a ≡ standing n t l k
    lower = root-stands n t r er a l k ea

    pub lower-range : (1 ≤ a) × (a ≤ nodes t)
    lower-range = rw lower
        (each-mem (UpTo (nodes t)) (reached-numbers (view_of n t) (collection-orderly n t split-sound s.collection)) lower-reached)

    pub lower-plain : Plain t a
    lower-plain = rw lower (settled-plain n t s.collection s.settled _ lower-reached)

    -- B and the parent
    module _ {b : ℕ} (eb : b ≡ fresh t a) {p : ℕ} (ep : p ≡ standing_in (view_from t r) (l + 1) k) where
      above : p ≡ standing n t (suc l) k
      above = rw add-one at (root-stands n t r er p (l + 1) k ep)

      pub upper-there : has_node t b ≡ true
      upper-there = rw (eb, lower) (fresh-there n t s.collection s.settled _ lower-reached s.some)

      pub parent-plain : Plain t p
      parent-plain = rw above
          (settled-plain n t s.collection s.settled _ (standing-reached n t s.collection s.settled (suc l) k s.node.high))

-- ---- the run, from the highest level down

module _ (n : ℕ) (t : Words) (k : ℕ) where
  highest : (l : ℕ) → 0 < l → splits n l t k ≡ split_for n t (l - 1) k ++ splits n (l - 1) (apply (split_for n t (l - 1) k) t) k
  unfolding splits
  highest zero h = absurd (omega arith)
  highest (suc l) h = let o : suc l - 1 ≡ l = omega arith in rw o

  pub next-splittable : (l : ℕ) → 0 < l → Ready l n t k → Splittable n t k (l - 1)
  next-splittable zero h r = absurd (omega arith)
  next-splittable (suc l) h r = let o : suc l - 1 ≡ l = omega arith in rw o (ready-first l n t k r)

  after-highest : (l : ℕ) → 0 < l → Ready l n t k → Ready (l - 1) n (apply (split_for n t (l - 1) k) t) k
  after-highest zero h r = absurd (omega arith)
  after-highest (suc l) h r = let o : suc l - 1 ≡ l = omega arith in rw o (ready-later l n t k r)

  highest-stays : (l : ℕ) → 0 < l → Ready l n t k → Stays (split_for n t (l - 1) k) t
  highest-stays zero h r = absurd (omega arith)
  highest-stays (suc l) h r = let o : suc l - 1 ≡ l = omega arith in rw o (split-stays l n t k r)

-- of a writer that has l nodes of the run left
module _ (n k l : ℕ) {f w : Writer} {x : Desk} (pos : 0 < l) (r : Rest (splits n l w.table.now k) f w x) where
  rest : Rest (split_for n w.table.now (l - 1) k ++ splits n (l - 1) (apply (split_for n w.table.now (l - 1) k) w.table.now) k) f w x
  rest = rest-same (highest n w.table.now k l pos) r

  pub next-room : Room (split_for n w.table.now (l - 1) k) (of w)
  next-room = rest-first _ _ rest

  -- the split is made
  module _ {v : Writer} (q : Makes (split_for n w.table.now (l - 1) k) w v) where
    table-is : v.table.now ≡ apply (split_for n w.table.now (l - 1) k) w.table.now
    table-is = part-table (split_for n w.table.now (l - 1) k) (λ (u : Words). splits n (l - 1) u k) q

    pub next-ready : Ready l n w.table.now k → Ready (l - 1) n v.table.now k
    next-ready h = rw table-is (after-highest n w.table.now k l pos h)

    pub next-marked : Ready l n w.table.now k → (marks : Words) → Marked w.table.now marks → Marked v.table.now marks
    next-marked h marks m = rw table-is (stays-marked w.table.now _ marks (highest-stays n w.table.now k l pos h) m)

    pub next-rest : Rest (splits n (l - 1) v.table.now k) f v x
    next-rest = rest-same (ap (λ (u : Words). splits n (l - 1) u k) (sym table-is)) (rest-after _ _ rest q)

pub splits-done : (n l k : ℕ) {f w : Writer} {x : Desk} → l ≤ 0 → Rest (splits n l w.table.now k) f w x → Becomes f x w
unfolding splits
splits-done n zero k h r = rest-none r
splits-done n (suc l) k h r = absurd (omega arith)
