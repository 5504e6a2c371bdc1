-- A class change after the shared tests: refused with 14 or 9, or accepted; and its store after the repair.
use Rattle.std.proofs.Common.{◌≡◌, ℕ, ◌<◌, ◌≤◌, Bool, true, false, List, ◌++◌, length, sym, refl, ap, ◌∙◌, arith}
use Rattle.std.specs.Prelude.{Ok}
use Rattle.model.specs.Table.{Words, at, header_ok, root_word, no_collection}
use Rattle.model.specs.Slots.{class_ok, node_view, view_from}
use Rattle.model.specs.Reached.{mapping, map_of}
use Rattle.model.specs.SoundTest.{sound_view}
use Rattle.model.specs.Orders.{Store}
use Rattle.model.specs.Shifts.{place_of}
use Rattle.model.specs.Writes.{set_class_at, standing_in, standing, repair_stores, repaired, class_stores, class_change, stores_of}
use Rattle.model.specs.Refusals.{has_key, refusal}
use Rattle.list_laws.proofs.Recordings.{class-iff}
use Rattle.two_laws.proofs.CollectionTwo.{settled-head}
use Rattle.two_laws.proofs.JudgedTwo.{map-later}
use Rattle.two_laws.proofs.PartsTwo.{Plain, settled-plain, standing-reached, key-place}
use Rattle.sound.specs.declared.Sound.{Sound}
use Rattle.orders.specs.declared.Writer.{Writer}
use Rattle.orders.specs.Desk.{Desk, of, Makes, first_pen, Room}
use Rattle.write.specs.Judged.{judged}
use Rattle.write.proofs.Judging.{Passed, judged-ready, ready-accepted, ready-number}
use Rattle.write.proofs.Ending.{Begun, begun-allows, mended-table, mended-settled, mended-collection, rest-room}
use Rattle.write.proofs.Rooted.{root-sound, root-stands, root-key}

-- ---- 14 and 9

module _ (o k c words dock : ℕ) (t : Words) (s : Sound) (j : judged (no_collection o t) words dock t ≡ Ok s) {a : Bool}
    (q : a ≡ class_ok c) where
  abbrev p : Passed (class_change o k c) words dock t s.leftover s.reached
  p = judged-ready (class_change o k c) words dock t s j

  pub class-refused : a ≡ false → refusal (class_change o k c) words dock t ≡ 14
  class-refused h = ready-number (class_change o k c) words dock t p ∙ rw (sym q ∙ h)

  -- the root that was read, and whether its tree has the key
  module _ (y : a ≡ true) {r : ℕ} (f : r ≡ at t (root_word o)) where
    pub tree-sound : sound_view (view_from t r) ≡ true
    tree-sound = root-sound o t r f p.found.is-sound p.collection

    module _ {b : Bool} (e : b ≡ has_key k (mapping (view_from t r))) where
      has : b ≡ has_key k (map_of o t)
      has = root-key o t r f b k e

      pub key-refused : b ≡ false → refusal (class_change o k c) words dock t ≡ 9
      key-refused h = ready-number (class_change o k c) words dock t p ∙ rw (sym q ∙ y, sym has ∙ h)

      class-accepted : b ≡ true → refusal (class_change o k c) words dock t ≡ 0
      class-accepted h = ready-accepted (class_change o k c) words dock t p
          (sym q ∙ y, ap (has_key k) (map-later o t p.found.is-sound p.collection) ∙ sym has ∙ h)

-- ---- the stores: the repair, then the class in its leaf

abbrev pub classed : (o k c : ℕ) → Words → List Store
classed o k c t = set_class_at t (standing o t 0 k) k c

class-stores : (o : ℕ) (t : Words) (k c : ℕ) → stores_of (class_change o k c) t ≡ repair_stores t ++ classed o k c (repaired t)
unfolding stores_of class_stores
class-stores o t k c = refl

-- an accepted class change, from its first pen on
pub begun : (o k c dock : ℕ) {d : Desk} (s : Sound) {a : Bool} {r : ℕ} {b : Bool}
    → judged (no_collection o d.table) (length d.list) dock d.table ≡ Ok s
    → a ≡ class_ok c → a ≡ true → r ≡ at d.table (root_word o) → b ≡ has_key k (mapping (view_from d.table r)) → b ≡ true
    → d.pen ≡ first_pen dock
    → Begun (class_change o k c) dock d (classed o k c)
begun o k c dock {d} s j q y f e h g =
    let p = judged-ready (class_change o k c) (length d.list) dock d.table s j in
    record {
      is-sound = p.found.is-sound;
      accepted = class-accepted o k c (length d.list) dock d.table s j q y f e h;
      first = g;
      stores = class-stores o d.table k c;
    }

-- the repair is made
module _ {o k c dock : ℕ} {w v : Writer} (b : Begun (class_change o k c) dock (of w) (classed o k c))
    (g : Makes (repair_stores w.table.now) w v) where
  pub class-low : c ≤ 2
  class-low = (class-iff c).0 (begun-allows b).0

  pub mended-header : header_ok v.table.now ≡ true
  mended-header = settled-head v.table.now (mended-settled b g)

  -- the leaf, by the root that was read
  module _ {r : ℕ} (f : r ≡ at v.table.now (root_word o)) {n : ℕ} (q : n ≡ standing_in (view_from v.table.now r) 0 k) where
    leaf : n ≡ standing o v.table.now 0 k
    leaf = root-stands o v.table.now r f n 0 k q

    pub leaf-plain : Plain v.table.now n
    leaf-plain =
        let h = mended-collection b g in
        let s = mended-settled b g in
        rw leaf (settled-plain o v.table.now h s _ (standing-reached o v.table.now h s 0 k (omega arith)))

    pub leaf-place : place_of k (node_view v.table.now n).shown < length (node_view v.table.now n).shown
    leaf-place = rw leaf (key-place o v.table.now (mended-collection b g) (mended-settled b g) k (rw (mended-table b g) (begun-allows b).1))

    pub class-room : Room (set_class_at v.table.now n k c) (of v)
    class-room = rw leaf (rest-room b g)

    pub class-stored : {z : Writer} → Makes (set_class_at v.table.now n k c) v z → Makes (classed o k c v.table.now) v z
    class-stored h = rw leaf at h
