-- A deletion after the shared tests: refused with 9, or accepted; and its stores after the repair.
use Rattle.std.proofs.Common.{◌≡◌, ℕ, Bool, true, false, List, ◌++◌, length, sym, refl, ap, ◌∙◌, arith}
use Rattle.std.specs.Prelude.{Ok}
use Rattle.model.specs.Table.{Words, at, root_word, no_collection, has_node}
use Rattle.model.specs.Slots.{view_from, view}
use Rattle.model.specs.Reached.{mapping, map_of}
use Rattle.model.specs.SoundTest.{sound_view, settled}
use Rattle.model.specs.Orders.{Store, apply}
use Rattle.model.specs.Writes.{shift_out_at, standing_in, standing, repair_stores, repaired, child_before, frees_leaf, free_stores}
use Rattle.model.specs.Writes.{delete_settled, delete_stores, deletion, stores_of}
use Rattle.model.specs.Refusals.{has_key, refusal}
use Rattle.two_laws.proofs.DeleteTwo.{stores-begin, stores-freeing, stores-plain}
use Rattle.two_laws.proofs.JudgedTwo.{map-later}
use Rattle.two_laws.proofs.PartsTwo as parts
use Rattle.two_laws.proofs.PartsTwo.{Plain, settled-plain, standing-reached, neighbour-there}
use Rattle.sound.specs.declared.Sound.{Sound}
use Rattle.orders.specs.declared.Writer.{Writer}
use Rattle.orders.specs.Desk.{Desk, first_pen, of, Makes, Room}
use Rattle.orders.proofs.Rooms.{room-first}
use Rattle.orders.proofs.Rest.{room-as, stored-as}
use Rattle.write.specs.Judged.{judged}
use Rattle.write.proofs.Judging.{Passed, judged-ready, ready-accepted, ready-number}
use Rattle.write.proofs.Ending.{Begun}
use Rattle.write.proofs.Parts.{part-table, part-room, part-stored}
use Rattle.write.proofs.Rooted.{root-sound, root-stands, root-key}

-- ---- 9

-- the root that was read, and whether its tree has the key
module _ (c k words dock : ℕ) (t : Words) (s : Sound) (j : judged (no_collection c t) words dock t ≡ Ok s) {r : ℕ}
    (q : r ≡ at t (root_word c)) where
  abbrev p : Passed (deletion c k) words dock t s.leftover s.reached
  p = judged-ready (deletion c k) words dock t s j

  pub tree-sound : sound_view (view_from t r) ≡ true
  tree-sound = root-sound c t r q p.found.is-sound p.collection

  module _ {b : Bool} (e : b ≡ has_key k (mapping (view_from t r))) where
    has : b ≡ has_key k (map_of c t)
    has = root-key c t r q b k e

    pub delete-refused : b ≡ false → refusal (deletion c k) words dock t ≡ 9
    delete-refused h = ready-number (deletion c k) words dock t p ∙ rw (sym has ∙ h)

    pub delete-accepted : b ≡ true → refusal (deletion c k) words dock t ≡ 0
    delete-accepted h = ready-accepted (deletion c k) words dock t p
        (ap (has_key k) (map-later c t p.found.is-sound p.collection) ∙ sym has ∙ h)

-- ---- the stores: the repair, then those that the repaired table calls for

delete-stores : (c : ℕ) (t : Words) (k : ℕ) → stores_of (deletion c k) t ≡ repair_stores t ++ delete_settled c (repaired t) k
unfolding stores_of delete_stores
delete-stores c t k = refl

-- an accepted deletion, from its first pen on
pub begun : (c k dock : ℕ) {d : Desk} (s : Sound) {r : ℕ} {b : Bool} → judged (no_collection c d.table) (length d.list) dock d.table ≡ Ok s
    → r ≡ at d.table (root_word c)
    → b ≡ has_key k (mapping (view_from d.table r)) → b ≡ true → d.pen ≡ first_pen dock
    → Begun (deletion c k) dock d (λ (u : Words). delete_settled c u k)
begun c k dock {d} s j q e h f =
    let p = judged-ready (deletion c k) (length d.list) dock d.table s j in
    record {
      is-sound = p.found.is-sound;
      accepted = delete-accepted c k (length d.list) dock d.table s j q e h;
      first = f;
      stores = delete-stores c d.table k;
    }

-- by the root r: leaf x, its parent p and whether the leaf is freed, looked up on a settled table before the first of these stores
pub record Found (c k : ℕ) (w : Writer) (r x p : ℕ) (b : Bool) : Type 0 where
  pub collection : no_collection c w.table.now ≡ false
  pub is-settled : settled w.table.now ≡ true
  pub has-key : has_key k (map_of c w.table.now) ≡ true
  pub room : Room (delete_settled c w.table.now k) (of w)
  pub root : r ≡ at w.table.now (root_word c)
  pub leaf-at : x ≡ standing_in (view_from w.table.now r) 0 k
  pub parent-at : p ≡ standing_in (view_from w.table.now r) 1 k
  pub frees : (n : ℕ) → r ≡ at w.table.now (root_word n) → b ≡ frees_leaf n w.table.now p x

-- as the code reads them, from a slice that has the table's words
pub found : {c k : ℕ} {w : Writer} {u : Words} {r x p : ℕ} {b : Bool} → u ≡ w.table.now → no_collection c w.table.now ≡ false
    → settled w.table.now ≡ true → has_key k (map_of c w.table.now) ≡ true
    → Room (delete_settled c w.table.now k) (of w) → r ≡ at u (root_word c) → x ≡ standing_in (view_from u r) 0 k → p
    ≡ standing_in (view_from u r) 1 k
    → ((n : ℕ) → r ≡ at u (root_word n) → b ≡ frees_leaf n u p x) → Found c k w r x p b
found t a s h m e q v f =
    record {
      collection = a;
      is-settled = s;
      has-key = h;
      room = m;
      root = rw t at e;
      leaf-at = rw t at q;
      parent-at = rw t at v;
      frees = rw t at f;
    }

module _ {c k : ℕ} {w : Writer} {r x p : ℕ} {b : Bool} (f : Found c k w r x p b) where
  abbrev t : Words
  t = w.table.now

  leaf : x ≡ standing c t 0 k
  leaf = root-stands c t r f.root x 0 k f.leaf-at

  parent : p ≡ standing c t 1 k
  parent = root-stands c t r f.root p 1 k f.parent-at

  pub leaf-plain : Plain t x
  leaf-plain = rw leaf (settled-plain c t f.collection f.is-settled _ (standing-reached c t f.collection f.is-settled 0 k (omega arith)))

  pub out-room : Room (shift_out_at t x k) (of w)
  out-room = let u = stores-begin c t k in rw (leaf) (room-first _ u.0 _ (room-as _ _ _ u.1 f.room))

  frees-as : frees_leaf c t (standing c t 1 k) (standing c t 0 k) ≡ b
  frees-as = rw (← leaf, ← parent) (sym (f.frees c f.root))

  -- it stays
  pub stays-stored : b ≡ false → {v : Writer} → Makes (shift_out_at t x k) w v → Makes (delete_settled c t k) w v
  stays-stored z h = rw (stores-plain c t k (frees-as ∙ z)) (rw (leaf) at h)

  -- it is freed, after the shift out
  module _ (z : b ≡ true) {v : Writer} (g : Makes (shift_out_at t x k) w v) where
    abbrev rest : Words → List Store
    rest u = free_stores u p x

    stores : delete_settled c t k ≡ shift_out_at t x k ++ rest (apply (shift_out_at t x k) t)
    stores = rw (leaf, parent) (stores-freeing c t k (frees-as ∙ z))

    table-is : v.table.now ≡ apply (shift_out_at t x k) t
    table-is = part-table (shift_out_at t x k) rest g

    pub parent-plain : Plain v.table.now p
    parent-plain = rw (table-is, leaf, parent) (parts.parent-plain c t f.collection f.is-settled k f.has-key (frees-as ∙ z))

    pub neighbour-plain : has_node v.table.now (child_before (view v.table.now) p x) ≡ true
    neighbour-plain = rw (table-is, leaf, parent) (neighbour-there c t f.collection f.is-settled k f.has-key (frees-as ∙ z))

    pub free-room : Room (free_stores v.table.now p x) (of v)
    free-room = part-room (shift_out_at t x k) rest g (room-as _ _ _ stores f.room)

    pub free-stored : {y : Writer} → Makes (free_stores v.table.now p x) v y → Makes (delete_settled c t k) w y
    free-stored h = stored-as stores (part-stored (shift_out_at t x k) rest g h)
