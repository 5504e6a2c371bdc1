-- Document 01, "Sound tables": the sentences of Sound.antt and the test of SoundTest.antt say the same of every tree.
use Rattle.std.proofs.Common.{◌≡◌, ℕ, true, ◌↔◌, refl, ap, ◌∙◌}
use mathlib.Core.List.{Memᴰ}
use mathlib.Core.Option.{some}
use Rattle.model.specs.Table.{in_range, nodes, root}
use Rattle.model.specs.Slots.{Slot, View}
use Rattle.model.specs.Reached.{kept, reached, mapping}
use Rattle.model.specs.SoundTest.{elem, orderly, Leftover, nothing, leftover, has_room, is_nothing, is_allowed, settled_view, sound_view}
use Rattle.model.specs.Sound.{Reached, SettledBut, IsLeft}
use Rattle.list_laws.proofs.Tools.{and-iff}
use Rattle.list_laws.proofs.Members.{elem-iff}
use Rattle.tree_laws.proofs.Levels.{orderly-iff}
use Rattle.tree_laws.proofs.Leftovers.{leftover-iff, is-nothing, is-allowed}
use Rattle.sound_laws.proofs.Listed.{orderly-good, listed-reached, reached-listed, mapped, in-map-of}
use Rattle.sound_laws.proofs.FromSentences.{orderly-ok, leftover-is, has-room}
use Rattle.sound_laws.proofs.FromTest.{is-left, settled-but}

-- ---- views

-- what the test says of a leftover x
pub record Passes (v : View) (x : Leftover) : Type 0 where
  pub orderly : orderly v ≡ true
  pub leftover : leftover v ≡ some x
  pub room : has_room v x ≡ true

-- with the root in 1 to N, the test and the sentences say the same of each leftover
module _ (v : View) (range : in_range v.nodes v.root ≡ true) where
  -- a tree passes the test with leftover x exactly if x is left and the sentences hold but for what x excuses
  pub passes-same : (x : Leftover) → Passes v x ↔ (IsLeft v x × SettledBut v x)
  passes-same x = (
    λ p.
        let o = (orderly-iff v).0 p.orderly in
        let l = (leftover-iff v o.once x).0 p.leftover in
        (is-left v o x l p.room, settled-but v o x l),
    λ u. record { orderly = orderly-ok v x u.1 u.0 range; leftover = leftover-is v x u.1 u.0 range; room = has-room v x u.1 u.0 range },
  )

  -- Settled, on a view.
  pub settled-view : (settled_view v ≡ true) ↔ SettledBut v nothing
  unfolding settled_view
  settled-view = (
    λ h. let u = (and-iff _ _).0 h in
        ((passes-same nothing).0 (record { orderly = u.0; leftover = (is-nothing (leftover v)).0 u.1; room = refl })).1,
    λ s. let p = (passes-same nothing).1 (tt, s) in (and-iff (orderly v) (is_nothing (leftover v))).1 (p.orderly, ap is_nothing p.leftover),
  )

  -- Sound, on a view.
  pub sound-view : (sound_view v ≡ true) ↔ ((x : Leftover) × IsLeft v x × SettledBut v x)
  unfolding sound_view
  sound-view = (
    λ h. let u = (and-iff _ _).0 h in let a = (is-allowed v (leftover v)).0 u.1 in let p =
        (passes-same a.0).0 (record { orderly = u.0; leftover = a.1; room = a.2 }) in (a.0, p.0, p.1),
    λ s. let p = (passes-same s.0).1 (s.1, s.2) in (and-iff (orderly v) (is_allowed v (leftover v))).1
        (p.orderly, ap (is_allowed v) p.leftover ∙ p.room),
  )

-- ---- reached nodes and the map, on a view that is orderly, as every sound one is

-- a tree that passes the test of soundness passes that of order
pub sound-orderly : (v : View) → sound_view v ≡ true → orderly v ≡ true
unfolding sound_view
sound-orderly v h = ((and-iff (orderly v) (is_allowed v (leftover v))).0 h).0

-- The nodes of document 01's sentence are those that the test lists.
pub reached-same : (v : View) → orderly v ≡ true → (n : ℕ) → Reached v n ↔ (elem n (reached v) ≡ true)
reached-same v h n = let w =
    orderly-good v ((orderly-iff v).0 h) in
    (λ r. (elem-iff n (reached v)).1 (reached-listed v w r), λ e. listed-reached v w ((elem-iff n (reached v)).0 e))

-- The map is every shown slot of a reached leaf whose key is below the leaf's sibling's fence.
pub map-same : (v : View) → orderly v ≡ true → (s : Slot)
    → Memᴰ s (mapping v) ↔ ((n : ℕ) × Reached v n × ((v.node n).level ≡ 0) × Memᴰ s (kept v n))
map-same v h s = let o = (orderly-iff v).0 h in (λ m. mapped v (orderly-good v o) m, λ u. in-map-of v o u.1 u.2 u.3)
