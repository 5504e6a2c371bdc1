-- Insertion into a collection of a settled table, in three parts: the new root, the splits, the pair shifted in.
use Rattle.std.proofs.Common.{◌≡◌, ℕ, ◌<◌, ◌≤◌, true, false, List, [], ◌++◌, sym, refl, ap, ◌∙◌, arith}
use Rattle.model.specs.Table.{Words, at, header_ok, root_word, no_collection}
use Rattle.model.specs.Slots.{RECORDINGS, pointer_of, view_from}
use Rattle.model.specs.Reached.{reached_all}
use Rattle.model.specs.SoundTest.{elem, settled}
use Rattle.model.specs.Orders.{Store, apply}
use Rattle.model.specs.Writes.{shift_in_at, standing_in, standing, splits, root_stores, insert_settled, insert_stores, repair_stores}
use Rattle.model.specs.Writes.{repaired, insertion, stores_of}
use Rattle.list_laws.proofs.Recordings.{recording-iff, class-iff}
use Rattle.two_laws.specs.Parts.{Enters, Ready}
use Rattle.two_laws.proofs.CollectionTwo.{settled-head}
use Rattle.two_laws.proofs.JudgedTwo.{reached-later}
use Rattle.two_laws.proofs.PartsTwo.{Plain, settled-plain, standing-reached, root-stays, root-ready, splits-settled, splits-there, in-same}
use Rattle.reach.specs.declared.Run.{Run}
use Rattle.reach.specs.Marks.{Marked}
use Rattle.reach.proofs.Marking.{stays-marked}
use Rattle.orders.specs.declared.Writer.{Writer}
use Rattle.orders.specs.Desk.{of, Makes, Room}
use Rattle.orders.proofs.Rooms.{room-first}
use Rattle.orders.proofs.Rest.{room-as, stored-as}
use Rattle.write.proofs.Parts.{part-table, part-room, part-stored}
use Rattle.write.proofs.Rooted.{root-stands}
use Rattle.write.proofs.Ending.{Begun, begun-allows, mended-table}
use Rattle.insert.specs.Tests.{run_of}
use Rattle.insert.specs.Parts.{Enterable}

-- the pair shifted in at its leaf; before it the splits of m nodes
abbrev last : (o k y : ℕ) → Words → List Store
last o k y t = shift_in_at t (standing o t 0 k) k y

abbrev later : (o k y m : ℕ) → Words → List Store
later o k y m t = splits o m t k ++ last o k y (apply (splits o m t k) t)

module _ {o : ℕ} {w : Writer} {k r c : ℕ} {run : Run} (h : Enterable o w k r c run) where
  abbrev t : Words
  t = w.table.now

  -- the pointer that is shifted in
  abbrev y : ℕ
  y = pointer_of r c

  pub recording-low : r < RECORDINGS
  recording-low = ((recording-iff r).0 h.enters.recording-ok).1

  pub class-low : c ≤ 2
  class-low = (class-iff c).0 h.enters.class-ok

  whole-stores : insert_settled o t k y ≡ root_stores o t k ++ later o k y run.length (apply (root_stores o t k) t)
  unfolding insert_settled
  whole-stores = rw h.run-is

  whole-room : Room (root_stores o t k ++ later o k y run.length (apply (root_stores o t k) t)) (of w)
  whole-room = room-as _ _ (of w) whole-stores h.room

  pub root-room : Room (root_stores o t k) (of w)
  root-room = room-first _ _ (of w) whole-room

  -- the new root is made
  module _ {v : Writer} (g : Makes (root_stores o t k) w v) where
    pub run-ready : Ready run.length o v.table.now k
    run-ready =
        rw (part-table (root_stores o t k) (later o k y run.length) g, h.run-is)
        (root-ready o t h.collection h.is-settled k h.enters.not-high h.enters.enough)

    -- what is marked is still reached
    pub root-marked : (marks : Words) → Marked t marks → Marked v.table.now marks
    root-marked marks m =
        rw (part-table (root_stores o t k) (later o k y run.length) g)
        (stays-marked t _ marks (root-stays o t h.collection h.is-settled k h.enters.not-high h.enters.enough) m)

    later-room : Room (later o k y run.length v.table.now) (of v)
    later-room = part-room (root_stores o t k) (later o k y run.length) g whole-room

    pub splits-room : Room (splits o run.length v.table.now k) (of v)
    splits-room = room-first _ _ (of v) later-room

    -- the run is split
    module _ {u : Writer} (s : Makes (splits o run.length v.table.now k) v u) where
      table-is : u.table.now ≡ apply (splits o run.length v.table.now k) v.table.now
      table-is = part-table (splits o run.length v.table.now k) (last o k y) s

      split-settled : settled u.table.now ≡ true
      split-settled = rw table-is (splits-settled run.length o v.table.now k run-ready)

      pub split-header : header_ok u.table.now ≡ true
      split-header = settled-head u.table.now split-settled

      pub split-collection : no_collection o u.table.now ≡ false
      split-collection = rw table-is (splits-there run.length o v.table.now k run-ready)

      -- the leaf, by the root that was read
      module _ {root : ℕ} (e : root ≡ at u.table.now (root_word o)) {n : ℕ} (f : n ≡ standing_in (view_from u.table.now root) 0 k) where
        leaf : n ≡ standing o u.table.now 0 k
        leaf = root-stands o u.table.now root e n 0 k f

        pub leaf-plain : Plain u.table.now n
        leaf-plain = rw leaf
            (settled-plain o u.table.now split-collection split-settled _
            (standing-reached o u.table.now split-collection split-settled 0 k (omega arith)))

        module _ {x : ℕ} (q : x ≡ pointer_of r c) where
          pub in-room : Room (shift_in_at u.table.now n k x) (of u)
          in-room = rw (leaf, q) (part-room (splits o run.length v.table.now k) (last o k y) s later-room)

          in-reached : reached_all (apply (shift_in_at u.table.now n k x) u.table.now) ≡ reached_all u.table.now
          in-reached = rw (leaf, table-is) (in-same run.length o v.table.now k run-ready x)

          module _ {z : Writer} (i : Makes (shift_in_at u.table.now n k x) u z) where
            pub all-entered : Makes (insert_settled o t k (pointer_of r c)) w z
            all-entered =
                stored-as whole-stores
                (part-stored (root_stores o t k) (later o k y run.length) g
                (part-stored (splits o run.length v.table.now k) (last o k y) s (rw (leaf, q) at i)))

            pub in-marked : (marks : Words) → Marked u.table.now marks → Marked z.table.now marks
            in-marked marks m =
                rw (part-table (shift_in_at u.table.now n k x) (λ (a : Words). []) i)
                (stays-marked u.table.now _ marks (λ j d. ap (elem j) in-reached ∙ d) m)

-- ---- after the repair

abbrev pub entering : (o k r c : ℕ) → Words → List Store
entering o k r c t = insert_settled o t k (pointer_of r c)

pub insert-stores : (o : ℕ) (t : Words) (k r c : ℕ) → stores_of (insertion o k r c) t ≡ repair_stores t ++ entering o k r c (repaired t)
unfolding stores_of insert_stores
insert-stores o t k r c = refl

module _ {o k r c dock : ℕ} {w v : Writer} (b : Begun (insertion o k r c) dock (of w) (entering o k r c))
    (g : Makes (repair_stores w.table.now) w v) where
  pub enter-enters : Enters o k r c v.table.now
  enter-enters = rw (mended-table b g) (begun-allows b)

  pub enter-run : {run : Run} → run ≡ run_of o (repaired w.table.now) k → run ≡ run_of o v.table.now k
  enter-run e = e ∙ ap (λ (u : Words). run_of o u k) (sym (mended-table b g))

  pub enter-marked : (marks : Words) → Marked w.table.now marks → Marked v.table.now marks
  enter-marked marks m =
      rw (mended-table b g)
      (stays-marked w.table.now (repaired w.table.now) marks (λ j e. ap (elem j) (reached-later w.table.now b.is-sound) ∙ e) m)
