-- A writing call from its refusal or its first store to its end: a refusal changes no word, and the stores, made and finished, are what the
-- call promises.
use Rattle.std.proofs.Common.{◌≡◌, ℕ, zero, suc, ◌*◌, ◌≤◌, true, false, ◌≢◌, List, [], ◌++◌, length, sym, refl, ap, ◌∙◌, subst, append-nil}
use Rattle.std.specs.Prelude.{Ok, Err}
use Rattle.model.specs.declared.Counts.{Counts}
use Rattle.model.specs.declared.Refusal.{Refusal}
use Rattle.model.specs.Results as answer
use Rattle.model.specs.Results.{refused_with, done_with}
use Rattle.model.specs.Numbers.{refusal_number}
use Rattle.model.specs.Table.{Words}
use Rattle.model.specs.SoundTest.{sound, settled}
use Rattle.model.specs.Orders.{Store, orders, barred}
use Rattle.model.specs.Writes.{repair_stores, repaired, Call, insertion, deletion, class_change, repair, stores_of}
use Rattle.model.specs.Refusals.{seventeen_in, refusal, written, table_after, list_after}
use Rattle.model.proofs.Numbers.{refused-by}
use Rattle.two_laws.proofs.CallsTwo.{repairs}
use Rattle.two_laws.proofs.AcceptedTwo.{Allows, Accepted, accepted-iff}
use Rattle.two_laws.proofs.MapsTwo.{Steps, accepted-steps}
use Rattle.two_laws.proofs.DocksTwo.{list-fits}
use Rattle.two_laws.proofs.CollectionTwo.{collection-repaired}
use Rattle.orders.specs.declared.Writer.{Writer}
use Rattle.orders.specs.Desk.{Desk, desk, first_pen, start, of, Becomes, Makes, stored_all, finished, Room}
use Rattle.orders.proofs.Rooms.{room-first, room-rest}
use Rattle.orders.proofs.Rest.{room-as, stored-as}
use Rattle.orders.proofs.Meaning.{Written, finished-means, start-room}
use Rattle.write.specs.Judged.{judged}
use Rattle.write.proofs.Judging.{judged-refused}
use Rattle.write.proofs.Parts.{part-table, part-room, part-stored}

-- what a call promises of its answer, the table and the list at its end
abbrev pub Promised : Call → (t lent : Words) → (dock : ℕ) → answer.Written → (t' list' : Words) → Type 0
Promised x t lent dock r t' list' =
    (r ≡ written x (length lent) dock t) × ((t' ≡ table_after x (length lent) dock t) × (list' ≡ list_after x lent dock t))

-- a call answers by its three counts alone
pub done-same : {a a' b b' c c' : ℕ} → a ≡ a' → b ≡ b' → c ≡ c' → done_with a b c ≡ done_with a' b' c'
done-same e f g = rw (e, f, g)

-- ---- a refused call

refused-call : (x : Call) (t lent : Words) (dock n : ℕ) → n ≢ 0 → refusal x (length lent) dock t ≡ n
    → Promised x t lent dock (refused_with n) t lent
unfolding written table_after list_after
refused-call x t lent dock zero z e = absurd (z refl)
refused-call x t lent dock (suc n) z e = rw (e, written, table_after, list_after) (refl, (refl, refl))

-- a call that answers its refusal, and changes nothing, keeps what it promises
pub refused-as : (x : Call) (t lent : Words) (dock : ℕ) (r : Refusal) → refusal x (length lent) dock t ≢ 0
    → ◌≡◌ {A = answer.Written} (refused_with (refusal x (length lent) dock t)) (Err r) → Promised x t lent dock (Err r) t lent
refused-as x t lent dock r z e =
    subst (λ (w : answer.Written). Promised x t lent dock w t lent) e (refused-call x t lent dock (refusal x (length lent) dock t) z refl)

-- by a test of its own
pub refused-for : (x : Call) (t lent : Words) (dock : ℕ) (r : Refusal) → refusal_number r ≢ 0 → refusal x (length lent) dock t
    ≡ refusal_number r → Promised x t lent dock (Err r) t lent
refused-for x t lent dock r z e =
    subst (λ (w : answer.Written). Promised x t lent dock w t lent) (refused-by r) (refused-call x t lent dock (refusal_number r) z e)

-- by one of the tests that all share
pub judge-refuses : (x : Call) (t lent : Words) (dock : ℕ) (r : Refusal) → judged (seventeen_in x t) (length lent) dock t ≡ Err r
    → Promised x t lent dock (Err r) t lent
judge-refuses x t lent dock r e = let u = judged-refused x (length lent) dock t r e in refused-as x t lent dock r u.0 u.1

-- a collection is there after repair
seventeen-later : (x : Call) (t : Words) → sound t ≡ true → seventeen_in x t ≡ false → seventeen_in x (repaired t) ≡ false
seventeen-later (insertion n k r c) t s h = collection-repaired n t s h
seventeen-later (deletion n k) t s h = collection-repaired n t s h
seventeen-later (class_change n k c) t s h = collection-repaired n t s h
seventeen-later repair t s h = refl

-- ---- an accepted call, from its writer's first pen on: the repair, then what the repaired table calls for

pub record Begun (x : Call) (dock : ℕ) (d : Desk) (rest : Words → List Store) : Type 0 where
  pub is-sound : sound d.table ≡ true
  pub accepted : refusal x (length d.list) dock d.table ≡ 0
  pub first : d.pen ≡ first_pen dock
  pub stores : stores_of x d.table ≡ repair_stores d.table ++ rest (repaired d.table)

module _ {x : Call} {dock : ℕ} {d : Desk} {rest : Words → List Store} (b : Begun x dock d rest) where
  abbrev t : Words
  t = d.table

  abbrev lent : Words
  lent = d.list

  steps : Steps x t
  steps = accepted-steps x (length lent) dock t b.is-sound b.accepted

  passes : Accepted x (length lent) dock t
  passes = (accepted-iff x (length lent) dock t).0 b.accepted

  -- on the repaired table the call's arguments and map are as they must be
  pub begun-allows : Allows x (repaired t)
  begun-allows = passes.allows

  fits : 2 * length (barred dock (orders (stores_of x t))) ≤ length lent
  fits = list-fits x (length lent) dock t b.accepted

  started : d ≡ start t lent dock
  started = ap (desk t lent) b.first

  call-room : Room (stores_of x t) d
  call-room = rw started (start-room (stores_of x t) t lent dock fits steps.stores-inside)

  all-room : Room (repair_stores t ++ rest (repaired t)) d
  all-room = room-as _ _ d b.stores call-room

  -- the order list has room for the orders of the repair
  pub mend-room : Room (repair_stores t) d
  mend-room = room-first _ _ d all-room

-- the repair is made
module _ {x : Call} {dock : ℕ} {w v : Writer} {rest : Words → List Store} (b : Begun x dock (of w) rest)
    (g : Makes (repair_stores w.table.now) w v) where
  -- after the stores of the repair the table is the repaired one
  pub mended-table : v.table.now ≡ repaired w.table.now
  unfolding repaired
  mended-table = part-table (repair_stores w.table.now) rest g

  -- after the stores of the repair the table is settled
  pub mended-settled : settled v.table.now ≡ true
  mended-settled = rw mended-table (repairs w.table.now b.is-sound).settles

  -- after the stores of the repair the call's collection is there
  pub mended-collection : seventeen_in x v.table.now ≡ false
  mended-collection = rw mended-table (seventeen-later x w.table.now b.is-sound (passes b).collection)

  -- after the stores of the repair the order list has room for the other stores of the call
  pub rest-room : Room (rest v.table.now) (of v)
  unfolding repaired
  rest-room = part-room (repair_stores w.table.now) rest g (all-room b)

  -- and the rest
  module _ {z : Writer} (h : Makes (rest v.table.now) v z) where
    all-stored : Makes (stores_of x w.table.now) w z
    unfolding repaired
    all-stored = stored-as b.stores (part-stored (repair_stores w.table.now) rest g h)

    -- after all stores of the call the order list has room for what finishes it
    pub finish-room : Room [] (of z)
    finish-room = rw all-stored.is (room-rest (stores_of x w.table.now) [] (of w) (rw append-nil (call-room b)))

    -- and it is finished
    pub done-call : {y : Writer} {r : Counts} → Becomes z (finished (of z)) y → r ≡ (finished (of z)).pen.counts
        → Promised x w.table.now w.list.now dock (Ok r) y.table.now y.list.now
        × ((y.table.ghost_name ≡ w.table.ghost_name) × (y.list.ghost_name ≡ w.list.ghost_name))
    unfolding written table_after list_after
    done-call {y} {r} f e =
        let t = w.table.now in
        let q = ap finished (all-stored.is ∙ ap (stored_all (stores_of x t)) (started b)) in
        let u : Written (stores_of x t) t w.list.now dock (finished (of z)) =
        rw q (finished-means (stores_of x t) t w.list.now dock (fits b)) in (
          rw (b.accepted, written, table_after, list_after, e) (
            done-same u.stores u.flushes u.barriers,
            (ap (λ (d : Desk). d.table) f.is ∙ u.table, ap (λ (d : Desk). d.list) f.is ∙ u.list),
          ),
          (f.same_table ∙ all-stored.same_table, f.same_list ∙ all-stored.same_list),
        )

-- ---- the stores of a repair: nothing is left after it

-- a repair has no stores but those of the repair
pub repair-stores : (t : Words) → stores_of repair t ≡ repair_stores t ++ []
unfolding stores_of
repair-stores t = sym (append-nil (repair_stores t))
