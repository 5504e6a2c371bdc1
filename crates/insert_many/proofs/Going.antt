-- A batch under way: one pair more, all pairs.
use Rattle.std.proofs.Common.{◌≡◌, ℕ, zero, suc, ◌+◌, ◌-◌, ◌*◌, ◌/◌, ◌<◌, ◌≤◌, Bool, true, false, List, [], ◌∷◌, ◌++◌, length, get_or, take}
use Rattle.std.proofs.Common.{drop, sym, refl, ap, ◌∙◌, arith, length-append, length-drop, length-take-le}
use lib.Seq.{take-append-add, drop-append-add}
use borrow.Rule.Slice.PartMut.{mid_of, put_mid, put_same}
use Rattle.std.specs.Prelude.{Some, None, Result, Ok, Err}
use Rattle.model.specs.declared.Refusal.{Refusal}
use Rattle.model.specs.declared.Refusal.TheVariants.{ShortList}
use Rattle.model.specs.declared.Counts.{Counts}
use Rattle.model.specs.declared.Batch.{Batch}
use Rattle.model.specs.Results.{Written, done_with, refused_with, no_counts, counts_sum, orders_counted}
use Rattle.model.specs.Table.{Words, at, root_word, no_collection}
use Rattle.model.specs.Slots.{Slot, slot, slots_of, recording_of, class_of, view_from}
use Rattle.model.specs.Reached.{mapping, map_of}
use Rattle.model.specs.SoundTest.{sound}
use Rattle.model.specs.Orders.{apply, encode, list_with, store_count, flush_count, barrier_count}
use Rattle.model.specs.Writes.{Call, insertion, stores_of}
use Rattle.model.specs.Refusals.{has_recording, words_for, refusal, orders_of, written, table_after, list_after}
use Rattle.model.specs.Batch.{insertion_of, Batched, stopped, behind, batch}
use Rattle.cut_laws.proofs.Applying.{counts-length}
use Rattle.cut_laws.proofs.Lent.{length-encode}
use Rattle.two_laws.proofs.DocksTwo.{list-fits}
use Rattle.two_laws.proofs.MapsTwo.{sound-after}
use Rattle.batch_laws.proofs.After.{five, after-nothing, after-collection, after-recordings}
use Rattle.batch_laws.proofs.Folds.{pair-at, pairs-past, same-counts, same-batched, sum-none, behind-behind, behind-none, batch-stops}
use Rattle.batch_laws.proofs.Folds.{batch-goes, batch-none, rest-lent, rest-back}
use Rattle.write.specs.Judged.{judged}
use Rattle.write.proofs.Ending.{refused-for, judge-refuses}
use Rattle.sound.specs.declared.Sound.{Sound}
use Rattle.sound.specs.declared.Leftover.TheVariants.{Nothing}
use Rattle.clear.specs.New.{recordings_of, New}
use Rattle.insert.specs.declared.Entered.{Entered}
use Rattle.insert.specs.Entered.{as_written, Reaches}
use Rattle.insert_many.specs.declared.Progress.{Progress}
use Rattle.insert_many.specs.Going.{answer_of, filled, ahead, goes_on, Fit, Gains}

-- ---- what a single call's answer says

module _ (x : Call) (lent : Words) (dock : ℕ) (t : Words) where
  pub record IsRefused : Type 0 where
    pub same-table : table_after x (length lent) dock t ≡ t
    pub same-list : list_after x lent dock t ≡ lent

  pub is-refused : (r : Refusal) → written x (length lent) dock t ≡ Err r → IsRefused
  unfolding written table_after list_after
  is-refused r e = go (refusal x (length lent) dock t) refl
    where
      go : (k : ℕ) → refusal x (length lent) dock t ≡ k → IsRefused
      go zero q =
          let os = orders_of x dock t in
          let z : done_with (store_count os) (flush_count os) (barrier_count os) ≡ Err r = sym (rw q) ∙ e in
          let i : ◌≡◌ {A = ℕ} 0 1 = cc in absurd (omega arith)
      go (suc k) q = record { same-table = rw q; same-list = rw q }

  pub record IsDone (w : Counts) : Type 0 where
    pub accepted : refusal x (length lent) dock t ≡ 0
    pub new-table : table_after x (length lent) dock t ≡ apply (stores_of x t) t
    pub fits : 2 * orders_counted w ≤ length lent
    pub long : length (list_after x lent dock t) ≡ length lent

  pub is-done : (w : Counts) → written x (length lent) dock t ≡ Ok w → IsDone w
  unfolding written table_after list_after list_with
  is-done w e = go (refusal x (length lent) dock t) refl
    where
      go : (k : ℕ) → refusal x (length lent) dock t ≡ k → IsDone w
      go zero q =
          let os = orders_of x dock t in
          let z : done_with (store_count os) (flush_count os) (barrier_count os) ≡ Ok w = sym (rw q) ∙ e in
          let same-counts : ◌≡◌ {A = Counts} (record { stores = store_count os; flushes = flush_count os; barriers = barrier_count os }) w =
          cc in
          let i : store_count os ≡ w.stores = ap (λ (u : Counts). u.stores) same-counts in
          let j : flush_count os ≡ w.flushes = ap (λ (u : Counts). u.flushes) same-counts in
          let k : barrier_count os ≡ w.barriers = ap (λ (u : Counts). u.barriers) same-counts in
          let room = list-fits x (length lent) dock t q in
          let same : length (encode os ++ drop (2 * length os) lent) ≡ length lent =
          omega (arith, room, length-append (encode os) (drop (2 * length os) lent), length-encode os, length-drop (2 * length os) lent)
          in
          record { accepted = q; new-table = rw q; fits = omega (arith, i, j, k, counts-length os, room); long = rw q same }
      go (suc k) q = let z : ◌≡◌ {A = Written} (refused_with (suc k)) (Ok w) = sym (rw q) ∙ e in let i : ◌≡◌ {A = ℕ} 0 1 =
          cc in absurd (omega arith)

-- ---- one pair more

-- the call with recording and class taken from the pointer
as-pair : (n k x dock : ℕ) (t lent : Words) (r c : ℕ) → r ≡ recording_of x → c ≡ class_of x
    → (e : Result Entered Refusal) (t' list' : Words)
    → (as_written e ≡ written (insertion n k r c) (length lent) dock t)
    × ((t' ≡ table_after (insertion n k r c) (length lent) dock t)
    × ((list' ≡ list_after (insertion n k r c) lent dock t) × Reaches e t'))
    → (as_written e ≡ written (insertion n k (recording_of x) (class_of x)) (length lent) dock t)
    × ((t' ≡ table_after (insertion n k (recording_of x) (class_of x)) (length lent) dock t)
    × ((list' ≡ list_after (insertion n k (recording_of x) (class_of x)) lent dock t) × Reaches e t'))
as-pair n k x dock t lent r c f g e t' list' h = rw (f, g) at h

module _ (n dock : ℕ) (pairs : Words) (p : Progress) (list t : Words) (fit : Fit n dock p list t)
    (more : 2 * p.taken + 1 < length pairs) where
  abbrev ss : List Slot
  ss = slots_of pairs

  abbrev s : Slot
  s = slot (get_or pairs (2 * p.taken) 0) (get_or pairs (2 * p.taken + 1) 0)

  abbrev lent : Words
  lent = mid_of (filled p) (length list - filled p) list

  here : ahead n dock (slots_of pairs) p list t
      ≡ behind p.taken p.counts (take (filled p) list) (batch n dock (s ∷ drop (suc p.taken) ss) lent t)
  unfolding ahead
  here =
      ap (λ (u : List Slot). behind p.taken p.counts (take (filled p) list) (batch n dock u (drop (filled p) list) t))
      (pair-at pairs p.taken more)
      ∙ ap (λ (l : Words). behind p.taken p.counts (take (filled p) list) (batch n dock (s ∷ drop (suc p.taken) ss) l t))
      (sym (rest-lent (filled p) list))

  module _ (e : Result Entered Refusal) (t' part : Words) {number access : ℕ}
      (er : number ≡ recording_of (get_or pairs (2 * p.taken + 1) 0)) (ec : access ≡ class_of (get_or pairs (2 * p.taken + 1) 0))
      (answered : (as_written e
      ≡ written (insertion n (get_or pairs (2 * p.taken) 0) number access)
      (length (mid_of (filled p) (length list - filled p) list)) dock t)
      × ((t' ≡ table_after (insertion n (get_or pairs (2 * p.taken) 0) number access)
      (length (mid_of (filled p) (length list - filled p) list)) dock t)
      × ((part ≡ list_after (insertion n (get_or pairs (2 * p.taken) 0) number access) (mid_of (filled p) (length list - filled p) list)
      dock t) × Reaches e t'))) where
    abbrev x : Call
    x = insertion_of n s

    here-written : (as_written e ≡ written x (length lent) dock t)
        × ((t' ≡ table_after x (length lent) dock t) × ((part ≡ list_after x lent dock t) × Reaches e t'))
    here-written = as-pair n (get_or pairs (2 * p.taken) 0) (get_or pairs (2 * p.taken + 1) 0) dock t lent _ _ er ec e t' part answered

    g : as_written e ≡ written x (length lent) dock t
    g = here-written.0

    h : t' ≡ table_after x (length lent) dock t
    h = here-written.1.0

    k : part ≡ list_after x lent dock t
    k = here-written.1.1.0

    abbrev list' : Words
    list' = put_mid (filled p) (length list - filled p) list part

    pub record Next (r : Result Progress Refusal) : Type 0 where
      pub same : goes_on n dock (slots_of pairs) p r (put_mid (filled p) (length list - filled p) list part) t'
          ≡ ahead n dock (slots_of pairs) p list t
      pub gains : Gains n dock (recording_of (get_or pairs (2 * p.taken + 1) 0)) p r t
          (put_mid (filled p) (length list - filled p) list part) t'

    pub next-refused : (r : Refusal) → e ≡ Err r → Next (Err r)
    next-refused r q =
        let w : written x (length lent) dock t ≡ Err r = sym g ∙ ap as_written q in
        let u = is-refused x lent dock t r w in
        let b : list' ≡ list =
        ap (put_mid (filled p) (length list - filled p) list) (k ∙ u.same-list) ∙ put_same (filled p) (length list - filled p) list in
        let f : take (filled p) list ++ lent ≡ list =
        sym (rest-back (filled p) list lent) ∙ put_same (filled p) (length list - filled p) list in
        record {
          same =
              same-batched refl (omega arith) (sym (sum-none p.counts)) (h ∙ u.same-table) (b ∙ sym f)
              ∙ sym (here ∙ ap (behind p.taken p.counts (take (filled p) list)) (batch-stops n dock s (drop (suc p.taken) ss) lent t r w));
          gains = tt;
        }

    module _ (y : Entered) (q : e ≡ Ok y) where
      abbrev o : Counts
      o = y.counts

      is-written : written x (length lent) dock t ≡ Ok o
      is-written = sym g ∙ ap as_written q

      done : IsDone x lent dock t o
      done = is-done x lent dock t o is-written

      pub orders-fit : filled p + 2 * orders_counted y.counts ≤ length list
      orders-fit = omega (arith, done.fits, fit.inside, ap length (rest-lent (filled p) list), length-drop (filled p) list)

      pub next-done : Next
          (Ok (record {
            taken = p.taken + 1;
            counts = counts_sum p.counts y.counts;
            checked = record { leftover = Nothing; reached = y.reached };
          }))
      unfolding ahead
      next-done =
          let w = 2 * orders_counted o in
          let later = list_after x lent dock t in
          let new : t' ≡ apply (stores_of x t) t = h ∙ done.new-table in
          let sum : filled (record
          { taken = p.taken + 1; counts = counts_sum p.counts y.counts; checked = record { leftover = Nothing; reached = y.reached } })
          ≡ filled p + w = omega arith in
          let front : length (take (filled p) list) ≡ filled p = length-take-le (filled p) list fit.inside in
          let back : list' ≡ take (filled p) list ++ later =
          rest-back (filled p) list part ∙ ap (λ (l : Words). take (filled p) list ++ l) k in
          let first : take (filled p + w) list' ≡ take (filled p) list ++ take w later =
          ap (take (filled p + w)) back ∙ ap (λ (j : ℕ). take (j + w) (take (filled p) list ++ later)) (sym front)
          ∙ take-append-add (take (filled p) list) later w in
          let rest : drop (filled p + w) list' ≡ drop w later =
          ap (drop (filled p + w)) back ∙ ap (λ (j : ℕ). drop (j + w) (take (filled p) list ++ later)) (sym front)
          ∙ drop-append-add (take (filled p) list) later w in
          let one : p.taken + 1 ≡ suc p.taken = omega arith in
          let long : length list' ≡ length list =
          omega (
            arith,
            ap length back,
            length-append (take (filled p) list) later,
            front,
            done.long,
            ap length (rest-lent (filled p) list),
            length-drop (filled p) list,
            fit.inside,
          ) in
          record {
            same =
                rw (sum, first, rest, h, one)
                (rw one at (sym (behind-behind p.taken 1 p.counts o (take (filled p) list) (take w later)
                (batch n dock (drop (suc p.taken) ss) (drop w later) (table_after x (length lent) dock t)))))
                ∙ sym (here ∙ ap (behind p.taken p.counts (take (filled p) list))
                (batch-goes n dock s (drop (suc p.taken) ss) lent t o is-written));
            gains = (
              record {
                found = record {
                  is-sound = rw new (sound-after _ _ _ t done.accepted);
                  leftover-is = rw new (after-nothing _ _ _ _ _ _ t done.accepted);
                  reached-are = rw q at here-written.1.1.1;
                };
                collection = rw new (after-collection _ _ _ _ _ _ t done.accepted);
                dock-ok = fit.dock-ok;
                inside = omega (arith, orders-fit, long);
              },
              one,
              λ i. rw new (after-recordings _ _ _ _ _ _ t done.accepted i),
            );
          }

-- ---- from the first pair to the last

pub ahead-start : (n dock : ℕ) (ss : List Slot) (w : Counts) (x : Sound) (list t : Words) → (w.stores ≡ 0)
    × ((w.flushes ≡ 0) × (w.barriers ≡ 0))
    → ahead n dock ss (record { taken = 0; counts = w; checked = x }) list t ≡ batch n dock ss list t
unfolding ahead
ahead-start n dock ss w x list t e =
    let z : w ≡ no_counts = same-counts e.0 e.1.0 e.1.1 in
    ap (λ (o : Counts). behind 0 o (take (2 * orders_counted o) list) (batch n dock ss (drop (2 * orders_counted o) list) t)) z
    ∙ behind-none (batch n dock ss list t)

-- no pair is left
pub ahead-all : (n dock : ℕ) (pairs : Words) (p : Progress) (list t : Words) → length pairs / 2 ≤ p.taken → filled p ≤ length list
    → ◌≡◌ {A = Batched} (record { answer = answer_of p None; table = t; list = list }) (ahead n dock (slots_of pairs) p list t)
unfolding ahead
ahead-all n dock pairs p list t h i =
    sym (
    ap (λ (u : List Slot). behind p.taken p.counts (take (filled p) list) (batch n dock u (drop (filled p) list) t))
    (pairs-past pairs p.taken h)
    ∙ ap (behind p.taken p.counts (take (filled p) list)) (batch-none n dock (drop (filled p) list) t)
    ∙ same-batched refl (omega arith) (sum-none p.counts) refl
    (sym (rest-back (filled p) list (drop (filled p) list))
    ∙ ap (put_mid (filled p) (length list - filled p) list) (sym (rest-lent (filled p) list))
    ∙ put_same (filled p) (length list - filled p) list)
    )

-- ---- a pair

-- the recording of a pair looked for, by the root that was read
pub known-pair : (n : ℕ) (t : Words) (root : ℕ) → root ≡ at t (root_word n) → (r x : ℕ) → r ≡ recording_of x → (b : Bool) → b
    ≡ has_recording r (mapping (view_from t root)) → b ≡ has_recording (recording_of x) (map_of n t)
known-pair n t root e r x f b g =
    g ∙ ap (λ (q : ℕ). has_recording q (mapping (view_from t root))) f
    ∙ ap (λ (o : ℕ). has_recording (recording_of x) (mapping (view_from t o))) e

-- the list is too short for one more
pub short : (n k r c dock : ℕ) (t lent : Words) → sound t ≡ true → no_collection n t ≡ false → dock ≤ 1 → (least : ℕ) → least
    ≡ words_for dock → length lent < least
    → (◌≡◌ {A = Written} (Err ShortList) (written (insertion n k r c) (length lent) dock t))
    × ((t ≡ table_after (insertion n k r c) (length lent) dock t) × ((lent ≡ list_after (insertion n k r c) lent dock t) × Unit {0}))
short n k r c dock t lent s h d least e l =
    let p = refused-for (insertion n k r c) t lent dock ShortList (λ z. omega arith)
    (five n k r c (length lent) dock t s h d (omega (arith, e, l))) in
    (p.0, (p.1.0, (p.1.1, tt)))

pub known-as : (n x : ℕ) (t : Words) (r : ℕ) → r ≡ recording_of x → (b : Bool) → b ≡ has_recording (recording_of x) (map_of n t) → b
    ≡ has_recording r (map_of n t)
known-as n x t r f b h = h ∙ ap (λ (q : ℕ). has_recording q (map_of n t)) (sym f)

-- ---- the call

-- what it promises of its answer, the table and the list
abbrev pub Gives : (n dock : ℕ) → (pairs list t : Words) → Batch → (t' list' : Words) → Type 0
Gives n dock pairs list t r t' list' =
    (r ≡ (batch n dock (slots_of pairs) list t).answer)
    × ((t' ≡ (batch n dock (slots_of pairs) list t).table) × (list' ≡ (batch n dock (slots_of pairs) list t).list))

gives-as : (n dock : ℕ) (pairs list t : Words) (b : Batched) → b ≡ batch n dock (slots_of pairs) list t
    → Gives n dock pairs list t b.answer b.table b.list
gives-as n dock pairs list t b e = (ap (λ (z : Batched). z.answer) e, (ap (λ (z : Batched). z.table) e, ap (λ (z : Batched). z.list) e))

pub gives-none : (n dock : ℕ) (pairs list t : Words) → length pairs < 2 → (r : Batch) → r ≡ (stopped None list t).answer
    → Gives n dock pairs list t r t list
gives-none n dock pairs list t h r e =
    let q : slots_of pairs ≡ [] = pairs-past pairs 0 (omega arith) in
    let g = gives-as n dock pairs list t (stopped None list t)
    (sym (ap (λ (u : List Slot). batch n dock u list t) q ∙ batch-none n dock list t)) in
    (e ∙ g.0, g.1)

pub gives-refused : (n dock : ℕ) (pairs list t : Words) → 2 ≤ length pairs → (m : Refusal)
    → judged (no_collection n t) (length list) dock t ≡ Err m
    → (r : Batch) → r ≡ (stopped (Some m) list t).answer → Gives n dock pairs list t r t list
gives-refused n dock pairs list t h m j r e =
    let s = slot (get_or pairs 0 0) (get_or pairs 1 0) in
    let q : slots_of pairs ≡ s ∷ drop 1 (slots_of pairs) = pair-at pairs 0 (omega arith) in
    let w = (judge-refuses (insertion_of n s) t list dock m j).0 in
    let g = gives-as n dock pairs list t (stopped (Some m) list t)
    (sym (ap (λ (u : List Slot). batch n dock u list t) q ∙ batch-stops n dock s (drop 1 (slots_of pairs)) list t m (sym w))) in
    (e ∙ g.0, g.1)

pub gives-all : (n dock : ℕ) (pairs list t : Words) (r : Batch) (list' t' : Words)
    → ◌≡◌ {A = Batched} (record { answer = r; table = t'; list = list' }) (batch n dock (slots_of pairs) list t)
    → Gives n dock pairs list t r t' list'
gives-all n dock pairs list t r list' t' e = gives-as n dock pairs list t (record { answer = r; table = t'; list = list' }) e

-- new recordings, by the root that was read
pub new-here : (n : ℕ) (t : Words) (root : ℕ) → root ≡ at t (root_word n) → (rs : List ℕ)
    → New (mapping (view_from t root)) rs → New (map_of n t) rs
new-here n t root e rs h = rw e at h

-- the first of them is passed
pub new-next : (ps : List Slot) (pairs : Words) (i j r : ℕ) → r ≡ suc i → New ps (recordings_of pairs (suc i) j)
    → New ps (recordings_of pairs r j)
new-next ps pairs i j r e h = rw e h
