-- A batch with a summary under way: one pair more, all pairs.
use Rattle.std.proofs.Common.{◌≡◌, ℕ, zero, suc, ◌+◌, ◌-◌, ◌*◌, ◌/◌, ◌<◌, ◌≤◌, List, ◌∷◌, ◌++◌, length, get_or, take, drop, sym, refl, ap}
use Rattle.std.proofs.Common.{◌∙◌, arith, length-append, length-drop, length-take-le}
use lib.Seq.{take-append-add, drop-append-add}
use borrow.Rule.Slice.PartMut.{mid_of, put_mid, put_same}
use Rattle.std.specs.Prelude.{Some, None, Ok, Err}
use Rattle.model.specs.declared.Refusal.{Refusal}
use Rattle.model.specs.declared.Counts.{Counts}
use Rattle.model.specs.Results.{Written, done_with, refused_with, no_counts, counts_sum, orders_counted}
use Rattle.model.specs.Table.{Words}
use Rattle.model.specs.Slots.{Slot, slot, slots_of, recording_of, class_of}
use Rattle.model.specs.Orders.{encode, list_with, store_count, flush_count, barrier_count}
use Rattle.model.specs.Writes.{Call, insertion}
use Rattle.model.specs.Batch.{insertion_of, Batched}
use Rattle.model.specs.Summary.{quick_number, quick_orders, quick_written, quick_table, quick_list, quick_summary}
use Rattle.model.specs.QuickBatch.{quick_batched, quick_batch}
use Rattle.cut_laws.proofs.Applying.{counts-length}
use Rattle.cut_laws.proofs.Lent.{length-encode}
use Rattle.batch_laws.proofs.Folds.{pair-at, pairs-past, same-counts, same-batched, sum-none, behind-behind, behind-none, rest-lent}
use Rattle.batch_laws.proofs.Folds.{rest-back}
use Rattle.summary_laws.proofs.Batches.{quick-stops, quick-goes}
use Rattle.quick.proofs.Ending.{quick-room}
use Rattle.quick_insert.proofs.Calling.{accepted-long}
use Rattle.quick_insert_many.specs.declared.Progress.{Progress}
use Rattle.quick_insert_many.specs.Going.{answer_of, filled, quick_behind, ahead, goes_on}

-- ---- what a single call's answer says

module _ (n k r c : ℕ) (lent : Words) (dock : ℕ) (ws t : Words) where
  abbrev x : Call
  x = insertion n k r c

  pub record IsRefused : Type 0 where
    pub same-table : quick_table (insertion n k r c) (length lent) dock ws t ≡ t
    pub same-list : quick_list (insertion n k r c) lent dock ws t ≡ lent
    pub same-summary : quick_summary (insertion n k r c) (length lent) dock ws t ≡ ws

  pub is-refused : (e : Refusal) → quick_written (insertion n k r c) (length lent) dock ws t ≡ Err e → IsRefused
  unfolding quick_written quick_table quick_list quick_summary
  is-refused e w = go (quick_number x (length lent) dock ws t) refl
    where
      go : (m : ℕ) → quick_number x (length lent) dock ws t ≡ m → IsRefused
      go zero q =
          let os = quick_orders x dock ws t in
          let z : done_with (store_count os) (flush_count os) (barrier_count os) ≡ Err e = sym (rw q) ∙ w in
          let i : ◌≡◌ {A = ℕ} 0 1 = cc in absurd (omega arith)
      go (suc m) q = record { same-table = rw q; same-list = rw q; same-summary = rw q }

  pub record IsDone (o : Counts) : Type 0 where
    pub fits : 2 * orders_counted o ≤ length lent
    pub long : length (quick_list (insertion n k r c) lent dock ws t) ≡ length lent

  pub is-done : (o : Counts) → quick_written (insertion n k r c) (length lent) dock ws t ≡ Ok o → IsDone o
  unfolding quick_written quick_list list_with
  is-done o w = go (quick_number x (length lent) dock ws t) refl
    where
      go : (m : ℕ) → quick_number x (length lent) dock ws t ≡ m → IsDone o
      go zero q =
          let os = quick_orders x dock ws t in
          let z : done_with (store_count os) (flush_count os) (barrier_count os) ≡ Ok o = sym (rw q) ∙ w in
          let same : ◌≡◌ {A = Counts} (record { stores = store_count os; flushes = flush_count os; barriers = barrier_count os }) o = cc in
          let counted : store_count os + flush_count os + barrier_count os ≡ orders_counted o = ap orders_counted same in
          let room = quick-room x lent dock ws t q (accepted-long n k r c dock t lent ws q) in
          let whole : length (encode os ++ drop (2 * length os) lent) ≡ length lent =
          omega (arith, room, length-append (encode os) (drop (2 * length os) lent), length-encode os, length-drop (2 * length os) lent)
          in
          record { fits = omega (arith, counted, counts-length os, room); long = rw q whole }
      go (suc m) q = let z : ◌≡◌ {A = Written} (refused_with (suc m)) (Ok o) = sym (rw q) ∙ w in let i : ◌≡◌ {A = ℕ} 0 1 =
          cc in absurd (omega arith)

-- ---- one pair more

-- the next pair, and what is left of the list
abbrev pub pair : Words → Progress → Slot
pair pairs p = slot (get_or pairs (2 * p.taken) 0) (get_or pairs (2 * p.taken + 1) 0)

abbrev pub free : Progress → Words → Words
free p list = mid_of (filled p) (length list - filled p) list

-- what the single call for a pair answers and leaves
pub record Answered (x : Call) (dock : ℕ) (lent ws t : Words) (e : Written) (part ws' t' : Words) : Type 0 where
  pub value : e ≡ quick_written x (length lent) dock ws t
  pub table : t' ≡ quick_table x (length lent) dock ws t
  pub list : part ≡ quick_list x lent dock ws t
  pub summary : ws' ≡ quick_summary x (length lent) dock ws t

-- with recording and class as they were taken from the pointer
pub answered-by : (n : ℕ) (s : Slot) {r c dock : ℕ} {lent ws t : Words} → r ≡ recording_of s.pointer → c ≡ class_of s.pointer
    → {e : Written} {part ws' t' : Words}
    → Answered (insertion n s.key r c) dock lent ws t e part ws' t' → Answered (insertion_of n s) dock lent ws t e part ws' t'
answered-by n s f g a = rw (← f, ← g) a

module _ (n dock : ℕ) (pairs : Words) (p : Progress) (list ws t : Words) (inside : filled p ≤ length list)
    (more : 2 * p.taken + 1 < length pairs) where
  abbrev ss : List Slot
  ss = slots_of pairs

  abbrev s : Slot
  s = pair pairs p

  abbrev lent : Words
  lent = free p list

  here : ahead n dock (slots_of pairs) p list ws t
      ≡ quick_behind p.taken p.counts (take (filled p) list) (quick_batch n dock (s ∷ drop (suc p.taken) ss) lent ws t)
  unfolding ahead
  here =
      ap (λ (u : List Slot). quick_behind p.taken p.counts (take (filled p) list) (quick_batch n dock u (drop (filled p) list) ws t))
      (pair-at pairs p.taken more)
      ∙ ap (λ (l : Words). quick_behind p.taken p.counts (take (filled p) list) (quick_batch n dock (s ∷ drop (suc p.taken) ss) l ws t))
      (sym (rest-lent (filled p) list))

  module _ {e : Written} {part ws' t' : Words} (a : Answered (insertion_of n (pair pairs p)) dock (free p list) ws t e part ws' t') where
    abbrev list' : Words
    list' = put_mid (filled p) (length list - filled p) list part

    pub next-refused : (r : Refusal) → e ≡ Err r
        → goes_on n dock (slots_of pairs) p (Err r) (put_mid (filled p) (length list - filled p) list part) ws' t'
        ≡ ahead n dock (slots_of pairs) p list ws t
    next-refused r q =
        let w : quick_written (insertion_of n s) (length lent) dock ws t ≡ Err r = sym a.value ∙ q in
        let u = is-refused n s.key (recording_of s.pointer) (class_of s.pointer) lent dock ws t r w in
        let b : list' ≡ list =
        ap (put_mid (filled p) (length list - filled p) list) (a.list ∙ u.same-list)
        ∙ put_same (filled p) (length list - filled p) list in
        let f : take (filled p) list ++ lent ≡ list =
        sym (rest-back (filled p) list lent) ∙ put_same (filled p) (length list - filled p) list in
        let z : ◌≡◌ {A = Batched} (record { answer = answer_of p (Some r); table = t'; list = list' }) _ =
        same-batched refl (omega arith) (sym (sum-none p.counts)) (a.table ∙ u.same-table) (b ∙ sym f) in
        ap (λ (v : Words). quick_batched (record { answer = answer_of p (Some r); table = t'; list = list' }) v)
        (a.summary ∙ u.same-summary) ∙ ap (λ (b : Batched). quick_batched b ws) z
        ∙ sym (here ∙ ap (quick_behind p.taken p.counts (take (filled p) list))
        (quick-stops n dock s (drop (suc p.taken) ss) lent ws t r w))

    module _ (o : Counts) (q : e ≡ Ok o) where
      is-written : quick_written (insertion_of n s) (length lent) dock ws t ≡ Ok o
      is-written = sym a.value ∙ q

      done : IsDone n s.key (recording_of s.pointer) (class_of s.pointer) lent dock ws t o
      done = is-done n s.key (recording_of s.pointer) (class_of s.pointer) lent dock ws t o is-written

      pub orders-fit : filled p + 2 * orders_counted o ≤ length list
      orders-fit = omega (arith, done.fits, inside, ap length (rest-lent (filled p) list), length-drop (filled p) list)

      -- the list's length stays
      back : list' ≡ take (filled p) list ++ quick_list (insertion_of n s) lent dock ws t
      back = rest-back (filled p) list part ∙ ap (λ (l : Words). take (filled p) list ++ l) a.list

      pub list-stays : length (put_mid (filled p) (length list - filled p) list part) ≡ length list
      list-stays =
          omega (
            arith,
            ap length back,
            length-append (take (filled p) list) (quick_list (insertion_of n s) lent dock ws t),
            length-take-le (filled p) list inside,
            done.long,
            ap length (rest-lent (filled p) list),
            length-drop (filled p) list,
            inside,
          )

      pub next-done : ahead n dock (slots_of pairs) (record { taken = p.taken + 1; counts = counts_sum p.counts o })
          (put_mid (filled p) (length list - filled p) list part) ws' t' ≡ ahead n dock (slots_of pairs) p list ws t
      unfolding ahead
      next-done =
          let w = 2 * orders_counted o in
          let x = insertion_of n s in
          let later = quick_list x lent dock ws t in
          let sum : filled (record { taken = p.taken + 1; counts = counts_sum p.counts o }) ≡ filled p + w = omega arith in
          let front : length (take (filled p) list) ≡ filled p = length-take-le (filled p) list inside in
          let first : take (filled p + w) list' ≡ take (filled p) list ++ take w later =
          ap (take (filled p + w)) back ∙ ap (λ (j : ℕ). take (j + w) (take (filled p) list ++ later)) (sym front)
          ∙ take-append-add (take (filled p) list) later w in
          let rest : drop (filled p + w) list' ≡ drop w later =
          ap (drop (filled p + w)) back ∙ ap (λ (j : ℕ). drop (j + w) (take (filled p) list ++ later)) (sym front)
          ∙ drop-append-add (take (filled p) list) later w in
          let one : p.taken + 1 ≡ suc p.taken = omega arith in
          let r = quick_batch n dock (drop (suc p.taken) ss) (drop w later) (quick_summary x (length lent) dock ws t)
          (quick_table x (length lent) dock ws t) in
          rw (sum, first, rest, a.table, a.summary, one)
          (ap (λ (b : Batched). quick_batched b r.summary)
          (rw one at (sym (behind-behind p.taken 1 p.counts o (take (filled p) list) (take w later) r.batched))))
          ∙ sym (here ∙ ap (quick_behind p.taken p.counts (take (filled p) list))
          (quick-goes n dock s (drop (suc p.taken) ss) lent ws t o is-written))

-- ---- from the first pair to the last

pub ahead-start : (n dock : ℕ) (ss : List Slot) (w : Counts) (list ws t : Words) → (w.stores ≡ 0) × ((w.flushes ≡ 0) × (w.barriers ≡ 0))
    → ahead n dock ss (record { taken = 0; counts = w }) list ws t ≡ quick_batch n dock ss list ws t
unfolding ahead
ahead-start n dock ss w list ws t e =
    let z : w ≡ no_counts = same-counts e.0 e.1.0 e.1.1 in
    let r = quick_batch n dock ss list ws t in
    ap (λ (o : Counts). quick_behind 0 o (take (2 * orders_counted o) list) (quick_batch n dock ss (drop (2 * orders_counted o) list) ws t))
    z ∙ ap (λ (b : Batched). quick_batched b r.summary) (behind-none r.batched)

-- no pair is left
pub ahead-all : (n dock : ℕ) (pairs : Words) (p : Progress) (list ws t : Words) → length pairs / 2 ≤ p.taken
    → quick_batched (record { answer = answer_of p None; table = t; list = list }) ws ≡ ahead n dock (slots_of pairs) p list ws t
unfolding ahead quick_batch
ahead-all n dock pairs p list ws t h =
    let rest : take (filled p) list ++ drop (filled p) list ≡ list =
    sym (rest-back (filled p) list (drop (filled p) list))
    ∙ ap (put_mid (filled p) (length list - filled p) list) (sym (rest-lent (filled p) list))
    ∙ put_same (filled p) (length list - filled p) list in
    sym (
    ap (λ (u : List Slot). quick_behind p.taken p.counts (take (filled p) list) (quick_batch n dock u (drop (filled p) list) ws t))
    (pairs-past pairs p.taken h)
    ∙ ap (λ (b : Batched). quick_batched b ws) (same-batched refl (omega arith) (sum-none p.counts) refl rest)
    )
