-- An action, from what its call answered and left: what it met, and the map after it.
use Rattle.std.proofs.Common.{◌≡◌, ℕ, suc, ◌+◌, ◌-◌, ◌%◌, ◌≤◌, Bool, true, false, cond, ◌≢◌, List, [], ◌∷◌, map, length, take, set, sym}
use Rattle.std.proofs.Common.{refl, ap, ◌∙◌, arith}
use lib.ListN.{length-map}
use Rattle.std.specs.Prelude.{Ok, Err}
use Rattle.model.specs.declared.Counts.{Counts}
use Rattle.model.specs.declared.Refusal.{Refusal}
use Rattle.model.specs.Results.{Written}
use Rattle.model.proofs.Numbers.{done-ok, done-err}
use Rattle.model.specs.Table.{Words}
use Rattle.model.specs.Slots.{Slot}
use Rattle.model.specs.Reached.{filter, map_of, Maps, maps_of}
use Rattle.model.specs.SoundTest.{sound}
use Rattle.model.specs.Orders.{store_count, flush_count, carry, carried_out}
use Rattle.model.specs.Writes.{numbers, Call, insertion, deletion, repair, stores_of, repaired}
use Rattle.model.specs.Refusals.{has_key, refusal, orders_of, written, table_after, list_after}
use Rattle.model.specs.Ledger.{on_map}
use Rattle.model.specs.Scripts.{inserts, action_key, call_of, cut_tables, bad_tables, table_count, bad_count}
use Rattle.list_laws.proofs.Tools.{Each, Each-map}
use Rattle.list_laws.proofs.Filters.{filter-short}
use Rattle.list_laws.proofs.Counts.{numbers-length, numbers-each}
use Rattle.cut_laws.proofs.Applying.{counts-length}
use Rattle.cut_laws.proofs.Lent.{carry-list}
use Rattle.two_laws.proofs.AcceptedTwo.{accepted-iff}
use Rattle.two_laws.proofs.MapsTwo.{accepted-steps, call-steps}
use Rattle.two_laws.proofs.DocksTwo.{no-barriers}
use Rattle.two_laws.proofs.SearchTwo.{sound-head}
use Rattle.short_laws.proofs.Runs.{after-map}
use Rattle.short_scripts.specs.Held.{Held, pairs, changed}
use Rattle.short_scripts.specs.Met.{is_bad, bad_among, Acts}
use Rattle.short_scripts.proofs.Keys.{enter-held, leave-held}

-- ---- lists

map-each : {A B : Type 0} (f g : A → B) (xs : List A) → Each (λ (x : A). f x ≡ g x) xs → map f xs ≡ map g xs
map-each f g [] e = refl
map-each f g (x ∷ xs) e = rw (e.0, map-each f g xs e.1)

-- ---- what a call answered

module _ (x : Call) (words : ℕ) (t : Words) where
  pub done-accepts : (w : Written) (k : Counts) → w ≡ written x words 0 t → w ≡ Ok k → (refusal x words 0 t ≡ 0)
      × (k.stores + k.flushes ≡ length (orders_of x 0 t))
  unfolding written
  done-accepts w k e d =
      let both = done-ok (refusal x words 0 t) _ (sym e ∙ d) in
      let p : store_count (orders_of x 0 t) ≡ k.stores = ap (λ (c : Counts). c.stores) both.1 in
      let q : flush_count (orders_of x 0 t) ≡ k.flushes = ap (λ (c : Counts). c.flushes) both.1 in
      (both.0, omega (arith, p, q, counts-length (orders_of x 0 t), no-barriers x t))

  pub refused-not : (w : Written) (k : Refusal) → w ≡ written x words 0 t → w ≡ Err k → (n : ℕ) × (refusal x words 0 t ≡ suc n)
  unfolding written
  refused-not w k e d =
      let n = refusal x words 0 t in
      let some : n ≢ 0 = (done-err {U = Counts} n _ (sym e ∙ d)).0 in
      (n - 1, omega (arith, some))

-- ---- how many tables

module _ (x : Call) (t : Words) where
  pub tables-counted : table_count x t ≡ suc (length (orders_of x 0 t))
  unfolding cut_tables
  tables-counted = length-map (numbers 0 (suc (length (orders_of x 0 t)))) _ ∙ numbers-length 0 (suc (length (orders_of x 0 t)))

pub among-few : (old new : List Slot) (t l : Words) (n : ℕ) → bad_among old new t l 0 n ≤ n
unfolding bad_among
among-few old new t l n =
    omega (
      arith,
      filter-short (is_bad old new) (map (λ (c : ℕ). carried_out c l t) (numbers 0 n)),
      length-map (numbers 0 n) (λ (c : ℕ). carried_out c l t),
      numbers-length 0 n,
    )

-- carry-out of the call's own list
module _ (x : Call) (lent t : Words) (s : sound t ≡ true) (ok : refusal x (length lent) 0 t ≡ 0) where
  carried-same : (c : ℕ) → c ≤ length (orders_of x 0 t) → carried_out c (list_after x lent 0 t) t ≡ carry (take c (orders_of x 0 t)) t
  unfolding list_after
  carried-same c h = rw ok
      (carry-list 0 (stores_of x t) lent t (sound-head t s) (accepted-steps x (length lent) 0 t s ok).stores-inside c h)

  -- its bad tables, as the code counts them
  pub bad-counted : length lent ≡ 2560
      → bad_among (map_of 1 t) (map_of 1 (table_after x 2560 0 t)) t (list_after x lent 0 t) 0
      (suc (length (orders_of x 0 t))) ≡ bad_count x t
  unfolding bad_among bad_tables cut_tables
  bad-counted long =
      let cs = numbers 0 (suc (length (orders_of x 0 t))) in
      let same : map (λ (c : ℕ). carried_out c (list_after x lent 0 t) t) cs ≡ map (λ (c : ℕ). carry (take c (orders_of x 0 t)) t) cs
      = map-each _ _ cs (Each-map _ _ cs (λ c h. carried-same c (omega (arith, h.1))) (numbers-each 0 (suc (length (orders_of x 0 t))))) in
      ap (λ (us : List Words). length (filter (is_bad (map_of 1 t) (map_of 1 (table_after x 2560 0 t))) us)) same

-- ---- the map after an accepted action

repaired-map : (t : Words) → sound t ≡ true → map_of 1 (repaired t) ≡ map_of 1 t
unfolding repaired stores_of maps_of
repaired-map t s = ap (λ (m : Maps). m.one) (call-steps repair t s refl tt).all-map

abbrev call_by : Bool → (a : ℕ) → Call
call_by b a = cond b (insertion 1 (action_key a) (10 + action_key a) 0) (deletion 1 (action_key a))

map-by : (b : Bool) (a : ℕ) (t : Words) (h : Held) → length h ≡ 3 → sound t ≡ true → map_of 1 t ≡ pairs h
    → refusal (call_by b a) 2560 0 t ≡ 0
    → map_of 1 (table_after (call_by b a) 2560 0 t) ≡ pairs (set h (a % 3) b)
unfolding on_map maps_of
map-by true a t h l s m ok =
    let free : has_key (action_key a) (map_of 1 (repaired t)) ≡ false = ((accepted-iff (call_by true a) 2560 0 t).0 ok).allows.no-key in
    after-map (call_by true a) 2560 t s ok ∙ rw m (enter-held h a l (rw (repaired-map t s, m) at free))
map-by false a t h l s m ok = after-map (call_by false a) 2560 t s ok ∙ rw m (leave-held h a)

pub map-after : (a : ℕ) (t : Words) (h : Held) → length h ≡ 3 → sound t ≡ true → map_of 1 t ≡ pairs h → refusal (call_of a) 2560 0 t ≡ 0
    → map_of 1 (table_after (call_of a) 2560 0 t) ≡ pairs (changed h a)
unfolding call_of changed
map-after a t h l s m ok = map-by (inserts a) a t h l s m ok

-- ---- the action

module _ (a : ℕ) (lent t : Words) (h : Held) (long : length lent ≡ 2560) (s : sound t ≡ true) (m : map_of 1 t ≡ pairs h) where
  -- an accepted call has few orders
  pub few-orders : (w : Written) (k : Counts) → w ≡ written (call_of a) 2560 0 t → w ≡ Ok k → k.stores + k.flushes ≤ 1121
  few-orders w k e d =
      let p = done-accepts (call_of a) 2560 t w k e d in
      omega (arith, p.1, (accepted-steps (call_of a) 2560 0 t s p.0).few)

  pub acts-done : (w : Written) (k : Counts) → w ≡ written (call_of a) 2560 0 t → w ≡ Ok k
      → length h ≡ 3 → (next : Held) → next ≡ changed h a → (list : Words) → list ≡ list_after (call_of a) lent 0 t
      → (bad : ℕ) → bad ≡ bad_among (pairs h) (pairs next) t list 0 (k.stores + k.flushes + 1)
      → Acts a t (record { tables = k.stores + k.flushes + 1; bad = bad }) next
  acts-done w k e d three next n list l bad q =
      let p = done-accepts (call_of a) 2560 t w k e d in
      let few = few-orders w k e d in
      let after = map-after a t h three s m p.0 ∙ ap pairs (sym n) in
      let count : k.stores + k.flushes + 1 ≡ suc (length (orders_of (call_of a) 0 t)) = omega (arith, p.1) in
      record {
        tables-are = rw p.0 (count ∙ sym (tables-counted (call_of a) t));
        bad-are = rw p.0 (q ∙ rw (l, count, ← after, ← m) (bad-counted (call_of a) lent t s (rw long p.0) long));
        tables-few = omega arith;
        bad-few = omega (arith, q, among-few (pairs h) (pairs next) t list (k.stores + k.flushes + 1));
        map-is = after;
      }

  pub acts-refused : (w : Written) (k : Refusal) → w ≡ written (call_of a) 2560 0 t → w ≡ Err k
      → Acts a t (record { tables = 0; bad = 0 }) h
  unfolding table_after
  acts-refused w k e d =
      let (n, r) = refused-not (call_of a) 2560 t w k e d in
      record { tables-are = rw r; bad-are = rw r; tables-few = omega arith; bad-few = omega arith; map-is = rw r m }
