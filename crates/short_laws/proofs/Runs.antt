-- Every table that a script meets agrees with the map before or after the action: no computation, but the laws of accepted calls and of
-- search.
use Rattle.std.proofs.Common.{◌≡◌, ℕ, zero, suc, true, not, ◌||◌, List, [], ◌∷◌, length, take, sym, refl, ap, ◌∙◌, inl, inr, arith, eq-eqb}
use mathlib.Core.Option.{Option, none, some}
use Rattle.model.specs.declared.Answer.TheVariants.{Absent}
use Rattle.std.specs.Prelude.{Some, None}
use Rattle.model.specs.Table.{Words, empty, empty_of}
use Rattle.model.specs.Slots.{Slot, recording, class}
use Rattle.model.specs.Search.{first_above, first_with, answer_of, lookup, search, Next}
use Rattle.model.specs.Reached.{map_of, Maps, maps_of}
use Rattle.model.specs.SoundTest.{all, sound}
use Rattle.model.specs.Orders.{carry, apply, store_count}
use Rattle.model.specs.Writes.{numbers, Call, stores_of}
use Rattle.model.specs.Refusals.{unless_refused, refusal, orders_of, table_after}
use Rattle.model.specs.Ledger.{change}
use Rattle.list_laws.proofs.Tools.{or-right}
use Rattle.list_laws.proofs.Lists.{each-map}
use Rattle.list_laws.proofs.Members.{mem-each}
use Rattle.list_laws.proofs.Filters.{filter-none}
use Rattle.cut_laws.proofs.Applying.{carry-stores, stores_in-take}
use Rattle.cut_laws.proofs.FlushRule.{orders-stores}
use Rattle.model.specs.Judge.{OldOrNew}
use Rattle.list_laws.proofs.Lists.{sum-none}
use Rattle.two_laws.proofs.MapsTwo.{Steps, accepted-steps, sound-after}
use Rattle.two_laws.proofs.LedgerTwo.{searched}
use Rattle.two_laws.proofs.SameTwo.{settled-sound}
use Rattle.two_laws.proofs.EmptyTwo.{empty-settled}
use Rattle.model.specs.Scripts.{Script, call_of, script_of, SCRIPTS, cut_tables, same_next, same_answer, agrees, bad_tables, along}
use Rattle.model.specs.Scripts.{over_all, bad_count, bad_met}

-- ---- a sound table agrees with its own map

same-next : (x : Next) → same_next x x ≡ true
same-next (Some j) = eq-eqb j j refl
same-next None = refl

lookup-same : (k : ℕ) (ps : List Slot) → same_answer (lookup k ps) (lookup k ps) ≡ true
unfolding lookup
lookup-same k ps = go (first_with k ps)
  where
    go : (o : Option Slot) → (let x = answer_of o (Absent (first_above k ps)) in same_answer x x ≡ true)
    go none = same-next (first_above k ps)
    go (some s) = rw (eq-eqb (recording s) (recording s) refl, eq-eqb (class s) (class s) refl)

search-same : (t : Words) (k : ℕ) → sound t ≡ true → same_answer (search 1 t k) (lookup k (map_of 1 t)) ≡ true
unfolding maps_of
search-same t k s = rw (searched 1 t k s) (lookup-same k (map_of 1 t))

pub agrees-own : (t : Words) → sound t ≡ true → agrees (map_of 1 t) t ≡ true
unfolding agrees all
agrees-own t s = rw (search-same t 1 s, search-same t 2 s, search-same t 3 s)

-- ---- the tables of an accepted call

module _ (x : Call) (words : ℕ) (t : Words) (s : sound t ≡ true) (ok : refusal x words 0 t ≡ 0) where
  steps : Steps x t
  steps = accepted-steps x words 0 t s ok

  -- the table after some count of the orders is the one after some first part of the stores
  part-of : (c : ℕ) → (j : ℕ) × (carry (take c (orders_of x 0 t)) t ≡ apply (take j (stores_of x t)) t)
  part-of c =
      let os = orders_of x 0 t in (
        store_count (take c os),
        carry-stores (take c os) t
            ∙ ap (λ q. apply q t) (stores_in-take c os ∙ ap (take (store_count (take c os))) (orders-stores (stores_of x t))),
      )

  -- after an accepted call on a sound table, collection 1 has the map changed as the call says
  pub after-map : map_of 1 (table_after x words 0 t) ≡ (change x (maps_of t)).one
  unfolding table_after maps_of
  after-map = rw ok (ap (λ (m : Maps). m.one) steps.all-map)

  -- the table u has the old map or the new one
  one-of : (u : Words) → sound u ≡ true → OldOrNew x t u → agrees (map_of 1 t) u || agrees (map_of 1 (table_after x words 0 t)) u ≡ true
  unfolding maps_of
  one-of u f (inl e) = let m : map_of 1 t ≡ map_of 1 u = sym (ap (λ (m : Maps). m.one) e) in rw (m, agrees-own u f)
  one-of u f (inr e) =
      let m : map_of 1 (table_after x words 0 t) ≡ map_of 1 u = after-map ∙ sym (ap (λ (m : Maps). m.one) e) in
      or-right (agrees (map_of 1 t) u) (agrees (map_of 1 (table_after x words 0 t)) u) (rw m (agrees-own u f))

  cut-agrees : (c : ℕ)
      → (let u = carry (take c (orders_of x 0 t)) t in agrees (map_of 1 t) u || agrees (map_of 1 (table_after x words 0 t)) u ≡ true)
  cut-agrees c = let (j, e) = part-of c in rw e (one-of (apply (take j (stores_of x t)) t) (steps.part-sound j) (steps.part-map j))

  after-sound : sound (table_after x words 0 t) ≡ true
  unfolding table_after
  after-sound = rw ok (sound-after x words 0 t ok)

-- No table of an accepted call is bad.
pub none-bad : (x : Call) (t : Words) → sound t ≡ true → refusal x 2560 0 t ≡ 0 → bad_tables x t ≡ []
unfolding bad_tables cut_tables
none-bad x t s ok =
    let cs = numbers 0 (suc (length (orders_of x 0 t))) in
    filter-none _ _ ((each-map _ _ cs).1 (mem-each _ cs (λ c m. ap not (cut-agrees x 2560 t s ok c))))

-- ---- over a script, and over all scripts

-- a call, accepted or not, leaves a sound table
pub after-call : (x : Call) (words : ℕ) (t : Words) → sound t ≡ true → sound (table_after x words 0 t) ≡ true
unfolding table_after
after-call x words t s = go (refusal x words 0 t) refl (after-sound x words t s)
  where
    go : (n : ℕ) → refusal x words 0 t ≡ n → (refusal x words 0 t ≡ 0 → sound (table_after x words 0 t) ≡ true)
        → sound (unless_refused n (apply (stores_of x t) t) t) ≡ true
    go zero e f = rw e at (f e)
    go (suc n) e f = s

-- Every script, of any length and from any sound table on, meets no bad table.
pub script-none-bad : (s : Script) (t : Words) → sound t ≡ true → along bad_count s t ≡ 0
unfolding along
script-none-bad [] t f = refl
script-none-bad (a ∷ s) t f =
    let rest = script-none-bad s (table_after (call_of a) 2560 0 t) (after-call (call_of a) 2560 t f) in
    omega (arith, here (refusal (call_of a) 2560 0 t) (λ ok. ap length (none-bad (call_of a) t f ok)), rest)
  where
    here : (n : ℕ) → (n ≡ 0 → bad_count (call_of a) t ≡ 0) → unless_refused n (bad_count (call_of a) t) 0 ≡ 0
    here zero e = e refl
    here (suc n) e = refl

-- the empty table of 4 nodes is sound
pub start-sound : sound (empty 4) ≡ true
unfolding empty_of
start-sound = settled-sound _ (empty-settled 1 4 (inl refl) (omega arith) (omega arith))

-- Over all scripts 0 tables agreed with the map neither before nor after the action.
pub bad-met : bad_met ≡ 0
unfolding over_all
bad-met = sum-none _ (numbers 0 SCRIPTS) (λ n. script-none-bad (script_of n) (empty 4) start-sound)
