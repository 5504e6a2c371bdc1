-- Many insertions in one call, whole or cut: a batch is the insertions of its first pairs, so demand 3 holds of histories with batches.
use Rattle.std.proofs.Common.{◌≡◌, ℕ, zero, suc, ◌+◌, ◌-◌, ◌*◌, ◌<◌, ◌≤◌, Bool, true, false, cond, eqb, leb, ◌≢◌, List, [], ◌∷◌, ◌++◌, map}
use Rattle.std.proofs.Common.{length, take, drop, sym, refl, ap, ◌∙◌, inl, inr, append_assoc, arith, length-append, length-drop, drop-drop}
use Rattle.std.proofs.Common.{take_at, drop_at, leb-false, leb-true}
use mathlib.Core.Option
use mathlib.Core.Option.{Option, none, some}
use lib.Seq.{take-length, take-append-add, take-append-le}
use Rattle.std.specs.Prelude as rust
use Rattle.std.specs.Prelude.{Some, None, Ok}
use Rattle.model.specs.declared.Refusal.{Refusal}
use Rattle.model.specs.Numbers.{refusal_number, refusal_of, stop_number}
use Rattle.model.proofs.Numbers.{Numbered, refusal-numbered}
use Rattle.model.specs.declared.Counts.{Counts}
use Rattle.model.specs.Results.{orders_counted}
use Rattle.model.specs.Table.{Words, at, line, nodes}
use Rattle.model.specs.Slots.{Slot, recording, class, pointer_of}
use Rattle.model.specs.Reached.{flat, Maps, maps_of}
use Rattle.model.specs.SoundTest.{sound}
use Rattle.model.specs.Sound.{Sound}
use Rattle.model.specs.Orders.{Store, Order, apply, carry, orders, barred, encode, decode, list_with, store_count, flush_count}
use Rattle.model.specs.Orders.{barrier_count, all_inside, carry_number, carried_out}
use Rattle.model.specs.Cuts.{flushed, up_to_flush, later_stores, FirstPart, Holds, Image, CutImage}
use Rattle.model.specs.Judge.{AllFlushed}
use Rattle.model.specs.Writes.{Call, stores_of}
use Rattle.model.specs.Refusals.{refusal, unless_refused, orders_of, written, table_after, list_after}
use Rattle.model.specs.Ledger.{Ledger, enter, on_map}
use Rattle.model.specs.Demand3.{Fate, whole, cut, Event, History, State, both, number_of, step, run_from, FateMay, MayFrom, ledger_from}
use Rattle.model.specs.Batch.{insertion_of, Batched, stopped, behind, batch}
use Rattle.model.specs.Batches.{batch_answered, batch_orders, after_batch, BatchMay, calls_in, AllAccepted, AllWhole, WholeBefore, FatesBy}
use Rattle.model.specs.Batches.{PairsBy, Stops, StopsBy, Singles, enter_all, RightBatch, Batches}
use Rattle.list_laws.proofs.Tools.{and-iff}
use Rattle.list_laws.proofs.Recordings.{pointer-of}
use Rattle.cut_laws.proofs.Applying.{apply-agree, length-apply, length-carry, carry-append, counts-length, store_count-append}
use Rattle.cut_laws.proofs.Applying.{flush_count-append, barrier_count-append}
use Rattle.cut_laws.proofs.Barriers.{barred-append, barred-nil, barred-inside}
use Rattle.cut_laws.proofs.LastFlush.{up_to_flush-nil, up_to_flush-after, later_stores-after, up_to_flush-before, later_stores-before}
use Rattle.cut_laws.proofs.LastFlush.{line-current}
use Rattle.cut_laws.proofs.Docks.{barred-images, list-flushed, list-apply}
use Rattle.cut_laws.proofs.Cuts.{image-at-none}
use Rattle.cut_laws.proofs.Lent.{length-encode, encode-append, list_with-nil, carry-list-all, header-length, orders-inside, read-back}
use Rattle.cut_laws.proofs.Lent.{listed-number, listed-carried}
use Rattle.two_laws.proofs.MapsTwo.{Steps, accepted-steps, sound-after}
use Rattle.two_laws.proofs.SearchTwo.{sound-head}
use Rattle.two_laws.proofs.LedgerTwo.{number-in-ledger}
use Rattle.batch_laws.proofs.Folds.{batch-none, batch-stops, batch-goes}
use Rattle.crash_laws.proofs.Demand3.{answered-all, listed-all, demand3-from, along}

-- ---- the orders of a batch

abbrev counts_in : List Order → Counts
counts_in os = record { stores = store_count os; flushes = flush_count os; barriers = barrier_count os }

-- the stores of each pair that is taken
batch_stores : (n dock : ℕ) → List Slot → (list t : Words) → List (List Store)
batch_stores n dock [] list t = []
batch_stores n dock (s ∷ ss) list t =
    let x = insertion_of n s in
    unless_refused (refusal x (length list) dock t)
    (stores_of x t ∷ batch_stores n dock ss (drop (2 * length (orders_of x dock t)) list) (apply (stores_of x t) t)) []

-- the single calls' lists one after another
abbrev all_orders : (n dock : ℕ) → List Slot → (list t : Words) → List Order
all_orders n dock ss list t = barred dock (flat orders (batch_stores n dock ss list t))

-- ---- a list behind one that leaves no store unflushed

module _ (a b : List Order) (t m : Words) (f : AllFlushed a) where
  -- a line that b does not flush is as the whole of a leaves it
  line-whole : (w : ℕ) → at (carry (up_to_flush (line w) a) t) w ≡ at (carry a t) w
  unfolding apply
  line-whole w = sym (ap (λ (ss : List Store). at (apply ss (carry (up_to_flush (line w) a) t)) w) (f (line w))) ∙ line-current a t w

  image-behind : Image 0 t (a ++ b) m → Image 0 (carry a t) b m
  image-behind i = record { long = i.long ∙ sym (length-carry a t); lines = λ l. go l (flushed l b) refl (i.lines l) }
    where
      go : (l : ℕ) (q : Bool) → flushed l b ≡ q → (part : List Store) × FirstPart (later_stores l (a ++ b)) part × Holds t (a ++ b) m l part
          → (part : List Store) × FirstPart (later_stores l b) part × Holds (carry a t) b m l part
      go l true e (part, (n, p), h) = (
        part,
        (n, p ∙ ap (take n) (later_stores-after l b e a)),
        λ w k. h w k ∙ ap (λ (os : List Order). at (apply part (carry os t)) w) (up_to_flush-after l b e a)
            ∙ ap (λ (u : Words). at (apply part u) w) (carry-append a (up_to_flush l b) t),
      )
      go l false e (part, (n, p), h) = (
        part,
        (n, p ∙ ap (take n) (later_stores-before l b e a ∙ ap (λ (ss : List Store). ss ++ later_stores l b) (f l))),
        λ w k.
            h w k ∙ ap (λ (os : List Order). at (apply part (carry os t)) w) (up_to_flush-before l b e a)
            ∙ apply-agree part (carry (up_to_flush l a) t) (carry a t) w (length-carry (up_to_flush l a) t ∙ sym (length-carry a t))
            (rw k at (line-whole w))
            ∙ sym (ap (λ (os : List Order). at (apply part (carry os (carry a t))) w) (up_to_flush-nil l b e)
            ∙ ap (λ (u : Words). at (apply part u) w) (unfold carry in refl)),
      )

-- A cut behind the whole list of some stores is a cut of what follows, on the table that the stores leave.
cut-behind : (dock c : ℕ) (ss : List Store) (later : List Order) (t m : Words)
    → CutImage dock (length (barred dock (orders ss)) + c) t (barred dock (orders ss ++ later)) m
    → CutImage dock c (apply ss t) (barred dock later) m
cut-behind dock c ss later t m i =
    let a = barred dock (orders ss) in
    let e : take (length a + c) (barred dock (orders ss ++ later)) ≡ a ++ take c (barred dock later) =
    ap (take (length a + c)) (barred-append dock (orders ss) later) ∙ take-append-add a (barred dock later) c in
    let j : Image 0 t (a ++ take c (barred dock later)) m = rw e at ((barred-images dock (length a + c) t (orders ss ++ later) m).0 i) in
    (barred-images dock c (apply ss t) later m).1
    (rw (list-apply dock ss t) at (image-behind a (take c (barred dock later)) t m (list-flushed dock ss) j))

-- A cut within it is a cut of it.
cut-within : (dock c : ℕ) (ss : List Store) (later : List Order) (t m : Words) → c ≤ length (barred dock (orders ss))
    → CutImage dock c t (barred dock (orders ss ++ later)) m
    → CutImage dock c t (barred dock (orders ss)) m
cut-within dock c ss later t m h i =
    rw (ap (take c) (barred-append dock (orders ss) later) ∙ take-append-le c (barred dock (orders ss)) (barred dock later) h) at i

-- ---- events one after another

run-first : (s : State) (e : Event) (es : History) → run_from s (es ++ (e ∷ [])) ≡ run_from (step s e) es
unfolding run_from
run-first s e [] = refl
run-first s e (f ∷ es) = ap (λ (u : State). step u f) (run-first s e es)

may-first : (s : State) (e : Event) (es : History) → (number_of s e ≡ 0 → FateMay e.fate s e) → MayFrom (step s e) es
    → MayFrom s (es ++ (e ∷ []))
unfolding run_from MayFrom
may-first s e [] p q = (tt, p)
may-first s e (f ∷ es) p q = (may-first s e es p q.0, rw (run-first s e es) q.1)

accepted-first : (s : State) (dock : ℕ) (e : Event) (es : History) → (number_of s e ≡ 0) × (e.dock ≡ dock) × (e.slice ≡ none)
    → AllAccepted (step s e) dock es
    → AllAccepted s dock (es ++ (e ∷ []))
unfolding run_from
accepted-first s dock e [] p q = (tt, p.0, p.1, p.2)
accepted-first s dock e (f ∷ es) p q = (accepted-first s dock e es p q.0, rw (run-first s e es) q.1, q.2, q.3)

calls-first : (es : History) (e : Event) → calls_in (es ++ (e ∷ [])) ≡ e.call ∷ calls_in es
calls-first [] e = refl
calls-first (f ∷ es) e = ap (λ (xs : List Call). xs ++ (f.call ∷ [])) (calls-first es e)

all-first : (es : History) (e : Event) → AllWhole es → e.fate ≡ whole → AllWhole (es ++ (e ∷ []))
all-first [] e a w = (tt, w)
all-first (f ∷ es) e a w = (all-first es e a.0 w, a.1)

before-first : (es : History) (e : Event) → WholeBefore es → e.fate ≡ whole → WholeBefore (es ++ (e ∷ []))
before-first [] e a w = tt
before-first (f ∷ es) e a w = all-first es e a w

fates-first : (f : Fate) (es : History) (e : Event) → FatesBy f es → e.fate ≡ whole → FatesBy f (es ++ (e ∷ []))
fates-first whole es e a w = all-first es e a w
fates-first (cut c m) es e a w = before-first es e a w

pairs-first : (f : Fate) (pairs taken : ℕ) → PairsBy f pairs taken → PairsBy f (suc pairs) (1 + taken)
pairs-first whole pairs taken e = omega (arith, e)
pairs-first (cut c m) pairs taken l = omega (arith, l)

run-join : (s : State) (es h : History) → run_from s (es ++ h) ≡ run_from (run_from s h) es
unfolding run_from
run-join s [] h = refl
run-join s (e ∷ es) h = ap (λ (u : State). step u e) (run-join s es h)

may-join : (s : State) (es h : History) → MayFrom s h → MayFrom (run_from s h) es → MayFrom s (es ++ h)
unfolding MayFrom
may-join s [] h p q = p
may-join s (e ∷ es) h p q = (may-join s es h p q.0, rw (run-join s es h) q.1)

-- ---- the insertions that take a table, stored and copied, to a state

abbrev pair_event : (n dock : ℕ) → Words → Fate → Slot → Event
pair_event n dock list f s = record { call = insertion_of n s; lent = list; dock = dock; slice = none; fate = f }

record Ways (n dock : ℕ) (ss : List Slot) (t : Words) (f : Fate) (taken : ℕ) (s' : State) : Type 0 where
  events : History
  pairs : ℕ
  calls-are : calls_in events ≡ map (insertion_of n) (take pairs ss)
  pairs-are : PairsBy f pairs taken
  accepted : AllAccepted (both t) dock events
  fates : FatesBy f events
  may : MayFrom (both t) events
  comes-to : run_from (both t) events ≡ s'

-- no pair
no-ways : (n dock : ℕ) (ss : List Slot) (t : Words) (f : Fate) (taken : ℕ) (m : Words) → FatesBy f [] → PairsBy f 0 taken → t ≡ m
    → Ways n dock ss t f taken (both m)
unfolding run_from MayFrom
no-ways n dock ss t f taken m a p e =
    record { events = []; pairs = 0; calls-are = refl; pairs-are = p; accepted = tt; fates = a; may = tt; comes-to = ap both e }

-- one pair first, whole
ways-first : (n dock : ℕ) (x : Slot) (ss : List Slot) (list t t₁ : Words) (f : Fate) (taken : ℕ) (s' : State)
    → refusal (insertion_of n x) (length list) dock t ≡ 0
    → step (both t) (pair_event n dock list whole x) ≡ both t₁ → Ways n dock ss t₁ f taken s' → Ways n dock (x ∷ ss) t f (1 + taken) s'
ways-first n dock x ss list t t₁ f taken s' ok q v =
    let e = pair_event n dock list whole x in
    record {
      events = v.events ++ (e ∷ []);
      pairs = suc v.pairs;
      calls-are = calls-first v.events e ∙ ap (λ (ys : List Call). insertion_of n x ∷ ys) v.calls-are;
      pairs-are = pairs-first f v.pairs taken v.pairs-are;
      accepted = accepted-first (both t) dock e v.events (ok, refl, refl) (rw q v.accepted);
      fates = fates-first f v.events e v.fates refl;
      may = may-first (both t) e v.events (λ z. tt) (rw q v.may);
      comes-to = run-first (both t) e v.events ∙ rw q v.comes-to;
    }

other-cut : (n dock : ℕ) (ss : List Slot) (t : Words) (c d : ℕ) (m : Words) (taken : ℕ) (s' : State) → Ways n dock ss t (cut c m) taken s'
    → Ways n dock ss t (cut d m) taken s'
other-cut n dock ss t c d m taken s' v =
    record {
      events = v.events;
      pairs = v.pairs;
      calls-are = v.calls-are;
      pairs-are = v.pairs-are;
      accepted = v.accepted;
      fates = v.fates;
      may = v.may;
      comes-to = v.comes-to;
    }

-- ---- the first pair

-- a list behind another one
list-joined : (a b : List Order) (list : Words) → encode a ++ list_with b (drop (2 * length a) list) ≡ list_with (a ++ b) list
unfolding list_with
list-joined a b list =
    let e : 2 * length a + 2 * length b ≡ 2 * length (a ++ b) = omega (arith, length-append a b) in
    ap (λ (l : Words). encode a ++ (encode b ++ l)) (drop-drop (2 * length b) (2 * length a) list ∙ ap (λ (k : ℕ). drop k list) e)
    ∙ sym (append_assoc (encode a) (encode b) (drop (2 * length (a ++ b)) list))
    ∙ ap (λ (l : Words). l ++ drop (2 * length (a ++ b)) list) (sym (encode-append a b))

inside-append : (n : ℕ) (a b : List Order) → all_inside n a ≡ true → all_inside n b ≡ true → all_inside n (a ++ b) ≡ true
unfolding all_inside
inside-append n [] b p q = q
inside-append n (o ∷ a) b p q = let u = simp and-iff at p in simp and-iff (u.0, inside-append n a b u.1 q)

module _ (n dock : ℕ) (s : Slot) (ss : List Slot) (list t : Words) where
  abbrev x : Call
  x = insertion_of n s

  abbrev us : List Store
  us = stores_of x t

  abbrev own : List Order
  own = orders_of x dock t

  -- the table that it leaves, and the list behind its orders
  abbrev t₁ : Words
  t₁ = apply us t

  abbrev list₁ : Words
  list₁ = drop (2 * length own) list

  -- it is taken
  module _ (ok : refusal (insertion_of n s) (length list) dock t ≡ 0) where
    abbrev filled : ℕ
    filled = 2 * orders_counted (counts_in own)

    is-written : written x (length list) dock t ≡ Ok (counts_in own)
    unfolding written
    is-written = rw ok

    is-table : table_after x (length list) dock t ≡ t₁
    unfolding table_after
    is-table = rw ok

    is-list : list_after x list dock t ≡ encode own ++ list₁
    unfolding list_after list_with
    is-list = rw ok

    long : length (encode own) ≡ filled
    long = omega (arith, length-encode own, counts-length own)

    goes : batch n dock (s ∷ ss) list t ≡ behind 1 (counts_in own) (encode own) (batch n dock ss list₁ t₁)
    goes =
        let next : Words → Words → Words → Batched = λ (front back u : Words). behind 1 (counts_in own) front (batch n dock ss back u) in
        batch-goes n dock s ss list t _ is-written
        ∙ ap (λ (l : Words). next (take filled l) (drop filled l) (table_after x (length list) dock t)) is-list
        ∙ ap (next (take filled (encode own ++ list₁)) (drop filled (encode own ++ list₁))) is-table
        ∙ ap (λ (l : Words). next l (drop filled (encode own ++ list₁)) t₁) (take_at (encode own) list₁ filled long)
        ∙ ap (λ (l : Words). next (encode own) l t₁) (drop_at (encode own) list₁ filled long)

    parted : all_orders n dock (s ∷ ss) list t ≡ barred dock (orders us ++ flat orders (batch_stores n dock ss list₁ t₁))
    unfolding batch_stores flat
    parted = rw ok

    joined : all_orders n dock (s ∷ ss) list t ≡ own ++ all_orders n dock ss list₁ t₁
    joined = parted ∙ barred-append dock (orders us) (flat orders (batch_stores n dock ss list₁ t₁))

    step-cut : (c : ℕ) (m : Words) → step (both t) (pair_event n dock list (cut c m) s) ≡ both m
    unfolding step
    step-cut c m = rw ok

    module _ (fine : sound t ≡ true) where
      steps : Steps x t
      steps = accepted-steps x (length list) dock t fine ok

      step-whole : step (both t) (pair_event n dock list whole s) ≡ both t₁
      unfolding step written list_after table_after
      step-whole = rw (ok, counts-length own)
          (ap (λ (m : Words). record { memory = m; working = t₁ }) (carry-list-all dock us list t (sound-head t fine) steps.stores-inside))

      own-inside : all_inside (length t) own ≡ true
      own-inside = barred-inside dock (length t) (orders us)
          ∙ orders-inside (length t) us (header-length t (sound-head t fine)).0 steps.stores-inside

      -- a cut within its orders
      cut-here : (c : ℕ) (m : Words) (taken : ℕ) → c ≤ length own → CutImage dock c t own m
          → Ways n dock (s ∷ ss) t (cut c m) (1 + taken) (both m)
      unfolding run_from MayFrom
      cut-here c m taken l i =
          let e = pair_event n dock list (cut c m) s in
          record {
            events = e ∷ [];
            pairs = 1;
            calls-are = refl;
            pairs-are = omega arith;
            accepted = (tt, ok, refl, refl);
            fates = tt;
            may = (tt, λ z. (rw (answered-all (both t) e refl fine ok) l, rw (listed-all (both t) e refl fine ok) i));
            comes-to = step-cut c m;
          }

  -- it is refused
  module _ (k : ℕ) (not_taken : refusal (insertion_of n s) (length list) dock t ≡ suc k) where
    stops-here : batch n dock (s ∷ ss) list t ≡ stopped (Some (refusal_of (suc k))) list t
    unfolding written
    stops-here = batch-stops n dock s ss list t (refusal_of (suc k)) (rw not_taken)

    number-here : refusal_number (refusal_of (suc k)) ≡ suc k
    number-here = go (rw not_taken at (refusal-numbered (insertion_of n s) (length list) dock t))
      where
        go : Numbered (suc k) → refusal_number (refusal_of (suc k)) ≡ suc k
        go (inl z) = absurd (omega arith)
        go (inr e) = e

    no-orders : all_orders n dock (s ∷ ss) list t ≡ []
    unfolding batch_stores flat
    no-orders = rw not_taken (barred-nil dock)

-- ---- what a batch answers and leaves

-- number: 0, or that of the first pair left, by the words left of the list
abbrev StopsAt : (n dock words number : ℕ) → Words → List Slot → Type 0
StopsAt n dock words number u [] = number ≡ 0
StopsAt n dock words number u (s ∷ ss) = (number ≢ 0) × (number ≡ refusal (insertion_of n s) words dock u)

stops-same : (n dock a b number : ℕ) (u : Words) (l k : List Slot) → a ≡ b → l ≡ k → StopsAt n dock a number u l
    → StopsAt n dock b number u k
stops-same n dock a b number u l k e f p = rw (e, f) at p

-- changes of one map one after another
module _ (n : ℕ) (f g : List Slot → List Slot) (m : Maps) where
  on-map-join : on_map n f (on_map n g m) ≡ on_map n (λ (ps : List Slot). f (g ps)) m
  unfolding on_map
  on-map-join = go (eqb n 1) m.one m.two
    where
      go : (b : Bool) (a : List Slot) (o : Option (List Slot))
          → ◌≡◌ {A = Maps} (record {
            one = cond b (f (cond b (g a) a)) (cond b (g a) a);
            two = cond b (cond b o (Option.map g o)) (Option.map f (cond b o (Option.map g o)));
          })
          (record { one = cond b (f (g a)) a; two = cond b o (Option.map (λ (ps : List Slot). f (g ps)) o) })
      go true a o = refl
      go false a none = refl
      go false a (some ps) = refl

  on-map-same : ((ps : List Slot) → f ps ≡ g ps) → on_map n f m ≡ on_map n g m
  unfolding on_map
  on-map-same e = go (eqb n 1) m.one m.two
    where
      go : (b : Bool) (a : List Slot) (o : Option (List Slot))
          → ◌≡◌ {A = Maps} (record { one = cond b (f a) a; two = cond b o (Option.map f o) })
          (record { one = cond b (g a) a; two = cond b o (Option.map g o) })
      go true a o = ap (λ (ps : List Slot). record { one = ps; two = o }) (e a)
      go false a none = refl
      go false a (some ps) = ap (λ (qs : List Slot). record { one = a; two = some qs }) (e ps)

on-map-id : (n : ℕ) (f : List Slot → List Slot) (m : Maps) → ((ps : List Slot) → f ps ≡ ps) → on_map n f m ≡ m
unfolding on_map
on-map-id n f m e = on-map-same n f (λ (ps : List Slot). ps) m e ∙ go (eqb n 1) m.one m.two
  where
    go : (b : Bool) (a : List Slot) (o : Option (List Slot))
        → ◌≡◌ {A = Maps} (record { one = cond b a a; two = cond b o (Option.map (λ (ps : List Slot). ps) o) }) (record { one = a; two = o })
    go true a o = refl
    go false a none = refl
    go false a (some ps) = refl

-- the pair enters first: its pointer is its recording and class
enter-first : (s : Slot) (ss : List Slot) (taken : ℕ) (ps : List Slot)
    → enter_all (take taken ss) (enter s.key (pointer_of (recording s) (class s)) ps) ≡ enter_all (take (1 + taken) (s ∷ ss)) ps
enter-first s ss taken ps =
    let one : suc taken ≡ 1 + taken = omega arith in
    ap (λ (p : ℕ). enter_all (take taken ss) (enter s.key p ps)) (pointer-of s.pointer) ∙ ap (λ (k : ℕ). enter_all (take k (s ∷ ss)) ps) one

-- os are its orders
record Facts (n dock : ℕ) (ss : List Slot) (list t : Words) (r : Batched) (os : List Order) : Type 0 where
  list-is : r.list ≡ list_with os list
  stores-are : r.answer.counts.stores ≡ store_count os
  flushes-are : r.answer.counts.flushes ≡ flush_count os
  barriers-are : r.answer.counts.barriers ≡ barrier_count os
  inside : all_inside (length t) os ≡ true
  gives : carry os t ≡ r.table
  fine : sound r.table ≡ true
  enters : maps_of r.table ≡ on_map n (enter_all (take r.answer.taken ss)) (maps_of t)
  stops : StopsAt n dock (length list - 2 * batch_answered r) (stop_number r.answer.stop) r.table (drop r.answer.taken ss)

-- nothing was taken
facts-none : (n dock : ℕ) (ss : List Slot) (list t : Words) (stop : rust.Option Refusal) → sound t ≡ true
    → StopsAt n dock (length list) (stop_number stop) t ss → Facts n dock ss list t (stopped stop list t) []
unfolding store_count flush_count barrier_count all_inside carry
facts-none n dock ss list t stop s e = record {
  list-is = sym (list_with-nil list);
  stores-are = refl;
  flushes-are = refl;
  barriers-are = refl;
  inside = refl;
  gives = refl;
  fine = s;
  enters = sym (on-map-id n (enter_all []) (maps_of t) (λ ps. refl));
  stops = stops-same n dock (length list) _ (stop_number stop) t ss ss (omega arith) refl e;
}

-- one pair first
facts-first : (n dock : ℕ) (s : Slot) (ss : List Slot) (list t : Words) (r : Batched) (os : List Order) → sound t ≡ true
    → refusal (insertion_of n s) (length list) dock t ≡ 0
    → (let own = orders_of (insertion_of n s) dock t in Facts n dock ss (drop (2 * length own) list)
    (apply (stores_of (insertion_of n s) t) t) r os
    → Facts n dock (s ∷ ss) list t (behind 1 (counts_in own) (encode own) r) (own ++ os))
facts-first n dock s ss list t r os fine ok v =
    let x = insertion_of n s in
    let own = orders_of x dock t in
    let us = stores_of x t in
    record {
      list-is = ap (λ (l : Words). encode own ++ l) v.list-is ∙ list-joined own os list;
      stores-are = ap (λ (k : ℕ). store_count own + k) v.stores-are ∙ sym (store_count-append own os);
      flushes-are = ap (λ (k : ℕ). flush_count own + k) v.flushes-are ∙ sym (flush_count-append own os);
      barriers-are = ap (λ (k : ℕ). barrier_count own + k) v.barriers-are ∙ sym (barrier_count-append own os);
      inside = inside-append (length t) own os (own-inside n dock s ss list t ok fine) (rw (length-apply us t) at v.inside);
      gives = carry-append own os t ∙ ap (carry os) (list-apply dock us t) ∙ v.gives;
      fine = v.fine;
      enters =
          v.enters ∙ ap (on_map n (enter_all (take r.answer.taken ss))) (accepted-steps x (length list) dock t fine ok).all-map
          ∙ on-map-join n (enter_all (take r.answer.taken ss)) (enter s.key (pointer_of (recording s) (class s))) (maps_of t)
          ∙ on-map-same n _ (enter_all (take (1 + r.answer.taken) (s ∷ ss))) (maps_of t) (enter-first s ss r.answer.taken);
      stops =
          let words : length (drop (2 * length own) list) - 2 * batch_answered r
          ≡ length list - 2 * batch_answered (behind 1 (counts_in own) (encode own) r) =
          omega (arith, length-drop (2 * length own) list, counts-length own) in
          let one : suc r.answer.taken ≡ 1 + r.answer.taken = omega arith in
          stops-same n dock _ _ (stop_number r.answer.stop) r.table (drop r.answer.taken ss) _ words
          (ap (λ (k : ℕ). drop k (s ∷ ss)) one) v.stops;
    }

none-orders : (n dock : ℕ) (list t : Words) → all_orders n dock [] list t ≡ []
unfolding batch_stores flat
none-orders n dock list t = barred-nil dock

facts : (n dock : ℕ) (ss : List Slot) (list t : Words) → sound t ≡ true
    → Facts n dock ss list t (batch n dock ss list t) (all_orders n dock ss list t)
facts n dock [] list t fine = rw (batch-none n dock list t, none-orders n dock list t) (facts-none n dock [] list t None fine refl)
facts n dock (s ∷ ss) list t fine = go (refusal (insertion_of n s) (length list) dock t) refl (facts n dock ss)
  where
    go : (k : ℕ) → refusal (insertion_of n s) (length list) dock t ≡ k
        → ((list t : Words) → sound t ≡ true → Facts n dock ss list t (batch n dock ss list t) (all_orders n dock ss list t))
        → Facts n dock (s ∷ ss) list t (batch n dock (s ∷ ss) list t) (all_orders n dock (s ∷ ss) list t)
    go zero ok ih = rw (goes n dock s ss list t ok, joined n dock s ss list t ok)
        (facts-first n dock s ss list t _ _ fine ok (ih _ _ (sound-after (insertion_of n s) (length list) dock t ok)))
    go (suc k) f ih =
        let e = number-here n dock s ss list t k f in
        rw (stops-here n dock s ss list t k f, no-orders n dock s ss list t k f)
        (facts-none n dock (s ∷ ss) list t (Some (refusal_of (suc k))) fine ((λ z. omega (arith, e, z)), e ∙ sym f))

-- ---- a batch whole, and cut

whole-ways : (n dock : ℕ) (ss : List Slot) (list t : Words) → sound t ≡ true
    → (let r = batch n dock ss list t in Ways n dock ss t whole r.answer.taken (both r.table))
whole-ways n dock [] list t fine = rw (batch-none n dock list t) (no-ways n dock [] t whole 0 t tt refl refl)
whole-ways n dock (s ∷ ss) list t fine = go (refusal (insertion_of n s) (length list) dock t) refl (whole-ways n dock ss)
  where
    go : (k : ℕ) → refusal (insertion_of n s) (length list) dock t ≡ k
        → ((list t : Words) → sound t ≡ true → (let r = batch n dock ss list t in Ways n dock ss t whole r.answer.taken (both r.table)))
        → (let r = batch n dock (s ∷ ss) list t in Ways n dock (s ∷ ss) t whole r.answer.taken (both r.table))
    go zero ok ih =
        rw (goes n dock s ss list t ok)
        (ways-first n dock s ss list t _ whole _ _ ok (step-whole n dock s ss list t ok fine)
        (ih _ _ (sound-after (insertion_of n s) (length list) dock t ok)))
    go (suc k) f ih = rw (stops-here n dock s ss list t k f) (no-ways n dock (s ∷ ss) t whole 0 t tt refl refl)

-- no order has happened
cut-none : (n dock : ℕ) (ss : List Slot) (t : Words) (c : ℕ) (m : Words) (taken : ℕ) (os : List Order) → os ≡ [] → c ≤ length os
    → CutImage dock c t os m → Ways n dock ss t (cut c m) taken (both m)
cut-none n dock ss t c m taken os e l i =
    let z : c ≡ 0 = omega (arith, l, ap length e) in
    let q : m ≡ t = image-at-none dock [] t m (rw (e, z) at i) in
    no-ways n dock ss t (cut c m) taken m tt (omega arith) (sym q)

abbrev Cuts : (n dock : ℕ) → List Slot → Type 0
Cuts n dock ss = (list t : Words) (c : ℕ) (m : Words) → sound t ≡ true → c ≤ length (all_orders n dock ss list t)
    → CutImage dock c t (all_orders n dock ss list t) m
    → Ways n dock ss t (cut c m) (batch n dock ss list t).answer.taken (both m)

module _ (n dock : ℕ) (s : Slot) (ss : List Slot) (ih : Cuts n dock ss) (list t : Words) (c : ℕ) (m : Words) (fine : sound t ≡ true)
    (l : c ≤ length (all_orders n dock (s ∷ ss) list t))
    (i : CutImage dock c t (all_orders n dock (s ∷ ss) list t) m) where
  -- the first pair is taken
  module _ (ok : refusal (insertion_of n s) (length list) dock t ≡ 0) where
    abbrev stores : List Store
    stores = stores_of (insertion_of n s) t

    abbrev first : List Order
    first = orders_of (insertion_of n s) dock t

    abbrev rest : Words
    rest = drop (2 * length first) list

    abbrev later : List Order
    later = flat orders (batch_stores n dock ss rest (apply stores t))

    image : CutImage dock c t (barred dock (orders stores ++ later)) m
    image = rw (parted n dock s ss list t ok) at i

    lengths : length (all_orders n dock (s ∷ ss) list t) ≡ length first + length (barred dock later)
    lengths = ap length (joined n dock s ss list t ok) ∙ length-append first (barred dock later)

    within : c ≤ length first → Ways n dock (s ∷ ss) t (cut c m) (1 + (batch n dock ss rest (apply stores t)).answer.taken) (both m)
    within k = cut-here n dock s ss list t ok fine c m _ k (cut-within dock c stores later t m k image)

    past : length first < c → Ways n dock (s ∷ ss) t (cut c m) (1 + (batch n dock ss rest (apply stores t)).answer.taken) (both m)
    past k =
        let d : length first + (c - length first) ≡ c = omega arith in
        let j : CutImage dock (length first + (c - length first)) t (barred dock (orders stores ++ later)) m = rw d image in
        let w = ih rest (apply stores t) (c - length first) m (sound-after (insertion_of n s) (length list) dock t ok)
        (omega (arith, l, lengths)) (cut-behind dock (c - length first) stores later t m j) in
        other-cut n dock (s ∷ ss) t (c - length first) c m _ _
        (ways-first n dock s ss list t (apply stores t) (cut (c - length first) m) _ _ ok (step-whole n dock s ss list t ok fine) w)

    taken-cut : Ways n dock (s ∷ ss) t (cut c m) (batch n dock (s ∷ ss) list t).answer.taken (both m)
    taken-cut = rw (goes n dock s ss list t ok) (go (leb c (length first)) refl)
      where
        go : (b : Bool) → leb c (length first) ≡ b
            → Ways n dock (s ∷ ss) t (cut c m) (1 + (batch n dock ss rest (apply stores t)).answer.taken) (both m)
        go true q = within (leb-true c (length first) q)
        go false q = past (leb-false c (length first) q)

  cons-cut : Ways n dock (s ∷ ss) t (cut c m) (batch n dock (s ∷ ss) list t).answer.taken (both m)
  cons-cut = go (refusal (insertion_of n s) (length list) dock t) refl
    where
      go : (k : ℕ) → refusal (insertion_of n s) (length list) dock t ≡ k
          → Ways n dock (s ∷ ss) t (cut c m) (batch n dock (s ∷ ss) list t).answer.taken (both m)
      go zero ok = taken-cut ok
      go (suc k) f = cut-none n dock (s ∷ ss) t c m _ (all_orders n dock (s ∷ ss) list t) (no-orders n dock s ss list t k f) l i

cut-ways : (n dock : ℕ) (ss : List Slot) → Cuts n dock ss
cut-ways n dock [] list t c m fine l i = cut-none n dock [] t c m _ (all_orders n dock [] list t) (none-orders n dock list t) l i
cut-ways n dock (s ∷ ss) list t c m fine l i = cons-cut n dock s ss (cut-ways n dock ss) list t c m fine l i

-- ---- a batch after a history

module _ (t : Words) (q : Sound t) (h : History) (p : MayFrom (both t) h) (n dock : ℕ) (ss : List Slot) (list : Words) where
  abbrev now : State
  now = run_from (both t) h

  abbrev r : Batched
  r = batch n dock ss list now.working

  abbrev all : List Order
  all = all_orders n dock ss list now.working

  same : now.memory ≡ now.working
  same = (along t q h p).0

  fine-now : sound now.working ≡ true
  fine-now = (along t q h p).1

  known : Facts n dock ss list now.working r all
  known = facts n dock ss list now.working fine-now

  answered : batch_answered r ≡ length all
  answered = rw (known.stores-are, known.flushes-are, known.barriers-are) (counts-length all)

  orders-are : batch_orders r ≡ all
  orders-are =
      ap (λ (c : ℕ). take c (decode r.list)) answered ∙ ap (λ (l : Words). take (length all) (decode l)) known.list-is
      ∙ read-back all list now.working (length all) (header-length now.working (sound-head now.working fine-now)).1 known.inside
      (omega arith) ∙ take-length all

  listed : RightBatch now n ss list r
  listed =
      let head = sound-head now.working fine-now in
      let number : carry_number (length all) (list_with all list) now.working ≡ 0 =
      listed-number all list now.working (length all) head known.inside (omega arith) in
      let table : carried_out (length all) (list_with all list) now.working ≡ r.table =
      listed-carried all list now.working (length all) head known.inside (omega arith)
      ∙ ap (λ (os : List Order). carry os now.working) (take-length all) ∙ known.gives in
      record {
        enters = known.enters;
        list-is = known.list-is ∙ ap (λ (os : List Order). list_with os list) (sym orders-are);
        stores-are = known.stores-are ∙ ap store_count (sym orders-are);
        flushes-are = known.flushes-are ∙ ap flush_count (sym orders-are);
        barriers-are = known.barriers-are ∙ ap barrier_count (sym orders-are);
        carries = rw (answered, known.list-is, same) number;
        gives = rw (answered, known.list-is, same) table;
      }

  start : now ≡ both now.working
  start = ap (λ (m : Words). record { memory = m; working = now.working }) same

  -- the insertions fed onto the history; what the batch comes to, and its number, by its fate
  singles-by : (f : Fate) (s' : State) (w : Ways n dock ss now.working f r.answer.taken s') → s' ≡ after_batch f now r
      → (maps_of s'.working ≡ ledger_from (demand3-from t q).0 (nodes t) (both t) (maps_of t) (w.events ++ h)
      → StopsBy f n (length list - 2 * batch_answered r) dock (stop_number r.answer.stop)
      (ledger_from (demand3-from t q).0 (nodes t) (both t) (maps_of t) (w.events ++ h)) (drop r.answer.taken ss))
      → Singles (demand3-from t q).0 t h n dock ss list r f
  singles-by f s' w e g =
      let es = w.events in
      let m : MayFrom now es = rw start w.may in
      let c : run_from now es ≡ s' = rw start w.comes-to in
      let may : MayFrom (both t) (es ++ h) = may-join (both t) es h p m in
      let to : run_from (both t) (es ++ h) ≡ s' = run-join (both t) es h ∙ c in
      record {
        events = es;
        pairs = w.pairs;
        calls-are = w.calls-are;
        pairs-are = w.pairs-are;
        accepted = rw start w.accepted;
        fates = w.fates;
        may = may;
        comes-to = to ∙ e;
        stands = (demand3-from t q).1 (es ++ h) may;
        stops = g (ap (λ (u : State). maps_of u.working) (sym to) ∙ (along t q (es ++ h) may).2);
      }

  stopped-by : (left : List Slot) (words : ℕ) (ps : Ledger) → maps_of r.table ≡ ps
      → StopsAt n dock words (stop_number r.answer.stop) r.table left → Stops n words dock (stop_number r.answer.stop) ps left
  stopped-by [] words ps e u = u
  stopped-by (s ∷ left) words ps e u = (u.0, rw (u.1, ← e) (number-in-ledger (insertion_of n s) words dock r.table known.fine))

  singles : (f : Fate) → BatchMay f dock now r → Singles (demand3-from t q).0 t h n dock ss list r f
  singles whole b =
      singles-by whole (both r.table) (whole-ways n dock ss list now.working fine-now)
      (ap (λ (m : Words). record { memory = m; working = r.table }) (sym listed.gives))
      (λ e. stopped-by (drop r.answer.taken ss) (length list - 2 * batch_answered r) _ e known.stops)
  singles (cut c m) b =
      let l : c ≤ length all = rw answered at b.0 in
      let i : CutImage dock c now.working all m = rw (same, orders-are) at b.1 in
      singles-by (cut c m) (both m) (cut-ways n dock ss list now.working c m fine-now l i) refl (λ e. tt)

-- After every history from every sound table, every batch, whole or cut after any number of its orders.
pub batches : Batches
batches t q = ((demand3-from t q).0, λ h p n dock ss list. (listed t q h p n dock ss list, singles t q h p n dock ss list))
