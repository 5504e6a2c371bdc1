-- Demand 3 with one or two collections, on either dock, with sentinels or without, proved. What is kept: memory is the working copy, sound,
-- of
-- N nodes, and its maps are the ledger.
use Rattle.std.proofs.Common.{◌≡◌, ℕ, zero, suc, ◌*◌, ◌≤◌, Bool, true, false, cond, eqb, ◌≢◌, ◌⊎◌, List, [], ◌∷◌, length, take, set, sym}
use Rattle.std.proofs.Common.{refl, ap, ◌∙◌, inl, inr, le_refl, arith, get_or-set_other, eqb-true}
use mathlib.Core.Bool.{false≢true}
use mathlib.Core.List.{List-discrete}
use mathlib.Core.Option.{Option, none, some}
use mathlib.Core.HLevel.{Discrete}
use native.Mathlib.Decide.{ℕ_discrete}
use Rattle.model.proofs.Numbers.{answered-number, itself, refusal-numbered, slice-numbered}
use Rattle.model.specs.Results.{done_with, answer_number}
use Rattle.model.specs.Table.{MARK, Words, nodes, node_start, empty, empty_of}
use Rattle.model.specs.Slots.{Slot}
use Rattle.model.specs.Orders.{Store, Order, apply, orders, barred, decode, store_count, flush_count, barrier_count, list_with}
use Rattle.model.specs.Orders.{carry_number, carried_out}
use Rattle.model.specs.Cuts.{CutImage}
use Rattle.model.specs.Refusals.{unless_refused, orders_answered, orders_of, seventeen_in, refusal, written, table_after, list_after}
use Rattle.model.specs.Ledger.{fed_of, End, cut_after, taken, change, Ledger, no_pairs, list_in, answer_from, lacking, pairs_of}
use Rattle.model.specs.Ledger.{other_slice, ledger_refusal, feed}
use Rattle.model.specs.Sentinels.{slice_number, refusal_with, written_with, table_with, orders_with, search_with}
use Rattle.model.specs.Demand3.{Fate, whole, cut, State, both, Event, History, refusal_by, written_by, table_by, orders_by, number_of}
use Rattle.model.specs.Demand3.{answered, list_of, event_orders, left_by, after_fate, after_refusal, step}
use Rattle.model.specs.Demand3.{run_from, FateMay, MayFrom, end_of, ledger_from, Agrees, Completed, Carried, Keeps, StayTrue, Right}
use Rattle.model.specs.Demand3.{StandsFrom, Demand3, HoldsFrom, Demand3From}
use Rattle.model.specs.SoundTest.{sound}
use Rattle.model.specs.Search.{search}
use Rattle.model.specs.Reached.{Maps, maps_of}
use Rattle.model.specs.Writes.{Call, insertion, deletion, class_change, repair, stores_of}
use Rattle.model.specs.Sound.{Settled, Sound}
use Rattle.table_laws.proofs.Header.{header-iff}
use Rattle.cut_laws.proofs.Applying.{counts-length, length-apply}
use Rattle.cut_laws.proofs.Cuts.{image-is-stores, image-at-none, image-at-all}
use Rattle.cut_laws.proofs.Lent.{list-read-back, carry-list-number, carry-list-all}
use Rattle.model.specs.Judge.{OldOrNew}
use Rattle.two_laws.proofs.MapsTwo.{Steps, accepted-steps, sound-after}
use Rattle.two_laws.proofs.SearchTwo.{sound-head}
use Rattle.two_laws.proofs.SameTwo.{sound-same, settled-same, settled-sound}
use Rattle.two_laws.proofs.EmptyTwo.{empty-settled, empty-one-maps, empty-two-maps}
use Rattle.two_laws.proofs.LedgerTwo.{searched, number-in-ledger, only-eleven, only-ten}
use Rattle.sentinel_laws.proofs.Slices.{fits, with-accepted, plain-call}
use Rattle.sentinel_laws.proofs.InLedger.{number-plain, with-in-ledger}
use Rattle.sentinel_laws.proofs.Searches.{search-as-plain}
use Rattle.sentinel_laws.proofs.TrueWords.{kept-true}

-- ---- equality of maps is decided

pub Slot-discrete : Discrete Slot
Slot-discrete s u = go (ℕ_discrete s.key u.key) (ℕ_discrete s.pointer u.pointer)
  where
    go : Dec (s.key ≡ u.key) → Dec (s.pointer ≡ u.pointer) → Dec (s ≡ u)
    go (yes a) (yes b) = yes (λ i. record { key = a i; pointer = b i })
    go (no a) b = no (λ e. a (ap (λ (x : Slot). x.key) e))
    go (yes a) (no b) = no (λ e. b (ap (λ (x : Slot). x.pointer) e))

abbrev pub is_yes : {A : Type 0} → Dec A → Bool
is_yes (yes a) = true
is_yes (no k) = false

-- of what is the old or the new one: the test whether it is the new one tells which
pub decided : {A : Type 0} (old new x : A) (d : Dec (x ≡ new)) → (x ≡ old) ⊎ (x ≡ new) → x ≡ cond (is_yes d) new old
decided old new x (yes e) o = e
decided old new x (no k) (inl e) = e
decided old new x (no k) (inr e) = absurd (k e)

Option-discrete : Discrete (Option (List Slot))
Option-discrete none none = yes refl
Option-discrete none (some b) = no (λ e. false≢true (sym (ap lacking e)))
Option-discrete (some a) none = no (λ e. false≢true (ap lacking e))
Option-discrete (some a) (some b) = go (List-discrete Slot-discrete a b)
  where
    go : Dec (a ≡ b) → Dec (some a ≡ some b)
    go (yes q) = yes (ap some q)
    go (no k) = no (λ e. k (ap pairs_of e))

Maps-discrete : Discrete Maps
Maps-discrete m n = go (List-discrete Slot-discrete m.one n.one) (Option-discrete m.two n.two)
  where
    go : Dec (m.one ≡ n.one) → Dec (m.two ≡ n.two) → Dec (m ≡ n)
    go (yes a) (yes b) = yes (λ i. record { one = a i; two = b i })
    go (no a) b = no (λ e. a (ap (λ (x : Maps). x.one) e))
    go (yes a) (no b) = no (λ e. b (ap (λ (x : Maps). x.two) e))

-- ---- what an accepted call answers and leaves

module _ (x : Call) (lent : Words) (dock : ℕ) (t : Words) where
  -- as the plain call, which is accepted
  record AsPlain (o : Option Words) : Type 0 where
    accepted : refusal x (length lent) dock t ≡ 0
    answer : written_by o x (length lent) dock t ≡ written x (length lent) dock t
    table : table_by o x (length lent) dock t ≡ table_after x (length lent) dock t
    list : orders_by o x lent dock t ≡ list_after x lent dock t

  as-plain : (o : Option Words) → refusal_by o x (length lent) dock t ≡ 0 → AsPlain o
  as-plain none ok = record { accepted = ok; answer = refl; table = refl; list = refl }
  as-plain (some ws) ok =
      let a = with-accepted x (length ws) (length lent) dock t ok in
      let p = plain-call x (length ws) lent dock t (fits (seventeen_in x t) (length ws) t a.0).long in
      record { accepted = a.1; answer = p.answer; table = p.table; list = p.list }

  module _ (o : Option Words) (p : AsPlain o) where
    accepted-answer : orders_answered (written_by o x (length lent) dock t) ≡ length (orders_of x dock t)
    unfolding written
    accepted-answer = ap orders_answered p.answer ∙ rw p.accepted (counts-length (orders_of x dock t))

    accepted-table : table_by o x (length lent) dock t ≡ apply (stores_of x t) t
    unfolding table_after
    accepted-table = p.table ∙ rw p.accepted

    accepted-list : orders_by o x lent dock t ≡ list_with (orders_of x dock t) lent
    unfolding list_after
    accepted-list = p.list ∙ rw p.accepted

-- what is refused is left
not-done : {A : Type 0} (n : ℕ) (done left : A) → n ≢ 0 → unless_refused n done left ≡ left
not-done zero done left z = absurd (z refl)
not-done (suc n) done left z = refl

not-with : {A : Type 0} (r n : ℕ) (done left : A) → unless_refused r n r ≢ 0 → unless_refused r (unless_refused n done left) left ≡ left
not-with zero n done left z = not-done n done left z
not-with (suc r) n done left z = refl

-- a call answers its number
pub plain-answered : (x : Call) (words dock : ℕ) (t : Words) → answer_number (written x words dock t) ≡ refusal x words dock t
unfolding written
plain-answered x words dock t =
    let n = refusal x words dock t in
    let os = orders_of x dock t in
    answered-number n 0 (done_with (store_count os) (flush_count os) (barrier_count os)) (refusal-numbered x words dock t) refl ∙ itself n

number-answered : (o : Option Words) (x : Call) (words dock : ℕ) (t : Words) → answer_number (written_by o x words dock t)
    ≡ refusal_by o x words dock t
unfolding written_with refusal_with
number-answered none x words dock t = plain-answered x words dock t
number-answered (some ws) x words dock t =
    let n = slice_number (seventeen_in x t) (length ws) t in
    answered-number n (refusal x words dock t) (written x words dock t) (slice-numbered (seventeen_in x t) (length ws) t)
    (plain-answered x words dock t)

-- a refused call leaves the table and the order list
pub refused-table : (o : Option Words) (x : Call) (words dock : ℕ) (t : Words) → refusal_by o x words dock t ≢ 0
    → table_by o x words dock t ≡ t
unfolding table_after table_with refusal_with
refused-table none x words dock t z = not-done (refusal x words dock t) (apply (stores_of x t) t) t z
refused-table (some ws) x words dock t z =
    not-with (slice_number (seventeen_in x t) (length ws) t) (refusal x words dock t) (apply (stores_of x t) t) t z

refused-list : (o : Option Words) (x : Call) (lent : Words) (dock : ℕ) (t : Words) → refusal_by o x (length lent) dock t ≢ 0
    → orders_by o x lent dock t ≡ lent
unfolding list_after orders_with refusal_with
refused-list none x lent dock t z = not-done (refusal x (length lent) dock t) (list_with (orders_of x dock t) lent) lent z
refused-list (some ws) x lent dock t z =
    not-with (slice_number (seventeen_in x t) (length ws) t) (refusal x (length lent) dock t) (list_with (orders_of x dock t) lent) lent z

-- 10 and 11 are the plain call's
same-plain : (o : Option Words) (x : Call) (words dock : ℕ) (t : Words) (k : ℕ) → k ≢ 2 → k ≢ 17 → k ≢ 19 → refusal_by o x words dock t ≡ k
    → refusal x words dock t ≡ k
same-plain none x words dock t k a b c e = e
same-plain (some ws) x words dock t k a b c e = number-plain x (length ws) words dock t k a b c e

-- the same number as in the ledger
in-ledger : (o : Option Words) (x : Call) (words dock : ℕ) (t : Words) → sound t ≡ true
    → refusal_by o x words dock t ≡ ledger_refusal x (other_slice (nodes t) o) words dock (fed_of (refusal_by o x words dock t)) (maps_of t)
in-ledger none x words dock t s = number-in-ledger x words dock t s
in-ledger (some ws) x words dock t s = with-in-ledger x (length ws) words dock t s

pub unless-refused : {A B : Type 0} (R : A → B → Type 0) (n : ℕ) (new old : A) (new' old' : B) → (n ≡ 0 → R new new') → (n ≢ 0 → R old old')
    → R (unless_refused n new old) (unless_refused n new' old')
unless-refused R zero new old new' old' f h = f refl
unless-refused R (suc n) new old new' old' f h = h (λ e. omega arith)

-- a repair moves nothing in the ledger, so it keeps the map
repair-feeds : (other : Bool) (words dock fed : ℕ) (end : End) (choice : Bool) (ps : Ledger)
    → feed repair other words dock fed end choice ps ≡ ps
unfolding feed
repair-feeds other words dock fed end choice ps = go (ledger_refusal repair other words dock fed ps) (taken end choice)
  where
    go : (n : ℕ) (b : Bool) → unless_refused n (cond b ps ps) ps ≡ ps
    go zero true = refl
    go zero false = refl
    go (suc n) b = refl

-- ---- the choice at a cut: is the image's map the new one

abbrev chosen : Fate → Ledger → Bool
chosen whole new = true
chosen (cut c m) new = is_yes (Maps-discrete (maps_of m) new)

choose : State → History → Bool
choose s [] = false
choose s (e ∷ h) = chosen e.fate (change e.call (maps_of (run_from s h).working))

-- what is kept along a history
record Inv (N : ℕ) (s : State) (ps : Ledger) : Type 0 where
  both : s.memory ≡ s.working
  fine : sound s.working ≡ true
  size : nodes s.working ≡ N
  maps : maps_of s.working ≡ ps

map-kept : (N : ℕ) (x : Call) (s s' : State) (other : Bool) (words dock fed : ℕ) (end : End) (choice : Bool) (ps : Ledger)
    → Inv N s ps → Inv N s' (feed x other words dock fed end choice ps) → Keeps x s s'
map-kept N (insertion n k r c) s s' other words dock fed end choice ps a b = tt
map-kept N (deletion n k) s s' other words dock fed end choice ps a b = tt
map-kept N (class_change n k c) s s' other words dock fed end choice ps a b = tt
map-kept N repair s s' other words dock fed end choice ps a b =
    let q : maps_of s'.working ≡ maps_of s.working = b.maps ∙ repair-feeds other words dock fed end choice ps ∙ sym a.maps in
    (rw (a.both, b.both) q, q)

agrees : (N : ℕ) (s : State) (ps : Ledger) → Inv N s ps → Agrees N s ps
agrees N s ps v =
    record {
      in-memory = λ n k. rw v.both (answer n k);
      in-working = answer;
      with-words = λ n k ws l. (rw v.both (by-words n k ws l), by-words n k ws l);
    }
  where
    answer : (n k : ℕ) → search n s.working k ≡ answer_from k (list_in n ps)
    answer n k = searched n s.working k v.fine ∙ ap (λ (m : Ledger). answer_from k (list_in n m)) v.maps

    by-words : (n k : ℕ) (ws : Words) → length ws ≡ 3 * N → search_with n ws s.working k ≡ answer_from k (list_in n ps)
    by-words n k ws l = search-as-plain n ws s.working k v.fine (l ∙ ap (λ (m : ℕ). 3 * m) (sym v.size)) ∙ answer n k

-- a sound table's nodes go by its length
same-nodes : (t u : Words) → sound t ≡ true → sound u ≡ true → length u ≡ length t → nodes u ≡ nodes t
same-nodes t u s s' e = omega (arith, ((header-iff t).0 (sound-head t s)).size.long, ((header-iff u).0 (sound-head u s')).size.long, e)

-- ---- an accepted call on a sound table, in memory and as the working copy

module _ (s : State) (e : Event) (both : s.memory ≡ s.working) (fine : sound s.working ≡ true) (ok : number_of s e ≡ 0) where
  abbrev x : Call
  x = e.call

  abbrev t : Words
  t = s.working

  abbrev ss : List Store
  ss = stores_of x t

  abbrev old : Ledger
  old = maps_of t

  abbrev new : Ledger
  new = change x (maps_of t)

  -- the orders of the call on its dock
  abbrev dock : ℕ
  dock = e.dock

  abbrev os : List Order
  os = barred e.dock (orders ss)

  plain : AsPlain x e.lent dock t e.slice
  plain = as-plain x e.lent dock t e.slice ok

  steps : Steps x t
  steps = accepted-steps x (length e.lent) dock t fine plain.accepted

  pub answered-all : answered s e ≡ length (orders_of e.call e.dock s.working)
  answered-all = accepted-answer x e.lent dock t e.slice plain

  -- the orders of the lent list, as many as it answered
  pub listed-all : event_orders s e ≡ orders_of e.call e.dock s.working
  listed-all =
      ap (λ (c : ℕ). take c (decode (list_of s e))) answered-all
      ∙ ap (λ (l : Words). take (length os) (decode l)) (accepted-list x e.lent dock t e.slice plain)
      ∙ list-read-back dock ss e.lent t (sound-head t fine) steps.stores-inside

  -- the carry-out of all orders answered, with the lent list as the call left it
  carried-whole : (carry_number (answered s e) (list_of s e) s.memory ≡ 0)
      × (carried_out (answered s e) (list_of s e) s.memory ≡ apply ss t)
  carried-whole =
      let h = sound-head t fine in
      let i = steps.stores-inside in
      rw (answered-all, accepted-list x e.lent dock t e.slice plain, both)
      (carry-list-number dock ss e.lent t h i _ (le_refl _), carry-list-all dock ss e.lent t h i)

  -- an image that a cut may leave
  image : (c : ℕ) (m : Words) → CutImage dock c s.memory (event_orders s e) m → CutImage dock c s.memory os m
  image c m i = rw listed-all at i

  image-part : (c : ℕ) (m : Words) → CutImage dock c s.memory os m → (sound m ≡ true) × OldOrNew x t m
  image-part c m i = let p = image-is-stores dock ss t c m (rw both at i) in rw p.2 (steps.part-sound p.0, steps.part-map p.0)

  image-long : (c : ℕ) (m : Words) → CutImage dock c s.memory os m → length m ≡ length t
  image-long c m i = let p = image-is-stores dock ss t c m (rw both at i) in rw p.2 (length-apply _ t)

  image-all : (c : ℕ) (m : Words) → CutImage dock c s.memory os m → c ≡ length os → m ≡ apply ss t
  image-all c m i q = image-at-all dock ss t (length os) m (le_refl _) (rw (both, q) at i)

  by-length : (c : ℕ) (m : Words) → CutImage dock c s.memory os m
      → maps_of m ≡ cond (taken (cut_after c (eqb c (length os))) (chosen (cut c m) new)) new old
  by-length zero m i = ap maps_of (image-at-none dock ss t m (rw both at i))
  by-length (suc c) m i = go (eqb (suc c) (length os)) refl
    where
      go : (all : Bool) → eqb (suc c) (length os) ≡ all
          → maps_of m ≡ cond (taken (cut_after (suc c) all) (chosen (cut (suc c) m) new)) new old
      go true q = ap maps_of (image-all (suc c) m i (eqb-true _ _ q)) ∙ steps.all-map
      go false q = decided old new (maps_of m) (Maps-discrete (maps_of m) new) (image-part (suc c) m i).1

  image-map : (c : ℕ) (m : Words) → CutImage dock c s.memory os m
      → maps_of m ≡ cond (taken (cut_after c (eqb c (answered s e))) (chosen (cut c m) new)) new old
  image-map c m i = rw answered-all (by-length c m i)

  abbrev left : Words
  left = left_by s e

  left-all : left ≡ apply ss t
  left-all = accepted-table x e.lent dock t e.slice plain

  left-sound : sound left ≡ true
  left-sound = rw left-all (sound-after x (length e.lent) dock t plain.accepted)

  fate-inv : (N : ℕ) → nodes t ≡ N → (f : Fate) → FateMay f s e
      → Inv N (after_fate f s e) (cond (taken (end_of f s e) (chosen f new)) new old)
  fate-inv N size whole p =
      record {
        both = carried-whole.1 ∙ sym left-all;
        fine = left-sound;
        size = same-nodes t left fine left-sound (ap length left-all ∙ length-apply ss t) ∙ size;
        maps = rw left-all steps.all-map;
      }
  fate-inv N size (cut c m) p =
      let i = image c m p.1 in
      let q = (image-part c m i).0 in
      record { both = refl; fine = q; size = same-nodes t m fine q (image-long c m i) ∙ size; maps = image-map c m i }

  -- completed: memory is the working copy that the call left, and so is the working copy after it
  fate-completed : (f : Fate) → FateMay f s e → Completed f s e → ((after_fate f s e).memory ≡ left) × ((after_fate f s e).working ≡ left)
  fate-completed whole p d = (carried-whole.1 ∙ sym left-all, refl)
  fate-completed (cut c m) p d = let q = image-all c m (image c m p.1) (d ∙ answered-all) ∙ sym left-all in (q, q)

  left-settled : Settled left
  left-settled = (settled-same left).0 (rw left-all steps.all-settled)

  fate-carried : (f : Fate) → Carried f s e
  fate-carried whole = carried-whole.0
  fate-carried (cut c m) = tt

-- sentinels that it takes
true-words : (o : Option Words) (x : Call) (words dock : ℕ) (t : Words) → StayTrue o x words dock t
true-words none x words dock t = tt
true-words (some ws) x words dock t = kept-true x ws words dock t

-- ---- one event

module _ (N : ℕ) (s : State) (e : Event) (ps : Ledger) (v : Inv N s ps) (p : number_of s e ≡ 0 → FateMay e.fate s e) where
  abbrev choice : Bool
  choice = chosen e.fate (change e.call (maps_of s.working))

  same-number : number_of s e ≡ ledger_refusal e.call (other_slice N e.slice) (length e.lent) e.dock (fed_of (number_of s e)) ps
  same-number =
      rw (v.maps, v.size) at (in-ledger e.slice e.call (length e.lent) e.dock s.working v.fine)

  abbrev after : Ledger
  after = feed e.call (other_slice N e.slice) (length e.lent) e.dock (fed_of (number_of s e)) (end_of e.fate s e) choice ps

  -- a refused call changes nothing
  stays : number_of s e ≢ 0 → after_refusal s e ≡ s
  stays z = ap (λ (w : Words). record { memory = s.memory; working = w }) (refused-table e.slice e.call (length e.lent) e.dock s.working z)

  step-inv : Inv N (step s e) after
  unfolding step feed
  step-inv = rw (← same-number) (unless-refused (Inv N) (number_of s e) _ (after_refusal s e) _ ps
      (λ ok. rw (← v.maps) (fate-inv s e v.both v.fine ok N v.size e.fate (p ok))) (λ z. rw (stays z) v))

  step-stays : number_of s e ≢ 0 → ((step s e).memory ≡ s.memory) × ((step s e).working ≡ s.working) × (list_of s e ≡ e.lent)
  unfolding step
  step-stays z =
      let q : step s e ≡ s = not-done (number_of s e) (after_fate e.fate s e) (after_refusal s e) z ∙ stays z in
      (ap (λ (u : State). u.memory) q, ap (λ (u : State). u.working) q, refused-list e.slice e.call e.lent e.dock s.working z)

  step-completed : number_of s e ≡ 0 → Completed e.fate s e → ((step s e).memory ≡ left_by s e) × ((step s e).working ≡ left_by s e)
  unfolding step
  step-completed ok d = rw ok (fate-completed s e v.both v.fine ok e.fate (p ok) d)

  step-settled : number_of s e ≡ 0 → Completed e.fate s e → Settled (step s e).memory × Settled (step s e).working
  step-settled ok d = let (a, b) = step-completed ok d in let q = left-settled s e v.both v.fine ok in (rw a q, rw b q)

  step-keeps : Keeps e.call s (step s e)
  step-keeps = map-kept N e.call s (step s e) (other_slice N e.slice) (length e.lent) e.dock _ _ choice ps v step-inv

  plain-number : (k : ℕ) → k ≢ 2 → k ≢ 17 → k ≢ 19 → number_of s e ≡ k → refusal e.call (length e.lent) e.dock s.working ≡ k
  plain-number = same-plain e.slice e.call (length e.lent) e.dock s.working

  step-right : Right N e s (step s e) ps
  step-right = record {
    same-number = same-number;
    answers-it = number-answered e.slice e.call (length e.lent) e.dock s.working;
    ten-only = λ q. only-ten e.call (length e.lent) e.dock s.working v.fine (plain-number 10 (omega arith) (omega arith) (omega arith) q);
    eleven-only = λ q. only-eleven e.call (length e.lent) e.dock s.working v.fine
        (plain-number 11 (omega arith) (omega arith) (omega arith) q);
    carried = λ ok. fate-carried s e v.both v.fine ok e.fate;
    equal = step-completed;
    finished = step-settled;
    unchanged = step-stays;
    repair-keeps = step-keeps;
    stay-true = true-words e.slice e.call (length e.lent) e.dock s.working;
  }

-- ---- all histories

module _ (N : ℕ) (s : State) (ps : Ledger) (v : Inv N s ps) where
  inv : (h : History) → MayFrom s h → Inv N (run_from s h) (ledger_from (choose s) N s ps h)
  unfolding run_from ledger_from MayFrom choose
  inv [] p = v
  inv (e ∷ h) p = step-inv N (run_from s h) e (ledger_from (choose s) N s ps h) (inv h p.0) p.1

  kept : (h : History) → MayFrom s h → StandsFrom (choose s) N s ps h
  unfolding run_from MayFrom
  kept [] p = agrees N _ _ (inv [] p)
  kept (e ∷ h) p = (agrees N _ _ (inv (e ∷ h) p), step-right N (run_from s h) e (ledger_from (choose s) N s ps h) (inv h p.0) p.1)

-- ---- from a sound table

starts : (t : Words) → sound t ≡ true → Inv (nodes t) (both t) (maps_of t)
starts t s = record { both = refl; fine = s; size = refl; maps = refl }

-- For every sound table, whatever histories it came by.
pub demand3-from : Demand3From
demand3-from t q = (choose (both t), kept (nodes t) (both t) (maps_of t) (starts t ((sound-same t).1 q)))

-- along every history memory is the working copy, sound, and its maps are the ledger
pub along : (t : Words) (q : Sound t) (h : History) → MayFrom (both t) h
    → (let u = run_from (both t) h in (u.memory ≡ u.working) × (sound u.working ≡ true)
    × (maps_of u.working ≡ ledger_from (demand3-from t q).0 (nodes t) (both t) (maps_of t) h))
unfolding demand3-from
along t q h p = let v = inv (nodes t) (both t) (maps_of t) (starts t ((sound-same t).1 q)) h p in (v.both, v.fine, v.maps)

-- ---- from the empty table

module _ (n N : ℕ) (kind : (n ≡ 1) ⊎ (n ≡ 2)) (low : n ≤ N) (high : N ≤ 65535) where
  pub empty-maps : (n ≡ 1) ⊎ (n ≡ 2) → maps_of (empty_of n N) ≡ no_pairs n
  empty-maps (inl e) = rw e (empty-one-maps N (omega arith) high)
  empty-maps (inr e) = rw e (empty-two-maps N (omega arith) high)

  pub empty-nodes : (n ≡ 1) ⊎ (n ≡ 2) → nodes (empty_of n N) ≡ N
  unfolding empty_of empty node_start
  empty-nodes (inl e) = rw e
  empty-nodes (inr e) =
      rw e (get_or-set_other (set (empty N) 3 2) (node_start 2) 2 MARK 0 (omega arith) ∙ get_or-set_other (empty N) 3 2 2 0 (omega arith))

  pub empty-sound : Sound (empty_of n N)
  empty-sound = (sound-same (empty_of n N)).0 (settled-sound _ (empty-settled n N kind low high))

-- For one collection or two, every N and every sequence of insertions, deletions, class changes and repairs, whole or cut, each on its
-- dock,
-- with sentinels or without: the empty table is a sound one, and its maps have no pairs.
pub demand3 : Demand3
demand3 n N kind low high =
    let t = empty_of n N in
    let d : HoldsFrom (nodes t) t (maps_of t) = demand3-from t (empty-sound n N kind low high) in
    rw (empty-nodes n N kind low high kind, empty-maps n N kind low high kind) at d
