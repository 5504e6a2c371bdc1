-- Request 10: a search whose looks fall between the orders of one accepted call, on a table that was settled, answers as before it or as
-- after it.
use Rattle.std.proofs.Common.{◌≡◌, ℕ, suc, Bool, true, false, eqb, ◌⊎◌, List, length, take, sym, refl, ap, ◌∙◌, inl, inr, arith}
use mathlib.Core.Logic.{⊎_map}
use mathlib.Core.Option.{Option, none, some, map}
use lib.Seq.{take-length}
use Rattle.model.specs.declared.Answer.{Answer}
use Rattle.model.specs.declared.Answer.TheVariants.{Refused}
use Rattle.model.specs.Table.{Words, nodes, root_word, header_ok, no_collection}
use Rattle.model.specs.Slots.{Slot, View, view_of}
use Rattle.model.specs.Search.{search}
use Rattle.model.specs.Reached.{Maps, maps_of}
use Rattle.model.specs.SoundTest.{settled, sound}
use Rattle.model.specs.Orders.{Store, Order, apply, carry, store_count}
use Rattle.model.specs.Writes.{Call, insertion, deletion, class_change, repair, stores_of}
use Rattle.model.specs.Refusals.{refusal, orders_of, table_after}
use Rattle.model.specs.Ledger.{on_map, change, list_in, answer_from, lacking}
use Rattle.model.specs.Looks.{search_looks, Forward, during, without_next, Readers}
use Rattle.table_laws.proofs.Header.{header-iff}
use Rattle.tree_laws.proofs.Levels.{Orderly, sound-orderly}
use Rattle.cut_laws.specs.Unflushed.{stores_in}
use Rattle.cut_laws.proofs.Applying.{length-apply, carry-stores, stores_in-take, store_count-take-le}
use Rattle.cut_laws.proofs.Docks.{list-stores}
use Rattle.step_laws.proofs.LevelCourses.{Way}
use Rattle.step_laws.proofs.TreeAt.{tree_at}
use Rattle.two_laws.proofs.AcceptedTwo.{there, Accepted, accepted-iff}
use Rattle.model.specs.Judge.{OldOrNew}
use Rattle.two_laws.proofs.MapsTwo.{Steps, call-steps}
use Rattle.two_laws.proofs.SearchTwo.{sound-head, sound-view}
use Rattle.two_laws.proofs.LedgerTwo.{lacking-same, list-lacking, searched}
use Rattle.two_laws.proofs.SameTwo.{settled-same}
use Rattle.two_laws.proofs.WaysTwo.{call-ways}
use Rattle.reader_laws.proofs.Walk.{Leaves}
use Rattle.reader_laws.proofs.Moments.{Arrives, search-moments}
use Rattle.reader_laws.proofs.Histories.{history-arrives, history-leaves}
use Rattle.reader_laws.proofs.Skips.{skip-arrives, skip-leaves}
use Rattle.reader_laws.proofs.StoresHistory.{stores-history, stores-skip}

-- the stores among the first c orders carried out
carried : (os : List Order) (ss : List Store) (t : Words) → stores_in os ≡ ss → (c : ℕ) → carry (take c os) t
    ≡ apply (take (store_count (take c os)) ss) t
carried os ss t e c =
    carry-stores (take c os) t ∙ ap (λ (x : List Store). apply x t) (stores_in-take c os ∙ ap (take (store_count (take c os))) e)

-- ---- stores of which each first part leaves a sound table with collection n, each level having its way

module _ (n : ℕ) (t : Words) (ss : List Store) (s : (j : ℕ) → sound (apply (take j ss) t) ≡ true)
    (c : (j : ℕ) → no_collection n (apply (take j ss) t) ≡ false)
    (ways : (l : ℕ) → Way (tree_at (root_word n)) l t ss) where
  abbrev w : ℕ → View
  w j = view_of n (apply (take j ss) t)

  o : (j : ℕ) → Orderly (w j)
  o j = let u = apply (take j ss) t in sound-orderly (w j) (sound-view (root_word n) u (s j) (there n u (c j)).1)

  -- N is the same throughout
  same-nodes : (j : ℕ) → nodes (apply (take j ss) t) ≡ nodes (apply (take 0 ss) t)
  same-nodes j =
      let a = ((header-iff (apply (take j ss) t)).0 (sound-head _ (s j))).size.long in
      let b = ((header-iff (apply (take 0 ss) t)).0 (sound-head _ (s 0))).size.long in
      omega (arith, a, b, length-apply (take j ss) t, length-apply (take 0 ss) t)

  abbrev N : ℕ
  N = nodes (apply (take 0 ss) t)

  arrives : (k l : ℕ) → Arrives w N k l
  arrives k l = go (ways l)
    where
      go : Way (tree_at (root_word n)) l t ss → Arrives w N k l
      go (inl a) = history-arrives w N k o same-nodes l (stores-history (tree_at (root_word n)) t ss o l a)
      go (inr b) = skip-arrives w o l (stores-skip (tree_at (root_word n)) t ss o l b) N k same-nodes

  leaves : Leaves w
  leaves = go (ways 0)
    where
      go : Way (tree_at (root_word n)) 0 t ss → Leaves w
      go (inl a) = history-leaves w o (stores-history (tree_at (root_word n)) t ss o 0 a)
      go (inr b) = skip-leaves w o (stores-skip (tree_at (root_word n)) t ss o 0 b)

  module _ (os : List Order) (e : stores_in os ≡ ss) (moment : ℕ → ℕ) (f : Forward moment) where
    abbrev stores : ℕ → ℕ
    stores i = store_count (take (moment i) os)

    -- The answer, but for the neighbour, is even the search of one moment.
    pub readers-moment :
        (k : ℕ) → (y : ℕ) × (without_next (search_looks n (during os t moment) k) ≡ without_next (search n (apply (take y ss) t) k))
    readers-moment k =
        let a = search-moments n (λ (j : ℕ). apply (take j ss) t) N k s c same-nodes (arrives k) leaves stores
        (λ i. store_count-take-le (moment i) (moment (suc i)) os (f i)) in
        (a.0, (λ i. without_next (search_looks n (λ (j : ℕ). carried os ss t e (moment j) i) k)) ∙ a.1)

-- ---- an accepted call

lacking-map : (f : List Slot → List Slot) (m : Option (List Slot)) → lacking (map f m) ≡ lacking m
lacking-map f none = refl
lacking-map f (some ps) = refl

-- a change neither makes a collection nor takes one away
lacking-on : (n m : ℕ) (f : List Slot → List Slot) (x : Maps) → lacking (list_in n (on_map m f x)) ≡ lacking (list_in n x)
unfolding on_map
lacking-on n m f x = go (eqb n 1) (eqb n 2) (eqb m 1) refl refl refl
  where
    go : (a b c : Bool) → eqb n 1 ≡ a → eqb n 2 ≡ b → eqb m 1 ≡ c → lacking (list_in n (on_map m f x)) ≡ lacking (list_in n x)
    go true b c p q r = rw p
    go false true true p q r = rw (p, q, r, on_map)
    go false true false p q r = rw (p, q, r, on_map) (lacking-map f x.two)
    go false false c p q r = rw (p, q)

lacking-change : (n : ℕ) (x : Call) (m : Maps) → lacking (list_in n (change x m)) ≡ lacking (list_in n m)
lacking-change n (insertion j k r c) m = lacking-on n j _ m
lacking-change n (deletion j k) m = lacking-on n j _ m
lacking-change n (class_change j k c) m = lacking-on n j _ m
lacking-change n repair m = refl

module _ (x : Call) (words dock : ℕ) (t : Words) (h : settled t ≡ true) (ok : refusal x words dock t ≡ 0) where
  accepted : Accepted x words dock t
  accepted = (accepted-iff x words dock t).0 ok

  steps : Steps x t
  steps = call-steps x t accepted.sound accepted.collection accepted.allows

  abbrev ss : List Store
  ss = stores_of x t

  abbrev part : ℕ → Words
  part j = apply (take j (stores_of x t)) t

  same-lack : (n j : ℕ) → no_collection n (part j) ≡ no_collection n t
  same-lack n j = lacking-same n (part j) ∙ go (steps.part-map j) ∙ sym (lacking-same n t)
    where
      go : OldOrNew x t (part j) → lacking (list_in n (maps_of (part j))) ≡ lacking (list_in n (maps_of t))
      go (inl e) = ap (λ (m : Maps). lacking (list_in n m)) e
      go (inr e) = ap (λ (m : Maps). lacking (list_in n m)) e ∙ lacking-change n x (maps_of t)

  after : table_after x words dock t ≡ apply ss t
  unfolding table_after
  after = rw ok

  -- the search of each moment answers as before or as after
  part-search : (n k j : ℕ) → (search n (part j) k ≡ search n t k) ⊎ (search n (part j) k ≡ search n (table_after x words dock t) k)
  part-search n k j = go (steps.part-map j)
    where
      go : OldOrNew x t (part j) → (search n (part j) k ≡ search n t k) ⊎ (search n (part j) k ≡ search n (table_after x words dock t) k)
      go (inl e) = inl (searched n (part j) k (steps.part-sound j) ∙ ap (λ (m : Maps). answer_from k (list_in n m)) e
          ∙ sym (searched n t k accepted.sound))
      go (inr e) =
          let whole : sound (apply ss t) ≡ true = rw take-length at (steps.part-sound (length ss)) in
          inr (searched n (part j) k (steps.part-sound j) ∙ ap (λ (m : Maps). answer_from k (list_in n m)) (e ∙ sym steps.all-map)
          ∙ sym (searched n (apply ss t) k whole) ∙ ap (λ (u : Words). search n u k) (sym after))

  abbrev os : List Order
  os = orders_of x dock t

  -- ---- a collection that is not there

  looks-lack : (n : ℕ) (when : ℕ → Words) (k : ℕ) → header_ok (when 0) ≡ true → no_collection n (when 0) ≡ true
      → search_looks n when k ≡ Refused 17
  unfolding search_looks
  looks-lack n when k e q = rw (e, q, search_looks)

  lack-answers : (n k : ℕ) (moment : ℕ → ℕ) → no_collection n t ≡ true → search_looks n (during os t moment) k ≡ search n t k
  lack-answers n k moment q =
      let j = store_count (take (moment 0) os) in
      let e : carry (take (moment 0) os) t ≡ part j = carried os ss t (list-stores dock ss) (moment 0) in
      looks-lack n (during os t moment) k (ap header_ok e ∙ sound-head (part j) (steps.part-sound j))
      (ap (no_collection n) e ∙ same-lack n j ∙ q)
      ∙ sym (searched n t k accepted.sound ∙ ap (answer_from k) (list-lacking n t q))

  -- ---- any collection

  abbrev BeforeOrAfter : (n k : ℕ) → Answer → Type 0
  BeforeOrAfter n k answer = (answer ≡ without_next (search n t k)) ⊎ (answer ≡ without_next (search n (table_after x words dock t) k))

  call-readers : (n k : ℕ) (moment : ℕ → ℕ) → Forward moment
      → BeforeOrAfter n k (without_next (search_looks n (during (orders_of x dock t) t moment) k))
  call-readers n k moment f = go (no_collection n t) refl
    where
      at-moment : (y : ℕ) × (without_next (search_looks n (during os t moment) k) ≡ without_next (search n (part y) k))
          → BeforeOrAfter n k (without_next (search_looks n (during os t moment) k))
      at-moment (y, e) = ⊎_map (λ q. e ∙ ap without_next q) (λ q. e ∙ ap without_next q) (part-search n k y)

      go : (b : Bool) → no_collection n t ≡ b → BeforeOrAfter n k (without_next (search_looks n (during os t moment) k))
      go true q = inl (ap without_next (lack-answers n k moment q))
      go false q =
          at-moment (readers-moment n t ss steps.part-sound (λ j. same-lack n j ∙ q)
          (call-ways t h x accepted.collection accepted.allows (root_word n) (there n t q).1) os (list-stores dock ss) moment f k)

-- Request 10.
pub readers : Readers
readers x words dock t h ok n k moment f = call-readers x words dock t ((settled-same t).1 h) ok n k moment f
