-- The stores of a quick insertion along a way: a new root, the splits of the run, the slot shifted in.
use Rattle.std.proofs.Common.{◌≡◌, ℕ, suc, ◌+◌, ◌-◌, ◌*◌, ◌<◌, ◌≤◌, Bool, true, false, cond, ◌&&◌, eqb, ltb, List, [], ◌∷◌, ◌++◌, length}
use Rattle.std.proofs.Common.{get_or, take, drop, sym, refl, ap, ◌∙◌, append-nil, arith, eqb-true}
use Rattle.std.proofs.lemmas.List.{drop-take}
use Rattle.model.specs.Table.{MARK, Words, at, nodes, in_range, root_word, has_node}
use Rattle.model.specs.Slots.{node_view, view_of, height}
use Rattle.model.specs.Search.{path}
use Rattle.model.specs.Orders.{Store, apply}
use Rattle.model.specs.Writes.{run, root_in_run, standing, new_root_at, split, middle, shift_in_at}
use Rattle.model.specs.Marks.{put}
use Rattle.model.specs.Summary.{roomy, can_split, free_after, Going, going, split_way, start_way, run_of, way_made, quick_insert}
use Rattle.list_laws.proofs.Tools.{and-iff}
use Rattle.cut_laws.proofs.Applying.{apply-append}
use Rattle.table_laws.proofs.Header.{header-iff}
use Rattle.table_laws.proofs.Collections.{by-number}
use Rattle.table_laws.proofs.Nodes.{has-node-iff}
use Rattle.tree_laws.proofs.Rows.{range-iff}
use Rattle.tree_laws.proofs.SearchLaw.{path-length}
use Rattle.orders.specs.declared.Writer.{Writer}
use Rattle.orders.specs.Desk.{of, Makes, Room}
use Rattle.orders.proofs.Rooms.{room-first}
use Rattle.orders.proofs.Rest.{room-as, stored-as, stored-none, makes-size, then-room, then-stored}
use Rattle.write.proofs.Parts.{part-table, part-room, part-stored}
use Rattle.way.specs.declared.Way.{Way}
use Rattle.way.specs.Ways.{Along}
use Rattle.way.proofs.Walking.{along-height, along-low, along-path, along-run, along-on}
use Rattle.quick_insert.proofs.Splitting.{pre, way-pre}
use Rattle.quick_insert.proofs.Testing.{along-size, whole-is}

-- ---- the new root

module _ {n : ℕ} {ms t : Words} {k : ℕ} {w : Way} (a : Along n ms t k w) where
  pub root-in : at t (root_word n) ≤ nodes t
  root-in =
      let f = (header-iff t).0 a.header in
      by-number t (λ (m : ℕ). at t (root_word m) ≤ nodes t) f.root-in (λ s. (f.two s).0) n a.collection

  pub in-table : (b : ℕ) → in_range (nodes t) b ≡ true → has_node t b ≡ true
  in-table b r = let u = (range-iff (nodes t) b).0 r in (has-node-iff t b).1 (u.0, omega (arith, u.0, u.1, along-size a))

  pub root-low : height (view_of n t) < MARK
  root-low = omega (arith, along-low a, along-height a)

  -- what the code answers and leaves
  pub record Starts (f v : Writer) (ms' : Words) (u : ℕ) : Type 0 where
    pub stores : Makes (start_way n ms t k).stores f v
    pub marks : ms' ≡ (start_way n ms t k).marks
    pub under : u ≡ (start_way n ms t k).under

  starts : (g : Going) → start_way n ms t k ≡ g → {f v : Writer} {ms' : Words} {u : ℕ} → Makes g.stores f v → ms' ≡ g.marks → u
      ≡ g.under → Starts f v ms' u
  starts g e {f} {v} q m d =
      record {
        stores = stored-as (ap (λ (g : Going). g.stores) e) q;
        marks = m ∙ sym (ap (λ (g : Going). g.marks) e);
        under = d
            ∙ sym (ap (λ (g : Going). g.under) e);
      }

  module _ {above : ℕ} (ea : above ≡ get_or w.nodes (w.height - w.run) 0) where
    above-is : above ≡ standing n t (run n t k) k
    above-is = along-on a w.run above ea ∙ ap (λ (l : ℕ). standing n t l k) (along-run a)

    -- the run does not include the root
    pub start-none : eqb w.run (suc w.height) ≡ false → {v : Writer} → Starts v v ms above
    unfolding start_way
    start-none e = starts (going [] t ms (standing n t (run n t k) k)) (rw (sym (whole-is a) ∙ e, start_way)) stored-none refl above-is

    -- or no node is fresh
    module _ (whole : eqb w.run (suc w.height) ≡ true) {o r : ℕ} (eo : o ≡ at t (root_word n)) (er : r ≡ free_after (nodes t) ms o) where
      fresh-is : r ≡ free_after (nodes t) ms (at t (root_word n))
      fresh-is = er ∙ ap (free_after (nodes t) ms) eo

      pub start-lost : in_range (nodes t) r ≡ false → {v : Writer} → Starts v v ms above
      unfolding start_way
      start-lost e = starts (going [] t ms (standing n t (run n t k) k)) (rw (sym (whole-is a) ∙ whole, rw fresh-is at e, start_way))
          stored-none refl above-is

      module _ (there : in_range (nodes t) r ≡ true) where
        start-root : start_way n ms t k ≡ going (new_root_at (root_word n) t r) (apply (new_root_at (root_word n) t r) t) (put ms r) r
        unfolding start_way
        start-root = rw (sym (whole-is a) ∙ whole, rw fresh-is at there, start_way) (rw (← fresh-is))

        pub root-room : (v : Writer) → Room (start_way n ms t k).stores (of v) → Room (new_root_at (root_word n) t r) (of v)
        root-room v q = room-as _ _ (of v) (ap (λ (g : Going). g.stores) start-root) q

        pub start-grown : {f v : Writer} {ms' : Words} → Makes (new_root_at (root_word n) t r) f v → ms' ≡ put ms r → Starts f v ms' r
        start-grown q m = starts _ start-root q m refl

-- ---- the parts of the whole

-- the table of a way is what its stores make
way-table : (N k : ℕ) (rest : List ℕ) (t₀ : Words) (g : Going) → g.table ≡ apply g.stores t₀ → (split_way N k rest g).table
    ≡ apply (split_way N k rest g).stores t₀
unfolding split_way
way-table N k [] t₀ g e = e
way-table N k (a ∷ rest) t₀ g e = go (can_split N g.table a (free_after N g.marks a) g.under) refl (way-table N k rest t₀)
  where
    b : ℕ
    b = free_after N g.marks a

    ss : List Store
    ss = split g.table a (free_after N g.marks a) g.under

    go : (c : Bool) → can_split N g.table a (free_after N g.marks a) g.under ≡ c
        → ((g : Going) → g.table ≡ apply g.stores t₀ → (split_way N k rest g).table ≡ apply (split_way N k rest g).stores t₀)
        → (split_way N k (a ∷ rest) g).table ≡ apply (split_way N k (a ∷ rest) g).stores t₀
    go true q ih = rw (q, split_way)
        (ih (going (g.stores ++ ss) (apply ss g.table) (put g.marks b) (cond (ltb k (middle g.table a).key) a b))
        (ap (apply ss) e ∙ sym (apply-append g.stores ss t₀)))
    go false q ih = rw (q, split_way) e

module _ (n : ℕ) (ms t : Words) (k : ℕ) where
  pub start-table : (start_way n ms t k).table ≡ apply (start_way n ms t k).stores t
  unfolding start_way apply
  start-table = go (root_in_run n t k && in_range (nodes t) r)
    where
      r : ℕ
      r = free_after (nodes t) ms (at t (root_word n))

      go : (b : Bool) → let ss = new_root_at (root_word n) t r in let g =
          cond b (going ss (apply ss t) (put ms r) r) (going [] t ms (standing n t (run n t k) k)) in g.table ≡ apply g.stores t
      go true = refl
      go false = refl

  -- after the new root
  abbrev later : Going
  later = let s = start_way n ms t k in split_way (nodes t) k (run_of n t k) (going [] s.table s.marks s.under)

  made-parts : way_made n ms t k ≡ pre (start_way n ms t k).stores later
  unfolding way_made
  made-parts =
      let s = start_way n ms t k in
      ap (λ (zs : List Store). split_way (nodes t) k (run_of n t k) (going zs s.table s.marks s.under)) (sym (append-nil s.stores))
      ∙ way-pre (nodes t) k (run_of n t k) s.stores [] s.table s.marks s.under

  made-table : (way_made n ms t k).table ≡ apply (way_made n ms t k).stores t
  unfolding way_made
  made-table = way-table (nodes t) k (run_of n t k) t (start_way n ms t k) start-table

  -- the last store
  abbrev last : (x : ℕ) → Words → List Store
  last x u = let p = (way_made n ms t k).under in cond (roomy (nodes t) u p) (shift_in_at u p k x) []

  quick-parts : (x : ℕ) → quick_insert n ms t k x ≡ (way_made n ms t k).stores ++ last x (apply (way_made n ms t k).stores t)
  unfolding quick_insert
  quick-parts x = ap (λ (u : Words). (way_made n ms t k).stores ++ last x u) made-table

-- ---- the writer

module _ {n : ℕ} {ms : Words} {k : ℕ} (x : ℕ) {w : Way} (f : Writer) (a : Along n ms f.table.now k w)
    (room : Room (quick_insert n ms f.table.now k x) (of f)) where
  whole-room : Room ((way_made n ms f.table.now k).stores
      ++ last n ms f.table.now k x (apply (way_made n ms f.table.now k).stores f.table.now)) (of f)
  whole-room = room-as _ _ (of f) (quick-parts n ms f.table.now k x) room

  parts-room : Room ((start_way n ms f.table.now k).stores ++ (later n ms f.table.now k).stores) (of f)
  parts-room = room-as _ _ (of f) (ap (λ (g : Going). g.stores) (made-parts n ms f.table.now k)) (room-first _ _ (of f) whole-room)

  pub grow-room : Room (start_way n ms f.table.now k).stores (of f)
  grow-room = room-first _ _ (of f) parts-room

  -- the run, as a part of the way's nodes
  pub run-is : take (w.height + 1 - (w.height + 1 - w.run)) (drop (w.height + 1 - w.run) w.nodes) ≡ run_of n f.table.now k
  unfolding run_of
  run-is =
      let ps = path (view_of n f.table.now) k in
      let i = w.height + 1 - w.run in
      let m = w.height + 1 - (w.height + 1 - w.run) in
      let all : i + m ≡ suc w.height = omega arith in
      let d : i ≡ length ps - run n f.table.now k = omega (arith, along-height a, along-run a, path-length (view_of n f.table.now) k) in
      sym (drop-take i m w.nodes) ∙ ap (λ (l : ℕ). drop i (take l w.nodes)) all ∙ ap (drop i) (along-path a) ∙ ap (λ (j : ℕ). drop j ps) d

  -- the new root is made
  module _ {v : Writer} {ms₁ : Words} {u : ℕ} (q : Makes (start_way n ms f.table.now k).stores f v)
      (em : ms₁ ≡ (start_way n ms f.table.now k).marks) (eu : u ≡ (start_way n ms f.table.now k).under)
      {ns : List ℕ} (en : ns ≡ run_of n f.table.now k) where
    pub grown-size : length v.table.now ≡ 8 + 32 * nodes f.table.now
    grown-size = (makes-size _ q).0 ∙ (along-size a).long

    later-is : split_way (nodes f.table.now) k ns (going [] v.table.now ms₁ u) ≡ later n ms f.table.now k
    later-is =
        let et : v.table.now ≡ (start_way n ms f.table.now k).table =
        part-table (start_way n ms f.table.now k).stores (λ (y : Words). []) q ∙ sym (start-table n ms f.table.now k) in
        rw (et, em, eu, en) refl

    pub run-room : Room (split_way (nodes f.table.now) k ns (going [] v.table.now ms₁ u)).stores (of v)
    run-room = room-as _ _ (of v) (ap (λ (g : Going). g.stores) (sym later-is)) (then-room _ _ q parts-room)

    -- and the splits
    module _ {z : Writer} {ms₂ : Words} {p : ℕ} (h : Makes (split_way (nodes f.table.now) k ns (going [] v.table.now ms₁ u)).stores v z)
        (em₂ : ms₂ ≡ (split_way (nodes f.table.now) k ns (going [] v.table.now ms₁ u)).marks)
        (ep : p ≡ (split_way (nodes f.table.now) k ns (going [] v.table.now ms₁ u)).under) where
      made : Makes (way_made n ms f.table.now k).stores f z
      made = stored-as (ap (λ (g : Going). g.stores) (made-parts n ms f.table.now k))
          (then-stored _ _ q (stored-as (ap (λ (g : Going). g.stores) (sym later-is)) h))

      pub made-marks : ms₂ ≡ (way_made n ms f.table.now k).marks
      made-marks = em₂ ∙ ap (λ (g : Going). g.marks) later-is ∙ sym (ap (λ (g : Going). g.marks) (made-parts n ms f.table.now k))

      taker-is : p ≡ (way_made n ms f.table.now k).under
      taker-is = ep ∙ ap (λ (g : Going). g.under) later-is ∙ sym (ap (λ (g : Going). g.under) (made-parts n ms f.table.now k))

      made-size : length z.table.now ≡ 8 + 32 * nodes f.table.now
      made-size = (makes-size _ made).0 ∙ (along-size a).long

      last-is : (b : Bool) → roomy (nodes f.table.now) z.table.now p ≡ b → last n ms f.table.now k x z.table.now
          ≡ cond b (shift_in_at z.table.now p k x) []
      last-is b e = rw (← taker-is, e)

      -- the last store
      module _ (ok : roomy (nodes f.table.now) z.table.now p ≡ true) where
        pub taker-there : has_node z.table.now p ≡ true
        unfolding roomy
        taker-there = let r =
            (range-iff (nodes f.table.now) p).0 ((and-iff (in_range (nodes f.table.now) p) _).0 ok).0 in (has-node-iff z.table.now p).1
            (r.0, omega (arith, r.0, r.1, made-size))

        pub taker-plain : (node_view z.table.now p).hidden ≡ 0
        unfolding roomy
        taker-plain = let u = simp and-iff at ok in eqb-true _ _ u.1.0

        pub last-room : Room (shift_in_at z.table.now p k x) (of z)
        last-room = room-as _ _ (of z) (last-is true ok)
            (part-room (way_made n ms f.table.now k).stores (last n ms f.table.now k x) made whole-room)

        pub all-made : {y : Writer} → Makes (shift_in_at z.table.now p k x) z y → Makes (quick_insert n ms f.table.now k x) f y
        all-made g = stored-as (quick-parts n ms f.table.now k x)
            (part-stored (way_made n ms f.table.now k).stores (last n ms f.table.now k x) made (stored-as (last-is true ok) g))

      pub none-made : roomy (nodes f.table.now) z.table.now p ≡ false → Makes (quick_insert n ms f.table.now k x) f z
      none-made e = stored-as (quick-parts n ms f.table.now k x)
          (part-stored (way_made n ms f.table.now k).stores (last n ms f.table.now k x) made (stored-as (last-is false e) stored-none))
