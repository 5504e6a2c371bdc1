-- The way of a quick call, by the tests in the order of the code.
use Rattle.std.proofs.Common.{◌≡◌, ℕ, zero, suc, ◌+◌, ◌-◌, ◌<◌, ◌≤◌, Bool, true, false, cond, ◌&&◌, eqb, leb, List, [], ◌∷◌, ◌++◌, length}
use Rattle.std.proofs.Common.{get_or, take, set, replicate, sym, refl, ap, ◌∙◌, append_assoc, add-one, arith, length-set, get_or-take}
use Rattle.std.proofs.Common.{take-suc-set, eq-eqb, ne_eqb, eqb-true, le-leb, leb-true}
use mathlib.Core.Bool.{and-false}
use Rattle.std.specs.Prelude.{Option, Some, None}
use Rattle.std.specs.Bool.{then_some}
use borrow.Author.Tests.{eqb-false, lt-leb}
use Rattle.model.specs.declared.Node.{Node}
use Rattle.model.specs.Table.{Words, in_range, node, nodes}
use Rattle.model.specs.Slots.{View, node_view, view_from, view_of, view, height, used, shown, full}
use Rattle.model.specs.Search.{below, moved, down, on_level, passes, locate, path_from, path}
use Rattle.model.specs.SoundTest.{all}
use Rattle.model.specs.Writes.{run_in, run, standing_in, standing}
use Rattle.list_laws.proofs.Tools.{and-iff}
use Rattle.slot_laws.proofs.Hiding.{shown-and-hidden}
use Rattle.slots.specs.Scan.{shown_from, in_use_of}
use Rattle.search.specs.Descent.{seen_of, seen_in, stand_on}
use Rattle.search.specs.declared.Stood.{Stood}
use Rattle.search.proofs.Standing.{stand-none, stand-some, on-moved}
use Rattle.node.specs.Word.{word_of}
use Rattle.node.proofs.WordLaws.{word-level}
use Rattle.reach.specs.Runs.{run_from, run_after as after}
use Rattle.reach.proofs.Running.{run-end, run-in, run-lower, run-last}
use Rattle.model.specs.Marks.{has}
use Rattle.model.specs.Summary.{fit_node, is_there, way_ok}
use Rattle.way.specs.declared.Step.{Step}
use Rattle.way.specs.declared.Way.{Way}
use Rattle.way.specs.Ways.{plain_count, shown_fit, step_to, step_ok, step_of, run_after, ok_from, Walked, Along}

-- ---- a fit node, from the record that the code has read: x is node m

module _ (t : Words) (m : ℕ) (x : Node) (q : x ≡ node t m) (count s : ℕ) (c : count ≡ length (in_use_of x.slots))
    (e : s ≡ length (shown_from x.left x.slots 0)) where
  shows : s ≡ length (node_view t m).shown
  unfolding used
  shows = e ∙ ap (λ (y : Node). length (shown_from y.left y.slots 0)) q

  both : s + (node_view t m).hidden ≡ count
  unfolding used in_use_of
  both =
      let w = shown-and-hidden (node t m).left (used t m) in
      let u : count ≡ length (used t m) = c ∙ ap (λ (y : Node). length (in_use_of y.slots)) q in
      omega (arith, w, u, shows)

  module _ (r : Option ℕ) (f : r ≡ then_some (eqb count s) s) where
    pub plain-is : r ≡ plain_count (node_view t m)
    unfolding plain_count
    plain-is = f ∙ go (eqb (node_view t m).hidden 0) refl
      where
        go : (b : Bool) → eqb (node_view t m).hidden 0 ≡ b → then_some (eqb count s) s ≡ cond b (Some (length (node_view t m).shown)) None
        go true z = let h = eq-eqb count s (omega (arith, both, eqb-true _ _ z)) in rw h (ap Some shows)
        go false z = let n = eqb-false _ _ z in let h = ne_eqb count s (λ w. n (omega (arith, both, w))) in rw h

    pub plain-few : count ≤ 12 → (n : ℕ) → r ≡ Some n → n ≤ 12
    plain-few h n d = go (eqb count s) refl (sym f ∙ d)
      where
        go : (b : Bool) → eqb count s ≡ b → then_some b s ≡ Some n → n ≤ 12
        go true z w = let u : s ≡ n = cc in omega (arith, u, h, eqb-true _ _ z)
        go false z w = cc

-- of a marked node
module _ (ms : Words) (v : View) (m : ℕ) where
  pub fit-off : has ms m ≡ false → None ≡ shown_fit ms v m
  unfolding shown_fit fit_node
  fit-off e = rw e

  pub fit-hides : has ms m ≡ true → plain_count (v.node m) ≡ None → None ≡ shown_fit ms v m
  unfolding shown_fit fit_node plain_count
  fit-hides g e = go (eqb (v.node m).hidden 0) refl e
    where
      go : (b : Bool) → eqb (v.node m).hidden 0 ≡ b → cond b (Some (length (v.node m).shown)) None ≡ None
          → None ≡ cond (has ms m && (eqb (v.node m).hidden 0 && leb (length (v.node m).shown) 11)) (Some (length (v.node m).shown)) None
      go true z w = cc
      go false z w = rw (g, z)

  pub fit-shown : (s : ℕ) (r : Option ℕ) → has ms m ≡ true → plain_count (v.node m) ≡ Some s → r
      ≡ then_some (leb s 11) s → r ≡ shown_fit ms v m
  unfolding shown_fit fit_node plain_count
  fit-shown s r g e f = f ∙ go (eqb (v.node m).hidden 0) refl e
    where
      pick : (b : Bool) (n : ℕ) → then_some b n ≡ cond b (Some n) None
      pick true n = refl
      pick false n = refl

      go : (b : Bool) → eqb (v.node m).hidden 0 ≡ b → cond b (Some (length (v.node m).shown)) None ≡ Some s
          → then_some (leb s 11) s
          ≡ cond (has ms m && (eqb (v.node m).hidden 0 && leb (length (v.node m).shown) 11)) (Some (length (v.node m).shown)) None
      go true z w = let u : (length (v.node m).shown) ≡ s = cc in rw (g, z, u) (pick (leb s 11) s)
      go false z w = cc

-- ---- one level: coming to n, the search stands on m

module _ (ms : Words) (v : View) (l n k : ℕ) where
  step-off : (passes v l n && fit_node ms v (moved v n k)) ≡ false → None ≡ step_of ms v l n k
  unfolding step_of step_ok
  step-off e = rw e

  pub step-lost : seen_in v k (stand_on v l n k) ≡ None → None ≡ step_of ms v l n k
  step-lost e = step-off (ap (λ (b : Bool). b && fit_node ms v (moved v n k)) (stand-none v l n k e))

  step-on : passes v l n ≡ true → fit_node ms v (moved v n k) ≡ true → Some (step_to v k (moved v n k)) ≡ step_of ms v l n k
  unfolding step_of step_ok
  step-on e f = rw (e, f)

  -- s is what the search sees there
  module _ (s : Stood) (e : seen_in v k (stand_on v l n k) ≡ Some s) where
    stood : (passes v l n ≡ true) × (s ≡ seen_of v k (moved v n k))
    stood = stand-some v l n k s e

    on : s.node ≡ moved v n k
    on = ap (λ (x : Stood). x.node) stood.1

    -- it stands on a node of the table
    pub stood-few : s.node ≤ v.nodes
    unfolding on_level in_range
    stood-few =
        let o = on-moved v l n k stood.0 in
        let r = ((and-iff (in_range v.nodes (moved v n k)) (eqb (v.node (moved v n k)).level l)).0 o).0 in
        rw on (leb-true _ _ ((and-iff (leb 1 (moved v n k)) (leb (moved v n k) v.nodes)).0 r).1)

    pub step-unfit : shown_fit ms v s.node ≡ None → None ≡ step_of ms v l n k
    unfolding shown_fit
    step-unfit f = go (fit_node ms v (moved v n k)) refl (sym (ap (shown_fit ms v) on) ∙ f)
      where
        go : (b : Bool) → fit_node ms v (moved v n k) ≡ b → cond b (Some (length (v.node (moved v n k)).shown)) None ≡ None
            → None ≡ step_of ms v l n k
        go true g w = cc
        go false g w = step-off (ap (λ (b : Bool). passes v l n && b) g ∙ and-false (passes v l n))

    pub step-fit : (c : ℕ) → shown_fit ms v s.node ≡ Some c → Some (record { node = s.node; way = s.way; shown = c }) ≡ step_of ms v l n k
    unfolding shown_fit
    step-fit c f = go (fit_node ms v (moved v n k)) refl (sym (ap (shown_fit ms v) on) ∙ f)
      where
        go : (b : Bool) → fit_node ms v (moved v n k) ≡ b → cond b (Some (length (v.node (moved v n k)).shown)) None ≡ Some c
            → Some (record { node = s.node; way = s.way; shown = c }) ≡ step_of ms v l n k
        go true g w =
            let u : length (v.node (moved v n k)).shown ≡ c = cc in
            ap (λ (x : Stood). Some (record { node = x.node; way = x.way; shown = c })) stood.1
            ∙ ap (λ (x : ℕ). Some (record { node = moved v n k; way = down v (moved v n k) k; shown = x })) (sym u) ∙ step-on stood.0 g
        go false g w = cc

-- ---- from one level to the next

abbrev pub full_at : View → ℕ → Bool
full_at v m = full (v.node m).shown

module _ (ms : Words) (v : View) (n k : ℕ) where
  pub ok-leaf : ok_from ms v 0 n k ≡ step_ok ms v 0 n k
  unfolding locate path_from step_ok all
  ok-leaf = go (passes v 0 n) refl (fit_node ms v (moved v n k)) refl
    where
      go : (a : Bool) → passes v 0 n ≡ a → (b : Bool) → fit_node ms v (moved v n k) ≡ b → ok_from ms v 0 n k
          ≡ (passes v 0 n && fit_node ms v (moved v n k))
      go true p true q = rw (p, q, locate)
      go true p false q = rw (p, q, locate)
      go false p b q = rw (p, locate)

  pub ok-down : (l : ℕ) → ok_from ms v (suc l) n k ≡ (step_ok ms v (suc l) n k && ok_from ms v l (down v (moved v n k) k) k)
  unfolding locate path_from step_ok all
  ok-down l = go (passes v (suc l) n) refl (fit_node ms v (moved v n k)) refl
    where
      go : (a : Bool) → passes v (suc l) n ≡ a → (b : Bool) → fit_node ms v (moved v n k) ≡ b
          → ok_from ms v (suc l) n k ≡ ((passes v (suc l) n && fit_node ms v (moved v n k)) && ok_from ms v l (down v (moved v n k) k) k)
      go true p true q = rw (p, q, locate)
      go true p false q = rw (p, q, locate) (and-false (is_there (locate v l (down v (moved v n k) k) k)))
      go false p b q = rw (p, locate)

-- ---- the loop: so far i nodes were stood on; from n on level level the rest of the way leads to the same leaf

pub record Walking (ms t : Words) (root k top level run i n : ℕ) (ns : Words) : Type 0 where
  pub low : top ≤ 15
  pub sum : i + level ≡ top
  pub short : run + level ≤ top
  pub long : length ns ≡ 16
  pub top-is : top ≡ height (view_from t root)
  pub tests : ok_from ms (view_from t root) level n k ≡ way_ok ms (view_from t root) k
  pub stands : take i ns ++ path_from (view_from t root) level n k ≡ path (view_from t root) k
  pub run-on : run_from (full_at (view_from t root)) run (path_from (view_from t root) level n k)
      ≡ run_in (view_from t root) (path (view_from t root) k)

module _ (ms t : Words) (root k top : ℕ) (e : top ≡ word_of t root 2) where
  high : top ≡ height (view_from t root)
  high = e ∙ word-level t root

  pub lost-high : 15 < top → Walked ms (view_from t root) k None
  unfolding way_ok
  lost-high h = let w = lt-leb (height (view_from t root)) 15 (omega (arith, high)) in
      record { tests = rw w; goes = λ y q. cc }

  pub walking-start : top ≤ 15 → Walking ms t root k top top 0 0 root (replicate 16 0)
  unfolding way_ok
  walking-start h =
      let v = view_from t root in
      let w = le-leb (height v) 15 (omega (arith, high)) in
      record {
        low = h;
        sum = omega arith;
        short = omega arith;
        long = refl;
        top-is = high;
        tests = rw (w, high);
        stands = ap (λ (l : ℕ). path_from v l root k) high;
        run-on = ap (λ (l : ℕ). run_from (full_at v) 0 (path_from v l root k)) high ∙ run-end (full_at v) (path v k)
            ∙ sym (run-in v (path v k));
      }

module _ (ms : Words) (v : View) (n k : ℕ) where
  ok-lower : (l : ℕ) → 0 < l → ok_from ms v l n k ≡ (step_ok ms v l n k && ok_from ms v (l - 1) (down v (moved v n k) k) k)
  ok-lower zero h = absurd (omega arith)
  ok-lower (suc l) h = let o : suc l - 1 ≡ l = omega arith in rw o (ok-down ms v n k l)

  path-lower : (l : ℕ) → 0 < l → path_from v l n k ≡ moved v n k ∷ path_from v (l - 1) (down v (moved v n k) k) k
  unfolding path_from
  path-lower zero h = absurd (omega arith)
  path-lower (suc l) h = let o : suc l - 1 ≡ l = omega arith in rw o

  path-leaf : (l : ℕ) → l ≡ 0 → path_from v l n k ≡ moved v n k ∷ []
  unfolding path_from
  path-leaf l e = rw e

  -- a test that fails on a level fails on the way
  ok-not : (l : ℕ) → step_ok ms v l n k ≡ false → ok_from ms v l n k ≡ false
  ok-not zero e = ok-leaf ms v n k ∙ e
  ok-not (suc l) e = ok-down ms v n k l ∙ ap (λ (b : Bool). b && ok_from ms v l (down v (moved v n k) k) k) e

  step-none : (l : ℕ) → step_of ms v l n k ≡ None → step_ok ms v l n k ≡ false
  unfolding step_of
  step-none l e = go (step_ok ms v l n k) refl
    where
      go : (b : Bool) → step_ok ms v l n k ≡ b → step_ok ms v l n k ≡ false
      go true f = let z : Some (step_to v k (moved v n k)) ≡ None = rw f at e in cc
      go false f = f

  step-some : (l : ℕ) (s : Step) → step_of ms v l n k ≡ Some s → (step_ok ms v l n k ≡ true) × (s ≡ step_to v k (moved v n k))
  unfolding step_of
  step-some l s e = go (step_ok ms v l n k) refl
    where
      go : (b : Bool) → step_ok ms v l n k ≡ b → (step_ok ms v l n k ≡ true) × (s ≡ step_to v k (moved v n k))
      go true f = let z : Some (step_to v k (moved v n k)) ≡ Some s = rw f at e in (f, cc)
      go false f = let z : None ≡ Some s = rw f at e in cc

after-short : (run shown : ℕ) → run_after run shown ≤ run + 1
after-short run shown = go (eqb shown 11)
  where
    go : (b : Bool) → cond b (run + 1) 0 ≤ run + 1
    go true = omega arith
    go false = omega arith

-- ---- a turn: r is the step at n

module _ (ms t : Words) (root k top level run i n : ℕ) (ns : Words) (w : Walking ms t root k top level run i n ns) (r : Option Step)
    (e : r ≡ step_of ms (view t) level n k) where
  step-is : r ≡ step_of ms (view_from t root) level n k
  unfolding step_of step_ok passes on_level fit_node moved below
  step-is = e

  pub lost-step : r ≡ None → Walked ms (view_from t root) k None
  lost-step z =
      let f = ok-not ms (view_from t root) n k level (step-none ms (view_from t root) n k level (sym step-is ∙ z)) in
      record { tests = sym (sym w.tests ∙ f); goes = λ y q. cc }

  module _ (s : Step) (z : r ≡ Some s) where
    here : (step_ok ms (view_from t root) level n k ≡ true) × (s ≡ step_to (view_from t root) k (moved (view_from t root) n k))
    here = step-some ms (view_from t root) n k level s (sym step-is ∙ z)

    stands-on : s.node ≡ moved (view_from t root) n k
    stands-on = ap (λ (x : Step). x.node) here.1

    counted : run_after run s.shown ≡ after (full_at (view_from t root)) run s.node
    unfolding full
    counted = ap (λ (x : Step). run_after run x.shown) here.1 ∙ ap (after (full_at (view_from t root)) run) (sym stands-on)

    -- the nodes stood on, one more
    one-more : take (suc i) (set ns i s.node) ≡ take i ns ++ (moved (view_from t root) n k ∷ [])
    one-more = take-suc-set ns i s.node (omega (arith, w.sum, w.low, w.long)) ∙ ap (λ (x : ℕ). take i ns ++ (x ∷ [])) stands-on

    lower-turn : (level ≡ 0 → ⊥) → Walking ms t root k top (level - 1) (run_after run s.shown) (i + 1) s.way (set ns i s.node)
    lower-turn h =
        let v = view_from t root in
        let m = moved v n k in
        let p : 0 < level = omega (arith, h) in
        let q : s.way ≡ down v m k = ap (λ (x : Step). x.way) here.1 in
        record {
          low = w.low;
          sum = omega (arith, w.sum, p);
          short = omega (arith, w.short, after-short run s.shown, p);
          long = length-set ns i s.node ∙ w.long;
          top-is = w.top-is;
          tests = ap (λ (x : ℕ). ok_from ms v (level - 1) x k) q
              ∙ sym (ok-lower ms v n k level p ∙ ap (λ (b : Bool). b && ok_from ms v (level - 1) (down v m k) k) here.0) ∙ w.tests;
          stands = rw (add-one i, one-more, q)
              (append_assoc (take i ns) (m ∷ []) (path_from v (level - 1) (down v m k) k)
              ∙ ap (λ (x : List ℕ). take i ns ++ x) (sym (path-lower ms v n k level p)) ∙ w.stands);
          run-on = run-lower (full_at v) v n k s.node run _ stands-on counted level _ p
              (q ∙ ap (λ (x : ℕ). down v x k) (sym stands-on)) ∙ w.run-on;
        }

    pub walking-next : (level ≡ 0 → ⊥) → (lower : ℕ) → lower ≡ level - 1
        → Walking ms t root k top lower (run_after run s.shown) (i + 1) s.way (set ns i s.node)
    walking-next h lower d = rw d (lower-turn h)

    pub walked-end : level ≡ 0
        → Walked ms (view_from t root) k (Some (record { height = top; run = run_after run s.shown; nodes = set ns i s.node }))
    walked-end h =
        let v = view_from t root in
        let at-end : height v ≡ i = omega (arith, w.top-is, w.sum, h) in
        record {
          tests = sym (sym w.tests ∙ ap (λ (l : ℕ). ok_from ms v l n k) h ∙ ok-leaf ms v n k
              ∙ ap (λ (l : ℕ). step_ok ms v l n k) (sym h) ∙ here.0);
          goes = λ y q. let same :
              y ≡ record { height = top; run = run_after run s.shown; nodes = set ns i s.node } = cc in rw same (record {
                top = w.top-is;
                stands = ap (λ (l : ℕ). take (suc l) (set ns i s.node)) at-end ∙ one-more
                    ∙ ap (λ (x : List ℕ). take i ns ++ x) (sym (path-leaf ms v n k level h)) ∙ w.stands;
                full = run-last (full_at v) v n k s.node run _ stands-on counted level (omega (arith, h)) ∙ w.run-on;
              });
        }

-- ---- a way along which every test passed

module _ {n : ℕ} {ms t : Words} {k : ℕ} {w : Way} (a : Along n ms t k w) where
  -- a way that was walked passes the tests on the way to k
  pub along-ok : way_ok ms (view_of n t) k ≡ true
  along-ok = sym a.walked.tests

  -- a way that was walked has the height of the tree
  pub along-height : w.height ≡ height (view_of n t)
  along-height = (a.walked.goes w refl).top

  -- a way that was walked has a height of at most 15
  pub along-low : w.height ≤ 15
  unfolding way_ok
  along-low = omega (arith, along-height, leb-true (height (view_of n t)) 15 ((and-iff (leb (height (view_of n t)) 15) _).0 along-ok).0)

  -- the nodes of a way that was walked are the path to k
  pub along-path : take (suc w.height) w.nodes ≡ path (view_of n t) k
  along-path = ap (λ (l : ℕ). take (suc l) w.nodes) along-height ∙ (a.walked.goes w refl).stands

  -- the run of a way that was walked is the run for k
  pub along-run : w.run ≡ run n t k
  along-run = (a.walked.goes w refl).full

  -- the node of the way on level l is the one that the search for k stands on there
  pub along-on : (l x : ℕ) → x ≡ get_or w.nodes (w.height - l) 0 → x ≡ standing n t l k
  unfolding standing_in
  along-on l x e =
      e ∙ sym (get_or-take (suc w.height) w.nodes (w.height - l) 0 (omega arith))
      ∙ ap (λ (ns : List ℕ). get_or ns (w.height - l) 0) along-path
      ∙ ap (λ (h : ℕ). get_or (path (view_of n t) k) (h - l) 0) along-height
