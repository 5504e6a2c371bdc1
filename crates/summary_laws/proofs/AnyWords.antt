-- A quick insertion on any table with any summary: where it is not refused its stores lie in the table and its orders in a list of 2,560
-- words.
use Rattle.std.proofs.Common.{◌≡◌, ℕ, suc, ◌+◌, ◌-◌, ◌*◌, ◌<◌, ◌≤◌, Bool, true, false, cond, ◌&&◌, ltb, List, [], ◌∷◌, ◌++◌, length, refl}
use Rattle.std.proofs.Common.{◌∙◌, arith, length-drop}
use Rattle.model.specs.Table.{Words, at, nodes, in_range, root_word, node_start, has_node}
use Rattle.model.specs.Slots.{view_of, view_from, height}
use Rattle.model.specs.Search.{path}
use Rattle.model.specs.Orders.{Store, put as store, apply, orders, orders_after}
use Rattle.model.specs.Shifts.{pointer_word}
use Rattle.model.specs.Writes.{shift_in_at, put_all as put_words, node_words, middle, split_words, split, new_root_at, run, root_in_run}
use Rattle.model.specs.Marks.{put}
use Rattle.model.specs.Summary.{free_after, full_node, roomy, can_split, Going, going, split_way, start_way, run_of, way_made, quick_insert}
use Rattle.list_laws.proofs.Tools.{Each-append, and-iff, leb-iff}
use Rattle.table_laws.proofs.Nodes.{has-node-iff}
use Rattle.cut_laws.specs.Inside.{StoresInside}
use Rattle.cut_laws.proofs.Applying.{length-apply}
use Rattle.cut_laws.proofs.FlushRule.{length-orders-append}
use Rattle.tree_laws.proofs.Rows.{range-iff}
use Rattle.tree_laws.proofs.SearchLaw.{path-length}
use Rattle.word_laws.proofs.NewNodes.{length-node-words}
use Rattle.step_laws.proofs.Bounds.{shift-in-few, shift-in-inside}
use Rattle.step_laws.proofs.WholeNode.{put-all-few}
use Rattle.two_laws.proofs.SplitTwo.{length-split}

-- stores to words of a table of so many, with at most b orders
pub record Fits (b len : ℕ) (ss : List Store) : Type 0 where
  pub inside : StoresInside len ss
  pub few : length (orders ss) ≤ b

pub fits-none : (len : ℕ) → Fits 0 len []
unfolding orders
fits-none len = record { inside = tt; few = omega arith }

pub fits-append : (a b len : ℕ) (ss us : List Store) → Fits a len ss → Fits b len us → Fits (a + b) len (ss ++ us)
fits-append a b len ss us f g =
    record {
      inside = Each-append (λ (s : Store). s.word < len) ss us f.inside g.inside;
      few = omega (arith, length-orders-append ss us, f.few, g.few);
    }

pub fits-more : (a b len : ℕ) (ss : List Store) → a ≤ b → Fits a len ss → Fits b len ss
fits-more a b len ss h f = record { inside = f.inside; few = omega (arith, f.few) }

pub fits-one : (len w x : ℕ) → w < len → Fits 2 len (store w x ∷ [])
unfolding orders orders_after
fits-one len w x h = record { inside = (h, tt); few = omega arith }

words-inside : (len w : ℕ) (ws : Words) → w + length ws ≤ len → StoresInside len (put_words w ws)
unfolding put_words
words-inside len w [] h = tt
words-inside len w (x ∷ ws) h = (omega arith, words-inside len (suc w) ws (omega arith))

module _ (N : ℕ) (t : Words) (size : length t ≡ 8 + 32 * N) where
  -- quick_insert says so too: it needs laws of table_laws and of tree_laws, and no crate that both name rests on these two
  pub in-table : (a : ℕ) → in_range N a ≡ true → has_node t a ≡ true
  in-table a r = let u = (range-iff N a).0 r in (has-node-iff t a).1 (u.0, omega (arith, u.0, u.1, size))

  node-fits : (b : ℕ) (ws : Words) → in_range N b ≡ true → length ws ≡ 32 → Fits 36 (length t) (put_words (node_start b) ws)
  unfolding node_start
  node-fits b ws r l = let u =
      (range-iff N b).0 r in record
      { inside = words-inside (length t) (node_start b) ws (omega (arith, u.0, u.1, size, l)); few = put-all-few b ws l }

  pub in-fits : (p k x : ℕ) → roomy N t p ≡ true → Fits 27 (length t) (shift_in_at t p k x)
  unfolding roomy
  in-fits p k x e =
      let u = simp and-iff at e in
      let room = (leb-iff _ _).0 u.1.1 in
      record { inside = shift-in-inside t p k x room (in-table p u.0); few = shift-in-few t p k x room }

  pub split-fits : (a b p : ℕ) → can_split N t a b p ≡ true → Fits 67 (length t) (split t a b p)
  unfolding split full_node node_start
  split-fits a b p e =
      let u = simp and-iff at e in
      let r = (range-iff N a).0 u.0.0 in
      fits-append 36 31 (length t) (put_words (node_start b) (split_words t a)) _ (node-fits b (split_words t a) u.1.0 (length-split t a))
      (fits-append 2 29 (length t) (store (suc (node_start a)) b ∷ []) _
      (fits-one (length t) (suc (node_start a)) b (omega (arith, r.0, r.1, size)))
      (fits-append 2 27 (length t) (store (pointer_word a 5) 0 ∷ []) _
      (fits-one (length t) (pointer_word a 5) 0 (omega (arith, r.0, r.1, size))) (in-fits p (middle t a).key b u.1.1)))

  pub root-fits : (w b : ℕ) → w < 8 → in_range N b ≡ true → Fits 38 (length t) (new_root_at w t b)
  root-fits w b h r =
      fits-append 36 2 (length t)
      (put_words (node_start b) (node_words (at t w) 0 (suc (height (view_from t (at t w)))) 0 [])) (store w b ∷ [])
      (node-fits b _ r (length-node-words (at t w) 0 (suc (height (view_from t (at t w)))) 0 []))
      (fits-one (length t) w b (omega (arith, size)))

-- ---- the way

pub record GoingFits (b len : ℕ) (g : Going) : Type 0 where
  pub stores : Fits b len g.stores
  pub long : length g.table ≡ len

way-fits : (N k : ℕ) (rest : List ℕ) (b len : ℕ) (g : Going) → len ≡ 8 + 32 * N → GoingFits b len g
    → GoingFits (b + 67 * length rest) len (split_way N k rest g)
unfolding split_way
way-fits N k [] b len g size f = record { stores = fits-more b (b + 67 * 0) len g.stores (omega arith) f.stores; long = f.long }
way-fits N k (a ∷ rest) b len g size f = go (can_split N g.table a (free_after N g.marks a) g.under) refl (way-fits N k rest)
  where
    t : Words
    t = g.table

    c : ℕ
    c = free_after N g.marks a

    ss : List Store
    ss = split g.table a (free_after N g.marks a) g.under

    next : Going
    next = going (g.stores ++ ss) (apply ss t) (put g.marks c) (cond (ltb k (middle t a).key) a c)

    go : (e : Bool) → can_split N g.table a (free_after N g.marks a) g.under ≡ e
        → ((b len : ℕ) (g : Going) → len ≡ 8 + 32 * N → GoingFits b len g → GoingFits (b + 67 * length rest) len (split_way N k rest g))
        → GoingFits (b + 67 * suc (length rest)) len (split_way N k (a ∷ rest) g)
    go true e ih =
        let one : Fits 67 len ss = rw f.long at (split-fits N g.table (f.long ∙ size) a c g.under e) in
        let after = ih (b + 67) len next size
        (record { stores = fits-append b 67 len g.stores ss f.stores one; long = length-apply ss t ∙ f.long }) in
        rw (e, split_way) (record { stores = fits-more _ _ len _ (omega arith) after.stores; long = after.long })
    go false e ih = rw (e, split_way)
        (record { stores = fits-more b (b + 67 * suc (length rest)) len g.stores (omega arith) f.stores; long = f.long })

module _ (n : ℕ) (ms t : Words) (k : ℕ) (size : length t ≡ 8 + 32 * nodes t) (low : root_word n < 8)
    (high : height (view_of n t) ≤ 15) where
  start-fits : GoingFits 38 (length t) (start_way n ms t k)
  unfolding start_way apply
  start-fits = go (root_in_run n t k && in_range (nodes t) (free_after (nodes t) ms (at t (root_word n)))) refl
    where
      r : ℕ
      r = free_after (nodes t) ms (at t (root_word n))

      go : (b : Bool) → (root_in_run n t k && in_range (nodes t) (free_after (nodes t) ms (at t (root_word n)))) ≡ b
          → GoingFits 38 (length t) (start_way n ms t k)
      go true e = let u = (and-iff (root_in_run n t k) (in_range (nodes t) r)).0 e in rw e
          (record { stores = root-fits (nodes t) t size (root_word n) r low u.1; long = length-apply (new_root_at (root_word n) t r) t })
      go false e = rw e (record { stores = fits-more 0 38 (length t) [] (omega arith) (fits-none (length t)); long = refl })

  run-few : length (run_of n t k) ≤ 16
  unfolding run_of
  run-few = omega (arith, length-drop (length (path (view_of n t) k) - run n t k) (path (view_of n t) k), path-length (view_of n t) k)

  pub made-fits : GoingFits 1110 (length t) (way_made n ms t k)
  unfolding way_made
  made-fits =
      let f = way-fits (nodes t) k (run_of n t k) 38 (length t) (start_way n ms t k) size start-fits in
      record { stores = fits-more _ 1110 (length t) _ (omega (arith, run-few)) f.stores; long = f.long }

  -- The stores of a quick insertion, whatever the words are.
  pub insert-fits : (x : ℕ) → Fits 1137 (length t) (quick_insert n ms t k x)
  unfolding quick_insert
  insert-fits x =
      let g = way_made n ms t k in
      fits-append 1110 27 (length t) g.stores _ made-fits.stores (go (roomy (nodes t) g.table g.under) refl)
    where
      go : (b : Bool) → roomy (nodes t) (way_made n ms t k).table (way_made n ms t k).under ≡ b
          → Fits 27 (length t)
          (cond (roomy (nodes t) (way_made n ms t k).table (way_made n ms t k).under)
          (shift_in_at (way_made n ms t k).table (way_made n ms t k).under k x) [])
      go true e = rw e (rw made-fits.long at
          (in-fits (nodes t) (way_made n ms t k).table (made-fits.long ∙ size) (way_made n ms t k).under k x e))
      go false e = rw e (fits-more 0 27 (length t) [] (omega arith) (fits-none (length t)))
