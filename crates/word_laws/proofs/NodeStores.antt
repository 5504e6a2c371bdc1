-- All words of a node stored in rising order: the node that they make, and every other node as before.
use Rattle.std.proofs.Common.{◌≡◌, ℕ, suc, ◌+◌, ◌<◌, ◌≤◌, true, [], ◌∷◌, ◌++◌, length, take, drop, set, sym, refl, ap, ◌∙◌, append_assoc}
use Rattle.std.proofs.Common.{add-zero, arith, length-drop, length-take-le}
use lib.Seq.{sets, sets-eq, drop-append-add, drop-append-le, take-append-le}
use Rattle.model.specs.Table.{Words, at, has_node, node_start, node, node_from, spare}
use Rattle.model.specs.Orders.{apply}
use Rattle.model.specs.Writes.{put_all}
use Rattle.list_laws.proofs.Tools.{Each}
use Rattle.list_laws.proofs.Steps.{Along}
use Rattle.table_laws.proofs.Words.{at-part}
use Rattle.table_laws.proofs.Nodes.{has-node-iff, node-in, spare-in}
use Rattle.word_laws.proofs.Stores.{do_store, after-whole}
use Rattle.word_laws.proofs.Outside.{Into, outside-along}
use Rattle.word_laws.proofs.Frames.{Elsewhere, has-node-same}

put-all-into : (a n w : ℕ) (ws : Words) → a ≤ w → w + length ws ≤ a + n → Each (Into a n) (put_all w ws)
unfolding put_all
put-all-into a n w [] h l = tt
put-all-into a n w (x ∷ ws) h l = ((h, omega arith), put-all-into a n (suc w) ws (omega arith) (omega arith))

-- Before and after each store of a node's words every other node is as it was.
pub put-all-along : (t : Words) (b : ℕ) (ws : Words) → length ws ≤ 32 → Along do_store (Elsewhere b t) (put_all (node_start b) ws) t
put-all-along t b ws h =
    outside-along (node_start b) 32 t (put_all (node_start b) ws)
    (put-all-into (node_start b) 32 (node_start b) ws (omega arith) (omega arith))

-- storing at most 32 words from the start of node b on changes no word outside that node
pub put-all-elsewhere : (t : Words) (b : ℕ) (ws : Words) → length ws ≤ 32 → Elsewhere b t (apply (put_all (node_start b) ws) t)
put-all-elsewhere t b ws h = after-whole (Elsewhere b t) (Elsewhere b t) (put_all (node_start b) ws) t (put-all-along t b ws h)

-- ---- the words stored

-- storing words from w on, one after another, sets the words from w on to them
pub put-all-sets : (w : ℕ) (ws t : Words) → apply (put_all w ws) t ≡ sets t w ws
unfolding put_all apply
put-all-sets w [] t = refl
put-all-sets w (x ∷ ws) t = put-all-sets (suc w) ws (set t w x)

module _ (w : ℕ) (ws t : Words) (h : w + length ws ≤ length t) where
  stored-part : (c k : ℕ) → c + k ≤ length ws → take k (drop (w + c) (apply (put_all w ws) t)) ≡ take k (drop c ws)
  stored-part c k l =
      let r = drop (w + length ws) t in
      let e : apply (put_all w ws) t ≡ take w t ++ (ws ++ r) = put-all-sets w ws t ∙ sets-eq ws t w h ∙ append_assoc (take w t) ws r in
      let n : w + c ≡ length (take w t) + c = rw (length-take-le w t (omega arith)) in
      rw (
        e,
        n,
        drop-append-add (take w t) (ws ++ r) c,
        drop-append-le c ws r (omega arith),
        take-append-le k (drop c ws) r (simp length-drop (omega arith)),
      )

  stored-word : (j : ℕ) → j < length ws → at (apply (put_all w ws) t) (w + j) ≡ at ws j
  stored-word j l =
      let read : (u : Words) (a : ℕ) → at (take 1 (drop a u)) 0 ≡ at u a = λ u a. at-part u a 1 0 (omega arith) ∙ ap (at u) (add-zero a) in
      sym (read (apply (put_all w ws) t) (w + j)) ∙ ap (λ (u : Words). at u 0) (stored-part j 1 (omega arith)) ∙ read ws j

-- Node b after all its 32 words are stored is the node of these words.
module _ (t : Words) (b : ℕ) (ws : Words) (h : has_node t b ≡ true) (l : length ws ≡ 32) where
  abbrev stored : Words
  stored = apply (put_all (node_start b) ws) t

  fits : node_start b + length ws ≤ length t
  unfolding node_start
  fits = let u = (has-node-iff t b).0 h in omega arith

  has-stored : has_node stored b ≡ true
  has-stored = has-node-same t stored b (put-all-elsewhere t b ws (omega arith)).long ∙ h

  pub node-stored : node (apply (put_all (node_start b) ws) t) b ≡ node_from ws 0
  unfolding node_from
  node-stored = node-in stored b has-stored ∙ (λ i. record {
    left = (ap (at stored) (sym (add-zero (node_start b))) ∙ word 0 (omega arith)) i;
    sibling = word 1 (omega arith) i;
    level = word 2 (omega arith) i;
    fence = word 3 (omega arith) i;
    slots = stored-part (node_start b) ws t fits 8 24 (omega arith) i;
  })
    where
      word : (j : ℕ) → j < 4 → at stored (node_start b + j) ≡ at ws j
      word j g = stored-word (node_start b) ws t fits j (omega arith)

  pub spare-stored : spare (apply (put_all (node_start b) ws) t) b ≡ take 4 (drop 4 ws)
  spare-stored = spare-in stored b has-stored ∙ stored-part (node_start b) ws t fits 4 4 (omega arith)
