-- All 32 words of a free node stored in rising order: every store leaves a settled table with the same map and the same nodes reached.
use Rattle.std.proofs.Common.{◌≡◌, ℕ, suc, ◌+◌, ◌*◌, ◌≤◌, List, [], ◌∷◌, length, refl, ap, arith}
use Rattle.model.specs.Table.{Words, line, node_start}
use Rattle.model.specs.Slots.{Slot, NodeView, node_view}
use Rattle.model.specs.Reached.{reached}
use Rattle.model.specs.SoundTest.{nothing}
use Rattle.model.specs.Orders.{Store, put, apply, orders}
use Rattle.model.specs.Writes.{put_all, node_words}
use Rattle.list_laws.proofs.Tools.{Each}
use Rattle.view_laws.proofs.NodeViews.{ButAt, new_node}
use Rattle.list_laws.proofs.Steps.{until-map}
use Rattle.table_laws.proofs.Nodes.{has-node-iff}
use Rattle.slot_laws.proofs.Hiding.{AllShown}
use Rattle.word_laws.proofs.Stores.{do_store}
use Rattle.word_laws.proofs.Frames.{SameHeader, same-nodes, Elsewhere, else-header, view-else}
use Rattle.word_laws.proofs.NodeStores.{put-all-along, put-all-elsewhere}
use Rattle.word_laws.proofs.NewNodes.{length-node-words, new-node}
use Rattle.cut_laws.specs.Growing.{line_changes}
use Rattle.cut_laws.proofs.FlushRule.{orders-length, orders-flush_count, Rising, rising-changes}
use Rattle.cut_laws.specs.Inside.{StoresInside}
use Rattle.change_laws.proofs.Unreached.{unreached-keeps}
use Rattle.step_laws.proofs.Stages.{SoundWith, Stage, stage-until}
use Rattle.step_laws.proofs.Views.{view-fine}
use Rattle.step_laws.proofs.Fresh.{Free, free-some, free-there}
use Rattle.step_laws.proofs.TreeAt.{tree_at, Fine, map_at, same-word}

-- ---- orders

put-all-inside : (n w : ℕ) (ws : Words) → w + length ws ≤ n → StoresInside n (put_all w ws)
unfolding put_all
put-all-inside n w [] h = tt
put-all-inside n w (x ∷ ws) h = (omega arith, put-all-inside n (suc w) ws (omega arith))

put-all-rises : (l w : ℕ) (ws : Words) → l ≤ line w → Rising l (put_all w ws)
unfolding put_all
put-all-rises l w [] h = tt
put-all-rises l w (x ∷ ws) h = (h, put-all-rises (line w) (suc w) ws (omega arith))

put-all-below : (h w : ℕ) (ws : Words) → w + length ws ≤ 8 * suc h → Each (λ (s : Store). line s.word ≤ h) (put_all w ws)
unfolding put_all
put-all-below h w [] e = tt
put-all-below h w (x ∷ ws) e = (omega arith, put-all-below h (suc w) ws (omega arith))

-- storing words takes one store for each
pub put-all-length : (w : ℕ) (ws : Words) → length (put_all w ws) ≡ length ws
unfolding put_all
put-all-length w [] = refl
put-all-length w (x ∷ ws) = ap suc (put-all-length (suc w) ws)

-- a node's 32 words lie on four lines
pub put-all-few : (b : ℕ) (ws : Words) → length ws ≡ 32 → length (orders (put_all (node_start b) ws)) ≤ 36
put-all-few b [] e = absurd (omega arith)
put-all-few b (x ∷ ws) e =
    let w = node_start b in
    let rest = put_all (suc w) ws in
    let c = rising-changes (line w) (line w + 3) rest (omega arith) (put-all-rises (line w) (suc w) ws (omega arith))
    (put-all-below (line w + 3) (suc w) ws (unfold node_start in omega arith)) in
    let n = put-all-length w (x ∷ ws) in
    let f = orders-flush_count (put w x) rest in
    unfold put_all line_changes in omega (arith, orders-length (put w x ∷ rest), n, f, c)

module _ (w : ℕ) (ns : List ℕ) where
  -- ---- the view

  -- t' is t but that the free node b is n
  pub record Stays (t : Words) (b : ℕ) (n : NodeView) (t' : Words) : Type 0 where
    pub fine : Fine w ns t' nothing
    pub mapping : map_at w t' ≡ map_at w t
    pub reached : reached (tree_at w t') ≡ reached (tree_at w t)
    pub header : SameHeader t t'
    pub node : ButAt (node_view t) (node_view t') b n

  -- Whatever a free node holds, the table is settled, with the same map and the same nodes reached.
  pub free-stays : (t : Words) (b : ℕ) → Fine w ns t nothing → Free w ns t b → (t' : Words) → Elsewhere b t t'
      → Stays t b (node_view t' b) t'
  free-stays t b s f t' o =
      let h = else-header t t' b o in
      let e = view-else t t' b o ((has-node-iff t b).0 (free-there w ns t b s f)).0 in
      let k = unreached-keeps (tree_at w t) (tree_at w t') b (same-nodes h) (same-word w s.low h) e nothing s.left
      (free-some w ns t b f) f.unreached in
      record {
        fine = view-fine w ns t t' (tree_at w t') refl h s nothing k.left refl (rw k.reached s.apart);
        mapping = k.mapping;
        reached = k.reached;
        header = h;
        node = e;
      }

  -- ---- the stores

  module _ (t : Words) (b left sibling level fence : ℕ) (ss : List Slot) (s : Fine w ns t nothing) (f : Free w ns t b) where
    abbrev words : Words
    words = node_words left sibling level fence ss

    long : length words ≡ 32
    long = length-node-words left sibling level fence ss

    inside : StoresInside (length t) (put_all (node_start b) words)
    inside = put-all-inside (length t) (node_start b) words
        (unfold node_start in omega (arith, long, (has-node-iff t b).0 (free-there w ns t b s f)))

    still : (t' : Words) → Elsewhere b t t' → SoundWith w ns (map_at w t) t'
    still t' o = let u = free-stays t b s f t' o in ((nothing, u.fine), u.mapping)

    pub whole-stage : Stage w ns 36 t (put_all (node_start b) (node_words left sibling level fence ss))
    whole-stage = stage-until w ns 36 t (put_all (node_start b) words) (put-all-few b words long) inside
        (until-map do_store (Elsewhere b t) (SoundWith w ns (map_at w t)) (Elsewhere b t) (SoundWith w ns (map_at w t)) still still
        (put_all (node_start b) words) t (put-all-along t b words (omega (arith, long))))

    pub whole-stays : AllShown left ss → length ss ≤ 11
        → Stays t b (new_node left sibling level fence ss) (apply (put_all (node_start b) (node_words left sibling level fence ss)) t)
    whole-stays a l =
        let u = free-stays t b s f (apply (put_all (node_start b) words) t) (put-all-elsewhere t b words (omega (arith, long))) in
        record {
          fine = u.fine;
          mapping = u.mapping;
          reached = u.reached;
          header = u.header;
          node = record { else = u.node.else; here = new-node t b left sibling level fence ss (free-there w ns t b s f) a l };
        }
