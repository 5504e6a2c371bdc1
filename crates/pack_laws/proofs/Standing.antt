-- A table in which nodes' words stand in a row: what it shows of each of these nodes.
use Rattle.std.proofs.Common.{◌≡◌, ℕ, suc, ◌+◌, ◌*◌, ◌≤◌, true, List, [], ◌∷◌, ◌++◌, length, sym, refl, ap, ◌∙◌, append_assoc, arith}
use Rattle.std.proofs.Common.{length-append}
use lib.Seq.{sets-eq, take-append_seam, drop-append_seam, drop-append-add}
use Rattle.model.specs.Table.{Words, node_start, has_node}
use Rattle.model.specs.Slots.{Slot, View, node_view, view_from}
use Rattle.model.specs.Orders.{apply}
use Rattle.model.specs.Writes.{put_all, node_words}
use Rattle.list_laws.proofs.Tools.{Each}
use Rattle.view_laws.proofs.NodeViews.{new_node}
use Rattle.table_laws.proofs.Nodes.{has-node-iff}
use Rattle.slot_laws.proofs.Hiding.{AllShown}
use Rattle.word_laws.proofs.NodeStores.{put-all-sets}
use Rattle.word_laws.proofs.NewNodes.{new-node, length-node-words}
use Rattle.model.specs.Packing.{Made, next, row_words, rows_words, count_rows}

-- words stored where they stand
put-same : (pre ws post : Words) → apply (put_all (length pre) ws) (pre ++ (ws ++ post)) ≡ pre ++ (ws ++ post)
put-same pre ws post =
    let t = pre ++ (ws ++ post) in
    put-all-sets (length pre) ws t ∙ sets-eq ws t (length pre) (simp length-append (omega arith))
    ∙ rw (take-append_seam pre (ws ++ post), drop-append-add pre (ws ++ post) (length ws), drop-append_seam ws post)
    (append_assoc pre ws post)

-- the node whose words stand there
pub placed : (t : Words) (b l s d f : ℕ) (ss : List Slot) (pre post : Words) → t ≡ pre ++ (node_words l s d f ss ++ post) → length pre
    ≡ node_start b → 1 ≤ b → AllShown l ss → length ss ≤ 11 → node_view t b ≡ new_node l s d f ss
unfolding node_start
placed t b l s d f ss pre post e h low a few =
    let ws = node_words l s d f ss in
    let n : length t ≡ length pre + (32 + length post) = ap length e ∙ simp (length-append, length-node-words) (omega arith) in
    let has : has_node t b ≡ true = (has-node-iff t b).1 (low, omega arith) in
    let same : apply (put_all (node_start b) ws) t ≡ t = rw (e, ← h) (put-same pre ws post) in
    rw same at (new-node t b l s d f ss has a few)

-- ---- rows

-- the view shows these nodes, numbered from n, on level l
abbrev pub Standing : View → (l n : ℕ) → List Made → Type 0
Standing v l n [] = Unit {0}
Standing v l n (x ∷ xs) = (v.node n ≡ new_node x.left (next n xs) l x.fence x.slots) × Standing v l (suc n) xs

abbrev pub RowsStanding : View → (l n : ℕ) → List (List Made) → Type 0
RowsStanding v l n [] = Unit {0}
RowsStanding v l n (xs ∷ xss) = Standing v l n xs × RowsStanding v (suc l) (n + length xs) xss

-- a node's slots fit and none of them is hidden
abbrev pub Writable : Made → Type 0
Writable x = AllShown x.left x.slots × (length x.slots ≤ 11)

-- a row fills 32 words for each of its nodes
pub length-row : (l n : ℕ) (xs : List Made) → length (row_words l n xs) ≡ 32 * length xs
unfolding row_words
length-row l n [] = refl
length-row l n (x ∷ xs) =
    length-append (node_words x.left (next n xs) l x.fence x.slots) (row_words l (suc n) xs)
    ∙ omega (arith, length-node-words x.left (next n xs) l x.fence x.slots, length-row l (suc n) xs)

pub length-rows : (l n : ℕ) (xss : List (List Made)) → length (rows_words l n xss) ≡ 32 * count_rows xss
unfolding rows_words count_rows
length-rows l n [] = refl
length-rows l n (xs ∷ xss) =
    length-append (row_words l n xs) (rows_words (suc l) (n + length xs) xss)
    ∙ omega (arith, length-row l n xs, length-rows (suc l) (n + length xs) xss)

module _ (t : Words) (r : ℕ) where
  row-standing : (l n : ℕ) (xs : List Made) (pre post : Words) → t ≡ pre ++ (row_words l n xs ++ post) → length pre ≡ node_start n → 1 ≤ n
      → Each Writable xs → Standing (view_from t r) l n xs
  unfolding row_words node_start
  row-standing l n [] pre post e h low w = tt
  row-standing l n (x ∷ xs) pre post e h low w =
      let ws = node_words x.left (next n xs) l x.fence x.slots in
      let rest = row_words l (suc n) xs in
      let a : t ≡ pre ++ (ws ++ (rest ++ post)) = e ∙ ap (λ (y : Words). pre ++ y) (append_assoc ws rest post) in (
        placed t n x.left (next n xs) l x.fence x.slots pre (rest ++ post) a h low w.0.0 w.0.1,
        row-standing l (suc n) xs (pre ++ ws) post (a ∙ sym (append_assoc pre ws (rest ++ post)))
            (length-append pre ws ∙ omega (arith, length-node-words x.left (next n xs) l x.fence x.slots)) (omega arith) w.1,
      )

  -- Rows whose words stand in the table from node n on are shown by its view, whatever the root.
  pub rows-standing : (l n : ℕ) (xss : List (List Made)) (pre post : Words) → t ≡ pre ++ (rows_words l n xss ++ post) → length pre
      ≡ node_start n → 1 ≤ n → Each (Each Writable) xss → RowsStanding (view_from t r) l n xss
  unfolding rows_words node_start
  rows-standing l n [] pre post e h low w = tt
  rows-standing l n (xs ∷ xss) pre post e h low w =
      let ws = row_words l n xs in
      let rest = rows_words (suc l) (n + length xs) xss in
      let a : t ≡ pre ++ (ws ++ (rest ++ post)) = e ∙ ap (λ (y : Words). pre ++ y) (append_assoc ws rest post) in (
        row-standing l n xs pre (rest ++ post) a h low w.0,
        rows-standing (suc l) (n + length xs) xss (pre ++ ws) post (a ∙ sym (append_assoc pre ws (rest ++ post)))
            (length-append pre ws ∙ omega (arith, length-row l n xs)) (omega arith) w.1,
      )
