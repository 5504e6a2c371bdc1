-- A slice of 3 words a node with the words of one node put in; the nodes that an order list stores to; what setting the words asks.
use Rattle.std.specs.Prelude.{◌≡◌, Bool, true, false, ◌&&◌, ◌||◌, ◌++◌, ℕ, zero, suc, ◌-◌, ◌*◌, ◌≤◌, ◌<◌, eqb, ltb, length, take, drop}
use Rattle.model.specs.Results.{Written}
use Rattle.model.specs.Table.{Words, at, nodes, header_ok}
use Rattle.model.specs.SoundTest.{sound}
use Rattle.model.specs.Refusals.{orders_answered}
use Rattle.model.specs.Sentinels.{node_of}

-- the words x for node n
unfoldable pub put_words : Words → (n : ℕ) → Words → Words
put_words ws n x = take (3 * (n - 1)) ws ++ (x ++ drop (3 * n) ws)

-- one of the first m orders of a list is a store to a word of node n, in a table of len words
unfoldable pub named : (len : ℕ) → Words → (m n : ℕ) → Bool
named len list zero n = false
named len list (suc m) n = (ltb (at list (2 * m)) len && eqb n (node_of (at list (2 * m)))) || named len list m n

-- What setting the words by a call's list and its answer asks of the table that the call left, of the list and of the slice.
pub record Asks (t list ws : Words) (answer : Written) : Type 0 where
  pub header : header_ok t ≡ true
  pub sound-if : 0 < orders_answered answer → sound t ≡ true
  pub slice : length ws ≡ 3 * nodes t
  pub room : 2 * orders_answered answer ≤ length list
