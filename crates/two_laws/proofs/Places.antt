-- Where the stores of a write go: each to a node that is named.
use Rattle.std.proofs.Common.{◌≡◌, ℕ, suc, ◌+◌, ◌<◌, ◌≤◌, List, [], ◌∷◌, map, length, arith}
use Rattle.model.specs.Table.{Words, node_start}
use Rattle.model.specs.Slots.{used, node_view}
use Rattle.model.specs.Orders.{Store, put}
use Rattle.model.specs.Shifts.{SlotStore, in_node, shift_in, shift_out, close, place_of, hidden_place}
use Rattle.model.specs.Writes.{shift_in_at, shift_out_at, close_at, put_all}
use Rattle.list_laws.proofs.Tools.{Each}
use Rattle.list_laws.proofs.Slots.{place-length}
use Rattle.slot_laws.proofs.Places.{Below, hidden-place-lt, shift-in-places, shift-out-places, close-places}
use Rattle.word_laws.proofs.SlotRuns.{slot-into}
use Rattle.word_laws.proofs.Outside.{Into}
use Rattle.two_laws.proofs.Frame.{Other, Away}

module _ (ns : List ℕ) (x : ℕ) (o : Other ns x) where
  at-node : (s : Store) → Into (node_start x) 32 s → Away ns s
  at-node s i = record { node = x; some = o.some; off = o.off; into = i }

  slots-away : (qs : List SlotStore) → Each (Below 12) qs → Each (Away ns) (map (in_node x) qs)
  slots-away [] b = tt
  slots-away (q ∷ qs) b = (at-node (in_node x q) (let u = slot-into x q b.0 in (omega (arith, u), omega (arith, u))), slots-away qs b.1)

  pub shift-in-away : (t : Words) (k y : ℕ) → length (node_view t x).shown ≤ 10 → Each (Away ns) (shift_in_at t x k y)
  unfolding shift_in_at
  shift-in-away t k y room = let ss =
      (node_view t x).shown in slots-away (shift_in (node_view t x).left ss (place_of k ss) k y)
      (shift-in-places (node_view t x).left ss (place_of k ss) k y 12 (place-length k ss) (omega arith))

  pub shift-out-away :
      (t : Words) (k : ℕ) → length (node_view t x).shown ≤ 11 → place_of k (node_view t x).shown < length (node_view t x).shown
      → Each (Away ns) (shift_out_at t x k)
  unfolding shift_out_at
  shift-out-away t k few there = let ss =
      (node_view t x).shown in slots-away (shift_out (node_view t x).left ss (place_of k ss))
      (shift-out-places (node_view t x).left ss (place_of k ss) 12 there (omega arith))

  pub close-away : (t : Words) → length (used t x) ≤ 11 → (node_view t x).hidden ≡ 1 → Each (Away ns) (close_at t x)
  unfolding close_at
  close-away t few one = let p =
      hidden_place (node_view t x).left (used t x) in slots-away (close (used t x) p)
      (close-places (used t x) p 12 (hidden-place-lt (node_view t x).left (used t x) one) (omega arith))

  pub put-away : (w y : ℕ) → node_start x ≤ w → w < node_start x + 32 → Away ns (put w y)
  put-away w y a b = at-node (put w y) (a, b)

  pub all-away : (w : ℕ) (ws : Words) → node_start x ≤ w → w + length ws ≤ node_start x + 32 → Each (Away ns) (put_all w ws)
  unfolding put_all
  all-away w [] a b = tt
  all-away w (y ∷ ws) a b = (at-node (put w y) (a, omega arith), all-away (suc w) ws (omega arith) (omega arith))
