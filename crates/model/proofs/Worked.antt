-- The starred lines of document 01's "Worked on paper", proved from the definitions as one claim.
use Rattle.std.proofs.Common.{◌≡◌, ℕ, zero, suc, pred, ◌+◌, ◌*◌, List, [], ◌∷◌, ◌++◌, map, length, replicate, refl}
use Rattle.std.specs.Prelude.{Ok}
use Rattle.model.specs.Results.{refused_with, done_with}
use Rattle.model.specs.Text.{ascii}
use Rattle.model.specs.Codes.{parse, print, characters_of}
use Rattle.model.specs.Table.{MARK, Words, making, made, empty, root}
use Rattle.model.specs.Slots.{Slot, slot, shown, hidden_slots, in_use, node_view}
use Rattle.model.specs.Search.{route}
use Rattle.model.specs.Orders.{orders, store_count, flush_count}
use Rattle.model.specs.Shifts.{shift_in, in_node}
use Rattle.model.specs.Writes.{insertion}
use Rattle.model.specs.Refusals.{written, table_after}
use Rattle.model.specs.Printer.{printer}
use Rattle.model.proofs.Everything.{everything}

-- n slots with keys 10, 20, .., whose recordings are 101, 102, .., from number i on, as words
unfoldable pub tens : (n i : ℕ) → Words
tens zero i = []
tens (suc n) i = (10 * i) ∷ (100 + i) ∷ tens n (suc i)

-- n slots from number i on: key 10 times the number, pointer 100 more than it
unfoldable pub ten_slots : (n i : ℕ) → List Slot
ten_slots zero i = []
ten_slots (suc n) i = slot (10 * i) (100 + i) ∷ ten_slots n (suc i)

-- a root leaf with keys 10, 20 .. 110, in a table of n nodes
unfoldable pub root_leaf : (n : ℕ) → Words
root_leaf n = (1 ∷ 1 ∷ n ∷ replicate 5 0) ++ ((MARK ∷ replicate 7 0) ++ (tens 11 1 ++ replicate (2 + 32 * (pred n)) 0))

-- stores and flushes of a shift in at slot p of node 1 with 10 shown slots
unfoldable pub shift_counts : (p : ℕ) → List ℕ
shift_counts p =
    let os = orders (map (in_node 1) (shift_in MARK (ten_slots 10 1) p 5 7)) in
    store_count os ∷ flush_count os ∷ []

-- after inserting 115 with 7: the root, its node record's left and first slot, node 1's sibling and that one's fence
unfoldable pub after_split : Words
after_split = table_after (insertion 1 115 7 0) 2560 0 (root_leaf 3)

pub record Worked : Type 0 where
  -- AA0001912345 has key 172627201912345.
  pub reads : parse (ascii "AA0001912345") ≡ Ok 172627201912345
  -- ZZZZZ9999999 has key 604661759999999; the next key prints as 1.
  pub reads-last : parse (ascii "ZZZZZ9999999") ≡ Ok 604661759999999
  pub next-prints : (print 604661760000000 ≡ refused_with 1) × (characters_of (print 604661760000000) ≡ replicate 12 0)
  -- 1A0001912345 returns 1.
  pub digit-first : parse (ascii "1A0001912345") ≡ refused_with 1
  -- 39 words return 2; 40 words make a table with N = 1.
  pub short : (ws : Words) → length ws ≡ 39 → making 1 ws ≡ refused_with 2
  pub smallest : (ws : Words) → length ws ≡ 40 → (making 1 ws ≡ Ok tt) × (made 1 ws ≡ empty 1)
  -- Leaf slots (20,5) (25,5) (30,6): 25 is hidden.
  pub hides : (shown MARK (in_use (slot 20 5 ∷ slot 25 5 ∷ slot 30 6 ∷ [])) ≡ slot 20 5 ∷ slot 30 6 ∷ [])
      × (hidden_slots MARK (in_use (slot 20 5 ∷ slot 25 5 ∷ slot 30 6 ∷ [])) ≡ slot 25 5 ∷ [])
  -- Left 2, slot (40,3): key 39 goes to node 2, key 40 to node 3.
  pub routes : (route 39 2 (slot 40 3 ∷ []) ≡ 2) × (route 40 2 (slot 40 3 ∷ []) ≡ 3)
  -- Shift in with n = 10: p = 0 gives 24 stores, 3 flushes; p = 10 gives 4 and 1.
  pub shifts : (shift_counts 0 ≡ 24 ∷ 3 ∷ []) × (shift_counts 10 ≡ 4 ∷ 1 ∷ [])
  -- Root leaf with keys 10, 20 .. 110, N = 3, insert 115: new root 2, sibling 3, fence 60; 75 stores, 13 flushes.
  pub splits : (written (insertion 1 115 7 0) 2560 0 (root_leaf 3) ≡ done_with 75 13 0) × (root after_split ≡ 2)
      × ((node_view after_split 1).sibling ≡ 3) × ((node_view after_split 3).fence ≡ 60)
  -- The same with N = 2 returns 10.
  pub no-room : written (insertion 1 115 7 0) 2560 0 (root_leaf 2) ≡ refused_with 10
  -- The order printer's two lines, and the ten that it prints.
  pub prints : printer (ascii "+ AA0001912345 7\n- AA0001912345\n")
      ≡ ascii "store 19 0\nstore 17 18446744073709551615\nstore 16 172627201912345\nstore 17 7\nflush 2\ndone 4 1\n"
      ++ ascii "store 17 18446744073709551615\nstore 17 0\nflush 2\ndone 2 1\n"

-- by the length alone
short : (ws : Words) → length ws ≡ 39 → making 1 ws ≡ refused_with 2
unfolding everything
short ws e = rw (e, making)

smallest : (ws : Words) → length ws ≡ 40 → (making 1 ws ≡ Ok tt) × (made 1 ws ≡ empty 1)
unfolding everything
smallest ws e = (rw (e, making), rw (e, made))

pub worked : Worked
unfolding everything tens ten_slots root_leaf shift_counts after_split
worked =
    record {
      reads = refl;
      reads-last = refl;
      next-prints = (refl, refl);
      digit-first = refl;
      short = short;
      smallest = smallest;
      hides = (refl, refl);
      routes = (refl, refl);
      shifts = (refl, refl);
      splits = (refl, refl, refl, refl);
      no-room = refl;
      prints = refl;
    }
