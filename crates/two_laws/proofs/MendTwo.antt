-- The nodes that repair stores to, by the leftover of the whole table: they lie in the table and hide nothing; the parent has room.
use Rattle.std.proofs.Common.{◌≡◌, ℕ, ◌<◌, ◌≤◌, Bool, true, false, List, length, sym, ◌∙◌, arith, leb-true}
use mathlib.Core.List.{Memᴰ}
use mathlib.Core.Option.{some}
use Rattle.model.specs.Table.{Words, has_node}
use Rattle.model.specs.Slots.{node_view}
use Rattle.model.specs.Reached.{reached}
use Rattle.model.specs.SoundTest.{Leftover, hidden_in, missing_in, both_in, room, leftover_all, sound}
use Rattle.model.specs.Orders.{apply}
use Rattle.model.specs.Writes.{close_at}
use Rattle.list_laws.proofs.Members.{each-mem}
use Rattle.tree_laws.proofs.Sums.{some-same}
use Rattle.tree_laws.proofs.Leftovers.{NoneHidden}
use Rattle.step_laws.proofs.Repair.{a-reached}
use Rattle.step_laws.proofs.TreeAt.{tree_at}
use Rattle.two_laws.proofs.TwoLaw.{Tree, own-usable}
use Rattle.two_laws.proofs.RepairTwo.{close-tree}
use Rattle.two_laws.proofs.Arrange.{Arr, arr-low, sound-tree, left-all}
use Rattle.two_laws.proofs.PartsTwo.{Plain}

module _ (w : ℕ) (ws : List ℕ) (t : Words) (y : Leftover) (f : Tree w ws t y) (n : ℕ) (m : Memᴰ n (reached (tree_at w t))) where
  reached-there : has_node t n ≡ true
  reached-there = (own-usable w ws t y f n m).there

  reached-plain : NoneHidden (tree_at w t) → Plain t n
  reached-plain h = record { there = reached-there; plain = each-mem (λ (n : ℕ). (node_view t n).hidden ≡ 0) h m }

missing-in : (w : ℕ) (ws : List ℕ) (t : Words) (p a : ℕ) (b : Bool) → Tree w ws t (missing_in p a b) → Plain t p × Plain t a
missing-in w ws t p a false f =
    let g = f.left.left.2 in (
      reached-plain w ws t _ f p g.member f.left.left.0,
      reached-plain w ws t _ f a (a-reached (tree_at w t) p a f.left.orderly g) f.left.left.0,
    )
missing-in w ws t p a true f =
    let g = f.left.left.2 in (
      reached-plain w ws t _ f p g.member f.left.left.0,
      reached-plain w ws t _ f a (a-reached (tree_at w t) p a f.left.orderly g) f.left.left.0,
    )

-- the tree that has the leftover
record LeftIn (t : Words) (y : Leftover) : Type 0 where
  word : ℕ
  others : List ℕ
  arranged : Arr word others t
  tree : Tree word others t y

left-in : (t : Words) (y : Leftover) → sound t ≡ true → leftover_all t ≡ some y → LeftIn t y
left-in t y s e =
    let u = sound-tree t s in
    let q : u.leftover ≡ y = some-same u.leftover y (sym (left-all u.word u.others t u.leftover u.arranged u.tree) ∙ e) in
    record { word = u.word; others = u.others; arranged = u.arranged; tree = rw q at u.tree }

roomy : (w : ℕ) (t : Words) (p : ℕ) → room (tree_at w t) p ≡ true → length (node_view t p).shown < 11
unfolding room
roomy w t p h = let r : length (node_view t p).shown ≤ 10 = leb-true _ _ h in omega arith

module _ (t : Words) (s : sound t ≡ true) where
  -- the node in which a slot is hidden lies in the table
  pub hidden-there : (x : ℕ) → leftover_all t ≡ some (hidden_in x) → has_node t x ≡ true
  hidden-there x e = let l = left-in t (hidden_in x) s e in reached-there l.word l.others t (hidden_in x) l.tree x l.tree.left.left.0.member

  -- the parent, and the node whose sibling lacks its slot there
  pub missing-plain : (p a : ℕ) (b : Bool) → leftover_all t ≡ some (missing_in p a b) → Plain t p × Plain t a
  missing-plain p a b e = let l = left-in t (missing_in p a b) s e in missing-in l.word l.others t p a b l.tree

  -- the node that hides a slot, and lacks one, lies in the table
  pub both-there : (p a : ℕ) → leftover_all t ≡ some (both_in p a) → has_node t p ≡ true
  both-there p a e = let l = left-in t (both_in p a) s e in reached-there l.word l.others t (both_in p a) l.tree p l.tree.left.left.0.member

  -- the parent when its hidden slot is closed
  pub both-closed : (p a : ℕ) → leftover_all t ≡ some (both_in p a) → Plain (apply (close_at t p) t) p
  both-closed p a e =
      let l = left-in t (both_in p a) s e in
      (missing-in l.word l.others (apply (close_at t p) t) p a false
      (close-tree l.word l.others t p a (arr-low l.word l.others t l.arranged) l.tree)).0

  -- The parent that lacks a slot has room for it: it shows fewer than 11.
  pub missing-room : (p a : ℕ) (b : Bool) → leftover_all t ≡ some (missing_in p a b) → length (node_view t p).shown < 11
  missing-room p a b e = let l = left-in t (missing_in p a b) s e in roomy l.word t p l.tree.room

  pub both-room : (p a : ℕ) → leftover_all t ≡ some (both_in p a) → length (node_view t p).shown < 11
  both-room p a e = let l = left-in t (both_in p a) s e in roomy l.word t p l.tree.room
