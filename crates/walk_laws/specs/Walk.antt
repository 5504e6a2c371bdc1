-- Document 01's check, "Checking a node checks its slots and checking a slot checks the node below it", as a fold over visits.
use Rattle.std.specs.Prelude.{Bool, true, false, ◌&&◌, Option, None, Some, List, [], ◌∷◌, ℕ, zero, suc, leb, ltb, eqb}
use Rattle.model.specs.declared.Unfinished.{Unfinished}
use Rattle.model.specs.Table.{in_range}
use Rattle.model.specs.Slots.{Slot, slot, View, height}
use Rattle.model.specs.Reached.{head_or, pointers, kept, next_child}
use Rattle.model.specs.SoundTest.{sibling_ok, keys_ok, leaf_ok, finished, together, missing_at, own}
use Rattle.model.specs.declared.Visited.{Visited}

-- a visit: a node, where it must stand and what its sibling must be, and what is found unfinished on the way to it
pub record Visit : Type 0 where
  pub node : ℕ
  pub level : ℕ
  pub fence : ℕ
  pub right : ℕ
  pub way : Unfinished

-- what is asked of the visited node's header
unfoldable pub stands : View → Visit → Bool
stands v x =
    let n = v.node x.node in
    in_range v.nodes x.node && (eqb n.level x.level && (eqb n.fence x.fence && eqb n.sibling x.right))

-- what node_ok asks of the node without its children
unfoldable pub alone_ok : View → ℕ → Bool
alone_ok v n = (v.node n).clear && (sibling_ok v n && elim (eqb (v.node n).level 0) [ true ↦ leaf_ok v n | false ↦ keys_ok v n (suc (v.node n).fence) ])

unfoldable pub fits : View → Visit → Bool
fits v x = stands v x && alone_ok v x.node

-- the visits for slots of p, whose nodes stand on level d and are followed by e: each slot's node, and its sibling if that lacks its slot
module _ (v : View) (p d : ℕ) where
  unfoldable pub visits_of : List Slot → ℕ → List Visit
  visits_of [] e = []
  visits_of (s ∷ ss) e =
      elim (eqb (v.node s.pointer).sibling (head_or e (pointers ss))) [
        | true ↦ record { node = s.pointer; level = d; fence = s.key; right = head_or e (pointers ss); way = finished } ∷ visits_of ss e
        | false ↦
            let b = (v.node s.pointer).sibling in
            record { node = s.pointer; level = d; fence = s.key; right = b; way = missing_at p s.pointer }
            ∷ record { node = b; level = d; fence = (v.node b).fence; right = head_or e (pointers ss); way = finished } ∷ visits_of ss e
      ]

-- the ways down from n: left, as a slot with n's fence as key, then the kept slots
abbrev pub ways : View → ℕ → List Slot
ways v n = slot (v.node n).fence (v.node n).left ∷ kept v n

-- the visits below n, on level d
unfoldable pub visits_below : View → ℕ → ℕ → List Visit
visits_below v d n = visits_of v n d (ways v n) (next_child v n)

-- what the visits so far come to: None if one was refused
abbrev pub Tally : Type 0
Tally = Option Visited

abbrev pub tally : ℕ → Unfinished → Tally
tally c u = Some (record { count = c; unfinished = u })

-- one visit more; with N nodes visited there is no further one
unfoldable pub visit : View → Visit → Tally → Tally
visit v x None = None
visit v x (Some s) =
    elim (fits v x && ltb s.count v.nodes) [ true ↦ tally (suc s.count) (together s.unfinished (together x.way (own v x.node))) | false ↦ None ]

abbrev pub fold {ℓ} : {A : Type ℓ} → (A → Tally → Tally) → List A → Tally → Tally
fold g [] s = s
fold g (x ∷ xs) s = fold g xs (g x s)

-- a visit d levels above the leaves, and then those below it
module _ (v : View) where
  unfoldable pub check : ℕ → Visit → Tally → Tally
  check zero x s = visit v x s
  check (suc d) x s = fold (check d) (visits_below v d x.node) (visit v x s)

abbrev pub root_visit : View → Visit
root_visit v = record { node = v.root; level = height v; fence = 0; right = 0; way = finished }

-- the whole check but for the recording numbers and the leftover
unfoldable pub walk : View → Tally
walk v = elim (leb (height v) 15) [ true ↦ check v (height v) (root_visit v) (tally 0 finished) | false ↦ None ]
