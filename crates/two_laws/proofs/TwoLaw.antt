-- The tree of header word w that a write goes to, beside the trees of the header words ws, which it leaves alone.
use Rattle.std.proofs.Common.{◌≡◌, ℕ, ◌+◌, ◌<◌, ◌≤◌, true, false, ◌⊎◌, ◌↔◌, List, [], ◌∷◌, ◌++◌, length, take, set, sym, refl, ◌∙◌, inl}
use Rattle.std.proofs.Common.{inr, ⊎_elim, arith, get_or-set_other}
use mathlib.Core.Logic.{⊎_map}
use mathlib.Core.List.{Memᴰ}
use lib.Seq.{take-length, take-nil}
use Rattle.model.specs.Table.{Words, at, node_start}
use Rattle.model.specs.Slots.{Slot}
use Rattle.model.specs.Reached.{flat, reached, mapping}
use Rattle.model.specs.SoundTest.{elem, Leftover, nothing, has_room}
use Rattle.model.specs.Orders.{Store, apply, orders}
use Rattle.list_laws.proofs.Tools.{Each, Each-map, Each-append}
use Rattle.list_laws.proofs.Members.{each-take, each-both, each-mem, mem-each, flat-each}
use Rattle.list_laws.proofs.Distinct.{UpTo, flat-off}
use Rattle.table_laws.proofs.Header.{HeadFacts}
use Rattle.table_laws.proofs.Nodes.{has-node-iff}
use Rattle.cut_laws.proofs.Applying.{length-apply, apply-append, always-append}
use Rattle.cut_laws.proofs.FlushRule.{length-orders-append}
use Rattle.cut_laws.specs.Inside.{StoresInside}
use Rattle.change_laws.proofs.Parts.{HasLeft, Keeps}
use Rattle.step_laws.proofs.Phase.{Phase}
use Rattle.step_laws.proofs.TreeAt.{tree_at, Avoids, Fine}
use Rattle.step_laws.proofs.Views.{Usable, reached-usable}
use Rattle.two_laws.proofs.Frame.{Other, Away, away-keeps}

-- the nodes that the others reach
abbrev pub taken : List ℕ → Words → List ℕ
taken ws t = flat (λ (w : ℕ). reached (tree_at w t)) ws

pub record Tree (w : ℕ) (ws : List ℕ) (t : Words) (y : Leftover) : Type 0 where
  pub head : HeadFacts t
  pub left : HasLeft (tree_at w t) y
  pub room : has_room (tree_at w t) y ≡ true
  pub others : Each (λ (x : ℕ). HasLeft (tree_at x t) nothing) ws
  pub apart : Avoids (taken ws t) (tree_at w t)

-- header words, of which stores to nodes change none
abbrev pub Low : ℕ → List ℕ → Type 0
Low w ws = (w < 8) × Each (λ (x : ℕ). x < 8) ws

pub at-low : (ss : List Store) (t : Words) (w : ℕ) → w < 8 → Each (λ (s : Store). 8 ≤ s.word) ss → at (apply ss t) w ≡ at t w
unfolding apply
at-low [] t w h a = refl
at-low (s ∷ ss) t w h a = at-low ss (set t s.word s.value) w h a.1 ∙ get_or-set_other t s.word w s.value 0 (let g = a.0 in λ e. omega arith)

pub flat-up : (N : ℕ) (g : ℕ → List ℕ) (ws : List ℕ) → Each (λ (x : ℕ). Each (UpTo N) (g x)) ws → Each (UpTo N) (flat g ws)
unfolding flat
flat-up N g [] h = tt
flat-up N g (x ∷ ws) h = Each-append (UpTo N) (g x) (flat g ws) h.0 (flat-up N g ws h.1)

-- each other tree is in t' what it is in t
abbrev pub Stay : List ℕ → Words → Words → Type 0
Stay ws t t' = Each (λ (x : ℕ). Keeps (tree_at x t) (tree_at x t') nothing) ws

pub stay-taken : (ws : List ℕ) (t t' : Words) → Stay ws t t' → taken ws t' ≡ taken ws t
stay-taken ws t t' k =
    flat-each (λ (x : ℕ). reached (tree_at x t')) (λ (x : ℕ). reached (tree_at x t)) ws
    (Each-map _ (λ (x : ℕ). reached (tree_at x t') ≡ reached (tree_at x t)) ws (λ x k. k.reached) k)

module _ (w : ℕ) (ws : List ℕ) (t : Words) (low : Low w ws) where
  -- a tree beside others is, by itself, as the laws of one tree ask: it reaches no node that the others take
  pub tree-fine : (y : Leftover) → Tree w ws t y → Fine w (taken ws t) t y
  tree-fine y f = record { low = low.0; header = f.head; left = f.left; room = f.room; apart = f.apart }

  pub fine-tree : (t' : Words) (y : Leftover) → Stay ws t t' → Fine w (taken ws t) t' y → Tree w ws t' y
  fine-tree t' y k g = record {
    head = g.header;
    left = g.left;
    room = g.room;
    others = Each-map _ (λ (x : ℕ). HasLeft (tree_at x t') nothing) ws (λ x k. k.left) k;
    apart = rw (stay-taken ws t t' k) g.apart;
  }

-- a node that the tree reaches
module _ (w : ℕ) (ws : List ℕ) (t : Words) (y : Leftover) (f : Tree w ws t y) (n : ℕ) (m : Memᴰ n (reached (tree_at w t))) where
  -- a node that the tree reaches lies in the table, is clear where it must be, and has a left other than 0
  pub own-usable : Usable t n
  own-usable = reached-usable w t n f.head f.left.orderly m

  -- a node that the tree reaches is none of those that the others take
  pub own-other : Other (taken ws t) n
  own-other = record { some = ((has-node-iff t n).0 own-usable.there).0; off = each-mem (λ (n : ℕ). elem n (taken ws t) ≡ false) f.apart m }

-- ---- stores to nodes that the others do not reach

module _ (w : ℕ) (ws : List ℕ) (t : Words) (y : Leftover) (low : Low w ws) (f : Tree w ws t y) (ss : List Store)
    (a : Each (Away (taken ws t)) ss) where
  abbrev ns : List ℕ
  ns = taken ws t

  pub head-same : (x : ℕ) → x < 8 → at (apply ss t) x ≡ at t x
  head-same x h = at-low ss t x h
      (Each-map (Away ns) (λ (s : Store). 8 ≤ s.word) ss (λ s h. unfold node_start in omega (arith, h.into.0)) a)

  pub away-one : (x : ℕ) → Memᴰ x ws → Each (Away (reached (tree_at x t))) ss
  away-one x m = Each-map (Away ns) (Away (reached (tree_at x t))) ss
      (λ s h. record {
        node = h.node;
        some = h.some;
        off = each-mem (λ (x : ℕ). elem h.node (reached (tree_at x t)) ≡ false)
            (flat-off (λ (x : ℕ). reached (tree_at x t)) ws h.node h.off) m;
        into = h.into;
      }) a

  pub stays : Stay ws t (apply ss t)
  stays = mem-each (λ (x : ℕ). Keeps (tree_at x t) (tree_at x (apply ss t)) nothing) ws (λ x m.
      rw (head-same x (each-mem (λ (x : ℕ). x < 8) low.1 m))
      (away-keeps ss t (at t x) nothing (each-mem (λ (x : ℕ). HasLeft (tree_at x t) nothing) f.others m) (away-one x m)))

  pub taken-same : taken ws (apply ss t) ≡ taken ws t
  taken-same = stay-taken ws t (apply ss t) stays

  pub tree-after : (y' : Leftover) → Fine w (taken ws t) (apply ss t) y' → Tree w ws (apply ss t) y'
  tree-after y' g = fine-tree w ws t low (apply ss t) y' stays g

-- ---- a course of stores

-- each first part of the stores ss leaves the tree of w sound, with its old map or m, and the others as they are; all of them leave it
-- settled with m
pub record Course (b w : ℕ) (ws : List ℕ) (t : Words) (ss : List Store) (m : List Slot) : Type 0 where
  pub part : (j : ℕ) → (y : Leftover) × Tree w ws (apply (take j ss) t) y
  pub part-map : (j : ℕ) → (mapping (tree_at w (apply (take j ss) t)) ≡ mapping (tree_at w t))
      ⊎ (mapping (tree_at w (apply (take j ss) t)) ≡ m)
  pub others : (j : ℕ) → Each (λ (x : ℕ). mapping (tree_at x (apply (take j ss) t)) ≡ mapping (tree_at x t)) ws
  pub lack : (j : ℕ) → (at (apply (take j ss) t) 3 ≡ 0) ↔ (at t 3 ≡ 0)
  pub whole : Tree w ws (apply ss t) nothing
  pub maps : mapping (tree_at w (apply ss t)) ≡ m
  pub few : length (orders ss) ≤ b
  pub inside : StoresInside (length t) ss

-- A phase of the tree over which the others stay is a course of the table.
pub beside-course : (b w : ℕ) (ws : List ℕ) (t : Words) (ss : List Store) (m : List Slot) (low : Low w ws) → Phase w (taken ws t) b t ss m
    → ((j : ℕ) → Stay ws t (apply (take j ss) t)) → ((j : ℕ) → (at (apply (take j ss) t) 3 ≡ 0) ↔ (at t 3 ≡ 0)) → Course b w ws t ss m
beside-course b w ws t ss m low p k lack =
    record {
      part = λ j. let g = p.part-sound j in (g.0, fine-tree w ws t low _ g.0 (k j) g.1);
      part-map = p.part-map;
      others = λ j. Each-map _ (λ (x : ℕ). mapping (tree_at x (apply (take j ss) t)) ≡ mapping (tree_at x t)) ws (λ x k. k.mapping) (k j);
      lack = lack;
      whole = fine-tree w ws t low (apply ss t) nothing (rw take-length at (k (length ss))) p.settles;
      maps = p.maps;
      few = p.few;
      inside = p.inside;
    }

-- such is a phase whose stores go to none of the others' nodes
pub phase-course : (b w : ℕ) (ws : List ℕ) (t : Words) (y : Leftover) (ss : List Store) (m : List Slot) (low : Low w ws) → Tree w ws t y
    → Phase w (taken ws t) b t ss m → Each (Away (taken ws t)) ss → Course b w ws t ss m
phase-course b w ws t y ss m low f p a =
    let each : (j : ℕ) → Each (Away (taken ws t)) (take j ss) = λ j. each-take (Away (taken ws t)) j ss a in
    beside-course b w ws t ss m low p (λ j. stays w ws t y low f (take j ss) (each j))
    (λ j. let e = head-same w ws t y low f (take j ss) (each j) 3 (omega arith) in ((λ z. sym e ∙ z), (λ z. e ∙ z)))

-- one course after another, of which one keeps the map
module _ (b c w : ℕ) (ws : List ℕ) (t : Words) (ss us : List Store) (m n : List Slot) (f : Course b w ws t ss m)
    (g : Course c w ws (apply ss t) us n) where
  same-others : Each (λ (x : ℕ). mapping (tree_at x (apply ss t)) ≡ mapping (tree_at x t)) ws
  same-others = rw take-length at (f.others (length ss))

  same-lack : (at (apply ss t) 3 ≡ 0) ↔ (at t 3 ≡ 0)
  same-lack = rw take-length at (f.lack (length ss))

  joined : ((j : ℕ) → (mapping (tree_at w (apply (take j ss) t)) ≡ mapping (tree_at w t)) ⊎ (mapping (tree_at w (apply (take j ss) t)) ≡ n))
      → ((j : ℕ) → (mapping (tree_at w (apply (take j us) (apply ss t))) ≡ mapping (tree_at w t))
      ⊎ (mapping (tree_at w (apply (take j us) (apply ss t))) ≡ n)) → Course (b + c) w ws t (ss ++ us) n
  joined p q =
      record {
        part = always-append (λ (u : Words). (y : Leftover) × Tree w ws u y) ss us t f.part g.part;
        part-map = always-append (λ (u : Words). (mapping (tree_at w u) ≡ mapping (tree_at w t)) ⊎ (mapping (tree_at w u) ≡ n)) ss us t p q;
        others = always-append (λ (u : Words). Each (λ (x : ℕ). mapping (tree_at x u) ≡ mapping (tree_at x t)) ws) ss us t f.others
            (λ j. Each-map _ (λ (x : ℕ). mapping (tree_at x (apply (take j us) (apply ss t))) ≡ mapping (tree_at x t)) ws (λ x h. h.1 ∙ h.0)
            (each-both _ _ ws same-others (g.others j)));
        lack = always-append (λ (u : Words). (at u 3 ≡ 0) ↔ (at t 3 ≡ 0)) ss us t f.lack
            (λ j. ((λ z. same-lack.0 ((g.lack j).0 z)), (λ z. (g.lack j).1 (same-lack.1 z))));
        whole = rw (apply-append ss us t) g.whole;
        maps = rw (apply-append ss us t) g.maps;
        few = omega (arith, length-orders-append ss us, f.few, g.few);
        inside = Each-append _ ss us f.inside (rw (length-apply ss t) at g.inside);
      }

-- a course that keeps the map, then another
pub course-append : (b c w : ℕ) (ws : List ℕ) (t : Words) (ss us : List Store) (m : List Slot) → Course b w ws t ss (mapping (tree_at w t))
    → Course c w ws (apply ss t) us m → Course (b + c) w ws t (ss ++ us) m
course-append b c w ws t ss us m f g =
    joined b c w ws t ss us (mapping (tree_at w t)) m f g (λ j. inl (⊎_elim (λ e. e) (λ e. e) (f.part-map j)))
    (λ j. ⊎_map (λ e. e ∙ f.maps) (λ e. e) (g.part-map j))

-- a change, then a course that keeps it
pub course-then : (b c w : ℕ) (ws : List ℕ) (t : Words) (ss us : List Store) (m : List Slot) → Course b w ws t ss m
    → Course c w ws (apply ss t) us m → Course (b + c) w ws t (ss ++ us) m
course-then b c w ws t ss us m f g =
    joined b c w ws t ss us m m f g f.part-map (λ j. inr (⊎_elim (λ e. e ∙ f.maps) (λ e. e) (g.part-map j)))

pub course-within : (b c w : ℕ) (ws : List ℕ) (t : Words) (ss : List Store) (m : List Slot) → b ≤ c
    → Course b w ws t ss m → Course c w ws t ss m
course-within b c w ws t ss m h f =
    record {
      part = f.part;
      part-map = f.part-map;
      others = f.others;
      lack = f.lack;
      whole = f.whole;
      maps = f.maps;
      few = omega (arith, f.few);
      inside = f.inside;
    }

-- no store
pub course-nil : (w : ℕ) (ws : List ℕ) (t : Words) → Tree w ws t nothing → Course 0 w ws t [] (mapping (tree_at w t))
unfolding apply orders
course-nil w ws t f =
    record {
      part = λ j. rw (take-nil {A = Store} j) (nothing, f);
      part-map = λ j. rw (take-nil {A = Store} j) (inl refl);
      others = λ j. rw (take-nil {A = Store} j) (mem-each (λ (x : ℕ). mapping (tree_at x t) ≡ mapping (tree_at x t)) ws (λ x m. refl));
      lack = λ j. rw (take-nil {A = Store} j) ((λ z. z), (λ z. z));
      whole = f;
      maps = refl;
      few = omega arith;
      inside = tt;
    }
