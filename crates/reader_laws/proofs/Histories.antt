-- A level that turns at most once while a call runs: every search that comes to it is right.
use Rattle.std.proofs.Common.{◌≡◌, ℕ, ◌<◌, ◌≤◌, Bool, true, false, ltb, sym, refl, ◌∙◌, inl, inr, arith, ltb-false, ltb-true}
use mathlib.Core.Bool.{false≢true}
use Rattle.model.specs.Slots.{View}
use Rattle.model.specs.Looks.{seen_pass, seen_within}
use Rattle.view_laws.proofs.NodeViews.{left-eq, shown-eq}
use Rattle.list_laws.proofs.Members.{each-mem}
use Rattle.tree_laws.proofs.Rows.{Good, sib-facts}
use Rattle.tree_laws.proofs.Levels.{Orderly}
use Rattle.tree_laws.proofs.SearchLaw.{Stands}
use Rattle.step_laws.proofs.Rowwise.{OnRow, Same, Lasts, Straight, Comes, sibling-row, stands-comes, same-stands, same-comes}
use Rattle.reader_laws.proofs.TwoLooks.{StaysOrMoves, TwoLooks, two-looks, stood-here, stood-next, on-here, on-next}
use Rattle.reader_laws.proofs.Walk.{Leaves}
use Rattle.reader_laws.proofs.Moments.{first, second, Looked, Right, Arrives}

-- ---- what is stood on, by the two looks

module _ (w : ℕ → View) (N k l n i j : ℕ) (h : i ≤ j) (p : seen_pass N l n (first w n i) (second w n i j) ≡ true) where
  -- n, as it was at moment x up to j
  pub looked-here : seen_within (first w n i) (second w n i j) k ≡ true → (x : ℕ) → x ≤ j → ((w i).node n).left ≡ ((w x).node n).left
      → ((w i).node n).shown ≡ ((w x).node n).shown → Stands (w x) k l n → Looked w N k l n i j
  looked-here e x g a b s =
      let q = stood-here (first w n i) (second w n i j) k e in
      record {
        passes = p;
        moment = x;
        node = n;
        past = g;
        stands = s;
        on = on-here (first w n i) (second w n i j) k n e;
        left = left-eq q
            ∙ a;
        shown = shown-eq q ∙ b;
      }

  -- its sibling
  pub looked-next : seen_within (first w n i) (second w n i j) k ≡ false → (x : ℕ) → x ≤ j
      → (let m = ((w i).node n).sibling in ((w j).node m).left ≡ ((w x).node m).left → ((w j).node m).shown ≡ ((w x).node m).shown
      → Stands (w x) k l m → Looked w N k l n i j)
  looked-next e x g a b s =
      let q = stood-next (first w n i) (second w n i j) k e in
      record {
        passes = p;
        moment = x;
        node = ((w i).node n).sibling;
        past = g;
        stands = s;
        on = on-next (first w n i) (second w n i j) k n e;
        left = left-eq q ∙ a;
        shown = shown-eq q ∙ b;
      }

-- ---- the history of a level

-- Level l over the moments: up to the turn nothing changes of its nodes, fences and siblings, and no node lacks its slot; from the turn on
-- nothing changes again; over the turn, the node that stood for a key still leads to the one that stands for it.
pub record History (w : ℕ → View) (l : ℕ) : Type 0 where
  pub turn : ℕ
  pub early : (i j : ℕ) → i ≤ j → j < turn → Same l (w i) (w j)
  pub straight : (i : ℕ) → i < turn → Straight l (w i)
  pub crosses : (i j k n : ℕ) → i < turn → turn ≤ j → Stands (w i) k l n → Comes (w j) k l n
  pub late : (i j : ℕ) → turn ≤ i → i ≤ j → Same l (w i) (w j)
  pub lasts : (i j : ℕ) → i ≤ j → Lasts l (w i) (w j)
  pub stays : (i j n : ℕ) → i ≤ j → OnRow (w i) l n → OnRow (w j) l n

module _ (w : ℕ → View) (N k : ℕ) (orderly : (i : ℕ) → Orderly (w i)) (nodes : (i : ℕ) → (w i).nodes ≡ N) (l : ℕ) (y : History w l) where
  -- n stands for k, or n is come to when the level has turned
  arrive : (x n : ℕ) → Comes (w x) k l n → (x < y.turn → Stands (w x) k l n) → Right w N k l x n
  arrive x n c f i j g h = go (ltb i y.turn) (ltb x y.turn) refl refl
    where
      looks : Comes (w i) k l n → TwoLooks (w i) (w j) N k l n
      looks d = two-looks (w i) (w j) N k l n (orderly i) (nodes i) (y.lasts i j h) d

      before : Stands (w i) k l n → Looked w N k l n i j
      before s = let u = looks (stands-comes (w i) (orderly i) k l n s) in from u u.stands
        where
          from : (u : TwoLooks (w i) (w j) N k l n) → StaysOrMoves (w i) (w j) k l n → Looked w N k l n i j
          from u (inl a) = looked-here w N k l n i j h u.passes a.1 i h refl refl a.0
          from u (inr b) = absurd (false≢true (sym b.0 ∙ s.covers.inside))

      after : y.turn ≤ i → Comes (w i) k l n → Looked w N k l n i j
      after t d = let u = looks d in from u u.stands
        where
          from : (u : TwoLooks (w i) (w j) N k l n) → StaysOrMoves (w i) (w j) k l n → Looked w N k l n i j
          from u (inl a) = looked-here w N k l n i j h u.passes a.1 i h refl refl a.0
          from u (inr b) = looked-next w N k l n i j h u.passes b.2 j (omega arith) refl refl
              (same-stands (w i) (w j) (orderly i) (orderly j) l (y.late i j t h) k ((w i).node n).sibling b.1)

      go : (a b : Bool) → ltb i y.turn ≡ a → ltb x y.turn ≡ b → Looked w N k l n i j
      go true b p q = let t =
          ltb-true i y.turn p in before (same-stands (w x) (w i) (orderly x) (orderly i) l (y.early x i g t) k n (f (omega arith)))
      go false true p q = let t = ltb-false i y.turn p in let r = ltb-true x y.turn q in after t (y.crosses x i k n r t (f r))
      go false false p q = let t =
          ltb-false i y.turn p in after t (same-comes (w x) (w i) (orderly x) (orderly i) l (y.late x i (ltb-false x y.turn q) g) k n c)

  pub history-arrives : Arrives w N k l
  history-arrives x n c f = arrive x n c (λ h. f (y.straight x h))

-- the leaves
pub history-leaves : (w : ℕ → View) → ((i : ℕ) → Orderly (w i)) → History w 0 → Leaves w
history-leaves w orderly y = record {
  lasts = y.lasts;
  next = λ i j n h r z.
      let q = y.stays i j n h r in
      ((j, omega arith, sibling-row (w j) (orderly j) 0 n q z), (sib-facts (w j) n (each-mem (Good (w j)) (orderly j).good q.0) z).fence);
}
