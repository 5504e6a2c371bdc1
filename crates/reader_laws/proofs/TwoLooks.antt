-- Two looks of a search, at a node and at its sibling, the second perhaps at a later moment.
use Rattle.std.proofs.Common.{◌≡◌, ℕ, Bool, true, false, ◌||◌, eqb, ltb, ◌≢◌, ◌⊎◌, sym, refl, ap, ◌∙◌, inl, inr}
use borrow.Author.Tests.{eqb-false}
use Rattle.model.specs.Table.{in_range}
use Rattle.model.specs.Slots.{NodeView, View}
use Rattle.model.specs.Search.{below, within, on_level}
use Rattle.model.specs.Looks.{seen_on, seen_pass, seen_within, stood, stood_on}
use Rattle.list_laws.proofs.Tools.{decode, or-right}
use Rattle.tree_laws.proofs.Levels.{Orderly}
use Rattle.tree_laws.proofs.Cover.{stays, moves}
use Rattle.tree_laws.proofs.SearchLaw.{Stands}
use Rattle.step_laws.proofs.Rowwise.{Lasts, Comes, sibling-row, row-range}

-- ---- any two nodes seen

module _ (x y : NodeView) (k : ℕ) where
  pub stood-here : seen_within x y k ≡ true → stood x y k ≡ x
  unfolding stood
  stood-here e = rw (e, stood)

  pub stood-next : seen_within x y k ≡ false → stood x y k ≡ y
  unfolding stood
  stood-next e = rw (e, stood)

  pub on-here : (n : ℕ) → seen_within x y k ≡ true → stood_on n x y k ≡ n
  unfolding stood_on
  on-here n e = rw (e, stood_on)

  pub on-next : (n : ℕ) → seen_within x y k ≡ false → stood_on n x y k ≡ x.sibling
  unfolding stood_on
  on-next n e = rw (e, stood_on)

-- the tests, from what they ask
pub seen-pass : (N l n : ℕ) (x y : NodeView) → in_range N n ≡ true → x.level ≡ l
    → (x.sibling ≢ 0 → (in_range N x.sibling ≡ true) × (y.level ≡ l)) → seen_pass N l n x y ≡ true
unfolding seen_pass seen_on on_level
seen-pass N l n x y r e h = simp decode ((r, e), go (eqb x.sibling 0) refl)
  where
    go : (b : Bool) → eqb x.sibling 0 ≡ b → eqb x.sibling 0 || seen_on N l x.sibling y ≡ true
    go true c = rw c
    go false c = or-right (eqb x.sibling 0) _ (simp decode (h (eqb-false x.sibling 0 c)))

-- ---- at n in v and at its sibling in w, where the level has lasted

-- n stands for k and the search stays, or its sibling does and it moves
abbrev pub StaysOrMoves : (v w : View) → (k l n : ℕ) → Type 0
StaysOrMoves v w k l n =
    (Stands v k l n × (seen_within (v.node n) (w.node (v.node n).sibling) k ≡ true))
    ⊎ ((within v n k ≡ false) × Stands v k l (v.node n).sibling × (seen_within (v.node n) (w.node (v.node n).sibling) k ≡ false))

pub record TwoLooks (v w : View) (N k l n : ℕ) : Type 0 where
  pub passes : seen_pass N l n (v.node n) (w.node (v.node n).sibling) ≡ true
  pub stands : StaysOrMoves v w k l n

module _ (v w : View) (N k l n : ℕ) (o : Orderly v) (e : v.nodes ≡ N) (a : Lasts l v w) (c : Comes v k l n) where
  abbrev s : ℕ
  s = (v.node n).sibling

  in-range : (m : ℕ) → in_range v.nodes m ≡ true → in_range N m ≡ true
  in-range m q = ap (λ (i : ℕ). in_range i m) (sym e) ∙ q

  same-within : seen_within (v.node n) (w.node s) k ≡ within v n k
  unfolding seen_within below
  same-within = go (eqb s 0) refl
    where
      go : (b : Bool) → eqb s 0 ≡ b → eqb s 0 || ltb k (w.node s).fence ≡ eqb s 0 || ltb k (v.node s).fence
      go true q = rw q
      go false q = ap (λ (f : ℕ). eqb s 0 || ltb k f) (a.fence s (sibling-row v o l n c.row (eqb-false s 0 q)))

  pub two-looks : TwoLooks v w N k l n
  two-looks = record {
    passes = seen-pass N l n (v.node n) (w.node s) (in-range n (row-range v o l n c.row)) c.row.1
        (λ z. let r = sibling-row v o l n c.row z in (in-range s (row-range v o l s r), a.level s r));
    stands = go (within v n k) refl;
  }
    where
      go : (b : Bool) → within v n k ≡ b → StaysOrMoves v w k l n
      go true q = inl (rw (stays v k n q) at c.stands, same-within ∙ q)
      go false q = inr (q, rw (moves v k n q) at c.stands, same-within ∙ q)
