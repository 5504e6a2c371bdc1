-- The soundness test of one or two collections, tree by tree. That no node is reached from both roots is one comparison: the last leaves
-- differ.
use Rattle.std.proofs.Common.{◌≡◌, ℕ, ◌+◌, Bool, true, cond, not, ◌&&◌, ◌||◌, eqb, ◌≢◌, ◌⊎◌, ◌↔◌, List, [], ◌++◌, length, sym, refl, ap}
use Rattle.std.proofs.Common.{◌∙◌, inl, inr, append-nil, length-append, eq-eqb, ne_eqb, eqb-true}
use mathlib.Core.Bool.{false≢true}
use mathlib.Core.Logic.{⊎_map}
use mathlib.Core.Option.{Option, none, some}
use borrow.Author.Tests.{eqb-false}
use Rattle.model.specs.Table.{Words, at, header_ok}
use Rattle.model.specs.Slots.{View, view_of}
use Rattle.model.specs.Reached.{reached, reached_all}
use Rattle.model.specs.SoundTest.{distinct, orderly, Leftover, nothing, hidden_in, missing_in, both_in, leftover, is_nothing, settled_view}
use Rattle.model.specs.SoundTest.{sound_view, leftover_in, leftover_all, sound, settled}
use Rattle.list_laws.proofs.Tools.{and-iff, or-iff, not-iff, same-test, same-or-not}
use Rattle.tree_laws.proofs.Levels.{orderly-iff}
use Rattle.sound_laws.proofs.Same.{sound-orderly}
use Rattle.walk_laws.specs.Chain.{last_leaf}
use Rattle.two_laws.proofs.Arrange.{head-iff, trees-one, trees-two, all-one, all-two, tree-settled, settled-tree, sound-tree, left-all}
use Rattle.two_laws.proofs.SameTwo.{EachSound, each-sound}
use Rattle.two_laws.proofs.ApartIff.{apart-iff}

-- a sound tree is settled exactly if nothing is left
nothing-left : (v : View) → sound_view v ≡ true → settled_view v ≡ is_nothing (leftover v)
unfolding settled_view
nothing-left v s = rw (sound-orderly v s)

-- ---- sound, by its trees

-- two trees: no node is reached from both roots, and nothing is left in one of them
abbrev pub beside : View → View → Bool
beside v w = not (eqb (last_leaf v) (last_leaf w)) && (is_nothing (leftover v) || is_nothing (leftover w))

module _ (t : Words) where
  abbrev v₁ : View
  v₁ = view_of 1 t

  abbrev v₂ : View
  v₂ = view_of 2 t

  differ-iff : orderly v₁ ≡ true → orderly v₂ ≡ true
      → (distinct (reached v₁ ++ (reached v₂ ++ [])) ≡ true) ↔ (not (eqb (last_leaf v₁) (last_leaf v₂)) ≡ true)
  differ-iff a b =
      let i = apart-iff v₁ (at t 3) ((orderly-iff v₁).0 a) ((orderly-iff v₂).0 b) in
      rw (append-nil (reached v₂)) (λ d. (not-iff _).1 (ne_eqb _ _ (i.0 d)), λ e. i.1 (eqb-false _ _ ((not-iff _).0 e)))

  abbrev second : Bool
  second = sound_view v₂ && beside v₁ v₂

  abbrev both : Bool
  both = sound_view v₁ && (eqb (at t 3) 0 || second)

  to : EachSound t → (header_ok t && both) ≡ true
  to h = (and-iff (header_ok t) both).1 (
    (head-iff t).1 h.head,
    (and-iff (sound_view v₁) (eqb (at t 3) 0 || second)).1 (h.one, (or-iff (eqb (at t 3) 0) second).1 (go (same-or-not (at t 3) 0))),
  )
    where
      go : (at t 3 ≡ 0) ⊎ (at t 3 ≢ 0) → (eqb (at t 3) 0 ≡ true) ⊎ (second ≡ true)
      go (inl z) = inl (eq-eqb (at t 3) 0 z)
      go (inr z) =
          let d = (differ-iff (sound-orderly v₁ h.one) (sound-orderly v₂ (h.two z))).0 (h.once z) in
          let l = ⊎_map (λ e. sym (nothing-left v₁ h.one) ∙ e) (λ e. sym (nothing-left v₂ (h.two z)) ∙ e) (h.left z) in
          inr ((and-iff (sound_view v₂) (beside v₁ v₂)).1
          (h.two z, (and-iff _ _).1 (d, (or-iff (is_nothing (leftover v₁)) (is_nothing (leftover v₂))).1 l)))

  from : (header_ok t && both) ≡ true → EachSound t
  from e =
      let u = (and-iff (header_ok t) both).0 e in
      let p = (and-iff (sound_view v₁) (eqb (at t 3) 0 || second)).0 u.1 in
      let two : at t 3 ≢ 0 → (sound_view v₂ ≡ true) × (beside v₁ v₂ ≡ true) =
      λ z. (and-iff (sound_view v₂) (beside v₁ v₂)).0 (there z ((or-iff (eqb (at t 3) 0) second).0 p.1)) in
      let rest : (z : at t 3 ≢ 0) → (not (eqb (last_leaf v₁) (last_leaf v₂)) ≡ true)
      × ((is_nothing (leftover v₁) || is_nothing (leftover v₂)) ≡ true) = λ z. (and-iff _ _).0 (two z).1 in
      record {
        head = (head-iff t).0 u.0;
        one = p.0;
        two = λ z. (two z).0;
        once = λ z. (differ-iff (sound-orderly v₁ p.0) (sound-orderly v₂ (two z).0)).1 (rest z).0;
        left = λ z. ⊎_map (λ q. nothing-left v₁ p.0 ∙ q) (λ q. nothing-left v₂ (two z).0 ∙ q)
            ((or-iff (is_nothing (leftover v₁)) (is_nothing (leftover v₂))).0 (rest z).1);
      }
    where
      there : at t 3 ≢ 0 → (eqb (at t 3) 0 ≡ true) ⊎ (second ≡ true) → second ≡ true
      there z (inl e) = absurd (z (eqb-true (at t 3) 0 e))
      there z (inr e) = e

  -- Sound: each tree is, they share no node, and nothing is left in one of them.
  pub sound-by-trees :
      sound t ≡ (header_ok t &&
      (sound_view (view_of 1 t) && (eqb (at t 3) 0 || (sound_view (view_of 2 t) && beside (view_of 1 t) (view_of 2 t)))))
  sound-by-trees = same-test (sound t) (header_ok t && both) (λ s. to ((each-sound t).0 s), λ e. (each-sound t).1 (from e))

  -- ---- what is left in the whole table, and how many nodes are reached

  is-nothing : (x : Option Leftover) → cond (is_nothing x) (some nothing) x ≡ x
  is-nothing none = refl
  is-nothing (some nothing) = refl
  is-nothing (some (hidden_in n)) = refl
  is-nothing (some (missing_in p a trailing)) = refl
  is-nothing (some (both_in p a)) = refl

  module _ (z : at t 3 ≡ 0) where
    -- what is left over in a table of one tree is what is left over in that tree
    pub left-alone : leftover_all t ≡ leftover (view_of 1 t)
    unfolding leftover_in
    left-alone = rw (trees-one t z) (is-nothing (leftover v₁))

    -- a table of one tree reaches as many nodes as that tree
    pub count-alone : length (reached_all t) ≡ length (reached (view_of 1 t))
    count-alone = ap length (all-one t z ∙ append-nil (reached v₁))

  module _ (z : at t 3 ≢ 0) where
    -- what is left over in a table of two trees is the first tree's, or the second's if the first has nothing
    pub left-beside : leftover_all t ≡ cond (is_nothing (leftover (view_of 1 t))) (leftover (view_of 2 t)) (leftover (view_of 1 t))
    unfolding leftover_in
    left-beside = rw (trees-two t z, is-nothing (leftover v₂))

    -- a table of two trees reaches as many nodes as both together
    pub count-beside : length (reached_all t) ≡ length (reached (view_of 1 t)) + length (reached (view_of 2 t))
    count-beside = ap length (all-two t z) ∙ ap (λ (ns : List ℕ). length (reached v₁ ++ ns)) (append-nil (reached v₂))
        ∙ length-append (reached v₁) (reached v₂)

-- ---- settled: sound, with nothing left

only-nothing : (y : Leftover) → is_nothing (some y) ≡ true → y ≡ nothing
only-nothing nothing e = refl
only-nothing (hidden_in x) e = absurd (false≢true e)
only-nothing (missing_in p a trailing) e = absurd (false≢true e)
only-nothing (both_in p a) e = absurd (false≢true e)

-- a sound table has nothing left over exactly if it is settled
pub nothing-settled : (t : Words) (y : Leftover) → sound t ≡ true → leftover_all t ≡ some y → is_nothing (some y) ≡ settled t
nothing-settled t y s e =
    let u = sound-tree t s in
    let l = left-all u.word u.others t u.leftover u.arranged u.tree in
    let q : some u.leftover ≡ some y = sym l ∙ e in
    let same : u.leftover ≡ y = cc in
    same-test (is_nothing (some y)) (settled t) (
      λ h. tree-settled u.word u.others t u.arranged (rw (same ∙ only-nothing y h) at u.tree),
      λ h. let n = left-all u.word u.others t nothing u.arranged (settled-tree u.word u.others t u.arranged h) in
          let z : some nothing ≡ some y = sym n ∙ e in
          let w : nothing ≡ y = cc in
          rw (← w) refl,
    )
