-- The trees of a sound table: their nodes, and which of them has the leftover.
use Rattle.std.proofs.Common.{◌≡◌, ℕ, ◌+◌, ◌≤◌, true, cond, eqb, ◌≢◌, ◌⊎◌, [], ◌∷◌, length, replicate, sym, ap, ◌∙◌, inl, inr, arith}
use Rattle.std.proofs.Common.{eq-eqb, ne_eqb}
use mathlib.Core.Bool.{false≢true}
use mathlib.Core.Option.{Option, some}
use Rattle.std.specs.Prelude.{None}
use Rattle.model.specs.Table.{Words, at, header_ok}
use Rattle.model.specs.Slots.{view_from, view_of}
use Rattle.model.specs.Reached.{reached, reached_all}
use Rattle.model.specs.SoundTest as model
use Rattle.model.specs.SoundTest.{leftover, is_nothing, sound_view, sound}
use Rattle.list_laws.proofs.Tools.{same-or-not}
use Rattle.two_laws.proofs.SameTwo.{first-there, second-there}
use Rattle.two_laws.proofs.SearchTwo.{sound-head}
use Rattle.two_laws.proofs.CollectionTwo.{collection-sound}
use Rattle.two_laws.proofs.CheckTwo.{left-alone, count-alone, count-beside}
use Rattle.sound.specs.declared.Leftover.{Leftover}
use Rattle.sound.specs.Checked.{meant, found, checked_tree, checked}
use Rattle.sound.proofs.JudgeLaws.{SoundTree, SoundWith, tree-sound, tree-unsound, checked-sound}
use Rattle.sound.proofs.TreesLaws.{tree-at}
use Rattle.model.specs.Statistics.{left_in, tree_words}

module _ (t : Words) (s : sound t ≡ true) where
  first-sound : sound_view (view_of 1 t) ≡ true
  first-sound = collection-sound 1 t s (first-there t)

  -- what the figures of a tree ask, whose root was read from word w
  abbrev pub Ready : (r n : ℕ) → Type 0
  Ready r n = (header_ok t ≡ true) × ((sound_view (view_from t r) ≡ true) × (n ≡ length (reached (view_from t r))))

  ready : (w r n : ℕ) → r ≡ at t w → sound_view (view_from t (at t w)) ≡ true → n ≡ length (reached (view_from t (at t w))) → Ready r n
  ready w r n e a b = (
    sound-head t s,
    (
      ap (λ (k : ℕ). sound_view (view_from t k)) e ∙ a,
      b ∙ sym (ap (λ (k : ℕ). length (reached (view_from t k))) e),
    ),
  )

  pub first-ready : (r n : ℕ) → r ≡ at t 1 → n ≡ length (reached (view_of 1 t)) → Ready r n
  first-ready r n e b = ready 1 r n e first-sound b

  pub first-few : length (reached (view_of 1 t)) ≤ length (reached_all t)
  first-few = go (same-or-not (at t 3) 0)
    where
      go : (at t 3 ≡ 0) ⊎ (at t 3 ≢ 0) → length (reached (view_of 1 t)) ≤ length (reached_all t)
      go (inl z) = omega (arith, count-alone t z)
      go (inr z) = omega (arith, count-beside t z)

  -- the second tree, whose root is r
  module _ (r : ℕ) (e : r ≡ at t 3) where
    there : (r ≡ 0 → ⊥) → at t 3 ≢ 0
    there o z = o (e ∙ z)

    pub second-ready : (r ≡ 0 → ⊥) → (n : ℕ) → length (reached (view_of 1 t)) + n ≡ length (reached_all t) → Ready r n
    second-ready o n q = let z = there o in let c =
        count-beside t z in ready 3 r n e (collection-sound 2 t s (second-there t z)) (omega (arith, q, c))

-- zeros if there is no second tree
abbrev pub second_words : Words → Words
second_words t = cond (eqb (at t 3) 0) (replicate 3 0) (tree_words (view_of 2 t))

module _ (t : Words) (r : ℕ) (e : r ≡ at t 3) where
  pub second-none : r ≡ 0 → 0 ∷ 0 ∷ 0 ∷ [] ≡ second_words t
  second-none z = rw (eq-eqb (at t 3) 0 (sym e ∙ z))

  pub second-words : (r ≡ 0 → ⊥) → (ws : Words) → ws ≡ tree_words (view_from t r) → ws ≡ second_words t
  second-words o ws q = rw (ne_eqb (at t 3) 0 (λ z. o (e ∙ z))) (q ∙ ap (λ (k : ℕ). tree_words (view_from t k)) e)

-- ---- with this leftover and so many nodes reached

module _ (t : Words) (x : Leftover) (c : ℕ) (h : checked t ≡ found x c) where
  pub whole : SoundWith t x c
  whole = (checked-sound t x c).0 h

  pub header : header_ok t ≡ true
  header = sound-head t whole.is-sound

  abbrev First : ℕ → ℕ → Type 0
  First n l = (n ≡ length (reached (view_of 1 t))) × (l ≡ left_in t)

  left-from : (y : Leftover) → leftover (view_of 1 t) ≡ some (meant y) → (l : ℕ) → l
      ≡ cond (is_nothing (some (meant y))) 2 1 → l ≡ left_in t
  unfolding left_in
  left-from y e l q = q ∙ ap (λ (o : Option model.Leftover). cond (is_nothing o) 2 1) (sym e)

  -- they are the first tree's if there is no other
  pub first-alone : at t 3 ≡ 0 → (l : ℕ) → l ≡ cond (is_nothing (some (meant x))) 2 1 → First c l
  first-alone z l q = (whole.reached-are ∙ count-alone t z, left-from x (sym (left-alone t z) ∙ whole.leftover-is) l q)

  -- else the first tree is checked by itself
  module _ (r : ℕ) (e : r ≡ at t 1) where
    pub first-beside : (y : Leftover) (n : ℕ) → found y n ≡ checked_tree (view_from t r) → (l : ℕ) → l
        ≡ cond (is_nothing (some (meant y))) 2 1 → First n l
    first-beside y n a l b =
        let k : SoundTree (view_of 1 t) y n = tree-sound (view_of 1 t) y n (tree-at t 1 r e (found y n) a) in
        (k.reached-are, left-from y k.leftover-is l b)

    pub first-never : None ≡ checked_tree (view_from t r) → First 0 0
    first-never a =
        absurd (false≢true (sym (tree-unsound (view_of 1 t) (tree-at t 1 r e None a)) ∙ first-sound t whole.is-sound))
