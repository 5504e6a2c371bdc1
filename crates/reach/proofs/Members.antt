-- A sound table: its header, and which of its nodes are reached, from a root and from either.
use Rattle.std.proofs.Common.{◌≡◌, ℕ, ◌-◌, ◌<◌, ◌≤◌, Bool, true, false, eqb, leb, ◌≢◌, ◌⊎◌, length, sym, refl, ap, ◌∙◌, inl, inr, arith}
use Rattle.std.proofs.Common.{eq-eqb, eqb-true, leb-false, leb-true}
use Rattle.model.specs.Table.{Words, at, nodes}
use Rattle.model.specs.Slots.{View, view_from, view_of, height}
use Rattle.model.specs.Reached.{reached, reached_all}
use Rattle.model.specs.SoundTest.{elem, sound_view, sound}
use Rattle.model.specs.Writes.{standing_in}
use Rattle.view_laws.proofs.NodeViews.{level_of}
use Rattle.list_laws.proofs.Tools.{same-test, same-or-not}
use Rattle.list_laws.proofs.Members.{each-mem, elem-iff}
use Rattle.list_laws.proofs.Distinct.{UpTo}
use Rattle.table_laws.proofs.Header.{header-iff}
use Rattle.tree_laws.proofs.Levels.{Orderly, sound-orderly}
use Rattle.tree_laws.proofs.SearchLaw.{path-root, reached-iff}
use Rattle.two_laws.proofs.SearchTwo.{sound-head}
use Rattle.two_laws.proofs.Arrange.{root-in}
use Rattle.two_laws.proofs.SameTwo.{first-there}
use Rattle.two_laws.proofs.CollectionTwo.{root-range, collection-orderly, elem-alone, elem-beside, reached-up}
use Rattle.node.specs.Word.{word_of}
use Rattle.node.proofs.WordLaws.{word-level, word-fence}
use Rattle.search.proofs.Standing.{header-words}

pub sound-words : (t : Words) → sound t ≡ true → 40 ≤ length t
sound-words t h = header-words t (sound-head t h)

pub sound-few : (t : Words) → sound t ≡ true → nodes t ≤ 65535
sound-few t h = ((header-iff t).0 (sound-head t h)).size.few

pub sound-height : (t : Words) (r top : ℕ) → sound_view (view_from t r) ≡ true → top ≡ word_of t r 2 → top ≤ 15
sound-height t r top h e = rw (e ∙ word-level t r) (sound-orderly (view_from t r) h).top.level

-- ---- from a root

module _ (v : View) (o : Orderly v) where
  -- a search stopped above the root's level stands on the root
  top-most : (l k : ℕ) → height v < l → standing_in v l k ≡ v.root
  unfolding standing_in
  top-most l k h = let e : height v - l ≡ 0 = omega arith in rw e (path-root v k o)

  not-above : (n : ℕ) → standing_in v (v.node n).level (v.node n).fence ≡ n → (b : Bool) → leb (v.node n).level (height v) ≡ b
      → (v.node n).level ≤ height v
  not-above n e true c = leb-true _ _ c
  not-above n e false c =
      let h = leb-false (v.node n).level (height v) c in
      absurd (omega (arith, ap (level_of v) (sym (top-most (v.node n).level (v.node n).fence h) ∙ e)))

  -- n is reached exactly if the search for its fence, stopped on its level, stands on it
  pub reached-stands : (n : ℕ) → eqb (standing_in v (v.node n).level (v.node n).fence) n ≡ elem n (reached v)
  unfolding standing_in
  reached-stands n =
      let r = standing_in v (v.node n).level (v.node n).fence in
      let i = reached-iff v n o in
      let low : r ≡ n → (v.node n).level ≤ height v = λ e. not-above n e (leb (v.node n).level (height v)) refl in
      same-test (eqb r n) (elem n (reached v)) (
        λ b. let e = eqb-true r n b in (elem-iff n (reached v)).1 (i.1 (low e, e)),
        λ b. eq-eqb r n (i.0 ((elem-iff n (reached v)).0 b)).1,
      )

-- the same, from the words that the code has read
pub stands-there : (t : Words) (q n l f r : ℕ) → sound_view (view_from t q) ≡ true → l ≡ word_of t n 2 → f ≡ word_of t n 3 → r
    ≡ standing_in (view_from t q) l f → eqb r n ≡ elem n (reached (view_from t q))
stands-there t q n l f r h e g s =
    rw (s, e ∙ word-level t n, g ∙ word-fence t n) (reached-stands (view_from t q) (sound-orderly (view_from t q) h) n)

-- ---- from either, by the tests in the order of the code

module _ (t : Words) (m : ℕ) (a : Bool) (e : a ≡ elem m (reached (view_of 1 t))) where
  pub taken-first : a ≡ true → true ≡ elem m (reached_all t)
  taken-first y = sym (go (same-or-not (at t 3) 0))
    where
      go : (at t 3 ≡ 0) ⊎ (at t 3 ≢ 0) → elem m (reached_all t) ≡ true
      go (inl z) = elem-alone t z m ∙ sym e ∙ y
      go (inr z) = elem-beside t z m ∙ rw (sym e ∙ y)

  pub taken-alone : a ≡ false → at t 3 ≡ 0 → false ≡ elem m (reached_all t)
  taken-alone y z = sym (elem-alone t z m ∙ sym e ∙ y)

  pub taken-second : a ≡ false → at t 3 ≢ 0 → (b : Bool) → b ≡ elem m (reached (view_of 2 t)) → b ≡ elem m (reached_all t)
  taken-second y z b f = f ∙ sym (elem-beside t z m ∙ rw (sym e ∙ y))

-- ---- the first root

root-orderly : (t : Words) → sound t ≡ true → Orderly (view_of 1 t)
root-orderly t s = collection-orderly 1 t s (first-there t)

pub root-few : (t : Words) → sound t ≡ true → at t 1 ≤ 65535
root-few t s = omega (arith, sound-few t s, (root-range 1 t (sound-head t s) (first-there t)).1)

pub root-taken : (t : Words) → sound t ≡ true → elem (at t 1) (reached_all t) ≡ true
root-taken t s = sym
    (taken-first t (at t 1) true (sym ((elem-iff (at t 1) (reached (view_of 1 t))).1 (root-in (view_of 1 t) (root-orderly t s)))) refl)

-- no node has number 0
pub zero-free : (t : Words) → sound t ≡ true → elem 0 (reached_all t) ≡ false
zero-free t s = go (elem 0 (reached_all t)) refl
  where
    go : (b : Bool) → elem 0 (reached_all t) ≡ b → elem 0 (reached_all t) ≡ false
    go false e = e
    go true e = let h = (each-mem (UpTo (nodes t)) (reached-up t s) ((elem-iff 0 (reached_all t)).0 e)).0 in absurd (omega (arith, h))
