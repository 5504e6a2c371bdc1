-- The check of a table by the checks of its trees.
use Rattle.std.proofs.Common.{◌≡◌, ℕ, zero, suc, ◌+◌, ◌≤◌, Bool, true, false, cond, ◌&&◌, ◌||◌, ◌≢◌, length, sym, refl, ap, ◌∙◌, arith}
use Rattle.std.proofs.Common.{eq-eqb, ne_eqb}
use mathlib.Core.Bool.{and-false, and-true}
use mathlib.Core.Option.{Option, some}
use Rattle.std.specs.Prelude.{None, Some}
use Rattle.std.specs.Result.{result_ok}
use Rattle.std.proofs.lemmas.Option.{none-some}
use Rattle.model.specs.Results.{Outcome, passed}
use Rattle.model.specs.Table.{Words, at, header_ok, header_number}
use Rattle.model.specs.Slots.{View, view_from, view_of}
use Rattle.model.specs.Reached.{reached, reached_all}
use Rattle.model.specs.SoundTest as model
use Rattle.model.specs.SoundTest.{leftover, is_nothing, sound_view, leftover_all, sound}
use Rattle.table_laws.proofs.Header.{header-number-iff, header-number-refused, header-iff}
use Rattle.walk_laws.specs.Chain.{last_leaf}
use Rattle.walk_laws.proofs.WalkLaw.{sound-in-order, in-order-few}
use Rattle.two_laws.proofs.CheckTwo.{beside, sound-by-trees, left-alone, left-beside, count-alone, count-beside}
use Rattle.sound.specs.declared.Leftover.{Leftover}
use Rattle.sound.specs.declared.Sound.{Sound}
use Rattle.sound.specs.Checked.{meant, Checked, found, sound_with, checked_tree, joined, checked}
use Rattle.sound.proofs.JudgeLaws.{SoundTree, tree-sound, tree-unsound, said-meant}

-- two sound trees without a common node: what the answers and the leftovers come to
joined-is : (x y : Leftover) (n : ℕ) (a b : Bool)
    → cond a (found y n) (cond b (found x n) None) ≡ sound_with (a || b) (cond a (some (meant y)) (some (meant x))) n
joined-is x y n true b = ap (λ (l : Leftover). found l n) (sym (said-meant y))
joined-is x y n false true = ap (λ (l : Leftover). found l n) (sym (said-meant x))
joined-is x y n false false = refl

-- ---- the whole table

-- what is known of a tree whose root was read from the header
module _ (t : Words) (w r : ℕ) (e : r ≡ at t w) where
  -- the check of the tree at the root that was read is that of the root in its header word
  pub tree-at : (a : Checked) → a ≡ checked_tree (view_from t r) → checked_tree (view_from t (at t w)) ≡ a
  tree-at a q = sym (q ∙ ap (λ (k : ℕ). checked_tree (view_from t k)) e)

  pub leaf-at : (n : ℕ) → n ≡ last_leaf (view_from t r) → n ≡ last_leaf (view_from t (at t w))
  leaf-at n q = q ∙ ap (λ (k : ℕ). last_leaf (view_from t k)) e

module _ (t : Words) where
  refused : sound t ≡ false → None ≡ checked t
  unfolding checked
  refused e = rw (e, checked)

  pub header-ok : (a : Outcome) {x : Unit {0}} → a ≡ passed (header_number t) → result_ok a ≡ Some x → header_ok t ≡ true
  header-ok a {x} e z = (header-number-iff t).0 (go (header_number t) (ap result_ok (sym e) ∙ z))
    where
      go : (n : ℕ) → result_ok (passed n) ≡ Some x → n ≡ 0
      go zero h = refl
      go (suc n) h = absurd (none-some x h)

  pub wrong-header : (a : Outcome) → a ≡ passed (header_number t) → result_ok a ≡ None → None ≡ checked t
  wrong-header a e z = refused (unfold sound in rw (header-number-refused t (λ q. none-some tt (sym z ∙ ap result_ok (e ∙ ap passed q)))))

  answer-is : (b : Bool) (o : Option model.Leftover) (n : ℕ) → sound t ≡ b → leftover_all t ≡ o → length (reached_all t) ≡ n
      → sound_with b o n ≡ checked t
  unfolding checked
  answer-is b o n p q r =
      sym
      (ap (λ (x : Bool). sound_with x (leftover_all t) (length (reached_all t))) p
      ∙ ap (λ (x : Option model.Leftover). sound_with b x (length (reached_all t))) q
      ∙ ap (sound_with b o) r)

  module _ (h : header_ok t ≡ true) where
    abbrev v₁ : View
    v₁ = view_of 1 t

    abbrev v₂ : View
    v₂ = view_of 2 t

    pub one-tree : at t 3 ≡ 0 → checked_tree (view_of 1 t) ≡ checked t
    unfolding checked_tree
    one-tree z =
        let s : sound t ≡ sound_view v₁ = sound-by-trees t ∙ rw (h, eq-eqb (at t 3) 0 z, and-true (sound_view v₁)) in
        answer-is (sound_view v₁) (leftover v₁) (length (reached v₁)) s (left-alone t z) (count-alone t z)

    pub first-wrong : checked_tree (view_of 1 t) ≡ None → None ≡ checked t
    first-wrong e = refused (sound-by-trees t ∙ rw (h, tree-unsound v₁ e))

    module _ (z : at t 3 ≢ 0) where
      by-two : sound t ≡ (sound_view v₁ && (sound_view v₂ && beside v₁ v₂))
      by-two = sound-by-trees t ∙ rw (h, ne_eqb (at t 3) 0 z)

      pub second-wrong : checked_tree (view_of 2 t) ≡ None → None ≡ checked t
      second-wrong e = refused (by-two ∙ rw (tree-unsound v₂ e, and-false (sound_view v₁)))

-- two sound trees, with these leftovers and so many nodes
pub record BothSound (t : Words) (x y : Leftover) (c d : ℕ) : Type 0 where
  pub header : header_ok t ≡ true
  pub there : at t 3 ≢ 0
  pub one : SoundTree (view_of 1 t) x c
  pub two : SoundTree (view_of 2 t) y d

-- as they were checked, from the roots r and q
pub both-checked : (t : Words) (r q : ℕ) (x y : Sound) → header_ok t ≡ true → r ≡ at t 1 → q ≡ at t 3 → (q ≡ 0 → ⊥) → Some x
    ≡ checked_tree (view_from t r) → Some y ≡ checked_tree (view_from t q)
    → BothSound t x.leftover y.leftover x.reached y.reached
both-checked t r q x y h e g z a b = record {
  header = h;
  there = λ i. z (g ∙ i);
  one = tree-sound (view_of 1 t) x.leftover x.reached (tree-at t 1 r e (Some x) a);
  two = tree-sound (view_of 2 t) y.leftover y.reached (tree-at t 3 q g (Some y) b);
}

module _ {t : Words} {x y : Leftover} {c d : ℕ} (k : BothSound t x y c d) where
  abbrev last₁ : ℕ
  last₁ = last_leaf (view_of 1 t)

  abbrev last₂ : ℕ
  last₂ = last_leaf (view_of 2 t)

  by-beside : sound t ≡ beside (view_of 1 t) (view_of 2 t)
  by-beside = by-two t k.header k.there ∙ rw (k.one.is-sound, k.two.is-sound)

  pub few-reached : c + d ≤ 131070
  few-reached =
      let few : (v : View) (l : Leftover) (n : ℕ) → SoundTree v l n → n ≤ v.nodes =
      λ v l n s. omega (arith, s.reached-are, in-order-few v (sound-in-order v s.is-sound)) in
      omega (arith, few (view_of 1 t) x c k.one, few (view_of 2 t) y d k.two, ((header-iff t).0 k.header).size.few)

  pub same-leaf : last_leaf (view_of 1 t) ≡ last_leaf (view_of 2 t) → None ≡ checked t
  same-leaf e = refused t (by-beside ∙ rw (eq-eqb last₁ last₂ e))

  pub both-trees : last_leaf (view_of 1 t) ≢ last_leaf (view_of 2 t) → joined x y (c + d) ≡ checked t
  both-trees e =
      let p = is_nothing (some (meant x)) in
      let q = is_nothing (some (meant y)) in
      let s : sound t ≡ (p || q) = by-beside ∙ rw (ne_eqb last₁ last₂ e, k.one.leftover-is, k.two.leftover-is) in
      let l : leftover_all t ≡ cond p (some (meant y)) (some (meant x)) =
      left-beside t k.there ∙ rw (k.one.leftover-is, k.two.leftover-is) in
      let n : length (reached_all t) ≡ c + d =
      count-beside t k.there
      ∙ sym (ap (λ (m : ℕ). m + d) k.one.reached-are ∙ ap (λ (m : ℕ). length (reached (view_of 1 t)) + m) k.two.reached-are) in
      joined-is x y (c + d) p q ∙ answer-is t (p || q) (cond p (some (meant y)) (some (meant x))) (c + d) s l n
