-- The survey of a node's slots: its tests and steps as their code meets them, and what it comes to.
use Rattle.std.proofs.Common.{◌≡◌, ℕ, suc, ◌+◌, ◌≤◌, Bool, true, false, cond, not, ◌&&◌, ◌||◌, eqb, leb, List, [], ◌∷◌, length, sym, refl}
use Rattle.std.proofs.Common.{ap, ◌∙◌, arith, eq-eqb, ne_eqb, eqb-true}
use mathlib.Core.Bool.{and-true, or-false}
use borrow.Author.Tests.{eqb-false}
use Rattle.model.specs.declared.Node.{Node}
use Rattle.model.specs.Slots.{Slot, slot, shown, hidden_slots}
use Rattle.model.specs.Reached.{filter}
use Rattle.model.specs.SoundTest.{all, rising, come_first}
use Rattle.list_laws.proofs.Filters.{filter-yes, filter-no}
use Rattle.slots.specs.declared.Low.{Low}
use Rattle.slots.specs.declared.Low.TheVariants.{AtLeast, Above}
use Rattle.slots.specs.declared.Survey.{Survey}
use Rattle.slots.specs.Scan.{used_from, keeps, is_kept}
use Rattle.slots.specs.Surveyed.{first_low, reaches, still_fair, hiding, trailed, keeping, surveyed_slot, surveyed, begun}
use Rattle.slots.proofs.Scans.{shown-hide, shown-show, hidden-hide, hidden-show}

-- ---- before the first slot

pub survey-begun : (x : Node) (e : ℕ) {l : Low} → l ≡ first_low x.level x.fence
    → surveyed x.sibling e (used_from x.slots 0) (record { fair = true; trailing = false; low = l; before = x.left; hidden = 0 })
    ≡ surveyed x.sibling e (used_from x.slots 0) (begun x)
survey-begun x e q = rw q

-- ---- a slot of the survey

module _ (sibling e k p : ℕ) (s : Survey) where
  pub survey-hiding : p ≡ s.before → hiding p s ≡ surveyed_slot sibling e k p s
  unfolding surveyed_slot
  survey-hiding h = ap (λ (b : Bool). cond b (hiding p s) (cond (keeps sibling e k) (keeping k p s) (trailed p s)))
      (sym (eq-eqb p s.before h))

  survey-shown : (p ≡ s.before → ⊥) → cond (keeps sibling e k) (keeping k p s) (trailed p s) ≡ surveyed_slot sibling e k p s
  unfolding surveyed_slot
  survey-shown h = ap (λ (b : Bool). cond b (hiding p s) (cond (keeps sibling e k) (keeping k p s) (trailed p s)))
      (sym (ne_eqb p s.before h))

  pub survey-trailing : (p ≡ s.before → ⊥) → keeps sibling e k ≡ false → trailed p s ≡ surveyed_slot sibling e k p s
  survey-trailing h c = ap (λ (b : Bool). cond b (keeping k p s) (trailed p s)) (sym c) ∙ survey-shown h

  pub survey-keeping : (f : Bool) → f ≡ still_fair s k → (p ≡ s.before → ⊥) → keeps sibling e k ≡ true
      → record { fair = f; trailing = s.trailing; low = Above k; before = p; hidden = s.hidden } ≡ surveyed_slot sibling e k p s
  survey-keeping f q h c =
      ap (λ (b : Bool). record { fair = b; trailing = s.trailing; low = Above k; before = p; hidden = s.hidden }) q
      ∙ ap (λ (b : Bool). cond b (keeping k p s) (trailed p s)) (sym c) ∙ survey-shown h

  -- the loop: with none left, and with a slot more
  pub survey-none : surveyed sibling e [] s ≡ s
  unfolding surveyed
  survey-none = refl

  pub survey-more : (r : Survey) (ss : List Slot) → r ≡ surveyed_slot sibling e k p s → surveyed sibling e (slot k p ∷ ss) s
      ≡ surveyed sibling e ss r
  unfolding surveyed
  survey-more r ss q = ap (surveyed sibling e ss) (sym q)

  pub survey-hidden : (r : Survey) → r ≡ surveyed_slot sibling e k p s → r.hidden ≤ s.hidden + 1
  unfolding surveyed_slot
  survey-hidden r q = go (eqb p s.before) (keeps sibling e k) q
    where
      go : (a b : Bool) → r ≡ cond a (hiding p s) (cond b (keeping k p s) (trailed p s)) → r.hidden ≤ s.hidden + 1
      go true b q = omega (arith, ap (λ (x : Survey). x.hidden) q)
      go false true q = omega (arith, ap (λ (x : Survey). x.hidden) q)
      go false false q = omega (arith, ap (λ (x : Survey). x.hidden) q)

-- ---- what it comes to

first-yes : (q : Slot → Bool) (x : Slot) (xs : List Slot) → q x ≡ true → come_first q (x ∷ xs) ≡ come_first q xs
unfolding come_first
first-yes q x xs c = rw (c, come_first)

first-no : (q : Slot → Bool) (x : Slot) (xs : List Slot) → q x ≡ false → come_first q (x ∷ xs) ≡ all (λ (y : Slot). not (q y)) xs
unfolding come_first
first-no q x xs c = rw (c, come_first)

-- the lowest key that a kept slot may have
abbrev pub lowest : Low → ℕ
lowest (AtLeast k) = k
lowest (Above k) = suc k

reaches-lowest : (low : Low) (k : ℕ) → leb (lowest low) k ≡ reaches low k
reaches-lowest (AtLeast l) k = refl
reaches-lowest (Above l) k = refl

module _ (sibling e : ℕ) where
  abbrev kept : Slot → Bool
  kept = is_kept sibling e

  -- ---- the survey: what it comes to, where sh are the slots shown from here on, and h of them are hidden

  abbrev hidden_after : Survey → ℕ → ℕ
  hidden_after s h = s.hidden + h

  abbrev trailing_after : Survey → List Slot → Bool
  trailing_after s sh = s.trailing || not (all kept sh)

  abbrev fair_after : Survey → List Slot → Bool
  fair_after s sh =
      s.fair && (rising (lowest s.low) (filter kept sh) && cond s.trailing (all (λ (y : Slot). not (kept y)) sh) (come_first kept sh))

  pub record Surveyed (s r : Survey) (h : ℕ) (sh : List Slot) : Type 0 where
    pub hidden-is : r.hidden ≡ hidden_after s h
    pub trailing-is : r.trailing ≡ trailing_after s sh
    pub fair-is : r.fair ≡ fair_after s sh

  none : (s : Survey) → Surveyed s s 0 []
  unfolding all filter rising come_first
  none s = record { hidden-is = omega arith; trailing-is = sym (or-false s.trailing); fair-is = sym (both s.trailing) }
    where
      both : (t : Bool) → (s.fair && (true && cond t true true)) ≡ s.fair
      both true = and-true s.fair
      both false = and-true s.fair

  after-hiding : (s r : Survey) (p h : ℕ) (sh : List Slot) → Surveyed (hiding p s) r h sh → Surveyed s r (suc h) sh
  after-hiding s r p h sh g = record { hidden-is = omega (arith, g.hidden-is); trailing-is = g.trailing-is; fair-is = g.fair-is }

  after-trailing : (s r : Survey) (x : Slot) (p h : ℕ) (sh : List Slot) → kept x ≡ false → Surveyed (trailed p s) r h sh
      → Surveyed s r h (x ∷ sh)
  unfolding all
  after-trailing s r x p h sh c g =
      record {
        hidden-is = g.hidden-is;
        trailing-is = g.trailing-is ∙ late s.trailing (kept x) c;
        fair-is = g.fair-is
            ∙ fair s.trailing (kept x) c;
      }
    where
      late : (t b : Bool) → b ≡ false → true ≡ (t || not (b && all kept sh))
      late true b n = refl
      late false b n = rw n

      fair : (t b : Bool) → b ≡ false
          → (s.fair && (rising (lowest s.low) (filter kept sh) && all (λ (y : Slot). not (kept y)) sh))
          ≡ (s.fair && (rising (lowest s.low) (filter kept (x ∷ sh)) && cond t (not b && all (λ (y : Slot). not (kept y)) sh)
          (come_first kept (x ∷ sh))))
      fair true b n = rw (filter-no kept x sh c, n)
      fair false b n = rw (filter-no kept x sh c, first-no kept x sh c)

  rising-more : (low : ℕ) (x : Slot) (ss : List Slot) → rising low (x ∷ ss) ≡ (leb low x.key && rising (suc x.key) ss)
  unfolding rising
  rising-more low x ss = refl

  after-keeping : (s r : Survey) (x : Slot) (h : ℕ) (sh : List Slot) → kept x ≡ true → Surveyed (keeping x.key x.pointer s) r h sh
      → Surveyed s r h (x ∷ sh)
  unfolding all still_fair
  after-keeping s r x h sh c g =
      record {
        hidden-is = g.hidden-is;
        trailing-is = g.trailing-is ∙ ap (λ (b : Bool). s.trailing || not (b && all kept sh)) (sym c);
        fair-is = g.fair-is ∙ fair;
      }
    where
      turn : (f t b a k : Bool) (z : Bool) → ((f && (not t && b)) && (a && cond t z k)) ≡ (f && ((b && a) && cond t false k))
      turn false t b a k z = refl
      turn true true true true k z = refl
      turn true true true false k z = refl
      turn true true false a k z = refl
      turn true false true a k z = refl
      turn true false false a k z = refl

      fair : ((s.fair && (not s.trailing && reaches s.low x.key)) &&
          (rising (suc x.key) (filter kept sh) && cond s.trailing (all (λ (y : Slot). not (kept y)) sh) (come_first kept sh)))
          ≡ (s.fair && (rising (lowest s.low) (filter kept (x ∷ sh)) && cond s.trailing
          (not (kept x) && all (λ (y : Slot). not (kept y)) sh) (come_first kept (x ∷ sh))))
      fair =
          turn s.fair s.trailing (reaches s.low x.key) (rising (suc x.key) (filter kept sh)) (come_first kept sh)
          (all (λ (y : Slot). not (kept y)) sh)
          ∙ rw (filter-yes kept x sh c, first-yes kept x sh c, c, rising-more (lowest s.low) x (filter kept sh), reaches-lowest s.low x.key)

  abbrev Means : List Slot → Survey → Type 0
  Means ss s = Surveyed s (surveyed sibling e ss s) (length (hidden_slots s.before ss)) (shown s.before ss)

  -- a survey that goes on over ss counts its hidden slots and judges its shown ones as the definitions do
  pub survey-means : (ss : List Slot) (s : Survey) → Means ss s
  unfolding surveyed
  survey-means [] s = unfold shown in unfold hidden_slots in none s
  survey-means (x ∷ xs) s = go (eqb x.pointer s.before) (kept x) refl refl (survey-means xs)
    where
      go : (a b : Bool) → eqb x.pointer s.before ≡ a → kept x ≡ b → ((s : Survey) → Means xs s) → Means (x ∷ xs) s
      go true b a' b' ih =
          let h = eqb-true x.pointer s.before a' in
          rw (← survey-hiding sibling e x.key x.pointer s h, hidden-hide s.before x xs h, shown-hide s.before x xs h)
          (after-hiding s _ x.pointer _ _ (ih (hiding x.pointer s)))
      go false false a' b' ih =
          let h = eqb-false x.pointer s.before a' in
          rw (← survey-trailing sibling e x.key x.pointer s h b', hidden-show s.before x xs h, shown-show s.before x xs h)
          (after-trailing s _ x x.pointer _ _ b' (ih (trailed x.pointer s)))
      go false true a' b' ih =
          let h = eqb-false x.pointer s.before a' in
          rw (← survey-keeping sibling e x.key x.pointer s _ refl h b', hidden-show s.before x xs h, shown-show s.before x xs h)
          (after-keeping s _ x _ _ b' (ih (keeping x.key x.pointer s)))
