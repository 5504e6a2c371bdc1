-- The one line that may hold unflushed stores, order by order, for any list.
use Rattle.std.proofs.Common.{◌≡◌, ℕ, Bool, true, false, cond, not, eqb, ◌≢◌, List, [], ◌∷◌, ◌++◌, length, sym, refl, ap, ◌∙◌, inl, inr}
use Rattle.std.proofs.Common.{append-nil, arith, length-append, eq-eqb, ne_eqb, eqb-true}
use mathlib.Core.Bool.{false≢true}
use mathlib.Core.Option.{Option, none, some}
use native.Mathlib.Decide.{ℕ_discrete}
use borrow.Author.Tests.{eqb-false}
use Rattle.model.specs.Table.{line}
use Rattle.model.specs.Orders.{Store, Order, store, flush, barrier}
use Rattle.model.specs.Cuts.{flushed, since_flush, line_stores, later_stores}
use Rattle.cut_laws.proofs.LastFlush.{later_stores-after, later_stores-before, flush-alone, same-end, other-end}
use Rattle.model.specs.Judge.{OneUnflushed, AllFlushed, unflushed_after, second_line}

-- l is the line that holds unflushed stores after these orders; with none, no line does
abbrev pub Holding : Option ℕ → List Order → Type 0
Holding none os = AllFlushed os
Holding (some l) os = (later_stores l os ≢ []) × ((k : ℕ) → k ≢ l → later_stores k os ≡ [])

pub holding-nil : Holding none []
unfolding since_flush line_stores
holding-nil l = refl

-- then no two lines do
pub holding-one : (l : Option ℕ) (os : List Order) → Holding l os → OneUnflushed os
holding-one none os h k j n = inl (h k)
holding-one (some l) os h k j n = elim (ℕ_discrete k l) [ yes e ↦ inr (h.1 j (λ q. n (e ∙ sym q))) | no z ↦ inl (h.1 k z) ]

-- a store to its line leaves later stores there
store-leaves : (os : List Order) (s : Store) → later_stores (line s.word) (os ++ (store s ∷ [])) ≢ []
store-leaves os s e = omega (arith, simp length-append at (ap length (sym (same-end os s) ∙ e)))

-- one order more, no second line
holding-store : (l : Option ℕ) (os : List Order) (s : Store) → Holding l os → second_line l (store s) ≡ false
    → Holding (some (line s.word)) (os ++ (store s ∷ []))
holding-store none os s h e = (store-leaves os s, λ k z. other-end os s k z ∙ h k)
holding-store (some l) os s h e = (store-leaves os s, λ k z. other-end os s k z ∙ h.1 k (λ q. z (q ∙ sym same)))
  where
    same : line s.word ≡ l
    same = go (eqb (line s.word) l) refl e
      where
        go : (b : Bool) → eqb (line s.word) l ≡ b → not b ≡ false → line s.word ≡ l
        go true q z = eqb-true (line s.word) l q
        go false q z = absurd (false≢true (sym z))

-- a flush of line k empties it and leaves the others
flush-own : (os : List Order) (k : ℕ) → later_stores k (os ++ (flush k ∷ [])) ≡ []
unfolding flushed
flush-own os k = later_stores-after k (flush k ∷ []) (rw (eq-eqb k k refl)) os ∙ flush-alone k k

flush-other : (os : List Order) (k j : ℕ) → k ≢ j → later_stores j (os ++ (flush k ∷ [])) ≡ later_stores j os
unfolding flushed
flush-other os k j z =
    later_stores-before j (flush k ∷ []) (rw (ne_eqb k j z)) os ∙ rw (flush-alone j k) (append-nil (later_stores j os))

flush-empty : (os : List Order) (k j : ℕ) → later_stores j os ≡ [] → later_stores j (os ++ (flush k ∷ [])) ≡ []
flush-empty os k j e = elim (ℕ_discrete k j) [ yes q ↦ rw q (flush-own os j) | no z ↦ flush-other os k j z ∙ e ]

holding-flush : (l : Option ℕ) (os : List Order) (k : ℕ) → Holding l os → Holding (unflushed_after l (flush k)) (os ++ (flush k ∷ []))
holding-flush none os k h = λ j. flush-empty os k j (h j)
holding-flush (some l) os k h = go (eqb k l) refl
  where
    go : (b : Bool) → eqb k l ≡ b → Holding (cond b none (some l)) (os ++ (flush k ∷ []))
    go true e = λ j. elim (ℕ_discrete j l) [ yes q ↦ rw (eqb-true k l e, q) (flush-own os l) | no z ↦ flush-empty os k j (h.1 j z) ]
    go false e = (λ q. h.0 (sym (flush-other os k l (eqb-false k l e)) ∙ q), λ j z. flush-empty os k j (h.1 j z))

barrier-same : (os : List Order) (j : ℕ) → later_stores j (os ++ (barrier ∷ [])) ≡ later_stores j os
unfolding since_flush line_stores flushed
barrier-same os j = later_stores-before j (barrier ∷ []) refl os ∙ append-nil (later_stores j os)

holding-barrier : (l : Option ℕ) (os : List Order) → Holding l os → Holding l (os ++ (barrier ∷ []))
holding-barrier none os h = λ j. barrier-same os j ∙ h j
holding-barrier (some l) os h = (λ q. h.0 (sym (barrier-same os l) ∙ q), λ j z. barrier-same os j ∙ h.1 j z)

-- The line after one order more.
pub holding-more : (l : Option ℕ) (os : List Order) (o : Order) → Holding l os → second_line l o ≡ false
    → Holding (unflushed_after l o) (os ++ (o ∷ []))
holding-more l os (store s) h e = holding-store l os s h e
holding-more l os (flush k) h e = holding-flush l os k h
holding-more none os barrier h e = holding-barrier none os h
holding-more (some l) os barrier h e = holding-barrier (some l) os h

-- Where a second line comes in, two lines hold unflushed stores.
pub second-two : (l : Option ℕ) (os : List Order) (o : Order) → Holding l os → second_line l o ≡ true → OneUnflushed (os ++ (o ∷ [])) → ⊥
second-two none os o h e one = false≢true e
second-two (some l) os (flush k) h e one = false≢true e
second-two (some l) os barrier h e one = false≢true e
second-two (some l) os (store s) h e one = go (eqb (line s.word) l) refl e
  where
    go : (b : Bool) → eqb (line s.word) l ≡ b → not b ≡ true → ⊥
    go true q z = false≢true z
    go false q z =
        let apart : line s.word ≢ l = eqb-false (line s.word) l q in
        elim (one (line s.word) l apart) [
          | inl a ↦ store-leaves os s a
          | inr a ↦ h.0 (sym (other-end os s l (λ y. apart (sym y))) ∙ a)
        ]
