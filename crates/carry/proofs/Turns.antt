-- The orders of a list, two words each: the next one, the end, and the orders that the pairs of words give.
use Rattle.std.proofs.Common.{◌≡◌, ℕ, ◌<◌, true, ◌&&◌, List, [], ◌∷◌, ◌++◌, length, sym, refl, ap, ◌∙◌}
use Rattle.std.specs.List.{list_all}
use Rattle.std.specs.declared.slice.ChunksExact.{ChunksExact}
use Rattle.std.specs.Slice.Iter.{chunks_exact_rest, chunks_exact_size, chunks_exact_steps}
use Rattle.std.proofs.lemmas.Iterator.{YieldsList}
use Rattle.list_laws.proofs.Tools.{and-iff}
use Rattle.list_laws.proofs.Twos.{no-two, first-two, twos-come}
use Rattle.cut_laws.proofs.Applying.{carry-append}
use Rattle.model.specs.Table.{Words, at}
use Rattle.model.specs.Orders.{Order, order_of, decode, inside, all_inside, carry}

-- ---- the orders of the words left, of which a turn takes the first two

-- fewer than two words are no order
pub no-order : (ws : Words) → length ws < 2 → decode ws ≡ []
unfolding decode
no-order = no-two decode order_of refl (λ a. refl) (λ a b ws. refl)

module _ (ws pair after : Words) (e : ws ≡ pair ++ after) (two : length pair ≡ 2) where
  -- two words are one order, and the words after them decode to the orders after it
  pub next-order : decode ws ≡ order_of (at pair 0) (at pair 1) ∷ decode after
  unfolding decode
  next-order = first-two decode order_of refl (λ a. refl) (λ a b ws. refl) ws pair after e two

  -- what is inside stays so, order by order
  module _ (n : ℕ) (i : all_inside n (decode ws) ≡ true) where
    both : (inside n (order_of (at pair 0) (at pair 1)) ≡ true) × (all_inside n (decode after) ≡ true)
    unfolding all_inside
    both = (and-iff _ _).0 (sym (ap (all_inside n) next-order) ∙ i)

    -- if all orders of a list lie inside the table, the first one does
    pub inside-here : (m : ℕ) → m ≡ n → (o : Order) → o ≡ order_of (at pair 0) (at pair 1) → inside m o ≡ true
    inside-here m q o p = rw (q, p) both.0

    -- if all orders of a list lie inside the table, those after the first do
    pub inside-next : all_inside n (decode after) ≡ true
    inside-next = both.1

  pub carry-next : (t y : Words) → carry (decode ws) t ≡ y → (o : Order) → o ≡ order_of (at pair 0) (at pair 1) → (u : Words) → u
      ≡ carry (o ∷ []) t → carry (decode after) u ≡ y
  carry-next t y c o p u q =
      rw (q, p) (sym (carry-append (order_of (at pair 0) (at pair 1) ∷ []) _ t) ∙ sym (ap (λ (os : List Order). carry os t) next-order) ∙ c)

pub carry-end : (ws t y : Words) → carry (decode ws) t ≡ y → length ws < 2 → t ≡ y
unfolding carry
carry-end ws t y c h = sym (ap (λ (os : List Order). carry os t) (no-order ws h)) ∙ c

-- ---- the test, over the pairs of words

pub pairs-give : {s : ChunksExact ℕ} (ws : Words) → chunks_exact_rest s ≡ ws → chunks_exact_size s ≡ 2
    → YieldsList chunks_exact_steps (λ x. order_of (at x.now 0) (at x.now 1)) s (decode ws)
unfolding decode
pairs-give {s} ws r e = twos-come decode order_of refl (λ a. refl) (λ a b us. refl) ws s e r

pub listed-inside : (n : ℕ) (os : List Order) → list_all (inside n) os ≡ all_inside n os
unfolding all_inside
listed-inside n [] = refl
listed-inside n (o ∷ os) = ap (λ b. inside n o && b) (listed-inside n os)
