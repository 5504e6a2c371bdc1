-- Words marked, order by order.
use Rattle.std.proofs.Common.{◌≡◌, ℕ, ◌*◌, ◌<◌, Bool, ◌||◌, eqb, List, [], ◌∷◌, ◌++◌, length, sym, ap, ◌∙◌, ⊎_elim, eq-eqb, ne_eqb}
use mathlib.Core.Bool.{or_assoc, or_comm, or-false}
use Rattle.model.specs.Table.{Words, at}
use Rattle.model.specs.SoundTest.{elem}
use Rattle.model.specs.Orders.{Order, order_of, decode}
use Rattle.model.specs.ListedOrders.{meant}
use Rattle.model.specs.declared.ListedOrder.{ListedOrder}
use Rattle.model.specs.declared.ListedOrder.TheVariants.{Store}
use Rattle.model.specs.Wear.{stored_to}
use Rattle.list_laws.proofs.Tools.{Each, same-or-not}
use Rattle.bits.specs.Bits.{has, put}
use Rattle.bits.proofs.Marks.{has-put-same, has-put-other}
use Rattle.carry.proofs.Turns.{next-order, no-order}
use Rattle.wear.proofs.Turns.{elem-order}

-- what is marked after w is marked
has-put : (marks : Words) (x : ℕ) → x < 64 * length marks → (w : ℕ) → has (put marks x) w ≡ eqb w x || has marks w
has-put marks x h w =
    ⊎_elim (λ e. rw (eq-eqb w x e, e) (has-put-same marks x h)) (λ d. rw (ne_eqb w x d) (has-put-other marks x w h d)) (same-or-not w x)

-- ---- one store

module _ (order : ListedOrder) (word value : ℕ) (e : order ≡ Store word value) where
  pub mark-below : (m : ℕ) → Each (λ (w : ℕ). w < m) (stored_to (meant order ∷ [])) → word < m
  unfolding stored_to
  mark-below m h = (rw e at h).0

  pub mark-put : (marks : Words) → word < 64 * length marks → (new : Words) → new ≡ put marks word → (w : ℕ) → has new w
      ≡ elem w (stored_to (meant order ∷ [])) || has marks w
  unfolding elem stored_to
  mark-put marks h new q w = rw (q, e, or-false (eqb w word)) (has-put marks word h w)

-- ---- one turn

-- the orders of the words left mark what all of them mark
abbrev pub Marking : (list marks₀ ws marks : Words) → Type 0
Marking list marks₀ ws marks = (w : ℕ) → elem w (stored_to (decode ws)) || has marks w ≡ elem w (stored_to (decode list)) || has marks₀ w

module _ (list marks₀ ws marks : Words) (e : Marking list marks₀ ws marks) where
  pub marking-next : (pair after : Words) → ws ≡ pair ++ after → length pair ≡ 2 → (o : Order) → o
      ≡ order_of (at pair 0) (at pair 1) → (new : Words)
      → ((w : ℕ) → has new w ≡ elem w (stored_to (o ∷ [])) || has marks w) → Marking list marks₀ after new
  marking-next pair after p two o s new q w =
      let next : decode ws ≡ o ∷ decode after = next-order ws pair after p two ∙ ap (λ (x : Order). x ∷ decode after) (sym s) in
      rw (q w)
      (swap (elem w (stored_to (decode after))) (elem w (stored_to (o ∷ []))) (has marks w)
      ∙ sym (ap (λ (b : Bool). b || has marks w) (ap (λ (os : List Order). elem w (stored_to os)) next ∙ elem-order w o (decode after)))
      ∙ e w)
    where
      swap : (a b c : Bool) → a || (b || c) ≡ (b || a) || c
      swap a b c = sym (or_assoc a b c) ∙ ap (λ (x : Bool). x || c) (or_comm a b)

  pub marking-end : length ws < 2 → (w : ℕ) → has marks w ≡ elem w (stored_to (decode list)) || has marks₀ w
  unfolding elem stored_to
  marking-end h w = ap (λ (os : List Order). elem w (stored_to os) || has marks w) (sym (no-order ws h)) ∙ e w
