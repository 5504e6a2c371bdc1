-- Words outside a stretch that stores went to: what of a table reads the same.
use Rattle.std.proofs.Common.{◌≡◌, ℕ, ◌+◌, ◌<◌, ◌≤◌, List, length, take, drop, sym, refl, ◌∙◌, arith, length-drop, length-set, length-take}
use Rattle.std.proofs.Common.{get_or-set_other, ext_get_or}
use Rattle.model.specs.Table.{Words, at}
use Rattle.model.specs.Orders.{Store}
use Rattle.list_laws.proofs.Tools.{Each}
use Rattle.list_laws.proofs.Steps.{Along, along-each}
use Rattle.table_laws.proofs.Words.{at-part}
use Rattle.word_laws.proofs.Stores.{do_store}

-- t' is as long as t and has its words but for some of the n words from a on
pub record Outside (a n : ℕ) (t t' : Words) : Type 0 where
  pub long : length t' ≡ length t
  pub same : (w : ℕ) → (a ≤ w → w < a + n → ⊥) → at t' w ≡ at t w

-- a table does not differ from itself outside any part
pub outside-start : (a n : ℕ) (t : Words) → Outside a n t t
outside-start a n t = record { long = refl; same = λ w z. refl }

-- a store to the stretch
abbrev pub Into : (a n : ℕ) → Store → Type 0
Into a n q = (a ≤ q.word) × (q.word < a + n)

-- a store into n words from a on changes no word outside them
pub outside-store : (a n : ℕ) (t t' : Words) (q : Store) → Into a n q → Outside a n t t' → Outside a n t (do_store q t')
outside-store a n t t' q h o =
    record {
      long = length-set t' q.word q.value ∙ o.long;
      same = λ w z. get_or-set_other t' q.word w q.value 0 (λ e. z (omega arith) (omega arith)) ∙ o.same w z;
    }

pub outside-along : (a n : ℕ) (t : Words) (qs : List Store) → Each (Into a n) qs → Along do_store (Outside a n t) qs t
outside-along a n t qs e =
    along-each do_store (Outside a n t) (Into a n) (λ q t' i o. outside-store a n t t' q i o) qs t e (outside-start a n t)

-- what changes nothing outside a part changes nothing outside a wider one
pub outside-wider : (a n b m : ℕ) (t t' : Words) → b ≤ a → a + n ≤ b + m → Outside a n t t' → Outside b m t t'
outside-wider a n b m t t' h g o = record { long = o.long; same = λ w z. o.same w (λ l u. z (omega arith) (omega arith)) }

-- k words from c on that are the same, word by word
pub part-same : (t t' : Words) → length t' ≡ length t → (c k : ℕ) → ((w : ℕ) → c ≤ w → w < c + k → at t' w ≡ at t w)
    → take k (drop c t') ≡ take k (drop c t)
part-same t t' l c k e =
    ext_get_or 0 (take k (drop c t')) (take k (drop c t)) (simp (length-take, length-drop, l)) (λ i h.
    let g : i < k = omega (arith, simp length-take at h) in
    at-part t' c k i g ∙ e (c + i) (omega arith) (omega arith) ∙ sym (at-part t c k i g))

-- none of which is in the stretch
pub same-part : (a n : ℕ) (t t' : Words) → Outside a n t t' → (c k : ℕ)
    → ((w : ℕ) → c ≤ w → w < c + k → a ≤ w → w < a + n → ⊥) → take k (drop c t') ≡ take k (drop c t)
same-part a n t t' o c k z = part-same t t' o.long c k (λ w p q. o.same w (z w p q))
