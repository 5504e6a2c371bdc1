-- The batch pair by pair, as it goes on: what is behind pairs that were taken.
use Rattle.std.proofs.Common.{◌≡◌, ℕ, suc, ◌+◌, ◌-◌, ◌*◌, ◌/◌, ◌<◌, ◌≤◌, List, [], ◌∷◌, ◌++◌, length, get_or, take, drop, sym, refl, ap}
use Rattle.std.proofs.Common.{◌∙◌, append_assoc, append-nil, arith, length-drop, take_all}
use lib.Seq.{drop-length}
use borrow.Rule.Slice.PartMut.{mid_of, put_mid}
use Rattle.std.specs.Prelude.{Option, Some, None, Ok, Err}
use Rattle.model.specs.declared.Refusal.{Refusal}
use Rattle.model.specs.declared.Counts.{Counts}
use Rattle.model.specs.Results.{Written, no_counts, counts_sum, orders_counted}
use Rattle.model.specs.Table.{Words}
use Rattle.model.specs.Slots.{Slot, slot, slots_of}
use Rattle.model.specs.Refusals.{written, table_after, list_after}
use Rattle.model.specs.Batch.{insertion_of, Batched, stopped, behind, batch}
use Rattle.table_laws.proofs.SlotWords.{slots-cons, slots-end}

-- ---- the pairs of a slice

-- the pairs of ws from pair i on begin with the words 2i and 2i + 1, if both are there
pub pair-at : (ws : Words) (i : ℕ) → 2 * i + 1 < length ws → drop i (slots_of ws) ≡ slot (get_or ws (2 * i) 0) (get_or ws (2 * i + 1) 0)
    ∷ drop (suc i) (slots_of ws)
pair-at = slots-cons

-- from half the length of ws on there are no more pairs
pub pairs-past : (ws : Words) (i : ℕ) → length ws / 2 ≤ i → drop i (slots_of ws) ≡ []
pairs-past ws i h = slots-end ws i (omega (arith, h))

-- ---- behind pairs that are behind others

-- counts are equal if their three numbers are
pub same-counts : {a a' b b' c c' : ℕ} → a ≡ a' → b ≡ b' → c ≡ c'
    → ◌≡◌ {A = Counts} (record { stores = a; flushes = b; barriers = c }) (record { stores = a'; flushes = b'; barriers = c' })
same-counts e f g = rw (e, f, g)

none-sum : (w : Counts) → counts_sum no_counts w ≡ w
none-sum w = same-counts (omega arith) (omega arith) (omega arith)

-- adding the counts of no orders changes nothing
pub sum-none : (w : Counts) → counts_sum w no_counts ≡ w
sum-none w = same-counts (omega arith) (omega arith) (omega arith)

sum-sum : (w x y : Counts) → counts_sum w (counts_sum x y) ≡ counts_sum (counts_sum w x) y
sum-sum w x y = same-counts (omega arith) (omega arith) (omega arith)

-- two results of a batch are equal if all their parts are
pub same-batched : {m m' : Option Refusal} {i i' : ℕ} {w w' : Counts} {t t' l l' : Words} → m ≡ m' → i ≡ i' → w ≡ w' → t ≡ t' → l ≡ l'
    → ◌≡◌ {A = Batched} (record { answer = record { stop = m; taken = i; counts = w }; table = t; list = l })
    (record { answer = record { stop = m'; taken = i'; counts = w' }; table = t'; list = l' })
same-batched a b c d e = rw (a, b, c, d, e)

-- coming behind no pairs, no orders and no words changes nothing
pub behind-none : (r : Batched) → behind 0 no_counts [] r ≡ r
behind-none r = same-batched refl (omega arith) (none-sum r.answer.counts) refl refl

-- behind i pairs and then behind j pairs is behind i + j pairs, with the sums of their counts and their words joined
pub behind-behind : (i j : ℕ) (w x : Counts) (f g : Words) (r : Batched) → behind i w f (behind j x g r)
    ≡ behind (i + j) (counts_sum w x) (f ++ g) r
behind-behind i j w x f g r = same-batched refl (omega arith) (sum-sum w x r.answer.counts) refl (sym (append_assoc f g r.list))

-- ---- one pair

module _ (n dock : ℕ) (s : Slot) (ss : List Slot) (list t : Words) where
  -- what the single call's answer makes of it
  abbrev next : Written → Batched
  next w =
      let later = list_after (insertion_of n s) list dock t in
      elim w [
        | Ok w ↦
            let filled = 2 * orders_counted w in
            behind 1 w (take filled later) (batch n dock ss (drop filled later) (table_after (insertion_of n s) (length list) dock t))
        | Err r ↦ stopped (Some r) list t
      ]

  -- a batch whose first pair is refused stops with that refusal, before any change
  pub batch-stops : (r : Refusal) → written (insertion_of n s) (length list) dock t ≡ Err r → batch n dock (s ∷ ss) list t
      ≡ stopped (Some r) list t
  unfolding batch
  batch-stops r e = ap (λ (w : Written). next w) e

  -- a batch whose first pair is accepted goes on with the others, on the table and behind the words that it left
  pub batch-goes : (w : Counts) → written (insertion_of n s) (length list) dock t ≡ Ok w
      → batch n dock (s ∷ ss) list t
      ≡ (let later = list_after (insertion_of n s) list dock t in let filled = 2 * orders_counted w in behind 1 w (take filled later)
      (batch n dock ss (drop filled later) (table_after (insertion_of n s) (length list) dock t)))
  unfolding batch
  batch-goes w e = ap (λ (w : Written). next w) e

-- a batch of no pairs changes nothing and has no refusal
pub batch-none : (n dock : ℕ) (list t : Words) → batch n dock [] list t ≡ stopped None list t
unfolding batch
batch-none n dock list t = refl

-- ---- the rest of a list

-- lent
pub rest-lent : (a : ℕ) (l : Words) → mid_of a (length l - a) l ≡ drop a l
rest-lent a l = take_all (length l - a) (drop a l) (omega (arith, length-drop a l))

-- and back
pub rest-back : (a : ℕ) (l part : Words) → put_mid a (length l - a) l part ≡ take a l ++ part
rest-back a l part =
    let e : length l - a ≡ length (drop a l) = sym (length-drop a l) in
    let f : drop (length l - a) (drop a l) ≡ [] = ap (λ (k : ℕ). drop k (drop a l)) e ∙ drop-length (drop a l) in
    ap (λ (z : Words). take a l ++ (part ++ z)) f ∙ ap (λ (z : Words). take a l ++ z) (append-nil part)
