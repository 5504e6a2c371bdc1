-- The header, the whole table, and the call.
use Rattle.std.proofs.Common.{◌≡◌, ℕ, zero, suc, ◌+◌, ◌-◌, ◌*◌, ◌/◌, ◌≤◌, Bool, true, false, ltb, ◌≢◌, ◌++◌, length, take, drop, sym, refl}
use Rattle.std.proofs.Common.{ap, ◌∙◌, arith, ltb-false}
use Rattle.std.specs.Prelude.{Ok, Err}
use Rattle.model.specs.declared.Refusal.{Refusal}
use Rattle.model.specs.declared.Refusal.TheVariants.{NoNodes, BadPairs}
use Rattle.model.specs.Numbers.{refusal_number}
use Rattle.model.specs.Results.{Outcome, refused_with}
use Rattle.model.specs.Table.{Words, nodes_for, make_number}
use Rattle.model.specs.Reached.{Maps}
use Rattle.model.specs.Packing.{packed_count, packed_both, packed_table}
use Rattle.model.specs.Pack.{maps_in, maps_ok, pack_number, packing, pack_out}
use Rattle.model.proofs.Numbers.{refused-by}
use Rattle.pack.proofs.Parts.{rest-long, back-is, back-drop, back-long}
use Rattle.packing.specs.Parts.{header_words, second_root, packed_nodes}

-- ---- the table

pub table-packed : (n : ℕ) (m : Maps) → header_words (packed_count m.one) (second_root m) n ++ packed_nodes n m ≡ packed_table n m
unfolding packed_table
table-packed n m = refl

module _ (t : Words) (top : ℕ) (long : length t ≡ 8 + 32 * top) where
  -- the words of a table after its header are 32 for each node
  pub nodes-long : length (take (length t - 8) (drop 8 t)) ≡ 32 * top
  nodes-long = rest-long t 8 ∙ omega (arith, long)

  -- the nodes of the slice
  pub nodes-count : length (take (length t - 8) (drop 8 t)) / 32 ≡ top
  nodes-count = omega (arith, nodes-long)

  -- after nodes of the same length are put back, the table still has its header words
  pub put-back : (w : Words) → length w ≡ length (take (length t - 8) (drop 8 t))
      → 8 ≤ length (take 8 t ++ (w ++ drop (length t - 8) (drop 8 t)))
  put-back w e = let n = ap length (back-is t 8 w) ∙ back-long t 8 (omega (arith, long)) w (e ∙ rest-long t 8) in omega (arith, n, long)

  -- packed nodes that are put back under a header with their roots are the packed table
  pub put-table : (m : Maps) (w x : Words) (one two : ℕ) → w ≡ packed_nodes top m → (one ≡ packed_count m.one) × (two ≡ second_root m)
      → x ≡ header_words one two top ++ drop 8 (take 8 t ++ (w ++ drop (length t - 8) (drop 8 t))) → x ≡ packed_table top m
  put-table m w x one two a b c =
      c ∙ ap (λ (y : Words). header_words one two top ++ y) (ap (drop 8) (back-is t 8 w) ∙ back-drop t 8 (omega (arith, long)) w ∙ a)
      ∙ rw (b.0, b.1) (table-packed top m)

-- ---- the call

pub not-grown : (top n : ℕ) (b : Bool) → b ≡ ltb top n → b ≡ false → n ≤ top
not-grown top n b e y = ltb-false top n (sym e ∙ y)

module _ (n : ℕ) (pairs loans t : Words) where
  abbrev m : Maps
  m = maps_in n pairs loans

  abbrev Answers : Outcome → Type 0
  Answers r = (r ≡ packing n pairs loans t) × (t ≡ pack_out n pairs loans t)

  refuses : (k : ℕ) → pack_number n pairs loans t ≡ k → k ≢ 0 → Answers (refused_with k)
  unfolding packing pack_out
  refuses zero e z = absurd (z refl)
  refuses (suc k) e z = (rw e, rw e)

  refuses-by : (r : Refusal) → pack_number n pairs loans t ≡ refusal_number r → refusal_number r ≢ 0 → Answers (Err r)
  refuses-by r e z = let both = refuses (refusal_number r) e z in (sym (refused-by r) ∙ both.0, both.1)

  number-making : (k : ℕ) → make_number n t ≡ k → k ≢ 0 → pack_number n pairs loans t ≡ k
  unfolding pack_number
  number-making zero e z = absurd (z refl)
  number-making (suc k) e z = rw e

  pub refused-making : make_number n t ≢ 0 → Answers (refused_with (make_number n t))
  refused-making z = refuses (make_number n t) (number-making (make_number n t) refl z) z

  module _ (h : make_number n t ≡ 0) where
    number-outgrown : ltb (nodes_for (length t)) (packed_both m) ≡ true → pack_number n pairs loans t ≡ 10
    unfolding pack_number
    number-outgrown g = rw (h, g)

    number-pairs : ltb (nodes_for (length t)) (packed_both m) ≡ false → maps_ok m ≡ false → pack_number n pairs loans t ≡ 25
    unfolding pack_number
    number-pairs g k = rw (h, g, k)

    number-none : ltb (nodes_for (length t)) (packed_both m) ≡ false → maps_ok m ≡ true → pack_number n pairs loans t ≡ 0
    unfolding pack_number
    number-none g k = rw (h, g, k)

    module _ (top : ℕ) (size : top ≡ nodes_for (length t)) (b : Bool) (e : b ≡ ltb top (packed_both m)) where
      tested : ltb (nodes_for (length t)) (packed_both m) ≡ b
      tested = ap (λ (i : ℕ). ltb i (packed_both m)) (sym size) ∙ sym e

      pub refused-outgrown : b ≡ true → Answers (Err NoNodes)
      refused-outgrown y = refuses-by NoNodes (number-outgrown (tested ∙ y)) (λ w. omega arith)

      module _ (y : b ≡ false) (a : Bool) (q : a ≡ maps_ok m) where
        pub refused-pairs : a ≡ false → Answers (Err BadPairs)
        refused-pairs f = refuses-by BadPairs (number-pairs (tested ∙ y) (sym q ∙ f)) (λ w. omega arith)

        pub packs : a ≡ true → (x : Words) → x ≡ packed_table top m → (Ok tt ≡ packing n pairs loans t) × (x ≡ pack_out n pairs loans t)
        unfolding packing pack_out
        packs f x p = let z = number-none (tested ∙ y) (sym q ∙ f) in (rw z, rw z (p ∙ ap (λ (i : ℕ). packed_table i m) size))
