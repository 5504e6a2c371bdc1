-- The fresh table of one or two collections: settled, with exactly the packed pairs as its maps.
use Rattle.std.proofs.Common.{◌≡◌, ℕ, suc, ◌+◌, ◌-◌, ◌*◌, ◌<◌, ◌≤◌, true, false, eqb, ◌≢◌, List, [], ◌∷◌, ◌++◌, length, replicate, sym}
use Rattle.std.proofs.Common.{refl, ap, ◌∙◌, subst, append_assoc, append-nil, arith, length-append, ne_eqb}
use mathlib.Core.Option.{Option, none, some}
use lib.ListN.{length-replicate, replicate-append-replicate}
use Rattle.model.specs.Table.{MARK, Words, at, all_zero, node_start, header_ok, empty, empty_of}
use Rattle.model.specs.Slots.{Slot, view_of}
use Rattle.model.specs.Reached.{Maps, reached, unless_lacking, maps_of}
use Rattle.model.specs.SoundTest.{elem, distinct, settled}
use Rattle.model.specs.Writes.{node_words}
use Rattle.list_laws.proofs.Tools.{Each, Each-map}
use Rattle.list_laws.proofs.Members.{elem-false}
use Rattle.list_laws.proofs.Distinct.{distinct-append}
use Rattle.table_laws.proofs.Header.{header-iff}
use Rattle.table_laws.proofs.Words.{part-zero-iff}
use Rattle.tree_laws.proofs.Leftovers.{settled-iff}
use Rattle.two_laws.proofs.Arrange.{head-iff}
use Rattle.two_laws.proofs.SameTwo.{each-settled}
use Rattle.model.specs.Packing.{groups, bottom, rows_above, packed, row_words, rows_words, count_rows, packed_count, packed_words}
use Rattle.model.specs.Packing.{of_second, packed_both, packed_table}
use Rattle.pack_laws.proofs.Standing.{length-rows}
use Rattle.pack_laws.proofs.Packed.{Packable, Packs, packs, some-rows}
use Rattle.pack_laws.proofs.Counts.{packed-count}

pub count-from : (n : ℕ) (ps : List Slot) → count_rows (packed n ps) ≡ packed_count ps
unfolding packed_count
count-from n ps = packed-count n ps ∙ sym (packed-count 1 ps)

-- packed pairs fill 32 words for each of their nodes
pub words-long : (n : ℕ) (ps : List Slot) → length (packed_words n ps) ≡ 32 * packed_count ps
unfolding packed_words
words-long n ps = length-rows 0 n (packed n ps) ∙ ap (λ (c : ℕ). 32 * c) (count-from n ps)

pub count-some : (ps : List Slot) → 1 ≤ packed_count ps
unfolding packed_count
count-some ps = some-rows 1 ps

-- ---- the words

module _ (N : ℕ) (ps : List Slot) (x : Option (List Slot)) where
  abbrev t : Words
  t = packed_table N (record { one = ps; two = x })

  abbrev header : Words
  header = 1 ∷ packed_count ps ∷ N ∷ of_second 0 (λ (qs : List Slot). packed_count ps + packed_count qs) x ∷ replicate 4 0

  abbrev second : Words
  second = of_second [] (packed_words (suc (packed_count ps))) x

  abbrev zeros : Words
  zeros = replicate (32 * (N - packed_both (record { one = ps; two = x }))) 0

  parts : t ≡ header ++ (packed_words 1 ps ++ (second ++ zeros))
  unfolding packed_table
  parts = refl

  second-long : length second ≡ 32 * of_second 0 packed_count x
  second-long = go x
    where
      go : (x : Option (List Slot)) → length (of_second [] (packed_words (suc (packed_count ps))) x) ≡ 32 * of_second 0 packed_count x
      go none = refl
      go (some qs) = words-long (suc (packed_count ps)) qs

  module _ (low : packed_both (record { one = ps; two = x }) ≤ N) where
    long : length t ≡ 8 + 32 * N
    unfolding packed_both
    long =
        ap length parts
        ∙ length-append header (packed_words 1 ps ++ (second ++ zeros))
        ∙ simp (length-append, length-replicate) (omega (arith, words-long 1 ps, second-long, low))

-- ---- settled, with these maps

-- numbers from a to b and from b on differ
apart-spans : (a b d e : ℕ) (xs ys : List ℕ) → b ≤ d → Each (λ (i : ℕ). (a ≤ i) × (i < b)) xs → Each (λ (i : ℕ). (d ≤ i) × (i < e)) ys
    → Each (λ (i : ℕ). elem i ys ≡ false) xs
apart-spans a b d e xs ys l h k =
    Each-map _ (λ (i : ℕ). elem i ys ≡ false) xs
    (λ i u. (elem-false i ys).1 (Each-map _ (λ (j : ℕ). j ≢ i) ys (λ j w q. omega (arith, u.1, w.0, q)) k)) h

module _ (N : ℕ) (ps : List Slot) (high : N ≤ 65535) (f : Packable ps) where
  -- collection 1 alone
  module _ (low : packed_count ps + 0 ≤ N) where
    abbrev t₁ : Words
    t₁ = packed_table N (record { one = ps; two = none })

    fits₁ : packed_both (record { one = ps; two = none }) ≤ N
    unfolding packed_both
    fits₁ = low

    header₁ : header_ok t₁ ≡ true
    unfolding packed_table all_zero
    header₁ =
        let a = count-some ps in
        (header-iff t₁).1 (record {
          size = record { long = long N ps none fits₁; some = omega arith; few = high };
          first = refl;
          zeros = (part-zero-iff t₁ 4 4).0 refl;
          root-some = a;
          root-in = omega arith;
          two = λ z. absurd (z refl);
        })

    tree₁ : Packs (view_of 1 t₁) 1 (packed_count ps) ps
    unfolding packed_table packed_count packed_words node_start
    tree₁ = packs t₁ 1 (packed_count ps) ps (header N ps none) (zeros N ps none) refl refl (omega arith) (omega arith) high (omega arith) f

    alone : (settled t₁ ≡ true) × (maps_of t₁ ≡ record { one = ps; two = none })
    unfolding packed_table maps_of
    alone = (
      (each-settled t₁).1 (record {
        head = (head-iff t₁).0 header₁;
        one = (settled-iff (view_of 1 t₁)).1 tree₁.tree;
        two = λ z. absurd (z refl);
        once = λ z. absurd (z refl);
      }),
      ap (λ (m : List Slot). record { one = m; two = none }) tree₁.pairs,
    )

  -- collection 2 beside it, its nodes after those of collection 1
  module _ (qs : List Slot) (low : packed_count ps + packed_count qs ≤ N) (g : Packable qs) where
    abbrev t₂ : Words
    t₂ = packed_table N (record { one = ps; two = some qs })

    fits₂ : packed_both (record { one = ps; two = some qs }) ≤ N
    unfolding packed_both
    fits₂ = low

    there : eqb (at t₂ 3) 0 ≡ false
    unfolding packed_table
    there = ne_eqb (packed_count ps + packed_count qs) 0 (λ e. omega (arith, count-some ps))

    header₂ : header_ok t₂ ≡ true
    unfolding packed_table all_zero
    header₂ =
        let a = count-some ps in
        let b = count-some qs in
        (header-iff t₂).1 (record {
          size = record { long = long N ps (some qs) fits₂; some = omega arith; few = high };
          first = refl;
          zeros = (part-zero-iff t₂ 4 4).0 refl;
          root-some = a;
          root-in = omega arith;
          two = λ z. (low, omega arith);
        })

    one₂ : Packs (view_of 1 t₂) 1 (packed_count ps) ps
    unfolding packed_table packed_count packed_words node_start
    one₂ = packs t₂ 1 (packed_count ps) ps (header N ps (some qs)) (second N ps (some qs) ++ zeros N ps (some qs)) refl refl (omega arith)
        (omega arith) high (omega arith) f

    two₂ : Packs (view_of 2 t₂) (suc (packed_count ps)) (packed_count qs) qs
    unfolding packed_table packed_words node_start
    two₂ =
        let c = packed_count ps in
        let e = count-from (suc c) qs in
        let pre = header N ps (some qs) ++ packed_words 1 ps in
        subst (λ (d : ℕ). Packs (view_of 2 t₂) (suc c) d qs) e (packs t₂ (suc c) (c + packed_count qs) qs pre (zeros N ps (some qs))
        (sym (append_assoc (header N ps (some qs)) (packed_words 1 ps) (second N ps (some qs) ++ zeros N ps (some qs))))
        (length-append (header N ps (some qs)) (packed_words 1 ps) ∙ omega (arith, words-long 1 ps)) (omega arith)
        (omega arith) high (omega arith) g)

    once₂ : distinct (reached (view_of 1 t₂) ++ (reached (view_of 2 t₂) ++ [])) ≡ true
    once₂ =
        let c = packed_count ps in
        let rs = reached (view_of 1 t₂) in
        let us = reached (view_of 2 t₂) in
        rw (append-nil us)
        ((distinct-append rs us).1 (
          one₂.tree.orderly.once,
          two₂.tree.orderly.once,
          apart-spans 1 (1 + c) (suc c) (suc c + packed_count qs) rs us (omega arith) one₂.span two₂.span,
        ))

    beside : (settled t₂ ≡ true) × (maps_of t₂ ≡ record { one = ps; two = some qs })
    unfolding maps_of
    beside = (
      (each-settled t₂).1 (record {
        head = (head-iff t₂).0 header₂;
        one = (settled-iff (view_of 1 t₂)).1 one₂.tree;
        two = λ z. (settled-iff (view_of 2 t₂)).1 two₂.tree;
        once = λ z. once₂;
      }),
      λ i. record { one = one₂.pairs i; two = unless_lacking (there i) (two₂.pairs i) },
    )

-- Packed pairs are a settled table, and its maps are exactly these pairs.
module _ (N : ℕ) (m : Maps) (low : packed_both m ≤ N) (high : N ≤ 65535) (one : Packable m.one)
    (two : (qs : List Slot) → m.two ≡ some qs → Packable qs) where
  both : (settled (packed_table N m) ≡ true) × (maps_of (packed_table N m) ≡ m)
  unfolding packed_both
  both = go m.two low two
    where
      go : (x : Option (List Slot)) → packed_both (record { one = m.one; two = x }) ≤ N → ((qs : List Slot) → x ≡ some qs → Packable qs)
          → (settled (packed_table N (record { one = m.one; two = x })) ≡ true)
          × (maps_of (packed_table N (record { one = m.one; two = x })) ≡ record { one = m.one; two = x })
      go none l h = alone N m.one high one l
      go (some qs) l h = beside N m.one high one qs l (h qs refl)

  -- a packed table with room for the pairs of both collections is settled
  pub packed-settled : settled (packed_table N m) ≡ true
  packed-settled = both.0

  -- a packed table with room for the pairs of both collections holds just these pairs
  pub packed-maps : maps_of (packed_table N m) ≡ m
  packed-maps = both.1

-- ---- with no pairs

-- With no pairs the result is the empty table.
pub packed-none : (N : ℕ) → 1 ≤ N → packed_table N (record { one = []; two = none }) ≡ empty_of 1 N
unfolding packed_table packed_both packed_count packed_words packed bottom groups rows_above count_rows rows_words row_words
    node_words empty empty_of
packed-none N h =
    let e : 32 * N - 1 ≡ 31 + 32 * (N - 1) = omega arith in
    rw (e, ← replicate-append-replicate {A = ℕ} 31 (32 * (N - 1)) 0)

-- A collection without pairs becomes one empty leaf.
pub packed-leaf : (n : ℕ) → packed_words n [] ≡ node_words MARK 0 0 0 []
unfolding packed_words packed bottom groups rows_above rows_words row_words node_words
packed-leaf n = refl

-- With none in either, the empty table of two collections.
pub packed-none-two : (N : ℕ) → 2 ≤ N → packed_table N (record { one = []; two = some [] }) ≡ empty_of 2 N
unfolding packed_table packed_both packed_count packed_words packed bottom groups rows_above count_rows rows_words row_words node_words
    empty empty_of node_start
packed-none-two N h =
    let e : 32 * N - 1 ≡ 31 + (32 + 32 * (N - 2)) = omega arith in
    rw (e, ← replicate-append-replicate {A = ℕ} 31 (32 + 32 * (N - 2)) 0, ← replicate-append-replicate {A = ℕ} 32 (32 * (N - 2)) 0)
