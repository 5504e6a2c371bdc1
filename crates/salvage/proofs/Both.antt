-- The nodes of both collections, one after the other; and their reports.
use Rattle.std.proofs.Common.{◌≡◌, ℕ, suc, ◌+◌, ◌-◌, ◌*◌, ◌≤◌, ◌≢◌, List, [], ◌∷◌, ◌++◌, length, take, drop, replicate, sym, refl, ap, ◌∙◌}
use Rattle.std.proofs.Common.{subst, append_assoc, arith, length-append, drop-drop, take_at, drop_at, ne_eqb}
use Rattle.model.specs.Table.{Words, at, nodes}
use Rattle.model.specs.Slots.{Slot}
use Rattle.model.specs.Reached.{Maps}
use Rattle.model.specs.Packing.{packed_count, packed_words, packed_both}
use Rattle.model.specs.Salvage.{Drop, Gathered, gathered_along, gathered, kept_maps, dropped_all, drop_words}
use Rattle.pack_laws.specs.Needed.{nodes_needed}
use Rattle.pack_laws.proofs.Counts.{count-needed, needed-more}
use Rattle.pack_laws.proofs.Fresh.{words-long}
use Rattle.tour_laws.proofs.Sound.{alone-maps, beside-maps, alone-dropped}
use Rattle.pack.specs.Rows.{packed_after}
use Rattle.pack.proofs.Parts.{rest-is, rest-long, back-is}
use Rattle.gather.proofs.Slots.{words-append}
use Rattle.packing.specs.Parts.{second_root, packed_nodes}
use Rattle.salvage.specs.Parts.{Toured, needed_both, Most, Fits, Reported}
use Rattle.salvage.proofs.Bounds.{top-few, one-gathered, two-gathered}

-- ---- reports one after the other

drop-words-long : (ds : List Drop) → length (drop_words ds) ≡ 3 * length ds
unfolding drop_words
drop-words-long [] = refl
drop-words-long (d ∷ ds) = let e = drop-words-long ds in omega arith

module _ (r r₁ : Words) (ds : List Drop) (d : ℕ) (a : Reported r r₁ ds d) where
  abbrev rest : Words
  rest = take (length r₁ - 3 * d) (drop (3 * d) r₁)

  written : length (drop_words ds) ≡ 3 * d
  written = let e = a.0 in drop-words-long ds ∙ omega arith

  rest-of : rest ≡ drop (3 * d) r
  rest-of = rest-is r₁ (3 * d) ∙ ap (drop (3 * d)) a.1 ∙ drop_at (drop_words ds) (drop (3 * d) r) (3 * d) written

  pub reported-both : (r₂ : Words) (es : List Drop) (e : ℕ) → Reported rest r₂ es e
      → Reported r (take (3 * d) r₁ ++ (r₂ ++ drop (length r₁ - 3 * d) (drop (3 * d) r₁))) (ds ++ es) (d + e)
  reported-both r₂ es e b =
      let i : 3 * d + 3 * e ≡ 3 * (d + e) = omega arith in (
        (let x = a.0 in let y = b.0 in let z = length-append ds es in omega arith),
        back-is r₁ (3 * d) r₂
            ∙ ap (λ (l : Words). l ++ r₂) (ap (take (3 * d)) a.1 ∙ take_at (drop_words ds) (drop (3 * d) r) (3 * d) written)
            ∙ ap (λ (l : Words). drop_words ds ++ l) (b.1 ∙ ap (λ (l : Words). drop_words es ++ drop (3 * e) l) rest-of)
            ∙ sym (append_assoc (drop_words ds) (drop_words es) (drop (3 * e) (drop (3 * d) r)))
            ∙ ap (λ (l : Words). l ++ drop (3 * e) (drop (3 * d) r)) (sym (words-append ds es))
            ∙ ap (λ (l : Words). drop_words (ds ++ es) ++ l) (drop-drop (3 * e) (3 * d) r ∙ ap (λ (k : ℕ). drop k r) i),
      )

-- what the first collection drops leaves room in the report
pub part-fits : (t firsts seconds : Words) → Toured t firsts seconds → (report : Words) → 36 * nodes t ≤ length report
    → (r : Words) (d : ℕ) → d ≤ 12 * length firsts → length r ≡ length report → 3 * d ≤ length r
part-fits t firsts seconds o report drops r d few long =
    let f = o.few in
    omega arith

-- ---- both

module _ (t firsts seconds : Words) (o : Toured t firsts seconds) (a b : ℕ) (m : Most t a b) (fits : needed_both t a b ≤ (nodes t))
    (words report : Words) (long : length words ≡ 32 * nodes t) (drops : 36 * nodes t ≤ length report) where
  abbrev ps : List Slot
  ps = (gathered 1 t).kept

  abbrev qs : List Slot
  qs = (gathered 2 t).kept

  first-fits : nodes_needed a ≤ (nodes t)
  unfolding needed_both
  first-fits = omega (arith, fits)

  pub first-ready : Fits t firsts words 0 a report
  first-ready =
      let f = o.few in
      let u = first-fits in
      record {
        small = let k = top-few t firsts seconds o in omega arith;
        long = long;
        room = omega arith;
        most = rw (one-gathered t firsts seconds o) m.one;
        few = omega arith;
        drops = omega arith;
      }

  -- after the first
  module _ (w₁ r₁ : Words) (root d : ℕ) (e : w₁ ≡ packed_after 0 (nodes t) words (gathered_along t firsts).kept)
      (q : root ≡ 0 + packed_count (gathered_along t firsts).kept) (rep : Reported report r₁ (gathered_along t firsts).dropped d) where
    w-is : w₁ ≡ packed_words 1 ps ++ replicate (32 * ((nodes t) - packed_count ps)) 0
    w-is =
        let z : 0 + packed_count ps ≡ packed_count ps = omega arith in
        e ∙ ap (λ (g : Gathered). packed_after 0 (nodes t) words g.kept) (one-gathered t firsts seconds o)
        ∙ ap (λ (k : ℕ). packed_words 1 ps ++ replicate (32 * ((nodes t) - k)) 0) z

    root-is : root ≡ packed_count ps
    root-is = q ∙ ap (λ (g : Gathered). 0 + packed_count g.kept) (one-gathered t firsts seconds o) ∙ omega arith

    rep-is : Reported report r₁ (gathered 1 t).dropped d
    rep-is = subst (λ (g : Gathered). Reported report r₁ g.dropped d) (one-gathered t firsts seconds o) rep

    -- what the parts of the new table come to
    abbrev Filled : (words report : Words) (root second n : ℕ) → Type 0
    Filled w r root₁ second n =
        (w ≡ packed_nodes (nodes t) (kept_maps t))
        × (((root₁ ≡ packed_count (kept_maps t).one) × (second ≡ second_root (kept_maps t))) × Reported report r (dropped_all t) n)

    -- without collection 2
    pub alone-filled : at t 3 ≡ 0 → Filled w₁ r₁ root 0 d
    unfolding packed_both
    alone-filled z =
        let k : packed_count ps ≡ packed_count ps + 0 = omega arith in
        let x = alone-maps t z in
        let one : packed_count ps ≡ packed_count (kept_maps t).one = ap (λ (y : Maps). packed_count y.one) (sym x) in (
          w-is ∙ ap (λ (n : ℕ). packed_words 1 ps ++ replicate (32 * ((nodes t) - n)) 0) k ∙ ap (packed_nodes (nodes t)) (sym x),
          ((root-is ∙ one, ap second_root (sym x)), subst (λ (ds : List Drop). Reported report r₁ ds d) (sym (alone-dropped t z)) rep-is),
        )

    module _ (z : at t 3 ≢ 0) where
      both-fit : nodes_needed a + nodes_needed b ≤ (nodes t)
      unfolding needed_both
      both-fit = rw (ne_eqb (at t 3) 0 z) at fits

      abbrev part : Words
      part = take (length r₁ - 3 * d) (drop (3 * d) r₁)

      pub second-ready : d ≤ 12 * length firsts → length r₁ ≡ length report → length w₁ ≡ length words → Fits t seconds w₁ root b part
      second-ready dl rlong wlong =
          let f = o.few in
          let rl = rest-long r₁ (3 * d) in
          let u = both-fit in
          let c = root-is in
          let g = count-needed ps in
          let h = needed-more (length ps) a m.one in
          record {
            small = let y = top-few t firsts seconds o in omega arith;
            long = wlong ∙ (let y = long in omega arith);
            room = omega arith;
            most = rw (two-gathered t firsts seconds o) m.two;
            few = omega arith;
            drops = omega arith;
          }

      -- after the second
      module _ (w₂ r₂ : Words) (root₂ d₂ : ℕ) (x : w₂ ≡ packed_after root (nodes t) w₁ (gathered_along t seconds).kept)
          (y : root₂ ≡ root + packed_count (gathered_along t seconds).kept)
          (rep₂ : Reported part r₂ (gathered_along t seconds).dropped d₂) where
        abbrev c : ℕ
        c = packed_count ps

        abbrev tail : Words
        tail = packed_words (suc c) qs ++ replicate (32 * ((nodes t) - (c + packed_count qs))) 0

        two : gathered_along t seconds ≡ gathered 2 t
        two = two-gathered t firsts seconds o

        words-are : w₂ ≡ packed_words 1 ps ++ tail
        words-are =
            x ∙ ap (λ (g : Gathered). packed_after root (nodes t) w₁ g.kept) two ∙ ap (λ (k : ℕ). packed_after k (nodes t) w₁ qs) root-is
            ∙ ap (λ (l : Words). l ++ tail)
            (ap (take (32 * c)) w-is ∙ take_at (packed_words 1 ps) (replicate (32 * ((nodes t) - c)) 0) (32 * c) (words-long 1 ps))

        second-is : root₂ ≡ c + packed_count qs
        second-is = y ∙ ap (λ (g : Gathered). root + packed_count g.kept) two ∙ ap (λ (k : ℕ). k + packed_count qs) root-is

        reported : Reported report (take (3 * d) r₁ ++ (r₂ ++ drop (length r₁ - 3 * d) (drop (3 * d) r₁))) (dropped_all t) (d + d₂)
        unfolding dropped_all
        reported =
            reported-both report r₁ (gathered 1 t).dropped d rep-is r₂ (gathered 2 t).dropped d₂
            (subst (λ (g : Gathered). Reported part r₂ g.dropped d₂) two rep₂)

        pub beside-filled : Filled w₂ (take (3 * d) r₁ ++ (r₂ ++ drop (length r₁ - 3 * d) (drop (3 * d) r₁))) root root₂ (d + d₂)
        unfolding packed_both
        beside-filled =
            let maps = beside-maps t z in
            let one : c ≡ packed_count (kept_maps t).one = ap (λ (u : Maps). packed_count u.one) (sym maps) in
            (words-are ∙ ap (packed_nodes (nodes t)) (sym maps), ((root-is ∙ one, second-is ∙ ap second_root (sym maps)), reported))
