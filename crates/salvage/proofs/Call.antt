-- The whole second slice, and the call.
use Rattle.std.proofs.Common.{◌≡◌, ℕ, zero, suc, ◌+◌, ◌-◌, ◌*◌, ◌<◌, ◌≤◌, true, false, ◌≢◌, ◌++◌, length, take, drop, sym, refl, ap, ◌∙◌}
use Rattle.std.proofs.Common.{arith, le-ltb, lt-ltb, eq-eqb, ne_eqb}
use Rattle.std.specs.Prelude.{Ok, Err}
use Rattle.model.specs.declared.Refusal.{Refusal}
use Rattle.model.specs.declared.Refusal.TheVariants.{NoNodes, OtherLength, ShortReport}
use Rattle.model.specs.Numbers.{refusal_number}
use Rattle.model.specs.Results.{Outcome, Salvaged, refused_with, passed}
use Rattle.model.specs.Table.{Words, header_ok, header_number, nodes}
use Rattle.model.specs.Packing.{packed_count, packed_table}
use Rattle.model.specs.Salvage.{kept_maps, dropped_all, drop_words, outgrows, salvage_number, salvage, salvage_out, salvage_report}
use Rattle.model.proofs.Numbers.{refused-by, passed-zero}
use Rattle.table_laws.proofs.Header.{header-iff, header-number-iff, header-number-refused}
use Rattle.packing.specs.Parts.{header_words, second_root, packed_nodes}
use Rattle.packing.proofs.Call.{nodes-long, put-back, put-table}
use Rattle.salvage.specs.Parts.{Toured, Reported}

-- ---- the second slice

module _ (t firsts seconds out : Words) (o : Toured t firsts seconds) (l : length out ≡ length t) where
  long : length out ≡ 8 + 32 * nodes t
  long = let f = ((header-iff t).0 o.header).size.long in omega arith

  pub out-long : 8 ≤ length out
  out-long = omega (arith, long)

  pub part-long : length (take (length out - 8) (drop 8 out)) ≡ 32 * nodes t
  part-long = nodes-long out (nodes t) long

  pub put-out : (w : Words) → length w ≡ length (take (length out - 8) (drop 8 out))
      → 8 ≤ length (take 8 out ++ (w ++ drop (length out - 8) (drop 8 out)))
  put-out w e = put-back out (nodes t) long w e

  pub rebuilt : (w x : Words) (one two : ℕ) → w ≡ packed_nodes (nodes t) (kept_maps t) → (one ≡ packed_count (kept_maps t).one)
      × (two ≡ second_root (kept_maps t))
      → x ≡ header_words one two (nodes t) ++ drop 8 (take 8 out ++ (w ++ drop (length out - 8) (drop 8 out))) → x
      ≡ packed_table (nodes t) (kept_maps t)
  rebuilt w x one two a b c = put-table out (nodes t) long (kept_maps t) w x one two a b c

-- ---- the call

module _ (t out report : Words) where
  abbrev num : ℕ
  num = salvage_number t (length out) (length report)

  abbrev Answers : Salvaged → Type 0
  Answers r = (r ≡ salvage t (length out) (length report))
      × ((out ≡ salvage_out t out (length report)) × (report ≡ salvage_report t (length out) report))

  refuses : (k : ℕ) → num ≡ k → k ≢ 0 → Answers (refused_with k)
  unfolding salvage salvage_out salvage_report
  refuses zero e z = absurd (z refl)
  refuses (suc k) e z = (rw e, (rw e, rw e))

  refuses-by : (r : Refusal) → num ≡ refusal_number r → refusal_number r ≢ 0 → Answers (Err r)
  refuses-by r e z = let all = refuses (refusal_number r) e z in (sym (refused-by r) ∙ all.0, all.1)

  pub refused-header : header_number t ≢ 0 → Answers (refused_with (header_number t))
  unfolding header_number salvage_number
  refused-header z = let h : header_ok t ≡ false = header-number-refused t z in refuses (header_number t) (rw h) z

  module _ (h : header_ok t ≡ true) where
    pub refused-length : length out ≢ length t → Answers (Err OtherLength)
    unfolding salvage_number
    refused-length d = refuses-by OtherLength (rw (h, ne_eqb (length out) (length t) d)) (λ w. omega arith)

    module _ (l : length out ≡ length t) where
      pub refused-report : length report < 36 * nodes t → Answers (Err ShortReport)
      unfolding salvage_number
      refused-report d = refuses-by ShortReport
          (rw (h, eq-eqb (length out) (length t) l, lt-ltb (length report) (36 * nodes t) d)) (λ w. omega arith)

      module _ (r : 36 * nodes t ≤ length report) where
        pub refused-outgrown : outgrows t ≡ true → Answers (Err NoNodes)
        unfolding salvage_number
        refused-outgrown o =
            refuses-by NoNodes (rw (h, eq-eqb (length out) (length t) l, le-ltb (length report) (36 * nodes t) r, o)) (λ w. omega arith)

        accepted : outgrows t ≡ false → num ≡ 0
        unfolding salvage_number
        accepted o = rw (h, eq-eqb (length out) (length t) l, le-ltb (length report) (36 * nodes t) r, o)

        pub salvaged : outgrows t ≡ false → (d : ℕ) (o' r' : Words) → o' ≡ packed_table (nodes t) (kept_maps t)
            → Reported report r' (dropped_all t) d
            → (Ok d ≡ salvage t (length out) (length report))
            × ((o' ≡ salvage_out t out (length report)) × (r' ≡ salvage_report t (length out) report))
        unfolding salvage salvage_out salvage_report
        salvaged o d o' r' a b = let e =
            accepted o in (rw (e, b.0), (rw e a, rw e (b.1 ∙ ap (λ (i : ℕ). drop_words (dropped_all t) ++ drop (3 * i) report) b.0)))

-- ---- the header test

pub header-good : (t : Words) {r : Outcome} {x : Unit {0}} → r ≡ passed (header_number t) → r ≡ Ok x → header_ok t ≡ true
header-good t e w = (header-number-iff t).0 (passed-zero (header_number t) (sym e ∙ w))
