-- A listing of a map: the first of its pairs in the range, rising, as many as fit; and whether there are more.
use Rattle.std.proofs.Common.{◌≡◌, ℕ, ◌+◌, ◌/◌, ◌<◌, ◌≤◌, Bool, true, false, ◌&&◌, ltb, leb, ◌⊎◌, ◌↔◌, List, [], ◌∷◌, ◌++◌, length, take}
use Rattle.std.proofs.Common.{drop, sym, refl, ap, ◌∙◌, inl, inr, ⊎_elim, div-mul-le_self, arith, length-append, take-append-drop}
use Rattle.std.proofs.Common.{length-take, ltb-true, lt-ltb, leb-true}
use mathlib.Core.List.{Memᴰ}
use lib.Seq.{take-nil}
use borrow.Author.Tests.{lt-leb}
use Rattle.model.specs.Results.{page_with}
use Rattle.model.specs.Table.{Words}
use Rattle.model.specs.Slots.{Slot}
use Rattle.model.specs.SoundTest.{rising}
use Rattle.model.specs.Demand2.{Listing}
use Rattle.model.specs.Listing.{in_range_of, listed, listed_words}
use Rattle.list_laws.proofs.Tools.{decode, Each}
use Rattle.list_laws.proofs.Members.{each-mem, mem-each}
use Rattle.list_laws.proofs.Filters.{mem-filter, filter-none}
use Rattle.tree_laws.proofs.Rising.{rising-filter, rise-from-rising, Apart, rising-apart}

pub mem-range : (low high : ℕ) (s : Slot) (ps : List Slot) → Memᴰ s (in_range_of low high ps) ↔ (Memᴰ s ps × (low ≤ s.key) × (s.key ≤ high))
unfolding in_range_of
mem-range low high s ps =
    let q : Slot → Bool = λ (s : Slot). leb low s.key && leb s.key high in (
      λ m. (let u = (mem-filter q s ps).0 m in let w = simp decode at u.1 in (u.0, w.0, w.1)),
      λ u. (mem-filter q s ps).1 (u.0, simp decode (u.1, u.2)),
    )

pub range-none : (low high : ℕ) (ps : List Slot) → high < low → in_range_of low high ps ≡ []
unfolding in_range_of
range-none low high ps h =
    filter-none (λ (s : Slot). leb low s.key && leb s.key high) ps (mem-each _ ps (λ s m. go s.key (leb low s.key) refl))
  where
    go : (k : ℕ) (b : Bool) → leb low k ≡ b → leb low k && leb k high ≡ false
    go k true c = rw c (lt-leb k high (omega (arith, leb-true low k c)))
    go k false c = rw c

take-mem : (n : ℕ) (ps : List Slot) (s : Slot) → Memᴰ s (take n ps) → Memᴰ s ps
take-mem n ps s m = rw (take-append-drop n ps) at (mathlib.Core.List.Memᴰ.append_left {s = take n ps} (drop n ps) m)

-- the first n of rising pairs are below all others
module _ (n : ℕ) (ps : List Slot) (r : rising 0 ps ≡ true) where
  joined : take n ps ++ drop n ps ≡ ps
  joined = take-append-drop n ps

  parts : Apart 0 (take n ps) (drop n ps)
  parts = rising-apart 0 (take n ps) (drop n ps) (ap (rising 0) joined ∙ r)

  longer : length (take n ps) + length (drop n ps) ≡ length ps
  longer = sym (length-append (take n ps) (drop n ps)) ∙ ap length joined

  in-drop : (s : Slot) → Memᴰ s (drop n ps) → (u : Slot) → Memᴰ u (take n ps) → u.key < s.key
  in-drop s m u l =
      each-mem (λ (w : Slot). u.key < w.key) (each-mem (λ (x : Slot). Each (λ (w : Slot). x.key < w.key) (drop n ps)) parts.between l) m

  first-or-above : (s : Slot) → Memᴰ s ps → Memᴰ s (take n ps) ⊎ ((u : Slot) → Memᴰ u (take n ps) → u.key < s.key)
  first-or-above s m =
      ⊎_elim (λ a. inl a) (λ (b : Memᴰ s (drop n ps)). inr (in-drop s b))
      (mathlib.Core.List.Memᴰ.append_cases {a = s} (take n ps) (rw joined m))

  -- they are not all exactly if one is not among them
  further-iff : (ltb (length (take n ps)) (length ps) ≡ true) ↔ ((s : Slot) × Memᴰ s ps × (Memᴰ s (take n ps) → ⊥))
  further-iff = (λ h. from (drop n ps) refl (ltb-true _ _ h), λ u. lt-ltb _ _ (to u.0 u.1 u.2))
    where
      from : (l : List Slot) → drop n ps ≡ l → length (take n ps) < length ps → (s : Slot) × Memᴰ s ps × (Memᴰ s (take n ps) → ⊥)
      from [] e h = absurd (omega (arith, longer, ap length e))
      from (s ∷ l) e h =
          let q : take n ps ++ s ∷ l ≡ ps = ap (λ (x : List Slot). take n ps ++ x) (sym e) ∙ joined in
          let m : Memᴰ s (drop n ps) = rw e (mathlib.Core.List.Memᴰ.head refl) in (
            s,
            rw q at (mathlib.Core.List.Memᴰ.append_right (take n ps) {t = s ∷ l} (mathlib.Core.List.Memᴰ.head refl)),
            λ a. let z = in-drop s m s a in omega (arith, z),
          )

      some : (l : List Slot) (s : Slot) → Memᴰ s l → 0 < length l
      some [] s m = absurd (mathlib.Core.List.Memᴰ.not-nil m)
      some (x ∷ l) s m = omega arith

      to : (s : Slot) → Memᴰ s ps → (Memᴰ s (take n ps) → ⊥) → length (take n ps) < length ps
      to s m h = ⊎_elim (λ a. absurd (h a)) (λ (b : Memᴰ s (drop n ps)). omega (arith, some (drop n ps) s b, longer))
          (mathlib.Core.List.Memᴰ.append_cases {a = s} (take n ps) (rw joined m))

no-pairs : (n : ℕ) → listed [] n ≡ page_with 0 false
unfolding listed
no-pairs n = rw (take-nil {A = Slot} (n / 2)) refl

no-words : (out : Words) → listed_words [] out ≡ out
unfolding listed_words
no-words out = rw (take-nil {A = Slot} (length out / 2)) refl

-- of pairs whose keys rise, those in the range, as many as fit, are the listing that is asked for
pub list-law : (m : List Slot) (low high : ℕ) (out : Words) → rising 0 m ≡ true
    → Listing m low high out (listed (in_range_of low high m) (length out)) (listed_words (in_range_of low high m) out)
unfolding listed listed_words
list-law m low high out h =
    let ps = in_range_of low high m in
    let n = length out / 2 in
    let w = take n ps in
    let r : rising 0 ps ≡ true = unfold in_range_of in rising-filter 0 (λ (s : Slot). leb low s.key && leb s.key high) m h in
    let f = further-iff n ps r in
    record {
      pairs = w;
      more = ltb (length w) (length ps);
      answers = refl;
      in-range = λ s l. (mem-range low high s m).0 (take-mem n ps s l);
      rises = rise-from-rising 0 w (parts n ps r).left;
      lowest = λ s l. first-or-above n ps r s ((mem-range low high s m).1 l);
      fits = omega (arith, length-take n ps, div-mul-le_self (length out) 2);
      full = λ e. let l = ltb-true (length w) (length ps) e in omega (arith, length-take n ps, l);
      further = (
        λ e. (let u = f.0 e in (u.0, (mem-range low high u.0 m).0 u.1, u.2)),
        λ u. f.1 (u.0, (mem-range low high u.0 m).1 u.1, u.2),
      );
      writes = refl;
      none = λ l. (let e = range-none low high m l in (
        ap (λ (x : List Slot). listed x (length out)) e ∙ no-pairs (length out),
        ap (λ (x : List Slot). listed_words x out) e ∙ no-words out,
      ));
    }
