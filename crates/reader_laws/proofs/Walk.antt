-- The next code up, looked for along the leaves while a call runs: no leaf on the way fails a test, and no more than N are entered.
use Rattle.std.proofs.Common.{◌≡◌, ℕ, zero, suc, ◌+◌, ◌<◌, ◌≤◌, Bool, true, false, eqb, ◌≢◌, List, [], ◌∷◌, length, sym, refl, ap, ◌∙◌}
use Rattle.std.proofs.Common.{arith}
use borrow.Author.Tests.{eqb-false}
use Rattle.model.specs.declared.Answer.{Answer}
use Rattle.model.specs.declared.Answer.TheVariants.{Absent}
use Rattle.std.specs.Prelude.{Some, None}
use Rattle.model.specs.Table.{in_range}
use Rattle.model.specs.Slots.{NodeView, View}
use Rattle.model.specs.Search.{first_above, absent_or, Next}
use Rattle.model.specs.SoundTest.{distinct}
use Rattle.model.specs.Looks.{seen_pass, seen_kept, next_looks, Forward}
use Rattle.list_laws.proofs.Tools.{Each, Each-map}
use Rattle.list_laws.proofs.Members.{elem-false}
use Rattle.list_laws.proofs.Distinct.{UpTo, distinct-cons, pigeonhole}
use Rattle.tree_laws.proofs.Rows.{range-iff}
use Rattle.tree_laws.proofs.Levels.{Orderly}
use Rattle.step_laws.proofs.Rowwise.{OnRow, Lasts, row-range}
use Rattle.reader_laws.proofs.TwoLooks.{seen-pass}

-- n was a leaf at some moment up to j
abbrev pub WasLeaf : (ℕ → View) → ℕ → ℕ → Type 0
WasLeaf w j n = (i : ℕ) × (i ≤ j) × OnRow (w i) 0 n

-- What was a leaf stays one, with its fence; its sibling was one too, and has a higher fence.
pub record Leaves (w : ℕ → View) : Type 0 where
  pub lasts : (i j : ℕ) → i ≤ j → Lasts 0 (w i) (w j)
  pub next : (i j n : ℕ) → i ≤ j → OnRow (w i) 0 n → ((w j).node n).sibling ≢ 0 → WasLeaf w j ((w j).node n).sibling
      × (((w j).node n).fence < ((w j).node ((w j).node n).sibling).fence)

-- an absent answer, whatever comes after
absent-or : (x : Next) (later : Answer) → (z : Next) × (later ≡ Absent z) → (z : Next) × (absent_or x later ≡ Absent z)
absent-or (Some j) later h = (Some j, refl)
absent-or None later h = h

module _ (w : ℕ → View) (N k : ℕ) (orderly : (i : ℕ) → Orderly (w i)) (nodes : (i : ℕ) → (w i).nodes ≡ N) (y : Leaves w) (moment : ℕ → ℕ)
    (forward : Forward moment) where
  abbrev look : (i n : ℕ) → NodeView
  look i n = (w (moment i)).node n

  later : (i j n : ℕ) → i ≤ j → WasLeaf w i n → WasLeaf w j n
  later i j n h (x, a, r) = (x, omega arith, r)

  was-level : (j n : ℕ) → WasLeaf w j n → ((w j).node n).level ≡ 0
  was-level j n u = (y.lasts u.0 j u.1).level n u.2

  was-range : (j n : ℕ) → WasLeaf w j n → in_range N n ≡ true
  was-range j n u = ap (λ (m : ℕ). in_range m n) (sym (nodes u.0)) ∙ row-range (w u.0) (orderly u.0) 0 n u.2

  was-fence : (i j n : ℕ) → i ≤ j → WasLeaf w i n → ((w j).node n).fence ≡ ((w i).node n).fence
  was-fence i j n h u = (y.lasts u.0 j (omega (arith, u.1))).fence n u.2 ∙ sym ((y.lasts u.0 i u.1).fence n u.2)

  -- entered before n: another leaf, of a lower fence
  abbrev Before : (j n m : ℕ) → Type 0
  Before j n m = WasLeaf w j m × (((w j).node m).fence < ((w j).node n).fence)

  before-other : (j n : ℕ) (ms : List ℕ) → Each (Before j n) ms → Each (λ (m : ℕ). m ≢ n) ms
  before-other j n ms h =
      Each-map (Before j n) (λ (m : ℕ). m ≢ n) ms (λ m b e. omega (arith, b.1, ap (λ (x : ℕ). ((w j).node x).fence) e)) h

  entered : (j n : ℕ) (ms : List ℕ) → WasLeaf w j n → Each (Before j n) ms → distinct ms ≡ true
      → (distinct (n ∷ ms) ≡ true) × (suc (length ms) ≤ N)
  entered j n ms u h d =
      let e = (distinct-cons n ms).1 ((elem-false n ms).1 (before-other j n ms h), d) in (
        e,
        pigeonhole N (n ∷ ms) e
            ((range-iff N n).0 (was-range j n u), Each-map (Before j n) (UpTo N) ms (λ m b. (range-iff N m).0 (was-range j m b.0)) h),
      )

  -- one leaf on
  module _ (i n : ℕ) (ms : List ℕ) (u : WasLeaf w (moment i) n) (h : Each (Before (moment i) n) ms) where
    abbrev s : ℕ
    s = (look i n).sibling

    abbrev here : ℕ
    here = moment i

    abbrev next : ℕ
    next = moment (suc i)

    module _ (z : s ≢ 0) where
      further : WasLeaf w here s × (((w here).node n).fence < ((w here).node s).fence)
      further = y.next u.0 here n u.1 u.2 z

      next-leaf : WasLeaf w next s
      next-leaf = later here next s (forward i) further.0

      rises : (m : ℕ) → WasLeaf w here m → ((w here).node m).fence ≤ ((w here).node n).fence → Before next s m
      rises m v g = (
        later here next m (forward i) v,
        omega (arith, g, further.1, was-fence here next m (forward i) v, was-fence here next s (forward i) further.0),
      )

      next-before : Each (Before next s) (n ∷ ms)
      next-before = (rises n u (omega arith), Each-map (Before here n) (Before next s) ms (λ m b. rises m b.0 (omega (arith, b.1))) h)

    pass : seen_pass N 0 n (look i n) (look (suc i) s) ≡ true
    pass = seen-pass N 0 n (look i n) (look (suc i) s) (was-range here n u) (was-level here n u)
        (λ z. (was-range here s (further z).0, was-level next s (next-leaf z)))

  -- From a leaf on, before which the leaves ms were entered, the walk ends with an absent answer.
  walk : (c i n : ℕ) (ms : List ℕ) → WasLeaf w (moment i) n → Each (Before (moment i) n) ms → distinct ms ≡ true → N ≤ c + length ms
      → (z : Next) × (next_looks look N k c i n ≡ Absent z)
  unfolding next_looks
  walk zero i n ms u h d g = absurd (omega (arith, (entered (moment i) n ms u h d).1))
  walk (suc c) i n ms u h d g =
      go (eqb (s i n ms u h) 0) refl
      (λ z. walk c (suc i) (s i n ms u h) (n ∷ ms) (next-leaf i n ms u h z) (next-before i n ms u h z)
      (entered (moment i) n ms u h d).0 (omega (arith, g)))
    where
      go : (b : Bool) → eqb (s i n ms u h) 0 ≡ b
          → (s i n ms u h ≢ 0 → (z : Next) × (next_looks look N k c (suc i) (s i n ms u h) ≡ Absent z)) → (z : Next)
          × (next_looks look N k (suc c) i n ≡ Absent z)
      go true e ih = rw (pass i n ms u h, e, next_looks)
          (absent-or (first_above k (seen_kept (look i n) (look (suc i) (look i n).sibling))) (Absent None) (None, refl))
      go false e ih = rw (pass i n ms u h, e, next_looks)
          (absent-or (first_above k (seen_kept (look i n) (look (suc i) (look i n).sibling))) _ (ih (eqb-false _ 0 e)))

  pub walk-absent : (i n : ℕ) → WasLeaf w (moment i) n → (z : Next) × (next_looks look N k N i n ≡ Absent z)
  unfolding distinct
  walk-absent i n u = walk N i n [] u tt refl (omega arith)
