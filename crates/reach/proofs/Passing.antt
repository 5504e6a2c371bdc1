-- Nodes passed in a search for a fresh one: which are reached, and which get a mark.
use Rattle.std.proofs.Common.{◌≡◌, ℕ, zero, suc, ◌+◌, ◌-◌, ◌<◌, ◌≤◌, Bool, true, false, leb, ◌≢◌, sym, refl, ap, ◌∙◌, ⊎_elim, add-one}
use Rattle.std.proofs.Common.{arith, le-ltb, lt-ltb, eq-eqb, ne_eqb, leb-false, leb-true}
use Rattle.model.specs.Table.{Words, at, nodes}
use Rattle.model.specs.Reached.{flat, trees, reached_all}
use Rattle.model.specs.SoundTest.{elem, sound}
use Rattle.model.specs.Writes.{numbers}
use Rattle.list_laws.proofs.Tools.{same-or-not}
use Rattle.bits.specs.Bits.{has, put}
use Rattle.reach.specs.Marks.{Taken, AllTaken, put_all, named_leaves, marked_once, marked_if, looked_at, looked_round, fresh_round}
use Rattle.reach.specs.Marks.{fresh_marks}
use Rattle.reach.proofs.Members.{root-taken, zero-free}
use Rattle.reach.proofs.Marking.{put-taken, put_all-taken}
use Rattle.reach.proofs.Parents.{leaves-taken}
use Rattle.marks.proofs.Rows.{first_from as unmarked_from, row-more, first-is, none-is}
use Rattle.reach.proofs.Unreached.{first_from, first-none, first-here, first-later, first-past}

-- ---- the leaves once

module _ (t ws : Words) where
  pub once-known : has ws (at t 1) ≡ true → ws ≡ marked_once t ws
  unfolding marked_once
  once-known e = rw e

  pub once-new : has ws (at t 1) ≡ false → (all after : Words) → all ≡ put_all (flat named_leaves (trees t)) ws → after ≡ put all (at t 1)
      → after ≡ marked_once t ws
  unfolding marked_once
  once-new e all after p q = rw (e, q, p)

  pub once-taken : sound t ≡ true → AllTaken t ws → (all after : Words) → all ≡ put_all (flat named_leaves (trees t)) ws → after
      ≡ put all (at t 1) → AllTaken t after
  once-taken s a all after p q = rw (q, p) (put-taken t _ (at t 1) (put_all-taken t _ ws (leaves-taken t s) a) (root-taken t s))

-- ---- one node

module _ (t ws : Words) (n : ℕ) where
  pub if-marked : AllTaken t ws → has ws n ≡ true → ws ≡ marked_if t ws n
  unfolding marked_if
  if-marked a e = rw (a n e, e)

  pub if-new : Taken t n → has ws n ≡ false → (after : Words) → after ≡ put ws n → after ≡ marked_if t ws n
  unfolding marked_if
  if-new k e after q = rw (k, e, q)

-- ---- one by one

module _ (t : Words) where
  abbrev pub looked : (n last : ℕ) → Words → Words
  looked n last ws = looked_at t (numbers n (last + 1 - n)) ws

  pub look-none : (n last : ℕ) (ws : Words) → last < n → ws ≡ looked n last ws
  unfolding numbers looked_at
  look-none n last ws h = let e : last + 1 - n ≡ 0 = omega arith in rw e

  pub look-free : (n last : ℕ) (ws : Words) → n ≤ last → elem n (reached_all t) ≡ false → ws ≡ looked n last ws
  unfolding looked_at
  look-free n last ws h e = rw (row-more n last h, e)

  look-one : (n last : ℕ) (ws : Words) → n ≤ last → Taken t n → looked (n + 1) last (marked_if t ws n) ≡ looked n last ws
  unfolding looked_at
  look-one n last ws h k = rw (add-one n, row-more n last h, k)

  -- a run of marked ones
  look-past : (r n last : ℕ) (ws : Words) → AllTaken t ws → ((m : ℕ) → n ≤ m → m < n + r → has ws m ≡ true)
      → looked (n + r) last ws ≡ looked n last ws
  look-past zero n last ws a h = let e : n + 0 ≡ n = omega arith in rw e
  look-past (suc r) n last ws a h =
      let e : n + suc r ≡ n + 1 + r = omega arith in
      rw e (look-past r (n + 1) last ws a (λ m p q. h m (omega arith) (omega arith)) ∙ one (leb n last) refl)
    where
      here : has ws n ≡ true
      here = h n (omega arith) (omega arith)

      one : (b : Bool) → leb n last ≡ b → looked (n + 1) last ws ≡ looked n last ws
      one true q = ap (looked (n + 1) last) (if-marked t ws n a here) ∙ look-one n last ws (leb-true n last q) (a n here)
      one false q = let g = leb-false n last q in sym (look-none (n + 1) last ws (omega arith)) ∙ look-none n last ws g

  -- ---- the marked ones passed at once: f is the first from n on that is not marked, 0 if there is none

  module _ (n last f : ℕ) (ws : Words) (a : AllTaken t ws) where
    -- what is left of the row from m on comes to what the row comes to
    abbrev pub SameFrom : (m : ℕ) → Words → Type 0
    SameFrom m after = (first_from t m last ≡ first_from t n last) × (looked m last after ≡ looked n last ws)

    same-past : (m : ℕ) → n ≤ m → ((i : ℕ) → n ≤ i → i < m → has ws i ≡ true) → SameFrom m ws
    same-past m h k =
        let e : n + (m - n) ≡ m = omega arith in
        let some : (i : ℕ) → n ≤ i → i < n + (m - n) → has ws i ≡ true = rw e k in
        rw (← e) (first-past t (m - n) n last (λ i p q. a i (some i p q)), look-past (m - n) n last ws a some)

    module _ (q : f ≡ unmarked_from (has ws) n last) where
      pub same-here : f ≢ 0 → SameFrom f ws
      same-here z = let s = first-is (has ws) n last f q z in same-past f s.no-less s.before

      -- a descent finds it reached, and it is marked
      pub same-after : f ≢ 0 → Taken t f → (after : Words) → after ≡ put ws f → SameFrom (f + 1) after
      same-after z k after e =
          let s = first-is (has ws) n last f q z in
          let p = same-here z in (
            first-later t f last s.within k ∙ p.0,
            ap (looked (f + 1) last) (if-new t ws f k s.free after e) ∙ look-one f last ws s.within k ∙ p.1,
          )

      abbrev pub NoneLeft : Type 0
      NoneLeft = (0 ≡ first_from t n last) × (ws ≡ looked n last ws)

      pub none-more : sound t ≡ true → f ≡ 0 → NoneLeft
      none-more s z = ⊎_elim of-none of-some (same-or-not n 0)
        where
          of-none : n ≡ 0 → NoneLeft
          of-none o =
              let free : elem n (reached_all t) ≡ false = rw o (zero-free t s) in
              (sym o ∙ sym (first-here t n last (omega (arith, o)) free), look-free n last ws (omega (arith, o)) free)

          row : n ≢ 0 → (b : Bool) → leb n last ≡ b → NoneLeft
          row o false e = let h = leb-false n last e in (sym (first-none t n last h), look-none n last ws h)
          row o true e =
              let h = leb-true n last e in
              let p = same-past (last + 1) (omega (arith, h))
              (λ i b c. none-is (has ws) n last f (omega (arith, o)) q z i b (omega arith)) in
              (sym (first-none t (last + 1) last (omega arith)) ∙ p.0, look-none (last + 1) last ws (omega arith) ∙ p.1)

          of-some : n ≢ 0 → NoneLeft
          of-some o = row o (leb n last) refl

  -- ---- going round

  module _ (a : ℕ) (ws once after : Words) (o : once ≡ marked_once t ws) (q : after ≡ looked (a + 1) (nodes t) once) (n : ℕ)
      (f : n ≡ first_from t (a + 1) (nodes t)) where
    first-row : nodes t + 1 - (a + 1) ≡ nodes t - a
    first-row = omega arith

    pub round-found : n ≢ 0 → after ≡ fresh_round t ws a
    unfolding fresh_round looked_round
    round-found z = let g : n ≡ _ = rw first-row at f in rw (← o, ne_eqb _ 0 (λ y. z (g ∙ y)), q, first-row)

    pub round-on : n ≡ 0 → (more : Words) → more ≡ looked 1 (a - 1) after → more ≡ fresh_round t ws a
    unfolding fresh_round looked_round
    round-on z more p =
        let g : n ≡ _ = rw first-row at f in
        let s : a - 1 + 1 - 1 ≡ a - 1 = omega arith in
        rw (← o, eq-eqb _ 0 (sym g ∙ z), p, s, q, first-row)

  module _ (ws : Words) (a : ℕ) where
    pub fresh-next : a < nodes t → elem (a + 1) (reached_all t) ≡ false → ws ≡ fresh_marks t ws a
    unfolding fresh_marks
    fresh-next h e = rw (lt-ltb a (nodes t) h, e)

    pub fresh-last : nodes t ≤ a → (after : Words) → after ≡ fresh_round t ws a → after ≡ fresh_marks t ws a
    unfolding fresh_marks
    fresh-last h after q = rw (le-ltb a (nodes t) h, q)

    pub fresh-taken : a < nodes t → Taken t (a + 1) → (after : Words) → after ≡ fresh_round t ws a → after ≡ fresh_marks t ws a
    unfolding fresh_marks
    fresh-taken h e after q = rw (lt-ltb a (nodes t) h, e, q)
