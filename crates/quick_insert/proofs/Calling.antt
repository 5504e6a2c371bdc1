-- The quick insertion from its refusals or its first store to its end.
use Rattle.std.proofs.Common.{◌≡◌, ℕ, zero, suc, ◌<◌, ◌≤◌, Bool, true, false, List, ◌++◌, length, drop, sym, refl, ◌∙◌, arith, length-drop}
use Rattle.std.specs.Prelude.{Ok, Err}
use Rattle.model.specs.declared.Refusal.{Refusal}
use Rattle.model.specs.Results.{passed}
use Rattle.model.specs.Numbers.{refusal_number}
use Rattle.model.specs.Table.{Words, nodes}
use Rattle.model.specs.Slots.{pointer_of, recording_ok, class_ok}
use Rattle.model.specs.Writes.{insertion}
use Rattle.model.specs.Refusals.{Test, first_number, words_for}
use Rattle.model.specs.Cells.{entered}
use Rattle.model.specs.Summary.{mark_words, cell_words, summary_words, marks_in, cells_in, way_made, quick_insert, own_tests}
use Rattle.model.specs.Summary.{quick_list_number, quick_number, quick_stores, quick_words}
use Rattle.model.proofs.Numbers.{passed-zero, failed-some}
use Rattle.list_laws.proofs.Tools.{leb-iff}
use Rattle.orders.specs.declared.Pen.{Pen}
use Rattle.orders.specs.Desk.{desk, first_pen}
use Rattle.quick.specs.Lists.{lent_tests, lent_number}
use Rattle.quick.proofs.Ending.{Promised, begin_tests, begin-refused, begin-passed, lent-refused, lent-passed, list-long, refusal-some}
use Rattle.quick.proofs.Ending.{refused-for, refused-as, Begun}

-- ---- the summary

pub cells-some : (N : ℕ) (ws : Words) → length ws ≡ summary_words N → 1 ≤ N → 0 < length (drop (mark_words N) ws)
unfolding cell_words
cells-some N ws e h = omega (arith, length-drop (mark_words N) ws, e, h)

-- ---- what the own tests of an accepted call say

pub own-passed : (n k r c : ℕ) (ms cs t : Words) → first_number (own_tests (insertion n k r c) ms cs t) ≡ 0
    → (recording_ok r ≡ true) × (class_ok c ≡ true)
own-passed n k r c ms cs t e = go (recording_ok r) (class_ok c) refl refl
  where
    go : (a b : Bool) → recording_ok r ≡ a → class_ok c ≡ b → (recording_ok r ≡ true) × (class_ok c ≡ true)
    go true true f g = (f, g)
    go true false f g = let z : ◌≡◌ {A = ℕ} 14 0 = rw (f, g) at e in absurd (omega arith)
    go false b f g = let z : ◌≡◌ {A = ℕ} 6 0 = rw f at e in absurd (omega arith)

pub class-low : (c : ℕ) → class_ok c ≡ true → c ≤ 2
unfolding class_ok
class-low c e = (leb-iff c 2).0 e

-- ---- the call

module _ (n k r c dock : ℕ) (t lent ws : Words) where
  abbrev own : List Test
  own = own_tests (insertion n k r c) (marks_in (nodes t) ws) (cells_in (nodes t) ws) t

  parts : quick_number (insertion n k r c) (length lent) dock ws t
      ≡ first_number (begin_tests n ws t k ++ (lent_tests (length lent) dock ++ own))
  unfolding quick_number
  parts = refl

  -- an accepted call has a list that is long enough
  pub accepted-long : quick_number (insertion n k r c) (length lent) dock ws t ≡ 0 → words_for dock ≤ length lent
  accepted-long ok = go (quick_list_number n ws t k) (lent_number (length lent) dock) refl refl
    where
      go : (a b : ℕ) → quick_list_number n ws t k ≡ a → lent_number (length lent) dock ≡ b → words_for dock ≤ length lent
      go (suc a) b e f =
          let z : ◌≡◌ {A = ℕ} 0 (suc a) =
          sym ok ∙ parts ∙ begin-refused n ws t k (lent_tests (length lent) dock ++ own) (λ q. omega (arith, e, q)) ∙ e in
          absurd (omega (arith, z))
      go zero (suc b) e f =
          let z : ◌≡◌ {A = ℕ} 0 (suc b) =
          sym ok ∙ parts ∙ begin-passed n ws t k (lent_tests (length lent) dock ++ own) e
          ∙ lent-refused (length lent) dock own (λ q. omega (arith, f, q)) ∙ f in
          absurd (omega (arith, z))
      go zero zero e f = list-long (length lent) dock f

  pub begin-refuses : (e : Refusal) → refusal_number e ≡ quick_list_number n ws t k
      → Promised (insertion n k r c) t lent ws dock (Err e) t lent ws
  begin-refuses e q =
      refused-for (insertion n k r c) t lent ws dock e
      (parts ∙ begin-refused n ws t k (lent_tests (length lent) dock ++ own) (λ z. refusal-some e (q ∙ z)) ∙ sym q)

  module _ (b : 0 ≡ quick_list_number n ws t k) where
    pub lent-refuses : {e : Refusal} → passed (lent_number (length lent) dock) ≡ Err e
        → Promised (insertion n k r c) t lent ws dock (Err e) t lent ws
    lent-refuses f =
        refused-as (insertion n k r c) t lent ws dock (lent_number (length lent) dock) f
        (parts ∙ begin-passed n ws t k (lent_tests (length lent) dock ++ own) (sym b)
        ∙ lent-refused (length lent) dock own (failed-some (lent_number (length lent) dock) f))

    module _ (l : passed (lent_number (length lent) dock) ≡ Ok tt) {ms cs : Words} (em : ms ≡ marks_in (nodes t) ws)
        (ec : cs ≡ cells_in (nodes t) ws) where
      own-number : quick_number (insertion n k r c) (length lent) dock ws t ≡ first_number (own_tests (insertion n k r c) ms cs t)
      own-number = rw (em, ec)
          (parts ∙ begin-passed n ws t k (lent_tests (length lent) dock ++ own) (sym b)
          ∙ lent-passed (length lent) dock own (passed-zero _ l))

      pub own-refuses : {e : Refusal} → passed (first_number (own_tests (insertion n k r c) ms cs t)) ≡ Err e
          → Promised (insertion n k r c) t lent ws dock (Err e) t lent ws
      own-refuses f = refused-as (insertion n k r c) t lent ws dock (first_number (own_tests (insertion n k r c) ms cs t)) f own-number

      -- none refuses
      module _ (f : passed (first_number (own_tests (insertion n k r c) ms cs t)) ≡ Ok tt) where
        pub recording-fits : recording_ok r ≡ true
        recording-fits = (own-passed n k r c ms cs t (passed-zero _ f)).0

        pub class-fits : c ≤ 2
        class-fits = class-low c (own-passed n k r c ms cs t (passed-zero _ f)).1

        pub accepted : quick_number (insertion n k r c) (length lent) dock ws t ≡ 0
        accepted = own-number ∙ passed-zero _ f

        pub begun : {p : Pen} → p ≡ first_pen dock → Begun (insertion n k r c) dock ws (desk t lent p)
        begun e = record { accepted = accepted; long = list-long (length lent) dock (passed-zero _ l); first = e }

      -- the stores and the words, by what the code reads
      pub stores-as : {p : ℕ} → p ≡ pointer_of r c → quick_stores (insertion n k r c) ws t ≡ quick_insert n ms t k p
      unfolding quick_stores
      stores-as ep = rw (em, ep)

      pub words-as : {q : ℕ} → q ≡ pointer_of r n → {ms' cs' : Words} → ms' ≡ (way_made n ms t k).marks → cs' ≡ entered cs q → ms' ++ cs'
          ≡ quick_words (insertion n k r c) ws t
      unfolding quick_words
      words-as eq {ms'} {cs'} f g = rw (f, g, em, ec, eq)
