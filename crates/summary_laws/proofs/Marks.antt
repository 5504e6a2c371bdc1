-- Marks that are true of a table: fresh nodes by them, a mark more, a mark less.
use Rattle.std.proofs.Common.{◌≡◌, ℕ, zero, suc, ◌+◌, ◌-◌, ◌*◌, ◌/◌, ◌<◌, ◌≤◌, Bool, true, false, not, ◌||◌, ◌≢◌, List, length, replicate}
use Rattle.std.proofs.Common.{sym, refl, ap, ◌∙◌, ⊎_elim, arith}
use mathlib.Core.Bool.{or-false}
use mathlib.Core.List.{Memᴰ}
use lib.ListN.{length-replicate}
use Rattle.model.specs.Table.{Words, nodes, in_range}
use Rattle.model.specs.Reached.{head_or, reached, reached_all}
use Rattle.model.specs.SoundTest.{elem}
use Rattle.model.specs.Writes.{numbers, unreached, unreachable, fresh}
use Rattle.model.specs.Marks.{has, put, cleared, put_each}
use Rattle.model.specs.Summary.{mark_words, unmarked, free_after}
use Rattle.list_laws.proofs.Tools.{Each, Each-append, Each-map, same-or-not}
use Rattle.list_laws.proofs.Members.{elem-none}
use Rattle.list_laws.proofs.Filters.{filter-same}
use Rattle.list_laws.proofs.Counts.{numbers-each}
use Rattle.tree_laws.proofs.Rows.{range-iff}
use Rattle.step_laws.proofs.TreeAt.{tree_at}
use Rattle.two_laws.proofs.Arrange.{Arr, arr-covers}
use Rattle.set_laws.proofs.Marks.{has-put-same, has-put-other, put-length, none-marked, cleared-length, has-cleared-same, has-cleared-other}
use Rattle.set_laws.proofs.Marks.{each-length, each-marked}

-- a node that one tree reaches
pub reached-own : (w : ℕ) (ws : List ℕ) (t : Words) (m : ℕ) → Arr w ws t → Memᴰ m (reached (tree_at w t)) → elem m (reached_all t) ≡ true
reached-own w ws t m r i = go (elem m (reached_all t)) refl
  where
    go : (b : Bool) → elem m (reached_all t) ≡ b → elem m (reached_all t) ≡ true
    go true e = e
    go false e = absurd ((elem-none m (reached (tree_at w t))).0 (((arr-covers w ws t r).split m).0 e).0 i)

-- ---- marks that are true of a table

pub record MarksTrue (ms t : Words) : Type 0 where
  pub long : length ms ≡ mark_words (nodes t)
  pub same : (n : ℕ) → in_range (nodes t) n ≡ true → has ms n ≡ elem n (reached_all t)

module _ (ms t : Words) (m : MarksTrue ms t) where
  abbrev In : ℕ → Type 0
  In n = in_range (nodes t) n ≡ true

  unmarked-same : (ns : List ℕ) → Each In ns → unmarked ms ns ≡ unreached t ns
  unfolding unmarked unreached
  unmarked-same ns h =
      filter-same _ _ ns (Each-map In (λ (n : ℕ). not (has ms n) ≡ not (elem n (reached_all t))) ns (λ n r. ap not (m.same n r)) h)

  row-in : (a c : ℕ) → 1 ≤ a → a + c ≤ suc (nodes t) → Each In (numbers a c)
  row-in a c l h = Each-map (λ (n : ℕ). (a ≤ n) × (n < a + c)) In (numbers a c)
      (λ n q. let x = q.0 in let y = q.1 in (range-iff (nodes t) n).1 (omega arith, omega arith)) (numbers-each a c)

  pub unmarked-all : unmarked ms (numbers 1 (nodes t)) ≡ unreachable t
  unfolding unreachable
  unmarked-all = unmarked-same (numbers 1 (nodes t)) (row-in 1 (nodes t) (omega arith) (omega arith))

  -- Fresh by marks is fresh.
  pub free-fresh : (a : ℕ) → in_range (nodes t) a ≡ true → free_after (nodes t) ms a ≡ fresh t a
  unfolding free_after fresh
  free-fresh zero r = absurd (omega (arith, ((range-iff (nodes t) 0).0 r).0))
  free-fresh (suc a) r =
      let u = ((range-iff (nodes t) (suc a)).0 r).1 in
      ap (head_or 0) (unmarked-same _
      (Each-append In (numbers (suc (suc a)) (nodes t - suc a)) (numbers 1 a)
      (row-in (suc (suc a)) (nodes t - suc a) (omega arith) (omega arith)) (row-in 1 a (omega arith) (omega arith))))

  in-marks : (b : ℕ) → in_range (nodes t) b ≡ true → b < 64 * length ms
  unfolding mark_words
  in-marks b r = omega (arith, m.long, ((range-iff (nodes t) b).0 r).1)

  module _ (t' : Words) (size : nodes t' ≡ nodes t) (b : ℕ) (r : in_range (nodes t) b ≡ true)
      (others : (x : ℕ) → x ≢ b → elem x (reached_all t') ≡ elem x (reached_all t)) where
    other-marks : (ms' : Words) → ((y : ℕ) → y ≢ b → has ms' y ≡ has ms y) → has ms' b ≡ elem b (reached_all t') → (n : ℕ)
        → in_range (nodes t') n ≡ true → has ms' n ≡ elem n (reached_all t')
    other-marks ms' e here n q = ⊎_elim (λ z. rw z here) (λ z. e n z ∙ m.same n (rw size at q) ∙ sym (others n z)) (same-or-not n b)

    -- a node more is reached, or one less
    pub marks-more : elem b (reached_all t') ≡ true → MarksTrue (put ms b) t'
    marks-more e = record {
      long = put-length ms b ∙ m.long ∙ ap mark_words (sym size);
      same = other-marks (put ms b) (λ y z. has-put-other ms b y (in-marks b r) z) (has-put-same ms b (in-marks b r) ∙ sym e);
    }

    pub marks-less : elem b (reached_all t') ≡ false → MarksTrue (cleared ms b) t'
    marks-less e = record {
      long = cleared-length ms b ∙ m.long ∙ ap mark_words (sym size);
      same = other-marks (cleared ms b) (λ y z. has-cleared-other ms b y (in-marks b r) z) (has-cleared-same ms b (in-marks b r) ∙ sym e);
    }

  pub marks-same : (t' : Words) → nodes t' ≡ nodes t → ((x : ℕ) → elem x (reached_all t') ≡ elem x (reached_all t)) → MarksTrue ms t'
  marks-same t' size e = record { long = m.long ∙ ap mark_words (sym size); same = λ n q. m.same n (rw size at q) ∙ sym (e n) }

-- ---- worked out

pub marks-opened : (t : Words) → Each (λ (n : ℕ). in_range (nodes t) n ≡ true) (reached_all t)
    → MarksTrue (put_each (reached_all t) (replicate (mark_words (nodes t)) 0)) t
unfolding mark_words
marks-opened t h = record {
  long = each-length (reached_all t) _ ∙ length-replicate (mark_words (nodes t)) 0;
  same = λ n r.
      each-marked (reached_all t) (replicate (mark_words (nodes t)) 0) n
      (Each-map _ _ (reached_all t)
      (λ y q. omega (arith, length-replicate {A = ℕ} (suc (nodes t / 64)) 0, ((range-iff (nodes t) y).0 q).1)) h)
      ∙ ap (λ (b : Bool). elem n (reached_all t) || b) (none-marked (mark_words (nodes t)) n) ∙ or-false (elem n (reached_all t));
}
