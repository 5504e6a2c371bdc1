-- The pairs kept and their recordings: looked through, and one more among them.
use Rattle.std.proofs.Common.{◌≡◌, ℕ, suc, ◌+◌, ◌-◌, ◌*◌, ◌%◌, Bool, true, false, cond, not, ◌&&◌, ◌||◌, eqb, ltb, List, [], ◌∷◌, ◌++◌}
use Rattle.std.proofs.Common.{length, take, drop, sym, refl, ap, ◌∙◌, subst, ⊎_elim, append-nil, arith, length-append, length-drop}
use Rattle.std.proofs.Common.{take-append-drop, drop_of_length-le, length-take-le, take_all, get_or-take, take-take, take_at, drop_at}
use mathlib.Core.Bool.{or_assoc}
use Rattle.std.proofs.lemmas.List.{drop-take}
use Rattle.model.specs.Table.{Words}
use Rattle.model.specs.Slots.{Slot, slot, slots_of, recording_of, recording, pointer_ok}
use Rattle.model.specs.Refusals.{has_key, has_recording}
use Rattle.model.specs.Ledger.{enter}
use Rattle.model.specs.Salvage.{out_of_range, reason_for}
use Rattle.list_laws.proofs.Tools.{or-swap, same-or-not}
use Rattle.std.specs.Prelude.{Ok, Err}
use Rattle.numbers.specs.declared.Stop.TheVariants.{Known, Full}
use Rattle.numbers.specs.Cells.{Entry, mixed, Outcome, outcome, entered}
use Rattle.numbers.specs.Filed.{Filed}
use Rattle.numbers.proofs.Filed.{Told, told, known-number, new-number, filed-more, filed-full}
use Rattle.gap.specs.Around.{around, Under, Over, ends_with}
use Rattle.gap.proofs.Around.{ends-none, ends-some}
use Rattle.gap.proofs.Places.{ends-key}
use Rattle.gather.specs.declared.Tally.{Tally}
use Rattle.gather.specs.Held.{pairs_of, Standing, Filing}

-- ---- a pair more

-- with k entered, a map has key q exactly if q is k or the map had it
pub enter-key : (q k p : ℕ) (ps : List Slot) → has_key q (enter k p ps) ≡ (eqb k q || has_key q ps)
unfolding enter has_key
enter-key q k p [] = refl
enter-key q k p (s ∷ ss) = go (ltb k s.key) (enter-key q k p ss)
  where
    go : (b : Bool) → has_key q (enter k p ss) ≡ (eqb k q || has_key q ss) → has_key q (cond b (slot k p ∷ s ∷ ss) (s ∷ enter k p ss))
        ≡ (eqb k q || (eqb s.key q || has_key q ss))
    go true h = unfold has_key in refl
    go false h = unfold has_key in (ap (λ (b : Bool). eqb s.key q || b) h ∙ or-swap (eqb s.key q) (eqb k q) (has_key q ss))

-- entering a pair makes a map longer by one
pub enter-length : (k p : ℕ) (ps : List Slot) → length (enter k p ps) ≡ suc (length ps)
unfolding enter
enter-length k p [] = refl
enter-length k p (s ∷ ss) = go (ltb k s.key) (enter-length k p ss)
  where
    go : (b : Bool) → length (enter k p ss) ≡ suc (length ss)
        → length (cond b (slot k p ∷ s ∷ ss) (s ∷ enter k p ss)) ≡ suc (suc (length ss))
    go true h = refl
    go false h = ap suc h

-- ---- the recordings of pairs in words

has-append : (r : ℕ) (xs ys : List Slot) → has_recording r (xs ++ ys) ≡ (has_recording r xs || has_recording r ys)
unfolding has_recording
has-append r [] ys = refl
has-append r (s ∷ ss) ys =
    ap (λ (b : Bool). eqb (recording s) r || b) (has-append r ss ys)
    ∙ sym (or_assoc (eqb (recording s) r) (has_recording r ss) (has_recording r ys))

-- those below the gap, and those above it
module _ (words : Words) (b : ℕ) (t : Tally) (r : ℕ) (s : Standing words b t) where
  abbrev front : Words
  front = take (2 * b) words

  parts-are : (high end : ℕ) → end ≡ 2 * b → high ≡ end - 2 * (t.kept - t.at) → pairs_of words b t ≡ slots_of (take (2 * t.at) words)
      ++ slots_of (take (end - high) (drop high words))
  parts-are high end e f =
      let g = s.below in
      let h = s.few in
      let c = s.cells in
      let l : length front ≡ 2 * b = length-take-le (2 * b) words (omega arith) in
      let w : length front - 2 * (t.kept - t.at) ≡ high = omega arith in
      let sum : high + (end - high) ≡ 2 * b = omega arith in
      let lo : take (2 * t.at) front ≡ take (2 * t.at) words = take-take (2 * t.at) (2 * b) words (omega arith) in
      let hi : drop high front ≡ take (end - high) (drop high words) =
      ap (λ (n : ℕ). drop high (take n words)) (sym sum) ∙ drop-take high (end - high) words in
      ap (λ (x : Words). slots_of x ++ slots_of (drop (length front - 2 * (t.kept - t.at)) front)) lo
      ∙ ap (λ (n : ℕ). slots_of (take (2 * t.at) words) ++ slots_of (drop n front)) w
      ∙ ap (λ (x : Words). slots_of (take (2 * t.at) words) ++ slots_of x) hi

  pub kept-low : (x : Bool) → x ≡ has_recording r (slots_of (take (2 * t.at) words)) → x ≡ true → true
      ≡ has_recording r (pairs_of words b t)
  kept-low x e z =
      let high = 2 * b - 2 * (t.kept - t.at) in
      let low = slots_of (take (2 * t.at) words) in
      let rest = slots_of (take (2 * b - high) (drop high words)) in
      sym (ap (has_recording r) (parts-are high (2 * b) refl refl) ∙ has-append r low rest
      ∙ ap (λ (y : Bool). y || has_recording r rest) (sym e ∙ z))

  pub kept-high : (x y : Bool) → x ≡ has_recording r (slots_of (take (2 * t.at) words)) → x ≡ false
      → y ≡ has_recording r (slots_of (take (2 * b - (2 * b - 2 * (t.kept - t.at))) (drop (2 * b - 2 * (t.kept - t.at)) words))) → y
      ≡ has_recording r (pairs_of words b t)
  kept-high x y e z f =
      let high = 2 * b - 2 * (t.kept - t.at) in
      let low = slots_of (take (2 * t.at) words) in
      let rest = slots_of (take (2 * b - high) (drop high words)) in
      f ∙ sym (ap (has_recording r) (parts-are high (2 * b) refl refl) ∙ has-append r low rest
      ∙ ap (λ (v : Bool). v || has_recording r rest) (sym e ∙ z))

-- ---- a recording entered

module _ (words : Words) (b : ℕ) (t : Tally) (r : ℕ) (s : Standing words b t) where
  abbrev n : ℕ
  n = length words - 2 * b

  abbrev pairs : List Slot
  pairs = pairs_of words b t

  abbrev mem : ℕ → Bool
  mem x = has_recording x pairs

  -- the words with other cells
  abbrev back : Words → Words
  back cs = take (2 * b) words ++ (cs ++ drop n (drop (2 * b) words))

  cells-are : take n (drop (2 * b) words) ≡ drop (2 * b) words
  cells-are = take_all n (drop (2 * b) words) (let d = length-drop (2 * b) words in omega arith)

  front-long : length (take (2 * b) words) ≡ 2 * b
  front-long = length-take-le (2 * b) words (let c = s.cells in omega arith)

  back-front : (cs : Words) → take (2 * b) (back cs) ≡ take (2 * b) words
  back-front cs = take_at (take (2 * b) words) (cs ++ drop n (drop (2 * b) words)) (2 * b) front-long

  back-cells : (cs : Words) → drop (2 * b) (back cs) ≡ cs
  back-cells cs =
      drop_at (take (2 * b) words) (cs ++ drop n (drop (2 * b) words)) (2 * b) front-long
      ∙ ap (λ (l : Words). cs ++ l)
      (drop_of_length-le (drop (2 * b) words) {i = n} (let d = length-drop (2 * b) words in omega arith)) ∙ append-nil cs

  back-long : (cs : Words) → length cs ≡ n → length (back cs) - 2 * b ≡ n
  back-long cs e = ap (λ (l : ℕ). l - 2 * b) (sym (ap length (take-append-drop (2 * b) (back cs)))) ∙ (
      let f = front-long in
      let g = ap length (back-front cs) in
      let h = ap length (back-cells cs) in
      let l = length-append (take (2 * b) (back cs)) (drop (2 * b) (back cs)) in
      let c = s.cells in
      omega arith)

  filing : (cs : Words) (new : Bool) → Filed n n cs (λ (x : ℕ). (new && eqb x r) || mem x) → Filing words b t r new (back cs)
  filing cs new f = record { stay = back-front cs; recorded = rw (back-long cs f.long, back-cells cs) f }

  module _ (e : Entry) (cs : Words) (q : outcome e cs ≡ entered n (take n (drop (2 * b) words)) r) where
    tells : Told n (drop (2 * b) words) r (mixed r % n) n e cs
    tells =
        let o = q ∙ ap (λ (l : Words). entered n l r) cells-are in
        subst (λ (x : Outcome). Told n (drop (2 * b) words) r (mixed r % n) n x.answer x.cells) (sym o)
        (told n n (drop (2 * b) words) r (length-drop (2 * b) words) (let c = s.cells in omega arith))

    told-as : (i : Entry) → e ≡ i → Told n (drop (2 * b) words) r (mixed r % n) n i cs
    told-as i z = subst (λ (x : Entry). Told n (drop (2 * b) words) r (mixed r % n) n x cs) z tells

    pub new-entered : e ≡ Ok tt → (true ≡ not (mem r)) × Filing words b t r true (back cs)
    new-entered z =
        let y = told-as (Ok tt) z in
        let f = new-number n n (drop (2 * b) words) mem s.recorded r cs y in
        (sym (ap not f), filing cs true (filed-more n n (drop (2 * b) words) mem s.recorded r cs y))

    pub new-known : e ≡ Err Known → (false ≡ not (mem r)) × Filing words b t r false (back cs)
    new-known z =
        let y = told-as (Err Known) z in
        (sym (ap not (known-number n n (drop (2 * b) words) mem s.recorded r cs y)), filing cs false (rw y.0 s.recorded))

    pub full-standing : e ≡ Err Full → Standing (back cs) b t
    full-standing z =
        let y = told-as (Err Full) z in
        let f = back-front cs in
        let l = back-long cs (ap length y.0 ∙ length-drop (2 * b) words) in
        record {
          below = s.below;
          few = s.few;
          cells = let c = s.cells in omega arith;
          small = s.small;
          rise = rw f s.rise;
          recorded = rw (l, back-cells cs, f, y.0) s.recorded;
        }

    pub new-full : e ≡ Err Full → (x : Bool) → x ≡ has_recording r (pairs_of (back cs) b t) → (not x ≡ not (mem r))
        × Filing words b t r (not x) (back cs)
    new-full z x h =
        let y = told-as (Err Full) z in
        let same : x ≡ mem r = h ∙ ap (λ (l : Words). has_recording r (around l t.at t.kept)) (back-front cs) in
        (ap not same, filing cs (not x) (held-either x))
      where
        held-either : (v : Bool) → Filed n n cs (λ (k : ℕ). (not v && eqb k r) || mem k)
        held-either true = rw (told-as (Err Full) z).0 s.recorded
        held-either false = filed-full n n (drop (2 * b) words) mem s.recorded r cs (told-as (Err Full) z)

-- ---- the reasons

pub filing-none : (words : Words) (b : ℕ) (t : Tally) (r : ℕ) → Standing words b t → Filing words b t r false words
filing-none words b t r s = record { stay = refl; recorded = s.recorded }

pub filing-as : (words : Words) (b : ℕ) (t : Tally) (r r' : ℕ) (x x' : Bool) (after : Words) → r ≡ r' → x ≡ x' → Filing words b t r x after
    → Filing words b t r' x' after
filing-as words b t r r' x x' after e f h =
    subst (λ (i : ℕ). Filing words b t i x' after) e (subst (λ (v : Bool). Filing words b t r v after) f h)

-- the last pair below the gap tells of the key
pub standing-key : (words : Words) (b : ℕ) (t : Tally) (k : ℕ) → Standing words b t → Under (pairs_of words b t) k t.at
    → Over (pairs_of words b t) k t.at → ends_with words t.at k ≡ has_key k (pairs_of words b t)
standing-key words b t k s u o =
    let f = s.below in
    let g = s.few in
    let c = s.cells in
    let l : length (take (2 * b) words) ≡ 2 * b = length-take-le (2 * b) words (omega arith) in
    ⊎_elim (λ e. sym (ends-none words t.at k e) ∙ ends-none (take (2 * b) words) t.at k e)
    (λ d. sym (ends-some words t.at k d) ∙ ap (λ (x : ℕ). eqb x k) (sym (get_or-take (2 * b) words (2 * t.at - 2) 0 (omega arith)))
    ∙ ends-some (take (2 * b) words) t.at k d) (same-or-not t.at 0)
    ∙ ends-key (take (2 * b) words) t.kept t.at k (omega arith) f s.rise u o

module _ (ps : List Slot) (k p : ℕ) where
  pub reason-range : pointer_ok p ≡ false → 1 ≡ reason_for ps (slot k p)
  unfolding reason_for out_of_range
  reason-range e = rw e

  pub reason-key : pointer_ok p ≡ true → has_key k ps ≡ true → 2 ≡ reason_for ps (slot k p)
  unfolding reason_for out_of_range
  reason-key e f = rw (e, f)

  pub reason-recording :
      pointer_ok p ≡ true → has_key k ps ≡ false → has_recording (recording_of p) ps ≡ true → 3 ≡ reason_for ps (slot k p)
  unfolding reason_for out_of_range
  reason-recording e f g = rw (e, f, g)

  pub reason-none : pointer_ok p ≡ true → has_key k ps ≡ false → has_recording (recording_of p) ps ≡ false → 0 ≡ reason_for ps (slot k p)
  unfolding reason_for out_of_range
  reason-none e f g = rw (e, f, g)

-- as the test for a new recording tells it
pub recorded-is : (ps : List Slot) (r r' : ℕ) (x y : Bool) → r ≡ r' → x ≡ not (has_recording r ps) → x ≡ y → has_recording r' ps ≡ not y
recorded-is ps r r' x y e f g = ap (λ (i : ℕ). has_recording i ps) (sym e) ∙ go (has_recording r ps) (sym f ∙ g)
  where
    go : (v : Bool) → not v ≡ y → v ≡ not y
    go true h = ap not h
    go false h = ap not h
