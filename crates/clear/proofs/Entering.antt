-- The pairs' recordings entered, from the last to the first.
use Rattle.std.proofs.Common.{◌≡◌, ℕ, suc, ◌+◌, ◌-◌, ◌*◌, ◌%◌, ◌<◌, ◌≤◌, Bool, true, false, List, [], ◌∷◌, map, length, get_or, take, drop}
use Rattle.std.proofs.Common.{replicate, sym, refl, ap, ◌∙◌, subst, arith}
use mathlib.Core.Bool.{false≢true}
use Rattle.model.specs.Table.{Words}
use Rattle.model.specs.Slots.{Slot, slots_of, recording, recording_of, View}
use Rattle.model.specs.SoundTest.{all, elem, distinct}
use Rattle.list_laws.proofs.Distinct.{distinct-cons}
use Rattle.batch_laws.proofs.Folds.{pair-at}
use Rattle.std.specs.Prelude.{Ok, Err, is_ok}
use Rattle.numbers.specs.declared.Stop.{Stop}
use Rattle.numbers.specs.Cells.{CELLS, TRIES, Entry, mixed, Outcome, outcome, entered, followed}
use Rattle.numbers.proofs.Filed.{Stored, Told, told, filed-none, new-number, filed-more}
use Rattle.clear.specs.New.{off_pair, tree_pairs, recordings_of, Holds, entered_down, clear_of, are_new}

pub holds-none : Holds (replicate CELLS 0) []
unfolding elem distinct
holds-none = record { filed = filed-none TRIES CELLS; some = tt; apart = refl }

-- one number more
pub holds-more : (cs : Words) (y : ℕ) (xs : List ℕ) (e : Entry) (after : Words) → Holds cs xs → outcome e after ≡ entered TRIES cs y → e
    ≡ Ok tt → Holds after (y ∷ xs)
unfolding elem
holds-more cs y xs e after h q a =
    let s : Stored CELLS cs after y (mixed y % CELLS) TRIES =
    subst (λ (x : Entry). Told CELLS cs y (mixed y % CELLS) TRIES x after) a
    (subst (λ (o : Outcome). Told CELLS cs y (mixed y % CELLS) TRIES o.answer o.cells) (sym q)
    (told CELLS TRIES cs y h.filed.long (omega arith))) in
    record {
      filed = filed-more TRIES CELLS cs (λ (r : ℕ). elem r xs) h.filed y after s;
      some = (s.some, h.some);
      apart = (distinct-cons y xs).1 (new-number TRIES CELLS cs (λ (r : ℕ). elem r xs) h.filed y after s, h.apart);
    }

-- ---- the recordings of the pairs from i on

pub recordings-none : (pairs : Words) (i j : ℕ) → j ≤ i → recordings_of pairs i j ≡ []
unfolding recordings_of
recordings-none pairs i j h = let e : j - i ≡ 0 = omega arith in ap (λ (k : ℕ). map recording (take k (drop i (slots_of pairs)))) e

pub recordings-next :
    (pairs : Words) (i j : ℕ) → i < j → 2 * i + 1 < length pairs → recordings_of pairs i j ≡ recording_of (get_or pairs (2 * i + 1) 0)
    ∷ recordings_of pairs (suc i) j
unfolding recordings_of
recordings-next pairs i j h m =
    let e : j - i ≡ suc (j - suc i) = omega arith in
    ap (λ (k : ℕ). map recording (take k (drop i (slots_of pairs)))) e
    ∙ ap (λ (ss : List Slot). map recording (take (suc (j - suc i)) ss)) (pair-at pairs i m)

pub holds-start : (pairs : Words) (j : ℕ) (cs : Words) → Holds cs [] → Holds cs (recordings_of pairs j j)
holds-start pairs j cs h = rw (recordings-none pairs j j (omega arith)) h

pub holds-all : (pairs : Words) (i from j : ℕ) (cs : Words) → i ≡ from → Holds cs (recordings_of pairs i j)
    → Holds cs (recordings_of pairs from j)
holds-all pairs i from j cs e h = rw e at h

-- the pair before them is entered
pub holds-pair : (pairs : Words) (i j : ℕ) (cs : Words) (e : Entry) (after : Words) (x : ℕ) → Holds cs (recordings_of pairs i j) → 0 < i
    → i ≤ j → 2 * j ≤ length pairs
    → x ≡ recording_of (get_or pairs (2 * (i - 1) + 1) 0) → outcome e after ≡ entered TRIES cs x → e ≡ Ok tt
    → Holds after (recordings_of pairs (i - 1) j)
holds-pair pairs i j cs e after x h p l m f q a =
    let d : suc (i - 1) ≡ i = omega arith in
    let g : recordings_of pairs (i - 1) j ≡ x ∷ recordings_of pairs i j =
    recordings-next pairs (i - 1) j (omega arith) (omega arith)
    ∙ ap (λ (k : ℕ). recording_of (get_or pairs (2 * (i - 1) + 1) 0) ∷ recordings_of pairs k j) d
    ∙ ap (λ (y : ℕ). y ∷ recordings_of pairs i j) (sym f) in
    rw g (holds-more cs x (recordings_of pairs i j) e after h q a)

-- ---- one by one, as the code goes: i pairs are left, from `from` on

module _ (pairs : Words) (from i : ℕ) (cs : Words) where
  pub down-end : i ≤ from → outcome (Ok tt) cs ≡ entered_down pairs from (i - from) cs
  unfolding entered_down
  down-end h = let e : i - from ≡ 0 = omega arith in rw e

  module _ (h : from < i) (e : Entry) (after : Words) (x : ℕ) (f : x ≡ recording_of (get_or pairs (2 * (i - 1) + 1) 0))
      (q : outcome e after ≡ entered TRIES cs x) where
    down-step : followed (outcome e after) (entered_down pairs from (i - 1 - from)) ≡ entered_down pairs from (i - from) cs
    unfolding entered_down
    down-step =
        let d : i - from ≡ suc (i - 1 - from) = omega arith in
        let p : from + (i - 1 - from) ≡ i - 1 = omega arith in
        rw (d, p, ← f, ← q)

    pub down-next : e ≡ Ok tt → entered_down pairs from (i - 1 - from) after ≡ entered_down pairs from (i - from) cs
    down-next a = ap (λ (y : Entry). followed (outcome y after) (entered_down pairs from (i - 1 - from))) (sym a) ∙ down-step

    pub down-ends : (s : Stop) → e ≡ Err s → outcome (Err s) after ≡ entered_down pairs from (i - from) cs
    down-ends s a = ap (λ (y : Entry). followed (outcome y after) (entered_down pairs from (i - 1 - from))) (sym a) ∙ down-step

-- ---- the answer

module _ (v : View) (pairs : Words) (i j : ℕ) (b : Bool) (cs : Words)
    (e : b ≡ is_ok (entered_down pairs i (j - i) (replicate CELLS 0)).answer)
    (c : cs ≡ (entered_down pairs i (j - i) (replicate CELLS 0)).cells) where
  abbrev came : Outcome
  came = entered_down pairs i (j - i) (replicate CELLS 0)

  clear-not : (o : Outcome) → false ≡ is_ok o.answer → false ≡ clear_of v o
  clear-not o h = go o.answer h
    where
      go : (a : Entry) → false ≡ is_ok a → false ≡ clear_of v (outcome a o.cells)
      go (Ok x) h = absurd (false≢true h)
      go (Err s) h = refl

  clear-all : (o : Outcome) → true ≡ is_ok o.answer → clear_of v o ≡ all (off_pair o.cells) (tree_pairs v)
  clear-all o h = go o.answer h
    where
      go : (a : Entry) → true ≡ is_ok a → clear_of v (outcome a o.cells) ≡ all (off_pair o.cells) (tree_pairs v)
      go (Ok x) h = refl
      go (Err s) h = absurd (false≢true (sym h))

  pub new-not : b ≡ false → false ≡ are_new v pairs i j
  unfolding are_new
  new-not z = clear-not came (sym z ∙ e)

  pub new-all : b ≡ true → (r : Bool) → r ≡ all (off_pair cs) (tree_pairs v) → r ≡ are_new v pairs i j
  unfolding are_new
  new-all z r q = q ∙ ap (λ (ws : Words). all (off_pair ws) (tree_pairs v)) c ∙ sym (clear-all came (sym z ∙ e))
