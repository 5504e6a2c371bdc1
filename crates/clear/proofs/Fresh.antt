-- What a caller may know of new recordings: how they are told, and what is left of them when the first has entered the map.
use Rattle.std.proofs.Common.{◌≡◌, ℕ, suc, ◌+◌, ◌*◌, ◌<◌, ◌≤◌, Bool, true, false, ◌||◌, eqb, ltb, List, [], ◌∷◌, length, get_or, sym, refl}
use Rattle.std.proofs.Common.{ap, ◌∙◌, arith, ltb-false, ltb-true, ne_eqb, eqb-true}
use mathlib.Core.Bool.{false≢true}
use mathlib.Core.List.{Memᴰ}
use Rattle.model.specs.Table.{Words}
use Rattle.model.specs.Slots.{Slot, recording, recording_of, View}
use Rattle.model.specs.Reached.{mapping}
use Rattle.model.specs.SoundTest.{all, distinct, sound_view}
use Rattle.model.specs.Refusals.{has_recording}
use Rattle.list_laws.proofs.Tools.{and-iff}
use Rattle.list_laws.proofs.Members.{mem-each, each-mem, elem-iff, elem-none}
use Rattle.list_laws.proofs.Distinct.{distinct-cons}
use Rattle.walk_laws.proofs.WalkLaw.{sound-in-order}
use Rattle.numbers.specs.Cells.{CELLS, TRIES}
use Rattle.leaves.proofs.FoundLaws.{chain-mapping}
use Rattle.clear.specs.New.{off, off_pair, tree_pairs, recordings_of, Holds, New}
use Rattle.clear.proofs.Looking.{held-met}
use Rattle.clear.proofs.Entering.{recordings-none, recordings-next}

-- a number that the cells hold is not off
held-off : (cs : Words) (rs : List ℕ) (r : ℕ) → Holds cs rs → Memᴰ r rs → off cs r ≡ false
unfolding off
held-off cs rs r h m = let z = each-mem _ h.some m in held-met CELLS cs r _ TRIES z (h.filed.closed r z ((elem-iff r rs).1 m))

-- a map whose recordings are all off has no recording that is not
off-absent : (cs : Words) (r : ℕ) (ps : List Slot) → all (off_pair cs) ps ≡ true → off cs r ≡ false → has_recording r ps ≡ false
unfolding all has_recording
off-absent cs r [] a o = refl
off-absent cs r (s ∷ ps) a o =
    let u = (and-iff (off_pair cs s) (all (off_pair cs) ps)).0 a in
    go (eqb (recording s) r) refl (off-absent cs r ps u.1 o) u.0
  where
    go : (b : Bool) → eqb (recording s) r ≡ b → has_recording r ps ≡ false → off cs (recording s) ≡ true → (b || has_recording r ps) ≡ false
    go true e h f = absurd (false≢true (sym o ∙ ap (off cs) (sym (eqb-true (recording s) r e)) ∙ f))
    go false e h f = h

pub all-new : (v : View) (cs : Words) (rs : List ℕ) (b : Bool) → sound_view v ≡ true → Holds cs rs → b ≡ all (off_pair cs) (tree_pairs v)
    → b ≡ true → New (mapping v) rs
all-new v cs rs b s h e q =
    let a : all (off_pair cs) (mapping v) ≡ true = ap (all (off_pair cs)) (sym (chain-mapping v (sound-in-order v s))) ∙ sym e ∙ q in
    record {
      apart = h.apart;
      absent = mem-each (λ (r : ℕ). has_recording r (mapping v) ≡ false) rs
          (λ r m. off-absent cs r (mapping v) a (held-off cs rs r h m));
    }

-- ---- as a batch goes on

-- an empty range of pairs has no recording, so none that is there twice or in the map
pub none-new : (ps : List Slot) (pairs : Words) (i j : ℕ) → j ≤ i → New ps (recordings_of pairs i j)
unfolding distinct
none-new ps pairs i j h = rw (recordings-none pairs i j h) (record { apart = refl; absent = tt })

module _ (ps : List Slot) (pairs : Words) (i j : ℕ) (n : New ps (recordings_of pairs i j)) (m : 2 * i + 1 < length pairs) where
  -- the first is not in the map
  pub first-new : i < j → has_recording (recording_of (get_or pairs (2 * i + 1) 0)) ps ≡ false
  first-new h = let u : New ps (recording_of (get_or pairs (2 * i + 1) 0) ∷ recordings_of pairs (suc i) j) =
      rw (recordings-next pairs i j h m) at n in u.absent.0

  -- once it is, the others are new
  pub later-new : (ps' : List Slot)
      → ((x : ℕ) → has_recording x ps' ≡ (eqb (recording_of (get_or pairs (2 * i + 1) 0)) x || has_recording x ps))
      → New ps' (recordings_of pairs (suc i) j)
  later-new ps' g = go (ltb i j) refl
    where
      go : (b : Bool) → ltb i j ≡ b → New ps' (recordings_of pairs (suc i) j)
      go false e = none-new ps' pairs (suc i) j (let h = ltb-false i j e in omega arith)
      go true e =
          let r = recording_of (get_or pairs (2 * i + 1) 0) in
          let rs = recordings_of pairs (suc i) j in
          let u : New ps (r ∷ rs) = rw (recordings-next pairs i j (ltb-true i j e) m) at n in
          let d = (distinct-cons r rs).0 u.apart in
          record {
            apart = d.1;
            absent = mem-each (λ (x : ℕ). has_recording x ps' ≡ false) rs (λ x k.
                let z = (elem-none r rs).0 d.0 in
                g x ∙ ap (λ (b : Bool). b || has_recording x ps) (ne_eqb r x (λ y. z (rw y k)))
                ∙ each-mem (λ (x : ℕ). has_recording x ps ≡ false) u.absent.1 k);
          }
