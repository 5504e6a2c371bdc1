-- What a salvage gathers can be packed: its keys rise, its recordings differ, recordings and classes are in range. So its table is settled,
-- with
-- just the kept pairs as its maps.
use Rattle.std.proofs.Common.{◌≡◌, ℕ, zero, suc, ◌≤◌, Bool, true, false, eqb, List, [], ◌∷◌, ◌++◌, map, sym, refl, ◌∙◌, subst, arith}
use mathlib.Core.Option.{some, none-ne-some, some-injective}
use Rattle.model.specs.Table.{Words, at, nodes}
use Rattle.model.specs.Slots.{Slot, slot, recording_of, recording}
use Rattle.model.specs.Reached.{unless_lacking, maps_of}
use Rattle.model.specs.SoundTest.{all, elem, distinct, rising, recordings_ok, settled, sound}
use Rattle.model.specs.Refusals.{has_key, has_recording}
use Rattle.model.specs.Ledger.{enter}
use Rattle.model.specs.Packing.{packed_both, packed_table}
use Rattle.model.specs.Salvage.{Placed, Gathered, out_of_range, reason_for, gather_slot, gather_slots, collected, gather_nodes}
use Rattle.model.specs.Salvage.{gathered_along, gathered, kept_maps}
use Rattle.list_laws.proofs.Recordings.{recordings-middle}
use Rattle.tree_laws.proofs.Rising.{lower, upper, lower-upper, lower-below, upper-above, rising-insert}
use Rattle.change_laws.proofs.Pairs.{has-key-iff, has-recording, enter-at}
use Rattle.pack_laws.proofs.Packed.{Packable}
use Rattle.pack_laws.proofs.Fresh.{packed-settled, packed-maps}
use Rattle.pack_laws.proofs.Enough.{sound-enough}
use Rattle.tour_laws.proofs.Gathering.{range-iff, no-reason, slot-kept, slot-dropped}
use Rattle.tour_laws.proofs.Sound.{tour-sound}

module _ (k p : ℕ) (ps : List Slot) (f : Packable ps) (range : out_of_range p ≡ false) (key : has_key k ps ≡ false)
    (own : has_recording (recording_of p) ps ≡ false) where
  abbrev a : List Slot
  a = lower k ps

  abbrev b : List Slot
  b = upper k ps

  parts : ps ≡ a ++ b
  parts = lower-upper k ps

  enter-parts : enter k p ps ≡ a ++ slot k p ∷ b
  enter-parts = subst (λ (l : List Slot). enter k p l ≡ a ++ slot k p ∷ b) (sym parts)
      (enter-at k p a b (lower-below k ps) (upper-above 0 k ps f.rise ((has-key-iff k ps).0 key)))

  enter-recordings : recordings_ok (a ++ slot k p ∷ b) ≡ true
  enter-recordings =
      let off : elem (recording_of p) (map recording ps) ≡ false = sym (has-recording (recording_of p) ps) ∙ own in
      (recordings-middle (slot k p) a b).1 (
        (range-iff p).0 range,
        subst (λ (l : List Slot). elem (recording_of p) (map recording l) ≡ false) parts off,
        subst (λ (l : List Slot). recordings_ok l ≡ true) parts f.recordings,
      )

  -- a pair with a new key and a new recording may enter
  enter-packable : Packable (enter k p ps)
  enter-packable =
      subst (λ (l : List Slot). Packable l) (sym enter-parts)
      (record { rise = rising-insert 0 k p ps f.rise (omega arith) ((has-key-iff k ps).0 key); recordings = enter-recordings })

-- ---- along the tour

abbrev pub Fit : Gathered → Type 0
Fit g = Packable g.kept

pub slot-fit : (n : ℕ) (g : Gathered) (x : Placed) → Fit g → Fit (gather_slot n g x)
slot-fit n g x f = go (reason_for g.kept x.slot) refl
  where
    go : (r : ℕ) → reason_for g.kept x.slot ≡ r → Fit (gather_slot n g x)
    go zero e =
        let o = (no-reason g.kept x.slot).0 e in
        subst Fit (sym (slot-kept n g x e)) (enter-packable x.slot.key x.slot.pointer g.kept f o.range o.key o.own)
    go (suc r) e = subst Fit (sym (slot-dropped n g x r e)) f

pub slots-fit : (n : ℕ) (xs : List Placed) (g : Gathered) → Fit g → Fit (gather_slots n xs g)
unfolding gather_slots
slots-fit n [] g f = f
slots-fit n (x ∷ xs) g f = slots-fit n xs (gather_slot n g x) (slot-fit n g x f)

nodes-fit : (t : Words) (ns : List ℕ) (g : Gathered) → Fit g → Fit (gather_nodes t ns g)
unfolding gather_nodes
nodes-fit t [] g f = f
nodes-fit t (n ∷ ns) g f = nodes-fit t ns (gather_slots n (collected t n) g) (slots-fit n (collected t n) g f)

pub gathered-packable : (n : ℕ) (t : Words) → Packable (gathered n t).kept
unfolding gathered gathered_along
gathered-packable n t = nodes-fit t _ _ (record { rise = unfold rising in refl; recordings = unfold recordings_ok all distinct in refl })

-- ---- the salvaged table

-- the second collection's pairs, where it is there
second-packable : (t : Words) (qs : List Slot) → (kept_maps t).two ≡ some qs → Packable qs
unfolding kept_maps
second-packable t qs e = go (eqb (at t 3) 0) e
  where
    go : (b : Bool) → unless_lacking b (gathered 2 t).kept ≡ some qs → Packable qs
    go true h = absurd (none-ne-some qs h)
    go false h = subst Packable (some-injective (gathered 2 t).kept qs h) (gathered-packable 2 t)

-- What is salvaged from any words makes a settled table with just the kept pairs, if the nodes suffice.
pub salvage-settled : (t : Words) (N : ℕ) → packed_both (kept_maps t) ≤ N → N ≤ 65535
    → (settled (packed_table N (kept_maps t)) ≡ true) × (maps_of (packed_table N (kept_maps t)) ≡ kept_maps t)
salvage-settled t N l h =
    let f : Packable (kept_maps t).one = unfold kept_maps in gathered-packable 1 t in
    (packed-settled N (kept_maps t) l h f (second-packable t), packed-maps N (kept_maps t) l h f (second-packable t))

-- A sound table never gives 10.
pub sound-fits : (t : Words) → sound t ≡ true → packed_both (kept_maps t) ≤ nodes t
sound-fits t h = rw (tour-sound t h).0 (sound-enough t h)
