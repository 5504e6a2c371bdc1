-- The nodes of one collection: gathered behind the nodes before, and packed there.
use Rattle.std.proofs.Common.{◌≡◌, ℕ, suc, ◌+◌, ◌-◌, ◌*◌, ◌/◌, ◌≤◌, List, ◌++◌, length, take, drop, replicate, sym, ap, ◌∙◌, arith}
use Rattle.std.proofs.Common.{take-append-drop}
use Rattle.model.specs.Table.{Words, nodes}
use Rattle.model.specs.Slots.{Slot}
use Rattle.model.specs.Packing.{packed_count, packed_words}
use Rattle.model.specs.Salvage.{Gathered, gathered_along, drop_words}
use Rattle.pack_laws.specs.Needed.{nodes_needed}
use Rattle.pack_laws.proofs.Counts.{needed-more}
use Rattle.pack.specs.Rows.{pairs_in, pairs_after, packed_after}
use Rattle.pack.proofs.Parts.{rest-long, back-is, back-take, back-drop, back-long}
use Rattle.pack.proofs.Raising.{room-facts}
use Rattle.gather.specs.declared.Tally.{Tally}
use Rattle.gather.specs.Held.{gathered_in, drops_in, Kept, none}
use Rattle.gather.proofs.Slots.{drops-length, drop-words}
use Rattle.salvage.specs.Parts.{Fits, Reported}
use Rattle.gather.specs.Held as held-specs

module _ (t order words : Words) (before b : ℕ) (report : Words) (f : Fits t order words before b report) where
  abbrev w : ℕ
  w = 32 * before

  abbrev g : Gathered
  g = gathered_along t order

  room : (2 * b ≤ 32 * (nodes t - before)) × (before + nodes_needed b ≤ nodes t)
  room = let h : before + nodes_needed b ≤ nodes t = let r = f.room in omega arith in ((room-facts before b (nodes t) h).0, h)

  pub words-fit : (w ≤ length words) × (nodes t ≤ 65535) × (before ≤ 65535)
  words-fit = let r = room.1 in let l = f.long in let s = f.small in (omega arith, omega arith, omega arith)

  part-long : length (take (length words - w) (drop w words)) ≡ 32 * (nodes t - before)
  part-long = let l = f.long in rest-long words w ∙ omega arith

  pub gather-ready : held-specs.Ready t order (take (length words - w) (drop w words)) b report
  gather-ready =
      let l = part-long in
      let s = f.small in
      let c = f.few in
      let z = (room-facts before b (nodes t) room.1).1 in
      record { along = record { few = omega arith; drops = f.drops }; cells = omega arith; small = omega arith; most = f.most }

  -- after the gathering
  module _ (w' r' : Words) (p : Tally) (e : gathered_in w' r' p ≡ g) (few : p.kept ≤ b) (k : Kept report none r' p (12 * length order))
      (long : length w' ≡ length (take (length words - w) (drop w words))) (rlong : length r' ≡ length report) where
    abbrev whole : Words
    whole = take w words ++ (w' ++ drop (length words - w) (drop w words))

    pairs-are : pairs_in w' p.kept ≡ g.kept
    pairs-are = ap (λ (x : Gathered). x.kept) e

    whole-long : length whole ≡ length words
    whole-long = ap length (back-is words w w') ∙ back-long words w words-fit.0 w' (long ∙ rest-long words w)

    whole-pairs : pairs_after before whole p.kept ≡ g.kept
    whole-pairs = ap (λ (x : Words). pairs_in x p.kept) (ap (drop w) (back-is words w w') ∙ back-drop words w words-fit.0 w') ∙ pairs-are

    -- the nodes of the slice
    abbrev n : ℕ
    n = length whole / 32

    all-nodes : n ≡ nodes t
    all-nodes = let l = f.long in let e = whole-long in omega arith

    pub pack-fits : (length whole ≡ 32 * n) × (n ≤ 65535) × (before + nodes_needed p.kept ≤ n) × (p.kept ≤ 16777216)
    pack-fits =
        let m = needed-more p.kept b few in
        let r = room.1 in
        let z = (room-facts before b (nodes t) r).1 in
        let s = f.small in
        let l = f.long in
        let e = whole-long in
        let i = all-nodes in
        (omega arith, omega arith, omega arith, omega arith)

    pub filled : (x : Words) (root : ℕ) → x ≡ packed_after before n whole (pairs_after before whole p.kept) → root
        ≡ before + packed_count (pairs_after before whole p.kept)
        → ((x ≡ packed_after before (nodes t) words g.kept) × (root ≡ before + packed_count g.kept))
        × (Reported report r' g.dropped p.dropped × (p.dropped ≤ 12 * length order))
    filled x root a c =
        let ds : drops_in r' p.dropped ≡ g.dropped = ap (λ (y : Gathered). y.dropped) e in
        let s = k.sum in
        let d = f.drops in
        let z : 3 * p.dropped ≤ length r' = omega arith in
        let same : take w whole ≡ take w words = ap (take w) (back-is words w w') ∙ back-take words w words-fit.0 w' in (
          (
            rw all-nodes at a ∙ ap (packed_after before (nodes t) whole) whole-pairs
                ∙ ap (λ (y : Words). y
                ++ (packed_words (suc before) g.kept ++ replicate (32 * (nodes t - (before + packed_count g.kept))) 0)) same,
            c ∙ ap (λ (ps : List Slot). before + packed_count ps) whole-pairs,
          ),
          (
            (
              sym (drops-length r' p.dropped) ∙ ap length ds,
              sym (take-append-drop (3 * p.dropped) r')
                  ∙ ap (λ (y : Words). y ++ drop (3 * p.dropped) r') (sym (drop-words r' p.dropped z) ∙ ap drop_words ds)
                  ∙ ap (λ (y : Words). drop_words g.dropped ++ y) k.stay,
            ),
            omega arith,
          ),
        )
