-- How many nodes the pairs kept need, and bounds of it.
use Rattle.std.proofs.Common.{◌≡◌, ℕ, ◌+◌, ◌*◌, ◌<◌, ◌≤◌, Bool, true, false, cond, eqb, ltb, ◌≢◌, length, sym, ap, ◌∙◌, arith, le-ltb}
use Rattle.std.proofs.Common.{lt-ltb, eq-eqb, ne_eqb}
use Rattle.model.specs.Table.{Words, at, nodes}
use Rattle.model.specs.Reached.{unless_lacking}
use Rattle.model.specs.Packing.{packed_count, of_second, packed_both}
use Rattle.model.specs.Salvage.{gathered_along, gathered, kept_maps, outgrows}
use Rattle.pack_laws.specs.Needed.{nodes_needed}
use Rattle.pack_laws.proofs.Counts.{count-needed, needed-more}
use Rattle.salvage.specs.Parts.{Toured, needed_both, Most}
use Rattle.salvage.proofs.Entering.{header-size}

-- ---- both collections

pub needed-alone : (t : Words) (a b first : ℕ) → first ≡ nodes_needed a → at t 3 ≡ 0 → first ≡ needed_both t a b
unfolding needed_both
needed-alone t a b first e z = rw (eq-eqb (at t 3) 0 z) (omega (arith, e))

pub needed-beside : (t : Words) (a b first second : ℕ) → first ≡ nodes_needed a → second ≡ nodes_needed b → at t 3 ≢ 0
    → first + second ≡ needed_both t a b
unfolding needed_both
needed-beside t a b first second e f z = rw (ne_eqb (at t 3) 0 z, e, f)

kept-needed : (t : Words) → packed_both (kept_maps t) ≡ needed_both t (length (gathered 1 t).kept) (length (gathered 2 t).kept)
unfolding packed_both kept_maps needed_both
kept-needed t = go (eqb (at t 3) 0)
  where
    go : (b : Bool) → packed_count (gathered 1 t).kept + of_second 0 packed_count (unless_lacking b (gathered 2 t).kept)
        ≡ nodes_needed (length (gathered 1 t).kept) + cond b 0 (nodes_needed (length (gathered 2 t).kept))
    go true = ap (λ (n : ℕ). n + 0) (count-needed (gathered 1 t).kept)
    go false = let e = count-needed (gathered 1 t).kept in let f = count-needed (gathered 2 t).kept in omega arith

both-more : (t : Words) (a b c d : ℕ) → a ≤ c → b ≤ d → needed_both t a b ≤ needed_both t c d
unfolding needed_both
both-more t a b c d h k = go (eqb (at t 3) 0)
  where
    go : (x : Bool) → nodes_needed a + cond x 0 (nodes_needed b) ≤ nodes_needed c + cond x 0 (nodes_needed d)
    go true = let e = needed-more a c h in omega arith
    go false = let e = needed-more a c h in let f = needed-more b d k in omega arith

-- ---- by the nodes entered

module _ (t firsts seconds : Words) (r : Toured t firsts seconds) where
  pub top-few : nodes t ≤ 65535
  top-few = (header-size t r.header).1

  pub words-some : 8 ≤ length t
  words-some = (header-size t r.header).0

  pub one-few : length firsts ≤ 65535
  one-few = let b = top-few in let d = r.few in omega arith

  pub two-few : length seconds ≤ 65535
  two-few = let b = top-few in let d = r.few in omega arith

  pub one-gathered : gathered_along t firsts ≡ gathered 1 t
  unfolding gathered
  one-gathered = ap (gathered_along t) r.one

  pub two-gathered : gathered_along t seconds ≡ gathered 2 t
  unfolding gathered
  two-gathered = ap (gathered_along t) r.two

  -- slots in use, and pairs kept, of each collection
  module _ (a b : ℕ) (ea : a ≤ 12 * length firsts) (eb : b ≤ 12 * length seconds) where
    pub few : (a ≤ 16777216) × (b ≤ 16777216)
    few = let c = one-few in let d = two-few in (omega arith, omega arith)

    module _ (ha : length (gathered_along t firsts).kept ≤ a) (hb : length (gathered_along t seconds).kept ≤ b) where
      pub most : Most t a b
      most = let f = few in record { one = rw one-gathered at ha; two = rw two-gathered at hb; one-few = f.0; two-few = f.1 }

      -- more pairs fit, so those kept do
      pub used-fit : (need : ℕ) → need ≡ needed_both t a b → need ≤ (nodes t) → ltb (nodes t) (needed_both t a b) ≡ outgrows t
      unfolding outgrows
      used-fit need e h =
          let m = both-more t _ _ a b most.one most.two in
          let k = kept-needed t in
          le-ltb (nodes t) (needed_both t a b) (omega arith) ∙ sym (le-ltb (nodes t) (packed_both (kept_maps t)) (omega arith))

  -- the pairs kept themselves
  pub kept-bounds : (a b : ℕ) → a ≤ 12 * length firsts → b ≤ 12 * length seconds
      → a ≡ length (gathered_along t firsts).kept → b ≡ length (gathered_along t seconds).kept
      → Most t a b × (ltb (nodes t) (needed_both t a b) ≡ outgrows t)
  unfolding outgrows
  kept-bounds a b ea eb e f =
      let x : a ≡ length (gathered 1 t).kept = rw one-gathered at e in
      let y : b ≡ length (gathered 2 t).kept = rw two-gathered at f in
      (most a b ea eb (omega (arith, e)) (omega (arith, f)), rw (x, y, kept-needed t))

  pub grown : (a b need : ℕ) → need ≡ needed_both t a b → ltb (nodes t) (needed_both t a b) ≡ outgrows t
      → (nodes t) < need → outgrows t ≡ true
  grown a b need e f h = sym f ∙ lt-ltb (nodes t) (needed_both t a b) (omega arith)

  pub fits : (a b need : ℕ) → need ≡ needed_both t a b → ltb (nodes t) (needed_both t a b) ≡ outgrows t → need ≤ (nodes t)
      → (needed_both t a b ≤ (nodes t)) × (outgrows t ≡ false)
  fits a b need e f h = (omega arith, sym f ∙ le-ltb (nodes t) (needed_both t a b) (omega arith))
