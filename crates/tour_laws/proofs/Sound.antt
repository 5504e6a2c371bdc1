-- A salvage of a sound table drops nothing and keeps its maps.
use Rattle.std.proofs.Common.{◌≡◌, ℕ, suc, ◌<◌, true, false, ◌≢◌, ◌⊎◌, List, [], ◌∷◌, ◌++◌, map, sym, refl, ap, ◌∙◌, subst, inl, inr}
use Rattle.std.proofs.Common.{append_assoc, append-nil, arith, eq-eqb, ne_eqb}
use mathlib.Core.List.{map-append, Memᴰ}
use mathlib.Core.Option.{none, some}
use Rattle.model.specs.Table.{Words, at}
use Rattle.model.specs.Slots.{Slot, recording, View, view_from, view_of}
use Rattle.model.specs.Reached.{filter, flat, kept, reached, leaves, mapping, map_of, maps_of}
use Rattle.model.specs.SoundTest.{elem, pair_ok, sound}
use Rattle.model.specs.Ledger.{enter}
use Rattle.model.specs.Salvage.{Placed, followed, entered, Gathered, reason_for, gather_slot, gather_slots, collected, gather_nodes}
use Rattle.model.specs.Salvage.{gathered_along, gathered, kept_maps, dropped_all}
use Rattle.list_laws.proofs.Tools.{Each, Each-split, Each-map, same-or-not}
use Rattle.list_laws.proofs.Members.{each-mem, elem-none, elem-append}
use Rattle.list_laws.proofs.Distinct.{distinct-append, distinct-middle}
use Rattle.tree_laws.proofs.Rows.{Good}
use Rattle.tree_laws.proofs.Kept.{by-level}
use Rattle.tree_laws.proofs.Levels.{Orderly, level-leaves}
use Rattle.tree_laws.proofs.Rising.{rising-apart}
use Rattle.tree_laws.proofs.MapLaw.{MapRises, map-rises}
use Rattle.change_laws.proofs.Pairs.{has-key-iff, has-recording, enter-at}
use Rattle.two_laws.proofs.SameTwo.{each-sound, first-there, second-there}
use Rattle.two_laws.proofs.CollectionTwo.{collection-orderly}
use Rattle.tour_laws.specs.Visits.{toured_from}
use Rattle.tour_laws.proofs.Recursion.{entered-one, entered-two, none-entered}
use Rattle.tour_laws.proofs.Meets.{SiblingIn, good-sibling, followed-kept}
use Rattle.tour_laws.proofs.Entered.{leaves_in, leaf-in, inner-out, entered-leaves, entered-reached}
use Rattle.tour_laws.proofs.Gathering.{range-iff, no-reason, slot-kept, collected-leaf, collected-inner}

-- pairs as a sound table has them
module _ (all : List Slot) (f : MapRises all) where
  -- the pairs kept and those to come are all of them
  abbrev Rest : Gathered → List Slot → Type 0
  Rest g ss = g.kept ++ ss ≡ all

  lower-keys : (ps : List Slot) (s : Slot) (ss : List Slot) → ps ++ s ∷ ss ≡ all → Each (λ (p : Slot). p.key < s.key) ps
  lower-keys ps s ss e =
      Each-map (λ (p : Slot). Each (λ (u : Slot). p.key < u.key) (s ∷ ss)) (λ (p : Slot). p.key < s.key) ps (λ p h. h.0)
      (rising-apart 0 ps (s ∷ ss) (rw (← e) at f.rising)).between

  reason-none : (ps : List Slot) (s : Slot) (ss : List Slot) → ps ++ s ∷ ss ≡ all → reason_for ps s ≡ 0
  reason-none ps s ss e =
      let once = (distinct-middle (recording s) (map recording ps) (map recording ss)).0
      (rw (← map-append recording ps (s ∷ ss), e) f.recordings-once) in
      (no-reason ps s).1 (record {
        range = (range-iff s.pointer).1 (Each-split (λ (s : Slot). pair_ok s ≡ true) ps (s ∷ ss) (rw (← e) at f.pairs-ok)).1.0;
        key = (has-key-iff s.key ps).1
            (Each-map (λ (p : Slot). p.key < s.key) (λ (p : Slot). p.key ≢ s.key) ps (λ p h q. omega (arith, h, q)) (lower-keys ps s ss e));
        own = has-recording (recording s) ps ∙ ((elem-append (recording s) (map recording ps) (map recording ss)).0 once.0).0;
      })

  -- what is gathered in their order drops nothing: the rest stays the rest
  record DropsNone (g h : Gathered) (ss : List Slot) : Type 0 where
    rest : Rest h ss
    dropped : h.dropped ≡ g.dropped

  kept-then : (g h k : Gathered) (ss us : List Slot) → DropsNone g h ss → DropsNone h k us → DropsNone g k us
  kept-then g h k ss us a b = record { rest = b.rest; dropped = b.dropped ∙ a.dropped }

  slot-gathers : (n : ℕ) (g : Gathered) (x : Placed) (ss : List Slot) → Rest g (x.slot ∷ ss) → DropsNone g (gather_slot n g x) ss
  slot-gathers n g x ss e =
      let ps = g.kept in
      let s = x.slot in
      let at-end : enter s.key s.pointer ps ≡ ps ++ s ∷ [] =
      ap (enter s.key s.pointer) (sym (append-nil ps)) ∙ enter-at s.key s.pointer ps [] (lower-keys ps s ss e) tt in
      let q = slot-kept n g x (reason-none ps s ss e) in
      record {
        rest = ap (λ (h : Gathered). h.kept ++ ss) q ∙ ap (λ (l : List Slot). l ++ ss) at-end ∙ append_assoc ps (s ∷ []) ss ∙ e;
        dropped = ap (λ (h : Gathered). h.dropped) q;
      }

  slots-gather : (n : ℕ) (xs : List Placed) (g : Gathered) (ss : List Slot) → Rest g (map (λ (x : Placed). x.slot) xs ++ ss)
      → DropsNone g (gather_slots n xs g) ss
  unfolding gather_slots
  slots-gather n [] g ss e = record { rest = e; dropped = refl }
  slots-gather n (x ∷ xs) g ss e =
      let u = slot-gathers n g x (map (λ (x : Placed). x.slot) xs ++ ss) e in
      kept-then g (gather_slot n g x) (gather_slots n xs (gather_slot n g x)) _ ss u (slots-gather n xs (gather_slot n g x) ss u.rest)

  module _ (t : Words) (r : ℕ) where
    abbrev v : View
    v = view_from t r

    leaf-gathers : (n : ℕ) (g : Gathered) (ss : List Slot) → (v.node n).level ≡ 0 → SiblingIn v n → Rest g (kept v n ++ ss)
        → DropsNone g (gather_slots n (collected t n) g) ss
    leaf-gathers n g ss l s e =
        rw (collected-leaf t n l)
        (slots-gather n (followed t n) g ss (ap (λ (l : List Slot). g.kept ++ (l ++ ss)) (followed-kept t r n s) ∙ e))

    inner-gathers : (d n : ℕ) (g : Gathered) (ss : List Slot) → (v.node n).level ≡ suc d → Rest g ss
        → DropsNone g (gather_slots n (collected t n) g) ss
    inner-gathers d n g ss l e = rw (collected-inner t n (λ z. omega arith)) (slots-gather n [] g ss e)

    -- along nodes entered, the leaves among which hold the rest
    nodes-gather : (ns : List ℕ) (g : Gathered) → Each (SiblingIn v) (leaves_in t ns) → Rest g (flat (kept v) (leaves_in t ns))
        → DropsNone g (gather_nodes t ns g) []
    unfolding gather_nodes leaves_in filter flat
    nodes-gather [] g s e = record { rest = e; dropped = refl }
    nodes-gather (n ∷ ns) g s e = node-gathers n ns g (nodes-gather ns (gather_slots n (collected t n) g)) s e
      where
        node-gathers : (n : ℕ) (ns : List ℕ) (g : Gathered)
            → (let h = gather_slots n (collected t n) g in Each (SiblingIn v) (leaves_in t ns) → Rest h (flat (kept v) (leaves_in t ns))
            → DropsNone h (gather_nodes t ns h) [])
            → Each (SiblingIn v) (leaves_in t (n ∷ ns)) → Rest g (flat (kept v) (leaves_in t (n ∷ ns)))
            → DropsNone g (gather_nodes t ns (gather_slots n (collected t n) g)) []
        node-gathers n ns g ih s e =
            let h = gather_slots n (collected t n) g in
            by-level v (λ (k : ℕ). DropsNone g (gather_nodes t ns h) []) n
            (λ l.
            let q = leaf-in t n ns l in
            let s' : Each (SiblingIn v) (n ∷ leaves_in t ns) = subst (λ (x : List ℕ). Each (SiblingIn v) x) q s in
            let e' : Rest g (kept v n ++ flat (kept v) (leaves_in t ns)) =
            unfold flat in subst (λ (x : List ℕ). Rest g (flat (kept v) x)) q e in
            let u = leaf-gathers n g (flat (kept v) (leaves_in t ns)) l s'.0 e' in
            kept-then g h (gather_nodes t ns h) _ [] u (ih s'.1 u.rest))
            (λ d l.
            let q = inner-out t d n ns l in
            let u = inner-gathers d n g (flat (kept v) (leaves_in t ns)) l (subst (λ (x : List ℕ). Rest g (flat (kept v) x)) q e) in
            kept-then g h (gather_nodes t ns h) _ [] u (ih (subst (λ (x : List ℕ). Each (SiblingIn v) x) q s) u.rest))

-- a sound tree none of whose nodes was entered before: its map is kept, and nothing is dropped
module _ (t : Words) (r : ℕ) (o : Orderly (view_from t r)) (es : List ℕ)
    (h : (j : ℕ) → Memᴰ j (reached (view_from t r)) → elem j es ≡ false) where
  abbrev g : Gathered
  g = gathered_along t (toured_from t r es)

  tree-gathers : (g.kept ≡ mapping (view_from t r)) × (g.dropped ≡ [])
  unfolding mapping gathered_along
  tree-gathers =
      let v = view_from t r in
      let q = entered-leaves t r o es h in
      let s : Each (SiblingIn v) (leaves_in t (toured_from t r es)) =
      rw q (Each-map (Good v) (SiblingIn v) (leaves v) (λ n g. good-sibling v n g) (level-leaves v o).row.good) in
      let u = nodes-gather (mapping v) (map-rises v o) t r (toured_from t r es) (record { kept = []; dropped = [] }) s
      (ap (flat (kept v)) q) in
      (sym (append-nil _) ∙ u.rest, u.dropped)

-- Without collection 2 a salvage is that of collection 1.
module _ (t : Words) (z : at t 3 ≡ 0) where
  no-second : (gathered 2 t).dropped ≡ []
  unfolding gathered gathered_along gather_nodes
  no-second = rw (none-entered t z)

  -- without a second collection the maps kept are those pairs kept of the first, and no second
  pub alone-maps : kept_maps t ≡ record { one = (gathered 1 t).kept; two = none }
  unfolding kept_maps
  alone-maps = rw (eq-eqb (at t 3) 0 z)

  -- without a second collection the slots dropped are those of the first
  pub alone-dropped : dropped_all t ≡ (gathered 1 t).dropped
  unfolding dropped_all
  alone-dropped = rw no-second (append-nil (gathered 1 t).dropped)

-- With it, both are kept.
pub beside-maps : (t : Words) → at t 3 ≢ 0 → kept_maps t ≡ record { one = (gathered 1 t).kept; two = some (gathered 2 t).kept }
unfolding kept_maps
beside-maps t z = rw (ne_eqb (at t 3) 0 z)

module _ (t : Words) (s : sound t ≡ true) where
  one : ((gathered 1 t).kept ≡ map_of 1 t) × ((gathered 1 t).dropped ≡ [])
  unfolding gathered
  one = rw (entered-one t) (tree-gathers t (at t 1) (collection-orderly 1 t s (first-there t)) [] (λ j m. unfold elem in refl))

  -- no node of the second tree is entered from the first root
  fresh : at t 3 ≢ 0 → (j : ℕ) → Memᴰ j (reached (view_of 2 t)) → elem j (entered 1 t) ≡ false
  fresh z j m = (elem-none j (entered 1 t)).1 (λ i.
      let k = each-mem (λ (n : ℕ). Memᴰ n (reached (view_of 1 t)))
      (rw (entered-one t) (entered-reached t (at t 1) (collection-orderly 1 t s (first-there t)) [])) i in
      let off = ((distinct-append (reached (view_of 1 t)) (reached (view_of 2 t))).0
      (rw (append-nil (reached (view_of 2 t))) at (((each-sound t).0 s).once z))).2 in
      (elem-none j (reached (view_of 2 t))).0 (each-mem (λ (n : ℕ). elem n (reached (view_of 2 t)) ≡ false) off k) m)

  two : at t 3 ≢ 0 → ((gathered 2 t).kept ≡ map_of 2 t) × ((gathered 2 t).dropped ≡ [])
  unfolding gathered
  two z = rw (entered-two t) (tree-gathers t (at t 3) (collection-orderly 2 t s (second-there t z)) (entered 1 t) (fresh z))

  -- A sound table drops nothing and gives the same maps.
  pub tour-sound : (kept_maps t ≡ maps_of t) × (dropped_all t ≡ [])
  unfolding kept_maps dropped_all maps_of
  tour-sound = go (same-or-not (at t 3) 0)
    where
      go : (at t 3 ≡ 0) ⊎ (at t 3 ≢ 0) → (kept_maps t ≡ maps_of t) × (dropped_all t ≡ [])
      go (inl z) = (rw (eq-eqb (at t 3) 0 z, one.0), alone-dropped t z ∙ one.1)
      go (inr z) = (rw (one.0, (two z).0), rw (one.1, (two z).1))
