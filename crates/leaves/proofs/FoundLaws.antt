-- The finder finds a number exactly if it is there.
use Rattle.std.proofs.Common.{◌≡◌, ℕ, suc, Bool, true, false, ◌||◌, eqb, List, [], ◌∷◌, ◌++◌, map, sym, refl, ap, ◌∙◌}
use Rattle.model.specs.Table.{Words, at, nodes}
use Rattle.model.specs.Slots.{Slot, recording, View, view_from, view}
use Rattle.model.specs.Search.{below}
use Rattle.model.specs.Reached.{flat, kept, mapping}
use Rattle.model.specs.SoundTest.{elem, sound_view}
use Rattle.model.specs.Refusals.{has_recording}
use Rattle.list_laws.proofs.Tools.{eqb-sym}
use Rattle.list_laws.proofs.Members.{elem-join}
use Rattle.walk_laws.specs.Chain.{along, first_leaf, chain}
use Rattle.walk_laws.proofs.WalkLaw.{InOrder, sound-in-order}
use Rattle.walk_laws.proofs.ChainLaw.{chain-leaves}
use Rattle.walk_laws.proofs.AnyRoot.{any-along}
use Rattle.std.specs.Prelude.{Option, is_some}
use Rattle.leaves.specs.declared.Hit.{Hit}
use Rattle.leaves.specs.Hits.{recordings, hit_among, first_hit, hit_along, hit_in}

map-append : (ss ts : List Slot) → map recording (ss ++ ts) ≡ map recording ss ++ map recording ts
map-append [] ts = refl
map-append (s ∷ ss) ts = ap (λ (l : List ℕ). recording s ∷ l) (map-append ss ts)

pub recordings-cons : (v : View) (n : ℕ) (ns : List ℕ) → recordings v (n ∷ ns) ≡ map recording (kept v n) ++ recordings v ns
unfolding recordings flat
recordings-cons v n ns = map-append (kept v n) (flat (kept v) ns)

-- ---- the finder finds a number exactly if it is there

hit-among : (r n i : ℕ) (xs : List ℕ) (later : Option Hit) → is_some (hit_among r n i xs later) ≡ (elem r xs || is_some later)
unfolding hit_among elem
hit-among r n i [] later = refl
hit-among r n i (x ∷ xs) later = go (eqb x r) refl (hit-among r n (suc i) xs later)
  where
    go : (b : Bool) → eqb x r ≡ b → is_some (hit_among r n (suc i) xs later) ≡ (elem r xs || is_some later)
        → is_some (hit_among r n i (x ∷ xs) later) ≡ (elem r (x ∷ xs) || is_some later)
    go true e ih = rw (e, hit_among) (rw (eqb-sym r x, e))
    go false e ih = rw (e, hit_among) (ih ∙ rw (eqb-sym r x, e))

hit-elem : (v : View) (r : ℕ) (ns : List ℕ) → is_some (first_hit v r ns) ≡ elem r (recordings v ns)
unfolding first_hit
hit-elem v r [] = unfold recordings in unfold flat in unfold elem in refl
hit-elem v r (n ∷ ns) =
    hit-among r n 0 (map recording (kept v n)) (first_hit v r ns)
    ∙ ap (λ (b : Bool). elem r (map recording (kept v n)) || b) (hit-elem v r ns)
    ∙ sym (ap (elem r) (recordings-cons v n ns) ∙ elem-join r (map recording (kept v n)) (recordings v ns))

-- ---- the whole chain

-- at most N leaves along the siblings from the leftmost are the chain of leaves
pub whole-is : (v : View) (first n : ℕ) → first ≡ first_leaf v → n ≡ v.nodes → along v n first ≡ chain v
unfolding chain
whole-is v first n e q = ap (λ (c : ℕ). along v c first) q ∙ ap (along v v.nodes) e

-- the leaves and what is in them do not depend on the root that the reading started from
any-hit : (t : Words) (a b r : ℕ) (ns : List ℕ) → first_hit (view_from t a) r ns ≡ first_hit (view_from t b) r ns
unfolding first_hit kept below
any-hit t a b r ns = refl

pub hit-chain : (t : Words) (root first n r : ℕ) (h : Option Hit) → first ≡ first_leaf (view_from t root) → n ≡ nodes t → h
    ≡ hit_along (view t) n first r → h ≡ hit_in (view_from t root) r
hit-chain t root first n r h e q i =
    let v = view_from t root in
    i ∙ any-hit t (at t 1) root r (along (view t) n first) ∙ ap (first_hit v r) (any-along t (at t 1) root n first ∙ whole-is v first n e q)

-- ---- on a table whose walk was not refused

-- the kept slots of the chain of leaves, joined, are the tree's map
pub chain-mapping : (v : View) → InOrder v → flat (kept v) (chain v) ≡ mapping v
unfolding mapping
chain-mapping v o = ap (flat (kept v)) (chain-leaves v o)

recordings-mapping : (v : View) → InOrder v → recordings v (chain v) ≡ map recording (mapping v)
unfolding recordings
recordings-mapping v o = ap (map recording) (chain-mapping v o)

elem-recording : (r : ℕ) (ss : List Slot) → elem r (map recording ss) ≡ has_recording r ss
unfolding elem has_recording
elem-recording r [] = refl
elem-recording r (s ∷ ss) =
    ap (λ (b : Bool). b || elem r (map recording ss)) (eqb-sym r (recording s))
    ∙ ap (λ (b : Bool). eqb (recording s) r || b) (elem-recording r ss)

-- the finder finds a number exactly if the map has it
hit-recording : (v : View) (r : ℕ) → InOrder v → is_some (hit_in v r) ≡ has_recording r (mapping v)
hit-recording v r o = hit-elem v r (chain v) ∙ ap (elem r) (recordings-mapping v o) ∙ elem-recording r (mapping v)

-- in a sound tree the leaves hold a recording exactly if the map has it
pub found-recording : (v : View) (r : ℕ) → sound_view v ≡ true → is_some (hit_in v r) ≡ has_recording r (mapping v)
found-recording v r h = hit-recording v r (sound-in-order v h)
