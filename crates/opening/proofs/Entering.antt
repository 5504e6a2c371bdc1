-- The pairs of a settled table, leaf by leaf, are its maps, and their recordings are entered one after the other.
use Rattle.std.proofs.Common.{◌≡◌, ℕ, Bool, true, false, ◌≢◌, List, [], ◌∷◌, ◌++◌, sym, refl, ap, ◌∙◌, ⊎_elim, eq-eqb, ne_eqb}
use Rattle.std.proofs.lemmas.List.{map-append}
use Rattle.model.specs.declared.Node.{Node}
use Rattle.model.specs.Table.{node, Words, at, nodes, root}
use Rattle.model.specs.Slots.{Slot, slot, shown, used, recording_of, recording, view_from, view_of, view}
use Rattle.model.specs.Search.{below}
use Rattle.model.specs.Reached.{filter, flat, kept, map_of, maps_of}
use Rattle.model.specs.SoundTest.{settled}
use Rattle.model.specs.Cells.{entered, entered_all}
use Rattle.model.specs.Summary.{cell_of, cells_of, recordings_of, recordings_in}
use Rattle.list_laws.proofs.Tools.{same-or-not}
use Rattle.walk_laws.specs.Chain.{along, first_leaf}
use Rattle.walk_laws.proofs.AnyRoot.{any-along}
use Rattle.walk_laws.proofs.WalkLaw.{sound-in-order}
use Rattle.two_laws.proofs.SameTwo.{first-there, second-there, settled-sound}
use Rattle.two_laws.proofs.CollectionTwo.{collection-sound}
use Rattle.node.specs.Word.{word_of}
use Rattle.node.proofs.WordLaws.{word-fence}
use Rattle.slots.specs.Scan.{shown_from, keeps, kept_of, is_way}
use Rattle.slots.proofs.Kept.{kept-taken, kept-passed}
use Rattle.leaves.proofs.FoundLaws.{whole-is, chain-mapping}
use Rattle.opening.specs.Passes.{pairs_along}
use Rattle.opening.proofs.Marking.{chain-none}

-- ---- numbers entered one after the other

pub entered-append : (xs ys : List ℕ) (cs : Words) → entered_all cs (xs ++ ys) ≡ entered_all (entered_all cs xs) ys
unfolding entered_all
entered-append [] ys cs = refl
entered-append (x ∷ xs) ys cs = entered-append xs ys (entered cs x)

-- ---- a leaf, slot by slot

-- what slots come to, with this pointer before them, from the cells as they are
abbrev pub slots_come : (n s b : ℕ) (cs : Words) (before : ℕ) → List Slot → Words
slots_come n s b cs before ss = entered_all cs (cells_of n (kept_of s b (shown before ss)))

module _ (n s b : ℕ) (cs : Words) (before : ℕ) where
  pub slots-none : cs ≡ slots_come n s b cs before []
  unfolding entered_all shown filter
  slots-none = refl

  module _ (k p : ℕ) (ss : List Slot) (w : Bool) (e : w ≡ is_way s b before k p) where
    pub slot-passed : w ≡ false → slots_come n s b cs before (slot k p ∷ ss) ≡ slots_come n s b cs p ss
    slot-passed f = ap (λ (ks : List Slot). entered_all cs (cells_of n ks)) (kept-passed s b before k p ss e f)

    pub slot-taken : w ≡ true → (r x : ℕ) (after : Words) → r ≡ recording_of p → x ≡ cell_of n r → after ≡ entered cs x
        → slots_come n s b cs before (slot k p ∷ ss) ≡ slots_come n s b after p ss
    unfolding entered_all
    slot-taken y r x after f g h =
        ap (λ (ks : List Slot). entered_all cs (cells_of n ks)) (kept-taken s b before k p ss e y)
        ∙ ap (λ (ds : Words). entered_all ds (cells_of n (kept_of s b (shown p ss)))) (sym (h ∙ ap (entered cs) (g ∙ ap (cell_of n) f)))

pub leaf-slots : (t : Words) (leaf : ℕ) (x : Node) (b : ℕ) → x ≡ node t leaf → b ≡ word_of t x.sibling 3
    → kept_of x.sibling b (shown_from x.left x.slots 0) ≡ kept (view t) leaf
unfolding used kept below keeps
leaf-slots t leaf x b e q =
    ap (λ (y : ℕ). kept_of x.sibling y (shown_from x.left x.slots 0)) q
    ∙ ap (λ (y : Node). kept_of y.sibling (word_of t y.sibling 3) (shown_from y.left y.slots 0)) e
    ∙ ap (λ (y : ℕ). kept_of (node t leaf).sibling y (shown_from (node t leaf).left (node t leaf).slots 0))
    (word-fence t (node t leaf).sibling)

-- ---- the leaves, one by one

module _ (t : Words) (n : ℕ) (ns : List ℕ) (cs : Words) where
  abbrev among : List ℕ → List ℕ
  among ms = cells_of n (flat (kept (view t)) ms)

  pub leaves-end : ns ≡ [] → cs ≡ entered_all cs (among ns)
  unfolding entered_all flat
  leaves-end z = rw z

  pub leaves-next : (leaf : ℕ) (later : List ℕ) (after : Words) → ns ≡ leaf ∷ later → after
      ≡ entered_all cs (cells_of n (kept (view t) leaf))
      → entered_all after (among later) ≡ entered_all cs (among ns)
  unfolding flat
  leaves-next leaf later after z e =
      let xs = cells_of n (kept (view t) leaf) in
      rw z (ap (λ (ds : Words). entered_all ds (among later)) e ∙ sym (entered-append xs (among later) cs)
      ∙ ap (entered_all cs) (sym (map-append (λ (s : Slot). cell_of n (recording s)) (kept (view t) leaf) (flat (kept (view t)) later))))

pub chain-cells : (t : Words) (r n first most : ℕ) → first ≡ first_leaf (view_from t r) → most ≡ nodes t
    → cells_of n (flat (kept (view t)) (along (view t) most first)) ≡ cells_of n (pairs_along (view_from t r))
unfolding kept below
chain-cells t r n first most e q =
    ap (λ (ns : List ℕ). cells_of n (flat (kept (view t)) ns)) (any-along t (root t) r most first ∙ whole-is (view_from t r) first most e q)

-- ---- both maps

-- 0 is no root
pairs-none : (t : Words) → pairs_along (view_from t 0) ≡ []
unfolding flat
pairs-none t = ap (flat (kept (view_from t 0))) (chain-none t)

module _ (t : Words) (s : settled t ≡ true) (a b : ℕ) (p : a ≡ at t 1) (q : b ≡ at t 3) where
  first : pairs_along (view_from t a) ≡ map_of 1 t
  first = ap (λ (r : ℕ). pairs_along (view_from t r)) p
      ∙ chain-mapping (view_of 1 t) (sound-in-order (view_of 1 t) (collection-sound 1 t (settled-sound t s) (first-there t)))

  second : at t 3 ≢ 0 → pairs_along (view_from t b) ≡ map_of 2 t
  second z = ap (λ (r : ℕ). pairs_along (view_from t r)) q
      ∙ chain-mapping (view_of 2 t) (sound-in-order (view_of 2 t) (collection-sound 2 t (settled-sound t s) (second-there t z)))

  no-second : at t 3 ≡ 0 → pairs_along (view_from t b) ≡ []
  no-second z = ap (λ (r : ℕ). pairs_along (view_from t r)) (q ∙ z) ∙ pairs-none t

  all-cells : cells_of 1 (pairs_along (view_from t a)) ++ cells_of 2 (pairs_along (view_from t b)) ≡ recordings_in t
  unfolding recordings_of maps_of
  all-cells = ⊎_elim (λ z. rw (first, no-second z, eq-eqb (at t 3) 0 z)) (λ z. rw (first, second z, ne_eqb (at t 3) 0 z))
      (same-or-not (at t 3) 0)

  pub all-entered : (cs one two : Words) → one ≡ entered_all cs (cells_of 1 (pairs_along (view_from t a))) → two
      ≡ entered_all one (cells_of 2 (pairs_along (view_from t b)))
      → two ≡ entered_all cs (recordings_in t)
  all-entered cs one two e f =
      f ∙ ap (λ (ds : Words). entered_all ds (cells_of 2 (pairs_along (view_from t b)))) e
      ∙ sym (entered-append (cells_of 1 (pairs_along (view_from t a))) (cells_of 2 (pairs_along (view_from t b))) cs)
      ∙ ap (entered_all cs) all-cells
