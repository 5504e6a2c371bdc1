-- The leaves of a listing: from one on, one by one, as long as a pair of the range may follow.
use Rattle.std.proofs.Common.{◌≡◌, ℕ, zero, suc, ◌<◌, ◌≤◌, Bool, true, false, ◌&&◌, eqb, ltb, leb, List, [], ◌∷◌, ◌++◌, sym, refl, ap, ◌∙◌}
use Rattle.std.proofs.Common.{le-ltb, lt-ltb}
use Rattle.model.specs.declared.Node.{Node}
use Rattle.model.specs.Table.{Words, root, nodes, node}
use Rattle.model.specs.Slots.{Slot, View, node_view, view_from, view, used}
use Rattle.model.specs.Search.{below, within}
use Rattle.model.specs.Reached.{filter, flat, kept, mapping}
use Rattle.model.specs.SoundTest.{sound_view}
use Rattle.model.specs.Listing.{in_range_of}
use Rattle.model.specs.Writes.{standing_in}
use Rattle.model.specs.Summary.{leaves_up_to}
use Rattle.list_laws.proofs.Filters.{range-append}
use Rattle.tree_laws.proofs.Levels.{sound-orderly}
use Rattle.walk_laws.specs.Chain.{along}
use Rattle.summary_laws.proofs.Pages.{pages-map}
use Rattle.node.specs.Word.{word_of}
use Rattle.node.proofs.WordLaws.{word-fence}
use Rattle.slots.specs.Scan.{shown_from, keeps}
use Rattle.listing.specs.Taking.{Sheet, all_taken, wants, wanted, pairs_from}
use Rattle.listing.proofs.Pairs.{taken-append, Spent, spent-stop}

-- ---- the pairs in a range

filter-both {ℓ} : {A : Type ℓ} (p q : A → Bool) (xs : List A) → filter p (filter q xs) ≡ filter (λ (x : A). q x && p x) xs
unfolding filter
filter-both p q [] = refl
filter-both {A = A} p q (x ∷ xs) = go (q x) (p x) refl refl (filter-both p q xs)
  where
    go : (a b : Bool) → q x ≡ a → p x ≡ b → filter p (filter q xs) ≡ filter (λ (x : A). q x && p x) xs → filter p (filter q (x ∷ xs))
        ≡ filter (λ (x : A). q x && p x) (x ∷ xs)
    go true true c d ih = rw (c, filter) (rw (d, filter) (ap (λ (l : List A). x ∷ l) ih))
    go true false c d ih = rw (c, filter) (rw (d, filter) ih)
    go false b c d ih = rw (c, filter) ih

-- x is node n as the code has read it, b its sibling's fence
leaf-pairs : (t : Words) (r low high n : ℕ) (x : Node) (b : ℕ) → x ≡ node t n → b ≡ word_of t x.sibling 3
    → wanted (record { low = low; high = high; sibling = x.sibling; bound = b }) (shown_from x.left x.slots 0)
    ≡ in_range_of low high (kept (view_from t r) n)
unfolding wanted wants in_range_of kept used below keeps
leaf-pairs t r low high n x b q e =
    let f : b ≡ (node_view t x.sibling).fence = e ∙ word-fence t x.sibling in
    ap (λ (w : ℕ). wanted (record { low = low; high = high; sibling = x.sibling; bound = w }) (shown_from x.left x.slots 0)) f
    ∙ ap (λ (y : Node). wanted (record { low = low; high = high; sibling = y.sibling; bound = (node_view t y.sibling).fence })
    (shown_from y.left y.slots 0)) q
    ∙ sym (filter-both (λ (s : Slot). leb low s.key && leb s.key high) (λ (s : Slot). within (view_from t r) n s.key) (node_view t n).shown)

-- ---- the leaves along the siblings

-- of these leaves those before the first whose fence is above the highest key
unfoldable pub up_to : View → (high : ℕ) → List ℕ → List ℕ
up_to v high [] = []
up_to v high (n ∷ ns) = elim (ltb high (v.node n).fence) [ true ↦ [] | false ↦ n ∷ up_to v high ns ]

-- their pairs in the range
abbrev pub pairs_of : View → (low high : ℕ) → List ℕ → List Slot
pairs_of v low high ns = in_range_of low high (flat (kept v) (up_to v high ns))

up-along : (v : View) (high c n : ℕ) → leaves_up_to v high c n ≡ up_to v high (along v c n)
unfolding leaves_up_to along up_to
up-along v high zero n = refl
up-along v high (suc c) n = go (eqb n 0) (ltb high (v.node n).fence) refl refl (up-along v high c (v.node n).sibling)
  where
    go : (a b : Bool) → eqb n 0 ≡ a → ltb high (v.node n).fence ≡ b
        → leaves_up_to v high c (v.node n).sibling ≡ up_to v high (along v c (v.node n).sibling)
        → leaves_up_to v high (suc c) n ≡ up_to v high (along v (suc c) n)
    go true b e f ih = rw (e, leaves_up_to, along) refl
    go false true e f ih = rw (e, f, leaves_up_to, along, up_to) refl
    go false false e f ih = rw (e, f, leaves_up_to, along, up_to) (ap (λ (ms : List ℕ). n ∷ ms) ih)

module _ (t : Words) (low high : ℕ) where
  -- what is ahead: taking the pairs of the leaves ns comes to the end
  pub record Ahead (ns : List ℕ) (x end : Sheet) : Type 0 where
    pub rest : all_taken (pairs_of (view t) low high ns) x ≡ end

  pub ahead-first : (n c : ℕ) (ns : List ℕ) (x : Sheet) → c ≡ nodes t → ns ≡ along (view t) c n
      → Ahead ns x (all_taken (pairs_from (view t) low high n) x)
  ahead-first n c ns x f q =
      let v = view t in
      let whole : up_to v high ns ≡ leaves_up_to v high (nodes t) n =
      ap (up_to v high) q ∙ ap (λ (k : ℕ). up_to v high (along v k n)) f ∙ sym (up-along v high (nodes t) n) in
      record { rest = ap (λ (ms : List ℕ). all_taken (in_range_of low high (flat (kept v) ms)) x) whole }

  pub ahead-end : (ns : List ℕ) (x end : Sheet) → Ahead ns x end → ns ≡ [] → x ≡ end
  unfolding in_range_of flat filter all_taken up_to
  ahead-end ns x end a z = sym (ap (λ (ms : List ℕ). all_taken (pairs_of (view t) low high ms) x) z) ∙ a.rest

  -- once a pair is left
  pub ahead-left : (ns : List ℕ) (x end : Sheet) → Ahead ns x end → Spent x → x.more ≡ true → x ≡ end
  ahead-left ns x end a s m = sym (spent-stop (pairs_of (view t) low high ns) x s m) ∙ a.rest

  -- from the record m of leaf n that the code has read
  module _ (m : Node) (n : ℕ) (ns later : List ℕ) (x end : Sheet) (q : m ≡ node t n) (z : ns ≡ n ∷ later) (a : Ahead ns x end) where
    pub ahead-past : high < m.fence → x ≡ end
    unfolding in_range_of flat filter all_taken up_to
    ahead-past f =
        let past : ltb high (node_view t n).fence ≡ true = lt-ltb high (node_view t n).fence (rw q at f) in
        let none : up_to (view t) high (n ∷ later) ≡ [] = rw (past, up_to) refl in
        sym (ap (λ (ms : List ℕ). all_taken (pairs_of (view t) low high ms) x) z
        ∙ ap (λ (ms : List ℕ). all_taken (in_range_of low high (flat (kept (view t)) ms)) x) none) ∙ a.rest

    pub ahead-next : (b : ℕ) (y : Sheet) → m.fence ≤ high → b ≡ word_of t m.sibling 3
        → y ≡ all_taken (wanted (record { low = low; high = high; sibling = m.sibling; bound = b }) (shown_from m.left m.slots 0)) x
        → Ahead later y end
    unfolding flat up_to
    ahead-next b y f e w =
        let v = view t in
        let more : ltb high (node_view t n).fence ≡ false = le-ltb high (node_view t n).fence (rw q at f) in
        let some : up_to v high (n ∷ later) ≡ n ∷ up_to v high later = rw (more, up_to) refl in
        let here : y ≡ all_taken (in_range_of low high (kept v n)) x =
        w ∙ ap (λ (ss : List Slot). all_taken ss x) (leaf-pairs t (root t) low high n m b q e) in
        let parts : pairs_of v low high (n ∷ later) ≡ in_range_of low high (kept v n) ++ pairs_of v low high later =
        ap (λ (ms : List ℕ). in_range_of low high (flat (kept v) ms)) some
        ∙ range-append low high (kept v n) (flat (kept v) (up_to v high later)) in
        record {
          rest = ap (all_taken (pairs_of v low high later)) here
              ∙ sym (ap (λ (ms : List ℕ). all_taken (pairs_of v low high ms) x) z ∙ ap (λ (ss : List Slot). all_taken ss x) parts
              ∙ taken-append (in_range_of low high (kept v n)) (pairs_of v low high later) x)
              ∙ a.rest;
        }

-- ---- from the leaf for the lowest key

-- the pairs along the siblings do not depend on the root that the reading started from
pub any-pairs : (t : Words) (r q low high n : ℕ) → pairs_from (view_from t r) low high n ≡ pairs_from (view_from t q) low high n
unfolding leaves_up_to kept below
any-pairs t r q low high n = refl

-- in a sound tree they are those of its map
pub map-pairs : (t : Words) (r low high n : ℕ) → sound_view (view_from t r) ≡ true → n ≡ standing_in (view_from t r) 0 low
    → pairs_from (view t) low high n ≡ in_range_of low high (mapping (view_from t r))
map-pairs t r low high n h e =
    let v = view_from t r in
    any-pairs t (root t) r low high n ∙ ap (pairs_from v low high) e ∙ pages-map v low high (sound-orderly v h)
