-- A search that takes the slice: with any words of the right length it is the plain search on a sound table, and on every other table it is
-- the plain search but for the slot chosen.
use Rattle.std.proofs.Common.{◌≡◌, ℕ, ◌*◌, Bool, true, false, leb, ◌≢◌, ◌⊎◌, length, sym, refl, ap, ◌∙◌, inl, inr, arith, le-leb}
use mathlib.Core.List.{Memᴰ}
use mathlib.Core.Option.{Option, none, some, some-injective}
use Rattle.model.specs.declared.Answer.{Answer}
use Rattle.model.specs.declared.Answer.TheVariants.{Found, Refused}
use Rattle.model.specs.Table.{Words, nodes, header_ok, no_collection}
use Rattle.model.specs.Slots.{Slot, recording, class, View, node_view, view_of, height}
use Rattle.model.specs.Search.{within, kept, locate, first_with, next_from, answer_of, answer_in, search_view, search}
use Rattle.model.specs.SoundTest.{sound}
use Rattle.model.specs.Sentinels.{shown_on, on_line, line_for, words_of, led_to, leaf_sought, search_with, Shows, OtherSlot}
use Rattle.list_laws.proofs.Members.{each-mem}
use Rattle.list_laws.proofs.Filters.{mem-filter}
use Rattle.list_laws.proofs.Tools.{first-filter}
use Rattle.tree_laws.proofs.Rising.{first-mem, mem-first, first-misses}
use Rattle.tree_laws.proofs.Levels.{Orderly}
use Rattle.tree_laws.proofs.Kept.{kept-rises}
use Rattle.tree_laws.proofs.SearchLaw.{leaf_for, locate-leaf, leaf-covers}
use Rattle.two_laws.proofs.SearchTwo.{sound-head}
use Rattle.two_laws.proofs.CollectionTwo.{collection-orderly}
use Rattle.sentinel_laws.proofs.Lines.{line-shown}
use Rattle.sentinel_laws.proofs.Slices.{slice-bad, slice-lacks, slice-wrong, slice-right}

-- ---- the leaf, and what the words lead to in it

-- the plain search is the answer from that leaf
from-leaf : (v : View) (k : ℕ) → search_view v k ≡ answer_in v k (leaf_sought v k)
unfolding search_view leaf_sought
from-leaf v k = go (leb (height v) 15)
  where
    go : (b : Bool) → elim b as (λ b. Answer) [ true ↦ answer_in v k (locate v (height v) v.root k) | false ↦ Refused 3 ]
        ≡ answer_in v k (elim b as (λ b. Option ℕ) [ true ↦ locate v (height v) v.root k | false ↦ none ])
    go true = refl
    go false = refl

on-line : (t : Words) (n k : ℕ) (l : Option ℕ) (s : Slot) → on_line t n k l ≡ some s → Memᴰ s (node_view t n).shown × (s.key ≡ k)
on-line t n k none s e = let z : ◌≡◌ {A = ℕ} 0 1 = cc in absurd (omega arith)
on-line t n k (some j) s e = let m = first-mem k s (shown_on t n j) e in (line-shown t n j s m.0, m.1)

-- ---- one tree

-- what a search finds in its leaf
found-in : (v : View) (m k : ℕ) (s : Slot) → first_with k (v.node m).shown ≡ some s → answer_in v k (some m) ≡ Found (recording s) (class s)
found-in v m k s e = ap (λ (o : Option Slot). answer_of o (next_from v v.nodes m k)) e

-- where some shown slot has the key, one is found
finds : (t : Words) (m k : ℕ) (s : Slot) → Shows t m k s → (x : Slot) × (first_with k (node_view t m).shown ≡ some x)
finds t m k s h = go (first_with k (node_view t m).shown) refl
  where
    go : (o : Option Slot) → first_with k (node_view t m).shown ≡ o → (x : Slot) × (first_with k (node_view t m).shown ≡ some x)
    go none e = absurd (each-mem (λ (u : Slot). u.key ≢ k) (first-misses k (node_view t m).shown e) h.in-leaf h.key)
    go (some x) e = (x, e)

-- on a sound tree it is the only one of its leaf
only-one : (v : View) (k : ℕ) → Orderly v → (s : Slot) → Memᴰ s (v.node (leaf_for v k)).shown → s.key ≡ k
    → first_with k (v.node (leaf_for v k)).shown ≡ some s
unfolding kept
only-one v k o s m e =
    let x = leaf_for v k in
    let c = leaf-covers v k o in
    let i : within v x s.key ≡ true = ap (within v x) e ∙ c.inside in
    sym (first-filter k (λ (u : Slot). within v x u.key) (v.node x).shown (λ u q. ap (within v x) q ∙ c.inside))
    ∙ ap (λ (j : ℕ). first_with j (kept v x)) (sym e)
    ∙ mem-first (v.node x).fence s (kept v x) (kept-rises v x c.good)
    ((mem-filter (λ (u : Slot). within v x u.key) s (v.node x).shown).1 (m, i))

-- its leaf
leaf-is : (v : View) (k : ℕ) → Orderly v → leaf_sought v k ≡ some (leaf_for v k)
unfolding leaf_sought
leaf-is v k o = rw (le-leb (height v) 15 o.top.level, leaf_sought) (locate-leaf v k o)

-- ---- the call

module _ (n : ℕ) (ws t : Words) (k : ℕ) (long : length ws ≡ 3 * nodes t) where
  abbrev v : View
  v = view_of n t

  bad-header : header_ok t ≡ false → search_with n ws t k ≡ search n t k
  unfolding search_with search
  bad-header h = rw (slice-bad (no_collection n t) (length ws) t h, h, search)

  no-tree : header_ok t ≡ true → no_collection n t ≡ true → search_with n ws t k ≡ search n t k
  unfolding search_with search
  no-tree h c = rw (slice-lacks (no_collection n t) (length ws) t h c, h, c, search)

  module _ (h : header_ok t ≡ true) (c : no_collection n t ≡ false) where
    -- with a slice of the right length the search looks on the line that it names, then as a plain search does
    pub with-tree : search_with n ws t k ≡ answer_of (led_to ws t k (leaf_sought (view_of n t) k)) (search_view (view_of n t) k)
    unfolding search_with
    with-tree = rw (slice-right (no_collection n t) (length ws) t h c long)

    -- a search of a collection that is there is the search of its tree
    pub plain-tree : search n t k ≡ search_view (view_of n t) k
    unfolding search
    plain-tree = rw (h, c, search)

    not-led : led_to ws t k (leaf_sought v k) ≡ none → search_with n ws t k ≡ search n t k
    not-led e = with-tree ∙ ap (λ (o : Option Slot). answer_of o (search_view v k)) e ∙ sym plain-tree

-- where the words lead to a slot, there is a leaf, and it shows the slot
led : (ws t : Words) (k : ℕ) (l : Option ℕ) (s : Slot) → led_to ws t k l ≡ some s → (m : ℕ) × (l ≡ some m) × Shows t m k s
led ws t k none s e = let z : ◌≡◌ {A = ℕ} 0 1 = cc in absurd (omega arith)
led ws t k (some m) s e = let u = on-line t m k (line_for k (words_of ws m)) s e in (m, refl, record { in-leaf = u.0; key = u.1 })

-- On every table, with any words of the right length, it is the plain search, or both find and only the slot differs.
pub search-but-slot : (n : ℕ) (ws t : Words) (k : ℕ) → length ws ≡ 3 * nodes t → (search_with n ws t k ≡ search n t k) ⊎ OtherSlot n ws t k
search-but-slot n ws t k long = go (header_ok t) refl (no_collection n t) refl
  where
    v : View
    v = view_of n t

    chosen : header_ok t ≡ true → no_collection n t ≡ false → (o : Option Slot) → led_to ws t k (leaf_sought v k) ≡ o
        → (search_with n ws t k ≡ search n t k) ⊎ OtherSlot n ws t k
    chosen h c none e = inl (not-led n ws t k long h c e)
    chosen h c (some s) e =
        let (m, l, shows) = led ws t k (leaf_sought v k) s e in
        let (x, first) = finds t m k s shows in
        let u = first-mem k x (node_view t m).shown first in
        inr (record {
          leaf = m;
          come-to = l;
          plain = x;
          chosen = s;
          plain-shows = record { in-leaf = u.0; key = u.1 };
          chosen-shows = shows;
          plain-found = plain-tree n ws t k long h c ∙ from-leaf v k ∙ ap (answer_in v k) l ∙ found-in v m k x first;
          chosen-found = with-tree n ws t k long h c ∙ ap (λ (o : Option Slot). answer_of o (search_view v k)) e;
        })

    go : (a : Bool) → header_ok t ≡ a → (b : Bool) → no_collection n t ≡ b → (search_with n ws t k ≡ search n t k) ⊎ OtherSlot n ws t k
    go false h b c = inl (bad-header n ws t k long h)
    go true h true c = inl (no-tree n ws t k long h c)
    go true h false c = chosen h c (led_to ws t k (leaf_sought v k)) refl

-- On a sound table it is the plain search, true words or not, the neighbour included.
pub search-as-plain : (n : ℕ) (ws t : Words) (k : ℕ) → sound t ≡ true → length ws ≡ 3 * nodes t → search_with n ws t k ≡ search n t k
search-as-plain n ws t k s long = go (no_collection n t) refl
  where
    v : View
    v = view_of n t

    h : header_ok t ≡ true
    h = sound-head t s

    chosen : no_collection n t ≡ false → (o : Option Slot) → led_to ws t k (leaf_sought v k) ≡ o → search_with n ws t k ≡ search n t k
    chosen c none e = not-led n ws t k long h c e
    chosen c (some x) e =
        let o = collection-orderly n t s c in
        let (m, l, shows) = led ws t k (leaf_sought v k) x e in
        let q : m ≡ leaf_for v k = some-injective m (leaf_for v k) (sym l ∙ leaf-is v k o) in
        let first = only-one v k o x (rw q at shows.in-leaf) shows.key in
        with-tree n ws t k long h c ∙ ap (λ (o : Option Slot). answer_of o (search_view v k)) e
        ∙ sym (plain-tree n ws t k long h c ∙ from-leaf v k ∙ ap (answer_in v k) (leaf-is v k o) ∙ found-in v (leaf_for v k) k x first)

    go : (b : Bool) → no_collection n t ≡ b → search_with n ws t k ≡ search n t k
    go true c = no-tree n ws t k long h c
    go false c = chosen c (led_to ws t k (leaf_sought v k)) refl

-- With a slice of another length it is refused with 19, where the header is right and the collection is there.
pub search-wrong-slice :
    (n : ℕ) (ws t : Words) (k : ℕ) → header_ok t ≡ true → no_collection n t ≡ false → length ws ≢ 3 * nodes t
    → search_with n ws t k ≡ Refused 19
unfolding search_with
search-wrong-slice n ws t k h c z = rw (slice-wrong (no_collection n t) (length ws) t h c z)
