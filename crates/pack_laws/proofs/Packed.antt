-- Packed pairs: a settled tree with these pairs as its map.
use Rattle.std.proofs.Common.{◌≡◌, ℕ, zero, suc, ◌+◌, ◌*◌, ◌<◌, ◌≤◌, true, List, [], ◌∷◌, ◌++◌, map, length, sym, refl, ◌∙◌, arith}
use Rattle.model.specs.Table.{MARK, Words, at, nodes, node_start}
use Rattle.model.specs.Slots.{Slot, View, view_from, height}
use Rattle.model.specs.Search.{below}
use Rattle.model.specs.Reached.{flat, head_or, mapping, reached}
use Rattle.model.specs.SoundTest.{rising, linked, recordings_ok}
use Rattle.model.specs.Writes.{numbers}
use Rattle.view_laws.proofs.NodeViews.{shown_of, left-eq, sibling-eq, level-eq, fence-eq, shown-eq, hidden-eq, clear-eq}
use Rattle.list_laws.proofs.Tools.{Each, Each-map, Each-append}
use Rattle.list_laws.proofs.Counts.{numbers-each}
use Rattle.tree_laws.proofs.Rows.{range-iff, linked-cons}
use Rattle.tree_laws.proofs.Leftovers.{SettledTree}
use Rattle.tree_laws.proofs.Cover.{below-high}
use Rattle.model.specs.Packing.{Made, next, bottom, numbered, row_above, rows_above, packed, rows_words, count_rows}
use Rattle.pack_laws.proofs.Stacks.{way_to, ways_of, Plain, Fits, Stack, stack-leaves, stack-up, stack-map, stack-settled, below-zero}
use Rattle.pack_laws.proofs.Standing.{Standing, RowsStanding, rows-standing}
use Rattle.pack_laws.proofs.Groups.{Before, LeafRow, ways_made, above-ways, above-few, above-some, rows-writable, bottom-slots, bottom-left}
use Rattle.pack_laws.proofs.Groups.{bottom-writable, bottom-row}

-- how many leaves a tree of so many levels above them takes
abbrev takes : ℕ → ℕ
takes zero = 1
takes (suc f) = 12 * takes f

module _ (v : View) where
  -- ---- a standing row, as the view shows it

  row-plain : (l n : ℕ) (xs : List Made) → 1 ≤ n → n + length xs ≤ suc v.nodes → Standing v l n xs
      → Each (Plain v l) (numbers n (length xs))
  unfolding numbers
  row-plain l n [] a b s = tt
  row-plain l n (x ∷ xs) a b s = (
    record { range = (range-iff v.nodes n).1 (a, omega arith); level = level-eq s.0; clear = clear-eq s.0; hidden = hidden-eq s.0 },
    row-plain l (suc n) xs (omega arith) (omega arith) s.1,
  )

  next-head : (n : ℕ) (xs : List Made) → next n xs ≡ head_or 0 (numbers (suc n) (length xs))
  unfolding numbers
  next-head n [] = refl
  next-head n (x ∷ xs) = refl

  row-linked : (l n : ℕ) (xs : List Made) → Standing v l n xs → linked v (numbers n (length xs)) 0 ≡ true
  unfolding numbers
  row-linked l n [] s = unfold linked in refl
  row-linked l n (x ∷ xs) s =
      (linked-cons v n (numbers (suc n) (length xs)) 0).1 (sibling-eq s.0 ∙ next-head n xs, row-linked l (suc n) xs s.1)

  row-ways : (l n : ℕ) (xs : List Made) → Standing v l n xs → map (way_to v) (numbers n (length xs)) ≡ numbered n xs
  unfolding numbers numbered
  row-ways l n [] s = refl
  row-ways l n (x ∷ xs) s = rw (fence-eq s.0, row-ways l (suc n) xs s.1)

  row-down : (l n : ℕ) (xs : List Made) → Standing v l n xs → flat (ways_of v) (numbers n (length xs)) ≡ flat ways_made xs
  unfolding numbers flat
  row-down l n [] s = refl
  row-down l n (x ∷ xs) s = rw (fence-eq s.0, left-eq s.0, shown-eq s.0, row-down l (suc n) xs s.1)

  row-slots : (l n : ℕ) (xs : List Made) → Standing v l n xs → flat (shown_of v) (numbers n (length xs)) ≡ flat (λ (x : Made). x.slots) xs
  unfolding numbers flat
  row-slots l n [] s = refl
  row-slots l n (x ∷ xs) s = rw (shown-eq s.0, row-slots l (suc n) xs s.1)

  -- ---- a row of leaves

  before-below : (l n : ℕ) (xs : List Made) → Standing v l n xs → (k : ℕ) → Before k xs
      → below v (head_or 0 (numbers n (length xs))) k ≡ true
  unfolding numbers
  before-below l n [] s k b = below-zero v k
  before-below l n (x ∷ xs) s k b = below-high v k n (omega (arith, fence-eq s.0))

  row-fits : (l n : ℕ) (xs : List Made) → Standing v l n xs → LeafRow xs → Fits v (numbers n (length xs))
  unfolding numbers
  row-fits l n [] s r = tt
  row-fits l n (x ∷ xs) s r =
      let b = before-below l (suc n) xs s.1 in (
        (rw (fence-eq s.0) (b x.fence r.1), rw (shown-eq s.0) (Each-map (λ (u : Slot). Before u.key xs) _ x.slots (λ u h. b u.key h) r.2)),
        row-fits l (suc n) xs s.1 r.3,
      )

  row-rise : (l n : ℕ) (xs : List Made) → Standing v l n xs → LeafRow xs → Each (λ (x : Made). x.left ≡ MARK) xs
      → Each (λ (i : ℕ). ((v.node i).left ≡ MARK) × (rising (v.node i).fence (v.node i).shown ≡ true)) (numbers n (length xs))
  unfolding numbers
  row-rise l n [] s r m = tt
  row-rise l n (x ∷ xs) s r m = ((left-eq s.0 ∙ m.0, rw (fence-eq s.0, shown-eq s.0) r.0), row-rise l (suc n) xs s.1 r.3 m.1)

  bottom-stack : (n : ℕ) (ps : List Slot) → 1 ≤ n → n + length (bottom ps) ≤ suc v.nodes → Standing v 0 n (bottom ps) → rising 0 ps ≡ true
      → let ns = numbers n (length (bottom ps)) in Stack v 0 ns ns ns
  unfolding bottom numbers
  bottom-stack n ps a b s r =
      let xs = bottom ps in
      stack-leaves v (numbers n (length xs)) (row-plain 0 n xs a b s) (row-linked 0 n xs s) (row-fits 0 n xs s (bottom-row ps r))
      (fence-eq s.0) (row-rise 0 n xs s (bottom-row ps r) (bottom-left ps))

  -- ---- up to the root

  -- nodes a to e are a tree over the leaves ls, of at most h levels above them; its root is e
  record Grown (a e h : ℕ) (ls : List ℕ) : Type 0 where
    level : ℕ
    few : level ≤ h
    all : List ℕ
    stack : Stack v level (e ∷ []) ls all
    span : Each (λ (i : ℕ). (a ≤ i) × (i < suc e)) all

  module _ (a h : ℕ) (ls : List ℕ) where
    single : (l n e : ℕ) (x : Made) (rs : List ℕ) → n + 1 + 0 ≡ suc e → l ≤ h → Stack v l (numbers n (length (x ∷ []))) ls rs
        → Each (λ (i : ℕ). (a ≤ i) × (i < n + 1)) rs → Grown a e h ls
    unfolding numbers
    single l n e x rs q d s w =
        let p : e ≡ n = omega arith in
        record {
          level = l;
          few = d;
          all = rs;
          stack = rw p s;
          span = Each-map _ (λ (i : ℕ). (a ≤ i) × (i < suc e)) rs (λ i u. (u.0, omega (arith, u.1))) w;
        }

    climb : (f l n e : ℕ) (xs : List Made) (rs : List ℕ) → n + length xs + count_rows (rows_above f n xs) ≡ suc e → e ≤ v.nodes → l + f ≤ h
        → 1 ≤ n → a ≤ n → Standing v l n xs
        → RowsStanding v (suc l) (n + length xs) (rows_above f n xs) → 1 ≤ length xs → length xs ≤ takes f
        → Stack v l (numbers n (length xs)) ls rs
        → Each (λ (i : ℕ). (a ≤ i) × (i < n + length xs)) rs → Grown a e h ls
    unfolding rows_above count_rows
    climb zero l n e [] rs q b d j k s u g t st w = absurd (omega arith)
    climb zero l n e (x ∷ []) rs q b d j k s u g t st w = single l n e x rs q (omega arith) st w
    climb zero l n e (x ∷ y ∷ ys) rs q b d j k s u g t st w = absurd (omega arith)
    climb (suc f) l n e [] rs q b d j k s u g t st w = absurd (omega arith)
    climb (suc f) l n e (x ∷ []) rs q b d j k s u g t st w = single l n e x rs q (omega arith) st w
    climb (suc f) l n e (x ∷ y ∷ ys) rs q b d j k s u g t st w =
        let xs = x ∷ y ∷ ys in
        let m = n + length xs in
        let up = row_above n xs in
        let ns = numbers m (length up) in
        let fit : m + length up ≤ suc v.nodes = omega arith in
        let above = stack-up v l ns (numbers n (length xs)) ls rs st (row-plain (suc l) m up (omega arith) fit u.0)
        (row-linked (suc l) m up u.0) (row-down (suc l) m up u.0 ∙ above-ways n xs ∙ sym (row-ways l n xs s)) in
        climb f (suc l) m e up (ns ++ rs) (omega arith) b (omega arith) (omega arith) (omega arith) u.0 u.1 (above-some n x (y ∷ ys))
        (above-few n xs (takes f) t) above
        (Each-append _ ns rs
        (Each-map _ (λ (i : ℕ). (a ≤ i) × (i < m + length up)) ns (λ i o. (omega (arith, o.0), o.1)) (numbers-each m (length up)))
        (Each-map _ (λ (i : ℕ). (a ≤ i) × (i < m + length up)) rs (λ i o. (o.0, omega (arith, o.1))) w))

-- ---- pairs packed into a table

-- pairs that a tree may hold
pub record Packable (ps : List Slot) : Type 0 where
  pub rise : rising 0 ps ≡ true
  pub recordings : recordings_ok ps ≡ true

-- v is settled with the map ps, and reaches only nodes from n, c of them
pub record Packs (v : View) (n c : ℕ) (ps : List Slot) : Type 0 where
  pub tree : SettledTree v
  pub pairs : mapping v ≡ ps
  pub span : Each (λ (i : ℕ). (n ≤ i) × (i < n + c)) (reached v)

pub some-rows : (n : ℕ) (ps : List Slot) → 1 ≤ count_rows (packed n ps)
unfolding packed count_rows bottom
some-rows n ps = omega arith

takes-enough : 65535 ≤ takes 15
takes-enough = omega arith

grown-packs : (v : View) (n c : ℕ) (ls : List ℕ) (ps : List Slot) → n + c ≡ suc v.root → Grown v n v.root 15 ls → flat (shown_of v) ls ≡ ps
    → recordings_ok ps ≡ true → Packs v n c ps
grown-packs v n c ls ps q g m x =
    let e : g.level ≡ height v = sym g.stack.plain.0.level in
    let s : Stack v (height v) (v.root ∷ []) ls g.all = rw e at g.stack in
    record {
      tree = stack-settled v ls g.all s (omega (arith, g.few)) (rw m x);
      pairs = stack-map v ls g.all s ∙ m;
      span = rw (s.reach, q) g.span;
    }

-- Pairs packed from node n on, wherever in a table and whatever else it holds: from the last of their nodes as root the tree is settled,
-- and its map is these pairs.
pub packs : (t : Words) (n root : ℕ) (ps : List Slot) (pre post : Words) → t ≡ pre ++ (rows_words 0 n (packed n ps) ++ post)
    → length pre ≡ node_start n → 1 ≤ n
    → n + count_rows (packed n ps) ≤ suc (nodes t) → nodes t ≤ 65535 → suc root ≡ n + count_rows (packed n ps) → Packable ps
    → Packs (view_from t root) n (count_rows (packed n ps)) ps
unfolding packed count_rows
packs t n root ps pre post e a b c d z f =
    let xs = bottom ps in
    let v = view_from t root in
    let w = rows-standing t root 0 n (xs ∷ rows_above 15 n xs) pre post e a b (bottom-writable ps f.recordings, rows-writable 15 n xs b) in
    let ls = numbers n (length xs) in
    let base = bottom-stack v n ps b (omega arith) w.0 f.rise in
    let g = climb v n 15 ls 15 0 n root xs ls (omega arith) (omega arith) (omega arith) b (omega arith) w.0 w.1
    (unfold bottom in omega arith) (omega (arith, takes-enough)) base (numbers-each n (length xs)) in
    grown-packs v n _ ls ps (sym z) g (row-slots v 0 n xs w.0 ∙ bottom-slots ps) f.recordings
