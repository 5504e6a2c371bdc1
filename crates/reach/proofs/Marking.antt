-- Marked nodes are reached: nodes more, and the ways of a reached inner node.
use Rattle.std.proofs.Common.{◌≡◌, ℕ, zero, suc, ◌+◌, ◌-◌, ◌*◌, ◌/◌, ◌<◌, ◌≤◌, Bool, true, false, cond, ◌||◌, eqb, ◌≢◌, ◌⊎◌, List, [], ◌∷◌}
use Rattle.std.proofs.Common.{◌++◌, length, get_or, take, drop, replicate, sym, refl, ap, ◌∙◌, ⊎_elim, add-one, arith, drop_of_length-le}
use Rattle.std.proofs.Common.{drop-cons, eq-eqb, ne_eqb}
use mathlib.Core.Bool.{false≢true}
use mathlib.Core.List.{Memᴰ}
use lib.ListN.{length-replicate}
use lib.Seq.{set_out}
use Rattle.model.specs.Table.{Words, at, root}
use Rattle.model.specs.Slots.{View, node_view, view_from, view_of, view}
use Rattle.model.specs.Reached.{pointers, named, next_child, children, reached, reached_all}
use Rattle.model.specs.SoundTest.{elem, sound}
use Rattle.list_laws.proofs.Tools.{Each, same-or-not, compared, or-right}
use Rattle.list_laws.proofs.Members.{mem-each, elem-iff}
use Rattle.view_laws.proofs.AnyRoot.{any-kept}
use Rattle.tree_laws.proofs.Rows.{children-inner, fill-mem}
use Rattle.tree_laws.proofs.Levels.{Orderly}
use Rattle.tree_laws.proofs.Parents.{child-reached}
use Rattle.two_laws.proofs.SameTwo.{first-there, second-there}
use Rattle.two_laws.proofs.CollectionTwo.{collection-orderly, elem-alone, elem-beside}
use Rattle.node.specs.Word.{word_of}
use Rattle.node.proofs.WordLaws.{word-level}
use Rattle.walk_laws.specs.Walk.{ways}
use Rattle.slots.specs.declared.ways.Ways.{Ways}
use Rattle.slots.specs.Gathered.{span, slots_in}
use Rattle.bits.specs.Bits.{put}
use Rattle.bits.proofs.Marks.{has-put-other, none-marked}
use Rattle.reach.specs.Marks.{MARKS, Taken, AllTaken, Marked, put_all, named_by}

-- ---- marks

-- a number past the marks gets none
pub put-out : (ws : Words) (n : ℕ) → 64 * length ws ≤ n → ws ≡ put ws n
unfolding put
put-out ws n h = sym (set_out ws (n / 64) _ (omega arith))

put-inside : (t ws : Words) (n : ℕ) → n < 64 * length ws → AllTaken t ws → Taken t n → AllTaken t (put ws n)
put-inside t ws n h a k m e = ⊎_elim (λ q. rw q k) (λ q. a m (sym (has-put-other ws n m h q) ∙ e)) (same-or-not m n)

pub put-taken : (t ws : Words) (n : ℕ) → AllTaken t ws → Taken t n → AllTaken t (put ws n)
put-taken t ws n a k =
    let past : ((n ≡ 64 * length ws) ⊎ (64 * length ws < n)) → 64 * length ws ≤ n =
    ⊎_elim (λ (e : n ≡ 64 * length ws). omega arith) (λ (g : 64 * length ws < n). omega arith) in
    ⊎_elim (λ h. put-inside t ws n h a k) (λ o. rw (sym (put-out ws n (past o))) a) (compared n (64 * length ws))

pub put_all-append : (ms ns : List ℕ) (ws : Words) → put_all (ms ++ ns) ws ≡ put_all ns (put_all ms ws)
unfolding put_all
put_all-append [] ns ws = refl
put_all-append (m ∷ ms) ns ws = put_all-append ms ns (put ws m)

pub put_all-taken : (t : Words) (ns : List ℕ) (ws : Words) → Each (Taken t) ns → AllTaken t ws → AllTaken t (put_all ns ws)
unfolding put_all
put_all-taken t [] ws k a = a
put_all-taken t (n ∷ ns) ws k a = put_all-taken t ns (put ws n) k.1 (put-taken t ws n a k.0)

-- marks of zeros mark no node
pub none-taken : (t : Words) → Marked t (replicate MARKS 0)
none-taken t = (length-replicate {A = ℕ} MARKS 0, λ m e. absurd (false≢true (sym (none-marked MARKS m) ∙ e)))

-- they serve a table that reaches the same nodes and others
pub stays-marked : (t u marks : Words) → ((n : ℕ) → Taken t n → Taken u n) → Marked t marks → Marked u marks
stays-marked t u marks f m = (m.0, λ n e. f n (m.1 n e))

-- ---- children of a reached inner node are reached

-- in one tree
named-reached : (v : View) (n c : ℕ) → Orderly v → (v.node n).level ≢ 0 → elem n (reached v) ≡ true → Memᴰ c (named v n)
    → elem c (reached v) ≡ true
named-reached v n c o z e m =
    let d : (v.node n).level ≡ suc ((v.node n).level - 1) = omega arith in
    let k : Memᴰ c (children v n) = rw (children-inner v ((v.node n).level - 1) n d) (fill-mem v (next_child v n) m) in
    (elem-iff c (reached v)).1 (child-reached v n c o ((elem-iff n (reached v)).0 e) k)

-- named by node n, as it is read
abbrev pub Named : Words → (n c : ℕ) → Type 0
Named t n c = Memᴰ c (named (view t) n)

module _ (t : Words) (s : sound t ≡ true) (n c : ℕ) (z : (node_view t n).level ≢ 0) (m : Named t n c) where
  any-named : (r : ℕ) → Memᴰ c (named (view_from t r) n)
  any-named r = rw (any-kept t r (root t) n) m

  in-tree : (k : ℕ) → Orderly (view_of k t) → elem n (reached (view_of k t)) ≡ true → elem c (reached (view_of k t)) ≡ true
  in-tree k o e = named-reached (view_of k t) n c o z e (any-named _)

  alone : at t 3 ≡ 0 → Taken t n → Taken t c
  alone y e = elem-alone t y c ∙ in-tree 1 (collection-orderly 1 t s (first-there t)) (sym (elem-alone t y n) ∙ e)

  beside : at t 3 ≢ 0 → Taken t n → Taken t c
  beside y e =
      elem-beside t y c ∙ go (elem n (reached (view_of 1 t))) (elem n (reached (view_of 2 t))) refl refl (sym (elem-beside t y n) ∙ e)
    where
      go : (a b : Bool) → elem n (reached (view_of 1 t)) ≡ a → elem n (reached (view_of 2 t)) ≡ b → (a || b) ≡ true
          → (elem c (reached (view_of 1 t)) || elem c (reached (view_of 2 t))) ≡ true
      go true b p q h = rw (in-tree 1 (collection-orderly 1 t s (first-there t)) p)
      go false true p q h =
          or-right (elem c (reached (view_of 1 t))) (elem c (reached (view_of 2 t)))
          (in-tree 2 (collection-orderly 2 t s (second-there t y)) q)
      go false false p q h = absurd (false≢true h)

  pub named-taken : Taken t n → Taken t c
  named-taken e = ⊎_elim (λ y. alone y e) (λ y. beside y e) (same-or-not (at t 3) 0)

-- whatever a node names that is reached and no leaf
pub named-by-taken : (t : Words) (n : ℕ) → sound t ≡ true → Each (Taken t) (named_by t n)
unfolding named_by
named-by-taken t n s = go (eqb (node_view t n).level 0) (elem n (reached_all t)) refl refl
  where
    go : (a b : Bool) → eqb (node_view t n).level 0 ≡ a → elem n (reached_all t) ≡ b
        → Each (Taken t) (cond a [] (cond b (named (view t) n) []))
    go true b p q = tt
    go false false p q = tt
    go false true p q =
        mem-each (Taken t) (named (view t) n) (λ c m. named-taken t s n c (λ z. false≢true (sym p ∙ eq-eqb (node_view t n).level 0 z)) m q)

-- ---- the ways as they are read

-- the numbers that the ways from i on lead to, m of them
ways-taken : (ks ps : Words) (i m : ℕ) → i + m ≤ length ps → pointers (span ks ps i m) ≡ take m (drop i ps)
unfolding span
ways-taken ks ps i zero h = refl
ways-taken ks ps i (suc m) h =
    rw (drop-cons ps i 0 (omega arith)) (ap (λ (ns : List ℕ). get_or ps i 0 ∷ ns) (ways-taken ks ps (suc i) m (omega arith)))

pub pointers-taken : (w : Ways) → w.count ≤ length w.pointers → pointers (slots_in w) ≡ take w.count w.pointers
pointers-taken w h = ways-taken w.keys w.pointers 0 w.count (omega arith)

pub put_all-more : (ns : List ℕ) (i : ℕ) (ws : Words) → i < length ns → put_all (drop (i + 1) ns) (put ws (get_or ns i 0))
    ≡ put_all (drop i ns) ws
unfolding put_all
put_all-more ns i ws h = rw (add-one i, drop-cons ns i 0 h)

pub put_all-end : (ns : List ℕ) (i : ℕ) (ws : Words) → length ns ≤ i → ws ≡ put_all (drop i ns) ws
unfolding put_all
put_all-end ns i ws h = rw (drop_of_length-le ns h)

-- ---- the children of a node, by the tests in the order of the code

module _ (t : Words) (n l : ℕ) (q : l ≡ word_of t n 2) (ws : Words) where
  pub leaf-names-none : l ≡ 0 → ws ≡ put_all (named_by t n) ws
  unfolding named_by put_all
  leaf-names-none z = rw (eq-eqb (node_view t n).level 0 (sym (word-level t n) ∙ sym q ∙ z))

  module _ (z : l ≢ 0) where
    inner-level : eqb (node_view t n).level 0 ≡ false
    inner-level = ne_eqb (node_view t n).level 0 (λ y. z (q ∙ word-level t n ∙ y))

    pub unreached-names-none : elem n (reached_all t) ≡ false → ws ≡ put_all (named_by t n) ws
    unfolding named_by put_all
    unreached-names-none e = rw (inner-level, e)

    names-all : Taken t n → named_by t n ≡ named (view t) n
    unfolding named_by
    names-all e = rw (inner-level, e)

    pub ways-named : (w : Ways) → slots_in w ≡ ways (view t) n → Taken t n → (after : Words) → after ≡ put_all (pointers (slots_in w)) ws
        → after ≡ put_all (named_by t n) ws
    ways-named w is e after p = p ∙ ap (λ (ns : List ℕ). put_all ns ws) (ap pointers is ∙ sym (names-all e))
