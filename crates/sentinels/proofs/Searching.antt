-- The search that takes the words, by the tests in the order of the code.
use Rattle.std.proofs.Common.{◌≡◌, ℕ, zero, suc, ◌+◌, ◌-◌, ◌*◌, ◌<◌, ◌≤◌, Bool, true, false, cond, not, eqb, ltb, leb, ◌≢◌, List, [], ◌∷◌}
use Rattle.std.proofs.Common.{reverse, length, sym, refl, ap, ◌∙◌, subst, arith}
use mathlib.Core.Option.{Option, none, some}
use denote.Param.Members.{Mut}
use Rattle.std.specs.Iterator.{YieldsThen}
use Rattle.std.specs.Fn.{Called}
use Rattle.std.specs.List.{FoldsTo, position_or_len}
use Rattle.std.specs.Option.{MatchOption, IsSomeAnd}
use Rattle.std.proofs.lemmas.Iterator.{YieldsList}
use Rattle.std.proofs.lemmas.Iterator.Search.{position_from_yields_List}
use Rattle.std.specs.Prelude as rust
use Rattle.std.specs.Bool.{then_some}
use Rattle.std.specs.Prelude.{Result, Some, None, Ok, Err, ok_or}
use Rattle.model.specs.declared.Refusal.{Refusal}
use Rattle.model.specs.declared.Refusal.TheVariants.{SearchLost}
use Rattle.model.specs.Numbers.{refusal_number}
use Rattle.model.proofs.Numbers.{Numbered, slice-numbered, handed-number, failed-some, failed-with, passed-zero}
use Rattle.model.specs.Results.{passed}
use Rattle.model.specs.declared.Answer.{Answer}
use Rattle.model.specs.declared.Answer.TheVariants.{Refused}
use Rattle.model.specs.declared.Node.{Node}
use Rattle.model.specs.Table.{Words, at, nodes, root, root_word, no_collection, node, has_node, header_ok}
use Rattle.model.specs.Slots.{Slot, View, view, view_of, height, node_view}
use Rattle.model.specs.Search.{on_level, passes, locate, first_with, next_from, answer_of, answer_in, search_view, search}
use Rattle.model.specs.Sentinels.{slice_number, line_for, on_line, led_to, leaf_sought, search_with, words_of, shown_on}
use Rattle.list_laws.proofs.Tools.{and-iff}
use Rattle.table_laws.proofs.Nodes.{has-node-range}
use Rattle.tree_laws.proofs.Rows.{range-iff}
use Rattle.sentinel_laws.proofs.Searches.{with-tree, plain-tree}
use Rattle.slots.specs.Held.{held_by}
use Rattle.slots.specs.Scan.{shown_from}
use Rattle.node.specs.Word.{root_in, number_in, found_root, words_at, word_of}
use Rattle.node.proofs.Roots.{found-there, found-ok, found-err}
use Rattle.search.specs.declared.Stood.{Stood}
use Rattle.search.specs.Descent.{seen_in, read_if, stand_on, locate_from, answer_held, found}
use Rattle.search.proofs.Standing.{Stands, held-read, held-answer, any-within, within-in, within-high, within-on, by-root, stands-on}
use Rattle.search.proofs.Standing.{stands-off-on}
use Rattle.search.proofs.Standing.{got-some, level-out, level-in, locate-leaf, locate-passed, locate-failed, stand-some, stand-none}
use Rattle.search.proofs.Standing.{pass-off, not-read, level-read}
use Rattle.sentinels.proofs.Refusing.{length_number, length-is, rest-number, collection-number}
use Rattle.sentinels.proofs.Reading.{line-is}
use Rattle.node.proofs.WordLaws.{word-level, word-fence}
use Rattle.sentinels.specs.Lines.{line_of, as_option}

-- ---- the line

-- Where a walk from the end stops, by the place in the list of what it yields.
module _ {S A F : Type 0} {steps : S → rust.Option A → S → Type 0} {v : A → ℕ} {g : Mut F (A × Unit {0}) Bool} {s : S} {all : List ℕ}
    (test : ℕ → Bool) (u : S) (f : F) where
  pub back-found : (n : ℕ) (r : rust.Option ℕ)
      → (xs : List A) × (o : rust.Option A) × (j : F) × YieldsThen steps s xs o u × FoldsTo (λ p x q. Called g p (x, tt) false q) f xs j
      × MatchOption o (r ≡ None) (λ x. IsSomeAnd r (λ i. i + 1 + length xs ≡ n) × ((h : F) × Called g j (x, tt) true h))
      → YieldsList steps v s all → ((x : A) (b : Bool) (q : F) → Called g f (x, tt) b q → (q ≡ f) × (b ≡ test (v x)))
      → MatchOption (cond (ltb (position_or_len test all) (length all)) (Some (position_or_len test all)) None) (r ≡ None)
      (λ m. IsSomeAnd r (λ i. i + 1 + m ≡ n))
  back-found n r (xs, None, j, y, c, e) l k =
      subst (λ p. MatchOption p (r ≡ None) (λ m. IsSomeAnd r (λ i. i + 1 + m ≡ n)))
      (position_from_yields_List test u f None (xs, None, j, y, c, refl) l k) e
  back-found n r (xs, Some x, j, y, c, e) l k =
      subst (λ p. MatchOption p (r ≡ None) (λ m. IsSomeAnd r (λ i. i + 1 + m ≡ n)))
      (position_from_yields_List test u f (Some (length xs)) (xs, Some x, j, y, c, (refl, e.1)) l k) e.0

module _ (ws : Words) (k : ℕ) where
  pub few-lines : (j : ℕ) → as_option (line_for k ws) ≡ Some j → j ≤ 2
  unfolding line_for
  few-lines j = go (leb (at ws 2) k) (leb (at ws 1) k) (leb (at ws 0) k)
    where
      go : (x y u : Bool) → as_option (cond x (some 2) (cond y (some 1) (cond u (some 0) none))) ≡ Some j → j ≤ 2
      go true y u e = let q : 2 ≡ j = cc in omega (arith, q)
      go false true u e = let q : 1 ≡ j = cc in omega (arith, q)
      go false false true e = let q : 0 ≡ j = cc in omega (arith, q)
      go false false false e = cc

pub last-line : (k : ℕ) (ws : Words) (r : rust.Option ℕ) → length ws ≡ 3 → (n : ℕ) → n ≡ 3
    → MatchOption (cond (ltb (position_or_len (λ (w : ℕ). leb w k) (reverse ws)) (length (reverse ws)))
    (Some (position_or_len (λ (w : ℕ). leb w k) (reverse ws))) None)
    (r ≡ None) (λ m. IsSomeAnd r (λ i. i + 1 + m ≡ n))
    → r ≡ as_option (line_for k ws)
unfolding line_for
last-line k (a ∷ b ∷ c ∷ []) r l n e h = go r (leb c k) (leb b k) (leb a k) h
  where
    t : n ≡ 3
    t = e

    some-is : (r : rust.Option ℕ) (m j : ℕ) → j + 1 + m ≡ 3 → IsSomeAnd r (λ i. i + 1 + m ≡ n) → r ≡ Some j
    some-is None m j e h = absurd h
    some-is (Some i) m j e h = let p : i ≡ j = omega (arith, t, e, h) in ap Some p

    go : (r : rust.Option ℕ) (x y z : Bool)
        → MatchOption (cond (ltb (cond (not x) (1 + cond (not y) (1 + cond (not z) (1 + 0) 0) 0) 0) 3)
        (Some (cond (not x) (1 + cond (not y) (1 + cond (not z) (1 + 0) 0) 0) 0)) None)
        (r ≡ None) (λ m. IsSomeAnd r (λ i. i + 1 + m ≡ n))
        → r ≡ as_option (cond x (some 2) (cond y (some 1) (cond z (some 0) none)))
    go r true y z h = some-is r 0 2 refl h
    go r false true z h = some-is r 1 1 refl h
    go r false false true h = some-is r 2 0 refl h
    go r false false false h = h
last-line k [] r l n e h = absurd (omega (arith, l))
last-line k (a ∷ []) r l n e h = absurd (omega (arith, l))
last-line k (a ∷ b ∷ []) r l n e h = absurd (omega (arith, l))
last-line k (a ∷ b ∷ c ∷ d ∷ ws) r l n e h = absurd (omega (arith, l))

-- ---- the slot on it

pub on-some : (t : Words) (m : ℕ) → has_node t m ≡ true → (k j : ℕ) (o : Option ℕ) (vs : Words) (r : rust.Option ℕ) → as_option o ≡ Some j
    → vs ≡ words_at t m → r ≡ held_by (first_with k (line_of vs (4 * j)))
    → r ≡ held_by (on_line t m k o)
on-some t m h k j none vs r q e u = cc
on-some t m h k j (some i) vs r q e u = let p : i ≡ j =
    cc in u ∙ ap (λ (ss : List Slot). held_by (first_with k ss)) (line-is t m h j vs e ∙ ap (shown_on t m) (sym p))

pub on-none : (t : Words) (m k : ℕ) (o : Option ℕ) → as_option o ≡ None → None ≡ held_by (on_line t m k o)
on-none t m k none q = refl
on-none t m k (some i) q = cc

-- ---- where the search stands on level 0

pub stood-on : (v : View) (l n k m : ℕ) → Stands v l n k m → Some m ≡ as_option (stand_on v l n k)
stood-on v l n k m s = sym (ap as_option (stands-on v l n k m s))

pub stood-lost : (v : View) (l n k : ℕ) → passes v l n ≡ false → None ≡ as_option (stand_on v l n k)
stood-lost v l n k e = sym (ap as_option (stands-off-on v l n k e))

-- the fence of the sibling, which is all that is read of it there
pub fence-out : (t : Words) (l n : ℕ) → header_ok t ≡ true → has_node t n ≡ false → None
    ≡ then_some (on_level (view t) l n) (node t n).fence
fence-out t l n h e = rw (level-out t l n h e)

pub fence-in : (t : Words) (l n : ℕ) → header_ok t ≡ true → has_node t n ≡ true → (level fence : ℕ) → level
    ≡ word_of t n 2 → fence ≡ word_of t n 3
    → then_some (eqb level l) fence ≡ then_some (on_level (view t) l n) (node t n).fence
fence-in t l n h e level fence p q =
    let u = p ∙ word-level t n in
    let w = q ∙ word-fence t n in
    (λ i. then_some (eqb (u i) l) (w i)) ∙ ap (λ (b : Bool). then_some b (node t n).fence) (level-in t l n (node t n) h e refl)

pub no-fence : (b : Bool) (x : Node) → then_some b x.fence ≡ None → read_if b x ≡ None
no-fence true x e = cc
no-fence false x e = refl

pub some-fence : (b : Bool) (x : Node) (f : ℕ) → then_some b x.fence ≡ Some f → (read_if b x ≡ Some x) × (f ≡ x.fence)
some-fence true x f e = (refl, cc)
some-fence false x f e = cc

-- ---- the way down to it: s on the way, with so many levels below it

pub leaf-lost : (o : Option ℕ) → o ≡ none → None ≡ as_option o
leaf-lost o e = sym (ap as_option e)

-- a leaf as the root
pub root-leaf : (v : View) (l n k : ℕ) (r : rust.Option ℕ) (o : Option ℕ) → l ≡ 0 → r ≡ as_option (stand_on v l n k)
    → locate v l n k ≡ o → r ≡ as_option o
root-leaf v l n k r o z e f = rw z at e ∙ ap as_option (locate-leaf v n k ∙ (rw z at f))

module _ (v : View) (k levels n : ℕ) (s : Stood) (r : Option ℕ) (some-left : 0 < levels) where
  steps : suc (levels - 1) ≡ levels
  steps = omega arith

  -- coming to n above the leaves
  pub steps-down : (o : rust.Option Stood) → o ≡ seen_in v k (stand_on v levels n k) → o ≡ Some s → locate v levels n k ≡ r
      → locate v (levels - 1) s.way k ≡ r
  steps-down o e z f =
      let u = stand-some v levels n k s (sym e ∙ z) in
      ap (λ (x : Stood). locate v (levels - 1) x.way k) u.1
      ∙ sym (locate-passed v (levels - 1) n k (rw (← steps) at u.0)) ∙ ap (λ (l : ℕ). locate v l n k) steps ∙ f

pub steps-lost : (v : View) (k levels n : ℕ) (r : Option ℕ) (o : rust.Option Stood) → o ≡ seen_in v k (stand_on v levels n k) → o ≡ None
    → locate v levels n k ≡ r → None ≡ as_option r
steps-lost v k levels n r o e z f = sym (ap as_option (sym f ∙ locate-failed v levels n k (stand-none v levels n k (sym e ∙ z))))

-- coming to n on level 0, which is l
module _ (t : Words) (k l n : ℕ) (r : Option ℕ) (zero-left : l ≡ 0) (inv : locate (view t) l n k ≡ r) where
  pub last-lost : read_if (on_level (view t) 0 n) (node t n) ≡ None → None ≡ as_option r
  last-lost e =
      let off = pass-off (view t) 0 n (not-read (on_level (view t) 0 n) (node t n) e) in
      sym (ap as_option (sym inv ∙ ap (λ (m : ℕ). locate (view t) m n k) zero-left ∙ locate-failed (view t) 0 n k off))

  pub last-leaf : (y : Node) (o : rust.Option ℕ) → read_if (on_level (view t) 0 n) (node t n) ≡ Some y → o
      ≡ as_option (stand_on (view t) y.level n k) → o ≡ as_option r
  last-leaf y o e f =
      let z = level-read t 0 n y e in
      root-leaf (view t) y.level n k o r z f (ap (λ (m : ℕ). locate (view t) m n k) (z ∙ sym zero-left) ∙ inv)

-- ---- the leaf

module _ (t : Words) (m : ℕ) (h : header_ok t ≡ true) (on : on_level (view t) 0 m ≡ true) where
  in-range : (1 ≤ m) × (m ≤ nodes t)
  unfolding on_level
  in-range = (range-iff (nodes t) m).0 ((and-iff _ _).0 on).0

  leaf-has : has_node t m ≡ true
  unfolding on_level
  leaf-has = has-node-range t m h ∙ ((and-iff _ _).0 on).0

  -- its words lie in the slice
  leaf-fits : (ws : Words) → length ws ≡ 3 * nodes t → (1 ≤ m) × (3 * m ≤ length ws)
  leaf-fits ws l = (in-range.0, omega (arith, in-range.1))

  -- what the whole of it answers
  pub whole-answer : (k : ℕ) (x : Node) (held : rust.Option ℕ) (r : Answer) → x ≡ node t m → held
      ≡ held_by (first_with k (shown_from x.left x.slots 0)) → r ≡ answer_held held (next_from (view t) (nodes t) m k)
      → r ≡ answer_in (view t) k (some m)
  whole-answer k x held r q h u =
      u ∙ ap (λ (p : rust.Option ℕ). answer_held p (next_from (view t) (nodes t) m k)) (held-read t m k x held q h)
      ∙ held-answer (first_with k (node_view t m).shown) (next_from (view t) (nodes t) m k)

-- ---- the whole search

refused-with : (n : ℕ) (ws t : Words) (k x : ℕ) → x ≡ slice_number (no_collection n t) (length ws) t → x ≢ 0
    → Refused x ≡ search_with n ws t k
unfolding search_with
refused-with n ws t k x e z = go x e z
  where
    go : (y : ℕ) → y ≡ slice_number (no_collection n t) (length ws) t → y ≢ 0 → Refused y ≡ search_with n ws t k
    go zero q u = absurd (u refl)
    go (suc y) q u = rw (← q)

pub with-bad : (n : ℕ) (ws t : Words) (k x : ℕ) (r : Refusal) → found_root n t ≡ Err r → x ≡ refusal_number r
    → Refused x ≡ search_with n ws t k
with-bad n ws t k x r e q =
    let f = found-err {T = ℕ} n t e in
    let same = collection-number n (length ws) t f.0 in
    let y : x ≡ number_in n t =
    q ∙ handed-number (number_in n t) f.0 f.1 (subst (λ (m : ℕ). Numbered m) same (slice-numbered (no_collection n t) (length ws) t)) in
    refused-with n ws t k x (y ∙ sym same) (λ z. f.0 (sym y ∙ z))

pub with-wrong : (n : ℕ) (ws t : Words) (k : ℕ) {r : ℕ} {b : Refusal} → found_root n t ≡ Ok r → passed (length_number (length ws) t) ≡ Err b
    → Refused (refusal_number b) ≡ search_with n ws t k
with-wrong n ws t k f g =
    let u = found-there n t f in
    let z = failed-some (length_number (length ws) t) g in
    let m = slice_number (no_collection n t) (length ws) t in
    let same = rest-number (no_collection n t) (length ws) t u.0 u.1 in
    let y = handed-number (length_number (length ws) t) z (failed-with {T = Unit {0}} _ g)
    (subst (λ (i : ℕ). Numbered i) same (slice-numbered (no_collection n t) (length ws) t)) in
    refused-with n ws t k _ (y ∙ sym same) (λ q. z (sym y ∙ q))

leaf-within : (v : View) (k : ℕ) → leaf_sought v k ≡ locate_from v v.root k
unfolding leaf_sought
leaf-within v k = go (leb (height v) 15) refl
  where
    go : (c : Bool) → leb (height v) 15 ≡ c → leaf_sought v k ≡ locate_from v v.root k
    go true c = rw (c, leaf_sought) (sym (within-in v v.root k c))
    go false c = rw (c, leaf_sought) (sym (within-high v v.root k c))

-- no slot in use has pointer 0
no-slot : (o : Option Slot) → held_by o ≡ None → o ≡ none
no-slot none e = refl
no-slot (some s) e = cc

as-none : (o : Option ℕ) → as_option o ≡ None → o ≡ none
as-none none e = refl
as-none (some m) e = cc

as-some : (o : Option ℕ) (m : ℕ) → as_option o ≡ Some m → o ≡ some m
as-some none m e = cc
as-some (some n) m e = let p : n ≡ m = cc in ap some p

module _ (n : ℕ) (ws t : Words) (k r : ℕ) (f : found_root n t ≡ Ok r) {u : Unit {0}} (g : passed (length_number (length ws) t) ≡ Ok u) where
  abbrev v : View
  v = view_of n t

  abbrev sought : Option ℕ
  sought = locate_from (view t) r k

  e : r ≡ root_in n t
  e = (found-ok n t f).0

  z : r ≢ 0
  z = (found-ok n t f).1

  there : (header_ok t ≡ true) × (no_collection n t ≡ false) × (r ≡ at t (root_word n))
  there = found-there n t f

  long : length ws ≡ 3 * nodes t
  long = length-is (length ws) t (passed-zero (length_number (length ws) t) g)

  with-led : search_with n ws t k ≡ answer_of (led_to ws t k (leaf_sought v k)) (search_view v k)
  with-led = with-tree n ws t k long there.0 there.1

  plain : search n t k ≡ search_view v k
  plain = plain-tree n ws t k long there.0 there.1

  same-leaf : leaf_sought v k ≡ sought
  same-leaf = leaf-within v k ∙ sym (any-within t (root t) v.root r k ∙ ap (λ (i : ℕ). locate_from v i k) there.2)

  pub with-lost : as_option sought ≡ None → Refused 3 ≡ search_with n ws t k
  with-lost y =
      let none-there = as-none sought y in
      ap (answer_in (view t) k) (sym none-there) ∙ by-root n t k r e z ∙ plain
      ∙ sym (with-led ∙ ap (λ (o : Option ℕ). answer_of (led_to ws t k o) (search_view v k)) (same-leaf ∙ none-there))

  -- a leaf that was come to: it is one, and its words lie in the slice
  pub record Came (leaf : ℕ) : Type 0 where
    pub there : as_option sought ≡ Some leaf
    pub on : on_level (view t) 0 leaf ≡ true
    pub has : has_node t leaf ≡ true
    pub fits : (1 ≤ leaf) × (3 * leaf ≤ length ws)

  -- as the code has it
  pub leaf-came : {o : rust.Option ℕ} {q : Result ℕ Refusal} {leaf : ℕ} → o ≡ as_option sought → q ≡ ok_or o SearchLost
      → q ≡ Ok leaf → Came leaf
  leaf-came {o} {q} {leaf} e h y =
      let l = sym e ∙ got-some o (sym h ∙ y) in
      let on = within-on (view t) r k leaf (as-some sought leaf l) in
      record { there = l; on = on; has = leaf-has t leaf there.0 on; fits = leaf-fits t leaf there.0 on ws long }

  module _ (leaf : ℕ) (l : as_option sought ≡ Some leaf) where
    here : sought ≡ some leaf
    here = as-some sought leaf l

    -- the slot that the words lead to
    abbrev led : Option Slot
    led = on_line t leaf k (line_for k (words_of ws leaf))

    with-slot : search_with n ws t k ≡ answer_of (on_line t leaf k (line_for k (words_of ws leaf))) (search_view v k)
    with-slot = with-led ∙ ap (λ (o : Option ℕ). answer_of (led_to ws t k o) (search_view v k)) (same-leaf ∙ here)

    pub with-held : (held : ℕ) (x : Answer) → held_by (on_line t leaf k (line_for k (words_of ws leaf))) ≡ Some held → x ≡ found held
        → x ≡ search_with n ws t k
    with-held held x q f = f ∙ go led refl ∙ sym with-slot
      where
        go : (o : Option Slot) → led ≡ o → found held ≡ answer_of led (search_view v k)
        go none d = let z : None ≡ Some held = sym (ap held_by d) ∙ q in cc
        go (some s) d =
            let y : Some s.pointer ≡ Some held = sym (ap held_by d) ∙ q in
            let p : held ≡ s.pointer = cc in
            ap found p ∙ sym (ap (λ (o : Option Slot). answer_of o (search_view v k)) d)

    pub with-whole : (x : Answer) → held_by (on_line t leaf k (line_for k (words_of ws leaf))) ≡ None → x ≡ answer_in (view t) k (some leaf)
        → x ≡ search_with n ws t k
    with-whole x q g =
        g ∙ ap (answer_in (view t) k) (sym here) ∙ by-root n t k r e z ∙ plain
        ∙ sym (with-slot ∙ ap (λ (o : Option Slot). answer_of o (search_view v k)) (no-slot _ q))
