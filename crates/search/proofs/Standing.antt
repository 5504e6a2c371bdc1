-- Where a search stands on a level, by the tests in the order of the code, and what it answers from there.
use Rattle.std.proofs.Common.{◌≡◌, ℕ, zero, suc, ◌-◌, ◌<◌, ◌≤◌, Bool, true, false, cond, not, ◌&&◌, ◌||◌, eqb, ltb, leb, ◌≢◌, List, [], ◌∷◌}
use Rattle.std.proofs.Common.{length, sym, refl, ap, ◌∙◌, subst, inl, arith, le-ltb, lt-ltb, eq-eqb, ne_eqb, eqb-true}
use mathlib.Core.Bool.{false≢true}
use mathlib.Core.Option.{Option, none, some, some-injective, none-ne-some}
use Rattle.std.specs.Prelude as rust
use Rattle.std.specs.Prelude.{Some, None, Ok, Err, ok_or}
use Rattle.std.specs.Bool.{then_some}
use Rattle.model.specs.declared.Refusal.{Refusal}
use Rattle.model.specs.declared.Refusal.TheVariants.{NoTable, NoCollection, SearchLost}
use Rattle.model.specs.Numbers.{refusal_number}
use Rattle.model.specs.declared.Answer.{Answer}
use Rattle.model.specs.declared.Answer.TheVariants.{Refused}
use Rattle.model.specs.declared.Node.{Node}
use Rattle.model.specs.Table.{Words, in_range, header_ok, has_node, node, at, nodes, root, root_word, no_collection}
use Rattle.model.specs.Slots.{Slot, View, node_view, view_from, view, height, used}
use Rattle.model.specs.Search.{below, moved, route, down, on_level, passes, locate, first_with, next_from, answer_of, answer_in}
use Rattle.model.specs.Search.{search_view, search}
use Rattle.model.proofs.Numbers.{Numbered, numbered, handed-number}
use Rattle.list_laws.proofs.Tools.{Each, and-iff}
use Rattle.list_laws.proofs.Slots.{each-shown, in-use-some}
use Rattle.table_laws.proofs.Header.{header-iff}
use Rattle.table_laws.proofs.Nodes.{has-node-range}
use Rattle.view_laws.proofs.AnyRoot.{any-locate, any-answer}
use Rattle.node.specs.Word.{root_in, number_in, found_root}
use Rattle.node.proofs.Roots.{root-there, found-err}
use Rattle.slots.specs.Scan.{shown_from}
use Rattle.slots.specs.Held.{pointer_in, held_by}
use Rattle.search.specs.Descent.{looked_at, seen_of, seen_in, read_if, stand_on, locate_from, answer_held}
use Rattle.search.specs.declared.Stood.{Stood}

-- a table with a right header has at least 40 words
pub header-words : (t : Words) → header_ok t ≡ true → 40 ≤ length t
header-words t h = let f = (header-iff t).0 h in omega (arith, f.size.long, f.size.some)

-- ---- on_level, from the record

-- a number that no node has is on no level
pub level-out : (t : Words) (l n : ℕ) → header_ok t ≡ true → has_node t n ≡ false → on_level (view t) l n ≡ false
unfolding on_level
level-out t l n h e = rw (sym (has-node-range t n h) ∙ e)

-- a node of the table is on level l exactly if its level word is l
pub level-in : (t : Words) (l n : ℕ) (x : Node) → header_ok t ≡ true → has_node t n ≡ true → x ≡ node t n
    → eqb x.level l ≡ on_level (view t) l n
unfolding on_level
level-in t l n x h e q = rw (sym (has-node-range t n h) ∙ e, q)

-- ---- a node that is read, if a test passes

pub by-test : (b : Bool) (x : Node) → then_some b x ≡ read_if b x
by-test true x = refl
by-test false x = refl

-- if a node is not read, its test failed
pub not-read : (b : Bool) (x : Node) → read_if b x ≡ None → b ≡ false
not-read true x e = cc
not-read false x e = refl

pub was-read : (b : Bool) (x y : Node) → read_if b x ≡ Some y → (b ≡ true) × (y ≡ x)
was-read true x y e = (refl, cc)
was-read false x y e = cc

pub read-out : (t : Words) (l n : ℕ) → header_ok t ≡ true → has_node t n ≡ false → None ≡ read_if (on_level (view t) l n) (node t n)
read-out t l n h e = rw (level-out t l n h e)

pub read-in : (t : Words) (l n : ℕ) (x : Node) (r : rust.Option Node) → header_ok t ≡ true → has_node t n ≡ true → x ≡ node t n → r
    ≡ then_some (eqb x.level l) x
    → r ≡ read_if (on_level (view t) l n) (node t n)
read-in t l n x r h e q d =
    d ∙ by-test (eqb x.level l) x ∙ ap (λ (b : Bool). read_if b x) (level-in t l n x h e q) ∙ ap (read_if (on_level (view t) l n)) q

-- a search that a test failed for is refused with 3
pub got-none : {T : Type 0} (o : rust.Option T) {e : Refusal} → ok_or o SearchLost ≡ Err e → (o ≡ None)
    × (Refused (refusal_number e) ≡ Refused 3)
got-none None h = let p : SearchLost ≡ _ = cc in (refl, ap (λ (e : Refusal). Refused (refusal_number e)) (sym p))
got-none (Some x) h = cc

-- if a value comes of an option, the option had it
pub got-some : {T : Type 0} (o : rust.Option T) {x : T} → ok_or o SearchLost ≡ Ok x → o ≡ Some x
got-some None h = cc
got-some (Some y) h = cc

-- x is node n on level l
module _ (t : Words) (l n : ℕ) (x : Node) (e : read_if (on_level (view t) l n) (node t n) ≡ Some x) where
  -- a node that is read after the test for level l has level l
  pub level-read : x.level ≡ l
  unfolding on_level
  level-read =
      let u = was-read (on_level (view t) l n) (node t n) x e in
      ap (λ (y : Node). y.level) u.1 ∙ eqb-true _ _ ((and-iff (in_range (nodes t) n) _).0 u.0).1

  -- a node that is read after the test for its level is on its own level
  pub come-on : on_level (view t) x.level n ≡ true
  come-on = rw level-read (was-read (on_level (view t) l n) (node t n) x e).0

-- ---- passes and moved, by the tests in the order of the code

-- coming to n on level l, a search for k stands on m
pub record Stands (v : View) (l n k m : ℕ) : Type 0 where
  pub passed : passes v l n ≡ true
  pub on : moved v n k ≡ m

-- a node that is not on the level does not pass
pub pass-off : (v : View) (l n : ℕ) → on_level v l n ≡ false → passes v l n ≡ false
unfolding passes
pass-off v l n e = rw e

module _ (v : View) (l n k : ℕ) (on : on_level v l n ≡ true) where
  stand-last : (v.node n).sibling ≡ 0 → Stands v l n k n
  unfolding passes below moved
  stand-last e = let b = eq-eqb (v.node n).sibling 0 e in record { passed = rw (on, b); on = rw (b, moved) }

  module _ (z : (v.node n).sibling ≡ 0 → ⊥) where
    lost-sibling : on_level v l (v.node n).sibling ≡ false → passes v l n ≡ false
    unfolding passes
    lost-sibling e = rw (on, ne_eqb (v.node n).sibling 0 z, e)

    stand-here : on_level v l (v.node n).sibling ≡ true → k < (v.node (v.node n).sibling).fence → Stands v l n k n
    unfolding passes below moved
    stand-here e h =
        let b = ne_eqb (v.node n).sibling 0 z in
        record { passed = rw (on, b, e); on = rw (b, lt-ltb k (v.node (v.node n).sibling).fence h, moved) }

    stand-right : on_level v l (v.node n).sibling ≡ true → (v.node (v.node n).sibling).fence ≤ k → Stands v l n k (v.node n).sibling
    unfolding passes below moved
    stand-right e h =
        let b = ne_eqb (v.node n).sibling 0 z in
        record { passed = rw (on, b, e); on = rw (b, le-ltb k (v.node (v.node n).sibling).fence h, moved) }

-- ---- the same, from what the code has read: x is node n, y its sibling

module _ (t : Words) (l n k : ℕ) (x : Node) (q : x ≡ node t n) (on : on_level (view t) l n ≡ true) where
  sib : x.sibling ≡ (node t n).sibling
  sib = ap (λ (w : Node). w.sibling) q

  -- a search that comes to a node without a sibling stands on it
  pub stands-last : x.sibling ≡ 0 → Stands (view t) l n k n
  stands-last z = stand-last (view t) l n k on (sym sib ∙ z)

  module _ (z : x.sibling ≡ 0 → ⊥) (o : rust.Option Node) (i : o ≡ read_if (on_level (view t) l x.sibling) (node t x.sibling)) where
    w : (node t n).sibling ≡ 0 → ⊥
    w e = z (sib ∙ e)

    -- if the sibling is not on the level, the node does not pass
    pub stands-off : o ≡ None → passes (view t) l n ≡ false
    stands-off e = lost-sibling (view t) l n k on w (rw sib at (not-read _ (node t x.sibling) (sym i ∙ e)))

    module _ (y : Node) (e : o ≡ Some y) where
      pub sibling-is : y ≡ node t x.sibling
      sibling-is = (was-read (on_level (view t) l x.sibling) (node t x.sibling) y (sym i ∙ e)).1

      sibling-on : on_level (view t) l (node t n).sibling ≡ true
      sibling-on = rw sib at (was-read (on_level (view t) l x.sibling) (node t x.sibling) y (sym i ∙ e)).0

      bound : y.fence ≡ (node t (node t n).sibling).fence
      bound = ap (λ (u : Node). u.fence) sibling-is ∙ ap (λ (m : ℕ). (node t m).fence) sib

      -- a search for a key below the sibling's fence stands on the node itself
      pub stands-here : k < y.fence → Stands (view t) l n k n
      stands-here h = stand-here (view t) l n k on w sibling-on (subst (λ (u : ℕ). k < u) bound h)

      -- a search for a key from the sibling's fence up stands on the sibling
      pub stands-right : y.fence ≤ k → Stands (view t) l n k x.sibling
      stands-right h = rw sib (stand-right (view t) l n k on w sibling-on (subst (λ (u : ℕ). u ≤ k) bound h))

-- ---- what is seen of the node that it stands on

pub down-read : (t : Words) (m k : ℕ) (x : Node) (r : ℕ) → x ≡ node t m → r
    ≡ route k x.left (shown_from x.left x.slots 0) → r ≡ down (view t) m k
unfolding used
down-read t m k x r q h = h ∙ ap (λ (y : Node). route k y.left (shown_from y.left y.slots 0)) q

-- the pointer found for k among the words of a node is the one found among its shown slots
pub held-read : (t : Words) (m k : ℕ) (x : Node) (r : rust.Option ℕ) → x ≡ node t m → r
    ≡ held_by (first_with k (shown_from x.left x.slots 0)) → r ≡ held_by (first_with k (node_view t m).shown)
unfolding used
held-read t m k x r q h = h ∙ ap (λ (y : Node). held_by (first_with k (shown_from y.left y.slots 0))) q

-- no slot in use has pointer 0: so a pointer that is not 0 is one that was found
held-some : (k : ℕ) (ss : List Slot) → Each (λ (s : Slot). s.pointer ≢ 0) ss
    → then_some (not (eqb (pointer_in (first_with k ss)) 0)) (pointer_in (first_with k ss)) ≡ held_by (first_with k ss)
unfolding first_with
held-some k [] h = refl
held-some k (s ∷ ss) h = go (eqb s.key k) refl (held-some k ss h.1)
  where
    go : (b : Bool) → eqb s.key k ≡ b → then_some (not (eqb (pointer_in (first_with k ss)) 0)) (pointer_in (first_with k ss))
        ≡ held_by (first_with k ss)
        → then_some (not (eqb (pointer_in (first_with k (s ∷ ss))) 0)) (pointer_in (first_with k (s ∷ ss)))
        ≡ held_by (first_with k (s ∷ ss))
    go true e ih = rw (e, first_with) (rw (ne_eqb s.pointer 0 h.0))
    go false e ih = rw (e, first_with) ih

pub looked : (n k : ℕ) (x : Node) (way p : ℕ) (held : rust.Option ℕ) → way ≡ route k x.left (shown_from x.left x.slots 0) → p
    ≡ pointer_in (first_with k (shown_from x.left x.slots 0))
    → held ≡ then_some (not (eqb p 0)) p → record { node = n; way = way; held = held } ≡ looked_at n x k
looked n k x way p held w q h =
    let ss = shown_from x.left x.slots 0 in
    let u = h ∙ ap (λ (m : ℕ). then_some (not (eqb m 0)) m) q ∙ held-some k ss (each-shown _ _ _ (in-use-some _)) in
    (λ i. record { node = n; way = w i; held = u i })

looked-seen : (t : Words) (m k : ℕ) (x : Node) → x ≡ node t m → looked_at m x k ≡ seen_of (view t) k m
looked-seen t m k x q =
    let w = down-read t m k x _ q refl in
    let h = held-read t m k x _ q refl in
    (λ i. record { node = m; way = w i; held = h i })

-- if a search stands on m, m is the node that it is said to stand on
pub stands-on : (v : View) (l n k m : ℕ) → Stands v l n k m → stand_on v l n k ≡ some m
unfolding stand_on
stands-on v l n k m s = rw s.passed (ap some s.on)

-- if the node does not pass, the search stands on no node
pub stands-off-on : (v : View) (l n k : ℕ) → passes v l n ≡ false → stand_on v l n k ≡ none
unfolding stand_on
stands-off-on v l n k e = rw e

pub seen-lost : (v : View) (l n k : ℕ) → passes v l n ≡ false → None ≡ seen_in v k (stand_on v l n k)
seen-lost v l n k e = sym (ap (seen_in v k) (stands-off-on v l n k e))

pub come-level : (t : Words) (l n : ℕ) (x : Node) (k : ℕ) → read_if (on_level (view t) l n) (node t n) ≡ Some x
    → seen_in (view t) k (stand_on (view t) x.level n k) ≡ seen_in (view t) k (stand_on (view t) l n k)
come-level t l n x k e = ap (λ (m : ℕ). seen_in (view t) k (stand_on (view t) m n k)) (level-read t l n x e)

-- of node m, which is x
pub seen-read : (t : Words) (l n k m : ℕ) (x : Node) (s : Stood) → Stands (view t) l n k m → x ≡ node t m → s ≡ looked_at m x k → Some s
    ≡ seen_in (view t) k (stand_on (view t) l n k)
seen-read t l n k m x s d q e = ap Some (e ∙ looked-seen t m k x q) ∙ sym (ap (seen_in (view t) k) (stands-on (view t) l n k m d))

-- ---- coming down to level 0

module _ (v : View) (l n k : ℕ) where
  -- if the node does not pass, no leaf is found
  pub locate-failed : passes v l n ≡ false → locate v l n k ≡ none
  unfolding locate
  locate-failed p = go l p
    where
      go : (l : ℕ) → passes v l n ≡ false → locate v l n k ≡ none
      go zero p = rw (p, locate)
      go (suc l) p = rw (p, locate)

  -- if a node above the leaves passes, the leaf is looked for from its child for k
  pub locate-passed : passes v (suc l) n ≡ true → locate v (suc l) n k ≡ locate v l (down v (moved v n k) k) k
  unfolding locate
  locate-passed p = rw (p, locate)

-- on level 0 that is the leaf
pub locate-leaf : (v : View) (n k : ℕ) → stand_on v 0 n k ≡ locate v 0 n k
unfolding stand_on locate
locate-leaf v n k = go (passes v 0 n) refl
  where
    go : (b : Bool) → passes v 0 n ≡ b → cond b (some (moved v n k)) none ≡ locate v 0 n k
    go true p = sym (rw (p, locate))
    go false p = sym (rw (p, locate))

-- if something is seen, the node passes, and it is seen of the node that the search stands on
pub stand-some : (v : View) (l n k : ℕ) (s : Stood) → seen_in v k (stand_on v l n k) ≡ Some s → (passes v l n ≡ true)
    × (s ≡ seen_of v k (moved v n k))
unfolding stand_on
stand-some v l n k s e = go (passes v l n) refl e
  where
    go : (b : Bool) → passes v l n ≡ b → seen_in v k (cond b (some (moved v n k)) none) ≡ Some s → (passes v l n ≡ true)
        × (s ≡ seen_of v k (moved v n k))
    go true p q = (p, cc)
    go false p q = cc

-- if nothing is seen, the node does not pass
pub stand-none : (v : View) (l n k : ℕ) → seen_in v k (stand_on v l n k) ≡ None → passes v l n ≡ false
unfolding stand_on
stand-none v l n k e = go (passes v l n) refl e
  where
    go : (b : Bool) → passes v l n ≡ b → seen_in v k (cond b (some (moved v n k)) none) ≡ None → passes v l n ≡ false
    go true p q = cc
    go false p q = p

-- what is seen of the leaf, with s on the way and so many levels below it
unfoldable pub from_there : View → (k levels : ℕ) → Stood → rust.Option Stood
from_there v k zero s = Some s
from_there v k (suc l) s = seen_in v k (locate v l s.way k)

-- coming to n on a level
pub comes : (v : View) (l n k : ℕ) (s : Stood) → seen_in v k (stand_on v l n k) ≡ Some s → from_there v k l s ≡ seen_in v k (locate v l n k)
unfolding from_there
comes v zero n k s e = sym e ∙ ap (seen_in v k) (locate-leaf v n k)
comes v (suc l) n k s e =
    let u = stand-some v (suc l) n k s e in
    ap (λ (x : Stood). seen_in v k (locate v l x.way k)) u.1 ∙ sym (ap (seen_in v k) (locate-passed v l n k u.0))

pub comes-not : (v : View) (l n k : ℕ) → seen_in v k (stand_on v l n k) ≡ None → None ≡ seen_in v k (locate v l n k)
comes-not v l n k e = sym (ap (seen_in v k) (locate-failed v l n k (stand-none v l n k e)))

-- a turn of the loop over the levels: r is what is seen of the leaf
module _ (v : View) (k levels : ℕ) (s : Stood) (r : rust.Option Stood) (some-left : 0 < levels) (inv : from_there v k levels s ≡ r) where
  left-one : seen_in v k (locate v (levels - 1) s.way k) ≡ r
  unfolding from_there
  left-one = let e : levels ≡ suc (levels - 1) = omega arith in (rw e at inv)

  pub turn-lost : (o : rust.Option Stood) → o ≡ seen_in v k (stand_on v (levels - 1) s.way k) → o ≡ None → None ≡ r
  turn-lost o e z = comes-not v (levels - 1) s.way k (sym e ∙ z) ∙ left-one

  pub turn-down : (o : rust.Option Stood) (y : Stood) → o ≡ seen_in v k (stand_on v (levels - 1) s.way k) → o ≡ Some y
      → from_there v k (levels - 1) y ≡ r
  turn-down o y e z = comes v (levels - 1) s.way k y (sym e ∙ z) ∙ left-one

pub turned : (v : View) (k levels : ℕ) (s : Stood) (r : rust.Option Stood) → levels ≡ 0 → from_there v k levels s ≡ r → Some s ≡ r
unfolding from_there
turned v k levels s r z e = rw z at e

-- ---- the root

-- from a node on a level of at most 15, the leaf is looked for down from that level
pub within-in : (v : View) (n k : ℕ) → leb (v.node n).level 15 ≡ true → locate_from v n k ≡ locate v (v.node n).level n k
unfolding locate_from
within-in v n k e = rw e

-- from a node on a level above 15 no leaf is found
pub within-high : (v : View) (n k : ℕ) → leb (v.node n).level 15 ≡ false → locate_from v n k ≡ none
unfolding locate_from
within-high v n k e = rw e

within-lost : (v : View) (n k : ℕ) → ((l : ℕ) → passes v l n ≡ false) → locate_from v n k ≡ none
unfolding locate_from
within-lost v n k f = go (leb (v.node n).level 15)
  where
    go : (b : Bool) → cond b (locate v (v.node n).level n k) none ≡ none
    go true = locate-failed v (v.node n).level n k (f (v.node n).level)
    go false = refl

module _ (t : Words) (r k : ℕ) (h : header_ok t ≡ true) (o : rust.Option Node)
    (i : o ≡ read_if (has_node t r && leb (node t r).level 15) (node t r)) where
  -- if the root is not read, no leaf is found
  pub root-lost : o ≡ None → locate_from (view t) r k ≡ none
  root-lost z = go (has_node t r) (leb (node t r).level 15) refl refl (not-read _ (node t r) (sym i ∙ z))
    where
      go : (a b : Bool) → has_node t r ≡ a → leb (node t r).level 15 ≡ b → (a && b) ≡ false → locate_from (view t) r k ≡ none
      go true true a b e = absurd (false≢true (sym e))
      go true false a b e = within-high (view t) r k b
      go false b a c e = within-lost (view t) r k (λ l. pass-off (view t) l r (level-out t l r h a))

  module _ (x : Node) (z : o ≡ Some x) where
    root-tests : (has_node t r ≡ true) × (leb (node t r).level 15 ≡ true)
    root-tests = (and-iff (has_node t r) _).0 (was-read _ (node t r) x (sym i ∙ z)).0

    pub root-is : x ≡ node t r
    root-is = (was-read (has_node t r && leb (node t r).level 15) (node t r) x (sym i ∙ z)).1

    -- a root that is read is on its own level
    pub root-on : on_level (view t) x.level r ≡ true
    root-on = sym (level-in t x.level r x h root-tests.0 root-is) ∙ eq-eqb x.level x.level refl

    -- from a root that is read, the leaf is looked for down from its level
    pub from-level : locate (view t) x.level r k ≡ locate_from (view t) r k
    from-level = ap (λ (l : ℕ). locate (view t) l r k) (ap (λ (y : Node). y.level) root-is) ∙ sym (within-in (view t) r k root-tests.1)

-- ---- the answer from the leaf come to

-- after a move too the node is on its level
pub on-moved : (v : View) (l n k : ℕ) → passes v l n ≡ true → on_level v l (moved v n k) ≡ true
unfolding passes moved below
on-moved v l n k p = go (on_level v l n) (eqb s 0) (on_level v l s) (ltb k (v.node s).fence) refl refl p
  where
    s : ℕ
    s = (v.node n).sibling

    go : (a b c d : Bool) → on_level v l n ≡ a → on_level v l s ≡ c → (a && (b || c)) ≡ true
        → on_level v l (elim (b || d) as (λ e. ℕ) [ true ↦ n | false ↦ s ]) ≡ true
    go true true c d e f p = e
    go true false true true e f p = e
    go true false true false e f p = f
    go true false false d e f p = absurd (false≢true p)
    go false b c d e f p = absurd (false≢true p)

-- the leaf come to is on level 0
leaf-on : (v : View) (n k m : ℕ) → locate v 0 n k ≡ some m → on_level v 0 m ≡ true
unfolding locate
leaf-on v n k m e = go (passes v 0 n) refl e
  where
    go : (b : Bool) → passes v 0 n ≡ b → elim b as (λ c. Option ℕ) [ true ↦ some (moved v n k) | false ↦ none ]
        ≡ some m → on_level v 0 m ≡ true
    go true p e = subst (λ (x : ℕ). on_level v 0 x ≡ true) (some-injective _ _ e) (on-moved v 0 n k p)
    go false p e = absurd (none-ne-some m e)

located-on : (v : View) (l n k m : ℕ) → locate v l n k ≡ some m → on_level v 0 m ≡ true
located-on v zero n k m e = leaf-on v n k m e
located-on v (suc l) n k m e = go (passes v (suc l) n) refl (located-on v l (down v (moved v n k) k) k m)
  where
    go : (b : Bool) → passes v (suc l) n ≡ b
        → (locate v l (down v (moved v n k) k) k ≡ some m → on_level v 0 m ≡ true) → on_level v 0 m ≡ true
    go true p f = f (sym (locate-passed v l n k p) ∙ e)
    go false p f = absurd (none-ne-some m (sym (locate-failed v (suc l) n k p) ∙ e))

-- a leaf that is found is on level 0
pub within-on : (v : View) (n k m : ℕ) → locate_from v n k ≡ some m → on_level v 0 m ≡ true
within-on v n k m e = go (leb (v.node n).level 15) refl
  where
    go : (b : Bool) → leb (v.node n).level 15 ≡ b → on_level v 0 m ≡ true
    go true p = located-on v (v.node n).level n k m (sym (within-in v n k p) ∙ e)
    go false p = absurd (none-ne-some m (sym (within-high v n k p) ∙ e))

-- the answer by the pointer of a slot is the answer by the slot
pub held-answer : (o : Option Slot) (x : Answer) → answer_held (held_by o) x ≡ answer_of o x
held-answer none x = refl
held-answer (some s) x = refl

-- ---- the whole search

pub bad-header : (n : ℕ) (t : Words) (k : ℕ) → number_in n t ≢ 0 → Refused (number_in n t) ≡ search n t k
unfolding search number_in
bad-header n t k z = go (header_ok t) (no_collection n t) refl refl
  where
    go : (a b : Bool) → header_ok t ≡ a → no_collection n t ≡ b → Refused (number_in n t) ≡ search n t k
    go false b h c = rw (h, search)
    go true true h c = rw (h, c, search)
    go true false h c = absurd (z (rw (h, c)))

-- the number of the refusal that the root was refused with
number-numbered : (n : ℕ) (t : Words) → Numbered (number_in n t)
unfolding number_in
number-numbered n t = go (header_ok t) (no_collection n t)
  where
    go : (a b : Bool) → Numbered (cond a (cond b 17 0) 2)
    go true true = numbered NoCollection
    go true false = inl refl
    go false b = numbered NoTable

pub root-refused : (n : ℕ) (t : Words) (k x : ℕ) (r : Refusal) → found_root n t ≡ Err r → x ≡ refusal_number r → Refused x ≡ search n t k
root-refused n t k x r e q =
    let f = found-err {T = ℕ} n t e in
    ap Refused (q ∙ handed-number (number_in n t) f.0 f.1 (number-numbered n t)) ∙ bad-header n t k f.0

-- the leaf come to does not depend on the root that the reading started from
pub any-within : (t : Words) (r q n k : ℕ) → locate_from (view_from t r) n k ≡ locate_from (view_from t q) n k
unfolding locate_from
any-within t r q n k = ap (λ (o : Option ℕ). cond (leb l 15) o none) (any-locate t r q l n k)
  where
    l : ℕ
    l = (node t n).level

from-root : (v : View) (k : ℕ) → answer_in v k (locate_from v v.root k) ≡ search_view v k
unfolding search_view
from-root v k = go (leb (height v) 15) refl
  where
    go : (b : Bool) → leb (height v) 15 ≡ b → answer_in v k (locate_from v v.root k) ≡ search_view v k
    go true e = ap (answer_in v k) (within-in v v.root k e) ∙ sym (rw (e, search_view))
    go false e = ap (answer_in v k) (within-high v v.root k e) ∙ sym (rw (e, search_view))

pub none-seen : (v : View) (k : ℕ) (o : Option ℕ) → seen_in v k o ≡ None → o ≡ none
none-seen v k none e = refl
none-seen v k (some m) e = cc

-- what was seen of the leaf come to from root r
module _ (n : ℕ) (t : Words) (k r : ℕ) (e : r ≡ root_in n t) (z : r ≢ 0) where
  -- a search from the root that was read answers what a search of the collection does
  pub by-root : answer_in (view t) k (locate_from (view t) r k) ≡ search n t k
  unfolding search
  by-root =
      let u = root-there n t r e z in
      let q = at t (root_word n) in
      let v = view_from t q in
      any-answer t (root t) q k (locate_from (view t) r k)
      ∙ ap (answer_in v k) (any-within t (root t) q r k ∙ ap (λ (i : ℕ). locate_from v i k) u.2)
      ∙ from-root v k ∙ sym (rw (u.0, u.1, search))

  -- none
  pub answered-lost : seen_in (view t) k (locate_from (view t) r k) ≡ None → Refused 3 ≡ search n t k
  answered-lost f = ap (answer_in (view t) k) (sym (none-seen (view t) k _ f)) ∙ by-root

  -- or the one stood on
  module _ (s : Stood) (f : seen_in (view t) k (locate_from (view t) r k) ≡ Some s) where
    come : (locate_from (view t) r k ≡ some s.node) × (s ≡ seen_of (view t) k s.node)
    come = go (locate_from (view t) r k) f
      where
        go : (o : Option ℕ) → seen_in (view t) k o ≡ Some s → (o ≡ some s.node) × (s ≡ seen_of (view t) k s.node)
        go none q = cc
        go (some m) q =
            let u : seen_of (view t) k m ≡ s = cc in
            let p : m ≡ s.node = ap (λ (y : Stood). y.node) u in
            (ap some p, sym u ∙ ap (seen_of (view t) k) p)

    pub stood-on : on_level (view t) 0 s.node ≡ true
    stood-on = within-on (view t) r k s.node come.0

    pub answered : (x : Answer) → x ≡ answer_held s.held (next_from (view t) (nodes t) s.node k) → x ≡ search n t k
    answered x g =
        let rest = next_from (view t) (nodes t) s.node k in
        g ∙ ap (λ (y : Stood). answer_held y.held rest) come.1 ∙ held-answer (first_with k (node_view t s.node).shown) rest
        ∙ ap (answer_in (view t) k) (sym come.0) ∙ by-root
