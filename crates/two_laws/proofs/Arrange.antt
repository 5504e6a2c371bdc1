-- The tests of a table of one or two collections, by the tree that a write goes to and the tree beside it.
use Rattle.std.proofs.Common.{◌≡◌, ℕ, ◌+◌, ◌<◌, ◌≤◌, Bool, true, false, cond, ◌&&◌, ◌≢◌, ◌⊎◌, ◌↔◌, List, [], ◌∷◌, ◌++◌, length, sym, refl}
use Rattle.std.proofs.Common.{ap, ◌∙◌, inl, inr, append-nil, arith, length-append, eq-eqb, ne_eqb}
use mathlib.Core.List.{Memᴰ}
use mathlib.Core.Option.{Option, some}
use lib.Seq.{take-length}
use Rattle.model.specs.Table.{Words, at, nodes, in_range, header_ok, root_word, no_collection}
use Rattle.model.specs.Slots.{Slot, View}
use Rattle.model.specs.Reached.{flat, reached, trees, reached_all}
use Rattle.model.specs.SoundTest.{all, elem, distinct, Leftover, nothing, hidden_in, missing_in, both_in, leftover, is_nothing}
use Rattle.model.specs.SoundTest.{settled_view, sound_view, leftover_in, leftover_all, one_left, sound, settled}
use Rattle.model.specs.Orders.{Store, apply}
use Rattle.model.specs.Writes.{unreached, unreachable, fresh}
use Rattle.list_laws.proofs.Tools.{and-iff, Each, Each-map, Each-append, same-or-not}
use Rattle.list_laws.proofs.Members.{each-mem, elem-append, elem-none, mem-each}
use Rattle.list_laws.proofs.Distinct.{UpTo, distinct-append}
use Rattle.list_laws.proofs.Counts.{count-without}
use Rattle.table_laws.proofs.Header.{HeadFacts, header-iff}
use Rattle.tree_laws.proofs.Levels.{Orderly, reached-numbers}
use Rattle.tree_laws.proofs.Rows.{range-iff}
use Rattle.tree_laws.proofs.Leftovers.{settled-sound-view}
use Rattle.change_laws.proofs.Counts.{fresh-unreachable}
use Rattle.change_laws.proofs.Parents.{reached-children}
use Rattle.change_laws.proofs.Parts.{HasLeft, has-left-iff, settled-left, sound-left}
use Rattle.step_laws.proofs.TreeAt.{tree_at, Avoids}
use Rattle.two_laws.proofs.TwoLaw.{taken, Tree, Low, Course, flat-up}
use Rattle.step_laws.proofs.Fresh.{Free}

-- collection 1 alone; 1 beside 2; 2 beside 1
abbrev pub Arr : ℕ → List ℕ → Words → Type 0
Arr w ws t = ((w ≡ 1) × ((ws ≡ []) × (at t 3 ≡ 0)))
    ⊎ (((w ≡ 1) × ((ws ≡ 3 ∷ []) × (at t 3 ≢ 0))) ⊎ ((w ≡ 3) × ((ws ≡ 1 ∷ []) × (at t 3 ≢ 0))))

pub by-arr : (w : ℕ) (ws : List ℕ) (t : Words) (P : ℕ → List ℕ → Type 0) → Arr w ws t → (at t 3 ≡ 0 → P 1 []) → (at t 3 ≢ 0 → P 1 (3 ∷ []))
    → (at t 3 ≢ 0 → P 3 (1 ∷ [])) → P w ws
by-arr w ws t P (inl h) a b c = rw (h.0, h.1.0) (a h.1.1)
by-arr w ws t P (inr (inl h)) a b c = rw (h.0, h.1.0) (b h.1.1)
by-arr w ws t P (inr (inr h)) a b c = rw (h.0, h.1.0) (c h.1.1)

-- the root words of the collections are header words
pub arr-low : (w : ℕ) (ws : List ℕ) (t : Words) → Arr w ws t → Low w ws
arr-low w ws t h = by-arr w ws t Low h (λ z. (omega arith, tt)) (λ z. (omega arith, (omega arith, tt)))
    (λ z. (omega arith, (omega arith, tt)))

-- the root word of a collection is 1 or 3
pub arr-word : (w : ℕ) (ws : List ℕ) (t : Words) → Arr w ws t → (w ≡ 1) ⊎ (w ≡ 3)
arr-word w ws t h = by-arr w ws t (λ w ws. (w ≡ 1) ⊎ (w ≡ 3)) h (λ z. inl refl) (λ z. inl refl) (λ z. inr refl)

-- the other collections have other root words
pub arr-others : (w : ℕ) (ws : List ℕ) (t : Words) → Arr w ws t → Each (λ (x : ℕ). x ≢ w) ws
arr-others w ws t h =
    by-arr w ws t (λ w ws. Each (λ (x : ℕ). x ≢ w) ws) h (λ z. tt) (λ z. ((λ e. omega arith), tt)) (λ z. ((λ e. omega arith), tt))

-- ---- the trees

-- with word 3 at 0 the table has one tree, the one at word 1
pub trees-one : (t : Words) → at t 3 ≡ 0 → trees t ≡ tree_at 1 t ∷ []
trees-one t z = rw (eq-eqb (at t 3) 0 z)

-- with word 3 not 0 the table has two trees, at words 1 and 3
pub trees-two : (t : Words) → at t 3 ≢ 0 → trees t ≡ tree_at 1 t ∷ tree_at 3 t ∷ []
trees-two t z = rw (ne_eqb (at t 3) 0 z)

-- with word 3 at 0 the nodes reached are those of the one tree
pub all-one : (t : Words) → at t 3 ≡ 0 → reached_all t ≡ reached (tree_at 1 t) ++ []
unfolding reached_all flat
all-one t z = ap (flat reached) (trees-one t z)

-- with word 3 not 0 the nodes reached are those of the first tree, then of the second
pub all-two : (t : Words) → at t 3 ≢ 0 → reached_all t ≡ reached (tree_at 1 t) ++ (reached (tree_at 3 t) ++ [])
unfolding reached_all flat
all-two t z = ap (flat reached) (trees-two t z)

-- ---- the nodes of all trees are those of the one and those of the others

pub record CoverOf (N : ℕ) (own rest all : List ℕ) : Type 0 where
  pub split : (n : ℕ) → (elem n all ≡ false) ↔ ((elem n own ≡ false) × (elem n rest ≡ false))
  pub count : length all ≡ length own + length rest
  pub up : Each (UpTo N) own → Each (UpTo N) rest → Each (UpTo N) all
  pub once : ((distinct all ≡ true) ↔ ((distinct own ≡ true) × (distinct rest ≡ true) × Each (λ (n : ℕ). elem n rest ≡ false) own))

abbrev pub Covers : ℕ → List ℕ → Words → Type 0
Covers w ws t = CoverOf (nodes t) (reached (tree_at w t)) (taken ws t) (reached_all t)

apart-back : (a b : List ℕ) → Each (λ (n : ℕ). elem n b ≡ false) a → Each (λ (n : ℕ). elem n a ≡ false) b
apart-back a b h = mem-each (λ (n : ℕ). elem n a ≡ false) b
    (λ n m. (elem-none n a).1 (λ q. (elem-none n b).0 (each-mem (λ (n : ℕ). elem n b ≡ false) h q) m))

cover-straight : (N : ℕ) (own rest : List ℕ) → CoverOf N own rest (own ++ rest)
cover-straight N own rest =
    record {
      split = λ n. elem-append n own rest;
      count = length-append own rest;
      up = Each-append (UpTo N) own rest;
      once = distinct-append own rest;
    }

cover-crossed : (N : ℕ) (own rest : List ℕ) → CoverOf N own rest (rest ++ own)
cover-crossed N own rest = record {
  split = λ n. let h = elem-append n rest own in ((λ e. let u = h.0 e in (u.1, u.0)), (λ u. h.1 (u.1, u.0)));
  count = omega (arith, length-append rest own);
  up = λ a b. Each-append (UpTo N) rest own b a;
  once = let h = distinct-append rest own in
      ((λ e. let u = h.0 e in (u.1, u.0, apart-back rest own u.2)), (λ u. h.1 (u.1, u.0, apart-back own rest u.2)));
}

-- the nodes reached are those of the tree at word w and those that the others take
pub arr-covers : (w : ℕ) (ws : List ℕ) (t : Words) → Arr w ws t → Covers w ws t
unfolding flat
arr-covers w ws t h = by-arr w ws t (λ w ws. Covers w ws t) h
    (λ z. rw (all-one t z) (cover-straight (nodes t) (reached (tree_at 1 t)) []))
    (λ z. rw (all-two t z) (cover-straight (nodes t) (reached (tree_at 1 t)) (reached (tree_at 3 t) ++ [])))
    (λ z. rw (all-two t z, append-nil (reached (tree_at 3 t)), append-nil (reached (tree_at 1 t)))
    (cover-crossed (nodes t) (reached (tree_at 3 t)) (reached (tree_at 1 t))))

-- ---- the tests

-- what the header test says
pub record Head (t : Words) : Type 0 where
  pub facts : HeadFacts t
  pub one : in_range (nodes t) (at t 1) ≡ true
  pub two : at t 3 ≢ 0 → (at t 3 ≤ nodes t) × (2 ≤ nodes t)

-- the header test passes exactly if the header says what it must
pub head-iff : (t : Words) → (header_ok t ≡ true) ↔ Head t
head-iff t = (
  λ e. let f = (header-iff t).0 e in record {
    facts = record { size = f.size; first = f.first; zeros = f.zeros };
    one = (range-iff (nodes t) (at t 1)).1 (f.root-some, f.root-in);
    two = f.two;
  },
  λ h. let r = (range-iff (nodes t) (at t 1)).0 h.one in (header-iff t).1
      (record { size = h.facts.size; first = h.facts.first; zeros = h.facts.zeros; root-some = r.0; root-in = r.1; two = h.two }),
)

-- what the tests of the trees say
pub settled-parts : (t : Words) → (settled t ≡ true) ↔ (Head t × (all settled_view (trees t) ≡ true) × (distinct (reached_all t) ≡ true))
unfolding settled
settled-parts t = (
  λ e. let u = simp and-iff at e in ((head-iff t).0 u.0, u.1.0, u.1.1),
  λ h. simp and-iff ((head-iff t).1 h.0, (h.1, h.2)),
)

pub sound-parts : (t : Words)
    → (sound t ≡ true) ↔ (Head t × (all sound_view (trees t) ≡ true) × (distinct (reached_all t) ≡ true) × (one_left (trees t) ≡ true))
unfolding sound
sound-parts t = (
  λ e. let u = simp and-iff at e in ((head-iff t).0 u.0, u.1.0, u.1.1.0, u.1.1.1),
  λ h. simp and-iff ((head-iff t).1 h.0, (h.1, (h.2, h.3))),
)

pub all-single : (p : View → Bool) (v : View) → (all p (v ∷ []) ≡ true) ↔ (p v ≡ true)
unfolding all
all-single p v = ((λ e. ((and-iff (p v) true).0 e).0), (λ e. (and-iff (p v) true).1 (e, refl)))

pub all-pair : (p : View → Bool) (v w : View) → (all p (v ∷ w ∷ []) ≡ true) ↔ ((p v ≡ true) × (p w ≡ true))
unfolding all
all-pair p v w = (
  (λ e. let u = (and-iff (p v) _).0 e in (u.0, ((and-iff (p w) true).0 u.1).0)),
  (λ e. (and-iff (p v) _).1 (e.0, (and-iff (p w) true).1 (e.1, refl))),
)

-- ---- the header of a tree beside others

-- the root of an orderly tree is reached
pub root-in : (v : View) → Orderly v → Memᴰ v.root (reached v)
root-in v o = rw (reached-children v o) (Memᴰ.head refl)

pair-head : (t : Words) → HeadFacts t → Orderly (tree_at 1 t) → Orderly (tree_at 3 t)
    → Avoids (reached (tree_at 3 t)) (tree_at 1 t) → Head t
pair-head t h a b d =
    let p = (range-iff (nodes t) (at t 1)).0 a.top.range in
    let q = (range-iff (nodes t) (at t 3)).0 b.top.range in
    let z : at t 1 ≢ at t 3 =
    λ e. (elem-none (at t 1) (reached (tree_at 3 t))).0
    (each-mem (λ (n : ℕ). elem n (reached (tree_at 3 t)) ≡ false) d (root-in (tree_at 1 t) a)) (rw e (root-in (tree_at 3 t) b)) in
    record { facts = h; one = a.top.range; two = λ y. (q.1, omega (arith, p, q, z)) }

one-head : (t : Words) → HeadFacts t → Orderly (tree_at 1 t) → at t 3 ≡ 0 → Head t
one-head t h a z = record { facts = h; one = a.top.range; two = λ y. absurd (y z) }

-- ---- settled

taken-one : (x : ℕ) (t : Words) → taken (x ∷ []) t ≡ reached (tree_at x t)
unfolding flat
taken-one x t = append-nil (reached (tree_at x t))

pub tree-settled : (w : ℕ) (ws : List ℕ) (t : Words) → Arr w ws t → Tree w ws t nothing → settled t ≡ true
tree-settled w ws t r = by-arr w ws t (λ w ws. Tree w ws t nothing → settled t ≡ true) r
    (λ z f. (settled-parts t).1 (
      one-head t f.head f.left.orderly z,
      rw (trees-one t z) ((all-single settled_view (tree_at 1 t)).1 ((settled-left (tree_at 1 t)).1 f.left)),
      rw (all-one t z, append-nil (reached (tree_at 1 t))) f.left.orderly.once,
    ))
    (λ z f. go z f.head f.left f.others.0 (rw (taken-one 3 t) at f.apart))
    (λ z f. go z f.head f.others.0 f.left (apart-back (reached (tree_at 3 t)) (reached (tree_at 1 t)) (rw (taken-one 1 t) at f.apart)))
  where
    go : at t 3 ≢ 0 → HeadFacts t → HasLeft (tree_at 1 t) nothing → HasLeft (tree_at 3 t) nothing
        → Avoids (reached (tree_at 3 t)) (tree_at 1 t) → settled t ≡ true
    go z h a b d = (settled-parts t).1 (
      pair-head t h a.orderly b.orderly d,
      rw (trees-two t z) ((all-pair settled_view (tree_at 1 t) (tree_at 3 t)).1
          ((settled-left (tree_at 1 t)).1 a, (settled-left (tree_at 3 t)).1 b)),
      rw (all-two t z, append-nil (reached (tree_at 3 t)))
          ((distinct-append (reached (tree_at 1 t)) (reached (tree_at 3 t))).1 (a.orderly.once, b.orderly.once, d)),
    )

-- in a settled table the tree at word w is settled beside the others, and shares no node with them
pub settled-tree : (w : ℕ) (ws : List ℕ) (t : Words) → Arr w ws t → settled t ≡ true → Tree w ws t nothing
settled-tree w ws t r s = by-arr w ws t (λ w ws. Tree w ws t nothing) r
    (λ z.
    let u = (settled-parts t).0 s in
    record {
      head = u.0.facts;
      left = (settled-left (tree_at 1 t)).0 ((all-single settled_view (tree_at 1 t)).0 (rw (trees-one t z) at u.1));
      room = refl;
      others = tt;
      apart = mem-each (λ (n : ℕ). elem n (taken [] t) ≡ false) (reached (tree_at 1 t)) (λ n m. unfold elem flat in refl);
    })
    (λ z.
    let q = two z in
    record { head = ((settled-parts t).0 s).0.facts; left = q.0; room = refl; others = (q.1, tt); apart = rw (taken-one 3 t) q.2 })
    (λ z.
    let q = two z in
    record {
      head = ((settled-parts t).0 s).0.facts;
      left = q.1;
      room = refl;
      others = (q.0, tt);
      apart = rw (taken-one 1 t) (apart-back (reached (tree_at 1 t)) (reached (tree_at 3 t)) q.2);
    })
  where
    two : at t 3 ≢ 0 → HasLeft (tree_at 1 t) nothing × HasLeft (tree_at 3 t) nothing × Avoids (reached (tree_at 3 t)) (tree_at 1 t)
    two z =
        let u = (settled-parts t).0 s in
        let p = (all-pair settled_view (tree_at 1 t) (tree_at 3 t)).0 (rw (trees-two t z) at u.1) in
        let d = (distinct-append (reached (tree_at 1 t)) (reached (tree_at 3 t))).0
        (rw (all-two t z, append-nil (reached (tree_at 3 t))) at u.2) in
        ((settled-left (tree_at 1 t)).0 p.0, (settled-left (tree_at 3 t)).0 p.1, d.2)

-- ---- sound

pub one-left : (v : View) → one_left (v ∷ []) ≡ true
unfolding one_left all
one-left v = go (settled_view v)
  where
    go : (b : Bool) → cond b true true ≡ true
    go true = refl
    go false = refl

-- of two trees, one at least is settled
pub two-left : (v w : View) → (one_left (v ∷ w ∷ []) ≡ true) ↔ ((settled_view v ≡ true) ⊎ (settled_view w ≡ true))
unfolding one_left all
two-left v w = go (settled_view v) (settled_view w)
  where
    go : (a b : Bool) → (cond a (cond b true true) (b && true) ≡ true) ↔ ((a ≡ true) ⊎ (b ≡ true))
    go true true = ((λ e. inl refl), (λ e. refl))
    go true false = ((λ e. inl refl), (λ e. refl))
    go false true = ((λ e. inr refl), (λ e. refl))
    go false false = ((λ e. inl e), (λ e. no e))
      where
        no : (false ≡ true) ⊎ (false ≡ true) → false ≡ true
        no (inl e) = e
        no (inr e) = e

pub tree-sound : (w : ℕ) (ws : List ℕ) (t : Words) (y : Leftover) → Arr w ws t → Tree w ws t y → sound t ≡ true
tree-sound w ws t y r = by-arr w ws t (λ w ws. Tree w ws t y → sound t ≡ true) r
    (λ z f. (sound-parts t).1 (
      one-head t f.head f.left.orderly z,
      rw (trees-one t z) ((all-single sound_view (tree_at 1 t)).1 ((sound-left (tree_at 1 t)).1 (y, f.left, f.room))),
      rw (all-one t z, append-nil (reached (tree_at 1 t))) f.left.orderly.once,
      rw (trees-one t z) (one-left (tree_at 1 t)),
    ))
    (λ z f. go z f.head f.left.orderly f.others.0.orderly (rw (taken-one 3 t) at f.apart)
    ((sound-left (tree_at 1 t)).1 (y, f.left, f.room)) (settled-sound-view (tree_at 3 t) ((settled-left (tree_at 3 t)).1 f.others.0))
    (inr ((settled-left (tree_at 3 t)).1 f.others.0)))
    (λ z f. go z f.head f.others.0.orderly f.left.orderly
    (apart-back (reached (tree_at 3 t)) (reached (tree_at 1 t)) (rw (taken-one 1 t) at f.apart))
    (settled-sound-view (tree_at 1 t) ((settled-left (tree_at 1 t)).1 f.others.0)) ((sound-left (tree_at 3 t)).1 (y, f.left, f.room))
    (inl ((settled-left (tree_at 1 t)).1 f.others.0)))
  where
    go : at t 3 ≢ 0 → HeadFacts t → Orderly (tree_at 1 t) → Orderly (tree_at 3 t) → Avoids (reached (tree_at 3 t)) (tree_at 1 t)
        → sound_view (tree_at 1 t) ≡ true → sound_view (tree_at 3 t) ≡ true → (settled_view (tree_at 1 t) ≡ true)
        ⊎ (settled_view (tree_at 3 t) ≡ true) → sound t ≡ true
    go z h a b d p q c = (sound-parts t).1 (
      pair-head t h a b d,
      rw (trees-two t z) ((all-pair sound_view (tree_at 1 t) (tree_at 3 t)).1 (p, q)),
      rw (all-two t z, append-nil (reached (tree_at 3 t)))
          ((distinct-append (reached (tree_at 1 t)) (reached (tree_at 3 t))).1 (a.once, b.once, d)),
      rw (trees-two t z) ((two-left (tree_at 1 t) (tree_at 3 t)).1 c),
    )

-- a sound table has a tree with what is left, beside a settled one where it has two
pub record SoundAs (t : Words) : Type 0 where
  pub word : ℕ
  pub others : List ℕ
  pub leftover : Leftover
  pub arranged : Arr word others t
  pub tree : Tree word others t leftover

-- a sound table has a tree with what is left over, beside a settled one if it has two
pub sound-tree : (t : Words) → sound t ≡ true → SoundAs t
sound-tree t s = go (same-or-not (at t 3) 0)
  where
    u : Head t × (all sound_view (trees t) ≡ true) × (distinct (reached_all t) ≡ true) × (one_left (trees t) ≡ true)
    u = (sound-parts t).0 s

    two : (z : at t 3 ≢ 0) → (sound_view (tree_at 1 t) ≡ true) × (sound_view (tree_at 3 t) ≡ true)
        → Avoids (reached (tree_at 3 t)) (tree_at 1 t)
        → (settled_view (tree_at 1 t) ≡ true) ⊎ (settled_view (tree_at 3 t) ≡ true) → SoundAs t
    two z p d (inl e) =
        let l = (sound-left (tree_at 3 t)).0 p.1 in
        record {
          word = 3;
          others = 1 ∷ [];
          leftover = l.0;
          arranged = inr (inr (refl, (refl, z)));
          tree = record {
            head = u.0.facts;
            left = l.1;
            room = l.2;
            others = ((settled-left (tree_at 1 t)).0 e, tt);
            apart = rw (taken-one 1 t) (apart-back (reached (tree_at 1 t)) (reached (tree_at 3 t)) d);
          };
        }
    two z p d (inr e) =
        let l = (sound-left (tree_at 1 t)).0 p.0 in
        record {
          word = 1;
          others = 3 ∷ [];
          leftover = l.0;
          arranged = inr (inl (refl, (refl, z)));
          tree = record {
            head = u.0.facts;
            left = l.1;
            room = l.2;
            others = ((settled-left (tree_at 3 t)).0 e, tt);
            apart = rw (taken-one 3 t) d;
          };
        }

    go : (at t 3 ≡ 0) ⊎ (at t 3 ≢ 0) → SoundAs t
    go (inl z) =
        let l = (sound-left (tree_at 1 t)).0 ((all-single sound_view (tree_at 1 t)).0 (rw (trees-one t z) at u.1)) in
        record {
          word = 1;
          others = [];
          leftover = l.0;
          arranged = inl (refl, (refl, z));
          tree = record {
            head = u.0.facts;
            left = l.1;
            room = l.2;
            others = tt;
            apart = mem-each (λ (n : ℕ). elem n (taken [] t) ≡ false) (reached (tree_at 1 t)) (λ n m. unfold elem flat in refl);
          };
        }
    go (inr z) = two z ((all-pair sound_view (tree_at 1 t) (tree_at 3 t)).0 (rw (trees-two t z) at u.1))
        ((distinct-append (reached (tree_at 1 t)) (reached (tree_at 3 t))).0
        (rw (all-two t z, append-nil (reached (tree_at 3 t))) at u.2)).2
        ((two-left (tree_at 1 t) (tree_at 3 t)).0 (rw (trees-two t z) at u.3))

-- ---- the leftover of the whole table

left-first : (x : Leftover) (later : Option Leftover) → later ≡ some nothing → cond (is_nothing (some x)) later (some x) ≡ some x
left-first nothing later e = e
left-first (hidden_in n) later e = refl
left-first (missing_in p a trailing) later e = refl
left-first (both_in p a) later e = refl

pub left-is : (t : Words) (x : ℕ) (z : Leftover) → HasLeft (tree_at x t) z → leftover (tree_at x t) ≡ some z
left-is t x z l = ((has-left-iff (tree_at x t) z).1 l).1

-- It is that of the tree that a write would repair.
pub left-all : (w : ℕ) (ws : List ℕ) (t : Words) (y : Leftover) → Arr w ws t → Tree w ws t y → leftover_all t ≡ some y
unfolding leftover_in
left-all w ws t y r = by-arr w ws t (λ w ws. Tree w ws t y → leftover_all t ≡ some y) r
    (λ z f. rw (trees-one t z, left-is t 1 y f.left) (left-first y (some nothing) refl))
    (λ z f. rw (trees-two t z, left-is t 1 y f.left, left-is t 3 nothing f.others.0) (left-first y (some nothing) refl))
    (λ z f. rw (trees-two t z, left-is t 1 nothing f.others.0, left-is t 3 y f.left) (left-first y (some nothing) refl))

-- the collection of an arrangement is there
pub arr-there : (n : ℕ) (ws : List ℕ) (t : Words) → Arr (root_word n) ws t → no_collection n t ≡ false
unfolding no_collection
arr-there n ws t r = go r
  where
    first : root_word n ≡ 1 → n ≡ 1
    first e = omega arith

    second : root_word n ≡ 3 → n ≡ 2
    second e = omega arith

    go : Arr (root_word n) ws t → no_collection n t ≡ false
    go (inl h) = rw (first h.0)
    go (inr (inl h)) = rw (first h.0)
    go (inr (inr h)) = rw (second h.0, ne_eqb (at t 3) 0 h.1.1)

-- ---- free nodes

-- in a settled table with an unreachable node, the fresh node is one that no tree reaches
pub free-fresh : (w : ℕ) (ws : List ℕ) (t : Words) (a : ℕ) → Arr w ws t → Tree w ws t nothing → Memᴰ a (reached (tree_at w t))
    → 0 < length (unreachable t) → Free w (taken ws t) t (fresh t a)
unfolding fresh unreached unreachable
free-fresh w ws t a r f m h =
    let c = arr-covers w ws t r in
    let i : elem a (reached_all t) ≡ true =
    refuted-false (elem a (reached_all t)) (λ e. (elem-none a (reached (tree_at w t))).0 ((c.split a).0 e).0 m) in
    let u = fresh-unreachable (nodes t) (reached_all t) a i
    (each-mem (UpTo (nodes t)) (reached-numbers (tree_at w t) f.left.orderly) m) h in
    let q = (c.split (fresh t a)).0 u.1 in
    record { range = u.0; unreached = q.0; off = q.1 }
  where
    refuted-false : (b : Bool) → (b ≡ false → ⊥) → b ≡ true
    refuted-false true h = refl
    refuted-false false h = absurd (h refl)

-- no root reaches a free node
pub free-off : (w : ℕ) (ws : List ℕ) (t : Words) (b : ℕ) → Arr w ws t → Free w (taken ws t) t b → elem b (reached_all t) ≡ false
free-off w ws t b r f = ((arr-covers w ws t r).split b).1 (f.unreached, f.off)

-- those that some root reaches and those that none does are N together
pub unreachable-count :
    (w : ℕ) (ws : List ℕ) (t : Words) → Arr w ws t → Tree w ws t nothing
    → length (unreachable t) + (length (reached (tree_at w t)) + length (taken ws t)) ≡ nodes t
unfolding unreachable unreached
unreachable-count w ws t r f =
    let c = arr-covers w ws t r in
    let d = ((settled-parts t).0 (tree-settled w ws t r f)).2 in
    let up = flat-up (nodes t) (λ (x : ℕ). reached (tree_at x t)) ws
    (Each-map (λ (x : ℕ). HasLeft (tree_at x t) nothing) (λ (x : ℕ). Each (UpTo (nodes t)) (reached (tree_at x t))) ws
    (λ x h. reached-numbers (tree_at x t) h.orderly) f.others) in
    rw c.count at (count-without (nodes t) (reached_all t) d (c.up (reached-numbers (tree_at w t) f.left.orderly) up))

-- the same nodes of each tree are the same of all
pub same-all : (w : ℕ) (ws : List ℕ) (t t' : Words) → Arr w ws t → at t' 3 ≡ at t 3 → reached (tree_at w t') ≡ reached (tree_at w t)
    → Each (λ (x : ℕ). reached (tree_at x t') ≡ reached (tree_at x t)) ws → reached_all t' ≡ reached_all t
same-all w ws t t' r e =
    by-arr w ws t (λ w ws. reached (tree_at w t') ≡ reached (tree_at w t)
    → Each (λ (x : ℕ). reached (tree_at x t') ≡ reached (tree_at x t)) ws → reached_all t' ≡ reached_all t) r
    (λ z p q. all-one t' (e ∙ z) ∙ ap (λ (l : List ℕ). l ++ []) p ∙ sym (all-one t z))
    (λ z p q. both z p q.0)
    (λ z p q. both z q.0 p)
  where
    both : at t 3 ≢ 0 → reached (tree_at 1 t') ≡ reached (tree_at 1 t) → reached (tree_at 3 t') ≡ reached (tree_at 3 t)
        → reached_all t' ≡ reached_all t
    both z p q = all-two t' (λ y. z (sym e ∙ y)) ∙ ap (λ (l : List ℕ). l ++ (reached (tree_at 3 t') ++ [])) p
        ∙ ap (λ (l : List ℕ). reached (tree_at 1 t) ++ (l ++ [])) q ∙ sym (all-two t z)

-- of one node: it is reached from some root as before
pub others-all : (w : ℕ) (ws : List ℕ) (t t' : Words) (n : ℕ) → Arr w ws t → Arr w ws t' → elem n (reached (tree_at w t'))
    ≡ elem n (reached (tree_at w t)) → taken ws t' ≡ taken ws t
    → elem n (reached_all t') ≡ elem n (reached_all t)
others-all w ws t t' n r r' e q =
    let a = (arr-covers w ws t r).split n in
    let b = rw (e, q) at ((arr-covers w ws t' r').split n) in
    go (elem n (reached_all t')) (elem n (reached_all t)) (λ h. a.1 (b.0 h)) (λ h. b.1 (a.0 h))
  where
    go : (x y : Bool) → (x ≡ false → y ≡ false) → (y ≡ false → x ≡ false) → x ≡ y
    go true true f g = refl
    go true false f g = g refl
    go false y f g = sym (f refl)

-- the arrangement stays where word 3 is 0 or not as before
pub arr-lack : (w : ℕ) (ws : List ℕ) (t t' : Words) → ((at t' 3 ≡ 0) ↔ (at t 3 ≡ 0)) → Arr w ws t → Arr w ws t'
arr-lack w ws t t' e (inl h) = inl (h.0, (h.1.0, e.1 h.1.1))
arr-lack w ws t t' e (inr (inl h)) = inr (inl (h.0, (h.1.0, λ z. h.1.1 (e.0 z))))
arr-lack w ws t t' e (inr (inr h)) = inr (inr (h.0, (h.1.0, λ z. h.1.1 (e.0 z))))

-- stores that keep to their course leave the collections that are there
pub course-arr : (b w : ℕ) (ws : List ℕ) (t : Words) (ss : List Store) (m : List Slot) → Course b w ws t ss m
    → Arr w ws t → Arr w ws (apply ss t)
course-arr b w ws t ss m c r = arr-lack w ws t (apply ss t) (rw take-length at (c.lack (length ss))) r
