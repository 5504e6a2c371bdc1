-- Sound tables of one or two collections: the sentences and the tests say the same, on every list of words.
use Rattle.std.proofs.Common.{◌≡◌, ℕ, Bool, true, false, cond, eqb, ◌≢◌, ◌⊎◌, ◌↔◌, [], ◌++◌, sym, refl, ◌∙◌, inl, inr, append-nil, arith}
use Rattle.std.proofs.Common.{ne_eqb}
use mathlib.Core.Bool.{false≢true}
use mathlib.Core.Logic.{⊎_map}
use mathlib.Core.Option.{some}
use Rattle.model.specs.Table.{Words, at, nodes, in_range, no_collection}
use Rattle.model.specs.Slots.{View, view_of}
use Rattle.model.specs.Reached.{reached}
use Rattle.model.specs.SoundTest.{elem, distinct, Leftover, nothing, leftover, settled_view, sound_view, orderly, sound, settled}
use Rattle.model.specs.Sound.{Reached, SettledBut, IsLeft, Settled, Sound}
use Rattle.list_laws.proofs.Tools.{same-or-not}
use Rattle.list_laws.proofs.Members.{each-mem, mem-each, elem-none, elem-iff}
use Rattle.list_laws.proofs.Distinct.{distinct-append}
use Rattle.table_laws.proofs.Collections.{by-number}
use Rattle.tree_laws.proofs.Rows.{range-iff}
use Rattle.tree_laws.proofs.Levels.{orderly-iff}
use Rattle.tree_laws.proofs.Leftovers.{settled-sound-view}
use Rattle.sound_laws.proofs.Same.{passes-same, settled-view, sound-view, sound-orderly, reached-same}
use Rattle.two_laws.proofs.Arrange.{Head, head-iff, settled-parts, sound-parts, trees-one, trees-two, all-one, all-two, all-single}
use Rattle.two_laws.proofs.Arrange.{all-pair, one-left, two-left}

-- ---- the collections that there are

-- collection 1 is always there
pub first-there : (t : Words) → no_collection 1 t ≡ false
unfolding no_collection
first-there t = refl

-- collection 2 is there if word 3 is not 0
pub second-there : (t : Words) → at t 3 ≢ 0 → no_collection 2 t ≡ false
unfolding no_collection
second-there t z = rw (ne_eqb (at t 3) 0 z)

range-two : (t : Words) → Head t → at t 3 ≢ 0 → in_range (nodes t) (at t 3) ≡ true
range-two t h z = (range-iff (nodes t) (at t 3)).1 (omega (arith, z), (h.two z).0)

-- ---- no node is reached from both roots

module _ (t : Words) (z : at t 3 ≢ 0) (a : orderly (view_of 1 t) ≡ true) (b : orderly (view_of 2 t) ≡ true) where
  apart-from : distinct (reached (view_of 1 t) ++ (reached (view_of 2 t) ++ [])) ≡ true → (m : ℕ) → Reached (view_of 1 t) m
      → Reached (view_of 2 t) m → ⊥
  apart-from d m p q =
      let e = ((distinct-append (reached (view_of 1 t)) (reached (view_of 2 t))).0 (rw (append-nil (reached (view_of 2 t))) at d)).2 in
      let i = (elem-iff m (reached (view_of 1 t))).0 ((reached-same (view_of 1 t) a m).0 p) in
      false≢true (sym (each-mem (λ (n : ℕ). elem n (reached (view_of 2 t)) ≡ false) e i) ∙ (reached-same (view_of 2 t) b m).0 q)

  apart-to : ((m : ℕ) → Reached (view_of 1 t) m → Reached (view_of 2 t) m → ⊥)
      → distinct (reached (view_of 1 t) ++ (reached (view_of 2 t) ++ [])) ≡ true
  apart-to f = rw (append-nil (reached (view_of 2 t)))
      ((distinct-append (reached (view_of 1 t)) (reached (view_of 2 t))).1 (
        ((orderly-iff (view_of 1 t)).0 a).once,
        ((orderly-iff (view_of 2 t)).0 b).once,
        mem-each (λ (n : ℕ). elem n (reached (view_of 2 t)) ≡ false) (reached (view_of 1 t)) (λ m h. (elem-none m (reached (view_of 2 t))).1
            (λ g. f m ((reached-same (view_of 1 t) a m).1 ((elem-iff m (reached (view_of 1 t))).1 h))
            ((reached-same (view_of 2 t) b m).1 ((elem-iff m (reached (view_of 2 t))).1 g)))),
      ))

-- a settled tree is orderly
pub settled-orderly : (v : View) → settled_view v ≡ true → orderly v ≡ true
settled-orderly v s = sound-orderly v (settled-sound-view v s)

-- ---- the tests, collection by collection

pub record EachSettled (t : Words) : Type 0 where
  pub head : Head t
  pub one : settled_view (view_of 1 t) ≡ true
  pub two : at t 3 ≢ 0 → settled_view (view_of 2 t) ≡ true
  pub once : at t 3 ≢ 0 → distinct (reached (view_of 1 t) ++ (reached (view_of 2 t) ++ [])) ≡ true

pub record EachSound (t : Words) : Type 0 where
  pub head : Head t
  pub one : sound_view (view_of 1 t) ≡ true
  pub two : at t 3 ≢ 0 → sound_view (view_of 2 t) ≡ true
  pub once : at t 3 ≢ 0 → distinct (reached (view_of 1 t) ++ (reached (view_of 2 t) ++ [])) ≡ true
  pub left : at t 3 ≢ 0 → (settled_view (view_of 1 t) ≡ true) ⊎ (settled_view (view_of 2 t) ≡ true)

once-alone : (t : Words) → orderly (view_of 1 t) ≡ true → distinct (reached (view_of 1 t) ++ []) ≡ true
once-alone t o = rw (append-nil (reached (view_of 1 t))) ((orderly-iff (view_of 1 t)).0 o).once

-- a table is settled exactly if its header is right, its trees are settled, and they share no node
pub each-settled : (t : Words) → (settled t ≡ true) ↔ EachSettled t
each-settled t = (to (same-or-not (at t 3) 0), from (same-or-not (at t 3) 0))
  where
    to : (at t 3 ≡ 0) ⊎ (at t 3 ≢ 0) → settled t ≡ true → EachSettled t
    to (inl z) s = let u =
        (settled-parts t).0 s in record {
          head = u.0;
          one = (all-single settled_view (view_of 1 t)).0 (rw (trees-one t z) at u.1);
          two = λ y. absurd (y z);
          once = λ y. absurd (y z);
        }
    to (inr z) s =
        let u = (settled-parts t).0 s in
        let p = (all-pair settled_view (view_of 1 t) (view_of 2 t)).0 (rw (trees-two t z) at u.1) in
        record { head = u.0; one = p.0; two = λ y. p.1; once = λ y. rw (all-two t z) at u.2 }

    from : (at t 3 ≡ 0) ⊎ (at t 3 ≢ 0) → EachSettled t → settled t ≡ true
    from (inl z) h = (settled-parts t).1 (
      h.head,
      rw (trees-one t z) ((all-single settled_view (view_of 1 t)).1 h.one),
      rw (all-one t z) (once-alone t (settled-orderly (view_of 1 t) h.one)),
    )
    from (inr z) h = (settled-parts t).1
        (h.head, rw (trees-two t z) ((all-pair settled_view (view_of 1 t) (view_of 2 t)).1 (h.one, h.two z)), rw (all-two t z) (h.once z))

-- a table is sound exactly if its header is right, its trees are sound, one is settled, and they share no node
pub each-sound : (t : Words) → (sound t ≡ true) ↔ EachSound t
each-sound t = (to (same-or-not (at t 3) 0), from (same-or-not (at t 3) 0))
  where
    to : (at t 3 ≡ 0) ⊎ (at t 3 ≢ 0) → sound t ≡ true → EachSound t
    to (inl z) s =
        let u = (sound-parts t).0 s in
        record {
          head = u.0;
          one = (all-single sound_view (view_of 1 t)).0 (rw (trees-one t z) at u.1);
          two = λ y. absurd (y z);
          once = λ y. absurd (y z);
          left = λ y. absurd (y z);
        }
    to (inr z) s =
        let u = (sound-parts t).0 s in
        let p = (all-pair sound_view (view_of 1 t) (view_of 2 t)).0 (rw (trees-two t z) at u.1) in
        record {
          head = u.0;
          one = p.0;
          two = λ y. p.1;
          once = λ y. rw (all-two t z) at u.2;
          left = λ y. (two-left (view_of 1 t) (view_of 2 t)).0 (rw (trees-two t z) at u.3);
        }

    from : (at t 3 ≡ 0) ⊎ (at t 3 ≢ 0) → EachSound t → sound t ≡ true
    from (inl z) h = (sound-parts t).1 (
      h.head,
      rw (trees-one t z) ((all-single sound_view (view_of 1 t)).1 h.one),
      rw (all-one t z) (once-alone t (sound-orderly (view_of 1 t) h.one)),
      rw (trees-one t z) (one-left (view_of 1 t)),
    )
    from (inr z) h = (sound-parts t).1 (
      h.head,
      rw (trees-two t z) ((all-pair sound_view (view_of 1 t) (view_of 2 t)).1 (h.one, h.two z)),
      rw (all-two t z) (h.once z),
      rw (trees-two t z) ((two-left (view_of 1 t) (view_of 2 t)).1 (h.left z)),
    )

-- a settled table is sound
pub settled-sound : (t : Words) → settled t ≡ true → sound t ≡ true
settled-sound t s =
    let h = (each-settled t).0 s in
    (each-sound t).1 (record {
      head = h.head;
      one = settled-sound-view (view_of 1 t) h.one;
      two = λ z. settled-sound-view (view_of 2 t) (h.two z);
      once = h.once;
      left = λ z. inl h.one;
    })

-- ---- settled

-- Settled: the test and the sentences say the same.
pub settled-same : (t : Words) → (settled t ≡ true) ↔ Settled t
settled-same t = (λ s. to ((each-settled t).0 s), λ s. (each-settled t).1 (from s))
  where
    to : EachSettled t → Settled t
    to h = record {
      header = (head-iff t).1 h.head;
      settled = by-number t (λ (n : ℕ). SettledBut (view_of n t) nothing) ((settled-view (view_of 1 t) h.head.one).0 h.one)
          (λ z. (settled-view (view_of 2 t) (range-two t h.head z)).0 (h.two z));
      apart = λ z m p q. apart-from t z (settled-orderly (view_of 1 t) h.one) (settled-orderly (view_of 2 t) (h.two z)) (h.once z) m p q;
    }

    from : Settled t → EachSettled t
    from s =
        let h = (head-iff t).0 s.header in
        let one = (settled-view (view_of 1 t) h.one).1 (s.settled 1 (first-there t)) in
        let two : at t 3 ≢ 0 → settled_view (view_of 2 t) ≡ true =
        λ z. (settled-view (view_of 2 t) (range-two t h z)).1 (s.settled 2 (second-there t z)) in
        record {
          head = h;
          one = one;
          two = two;
          once = λ z. apart-to t z (settled-orderly (view_of 1 t) one) (settled-orderly (view_of 2 t) (two z)) (s.apart z);
        }

-- ---- sound

record LeftIn (v : View) : Type 0 where
  leftover : Leftover
  left : IsLeft v leftover
  settled-but : SettledBut v leftover
  none : settled_view v ≡ true → leftover ≡ nothing

left-in : (v : View) → in_range v.nodes v.root ≡ true → sound_view v ≡ true → LeftIn v
left-in v r s = go (settled_view v) refl
  where
    go : (b : Bool) → settled_view v ≡ b → LeftIn v
    go true e = record { leftover = nothing; left = tt; settled-but = (settled-view v r).0 e; none = λ q. refl }
    go false e = let u =
        (sound-view v r).0 s in record { leftover = u.0; left = u.1; settled-but = u.2; none = λ q. absurd (false≢true (sym e ∙ q)) }

-- Sound: the test and the sentences say the same.
pub sound-same : (t : Words) → (sound t ≡ true) ↔ Sound t
sound-same t = (λ s. to ((each-sound t).0 s) (same-or-not (at t 3) 0), λ s. (each-sound t).1 (from s))
  where
    to : EachSound t → (at t 3 ≡ 0) ⊎ (at t 3 ≢ 0) → Sound t
    to h (inl z) =
        let l = left-in (view_of 1 t) h.head.one h.one in
        record {
          header = (head-iff t).1 h.head;
          leftover = λ n. l.leftover;
          left = by-number t (λ (n : ℕ). IsLeft (view_of n t) l.leftover) l.left (λ y. absurd (y z));
          settled-but = by-number t (λ (n : ℕ). SettledBut (view_of n t) l.leftover) l.settled-but (λ y. absurd (y z));
          one-left = λ y. absurd (y z);
          apart = λ y. absurd (y z);
        }
    to h (inr z) =
        let l = left-in (view_of 1 t) h.head.one h.one in
        let m = left-in (view_of 2 t) (range-two t h.head z) (h.two z) in
        let lefts : ℕ → Leftover = λ (n : ℕ). cond (eqb n 1) l.leftover m.leftover in
        record {
          header = (head-iff t).1 h.head;
          leftover = lefts;
          left = by-number t (λ (n : ℕ). IsLeft (view_of n t) (lefts n)) l.left (λ y. m.left);
          settled-but = by-number t (λ (n : ℕ). SettledBut (view_of n t) (lefts n)) l.settled-but (λ y. m.settled-but);
          one-left = λ y. ⊎_map l.none m.none (h.left z);
          apart = λ y n p q. apart-from t z (sound-orderly (view_of 1 t) h.one) (sound-orderly (view_of 2 t) (h.two z)) (h.once z) n p q;
        }

    from : Sound t → EachSound t
    from s =
        let h = (head-iff t).0 s.header in
        let one = (sound-view (view_of 1 t) h.one).1 (s.leftover 1, s.left 1 (first-there t), s.settled-but 1 (first-there t)) in
        let two : at t 3 ≢ 0 → sound_view (view_of 2 t) ≡ true =
        λ z. (sound-view (view_of 2 t) (range-two t h z)).1
        (s.leftover 2, s.left 2 (second-there t z), s.settled-but 2 (second-there t z)) in
        record {
          head = h;
          one = one;
          two = two;
          once = λ z. apart-to t z (sound-orderly (view_of 1 t) one) (sound-orderly (view_of 2 t) (two z)) (s.apart z);
          left = λ z. ⊎_map
              (λ e. (settled-view (view_of 1 t) h.one).1 (rw e at (s.settled-but 1 (first-there t))))
              (λ e. (settled-view (view_of 2 t) (range-two t h z)).1 (rw e at (s.settled-but 2 (second-there t z)))) (s.one-left z);
        }

-- Each tree of a sound table has one leftover: the one that the test finds.
pub leftover-same : (n : ℕ) (t : Words) (s : Sound t) → no_collection n t ≡ false → leftover (view_of n t) ≡ some (s.leftover n)
leftover-same n t s h =
    let f = (head-iff t).0 s.header in
    ((passes-same (view_of n t) (by-number t (λ (n : ℕ). in_range (nodes t) (view_of n t).root ≡ true) f.one (range-two t f) n h)
    (s.leftover n)).1 (s.left n h, s.settled-but n h)).leftover
