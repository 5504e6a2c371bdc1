-- The state of the loop against the definition.
use Rattle.std.proofs.Common.{◌≡◌, ℕ, zero, suc, ◌+◌, ◌-◌, ◌*◌, ◌<◌, ◌≤◌, Bool, true, false, not, ◌&&◌, eqb, leb, List, [], ◌∷◌, ◌++◌}
use Rattle.std.proofs.Common.{length, get_or, take, set, Some, None, Option, sym, refl, ap, ◌∙◌, subst, ⊎_elim, append-nil, arith}
use Rattle.std.proofs.Common.{length-append, length-set, length-take-le, get_or-set_other, get_or-set_same, take-suc-set, eq-eqb, ne_eqb}
use Rattle.model.specs.Table.{Words, in_range, nodes}
use Rattle.model.specs.Slots.{node_view}
use Rattle.model.specs.Reached.{flat}
use Rattle.model.specs.SoundTest.{elem}
use Rattle.list_laws.proofs.Tools.{leb-iff, same-or-not, refuted}
use Rattle.list_laws.proofs.Distinct.{pigeonhole}
use Rattle.model.specs.Salvage.{Meeting, meet, meetings, may_enter, start, entered_from}
use Rattle.bits.specs.Bits.{has, put}
use Rattle.bits.proofs.Marks.{has-put-same, has-put-other}
use Rattle.tour_laws.specs.Walk.{ways_from, Frame, frame, todo_of}
use Rattle.tour_laws.proofs.Steps.{may-iff}
use Rattle.tour_laws.proofs.Ends.{Numbers}
use Rattle.tour_laws.proofs.Remaining.{remaining, remaining-none, remaining-no, remaining-enter, more-last, elem-last}
use Rattle.tour_laws.proofs.Recursion.{remaining-start}
use Rattle.tour.specs.declared.Met.{Met}
use Rattle.tour.specs.declared.Sight.{Sight}
use Rattle.tour.specs.Loop.{Looked, Marked, met_by, unmarked}

-- the stack, the top first
unfoldable pub frames_to : Words → Words → ℕ → List Frame
frames_to st ws zero = []
frames_to st ws (suc d) = frame (get_or st d 0) (get_or ws d 0) ∷ frames_to st ws d

-- the ways not yet looked at, and one for each node on the stack
unfoldable pub to_go : Words → ℕ → ℕ
to_go ws zero = 0
to_go ws (suc d) = suc (14 - get_or ws d 0) + to_go ws d

-- 15 for each node that is not entered
unfoldable pub measure : Words → Words → ℕ → ℕ → ℕ
measure t ws count depth = 15 * (nodes t - count) + to_go ws depth

-- whole are the nodes entered in the end, those from before with them
pub record Going (t : Words) (whole : List ℕ) (ms st ws os : Words) (count depth : ℕ) : Type 0 where
  pub rest : take count os ++ remaining t (todo_of t (frames_to st ws depth)) (take count os) ≡ whole
  pub numbers : Numbers t (take count os)
  pub inside : count ≤ length os
  pub deep : depth ≤ count
  pub marked : Marked t ms (take count os)

-- ---- marks

pub same-may : (t ms : Words) (es : List ℕ) (i l : ℕ) → Marked t ms es → unmarked t ms i l ≡ may_enter t (meet i l) es
unfolding unmarked may_enter
same-may t ms es i l m = go (in_range (nodes t) i) refl
  where
    go : (b : Bool) → in_range (nodes t) i ≡ b → (b && (eqb (node_view t i).level l && not (has ms i)))
        ≡ (b && (eqb (node_view t i).level l && not (elem i es)))
    go true c = ap (λ (y : Bool). eqb (node_view t i).level l && not y) (m i c)
    go false c = refl

-- one mark more
marked-last : (t ms : Words) (es : List ℕ) (i : ℕ) → i < 64 * length ms → Marked t ms es → Marked t (put ms i) (es ++ i ∷ [])
unfolding elem
marked-last t ms es i l m n h =
    let same : has (put ms i) n ≡ elem n (i ∷ es) =
    ⊎_elim (λ e. let q = ap (has (put ms i)) e ∙ has-put-same ms i l in rw (q, eq-eqb n i e))
    (λ e. rw (has-put-other ms i n l e, ne_eqb n i e) (m n h)) (same-or-not n i) in
    same ∙ sym (elem-last n i es)

-- ---- words set past the part in use

frames-way : (st ws : Words) (d i x : ℕ) → d ≤ i → frames_to st (set ws i x) d ≡ frames_to st ws d
unfolding frames_to
frames-way st ws zero i x h = refl
frames-way st ws (suc d) i x h =
    rw (get_or-set_other ws i d x 0 (λ z. omega arith))
    (ap (λ (l : List Frame). frame (get_or st d 0) (get_or ws d 0) ∷ l) (frames-way st ws d i x (omega arith)))

frames-stack : (st ws : Words) (d i x : ℕ) → d ≤ i → frames_to (set st i x) ws d ≡ frames_to st ws d
unfolding frames_to
frames-stack st ws zero i x h = refl
frames-stack st ws (suc d) i x h =
    rw (get_or-set_other st i d x 0 (λ z. omega arith))
    (ap (λ (l : List Frame). frame (get_or st d 0) (get_or ws d 0) ∷ l) (frames-stack st ws d i x (omega arith)))

go-set : (ws : Words) (d i x : ℕ) → d ≤ i → to_go (set ws i x) d ≡ to_go ws d
unfolding to_go
go-set ws zero i x h = refl
go-set ws (suc d) i x h =
    rw (get_or-set_other ws i d x 0 (λ z. omega arith)) (ap (λ (m : ℕ). suc (14 - get_or ws d 0) + m) (go-set ws d i x (omega arith)))

-- the top's next way is set
top-set : (st ws : Words) (d z : ℕ) → d < length ws → frames_to st (set ws d z) (suc d) ≡ frame (get_or st d 0) z ∷ frames_to st ws d
unfolding frames_to
top-set st ws d z h =
    rw (get_or-set_same ws d z 0 h) (ap (λ (l : List Frame). frame (get_or st d 0) z ∷ l) (frames-way st ws d d z (omega arith)))

ways-over : (t : Words) (n w : ℕ) → 13 < w → ways_from t n w ≡ []
unfolding ways_from
ways-over t n zero h = absurd (omega arith)
ways-over t n (suc j) h = rw (refuted (leb j 12) (λ e. let u = (leb-iff j 12).0 e in omega arith), ways_from)

module _ (t : Words) (whole : List ℕ) (ms st ws os : Words) (count d : ℕ) (s : Going t whole ms st ws os count (suc d)) where
  abbrev es : List ℕ
  es = take count os

  abbrev later : List Meeting
  later = todo_of t (frames_to st ws d)

  opened : todo_of t (frames_to st ws (suc d)) ≡ ways_from t (get_or st d 0) (get_or ws d 0) ++ later
  unfolding frames_to todo_of flat
  opened = refl

  pub few : count ≤ nodes t
  few = omega (arith, length-take-le count os s.inside, pigeonhole (nodes t) es s.numbers.apart s.numbers.range)

  -- the top is done
  pub going-pop : 13 < get_or ws d 0 → Going t whole ms st ws os count d
  going-pop h = record {
    rest = ap (λ (l : List Meeting). es ++ remaining t l es)
        (sym (opened ∙ ap (λ (l : List Meeting). l ++ later) (ways-over t (get_or st d 0) (get_or ws d 0) h))) ∙ s.rest;
    numbers = s.numbers;
    inside = s.inside;
    deep = omega (arith, s.deep);
    marked = s.marked;
  }

  pub less-pop : measure t ws count d < measure t ws count (suc d)
  unfolding measure to_go
  less-pop = omega arith

  module _ (r : Sight) (k : Looked t (get_or st d 0) (get_or ws d 0) r) (lw : d < length ws) where
    set-todo : todo_of t (frames_to st (set ws d r.way) (suc d)) ≡ ways_from t (get_or st d 0) r.way ++ later
    unfolding todo_of flat
    set-todo = ap (todo_of t) (top-set st ws d r.way lw)

    pub less-pass : measure t (set ws d r.way) count (suc d) < measure t ws count (suc d)
    unfolding measure to_go
    less-pass = let e = get_or-set_same ws d r.way 0 lw in let q = go-set ws d d r.way (omega arith) in omega (arith, e, q, k.1, k.2)

    -- nothing was met
    pub going-on : r.met ≡ None → Going t whole ms st (set ws d r.way) os count (suc d)
    going-on m = record {
      rest = ap (λ (l : List Meeting). es ++ remaining t l es)
          (set-todo ∙ sym (opened
          ∙ ap (λ (l : List Meeting). l ++ later) (k.0 ∙ ap (λ (o : Option Met). met_by o ++ ways_from t (get_or st d 0) r.way) m)))
          ∙ s.rest;
      numbers = s.numbers;
      inside = s.inside;
      deep = s.deep;
      marked = s.marked;
    }

    module _ (y : Met) (m : r.met ≡ Some y) where
      abbrev x : Meeting
      x = meet y.node y.level

      met : todo_of t (frames_to st ws (suc d)) ≡ x ∷ (ways_from t (get_or st d 0) r.way ++ later)
      met = opened ∙ ap (λ (l : List Meeting). l ++ later) (k.0 ∙ ap (λ (o : Option Met). met_by o ++ ways_from t (get_or st d 0) r.way) m)

      same : unmarked t ms y.node y.level ≡ may_enter t x es
      same = same-may t ms es y.node y.level s.marked

      -- it may not be entered
      pub going-refused : unmarked t ms y.node y.level ≡ false → Going t whole ms st (set ws d r.way) os count (suc d)
      going-refused c = record {
        rest = ap (λ (l : List Meeting). es ++ remaining t l es) set-todo
            ∙ ap (λ (l : List ℕ). es ++ l)
            (sym (ap (λ (l : List Meeting). remaining t l es) met
            ∙ remaining-no t x (ways_from t (get_or st d 0) r.way ++ later) es (sym same ∙ c)))
            ∙ s.rest;
        numbers = s.numbers;
        inside = s.inside;
        deep = s.deep;
        marked = s.marked;
      }

      module _ (c : unmarked t ms y.node y.level ≡ true) where
        may : may_enter t x es ≡ true
        may = sym same ∙ c

        pub in-range : in_range (nodes t) y.node ≡ true
        in-range = ((may-iff t x es).0 may).0

        more : Numbers t (es ++ y.node ∷ [])
        more = more-last t x es may s.numbers

        pub room : count < nodes t
        room = omega (
          arith,
          length-take-le count os s.inside,
          length-append es (y.node ∷ []),
          pigeonhole (nodes t) (es ++ y.node ∷ []) more.apart more.range,
        )

        module _ (lm : y.node < 64 * length ms) (ls : suc d < length st) (lv : suc d < length ws) (lo : count < length os) where
          new-es : take (suc count) (set os count y.node) ≡ es ++ y.node ∷ []
          new-es = take-suc-set os count y.node lo

          new-frames : frames_to (set st (suc d) y.node) (set (set ws d r.way) (suc d) 0) (suc (suc d)) ≡ frame y.node 0
              ∷ frame (get_or st d 0) r.way ∷ frames_to st ws d
          new-frames =
              let v = set ws d r.way in
              let lv' : suc d < length v = rw (length-set ws d r.way) lv in
              top-set (set st (suc d) y.node) v (suc d) 0 lv'
              ∙ ap (λ (n : ℕ). frame n 0 ∷ frames_to (set st (suc d) y.node) v (suc d)) (get_or-set_same st (suc d) y.node 0 ls)
              ∙ ap (λ (l : List Frame). frame y.node 0 ∷ l)
              (frames-stack st v (suc d) (suc d) y.node (omega arith) ∙ top-set st ws d r.way lw)

          -- it is entered
          pub going-enter : Going t whole (put ms y.node) (set st (suc d) y.node) (set (set ws d r.way) (suc d) 0) (set os count y.node)
              (suc count) (suc (suc d))
          unfolding todo_of flat ways_from
          going-enter = record {
            rest = ap (λ (l : List ℕ). l
                ++ remaining t (todo_of t (frames_to (set st (suc d) y.node) (set (set ws d r.way) (suc d) 0) (suc (suc d)))) l) new-es
                ∙ ap (λ (l : List Frame). (es ++ y.node ∷ []) ++ remaining t (todo_of t l) (es ++ y.node ∷ [])) new-frames
                ∙ remaining-enter t x (ways_from t (get_or st d 0) r.way ++ later) es s.numbers may
                ∙ ap (λ (l : List Meeting). es ++ remaining t l es) (sym met)
                ∙ s.rest;
            numbers = subst (λ (l : List ℕ). Numbers t l) (sym new-es) more;
            inside = omega (arith, lo, length-set os count y.node);
            deep = omega (arith, s.deep);
            marked = subst (λ (l : List ℕ). Marked t (put ms y.node) l) (sym new-es) (marked-last t ms es y.node lm s.marked);
          }

          pub less-enter : measure t (set (set ws d r.way) (suc d) 0) (suc count) (suc (suc d)) < measure t ws count (suc d)
          unfolding measure to_go
          less-enter =
              let v = set ws d r.way in
              let e = get_or-set_same v (suc d) 0 0 (rw (length-set ws d r.way) lv) in
              let q = go-set v (suc d) (suc d) 0 (omega arith) in
              let p = less-pass in
              omega (arith, e, q, p, room)

-- ---- the beginning and the end

module _ (t : Words) (r : ℕ) (os : Words) (before : ℕ) where
  abbrev earlier : List ℕ
  earlier = take before os

  abbrev all : List ℕ
  all = earlier ++ entered_from t r earlier

  module _ (u : Numbers t earlier) where
    whole-is : all ≡ earlier ++ remaining t (start t r) earlier
    whole-is = ap (λ (l : List ℕ). earlier ++ l) (remaining-start t r earlier u)

    -- the root may not be entered
    pub none-more : may_enter t (meet r (node_view t r).level) earlier ≡ false → earlier ≡ all
    none-more c = sym (whole-is
        ∙ ap (λ (l : List ℕ). earlier ++ l)
        (remaining-no t (meet r (node_view t r).level) [] earlier c ∙ remaining-none t earlier) ∙ append-nil earlier)

    pub going-start : (ms st ws : Words) → may_enter t (meet r (node_view t r).level) earlier ≡ true → Marked t ms earlier
        → r < 64 * length ms → 0 < length st → 0 < length ws → before < length os
        → Going t all (put ms r) (set st 0 r) (set ws 0 0) (set os before r) (suc before) 1
    going-start ms st ws may m lm ls lw lo =
        let x = meet r (node_view t r).level in
        let new-es : take (suc before) (set os before r) ≡ earlier ++ r ∷ [] = take-suc-set os before r lo in
        let new-frames : frames_to (set st 0 r) (set ws 0 0) 1 ≡ frame r 0 ∷ [] =
        unfold frames_to in rw (get_or-set_same st 0 r 0 ls, get_or-set_same ws 0 0 0 lw) in
        let todo : todo_of t (frame r 0 ∷ []) ≡ meetings t r ++ [] = unfold todo_of flat ways_from in refl in
        record {
          rest = ap (λ (l : List ℕ). l ++ remaining t (todo_of t (frames_to (set st 0 r) (set ws 0 0) 1)) l) new-es
              ∙ ap (λ (l : List Frame). (earlier ++ r ∷ []) ++ remaining t (todo_of t l) (earlier ++ r ∷ [])) new-frames
              ∙ ap (λ (l : List Meeting). (earlier ++ r ∷ []) ++ remaining t l (earlier ++ r ∷ [])) todo
              ∙ remaining-enter t x [] earlier u may
              ∙ sym whole-is;
          numbers = subst (λ (l : List ℕ). Numbers t l) (sym new-es) (more-last t x earlier may u);
          inside = omega (arith, lo, length-set os before r);
          deep = omega arith;
          marked = subst (λ (l : List ℕ). Marked t (put ms r) l) (sym new-es) (marked-last t ms earlier r lm m);
        }

pub going-end : (t : Words) (whole : List ℕ) (ms st ws os : Words) (count : ℕ) → Going t whole ms st ws os count 0 → take count os ≡ whole
going-end t whole ms st ws os count s =
    let es = take count os in
    let e : todo_of t (frames_to st ws 0) ≡ [] = unfold frames_to todo_of flat in refl in
    sym (append-nil es) ∙ ap (λ (l : List ℕ). es ++ l) (sym (ap (λ (l : List Meeting). remaining t l es) e ∙ remaining-none t es)) ∙ s.rest
