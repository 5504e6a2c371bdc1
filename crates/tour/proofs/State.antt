-- The whole state of the tour's loop, and its steps as the code takes them.
use Rattle.std.proofs.Common.{◌≡◌, ℕ, suc, ◌+◌, ◌*◌, ◌<◌, ◌≤◌, Bool, true, false, List, [], ◌∷◌, ◌++◌, length, get_or, take, set, Some}
use Rattle.std.proofs.Common.{None, sym, ap, ◌∙◌, subst, add-one, arith, length-append, length-set, length-take-le}
use lib.Seq.{take-set-le}
use Rattle.model.specs.declared.Node.{Node}
use Rattle.model.specs.Table.{Words, in_range, nodes, node}
use Rattle.model.specs.Slots.{node_view}
use Rattle.model.specs.Salvage.{Meeting, meet, may_enter, entered_from}
use Rattle.list_laws.proofs.Tools.{Each-map, all-each}
use Rattle.list_laws.proofs.Distinct.{UpTo, pigeonhole}
use Rattle.table_laws.proofs.Header.{header-iff}
use Rattle.tree_laws.proofs.Rows.{range-iff}
use Rattle.bits.specs.Bits.{put}
use Rattle.bits.proofs.Marks.{put-length}
use Rattle.tour_laws.proofs.Steps.{may-iff}
use Rattle.tour_laws.proofs.Ends.{Numbers}
use Rattle.tour_laws.proofs.Remaining.{more-last}
use Rattle.tour.specs.declared.Met.{Met}
use Rattle.tour.specs.declared.Sight.{Sight}
use Rattle.tour.specs.Loop.{Looked, Marked, Ready, unmarked}
use Rattle.tour.proofs.Going.{Going, measure, same-may, none-more, going-start, going-end, going-pop, going-on, going-refused, going-enter}
use Rattle.tour.proofs.Going.{less-pop, less-pass, less-enter, room, in-range}

-- each of the four slices has a word, or a mark, for every number
pub record Long (ms st ws os : Words) : Type 0 where
  pub marks : length ms ≡ 1024
  pub stack : length st ≡ 65536
  pub ways : length ws ≡ 65536
  pub order : length os ≡ 65536

pub long : {ms st ws os : Words} → length ms ≡ 1024 → length st ≡ 65536 → length ws ≡ 65536 → length os ≡ 65536 → Long ms st ws os
long a b c d = record { marks = a; stack = b; ways = c; order = d }

pub record State (t : Words) (whole : List ℕ) (before : ℕ) (ms st ws os : Words) (count depth : ℕ) : Type 0 where
  pub few : nodes t ≤ 65535
  pub more : before ≤ count
  pub entered-few : count ≤ nodes t
  pub deep : depth ≤ count
  pub wide : Long ms st ws os
  pub going : Going t whole ms st ws os count depth

-- all that is entered in the end; the root's word stands past those entered before
abbrev pub whole_from : (t : Words) (r before : ℕ) (os : Words) → List ℕ
whole_from t r before os = take before os ++ entered_from t r (take before os)

whole-set : (t : Words) (r before : ℕ) (os : Words) → whole_from t r before (set os before r) ≡ whole_from t r before os
whole-set t r before os = ap (λ (es : List ℕ). es ++ entered_from t r es) (take-set-le before os before r (omega arith))

module _ (t ms st ws os : Words) (before : ℕ) (h : Ready t ms os before) (z : Long ms st ws os) where
  pub top-few : nodes t ≤ 65535
  top-few = ((header-iff t).0 h.header).size.few

  -- the nodes entered before
  numbers : Numbers t (take before os)
  numbers = record {
    apart = h.apart;
    range = Each-map (λ (n : ℕ). in_range (nodes t) n ≡ true) (UpTo (nodes t)) (take before os) (λ n e. (range-iff (nodes t) n).0 e)
        ((all-each (in_range (nodes t)) (take before os)).0 h.range);
  }

  module _ (r : ℕ) (n : Node) (e : n ≡ node t r) (b : Bool) (q : b ≡ unmarked t ms r n.level) where
    abbrev x : Meeting
    x = meet r (node_view t r).level

    may : may_enter t x (take before os) ≡ b
    may = sym (q ∙ ap (λ (x : Node). unmarked t ms r x.level) e ∙ same-may t ms (take before os) r (node_view t r).level h.marked)

    -- the root may not be entered
    pub root-not : b ≡ false → (take before os ≡ whole_from t r before os) × Marked t ms (take before os)
        × ((before ≤ before) × (before ≤ nodes t))
    root-not y = (none-more t r os before numbers (may ∙ y), h.marked, (omega arith, h.few))

    module _ (y : b ≡ true) where
      root-in : (1 ≤ r) × (r ≤ nodes t)
      root-in = (range-iff (nodes t) r).0 ((may-iff t x (take before os)).0 (may ∙ y)).0

      pub root-few : r ≤ 65535
      root-few = omega (arith, root-in.1, top-few)

      pub before-less : before < nodes t
      before-less =
          let m = more-last t x (take before os) (may ∙ y) numbers in
          omega (
            arith,
            pigeonhole (nodes t) (take before os ++ r ∷ []) m.apart m.range,
            length-append (take before os) (r ∷ []),
            length-take-le before os (omega (arith, h.few, top-few, z.order)),
          )

      pub state-start : (ms' : Words) → ms' ≡ put ms r
          → State t (whole_from t r before (set os before r)) before ms' (set st 0 r) (set ws 0 0) (set os before r) (before + 1) 1
      state-start ms' p =
          let l = before-less in
          let f = top-few in
          record {
            few = f;
            more = omega arith;
            entered-few = omega arith;
            deep = omega arith;
            wide = record {
              marks = ap length p ∙ put-length ms r ∙ z.marks;
              stack = length-set st 0 r ∙ z.stack;
              ways = length-set ws 0 0
                  ∙ z.ways;
              order = length-set os before r ∙ z.order;
            };
            going = rw (p, add-one before, whole-set t r before os)
                (going-start t r os before numbers ms st ws (may ∙ y) h.marked (omega (arith, root-few, z.marks)) (omega (arith, z.stack))
                (omega (arith, z.ways)) (omega (arith, z.order)));
          }

module _ (t : Words) (whole : List ℕ) (before : ℕ) (ms st ws os : Words) (count depth d : ℕ) (e : depth ≡ suc d)
    (s : State t whole before ms st ws os count depth) where
  here : Going t whole ms st ws os count (suc d)
  here = subst (λ (k : ℕ). Going t whole ms st ws os count k) e s.going

  pub state-pop : 13 < get_or ws d 0 → State t whole before ms st ws os count d
  state-pop h = record {
    few = s.few;
    more = s.more;
    entered-few = s.entered-few;
    deep = omega (arith, e, s.deep);
    wide = s.wide;
    going = going-pop t whole ms st ws os count d here h;
  }

  pub pop-less : measure t ws count d < measure t ws count depth
  pop-less = subst (λ (k : ℕ). measure t ws count d < measure t ws count k) (sym e) (less-pop t whole ms st ws os count d here)

  pub way-in : d < length ws
  way-in = omega (arith, e, s.deep, s.entered-few, s.few, s.wide.ways)

  module _ (r : Sight) (k : Looked t (get_or st d 0) (get_or ws d 0) r) where
    with-way : Going t whole ms st (set ws d r.way) os count (suc d) → State t whole before ms st (set ws d r.way) os count depth
    with-way g =
        let l = s.wide in
        record {
          few = s.few;
          more = s.more;
          entered-few = s.entered-few;
          deep = s.deep;
          wide = record { marks = l.marks; stack = l.stack; ways = length-set ws d r.way ∙ l.ways; order = l.order };
          going = subst (λ (k : ℕ). Going t whole ms st (set ws d r.way) os count k) (sym e) g;
        }

    pub state-on : r.met ≡ None → State t whole before ms st (set ws d r.way) os count depth
    state-on m = with-way (going-on t whole ms st ws os count d here r k way-in m)

    pub state-refused : (y : Met) → r.met ≡ Some y → (b : Bool) → b ≡ unmarked t ms y.node y.level → b ≡ false
        → State t whole before ms st (set ws d r.way) os count depth
    state-refused y m b q z = with-way (going-refused t whole ms st ws os count d here r k way-in y m (sym q ∙ z))

    pub pass-less : measure t (set ws d r.way) count depth < measure t ws count depth
    pass-less = subst (λ (j : ℕ). measure t (set ws d r.way) count j < measure t ws count j) (sym e)
        (less-pass t whole ms st ws os count d here r k way-in)

    module _ (y : Met) (m : r.met ≡ Some y) (b : Bool) (q : b ≡ unmarked t ms y.node y.level) (h : b ≡ true) where
      abbrev c : unmarked t ms y.node y.level ≡ true
      c = sym q ∙ h

      pub node-few : y.node ≤ 65535
      node-few = omega (arith, s.few, ((range-iff (nodes t) y.node).0 (in-range t whole ms st ws os count d here r k way-in y m c)).1)

      pub count-less : count < nodes t
      count-less = omega (arith, room t whole ms st ws os count d here r k way-in y m c)

      abbrev a : y.node < 64 * length ms
      a = omega (arith, node-few, s.wide.marks)

      abbrev u : suc d < length st
      u = omega (arith, e, s.deep, count-less, s.few, s.wide.stack)

      abbrev w : suc d < length ws
      w = omega (arith, e, s.deep, count-less, s.few, s.wide.ways)

      abbrev o : count < length os
      o = omega (arith, count-less, s.few, s.wide.order)

      pub state-enter : (ms' : Words) → ms' ≡ put ms y.node
          → State t whole before ms' (set st depth y.node) (set (set ws d r.way) depth 0) (set os count y.node) (count + 1) (depth + 1)
      state-enter ms' z =
          let l = s.wide in
          record {
            few = s.few;
            more = omega (arith, s.more);
            entered-few = omega (arith, count-less);
            deep = omega (arith, s.deep);
            wide = record {
              marks = ap length z ∙ put-length ms y.node ∙ l.marks;
              stack = length-set st depth y.node ∙ l.stack;
              ways = length-set (set ws d r.way) depth 0 ∙ length-set ws d r.way ∙ l.ways;
              order = length-set os count y.node ∙ l.order;
            };
            going = rw z (subst (λ (j : ℕ). Going t whole (put ms y.node) (set st j y.node) (set (set ws d r.way) j 0) (set os count y.node)
                (count + 1) (j + 1)) (sym e)
                (rw (add-one count, add-one (suc d)) (going-enter t whole ms st ws os count d here r k way-in y m c a u w o)));
          }

      pub enter-less : measure t (set (set ws d r.way) depth 0) (count + 1) (depth + 1) < measure t ws count depth
      enter-less = subst (λ (j : ℕ). measure t (set (set ws d r.way) j 0) (count + 1) (j + 1) < measure t ws count j) (sym e)
          (rw (add-one count, add-one (suc d)) (less-enter t whole ms st ws os count d here r k way-in y m c a u w o))

pub state-end : (t : Words) (r before : ℕ) (os₀ ms st ws os : Words) (count depth : ℕ) → depth ≡ 0
    → State t (whole_from t r before (set os₀ before r)) before ms st ws os count depth
    → (take count os ≡ whole_from t r before os₀) × Marked t ms (take count os) × ((before ≤ count) × (count ≤ nodes t))
state-end t r before os₀ ms st ws os count depth e s =
    let whole = whole_from t r before (set os₀ before r) in (
      going-end t whole ms st ws os count (subst (λ (k : ℕ). Going t whole ms st ws os count k) e s.going) ∙ whole-set t r before os₀,
      s.going.marked,
      (s.more, s.entered-few),
    )
