-- The tests that all writing calls share, one by one, and what their answer says of every call.
use Rattle.std.proofs.Common.{◌≡◌, ℕ, zero, suc, ◌-◌, ◌<◌, ◌≤◌, Bool, true, false, cond, ◌≢◌, List, [], ◌∷◌, ◌++◌, get_or, sym, refl, ap}
use Rattle.std.proofs.Common.{◌∙◌, arith, ltb-false, le-ltb, lt-ltb}
use mathlib.Core.Bool.{false≢true}
use Rattle.std.specs.Prelude as rust
use Rattle.std.proofs.Math.Option.{Option}
use Rattle.std.specs.Prelude.{is_some, None, Some, Ok, Err}
use Rattle.model.specs.declared.Refusal.{Refusal}
use Rattle.model.specs.Numbers.{refusal_of}
use Rattle.model.specs.Results.{Written, refused_with}
use Rattle.model.specs.declared.Node.{Node}
use Rattle.model.specs.Table.{Words, header_ok, header_number, no_collection, node}
use Rattle.model.specs.Slots.{Slot, View, view_from, node_view, height, used}
use Rattle.model.specs.Search.{path, first_with}
use Rattle.model.specs.Reached.{mapping}
use Rattle.model.specs.SoundTest.{sound_view, sound}
use Rattle.model.specs.Writes.{repaired, standing_in, Call}
use Rattle.model.specs.Refusals.{Test, first_number, has_key, seventeen_in, map_tests, eleven_in, ten_in, own_map, words_for, refusal}
use Rattle.table_laws.proofs.Header.{header-number-refused}
use Rattle.list_laws.proofs.Tools.{first-nil, not-false-iff}
use Rattle.tree_laws.proofs.Levels.{sound-orderly}
use Rattle.tree_laws.proofs.SearchLaw.{leaf_for, leaf-mem, leaf-covers, path-leaf, range-first}
use Rattle.change_laws.proofs.Pairs.{has-key-iff, has-key-found}
use Rattle.step_laws.proofs.Accepted.{none-holds}
use Rattle.two_laws.proofs.AcceptedTwo.{Allows, accepted-iff}
use Rattle.two_laws.proofs.SearchTwo.{sound-head}
use Rattle.two_laws.proofs.JudgedTwo.{number-on-sound}
use Rattle.node.specs.Word.{number_in}
use Rattle.slots.specs.Scan.{shown_from}
use Rattle.slots.specs.Held.{held_by}
use Rattle.sound.specs.declared.Leftover.{Leftover}
use Rattle.sound.specs.declared.Sound.{Sound}
use Rattle.sound.specs.Checked.{Checked, checked}
use Rattle.sound.proofs.JudgeLaws.{SoundWith, checked-sound, checked-unsound}
use Rattle.orders.specs.declared.Dock.TheVariants.{Ordered, Unordered}
use Rattle.orders.specs.Desk.{dock_of, dock_number}
use Rattle.write.specs.Judged.{shared_tests, shared, Judged, ready_with, judged}

-- ---- the answer, test by test

pub wrong-header : (words dock : ℕ) (t : Words) → header_number t ≢ 0 → refused_with (header_number t) ≡ judged false words dock t
unfolding judged shared header_number
wrong-header words dock t z = rw (header-number-refused t z, judged, shared)

-- 2 and 17, in one look
module _ (words dock : ℕ) (t : Words) (n : ℕ) where
  pub wrong-collection : number_in n t ≢ 0 → refused_with (number_in n t) ≡ judged (no_collection n t) words dock t
  unfolding judged shared number_in
  wrong-collection z = go (header_ok t) (no_collection n t) refl refl
    where
      go : (a b : Bool) → header_ok t ≡ a → no_collection n t ≡ b → refused_with (cond (header_ok t) (cond (no_collection n t) 17 0) 2)
          ≡ judged (no_collection n t) words dock t
      go false b f g = rw (f, judged, shared)
      go true true f g = rw (f, g, judged, shared)
      go true false f g = absurd (z (rw (f, g)))

  pub right-collection : number_in n t ≡ 0 → (header_ok t ≡ true) × (no_collection n t ≡ false)
  unfolding number_in
  right-collection z = go (header_ok t) (no_collection n t) refl refl
    where
      go : (a b : Bool) → header_ok t ≡ a → no_collection n t ≡ b → (header_ok t ≡ true) × (no_collection n t ≡ false)
      go false b f g = let q : ◌≡◌ {A = ℕ} 2 0 = sym (rw f) ∙ z in absurd (omega arith)
      go true true f g = let q : ◌≡◌ {A = ℕ} 17 0 = sym (rw (f, g)) ∙ z in absurd (omega arith)
      go true false f g = (f, g)

  pub judged-rest : number_in n t ≡ 0 → (j : Judged) → j ≡ judged false words dock t → j ≡ judged (no_collection n t) words dock t
  judged-rest z j q = rw (right-collection z).1 q

module _ (words dock : ℕ) (t : Words) (header : header_ok t ≡ true) where
  pub not-sound : checked t ≡ None → refused_with 4 ≡ judged false words dock t
  unfolding judged shared
  not-sound g = rw (header, (checked-unsound t).0 g, judged, shared)

  module _ (x : Leftover) (n : ℕ) (found : SoundWith t x n) where
    pub wrong-dock : 1 < dock → refused_with 18 ≡ judged false words dock t
    unfolding judged shared
    wrong-dock h = rw (header, found.is-sound, lt-ltb 1 dock h, judged, shared)

    module _ (ok : dock ≤ 1) (least : ℕ) (l : least ≡ words_for dock) where
      pub too-short : words < least → refused_with 5 ≡ judged false words dock t
      unfolding judged shared
      too-short h = rw (header, found.is-sound, le-ltb 1 dock ok, lt-ltb words (words_for dock) (rw l at h), judged, shared)

      pub all-passed : least ≤ words → Ok (record { leftover = x; reached = n }) ≡ judged false words dock t
      unfolding judged shared
      all-passed h = rw (
        header,
        found.is-sound,
        le-ltb 1 dock ok,
        le-ltb words (words_for dock) (rw l at h),
        (checked-sound t x n).1 found,
        judged,
        shared,
      )

-- the words that a list for the dock must have
pub words-ordered : (dock : ℕ) → dock_of dock ≡ Ordered → 2560 ≡ words_for dock
words-ordered zero e = refl
words-ordered (suc n) e = absurd (omega (arith, ap dock_number e))

pub words-unordered : (dock : ℕ) → dock_of dock ≡ Unordered → 5120 ≡ words_for dock
words-unordered zero e = absurd (omega (arith, ap dock_number e))
words-unordered (suc n) e = refl

-- ---- what the answer says

-- if one of the first tests holds, its number is that of all tests
pub first-shared : (cs ds : List Test) → first_number cs ≢ 0 → first_number (cs ++ ds) ≡ first_number cs
first-shared [] ds z = absurd (z refl)
first-shared (c ∷ cs) ds z = go c.holds z (first-shared cs ds)
  where
    go : (b : Bool) → cond b c.number (first_number cs) ≢ 0 → (first_number cs ≢ 0 → first_number (cs ++ ds) ≡ first_number cs)
        → cond b c.number (first_number (cs ++ ds)) ≡ cond b c.number (first_number cs)
    go true w ih = refl
    go false w ih = ih w

ready-sound : (c : Checked) (s : Sound) → ready_with c ≡ Ok s → c ≡ Some s
ready-sound None s e = let z : ◌≡◌ {A = ℕ} 0 1 = cc in absurd (omega arith)
ready-sound (Some u) s e = let p : u ≡ s = cc in ap Some p

refused-unsound : (c : Checked) (r : Refusal) → ready_with c ≡ Err r → c ≡ None
refused-unsound None r e = refl
refused-unsound (Some s) r e = let z : ◌≡◌ {A = ℕ} 0 1 = cc in absurd (omega arith)

-- none of the shared tests holds
record SharedPassed (seventeen : Bool) (words dock : ℕ) (t : Words) : Type 0 where
  collection : seventeen ≡ false
  sound : sound t ≡ true
  dock-ok : dock ≤ 1
  long : words_for dock ≤ words

shared-passed : (seventeen : Bool) (words dock : ℕ) (t : Words) → shared seventeen words dock t ≡ 0 → SharedPassed seventeen words dock t
unfolding shared
shared-passed seventeen words dock t e =
    let h = (none-holds (shared_tests seventeen words dock t)
    ((λ e. omega arith), ((λ e. omega arith), ((λ e. omega arith), ((λ e. omega arith), ((λ e. omega arith), tt)))))).0 e in
    record {
      collection = h.1.0;
      sound = (not-false-iff _).0 h.1.1.0;
      dock-ok = ltb-false 1 dock h.1.1.1.0;
      long = ltb-false words (words_for dock) h.1.1.1.1.0;
    }

module _ (y : Call) (words dock : ℕ) (t : Words) where
  abbrev number : ℕ
  number = shared (seventeen_in y t) words dock t

  -- the tests from 6 on, on the table as repair would leave it
  abbrev later : List Test
  later = let t' = repaired t in map_tests y (eleven_in y t') (ten_in y t') (own_map y t')

  -- a refused call
  shared-refused : number ≢ 0 → refusal y words dock t ≡ number
  unfolding refusal shared
  shared-refused z = first-shared (shared_tests (seventeen_in y t) words dock t) later z

  pub judged-refused :
      (r : Refusal) → judged (seventeen_in y t) words dock t ≡ Err r → (refusal y words dock t ≢ 0)
      × ◌≡◌ {A = Written} (refused_with (refusal y words dock t)) (Err r)
  unfolding judged
  judged-refused r = go number refl
    where
      go : (m : ℕ) → number ≡ m → judged (seventeen_in y t) words dock t ≡ Err r → (refusal y words dock t ≢ 0)
          × ◌≡◌ {A = Written} (refused_with (refusal y words dock t)) (Err r)
      go zero e q = absurd
          (false≢true (sym ((checked-unsound t).0 (refused-unsound (checked t) r (rw (e, judged) at q)))
          ∙ (shared-passed (seventeen_in y t) words dock t e).sound))
      go (suc m) e q =
          let f : refused_with (suc m) ≡ Err r = rw (e, judged) at q in
          let same : refusal_of (suc m) ≡ r = cc in
          let n : refusal y words dock t ≡ suc m = shared-refused (λ z. omega (arith, e, z)) ∙ e in
          ((λ z. omega (arith, n, z)), ap Err (ap refusal_of n ∙ same))

  pub record Passed (x : Leftover) (n : ℕ) : Type 0 where
    pub found : SoundWith t x n
    pub collection : seventeen_in y t ≡ false
    pub dock-ok : dock ≤ 1
    pub long : words_for dock ≤ words

  -- if the shared tests pass, the table is sound, the collection there, the dock right, and the list long enough
  pub judged-ready : (s : Sound) → judged (seventeen_in y t) words dock t ≡ Ok s → Passed s.leftover s.reached
  unfolding judged
  judged-ready s = go number refl
    where
      go : (m : ℕ) → number ≡ m → judged (seventeen_in y t) words dock t ≡ Ok s → Passed s.leftover s.reached
      go zero e q =
          let a = shared-passed (seventeen_in y t) words dock t e in
          record {
            found = (checked-sound t s.leftover s.reached).0 (ready-sound (checked t) s (rw (e, judged) at q));
            collection = a.collection;
            dock-ok = a.dock-ok;
            long = a.long;
          }
      go (suc m) e q =
          let r : refused_with (suc m) ≡ Ok s = rw (e, judged) at q in
          let z : ◌≡◌ {A = ℕ} 0 1 = cc in absurd (omega arith)

  module _ {x : Leftover} {n : ℕ} (p : Passed x n) where
    -- a call that the repaired table allows is accepted
    pub ready-accepted : Allows y (repaired t) → refusal y words dock t ≡ 0
    ready-accepted a = (accepted-iff y words dock t).1 (record {
      header = sound-head t p.found.is-sound;
      collection = p.collection;
      sound = p.found.is-sound;
      dock-ok = p.dock-ok;
      long = p.long;
      allows = a;
    })

    -- a call that one of its own tests refuses: 6 to 9 go by the own map of t
    pub ready-number : refusal y words dock t ≡ first_number (map_tests y (eleven_in y (repaired t)) (ten_in y (repaired t)) (own_map y t))
    ready-number = number-on-sound y words dock t p.found.is-sound p.collection
        ∙ rw (le-ltb 1 dock p.dock-ok, le-ltb words (words_for dock) p.long)

-- ---- whether the map of a tree has a key

-- the leaf n for k, which is x, holds the slot that the map has for k
module _ (t : Words) (o k n : ℕ) (x : Node) (h : rust.Option ℕ) (s : sound_view (view_from t o) ≡ true)
    (e : n ≡ standing_in (view_from t o) 0 k) (q : x ≡ node t n)
    (f : h ≡ held_by (first_with k (shown_from x.left x.slots 0))) where
  abbrev v : View
  v = view_from t o

  held-map : h ≡ held_by (first_with k (mapping (view_from t o)))
  unfolding standing_in used
  held-map =
      let o = sound-orderly v s in
      let c = leaf-covers v k o in
      let d : height v - 0 ≡ height v = omega arith in
      let l : n ≡ leaf_for v k = e ∙ ap (λ (i : ℕ). get_or (path v k) i 0) d ∙ path-leaf v k o in
      f ∙ ap (λ (y : Node). held_by (first_with k (shown_from y.left y.slots 0))) q
      ∙ ap (λ (m : ℕ). held_by (first_with k (node_view t m).shown)) l
      ∙ ap held_by (sym (range-first v k (leaf_for v k) o (leaf-mem v k o) c.fence c.inside))

  pub key-held : is_some h ≡ has_key k (mapping (view_from t o))
  key-held = ap is_some held-map ∙ go (has_key k (mapping v)) refl
    where
      go : (b : Bool) → has_key k (mapping v) ≡ b → is_some (held_by (first_with k (mapping v))) ≡ b
      go true g = ap (λ (s : Option Slot). is_some (held_by s)) (has-key-found k (mapping v) g).1
      go false g = ap (λ (s : Option Slot). is_some (held_by s)) (first-nil k (mapping v) ((has-key-iff k (mapping v)).0 g))
