-- What computes the answer says what is asked, for any list: where every count up to c holds, the images at c are what first parts leave,
-- each of
-- which was looked at.
use Rattle.std.proofs.Common.{◌≡◌, ℕ, suc, ◌≤◌, Bool, true, false, cond, not, ◌&&◌, ◌||◌, ◌⊎◌, ◌↔◌, List, [], ◌∷◌, ◌++◌, length, take, sym}
use Rattle.std.proofs.Common.{refl, ap, ◌∙◌, inl, inr, append_assoc, append-nil, arith, length-append, take_all}
use mathlib.Core.Bool.{false≢true}
use mathlib.Core.Logic.{⊎_map}
use mathlib.Core.Option.{Option, none, some}
use native.Mathlib.Decide.{dec_le}
use lib.Seq.{take-nil, take-append-le}
use Rattle.std.specs.Prelude.{Ok, Err, Some, None}
use Rattle.model.specs.Results.{Verdict}
use Rattle.model.specs.Table.{Words}
use Rattle.model.specs.Reached.{Maps, maps_of}
use Rattle.model.specs.SoundTest.{sound, settled}
use Rattle.model.specs.Sound.{Sound}
use Rattle.model.specs.Orders.{Order, carry}
use Rattle.model.specs.Cuts.{CutImage}
use Rattle.model.specs.Writes.{Call}
use Rattle.model.specs.Ledger.{change}
use Rattle.list_laws.proofs.Tools.{and-iff, or-iff, not-iff, compared}
use Rattle.cut_laws.proofs.Applying.{carry-append}
use Rattle.cut_laws.proofs.Images.{carry-image, cut-prefix}
use Rattle.two_laws.proofs.SameTwo.{sound-same, settled-same, settled-sound}
use Rattle.model.specs.Judge.{OneUnflushed, AllFlushed, OldOrNew, Completes, CountHolds, Says, same_maps, good_image, unflushed_after}
use Rattle.model.specs.Judge.{second_line, is_none, completes, judged_from, judged}
use Rattle.judge_laws.proofs.Compared.{maps-same}
use Rattle.judge_laws.proofs.Unflushed.{Holding, holding-nil, holding-one, holding-more, second-two}

-- ---- the two tests

-- an image is good exactly if it is sound and its maps are the old or the new ones
pub good-maps : (old new : Maps) (u : Words) → (good_image old new u ≡ true) ↔ ((sound u ≡ true) × ((maps_of u ≡ old) ⊎ (maps_of u ≡ new)))
unfolding good_image
good-maps old new u =
    let p = maps-same (maps_of u) old in
    let q = maps-same (maps_of u) new in
    let o = or-iff (same_maps (maps_of u) old) (same_maps (maps_of u) new) in
    let a = and-iff (sound u) (same_maps (maps_of u) old || same_maps (maps_of u) new) in
    (λ e. ((a.0 e).0, ⊎_map p.0 q.0 (o.0 (a.0 e).1)), λ h. a.1 (h.0, o.1 (⊎_map p.1 q.1 h.1)))

good-iff : (x : Call) (t u : Words) → (good_image (maps_of t) (change x (maps_of t)) u ≡ true) ↔ (Sound u × OldOrNew x t u)
good-iff x t u =
    let i = good-maps (maps_of t) (change x (maps_of t)) u in
    (λ e. ((sound-same u).0 (i.0 e).0, (i.0 e).1), λ h. i.1 ((sound-same u).1 h.0, h.1))

none-left : (l : Option ℕ) (os : List Order) → Holding l os → (is_none l ≡ true) ↔ AllFlushed os
none-left none os h = (λ e. h, λ a. refl)
none-left (some l) os h = (λ e. absurd (false≢true e), λ a. absurd (h.0 (a l)))

pub completes-iff : (x : Call) (t : Words) (os : List Order) (l : Option ℕ) (u : Words) → Holding l os → u ≡ carry os t
    → (completes (change x (maps_of t)) l u ≡ true) ↔ Completes x t os
unfolding completes
completes-iff x t os l u h e =
    let n = none-left l os h in
    let new = maps-same (maps_of u) (change x (maps_of t)) in
    let a = and-iff (is_none l) (settled u && same_maps (maps_of u) (change x (maps_of t))) in
    let b = and-iff (settled u) (same_maps (maps_of u) (change x (maps_of t))) in (
      λ c. let w = b.0 (a.0 c).1 in
          record { all-flushed = n.0 (a.0 c).0; settles = rw e at ((settled-same u).0 w.0); new-map = rw e at (new.0 w.1) },
      λ c. a.1 (n.1 c.all-flushed, b.1 ((settled-same u).1 (rw e c.settles), new.1 (rw e c.new-map))),
    )

first-more : {A : Type 0} (a : List A) (o : A) (b : List A) → take (suc (length a)) (a ++ (o ∷ b)) ≡ a ++ (o ∷ [])
first-more [] o b = refl
first-more (x ∷ a) o b = ap (λ q. x ∷ q) (first-more a o b)

-- ---- one order more

module _ (old new : Maps) (o : Order) (b : List Order) (c : ℕ) (l : Option ℕ) (u : Words) where
  -- after an order that leaves a good image and no second unflushed line, the orders after it are judged
  pub judged-goes : not (second_line l o) && good_image old new (carry (o ∷ []) u) ≡ true → judged_from old new (o ∷ b) c l u
      ≡ judged_from old new b (suc c) (unflushed_after l o) (carry (o ∷ []) u)
  unfolding judged_from
  judged-goes e = rw (e, judged_from)

  -- an order that leaves a bad image or a second unflushed line ends the judgement with its place
  pub judged-stops : not (second_line l o) && good_image old new (carry (o ∷ []) u) ≡ false
      → judged_from old new (o ∷ b) c l u ≡ Ok (Some (suc c))
  unfolding judged_from
  judged-stops e = rw (e, judged_from)

-- ---- the counts that were looked at

module _ (x : Call) (t : Words) where
  abbrev new : Maps
  new = change x (maps_of t)

  abbrev good : Words → Bool
  good u = good_image (maps_of t) new u

  abbrev rest : List Order → (c : ℕ) → Option ℕ → Words → Verdict
  rest os c l u = judged_from (maps_of t) new os c l u

  -- after these orders: l is the line that holds unflushed stores, and every first part held
  record Looked (a : List Order) (l : Option ℕ) : Type 0 where
    holding : Holding l a
    lines : (d : ℕ) → OneUnflushed (take d a)
    parts : (d : ℕ) → Sound (carry (take d a) t) × OldOrNew x t (carry (take d a) t)

  looked-nil : settled t ≡ true → Looked [] none
  unfolding carry
  looked-nil s =
      record {
        holding = holding-nil;
        lines = λ d. rw (take-nil {A = Order} d) (holding-one none [] holding-nil);
        parts = λ d. rw (take-nil {A = Order} d) ((sound-same t).0 (settled-sound t s), inl refl);
      }

  -- what holds of all first parts of a list and of the list with one order more
  by-parts : (P : List Order → Type 0) (a : List Order) (o : Order) → ((d : ℕ) → P (take d a)) → P (a ++ (o ∷ [])) → (d : ℕ)
      → P (take d (a ++ (o ∷ [])))
  by-parts P a o f p d = go (dec_le d (length a))
    where
      go : Dec (d ≤ length a) → P (take d (a ++ (o ∷ [])))
      go (yes h) = rw (take-append-le d a (o ∷ []) h) (f d)
      go (no h) = rw (take_all d (a ++ (o ∷ [])) (simp length-append (omega arith))) p

  looked-more : (a : List Order) (l : Option ℕ) (o : Order) → Looked a l → second_line l o ≡ false → good (carry (a ++ (o ∷ [])) t) ≡ true
      → Looked (a ++ (o ∷ [])) (unflushed_after l o)
  looked-more a l o k e g =
      let h = holding-more l a o k.holding e in
      record {
        holding = h;
        lines = by-parts OneUnflushed a o k.lines (holding-one (unflushed_after l o) (a ++ (o ∷ [])) h);
        parts = by-parts (λ (b : List Order). Sound (carry b t) × OldOrNew x t (carry b t)) a o k.parts
            ((good-iff x t (carry (a ++ (o ∷ [])) t)).0 g);
      }

  -- a count among them holds, but for completing the change
  looked-holds : (a b : List Order) (l : Option ℕ) → Looked a l → (d : ℕ) → d ≤ length a → (d ≡ length (a ++ b) → Completes x t (a ++ b))
      → CountHolds x t (a ++ b) d
  looked-holds a b l k d h w =
      record {
        one-line = rw (take-append-le d a b h) (k.lines d);
        images = λ m i. let i : CutImage 0 d t a m = rw (take-append-le d a b h) at i in let (j, q, e) =
            cut-prefix a t k.lines d m i in rw e (k.parts j);
        whole = w;
      }

  -- ---- the answer from there on

  -- all orders were looked at
  at-end : (a : List Order) (l : Option ℕ) (u : Words) → Looked a l → u ≡ carry a t
      → Says x t a (cond (completes new l u) (Ok None) (Ok (Some (length a))))
  at-end a l u k e = go (completes new l u) refl
    where
      i : (completes new l u ≡ true) ↔ Completes x t a
      i = completes-iff x t a l u k.holding e

      holds : (d : ℕ) → d ≤ length a → (d ≡ length a → Completes x t a) → CountHolds x t a d
      holds d h w = rw append-nil at (looked-holds a [] l k d h (rw append-nil w))

      go : (b : Bool) → completes new l u ≡ b → Says x t a (cond b (Ok None) (Ok (Some (length a))))
      go true c = λ d h. holds d h (λ q. i.0 c)
      go false c = (omega arith, λ d h. holds d (omega arith) (λ q. absurd (omega arith)), λ h. false≢true (sym c ∙ i.1 (h.whole refl)))

  -- an order that fails
  at-order : (a : List Order) (o : Order) (b : List Order) (l : Option ℕ) (u : Words) → Looked a l → u ≡ carry (a ++ (o ∷ [])) t
      → not (second_line l o) && good u ≡ false → Says x t (a ++ (o ∷ b)) (Ok (Some (suc (length a))))
  at-order a o b l u k e f = (
    simp length-append (omega arith),
    λ d h. looked-holds a (o ∷ b) l k d (omega arith) (λ q. absurd (omega (arith, simp length-append at q))),
    λ h. fails (second_line l o) refl h,
  )
    where
      all : take (suc (length a)) (a ++ (o ∷ b)) ≡ a ++ (o ∷ [])
      all = first-more a o b

      fails : (s : Bool) → second_line l o ≡ s → CountHolds x t (a ++ (o ∷ b)) (suc (length a)) → ⊥
      fails true q h = second-two l a o k.holding q (rw all at h.one-line)
      fails false q h =
          let g : good u ≡ false = rw q at f in
          let i : CutImage 0 (suc (length a)) t (a ++ (o ∷ b)) u = rw e (rw all (carry-image (a ++ (o ∷ [])) t)) in
          false≢true (sym g ∙ (good-iff x t u).1 (h.images u i))

  from : (b a : List Order) (c : ℕ) (l : Option ℕ) (u : Words) → Looked a l → c ≡ length a → u ≡ carry a t
      → Says x t (a ++ b) (rest b c l u)
  unfolding judged_from
  from [] a c l u k n e = rw (n, append-nil) (at-end a l u k e)
  from (o ∷ b) a c l u k n e = go (not (second_line l o) && good (carry (o ∷ []) u)) refl (from b (a ++ (o ∷ [])))
    where
      next : carry (o ∷ []) u ≡ carry (a ++ (o ∷ [])) t
      next = rw e (sym (carry-append a (o ∷ []) t))

      go : (g : Bool) → not (second_line l o) && good (carry (o ∷ []) u) ≡ g
          → ((c : ℕ) (l : Option ℕ) (u : Words) → Looked (a ++ (o ∷ [])) l → c ≡ length (a ++ (o ∷ [])) → u ≡ carry (a ++ (o ∷ [])) t
          → Says x t ((a ++ (o ∷ [])) ++ b) (rest b c l u))
          → Says x t (a ++ (o ∷ b)) (rest (o ∷ b) c l u)
      go true q ih =
          let w = (and-iff (not (second_line l o)) (good (carry (o ∷ []) u))).0 q in
          let m = looked-more a l o k ((not-iff (second_line l o)).0 w.0) (rw next at w.1) in
          rw (judged-goes (maps_of t) new o b c l u q)
          (rw append_assoc at (ih (suc c) (unflushed_after l o) (carry (o ∷ []) u) m (rw n (simp length-append (omega arith))) next))
      go false q ih = rw (judged-stops (maps_of t) new o b c l u q, n) (at-order a o b l (carry (o ∷ []) u) k next q)

-- The answer says what is asked of any list on a settled table.
pub judged-says : (x : Call) (t : Words) (os : List Order) → settled t ≡ true → Says x t os (judged x t os)
unfolding judged carry
judged-says x t os s = from x t os [] 0 none t (looked-nil x t s) refl refl

-- ---- there is one answer

says-same : (x : Call) (t : Words) (os : List Order) (a b : Verdict) → Says x t os a → Says x t os b → a ≡ b
says-same x t os (Err n) b h k = absurd h
says-same x t os (Ok None) (Err n) h k = absurd k
says-same x t os (Ok None) (Ok None) h k = refl
says-same x t os (Ok None) (Ok (Some c)) h k = absurd (k.2 (h c k.0))
says-same x t os (Ok (Some c)) (Err n) h k = absurd k
says-same x t os (Ok (Some c)) (Ok None) h k = absurd (h.2 (k c h.0))
says-same x t os (Ok (Some c)) (Ok (Some d)) h k =
    elim (compared c d) [
      | inl l ↦ absurd (h.2 (k.1 c l))
      | inr (inl e) ↦ ap (λ (c : ℕ). Ok (Some c)) e
      | inr (inr g) ↦ absurd (k.2 (h.1 d g))
    ]

-- Yes exactly if no count fails; no with c exactly if c is the first that fails.
pub judged-iff : (x : Call) (t : Words) (os : List Order) (r : Verdict) → settled t ≡ true → (judged x t os ≡ r) ↔ Says x t os r
judged-iff x t os r s = (λ e. rw e at (judged-says x t os s), λ h. says-same x t os (judged x t os) r (judged-says x t os s) h)
