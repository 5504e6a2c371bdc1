-- The leftover, the room in the parent, and the whole check, as their code meets them.
use Rattle.std.proofs.Common.{◌≡◌, ℕ, Bool, true, false, cond, ◌&&◌, leb, ◌↔◌, List, [], ◌∷◌, length, sym, refl, ap, ◌∙◌, arith}
use mathlib.Core.Bool.{false≢true, and-false}
use mathlib.Core.Option.{Option, none, some}
use Rattle.model.specs.declared.Node.{Node}
use Rattle.std.specs.Prelude.{None, Some, is_some}
use Rattle.std.proofs.lemmas.Option.{none-some, same_Some}
use Rattle.model.specs.declared.Visited.{Visited}
use Rattle.model.specs.Table.{Words, node}
use Rattle.model.specs.Slots.{used, View, view_from, view}
use Rattle.model.specs.Reached.{reached, mapping, trees, reached_all}
use Rattle.model.specs.SoundTest as model
use Rattle.model.specs.SoundTest.{all, orderly, recordings_ok, leftover_of, leftover, is_nothing, is_allowed, has_room, room, sound_view}
use Rattle.model.specs.SoundTest.{leftover_in, leftover_all, sound}
use Rattle.list_laws.proofs.Tools.{and-iff}
use Rattle.view_laws.proofs.AnyRoot.{any-room}
use Rattle.walk_laws.specs.Walk.{walk}
use Rattle.walk_laws.proofs.WalkLaw.{Passed, walk-iff, judged, sound-walk}
use Rattle.sound.specs.declared.Leftover.{Leftover}
use Rattle.sound.specs.declared.Leftover.TheVariants.{Nothing, HiddenIn, MissingIn, BothIn}
use Rattle.sound.specs.declared.Sound.{Sound}
use Rattle.slots.specs.Scan.{shown_from}
pub use Rattle.sound.specs.Checked.{SoundWith}
use Rattle.sound.specs.Checked.{meant, said, verdict_of, found, sound_with, checked_tree, checked}

-- ---- room in the parent

pub room-is : (t : Words) (n : ℕ) (x : Node) (r : ℕ) → x ≡ node t n → r ≡ length (shown_from x.left x.slots 0) → leb r 10 ≡ room (view t) n
unfolding room used
room-is t n x r e q = ap (λ (k : ℕ). leb k 10) (q ∙ ap (λ (y : Node). length (shown_from y.left y.slots 0)) e)

pub room-any : (t : Words) (r q : ℕ) (l : model.Leftover) → has_room (view_from t r) l ≡ has_room (view_from t q) l
room-any t r q model.nothing = refl
room-any t r q (model.hidden_in x) = refl
room-any t r q (model.missing_in p a b) = any-room t r q p
room-any t r q (model.both_in p a) = any-room t r q p

-- ---- answers and what they mean

meant-said : (y : model.Leftover) → meant (said y) ≡ y
meant-said model.nothing = refl
meant-said (model.hidden_in x) = refl
meant-said (model.missing_in p a b) = refl
meant-said (model.both_in p a) = refl

pub said-meant : (x : Leftover) → said (meant x) ≡ x
said-meant Nothing = refl
said-meant (HiddenIn x) = refl
said-meant (MissingIn p a b) = refl
said-meant (BothIn p a) = refl

allowed-is : (o : Option model.Leftover) (x : Leftover) → Some x ≡ verdict_of o → o ≡ some (meant x)
allowed-is none x e = absurd (none-some x (sym e))
allowed-is (some y) x e = let z = same_Some x (said y) e in sym (ap (λ (u : Leftover). some (meant u)) z ∙ ap some (meant-said y))

too-much : (o : Option model.Leftover) → None ≡ verdict_of o → o ≡ none
too-much none e = refl
too-much (some y) e = absurd (none-some (said y) e)

-- ---- the check of a tree

module _ (v : View) where
  refused : sound_view v ≡ false → None ≡ checked_tree v
  unfolding checked_tree
  refused e = rw (e, checked_tree)

  pub wrong-walk : None ≡ walk v → None ≡ checked_tree v
  wrong-walk e = refused (sound-walk v ∙ ap (judged v) (sym e))

-- a tree whose walk reached so many nodes and found so much unfinished
module _ (v : View) (s : Visited) (walked : Some s ≡ walk v) where
  abbrev right : Bool
  right = recordings_ok (mapping v)

  passed : Passed v s.count s.unfinished
  passed = (walk-iff v s.count s.unfinished).0 (sym walked)

  sound-is : sound_view v ≡ (right && is_allowed v (leftover_of s.unfinished))
  sound-is = sound-walk v ∙ ap (judged v) (sym walked)

  not-allowed : is_allowed v (leftover_of s.unfinished) ≡ false → None ≡ checked_tree v
  not-allowed a = refused v (sound-is ∙ rw (a, and-false right))

  pub wrong-leftover : None ≡ verdict_of (leftover_of s.unfinished) → None ≡ checked_tree v
  wrong-leftover m = not-allowed (ap (is_allowed v) (too-much (leftover_of s.unfinished) m))

  module _ (x : Leftover) (a : Some x ≡ verdict_of (leftover_of s.unfinished)) where
    pub allowed : leftover_of s.unfinished ≡ some (meant x)
    allowed = allowed-is (leftover_of s.unfinished) x a

    pub wrong-room : has_room v (meant x) ≡ false → None ≡ checked_tree v
    wrong-room h = not-allowed (ap (is_allowed v) allowed ∙ h)

    pub wrong-recordings : right ≡ false → None ≡ checked_tree v
    wrong-recordings g = refused v (sound-is ∙ rw g)

    pub all-right : has_room v (meant x) ≡ true → right ≡ true → found x s.count ≡ checked_tree v
    unfolding checked_tree leftover
    all-right h g =
        let yes-sound : sound_view v ≡ true = sound-is ∙ rw g (ap (is_allowed v) allowed ∙ h) in
        rw (yes-sound, checked_tree)
        (ap (λ (y : Leftover). found y s.count) (sym (said-meant x)) ∙ ap (found (said (meant x))) passed.count-is
        ∙ ap (λ (o : Option model.Leftover). sound_with true o (length (reached v)))
        (sym (ap leftover_of (sym passed.unfinished-is) ∙ allowed)))

-- ---- what an answer says

module _ (b : Bool) (o : Option model.Leftover) (n : ℕ) where
  with-sound : (c : ℕ) (x : Leftover) → (sound_with b o n ≡ found x c) ↔ ((b ≡ true) × ((o ≡ some (meant x)) × (c ≡ n)))
  with-sound c x = go b o
    where
      go : (b : Bool) (o : Option model.Leftover) → (sound_with b o n ≡ found x c) ↔ ((b ≡ true) × ((o ≡ some (meant x)) × (c ≡ n)))
      go false o = (λ e. absurd (none-some _ e), λ u. absurd (false≢true u.0))
      go true none = (λ e. absurd (none-some _ e), λ u. let z : ◌≡◌ {A = ℕ} 0 1 = cc in absurd (omega arith))
      go true (some y) = (
        λ e. let z = same_Some _ _ e in
            (refl, (ap some (sym (meant-said y) ∙ ap (λ (u : Sound). meant u.leftover) z), ap (λ (u : Sound). u.reached) (sym z))),
        λ u. let z : y ≡ meant x = cc in
            ap (λ (l : model.Leftover). found (said l) n) z ∙ ap (λ (l : Leftover). found l n) (said-meant x) ∙ ap (found x) (sym u.1.1),
      )

  with-unsound : (b ≡ true → o ≡ none → ⊥) → (sound_with b o n ≡ None) ↔ (b ≡ false)
  with-unsound h = go b o h
    where
      go : (b : Bool) (o : Option model.Leftover) → (b ≡ true → o ≡ none → ⊥) → (sound_with b o n ≡ None) ↔ (b ≡ false)
      go false o h = (λ e. refl, λ e. refl)
      go true none h = absurd (h refl refl)
      go true (some y) h = (λ e. absurd (none-some _ (sym e)), λ e. absurd (false≢true (sym e)))

-- of a tree
pub record SoundTree (v : View) (x : Leftover) (c : ℕ) : Type 0 where
  pub is-sound : sound_view v ≡ true
  pub leftover-is : leftover v ≡ some (meant x)
  pub reached-are : c ≡ length (reached v)

module _ (v : View) where
  some-left : sound_view v ≡ true → leftover v ≡ none → ⊥
  unfolding sound_view
  some-left e n = false≢true (sym (ap (is_allowed v) n) ∙ ((and-iff (orderly v) (is_allowed v (leftover v))).0 e).1)

  -- if the check of a tree finds leftover x and c nodes, the tree is sound, with x left over and c nodes reached
  pub tree-sound : (x : Leftover) (c : ℕ) → checked_tree v ≡ found x c → SoundTree v x c
  unfolding checked_tree
  tree-sound x c q = let u =
      (with-sound (sound_view v) (leftover v) (length (reached v)) c x).0 q in record
      { is-sound = u.0; leftover-is = u.1.0; reached-are = u.1.1 }

  -- if the check of a tree finds nothing, the tree is not sound
  pub tree-unsound : checked_tree v ≡ None → sound_view v ≡ false
  unfolding checked_tree
  tree-unsound q = (with-unsound (sound_view v) (leftover v) (length (reached v)) some-left).0 q

-- of a table
some-of : (vs : List View) → all sound_view vs ≡ true → leftover_in vs ≡ none → ⊥
unfolding all leftover_in
some-of [] s n = let z : ◌≡◌ {A = ℕ} 0 1 = cc in absurd (omega arith)
some-of (v ∷ vs) s n = let u = (and-iff _ _).0 s in go (is_nothing (leftover v)) n (some-left v u.0) (some-of vs u.1)
  where
    go : (b : Bool) → cond b (leftover_in vs) (leftover v) ≡ none → (leftover v ≡ none → ⊥) → (leftover_in vs ≡ none → ⊥) → ⊥
    go true n a b = b n
    go false n a b = a n

sound-some : (t : Words) → sound t ≡ true → leftover_all t ≡ none → ⊥
unfolding sound
sound-some t e = some-of (trees t) (simp and-iff at e).1.0

-- the check finds leftover x and c nodes exactly if the table is sound, with x left over and c nodes reached
pub checked-sound : (t : Words) (x : Leftover) (c : ℕ) → (checked t ≡ found x c) ↔ SoundWith t x c
unfolding checked
checked-sound t x c =
    let i = with-sound (sound t) (leftover_all t) (length (reached_all t)) c x in (
      λ q. let u = i.0 q in record { is-sound = u.0; leftover-is = u.1.0; reached-are = u.1.1 },
      λ s. i.1 (s.is-sound, (s.leftover-is, s.reached-are)),
    )

-- the check finds nothing exactly if the table is not sound
pub checked-unsound : (t : Words) → (checked t ≡ None) ↔ (sound t ≡ false)
unfolding checked
checked-unsound t = with-unsound (sound t) (leftover_all t) (length (reached_all t)) (sound-some t)

pub checked-some : (t : Words) → is_some (checked t) ≡ sound t
unfolding checked
checked-some t = go (sound t) (leftover_all t) (sound-some t)
  where
    go : (b : Bool) (o : Option model.Leftover) → (b ≡ true → o ≡ none → ⊥) → is_some (sound_with b o (length (reached_all t))) ≡ b
    go false o h = refl
    go true none h = absurd (h refl refl)
    go true (some y) h = refl
