-- What is unfinished, node by node: a settled tree has nothing at any reached node, and each leftover says which node has what.
use Rattle.std.proofs.Common.{◌≡◌, ℕ, zero, suc, Bool, true, false, eqb, ◌≢◌, ◌↔◌, List, ◌∷◌, ◌++◌, length, sym, refl, ap, ◌∙◌, arith}
use Rattle.std.proofs.Common.{eq-eqb, ne_eqb, eqb-true}
use mathlib.Core.Bool.{false≢true}
use mathlib.Core.Logic.Iff
use mathlib.Core.List.{Memᴰ}
use mathlib.Core.Option.{Option, none, some}
use borrow.Author.Tests.{eqb-false}
use Rattle.model.specs.declared.Few.{Few}
use Rattle.model.specs.declared.Few.TheVariants.{Zero, One, Many}
use Rattle.model.specs.declared.MissingSlot.{MissingSlot}
use Rattle.model.specs.declared.Unfinished.{Unfinished}
use Rattle.model.specs.Slots.{View}
use Rattle.model.specs.Reached.{kept, named, next_child, fill_row, children, reached}
use Rattle.model.specs.SoundTest.{distinct, linked, finished, add_few, together, under, times, trailing_in, own, row_unfinished}
use Rattle.model.specs.SoundTest.{unfinished_at, unfinished}
use Rattle.model.specs.SoundTest.{Leftover, nothing, hidden_in, missing_in, both_in, leftover, has_room, is_nothing, is_allowed, orderly}
use Rattle.model.specs.SoundTest.{settled_view, sound_view}
use Rattle.list_laws.proofs.Tools.{and-iff, Each}
use Rattle.list_laws.proofs.Members.{each-mem, each-iff}
use Rattle.tree_laws.proofs.Levels.{Orderly, orderly-iff}
use Rattle.tree_laws.proofs.Gaps.{row-only, row-nowhere, Gap, row-under, fill-whole, fill-gap}
use Rattle.tree_laws.proofs.Kept.{by-level, kept-whole}
use Rattle.tree_laws.proofs.Sums.{same-unfinished, total-hidden, total-trailing, total-missing, few-atom, OnlyAt, only-map, total-none}
use Rattle.tree_laws.proofs.Sums.{total-only, total-finished, amount, leftover-amount}

-- ---- hidden and trailing slots of one node

times-zero : (n h : ℕ) → (times n h ≡ Zero) ↔ (h ≡ 0)
times-zero n zero = (λ e. refl, λ e. refl)
times-zero n (suc zero) = (λ e. (let q : ◌≡◌ {A = ℕ} 0 1 = cc in absurd (omega arith)), λ e. absurd (omega arith))
times-zero n (suc (suc h)) = (λ e. (let q : ◌≡◌ {A = ℕ} 0 1 = cc in absurd (omega arith)), λ e. absurd (omega arith))

times-one : (n h x : ℕ) → (times n h ≡ One x) ↔ ((n ≡ x) × (h ≡ 1))
times-one n zero x = (λ e. (let q : ◌≡◌ {A = ℕ} 0 1 = cc in absurd (omega arith)), λ u. absurd (omega (arith, u.1)))
times-one n (suc zero) x = (λ e. ((cc), refl), λ u. ap One u.0)
times-one n (suc (suc h)) x = (λ e. (let q : ◌≡◌ {A = ℕ} 0 1 = cc in absurd (omega arith)), λ u. absurd (omega (arith, u.1)))

trailing-yes : (v : View) (n : ℕ) → eqb (length (kept v n)) (length (v.node n).shown) ≡ true → trailing_in v n ≡ Zero
unfolding trailing_in
trailing-yes v n c = rw (c, trailing_in)

trailing-no : (v : View) (n : ℕ) → eqb (length (kept v n)) (length (v.node n).shown) ≡ false → trailing_in v n ≡ One n
unfolding trailing_in
trailing-no v n c = rw (c, trailing_in)

pub trailing-zero : (v : View) (n : ℕ) → (trailing_in v n ≡ Zero) ↔ (kept v n ≡ (v.node n).shown)
trailing-zero v n = (λ e. go (eqb (length (kept v n)) (length (v.node n).shown)) refl e, λ e. trailing-yes v n (eq-eqb _ _ (ap length e)))
  where
    go : (b : Bool) → eqb (length (kept v n)) (length (v.node n).shown) ≡ b → trailing_in v n ≡ Zero → kept v n ≡ (v.node n).shown
    go true c e = (kept-whole v n).0 (eqb-true _ _ c)
    go false c e = let h : One n ≡ Zero = sym (trailing-no v n c) ∙ e in let q : ◌≡◌ {A = ℕ} 0 1 = cc in absurd (omega arith)

pub trailing-one : (v : View) (n x : ℕ) → (trailing_in v n ≡ One x) ↔ ((n ≡ x) × (kept v n ≢ (v.node n).shown))
trailing-one v n x = (
  λ e. go (eqb (length (kept v n)) (length (v.node n).shown)) refl e,
  λ u. trailing-no v n (ne_eqb _ _ (λ q. u.1 ((kept-whole v n).0 q))) ∙ ap One u.0,
)
  where
    go : (b : Bool) → eqb (length (kept v n)) (length (v.node n).shown) ≡ b → trailing_in v n ≡ One x → (n ≡ x)
        × (kept v n ≢ (v.node n).shown)
    go true c e = let h : Zero ≡ One x = sym (trailing-yes v n c) ∙ e in let q : ◌≡◌ {A = ℕ} 0 1 = cc in absurd (omega arith)
    go false c e = let h : One n ≡ One x = sym (trailing-no v n c) ∙ e in ((cc), λ q. eqb-false _ _ c (ap length q))

-- ---- one node

-- in a leaf nothing is unfinished but in its own slots
pub at-leaf : (v : View) (n : ℕ) → (v.node n).level ≡ 0 → unfinished_at v n ≡ together (own v n) finished
unfolding unfinished_at
at-leaf v n e = rw (eq-eqb (v.node n).level 0 e, unfinished_at)

at-inner : (v : View) (n : ℕ) → (v.node n).level ≢ 0 → unfinished_at v n
    ≡ together (own v n) (row_unfinished v n (named v n) (next_child v n))
unfolding unfinished_at
at-inner v n z = rw (ne_eqb (v.node n).level 0 z, unfinished_at)

few-right : {A : Type 0} (x y : Few A) → y ≡ Zero → add_few x y ≡ x
few-right Zero y e = e
few-right (One x) y e = rw e
few-right Many y e = refl

by-leaf : (v : View) (P : Type 0) (n : ℕ) → ((v.node n).level ≡ 0 → P) → ((v.node n).level ≢ 0 → P) → P
by-leaf v P n a b = by-level v (λ (n : ℕ). P) n a (λ d e. b (λ z. omega arith))

pub at-hidden : (v : View) (n : ℕ) → (unfinished_at v n).hidden ≡ times n (v.node n).hidden
unfolding own
at-hidden v n = by-leaf v _ n (λ e. rw (at-leaf v n e) (few-right _ Zero refl))
    (λ z. rw (at-inner v n z) (few-right _ _ (row-only v n (named v n) (next_child v n)).0))

pub at-trailing : (v : View) (n : ℕ) → (unfinished_at v n).trailing ≡ trailing_in v n
unfolding own
at-trailing v n = by-leaf v _ n (λ e. rw (at-leaf v n e) (few-right _ Zero refl))
    (λ z. rw (at-inner v n z) (few-right _ _ (row-only v n (named v n) (next_child v n)).1))

pub missing-leaf : (v : View) (n : ℕ) → (v.node n).level ≡ 0 → (unfinished_at v n).missing ≡ Zero
unfolding own
missing-leaf v n e = rw (at-leaf v n e)

pub missing-inner : (v : View) (n : ℕ) → (v.node n).level ≢ 0 → (unfinished_at v n).missing
    ≡ (row_unfinished v n (named v n) (next_child v n)).missing
unfolding own
missing-inner v n z = rw (at-inner v n z)

-- the children of an inner node are those that it names, with each sibling that lacks its slot put in
pub children-of : (v : View) (n : ℕ) → (v.node n).level ≢ 0 → children v n ≡ fill_row v (named v n) (next_child v n)
unfolding children
children-of v n z = rw (ne_eqb (v.node n).level 0 z, children)

-- a node names all its children exactly if those that it names are linked
pub names-linked : (v : View) (n : ℕ) → (v.node n).level ≢ 0 → (children v n ≡ named v n) ↔ (linked v (named v n) (next_child v n) ≡ true)
names-linked v n z = (
  λ e. (fill-whole v (named v n) (next_child v n)).0 (sym (children-of v n z) ∙ e),
  λ l. children-of v n z ∙ (fill-whole v (named v n) (next_child v n)).1 l,
)

-- a node that lacks the slot of a's sibling has that sibling as a child all the same
pub gap-children : (v : View) (p a : ℕ) → (v.node p).level ≢ 0 → (g : Gap v a (named v p) (next_child v p)) → children v p ≡ g.before ++ a
    ∷ (v.node a).sibling ∷ g.after
gap-children v p a z g = children-of v p z ∙ fill-gap v a (named v p) (next_child v p) g

hidden-zero : (v : View) (n : ℕ) → ((unfinished_at v n).hidden ≡ Zero) ↔ ((v.node n).hidden ≡ 0)
hidden-zero v n = rw (at-hidden v n) (times-zero n (v.node n).hidden)

hidden-one : (v : View) (n x : ℕ) → ((unfinished_at v n).hidden ≡ One x) ↔ ((n ≡ x) × ((v.node n).hidden ≡ 1))
hidden-one v n x = rw (at-hidden v n) (times-one n (v.node n).hidden x)

trails-zero : (v : View) (n : ℕ) → ((unfinished_at v n).trailing ≡ Zero) ↔ (kept v n ≡ (v.node n).shown)
trails-zero v n = rw (at-trailing v n) (trailing-zero v n)

trails-one : (v : View) (n x : ℕ) → ((unfinished_at v n).trailing ≡ One x) ↔ ((n ≡ x) × (kept v n ≢ (v.node n).shown))
trails-one v n x = rw (at-trailing v n) (trailing-one v n x)

lacks-nowhere : (v : View) (n : ℕ) → ((unfinished_at v n).missing ≡ Zero) ↔ ((v.node n).level ≢ 0 → children v n ≡ named v n)
lacks-nowhere v n = (
  λ e z. children-of v n z
      ∙ (fill-whole v (named v n) (next_child v n)).1 ((row-nowhere v n (named v n) (next_child v n)).0 (sym (missing-inner v n z) ∙ e)),
  λ h. by-leaf v _ n (λ e. missing-leaf v n e)
      (λ z. missing-inner v n z
      ∙ (row-nowhere v n (named v n) (next_child v n)).1
      ((fill-whole v (named v n) (next_child v n)).0 (sym (children-of v n z) ∙ h z))),
)

lacks-under : (v : View) (n q a : ℕ)
    → ((unfinished_at v n).missing ≡ One (under q a)) ↔ ((n ≡ q) × ((v.node n).level ≢ 0) × Gap v a (named v n) (next_child v n))
lacks-under v n q a = (
  λ e. by-leaf v _ n (λ l.
      (let h : Zero ≡ One (under q a) = sym (missing-leaf v n l) ∙ e in let z : ◌≡◌ {A = ℕ} 0 1 = cc in absurd (omega arith)))
      (λ z. let u = (row-under v n (named v n) (next_child v n) q a).0 (sym (missing-inner v n z) ∙ e) in (u.0, z, u.1)),
  λ u. missing-inner v n u.1 ∙ (row-under v n (named v n) (next_child v n) q a).1 (u.0, u.2),
)

-- nothing is unfinished at node n: no hidden slot, every shown slot is kept, and an inner node names all its children
pub record NothingUnfinished (v : View) (n : ℕ) : Type 0 where
  pub shows : (v.node n).hidden ≡ 0
  pub keeps : kept v n ≡ (v.node n).shown
  pub names : (v.node n).level ≢ 0 → children v n ≡ named v n

pub nothing-iff : (v : View) (n : ℕ) → (unfinished_at v n ≡ finished) ↔ NothingUnfinished v n
nothing-iff v n = (
  λ e. record {
    shows = (hidden-zero v n).0 (ap (λ (u : Unfinished). u.hidden) e);
    keeps = (trails-zero v n).0 (ap (λ (u : Unfinished). u.trailing) e);
    names = (lacks-nowhere v n).0 (ap (λ (u : Unfinished). u.missing) e);
  },
  λ w. same-unfinished (unfinished_at v n) finished ((hidden-zero v n).1 w.shows) ((trails-zero v n).1 w.keeps)
      ((lacks-nowhere v n).1 w.names),
)

-- ---- the whole tree: which reached node has what

-- no reached node hides a slot
abbrev pub NoneHidden : View → Type 0
NoneHidden v = Each (λ (n : ℕ). (v.node n).hidden ≡ 0) (reached v)

-- no reached node shows a slot from its sibling's fence up
abbrev pub NoneTrailing : View → Type 0
NoneTrailing v = Each (λ (n : ℕ). kept v n ≡ (v.node n).shown) (reached v)

-- each reached inner node names all its children
abbrev pub NoneMissing : View → Type 0
NoneMissing v = Each (λ (n : ℕ). (v.node n).level ≢ 0 → children v n ≡ named v n) (reached v)

-- x has one hidden slot, and no other node has one
abbrev pub HiddenOnly : View → ℕ → Type 0
HiddenOnly v x = OnlyAt x (reached v) ((v.node x).hidden ≡ 1) (λ (n : ℕ). (v.node n).hidden ≡ 0)

-- a shows slots from its sibling's fence up, and no other node does
abbrev pub TrailingOnly : View → ℕ → Type 0
TrailingOnly v a = OnlyAt a (reached v) (kept v a ≢ (v.node a).shown) (λ (n : ℕ). kept v n ≡ (v.node n).shown)

-- p lacks the slot of a's sibling, and no other node lacks a slot
abbrev pub MissingOnly : View → ℕ → ℕ → Type 0
MissingOnly v p a = OnlyAt p (reached v) (((v.node p).level ≢ 0) × Gap v a (named v p) (next_child v p))
    (λ (n : ℕ). (v.node n).level ≢ 0 → children v n ≡ named v n)

-- what is unfinished in the tree is just this leftover
abbrev pub Left : View → Leftover → Type 0
Left v nothing = NoneHidden v × NoneTrailing v × NoneMissing v
Left v (hidden_in x) = HiddenOnly v x × NoneTrailing v × NoneMissing v
Left v (missing_in p a false) = NoneHidden v × NoneTrailing v × MissingOnly v p a
Left v (missing_in p a true) = NoneHidden v × TrailingOnly v a × MissingOnly v p a
Left v (both_in p a) = HiddenOnly v p × NoneTrailing v × MissingOnly v p a

none-hidden : (v : View) → ((unfinished v).hidden ≡ Zero) ↔ NoneHidden v
unfolding unfinished
none-hidden v = rw (total-hidden (unfinished_at v) (reached v))
    (Iff.trans (total-none Zero add_few (One 0) (few-atom 0) (λ (n : ℕ). (unfinished_at v n).hidden) (reached v))
    (each-iff _ _ (reached v) (hidden-zero v)))

none-trailing : (v : View) → ((unfinished v).trailing ≡ Zero) ↔ NoneTrailing v
unfolding unfinished
none-trailing v = rw (total-trailing (unfinished_at v) (reached v))
    (Iff.trans (total-none Zero add_few (One 0) (few-atom 0) (λ (n : ℕ). (unfinished_at v n).trailing) (reached v))
    (each-iff _ _ (reached v) (trails-zero v)))

none-missing : (v : View) → ((unfinished v).missing ≡ Zero) ↔ NoneMissing v
unfolding unfinished
none-missing v = rw (total-missing (unfinished_at v) (reached v))
    (Iff.trans (total-none Zero add_few (One (under 0 0)) (few-atom (under 0 0)) (λ (n : ℕ). (unfinished_at v n).missing) (reached v))
    (each-iff _ _ (reached v) (lacks-nowhere v)))

both3 : {A B C A' B' C' : Type 0} → A ↔ A' → B ↔ B' → C ↔ C' → (A × B × C) ↔ (A' × B' × C')
both3 a b c = (λ h. (a.0 h.0, b.0 h.1, c.0 h.2), λ h. (a.1 h.0, b.1 h.1, c.1 h.2))

only-iff : (x : ℕ) (xs : List ℕ) (P P' : Type 0) (Q Q' : ℕ → Type 0) → P ↔ P' → ((n : ℕ) → Q n ↔ Q' n) → OnlyAt x xs P Q ↔ OnlyAt x xs P' Q'
only-iff x xs P P' Q Q' p q = (only-map x xs P P' Q Q' p.0 (λ n. (q n).0), only-map x xs P' P Q' Q p.1 (λ n. (q n).1))

module _ (v : View) (d : distinct (reached v) ≡ true) where
  hidden-only : (x : ℕ) → ((unfinished v).hidden ≡ One x) ↔ HiddenOnly v x
  unfolding unfinished
  hidden-only x =
      let g : ℕ → Few ℕ = λ (n : ℕ). (unfinished_at v n).hidden in
      rw (total-hidden (unfinished_at v) (reached v))
      (Iff.trans (total-only Zero add_few (One x) (few-atom x) g (reached v) x (λ n e. ((hidden-one v n x).0 e).0) d)
      (only-iff x (reached v) _ _ _ _ (λ e. ((hidden-one v x x).0 e).1, λ e. (hidden-one v x x).1 (refl, e)) (hidden-zero v)))

  trailing-only : (a : ℕ) → ((unfinished v).trailing ≡ One a) ↔ TrailingOnly v a
  unfolding unfinished
  trailing-only a =
      let g : ℕ → Few ℕ = λ (n : ℕ). (unfinished_at v n).trailing in
      rw (total-trailing (unfinished_at v) (reached v))
      (Iff.trans (total-only Zero add_few (One a) (few-atom a) g (reached v) a (λ n e. ((trails-one v n a).0 e).0) d)
      (only-iff a (reached v) _ _ _ _ (λ e. ((trails-one v a a).0 e).1, λ e. (trails-one v a a).1 (refl, e)) (trails-zero v)))

  missing-only : (p a : ℕ) → ((unfinished v).missing ≡ One (under p a)) ↔ MissingOnly v p a
  unfolding unfinished
  missing-only p a =
      let g : ℕ → Few MissingSlot = λ (n : ℕ). (unfinished_at v n).missing in
      rw (total-missing (unfinished_at v) (reached v))
      (Iff.trans (total-only Zero add_few (One (under p a)) (few-atom (under p a)) g (reached v) p
      (λ n e. ((lacks-under v n p a).0 e).0) d)
      (only-iff p (reached v) _ _ _ _
      (λ e. (let u = (lacks-under v p p a).0 e in (u.1, u.2)), λ e. (lacks-under v p p a).1 (refl, e.0, e.1)) (lacks-nowhere v)))

  sums-iff : (x : Leftover) → (unfinished v ≡ amount x) ↔ Left v x
  sums-iff x = Iff.trans (fields (unfinished v) (amount x)) (go x)
    where
      fields : (a b : Unfinished) → (a ≡ b) ↔ ((a.hidden ≡ b.hidden) × (a.trailing ≡ b.trailing) × (a.missing ≡ b.missing))
      fields a b = (
        λ e. (ap (λ (y : Unfinished). y.hidden) e, ap (λ (y : Unfinished). y.trailing) e, ap (λ (y : Unfinished). y.missing) e),
        λ h. same-unfinished a b h.0 h.1 h.2,
      )

      go : (x : Leftover) →
          (((unfinished v).hidden ≡ (amount x).hidden) × ((unfinished v).trailing ≡ (amount x).trailing)
          × ((unfinished v).missing ≡ (amount x).missing)) ↔ Left v x
      go nothing = both3 (none-hidden v) (none-trailing v) (none-missing v)
      go (hidden_in x) = both3 (hidden-only x) (none-trailing v) (none-missing v)
      go (missing_in p a false) = both3 (none-hidden v) (none-trailing v) (missing-only p a)
      go (missing_in p a true) = both3 (none-hidden v) (trailing-only a) (missing-only p a)
      go (both_in p a) = both3 (hidden-only p) (none-trailing v) (missing-only p a)

  -- the leftover of a tree is x exactly if its reached nodes have what x says, and nothing else
  pub leftover-iff : (x : Leftover) → (leftover v ≡ some x) ↔ Left v x
  unfolding leftover
  leftover-iff x = Iff.trans (leftover-amount (unfinished v) x) (sums-iff x)

-- ---- settled and sound by their parts

-- an answer passes the test for nothing left exactly if it is the leftover nothing
pub is-nothing : (o : Option Leftover) → (is_nothing o ≡ true) ↔ (o ≡ some nothing)
is-nothing none = (λ e. absurd (false≢true e), λ e. (let z : ◌≡◌ {A = ℕ} 0 1 = cc in absurd (omega arith)))
is-nothing (some nothing) = (λ e. refl, λ e. refl)
is-nothing (some (hidden_in x)) = (λ e. absurd (false≢true e), λ e. (let z : ◌≡◌ {A = ℕ} 0 1 = cc in absurd (omega arith)))
is-nothing (some (missing_in p a b)) = (λ e. absurd (false≢true e), λ e. (let z : ◌≡◌ {A = ℕ} 0 1 = cc in absurd (omega arith)))
is-nothing (some (both_in p a)) = (λ e. absurd (false≢true e), λ e. (let z : ◌≡◌ {A = ℕ} 0 1 = cc in absurd (omega arith)))

-- nothing is left exactly if nothing is unfinished at any reached node
pub nothing-left : (v : View) → (is_nothing (leftover v) ≡ true) ↔ Each (NothingUnfinished v) (reached v)
unfolding leftover unfinished
nothing-left v =
    Iff.trans (is-nothing (leftover v))
    (Iff.trans (leftover-amount (unfinished v) nothing)
    (Iff.trans (total-finished (unfinished_at v) (reached v)) (each-iff _ (NothingUnfinished v) (reached v) (nothing-iff v))))

pub record SettledTree (v : View) : Type 0 where
  pub orderly : Orderly v
  pub nothing-unfinished : Each (NothingUnfinished v) (reached v)

-- a tree passes the test of settled ones exactly if it is orderly and no reached node has anything unfinished
pub settled-iff : (v : View) → (settled_view v ≡ true) ↔ SettledTree v
unfolding settled_view
settled-iff v = (
  λ h. let u = (and-iff (orderly v) (is_nothing (leftover v))).0 h in record
      { orderly = (orderly-iff v).0 u.0; nothing-unfinished = (nothing-left v).0 u.1 },
  λ s. (and-iff (orderly v) (is_nothing (leftover v))).1 ((orderly-iff v).1 s.orderly, (nothing-left v).1 s.nothing-unfinished),
)

pub record SoundTree (v : View) : Type 0 where
  pub orderly : Orderly v
  pub leftover : Leftover
  pub left : Left v leftover
  pub room : has_room v leftover ≡ true

-- an answer is allowed exactly if it is some leftover with room for a lacking slot
pub is-allowed : (v : View) (o : Option Leftover) → (is_allowed v o ≡ true) ↔ ((x : Leftover) × (o ≡ some x) × (has_room v x ≡ true))
is-allowed v none = (λ e. absurd (false≢true e), λ u. (let q = u.1 in let z : ◌≡◌ {A = ℕ} 0 1 = cc in absurd (omega arith)))
is-allowed v (some x) = (λ e. (x, refl, e), λ u. ap (is_allowed v) u.1 ∙ u.2)

-- a tree passes the test of soundness exactly if it is orderly, with some leftover and room for a lacking slot
pub sound-iff : (v : View) → (sound_view v ≡ true) ↔ SoundTree v
unfolding sound_view
sound-iff v = (
  λ h.
      let u = (and-iff (orderly v) (is_allowed v (leftover v))).0 h in
      let o = (orderly-iff v).0 u.0 in
      let a = (is-allowed v (leftover v)).0 u.1 in
      record { orderly = o; leftover = a.0; left = (leftover-iff v o.once a.0).0 a.1; room = a.2 },
  λ s. (and-iff (orderly v) (is_allowed v (leftover v))).1 (
    (orderly-iff v).1 s.orderly,
    (is-allowed v (leftover v)).1 (s.leftover, (leftover-iff v s.orderly.once s.leftover).1 s.left, s.room),
  ),
)

-- a settled tree is sound, with nothing left
pub settled-sound-view : (v : View) → settled_view v ≡ true → sound_view v ≡ true
unfolding settled_view sound_view
settled-sound-view v h =
    let u = (and-iff (orderly v) (is_nothing (leftover v))).0 h in
    (and-iff (orderly v) (is_allowed v (leftover v))).1 (u.0, ap (is_allowed v) ((is-nothing (leftover v)).0 u.1))

-- at a reached node of a settled tree
pub settled-node : (v : View) (n : ℕ) → SettledTree v → Memᴰ n (reached v) → NothingUnfinished v n
settled-node v n s m = each-mem (NothingUnfinished v) s.nothing-unfinished m
