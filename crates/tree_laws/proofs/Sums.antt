-- Sums of what is unfinished: their laws, and which element a sum of one comes from.
use Rattle.std.proofs.Common.{◌≡◌, ℕ, Bool, true, false, eqb, ◌≢◌, ◌⊎◌, ◌↔◌, List, [], ◌∷◌, sym, refl, ap, ◌∙◌, inl, inr, ⊎_elim, arith}
use Rattle.std.proofs.Common.{eq-eqb, eqb-true}
use mathlib.Core.List.Memᴰ
use mathlib.Core.List.{Memᴰ}
use mathlib.Core.Option.{none, some}
use Rattle.model.specs.declared.Few.{Few}
use Rattle.model.specs.declared.Few.TheVariants.{Zero, One, Many}
use Rattle.model.specs.declared.MissingSlot.{MissingSlot}
use Rattle.model.specs.declared.Unfinished.{Unfinished}
use Rattle.model.specs.SoundTest.{distinct, finished, add_few, under, together, total, Leftover, nothing, hidden_in, missing_in, both_in}
use Rattle.model.specs.SoundTest.{leftover_from, leftover_of}
use Rattle.list_laws.proofs.Tools.{Each, Each-map}
use Rattle.list_laws.proofs.Members.{each-mem, each-both, elem-false}
use Rattle.list_laws.proofs.Distinct.{distinct-cons}

-- ---- the sum is commutative and associative, with unit `finished`

few-unit : {A : Type 0} (x : Few A) → add_few x Zero ≡ x
few-unit Zero = refl
few-unit (One x) = refl
few-unit Many = refl

few-assoc : {A : Type 0} (x y z : Few A) → add_few (add_few x y) z ≡ add_few x (add_few y z)
few-assoc Zero y z = refl
few-assoc (One x) Zero z = refl
few-assoc (One x) (One y) Zero = refl
few-assoc (One x) (One y) (One z) = refl
few-assoc (One x) (One y) Many = refl
few-assoc (One x) Many z = refl
few-assoc Many y z = refl

few-comm : {A : Type 0} (x y : Few A) → add_few x y ≡ add_few y x
few-comm Zero y = sym (few-unit y)
few-comm (One x) Zero = refl
few-comm (One x) (One y) = refl
few-comm (One x) Many = refl
few-comm Many Zero = refl
few-comm Many (One y) = refl
few-comm Many Many = refl

pub same-unfinished : (x y : Unfinished) → x.hidden ≡ y.hidden → x.trailing ≡ y.trailing → x.missing ≡ y.missing → x ≡ y
same-unfinished x y a b c = λ i. record { hidden = a i; trailing = b i; missing = c i }

-- unfinished things add up to the same, however they are grouped
pub together-assoc : (x y z : Unfinished) → together (together x y) z ≡ together x (together y z)
together-assoc x y z =
    same-unfinished _ _ (few-assoc x.hidden y.hidden z.hidden) (few-assoc x.trailing y.trailing z.trailing)
    (few-assoc x.missing y.missing z.missing)

-- unfinished things add up to the same in either order
pub together-comm : (x y : Unfinished) → together x y ≡ together y x
together-comm x y = same-unfinished _ _ (few-comm x.hidden y.hidden) (few-comm x.trailing y.trailing) (few-comm x.missing y.missing)

-- ---- the fields of a sum are sums of the fields

module _ {A : Type 0} (g : A → Unfinished) where
  pub total-hidden : (xs : List A) → (total finished together g xs).hidden ≡ total Zero add_few (λ (x : A). (g x).hidden) xs
  total-hidden [] = refl
  total-hidden (x ∷ xs) = ap (add_few (g x).hidden) (total-hidden xs)

  pub total-trailing : (xs : List A) → (total finished together g xs).trailing ≡ total Zero add_few (λ (x : A). (g x).trailing) xs
  total-trailing [] = refl
  total-trailing (x ∷ xs) = ap (add_few (g x).trailing) (total-trailing xs)

  pub total-missing : (xs : List A) → (total finished together g xs).missing ≡ total Zero add_few (λ (x : A). (g x).missing) xs
  total-missing [] = refl
  total-missing (x ∷ xs) = ap (add_few (g x).missing) (total-missing xs)

-- ---- sums of nothing, and of one

-- z is a sum only of z's, and u only of one u and z's
pub record Atom {M : Type 0} (z : M) (op : M → M → M) (u : M) : Type 0 where
  pub unit-l : (a : M) → op z a ≡ a
  pub unit-r : op u z ≡ u
  pub apart : u ≢ z
  pub none : (a b : M) → op a b ≡ z → (a ≡ z) × (b ≡ z)
  pub one : (a b : M) → op a b ≡ u → ((a ≡ u) × (b ≡ z)) ⊎ ((a ≡ z) × (b ≡ u))

few-none : {A : Type 0} (a b : Few A) → add_few a b ≡ Zero → (a ≡ Zero) × (b ≡ Zero)
few-none Zero b e = (refl, e)
few-none (One x) Zero e = (e, refl)
few-none (One x) (One y) e = let q : ◌≡◌ {A = ℕ} 0 1 = cc in absurd (omega arith)
few-none (One x) Many e = let q : ◌≡◌ {A = ℕ} 0 1 = cc in absurd (omega arith)
few-none Many b e = let q : ◌≡◌ {A = ℕ} 0 1 = cc in absurd (omega arith)

few-one : {A : Type 0} (x : A) (a b : Few A) → add_few a b ≡ One x → ((a ≡ One x) × (b ≡ Zero)) ⊎ ((a ≡ Zero) × (b ≡ One x))
few-one x Zero b e = inr (refl, e)
few-one x (One y) Zero e = inl (e, refl)
few-one x (One y) (One w) e = let q : ◌≡◌ {A = ℕ} 0 1 = cc in absurd (omega arith)
few-one x (One y) Many e = let q : ◌≡◌ {A = ℕ} 0 1 = cc in absurd (omega arith)
few-one x Many b e = let q : ◌≡◌ {A = ℕ} 0 1 = cc in absurd (omega arith)

pub few-atom : {A : Type 0} (x : A) → Atom Zero add_few (One x)
few-atom x = record {
  unit-l = λ a. refl;
  unit-r = refl;
  apart = λ e. (let q : ◌≡◌ {A = ℕ} 0 1 = cc in omega arith);
  none = few-none;
  one = few-one x;
}

-- x is a member of the list, of which P holds; Q holds of every other member
pub record OnlyAt (x : ℕ) (xs : List ℕ) (P : Type 0) (Q : ℕ → Type 0) : Type 0 where
  pub member : Memᴰ x xs
  pub here : P
  pub others : Each (λ (n : ℕ). n ≢ x → Q n) xs

pub only-map : (x : ℕ) (xs : List ℕ) (P P' : Type 0) (Q Q' : ℕ → Type 0) → (P → P') → ((n : ℕ) → Q n → Q' n)
    → OnlyAt x xs P Q → OnlyAt x xs P' Q'
only-map x xs P P' Q Q' f g o =
    record {
      member = o.member;
      here = f o.here;
      others = Each-map (λ (n : ℕ). n ≢ x → Q n) (λ (n : ℕ). n ≢ x → Q' n) xs (λ n h z. g n (h z)) o.others;
    }

-- what holds of the others in a list holds of each member but x
pub only-other : (x : ℕ) (xs : List ℕ) (P : Type 0) (Q : ℕ → Type 0) → OnlyAt x xs P Q → (n : ℕ) → Memᴰ n xs → n ≢ x → Q n
only-other x xs P Q o n m = each-mem (λ (n : ℕ). n ≢ x → Q n) o.others m

-- g is u at x, and z at every other member
abbrev pub Only : {M : Type 0} → M → M → (ℕ → M) → List ℕ → ℕ → Type 0
Only z u g xs x = OnlyAt x xs (g x ≡ u) (λ (n : ℕ). g n ≡ z)

module _ {M : Type 0} (z : M) (op : M → M → M) (u : M) (at : Atom z op u) (g : ℕ → M) where
  pub total-none : (xs : List ℕ) → (total z op g xs ≡ z) ↔ Each (λ (n : ℕ). g n ≡ z) xs
  total-none [] = (λ e. tt, λ h. refl)
  total-none (x ∷ xs) = (
    λ e. let w = at.none (g x) (total z op g xs) e in (w.0, (total-none xs).0 w.1),
    λ h. ap (λ (a : M). op a (total z op g xs)) h.0 ∙ at.unit-l (total z op g xs) ∙ (total-none xs).1 h.1,
  )

  pub total-one : (xs : List ℕ) → total z op g xs ≡ u → (x : ℕ) × Only z u g xs x
  total-one [] e = absurd (at.apart (sym e))
  total-one (x ∷ xs) e = ⊎_elim
      (λ w. (
        x,
        record {
          member = Memᴰ.head refl;
          here = w.0;
          others = (
            λ q. absurd (q refl),
            Each-map (λ (n : ℕ). g n ≡ z) (λ (n : ℕ). n ≢ x → g n ≡ z) xs (λ n h q. h) ((total-none xs).0 w.1),
          );
        },
      ))
      (λ w. let i = total-one xs w.1 in (i.0, record { member = Memᴰ.tail i.1.member; here = i.1.here; others = (λ q. w.0, i.1.others) }))
      (at.one (g x) (total z op g xs) e)

  pub one-total : (xs : List ℕ) (x : ℕ) → distinct xs ≡ true → Only z u g xs x → total z op g xs ≡ u
  one-total [] x d o = absurd (Memᴰ.not-nil o.member)
  one-total (y ∷ ys) x d o =
      let w = (distinct-cons y ys).0 d in
      let no = (elem-false y ys).0 w.0 in
      ⊎_elim
      (λ e.
      let h : Each (λ (n : ℕ). g n ≡ z) ys =
      Each-map (λ (n : ℕ). (n ≢ y) × (n ≢ x → g n ≡ z)) (λ (n : ℕ). g n ≡ z) ys (λ n a. a.1 (λ q. a.0 (q ∙ e)))
      (each-both (λ (n : ℕ). n ≢ y) (λ (n : ℕ). n ≢ x → g n ≡ z) ys no o.others.1) in
      ap (λ (a : M). op a (total z op g ys)) (ap g (sym e) ∙ o.here) ∙ ap (op u) ((total-none ys).1 h) ∙ at.unit-r)
      (λ t.
      let q : g y ≡ z = o.others.0 (λ e. each-mem (λ (n : ℕ). n ≢ y) no t (sym e)) in
      ap (λ (a : M). op a (total z op g ys)) q ∙ at.unit-l (total z op g ys)
      ∙ one-total ys x w.1 (record { member = t; here = o.here; others = o.others.1 }))
      (Memᴰ.cases_cons o.member)

  -- where only x can give u
  pub total-only : (xs : List ℕ) (x : ℕ) → ((n : ℕ) → g n ≡ u → n ≡ x) → distinct xs ≡ true → (total z op g xs ≡ u) ↔ Only z u g xs x
  total-only xs x tells d = (λ e. (let o = total-one xs e in rw (tells o.0 o.1.here) at o.1), one-total xs x d)

-- a sum is finished exactly if each part is
finished-fields : (x : Unfinished) → (x ≡ finished) ↔ ((x.hidden ≡ Zero) × (x.trailing ≡ Zero) × (x.missing ≡ Zero))
finished-fields x = (
  λ e.
      (ap (λ (y : Unfinished). y.hidden) e, ap (λ (y : Unfinished). y.trailing) e, ap (λ (y : Unfinished). y.missing) e),
  λ h. same-unfinished x finished h.0 h.1 h.2,
)

pub total-finished {ℓ} :
    {A : Type ℓ} (g : A → Unfinished) (xs : List A) → (total finished together g xs ≡ finished) ↔ Each (λ (x : A). g x ≡ finished) xs
total-finished g [] = (λ e. tt, λ h. refl)
total-finished g (x ∷ xs) = (
  λ e.
      let u = (finished-fields (together (g x) (total finished together g xs))).0 e in
      let a = few-none (g x).hidden _ u.0 in
      let b = few-none (g x).trailing _ u.1 in
      let c = few-none (g x).missing _ u.2 in (
        (finished-fields (g x)).1 (a.0, b.0, c.0),
        (total-finished g xs).0 ((finished-fields (total finished together g xs)).1 (a.1, b.1, c.1)),
      ),
  λ h. ap (λ (y : Unfinished). together y (total finished together g xs)) h.0 ∙ (total-finished g xs).1 h.1,
)

-- ---- the sum that each leftover is

abbrev pub amount : Leftover → Unfinished
amount nothing = finished
amount (hidden_in x) = record { hidden = One x; trailing = Zero; missing = Zero }
amount (missing_in p a false) = record { hidden = Zero; trailing = Zero; missing = One (under p a) }
amount (missing_in p a true) = record { hidden = Zero; trailing = One a; missing = One (under p a) }
amount (both_in p a) = record { hidden = One p; trailing = Zero; missing = One (under p a) }

-- equal answers that are some leftover are the same leftover
pub some-same : (a b : Leftover) → some a ≡ some b → a ≡ b
some-same a b e = cc

some-none : (a : Leftover) → none ≡ some a → ⊥
some-none a e = let q : ◌≡◌ {A = ℕ} 0 1 = cc in omega arith

amount-of : (f g : Few ℕ) (m : Few MissingSlot) (x : Leftover) → leftover_from f g m ≡ some x
    → record { hidden = f; trailing = g; missing = m } ≡ amount x
amount-of Zero Zero Zero x e = ap amount (some-same _ x e)
amount-of Zero Zero (One m) x e = ap amount (some-same _ x e)
amount-of Zero Zero Many x e = absurd (some-none x e)
amount-of Zero (One y) Zero x e = absurd (some-none x e)
amount-of Zero (One y) (One m) x e = go (eqb y m.node) refl
  where
    go : (b : Bool) → eqb y m.node ≡ b → record { hidden = Zero; trailing = One y; missing = One m } ≡ amount x
    go true c = let h : some (missing_in m.parent m.node true) ≡ some x =
        rw c at e in rw (eqb-true y m.node c) (ap amount (some-same _ x h))
    go false c = absurd (some-none x (rw c at e))
amount-of Zero (One y) Many x e = absurd (some-none x e)
amount-of Zero Many m x e = absurd (some-none x e)
amount-of (One q) Zero Zero x e = ap amount (some-same _ x e)
amount-of (One q) Zero (One m) x e = go (eqb q m.parent) refl
  where
    go : (b : Bool) → eqb q m.parent ≡ b → record { hidden = One q; trailing = Zero; missing = One m } ≡ amount x
    go true c = let h : some (both_in m.parent m.node) ≡ some x = rw c at e in rw (eqb-true q m.parent c) (ap amount (some-same _ x h))
    go false c = absurd (some-none x (rw c at e))
amount-of (One q) Zero Many x e = absurd (some-none x e)
amount-of (One q) (One y) m x e = absurd (some-none x e)
amount-of (One q) Many m x e = absurd (some-none x e)
amount-of Many g m x e = absurd (some-none x e)

of-amount : (x : Leftover) → leftover_of (amount x) ≡ some x
unfolding leftover_of
of-amount nothing = refl
of-amount (hidden_in x) = refl
of-amount (missing_in p a false) = refl
of-amount (missing_in p a true) = rw (eq-eqb a a refl)
of-amount (both_in p a) = rw (eq-eqb p p refl)

pub leftover-amount : (u : Unfinished) (x : Leftover) → (leftover_of u ≡ some x) ↔ (u ≡ amount x)
unfolding leftover_of
leftover-amount u x = (λ e. amount-of u.hidden u.trailing u.missing x e, λ e. ap leftover_of e ∙ of-amount x)
